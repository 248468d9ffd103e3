-- The notices of servers keep the order of the phases.
use Rattle.std.proofs.Common.{◌≡◌, ◌≢◌, ℕ, inl, inr, ⊎_elim, List, set, slice_get, Some, Bool, sym, refl, ◌∙◌, arith}
use Rattle.std.proofs.lemmas.Bool.{cases_lt}
use Rattle.mako_shape.specs.declared.numbers.Numbers.{Numbers}
use Rattle.mako_shape.specs.Places.{notice, leaving, index, Within}
use Rattle.mako_phases.proofs.Frames.{written}
use Rattle.mako_phases.specs.Facets.{Part, idle, pausing, rooting, tracing, choosing, evacuating, stopped, resting}
use Rattle.mako_phases.specs.Facets.{freeing, PhaseFacet, mutating, serving, collecting, cycle_during}
use Rattle.mako_phases.specs.Orders.{MayTell, ServerFits, ServerStands, SeatStands, PhaseOrder, AreDrained}
use Rattle.mako_phases.proofs.Frames.{agree_else, IsLeaving, at_within, stays, seat_moves}
use Rattle.mako_phases.proofs.Writes.{write_notice}
use Rattle.mako_phases.proofs.Seats.{other_server}

-- the cycle of a server that frees is the present one, which it has not ended
free_cycle : (part : Part) (s d ended : ℕ) → ServerFits part s (freeing d) ended
    → (d ≡ cycle_during part) × (ended ≢ cycle_during part)
free_cycle (idle c) s d ended fits = absurd fits.0
free_cycle (pausing c) s d ended fits = absurd fits.0
free_cycle (rooting c k) s d ended fits = absurd fits.0
free_cycle (tracing c) s d ended fits = absurd fits.0
free_cycle (choosing c left) s d ended fits = absurd fits.0
free_cycle (stopped c) s d ended fits = absurd fits.0
free_cycle (evacuating c k) s d ended fits = (fits.0.0, λ e. let h = fits.0.1 in omega arith)

-- it may tell that it has ended the cycle
free_tells : (part : Part) (s d ended : ℕ) → ServerFits part s (freeing d) ended → MayTell part s
free_tells (idle c) s d ended fits = absurd fits.0
free_tells (pausing c) s d ended fits = absurd fits.0
free_tells (rooting c k) s d ended fits = absurd fits.0
free_tells (tracing c) s d ended fits = absurd fits.0
free_tells (choosing c left) s d ended fits = absurd fits.0
free_tells (stopped c) s d ended fits = absurd fits.0
free_tells (evacuating c k) s d ended fits =
    ⊎_elim (λ l. let e = fits.1 l in let h = fits.0.1 in absurd (omega arith)) (λ l. l) (cases_lt s k)

-- and is then at its turn
free_ends : (part : Part) (s d ended : ℕ) → ServerFits part s (freeing d) ended → ServerFits part s resting d
free_ends (idle c) s d ended fits = absurd fits.0
free_ends (pausing c) s d ended fits = absurd fits.0
free_ends (rooting c k) s d ended fits = absurd fits.0
free_ends (tracing c) s d ended fits = absurd fits.0
free_ends (choosing c left) s d ended fits = absurd fits.0
free_ends (stopped c) s d ended fits = absurd fits.0
free_ends (evacuating c k) s d ended fits = (inl fits.0.0, λ l. fits.0.0)

module _ (n : Numbers) (words : List ℕ) (facets : List PhaseFacet) (o : PhaseOrder n words facets) where
  -- a notice slot gets another word than that of the end of the cycle
  pub notes : (s slot v : ℕ) → Within n (notice s slot) → v ≢ 1
      → PhaseOrder n (set words (index n (notice s slot)) v) facets
  notes s slot v within not =
      stays n words facets o (set words (index n (notice s slot)) v)
      (write_notice n words o.part o.pending o.words_stand s slot v within (λ is. absurd (not is))
      (λ is. absurd (not is)))
      (λ other f at. others f other at)
    where
      others : (f : PhaseFacet) (other : ℕ) → slice_get facets other ≡ Some f
          → SeatStands n (set words (index n (notice s slot)) v) o.part f
      others (mutating admission) other at = o.each other (mutating admission) at
      others (collecting part pending) other at = tt
      others (serving u stage last b) other at =
          let su : ServerStands n words o.part u stage last b = o.each other (serving u stage last b) at in record {
            known = su.known;
            fits = su.fits;
            rests = su.rests;
            own = su.own;
            passed =
                λ k in_k own has. agree_else n IsLeaving words (notice s slot) v within (λ x. x) (leaving k) tt in_k
                ∙ su.passed k in_k own has;
            at_leaving =
                λ k is none. su.at_leaving k is
                (sym (agree_else n IsLeaving words (notice s slot) v within (λ x. x) (leaving k) tt
                (at_within n u stage su.own k is)) ∙ none);
            told = λ k in_k e.
                ⊎_elim (λ c. absurd (not (sym c.1 ∙ e))) (λ c. su.told k in_k (sym c.1 ∙ e))
                (written n words (notice s slot) v o.words_stand.size within (notice u k) in_k);
          }

  -- a server tells that it has ended the cycle
  pub ends : (seat s d ended slot : ℕ) (laden : Bool) → AreDrained facets
      → slice_get facets seat ≡ Some (serving s (freeing d) ended laden) → Within n (notice s slot)
      → PhaseOrder n (set words (index n (notice s slot)) 1) (set facets seat (serving s resting d laden))
  ends seat s d ended slot laden drained here within =
      let st : ServerStands n words o.part s (freeing d) ended laden =
      o.each seat (serving s (freeing d) ended laden) here in
      let cycle = free_cycle o.part s d ended st.fits in
      seat_moves n words facets o (set words (index n (notice s slot)) 1) seat (serving s (freeing d) ended laden)
      (serving s resting d laden) here refl tt
      (write_notice n words o.part o.pending o.words_stand s slot 1 within (λ is. free_tells o.part s d ended st.fits)
      (λ is other in_o e. absurd (cycle.1 (st.told other in_o e))))
      (λ other f ne at. others f other ne at)
      (record {
        known = st.known;
        fits = free_ends o.part s d ended st.fits;
        rests = st.rests;
        own = tt;
        passed =
            λ k in_k own has. agree_else n IsLeaving words (notice s slot) 1 within (λ x. x) (leaving k) tt in_k
            ∙ st.passed k in_k own (inr tt);
        at_leaving = λ k is. absurd is;
        told = λ k in_k e. cycle.0;
      })
    where
      others : (f : PhaseFacet) (other : ℕ) → other ≢ seat → slice_get facets other ≡ Some f
          → SeatStands n (set words (index n (notice s slot)) 1) o.part f
      others (mutating admission) other ne at = o.each other (mutating admission) at
      others (collecting part pending) other ne at = tt
      others (serving u stage last b) other ne at =
          let su : ServerStands n words o.part u stage last b = o.each other (serving u stage last b) at in
          let diff : u ≢ s =
          other_server n words facets o drained seat s (freeing d) ended laden here other u stage last b ne at in
          record {
            known = su.known;
            fits = su.fits;
            rests = su.rests;
            own = su.own;
            passed =
                λ k in_k own has. agree_else n IsLeaving words (notice s slot) 1 within (λ x. x) (leaving k) tt in_k
                ∙ su.passed k in_k own has;
            at_leaving =
                λ k is none. su.at_leaving k is
                (sym (agree_else n IsLeaving words (notice s slot) 1 within (λ x. x) (leaving k) tt
                (at_within n u stage su.own k is)) ∙ none);
            told = λ k in_k e.
                ⊎_elim (λ c. absurd (diff (server_is c.0))) (λ c. su.told k in_k (sym c.1 ∙ e))
                (written n words (notice s slot) 1 o.words_stand.size within (notice u k) in_k);
          }
        where
          server_is : {k : ℕ} → notice u k ≡ notice s slot → u ≡ s
          server_is e = cc
