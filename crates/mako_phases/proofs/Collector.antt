-- The steps of the collector keep the order of the phases.
use Rattle.std.proofs.Common.{◌≡◌, ℕ, ◌+◌, ◌*◌, ◌/◌, ◌%◌, ◌<◌, ◌≤◌, ◌⊎◌, inl, inr, ⊎_elim, List, [], ◌∷◌, ◌++◌}
use Rattle.std.proofs.Common.{Contains, set, slice_get, Some, Bool, false, sym, ap, subst, refl, ◌∙◌, arith, add-one}
use Rattle.std.proofs.lemmas.Bool.{cases_lt}
use Rattle.std.proofs.lemmas.List.Elements.{Contains-push, Contains-append_left, Contains-append_right}
use Rattle.mako_words.specs.declared.name.Name.{Name}
use Rattle.mako_words.specs.declared.phase_word.PhaseWord.TheVariants.{Idle, Trace, Evac, Stop}
use Rattle.mako_words.specs.Phases.{phase_word}
use Rattle.mako_words.specs.Values.{value_at}
use Rattle.mako_shape.specs.declared.numbers.Numbers.{Numbers}
use Rattle.mako_shape.specs.Places.{Place, phase, demand, root, notice, leaving, index, Within, word_at}
use Rattle.mako_shape.specs.Belongings.{server_of_tablet}
use Rattle.mako_shape.proofs.PlaceLaws.{word_same}
use Rattle.mako_shape.proofs.Rows.{div-below}
use Rattle.mako_phases.proofs.Frames.{written}
use Rattle.mako_phases.specs.Facets.{Part, idle, pausing, rooting, tracing, choosing, evacuating, stopped, ServerStage}
use Rattle.mako_phases.specs.Facets.{resting, Admission, PhaseFacet, mutating, serving, collecting, role_of, mutator}
use Rattle.mako_phases.specs.Facets.{server, collector, phase_during, cycle_during, IsRestful, IsInPause, IsNotAdmitted}
use Rattle.mako_names.specs.Uses.{IsUseSlot}
use Rattle.mako_phases.specs.Orders.{BoundFits, names_in, loaded_names, PendingFits, MayLeave, MayTell, WordsStand}
use Rattle.mako_phases.specs.Orders.{IsResting, IsParting, ServerStands, SeatStands, PhaseOrder, AreDrained}
use Rattle.mako_phases.proofs.Frames.{get_unmap, agree_else, IsDemand, IsNotice, IsLeaving, IsEntry, IsServerWord}
use Rattle.mako_phases.proofs.Frames.{asked_on, slots_on, once_on, epochs_on, at_within, server_on, seat_on, the_words}
use Rattle.mako_phases.proofs.Frames.{the_seats, collector_moves}
use Rattle.mako_phases.proofs.Writes.{slot_only, IsRooting, pends_free, size_after, write_slot, write_leaving}
use Rattle.mako_phases.proofs.Writes.{write_notice}
use Rattle.mako_phases.proofs.Parts.{server_part}
use Rattle.mako_phases.proofs.PartChanges.{standing_part, outside_part, seat_part, rest_no_pass, rest_no_leaving}
use Rattle.mako_phases.proofs.PartChanges.{rest_traces, trace_no_pass, trace_no_leaving, trace_evacuates, ended_rests}

none_loaded : (n : Numbers) (words : List ℕ) (pending : List Name) → pending ≡ [] → pending ≡ loaded_names n words 0
unfolding loaded_names
none_loaded n words pending e = e

one_more : (n : Numbers) (words : List ℕ) (pending : List Name) (k : ℕ) → pending ≡ loaded_names n words k
    → pending ++ names_in (value_at (word_at n words (root (k / n.roots) (k % n.roots)))) ≡ loaded_names n words (k + 1)
unfolding loaded_names
one_more n words pending k e =
    ap (λ (l : List Name). l ++ names_in (value_at (word_at n words (root (k / n.roots) (k % n.roots))))) e
    ∙ ap (loaded_names n words) (sym (add-one k))

none_or : (x : ℕ) (P : Type 0) → (x ≡ 0) ⊎ ⊥ → (x ≡ 0) ⊎ P
none_or x P h = ⊎_elim (λ e. inl e) (λ none. absurd none) h

module _ (n : Numbers) (words : List ℕ) (facets : List PhaseFacet) (o : PhaseOrder n words facets)
    (drained : AreDrained facets) (seat : ℕ) where
  abbrev At : Part → List Name → Type 0
  At part pending = slice_get facets seat ≡ Some (collecting part pending)

  -- ---- the first pause

  pub begins : (c : ℕ) (pending : List Name) → At (idle c) pending → c < word_at n words demand
      → PhaseOrder n words (set facets seat (collecting (pausing c) pending))
  begins c pending here asked =
      let w = the_words n words facets o seat (idle c) pending here in
      let top = w.asked in
      collector_moves n words facets o seat (idle c) pending here words (pausing c) pending (record {
        size = w.size;
        phase_is = w.phase_is;
        bound = omega arith;
        asked = w.asked;
        slots = w.slots;
        pends = w.pends;
        leavings = w.leavings;
        tellers = w.tellers;
        tell_once = w.tell_once;
        epochs = w.epochs;
      })
      (λ other f at st. seat_part n words (idle c) (pausing c) f refl ((λ x. x), (λ x. x))
      (λ s stage ended fits. fits) (λ r. r) st)

  pub drains : (c : ℕ) (pending : List Name) → At (pausing c) pending
      → PhaseOrder n words (set facets seat (collecting (rooting c 0) pending))
  drains c pending here =
      let w = the_words n words facets o seat (pausing c) pending here in
      collector_moves n words facets o seat (pausing c) pending here words (rooting c 0) pending (record {
        size = w.size;
        phase_is = w.phase_is;
        bound = (w.bound, omega arith);
        asked = w.asked;
        slots = w.slots;
        pends = none_loaded n words pending w.pends;
        leavings = w.leavings;
        tellers = w.tellers;
        tell_once = w.tell_once;
        epochs = w.epochs;
      })
      (λ other f at st. seat_part n words (pausing c) (rooting c 0) f refl ((λ x. x), (λ x. x))
      (λ s stage ended fits. fits) (λ r. r) st)

  pub loads_root : (c k : ℕ) (pending : List Name) → At (rooting c k) pending → k < n.mutators * n.roots
      → PhaseOrder n words
      (set facets seat
      (collecting (rooting c (k + 1))
      (pending ++ names_in (value_at (word_at n words (root (k / n.roots) (k % n.roots)))))))
  loads_root c k pending here more =
      let w = the_words n words facets o seat (rooting c k) pending here in
      collector_moves n words facets o seat (rooting c k) pending here words (rooting c (k + 1))
      (pending ++ names_in (value_at (word_at n words (root (k / n.roots) (k % n.roots))))) (record {
        size = w.size;
        phase_is = w.phase_is;
        bound = (w.bound.0, omega arith);
        asked = w.asked;
        slots = w.slots;
        pends = one_more n words pending k w.pends;
        leavings = w.leavings;
        tellers = w.tellers;
        tell_once = w.tell_once;
        epochs = w.epochs;
      })
      (λ other f at st. seat_part n words (rooting c k) (rooting c (k + 1)) f refl ((λ x. x), (λ x. x))
      (λ s stage ended fits. fits) (λ r. r) st)

  -- the words after a store of the phase
  phase_stored : (p q : Part) (pending : List Name) → WordsStand n words p pending → BoundFits n q → (¬ IsRooting q)
      → (IsRestful q → IsRestful p) → PendingFits n words q pending
      → ((t : ℕ) → Within n (leaving t) → (word_at n words (leaving t) ≡ 0) ⊎ MayLeave q t)
      → ((s slot : ℕ) → Within n (notice s slot) → word_at n words (notice s slot) ≡ 1 → MayTell q s)
      → cycle_during p ≤ cycle_during q
      → WordsStand n (set words (index n phase) (phase_word (phase_during q))) q pending
  phase_stored p q pending w bound not rests pends leavings tellers later =
      let v : ℕ = phase_word (phase_during q) in
      let after : List ℕ = set words (index n phase) (phase_word (phase_during q)) in
      record {
        size = size_after n words p pending w phase (phase_word (phase_during q));
        phase_is = word_same n words phase (phase_word (phase_during q)) w.size tt;
        bound = bound;
        asked = asked_on n words after p pending w (agree_else n IsDemand words phase v tt (λ x. x));
        slots =
            λ rest. slots_on n words after p pending w (agree_else n IsUseSlot words phase v tt (λ x. x)) (rests rest);
        pends = pends_free n words after q pending not pends;
        leavings =
            λ t within. subst (λ (k : ℕ). (k ≡ 0) ⊎ MayLeave q t)
            (sym (agree_else n IsLeaving words phase v tt (λ x. x) (leaving t) tt within)) (leavings t within);
        tellers =
            λ s slot within e. tellers s slot within
            (sym (agree_else n IsNotice words phase v tt (λ x. x) (notice s slot) tt within) ∙ e);
        tell_once = once_on n words after p pending w (agree_else n IsNotice words phase v tt (λ x. x));
        epochs = λ e within. let h =
            epochs_on n words after p pending w (agree_else n IsEntry words phase v tt (λ x. x)) e within in
            omega arith;
      }

  -- a server's words, after a store of the phase
  phase_server : (q : Part) (s : ℕ) (stage : ServerStage) (ended : ℕ) (laden : Bool)
      → ServerStands n words q s stage ended laden
      → ServerStands n (set words (index n phase) (phase_word (phase_during q))) q s stage ended laden
  phase_server q s stage ended laden st =
      server_on n words (set words (index n phase) (phase_word (phase_during q))) q s stage ended laden
      (agree_else n IsServerWord words phase (phase_word (phase_during q)) tt (λ x. x)) st

  -- no mutator is admitted
  all_outside : (part : Part) (pending : List Name) → At part pending → IsInPause part
      → (other : ℕ) (admission : Admission) → slice_get facets other ≡ Some (mutating admission)
      → IsNotAdmitted admission
  all_outside part pending here is = drained seat part pending here is

  pub snaps : (c k : ℕ) (pending : List Name) → At (rooting c k) pending
      → PhaseOrder n (set words (index n phase) (phase_word (Trace (c + 1))))
      (set facets seat (collecting (tracing (c + 1)) pending))
  snaps c k pending here =
      let w = the_words n words facets o seat (rooting c k) pending here in
      collector_moves n words facets o seat (rooting c k) pending here
      (set words (index n phase) (phase_word (Trace (c + 1)))) (tracing (c + 1)) pending
      (phase_stored (rooting c k) (tracing (c + 1)) pending w w.bound.0 (λ x. x) (λ r. tt) tt w.leavings w.tellers
      (omega arith))
      each
    where
      each : (other : ℕ) (f : PhaseFacet) → slice_get facets other ≡ Some f → SeatStands n words (rooting c k) f
          → SeatStands n (set words (index n phase) (phase_word (Trace (c + 1)))) (tracing (c + 1)) f
      each other (mutating admission) at st =
          outside_part n (rooting c k) (tracing (c + 1)) admission
          (all_outside (rooting c k) pending here tt other admission at) st
      each other (collecting part names) at st = tt
      each other (serving s stage ended laden) at st =
          let w = the_words n words facets o seat (rooting c k) pending here in
          phase_server (tracing (c + 1)) s stage ended laden (record {
            known = st.known;
            fits = (rest_traces stage (c + 1) st.fits.0, ap (λ (e : ℕ). e + 1) st.fits.1);
            rests = λ r. absurd r;
            own = st.own;
            passed =
                λ u within own has.
                ⊎_elim (λ e. let h = st.fits.1 in absurd (omega arith))
                (λ p. absurd (rest_no_pass stage u st.fits.0 p)) has;
            at_leaving = λ u is. absurd (rest_no_leaving stage u st.fits.0 is);
            told = λ slot within e. absurd (w.tellers s slot within e);
          })

  -- ---- tracing

  pub carries : (c : ℕ) (pending next : List Name) (p : Place) (v : ℕ) → At (tracing c) pending → IsUseSlot p
      → Within n p → PhaseOrder n (set words (index n p) v) (set facets seat (collecting (tracing c) next))
  carries c pending next p v here is within =
      let w = the_words n words facets o seat (tracing c) pending here in
      let after = write_slot n words (tracing c) pending w p v within is (λ rest. absurd rest) in
      let only = slot_only p is in
      collector_moves n words facets o seat (tracing c) pending here (set words (index n p) v) (tracing c) next
      (record {
        size = after.size;
        phase_is = after.phase_is;
        bound = after.bound;
        asked = after.asked;
        slots =
            after.slots;
        pends = tt;
        leavings = after.leavings;
        tellers = after.tellers;
        tell_once =
            after.tell_once;
        epochs = after.epochs;
      })
      (λ other f at st. seat_on n words (set words (index n p) v) (tracing c) f
      (agree_else n IsServerWord words p v within only.no_server) st)

  pub told : (c : ℕ) → At (tracing c) [] → ((p : Place) → IsUseSlot p → Within n p → word_at n words p ≡ 0)
      → ((other s : ℕ) (stage : ServerStage) (ended : ℕ) (laden : Bool)
      → slice_get facets other ≡ Some (serving s stage ended laden) → laden ≡ false)
      → PhaseOrder n words (set facets seat (collecting (choosing c []) []))
  told c here slots idle_all =
      let w = the_words n words facets o seat (tracing c) [] here in
      collector_moves n words facets o seat (tracing c) [] here words (choosing c []) [] (record {
        size = w.size;
        phase_is = w.phase_is;
        bound = w.bound;
        asked = w.asked;
        slots = λ rest. slots;
        pends = refl;
        leavings = λ t within. none_or (word_at n words (leaving t)) (Contains [] t) (w.leavings t within);
        tellers = w.tellers;
        tell_once = w.tell_once;
        epochs = w.epochs;
      }) each
    where
      each : (other : ℕ) (f : PhaseFacet) → slice_get facets other ≡ Some f → SeatStands n words (tracing c) f
          → SeatStands n words (choosing c []) f
      each other (mutating admission) at st =
          standing_part n (tracing c) (choosing c []) admission refl ((λ x. x), (λ x. x)) st
      each other (collecting part names) at st = tt
      each other (serving s stage ended laden) at st =
          server_part n words (tracing c) (choosing c []) s stage ended laden refl st st.fits
          (λ r. idle_all other s stage ended laden at)

  -- ---- the choice

  pub chooses : (c : ℕ) (left : List ℕ) (pending : List Name) (t v : ℕ) → At (choosing c left) pending
      → Within n (leaving t)
      → PhaseOrder n (set words (index n (leaving t)) v) (set facets seat (collecting (choosing c (t ∷ left)) pending))
  chooses c left pending t v here within =
      let w = the_words n words facets o seat (choosing c left) pending here in
      let wide : WordsStand n words (choosing c (t ∷ left)) pending = record {
        size = w.size;
        phase_is = w.phase_is;
        bound = w.bound;
        asked = w.asked;
        slots = w.slots;
        pends = w.pends;
        leavings =
            λ u in_u. ⊎_elim (λ e. inl e) (λ m. inr (Contains-append_right (t ∷ []) left u m)) (w.leavings u in_u);
        tellers = w.tellers;
        tell_once = w.tell_once;
        epochs = w.epochs;
      } in
      collector_moves n words facets o seat (choosing c left) pending here (set words (index n (leaving t)) v)
      (choosing c (t ∷ left)) pending
      (write_leaving n words (choosing c (t ∷ left)) pending wide t v within
      (inr (Contains-append_left (t ∷ []) left t (Contains-push [] t))))
      (λ other f at st. each f st)
    where
      each : (f : PhaseFacet) → SeatStands n words (choosing c left) f
          → SeatStands n (set words (index n (leaving t)) v) (choosing c (t ∷ left)) f
      each (mutating admission) st =
          standing_part n (choosing c left) (choosing c (t ∷ left)) admission refl ((λ x. x), (λ x. x)) st
      each (collecting part names) st = tt
      each (serving s stage ended laden) st = record {
        known = st.known;
        fits = st.fits;
        rests = st.rests;
        own = st.own;
        passed =
            λ u in_u own has.
            ⊎_elim (λ e. let h = st.fits.1 in absurd (omega arith))
            (λ p. absurd (trace_no_pass c stage u st.fits.0 p)) has;
        at_leaving = λ u is. absurd (trace_no_leaving c stage u st.fits.0 is);
        told = λ slot in_s e. st.told slot in_s
            (sym (agree_else n IsNotice words (leaving t) v within (λ x. x) (notice s slot) tt in_s) ∙ e);
      }

  pub evacuates : (c : ℕ) (left : List ℕ) (pending : List Name) → At (choosing c left) pending
      → PhaseOrder n (set words (index n phase) (phase_word (Evac c)))
      (set facets seat (collecting (evacuating c 0) pending))
  evacuates c left pending here =
      let w = the_words n words facets o seat (choosing c left) pending here in
      collector_moves n words facets o seat (choosing c left) pending here
      (set words (index n phase) (phase_word (Evac c))) (evacuating c 0) pending
      (phase_stored (choosing c left) (evacuating c 0) pending w w.bound (λ x. x) (λ r. tt) w.pends
      (λ t within. ⊎_elim (λ e. inl e) (λ m. inr tt) (w.leavings t within))
      (λ s slot within e. absurd (w.tellers s slot within e)) (omega arith))
      each
    where
      each : (other : ℕ) (f : PhaseFacet) → slice_get facets other ≡ Some f → SeatStands n words (choosing c left) f
          → SeatStands n (set words (index n phase) (phase_word (Evac c))) (evacuating c 0) f
      each other (mutating admission) at st =
          outside_part n (choosing c left) (evacuating c 0) admission
          (all_outside (choosing c left) pending here tt other admission at) st
      each other (collecting part names) at st = tt
      each other (serving s stage ended laden) at st =
          phase_server (evacuating c 0) s stage ended laden
          (server_part n words (choosing c left) (evacuating c 0) s stage ended laden refl st
          (trace_evacuates c ended stage st.fits.0 st.fits.1, (λ l. absurd (omega arith))) st.rests)

  -- ---- the end of a cycle

  pub hears : (c k slot : ℕ) (pending : List Name) → At (evacuating c k) pending → Within n (notice k slot)
      → word_at n words (notice k slot) ≡ 1
      → PhaseOrder n (set words (index n (notice k slot)) 0)
      (set facets seat (collecting (evacuating c (k + 1)) pending))
  hears c k slot pending here within is =
      let w = the_words n words facets o seat (evacuating c k) pending here in
      let after =
      write_notice n words (evacuating c k) pending w k slot 0 within (λ e. absurd (no_one e))
      (λ e. absurd (no_one e)) in
      collector_moves n words facets o seat (evacuating c k) pending here (set words (index n (notice k slot)) 0)
      (evacuating c (k + 1)) pending (record {
        size = after.size;
        phase_is = after.phase_is;
        bound = after.bound;
        asked = after.asked;
        slots = after.slots;
        pends = after.pends;
        leavings = after.leavings;
        tellers = λ s j in_j e. ⊎_elim (λ c. absurd (no_one (sym c.1 ∙ e)))
            (λ d. let low = w.tellers s j in_j (sym d.1 ∙ e) in
            ⊎_elim (λ l. omega arith)
            (λ l. let same : s ≡ k = omega arith in absurd (d.0 (one_notice s j same in_j (sym d.1 ∙ e))))
            (cases_lt k s))
            (written n words (notice k slot) 0 w.size within (notice s j) in_j);
        tell_once = after.tell_once;
        epochs = after.epochs;
      }) (λ other f at st. each f st)
    where
      no_one : ◌≡◌ {A = ℕ} 0 1 → ⊥
      no_one e = omega arith

      one_notice : (s j : ℕ) → s ≡ k → Within n (notice s j) → word_at n words (notice s j) ≡ 1
          → notice s j ≡ notice k slot
      one_notice s j same in_j e =
          let w = the_words n words facets o seat (evacuating c k) pending here in
          let slots : j ≡ slot =
          w.tell_once k j slot (subst (λ (x : ℕ). Within n (notice x j)) same in_j) within
          (subst (λ (x : ℕ). word_at n words (notice x j) ≡ 1) same e) is in
          λ i. notice (same i) (slots i)

      each : (f : PhaseFacet) → SeatStands n words (evacuating c k) f
          → SeatStands n (set words (index n (notice k slot)) 0) (evacuating c (k + 1)) f
      each (mutating admission) st =
          standing_part n (evacuating c k) (evacuating c (k + 1)) admission refl ((λ x. x), (λ x. x)) st
      each (collecting part names) st = tt
      each (serving s stage ended laden) st =
          let w = the_words n words facets o seat (evacuating c k) pending here in record {
            known = st.known;
            fits = (
              st.fits.0,
              (λ l. ⊎_elim (λ below. st.fits.1 below)
                  (λ high. let same : k ≡ s = omega arith in
                  st.told slot (subst (λ (x : ℕ). Within n (notice x slot)) same within)
                  (subst (λ (x : ℕ). word_at n words (notice x slot) ≡ 1) same is)) (cases_lt s k)),
            );
            rests = st.rests;
            own = st.own;
            passed =
                λ u in_u own has. agree_else n IsLeaving words (notice k slot) 0 within (λ x. x) (leaving u) tt in_u
                ∙ st.passed u in_u own has;
            at_leaving =
                λ u at none. st.at_leaving u at
                (sym (agree_else n IsLeaving words (notice k slot) 0 within (λ x. x) (leaving u) tt
                (at_within n s stage st.own u at)) ∙ none);
            told = λ j in_j e.
                ⊎_elim (λ d. absurd (no_one (sym d.1 ∙ e))) (λ d. st.told j in_j (sym d.1 ∙ e))
                (written n words (notice k slot) 0 w.size within (notice s j) in_j);
          }

  pub finishes : (c : ℕ) (pending : List Name) → At (evacuating c n.servers) pending
      → PhaseOrder n (set words (index n phase) (phase_word (Idle c))) (set facets seat (collecting (idle c) pending))
  finishes c pending here =
      let w = the_words n words facets o seat (evacuating c n.servers) pending here in
      collector_moves n words facets o seat (evacuating c n.servers) pending here
      (set words (index n phase) (phase_word (Idle c))) (idle c) pending
      (phase_stored (evacuating c n.servers) (idle c) pending w w.bound (λ x. x) (λ r. tt) w.pends
      (λ t within. inl (all_cleared t within))
      (λ s slot within e. let l = w.tellers s slot within e in let below = within.0 in absurd (omega arith))
      (omega arith))
      (λ other f at st. each f st)
    where
      all_cleared : (t : ℕ) → Within n (leaving t) → word_at n words (leaving t) ≡ 0
      all_cleared t within =
          let s_in : server_of_tablet n t < n.servers = div-below t n.tablets n.servers within in
          let there = o.seated.present (server_of_tablet n t) s_in in
          let is = get_unmap role_of facets there.0 (server (server_of_tablet n t)) there.1 in
          by_facet t within is.0
          (the_seats n words facets o seat (evacuating c n.servers) pending here there.0 is.0 is.1.0) is.1.1
        where
          by_facet : (t : ℕ) → Within n (leaving t) → (f : PhaseFacet) → SeatStands n words (evacuating c n.servers) f
              → role_of f ≡ server (server_of_tablet n t) → word_at n words (leaving t) ≡ 0
          by_facet t within (mutating admission) st e = absurd (no_server e)
            where
              no_server : {k : ℕ} → mutator ≡ server k → ⊥
              no_server e = cc
          by_facet t within (collecting part names) st e = absurd (no_server e)
            where
              no_server : {k : ℕ} → collector ≡ server k → ⊥
              no_server e = cc
          by_facet t within (serving s stage ended laden) st e =
              let same : s ≡ server_of_tablet n t = cc (e) in
              st.passed t within (sym same) (inl (st.fits.1 st.known))

      each : (f : PhaseFacet) → SeatStands n words (evacuating c n.servers) f
          → SeatStands n (set words (index n phase) (phase_word (Idle c))) (idle c) f
      each (mutating admission) st =
          standing_part n (evacuating c n.servers) (idle c) admission refl ((λ x. x), (λ x. x)) st
      each (collecting part names) st = tt
      each (serving s stage ended laden) st =
          let done = st.fits.1 st.known in
          phase_server (idle c) s stage ended laden
          (server_part n words (evacuating c n.servers) (idle c) s stage ended laden refl st
          (ended_rests c ended stage st.fits.0 done, done) st.rests)

  pub stops : (c : ℕ) (pending : List Name) → At (idle c) pending
      → PhaseOrder n (set words (index n phase) (phase_word (Stop c)))
      (set facets seat (collecting (stopped c) pending))
  stops c pending here =
      let w = the_words n words facets o seat (idle c) pending here in
      collector_moves n words facets o seat (idle c) pending here (set words (index n phase) (phase_word (Stop c)))
      (stopped c) pending
      (phase_stored (idle c) (stopped c) pending w w.bound (λ x. x) (λ r. tt) w.pends w.leavings w.tellers
      (omega arith))
      (λ other f at st. each f st)
    where
      rest_parts : (stage : ServerStage) → IsResting stage → IsParting stage
      rest_parts resting is = tt
      rest_parts stage is = absurd is

      each : (f : PhaseFacet) → SeatStands n words (idle c) f
          → SeatStands n (set words (index n phase) (phase_word (Stop c))) (stopped c) f
      each (mutating admission) st = standing_part n (idle c) (stopped c) admission refl ((λ x. x), (λ x. x)) st
      each (collecting part names) st = tt
      each (serving s stage ended laden) st =
          phase_server (stopped c) s stage ended laden
          (server_part n words (idle c) (stopped c) s stage ended laden refl st
          (rest_parts stage st.fits.0, st.fits.1) st.rests)
