-- The steps of mutators and servers keep the order of the phases.
use Rattle.std.proofs.Common.{◌≡◌, ◌≢◌, ℕ, ◌+◌, ◌≤◌, inl, inr, ⊎_elim, List, map, set, slice_get, Option, Some, None}
use Rattle.std.proofs.Common.{Bool, true, false, max, sym, ap, subst, refl, ◌∙◌, arith}
use Rattle.std.proofs.lemmas.Bool.{cases_lt}
use Rattle.std.proofs.Math.Nat.{max-le}
use Rattle.mako_words.specs.declared.phase_word.PhaseWord.{PhaseWord}
use Rattle.mako_words.specs.declared.phase_word.PhaseWord.TheVariants.{Trace}
use Rattle.mako_words.specs.Entries.{entry_at}
use Rattle.mako_words.specs.Phases.{phase_at, cycle_of}
use Rattle.mako_shape.specs.declared.numbers.Numbers.{Numbers}
use Rattle.mako_shape.specs.Places.{Place, phase, demand, root, barrier, notice, leaving, entry, index, Within, word_at}
use Rattle.mako_shape.specs.Belongings.{server_of_tablet}
use Rattle.mako_names.specs.Tables.{entry_of}
use Rattle.mako_phases.proofs.Frames.{written}
use Rattle.mako_phases.specs.Facets.{Part, rooting, looking, found, shut, cleared, ServerStage, resting, working}
use Rattle.mako_phases.specs.Facets.{clearing, outside, asking, inside, PhaseFacet, mutating, serving, collecting}
use Rattle.mako_phases.specs.Facets.{role_of, server, phase_during, cycle_during, IsRestful, IsInPause}
use Rattle.mako_names.specs.Uses.{IsUseSlot}
use Rattle.mako_phases.specs.Orders.{KeptFits, ServerStands, SeatStands, PhaseOrder, AreDrained}
use Rattle.mako_phases.specs.Steps.{IsPhaseWord, next_tablet, stage_turned}
use Rattle.mako_phases.proofs.Frames.{get_map, agree_else, IsServerWord, IsNotice, IsOther, at_within, at_own, seat_on}
use Rattle.mako_phases.proofs.Frames.{server_on, SeatsStand, stays, seat_moves}
use Rattle.mako_phases.proofs.Writes.{slot_only, unseen_server, IsRooting, write_unseen, write_slot, write_demand}
use Rattle.mako_phases.proofs.Writes.{write_root, write_entry, write_leaving}
use Rattle.mako_phases.proofs.Parts.{tablets_some, bound_cycle, phase_found, goes_on, turn_stands, back_stands}
use Rattle.mako_phases.proofs.Parts.{work_cycle, clear_fits, free_fits, shading_part}

no_true : true ≡ false → ⊥
no_true e = cc

rooting_drained : (part : Part) → IsRooting part → IsInPause part
rooting_drained (rooting c k) is = tt
rooting_drained part is = absurd is

module _ (n : Numbers) (words : List ℕ) (facets : List PhaseFacet) (o : PhaseOrder n words facets)
    (drained : AreDrained facets) where
  -- the other seats, after a write that servers do not read
  others_on : (p : Place) (v : ℕ) → Within n p → (¬ IsServerWord p)
      → SeatsStand n (set words (index n p) v) facets o.part
  others_on p v within un other f at =
      seat_on n words (set words (index n p) v) o.part f (agree_else n IsServerWord words p v within un)
      (o.each other f at)

  -- an admitted mutator shows that the gates are not all drained
  pub not_drained : (seat : ℕ) (kept : Option PhaseWord) → slice_get facets seat ≡ Some (mutating (inside kept))
      → ¬ IsInPause o.part
  not_drained seat kept here is = drained o.seat o.part o.pending o.here is seat (inside kept) here

  pub unseen : (p : Place) (v : ℕ) → Within n p → (¬ IsPhaseWord p) → PhaseOrder n (set words (index n p) v) facets
  unseen p v within un =
      stays n words facets o (set words (index n p) v)
      (write_unseen n words o.part o.pending o.words_stand p v within un)
      (others_on p v within (unseen_server p un))

  -- an unseen word and a facet
  unseen_moves : (p : Place) (v : ℕ) → Within n p → (¬ IsPhaseWord p) → (seat : ℕ) (f g : PhaseFacet)
      → slice_get facets seat ≡ Some f → role_of g ≡ role_of f → IsOther f
      → SeatStands n words o.part g → PhaseOrder n (set words (index n p) v) (set facets seat g)
  unseen_moves p v within un seat f g here same is_other stands =
      seat_moves n words facets o (set words (index n p) v) seat f g here same is_other
      (write_unseen n words o.part o.pending o.words_stand p v within un)
      (λ other e ne at. others_on p v within (unseen_server p un) other e at)
      (seat_on n words (set words (index n p) v) o.part g
      (agree_else n IsServerWord words p v within (unseen_server p un)) stands)

  -- no word, and a facet
  still_moves : (seat : ℕ) (f g : PhaseFacet) → slice_get facets seat ≡ Some f → role_of g ≡ role_of f → IsOther f
      → SeatStands n words o.part g → PhaseOrder n words (set facets seat g)
  still_moves seat f g here same is_other stands =
      seat_moves n words facets o words seat f g here same is_other o.words_stand (λ other e ne at. o.each other e at)
      stands

  -- ---- mutators

  pub enters : (seat : ℕ) (p : Place) (v : ℕ) → Within n p → (¬ IsPhaseWord p)
      → slice_get facets seat ≡ Some (mutating outside)
      → PhaseOrder n (set words (index n p) v) (set facets seat (mutating (inside None)))
  enters seat p v within un here =
      unseen_moves p v within un seat (mutating outside) (mutating (inside None)) here refl tt tt

  pub leaves : (seat : ℕ) (kept : Option PhaseWord) (p : Place) (v : ℕ) → Within n p → (¬ IsPhaseWord p)
      → slice_get facets seat ≡ Some (mutating (inside kept))
      → PhaseOrder n (set words (index n p) v) (set facets seat (mutating outside))
  leaves seat kept p v within un here =
      unseen_moves p v within un seat (mutating (inside kept)) (mutating outside) here refl tt tt

  pub forgets : (seat : ℕ) (kept : Option PhaseWord) (p : Place) (v : ℕ) → Within n p → (¬ IsPhaseWord p)
      → slice_get facets seat ≡ Some (mutating (inside kept))
      → PhaseOrder n (set words (index n p) v) (set facets seat (mutating (inside None)))
  forgets seat kept p v within un here =
      unseen_moves p v within un seat (mutating (inside kept)) (mutating (inside None)) here refl tt tt

  found_phase : phase_at (word_at n words phase) ≡ phase_during o.part
  found_phase = phase_found n words o.part o.pending o.shape o.words_stand

  pub keeps : (seat : ℕ) (kept : Option PhaseWord) → slice_get facets seat ≡ Some (mutating (inside kept))
      → PhaseOrder n words (set facets seat (mutating (inside (Some (phase_at (word_at n words phase))))))
  keeps seat kept here =
      still_moves seat (mutating (inside kept)) (mutating (inside (Some (phase_at (word_at n words phase))))) here
      refl tt
      (subst (λ (p : PhaseWord). KeptFits o.part (Some p)) (sym found_phase) (refl, ((λ x. x), (λ x. x))))

  pub asks : (seat : ℕ) → slice_get facets seat ≡ Some (mutating outside)
      → cycle_of (phase_at (word_at n words phase)) ≢ n.cycles
      → PhaseOrder n words (set facets seat (mutating (asking (cycle_of (phase_at (word_at n words phase)) + 1))))
  asks seat here not =
      let e : cycle_of (phase_at (word_at n words phase)) ≡ cycle_during o.part = ap cycle_of found_phase in
      let b = bound_cycle n o.part o.words_stand.bound in
      still_moves seat (mutating outside) (mutating (asking (cycle_of (phase_at (word_at n words phase)) + 1))) here
      refl tt (omega arith)

  pub demands : (seat k : ℕ) → slice_get facets seat ≡ Some (mutating (asking k))
      → PhaseOrder n (set words (index n demand) (max (word_at n words demand) k)) (set facets seat (mutating outside))
  demands seat k here =
      let below : k ≤ n.cycles = o.each seat (mutating (asking k)) here in
      let v : ℕ = max (word_at n words demand) k in
      seat_moves n words facets o (set words (index n demand) (max (word_at n words demand) k)) seat
      (mutating (asking k)) (mutating outside) here refl tt
      (write_demand n words o.part o.pending o.words_stand (max (word_at n words demand) k)
      (max-le o.words_stand.asked below))
      (λ other e ne at. others_on demand (max (word_at n words demand) k) tt (λ x. x) other e at) tt

  pub stores_root : (seat : ℕ) (kept : Option PhaseWord) (m q v : ℕ)
      → slice_get facets seat ≡ Some (mutating (inside kept)) → Within n (root m q)
      → PhaseOrder n (set words (index n (root m q)) v) facets
  stores_root seat kept m q v here within =
      stays n words facets o (set words (index n (root m q)) v)
      (write_root n words o.part o.pending o.words_stand m q v within
      (λ is. not_drained seat kept here (rooting_drained o.part is)))
      (others_on (root m q) v within (λ x. x))

  pub shades : (seat cycle m slot v : ℕ) → slice_get facets seat ≡ Some (mutating (inside (Some (Trace cycle))))
      → Within n (barrier m slot)
      → PhaseOrder n (set words (index n (barrier m slot)) v) (set facets seat (mutating (inside None)))
  shades seat cycle m slot v here within =
      let kept : KeptFits o.part (Some (Trace cycle)) = o.each seat (mutating (inside (Some (Trace cycle)))) here in
      seat_moves n words facets o (set words (index n (barrier m slot)) v) seat
      (mutating (inside (Some (Trace cycle)))) (mutating (inside None)) here refl tt
      (write_slot n words o.part o.pending o.words_stand (barrier m slot) v within tt
      (λ rest. absurd (shading_part o.part (kept.1.0 tt) (not_drained seat (Some (Trace cycle)) here) rest)))
      (λ other e ne at. others_on (barrier m slot) v within (λ x. x) other e at) tt

  -- ---- entries

  entry_stays : (e v : ℕ) → Within n (entry e) → (entry_at v).epoch ≤ cycle_during o.part
      → PhaseOrder n (set words (index n (entry e)) v) facets
  entry_stays e v within below =
      stays n words facets o (set words (index n (entry e)) v)
      (write_entry n words o.part o.pending o.words_stand e v within below) (others_on (entry e) v within (λ x. x))

  pub publishes : (seat : ℕ) (p : PhaseWord) (e v : ℕ) → slice_get facets seat ≡ Some (mutating (inside (Some p)))
      → Within n (entry e) → (entry_at v).epoch ≡ cycle_of p
      → PhaseOrder n (set words (index n (entry e)) v) (set facets seat (mutating (inside None)))
  publishes seat p e v here within is =
      let kept : KeptFits o.part (Some p) = o.each seat (mutating (inside (Some p))) here in
      let same = kept.0 in
      seat_moves n words facets o (set words (index n (entry e)) v) seat (mutating (inside (Some p)))
      (mutating (inside None)) here refl tt
      (write_entry n words o.part o.pending o.words_stand e v within (omega arith))
      (λ other k ne at. others_on (entry e) v within (λ x. x) other k at) tt

  pub moves : (e v : ℕ) → Within n (entry e) → (entry_at v).epoch ≡ (entry_of n words e).epoch
      → PhaseOrder n (set words (index n (entry e)) v) facets
  moves e v within is =
      entry_stays e v within (subst (λ (k : ℕ). k ≤ cycle_during o.part) (sym is) (o.words_stand.epochs e within))

  pub frees : (e v : ℕ) → Within n (entry e) → (entry_at v).epoch ≡ 0
      → PhaseOrder n (set words (index n (entry e)) v) facets
  frees e v within is = entry_stays e v within (subst (λ (k : ℕ). k ≤ cycle_during o.part) (sym is) (omega arith))

  -- ---- servers

  module _ (seat s : ℕ) where
    the_server : (stage : ServerStage) (ended : ℕ) (laden : Bool)
        → slice_get facets seat ≡ Some (serving s stage ended laden) → ServerStands n words o.part s stage ended laden
    the_server stage ended laden here = o.each seat (serving s stage ended laden) here

    -- another seat is of another server
    pub other_server : (stage : ServerStage) (ended : ℕ) (laden : Bool)
        → slice_get facets seat ≡ Some (serving s stage ended laden)
        → (other t : ℕ) (at : ServerStage) (last : ℕ) (b : Bool) → other ≢ seat
        → slice_get facets other ≡ Some (serving t at last b) → t ≢ s
    other_server stage ended laden here other t at last b ne there same =
        ne (o.seated.servers t other seat (get_map role_of facets other (serving t at last b) there)
        (subst (λ (k : ℕ). slice_get (map role_of facets) seat ≡ Some (server k)) (sym same)
        (get_map role_of facets seat (serving s stage ended laden) here)))

    pub turns : (ended : ℕ) (laden : Bool) → slice_get facets seat ≡ Some (serving s resting ended laden)
        → PhaseOrder n words
        (set facets seat (serving s (stage_turned n s ended (phase_at (word_at n words phase))) ended laden))
    turns ended laden here =
        still_moves seat (serving s resting ended laden)
        (serving s (stage_turned n s ended (phase_at (word_at n words phase))) ended laden) here refl tt
        (subst (λ (p : PhaseWord). ServerStands n words o.part s (stage_turned n s ended p) ended laden)
        (sym found_phase)
        (turn_stands n words o.part s ended laden (tablets_some n o.shape) (the_server resting ended laden here)))

    pub returns : (d ended : ℕ) (laden : Bool) → slice_get facets seat ≡ Some (serving s (working d) ended laden)
        → PhaseOrder n words (set facets seat (serving s resting ended laden))
    returns d ended laden here =
        still_moves seat (serving s (working d) ended laden) (serving s resting ended laden) here refl tt
        (back_stands n words o.part s d ended laden (the_server (working d) ended laden here))

    pub lowers : (d ended : ℕ) (laden : Bool) (p : Place) (v : ℕ)
        → slice_get facets seat ≡ Some (serving s (working d) ended laden) → Within n p → (¬ IsPhaseWord p)
        → PhaseOrder n (set words (index n p) v) (set facets seat (serving s resting ended laden))
    lowers d ended laden p v here within un =
        unseen_moves p v within un seat (serving s (working d) ended laden) (serving s resting ended laden) here refl
        tt (back_stands n words o.part s d ended laden (the_server (working d) ended laden here))

    -- its load changes, where names may be on their way
    reladen : (stage : ServerStage) (ended : ℕ) (laden b : Bool) → (¬ IsRestful o.part)
        → ServerStands n words o.part s stage ended laden → ServerStands n words o.part s stage ended b
    reladen stage ended laden b not st =
        record {
          known = st.known;
          fits = st.fits;
          rests = λ rest. absurd
              (not rest);
          own = st.own;
          passed = st.passed;
          at_leaving = st.at_leaving;
          told = st.told;
        }

    laden_restless : (d ended : ℕ) → slice_get facets seat ≡ Some (serving s (working d) ended true)
        → ¬ IsRestful o.part
    laden_restless d ended here rest = no_true ((the_server (working d) ended true here).rests rest)

    pub finds : (d ended : ℕ) (laden : Bool) (p : Place)
        → slice_get facets seat ≡ Some (serving s (working d) ended laden) → IsUseSlot p → Within n p
        → word_at n words p ≢ 0
        → PhaseOrder n words (set facets seat (serving s (working d) ended true))
    finds d ended laden p here is within some =
        still_moves seat (serving s (working d) ended laden) (serving s (working d) ended true) here refl tt
        (reladen (working d) ended laden true (λ rest. some (o.words_stand.slots rest p is within))
        (the_server (working d) ended laden here))

    pub works : (d ended : ℕ) (b : Bool) → slice_get facets seat ≡ Some (serving s (working d) ended true)
        → PhaseOrder n words (set facets seat (serving s (working d) ended b))
    works d ended b here =
        still_moves seat (serving s (working d) ended true) (serving s (working d) ended b) here refl tt
        (reladen (working d) ended true b (laden_restless d ended here) (the_server (working d) ended true here))

    pub moves_name : (d ended : ℕ) (b : Bool) (p : Place) (v : ℕ)
        → slice_get facets seat ≡ Some (serving s (working d) ended true) → IsUseSlot p → Within n p
        → PhaseOrder n (set words (index n p) v) (set facets seat (serving s (working d) ended b))
    moves_name d ended b p v here is within =
        let only = slot_only p is in
        seat_moves n words facets o (set words (index n p) v) seat (serving s (working d) ended true)
        (serving s (working d) ended b) here refl tt
        (write_slot n words o.part o.pending o.words_stand p v within is
        (λ rest. absurd (laden_restless d ended here rest)))
        (λ other e ne at. others_on p v within only.no_server other e at)
        (server_on n words (set words (index n p) v) o.part s (working d) ended b
        (agree_else n IsServerWord words p v within only.no_server)
        (reladen (working d) ended true b (laden_restless d ended here) (the_server (working d) ended true here)))

    pub marks : (d ended : ℕ) (laden : Bool) (e v : ℕ)
        → slice_get facets seat ≡ Some (serving s (working d) ended laden) → Within n (entry e)
        → (entry_at v).epoch ≡ d → PhaseOrder n (set words (index n (entry e)) v) facets
    marks d ended laden e v here within is =
        let c = work_cycle o.part s d ended (the_server (working d) ended laden here).fits in
        entry_stays e v within (omega arith)

    -- ---- tablets

    pub passes : (d t ended : ℕ) (laden : Bool)
        → slice_get facets seat ≡ Some (serving s (clearing d t looking) ended laden) → word_at n words (leaving t) ≡ 0
        → PhaseOrder n words (set facets seat (serving s (next_tablet n s d t) ended laden))
    passes d t ended laden here none =
        let st = the_server (clearing d t looking) ended laden here in
        still_moves seat (serving s (clearing d t looking) ended laden) (serving s (next_tablet n s d t) ended laden)
        here refl tt
        (goes_on n words o.part s ended laden d t looking (tablets_some n o.shape) st
        (λ u within own le.
        ⊎_elim (λ below. st.passed u within own (inr below))
        (λ high. let e : t ≡ u = omega arith in subst (λ (k : ℕ). word_at n words (leaving k) ≡ 0) e none)
        (cases_lt u t))
        (λ next. clear_fits o.part s d t ended looking st.fits next looking)
        (free_fits o.part s d t ended looking st.fits))

    pub meets : (d t ended : ℕ) (laden : Bool)
        → slice_get facets seat ≡ Some (serving s (clearing d t looking) ended laden) → word_at n words (leaving t) ≢ 0
        → PhaseOrder n words (set facets seat (serving s (clearing d t found) ended laden))
    meets d t ended laden here some =
        let st = the_server (clearing d t looking) ended laden here in
        still_moves seat (serving s (clearing d t looking) ended laden) (serving s (clearing d t found) ended laden)
        here refl tt (record {
          known = st.known;
          fits = clear_fits o.part s d t ended looking st.fits t found;
          rests = st.rests;
          own = st.own;
          passed = λ u within own has. st.passed u within own has;
          at_leaving = λ u at. subst (λ (k : ℕ). word_at n words (leaving k) ≢ 0) at.0 some;
          told = st.told;
        })

    pub shuts : (d t ended : ℕ) (laden : Bool) (p : Place) (v : ℕ)
        → slice_get facets seat ≡ Some (serving s (clearing d t found) ended laden) → Within n p → (¬ IsPhaseWord p)
        → PhaseOrder n (set words (index n p) v) (set facets seat (serving s (clearing d t shut) ended laden))
    shuts d t ended laden p v here within un =
        let st = the_server (clearing d t found) ended laden here in
        unseen_moves p v within un seat (serving s (clearing d t found) ended laden)
        (serving s (clearing d t shut) ended laden) here refl tt (record {
          known = st.known;
          fits = clear_fits o.part s d t ended found st.fits t shut;
          rests = st.rests;
          own = st.own;
          passed = λ u within own has. st.passed u within own has;
          at_leaving = λ u at. st.at_leaving u at;
          told = st.told;
        })

    pub clears : (d t ended : ℕ) (laden : Bool)
        → slice_get facets seat ≡ Some (serving s (clearing d t shut) ended laden)
        → PhaseOrder n (set words (index n (leaving t)) 0)
        (set facets seat (serving s (clearing d t cleared) ended laden))
    clears d t ended laden here =
        let st = the_server (clearing d t shut) ended laden here in
        let after : List ℕ = set words (index n (leaving t)) 0 in
        seat_moves n words facets o (set words (index n (leaving t)) 0) seat
        (serving s (clearing d t shut) ended laden) (serving s (clearing d t cleared) ended laden) here refl tt
        (write_leaving n words o.part o.pending o.words_stand t 0 st.own.0 (inl refl))
        (λ other e ne at. others e other ne at)
        (record {
          known = st.known;
          fits = clear_fits o.part s d t ended shut st.fits t cleared;
          rests = st.rests;
          own = st.own;
          passed = λ u within own has. ⊎_elim (λ c. c.1)
              (λ c. c.1
              ∙ st.passed u within own
              (⊎_elim (λ e. inl e) (λ upto. inr (let ne : u ≢ t = λ same. c.0 (ap leaving same) in omega arith)) has))
              (written n words (leaving t) 0 o.words_stand.size st.own.0 (leaving u) within);
          at_leaving = λ u at. absurd at.1;
          told = λ slot within e. st.told slot within
              (sym (agree_else n IsNotice words (leaving t) 0 st.own.0 (λ x. x) (notice s slot) tt within) ∙ e);
        })
      where
        others : (e : PhaseFacet) (other : ℕ) → other ≢ seat → slice_get facets other ≡ Some e
            → SeatStands n (set words (index n (leaving t)) 0) o.part e
        others (mutating admission) other ne at = o.each other (mutating admission) at
        others (collecting part pending) other ne at = tt
        others (serving u stage last b) other ne at =
            let st = the_server (clearing d t shut) ended laden here in
            let su : ServerStands n words o.part u stage last b = o.each other (serving u stage last b) at in
            let diff : u ≢ s = other_server (clearing d t shut) ended laden here other u stage last b ne at in record {
              known = su.known;
              fits = su.fits;
              rests = su.rests;
              own = su.own;
              passed =
                  λ k within own has.
                  ⊎_elim (λ c. c.1) (λ c. c.1 ∙ su.passed k within own has)
                  (written n words (leaving t) 0 o.words_stand.size st.own.0 (leaving k) within);
              at_leaving = λ k is zero_is.
                  let within = at_within n u stage su.own k is in
                  ⊎_elim (λ c. let same : k ≡ t = cc (c.0) in
                  diff (sym (at_own n u stage su.own k is) ∙ ap (server_of_tablet n) same ∙ st.own.1))
                  (λ c. su.at_leaving k is (sym c.1 ∙ zero_is))
                  (written n words (leaving t) 0 o.words_stand.size st.own.0 (leaving k) within);
              told = λ slot within e. su.told slot within
                  (sym (agree_else n IsNotice words (leaving t) 0 st.own.0 (λ x. x) (notice u slot) tt within) ∙ e);
            }

    pub reopens : (d t ended : ℕ) (laden : Bool) (p : Place) (v : ℕ)
        → slice_get facets seat ≡ Some (serving s (clearing d t cleared) ended laden) → Within n p → (¬ IsPhaseWord p)
        → PhaseOrder n (set words (index n p) v) (set facets seat (serving s (next_tablet n s d t) ended laden))
    reopens d t ended laden p v here within un =
        let st = the_server (clearing d t cleared) ended laden here in
        unseen_moves p v within un seat (serving s (clearing d t cleared) ended laden)
        (serving s (next_tablet n s d t) ended laden) here refl tt
        (goes_on n words o.part s ended laden d t cleared (tablets_some n o.shape) st
        (λ u in_u own le. st.passed u in_u own (inr le))
        (λ next. clear_fits o.part s d t ended cleared st.fits next looking)
        (free_fits o.part s d t ended cleared st.fits))
