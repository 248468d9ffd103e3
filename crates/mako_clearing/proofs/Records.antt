-- A server goes over the entries of a tablet.
use Rattle.std.proofs.Common.{◌≡◌, ℕ, ◌+◌, ◌-◌, ◌*◌, ◌<◌, ◌≤◌, ◌==◌, ◌&&◌, Bool, true, false, not, List, set, Some, sym}
use Rattle.std.proofs.Common.{ap, subst, refl, ◌∙◌, arith, nat_lt}
use Rattle.mako_words.specs.declared.name.Name.{Name}
use Rattle.mako_words.specs.declared.phase_word.PhaseWord.TheVariants.{Evac}
use Rattle.mako_words.specs.Entries.{entry_at}
use Rattle.mako_words.specs.Phases.{cycle_of}
use Rattle.mako_shape.specs.declared.numbers.Numbers.{Numbers}
use Rattle.mako_shape.specs.Belongings.{tablet_of_entry, region_of_address, IsAddress}
use Rattle.mako_shape.specs.Places.{entry, leaving, home, index, region_word, word_at}
use Rattle.mako_shape.proofs.BelongingLaws.{region_words, address_in_region}
use Rattle.mako_step.proofs.Cases.{by_eq, by_le, by_lt, when_lt, when_test}
use Rattle.mako_gate.specs.Standings.{Watch, GateFacet, has_drained, shutter_at}
use Rattle.mako_gate.proofs.Numbers.{count_at}
use Rattle.mako_model.specs.Legal.{Facts}
use Rattle.mako_names.specs.Tables.{phase_of}
use Rattle.mako_record.specs.Regions.{is_in_region}
use Rattle.mako_record.specs.Copying.{opening_copy}
use Rattle.mako_evac.specs.declared.owner.Owner.{Owner}
use Rattle.mako_evac.specs.declared.stage.EvacStage.{EvacStage}
use Rattle.mako_evac.specs.declared.stage.EvacStage.TheVariants.{Evacuating}
use Rattle.mako_evac.specs.declared.tablet.TabletStage.{TabletStage}
use Rattle.mako_evac.specs.declared.tablet.TabletStage.TheVariants.{LoadingHome, LoadingEntry, Copying, Clearing}
use Rattle.mako_evac.specs.declared.tablet.TabletStage.TheVariants.{Reopening}
use Rattle.mako_evac.specs.Owners.{first_entry, is_left, IsEntryOf}
use Rattle.mako_evac.specs.Passing.{at_record}
use Rattle.mako_evac.proofs.Bounds.{record_within}
use Rattle.mako_layout.specs.Evacuations.{Seat, layout}
use Rattle.mako_layout.specs.Facets.{Work, idle, holds_home, moves, stands}
use Rattle.mako_layout.specs.Layouts.{entries_of}
use Rattle.mako_layout.specs.StepParts.{first_of, past_of}
use Rattle.mako_layout.specs.Steps as step
use Rattle.mako_layout.proofs.Found.{homes_are_found, addresses_are_found}
use Rattle.mako_phases.specs.Facets.{ServerStage, clearing, shut, cleared, serving}
use Rattle.mako_phases.specs.Steps as phases
use Rattle.mako_phases.proofs.AllPhases.{phase_kept}
use Rattle.mako_state.proofs.Words.{sets_words}
use Rattle.mako_joint.specs.Joints.{JointScene, layout_in, phases_in, Joint}
use Rattle.mako_joint.proofs.Pauses.{gates_drain}
use Rattle.mako_clearing.specs.ClearingFacets.{server_seat, tablet_watch, tablet_work}
use Rattle.mako_clearing.specs.Clearing.{ClearingStands, ClearingGoesOn}
use Rattle.mako_clearing.proofs.Seated.{Laid, laid_state, laid, seated, work_moved, words_moved, gate_moved, owner}
use Rattle.mako_clearing.proofs.Stages.{at_stage, Goes, loads, sends_none, finish, index_in}
use Rattle.mako_clearing.proofs.Tablets.{behind_is, tablet_is, OwedHere, to_stage, tablet_in, evac_is, seat_here, still}
use Rattle.mako_clearing.proofs.Tablets.{stored_here}

-- ---- what a test of an entry means

left_is : (taken : Bool) (x y : ℕ) (inside : Bool) → (taken && (x == y) && not inside) ≡ true
    → (taken ≡ true) × (x ≡ y) × (inside ≡ false)
left_is false x y inside e = absurd (cc)
left_is true x y inside e =
    by_eq (λ b. (true && b && not inside) ≡ true → (true ≡ true) × (x ≡ y) × (inside ≡ false)) x y
    (λ s f. (refl, s, outside inside f)) (λ d f. absurd (cc)) e
  where
    outside : (inside : Bool) → (true && true && not inside) ≡ true → inside ≡ false
    outside true f = absurd (cc)
    outside false f = refl

stays_is : (taken : Bool) (x y : ℕ) (inside : Bool) → (taken && (x == y) && not inside) ≡ false → taken ≡ true
    → x ≡ y → inside ≡ true
stays_is false x y inside e taken same = absurd (cc)
stays_is true x y inside e taken same =
    by_eq (λ b. (true && b && not inside) ≡ false → inside ≡ true) x y (λ s f. within inside f)
    (λ d f. absurd (d same)) e
  where
    within : (inside : Bool) → (true && true && not inside) ≡ false → inside ≡ true
    within true f = refl
    within false f = absurd (cc)

-- an address lies in the region that is its own, and in no other
pub in_own_region : (n : Numbers) (region address : ℕ) → IsAddress n address → region_of_address n address ≡ region
    → is_in_region n region address ≡ true
in_own_region n region address lies is =
    let bounds =
    subst (λ r. (index n (region_word r 0) ≤ address) × (address < index n (region_word r 0) + n.words)) is
    (address_in_region n address lies) in
    by_le (λ b. (b && nat_lt (address - index n (region_word region 0)) n.words) ≡ true)
    (index n (region_word region 0))
    address
    (λ low. by_lt (λ b. (true && b) ≡ true) (address - index n (region_word region 0)) n.words (λ l. refl)
    (λ h. absurd (let a = bounds.1 in omega arith)))
    (λ high. absurd (let a = bounds.0 in omega arith))

pub own_region : (n : Numbers) (region address : ℕ) → region < n.servers * (n.tablets + n.spare)
    → is_in_region n region address ≡ true → region_of_address n address ≡ region
own_region n region address known e =
    by_le
    (λ b. (b && nat_lt (address - index n (region_word region 0)) n.words) ≡ true → region_of_address n address ≡
    region)
    (index n (region_word region 0)) address
    (λ low. by_lt (λ b. (true && b) ≡ true → region_of_address n address ≡ region)
    (address - index n (region_word region 0)) n.words
    (λ l f. (region_words n region address known (low, omega arith)).1) (λ h f. absurd (cc)))
    (λ high f. absurd (cc)) e

module _ (n : Numbers) (w : Facts) (s : JointScene) (server cycle ended : ℕ) (laden : Bool) (taker : ℕ)
    (j : Joint n w s) (at : ℕ) (sent : List Name) (t : ℕ) where
  abbrev o : Owner
  o = owner n w s server cycle ended laden

  abbrev seat : ℕ
  seat = server_seat n server

  abbrev Stands : TabletStage → Type 0
  Stands stage =
      ClearingStands n w s (at_stage n w s server cycle ended laden taker (Evacuating t stage) at) ended laden taker
      sent

  abbrev Kept : TabletStage → Type 0
  Kept stage =
      ClearingGoesOn n w s (at_stage n w s server cycle ended laden taker (Evacuating t stage) at) ended laden taker
      sent

  abbrev To : List ℕ → EvacStage → Type 0
  To us stage = Goes n w s server cycle ended laden taker us stage at sent

  abbrev Owes : List ℕ → ServerStage → Watch → Work → Type 0
  Owes us f g k = OwedHere n w s server cycle ended laden taker j at sent t us f g k

  -- ---- on to the next entry

  module _ (stage : TabletStage) (c : Stands stage) where
    abbrev gate : GateFacet
    gate = shutter_at seat (tablet_watch n t stage)

    pub record_next : (us : List ℕ) (r x y : ℕ) → first_entry n t ≤ x → x ≤ past_of n t → tablet_of_entry n y ≡ t
        → Owes us (clearing cycle t shut) (has_drained t x) (holds_home y r) → To us (at_record o t r x)
    record_next us r x y from most same owed =
        let here = seat_here n w s server cycle ended laden taker j at sent t stage c in
        let g = shutter_at seat (has_drained t x) in
        let sits = seated n w s server cycle ended laden j gate (tablet_work stage) here us g (holds_home y r) in
        when_lt (To us) (Evacuating t (LoadingEntry r x)) (Evacuating t Clearing) x (first_entry n (t + 1))
        (λ low. to_stage n w s server cycle ended laden taker j at sent t us (LoadingEntry r x)
        (record {
          names = owed.names;
          layout = work_moved n w s server cycle ended laden j gate (tablet_work stage) here us g (holds_home y r)
              owed.layout us (holds_home x r)
              (step.turns_to seat y x r g sits
              (record_within o t x c.known.owner c.known.stage.0 (record { from = from; below = low }))
              (tablet_is n t x from low ∙ sym same));
          polls = owed.polls;
          order = owed.order;
          evac = owed.evac;
          notices = owed.notices;
        }) tt)
        (λ high. to_stage n w s server cycle ended laden taker j at sent t us Clearing
        (record {
          names = owed.names;
          layout = subst (λ b. Laid n w s server cycle ended laden us (shutter_at seat (has_drained t b)) idle)
              (let e = behind_is n t x in let z : x ≡ past_of n t = omega arith in z)
              (work_moved n w s server cycle ended laden j gate (tablet_work stage) here us g (holds_home y r)
              owed.layout us idle
              (step.forget seat g (holds_home y r) sits (λ u. (refl, refl))));
          polls = owed.polls;
          order = owed.order;
          evac = owed.evac;
          notices = owed.notices;
        }) tt)

  -- ---- the home

  -- it keeps the home, at the first entry
  module _ (stage : TabletStage) (c : Stands stage) (b : ℕ) (drains : tablet_watch n t stage ≡ has_drained t b)
      (idles : tablet_work stage ≡ idle) where
    first_in : first_of n t < first_entry n (t + 1)
    first_in =
        let some = j.script.shape.in_range.each.2.2.2.0 in
        let e = behind_is n t 0 in
        omega arith

    pub first_tablet_is : tablet_of_entry n (first_of n t) ≡ t
    first_tablet_is = tablet_is n t (first_of n t) (omega arith) first_in

    pub stands_there : 1 ≤ stands t (shutter_at seat (has_drained t b))
    stands_there = let e = count_at t t 1 refl in omega arith

    pub home_kept : Laid n w s server cycle ended laden s.words (shutter_at seat (has_drained t b))
        (holds_home (first_of n t) (word_at n s.words (home t)))
    home_kept =
        let here0 = seat_here n w s server cycle ended laden taker j at sent t stage c in
        let here : Seat (layout_in n w s) seat (shutter_at seat (has_drained t b)) idle = record {
          gate = here0.gate ∙ ap (λ (v : Watch). Some (shutter_at seat v)) drains;
          work = here0.work ∙ ap (λ (v : Work). Some v) idles;
        } in
        let g = shutter_at seat (has_drained t b) in
        subst
        (λ u. Laid n w s server cycle ended laden s.words g (holds_home (first_of n t) (word_at n s.words (home u))))
        first_tablet_is
        (work_moved n w s server cycle ended laden j g idle here s.words g idle
        (laid n w s server cycle ended laden j g idle here) s.words
        (holds_home (first_of n t) (word_at n s.words (home (tablet_of_entry n (first_of n t)))))
        (step.keep_home seat (first_of n t) g idle
        (seated n w s server cycle ended laden j g idle here s.words g idle) (λ u. (refl, refl))
        (record_within o t (first_of n t) c.known.owner c.known.stage.0
        (record { from = omega arith; below = first_in }))
        (subst (λ u. 1 ≤ stands u g) (sym first_tablet_is) stands_there)))

  module _ (c : Stands LoadingHome) where
    pub home_loaded : Kept LoadingHome
    home_loaded =
        let low = tablet_in n w s server cycle ended laden taker j at sent t LoadingHome c in
        let now = still n w s server cycle ended laden taker j at sent t LoadingHome c in
        let there : 1 ≤ stands t (shutter_at seat (has_drained t (first_of n t))) =
        stands_there LoadingHome c (first_of n t) refl refl in
        let fits = homes_are_found n (layout_in n w s) j.layout seat t (shutter_at seat (has_drained t (first_of n t)))
        c.facets.gate low there in
        finish n w s server cycle ended laden taker (Evacuating t LoadingHome) at sent j c tt tt
        (index_in n w s j (home t) low, tt, fits) fits
        (sends_none n w s server cycle ended laden taker _ _ at sent
        (loads n w s server cycle ended laden taker (index n (home t)) _ at sent
        (record_next LoadingHome c s.words (word_at n s.words (home t)) (first_of n t) (first_of n t) (omega arith)
        (omega arith) (first_tablet_is LoadingHome c (first_of n t) refl refl)
        (record {
          names = now.names;
          layout = home_kept LoadingHome c (first_of n t) refl refl;
          polls = now.polls;
          order = now.order;
          evac = now.evac;
          notices = now.notices;
        }))))

  -- ---- an entry

  module _ (region x : ℕ) (c : Stands (LoadingEntry region x)) where
    abbrev here_gate : GateFacet
    here_gate = shutter_at seat (has_drained t x)

    of_tablet : IsEntryOf n t x
    of_tablet = c.known.stage.1.entry_is

    inside : x < entries_of n
    inside = record_within o t x c.known.owner c.known.stage.0 of_tablet

    x_tablet : tablet_of_entry n x ≡ t
    x_tablet = tablet_is n t x of_tablet.from of_tablet.below

    here : Seat (layout_in n w s) seat here_gate (holds_home x region)
    here = seat_here n w s server cycle ended laden taker j at sent t (LoadingEntry region x) c

    now : Owes s.words (clearing cycle t shut) (has_drained t x) (holds_home x region)
    now = still n w s server cycle ended laden taker j at sent t (LoadingEntry region x) c

    evac : phase_of n s.words ≡ Evac cycle
    evac = evac_is n w s server cycle ended laden taker j at sent t (LoadingEntry region x) c

    cycle_now : (layout n (layout_in n w s)).cycle ≡ cycle
    unfolding phase_of
    cycle_now = ap cycle_of evac

    lies : (entry_at (word_at n s.words (entry x))).taken ≡ true → IsAddress n
        (entry_at (word_at n s.words (entry x))).address
    lies taken = addresses_are_found n (layout_in n w s) j.layout x inside taken

    sits : Seat (laid_state n w s server cycle ended laden s.words here_gate (holds_home x region)) seat here_gate
        (holds_home x region)
    sits =
        seated n w s server cycle ended laden j here_gate (holds_home x region) here s.words here_gate
        (holds_home x region)

    fits : is_left o region (entry_at (word_at n s.words (entry x))) ≡ true
        → IsAddress n (entry_at (word_at n s.words (entry x))).address
    fits e =
        lies (left_is (entry_at (word_at n s.words (entry x))).taken (entry_at (word_at n s.words (entry x))).epoch
        cycle
        (is_in_region n region (entry_at (word_at n s.words (entry x))).address) e).0

    -- a record that is left behind is to be copied
    found_away : is_left o region (entry_at (word_at n s.words (entry x))) ≡ true
        → Owes s.words (clearing cycle t shut) (has_drained t x)
        (moves x (entry_at (word_at n s.words (entry x))) region)
    found_away e =
        let left = left_is (entry_at (word_at n s.words (entry x))).taken
        (entry_at (word_at n s.words (entry x))).epoch cycle
        (is_in_region n region (entry_at (word_at n s.words (entry x))).address) e in
        record {
          names = now.names;
          layout = work_moved n w s server cycle ended laden j here_gate (holds_home x region) here s.words here_gate
              (holds_home x region) now.layout s.words (moves x (entry_at (word_at n s.words (entry x))) region)
              (step.finds_away seat x x region here_gate sits inside refl
              (let d = count_at t (tablet_of_entry n x) 1 (sym x_tablet) in omega arith) left.0 (left.1 ∙ sym cycle_now)
              (λ same. true_not_false (sym (in_own_region n region (entry_at (word_at n s.words (entry x))).address
              (lies left.0) same) ∙ left.2)));
          polls = now.polls;
          order = now.order;
          evac = now.evac;
          notices = now.notices;
        }
      where
        true_not_false : true ≡ false → ⊥
        true_not_false e = cc

    -- and any other is passed
    passed_over : is_left o region (entry_at (word_at n s.words (entry x))) ≡ false
        → Owes s.words (clearing cycle t shut) (has_drained t (x + 1)) (holds_home x region)
    passed_over e = record {
      names = now.names;
      layout = gate_moved n w s server cycle ended laden j here_gate (holds_home x region) here s.words here_gate
          (holds_home x region) now.layout s.words (shutter_at seat (has_drained t (x + 1)))
          (step.passes seat t x x region sits x_tablet
          (λ taken of_cycle. own_region n region (entry_at (word_at n s.words (entry x))).address
          c.known.stage.1.home_is
          (stays_is (entry_at (word_at n s.words (entry x))).taken (entry_at (word_at n s.words (entry x))).epoch cycle
          (is_in_region n region (entry_at (word_at n s.words (entry x))).address) e taken (of_cycle ∙ cycle_now))));
      polls = now.polls;
      order = now.order;
      evac = now.evac;
      notices = now.notices;
    }

    pub entry_loaded : Kept (LoadingEntry region x)
    entry_loaded =
        finish n w s server cycle ended laden taker (Evacuating t (LoadingEntry region x)) at sent j c tt tt
        (index_in n w s j (entry x) inside, tt, fits) fits
        (sends_none n w s server cycle ended laden taker _ _ at sent
        (loads n w s server cycle ended laden taker (index n (entry x)) _ at sent
        (when_test (To s.words)
        (Evacuating t (Copying region x (opening_copy n x (entry_at (word_at n s.words (entry x))) region)))
        (at_record o t region (x + 1)) (is_left o region (entry_at (word_at n s.words (entry x))))
        (λ e. to_stage n w s server cycle ended laden taker j at sent t s.words
        (Copying region x (opening_copy n x (entry_at (word_at n s.words (entry x))) region)) (found_away e) tt)
        (λ e. record_next (LoadingEntry region x) c s.words region (x + 1) x
        (let a = of_tablet.from in omega arith)
        (let a = of_tablet.below in let b = behind_is n t x in omega arith) x_tablet (passed_over e)))))

  -- ---- leaving is stored as 0

  module _ (c : Stands Clearing) where
    abbrev clear_words : List ℕ
    clear_words = set s.words (index n (leaving t)) 0

    abbrev past_gate : GateFacet
    past_gate = shutter_at seat (has_drained t (past_of n t))

    clear_layout : Laid n w s server cycle ended laden clear_words past_gate idle
    clear_layout =
        let low = tablet_in n w s server cycle ended laden taker j at sent t Clearing c in
        let here_ = seat_here n w s server cycle ended laden taker j at sent t Clearing c in
        let region : ℕ = word_at n s.words (home t) in
        let k : Work = holds_home (first_of n t) (word_at n s.words (home t)) in
        let stands = j.order.each seat (serving server (clearing cycle t shut) ended laden) c.facets.phase in
        work_moved n w s server cycle ended laden j past_gate idle here_ clear_words past_gate k
        (words_moved n w s server cycle ended laden j past_gate idle here_ s.words past_gate k
        (home_kept Clearing c (past_of n t) refl refl) clear_words
        (step.clear_leaving (λ p. word_at n clear_words p) seat t (first_of n t) region
        (seated n w s server cycle ended laden j past_gate idle here_ s.words past_gate k) low
        (stands.at_leaving t (refl, tt))
        (sets_words n s.words j.names.hold.size (leaving t) 0 low)))
        clear_words idle
        (step.forget seat past_gate k
        (seated n w s server cycle ended laden j past_gate idle here_ clear_words past_gate k) (λ u. (refl, refl)))

    pub leaving_cleared : Kept Clearing
    leaving_cleared =
        let low = tablet_in n w s server cycle ended laden taker j at sent t Clearing c in
        finish n w s server cycle ended laden taker (Evacuating t Clearing) at sent j c tt tt
        (index_in n w s j (leaving t) low, tt, tt) tt
        (sends_none n w s server cycle ended laden taker _ _ at sent
        (to_stage n w s server cycle ended laden taker j at sent t clear_words Reopening
        (stored_here n w s server cycle ended laden taker j at sent t Clearing c (leaving t) 0 low (λ i. i) (λ i. i)
        (λ slot e. cc) (clearing cycle t cleared) (has_drained t (past_of n t)) idle clear_layout
        (phase_kept n (phases_in s)
        (record {
          words = clear_words;
          facets = set s.facets.phases seat (serving server (clearing cycle t cleared) ended laden);
        }) j.order (gates_drain n w s j)
        (phases.Clears seat server cycle t ended laden c.facets.phase refl))) tt))
