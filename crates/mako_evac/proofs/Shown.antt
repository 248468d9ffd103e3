-- What the trail shows is kept by each step.
use Rattle.std.proofs.Common.{◌≡◌, ◌≢◌, ℕ, true, false, ◌+◌, ◌<◌, ◌≤◌, List, [], ◌∷◌, ◌++◌, map, if◌then◌else◌}
use Rattle.std.proofs.Common.{append_assoc, append-nil, refl, sym, ap, ◌∙◌, subst, arith}
use Rattle.std.proofs.lemmas.List.{map-append}
use Rattle.std.proofs.lemmas.List.Elements.{All-push, All-nil}
use Rattle.std.proofs.lemmas.Bool.Decides.{nat_tests}
use Rattle.mako_words.specs.Entries.{entry_at}
use Rattle.mako_words.specs.Gates.{count_of}
use Rattle.mako_words.specs.declared.name.Name.{Name}
use Rattle.mako_shape.specs.Places.{index, tablet_gate}
use Rattle.mako_step.specs.Machines.{IsAct}
use Rattle.mako_step.specs.Trails.{Observation}
use Rattle.mako_step.specs.Trails.Goes.{stays as begins, steps}
use Rattle.mako_step.specs.declared.act.Op.TheVariants.{Load, Or}
use Rattle.mako_step.specs.declared.step.Step.{Step}
use Rattle.mako_step.specs.declared.step.Step.TheVariants.{Do, Ended as NoStep}
use Rattle.mako_step.proofs.Cases.{by_lt, by_eq, by_bool}
use Rattle.mako_gate.specs.Bits.{shut_bit}
use Rattle.mako_gate.specs.Runs.{sees}
use Rattle.mako_gate.specs.Shutting.{is_counting}
use Rattle.mako_record.specs.Copying as copying
use Rattle.mako_record.specs.Copying.{Copying as Copy, opening_copy}
use Rattle.mako_ring.specs.Contents.{after_place}
use Rattle.mako_evac.specs.declared.owner.Owner.{Owner}
use Rattle.mako_evac.specs.declared.stage.EvacStage.{EvacStage}
use Rattle.mako_evac.specs.declared.stage.EvacStage.TheVariants.{Evacuating, Freeing, AwaitingEnd, TellingEnd, Ended}
use Rattle.mako_evac.specs.declared.tablet.TabletStage.{TabletStage}
use Rattle.mako_evac.specs.declared.tablet.TabletStage.TheVariants.{LoadingLeaving, Shutting, Draining, LoadingHome}
use Rattle.mako_evac.specs.declared.tablet.TabletStage.TheVariants.{LoadingEntry, Copying, Clearing, Reopening}
use Rattle.mako_evac.specs.declared.freeing.FreeStage.{FreeStage}
use Rattle.mako_evac.specs.declared.freeing.FreeStage.TheVariants.{Loading, Storing, Awaiting, Telling}
use Rattle.mako_evac.specs.Owners.{IsOwner, IsOwnTablet, IsOwnEntry, first_tablet, tablets_end, first_entry, is_left}
use Rattle.mako_evac.specs.Owners.{is_dead}
use Rattle.mako_evac.specs.Passing.{at_tablet, at_record, at_entry}
use Rattle.mako_evac.specs.Tablets.{copy_fed, tablet_next, tablet_fed, TabletFits, TabletIsKnown}
use Rattle.mako_evac.specs.Freeing.{free_next, free_fed, name_of}
use Rattle.mako_evac.specs.Evacuating.{opening, slot_at, stage_next, stage_fed, told_at, at_fed, StageFits}
use Rattle.mako_evac.specs.Evacuating.{StageIsKnown, IsKnown}
use Rattle.mako_evac.specs.Runs.{at_leaving, at_gate, at_word, Copied, TabletsPassed}
use Rattle.mako_evac.specs.Runs.Copied.{none as opens, keeps as passes, copies}
use Rattle.mako_evac.specs.Runs.TabletsPassed.{none as no_tablets, stays, leaves}
use Rattle.mako_evac.specs.Runs.EntriesPassed.{none as no_entries, keeps, frees}
use Rattle.mako_evac.specs.Evidence.{CopiedSoFar, TabletShown, EntryShown, EntriesDone, Evidence, EvacuationsGo}
use Rattle.mako_evac.proofs.Bounds.{first_entry_rises, first_is_before_end}
use Rattle.mako_evac.proofs.Going.{tablet_known}
use Rattle.mako_evac.proofs.Trails.{did, seen, act_done, grown, first_grown, Keeps, Along, along}

counts : (w : ℕ) → is_counting w ≡ true → 0 < count_of w
counts w e = grind (arith, nat_tests)

counts_not : (w : ℕ) → is_counting w ≡ false → count_of w ≡ 0
counts_not w e = grind (arith, nat_tests)

-- past the end means at it
at_end : (P : ℕ → Type 0) (a b : ℕ) → a ≤ b → b ≤ a → P a → P b
at_end P a b most past h = subst P (omega (arith, most, past)) h

-- the next tablet is due
tablet_due : (o : Owner) (at t : ℕ) (trail : List Observation) → t ≤ tablets_end o → TabletsPassed o t trail
    → Evidence o at (at_tablet o t) at trail
tablet_due o at t trail most passed = by_lt
    (λ b. Evidence o at (if b then Evacuating t LoadingLeaving else Freeing
    (first_entry o.shape (first_tablet o)) Loading) at trail) t (tablets_end o)
    (λ _. (refl, record { front = trail; own = []; passed = passed; shown = refl; made = sym (append-nil trail) }))
    (λ past. record {
      front = trail;
      own = [];
      names = [];
      passed = record {
        tablets = trail;
        entries = [];
        tablets_passed = at_end (λ q. TabletsPassed o q trail) t (tablets_end o) most past passed;
        entries_passed = no_entries;
        made = sym (append-nil trail);
      };
      shown = refl;
      made = sym (append-nil trail);
    })

-- the tablet goes on at this stage
goes_on : (o : Owner) (at t : ℕ) (s : TabletStage) (trail front own : List Observation) → TabletsPassed o t front
    → TabletShown o t s own → trail ≡ front ++ own →
    Evidence o at (Evacuating t s) at trail
goes_on o at t s trail front own passed shown made =
    (refl, record { front = front; own = own; passed = passed; shown = shown; made = made })

-- the tablet's next entry is due
record_due : (o : Owner) (at t region x : ℕ) (trail front own : List Observation) → x ≤ first_entry o.shape (t + 1)
    → TabletsPassed o t front → Copied o t region x own → trail ≡ front ++ own →
    Evidence o at (at_record o t region x) at trail
record_due o at t region x trail front own most passed copied made = by_lt
    (λ b. Evidence o at (if b then Evacuating t (LoadingEntry region x) else Evacuating t Clearing) at trail) x
    (first_entry o.shape (t + 1))
    (λ _. goes_on o at t (LoadingEntry region x) trail front own passed copied made)
    (λ past. goes_on o at t Clearing trail front own passed
    (region, at_end (λ q. Copied o t region q own) x (first_entry o.shape (t + 1)) most past copied) made)

-- the next own entry is due
entry_due : (o : Owner) (at x slot : ℕ) (names : List Name) (trail : List Observation)
    → x ≤ first_entry o.shape (tablets_end o) → EntriesDone o at x slot names trail →
    Evidence o at (at_entry o x) slot trail
entry_due o at x slot names trail most passed = by_lt
    (λ b. Evidence o at (if b then Freeing x Loading else AwaitingEnd) slot trail) x
    (first_entry o.shape (tablets_end o))
    (λ _. record {
      front = trail;
      own = [];
      names = names;
      passed = passed;
      shown = refl;
      made = sym (append-nil trail);
    })
    (λ past. record {
      front = trail;
      own = [];
      names = names;
      passed = at_end (λ q. EntriesDone o at q slot names trail) x
          (first_entry o.shape (tablets_end o)) most past passed;
      shown = record { looks = []; full = All-nil (λ w. w ≢ 0); made = refl };
      made = sym (append-nil trail);
    })

-- one look more at a list of looks
looked : (word w : ℕ) (looks : List ℕ)
    → map (sees word Load) looks ++ sees word Load w ∷ [] ≡ map (sees word Load) (looks ++ w ∷ [])
looked word w looks = sym (map-append (sees word Load) looks (w ∷ []))

-- the copy after its step, by what it does next
copy_shown : (o : Owner) (at t region x : ℕ) (after : Copy) (next : Step) (trail front own : List Observation)
    → copying.next_of after ≡ next → x + 1 ≤ first_entry o.shape (t + 1) →
    TabletsPassed o t front → CopiedSoFar o t region x after own → trail ≡ front ++ own
    → Evidence o at (copy_fed o t region x after next) at trail
copy_shown o at t region x after (Do act) trail front own is most passed far made =
    goes_on o at t (Copying region x after) trail front own passed far made
copy_shown o at t region x after NoStep trail front own is most passed far made =
    record_due o at t region (x + 1) trail front own most passed
    (subst (Copied o t region (x + 1)) (sym far.made)
    (copies x far.word far.front far.since after far.copied far.left far.goes is)) made

tablet_shown : (o : Owner) (at t : ℕ) (s : TabletStage) (w : ℕ) (trail front own : List Observation) → IsOwner o
    → IsOwnTablet o t → TabletIsKnown o t s → TabletFits o s w →
    IsAct (tablet_next o t s) → TabletsPassed o t front → TabletShown o t s own → trail ≡ front ++ own →
    Evidence o at (tablet_fed o t s w) at (trail ++ seen (tablet_next o t s) w ∷ [])
tablet_shown o at t LoadingLeaving w trail front own owner is_own known fits acts passed shown made =
    let more = first_grown trail front own (at_leaving o t Load w) made shown in
    let below = is_own.below in
    by_eq (λ b. Evidence o at (if b then at_tablet o (t + 1) else Evacuating t Shutting) at
    (trail ++ at_leaving o t Load w ∷ [])) w 0
    (λ zero_found. tablet_due o at (t + 1) (trail ++ at_leaving o t Load w ∷ []) (omega (arith, below))
    (subst (TabletsPassed o (t + 1)) (ap (λ z. front ++ at_leaving o t Load z ∷ []) (sym zero_found)
    ∙ sym more) (stays t front passed)))
    (λ some. goes_on o at t Shutting _ front (at_leaving o t Load w ∷ []) passed (record {
      word = w;
      some = some;
      made = refl;
    }) more)
tablet_shown o at t Shutting w trail front own owner is_own known fits acts passed shown made =
    goes_on o at t Draining _ front _ passed (record {
      front = own;
      leaves = shown;
      before = w;
      looks = [];
      counted = All-nil (λ v. 0 < count_of v);
      made = refl;
    }) (grown trail front own _ made)
tablet_shown o at t Draining w trail front own owner is_own known fits acts passed shown made =
    let gate = index o.shape (tablet_gate t) in
    let more = grown own shown.front _ (sees gate Load w) shown.made in
    by_bool (λ b. Evidence o at (if b then Evacuating t Draining else Evacuating t LoadingHome) at
    (trail ++ sees gate Load w ∷ [])) (is_counting w)
    (λ some. goes_on o at t Draining _ front _ passed (record {
      front = shown.front;
      leaves = shown.leaves;
      before = shown.before;
      looks = shown.looks ++ w ∷ [];
      counted = All-push (λ v. 0 < count_of v) shown.looks w shown.counted (counts w some);
      made = more ∙ ap (λ (q : List Observation). shown.front ++ at_gate o t (Or shut_bit) shown.before ∷
          q) (looked gate w shown.looks);
    }) (grown trail front own _ made))
    (λ nobody. goes_on o at t LoadingHome _ front _ passed (record {
      before = shown.front;
      leaves = shown.leaves;
      looks = at_gate o t (Or shut_bit) shown.before ∷ (map (sees gate Load) shown.looks ++ sees gate Load w ∷ []);
      shut = record {
        before = shown.before;
        looks = shown.looks;
        last = w;
        made = refl;
        counted = shown.counted;
        empty = counts_not w nobody;
      };
      made = more;
    }) (grown trail front own _ made))
tablet_shown o at t LoadingHome w trail front own owner is_own known fits acts passed shown made =
    record_due o at t w (first_entry o.shape t) _ front _
    (first_entry_rises o.shape.entries t (t + 1) (omega arith)) passed
    (opens _ (record { before = own; drained = shown; made = refl })) (grown trail front own _ made)
tablet_shown o at t (LoadingEntry region x) w trail front own owner is_own known fits acts passed shown made =
    let below = known.entry_is.below in
    by_bool (λ b. Evidence o at
    (if b then Evacuating t
    (Copying region x (opening_copy o.shape x (entry_at w) region)) else at_record o t region (x + 1)) at
    (trail ++ at_word o x Load w ∷ []))
    (is_left o region (entry_at w))
    (λ left. goes_on o at t (Copying region x (opening_copy o.shape x (entry_at w) region)) _ front _ passed
    (record { front = own; copied = shown; word = w; left = left; since = []; goes = begins _; made = refl })
    (grown trail front own _ made))
    (λ not_left. record_due o at t region (x + 1) _ front _ (omega (arith, below)) passed
    (passes x w own shown not_left) (grown trail front own _ made))
tablet_shown o at t (Copying region x copy) w trail front own owner is_own known fits acts passed shown made =
    let below = known.0.entry_is.below in
    copy_shown o at t region x (copying.fed copy w) (copying.next_of (copying.fed copy w)) _ front _ refl
    (omega (arith, below)) passed (record {
      front = shown.front;
      copied = shown.copied;
      word = shown.word;
      left = shown.left;
      since = shown.since ++ seen (copying.next_of copy) w ∷ [];
      goes = steps _ copy shown.since (did (copying.next_of copy)) w shown.goes
          (act_done (copying.next_of copy) acts) fits;
      made = grown own shown.front _ (seen (copying.next_of copy) w) shown.made;
    }) (grown trail front own _ made)
tablet_shown o at t Clearing w trail front own owner is_own known fits acts passed shown made =
    goes_on o at t Reopening _ front _ passed (record {
      before = own;
      region = shown.0;
      copied = shown.1;
      word = w;
      made = refl;
    }) (grown trail front own _ made)
tablet_shown o at t Reopening w trail front own owner is_own known fits acts passed shown made =
    let below = is_own.below in
    tablet_due o at (t + 1) _ (omega (arith, below))
    (subst (TabletsPassed o (t + 1)) (sym (grown trail front own _ made))
    (leaves t front _ passed (record { before = own; cleared = shown; word = w; made = refl })))

-- the entry goes on at this stage
entry_on : (o : Owner) (at x slot : ℕ) (s : FreeStage) (names : List Name) (trail front own : List Observation)
    → EntriesDone o at x slot names front → EntryShown o slot x s own → trail ≡ front ++ own →
    Evidence o at (Freeing x s) slot trail
entry_on o at x slot s names trail front own passed shown made = record {
  front = front;
  own = own;
  names = names;
  passed = passed;
  shown = shown;
  made = made;
}

entry_shown : (o : Owner) (at x slot : ℕ) (s : FreeStage) (w : ℕ) (names : List Name)
    (trail front own : List Observation) → IsOwnEntry o x →
    EntriesDone o at x slot names front → EntryShown o slot x s own → trail ≡ front ++ own →
    Evidence o at (free_fed o x s w) (told_at o.shape.ring slot s) (trail ++ seen (free_next o (slot_at o slot) x s) w ∷
    [])
entry_shown o at x slot Loading w names trail front own is_own passed shown made =
    let more = first_grown trail front own (at_word o x Load w) made shown in
    let below = is_own.below in
    by_bool (λ b. Evidence o at (if b then Freeing x (Storing (entry_at w).generation) else at_entry o (x + 1)) slot
    (trail ++ at_word o x Load w ∷ [])) (is_dead o (entry_at w))
    (λ dead. entry_on o at x slot (Storing (entry_at w).generation) names _ front _ passed (w, dead, refl, refl) more)
    (λ not_dead. entry_due o at (x + 1) slot names _ (omega (arith, below)) (record {
      tablets = passed.tablets;
      entries = _;
      tablets_passed = passed.tablets_passed;
      entries_passed = keeps x w slot passed.entries names passed.entries_passed not_dead;
      made = more ∙ grown front passed.tablets passed.entries (at_word o x Load w) passed.made;
    }))
entry_shown o at x slot (Storing generation) w names trail front own is_own passed shown made =
    entry_on o at x slot (Awaiting generation) names _ front _ passed (
      _,
      [],
      record {
        word = shown.0;
        dead = shown.1;
        generation_is = shown.2;
        before = w;
        made = ap (λ (q : List Observation). q ++ seen (free_next o (slot_at o slot) x (Storing generation)) w ∷
            []) shown.3;
      },
      record { looks = []; full = All-nil (λ v. v ≢ 0); made = refl },
      sym (append-nil _),
    )
    (grown trail front own _ made)
entry_shown o at x slot (Awaiting generation) w names trail front own is_own passed shown made =
    let more = grown own shown.0 shown.1 (sees (slot_at o slot) Load w) shown.4 in
    let full = shown.3 in
    let looks_more = ap (λ (q : List Observation). q ++ sees (slot_at o slot) Load w ∷ []) full.made in
    by_eq (λ b. Evidence o at (if b then Freeing x (Telling generation) else Freeing x (Awaiting generation)) slot
    (trail ++ sees (slot_at o slot) Load w ∷ [])) w 0
    (λ empty. entry_on o at x slot (Telling generation) names _ front _ passed (
      shown.0,
      _,
      shown.2,
      record {
        looks = full.looks;
        full = full.full;
        made = looks_more
            ∙ ap (λ z. map (sees (slot_at o slot) Load) full.looks ++ sees (slot_at o slot) Load z ∷ []) empty;
      },
      more,
    )
    (grown trail front own _ made))
    (λ some. entry_on o at x slot (Awaiting generation) names _ front _ passed (
      shown.0,
      _,
      shown.2,
      record {
        looks = full.looks ++ w ∷ [];
        full = All-push (λ v. v ≢ 0) full.looks w full.full some;
        made = looks_more
            ∙ looked (slot_at o slot) w full.looks;
      },
      more,
    )
    (grown trail front own _ made))
entry_shown o at x slot (Telling generation) w names trail front own is_own passed shown made =
    let told = seen (free_next o (slot_at o slot) x (Telling generation)) w in
    let below = is_own.below in
    entry_due o at (x + 1) (after_place o.shape.ring slot) (names ++ name_of x generation ∷
    []) _ (omega (arith, below)) (record {
      tablets = passed.tablets;
      entries = _;
      tablets_passed = passed.tablets_passed;
      entries_passed = frees x generation slot passed.entries _ names passed.entries_passed (record {
        front = shown.0;
        stored = shown.2;
        looks = shown.1;
        empty = shown.3;
        before = w;
        made = grown own shown.0 shown.1 told shown.4;
      });
      made = grown trail front own told made
          ∙ (ap (λ (q : List Observation). q ++ (own ++ told ∷ [])) passed.made
          ∙ append_assoc passed.tablets passed.entries (own ++ told ∷ []));
    })

pub stage_shown : (o : Owner) (at slot : ℕ) (s : EvacStage) (w : ℕ) (trail : List Observation) → IsOwner o
    → StageIsKnown o s → StageFits o s w → IsAct (stage_next o (slot_at o slot) s) →
    Evidence o at s slot trail
    → Evidence o at (stage_fed o s w) (at_fed o.shape.ring slot s)
    (trail ++ seen (stage_next o (slot_at o slot) s) w ∷ [])
stage_shown o at slot (Evacuating t s) w trail owner known fits acts h =
    let here = h.1 in
    subst (λ k. Evidence o at (tablet_fed o t s w) k (trail ++ seen (tablet_next o t s) w ∷ [])) (sym h.0)
    (tablet_shown o at t s w trail here.front here.own owner known.0 known.1 fits acts here.passed here.shown here.made)
stage_shown o at slot (Freeing x s) w trail owner known fits acts h =
    entry_shown o at x slot s w h.names trail h.front h.own known.0 h.passed h.shown h.made
stage_shown o at slot AwaitingEnd w trail owner known fits acts h =
    let full = h.shown in
    let looks_more = ap (λ (q : List Observation). q ++ sees (slot_at o slot) Load w ∷ []) full.made in
    by_eq (λ b. Evidence o at (if b then TellingEnd else AwaitingEnd) slot (trail ++ sees (slot_at o slot) Load w ∷
    [])) w 0
    (λ empty. record {
      front = h.front;
      own = h.own ++ sees (slot_at o slot) Load w ∷ [];
      names = h.names;
      passed = h.passed;
      shown = record {
        looks = full.looks;
        full = full.full;
        made = looks_more
            ∙ ap (λ z. map (sees (slot_at o slot) Load) full.looks ++ sees (slot_at o slot) Load z ∷ []) empty;
      };
      made = grown trail h.front h.own _ h.made;
    })
    (λ some. record {
      front = h.front;
      own = h.own ++ sees (slot_at o slot) Load w ∷ [];
      names = h.names;
      passed = h.passed;
      shown = record {
        looks = full.looks ++ w ∷ [];
        full = All-push (λ v. v ≢ 0) full.looks w full.full some;
        made = looks_more ∙ looked (slot_at o slot) w full.looks;
      };
      made = grown trail h.front h.own _ h.made;
    })
stage_shown o at slot TellingEnd w trail owner known fits acts h = record {
  front = trail;
  last = slot;
  waited = h;
  before = w;
  made = refl;
  slot_is = refl;
}
stage_shown o at slot Ended w trail owner known fits acts h = absurd acts

shown : (at : ℕ) → Keeps (λ l trail. Evidence l.owner at l.stage l.at trail)
shown at l trail w known acts fits h = stage_shown l.owner at l.at l.stage w trail known.owner known.stage fits acts h

opening_known : (o : Owner) (at : ℕ) → IsOwner o → at < o.shape.ring → IsKnown (opening o at)
opening_known o at owner below =
    record { owner = owner; at = below; stage = tablet_known o (first_tablet o) owner (omega arith) }

pub evacuations_go : EvacuationsGo
evacuations_go o at trail l owner below goes =
    let end : Along (λ m q. Evidence m.owner at m.stage m.at q) (opening o at) trail l =
    along (λ m q. Evidence m.owner at m.stage m.at q) (opening o at) trail l goes (opening_known o at owner below)
    (shown at)
    (tablet_due o at (first_tablet o) [] (first_is_before_end o) no_tablets) in
    (end.same, subst (λ (q : Owner). Evidence q at l.stage l.at trail) end.same end.holds)
