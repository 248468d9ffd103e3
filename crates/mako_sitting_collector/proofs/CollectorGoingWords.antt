-- What the collector finds in root words and tops in a pause, and how many names it has got of roots.
use Rattle.std.proofs.Common.{◌≡◌, ℕ, zero, suc, ◌+◌, ◌-◌, ◌*◌, ◌/◌, ◌%◌, ◌<◌, ◌≤◌, None, List, length, get_or}
use Rattle.std.proofs.Common.{slice_get, option_map, map, sum_by, Some, sym, ap, subst, refl, ◌∙◌, arith}
use Rattle.std.proofs.lemmas.List.{length-append}
use Rattle.std.proofs.lemmas.Option.{same_Some, slice_get-get_or, slice_get-map}
use Rattle.mako_words.specs.declared.value.Value.{Value}
use Rattle.mako_words.specs.declared.value.Value.TheVariants as value
use Rattle.mako_words.specs.Values.{IsPacked, FitsValue, value_at, value_word}
use Rattle.mako_words.proofs.ValueWords.{value_words, value_at-value_word}
use Rattle.mako_shape.specs.declared.numbers.Numbers.{Numbers}
use Rattle.mako_shape.specs.Places.{root, top, Within, word_at}
use Rattle.mako_shape.proofs.Rows.{row-below}
use Rattle.mako_model.specs.Heaps.{root_of}
use Rattle.mako_model.specs.Legal.{Facts, state_of}
use Rattle.mako_model.specs.Lawful.{HasRoot}
use Rattle.mako_model.proofs.RootRows.{has_roots}
use Rattle.mako_names.proofs.Good.{root_is_good, good_is_taken}
use Rattle.mako_layout.specs.Facets.{Gift, Choice, chooses, settled, debt_of, Paused}
use Rattle.mako_layout.specs.Evacuations.{top_read, to_raise, counted_in}
use Rattle.mako_layout.specs.StepParts.{collector_seat}
use Rattle.mako_layout.proofs.Alone.{nobody_owes}
use Rattle.mako_phases.specs.Facets.{Part, rooting, PhaseFacet, mutating, serving, collecting, role_of, IsInPause}
use Rattle.mako_phases.specs.Facets.{IsNotAdmitted}
use Rattle.mako_phases.specs.Orders.{names_in, loaded_names, PendingFits}
use Rattle.mako_ring.specs.Tracing.{FieldFits}
use Rattle.mako_joint.specs.Joints.{JointScene, layout_in}
use Rattle.mako_joint.proofs.Heaps.{values_fit}
use Rattle.mako_joint.proofs.Pauses.{gates_drain, parts_pause, by_part}
use Rattle.mako_call.specs.declared.call_stage.CallStage.{CallStage}
use Rattle.mako_call.specs.declared.call_stage.CallStage.TheVariants.{Arriving, Rooting, Entering, Moving, Getting}
use Rattle.mako_call.specs.declared.call_stage.CallStage.TheVariants.{Putting, Allocating, Asking, Leaving, Ended}
use Rattle.mako_mutator.specs.declared.progress.Task.{Task}
use Rattle.mako_mutator.specs.declared.progress.Task.TheVariants.{Attempting, Awaiting, Finishing, Ended as TaskEnded}
use Rattle.mako_pause.specs.Collecting.{Collecting}
use Rattle.mako_seat.specs.declared.seat.Seat.{Seat}
use Rattle.mako_seat.specs.declared.seat.Seat.TheVariants.{Mutator, Server, Collector}
use Rattle.mako_state.specs.Carried.{stage_carried, task_carried, WordStands}
use Rattle.mako_mutating.specs.MutatorFacets.{task_admission, stage_admission}
use Rattle.mako_collecting.specs.Facets.{part_of, names_of}
use Rattle.mako_sitting.specs.Seats.{SeatSits, AllSit}

-- ---- a mutator that is not admitted has no root still to store
stage_carries_none : (stage : CallStage) → IsNotAdmitted (stage_admission stage) → stage_carried stage ≡ None
stage_carries_none Arriving out = refl
stage_carries_none (Rooting s) out = absurd out
stage_carries_none (Entering e s) out = absurd out
stage_carries_none (Moving e s) out = absurd out
stage_carries_none (Getting at get s) out = absurd out
stage_carries_none (Putting at put s) out = absurd out
stage_carries_none (Allocating s) out = absurd out
stage_carries_none (Asking s) out = refl
stage_carries_none (Leaving s) out = refl
stage_carries_none (Ended outcome) out = refl

task_carries_none : (task : Task) → IsNotAdmitted (task_admission task) → task_carried task ≡ None
task_carries_none (Attempting c) out = stage_carries_none c.stage out
task_carries_none (Awaiting c) out = refl
task_carries_none Finishing out = refl
task_carries_none TaskEnded out = refl

-- ---- names of roots

names_few : (v : Value) → length (names_in v) ≤ 1
names_few (value.Ref x) = omega arith
names_few (value.Num x) = omega arith
names_few value.Null = omega arith

loaded_few : (n : Numbers) (words : List ℕ) (k : ℕ) → length (loaded_names n words k) ≤ k
unfolding loaded_names
loaded_few n words zero = omega arith
loaded_few n words (suc k) =
    let rest = loaded_few n words k in
    let v = value_at (word_at n words (root (k / n.roots) (k % n.roots))) in
    let one = names_few v in
    let both = length-append (loaded_names n words k) (names_in v) in
    omega arith

module _ (n : Numbers) (w : Facts) (s : JointScene) (seats : List Seat) (all : AllSit n w s seats) (i : ℕ)
    (c : Collecting) (here : slice_get seats i ≡ Some (Collector c)) where
  phase_here : slice_get s.facets.phases (collector_seat n) ≡ Some (collecting (part_of n c) (names_of c))
  phase_here = (all.each i (Collector c) here).here.phase

  -- ---- the names that it has got

  abbrev Pends : PhaseFacet → Type 0
  Pends (mutating admission) = Unit {0}
  Pends (serving r stage ended laden) = Unit {0}
  Pends (collecting part pending) = PendingFits n s.words part pending

  role_at : (j : ℕ) (f : PhaseFacet) → slice_get s.facets.phases j ≡ Some f
      → slice_get (map role_of s.facets.phases) j ≡ Some (role_of f)
  role_at j f at = slice_get-map role_of s.facets.phases j ∙ ap (option_map role_of) at

  pends : PendingFits n s.words (part_of n c) (names_of c)
  pends =
      let o = all.joint.order in
      let mine = collecting (part_of n c) (names_of c) in
      let one : collector_seat n ≡ o.seat = o.seated.collectors (collector_seat n) o.seat
      (role_at (collector_seat n) mine phase_here) (role_at o.seat (collecting o.part o.pending) o.here) in
      subst Pends
      (same_Some (collecting o.part o.pending) mine
      (sym o.here ∙ ap (slice_get s.facets.phases) (sym one) ∙ phase_here)) o.words_stand.pends

  pub pending_few : (cycle m q : ℕ) → part_of n c ≡ rooting cycle (m * n.roots + q) → m < n.mutators → q < n.roots
      → length (names_of c) < n.mutators * n.roots
  pending_few cycle m q is low small =
      let are : names_of c ≡ loaded_names n s.words (m * n.roots + q) =
      subst (λ (p : Part). PendingFits n s.words p (names_of c)) is pends in
      let few = loaded_few n s.words (m * n.roots + q) in
      let counts = ap length are in
      let row = row-below m n.roots q n.mutators low small in
      omega (arith, few, counts, row)

  -- ---- in a pause
  module _ (paused : IsInPause (part_of n c)) where
    gates_paused : Paused n s.facets.gates
    gates_paused =
        parts_pause n w s all.joint
        (by_part n w s all.joint IsInPause (collector_seat n) (part_of n c) (names_of c) phase_here paused)

    -- a top is one of a region, where the choice owes nothing
    pub top_fits : (given : List Gift) (spare : List ℕ) → s.facets.choice ≡ chooses settled given spare → (t : ℕ)
        → Within n (top t) → word_at n s.words (top t) ≤ n.words
    top_fits given spare begun t low =
        let none = nobody_owes n (layout_in n w s) all.joint.layout gates_paused t in
        let within =
        subst (λ (k : Choice). top_read (debt_of k) t (word_at n s.words (top t))
        + sum_by (to_raise n t) s.facets.works - sum_by (counted_in n t) s.facets.works ≤ n.words) begun
        (all.joint.layout.copy.within t low) in
        omega (arith, none.0, none.1, within)

    -- a root word is that of the root's value
    module _ (m q : ℕ) (low : m < n.mutators) (small : q < n.roots) where
      has : HasRoot (state_of w s.front.history) m q
      has =
          let facts = all.joint.script.facts in
          (has_roots w s.front.history all.joint.names.hold.answers.lawful.legal).each m q
          (subst (λ z. m < z) (sym facts.mutators) low) (subst (λ z. q < z) (sym facts.roots) small)

      fits : FitsValue has.0
      fits = (values_fit n w s all.joint).roots m q has.0 has.1

      word_is : word_at n s.words (root m q) ≡ value_word has.0
      word_is = by (get_or seats m (Collector c)) at (all.each m _ at)
        where
          at : slice_get seats m ≡ Some (get_or seats m (Collector c))
          at = slice_get-get_or seats m (Collector c) (let count = all.count in omega arith)

          by : (x : Seat) → slice_get seats m ≡ Some x → SeatSits n w s all.taker all.places m x
              → word_at n s.words (root m q) ≡ value_word has.0
          by (Mutator d) is sits =
              subst (λ carried. WordStands carried q (word_at n s.words (root m q)) has.0)
              (task_carries_none d.progress.task
              (gates_drain n w s all.joint (collector_seat n) (part_of n c) (names_of c) phase_here paused m
              (task_admission d.progress.task) sits.seen.phase))
              (sits.keeps.roots q has.0 small has.1)
          by (Server v) is sits = let e = sits.number in absurd (omega arith)
          by (Collector x) is sits = let e = sits.number in absurd (omega arith)

      value_fits : (v : Value) → root_of (state_of w s.front.history) m q ≡ Some v → FieldFits n v
      value_fits value.Null is = tt
      value_fits (value.Num y) is = tt
      value_fits (value.Ref name) is =
          let answers = all.joint.names.hold.answers in
          (good_is_taken n s.words w s.front name.entry name.generation all.joint.script.facts answers.lawful
          all.joint.names.hold.table
          (root_is_good w s.front.history m q name answers.lawful.legal is)).within

      pub root_fits : IsPacked (word_at n s.words (root m q)) × FieldFits n (value_at (word_at n s.words (root m q)))
      root_fits = (
        subst IsPacked (sym word_is) (value_words.packed has.0 fits),
        subst (FieldFits n) (sym (ap value_at word_is ∙ value_at-value_word has.0 fits)) (value_fits has.0 has.1),
      )
