-- The facets of one seat are of one machine, as steps of the collector ask; and in a pause roots stand, and nothing
-- else
-- is to be used.
use Rattle.std.proofs.Common.{◌≡◌, ℕ, zero, suc, ◌+◌, ◌-◌, ◌<◌, ⊎_elim, List, [], ◌∷◌, length, replicate, slice_get}
use Rattle.std.proofs.Common.{slice_index_or, Some, None, sym, ap, subst, refl, ◌∙◌, arith}
use Rattle.std.proofs.lemmas.Option.{same_Some, none-some}
use Rattle.std.specs.List.{Contains}
use Rattle.mako_words.specs.declared.name.Name.{Name}
use Rattle.mako_words.specs.declared.phase_word.PhaseWord.{PhaseWord}
use Rattle.mako_words.specs.declared.phase_word.PhaseWord.TheVariants.{Idle, Trace, Evac, Stop}
use Rattle.mako_words.specs.declared.value.Value.{Value}
use Rattle.mako_words.specs.declared.value.Value.TheVariants.{Null, Ref}
use Rattle.mako_words.specs.Values.{value_at, value_word}
use Rattle.mako_words.proofs.ValueWords.{value_at-value_word}
use Rattle.mako_shape.specs.declared.numbers.Numbers.{Numbers}
use Rattle.mako_shape.specs.Places.{root, word_at}
use Rattle.mako_model.specs.declared.point.Point.{Point}
use Rattle.mako_model.specs.Heaps.{Heap, root_of, with_root, with_fields, opening_roots}
use Rattle.mako_model.specs.Reachable.{StandsInRoot}
use Rattle.mako_model.specs.Lawful.{HasRoot, heap_after}
use Rattle.mako_model.specs.Legal.{Facts, state_of, IsLegal}
use Rattle.mako_model.specs.Dead.{made_by}
use Rattle.mako_model.proofs.Changes.{Change, Nothing, Snapped, Rooted, Written, New, change_of}
use Rattle.mako_model.proofs.Histories.{kept}
use Rattle.mako_model.proofs.Lookups.{root_cases}
use Rattle.mako_model.proofs.RootRows.{has_roots}
use Rattle.mako_layout.specs.StepParts.{collector_seat}
use Rattle.mako_ring.specs.TraceFacets as trace
use Rattle.mako_ring.specs.TraceFacets.{TraceFacet}
use Rattle.mako_shades.specs.Serving.{ServerIs, AreSole}
use Rattle.mako_shades.specs.Steps.{IsAtRest}
use Rattle.mako_phases.specs.Facets.{Admission, mutating, IsInPause, IsNotAdmitted}
use Rattle.mako_joint.specs.Joints.{JointScene}
use Rattle.mako_joint.proofs.Heaps.{values_fit}
use Rattle.mako_joint.proofs.Pauses.{gates_drain}
use Rattle.mako_call.specs.declared.object.Put.{Put as PutArgs}
use Rattle.mako_call.specs.declared.call_stage.CallStage.{CallStage}
use Rattle.mako_call.specs.declared.call_stage.CallStage.TheVariants.{Arriving, Rooting, Entering, Moving, Getting}
use Rattle.mako_call.specs.declared.call_stage.CallStage.TheVariants.{Putting, Allocating, Asking, Leaving, Ended}
use Rattle.mako_call.specs.declared.putting.PutStage.{PutStage}
use Rattle.mako_call.specs.declared.putting.PutStage.TheVariants.{LoadingHeader as PutHeader, LoadingOld}
use Rattle.mako_call.specs.declared.putting.PutStage.TheVariants.{LookingAtBarrier, StoringBarrier, StoringField}
use Rattle.mako_mutator.specs.declared.progress.Task.{Task}
use Rattle.mako_mutator.specs.declared.progress.Task.TheVariants.{Attempting, Awaiting, Finishing, Ended as TaskEnded}
use Rattle.mako_pause.specs.Collecting.{Collecting}
use Rattle.mako_seat.specs.declared.seat.Seat.{Seat}
use Rattle.mako_seat.specs.declared.seat.Seat.TheVariants.{Mutator, Server, Collector}
use Rattle.mako_state.specs.Carried.{stage_carried, task_carried, WordStands}
use Rattle.mako_mutating.specs.MutatorFacets.{storing_in, put_trace, stage_trace, task_trace, task_admission}
use Rattle.mako_mutating.specs.MutatorFacets.{stage_admission, stage_held, task_held, held_of, trace_of}
use Rattle.mako_tracing.specs.ServerFacets.{server_trace, server_phase}
use Rattle.mako_tracing.proofs.Resting.{unladen_rest}
use Rattle.mako_collecting.specs.Facets.{part_of, names_of, phase_facet}
use Rattle.mako_collecting.specs.Ties.{TraceTied, TracesTiedAt, TracesAreTied, IsInRootWord, RootsStand}
use Rattle.mako_sitting.specs.Seats.{SeatSits, AllSit}
use Rattle.mako_sitting_collector.specs.CollectorSnaps.{SeatsAreAll}

-- ---- a mutator

none_in_phase : (p : PhaseWord) (object : Name) (field r : ℕ) → ¬ ServerIs (storing_in p object field) r
none_in_phase (Idle cycle) object field r is = is
none_in_phase (Trace cycle) object field r is = is
none_in_phase (Evac cycle) object field r is = is
none_in_phase (Stop cycle) object field r is = is

none_in_put : (object : Name) (put : PutArgs) (stage : PutStage) (r : ℕ) → ¬ ServerIs (put_trace object put stage) r
none_in_put object put PutHeader r is = is
none_in_put object put LoadingOld r is = is
none_in_put object put (LookingAtBarrier old) r is = is
none_in_put object put (StoringBarrier old) r is = is
none_in_put object put StoringField r is = none_in_phase put.phase object put.field r is

none_in_stage : (stage : CallStage) (r : ℕ) → ¬ ServerIs (stage_trace stage) r
none_in_stage Arriving r is = is
none_in_stage (Rooting s) r is = is
none_in_stage (Entering e s) r is = is
none_in_stage (Moving e s) r is = is
none_in_stage (Getting at get s) r is = is
none_in_stage (Putting at put s) r is = none_in_put at.object put s r is
none_in_stage (Allocating s) r is = is
none_in_stage (Asking s) r is = is
none_in_stage (Leaving s) r is = is
none_in_stage (Ended outcome) r is = is

-- it is no server, as tracing reads it
no_server : (task : Task) (r : ℕ) → ¬ ServerIs (task_trace task) r
no_server (Attempting c) r is = none_in_stage c.stage r is
no_server (Awaiting c) r is = is
no_server Finishing r is = is
no_server TaskEnded r is = is

-- where it is not admitted
stage_rests : (stage : CallStage) → IsNotAdmitted (stage_admission stage) → IsAtRest (stage_trace stage)
stage_rests Arriving out = tt
stage_rests (Rooting s) out = tt
stage_rests (Entering e s) out = tt
stage_rests (Moving e s) out = tt
stage_rests (Getting at get s) out = tt
stage_rests (Putting at put s) out = absurd out
stage_rests (Allocating s) out = tt
stage_rests (Asking s) out = tt
stage_rests (Leaving s) out = tt
stage_rests (Ended outcome) out = tt

-- it has nothing to do with tracing
pub task_rests : (task : Task) → IsNotAdmitted (task_admission task) → IsAtRest (task_trace task)
task_rests (Attempting c) out = stage_rests c.stage out
task_rests (Awaiting c) out = tt
task_rests Finishing out = tt
task_rests TaskEnded out = tt

-- it has no name still to use, and no root still to be stored
stage_nothing : (stage : CallStage) → IsNotAdmitted (stage_admission stage)
    → (stage_held stage ≡ []) × (stage_carried stage ≡ None)
stage_nothing Arriving out = (refl, refl)
stage_nothing (Rooting s) out = absurd out
stage_nothing (Entering e s) out = absurd out
stage_nothing (Moving e s) out = absurd out
stage_nothing (Getting at get s) out = absurd out
stage_nothing (Putting at put s) out = absurd out
stage_nothing (Allocating s) out = absurd out
stage_nothing (Asking s) out = (refl, refl)
stage_nothing (Leaving s) out = (refl, refl)
stage_nothing (Ended outcome) out = (refl, refl)

task_nothing : (task : Task) → IsNotAdmitted (task_admission task)
    → (task_held task ≡ []) × (task_carried task ≡ None)
task_nothing (Attempting c) out = stage_nothing c.stage out
task_nothing (Awaiting c) out = (refl, refl)
task_nothing Finishing out = (refl, refl)
task_nothing TaskEnded out = (refl, refl)

-- ---- a list

none_has : {A : Type 0} (x : A) → ¬ Contains [] x
none_has x has = let low : has.0 < 0 = has.1 in omega arith

pub item_at : {A : Type 0} (xs : List A) (i : ℕ) → i < length xs → (x : A) × (slice_get xs i ≡ Some x)
item_at [] i low = absurd (omega arith)
item_at (x ∷ xs) zero low = (x, refl)
item_at (x ∷ xs) (suc i) low = item_at xs i (omega arith)

-- ---- roots are where the script has them

abbrev RootsAreLow : Facts → Heap → Type 0
RootsAreLow w h = (m q : ℕ) (v : Value) → root_of h m q ≡ Some v → q < w.roots

low_set : (w : Facts) (h : Heap) (m q : ℕ) (u : Value) → HasRoot h m q → RootsAreLow w h
    → RootsAreLow w (with_root h m q u)
low_set w h m q u has low k p v at =
    ⊎_elim (λ t. subst (λ z. z < w.roots) (sym t.1) (low m q has.0 has.1)) (λ t. low k p v t)
    (root_cases h m q k p u v at)

low_changed : (w : Facts) (h after : Heap) (made : List Name) → Change h after made → RootsAreLow w h
    → RootsAreLow w after
low_changed w h after made (Nothing e none) low = subst (RootsAreLow w) (sym e) low
low_changed w h after made (Snapped e none) low = subst (RootsAreLow w) (sym e) low
low_changed w h after made (Rooted m q v there hand e none) low =
    subst (RootsAreLow w) (sym e) (low_set w h m q v there low)
low_changed w h after made (Written m q name fields i v refers hand e none) low = subst (RootsAreLow w) (sym e) low
low_changed w h after made (New m q name fields there fresh e one) low =
    subst (RootsAreLow w) (sym e)
    (low_set w (with_fields h name (replicate fields Null)) m q (Ref name) there low)

below_copies : {A : Type 0} (k q : ℕ) (u v : A) → slice_get (replicate k u) q ≡ Some v → q < k
below_copies zero q u v at = absurd (none-some v at)
below_copies (suc k) zero u v at = omega arith
below_copies (suc k) (suc q) u v at = let l = below_copies k q u v at in omega arith

opening_low : (mutators roots m q : ℕ) (v : Value) → 0 < roots
    → slice_get (slice_index_or (replicate mutators (opening_roots roots)) m []) q ≡ Some v → q < roots
opening_low zero roots m q v some at = absurd (none-some v at)
opening_low (suc mutators) roots zero zero v some at = some
opening_low (suc mutators) roots zero (suc q) v some at =
    let l = below_copies (roots - 1) q Null v at in omega arith
opening_low (suc mutators) roots (suc m) q v some at = opening_low mutators roots m q v some at

row_low : {A : Type 0} (rows : List (List A)) (m q : ℕ) (v : A) → slice_get (slice_index_or rows m []) q ≡ Some v
    → m < length rows
row_low [] m q v at = absurd (none-some v at)
row_low (row ∷ rows) zero q v at = omega arith
row_low (row ∷ rows) (suc m) q v at = let l = row_low rows m q v at in omega arith

roots_low : (w : Facts) (history : List Point) → IsLegal w history → 0 < w.roots
    → RootsAreLow w (state_of w history)
roots_low w history legal some =
    kept (RootsAreLow w) (λ h p lawful low. low_changed w h (heap_after h p) (made_by p) (change_of h p lawful) low)
    w history legal (λ m q v at. opening_low (length w.programs) w.roots m q v some at)

-- ---- the seats

module _ (n : Numbers) (w : Facts) (s : JointScene) (seats : List Seat) (all : AllSit n w s seats) where
  found : (i : ℕ) → i < n.mutators + n.servers + 1 → (v : Seat) × (slice_get seats i ≡ Some v)
  found i low = item_at seats i (subst (λ z. i < z) (sym all.count) low)

  module _ (beside : SeatsAreAll n s) where
    -- a server's seat is that with its number
    numbered : (seat : ℕ) (f : TraceFacet) (r : ℕ) → slice_get s.facets.trace seat ≡ Some f → ServerIs f r
        → seat ≡ n.mutators + r
    numbered seat f r at is =
        let v = found seat (beside.traces seat f at) in by v.0 (all.each seat v.0 v.1)
      where
        by : (v : Seat) → SeatSits n w s all.taker all.places seat v → seat ≡ n.mutators + r
        by (Mutator d) sits =
            absurd (no_server d.progress.task r
            (subst (λ g. ServerIs g r) (same_Some f (trace_of d) (sym at ∙ sits.seen.trace)) is))
        by (Server v) sits =
            let e : v.tracer.server ≡ r =
            subst (λ g. ServerIs g r) (same_Some f (server_trace v) (sym at ∙ sits.here.trace)) is in
            sits.number ∙ ap (λ z. n.mutators + z) e
        by (Collector c) sits =
            absurd (subst (λ g. ServerIs g r)
            (same_Some f (trace.collecting (names_of c))
            (sym at ∙ subst (λ z. slice_get s.facets.trace z ≡ Some (trace.collecting (names_of c))) (sym sits.number)
            sits.here.trace)) is)

    pub traces_sole : AreSole s.facets.trace
    traces_sole seat other f g r at there is its =
        numbered seat f r at is ∙ sym (numbered other g r there its)

    pub traces_tied : TracesAreTied s.facets.phases s.facets.trace
    traces_tied seat f at = let v = found seat (beside.traces seat f at) in by v.0 (all.each seat v.0 v.1)
      where
        by : (v : Seat) → SeatSits n w s all.taker all.places seat v → TracesTiedAt s.facets.phases seat f
        by (Mutator d) sits =
            let e : trace_of d ≡ f = same_Some (trace_of d) f (sym sits.seen.trace ∙ at) in record {
              facet = mutating (task_admission d.progress.task);
              here = sits.seen.phase;
              tied = subst (TraceTied (mutating (task_admission d.progress.task))) e
                  (λ out. task_rests d.progress.task out);
            }
        by (Server v) sits =
            let e : server_trace v ≡ f = same_Some (server_trace v) f (sym sits.here.trace ∙ at) in record {
              facet = server_phase v;
              here = sits.here.phase;
              tied = subst (TraceTied (server_phase v)) e (λ rests. (unladen_rest v.tracer rests).0);
            }
        by (Collector c) sits = record {
          facet = phase_facet n c;
          here = subst (λ z. slice_get s.facets.phases z ≡ Some (phase_facet n c)) (sym sits.number) sits.here.phase;
          tied = same_Some f (trace.collecting (names_of c))
              (sym at ∙ subst (λ z. slice_get s.facets.trace z ≡ Some (trace.collecting (names_of c)))
              (sym sits.number) sits.here.trace);
        }

  -- ---- in a pause

  module _ (i : ℕ) (c : Collecting) (here : slice_get seats i ≡ Some (Collector c))
      (paused : IsInPause (part_of n c)) where
    out : (m : ℕ) (admission : Admission) → slice_get s.facets.phases m ≡ Some (mutating admission)
        → IsNotAdmitted admission
    out m admission at =
        gates_drain n w s all.joint (collector_seat n) (part_of n c) (names_of c)
        (all.each i (Collector c) here).here.phase paused m admission at

    -- no mutator has a name still to use
    pub nothing_held : SeatsAreAll n s → (seat : ℕ) (names : List Name) (name : Name)
        → slice_get s.facets.names.held seat ≡ Some names → ¬ Contains names name
    nothing_held beside seat names name at has =
        let low = beside.held seat names name at has in
        let v = found seat (omega arith) in by low v.0 (all.each seat v.0 v.1)
      where
        by : seat < n.mutators → (v : Seat) → SeatSits n w s all.taker all.places seat v → ⊥
        by low (Mutator d) sits =
            none_has name
            (subst (λ xs. Contains xs name)
            (same_Some names (held_of d) (sym at ∙ sits.seen.held)
            ∙ (task_nothing d.progress.task (out seat (task_admission d.progress.task) sits.seen.phase)).0) has)
        by low (Server v) sits = let e = sits.number in omega arith
        by low (Collector x) sits = let e = sits.number in omega arith

    -- a root word packs the root
    stands : (m q : ℕ) (v : Value) → m < n.mutators → q < n.roots → root_of (state_of w s.front.history) m q ≡ Some v
        → value_at (word_at n s.words (root m q)) ≡ v
    stands m q v low small is = let x = found m (omega arith) in by x.0 (all.each m x.0 x.1)
      where
        by : (x : Seat) → SeatSits n w s all.taker all.places m x → value_at (word_at n s.words (root m q)) ≡ v
        by (Mutator d) sits =
            let e : word_at n s.words (root m q) ≡ value_word v =
            subst (λ carried. WordStands carried q (word_at n s.words (root m q)) v)
            (task_nothing d.progress.task (out m (task_admission d.progress.task) sits.seen.phase)).1
            (sits.keeps.roots q v small is) in
            ap value_at e ∙ value_at-value_word v ((values_fit n w s all.joint).roots m q v is)
        by (Server x) sits = let e = sits.number in absurd (omega arith)
        by (Collector x) sits = let e = sits.number in absurd (omega arith)

    pub roots_stand : 0 < n.roots → RootsStand n s.words (state_of w s.front.history)
    roots_stand some = record { packed = packed; stands = stands_in }
      where
        legal : IsLegal w s.front.history
        legal = all.joint.names.hold.answers.lawful.legal

        packed : (x : Name) → StandsInRoot (state_of w s.front.history) x → IsInRootWord n s.words x
        packed x is =
            let m = row_low (state_of w s.front.history).roots is.0 is.1 (Ref x) is.2 in
            let rows = (has_roots w s.front.history legal).rows in
            let count = all.joint.script.facts.mutators in
            let low : is.0 < n.mutators = omega arith in
            let small : is.1 < n.roots =
            subst (λ z. is.1 < z) all.joint.script.facts.roots
            (roots_low w s.front.history legal (subst (λ z. 0 < z) (sym all.joint.script.facts.roots) some) is.0 is.1
            (Ref x) is.2) in record {
              mutator = is.0;
              place = is.1;
              within = (low, small);
              packed = stands is.0 is.1 (Ref x) low small is.2;
            }

        stands_in : (x : Name) → IsInRootWord n s.words x → StandsInRoot (state_of w s.front.history) x
        stands_in x r =
            let low = r.within.0 in
            let small = r.within.1 in
            let has = (has_roots w s.front.history legal).each r.mutator r.place
            (subst (λ z. r.mutator < z) (sym all.joint.script.facts.mutators) low)
            (subst (λ z. r.place < z) (sym all.joint.script.facts.roots) small) in (
              r.mutator,
              r.place,
              has.1 ∙ ap Some (sym (stands r.mutator r.place has.0 low small has.1) ∙ r.packed),
            )
