-- Facets of tracing, of the order of the phases and of live counts are of the same machines, as the choice's end asks.
use Rattle.std.proofs.Common.{◌≡◌, ℕ, ◌≤◌, ◌||◌, inl, inr, Bool, true, Option, Some, None, is_some, List, length, map}
use Rattle.std.proofs.Common.{slice_get, sym, ap, subst, refl, ◌∙◌, arith}
use Rattle.std.proofs.lemmas.List.{length-set}
use Rattle.std.proofs.lemmas.Option.{slice_get_cases, slice_get_within}
use Rattle.mako_words.specs.declared.name.Name.{Name}
use Rattle.mako_shape.specs.declared.numbers.Numbers.{Numbers}
use Rattle.mako_model.specs.Legal.{Facts}
use Rattle.mako_names.proofs.Going.{map_get}
use Rattle.mako_layout.specs.StepParts.{collector_seat}
use Rattle.mako_ring.specs.TraceFacets as trace
use Rattle.mako_ring.specs.TraceFacets.{TraceFacet, has_hand, has_off, is_filled}
use Rattle.mako_ring.specs.TracerFacets.{hand_of, off_of, doing_of}
use Rattle.mako_ring.specs.Tracing.{TracerView}
use Rattle.mako_ring.specs.declared.tracing.MarkStage.TheVariants.{Considering, Measuring, Marking as EntryMark}
use Rattle.mako_ring.specs.declared.tracing.MarkStage.TheVariants.{Counting}
use Rattle.mako_ring.specs.declared.tracing.TraceStage.{TraceStage}
use Rattle.mako_ring.specs.declared.tracing.TraceStage.TheVariants.{Sending, Scanning, Receiving, Marking, Resting}
use Rattle.mako_ring.specs.declared.tracing.TraceStage.TheVariants.{Ended as AtEnd}
use Rattle.mako_shades.specs.Steps.{IsAtRest}
use Rattle.mako_phases.specs.Facets.{serving, IsNotAdmitted}
use Rattle.mako_phases.specs.Lives.{LiveFacet, elsewhere, counting}
use Rattle.mako_joint.specs.Joints.{JointScene}
use Rattle.mako_call.specs.declared.call_stage.CallStage.{CallStage}
use Rattle.mako_call.specs.declared.call_stage.CallStage.TheVariants.{Arriving, Rooting, Entering, Moving, Getting}
use Rattle.mako_call.specs.declared.call_stage.CallStage.TheVariants.{Putting, Allocating, Asking, Leaving, Ended}
use Rattle.mako_mutator.specs.declared.progress.Task.{Task}
use Rattle.mako_mutator.specs.declared.progress.Task.TheVariants.{Attempting, Awaiting, Finishing, Ended as TaskEnded}
use Rattle.mako_seat.specs.declared.seat.Seat.{Seat}
use Rattle.mako_seat.specs.declared.seat.Seat.TheVariants.{Mutator, Server, Collector}
use Rattle.mako_mutating.specs.MutatorFacets.{trace_of, stage_trace, stage_admission, task_trace, task_admission}
use Rattle.mako_mutating.specs.MutatorFacets.{phase_facet_of}
use Rattle.mako_tracing.specs.ServerFacets.{server_trace, server_phase, is_taking, tracer_owed, stage_order}
use Rattle.mako_tracing.proofs.Resting.{unladen_rest}
use Rattle.mako_collecting.specs.Facets.{names_of, phase_facet}
use Rattle.mako_collecting.specs.Findings.{IsLaden, OwedAreTied}
use Rattle.mako_collecting.specs.Ties.{TracesTiedAt, TracesAreTied}
use Rattle.mako_sitting.specs.Seats.{SeatSits, live_facet, AllSit}
use Rattle.mako_sitting_collector.specs.CollectorChoices.{TracesAreOfSeats, TracesStayOfSeats}

-- ---- tracing and the order of the phases

call_tied : (t : CallStage) → IsNotAdmitted (stage_admission t) → IsAtRest (stage_trace t)
call_tied Arriving out = tt
call_tied (Rooting s) out = tt
call_tied (Entering e s) out = tt
call_tied (Moving e s) out = tt
call_tied (Getting a g s) out = tt
call_tied (Putting a p s) out = absurd out
call_tied (Allocating s) out = tt
call_tied (Asking s) out = tt
call_tied (Leaving s) out = tt
call_tied (Ended outcome) out = tt

task_tied : (t : Task) → IsNotAdmitted (task_admission t) → IsAtRest (task_trace t)
task_tied (Attempting m) out = call_tied m.stage out
task_tied (Awaiting m) out = tt
task_tied Finishing out = tt
task_tied TaskEnded out = tt

module _ (n : Numbers) (w : Facts) (s : JointScene) (seats : List Seat) (a : AllSit n w s seats) where
  tied_at : (seat : ℕ) (f : TraceFacet) → slice_get s.facets.trace seat ≡ Some f → (v : Seat)
      → SeatSits n w s a.taker a.places seat v → TracesTiedAt s.facets.phases seat f
  tied_at seat f is (Mutator d) sits = record {
    facet = phase_facet_of d;
    here = sits.seen.phase;
    tied = λ out.
        let same : f ≡ trace_of d = (let b = sym is ∙ sits.seen.trace in cc) in
        subst IsAtRest (sym same) (task_tied d.progress.task out);
  }
  tied_at seat f is (Server v) sits = record {
    facet = server_phase v;
    here = sits.here.phase;
    tied = λ unladen.
        let same : f ≡ server_trace v = (let b = sym is ∙ sits.here.trace in cc) in
        subst IsAtRest (sym same) (unladen_rest v.tracer unladen).0;
  }
  tied_at seat f is (Collector c) sits = record {
    facet = phase_facet n c;
    here = ap (slice_get s.facets.phases) sits.number ∙ sits.here.phase;
    tied = let b = sym is ∙ ap (slice_get s.facets.trace) sits.number ∙ sits.here.trace in cc;
  }

  pub traces_tied : TracesAreOfSeats n s → TracesAreTied s.facets.phases s.facets.trace
  traces_tied count seat f is =
      let low = slice_get_within s.facets.trace seat f is in
      let all = a.count in
      elim ((slice_get_cases seats seat).1) [
        | inl e ↦ tied_at seat f is e.0 (a.each seat e.0 e.2)
        | inr e ↦ let past : length seats ≤ seat = e.0 in absurd (omega (arith, low, count, all, past))
      ]

-- ---- live counts

abbrev laden_at : TracerView → TraceStage → Bool
laden_at t stage =
    (has_hand (hand_of stage) ||
    (has_off (off_of stage) || (is_some t.outgoing || (is_some t.scan || is_filled t.stack))))
    || is_taking (doing_of t stage)

-- who has not counted a name yet has it in hand
laden_owed : (t : TracerView) (stage : TraceStage) (owed : Name × ℕ) → tracer_owed stage ≡ Some owed
    → laden_at t stage ≡ true
laden_owed t (Sending s) owed e = absurd (let b : ⊥ = cc in b)
laden_owed t (Scanning s) owed e = absurd (let b : ⊥ = cc in b)
laden_owed t (Receiving s) owed e = absurd (let b : ⊥ = cc in b)
laden_owed t (Marking (Considering x)) owed e = absurd (let b : ⊥ = cc in b)
laden_owed t (Marking (Measuring x y)) owed e = absurd (let b : ⊥ = cc in b)
laden_owed t (Marking (EntryMark x y z)) owed e = absurd (let b : ⊥ = cc in b)
laden_owed t (Marking (Counting x y)) owed e = refl
laden_owed t (Resting s) owed e = absurd (let b : ⊥ = cc in b)
laden_owed t AtEnd owed e = absurd (let b : ⊥ = cc in b)

abbrev owed_in : LiveFacet → Option (Name × ℕ)
owed_in elsewhere = None
owed_in (counting server begun counts owed) = owed

abbrev server_in : LiveFacet → ℕ
server_in elsewhere = 0
server_in (counting server begun counts owed) = server

module _ (n : Numbers) (w : Facts) (s : JointScene) (seats : List Seat) (a : AllSit n w s seats) where
  laden : (seat server begun : ℕ) (counts : List ℕ) (owed : Name × ℕ) (v : Seat)
      → live_facet v ≡ counting server begun counts (Some owed) → SeatSits n w s a.taker a.places seat v
      → IsLaden s.facets.phases server
  laden seat server begun counts owed (Mutator d) e sits = absurd (let b : ⊥ = cc in b)
  laden seat server begun counts owed (Collector c) e sits = absurd (let b : ⊥ = cc in b)
  laden seat server begun counts owed (Server v) e sits = record {
    seat = seat;
    stage = stage_order v.tracer v.stage;
    ended = v.ended;
    here =
        sits.here.phase
        ∙ ap (λ b. Some (serving v.tracer.server (stage_order v.tracer v.stage) v.ended b))
        (laden_owed v.tracer v.tracer.stage owed (ap owed_in e))
        ∙ ap (λ r. Some (serving r (stage_order v.tracer v.stage) v.ended true)) (ap server_in e);
  }

  pub owed_tied : OwedAreTied s.facets.phases (map live_facet seats)
  owed_tied seat server begun counts owed is =
      let found = map_get live_facet seats seat (counting server begun counts (Some owed)) is in
      laden seat server begun counts owed found.0 found.2 (a.each seat found.0 found.1)

pub traces_stay : TracesStayOfSeats
traces_stay n s words choice c count =
    length-set s.facets.trace (collector_seat n) (trace.collecting (names_of c)) ∙ count
