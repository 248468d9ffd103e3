-- Each step of a server keeps all seats.
use Rattle.std.proofs.Common.{◌≡◌, ℕ, ◌+◌, ◌<◌, false, List, [], map, set, slice_get, Some, sym, ap, subst, refl, ◌∙◌}
use Rattle.std.proofs.lemmas.Option.{same_Some}
use Rattle.mako_shape.specs.declared.numbers.Numbers.{Numbers}
use Rattle.mako_shape.specs.Places.{phase, live, top, word_at}
use Rattle.mako_step.specs.Acts.{finds}
use Rattle.mako_model.specs.Legal.{Facts}
use Rattle.mako_names.specs.Tables.{phase_of}
use Rattle.mako_names.proofs.Going.{get_map as get_mapped}
use Rattle.mako_layout.specs.StepParts.{collector_seat}
use Rattle.mako_phases.specs.Facets as order
use Rattle.mako_phases.specs.Facets.{Part, choosing, collecting, PhaseFacet, mutating, serving, IsRestful, phase_during}
use Rattle.mako_phases.specs.Facets.{role_of}
use Rattle.mako_phases.proofs.Frames.{get_map}
use Rattle.mako_joint.specs.Joints.{JointScene}
use Rattle.mako_server.specs.declared.stage.ServerStage.TheVariants.{Turning, Tracing}
use Rattle.mako_server.specs.Serving.{Serving, next_of}
use Rattle.mako_pause.specs.Collecting.{Holdings, Collecting, running}
use Rattle.mako_pause.specs.declared.stage.ChoiceStage.TheVariants.{LoadingLive, LoadingTop, LoadingHome}
use Rattle.mako_pause.specs.declared.stage.ChoiceStage.TheVariants.{StoringLeaving, StoringHome, StoringTop}
use Rattle.mako_pause.specs.declared.stage.ChoiceStage.TheVariants.{StoringEvac, Opening as Reopening}
use Rattle.mako_pause.specs.declared.stage.CollectStage.{CollectStage}
use Rattle.mako_pause.specs.declared.stage.CollectStage.TheVariants as collect
use Rattle.mako_seat.specs.declared.seat.Seat.{Seat}
use Rattle.mako_seat.specs.declared.seat.Seat.TheVariants.{Server, Collector}
use Rattle.mako_collecting.specs.Facets.{stage_part, part_of, names_of}
use Rattle.mako_collecting.specs.Findings.{StageFound}
use Rattle.mako_tracing.specs.Laws.{words_next, server_next, scene_next, ServerStands, ServerGoes}
use Rattle.mako_tracing.specs.ServerFacets.{server_live, server_phase, tracer_laden}
use Rattle.mako_tracing.proofs.CountedTurns.{turns_count}
use Rattle.mako_tracing.proofs.LowCounts.{tracing_counts}
use Rattle.mako_tracing.proofs.PastCounts.{tracing_leaves, turns_leave}
use Rattle.mako_tracing.proofs.Resting.{unladen_rest}
use Rattle.mako_tracing.proofs.Traced.{tracing_steps_go}
use Rattle.mako_tracing.proofs.Turning.{turns_go}
use Rattle.mako_sitting.specs.Seats.{StageSits, ServerSits, live_facet, AllSit}
use Rattle.mako_sitting_servers.specs.ServerSteps.{FindingsStand}
use Rattle.mako_sitting_servers.proofs.ServerAll.{all_after}
use Rattle.mako_sitting_servers.proofs.ServerCounts.{CountsGo, counts_go, low_counts, turned_measured, traced_measured}
use Rattle.mako_sitting_servers.proofs.ServerFindings.{LeavesUsed, LoadsUsed, stage_found}
use Rattle.mako_sitting_servers.proofs.ServerFrames.{number_stays, scene_leaves}
use Rattle.mako_writes.proofs.Servers.{HasSome}
use Rattle.mako_sitting_servers.proofs.ServerRests.{words_traced, words_turned, turn_sits, trace_sits}

-- ---- where the collector loads tops and live words

loads_choosing : (n : Numbers) (k : Holdings) (stage : CollectStage) → LoadsUsed stage
    → stage_part n k stage ≡ choosing (running k) []
loads_choosing n k (collect.Choosing (LoadingLive r place)) is = refl
loads_choosing n k (collect.Choosing (LoadingTop r place number)) is = refl
loads_choosing n k (collect.Choosing (LoadingHome i)) is = absurd is
loads_choosing n k (collect.Choosing (StoringLeaving i gift)) is = absurd is
loads_choosing n k (collect.Choosing (StoringHome i gift)) is = absurd is
loads_choosing n k (collect.Choosing (StoringTop i)) is = absurd is
loads_choosing n k (collect.Choosing StoringEvac) is = absurd is
loads_choosing n k (collect.Choosing (Reopening m)) is = absurd is
loads_choosing n k (collect.Idle x) is = absurd is
loads_choosing n k (collect.Pausing x) is = absurd is
loads_choosing n k (collect.Forwarding x) is = absurd is
loads_choosing n k (collect.Barriers x) is = absurd is
loads_choosing n k (collect.Emptying x) is = absurd is
loads_choosing n k collect.Polling is = absurd is
loads_choosing n k (collect.Noticing x) is = absurd is
loads_choosing n k collect.Ended is = absurd is

abbrev part_in : PhaseFacet → Part
part_in (collecting part names) = part
part_in (mutating admission) = order.idle 0
part_in (serving server stage ended laden) = order.idle 0

module _ (n : Numbers) (w : Facts) (s : JointScene) (seats : List Seat) (a : AllSit n w s seats) where
  -- the part of the order is that of the collector
  part_is : (k : ℕ) (c : Collecting) → slice_get seats k ≡ Some (Collector c) → a.joint.order.part ≡ part_of n c
  part_is k c at =
      let o = a.joint.order in
      let mine : slice_get s.facets.phases (collector_seat n) ≡ Some (collecting (part_of n c) (names_of c)) =
      (a.each k (Collector c) at).here.phase in
      let one : o.seat ≡ collector_seat n =
      o.seated.collectors o.seat (collector_seat n)
      (get_map role_of s.facets.phases o.seat (collecting o.part o.pending) o.here)
      (get_map role_of s.facets.phases (collector_seat n) (collecting (part_of n c) (names_of c)) mine) in
      ap part_in (same_Some (collecting o.part o.pending) (collecting (part_of n c) (names_of c))
      (sym o.here ∙ ap (slice_get s.facets.phases) one ∙ mine))

  choosing_then : (k : ℕ) (c : Collecting) → slice_get seats k ≡ Some (Collector c) → LoadsUsed c.stage
      → a.joint.order.part ≡ choosing (running c.kept) []
  choosing_then k c at loads = part_is k c at ∙ loads_choosing n c.kept c.stage loads

  pub findings : (after : JointScene)
      → ((c : Collecting) → a.joint.order.part ≡ choosing (running c.kept) [] → LeavesUsed n s.words after.words)
      → FindingsStand n s after seats
  findings after leaves k c at found =
      let sits = a.each k (Collector c) at in
      stage_found n s.words after.words c.kept sits.here.shape c.stage sits.keeps.stage
      (λ loads. leaves c (choosing_then k c at loads)) found

  module _ (i : ℕ) (v : Serving) (at : slice_get seats i ≡ Some (Server v)) where
    abbrev pub own : ServerSits n w s (a.taker v.tracer.server) i v
    own = a.each i (Server v) at

    abbrev pub u : Serving
    u = server_next v s.words

    pub stands : ServerStands n w s i v
    stands = record { joint = a.joint; slots = a.slots; here = own.here; keeps = own.keeps }

    live_here : slice_get (map live_facet seats) i ≡ Some (server_live v)
    live_here = get_mapped live_facet seats i (Server v) at

    number_then : u.tracer.server ≡ v.tracer.server
    number_then = number_stays v (finds (next_of v) s.words)

    abbrev Counts : Type 0
    Counts = CountsGo n w s i v stands (map live_facet seats) live_here own.measured

    -- ---- its turn and its tracing

    goes_all : ServerGoes n w s i v → Counts
        → StageSits n w (scene_next s i v) (a.taker v.tracer.server) u u.stage
        → FindingsStand n s (scene_next s i v) seats → AllSit n w (scene_next s i v) (set seats i (Server u))
    goes_all goes counts stage finding =
        all_after n w s (scene_next s i v) seats i v u a at (scene_leaves n w s i v stands) goes.joint goes.slots
        (record {
          number = own.number ∙ ap (λ k. n.mutators + k) (sym number_then);
          in_range = subst (λ k. k < n.servers) (sym number_then) own.in_range;
          here = goes.here;
          keeps = goes.keeps;
          stage = subst (λ k. StageSits n w (scene_next s i v) (a.taker k) u u.stage) (sym number_then) stage;
          measured = counts.sized;
        })
        finding counts.right

    same_findings : words_next v s.words ≡ s.words → FindingsStand n s (scene_next s i v) seats
    same_findings same k c is found = subst (λ ws. StageFound n ws c.kept c.stage) (sym same) found

    pub turning : v.stage ≡ Turning → StageSits n w s (a.taker v.tracer.server) v Turning
        → AllSit n w (scene_next s i v) (set seats i (Server u))
    turning e sits =
        goes_all (turns_go n w s i v stands e)
        (counts_go n w s i v stands (map live_facet seats) live_here own.measured
        (ap (λ ws. word_at n ws phase) (words_turned s v e))
        (λ before c l. turns_count n w s (map live_facet seats) before c i v stands e l)
        (λ no. turns_leave n w s i v stands e no)
        (λ no. turned_measured n w s i v stands e no own.measured) (phase_of n s.words) refl a.lives)
        (turn_sits n w s i (a.taker v.tracer.server) v stands own.number sits e)
        (same_findings (words_turned s v e))

    unladen_then : (c : Collecting) → a.joint.order.part ≡ choosing (running c.kept) [] → tracer_laden v.tracer ≡ false
    unladen_then c is =
        (a.joint.order.each i (server_phase v) own.here.phase).rests (subst IsRestful (sym is) tt)

    traced_used : v.stage ≡ Tracing → (c : Collecting) → a.joint.order.part ≡ choosing (running c.kept) []
        → LeavesUsed n s.words (words_next v s.words)
    traced_used e c is =
        let us = words_traced n w s i v stands e in
        let none = (unladen_rest v.tracer (unladen_then c is)).0.0 in record {
          lives = λ t within. us (live t) within (λ some. subst HasSome none some);
          tops = λ t within. us (top t) within (λ x. x);
        }

    pub tracing : v.stage ≡ Tracing → StageSits n w s (a.taker v.tracer.server) v Tracing
        → AllSit n w (scene_next s i v) (set seats i (Server u))
    tracing e sits =
        let low = low_counts n w s i v stands (map live_facet seats) live_here own.measured a.few e a.lives in
        goes_all (tracing_steps_go n w s i v stands e a.few low)
        (counts_go n w s i v stands (map live_facet seats) live_here own.measured
        (words_traced n w s i v stands e phase tt (λ x. x))
        (λ before c l. tracing_counts n w s (map live_facet seats) before c i v stands e a.few l)
        (λ no. tracing_leaves n w s i v stands e a.few no)
        (λ no. traced_measured n w s i v stands e no) (phase_of n s.words) refl a.lives)
        (trace_sits n w s i (a.taker v.tracer.server) v stands own.in_range e sits)
        (findings (scene_next s i v) (traced_used e))
