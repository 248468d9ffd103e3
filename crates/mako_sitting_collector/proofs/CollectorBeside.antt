-- All other seats sit as they did, past a look of the collector.
use Rattle.std.proofs.Common.{◌≡◌, ◌≢◌, ℕ, ◌<◌, ◌⊎◌, inl, inr, List, length-set, map, slice_get, slice_set, Some, sym}
use Rattle.std.proofs.Common.{subst, refl, ◌∙◌, arith}
use Rattle.std.specs.Prelude.{sum_by}
use Rattle.mako_words.specs.declared.name.Name.{Name}
use Rattle.mako_shape.specs.declared.numbers.Numbers.{Numbers}
use Rattle.mako_model.specs.Legal.{Facts}
use Rattle.mako_model.proofs.Lists.{get_set_other, get_set_cases}
use Rattle.mako_names.specs.Tables.{phase_of}
use Rattle.mako_gate.proofs.Lists.{sum_at}
use Rattle.mako_layout.specs.StepParts.{collector_seat}
use Rattle.mako_ring.specs.TraceFacets as trace
use Rattle.mako_joint.specs.Joints.{JointScene, Joint}
use Rattle.mako_mutator.specs.Drivers.{Driving}
use Rattle.mako_evac.specs.Evacuating.{Evacuation}
use Rattle.mako_server.specs.Serving.{Serving, StageIsKnown}
use Rattle.mako_server.specs.declared.stage.ServerStage.{ServerStage}
use Rattle.mako_server.specs.declared.stage.ServerStage.TheVariants.{Turning, Tracing, Evacuating, Ended}
use Rattle.mako_pause.specs.Collecting.{Collecting}
use Rattle.mako_seat.specs.declared.seat.Seat.{Seat}
use Rattle.mako_seat.specs.declared.seat.Seat.TheVariants.{Mutator, Server, Collector}
use Rattle.mako_state.specs.Facets.{ended_of}
use Rattle.mako_state.proofs.Seating.{map_kept}
use Rattle.mako_tracing.specs.ServerFacets.{tracer_laden}
use Rattle.mako_clearing.specs.ClearingFacets.{server_seat}
use Rattle.mako_clearing.specs.Clearing.{ClearingStands}
use Rattle.mako_clearing.proofs.Staying.{clearing_stays}
use Rattle.mako_collecting.specs.Facets.{names_of, phase_facet, gate_facet}
use Rattle.mako_sitting.specs.Seats.{MutatorSits, RestSits, StageSits, ServerSits, CollectorSits, SeatSits, LivesFit}
use Rattle.mako_sitting.specs.Seats.{live_facet, AllSit}
use Rattle.mako_sitting_collector.specs.CollectorSteps.{looked}

-- a sum stays where the number of the one that changes does
pub sum_kept : {A : Type 0} (f : A → ℕ) (xs : List A) (i : ℕ) (a b : A) → slice_get xs i ≡ Some a → f b ≡ f a
    → sum_by f (slice_set xs i b) ≡ sum_by f xs
sum_kept f xs i a b is same = let k = sum_at f xs i a b is in omega arith

module _ (n : Numbers) (w : Facts) (s : JointScene) (next : Collecting) where
  mutator_sits : (place m : ℕ) (d : Driving) → MutatorSits n w s place m d
      → MutatorSits n w (looked n s next) place m d
  mutator_sits place m d sits =
      let low = sits.keeps.in_range in
      let beside : m ≢ collector_seat n = λ e. absurd (omega arith) in record {
        seen = record {
          gate = get_set_other s.facets.gates (collector_seat n) m (gate_facet n next) beside ∙ sits.seen.gate;
          work = sits.seen.work;
          trace = get_set_other s.facets.trace (collector_seat n) m (trace.collecting (names_of next)) beside
              ∙ sits.seen.trace;
          phase = get_set_other s.facets.phases (collector_seat n) m (phase_facet n next) beside ∙ sits.seen.phase;
          held = sits.seen.held;
          trying = sits.seen.trying;
          left = sits.seen.left;
        };
        keeps = sits.keeps;
        searches = sits.searches;
        puts = sits.puts;
      }

  rest_sits : (taker : ℕ) (v : Serving) → RestSits n s taker v → RestSits n (looked n s next) taker v
  rest_sits taker v r = record {
    through = r.through;
    through_is = r.through_is;
    gone_over = r.gone_over;
    sent = r.sent;
    done = r.done;
    sent_is = r.sent_is;
    sending = r.sending;
    ended = r.ended;
    heard = r.heard;
  }

  module _ (j : Joint n w s) (i : Joint n w (looked n s next)) where
    clearing_sits : (taker : ℕ) (v : Serving) (e : Evacuation) (sent : List Name)
        → server_seat n e.owner.server ≢ collector_seat n
        → ClearingStands n w s e v.ended (tracer_laden v.tracer) taker sent
        → ClearingStands n w (looked n s next) e v.ended (tracer_laden v.tracer) taker sent
    clearing_sits taker v e sent beside c =
        let seat : ℕ = server_seat n e.owner.server in
        clearing_stays n w s (looked n s next) e v.ended (tracer_laden v.tracer) taker taker sent sent j i c
        (record {
          phase = get_set_other s.facets.phases (collector_seat n) seat (phase_facet n next) beside ∙ c.facets.phase;
          gate = get_set_other s.facets.gates (collector_seat n) seat (gate_facet n next) beside ∙ c.facets.gate;
          work = c.facets.work;
          through = c.facets.through;
        })
        (record { sent_is = c.sending.sent_is; notices = c.sending.notices })
        (record {
          empty = λ none. none;
          due = λ x g own due. due;
          sizes = λ name fields are. (fields, are, refl);
        })

    stage_sits : (taker : ℕ) (v : Serving) → v.tracer.server < n.servers → (stage : ServerStage)
        → StageIsKnown v.tracer stage → StageSits n w s taker v stage → StageSits n w (looked n s next) taker v stage
    stage_sits taker v low Turning known r = rest_sits taker v r
    stage_sits taker v low Tracing known r = rest_sits taker v r
    stage_sits taker v low (Evacuating e) known c =
        let same = known.1.server in
        (c.0, clearing_sits taker v e c.0 (λ f. absurd (omega arith)) c.1)
    stage_sits taker v low Ended known r = rest_sits taker v r

    server_sits : (taker seat : ℕ) (v : Serving) → ServerSits n w s taker seat v
        → ServerSits n w (looked n s next) taker seat v
    server_sits taker seat v sits =
        let low = sits.in_range in
        let number = sits.number in
        let beside : seat ≢ collector_seat n = λ e. absurd (omega arith) in record {
          number = number;
          in_range = low;
          here = record {
            trace = get_set_other s.facets.trace (collector_seat n) seat (trace.collecting (names_of next)) beside
                ∙ sits.here.trace;
            gate = get_set_other s.facets.gates (collector_seat n) seat (gate_facet n next) beside ∙ sits.here.gate;
            work = sits.here.work;
            phase = get_set_other s.facets.phases (collector_seat n) seat (phase_facet n next) beside
                ∙ sits.here.phase;
            serving = sits.here.serving;
          };
          keeps = sits.keeps;
          stage = stage_sits taker v low v.stage sits.keeps.known.stage sits.stage;
          measured = sits.measured;
        }

    -- each seat but the collector's, which is the last
    other_sits : (taker places : ℕ → ℕ) (seat : ℕ) (v : Seat) → seat ≢ collector_seat n
        → SeatSits n w s taker places seat v → SeatSits n w (looked n s next) taker places seat v
    other_sits taker places seat (Mutator d) beside sits = mutator_sits (places seat) seat d sits
    other_sits taker places seat (Server v) beside sits = server_sits (taker v.tracer.server) seat v sits
    other_sits taker places seat (Collector c) beside sits = absurd (beside sits.number)

-- so all seats sit, where all groups hold and the collector sits
module _ (n : Numbers) (w : Facts) (s : JointScene) (seats : List Seat) (i : ℕ) (c next : Collecting)
    (all : AllSit n w s seats) (here : slice_get seats i ≡ Some (Collector c)) (joint : Joint n w (looked n s next))
    (own : CollectorSits n w (looked n s next) all.taker all.places i next) where
  each : (j : ℕ) (v : Seat) → slice_get (slice_set seats i (Collector next)) j ≡ Some v
      → SeatSits n w (looked n s next) all.taker all.places j v
  each j v is = by (get_set_cases seats i j (Collector next) v is)
    where
      by : ((j ≡ i) × (Collector next ≡ v)) ⊎ ((j ≢ i) × (slice_get seats j ≡ Some v))
          → SeatSits n w (looked n s next) all.taker all.places j v
      by (inl e) =
          subst (λ x. SeatSits n w (looked n s next) all.taker all.places x v) (sym e.0)
          (subst (SeatSits n w (looked n s next) all.taker all.places i) e.1 own)
      by (inr e) =
          other_sits n w s next all.joint joint all.taker all.places j v (λ f. e.0 (f ∙ sym own.number))
          (all.each j v e.1)

  lives_same : map live_facet (slice_set seats i (Collector next)) ≡ map live_facet seats
  lives_same = map_kept live_facet seats i (Collector c) (Collector next) here refl

  pub looks_keep : AllSit n w (looked n s next) (slice_set seats i (Collector next))
  looks_keep = record {
    joint = joint;
    taker = all.taker;
    places = all.places;
    count = length-set seats i (Collector next) ∙ all.count;
    each = each;
    slots = all.slots;
    few = all.few;
    lives =
        subst (LivesFit (phase_of n s.words) n w s.words s.front.history) (sym lives_same) all.lives;
    ends = all.ends ∙ sym (sum_kept ended_of seats i (Collector c) (Collector next) here refl);
  }
