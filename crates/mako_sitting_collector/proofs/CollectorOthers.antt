-- All other seats sit past a step of the collector.
use Rattle.std.proofs.Common.{◌≡◌, ◌≢◌, ℕ, ◌*◌, ◌<◌, ◌⊎◌, inl, inr, List, [], length-set, map, slice_get, slice_set}
use Rattle.std.proofs.Common.{Some, sum_by, sym, ap, subst, refl, ◌∙◌, arith}
use Rattle.mako_words.specs.declared.name.Name.{Name}
use Rattle.mako_words.specs.Phases.{cycle_of}
use Rattle.mako_shape.specs.declared.numbers.Numbers.{Numbers}
use Rattle.mako_shape.specs.Places.{finished, root, notice, entry, word_at}
use Rattle.mako_shape.specs.Belongings.{server_of_entry}
use Rattle.mako_gate.proofs.Lists.{sum_at}
use Rattle.mako_model.specs.Fronts.{Seen}
use Rattle.mako_model.specs.Legal.{Facts, state_of}
use Rattle.mako_model.proofs.Lists.{get_set_cases}
use Rattle.mako_model.specs.Sizes.{ObjectsAreSmall}
use Rattle.mako_names.specs.Tables.{phase_of}
use Rattle.mako_names.proofs.Words.{entry_same}
use Rattle.mako_layout.specs.StepParts.{collector_seat}
use Rattle.mako_joint.specs.Joints.{JointScene, Joint}
use Rattle.mako_mutator.specs.Drivers.{Driving}
use Rattle.mako_mutating.proofs.Beside.{others_leave}
use Rattle.mako_making.proofs.Staying.{searches_stay}
use Rattle.mako_evac.specs.Evacuating.{Evacuation}
use Rattle.mako_server.specs.Serving.{Serving, StageIsKnown}
use Rattle.mako_server.specs.declared.stage.ServerStage.{ServerStage}
use Rattle.mako_server.specs.declared.stage.ServerStage.TheVariants.{Turning, Tracing, Evacuating, Ended}
use Rattle.mako_pause.specs.Collecting.{Collecting}
use Rattle.mako_seat.specs.declared.seat.Seat.{Seat}
use Rattle.mako_seat.specs.declared.seat.Seat.TheVariants.{Mutator, Server, Collector}
use Rattle.mako_state.specs.Facets.{ended_of}
use Rattle.mako_state.proofs.Seating.{map_kept}
use Rattle.mako_tracing.specs.ServerFacets.{tracer_laden}
use Rattle.mako_tracing.specs.ServerKeeps.{SlotsBelong}
use Rattle.mako_tracing.specs.ServerLives.{IsMeasured}
use Rattle.mako_clearing.specs.ClearingFacets.{server_seat, stage_carries}
use Rattle.mako_clearing.specs.Clearing.{KeepsSizes, tells_end, ClearingStands}
use Rattle.mako_clearing.proofs.Apart.{due_same}
use Rattle.mako_clearing.proofs.Rings.{sending_stays}
use Rattle.mako_clearing.proofs.Staying.{clearing_stays}
use Rattle.mako_writes.proofs.Servers.{own_entry}
use Rattle.mako_sitting.specs.Seats.{MutatorSits, GoneOver, HeardIn, RestSits, StageSits, ServerSits, CollectorSits}
use Rattle.mako_sitting.specs.Seats.{SeatSits, LivesFit, live_facet, AllSit}
use Rattle.mako_sitting_collector.specs.CollectorLeaves.{CollectorLeaves, LeavesServers}

-- a sum stays where the number of the one that changes does
sum_kept : {A : Type 0} (f : A → ℕ) (xs : List A) (i : ℕ) (a b : A) → slice_get xs i ≡ Some a → f b ≡ f a
    → sum_by f (slice_set xs i b) ≡ sum_by f xs
sum_kept f xs i a b is same = let k = sum_at f xs i a b is in omega arith

module _ (n : Numbers) (w : Facts) (s : JointScene) (j : Joint n w s) (after : JointScene)
    (l : CollectorLeaves n w s j after) where
  -- ---- mutators

  pub mutators_sit : (place m : ℕ) (d : Driving) → m ≢ collector_seat n → MutatorSits n w s place m d
      → MutatorSits n w after place m d
  mutators_sit place m d beside sits = record {
    seen = record {
      gate = l.gates m beside ∙ sits.seen.gate;
      work = l.works m beside ∙ sits.seen.work;
      trace = l.trace m beside ∙ sits.seen.trace;
      phase = l.phases m beside ∙ sits.seen.phase;
      held = ap (λ f. slice_get f m) l.held ∙ sits.seen.held;
      trying = ap (λ f. slice_get f m) l.trying ∙ sits.seen.trying;
      left = ap (λ f. slice_get f m) l.left ∙ sits.seen.left;
    };
    keeps =
        others_leave n w s.words after.words s.front after.front m d sits.keeps
        (record {
          roots = λ q small. l.words (root m q) (sits.keeps.in_range, small) (λ x. x);
          barriers = λ slot small. l.barriers m slot sits.keeps.in_range small;
        })
        (l.goes m);
    searches = searches_stay n w s m d j sits.seen sits.searches after.words l.cycle;
    puts = sits.puts;
  }

  -- ---- servers

  -- where what it keeps of its stage is given
  pub servers_sit_by : (taker later seat : ℕ) (v : Serving) → seat ≢ collector_seat n
      → StageSits n w after later v v.stage → IsMeasured (state_of w after.front.history) v.tracer.stage
      → ServerSits n w s taker seat v → ServerSits n w after later seat v
  servers_sit_by taker later seat v beside stage measured sits = record {
    number = sits.number;
    in_range = sits.in_range;
    here = record {
      trace = l.trace seat beside ∙ sits.here.trace;
      gate = l.gates seat beside ∙ sits.here.gate;
      work = l.works seat beside ∙ sits.here.work;
      phase = l.phases seat beside ∙ sits.here.phase;
      serving = ap (λ f. f v.tracer.server) l.servers ∙ sits.here.serving;
    };
    keeps = sits.keeps;
    stage = stage;
    measured = measured;
  }

  -- It takes no notice, and tells no point. The phase may be another one: what a server at rest keeps in it is given.
  module _ (i : Joint n w after) (front : after.front ≡ s.front)
      (through : after.facets.names.through ≡ s.facets.names.through)
      (sent_same : after.facets.names.sent ≡ s.facets.names.sent)
      (notices : (server slot : ℕ) → server < n.servers → slot < n.ring
      → word_at n after.words (notice server slot) ≡ word_at n s.words (notice server slot)) where
    sizes_left : KeepsSizes (state_of w s.front.history) (state_of w after.front.history)
    sizes_left =
        subst (λ (x : Seen). KeepsSizes (state_of w s.front.history) (state_of w x.history)) (sym front)
        (λ name fields are. (fields, are, refl))

    clearing_sits : (taker : ℕ) (v : Serving) (e : Evacuation) (sent : List Name)
        → server_seat n e.owner.server ≢ collector_seat n
        → ClearingStands n w s e v.ended (tracer_laden v.tracer) taker sent
        → ClearingStands n w after e v.ended (tracer_laden v.tracer) taker sent
    clearing_sits taker v e sent beside c =
        let seat : ℕ = server_seat n e.owner.server in
        let inside : (e.owner.server < n.servers) × (e.at < n.ring) =
        subst (λ k. (e.owner.server < k.servers) × (e.at < k.ring)) c.shape (c.known.owner.server, c.known.at) in
        clearing_stays n w s after e v.ended (tracer_laden v.tracer) taker taker sent sent j i c
        (record {
          phase = l.phases seat beside ∙ c.facets.phase;
          gate = l.gates seat beside ∙ c.facets.gate;
          work = l.works seat beside ∙ c.facets.work;
          through = ap (λ xs. slice_get xs e.owner.server) through ∙ c.facets.through;
        })
        (record {
          sent_is = ap (λ xs. slice_get xs e.owner.server) sent_same ∙ c.sending.sent_is;
          notices = sending_stays n s.words after.words e.owner.server taker e.at sent (stage_carries e.stage)
              (tells_end e.stage) (λ slot small. notices e.owner.server slot inside.0 small) c.sending.notices;
        })
        (record {
          empty = λ none. notices e.owner.server e.at inside.0 inside.1 ∙ none;
          due = λ x g own due.
              let is = subst
              (λ k. (x < k.servers * k.tablets * k.entries) × (server_of_entry k x ≡ e.owner.server)) c.shape
              (own_entry e.owner c.known.owner x own) in
              due_same n s.words after.words e.owner.cycle x g
              (entry_same n s.words after.words x (l.words (entry x) is.0 (λ x. x))) due;
          sizes = sizes_left;
        })

    stage_sits : (taker : ℕ) (v : Serving) → v.tracer.server < n.servers
        → (RestSits n s taker v → RestSits n after taker v) → (stage : ServerStage) → StageIsKnown v.tracer stage
        → StageSits n w s taker v stage → StageSits n w after taker v stage
    stage_sits taker v low rest Turning known r = rest r
    stage_sits taker v low rest Tracing known r = rest r
    stage_sits taker v low rest (Evacuating e) known c =
        let same = known.1.server in
        (c.0, clearing_sits taker v e c.0 (λ f. absurd (omega arith)) c.1)
    stage_sits taker v low rest Ended known r = rest r

    pub servers_sit_past : (taker seat : ℕ) (v : Serving) → seat ≢ collector_seat n
        → (RestSits n s taker v → RestSits n after taker v) → ServerSits n w s taker seat v
        → ServerSits n w after taker seat v
    servers_sit_past taker seat v beside rest sits =
        servers_sit_by taker taker seat v beside
        (stage_sits taker v sits.in_range rest v.stage sits.keeps.known.stage sits.stage)
        (subst (λ (x : Seen). IsMeasured (state_of w x.history) v.tracer.stage) (sym front) sits.measured) sits

  module _ (i : Joint n w after) (f : LeavesServers n s after) where
    rest_sits : (taker : ℕ) (v : Serving) → v.tracer.server < n.servers → RestSits n s taker v
        → RestSits n after taker v
    rest_sits taker v low r = record {
      through = r.through;
      through_is = ap (λ xs. slice_get xs v.tracer.server) f.through ∙ r.through_is;
      gone_over = subst (λ p. GoneOver n p v.ended r.through) (sym f.phase) r.gone_over;
      sent = r.sent;
      done = r.done;
      sent_is = ap (λ xs. slice_get xs v.tracer.server) f.sent ∙ r.sent_is;
      sending = sending_stays n s.words after.words v.tracer.server taker v.notice_at r.sent [] r.done
          (λ slot small. f.notices v.tracer.server slot low small) r.sending;
      ended = λ told. r.ended told ∙ ap cycle_of (sym f.phase);
      heard = subst (λ p. HeardIn p r.sent r.done) (sym f.phase) r.heard;
    }

    -- where it takes no notice and stores no phase
    pub servers_sit : (taker seat : ℕ) (v : Serving) → seat ≢ collector_seat n → ServerSits n w s taker seat v
        → ServerSits n w after taker seat v
    servers_sit taker seat v beside sits =
        servers_sit_past i f.front f.through f.sent f.notices taker seat v beside
        (rest_sits taker v sits.in_range) sits

-- ---- all of them

-- So all seats sit where all servers and the collector do. The places at which it takes notices may be others.
module _ (n : Numbers) (w : Facts) (s : JointScene) (seats : List Seat) (i : ℕ) (c next : Collecting)
    (after : JointScene) (a : AllSit n w s seats) (here : slice_get seats i ≡ Some (Collector c))
    (l : CollectorLeaves n w s a.joint after) (joint : Joint n w after) (later : ℕ → ℕ)
    (servers : (k : ℕ) (v : Serving) → slice_get seats k ≡ Some (Server v)
    → ServerSits n w after (later v.tracer.server) k v)
    (own : CollectorSits n w after later a.places i next) where
  other_sits : (k : ℕ) (v : Seat) → k ≢ i → slice_get seats k ≡ Some v → SeatSits n w after later a.places k v
  other_sits k (Mutator d) apart is =
      mutators_sit n w s a.joint after l (a.places k) k d (λ e. apart (e ∙ sym own.number))
      (a.each k (Mutator d) is)
  other_sits k (Server v) apart is = servers k v is
  other_sits k (Collector x) apart is =
      let sits = a.each k (Collector x) is in absurd (apart (sits.number ∙ sym own.number))

  each : (k : ℕ) (v : Seat) → slice_get (slice_set seats i (Collector next)) k ≡ Some v
      → SeatSits n w after later a.places k v
  each k v is = by (get_set_cases seats i k (Collector next) v is)
    where
      by : ((k ≡ i) × (Collector next ≡ v)) ⊎ ((k ≢ i) × (slice_get seats k ≡ Some v))
          → SeatSits n w after later a.places k v
      by (inl e) =
          subst (λ x. SeatSits n w after later a.places x v) (sym e.0)
          (subst (SeatSits n w after later a.places i) e.1 own)
      by (inr e) = other_sits k v e.0 e.1

  lives_same : map live_facet (slice_set seats i (Collector next)) ≡ map live_facet seats
  lives_same = map_kept live_facet seats i (Collector c) (Collector next) here refl

  -- live counts are those of the servers, which are as they were; the finished word is not the collector's to write
  pub all_sit : SlotsBelong n after.words → ObjectsAreSmall (state_of w after.front.history)
      → LivesFit (phase_of n after.words) n w after.words after.front.history (map live_facet seats)
      → AllSit n w after (slice_set seats i (Collector next))
  all_sit slots few lives = record {
    joint = joint;
    taker = later;
    places = a.places;
    count = length-set seats i (Collector next) ∙ a.count;
    each = each;
    slots = slots;
    few = few;
    lives = subst (LivesFit (phase_of n after.words) n w after.words after.front.history) (sym lives_same) lives;
    ends =
        l.words finished tt (λ x. x) ∙ a.ends
        ∙ sym (sum_kept ended_of seats i (Collector c) (Collector next) here refl);
  }
