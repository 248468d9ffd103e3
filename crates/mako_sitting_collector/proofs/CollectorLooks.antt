-- The collector's looks keep all seats.
use Rattle.std.proofs.Common.{◌≡◌, ℕ, ◌+◌, ◌*◌, ◌==◌, ◌%◌, nat_lt, Option, Some, None, List, [], ◌∷◌, ◌++◌, length}
use Rattle.std.proofs.Common.{slice_get, slice_set, slice_index, sym, ap, subst, refl, ◌∙◌}
use Rattle.std.specs.Prelude.{position, if◌then◌else◌}
use Rattle.mako_words.specs.declared.name.Name.{Name}
use Rattle.mako_words.specs.Gates.{count_of}
use Rattle.mako_words.specs.Names.{name_at}
use Rattle.mako_words.specs.Values.{value_at}
use Rattle.mako_shape.specs.declared.numbers.Numbers.{Numbers}
use Rattle.mako_shape.specs.Places.{demand, finished, mutator_gate, root, barrier, work, live, top, index}
use Rattle.mako_step.specs.Acts.{finds}
use Rattle.mako_model.specs.Legal.{Facts}
use Rattle.mako_layout.specs.Facets.{Gift, Choice, chooses, settled, rests_with}
use Rattle.mako_ring.specs.Tracing.{owner, is_open}
use Rattle.mako_ring.specs.Windows.{tail_up, found_room}
use Rattle.mako_ring.specs.declared.window.Window.{Window}
use Rattle.mako_joint.specs.Joints.{JointScene, Joint}
use Rattle.mako_pause.specs.Collecting.{Collecting, Holdings, at, next_of, Fits, window_of, set_window, head_slot}
use Rattle.mako_pause.specs.Collecting.{names_of, empty, empty_from, barriers_from, paused, idle_fed, pause_fed}
use Rattle.mako_pause.specs.Collecting.{forward_fed, barrier_fed, empty_fed, choice_fed, server_chosen, servers_from}
use Rattle.mako_pause.specs.Collecting.{gifts_from, live_words}
use Rattle.mako_pause.specs.declared.stage.Pause.{Pause}
use Rattle.mako_pause.specs.declared.stage.Pause.TheVariants.{Snapshot, Choice as ForChoice}
use Rattle.mako_pause.specs.declared.stage.PauseStage.TheVariants.{Shutting, Draining, LoadingRoot, StoringTrace}
use Rattle.mako_pause.specs.declared.stage.PauseStage.TheVariants.{Opening}
use Rattle.mako_pause.specs.declared.stage.ForwardStage.TheVariants.{Looking, Storing}
use Rattle.mako_pause.specs.declared.stage.BarrierStage.TheVariants.{Loading, Clearing}
use Rattle.mako_pause.specs.declared.stage.IdleStage.{IdleStage}
use Rattle.mako_pause.specs.declared.stage.IdleStage.TheVariants.{LoadingDemand, LookingFinished, StoringStop}
use Rattle.mako_pause.specs.declared.stage.ChoiceStage.{ChoiceStage}
use Rattle.mako_pause.specs.declared.stage.ChoiceStage.TheVariants.{LoadingLive, LoadingTop, LoadingHome}
use Rattle.mako_pause.specs.declared.stage.ChoiceStage.TheVariants.{StoringLeaving, StoringHome, StoringTop}
use Rattle.mako_pause.specs.declared.stage.ChoiceStage.TheVariants.{StoringEvac, Opening as Reopening}
use Rattle.mako_pause.specs.declared.stage.CollectStage.{CollectStage}
use Rattle.mako_pause.specs.declared.stage.CollectStage.TheVariants.{Idle, Pausing, Forwarding, Barriers, Emptying}
use Rattle.mako_pause.specs.declared.stage.CollectStage.TheVariants.{Polling, Choosing, Noticing, Ended}
use Rattle.mako_seat.specs.declared.seat.Seat.{Seat}
use Rattle.mako_seat.specs.declared.seat.Seat.TheVariants.{Collector}
use Rattle.mako_collecting.specs.Findings.{StageFound}
use Rattle.mako_collecting.specs.Keeping.{CollectorKeeps}
use Rattle.mako_collecting.specs.Laws.{Stands, IsUpToEvac}
use Rattle.mako_collecting.specs.Steps.{with_collector, words_next, collector_next, stepped}
use Rattle.mako_collecting.proofs.EachStage.{idle_steps_keep, pause_steps_keep, round_steps_keep, choice_steps_keep}
use Rattle.mako_collecting.proofs.EachKept.{seats_stay, steps_keep_their_own}
use Rattle.mako_collecting.proofs.Findings.{findings_are_kept}
use Rattle.mako_collecting.proofs.RolesKept.{choices_are_kept}
use Rattle.mako_collecting.specs.Roles.{ChoiceOf}
use Rattle.mako_collecting.proofs.Idling.{either_way, by_test}
use Rattle.mako_collecting.proofs.Known.{steps_keep_known}
use Rattle.mako_collecting.proofs.Stays.{load_leaves}
use Rattle.mako_sitting.specs.Seats.{ChoiceSits, SparesAre, GathersAt, CollectorSits, AllSit}
use Rattle.mako_sitting_collector.specs.CollectorSteps.{looked, IsIdleLook, IsLook, LooksKeepAll}
use Rattle.mako_sitting_collector.proofs.CollectorBeside.{looks_keep}

-- what a look leaves of what the collector keeps, and what stands at the next stage
pub record Leaves (n : Numbers) (s : JointScene) (k : Holdings) (next : Collecting) : Type 0 where
  pub shape : next.kept.shape ≡ k.shape
  pub notices : next.kept.notice_at ≡ k.notice_at
  pub cycles : next.kept.cycles ≡ k.cycles
  pub found : StageFound n s.words next.kept next.stage
  pub choice : ChoiceSits n s next.kept next.stage
  pub gathers : GathersAt n next.kept next.stage s.facets.names.collector

-- a step that leaves all words keeps all seats, where it keeps all groups and leaves what is kept
module _ (n : Numbers) (w : Facts) (s : JointScene) (seats : List Seat) (i : ℕ) (k : Holdings) (stage : CollectStage)
    (up : IsUpToEvac stage) (all : AllSit n w s seats) (here : slice_get seats i ≡ Some (Collector (at k stage)))
    (fits : Fits (at k stage) (finds (next_of (at k stage)) s.words)) where
  abbrev next : Collecting
  next = collector_next (at k stage) s.words

  sits : CollectorSits n w s all.taker all.places i (at k stage)
  sits = all.each i (Collector (at k stage)) here

  pub stands : Stands n w s all.places (at k stage)
  stands = record { joint = all.joint; seat = sits.here; known = sits.known; keeps = sits.keeps }

  module _ (same : words_next (at k stage) s.words ≡ s.words) (joint : Joint n w (stepped n s (at k stage)))
      (leaves : Leaves n s k next) where
    joined : Joint n w (looked n s next)
    joined = subst (λ (us : List ℕ). Joint n w (with_collector n s us s.facets.choice next)) same joint

    own : CollectorSits n w (looked n s next) all.taker all.places i next
    own = record {
      number = sits.number;
      here = seats_stay n s (at k stage) next s.words s.facets.choice sits.here (leaves.shape ∙ sits.here.shape);
      known = steps_keep_known n w s all.places k stage up stands fits;
      keeps = subst (λ (us : List ℕ). CollectorKeeps n us all.places next) same
          (steps_keep_their_own n w s all.places k stage up stands fits);
      takes = λ r. sits.takes r ∙ ap (λ xs. slice_index xs r) (sym leaves.notices);
      found = leaves.found;
      choice = leaves.choice;
      gathers = leaves.gathers;
      lists = ap (λ x. x.lists) leaves.cycles ∙ sits.lists;
      room = ap (λ x. x.names_room) leaves.cycles ∙ sits.room;
    }

    pub silent_keeps : AllSit n w (stepped n s (at k stage)) (slice_set seats i (Collector next))
    silent_keeps =
        subst (λ (us : List ℕ). AllSit n w (with_collector n s us s.facets.choice next)
        (slice_set seats i (Collector next))) (sym same)
        (looks_keep n w s seats i (at k stage) next all here joined own)

-- ---- what a look leaves

module _ (n : Numbers) (s : JointScene) (k : Holdings) where
  abbrev Rested : Holdings → Type 0
  Rested h = (spare : List ℕ) × (s.facets.choice ≡ rests_with spare) × SparesAre n h spare

  abbrev Fresh : Holdings → Type 0
  Fresh h = (h.freed ≡ []) × (s.facets.names.collector ≡ record { server = 0; names = [] })

  -- where no cycle runs
  demand_left : (x : ℕ) → Rested k → k.freed ≡ [] → Leaves n s k (idle_fed k LoadingDemand x)
  demand_left x c g =
      either_way (Leaves n s k) (nat_lt k.cycle x) (at k (Pausing (Shutting Snapshot 0))) (at k (Idle LookingFinished))
      (λ e. record { shape = refl; notices = refl; cycles = refl; found = tt; choice = c; gathers = g })
      (λ e. record { shape = refl; notices = refl; cycles = refl; found = tt; choice = c; gathers = g })

  finished_left : (x : ℕ) → Rested k → k.freed ≡ [] → Leaves n s k (idle_fed k LookingFinished x)
  finished_left x c g =
      either_way (Leaves n s k) (x == k.shape.mutators) (at k (Idle StoringStop)) (at k (Idle LoadingDemand))
      (λ e. record { shape = refl; notices = refl; cycles = refl; found = tt; choice = c; gathers = g })
      (λ e. record { shape = refl; notices = refl; cycles = refl; found = tt; choice = c; gathers = g })

  -- at gates and roots
  paused_left : (pause : Pause) → Rested k → GathersAt n k (Pausing (Draining pause 0)) s.facets.names.collector
      → Leaves n s k (paused k pause)
  paused_left Snapshot c g = record {
    shape = refl;
    notices = refl;
    cycles = refl;
    found = tt;
    choice = c;
    gathers = g;
  }
  paused_left ForChoice c g = record {
    shape = refl;
    notices = refl;
    cycles = refl;
    found = tt;
    choice = c;
    gathers = g;
  }

  draining_left : (pause : Pause) (l m : ℕ) → Rested k
      → GathersAt n k (Pausing (Draining pause l)) s.facets.names.collector
      → Leaves n s k (at k (Pausing (Draining pause m)))
  draining_left Snapshot l m c g = record {
    shape = refl;
    notices = refl;
    cycles = refl;
    found = tt;
    choice = c;
    gathers = g;
  }
  draining_left ForChoice l m c g = record {
    shape = refl;
    notices = refl;
    cycles = refl;
    found = tt;
    choice = c;
    gathers = g;
  }

  same_gathers : (pause : Pause) (l m : ℕ) → GathersAt n k (Pausing (Draining pause l)) s.facets.names.collector
      → GathersAt n k (Pausing (Draining pause m)) s.facets.names.collector
  same_gathers Snapshot l m g = g
  same_gathers ForChoice l m g = g

  gate_left : (pause : Pause) (m x : ℕ) → Rested k
      → GathersAt n k (Pausing (Draining pause m)) s.facets.names.collector
      → Leaves n s k (pause_fed k (Draining pause m) x)
  gate_left pause m x c g =
      either_way (Leaves n s k) (nat_lt 0 (count_of x)) (at k (Pausing (Draining pause m)))
      (if m + 1 == k.shape.mutators then paused k pause else at k (Pausing (Draining pause (m + 1))))
      (λ e. draining_left pause m m c g)
      (λ e. either_way (Leaves n s k) (m + 1 == k.shape.mutators) (paused k pause)
      (at k (Pausing (Draining pause (m + 1)))) (λ e. paused_left pause c (same_gathers pause m 0 g))
      (λ e. draining_left pause m (m + 1) c g))

  root_left : (m q x : ℕ) → Rested k → k.freed ≡ [] → Leaves n s k (pause_fed k (LoadingRoot m q) x)
  root_left m q x c g =
      let h : Holdings = record k { pending = k.pending ++ names_of (value_at x) } in
      by_test (λ stage. Leaves n s k (at h (Pausing stage))) (nat_lt (q + 1) k.shape.roots) (LoadingRoot m (q + 1))
      (if nat_lt (m + 1) k.shape.mutators then LoadingRoot (m + 1) 0 else StoringTrace)
      (λ e. record { shape = refl; notices = refl; cycles = refl; found = tt; choice = c; gathers = g })
      (λ e. by_test (λ stage. Leaves n s k (at h (Pausing stage))) (nat_lt (m + 1) k.shape.mutators)
      (LoadingRoot (m + 1) 0) StoringTrace
      (λ e. record { shape = refl; notices = refl; cycles = refl; found = tt; choice = c; gathers = g })
      (λ e. record { shape = refl; notices = refl; cycles = refl; found = tt; choice = c; gathers = g }))

  -- at rings
  head_left : (name : Name) (x : ℕ) → Rested k → Fresh k → Leaves n s k (forward_fed k (Looking name) x)
  head_left name x c g =
      either_way (Leaves n s k) (x == 0)
      (at (set_window k (owner k.shape name) (found_room k.shape.ring (window_of k (owner k.shape name))))
      (Forwarding (Storing name))) (at k (Forwarding (Looking name)))
      (λ e. record { shape = refl; notices = refl; cycles = refl; found = tt; choice = c; gathers = g })
      (λ e. record { shape = refl; notices = refl; cycles = refl; found = tt; choice = c; gathers = g })

  empty_left : (windows : List Window) (o : Option ℕ) → Rested k → Fresh k
      → Leaves n s k (empty_from (record k { windows = windows }) o)
  empty_left windows (Some r) c g = record {
    shape = refl;
    notices = refl;
    cycles = refl;
    found = tt;
    choice = c;
    gathers = g;
  }
  empty_left windows None c g = record {
    shape = refl;
    notices = refl;
    cycles = refl;
    found = tt;
    choice = c;
    gathers = g;
  }

  barrier_left : (m x : ℕ) → Rested k → Fresh k → Leaves n s k (barrier_fed k (Loading m) x)
  barrier_left m x c g =
      either_way (Leaves n s k) (x == 0) (barriers_from k (m + 1)) (at k (Barriers (Clearing m (name_at x))))
      (λ e. either_way (Leaves n s k) (m + 1 == k.shape.mutators) (empty k) (at k (Barriers (Loading (m + 1))))
      (λ e. empty_left k.windows (position is_open k.windows) c g)
      (λ e. record { shape = refl; notices = refl; cycles = refl; found = tt; choice = c; gathers = g }))
      (λ e. record { shape = refl; notices = refl; cycles = refl; found = tt; choice = c; gathers = g })

  work_left : (r x : ℕ) → Rested k → Fresh k → Leaves n s k (empty_fed k r x)
  work_left r x c g =
      let windows : List Window = slice_set k.windows r (tail_up k.shape.ring (window_of k r)) in
      either_way (Leaves n s k) (x == 0) (empty (record k { windows = windows })) (at k (Emptying r))
      (λ e. empty_left windows (position is_open windows) c g)
      (λ e. record { shape = refl; notices = refl; cycles = refl; found = tt; choice = c; gathers = g })

  -- at tablets
  abbrev ChosenLeaves : List Gift → List ℕ → Collecting → Type 0
  ChosenLeaves given spare c = StageFound n s.words c.kept c.stage
      → ChoiceOf n s.words s.facets.choice c.kept c.stage given spare → Leaves n s k c

  -- where it goes on with the choice
  chosen_left : (given : List Gift) (spare : List ℕ) (h : Holdings) (stage : ChoiceStage) → h.shape ≡ k.shape
      → h.notice_at ≡ k.notice_at → h.cycles ≡ k.cycles → Fresh h
      → ChosenLeaves given spare (at h (Choosing stage))
  chosen_left given spare h stage shape notices cycles g f o = record {
    shape = shape;
    notices = notices;
    cycles = cycles;
    found = f;
    choice = (given, spare, o);
    gathers = g;
  }

  live_left : (r place x : ℕ) (given : List Gift) (spare : List ℕ) → Fresh k
      → ChosenLeaves given spare (choice_fed k (LoadingLive r place) x)
  live_left r place x given spare g =
      chosen_left given spare k (LoadingTop r place (live_words k x)) refl refl refl g

  top_left : (r place number x : ℕ) (given : List Gift) (spare : List ℕ) → Fresh k
      → ChosenLeaves given spare (choice_fed k (LoadingTop r place number) x)
  top_left r place number x given spare g =
      let h : Holdings = record k { used = k.used ++ record { top = x; live = number } ∷ [] } in
      let u : Holdings = server_chosen h r in
      either_way (ChosenLeaves given spare) (place + 1 == k.shape.tablets) (servers_from u (r + 1))
      (at h (Choosing (LoadingLive r (place + 1))))
      (λ e. either_way (ChosenLeaves given spare) (r + 1 == k.shape.servers) (gifts_from u 0)
      (at u (Choosing (LoadingLive (r + 1) 0)))
      (λ e. either_way (ChosenLeaves given spare) (nat_lt 0 (length u.chosen)) (at u (Choosing (LoadingHome 0)))
      (at u (Choosing StoringEvac)) (λ e. chosen_left given spare u (LoadingHome 0) refl refl refl g)
      (λ e. chosen_left given spare u StoringEvac refl refl refl g))
      (λ e. chosen_left given spare u (LoadingLive (r + 1) 0) refl refl refl g))
      (λ e. chosen_left given spare h (LoadingLive r (place + 1)) refl refl refl g)

-- ---- its looks

module _ (n : Numbers) (w : Facts) (s : JointScene) (seats : List Seat) (i : ℕ) (k : Holdings)
    (all : AllSit n w s seats) where
  abbrev Keeps : CollectStage → Type 0
  Keeps stage = slice_get seats i ≡ Some (Collector (at k stage))
      → Fits (at k stage) (finds (next_of (at k stage)) s.words)
      → AllSit n w (stepped n s (at k stage)) (slice_set seats i (Collector (collector_next (at k stage) s.words)))

  abbrev word : CollectStage → ℕ
  word stage = finds (next_of (at k stage)) s.words

  idle_look : (stage : IdleStage) → IsIdleLook stage → Keeps (Idle stage)
  idle_look LoadingDemand is here fits =
      let c : Collecting = at k (Idle LoadingDemand) in
      let sits : CollectorSits n w s all.taker all.places i c = all.each i (Collector c) here in
      silent_keeps n w s seats i k (Idle LoadingDemand) tt all here fits (load_leaves s.words (index k.shape demand))
      (idle_steps_keep n w s all.places k LoadingDemand
      (stands n w s seats i k (Idle LoadingDemand) tt all here fits))
      (demand_left n s k (word (Idle LoadingDemand)) sits.choice sits.gathers)
  idle_look LookingFinished is here fits =
      let c : Collecting = at k (Idle LookingFinished) in
      let sits : CollectorSits n w s all.taker all.places i c = all.each i (Collector c) here in
      silent_keeps n w s seats i k (Idle LookingFinished) tt all here fits
      (load_leaves s.words (index k.shape finished))
      (idle_steps_keep n w s all.places k LookingFinished
      (stands n w s seats i k (Idle LookingFinished) tt all here fits))
      (finished_left n s k (word (Idle LookingFinished)) sits.choice sits.gathers)
  idle_look StoringStop is here fits = absurd is

  gate_look : (pause : Pause) (m : ℕ) → Keeps (Pausing (Draining pause m))
  gate_look pause m here fits =
      let stage : CollectStage = Pausing (Draining pause m) in
      let sits : CollectorSits n w s all.taker all.places i (at k stage) = all.each i (Collector (at k stage)) here in
      silent_keeps n w s seats i k stage tt all here fits (load_leaves s.words (index k.shape (mutator_gate m)))
      (pause_steps_keep n w s all.places k (Draining pause m) (stands n w s seats i k stage tt all here fits) tt)
      (gate_left n s k pause m (word stage) sits.choice sits.gathers)

  root_look : (m q : ℕ) → Keeps (Pausing (LoadingRoot m q))
  root_look m q here fits =
      let stage : CollectStage = Pausing (LoadingRoot m q) in
      let sits : CollectorSits n w s all.taker all.places i (at k stage) = all.each i (Collector (at k stage)) here in
      silent_keeps n w s seats i k stage tt all here fits (load_leaves s.words (index k.shape (root m q)))
      (pause_steps_keep n w s all.places k (LoadingRoot m q) (stands n w s seats i k stage tt all here fits) tt)
      (root_left n s k m q (word stage) sits.choice sits.gathers)

  head_look : (x : Name) → Keeps (Forwarding (Looking x))
  head_look x here fits =
      let stage : CollectStage = Forwarding (Looking x) in
      let sits : CollectorSits n w s all.taker all.places i (at k stage) = all.each i (Collector (at k stage)) here in
      silent_keeps n w s seats i k stage tt all here fits (load_leaves s.words (index k.shape (head_slot k x)))
      (round_steps_keep n w s all.places k stage tt (stands n w s seats i k stage tt all here fits))
      (head_left n s k x (word stage) sits.choice sits.gathers)

  barrier_look : (m : ℕ) → Keeps (Barriers (Loading m))
  barrier_look m here fits =
      let stage : CollectStage = Barriers (Loading m) in
      let sits : CollectorSits n w s all.taker all.places i (at k stage) = all.each i (Collector (at k stage)) here in
      silent_keeps n w s seats i k stage tt all here fits
      (load_leaves s.words (index k.shape (barrier m (slice_index k.barrier_at m))))
      (round_steps_keep n w s all.places k stage tt (stands n w s seats i k stage tt all here fits))
      (barrier_left n s k m (word stage) sits.choice sits.gathers)

  work_look : (r : ℕ) → Keeps (Emptying r)
  work_look r here fits =
      let stage : CollectStage = Emptying r in
      let sits : CollectorSits n w s all.taker all.places i (at k stage) = all.each i (Collector (at k stage)) here in
      silent_keeps n w s seats i k stage tt all here fits
      (load_leaves s.words (index k.shape (work r ((window_of k r).tail % k.shape.ring))))
      (round_steps_keep n w s all.places k stage tt (stands n w s seats i k stage tt all here fits))
      (work_left n s k r (word stage) sits.choice sits.gathers)

  live_look : (r place : ℕ) → Keeps (Choosing (LoadingLive r place))
  live_look r place here fits =
      let stage : CollectStage = Choosing (LoadingLive r place) in
      let sits : CollectorSits n w s all.taker all.places i (at k stage) = all.each i (Collector (at k stage)) here in
      let x : Stands n w s all.places (at k stage) = stands n w s seats i k stage tt all here fits in
      let next : Collecting = collector_next (at k stage) s.words in
      let given : List Gift = sits.choice.0 in
      let spare : List ℕ = sits.choice.1 in
      let same : words_next (at k stage) s.words ≡ s.words =
      load_leaves s.words (index k.shape (live (r * k.shape.tablets + place))) in
      let begun : s.facets.choice ≡ chooses settled given spare = sits.choice.2.begun in
      silent_keeps n w s seats i k stage tt all here fits same
      (subst (λ (choice : Choice). Joint n w (with_collector n s (words_next (at k stage) s.words) choice next))
      (sym begun)
      (choice_steps_keep n w s all.places k (LoadingLive r place) x given spare begun tt))
      (live_left n s k r place (word stage) given spare sits.gathers
      (subst (λ (us : List ℕ). StageFound n us next.kept next.stage) same
      (findings_are_kept n w s all.places k stage tt x sits.found))
      (subst (λ (choice : Choice). ChoiceOf n s.words choice next.kept next.stage given spare) (sym begun)
      (subst (λ (us : List ℕ). ChoiceOf n us (chooses settled given spare) next.kept next.stage given spare) same
      (choices_are_kept n w s all.places k (LoadingLive r place) x sits.found tt given spare sits.choice.2))))

  top_look : (r place number : ℕ) → Keeps (Choosing (LoadingTop r place number))
  top_look r place number here fits =
      let stage : CollectStage = Choosing (LoadingTop r place number) in
      let sits : CollectorSits n w s all.taker all.places i (at k stage) = all.each i (Collector (at k stage)) here in
      let x : Stands n w s all.places (at k stage) = stands n w s seats i k stage tt all here fits in
      let next : Collecting = collector_next (at k stage) s.words in
      let given : List Gift = sits.choice.0 in
      let spare : List ℕ = sits.choice.1 in
      let same : words_next (at k stage) s.words ≡ s.words =
      load_leaves s.words (index k.shape (top (r * k.shape.tablets + place))) in
      let begun : s.facets.choice ≡ chooses settled given spare = sits.choice.2.begun in
      silent_keeps n w s seats i k stage tt all here fits same
      (subst (λ (choice : Choice). Joint n w (with_collector n s (words_next (at k stage) s.words) choice next))
      (sym begun)
      (choice_steps_keep n w s all.places k (LoadingTop r place number) x given spare begun tt))
      (top_left n s k r place number (word stage) given spare sits.gathers
      (subst (λ (us : List ℕ). StageFound n us next.kept next.stage) same
      (findings_are_kept n w s all.places k stage tt x sits.found))
      (subst (λ (choice : Choice). ChoiceOf n s.words choice next.kept next.stage given spare) (sym begun)
      (subst (λ (us : List ℕ). ChoiceOf n us (chooses settled given spare) next.kept next.stage given spare) same
      (choices_are_kept n w s all.places k (LoadingTop r place number) x sits.found tt given spare sits.choice.2))))

  look : (stage : CollectStage) → IsLook stage → Keeps stage
  look (Idle stage) is here fits = idle_look stage is here fits
  look (Pausing (Shutting pause m)) is here fits = absurd is
  look (Pausing (Draining pause m)) is here fits = gate_look pause m here fits
  look (Pausing (LoadingRoot m q)) is here fits = root_look m q here fits
  look (Pausing StoringTrace) is here fits = absurd is
  look (Pausing (Opening m)) is here fits = absurd is
  look (Forwarding (Looking x)) is here fits = head_look x here fits
  look (Forwarding (Storing x)) is here fits = absurd is
  look (Barriers (Loading m)) is here fits = barrier_look m here fits
  look (Barriers (Clearing m x)) is here fits = absurd is
  look (Emptying r) is here fits = work_look r here fits
  look Polling is here fits = absurd is
  look (Choosing (LoadingLive r place)) is here fits = live_look r place here fits
  look (Choosing (LoadingTop r place number)) is here fits = top_look r place number here fits
  look (Choosing (LoadingHome l)) is here fits = absurd is
  look (Choosing (StoringLeaving l gift)) is here fits = absurd is
  look (Choosing (StoringHome l gift)) is here fits = absurd is
  look (Choosing (StoringTop l)) is here fits = absurd is
  look (Choosing StoringEvac) is here fits = absurd is
  look (Choosing (Reopening m)) is here fits = absurd is
  look (Noticing stage) is here fits = absurd is
  look Ended is here fits = absurd is

pub looks_keep_all : LooksKeepAll
looks_keep_all n w s seats i k stage is all here fits = look n w s seats i k all stage is here fits
