-- The collector's stores into rings and its poll keep all seats.
use Rattle.std.proofs.Common.{◌≡◌, ℕ, ◌%◌, ◌<◌, inr, Some, List, [], ◌∷◌, map, set, slice_get, slice_set, slice_index}
use Rattle.std.proofs.Common.{sym, ap, subst, refl, ◌∙◌, arith}
use Rattle.std.proofs.lemmas.Nat.{mod_below}
use Rattle.mako_words.specs.declared.name.Name.{Name}
use Rattle.mako_words.specs.Names.{name_word}
use Rattle.mako_shape.specs.declared.numbers.Numbers.{Numbers}
use Rattle.mako_shape.specs.Places.{barrier, flags, work, index}
use Rattle.mako_step.specs.Acts.{finds, words_stepped}
use Rattle.mako_step.specs.Machines.{IsAct}
use Rattle.mako_model.specs.Legal.{Facts}
use Rattle.mako_layout.specs.Facets.{Choice, rests_with}
use Rattle.mako_ring.specs.Tracing.{owner}
use Rattle.mako_ring.specs.Windows.{head_up}
use Rattle.mako_ring.proofs.Found.{owner_in_range}
use Rattle.mako_poll.specs.Polls as poll
use Rattle.mako_poll.specs.declared.poller.PollStage.{PollStage}
use Rattle.mako_poll.specs.declared.poller.PollStage.TheVariants.{Asking, Reading, Ended as Polled}
use Rattle.mako_poll.specs.declared.poller.Polled.TheVariants.{Told, NotYet}
use Rattle.mako_joint.specs.Joints.{JointScene, Joint}
use Rattle.mako_pause.specs.Collecting.{Collecting, Holdings, at, next_of, Fits, window_of, set_window, forward_from}
use Rattle.mako_pause.specs.Collecting.{polled_at}
use Rattle.mako_pause.specs.declared.stage.Pause.TheVariants.{Choice as ForChoice}
use Rattle.mako_pause.specs.declared.stage.PauseStage.TheVariants.{Shutting}
use Rattle.mako_pause.specs.declared.stage.ForwardStage.TheVariants.{Looking, Storing}
use Rattle.mako_pause.specs.declared.stage.BarrierStage.TheVariants.{Loading, Clearing}
use Rattle.mako_pause.specs.declared.stage.ChoiceStage.TheVariants.{LoadingLive}
use Rattle.mako_pause.specs.declared.stage.CollectStage.{CollectStage}
use Rattle.mako_pause.specs.declared.stage.CollectStage.TheVariants.{Idle, Pausing, Forwarding, Barriers, Emptying}
use Rattle.mako_pause.specs.declared.stage.CollectStage.TheVariants.{Polling, Choosing, Noticing, Ended}
use Rattle.mako_server.specs.Serving.{Serving}
use Rattle.mako_seat.specs.declared.seat.Seat.{Seat}
use Rattle.mako_seat.specs.declared.seat.Seat.TheVariants.{Server, Collector}
use Rattle.mako_collecting.specs.Findings.{StageFound}
use Rattle.mako_collecting.specs.Laws.{Stands, IsUpToEvac}
use Rattle.mako_collecting.specs.Steps.{with_collector, words_next, collector_next, stepped, choice_begun}
use Rattle.mako_collecting.proofs.EachKept.{seats_stay, steps_keep_their_own}
use Rattle.mako_collecting.proofs.EachStage.{round_steps_keep, poll_steps_keep}
use Rattle.mako_collecting.proofs.Findings.{findings_are_kept}
use Rattle.mako_collecting.proofs.Idling.{either_way}
use Rattle.mako_collecting.proofs.Known.{steps_keep_known}
use Rattle.mako_collecting.proofs.LeavesKept.{choices_begin}
use Rattle.mako_sitting.specs.Seats.{ChoiceSits, SparesAre, GathersAt, ServerSits, CollectorSits, live_facet, AllSit}
use Rattle.mako_sitting_collector.specs.CollectorRounds.{IsRoundStore, RoundStoresKeepAll, PollsKeepAll}
use Rattle.mako_sitting_collector.proofs.CollectorServerTies.{servers_tied}
use Rattle.mako_sitting_collector.proofs.CollectorOthers.{servers_sit, all_sit}
use Rattle.mako_sitting_collector.proofs.CollectorStored.{Stored, slots_left, lives_left, leaves_seats, leaves_servers}

-- ---- the word that it stores

module _ (w : Facts) (s : JointScene) (places : ℕ → ℕ) (k : Holdings) where
  abbrev n : Numbers
  n = k.shape

  abbrev StoredAt : CollectStage → Type 0
  StoredAt stage = Stored n s.words (words_next (at k stage) s.words)

  name_stored : (x : Name) → Stands n w s places (at k (Forwarding (Storing x))) → StoredAt (Forwarding (Storing x))
  name_stored x y =
      let each = y.joint.script.shape.in_range.each in record {
        place = work (owner n x) ((window_of k (owner n x)).head % n.ring);
        word = name_word x;
        within = (
          owner_in_range n x y.keeps.stage.1.0.0,
          mod_below (window_of k (owner n x)).head n.ring (omega (arith, each)),
        );
        is = refl;
        kind = tt;
        writes = tt;
        belongs = inr (record {
          name = x;
          word_is = refl;
          fits = y.keeps.stage.1.0.1;
          in_range = y.keeps.stage.1.0.0;
          own = refl;
        });
        empties = tt;
      }

  slot_emptied : (m : ℕ) (x : Name) → Stands n w s places (at k (Barriers (Clearing m x)))
      → StoredAt (Barriers (Clearing m x))
  slot_emptied m x y =
      let slot = y.known.barriers m 0 (let a = y.known.barriers_count in let b = y.keeps.stage.1.0 in omega arith) in
      record {
        place = barrier m (slice_index k.barrier_at m);
        word = 0;
        within = (y.keeps.stage.1.0, slot);
        is = refl;
        kind = tt;
        writes = tt;
        belongs = tt;
        empties = refl;
      }

  flags_as : (after : List ℕ) (i v : ℕ) → i < n.servers → after ≡ set s.words (index n (flags i)) v
      → Stored n s.words after
  flags_as after i v low is = record {
    place = flags i;
    word = v;
    within = low;
    is = is;
    kind = tt;
    writes = tt;
    belongs = tt;
    empties = tt;
  }

  flags_stored : (q : PollStage) → poll.IsKnown n q → IsAct (poll.stage_next n q)
      → Stored n s.words (words_stepped (poll.stage_next n q) s.words)
  flags_stored (Asking i) known act = flags_as (words_stepped (poll.stage_next n (Asking i)) s.words) i _ known refl
  flags_stored (Reading i) known act = flags_as (words_stepped (poll.stage_next n (Reading i)) s.words) i _ known refl
  flags_stored (Polled answer) known act = absurd act

  polls_store : Stands n w s places (at k Polling) → StoredAt Polling
  polls_store y =
      subst (λ (m : Numbers). Stored n s.words (words_stepped (poll.stage_next m k.poll.stage) s.words))
      (sym y.known.poll_shape) (flags_stored k.poll.stage y.known.poll y.keeps.keeps.1)

  store_at : (stage : CollectStage) → IsRoundStore stage → Stands n w s places (at k stage) → StoredAt stage
  store_at (Forwarding (Storing x)) is y = name_stored x y
  store_at (Barriers (Clearing m x)) is y = slot_emptied m x y
  store_at (Forwarding (Looking x)) is y = absurd is
  store_at (Barriers (Loading m)) is y = absurd is
  store_at (Idle stage) is y = absurd is
  store_at (Pausing stage) is y = absurd is
  store_at (Emptying r) is y = absurd is
  store_at Polling is y = absurd is
  store_at (Choosing stage) is y = absurd is
  store_at (Noticing stage) is y = absurd is
  store_at Ended is y = absurd is

round_stored : (n : Numbers) (w : Facts) (s : JointScene) (places : ℕ → ℕ) (k : Holdings) (stage : CollectStage)
    → IsRoundStore stage → Stands n w s places (at k stage) → Stored n s.words (words_next (at k stage) s.words)
round_stored n w s places k stage is stands =
    subst (λ m. Stands m w s places (at k stage) → Stored m s.words (words_next (at k stage) s.words))
    stands.seat.shape (store_at w s places k stage is) stands

poll_stored : (n : Numbers) (w : Facts) (s : JointScene) (places : ℕ → ℕ) (k : Holdings)
    → Stands n w s places (at k Polling) → Stored n s.words (words_next (at k Polling) s.words)
poll_stored n w s places k stands =
    subst (λ m. Stands m w s places (at k Polling) → Stored m s.words (words_next (at k Polling) s.words))
    stands.seat.shape (polls_store w s places k) stands

-- ---- what it leaves of what it keeps

-- and what stands at the next stage
record Leaves (n : Numbers) (s after : JointScene) (k : Holdings) (next : Collecting) : Type 0 where
  shape : next.kept.shape ≡ k.shape
  notices : next.kept.notice_at ≡ k.notice_at
  cycles : next.kept.cycles ≡ k.cycles
  found : StageFound n after.words next.kept next.stage
  choice : ChoiceSits n after next.kept next.stage
  gathers : GathersAt n next.kept next.stage s.facets.names.collector

module _ (n : Numbers) (s : JointScene) (k : Holdings) (us : List ℕ) where
  abbrev Rested : Holdings → Type 0
  Rested h = (spare : List ℕ) × (s.facets.choice ≡ rests_with spare) × SparesAre n h spare

  abbrev Fresh : Holdings → Type 0
  Fresh h = (h.freed ≡ []) × (s.facets.names.collector ≡ record { server = 0; names = [] })

  abbrev Left : Collecting → Type 0
  Left c = Leaves n s (with_collector n s us s.facets.choice c) k c

  forward_left : (h : Holdings) → h.shape ≡ k.shape → h.notice_at ≡ k.notice_at → h.cycles ≡ k.cycles → Rested h
      → Fresh h → (xs : List Name) → Left (forward_from h xs)
  forward_left h shape notices cycles c g [] = record {
    shape = shape;
    notices = notices;
    cycles = cycles;
    found = tt;
    choice = c;
    gathers = g;
  }
  forward_left h shape notices cycles c g (x ∷ xs) = record {
    shape = shape;
    notices = notices;
    cycles = cycles;
    found = tt;
    choice = c;
    gathers = g;
  }

  abbrev PollLeft : Collecting → Type 0
  PollLeft c = Leaves n s (with_collector n s us (choice_begun c.stage s.facets.choice) c) k c

  poll_left : (p : poll.PollView) (q : PollStage) → Rested k → Fresh k
      → (found : StageFound n us (polled_at (record k { poll = p }) q).kept (polled_at (record k { poll = p }) q).stage)
      → PollLeft (polled_at (record k { poll = p }) q)
  poll_left p (Asking r) c g found = record {
    shape = refl;
    notices = refl;
    cycles = refl;
    found = tt;
    choice = c;
    gathers = g;
  }
  poll_left p (Reading r) c g found = record {
    shape = refl;
    notices = refl;
    cycles = refl;
    found = tt;
    choice = c;
    gathers = g;
  }
  poll_left p (Polled (NotYet r v)) c g found = record {
    shape = refl;
    notices = refl;
    cycles = refl;
    found = tt;
    choice = c;
    gathers = g;
  }
  poll_left p (Polled Told) c g found =
      let h : Holdings = record k { poll = p; used = []; chosen = [] } in
      either_way (λ x. StageFound n us x.kept x.stage → PollLeft x) k.gates_shut (at h (Choosing (LoadingLive 0 0)))
      (at (record k { poll = p }) (Pausing (Shutting ForChoice 0)))
      (λ e f. record {
        shape = refl;
        notices = refl;
        cycles = refl;
        found = f;
        choice = ([], c.0, choices_begin n us s.facets.choice h c.0 (record { rests = c.1; spares = c.2 }));
        gathers = g;
      })
      (λ e f. record { shape = refl; notices = refl; cycles = refl; found = tt; choice = c; gathers = g }) found

-- ---- the collector after it

module _ (n : Numbers) (w : Facts) (s : JointScene) (seats : List Seat) (i : ℕ) (k : Holdings) (stage : CollectStage)
    (up : IsUpToEvac stage) (all : AllSit n w s seats) (here : slice_get seats i ≡ Some (Collector (at k stage)))
    (fits : Fits (at k stage) (finds (next_of (at k stage)) s.words)) where
  abbrev next : Collecting
  next = collector_next (at k stage) s.words

  abbrev us : List ℕ
  us = words_next (at k stage) s.words

  sits : CollectorSits n w s all.taker all.places i (at k stage)
  sits = all.each i (Collector (at k stage)) here

  stands : Stands n w s all.places (at k stage)
  stands = record { joint = all.joint; seat = sits.here; known = sits.known; keeps = sits.keeps }

  module _ (choice : Choice) (leaves : Leaves n s (with_collector n s us choice next) k next) where
    own : CollectorSits n w (with_collector n s us choice next) all.taker all.places i next
    own = record {
      number = sits.number;
      here = seats_stay n s (at k stage) next us choice sits.here (leaves.shape ∙ sits.here.shape);
      known = steps_keep_known n w s all.places k stage up stands fits;
      keeps = steps_keep_their_own n w s all.places k stage up stands fits;
      takes = λ r. sits.takes r ∙ ap (λ xs. slice_index xs r) (sym leaves.notices);
      found = leaves.found;
      choice = leaves.choice;
      gathers = leaves.gathers;
      lists = ap (λ x. x.lists) leaves.cycles ∙ sits.lists;
      room = ap (λ x. x.names_room) leaves.cycles ∙ sits.room;
    }

    -- so all seats sit, where all groups hold
    module _ (joint : Joint n w (with_collector n s us choice next)) (t : Stored n s.words us) where
      servers : (j : ℕ) (v : Serving) → slice_get seats j ≡ Some (Server v)
          → ServerSits n w (with_collector n s us choice next) (all.taker v.tracer.server) j v
      servers j v is =
          let at_seat : ServerSits n w s (all.taker v.tracer.server) j v = all.each j (Server v) is in
          let number = at_seat.number in
          let low = at_seat.in_range in
          servers_sit n w s all.joint (with_collector n s us choice next)
          (leaves_seats n w s all.joint us choice next t) joint
          (leaves_servers n w s all.joint us choice next t) (all.taker v.tracer.server) j v
          (λ e. absurd (omega arith)) at_seat

      stored_keeps : AllSit n w (with_collector n s us choice next) (slice_set seats i (Collector next))
      stored_keeps =
          let size = all.joint.names.hold.size in
          all_sit n w s seats i (at k stage) next (with_collector n s us choice next) all here
          (leaves_seats n w s all.joint us choice next t) joint all.taker servers own
          (slots_left n s.words us size t all.slots) all.few
          (lives_left n s.words us size t w s.front.history (map live_facet seats) joint.names.hold.size all.lives)

-- ---- the laws

module _ (n : Numbers) (w : Facts) (s : JointScene) (seats : List Seat) (i : ℕ) (k : Holdings)
    (all : AllSit n w s seats) where
  abbrev Keeps : CollectStage → Type 0
  Keeps stage = slice_get seats i ≡ Some (Collector (at k stage))
      → Fits (at k stage) (finds (next_of (at k stage)) s.words)
      → AllSit n w (stepped n s (at k stage)) (slice_set seats i (Collector (collector_next (at k stage) s.words)))

  name_keeps : (x : Name) → Keeps (Forwarding (Storing x))
  name_keeps x here fits =
      let stage : CollectStage = Forwarding (Storing x) in
      let seated : CollectorSits n w s all.taker all.places i (at k stage) = all.each i (Collector (at k stage)) here in
      let stood : Stands n w s all.places (at k stage) = stands n w s seats i k stage tt all here fits in
      let h : Holdings = set_window k (owner k.shape x) (head_up (window_of k (owner k.shape x))) in
      stored_keeps n w s seats i k stage tt all here fits s.facets.choice
      (forward_left n s k (words_next (at k stage) s.words) h refl refl refl seated.choice seated.gathers h.pending)
      (round_steps_keep n w s all.places k stage tt stood) (round_stored n w s all.places k stage tt stood)

  slot_keeps : (m : ℕ) (x : Name) → Keeps (Barriers (Clearing m x))
  slot_keeps m x here fits =
      let stage : CollectStage = Barriers (Clearing m x) in
      let seated : CollectorSits n w s all.taker all.places i (at k stage) = all.each i (Collector (at k stage)) here in
      let stood : Stands n w s all.places (at k stage) = stands n w s seats i k stage tt all here fits in
      stored_keeps n w s seats i k stage tt all here fits s.facets.choice
      (record {
        shape = refl;
        notices = refl;
        cycles = refl;
        found = tt;
        choice = seated.choice;
        gathers = seated.gathers;
      })
      (round_steps_keep n w s all.places k stage tt stood) (round_stored n w s all.places k stage tt stood)

  store_keeps : (stage : CollectStage) → IsRoundStore stage → Keeps stage
  store_keeps (Forwarding (Storing x)) is here fits = name_keeps x here fits
  store_keeps (Barriers (Clearing m x)) is here fits = slot_keeps m x here fits
  store_keeps (Forwarding (Looking x)) is here fits = absurd is
  store_keeps (Barriers (Loading m)) is here fits = absurd is
  store_keeps (Idle stage) is here fits = absurd is
  store_keeps (Pausing stage) is here fits = absurd is
  store_keeps (Emptying r) is here fits = absurd is
  store_keeps Polling is here fits = absurd is
  store_keeps (Choosing stage) is here fits = absurd is
  store_keeps (Noticing stage) is here fits = absurd is
  store_keeps Ended is here fits = absurd is

pub round_stores_keep_all : RoundStoresKeepAll
round_stores_keep_all n w s seats i k stage is all here fits = store_keeps n w s seats i k all stage is here fits

pub polls_keep_all : PollsKeepAll
polls_keep_all n w s seats i k all here fits =
    let stage : CollectStage = Polling in
    let seated : CollectorSits n w s all.taker all.places i (at k stage) = all.each i (Collector (at k stage)) here in
    let stood : Stands n w s all.places (at k stage) = stands n w s seats i k stage tt all here fits in
    let p : poll.PollView = poll.fed k.poll (finds (next_of (at k stage)) s.words) in
    stored_keeps n w s seats i k stage tt all here fits
    (choice_begun (collector_next (at k stage) s.words).stage s.facets.choice)
    (poll_left n s k (words_next (at k stage) s.words) p p.stage seated.choice seated.gathers
    (findings_are_kept n w s all.places k stage tt stood tt))
    (poll_steps_keep n w s all.places k stood (servers_tied n w s seats all))
    (poll_stored n w s all.places k stood)
