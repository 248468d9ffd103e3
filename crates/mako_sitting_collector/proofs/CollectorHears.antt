-- The collector's steps at notices keep all seats.
use Rattle.std.proofs.Common.{◌≡◌, ◌≢◌, ℕ, ◌+◌, ◌<◌, ◌≤◌, ◌⊎◌, inl, ⊎_elim, List, length, map, set, slice_get}
use Rattle.std.proofs.Common.{slice_index, get_or, Some, sym, ap, subst, refl, ◌∙◌, arith}
use Rattle.std.proofs.lemmas.Bool.{cases_eq, cases_lt}
use Rattle.std.proofs.lemmas.Option.{slice_get-get_or, same_Some}
use Rattle.mako_words.specs.Phases.{cycle_of}
use Rattle.mako_shape.specs.declared.numbers.Numbers.{Numbers}
use Rattle.mako_shape.specs.Places.{barrier, work, ghost, live}
use Rattle.mako_step.specs.Acts.{finds}
use Rattle.mako_model.specs.Dead.{names_made}
use Rattle.mako_model.specs.Legal.{Facts}
use Rattle.mako_model.proofs.Lists.{get_set_other, get_set_same}
use Rattle.mako_names.specs.Notices.{Gathering}
use Rattle.mako_names.specs.Tables.{phase_of}
use Rattle.mako_layout.specs.StepParts.{collector_seat}
use Rattle.mako_phases.specs.Facets.{collecting}
use Rattle.mako_phases.proofs.LiveLaws.{past_stays}
use Rattle.mako_joint.specs.Joints.{JointScene}
use Rattle.mako_server.specs.Serving.{Serving}
use Rattle.mako_pause.specs.Collecting.{Holdings, next_of}
use Rattle.mako_pause.specs.Keeping.{NoticeIsKnown}
use Rattle.mako_pause.specs.declared.stage.NoticeStage.{NoticeStage}
use Rattle.mako_pause.specs.declared.stage.NoticeStage.TheVariants.{Looking as NoticeLook, Clearing as NoticeClear}
use Rattle.mako_pause.specs.declared.stage.NoticeStage.TheVariants.{StoringIdle}
use Rattle.mako_seat.specs.declared.seat.Seat.{Seat}
use Rattle.mako_seat.specs.declared.seat.Seat.TheVariants.{Mutator, Server, Collector}
use Rattle.mako_mutating.specs.Beside.{Silent}
use Rattle.mako_tracing.specs.ServerKeeps.{IsNameFor, SlotsBelong}
use Rattle.mako_clearing.specs.Hearing.{notice_server, notice_part, NoticeKnows, HearingStands, noticing, words_next}
use Rattle.mako_clearing.specs.Hearing.{hears_next, HearingGoesOn, IsReading}
use Rattle.mako_clearing.proofs.Hearing.{hearing_keeps}
use Rattle.mako_writes.specs.Writes.{CollectorWrites, LeavesOthers}
use Rattle.mako_writes.proofs.Collectors.{collectors_write}
use Rattle.mako_sitting.specs.Seats.{StageSits, ServerSits, CollectorSits, SeatSits, LivesFit, live_facet, AllSit}
use Rattle.mako_sitting_collector.specs.CollectorLeaves.{CollectorLeaves}
use Rattle.mako_sitting_collector.specs.CollectorHears.{ReadAreHeard, GivenAreNext, HearsOn, HearingKeepsAll}
use Rattle.mako_sitting_collector.proofs.CollectorHeard.{Hears, hearing_leaves, ReadsOn, reads_on, none_left}
use Rattle.mako_sitting_collector.proofs.CollectorNames.{names_are_few}
use Rattle.mako_sitting_collector.proofs.CollectorHearsServers.{then_at, words_left, phase_left, evac_is, stage_left}
use Rattle.mako_sitting_collector.proofs.CollectorHearsServers.{Sends, sends}
use Rattle.mako_sitting_collector.proofs.CollectorHearsOwn.{stands_are, own_sits}
use Rattle.mako_sitting_collector.proofs.CollectorOthers.{servers_sit_by, all_sit}

-- ---- the server that it reads

reads_low : (k : Holdings) (stage : NoticeStage) → IsReading stage → NoticeIsKnown k stage
    → notice_server k.shape stage < k.shape.servers
reads_low k (NoticeLook s) is low = low
reads_low k (NoticeClear s told) is low = low
reads_low k StoringIdle is low = absurd is

pub record HasServer (n : Numbers) (seats : List Seat) (r : ℕ) : Type 0 where
  pub v : Serving
  pub there : slice_get seats (n.mutators + r) ≡ Some (Server v)
  pub number : v.tracer.server ≡ r

pub has_server : (n : Numbers) (w : Facts) (s : JointScene) (seats : List Seat) → AllSit n w s seats → Seat → (r : ℕ)
    → r < n.servers → HasServer n seats r
has_server n w s seats a first r low = by (get_or seats (n.mutators + r) first) at (a.each (n.mutators + r) _ at)
  where
    at : slice_get seats (n.mutators + r) ≡ Some (get_or seats (n.mutators + r) first)
    at = slice_get-get_or seats (n.mutators + r) first (let count = a.count in omega arith)

    by : (x : Seat) → slice_get seats (n.mutators + r) ≡ Some x → SeatSits n w s a.taker a.places (n.mutators + r) x
        → HasServer n seats r
    by (Mutator d) is sits = absurd (let low = sits.keeps.in_range in omega arith)
    by (Server v) is sits = record {
      v = v;
      there = is;
      number = let number = sits.number in omega arith;
    }
    by (Collector c) is sits = absurd (let number = sits.number in omega arith)

below_next : (r q : ℕ) → r ≢ q → r < q + 1 → r < q
below_next r q apart low = ⊎_elim (λ l. l) (λ l. absurd (apart (omega arith))) (cases_lt r q)

same_server : (v u : Serving) → Server v ≡ Server u → v ≡ u
same_server v u e = cc

module _ (n : Numbers) (w : Facts) (s : JointScene) (seats : List Seat) (i : ℕ) (k : Holdings) (stage : NoticeStage)
    (is : IsReading stage) (all : AllSit n w s seats) (here : slice_get seats i ≡ Some (Collector (noticing k stage)))
    (knows : NoticeKnows n s.words k stage) where
  sits : CollectorSits n w s all.taker all.places i (noticing k stage)
  sits = all.each i (Collector (noticing k stage)) here

  stands : HearingStands n s k stage
  stands = record {
    known = sits.known;
    stage_known = sits.keeps.stage.1;
    shape = sits.here.shape;
    phase = stands_are n w s all.taker all.places i k stage sits;
    gathers = sits.gathers;
    knows = knows;
  }

  abbrev server : ℕ
  server = notice_server n stage

  low : notice_server n stage < n.servers
  low = subst (λ (q : Numbers). notice_server q stage < q.servers) stands.shape
      (reads_low k stage is stands.stage_known)

  reads : HasServer n seats (notice_server n stage)
  reads = has_server n w s seats all (Collector (noticing k stage)) (notice_server n stage) low

  read_sits : ServerSits n w s (all.taker reads.v.tracer.server) (n.mutators + notice_server n stage) reads.v
  read_sits = all.each (n.mutators + notice_server n stage) (Server reads.v) reads.there

  told : Sends n w s k stage all.joint stands is reads.v reads.v.stage
  told =
      sends n w s k stage all.joint stands is reads.v reads.number read_sits.in_range reads.v.stage
      read_sits.keeps.known.stage
      (subst (λ q. StageSits n w s q reads.v reads.v.stage) (sits.takes reads.v.tracer.server) read_sits.stage)

  goes : HearingGoesOn n w s k stage (notice_server n stage) told.next told.sent told.carried told.done
  goes =
      hearing_keeps n w s k stage told.next told.sent told.carried told.done all.joint stands is told.sender
      (record {
        lists = sits.lists;
        room = subst (λ r. length (names_made s.front.history) ≤ r) (sym sits.room)
            (names_are_few n w s all.joint);
      })

  abbrev us : List ℕ
  us = words_next k stage s.words

  abbrev then : JointScene
  then = then_at n w s k stage all.joint stands is goes.after goes.to goes.left

  hears : Hears k (notice_server n stage) (noticing goes.after goes.to)
  hears =
      subst (Hears k (notice_server n stage)) goes.is
      (subst (λ (q : Numbers). Hears k (notice_server q stage) (hears_next k stage s.words)) stands.shape
      (hearing_leaves k stage is (finds (next_of (noticing k stage)) s.words)))

  leaves : CollectorLeaves n w s all.joint then
  leaves = record {
    goes = λ m. Silent;
    trace = λ x beside. refl;
    gates = λ x beside. refl;
    works = λ x beside. refl;
    phases = λ x beside. get_set_other s.facets.phases (collector_seat n) x
        (collecting (notice_part n goes.after goes.to) goes.after.pending) beside;
    held = refl;
    trying = refl;
    left = refl;
    servers = refl;
    words = subst (λ (q : Numbers). LeavesOthers q CollectorWrites s.words us) stands.shape
        (collectors_write (noticing k stage) s.words sits.known sits.keeps.stage);
    barriers = λ m slot low small.
        inl (words_left n w s k stage all.joint stands is (barrier m slot) (low, small) (λ x. x));
    cycle = inl (ap cycle_of (phase_left n w s k stage all.joint stands is));
  }

  on : ReadsOn n stage (noticing goes.after goes.to)
  on =
      subst (ReadsOn n stage) goes.is
      (subst (λ (q : Numbers). ReadsOn q stage (hears_next k stage s.words)) stands.shape
      (reads_on k stage is (finds (next_of (noticing k stage)) s.words)))

  read_then : ReadAreHeard s → ReadAreHeard then
  read_then read r names below there =
      ⊎_elim
      (λ e. let left_is : goes.left ≡ names =
      same_Some goes.left names
      (sym (get_set_same s.facets.names.sent (notice_server n stage) goes.left told.sent told.sender.sent_is)
      ∙ ap (slice_get (set s.facets.names.sent (notice_server n stage) goes.left)) (sym e) ∙ there) in
      ⊎_elim (λ same. absurd (omega arith))
      (λ t. sym left_is
      ∙ none_left n w s k stage all.joint low t.0 knows told.next told.sent told.carried goes.left told.done
      told.sender goes.sent_is) on)
      (λ apart. read r names
      (subst (λ q. r < q) (sym (ap (λ (g : Gathering). g.server) stands.gathers))
      (⊎_elim (λ same. omega arith)
      (λ t. let more = t.1 in below_next r (notice_server n stage) apart (omega arith)) on))
      (sym (get_set_other s.facets.names.sent (notice_server n stage) r goes.left apart) ∙ there))
      (cases_eq r (notice_server n stage))

  -- ---- each server

  later_stage : (seat : ℕ) (v : Serving) → slice_get seats seat ≡ Some (Server v)
      → ServerSits n w s (all.taker v.tracer.server) seat v
      → StageSits n w then (slice_index goes.after.notice_at v.tracer.server) v v.stage
  later_stage seat v at x =
      ⊎_elim
      (λ e. let number = x.number in
      let one : n.mutators + notice_server n stage ≡ seat = omega arith in
      subst (λ (u : Serving). StageSits n w then (slice_index goes.after.notice_at u.tracer.server) u u.stage)
      (same_server reads.v v
      (same_Some (Server reads.v) (Server v) (sym reads.there ∙ ap (slice_get seats) one ∙ at)))
      (told.sits goes))
      (λ apart. subst (λ q. StageSits n w then q v v.stage)
      (sits.takes v.tracer.server ∙ sym (hears.notices v.tracer.server apart))
      (stage_left n w s k stage all.joint stands is goes.after goes.to goes.left goes.joint
      (all.taker v.tracer.server) v apart x.in_range v.stage x.keeps.known.stage x.stage))
      (cases_eq v.tracer.server (notice_server n stage))

  later_server : (seat : ℕ) (v : Serving) → slice_get seats seat ≡ Some (Server v)
      → ServerSits n w then (slice_index goes.after.notice_at v.tracer.server) seat v
  later_server seat v at =
      let x : ServerSits n w s (all.taker v.tracer.server) seat v = all.each seat (Server v) at in
      let number = x.number in
      let inside = x.in_range in
      servers_sit_by n w s all.joint then leaves (all.taker v.tracer.server)
      (slice_index goes.after.notice_at v.tracer.server) seat v (λ e. absurd (omega arith)) (later_stage seat v at x)
      x.measured x

  -- ---- words

  slots : SlotsBelong n us
  slots = record {
    works = λ r q inside.
        subst (λ x. (x ≡ 0) ⊎ IsNameFor n r x)
        (sym (words_left n w s k stage all.joint stands is (work r q) inside (λ x. x))) (all.slots.works r q inside);
    ghosts = λ a r q inside.
        subst (λ x. (x ≡ 0) ⊎ IsNameFor n r x)
        (sym (words_left n w s k stage all.joint stands is (ghost a r q) inside (λ x. x)))
        (all.slots.ghosts a r q inside);
  }

  lives : LivesFit (phase_of n us) n w us s.front.history (map live_facet seats)
  lives =
      let evac = evac_is n w s k stage all.joint stands is in
      subst (λ p. LivesFit p n w us s.front.history (map live_facet seats))
      (sym (phase_left n w s k stage all.joint stands is ∙ evac))
      (past_stays n s.words us (map live_facet seats) (k.cycle + 1)
      (subst (λ p. LivesFit p n w s.words s.front.history (map live_facet seats)) evac all.lives)
      (λ t inside. words_left n w s k stage all.joint stands is (live t) inside (λ x. x)))

  pub hears_on : HearsOn n w s seats i k stage
  hears_on = record {
    can = goes.can;
    after = goes.after;
    to = goes.to;
    is = goes.is;
    left = goes.left;
    knows = goes.stands.knows;
    read = read_then;
    next = λ given. subst (GivenAreNext n w then) (sym hears.same) given;
    all = all_sit n w s seats i (noticing k stage) (noticing goes.after goes.to) then all here leaves goes.joint
        (λ r. slice_index goes.after.notice_at r) later_server
        (own_sits n w s k stage all.joint stands is goes.after goes.to goes.left all.taker all.places i sits hears
        goes.stands)
        slots all.few lives;
  }

pub hearing_keeps_all : HearingKeepsAll
hearing_keeps_all n w s seats i k stage is all here knows = hears_on n w s seats i k stage is all here knows
