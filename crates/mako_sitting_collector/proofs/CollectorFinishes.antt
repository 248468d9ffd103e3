-- The collector finishes a cycle, and all seats sit.
use Rattle.std.proofs.Common.{◌≡◌, ℕ, ◌+◌, ◌<◌, ◌≤◌, ◌⊎◌, inl, Bool, true, false, List, [], ◌∷◌, ◌++◌, length, map}
use Rattle.std.proofs.Common.{slice_get, Some, sym, ap, subst, refl, ◌∙◌, arith}
use Rattle.std.proofs.lemmas.List.{length_push}
use Rattle.std.proofs.lemmas.List.Sums.{sum_by-append}
use Rattle.mako_words.specs.declared.name.Name.{Name}
use Rattle.mako_words.specs.declared.phase_word.PhaseWord.TheVariants.{Idle as IdleWord, Evac}
use Rattle.mako_words.specs.Phases.{cycle_of}
use Rattle.mako_shape.specs.declared.numbers.Numbers.{Numbers}
use Rattle.mako_shape.specs.Places.{Place, phase, barrier, work, ghost, live, notice}
use Rattle.mako_step.specs.Machines.{IsAct}
use Rattle.mako_model.specs.Legal.{Facts}
use Rattle.mako_model.proofs.Lists.{get_set_other, get_set_same}
use Rattle.mako_names.specs.Tables.{phase_of}
use Rattle.mako_layout.specs.Facets.{Gift}
use Rattle.mako_layout.specs.Layouts.{regions_of}
use Rattle.mako_layout.specs.StepParts.{collector_seat}
use Rattle.mako_phases.specs.Facets as order
use Rattle.mako_phases.specs.Facets.{evacuating, collecting, serving}
use Rattle.mako_phases.specs.Orders.{EvacuatesIn, ServerStands}
use Rattle.mako_phases.proofs.Frames.{the_seats, the_words}
use Rattle.mako_phases.proofs.LiveLaws.{past_stays}
use Rattle.mako_phases.proofs.Says.{part_phase}
use Rattle.mako_joint.specs.Joints.{JointScene}
use Rattle.mako_evac.specs.declared.owner.Owner.{Owner}
use Rattle.mako_evac.specs.declared.stage.EvacStage.{EvacStage}
use Rattle.mako_evac.specs.declared.stage.EvacStage.TheVariants as evac
use Rattle.mako_evac.specs.Evacuating as evacuations
use Rattle.mako_server.specs.Serving.{Serving, StageIsKnown}
use Rattle.mako_server.specs.declared.stage.ServerStage.{ServerStage}
use Rattle.mako_server.specs.declared.stage.ServerStage.TheVariants.{Turning, Tracing, Evacuating, Ended}
use Rattle.mako_pause.specs.Collecting.{Holdings, running, notice_next, finish, at}
use Rattle.mako_pause.specs.Keeping.{IsKeptKnown}
use Rattle.mako_pause.specs.Regions.{is_spare}
use Rattle.mako_pause.specs.declared.stage.IdleStage.TheVariants.{LoadingDemand}
use Rattle.mako_pause.specs.declared.stage.NoticeStage.TheVariants.{StoringIdle}
use Rattle.mako_pause.specs.declared.stage.CollectStage.TheVariants.{Idle}
use Rattle.mako_seat.specs.declared.seat.Seat.{Seat}
use Rattle.mako_seat.specs.declared.seat.Seat.TheVariants.{Server, Collector}
use Rattle.mako_mutating.specs.Beside.{Silent}
use Rattle.mako_tracing.specs.ServerFacets.{stage_order, tracer_laden}
use Rattle.mako_tracing.specs.ServerKeeps.{IsNameFor, SlotsBelong}
use Rattle.mako_collecting.specs.Keeping.{CollectorKeeps}
use Rattle.mako_collecting.specs.Roles.{role_of}
use Rattle.mako_collecting.proofs.Others.{others_leave_it}
use Rattle.mako_clearing.specs.ClearingFacets.{stage_phase}
use Rattle.mako_clearing.specs.Hearing.{HearingStands, noticing, words_next, with_finish, EndedHaveGoneOver}
use Rattle.mako_clearing.specs.Hearing.{FinishGoesOn}
use Rattle.mako_clearing.proofs.Finishing.{finish_keeps}
use Rattle.mako_clearing.proofs.Rings.{sending_stays}
use Rattle.mako_writes.specs.Writes.{CollectorWrites, LeavesOthers}
use Rattle.mako_writes.proofs.Collectors.{collectors_write}
use Rattle.mako_writes.proofs.Touching.{Leaves, at_place}
use Rattle.mako_sitting.specs.Seats.{GoneOver, HeardIn, RestSits, StageSits, ServerSits, CollectorSits, LivesFit}
use Rattle.mako_sitting.specs.Seats.{live_facet, AllSit}
use Rattle.mako_sitting_collector.specs.CollectorLeaves.{CollectorLeaves}
use Rattle.mako_sitting_collector.specs.CollectorHears.{ReadAreHeard, GivenAreNext}
use Rattle.mako_sitting_collector.specs.CollectorFinishes.{FinishesOn, FinishKeepsAll}
use Rattle.mako_sitting_collector.proofs.CollectorHears.{has_server}
use Rattle.mako_sitting_collector.proofs.CollectorHearsOwn.{stands_are}
use Rattle.mako_sitting_collector.proofs.CollectorOthers.{servers_sit_by, all_sit}
use Rattle.mako_sitting_collector.proofs.CollectorSpares.{spares_below, once_below, none_told}

-- ---- no server evacuates once all have ended the cycle

not_clearing : (o : Owner) (slot : ℕ) (stage : EvacStage) → IsAct (evacuations.stage_next o slot stage)
    → (cycle ended : ℕ) → EvacuatesIn cycle ended (stage_phase o.cycle stage) → ended ≡ cycle → ⊥
not_clearing o slot (evac.Evacuating t stage) acts cycle ended fits is = let e = fits.1 in omega arith
not_clearing o slot (evac.Freeing x stage) acts cycle ended fits is = let e = fits.1 in omega arith
not_clearing o slot evac.AwaitingEnd acts cycle ended fits is = let e = fits.1 in omega arith
not_clearing o slot evac.TellingEnd acts cycle ended fits is = let e = fits.1 in omega arith
not_clearing o slot evac.Ended acts cycle ended fits is = absurd acts

-- ---- the word stored

-- the place is that of the phase
abbrev IsPhase : Place → Type 0
IsPhase phase = Unit {0}
IsPhase p = ⊥

stores_phase : (k : Holdings) → Leaves k.shape IsPhase (notice_next k StoringIdle)
stores_phase k = at_place k.shape IsPhase phase _ tt tt

module _ (n : Numbers) (w : Facts) (s : JointScene) (seats : List Seat) (i : ℕ) (k : Holdings)
    (all : AllSit n w s seats) (here : slice_get seats i ≡ Some (Collector (noticing k StoringIdle)))
    (read : ReadAreHeard s) (next : GivenAreNext n w s k) where
  sits : CollectorSits n w s all.taker all.places i (noticing k StoringIdle)
  sits = all.each i (Collector (noticing k StoringIdle)) here

  stands : HearingStands n s k StoringIdle
  stands = record {
    known = sits.known;
    stage_known = tt;
    shape = sits.here.shape;
    phase = stands_are n w s all.taker all.places i k StoringIdle sits;
    gathers = sits.gathers;
    knows = tt;
  }

  evac_is : phase_of n s.words ≡ Evac (running k)
  evac_is =
      part_phase n s.words s.facets.phases all.joint.order (collector_seat n) (evacuating (running k) n.servers)
      k.pending stands.phase

  -- what stands at a server
  facet_stands : (seat server : ℕ) (stage : order.ServerStage) (ended : ℕ) (laden : Bool)
      → slice_get s.facets.phases seat ≡ Some (serving server stage ended laden)
      → ServerStands n s.words (evacuating (running k) n.servers) server stage ended laden
  facet_stands seat server stage ended laden is =
      the_seats n s.words s.facets.phases all.joint.order (collector_seat n) (evacuating (running k) n.servers)
      k.pending stands.phase seat (serving server stage ended laden) is

  server_stands : (seat : ℕ) (v : Serving) → ServerSits n w s (all.taker v.tracer.server) seat v
      → ServerStands n s.words (evacuating (running k) n.servers) v.tracer.server (stage_order v.tracer v.stage)
      v.ended (tracer_laden v.tracer)
  server_stands seat v x =
      facet_stands seat v.tracer.server (stage_order v.tracer v.stage) v.ended (tracer_laden v.tracer) x.here.phase

  rests : (seat : ℕ) (v : Serving) → ServerSits n w s (all.taker v.tracer.server) seat v
      → RestSits n s (all.taker v.tracer.server) v
  rests seat v x = by v.stage x.stage x.keeps.known.stage (server_stands seat v x)
    where
      by : (stage : ServerStage) → StageSits n w s (all.taker v.tracer.server) v stage → StageIsKnown v.tracer stage
          → ServerStands n s.words (evacuating (running k) n.servers) v.tracer.server (stage_order v.tracer stage)
          v.ended (tracer_laden v.tracer)
          → RestSits n s (all.taker v.tracer.server) v
      by Turning r known st = r
      by Tracing r known st = r
      by (Evacuating e) r known st =
          absurd (not_clearing e.owner (evacuations.slot_of e) e.stage known.1.acts (running k) v.ended st.fits.0
          (st.fits.1 st.known))
      by Ended r known st = r

  -- each has gone over all its entries
  over : EndedHaveGoneOver n s
  over seat server told cycle stage laden other pending is at =
      let st = facet_stands seat server stage cycle laden is in
      let h = has_server n w s seats all (Collector (noticing k StoringIdle)) server st.known in
      let x : ServerSits n w s (all.taker h.v.tracer.server) (n.mutators + server) h.v =
      all.each (n.mutators + server) (Server h.v) h.there in
      let r = rests (n.mutators + server) h.v x in
      let v_st = server_stands (n.mutators + server) h.v x in
      let gone = subst (λ p. GoneOver n p h.v.ended r.through) evac_is r.gone_over in
      ap (slice_get s.facets.names.through) (sym h.number) ∙ r.through_is
      ∙ ap (λ (q : ℕ). Some q) (gone.0 (v_st.fits.1 v_st.known))

  -- ---- what is spare

  abbrev given : List Gift
  given = sits.choice.0

  abbrev before : List ℕ
  before = sits.choice.1

  abbrev spare_next : ℕ → Bool
  spare_next r = is_spare (running k + 1) (role_of k r)

  abbrev spare : List ℕ
  spare = spares_below spare_next (regions_of n)

  goes : FinishGoesOn n w s k spare s.facets.names.collector
  goes =
      finish_keeps n w s k given before spare s.facets.names.collector all.joint stands over sits.choice.2.begun
      (λ r low. let a = once_below spare_next (regions_of n) r low in
      let b = next r low in
      let c = sits.choice.2.spares r low in
      omega arith)

  abbrev us : List ℕ
  us = words_next k StoringIdle s.words

  abbrev then : JointScene
  then = with_finish n s us k spare s.facets.names.collector

  words_left : LeavesOthers n IsPhase s.words us
  words_left =
      subst (λ (q : Numbers). LeavesOthers q IsPhase s.words us) stands.shape ((stores_phase k).rest s.words)

  idle_at : slice_get then.facets.phases (collector_seat n) ≡ Some (collecting (order.idle (running k)) k.pending)
  idle_at =
      get_set_same s.facets.phases (collector_seat n) (collecting (order.idle (running k)) k.pending)
      (collecting (evacuating (running k) n.servers) k.pending) stands.phase

  idle_is : phase_of n us ≡ IdleWord (running k)
  idle_is =
      part_phase n us then.facets.phases goes.joint.order (collector_seat n) (order.idle (running k)) k.pending idle_at

  leaves : CollectorLeaves n w s all.joint then
  leaves = record {
    goes = λ m. Silent;
    trace = λ x beside. refl;
    gates = λ x beside. refl;
    works = λ x beside. refl;
    phases = λ x beside. get_set_other s.facets.phases (collector_seat n) x
        (collecting (order.idle (running k)) k.pending) beside;
    held = refl;
    trying = refl;
    left = refl;
    servers = refl;
    words = subst (λ (q : Numbers). LeavesOthers q CollectorWrites s.words us) stands.shape
        (collectors_write (noticing k StoringIdle) s.words sits.known sits.keeps.stage);
    barriers = λ m slot low small. inl (words_left (barrier m slot) (low, small) (λ x. x));
    cycle = inl (ap cycle_of idle_is ∙ sym (ap cycle_of evac_is));
  }

  -- ---- each server

  nothing_told : (seat : ℕ) (v : Serving) (x : ServerSits n w s (all.taker v.tracer.server) seat v)
      → (rests seat v x).done ≡ false
  nothing_told seat v x =
      let r = rests seat v x in
      none_told n s.words v.tracer.server (all.taker v.tracer.server) v.notice_at r.sending.names r.done r.sending.ring
      (λ slot small one. let may : n.servers ≤ v.tracer.server =
      (the_words n s.words s.facets.phases all.joint.order (collector_seat n) (evacuating (running k) n.servers)
      k.pending stands.phase).tellers v.tracer.server slot (x.in_range, small) one in
      let low = x.in_range in
      absurd (omega arith))

  nothing_sent : (seat : ℕ) (v : Serving) (x : ServerSits n w s (all.taker v.tracer.server) seat v)
      → (rests seat v x).sent ≡ []
  nothing_sent seat v x =
      read v.tracer.server (rests seat v x).sent
      (subst (λ (g : ℕ). v.tracer.server < g) (sym (ap (λ g. g.server) stands.gathers)) x.in_range)
      (rests seat v x).sent_is

  later_rest : (seat : ℕ) (v : Serving) → ServerSits n w s (all.taker v.tracer.server) seat v
      → RestSits n then (all.taker v.tracer.server) v
  later_rest seat v x =
      let r = rests seat v x in
      let none = nothing_told seat v x in record {
        through = r.through;
        through_is = r.through_is;
        gone_over = subst (λ p. GoneOver n p v.ended r.through) (sym idle_is) tt;
        sent = r.sent;
        done = r.done;
        sent_is = r.sent_is;
        sending = sending_stays n s.words us v.tracer.server (all.taker v.tracer.server) v.notice_at r.sent [] r.done
            (λ slot small. words_left (notice v.tracer.server slot) (x.in_range, small) (λ y. y)) r.sending;
        ended = λ told. absurd (not_both (sym none ∙ told));
        heard = subst (λ p. HeardIn p r.sent r.done) (sym idle_is) (nothing_sent seat v x, none);
      }
    where
      not_both : false ≡ true → ⊥
      not_both e = cc

  later_stage : (seat : ℕ) (v : Serving) → ServerSits n w s (all.taker v.tracer.server) seat v
      → StageSits n w then (all.taker v.tracer.server) v v.stage
  later_stage seat v x = by v.stage x.keeps.known.stage (server_stands seat v x)
    where
      by : (stage : ServerStage) → StageIsKnown v.tracer stage
          → ServerStands n s.words (evacuating (running k) n.servers) v.tracer.server (stage_order v.tracer stage)
          v.ended (tracer_laden v.tracer)
          → StageSits n w then (all.taker v.tracer.server) v stage
      by Turning known st = later_rest seat v x
      by Tracing known st = later_rest seat v x
      by (Evacuating e) known st =
          absurd (not_clearing e.owner (evacuations.slot_of e) e.stage known.1.acts (running k) v.ended st.fits.0
          (st.fits.1 st.known))
      by Ended known st = later_rest seat v x

  later_server : (seat : ℕ) (v : Serving) → slice_get seats seat ≡ Some (Server v)
      → ServerSits n w then (all.taker v.tracer.server) seat v
  later_server seat v at =
      let x : ServerSits n w s (all.taker v.tracer.server) seat v = all.each seat (Server v) at in
      let number = x.number in
      let inside = x.in_range in
      servers_sit_by n w s all.joint then leaves (all.taker v.tracer.server) (all.taker v.tracer.server) seat v
      (λ e. absurd (omega arith)) (later_stage seat v x) x.measured x

  -- ---- the collector

  known_then : IsKeptKnown (finish k)
  known_then =
      let c = sits.known in
      let runs = sits.keeps.stage.0 in record {
        shape = c.shape;
        cycle = let l = runs in omega arith;
        pending = c.pending;
        windows_count = c.windows_count;
        windows = c.windows;
        barriers_count = c.barriers_count;
        barriers = c.barriers;
        notices_count = c.notices_count;
        notices = c.notices;
        poll_shape = c.poll_shape;
        poll = c.poll;
        chosen = c.chosen;
        roles = c.roles;
        lists = length_push k.cycles.lists k.freed ∙ ap (λ (q : ℕ). q + 1) c.lists;
        lists_room = c.lists_room;
        names = let a = sum_by-append (length {A = Name}) k.cycles.lists (k.freed ∷ []) in
            let b = c.names in
            omega arith;
      }

  kept : CollectorKeeps n us all.places (noticing k StoringIdle)
  kept =
      others_leave_it n s.words us all.places (noticing k StoringIdle) sits.known sits.here.shape
      (λ m slot low small. words_left (barrier m slot) (low, small) (λ x. x)) sits.keeps

  own : CollectorSits n w then all.taker all.places i (at (finish k) (Idle LoadingDemand))
  own = record {
    number = sits.number;
    here = record {
      shape = sits.here.shape;
      trace = sits.here.trace;
      gate = sits.here.gate;
      work = sits.here.work;
      phase = idle_at;
      rings = sits.here.rings;
    };
    known = known_then;
    keeps = record {
      stage = tt;
      keeps = sits.keeps.keeps;
      empty = λ shut m slot below. absurd (omega arith);
      rings = kept.rings;
    };
    takes = sits.takes;
    found = tt;
    choice = (spare, refl, λ r low. once_below spare_next (regions_of n) r low);
    gathers = refl;
    lists = ap (λ ls. ls ++ k.freed ∷ []) sits.lists;
    room = sits.room;
  }

  -- ---- words

  slots : SlotsBelong n us
  slots = record {
    works = λ r q inside.
        subst (λ x. (x ≡ 0) ⊎ IsNameFor n r x) (sym (words_left (work r q) inside (λ x. x)))
        (all.slots.works r q inside);
    ghosts = λ a r q inside.
        subst (λ x. (x ≡ 0) ⊎ IsNameFor n r x) (sym (words_left (ghost a r q) inside (λ x. x)))
        (all.slots.ghosts a r q inside);
  }

  lives : LivesFit (phase_of n us) n w us s.front.history (map live_facet seats)
  lives =
      subst (λ p. LivesFit p n w us s.front.history (map live_facet seats)) (sym idle_is)
      (past_stays n s.words us (map live_facet seats) (running k)
      (subst (λ p. LivesFit p n w s.words s.front.history (map live_facet seats)) evac_is all.lives)
      (λ t inside. words_left (live t) inside (λ x. x)))

  pub finishes_on : FinishesOn n w s seats i k
  finishes_on = record {
    can = goes.can;
    spare = spare;
    all = all_sit n w s seats i (noticing k StoringIdle) (at (finish k) (Idle LoadingDemand)) then all here leaves
        goes.joint all.taker later_server own slots all.few lives;
  }

pub finish_keeps_all : FinishKeepsAll
finish_keeps_all n w s seats i k all here read next = finishes_on n w s seats i k all here read next
