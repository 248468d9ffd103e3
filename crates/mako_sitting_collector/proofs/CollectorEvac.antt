-- The store of Evac keeps all seats.
use Rattle.std.proofs.Common.{◌≡◌, ◌≢◌, ℕ, ◌*◌, ◌<◌, ◌⊎◌, inl, List, [], map, slice_get, slice_set, Some, sym, ap}
use Rattle.std.proofs.Common.{subst, refl, ◌∙◌, arith}
use Rattle.mako_words.specs.declared.name.Name.{Name}
use Rattle.mako_words.specs.declared.phase_word.PhaseWord.TheVariants.{Trace, Evac}
use Rattle.mako_words.specs.Phases.{phase_word, cycle_of}
use Rattle.mako_shape.specs.declared.numbers.Numbers.{Numbers}
use Rattle.mako_shape.specs.Belongings.{server_of_entry}
use Rattle.mako_shape.specs.Places.{Place, phase, barrier, work, ghost, notice, entry, Within, word_at}
use Rattle.mako_shape.proofs.PlaceLaws.{word_other}
use Rattle.mako_model.specs.Legal.{Facts}
use Rattle.mako_model.proofs.Lists.{get_set_other}
use Rattle.mako_names.specs.Tables.{phase_of}
use Rattle.mako_names.proofs.Words.{entry_same}
use Rattle.mako_ring.specs.TraceFacets as trace
use Rattle.mako_layout.specs.Facets.{Gift, has_chosen}
use Rattle.mako_layout.specs.StepParts.{collector_seat}
use Rattle.mako_phases.specs.Lives.{ArePast, AreCounted}
use Rattle.mako_phases.specs.Snapshots.{before_snap}
use Rattle.mako_phases.proofs.LiveLaws.{past_stays}
use Rattle.mako_phases.proofs.Says.{part_phase}
use Rattle.mako_joint.specs.Joints.{JointScene, Joint}
use Rattle.mako_evac.specs.Evacuating.{Evacuation}
use Rattle.mako_pause.specs.Collecting.{Collecting, Holdings, at, running}
use Rattle.mako_pause.specs.declared.stage.ChoiceStage.TheVariants.{StoringEvac}
use Rattle.mako_pause.specs.declared.stage.CollectStage.TheVariants.{Choosing}
use Rattle.mako_server.specs.Serving.{Serving, StageIsKnown}
use Rattle.mako_server.specs.declared.stage.ServerStage.{ServerStage}
use Rattle.mako_server.specs.declared.stage.ServerStage.TheVariants.{Turning, Tracing, Evacuating, Ended}
use Rattle.mako_seat.specs.declared.seat.Seat.{Seat}
use Rattle.mako_seat.specs.declared.seat.Seat.TheVariants.{Server, Collector}
use Rattle.mako_mutating.specs.Beside.{Silent}
use Rattle.mako_tracing.specs.ServerFacets.{tracer_laden}
use Rattle.mako_tracing.specs.ServerKeeps.{SlotsBelong, IsNameFor}
use Rattle.mako_clearing.specs.ClearingFacets.{server_seat, stage_carries}
use Rattle.mako_clearing.specs.Clearing.{tells_end, ClearingStands}
use Rattle.mako_clearing.proofs.Apart.{due_same}
use Rattle.mako_clearing.proofs.Rings.{sending_stays}
use Rattle.mako_clearing.proofs.Staying.{clearing_stays}
use Rattle.mako_writes.specs.Writes.{CollectorWrites}
use Rattle.mako_writes.proofs.Servers.{own_entry}
use Rattle.mako_collecting.specs.Facets.{part_of, names_of, phase_facet, gate_facet}
use Rattle.mako_collecting.specs.Laws.{Stands}
use Rattle.mako_collecting.specs.Roles.{ChoiceOf}
use Rattle.mako_collecting.specs.Steps.{words_next, collector_next, chosen}
use Rattle.mako_collecting.proofs.EachKept.{seats_stay, steps_keep_their_own}
use Rattle.mako_collecting.proofs.EachStage.{choice_steps_keep}
use Rattle.mako_collecting.proofs.Findings.{choosing_ends_counts, lives_stay}
use Rattle.mako_collecting.proofs.Known.{steps_keep_known}
use Rattle.mako_collecting.proofs.RolesKept.{choices_are_kept}
use Rattle.mako_sitting.specs.Seats.{GoneOver, HeardIn, RestSits, StageSits, ServerSits, CollectorSits, LivesFit}
use Rattle.mako_sitting.specs.Seats.{live_facet, AllSit}
use Rattle.mako_sitting_collector.specs.CollectorChoices.{TracesAreOfSeats, EvacKeepsAll}
use Rattle.mako_sitting_collector.specs.CollectorLeaves.{CollectorLeaves}
use Rattle.mako_sitting_collector.proofs.CollectorOthers.{servers_sit_by, all_sit}
use Rattle.mako_sitting_collector.proofs.CollectorEvacTies.{traces_tied, owed_tied}

-- all words but the phase are as they were
others_at : (k : Holdings) (words : List ℕ) (p : Place) → Within k.shape p → p ≢ phase
    → word_at k.shape (words_next (at k (Choosing StoringEvac)) words) p ≡ word_at k.shape words p
others_at k words p within other = word_other k.shape words phase p (phase_word (Evac (running k))) tt within other

module _ (n : Numbers) (w : Facts) (s : JointScene) (seats : List Seat) (i : ℕ) (k : Holdings)
    (all : AllSit n w s seats) (here : slice_get seats i ≡ Some (Collector (at k (Choosing StoringEvac))))
    (count : TracesAreOfSeats n s) (given : List Gift) (spare : List ℕ)
    (choice : ChoiceOf n s.words s.facets.choice k (Choosing StoringEvac) given spare) where
  abbrev c : Collecting
  c = at k (Choosing StoringEvac)

  abbrev next : Collecting
  next = collector_next (at k (Choosing StoringEvac)) s.words

  abbrev us : List ℕ
  us = words_next (at k (Choosing StoringEvac)) s.words

  abbrev after : JointScene
  after = chosen n s k StoringEvac given spare

  sits : CollectorSits n w s all.taker all.places i c
  sits = all.each i (Collector c) here

  stands : Stands n w s all.places c
  stands = record { joint = all.joint; seat = sits.here; known = sits.known; keeps = sits.keeps }

  joint : Joint n w after
  joint =
      choice_steps_keep n w s all.places k StoringEvac stands given spare choice.begun
      (traces_tied n w s seats all count)

  others : (p : Place) → Within n p → p ≢ phase → word_at n us p ≡ word_at n s.words p
  others =
      subst (λ m. (p : Place) → Within m p → p ≢ phase → word_at m us p ≡ word_at m s.words p) sits.here.shape
      (others_at k s.words)

  own : CollectorSits n w after all.taker all.places i next
  own = record {
    number = sits.number;
    here = seats_stay n s c next us (has_chosen given spare) sits.here sits.here.shape;
    known = steps_keep_known n w s all.places k (Choosing StoringEvac) tt stands tt;
    keeps = steps_keep_their_own n w s all.places k (Choosing StoringEvac) tt stands tt;
    takes = sits.takes;
    found = tt;
    choice = (given, spare, choices_are_kept n w s all.places k StoringEvac stands sits.found tt given spare choice);
    gathers = sits.gathers;
    lists = sits.lists;
    room = sits.room;
  }

  -- ---- the phase

  was : phase_of n s.words ≡ Trace (running k)
  was = part_phase n s.words s.facets.phases all.joint.order (collector_seat n) (part_of n c)
      (names_of c) sits.here.phase

  is : phase_of n us ≡ Evac (running k)
  is =
      part_phase n us after.facets.phases joint.order (collector_seat n) (part_of n next) (names_of next) own.here.phase

  same_cycle : cycle_of (phase_of n us) ≡ cycle_of (phase_of n s.words)
  same_cycle = ap cycle_of is ∙ sym (ap cycle_of was)

  leaves : CollectorLeaves n w s all.joint after
  leaves = record {
    goes = λ m. Silent;
    trace = λ l beside.
        get_set_other s.facets.trace (collector_seat n) l (trace.collecting (names_of next)) beside;
    gates = λ l beside. get_set_other s.facets.gates (collector_seat n) l (gate_facet n next) beside;
    works = λ l beside. refl;
    phases = λ l beside. get_set_other s.facets.phases (collector_seat n) l (phase_facet n next) beside;
    held = refl;
    trying = refl;
    left = refl;
    servers = refl;
    words = λ p within not. others p within (λ e. not (subst CollectorWrites (sym e) tt));
    barriers = λ m slot low small. inl (others (barrier m slot) (low, small) (λ e. cc));
    cycle = inl same_cycle;
  }

  -- ---- servers

  notices : (r slot : ℕ) → r < n.servers → slot < n.ring
      → word_at n us (notice r slot) ≡ word_at n s.words (notice r slot)
  notices r slot low small = others (notice r slot) (low, small) (λ e. cc)

  rest_sits : (taker : ℕ) (v : Serving) → v.tracer.server < n.servers → RestSits n s taker v
      → RestSits n after taker v
  rest_sits taker v low r = record {
    through = r.through;
    through_is = r.through_is;
    gone_over = subst (λ p. GoneOver n p v.ended r.through) (sym is)
        (subst (λ p. GoneOver n p v.ended r.through) was r.gone_over);
    sent = r.sent;
    done = r.done;
    sent_is = r.sent_is;
    sending = sending_stays n s.words us v.tracer.server taker v.notice_at r.sent [] r.done
        (λ slot small. notices v.tracer.server slot low small) r.sending;
    ended = λ told. r.ended told ∙ sym same_cycle;
    heard = subst (λ p. HeardIn p r.sent r.done) (sym is) tt;
  }

  clearing_sits : (taker : ℕ) (v : Serving) (e : Evacuation) (sent : List Name)
      → server_seat n e.owner.server ≢ collector_seat n
      → ClearingStands n w s e v.ended (tracer_laden v.tracer) taker sent
      → ClearingStands n w after e v.ended (tracer_laden v.tracer) taker sent
  clearing_sits taker v e sent beside x =
      let seat : ℕ = server_seat n e.owner.server in
      let inside : (e.owner.server < n.servers) × (e.at < n.ring) =
      subst (λ m. (e.owner.server < m.servers) × (e.at < m.ring)) x.shape (x.known.owner.server, x.known.at) in
      clearing_stays n w s after e v.ended (tracer_laden v.tracer) taker taker sent sent all.joint joint x
      (record {
        phase = leaves.phases seat beside ∙ x.facets.phase;
        gate = leaves.gates seat beside ∙ x.facets.gate;
        work = x.facets.work;
        through = x.facets.through;
      })
      (record {
        sent_is = x.sending.sent_is;
        notices = sending_stays n s.words us e.owner.server taker e.at sent (stage_carries e.stage) (tells_end e.stage)
            (λ slot small. notices e.owner.server slot inside.0 small) x.sending.notices;
      })
      (record {
        empty = λ none. notices e.owner.server e.at inside.0 inside.1 ∙ none;
        due = λ y g mine due.
            let low = subst (λ m. (y < m.servers * m.tablets * m.entries) × (server_of_entry m y ≡ e.owner.server))
            x.shape (own_entry e.owner x.known.owner y mine) in
            due_same n s.words us e.owner.cycle y g
            (entry_same n s.words us y (others (entry y) low.0 (λ e. cc))) due;
        sizes = λ name fields are. (fields, are, refl);
      })

  stage_sits : (taker : ℕ) (v : Serving) → v.tracer.server < n.servers → (stage : ServerStage)
      → StageIsKnown v.tracer stage → StageSits n w s taker v stage → StageSits n w after taker v stage
  stage_sits taker v low Turning known r = rest_sits taker v low r
  stage_sits taker v low Tracing known r = rest_sits taker v low r
  stage_sits taker v low (Evacuating e) known x =
      let same = known.1.server in
      (x.0, clearing_sits taker v e x.0 (λ f. absurd (omega arith)) x.1)
  stage_sits taker v low Ended known r = rest_sits taker v low r

  server : (l : ℕ) (v : Serving) → slice_get seats l ≡ Some (Server v)
      → ServerSits n w after (all.taker v.tracer.server) l v
  server l v there =
      let were : ServerSits n w s (all.taker v.tracer.server) l v = all.each l (Server v) there in
      let number = were.number in
      let low = were.in_range in
      servers_sit_by n w s all.joint after leaves (all.taker v.tracer.server) (all.taker v.tracer.server) l v
      (λ e. absurd (omega arith))
      (stage_sits (all.taker v.tracer.server) v low v.stage were.keeps.known.stage were.stage) were.measured were

  -- ---- slots and live counts

  slots : SlotsBelong n us
  slots = record {
    works = λ r l within. subst (λ x. (x ≡ 0) ⊎ IsNameFor n r x) (sym (others (work r l) within (λ e. cc)))
        (all.slots.works r l within);
    ghosts = λ a r l within. subst (λ x. (x ≡ 0) ⊎ IsNameFor n r x) (sym (others (ghost a r l) within (λ e. cc)))
        (all.slots.ghosts a r l within);
  }

  counted : AreCounted n w s.words (map live_facet seats) (before_snap (running k) s.front.history) (running k)
  counted = subst (λ p. LivesFit p n w s.words s.front.history (map live_facet seats)) was all.lives

  past : ArePast n us (map live_facet seats) (running k)
  past =
      past_stays n s.words us (map live_facet seats) (running k)
      (choosing_ends_counts n w s all.places k StoringEvac stands tt (map live_facet seats)
      (before_snap (running k) s.front.history) (owed_tied n w s seats all) counted)
      (lives_stay n w s all.places k (Choosing StoringEvac) tt stands)

  pub evac_keeps : AllSit n w after (slice_set seats i (Collector next))
  evac_keeps =
      all_sit n w s seats i c next after all here leaves joint all.taker server own slots all.few
      (subst (λ p. LivesFit p n w us s.front.history (map live_facet seats)) (sym is) past)

pub evac_keeps_all : EvacKeepsAll
evac_keeps_all n w s seats i k all here count given spare choice =
    evac_keeps n w s seats i k all here count given spare choice
