-- What the collector's trail shows is kept by each step.
use Rattle.std.proofs.Common.{◌≡◌, ℕ, ◌+◌, ◌*◌, ◌%◌, ◌<◌, Bool, true, false, if◌then◌else◌, Option, Some, None, List}
use Rattle.std.proofs.Common.{[], ◌∷◌, ◌++◌, length, position, get_or, set, append_assoc, append-nil, refl, sym, subst}
use Rattle.std.proofs.Common.{ap, ◌∙◌, arith}
use Rattle.std.proofs.lemmas.List.{length_push}
use Rattle.std.proofs.lemmas.List.Concat.{flat_map-append}
use Rattle.mako_words.specs.Gates.{count_of}
use Rattle.mako_words.specs.Names.{name_word}
use Rattle.mako_words.specs.Notices.{notice_at}
use Rattle.mako_words.specs.Phases.{phase_word}
use Rattle.mako_words.specs.Values.{value_at}
use Rattle.mako_words.specs.declared.name.Name.{Name}
use Rattle.mako_words.specs.declared.notice_word.NoticeWord.{NoticeWord}
use Rattle.mako_words.specs.declared.notice_word.NoticeWord.TheVariants.{Freed, Done}
use Rattle.mako_words.specs.declared.phase_word.PhaseWord.TheVariants.{Idle as IdlePhase, Trace, Evac, Stop}
use Rattle.mako_shape.specs.Places.{index, phase, demand, finished, mutator_gate, root, barrier, work, notice, home}
use Rattle.mako_shape.specs.Places.{top, leaving, live}
use Rattle.mako_shape.specs.declared.numbers.Numbers.{Numbers}
use Rattle.mako_step.specs.Machines.{IsAct}
use Rattle.mako_step.specs.Trails.{Observation, Goes}
use Rattle.mako_step.specs.Trails.Goes.{stays as none, steps}
use Rattle.mako_step.specs.declared.act.Act.{Act}
use Rattle.mako_step.specs.declared.act.Op.TheVariants.{Load, Store}
use Rattle.mako_step.specs.declared.step.Step.{Step}
use Rattle.mako_step.proofs.Along.{did, do_did, is_act, along}
use Rattle.mako_step.proofs.Cases.{when_lt, when_eq}
use Rattle.mako_ring.specs.Contents.{after_place}
use Rattle.mako_ring.specs.Tracing.{owner, is_open}
use Rattle.mako_ring.specs.Windows.{tail_up, head_up}
use Rattle.mako_poll.specs.Polls as polls
use Rattle.mako_poll.specs.Polls.{FoundZero}
use Rattle.mako_poll.specs.declared.poller.PollStage.{PollStage}
use Rattle.mako_poll.specs.declared.poller.PollStage.TheVariants.{Asking, Reading, Ended as Polled}
use Rattle.mako_poll.specs.declared.poller.Polled.TheVariants.{Told as CompletionTold, NotYet}
use Rattle.mako_pause.specs.Collecting.{Holdings, at, running, window_of, set_window, head_slot, forward_from}
use Rattle.mako_pause.specs.Collecting.{empty_from, barriers_from, told, polled_at, paused, gifts_from, spare_for}
use Rattle.mako_pause.specs.Collecting.{gift_of, names_of, chosen_tablet, server_chosen, after_tablet, noticed}
use Rattle.mako_pause.specs.Collecting.{idle_next, pause_next, forward_next, barrier_next, choice_next, notice_next}
use Rattle.mako_pause.specs.Collecting.{stage_next, next_of, idle_fed, pause_fed, forward_fed, barrier_fed, empty_fed}
use Rattle.mako_pause.specs.Collecting.{poll_fed, choice_fed, notice_fed, stage_fed, fed, Fits, StageFits}
use Rattle.mako_pause.specs.Opening.{opening}
use Rattle.mako_cycles.specs.Phasing.{left_in, phase_left, phase_paused}
use Rattle.mako_cycles.specs.Gating.{IsDrained, IsOpen, EachBelow, shuts, opens, at_gate}
use Rattle.mako_cycles.specs.Telling.{ToldTwice}
use Rattle.mako_cycles.specs.Hearing.{Hears, joined, at_notice}
use Rattle.mako_cycles.specs.Hearing.Hears.{begins, waits, frees, ends}
use Rattle.mako_cycles.specs.Moments.{Rests, PauseBegan, Round, PollShown, Found, Moment, CollectorsGo}
use Rattle.mako_pause.specs.declared.stage.Pause.{Pause}
use Rattle.mako_pause.specs.declared.stage.Pause.TheVariants.{Snapshot, Choice}
use Rattle.mako_pause.specs.declared.stage.IdleStage.{IdleStage}
use Rattle.mako_pause.specs.declared.stage.IdleStage.TheVariants.{LoadingDemand, LookingFinished, StoringStop}
use Rattle.mako_pause.specs.declared.stage.PauseStage.{PauseStage}
use Rattle.mako_pause.specs.declared.stage.PauseStage.TheVariants.{Shutting, Draining, LoadingRoot, StoringTrace}
use Rattle.mako_pause.specs.declared.stage.PauseStage.TheVariants.{Opening}
use Rattle.mako_pause.specs.declared.stage.ForwardStage.{ForwardStage}
use Rattle.mako_pause.specs.declared.stage.ForwardStage.TheVariants.{Looking, Storing}
use Rattle.mako_pause.specs.declared.stage.BarrierStage.{BarrierStage}
use Rattle.mako_pause.specs.declared.stage.BarrierStage.TheVariants.{Loading, Clearing}
use Rattle.mako_pause.specs.declared.stage.ChoiceStage.{ChoiceStage}
use Rattle.mako_pause.specs.declared.stage.ChoiceStage.TheVariants.{LoadingLive, LoadingTop, LoadingHome}
use Rattle.mako_pause.specs.declared.stage.ChoiceStage.TheVariants.{StoringLeaving, StoringHome, StoringTop}
use Rattle.mako_pause.specs.declared.stage.ChoiceStage.TheVariants.{StoringEvac, Opening as Reopening}
use Rattle.mako_pause.specs.declared.stage.NoticeStage.{NoticeStage}
use Rattle.mako_pause.specs.declared.stage.NoticeStage.TheVariants.{Looking as NoticeLook, Clearing as NoticeClear}
use Rattle.mako_pause.specs.declared.stage.NoticeStage.TheVariants.{StoringIdle}
use Rattle.mako_pause.specs.declared.stage.CollectStage.{CollectStage}
use Rattle.mako_pause.specs.declared.stage.CollectStage.TheVariants.{Idle, Pausing, Forwarding, Barriers, Emptying}
use Rattle.mako_pause.specs.declared.stage.CollectStage.TheVariants.{Polling, Choosing, Noticing, Ended}
use Rattle.mako_cycles.proofs.Standing.{sees, left_other, left_stored, elsewhere, IsPlain, plain_load, plain_store}
use Rattle.mako_cycles.proofs.Standing.{plain_poll, shut_on, drained_on, open_on, shut_more, drained_more, open_more}
use Rattle.mako_cycles.proofs.Standing.{told_on}
use Rattle.mako_poll.proofs.Answering.{polls_answer}

-- the trail with what the step finds
abbrev longer : List Observation → Step → ℕ → List Observation
longer trail step w = trail ++ sees (did step) w ∷ []

-- the phase that an act leaves as it is
phase_on : (n : Numbers) (trail : List Observation) (act : Act) (w x : ℕ) → IsPlain n act → phase_left n trail ≡ x
    → phase_left n (trail ++ sees act w ∷ []) ≡ x
phase_on n trail act w x plain e =
    left_other (index n phase) trail (sees act w) (phase_word (IdlePhase 0)) plain.elsewhere ∙ e

phase_stored : (n : Numbers) (trail : List Observation) (w x : ℕ)
    → phase_left n (trail ++ sees (record { word = index n phase; op = Store x }) w ∷ []) ≡ x
phase_stored n trail w x = left_stored (index n phase) trail x w (phase_word (IdlePhase 0))

gate_elsewhere : (n : Numbers) (trail : List Observation) (m w x : ℕ) (act : Act) → act.word ≡ index n (mutator_gate m)
    → phase_left n trail ≡ x → phase_left n (trail ++ sees act w ∷ []) ≡ x
gate_elsewhere n trail m w x act word e =
    left_other (index n phase) trail (sees act w) (phase_word (IdlePhase 0))
    (λ same. elsewhere n (mutator_gate m) (omega arith) (sym word ∙ same)) ∙ e

-- ---- a round
record RoundStands (n shape : Numbers) (cycle : ℕ) (shut : Bool) (freed : List Name)
    (trail : List Observation) : Type 0 where
  same : shape ≡ n
  traces : phase_left shape trail ≡ phase_word (Trace (cycle + 1))
  none_freed : freed ≡ []
  round : Round shape (cycle + 1) shut trail

abbrev InRound : Numbers → Holdings → List Observation → Type 0
InRound n k trail = RoundStands n k.shape k.cycle k.gates_shut k.freed trail

round_kept : (n : Numbers) (cycle : ℕ) (shut : Bool) (trail : List Observation) (act : Act) (w : ℕ) → IsPlain n act
    → Round n cycle shut trail → Round n cycle shut (trail ++ sees act w ∷ [])
round_kept n cycle false trail act w plain h = open_on n n.mutators trail (sees act w) plain.shuts h
round_kept n cycle true trail act w plain h =
    (told_on (sees act w) h.0, drained_on n n.mutators trail (sees act w) plain.opens h.1)

round_on : (n : Numbers) (k : Holdings) (trail : List Observation) (act : Act) (w : ℕ) → IsPlain k.shape act
    → InRound n k trail → InRound n k (trail ++ sees act w ∷ [])
round_on n k trail act w plain h = record {
  same = h.same;
  traces = phase_on k.shape trail act w _ plain h.traces;
  none_freed = h.none_freed;
  round = round_kept k.shape (k.cycle + 1) k.gates_shut trail act w plain h.round;
}

forward_shown : (n : Numbers) (k : Holdings) (pending : List Name) (trail : List Observation) → InRound n k trail
    → Moment n (forward_from k pending) trail
forward_shown n k [] trail h = record { shape = h.same; phase = h.traces; shown = (h.none_freed, h.round) }
forward_shown n k (x ∷ pending) trail h = record { shape = h.same; phase = h.traces; shown = (h.none_freed, h.round) }

empty_shown : (n : Numbers) (k : Holdings) (o : Option ℕ) (trail : List Observation) → InRound n k trail
    → Moment n (empty_from k o) trail
empty_shown n k (Some s) trail h = record { shape = h.same; phase = h.traces; shown = (h.none_freed, h.round) }
empty_shown n k None trail h = record {
  shape = h.same;
  phase = h.traces;
  shown = (
    h.none_freed,
    record {
      shape = refl;
      here = h.round;
      front = trail;
      poll = [];
      before = h.round;
      traces = h.traces;
      goes = none _;
      made = sym (append-nil trail);
    },
  );
}

barriers_shown : (n : Numbers) (k : Holdings) (m : ℕ) (trail : List Observation) → InRound n k trail
    → Moment n (barriers_from k m) trail
barriers_shown n k m trail h =
    when_eq (λ c. Moment n c trail) _ _ m k.shape.mutators (λ e. empty_shown n k (position is_open k.windows) trail h)
    (λ e. record { shape = h.same; phase = h.traces; shown = (h.none_freed, h.round) })

-- what is known of a round, of the collector at one of its stages
in_round : (n : Numbers) (k : Holdings) (trail : List Observation) → k.shape ≡ n
    → phase_left k.shape trail ≡ phase_word (Trace (k.cycle + 1)) →
    (k.freed ≡ []) × Round k.shape (k.cycle + 1) k.gates_shut trail → InRound n k trail
in_round n k trail same traces shown = record { same = same; traces = traces; none_freed = shown.0; round = shown.1 }

forward_goes : (n : Numbers) (k : Holdings) (s : ForwardStage) (w : ℕ) (trail : List Observation) → InRound n k trail
    → Moment n (forward_fed k s w) (longer trail (forward_next k s) w)
forward_goes n k (Looking x) w trail h =
    let on = round_on n k trail _ w (plain_load k.shape (head_slot k x) (omega arith)) h in
    when_eq (λ c. Moment n c (longer trail (forward_next k (Looking x)) w)) _ _ w 0
    (λ e. record { shape = on.same; phase = on.traces; shown = (on.none_freed, on.round) })
    (λ e. record { shape = on.same; phase = on.traces; shown = (on.none_freed, on.round) })
forward_goes n k (Storing x) w trail h =
    forward_shown n (set_window k (owner k.shape x) (head_up (window_of k (owner k.shape x)))) k.pending _
    (round_on n k trail _ w (plain_store k.shape (head_slot k x) (name_word x) (omega arith)) h)

barrier_goes : (n : Numbers) (k : Holdings) (s : BarrierStage) (w : ℕ) (trail : List Observation) → InRound n k trail
    → Moment n (barrier_fed k s w) (longer trail (barrier_next k s) w)
barrier_goes n k (Loading m) w trail h =
    let on = round_on n k trail _ w (plain_load k.shape (barrier m (get_or k.barrier_at m 0)) (omega arith)) h in
    when_eq (λ c. Moment n c (longer trail (barrier_next k (Loading m)) w)) _ _ w 0
    (λ e. barriers_shown n k (m + 1) _ on)
    (λ e. record { shape = on.same; phase = on.traces; shown = (on.none_freed, on.round) })
barrier_goes n k (Clearing m x) w trail h =
    let on = round_on n k trail _ w (plain_store k.shape (barrier m (get_or k.barrier_at m 0)) 0 (omega arith)) h in
    record { shape = on.same; phase = on.traces; shown = (on.none_freed, on.round) }

empty_goes : (n : Numbers) (k : Holdings) (s w : ℕ) (trail : List Observation) → InRound n k trail
    → Moment n (empty_fed k s w) (longer trail (stage_next k (Emptying s)) w)
empty_goes n k s w trail h =
    let on = round_on n k trail _ w
    (plain_load k.shape (work s ((window_of k s).tail % k.shape.ring)) (omega arith)) h in
    when_eq (λ c. Moment n c (longer trail (stage_next k (Emptying s)) w)) _ _ w 0
    (λ e. (let up = set_window k s (tail_up k.shape.ring (window_of k s)) in
    empty_shown n up (position is_open up.windows) _ on))
    (λ e. record { shape = on.same; phase = on.traces; shown = (on.none_freed, on.round) })

-- completion is told at the end of a poll
told_shown : (n : Numbers) (k : Holdings) (shut : Bool) (trail front poll : List Observation) → k.gates_shut ≡ shut
    → k.shape ≡ n → phase_left k.shape trail ≡ phase_word (Trace (k.cycle + 1)) →
    k.freed ≡ [] → Round k.shape (k.cycle + 1) shut trail → Round k.shape (k.cycle + 1) shut front
    → phase_left k.shape front ≡ phase_word (Trace (k.cycle + 1)) →
    FoundZero k.shape k.shape.servers poll → trail ≡ front ++ poll →
    Moment n (if shut then at (record k { used = []; chosen = [] }) (Choosing (LoadingLive 0 0)) else at k
    (Pausing (Shutting Choice 0))) trail
told_shown n k false trail front poll e same stands none_freed round before traces zero made = record {
  shape = same;
  phase = stands;
  shown = (
    (e, none_freed),
    (
      record {
        front = front;
        poll = poll;
        since = [];
        before = tt;
        traces = traces;
        gates = before;
        polled = zero;
        made = made ∙ ap (λ (q : List Observation). front ++ q) (sym (append-nil poll));
      },
      λ j l. absurd (omega arith),
    ),
  );
}
told_shown n k true trail front poll e same stands none_freed round before traces zero made = record {
  shape = same;
  phase = stands;
  shown = (
    none_freed,
    (
      record {
        front = front;
        poll = poll;
        since = [];
        before = before.0;
        traces = traces;
        gates = before.1;
        polled = zero;
        made = made ∙ ap (λ (q : List Observation). front ++ q) (sym (append-nil poll));
      },
      round.1,
    ),
  );
}

poll_goes : (n : Numbers) (k : Holdings) (w : ℕ) (trail : List Observation) → 0 < k.shape.servers → k.shape ≡ n
    → phase_left k.shape trail ≡ phase_word (Trace (k.cycle + 1)) → IsAct (polls.next_of k.poll) →
    polls.Fits k.poll w → (k.freed ≡ []) × PollShown k trail
    → Moment n (poll_fed k w) (longer trail (polls.next_of k.poll) w)
poll_goes n k w trail some same stands acts fits shown = go (polls.fed k.poll w).stage refl
  where
    p : PollShown k trail
    p = shown.1

    plain : IsPlain k.shape (did (polls.next_of k.poll))
    plain = subst (λ (q : Numbers). IsPlain q (did (polls.next_of k.poll))) p.shape
        (plain_poll k.poll.shape k.poll.stage acts)

    on : InRound n k (trail ++ sees (did (polls.next_of k.poll)) w ∷ [])
    on = round_on n k trail (did (polls.next_of k.poll)) w plain (in_round n k trail same stands (shown.0, p.here))

    made : trail ++ sees
        (did (polls.next_of k.poll)) w ∷ [] ≡ p.front ++ (p.poll ++ sees (did (polls.next_of k.poll)) w ∷ [])
    made = ap (λ (q : List Observation). q ++ sees (did (polls.next_of k.poll)) w ∷ []) p.made
        ∙ append_assoc p.front p.poll (sees (did (polls.next_of k.poll)) w ∷ [])

    goes : Goes polls.next_of polls.Fits polls.fed (record { shape = k.shape; stage = Asking 0 })
        (p.poll ++ sees (did (polls.next_of k.poll)) w ∷ []) (polls.fed k.poll w)
    goes = steps _ k.poll p.poll (did (polls.next_of k.poll)) w p.goes (do_did (polls.next_of k.poll) acts) fits

    polling : Moment n (at (record k { poll = polls.fed k.poll w }) Polling)
        (trail ++ sees (did (polls.next_of k.poll)) w ∷ [])
    polling = record {
      shape = same;
      phase = on.traces;
      shown = (
        shown.0,
        record {
          shape = p.shape;
          here = on.round;
          front = p.front;
          poll = p.poll ++ sees (did (polls.next_of k.poll)) w ∷ [];
          before = p.before;
          traces = p.traces;
          goes = goes;
          made = made;
        },
      );
    }

    go : (s : PollStage) → (polls.fed k.poll w).stage ≡ s
        → Moment n (polled_at (record k { poll = polls.fed k.poll w }) s) (longer trail (polls.next_of k.poll) w)
    go (Asking s) e = polling
    go (Reading s) e = polling
    go (Polled (NotYet s v)) e = record { shape = same; phase = on.traces; shown = (shown.0, on.round) }
    go (Polled CompletionTold) e =
        told_shown n (record k { poll = polls.fed k.poll w }) k.gates_shut _ p.front
        (p.poll ++ sees (did (polls.next_of k.poll)) w ∷ []) refl same on.traces shown.0 on.round p.before p.traces
        ((polls_answer.told (record { shape = k.shape; stage = Asking 0 }) (polls.fed k.poll w)
        (p.poll ++ sees (did (polls.next_of k.poll)) w ∷ []) some refl goes).0 e) made

-- ---- idling and pauses
idle_goes : (n : Numbers) (k : Holdings) (s : IdleStage) (w : ℕ) (trail : List Observation)
    → Moment n (at k (Idle s)) trail → Moment n (idle_fed k s w) (longer trail (idle_next k s) w)
idle_goes n k LoadingDemand w trail h =
    let on = phase_on k.shape trail _ w _ (plain_load k.shape demand (omega arith)) h.phase in
    when_lt (λ c. Moment n c (longer trail (idle_next k LoadingDemand) w)) _ _ k.cycle w
    (λ l. record { shape = h.shape; phase = on; shown = (h.shown, (tt, λ j m. absurd (omega arith))) })
    (λ l. record { shape = h.shape; phase = on; shown = h.shown })
idle_goes n k LookingFinished w trail h =
    let on = phase_on k.shape trail _ w _ (plain_load k.shape finished (omega arith)) h.phase in
    when_eq (λ c. Moment n c (longer trail (idle_next k LookingFinished) w)) _ _ w k.shape.mutators
    (λ e. record { shape = h.shape; phase = on; shown = h.shown })
    (λ e. record { shape = h.shape; phase = on; shown = h.shown })
idle_goes n k StoringStop w trail h =
    record { shape = h.shape; phase = phase_stored k.shape trail w (phase_word (Stop k.cycle)); shown = tt }

began_on : (k : Holdings) (pause : Pause) (trail : List Observation) (o : Observation) → PauseBegan k pause trail
    → PauseBegan k pause (trail ++ o ∷ [])
began_on k Snapshot trail o h = tt
began_on k Choice trail o h = told_on o h

paused_shown : (n : Numbers) (k : Holdings) (pause : Pause) (trail : List Observation) → k.shape ≡ n
    → phase_left k.shape trail ≡ phase_word (phase_paused k pause) → Rests k → PauseBegan k pause trail →
    EachBelow IsDrained k.shape k.shape.mutators trail → Moment n (paused k pause) trail
paused_shown n k Snapshot trail same stands rests began drained =
    record { shape = same; phase = stands; shown = (rests, drained) }
paused_shown n k Choice trail same stands rests began drained =
    record { shape = same; phase = stands; shown = (rests.1, (began, drained)) }

pause_goes : (n : Numbers) (k : Holdings) (s : PauseStage) (w : ℕ) (trail : List Observation)
    → Moment n (at k (Pausing s)) trail → Moment n (pause_fed k s w) (longer trail (pause_next k s) w)
pause_goes n k (Shutting pause m) w trail h =
    let o = sees (shuts k.shape m) w in
    let on = gate_elsewhere k.shape trail m w _ (shuts k.shape m) refl h.phase in
    let began = began_on k pause trail o h.shown.1.0 in
    let shut = shut_more k.shape m w trail h.shown.1.1 in
    when_eq (λ c. Moment n c (trail ++ o ∷ [])) _ _ (m + 1) k.shape.mutators
    (λ e. record {
      shape = h.shape;
      phase = on;
      shown = (
        h.shown.0,
        (
          began,
          omega (arith, e),
          (λ j l. shut j (omega (arith, l, e))),
          (λ j l. absurd (omega arith)),
        ),
      );
    })
    (λ e. record { shape = h.shape; phase = on; shown = (h.shown.0, (began, shut)) })
pause_goes n k (Draining pause m) w trail h =
    let o = sees (at_gate k.shape m Load) w in
    let plain = plain_load k.shape (mutator_gate m) (omega arith) in
    let on = phase_on k.shape trail _ w _ plain h.phase in
    let began = began_on k pause trail o h.shown.1.0 in
    let below : m < k.shape.mutators = h.shown.1.1 in
    let shut = shut_on k.shape k.shape.mutators trail o plain.opens h.shown.1.2 in
    when_lt (λ c. Moment n c (trail ++ o ∷ [])) _ _ 0 (count_of w)
    (λ l. record {
      shape = h.shape;
      phase = on;
      shown = (h.shown.0, (began, below, shut, drained_on k.shape m trail o plain.opens h.shown.1.3));
    })
    (λ l. (let drained = drained_more k.shape m w trail (h.shown.1.2 m below) (omega (arith, l)) h.shown.1.3 in
    when_eq (λ c. Moment n c (trail ++ o ∷ [])) _ _ (m + 1) k.shape.mutators
    (λ e. paused_shown n k pause _ h.shape on h.shown.0 began (λ j q. drained j (omega (arith, q, e))))
    (λ e. record {
      shape = h.shape;
      phase = on;
      shown = (h.shown.0, (began, omega (arith, below, e), shut, drained));
    })))
pause_goes n k (LoadingRoot m q) w trail h =
    let plain = plain_load k.shape (root m q) (omega arith) in
    let on = phase_on k.shape trail _ w _ plain h.phase in
    let drained = drained_on k.shape k.shape.mutators trail
    (sees (did (pause_next k (LoadingRoot m q))) w) plain.opens h.shown.1 in
    let P : PauseStage → Type 0 =
    λ s. Moment n (at (record k { pending = k.pending ++ names_of (value_at w) }) (Pausing s))
    (longer trail (pause_next k (LoadingRoot m q)) w) in
    when_lt P _ _ (q + 1) k.shape.roots
    (λ l. record { shape = h.shape; phase = on; shown = (h.shown.0, drained) })
    (λ l. when_lt P _ _ (m + 1) k.shape.mutators
    (λ b. record { shape = h.shape; phase = on; shown = (h.shown.0, drained) })
    (λ b. record { shape = h.shape; phase = on; shown = (h.shown.0, drained) }))
pause_goes n k StoringTrace w trail h =
    record {
      shape = h.shape;
      phase = phase_stored k.shape trail w (phase_word (Trace (running k)));
      shown = (h.shown.0, λ j l. absurd (omega arith));
    }
pause_goes n k (Opening m) w trail h =
    let o = sees (opens k.shape m) w in
    let on = gate_elsewhere k.shape trail m w _ (opens k.shape m) refl h.phase in
    let opened = open_more k.shape m w trail h.shown.1 in
    when_eq (λ c. Moment n c (trail ++ o ∷ [])) _ _ (m + 1) k.shape.mutators
    (λ e. (let all : EachBelow IsOpen k.shape k.shape.mutators (trail ++ o ∷ []) =
    λ j l. opened j (omega (arith, l, e)) in
    forward_shown n k k.pending _ (record {
      same = h.shape;
      traces = on;
      none_freed = h.shown.0.1;
      round = subst (λ (b : Bool). Round k.shape (k.cycle + 1) b (trail ++ o ∷ [])) (sym h.shown.0.0) all;
    })))
    (λ e. record { shape = h.shape; phase = on; shown = (h.shown.0, opened) })

-- ---- the choice
record ChoiceStands (n shape : Numbers) (cycle : ℕ) (freed : List Name) (trail : List Observation) : Type 0 where
  same : shape ≡ n
  traces : phase_left shape trail ≡ phase_word (Trace (cycle + 1))
  none_freed : freed ≡ []
  told : ToldTwice shape (cycle + 1) trail
  drained : EachBelow IsDrained shape shape.mutators trail

abbrev InChoice : Numbers → Holdings → List Observation → Type 0
InChoice n k trail = ChoiceStands n k.shape k.cycle k.freed trail

choice_on : (n : Numbers) (k : Holdings) (trail : List Observation) (act : Act) (w : ℕ) → IsPlain k.shape act
    → InChoice n k trail → InChoice n k (trail ++ sees act w ∷ [])
choice_on n k trail act w plain h = record {
  same = h.same;
  traces = phase_on k.shape trail act w _ plain h.traces;
  none_freed = h.none_freed;
  told = told_on (sees act w) h.told;
  drained = drained_on k.shape k.shape.mutators trail (sees act w) plain.opens h.drained;
}

gifts_shown : (n : Numbers) (k : Holdings) (i : ℕ) (trail : List Observation) → InChoice n k trail
    → Moment n (gifts_from k i) trail
gifts_shown n k i trail h =
    when_lt (λ c. Moment n c trail) _ _ i (length k.chosen)
    (λ l. record { shape = h.same; phase = h.traces; shown = (h.none_freed, (h.told, h.drained)) })
    (λ l. record { shape = h.same; phase = h.traces; shown = (h.none_freed, (h.told, h.drained)) })

gift_shown : (n : Numbers) (k : Holdings) (i former : ℕ) (o : Option ℕ) (trail : List Observation) → InChoice n k trail
    → Moment n (gift_of k i former o) trail
gift_shown n k i former (Some region) trail h = record {
  shape = h.same;
  phase = h.traces;
  shown = (h.none_freed, (h.told, h.drained));
}
gift_shown n k i former None trail h = record {
  shape = h.same;
  phase = h.traces;
  shown = (h.none_freed, (h.told, h.drained));
}

tablet_shown : (n : Numbers) (k : Holdings) (s place : ℕ) (trail : List Observation) → InChoice n k trail
    → Moment n (after_tablet k s place) trail
tablet_shown n k s place trail h =
    when_eq (λ c. Moment n c trail) _ _ (place + 1) k.shape.tablets
    (λ e. when_eq (λ c. Moment n c trail) _ _ (s + 1) k.shape.servers (λ f. gifts_shown n (server_chosen k s) 0 trail h)
    (λ f. record { shape = h.same; phase = h.traces; shown = (h.none_freed, (h.told, h.drained)) }))
    (λ e. record { shape = h.same; phase = h.traces; shown = (h.none_freed, (h.told, h.drained)) })

in_choice : (n : Numbers) (k : Holdings) (trail : List Observation) → k.shape ≡ n
    → phase_left k.shape trail ≡ phase_word (Trace (k.cycle + 1)) →
    (k.freed ≡ []) × (ToldTwice k.shape (k.cycle + 1) trail × EachBelow IsDrained k.shape k.shape.mutators trail)
    → InChoice n k trail
in_choice n k trail same traces shown = record {
  same = same;
  traces = traces;
  none_freed = shown.0;
  told = shown.1.0;
  drained = shown.1.1;
}

choice_goes : (n : Numbers) (k : Holdings) (s : ChoiceStage) (w : ℕ) (trail : List Observation) → 0 < k.shape.servers
    → Moment n (at k (Choosing s)) trail →
    Moment n (choice_fed k s w) (longer trail (choice_next k s) w)
choice_goes n k (LoadingLive s place) w trail some h =
    let on = choice_on n k trail _ w (plain_load k.shape (live (s * k.shape.tablets + place)) (omega arith))
    (in_choice n k trail h.shape h.phase h.shown) in
    record { shape = on.same; phase = on.traces; shown = (on.none_freed, (on.told, on.drained)) }
choice_goes n k (LoadingTop s place words) w trail some h =
    tablet_shown n (record k { used = k.used ++ record { top = w; live = words } ∷ [] }) s place _
    (choice_on n k trail _ w (plain_load k.shape (top (s * k.shape.tablets + place)) (omega arith))
    (in_choice n k trail h.shape h.phase h.shown))
choice_goes n k (LoadingHome i) w trail some h =
    gift_shown n k i w (spare_for k (chosen_tablet k i)) _
    (choice_on n k trail _ w (plain_load k.shape (home (chosen_tablet k i)) (omega arith))
    (in_choice n k trail h.shape h.phase h.shown))
choice_goes n k (StoringLeaving i gift) w trail some h =
    let on = choice_on n k trail _ w (plain_store k.shape (leaving (chosen_tablet k i)) (gift.former + 1) (omega arith))
    (in_choice n k trail h.shape h.phase h.shown) in
    record { shape = on.same; phase = on.traces; shown = (on.none_freed, (on.told, on.drained)) }
choice_goes n k (StoringHome i gift) w trail some h =
    let on = choice_on n k trail _ w (plain_store k.shape (home (chosen_tablet k i)) gift.region (omega arith))
    (in_choice n k trail h.shape h.phase h.shown) in
    record { shape = on.same; phase = on.traces; shown = (on.none_freed, (on.told, on.drained)) }
choice_goes n k (StoringTop i) w trail some h =
    gifts_shown n k (i + 1) _
    (choice_on n k trail _ w (plain_store k.shape (top (chosen_tablet k i)) 0 (omega arith))
    (in_choice n k trail h.shape h.phase h.shown))
choice_goes n k StoringEvac w trail some h = record {
  shape = h.shape;
  phase = phase_stored k.shape trail w (phase_word (Evac (running k)));
  shown = (
    h.shown.0,
    (
      refl,
      told_on (sees (did (choice_next k StoringEvac)) w) h.shown.1.0,
      λ j l. absurd
          (omega arith),
    ),
  );
}
choice_goes n k (Reopening m) w trail some h =
    let o = sees (opens k.shape m) w in
    let on = gate_elsewhere k.shape trail m w _ (opens k.shape m) refl h.phase in
    let told = told_on o h.shown.1.1 in
    let opened = open_more k.shape m w trail h.shown.1.2 in
    when_eq (λ c. Moment n c (trail ++ o ∷ [])) _ _ (m + 1) k.shape.mutators
    (λ e. record {
      shape = h.shape;
      phase = on;
      shown = (
        h.shown.1.0,
        told,
        (λ j l. opened j (omega (arith, l, e))),
        (
          some,
          record {
            front = trail ++ o ∷ [];
            taken = [];
            lists = [];
            names = [];
            hears = begins;
            count = refl;
            freed = h.shown.0;
            made = sym (append-nil (trail ++ o ∷ []));
          },
        ),
      );
    })
    (λ e. record { shape = h.shape; phase = on; shown = (h.shown.0, (h.shown.1.0, told, opened)) })

-- ---- the notices
joined_more : (lists : List (List Name)) (names : List Name) → joined lists ++ names ≡ joined (lists ++ names ∷ [])
joined_more lists names = sym (flat_map-append (λ (names : List Name). names) lists (names ∷ [])
    ∙ ap (λ (q : List Name). joined lists ++ q) (append-nil names))

-- three parts of a trail and one observation
taken_more : (trail before front taken : List Observation) (o p : Observation) → trail ≡ before ++ o ∷ []
    → before ≡ front ++ taken → trail ++ p ∷ [] ≡ front ++ ((taken ++ o ∷ []) ++ p ∷ [])
taken_more trail before front taken o p e f =
    ap (λ (q : List Observation). q ++ p ∷ []) (e
    ∙ (ap (λ (q : List Observation). q ++ o ∷ []) f ∙ append_assoc front taken (o ∷ [])))
    ∙ append_assoc front (taken ++ o ∷ []) (p ∷ [])

-- what a notice tells is heard
noticed_shown : (n : Numbers) (k : Holdings) (s word w : ℕ) (tells : NoticeWord) (at_next : List ℕ)
    (trail : List Observation) → k.shape ≡ n →
    phase_left k.shape (trail ++ at_notice k.shape s (get_or k.notice_at s 0) (Store 0) w ∷ []) ≡ phase_word
    (Evac (running k)) → k.gates_shut ≡ false →
    ToldTwice k.shape (running k) (trail ++ at_notice k.shape s (get_or k.notice_at s 0) (Store 0) w ∷ []) →
    EachBelow IsOpen k.shape k.shape.mutators (trail ++ at_notice k.shape s (get_or k.notice_at s 0) (Store 0) w ∷ []) →
    s < k.shape.servers → notice_at word ≡ tells → Found k s word trail →
    Moment n (noticed (record k { notice_at = at_next }) s tells)
    (trail ++ at_notice k.shape s (get_or k.notice_at s 0) (Store 0) w ∷ [])
noticed_shown n k s word w (Freed x) at_next trail same stands shut twice opened below reads found =
    let slot = get_or k.notice_at s 0 in
    let heard = found.heard in
    let count = heard.count in
    let one = frees heard.lists heard.names heard.taken slot word w x heard.hears found.some reads in
    record {
      shape = same;
      phase = stands;
      shown = (
        shut,
        twice,
        opened,
        (
          below,
          record {
            front = heard.front;
            taken = (heard.taken ++ at_notice k.shape s slot Load word ∷ []) ++ at_notice k.shape s slot
                (Store 0) w ∷ [];
            lists = heard.lists;
            names = heard.names ++ x ∷ [];
            hears = subst
                (λ (q : ℕ). Hears k.shape heard.lists (heard.names ++ x ∷ [])
                ((heard.taken ++ at_notice k.shape q slot Load word ∷ []) ++ at_notice k.shape q slot
                (Store 0) w ∷ []))
                count one;
            count = count;
            freed = ap (λ (q : List Name). q ++ x ∷ []) heard.freed
                ∙ append_assoc (joined heard.lists) heard.names (x ∷ []);
            made = taken_more trail found.before heard.front heard.taken _ _ found.made heard.made;
          },
        ),
      );
    }
noticed_shown n k s word w Done at_next trail same stands shut twice opened below reads found =
    let slot = get_or k.notice_at s 0 in
    let heard = found.heard in
    let count = heard.count in
    let one = ends heard.lists heard.names heard.taken slot word w heard.hears found.some reads in
    let taken = (heard.taken ++ at_notice k.shape s slot Load word ∷ []) ++ at_notice k.shape s slot (Store 0) w ∷ [] in
    let hears : Hears k.shape (heard.lists ++ heard.names ∷ []) [] taken = subst
    (λ (q : ℕ). Hears k.shape (heard.lists ++ heard.names ∷ []) []
    ((heard.taken ++ at_notice k.shape q slot Load word ∷ []) ++ at_notice k.shape q slot (Store 0) w ∷ []))
    count one in
    let more : length (heard.lists ++ heard.names ∷ []) ≡ s + 1 =
    omega (arith, length_push heard.lists heard.names, count) in
    let made = taken_more trail found.before heard.front heard.taken _ _ found.made heard.made in
    let freed : k.freed ≡ joined (heard.lists ++ heard.names ∷ []) = heard.freed
    ∙ joined_more heard.lists heard.names in
    when_eq (λ c. Moment n c (trail ++ at_notice k.shape s slot (Store 0) w ∷ [])) _ _ (s + 1) k.shape.servers
    (λ e. record {
      shape = same;
      phase = stands;
      shown = (
        shut,
        twice,
        opened,
        record {
          front = heard.front;
          taken = taken;
          lists = heard.lists ++ heard.names ∷ [];
          hears = hears;
          count = more ∙ e;
          freed = freed;
          made = made;
        },
      );
    })
    (λ e. record {
      shape = same;
      phase = stands;
      shown = (
        shut,
        twice,
        opened,
        (
          omega (arith, below, e),
          record {
            front = heard.front;
            taken = taken;
            lists = heard.lists ++ heard.names ∷ [];
            names = [];
            hears = hears;
            count = more;
            freed = freed ∙ sym (append-nil (joined (heard.lists ++ heard.names ∷ [])));
            made = made;
          },
        ),
      );
    })

notice_goes : (n : Numbers) (k : Holdings) (s : NoticeStage) (w : ℕ) (trail : List Observation)
    → Moment n (at k (Noticing s)) trail → Moment n (notice_fed k s w) (longer trail (notice_next k s) w)
notice_goes n k (NoticeLook s) w trail h =
    let slot = get_or k.notice_at s 0 in
    let plain = plain_load k.shape (notice s slot) (omega arith) in
    let o = at_notice k.shape s slot Load w in
    let on = phase_on k.shape trail _ w _ plain h.phase in
    let told = told_on o h.shown.1 in
    let opened = open_on k.shape k.shape.mutators trail o plain.shuts h.shown.2 in
    let heard = h.shown.3.1 in
    when_eq (λ c. Moment n c (trail ++ o ∷ [])) _ _ w 0
    (λ e. record {
      shape = h.shape;
      phase = on;
      shown = (
        h.shown.0,
        told,
        opened,
        (
          h.shown.3.0,
          record {
            front = heard.front;
            taken = heard.taken ++ o ∷ [];
            lists = heard.lists;
            names = heard.names;
            hears = subst (λ (q : ℕ). Hears k.shape heard.lists heard.names
                (heard.taken ++ at_notice k.shape q slot Load w ∷ [])) heard.count
                (waits heard.lists heard.names heard.taken slot w heard.hears e);
            count = heard.count;
            freed = heard.freed;
            made = ap (λ (q : List Observation). q ++ o ∷ []) heard.made
                ∙ append_assoc heard.front heard.taken (o ∷ []);
          },
        ),
      );
    })
    (λ e. record {
      shape = h.shape;
      phase = on;
      shown = (
        h.shown.0,
        told,
        opened,
        (h.shown.3.0, (w, (refl, record { before = trail; heard = heard; some = e; made = refl }))),
      );
    })
notice_goes n k (NoticeClear s tells) w trail h =
    let slot = get_or k.notice_at s 0 in
    let plain = plain_store k.shape (notice s slot) 0 (omega arith) in
    let o = at_notice k.shape s slot (Store 0) w in
    noticed_shown n k s h.shown.3.1.0 w tells (set k.notice_at s (after_place k.shape.ring slot)) trail h.shape
    (phase_on k.shape trail _ w _ plain h.phase) h.shown.0 (told_on o h.shown.1)
    (open_on k.shape k.shape.mutators trail o plain.shuts h.shown.2) h.shown.3.0 h.shown.3.1.1.0 h.shown.3.1.1.1
notice_goes n k StoringIdle w trail h =
    record {
      shape = h.shape;
      phase = phase_stored k.shape trail w (phase_word (IdlePhase (running k)));
      shown = (h.shown.0, refl);
    }

-- ---- every step
stage_goes : (n : Numbers) (k : Holdings) (s : CollectStage) (w : ℕ) (trail : List Observation) → 0 < n.servers
    → IsAct (stage_next k s) → StageFits k s w → Moment n (at k s) trail →
    Moment n (stage_fed k s w) (longer trail (stage_next k s) w)
stage_goes n k (Idle s) w trail some acts fits h = idle_goes n k s w trail h
stage_goes n k (Pausing s) w trail some acts fits h = pause_goes n k s w trail h
stage_goes n k (Forwarding s) w trail some acts fits h =
    forward_goes n k s w trail (in_round n k trail h.shape h.phase h.shown)
stage_goes n k (Barriers s) w trail some acts fits h =
    barrier_goes n k s w trail (in_round n k trail h.shape h.phase h.shown)
stage_goes n k (Emptying s) w trail some acts fits h =
    empty_goes n k s w trail (in_round n k trail h.shape h.phase h.shown)
stage_goes n k Polling w trail some acts fits h =
    poll_goes n k w trail (subst (λ (q : Numbers). 0 < q.servers) (sym h.shape) some) h.shape h.phase acts fits h.shown
stage_goes n k (Choosing s) w trail some acts fits h =
    choice_goes n k s w trail (subst (λ (q : Numbers). 0 < q.servers) (sym h.shape) some) h
stage_goes n k (Noticing s) w trail some acts fits h = notice_goes n k s w trail h
stage_goes n k Ended w trail some acts fits h = absurd acts

pub collectors_go : CollectorsGo
unfolding left_in
collectors_go s trail l shape goes =
    let each = shape.in_range.each in
    let some : 0 < s.numbers.servers = omega (arith, each) in
    along next_of Fits fed (Moment s.numbers)
    (λ c before act w next fits h. subst
    (λ (a : Act). Moment s.numbers (fed c w) (before ++ record { act = a; found = w } ∷ [])) (ap did next)
    (stage_goes s.numbers c.kept c.stage w before some (is_act (next_of c) act next) fits h))
    (opening s) l trail (record { shape = refl; phase = refl; shown = (refl, refl) }) goes
