-- What a step of a core finds and leaves, over plain values.
use Rattle.std.proofs.Common.{◌≡◌, ℕ, ◌≤◌, Bool, true, false, List, length, set, slice_get, Some, sym, ap, subst, refl}
use Rattle.std.proofs.Common.{◌∙◌, arith}
use Rattle.mako_words.specs.declared.name.Name.{Name}
use Rattle.mako_shape.specs.declared.numbers.Numbers.{Numbers}
use Rattle.mako_step.specs.Acts.{finds, words_stepped, words_after}
use Rattle.mako_step.specs.Machines.{CanStep, machine_stepped}
use Rattle.mako_step.specs.Stepping.{stepped}
use Rattle.mako_step.specs.declared.step.Step.{Step}
use Rattle.mako_step.specs.declared.step.Step.TheVariants.{Do, Ended as NoStep}
use Rattle.mako_step.specs.declared.stepping.Stepped.{Stepped}
use Rattle.mako_step.specs.declared.stepping.Stepped.TheVariants.{Ended as StepEnded, Waiting as StepWaiting}
use Rattle.mako_step.specs.declared.stepping.Stepped.TheVariants.{Moved as StepMoved}
use Rattle.mako_model.specs.Fronts.{Seen}
use Rattle.mako_model.specs.declared.event.Event.{Event}
use Rattle.mako_model.specs.declared.event.Event.TheVariants.{Nothing, Answered, Snapped, Finished}
use Rattle.mako_model.specs.declared.point.Point.{Point}
use Rattle.mako_pause.specs.Collecting.{Holdings, stage_event}
use Rattle.mako_pause.specs.Ranks.{stage_waits}
use Rattle.mako_pause.specs.declared.stage.CollectStage.{CollectStage}
use Rattle.mako_pause.specs.declared.stage.CollectStage.TheVariants.{Idle, Pausing, Forwarding, Barriers, Emptying}
use Rattle.mako_pause.specs.declared.stage.CollectStage.TheVariants.{Polling, Choosing, Noticing}
use Rattle.mako_pause.specs.declared.stage.CollectStage.TheVariants.{Ended as CollectorEnded}
use Rattle.mako_pause.specs.declared.stage.NoticeStage.TheVariants.{Looking, Clearing, StoringIdle}
use Rattle.mako_pause.specs.declared.stage.PauseStage.TheVariants.{Shutting, Draining, LoadingRoot, StoringTrace}
use Rattle.mako_pause.specs.declared.stage.PauseStage.TheVariants.{Opening}
use Rattle.mako_script.specs.Scripts.{ScriptView}
use Rattle.mako_script.specs.ScriptFacts.{facts_of}
use Rattle.mako_seat.specs.Seats.{next_of, Fits, fed, event_of, is_waiting}
use Rattle.mako_seat.specs.declared.seat.Seat.{Seat}
use Rattle.mako_seat.specs.declared.seat.Seat.TheVariants.{Mutator, Server, Collector}
use Rattle.mako_state.specs.CoreStates.{CoreState, got_by, front_after, made, stepped_by, step_of}
use Rattle.mako_state.proofs.Seating.{set_again}
use Rattle.mako_whole.specs.AllStanding.{SeatsStand}
use Rattle.mako_whole.proofs.AllStandingGoing.{steps_stand, steps_can_go}
use Rattle.mako_mutator.specs.Telling.{history_after, told_by, untold}
use Rattle.mako_core.specs.Turns.{stepped_on, turn_by, turn_at, told_at}
use Rattle.mako_core.specs.Cores.{core_view, cycles_in, CoreHolds}
use Rattle.mako_core.proofs.Finishing.{answers, finished_kept}
use Rattle.mako_core.proofs.Rooms.{history_fits}

-- ---- what events tell

-- the history of the front after an event
history_is : (front : Seen) (got : List Name) (e : Event)
    → history_after front.history e ≡ (front_after front got e).history
history_is front got Nothing = refl
history_is front got (Answered point) = refl
history_is front got (Snapped cycle) = refl
history_is front got (Finished cycle) = refl

-- a look that waits tells nothing
quiet_at : (k : Holdings) (stage : CollectStage) (w : ℕ) → stage_waits k stage w ≡ true → stage_event k stage ≡ Nothing
quiet_at k (Idle stage) w waits = refl
quiet_at k (Pausing (Shutting pause m)) w waits = refl
quiet_at k (Pausing (Draining pause m)) w waits = refl
quiet_at k (Pausing (LoadingRoot m q)) w waits = refl
quiet_at k (Pausing StoringTrace) w waits = absurd cc
quiet_at k (Pausing (Opening m)) w waits = refl
quiet_at k (Forwarding stage) w waits = refl
quiet_at k (Barriers stage) w waits = refl
quiet_at k (Emptying r) w waits = refl
quiet_at k Polling w waits = refl
quiet_at k (Choosing stage) w waits = refl
quiet_at k (Noticing (Looking r)) w waits = refl
quiet_at k (Noticing (Clearing r told)) w waits = refl
quiet_at k (Noticing StoringIdle) w waits = absurd cc
quiet_at k CollectorEnded w waits = refl

quiet : (v : Seat) (w : ℕ) → is_waiting v w ≡ true → event_of v w ≡ Nothing
quiet (Mutator d) w waits = absurd cc
quiet (Server v) w waits = refl
quiet (Collector c) w waits = quiet_at c.kept c.stage w waits

-- what a step tells does not change how it is told
pub turn_untold : (came : Stepped Event) → turn_by (untold came) ≡ turn_by came
turn_untold StepEnded = refl
turn_untold (StepWaiting word) = refl
turn_untold (StepMoved event) = refl

-- ---- a step of one seat

-- the history after a step that came to this
abbrev pub points_by : Stepped Event → List Point → List Point
points_by came points = history_after points (told_by came)

module _ (s : ScriptView) (st : CoreState) (stands : SeatsStand s.numbers (facts_of s) st) (i : ℕ) (v : Seat)
    (here : slice_get st.seats i ≡ Some v) where
  can_step : CanStep (next_of v) st.words (Fits v)
  can_step = steps_can_go s.numbers (facts_of s) st i v stands here

  abbrev word : Step → ℕ
  word t = finds t st.words

  abbrev machine : Step → Seat
  machine t = machine_stepped t v (fed v (word t))

  abbrev came_to : Step → Stepped Event
  came_to t = stepped t (is_waiting v (word t)) (word t) (event_of v (word t))

  -- the state that is put together of what the step left
  abbrev put_together : Step → CoreState
  put_together t = record {
    words = words_stepped t st.words;
    seats = set st.seats i (machine t);
    front = record {
      history = points_by (came_to t) st.front.history;
      finished = cycles_in (set st.seats i (machine t));
    };
  }

  -- the collector has the finished cycles of the state after it
  after : SeatsStand s.numbers (facts_of s) (made st i v (next_of v))
  after = subst (λ o. SeatsStand s.numbers (facts_of s) (stepped_by st i o)) here
      (steps_stand s.numbers (facts_of s) st i stands)

  abbrev HasFinished : CoreState → Type 0
  HasFinished next = next.front.finished ≡ cycles_in next.seats

  is_made : (t : Step) → HasFinished (made st i v t) → put_together t ≡ made st i v t
  is_made (Do a) finished =
      let w = finds (Do a) st.words in
      λ k. record {
        words = words_after a st.words;
        seats = set st.seats i (fed v w);
        front = record { history = acted (is_waiting v w) w (event_of v w) (quiet v w) k; finished = sym finished k };
      }
    where
      acted : (b : Bool) (w : ℕ) (e : Event) → (b ≡ true → e ≡ Nothing)
          → points_by (stepped (Do a) b w e) st.front.history ≡ (front_after st.front (got_by v) e).history
      acted true w e silent = ap (λ x. (front_after st.front (got_by v) x).history) (sym (silent refl))
      acted false w e silent = history_is st.front (got_by v) e
  is_made NoStep finished =
      let same = set_again st.seats i v here in
      λ k. record {
        words = st.words;
        seats = same k;
        front = record { history = st.front.history; finished = (ap cycles_in same ∙ sym finished) k };
      }

  steps_to : put_together (next_of v) ≡ step_of st i
  steps_to = is_made (next_of v) (finished_kept s.numbers (facts_of s) _ after) ∙ sym (ap (stepped_by st i) here)

-- ---- over what a core keeps

module _ {A : Type 0} (shape : Numbers) (s : ScriptView) (ws : List ℕ) (seats : List Seat) (points : List Point)
    (room : ℕ) (lists : List A) (lists_room : ℕ)
    (holds : CoreHolds shape (core_view s ws seats points) room lists lists_room) (i : ℕ) (v : Seat)
    (here : slice_get seats i ≡ Some v) where
  abbrev st : CoreState
  st = (core_view s ws seats points).state

  pub asked : CanStep (next_of v) ws (Fits v)
  asked = can_step s st holds.stands i v here

  module _ (us : List ℕ) (words_are : us ≡ words_stepped (next_of v) ws)
      (x : Seat) (seat_is : x ≡ machine_stepped (next_of v) v (fed v (finds (next_of v) ws)))
      (r : Stepped Event) (result_is : r ≡ stepped_on v (finds (next_of v) ws))
      (after : List Point) (points_are : after ≡ points_by r points) where
    put : (core_view s us (set seats i x) after).state ≡ put_together s st holds.stands i v here (next_of v)
    put = λ k. record {
      words = words_are k;
      seats = set seats i (seat_is k);
      front = record {
        history = (points_are ∙ ap (λ q. points_by q points) result_is) k;
        finished = cycles_in (set seats i (seat_is k));
      };
    }

    pub state_is : (core_view s us (set seats i x) after).state ≡ step_of st i
    state_is = put ∙ steps_to s st holds.stands i v here

    pub stands_after : SeatsStand s.numbers (facts_of s) (core_view s us (set seats i x) after).state
    stands_after = subst (SeatsStand s.numbers (facts_of s)) (sym state_is)
        (steps_stand s.numbers (facts_of s) st i holds.stands)

    pub holds_after : CoreHolds shape (core_view s us (set seats i x) after) room lists lists_room
    holds_after = record {
      shape_is = holds.shape_is;
      stands = stands_after;
      room_is = holds.room_is;
      lists_are = holds.lists_are;
      lists_fit = holds.lists_fit;
    }

    pub turn_is : turn_by r ≡ turn_at st (slice_get seats i)
    turn_is = ap turn_by result_is ∙ sym (ap (turn_at st) here)

    pub history_is_told : after ≡ history_after points (told_at st (slice_get seats i))
    history_is_told = points_are ∙ ap (λ q. points_by q points) result_is
        ∙ sym (ap (λ s. history_after points (told_at st s)) here)

    pub has_place : length after ≤ room
    has_place =
        let fits = history_fits s _ (answers s.numbers (facts_of s) _ stands_after) in
        let room_is = holds.room_is in omega (arith, fits, room_is)
