-- A search for room in a scene: what all groups read of it, by its stage, and its steps at gates and turns.
use Rattle.std.proofs.Common.{◌≡◌, ℕ, ◌+◌, ◌*◌, ◌<◌, Bool, if◌then◌else◌, List, set, Option, Some, None, sym, ap, subst}
use Rattle.std.proofs.Common.{refl, ◌∙◌, arith}
use Rattle.std.proofs.lemmas.Bool.{ne_eqb}
use prog.Atomic.{either}
use Rattle.mako_words.specs.Gates.{is_shut}
use Rattle.mako_words.specs.Phases.{cycle_of}
use Rattle.mako_shape.specs.Places.{Place, phase, tablet_gate, turn, index, Within, word_at}
use Rattle.mako_gate.specs.GateActions as gate
use Rattle.mako_gate.specs.Standings.{inside, turned_away, at_tablet, with_turn}
use Rattle.mako_step.specs.Acts.{after_op, words_after}
use Rattle.mako_step.specs.declared.act.Op.TheVariants.{Store, Add, Sub, Exchange}
use Rattle.mako_step.proofs.Cases.{by_lt, by_eq, by_bool}
use Rattle.mako_model.specs.declared.attempt.Attempt.TheVariants.{Full as NoRoom, Pause as Paused}
use Rattle.mako_model.specs.declared.attempt.Pause.{Pause as Reason}
use Rattle.mako_model.specs.declared.attempt.Pause.TheVariants.{Shut, Busy}
use Rattle.mako_model.specs.declared.call.Call.{Call}
use Rattle.mako_model.specs.declared.call.Call.TheVariants as call
use Rattle.mako_alloc.specs.Allocating.{Allocation, tablet_at, first, noted, outcome}
use Rattle.mako_alloc.specs.Standings as allocating
use Rattle.mako_alloc.specs.declared.job.Job.{Job}
use Rattle.mako_alloc.specs.declared.progress.NewStage.{NewStage}
use Rattle.mako_alloc.specs.declared.progress.NewStage.TheVariants.{Arriving as NewArriving}
use Rattle.mako_alloc.specs.declared.progress.NewStage.TheVariants.{TurnedAway as NewTurnedAway}
use Rattle.mako_alloc.specs.declared.progress.NewStage.TheVariants.{TakingTurn as NewTakingTurn, LoadingLeaving}
use Rattle.mako_alloc.specs.declared.progress.NewStage.TheVariants.{GivingTurn as PassingTurn, Leaving as NewLeaving}
use Rattle.mako_alloc.specs.declared.progress.NewStage.TheVariants.{Ended as NewEnded}
use Rattle.mako_alloc.specs.declared.progress.Progress.{Progress}
use Rattle.mako_alloc.proofs.Bounds.{tablet_below}
use Rattle.mako_call.specs.declared.call_stage.CallStage.{CallStage}
use Rattle.mako_call.specs.declared.call_stage.CallStage.TheVariants.{Allocating}
use Rattle.mako_call.specs.declared.allocating.AllocStage.TheVariants.{Searching}
use Rattle.mako_call.specs.Allocating.{search_fed, found_fed}
use Rattle.mako_call.specs.Leaving.{leaving}
use Rattle.mako_names.specs.Steps.{NamesHoldIn, Notes}
use Rattle.mako_names.specs.Tables.{phase_of}
use Rattle.mako_names.specs.Trying.{Trying}
use Rattle.mako_names.proofs.Words.{phase_same}
use Rattle.mako_layout.specs.Facets.{idle}
use Rattle.mako_joint.specs.Joints.{Joint}
use Rattle.mako_state.specs.Works.{new_stage_work}
use Rattle.mako_state.proofs.Gates.{a_tablet_gate, a_turn}
use Rattle.mako_state.proofs.Words.{load_back}
use Rattle.mako_mutating.specs.MutatorFacets.{last_at, searching_trying}
use Rattle.mako_mutating.specs.Mutators.{IsSeen, View, with_view}
use Rattle.mako_making.specs.Makings.{IsAt, IsNoted}
use Rattle.mako_making.proofs.Placed.{NextKeeps}
use Rattle.mako_making.proofs.Seated.{quiet_at}
use Rattle.mako_making.proofs.Seeking.{in_with, IsUnseen, unseen_gate, unseen_turn, knowing, as_before, learns_of}
use Rattle.mako_making.proofs.Seeking.{looks, makes, acts_at}
use Rattle.mako_making.proofs.Trials.{Trial, driver, Goal, left, left_same}

-- a note is made, if there was none
pub first_noted : (note : Option Reason) (r : Reason) → IsNoted NewTurnedAway (first note r)
first_noted None r = tt
first_noted (Some earlier) r = tt

module _ (x : Trial) (q f c : ℕ) where
  -- the attempt of a new
  abbrev pub y : Trial
  y = record x { call = call.New q f }

  abbrev pub job : Job
  job = record { shape = x.n; mutator = x.m; fields = f; cycle = c }

  abbrev pub search_at : ℕ → Option Reason → NewStage → Allocation
  search_at passed note r = record { job = job; progress = record { passed = passed; note = note; stage = r } }

  abbrev pub seeking : ℕ → Option Reason → NewStage → CallStage
  seeking passed note r = Allocating (Searching q (search_at passed note r))

  -- on with the search from this progress, or to what it found
  abbrev pub on : Progress → CallStage
  on p = search_fed q (record { job = job; progress = p }) p.stage

  -- the tablet that it is at
  abbrev pub present : ℕ → ℕ
  present passed = tablet_at job passed

  -- what it knows
  abbrev pub know : ℕ → Option Reason → NewStage → Trying
  know passed note r = searching_trying x.last (call.New q f) passed note r

  abbrev pub own : ℕ → Option Reason → NewStage → List Call → View
  own passed note r l =
      in_with (allocating.stage_standing (present passed) r) (new_stage_work job (present passed) r)
      (know passed note r) l

  abbrev pub AtStage : ℕ → Option Reason → NewStage → Type 0
  AtStage passed note r = IsAt x.n x.s x.m (driver y (seeking passed note r))

  -- the words of a place that no name is in
  pub phase_stays : (place : Place) (v : ℕ) → Within x.n place → IsUnseen place
      → phase_of x.n (set x.s.words (index x.n place) v) ≡ phase_of x.n x.s.words
  phase_stays place v within unseen =
      let q = quiet_at x.n x.s.words place v x.joint.names.hold.size within unseen.quiet in
      phase_same x.n x.s.words (set x.s.words (index x.n place) v) (q.leaves.same phase tt tt)

  module _ (passed : ℕ) (note : Option Reason) (r : NewStage) (at : AtStage passed note r) where
    pub low_tablet : present passed < x.n.servers * x.n.tablets
    low_tablet = tablet_below job passed at.known.progress.task.known.stage.1.numbers

    -- the search goes on
    pub on_to : (next : ℕ) (o : Option Reason) (r' : NewStage) (us : List ℕ)
        → phase_of x.n us ≡ phase_of x.n x.s.words → IsNoted r' o
        → Joint x.n x.w (with_view x.s x.m us x.s.front (own next o r' (left y)))
        → Goal y (seeking passed note r) (seeking next o r') us
    on_to next o r' us same told held = record {
      joint = subst (λ l. Joint x.n x.w (with_view x.s x.m us x.s.front (own next o r' l))) (left_same y) held;
      keeps = record { cycle = at.keeps.cycle ∙ ap cycle_of (sym same); noted = told };
    }

    -- or has come to an end without an object
    pub paused_to : (reason : Reason) (us : List ℕ)
        → Joint x.n x.w
        (with_view x.s x.m us x.s.front (in_with inside idle (last_at x.last (call.New q f) 0 0) (left y)))
        → Goal y (seeking passed note r) (leaving (Paused reason)) us
    paused_to reason us held = record {
      joint = subst (λ l. Joint x.n x.w
          (with_view x.s x.m us x.s.front (in_with inside idle (last_at x.last (call.New q f) 0 0) l)))
          (left_same y) held;
      keeps = tt;
    }

    pub full_to : (us : List ℕ)
        → Joint x.n x.w
        (with_view x.s x.m us x.s.front
        (in_with inside idle (last_at x.last (call.New q f) (x.n.servers * x.n.tablets) 0) (left y)))
        → Goal y (seeking passed note r) (leaving NoRoom) us
    full_to us held = record {
      joint = subst (λ l. Joint x.n x.w
          (with_view x.s x.m us x.s.front
          (in_with inside idle (last_at x.last (call.New q f) (x.n.servers * x.n.tablets) 0) l)))
          (left_same y) held;
      keeps = tt;
    }

  -- ---- at the gate of a tablet
  module _ (passed : ℕ) where
    abbrev t : ℕ
    t = present passed

    abbrev pub progress : Option Reason → NewStage → Progress
    progress note r = record { passed = passed; note = note; stage = r }

    abbrev to_next : Option Reason → Bool → Progress
    to_next note more =
        if more then record { passed = passed + 1; note = note; stage = NewArriving }
        else progress note (NewEnded (outcome note))

    -- what it went over counts no more once it has made a note
    shut_names : (note : Option Reason) (reason : Reason) (here : IsSeen x.s x.m (own passed note NewArriving (left y)))
        → NamesHoldIn x.n x.w (knowing x.n x.w x.s x.joint x.m x.low inside idle (know passed note NewArriving)
        (left y) here (know passed (first note reason) NewTurnedAway))
    shut_names None reason here =
        learns_of x.n x.w x.s x.joint x.m x.low inside idle (know passed None NewArriving) (left y) here q f
        passed 0 0 0 x.last refl (Notes f passed 0)
    shut_names (Some o) reason here =
        as_before x.n x.w x.s x.joint x.m x.low inside idle (know passed (Some o) NewArriving) (left y) here

    open_names : (note : Option Reason) (here : IsSeen x.s x.m (own passed note NewArriving (left y)))
        → NamesHoldIn x.n x.w (knowing x.n x.w x.s x.joint x.m x.low inside idle (know passed note NewArriving)
        (left y) here (know passed note NewTakingTurn))
    open_names None here =
        as_before x.n x.w x.s x.joint x.m x.low inside idle (know passed None NewArriving) (left y) here
    open_names (Some o) here =
        as_before x.n x.w x.s x.joint x.m x.low inside idle (know passed (Some o) NewArriving) (left y) here

    pub arriving_kept : (note : Option Reason) → AtStage passed note NewArriving
        → NextKeeps x.n x.w x.s x.m (driver y (seeking passed note NewArriving))
    arriving_kept note at =
        let v = word_at x.n x.s.words (tablet_gate t) in
        let us = words_after (record { word = index x.n (tablet_gate t); op = Add 1 }) x.s.words in
        let low = low_tablet passed note NewArriving at in
        let same = phase_stays (tablet_gate t)
        (after_op (Add 1) v) low (unseen_gate t) in
        let made = makes x.n x.w x.s x.joint x.m x.low inside idle (know passed note NewArriving) (left y) at.here
        (tablet_gate t) (Add 1) low in
        by_bool
        (λ b. Goal y (seeking passed note NewArriving)
        (on (if b then noted (progress note NewArriving) (Shut t v) NewTurnedAway else progress note NewTakingTurn)) us)
        (is_shut v)
        (λ e. on_to passed note NewArriving at passed (first note (Shut t v)) NewTurnedAway us same
        (first_noted note (Shut t v))
        (acts_at x.n x.w x.s x.joint x.m x.low inside idle (know passed note NewArriving) (left y) at.here
        (tablet_gate t) (Add 1) (turned_away t) (know passed (first note (Shut t v)) NewTurnedAway) low (unseen_gate t)
        (a_tablet_gate t) refl refl (shut_names note (Shut t v) at.here)
        (gate.is_turned_away x.m t x.low low e made)))
        (λ e. on_to passed note NewArriving at passed note NewTakingTurn us same tt
        (acts_at x.n x.w x.s x.joint x.m x.low inside idle (know passed note NewArriving) (left y) at.here
        (tablet_gate t) (Add 1) (at_tablet t) (know passed note NewTakingTurn) low (unseen_gate t) (a_tablet_gate t)
        refl refl (open_names note at.here) (gate.enters x.m t x.low low e made)))

    -- ---- out of the tablet's gate
    abbrev out : List ℕ
    out = words_after (record { word = index x.n (tablet_gate t); op = Sub 1 }) x.s.words

    out_same : t < x.n.servers * x.n.tablets → phase_of x.n out ≡ phase_of x.n x.s.words
    out_same low = phase_stays (tablet_gate t) (after_op (Sub 1) (word_at x.n x.s.words (tablet_gate t))) low
        (unseen_gate t)

    -- turned away, it has made a note
    pub turned_away_kept : (note : Option Reason) → AtStage passed note NewTurnedAway
        → NextKeeps x.n x.w x.s x.m (driver y (seeking passed note NewTurnedAway))
    turned_away_kept None at = absurd at.keeps.noted
    turned_away_kept (Some o) at =
        let s = NewTurnedAway in
        let low = low_tablet passed (Some o) s at in
        let held = acts_at x.n x.w x.s x.joint x.m x.low (turned_away t) idle (know passed (Some o) s) (left y) at.here
        (tablet_gate t) (Sub 1) inside (know passed (Some o) s) low (unseen_gate t) (a_tablet_gate t) refl refl
        (as_before x.n x.w x.s x.joint x.m x.low (turned_away t) idle (know passed (Some o) s) (left y) at.here)
        (gate.turns_back x.m t x.low low
        (makes x.n x.w x.s x.joint x.m x.low (turned_away t) idle (know passed (Some o) s) (left y) at.here
        (tablet_gate t) (Sub 1) low)) in
        by_lt (λ b. Goal y (seeking passed (Some o) s) (on (to_next (Some o) b)) out)
        (passed + 1) (x.n.servers * x.n.tablets)
        (λ more. on_to passed (Some o) s at (passed + 1) (Some o) NewArriving out (out_same low) tt held)
        (λ past. paused_to passed (Some o) s at o out held)

    left_names : (note : Option Reason) → (here : IsSeen x.s x.m (own passed note NewLeaving (left y)))
        → NamesHoldIn x.n x.w (knowing x.n x.w x.s x.joint x.m x.low (at_tablet t) idle (know passed note NewLeaving)
        (left y) here (know (passed + 1) note NewArriving))
    left_names None here =
        as_before x.n x.w x.s x.joint x.m x.low (at_tablet t) idle (know passed None NewLeaving) (left y) here
    left_names (Some o) here =
        as_before x.n x.w x.s x.joint x.m x.low (at_tablet t) idle (know passed (Some o) NewLeaving) (left y) here

    left_goes : (note : Option Reason) (at : AtStage passed note NewLeaving) (v : Trying)
        → NamesHoldIn x.n x.w (knowing x.n x.w x.s x.joint x.m x.low (at_tablet t) idle (know passed note NewLeaving)
        (left y) at.here v)
        → Joint x.n x.w (with_view x.s x.m out x.s.front (in_with inside idle v (left y)))
    left_goes note at v names =
        let low = low_tablet passed note NewLeaving at in
        acts_at x.n x.w x.s x.joint x.m x.low (at_tablet t) idle (know passed note NewLeaving) (left y) at.here
        (tablet_gate t) (Sub 1) inside v low (unseen_gate t) (a_tablet_gate t) refl refl names
        (gate.leaves x.m t x.low low
        (makes x.n x.w x.s x.joint x.m x.low (at_tablet t) idle (know passed note NewLeaving) (left y) at.here
        (tablet_gate t) (Sub 1) low))

    -- past the last tablet
    last_left : (note : Option Reason) → AtStage passed note NewLeaving → passed + 1 ≡ x.n.servers * x.n.tablets
        → Goal y (seeking passed note NewLeaving) (found_fed q (outcome note)) out
    last_left None at all =
        full_to passed None NewLeaving at out
        (subst (λ k. Joint x.n x.w
        (with_view x.s x.m out x.s.front (in_with inside idle (last_at x.last (call.New q f) k 0) (left y)))) all
        (left_goes None at (know passed None NewLeaving)
        (as_before x.n x.w x.s x.joint x.m x.low (at_tablet t) idle (know passed None NewLeaving) (left y) at.here)))
    last_left (Some o) at all =
        paused_to passed (Some o) NewLeaving at o out
        (left_goes (Some o) at (know passed (Some o) NewLeaving)
        (as_before x.n x.w x.s x.joint x.m x.low (at_tablet t) idle (know passed (Some o) NewLeaving) (left y)
        at.here))

    pub leaving_kept : (note : Option Reason) → AtStage passed note NewLeaving
        → NextKeeps x.n x.w x.s x.m (driver y (seeking passed note NewLeaving))
    leaving_kept note at =
        let low = low_tablet passed note NewLeaving at in
        let less : passed < x.n.servers * x.n.tablets = at.known.progress.task.known.stage.1.passed in
        by_lt (λ b. Goal y (seeking passed note NewLeaving) (on (to_next note b)) out)
        (passed + 1) (x.n.servers * x.n.tablets)
        (λ more. on_to passed note NewLeaving at (passed + 1) note NewArriving out (out_same low) tt
        (left_goes note at (know (passed + 1) note NewArriving) (left_names note at.here)))
        (λ past. last_left note at (omega arith))

    -- ---- the turn
    turn_names : (note : Option Reason) (here : IsSeen x.s x.m (own passed note NewTakingTurn (left y)))
        → NamesHoldIn x.n x.w (knowing x.n x.w x.s x.joint x.m x.low (at_tablet t) idle
        (know passed note NewTakingTurn) (left y) here (know passed note LoadingLeaving))
    turn_names None here =
        as_before x.n x.w x.s x.joint x.m x.low (at_tablet t) idle (know passed None NewTakingTurn) (left y) here
    turn_names (Some o) here =
        as_before x.n x.w x.s x.joint x.m x.low (at_tablet t) idle (know passed (Some o) NewTakingTurn) (left y) here

    busy_names : (note : Option Reason) (reason : Reason)
        (here : IsSeen x.s x.m (own passed note NewTakingTurn (left y)))
        → NamesHoldIn x.n x.w (knowing x.n x.w x.s x.joint x.m x.low (at_tablet t) idle
        (know passed note NewTakingTurn) (left y) here (know passed (first note reason) NewLeaving))
    busy_names None reason here =
        learns_of x.n x.w x.s x.joint x.m x.low (at_tablet t) idle (know passed None NewTakingTurn) (left y) here q f
        passed 0 0 0 x.last refl (Notes f passed 0)
    busy_names (Some o) reason here =
        as_before x.n x.w x.s x.joint x.m x.low (at_tablet t) idle (know passed (Some o) NewTakingTurn) (left y) here

    pub taking_turn_kept : (note : Option Reason) → AtStage passed note NewTakingTurn
        → NextKeeps x.n x.w x.s x.m (driver y (seeking passed note NewTakingTurn))
    taking_turn_kept note at =
        let s = NewTakingTurn in
        let v = word_at x.n x.s.words (turn t) in
        let us = words_after (record { word = index x.n (turn t); op = Exchange 0 (x.m + 1) }) x.s.words in
        let low = low_tablet passed note s at in
        by_eq
        (λ b. Goal y (seeking passed note s)
        (on (if b then progress note LoadingLeaving else noted (progress note s) (Busy t v) NewLeaving)) us) v 0
        (λ free. on_to passed note s at passed note LoadingLeaving us
        (phase_stays (turn t) (after_op (Exchange 0 (x.m + 1)) v) low (unseen_turn t)) tt
        (acts_at x.n x.w x.s x.joint x.m x.low (at_tablet t) idle (know passed note s) (left y) at.here
        (turn t) (Exchange 0 (x.m + 1)) (with_turn t) (know passed note LoadingLeaving) low (unseen_turn t) (a_turn t)
        refl refl (turn_names note at.here)
        (gate.takes_turn x.m t x.low low free
        (makes x.n x.w x.s x.joint x.m x.low (at_tablet t) idle (know passed note s) (left y) at.here (turn t)
        (Exchange 0 (x.m + 1)) low))))
        (λ held. let same : us ≡ x.s.words =
        ap (λ b. set x.s.words (index x.n (turn t)) (either b (x.m + 1) v)) (ne_eqb v 0 held)
        ∙ load_back x.s.words (index x.n (turn t)) in
        subst (Goal y (seeking passed note s) (seeking passed (first note (Busy t v)) NewLeaving)) (sym same)
        (on_to passed note s at passed (first note (Busy t v)) NewLeaving x.s.words refl tt
        (looks x.n x.w x.s x.joint x.m x.low (at_tablet t) idle (know passed note s) (left y) at.here
        (know passed (first note (Busy t v)) NewLeaving) refl (λ e. e) (busy_names note (Busy t v) at.here))))

    given_names : (note : Option Reason) (here : IsSeen x.s x.m (own passed note PassingTurn (left y)))
        → NamesHoldIn x.n x.w (knowing x.n x.w x.s x.joint x.m x.low (with_turn t) idle
        (know passed note PassingTurn) (left y) here (know passed note NewLeaving))
    given_names None here =
        as_before x.n x.w x.s x.joint x.m x.low (with_turn t) idle (know passed None PassingTurn) (left y) here
    given_names (Some o) here =
        as_before x.n x.w x.s x.joint x.m x.low (with_turn t) idle (know passed (Some o) PassingTurn) (left y) here

    pub giving_turn_kept : (note : Option Reason) → AtStage passed note PassingTurn
        → NextKeeps x.n x.w x.s x.m (driver y (seeking passed note PassingTurn))
    giving_turn_kept note at =
        let s = PassingTurn in
        let us = words_after (record { word = index x.n (turn t); op = Store 0 }) x.s.words in
        let low = low_tablet passed note s at in
        on_to passed note s at passed note NewLeaving us (phase_stays (turn t) 0 low (unseen_turn t)) tt
        (acts_at x.n x.w x.s x.joint x.m x.low (with_turn t) idle (know passed note s) (left y) at.here
        (turn t) (Store 0) (at_tablet t) (know passed note NewLeaving) low (unseen_turn t) (a_turn t)
        refl refl (given_names note at.here)
        (gate.gives_turn x.m t x.low low
        (makes x.n x.w x.s x.joint x.m x.low (with_turn t) idle (know passed note s) (left y) at.here (turn t)
        (Store 0) low)))
