-- What the next act of a new, of a collect, of a wait, without room and past the calls asks of the words.
use Rattle.std.proofs.Common.{◌≡◌, ℕ, ◌+◌, ◌*◌, ◌<◌, ◌≤◌, ◌^◌, slice_get, Some, Option, sym, ap, subst, refl, arith}
use Rattle.mako_words.specs.Phases.{IsPackedPhase, phase_at, cycle_of}
use Rattle.mako_words.proofs.PhaseWords.{phase_words, phase_at-phase_word}
use Rattle.mako_words.specs.declared.phase_word.PhaseWord.{PhaseWord}
use Rattle.mako_words.specs.declared.phase_word.PhaseWord.TheVariants.{Idle, Trace, Evac, Stop}
use Rattle.mako_shape.specs.declared.numbers.Numbers.{Numbers}
use Rattle.mako_shape.specs.Places.{phase, mutator_gate, demand, finished, entry, home, top, leaving, turn, root}
use Rattle.mako_shape.specs.Places.{tablet_gate, region_word, index, word_at}
use Rattle.mako_shape.proofs.BelongingLaws.{parts_belong}
use Rattle.mako_gate.specs.Standings.{Standing, arrived, at_tablet, with_turn, turned_away, mutator_at, inside, writes}
use Rattle.mako_gate.proofs.Found.{arrived_word, own_arrived_word}
use Rattle.mako_shape.proofs.PlaceLaws.{index_below}
use Rattle.mako_step.specs.Acts.{does}
use Rattle.mako_step.specs.declared.act.Op.TheVariants.{Add}
use Rattle.mako_step.specs.Machines.{CanStep}
use Rattle.mako_model.specs.declared.call.Call.TheVariants as call
use Rattle.mako_model.specs.declared.attempt.Pause.{Pause as Reason}
use Rattle.mako_alloc.specs.declared.progress.NewRecord.{NewRecord}
use Rattle.mako_alloc.specs.declared.progress.Part.{Part}
use Rattle.mako_alloc.specs.declared.progress.Part.TheVariants.{Header, Field, Top, Entry}
use Rattle.mako_alloc.specs.declared.progress.NewStage.{NewStage}
use Rattle.mako_alloc.specs.declared.progress.NewStage.TheVariants.{Arriving as NewArriving}
use Rattle.mako_alloc.specs.declared.progress.NewStage.TheVariants.{TurnedAway as NewTurnedAway}
use Rattle.mako_alloc.specs.declared.progress.NewStage.TheVariants.{TakingTurn as NewTakingTurn, LoadingLeaving}
use Rattle.mako_alloc.specs.declared.progress.NewStage.TheVariants.{LoadingTop, LoadingEntry as NewEntry}
use Rattle.mako_alloc.specs.declared.progress.NewStage.TheVariants.{LoadingHome as NewHome, Making}
use Rattle.mako_alloc.specs.declared.progress.NewStage.TheVariants.{GivingTurn as PassingTurn, Leaving as NewLeaving}
use Rattle.mako_alloc.specs.declared.progress.NewStage.TheVariants.{Ended as NewEnded}
use Rattle.mako_call.specs.Asking.{CountsFrom}
use Rattle.mako_call.specs.declared.allocating.AllocStage.{AllocStage}
use Rattle.mako_call.specs.declared.allocating.AllocStage.TheVariants.{LoadingPhase as NewPhase, Searching, StoringRoot}
use Rattle.mako_call.specs.declared.allocating.AllocStage.TheVariants.{GivingTurn as GivingNewTurn}
use Rattle.mako_call.specs.declared.asking.AskStage.{AskStage}
use Rattle.mako_call.specs.declared.asking.AskStage.TheVariants.{LoadingPhase as AskPhase, RaisingDemand}
use Rattle.mako_call.specs.declared.asking.AskStage.TheVariants.{Awaiting as AskAwaiting}
use Rattle.mako_phases.specs.Facets.{phase_during}
use Rattle.mako_phases.proofs.Parts.{bound_cycle, cycles_fit}
use Rattle.mako_call.specs.declared.call_stage.CallStage.{CallStage}
use Rattle.mako_call.specs.declared.call_stage.CallStage.TheVariants.{Arriving, Rooting, Entering, Moving, Getting}
use Rattle.mako_call.specs.declared.call_stage.CallStage.TheVariants.{Putting, Allocating, Asking, Leaving, Ended}
use Rattle.mako_call.specs.declared.leaving.LeaveStage.TheVariants.{Refused, TurnedAway, FromTablet, FromOwn}
use Rattle.mako_model.specs.declared.attempt.Attempt.TheVariants.{Answer, Full, Pause as Paused}
use Rattle.mako_mutator.specs.Drivers.{Driving}
use Rattle.mako_call.specs.Agreeing.{StageOf}
use Rattle.mako_mutator.specs.declared.progress.Task.{Task}
use Rattle.mako_mutator.specs.declared.progress.Task.TheVariants.{Attempting, Awaiting, Finishing, Ended as TaskEnded}
use Rattle.mako_mutator.specs.Drivers as drivers
use Rattle.mako_names.specs.Tables.{phase_of, running_of}
use Rattle.mako_layout.specs.Facets.{asks, stands}
use Rattle.mako_layout.proofs.Found.{homes_are_found, tops_are_found}
use Rattle.mako_state.proofs.Objects.{is_admitted}
use Rattle.mako_joint.specs.Joints.{layout_in}
use Rattle.mako_mutating.proofs.Attempts.{Scene}
use Rattle.mako_making.specs.Makings.{IsAt}
use Rattle.mako_making.proofs.Trials.{Trial, driver, waiter}
use Rattle.mako_making.proofs.Tasks.{only_asks, trial, of_attempt, of_wait}
use Rattle.mako_making.proofs.NewStages.{allocates}
use Rattle.mako_making.proofs.Searches.{y, seeking, search_at, present, AtStage, low_tablet}
use Rattle.mako_making.specs.Going.{MakingsCanGo, IsBesideObjects, IsAtRoom}
use Rattle.mako_mutating.proofs.Asks.{at_place, tablet_gate_found}

module _ (x : Trial) where
  -- the scene of the trial
  abbrev pub scene : Scene
  scene = record {
    n = x.n;
    w = x.w;
    s = x.s;
    j = x.joint;
    m = x.m;
    calls = x.calls;
    replies = x.replies;
    done = x.done;
    call = x.call;
    last = x.last;
    slot = x.slot;
  }

  abbrev Going : CallStage → Type 0
  Going st = CanStep (drivers.next_of (driver x st)) x.s.words (drivers.Fits (driver x st))

  -- the phase that it finds is that of the collector's part
  module _ where
    few : x.n.cycles < 2 ^ 20
    few = cycles_fit x.n x.joint.order.shape

    bound : cycle_of (phase_during x.joint.order.part) ≤ x.n.cycles
    bound = bound_cycle x.n x.joint.order.part x.joint.order.words_stand.bound

    fits : cycle_of (phase_during x.joint.order.part) < 2 ^ 20
    fits = omega (arith, few, bound)

  phase_packed : IsPackedPhase (word_at x.n x.s.words phase)
  phase_packed =
      subst IsPackedPhase (sym x.joint.order.words_stand.phase_is)
      (phase_words.packed (phase_during x.joint.order.part) fits)

  phase_low : cycle_of (phase_at (word_at x.n x.s.words phase)) ≤ x.n.cycles
  phase_low =
      let p = phase_during x.joint.order.part in
      subst (λ w. cycle_of (phase_at w) ≤ x.n.cycles) (sym x.joint.order.words_stand.phase_is)
      (subst (λ q. cycle_of q ≤ x.n.cycles) (sym (phase_at-phase_word p fits)) bound)

  -- a phase in which a cycle runs has a number from 1 on
  pub phase_counts : CountsFrom (phase_at (word_at x.n x.s.words phase))
  unfolding phase_of
  phase_counts = by (phase_at (word_at x.n x.s.words phase)) refl
    where
      by : (p : PhaseWord) → phase_at (word_at x.n x.s.words phase) ≡ p → CountsFrom p
      by (Idle cycle) is = tt
      by (Trace cycle) is =
          let table = x.joint.names.hold.table in
          let runs = ap running_of is in let same = ap cycle_of is in
          let a = table.cycle in let b = table.finished in omega arith
      by (Evac cycle) is =
          let table = x.joint.names.hold.table in
          let runs = ap running_of is in let same = ap cycle_of is in
          let a = table.cycle in let b = table.finished in omega arith
      by (Stop cycle) is = tt

  pub asking_asks : (s : AskStage) → Going (Asking s)
  asking_asks AskPhase = (at_place scene phase tt, tt, (phase_packed, phase_low))
  asking_asks (RaisingDemand cycle) = (at_place scene demand tt, tt, tt)
  asking_asks (AskAwaiting cycle) = (at_place scene phase tt, tt, (phase_packed, phase_counts))

module _ (x : Trial) (q f c passed : ℕ) (note : Option Reason) where
  abbrev t : ℕ
  t = present x q f c passed

  abbrev z : Trial
  z = y x q f c

  low : (r : NewStage) → AtStage x q f c passed note r → t < x.n.servers * x.n.tablets
  low r at = low_tablet x q f c passed note r at

  -- who has arrived can leave
  counted_there : (st : Standing) → slice_get x.s.facets.gates x.m ≡ Some (mutator_at x.m st)
      → t < x.n.servers * x.n.tablets → 1 ≤ arrived t st → 1 ≤ word_at x.n x.s.words (tablet_gate t)
  counted_there st gate there one =
      arrived_word x.n (λ p. word_at x.n x.s.words p) x.s.facets.gates x.joint.layout.gates x.m (mutator_at x.m st) gate
      t there one

  writer : 1 ≤ writes t (mutator_at x.m (with_turn t))
  writer = let a = is_admitted x.n x.m t in omega arith

  top_found : AtStage x q f c passed note LoadingTop → word_at x.n x.s.words (top t) ≤ x.n.words
  top_found at =
      tops_are_found x.n (layout_in x.n x.w x.s) x.joint.layout x.m t (mutator_at x.m (with_turn t))
      (asks (t * x.n.entries)) (record { gate = at.here.gate; work = at.here.work }) (low LoadingTop at) writer
      (λ u. (refl, refl))

  home_found : t < x.n.servers * x.n.tablets → slice_get x.s.facets.gates x.m ≡ Some (mutator_at x.m (with_turn t))
      → word_at x.n x.s.words (home t) < x.n.servers * (x.n.tablets + x.n.spare)
  home_found there gate =
      homes_are_found x.n (layout_in x.n x.w x.s) x.joint.layout x.m t (mutator_at x.m (with_turn t)) gate there
      (let a = is_admitted x.n x.m t in let b : 1 ≤ stands t (mutator_at x.m (with_turn t)) = omega arith in b)

  making_asks : (made : NewRecord) (part : Part) → AtStage x q f c passed note (Making made part)
      → Going z (seeking x q f c passed note (Making made part))
  making_asks made Header at =
      let rec = at.known.progress.task.known.stage.1.stage.0 in
      let room = rec.room in
      (at_place (scene x) (region_word made.home (made.top + 0)) (rec.home, omega arith), tt, tt)
  making_asks made (Field i) at =
      let rec = at.known.progress.task.known.stage.1.stage.0 in
      let room = rec.room in
      let less : i < f = at.known.progress.task.known.stage.1.stage.1 in
      (at_place (scene x) (region_word made.home (made.top + (i + 1))) (rec.home, omega arith), tt, tt)
  making_asks made Top at = (at_place (scene x) (top t) (low (Making made Top) at), tt, tt)
  making_asks made Entry at =
      (at_place (scene x) (entry made.name.entry) at.known.progress.task.known.stage.1.stage.0.name.0, tt, tt)

  search_asks : (r : NewStage) → AtStage x q f c passed note r → Going z (seeking x q f c passed note r)
  search_asks NewArriving at =
      let g = tablet_gate_found (scene x) t (low NewArriving at) in
      (at_place (scene x) (tablet_gate t) (low NewArriving at), g.room, g.packed)
  search_asks NewTurnedAway at =
      let there = low NewTurnedAway at in (
        at_place (scene x) (tablet_gate t) there,
        counted_there (turned_away t) at.here.gate there (is_admitted x.n x.m t),
        tt,
      )
  search_asks NewTakingTurn at = (at_place (scene x) (turn t) (low NewTakingTurn at), tt, tt)
  search_asks LoadingLeaving at = (at_place (scene x) (leaving t) (low LoadingLeaving at), tt, tt)
  search_asks LoadingTop at = (at_place (scene x) (top t) (low LoadingTop at), tt, top_found at)
  search_asks (NewEntry kept place) at =
      let there = low (NewEntry kept place) at in
      let less = at.known.progress.task.known.stage.1.stage.1 in (
        at_place (scene x) (entry (t * x.n.entries + place)) (parts_belong.entry_in_range x.n t place there less),
        tt,
        tt,
      )
  search_asks (NewHome kept name) at =
      let there = low (NewHome kept name) at in
      (at_place (scene x) (home t) there, tt, home_found there at.here.gate)
  search_asks (Making made part) at = making_asks made part at
  search_asks PassingTurn at = (at_place (scene x) (turn t) (low PassingTurn at), tt, tt)
  search_asks NewLeaving at =
      let there = low NewLeaving at in (
        at_place (scene x) (tablet_gate t) there,
        counted_there (at_tablet t) at.here.gate there (is_admitted x.n x.m t),
        tt,
      )
  search_asks (NewEnded found) at = tt

module _ (x : Trial) where
  new_asks : (s : AllocStage) → IsAt x.n x.s x.m (driver x (Allocating s)) → Going x (Allocating s)
  new_asks (NewPhase q f) at =
      (at_place (scene x) phase tt, tt, (phase_packed x, phase_low x))
  new_asks (Searching q a) at =
      let known = at.known.progress.task.known in
      let f = a.job.fields in
      let c = a.job.cycle in
      let p = a.progress in
      let is : x.call ≡ call.New q f = allocates x.call q a known.agrees in
      let same : a ≡ search_at x q f c p.passed p.note p.stage =
      λ i. record {
        job = record { shape = known.stage.3 i; mutator = known.stage.4 i; fields = f; cycle = c };
        progress = p;
      } in
      subst (λ b. IsAt x.n x.s x.m (driver x (Allocating (Searching q b))) → Going x (Allocating (Searching q b)))
      (sym same)
      (subst (λ d. IsAt x.n x.s x.m (driver (record x { call = d }) (seeking x q f c p.passed p.note p.stage))
      → Going (record x { call = d }) (seeking x q f c p.passed p.note p.stage)) (sym is)
      (search_asks x q f c p.passed p.note p.stage)) at
  new_asks (StoringRoot q name tablet) at =
      (at_place (scene x) (root x.m q) (x.low, at.known.progress.task.known.stage.0), tt, tt)
  new_asks (GivingNewTurn name tablet) at =
      (at_place (scene x) (turn tablet) at.known.progress.task.known.stage, tt, tt)

  filled_asks : IsAt x.n x.s x.m (driver x (Leaving (FromOwn Full))) → Going x (Leaving (FromOwn Full))
  filled_asks at = (at_place (scene x) (mutator_gate x.m) x.low, own_counted, tt)
    where
      own_counted : 1 ≤ word_at x.n x.s.words (mutator_gate x.m)
      own_counted =
          own_arrived_word x.n (λ p. word_at x.n x.s.words p) x.s.facets.gates x.joint.layout.gates x.m
          (mutator_at x.m inside) at.here.gate x.low (omega arith)

  waits : (s : AskStage)
      → CanStep (drivers.next_of (waiter x (Asking s))) x.s.words (drivers.Fits (waiter x (Asking s)))
  waits AskPhase = asking_asks x AskPhase
  waits (RaisingDemand cycle) = asking_asks x (RaisingDemand cycle)
  waits (AskAwaiting cycle) = asking_asks x (AskAwaiting cycle)

pub makings_can_go : MakingsCanGo
makings_can_go n w s m d j seen keeps searches few these = by d.progress.task refl these
  where
    is : IsAt n s m d
    is = record {
      low = keeps.in_range;
      shape = keeps.shape;
      number = keeps.number;
      known = keeps.known;
      here = seen;
      keeps = searches;
    }

    attempting : (x : Trial) (st : CallStage) → IsAtRoom st → IsAt x.n x.s x.m (driver x st) → Going x st
    attempting x (Allocating a) here at = new_asks x a at
    attempting x (Asking a) here at = asking_asks x a
    attempting x Arriving here at = absurd here
    attempting x (Rooting a) here at = absurd here
    attempting x (Entering e a) here at = absurd here
    attempting x (Moving e a) here at = absurd here
    attempting x (Getting l get a) here at = absurd here
    attempting x (Putting l put a) here at = absurd here
    attempting x (Leaving (FromOwn Full)) here at = filled_asks x at
    attempting x (Leaving (FromOwn (Answer r))) here at = absurd here
    attempting x (Leaving (FromOwn (Paused r))) here at = absurd here
    attempting x (Leaving (FromTablet t o)) here at = absurd here
    attempting x (Leaving (TurnedAway t w)) here at = absurd here
    attempting x (Leaving (Refused w)) here at = absurd here
    attempting x (Ended o) here at = absurd here

    waiting : (x : Trial) (st : CallStage) → IsAt x.n x.s x.m (waiter x st)
        → CanStep (drivers.next_of (waiter x st)) x.s.words (drivers.Fits (waiter x st))
    waiting x st at =
        let wait = at.known.progress.task in
        let a = only_asks x.n st (subst (λ c. StageOf x.n c st) wait.collects wait.known.agrees) wait.open_ in
        subst (λ z. CanStep (drivers.next_of (waiter x z)) x.s.words (drivers.Fits (waiter x z))) (sym a.is)
        (waits x a.stage)

    finishing : CanStep (drivers.task_next d.caller Finishing) s.words (drivers.TaskFits Finishing)
    finishing =
        let shape = j.script.shape.in_range.each in
        subst (λ (k : Numbers). CanStep (does (index k finished) (Add 1)) s.words (λ z. Unit {0})) (sym is.shape) (
          subst (λ i. index n finished < i) (sym j.names.hold.size) (index_below n finished tt),
          (let room : word_at n s.words finished + 1 < 2 ^ 64 = omega (arith, shape) in room),
          tt,
        )

    by : (t : Task) → d.progress.task ≡ t → IsBesideObjects t
        → CanStep (drivers.task_next d.caller t) s.words (drivers.TaskFits t)
    by (Attempting c) e here = subst (λ t. CanStep (drivers.task_next d.caller t) s.words (drivers.TaskFits t)) e
        (of_attempt n w s m d j is c e (λ d. CanStep (drivers.next_of d) s.words (drivers.Fits d))
        (attempting (trial n w s m d j is c) c.stage here))
    by (Awaiting c) e here = subst (λ t. CanStep (drivers.task_next d.caller t) s.words (drivers.TaskFits t)) e
        (of_wait n w s m d j is c e (λ d. CanStep (drivers.next_of d) s.words (drivers.Fits d))
        (waiting (trial n w s m d j is c) c.stage))
    by Finishing e here = finishing
    by TaskEnded e here = tt
