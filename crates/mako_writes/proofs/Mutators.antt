-- What a mutator writes, by its stage.
use Rattle.std.proofs.Common.{◌≡◌, ℕ, ◌+◌, ◌*◌, ◌<◌, ◌≤◌, sym, subst, refl, arith}
use Rattle.std.proofs.lemmas.Nat.{mod_below}
use Rattle.mako_shape.specs.declared.numbers.Numbers.{Numbers}
use Rattle.mako_shape.specs.Places.{Place, demand, finished, mutator_gate, root, barrier, tablet_gate, turn, top, entry}
use Rattle.mako_shape.specs.Places.{region_word, Within, total}
use Rattle.mako_shape.specs.Belongings.{IsAddress, tablet_of_entry}
use Rattle.mako_shape.proofs.BelongingLaws.{belongings_in_range}
use Rattle.mako_record.specs.Copying as copying
use Rattle.mako_record.specs.Copying.{Copying, copied_to}
use Rattle.mako_alloc.specs.Allocating as allocating
use Rattle.mako_alloc.specs.Allocating.{Allocation, tablet_at, record_word}
use Rattle.mako_alloc.specs.declared.job.Job.{Job}
use Rattle.mako_alloc.specs.declared.progress.NewRecord.{NewRecord}
use Rattle.mako_alloc.specs.declared.progress.Part.{Part}
use Rattle.mako_alloc.specs.declared.progress.Part.TheVariants.{Header, Field, Top, Entry}
use Rattle.mako_alloc.specs.declared.progress.NewStage.{NewStage}
use Rattle.mako_alloc.specs.declared.progress.NewStage.TheVariants.{Arriving as NewArriving}
use Rattle.mako_alloc.specs.declared.progress.NewStage.TheVariants.{TurnedAway as NewTurnedAway}
use Rattle.mako_alloc.specs.declared.progress.NewStage.TheVariants.{TakingTurn as NewTakingTurn, LoadingLeaving}
use Rattle.mako_alloc.specs.declared.progress.NewStage.TheVariants.{LoadingTop, LoadingEntry as NewEntry}
use Rattle.mako_alloc.specs.declared.progress.NewStage.TheVariants.{LoadingHome as NewHome, Making}
use Rattle.mako_alloc.specs.declared.progress.NewStage.TheVariants.{GivingTurn as PassingTurn, Leaving as NewLeaving}
use Rattle.mako_alloc.specs.declared.progress.NewStage.TheVariants.{Ended as NewEnded}
use Rattle.mako_call.specs.Allocating as made
use Rattle.mako_call.specs.Asking as asked
use Rattle.mako_call.specs.Calls as calling
use Rattle.mako_call.specs.Entering as entered
use Rattle.mako_call.specs.Getting as got
use Rattle.mako_call.specs.Leaving as left
use Rattle.mako_call.specs.Moving as moved
use Rattle.mako_call.specs.Putting as stored
use Rattle.mako_call.specs.Rooting as rooted
use Rattle.mako_call.specs.Calls.{Calling}
use Rattle.mako_call.specs.declared.caller.Caller.{Caller}
use Rattle.mako_call.specs.Callers.{IsCaller}
use Rattle.mako_call.specs.Objects.{ObjectIsKnown, tablet_of}
use Rattle.mako_call.specs.declared.call_stage.CallStage.{CallStage}
use Rattle.mako_call.specs.declared.call_stage.CallStage.TheVariants.{Arriving, Rooting, Entering, Moving, Getting}
use Rattle.mako_call.specs.declared.call_stage.CallStage.TheVariants.{Putting, Allocating, Asking, Leaving, Ended}
use Rattle.mako_call.specs.declared.rooting.RootStage.{RootStage}
use Rattle.mako_call.specs.declared.rooting.RootStage.TheVariants.{StoringNumber, StoringNull, LoadingCopied}
use Rattle.mako_call.specs.declared.rooting.RootStage.TheVariants.{StoringCopied, LoadingShown, LoadingSource}
use Rattle.mako_call.specs.declared.rooting.RootStage.TheVariants.{LoadingTarget, LoadingValue, LoadingPhase}
use Rattle.mako_call.specs.declared.entering.EnterStage.{EnterStage}
use Rattle.mako_call.specs.declared.entering.EnterStage.TheVariants.{Arriving as EnterArriving, LoadingEntry}
use Rattle.mako_call.specs.declared.entering.EnterStage.TheVariants.{LoadingHome}
use Rattle.mako_call.specs.declared.moving.MoveStage.{MoveStage}
use Rattle.mako_call.specs.declared.moving.MoveStage.TheVariants.{TakingTurn, LoadingEntry as LoadingAgain}
use Rattle.mako_call.specs.declared.moving.MoveStage.TheVariants.{Copying as Copies, GivingTurn}
use Rattle.mako_call.specs.declared.getting.GetStage.{GetStage}
use Rattle.mako_call.specs.declared.getting.GetStage.TheVariants.{LoadingHeader as GetHeader, LoadingField as GetField}
use Rattle.mako_call.specs.declared.getting.GetStage.TheVariants.{StoringRoot as StoringGot}
use Rattle.mako_call.specs.declared.putting.PutStage.{PutStage}
use Rattle.mako_call.specs.declared.putting.PutStage.TheVariants.{LoadingHeader as PutHeader, LoadingOld}
use Rattle.mako_call.specs.declared.putting.PutStage.TheVariants.{LookingAtBarrier, StoringBarrier}
use Rattle.mako_call.specs.declared.putting.PutStage.TheVariants.{StoringField as StoringPut}
use Rattle.mako_call.specs.declared.allocating.AllocStage.{AllocStage}
use Rattle.mako_call.specs.declared.allocating.AllocStage.TheVariants.{LoadingPhase as NewPhase, Searching, StoringRoot}
use Rattle.mako_call.specs.declared.allocating.AllocStage.TheVariants.{GivingTurn as GivingNewTurn}
use Rattle.mako_call.specs.declared.asking.AskStage.{AskStage}
use Rattle.mako_call.specs.declared.asking.AskStage.TheVariants.{LoadingPhase as AskPhase, RaisingDemand}
use Rattle.mako_call.specs.declared.asking.AskStage.TheVariants.{Awaiting as AskAwaiting}
use Rattle.mako_call.specs.declared.leaving.LeaveStage.{LeaveStage}
use Rattle.mako_call.specs.declared.leaving.LeaveStage.TheVariants.{Refused, TurnedAway, FromTablet, FromOwn}
use Rattle.mako_call.specs.declared.object.Errand.{Errand}
use Rattle.mako_call.specs.declared.object.Get.{Get as GetArgs}
use Rattle.mako_call.specs.declared.object.Located.{Located}
use Rattle.mako_call.specs.declared.object.Put.{Put as PutArgs}
use Rattle.mako_mutator.specs.declared.progress.Task.{Task}
use Rattle.mako_mutator.specs.declared.progress.Task.TheVariants.{Attempting, Awaiting, Finishing, Ended as TaskEnded}
use Rattle.mako_mutator.specs.Drivers as drivers
use Rattle.mako_mutator.specs.Drivers.{Driving, TaskIsKnown}
use Rattle.mako_writes.specs.Writes.{MutatorsWrite, MutatorWrites}
use Rattle.mako_writes.proofs.Copies.{copies}
use Rattle.mako_writes.proofs.Touching.{Leaves, looks, at_place, at_address, ends}

-- an index behind the first word of a region, within all words, is an address
pub behind : (n : Numbers) (a i : ℕ) → IsAddress n a → a ≤ i → i < total n → IsAddress n i
behind n a i is more low = (let e = is.0 in omega arith, low)

-- ---- an attempt
module _ (k : Caller) (caller : IsCaller k) where
  abbrev n : Numbers
  n = k.shape

  abbrev W : Place → Type 0
  W = MutatorWrites k.mutator

  records : (r o : ℕ) → W (region_word r o)
  records r o = tt

  own_root : (q : ℕ) → q < n.roots → Within n (root k.mutator q)
  own_root q low = (caller.mutator, low)

  tablet : (x : ℕ) → x < n.servers * n.tablets * n.entries → tablet_of_entry n x < n.servers * n.tablets
  tablet x low = belongings_in_range.entry n x low

  rooting : (s : RootStage) → rooted.RootIsKnown n s → Leaves n W (rooted.root_next k s)
  rooting (StoringNumber to number) is = at_place n W (root k.mutator to) _ (own_root to is.0) refl
  rooting (StoringNull to) is = at_place n W (root k.mutator to) _ (own_root to is) refl
  rooting (LoadingCopied to from) is = looks n W _
  rooting (StoringCopied to value) is = at_place n W (root k.mutator to) _ (own_root to is.0) refl
  rooting (LoadingShown from) is = looks n W _
  rooting (LoadingSource to from field) is = looks n W _
  rooting (LoadingTarget to field from) is = looks n W _
  rooting (LoadingValue object field from) is = looks n W _
  rooting (LoadingPhase object field value) is = looks n W _

  entering : (e : Errand) (s : EnterStage) → ObjectIsKnown n e.object → Leaves n W (entered.enter_next k e s)
  entering e EnterArriving is =
      at_place n W (tablet_gate (tablet_of n e.object)) _ (tablet e.object.entry is.1) tt
  entering e LoadingEntry is = looks n W _
  entering e (LoadingHome found) is = looks n W _

  copied : (c : Copying) → c.shape ≡ n → copying.IsKnown c → Leaves n W (copying.next_of c)
  copied c same known =
      subst (λ m. Leaves m W (copying.next_of c)) same
      (copies c.shape W records c.number known.number tt tt c.entry c.home known.home c.stage known.stage)

  moving : (e : Errand) (s : MoveStage) → ObjectIsKnown n e.object → moved.MoveIsKnown n s
      → Leaves n W (moved.move_next k e s)
  moving e (TakingTurn home) is known =
      at_place n W (turn (tablet_of n e.object)) _ (tablet e.object.entry is.1) tt
  moving e (LoadingAgain home) is known = looks n W _
  moving e (Copies copier) is known = copied copier known.2 known.0
  moving e (GivingTurn address) is known =
      at_place n W (turn (tablet_of n e.object)) _ (tablet e.object.entry is.1) tt

  getting : (l : Located) (get : GetArgs) (s : GetStage) → got.GetIsKnown n l get s
      → Leaves n W (got.get_next k l get s)
  getting l get GetHeader is = looks n W _
  getting l get GetField is = looks n W _
  getting l get (StoringGot value) is = at_place n W (root k.mutator get.to) _ (own_root get.to is.0) refl

  putting : (slot : ℕ) (l : Located) (put : PutArgs) (s : PutStage) → slot < n.ring → IsAddress n l.address
      → stored.PutIsKnown n l put s → Leaves n W (stored.put_next k slot l put s)
  putting slot l put PutHeader low is known = looks n W _
  putting slot l put LoadingOld low is known = looks n W _
  putting slot l put (LookingAtBarrier old) low is known = looks n W _
  putting slot l put (StoringBarrier old) low is known =
      at_place n W (barrier k.mutator slot) _ (caller.mutator, low) refl
  putting slot l put StoringPut low is known =
      at_address n W _ records (l.address + 1 + put.field)
      (behind n l.address (l.address + 1 + put.field) is (omega arith) known.1)

  -- ---- the search for a place
  part : (job : Job) (t : ℕ) (made : NewRecord) (s : Part) → job.shape ≡ n → t < n.servers * n.tablets
      → allocating.IsRecord job made → allocating.IsPartKnown job s
      → Leaves job.shape W (allocating.part_next job t made s)
  part job t made Header same low is known =
      let room = is.room in
      at_place job.shape W (region_word made.home (made.top + 0)) _ (is.home, omega arith) tt
  part job t made (Field i) same low is known =
      let room = is.room in
      at_place job.shape W (region_word made.home (made.top + (i + 1))) _ (is.home, omega arith) tt
  part job t made Top same low is known =
      at_place job.shape W (top t) _ (subst (λ (m : Numbers). t < m.servers * m.tablets) (sym same) low) tt
  part job t made Entry same low is known = at_place job.shape W (entry made.name.entry) _ is.name.0 tt

  seeking : (job : Job) (t : ℕ) (s : NewStage) → job.shape ≡ n → t < n.servers * n.tablets
      → allocating.IsStageKnown job s → Leaves job.shape W (allocating.stage_next job t s)
  seeking job t s same low is = by s is
    where
      there : t < job.shape.servers * job.shape.tablets
      there = subst (λ (m : Numbers). t < m.servers * m.tablets) (sym same) low

      by : (s : NewStage) → allocating.IsStageKnown job s → Leaves job.shape W (allocating.stage_next job t s)
      by NewArriving is = at_place job.shape W (tablet_gate t) _ there tt
      by NewTurnedAway is = at_place job.shape W (tablet_gate t) _ there tt
      by NewTakingTurn is = at_place job.shape W (turn t) _ there tt
      by LoadingLeaving is = looks job.shape W _
      by LoadingTop is = looks job.shape W _
      by (NewEntry kept place) is = looks job.shape W _
      by (NewHome kept name) is = looks job.shape W _
      by (Making made p) is = part job t made p same low is.0 is.1
      by PassingTurn is = at_place job.shape W (turn t) _ there tt
      by NewLeaving is = at_place job.shape W (tablet_gate t) _ there tt
      by (NewEnded found) is = ends job.shape W

  searching : (a : Allocation) → a.job.shape ≡ n → allocating.IsKnown a.job a.progress
      → Leaves n W (allocating.next_of a)
  searching a same known =
      let numbers = known.numbers.shape in
      subst (λ m. Leaves m W (allocating.next_of a)) same
      (seeking a.job (tablet_at a.job a.progress.passed) a.progress.stage same
      (subst (λ (m : Numbers). tablet_at a.job a.progress.passed < m.servers * m.tablets) same
      (mod_below (a.job.mutator + a.progress.passed) (allocating.all_tablets a.job.shape)
      (let passed = known.passed in omega arith))) known.stage)

  allotting : (s : AllocStage) → made.NewIsKnown k s → Leaves n W (made.new_next k s)
  allotting (NewPhase q fields) is = looks n W _
  allotting (Searching q progress) is = searching progress is.3 is.1
  allotting (StoringRoot q name t) is = at_place n W (root k.mutator q) _ (own_root q is.0) refl
  allotting (GivingNewTurn name t) is = at_place n W (turn t) _ is tt

  asking : (s : AskStage) → Leaves n W (asked.ask_next n s)
  asking AskPhase = looks n W _
  asking (RaisingDemand cycle) = at_place n W demand _ tt tt
  asking (AskAwaiting cycle) = looks n W _

  leaving : (s : LeaveStage) → left.LeaveIsKnown n s → Leaves n W (left.leave_next k s)
  leaving (Refused word) is = at_place n W (mutator_gate k.mutator) _ caller.mutator refl
  leaving (TurnedAway t word) is = at_place n W (tablet_gate t) _ is tt
  leaving (FromTablet t outcome) is = at_place n W (tablet_gate t) _ is tt
  leaving (FromOwn outcome) is = at_place n W (mutator_gate k.mutator) _ caller.mutator refl

  attempting : (slot : ℕ) (s : CallStage) → slot < n.ring → calling.StageIsKnown k s
      → Leaves n W (calling.stage_next k slot s)
  attempting slot Arriving low is = at_place n W (mutator_gate k.mutator) _ caller.mutator refl
  attempting slot (Rooting s) low is = rooting s is
  attempting slot (Entering e s) low is = entering e s is.0.0
  attempting slot (Moving e s) low is = moving e s is.0.0 is.1
  attempting slot (Getting at get s) low is = getting at get s is.1
  attempting slot (Putting at put s) low is = putting slot at put s low is.0.1 is.1
  attempting slot (Allocating s) low is = allotting s is
  attempting slot (Asking s) low is = asking s
  attempting slot (Leaving s) low is = leaving s is
  attempting slot (Ended outcome) low is = ends n W

-- an attempt of this mutator
attempted : (k : Caller) (m : Calling) → m.caller ≡ k → calling.IsKnown m
    → Leaves k.shape (MutatorWrites k.mutator) (calling.next_of m)
attempted k m same known =
    subst (λ (c : Caller). Leaves c.shape (MutatorWrites c.mutator) (calling.next_of m)) same
    (attempting m.caller known.caller m.slot m.stage known.slot known.stage)

pub mutators_write : MutatorsWrite
mutators_write d words known = (by d.progress.task known.progress.task).rest words
  where
    k : Caller
    k = d.caller

    by : (t : Task) → TaskIsKnown k d.calls d.progress.done t
        → Leaves k.shape (MutatorWrites k.mutator) (drivers.task_next k t)
    by (Attempting m) is = attempted k m is.same is.known
    by (Awaiting m) is = attempted k m is.same is.known
    by Finishing is = at_place k.shape (MutatorWrites k.mutator) finished _ tt tt
    by TaskEnded is = ends k.shape (MutatorWrites k.mutator)
