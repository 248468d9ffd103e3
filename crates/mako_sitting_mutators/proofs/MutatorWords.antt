-- What the attempt of a mutator writes, by its stage: barrier slots, tops and entries at few of them, and the finished
-- word at none.
use Rattle.std.proofs.Common.{◌≡◌, ℕ, ◌+◌, ◌*◌, ◌<◌, List, sym, subst, refl, arith}
use Rattle.std.proofs.lemmas.Nat.{mod_below}
use Rattle.mako_shape.specs.declared.numbers.Numbers.{Numbers}
use Rattle.mako_shape.specs.Places.{Place, demand, mutator_gate, root, barrier, tablet_gate, turn, top, entry}
use Rattle.mako_shape.specs.Places.{region_word, Within}
use Rattle.mako_shape.specs.Belongings.{IsAddress, tablet_of_entry}
use Rattle.mako_shape.proofs.BelongingLaws.{belongings_in_range}
use Rattle.mako_record.specs.Copying as copying
use Rattle.mako_record.specs.Copying.{Copying, copied_to}
use Rattle.mako_alloc.specs.Allocating as allocating
use Rattle.mako_alloc.specs.Allocating.{Allocation, tablet_at, record_word}
use Rattle.mako_alloc.specs.declared.job.Job.{Job}
use Rattle.mako_alloc.specs.declared.progress.NewRecord.{NewRecord}
use Rattle.mako_alloc.specs.declared.progress.Part.{Part}
use Rattle.mako_alloc.specs.declared.progress.Part.TheVariants.{Header, Field, Top, Entry}
use Rattle.mako_alloc.specs.declared.progress.NewStage.{NewStage}
use Rattle.mako_alloc.specs.declared.progress.NewStage.TheVariants.{Arriving as NewArriving}
use Rattle.mako_alloc.specs.declared.progress.NewStage.TheVariants.{TurnedAway as NewTurnedAway}
use Rattle.mako_alloc.specs.declared.progress.NewStage.TheVariants.{TakingTurn as NewTakingTurn, LoadingLeaving}
use Rattle.mako_alloc.specs.declared.progress.NewStage.TheVariants.{LoadingTop, LoadingEntry as NewEntry}
use Rattle.mako_alloc.specs.declared.progress.NewStage.TheVariants.{LoadingHome as NewHome, Making}
use Rattle.mako_alloc.specs.declared.progress.NewStage.TheVariants.{GivingTurn as PassingTurn, Leaving as NewLeaving}
use Rattle.mako_alloc.specs.declared.progress.NewStage.TheVariants.{Ended as NewEnded}
use Rattle.mako_call.specs.Allocating as made
use Rattle.mako_call.specs.Asking as asked
use Rattle.mako_call.specs.Calls as calling
use Rattle.mako_call.specs.Entering as entered
use Rattle.mako_call.specs.Getting as got
use Rattle.mako_call.specs.Leaving as left
use Rattle.mako_call.specs.Moving as moved
use Rattle.mako_call.specs.Putting as stored
use Rattle.mako_call.specs.Rooting as rooted
use Rattle.mako_call.specs.Calls.{Calling}
use Rattle.mako_call.specs.declared.caller.Caller.{Caller}
use Rattle.mako_call.specs.Callers.{IsCaller}
use Rattle.mako_call.specs.Objects.{ObjectIsKnown, tablet_of}
use Rattle.mako_call.specs.declared.call_stage.CallStage.{CallStage}
use Rattle.mako_call.specs.declared.call_stage.CallStage.TheVariants.{Arriving, Rooting, Entering, Moving, Getting}
use Rattle.mako_call.specs.declared.call_stage.CallStage.TheVariants.{Putting, Allocating, Asking, Leaving, Ended}
use Rattle.mako_call.specs.declared.rooting.RootStage.{RootStage}
use Rattle.mako_call.specs.declared.rooting.RootStage.TheVariants.{StoringNumber, StoringNull, LoadingCopied}
use Rattle.mako_call.specs.declared.rooting.RootStage.TheVariants.{StoringCopied, LoadingShown, LoadingSource}
use Rattle.mako_call.specs.declared.rooting.RootStage.TheVariants.{LoadingTarget, LoadingValue, LoadingPhase}
use Rattle.mako_call.specs.declared.entering.EnterStage.{EnterStage}
use Rattle.mako_call.specs.declared.entering.EnterStage.TheVariants.{Arriving as EnterArriving, LoadingEntry}
use Rattle.mako_call.specs.declared.entering.EnterStage.TheVariants.{LoadingHome}
use Rattle.mako_call.specs.declared.moving.MoveStage.{MoveStage}
use Rattle.mako_call.specs.declared.moving.MoveStage.TheVariants.{TakingTurn, LoadingEntry as LoadingAgain}
use Rattle.mako_call.specs.declared.moving.MoveStage.TheVariants.{Copying as Copies, GivingTurn}
use Rattle.mako_call.specs.declared.getting.GetStage.{GetStage}
use Rattle.mako_call.specs.declared.getting.GetStage.TheVariants.{LoadingHeader as GetHeader, LoadingField as GetField}
use Rattle.mako_call.specs.declared.getting.GetStage.TheVariants.{StoringRoot as StoringGot}
use Rattle.mako_call.specs.declared.putting.PutStage.{PutStage}
use Rattle.mako_call.specs.declared.putting.PutStage.TheVariants.{LoadingHeader as PutHeader, LoadingOld}
use Rattle.mako_call.specs.declared.putting.PutStage.TheVariants.{LookingAtBarrier, StoringBarrier}
use Rattle.mako_call.specs.declared.putting.PutStage.TheVariants.{StoringField as StoringPut}
use Rattle.mako_call.specs.declared.allocating.AllocStage.{AllocStage}
use Rattle.mako_call.specs.declared.allocating.AllocStage.TheVariants.{LoadingPhase as NewPhase, Searching, StoringRoot}
use Rattle.mako_call.specs.declared.allocating.AllocStage.TheVariants.{GivingTurn as GivingNewTurn}
use Rattle.mako_call.specs.declared.asking.AskStage.{AskStage}
use Rattle.mako_call.specs.declared.asking.AskStage.TheVariants.{LoadingPhase as AskPhase, RaisingDemand}
use Rattle.mako_call.specs.declared.asking.AskStage.TheVariants.{Awaiting as AskAwaiting}
use Rattle.mako_call.specs.declared.leaving.LeaveStage.{LeaveStage}
use Rattle.mako_call.specs.declared.leaving.LeaveStage.TheVariants.{Refused, TurnedAway, FromTablet, FromOwn}
use Rattle.mako_call.specs.declared.object.Errand.{Errand}
use Rattle.mako_call.specs.declared.object.Get.{Get as GetArgs}
use Rattle.mako_call.specs.declared.object.Located.{Located}
use Rattle.mako_call.specs.declared.object.Put.{Put as PutArgs}
use Rattle.mako_step.specs.Acts.{words_stepped}
use Rattle.mako_writes.specs.Writes.{LeavesOthers}
use Rattle.mako_writes.proofs.Mutators.{behind}
use Rattle.mako_writes.proofs.Copies.{copies}
use Rattle.mako_writes.proofs.Touching.{Leaves, looks, at_place, at_address, ends}

abbrev pub StoresTops : CallStage → Type 0
StoresTops (Moving e s) = Unit {0}
StoresTops (Allocating s) = Unit {0}
StoresTops s = ⊥

abbrev pub StoresName : PutStage → Type 0
StoresName (StoringBarrier old) = Unit {0}
StoresName s = ⊥

abbrev pub StoresBarrier : CallStage → Type 0
StoresBarrier (Putting at put s) = StoresName s
StoresBarrier s = ⊥

abbrev pub StageWrites : (m slot : ℕ) → CallStage → Place → Type 0
StageWrites m slot s demand = Unit {0}
StageWrites m slot s (mutator_gate k) = k ≡ m
StageWrites m slot s (root k q) = k ≡ m
StageWrites m slot s (barrier k at) = (k ≡ m) × (at ≡ slot) × StoresBarrier s
StageWrites m slot s (tablet_gate t) = Unit {0}
StageWrites m slot s (turn t) = Unit {0}
StageWrites m slot s (top t) = StoresTops s
StageWrites m slot s (entry x) = StoresTops s
StageWrites m slot s (region_word r o) = Unit {0}
StageWrites m slot s p = ⊥

-- ---- an attempt
module _ (k : Caller) (caller : IsCaller k) where
  abbrev n : Numbers
  n = k.shape

  abbrev W : ℕ → CallStage → Place → Type 0
  W slot st = StageWrites k.mutator slot st

  records : (slot : ℕ) (st : CallStage) (r o : ℕ) → W slot st (region_word r o)
  records slot st r o = tt

  own_root : (q : ℕ) → q < n.roots → Within n (root k.mutator q)
  own_root q low = (caller.mutator, low)

  tablet : (x : ℕ) → x < n.servers * n.tablets * n.entries → tablet_of_entry n x < n.servers * n.tablets
  tablet x low = belongings_in_range.entry n x low

  rooting : (slot : ℕ) (s : RootStage) → rooted.RootIsKnown n s → Leaves n (W slot (Rooting s)) (rooted.root_next k s)
  rooting slot (StoringNumber to number) is = at_place n _ (root k.mutator to) _ (own_root to is.0) refl
  rooting slot (StoringNull to) is = at_place n _ (root k.mutator to) _ (own_root to is) refl
  rooting slot (LoadingCopied to from) is = looks n _ _
  rooting slot (StoringCopied to value) is = at_place n _ (root k.mutator to) _ (own_root to is.0) refl
  rooting slot (LoadingShown from) is = looks n _ _
  rooting slot (LoadingSource to from field) is = looks n _ _
  rooting slot (LoadingTarget to field from) is = looks n _ _
  rooting slot (LoadingValue object field from) is = looks n _ _
  rooting slot (LoadingPhase object field value) is = looks n _ _

  entering : (slot : ℕ) (e : Errand) (s : EnterStage) → ObjectIsKnown n e.object
      → Leaves n (W slot (Entering e s)) (entered.enter_next k e s)
  entering slot e EnterArriving is =
      at_place n _ (tablet_gate (tablet_of n e.object)) _ (tablet e.object.entry is.1) tt
  entering slot e LoadingEntry is = looks n _ _
  entering slot e (LoadingHome found) is = looks n _ _

  copied : (slot : ℕ) (e : Errand) (st : MoveStage) (c : Copying) → c.shape ≡ n → copying.IsKnown c
      → Leaves n (W slot (Moving e st)) (copying.next_of c)
  copied slot e st c same known =
      subst (λ m. Leaves m (W slot (Moving e st)) (copying.next_of c)) same
      (copies c.shape (W slot (Moving e st)) (records slot (Moving e st)) c.number known.number tt tt c.entry
      c.home known.home c.stage known.stage)

  moving : (slot : ℕ) (e : Errand) (s : MoveStage) → ObjectIsKnown n e.object → moved.MoveIsKnown n s
      → Leaves n (W slot (Moving e s)) (moved.move_next k e s)
  moving slot e (TakingTurn home) is known =
      at_place n _ (turn (tablet_of n e.object)) _ (tablet e.object.entry is.1) tt
  moving slot e (LoadingAgain home) is known = looks n _ _
  moving slot e (Copies copier) is known = copied slot e (Copies copier) copier known.2 known.0
  moving slot e (GivingTurn address) is known =
      at_place n _ (turn (tablet_of n e.object)) _ (tablet e.object.entry is.1) tt

  getting : (slot : ℕ) (l : Located) (get : GetArgs) (s : GetStage) → got.GetIsKnown n l get s
      → Leaves n (W slot (Getting l get s)) (got.get_next k l get s)
  getting slot l get GetHeader is = looks n _ _
  getting slot l get GetField is = looks n _ _
  getting slot l get (StoringGot value) is = at_place n _ (root k.mutator get.to) _ (own_root get.to is.0) refl

  putting : (slot : ℕ) (l : Located) (put : PutArgs) (s : PutStage) → slot < n.ring → IsAddress n l.address
      → stored.PutIsKnown n l put s → Leaves n (W slot (Putting l put s)) (stored.put_next k slot l put s)
  putting slot l put PutHeader low is known = looks n _ _
  putting slot l put LoadingOld low is known = looks n _ _
  putting slot l put (LookingAtBarrier old) low is known = looks n _ _
  putting slot l put (StoringBarrier old) low is known =
      at_place n _ (barrier k.mutator slot) _ (caller.mutator, low) (refl, refl, tt)
  putting slot l put StoringPut low is known =
      at_address n _ _ (records slot (Putting l put StoringPut)) (l.address + 1 + put.field)
      (behind n l.address (l.address + 1 + put.field) is (omega arith) known.1)

  -- ---- the search for a place
  part : (slot : ℕ) (st : AllocStage) (job : Job) (t : ℕ) (made : NewRecord) (s : Part) → job.shape ≡ n
      → t < n.servers * n.tablets → allocating.IsRecord job made → allocating.IsPartKnown job s
      → Leaves job.shape (W slot (Allocating st)) (allocating.part_next job t made s)
  part slot st job t made Header same low is known =
      let room = is.room in
      at_place job.shape _ (region_word made.home (made.top + 0)) _ (is.home, omega arith) tt
  part slot st job t made (Field i) same low is known =
      let room = is.room in
      at_place job.shape _ (region_word made.home (made.top + (i + 1))) _ (is.home, omega arith) tt
  part slot st job t made Top same low is known =
      at_place job.shape _ (top t) _ (subst (λ (m : Numbers). t < m.servers * m.tablets) (sym same) low) tt
  part slot st job t made Entry same low is known = at_place job.shape _ (entry made.name.entry) _ is.name.0 tt

  seeking : (slot : ℕ) (st : AllocStage) (job : Job) (t : ℕ) (s : NewStage) → job.shape ≡ n → t < n.servers * n.tablets
      → allocating.IsStageKnown job s → Leaves job.shape (W slot (Allocating st)) (allocating.stage_next job t s)
  seeking slot st job t s same low is = by s is
    where
      there : t < job.shape.servers * job.shape.tablets
      there = subst (λ (m : Numbers). t < m.servers * m.tablets) (sym same) low

      by : (s : NewStage) → allocating.IsStageKnown job s
          → Leaves job.shape (W slot (Allocating st)) (allocating.stage_next job t s)
      by NewArriving is = at_place job.shape (W slot (Allocating st)) (tablet_gate t) _ there tt
      by NewTurnedAway is = at_place job.shape (W slot (Allocating st)) (tablet_gate t) _ there tt
      by NewTakingTurn is = at_place job.shape (W slot (Allocating st)) (turn t) _ there tt
      by LoadingLeaving is = looks job.shape (W slot (Allocating st)) _
      by LoadingTop is = looks job.shape (W slot (Allocating st)) _
      by (NewEntry kept place) is = looks job.shape (W slot (Allocating st)) _
      by (NewHome kept name) is = looks job.shape (W slot (Allocating st)) _
      by (Making made p) is = part slot st job t made p same low is.0 is.1
      by PassingTurn is = at_place job.shape (W slot (Allocating st)) (turn t) _ there tt
      by NewLeaving is = at_place job.shape (W slot (Allocating st)) (tablet_gate t) _ there tt
      by (NewEnded found) is = ends job.shape (W slot (Allocating st))

  searching : (slot : ℕ) (st : AllocStage) (a : Allocation) → a.job.shape ≡ n → allocating.IsKnown a.job a.progress
      → Leaves n (W slot (Allocating st)) (allocating.next_of a)
  searching slot st a same known =
      let numbers = known.numbers.shape in
      subst (λ m. Leaves m (W slot (Allocating st)) (allocating.next_of a)) same
      (seeking slot st a.job (tablet_at a.job a.progress.passed) a.progress.stage same
      (subst (λ (m : Numbers). tablet_at a.job a.progress.passed < m.servers * m.tablets) same
      (mod_below (a.job.mutator + a.progress.passed) (allocating.all_tablets a.job.shape)
      (let passed = known.passed in omega arith))) known.stage)

  allotting : (slot : ℕ) (s : AllocStage) → made.NewIsKnown k s → Leaves n (W slot (Allocating s)) (made.new_next k s)
  allotting slot (NewPhase q fields) is = looks n _ _
  allotting slot (Searching q progress) is = searching slot (Searching q progress) progress is.3 is.1
  allotting slot (StoringRoot q name t) is = at_place n _ (root k.mutator q) _ (own_root q is.0) refl
  allotting slot (GivingNewTurn name t) is = at_place n _ (turn t) _ is tt

  asking : (slot : ℕ) (s : AskStage) → Leaves n (W slot (Asking s)) (asked.ask_next n s)
  asking slot AskPhase = looks n _ _
  asking slot (RaisingDemand cycle) = at_place n _ demand _ tt tt
  asking slot (AskAwaiting cycle) = looks n _ _

  leaving : (slot : ℕ) (s : LeaveStage) → left.LeaveIsKnown n s → Leaves n (W slot (Leaving s)) (left.leave_next k s)
  leaving slot (Refused word) is = at_place n _ (mutator_gate k.mutator) _ caller.mutator refl
  leaving slot (TurnedAway t word) is = at_place n _ (tablet_gate t) _ is tt
  leaving slot (FromTablet t outcome) is = at_place n _ (tablet_gate t) _ is tt
  leaving slot (FromOwn outcome) is = at_place n _ (mutator_gate k.mutator) _ caller.mutator refl

  attempting : (slot : ℕ) (s : CallStage) → slot < n.ring → calling.StageIsKnown k s
      → Leaves n (W slot s) (calling.stage_next k slot s)
  attempting slot Arriving low is = at_place n _ (mutator_gate k.mutator) _ caller.mutator refl
  attempting slot (Rooting s) low is = rooting slot s is
  attempting slot (Entering e s) low is = entering slot e s is.0.0
  attempting slot (Moving e s) low is = moving slot e s is.0.0 is.1
  attempting slot (Getting at get s) low is = getting slot at get s is.1
  attempting slot (Putting at put s) low is = putting slot at put s low is.0.1 is.1
  attempting slot (Allocating s) low is = allotting slot s is
  attempting slot (Asking s) low is = asking slot s
  attempting slot (Leaving s) low is = leaving slot s is
  attempting slot (Ended outcome) low is = ends n _

-- an attempt of this mutator
pub call_leaves : (k : Caller) (m : Calling) → m.caller ≡ k → calling.IsKnown m → (words : List ℕ)
    → LeavesOthers k.shape (StageWrites k.mutator m.slot m.stage) words (words_stepped (calling.next_of m) words)
call_leaves k m same known words =
    subst (λ (c : Caller). LeavesOthers c.shape (StageWrites c.mutator m.slot m.stage) words
    (words_stepped (calling.next_of m) words)) same
    ((attempting m.caller known.caller m.slot m.stage known.slot known.stage).rest words)
