-- Which step decides a call, stage by stage.
use Rattle.std.proofs.Common.{◌≡◌, ℕ, Bool, true, false, ◌+◌, ◌==◌, Option, Some, None, if◌then◌else◌, subst, sym, ap}
use Rattle.std.proofs.Common.{◌∙◌, refl}
use Rattle.std.proofs.lemmas.Option.{none-some, same_Some}
use Rattle.mako_words.specs.Entries.{entry_at}
use Rattle.mako_words.specs.Gates.{is_shut}
use Rattle.mako_words.specs.Phases.{phase_at, cycle_of}
use Rattle.mako_words.specs.Values.{value_at}
use Rattle.mako_words.specs.declared.name.Name.{Name}
use Rattle.mako_words.specs.declared.value.Value.{Value}
use Rattle.mako_words.specs.declared.value.Value.TheVariants.{Null, Num as NumValue, Ref}
use Rattle.mako_shape.specs.declared.numbers.Numbers.{Numbers}
use Rattle.mako_shape.specs.Places.{index, entry}
use Rattle.mako_step.specs.Acts.{does}
use Rattle.mako_step.specs.declared.act.Op.TheVariants.{Store}
use Rattle.mako_step.specs.declared.act.Act.{Act}
use Rattle.mako_step.specs.declared.step.Step.{Step}
use Rattle.mako_step.specs.declared.step.Step.TheVariants.{Do, Ended as NoStep}
use Rattle.mako_step.proofs.Cases.{by_lt, by_le, by_eq, by_bool}
use Rattle.mako_model.specs.declared.call.Call.{Call}
use Rattle.mako_model.specs.declared.call.Call.TheVariants.{New, Num, CopyRoot, DropRoot, Get, Put, Show, Collect}
use Rattle.mako_model.specs.declared.reply.Reply.{Reply}
use Rattle.mako_model.specs.declared.reply.Reply.TheVariants.{Made as MadeReply, Full as NoRoom, Value as Told, Done}
use Rattle.mako_model.specs.declared.reply.Reply.TheVariants.{NoRef, NoField, Cycle as CycleReply, Spent}
use Rattle.mako_model.specs.declared.point.Point.{Point}
use Rattle.mako_model.specs.declared.point.Point.TheVariants.{Did}
use Rattle.mako_model.specs.declared.event.Event.TheVariants.{Nothing, Answered}
use Rattle.mako_model.specs.declared.attempt.Attempt.{Attempt}
use Rattle.mako_model.specs.declared.attempt.Attempt.TheVariants.{Answer, Full, Pause as Paused}
use Rattle.mako_model.specs.declared.attempt.Pause.{Pause as Reason}
use Rattle.mako_model.specs.declared.attempt.Pause.TheVariants.{Shut, Busy, Moving as BeingMoved, Barrier}
use Rattle.mako_model.specs.declared.attempt.Pause.TheVariants.{Cycle as NotYet}
use Rattle.mako_record.specs.Regions.{is_in_region}
use Rattle.mako_record.specs.Copying as copying
use Rattle.mako_record.specs.Copying.{Copying, opening_copy}
use Rattle.mako_record.specs.declared.copier.CopyStage.{CopyStage}
use Rattle.mako_record.specs.declared.copier.CopyStage.TheVariants.{LoadingTop, LoadingHeader as CopyHeader}
use Rattle.mako_record.specs.declared.copier.CopyStage.TheVariants.{StoringHeader, LoadingField as CopyField}
use Rattle.mako_record.specs.declared.copier.CopyStage.TheVariants.{StoringField as CopiedField, StoringEntry}
use Rattle.mako_record.specs.declared.copier.CopyStage.TheVariants.{RaisingTop, Ended as Copied}
use Rattle.mako_alloc.specs.Allocating as allocating
use Rattle.mako_alloc.specs.Allocating.{Allocation}
use Rattle.mako_alloc.specs.declared.job.Job.{Job}
use Rattle.mako_alloc.specs.declared.progress.Progress.{Progress}
use Rattle.mako_alloc.specs.declared.progress.NewRecord.{NewRecord}
use Rattle.mako_alloc.specs.declared.progress.Part.TheVariants.{Header, Field, Top, Entry}
use Rattle.mako_alloc.specs.declared.progress.NewStage.{NewStage}
use Rattle.mako_alloc.specs.declared.progress.NewStage.TheVariants.{Arriving as NewArriving}
use Rattle.mako_alloc.specs.declared.progress.NewStage.TheVariants.{TurnedAway as NewTurnedAway}
use Rattle.mako_alloc.specs.declared.progress.NewStage.TheVariants.{TakingTurn as NewTakingTurn, LoadingLeaving}
use Rattle.mako_alloc.specs.declared.progress.NewStage.TheVariants.{LoadingTop as NewTop, LoadingEntry as NewEntry}
use Rattle.mako_alloc.specs.declared.progress.NewStage.TheVariants.{LoadingHome as NewHome, Making}
use Rattle.mako_alloc.specs.declared.progress.NewStage.TheVariants.{GivingTurn as NewGivingTurn, Leaving as NewLeaving}
use Rattle.mako_alloc.specs.declared.progress.NewStage.TheVariants.{Ended as NewEnded}
use Rattle.mako_call.specs.declared.caller.Caller.{Caller}
use Rattle.mako_call.specs.declared.object.Get.{Get as GetArgs}
use Rattle.mako_call.specs.declared.object.Put.{Put as PutArgs}
use Rattle.mako_call.specs.declared.object.Access.{Access}
use Rattle.mako_call.specs.declared.object.Access.TheVariants.{Get as Gets, Put as Puts}
use Rattle.mako_call.specs.declared.object.Errand.{Errand}
use Rattle.mako_call.specs.declared.object.Located.{Located}
use Rattle.mako_call.specs.declared.call_stage.CallStage.{CallStage}
use Rattle.mako_call.specs.declared.call_stage.CallStage.TheVariants.{Arriving, Rooting, Entering, Moving, Getting}
use Rattle.mako_call.specs.declared.call_stage.CallStage.TheVariants.{Putting, Allocating, Asking, Leaving, Ended}
use Rattle.mako_call.specs.declared.rooting.RootStage.{RootStage}
use Rattle.mako_call.specs.declared.rooting.RootStage.TheVariants.{StoringNumber, StoringNull, LoadingCopied}
use Rattle.mako_call.specs.declared.rooting.RootStage.TheVariants.{StoringCopied, LoadingShown, LoadingSource}
use Rattle.mako_call.specs.declared.rooting.RootStage.TheVariants.{LoadingTarget, LoadingValue, LoadingPhase}
use Rattle.mako_call.specs.declared.entering.EnterStage.{EnterStage}
use Rattle.mako_call.specs.declared.entering.EnterStage.TheVariants.{Arriving as EnterArriving, LoadingEntry}
use Rattle.mako_call.specs.declared.entering.EnterStage.TheVariants.{LoadingHome}
use Rattle.mako_call.specs.declared.moving.MoveStage.{MoveStage}
use Rattle.mako_call.specs.declared.moving.MoveStage.TheVariants.{TakingTurn, LoadingEntry as LoadingAgain}
use Rattle.mako_call.specs.declared.moving.MoveStage.TheVariants.{Copying as Copies, GivingTurn}
use Rattle.mako_call.specs.declared.getting.GetStage.{GetStage}
use Rattle.mako_call.specs.declared.getting.GetStage.TheVariants.{LoadingHeader as GetHeader, LoadingField as GetField}
use Rattle.mako_call.specs.declared.getting.GetStage.TheVariants.{StoringRoot as StoringGot}
use Rattle.mako_call.specs.declared.putting.PutStage.{PutStage}
use Rattle.mako_call.specs.declared.putting.PutStage.TheVariants.{LoadingHeader as PutHeader, LoadingOld}
use Rattle.mako_call.specs.declared.putting.PutStage.TheVariants.{LookingAtBarrier, StoringBarrier, StoringField}
use Rattle.mako_call.specs.declared.allocating.AllocStage.{AllocStage}
use Rattle.mako_call.specs.declared.allocating.AllocStage.TheVariants.{LoadingPhase as NewPhase, Searching, StoringRoot}
use Rattle.mako_call.specs.declared.allocating.AllocStage.TheVariants.{GivingTurn as MadeGivingTurn}
use Rattle.mako_call.specs.declared.asking.AskStage.{AskStage}
use Rattle.mako_call.specs.declared.asking.AskStage.TheVariants.{LoadingPhase as AskPhase, RaisingDemand, Awaiting}
use Rattle.mako_call.specs.declared.leaving.LeaveStage.{LeaveStage}
use Rattle.mako_call.specs.declared.leaving.LeaveStage.TheVariants.{Refused, TurnedAway, FromTablet, FromOwn}
use Rattle.mako_call.specs.Agreeing.{RootStageOf, AccessOf, AllocStageOf, LeaveStageOf, IsCollect, StageOf}
use Rattle.mako_call.specs.Objects.{tablet_of, at_record, at_object}
use Rattle.mako_call.specs.Rooting.{source_fed, target_fed, root_next, root_fed}
use Rattle.mako_call.specs.Entering.{enter_fed}
use Rattle.mako_call.specs.Moving.{copy_fed, giving_turn, move_fed}
use Rattle.mako_call.specs.Getting.{get_next, get_fed}
use Rattle.mako_call.specs.Putting.{before_store, put_next, put_fed}
use Rattle.mako_call.specs.Allocating.{found_fed, search_fed, new_next, new_fed, NewIsKnown}
use Rattle.mako_call.specs.Asking.{finished_cycles, ask_next, ask_fed}
use Rattle.mako_call.specs.Leaving.{leaving_tablet, answered_at, outcome_of, leave_next, leave_fed}
use Rattle.mako_call.specs.Calls.{stage_next, admitted, arrived, stage_fed, fed, reply_of, decided, event_by}
use Rattle.mako_call.specs.Calls.{StageIsKnown}
use Rattle.mako_call.specs.Deciding.{stores, born, IsNoRef, Decides, number, null, copied, shown, no_source, no_target}
use Rattle.mako_call.specs.Deciding.{no_field_got, no_field_put, got, put, made, full, spent, finished}
use Rattle.mako_call.specs.Deciding.{PointsAreDecided}

-- the step decides the call with this reply
abbrev pub IsDeciding : Caller → Call → Step → ℕ → Reply → Type 0
IsDeciding k call step w reply = (act : Act) → step ≡ Do act → Decides k call act w reply

pub along : (k : Caller) (c d : Call) (a : Act) (w : ℕ) (r q : Reply) → c ≡ d → Some r ≡ Some q → Decides k c a w r
    → IsDeciding k d (Do a) w q
along k c d a w r q calls replies decides act acts =
    let same : a ≡ act = cc in
    let Of : Call → Type 0 = λ x. Decides k x act w q in
    let By : Act → Type 0 = λ x. Decides k c x w q in
    let With : Reply → Type 0 = λ x. Decides k c a w x in
    subst Of calls (subst By same (subst With (same_Some r q replies) decides))

source_decides : (k : Caller) (to from field w : ℕ) (v : Value) (reply : Reply) → value_at w ≡ v
    → decided (source_fed to field v) ≡ Some reply
    → IsDeciding k (Get to from field) (root_next k (LoadingSource to from field)) w reply
source_decides k to from field w Null reply at is =
    along k _ _ _ w NoRef reply refl is (no_source to from field w (subst IsNoRef (sym at) tt))
source_decides k to from field w (NumValue x) reply at is =
    along k _ _ _ w NoRef reply refl is (no_source to from field w (subst IsNoRef (sym at) tt))
source_decides k to from field w (Ref name) reply at is = absurd (none-some reply is)

target_decides : (k : Caller) (to field from w : ℕ) (v : Value) (reply : Reply) → value_at w ≡ v
    → decided (target_fed field from v) ≡ Some reply
    → IsDeciding k (Put to field from) (root_next k (LoadingTarget to field from)) w reply
target_decides k to field from w Null reply at is =
    along k _ _ _ w NoRef reply refl is (no_target to field from w (subst IsNoRef (sym at) tt))
target_decides k to field from w (NumValue x) reply at is =
    along k _ _ _ w NoRef reply refl is (no_target to field from w (subst IsNoRef (sym at) tt))
target_decides k to field from w (Ref name) reply at is = absurd (none-some reply is)

pub root_decides : (k : Caller) (call : Call) (s : RootStage) (w : ℕ) (reply : Reply) → RootStageOf call s
    → decided (root_fed s w) ≡ Some reply → IsDeciding k call (root_next k s) w reply
root_decides k (Num root x) (StoringNumber r y) w reply of is = let same : Num r y ≡ Num root x = cc in
    along k _ _ _ w _ reply same is (number r y w)
root_decides k (DropRoot root) (StoringNull r) w reply of is = along k _ _ _ w _ reply (ap DropRoot of) is (null r w)
root_decides k (CopyRoot to from) (LoadingCopied r q) w reply of is = absurd (none-some reply is)
root_decides k (CopyRoot to from) (StoringCopied r value) w reply of is =
    along k _ _ _ w _ reply (ap (λ x. CopyRoot x from) of) is (copied r from w value)
root_decides k (Show root) (LoadingShown r) w reply of is = along k _ _ _ w _ reply (ap Show of) is (shown r w)
root_decides k (Get to from field) (LoadingSource r q i) w reply of is =
    let same : Get r q i ≡ Get to from field = cc in
    let P : Call → Type 0 = λ c. IsDeciding k c (root_next k (LoadingSource r q i)) w reply in
    subst P same (source_decides k r q i w (value_at w) reply refl is)
root_decides k (Put to field from) (LoadingTarget r i q) w reply of is =
    let same : Put r i q ≡ Put to field from = cc in
    let P : Call → Type 0 = λ c. IsDeciding k c (root_next k (LoadingTarget r i q)) w reply in
    subst P same (target_decides k r i q w (value_at w) reply refl is)
root_decides k (Put to field from) (LoadingValue object i q) w reply of is = absurd (none-some reply is)
root_decides k (Put to field from) (LoadingPhase object i value) w reply of is = absurd (none-some reply is)
root_decides k _ _ w reply of is = absurd of

-- on the way to a record nothing is decided
at_open : (at : Located) (access : Access) → decided (at_record at access) ≡ None
at_open at (Gets arg) = refl
at_open at (Puts arg) = refl

pub enter_open : (n : Numbers) (e : Errand) (s : EnterStage) (w : ℕ) → decided (enter_fed n e s w) ≡ None
enter_open n e EnterArriving w =
    by_bool (λ b. decided (if b then Leaving (TurnedAway (tablet_of n e.object) w) else Entering e LoadingEntry) ≡ None)
    (is_shut w) (λ _. refl) (λ _. refl)
enter_open n e LoadingEntry w = refl
enter_open n e (LoadingHome found) w =
    by_bool (λ b. decided (if b then at_object e found.address else Moving e (TakingTurn w)) ≡ None)
    (is_in_region n w found.address)
    (λ _. at_open (record { object = e.object; address = found.address }) e.access) (λ _. refl)

copy_open : (e : Errand) (c : Copying) (s : CopyStage) → decided (copy_fed e c s) ≡ None
copy_open e c LoadingTop = refl
copy_open e c (CopyHeader offset) = refl
copy_open e c (StoringHeader offset fields) = refl
copy_open e c (CopyField offset fields field) = refl
copy_open e c (CopiedField offset fields field word) = refl
copy_open e c (StoringEntry offset fields) = refl
copy_open e c (RaisingTop offset fields) = refl
copy_open e c (Copied address) = refl

pub move_open : (n : Numbers) (e : Errand) (s : MoveStage) (w : ℕ) → decided (move_fed n e s w) ≡ None
move_open n e (TakingTurn home) w =
    by_bool (λ b. decided
    (if b then Moving e (LoadingAgain home) else leaving_tablet (tablet_of n e.object)
    (Paused (Busy (tablet_of n e.object) w))) ≡ None) (w == 0) (λ _. refl) (λ _. refl)
move_open n e (LoadingAgain home) w =
    by_bool (λ b. decided
    (if b then giving_turn e (entry_at w).address else Moving e
    (Copies (opening_copy n e.object.entry (entry_at w) home))) ≡ None) (is_in_region n home (entry_at w).address)
    (λ _. refl) (λ _. refl)
move_open n e (Copies copier) w = copy_open e (copying.fed copier w) (copying.fed copier w).stage
move_open n e (GivingTurn address) w = at_open (record { object = e.object; address = address }) e.access

pub get_decides : (k : Caller) (call : Call) (at : Located) (get : GetArgs) (s : GetStage) (w : ℕ) (reply : Reply)
    → AccessOf call (Gets get) → decided (Getting at get s) ≡ None →
    decided (get_fed k.shape at get s w) ≡ Some reply → IsDeciding k call (get_next k at get s) w reply
get_decides k (Get to from field) at get GetHeader w reply of none is =
    by_lt (λ b. decided (if b then Getting at get GetField else answered_at
    (tablet_of k.shape at.object) NoField) ≡ Some reply
    → IsDeciding k (Get to from field) (get_next k at get GetHeader) w reply) get.field w
    (λ _ e. absurd (none-some reply e))
    (λ h e. along k _ _ _ w NoField reply (let same : Get get.to from get.field ≡ Get to from field = cc in
    same) e (no_field_got get.to from get.field at.address w h))
    is
get_decides k (Get to from field) at get GetField w reply of none is =
    along k _ _ _ w _ reply (let same : Get get.to from get.field ≡ Get to from field = cc in
    same) is (got get.to from get.field at.address w)
get_decides k call at get (StoringGot value) w reply of none is = absurd (none-some (Told value) (sym none))
get_decides k _ at get GetHeader w reply of none is = absurd of
get_decides k _ at get GetField w reply of none is = absurd of

pub put_decides : (k : Caller) (call : Call) (slot : ℕ) (at : Located) (arg : PutArgs) (s : PutStage) (w : ℕ)
    (reply : Reply) → AccessOf call (Puts arg) →
    decided (put_fed k.shape slot at arg s w) ≡ Some reply → IsDeciding k call (put_next k slot at arg s) w reply
put_decides k (Put to field from) slot at arg PutHeader w reply of is =
    by_lt (λ b. decided (if b then Putting at arg (before_store arg.phase) else answered_at
    (tablet_of k.shape at.object) NoField) ≡ Some reply
    → IsDeciding k (Put to field from) (put_next k slot at arg PutHeader) w reply) arg.field w
    (λ _ e. absurd (none-some reply e))
    (λ h e. along k _ _ _ w NoField reply (ap (λ i. Put to i from) of) e
    (no_field_put to arg.field from at.address w h))
    is
put_decides k (Put to field from) slot at arg StoringField w reply of is =
    along k _ _ _ w Done reply (ap (λ i. Put to i from) of) is (put to arg.field from at.address w arg.value)
put_decides k (Put to field from) slot at arg LoadingOld w reply of is = absurd (none-some reply is)
put_decides k (Put to field from) slot at arg (LookingAtBarrier old) w reply of is =
    by_bool (λ b. decided
    (if b then Putting at arg (StoringBarrier old) else leaving_tablet (tablet_of k.shape at.object)
    (Paused (Barrier slot w))) ≡ Some reply
    → IsDeciding k (Put to field from) (put_next k slot at arg (LookingAtBarrier old)) w reply) (w == 0)
    (λ _ e. absurd (none-some reply e)) (λ _ e. absurd (none-some reply e)) is
put_decides k (Put to field from) slot at arg (StoringBarrier old) w reply of is = absurd (none-some reply is)
put_decides k _ slot at arg _ w reply of is = absurd of

pub ask_decides : (k : Caller) (call : Call) (s : AskStage) (w : ℕ) (reply : Reply) → IsCollect call
    → decided (ask_fed k.shape s w) ≡ Some reply → IsDeciding k call (ask_next k.shape s) w reply
ask_decides k Collect AskPhase w reply of is =
    by_eq (λ b. decided (if b then Ended (Answer Spent) else Asking (RaisingDemand (cycle_of (phase_at w) + 1))) ≡ Some
    reply → IsDeciding k Collect (ask_next k.shape AskPhase) w reply) (cycle_of (phase_at w)) k.shape.cycles
    (λ h e. along k _ _ _ w Spent reply refl e (spent w h)) (λ _ e. absurd (none-some reply e)) is
ask_decides k Collect (RaisingDemand cycle) w reply of is = absurd (none-some reply is)
ask_decides k Collect (Awaiting cycle) w reply of is =
    by_le (λ b. decided (if b then Ended (Answer (CycleReply cycle)) else Ended (Paused (NotYet cycle w))) ≡ Some reply
    → IsDeciding k Collect (ask_next k.shape (Awaiting cycle)) w reply) cycle (finished_cycles (phase_at w))
    (λ h e. along k _ _ _ w (CycleReply cycle) reply refl e (finished cycle w h)) (λ _ e. absurd (none-some reply e)) is
ask_decides k _ s w reply of is = absurd of

-- without room the last attempt is answered with its last step
own_decides : (k : Caller) (call : Call) (last : Bool) (o : Attempt) (w : ℕ) (reply : Reply)
    → LeaveStageOf call (FromOwn o) → reply_of o ≡ None → reply_of (outcome_of last o) ≡ Some reply →
    IsDeciding k call (leave_next k (FromOwn o)) w reply
own_decides k (New to fields) true Full w reply of none is = along k _ _ _ w NoRoom reply refl is (full to fields w)
own_decides k _ true Full w reply of none is = absurd of
own_decides k call false Full w reply of none is = absurd (none-some reply is)
own_decides k call last (Answer r) w reply of none is = absurd (none-some r (sym none))
own_decides k call last (Paused pause) w reply of none is = absurd (none-some reply is)

pub leave_decides : (k : Caller) (call : Call) (last : Bool) (s : LeaveStage) (w : ℕ) (reply : Reply)
    → LeaveStageOf call s → decided (Leaving s) ≡ None → decided (leave_fed last s) ≡ Some reply →
    IsDeciding k call (leave_next k s) w reply
leave_decides k call last (Refused word) w reply of none is = absurd (none-some reply is)
leave_decides k call last (TurnedAway tablet word) w reply of none is = absurd (none-some reply is)
leave_decides k call last (FromTablet tablet o) w reply of none is = absurd (none-some reply (sym none ∙ is))
leave_decides k call last (FromOwn o) w reply of none is = own_decides k call last o w reply of none is

-- a search that has come to nothing decides nothing
nothing_open : (root : ℕ) (note : Option Reason) → decided (found_fed root (allocating.outcome note)) ≡ None
nothing_open root None = refl
nothing_open root (Some reason) = refl

-- the reply that stands where the search has this progress
abbrev search_decided : ℕ → Job → Progress → Option Reply
search_decided root job p = decided (search_fed root (record { job = job; progress = p }) p.stage)

passed_open : (root : ℕ) (job : Job) (p : Progress) → search_decided root job (allocating.passed_on job p) ≡ None
passed_open root job p =
    by_lt (λ b. search_decided root job (if b then record {
      passed = p.passed + 1;
      note = p.note;
      stage = NewArriving;
    } else allocating.at p (NewEnded (allocating.outcome p.note))) ≡ None)
    (p.passed + 1) (allocating.all_tablets job.shape) (λ _. refl) (λ _. nothing_open root p.note)

seeking_open : (root : ℕ) (job : Job) (p : Progress) (kept place : ℕ)
    → search_decided root job (allocating.at p (allocating.seeking job kept place)) ≡ None
seeking_open root job p kept place =
    by_lt (λ b. search_decided root job (allocating.at p (if b then NewEntry kept place else NewGivingTurn)) ≡ None)
    place job.shape.entries (λ _. refl) (λ _. refl)

entry_open : (root : ℕ) (job : Job) (p : Progress) (t kept place : ℕ) (o : Option ℕ)
    → search_decided root job (allocating.at p (allocating.entry_fed job t kept place o)) ≡ None
entry_open root job p t kept place None = seeking_open root job p kept (place + 1)
entry_open root job p t kept place (Some generation) = refl

field_open : (root : ℕ) (job : Job) (p : Progress) (r : NewRecord) (i : ℕ)
    → search_decided root job (allocating.at p (Making r (allocating.field_or_top job i))) ≡ None
field_open root job p r i =
    by_lt (λ b. search_decided root job (allocating.at p (Making r (if b then Field i else Top))) ≡ None) i job.fields
    (λ _. refl) (λ _. refl)

made_by : (k : Caller) (to fields epoch address w : ℕ) (name : Name)
    → Decides k (New to fields) (stores k.shape (entry name.entry) (born name epoch address)) w (MadeReply name)
made_by k to fields epoch address w name = made to fields epoch address w name

no_step : (act : Act) → NoStep ≡ Do act → ⊥
no_step act e = cc

-- the store of the entry decides, and no other step of a search
search_decides : (k : Caller) (call : Call) (root : ℕ) (job : Job) (t : ℕ) (p : Progress) (s : NewStage) (w : ℕ)
    (reply : Reply) → k.shape ≡ job.shape → AllocStageOf call (NewPhase root job.fields) →
    search_decided root job (allocating.stage_fed job t p s w) ≡ Some reply
    → IsDeciding k call (allocating.stage_next job t s) w reply
search_decides k call root job t p NewArriving w reply same of is =
    by_bool (λ b. search_decided root job
    (if b then allocating.noted p (Shut t w) NewTurnedAway else allocating.at p NewTakingTurn) ≡ Some reply
    → IsDeciding k call (allocating.stage_next job t NewArriving) w reply) (is_shut w)
    (λ _ e. absurd (none-some reply e)) (λ _ e. absurd (none-some reply e)) is
search_decides k call root job t p NewTurnedAway w reply same of is =
    absurd (none-some reply (sym (passed_open root job p) ∙ is))
search_decides k call root job t p NewTakingTurn w reply same of is =
    by_bool (λ b. search_decided root job
    (if b then allocating.at p LoadingLeaving else allocating.noted p (Busy t w) NewLeaving) ≡ Some reply
    → IsDeciding k call (allocating.stage_next job t NewTakingTurn) w reply) (w == 0)
    (λ _ e. absurd (none-some reply e)) (λ _ e. absurd (none-some reply e)) is
search_decides k call root job t p LoadingLeaving w reply same of is =
    by_bool (λ b. search_decided root job
    (if b then allocating.at p NewTop else allocating.noted p (BeingMoved t w) NewGivingTurn) ≡ Some reply
    → IsDeciding k call (allocating.stage_next job t LoadingLeaving) w reply) (w == 0)
    (λ _ e. absurd (none-some reply e)) (λ _ e. absurd (none-some reply e)) is
search_decides k call root job t p NewTop w reply same of is =
    by_le (λ b. search_decided root job
    (allocating.at p (if b then allocating.seeking job w 0 else NewGivingTurn)) ≡ Some reply
    → IsDeciding k call (allocating.stage_next job t NewTop) w reply) (w + job.fields + 1) job.shape.words
    (λ _ e. absurd (none-some reply (sym (seeking_open root job p w 0) ∙ e))) (λ _ e. absurd (none-some reply e)) is
search_decides k call root job t p (NewEntry kept place) w reply same of is =
    absurd (none-some reply
    (sym (entry_open root job p t kept place (allocating.free_generation job.shape.generations w)) ∙ is))
search_decides k call root job t p (NewHome kept name) w reply same of is = absurd (none-some reply is)
search_decides k call root job t p (Making r Header) w reply same of is =
    absurd (none-some reply (sym (field_open root job p r 0) ∙ is))
search_decides k call root job t p (Making r (Field i)) w reply same of is =
    absurd (none-some reply (sym (field_open root job p r (i + 1)) ∙ is))
search_decides k call root job t p (Making r Top) w reply same of is = absurd (none-some reply is)
search_decides k (New to fields) root job t p (Making r Entry) w reply same of is =
    let P : Numbers → Type 0 =
    λ n. IsDeciding k (New to fields)
    (does (index n (entry r.name.entry)) (Store (allocating.published job r))) w reply in
    subst P same (along k _ _ _ w (MadeReply r.name) reply refl is
    (made_by k to fields job.cycle (allocating.record_word job.shape r 0) w r.name))
search_decides k _ root job t p (Making r Entry) w reply same of is = absurd of
search_decides k call root job t p NewGivingTurn w reply same of is = absurd (none-some reply is)
search_decides k call root job t p NewLeaving w reply same of is =
    absurd (none-some reply (sym (passed_open root job p) ∙ is))
search_decides k call root job t p (NewEnded found) w reply same of is = λ act e. absurd (no_step act e)

new_decides : (k : Caller) (call : Call) (s : AllocStage) (w : ℕ) (reply : Reply) → NewIsKnown k s → AllocStageOf call s
    → decided (Allocating s) ≡ None → decided (new_fed k s w) ≡ Some reply →
    IsDeciding k call (new_next k s) w reply
new_decides k call (NewPhase root fields) w reply known of none is = absurd (none-some reply is)
new_decides k (New to fields) (Searching root search) w reply known of none is =
    search_decides k (New to fields) root search.job
    (allocating.tablet_at search.job search.progress.passed) search.progress search.progress.stage w reply
    (sym known.3) of is
new_decides k _ (Searching root search) w reply known of none is = absurd of
new_decides k call (StoringRoot root name tablet) w reply known of none is =
    absurd (none-some (MadeReply name) (sym none))
new_decides k call (MadeGivingTurn name tablet) w reply known of none is =
    absurd (none-some (MadeReply name) (sym none))

admitted_open : (call : Call) → decided (admitted call) ≡ None
admitted_open (New root fields) = refl
admitted_open (Num root x) = refl
admitted_open (CopyRoot to from) = refl
admitted_open (DropRoot root) = refl
admitted_open (Get to from field) = refl
admitted_open (Put to field from) = refl
admitted_open (Show root) = refl
admitted_open Collect = refl

nothing_answered : (point : Point) → Nothing ≡ Answered point → ⊥
nothing_answered point e = cc

same_point : (a b : Point) → Answered a ≡ Answered b → a ≡ b
same_point a b e = cc

-- a step from an undecided stage to a decided one decides
stage_decides : (k : Caller) (call : Call) (last : Bool) (slot : ℕ) (s : CallStage) (w : ℕ) (reply : Reply)
    → StageIsKnown k s → StageOf k.shape call s → decided s ≡ None →
    decided (stage_fed k call last slot s w) ≡ Some reply → IsDeciding k call (stage_next k slot s) w reply
stage_decides k call last slot Arriving w reply known of none is =
    by_bool (λ b. decided (arrived call w b) ≡ Some reply
    → IsDeciding k call (stage_next k slot Arriving) w reply) (is_shut w)
    (λ _ e. absurd (none-some reply e)) (λ _ e. absurd (none-some reply (sym (admitted_open call) ∙ e))) is
stage_decides k call last slot (Rooting s) w reply known of none is = root_decides k call s w reply of is
stage_decides k call last slot (Entering e s) w reply known of none is =
    absurd (none-some reply (sym (enter_open k.shape e s w) ∙ is))
stage_decides k call last slot (Moving e s) w reply known of none is =
    absurd (none-some reply (sym (move_open k.shape e s w) ∙ is))
stage_decides k call last slot (Getting at arg s) w reply known of none is =
    get_decides k call at arg s w reply of none is
stage_decides k call last slot (Putting at arg s) w reply known of none is =
    put_decides k call slot at arg s w reply of is
stage_decides k call last slot (Allocating s) w reply known of none is = new_decides k call s w reply known of none is
stage_decides k call last slot (Asking s) w reply known of none is = ask_decides k call s w reply of is
stage_decides k call last slot (Leaving s) w reply known of none is = leave_decides k call last s w reply of none is
stage_decides k call last slot (Ended outcome) w reply known of none is = absurd (none-some reply (sym none ∙ is))

-- an event that answers comes of a reply that was not there before
answered_by : (m : ℕ) (call : Call) (before now : Option Reply) (point : Point)
    → event_by m call before now ≡ Answered point →
    (before ≡ None) × ((reply : Reply) × (now ≡ Some reply) × (point ≡ Did m call reply))
answered_by m call None None point is = absurd (let no_event : Nothing ≡ Answered point = is in
    nothing_answered point no_event)
answered_by m call None (Some reply) point is = (
  refl,
  (
    reply,
    refl,
    (let same : Answered (Did m call reply) ≡ Answered point = is in
        sym (same_point (Did m call reply) point same)),
  ),
)
answered_by m call (Some earlier) now point is = absurd (nothing_answered point is)

pub points_decided : PointsAreDecided
points_decided v act w point known acts is =
    let a = answered_by v.caller.mutator v.call (decided v.stage) (decided (fed v w).stage) point is in (
      a.1.0,
      a.1.2,
      stage_decides v.caller v.call v.last v.slot v.stage w a.1.0 known.stage known.agrees a.0 a.1.1 act
          acts,
    )
