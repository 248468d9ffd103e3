-- Each step of an attempt keeps its numbers in range and its stage one of the call, and lowers its rank.
use Rattle.std.proofs.Common.{◌≡◌, ℕ, Bool, true, false, ◌+◌, ◌<◌, if◌then◌else◌, ap, ◌∙◌, refl, arith, sym}
use Rattle.mako_words.specs.Gates.{is_shut}
use Rattle.mako_step.specs.Machines.{IsAct}
use Rattle.mako_step.proofs.Cases.{by_eq}
use Rattle.mako_model.specs.declared.call.Call.{Call}
use Rattle.mako_model.specs.declared.call.Call.TheVariants.{New, Num, CopyRoot, DropRoot, Get, Put, Show, Collect}
use Rattle.mako_call.specs.declared.caller.Caller.{Caller}
use Rattle.mako_call.specs.declared.call_stage.CallStage.{CallStage}
use Rattle.mako_call.specs.declared.call_stage.CallStage.TheVariants.{Arriving, Rooting, Entering, Moving, Getting}
use Rattle.mako_call.specs.declared.call_stage.CallStage.TheVariants.{Putting, Allocating, Asking, Leaving, Ended}
use Rattle.mako_call.specs.declared.allocating.AllocStage.{AllocStage}
use Rattle.mako_call.specs.declared.putting.PutStage.{PutStage}
use Rattle.mako_call.specs.declared.putting.PutStage.TheVariants.{LoadingHeader, LoadingOld, LookingAtBarrier}
use Rattle.mako_call.specs.declared.putting.PutStage.TheVariants.{StoringBarrier, StoringField}
use Rattle.mako_call.specs.Callers.{IsCaller, CallFits}
use Rattle.mako_call.specs.Agreeing.{Arrives, AllocStageOf, StageOf}
use Rattle.mako_call.specs.Allocating.{new_fed, new_rank, NewFits, NewIsKnown}
use Rattle.mako_call.specs.Putting.{next_slot, slot_fed}
use Rattle.mako_call.specs.Calls.{Calling, stage_next, next_of, admitted, arrived, stage_fed, slot_after, fed}
use Rattle.mako_call.specs.Calls.{StageFits, Fits, stage_rank, rank, StageIsKnown, IsKnown}
use Rattle.mako_call.proofs.Going.{GoesOn, one_more}
use Rattle.mako_call.proofs.GroupGoing.{root_goes, enter_goes, move_goes, get_goes, put_goes, new_goes, ask_goes}
use Rattle.mako_call.proofs.GroupGoing.{leave_goes}

-- a call that is admitted
admitted_goes : (k : Caller) (call : Call) → CallFits k.shape call → Arrives call
    → GoesOn k call (stage_rank k.shape Arriving) (admitted call)
admitted_goes k (New root fields) fits arrives = record { known = fits; agrees = (refl, refl); lower = omega arith }
admitted_goes k (Num root number) fits arrives = record { known = fits; agrees = (refl, refl); lower = omega arith }
admitted_goes k (CopyRoot to from) fits arrives = record { known = fits; agrees = (refl, refl); lower = omega arith }
admitted_goes k (DropRoot root) fits arrives = record { known = fits; agrees = refl; lower = omega arith }
admitted_goes k (Get to from field) fits arrives = record {
  known = fits;
  agrees = (refl, refl, refl);
  lower = omega arith;
}
admitted_goes k (Put to field from) fits arrives = record {
  known = fits;
  agrees = (refl, refl, refl);
  lower = omega arith;
}
admitted_goes k (Show root) fits arrives = record { known = fits; agrees = refl; lower = omega arith }
admitted_goes k Collect fits arrives = absurd arrives

arrives_goes : (k : Caller) (call : Call) (w : ℕ) (shut : Bool) → CallFits k.shape call → Arrives call
    → GoesOn k call (stage_rank k.shape Arriving) (arrived call w shut)
arrives_goes k call w true fits arrives = record { known = tt; agrees = arrives; lower = omega arith }
arrives_goes k call w false fits arrives = admitted_goes k call fits arrives

-- a new at its stages
alloc_goes : (k : Caller) (call : Call) (s : AllocStage) (w : ℕ) → IsCaller k → NewIsKnown k s → AllocStageOf call s
    → NewFits k.shape s w → GoesOn k call (new_rank k.shape s) (new_fed k s w)
alloc_goes k (New root fields) s w caller known agrees fits = new_goes k root fields s w caller known agrees fits
alloc_goes k (Num root number) s w caller known agrees fits = absurd agrees
alloc_goes k (CopyRoot to from) s w caller known agrees fits = absurd agrees
alloc_goes k (DropRoot root) s w caller known agrees fits = absurd agrees
alloc_goes k (Get to from field) s w caller known agrees fits = absurd agrees
alloc_goes k (Put to field from) s w caller known agrees fits = absurd agrees
alloc_goes k (Show root) s w caller known agrees fits = absurd agrees
alloc_goes k Collect s w caller known agrees fits = absurd agrees

stage_goes : (k : Caller) (call : Call) (last : Bool) (slot : ℕ) (s : CallStage) (w : ℕ) → IsCaller k
    → CallFits k.shape call → StageIsKnown k s → StageOf k.shape call s → StageFits k.shape s w →
    IsAct (stage_next k slot s) → GoesOn k call (stage_rank k.shape s) (stage_fed k call last slot s w)
stage_goes k call last slot Arriving w caller small known agrees fits acts =
    arrives_goes k call w (is_shut w) small agrees
stage_goes k call last slot (Rooting s) w caller small known agrees fits acts = root_goes k call s w known agrees fits
stage_goes k call last slot (Entering e s) w caller small known agrees fits acts =
    enter_goes k call e s w known.0 known.1 agrees fits
stage_goes k call last slot (Moving e s) w caller small known agrees fits acts =
    move_goes k call e s w caller known.0 known.1 agrees fits
stage_goes k call last slot (Getting at get s) w caller small known agrees fits acts =
    get_goes k call at get s w known.0 known.1 agrees fits
stage_goes k call last slot (Putting at put s) w caller small known agrees fits acts =
    put_goes k call slot at put s w known.0 known.1 agrees fits
stage_goes k call last slot (Allocating s) w caller small known agrees fits acts =
    alloc_goes k call s w caller known agrees fits
stage_goes k call last slot (Asking s) w caller small known agrees fits acts = ask_goes k call s w known agrees fits
stage_goes k call last slot (Leaving s) w caller small known agrees fits acts = leave_goes k call last s known agrees
stage_goes k call last slot (Ended outcome) w caller small known agrees fits acts = absurd acts

pub call_goes : (v : Calling) (w : ℕ) → IsKnown v → Fits v w → IsAct (next_of v)
    → GoesOn v.caller v.call (rank v) (fed v w).stage
call_goes v w known fits acts =
    stage_goes v.caller v.call v.last v.slot v.stage w known.caller known.call known.stage known.agrees fits acts

-- a slot stays one of the ring
next_slot_below : (size slot : ℕ) → slot < size → next_slot size slot < size
next_slot_below size slot h =
    by_eq (λ b. (if b then 0 else slot + 1) < size) (slot + 1) size (λ _. omega (arith, h))
    (λ d. one_more slot size h d)

slot_below : (size slot : ℕ) (s : PutStage) → slot < size → slot_fed size slot s < size
slot_below size slot LoadingHeader h = h
slot_below size slot LoadingOld h = h
slot_below size slot (LookingAtBarrier old) h = h
slot_below size slot (StoringBarrier old) h = next_slot_below size slot h
slot_below size slot StoringField h = h

slot_known : (k : Caller) (slot : ℕ) (s : CallStage) → slot < k.shape.ring → slot_after k.shape slot s < k.shape.ring
slot_known k slot Arriving h = h
slot_known k slot (Rooting s) h = h
slot_known k slot (Entering e s) h = h
slot_known k slot (Moving e s) h = h
slot_known k slot (Getting at get s) h = h
slot_known k slot (Putting at put s) h = slot_below k.shape.ring slot s h
slot_known k slot (Allocating s) h = h
slot_known k slot (Asking s) h = h
slot_known k slot (Leaving s) h = h
slot_known k slot (Ended outcome) h = h

-- the attempt after a step is known
pub call_known : (v : Calling) (w : ℕ) → IsKnown v → Fits v w → IsAct (next_of v) → IsKnown (fed v w)
call_known v w known fits acts = let on = call_goes v w known fits acts in record {
  caller = known.caller;
  call = known.call;
  slot = slot_known v.caller v.slot v.stage known.slot;
  stage = on.known;
  agrees = on.agrees;
}

-- what the code puts together is the attempt after the step
pub put_together : (o v : Calling) (w slot : ℕ) (at stage : CallStage) → o ≡ v → v.stage ≡ at
    → slot ≡ slot_after v.caller.shape v.slot at → stage ≡ stage_fed o.caller o.call o.last o.slot at w →
    record { caller = o.caller; call = o.call; last = o.last; slot = slot; stage = stage } ≡ fed v w
put_together o v w slot at stage same own slot_is stage_is =
    let stands : ℕ → CallStage → Calling = λ n s. record {
      caller = o.caller;
      call = o.call;
      last = o.last;
      slot = n;
      stage = s;
    } in
    let own_is : o.stage ≡ at = ap (λ (q : Calling). q.stage) same ∙ own in
    let by_stage : CallStage
    → Calling = λ s. stands (slot_after o.caller.shape o.slot s) (stage_fed o.caller o.call o.last o.slot s w) in
    ap (λ n. stands n stage) (slot_is ∙ ap (λ (q : Calling). slot_after q.caller.shape q.slot at) (sym same))
    ∙ (ap (stands (slot_after o.caller.shape o.slot at)) stage_is
    ∙ (ap by_stage (sym own_is) ∙ ap (λ (q : Calling). fed q w) same))

-- what is next at its own stage
pub next_at : (o v : Calling) (at : CallStage) → o ≡ v → v.stage ≡ at → next_of v ≡ stage_next o.caller o.slot at
next_at o v at same own =
    ap next_of (sym same) ∙ ap (stage_next o.caller o.slot) (ap (λ (q : Calling). q.stage) same ∙ own)
