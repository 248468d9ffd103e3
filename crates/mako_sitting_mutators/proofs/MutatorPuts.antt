-- The mutator's own barrier ring after its step.
use Rattle.std.proofs.Common.{◌≡◌, ℕ, ◌+◌, Bool, true, false, List, Option, None, Some, refl}
use Rattle.std.specs.Prelude.{slice_get}
use Rattle.mako_model.specs.declared.attempt.Attempt.{Attempt}
use Rattle.mako_model.specs.declared.attempt.Attempt.TheVariants.{Answer, Full, Pause as Paused}
use Rattle.mako_model.specs.declared.call.Call.{Call}
use Rattle.mako_call.specs.declared.caller.Caller.{Caller}
use Rattle.mako_call.specs.declared.call_machine.Keep.{Keep}
use Rattle.mako_call.specs.Calls as calling
use Rattle.mako_call.specs.Calls.{Calling}
use Rattle.mako_mutator.specs.declared.progress.Progress.{Progress}
use Rattle.mako_mutator.specs.Drivers as drivers
use Rattle.mako_sitting_mutators.specs.MutatorSteps.{task_place}

place_begins : (last : ℕ) (k : Caller) (call : Option Call) (end : Bool) (keep : Keep) → last ≡ keep.barrier_at
    → task_place last (drivers.task_for k call end keep) ≡ keep.barrier_at
place_begins last k None end keep e = e
place_begins last k (Some call) end keep e = refl

-- the place of the next attempt is that of the present one
pub attempt_place : (last : ℕ) (k : Caller) (calls : List Call) (p : Progress) (c : Calling) (o : Option Attempt)
    → last ≡ c.slot → task_place last (drivers.attempt_on k calls p c o).task ≡ c.slot
attempt_place last k calls p c None e = refl
attempt_place last k calls p c (Some (Answer reply)) e =
    place_begins last k (slice_get calls (p.done + 1)) false (calling.kept c (Answer reply)) e
attempt_place last k calls p c (Some Full) e = refl
attempt_place last k calls p c (Some (Paused pause)) e =
    place_begins last k (Some c.call) c.last (calling.kept c (Paused pause)) e

pub wait_place : (last : ℕ) (k : Caller) (calls : List Call) (p : Progress) (c : Calling) (o : Option Attempt)
    → last ≡ c.slot → task_place last (drivers.wait_on k calls p c o).task ≡ c.slot
wait_place last k calls p c None e = refl
wait_place last k calls p c (Some (Answer reply)) e =
    place_begins last k (slice_get calls p.done) true (calling.kept c (Answer reply)) e
wait_place last k calls p c (Some Full) e = refl
wait_place last k calls p c (Some (Paused pause)) e = refl
