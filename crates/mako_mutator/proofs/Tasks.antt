-- The machine of a task is one, and of a progress what follows looks only at the calls that are through.
use Rattle.std.proofs.Common.{◌≡◌, ℕ, true, false, is_some, List, Option, Some, None, slice_get, refl, ap, ◌∙◌}
use Rattle.mako_model.specs.declared.call.Call.{Call}
use Rattle.mako_model.specs.declared.attempt.Attempt.{Attempt}
use Rattle.mako_model.specs.declared.attempt.Attempt.TheVariants.{Answer, Full, Pause as Paused}
use Rattle.mako_call.specs.declared.caller.Caller.{Caller}
use Rattle.mako_call.specs.Calls.{Calling, kept, outcome_in}
use Rattle.mako_mutator.specs.declared.progress.Progress.{Progress}
use Rattle.mako_mutator.specs.declared.progress.Task.{Task}
use Rattle.mako_mutator.specs.declared.progress.Task.TheVariants.{Attempting, Awaiting, Finishing, Ended}
use Rattle.mako_mutator.specs.Drivers.{task_for, awaiting, within, attempt_on, after_attempt, wait_on}

abbrev machine_of : Calling → Task → Calling
machine_of other (Attempting m) = m
machine_of other (Awaiting m) = m
machine_of other Finishing = other
machine_of other Ended = other

pub one_attempt : (a b : Calling) → Attempting a ≡ Attempting b → a ≡ b
one_attempt a b same = ap (machine_of a) same

pub one_wait : (a b : Calling) → Awaiting a ≡ Awaiting b → a ≡ b
one_wait a b same = ap (machine_of a) same

pub wait_by_done : (k : Caller) (calls : List Call) (p q : Progress) (m : Calling) (o : Option Attempt)
    → p.done ≡ q.done → wait_on k calls p m o ≡ wait_on k calls q m o
wait_by_done k calls p q m None same = ap (λ (d : ℕ). record { done = d; within = true; task = Awaiting m }) same
wait_by_done k calls p q m (Some (Answer reply)) same =
    ap (λ (d : ℕ). record {
      done = d;
      within = true;
      task = task_for k (slice_get calls d) true (kept m (Answer reply));
    }) same
wait_by_done k calls p q m (Some Full) same =
    ap (λ (d : ℕ). record { done = d; within = true; task = awaiting k (kept m Full) }) same
wait_by_done k calls p q m (Some (Paused pause)) same =
    ap (λ (d : ℕ). record { done = d; within = true; task = awaiting k (kept m (Paused pause)) }) same

on_none : (k : Caller) (calls : List Call) (p : Progress) (m : Calling) (o : Option Attempt) → false ≡ is_some o
    → within p (Attempting m) ≡ attempt_on k calls p m o
on_none k calls p m None going = refl
on_none k calls p m (Some outcome) going = absurd (let no : false ≡ true = going in cc)

-- an attempt that has not ended goes on
pub goes_on : (k : Caller) (calls : List Call) (p : Progress) (m : Calling) → p.task ≡ Attempting m
    → false ≡ is_some (outcome_in m.stage) → within p p.task ≡ after_attempt k calls p m
goes_on k calls p m is going = ap (within p) is ∙ on_none k calls p m (outcome_in m.stage) going
