-- A step of a driver keeps its numbers in range, and lowers the rank of its attempt.
use Rattle.std.proofs.Common.{◌≡◌, ℕ, Bool, true, false, ◌+◌, ◌<◌, ◌≤◌, ◌++◌, List, [], Option, Some, None, is_some}
use Rattle.std.proofs.Common.{length, length-append, slice_get, inl, inr, ap, subst, sym, ◌∙◌, refl, arith}
use Rattle.std.proofs.lemmas.Option.{none-some, same_Some, slice_get_within, slice_get_cases}
use Rattle.mako_step.specs.Machines.{IsAct, Lowers}
use Rattle.mako_shape.specs.declared.numbers.Numbers.{Numbers}
use Rattle.mako_model.specs.declared.call.Call.{Call}
use Rattle.mako_model.specs.declared.call.Call.TheVariants.{Collect}
use Rattle.mako_model.specs.declared.reply.Reply.{Reply}
use Rattle.mako_model.specs.declared.attempt.Attempt.{Attempt}
use Rattle.mako_model.specs.declared.attempt.Attempt.TheVariants.{Answer, Full, Pause as Paused}
use Rattle.mako_call.specs.declared.caller.Caller.{Caller}
use Rattle.mako_call.specs.declared.call_machine.Keep.{Keep}
use Rattle.mako_call.specs.declared.call_stage.CallStage.{CallStage}
use Rattle.mako_call.specs.declared.call_stage.CallStage.TheVariants.{Arriving, Rooting, Entering, Moving, Getting}
use Rattle.mako_call.specs.declared.call_stage.CallStage.TheVariants.{Putting, Allocating, Asking, Leaving, Ended}
use Rattle.mako_mutator.specs.declared.progress.Task.{Task}
use Rattle.mako_mutator.specs.declared.progress.Task.TheVariants.{Attempting, Awaiting, Finishing, Ended as AtEnd}
use Rattle.mako_mutator.specs.declared.progress.Progress.{Progress}
use Rattle.mako_call.specs.Agreeing.{asked_of, AskedFits, StageOf}
use Rattle.mako_call.specs.Callers.{IsCaller}
use Rattle.mako_call.specs.Keeping.{KeepFits}
use Rattle.mako_call.specs.Calls as calling
use Rattle.mako_call.specs.Calls.{Calling, outcome_in, kept, decided, reply_of}
use Rattle.mako_mutator.specs.Drivers.{Driving, task_for, awaiting, opening, attempt_on, wait_on, task_fed}
use Rattle.mako_mutator.specs.Drivers.{progress_fed, task_event, told_reply, fed, task_next, TaskFits, task_renewed}
use Rattle.mako_mutator.specs.Drivers.{task_rank, rank, is_renewed, AreFitting, ahead, TaskIsKnown, ProgressIsKnown}
use Rattle.mako_mutator.specs.Drivers.{replied, IsKnown, next_of, Fits, event_of}
use Rattle.mako_call.proofs.CallGoing.{call_goes, call_known}
use Rattle.mako_call.proofs.Deciding.{ended_decided}
use Rattle.mako_call.proofs.FirstStages.{first_known, first_open}
use Rattle.mako_mutator.proofs.DriverTelling.{told_count}

-- a task of the next call, with this many replies beyond those of the calls that are through
record Begins (k : Caller) (calls : List Call) (done : ℕ) (task : Task) : Type 0 where
  known : TaskIsKnown k calls done task
  replies : replied task ≡ 0

task_begins : (k : Caller) (calls : List Call) (done : ℕ) (o : Option Call) (last : Bool) (keep : Keep) → IsCaller k
    → AreFitting k.shape calls → KeepFits k.shape keep → slice_get calls done ≡ o →
    done ≤ length calls → Begins k calls done (task_for k o last keep)
task_begins k calls done None last keep caller fitting fits at most = record {
  known = elim (slice_get_cases calls done).1 [
    | inl c ↦ absurd (none-some c.0 (sym at ∙ c.2))
    | inr c ↦ (let past = c.0 in omega (arith, past, most))
  ];
  replies = refl;
}
task_begins k calls done (Some call) last keep caller fitting fits at most = record {
  known = record {
    known = first_known k call last keep.asked keep.barrier_at caller (fitting done call at) fits.asked fits.barrier;
    same = refl;
    call = at;
    open_ = (first_open call keep.asked).0;
  };
  replies = ap ahead (first_open call keep.asked).1;
}

wait_begins : (k : Caller) (calls : List Call) (done : ℕ) (keep : Keep) → IsCaller k → KeepFits k.shape keep
    → done < length calls → Begins k calls done (awaiting k keep)
wait_begins k calls done keep caller fits below = record {
  known = record {
    known = first_known k Collect false keep.asked keep.barrier_at caller tt fits.asked fits.barrier;
    same = refl;
    collects = refl;
    below = below;
    open_ = (first_open Collect keep.asked).0;
  };
  replies = refl;
}

-- what an attempt keeps that has ended
asked_kept : (n : Numbers) (call : Call) (s : CallStage) (o : Attempt) → StageOf n call s → outcome_in s ≡ Some o
    → AskedFits n (asked_of call o)
asked_kept n call Arriving o of is = absurd (none-some o is)
asked_kept n call (Rooting s) o of is = absurd (none-some o is)
asked_kept n call (Entering e s) o of is = absurd (none-some o is)
asked_kept n call (Moving e s) o of is = absurd (none-some o is)
asked_kept n call (Getting at get s) o of is = absurd (none-some o is)
asked_kept n call (Putting at put s) o of is = absurd (none-some o is)
asked_kept n call (Allocating s) o of is = absurd (none-some o is)
asked_kept n call (Asking s) o of is = absurd (none-some o is)
asked_kept n call (Leaving s) o of is = absurd (none-some o is)
asked_kept n call (Ended outcome) o of is = let P : Attempt → Type 0 = λ q. AskedFits n (asked_of call q) in
    subst P (same_Some outcome o is) of

keep_fits : (k : Caller) (m : Calling) (o : Attempt) → calling.IsKnown m → m.caller ≡ k → outcome_in m.stage ≡ Some o
    → KeepFits k.shape (kept m o)
keep_fits k m o known same is = record {
  asked = subst (λ (q : Caller). AskedFits q.shape (asked_of m.call o)) same
      (asked_kept m.caller.shape m.call m.stage o known.agrees is);
  barrier = subst (λ (q : Caller). m.slot < q.shape.ring) same known.slot;
}

-- where a step leads that leaves this many replies, of a job of this rank that it ends or not
pub record Leads (k : Caller) (calls : List Call) (replies r : ℕ) (renewed : Bool) (p : Progress) : Type 0 where
  pub known : ProgressIsKnown k calls p
  pub replies_are : replies ≡ p.done + replied p.task
  pub lower : Lowers renewed r (task_rank p.task)

begins_leads : (k : Caller) (calls : List Call) (done replies r : ℕ) (inside : Bool) (task : Task)
    → length calls ≤ 1048576 → Begins k calls done task → replies ≡ done → 0 < r →
    Leads k calls replies r true (record { done = done; within = inside; task = task })
begins_leads k calls done replies r inside task few b are some = record {
  known = record { few = few; task = b.known };
  replies_are = (let none = b.replies in omega (arith, are, none));
  lower = some;
}

module _ (k : Caller) (calls : List Call) (p : Progress) (after : Calling) (replies r : ℕ) (caller : IsCaller k)
    (fitting : AreFitting k.shape calls) (few : length calls ≤ 1048576)
    (known : calling.IsKnown after) (same : after.caller ≡ k) (lower : calling.rank after < r) where
  attempt_leads : (o : Option Attempt) → outcome_in after.stage ≡ o → slice_get calls p.done ≡ Some after.call
      → replies ≡ p.done + ahead (decided after.stage) →
      Leads k calls replies r (is_some o) (attempt_on k calls p after o)
  attempt_leads None is at are =
      record {
        known = record { few = few; task = record { known = known; same = same; call = at; open_ = is } };
        replies_are = are;
        lower = lower;
      }
  attempt_leads (Some (Answer reply)) is at are =
      let inside = slice_get_within calls p.done after.call at in
      let one : ahead (decided after.stage) ≡ 1 = ap ahead (ended_decided after.stage (Answer reply) is) in
      begins_leads k calls (p.done + 1) replies r false _ few
      (task_begins k calls (p.done + 1) (slice_get calls (p.done + 1)) false (kept after (Answer reply)) caller fitting
      (keep_fits k after (Answer reply) known same is) refl (omega (arith, inside)))
      (omega (arith, are, one)) (omega (arith, lower))
  attempt_leads (Some Full) is at are =
      let inside = slice_get_within calls p.done after.call at in
      let none : ahead (decided after.stage) ≡ 0 = ap ahead (ended_decided after.stage Full is) in
      begins_leads k calls p.done replies r true _ few
      (wait_begins k calls p.done (kept after Full) caller (keep_fits k after Full known same is) inside)
      (omega (arith, are, none)) (omega (arith, lower))
  attempt_leads (Some (Paused pause)) is at are =
      let inside = slice_get_within calls p.done after.call at in
      let none : ahead (decided after.stage) ≡ 0 = ap ahead (ended_decided after.stage (Paused pause) is) in
      begins_leads k calls p.done replies r true _ few
      (task_begins k calls p.done (Some after.call) after.last (kept after (Paused pause)) caller fitting
      (keep_fits k after (Paused pause) known same is) at (omega (arith, inside)))
      (omega (arith, are, none)) (omega (arith, lower))

  wait_leads : (o : Option Attempt) → outcome_in after.stage ≡ o → after.call ≡ Collect → p.done < length calls
      → replies ≡ p.done → Leads k calls replies r (is_some o) (wait_on k calls p after o)
  wait_leads None is collects below are =
      record {
        known = record {
          few = few;
          task = record { known = known; same = same; collects = collects; below = below; open_ = is };
        };
        replies_are = omega (arith, are);
        lower = lower;
      }
  wait_leads (Some (Answer reply)) is collects below are =
      begins_leads k calls p.done replies r true _ few
      (task_begins k calls p.done (slice_get calls p.done) true (kept after (Answer reply)) caller fitting
      (keep_fits k after (Answer reply) known same is) refl (omega (arith, below)))
      are (omega (arith, lower))
  wait_leads (Some Full) is collects below are =
      begins_leads k calls p.done replies r true _ few
      (wait_begins k calls p.done (kept after Full) caller (keep_fits k after Full known same is) below) are
      (omega (arith, lower))
  wait_leads (Some (Paused pause)) is collects below are =
      begins_leads k calls p.done replies r true _ few
      (wait_begins k calls p.done (kept after (Paused pause)) caller
      (keep_fits k after (Paused pause) known same is) below) are (omega (arith, lower))

-- a task that has an act leads on
task_leads : (d : Driving) (w : ℕ) (task : Task) → IsCaller d.caller → AreFitting d.caller.shape d.calls
    → length d.calls ≤ 1048576 → TaskIsKnown d.caller d.calls d.progress.done task →
    length d.replies ≡ d.progress.done + replied task → TaskFits task w → IsAct (task_next d.caller task) →
    Leads d.caller d.calls (length d.replies + length (told_reply (task_event task w))) (task_rank task)
    (task_renewed task w) (task_fed d.caller d.calls d.progress task w)
task_leads d w (Attempting m) caller fitting few known are fits acts =
    let told = told_count m w in
    attempt_leads d.caller d.calls d.progress (calling.fed m w)
    (length d.replies + length (told_reply (calling.event_of m w))) (calling.rank m) caller fitting few
    (call_known m w known.known fits acts) known.same (call_goes m w known.known fits acts).lower
    (outcome_in (calling.fed m w).stage) refl known.call (omega (arith, told, are))
task_leads d w (Awaiting m) caller fitting few known are fits acts =
    wait_leads d.caller d.calls d.progress (calling.fed m w) (length d.replies + length {A = Reply} [])
    (calling.rank m) caller fitting few
    (call_known m w known.known fits acts) known.same (call_goes m w known.known fits acts).lower
    (outcome_in (calling.fed m w).stage) refl known.collects known.below (omega (arith, are))
task_leads d w Finishing caller fitting few known are fits acts = record {
  known = record { few = few; task = known };
  replies_are = omega (arith, are);
  lower = omega arith;
}
task_leads d w AtEnd caller fitting few known are fits acts = absurd acts

pub driver_leads : (d : Driving) (w : ℕ) → IsKnown d → Fits d w → IsAct (next_of d) →
    Leads d.caller d.calls (length d.replies + length (told_reply (event_of d w))) (rank d) (is_renewed d w)
    (progress_fed d.caller d.calls d.progress w)
driver_leads d w known fits acts =
    task_leads d w d.progress.task known.caller known.calls known.progress.few known.progress.task known.replies fits
    acts

-- the driver after a step is known
pub driver_known : (d : Driving) (w : ℕ) → IsKnown d → Fits d w → IsAct (next_of d) → IsKnown (fed d w)
driver_known d w known fits acts =
    let on = driver_leads d w known fits acts in
    let more = length-append d.replies (told_reply (event_of d w)) in
    let are = on.replies_are in record {
      caller = known.caller;
      calls = known.calls;
      progress = on.known;
      replies = omega (arith, more, are);
    }

-- and at its start
pub opening_known : (k : Caller) (calls : List Call) → IsCaller k → AreFitting k.shape calls → length calls ≤ 1048576
    → IsKnown (opening k calls)
opening_known k calls caller fitting few =
    let ring = caller.shape.in_range.each in
    let b = task_begins k calls 0 (slice_get calls 0) false (record { asked = None; barrier_at = 0 }) caller fitting
    (record { asked = tt; barrier = omega (arith, ring) }) refl (omega arith) in
    let none = b.replies in record {
      caller = caller;
      calls = fitting;
      progress = record { few = few; task = b.known };
      replies = omega (arith, none);
    }

-- at most one reply stands beyond those of the calls that are through
ahead_le : (o : Option Reply) → ahead o ≤ 1
ahead_le None = omega arith
ahead_le (Some reply) = omega arith

task_within : (k : Caller) (calls : List Call) (done : ℕ) (task : Task) → TaskIsKnown k calls done task
    → done + replied task ≤ length calls
task_within k calls done (Attempting m) known = let inside = slice_get_within calls done m.call known.call in
    let one = ahead_le (decided m.stage) in omega (arith, inside, one)
task_within k calls done (Awaiting m) known = let inside = known.below in omega (arith, inside)
task_within k calls done Finishing known = omega (arith, known)
task_within k calls done AtEnd known = omega (arith, known)

-- a step that tells a reply finds room for it
pub room_for_reply : (d : Driving) (w : ℕ) → IsKnown d → Fits d w → IsAct (next_of d)
    → length d.replies + length (told_reply (event_of d w)) ≤ length d.calls
room_for_reply d w known fits acts =
    let on = driver_leads d w known fits acts in
    let are = on.replies_are in
    let p = progress_fed d.caller d.calls d.progress w in
    let inside = task_within d.caller d.calls p.done p.task on.known.task in
    omega (arith, are, inside)

-- what the code puts together is known
pub put_together : (d : Driving) (w : ℕ) (replies : List Reply) (p : Progress) → IsKnown d → Fits d w
    → IsAct (next_of d) → replies ≡ d.replies ++ told_reply (event_of d w) →
    p ≡ progress_fed d.caller d.calls d.progress w
    → IsKnown (record { caller = d.caller; calls = d.calls; replies = replies; progress = p })
put_together d w replies p known fits acts replies_are p_is =
    let Replies : List Reply
    → Type 0 = λ rs. IsKnown (record { caller = d.caller; calls = d.calls; replies = rs; progress = p }) in
    let At : Progress → Type 0 =
    λ q. IsKnown (record {
      caller = d.caller;
      calls = d.calls;
      replies = d.replies ++ told_reply (event_of d w);
      progress = q;
    }) in
    subst Replies (sym replies_are) (subst At (sym p_is) (driver_known d w known fits acts))
