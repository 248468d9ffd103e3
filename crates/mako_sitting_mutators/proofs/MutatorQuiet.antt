-- The finished word after the step of a mutator, and the words that the collector has found.
use Rattle.std.proofs.Common.{◌≡◌, ℕ, ◌<◌, ◌+◌, ◌^◌, Bool, true, false, List, set, Option, None, Some, sym, ap, subst}
use Rattle.std.proofs.Common.{refl, ◌∙◌, arith}
use Rattle.std.specs.Prelude.{slice_get, sum_by}
use Rattle.mako_gate.proofs.Found.{one_more}
use Rattle.mako_gate.proofs.Lists.{sum_at}
use Rattle.mako_shape.specs.declared.numbers.Numbers.{Numbers}
use Rattle.mako_shape.specs.Places.{finished, top, index, Within, word_at}
use Rattle.mako_shape.proofs.PlaceLaws.{word_same, word_other}
use Rattle.mako_step.specs.Machines.{IsAct}
use Rattle.mako_step.specs.Acts.{after_op, does, words_stepped}
use Rattle.mako_step.specs.declared.act.Op.TheVariants.{Add}
use Rattle.mako_model.specs.Legal.{Facts}
use Rattle.mako_model.specs.declared.attempt.Attempt.{Attempt}
use Rattle.mako_model.specs.declared.attempt.Attempt.TheVariants.{Answer, Full, Pause as Paused}
use Rattle.mako_model.specs.declared.call.Call.{Call}
use Rattle.mako_phases.specs.Facets.{IsNotAdmitted}
use Rattle.mako_call.specs.declared.caller.Caller.{Caller}
use Rattle.mako_call.specs.declared.call_machine.Keep.{Keep}
use Rattle.mako_call.specs.Calls as calling
use Rattle.mako_call.specs.Calls.{Calling, outcome_in}
use Rattle.mako_call.specs.declared.call_stage.CallStage.{CallStage}
use Rattle.mako_call.specs.declared.call_stage.CallStage.TheVariants.{Arriving, Rooting, Entering, Moving, Getting}
use Rattle.mako_call.specs.declared.call_stage.CallStage.TheVariants.{Putting, Allocating, Asking, Leaving, Ended}
use Rattle.mako_mutator.specs.declared.progress.Task.{Task}
use Rattle.mako_mutator.specs.declared.progress.Progress.{Progress}
use Rattle.mako_mutator.specs.declared.progress.Task.TheVariants.{Attempting, Awaiting, Finishing, Ended as TaskEnded}
use Rattle.mako_mutator.specs.Drivers as drivers
use Rattle.mako_mutator.specs.Drivers.{Driving, TaskIsKnown}
use Rattle.mako_joint.specs.Joints.{JointScene}
use Rattle.mako_seat.specs.declared.seat.Seat.{Seat}
use Rattle.mako_seat.specs.declared.seat.Seat.TheVariants.{Mutator}
use Rattle.mako_state.specs.Facets.{task_ended, ended_of}
use Rattle.mako_mutating.specs.Mutators.{found_by, stepped}
use Rattle.mako_mutating.specs.MutatorFacets.{stage_admission, task_admission}
use Rattle.mako_writes.specs.Writes.{LeavesOthers}
use Rattle.mako_sitting.specs.Seats.{AllSit, MutatorSits}
use Rattle.mako_sitting_mutators.specs.MutatorSteps.{mutator_next}
use Rattle.mako_sitting_mutators.proofs.MutatorTurns.{few_ended}
use Rattle.mako_sitting_mutators.proofs.MutatorWords.{StageWrites, StoresTops, call_leaves}

-- the finished word counts the mutators at their ends after the step
abbrev EndsAreCounted : Numbers → JointScene → List Seat → ℕ → Driving → Type 0
EndsAreCounted n s seats m d =
    word_at n (stepped s m d).words finished ≡ sum_by ended_of (set seats m (Mutator (mutator_next s d)))

-- ---- no attempt ends the program

begins : (k : Caller) (call : Option Call) (last : Bool) (keep : Keep)
    → task_ended (drivers.task_for k call last keep) ≡ 0
begins k None last keep = refl
begins k (Some call) last keep = refl

attempt_goes : (k : Caller) (calls : List Call) (p : Progress) (c : Calling) (o : Option Attempt)
    → task_ended (drivers.attempt_on k calls p c o).task ≡ 0
attempt_goes k calls p c None = refl
attempt_goes k calls p c (Some (Answer reply)) =
    begins k (slice_get calls (p.done + 1)) false (calling.kept c (Answer reply))
attempt_goes k calls p c (Some Full) = refl
attempt_goes k calls p c (Some (Paused pause)) = begins k (Some c.call) c.last (calling.kept c (Paused pause))

wait_goes : (k : Caller) (calls : List Call) (p : Progress) (c : Calling) (o : Option Attempt)
    → task_ended (drivers.wait_on k calls p c o).task ≡ 0
wait_goes k calls p c None = refl
wait_goes k calls p c (Some (Answer reply)) =
    begins k (slice_get calls p.done) true (calling.kept c (Answer reply))
wait_goes k calls p c (Some Full) = refl
wait_goes k calls p c (Some (Paused pause)) = refl

-- a stage that stores tops is admitted
no_tops : (s : CallStage) → IsNotAdmitted (stage_admission s) → StoresTops s → ⊥
no_tops Arriving out may = may
no_tops (Rooting s) out may = may
no_tops (Entering e s) out may = may
no_tops (Moving e s) out may = out
no_tops (Getting at get s) out may = may
no_tops (Putting at put s) out may = may
no_tops (Allocating s) out may = out
no_tops (Asking s) out may = may
no_tops (Leaving s) out may = may
no_tops (Ended outcome) out may = may

module _ (n : Numbers) (w : Facts) (s : JointScene) (seats : List Seat) (m : ℕ) (d : Driving)
    (all : AllSit n w s seats) (here : slice_get seats m ≡ Some (Mutator d)) (act : IsAct (drivers.next_of d)) where
  sits : MutatorSits n w s (all.places m) m d
  sits = all.each m (Mutator d) here

  of_call : (c : Calling) → c.caller ≡ d.caller → calling.IsKnown c
      → words_stepped (calling.next_of c) s.words ≡ (stepped s m d).words
      → LeavesOthers n (StageWrites m c.slot c.stage) s.words (stepped s m d).words
  of_call c same known words =
      subst (λ us. LeavesOthers n (StageWrites m c.slot c.stage) s.words us) words
      (subst (λ (k : Numbers). LeavesOthers k (StageWrites m c.slot c.stage) s.words
      (words_stepped (calling.next_of c) s.words)) sits.keeps.shape
      (subst (λ i. LeavesOthers d.caller.shape (StageWrites i c.slot c.stage) s.words
      (words_stepped (calling.next_of c) s.words)) sits.keeps.number (call_leaves d.caller c same known s.words)))

  pub words_by : (t : Task) → d.progress.task ≡ t
      → words_stepped (drivers.task_next d.caller t) s.words ≡ (stepped s m d).words
  words_by t is = ap (λ t. words_stepped (drivers.task_next d.caller t) s.words) (sym is)

  pub attempt_leaves : (c : Calling) → d.progress.task ≡ Attempting c
      → LeavesOthers n (StageWrites m c.slot c.stage) s.words (stepped s m d).words
  attempt_leaves c is =
      let known = subst (TaskIsKnown d.caller d.calls d.progress.done) is sits.keeps.known.progress.task in
      of_call c known.same known.known (words_by (Attempting c) is)

  pub wait_leaves : (c : Calling) → d.progress.task ≡ Awaiting c
      → LeavesOthers n (StageWrites m c.slot c.stage) s.words (stepped s m d).words
  wait_leaves c is =
      let known = subst (TaskIsKnown d.caller d.calls d.progress.done) is sits.keeps.known.progress.task in
      of_call c known.same known.known (words_by (Awaiting c) is)

  pub end_words : d.progress.task ≡ Finishing
      → (stepped s m d).words ≡ set s.words (index n finished) (after_op (Add 1) (word_at n s.words finished))
  end_words is =
      sym (words_by Finishing is)
      ∙ ap (λ (k : Numbers). words_stepped (does (index k finished) (Add 1)) s.words) sits.keeps.shape

  -- ---- the finished word

  sum_same : word_at n (stepped s m d).words finished ≡ word_at n s.words finished
      → ended_of (Mutator d) ≡ 0 → ended_of (Mutator (mutator_next s d)) ≡ 0 → EndsAreCounted n s seats m d
  sum_same word before after =
      let sums = sum_at ended_of seats m (Mutator d) (Mutator (mutator_next s d)) here in
      let e : sum_by ended_of (set seats m (Mutator (mutator_next s d))) ≡ sum_by ended_of seats = omega arith in
      word ∙ all.ends ∙ sym e

  counted : (t : Task) → d.progress.task ≡ t → EndsAreCounted n s seats m d
  counted (Attempting c) is =
      sum_same (attempt_leaves c is finished tt (λ x. x)) (ap task_ended is)
      (ap (λ t. task_ended (drivers.task_fed d.caller d.calls d.progress t (found_by s d)).task) is
      ∙ attempt_goes d.caller d.calls d.progress (calling.fed c (found_by s d))
      (outcome_in (calling.fed c (found_by s d)).stage))
  counted (Awaiting c) is =
      sum_same (wait_leaves c is finished tt (λ x. x)) (ap task_ended is)
      (ap (λ t. task_ended (drivers.task_fed d.caller d.calls d.progress t (found_by s d)).task) is
      ∙ wait_goes d.caller d.calls d.progress (calling.fed c (found_by s d))
      (outcome_in (calling.fed c (found_by s d)).stage))
  counted Finishing is =
      let before : ended_of (Mutator d) ≡ 0 = ap task_ended is in
      let after : ended_of (Mutator (mutator_next s d)) ≡ 1 =
      ap (λ t. task_ended (drivers.task_fed d.caller d.calls d.progress t (found_by s d)).task) is in
      let sums = sum_at ended_of seats m (Mutator d) (Mutator (mutator_next s d)) here in
      let ends = all.ends in
      let shape = all.joint.script.shape.in_range.each in
      let few = few_ended n w s seats m d all here in
      ap (λ us. word_at n us finished) (end_words is)
      ∙ word_same n s.words finished (after_op (Add 1) (word_at n s.words finished)) all.joint.names.hold.size tt
      ∙ one_more (word_at n s.words finished)
      (let low : word_at n s.words finished < 2 ^ 17 = omega (arith, shape) in low)
      ∙ (let e : word_at n s.words finished + 1 ≡ sum_by ended_of (set seats m (Mutator (mutator_next s d))) =
      omega arith in e)
  counted TaskEnded is = absurd (subst (λ t. IsAct (drivers.task_next d.caller t)) is act)

  pub ends_counted : EndsAreCounted n s seats m d
  ends_counted = counted d.progress.task refl

  -- ---- tops, where the mutator is not admitted

  tops_by : (t : Task) → d.progress.task ≡ t → IsNotAdmitted (task_admission t) → (x : ℕ) → Within n (top x)
      → word_at n (stepped s m d).words (top x) ≡ word_at n s.words (top x)
  tops_by (Attempting c) is out x within = attempt_leaves c is (top x) within (no_tops c.stage out)
  tops_by (Awaiting c) is out x within = wait_leaves c is (top x) within (no_tops c.stage out)
  tops_by Finishing is out x within =
      ap (λ us. word_at n us (top x)) (end_words is)
      ∙ word_other n s.words finished (top x) (after_op (Add 1) (word_at n s.words finished)) tt within
      (λ e. (let c : ⊥ = cc in c))
  tops_by TaskEnded is out x within = absurd (subst (λ t. IsAct (drivers.task_next d.caller t)) is act)

  pub tops_same : IsNotAdmitted (task_admission d.progress.task) → (x : ℕ) → Within n (top x)
      → word_at n (stepped s m d).words (top x) ≡ word_at n s.words (top x)
  tops_same out = tops_by d.progress.task refl out
