-- While the collector holds the gates, no mutator stores a barrier.
use Rattle.std.proofs.Common.{◌≡◌, ℕ, ◌<◌, ◌≤◌, ◌==◌, inl, inr, List, true, sum_by, sym, ap, subst, refl, ◌∙◌, eq-eqb}
use Rattle.std.proofs.Common.{arith}
use Rattle.std.specs.Prelude.{slice_get, Some}
use Rattle.std.proofs.lemmas.Bool.{cases_eq}
use Rattle.std.proofs.lemmas.Option.{same_Some}
use Rattle.mako_shape.specs.declared.numbers.Numbers.{Numbers}
use Rattle.mako_shape.specs.Places.{barrier, finished, word_at}
use Rattle.mako_shape.proofs.PlaceLaws.{word_other}
use Rattle.mako_gate.specs.Sums.{counted}
use Rattle.mako_gate.specs.Standings.{GateFacet, admitted_own, drained_own, mutator_at}
use Rattle.mako_gate.proofs.Lists.{le_sum}
use Rattle.mako_step.specs.Machines.{IsAct}
use Rattle.mako_step.specs.Acts.{after_op}
use Rattle.mako_step.specs.declared.act.Op.TheVariants.{Add}
use Rattle.mako_model.specs.Legal.{Facts}
use Rattle.mako_layout.specs.StepParts.{collector_seat}
use Rattle.mako_phases.specs.Facets.{IsNotAdmitted}
use Rattle.mako_call.specs.declared.call_stage.CallStage.{CallStage}
use Rattle.mako_call.specs.declared.call_stage.CallStage.TheVariants.{Arriving, Rooting, Entering, Moving, Getting}
use Rattle.mako_call.specs.declared.call_stage.CallStage.TheVariants.{Putting, Allocating, Asking, Leaving, Ended}
use Rattle.mako_mutator.specs.declared.progress.Task.{Task}
use Rattle.mako_mutator.specs.declared.progress.Task.TheVariants.{Attempting, Awaiting, Finishing, Ended as TaskEnded}
use Rattle.mako_mutator.specs.Drivers as drivers
use Rattle.mako_mutator.specs.Drivers.{Driving}
use Rattle.mako_joint.specs.Joints.{JointScene}
use Rattle.mako_pause.specs.Collecting.{Collecting, Holdings}
use Rattle.mako_pause.specs.declared.stage.CollectStage.{CollectStage}
use Rattle.mako_pause.specs.declared.stage.CollectStage.TheVariants.{Idle, Pausing, Forwarding, Barriers, Emptying}
use Rattle.mako_pause.specs.declared.stage.CollectStage.TheVariants.{Polling, Choosing, Noticing, Ended as CollectEnded}
use Rattle.mako_seat.specs.declared.seat.Seat.{Seat}
use Rattle.mako_seat.specs.declared.seat.Seat.TheVariants.{Mutator}
use Rattle.mako_state.specs.Standings.{standing_of}
use Rattle.mako_mutating.specs.Mutators.{stepped}
use Rattle.mako_mutating.specs.MutatorFacets.{stage_admission, task_admission}
use Rattle.mako_collecting.specs.Facets.{IsCollector, all_drained, round_watch, stage_watch, watch_of, gate_facet}
use Rattle.mako_collecting.specs.Keeping.{PassedAreEmpty, passed_at}
use Rattle.mako_sitting.specs.Seats.{AllSit, MutatorSits, CollectorSits}
use Rattle.mako_sitting_mutators.proofs.MutatorBeside.{leaves}
use Rattle.mako_sitting_mutators.proofs.MutatorQuiet.{attempt_leaves, wait_leaves, end_words}
use Rattle.mako_sitting_mutators.proofs.MutatorWords.{StoresBarrier}

-- a stage that stores a barrier is admitted
no_barrier : (s : CallStage) → IsNotAdmitted (stage_admission s) → StoresBarrier s → ⊥
no_barrier (Putting at put s) out may = out
no_barrier Arriving out may = may
no_barrier (Rooting s) out may = may
no_barrier (Entering e s) out may = may
no_barrier (Moving e s) out may = may
no_barrier (Getting at get s) out may = may
no_barrier (Allocating s) out may = may
no_barrier (Asking s) out may = may
no_barrier (Leaving s) out may = may
no_barrier (Ended outcome) out may = may

all_are_drained : (n : Numbers) (m : ℕ) → m < n.mutators → 1 ≤ drained_own m (all_drained n)
all_are_drained n m low = grind (arith)

-- a ring is passed with all gates drained
drained_at : (n : Numbers) (k : Holdings) (stage : CollectStage) → k.gates_shut ≡ true → (i m : ℕ) → m < n.mutators
    → i < passed_at n stage → 1 ≤ drained_own m (stage_watch n k stage)
drained_at n k (Barriers stage) shut i m low passed =
    subst (λ b. 1 ≤ drained_own m (round_watch n b)) (sym shut) (all_are_drained n m low)
drained_at n k (Emptying r) shut i m low passed =
    subst (λ b. 1 ≤ drained_own m (round_watch n b)) (sym shut) (all_are_drained n m low)
drained_at n k Polling shut i m low passed =
    subst (λ b. 1 ≤ drained_own m (round_watch n b)) (sym shut) (all_are_drained n m low)
drained_at n k (Idle stage) shut i m low passed = absurd (omega arith)
drained_at n k (Pausing stage) shut i m low passed = absurd (omega arith)
drained_at n k (Forwarding stage) shut i m low passed = absurd (omega arith)
drained_at n k (Choosing stage) shut i m low passed = absurd (omega arith)
drained_at n k (Noticing stage) shut i m low passed = absurd (omega arith)
drained_at n k CollectEnded shut i m low passed = absurd (omega arith)

module _ (n : Numbers) (w : Facts) (s : JointScene) (seats : List Seat) (m : ℕ) (d : Driving)
    (all : AllSit n w s seats) (here : slice_get seats m ≡ Some (Mutator d)) (act : IsAct (drivers.next_of d)) where
  sits : MutatorSits n w s (all.places m) m d
  sits = all.each m (Mutator d) here

  unadmitted : (c : Collecting) → IsCollector n s c → 1 ≤ drained_own m (watch_of n c)
      → IsNotAdmitted (task_admission d.progress.task)
  unadmitted c at drained =
      let gate = all.joint.layout.gates.owns m sits.keeps.in_range in
      let most =
      le_sum (λ (h : GateFacet). drained_own m h.watch) s.facets.gates (collector_seat n) (gate_facet n c) at.gate in
      let none =
      gate.nobody (let x : 0 < sum_by (λ (h : GateFacet). drained_own m h.watch) s.facets.gates = omega arith in x) in
      let mine =
      le_sum (λ (h : GateFacet). counted (h.number == m) (admitted_own h.standing)) s.facets.gates m
      (mutator_at m (standing_of d)) sits.seen.gate in
      let own : counted (m == m) (admitted_own (standing_of d)) ≡ admitted_own (standing_of d) =
      ap (λ b. counted b (admitted_own (standing_of d))) (eq-eqb m m refl) in
      let zero : admitted_own (standing_of d) ≡ 0 = omega arith in
      let t = all.joint.gates.mutators m (task_admission d.progress.task) sits.seen.phase in
      t.outside (ap (λ (g : GateFacet). admitted_own g.standing)
      (same_Some t.gate (mutator_at m (standing_of d)) (sym t.here ∙ sits.seen.gate)) ∙ zero)

  held_by : (t : Task) → d.progress.task ≡ t → IsNotAdmitted (task_admission t) → (slot : ℕ) → slot < n.ring
      → word_at n (stepped s m d).words (barrier m slot) ≡ word_at n s.words (barrier m slot)
  held_by (Attempting c) is out slot inside =
      attempt_leaves n w s seats m d all here act c is (barrier m slot) (sits.keeps.in_range, inside)
      (λ may. no_barrier c.stage out may.2)
  held_by (Awaiting c) is out slot inside =
      wait_leaves n w s seats m d all here act c is (barrier m slot) (sits.keeps.in_range, inside)
      (λ may. no_barrier c.stage out may.2)
  held_by Finishing is out slot inside =
      ap (λ us. word_at n us (barrier m slot)) (end_words n w s seats m d all here act is)
      ∙ word_other n s.words finished (barrier m slot) (after_op (Add 1) (word_at n s.words finished)) tt
      (sits.keeps.in_range, inside) (λ e. (let c : ⊥ = cc in c))
  held_by TaskEnded is out slot inside = absurd (subst (λ t. IsAct (drivers.task_next d.caller t)) is act)

  pub empty_after : (i : ℕ) (c : Collecting) → CollectorSits n w s all.taker all.places i c
      → c.kept.gates_shut ≡ true → PassedAreEmpty n (stepped s m d).words (passed_at n c.stage)
  empty_after j c it shut i slot passed low inside = elim (cases_eq i m) [
    | inl same ↦
        (let out = unadmitted c it.here
        (drained_at n c.kept c.stage shut i m sits.keeps.in_range passed) in
        ap (λ x. word_at n (stepped s m d).words (barrier x slot)) same
        ∙ held_by d.progress.task refl out slot inside
        ∙ ap (λ x. word_at n s.words (barrier x slot)) (sym same)
        ∙ it.keeps.empty shut i slot passed low inside)
    | inr apart ↦
        leaves n w s seats m d all here act (barrier i slot) (low, inside) apart
        ∙ it.keeps.empty shut i slot passed low inside
  ]
