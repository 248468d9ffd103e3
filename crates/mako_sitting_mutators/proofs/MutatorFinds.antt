-- What the collector has found stands over the step of a mutator.
use Rattle.std.proofs.Common.{◌≡◌, ℕ, ◌<◌, ◌+◌, ◌*◌, List, sym, ap, subst, ◌∙◌, arith}
use Rattle.std.specs.Prelude.{slice_get, Some}
use Rattle.mako_words.specs.Lives.{live_at}
use Rattle.mako_shape.specs.declared.numbers.Numbers.{Numbers}
use Rattle.mako_shape.specs.Places.{live, top, Within, word_at}
use Rattle.mako_shape.proofs.BelongingLaws.{parts_belong}
use Rattle.mako_step.specs.Machines.{IsAct}
use Rattle.mako_model.specs.Legal.{Facts}
use Rattle.mako_phases.specs.Facets.{IsInPause}
use Rattle.mako_phases.specs.Lives.{live_in}
use Rattle.mako_phases.specs.LiveSteps.{AgreeOnLives}
use Rattle.mako_phases.proofs.Choosing.{findings_stay}
use Rattle.mako_mutator.specs.Drivers as drivers
use Rattle.mako_mutator.specs.Drivers.{Driving}
use Rattle.mako_joint.specs.Joints.{JointScene}
use Rattle.mako_joint.proofs.Pauses.{gates_drain}
use Rattle.mako_layout.specs.StepParts.{collector_seat}
use Rattle.mako_pause.specs.Collecting.{Collecting, Holdings, running}
use Rattle.mako_pause.specs.Keeping.{StageIsKnown}
use Rattle.mako_pause.specs.declared.stage.ChoiceStage.{ChoiceStage}
use Rattle.mako_pause.specs.declared.stage.ChoiceStage.TheVariants.{LoadingLive, LoadingTop, LoadingHome}
use Rattle.mako_pause.specs.declared.stage.ChoiceStage.TheVariants.{StoringLeaving, StoringHome, StoringTop}
use Rattle.mako_pause.specs.declared.stage.ChoiceStage.TheVariants.{StoringEvac, Opening as Reopening}
use Rattle.mako_pause.specs.declared.stage.CollectStage.{CollectStage}
use Rattle.mako_pause.specs.declared.stage.CollectStage.TheVariants.{Idle, Pausing, Forwarding, Barriers, Emptying}
use Rattle.mako_pause.specs.declared.stage.CollectStage.TheVariants.{Polling, Choosing, Noticing, Ended}
use Rattle.mako_seat.specs.declared.seat.Seat.{Seat}
use Rattle.mako_seat.specs.declared.seat.Seat.TheVariants.{Mutator}
use Rattle.mako_mutating.specs.Mutators.{stepped}
use Rattle.mako_mutating.specs.MutatorFacets.{task_admission}
use Rattle.mako_collecting.specs.Facets.{names_of, part_of, stage_part}
use Rattle.mako_collecting.specs.Findings.{StageFound, ChoiceFound}
use Rattle.mako_sitting.specs.Seats.{AllSit, CollectorSits}
use Rattle.mako_sitting_mutators.proofs.MutatorBeside.{leaves}
use Rattle.mako_sitting_mutators.proofs.MutatorQuiet.{tops_same}

-- the words of tops are as they were
abbrev SameTops : Numbers → List ℕ → List ℕ → Type 0
SameTops n words us = (t : ℕ) → Within n (top t) → word_at n us (top t) ≡ word_at n words (top t)

module _ (n : Numbers) (words us : List ℕ) (agree : AgreeOnLives n words us) (k : Holdings) (shape : k.shape ≡ n) where
  choice_found : (stage : ChoiceStage) → StageIsKnown k (Choosing stage)
      → (IsInPause (stage_part n k (Choosing stage)) → SameTops n words us) → ChoiceFound n words k stage
      → ChoiceFound n us k stage
  choice_found (LoadingLive r place) is tops found =
      findings_stay n words us (running k) r place k.used k.chosen agree (tops tt)
      (subst (λ (j : Numbers). r < j.servers) shape is.1.server)
      (let low = subst (λ (j : Numbers). place < j.tablets) shape is.1.place in omega arith) found
  choice_found (LoadingTop r place number) is tops found =
      let server = subst (λ (j : Numbers). r < j.servers) shape is.1.server in
      let low = subst (λ (j : Numbers). place < j.tablets) shape is.1.place in (
        findings_stay n words us (running k) r place k.used k.chosen agree (tops tt) server (omega arith) found.0,
        found.1 ∙ ap (λ x. live_in (live_at x) (running k))
            (sym (agree (r * n.tablets + place) (parts_belong.tablet_in_range n r place server low))),
      )
  choice_found (LoadingHome i) is tops found = found
  choice_found (StoringLeaving i gift) is tops found = found
  choice_found (StoringHome i gift) is tops found = found
  choice_found (StoringTop i) is tops found = found
  choice_found StoringEvac is tops found = found
  choice_found (Reopening i) is tops found = found

  stage_found : (stage : CollectStage) → StageIsKnown k stage
      → (IsInPause (stage_part n k stage) → SameTops n words us) → StageFound n words k stage
      → StageFound n us k stage
  stage_found (Choosing stage) is tops found = choice_found stage is tops found
  stage_found (Idle stage) is tops found = tt
  stage_found (Pausing stage) is tops found = tt
  stage_found (Forwarding stage) is tops found = tt
  stage_found (Barriers stage) is tops found = tt
  stage_found (Emptying r) is tops found = tt
  stage_found Polling is tops found = tt
  stage_found (Noticing stage) is tops found = tt
  stage_found Ended is tops found = tt

module _ (n : Numbers) (w : Facts) (s : JointScene) (seats : List Seat) (m : ℕ) (d : Driving)
    (all : AllSit n w s seats) (here : slice_get seats m ≡ Some (Mutator d)) (act : IsAct (drivers.next_of d)) where
  pub found_after : (i : ℕ) (c : Collecting) → CollectorSits n w s all.taker all.places i c
      → StageFound n (stepped s m d).words c.kept c.stage
  found_after i c it =
      stage_found n s.words (stepped s m d).words
      (λ t within. leaves n w s seats m d all here act (live t) within (λ x. x)) c.kept it.here.shape c.stage
      it.keeps.stage
      (λ paused. tops_same n w s seats m d all here act
      (gates_drain n w s all.joint (collector_seat n) (part_of n c) (names_of c) it.here.phase paused m
      (task_admission d.progress.task) (all.each m (Mutator d) here).seen.phase))
      it.found
