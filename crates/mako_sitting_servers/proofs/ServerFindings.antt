-- What the collector has found stands past a step of a server.
use Rattle.std.proofs.Common.{◌≡◌, ℕ, ◌+◌, ◌*◌, ◌<◌, List, sym, ap, subst, ◌∙◌, arith}
use Rattle.mako_shape.specs.declared.numbers.Numbers.{Numbers}
use Rattle.mako_shape.specs.Places.{top, Within, word_at}
use Rattle.mako_shape.proofs.BelongingLaws.{parts_belong}
use Rattle.mako_words.specs.Lives.{live_at}
use Rattle.mako_phases.specs.Lives.{live_in}
use Rattle.mako_phases.specs.LiveSteps.{AgreeOnLives}
use Rattle.mako_phases.proofs.Choosing.{findings_stay}
use Rattle.mako_pause.specs.Collecting.{Holdings, running}
use Rattle.mako_pause.specs.Keeping.{StageIsKnown, ChoiceIsKnown}
use Rattle.mako_pause.specs.declared.stage.ChoiceStage.{ChoiceStage}
use Rattle.mako_pause.specs.declared.stage.ChoiceStage.TheVariants.{LoadingLive, LoadingTop, LoadingHome}
use Rattle.mako_pause.specs.declared.stage.ChoiceStage.TheVariants.{StoringLeaving, StoringHome, StoringTop}
use Rattle.mako_pause.specs.declared.stage.ChoiceStage.TheVariants.{StoringEvac, Opening as Reopening}
use Rattle.mako_pause.specs.declared.stage.CollectStage.{CollectStage}
use Rattle.mako_pause.specs.declared.stage.CollectStage.TheVariants.{Idle, Pausing, Forwarding, Barriers, Emptying}
use Rattle.mako_pause.specs.declared.stage.CollectStage.TheVariants.{Polling, Choosing, Noticing, Ended}
use Rattle.mako_collecting.specs.Findings.{ChoiceFound, StageFound}

-- the step stores no live word and no top
pub record LeavesUsed (n : Numbers) (words after : List ℕ) : Type 0 where
  pub lives : AgreeOnLives n words after
  pub tops : (t : ℕ) → Within n (top t) → word_at n after (top t) ≡ word_at n words (top t)

-- the collector loads live words and tops
abbrev pub LoadsUsed : CollectStage → Type 0
LoadsUsed (Choosing (LoadingLive r place)) = Unit {0}
LoadsUsed (Choosing (LoadingTop r place number)) = Unit {0}
LoadsUsed stage = ⊥

module _ (n : Numbers) (words after : List ℕ) (k : Holdings) (shape : k.shape ≡ n) where
  choice_found : (stage : ChoiceStage) → ChoiceIsKnown k stage → (LoadsUsed (Choosing stage) → LeavesUsed n words after)
      → ChoiceFound n words k stage → ChoiceFound n after k stage
  choice_found (LoadingLive r place) known leaves f =
      let l = leaves tt in
      let low : r < n.servers = subst (λ (m : Numbers). r < m.servers) shape known.server in
      let few : place < n.tablets = subst (λ (m : Numbers). place < m.tablets) shape known.place in
      findings_stay n words after (running k) r place k.used k.chosen l.lives l.tops low (omega arith) f
  choice_found (LoadingTop r place number) known leaves f =
      let l = leaves tt in
      let low : r < n.servers = subst (λ (m : Numbers). r < m.servers) shape known.server in
      let few : place < n.tablets = subst (λ (m : Numbers). place < m.tablets) shape known.place in (
        findings_stay n words after (running k) r place k.used k.chosen l.lives l.tops low (omega arith) f.0,
        f.1 ∙ sym (ap (λ x. live_in (live_at x) (running k))
            (l.lives (r * n.tablets + place) (parts_belong.tablet_in_range n r place low few))),
      )
  choice_found (LoadingHome i) known leaves f = f
  choice_found (StoringLeaving i gift) known leaves f = f
  choice_found (StoringHome i gift) known leaves f = f
  choice_found (StoringTop i) known leaves f = f
  choice_found StoringEvac known leaves f = f
  choice_found (Reopening m) known leaves f = f

  pub stage_found : (stage : CollectStage) → StageIsKnown k stage → (LoadsUsed stage → LeavesUsed n words after)
      → StageFound n words k stage → StageFound n after k stage
  stage_found (Choosing stage) known leaves f = choice_found stage known.1 leaves f
  stage_found (Idle x) known leaves f = f
  stage_found (Pausing x) known leaves f = f
  stage_found (Forwarding x) known leaves f = f
  stage_found (Barriers x) known leaves f = f
  stage_found (Emptying x) known leaves f = f
  stage_found Polling known leaves f = f
  stage_found (Noticing x) known leaves f = f
  stage_found Ended known leaves f = f
