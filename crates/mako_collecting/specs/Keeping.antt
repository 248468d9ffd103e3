-- What the collector keeps of itself and of words, beside the groups.
use Rattle.std.specs.Prelude.{ℕ, ◌≡◌, ◌<◌, true, false, List, [], slice_index, ◌≢◌, ◌==◌, if◌then◌else◌, length}
use Rattle.std.specs.Prelude.{slice_set}
use Rattle.mako_words.specs.Names.{name_word}
use Rattle.mako_shape.specs.declared.numbers.Numbers.{Numbers}
use Rattle.mako_shape.specs.Places.{barrier, index, total, word_at}
use Rattle.mako_step.specs.Machines.{IsAct}
use Rattle.mako_ring.specs.Contents.{OthersEmpty, NextPlace, after_place}
use Rattle.mako_poll.specs.Polls.{stage_next}
use Rattle.mako_pause.specs.Collecting.{Holdings, Collecting}
use Rattle.mako_pause.specs.Keeping.{IsKeptKnown, StageIsKnown}
use Rattle.mako_pause.specs.declared.stage.PauseStage.{PauseStage}
use Rattle.mako_pause.specs.declared.stage.PauseStage.TheVariants.{Shutting, Draining, LoadingRoot, StoringTrace}
use Rattle.mako_pause.specs.declared.stage.PauseStage.TheVariants.{Opening}
use Rattle.mako_pause.specs.declared.stage.BarrierStage.{BarrierStage}
use Rattle.mako_pause.specs.declared.stage.BarrierStage.TheVariants.{Loading, Clearing}
use Rattle.mako_pause.specs.declared.stage.ChoiceStage.{ChoiceStage}
use Rattle.mako_pause.specs.declared.stage.ChoiceStage.TheVariants.{Opening as Reopening}
use Rattle.mako_pause.specs.declared.stage.CollectStage.{CollectStage}
use Rattle.mako_pause.specs.declared.stage.CollectStage.TheVariants.{Idle, Pausing, Forwarding, Barriers, Emptying}
use Rattle.mako_pause.specs.declared.stage.CollectStage.TheVariants.{Polling, Choosing, Noticing, Ended}

-- ---- by its stage

-- in a pause it does not hold the gates for the choice yet, and no name is pending but for the snapshot
abbrev pub PauseKeeps : Holdings → PauseStage → Type 0
PauseKeeps k (Shutting pause m) = (k.gates_shut ≡ false) × (k.pending ≡ [])
PauseKeeps k (Draining pause m) = (k.gates_shut ≡ false) × (k.pending ≡ [])
PauseKeeps k (LoadingRoot m q) = k.gates_shut ≡ false
PauseKeeps k StoringTrace = k.gates_shut ≡ false
PauseKeeps k (Opening m) = k.gates_shut ≡ false

-- at the barrier rings no name is pending, and the name that it found still stands in its slot
abbrev pub BarrierKeeps : Numbers → List ℕ → Holdings → BarrierStage → Type 0
BarrierKeeps n words k (Loading m) = k.pending ≡ []
BarrierKeeps n words k (Clearing m x) =
    (k.pending ≡ []) × (word_at n words (barrier m (slice_index k.barrier_at m)) ≡ name_word x)

-- once Evac is stored the gates are opened
abbrev pub ChoiceKeeps : Holdings → ChoiceStage → Type 0
ChoiceKeeps k (Reopening m) = k.gates_shut ≡ false
ChoiceKeeps k stage = Unit {0}

abbrev pub StageKeeps : Numbers → List ℕ → Holdings → CollectStage → Type 0
StageKeeps n words k (Idle stage) = k.gates_shut ≡ false
StageKeeps n words k (Pausing stage) = PauseKeeps k stage
StageKeeps n words k (Forwarding stage) = Unit {0}
StageKeeps n words k (Barriers stage) = BarrierKeeps n words k stage
StageKeeps n words k (Emptying r) = k.pending ≡ []
StageKeeps n words k Polling = (k.pending ≡ []) × IsAct (stage_next n k.poll.stage)
StageKeeps n words k (Choosing stage) = ChoiceKeeps k stage
StageKeeps n words k (Noticing stage) = k.gates_shut ≡ false
StageKeeps n words k Ended = Unit {0}

-- ---- the barrier rings

-- the rings of the mutators below this one were found empty in the present pass
abbrev pub barriers_passed : Numbers → BarrierStage → ℕ
barriers_passed n (Loading m) = m
barriers_passed n (Clearing m x) = 0

abbrev pub passed_at : Numbers → CollectStage → ℕ
passed_at n (Barriers stage) = barriers_passed n stage
passed_at n (Emptying r) = n.mutators
passed_at n Polling = n.mutators
passed_at n stage = 0

-- and are so, while it holds the gates
abbrev pub PassedAreEmpty : Numbers → List ℕ → ℕ → Type 0
PassedAreEmpty n words passed = (m slot : ℕ) → m < passed → m < n.mutators → slot < n.ring
    → word_at n words (barrier m slot) ≡ 0

-- a mutator's barrier ring: what stands there stands from the collector's position on, up to the mutator's place
pub record BarrierRing (n : Numbers) (words : List ℕ) (m at place : ℕ) : Type 0 where
  pub others : OthersEmpty n.ring (λ slot. word_at n words (barrier m slot)) at
  pub next : NextPlace n.ring (λ slot. word_at n words (barrier m slot)) at place

abbrev pub BarrierRingsStand : Numbers → List ℕ → (places : ℕ → ℕ) → Holdings → Type 0
BarrierRingsStand n words places k =
    (m : ℕ) → m < n.mutators → BarrierRing n words m (slice_index k.barrier_at m) (places m)

-- ---- the whole

-- The collector's machine, with the mutators' places in their barrier rings.
pub record CollectorKeeps (n : Numbers) (words : List ℕ) (places : ℕ → ℕ) (c : Collecting) : Type 0 where
  pub stage : StageIsKnown c.kept c.stage
  pub keeps : StageKeeps n words c.kept c.stage
  pub empty : c.kept.gates_shut ≡ true → PassedAreEmpty n words (passed_at n c.stage)
  pub rings : BarrierRingsStand n words places c.kept

-- ---- beside other seats

-- no barrier slot changes
abbrev pub SameBarriers : Numbers → List ℕ → List ℕ → Type 0
SameBarriers n words us = (m slot : ℕ) → m < n.mutators → slot < n.ring
    → word_at n us (barrier m slot) ≡ word_at n words (barrier m slot)

-- what it keeps stands where another seat changes no barrier slot
abbrev pub OthersLeaveIt : Type 0
OthersLeaveIt = (n : Numbers) (words us : List ℕ) (places : ℕ → ℕ) (c : Collecting) → IsKeptKnown c.kept
    → c.kept.shape ≡ n → SameBarriers n words us → CollectorKeeps n words places c → CollectorKeeps n us places c

-- the place of one mutator rises
abbrev pub place_up : Numbers → (ℕ → ℕ) → ℕ → ℕ → ℕ
place_up n places m x = if x == m then after_place n.ring (places m) else places x

-- And where a mutator puts a name into the empty slot at its place, as it may while the gates are not held.
abbrev pub PutsLeaveIt : Type 0
PutsLeaveIt = (n : Numbers) (words : List ℕ) (places : ℕ → ℕ) (c : Collecting) → IsKeptKnown c.kept
    → c.kept.shape ≡ n → length words ≡ total n → c.kept.gates_shut ≡ false → CollectorKeeps n words places c
    → (m word : ℕ) → m < n.mutators → places m < n.ring → word_at n words (barrier m (places m)) ≡ 0 → word ≢ 0
    → CollectorKeeps n (slice_set words (index n (barrier m (places m))) word) (place_up n places m) c
