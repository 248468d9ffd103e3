-- The machine that takes a word out of a ring.
use Rattle.std.specs.Prelude.{◌≡◌, ◌≢◌, ◌↔◌, List, ◌∷◌, ℕ, ◌<◌, ◌==◌, if◌then◌else◌}
use Rattle.mako_shape.specs.declared.numbers.Numbers.{Numbers}
use Rattle.mako_shape.specs.Places.{flags, index}
use Rattle.mako_step.specs.Acts.{does}
use Rattle.mako_step.specs.Trails.{Observation, Goes}
use Rattle.mako_step.specs.declared.act.Op.TheVariants.{Load, Store, Or}
use Rattle.mako_step.specs.declared.step.Step.{Step}
use Rattle.mako_step.specs.declared.step.Step.TheVariants.{Ended as NoStep}
use Rattle.mako_ring.specs.declared.take.Taking.TheVariants.{Got, Empty}
use Rattle.mako_ring.specs.declared.take.TakeStage.{TakeStage}
use Rattle.mako_ring.specs.declared.take.TakeStage.TheVariants.{Looking, Raising, Clearing, Ended}
use Rattle.mako_ring.specs.declared.ring.Ring.{Ring}
use Rattle.mako_ring.specs.declared.ring.Ring.TheVariants.{Barrier, Work, Ghost, Notice}
use Rattle.mako_ring.specs.FlagBits.{taking_bits}
use Rattle.mako_ring.specs.Rings.{slot_place, IsRing}

-- the geometry, the ring, its taker's position, and the stage
pub record TakeView : Type 0 where
  pub shape : Numbers
  pub ring : Ring
  pub at : ℕ
  pub stage : TakeStage

-- the index of the slot at the position
abbrev pub own_slot : TakeView → ℕ
own_slot t = index t.shape (slot_place t.ring t.at)

abbrev pub stage_next : TakeView → TakeStage → Step
stage_next t Looking = does (own_slot t) Load
stage_next t (Raising server word) = does (index t.shape (flags server)) (Or taking_bits)
stage_next t (Clearing word) = does (own_slot t) (Store 0)
stage_next t (Ended taking) = NoStep

abbrev pub next_of : TakeView → Step
next_of t = stage_next t t.stage

-- with a word found: a server takes with its flags raised, the collector stores 0 at once
abbrev pub found_filled : Ring → ℕ → TakeStage
found_filled (Barrier m) w = Clearing w
found_filled (Work s) w = Raising s w
found_filled (Ghost sender receiver) w = Raising receiver w
found_filled (Notice s) w = Clearing w

abbrev pub stage_fed : TakeView → TakeStage → ℕ → TakeStage
stage_fed t Looking w = if w == 0 then Ended Empty else found_filled t.ring w
stage_fed t (Raising server word) w = Clearing word
stage_fed t (Clearing word) w = Ended (Got word)
stage_fed t (Ended taking) w = Ended taking

abbrev pub fed : TakeView → ℕ → TakeView
fed t w = record t { stage = stage_fed t t.stage w }

-- whatever it finds
abbrev pub Fits : TakeView → ℕ → Type 0
Fits t w = Unit {0}

abbrev pub stage_rank : TakeStage → ℕ
stage_rank Looking = 3
stage_rank (Raising server word) = 2
stage_rank (Clearing word) = 1
stage_rank (Ended taking) = 0

abbrev pub rank : TakeView → ℕ
rank t = stage_rank t.stage

-- the server that raises its flags is in range
abbrev pub IsStage : Numbers → TakeStage → Type 0
IsStage n Looking = Unit {0}
IsStage n (Raising server word) = server < n.servers
IsStage n (Clearing word) = Unit {0}
IsStage n (Ended taking) = Unit {0}

pub record IsKnown (n : Numbers) (r : Ring) (at : ℕ) (s : TakeStage) : Type 0 where
  pub ring : IsRing n r
  pub position : at < n.ring
  pub stage : IsStage n s

-- ---- its answers
-- the trail begins with the look, which found this word
abbrev pub LookFound : TakeView → ℕ → List Observation → Type 0
LookFound t w trail = (more : List Observation)
    × (trail ≡ record { act = record { word = own_slot t; op = Load }; found = w } ∷ more)

-- what a take that begins comes to: `Empty` exactly where its look found 0; and else, at its end, `Got` with the word
-- found
pub record TakesAnswer : Type 0 where
  pub empty : (t l : TakeView) (trail : List Observation) → t.stage ≡ Looking → Goes next_of Fits fed t trail l
      → (l.stage ≡ Ended Empty) ↔ LookFound t 0 trail
  pub got : (t l : TakeView) (trail : List Observation) (w : ℕ) → t.stage ≡ Looking → Goes next_of Fits fed t trail l
      → l.stage ≡ Ended (Got w) → LookFound t w trail × (w ≢ 0)
