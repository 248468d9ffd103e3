-- The machine that puts a word into a ring.
use Rattle.std.specs.Prelude.{◌≡◌, ◌≢◌, ◌↔◌, List, ◌∷◌, ℕ, ◌%◌, ◌<◌, ◌==◌, if◌then◌else◌}
use Rattle.mako_shape.specs.declared.numbers.Numbers.{Numbers}
use Rattle.mako_shape.specs.Places.{flags, index}
use Rattle.mako_step.specs.Acts.{does}
use Rattle.mako_step.specs.Trails.{Observation, Goes}
use Rattle.mako_step.specs.declared.act.Op.TheVariants.{Load, Store, Or}
use Rattle.mako_step.specs.declared.step.Step.{Step}
use Rattle.mako_step.specs.declared.step.Step.TheVariants.{Ended as NoStep}
use Rattle.mako_ring.specs.declared.put.Putting.TheVariants.{Stored, Occupied}
use Rattle.mako_ring.specs.declared.put.PutStage.{PutStage}
use Rattle.mako_ring.specs.declared.put.PutStage.TheVariants.{Looking, Raising, Storing, Ended}
use Rattle.mako_ring.specs.declared.ring.Ring.{Ring}
use Rattle.mako_ring.specs.declared.ring.Ring.TheVariants.{Barrier, Work, Ghost, Notice}
use Rattle.mako_ring.specs.declared.window.Window.{Window}
use Rattle.mako_ring.specs.FlagBits.{sending_bits}
use Rattle.mako_ring.specs.Rings.{slot_place, IsRing}
use Rattle.mako_ring.specs.Windows.{IsWindow, put_up}

-- the geometry, the ring, its putter's window, the word, and the stage
pub record PutView : Type 0 where
  pub shape : Numbers
  pub ring : Ring
  pub window : Window
  pub word : ℕ
  pub stage : PutStage

-- the index of the slot at the window's head
abbrev pub head_slot : PutView → ℕ
head_slot p = index p.shape (slot_place p.ring (p.window.head % p.shape.ring))

abbrev pub stage_next : PutView → PutStage → Step
stage_next p Looking = does (head_slot p) Load
stage_next p (Raising server) = does (index p.shape (flags server)) (Or sending_bits)
stage_next p Storing = does (head_slot p) (Store p.word)
stage_next p (Ended putting) = NoStep

abbrev pub next_of : PutView → Step
next_of p = stage_next p p.stage

-- with the slot found empty: a server sends with its flags raised, all others store at once
abbrev pub found_empty : Ring → PutStage
found_empty (Barrier m) = Storing
found_empty (Work s) = Storing
found_empty (Ghost sender receiver) = Raising sender
found_empty (Notice s) = Storing

abbrev pub stage_fed : PutView → PutStage → ℕ → PutStage
stage_fed p Looking w = if w == 0 then found_empty p.ring else Ended (Occupied w)
stage_fed p (Raising server) w = Storing
stage_fed p Storing w = Ended (Stored (put_up p.shape.ring p.window))
stage_fed p (Ended putting) w = Ended putting

abbrev pub fed : PutView → ℕ → PutView
fed p w = record p { stage = stage_fed p p.stage w }

-- whatever it finds
abbrev pub Fits : PutView → ℕ → Type 0
Fits p w = Unit {0}

abbrev pub stage_rank : PutStage → ℕ
stage_rank Looking = 3
stage_rank (Raising server) = 2
stage_rank Storing = 1
stage_rank (Ended putting) = 0

abbrev pub rank : PutView → ℕ
rank p = stage_rank p.stage

-- the server that raises its flags is in range
abbrev pub IsStage : Numbers → PutStage → Type 0
IsStage n Looking = Unit {0}
IsStage n (Raising server) = server < n.servers
IsStage n Storing = Unit {0}
IsStage n (Ended putting) = Unit {0}

pub record IsKnown (n : Numbers) (r : Ring) (w : Window) (s : PutStage) : Type 0 where
  pub ring : IsRing n r
  pub window : IsWindow n.ring w
  pub stage : IsStage n s

-- ---- its answers
-- the trail begins with the look, which found this word
abbrev pub LookFound : PutView → ℕ → List Observation → Type 0
LookFound p w trail = (more : List Observation)
    × (trail ≡ record { act = record { word = head_slot p; op = Load }; found = w } ∷ more)

-- what a put that begins comes to: `Occupied` exactly where its look found a word other than 0, and with it; and else,
-- at its end, `Stored` with the window after the put
pub record PutsAnswer : Type 0 where
  pub occupied : (p l : PutView) (trail : List Observation) (w : ℕ) → p.stage ≡ Looking
      → Goes next_of Fits fed p trail l → (l.stage ≡ Ended (Occupied w)) ↔ (LookFound p w trail × (w ≢ 0))
  pub stored : (p l : PutView) (trail : List Observation) (v : Window) → p.stage ≡ Looking
      → Goes next_of Fits fed p trail l → l.stage ≡ Ended (Stored v) → LookFound p 0 trail
      × (v ≡ put_up p.shape.ring p.window)
