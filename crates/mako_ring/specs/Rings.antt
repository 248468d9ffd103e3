-- The rings of the heap, and the places of their slots.
use Rattle.std.specs.Prelude.{◌≢◌, ℕ, ◌<◌}
use Rattle.mako_shape.specs.declared.numbers.Numbers.{Numbers}
use Rattle.mako_shape.specs.Places.{Place, barrier, work, ghost, notice}
use Rattle.mako_ring.specs.declared.ring.Ring.{Ring}
use Rattle.mako_ring.specs.declared.ring.Ring.TheVariants.{Barrier, Work, Ghost, Notice}

-- a slot of a ring
abbrev pub slot_place : Ring → ℕ → Place
slot_place (Barrier m) k = barrier m k
slot_place (Work s) k = work s k
slot_place (Ghost a b) k = ghost a b k
slot_place (Notice s) k = notice s k

-- the words in the slots of a ring
abbrev pub slots_of : (Place → ℕ) → Ring → ℕ → ℕ
slots_of word ring k = word (slot_place ring k)

-- both ends of the ring are in range, and a server has no ring to itself
abbrev pub IsRing : Numbers → Ring → Type 0
IsRing n (Barrier m) = m < n.mutators
IsRing n (Work s) = s < n.servers
IsRing n (Ghost a b) = (a < n.servers) × (b < n.servers) × (a ≢ b)
IsRing n (Notice s) = s < n.servers
