-- What rings, flags and polls read of the seats.
use Rattle.std.specs.Prelude.{ℕ, Bool, ◌≢◌, ◌<◌}
use Rattle.mako_words.specs.declared.flag_word.FlagWord.{FlagWord}
use Rattle.mako_words.specs.Flags.{flag_at}
use Rattle.mako_shape.specs.declared.numbers.Numbers.{Numbers}
use Rattle.mako_shape.specs.Places.{Place, flags, work, ghost}
use Rattle.mako_ring.specs.declared.tracing.Source.{Source}
use Rattle.mako_ring.specs.declared.tracing.Source.TheVariants.{Collector, Server}
use Rattle.mako_ring.specs.declared.window.Window.{Window}

-- what a server is about to do on a ring
pub data Doing : Type 0 where
  resting : Doing
  -- it found the slot at the head empty, and is to raise ghost
  sending : (receiver : ℕ) → Doing
  -- it has raised ghost, and is to store its outgoing name
  storing : (receiver : ℕ) → Doing
  -- it found this word at its position, and is to raise busy
  taking : (source : Source) (word : ℕ) → Doing
  -- it has raised busy, and is to store 0
  clearing : (source : Source) (word : ℕ) → Doing

-- what is read of a server: whether it has anything in hand, outgoing, on its stack, taken off or under a scan; its
-- position in its work ring and in the ring from each server; its window of the ring to each server
pub record ServerFacet : Type 0 where
  pub working : Bool
  pub work_at : ℕ
  pub ghost_at : ℕ → ℕ
  pub window : ℕ → Window
  pub doing : Doing

-- where the collector is
pub data Poll : Type 0 where
  -- anywhere else
  elsewhere : Poll
  -- it found the slot at the head of that work ring empty, and is to store its first pending name
  forwarding : (receiver : ℕ) → Poll
  -- in pass 1, with the servers below this one found clean
  polling : (next : ℕ) → Poll
  -- in pass 2, with the servers below this one read; past it, with all read, completion is told
  reading : (next : ℕ) → Poll

-- what is read of the collector: whether names are pending, and its window of each work ring
pub record CollectorFacet : Type 0 where
  pub pending : Bool
  pub window : ℕ → Window
  pub poll : Poll

-- what rings, flags and polls read of a state: words by place, the servers, the collector
pub record Scene : Type 0 where
  pub word : Place → ℕ
  pub server : ℕ → ServerFacet
  pub collector : CollectorFacet

-- the flags of a server
abbrev pub flags_of : (Place → ℕ) → ℕ → FlagWord
flags_of word s = flag_at (word (flags s))

-- the slot at a server's position
abbrev pub incoming : ℕ → ServerFacet → Source → Place
incoming s f Collector = work s f.work_at
incoming s f (Server a) = ghost a s (f.ghost_at a)

-- a ring that leads to the server: its work ring, or that from another server
abbrev pub IsSource : Numbers → ℕ → Source → Type 0
IsSource n s Collector = Unit {0}
IsSource n s (Server a) = (a < n.servers) × (a ≢ s)

-- it is about to store a name
abbrev pub IsStoring : Doing → Type 0
IsStoring (storing r) = Unit {0}
IsStoring d = ⊥

-- it is about to empty a slot
abbrev pub IsClearing : Doing → Type 0
IsClearing (clearing source w) = Unit {0}
IsClearing d = ⊥

-- the places that rings, flags and polls read
abbrev pub IsPolled : Place → Type 0
IsPolled (flags s) = Unit {0}
IsPolled (work s k) = Unit {0}
IsPolled (ghost a b k) = Unit {0}
IsPolled p = ⊥
