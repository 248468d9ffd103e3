-- The polling invariant: what is true of rings, flags and polls at every time.
use Rattle.std.specs.Prelude.{ℕ, true, false, ◌≡◌, ◌≢◌, ◌+◌, ◌%◌, ◌<◌, ◌≤◌, ◌⊎◌}
use Rattle.mako_shape.specs.declared.numbers.Numbers.{Numbers}
use Rattle.mako_shape.specs.Places.{Place, flags, work, ghost}
use Rattle.mako_ring.specs.Contents.{RingStands}
use Rattle.mako_ring.specs.Facets.{Doing, resting, sending, storing, taking, clearing, ServerFacet, Poll, elsewhere}
use Rattle.mako_ring.specs.Facets.{forwarding, polling, reading, CollectorFacet, Scene, flags_of, incoming, IsSource}
use Rattle.mako_ring.specs.Facets.{IsStoring, IsClearing}
use Rattle.mako_ring.specs.Rings.{slots_of}
use Rattle.mako_ring.specs.declared.ring.Ring.TheVariants.{Work, Ghost}
use Rattle.mako_ring.specs.declared.tracing.Source.{Source}

-- The flags of a server. All is said of a flag that is clear: then nothing is to be read from it that is not there.
pub record FlagsStand (n : Numbers) (word : Place → ℕ) (s : ℕ) (f : ServerFacet) : Type 0 where
  pub packed : word (flags s) < 8
  -- with busy clear it has no work, and is not about to clear a slot
  pub busy : (flags_of word s).busy ≡ false → (f.working ≡ false) × (¬ IsClearing f.doing)
  -- with ghost clear each slot that it fills is empty, and it is not about to store
  pub sent : (flags_of word s).ghost_ ≡ false → (¬ IsStoring f.doing)
      × ((r k : ℕ) → r < n.servers → k < n.ring → word (ghost s r k) ≡ 0)
  -- the ring to itself is never used
  pub own : (k : ℕ) → k < n.ring → word (ghost s s k) ≡ 0

-- it may put its outgoing name into the ring to that server
pub record MayPut (n : Numbers) (word : Place → ℕ) (s : ℕ) (f : ServerFacet) (r : ℕ) : Type 0 where
  pub in_range : r < n.servers
  pub other : r ≢ s
  pub working : f.working ≡ true
  pub free : word (ghost s r ((f.window r).head % n.ring)) ≡ 0
  pub room : (f.window r).head < (f.window r).tail + n.ring

-- it may take that word from there
pub record MayTake (n : Numbers) (word : Place → ℕ) (s : ℕ) (f : ServerFacet) (source : Source) (w : ℕ) : Type 0 where
  pub is_source : IsSource n s source
  pub found : word (incoming s f source) ≡ w
  pub filled : w ≢ 0

-- what it is about to do, it may do
abbrev pub DoingStands : Numbers → (Place → ℕ) → ℕ → ServerFacet → Doing → Type 0
DoingStands n word s f resting = Unit {0}
DoingStands n word s f (sending r) = MayPut n word s f r
DoingStands n word s f (storing r) = MayPut n word s f r
DoingStands n word s f (taking source w) = MayTake n word s f source w
DoingStands n word s f (clearing source w) = MayTake n word s f source w

-- the ring from one server to another
abbrev pub GhostStands : Numbers → (Place → ℕ) → ℕ → ℕ → ServerFacet → ServerFacet → Type 0
GhostStands n word a b sender receiver =
    RingStands n.ring (slots_of word (Ghost a b)) (receiver.ghost_at a) (sender.window b)

-- the work ring of a server
abbrev pub WorkStands : Numbers → (Place → ℕ) → ℕ → CollectorFacet → ServerFacet → Type 0
WorkStands n word s c receiver = RingStands n.ring (slots_of word (Work s)) receiver.work_at (c.window s)

-- no work or ghost slot, pending list, hand, outgoing name, stack or scan holds anything
pub record IsQuietScene (n : Numbers) (s : Scene) : Type 0 where
  pub servers : (j : ℕ) → j < n.servers → (s.server j).working ≡ false
  pub works : (r k : ℕ) → r < n.servers → k < n.ring → s.word (work r k) ≡ 0
  pub ghosts : (a b k : ℕ) → a < n.servers → b < n.servers → k < n.ring → s.word (ghost a b k) ≡ 0
  pub pending : s.collector.pending ≡ false

-- nothing is pending, and each name put into a work ring was seen taken
pub record NothingSent (n : Numbers) (c : CollectorFacet) : Type 0 where
  pub pending : c.pending ≡ false
  pub windows : (r : ℕ) → r < n.servers → (c.window r).tail ≡ (c.window r).head

-- a server that was found clean shows a change, or is clean: with changed clear, busy and ghost are
abbrev pub StaysClean : (Place → ℕ) → ℕ → Type 0
StaysClean word j = (flags_of word j).changed ≡ false → ((flags_of word j).busy ≡ false)
    × ((flags_of word j).ghost_ ≡ false)

-- no server from that one on shows a change
abbrev pub NoChange : Numbers → (Place → ℕ) → ℕ → Type 0
NoChange n word k = (j : ℕ) → k ≤ j → j < n.servers → (flags_of word j).changed ≡ false

-- where the collector is, what it found is still so
abbrev pub PollStands : Numbers → Scene → Poll → Type 0
PollStands n s elsewhere = Unit {0}
PollStands n s (forwarding r) = (r < n.servers) × (s.word (work r ((s.collector.window r).head % n.ring)) ≡ 0)
    × ((s.collector.window r).head < (s.collector.window r).tail + n.ring)
PollStands n s (polling k) = NothingSent n s.collector × ((j : ℕ) → j < n.servers → j < k → StaysClean s.word j)
PollStands n s (reading k) = NothingSent n s.collector × (NoChange n s.word k → IsQuietScene n s)

-- The polling invariant with its further facts, which each step keeps: the flags, what servers are about to do, the
-- rings between servers, the work rings, and what the present poll has found.
pub record PollingStands (n : Numbers) (s : Scene) : Type 0 where
  pub flags : (j : ℕ) → j < n.servers → FlagsStand n s.word j (s.server j)
  pub doing : (j : ℕ) → j < n.servers → DoingStands n s.word j (s.server j) (s.server j).doing
  pub ghosts : (a b : ℕ) → a < n.servers → b < n.servers → a ≢ b → GhostStands n s.word a b (s.server a) (s.server b)
  pub works : (r : ℕ) → r < n.servers → WorkStands n s.word r s.collector (s.server r)
  pub poll : PollStands n s s.collector.poll

-- ---- the polling invariant in words

-- What is said of a poll, in words: in pass 1 each server that was found clean shows a change, or is clean; in pass 2
-- the heap is quiet, or a server that is still to be read shows a change; in both nothing is pending and no work slot
-- is filled.
abbrev pub PollSays : Numbers → Scene → Poll → Type 0
PollSays n s elsewhere = Unit {0}
PollSays n s (forwarding r) = Unit {0}
PollSays n s (polling k) = (s.collector.pending ≡ false)
    × ((r i : ℕ) → r < n.servers → i < n.ring → s.word (work r i) ≡ 0)
    × ((j : ℕ) → j < n.servers → j < k → ((flags_of s.word j).changed ≡ true)
    ⊎ (((flags_of s.word j).busy ≡ false) × ((flags_of s.word j).ghost_ ≡ false)))
PollSays n s (reading k) = (s.collector.pending ≡ false)
    × ((r i : ℕ) → r < n.servers → i < n.ring → s.word (work r i) ≡ 0)
    × (IsQuietScene n s ⊎ ((j : ℕ) × ((k ≤ j) × (j < n.servers) × ((flags_of s.word j).changed ≡ true))))

-- the polling invariant in words
pub record PollingHolds (n : Numbers) (s : Scene) : Type 0 where
  pub busy : (j : ℕ) → j < n.servers → (s.server j).working ≡ true → (flags_of s.word j).busy ≡ true
  pub sent : (j r k : ℕ) → j < n.servers → r < n.servers → k < n.ring → s.word (ghost j r k) ≢ 0
      → (flags_of s.word j).ghost_ ≡ true
  pub ghosts : (a b : ℕ) → a < n.servers → b < n.servers → a ≢ b → GhostStands n s.word a b (s.server a) (s.server b)
  pub works : (r : ℕ) → r < n.servers → WorkStands n s.word r s.collector (s.server r)
  pub poll : PollSays n s s.collector.poll
