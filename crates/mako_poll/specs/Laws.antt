-- What is true of rings, flags and polls.
use Rattle.std.specs.Prelude.{ℕ, true, false, ◌≡◌, ◌<◌, ◌≤◌, ◌⊎◌, List, length, slice_set}
use Rattle.mako_shape.specs.declared.numbers.Numbers.{Numbers}
use Rattle.mako_shape.specs.Places.{Place, Within, index, total, word_at}
use Rattle.mako_ring.specs.Facets.{ServerFacet, elsewhere, reading, Scene, resting, flags_of, IsPolled}
use Rattle.mako_ring.specs.Polling.{PollingHolds, IsQuietScene, PollingStands}
use Rattle.mako_poll.specs.Steps.{Wrote, Turns, ServerStep, PollStep, Chain, end_by}

-- the opening state: words of rings and flags, positions and counts are 0, and nobody has anything
pub record IsOpening (n : Numbers) (s : Scene) : Type 0 where
  pub words : (p : Place) → IsPolled p → Within n p → s.word p ≡ 0
  pub servers : (j : ℕ) → j < n.servers → ((s.server j).working ≡ false) × ((s.server j).doing ≡ resting)
      × ((s.server j).work_at ≡ 0)
  pub positions : (j a : ℕ) → j < n.servers → a < n.servers → ((s.server j).ghost_at a ≡ 0)
      × (((s.server j).window a).head ≡ 0) × (((s.server j).window a).tail ≡ 0)
  pub collector : (r : ℕ) → r < n.servers → ((s.collector.window r).head ≡ 0) × ((s.collector.window r).tail ≡ 0)
  pub poll : s.collector.poll ≡ elsewhere

abbrev pub OpeningHolds : Type 0
OpeningHolds = (n : Numbers) (s : Scene) → 0 < n.ring → IsOpening n s → PollingStands n s

-- each step keeps the law, for any number of servers, and so does each list of steps
abbrev pub StepsHold : Type 0
StepsHold = (n : Numbers) (s after : Scene) → PollingStands n s → PollStep n s after → PollingStands n after

abbrev pub ChainsHold : Type 0
ChainsHold = (n : Numbers) (s : Scene) (steps : List Scene) → PollingStands n s → Chain n s steps
    → PollingStands n (end_by s steps)

-- completion is told only where the heap is quiet
abbrev pub ToldIsQuiet : Type 0
ToldIsQuiet = (n : Numbers) (s : Scene) (k : ℕ) → PollingStands n s → s.collector.poll ≡ reading k → n.servers ≤ k
    → IsQuietScene n s

-- in pass 2 the heap is quiet, or a server that is still to be read shows a change
abbrev pub UnrestShows : Type 0
UnrestShows = (n : Numbers) (s : Scene) (k : ℕ) → PollingStands n s → s.collector.poll ≡ reading k
    → IsQuietScene n s ⊎ ((j : ℕ) × ((k ≤ j) × (j < n.servers) × ((flags_of s.word j).changed ≡ true)))

-- quiet is kept by each step of a server
abbrev pub QuietStays : Type 0
QuietStays = (n : Numbers) (s after : Scene) (i : ℕ) (f g : ServerFacet) → PollingStands n s → s.server i ≡ f
    → Turns n s after i g → ServerStep n s.word after.word i f g → IsQuietScene n s → IsQuietScene n after

-- what is kept says the polling invariant in words
abbrev pub StandsSaysHolds : Type 0
StandsSaysHolds = (n : Numbers) (s : Scene) → PollingStands n s → PollingHolds n s

-- a write into the list of all words is the write of one word by place
abbrev pub WritesAreOne : Type 0
WritesAreOne = (n : Numbers) (words : List ℕ) (p : Place) (x : ℕ) → length words ≡ total n → Within n p
    → Wrote n (word_at n words) (word_at n (slice_set words (index n p) x)) p x
