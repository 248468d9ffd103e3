-- The kinds of step, as far as rings, flags and polls read them. A step names what it found and what it leaves.
use Rattle.std.specs.Prelude.{ℕ, true, false, ◌≡◌, ◌≢◌, ◌+◌, ◌%◌, ◌<◌, ◌≤◌, List, [], ◌∷◌, bit_and, bit_or}
use Rattle.mako_words.specs.Words.{all_but}
use Rattle.mako_shape.specs.declared.numbers.Numbers.{Numbers}
use Rattle.mako_shape.specs.Places.{Place, flags, work, ghost, Within}
use Rattle.mako_ring.specs.FlagBits.{busy_bit, ghost_bit, changed_bit, sending_bits, taking_bits}
use Rattle.mako_ring.specs.Contents.{after_place}
use Rattle.mako_ring.specs.Windows.{tail_up, head_up, found_room}
use Rattle.mako_ring.specs.declared.window.Window.{Window}
use Rattle.mako_ring.specs.Facets.{resting, sending, storing, taking, clearing, ServerFacet, elsewhere, forwarding}
use Rattle.mako_ring.specs.Facets.{polling}
use Rattle.mako_ring.specs.Facets.{reading, CollectorFacet, Scene, flags_of, incoming, IsSource, IsPolled}
use Rattle.mako_ring.specs.declared.tracing.Source.{Source}
use Rattle.mako_ring.specs.declared.tracing.Source.TheVariants.{Collector, Server}
use Rattle.mako_ring.specs.Polling.{NothingSent}

-- no word of rings and flags changes
abbrev pub Untouched : Numbers → (Place → ℕ) → (Place → ℕ) → Type 0
Untouched n word after = (p : Place) → IsPolled p → Within n p → after p ≡ word p

-- that word alone changes
pub record Wrote (n : Numbers) (word after : Place → ℕ) (p : Place) (x : ℕ) : Type 0 where
  pub there : after p ≡ x
  pub else : (q : Place) → IsPolled q → Within n q → q ≢ p → after q ≡ word q

-- one server goes on, and no other seat
pub record Turns (n : Numbers) (s after : Scene) (i : ℕ) (f : ServerFacet) : Type 0 where
  pub in_range : i < n.servers
  pub here : after.server i ≡ f
  pub others : (j : ℕ) → j < n.servers → j ≢ i → after.server j ≡ s.server j
  pub collector : after.collector ≡ s.collector

-- the collector goes on, and no server
pub record Collects (n : Numbers) (s after : Scene) (c : CollectorFacet) : Type 0 where
  pub here : after.collector ≡ c
  pub servers : (j : ℕ) → j < n.servers → after.server j ≡ s.server j

-- a server's positions and windows stay
pub record SameRings (n : Numbers) (f g : ServerFacet) : Type 0 where
  pub work_at : g.work_at ≡ f.work_at
  pub ghost_at : (a : ℕ) → a < n.servers → g.ghost_at a ≡ f.ghost_at a
  pub window : (r : ℕ) → r < n.servers → g.window r ≡ f.window r

-- its window to one server becomes another
pub record SetsWindow (n : Numbers) (f g : ServerFacet) (r : ℕ) (w : Window) : Type 0 where
  pub work_at : g.work_at ≡ f.work_at
  pub ghost_at : (a : ℕ) → a < n.servers → g.ghost_at a ≡ f.ghost_at a
  pub here : g.window r ≡ w
  pub else : (q : ℕ) → q < n.servers → q ≢ r → g.window q ≡ f.window q

-- its position in one ring rises
abbrev pub Rises : Numbers → ServerFacet → ServerFacet → Source → Type 0
Rises n f g Collector = (g.work_at ≡ after_place n.ring f.work_at)
    × ((a : ℕ) → a < n.servers → g.ghost_at a ≡ f.ghost_at a)
Rises n f g (Server b) = (g.work_at ≡ f.work_at) × (g.ghost_at b ≡ after_place n.ring (f.ghost_at b))
    × ((a : ℕ) → a < n.servers → a ≢ b → g.ghost_at a ≡ f.ghost_at a)

pub record Advances (n : Numbers) (f g : ServerFacet) (source : Source) : Type 0 where
  pub window : (r : ℕ) → r < n.servers → g.window r ≡ f.window r
  pub rises : Rises n f g source

-- the steps of server i, from f to g
pub data ServerStep (n : Numbers) (word after : Place → ℕ) (i : ℕ) (f g : ServerFacet) : Type 0 where
  -- it considers, pushes, dismisses, scans, takes off its stack, or looks and finds nothing to do
  Works : Untouched n word after → SameRings n f g → g.doing ≡ resting → (f.working ≡ false → g.working ≡ false)
      → ServerStep n word after i f g
  -- with an outgoing name it finds the slot at the head of its window empty
  FindsRoom : (r : ℕ) → Untouched n word after → r < n.servers → r ≢ i → f.working ≡ true
      → word (ghost i r ((f.window r).head % n.ring)) ≡ 0
      → SetsWindow n f g r (found_room n.ring (f.window r)) → g.doing ≡ sending r → g.working ≡ true
      → ServerStep n word after i f g
  -- it raises ghost and changed
  RaisesGhost : (r : ℕ) → Wrote n word after (flags i) (bit_or (word (flags i)) sending_bits) → f.doing ≡ sending r
      → g ≡ record f { doing = storing r } → ServerStep n word after i f g
  -- it stores the name
  Stores : (r x : ℕ) → Wrote n word after (ghost i r ((f.window r).head % n.ring)) x → x ≢ 0 → f.doing ≡ storing r
      → SetsWindow n f g r (head_up (f.window r)) → g.doing ≡ resting → (f.working ≡ false → g.working ≡ false)
      → ServerStep n word after i f g
  -- it finds a name at its position
  FindsName : (source : Source) (w : ℕ) → Untouched n word after → IsSource n i source → word (incoming i f source) ≡ w
      → w ≢ 0
      → g ≡ record f { doing = taking source w } → ServerStep n word after i f g
  -- it raises busy and changed
  RaisesBusy : (source : Source) (w : ℕ) → Wrote n word after (flags i) (bit_or (word (flags i)) taking_bits)
      → f.doing ≡ taking source w
      → g ≡ record f { doing = clearing source w } → ServerStep n word after i f g
  -- it empties the slot, and has the name in hand
  Clears : (source : Source) (w : ℕ) → Wrote n word after (incoming i f source) 0 → f.doing ≡ clearing source w
      → Advances n f g source → g.doing ≡ resting → ServerStep n word after i f g
  -- with nothing left to do it lowers busy
  LowersBusy : Wrote n word after (flags i) (bit_and (word (flags i)) (all_but busy_bit)) → f.working ≡ false
      → f.doing ≡ resting → g ≡ f → ServerStep n word after i f g
  -- it sees a slot emptied
  SeesEmptied : (r : ℕ) → Untouched n word after → r < n.servers → r ≢ i → (f.window r).tail < (f.window r).head
      → word (ghost i r ((f.window r).tail % n.ring)) ≡ 0 → SetsWindow n f g r (tail_up n.ring (f.window r))
      → g.doing ≡ resting
      → (f.working ≡ false → g.working ≡ false) → ServerStep n word after i f g
  -- with no window open it lowers ghost
  LowersGhost : Wrote n word after (flags i) (bit_and (word (flags i)) (all_but ghost_bit))
      → ((r : ℕ) → r < n.servers → r ≢ i → (f.window r).head ≤ (f.window r).tail)
      → f.doing ≡ resting → g ≡ f → ServerStep n word after i f g

-- the collector's windows stay
abbrev pub SameWindows : Numbers → CollectorFacet → CollectorFacet → Type 0
SameWindows n c d = (r : ℕ) → r < n.servers → d.window r ≡ c.window r

-- one of them becomes another
abbrev pub SetsWork : Numbers → CollectorFacet → CollectorFacet → ℕ → Window → Type 0
SetsWork n c d r w = (d.window r ≡ w) × ((q : ℕ) → q < n.servers → q ≢ r → d.window q ≡ c.window q)

-- the steps of the collector, from c to d
pub data CollectorStep (n : Numbers) (word after : Place → ℕ) (c d : CollectorFacet) : Type 0 where
  -- nothing: a look that found nothing ready, or a step of a seat that rings, flags and polls do not read
  Waits : Untouched n word after → d ≡ c → CollectorStep n word after c d
  -- anything that leaves rings and flags alone, and ends no poll by completion
  Leaves : Untouched n word after → SameWindows n c d → d.poll ≡ elsewhere → CollectorStep n word after c d
  -- it finds the slot at the head of a work ring empty
  FindsWorkRoom : (r : ℕ) → Untouched n word after → r < n.servers → word (work r ((c.window r).head % n.ring)) ≡ 0
      → SetsWork n c d r (found_room n.ring (c.window r)) → d.poll ≡ forwarding r → CollectorStep n word after c d
  -- it stores a pending name
  Forwards : (r x : ℕ) → Wrote n word after (work r ((c.window r).head % n.ring)) x → x ≢ 0 → c.poll ≡ forwarding r
      → SetsWork n c d r (head_up (c.window r)) → d.poll ≡ elsewhere → CollectorStep n word after c d
  -- it sees a slot of a work ring emptied
  SeesWorkEmptied : (r : ℕ) → Untouched n word after → r < n.servers → (c.window r).tail < (c.window r).head
      → word (work r ((c.window r).tail % n.ring)) ≡ 0 → SetsWork n c d r (tail_up n.ring (c.window r))
      → d.poll ≡ elsewhere → CollectorStep n word after c d
  -- with nothing pending and all windows empty it begins a poll
  BeginsPoll : Untouched n word after → NothingSent n d → SameWindows n c d → d.poll ≡ polling 0
      → CollectorStep n word after c d
  -- it ands changed away from the flags of a server, and found busy or ghost
  FindsWork : (k : ℕ) → k < n.servers → Wrote n word after (flags k) (bit_and (word (flags k)) (all_but changed_bit))
      → SameWindows n c d → d.poll ≡ elsewhere → CollectorStep n word after c d
  -- or found neither
  FindsClean : (k : ℕ) → k < n.servers → Wrote n word after (flags k) (bit_and (word (flags k)) (all_but changed_bit))
      → c.poll ≡ polling k
      → (flags_of word k).busy ≡ false → (flags_of word k).ghost_ ≡ false → d ≡ record c { poll = polling (k + 1) }
      → CollectorStep n word after c d
  -- with all found clean it goes on to pass 2
  TurnsToRead : Untouched n word after → c.poll ≡ polling n.servers → d ≡ record c { poll = reading 0 }
      → CollectorStep n word after c d
  -- it finds the flags of a server to be 0
  ReadsZero : (k : ℕ) → Untouched n word after → c.poll ≡ reading k → word (flags k) ≡ 0
      → d ≡ record c { poll = reading (k + 1) } → CollectorStep n word after c d

-- one step of any seat
pub data PollStep (n : Numbers) (s after : Scene) : Type 0 where
  Serves : (i : ℕ) (f g : ServerFacet) → s.server i ≡ f → Turns n s after i g → ServerStep n s.word after.word i f g
      → PollStep n s after
  -- the collector, or with `Waits` any seat that is not read
  Collected : (d : CollectorFacet) → Collects n s after d → CollectorStep n s.word after.word s.collector d
      → PollStep n s after

-- a list of steps
abbrev pub Chain : Numbers → Scene → List Scene → Type 0
Chain n s [] = Unit {0}
Chain n s (t ∷ ts) = PollStep n s t × Chain n t ts

-- where a list of steps from a state ends
abbrev pub end_by : {S : Type 0} → S → List S → S
end_by s [] = s
end_by s (t ∷ ts) = end_by t ts
