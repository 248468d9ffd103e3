-- What is read of a view beside its place at the gates: what it holds of a record, and how far a choice is.
use Rattle.std.specs.Prelude.{ℕ, ◌≡◌, ◌+◌, ◌<◌, ◌≤◌, ◌==◌, List, [], slice_get, Some, sum_by}
use Rattle.mako_words.specs.declared.name.Name.{Name}
use Rattle.mako_shape.specs.declared.numbers.Numbers.{Numbers}
use Rattle.mako_gate.specs.Sums.{counted}
use Rattle.mako_gate.specs.Standings.{GateFacet, admitted, drained_by, drained_own}
use Rattle.mako_words.specs.declared.entry_word.EntryWord.{EntryWord}

-- above 0 where the tablet's home cannot change beside the view: it is admitted there, or has drained the gate
abbrev pub stands : ℕ → GateFacet → ℕ
stands t g = admitted t g.standing + drained_by t g.watch

-- What a view holds of a record. A size counts the header; stored is how many words of the record are stored.
pub data Work : Type 0 where
  idle : Work
  -- it loaded this place from the entry of its object
  reads : (entry region offset : ℕ) → Work
  -- it reads and stores at this place
  uses : (entry region offset : ℕ) → Work
  -- it keeps the home of the entry's tablet
  holds_home : (entry home : ℕ) → Work
  -- as a writer it found the entry so, with its record of the cycle outside of the home
  moves : (entry : ℕ) → (found : EntryWord) → (home : ℕ) → Work
  -- it copies this record to the first free word of the home
  fills : (entry : ℕ) → (found : EntryWord) → (home top stored : ℕ) → Work
  -- it also holds the next word
  carries : (entry : ℕ) → (found : EntryWord) → (home top stored word : ℕ) → Work
  -- the entry names the copy, and the top is still to be raised by its size
  raises : (entry home offset size : ℕ) → Work
  -- it is to make an object, and found the entry's tablet not left
  asks : (entry : ℕ) → Work
  -- it keeps the top, behind which a record of this size has room, and looks at the entry
  tops : (entry top size : ℕ) → Work
  -- it found the entry free, and may give out this name
  finds : (name : Name) → (top size : ℕ) → Work
  -- it makes the object's record at the first free word of the home
  makes : (name : Name) → (home top size stored : ℕ) → Work
  -- the top is raised by the record's size, and the entry is still to be stored
  counts : (name : Name) → (home offset size : ℕ) → Work

-- what the collector has still to store of a tablet that it chose: its new home, or the top 0 of that home
pub data Debt : Type 0 where
  settled : Debt
  owes_home : (tablet region : ℕ) → Debt
  owes_top : (tablet : ℕ) → Debt

-- a tablet that gave up this region
pub record Gift : Type 0 where
  pub tablet : ℕ
  pub region : ℕ

-- How far the collector is with the tablets of a cycle: it has chosen none, it chooses them, or those that it chose are
-- evacuated. With it go what it has still to store, the regions that tablets gave up, and the regions that are spare.
pub data Choice : Type 0 where
  rests_with : (spare : List ℕ) → Choice
  chooses : Debt → (given : List Gift) → (spare : List ℕ) → Choice
  has_chosen : (given : List Gift) → (spare : List ℕ) → Choice

abbrev pub debt_of : Choice → Debt
debt_of (rests_with spare) = settled
debt_of (chooses debt given spare) = debt
debt_of (has_chosen given spare) = settled

abbrev pub given_of : Choice → List Gift
given_of (rests_with spare) = []
given_of (chooses debt given spare) = given
given_of (has_chosen given spare) = given

abbrev pub spare_of : Choice → List ℕ
spare_of (rests_with spare) = spare
spare_of (chooses debt given spare) = spare
spare_of (has_chosen given spare) = spare

-- 0, or the region that the tablet gave up with one added
abbrev pub gift_of : List Gift → ℕ → ℕ
gift_of given t = sum_by (λ (g : Gift). counted (g.tablet == t) (g.region + 1)) given

-- how often a region is among these
abbrev pub times_in : List ℕ → ℕ → ℕ
times_in regions r = sum_by (λ s. counted (s == r) 1) regions

-- all mutators' gates are drained by the collector, and no server has drained a tablet's
pub record Paused (n : Numbers) (gs : List GateFacet) : Type 0 where
  pub collector : GateFacet
  pub here : slice_get gs (n.mutators + n.servers) ≡ Some collector
  pub drained : (m : ℕ) → m < n.mutators → 1 ≤ drained_own m collector.watch
  pub servers : (i t : ℕ) (g : GateFacet) → slice_get gs i ≡ Some g → drained_by t g.watch ≡ 0
