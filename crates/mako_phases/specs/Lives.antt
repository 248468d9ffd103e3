-- Live counts: of each tablet the words of the records of its marked names that were made before the snapshot.
use Rattle.std.specs.Prelude.{ℕ, ◌≡◌, ◌+◌, ◌%◌, ◌≤◌, ◌==◌, ◌↔◌, List, [], ◌∷◌, length, map, slice_get, slice_index}
use Rattle.std.specs.Prelude.{Option, Some, None, if◌then◌else◌}
use Rattle.std.specs.List.{Contains, sum_by}
use Rattle.mako_words.specs.declared.name.Name.{Name}
use Rattle.mako_words.specs.declared.value.Value.{Value}
use Rattle.mako_words.specs.declared.live_word.LiveWord.{LiveWord}
use Rattle.mako_words.specs.Lives.{live_at}
use Rattle.mako_shape.specs.declared.numbers.Numbers.{Numbers}
use Rattle.mako_shape.specs.Places.{live, Within, word_at, total}
use Rattle.mako_shape.specs.Belongings.{tablet_of_entry, server_of_tablet}
use Rattle.mako_model.specs.declared.point.Point.{Point}
use Rattle.mako_model.specs.Heaps.{Heap, fields_of}
use Rattle.mako_model.specs.Legal.{Facts, state_of}
use Rattle.mako_model.specs.Dead.{names_made}
use Rattle.mako_phases.specs.Marked.{IsMarked}

-- What live counts read of a seat: nothing; or of a server the cycle whose tracing it began last, its counts by the
-- places of its tablets, and a name that it marked and has not counted yet, with the words of its record.
pub data LiveFacet : Type 0 where
  elsewhere : LiveFacet
  counting : (server begun : ℕ) (counts : List ℕ) (owed : Option (Name × ℕ)) → LiveFacet

abbrev pub counter_of : LiveFacet → Option ℕ
counter_of elsewhere = None
counter_of (counting s begun counts owed) = Some s

-- ---- numbers

-- the words of an object's record: those of its fields, and the header
abbrev pub sized : Option (List Value) → ℕ
sized None = 0
sized (Some fields) = length fields + 1

abbrev pub record_size : Heap → Name → ℕ
record_size h x = sized (fields_of h x)

-- what a live word counts in the cycle
abbrev pub live_in : LiveWord → ℕ → ℕ
live_in l cycle = if l.cycle == cycle then l.words else 0

abbrev pub live_count : Numbers → List ℕ → ℕ → ℕ → ℕ
live_count n words t cycle = live_in (live_at (word_at n words (live t))) cycle

-- what a server's count of a tablet is in the cycle
abbrev pub own_count : Numbers → ℕ → List ℕ → ℕ → ℕ → ℕ
own_count n begun counts t cycle = if begun == cycle then slice_index counts (t % n.tablets) else 0

-- what it owes the tablet
abbrev pub owed_to : Numbers → Option (Name × ℕ) → ℕ → ℕ
owed_to n None t = 0
owed_to n (Some p) t = if tablet_of_entry n p.0.entry == t then p.1 else 0

-- ---- sums over names

-- nothing stands twice in the list
abbrev pub AreOnce : {A : Type 0} → List A → Type 0
AreOnce [] = Unit {0}
AreOnce (x ∷ xs) = (¬ Contains xs x) × AreOnce xs

-- the number is the sum of the sizes of just these names' records
pub record IsSum (w : Facts) (before : List Point) (Is : Name → Type 0) (number : ℕ) : Type 0 where
  pub names : List Name
  pub once : AreOnce names
  pub each : (x : Name) → Contains names x ↔ Is x
  pub sum_is : sum_by (record_size (state_of w before)) names ≡ number

-- marked, made before the snapshot, and of the tablet
abbrev pub IsCounted : Numbers → List ℕ → List Point → ℕ → ℕ → Name → Type 0
IsCounted n words before cycle t x =
    IsMarked n words cycle x × Contains (names_made before) x × (tablet_of_entry n x.entry ≡ t)

-- ---- in Trace

-- What stands at a server: the live words of its tablets are its counts, and these, with what it owes, are the sums.
pub record CounterStands (n : Numbers) (w : Facts) (words : List ℕ) (before : List Point) (cycle s begun : ℕ)
    (counts : List ℕ) (owed : Option (Name × ℕ)) : Type 0 where
  pub known : begun ≤ cycle
  pub places : length counts ≡ n.tablets
  pub lives : (t : ℕ) → Within n (live t) → server_of_tablet n t ≡ s
      → live_count n words t cycle ≡ own_count n begun counts t cycle
  pub sums : (t : ℕ) → Within n (live t) → server_of_tablet n t ≡ s
      → IsSum w before (IsCounted n words before cycle t) (own_count n begun counts t cycle + owed_to n owed t)

abbrev pub CountFits : Numbers → Facts → List ℕ → List Point → ℕ → LiveFacet → Type 0
CountFits n w words before cycle elsewhere = Unit {0}
CountFits n w words before cycle (counting s begun counts owed) =
    CounterStands n w words before cycle s begun counts owed

-- one seat of each server
abbrev pub AreSoleCounters : List LiveFacet → Type 0
AreSoleCounters facets = (s i j : ℕ) → slice_get (map counter_of facets) i ≡ Some (Some s)
    → slice_get (map counter_of facets) j ≡ Some (Some s) → i ≡ j

-- Live counts while the cycle is traced. `before` is the history before its snapshot.
pub record AreCounted (n : Numbers) (w : Facts) (words : List ℕ) (facets : List LiveFacet) (before : List Point)
    (cycle : ℕ) : Type 0 where
  pub size : length words ≡ total n
  pub past : (t : ℕ) → Within n (live t) → (live_at (word_at n words (live t))).cycle ≤ cycle
  pub each : (seat : ℕ) (f : LiveFacet) → slice_get facets seat ≡ Some f → CountFits n w words before cycle f
  pub sole : AreSoleCounters facets

-- ---- between

-- Live counts where no cycle is traced, after the one with this number: nothing is owed, and all are of past cycles.
pub record ArePast (n : Numbers) (words : List ℕ) (facets : List LiveFacet) (cycle : ℕ) : Type 0 where
  pub past : (t : ℕ) → Within n (live t) → (live_at (word_at n words (live t))).cycle ≤ cycle
  pub each : (seat s begun : ℕ) (counts : List ℕ) (owed : Option (Name × ℕ))
      → slice_get facets seat ≡ Some (counting s begun counts owed)
      → (begun ≤ cycle) × (owed ≡ None) × (length counts ≡ n.tablets)
  pub sole : AreSoleCounters facets
