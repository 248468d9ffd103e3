-- The kinds of step, as far as live counts read them, and what is true of live counts.
use Rattle.std.specs.Prelude.{ℕ, ◌≡◌, ◌≢◌, ◌+◌, ◌%◌, ◌<◌, ◌^◌, ◌⊎◌, ◌↔◌, List, ◌++◌, length, replicate, slice_get}
use Rattle.std.specs.Prelude.{slice_set, slice_index, Option, Some, None, true, false}
use Rattle.std.specs.List.{Contains, sum_by}
use Rattle.mako_words.specs.declared.name.Name.{Name}
use Rattle.mako_words.specs.Entries.{entry_at}
use Rattle.mako_words.specs.Lives.{live_word}
use Rattle.mako_shape.specs.declared.numbers.Numbers.{Numbers}
use Rattle.mako_shape.specs.Places.{live, entry, index, Within, word_at, total}
use Rattle.mako_shape.specs.Belongings.{tablet_of_entry, server_of_tablet}
use Rattle.mako_model.specs.declared.point.Point.{Point}
use Rattle.mako_model.specs.Legal.{Facts, state_of, IsLegal}
use Rattle.mako_model.specs.Reachable.{IsReachable}
use Rattle.mako_model.specs.Dead.{names_made}
use Rattle.mako_names.specs.Tables.{entry_of}
use Rattle.mako_phases.specs.Marked.{IsMarked}
use Rattle.mako_phases.specs.Lives.{LiveFacet, counting, record_size, live_count, AreOnce, IsSum, IsCounted, AreCounted}
use Rattle.mako_phases.specs.Lives.{ArePast}

-- what live counts read of a state
pub record LiveScene : Type 0 where
  pub words : List ℕ
  pub facets : List LiveFacet

-- the counts of the scene are right
abbrev pub CountsStandIn : Numbers → Facts → List Point → ℕ → LiveScene → Type 0
CountsStandIn n w before cycle s = AreCounted n w s.words s.facets before cycle

abbrev pub AgreeOnLives : Numbers → List ℕ → List ℕ → Type 0
AgreeOnLives n words words' = (t : ℕ) → Within n (live t) → word_at n words' (live t) ≡ word_at n words (live t)

-- the names made before the snapshot that are marked stay the same
abbrev pub OldMarksStay : Numbers → List Point → ℕ → List ℕ → List ℕ → Type 0
OldMarksStay n before cycle words words' =
    (x : Name) → Contains (names_made before) x → IsMarked n words' cycle x ↔ IsMarked n words cycle x

-- one more is marked
abbrev pub OldMarksAdd : Numbers → List Point → ℕ → List ℕ → List ℕ → Name → Type 0
OldMarksAdd n before cycle words words' x = (y : Name) → Contains (names_made before) y
    → IsMarked n words' cycle y ↔ (IsMarked n words cycle y ⊎ (x ≡ y))

-- no live word is stored
pub record LeavesLives (n : Numbers) (words words' : List ℕ) : Type 0 where
  pub size : length words' ≡ total n
  pub same : AgreeOnLives n words words'

-- the facet of one seat is another
abbrev pub counts_next : LiveScene → List ℕ → ℕ → LiveFacet → LiveScene
counts_next s words seat f = record { words = words; facets = slice_set s.facets seat f }

-- the server's count of the tablet of an entry
abbrev pub count_at : Numbers → List ℕ → ℕ → ℕ
count_at n counts e = slice_index counts (tablet_of_entry n e % n.tablets)

-- its counts once that one is another
abbrev pub counts_with : Numbers → List ℕ → ℕ → ℕ → List ℕ
counts_with n counts e number = slice_set counts (tablet_of_entry n e % n.tablets) number

-- the words once the live word of the tablet of an entry is stored
abbrev pub live_stored : Numbers → List ℕ → ℕ → ℕ → ℕ → List ℕ
live_stored n words e cycle number =
    slice_set words (index n (live (tablet_of_entry n e))) (live_word (record { cycle = cycle; words = number }))

-- A step of some kind while the cycle is traced, and the state after it.
pub data LiveStep (n : Numbers) (w : Facts) (before : List Point) (cycle : ℕ) (s after : LiveScene) : Type 0 where
  -- no live word changes, no old name is marked, and no facet changes
  Unseen : (words : List ℕ) → LeavesLives n s.words words → OldMarksStay n before cycle s.words words
      → after ≡ record s { words = words } → LiveStep n w before cycle s after
  -- a server begins the cycle at its turn
  Begins : (seat server begun : ℕ) (counts : List ℕ)
      → slice_get s.facets seat ≡ Some (counting server begun counts None)
      → begun ≢ cycle → after ≡ counts_next s s.words seat (counting server cycle (replicate n.tablets 0) None)
      → LiveStep n w before cycle s after
  -- it marks a name that was made before the snapshot
  Marks : (words : List ℕ) (seat server begun : ℕ) (counts : List ℕ) (x : Name)
      → slice_get s.facets seat ≡ Some (counting server begun counts None)
      → server_of_tablet n (tablet_of_entry n x.entry) ≡ server
      → Contains (names_made before) x → (¬ IsMarked n s.words cycle x)
      → LeavesLives n s.words words → OldMarksAdd n before cycle s.words words x
      → after ≡ counts_next s words seat (counting server begun counts (Some (x, record_size (state_of w before) x)))
      → LiveStep n w before cycle s after
  -- it counts the name and stores the live word
  Counts : (seat server : ℕ) (counts : List ℕ) (x : Name) (size : ℕ)
      → slice_get s.facets seat ≡ Some (counting server cycle counts (Some (x, size)))
      → Within n (live (tablet_of_entry n x.entry)) → server_of_tablet n (tablet_of_entry n x.entry) ≡ server
      → 0 < n.tablets → cycle < 2 ^ 20 → count_at n counts x.entry + size < 2 ^ 32
      → after ≡ counts_next s (live_stored n s.words x.entry cycle (count_at n counts x.entry + size)) seat
      (counting server cycle (counts_with n counts x.entry (count_at n counts x.entry + size)) None)
      → LiveStep n w before cycle s after

-- each kind keeps the counts
abbrev pub StepsKeepCounts : Type 0
StepsKeepCounts = (n : Numbers) (w : Facts) (before : List Point) (cycle : ℕ) (s after : LiveScene)
    → CountsStandIn n w before cycle s → LiveStep n w before cycle s after → CountsStandIn n w before cycle after

-- ---- the marks that entry words make

-- what a mark, the entry of a new object, and a move do to the marks of old names
pub record EntriesMark (n : Numbers) (words : List ℕ) (before : List Point) (cycle : ℕ) : Type 0 where
  pub mark : (x : Name) (v : ℕ) → Within n (entry x.entry) → (entry_of n words x.entry).taken ≡ true
      → (entry_of n words x.entry).generation ≡ x.generation
      → entry_at v ≡ record (entry_of n words x.entry) { epoch = cycle }
      → OldMarksAdd n before cycle words (slice_set words (index n (entry x.entry)) v) x
  pub publish : (x : Name) (v : ℕ) → Within n (entry x.entry) → (entry_of n words x.entry).taken ≡ false
      → (¬ Contains (names_made before) x) → (entry_at v).generation ≡ x.generation
      → OldMarksStay n before cycle words (slice_set words (index n (entry x.entry)) v)
  pub move : (e v address : ℕ) → Within n (entry e) → entry_at v ≡ record (entry_of n words e) { address = address }
      → OldMarksStay n before cycle words (slice_set words (index n (entry e)) v)

abbrev pub EntryWordsMark : Type 0
EntryWordsMark = (n : Numbers) (words : List ℕ) (before : List Point) (cycle : ℕ) → length words ≡ total n
    → EntriesMark n words before cycle

-- ---- from cycle to cycle

-- where tracing ends with nothing owed, counts are past
abbrev pub CountsEnd : Type 0
CountsEnd = (n : Numbers) (w : Facts) (words : List ℕ) (facets : List LiveFacet) (before : List Point) (cycle : ℕ)
    → AreCounted n w words facets before cycle
    → ((seat s begun : ℕ) (counts : List ℕ) (owed : Option (Name × ℕ))
    → slice_get facets seat ≡ Some (counting s begun counts owed) → owed ≡ None)
    → ArePast n words facets cycle

-- past counts stay so where no live word is stored
abbrev pub PastCountsStay : Type 0
PastCountsStay = (n : Numbers) (words words' : List ℕ) (facets : List LiveFacet) (cycle : ℕ)
    → ArePast n words facets cycle → AgreeOnLives n words words' → ArePast n words' facets cycle

-- and are right for the next cycle where it has no mark yet
abbrev pub PastCountsBegin : Type 0
PastCountsBegin = (n : Numbers) (w : Facts) (words : List ℕ) (facets : List LiveFacet) (before : List Point)
    (cycle : ℕ) → ArePast n words facets cycle → length words ≡ total n
    → ((x : Name) → ¬ IsMarked n words (cycle + 1) x) → AreCounted n w words facets before (cycle + 1)

-- ---- what counts tell

-- a count is one number
abbrev pub SumsAreOne : Type 0
SumsAreOne = (n : Numbers) (w : Facts) (words : List ℕ) (before : List Point) (cycle t a b : ℕ)
    → IsSum w before (IsCounted n words before cycle t) a → IsSum w before (IsCounted n words before cycle t) b → a ≡ b

-- the sizes of names made before are those that they have later
abbrev pub SizesAreThose : Type 0
SizesAreThose = (w : Facts) (before after : List Point) → IsLegal w (before ++ after)
    → (x : Name) → Contains (names_made before) x
    → record_size (state_of w (before ++ after)) x ≡ record_size (state_of w before) x

-- where nothing is owed, the live word of a tablet counts its marked names that were made before the snapshot
abbrev pub LivesAreCounted : Type 0
LivesAreCounted = (n : Numbers) (w : Facts) (words : List ℕ) (facets : List LiveFacet) (before : List Point) (cycle : ℕ)
    → AreCounted n w words facets before cycle
    → (seat s begun : ℕ) (counts : List ℕ) → slice_get facets seat ≡ Some (counting s begun counts None)
    → (t : ℕ) → Within n (live t) → server_of_tablet n t ≡ s
    → IsSum w before (IsCounted n words before cycle t) (live_count n words t cycle)

-- tracing is complete: each name that was reachable at the snapshot is marked, and of those that were made no other
pub record MarksAreTheReached (n : Numbers) (w : Facts) (words : List ℕ) (before : List Point) (cycle : ℕ) : Type 0
  where
    pub reached : (x : Name) → IsReachable (state_of w before) x → IsMarked n words cycle x
    pub others : (x : Name) → Contains (names_made before) x → (¬ IsReachable (state_of w before) x)
        → ¬ IsMarked n words cycle x

-- the number is the sum of the sizes of the tablet's names that were reachable: each is counted, and no other
pub record CountsReached (n : Numbers) (w : Facts) (before : List Point) (t number : ℕ) : Type 0 where
  pub names : List Name
  pub once : AreOnce names
  pub reached : (x : Name) → IsReachable (state_of w before) x → tablet_of_entry n x.entry ≡ t → Contains names x
  pub none_else : (x : Name) → (¬ IsReachable (state_of w before) x) → ¬ Contains names x
  pub tablet : (x : Name) → Contains names x → tablet_of_entry n x.entry ≡ t
  pub sum_is : sum_by (record_size (state_of w before)) names ≡ number

abbrev pub LivesCountTheReached : Type 0
LivesCountTheReached = (n : Numbers) (w : Facts) (words : List ℕ) (facets : List LiveFacet) (before : List Point)
    (cycle : ℕ) → IsLegal w before → MarksAreTheReached n w words before cycle
    → AreCounted n w words facets before cycle
    → (seat s begun : ℕ) (counts : List ℕ) → slice_get facets seat ≡ Some (counting s begun counts None)
    → (t : ℕ) → Within n (live t) → server_of_tablet n t ≡ s
    → CountsReached n w before t (live_count n words t cycle)
