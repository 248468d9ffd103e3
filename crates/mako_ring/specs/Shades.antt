-- Grey, shaded and waiting names, and the quiet and the complete heap.
use Rattle.std.specs.Prelude.{ℕ, Bool, ◌≡◌, ◌<◌, ◌⊎◌, List, slice_get, Some, true, false}
use Rattle.mako_words.specs.declared.name.Name.{Name}
use Rattle.mako_words.specs.declared.entry_word.EntryWord.{EntryWord}
use Rattle.mako_words.specs.Entries.{entry_at}
use Rattle.mako_words.specs.Names.{name_word, FitsName}
use Rattle.mako_shape.specs.declared.numbers.Numbers.{Numbers}
use Rattle.mako_shape.specs.Places.{Place, barrier, work, ghost, entry, Within, word_at}
use Rattle.mako_ring.specs.TraceFacets.{TraceFacet, GreyIn, WorksOn, IsIdle}

-- what the word of an entry says
abbrev pub entry_of : Numbers → List ℕ → ℕ → EntryWord
entry_of n words x = entry_at (word_at n words (entry x))

-- the name's entry is taken with its generation, and has the epoch of the cycle
pub record IsMarked (n : Numbers) (words : List ℕ) (cycle : ℕ) (x : Name) : Type 0 where
  pub in_range : Within n (entry x.entry)
  pub taken : (entry_of n words x.entry).taken ≡ true
  pub generation : (entry_of n words x.entry).generation ≡ x.generation
  pub epoch : (entry_of n words x.entry).epoch ≡ cycle

-- the slots in which names are on their way to be traced
abbrev pub IsShadeSlot : Place → Type 0
IsShadeSlot (barrier m slot) = Unit {0}
IsShadeSlot (work s slot) = Unit {0}
IsShadeSlot (ghost sender receiver slot) = Unit {0}
IsShadeSlot p = ⊥

-- such a slot holds the name
pub record StandsInSlot (n : Numbers) (words : List ℕ) (x : Name) : Type 0 where
  pub place : Place
  pub is_slot : IsShadeSlot place
  pub within : Within n place
  pub fits : FitsName x
  pub word_is : word_at n words place ≡ name_word x

-- some seat holds it
pub record IsHeld (facets : List TraceFacet) (x : Name) : Type 0 where
  pub seat : ℕ
  pub facet : TraceFacet
  pub at : slice_get facets seat ≡ Some facet
  pub grey : GreyIn facet x

-- the name is grey
abbrev pub IsGrey : Numbers → List ℕ → List TraceFacet → Name → Type 0
IsGrey n words facets x = StandsInSlot n words x ⊎ IsHeld facets x

-- grey, or marked
abbrev pub IsShaded : Numbers → List ℕ → List TraceFacet → ℕ → Name → Type 0
IsShaded n words facets cycle x = IsGrey n words facets x ⊎ IsMarked n words cycle x

-- some seat has still to load the field
pub record IsWorkedOn (n : Numbers) (words : List ℕ) (facets : List TraceFacet) (object : Name)
    (field : ℕ) : Type 0 where
  pub seat : ℕ
  pub facet : TraceFacet
  pub at : slice_get facets seat ≡ Some facet
  pub works : WorksOn facet object.entry (entry_of n words object.entry).address field

-- the field will still be loaded: its object is not yet marked, or some seat works on it
abbrev pub IsWaiting : Numbers → List ℕ → List TraceFacet → ℕ → Name → ℕ → Type 0
IsWaiting n words facets cycle object field = (¬ IsMarked n words cycle object) ⊎ IsWorkedOn n words facets object field

-- nothing is left to trace but what stands in barrier slots
pub record IsQuiet (n : Numbers) (words : List ℕ) (facets : List TraceFacet) : Type 0 where
  pub works : (s slot : ℕ) → Within n (work s slot) → word_at n words (work s slot) ≡ 0
  pub ghosts : (sender receiver slot : ℕ) → Within n (ghost sender receiver slot)
      → word_at n words (ghost sender receiver slot) ≡ 0
  pub seats : (seat : ℕ) (f : TraceFacet) → slice_get facets seat ≡ Some f → IsIdle f

-- nothing stands there either, and no mutator is admitted at its gate
pub record IsComplete (n : Numbers) (words : List ℕ) (facets : List TraceFacet) (admitted : ℕ → Bool) : Type 0 where
  pub quiet : IsQuiet n words facets
  pub barriers : (m slot : ℕ) → Within n (barrier m slot) → word_at n words (barrier m slot) ≡ 0
  pub outside : (m : ℕ) → m < n.mutators → admitted m ≡ false
