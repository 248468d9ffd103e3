-- What tracing asks of the words and the history that other ties give, and what stands when it has ended.
use Rattle.std.specs.Prelude.{ℕ, ◌≡◌, ◌≢◌, ◌+◌, ◌⊎◌, List, length, slice_get, slice_index, Some}
use Rattle.std.specs.List.{Contains}
use Rattle.mako_words.specs.declared.name.Name.{Name}
use Rattle.mako_words.specs.declared.value.Value.{Value}
use Rattle.mako_words.specs.Names.{FitsName}
use Rattle.mako_words.specs.Values.{value_word, FitsValue}
use Rattle.mako_shape.specs.declared.numbers.Numbers.{Numbers}
use Rattle.mako_shape.specs.Places.{entry, Within, total, word_at}
use Rattle.mako_model.specs.declared.point.Point.{Point}
use Rattle.mako_model.specs.Heaps.{Heap, fields_of}
use Rattle.mako_model.specs.Legal.{Facts, state_of, IsLegal}
use Rattle.mako_model.specs.Dead.{names_made, IsDead}
use Rattle.mako_ring.specs.Shades.{entry_of}
use Rattle.mako_names.specs.Tables.{IsTaken}
use Rattle.mako_names.specs.Uses.{IsGood}

-- a record with these fields stands at the address
pub record RecordStands (words : List ℕ) (address : ℕ) (fields : List Value) : Type 0 where
  pub header : slice_index words address ≡ length fields
  pub each : (i : ℕ) (v : Value) → slice_get fields i ≡ Some v
      → (slice_index words (address + 1 + i) ≡ value_word v) × FitsValue v

-- where a taken name is that of an object, a record with the object's fields stands at the address of its entry
abbrev pub RecordsStand : Numbers → Facts → List ℕ → List Point → Type 0
RecordsStand n w words history = (x : Name) (fields : List Value) → IsTaken n words x.entry x.generation
    → fields_of (state_of w history) x ≡ Some fields
    → RecordStands words (entry_of n words x.entry).address fields

-- What tracing asks: the history is legal, and made names fit a word; the entry of a good name is taken with its
-- generation, and a name whose entry is so taken was made; and records stand.
pub record HeapStands (n : Numbers) (w : Facts) (words : List ℕ) (history : List Point) : Type 0 where
  pub size : length words ≡ total n
  pub legal : IsLegal w history
  pub fit : (x : Name) → Contains (names_made history) x → FitsName x
  pub taken : (x : Name) → IsGood w history x → IsTaken n words x.entry x.generation
  pub made : (x : Name) → IsTaken n words x.entry x.generation → Contains (names_made history) x
  pub records : RecordsStand n w words history

-- objects keep their sizes
abbrev pub SizesStay : Heap → Heap → Type 0
SizesStay h after = (x : Name) (fields : List Value) → fields_of h x ≡ Some fields
    → (more : List Value) × (fields_of after x ≡ Some more) × (length more ≡ length fields)

-- the entries stand as they stood
abbrev pub SameEntries : Numbers → List ℕ → List ℕ → Type 0
SameEntries n words words' =
    (x : ℕ) → Within n (entry x) → word_at n words' (entry x) ≡ word_at n words (entry x)

-- ---- after tracing

-- each taken entry is told: it has the epoch and its name is good, or it has another and its name is dead
abbrev pub AreTraced : Numbers → Facts → List ℕ → List Point → ℕ → Type 0
AreTraced n w words history cycle = (x : Name) → IsTaken n words x.entry x.generation
    → (((entry_of n words x.entry).epoch ≡ cycle) × IsGood w history x)
    ⊎ (((entry_of n words x.entry).epoch ≢ cycle) × IsDead w history cycle x)

-- a name that is taken after a step was taken before with its epoch, or is new, good and has the epoch
abbrev pub Retakes : Numbers → Facts → List ℕ → List ℕ → List Point → ℕ → Type 0
Retakes n w words words' after cycle = (x : Name) → IsTaken n words' x.entry x.generation
    → (IsTaken n words x.entry x.generation
    × ((entry_of n words x.entry).epoch ≡ (entry_of n words' x.entry).epoch))
    ⊎ (((entry_of n words' x.entry).epoch ≡ cycle) × IsGood w after x)
