-- What is claimed of layouts: each kind of change keeps one copy, and what one copy says.
use Rattle.std.specs.Prelude.{ℕ, true, ◌≡◌, ◌≢◌, ◌+◌, ◌<◌, ◌≤◌}
use Rattle.mako_shape.specs.declared.numbers.Numbers.{Numbers}
use Rattle.mako_shape.specs.Belongings.{tablet_of_entry}
use Rattle.mako_gate.specs.Changes.{tablets_of}
use Rattle.mako_layout.specs.Layouts.{Slot, Layout, entries_of, cycle_words, Holds, OneCopy}
use Rattle.mako_layout.specs.Changes.{Puts, Alters, Chooses, IsMoved, Clears, Finishes, AreSame}

abbrev pub PutKeeps : Type 0
PutKeeps = (n : Numbers) (l : Layout) → OneCopy n l → (s : ℕ → Slot) (f d : ℕ → ℕ) (x : ℕ) → Puts n l s f d x →
    OneCopy n (record l { slot = s; filled = f; made = d })

abbrev pub AlterKeeps : Type 0
AlterKeeps = (n : Numbers) (l : Layout) → OneCopy n l → (s : ℕ → Slot) (x : ℕ) → Alters n l s x →
    OneCopy n (record l { slot = s })

abbrev pub ChooseKeeps : Type 0
ChooseKeeps = (n : Numbers) (l : Layout) → OneCopy n l → (m : Layout) (t r : ℕ) → Chooses n l m t r → OneCopy n m

abbrev pub ClearKeeps : Type 0
ClearKeeps = (n : Numbers) (l : Layout) → OneCopy n l → (v : ℕ → ℕ) (t : ℕ) → Clears n l v t →
    OneCopy n (record l { leaving = v })

abbrev pub FinishKeeps : Type 0
FinishKeeps = (n : Numbers) (l : Layout) → OneCopy n l → (g p : ℕ → ℕ) → Finishes n l g p →
    OneCopy n (record l { given = g; spare = p })

-- the next cycle begins while no tablet has given up a region
abbrev pub CycleKeeps : Type 0
CycleKeeps = (n : Numbers) (l : Layout) → OneCopy n l → (c : ℕ) → ((t : ℕ) → t < tablets_of n → l.given t ≡ 0) →
    OneCopy n (record l { cycle = c })

abbrev pub SameKeeps : Type 0
SameKeeps = (n : Numbers) (l : Layout) → OneCopy n l → (m : Layout) → AreSame n l m → OneCopy n m

-- the copy of a record of the cycle has room in the home
abbrev pub CopyFits : Type 0
CopyFits = (n : Numbers) (l : Layout) → OneCopy n l → (x : ℕ) → x < entries_of n →
    (l.slot x).taken ≡ true → (l.slot x).epoch ≡ l.cycle → (l.slot x).region ≢ l.home (tablet_of_entry n x) →
    l.filled (tablet_of_entry n x) + (l.slot x).size ≤ n.words

-- when all records of the cycle have come home, the words in use are theirs
abbrev pub AllMoved : Type 0
AllMoved = (n : Numbers) (l : Layout) → OneCopy n l → (t : ℕ) → t < tablets_of n → l.leaving t ≢ 0 → IsMoved n l t →
    l.filled t ≡ cycle_words n l t

-- no word of a home behind those in use is one of a record
abbrev pub FreeAbove : Type 0
FreeAbove = (n : Numbers) (l : Layout) → OneCopy n l → (x t r w : ℕ) → x < entries_of n → t < tablets_of n →
    Holds (l.slot x) r w → r ≡ l.home t → w < l.filled t
