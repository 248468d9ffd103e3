-- What the ties of names come to: the laws, each as a statement.
use Rattle.std.specs.Prelude.{ℕ, ◌≡◌, ◌<◌, List, [], ◌∷◌, ◌++◌, length, slice_get, Some, true}
use Rattle.std.specs.List.{Contains}
use Rattle.mako_words.specs.declared.name.Name.{Name}
use Rattle.mako_words.specs.declared.value.Value.TheVariants.{Ref}
use Rattle.mako_words.specs.declared.phase_word.PhaseWord.TheVariants.{Evac}
use Rattle.mako_words.specs.Names.{name_word, FitsName}
use Rattle.mako_shape.specs.declared.numbers.Numbers.{Numbers}
use Rattle.mako_shape.specs.Limits.{all_entries}
use Rattle.mako_shape.specs.Places.{Place, total, Within, word_at}
use Rattle.mako_model.specs.declared.call.Call.{Call}
use Rattle.mako_model.specs.declared.point.Point.{Point}
use Rattle.mako_model.specs.declared.point.Point.TheVariants.{Snap}
use Rattle.mako_model.specs.Answering.{Answers, AnswersToEnd}
use Rattle.mako_model.specs.Dead.{AreFreed}
use Rattle.mako_model.specs.Fronts.{Seen}
use Rattle.mako_model.specs.Heaps.{root_of}
use Rattle.mako_model.specs.LawfulFronts.{IsLawfulFront}
use Rattle.mako_model.specs.Legal.{Facts, state_of, IsLegal}
use Rattle.mako_model.specs.Reachable.{StandsInField, IsReachable}
use Rattle.mako_names.specs.Counts.{name_of, NamesStand}
use Rattle.mako_names.specs.Freeing.{entry_by, AllMarked}
use Rattle.mako_names.specs.Steps.{NameScene, NamesHoldIn, stored, NameStep, AllIsRead, IsNameOpening, Reached}
use Rattle.mako_names.specs.Tables.{IsWorkloadOf, EntryTells, IsTaken, entry_of, phase_of}
use Rattle.mako_names.specs.Uses.{IsGood, IsUseSlot, IsNamePlace}

-- ---- what is kept

-- each step keeps the ties of names
abbrev pub StepsKeepNames : Type 0
StepsKeepNames = (n : Numbers) (w : Facts) (s after : NameScene) → IsWorkloadOf n w → NameStep n w s after
    → NamesHoldIn n w s → NamesHoldIn n w after

-- a store at any other place is one of these steps, whatever is stored
abbrev pub StoresElsewhereAreSteps : Type 0
StoresElsewhereAreSteps = (n : Numbers) (w : Facts) (s : NameScene) (p : Place) (v : ℕ) → length s.words ≡ total n
    → Within n p → (IsNamePlace p → ⊥) → NameStep n w s (stored n s p v)

-- they hold at the opening
abbrev pub OpeningsHaveNames : Type 0
OpeningsHaveNames =
    (n : Numbers) (w : Facts) (s : NameScene) → IsWorkloadOf n w → IsNameOpening n w s → NamesHoldIn n w s

-- so they hold after any steps
abbrev pub ReachedHaveNames : Type 0
ReachedHaveNames = (n : Numbers) (w : Facts) (s : NameScene) → IsWorkloadOf n w → Reached n w s → NamesHoldIn n w s

-- and the front answers the script
abbrev pub ReachedAnswer : Type 0
ReachedAnswer = (n : Numbers) (w : Facts) (s : NameScene) → IsWorkloadOf n w → Reached n w s → Answers w s.front

-- to its end, where no call of any program is left
abbrev pub ReachedAnswerToEnd : Type 0
ReachedAnswerToEnd = (n : Numbers) (w : Facts) (s : NameScene) → IsWorkloadOf n w → Reached n w s
    → ((m : ℕ) (program : List Call) → slice_get w.programs m ≡ Some program → slice_get s.facets.left m ≡ Some [])
    → AnswersToEnd w s.front

-- ---- what names tell

-- in a lawful front the names of each entry are those of the generations below a number
abbrev pub NamesAreInOrder : Type 0
NamesAreInOrder = (w : Facts) (front : Seen) → IsLawfulFront w front → NamesStand front.history

-- what an entry tells of its names
abbrev pub EntriesTell : Type 0
EntriesTell = (n : Numbers) (w : Facts) (s : NameScene) (x : ℕ) → NamesHoldIn n w s → x < all_entries n
    → EntryTells n s.words w s.front x

-- the entry of a good name is taken with the name's generation
abbrev pub GoodNamesAreTaken : Type 0
GoodNamesAreTaken = (n : Numbers) (w : Facts) (s : NameScene) (x g : ℕ) → IsWorkloadOf n w → NamesHoldIn n w s
    → IsGood w s.front.history (name_of x g) → IsTaken n s.words x g

-- so is that of each name in a slot
abbrev pub SlotNamesAreTaken : Type 0
SlotNamesAreTaken = (n : Numbers) (w : Facts) (s : NameScene) (p : Place) (name : Name) → IsWorkloadOf n w
    → NamesHoldIn n w s → Within n p → IsUseSlot p → FitsName name → word_at n s.words p ≡ name_word name
    → IsTaken n s.words name.entry name.generation

-- and that of each name that a seat has still to use
abbrev pub HeldNamesAreTaken : Type 0
HeldNamesAreTaken = (n : Numbers) (w : Facts) (s : NameScene) (seat : ℕ) (names : List Name) (name : Name)
    → IsWorkloadOf n w → NamesHoldIn n w s → slice_get s.facets.held seat ≡ Some names → Contains names name
    → IsTaken n s.words name.entry name.generation

-- a name in a root is good
abbrev pub RootsAreGood : Type 0
RootsAreGood = (w : Facts) (history : List Point) (mutator root : ℕ) (name : Name) → IsLegal w history
    → root_of (state_of w history) mutator root ≡ Some (Ref name) → IsGood w history name

-- and so is one in a field of a good object
abbrev pub FieldsAreGood : Type 0
FieldsAreGood = (w : Facts) (history : List Point) (object name : Name) → IsLegal w history
    → StandsInField (state_of w history) object name → IsGood w history object → IsGood w history name

-- ---- what a cycle comes to

-- each name that was reachable at the snapshot has the cycle's epoch, where those in roots have it, and each object
-- that has it hands it on to the names in its fields
abbrev pub MarksReach : Type 0
MarksReach = (n : Numbers) (w : Facts) (words : List ℕ) (history : List Point) (cycle : ℕ)
    → ((before after : List Point) → history ≡ before ++ Snap cycle ∷ after → (m q : ℕ) (name : Name)
    → root_of (state_of w before) m q ≡ Some (Ref name) → (entry_of n words name.entry).epoch ≡ cycle)
    → ((before after : List Point) → history ≡ before ++ Snap cycle ∷ after → (object name : Name)
    → IsReachable (state_of w before) object → (entry_of n words object.entry).epoch ≡ cycle
    → StandsInField (state_of w before) object name → (entry_of n words name.entry).epoch ≡ cycle)
    → AllMarked n words w history cycle

-- an entry that its server has gone over and that is taken has the cycle's epoch
abbrev pub PassedHaveEpoch : Type 0
PassedHaveEpoch = (n : Numbers) (w : Facts) (s : NameScene) (c server i through : ℕ) → NamesHoldIn n w s
    → phase_of n s.words ≡ Evac c → slice_get s.facets.through server ≡ Some through → i < through
    → (entry_of n s.words (entry_by n server i)).taken ≡ true → (entry_of n s.words (entry_by n server i)).epoch ≡ c

-- when all is read, the collector's list is what the cycle frees
abbrev pub ListsAreFreed : Type 0
ListsAreFreed = (n : Numbers) (w : Facts) (s : NameScene) (c : ℕ) → IsWorkloadOf n w → NamesHoldIn n w s
    → phase_of n s.words ≡ Evac c → AllIsRead n s.facets → AreFreed w s.front.history c s.facets.collector.names
