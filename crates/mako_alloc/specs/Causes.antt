-- What each result of a `new` rests on.
use Rattle.std.specs.Prelude.{◌≡◌, ℕ, suc, zero, ◌+◌, ◌*◌, ◌<◌, ◌≤◌, List, [], ◌∷◌, ◌++◌, map, None, Some}
use Rattle.std.specs.List.{All, Contains}
use Rattle.mako_words.specs.declared.name.Name.{Name}
use Rattle.mako_shape.specs.declared.numbers.Numbers.{Numbers}
use Rattle.mako_shape.specs.Places.{index, top, home, entry}
use Rattle.mako_step.specs.declared.act.Act.{Act}
use Rattle.mako_step.specs.declared.act.Op.TheVariants.{Load, Store}
use Rattle.mako_step.specs.Trails.{Observation, Goes}
use Rattle.mako_alloc.specs.declared.found.Found.{Found}
use Rattle.mako_alloc.specs.declared.found.Found.TheVariants.{Made, Full, Pause}
use Rattle.mako_alloc.specs.declared.job.Job.{Job}
use Rattle.mako_alloc.specs.declared.progress.NewRecord.{NewRecord}
use Rattle.mako_alloc.specs.declared.progress.NewStage.TheVariants.{Ended}
use Rattle.mako_alloc.specs.Allocating.{Allocation, IsJob, HasRoom, Fits, all_tablets, fed, free_generation, next_of}
use Rattle.mako_alloc.specs.Allocating.{opening, tablet_at, published, record_word, rank}
use Rattle.mako_alloc.specs.Notes.{IsNoNote, IsFirstNote}
use Rattle.mako_alloc.specs.Seen.{IsEntered, IsFree, IsUsed, IsFullTablet, sees}

-- the store of a word
abbrev pub stores : ℕ → ℕ → Act
stores word new = record { word = word; op = Store new }

-- the first so many fields become null
unfoldable pub null_stores : Numbers → NewRecord → ℕ → List Act
null_stores n made zero = []
null_stores n made (suc i) = null_stores n made i ++ stores (record_word n made (i + 1)) 0 ∷ []

-- a record of null fields is stored, header first
abbrev pub record_stores : Job → NewRecord → List Act
record_stores job made = stores (record_word job.shape made 0) job.fields ∷ null_stores job.shape made job.fields

-- an object is stored: its record, the tablet's top over it, and at last its entry
abbrev pub object_stores : Job → ℕ → NewRecord → List Act
object_stores job t made =
    record_stores job made
    ++ stores (index job.shape (top t)) (made.top + job.fields + 1)
    ∷ stores (index job.shape (entry made.name.entry)) (published job made)
    ∷ []

-- the tablet could be tried and had room, and the entry of the record's name was found free;
-- then its home was loaded, and since then these acts were made
pub record IsMaking (job : Job) (trail : List Observation) (t : ℕ) (made : NewRecord) (acts : List Act) : Type 0 where
  pub earlier : List Observation
  pub word : ℕ
  pub place : ℕ
  pub later : List Observation
  pub tablet : t < all_tablets job.shape
  pub place_below : place < job.shape.entries
  pub entry_is : made.name.entry ≡ t * job.shape.entries + place
  pub free : IsFree job.shape word made.name.generation
  pub room : HasRoom job made.top
  pub entered : IsEntered job earlier t
  pub top_seen : Contains earlier (sees job.shape (top t) Load made.top)
  pub splits : trail ≡ earlier
      ++ sees job.shape (entry made.name.entry) Load word
      ∷ sees job.shape (home t) Load made.home
      ∷ later
  pub acts_are : map (λ (o : Observation). o.act) later ≡ acts

-- the object of this name was made in this tablet: nothing but its stores stands behind the load of the home
pub record IsMade (job : Job) (trail : List Observation) (name : Name) (t : ℕ) : Type 0 where
  pub made : NewRecord
  pub name_is : made.name ≡ name
  pub stored : IsMaking job trail t made (object_stores job t made)

-- no tablet had room and a free entry, and each could be tried
pub record IsFull (job : Job) (trail : List Observation) : Type 0 where
  pub tablets : (t : ℕ) → t < all_tablets job.shape → IsFullTablet job trail t
  pub no_note : All (IsNoNote job) trail

-- what the trail shows of the result
abbrev pub IsCaused : Job → List Observation → Found → Type 0
IsCaused job trail (Made name t) = IsMade job trail name t
IsCaused job trail Full = IsFull job trail
IsCaused job trail (Pause reason) = IsFirstNote job trail reason

-- each result of a `new` has its cause in the trail
abbrev pub ResultsAreCaused : Type 0
ResultsAreCaused = (job : Job) (trail : List Observation) (l : Allocation) (found : Found) → IsJob job →
    Goes next_of Fits fed (opening job) trail l → l.progress.stage ≡ Ended found → IsCaused job trail found

-- as long as there is no note, each tablet that it passed on from was full
abbrev pub PassedAreFull : Type 0
PassedAreFull = (job : Job) (trail : List Observation) (l : Allocation) → IsJob job →
    Goes next_of Fits fed (opening job) trail l → l.progress.note ≡ None →
    (j : ℕ) → j < l.progress.passed → IsFullTablet job trail (tablet_at job j)

-- what the search for a free entry takes a word for is what its entry is
pub record EntriesTell : Type 0 where
  pub used : (n : Numbers) (w : ℕ) → free_generation n.generations w ≡ None → IsUsed n w
  pub free : (n : Numbers) (w generation : ℕ) → free_generation n.generations w ≡ Some generation
      → IsFree n w generation

-- from the beginning it takes few steps
abbrev pub RankIsSmall : Type 0
RankIsSmall = (job : Job) → IsJob job → rank (opening job) ≤ all_tablets job.shape * (job.shape.entries + 6) + 20
