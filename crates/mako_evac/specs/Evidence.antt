-- What the trail of an evacuation shows at each of its stages.
use Rattle.std.specs.Prelude.{◌≡◌, ◌≢◌, ℕ, true, ◌+◌, ◌<◌, List, [], ◌∷◌, ◌++◌, map}
use Rattle.std.specs.List.{All}
use Rattle.mako_words.specs.Entries.{entry_at}
use Rattle.mako_words.specs.Gates.{count_of}
use Rattle.mako_words.specs.Notices.{notice_word}
use Rattle.mako_words.specs.declared.name.Name.{Name}
use Rattle.mako_words.specs.declared.notice_word.NoticeWord.TheVariants.{Done}
use Rattle.mako_shape.specs.Places.{index, tablet_gate}
use Rattle.mako_step.specs.Trails.{Observation, Goes}
use Rattle.mako_step.specs.declared.act.Op.TheVariants.{Load, Store, Or}
use Rattle.mako_gate.specs.Bits.{shut_bit}
use Rattle.mako_gate.specs.Runs.{sees}
use Rattle.mako_record.specs.Copying as copying
use Rattle.mako_record.specs.Copying.{Copying as Copy, opening_copy}
use Rattle.mako_ring.specs.Contents.{after_place}
use Rattle.mako_evac.specs.declared.owner.Owner.{Owner}
use Rattle.mako_evac.specs.declared.stage.EvacStage.{EvacStage}
use Rattle.mako_evac.specs.declared.stage.EvacStage.TheVariants.{Evacuating, Freeing, AwaitingEnd, TellingEnd, Ended}
use Rattle.mako_evac.specs.declared.tablet.TabletStage.{TabletStage}
use Rattle.mako_evac.specs.declared.tablet.TabletStage.TheVariants.{LoadingLeaving, Shutting, Draining, LoadingHome}
use Rattle.mako_evac.specs.declared.tablet.TabletStage.TheVariants.{LoadingEntry, Copying, Clearing, Reopening}
use Rattle.mako_evac.specs.declared.freeing.FreeStage.{FreeStage}
use Rattle.mako_evac.specs.declared.freeing.FreeStage.TheVariants.{Loading, Storing, Awaiting, Telling}
use Rattle.mako_evac.specs.Owners.{IsOwner, tablets_end, first_entry, is_left, is_dead}
use Rattle.mako_evac.specs.Evacuating.{Evacuation, opening, next_of, Fits, fed, slot_at}
use Rattle.mako_evac.specs.Runs.{at_gate, at_word, FoundLeaving, Drained, Copied, Cleared, TabletsPassed, Stored}
use Rattle.mako_evac.specs.Runs.{FoundEmpty, EntriesPassed}

-- the gate was shut, and each look so far counted somebody
pub record Looking (o : Owner) (t : ℕ) (trail : List Observation) : Type 0 where
  pub front : List Observation
  pub leaves : FoundLeaving o t front
  pub before : ℕ
  pub looks : List ℕ
  pub counted : All (λ w. 0 < count_of w) looks
  pub made : trail ≡ front ++ at_gate o t (Or shut_bit) before ∷ map (sees (index o.shape (tablet_gate t)) Load) looks

-- the copy of the entry's record has come so far
pub record CopiedSoFar (o : Owner) (t region x : ℕ) (copy : Copy) (trail : List Observation) : Type 0 where
  pub front : List Observation
  pub copied : Copied o t region x front
  pub word : ℕ
  pub left : is_left o region (entry_at word) ≡ true
  pub since : List Observation
  pub goes : Goes copying.next_of copying.Fits copying.fed (opening_copy o.shape x (entry_at word) region) since copy
  pub made : trail ≡ front ++ at_word o x Load word ∷ since

-- what was made at the tablet
abbrev pub TabletShown : Owner → ℕ → TabletStage → List Observation → Type 0
TabletShown o t LoadingLeaving trail = trail ≡ []
TabletShown o t Shutting trail = FoundLeaving o t trail
TabletShown o t Draining trail = Looking o t trail
TabletShown o t LoadingHome trail = Drained o t trail
TabletShown o t (LoadingEntry region x) trail = Copied o t region x trail
TabletShown o t (Copying region x copy) trail = CopiedSoFar o t region x copy trail
TabletShown o t Clearing trail = (region : ℕ) × Copied o t region (first_entry o.shape (t + 1)) trail
TabletShown o t Reopening trail = Cleared o t trail

-- the entry was stored free, and each look so far found the slot full
pub record Full (slot : ℕ) (trail : List Observation) : Type 0 where
  pub looks : List ℕ
  pub full : All (λ w. w ≢ 0) looks
  pub made : trail ≡ map (sees slot Load) looks

-- what was made at the entry, with this notice slot due
abbrev pub EntryShown : Owner → ℕ → ℕ → FreeStage → List Observation → Type 0
EntryShown o slot x Loading trail = trail ≡ []
EntryShown o slot x (Storing generation) trail = (word : ℕ) × (is_dead o (entry_at word) ≡ true)
    × ((entry_at word).generation ≡ generation) × (trail ≡ at_word o x Load word ∷ [])
EntryShown o slot x (Awaiting generation) trail = (front : List Observation) × (looks : List Observation)
    × Stored o x generation front × Full (slot_at o slot) looks × (trail ≡ front ++ looks)
EntryShown o slot x (Telling generation) trail = (front : List Observation) × (looks : List Observation)
    × Stored o x generation front × FoundEmpty (slot_at o slot) looks × (trail ≡ front ++ looks)

-- the tablets before this one were passed, and then this was made
pub record AtTablet (o : Owner) (t : ℕ) (stage : TabletStage) (trail : List Observation) : Type 0 where
  pub front : List Observation
  pub own : List Observation
  pub passed : TabletsPassed o t front
  pub shown : TabletShown o t stage own
  pub made : trail ≡ front ++ own

-- all own tablets were passed, and the own entries below this one, with these names freed
pub record EntriesDone (o : Owner) (at x slot : ℕ) (names : List Name) (trail : List Observation) : Type 0 where
  pub tablets : List Observation
  pub entries : List Observation
  pub tablets_passed : TabletsPassed o (tablets_end o) tablets
  pub entries_passed : EntriesPassed o at x entries names slot
  pub made : trail ≡ tablets ++ entries

pub record AtEntry (o : Owner) (at x slot : ℕ) (stage : FreeStage) (trail : List Observation) : Type 0 where
  pub front : List Observation
  pub own : List Observation
  pub names : List Name
  pub passed : EntriesDone o at x slot names front
  pub shown : EntryShown o slot x stage own
  pub made : trail ≡ front ++ own

-- all own entries were passed, and then this was made
pub record AtEnd (o : Owner) (at slot : ℕ) (Shown : ℕ → List Observation
    → Type 0) (trail : List Observation) : Type 0 where
  pub front : List Observation
  pub own : List Observation
  pub names : List Name
  pub passed : EntriesDone o at (first_entry o.shape (tablets_end o)) slot names front
  pub shown : Shown (slot_at o slot) own
  pub made : trail ≡ front ++ own

-- all was passed, and the end was told last
pub record EndTold (o : Owner) (at slot : ℕ) (trail : List Observation) : Type 0 where
  pub front : List Observation
  pub last : ℕ
  pub waited : AtEnd o at last FoundEmpty front
  pub before : ℕ
  pub made : trail ≡ front ++ sees (slot_at o last) (Store (notice_word Done)) before ∷ []
  pub slot_is : slot ≡ after_place o.shape.ring last

-- what an evacuation has made that began with the notice slot `at`, with this slot due now
abbrev pub Evidence : Owner → ℕ → EvacStage → ℕ → List Observation → Type 0
Evidence o at (Evacuating t stage) slot trail = (slot ≡ at) × AtTablet o t stage trail
Evidence o at (Freeing x stage) slot trail = AtEntry o at x slot stage trail
Evidence o at AwaitingEnd slot trail = AtEnd o at slot Full trail
Evidence o at TellingEnd slot trail = AtEnd o at slot FoundEmpty trail
Evidence o at Ended slot trail = EndTold o at slot trail

-- at every moment the trail shows all that an evacuation has to have made by then, in order, and nothing else
abbrev pub EvacuationsGo : Type 0
EvacuationsGo = (o : Owner) (at : ℕ) (trail : List Observation) (l : Evacuation) → IsOwner o → at < o.shape.ring →
    Goes next_of Fits fed (opening o at) trail l → (l.owner ≡ o) × Evidence o at l.stage l.at trail
