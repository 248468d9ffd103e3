-- The copy of an entry's record into the home region of the entry's tablet.
use Rattle.std.specs.Prelude.{ℕ, ◌+◌, ◌-◌, ◌*◌, ◌<◌, ◌≤◌, nat_lt, if◌then◌else◌}
use Rattle.mako_words.specs.declared.entry_word.EntryWord.{EntryWord}
use Rattle.mako_words.specs.Entries.{entry_word, FitsEntry}
use Rattle.mako_shape.specs.declared.numbers.Numbers.{Numbers}
use Rattle.mako_shape.specs.Limits.{IsShape, all_entries}
use Rattle.mako_shape.specs.Places.{index, total, entry, top, region_word}
use Rattle.mako_shape.specs.Belongings.{tablet_of_entry, IsAddress}
use Rattle.mako_step.specs.Acts.{does}
use Rattle.mako_step.specs.declared.act.Op.TheVariants.{Load, Store}
use Rattle.mako_step.specs.declared.step.Step.{Step}
use Rattle.mako_step.specs.declared.step.Step.TheVariants.{Ended as NoStep}
use Rattle.mako_record.specs.declared.copier.CopyStage.{CopyStage}
use Rattle.mako_record.specs.declared.copier.CopyStage.TheVariants.{LoadingTop, LoadingHeader, StoringHeader}
use Rattle.mako_record.specs.declared.copier.CopyStage.TheVariants.{LoadingField, StoringField, StoringEntry}
use Rattle.mako_record.specs.declared.copier.CopyStage.TheVariants.{RaisingTop, Ended}

-- the geometry, the entry's number and what was loaded from it, the home region of its tablet, and the stage
pub record Copying : Type 0 where
  pub shape : Numbers
  pub number : ℕ
  pub entry : EntryWord
  pub home : ℕ
  pub stage : CopyStage

-- the copy of an entry's record into this region, at its start
abbrev pub opening_copy : Numbers → ℕ → EntryWord → ℕ → Copying
opening_copy n x e region = record { shape = n; number = x; entry = e; home = region; stage = LoadingTop }

-- the index of the top of the entry's tablet
abbrev pub top_index : Copying → ℕ
top_index c = index c.shape (top (tablet_of_entry c.shape c.number))

-- the index of the word of the home region that has so many words before it there
abbrev pub copied_to : Numbers → ℕ → ℕ → ℕ
copied_to n home offset = index n (region_word home 0) + offset

-- load top; load the header, and store it at home + top; for each field load it and store it; store the entry with the
-- new address; store top + fields + 1
abbrev pub copy_next : Numbers → ℕ → EntryWord → ℕ → CopyStage → Step
copy_next n x e home LoadingTop = does (index n (top (tablet_of_entry n x))) Load
copy_next n x e home (LoadingHeader offset) = does e.address Load
copy_next n x e home (StoringHeader offset fields) = does (copied_to n home offset) (Store fields)
copy_next n x e home (LoadingField offset fields field) = does (e.address + 1 + field) Load
copy_next n x e home (StoringField offset fields field word) = does (copied_to n home (offset + 1 + field)) (Store word)
copy_next n x e home (StoringEntry offset fields) =
    does (index n (entry x)) (Store (entry_word (record e { address = copied_to n home offset })))
copy_next n x e home (RaisingTop offset fields) =
    does (index n (top (tablet_of_entry n x))) (Store (offset + fields + 1))
copy_next n x e home (Ended address) = NoStep

abbrev pub next_of : Copying → Step
next_of c = copy_next c.shape c.number c.entry c.home c.stage

-- before the field with this number, or before the entry where there are no more
abbrev pub before_field : ℕ → ℕ → ℕ → CopyStage
before_field offset fields field =
    if nat_lt field fields then LoadingField offset fields field else StoringEntry offset fields

abbrev pub stage_fed : Numbers → ℕ → CopyStage → ℕ → CopyStage
stage_fed n home LoadingTop w = LoadingHeader w
stage_fed n home (LoadingHeader offset) w = StoringHeader offset w
stage_fed n home (StoringHeader offset fields) w = before_field offset fields 0
stage_fed n home (LoadingField offset fields field) w = StoringField offset fields field w
stage_fed n home (StoringField offset fields field word) w = before_field offset fields (field + 1)
stage_fed n home (StoringEntry offset fields) w = RaisingTop offset fields
stage_fed n home (RaisingTop offset fields) w = Ended (copied_to n home offset)
stage_fed n home (Ended address) w = Ended address

abbrev pub fed : Copying → ℕ → Copying
fed c w = record c { stage = stage_fed c.shape c.home c.stage w }

-- the top is one of a region; the record has a header of at most 14 fields, lies within all words, and its copy fits
-- into the home region
abbrev pub StageFits : Numbers → EntryWord → CopyStage → ℕ → Type 0
StageFits n e LoadingTop w = w ≤ n.words
StageFits n e (LoadingHeader offset) w = (w ≤ 14) × (e.address + w < total n) × (offset + w + 1 ≤ n.words)
StageFits n e (StoringHeader offset fields) w = Unit {0}
StageFits n e (LoadingField offset fields field) w = Unit {0}
StageFits n e (StoringField offset fields field word) w = Unit {0}
StageFits n e (StoringEntry offset fields) w = Unit {0}
StageFits n e (RaisingTop offset fields) w = Unit {0}
StageFits n e (Ended address) w = Unit {0}

abbrev pub Fits : Copying → ℕ → Type 0
Fits c w = StageFits c.shape c.entry c.stage w

-- the steps that are left, for a record of at most 14 fields
abbrev pub stage_rank : CopyStage → ℕ
stage_rank LoadingTop = 33
stage_rank (LoadingHeader offset) = 32
stage_rank (StoringHeader offset fields) = 2 * fields + 3
stage_rank (LoadingField offset fields field) = 2 * (fields - field) + 2
stage_rank (StoringField offset fields field word) = 2 * (fields - field) + 1
stage_rank (StoringEntry offset fields) = 2
stage_rank (RaisingTop offset fields) = 1
stage_rank (Ended address) = 0

abbrev pub rank : Copying → ℕ
rank c = stage_rank c.stage

-- the record and its copy lie within all words and the home region
pub record CopyFits (n : Numbers) (e : EntryWord) (offset fields : ℕ) : Type 0 where
  pub few : fields ≤ 14
  pub inside : e.address + fields < total n
  pub room : offset + fields + 1 ≤ n.words

abbrev pub StageIsKnown : Numbers → EntryWord → CopyStage → Type 0
StageIsKnown n e LoadingTop = Unit {0}
StageIsKnown n e (LoadingHeader offset) = offset ≤ n.words
StageIsKnown n e (StoringHeader offset fields) = CopyFits n e offset fields
StageIsKnown n e (LoadingField offset fields field) = CopyFits n e offset fields × (field < fields)
StageIsKnown n e (StoringField offset fields field word) = CopyFits n e offset fields × (field < fields)
StageIsKnown n e (StoringEntry offset fields) = CopyFits n e offset fields
StageIsKnown n e (RaisingTop offset fields) = CopyFits n e offset fields
StageIsKnown n e (Ended address) = IsAddress n address

-- the numbers are in the shape's ranges
pub record IsKnown (c : Copying) : Type 0 where
  pub shape : IsShape c.shape
  pub number : c.number < all_entries c.shape
  pub fits : FitsEntry c.entry
  pub address : IsAddress c.shape c.entry.address
  pub home : c.home < c.shape.servers * (c.shape.tablets + c.shape.spare)
  pub stage : StageIsKnown c.shape c.entry c.stage
