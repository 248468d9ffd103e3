-- An evacuation at one entry.
use Rattle.std.specs.Prelude.{◌≡◌, ℕ, Bool, true, false, not, ◌+◌, ◌<◌, ◌^◌, ◌==◌, if◌then◌else◌}
use Rattle.mako_words.specs.Entries.{entry_word, entry_at}
use Rattle.mako_words.specs.Notices.{notice_word}
use Rattle.mako_words.specs.declared.entry_word.EntryWord.{EntryWord}
use Rattle.mako_words.specs.declared.name.Name.{Name}
use Rattle.mako_words.specs.declared.notice_word.NoticeWord.TheVariants.{Freed}
use Rattle.mako_shape.specs.Places.{index, entry}
use Rattle.mako_step.specs.Acts.{does}
use Rattle.mako_step.specs.declared.act.Op.TheVariants.{Load, Store}
use Rattle.mako_step.specs.declared.step.Step.{Step}
use Rattle.mako_evac.specs.declared.owner.Owner.{Owner}
use Rattle.mako_evac.specs.declared.stage.EvacStage.{EvacStage}
use Rattle.mako_evac.specs.declared.stage.EvacStage.TheVariants.{Freeing}
use Rattle.mako_evac.specs.declared.freeing.FreeStage.{FreeStage}
use Rattle.mako_evac.specs.declared.freeing.FreeStage.TheVariants.{Loading, Storing, Awaiting, Telling}
use Rattle.mako_evac.specs.Owners.{is_dead}
use Rattle.mako_evac.specs.Passing.{at_entry}

-- the word of an entry that is free behind an object of this generation: its next object is of the next one
abbrev pub free_word : ℕ → ℕ
free_word generation = entry_word (record { taken = false; generation = generation + 1; epoch = 0; address = 0 })

-- the name of the entry's object
abbrev pub name_of : ℕ → ℕ → Name
name_of x generation = record { entry = x; generation = generation }

-- load entry; store it free; look at the notice slot; store Freed
abbrev pub free_next : Owner → ℕ → ℕ → FreeStage → Step
free_next o slot x Loading = does (index o.shape (entry x)) Load
free_next o slot x (Storing generation) = does (index o.shape (entry x)) (Store (free_word generation))
free_next o slot x (Awaiting generation) = does slot Load
free_next o slot x (Telling generation) = does slot (Store (notice_word (Freed (name_of x generation))))

-- the entry of a dead object is freed, and any other passed over
abbrev pub entry_fed : Owner → ℕ → EntryWord → EvacStage
entry_fed o x e = if is_dead o e then Freeing x (Storing e.generation) else at_entry o (x + 1)

abbrev pub free_fed : Owner → ℕ → FreeStage → ℕ → EvacStage
free_fed o x Loading w = entry_fed o x (entry_at w)
free_fed o x (Storing generation) w = Freeing x (Awaiting generation)
free_fed o x (Awaiting generation) w =
    if w == 0 then Freeing x (Telling generation) else Freeing x (Awaiting generation)
free_fed o x (Telling generation) w = at_entry o (x + 1)

-- the generation behind this one fits its bits
abbrev pub HasNext : ℕ → Type 0
HasNext generation = generation + 1 < 2 ^ 20

-- a dead object is not of the last generation
abbrev pub FreeFits : Owner → FreeStage → ℕ → Type 0
FreeFits o Loading w = is_dead o (entry_at w) ≡ true → HasNext (entry_at w).generation
FreeFits o _ w = Unit {0}

-- a look waits while the notice slot is full
abbrev pub free_waits : FreeStage → ℕ → Bool
free_waits (Awaiting generation) w = not (w == 0)
free_waits _ w = false

-- a job is one entry
abbrev pub free_renewed : Owner → FreeStage → ℕ → Bool
free_renewed o Loading w = not (is_dead o (entry_at w))
free_renewed o (Storing generation) w = false
free_renewed o (Awaiting generation) w = false
free_renewed o (Telling generation) w = true

-- the most steps that the job still takes
abbrev pub free_rank : FreeStage → ℕ
free_rank Loading = 4
free_rank (Storing generation) = 3
free_rank (Awaiting generation) = 2
free_rank (Telling generation) = 1

abbrev pub FreeIsKnown : FreeStage → Type 0
FreeIsKnown Loading = Unit {0}
FreeIsKnown (Storing generation) = HasNext generation
FreeIsKnown (Awaiting generation) = HasNext generation
FreeIsKnown (Telling generation) = HasNext generation
