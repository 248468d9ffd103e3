-- What the groups read of a server that evacuates, by its stage.
use Rattle.std.specs.Prelude.{ℕ, ◌+◌, ◌-◌, List, [], ◌∷◌}
use Rattle.mako_words.specs.declared.name.Name.{Name}
use Rattle.mako_shape.specs.declared.numbers.Numbers.{Numbers}
use Rattle.mako_gate.specs.Standings.{Watch, rests, keeps_shut, has_drained}
use Rattle.mako_names.specs.Freeing.{own_entries}
use Rattle.mako_evac.specs.declared.owner.Owner.{Owner}
use Rattle.mako_evac.specs.declared.stage.EvacStage.{EvacStage}
use Rattle.mako_evac.specs.declared.stage.EvacStage.TheVariants.{Evacuating, Freeing, AwaitingEnd, TellingEnd, Ended}
use Rattle.mako_evac.specs.declared.tablet.TabletStage.{TabletStage}
use Rattle.mako_evac.specs.declared.tablet.TabletStage.TheVariants.{LoadingLeaving, Shutting, Draining, LoadingHome}
use Rattle.mako_evac.specs.declared.tablet.TabletStage.TheVariants.{LoadingEntry, Copying, Clearing, Reopening}
use Rattle.mako_evac.specs.declared.freeing.FreeStage.{FreeStage}
use Rattle.mako_evac.specs.declared.freeing.FreeStage.TheVariants.{Loading, Storing, Awaiting, Telling}
use Rattle.mako_evac.specs.Evacuating.{Evacuation}
use Rattle.mako_evac.specs.Freeing.{name_of}
use Rattle.mako_evac.specs.Owners.{first_tablet, first_entry}
use Rattle.mako_layout.specs.Facets.{Work, idle, holds_home}
use Rattle.mako_layout.specs.StepParts.{first_of, past_of}
use Rattle.mako_phases.specs.Facets as phases
use Rattle.mako_phases.specs.Facets.{looking, found, shut, cleared, ServerStage, resting, clearing, freeing}
use Rattle.mako_state.specs.Works.{copy_work}

-- the seat of a server comes behind those of the mutators
abbrev pub server_seat : Numbers → ℕ → ℕ
server_seat n server = n.mutators + server

-- ---- where it stands in the order of the phases

-- at a tablet
abbrev pub tablet_phase : TabletStage → phases.TabletStage
tablet_phase LoadingLeaving = looking
tablet_phase Shutting = found
tablet_phase Draining = shut
tablet_phase LoadingHome = shut
tablet_phase (LoadingEntry region x) = shut
tablet_phase (Copying region x copy) = shut
tablet_phase Clearing = shut
tablet_phase Reopening = cleared

-- past its end it is at its turn
abbrev pub stage_phase : ℕ → EvacStage → ServerStage
stage_phase cycle (Evacuating t stage) = clearing cycle t (tablet_phase stage)
stage_phase cycle (Freeing x stage) = freeing cycle
stage_phase cycle AwaitingEnd = freeing cycle
stage_phase cycle TellingEnd = freeing cycle
stage_phase cycle Ended = resting

abbrev pub clearing_phase : Evacuation → ServerStage
clearing_phase v = stage_phase v.owner.cycle v.stage

-- the last cycle that it has ended: at its end it is this one
abbrev pub stage_ended : ℕ → EvacStage → ℕ → ℕ
stage_ended cycle (Evacuating t stage) ended = ended
stage_ended cycle (Freeing x stage) ended = ended
stage_ended cycle AwaitingEnd ended = ended
stage_ended cycle TellingEnd ended = ended
stage_ended cycle Ended ended = cycle

abbrev pub clearing_ended : Evacuation → ℕ → ℕ
clearing_ended v ended = stage_ended v.owner.cycle v.stage ended

-- ---- where it stands at the gates

-- of a tablet: it keeps the gate shut from the store of the shut bit on, and has drained it from the look on that found
-- nobody; from then on it has passed the entries before the one that it is at
abbrev pub tablet_watch : Numbers → ℕ → TabletStage → Watch
tablet_watch n t LoadingLeaving = rests
tablet_watch n t Shutting = rests
tablet_watch n t Draining = keeps_shut t
tablet_watch n t LoadingHome = has_drained t (first_of n t)
tablet_watch n t (LoadingEntry region x) = has_drained t x
tablet_watch n t (Copying region x copy) = has_drained t x
tablet_watch n t Clearing = has_drained t (past_of n t)
tablet_watch n t Reopening = has_drained t (past_of n t)

abbrev pub stage_watch : Numbers → EvacStage → Watch
stage_watch n (Evacuating t stage) = tablet_watch n t stage
stage_watch n (Freeing x stage) = rests
stage_watch n AwaitingEnd = rests
stage_watch n TellingEnd = rests
stage_watch n Ended = rests

abbrev pub clearing_gate : Evacuation → Watch
clearing_gate v = stage_watch v.owner.shape v.stage

-- ---- what it holds of a record

-- it keeps the home while it goes over entries, and a copy that is in progress is of the entry that it is at
abbrev pub tablet_work : TabletStage → Work
tablet_work (LoadingEntry region x) = holds_home x region
tablet_work (Copying region x copy) = copy_work copy.number copy.entry copy.home copy.stage
tablet_work stage = idle

abbrev pub stage_work : EvacStage → Work
stage_work (Evacuating t stage) = tablet_work stage
stage_work (Freeing x stage) = idle
stage_work AwaitingEnd = idle
stage_work TellingEnd = idle
stage_work Ended = idle

abbrev pub clearing_work : Evacuation → Work
clearing_work v = stage_work v.stage

-- ---- how far it has come with freeing

-- the place of an entry among its own
abbrev pub place_of : Owner → ℕ → ℕ
place_of o x = x - first_entry o.shape (first_tablet o)

-- it has gone over an entry once it has passed or freed it
abbrev pub free_through : ℕ → FreeStage → ℕ
free_through i Loading = i
free_through i (Storing generation) = i
free_through i (Awaiting generation) = i + 1
free_through i (Telling generation) = i + 1

abbrev pub stage_through : Owner → EvacStage → ℕ
stage_through o (Evacuating t stage) = 0
stage_through o (Freeing x stage) = free_through (place_of o x) stage
stage_through o AwaitingEnd = own_entries o.shape
stage_through o TellingEnd = own_entries o.shape
stage_through o Ended = own_entries o.shape

abbrev pub clearing_through : Evacuation → ℕ
clearing_through v = stage_through v.owner v.stage

-- a freed name is on its way to the collector until its notice is stored
abbrev pub free_carries : ℕ → FreeStage → List Name
free_carries x Loading = []
free_carries x (Storing generation) = []
free_carries x (Awaiting generation) = name_of x generation ∷ []
free_carries x (Telling generation) = name_of x generation ∷ []

abbrev pub stage_carries : EvacStage → List Name
stage_carries (Evacuating t stage) = []
stage_carries (Freeing x stage) = free_carries x stage
stage_carries AwaitingEnd = []
stage_carries TellingEnd = []
stage_carries Ended = []

-- with the store of an entry its name is sent, and stays so
abbrev pub free_sends : ℕ → FreeStage → List Name
free_sends x Loading = []
free_sends x (Storing generation) = name_of x generation ∷ []
free_sends x (Awaiting generation) = []
free_sends x (Telling generation) = []

abbrev pub stage_sends : EvacStage → List Name
stage_sends (Evacuating t stage) = []
stage_sends (Freeing x stage) = free_sends x stage
stage_sends AwaitingEnd = []
stage_sends TellingEnd = []
stage_sends Ended = []
