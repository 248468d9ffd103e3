-- What an evacuation passes on to.
use Rattle.std.specs.Prelude.{ℕ, ◌+◌, nat_lt, if◌then◌else◌}
use Rattle.mako_evac.specs.declared.owner.Owner.{Owner}
use Rattle.mako_evac.specs.declared.stage.EvacStage.{EvacStage}
use Rattle.mako_evac.specs.declared.stage.EvacStage.TheVariants.{Evacuating, Freeing, AwaitingEnd}
use Rattle.mako_evac.specs.declared.tablet.TabletStage.TheVariants.{LoadingLeaving, LoadingEntry, Clearing}
use Rattle.mako_evac.specs.declared.freeing.FreeStage.TheVariants.{Loading}
use Rattle.mako_evac.specs.Owners.{first_tablet, tablets_end, first_entry}

-- the tablet with this number, or past the last own one the first own entry
abbrev pub at_tablet : Owner → ℕ → EvacStage
at_tablet o t = if nat_lt t (tablets_end o) then Evacuating t LoadingLeaving else Freeing
    (first_entry o.shape (first_tablet o)) Loading

-- the tablet's entry with this number, or past the last one the tablet's end
abbrev pub at_record : Owner → ℕ → ℕ → ℕ → EvacStage
at_record o t region x =
    if nat_lt x (first_entry o.shape (t + 1)) then Evacuating t (LoadingEntry region x) else Evacuating t Clearing

-- the own entry with this number, or past the last one the end
abbrev pub at_entry : Owner → ℕ → EvacStage
at_entry o x = if nat_lt x (first_entry o.shape (tablets_end o)) then Freeing x Loading else AwaitingEnd
