-- Low copies: of records of at most seven fields over tops of at most seven words, which fit into any region. Tests are
-- of these.
use Rattle.std.specs.Prelude.{◌≡◌, ℕ, true, ◌+◌, ◌<◌, ◌≤◌}
use Rattle.mako_words.specs.Entries.{entry_at}
use Rattle.mako_shape.specs.Places.{total}
use Rattle.mako_record.specs.Copying.{Copying as Copy}
use Rattle.mako_record.specs.declared.copier.CopyStage.{CopyStage}
use Rattle.mako_record.specs.declared.copier.CopyStage.TheVariants.{LoadingHeader}
use Rattle.mako_evac.specs.declared.owner.Owner.{Owner}
use Rattle.mako_evac.specs.declared.stage.EvacStage.{EvacStage}
use Rattle.mako_evac.specs.declared.stage.EvacStage.TheVariants.{Evacuating}
use Rattle.mako_evac.specs.declared.tablet.TabletStage.{TabletStage}
use Rattle.mako_evac.specs.declared.tablet.TabletStage.TheVariants.{LoadingEntry, Copying}
use Rattle.mako_evac.specs.Owners.{is_left}

abbrev pub IsLowStage : CopyStage → Type 0
IsLowStage (LoadingHeader offset) = offset ≤ 7
IsLowStage _ = Unit {0}

abbrev pub IsLowCopy : Copy → Type 0
IsLowCopy copy = (copy.entry.address + 7 < total copy.shape) × IsLowStage copy.stage

abbrev pub IsLowTablet : TabletStage → Type 0
IsLowTablet (Copying region x copy) = IsLowCopy copy
IsLowTablet _ = Unit {0}

abbrev pub IsLow : EvacStage → Type 0
IsLow (Evacuating t stage) = IsLowTablet stage
IsLow _ = Unit {0}

-- words that keep copies low
abbrev pub KeepsTabletLow : Owner → TabletStage → ℕ → Type 0
KeepsTabletLow o (LoadingEntry region x) w = is_left o region (entry_at w) ≡ true
    → (entry_at w).address + 7 < total o.shape
KeepsTabletLow o (Copying region x copy) w = w ≤ 7
KeepsTabletLow o _ w = Unit {0}

abbrev pub KeepsLow : Owner → EvacStage → ℕ → Type 0
KeepsLow o (Evacuating t stage) w = KeepsTabletLow o stage w
KeepsLow o _ w = Unit {0}
