-- A stage as an attempt keeps it.
use Rattle.std.specs.Prelude.{◌≡◌, refl}
use mathlib.Core.Path.{ap}
use Rattle.mako_call.specs.declared.call_machine.CallMachine.TheInside.{Inside}
use Rattle.mako_call.specs.declared.call_stage.CallStage.{CallStage}
use Rattle.mako_call.specs.declared.call_stage.CallStage.TheVariants as stages
use Rattle.mako_call.specs.declared.entering.EnterStage.TheVariants as entering
use Rattle.mako_call.specs.declared.getting.GetStage.TheVariants as getting
use Rattle.mako_call.specs.declared.leaving.LeaveStage.TheVariants as leaving
use Rattle.mako_call.specs.declared.rooting.RootStage.TheVariants as rooting
use Rattle.mako_call.specs.declared.standing.Standing.{Standing}
use Rattle.mako_call.specs.declared.standing.Standing.TheVariants.{Arriving, StoringNumber, StoringNull, LoadingCopied}
use Rattle.mako_call.specs.declared.standing.Standing.TheVariants.{StoringCopied, LoadingShown, LoadingSource}
use Rattle.mako_call.specs.declared.standing.Standing.TheVariants.{LoadingTarget, LoadingValue, LoadingPhase}
use Rattle.mako_call.specs.declared.standing.Standing.TheVariants.{ArrivingAtTablet, LoadingEntry, LoadingHome}
use Rattle.mako_call.specs.declared.standing.Standing.TheVariants.{LoadingHeader, LoadingField, StoringRoot, Refused}
use Rattle.mako_call.specs.declared.standing.Standing.TheVariants.{TurnedAway, LeavingTablet, LeavingOwn, Moving}
use Rattle.mako_call.specs.declared.standing.Standing.TheVariants.{Putting, Allocating, Asking, Ended}
use Rattle.mako_call.specs.Calls.{Calling}

-- the stage that is kept so
abbrev pub stage_at : Standing → CallStage
stage_at Arriving = stages.Arriving
stage_at (StoringNumber root number) = stages.Rooting (rooting.StoringNumber root number)
stage_at (StoringNull root) = stages.Rooting (rooting.StoringNull root)
stage_at (LoadingCopied to from) = stages.Rooting (rooting.LoadingCopied to from)
stage_at (StoringCopied to value) = stages.Rooting (rooting.StoringCopied to value)
stage_at (LoadingShown root) = stages.Rooting (rooting.LoadingShown root)
stage_at (LoadingSource to from field) = stages.Rooting (rooting.LoadingSource to from field)
stage_at (LoadingTarget to field from) = stages.Rooting (rooting.LoadingTarget to field from)
stage_at (LoadingValue object field from) = stages.Rooting (rooting.LoadingValue object field from)
stage_at (LoadingPhase object field value) = stages.Rooting (rooting.LoadingPhase object field value)
stage_at (ArrivingAtTablet errand) = stages.Entering errand entering.Arriving
stage_at (LoadingEntry errand) = stages.Entering errand entering.LoadingEntry
stage_at (LoadingHome errand entry) = stages.Entering errand (entering.LoadingHome entry)
stage_at (LoadingHeader located get) = stages.Getting located get getting.LoadingHeader
stage_at (LoadingField located get) = stages.Getting located get getting.LoadingField
stage_at (StoringRoot located get value) = stages.Getting located get (getting.StoringRoot value)
stage_at (Refused word) = stages.Leaving (leaving.Refused word)
stage_at (TurnedAway tablet word) = stages.Leaving (leaving.TurnedAway tablet word)
stage_at (LeavingTablet tablet outcome) = stages.Leaving (leaving.FromTablet tablet outcome)
stage_at (LeavingOwn outcome) = stages.Leaving (leaving.FromOwn outcome)
stage_at (Moving errand stage) = stages.Moving errand stage
stage_at (Putting located put stage) = stages.Putting located put stage
stage_at (Allocating stage) = stages.Allocating stage
stage_at (Asking stage) = stages.Asking stage
stage_at (Ended outcome) = stages.Ended outcome

-- the standing of a stage
abbrev pub standing_of : CallStage → Standing
standing_of stages.Arriving = Arriving
standing_of (stages.Rooting (rooting.StoringNumber root number)) = StoringNumber root number
standing_of (stages.Rooting (rooting.StoringNull root)) = StoringNull root
standing_of (stages.Rooting (rooting.LoadingCopied to from)) = LoadingCopied to from
standing_of (stages.Rooting (rooting.StoringCopied to value)) = StoringCopied to value
standing_of (stages.Rooting (rooting.LoadingShown root)) = LoadingShown root
standing_of (stages.Rooting (rooting.LoadingSource to from field)) = LoadingSource to from field
standing_of (stages.Rooting (rooting.LoadingTarget to field from)) = LoadingTarget to field from
standing_of (stages.Rooting (rooting.LoadingValue object field from)) = LoadingValue object field from
standing_of (stages.Rooting (rooting.LoadingPhase object field value)) = LoadingPhase object field value
standing_of (stages.Entering errand entering.Arriving) = ArrivingAtTablet errand
standing_of (stages.Entering errand entering.LoadingEntry) = LoadingEntry errand
standing_of (stages.Entering errand (entering.LoadingHome entry)) = LoadingHome errand entry
standing_of (stages.Getting located get getting.LoadingHeader) = LoadingHeader located get
standing_of (stages.Getting located get getting.LoadingField) = LoadingField located get
standing_of (stages.Getting located get (getting.StoringRoot value)) = StoringRoot located get value
standing_of (stages.Leaving (leaving.Refused word)) = Refused word
standing_of (stages.Leaving (leaving.TurnedAway tablet word)) = TurnedAway tablet word
standing_of (stages.Leaving (leaving.FromTablet tablet outcome)) = LeavingTablet tablet outcome
standing_of (stages.Leaving (leaving.FromOwn outcome)) = LeavingOwn outcome
standing_of (stages.Moving errand stage) = Moving errand stage
standing_of (stages.Putting located put stage) = Putting located put stage
standing_of (stages.Allocating stage) = Allocating stage
standing_of (stages.Asking stage) = Asking stage
standing_of (stages.Ended outcome) = Ended outcome

abbrev pub calling_in : Inside → Calling
calling_in m = record { caller = m.caller; call = m.call; last = m.last; slot = m.slot; stage = stage_at m.standing }

abbrev pub inside_of : Calling → Inside
inside_of v = record { caller = v.caller; call = v.call; last = v.last; slot = v.slot; standing = standing_of v.stage }

-- no two standings are of one stage
pub standing_again : (s : Standing) → standing_of (stage_at s) ≡ s
standing_again Arriving = refl
standing_again (StoringNumber root number) = refl
standing_again (StoringNull root) = refl
standing_again (LoadingCopied to from) = refl
standing_again (StoringCopied to value) = refl
standing_again (LoadingShown root) = refl
standing_again (LoadingSource to from field) = refl
standing_again (LoadingTarget to field from) = refl
standing_again (LoadingValue object field from) = refl
standing_again (LoadingPhase object field value) = refl
standing_again (ArrivingAtTablet errand) = refl
standing_again (LoadingEntry errand) = refl
standing_again (LoadingHome errand entry) = refl
standing_again (LoadingHeader located get) = refl
standing_again (LoadingField located get) = refl
standing_again (StoringRoot located get value) = refl
standing_again (Refused word) = refl
standing_again (TurnedAway tablet word) = refl
standing_again (LeavingTablet tablet outcome) = refl
standing_again (LeavingOwn outcome) = refl
standing_again (Moving errand stage) = refl
standing_again (Putting located put stage) = refl
standing_again (Allocating stage) = refl
standing_again (Asking stage) = refl
standing_again (Ended outcome) = refl

pub inside_again : (m : Inside) → inside_of (calling_in m) ≡ m
inside_again m = ap (λ (s : Standing). record {
  caller = m.caller;
  call = m.call;
  last = m.last;
  slot = m.slot;
  standing = s;
}) (standing_again m.standing)
