-- Where a server's evacuation begins, and where it ends.
use Rattle.std.specs.Prelude.{ℕ, Bool, ◌≡◌, ◌<◌, List}
use Rattle.mako_words.specs.declared.name.Name.{Name}
use Rattle.mako_shape.specs.declared.numbers.Numbers.{Numbers}
use Rattle.mako_step.specs.declared.step.Step.TheVariants.{Ended as NoStep}
use Rattle.mako_model.specs.Legal.{Facts}
use Rattle.mako_evac.specs.declared.owner.Owner.{Owner}
use Rattle.mako_evac.specs.declared.stage.EvacStage.TheVariants.{Evacuating, Ended}
use Rattle.mako_evac.specs.declared.tablet.TabletStage.TheVariants.{LoadingLeaving}
use Rattle.mako_evac.specs.Owners.{IsOwner, first_tablet}
use Rattle.mako_evac.specs.Evacuating.{Evacuation, opening, next_of, IsKnown}
use Rattle.mako_joint.specs.Joints.{JointScene}
use Rattle.mako_clearing.specs.Clearing.{SeatStands, SendingIs, ClearingStands}

-- at the first of its tablets
abbrev pub at_first : Owner → ℕ → Evacuation
at_first o at = record { owner = o; at = at; stage = Evacuating (first_tablet o) LoadingLeaving }

-- It begins there, and keeps then what it keeps.
pub record BeginsAtFirst (n : Numbers) (w : Facts) (s : JointScene) (o : Owner) (at ended : ℕ) (laden : Bool)
    (taker : ℕ) (sent : List Name) : Type 0 where
  pub is : opening o at ≡ at_first o at
  pub stands : SeatStands n s (at_first o at) ended laden → SendingIs n s (at_first o at) taker sent
      → ClearingStands n w s (opening o at) ended laden taker sent

abbrev pub EvacuationsBegin : Type 0
EvacuationsBegin = (n : Numbers) (w : Facts) (s : JointScene) (o : Owner) (at ended : ℕ) (laden : Bool) (taker : ℕ)
    (sent : List Name) → IsOwner o → o.shape ≡ n → at < n.ring → BeginsAtFirst n w s o at ended laden taker sent

-- where it has no step any more, it is at its end
abbrev pub EvacuationsEnd : Type 0
EvacuationsEnd = (v : Evacuation) → IsKnown v → next_of v ≡ NoStep → v.stage ≡ Ended
