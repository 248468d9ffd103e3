-- How an attempt begins.
use Rattle.std.proofs.Common.{◌≡◌, ℕ, Bool, ◌<◌, Option, Some, None, refl}
use Rattle.mako_model.specs.declared.call.Call.{Call}
use Rattle.mako_model.specs.declared.call.Call.TheVariants.{New, Num, CopyRoot, DropRoot, Get, Put, Show, Collect}
use Rattle.mako_call.specs.declared.caller.Caller.{Caller}
use Rattle.mako_call.specs.Agreeing.{AskedFits}
use Rattle.mako_call.specs.Callers.{IsCaller, CallFits}
use Rattle.mako_call.specs.Calls.{IsKnown, opening, first_stage, outcome_in, decided}

-- an attempt begins with its numbers in range
pub first_known : (k : Caller) (call : Call) (last : Bool) (asked : Option ℕ) (slot : ℕ) → IsCaller k
    → CallFits k.shape call → AskedFits k.shape asked → slot < k.shape.ring →
    IsKnown (opening k call last asked slot)
first_known k (New root fields) last asked slot caller fits in_range below =
    record { caller = caller; call = fits; slot = below; stage = tt; agrees = tt }
first_known k (Num root number) last asked slot caller fits in_range below =
    record { caller = caller; call = fits; slot = below; stage = tt; agrees = tt }
first_known k (CopyRoot to from) last asked slot caller fits in_range below =
    record { caller = caller; call = fits; slot = below; stage = tt; agrees = tt }
first_known k (DropRoot root) last asked slot caller fits in_range below =
    record { caller = caller; call = fits; slot = below; stage = tt; agrees = tt }
first_known k (Get to from field) last asked slot caller fits in_range below =
    record { caller = caller; call = fits; slot = below; stage = tt; agrees = tt }
first_known k (Put to field from) last asked slot caller fits in_range below =
    record { caller = caller; call = fits; slot = below; stage = tt; agrees = tt }
first_known k (Show root) last asked slot caller fits in_range below =
    record { caller = caller; call = fits; slot = below; stage = tt; agrees = tt }
first_known k Collect last None slot caller fits in_range below = record {
  caller = caller;
  call = fits;
  slot = below;
  stage = tt;
  agrees = tt;
}
first_known k Collect last (Some cycle) slot caller fits in_range below =
    record { caller = caller; call = fits; slot = below; stage = in_range; agrees = tt }

-- it has not ended, and is not decided
pub first_open : (call : Call) (asked : Option ℕ) → (outcome_in (first_stage call asked) ≡ None)
    × (decided (first_stage call asked) ≡ None)
first_open (New root fields) asked = (refl, refl)
first_open (Num root number) asked = (refl, refl)
first_open (CopyRoot to from) asked = (refl, refl)
first_open (DropRoot root) asked = (refl, refl)
first_open (Get to from field) asked = (refl, refl)
first_open (Put to field from) asked = (refl, refl)
first_open (Show root) asked = (refl, refl)
first_open Collect None = (refl, refl)
first_open Collect (Some cycle) = (refl, refl)
