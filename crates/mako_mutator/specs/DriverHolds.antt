-- What a driver keeps.
use Rattle.std.specs.Prelude.{◌≤◌, length, vec_capacity}
use Rattle.mako_mutator.specs.Drivers.{Driving, IsKnown}
use Rattle.mako_mutator.specs.declared.driver.Driver.TheInside.{Inside}

abbrev pub driving_in : Inside → Driving
driving_in d = record { caller = d.caller; calls = d.calls.items; replies = d.replies.items; progress = d.progress }

-- its numbers are in range, and there is room for a reply to each call
pub record DriverHolds (d : Inside) : Type 0 where
  pub known : IsKnown (driving_in d)
  pub room : length d.calls.items ≤ vec_capacity d.replies
