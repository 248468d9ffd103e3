-- What is kept from one attempt to the next.
use Rattle.std.specs.Prelude.{◌<◌}
use Rattle.mako_shape.specs.declared.numbers.Numbers.{Numbers}
use Rattle.mako_call.specs.declared.call_machine.Keep.{Keep}
use Rattle.mako_call.specs.Agreeing.{AskedFits}

-- a cycle that was asked for and the barrier slot are ones of the geometry
pub record KeepFits (n : Numbers) (keep : Keep) : Type 0 where
  pub asked : AskedFits n keep.asked
  pub barrier : keep.barrier_at < n.ring
