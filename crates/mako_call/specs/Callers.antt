-- Who makes a call, and which calls it can make.
use Rattle.std.specs.Prelude.{◌<◌, ◌≤◌, ◌^◌}
use Rattle.mako_shape.specs.declared.numbers.Numbers.{Numbers}
use Rattle.mako_shape.specs.Limits.{IsShape}
use Rattle.mako_model.specs.declared.call.Call.{Call}
use Rattle.mako_model.specs.declared.call.Call.TheVariants.{New, Num, CopyRoot, DropRoot, Get, Put, Show, Collect}
use Rattle.mako_call.specs.declared.caller.Caller.{Caller}

-- a mutator of the geometry
pub record IsCaller (k : Caller) : Type 0 where
  pub shape : IsShape k.shape
  pub mutator : k.mutator < k.shape.mutators

-- its roots are below their number, and an object's fields at most 14
abbrev pub CallFits : Numbers → Call → Type 0
CallFits n (New root fields) = (root < n.roots) × (fields ≤ 14)
CallFits n (Num root number) = (root < n.roots) × (number < 2 ^ 32)
CallFits n (CopyRoot to from) = (to < n.roots) × (from < n.roots)
CallFits n (DropRoot root) = root < n.roots
CallFits n (Get to from field) = (to < n.roots) × (from < n.roots)
CallFits n (Put to field from) = (to < n.roots) × (from < n.roots)
CallFits n (Show root) = root < n.roots
CallFits n Collect = Unit {0}
