use Rattle.std.proofs.Common.{◌≡◌, map, take, string_bytes}
use Rattle.mako_gen.specs.Workloads.{names}
use Rattle.mako_gen.proofs.names.set_of.Given as goal

abbrev pub invariant-loop-text : goal.invariant-loop-text
invariant-loop-text l = map string_bytes l.set.keys ≡ take l.text-index names
