use Rattle.std.proofs.Common.{◌≡◌, take}
use Rattle.mako_state.specs.Openings.{mutators_from}
use Rattle.mako_core.proofs.opening_seats.mutators.Given as goal

abbrev pub invariant-loop-mutator : goal.invariant-loop-mutator
invariant-loop-mutator l = l.seats.items ≡ mutators_from l.script.numbers 0 (take l.mutator l.script.programs)
