use Rattle.std.proofs.Common.{◌≡◌, length}
use Rattle.mako_evac.specs.Low.{IsLow}
use Rattle.mako_evac.proofs.tests.run.Given as goal

abbrev pub invariant-loop-word : goal.invariant-loop-word
invariant-loop-word l = length l.words ≡ 82

abbrev pub invariant-loop-steps : goal.invariant-loop-steps
invariant-loop-steps l = (length l.words ≡ 82) × IsLow l.machine.stage
