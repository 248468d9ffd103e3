use Rattle.mako_phases.proofs.Worked.{traced_refused, shaded_refused, leaving_refused, told_refused, ended_refused}
use Rattle.mako_phases.proofs.examples.no_part_of_a_cycle_stands_alone.Goals as goal

pub returns : goal.returns
returns c = record {
  traced = traced_refused;
  shaded = shaded_refused;
  leaving = leaving_refused;
  told = told_refused;
  ended = ended_refused;
}
