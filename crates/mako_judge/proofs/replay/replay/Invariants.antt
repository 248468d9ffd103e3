use Rattle.std.proofs.Common.{◌≡◌, take, []}
use Rattle.mako_model.specs.Legal.{state_of}
use Rattle.mako_judge.specs.declared.verdict.Clause.TheVariants.{Legal}
use Rattle.mako_judge.specs.Clauses.{HoldsBelow}
use Rattle.mako_judge.specs.Deaths.{lists_in, AreDeaths}
use Rattle.mako_judge.specs.Setups.{script_of, front_of}
use Rattle.mako_judge.proofs.replay.replay.Given as goal

abbrev pub invariant-loop-place : goal.invariant-loop-place
invariant-loop-place l = record {
  heap : l.heap ≡ state_of (script_of l.setup) (take l.place l.points);
  deaths : AreDeaths (script_of l.setup) (take l.place l.points) (lists_in l.deaths);
  lawful : HoldsBelow (script_of l.setup) (front_of l.points []) Legal l.place;
}
