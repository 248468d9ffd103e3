use Rattle.mako_alloc.proofs.Caused.{passed_are_full, results_are_caused}
use Rattle.mako_alloc.proofs.laws.results.Goals as goal

pub returns-clause-causes : goal.returns-clause-causes
returns-clause-causes c = results_are_caused

pub returns-clause-passed : goal.returns-clause-passed
returns-clause-passed c = passed_are_full
