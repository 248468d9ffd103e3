use Rattle.mako_shades.proofs.Completes.{marks_are_the_good}
use Rattle.mako_shades.proofs.Traced.{complete_traced, traced_on}
use Rattle.mako_shades.proofs.laws.complete_tells.Goals as goal

pub returns : goal.returns
returns c = record {
  good = λ n w words facets history cycle admitted legal t complete.
      marks_are_the_good n w words facets history cycle legal t admitted complete;
  traced = complete_traced;
  stays = traced_on;
}
