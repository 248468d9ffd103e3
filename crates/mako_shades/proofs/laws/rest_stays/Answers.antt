use Rattle.mako_shades.proofs.Quiets.{quiet_stays, complete_stays}
use Rattle.mako_shades.proofs.laws.rest_stays.Goals as goal

pub returns : goal.returns
returns c = record {
  quiet = λ n w cycle s after size quiet step not. quiet_stays n s size quiet w cycle after step not;
  complete = λ n w cycle s after admitted size complete step not.
      complete_stays n s w cycle after size admitted complete step not;
}
