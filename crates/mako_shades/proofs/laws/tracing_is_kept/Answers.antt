use Rattle.mako_shades.proofs.AllSteps.{step_kept}
use Rattle.mako_shades.proofs.Chains.{two_kept}
use Rattle.mako_shades.proofs.Lists.{set_twice}
use Rattle.mako_shades.proofs.laws.tracing_is_kept.Goals as goal

pub returns : goal.returns
returns c = record { steps = step_kept; follow = two_kept; last = set_twice }
