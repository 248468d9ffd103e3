use Rattle.mako_tracing.proofs.Resting.{measured_stays, quiet_unladen, unladen_rest}
use Rattle.mako_tracing.proofs.laws.servers_rest.Goals as goal

pub returns : goal.returns
returns c = record { unladen = unladen_rest; quiet = quiet_unladen; measured = measured_stays }
