use Rattle.mako_gate.proofs.ArrivalRuns.{arrivals_run}
use Rattle.mako_gate.proofs.DepartureRuns.{departures_run}
use Rattle.mako_gate.proofs.ReopeningRuns.{reopenings_run}
use Rattle.mako_gate.proofs.ShutdownRuns.{shutdowns_run}
use Rattle.mako_gate.proofs.laws.runs.Goals as goal

pub returns-clause-arrivals : goal.returns-clause-arrivals
returns-clause-arrivals c = arrivals_run

pub returns-clause-departures : goal.returns-clause-departures
returns-clause-departures c = departures_run

pub returns-clause-shuttings : goal.returns-clause-shuttings
returns-clause-shuttings c = shutdowns_run

pub returns-clause-reopenings : goal.returns-clause-reopenings
returns-clause-reopenings c = reopenings_run
