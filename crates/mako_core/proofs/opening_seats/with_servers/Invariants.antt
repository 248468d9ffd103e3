use Rattle.std.proofs.Common.{◌≡◌, ◌++◌}
use Rattle.mako_state.specs.Openings.{servers_from}
use Rattle.mako_core.proofs.opening_seats.with_servers.Given as goal

abbrev pub invariant-loop-server : goal.invariant-loop-server
invariant-loop-server l = l.seats.items ≡ l.initial.seats.items ++ servers_from l.shape 0 l.server
