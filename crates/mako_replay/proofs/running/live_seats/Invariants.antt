use Rattle.std.proofs.Common.{◌≡◌, take}
use Rattle.mako_replay.specs.Runs.{live}
use Rattle.mako_replay.proofs.running.live_seats.Given as goal

abbrev pub invariant-loop-seat : goal.invariant-loop-seat
invariant-loop-seat l = l.seats.items ≡ live (take l.seat l.core.state.seats)
