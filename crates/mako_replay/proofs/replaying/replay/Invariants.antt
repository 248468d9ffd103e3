use Rattle.std.proofs.Common.{◌≡◌, ◌≤◌, ◌-◌}
use Rattle.mako_replay.specs.Runs.{at_start, live, times}
use Rattle.mako_replay.specs.Standing.{HasCome, IsReady}
use Rattle.mako_replay.proofs.replaying.replay.Given as goal

abbrev pub invariant-loop-running : goal.invariant-loop-running
invariant-loop-running l = record {
  script : l.running.core.script ≡ l.script;
  live : l.running.live.items ≡ live l.running.core.state.seats;
  most : l.running.steps_made ≤ l.steps;
  come : HasCome l.running (times l.running.steps_made (at_start l.script l.fn.order));
  ready : IsReady l.running;
}

abbrev pub decreases-loop-running : goal.decreases-loop-running
decreases-loop-running l = l.steps - l.running.steps_made
