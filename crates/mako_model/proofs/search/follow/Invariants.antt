use Rattle.std.proofs.Common.{◌-◌, ◌≤◌, ◌^◌, length}
use Rattle.mako_model.specs.Searches.{AreSame, AreRootsFound, AreFieldsFound, AreReachable}
use Rattle.mako_model.proofs.search.follow.Given as goal

abbrev pub invariant-loop-done : goal.invariant-loop-done
invariant-loop-done l = record {
  same : AreSame l.search.found l.search.order.items;
  roots : AreRootsFound l.state (length l.state.roots) l.search.order.items;
  fields : AreFieldsFound l.state l.done l.search.order.items;
  reachable : AreReachable l.state l.search.order.items;
  within : l.done ≤ length l.search.order.items;
}

abbrev pub decreases-loop-done : goal.decreases-loop-done
decreases-loop-done l = 2 ^ 64 - l.done
