use Rattle.mako_model.specs.Searches.{AreSame, AreRootsFound, AreReachable}
use Rattle.mako_model.proofs.search.from_roots.Given as goal

abbrev pub invariant-loop-mutator : goal.invariant-loop-mutator
invariant-loop-mutator l = record {
  same : AreSame l.search.found l.search.order.items;
  roots : AreRootsFound l.state l.mutator l.search.order.items;
  reachable : AreReachable l.state l.search.order.items;
}
