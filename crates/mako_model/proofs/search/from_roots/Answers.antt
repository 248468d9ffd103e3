use Rattle.std.proofs.Common.{◌≡◌, ◌+◌, ◌∙◌, ap, sym, subst}
use Rattle.std.specs.List.{fold}
use Rattle.mako_model.specs.Heaps.{roots_of}
use Rattle.mako_model.specs.Searches.{added, AreRootsFound, AreReachable}
use Rattle.mako_model.proofs.Searching.{roots_more, reachable_roots}
use Rattle.mako_model.proofs.search.from_roots.Goals as goal

pub loop-mutator-preserved : goal.loop-mutator-preserved
loop-mutator-preserved c =
    let h = c.args.state.now in
    let m = c.loop-mutator.mutator in
    let order = c.loop-mutator.search.order.items in
    let after : c.add_all.new.search.order.items ≡ fold added order (roots_of h m) = c.in_ok-add_all.ensures.order
    ∙ ap (fold added order) c.roots_of.ensures in
    record {
      same = c.in_ok-add_all.ensures.same;
      roots = subst (AreRootsFound h (m + 1)) (sym after) (roots_more h m order c.loop-mutator.invariant.roots);
      reachable = subst (AreReachable h) (sym after) (reachable_roots h m order c.loop-mutator.invariant.reachable);
    }
