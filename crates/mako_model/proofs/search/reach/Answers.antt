use Rattle.std.proofs.Common.{sym, subst}
use Rattle.mako_model.specs.Searches.{AreSame}
use Rattle.mako_model.proofs.Searching.{found_exactly}
use Rattle.mako_model.proofs.search.reach.Goals as goal

pub returns : goal.returns
returns c = found_exactly c.args.state.now c.found_by.result c.in_ok-search-2.search.order.items
    (subst (λ s. AreSame s c.in_ok-search-2.search.order.items) (sym c.found_by.ensures) c.in_ok-search-2.ensures.same)
    c.in_ok-search-2.ensures.roots c.in_ok-search-2.ensures.fields c.in_ok-search-2.ensures.reachable
