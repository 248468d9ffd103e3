use Rattle.std.proofs.Common.{◌≡◌, take}
use Rattle.std.specs.List.{fold}
use Rattle.mako_model.specs.Searches.{AreSame, added}
use Rattle.mako_model.proofs.search.add_all.Given as goal

abbrev pub invariant-loop-value : goal.invariant-loop-value
invariant-loop-value l = record {
  same : AreSame l.search.found l.search.order.items;
  order : l.search.order.items ≡ fold added l.fn.search.order.items (take l.value-index l.values);
}
