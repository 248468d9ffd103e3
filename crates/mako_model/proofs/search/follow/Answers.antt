use Rattle.std.proofs.Common.{◌≡◌, ◌<◌, ◌+◌, refl, sym, subst, Some, length, slice_get, unwrap_or, [], arith}
use Rattle.std.proofs.lemmas.Option.{slice_get_read}
use Rattle.mako_model.specs.Heaps.{fields_of}
use Rattle.mako_model.specs.Searches.{expanded, AreRootsFound, AreFieldsFound, AreReachable}
use Rattle.mako_model.proofs.Searching.{roots_still, fields_more, reachable_fields, longer, in_at, fields_at_end}
use Rattle.mako_model.proofs.search.follow.Goals as goal

pub loop-done-preserved : goal.loop-done-preserved
loop-done-preserved c =
    let h = c.args.state.now in
    let done = c.loop-done.done in
    let order = c.loop-done.search.order.items in
    let name = c.index-name.result.now in
    let less : done < length order = omega (arith, c.loop-done.search.order.ok.0) in
    let here : slice_get order done ≡ Some name =
    slice_get_read order (length order) done name refl less c.index-name.ensures in
    let after : c.expand.new.search.order.items ≡ expanded h order name = c.in_ok-expand.ensures.order in
    record {
      same = c.in_ok-expand.ensures.same;
      roots = subst (AreRootsFound h (length h.roots)) (sym after)
          (roots_still h (length h.roots) order (unwrap_or (fields_of h name) []) c.loop-done.invariant.roots);
      fields = subst (AreFieldsFound h (done + 1)) (sym after)
          (fields_more h done order name c.loop-done.invariant.fields here);
      reachable = subst (AreReachable h) (sym after)
          (reachable_fields h order name c.loop-done.invariant.reachable (in_at order done name here));
      within = omega (arith, longer h order c.expand.new.search.order.items name after);
    }

pub returns-clause-fields : goal.returns-clause-fields
returns-clause-fields c =
    fields_at_end c.args.state.now c.loop-done.done c.loop-done.search.order.items
    (omega (arith, c.loop-done.search.order.ok.0)) c.loop-done.invariant.fields
