use Rattle.std.proofs.Common.{◌≡◌, ◌++◌, ◌∷◌, [], cond, sym, ap, subst, ◌∙◌}
use Rattle.mako_model.specs.Searches.{AreSame}
use Rattle.mako_model.proofs.Searching.{on_ok, same_pushed}
use Rattle.mako_model.proofs.search.add.Goals as goal

pub returns-in-Ok-true-clause-same : goal.returns-in-Ok-true-clause-same
returns-in-Ok-true-clause-same c =
    let order = c.args.search.now.order.items in
    let x = c.in-Ref.name in
    on_ok c.map_err.result _ (λ ok.
    let items : c.push.new.self.items ≡ order ++ x ∷ [] = c.push.ensures.items
    ∙ ap (λ b. cond b (order ++ x ∷ []) order) (sym c.map_err.ensures.variant ∙ ok) in
    subst (AreSame c.insert.new.self) (sym items)
    (same_pushed c.args.search.now.found c.insert.new.self order x c.requires c.in-Ok-true.ensures.updates.0))
