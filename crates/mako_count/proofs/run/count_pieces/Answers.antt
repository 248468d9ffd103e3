use Rattle.std.proofs.Common.{◌≡◌, ◌∙◌, sym, subst, ℕ, List, replicate}
use Rattle.mako_count.specs.Tables.{table_of}
use Rattle.mako_count.specs.States.{AreStarting}
use Rattle.mako_count.proofs.Starting.{starting_length, starting_between}
use Rattle.mako_count.proofs.run.count_pieces.Goals as goal

pub count_all-requires-clause-crew : goal.count_all-requires-clause-crew
count_all-requires-clause-crew g c κs within = let e = c.in_ok-count.ensures in starting_length _ _ _ _ e.workers
    ∙ sym e.crew

pub count_all-requires-clause-between : goal.count_all-requires-clause-between
count_all-requires-clause-between g c κs within =
    let r = c.in_ok-count.field-0 in
    let seeds : c.as_slice.result.now ≡ replicate c.args.workers 8 = c.as_slice.ensures.value
    ∙ c.in-Ok.ensures.items_if_clones_equal (λ y e. e) in
    starting_between (table_of r.count) c.args.workers 8 8 r.workers.items
    (subst (λ (l : List ℕ). AreStarting (table_of r.count) l 8 r.workers.items) seeds c.in_ok-count.ensures.workers)
