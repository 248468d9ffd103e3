use Rattle.std.proofs.Common.{◌≡◌, ◌∙◌, ap, arith, ◌*◌, ◌<◌}
use Rattle.atomic_table.specs.Seated.{TableId}
use Rattle.mako_count.proofs.Dealing.{deal_more, dealt_held, dealt_on}
use Rattle.mako_count.proofs.count.Count.deal_all.Goals as goal

pub deal-seat-requires-clause-more : goal.deal-seat-requires-clause-more
deal-seat-requires-clause-more c = (deal_more _ _ _ _ _ _ c.loop-number-test.true c.loop-number.invariant).0

pub at-requires : goal.at-requires
at-requires c =
    let e = c.deal-seat.ensures in let count = c.args.self.now in let lt = c.loop-number-test.true in
    let words : c.deal-seat.result.table_id.words ≡ count.table.shared.table_id.words =
    ap (λ (z : TableId). z.words) (e.table.1 ∙ c.loop-number.invariant.tables) in
    let within : 3 * c.loop-number.number < c.deal-seat.result.table_id.words =
    omega (arith, words, count.layout, c.requires.crew, lt) in
    dealt_held _ _ _ _ _ _ c.loop-number-test.true c.loop-number.invariant c.deal-seat.result e.first (let f =
    c.type_inv.seeds c.loop-number.number in omega arith) within

pub loop-number-preserved : goal.loop-number-preserved
loop-number-preserved c =
    let e = c.deal-seat.ensures in let tables = e.table in
    rw c.in_ok-push.ensures.items
    (dealt_on _ _ _ _ _ _ c.loop-number-test.true c.loop-number.invariant _ c.deal-seat.result _ (tables.0
    ∙ c.loop-number.invariant.tables) e.rest (tables.1 ∙ c.loop-number.invariant.tables) e.first c.at.ensures)
