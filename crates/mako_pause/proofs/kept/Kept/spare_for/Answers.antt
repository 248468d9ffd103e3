use Rattle.std.proofs.Common.{◌≡◌, ℕ, ◌+◌, ◌*◌, ◌/◌, ◌<◌, ◌≤◌, length, ap, sym, subst, ◌∙◌, arith}
use Rattle.mako_shape.specs.declared.numbers.Numbers.{Numbers}
use Rattle.mako_shape.proofs.Rows.{div-below}
use Rattle.mako_pause.specs.Collecting.{Holdings}
use Rattle.mako_pause.proofs.Places.{row_within}
use Rattle.mako_pause.proofs.kept.Kept.spare_for.Goals as goal

regions_within : (t servers tablets regions count : ℕ) → t < servers * tablets → count ≡ servers * regions
    → t / tablets * regions + regions ≤ count
regions_within t servers tablets regions count h e = let row =
    row_within (t / tablets) servers regions (div-below t tablets servers h) in omega (arith, row, e)

pub spare_between-requires-clause-within : goal.spare_between-requires-clause-within
spare_between-requires-clause-within c =
    let n = c.numbers-numbers.result in
    let same = c.numbers-numbers.ensures.numbers in
    let shape_is = ap (λ (h : Holdings). h.shape) c.self.view_is in
    let h = subst (λ (q : Numbers). c.args.tablet < q.servers * q.tablets) (sym same) c.requires in
    let roles = subst (λ (q : Numbers). length c.self.inside.roles.items ≡ q.servers * (q.tablets + q.spare)) (shape_is
    ∙ sym same) c.self.invariant.known.roles in
    regions_within c.args.tablet n.servers n.tablets (n.tablets + n.spare) (length c.deref.result.now) h
    (ap length c.deref.ensures.value ∙ roles)
