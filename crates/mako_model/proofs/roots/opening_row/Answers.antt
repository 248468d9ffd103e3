use Rattle.std.proofs.Common.{◌≡◌, ◌-◌, ◌∷◌, ℕ, replicate, ap, ◌∙◌, arith}
use Rattle.std.proofs.lemmas.Grind.{common_steps}
use Rattle.mako_words.specs.declared.value.Value.TheVariants.{Null, Ref}
use Rattle.mako_model.specs.Heaps.{board_name}
use Rattle.mako_model.proofs.RootsIn.{row_more}
use Rattle.mako_model.proofs.roots.opening_row.Goals as goal

pub loop-preserved : goal.loop-preserved
loop-preserved c = row_more c.loop.row.items _ c.loop.counter (Ref board_name) Null c.loop.invariant
    (grind (arith, common_steps))

pub returns : goal.returns
returns c =
    let count : c.loop.counter ≡ c.args.roots - 1 = omega arith in
    c.loop.invariant ∙ ap (λ (n : ℕ). Ref board_name ∷ replicate n Null) count
