use Rattle.std.proofs.Common.{◌≡◌, ◌%◌, false, ap, ◌∙◌, arith, eqb}
use Rattle.std.proofs.lemmas.Bool.Decides.{nat_tests}
use Rattle.mako_model.specs.declared.call.Call.TheVariants.{Show}
use Rattle.mako_gen.specs.Workloads.{word, variable}
use Rattle.mako_gen.proofs.Drawn.{second_word, two_behind}
use Rattle.mako_gen.proofs.draws.rare_command.Goals as goal

pub returns-else-below-eq0-clause-drawn : goal.returns-else-below-eq0-clause-drawn
returns-else-below-eq0-clause-drawn c =
    let g = c.args.generator.now in
    let other : eqb (word g 0 % 16) 0 ≡ false = grind (arith, nat_tests, c.below.ensures.drawn, c.if-below-eq0.false) in
    rw other (ap Show (c.variable.ensures.drawn ∙ ap variable (second_word _ _ c.below.ensures.left)))

pub returns-else-below-eq0-clause-left : goal.returns-else-below-eq0-clause-left
returns-else-below-eq0-clause-left c =
    let g = c.args.generator.now in
    let other : eqb (word g 0 % 16) 0 ≡ false = grind (arith, nat_tests, c.below.ensures.drawn, c.if-below-eq0.false) in
    rw other (two_behind _ _ _ c.below.ensures.left c.variable.ensures.left)
