use Rattle.std.proofs.Common.{◌∷◌}
use Rattle.mako_text.specs.Names.{texts}
use Rattle.mako_text.specs.Texts.{argument_word}
use Rattle.mako_text.proofs.PrintedTexts.{pair_goes_on, pairs_gone}
use Rattle.mako_text.proofs.printing.add_arguments.Goals as goal

pub loop-i-preserved : goal.loop-i-preserved
loop-i-preserved c =
    pair_goes_on (λ a. 32 ∷ argument_word (texts c.args.names.now) a) c.args.kinds.now c.args.values.now c.loop-i.i _ _
    c.loop-i.text.items c.add_argument.new.text.items _ c.requires c.loop-i-test.true c.loop-i.invariant
    c.in_ok-add_argument.ensures

pub returns : goal.returns
returns c =
    pairs_gone (λ a. 32 ∷ argument_word (texts c.args.names.now) a) c.args.kinds.now c.args.values.now c.loop-i.i
    c.loop-i.text.items _ c.loop-i-test.false c.loop-i.invariant
