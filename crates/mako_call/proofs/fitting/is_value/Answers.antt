use Rattle.std.proofs.Common.{IsTrue, ◌↔◌, subst, sym}
use Rattle.mako_words.specs.Values.{IsPacked, value_word, FitsValue, value_at}
use Rattle.mako_call.proofs.ReadWords.{reads}
use Rattle.mako_call.proofs.fitting.is_value.Goals as goal

pub returns : goal.returns
returns c =
    subst (λ b. IsTrue b ↔ IsPacked c.args.word) (sym c.is_some.ensures)
    (reads FitsValue value_word value_at c.args.word c.unpack.result c.unpack.ensures)
