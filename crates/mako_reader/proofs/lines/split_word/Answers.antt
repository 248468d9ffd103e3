use Rattle.std.proofs.Common.{sym}
use Rattle.std.proofs.lemmas.List.{take_rest}
use Rattle.mako_reader.proofs.Splits.{words_at_place}
use Rattle.mako_reader.proofs.lines.split_word.Goals as goal

pub returns-in-Some : goal.returns-in-Some
returns-in-Some c =
    rw (take_rest c.args.line.now c.in-Some.end) (words_at_place c.args.line.now c.in-Some.end (sym c.in-Some.ensures))
