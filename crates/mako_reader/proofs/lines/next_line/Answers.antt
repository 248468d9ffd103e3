use Rattle.std.proofs.lemmas.List.{take_rest}
use Rattle.std.proofs.Common.{◌+◌, sym}
use Rattle.mako_reader.proofs.Splits.{line_at_no_place, line_at_place}
use Rattle.mako_reader.proofs.lines.next_line.Goals as goal

pub returns-in-Some-clause-read : goal.returns-in-Some-clause-read
returns-in-Some-clause-read c =
    rw (take_rest c.args.text.now (c.in-Some.end + 1))
    (line_at_place c.args.text.now c.in-Some.end (sym c.in-Some.ensures))

pub returns-in-None-clause-read : goal.returns-in-None-clause-read
returns-in-None-clause-read c = line_at_no_place c.args.text.now (sym c.in-None.ensures)
