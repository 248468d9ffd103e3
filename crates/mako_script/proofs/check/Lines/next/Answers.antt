use Rattle.std.proofs.Common.{ℕ, List, ◌≡◌, true, sym, ap, subst, ◌∙◌}
use Rattle.std.specs.List.{list_all}
use Rattle.mako_script.specs.Checks.{IsCut}
use Rattle.mako_script.specs.Faults.{is_printable}
use Rattle.mako_reader.specs.Finds.{Refused}
use Rattle.mako_reader.specs.Words.{IsFirstLine, lines_of}
use Rattle.mako_script.specs.Lines.{line_in}
use Rattle.mako_reader.proofs.Splits.{no_lines, some_lines}
use Rattle.mako_script.proofs.Checked.{last_piece}
use Rattle.mako_script.proofs.check.Lines.next.Goals as goal
use Rattle.mako_script.proofs.check.Lines.next.Goals.{in_default-via-in-Ok+else-is_printable}
use Rattle.mako_script.proofs.check.Lines.next.Goals.{in_default-via-in-Err+else-is_printable-2}

pub returns-then-is_empty-clause-end : goal.returns-then-is_empty-clause-end
returns-then-is_empty-clause-end c = no_lines c.args.self.now.rest.now (sym c.is_empty.ensures ∙ c.if-is_empty.true)

pub returns-in-Err-clause-fault : goal.returns-in-Err-clause-fault
returns-in-Err-clause-fault c =
    let rest = c.args.self.now.rest.now in
    let none = subst (Refused (IsFirstLine (lines_of rest))) c.in-Err.ensures.kind c.in-Err.ensures.read in
    let last = last_piece rest none in
    let printable : list_all is_printable rest ≡ true = sym c.if-is_printable-2.ensures in (
      c.fault.ensures.1,
      subst (IsCut (lines_of rest)) (sym c.fault.ensures.0) (
        ap (list_all is_printable) last.1
            ∙ printable,
        last.0,
      ),
    )

pub returns-in_default-clause-fault : goal.returns-in_default-clause-fault
returns-in_default-clause-fault c =
    let rest = c.args.self.now.rest.now in (
      c.fault-in_default.ensures.1,
      subst (IsCut (lines_of rest)) (sym c.fault-in_default.ensures.0) (elim c.in_default.branch [
        | in_default-via-in-Ok+else-is_printable w ↦
            (ap (list_all is_printable) (ap (λ (ls : List (List ℕ)). line_in ls 0) w.in-Ok.ensures.read.0)
            ∙ sym w.if-is_printable.ensures)
        | in_default-via-in-Err+else-is_printable-2 w ↦ (
            let none = subst (Refused (IsFirstLine (lines_of rest))) w.in-Err.ensures.kind w.in-Err.ensures.read in
            ap (list_all is_printable) (last_piece rest none).1 ∙ sym w.if-is_printable-2.ensures)
      ]),
    )

pub returns-in-Err-clause-some : goal.returns-in-Err-clause-some
returns-in-Err-clause-some c = some_lines c.args.self.now.rest.now (sym c.is_empty.ensures ∙ c.if-is_empty.false)

pub returns-in_default-clause-some : goal.returns-in_default-clause-some
returns-in_default-clause-some c = some_lines c.args.self.now.rest.now (sym c.is_empty.ensures ∙ c.if-is_empty.false)
