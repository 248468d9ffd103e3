use Rattle.std.proofs.Common.{◌≡◌, ◌+◌, ◌∷◌, [], not, true, false, List, ℕ, Bool, Bor, Option, refl, sym, ap, subst}
use Rattle.std.proofs.Common.{◌∙◌, arith}
use Rattle.std.specs.Prelude.{IfNone, IfSome}
use Rattle.std.specs.Str.{bytes_eq}
use Rattle.std.proofs.lemmas.Result.{err_from_is_err_and}
use Rattle.mako_text.specs.Texts.{mutator_word}
use Rattle.mako_reader.specs.Words.{lines_of}
use Rattle.mako_script.specs.declared.fault.Kind.{Kind}
use Rattle.mako_script.specs.Checks.{IsLine}
use Rattle.mako_script.specs.Faults.{IsFirstFault}
use Rattle.mako_script.proofs.BetweenSections.{cut_between, ends, many_sections, next_line, opens_one, wrong_word}
use Rattle.mako_script.proofs.Counted.{not_not, sections_finish, sections_first, sections_next}
use Rattle.mako_script.proofs.check.sections.Goals as goal

not_so : (b : Bool) → not b ≡ true → b ≡ false
not_so true e = absurd cc
not_so false e = refl

pub sections-init : goal.sections-init
sections-init c = record {
  few = omega arith;
  read = sections_first c.args.roots (lines_of c.args.lines.now.rest.now);
  between = λ text start. start;
}

pub returns-in_default-clause-read : goal.returns-in_default-clause-read
returns-in_default-clause-read c =
    let end = subst (λ (o : Option (Bor (List ℕ))). IfNone o (lines_of c.sections.lines.rest.now ≡ [] ∷
    [])) c.in_default.is c.in_ok-line.ensures.end in
    sections_finish c.args.roots c.sections.sections c.sections.commands (lines_of c.args.lines.now.rest.now)
    (lines_of c.sections.lines.rest.now) c.sections.invariant.read end c.sections.invariant.few

pub returns-in_default-clause-ended : goal.returns-in_default-clause-ended
returns-in_default-clause-ended c = λ text start.
    let end = subst (λ (o : Option (Bor (List ℕ))). IfNone o (lines_of c.sections.lines.rest.now ≡ [] ∷
    [])) c.in_default.is c.in_ok-line.ensures.end in
    ends text c.args.roots c.sections.sections c.sections.commands c.sections.lines.line c.next.new.self.line
    (lines_of c.sections.lines.rest.now) (c.sections.invariant.between text start) end
    c.in_ok-line.ensures.line

pub returns-in_err-line-clause-fault : goal.returns-in_err-line-clause-fault
returns-in_err-line-clause-fault c = λ text start.
    let p = err_from_is_err_and c.from_residual.result c.from_residual.ensures.1 in
    let st = c.sections.invariant.between text start in
    let at = next_line text c.args.roots c.sections.sections c.sections.commands c.sections.lines.line
    c.next.new.self.line (lines_of c.sections.lines.rest.now) st c.in_err-line.ensures.line in
    rw (p.1, p.2) (cut_between text c.args.roots c.sections.sections c.sections.commands c.sections.lines.line
    (lines_of c.sections.lines.rest.now) st
    c.in_err-line.field-0.0.kind c.in_err-line.field-0.0.line c.in_err-line.ensures.fault.1 c.in_err-line.ensures.some
    (c.in_err-line.ensures.fault.0 ∙ at))

pub returns-then-ne-clause-fault : goal.returns-then-ne-clause-fault
returns-then-ne-clause-fault c = λ text start.
    let st = c.sections.invariant.between text start in
    let line = c.in-Some.line.now in
    let other : bytes_eq line mutator_word ≡ false = ap (bytes_eq line) (sym c.as_slice.ensures)
    ∙ not_so (bytes_eq line c.as_slice.result.now) (sym c.ne.ensures ∙ c.if-ne.true) in
    let is = subst (λ (o : Option (Bor (List ℕ))). IfSome o
    (λ (l : Bor (List ℕ)). IsLine (lines_of c.sections.lines.rest.now) l.now (lines_of c.next.new.self.rest.now)))
    c.in-Some.is c.in_ok-line.ensures.read in
    let at = next_line text c.args.roots c.sections.sections c.sections.commands c.sections.lines.line
    c.next.new.self.line (lines_of c.sections.lines.rest.now) st c.in_ok-line.ensures.line in
    subst (λ (kind : Kind). IsFirstFault text kind c.fault.result.line) (sym c.fault.ensures.0)
    (wrong_word text c.args.roots c.sections.sections c.sections.commands c.sections.lines.line
    (lines_of c.sections.lines.rest.now) st line (lines_of c.next.new.self.rest.now) is other
    c.fault.result.line (c.fault.ensures.1 ∙ at))

pub returns-then-sections-ge-MAX_SECTIONS-clause-fault : goal.returns-then-sections-ge-MAX_SECTIONS-clause-fault
returns-then-sections-ge-MAX_SECTIONS-clause-fault c = λ text start.
    let st = c.sections.invariant.between text start in
    let line = c.in-Some.line.now in
    let opens : bytes_eq line mutator_word ≡ true = ap (bytes_eq line) (sym c.as_slice.ensures)
    ∙ not_not (bytes_eq line c.as_slice.result.now) (sym c.ne.ensures ∙ c.if-ne.false) in
    let is = subst (λ (o : Option (Bor (List ℕ))). IfSome o
    (λ (l : Bor (List ℕ)). IsLine (lines_of c.sections.lines.rest.now) l.now (lines_of c.next.new.self.rest.now)))
    c.in-Some.is c.in_ok-line.ensures.read in
    let at = next_line text c.args.roots c.sections.sections c.sections.commands c.sections.lines.line
    c.next.new.self.line (lines_of c.sections.lines.rest.now) st c.in_ok-line.ensures.line in
    subst (λ (kind : Kind). IsFirstFault text kind c.fault-then-sections-ge-MAX_SECTIONS.result.line)
    (sym c.fault-then-sections-ge-MAX_SECTIONS.ensures.0)
    (many_sections text c.args.roots c.sections.sections c.sections.commands c.sections.lines.line
    (lines_of c.sections.lines.rest.now) st line (lines_of c.next.new.self.rest.now) is opens
    c.if-sections-ge-MAX_SECTIONS.true c.fault-then-sections-ge-MAX_SECTIONS.result.line
    (c.fault-then-sections-ge-MAX_SECTIONS.ensures.1 ∙ at))

pub returns-in_err-commands-clause-fault : goal.returns-in_err-commands-clause-fault
returns-in_err-commands-clause-fault c = λ text start.
    let p = err_from_is_err_and c.from_residual-in_err-commands.result c.from_residual-in_err-commands.ensures.1 in
    let line = c.in-Some.line.now in
    let opens : bytes_eq line mutator_word ≡ true = ap (bytes_eq line) (sym c.as_slice.ensures)
    ∙ not_not (bytes_eq line c.as_slice.result.now) (sym c.ne.ensures ∙ c.if-ne.false) in
    let is = subst (λ (o : Option (Bor (List ℕ))). IfSome o
    (λ (l : Bor (List ℕ)). IsLine (lines_of c.sections.lines.rest.now) l.now (lines_of c.next.new.self.rest.now)))
    c.in-Some.is c.in_ok-line.ensures.read in
    let inside = opens_one text c.args.roots c.sections.sections c.sections.commands c.sections.lines.line
    c.next.new.self.line (lines_of c.sections.lines.rest.now) (c.sections.invariant.between text start)
    line (lines_of c.next.new.self.rest.now) is opens c.requires.0 c.if-sections-ge-MAX_SECTIONS.false
    c.in_ok-line.ensures.line in
    rw (p.1, p.2) (c.in_err-commands.ensures.fault text (c.sections.sections + 1) inside)

pub sections-preserved : goal.sections-preserved
sections-preserved c =
    let line = c.in-Some.line.now in
    let opens : bytes_eq line mutator_word ≡ true = ap (bytes_eq line) (sym c.as_slice.ensures)
    ∙ not_not (bytes_eq line c.as_slice.result.now) (sym c.ne.ensures ∙ c.if-ne.false) in
    let is = subst (λ (o : Option (Bor (List ℕ))). IfSome o
    (λ (l : Bor (List ℕ)). IsLine (lines_of c.sections.lines.rest.now) l.now (lines_of c.next.new.self.rest.now)))
    c.in-Some.is c.in_ok-line.ensures.read in
    record {
      few = omega (arith, c.if-sections-ge-MAX_SECTIONS.false);
      read = sections_next c.args.roots c.sections.sections c.sections.commands c.in_ok-commands.commands
          (lines_of c.args.lines.now.rest.now) (lines_of c.sections.lines.rest.now)
          line (lines_of c.next.new.self.rest.now)
          (lines_of c.section.new.lines.rest.now) c.sections.invariant.read is opens
          (c.in_ok-commands.ensures.read c.requires.0 c.sections.invariant.read.room);
      between = λ text start. c.in_ok-commands.ensures.ended text (c.sections.sections + 1)
          (opens_one text c.args.roots c.sections.sections c.sections.commands c.sections.lines.line
          c.next.new.self.line (lines_of c.sections.lines.rest.now) (c.sections.invariant.between text start)
          line (lines_of c.next.new.self.rest.now) is opens c.requires.0 c.if-sections-ge-MAX_SECTIONS.false
          c.in_ok-line.ensures.line);
    }
