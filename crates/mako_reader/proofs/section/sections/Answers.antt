use Rattle.std.proofs.Common.{◌≡◌, ◌+◌, length, arith, sym, ap}
use Rattle.std.proofs.lemmas.List.{length_push}
use Rattle.mako_text.specs.Programs.{ProgramView}
use Rattle.mako_reader.specs.Parts.{AreSections, IsSection}
use Rattle.mako_reader.specs.Words.{lines_of}
use Rattle.mako_reader.proofs.Sections.{its_section, no_more, sections_begin, sections_end, sections_go}
use Rattle.mako_reader.proofs.Splits.{no_lines, some_line, some_lines}
use Rattle.mako_reader.proofs.Values.{stops}
use Rattle.mako_reader.proofs.section.sections.Goals as goal

pub returns-then-len-eq-MAX_SECTIONS :
    goal.returns-then-len-eq-MAX_SECTIONS
returns-then-len-eq-MAX_SECTIONS c =
    no_more c.args.roots c.loop-rest.count (lines_of c.args.text.now) c.loop-rest.programs.items
    (lines_of c.loop-rest.rest.now) c.loop-rest.invariant.read c.loop-rest.invariant.count
    (some_line c.loop-rest.rest.now) (some_lines c.loop-rest.rest.now (sym c.loop-rest-test.ensures))
    (omega (arith, c.loop-rest.programs.ok.0))

pub returns-in_err-program : goal.returns-in_err-program
returns-in_err-program c =
    let lines = lines_of c.loop-rest.rest.now in
    let start = lines_of c.args.text.now in
    stops _ c.from_residual.result _ c.from_residual.ensures.1 (IsSection c.args.roots c.loop-rest.count lines)
    (AreSections c.args.roots start)
    (its_section c.args.roots c.loop-rest.count start c.loop-rest.programs.items lines c.loop-rest.invariant.read
    c.loop-rest.invariant.count
    (some_line c.loop-rest.rest.now) (some_lines c.loop-rest.rest.now (sym c.loop-rest-test.ensures)))
    c.in_err-program.ensures.read

pub loop-rest-preserved : goal.loop-rest-preserved
loop-rest-preserved c =
    let programs = c.loop-rest.programs in
    let items = c.in_ok-push.ensures.items in
    let section = c.in_ok-program.ensures.read in
    let counted : c.loop-rest.count + c.len-count.result ≡ c.loop-rest.count + length c.in_ok-program.program.calls =
    omega (
      arith,
      c.program.inside.calls.ok.0,
      c.len-count.ensures,
      ap
          (λ (p : ProgramView). length p.calls) c.program.view_is,
    ) in
    record {
      read = rw items (sections_go c.args.roots c.loop-rest.count _ (lines_of c.args.text.now) programs.items
          (lines_of c.loop-rest.rest.now) c.in_ok-program.program (lines_of c.in_ok-program.after.now)
          c.loop-rest.invariant.read section counted);
      few = omega (
        arith,
        ap length items,
        length_push programs.items c.in_ok-program.program,
        programs.ok.0,
        c.loop-rest.invariant.few,
      );
      count = omega (arith, counted, section.2.total);
    }

pub returns : goal.returns
returns c =
    sections_end c.args.roots c.loop-rest.count (lines_of c.args.text.now) c.loop-rest.programs.items
    (lines_of c.loop-rest.rest.now) c.loop-rest.invariant.read
    (no_lines c.loop-rest.rest.now (sym c.loop-rest-test.ensures)) c.loop-rest.invariant.few c.loop-rest.invariant.count

pub loop-rest-init : goal.loop-rest-init
loop-rest-init c = record {
  read =
      sections_begin c.args.roots (lines_of c.args.text.now) c.new-programs.result.items c.new-programs.ensures.items;
  few = omega arith;
  count = omega arith;
}
