use Rattle.std.proofs.Common.{sym, length, arith, ap, subst, ◌∙◌}
use Rattle.std.proofs.lemmas.Result.{err_from_is_err_and}
use Rattle.std.proofs.lemmas.List.{length_push}
use Rattle.mako_text.specs.Names.{texts}
use Rattle.mako_reader.specs.declared.refusal.Refusal.{Refusal}
use Rattle.mako_reader.specs.Finds.{Refused}
use Rattle.mako_reader.specs.Commands.{IsStep}
use Rattle.mako_reader.specs.Parts.{IsBody}
use Rattle.mako_reader.specs.Words.{lines_of}
use Rattle.mako_reader.proofs.Sections.{calls_start, calls_end, calls_go, its_step, no_room}
use Rattle.mako_reader.proofs.Values.{stops}
use Rattle.mako_reader.proofs.section.program.Goals as goal

pub commands-init : goal.commands-init
commands-init c = record {
  read = calls_start c.args.roots (lines_of c.args.text.now)
      (texts c.in_ok-names.names) c.new-calls.result.items c.requires.roots.0 c.in_ok-names.ensures.names
      c.new-calls.ensures.items;
  count = omega arith;
  left = omega arith;
}

pub returns-in_err-names-clause-read : goal.returns-in_err-names-clause-read
returns-in_err-names-clause-read c =
    let p = err_from_is_err_and c.from_residual.result c.from_residual.ensures.1 in
    rw (p.1, p.2) (subst (λ (e : Refusal). Refused (IsBody c.args.roots c.args.count (lines_of c.args.text.now)) e)
    (sym c.in_err-names.ensures.memory) tt)

pub returns-in_err-call-clause-read : goal.returns-in_err-call-clause-read
returns-in_err-call-clause-read c =
    let names = texts c.commands.names in
    let lines = lines_of c.commands.rest.now in
    let start = lines_of c.args.text.now in
    stops _ c.from_residual-in_err-call.result _ c.from_residual-in_err-call.ensures.1 (IsStep c.args.roots names lines)
    (IsBody c.args.roots c.args.count start)
    (its_step c.args.roots c.args.count start names c.commands.calls.items lines c.commands.invariant.read)
    c.in_err-call.ensures.read

pub returns-in_default-clause-read : goal.returns-in_default-clause-read
returns-in_default-clause-read c =
    let end = rw c.in_default.is at c.in_ok-call.ensures.read in
    rw end.1 (calls_end c.args.roots c.args.count (lines_of c.args.text.now)
    (texts c.commands.names) c.commands.calls.items (lines_of c.commands.rest.now) (lines_of c.in_ok-call.after.now)
    c.commands.invariant.read end.0 end.2 c.commands.invariant.count)

pub returns-then-count-len-ge-MAX_COMMANDS-clause-read :
    goal.returns-then-count-len-ge-MAX_COMMANDS-clause-read
returns-then-count-len-ge-MAX_COMMANDS-clause-read c =
    let step = rw c.in-Some.is at c.in_ok-call.ensures.read in
    no_room c.args.roots c.args.count (lines_of c.args.text.now) (texts c.commands.names) c.commands.calls.items
    (lines_of c.commands.rest.now) (texts c.next_command.new.names) (lines_of c.in_ok-call.after.now)
    c.in-Some.call c.commands.invariant.read step (omega (arith, c.commands.calls.ok.0))

pub commands-preserved : goal.commands-preserved
commands-preserved c =
    let s = rw c.in-Some.is at c.in_ok-call.ensures.read in
    let items = c.in_ok-push.ensures.items in
    let longer = ap length items ∙ length_push c.commands.calls.items c.in-Some.call in
    record {
      read = rw items (calls_go c.args.roots (lines_of c.args.text.now) (texts c.commands.names) c.commands.calls.items
          (lines_of c.commands.rest.now) s.0 (lines_of c.in_ok-call.after.now) (texts c.next_command.new.names)
          c.in-Some.call c.commands.invariant.read s.1 s.3);
      count = omega (arith, longer, c.commands.calls.ok.0);
      left = omega (arith, c.in_ok-call.ensures.shorter, c.commands.invariant.left);
    }
