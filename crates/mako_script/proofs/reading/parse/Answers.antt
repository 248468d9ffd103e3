use Rattle.std.proofs.Common.{◌≡◌, subst}
use Rattle.mako_text.specs.Texts.{IsScript}
use Rattle.mako_script.specs.declared.fault.ScriptFault.TheVariants.{Bad}
use Rattle.mako_script.specs.Answers.{TellsFault}
use Rattle.mako_reader.specs.Finds.{Refused}
use Rattle.mako_reader.proofs.Scripts.{same_script}
use Rattle.mako_script.proofs.Parsed.{told_first}
use Rattle.mako_script.proofs.reading.parse.Goals as goal

pub returns-in-Ok-clause-only : goal.returns-in-Ok-clause-only
returns-in-Ok-clause-only c = λ s is. same_script c.args.bytes.now c.in-Ok.script s c.in-Ok.ensures is

pub returns-in-Err-Bad-clause-only : goal.returns-in-Err-Bad-clause-only
returns-in-Err-Bad-clause-only c =
    λ s is. absurd (subst (Refused (IsScript c.args.bytes.now)) c.in-Err-Bad.field-0-is c.in-Err-Bad.ensures s is)

pub returns-in-Err-Bad-clause-refused : goal.returns-in-Err-Bad-clause-refused
returns-in-Err-Bad-clause-refused c = λ kind line e.
    let same : c.fault.result ≡ Bad kind line = cc in (
      subst (Refused (IsScript c.args.bytes.now)) c.in-Err-Bad.field-0-is c.in-Err-Bad.ensures,
      subst
          (TellsFault c.args.bytes.now) same c.fault.ensures,
    )

pub returns-in-Ok-clause-first : goal.returns-in-Ok-clause-first
returns-in-Ok-clause-first c = λ none. absurd (none c.in-Ok.script c.in-Ok.ensures)

pub returns-in-Err-Bad-clause-first : goal.returns-in-Err-Bad-clause-first
returns-in-Err-Bad-clause-first c = λ none. told_first c.args.bytes.now c.fault.result c.fault.ensures
