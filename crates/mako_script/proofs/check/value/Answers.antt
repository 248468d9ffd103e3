use Rattle.std.proofs.Common.{inl, inr, subst, arith}
use Rattle.mako_reader.specs.Finds.{Refused}
use Rattle.mako_reader.specs.Words.{IsNumber}
use Rattle.mako_script.proofs.check.value.Goals as goal
use Rattle.mako_script.proofs.check.value.Goals.{then-value-from-via-then-value-from}
use Rattle.mako_script.proofs.check.value.Goals.{then-value-from-via-else-value-from+then-value-from-2}

pub returns-in_default : goal.returns-in_default
returns-in_default c = subst (Refused (IsNumber c.args.word.now)) c.in_default.ensures.kind c.in_default.ensures.read

pub returns-then-value-from : goal.returns-then-value-from
returns-then-value-from c = (
  c.in-Ok.value,
  c.in-Ok.ensures.read,
  elim c.then-value-from.branch [
    | then-value-from-via-then-value-from w ↦ inl (omega (arith, c.from.ensures))
    | then-value-from-via-else-value-from+then-value-from-2 w ↦ inr (omega (arith, w.from-else-value-from.ensures))
  ],
)

pub returns : goal.returns
returns c = (c.in-Ok.ensures.read, omega (arith, c.from.ensures), omega (arith, c.from-else-value-from.ensures))
