use Rattle.std.proofs.Common.{◌≡◌, replicate}
use Rattle.mako_words.specs.declared.value.Value.TheVariants.{Null}
use Rattle.mako_model.proofs.immortal.nulls.Given as goal

abbrev pub invariant-loop : goal.invariant-loop
invariant-loop l = l.values.items ≡ replicate l.counter Null
