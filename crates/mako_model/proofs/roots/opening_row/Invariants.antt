use Rattle.std.proofs.Common.{◌≡◌, ◌∷◌, replicate}
use Rattle.mako_words.specs.declared.value.Value.TheVariants.{Null, Ref}
use Rattle.mako_model.specs.Heaps.{board_name}
use Rattle.mako_model.proofs.roots.opening_row.Given as goal

abbrev pub invariant-loop : goal.invariant-loop
invariant-loop l = l.row.items ≡ Ref board_name ∷ replicate l.counter Null
