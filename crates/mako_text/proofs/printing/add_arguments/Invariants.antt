use Rattle.std.proofs.Common.{◌≡◌, ◌∷◌, ◌++◌, drop}
use Rattle.std.specs.List.{flat_map, zip}
use Rattle.mako_text.specs.Names.{texts}
use Rattle.mako_text.specs.Texts.{argument_word}
use Rattle.mako_text.proofs.printing.add_arguments.Given as goal

abbrev pub invariant-loop-i : goal.invariant-loop-i
invariant-loop-i l =
    l.text.items ++ flat_map (λ a. 32 ∷ argument_word (texts l.names) a)
    (drop l.i (zip l.kinds l.values)) ≡ l.initial.text.items ++ flat_map
    (λ a. 32 ∷ argument_word (texts l.names) a) (zip l.kinds l.values)
