use Rattle.std.proofs.Common.{◌≡◌, ◌++◌, drop}
use Rattle.std.specs.List.{flat_map}
use Rattle.mako_text.specs.Names.{texts}
use Rattle.mako_text.specs.Texts.{line_text, command_words}
use Rattle.mako_text.proofs.printing.add_calls.Given as goal

abbrev pub invariant-loop-call : goal.invariant-loop-call
invariant-loop-call l =
    l.text.items ++ flat_map (λ c. line_text (command_words (texts l.names) c))
    (drop l.call-index l.calls) ≡ l.initial.text.items ++ flat_map
    (λ c. line_text (command_words (texts l.names) c)) l.calls
