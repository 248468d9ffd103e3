use Rattle.std.proofs.Common.{◌≡◌, ◌++◌, drop}
use Rattle.std.specs.List.{flat_map}
use Rattle.mako_text.specs.Texts.{line_text, section_lines}
use Rattle.mako_text.proofs.printing.add_sections.Given as goal

abbrev pub invariant-loop-program : goal.invariant-loop-program
invariant-loop-program l =
    l.text.items ++ flat_map (λ p. flat_map line_text (section_lines p))
    (drop l.program-index l.programs) ≡ l.initial.text.items ++ flat_map
    (λ p. flat_map line_text (section_lines p)) l.programs
