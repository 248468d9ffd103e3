use Rattle.std.proofs.Common.{◌≡◌, ◌++◌, drop, map}
use Rattle.std.specs.List.{flat_map, zip}
use Rattle.mako_text.specs.Texts.{line_text, setting_words}
use Rattle.mako_text.proofs.printing.add_settings.Given as goal

abbrev pub invariant-loop-i : goal.invariant-loop-i
invariant-loop-i l =
    l.text.items ++ flat_map (λ s. line_text (setting_words s))
    (drop l.i (zip (map (λ key. key.word.now) l.table) l.values)) ≡ l.initial.text.items ++ flat_map
    (λ s. line_text (setting_words s)) (zip (map (λ key. key.word.now) l.table) l.values)
