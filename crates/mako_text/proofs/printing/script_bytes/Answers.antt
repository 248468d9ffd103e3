use Rattle.std.proofs.Common.{◌≡◌, ◌++◌, ℕ, List, map, ap, sym, subst, ◌∙◌}
use Rattle.std.specs.List.{flat_map, zip}
use Rattle.std.proofs.lemmas.List.Folds.{flat_map-map}
use Rattle.mako_text.specs.Programs.{ProgramView}
use Rattle.mako_text.specs.Scripts.{ScriptView, IsProper}
use Rattle.mako_text.specs.Texts.{line_text, section_lines, script_text, settings, setting_words}
use Rattle.mako_text.specs.Keys.{key_words}
use Rattle.mako_text.proofs.PrintedTexts.{all_sections}
use Rattle.mako_text.proofs.printing.script_bytes.Goals as goal

pub returns : goal.returns
unfolding script_text
returns c =
    let s = c.args.script.now in
    let lines : List (List ℕ × ℕ) → List ℕ = flat_map (λ s. line_text (setting_words s)) in
    let sections : List ProgramView → List ℕ = flat_map (λ p. flat_map line_text (section_lines p)) in
    let programs : c.deref.result.now ≡ s.programs = c.deref.ensures.value
    ∙ ap (λ (t : ScriptView). t.programs) c.script.view_is in
    let set : c.add_settings.new.text.items ≡ flat_map line_text (map setting_words (settings s)) =
    c.in_ok-add_settings.ensures
    ∙ ap (λ (t : List ℕ). t ++ lines (zip key_words c.values_in.result)) c.new-text.ensures.items
    ∙ ap (λ (vs : List ℕ). lines (zip key_words vs)) c.values_in.ensures
    ∙ sym (flat_map-map line_text setting_words (settings s)) in
    record {
      proper = subst IsProper c.script.view_is c.script.invariant;
      spelled = c.in_ok-add_sections.ensures ∙ ap (λ (t : List ℕ). t ++ sections c.deref.result.now) set
          ∙ ap (λ (ps : List ProgramView). flat_map line_text (map setting_words (settings s)) ++ sections ps) programs
          ∙ sym (all_sections (map setting_words (settings s)) s.programs);
    }
