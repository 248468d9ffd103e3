-- The text of a script, by its settings and its sections, and the one script of a text.
use Rattle.std.proofs.Common.{length, ◌≡◌, ℕ, List, [], ◌∷◌, ◌++◌, get_or, refl, sym, ap, subst, ◌∙◌, append_assoc}
use Rattle.std.proofs.Common.{arith}
use Rattle.std.specs.List.{join_with_byte, flat_map}
use Rattle.std.proofs.lemmas.List.{append-nil, length-append}
use Rattle.std.proofs.lemmas.List.Splits.{join_with_byte-slice_split}
use Rattle.mako_text.specs.Keys.{keys}
use Rattle.mako_text.specs.Programs.{ProgramView}
use Rattle.mako_text.specs.Scripts.{ScriptView, IsProper, command_count}
use Rattle.mako_text.specs.Texts.{IsScript, line_text, script_lines, script_text, section_lines}
use Rattle.mako_text.specs.Texts.{setting_values}
use Rattle.mako_reader.specs.Finds.{ReadsEach}
use Rattle.mako_shape.specs.Limits.{IsShape}
use Rattle.mako_reader.specs.Parts.{AreProper, AreSections, AreValues, IsSetting, lines_from, numbers_in, script_of}
use Rattle.mako_reader.specs.Words.{lines_of}
use Rattle.mako_reader.proofs.Again.{in_ranges, lines_again, script_words, setting_lines}
use Rattle.mako_reader.proofs.Lists.{same_each}
use Rattle.mako_reader.proofs.Sections.{lines_more, no_first, sections_follow, Others, SectionsSoFar}
use Rattle.mako_reader.proofs.Header.{are_values, header_from, header_spelled, same_setting, the_settings}

-- lines that are each ended are the text of their words
joined : (lines : List (List (List ℕ))) → join_with_byte 10 (lines_from lines ++ [] ∷ []) ≡ flat_map line_text lines
joined [] = refl
joined (l ∷ []) = sym (append-nil (line_text l))
joined (l ∷ m ∷ lines) = ap (λ (t : List ℕ). join_with_byte 32 l ++ 10 ∷ t) (joined (m ∷ lines))
    ∙ sym (append_assoc (join_with_byte 32 l) (10 ∷ []) (flat_map line_text (m ∷ lines)))

text_is : (text : List ℕ) → text ≡ join_with_byte 10 (lines_of text)
unfolding lines_of
text_is text = sym (join_with_byte-slice_split 10 text)

-- the text of these settings and programs
pub spells : (text vs : List ℕ) (left : List (List ℕ)) (ps : List ProgramView)
    → ReadsEach IsSetting keys (lines_of text) (vs, left) → AreSections (get_or vs 7 0) left ps
    → text ≡ script_text (script_of vs ps)
unfolding script_text
spells text vs left ps header sections =
    let lines : lines_of text ≡ lines_from (script_lines (script_of vs ps)) ++ [] ∷ [] =
    header_spelled keys (lines_of text) (vs, left) header
    ∙ ap (λ (ls : List (List ℕ)). lines_from (setting_lines keys vs) ++ ls) sections.spelled
    ∙ sym (lines_more (setting_lines keys vs) (flat_map section_lines ps) ([] ∷ []))
    ∙ ap (λ (ls : List (List (List ℕ))). lines_from (ls ++ flat_map section_lines ps) ++ [] ∷
    []) (the_settings vs ps (are_values (lines_of text) (vs, left) header)) in
    text_is text ∙ ap (join_with_byte 10) lines ∙ joined (script_lines (script_of vs ps))

-- what is read is proper as a script
pub proper_from : (v : List ℕ) (ps : List ProgramView) → AreValues v → AreProper ((numbers_in v (length ps)).roots) ps
    → IsShape (numbers_in v (length ps)) → IsProper (script_of v ps)
proper_from v ps values programs shape = record {
  shape = shape;
  board_low = values.board_low;
  board_high = values.board_high;
  mutators = refl;
  commands = programs.commands;
  programs = programs.programs;
}

-- the settings and the programs of a script's text
pub record HasParts (text : List ℕ) (s : ScriptView) : Type 0 where
  pub left : List (List ℕ)
  pub header : ReadsEach IsSetting keys (lines_of text) (setting_values s, left)
  pub sections : AreSections s.numbers.roots left s.programs

pub parts_of : (text : List ℕ) (s : ScriptView) → IsScript text s → HasParts text s
unfolding script_text
parts_of text s is =
    let sections = flat_map section_lines s.programs in
    let lines : lines_of text ≡ lines_from (setting_lines keys (setting_values s)) ++ (lines_from sections ++ [] ∷ []) =
    ap lines_of is.spelled ∙ lines_again (script_lines s) (script_words s is.proper)
    ∙ lines_more (setting_lines keys (setting_values s)) sections ([] ∷ []) in
    record {
      left = lines_from sections ++ [] ∷ [];
      header = subst
          (λ (ls : List (List ℕ)). ReadsEach IsSetting keys ls (setting_values s, lines_from sections ++ [] ∷ []))
          (sym lines)
          (header_from keys (setting_values s) (lines_from sections ++ [] ∷
          []) (omega (arith, length-append (lines_from sections) ([] ∷ []))) refl (in_ranges s is.proper));
      sections = record {
        spelled = refl;
        few = omega (arith, is.proper.mutators, is.proper.shape.in_range.each.1);
        proper = is.proper.programs;
        total = is.proper.commands;
      };
    }

-- a script is made of the numbers of its settings and its programs
pub made_again : (s : ScriptView) → IsProper s → s ≡ script_of (setting_values s) s.programs
made_again s proper = ap (λ (n : ℕ). record s { numbers = record s.numbers { mutators = n } }) proper.mutators

same_sections : (roots : ℕ) (lines : List (List ℕ)) (ps qs : List ProgramView) → AreSections roots lines ps
    → AreSections roots lines qs → ps ≡ qs
same_sections roots lines ps qs one two = by t.rest t.programs_are t.spelled
  where
    so_far : SectionsSoFar roots (command_count ps) lines ps ([] ∷ [])
    so_far = record { spelled = one.spelled; proper = one.proper; count_is = refl }

    t : Others roots ps qs ([] ∷ [])
    t = sections_follow roots (command_count ps) lines ps qs ([] ∷ []) so_far one.total (omega arith) two

    by : (rest : List ProgramView) → qs ≡ ps ++ rest → [] ∷ [] ≡ lines_from (flat_map section_lines rest) ++ [] ∷ []
        → ps ≡ qs
    by [] same spelled = sym (same ∙ append-nil ps)
    by (q ∷ rest) same spelled = absurd (no_first _ (sym spelled))

-- the settings and the programs of a script's text are those that were read
pub its_settings : (text : List ℕ) (s : ScriptView) → IsScript text s → (read : List ℕ × List (List ℕ))
    × ReadsEach IsSetting keys (lines_of text) read
its_settings text s is = let parts = parts_of text s is in ((setting_values s, parts.left), parts.header)

pub its_programs : (text vs : List ℕ) (left : List (List ℕ)) → ReadsEach IsSetting keys (lines_of text) (vs, left)
    → (s : ScriptView) → IsScript text s
    → (ps : List ProgramView) × AreSections (get_or vs 7 0) left ps × (s ≡ script_of vs ps)
its_programs text vs left header s is =
    let parts = parts_of text s is in
    let same = same_each IsSetting same_setting keys (lines_of text) (setting_values s, parts.left)
    (vs, left) parts.header header in (
      s.programs,
      subst (λ (x : List ℕ × List (List ℕ)). AreSections (get_or x.0 7 0) x.1 s.programs) same parts.sections,
      made_again s is.proper ∙ ap (λ (x : List ℕ × List (List ℕ)). script_of x.0 s.programs) same,
    )

-- where no script was made of what was read, the text has none
pub no_script : (text vs : List ℕ) (left : List (List ℕ)) (ps : List ProgramView)
    → ReadsEach IsSetting keys (lines_of text) (vs, left) → AreSections (get_or vs 7 0) left ps
    → ¬ IsProper (script_of vs ps)
    → (s : ScriptView) → ¬ IsScript text s
no_script text vs left ps header sections none s is =
    let programs = its_programs text vs left header s is in
    let made = programs.2 ∙ ap (script_of vs) (same_sections (get_or vs 7 0) left programs.0 ps programs.1 sections) in
    none (subst IsProper made is.proper)

-- a text is that of one script at most
pub same_script : (text : List ℕ) (s t : ScriptView) → IsScript text s → IsScript text t → s ≡ t
same_script text s t one two =
    let parts = parts_of text t two in
    let programs = its_programs text (setting_values t) parts.left parts.header s one in
    let same = same_sections t.numbers.roots parts.left programs.0 t.programs programs.1 parts.sections in
    programs.2 ∙ ap (script_of (setting_values t)) same ∙ sym (made_again t two.proper)
