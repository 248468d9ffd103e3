-- The text of a script has no fault: a check goes through its sections to the end.
use Rattle.std.proofs.Common.{suc, ◌≡◌, ℕ, ◌+◌, ◌<◌, ◌≤◌, inl, inr, true, true≢false, List, [], ◌∷◌, ◌++◌, length}
use Rattle.std.proofs.Common.{length-append, length-drop, map, take, drop, refl, sym, ap, subst, ◌∙◌, arith}
use Rattle.std.proofs.Common.{eq-or-lt_of_le}
use Rattle.std.specs.Prelude.{slice_index}
use Rattle.std.specs.List.{AllByRecursion, flat_map, join_with_byte, list_all}
use Rattle.std.proofs.lemmas.Bool.{cases_lt}
use Rattle.std.proofs.lemmas.List.Sums.{sum_by-cons}
use Rattle.mako_model.specs.declared.call.Call.{Call}
use Rattle.mako_shape.specs.declared.numbers.Numbers.{Numbers}
use Rattle.mako_shape.specs.Limits.{all_entries, max_entries, max_words}
use Rattle.mako_shape.specs.Places.{total}
use Rattle.mako_text.specs.Names.{AreNames}
use Rattle.mako_text.specs.Programs.{AreCalls, IsProgram, ProgramView, defined_after}
use Rattle.mako_text.specs.Scripts.{ScriptView, command_count}
use Rattle.mako_text.specs.Texts.{IsScript, argument_words, command_words, end_word, mutator_word}
use Rattle.mako_text.specs.Commands.{command_of, word_of}
use Rattle.mako_text.specs.Texts.{section_lines, setting_values}
use Rattle.mako_reader.specs.Parts.{IsSetting, body_lines, lines_from, numbers_in}
use Rattle.mako_reader.specs.Commands.{IsCommandLine}
use Rattle.mako_reader.specs.Words.{words_of, lines_of}
use Rattle.mako_text.specs.Keys.{keys}
use Rattle.mako_reader.proofs.Again.{at_most, command_again, command_is_words, first_name, not_end, script_printable}
use Rattle.mako_reader.proofs.Again.{words_again}
use Rattle.mako_reader.proofs.Header.{header_at, same_setting}
use Rattle.mako_reader.proofs.Lists.{same_each}
use Rattle.mako_reader.proofs.Scripts.{HasParts, parts_of}
use Rattle.mako_reader.proofs.Sections.{lines_more}
use Rattle.mako_script.specs.declared.fault.Kind.{Kind}
use Rattle.mako_script.specs.declared.fault.Kind.TheVariants.{Words}
use Rattle.mako_script.specs.Checks.{HaveSettings, IsLine}
use Rattle.mako_script.specs.Faults.{HasFault, is_printable}
use Rattle.mako_script.specs.Lines.{line_in, sections_before}
use Rattle.mako_script.specs.States.{Between, Inside}
use Rattle.mako_script.proofs.Begins.{begins, number_at, some_roots}
use Rattle.mako_script.proofs.BetweenSections.{ending_fault, ends_here, go_open}
use Rattle.mako_script.proofs.Checked.{front}
use Rattle.mako_script.proofs.Counted.{settings_are}
use Rattle.mako_script.proofs.InSections.{go_end, go_inside}

-- ---- sections that are read

module _ (text : List ℕ) (roots : ℕ) (some : 1 ≤ roots) (printable : (at : ℕ)
    → list_all is_printable (line_in (lines_of text) at) ≡ true) where
  is_line : (line : ℕ) (l : List ℕ) (more : List (List ℕ)) → 0 < length more → (l ∷ more) ≡ drop line (lines_of text)
      → IsLine (l ∷ more) l more
  is_line line l more some left = (
    refl,
    some,
    ap (λ (ls : List (List ℕ)). list_all is_printable (line_in ls 0)) left
        ∙ ap (list_all is_printable) (front (lines_of text) line) ∙ printable line,
  )

  module _ (final : List (List ℕ)) (are : AreNames final) (few : length final ≤ roots) (left : List (List ℕ))
      (more : 0 < length left) where
    abbrev rest_of : List Call → List (List ℕ)
    rest_of calls = lines_from (map (command_words final) calls ++ (end_word ∷ []) ∷ []) ++ left

    some_rest : (calls : List Call) → 0 < length (rest_of calls)
    some_rest calls = omega
        (arith, length-append (lines_from (map (command_words final) calls ++ (end_word ∷ []) ∷ [])) left, more)

    calls_walk : (sections count k : ℕ) (calls : List Call) (line : ℕ) → k ≤ length final
        → AreCalls k calls (length final) → count + length calls ≤ 1048576
        → Inside text roots sections count (take k final) line (rest_of calls) → (next : ℕ)
        × Between text roots sections (count + length calls) next left
    calls_walk sections count k [] line within fits room st =
        let none : count ≡ count + length (let calls : List Call = [] in calls) = omega arith in
        let end = go_end text roots sections count line (take k final) (rest_of []) st end_word left
        (is_line line end_word left more st.reached.left_is) refl in
        (line + 1, subst (λ (n : ℕ). Between text roots sections n (line + 1) left) none end)
    calls_walk sections count k (c ∷ calls) line within fits room st =
        let after = at_most (defined_after k c) calls (length final) fits.1 in
        let words = words_again (word_of (command_of c)) (argument_words final c)
        (command_is_words final are k within c fits.0 after) in
        let l = join_with_byte 32 (command_words final c) in
        let read = subst (λ (ws : List (List ℕ)). IsCommandLine roots (take k final) ws
        (c, take (defined_after k c) final)) (sym words)
        (command_again final are roots few k within c fits.0 after) in
        let inside = go_inside text roots sections count line (take k final) (rest_of (c ∷ calls)) st l (rest_of calls)
        (is_line line l (rest_of calls) (some_rest calls) st.reached.left_is) (not_end final c)
        (take (defined_after k c) final) (c, read) (omega arith) in
        let others = calls_walk sections (count + 1) (defined_after k c) calls (line + 1) after fits.1
        (omega arith) inside in
        let more_calls : count + 1 + length calls ≡ count + length (c ∷ calls) = omega arith in
        (others.0, subst (λ (n : ℕ). Between text roots sections n others.0 left) more_calls others.1)

  section_walk : (sections count line : ℕ) (p : ProgramView) (left : List (List ℕ))
      → Between text roots sections count line (lines_from (section_lines p) ++ left) → sections < 16
      → IsProgram roots p
      → 0 < length left → count + length p.calls ≤ 1048576 → (next : ℕ)
      × Between text roots (sections + 1) (count + length p.calls) next left
  section_walk sections count line p left st room proper more total =
      let body = lines_from (body_lines p) ++ left in
      let behind : 0 < length body = omega (arith, length-append (lines_from (body_lines p)) left, more) in
      let inside = go_open text roots sections count line (mutator_word ∷
      body) st mutator_word body (is_line line mutator_word body behind st.reached.left_is) refl some room in
      calls_walk p.names proper.names proper.few left more (sections + 1) count 1 p.calls (line + 1)
      (omega (arith, proper.names.some)) proper.calls total
      (subst (λ (names : List (List ℕ)). Inside text roots (sections + 1) count names (line + 1) body)
      (sym (first_name p.names proper.names)) inside)

  -- the sections are read to the end of the text
  abbrev ReachesEnd : ℕ → List ProgramView → Type 0
  ReachesEnd sections ps = (next : ℕ) × (commands : ℕ)
      × Between text roots (sections + length ps) commands next ([] ∷ [])

  abbrev none_more : List ProgramView
  none_more = []

  sections_walk : (sections count line : ℕ) (ps : List ProgramView)
      → Between text roots sections count line (lines_from (flat_map section_lines ps) ++ [] ∷ [])
      → sections + length ps ≤ 16
      → AllByRecursion (IsProgram roots) ps → count + command_count ps ≤ 1048576 → ReachesEnd sections ps
  sections_walk sections count line [] st few proper total =
      let none : sections ≡ sections + length none_more = omega arith in
      (line, count, subst (λ (n : ℕ). Between text roots n count line ([] ∷ [])) none st)
  sections_walk sections count line (p ∷ ps) st few proper total =
      let left = lines_from (flat_map section_lines ps) ++ [] ∷ [] in
      let sum = sum_by-cons (λ (x : ProgramView). length x.calls) p ps in
      let here = subst (Between text roots sections count line)
      (lines_more (section_lines p) (flat_map section_lines ps) ([] ∷ [])) st in
      let one = section_walk sections count line p left here (omega arith) proper.0
      (omega (arith, length-append (lines_from (flat_map section_lines ps)) ([] ∷ [])))
      (omega (arith, sum, total)) in
      let others = sections_walk (sections + 1) (count + length p.calls) one.0 ps one.1 (omega arith) proper.1
      (omega (arith, sum, total)) in
      let more : sections + 1 + length ps ≡ sections + length (p ∷ ps) = omega arith in
      (others.0, others.1, subst (λ (n : ℕ). Between text roots n others.1 others.0 ([] ∷ [])) more others.2)

-- ---- the settings of a script

not_more : (a b : ℕ) → a ≤ b → b < a → ⊥
not_more a b low high = omega arith

module _ (text : List ℕ) (s : ScriptView) (is : IsScript text s) where
  abbrev lines : List (List ℕ)
  lines = lines_of text

  printable : (at : ℕ) → list_all is_printable (line_in lines at) ≡ true
  printable at = ap (λ (t : List ℕ). list_all is_printable (line_in (lines_of t) at)) is.spelled
      ∙ script_printable s is.proper at

  parts : HasParts text s
  parts = parts_of text s is

  have : HaveSettings lines (setting_values s)
  have at below =
      let line = header_at keys lines (setting_values s, parts.left) parts.header at ([], (0, 0))
      (omega (arith, below)) in
      let same : line_in lines at ≡ line.line = sym (front lines at)
      ∙ ap (λ (ls : List (List ℕ)). line_in ls 0) line.lines_are in
      record {
        ended = omega (arith, line.ended, length-drop (suc at) lines);
        printable = printable at;
        words = ap words_of same ∙ line.words;
        few = line.few;
        low = line.low;
        high = line.high;
      }

  few : ¬ (max_entries < all_entries (numbers_in (setting_values s) 0))
  few many = not_more (all_entries s.numbers) max_entries is.proper.shape.entries many

  count : length (setting_values s) ≡ 11
  count = refl

  abbrev roots : ℕ
  roots = slice_index (setting_values s) 7

  some : 1 ≤ roots
  some = (some_roots lines (setting_values s) have count).0

  left_is : parts.left ≡ drop 11 lines
  left_is = ap (λ (x : List ℕ × List (List ℕ)). x.1)
      (same_each IsSetting same_setting keys lines (setting_values s, parts.left) (setting_values s, drop 11 lines)
      parts.header (settings_are lines (setting_values s) have count))

  end : ReachesEnd text roots some printable 0 s.programs
  end =
      let start = subst (Between text roots 0 0 11) (sym left_is
      ∙ parts.sections.spelled) (begins text (setting_values s) have count few) in
      sections_walk text roots some printable 0 0 11 s.programs start
      (omega (arith, parts.sections.few)) parts.sections.proper (omega (arith, parts.sections.total))

  -- the areas of a script have few words together
  few_words : HasFault lines end.0 Words → ⊥
  few_words (inl cut) = absurd (let no = cut.0 in cc)
  few_words (inr (inl fault)) = fault.1
  few_words (inr (inr (last, (v, are, many)))) =
      let number : (at : ℕ) → at < 11
      → slice_index v at ≡ slice_index (setting_values s) at =
      λ at under. number_at text (setting_values s) have count few at (slice_index v at) under (are.each at under) in
      let mutators : sections_before lines end.0 ≡ s.numbers.mutators =
      omega (arith, end.2.reached.sections_are, is.proper.mutators) in
      let n1 = number 1 (omega arith) in
      let n2 = number 2 (omega arith) in
      let n3 = number 3 (omega arith) in
      let n4 = number 4 (omega arith) in
      let n5 = number 5 (omega arith) in
      let n6 = number 6 (omega arith) in
      let n7 = number 7 (omega arith) in
      let n8 = number 8 (omega arith) in
      let n9 = number 9 (omega arith) in
      let same : numbers_in v (sections_before lines end.0) ≡ s.numbers =
      (λ i. record {
        mutators = mutators i;
        servers = n1 i;
        tablets = n2 i;
        entries = n3 i;
        words = n4 i;
        spare = n5 i;
        ring = n6 i;
        roots = n7 i;
        cycles = n8 i;
        generations = n9 i;
      }) in
      not_more (total s.numbers) max_words is.proper.shape.words
      (subst (λ (n : Numbers). max_words < total n) same many)

  last_line : (k : Kind) → HasFault lines end.0 k → ⊥
  last_line k has = elim (ending_fault text roots (0 + length s.programs) end.1 end.0 ([] ∷ []) end.2 refl k has) [
    | inl none ↦ omega (arith, none.1, is.proper.mutators, is.proper.shape.in_range.each.0)
    | inr same ↦ few_words (subst (HasFault lines end.0) same has)
  ]

  behind : (at : ℕ) → end.0 < at → (k : Kind) → HasFault lines at k → ⊥
  behind at past k (inl cut) = true≢false (sym (printable at) ∙ cut.1)
  behind at past k (inr (inl fault)) =
      omega (arith, fault.0, past, (ends_here text roots (0 + length s.programs) end.1 end.0 ([] ∷ []) end.2 refl).1)
  behind at past k (inr (inr fault)) =
      omega (arith, fault.0, past, (ends_here text roots (0 + length s.programs) end.1 end.0 ([] ∷ []) end.2 refl).1)

  pub no_fault : (at : ℕ) (k : Kind) → HasFault lines at k → ⊥
  no_fault at k has = elim (cases_lt at end.0) [
    | inl less ↦ end.2.reached.clean at less k has
    | inr past ↦ elim (eq-or-lt_of_le past) [
      | inl same ↦ last_line k (subst (λ (n : ℕ). HasFault lines n k) (sym same) has)
      | inr later ↦ behind at later k has
    ]
  ]
