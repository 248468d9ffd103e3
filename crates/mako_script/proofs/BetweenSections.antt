-- What a line between sections does to where the check stands, and the first fault there and at the end of the text.
use Rattle.std.proofs.Common.{◌≡◌, ℕ, ◌+◌, ◌<◌, ◌≤◌, ◌⊎◌, inl, inr, Bool, not, ◌&&◌, true, false, true≢false, ◌||◌}
use Rattle.std.proofs.Common.{List, [], ◌∷◌, length, refl, sym, ap, subst, ◌∙◌, arith}
use Rattle.std.specs.Prelude.{◌≢◌, min}
use Rattle.std.specs.List.{list_all}
use Rattle.std.specs.Str.{bytes_eq}
use Rattle.std.proofs.lemmas.Slice.Eq.{bytes_eq-Decides}
use Rattle.mako_shape.specs.Limits.{max_words}
use Rattle.mako_shape.specs.Places.{total}
use Rattle.mako_text.specs.Names.{board_word}
use Rattle.mako_text.specs.Texts.{end_word, mutator_word}
use Rattle.mako_reader.specs.Parts.{numbers_in}
use Rattle.mako_reader.specs.Words.{lines_of}
use Rattle.mako_script.specs.declared.fault.Kind.{Kind}
use Rattle.mako_script.specs.declared.fault.Kind.TheVariants.{Header, NotAscii, Word, Number, Range, Names, Undefined}
use Rattle.mako_script.specs.declared.fault.Kind.TheVariants.{NoMutator, Unclosed, Many, Entries, Words}
use Rattle.mako_script.specs.Checks.{IsCut, IsLine}
use Rattle.mako_script.specs.CommandLines.{is_among}
use Rattle.mako_script.specs.Faults.{HasFault, IsFirstFault, LineFault, is_printable, rank}
use Rattle.mako_script.specs.Lines.{line_in, ended, AreSettings, IsIn, IsDefined}
use Rattle.mako_script.specs.States.{Between, Ends, Inside}
use Rattle.mako_script.proofs.Checked.{IsNth, cut_is, front, nth_line}
use Rattle.mako_script.proofs.Counts.{clean_more, counted_no, counted_yes, first_here, of_line}

only : (name : List ℕ) → is_among (board_word ∷ []) name ≡ true → name ≡ board_word
only name is = by (bytes_eq board_word name) refl is
  where
    by : (b : Bool) → bytes_eq board_word name ≡ b → (b || false) ≡ true → name ≡ board_word
    by true e h = sym ((bytes_eq-Decides board_word name).0 e)
    by false e h = absurd cc

board_among : (name : List ℕ) → name ≡ board_word → is_among (board_word ∷ []) name ≡ true
board_among name same = ap (λ (b : Bool). b || false) ((bytes_eq-Decides board_word name).1 (sym same))

module _ (text : List ℕ) (roots sections commands line : ℕ) (left : List (List ℕ))
    (st : Between text roots sections commands line left) where
  abbrev lines : List (List ℕ)
  lines = lines_of text

  none_in : (f : ℕ) → IsIn lines f line → ⊥
  none_in f is = st.between.closed f is

  -- what may be wrong with the line
  abbrev Opening : Kind → Type 0
  Opening k = ((k ≡ Word) × (line_in lines line ≢ mutator_word))
      ⊎ ((k ≡ Many) × (line_in lines line ≡ mutator_word) × (16 ≤ sections))

  opening_fault : (k : Kind) → LineFault lines line k → Opening k
  opening_fault Header fault = absurd (omega (arith, fault.0, st.reached.low))
  opening_fault Word (inl opens) = inl (refl, opens.1)
  opening_fault Word (inr (f, is, on, none)) = absurd (none_in f is)
  opening_fault Number (word, range, inl setting, none) = absurd (omega (arith, setting.0, st.reached.low))
  opening_fault Number (word, range, inr (f, is, has, least), none) = absurd (none_in f is)
  opening_fault Range (word, range, n, inl setting, number, out) = absurd (omega (arith, setting.0, st.reached.low))
  opening_fault Range (word, range, n, inr (f, is, has, least), number, out) = absurd (none_in f is)
  opening_fault Entries fault = absurd (omega (arith, fault.0, st.reached.low))
  opening_fault Undefined (f, name, is, has, undefined) = absurd (none_in f is)
  opening_fault Names (f, name, count, is, has, undefined, number, are) = absurd (none_in f is)
  opening_fault Many (inl opens) = inr (refl, opens.1, omega (arith, opens.2, st.reached.sections_are))
  opening_fault Many (inr (f, is, on, many)) = absurd (none_in f is)
  opening_fault _ fault = absurd fault

  -- ---- no line, or one that is cut

  pub ends_here : left ≡ [] ∷ [] → (line_in lines line ≡ []) × (line ≡ ended lines)
  ends_here none = (
    sym (front lines line) ∙ ap (λ (ls : List (List ℕ)). line_in ls 0) (sym st.reached.left_is ∙ none),
    (cut_is lines line Unclosed st.reached.within (subst (λ (ls : List (List ℕ)). IsCut ls Unclosed) (sym none
        ∙ st.reached.left_is) (refl, refl))).1,
  )

  pub cut_between : (kind : Kind) (told : ℕ) → IsCut left kind → left ≢ [] ∷ [] → told ≡ line + 1
      → IsFirstFault text kind told
  cut_between kind told cut some at = by kind cut
    where
      unclosed : list_all is_printable (line_in lines line) ≡ true → (k : Kind) → HasFault lines line k → 1 ≤ rank k
      unclosed printable NotAscii (inl bad) = absurd (true≢false (sym printable ∙ bad.1))
      unclosed printable NotAscii (inr (inl other)) = absurd other.1
      unclosed printable NotAscii (inr (inr other)) = absurd other.1
      unclosed printable _ has = omega arith

      one_left : (ls : List (List ℕ)) → length ls ≡ 1 → line_in ls 0 ≡ [] → ls ≡ [] ∷ []
      one_left [] count none = absurd (omega arith)
      one_left (l ∷ []) count none = ap (λ (w : List ℕ). w ∷ []) none
      one_left (l ∷ m ∷ more) count none = absurd (omega arith)

      not_empty : length left ≡ 1 → line_in lines line ≢ []
      not_empty one none =
          some (one_left left one (ap (λ (ls : List (List ℕ)). line_in ls 0) st.reached.left_is ∙ front lines line
          ∙ none))

      by : (k : Kind) → IsCut left k → IsFirstFault text k told
      by NotAscii cut =
          let bad = cut_is lines line NotAscii st.reached.within
          (subst (λ (ls : List (List ℕ)). IsCut ls NotAscii) st.reached.left_is cut) in
          first_here text line NotAscii told st.reached.clean (inl (refl, bad)) at (λ k has. omega arith)
      by Unclosed cut =
          let last = cut_is lines line Unclosed st.reached.within
          (subst (λ (ls : List (List ℕ)). IsCut ls Unclosed) st.reached.left_is cut) in
          first_here text line Unclosed told st.reached.clean (inr (inr (last.1, inl (not_empty cut.1)))) at
          (unclosed last.0)
      by _ cut = absurd cut

  -- ---- the end of the text

  -- what may be wrong at the end
  abbrev pub Ending : Kind → Type 0
  Ending k = ((k ≡ NoMutator) × (sections ≡ 0)) ⊎ (k ≡ Words)

  pub ending_fault : left ≡ [] ∷ [] → (k : Kind) → HasFault lines line k → Ending k
  ending_fault none k (inl bad) = absurd (true≢false (sym (ap (list_all is_printable) (ends_here none).0) ∙ bad.1))
  ending_fault none k (inr (inl fault)) = absurd (omega (arith, fault.0, (ends_here none).1))
  ending_fault none Unclosed (inr (inr (last, inl some))) = absurd (some (ends_here none).0)
  ending_fault none Unclosed (inr (inr (last, inr (inl setting)))) = absurd (omega (arith, setting, st.reached.low))
  ending_fault none Unclosed (inr (inr (last, inr (inr (f, is))))) = absurd (none_in f is)
  ending_fault none NoMutator (inr (inr end)) = inl (refl, sym st.reached.sections_are ∙ end.1)
  ending_fault none Words (inr (inr end)) = inr refl
  ending_fault none _ (inr (inr end)) = absurd end.1

  pub no_section : left ≡ [] ∷ [] → sections ≡ 0 → (told : ℕ) → told ≡ line + 1 → IsFirstFault text NoMutator told
  no_section none zero told at =
      first_here text line NoMutator told st.reached.clean
      (inr (inr ((ends_here none).1, st.reached.sections_are ∙ zero))) at
      (λ k has. elim (ending_fault none k has) [
        | inl same ↦ omega (arith, ap rank same.0)
        | inr same ↦ omega (arith, ap rank same)
      ])

  pub many_words : left ≡ [] ∷ [] → 0 < sections → (v : List ℕ) → AreSettings lines v
      → max_words < total (numbers_in v sections) → IsFirstFault text Words 11
  many_words none some v are many = first_here text line Words 11 st.reached.clean
      (inr (inr (
        (ends_here none).1,
        (v, are, subst (λ (n : ℕ). max_words < total (numbers_in v n)) (sym st.reached.sections_are) many),
      ))) refl
      (λ k has. elim (ending_fault none k has) [
        | inl same ↦ absurd (omega (arith, same.1, some))
        | inr same ↦ omega (arith, ap rank same)
      ])

  -- ---- the next line, which is ended and printable

  module _ (l : List ℕ) (rest : List (List ℕ)) (is : IsLine left l rest) where
    nth : IsNth lines line l rest
    nth = nth_line lines line l rest (sym st.reached.left_is ∙ is.0) is.1

    -- a line that opens no section
    pub wrong_word : bytes_eq l mutator_word ≡ false → (told : ℕ) → told ≡ line + 1 → IsFirstFault text Word told
    wrong_word other told at =
        first_here text line Word told st.reached.clean (inr (inl (nth.before_last, inl (st.between, differs)))) at
        (λ k has. elim (opening_fault k (of_line lines line l rest nth is.2 k has)) [
          | inl same ↦ omega (arith, ap rank same.0)
          | inr same ↦ absurd (differs same.1)
        ])
      where
        differs : line_in lines line ≢ mutator_word
        differs same = true≢false (sym ((bytes_eq-Decides l mutator_word).1 (sym nth.line_is ∙ same)) ∙ other)

    module _ (opens : bytes_eq l mutator_word ≡ true) where
      here : line_in lines line ≡ mutator_word
      here = nth.line_is ∙ (bytes_eq-Decides l mutator_word).0 opens

      -- one section more than there may be
      pub many_sections : 16 ≤ sections → (told : ℕ) → told ≡ line + 1 → IsFirstFault text Many told
      many_sections many told at = first_here text line Many told st.reached.clean
          (inr (inl (nth.before_last, inl (st.between, here, omega (arith, many, st.reached.sections_are))))) at
          (λ k has. elim (opening_fault k (of_line lines line l rest nth is.2 k has)) [
            | inl same ↦ absurd (same.1 here)
            | inr same ↦ omega (arith, ap rank same.0)
          ])

      -- the section that is opened
      pub go_open : 1 ≤ roots → sections < 16
          → Inside text roots (sections + 1) commands (board_word ∷ []) (line + 1) rest
      go_open some room = record {
        reached = record {
          left_is = nth.left_is;
          low = omega (arith, st.reached.low);
          within = omega (arith, nth.before_last);
          clean = clean_more lines line st.reached.clean
              (λ k has. elim (opening_fault k (of_line lines line l rest nth is.2 k has)) [
                | inl same ↦ same.1 here
                | inr same ↦ omega (arith, same.2, room)
              ]);
          sections_are = counted_yes (bytes_eq mutator_word) lines line st.reached.low (omega (arith, nth.before_last))
              (ap (bytes_eq mutator_word) here) ∙ ap (λ (n : ℕ). n + 1) st.reached.sections_are;
          commands_are = counted_no
              (λ w. not (bytes_eq mutator_word w) && not (bytes_eq end_word w)) lines line st.reached.low
              (omega (arith, nth.before_last))
              (ap (λ (w : List ℕ). not (bytes_eq mutator_word w) && not (bytes_eq end_word w)) here)
              ∙ st.reached.commands_are;
          number = st.reached.number;
          few_sections = omega (arith, room);
          few_commands = st.reached.few_commands;
        };
        from = line;
        inside = record {
          behind = st.reached.low;
          before = omega arith;
          opened = here;
          unended = λ k past below. absurd (omega (arith, past, below));
        };
        known = λ name among. inl (only name among);
        all = λ name defined. all name defined;
        apart = λ a b less below same. omega (arith, less, below);
        few = some;
        early = omega (arith, st.early);
      }
        where
          all : (name : List ℕ) → IsDefined lines line (line + 1) name → is_among (board_word ∷ []) name ≡ true
          all name (inl board) = board_among name board
          all name (inr (k, past, below, has)) = absurd (omega (arith, past, below))

-- ---- as the code counts the lines, up to a greatest number

module _ (text : List ℕ) (roots sections commands line next : ℕ) (left : List (List ℕ))
    (st : Between text roots sections commands line left) where
  pub next_line : next ≡ min (line + 1) 4294967295 → next ≡ line + 1
  next_line e = omega (arith, e, st.early, st.reached.few_sections, st.reached.few_commands)

  pub opens_one : (l : List ℕ) (rest : List (List ℕ)) → IsLine left l rest → bytes_eq l mutator_word ≡ true → 1 ≤ roots
      → sections < 16 → next ≡ min (line + 1) 4294967295
      → Inside text roots (sections + 1) commands (board_word ∷ []) next rest
  opens_one l rest is opens some room e =
      subst (λ (n : ℕ). Inside text roots (sections + 1) commands (board_word ∷ []) n rest) (sym (next_line e))
      (go_open text roots sections commands line left st l rest is opens some room)

  pub ends : left ≡ [] ∷ [] → next ≡ min (line + 1) 4294967295 → Ends text roots sections next
  ends none e = record {
    commands = commands;
    line = line;
    between = subst (Between text roots sections commands line) none st;
    behind = next_line e;
  }
