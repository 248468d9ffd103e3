-- What a line of a section that is open does to where the check stands, and the first fault there.
use Rattle.std.proofs.Common.{◌≡◌, ℕ, ◌+◌, ◌<◌, ◌≤◌, ◌⊎◌, inl, inr, Bool, not, ◌&&◌, true, false, true≢false, List, []}
use Rattle.std.proofs.Common.{length, refl, sym, ap, subst, ◌∙◌, arith, eq-or-lt_of_le, get_or}
use Rattle.std.specs.Prelude.{◌≢◌, min}
use Rattle.std.specs.Cmp.{IsEquivalence}
use Rattle.std.specs.List.{list_all}
use Rattle.std.specs.Set.{is_member}
use Rattle.std.specs.Str.{bytes_eq}
use Rattle.std.proofs.lemmas.Bool.{cases_lt}
use Rattle.std.proofs.lemmas.List.{get_or_default}
use Rattle.std.proofs.lemmas.Map.Keys.{IsDistinct-from_apart}
use Rattle.std.proofs.lemmas.Map.Made.{length-le_from_is_member}
use Rattle.std.proofs.lemmas.Slice.Eq.{bytes_eq-Decides}
use Rattle.mako_text.specs.Names.{name_of}
use Rattle.mako_text.specs.Texts.{end_word, mutator_word}
use Rattle.mako_text.specs.declared.command.Argument.{Argument}
use Rattle.mako_text.specs.declared.command.Argument.TheVariants as arguments
use Rattle.mako_text.specs.declared.command.Command.{Command}
use Rattle.mako_text.specs.declared.command.Command.TheVariants.{New}
use Rattle.mako_reader.specs.Words.{IsNumber, lines_of, words_of}
use Rattle.mako_text.specs.Commands.{word_of}
use Rattle.mako_reader.proofs.NameLists.{place_takes}
use Rattle.mako_script.specs.declared.fault.Kind.{Kind}
use Rattle.mako_script.specs.declared.fault.Kind.TheVariants.{Header, NotAscii, Word, Number, Range, Names, Undefined}
use Rattle.mako_script.specs.declared.fault.Kind.TheVariants.{Unclosed, Many, Entries}
use Rattle.mako_script.specs.Checks.{IsCut, IsLine}
use Rattle.mako_script.specs.CommandLines.{CommandFault, IsFirstOfCommand, IsRead, is_among}
use Rattle.mako_script.specs.Faults.{HasFault, IsFirstFault, LineFault, is_printable, rank, told_line}
use Rattle.mako_script.specs.Lines.{line_in, words_at, word_in, ended, IsIn, IsCommand, HasArgument, IsDefined}
use Rattle.mako_script.specs.Lines.{AreDefined}
use Rattle.mako_script.specs.States.{AreApart, Between, Inside}
use Rattle.mako_script.proofs.Checked.{IsNth, cut_is, nth_line}
use Rattle.mako_script.proofs.Clean.{among_at, comes, grows, known_after, no_fault, stay_apart, stay_few}
use Rattle.mako_script.proofs.Commands.{among_any, among_place, turned}
use Rattle.mako_script.proofs.Counts.{clean_more, counted_no, counted_yes, first_here, of_line}
use Rattle.mako_script.proofs.GoodSettings.{number_is}

-- ---- lines of no command

-- the words that open and end a section are of no command
mutator_other : (command : Command) → mutator_word ≡ word_of command → ⊥
mutator_other New same = omega (arith, ap (λ (w : List ℕ). get_or w 0 0) same)
mutator_other _ same = omega (arith, ap (λ (w : List ℕ). get_or w 0 0) same)

end_other : (command : Command) → end_word ≡ word_of command → ⊥
end_other New same = omega (arith, ap (λ (w : List ℕ). get_or w 0 0) same)
end_other _ same = omega (arith, ap (λ (w : List ℕ). get_or w 0 0) same)

pub mutator_no_command : (command : Command) → IsCommand (words_of mutator_word) command → ⊥
unfolding words_of
mutator_no_command command is = mutator_other command is.named

pub end_no_command : (command : Command) → IsCommand (words_of end_word) command → ⊥
unfolding words_of
end_no_command command is = end_other command is.named

pub mutator_no_end : mutator_word ≡ end_word → ⊥
mutator_no_end same = omega (arith, ap length same)

-- a line that opens a section in another has a wrong word
opens_in : (lines : List (List ℕ)) (a b at : ℕ) → IsIn lines a at → IsIn lines b at → a < b → at ≤ ended lines
    → HasFault lines b Word
opens_in lines a b at ina inb less within =
    let inside : IsIn lines a b = record {
      behind = ina.behind;
      before = less;
      opened = ina.opened;
      unended = λ k after before. ina.unended k after (omega (arith, before, inb.before));
    } in
    inr (inl (
      omega (arith, inb.before, within),
      inr (
        a,
        inside,
        (λ same. mutator_no_end (sym inb.opened ∙ same)),
        λ command is. mutator_no_command command (subst (λ (l : List ℕ). IsCommand (words_of l) command) inb.opened is),
      ),
    ))

-- ---- names

same_bytes : IsEquivalence bytes_eq
same_bytes = record {
  refl = λ x. (bytes_eq-Decides x x).1 refl;
  symm = λ x y. turned y x;
  congr = λ x y z same. ap (λ (w : List ℕ). bytes_eq w z) ((bytes_eq-Decides x y).0 same);
}

-- names that are apart, each among others, are at most as many
apart_few : (xs ys : List (List ℕ)) → AreApart xs → ((a : ℕ) → a < length xs → is_among ys (name_of xs a) ≡ true)
    → length xs ≤ length ys
apart_few xs ys apart each = length-le_from_is_member same_bytes xs ys (IsDistinct-from_apart bytes_eq xs differ) among
  where
    differ : (i j : ℕ) (d : List ℕ) → i < j → j < length xs → bytes_eq (get_or xs i d) (get_or xs j d) ≡ false
    differ i j d less below = by (bytes_eq (get_or xs i d) (get_or xs j d)) refl
      where
        by : (b : Bool) → bytes_eq (get_or xs i d) (get_or xs j d) ≡ b
            → bytes_eq (get_or xs i d) (get_or xs j d) ≡ false
        by true e = absurd (apart i j less below (get_or_default xs i [] d (omega arith)
            ∙ (bytes_eq-Decides (get_or xs i d) (get_or xs j d)).0 e ∙ get_or_default xs j d [] below))
        by false e = e

    among : (q : List ℕ) → is_member bytes_eq xs q ≡ true → is_member bytes_eq ys q ≡ true
    among q is =
        let place = among_place xs q (among_any xs q ∙ is) in
        let at = place_takes xs q place.0 place.1 in
        sym (among_any ys q) ∙ ap (is_among ys) (sym at.1) ∙ each place.0 at.0

-- ---- a line in a section

module _ (text : List ℕ) (roots sections commands line : ℕ) (names left : List (List ℕ))
    (st : Inside text roots sections commands names line left) where
  abbrev lines : List (List ℕ)
  lines = lines_of text

  one_opening : (f : ℕ) → IsIn lines f line → f ≡ st.from
  one_opening f is = elim (cases_lt f st.from) [
    | inl less ↦ absurd (st.reached.clean st.from st.inside.before Word
        (opens_in lines f st.from line is st.inside less st.reached.within))
    | inr past ↦ elim (eq-or-lt_of_le past) [
      | inl same ↦ sym same
      | inr more ↦ absurd (st.reached.clean f is.before Word
          (opens_in lines st.from f line st.inside is more st.reached.within))
    ]
  ]

  unknown : (f : ℕ) (name : List ℕ) → IsIn lines f line → ¬ IsDefined lines f line name → is_among names name ≡ false
  unknown f name is undefined = by (is_among names name) refl
    where
      by : (b : Bool) → is_among names name ≡ b → is_among names name ≡ false
      by true e = absurd (undefined
          (subst (λ (g : ℕ). IsDefined lines g line name) (sym (one_opening f is)) (st.known name e)))
      by false e = e

  -- as many defined names as there are roots fill the section's
  full : (f count : ℕ) → IsIn lines f line → IsNumber (word_in (words_at lines 7) 1) count
      → AreDefined lines f line count → roots ≤ length names
  full f count is number are =
      let same = number_is (word_in (words_at lines 7) 1) roots count st.reached.number.0 st.reached.number.1 number in
      let few = apart_few are.names names are.distinct
      (λ a below. st.all (name_of are.names a)
      (subst (λ (g : ℕ). IsDefined lines g line (name_of are.names a)) (one_opening f is) (are.each a below))) in
      omega (arith, few, are.many, same)

  -- a fault of the line is one of its words, or there are too many commands
  words_fault : (k : Kind) → LineFault lines line k → CommandFault names roots (words_at lines line) k
      ⊎ ((k ≡ Many) × (1048576 ≤ commands))
  words_fault Header fault = absurd (omega (arith, fault.0, st.reached.low))
  words_fault Word (inl opens) = absurd (opens.0.closed st.from st.inside)
  words_fault Word (inr (f, is, on, none)) = inl none
  words_fault Number (word, range, inl setting, none) = absurd (omega (arith, setting.0, st.reached.low))
  words_fault Number (word, range, inr (f, is, has, least), none) =
      inl (word, range.1, has, none)
  words_fault Range (word, range, n, inl setting, number, out) = absurd (omega (arith, setting.0, st.reached.low))
  words_fault Range (word, range, n, inr (f, is, has, least), number, inl below) =
      absurd (omega (arith, below, least))
  words_fault Range (word, range, n, inr (f, is, has, least), number, inr above) =
      inl (word, range.1, n, has, number, above)
  words_fault Entries fault = absurd (omega (arith, fault.0, st.reached.low))
  words_fault Undefined (f, name, is, has, undefined) = inl (name, has, unknown f name is undefined)
  words_fault Names (f, name, count, is, has, undefined, number, are) =
      inl (name, has, unknown f name is undefined, full f count is number are)
  words_fault Many (inl opens) = absurd (opens.0.closed st.from st.inside)
  words_fault Many (inr (f, is, on, many)) = inr (refl, omega (arith, many, st.reached.commands_are))
  words_fault _ fault = absurd fault

  -- the line that ends the section has no fault
  end_clean : line_in lines line ≡ end_word → (k : Kind) → LineFault lines line k → ⊥
  end_clean end k fault = by k fault
    where
      no_argument : (kind : Argument) (word : List ℕ) → HasArgument (words_at lines line) kind word → ⊥
      no_argument kind word (command, place, is, among, spelled) =
          end_no_command command (subst (λ (l : List ℕ). IsCommand (words_of l) command) end is)

      by : (k : Kind) → LineFault lines line k → ⊥
      by Header fault = omega (arith, fault.0, st.reached.low)
      by Word (inl opens) = opens.0.closed st.from st.inside
      by Word (inr (f, is, on, none)) = on end
      by Number (word, range, inl setting, none) = omega (arith, setting.0, st.reached.low)
      by Number (word, range, inr (f, is, has, least), none) = no_argument (arguments.Number range.1) word has
      by Range (word, range, n, inl setting, number, out) = omega (arith, setting.0, st.reached.low)
      by Range (word, range, n, inr (f, is, has, least), number, out) =
          no_argument (arguments.Number range.1) word has
      by Entries fault = omega (arith, fault.0, st.reached.low)
      by Undefined (f, name, is, has, undefined) = no_argument arguments.Read name has
      by Names (f, name, count, is, has, undefined, number, are) = no_argument arguments.Defined name has
      by Many (inl opens) = opens.0.closed st.from st.inside
      by Many (inr (f, is, on, many)) = on end
      by _ fault = fault

  -- a section that is cut
  pub cut_inside : (kind : Kind) (told : ℕ) → IsCut left kind → told ≡ line + 1 → IsFirstFault text kind told
  cut_inside kind told cut at = by kind cut
    where
      unclosed : list_all is_printable (line_in lines line) ≡ true → (k : Kind) → HasFault lines line k → 1 ≤ rank k
      unclosed printable NotAscii (inl bad) = absurd (true≢false (sym printable ∙ bad.1))
      unclosed printable NotAscii (inr (inl other)) = absurd other.1
      unclosed printable NotAscii (inr (inr other)) = absurd other.1
      unclosed printable _ has = omega arith

      by : (k : Kind) → IsCut left k → IsFirstFault text k told
      by NotAscii cut =
          let bad = cut_is lines line NotAscii st.reached.within
          (subst (λ (ls : List (List ℕ)). IsCut ls NotAscii) st.reached.left_is cut) in
          first_here text line NotAscii told st.reached.clean (inl (refl, bad)) at (λ k has. omega arith)
      by Unclosed cut =
          let last = cut_is lines line Unclosed st.reached.within
          (subst (λ (ls : List (List ℕ)). IsCut ls Unclosed) st.reached.left_is cut) in
          first_here text line Unclosed told st.reached.clean (inr (inr (last.1, inr (inr (st.from, st.inside))))) at
          (unclosed last.0)
      by _ cut = absurd cut

  -- ---- the next line, which is ended and printable

  module _ (l : List ℕ) (rest : List (List ℕ)) (is : IsLine left l rest) where
    nth : IsNth lines line l rest
    nth = nth_line lines line l rest (sym st.reached.left_is ∙ is.0) is.1

    -- behind the end of the section none is open
    pub go_end : bytes_eq l end_word ≡ true → Between text roots sections commands (line + 1) rest
    go_end ends = record {
      reached = record {
        left_is = nth.left_is;
        low = omega (arith, st.reached.low);
        within = omega (arith, nth.before_last);
        clean = clean_more lines line st.reached.clean
            (λ k has. end_clean here k (of_line lines line l rest nth is.2 k has));
        sections_are = counted_no (bytes_eq mutator_word) lines line st.reached.low (omega (arith, nth.before_last))
            (ap (bytes_eq mutator_word) here) ∙ st.reached.sections_are;
        commands_are = counted_no
            (λ w. not (bytes_eq mutator_word w) && not (bytes_eq end_word w)) lines line st.reached.low
            (omega (arith, nth.before_last))
            (ap (λ (w : List ℕ). not (bytes_eq mutator_word w) && not (bytes_eq end_word w)) here)
            ∙ st.reached.commands_are;
        number = st.reached.number;
        few_sections = st.reached.few_sections;
        few_commands = st.reached.few_commands;
      };
      between = record { behind = omega (arith, st.reached.low); closed = closed };
      early = omega (arith, st.early);
    }
      where
        here : line_in lines line ≡ end_word
        here = nth.line_is ∙ (bytes_eq-Decides l end_word).0 ends

        closed : (f : ℕ) → IsIn lines f (line + 1) → ⊥
        closed f is_in = elim (cases_lt f line) [
          | inl less ↦ is_in.unended line less (omega arith) here
          | inr past ↦ (
              let same : f ≡ line = omega (arith, past, is_in.before) in
              mutator_no_end (sym is_in.opened ∙ ap (line_in lines) same ∙ here))
        ]

    -- ---- a line that does not end the section

    module _ (other : bytes_eq l end_word ≡ false) where
      going : line_in lines line ≢ end_word
      going same = true≢false (sym ((bytes_eq-Decides l end_word).1 (sym nth.line_is ∙ same)) ∙ other)

      -- the first fault of a command line is that of the text
      pub command_first : (kind : Kind) (told : ℕ) → IsFirstOfCommand names roots (words_of l) kind → told ≡ line + 1
          → IsFirstFault text kind told
      command_first kind told first at =
          let here = subst (λ (w : List ℕ). IsFirstOfCommand names roots (words_of w) kind) (sym nth.line_is) first in
          first_here text line kind told st.reached.clean (inr (inl (nth.before_last, to_text kind here.has))) (at
          ∙ sym (told_here kind here.has))
          (λ k has. elim (words_fault k (of_line lines line l rest nth is.2 k has)) [
            | inl fault ↦ here.least k fault
            | inr many ↦ omega (arith, ap rank many.0, before_many kind here.has)
          ])
        where
          told_here : (k : Kind) → CommandFault names roots (words_at lines line) k → told_line line k ≡ line + 1
          told_here Word fault = refl
          told_here Number fault = refl
          told_here Range fault = refl
          told_here Undefined fault = refl
          told_here Names fault = refl
          told_here _ fault = absurd fault

          before_many : (k : Kind) → CommandFault names roots (words_at lines line) k → rank k < 9
          before_many Word fault = omega arith
          before_many Number fault = omega arith
          before_many Range fault = omega arith
          before_many Undefined fault = omega arith
          before_many Names fault = omega arith
          before_many _ fault = absurd fault

          undefined : (name : List ℕ) → is_among names name ≡ false → ¬ IsDefined lines st.from line name
          undefined name none is = true≢false (sym (st.all name is) ∙ none)

          -- the names of the section are as many as there are roots
          are_defined : roots ≤ length names → AreDefined lines st.from line roots
          are_defined many = record {
            names = names;
            many = omega (arith, many, st.few);
            distinct = st.apart;
            each = λ a below. st.known (name_of names a) (among_at names a below);
          }

          to_text : (k : Kind) → CommandFault names roots (words_at lines line) k → LineFault lines line k
          to_text Word none = inr (st.from, st.inside, going, none)
          to_text Number (word, greatest, has, none) = (word, (0, greatest), inr (st.from, st.inside, has, refl), none)
          to_text Range (word, greatest, n, has, number, above) =
              (word, (0, greatest), n, inr (st.from, st.inside, has, refl), number, inr above)
          to_text Undefined (name, has, none) = (st.from, name, st.inside, has, undefined name none)
          to_text Names (name, has, none, many) =
              (st.from, name, roots, st.inside, has, undefined name none, st.reached.number, are_defined many)
          to_text _ fault = absurd fault

      module _ (after : List (List ℕ)) (read : IsRead roots names (words_of l) after) where
        command : IsRead roots names (words_at lines line) after
        command = subst (λ (w : List ℕ). IsRead roots names (words_of w) after) (sym nth.line_is) read

        -- one command more than there may be
        pub many_first : (told : ℕ) → 1048576 ≤ commands → told ≡ line + 1 → IsFirstFault text Many told
        many_first told many at = first_here text line Many told st.reached.clean
            (inr (inl (nth.before_last, inr (st.from, st.inside, going, omega (arith, many, st.reached.commands_are)))))
            at
            (λ k has. elim (words_fault k (of_line lines line l rest nth is.2 k has)) [
              | inl fault ↦ absurd (no_fault roots names (words_at lines line) after command k fault)
              | inr same ↦ omega (arith, ap rank same.0)
            ])

        -- a command line that is read leaves no fault
        passes_line : commands < 1048576 → (k : Kind) → HasFault lines line k → ⊥
        passes_line room k has = elim (words_fault k (of_line lines line l rest nth is.2 k has)) [
          | inl fault ↦ no_fault roots names (words_at lines line) after command k fault
          | inr many ↦ omega (arith, many.1, room)
        ]

        -- a line that is read opens no section
        opens_none : bytes_eq mutator_word (line_in lines line) ≡ false
        opens_none = by (bytes_eq mutator_word (line_in lines line)) refl
          where
            wrong : line_in lines line ≡ mutator_word → CommandFault names roots (words_at lines line) Word
            wrong same = λ command is. mutator_no_command command
                (subst (λ (w : List ℕ). IsCommand (words_of w) command) same is)

            by : (b : Bool) → bytes_eq mutator_word (line_in lines line) ≡ b
                → bytes_eq mutator_word (line_in lines line) ≡ false
            by true e = absurd (no_fault roots names (words_at lines line) after command Word
                (wrong (sym ((bytes_eq-Decides mutator_word (line_in lines line)).0 e))))
            by false e = e

        ends_none : bytes_eq end_word (line_in lines line) ≡ false
        ends_none = by (bytes_eq end_word (line_in lines line)) refl
          where
            by : (b : Bool) → bytes_eq end_word (line_in lines line) ≡ b
                → bytes_eq end_word (line_in lines line) ≡ false
            by true e = absurd (going (sym ((bytes_eq-Decides end_word (line_in lines line)).0 e)))
            by false e = e

        -- the next line of the section
        pub go_inside : commands < 1048576 → Inside text roots sections (commands + 1) after (line + 1) rest
        go_inside room = record {
          reached = record {
            left_is = nth.left_is;
            low = omega (arith, st.reached.low);
            within = omega (arith, nth.before_last);
            clean = clean_more lines line st.reached.clean (passes_line room);
            sections_are = counted_no (bytes_eq mutator_word) lines line st.reached.low
                (omega (arith, nth.before_last)) opens_none ∙ st.reached.sections_are;
            commands_are = counted_yes
                (λ w. not (bytes_eq mutator_word w) && not (bytes_eq end_word w)) lines line st.reached.low
                (omega (arith, nth.before_last))
                (λ i. not (opens_none i) && not (ends_none i)) ∙ ap (λ (n : ℕ). n + 1) st.reached.commands_are;
            number = st.reached.number;
            few_sections = st.reached.few_sections;
            few_commands = omega (arith, room);
          };
          from = st.from;
          inside = record {
            behind = st.inside.behind;
            before = omega (arith, st.inside.before);
            opened = st.inside.opened;
            unended = λ k past below. elim (cases_lt k line) [
              | inl less ↦ st.inside.unended k past less
              | inr here ↦ subst (λ (at : ℕ). line_in lines at ≢ end_word) (let same : line ≡ k = omega arith in
                  same) going
            ];
          };
          known = λ name among. elim (known_after roots names (words_at lines line) after command name among) [
            | inl old ↦ defined_later name (st.known name old)
            | inr new ↦ inr (line, st.inside.before, (let below : line < line + 1 = omega arith in below), new)
          ];
          all = λ name defined. stays name defined;
          apart = stay_apart roots names (words_at lines line) after command st.apart;
          few = stay_few roots names (words_at lines line) after command st.few;
          early = omega (arith, st.early);
        }
          where
            defined_later : (name : List ℕ) → IsDefined lines st.from line name
                → IsDefined lines st.from (line + 1) name
            defined_later name (inl board) = inl board
            defined_later name (inr (k, past, below, has)) =
                inr (k, past, (let later : k < line + 1 = omega arith in later), has)

            stays : (name : List ℕ) → IsDefined lines st.from (line + 1) name → is_among after name ≡ true
            stays name (inl board) =
                grows roots names (words_at lines line) after command name (st.all name (inl board))
            stays name (inr (k, past, below, has)) = elim (cases_lt k line) [
              | inl less ↦ grows roots names (words_at lines line) after command name
                  (st.all name (inr (k, past, less, has)))
              | inr here ↦ (
                  let same : k ≡ line = omega arith in
                  comes roots names (words_at lines line) after command name
                  (subst (λ (at : ℕ). HasArgument (words_at lines at) arguments.Defined name) same has))
            ]

-- ---- as the code counts the lines, up to a greatest number

module _ (text : List ℕ) (roots sections commands line next : ℕ) (names left : List (List ℕ))
    (st : Inside text roots sections commands names line left) where
  pub next_line : next ≡ min (line + 1) 4294967295 → next ≡ line + 1
  next_line e = omega (arith, e, st.early, st.reached.few_sections, st.reached.few_commands)

  pub ends : (l : List ℕ) (rest : List (List ℕ)) → IsLine left l rest → bytes_eq l end_word ≡ true
      → next ≡ min (line + 1) 4294967295 → Between text roots sections commands next rest
  ends l rest is last e =
      subst (λ (n : ℕ). Between text roots sections commands n rest) (sym (next_line e))
      (go_end text roots sections commands line names left st l rest is last)

  pub goes_on : (l : List ℕ) (rest after : List (List ℕ)) → IsLine left l rest → bytes_eq l end_word ≡ false
      → IsRead roots names (words_of l) after → commands < 1048576
      → next ≡ min (line + 1) 4294967295 → Inside text roots sections (commands + 1) after next rest
  goes_on l rest after is other read room e =
      subst (λ (n : ℕ). Inside text roots sections (commands + 1) after n rest) (sym (next_line e))
      (go_inside text roots sections commands line names left st l rest is other after read room)
