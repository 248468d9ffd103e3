-- A command line that is read has no fault, and what it defines is among the names behind it.
use Rattle.std.proofs.Common.{◌≢◌, ◌≡◌, ℕ, zero, suc, ◌+◌, ◌<◌, ◌≤◌, ◌⊎◌, inl, inr, Bool, true, false, true≢false, ◌||◌}
use Rattle.std.proofs.Common.{List, [], ◌∷◌, ◌++◌, length, slice_get, Some, None, refl, sym, ap, subst, ◌∙◌, arith}
use Rattle.std.specs.Str.{bytes_eq}
use Rattle.std.proofs.lemmas.Bool.{cases_lt}
use Rattle.std.proofs.lemmas.List.{get_or_append_left, get_or_push, length_push}
use Rattle.std.proofs.lemmas.List.Folds.{list_any-append, list_any_at}
use Rattle.std.proofs.lemmas.Slice.Eq.{bytes_eq-Decides}
use Rattle.mako_text.specs.declared.command.Argument.{Argument}
use Rattle.mako_text.specs.declared.command.Argument.TheVariants as arguments
use Rattle.mako_text.specs.declared.command.Command.{Command}
use Rattle.mako_text.specs.declared.command.Command.TheVariants.{New, Num, Copy, Get}
use Rattle.mako_script.specs.declared.fault.Kind.{Kind}
use Rattle.mako_script.specs.declared.fault.Kind.TheVariants as faults
use Rattle.mako_script.specs.CommandLines.{CommandFault, IsRead, is_among}
use Rattle.mako_script.specs.Lines.{word_in, HasArgument, IsCommand, IsSpelled}
use Rattle.mako_script.specs.States.{AreApart}
use Rattle.mako_text.specs.Names.{name_of}
use Rattle.mako_text.specs.Commands.{defines, kinds_of, word_of}
use Rattle.mako_reader.specs.Commands.{AreValuesOf, Defines, DefinesFirst, IsCommandLine, IsValueOf, place_at}
use Rattle.mako_script.proofs.Commands.{among_any, first_kind, not_placed}
use Rattle.mako_reader.proofs.NameLists.{no_place}
use Rattle.mako_script.proofs.GoodSettings.{number_is}
use Rattle.mako_reader.proofs.Values.{by_word, counts, some_is}

-- ---- what is read

taken_at : (names : List (List ℕ)) (kinds : List Argument) (words : List (List ℕ)) (vs : List ℕ)
    → AreValuesOf names kinds words vs
    → (place : ℕ) (kind : Argument) → slice_get kinds place ≡ Some kind → (v : ℕ)
    × IsValueOf names kind (word_in words place) v
taken_at names [] words vs are place kind e = absurd cc
taken_at names (k ∷ ks) (w ∷ ws) (v ∷ vs) are zero kind e =
    (v, subst (λ (q : Argument). IsValueOf names q w v) (some_is k kind e) are.0)
taken_at names (k ∷ ks) (w ∷ ws) (v ∷ vs) are (suc place) kind e = taken_at names ks ws vs are.1 place kind e
taken_at names (k ∷ ks) [] vs are place kind e = absurd are
taken_at names (k ∷ ks) (w ∷ ws) [] are place kind e = absurd are

pub behind_at : (words : List (List ℕ)) (word : List ℕ) (behind : List (List ℕ)) (place : ℕ) → words ≡ word ∷ behind
    → word_in words (place + 1) ≡ word_in behind place
behind_at words word behind place e =
    let next : place + 1 ≡ suc place = omega arith in
    ap (λ (t : List (List ℕ)). word_in t (place + 1)) e ∙ ap (word_in (word ∷ behind)) next

spelled_name : (names : List (List ℕ)) (kind : Argument) (w : List ℕ) (v : ℕ) → IsValueOf names kind w v
    → IsSpelled kind w
spelled_name names arguments.Defined w v t = t.0
spelled_name names arguments.Read w v t = t.0
spelled_name names (arguments.Number greatest) w v t = tt

-- only the first argument is defined, of the commands that define one
defined_first : (command : Command) (place : ℕ) → slice_get (kinds_of command) place ≡ Some arguments.Defined
    → (defines command ≡ true) × (place ≡ 0)
defined_first New zero e = (refl, refl)
defined_first Num zero e = (refl, refl)
defined_first Copy zero e = (refl, refl)
defined_first Get zero e = (refl, refl)
defined_first New (suc zero) e = absurd cc
defined_first New (suc (suc zero)) e = absurd cc
defined_first New (suc (suc (suc place))) e = absurd cc
defined_first _ zero e = absurd cc
defined_first _ (suc zero) e = absurd cc
defined_first _ (suc (suc zero)) e = absurd cc
defined_first _ (suc (suc (suc place))) e = absurd cc

or_true : (b : Bool) → (b || (true || false)) ≡ true
or_true true = refl
or_true false = refl

-- a name is among those of which it is one
pub among_at : (names : List (List ℕ)) (a : ℕ) → a < length names → is_among names (name_of names a) ≡ true
among_at names a below =
    let here = (bytes_eq-Decides (name_of names a) (name_of names a)).1 refl in
    among_any names (name_of names a) ∙ list_any_at (bytes_eq (name_of names a)) names a [] below here

push_apart : (names : List (List ℕ)) (word : List ℕ) → AreApart names → is_among names word ≡ false
    → AreApart (names ++ word ∷ [])
push_apart names word apart none a b less below same = elim (cases_lt b (length names)) [
  | inl old ↦ apart a b less old (sym (get_or_append_left names (word ∷ []) [] a (omega arith)) ∙ same
      ∙ get_or_append_left names (word ∷ []) [] b old)
  | inr new ↦ (
      let last : length names ≡ b = omega (arith, below, length_push names word) in
      let is = sym (get_or_append_left names (word ∷ []) [] a (omega (arith, less, last))) ∙ same
      ∙ get_or_push names word [] b last in
      true≢false (sym (among_at names a (omega (arith, less, last))) ∙ ap (is_among names) is ∙ none))
]

module _ (roots : ℕ) (names words after : List (List ℕ)) (read : IsRead roots names words after) where
  pub line : IsCommandLine roots names words (read.0, after)
  line = read.1

  pub is_command : IsCommand words line.command
  is_command = record {
    named = ap (λ (t : List (List ℕ)). word_in t 0) line.words_are;
    count = omega (
      arith,
      ap length line.words_are,
      (counts names (kinds_of line.command) line.behind line.values line.are).0,
    );
    spelled = λ place kind e.
        let t = taken_at names (kinds_of line.command) line.behind line.values line.are place kind e in
        subst (IsSpelled kind) (sym (behind_at words (word_of line.command) line.behind place line.words_are))
        (spelled_name names kind (word_in line.behind place) t.0 t.1);
  }

  same_command : (command : Command) → IsCommand words command → command ≡ line.command
  same_command command is = by_word command line.command (sym is.named ∙ is_command.named)

  argument_taken : (kind : Argument) (word : List ℕ) → HasArgument words kind word → (v : ℕ)
      × IsValueOf names kind word v
  argument_taken kind word (command, place, is, among, spelled) =
      let at = ap (λ (c : Command). slice_get (kinds_of c) place) (sym (same_command command is)) ∙ among in
      let t = taken_at names (kinds_of line.command) line.behind line.values line.are place kind at in (
        t.0,
        subst (λ (w : List ℕ). IsValueOf names kind w t.0) (sym (spelled
            ∙ behind_at words (word_of line.command) line.behind place line.words_are)) t.1,
      )

  -- the first argument, of a command that defines it
  defined_is : (name : List ℕ) → HasArgument words arguments.Defined name → (defines line.command ≡ true)
      × (name ≡ word_in line.behind 0)
  defined_is name (command, place, is, among, spelled) =
      let at = ap (λ (c : Command). slice_get (kinds_of c) place) (sym (same_command command is)) ∙ among in
      let first = defined_first line.command place at in (
        first.0,
        spelled ∙ behind_at words (word_of line.command) line.behind place line.words_are
            ∙ ap (word_in line.behind) first.1,
      )

  defines_it : defines line.command ≡ true → HasArgument words arguments.Defined (word_in line.behind 0)
  defines_it some = (
    line.command,
    0,
    is_command,
    first_kind line.command some,
    sym
        (behind_at words (word_of line.command) line.behind 0 line.words_are),
  )

  defined_so : defines line.command ≡ true → Defines roots names (word_in line.behind 0) after
  defined_so some = by line.behind (subst (λ (b : Bool). DefinesFirst b roots names line.behind after) some line.next)
    where
      by : (ws : List (List ℕ)) → DefinesFirst true roots names ws after → Defines roots names (word_in ws 0) after
      by [] first = absurd first
      by (w ∷ ws) first = first.1

  pub no_fault : (k : Kind) → CommandFault names roots words k → ⊥
  no_fault faults.Word fault = fault line.command is_command
  no_fault faults.Number (word, greatest, has, none) =
      let t = argument_taken (arguments.Number greatest) word has in
      none t.0 t.1.0
  no_fault faults.Range (word, greatest, n, has, number, above) =
      let t = argument_taken (arguments.Number greatest) word has in
      omega (arith, number_is word t.0 n t.1.0.0 t.1.0.1 number, t.1.2, above)
  no_fault faults.Undefined (name, has, none) =
      let t = argument_taken arguments.Read name has in
      (let no = sym t.1.1 ∙ not_placed names name none in cc)
  no_fault faults.Names (name, has, none, full) = by (defined_so d.0)
    where
      d : (defines line.command ≡ true) × (name ≡ word_in line.behind 0)
      d = defined_is name has

      by : Defines roots names (word_in line.behind 0) after → ⊥
      by (inl (some, same)) = some (ap (place_at names) (sym d.1) ∙ not_placed names name none)
      by (inr (absent, room, new)) = omega (arith, room, full)
  no_fault _ fault = fault

  -- the names behind the line
  abbrev NamesAfter : Type 0
  NamesAfter =
      ((after ≡ names) × (defines line.command ≡ true → is_among names (word_in line.behind 0) ≡ true))
      ⊎ ((defines line.command ≡ true) × (after ≡ names ++ word_in line.behind 0 ∷ [])
      × (is_among names (word_in line.behind 0) ≡ false) × (length names < roots))

  names_are : NamesAfter
  names_are = by (defines line.command) refl
    where
      known : (word : List ℕ) → place_at names word ≢ None → is_among names word ≡ true
      known word some = among (is_among names word) refl
        where
          among : (b : Bool) → is_among names word ≡ b → is_among names word ≡ true
          among true e = e
          among false e = absurd (some (not_placed names word e))

      unknown : (word : List ℕ) → place_at names word ≡ None → is_among names word ≡ false
      unknown word none = among_any names word ∙ no_place names word none

      made : defines line.command ≡ true → Defines roots names (word_in line.behind 0) after → NamesAfter
      made some (inl (there, same)) = inl (same, λ e. known (word_in line.behind 0) there)
      made some (inr (none, room, new)) = inr (some, new, unknown (word_in line.behind 0) none, room)

      by : (b : Bool) → defines line.command ≡ b → NamesAfter
      by true some = made some (defined_so some)
      by false none = inl (
        subst (λ (b : Bool). DefinesFirst b roots names line.behind after) none line.next,
        λ e. absurd (true≢false (sym e ∙ none)),
      )

  pushed : (name : List ℕ) → after ≡ names ++ word_in line.behind 0 ∷ []
      → is_among after name ≡ (is_among names name || (bytes_eq (word_in line.behind 0) name || false))
  pushed name new =
      ap (λ (t : List (List ℕ)). is_among t name) new
      ∙ list_any-append (λ (w : List ℕ). bytes_eq w name) names (word_in line.behind 0 ∷ [])

  -- a name that is there stays, and one that the line defines comes
  pub grows : (name : List ℕ) → is_among names name ≡ true → is_among after name ≡ true
  grows name is = elim names_are [
    | inl same ↦ ap (λ (t : List (List ℕ)). is_among t name) same.0 ∙ is
    | inr new ↦ pushed name new.1 ∙ ap (λ (b : Bool). b || (bytes_eq (word_in line.behind 0) name || false)) is
  ]

  pub comes : (name : List ℕ) → HasArgument words arguments.Defined name → is_among after name ≡ true
  comes name has =
      let d = defined_is name has in
      elim names_are [
        | inl same ↦ ap (λ (t : List (List ℕ)). is_among t name) same.0 ∙ ap (is_among names) d.1 ∙ same.1 d.0
        | inr new ↦ (
            let here : bytes_eq (word_in line.behind 0) name ≡ true =
            (bytes_eq-Decides (word_in line.behind 0) name).1 (sym d.1) in
            pushed name new.1 ∙ ap (λ (b : Bool). is_among names name || (b || false)) here
            ∙ or_true (is_among names name))
      ]

  pub known_after : (name : List ℕ) → is_among after name ≡ true → (is_among names name ≡ true)
      ⊎ HasArgument words arguments.Defined name
  known_after name is = elim names_are [
    | inl same ↦ inl (ap (λ (t : List (List ℕ)). is_among t name) (sym same.0) ∙ is)
    | inr new ↦ by new.0 (is_among names name) (bytes_eq (word_in line.behind 0) name) refl refl
        (sym (pushed name new.1) ∙ is)
  ]
    where
      by : defines line.command ≡ true → (a b : Bool) → is_among names name ≡ a
          → bytes_eq (word_in line.behind 0) name ≡ b → (a || (b || false)) ≡ true
          → (is_among names name ≡ true) ⊎ HasArgument words arguments.Defined name
      by some true b known same e = inl known
      by some false true known same e =
          inr (subst (HasArgument words arguments.Defined) ((bytes_eq-Decides (word_in line.behind 0) name).0 same)
          (defines_it some))
      by some false false known same e = absurd cc

  -- names that are apart and few stay so
  pub stay_apart : AreApart names → AreApart after
  stay_apart apart = elim names_are [
    | inl same ↦ subst AreApart (sym same.0) apart
    | inr new ↦ subst AreApart (sym new.1) (push_apart names (word_in line.behind 0) apart new.2)
  ]

  pub stay_few : length names ≤ roots → length after ≤ roots
  stay_few few = elim names_are [
    | inl same ↦ omega (arith, ap length same.0, few)
    | inr new ↦ omega (arith, ap length new.1, length_push names (word_in line.behind 0), new.3)
  ]
