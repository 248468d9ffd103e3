-- What is spelled so is read again.
use Rattle.std.proofs.Common.{◌≡◌, ℕ, zero, suc, ◌+◌, ◌^◌, ◌<◌, ◌≤◌, max, Bool, true, false, leb, eqb, ◌&&◌, get_or}
use Rattle.std.proofs.Common.{List, [], ◌∷◌, ◌++◌, length, map, take, Option, Some, None, refl, sym, ap, ◌∙◌}
use Rattle.std.proofs.Common.{append_assoc, arith, ⊎_elim, subst, cond}
use Rattle.std.proofs.Common.{drop, inl, inr, ltb}
use Rattle.std.specs.Prelude.{unwrap_or}
use Rattle.std.specs.Fmt.{decimal}
use Rattle.std.specs.Str.{bytes_eq, all_ascii_digits}
use Rattle.std.specs.List.{join_with_byte, flat_map, AllByRecursion, list_all, slice_split, zip}
use Rattle.std.proofs.lemmas.Bool.{cases_lt}
use Rattle.std.proofs.lemmas.Bool.Decides.{nat_tests}
use Rattle.std.proofs.lemmas.List.Folds.{list_all-append}
use Rattle.std.proofs.lemmas.List.{take_more, get_or-take, length-take-le}
use Rattle.std.proofs.lemmas.List.Elements.{All-from_recursion}
use Rattle.std.proofs.lemmas.List.Splits.{slice_split_none, slice_split_at}
use Rattle.std.proofs.lemmas.Fmt.{digits_decimal}
use Rattle.mako_model.specs.declared.call.Call.{Call}
use Rattle.mako_model.specs.declared.call.Call.TheVariants as calls
use Rattle.mako_text.specs.declared.command.Command.{Command}
use Rattle.mako_text.specs.declared.command.Command.TheVariants.{New}
use Rattle.mako_text.specs.declared.command.Argument.{Argument}
use Rattle.mako_text.specs.declared.command.Argument.TheVariants.{Defined, Read, Number}
use Rattle.mako_text.specs.Names.{is_name, is_letter_or_digit, name_of, AreNames, board_word}
use Rattle.mako_text.specs.Programs.{ProgramView, IsAllowed, IsCall, defined_after, AreCalls, IsProgram}
use Rattle.mako_text.specs.Texts.{command_words, end_word, mutator_word, section_lines, line_text, script_lines}
use Rattle.mako_text.specs.Texts.{argument_word, argument_words, script_text, setting_values}
use Rattle.mako_text.specs.Scripts.{ScriptView, IsProper}
use Rattle.mako_text.specs.Keys.{keys}
use Rattle.mako_text.specs.Commands.{arguments_of, begin_defined, call_of, command_of, defines, kinds_of, values_of}
use Rattle.mako_text.specs.Commands.{word_of}
use Rattle.mako_text.proofs.Calls.{as_many, made_again}
use Rattle.mako_reader.specs.Commands.{AreValuesOf, DefinesFirst, IsCommandLine, IsValueOf, place_at}
use Rattle.mako_reader.specs.Parts.{lines_from}
use Rattle.mako_reader.specs.Words.{IsWithin, lines_of, words_of}
use Rattle.mako_reader.proofs.Digits.{own}
use Rattle.mako_reader.proofs.NameLists.{place_none, place_takes}

-- ---- words and lines

abbrev Without : ℕ → List ℕ → Type 0
Without c = AllByRecursion (λ x. eqb x c ≡ false)

abbrev pub is_printable : ℕ → Bool
is_printable c = leb 32 c && leb c 126

-- a word has letters and digits only
abbrev pub IsWord : List ℕ → Type 0
IsWord = AllByRecursion (λ c. (48 ≤ c) × (c ≤ 122))

without : (c : ℕ) → c < 48 → (w : List ℕ) → IsWord w → Without c w
without c low [] h = tt
without c low (x ∷ w) h = (grind (arith, nat_tests, h.0), without c low w h.1)

printable : (w : List ℕ) → IsWord w → list_all is_printable w ≡ true
printable [] h = refl
printable (c ∷ w) h = let first : is_printable c ≡ true = grind (arith, nat_tests, h.0) in
    (λ i. first i && printable w h.1 i)

without-append : (c : ℕ) (xs ys : List ℕ) → Without c xs → Without c ys → Without c (xs ++ ys)
without-append c [] ys a b = b
without-append c (x ∷ xs) ys a b = (a.0, without-append c xs ys a.1 b)

pub words_again : (w : List ℕ) (ws : List (List ℕ)) → AllByRecursion IsWord (w ∷ ws)
    → words_of (join_with_byte 32 (w ∷ ws)) ≡ w ∷ ws
unfolding words_of
words_again w [] h =
    slice_split_none (λ (b : ℕ). eqb b 32) w
    (All-from_recursion (λ x. eqb x 32 ≡ false) w (without 32 (omega arith) w h.0))
words_again w (v ∷ ws) h =
    slice_split_at (λ (b : ℕ). eqb b 32) w 32 (join_with_byte 32 (v ∷ ws))
    (All-from_recursion (λ x. eqb x 32 ≡ false) w (without 32 (omega arith) w h.0)) refl
    ∙ ap (λ (t : List (List ℕ)). w ∷ t) (words_again v ws h.1)

no_feeds : (words : List (List ℕ)) → AllByRecursion IsWord words → Without 10 (join_with_byte 32 words)
no_feeds [] h = tt
no_feeds (w ∷ []) h = without 10 (omega arith) w h.0
no_feeds (w ∷ v ∷ ws) h =
    without-append 10 w (32 ∷ join_with_byte 32 (v ∷ ws)) (without 10 (omega arith) w h.0) (refl, no_feeds (v ∷ ws) h.1)

pub lines_again : (lines : List (List (List ℕ))) → AllByRecursion (AllByRecursion IsWord) lines
    → lines_of (flat_map line_text lines) ≡ lines_from lines ++ [] ∷ []
unfolding lines_of
lines_again [] h = refl
lines_again (l ∷ lines) h =
    ap (slice_split (λ (b : ℕ). eqb b 10)) (append_assoc (join_with_byte 32 l) (10 ∷ []) (flat_map line_text lines))
    ∙ slice_split_at (λ (b : ℕ). eqb b 10) (join_with_byte 32 l) 10 (flat_map line_text lines)
    (All-from_recursion (λ x. eqb x 10 ≡ false) (join_with_byte 32 l) (no_feeds l h.0)) refl
    ∙ ap (λ (t : List (List ℕ)). join_with_byte 32 l ∷ t) (lines_again lines h.1)

-- the lines of words are printable, and so is the piece behind them
joined_printable : (words : List (List ℕ)) → AllByRecursion IsWord words
    → list_all is_printable (join_with_byte 32 words) ≡ true
joined_printable [] h = refl
joined_printable (w ∷ []) h = printable w h.0
joined_printable (w ∷ v ∷ ws) h =
    list_all-append is_printable w (32 ∷ join_with_byte 32 (v ∷ ws))
    ∙ (λ i. printable w h.0 i && joined_printable (v ∷ ws) h.1 i)

pub lines_printable : (lines : List (List (List ℕ))) → AllByRecursion (AllByRecursion IsWord) lines → (at : ℕ)
    → list_all is_printable (get_or (lines_from lines ++ [] ∷ []) at []) ≡ true
lines_printable [] h zero = refl
lines_printable [] h (suc at) = refl
lines_printable (l ∷ lines) h zero = joined_printable l h.0
lines_printable (l ∷ lines) h (suc at) = lines_printable lines h.1 at

digits_word : (w : List ℕ) → all_ascii_digits w ≡ true → IsWord w
digits_word [] h = tt
digits_word (c ∷ w) h = ((grind (arith, nat_tests), grind (arith, nat_tests)), digits_word w (grind (arith, nat_tests)))

pub decimal_word : (n : ℕ) → n < 2 ^ 32 → IsWord (decimal n)
decimal_word n small = digits_word (decimal n) (digits_decimal own n (omega arith))

letters_word : (w : List ℕ) → list_all is_letter_or_digit w ≡ true → IsWord w
letters_word [] h = tt
letters_word (c ∷ w) h =
    ((grind (arith, nat_tests), grind (arith, nat_tests)), letters_word w (grind (arith, nat_tests)))

pub name_word : (w : List ℕ) → is_name w ≡ true → IsWord w
unfolding is_name
name_word w h = letters_word w (grind (arith, nat_tests))

-- ---- names

module _ (final : List (List ℕ)) (are : AreNames final) (k : ℕ) (within : k ≤ length final) where
  same_root : (a b : ℕ) → a < length final → b < length final → name_of final a ≡ name_of final b → a ≡ b
  same_root a b in_a in_b same =
      ⊎_elim (λ (lt : a < b). absurd (are.distinct a b lt in_b same))
      (λ (ge : b ≤ a). ⊎_elim (λ (gt : b < a). absurd (are.distinct b a gt in_a (sym same)))
      (λ (le : a ≤ b). omega arith) (cases_lt b a))
      (cases_lt a b)

  taken : (r : ℕ) → r < k → name_of (take k final) r ≡ name_of final r
  taken r below = get_or-take k final r [] below

  found_at : (r root : ℕ) → r < length final → place_at (take k final) (name_of final r) ≡ Some root → (root < k)
      × (root ≡ r)
  found_at r root in_r e =
      let h = place_takes (take k final) (name_of final r) root e in
      let below : root < k = omega (arith, h.0, length-take-le k final within) in
      (below, same_root root r (omega arith) in_r (sym (taken root below) ∙ h.1))

  place_again : (r : ℕ) → r < k → place_at (take k final) (name_of final r) ≡ Some r
  place_again r below = by (place_at (take k final) (name_of final r)) refl
    where
      by : (o : Option ℕ) → place_at (take k final) (name_of final r) ≡ o
          → place_at (take k final) (name_of final r) ≡ Some r
      by (Some root) e = e ∙ ap (λ (n : ℕ). Some n) (found_at r root (omega arith) e).1
      by None e = absurd (place_none (take k final) (name_of final r) e r (omega (arith, length-take-le k final within))
          (taken r below))

  place_new : k < length final → place_at (take k final) (name_of final k) ≡ None
  place_new more = by (place_at (take k final) (name_of final k)) refl
    where
      by : (o : Option ℕ) → place_at (take k final) (name_of final k) ≡ o
          → place_at (take k final) (name_of final k) ≡ None
      by (Some root) e = let h = found_at k root more e in absurd (omega (arith, h.0, h.1))
      by None e = e

  reads_again : (r : ℕ) → r < k → IsValueOf (take k final) Read (name_of final r) r
  reads_again r below = (are.spelled r (omega arith), place_again r below)

  placed_new : (r : ℕ) → k ≤ r → r ≤ k → r < length final → place_at (take k final) (name_of final r) ≡ None
  placed_new r new low below = let same : r ≡ k = omega arith in
      ap (λ (n : ℕ). place_at (take k final) (name_of final n)) same ∙ place_new (omega arith)

  defined_again : (r : ℕ) → r ≤ k → r < length final → IsValueOf (take k final) Defined (name_of final r) r
  defined_again r low below = (
    are.spelled r below,
    ⊎_elim
        (λ (old : r < k). ap (λ (o : Option ℕ). unwrap_or o (length (take k final))) (sym (place_again r old)))
        (λ (new : k ≤ r). let last : r ≡ length (take k final) = omega (arith, length-take-le k final within) in
        last ∙ ap (λ (o : Option ℕ). unwrap_or o (length (take k final))) (sym (placed_new r new low below)))
        (cases_lt r k),
  )

  define_again : (roots r : ℕ) (rest : List (List ℕ)) → length final ≤ roots → r ≤ k → r < length final
      → DefinesFirst true roots (take k final) (name_of final r ∷ rest) (take (max k (r + 1)) final)
  define_again roots r rest few low below = (
    are.spelled r below,
    ⊎_elim
        (λ (old : r < k). inl (
          (λ none. (let no = sym (place_again r old) ∙ none in cc)),
          ap (λ (n : ℕ). take n final)
              (let same : max k (r + 1) ≡ k = omega arith in same),
        ))
        (λ (new : k ≤ r). let last : max k (r + 1) ≡ r + 1 = omega arith in
        let same : r ≡ k = omega arith in
        inr (
          placed_new r new low below,
          omega (arith, length-take-le k final within),
          ap (λ (n : ℕ). take n final) last
              ∙ take_more final r [] below ∙ ap (λ (n : ℕ). take n final ++ name_of final r ∷ []) same,
        ))
        (cases_lt r k),
  )

-- ---- command lines

command_by : (roots : ℕ) (names words after : List (List ℕ)) (c : Command) (vs : List ℕ)
    → AreValuesOf names (kinds_of c) words vs → DefinesFirst (defines c) roots names words after
    → IsCommandLine roots names (word_of c ∷ words) (call_of c vs, after)
command_by roots names words after c vs are next = record {
  command = c;
  behind = words;
  values = vs;
  words_are = refl;
  are = are;
  call_is = refl;
  next = next;
}

number_arg : (high n : ℕ) → n ≤ high → high < 2 ^ 32 → IsWithin 0 high (decimal n) n
number_arg high n small most = ((refl, omega arith), omega arith, small)

-- with so many names an argument is the root of one, or it is a number of at most 32 bits
abbrev IsNamed : ℕ → Argument × ℕ → Type 0
IsNamed names (Defined, root) = root < names
IsNamed names (Read, root) = root < names
IsNamed names (Number greatest, value) = greatest < 2 ^ 32

-- the arguments of a call are, with the names behind it
all_named : (k n : ℕ) (call : Call) → k ≤ n → IsCall k call → defined_after k call ≤ n
    → AllByRecursion (IsNamed n) (arguments_of call)
all_named k n calls.Collect within fits after = tt
all_named k n _ within fits after = omega (arith, fits)

module _ (final : List (List ℕ)) (are : AreNames final) (roots : ℕ) (few : length final ≤ roots) (k : ℕ)
    (within : k ≤ length final) where
  values_again : (kinds : List Argument) (vs : List ℕ) → length kinds ≡ length vs
      → AllByRecursion (IsAllowed k) (zip kinds vs) → AllByRecursion (IsNamed (length final)) (zip kinds vs)
      → AreValuesOf (take k final) kinds (map (argument_word final) (zip kinds vs)) vs
  values_again [] [] same fits named = tt
  values_again [] (v ∷ vs) same fits named = absurd (omega arith)
  values_again (kind ∷ kinds) [] same fits named = absurd (omega arith)
  values_again (Defined ∷ kinds) (v ∷ vs) same fits named =
      (defined_again final are k within v fits.0 named.0, values_again kinds vs (omega arith) fits.1 named.1)
  values_again (Read ∷ kinds) (v ∷ vs) same fits named =
      (reads_again final are k within v fits.0, values_again kinds vs (omega arith) fits.1 named.1)
  values_again (Number greatest ∷ kinds) (v ∷ vs) same fits named =
      (number_arg greatest v fits.0 named.0, values_again kinds vs (omega arith) fits.1 named.1)

  first_again : (kinds : List Argument) (vs : List ℕ) → length kinds ≡ length vs
      → AllByRecursion (IsAllowed k) (zip kinds vs) → AllByRecursion (IsNamed (length final)) (zip kinds vs)
      → DefinesFirst (begin_defined kinds) roots (take k final) (map (argument_word final) (zip kinds vs))
      (take (cond (begin_defined kinds) (max k (get_or vs 0 0 + 1)) k) final)
  first_again [] vs same fits named = refl
  first_again (Read ∷ kinds) vs same fits named = refl
  first_again (Number greatest ∷ kinds) vs same fits named = refl
  first_again (Defined ∷ kinds) [] same fits named = absurd (omega arith)
  first_again (Defined ∷ kinds) (v ∷ vs) same fits named =
      define_again final are k within roots v (map (argument_word final) (zip kinds vs)) few fits.0 named.0

  pub command_again : (call : Call) → IsCall k call → defined_after k call ≤ length final
      → IsCommandLine roots (take k final) (command_words final call) (call, take (defined_after k call) final)
  command_again call fits after =
      let kinds = kinds_of (command_of call) in
      let named = all_named k (length final) call within fits after in
      subst (λ (c : Call). IsCommandLine roots (take k final) (command_words final call)
      (c, take (defined_after k call) final)) (made_again call)
      (command_by roots (take k final) (argument_words final call)
      (take (defined_after k call) final) (command_of call) (values_of call)
      (values_again kinds (values_of call) (as_many call) fits named)
      (first_again kinds (values_of call) (as_many call) fits named))

-- ---- sections

letters : (command : Command) → list_all is_letter_or_digit (word_of command) ≡ true
letters New = refl
letters _ = refl

-- the words of a command are words
module _ (final : List (List ℕ)) (are : AreNames final) (k : ℕ) (within : k ≤ length final) where
  arguments_are_words : (arguments : List (Argument × ℕ)) → AllByRecursion (IsAllowed k) arguments
      → AllByRecursion (IsNamed (length final)) arguments → AllByRecursion IsWord (map (argument_word final) arguments)
  arguments_are_words [] fits named = tt
  arguments_are_words ((Defined, v) ∷ rest) fits named =
      (name_word (name_of final v) (are.spelled v named.0), arguments_are_words rest fits.1 named.1)
  arguments_are_words ((Read, v) ∷ rest) fits named =
      (name_word (name_of final v) (are.spelled v named.0), arguments_are_words rest fits.1 named.1)
  arguments_are_words ((Number greatest, v) ∷ rest) fits named =
      (decimal_word v (omega (arith, fits.0, named.0)), arguments_are_words rest fits.1 named.1)

  pub command_is_words : (call : Call) → IsCall k call → defined_after k call ≤ length final
      → AllByRecursion IsWord (command_words final call)
  command_is_words call fits after = (
    letters_word (word_of (command_of call)) (letters (command_of call)),
    arguments_are_words (arguments_of call) fits (all_named k (length final) call within fits after),
  )

-- no command's line is the end of a section
pub not_end : (names : List (List ℕ)) (call : Call)
    → bytes_eq (join_with_byte 32 (command_words names call)) end_word ≡ false
not_end names (calls.New r n) = refl
not_end names _ = refl

-- the names behind a call are at least those before it, and at most those of the program
grows : (k : ℕ) (call : Call) → k ≤ defined_after k call
grows k (calls.New r n) = omega arith
grows k _ = omega arith

pub at_most : (k : ℕ) (cs : List Call) (n : ℕ) → AreCalls k cs n → k ≤ n
at_most k [] n h = omega arith
at_most k (c ∷ cs) n h = omega (arith, grows k c, at_most (defined_after k c) cs n h.1)

pub first_name : (final : List (List ℕ)) → AreNames final → take 1 final ≡ board_word ∷ []
first_name [] are = absurd (omega (arith, are.some))
first_name (x ∷ final) are = ap (λ (n : List ℕ). n ∷ []) are.board

-- ---- settings

-- the lines of settings with these keys and numbers
abbrev pub setting_lines : List (List ℕ × (ℕ × ℕ)) → List ℕ → List (List (List ℕ))
setting_lines [] vs = []
setting_lines (key ∷ table) [] = []
setting_lines (key ∷ table) (v ∷ vs) = (key.0 ∷ decimal v ∷ []) ∷ setting_lines table vs

-- each number is in the range of its key
abbrev pub InRanges : List (List ℕ × (ℕ × ℕ)) → List ℕ → Type 0
InRanges [] [] = Unit {0}
InRanges [] (v ∷ vs) = ⊥
InRanges (key ∷ table) [] = ⊥
InRanges (key ∷ table) (v ∷ vs) = (key.1.0 ≤ v) × (v ≤ key.1.1) × InRanges table vs

-- a key is a word, and its numbers are of 32 bits
abbrev pub is_key : List ℕ × (ℕ × ℕ) → Bool
is_key key = list_all is_letter_or_digit key.0 && ltb key.1.1 4294967296

pub key_is : (key : List ℕ × (ℕ × ℕ)) (table : List (List ℕ × (ℕ × ℕ))) → list_all is_key (key ∷ table) ≡ true
    → IsWord key.0 × (key.1.1 < 2 ^ 32) × (list_all is_key table ≡ true)
key_is key table h = (letters_word key.0 (grind (arith, nat_tests)), grind (arith, nat_tests), grind (arith, nat_tests))

settings_words : (table : List (List ℕ × (ℕ × ℕ))) (vs : List ℕ) → list_all is_key table ≡ true → InRanges table vs
    → AllByRecursion (AllByRecursion IsWord) (setting_lines table vs)
settings_words [] [] keyed h = tt
settings_words [] (v ∷ vs) keyed h = absurd h
settings_words (key ∷ table) [] keyed h = absurd h
settings_words (key ∷ table) (v ∷ vs) keyed h = let k = key_is key table keyed in
    ((k.0, (decimal_word v (omega (arith, k.1, h.1)), tt)), settings_words table vs k.2 h.2)

-- ---- scripts

-- the numbers of a script's settings
pub in_ranges : (s : ScriptView) → IsProper s → InRanges keys (setting_values s)
in_ranges s proper =
    let e2 = proper.shape.in_range.each.2 in
    let e3 = e2.2 in
    let e4 = e3.2 in
    let e5 = e4.2 in
    let e6 = e5.2 in
    let e7 = e6.2 in
    let e8 = e7.2 in
    let e9 = e8.2 in
    let e10 = e9.2 in
    let half : InRanges (drop 7 keys) (drop 7 (setting_values s)) =
    (e8.0, e8.1, (e9.0, e9.1, (e10.0, e10.1, (proper.board_low, proper.board_high, tt)))) in
    (omega arith, omega arith, (e2.0, e2.1, (e3.0, e3.1, (e4.0, e4.1, (e5.0, e5.1, (e6.0, e6.1, (e7.0, e7.1, half)))))))

calls_words : (final : List (List ℕ)) → AreNames final → (k : ℕ) (cs : List Call) → k ≤ length final
    → AreCalls k cs (length final)
    → AllByRecursion (AllByRecursion IsWord) (map (command_words final) cs ++ (end_word ∷ []) ∷ [])
calls_words final are k [] within h = ((letters_word end_word refl, tt), tt)
calls_words final are k (c ∷ cs) within h =
    let after : defined_after k c ≤ length final = at_most (defined_after k c) cs (length final) h.1 in
    (command_is_words final are k within c h.0 after, calls_words final are (defined_after k c) cs after h.1)

pub all-append : {A : Type 0} (P : A → Type 0) (xs ys : List A) → AllByRecursion P xs → AllByRecursion P ys
    → AllByRecursion P (xs ++ ys)
all-append P [] ys a b = b
all-append P (x ∷ xs) ys a b = (a.0, all-append P xs ys a.1 b)

sections_words : (roots : ℕ) (ps : List ProgramView) → AllByRecursion (IsProgram roots) ps
    → AllByRecursion (AllByRecursion IsWord) (flat_map section_lines ps)
sections_words roots [] h = tt
sections_words roots (p ∷ ps) h =
    all-append (AllByRecursion IsWord) (section_lines p) (flat_map section_lines ps) (
      (letters_word mutator_word refl, tt),
      calls_words p.names h.0.names 1 p.calls
          (omega (arith, h.0.names.some)) h.0.calls,
    )
    (sections_words roots ps h.1)

pub script_words : (s : ScriptView) → IsProper s → AllByRecursion (AllByRecursion IsWord) (script_lines s)
script_words s proper =
    all-append (AllByRecursion IsWord) (setting_lines keys (setting_values s)) (flat_map section_lines s.programs)
    (settings_words keys (setting_values s) refl (in_ranges s proper))
    (sections_words s.numbers.roots s.programs proper.programs)

-- each line of a script's text is printable
pub script_printable : (s : ScriptView) → IsProper s → (at : ℕ)
    → list_all is_printable (get_or (lines_of (script_text s)) at []) ≡ true
unfolding script_text
script_printable s proper at =
    ap (λ (ls : List (List ℕ)). list_all is_printable (get_or ls at []))
    (lines_again (script_lines s) (script_words s proper))
    ∙ lines_printable (script_lines s) (script_words s proper) at
