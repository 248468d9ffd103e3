-- The first faults of worked texts, behind the settings of the examples.
use Rattle.std.proofs.Common.{◌≡◌, ℕ, zero, suc, ◌+◌, ◌*◌, ◌<◌, ◌≤◌, ◌⊎◌, inl, inr, true, false, true≢false, List, []}
use Rattle.std.proofs.Common.{◌∷◌, ◌++◌, length, drop, slice_get, Option, Some, None, refl, sym, ap, subst, arith}
use Rattle.std.proofs.Common.{length-append}
use Rattle.std.specs.Prelude.{codes, slice_index, unwrap_or}
use Rattle.std.specs.Fmt.{digits}
use Rattle.std.specs.List.{list_all}
use Rattle.std.specs.Str.{bytes_eq}
use Rattle.mako_model.specs.declared.call.Call.TheVariants as calls
use Rattle.mako_shape.specs.Limits.{all_entries, max_entries}
use Rattle.mako_shape.specs.Places.{total}
use Rattle.mako_text.specs.Names.{board_word, is_name}
use Rattle.mako_text.specs.Texts.{end_word, mutator_word}
use Rattle.mako_text.specs.declared.command.Argument.{Argument}
use Rattle.mako_text.specs.declared.command.Argument.TheVariants as arguments
use Rattle.mako_text.specs.declared.command.Command.{Command}
use Rattle.mako_text.specs.declared.command.Command.TheVariants.{New, Num, Show}
use Rattle.mako_text.specs.Commands.{kinds_of, word_of}
use Rattle.mako_reader.specs.Commands.{AreValuesOf, place_at}
use Rattle.mako_reader.specs.Parts.{numbers_in}
use Rattle.mako_reader.specs.Words.{IsNumber, lines_of, words_of}
use Rattle.mako_reader.proofs.Digits.{number_plain}
use Rattle.mako_reader.proofs.Values.{some_is}
use Rattle.mako_script.specs.declared.fault.Kind.{Kind}
use Rattle.mako_script.specs.declared.fault.Kind.TheVariants as faults
use Rattle.mako_script.specs.Checks.{HaveSettings, IsCut, SettingFault}
use Rattle.mako_script.specs.CommandLines.{ArgumentFault, IsFirstOfCommand, IsRead}
use Rattle.mako_script.specs.Examples.{header, many_entries_text, many_sections_text, many_words_text, spaced_text}
use Rattle.mako_script.specs.Examples.{with_line}
use Rattle.mako_script.specs.Faults.{IsFirstFault, is_printable, rank}
use Rattle.mako_script.specs.Lines.{word_in}
use Rattle.mako_script.specs.States.{Between, Inside}
use Rattle.mako_script.proofs.Begins.{are_settings, begins_at}
use Rattle.mako_script.proofs.BetweenSections.{go_open, many_sections, many_words as words_first, no_section}
use Rattle.mako_script.proofs.Checked.{entries_first, setting_first}
use Rattle.mako_script.proofs.FirstOfCommand.{first_of_words, no_count, no_name}
use Rattle.mako_script.proofs.GoodSettings.{number_is}
use Rattle.mako_script.proofs.InSections.{command_first, cut_inside, go_end, go_inside}

-- ---- behind the settings

abbrev header_lines : List (List ℕ)
header_lines =
    codes "mako 1"
    ∷ codes "servers 1"
    ∷ codes "tablets 1"
    ∷ codes "entries 4"
    ∷ codes "words 16"
    ∷ codes "spare 1"
    ∷ codes "ring 2"
    ∷ codes "roots 4"
    ∷ codes "cycles 10"
    ∷ codes "gens 8"
    ∷ codes "board 1"
    ∷ []

abbrev numbers : List ℕ
numbers = 1 ∷ 1 ∷ 1 ∷ 4 ∷ 16 ∷ 1 ∷ 2 ∷ 4 ∷ 10 ∷ 8 ∷ 1 ∷ []

has_header : (l : List ℕ) (more : List (List ℕ)) → HaveSettings (header_lines ++ l ∷ more) numbers
unfolding words_of digits
has_header l more zero below = record {
  ended = omega (arith, length-append header_lines (l ∷ more));
  printable = refl;
  words = refl;
  few = omega arith;
  low = omega arith;
  high = omega arith;
}
has_header l more (suc zero) below = record {
  ended = omega (arith, length-append header_lines (l ∷ more));
  printable = refl;
  words = refl;
  few = omega arith;
  low = omega arith;
  high = omega arith;
}
has_header l more (suc (suc zero)) below = record {
  ended = omega (arith, length-append header_lines (l ∷ more));
  printable = refl;
  words = refl;
  few = omega arith;
  low = omega arith;
  high = omega arith;
}
has_header l more (suc (suc (suc zero))) below = record {
  ended = omega (arith, length-append header_lines (l ∷ more));
  printable = refl;
  words = refl;
  few = omega arith;
  low = omega arith;
  high = omega arith;
}
has_header l more (suc (suc (suc (suc zero)))) below =
    record {
      ended = omega (arith, length-append header_lines (l ∷ more));
      printable = refl;
      words = refl;
      few = omega arith;
      low = omega arith;
      high = omega arith;
    }
has_header l more (suc (suc (suc (suc (suc zero))))) below =
    record {
      ended = omega (arith, length-append header_lines (l ∷ more));
      printable = refl;
      words = refl;
      few = omega arith;
      low = omega arith;
      high = omega arith;
    }
has_header l more (suc (suc (suc (suc (suc (suc zero)))))) below =
    record {
      ended = omega (arith, length-append header_lines (l ∷ more));
      printable = refl;
      words = refl;
      few = omega arith;
      low = omega arith;
      high = omega arith;
    }
has_header l more (suc (suc (suc (suc (suc (suc (suc zero))))))) below =
    record {
      ended = omega (arith, length-append header_lines (l ∷ more));
      printable = refl;
      words = refl;
      few = omega arith;
      low = omega arith;
      high = omega arith;
    }
has_header l more (suc (suc (suc (suc (suc (suc (suc (suc zero)))))))) below =
    record {
      ended = omega (arith, length-append header_lines (l ∷ more));
      printable = refl;
      words = refl;
      few = omega arith;
      low = omega arith;
      high = omega arith;
    }
has_header l more (suc (suc (suc (suc (suc (suc (suc (suc (suc zero))))))))) below =
    record {
      ended = omega (arith, length-append header_lines (l ∷ more));
      printable = refl;
      words = refl;
      few = omega arith;
      low = omega arith;
      high = omega arith;
    }
has_header l more (suc (suc (suc (suc (suc (suc (suc (suc (suc (suc zero)))))))))) below =
    record {
      ended = omega (arith, length-append header_lines (l ∷ more));
      printable = refl;
      words = refl;
      few = omega arith;
      low = omega arith;
      high = omega arith;
    }
has_header l more (suc (suc (suc (suc (suc (suc (suc (suc (suc (suc (suc at))))))))))) below =
    absurd (omega (arith, below))

few : ¬ (max_entries < all_entries (numbers_in numbers 0))
few many = omega (arith, many)

start : (text l : List ℕ) (more : List (List ℕ)) → lines_of text ≡ header_lines ++ l ∷ more
    → Between text 4 0 0 11 (l ∷ more)
start text l more same =
    begins_at text numbers
    (subst (λ (ls : List (List ℕ)). HaveSettings ls numbers) (sym same) (has_header l more)) refl few 4 11 (l ∷
    more) refl refl (ap (drop 11) (sym same))

opened : (text m : List ℕ) (more : List (List ℕ)) → lines_of text ≡ header_lines ++ mutator_word ∷ m ∷ more
    → Inside text 4 1 0 (board_word ∷ []) 12 (m ∷ more)
opened text m more same =
    go_open text 4 0 0 11 (mutator_word ∷ m ∷ more) (start text mutator_word (m ∷ more) same) mutator_word (m ∷
    more) (refl, omega arith, refl) refl (omega arith) (omega arith)

-- a line of a section, with others behind it
line_fault : (text m n : List ℕ) (more : List (List ℕ)) (kind : Kind)
    → lines_of text ≡ header_lines ++ mutator_word ∷ m ∷ n ∷ more → list_all is_printable m ≡ true
    → bytes_eq m end_word ≡ false
    → IsFirstOfCommand (board_word ∷ []) 4 (words_of m) kind → IsFirstFault text kind 13
line_fault text m n more kind same printable other first =
    command_first text 4 1 0 12 (board_word ∷ []) (m ∷ n ∷ more) (opened text m (n ∷ more) same) m (n ∷
    more) (refl, omega arith, printable) other kind 13 first refl

cut_fault : (text m : List ℕ) (kind : Kind) → lines_of text ≡ header_lines ++ mutator_word ∷ m ∷ []
    → IsCut (m ∷ []) kind → IsFirstFault text kind 13
cut_fault text m kind same cut =
    cut_inside text 4 1 0 12 (board_word ∷ []) (m ∷ []) (opened text m [] same) kind 13 cut refl

-- ---- the lines

abbrev names : List (List ℕ)
names = board_word ∷ []

show_first : IsFirstOfCommand names 4 (words_of (codes "show x")) faults.Undefined
unfolding words_of is_name
show_first = first_of_words names 4 (words_of (codes "show x")) (codes "show") (codes "x" ∷
    []) Show refl refl refl faults.Undefined (record {
      place = 0;
      kind = arguments.Read;
      among = refl;
      has = (refl, refl);
      least = least;
    })
  where
    by : (f : Kind) → ArgumentFault names 4 arguments.Read (codes "x") f → rank faults.Undefined ≤ rank f
    by faults.Word wrong = absurd (true≢false wrong)
    by faults.Undefined wrong = omega arith
    by _ wrong = absurd wrong

    least : (other : ℕ) → (k : Argument) → (f : Kind) → slice_get (kinds_of Show) other ≡ Some k
        → ArgumentFault names 4 k (word_in (codes "x" ∷ []) other) f → rank faults.Undefined ≤ rank f
    least zero k f e wrong =
        by f (subst (λ (a : Argument). ArgumentFault names 4 a (codes "x") f) (sym (some_is arguments.Read k e)) wrong)
    least (suc other) k f e wrong = absurd cc

-- the first argument of `num n X` is a name
named : (f : Kind) → ArgumentFault names 4 arguments.Defined (codes "n") f → 5 ≤ rank f
unfolding is_name
named faults.Word wrong = absurd (true≢false wrong)
named faults.Names wrong = omega arith
named _ wrong = absurd wrong

large_first : IsFirstOfCommand names 4 (words_of (codes "num n 4294967296")) faults.Range
unfolding words_of digits
large_first = first_of_words names 4 (words_of (codes "num n 4294967296")) (codes "num") (codes "n" ∷
    codes "4294967296" ∷ []) Num refl refl refl faults.Range (record {
      place = 1;
      kind = arguments.Number 4294967295;
      among = refl;
      has = (4294967296, is, inr (omega arith));
      least = least;
    })
  where
    is : IsNumber (codes "4294967296") 4294967296
    is = (refl, omega arith)

    by : (f : Kind) → ArgumentFault names 4 (arguments.Number 4294967295) (codes "4294967296") f
        → rank faults.Range ≤ rank f
    by faults.Number none = absurd (none 4294967296 is)
    by faults.Range wrong = omega arith
    by _ wrong = absurd wrong

    least : (other : ℕ) → (k : Argument) → (f : Kind) → slice_get (kinds_of Num) other ≡ Some k
        → ArgumentFault names 4 k (word_in (codes "n" ∷ codes "4294967296" ∷ []) other) f → rank faults.Range ≤ rank f
    least zero k f e wrong =
        named f (subst (λ (a : Argument). ArgumentFault names 4 a (codes "n") f)
        (sym (some_is arguments.Defined k e)) wrong)
    least (suc zero) k f e wrong =
        by f (subst (λ (a : Argument). ArgumentFault names 4 a (codes "4294967296") f)
        (sym (some_is (arguments.Number 4294967295) k e)) wrong)
    least (suc (suc other)) k f e wrong = absurd cc

-- no number is spelled with a zero before it
no_zero : (n : ℕ) → ¬ IsNumber (codes "07") n
no_zero n is = omega (arith, (number_plain (codes "07") n is).2 refl)

zero_first : IsFirstOfCommand names 4 (words_of (codes "num n 07")) faults.Number
unfolding words_of
zero_first = first_of_words names 4 (words_of (codes "num n 07")) (codes "num") (codes "n" ∷ codes "07" ∷
    []) Num refl refl refl faults.Number (record {
      place = 1;
      kind = arguments.Number 4294967295;
      among = refl;
      has = no_zero;
      least = least;
    })
  where
    by : (f : Kind) → ArgumentFault names 4 (arguments.Number 4294967295) (codes "07") f → rank faults.Number ≤ rank f
    by faults.Number wrong = omega arith
    by faults.Range wrong = omega arith
    by _ wrong = absurd wrong

    least : (other : ℕ) → (k : Argument) → (f : Kind) → slice_get (kinds_of Num) other ≡ Some k
        → ArgumentFault names 4 k (word_in (codes "n" ∷ codes "07" ∷ []) other) f → rank faults.Number ≤ rank f
    least zero k f e wrong =
        (let past = named f (subst (λ (a : Argument). ArgumentFault names 4 a (codes "n") f)
        (sym (some_is arguments.Defined k e)) wrong) in omega (arith, past))
    least (suc zero) k f e wrong =
        by f (subst (λ (a : Argument). ArgumentFault names 4 a (codes "07") f)
        (sym (some_is (arguments.Number 4294967295) k e)) wrong)
    least (suc (suc other)) k f e wrong = absurd cc

-- ---- the texts

pub undefined_name : IsFirstFault (with_line (codes "show x\n")) faults.Undefined 13
unfolding lines_of
undefined_name = line_fault (with_line (codes "show x\n"))
    (codes "show x") [] [] faults.Undefined refl refl refl show_first

pub large_number : IsFirstFault (with_line (codes "num n 4294967296\n")) faults.Range 13
unfolding lines_of
large_number = line_fault (with_line (codes "num n 4294967296\n"))
    (codes "num n 4294967296") [] [] faults.Range refl refl refl large_first

pub zero_before : IsFirstFault (with_line (codes "num n 07\n")) faults.Number 13
unfolding lines_of
zero_before = line_fault (with_line (codes "num n 07\n"))
    (codes "num n 07") [] [] faults.Number refl refl refl zero_first

pub no_command : IsFirstFault (with_line (codes "make a 1\n")) faults.Word 13
unfolding lines_of words_of
no_command = line_fault (with_line (codes "make a 1\n")) (codes "make a 1") [] [] faults.Word refl refl refl
    (no_name names 4 (words_of (codes "make a 1")) (codes "make") (codes "a" ∷ codes "1" ∷ []) refl other)
  where
    other : (command : Command) → codes "make" ≡ word_of command → ⊥
    other New same = omega (arith, ap (λ (w : List ℕ). slice_index w 0) same)
    other _ same = omega (arith, ap (λ (w : List ℕ). slice_index w 0) same)

pub no_feed : IsFirstFault (with_line (codes "end")) faults.Unclosed 13
unfolding lines_of
no_feed = cut_fault (with_line (codes "end")) (codes "end") faults.Unclosed refl (refl, refl)

pub no_end : IsFirstFault (with_line []) faults.Unclosed 13
unfolding lines_of
no_end = cut_fault (with_line []) [] faults.Unclosed refl (refl, refl)

pub no_character : IsFirstFault (with_line (128 ∷ [])) faults.NotAscii 13
unfolding lines_of
no_character = cut_fault (with_line (128 ∷ [])) (128 ∷ []) faults.NotAscii refl refl

pub no_mutator : IsFirstFault header faults.NoMutator 12
unfolding lines_of
no_mutator = no_section header 4 0 0 11 ([] ∷ []) (start header [] [] refl) refl refl 12 refl

pub wrong_word : IsFirstFault spaced_text faults.Word 13
unfolding lines_of words_of
wrong_word =
    line_fault spaced_text (codes "new a  1") (codes "num n 7") (codes "put a 0 n" ∷ codes "get b a 0" ∷ codes "end" ∷
    [] ∷ []) faults.Word refl refl refl
    (no_count names 4 (words_of (codes "new a  1")) (codes "new") (codes "a" ∷ [] ∷ codes "1" ∷
    []) New refl refl (λ same. omega (arith, same)))

-- ---- settings

no_setting : (text : List ℕ) (kind : Kind) → SettingFault (lines_of text) 0 kind → IsFirstFault text kind 1
no_setting text kind fault = setting_first text 0 kind (omega arith) (λ k below. absurd (omega (arith, below))) fault

pub other_key : IsFirstFault (codes "servers 1\n") faults.Header 1
unfolding lines_of words_of
other_key = no_setting (codes "servers 1\n") faults.Header (
  omega arith,
  refl,
  inl (
    (λ word same. (let key = ap (λ (ws : List (List ℕ)). length (word_in ws 0)) same in omega (arith, key))),
    refl,
  ),
)

-- ---- too many sections

sections_of : ℕ → List (List ℕ)
sections_of zero = [] ∷ []
sections_of (suc n) = mutator_word ∷ end_word ∷ sections_of n

some_left : (n : ℕ) → 0 < length (sections_of n)
unfolding sections_of
some_left zero = omega arith
some_left (suc n) = omega arith

walk : (text : List ℕ) → lines_of text ≡ header_lines ++ sections_of 17 → (n left : ℕ) → n + left ≡ 17 → n ≤ 16
    → Between text 4 n 0 (11 + 2 * n) (sections_of left)
unfolding sections_of
walk text same zero left sum few_sections =
    let all : 17 ≡ left = omega (arith, sum) in
    subst (λ (k : ℕ). Between text 4 0 0 11 (sections_of k)) all
    (start text mutator_word (end_word ∷ sections_of 16) same)
walk text same (suc n) left sum few_sections =
    let before = walk text same n (suc left) (omega (arith, sum)) (omega (arith, few_sections)) in
    let inside = go_open text 4 n 0 (11 + 2 * n) (sections_of (suc left)) before mutator_word (end_word ∷
    sections_of left) (refl, omega arith, refl) refl (omega arith) (omega (arith, few_sections)) in
    let after = go_end text 4 (n + 1) 0 (11 + 2 * n + 1) (board_word ∷ []) (end_word ∷
    sections_of left) inside end_word (sections_of left) (refl, some_left left, refl) refl in
    let more : n + 1 ≡ suc n = omega arith in
    let next : 11 + 2 * n + 1 + 1 ≡ 11 + 2 * suc n = omega arith in
    subst (λ (k : ℕ). Between text 4 k 0 (11 + 2 * suc n) (sections_of left)) more
    (subst (λ (k : ℕ). Between text 4 (n + 1) 0 k (sections_of left)) next after)

pub one_section_more : IsFirstFault many_sections_text faults.Many 44
unfolding lines_of sections_of
one_section_more =
    many_sections many_sections_text 4 16 0 43 (mutator_word ∷ end_word ∷ [] ∷
    []) (walk many_sections_text refl 16 1 refl (omega arith)) mutator_word (end_word ∷ [] ∷
    []) (refl, omega arith, refl) refl
    (omega arith) 44 refl

-- ---- too many names

abbrev four_names : List (List ℕ)
four_names = board_word ∷ codes "a" ∷ codes "b" ∷ codes "c" ∷ []

new_first : IsFirstOfCommand four_names 4 (words_of (codes "num d 1")) faults.Names
unfolding words_of is_name digits
new_first = first_of_words four_names 4 (words_of (codes "num d 1")) (codes "num") (codes "d" ∷ codes "1" ∷
    []) Num refl refl refl faults.Names (record {
      place = 0;
      kind = arguments.Defined;
      among = refl;
      has = (refl, refl, omega arith);
      least = least;
    })
  where
    is : IsNumber (codes "1") 1
    is = (refl, omega arith)

    by_name : (f : Kind) → ArgumentFault four_names 4 arguments.Defined (codes "d") f → rank faults.Names ≤ rank f
    by_name faults.Word wrong = absurd (true≢false wrong)
    by_name faults.Names wrong = omega arith
    by_name _ wrong = absurd wrong

    by_number : (f : Kind) → ArgumentFault four_names 4 (arguments.Number 4294967295) (codes "1") f
        → rank faults.Names ≤ rank f
    by_number faults.Number none = absurd (none 1 is)
    by_number faults.Range (n, number, out) =
        absurd (in_range (number_is (codes "1") 1 n refl (omega arith) number) out)
      where
        in_range : n ≡ 1 → (n < 0) ⊎ (4294967295 < n) → ⊥
        in_range same (inl low) = omega (arith, same, low)
        in_range same (inr high) = omega (arith, same, high)
    by_number _ wrong = absurd wrong

    least : (other : ℕ) → (k : Argument) → (f : Kind) → slice_get (kinds_of Num) other ≡ Some k
        → ArgumentFault four_names 4 k (word_in (codes "d" ∷ codes "1" ∷ []) other) f → rank faults.Names ≤ rank f
    least zero k f e wrong =
        by_name f (subst (λ (a : Argument). ArgumentFault four_names 4 a (codes "d") f)
        (sym (some_is arguments.Defined k e)) wrong)
    least (suc zero) k f e wrong =
        by_number f (subst (λ (a : Argument). ArgumentFault four_names 4 a (codes "1") f)
        (sym (some_is (arguments.Number 4294967295) k e)) wrong)
    least (suc (suc other)) k f e wrong = absurd cc

abbrev names_text : List ℕ
names_text = with_line (codes "num a 1\nnum b 1\nnum c 1\nnum d 1\n")

-- a line that defines a new name as the number 1
num_line : (known : List (List ℕ)) (name : List ℕ) → is_name name ≡ true → place_at known name ≡ None → length known < 4
    → IsRead 4 known (codes "num" ∷ name ∷ codes "1" ∷ []) (known ++ name ∷ [])
unfolding digits
num_line known name spelled none room =
    let root : length known ≡ unwrap_or (place_at known name) (length known) =
    ap (λ (o : Option ℕ). unwrap_or o (length known)) (sym none) in
    let number : AreValuesOf known (arguments.Number 4294967295 ∷ []) (codes "1" ∷ []) (1 ∷ []) =
    (((refl, omega arith), omega arith, omega arith), tt) in (
      calls.Num (length known) 1,
      record {
        command = Num;
        behind = name ∷ codes "1" ∷ [];
        values = length known ∷ 1 ∷ [];
        words_are = refl;
        are = ((spelled, root), number);
        call_is = refl;
        next = (spelled, inr (none, room, refl));
      },
    )

pub one_name_more : IsFirstFault names_text faults.Names 16
unfolding lines_of words_of is_name place_at
one_name_more =
    let d = codes "num d 1" ∷ [] ∷ [] in
    let c = codes "num c 1" ∷ d in
    let b = codes "num b 1" ∷ c in
    let s0 = opened names_text (codes "num a 1") b refl in
    let s1 = go_inside names_text 4 1 0 12 names (codes "num a 1" ∷
    b) s0 (codes "num a 1") b (refl, omega arith, refl) refl (board_word ∷ codes "a" ∷
    []) (num_line names (codes "a") refl refl (omega arith)) (omega arith) in
    let s2 = go_inside names_text 4 1 1 13 (board_word ∷ codes "a" ∷
    []) b s1 (codes "num b 1") c (refl, omega arith, refl) refl (board_word ∷ codes "a" ∷ codes "b" ∷
    []) (num_line (board_word ∷ codes "a" ∷ []) (codes "b") refl refl (omega arith)) (omega arith) in
    let s3 = go_inside names_text 4 1 2 14 (board_word ∷ codes "a" ∷ codes "b" ∷
    []) c s2 (codes "num c 1") d (refl, omega arith, refl) refl four_names
    (num_line (board_word ∷ codes "a" ∷ codes "b" ∷ []) (codes "c") refl refl (omega arith)) (omega arith) in
    command_first names_text 4 1 3 15 four_names d s3 (codes "num d 1") ([] ∷
    []) (refl, omega arith, refl) refl faults.Names 16 new_first refl

-- ---- all settings together

abbrev many_entries : List ℕ
many_entries = 1 ∷ 8 ∷ 256 ∷ 513 ∷ 16 ∷ 1 ∷ 2 ∷ 4 ∷ 10 ∷ 8 ∷ 1 ∷ []

have_many_entries : HaveSettings (lines_of many_entries_text) many_entries
unfolding lines_of words_of digits
have_many_entries zero below = record {
  ended = omega arith;
  printable = refl;
  words = refl;
  few = omega arith;
  low = omega arith;
  high = omega arith;
}
have_many_entries (suc zero) below = record {
  ended = omega arith;
  printable = refl;
  words = refl;
  few = omega arith;
  low = omega arith;
  high = omega arith;
}
have_many_entries (suc (suc zero)) below = record {
  ended = omega arith;
  printable = refl;
  words = refl;
  few = omega arith;
  low = omega arith;
  high = omega arith;
}
have_many_entries (suc (suc (suc zero))) below = record {
  ended = omega arith;
  printable = refl;
  words = refl;
  few = omega arith;
  low = omega arith;
  high = omega arith;
}
have_many_entries (suc (suc (suc (suc zero)))) below = record {
  ended = omega arith;
  printable = refl;
  words = refl;
  few = omega arith;
  low = omega arith;
  high = omega arith;
}
have_many_entries (suc (suc (suc (suc (suc zero))))) below = record {
  ended = omega arith;
  printable = refl;
  words = refl;
  few = omega arith;
  low = omega arith;
  high = omega arith;
}
have_many_entries (suc (suc (suc (suc (suc (suc zero)))))) below = record {
  ended = omega arith;
  printable = refl;
  words = refl;
  few = omega arith;
  low = omega arith;
  high = omega arith;
}
have_many_entries (suc (suc (suc (suc (suc (suc (suc zero))))))) below = record {
  ended = omega arith;
  printable = refl;
  words = refl;
  few = omega arith;
  low = omega arith;
  high = omega arith;
}
have_many_entries (suc (suc (suc (suc (suc (suc (suc (suc zero)))))))) below =
    record {
      ended = omega arith;
      printable = refl;
      words = refl;
      few = omega arith;
      low = omega arith;
      high = omega arith;
    }
have_many_entries (suc (suc (suc (suc (suc (suc (suc (suc (suc zero))))))))) below =
    record {
      ended = omega arith;
      printable = refl;
      words = refl;
      few = omega arith;
      low = omega arith;
      high = omega arith;
    }
have_many_entries (suc (suc (suc (suc (suc (suc (suc (suc (suc (suc zero)))))))))) below =
    record {
      ended = omega arith;
      printable = refl;
      words = refl;
      few = omega arith;
      low = omega arith;
      high = omega arith;
    }
have_many_entries (suc (suc (suc (suc (suc (suc (suc (suc (suc (suc (suc at))))))))))) below =
    absurd (omega (arith, below))

pub too_many_entries : IsFirstFault many_entries_text faults.Entries 11
too_many_entries = entries_first many_entries_text many_entries refl have_many_entries (omega arith)

abbrev many_words : List ℕ
many_words = 1 ∷ 8 ∷ 7 ∷ 9 ∷ 65520 ∷ 1 ∷ 2 ∷ 11 ∷ 10 ∷ 8 ∷ 1 ∷ []

have_many_words : HaveSettings (lines_of many_words_text) many_words
unfolding lines_of words_of digits
have_many_words zero below = record {
  ended = omega arith;
  printable = refl;
  words = refl;
  few = omega arith;
  low = omega arith;
  high = omega arith;
}
have_many_words (suc zero) below = record {
  ended = omega arith;
  printable = refl;
  words = refl;
  few = omega arith;
  low = omega arith;
  high = omega arith;
}
have_many_words (suc (suc zero)) below = record {
  ended = omega arith;
  printable = refl;
  words = refl;
  few = omega arith;
  low = omega arith;
  high = omega arith;
}
have_many_words (suc (suc (suc zero))) below = record {
  ended = omega arith;
  printable = refl;
  words = refl;
  few = omega arith;
  low = omega arith;
  high = omega arith;
}
have_many_words (suc (suc (suc (suc zero)))) below = record {
  ended = omega arith;
  printable = refl;
  words = refl;
  few = omega arith;
  low = omega arith;
  high = omega arith;
}
have_many_words (suc (suc (suc (suc (suc zero))))) below = record {
  ended = omega arith;
  printable = refl;
  words = refl;
  few = omega arith;
  low = omega arith;
  high = omega arith;
}
have_many_words (suc (suc (suc (suc (suc (suc zero)))))) below = record {
  ended = omega arith;
  printable = refl;
  words = refl;
  few = omega arith;
  low = omega arith;
  high = omega arith;
}
have_many_words (suc (suc (suc (suc (suc (suc (suc zero))))))) below = record {
  ended = omega arith;
  printable = refl;
  words = refl;
  few = omega arith;
  low = omega arith;
  high = omega arith;
}
have_many_words (suc (suc (suc (suc (suc (suc (suc (suc zero)))))))) below =
    record {
      ended = omega arith;
      printable = refl;
      words = refl;
      few = omega arith;
      low = omega arith;
      high = omega arith;
    }
have_many_words (suc (suc (suc (suc (suc (suc (suc (suc (suc zero))))))))) below =
    record {
      ended = omega arith;
      printable = refl;
      words = refl;
      few = omega arith;
      low = omega arith;
      high = omega arith;
    }
have_many_words (suc (suc (suc (suc (suc (suc (suc (suc (suc (suc zero)))))))))) below =
    record {
      ended = omega arith;
      printable = refl;
      words = refl;
      few = omega arith;
      low = omega arith;
      high = omega arith;
    }
have_many_words (suc (suc (suc (suc (suc (suc (suc (suc (suc (suc (suc at))))))))))) below =
    absurd (omega (arith, below))

pub too_many_words : IsFirstFault many_words_text faults.Words 11
unfolding lines_of total
too_many_words =
    let few : ¬ (max_entries < all_entries (numbers_in many_words 0)) = (λ many. omega (arith, many)) in
    let begin = begins_at many_words_text many_words have_many_words refl few 11 11 (mutator_word ∷ end_word ∷ [] ∷
    []) refl refl refl in
    let inside = go_open many_words_text 11 0 0 11 (mutator_word ∷ end_word ∷ [] ∷ []) begin mutator_word (end_word ∷
    [] ∷ []) (refl, omega arith, refl) refl (omega arith) (omega arith) in
    let end = go_end many_words_text 11 1 0 12 (board_word ∷ []) (end_word ∷ [] ∷ []) inside end_word ([] ∷
    []) (refl, omega arith, refl) refl in
    words_first many_words_text 11 1 0 13 ([] ∷
    []) end refl (omega arith) many_words (are_settings (lines_of many_words_text) many_words have_many_words refl)
    (omega arith)
