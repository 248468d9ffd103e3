-- Reading digits one after the other.
use Rattle.std.proofs.Common.{◌&&◌, rules, ◌≡◌, ℕ, zero, suc, ◌+◌, ◌-◌, ◌*◌, ◌<◌, ◌≤◌, Bool, true, false, true≢false}
use Rattle.std.proofs.Common.{List, [], ◌∷◌, ◌++◌, length, get_or, take, refl, sym, ap, ◌∙◌, arith}
use Rattle.std.specs.Char.{is_ascii_digit}
use Rattle.std.proofs.lemmas.List.{take_all, take_more}
use Rattle.std.proofs.lemmas.Bool.Decides.{nat_tests}
use Rattle.std.specs.Fmt.{decimal}
use Rattle.std.specs.Str.{all_ascii_digits}
use Rattle.std.proofs.lemmas.Str.Parse.{IsNumeralModel, numerals_by_fold, tells_all_ascii_digits, digits_value_short}
use Rattle.std.proofs.lemmas.Fmt.{decimal-digits_value, decimal_injective, digits_decimal, decimal_nonempty}
use Rattle.std.proofs.lemmas.Fmt.{length-decimal-le, first_decimal, decimal_digit}
use Rattle.mako_reader.specs.Words.{IsNumber}

-- the number of digits behind a number
abbrev pub digits_after : ℕ → List ℕ → ℕ
digits_after n [] = n
digits_after n (c ∷ cs) = digits_after (n * 10 + (c - 48)) cs

pub own : IsNumeralModel (λ ds. all_ascii_digits ds ≡ true) (digits_after 0)
own = numerals_by_fold _ tells_all_ascii_digits digits_after (search rules)

-- these digits were read
pub record DigitsRead (digits : List ℕ) (value : ℕ) : Type 0 where
  pub are : all_ascii_digits digits ≡ true
  pub value_is : digits_after 0 digits ≡ value

all_push : (digits : List ℕ) (c : ℕ) → all_ascii_digits digits ≡ true → is_ascii_digit c ≡ true
    → all_ascii_digits (digits ++ c ∷ []) ≡ true
all_push [] c are is = ap (λ (b : Bool). b && true) is
all_push (d ∷ digits) c are is =
    let first : is_ascii_digit d ≡ true = grind (arith, nat_tests) in
    let rest = all_push digits c (grind (arith, nat_tests)) is in
    (λ i. first i && rest i)

value_push : (n : ℕ) (digits : List ℕ) (c : ℕ)
    → digits_after n (digits ++ c ∷ []) ≡ digits_after n digits * 10 + (c - 48)
value_push n [] c = refl
value_push n (d ∷ digits) c = value_push (n * 10 + (d - 48)) digits c

pub digit_more : (word : List ℕ) (i value digit : ℕ) → i < length word → digit ≡ get_or word i digit
    → is_ascii_digit digit ≡ true → DigitsRead (take i word) value
    → DigitsRead (take (i + 1) word) (value * 10 + (digit - 48))
digit_more word i value digit within at is read =
    let more : take (i + 1) word ≡ take i word ++ digit ∷ [] = take_more word i digit within
    ∙ ap (λ (d : ℕ). take i word ++ d ∷ []) (sym at) in
    record {
      are = ap all_ascii_digits more ∙ all_push (take i word) digit read.are is;
      value_is = ap (digits_after 0) more ∙ value_push 0 (take i word) digit
          ∙ ap (λ (n : ℕ). n * 10 + (digit - 48)) read.value_is;
    }

digit_at : (digits : List ℕ) (i d : ℕ) → all_ascii_digits digits ≡ true → i < length digits
    → is_ascii_digit (get_or digits i d) ≡ true
digit_at [] i d are within = absurd (omega arith)
digit_at (c ∷ digits) zero d are within = grind (arith, nat_tests)
digit_at (c ∷ digits) (suc i) d are within = digit_at digits i d (grind (arith, nat_tests)) (omega arith)

pub no_digit : (word : List ℕ) (i digit : ℕ) → i < length word → digit ≡ get_or word i digit
    → is_ascii_digit digit ≡ false → (n : ℕ) → ¬ IsNumber word n
no_digit word i digit within at is n number =
    let digits : all_ascii_digits word ≡ true = ap all_ascii_digits number.0
    ∙ digits_decimal own n (omega (arith, number.1)) in
    true≢false (sym (digit_at word i digit digits within) ∙ ap is_ascii_digit (sym at) ∙ is)

-- the word is not empty, not too long, and has no zero before other digits
abbrev pub IsPlain : List ℕ → Type 0
IsPlain word = (0 < length word) × (length word ≤ 10) × (get_or word 0 0 ≡ 48 → length word ≡ 1)

pub number_plain : (word : List ℕ) (n : ℕ) → IsNumber word n → IsPlain word
number_plain word n number =
    rw number.0 (
      decimal_nonempty n (omega (arith, number.1)),
      length-decimal-le 10 n (omega arith)
          (omega (arith, number.1)) (omega arith),
      plain n number.1,
    )
  where
    plain : (n : ℕ) → n < 10000000000 → get_or (decimal n) 0 0 ≡ 48 → length (decimal n) ≡ 1
    plain zero small zero_first = ap length (decimal_digit 0 (omega arith))
    plain (suc n) small zero_first = absurd (let first = first_decimal (suc n) (omega arith) (omega arith) in
        omega (arith, first, zero_first))

pub digits_done : (word : List ℕ) (i value : ℕ) → length word ≤ i → IsPlain word → DigitsRead (take i word) value
    → IsNumber word value
digits_done word i value past plain read =
    let whole = take_all i word past in
    let are : all_ascii_digits word ≡ true = ap all_ascii_digits (sym whole) ∙ read.are in
    let value_is : digits_after 0 word ≡ value = ap (digits_after 0) (sym whole) ∙ read.value_is in
    let small = digits_value_short own word 10 are plain.1 in (
      sym (decimal-digits_value own word are plain.0 plain.2 (omega arith))
          ∙ ap decimal value_is,
      omega (arith, value_is),
    )

-- a word is one number at most
pub same_number : (word : List ℕ) (m n : ℕ) → IsNumber word m → IsNumber word n → m ≡ n
same_number word m n one two = decimal_injective m n (omega (arith, one.1)) (omega (arith, two.1)) (sym one.0 ∙ two.0)
