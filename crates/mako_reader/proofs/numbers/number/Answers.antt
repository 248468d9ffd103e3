use Rattle.std.proofs.Common.{pow-suc, ℕ, suc, ◌+◌, ◌*◌, ◌^◌, ◌≢◌, ◌≤◌, ◌-◌, ◌⊎◌, inl, inr, length, get_or, ◌≡◌, sym}
use Rattle.std.proofs.Common.{ap, ◌∙◌, arith}
use Rattle.std.proofs.lemmas.List.{get_or_default}
use Rattle.std.proofs.lemmas.Bool.Decides.{nat_tests}
use Rattle.mako_reader.proofs.Digits.{digit_more, digits_done, no_digit, number_plain}
use Rattle.mako_reader.proofs.numbers.number.Goals as goal
use Rattle.mako_reader.proofs.numbers.number.Goals.{then-is_empty-via-then-is_empty}
use Rattle.mako_reader.proofs.numbers.number.Goals.{then-is_empty-via-else-is_empty+then-word-gt-MAX_DIGITS}
use Rattle.mako_reader.proofs.numbers.number.Goals.{then-is_empty-via-else-is_empty+else-word-gt-MAX_DIGITS+then-word-gt1}

pub returns-then-is_empty-clause-read : goal.returns-then-is_empty-clause-read
returns-then-is_empty-clause-read c = λ n number.
    let plain = number_plain c.args.word.now n number in
    elim c.then-is_empty.branch [
      | then-is_empty-via-then-is_empty w ↦ grind (arith, nat_tests, plain.0)
      | then-is_empty-via-else-is_empty+then-word-gt-MAX_DIGITS w ↦ omega (arith, plain.1, w.if-word-gt-MAX_DIGITS.true)
      | then-is_empty-via-else-is_empty+else-word-gt-MAX_DIGITS+then-word-gt1 w ↦ omega
          (arith, plain.2 w.if-word-gt1.true.0, w.if-word-gt1.true.1)
    ]

pub returns-then-not-is_ascii_digit-clause-read : goal.returns-then-not-is_ascii_digit-clause-read
returns-then-not-is_ascii_digit-clause-read c =
    no_digit c.args.word.now c.loop-digit.digit-index
    (get_or c.args.word.now c.loop-digit.digit-index 0) c.loop-digit-test.true refl_digit
    (sym c.if-not-is_ascii_digit.ensures.value)
  where
    refl_digit : get_or c.args.word.now c.loop-digit.digit-index 0 ≡ get_or c.args.word.now c.loop-digit.digit-index
        (get_or c.args.word.now c.loop-digit.digit-index 0)
    refl_digit = get_or_default _ _ _ _ c.loop-digit-test.true

pub loop-digit-preserved : goal.loop-digit-preserved
loop-digit-preserved c =
    let digit = get_or c.args.word.now c.loop-digit.digit-index 0 in
    let is = sym c.if-not-is_ascii_digit.ensures.value in
    let from : c.from.result ≡ digit - 48 = omega (arith, c.from.ensures) in
    let more = digit_more c.args.word.now c.loop-digit.digit-index c.loop-digit.value digit c.loop-digit-test.true
    (get_or_default _ _ _ _ c.loop-digit-test.true) is c.loop-digit.invariant.0 in
    let small : digit ≤ 57 = grind (arith, nat_tests, is) in
    let next : suc c.loop-digit.digit-index ≡ c.loop-digit.digit-index + 1 = omega arith in
    let ten : 10 ^ (c.loop-digit.digit-index + 1) ≡ 10 ^ c.loop-digit.digit-index * 10 =
    ap (λ (n : ℕ). 10 ^ n) (sym next) ∙ pow-suc 10 c.loop-digit.digit-index in
    (rw from more, omega (arith, from, small, ten, c.loop-digit.invariant.1))

pub returns-clause-read : goal.returns-clause-read
returns-clause-read c =
    digits_done c.args.word.now c.loop-digit.digit-index c.loop-digit.value c.loop-digit-test.false (
      grind (arith, nat_tests),
      c.if-word-gt-MAX_DIGITS.false,
      λ zero. by zero c.if-word-gt1.either,
    ) c.loop-digit.invariant.0
  where
    by : get_or c.args.word.now 0 0 ≡ 48 → ((get_or c.args.word.now 0 0 ≡ 48) × (length c.args.word.now ≤ 1))
        ⊎ (get_or c.args.word.now 0 0 ≢ 48) → length c.args.word.now ≡ 1
    by zero (inl one) = grind (arith, nat_tests, one.1)
    by zero (inr other) = absurd (other zero)
