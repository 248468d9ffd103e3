use Rattle.std.proofs.Common.{◌≡◌, ◌^◌, ◌<◌, true, false, not, sym, ap, inl, inr, ◌∙◌, arith}
use Rattle.std.specs.Fmt.{decimal}
use Rattle.std.specs.Str.{bytes_eq}
use Rattle.std.proofs.lemmas.Fmt.{parse-decimal}
use Rattle.std.proofs.lemmas.Slice.Eq.{bytes_eq-Decides}
use Rattle.mako_command.proofs.line.number.Goals as goal

pub returns-in_default : goal.returns-in_default
returns-in_default c = λ x h.
    let small : x < 2 ^ 64 = omega (arith, h.2, c.ranges.high.fits) in
    let read = parse-decimal 64 x c.args.word.now c.parse.result small small h.0 c.parse.ensures.value.0 in
    cc

pub returns-then-ne : goal.returns-then-ne
returns-then-ne c = λ x h.
    let small : x < 2 ^ 64 = omega (arith, h.2, c.ranges.high.fits) in
    let read = parse-decimal 64 x c.args.word.now c.parse.result small small h.0 c.parse.ensures.value.0 in
    let number : c.in-Ok.number ≡ x = cc in
    let same : c.format.result.now ≡ c.args.word.now = c.format.ensures.text ∙ ap decimal number ∙ sym h.0 in
    let equal : bytes_eq c.format.result.now c.args.word.now ≡ true =
    (bytes_eq-Decides c.format.result.now c.args.word.now).1 same in
    let no : c.ne.result ≡ false = c.ne.ensures ∙ ap not equal in
    cc

pub returns-then-number-low : goal.returns-then-number-low
returns-then-number-low c = λ x h.
    let small : x < 2 ^ 64 = omega (arith, h.2, c.ranges.high.fits) in
    let read = parse-decimal 64 x c.args.word.now c.parse.result small small h.0 c.parse.ensures.value.0 in
    let number : c.in-Ok.number ≡ x = cc in
    elim c.then-number-low.either [
      | inl low ↦ omega (arith, low, number, h.1)
      | inr high ↦ omega
          (arith, high.1, number, h.2)
    ]
