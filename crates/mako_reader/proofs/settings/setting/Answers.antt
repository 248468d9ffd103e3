use Rattle.std.proofs.Common.{◌≡◌, ◌∷◌, [], List, ℕ, Bool, true, false, not, refl, sym, ap, ◌∙◌}
use Rattle.std.specs.Fmt.{decimal}
use Rattle.std.specs.Str.{bytes_eq}
use Rattle.std.proofs.lemmas.Slice.Eq.{bytes_eq-Decides}
use Rattle.mako_text.specs.Keys.{key_view}
use Rattle.mako_reader.specs.Parts.{IsSetting}
use Rattle.mako_reader.specs.Words.{IsFirstLine, IsFirstWord, IsWithin, lines_of, words_behind}
use Rattle.mako_reader.proofs.Header.{words_of_setting}
use Rattle.mako_reader.proofs.Splits.{no_words, some_words}
use Rattle.mako_reader.proofs.Values.{stops}
use Rattle.mako_reader.proofs.settings.setting.Goals as goal
use Rattle.mako_reader.proofs.settings.setting.Goals.{then-ne-via-then-ne, then-ne-via-else-ne+then-not-is_empty}

pub returns-in_err-line : goal.returns-in_err-line
returns-in_err-line c =
    let lines = lines_of c.args.text.now in
    (stops _ c.from_residual.result _ c.from_residual.ensures.1 (IsFirstLine lines)
    (IsSetting (key_view c.args.key.now) lines)
    (λ x is. ((is.line, x.1), (is.lines_are, is.ended))) c.in_err-line.ensures.read)

pub returns-in_err-number : goal.returns-in_err-number
returns-in_err-number c =
    let lines = lines_of c.args.text.now in
    let words = words_behind c.split_word.result.1.now in
    (stops _ c.from_residual-in_err-number.result _ c.from_residual-in_err-number.ensures.1 (IsFirstWord words)
    (IsSetting (key_view c.args.key.now) lines)
    (λ x is. (let w = words_of_setting (key_view c.args.key.now) lines
    (c.in_ok-line.line.now, lines_of c.in_ok-line.after.now) x c.split_word.result.0.now words
    c.in_ok-line.ensures.read c.split_word.ensures is in ((decimal x.0, []), w.1))) c.in_err-number.ensures.read)

pub returns-then-ne : goal.returns-then-ne
returns-then-ne c = λ x is.
    let words = words_of_setting (key_view c.args.key.now) (lines_of c.args.text.now)
    (c.in_ok-line.line.now, lines_of c.in_ok-line.after.now) x c.split_word.result.0.now
    (words_behind c.split_word.result.1.now)
    c.in_ok-line.ensures.read c.split_word.ensures is in
    let both : c.in_ok-number.number.now ∷ words_behind c.in_ok-number.rest.now ≡ decimal x.0 ∷ [] =
    sym c.in_ok-number.ensures.read ∙ words.1 in
    elim c.then-ne.branch [
      | then-ne-via-then-ne w ↦ other_key c.split_word.result.0.now c.args.key.now.word.now
          (sym w.if-ne.ensures) words.0
      | then-ne-via-else-ne+then-not-is_empty w ↦ some_words c.in_ok-number.rest.now (sym w.if-not-is_empty.ensures) cc
    ]
  where
    other_key : (w key : List ℕ) → not (bytes_eq w key) ≡ true → w ≡ key → ⊥
    other_key w key e same = (let no : false ≡ true = ap not (sym ((bytes_eq-Decides w key).1 same)) ∙ e in cc)

same_key : (w key : List ℕ) → not (bytes_eq w key) ≡ false → w ≡ key
same_key w key e = (bytes_eq-Decides w key).0 (twice (bytes_eq w key) e)
  where
    twice : (b : Bool) → not b ≡ false → b ≡ true
    twice true e = refl
    twice false e = absurd cc

pub returns-in_err-number_within : goal.returns-in_err-number_within
returns-in_err-number_within c =
    let lines = lines_of c.args.text.now in
    let key = key_view c.args.key.now in
    let number = c.in_ok-number.number.now in
    (stops _ c.from_residual-in_err-number_within.result _ c.from_residual-in_err-number_within.ensures.1
    (IsWithin key.1.0 key.1.1 number) (IsSetting key lines)
    (λ x is. (let words =
    words_of_setting key lines (c.in_ok-line.line.now, lines_of c.in_ok-line.after.now) x c.split_word.result.0.now
    (words_behind c.split_word.result.1.now) c.in_ok-line.ensures.read c.split_word.ensures is in
    let both : number ∷ words_behind c.in_ok-number.rest.now ≡ decimal x.0 ∷ [] = sym c.in_ok-number.ensures.read
    ∙ words.1 in
    let spelled : number ≡ decimal x.0 = cc in
    (x.0, ((spelled, is.few), is.low, is.high)))) c.in_err-number_within.ensures)

pub returns : goal.returns
returns c =
    let is_key = same_key c.split_word.result.0.now c.args.key.now.word.now (sym c.if-ne.ensures) in
    let none = no_words c.in_ok-number.rest.now (sym c.if-not-is_empty.ensures) in
    let value = c.in_ok-number_within.ensures in
    record {
      line = c.in_ok-line.line.now;
      lines_are = c.in_ok-line.ensures.read.0;
      ended = c.in_ok-line.ensures.read.1;
      words = c.split_word.ensures ∙ (λ i. is_key i ∷ (c.in_ok-number.ensures.read ∙ (λ j. value.0.0 j ∷ none j)) i);
      few = value.0.1;
      low = value.1;
      high = value.2;
    }
