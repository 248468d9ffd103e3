use Rattle.std.proofs.Common.{◌≢◌, ◌≡◌, ◌∷◌, [], ℕ, List, Bool, true, false, not, inl, inr, refl, sym, ap, subst, ◌∙◌}
use Rattle.std.specs.Str.{bytes_eq}
use Rattle.std.proofs.lemmas.Slice.Eq.{bytes_eq-Decides}
use Rattle.mako_reader.specs.Finds.{Refused}
use Rattle.mako_reader.specs.Words.{IsFirstWord, words_behind, words_of}
use Rattle.mako_reader.proofs.Splits.{no_words, some_words}
use Rattle.mako_script.proofs.check.setting.Goals as goal
use Rattle.mako_script.proofs.check.setting.Goals.{then-ne-via-then-ne, then-ne-via-else-ne+then-not-is_empty}

same_key : (w key : List ℕ) → not (bytes_eq w key) ≡ false → w ≡ key
same_key w key e = (bytes_eq-Decides w key).0 (twice (bytes_eq w key) e)
  where
    twice : (b : Bool) → not b ≡ false → b ≡ true
    twice true e = refl
    twice false e = absurd cc

other_key : (w key : List ℕ) (ws : List (List ℕ)) (word : List ℕ) → not (bytes_eq w key) ≡ true
    → w ∷ ws ≡ key ∷ word ∷ [] → ⊥
other_key w key ws word e same =
    let first : w ≡ key = cc in
    let equal = (bytes_eq-Decides w key).1 first in
    let no : false ≡ true = ap not (sym equal) ∙ e in
    absurd cc

third_word : (w key number : List ℕ) (more : List (List ℕ)) (word : List ℕ) → more ≢ []
    → w ∷ number ∷ more ≡ key ∷ word ∷ [] → ⊥
third_word w key number more word some same = some cc

pub returns-in_default : goal.returns-in_default
returns-in_default c =
    let behind = words_behind c.split_word.result.1.now in
    let none = subst (Refused (IsFirstWord behind)) c.in_default.ensures.kind c.in_default.ensures.read in
    inl (
      λ word e. (let same : c.split_word.result.0.now ∷ behind ≡ c.args.key.now.word.now ∷ word ∷ [] =
          sym c.split_word.ensures ∙ e in none (word, []) cc),
      refl,
    )

pub returns-then-ne : goal.returns-then-ne
returns-then-ne c =
    let w = c.split_word.result.0.now in
    let key = c.args.key.now.word.now in
    let more = words_behind c.in-Ok.rest.now in
    let words : words_of c.args.line.now ≡ w ∷ c.in-Ok.number.now ∷ more = c.split_word.ensures
    ∙ ap (λ (ws : List (List ℕ)). w ∷ ws) c.in-Ok.ensures.read in
    inl (
      λ word e.
          let same : w ∷ c.in-Ok.number.now ∷ more ≡ key ∷ word ∷ [] = sym words ∙ e in
          elim c.then-ne.branch [
            | then-ne-via-then-ne x ↦ other_key w key (c.in-Ok.number.now ∷ more) word (sym x.if-ne.ensures) same
            | then-ne-via-else-ne+then-not-is_empty x ↦ third_word w key c.in-Ok.number.now more word
                (some_words c.in-Ok.rest.now (sym x.if-not-is_empty.ensures)) same
          ],
      refl,
    )

pub returns : goal.returns
returns c =
    let w = c.split_word.result.0.now in
    let key = c.args.key.now.word.now in
    let more = words_behind c.in-Ok.rest.now in
    let words : words_of c.args.line.now ≡ w ∷ c.in-Ok.number.now ∷ more = c.split_word.ensures
    ∙ ap (λ (ws : List (List ℕ)). w ∷ ws) c.in-Ok.ensures.read in
    let is_key : w ≡ key = same_key w key (sym c.if-ne.ensures) in
    let none = no_words c.in-Ok.rest.now (sym c.if-not-is_empty.ensures) in
    inr (c.in-Ok.number.now, words ∙ (λ i. is_key i ∷ c.in-Ok.number.now ∷ none i), c.value.ensures)
