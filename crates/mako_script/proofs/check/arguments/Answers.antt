use Rattle.std.proofs.Common.{subst, ◌≢◌, refl, ◌≡◌, ◌<◌, length, arith, ◌∷◌, [], ◌++◌, List, ℕ, Bor, map, sym, ap, ◌∙◌}
use Rattle.std.proofs.lemmas.List.{append-nil, length-append, length-map}
use Rattle.mako_reader.specs.Finds.{Refused}
use Rattle.mako_reader.specs.Words.{IsFirstWord, words_behind}
use Rattle.mako_reader.proofs.Splits.{no_words, some_words}
use Rattle.mako_script.proofs.check.arguments.Goals as goal

pub returns-then-is_empty-clause-words : goal.returns-then-is_empty-clause-words
returns-then-is_empty-clause-words c =
    let read = map (λ (word : Bor (List ℕ)). word.now) c.loop-word.words.items in
    let none : words_behind c.loop-word.rest.now ≡ [] = no_words c.loop-word.rest.now (sym c.if-is_empty.ensures) in
    sym (append-nil read) ∙ ap (λ (t : List (List ℕ)). read ++ t) (sym none) ∙ c.loop-word.invariant.read

not_empty : (words : List (List ℕ)) → words ≢ [] → 0 < length words
not_empty [] some = absurd (some refl)
not_empty (w ∷ ws) some = omega arith

no_word : (words : List (List ℕ)) → ((read : List ℕ × List (List ℕ)) → ¬ IsFirstWord words read) → length words ≡ 0
no_word [] none = refl
no_word (w ∷ ws) none = absurd (none (w, ws) refl)

pub returns-in_default-clause-other : goal.returns-in_default-clause-other
returns-in_default-clause-other c = λ same.
    let read = map (λ (word : Bor (List ℕ)). word.now) c.loop-word.words.items in
    let left = words_behind c.loop-word.rest.now in
    let none = no_word left (subst (Refused (IsFirstWord left)) c.in_default.ensures.kind c.in_default.ensures.read) in
    omega (
      arith,
      none,
      same,
      ap length c.loop-word.invariant.read,
      length-append read left,
      length-map c.loop-word.words.items (λ (word : Bor (List ℕ)). word.now),
      c.loop-word.invariant.count,
      c.loop-word-test.true,
    )

pub returns-else-is_empty-clause-other : goal.returns-else-is_empty-clause-other
returns-else-is_empty-clause-other c = λ same.
    let read = map (λ (word : Bor (List ℕ)). word.now) c.loop-word.words.items in
    let more = not_empty (words_behind c.loop-word.rest.now)
    (some_words c.loop-word.rest.now (sym c.if-is_empty.ensures)) in
    omega (
      arith,
      more,
      same,
      ap length c.loop-word.invariant.read,
      length-append read (words_behind c.loop-word.rest.now),
      length-map c.loop-word.words.items (λ (word : Bor (List ℕ)). word.now),
      c.loop-word.invariant.count,
      c.loop-word-test.false,
    )
