-- The first line of a text and the first word of a line, by the place where it ends.
use Rattle.std.proofs.Common.{◌≡◌, ℕ, ◌+◌, ◌<◌, ◌≤◌, Bool, true, false, cond, not, ltb, eqb, List, [], ◌∷◌, length}
use Rattle.std.proofs.Common.{take, drop, Some, None, refl, ap, sym, ◌∙◌, arith}
use Rattle.std.specs.List.{join_with_byte, slice_split, onto_first, position, position_or_len}
use Rattle.std.proofs.lemmas.Bool.{ltb-true, ltb-false}
use Rattle.std.proofs.lemmas.List.{drop_more}
use Rattle.std.proofs.lemmas.List.Splits.{join_with_byte-slice_split, slice_split_first}
use Rattle.std.proofs.lemmas.Bool.Decides.{nat_tests}
use Rattle.mako_reader.specs.Words.{IsFirstLine, lines_of, words_behind, words_of}

-- there is a first part
pub split_some : {X : Type 0} (p : X → Bool) (xs : List X) → (part : List X) × (parts : List (List X))
    × (slice_split p xs ≡ part ∷ parts)
split_some p [] = ([], [], refl)
split_some {X} p (x ∷ xs) =
    let h = split_some p xs in
    elim (p x) as (λ (b : Bool). (part : List X) × (parts : List (List X))
    × (cond b ([] ∷ slice_split p xs) (onto_first x (slice_split p xs)) ≡ part ∷ parts)) [
      | true ↦ ([], slice_split p xs, refl)
      | false ↦ (x ∷ h.0, h.1, ap (onto_first x) h.2)
    ]

split_past : {X : Type 0} (p : X → Bool) (xs : List X) → length xs ≤ position_or_len p xs → slice_split p xs ≡ xs ∷ []
split_past p [] h = refl
split_past {X} p (x ∷ xs) h =
    (elim (p x) as (λ (b : Bool). length (x ∷ xs) ≤ cond (not b) (1 + position_or_len p xs) 0
    → cond b ([] ∷ slice_split p xs) (onto_first x (slice_split p xs)) ≡ (x ∷ xs) ∷ []) [
      | true ↦ λ k. absurd (omega arith)
      | false ↦ λ k. ap (onto_first x) (split_past p xs (omega arith))
    ]) h

placed : (b : Bool) (k i : ℕ) → cond b (Some k) None ≡ Some i → (b ≡ true) × (k ≡ i)
placed true k i e = (refl, cc)
placed false k i e = absurd cc

not_placed : (b : Bool) (k : ℕ) → cond b (Some k) None ≡ None → b ≡ false
not_placed true k e = absurd cc
not_placed false k e = refl

split_place : (p : ℕ → Bool) (xs : List ℕ) (i : ℕ) → position p xs ≡ Some i → (i < length xs)
    × (slice_split p xs ≡ take i xs ∷ slice_split p (drop (i + 1) xs))
split_place p xs i e =
    let at = placed (ltb (position_or_len p xs) (length xs)) (position_or_len p xs) i e in
    let within : position_or_len p xs < length xs = ltb-true _ _ at.0 in
    (omega (arith, at.1), rw (← at.1) (slice_split_first p xs 0 within))

split_no_place : (p : ℕ → Bool) (xs : List ℕ) → position p xs ≡ None → slice_split p xs ≡ xs ∷ []
split_no_place p xs e =
    split_past p xs (ltb-false _ _ (not_placed (ltb (position_or_len p xs) (length xs)) (position_or_len p xs) e))

pub some_line : (text : List ℕ) → 0 < length (lines_of text)
unfolding lines_of
some_line text = let parts = split_some (λ (b : ℕ). eqb b 10) text in omega (arith, ap length parts.2)

pub line_at_place : (text : List ℕ) (i : ℕ) → position (λ b. eqb b 10) text ≡ Some i
    → IsFirstLine (lines_of text) (take i text, lines_of (drop (i + 1) text))
unfolding lines_of
line_at_place text i e = ((split_place (λ (b : ℕ). eqb b 10) text i e).1, some_line (drop (i + 1) text))

pub line_at_no_place : (text : List ℕ) → position (λ b. eqb b 10) text ≡ None → (read : List ℕ × List (List ℕ))
    → ¬ IsFirstLine (lines_of text) read
unfolding lines_of
line_at_no_place text e read is = let one = ap length (sym (split_no_place (λ (b : ℕ). eqb b 10) text e) ∙ is.0) in
    omega (arith, one, is.1)

pub words_at_place : (line : List ℕ) (i : ℕ) → position (λ b. eqb b 32) line ≡ Some i
    → words_of line ≡ take i line ∷ words_behind (drop i line)
unfolding words_of words_behind
words_at_place line i e =
    let h = split_place (λ (b : ℕ). eqb b 32) line i e in
    rw (drop_more line i 0 h.0) h.1

pub words_at_no_place : (line : List ℕ) → position (λ b. eqb b 32) line ≡ None → words_of line ≡ line ∷ words_behind []
unfolding words_of words_behind
words_at_no_place line e = split_no_place (λ (b : ℕ). eqb b 32) line e

-- a text is empty just where its only line is
pub no_lines : (text : List ℕ) → eqb (length text) 0 ≡ true → lines_of text ≡ [] ∷ []
unfolding lines_of
no_lines [] e = refl
no_lines (c ∷ cs) e = absurd (grind (arith, nat_tests))

pub some_lines : (text : List ℕ) → eqb (length text) 0 ≡ false → lines_of text ≡ [] ∷ [] → ⊥
unfolding lines_of
some_lines text some same =
    let none : text ≡ [] = sym (join_with_byte-slice_split 10 text) ∙ ap (join_with_byte 10) same in
    let zero : length text ≡ 0 = ap length none in
    grind (arith, nat_tests)

-- there are words behind a text just where there is a text
pub no_words : (text : List ℕ) → eqb (length text) 0 ≡ true → words_behind text ≡ []
unfolding words_behind
no_words [] e = refl
no_words (c ∷ text) e = absurd (grind (arith, nat_tests))

pub some_words : (text : List ℕ) → eqb (length text) 0 ≡ false → words_behind text ≡ [] → ⊥
unfolding words_behind words_of
some_words [] e none = absurd (grind (arith, nat_tests))
some_words (c ∷ text) e none = let parts = split_some (λ (b : ℕ). eqb b 32) text in
    omega (arith, ap length (sym parts.2 ∙ none))
