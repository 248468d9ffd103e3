-- The line of a setting with its number in range, and what no line of settings is.
use Rattle.std.proofs.Common.{◌≡◌, inl, inr, ◌<◌, ◌≤◌, ℕ, List, [], ◌∷◌, ap, sym, ◌∙◌, arith}
use Rattle.std.proofs.lemmas.Fmt.{decimal_injective}
use Rattle.std.specs.Fmt.{decimal}
use Rattle.mako_script.specs.declared.fault.Kind.TheVariants.{Number, Range}
use Rattle.mako_script.specs.Lines.{words_at, word_in, key_at, IsIn, IsBetween}
use Rattle.mako_reader.specs.Words.{IsNumber}
use Rattle.mako_script.specs.Faults.{LineFault}

-- the line is its key and this number, in its range
pub record IsGood (lines : List (List ℕ)) (at n : ℕ) : Type 0 where
  pub setting : at < 11
  pub words : words_at lines at ≡ (key_at at).0 ∷ decimal n ∷ []
  pub low : (key_at at).1.0 ≤ n
  pub high : n ≤ (key_at at).1.1
  pub few : n < 10000000000

pub not_in : (lines : List (List ℕ)) (from at : ℕ) → at < 12 → IsIn lines from at → ⊥
not_in lines from at setting is = omega (arith, is.behind, is.before)

pub not_between : (lines : List (List ℕ)) (at : ℕ) → at < 11 → IsBetween lines at → ⊥
not_between lines at setting is = omega (arith, is.behind)

pub number_is : (word : List ℕ) (n m : ℕ) → word ≡ decimal n → n < 10000000000 → IsNumber word m → m ≡ n
number_is word n m spelled few is = decimal_injective m n (omega (arith, is.1)) (omega arith) (sym is.0 ∙ spelled)

-- its number is one, and in its range
pub good_number : (lines : List (List ℕ)) (at n : ℕ) → IsGood lines at n → LineFault lines at Number → ⊥
good_number lines at n is (word, range, inl (setting, spelled, ranged), none) =
    none n (spelled ∙ ap (λ (ws : List (List ℕ)). word_in ws 1) is.words, is.few)
good_number lines at n is (word, range, inr (from, inside, argument, least), none) =
    not_in lines from at (omega (arith, is.setting)) inside

pub good_range : (lines : List (List ℕ)) (at n : ℕ) → IsGood lines at n → LineFault lines at Range → ⊥
good_range lines at n is (word, range, m, inl (setting, spelled, ranged), number, inl low) =
    omega (
      arith,
      number_is word n m (spelled
          ∙ ap (λ (ws : List (List ℕ)). word_in ws 1) is.words) is.few number,
      ap (λ (r : ℕ × ℕ). r.0) ranged,
      is.low,
      low,
    )
good_range lines at n is (word, range, m, inl (setting, spelled, ranged), number, inr high) =
    omega (
      arith,
      number_is word n m (spelled
          ∙ ap (λ (ws : List (List ℕ)). word_in ws 1) is.words) is.few number,
      ap (λ (r : ℕ × ℕ). r.1) ranged,
      is.high,
      high,
    )
good_range lines at n is (word, range, m, inr (from, inside, argument, least), number, out) =
    not_in lines from at (omega (arith, is.setting)) inside
