-- What follows for every type of word where `at` undoes `word_of`.
use Rattle.std.proofs.Common.{◌≡◌, ℕ, ◌<◌, ◌^◌, Option, Some, None, ap, sym, subst, ◌∙◌, refl}
use Rattle.mako_words.specs.Words.{Unpacks, IsPacking}

module _ {T : Type 0} (Fits : T → Type 0) (word_of : T → ℕ) (at : ℕ → T) (inverse : (v : T) → Fits v
    → at (word_of v) ≡ v) where
  read_back : (v : T) (answer : Option T) → Fits v → Unpacks Fits word_of at (word_of v) answer → answer ≡ Some v
  read_back v None fits reads = absurd (reads v fits refl)
  read_back v (Some x) fits reads = ap (λ (y : T). Some y) (reads.2 ∙ inverse v fits)

  pub packing : ((v : T) → Fits v → word_of v < 2 ^ 64) → IsPacking Fits word_of at
  packing below = record {
    differ = λ a b fits_a fits_b e. sym (inverse a fits_a) ∙ ap at e ∙ inverse b fits_b;
    inverse = inverse;
    packed = λ v fits. record { fits = subst Fits (sym (inverse v fits)) fits; same = ap word_of (inverse v fits) };
    read_back = read_back;
    below = below;
  }
