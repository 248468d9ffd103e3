-- What it is to read a packed word, for every type of word.
use Rattle.std.specs.Prelude.{ℕ, ◌≡◌, ◌≢◌, ◌-◌, ◌<◌, ◌^◌, Option, Some, MatchOption}

-- the answer is the fitting value whose word this is, the same that `at` computes, or none where there is no such value
abbrev pub Unpacks : {T : Type 0} → (T → Type 0) → (T → ℕ) → (ℕ → T) → ℕ → Option T → Type 0
Unpacks {T} Fits word_of at word result =
    MatchOption result ((v : T) → Fits v → word_of v ≢ word) (λ v. Fits v × (word_of v ≡ word) × (v ≡ at word))

-- the word is the packed form of what `at` computes from it
pub record IsPackedBy {T : Type 0} (Fits : T → Type 0) (word_of : T → ℕ) (at : ℕ → T) (word : ℕ) : Type 0 where
  pub fits : Fits (at word)
  pub same : word_of (at word) ≡ word

-- packing loses nothing, and `at` undoes it
pub record IsPacking {T : Type 0} (Fits : T → Type 0) (word_of : T → ℕ) (at : ℕ → T) : Type 0 where
  -- what fits has the word of nothing else
  pub differ : (a b : T) → Fits a → Fits b → word_of a ≡ word_of b → a ≡ b
  -- from its word it is computed
  pub inverse : (v : T) → Fits v → at (word_of v) ≡ v
  -- its word is a packed form
  pub packed : (v : T) → Fits v → IsPackedBy Fits word_of at (word_of v)
  -- from its word it is read
  pub read_back : (v : T) (answer : Option T) → Fits v → Unpacks Fits word_of at (word_of v) answer → answer ≡ Some v
  -- its word fits 64 bits
  pub below : (v : T) → Fits v → word_of v < 2 ^ 64

-- every bit of a word but these, as `!bits` is
abbrev pub all_but : ℕ → ℕ
all_but bits = 2 ^ 64 - 1 - bits
