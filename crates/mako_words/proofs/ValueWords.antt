-- The words of names and values.
use Rattle.std.proofs.Common.{◌≡◌, ℕ, ◌+◌, ◌-◌, ◌*◌, ◌/◌, ◌%◌, ◌^◌, ◌<◌, ◌≤◌, ◌↔◌, ◌⊎◌, inl, inr, ap, subst, refl, ◌∙◌}
use Rattle.std.proofs.Common.{arith}
use Rattle.std.proofs.lemmas.Bool.{ne_eqb, lt-ltb, le-ltb}
use Rattle.std.proofs.lemmas.Nat.{shr_high, mod_low}
use Rattle.mako_words.specs.declared.name.Name.{Name}
use Rattle.mako_words.specs.declared.value.Value.{Value}
use Rattle.mako_words.specs.declared.value.Value.TheVariants.{Null, Num, Ref}
use Rattle.mako_words.specs.Names.{name_word, FitsName, name_at, IsPackedName}
use Rattle.mako_words.specs.Values.{value_word, FitsValue, value_at, IsPacked}
use Rattle.mako_words.specs.Words.{IsPacking}
use Rattle.mako_words.proofs.Unpacking as unpacking

-- the word of a name gives the name back
pub name_at-name_word : (n : Name) → FitsName n → name_at (name_word n) ≡ n
name_at-name_word n fits = fields n.entry n.generation fits.0
  where
    fields : (e g : ℕ) → e < 2 ^ 20
        → name_at (name_word (record { entry = e; generation = g })) ≡ record { entry = e; generation = g }
    fields e g small =
        let n : e + g * 2 ^ 20 + 2 ^ 63 - 2 ^ 63 ≡ g * 2 ^ 20 + e = omega arith in
        let a = ap (λ (y : ℕ). y % 2 ^ 20) n ∙ mod_low g 20 e small in
        let b = ap (λ (y : ℕ). y / 2 ^ 20) n ∙ shr_high g 20 e small in
        λ i. record { entry = a i; generation = b i }

-- a name's word has bit 63, and fits a word
pub name_word_within : (n : Name) → FitsName n → (2 ^ 63 ≤ name_word n) × (name_word n < 2 ^ 64)
name_word_within n fits = (omega arith, omega (arith, fits.0, fits.1))

-- packing names loses nothing
pub name_words : IsPacking FitsName name_word name_at
name_words = unpacking.packing FitsName name_word name_at name_at-name_word (λ n fits. (name_word_within n fits).1)

-- the word of a value gives the value back
pub value_at-value_word : (v : Value) → FitsValue v → value_at (value_word v) ≡ v
value_at-value_word Null fits = refl
value_at-value_word (Num x) fits =
    rw (ne_eqb (x + 2 ^ 62) 0 (λ e. omega arith), lt-ltb (x + 2 ^ 62) (2 ^ 63) (omega arith))
    (ap (λ (y : ℕ). Num y) (omega arith))
value_at-value_word (Ref n) fits =
    rw (ne_eqb (name_word n) 0 (λ e. omega arith), le-ltb (name_word n) (2 ^ 63) (omega arith))
    (ap (λ (m : Name). Ref m) (name_at-name_word n fits))

value_word-lt : (v : Value) → FitsValue v → value_word v < 2 ^ 64
value_word-lt Null fits = omega arith
value_word-lt (Num x) fits = omega arith
value_word-lt (Ref n) fits = (name_word_within n fits).1

-- packing values loses nothing
pub value_words : IsPacking FitsValue value_word value_at
value_words = unpacking.packing FitsValue value_word value_at value_at-value_word value_word-lt

-- a word that fits name_word's form is that of the name at it
name_form : (w : ℕ) → 2 ^ 63 ≤ w → w < 2 ^ 63 + 2 ^ 40 → FitsName (name_at w) × (name_word (name_at w) ≡ w)
name_form w low high = ((omega arith, omega arith), omega arith)

-- the words of names are bit 63 with 40 bits
pub name_forms : (w : ℕ) → IsPackedName w ↔ ((2 ^ 63 ≤ w) × (w < 2 ^ 63 + 2 ^ 40))
name_forms w = (
  λ p. (omega (arith, p.same), omega (arith, p.same, p.fits.0, p.fits.1)),
  λ h. let f = name_form w h.0 h.1 in
      record { fits = f.0; same = f.1 },
)

-- the words of values are 0, bit 62 with 32 bits, and those of names
pub value_forms : (w : ℕ) → IsPacked w ↔ ((w ≡ 0) ⊎ (((2 ^ 62 ≤ w) × (w < 2 ^ 62 + 2 ^ 32)) ⊎ IsPackedName w))
value_forms w = (λ p. subst InForm p.same (form (value_at w) p.fits), packed)
  where
    InForm : ℕ → Type 0
    InForm y = (y ≡ 0) ⊎ (((2 ^ 62 ≤ y) × (y < 2 ^ 62 + 2 ^ 32)) ⊎ IsPackedName y)

    form : (v : Value) → FitsValue v → InForm (value_word v)
    form Null fits = inl refl
    form (Num x) fits = inr (inl (omega arith, omega arith))
    form (Ref n) fits = inr (inr (name_words.packed n fits))

    by_value : (v : Value) → FitsValue v → value_word v ≡ w → IsPacked w
    by_value v fits e = subst IsPacked e (value_words.packed v fits)

    packed : InForm w → IsPacked w
    packed (inl null) = by_value Null tt (omega arith)
    packed (inr (inl number)) = by_value (Num (w - 2 ^ 62)) (omega arith) (omega arith)
    packed (inr (inr name)) = by_value (Ref (name_at w)) name.fits name.same
