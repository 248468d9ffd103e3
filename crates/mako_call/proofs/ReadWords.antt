-- A word is read exactly where it has the packed form.
use Rattle.std.proofs.Common.{◌≡◌, ℕ, zero, suc, ◌*◌, ◌+◌, Option, Some, None, is_some, IsTrue, true, false, ◌↔◌, subst}
use Rattle.std.proofs.Common.{sym, ap, ◌∙◌, refl, ◌<◌, ◌≤◌, arith}
use Rattle.mako_shape.specs.declared.numbers.Numbers.{Numbers}
use Rattle.mako_shape.specs.Limits.{IsShape}
use Rattle.mako_words.specs.Words.{Unpacks, IsPackedBy}
use Rattle.mako_words.specs.Gates.{IsPackedGate}
use Rattle.mako_words.proofs.GateWords.{gate_forms}

module _ {T : Type 0} (Fits : T → Type 0) (word_of : T → ℕ) (at : ℕ → T) where
  pub reads : (word : ℕ) (answer : Option T) → Unpacks Fits word_of at word answer
      → IsTrue (is_some answer) ↔ IsPackedBy Fits word_of at word
  reads word None u = (λ h. absurd (let n : false ≡ true = h in cc), λ p. absurd (u (at word) p.fits p.same))
  reads word (Some v) u = (λ _. record { fits = subst Fits u.2 u.0; same = ap word_of (sym u.2) ∙ u.1 }, λ _. refl)

-- the words of gates are those below two shut bits
pub small_is_gate : (w : ℕ) → w < 131072 → IsPackedGate w
small_is_gate w h = (gate_forms w).1 h

pub gate_is_small : (w : ℕ) → IsPackedGate w → w < 131072
gate_is_small w h = (gate_forms w).0 h

-- there are regions, and each has words
some_product : (a b : ℕ) → 1 ≤ a → 1 ≤ b → 0 < a * b
some_product zero b h k = absurd (omega (arith, h))
some_product (suc a) zero h k = absurd (omega (arith, k))
some_product (suc a) (suc b) h k = omega arith

pub some_regions : (n : Numbers) → IsShape n → 0 < n.servers * (n.tablets + n.spare)
some_regions n s = let e = s.in_range.each in
    some_product n.servers (n.tablets + n.spare) (omega (arith, e)) (omega (arith, e))

pub some_region_words : (n : Numbers) → IsShape n → 0 < n.words
some_region_words n s = let e = s.in_range.each in omega (arith, e)
