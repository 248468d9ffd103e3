-- An entry that is found is used or free.
use Rattle.std.proofs.Common.{◌≡◌, ℕ, inl, inr, true, false, not, ◌&&◌, nat_lt, Option, Some, None, if◌then◌else◌}
use Rattle.std.proofs.Common.{subst, refl}
use Rattle.mako_words.specs.Entries.{entry_at}
use Rattle.mako_shape.specs.declared.numbers.Numbers.{Numbers}
use Rattle.mako_alloc.specs.Allocating.{free_generation}
use Rattle.mako_alloc.specs.Causes.{EntriesTell}
use Rattle.mako_alloc.specs.Seen.{IsUsed, IsFree}
use Rattle.mako_step.proofs.Cases.{by_lt}

-- by cases of what the word of an entry tells
pub by_entry : (P : Option ℕ → Type 0) (n : Numbers) (w : ℕ) → (IsUsed n w → P None) → ((g : ℕ) →
    IsFree n w g → P (Some g)) →
    P (free_generation n.generations w)
unfolding free_generation
by_entry P n w used free = elim ((entry_at w).taken) as
    (λ b. (entry_at w).taken ≡ b
    → P (if not b && nat_lt (entry_at w).generation n.generations then Some (entry_at w).generation else None)) [
      | true ↦ λ e. used (inl e)
      | false ↦ λ e. by_lt
          (λ v. P (if v then Some (entry_at w).generation else None))
          (entry_at w).generation
          n.generations
          (λ h. free (entry_at w).generation (record { free = e; generation_is = refl; left = h }))
          (λ h. used (inr h))
    ] refl

-- what the search takes a word for is what its entry is
pub entries_tell : EntriesTell
entries_tell = record {
  used = λ n w. by_entry (λ o. o ≡ None → IsUsed n w) n w (λ used e. used) (λ g free e. cc);
  free = λ n w generation. by_entry (λ o. o ≡ Some generation → IsFree n w generation) n w
      (λ used e. cc)
      (λ g free e. let same : g ≡ generation = cc in subst (λ (x : ℕ). IsFree n w x) same free);
}
