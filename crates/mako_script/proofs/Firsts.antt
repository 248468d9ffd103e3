-- A text has one first fault at most, and that of the empty text.
use Rattle.std.proofs.Common.{◌≡◌, ◌⊎◌, inl, inr, ◌<◌, ◌≤◌, ℕ, zero, suc, List, [], ◌∷◌, get_or, true≢false, refl, ap}
use Rattle.std.proofs.Common.{sym, ◌∙◌, arith}
use Rattle.mako_script.specs.declared.fault.Kind.{Kind}
use Rattle.mako_script.specs.declared.fault.Kind.TheVariants.{Header, NotAscii, Word, Number, Range, Names, Undefined}
use Rattle.mako_script.specs.declared.fault.Kind.TheVariants.{NoMutator, Unclosed, Many, Entries, Words, Long}
use Rattle.mako_script.specs.Faults.{IsFirstFault, HasFault, rank, told_line}
use Rattle.mako_reader.specs.Words.{lines_of}

-- the kinds by their ranks
by_rank : List Kind
by_rank = NotAscii ∷ Unclosed ∷ Header ∷ Word ∷ Number ∷ Range ∷ Entries ∷ Undefined ∷ Names ∷ Many ∷ NoMutator ∷
    Words ∷ Long ∷ []

ranked : (kind : Kind) → get_or by_rank (rank kind) Long ≡ kind
unfolding by_rank
ranked NotAscii = refl
ranked _ = refl

by_its_rank : (kind other : Kind) → rank kind ≡ rank other → kind ≡ other
by_its_rank kind other same = sym (ranked kind) ∙ (ap (λ (r : ℕ). get_or by_rank r Long) same ∙ ranked other)

same_place : (at other a b : ℕ) → (at < other) ⊎ ((at ≡ other) × (a ≤ b)) → (other < at) ⊎ ((other ≡ at) × (b ≤ a))
    → (at ≡ other) × (a ≡ b)
same_place at other a b (inl l) (inl m) = (omega arith, omega arith)
same_place at other a b (inl l) (inr m) = (omega arith, omega arith)
same_place at other a b (inr l) (inl m) = (omega arith, omega arith)
same_place at other a b (inr l) (inr m) = (omega arith, omega arith)

pub one_first : (text : List ℕ) → (kind other : Kind) → (line told : ℕ) → IsFirstFault text kind line
    → IsFirstFault text other told → (kind ≡ other) × (line ≡ told)
one_first text kind other line told one two =
    let places = same_place one.at two.at (rank kind) (rank other) (one.first two.at other two.has)
    (two.first one.at kind one.has) in
    let kinds = by_its_rank kind other places.1 in (
      kinds,
      one.told ∙ (ap (λ (k : Kind). told_line one.at k) kinds
          ∙ (ap (λ (n : ℕ). told_line n other) places.0 ∙ sym two.told)),
    )

ranks_first : (other : ℕ) → (k : Kind) → HasFault (lines_of []) other k → (0 < other)
    ⊎ ((0 ≡ other) × (rank Unclosed ≤ rank k))
unfolding lines_of
ranks_first (suc other) k has = inl (omega arith)
ranks_first zero NotAscii (inl has) = absurd (true≢false has.1)
ranks_first zero NotAscii (inr (inl has)) = absurd has.1
ranks_first zero NotAscii (inr (inr has)) = absurd has.1
ranks_first zero _ has = inr (refl, omega arith)

pub empty : IsFirstFault [] Unclosed 1
unfolding lines_of
empty = record { at = 0; has = inr (inr (refl, inr (inl (omega arith)))); told = refl; first = ranks_first }
