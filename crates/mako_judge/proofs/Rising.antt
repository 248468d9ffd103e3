-- A list of names rises where each is below the next.
use Rattle.std.proofs.Common.{◌≡◌, ℕ, zero, suc, ◌+◌, ◌-◌, ◌<◌, ◌≤◌, true, not, List, [], ◌∷◌, length, get_or, Less}
use Rattle.std.proofs.Common.{Equal, Greater, ◌∙◌, subst, arith}
use Rattle.std.specs.Bool.{◌==◌}
use Rattle.std.specs.declared.cmp.Ordering.{Ordering}
use Rattle.std.specs.Ordering.{ordering_index}
use Rattle.std.specs.List.Sorted.{IsStrictlySortedBy}
use Rattle.std.proofs.lemmas.List.Elements.{All-contains}
use Rattle.std.proofs.lemmas.Map.Keys.{sorted_from_all_adjacent, sorted_tail}
use Rattle.std.proofs.lemmas.Map.Views.{All-after_first}
use Rattle.mako_words.specs.declared.name.Name.{Name}
use Rattle.mako_words.specs.Names.{name_cmp}
use Rattle.mako_words.proofs.NamesInOrder.{names_total}
use Rattle.mako_model.specs.Heaps.{board_name}
use Rattle.mako_judge.proofs.Kept.{first_in}

-- each of the first names is below the next
abbrev pub RisesBelow : List Name → ℕ → Type 0
RisesBelow xs end = (k : ℕ) (d : Name) → k + 1 < end → name_cmp (get_or xs k d) (get_or xs (k + 1) d) ≡ Less

pub rising_from : (xs : List Name) → RisesBelow xs (length xs) → IsStrictlySortedBy name_cmp xs
rising_from xs below =
    sorted_from_all_adjacent names_total xs (record { entry = 0; generation = 0 }) (λ k l. below k _ l)

next_above : (xs : List Name) (k : ℕ) (d : Name) → IsStrictlySortedBy name_cmp xs → suc k < length xs
    → name_cmp (get_or xs k d) (get_or xs (suc k) d) ≡ Less
next_above [] k d rising l = absurd (omega arith)
next_above (x ∷ []) k d rising l = absurd (omega arith)
next_above (x ∷ y ∷ xs) zero d rising l =
    All-contains (λ q. name_cmp x q ≡ Less) (y ∷ xs) y (All-after_first name_cmp x (y ∷ xs) rising) (first_in y xs)
next_above (x ∷ y ∷ xs) (suc k) d rising l =
    next_above (y ∷ xs) k d (sorted_tail name_cmp x (y ∷ xs) rising) (omega arith)

-- in a rising list each name is below the next
pub adjacent : (xs : List Name) → IsStrictlySortedBy name_cmp xs → RisesBelow xs (length xs)
adjacent xs rising k d l =
    let e : suc k ≡ k + 1 = omega arith in
    subst (λ (j : ℕ). name_cmp (get_or xs k d) (get_or xs j d) ≡ Less) e (next_above xs k d rising (omega arith))

pub rises_to_end : (xs : List Name) (end : ℕ) → length xs ≤ end → RisesBelow xs end → RisesBelow xs (length xs)
rises_to_end xs end l below k d m = below k d (omega arith)

is_less : (o : Ordering) → true ≡ not (ordering_index o == 0) → o ≡ Less → ⊥
is_less Less e f = cc
is_less Equal e f = cc
is_less Greater e f = cc

-- a list does not rise where a name is not below the next
pub not_rising : (xs : List Name) (j : ℕ) (o : Ordering) → 1 ≤ j → j < length xs
    → o ≡ name_cmp (get_or xs (j - 1) board_name) (get_or xs j board_name)
    → true ≡ not (ordering_index o == 0) → ¬ IsStrictlySortedBy name_cmp xs
not_rising xs j o first l e other rising =
    let n : j - 1 + 1 ≡ j = omega arith in
    is_less o other (e ∙ subst (λ (i : ℕ). name_cmp (get_or xs (j - 1) board_name) (get_or xs i board_name) ≡ Less) n
    (adjacent xs rising (j - 1) board_name (omega arith)))
