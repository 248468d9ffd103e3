-- Names that rise at each server rise in all.
use Rattle.std.proofs.Common.{◌≡◌, ℕ, suc, ◌+◌, ◌-◌, ◌/◌, ◌<◌, ◌≤◌, List, [], ◌∷◌, ◌++◌, length, get_or, ⊎_elim, subst}
use Rattle.std.proofs.Common.{arith}
use Rattle.std.specs.List.{All, AllPairs}
use Rattle.std.proofs.Math.Nat.{div-mul-le_self}
use Rattle.std.proofs.lemmas.Bool.{cases_lt}
use Rattle.std.proofs.lemmas.Grind.{common_steps}
use Rattle.std.proofs.lemmas.List.Elements.{All-nil, All-append}
use Rattle.std.proofs.lemmas.Nat.{le-div}
use Rattle.mako_words.specs.declared.name.Name.{Name}
use Rattle.mako_shape.specs.Belongings.{server_of_entry}
use Rattle.mako_shape.specs.Limits.{IsShape}
use Rattle.mako_shape.specs.declared.numbers.Numbers.{Numbers}
use Rattle.mako_cycles.specs.Hearing.{joined, RiseAt, ListsRise}

pairs_append : {X : Type 0} (R : X → X → Type 0) (xs ys : List X) → AllPairs R xs → AllPairs R ys →
    ((i j : ℕ) (d : X) → i < length xs → j < length ys → R (get_or xs i d) (get_or ys j d)) → AllPairs R (xs ++ ys)
pairs_append R xs ys h g across i j d lt within =
    ⊎_elim
    (λ (inside : j < length xs). let low : get_or (xs ++ ys) i d ≡ get_or xs i d = grind (arith, common_steps) in
    let high : get_or (xs ++ ys) j d ≡ get_or xs j d = grind (arith, common_steps) in
    rw (low, high) (h i j d lt inside))
    (λ (past : length xs ≤ j). let high : get_or (xs ++ ys) j d ≡ get_or ys (j - length xs) d =
    grind (arith, common_steps) in
    let more : j - length xs < length ys = grind (arith, common_steps) in
    ⊎_elim
    (λ (inside : i < length xs). let low : get_or (xs ++ ys) i d ≡ get_or xs i d = grind (arith, common_steps) in
    rw (low, high) (across i (j - length xs) d inside more))
    (λ (behind : length xs ≤ i). let low : get_or (xs ++ ys) i d ≡ get_or ys (i - length xs) d =
    grind (arith, common_steps) in
    rw (low, high) (g (i - length xs) (j - length xs) d (omega arith) more))
    (cases_lt i (length xs)))
    (cases_lt j (length xs))

-- a later entry is of no earlier server
div_rises : (a b k : ℕ) → 0 < k → a ≤ b → a / k ≤ b / k
div_rises a b k some h = let most = div-mul-le_self a k in le-div (a / k) b k some (omega (arith, most, h))

server_rises : (n : Numbers) (a b : ℕ) → IsShape n → a ≤ b → server_of_entry n a ≤ server_of_entry n b
server_rises n a b shape h =
    let each = shape.in_range.each in
    div_rises (a / n.entries) (b / n.entries) n.tablets (omega (arith, each))
    (div_rises a b n.entries (omega (arith, each)) h)

rises_from : (n : Numbers) (first : ℕ) (lists : List (List Name)) → IsShape n
    → ((i : ℕ) → i < length lists → RiseAt n (first + i) (get_or lists i [])) →
    AllPairs (λ a b. a.entry < b.entry) (joined lists) × All (λ x. first ≤ server_of_entry n x.entry) (joined lists)
rises_from n first [] shape each =
    (λ i j d low high. absurd (omega (arith, high)), All-nil (λ x. first ≤ server_of_entry n x.entry))
rises_from n first (names ∷ lists) shape each =
    let here : RiseAt n (first + 0) names = each 0 (omega arith) in
    let own = here.own in
    let rest = rises_from n (first + 1) lists shape
    (λ i l. (let e : first + suc i ≡ first + 1 + i = omega arith in
    subst (λ (s : ℕ). RiseAt n s (get_or lists i [])) e (each (suc i) (omega (arith, l))))) in (
      pairs_append (λ a b. a.entry < b.entry) names (joined lists) here.rising rest.0
          (λ i j d l m. (let a = own i d l in
          let b = rest.1 j d m in
          let x = get_or names i d in
          let y = get_or (joined lists) j d in
          ⊎_elim (λ (less : x.entry < y.entry). less)
          (λ (more : y.entry ≤ x.entry). absurd (let up = server_rises n y.entry x.entry shape more in
          omega (arith, a, b, up))) (cases_lt x.entry y.entry))),
      All-append (λ x. first ≤ server_of_entry n x.entry) names (joined lists) (λ i d l. (let a = own i d l in
          omega (arith, a)))
          (λ i d l. (let b = rest.1 i d l in omega (arith, b))),
    )

pub lists_rise : ListsRise
lists_rise n lists shape each =
    (rises_from n 0 lists shape (λ i l. (let e : i ≡ 0 + i = omega arith in
    subst (λ (s : ℕ). RiseAt n s (get_or lists i [])) e (each i l)))).0
