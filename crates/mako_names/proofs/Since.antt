-- The points since a mutator's last one, and the snapshots among them.
use Rattle.std.proofs.Common.{◌≡◌, ℕ, ◌+◌, ◌<◌, ◌≤◌, ⊎_elim, List, [], ◌∷◌, ◌++◌, Contains, Some, sym, ap, subst, refl}
use Rattle.std.proofs.Common.{◌∙◌, arith, append-nil, append_assoc, eq-eqb, ne_eqb}
use Rattle.std.specs.List.{fold}
use Rattle.std.proofs.lemmas.Bool.{cases_eq}
use Rattle.std.proofs.lemmas.List.Elements.{Contains-append_right}
use Rattle.std.proofs.lemmas.Option.{none-some}
use Rattle.mako_model.specs.declared.call.Call.{Call}
use Rattle.mako_model.specs.declared.reply.Reply.{Reply}
use Rattle.mako_model.specs.declared.point.Point.{Point}
use Rattle.mako_model.specs.declared.point.Point.TheVariants.{Did, Snap}
use Rattle.mako_model.specs.Heaps.{Heap}
use Rattle.mako_model.specs.Lawful.{heap_after}
use Rattle.mako_model.specs.Legal.{Facts, opening_of, state_of, AreLawful, IsLegal}
use Rattle.mako_model.specs.LawfulFronts.{since}
use Rattle.mako_model.specs.Starved.{first_snap, snaps_in}
use Rattle.mako_model.proofs.DeadApart.{snaps_replied}
use Rattle.mako_model.proofs.Growth.{since_push}
use Rattle.mako_model.proofs.Histories.{lawful_rest}
use Rattle.std.proofs.lemmas.List.Sums.{fold-append}

-- what holds of the empty history, and is kept by one point more, holds of each
grow_along : (P : List Point → Type 0) → ((h : List Point) (p : Point) → P h → P (h ++ p ∷ []))
    → (front rest : List Point) → P front → P (front ++ rest)
grow_along P step front [] at = subst P (sym (append-nil front)) at
grow_along P step front (p ∷ rest) at =
    subst P (append_assoc front (p ∷ []) rest) (grow_along P step (front ++ p ∷ []) rest (step front p at))

pub grow : (P : List Point → Type 0) → P [] → ((h : List Point) (p : Point) → P h → P (h ++ p ∷ []))
    → (h : List Point) → P h
grow P start step h = grow_along P step [] h start

-- the point is not the mutator's
abbrev pub IsOthers : ℕ → Point → Type 0
IsOthers m (Did n c r) = n ≡ m → ⊥
IsOthers m (Snap cycle) = Unit {0}

pub since_own : (m : ℕ) (history : List Point) (c : Call) (r : Reply) → since m (history ++ Did m c r ∷ []) ≡ []
since_own m history c r = since_push m history (Did m c r) ∙ (let is = eq-eqb m m refl in rw is refl)

pub since_others : (m : ℕ) (history : List Point) (p : Point) → IsOthers m p
    → since m (history ++ p ∷ []) ≡ since m history ++ p ∷ []
since_others m history (Did n c r) others =
    since_push m history (Did n c r) ∙ (let is = ne_eqb n m others in rw is refl)
since_others m history (Snap cycle) others = since_push m history (Snap cycle)

-- they are the end of the history
since_step : (m : ℕ) (history : List Point) (p : Point) → (before : List Point)
    × (history ≡ before ++ since m history) → IsOthers m p → (before : List Point)
    × (history ++ p ∷ [] ≡ before ++ since m (history ++ p ∷ []))
since_step m history p t others = (
  t.0,
  ap (λ ps. ps ++ p ∷ []) t.1 ∙ append_assoc t.0 (since m history) (p ∷ [])
      ∙ ap (λ ps. t.0 ++ ps) (sym (since_others m history p others)),
)

since_next_split : (m : ℕ) (history : List Point) (p : Point) → (before : List Point)
    × (history ≡ before ++ since m history) → (before : List Point)
    × (history ++ p ∷ [] ≡ before ++ since m (history ++ p ∷ []))
since_next_split m history (Did n c r) t =
    ⊎_elim
    (λ e. (
      history ++ Did n c r ∷ [],
      sym (append-nil (history ++ Did n c r ∷ []))
          ∙ ap (λ ps. (history ++ Did n c r ∷ []) ++ ps)
          (sym (subst (λ k. since k (history ++ Did n c r ∷ []) ≡ []) e (since_own n history c r))),
    ))
    (λ e. since_step m history (Did n c r) t e) (cases_eq n m)
since_next_split m history (Snap cycle) t = since_step m history (Snap cycle) t tt

pub since_split : (m : ℕ) (history : List Point) → (before : List Point) × (history ≡ before ++ since m history)
since_split m history =
    grow (λ h. (before : List Point) × (h ≡ before ++ since m h)) ([], refl) (since_next_split m) history

-- ---- snapshots among points

pub snaps_in_append : (xs ys : List Point) → snaps_in (xs ++ ys) ≡ snaps_in xs + snaps_in ys
snaps_in_append [] ys = omega arith
snaps_in_append (Did m c r ∷ xs) ys = snaps_in_append xs ys
snaps_in_append (Snap cycle ∷ xs) ys = let e = snaps_in_append xs ys in omega arith

snaps_counted : (h : Heap) (points : List Point) → (fold heap_after h points).snaps ≡ h.snaps + snaps_in points
snaps_counted h [] = omega arith
snaps_counted h (Did m c r ∷ points) =
    let e = snaps_counted (heap_after h (Did m c r)) points in let f = snaps_replied h m c r in omega arith
snaps_counted h (Snap cycle ∷ points) = let e = snaps_counted (heap_after h (Snap cycle)) points in omega arith

-- the first of them has the next number
first_numbered : (h : Heap) (points : List Point) → AreLawful h points → 0 < snaps_in points
    → first_snap points ≡ Some (h.snaps + 1)
first_numbered h [] all l = absurd (omega arith)
first_numbered h (Did m c r ∷ points) all l =
    first_numbered (heap_after h (Did m c r)) points all.1 l ∙ ap (λ k. Some (k + 1)) (snaps_replied h m c r)
first_numbered h (Snap cycle ∷ points) all l = ap (λ (k : ℕ). Some k) all.0.0

-- and each number up to the last is there
numbered : (h : Heap) (points : List Point) (k : ℕ) → AreLawful h points → h.snaps < k
    → k ≤ h.snaps + snaps_in points → Contains points (Snap k)
numbered h [] k all l m = absurd (omega arith)
numbered h (Did m c r ∷ points) k all low high =
    let e = snaps_replied h m c r in
    Contains-append_right (Did m c r ∷ []) points (Snap k)
    (numbered (heap_after h (Did m c r)) points k all.1 (omega arith) (omega arith))
numbered h (Snap cycle ∷ points) k all low high =
    ⊎_elim
    (λ e. let f : cycle ≡ k =
    all.0.0 ∙ sym e in subst (λ j. Contains (Snap cycle ∷ points) (Snap j)) f (0, omega arith, refl))
    (λ other. Contains-append_right (Snap cycle ∷ []) points (Snap k)
    (numbered (heap_after h (Snap cycle)) points k all.1 (let n : h.snaps + 1 < k = omega (arith, other) in n)
    (omega arith)))
    (cases_eq k (h.snaps + 1))

pub first_append : (xs ys : List Point) (k : ℕ) → first_snap xs ≡ Some k → first_snap (xs ++ ys) ≡ Some k
first_append [] ys k e = absurd (none-some k e)
first_append (Did m c r ∷ xs) ys k e = first_append xs ys k e
first_append (Snap cycle ∷ xs) ys k e = e

snaps_split : (w : Facts) (before points : List Point)
    → (state_of w (before ++ points)).snaps ≡ (state_of w before).snaps + snaps_in points
snaps_split w before points = ap (λ (h : Heap). h.snaps) (fold-append heap_after (opening_of w) before points)
    ∙ snaps_counted (state_of w before) points

-- a cycle that came after the mutator's last point has its snapshot there
pub seen_since : (w : Facts) (history : List Point) (m k : ℕ) → IsLegal w history
    → (state_of w history).snaps < k + snaps_in (since m history) → k ≤ (state_of w history).snaps
    → Contains (since m history) (Snap k)
seen_since w history m k legal low high =
    let t = since_split m history in
    let snaps : (state_of w history).snaps ≡ (state_of w t.0).snaps + snaps_in (since m history) =
    ap (λ ps. (state_of w ps).snaps) t.1 ∙ snaps_split w t.0 (since m history) in
    numbered (state_of w t.0) (since m history) k
    (lawful_rest (opening_of w) t.0 (since m history) (subst (IsLegal w) t.1 legal)) (omega arith) (omega arith)

-- the first snapshot after it
pub first_since : (w : Facts) (history : List Point) (m : ℕ) → IsLegal w history → 0 < snaps_in (since m history)
    → (k : ℕ) × (first_snap (since m history) ≡ Some k)
    × (k + snaps_in (since m history) ≡ (state_of w history).snaps + 1)
first_since w history m legal some =
    let t = since_split m history in
    let snaps : (state_of w history).snaps ≡ (state_of w t.0).snaps + snaps_in (since m history) =
    ap (λ ps. (state_of w ps).snaps) t.1 ∙ snaps_split w t.0 (since m history) in (
      (state_of w t.0).snaps + 1,
      first_numbered (state_of w t.0) (since m history)
          (lawful_rest (opening_of w) t.0 (since m history) (subst (IsLegal w) t.1 legal)) some,
      (let e : (state_of w t.0).snaps + 1 + snaps_in (since m history) ≡ (state_of w history).snaps + 1 =
          omega arith in e),
    )

-- a cycle that was asked for is above 0
pub asked_above : (w : Facts) (history : List Point) (m k : ℕ)
    → (state_of w history).snaps < k + snaps_in (since m history) → 0 < k
asked_above w history m k low =
    let t = since_split m history in
    let snaps : (state_of w history).snaps ≡ (state_of w t.0).snaps + snaps_in (since m history) =
    ap (λ ps. (state_of w ps).snaps) t.1 ∙ snaps_split w t.0 (since m history) in
    omega arith
