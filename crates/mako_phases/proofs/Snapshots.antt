-- A snapshot stands once in a legal history.
use Rattle.std.proofs.Common.{◌≡◌, ℕ, ◌+◌, ◌≤◌, List, [], ◌∷◌, ◌++◌, Bool, true, false, cond, append_assoc, sym, ap}
use Rattle.std.proofs.Common.{subst, refl, ◌∙◌, arith}
use Rattle.std.proofs.lemmas.Bool.{eqb-true, eq-eqb}
use Rattle.mako_model.specs.declared.point.Point.{Point}
use Rattle.mako_model.specs.declared.point.Point.TheVariants.{Did, Snap}
use Rattle.mako_model.specs.Legal.{Facts, state_of, IsLegal}
use Rattle.mako_model.proofs.DeadApart.{snap_number}
use Rattle.mako_model.proofs.Growth.{snaps_stay}
use Rattle.mako_model.proofs.Histories.{state_push}
use Rattle.mako_phases.specs.Snapshots.{is_snap, before_snap}

snap_here : (cycle : ℕ) (after : List Point) → before_snap cycle (Snap cycle ∷ after) ≡ []
unfolding before_snap
snap_here cycle after = ap (λ (b : Bool). cond b [] (Snap cycle ∷ before_snap cycle after)) (eq-eqb cycle cycle refl)

snap_else : (cycle : ℕ) (p : Point) (points : List Point) → is_snap cycle p ≡ false
    → before_snap cycle (p ∷ points) ≡ p ∷ before_snap cycle points
unfolding before_snap
snap_else cycle p points e = ap (λ (b : Bool). cond b [] (p ∷ before_snap cycle points)) e

module _ (w : Facts) (cycle : ℕ) (after : List Point) where
  -- no second snapshot of the cycle
  one_snap : (front middle : List Point) → IsLegal w (front ++ Snap cycle ∷ (middle ++ Snap cycle ∷ after)) → ⊥
  one_snap front middle legal =
      let first = snap_number w front cycle (middle ++ Snap cycle ∷ after) legal in
      let whole : front ++ Snap cycle ∷ (middle ++ Snap cycle ∷ after)
      ≡ (front ++ Snap cycle ∷ middle) ++ Snap cycle ∷ after =
      sym (append_assoc front (Snap cycle ∷ middle) (Snap cycle ∷ after)) in
      let second = snap_number w (front ++ Snap cycle ∷ middle) cycle after (subst (IsLegal w) whole legal) in
      let split : front ++ Snap cycle ∷ middle ≡ (front ++ Snap cycle ∷ []) ++ middle =
      sym (append_assoc front (Snap cycle ∷ []) middle) in
      let grow : (state_of w (front ++ Snap cycle ∷ [])).snaps ≤ (state_of w (front ++ Snap cycle ∷ middle)).snaps =
      subst (λ ps. (state_of w (front ++ Snap cycle ∷ [])).snaps ≤ (state_of w ps).snaps) (sym split)
      (snaps_stay w (front ++ Snap cycle ∷ []) middle) in
      let more : (state_of w (front ++ Snap cycle ∷ [])).snaps ≡ (state_of w front).snaps + 1 =
      ap (λ h. h.snaps) (state_push w front (Snap cycle)) in
      omega arith

  no_true : false ≡ true → ⊥
  no_true e = cc

  snapped : (p : Point) → is_snap cycle p ≡ true → p ≡ Snap cycle
  snapped (Snap k) e = ap (λ (j : ℕ). Snap j) (eqb-true k cycle e)
  snapped (Did m c r) e = absurd (no_true e)

  by_point : (front before : List Point) (p : Point) (b : Bool) → is_snap cycle p ≡ b
      → IsLegal w (front ++ p ∷ (before ++ Snap cycle ∷ after))
      → before_snap cycle (before ++ Snap cycle ∷ after) ≡ before
      → before_snap cycle (p ∷ (before ++ Snap cycle ∷ after)) ≡ p ∷ before
  by_point front before p true e legal rest =
      absurd (one_snap front before
      (subst (λ q. IsLegal w (front ++ q ∷ (before ++ Snap cycle ∷ after))) (snapped p e) legal))
  by_point front before p false e legal rest =
      snap_else cycle p (before ++ Snap cycle ∷ after) e ∙ ap (λ (ps : List Point). p ∷ ps) rest

  from : (front before : List Point) → IsLegal w (front ++ (before ++ Snap cycle ∷ after))
      → before_snap cycle (before ++ Snap cycle ∷ after) ≡ before
  from front [] legal = snap_here cycle after
  from front (p ∷ before) legal =
      by_point front before p (is_snap cycle p) refl legal
      (from (front ++ p ∷ []) before
      (subst (IsLegal w) (sym (append_assoc front (p ∷ []) (before ++ Snap cycle ∷ after))) legal))

pub snapshots_one : (w : Facts) (before after : List Point) (cycle : ℕ) → IsLegal w (before ++ Snap cycle ∷ after)
    → before_snap cycle (before ++ Snap cycle ∷ after) ≡ before
snapshots_one w before after cycle legal = from w cycle after [] before legal
