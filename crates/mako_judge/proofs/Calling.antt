-- The calls of a mutator, point by point.
use Rattle.std.proofs.Common.{◌≡◌, ℕ, zero, suc, ◌+◌, ◌<◌, ◌≤◌, ◌==◌, Bool, true, false, cond, List, [], ◌∷◌, ◌++◌}
use Rattle.std.proofs.Common.{length, map, take, drop, get_or, slice_get, Some, sym, ap, subst, refl, ◌∙◌, arith}
use Rattle.std.proofs.Common.{append-nil, append_assoc, length-take-le}
use mathlib.Core.List.{IsPrefix}
use Rattle.std.proofs.Math.Seq.{drop-cons}
use Rattle.std.proofs.lemmas.List.{take_more, take-append-drop}
use Rattle.std.proofs.lemmas.Option.{slice_get_within, get_or_from_slice_get}
use Rattle.mako_model.specs.declared.call.Call.{Call}
use Rattle.mako_model.specs.declared.call.Call.TheVariants.{New}
use Rattle.mako_model.specs.declared.reply.Reply.{Reply}
use Rattle.mako_model.specs.declared.reply.Reply.TheVariants.{Made}
use Rattle.mako_model.specs.declared.point.Point.{Point}
use Rattle.mako_model.specs.declared.point.Point.TheVariants.{Did, Snap}
use Rattle.mako_model.specs.Heaps.{board_name}
use Rattle.mako_model.specs.Fronts.{answered_by, calls_by}

cond_map : (b : Bool) (call : Call) (reply : Reply) (xs : List (Call × Reply)) (ys : List Call) → map (λ p. p.0) xs ≡ ys
    → map (λ p. p.0) (cond b ((call, reply) ∷ xs) xs) ≡ cond b (call ∷ ys) ys
cond_map true call reply xs ys e = ap (λ l. call ∷ l) e
cond_map false call reply xs ys e = e

-- the calls of a history that begins with a call
pub calls_cons : (m n : ℕ) (call : Call) (reply : Reply) (points : List Point)
    → calls_by m (Did n call reply ∷ points) ≡ cond (n == m) (call ∷ calls_by m points) (calls_by m points)
calls_cons m n call reply points = cond_map (n == m) call reply (answered_by m points) (calls_by m points) refl

cond_append : (b : Bool) (call : Call) (xs ys zs : List Call) → zs ≡ xs ++ ys
    → cond b (call ∷ zs) zs ≡ cond b (call ∷ xs) xs ++ ys
cond_append true call xs ys zs e = ap (λ l. call ∷ l) e
cond_append false call xs ys zs e = e

-- the calls of two histories joined
pub calls_append : (m : ℕ) (start rest : List Point) → calls_by m (start ++ rest) ≡ calls_by m start ++ calls_by m rest
calls_append m [] rest = refl
calls_append m (Snap cycle ∷ start) rest = calls_append m start rest
calls_append m (Did n call reply ∷ start) rest =
    calls_cons m n call reply (start ++ rest)
    ∙ cond_append (n == m) call (calls_by m start) (calls_by m rest) _ (calls_append m start rest)
    ∙ ap (λ l. l ++ calls_by m rest) (sym (calls_cons m n call reply start))

module _ {A : Type 0} where
  pub get_behind : (xs : List A) (y : A) (ys : List A) (n : ℕ) → length xs ≡ n → slice_get (xs ++ y ∷ ys) n ≡ Some y
  get_behind [] y ys zero e = refl
  get_behind [] y ys (suc n) e = absurd (omega arith)
  get_behind (x ∷ xs) y ys zero e = absurd (omega arith)
  get_behind (x ∷ xs) y ys (suc n) e = get_behind xs y ys n (omega arith)

  -- where a list begins with some of its elements and one more, that is the next
  pub next_is : (all : List A) (made : ℕ) (y : A) (more : List A) → made ≤ length all
      → IsPrefix (take made all ++ y ∷ more) all → slice_get all made ≡ Some y
  next_is all made y more l starts =
      ap (λ xs. slice_get xs made) (sym starts.1 ∙ append_assoc (take made all) (y ∷ more) starts.0)
      ∙ get_behind (take made all) y (more ++ starts.0) made (length-take-le made all l)

-- ---- a program against the points, one by one

-- the point that reads of points fall back on
abbrev pub blank : Point
blank = Did 0 (New 0 0) (Made board_name)

-- a point with the next call
pub next_made : (m : ℕ) (points : List Point) (program : List Call) (i made : ℕ) (call : Call) → i < length points
    → calls_by m (take i points) ≡ take made program
    → call ∷ [] ≡ calls_by m (get_or points i blank ∷ []) → slice_get program made ≡ Some call
    → calls_by m (take (i + 1) points) ≡ take (made + 1) program
next_made m points program i made call l so_far is there =
    ap (calls_by m) (take_more points i blank l) ∙ calls_append m (take i points) (get_or points i blank ∷ [])
    ∙ ap (λ xs. calls_by m (take i points) ++ xs) (sym is) ∙ ap (λ xs. xs ++ call ∷ []) so_far
    ∙ sym (take_more program made call (slice_get_within program made call there)
    ∙ ap (λ c. take made program ++ c ∷ []) (get_or_from_slice_get program made call call there))

-- a point with no call of the mutator
pub none_made : (m : ℕ) (points : List Point) (program : List Call) (i made : ℕ) → i < length points
    → calls_by m (take i points) ≡ take made program
    → [] ≡ calls_by m (get_or points i blank ∷ []) → calls_by m (take (i + 1) points) ≡ take made program
none_made m points program i made l so_far is =
    ap (calls_by m) (take_more points i blank l) ∙ calls_append m (take i points) (get_or points i blank ∷ [])
    ∙ ap (λ xs. calls_by m (take i points) ++ xs) (sym is) ∙ append-nil (calls_by m (take i points)) ∙ so_far

-- a point with another call than the next
pub other_made : (m : ℕ) (points : List Point) (program : List Call) (i made : ℕ) (call : Call) → i < length points
    → calls_by m (take i points) ≡ take made program
    → call ∷ [] ≡ calls_by m (get_or points i blank ∷ []) → made ≤ length program
    → ¬ (slice_get program made ≡ Some call) → ¬ IsPrefix (calls_by m points) program
other_made m points program i made call l so_far is within other starts =
    let p = get_or points i blank in
    let rest = drop (suc i) points in
    let whole : points ≡ take i points ++ p ∷ rest = sym (take-append-drop i points)
    ∙ ap (λ ps. take i points ++ ps) (drop-cons points i blank l) in
    let calls : calls_by m points ≡ take made program ++ call ∷ calls_by m rest =
    ap (calls_by m) whole ∙ calls_append m (take i points) (p ∷ rest) ∙ ap (λ xs. xs ++ calls_by m (p ∷ rest)) so_far
    ∙ ap (λ xs. take made program ++ xs) (calls_append m (p ∷ []) rest ∙ ap (λ xs. xs ++ calls_by m rest) (sym is)) in
    other (next_is program made call (calls_by m rest) within (subst (λ xs. IsPrefix xs program) calls starts))
