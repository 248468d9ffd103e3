-- Which mutators a legal history answers, and to which of their calls.
use mathlib.Core.List.{IsPrefix}
use Rattle.std.proofs.Common.{◌≡◌, ℕ, zero, suc, ◌+◌, ◌<◌, List, [], ◌∷◌, length, slice_get, Some, sym, ap, subst, refl}
use Rattle.std.proofs.Common.{arith, eq-eqb, ne_eqb, length-set}
use Rattle.std.proofs.lemmas.Option.{none-some}
use Rattle.mako_words.specs.declared.name.Name.{Name}
use Rattle.mako_words.specs.declared.value.Value.{Value}
use Rattle.mako_model.specs.declared.call.Call.{Call}
use Rattle.mako_model.specs.declared.call.Call.TheVariants as call
use Rattle.mako_model.specs.declared.reply.Reply.{Reply}
use Rattle.mako_model.specs.declared.reply.Reply.TheVariants as reply
use Rattle.mako_model.specs.declared.point.Point.{Point}
use Rattle.mako_model.specs.declared.point.Point.TheVariants.{Did}
use Rattle.mako_model.specs.Fronts.{calls_by}
use Rattle.mako_model.specs.Heaps.{Heap}
use Rattle.mako_model.specs.Lawful.{IsLawfulReply}
use Rattle.mako_model.proofs.Changes.{Change, Nothing, Snapped, Rooted, Written, New}
use Rattle.mako_model.proofs.Lists.{cell}

-- ---- the calls of a mutator

pub own_calls : (m n : ℕ) (c : Call) (r : Reply) (points : List Point) → n ≡ m
    → calls_by m (Did n c r ∷ points) ≡ c ∷ calls_by m points
own_calls m n c r points e = let is = eq-eqb n m e in rw is refl

pub other_calls : (m n : ℕ) (c : Call) (r : Reply) (points : List Point) → (n ≡ m → ⊥)
    → calls_by m (Did n c r ∷ points) ≡ calls_by m points
other_calls m n c r points other = let is = ne_eqb n m other in rw is refl

-- the calls of the mutators from that one on are prefixes of the programs
abbrev pub FollowsFrom : ℕ → List (List Call) → List Point → Type 0
FollowsFrom first programs points = (i m : ℕ) (program : List Call) → m ≡ first + i
    → slice_get programs i ≡ Some program → IsPrefix (calls_by m points) program

-- ---- an answer is to a mutator that has roots

pub rows_kept : (h after : Heap) (made : List Name) → Change h after made → length after.roots ≡ length h.roots
rows_kept h after made (Nothing e none) = ap (λ (s : Heap). length s.roots) e
rows_kept h after made (Snapped e none) = ap (λ (s : Heap). length s.roots) e
rows_kept h after made (Rooted m q v root hand e none) =
    subst (λ (s : Heap). length s.roots ≡ length h.roots) (sym e) (length-set h.roots m _)
rows_kept h after made (Written m q name fields i v refers hand e none) = ap (λ (s : Heap). length s.roots) e
rows_kept h after made (New m q name fields root fresh e one) =
    subst (λ (s : Heap). length s.roots ≡ length h.roots) (sym e) (length-set h.roots m _)

pub row_within : (rows : List (List Value)) (m q : ℕ) (v : Value) → cell rows m q ≡ Some v → m < length rows
row_within [] m q v e = absurd (none-some v e)
row_within (row ∷ rows) zero q v e = omega arith
row_within (row ∷ rows) (suc m) q v e = let l = row_within rows m q v e in omega arith

pub reply_within : (h : Heap) (m : ℕ) (c : Call) (r : Reply) → IsLawfulReply h m c r → m < length h.roots
reply_within h m (call.New root fields) (reply.Made name) l = row_within h.roots m root l.0.0 l.0.1
reply_within h m (call.New root fields) reply.Full l = row_within h.roots m root l.0 l.1
reply_within h m (call.Num root x) (reply.Value v) l = row_within h.roots m root l.0.0 l.0.1
reply_within h m (call.CopyRoot to from) (reply.Value v) l = row_within h.roots m to l.0.0 l.0.1
reply_within h m (call.DropRoot root) reply.Done l = row_within h.roots m root l.0 l.1
reply_within h m (call.Show root) (reply.Value v) l = row_within h.roots m root v l
reply_within h m (call.Get to from field) (reply.Value v) l = row_within h.roots m to l.0.0 l.0.1
reply_within h m (call.Put to field from) reply.Done l = row_within h.roots m from l.0.0 l.0.1
reply_within h m (call.Get to from field) reply.NoRef l = row_within h.roots m to l.0.0 l.0.1
reply_within h m (call.Put to field from) reply.NoRef l = row_within h.roots m from l.0.0 l.0.1
reply_within h m (call.Get to from field) reply.NoField l = row_within h.roots m to l.0.0 l.0.1
reply_within h m (call.Put to field from) reply.NoField l = row_within h.roots m from l.0.0 l.0.1
reply_within h m call.Collect (reply.Cycle k) l = l.0
reply_within h m call.Collect reply.Spent l = l.0
reply_within h m c r l = absurd l
