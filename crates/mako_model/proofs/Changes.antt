-- What a lawful point changes: nothing, one root, one field, or it makes one object.
use Rattle.std.proofs.Common.{◌≡◌, ℕ, ◌+◌, inl, inr, List, [], ◌∷◌, set, replicate, Some, None, ap, refl, sym, subst}
use Rattle.std.proofs.Common.{◌∙◌, unwrap_or}
use Rattle.mako_words.specs.declared.name.Name.{Name}
use Rattle.mako_words.specs.declared.value.Value.{Value}
use Rattle.mako_words.specs.declared.value.Value.TheVariants as value
use Rattle.mako_model.specs.declared.call.Call.{Call}
use Rattle.mako_model.specs.declared.call.Call.TheVariants as call
use Rattle.mako_model.specs.declared.reply.Reply.{Reply}
use Rattle.mako_model.specs.declared.reply.Reply.TheVariants as reply
use Rattle.mako_model.specs.declared.point.Point.{Point}
use Rattle.mako_model.specs.declared.point.Point.TheVariants.{Did, Snap}
use Rattle.mako_model.specs.Heaps.{Heap, fields_of, root_of, with_root, with_fields}
use Rattle.mako_model.specs.Lawful.{HasRoot, RefersTo, IsNoRef, IsAtHand, IsLawful, IsLawfulReply, heap_replied}
use Rattle.mako_model.specs.Lawful.{heap_after, with_field}
use Rattle.mako_model.specs.Dead.{made_by}

-- the heap that a point leaves, and the names that it makes
pub data Change (h after : Heap) (made : List Name) : Type 0 where
  Nothing : after ≡ h → made ≡ [] → Change h after made
  Snapped : after ≡ record h { snaps = h.snaps + 1 } → made ≡ [] → Change h after made
  Rooted : (m q : ℕ) (v : Value) → HasRoot h m q → IsAtHand h v → after ≡ with_root h m q v → made ≡ []
      → Change h after made
  Written : (m q : ℕ) (name : Name) (fields : List Value) (i : ℕ) (v : Value) → RefersTo h m q name fields
      → IsAtHand h v → after ≡ with_fields h name (set fields i v) → made ≡ [] → Change h after made
  New : (m q : ℕ) (name : Name) (fields : ℕ) → HasRoot h m q → fields_of h name ≡ None
      → after ≡ with_root (with_fields h name (replicate fields value.Null)) m q (value.Ref name) → made ≡ name ∷ []
      → Change h after made

-- what a `Put` writes, where the roots are known
pub put_writes : (h : Heap) (m to field from : ℕ) (name : Name) (fields : List Value) (v : Value)
    → RefersTo h m to name fields → root_of h m from ≡ Some v
    → heap_after h (Did m (call.Put to field from) reply.Done) ≡ with_fields h name (set fields field v)
put_writes h m to field from name fields v at is =
    ap (λ o. with_field h o field (root_of h m from)) at.root_is
    ∙ ap (λ o. with_field h (Some (value.Ref name)) field o) is
    ∙ ap (λ o. with_fields h name (set (unwrap_or o []) field v)) at.fields_are

number_no_ref : (v : Value) (x : ℕ) → v ≡ value.Num x → IsNoRef v
number_no_ref v x e = subst IsNoRef (sym e) tt

change_of_reply : (h : Heap) (m : ℕ) (c : Call) (r : Reply) → IsLawfulReply h m c r
    → Change h (heap_replied h m c r) (made_by (Did m c r))
change_of_reply h m (call.New root fields) (reply.Made name) l = New m root name fields l.0 l.1 refl refl
change_of_reply h m (call.New root fields) reply.Full l = Nothing refl refl
change_of_reply h m (call.Num root x) (reply.Value v) l = Rooted m root v l.0 (inl (number_no_ref v x l.1)) refl refl
change_of_reply h m (call.CopyRoot to from) (reply.Value v) l = Rooted m to v l.0 (inr (inl (m, from, l.1))) refl refl
change_of_reply h m (call.DropRoot root) reply.Done l = Rooted m root value.Null l (inl tt) refl refl
change_of_reply h m (call.Show root) (reply.Value v) l = Nothing refl refl
change_of_reply h m (call.Get to from field) (reply.Value v) l =
    Rooted m to v l.0 (inr (inr (m, from, field, l.1))) refl refl
change_of_reply h m (call.Put to field from) reply.Done l =
    Written m to l.1.0 l.1.1 field l.0.0 l.1.2 (inr (inl (m, from, l.0.1)))
    (put_writes h m to field from l.1.0 l.1.1 l.0.0 l.1.2 l.0.1) refl
change_of_reply h m (call.Get to from field) reply.NoRef l = Nothing refl refl
change_of_reply h m (call.Put to field from) reply.NoRef l = Nothing refl refl
change_of_reply h m (call.Get to from field) reply.NoField l = Nothing refl refl
change_of_reply h m (call.Put to field from) reply.NoField l = Nothing refl refl
change_of_reply h m call.Collect (reply.Cycle k) l = Nothing refl refl
change_of_reply h m call.Collect reply.Spent l = Nothing refl refl
change_of_reply h m c r l = absurd l

-- each lawful point makes one of these changes
pub change_of : (h : Heap) (p : Point) → IsLawful h p → Change h (heap_after h p) (made_by p)
change_of h (Did m c r) l = change_of_reply h m c r l
change_of h (Snap cycle) l = Snapped refl refl

-- ---- what a reply puts into a root

pub copy_at_hand : (h : Heap) (m to from : ℕ) (v : Value) (c : Call) (r : Reply) → c ≡ call.CopyRoot to from
    → r ≡ reply.Value v → IsLawfulReply h m c r → IsAtHand h v
copy_at_hand h m to from v c r e f l =
    let at : IsLawfulReply h m (call.CopyRoot to from) (reply.Value v) =
    subst (λ q. IsLawfulReply h m (call.CopyRoot to from) q) f (subst (λ d. IsLawfulReply h m d r) e l) in
    inr (inl (m, from, at.1))

pub field_at_hand : (h : Heap) (m to from field : ℕ) (v : Value) (c : Call) (r : Reply) → c ≡ call.Get to from field
    → r ≡ reply.Value v → IsLawfulReply h m c r → IsAtHand h v
field_at_hand h m to from field v c r e f l =
    let at : IsLawfulReply h m (call.Get to from field) (reply.Value v) =
    subst (λ q. IsLawfulReply h m (call.Get to from field) q) f (subst (λ d. IsLawfulReply h m d r) e l) in
    inr (inr (m, from, field, at.1))
