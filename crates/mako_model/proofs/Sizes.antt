-- Objects stay small, where calls ask for small ones.
use Rattle.std.proofs.Common.{ℕ, ◌≤◌, ⊎_elim, List, length, replicate, set, sym, subst, refl, arith, length-set}
use Rattle.std.specs.FinMap as finite
use Rattle.std.proofs.lemmas.List.{length-replicate}
use Rattle.mako_words.specs.declared.name.Name.{Name}
use Rattle.mako_words.specs.declared.value.Value.{Value}
use Rattle.mako_words.specs.declared.value.Value.TheVariants as value
use Rattle.mako_model.specs.declared.call.Call.{Call}
use Rattle.mako_model.specs.declared.call.Call.TheVariants as call
use Rattle.mako_model.specs.declared.reply.Reply.{Reply}
use Rattle.mako_model.specs.declared.reply.Reply.TheVariants as reply
use Rattle.mako_model.specs.declared.point.Point.{Point}
use Rattle.mako_model.specs.declared.point.Point.TheVariants.{Did, Snap}
use Rattle.mako_model.specs.Heaps.{Heap, board_name, with_fields}
use Rattle.mako_model.specs.Lawful.{IsLawful, IsLawfulReply, heap_after, heap_replied}
use Rattle.mako_model.specs.Legal.{opening_of}
use Rattle.mako_model.specs.Sizes.{ObjectsAreSmall, IsSmallCall, IsSmallPoint, PointsKeepSmall}
use Rattle.mako_model.proofs.Changes.{put_writes}
use Rattle.mako_model.proofs.Closed.{empty_has}
use Rattle.mako_model.proofs.Lookups.{fields_cases}

small_with : (h : Heap) (x : Name) (more : List Value) → length more ≤ 14 → ObjectsAreSmall h
    → ObjectsAreSmall (with_fields h x more)
small_with h x more few all name fields are =
    ⊎_elim (λ t. subst (λ fs. length fs ≤ 14) t.1 few) (λ t. all name fields t.1)
    (fields_cases h x more name fields are)

small_replied : (h : Heap) (m : ℕ) (c : Call) (r : Reply) → IsLawfulReply h m c r → IsSmallCall c → ObjectsAreSmall h
    → ObjectsAreSmall (heap_replied h m c r)
small_replied h m (call.New q fields) (reply.Made name) l small all =
    small_with h name (replicate fields value.Null) (omega (arith, length-replicate fields value.Null)) all
small_replied h m (call.Put to field from) reply.Done l small all =
    let writes = put_writes h m to field from l.1.0 l.1.1 l.0.0 l.1.2 l.0.1 in
    let few = all l.1.0 l.1.1 l.1.2.fields_are in
    subst ObjectsAreSmall (sym writes)
    (small_with h l.1.0 (set l.1.1 field l.0.0) (omega (arith, length-set l.1.1 field l.0.0)) all)
small_replied h m (call.Num q x) (reply.Value v) l small all = all
small_replied h m (call.CopyRoot to from) (reply.Value v) l small all = all
small_replied h m (call.DropRoot q) reply.Done l small all = all
small_replied h m (call.Get to from field) (reply.Value v) l small all = all
small_replied h m c r l small all = all

small_after : (h : Heap) (p : Point) → IsLawful h p → IsSmallPoint p → ObjectsAreSmall h
    → ObjectsAreSmall (heap_after h p)
small_after h (Did m c r) l small all = small_replied h m c r l small all
small_after h (Snap cycle) l small all = all

pub points_keep_small : PointsKeepSmall
points_keep_small = record {
  opening = λ w few name fields are.
      let bare : Heap = record (opening_of w) { objects = finite.empty } in
      ⊎_elim
      (λ t. subst (λ fs. length fs ≤ 14) t.1 (omega (arith, length-replicate w.board value.Null)))
      (λ t. absurd (empty_has bare name refl (fields, t.1)))
      (fields_cases bare board_name (replicate w.board value.Null) name fields are);
  point = small_after;
}
