-- What a point leaves of what other mutators know.
use Rattle.std.proofs.Common.{◌≡◌, ◌≢◌, ℕ, ◌<◌, ◌==◌, ⊎_elim, true, false, List, [], ◌∷◌, ◌++◌, length, map, set}
use Rattle.std.proofs.Common.{replicate, Some, None, sym, ap, subst, refl, ◌∙◌, arith, append-nil, length-set, cond}
use Rattle.std.proofs.lemmas.Bool.{ne_eqb}
use Rattle.std.proofs.Common.{eq-eqb}
use Rattle.std.proofs.lemmas.List.{map-append}
use Rattle.std.proofs.lemmas.Option.{none-some, same_Some}
use Rattle.mako_words.specs.declared.name.Name.{Name}
use Rattle.mako_words.specs.declared.value.Value.{Value}
use Rattle.mako_words.specs.declared.value.Value.TheVariants as value
use Rattle.mako_model.specs.declared.call.Call.{Call}
use Rattle.mako_model.specs.declared.call.Call.TheVariants as call
use Rattle.mako_model.specs.declared.reply.Reply.{Reply}
use Rattle.mako_model.specs.declared.reply.Reply.TheVariants as reply
use Rattle.mako_model.specs.declared.point.Point.{Point}
use Rattle.mako_model.specs.declared.point.Point.TheVariants.{Did, Snap}
use Rattle.mako_model.specs.Fronts.{answered_by, replies_to}
use Rattle.mako_model.specs.Heaps.{Heap, root_of, fields_of, with_root, with_fields}
use Rattle.mako_model.specs.Lawful.{IsLawful, IsLawfulReply, heap_after, heap_replied}
use Rattle.mako_model.proofs.Changes.{put_writes}
use Rattle.mako_model.proofs.Lookups.{root_other, fields_same, fields_other, name_cases}
use Rattle.mako_call.specs.declared.object.Access.{Access}
use Rattle.mako_call.specs.declared.object.Access.TheVariants.{Get as Gets, Put as Puts}
use Rattle.mako_call.specs.declared.object.Get.{Get as GetArgs}
use Rattle.mako_call.specs.declared.object.Put.{Put as PutArgs}
use Rattle.mako_call.specs.declared.call_stage.CallStage.{CallStage}
use Rattle.mako_call.specs.declared.call_stage.CallStage.TheVariants.{Arriving, Rooting, Entering, Moving, Getting}
use Rattle.mako_call.specs.declared.call_stage.CallStage.TheVariants.{Putting, Allocating, Asking, Leaving, Ended}
use Rattle.mako_call.specs.declared.rooting.RootStage.{RootStage}
use Rattle.mako_call.specs.declared.rooting.RootStage.TheVariants.{StoringCopied, LoadingValue, LoadingPhase}
use Rattle.mako_call.specs.declared.getting.GetStage.{GetStage}
use Rattle.mako_call.specs.declared.getting.GetStage.TheVariants.{LoadingHeader as GetHeader, LoadingField as GetField}
use Rattle.mako_call.specs.declared.getting.GetStage.TheVariants.{StoringRoot as StoringGot}
use Rattle.mako_call.specs.declared.putting.PutStage.{PutStage}
use Rattle.mako_call.specs.declared.putting.PutStage.TheVariants.{LoadingHeader as PutHeader, LoadingOld}
use Rattle.mako_call.specs.declared.putting.PutStage.TheVariants.{LookingAtBarrier, StoringBarrier, StoringField}
use Rattle.mako_mutator.specs.declared.progress.Task.{Task}
use Rattle.mako_mutator.specs.declared.progress.Task.TheVariants.{Attempting, Awaiting, Finishing, Ended as TaskEnded}
use Rattle.mako_state.specs.Says.{AccessSays, HasMore, RootSays, GetSays, PutSays, StageSays, TaskSays}

-- ---- the heap

-- the roots of mutator i, and how many fields objects have
pub record Preserves (h after : Heap) (i : ℕ) : Type 0 where
  pub roots : (q : ℕ) → root_of after i q ≡ root_of h i q
  pub more : (object : Name) (field : ℕ) → HasMore h object field → HasMore after object field

same_heap : (h : Heap) (i : ℕ) → Preserves h h i
same_heap h i = record { roots = λ q. refl; more = λ object field m. m }

more_written : (h : Heap) (name : Name) (fields : List Value) (j : ℕ) (v : Value) → fields_of h name ≡ Some fields →
    (object : Name) (field : ℕ) → HasMore h object field → HasMore (with_fields h name (set fields j v)) object field
more_written h name fields j v are object field m =
    ⊎_elim
    (λ t. let e : fields ≡ m.0 = same_Some fields m.0 (sym are ∙ ap (fields_of h) (sym t.0) ∙ m.1) in
    let l = m.2 in (
      set fields j v,
      ap (fields_of (with_fields h name (set fields j v))) t.0 ∙ fields_same h name (set fields j v),
      (let more : field < length (set fields j v) = omega (arith, length-set fields j v, ap length e) in more),
    ))
    (λ t. (m.0, fields_other h name (set fields j v) object t.0 ∙ m.1, m.2)) (name_cases object name)

more_new : (h : Heap) (name : Name) (fields : List Value) → fields_of h name ≡ None →
    (object : Name) (field : ℕ) → HasMore h object field → HasMore (with_fields h name fields) object field
more_new h name fields fresh object field m = (
  m.0,
  fields_other h name fields object (λ same. none-some m.0 (sym fresh ∙ ap (fields_of h) (sym same) ∙ m.1))
      ∙ m.1,
  m.2,
)

rooted : (h : Heap) (m q i : ℕ) (v : Value) → i ≢ m → Preserves h (with_root h m q v) i
rooted h m q i v other = record {
  roots = λ p. root_other h m q i p v (λ same. absurd (other same));
  more = λ object field more. more;
}

-- a lawful reply to mutator m
preserves_reply : (h : Heap) (m i : ℕ) (c : Call) (r : Reply) → i ≢ m → IsLawfulReply h m c r →
    Preserves h (heap_replied h m c r) i
preserves_reply h m i (call.New root fields) (reply.Made name) other l =
    let k : Heap = with_fields h name (replicate fields value.Null) in record {
      roots = λ p. root_other k m root i p (value.Ref name) (λ same. absurd (other same));
      more = λ object field more. more_new h name (replicate fields value.Null) l.1 object field more;
    }
preserves_reply h m i (call.New root fields) reply.Full other l = same_heap h i
preserves_reply h m i (call.Num root x) (reply.Value v) other l = rooted h m root i v other
preserves_reply h m i (call.CopyRoot to from) (reply.Value v) other l = rooted h m to i v other
preserves_reply h m i (call.DropRoot root) reply.Done other l = rooted h m root i value.Null other
preserves_reply h m i (call.Show root) (reply.Value v) other l = same_heap h i
preserves_reply h m i (call.Get to from field) (reply.Value v) other l = rooted h m to i v other
preserves_reply h m i (call.Put to field from) reply.Done other l =
    subst (λ k. Preserves h k i) (sym (put_writes h m to field from l.1.0 l.1.1 l.0.0 l.1.2 l.0.1)) (record {
      roots = λ p. refl;
      more = more_written h l.1.0 l.1.1 field l.0.0 l.1.2.fields_are;
    })
preserves_reply h m i (call.Get to from field) reply.NoRef other l = same_heap h i
preserves_reply h m i (call.Put to field from) reply.NoRef other l = same_heap h i
preserves_reply h m i (call.Get to from field) reply.NoField other l = same_heap h i
preserves_reply h m i (call.Put to field from) reply.NoField other l = same_heap h i
preserves_reply h m i call.Collect (reply.Cycle k) other l = same_heap h i
preserves_reply h m i call.Collect reply.Spent other l = same_heap h i
preserves_reply h m i c r other l = absurd l

pub preserves : (h : Heap) (m i : ℕ) (c : Call) (r : Reply) → i ≢ m → IsLawful h (Did m c r) →
    Preserves h (heap_after h (Did m c r)) i
preserves h m i c r other l = preserves_reply h m i c r other l

-- ---- what a view says

module _ (h after : Heap) (i : ℕ) (p : Preserves h after i) where
  there : (q : ℕ) (v : Value) → root_of h i q ≡ Some v → root_of after i q ≡ Some v
  there q v e = p.roots q ∙ e

  access_kept : (c : Call) (object : Name) (a : Access) → AccessSays h i c object a → AccessSays after i c object a
  access_kept (call.Get to from field) object (Gets get) s = there from (value.Ref object) s
  access_kept (call.Put to field from) object (Puts put) s = (there to (value.Ref object) s.0, there from put.value s.1)
  access_kept c object a s = s

  root_kept : (c : Call) (s : RootStage) → RootSays h i c s → RootSays after i c s
  root_kept (call.CopyRoot to from) (StoringCopied root v) s = there from v s
  root_kept (call.Put to field from) (LoadingValue object j q) s = there to (value.Ref object) s
  root_kept (call.Put to field from) (LoadingPhase object j v) s = (there to (value.Ref object) s.0, there from v s.1)
  root_kept c stage s = s

  get_kept : (c : Call) (object : Name) (get : GetArgs) (s : GetStage) → GetSays h i c object get s →
      GetSays after i c object get s
  get_kept c object get GetHeader s = access_kept c object (Gets get) s
  get_kept c object get GetField s = (access_kept c object (Gets get) s.0, p.more object get.field s.1)
  get_kept c object get (StoringGot v) s = tt

  put_kept : (c : Call) (object : Name) (put : PutArgs) (s : PutStage) → PutSays h i c object put s →
      PutSays after i c object put s
  put_kept c object put PutHeader s = access_kept c object (Puts put) s
  put_kept c object put LoadingOld s = (access_kept c object (Puts put) s.0, p.more object put.field s.1)
  put_kept c object put (LookingAtBarrier old) s = (access_kept c object (Puts put) s.0, p.more object put.field s.1)
  put_kept c object put (StoringBarrier old) s = (access_kept c object (Puts put) s.0, p.more object put.field s.1)
  put_kept c object put StoringField s = (access_kept c object (Puts put) s.0, p.more object put.field s.1)

  stage_kept : (c : Call) (s : CallStage) → StageSays h i c s → StageSays after i c s
  stage_kept c Arriving s = tt
  stage_kept c (Rooting stage) s = root_kept c stage s
  stage_kept c (Entering e stage) s = access_kept c e.object e.access s
  stage_kept c (Moving e stage) s = access_kept c e.object e.access s
  stage_kept c (Getting at get stage) s = get_kept c at.object get stage s
  stage_kept c (Putting at put stage) s = put_kept c at.object put stage s
  stage_kept c (Allocating stage) s = tt
  stage_kept c (Asking stage) s = tt
  stage_kept c (Leaving stage) s = tt
  stage_kept c (Ended outcome) s = tt

  pub says_kept : (t : Task) → TaskSays h i t → TaskSays after i t
  says_kept (Attempting c) s = stage_kept c.call c.stage s
  says_kept (Awaiting c) s = tt
  says_kept Finishing s = tt
  says_kept TaskEnded s = tt

-- ---- replies

answered_append : (m : ℕ) (xs ys : List Point) → answered_by m (xs ++ ys) ≡ answered_by m xs ++ answered_by m ys
answered_append m [] ys = refl
answered_append m (Snap cycle ∷ xs) ys = answered_append m xs ys
answered_append m (Did i c r ∷ xs) ys =
    elim (i == m) as
    (λ b. cond b ((c, r) ∷ answered_by m (xs ++ ys)) (answered_by m (xs ++ ys)) ≡ cond b
    ((c, r) ∷ answered_by m xs) (answered_by m xs) ++ answered_by m ys) [
      | true ↦ ap (λ pairs. (c, r) ∷ pairs) (answered_append m xs ys)
      | false ↦ answered_append m xs ys
    ]

replies_append : (m : ℕ) (xs ys : List Point) → replies_to m (xs ++ ys) ≡ replies_to m xs ++ replies_to m ys
replies_append m xs ys = ap (map (λ (a : Call × Reply). a.1)) (answered_append m xs ys) ∙ map-append
    (λ (a : Call × Reply). a.1) (answered_by m xs) (answered_by m ys)

pub own_reply : (m : ℕ) (c : Call) (r : Reply) (history : List Point) →
    replies_to m (history ++ Did m c r ∷ []) ≡ replies_to m history ++ r ∷ []
own_reply m c r history =
    replies_append m history (Did m c r ∷ [])
    ∙ ap (λ b. replies_to m history ++ map (λ (a : Call × Reply). a.1) (cond b ((c, r) ∷ []) [])) (eq-eqb m m refl)

pub other_reply : (m i : ℕ) (c : Call) (r : Reply) (history : List Point) → i ≢ m →
    replies_to i (history ++ Did m c r ∷ []) ≡ replies_to i history
other_reply m i c r history other =
    replies_append i history (Did m c r ∷ [])
    ∙ ap (λ b. replies_to i history ++ map (λ (a : Call × Reply). a.1) (cond b ((c, r) ∷ []) []))
    (ne_eqb m i (λ e. other (sym e)))
    ∙ append-nil (replies_to i history)
