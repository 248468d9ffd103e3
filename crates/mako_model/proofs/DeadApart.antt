-- What was not reachable at a snapshot stays apart: nothing else ever leads to it again.
use Rattle.std.proofs.Common.{◌≡◌, ℕ, ◌+◌, ◌<◌, ◌≤◌, ◌⊎◌, ⊎_elim, List, [], ◌∷◌, ◌++◌, Contains, set, replicate}
use Rattle.std.proofs.Common.{slice_get, Option, Some, None, sym, ap, subst, refl, ◌∙◌, arith, append-nil}
use Rattle.std.proofs.Common.{eq-or-lt_of_le}
use Rattle.std.specs.List.{fold}
use Rattle.std.proofs.lemmas.Option.{none-some}
use Rattle.std.proofs.lemmas.List.Sums.{fold-append}
use Rattle.mako_words.specs.declared.name.Name.{Name}
use Rattle.mako_words.specs.declared.value.Value.{Value}
use Rattle.mako_words.specs.declared.value.Value.TheVariants as value
use Rattle.mako_model.specs.declared.call.Call.{Call}
use Rattle.mako_model.specs.declared.call.Call.TheVariants as call
use Rattle.mako_model.specs.declared.reply.Reply.{Reply}
use Rattle.mako_model.specs.declared.reply.Reply.TheVariants as reply
use Rattle.mako_model.specs.declared.point.Point.{Point}
use Rattle.mako_model.specs.declared.point.Point.TheVariants.{Did, Snap}
use Rattle.mako_model.specs.Heaps.{Heap, fields_of, root_of, with_root, with_fields}
use Rattle.mako_model.specs.Lawful.{IsNoRef, IsAtHand, heap_after, heap_replied, with_field}
use Rattle.mako_model.specs.Legal.{Facts, opening_of, state_of, AreLawful, IsLegal}
use Rattle.mako_model.specs.Reachable.{StandsInField, LeadsTo, IsReachable}
use Rattle.mako_model.specs.Dead.{made_by, names_made, IsDead}
use Rattle.mako_model.specs.Laws.{HasObject, DeadStandApart}
use Rattle.mako_model.proofs.Lists.{get_set_cases, get_replicate}
use Rattle.mako_model.proofs.Lookups.{fields_cases, root_cases}
use Rattle.mako_model.proofs.Changes.{Change, Nothing, Snapped, Rooted, Written, New, change_of}
use Rattle.mako_model.proofs.Histories.{lawful_rest, legal_prefix, legal_at, kept_along, made_stays}
use Rattle.mako_model.proofs.Closed.{made_are_objects, has_still, no_null_ref, same_ref}
use Rattle.mako_model.proofs.Splits.{split_of_append}

-- the names of these objects stand in no root, and in no field of any other object
pub record StandApart (lost : Name → Type 0) (h : Heap) : Type 0 where
  pub made : (x : Name) → lost x → HasObject h x
  pub roots : (m q : ℕ) (x : Name) → root_of h m q ≡ Some (value.Ref x) → ¬ lost x
  pub fields : (object x : Name) → StandsInField h object x → ¬ lost object → ¬ lost x

module _ (lost : Name → Type 0) where
  not_at_hand : (h : Heap) (v : Value) (x : Name) → StandApart lost h → IsAtHand h v → v ≡ value.Ref x → ¬ lost x
  not_at_hand h v x apart at e =
      ⊎_elim (λ plain. absurd (subst IsNoRef e plain))
      (λ held. ⊎_elim (λ t. apart.roots t.0 t.1 x (t.2 ∙ ap (λ (u : Value). Some u) e))
      (λ t. apart.fields t.3.0 x (
        t.3.1,
        t.2,
        t.3.2.fields_are,
        t.3.3
            ∙ ap (λ (u : Value). Some u) e,
      ) (apart.roots t.0 t.1 t.3.0 t.3.2.root_is)) held) at

  apart_rooted : (h : Heap) (m q : ℕ) (v : Value) → StandApart lost h → ((x : Name) → v ≡ value.Ref x → ¬ lost x)
      → StandApart lost (with_root h m q v)
  apart_rooted h m q v apart names = record {
    made = apart.made;
    roots = λ n p x e. ⊎_elim (λ t. names x t.2) (λ t. apart.roots n p x t) (root_cases h m q n p v (value.Ref x) e);
    fields = apart.fields;
  }

  apart_written : (h : Heap) (x : Name) (fields : List Value) → StandApart lost h
      → (¬ lost x → (i : ℕ) (y : Name) → slice_get fields i ≡ Some (value.Ref y) → ¬ lost y)
      → StandApart lost (with_fields h x fields)
  apart_written h x fields apart names = record {
    made = λ y is. has_still h x fields y (apart.made y is);
    roots = apart.roots;
    fields = λ object y at kept.
        ⊎_elim (λ t. names (subst (λ o. ¬ lost o) t.0 kept) at.1 y (ap (λ (fs : List Value). slice_get fs at.1) t.1
        ∙ at.3))
        (λ t. apart.fields object y (at.0, at.1, t.1, at.3) kept) (fields_cases h x fields object at.0 at.2);
  }

  apart_changed : (h after : Heap) (made : List Name) → Change h after made → StandApart lost h → StandApart lost after
  apart_changed h after made (Nothing e none) apart = subst (StandApart lost) (sym e) apart
  apart_changed h after made (Snapped e none) apart =
      subst (StandApart lost) (sym e) (record { made = apart.made; roots = apart.roots; fields = apart.fields })
  apart_changed h after made (Rooted m q v root at e none) apart =
      subst (StandApart lost) (sym e) (apart_rooted h m q v apart (λ x is. not_at_hand h v x apart at is))
  apart_changed h after made (Written m q name fields i v refers at e none) apart =
      subst (StandApart lost) (sym e) (apart_written h name (set fields i v) apart (λ kept j y is.
      ⊎_elim (λ t. not_at_hand h v y apart at t.1) (λ t. apart.fields name y (fields, j, refers.fields_are, t.1) kept)
      (get_set_cases fields i j v (value.Ref y) is)))
  apart_changed h after made (New m q name fields root fresh e one) apart =
      let nulls = replicate fields value.Null in
      subst (StandApart lost) (sym e) (apart_rooted (with_fields h name nulls) m q (value.Ref name)
      (apart_written h name nulls apart
      (λ kept i y is. absurd (no_null_ref y (get_replicate fields i value.Null (value.Ref y) is))))
      (λ x is is_lost. none-some _ (sym fresh ∙ ap (fields_of h) (same_ref name x is) ∙ (apart.made x is_lost).1)))

  -- they stay apart through all lawful points
  pub apart_along : (h : Heap) (points : List Point) → AreLawful h points → StandApart lost h
      → StandApart lost (fold heap_after h points)
  apart_along h points all apart =
      kept_along (StandApart lost)
      (λ g p lawful is. apart_changed g (heap_after g p) (made_by p) (change_of g p lawful) is) h points all apart

  never_led_to : (h : Heap) → StandApart lost h → (from x : Name) (path : List Name) → ¬ lost from
      → LeadsTo h from path x → ¬ lost x
  never_led_to h apart from x [] kept leads = subst (λ o. ¬ lost o) leads kept
  never_led_to h apart from x (next ∷ path) kept leads =
      never_led_to h apart next x path (apart.fields from next leads.0 kept) leads.1

  -- so none of them is reachable
  pub never_reached : (h : Heap) → StandApart lost h → (x : Name) → IsReachable h x → ¬ lost x
  never_reached h apart x reached =
      never_led_to h apart reached.first x reached.path
      (apart.roots reached.in_root.0 reached.in_root.1 reached.first reached.in_root.2) reached.leads

-- a path goes on
leads_on : (h : Heap) (from to next : Name) (path : List Name) → LeadsTo h from path to → StandsInField h to next
    → LeadsTo h from (path ++ next ∷ []) next
leads_on h from to next [] leads stands = (subst (λ o. StandsInField h o next) (sym leads) stands, refl)
leads_on h from to next (step ∷ path) leads stands = (leads.0, leads_on h step to next path leads.1 stands)

pub reached_next : (h : Heap) (object x : Name) → IsReachable h object → StandsInField h object x → IsReachable h x
reached_next h object x reached stands = record {
  first = reached.first;
  path = reached.path ++ x ∷ [];
  in_root = reached.in_root;
  leads = leads_on h reached.first object x reached.path reached.leads stands;
}

-- made so far, and not reachable
abbrev pub IsLost : Facts → List Point → Name → Type 0
IsLost w before x = Contains (names_made before) x × ¬ IsReachable (state_of w before) x

-- at a snapshot what is lost stands apart
pub lost_apart : (w : Facts) (before : List Point) → IsLegal w before → StandApart (IsLost w before) (state_of w before)
lost_apart w before legal = record {
  made = λ x lost. (made_are_objects w before legal x).0 lost.0;
  roots = λ m q x e lost. lost.1 (record { first = x; path = []; in_root = (m, q, e); leads = refl });
  fields = λ object x stands kept lost.
      kept (
        (made_are_objects w before legal object).1 (stands.0, stands.2),
        (λ reached. lost.1 (reached_next (state_of w before) object x reached stands)),
      );
}

-- ---- snapshots in order

snaps_with_field : (h : Heap) (o : Option Value) (field : ℕ) (u : Option Value)
    → (with_field h o field u).snaps ≡ h.snaps
snaps_with_field h None field u = refl
snaps_with_field h (Some value.Null) field u = refl
snaps_with_field h (Some (value.Num x)) field u = refl
snaps_with_field h (Some (value.Ref x)) field None = refl
snaps_with_field h (Some (value.Ref x)) field (Some v) = refl

pub snaps_replied : (h : Heap) (m : ℕ) (c : Call) (r : Reply) → (heap_replied h m c r).snaps ≡ h.snaps
snaps_replied h m (call.New root fields) (reply.Made name) = refl
snaps_replied h m (call.Num root x) (reply.Value v) = refl
snaps_replied h m (call.CopyRoot to from) (reply.Value v) = refl
snaps_replied h m (call.DropRoot root) reply.Done = refl
snaps_replied h m (call.Get to from field) (reply.Value v) = refl
snaps_replied h m (call.Put to field from) reply.Done = snaps_with_field h (root_of h m to) field (root_of h m from)
snaps_replied h m c r = refl

-- the number of snapshots never falls
pub snaps_grow : (h : Heap) (points : List Point) → h.snaps ≤ (fold heap_after h points).snaps
snaps_grow h [] = omega arith
snaps_grow h (Did m c r ∷ points) = let more = snaps_grow (heap_replied h m c r) points in
    let same = snaps_replied h m c r in omega arith
snaps_grow h (Snap cycle ∷ points) = let more = snaps_grow (record h { snaps = h.snaps + 1 }) points in omega arith

at_or_after : (a b : ℕ) → a ≤ b → (a ≡ b) ⊎ (a < b)
at_or_after a b l = eq-or-lt_of_le l

-- a cycle whose number is reached has its snapshot
snap_stands_along : (h : Heap) (points : List Point) (cycle : ℕ) → AreLawful h points → h.snaps < cycle
    → cycle ≤ (fold heap_after h points).snaps
    → (before : List Point) × (after : List Point) × (points ≡ before ++ Snap cycle ∷ after)
snap_stands_along h [] cycle all low high = absurd (omega arith)
snap_stands_along h (Did m c r ∷ points) cycle all low high =
    let same = snaps_replied h m c r in
    let rest = snap_stands_along (heap_replied h m c r) points cycle all.1 (omega arith) high in
    (Did m c r ∷ rest.0, rest.1, ap (λ ps. Did m c r ∷ ps) rest.2)
snap_stands_along h (Snap c ∷ points) cycle all low high =
    ⊎_elim (λ e. ([], points, ap (λ k. Snap k ∷ points) (all.0.0 ∙ e)))
    (λ later. let rest = snap_stands_along (record h { snaps = h.snaps + 1 }) points cycle all.1 later high in
    (Snap c ∷ rest.0, rest.1, ap (λ ps. Snap c ∷ ps) rest.2))
    (at_or_after (h.snaps + 1) cycle (omega arith))

pub snap_stands : (w : Facts) (history : List Point) (cycle : ℕ) → IsLegal w history → 0 < cycle
    → cycle ≤ (state_of w history).snaps
    → (before : List Point) × (after : List Point) × (history ≡ before ++ Snap cycle ∷ after)
snap_stands w history cycle legal low high = snap_stands_along (opening_of w) history cycle legal low high

-- the number of a snapshot is that of those before it, and one
pub snap_number : (w : Facts) (before : List Point) (cycle : ℕ) (after : List Point)
    → IsLegal w (before ++ Snap cycle ∷ after) → cycle ≡ (state_of w before).snaps + 1
snap_number w before cycle after legal = (legal_at w before (Snap cycle) after legal).0

pub state_append : (w : Facts) (front rest : List Point)
    → state_of w (front ++ rest) ≡ fold heap_after (state_of w front) rest
state_append w front rest = fold-append heap_after (opening_of w) front rest

snaps_past : (w : Facts) (before : List Point) (cycle : ℕ) (after : List Point)
    → (state_of w before).snaps < (state_of w (before ++ Snap cycle ∷ after)).snaps
snaps_past w before cycle after =
    let grow = snaps_grow (heap_after (state_of w before) (Snap cycle)) after in
    let same : (state_of w (before ++ Snap cycle ∷
    after)).snaps ≡ (fold heap_after (heap_after (state_of w before) (Snap cycle)) after).snaps =
    ap (λ h. h.snaps) (state_append w before (Snap cycle ∷ after)) in
    omega arith

not_before : (w : Facts) (front rest : List Point) (cycle later : ℕ) (front2 rest2 more : List Point)
    → IsLegal w (front ++ Snap cycle ∷ rest) → front2 ++ Snap later ∷ rest2 ≡ front ++ Snap cycle ∷ rest → cycle ≤ later
    → front ≡ front2 ++ more → Snap later ∷ rest2 ≡ more ++ Snap cycle ∷ rest → (more : List Point)
    × (front2 ≡ front ++ more)
not_before w front rest cycle later front2 rest2 [] legal e le is next =
    ([], sym (append-nil front ∙ is ∙ append-nil front2))
not_before w front rest cycle later front2 rest2 (p ∷ more) legal e le is next =
    let first : p ≡ Snap later = cc in
    let past = snaps_past w front2 later more in
    let number = snap_number w front cycle rest legal in
    let number2 : later ≡ (state_of w front2).snaps + 1 =
    snap_number w front2 later rest2 (subst (IsLegal w) (sym e) legal) in
    let same : (state_of w front).snaps ≡ (state_of w (front2 ++ Snap later ∷ more)).snaps =
    ap (λ ps. (state_of w ps).snaps) (is ∙ ap (λ q. front2 ++ q ∷ more) first) in
    absurd (omega arith)

-- the history before a snapshot is that before an earlier one, and more
before_later : (w : Facts) (front rest : List Point) (cycle later : ℕ) (front2 rest2 : List Point)
    → IsLegal w (front ++ Snap cycle ∷ rest) → front2 ++ Snap later ∷ rest2 ≡ front ++ Snap cycle ∷ rest → cycle ≤ later
    → (more : List Point) × (front2 ≡ front ++ more)
before_later w front rest cycle later front2 rest2 legal e le =
    ⊎_elim (λ t. (Snap cycle ∷ t.0, t.1))
    (λ t. not_before w front rest cycle later front2 rest2 t.0 legal e le t.1 t.2)
    (split_of_append front2 (Snap later ∷ rest2) front (Snap cycle) rest e)

-- what is lost stays apart as the history goes on
pub lost_stay_apart : (w : Facts) (before more : List Point) → IsLegal w (before ++ more)
    → StandApart (IsLost w before) (state_of w (before ++ more))
lost_stay_apart w before more legal =
    subst (StandApart (IsLost w before)) (sym (state_append w before more))
    (apart_along (IsLost w before) (state_of w before) more (lawful_rest (opening_of w) before more legal)
    (lost_apart w before (legal_prefix w before more legal)))

-- and stays lost
pub lost_stay : (w : Facts) (before more : List Point) (x : Name) → IsLegal w (before ++ more) → IsLost w before x
    → IsLost w (before ++ more) x
lost_stay w before more x legal lost = (
  made_stays before more x lost.0,
  (λ reached. never_reached (IsLost w before) (state_of w (before ++ more))
      (lost_stay_apart w before more legal) x reached lost),
)

lost_later : (w : Facts) (before more after : List Point) (x : Name) → IsLegal w after → after ≡ before ++ more
    → IsLost w before x → IsLost w after x
lost_later w before more after x legal e lost =
    subst (λ ps. IsLost w ps x) (sym e) (lost_stay w before more x (subst (IsLegal w) e legal) lost)

-- a name that is dead at a snapshot is dead at each later one
pub dead_later : (w : Facts) (history : List Point) (cycle later : ℕ) (x : Name) → IsLegal w history → cycle ≤ later
    → later ≤ (state_of w history).snaps
    → IsDead w history cycle x → IsDead w history later x
dead_later w history cycle later x legal le high dead =
    let numbered = dead.numbered in
    let s = snap_stands w history later legal (omega arith) high in
    let legal2 : IsLegal w (dead.before ++ Snap cycle ∷ dead.after) = subst (IsLegal w) dead.split legal in
    let more = before_later w dead.before dead.after cycle later s.0 s.1 legal2 (sym s.2 ∙ dead.split) le in
    let lost = lost_later w dead.before more.0 s.0 x
    (legal_prefix w s.0 (Snap later ∷ s.1) (subst (IsLegal w) s.2 legal)) more.1 (dead.made, dead.unreached) in
    record { before = s.0; after = s.1; numbered = omega arith; split = s.2; made = lost.0; unreached = lost.1 }

dead_apart_now : (w : Facts) (history : List Point) (cycle : ℕ) (x : Name) → IsLegal w history
    → (dead : IsDead w history cycle x) → StandApart (IsLost w dead.before) (state_of w history)
dead_apart_now w history cycle x legal dead =
    subst (λ ps. StandApart (IsLost w dead.before) (state_of w ps)) (sym dead.split)
    (lost_stay_apart w dead.before (Snap cycle ∷ dead.after) (subst (IsLegal w) dead.split legal))

-- so no dead name stands in a root again, or in a field of an object that is not dead
pub dead_stand_apart : (w : Facts) (history : List Point) (cycle : ℕ) → IsLegal w history
    → DeadStandApart w history cycle
dead_stand_apart w history cycle legal = record {
  roots = λ m q x e dead. (dead_apart_now w history cycle x legal dead).roots m q x e (dead.made, dead.unreached);
  fields = λ object x stands kept dead. (dead_apart_now w history cycle x legal dead).fields object x stands
      (λ lost. kept (record {
        before = dead.before;
        after = dead.after;
        numbered = dead.numbered;
        split = dead.split;
        made = lost.0;
        unreached = lost.1;
      }))
      (dead.made, dead.unreached);
}
