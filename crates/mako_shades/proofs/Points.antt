-- Steps that tracing reads through the history alone: what it does not read, deciding points, and the store of a field.
use Rattle.std.proofs.Common.{◌≡◌, ℕ, ◌<◌, ◌⊎◌, inl, inr, ⊎_elim, List, [], ◌∷◌, ◌++◌, Contains, flat_map, length, set}
use Rattle.std.proofs.Common.{slice_get, Some, sym, ap, subst, refl, ◌∙◌, append-nil, append_assoc}
use Rattle.std.proofs.lemmas.Bool.{cases_eq}
use Rattle.std.proofs.lemmas.Option.{same_Some}
use Rattle.std.proofs.lemmas.List.Concat.{flat_map-append}
use Rattle.std.proofs.lemmas.List.Elements.{Contains-append_cases}
use Rattle.mako_words.specs.declared.name.Name.{Name}
use Rattle.mako_words.specs.declared.value.Value.{Value}
use Rattle.mako_words.specs.Entries.{entry_at}
use Rattle.mako_shape.specs.declared.numbers.Numbers.{Numbers}
use Rattle.mako_shape.specs.Places.{entry, Within}
use Rattle.mako_model.specs.declared.call.Call.{Call}
use Rattle.mako_model.specs.declared.call.Call.TheVariants as call
use Rattle.mako_model.specs.declared.reply.Reply.{Reply}
use Rattle.mako_model.specs.declared.reply.Reply.TheVariants as reply
use Rattle.mako_model.specs.declared.point.Point.{Point}
use Rattle.mako_model.specs.declared.point.Point.TheVariants.{Did, Snap}
use Rattle.mako_model.specs.Heaps.{Heap, fields_of, root_of, with_fields}
use Rattle.mako_model.specs.Lawful.{RefersTo, IsLawful, heap_after, heap_replied}
use Rattle.mako_model.specs.Legal.{Facts, state_of, IsLegal}
use Rattle.mako_model.specs.Dead.{made_by}
use Rattle.mako_model.proofs.Lists.{get_set_other}
use Rattle.mako_model.proofs.Lookups.{name_cases, fields_same, fields_other}
use Rattle.mako_model.proofs.Changes.{put_writes}
use Rattle.mako_model.proofs.Histories.{state_push, legal_push}
use Rattle.mako_ring.specs.Shades.{entry_of, IsMarked, IsShaded, IsWaiting}
use Rattle.mako_ring.specs.TraceFacets.{TraceFacet, apart, storing, GreyIn, WorksOn}
use Rattle.mako_names.specs.Uses.{IsGood}
use Rattle.mako_shades.specs.Holding.{HoldsName, TracingHolds, AgreeOnTrace}
use Rattle.mako_shades.specs.Steps.{LeavesObjects}
use Rattle.mako_shades.proofs.Goods.{SameSnaps, good_stays, replied_snaps}
use Rattle.mako_shades.proofs.Words.{marked_same, slot_agrees, slot_agreed}
use Rattle.mako_shades.proofs.General.{Holding, Act, AtSnap, put_more, marked_cases}
use Rattle.mako_shades.proofs.Turns.{no_member, plain}

-- ---- what changes no facet

module _ (n : Numbers) (w : Facts) (words words' : List ℕ) (facets : List TraceFacet) (history : List Point)
    (cycle : ℕ) (agree : AgreeOnTrace n words words') where
  pub mark_agrees : (x : Name) → IsMarked n words cycle x → IsMarked n words' cycle x
  mark_agrees x m = marked_same n words words' cycle x (agree (entry x.entry) tt m.in_range) m

  mark_agreed : (x : Name) → IsMarked n words' cycle x → IsMarked n words cycle x
  mark_agreed x m = marked_same n words' words cycle x (sym (agree (entry x.entry) tt m.in_range)) m

  shade_agrees : (x : Name) → IsShaded n words facets cycle x → IsShaded n words' facets cycle x
  shade_agrees x shaded =
      ⊎_elim (λ grey. inl (⊎_elim (λ s. inl (slot_agrees n words words' agree x s)) (λ held. inr held) grey))
      (λ m. inr (mark_agrees x m)) shaded

  shade_agreed : (x : Name) → IsShaded n words' facets cycle x → IsShaded n words facets cycle x
  shade_agreed x shaded =
      ⊎_elim (λ grey. inl (⊎_elim (λ s. inl (slot_agreed n words words' agree x s)) (λ held. inr held) grey))
      (λ m. inr (mark_agreed x m)) shaded

  wait_agrees : (object : Name) (field : ℕ) → Within n (entry object.entry)
      → IsWaiting n words facets cycle object field → IsWaiting n words' facets cycle object field
  wait_agrees object field in_range waiting =
      ⊎_elim (λ unmarked. inl (λ m. unmarked (mark_agreed object m)))
      (λ worked. inr (record {
        seat = worked.seat;
        facet = worked.facet;
        at = worked.at;
        works = subst (λ k. WorksOn worked.facet object.entry (entry_at k).address field)
            (sym (agree (entry object.entry) tt in_range)) worked.works;
      }))
      waiting

  -- an object out of range has no entry that could be marked
  wait_still : (object : Name) (field : ℕ) → IsWaiting n words facets cycle object field
      → IsWaiting n words' facets cycle object field
  wait_still object field waiting =
      ⊎_elim (λ m. wait_agrees object field m.in_range waiting)
      (λ unmarked. inl (λ m. unmarked (mark_agreed object m))) (marked_cases n words cycle object)

  module _ (points : List Point) (legal : IsLegal w (history ++ points))
      (still : SameSnaps w history (history ++ points)) (t : TracingHolds n w words facets history cycle)
      (fields_stay : (object : Name)
      → fields_of (state_of w (history ++ points)) object ≡ fields_of (state_of w history) object)
      (none_made : flat_map made_by points ≡ []) where
    framed_good : (x : Name) → IsGood w history x → IsGood w (history ++ points) x
    framed_good x good = good_stays w history points legal still x good

    framed_holds : (object : Name) (field : ℕ) (x : Name) → HoldsName (state_of w history) object field x
        → HoldsName (state_of w (history ++ points)) object field x
    framed_holds object field x holds = record {
      fields = holds.fields;
      object_is = fields_stay object ∙ holds.object_is;
      field_is = holds.field_is;
    }

    pub framed : TracingHolds n w words' facets (history ++ points) cycle
    framed = record {
      before = t.before;
      after = t.after ++ points;
      latest = still ∙ t.latest;
      split = ap (λ (ps : List Point). ps ++ points) t.split ∙ append_assoc t.before (Snap cycle ∷ t.after) points;
      shades = λ x shaded. framed_good x (t.shades x (shade_agreed x shaded));
      keeps = λ seat f at x keeps. framed_good x (t.keeps seat f at x keeps);
      roots = λ x root. shade_agrees x (t.roots x root);
      fields = λ object field x reached held.
          ⊎_elim (λ shaded. inl (shade_agrees x shaded))
          (λ kept. inr (framed_holds object field x kept.0, wait_still object field kept.1))
          (t.fields object field x reached held);
      puts = λ seat f at object field x reached held.
          put_more f object field x (IsShaded n words facets cycle x) (IsShaded n words' facets cycle x)
          (shade_agrees x) (t.puts seat f at object field x reached held);
      news = λ x new. mark_agrees x (t.news x (
          ⊎_elim (λ old. old) (λ now. absurd (no_member x (subst (λ names. Contains names x) none_made now)))
          (Contains-append_cases (flat_map made_by t.after) (flat_map made_by points) x
          (subst (λ names. Contains names x) (flat_map-append made_by t.after points) new))));
    }

-- ---- deciding points that change no object

plain_fields : (h : Heap) (m : ℕ) (c : Call) (r : Reply) (x : Name) → LeavesObjects c r
    → fields_of (heap_replied h m c r) x ≡ fields_of h x
plain_fields h m (call.New root fields) (reply.Made name) x is = absurd is
plain_fields h m (call.Num root x) (reply.Value v) y is = refl
plain_fields h m (call.CopyRoot to from) (reply.Value v) x is = refl
plain_fields h m (call.DropRoot root) reply.Done x is = refl
plain_fields h m (call.Get to from field) (reply.Value v) x is = refl
plain_fields h m (call.Put to field from) reply.Done x is = absurd is
plain_fields h m c r x is = refl

plain_makes_none : (m : ℕ) (c : Call) (r : Reply) → LeavesObjects c r → made_by (Did m c r) ≡ []
plain_makes_none m c (reply.Made x) is = absurd is
plain_makes_none m c r is = refl

-- a deciding point that changes no object
pub plain_point : (n : Numbers) (w : Facts) (words words' : List ℕ) (facets : List TraceFacet) (history : List Point)
    (cycle : ℕ) → Holding n w words facets history cycle
    → AgreeOnTrace n words words' → (m : ℕ) (c : Call) (r : Reply) → IsLawful (state_of w history) (Did m c r)
    → LeavesObjects c r
    → TracingHolds n w words' facets (history ++ Did m c r ∷ []) cycle
plain_point n w words words' facets history cycle k agree m c r lawful is =
    framed n w words words' facets history cycle agree (Did m c r ∷ []) (legal_push w history (Did m c r) k.legal
    lawful) (replied_snaps w history m c r) k.tracing
    (λ x. ap (λ (h : Heap). fields_of h x) (state_push w history (Did m c r)) ∙ plain_fields (state_of w history) m c
    r x is)
    (append-nil (made_by (Did m c r)) ∙ plain_makes_none m c r is)

-- a step that tracing does not see
pub unseen : (n : Numbers) (w : Facts) (words words' : List ℕ) (facets : List TraceFacet) (history : List Point)
    (cycle : ℕ) → Holding n w words facets history cycle
    → AgreeOnTrace n words words' → TracingHolds n w words' facets history cycle
unseen n w words words' facets history cycle k agree =
    subst (λ ps. TracingHolds n w words' facets ps cycle) (append-nil history)
    (framed n w words words' facets history cycle agree [] (subst (IsLegal w) (sym (append-nil history)) k.legal)
    (ap (λ (ps : List Point). (state_of w ps).snaps) (append-nil history)) k.tracing
    (λ x. ap (λ (ps : List Point). fields_of (state_of w ps) x) (append-nil history)) refl)

-- ---- a put decides

module _ (n : Numbers) (w : Facts) (words words' : List ℕ) (facets : List TraceFacet) (history : List Point)
    (cycle : ℕ) (k : Holding n w words facets history cycle) (seat : ℕ)
    (agree : AgreeOnTrace n words words') (f : TraceFacet) (here : slice_get facets seat ≡ Some f) (p : Point)
    (lawful : IsLawful (state_of w history) p) (still : SameSnaps w history (history ++ p ∷ []))
    (none_made : made_by p ≡ [])
    (no_grey : (x : Name) → GreyIn f x → ⊥) (no_work : (e a i : ℕ) → WorksOn f e a i → ⊥) where
  abbrev pub point_act : Act
  point_act = record {
    numbers = n;
    workload = w;
    cycle = cycle;
    words = words;
    next_words = words';
    facets = facets;
    seat = seat;
    facet = f;
    next_facet = apart;
    history = history;
    points = p ∷ [];
    next_history = history ++ p ∷ [];
  }

  pub decided :
      ((on : Name) (at : ℕ) (x : Name) → AtSnap point_act k.tracing on at x → HoldsName (state_of w history) on at x
      → IsShaded n words facets cycle x ⊎ HoldsName (state_of w (history ++ p ∷ [])) on at x)
      → TracingHolds n w words' (set facets seat apart) (history ++ p ∷ []) cycle
  decided holds = plain point_act k.tracing
      (record { grown = refl; legal = legal_push w history p k.legal lawful; still = still; here = here })
      (record {
        entries = λ x in_x. agree (entry x) tt in_x;
        slots = λ x s. inl (slot_agrees n words words' agree x s);
        held = λ x grey. absurd (no_grey x grey);
        new_slots = λ x s. inl (slot_agreed n words words' agree x s);
        new_held = λ x grey. absurd grey;
        keeps = λ x none. absurd none;
        holds = λ on at x snap held. ⊎_elim (λ shaded. inl (inl shaded)) (λ still. inr still) (holds on at x snap held);
        works = λ on at x held marked works. absurd (no_work on.entry (entry_of n words on.entry).address at works);
        puts = λ on at x snap. tt;
        news = λ x made. no_member x (subst (λ names. Contains names x) (append-nil (made_by p) ∙ none_made) made);
      })

  -- it writes a field, whose name at the snapshot is shaded or stands there no more
  module _ (object : Name) (fields : List Value) (field : ℕ) (v : Value)
      (is : fields_of (state_of w history) object ≡ Some fields)
      (writes : heap_after (state_of w history) p ≡ with_fields (state_of w history) object (set fields field v)) where
    -- another field of the object, or a field of another object, is as before
    written_else : (on : Name) (at : ℕ) (x : Name) → (object ≡ on → field ≡ at → ⊥)
        → HoldsName (state_of w history) on at x → HoldsName (state_of w (history ++ p ∷ [])) on at x
    written_else on at x other holds = subst (λ h. HoldsName h on at x) (sym (state_push w history p ∙ writes))
        (⊎_elim
        (λ t. let same : fields ≡ holds.fields = same_Some fields holds.fields
        (sym is ∙ ap (fields_of (state_of w history)) (sym t.0) ∙ holds.object_is) in record {
          fields = set fields field v;
          object_is = ap (fields_of (with_fields (state_of w history) object (set fields field v))) t.0 ∙ fields_same
              (state_of w history) object (set fields field v);
          field_is = get_set_other fields field at v (λ e. other (sym t.0) (sym e)) ∙ ap
              (λ (fs : List Value). slice_get fs at) same ∙ holds.field_is;
        })
        (λ t. record {
          fields = holds.fields;
          object_is = fields_other (state_of w history) object (set fields field v) on t.0 ∙ holds.object_is;
          field_is = holds.field_is;
        })
        (name_cases on object))

    pub overwritten :
        ((on : Name) (at : ℕ) (x : Name) → object ≡ on → field ≡ at → AtSnap point_act k.tracing on at x
        → HoldsName (state_of w history) on at x → IsShaded n words facets cycle x)
        → TracingHolds n w words' (set facets seat apart) (history ++ p ∷ []) cycle
    overwritten shaded = decided (λ on at x snap holds.
        ⊎_elim
        (λ t. ⊎_elim (λ e. inl (shaded on at x (sym t.0) e snap holds))
        (λ other. inr (written_else on at x (λ o i. other i) holds)) (cases_eq field at))
        (λ t. inr (written_else on at x (λ o i. t.0 (sym o)) holds))
        (name_cases on object))

-- ---- a put stores the field

module _ (n : Numbers) (w : Facts) (words words' : List ℕ) (facets : List TraceFacet) (history : List Point)
    (cycle : ℕ) (k : Holding n w words facets history cycle) (seat : ℕ)
    (agree : AgreeOnTrace n words words') where
  pub put_stores : (m to from field : ℕ) (object : Name) (fields : List Value) (v : Value)
      → RefersTo (state_of w history) m to object fields → field < length fields
      → root_of (state_of w history) m from ≡ Some v → slice_get facets seat ≡ Some (storing object field)
      → TracingHolds n w words' (set facets seat apart)
      (history ++ Did m (call.Put to field from) reply.Done ∷ []) cycle
  put_stores m to from field object fields v refers within root_is here =
      overwritten n w words words' facets history cycle k seat agree (storing object field) here
      (Did m (call.Put to field from) reply.Done)
      ((v, root_is), (object, fields, refers, within)) (replied_snaps w history m (call.Put to field from) reply.Done)
      refl (λ x grey. grey) (λ e a i works. works) object fields field v refers.fields_are
      (put_writes (state_of w history) m to field from object fields v refers root_is)
      (λ on at x o i snap holds. k.tracing.puts seat (storing object field) here on at x snap.reached snap.held o i)
