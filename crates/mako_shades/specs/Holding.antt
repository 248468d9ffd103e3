-- The tracing invariant: what is good, what is shaded or waiting, and what puts know, from a cycle's snapshot on.
use Rattle.std.specs.Prelude.{ℕ, ◌≡◌, ◌⊎◌, List, ◌∷◌, ◌++◌, slice_get, Some}
use Rattle.std.specs.List.{Contains, flat_map}
use Rattle.mako_words.specs.declared.name.Name.{Name}
use Rattle.mako_words.specs.declared.value.Value.{Value}
use Rattle.mako_words.specs.declared.value.Value.TheVariants.{Ref}
use Rattle.mako_shape.specs.declared.numbers.Numbers.{Numbers}
use Rattle.mako_shape.specs.Places.{Place, entry, Within, word_at}
use Rattle.mako_model.specs.declared.point.Point.{Point}
use Rattle.mako_model.specs.declared.point.Point.TheVariants.{Snap}
use Rattle.mako_model.specs.Heaps.{Heap, fields_of}
use Rattle.mako_model.specs.Legal.{Facts, state_of}
use Rattle.mako_model.specs.Reachable.{StandsInRoot, IsReachable}
use Rattle.mako_model.specs.Dead.{made_by}
use Rattle.mako_ring.specs.Shades.{IsMarked, IsShadeSlot, IsShaded, IsWaiting}
use Rattle.mako_ring.specs.TraceFacets.{TraceFacet, looking, storing, expecting, swapping}
use Rattle.mako_names.specs.Uses.{IsGood}

-- this field of the object holds the name
pub record HoldsName (h : Heap) (object : Name) (field : ℕ) (x : Name) : Type 0 where
  pub fields : List Value
  pub object_is : fields_of h object ≡ Some fields
  pub field_is : slice_get fields field ≡ Some (Ref x)

-- a put or a swap keeps the name for its barrier slot
abbrev pub Keeps : TraceFacet → Name → Type 0
Keeps (looking object field old) x = old ≡ x
Keeps (expecting expected) x = expected ≡ x
Keeps f x = ⊥

-- Where a put is past its look at that field of the object, which held the name at the snapshot, the name is shaded,
-- or the put found it and keeps it. The name that a swap has stored into its barrier slot is shaded.
abbrev pub PutKnows : TraceFacet → (object : Name) (field : ℕ) (x : Name) → Type 0 → Type 0
PutKnows (looking on at old) object field x Shaded = on ≡ object → at ≡ field → Shaded ⊎ (old ≡ x)
PutKnows (storing on at) object field x Shaded = on ≡ object → at ≡ field → Shaded
PutKnows (swapping expected) object field x Shaded = expected ≡ x → Shaded
PutKnows f object field x Shaded = Unit {0}

-- The tracing invariant. (Names in roots and in fields of good objects are good in each legal history.)
pub record TracingHolds (n : Numbers) (w : Facts) (words : List ℕ) (facets : List TraceFacet) (history : List Point)
    (cycle : ℕ) : Type 0 where
  -- the history before the snapshot, and after it; there is no later one
  pub before : List Point
  pub after : List Point
  pub split : history ≡ before ++ Snap cycle ∷ after
  pub latest : (state_of w history).snaps ≡ cycle
  -- shaded names are good, and so are those that a put keeps
  pub shades : (x : Name) → IsShaded n words facets cycle x → IsGood w history x
  pub keeps : (seat : ℕ) (f : TraceFacet) → slice_get facets seat ≡ Some f → (x : Name) → Keeps f x
      → IsGood w history x
  -- names in the roots of the snapshot are shaded
  pub roots : (x : Name) → StandsInRoot (state_of w before) x → IsShaded n words facets cycle x
  -- a name in a field of an object that was reachable at the snapshot is shaded, or still there and waiting
  pub fields : (object : Name) (field : ℕ) (x : Name) → IsReachable (state_of w before) object
      → HoldsName (state_of w before) object field x
      → IsShaded n words facets cycle x
      ⊎ (HoldsName (state_of w history) object field x × IsWaiting n words facets cycle object field)
  -- who overwrites such a field has the name shaded, or will
  pub puts : (seat : ℕ) (f : TraceFacet) → slice_get facets seat ≡ Some f → (object : Name) (field : ℕ) (x : Name)
      → IsReachable (state_of w before) object → HoldsName (state_of w before) object field x
      → PutKnows f object field x (IsShaded n words facets cycle x)
  -- names made after the snapshot are marked
  pub news : (x : Name) → Contains (flat_map made_by after) x → IsMarked n words cycle x

-- a place of which anything is said here: an entry, or a slot in which names are on their way to be traced
abbrev pub IsTracePlace : Place → Type 0
IsTracePlace (entry x) = Unit {0}
IsTracePlace p = IsShadeSlot p

-- the words at these places are as they were
abbrev pub AgreeOnTrace : Numbers → List ℕ → List ℕ → Type 0
AgreeOnTrace n words words' = (p : Place) → IsTracePlace p → Within n p → word_at n words' p ≡ word_at n words p
