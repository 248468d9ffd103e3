-- The sizes of objects.
use Rattle.std.specs.Prelude.{◌≡◌, ◌≤◌, List, length, Some}
use Rattle.mako_words.specs.declared.name.Name.{Name}
use Rattle.mako_words.specs.declared.value.Value.{Value}
use Rattle.mako_model.specs.declared.call.Call.{Call}
use Rattle.mako_model.specs.declared.call.Call.TheVariants.{New}
use Rattle.mako_model.specs.declared.point.Point.{Point}
use Rattle.mako_model.specs.declared.point.Point.TheVariants.{Did, Snap}
use Rattle.mako_model.specs.Heaps.{Heap, fields_of}
use Rattle.mako_model.specs.Lawful.{IsLawful, heap_after}
use Rattle.mako_model.specs.Legal.{Facts, opening_of}

-- no object has more fields than a script may ask for
abbrev pub ObjectsAreSmall : Heap → Type 0
ObjectsAreSmall h = (object : Name) (fields : List Value) → fields_of h object ≡ Some fields → length fields ≤ 14

-- a call asks for no larger one
abbrev pub IsSmallCall : Call → Type 0
IsSmallCall (New root fields) = fields ≤ 14
IsSmallCall c = Unit {0}

abbrev pub IsSmallPoint : Point → Type 0
IsSmallPoint (Did m c r) = IsSmallCall c
IsSmallPoint (Snap cycle) = Unit {0}

-- then objects are small at the opening, if the board is, and after each point
pub record PointsKeepSmall : Type 0 where
  pub opening : (w : Facts) → w.board ≤ 14 → ObjectsAreSmall (opening_of w)
  pub point : (h : Heap) (p : Point) → IsLawful h p → IsSmallPoint p → ObjectsAreSmall h
      → ObjectsAreSmall (heap_after h p)
