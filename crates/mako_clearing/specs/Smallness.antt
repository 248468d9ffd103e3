-- Objects are small.
use Rattle.std.specs.Prelude.{ℕ, ◌≡◌, ◌≤◌, List, slice_get, Some}
use Rattle.std.specs.List.{Contains}
use Rattle.mako_shape.specs.declared.numbers.Numbers.{Numbers}
use Rattle.mako_model.specs.declared.call.Call.{Call}
use Rattle.mako_model.specs.declared.call.Call.TheVariants.{New}
use Rattle.mako_model.specs.declared.point.Point.{Point}
use Rattle.mako_model.specs.Heaps.{Heap}
use Rattle.mako_model.specs.Lawful.{IsLawful, heap_after}
use Rattle.mako_model.specs.Legal.{Facts, state_of}
use Rattle.mako_model.specs.Sizes.{ObjectsAreSmall}
use Rattle.mako_joint.specs.Joints.{JointScene, Joint}
use Rattle.mako_clearing.specs.Clearing.{KeepsSizes}

-- the board has at most 14 fields, and so has each object that a program asks for
pub record AsksForSmall (w : Facts) : Type 0 where
  pub board : w.board ≤ 14
  pub news : (m root fields : ℕ) (program : List Call) → slice_get w.programs m ≡ Some program
      → Contains program (New root fields) → fields ≤ 14

-- then so has each object
abbrev pub ObjectsStaySmall : Type 0
ObjectsStaySmall = (n : Numbers) (w : Facts) (s : JointScene) → Joint n w s → AsksForSmall w
    → ObjectsAreSmall (state_of w s.front.history)

-- and each point leaves an object its number of fields
abbrev pub PointsKeepSizes : Type 0
PointsKeepSizes = (h : Heap) (p : Point) → IsLawful h p → KeepsSizes h (heap_after h p)
