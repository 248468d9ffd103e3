-- What is true of each legal history.
use Rattle.std.specs.Prelude.{ℕ, ◌≡◌, ◌*◌, ◌<◌, ◌≤◌, ◌^◌, List, length, slice_get, Some}
use Rattle.std.specs.List.{Contains}
use Rattle.mako_words.specs.declared.name.Name.{Name}
use Rattle.mako_words.specs.declared.value.Value.{Value}
use Rattle.mako_words.specs.declared.value.Value.TheVariants.{Ref}
use Rattle.mako_words.specs.declared.value.Value.TheVariants as value
use Rattle.mako_words.specs.Values.{FitsValue}
use Rattle.mako_model.specs.declared.call.Call.{Call}
use Rattle.mako_model.specs.declared.call.Call.TheVariants.{Num}
use Rattle.mako_model.specs.declared.point.Point.{Point}
use Rattle.mako_model.specs.Heaps.{Heap, fields_of, root_of}
use Rattle.mako_model.specs.Lawful.{HasRoot}
use Rattle.mako_model.specs.Legal.{Facts, state_of}
use Rattle.mako_model.specs.Reachable.{StandsInField}
use Rattle.mako_model.specs.Dead.{IsDead}

-- there is an object of this name
abbrev pub HasObject : Heap → Name → Type 0
HasObject h name = (fields : List Value) × (fields_of h name ≡ Some fields)

-- each name in a root or in a field is that of an object
pub record IsClosed (h : Heap) : Type 0 where
  pub roots : (mutator root : ℕ) (name : Name) → root_of h mutator root ≡ Some (Ref name) → HasObject h name
  pub fields : (object name : Name) → StandsInField h object name → HasObject h name

-- no name that is dead in the cycle stands in a root, or in a field of an object that is not dead in it
pub record DeadStandApart (w : Facts) (history : List Point) (cycle : ℕ) : Type 0 where
  pub roots : (mutator root : ℕ) (name : Name) → root_of (state_of w history) mutator root ≡ Some (Ref name)
      → ¬ IsDead w history cycle name
  pub fields : (object name : Name) → StandsInField (state_of w history) object name
      → ¬ IsDead w history cycle object → ¬ IsDead w history cycle name

-- each mutator of the script has each of its roots, and there are no others
pub record HasRoots (w : Facts) (h : Heap) : Type 0 where
  pub rows : length h.roots ≡ length w.programs
  pub each : (mutator root : ℕ) → mutator < length w.programs → root < w.roots → HasRoot h mutator root

-- a number that the call puts into a root fits its word
abbrev pub CallFits : Call → Type 0
CallFits (Num root number) = FitsValue (value.Num number)
CallFits call = Unit {0}

-- so it is with each call of each program
abbrev pub ProgramsFit : List (List Call) → Type 0
ProgramsFit programs = (mutator : ℕ) (program : List Call) (call : Call) →
    slice_get programs mutator ≡ Some program → Contains program call → CallFits call

-- names in range fit their words
pub record NamesFit (w : Facts) : Type 0 where
  pub entries : w.tablets * w.entries ≤ 2 ^ 20
  pub generations : w.generations ≤ 2 ^ 20

-- each value in a field fits its word
abbrev pub ValuesFit : Heap → Type 0
ValuesFit h = (name : Name) (fields : List Value) (field : ℕ) (v : Value) →
    fields_of h name ≡ Some fields → slice_get fields field ≡ Some v → FitsValue v

-- each value in a root fits its word
abbrev pub RootsFit : Heap → Type 0
RootsFit h = (mutator root : ℕ) (v : Value) → root_of h mutator root ≡ Some v → FitsValue v
