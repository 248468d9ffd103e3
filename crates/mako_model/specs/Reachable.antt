-- Which names are reachable.
use Rattle.std.specs.Prelude.{ℕ, ◌≡◌, List, [], ◌∷◌, slice_get, Some}
use Rattle.mako_words.specs.declared.name.Name.{Name}
use Rattle.mako_words.specs.declared.value.Value.{Value}
use Rattle.mako_words.specs.declared.value.Value.TheVariants.{Ref}
use Rattle.mako_model.specs.Heaps.{Heap, fields_of, root_of}

-- some root holds the name
abbrev pub StandsInRoot : Heap → Name → Type 0
StandsInRoot h name = (mutator : ℕ) × (root : ℕ) × (root_of h mutator root ≡ Some (Ref name))

-- some field of the first object holds the second name
abbrev pub StandsInField : Heap → Name → Name → Type 0
StandsInField h object name =
    (fields : List Value) × (field : ℕ) × (fields_of h object ≡ Some fields)
    × (slice_get fields field ≡ Some (Ref name))

-- each name of the path stands in a field of the one before, and the last one is the name
abbrev pub LeadsTo : Heap → Name → List Name → Name → Type 0
LeadsTo h from [] name = from ≡ name
LeadsTo h from (next ∷ path) name = StandsInField h from next × LeadsTo h next path name

-- a path from a root leads to the name
pub record IsReachable (h : Heap) (name : Name) : Type 0 where
  pub first : Name
  pub path : List Name
  pub in_root : StandsInRoot h first
  pub leads : LeadsTo h first path name
