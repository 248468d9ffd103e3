-- A search for the reachable names: the names found so far, in the order in which they were found.
use Rattle.std.specs.Prelude.{ℕ, ◌≡◌, ◌<◌, List, [], ◌∷◌, ◌++◌, slice_get, Some, if◌then◌else◌}
use Rattle.std.specs.List.{list_any, fold, Contains}
use Rattle.std.specs.Option.{unwrap_or}
use Rattle.std.specs.BTreeSet.{BTreeSet, contains}
use Rattle.std.specs.Ordering.{eq_by_cmp}
use Rattle.mako_words.specs.declared.name.Name.{Name}
use Rattle.mako_words.specs.declared.value.Value.{Value}
use Rattle.mako_words.specs.declared.value.Value.TheVariants.{Ref}
use Rattle.mako_words.specs.Names.{name_cmp}
use Rattle.mako_model.specs.Heaps.{Heap, fields_of, root_of}
use Rattle.mako_model.specs.Reachable.{StandsInField, IsReachable}

-- the set has the names of the list
abbrev pub AreSame : BTreeSet Name → List Name → Type 0
AreSame found order = (name : Name) → contains name_cmp found name ≡ list_any (eq_by_cmp name_cmp name) order

-- the names with that of the value, where it is one and is not there yet
abbrev pub added : List Name → Value → List Name
added order (Ref name) = if list_any (eq_by_cmp name_cmp name) order then order else order ++ name ∷ []
added order value = order

-- the names with those in the fields of the object
abbrev pub expanded : Heap → List Name → Name → List Name
expanded h order object = fold added order (unwrap_or (fields_of h object) [])

-- the names in the roots of the first mutators were found
abbrev pub AreRootsFound : Heap → ℕ → List Name → Type 0
AreRootsFound h mutators order =
    (mutator root : ℕ) (name : Name) → mutator < mutators → root_of h mutator root ≡ Some (Ref name)
    → Contains order name

-- the names in the fields of the first objects found were found
abbrev pub AreFieldsFound : Heap → ℕ → List Name → Type 0
AreFieldsFound h done order =
    (i : ℕ) (object name : Name) → i < done → slice_get order i ≡ Some object → StandsInField h object name
    → Contains order name

-- each name found is reachable
abbrev pub AreReachable : Heap → List Name → Type 0
AreReachable h order = (name : Name) → Contains order name → IsReachable h name
