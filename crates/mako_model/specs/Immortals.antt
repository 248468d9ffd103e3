-- An immortal heap as contracts see it, and its objects and roots.
use Rattle.std.specs.Prelude.{ℕ, List, map, Some, None, refl}
use Rattle.std.specs.declared.option.Option.{Option}
use Rattle.std.specs.Coded.{Coded, code_by, coded×, coded_ℕ}
use Rattle.std.proofs.Common.{Vec, Global}
use Rattle.std.specs.FinMap as finite
use Rattle.mako_words.specs.declared.name.Name.{Name}
use Rattle.mako_words.specs.declared.value.Value.{Value}
use Rattle.mako_words.specs.declared.value.Value.TheVariants.{Ref}
use Rattle.mako_words.specs.Names.{name_cmp}
use Rattle.mako_model.specs.Heaps.{Heap, fields_of}

-- the fields of each object
abbrev pub FieldMap : Type 0
FieldMap = finite.FinMap name_cmp (List Value)

-- those that the entries of a map give
abbrev pub objects_in : List (Name × Vec Value Global) → FieldMap
objects_in entries = finite.from_entries (map (λ (e : Name × Vec Value Global). (e.0, e.1.items)) entries)

-- the roots of each mutator
abbrev pub RootTable : Type 0
RootTable = List (List Value)

-- those that the rows give
abbrev pub roots_in : Vec (Vec Value Global) Global → RootTable
roots_in rows = map (λ (row : Vec Value Global). row.items) rows.items

-- the parts of a heap, as pairs
abbrev pub Parts : Type 0
Parts = FieldMap × (RootTable × (ℕ × ℕ))

-- a heap is stored as its parts
abbrev pub coded_heap : Coded FieldMap → Coded RootTable → Coded Heap
coded_heap objects roots =
    code_by Parts (coded× objects (coded× roots (coded× coded_ℕ coded_ℕ)))
    (λ h. (h.objects, (h.roots, (h.snaps, h.cycles))))
    (λ p. record { objects = p.0; roots = p.1.0; snaps = p.1.1.0; cycles = p.1.1.1 }) (λ _. refl)

-- the fields of the object that the value names
abbrev pub fields_named : Heap → Option Value → Option (List Value)
fields_named h (Some (Ref name)) = fields_of h name
fields_named h v = None
