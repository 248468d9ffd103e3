-- The immortal heap, in which nothing moves or is freed, and its opening.
use Rattle.std.specs.Prelude.{ℕ, ◌-◌, List, [], ◌∷◌, slice_get, slice_index_or, slice_set, replicate}
use Rattle.std.specs.declared.option.Option.{Option}
use Rattle.std.specs.FinMap as map
use Rattle.mako_words.specs.declared.name.Name.{Name}
use Rattle.mako_words.specs.declared.value.Value.{Value}
use Rattle.mako_words.specs.declared.value.Value.TheVariants.{Null, Ref}
use Rattle.mako_words.specs.Names.{name_cmp}

-- the fields of each object, the roots of each mutator, and how many snapshots were taken and may be taken
pub record Heap : Type 0 where
  pub objects : map.FinMap name_cmp (List Value)
  pub roots : List (List Value)
  pub snaps : ℕ
  pub cycles : ℕ

-- the fields of the object with this name
abbrev pub fields_of : Heap → Name → Option (List Value)
fields_of h name = map.get h.objects name

-- the roots of a mutator
abbrev pub roots_of : Heap → ℕ → List Value
roots_of h mutator = slice_index_or h.roots mutator []

-- one root of a mutator
abbrev pub root_of : Heap → ℕ → ℕ → Option Value
root_of h mutator root = slice_get (roots_of h mutator) root

-- the root of the mutator becomes the value
abbrev pub with_root : Heap → ℕ → ℕ → Value → Heap
with_root h mutator root value =
    record h { roots = slice_set h.roots mutator (slice_set (roots_of h mutator) root value) }

-- the object with this name has these fields
abbrev pub with_fields : Heap → Name → List Value → Heap
with_fields h name fields = record h { objects = map.insert h.objects name fields }

-- the board, the object that is there from the start
abbrev pub board_name : Name
board_name = record { entry = 0; generation = 0 }

-- the roots of a mutator at the start: the board, and nulls
abbrev pub opening_roots : ℕ → List Value
opening_roots roots = Ref board_name ∷ replicate (roots - 1) Null

-- the board of nulls alone, which root 0 of each mutator names
abbrev pub opening : (mutators roots board cycles : ℕ) → Heap
opening mutators roots board cycles = record {
  objects = map.insert map.empty board_name (replicate board Null);
  roots = replicate mutators (opening_roots roots);
  snaps = 0;
  cycles = cycles;
}
