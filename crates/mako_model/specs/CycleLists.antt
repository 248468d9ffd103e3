-- The finished cycles as contracts see them.
use Rattle.std.specs.Prelude.{ℕ, zero, suc, List, [], ◌∷◌, ◌≡◌, ◌≤◌, ◌-◌, length, take, drop, vec_capacity}
use Rattle.mako_words.specs.declared.name.Name.{Name}
use Rattle.mako_model.specs.declared.cycles.Cycles.TheInside.{Inside}

-- the names freed in each finished cycle, and how many names and cycles there is room for
pub record Lists : Type 0 where
  pub lists : List (List Name)
  pub names_room : ℕ
  pub cycles_room : ℕ

-- the pieces of a list between a start and each of these ends
abbrev pub pieces : {A : Type 0} → List A → ℕ → List ℕ → List (List A)
pieces xs start [] = []
pieces xs start (end ∷ ends) = take (end - start) (drop start xs) ∷ pieces xs end ends

-- where the piece with this index begins
abbrev pub start_of : ℕ → List ℕ → ℕ → ℕ
start_of start ends zero = start
start_of start [] (suc i) = start
start_of start (end ∷ ends) (suc i) = start_of end ends i

-- the lists of names and the room, from how they are stored
abbrev pub lists_of : Inside → Lists
lists_of c = record {
  lists = pieces c.names.items 0 c.ends.items;
  names_room = c.names_room;
  cycles_room = c.cycles_room;
}

-- the ends rise from the start, and the last of them is the end
abbrev pub RiseTo : ℕ → List ℕ → ℕ → Type 0
RiseTo start [] last = start ≡ last
RiseTo start (end ∷ ends) last = (start ≤ end) × RiseTo end ends last

-- there is the room, and the pieces are the whole list
pub record IsKept (c : Inside) : Type 0 where
  pub names : c.names_room ≤ vec_capacity c.names
  pub cycles : c.cycles_room ≤ vec_capacity c.ends
  pub rise : RiseTo 0 c.ends.items (length c.names.items)
