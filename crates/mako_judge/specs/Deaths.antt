-- The names that are dead in each cycle, as lists.
use Rattle.std.specs.Prelude.{ℕ, ◌≡◌, ◌<◌, ◌-◌, ◌↔◌, List, length, map, slice_get, Some}
use Rattle.std.specs.List.{Contains}
use Rattle.mako_words.specs.declared.name.Name.{Name}
use Rattle.mako_model.specs.declared.point.Point.{Point}
use Rattle.mako_model.specs.Legal.{Facts, state_of, IsLegal}
use Rattle.mako_model.specs.Dead.{IsDead}
use Rattle.mako_judge.specs.declared.deaths.Deaths.{Deaths}

-- a list for each cycle
abbrev pub lists_in : Deaths → List (List Name)
lists_in d = map (λ names. names.items) d.lists.items

-- the list of the cycle has the name. Cycles are numbered from 1.
abbrev pub IsListed : List (List Name) → ℕ → Name → Type 0
IsListed lists cycle name = (0 < cycle)
    × ((names : List Name) × (slice_get lists (cycle - 1) ≡ Some names) × Contains names name)

-- the history is legal, and there is a list of the dead names for each cycle that has begun
pub record AreDeaths (w : Facts) (history : List Point) (lists : List (List Name)) : Type 0 where
  pub legal : IsLegal w history
  pub count : length lists ≡ (state_of w history).snaps
  pub each : (cycle : ℕ) (name : Name) → IsListed lists cycle name ↔ IsDead w history cycle name
