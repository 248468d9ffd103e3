-- Names made, dead and freed.
use Rattle.std.specs.Prelude.{ℕ, ◌≡◌, ◌-◌, ◌<◌, ◌↔◌, List, [], ◌∷◌, ◌++◌}
use Rattle.std.specs.List.{flat_map, Contains}
use Rattle.std.specs.List.Sorted.{IsStrictlySortedBy}
use Rattle.mako_words.specs.declared.name.Name.{Name}
use Rattle.mako_model.specs.declared.reply.Reply.TheVariants.{Made}
use Rattle.mako_model.specs.declared.point.Point.{Point}
use Rattle.mako_model.specs.declared.point.Point.TheVariants.{Did, Snap}
use Rattle.mako_words.specs.Names.{name_cmp}
use Rattle.mako_model.specs.Heaps.{board_name}
use Rattle.mako_model.specs.Legal.{Facts, state_of}
use Rattle.mako_model.specs.Reachable.{IsReachable}

-- the name that a point makes
abbrev pub made_by : Point → List Name
made_by (Did mutator call (Made name)) = name ∷ []
made_by point = []

-- the board's name, and those that the history made, in order
abbrev pub names_made : List Point → List Name
names_made history = board_name ∷ flat_map made_by history

-- the cycle is above 0, and the name was made before its snapshot and is not reachable just before it
pub record IsDead (w : Facts) (history : List Point) (cycle : ℕ) (name : Name) : Type 0 where
  pub before : List Point
  pub after : List Point
  pub numbered : 0 < cycle
  pub split : history ≡ before ++ Snap cycle ∷ after
  pub made : Contains (names_made before) name
  pub unreached : ¬ IsReachable (state_of w before) name

-- the names that are dead in the cycle and were not in the one before, by rising entry and then generation
pub record AreFreed (w : Facts) (history : List Point) (cycle : ℕ) (names : List Name) : Type 0 where
  pub rising : IsStrictlySortedBy name_cmp names
  pub each : (name : Name) → Contains names name ↔ (IsDead w history cycle name × ¬ IsDead w history (cycle - 1) name)
