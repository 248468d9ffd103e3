-- What each clause asks of a front, and of each of its points.
use Rattle.std.specs.Prelude.{ℕ, ◌≡◌, ◌+◌, ◌<◌, ◌≤◌, List, [], ◌∷◌, ◌++◌, length, slice_get, take, Some}
use mathlib.Core.List.{IsPrefix}
use Rattle.std.specs.List.{Contains}
use Rattle.mako_words.specs.declared.name.Name.{Name}
use Rattle.mako_model.specs.declared.call.Call.{Call}
use Rattle.mako_model.specs.declared.call.Call.TheVariants.{New}
use Rattle.mako_model.specs.declared.reply.Reply.TheVariants.{Full, Cycle}
use Rattle.mako_model.specs.declared.point.Point.{Point}
use Rattle.mako_model.specs.declared.point.Point.TheVariants.{Did, Snap}
use Rattle.mako_model.specs.Fronts.{Seen, calls_by, FollowsPrograms}
use Rattle.mako_model.specs.Heaps.{board_name}
use Rattle.mako_model.specs.Lawful.{IsLawful}
use Rattle.mako_model.specs.Legal.{Facts, state_of, IsLegal}
use Rattle.mako_model.specs.Dead.{made_by, names_made, IsDead, AreFreed}
use Rattle.mako_model.specs.LawfulFronts.{since, AnsweredWaitsAreOver, IsInRange, ReusesAreOfDead}
use Rattle.mako_model.specs.Starved.{IsStarved}
use Rattle.mako_model.specs.Answering.{FullsAreStarved}
use Rattle.mako_judge.specs.declared.verdict.Clause.{Clause}
use Rattle.mako_judge.specs.declared.verdict.Clause.TheVariants as clause

-- each finished cycle freed the names that died in it
abbrev pub AreListsFreed : Facts → Seen → Type 0
AreListsFreed w front = (i : ℕ) (names : List Name) → slice_get front.finished i ≡ Some names
    → AreFreed w front.history (i + 1) names

-- the front meets the clause
abbrev pub Holds : Facts → Seen → Clause → Type 0
Holds w front clause.Legal = IsLegal w front.history
Holds w front clause.Finished = length front.finished ≤ (state_of w front.history).snaps
Holds w front clause.Unfinished = (state_of w front.history).snaps ≤ length front.finished + 1
Holds w front clause.Freed = AreListsFreed w front
Holds w front clause.Waits = AnsweredWaitsAreOver front
Holds w front clause.Names = (name : Name) → Contains (names_made front.history) name → IsInRange w name
Holds w front clause.Reuses = ReusesAreOfDead w front.history
Holds w front clause.Starved = FullsAreStarved w front
Holds w front clause.Programs = FollowsPrograms w.programs front.history

-- the cycle that a point waited for is finished, and began during the wait
abbrev pub IsAnswered : Seen → List Point → Point → Type 0
IsAnswered front before (Did mutator call (Cycle cycle)) = (cycle ≤ length front.finished)
    × Contains (since mutator before) (Snap cycle)
IsAnswered front before point = Unit {0}

-- the name that a point makes is in range
abbrev pub MakesInRange : Facts → Point → Type 0
MakesInRange w point = (name : Name) → Contains (made_by point) name → IsInRange w name

-- the name before that of a used entry is dead
abbrev pub IsReuse : Facts → Seen → List Point → Name → Type 0
IsReuse w front before name = (generation : ℕ) → name.generation ≡ generation + 1 →
    Contains (names_made before) (record { entry = name.entry; generation = generation })
    × IsDead w front.history (state_of w before).snaps (record { entry = name.entry; generation = generation })

-- so is the name before each that the point makes
abbrev pub MakesAgain : Facts → Seen → List Point → Point → Type 0
MakesAgain w front before point = (name : Name) → Contains (made_by point) name → IsReuse w front before name

-- a point that refuses an object does so where there is no room
abbrev pub RefusesStarved : Facts → Seen → List Point → Point → Type 0
RefusesStarved w front before (Did mutator (New root fields) Full) = IsStarved w front before mutator fields
RefusesStarved w front before point = Unit {0}

-- the calls of a point's mutator, among these points, are the beginning of its program
abbrev pub FollowsProgram : Facts → List Point → Point → Type 0
FollowsProgram w points (Did mutator call reply) = (program : List Call) → slice_get w.programs mutator ≡ Some program
    → IsPrefix (calls_by mutator points) program
FollowsProgram w points (Snap cycle) = Unit {0}

-- a point, behind those before it, meets the clause
abbrev pub HoldsAt : Facts → Seen → Clause → List Point → Point → Type 0
HoldsAt w front clause.Legal before point = IsLawful (state_of w before) point
HoldsAt w front clause.Waits before point = IsAnswered front before point
HoldsAt w front clause.Names before point = MakesInRange w point
HoldsAt w front clause.Reuses before point = MakesAgain w front before point
HoldsAt w front clause.Starved before point = RefusesStarved w front before point
HoldsAt w front clause.Programs before point = FollowsProgram w (before ++ point ∷ []) point
HoldsAt w front clause before point = Unit {0}

-- what the clause asks of the front beside its points
abbrev pub HoldsApart : Facts → Seen → Clause → Type 0
HoldsApart w front clause.Finished = length front.finished ≤ (state_of w front.history).snaps
HoldsApart w front clause.Unfinished = (state_of w front.history).snaps ≤ length front.finished + 1
HoldsApart w front clause.Freed = AreListsFreed w front
HoldsApart w front clause.Names = IsInRange w board_name
HoldsApart w front clause = Unit {0}

-- the points before this place meet the clause
abbrev pub HoldsBelow : Facts → Seen → Clause → ℕ → Type 0
HoldsBelow w front clause end = (place : ℕ) (point : Point) → place < end → slice_get front.history place ≡ Some point
    → HoldsAt w front clause (take place front.history) point

-- the point at this place is the first that does not meet the clause
pub record IsFirstBreach (w : Facts) (front : Seen) (clause : Clause) (place : ℕ) : Type 0 where
  pub point : Point
  pub there : slice_get front.history place ≡ Some point
  pub broken : ¬ HoldsAt w front clause (take place front.history) point
  pub before : HoldsBelow w front clause place
