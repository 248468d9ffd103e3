-- Fronts that answer a script.
use Rattle.std.specs.Prelude.{ℕ, ◌≡◌, List, ◌∷◌, ◌++◌, slice_get, Some}
use Rattle.mako_model.specs.declared.call.Call.{Call}
use Rattle.mako_model.specs.declared.call.Call.TheVariants.{New}
use Rattle.mako_model.specs.declared.reply.Reply.TheVariants.{Full}
use Rattle.mako_model.specs.declared.point.Point.{Point}
use Rattle.mako_model.specs.declared.point.Point.TheVariants.{Did}
use Rattle.mako_model.specs.Fronts.{Seen, calls_by, FollowsPrograms}
use Rattle.mako_model.specs.Legal.{Facts}
use Rattle.mako_model.specs.LawfulFronts.{IsLawfulFront}
use Rattle.mako_model.specs.Starved.{IsStarved}

-- where the front has a `Full`, there was no room
abbrev pub FullsAreStarved : Facts → Seen → Type 0
FullsAreStarved w front = (before after : List Point) (mutator root fields : ℕ) →
    front.history ≡ before ++ Did mutator (New root fields) Full ∷ after → IsStarved w front before mutator fields

-- the front answers the script as far as it goes
pub record Answers (w : Facts) (front : Seen) : Type 0 where
  pub lawful : IsLawfulFront w front
  pub starved : FullsAreStarved w front
  pub programs : FollowsPrograms w.programs front.history

-- it answers each call of each program
pub record AnswersToEnd (w : Facts) (front : Seen) : Type 0 where
  pub answers : Answers w front
  pub all : (mutator : ℕ) (program : List Call) → slice_get w.programs mutator ≡ Some program
      → calls_by mutator front.history ≡ program
