-- The ties of names, with all lists of freed names at hand.
use Rattle.std.specs.Prelude.{◌≡◌, ℕ, List, ◌++◌, length, slice_get, Some}
use Rattle.mako_words.specs.declared.name.Name.{Name}
use Rattle.mako_shape.specs.declared.numbers.Numbers.{Numbers}
use Rattle.mako_shape.specs.Places.{total}
use Rattle.mako_model.specs.declared.call.Call.{Call}
use Rattle.mako_model.specs.declared.point.Point.{Point}
use Rattle.mako_model.specs.Fronts.{Seen, calls_by}
use Rattle.mako_model.specs.Legal.{Facts}
use Rattle.mako_model.specs.Answering.{Answers}
use Rattle.mako_names.specs.Freeing.{Freeing, FreeingFits, EpochsFit}
use Rattle.mako_names.specs.Tables.{TableStands, phase_of}
use Rattle.mako_names.specs.Trying.{Trying, AllTrying}
use Rattle.mako_names.specs.Uses.{UsesStand}

-- the mutator's program is its calls that are answered, and these
abbrev pub IsLeft : Facts → List Point → ℕ → List Call → Type 0
IsLeft w history m left =
    (program : List Call) → slice_get w.programs m ≡ Some program → program ≡ calls_by m history ++ left

-- so it is with the calls that are left of each mutator
abbrev pub AllLeft : Facts → List Point → List (List Call) → Type 0
AllLeft w history facets = (m : ℕ) (left : List Call) → slice_get facets m ≡ Some left → IsLeft w history m left

-- What is read of the seats: by seat the names that it has still to use; by mutator what it knows of its attempt, and
-- the calls that are left; and by server what it has freed.
pub record NameFacets : Type 0 where
  pub held : List (List Name)
  pub trying : List Trying
  pub left : List (List Call)
  pub freeing : List Freeing

-- The front answers the script, and what words and seats have of names, entries and cycles is what it says.
pub record NamesHoldWith (n : Numbers) (w : Facts) (ws : List ℕ) (front : Seen) (facets : NameFacets) : Type 0 where
  pub size : length ws ≡ total n
  pub answers : Answers w front
  pub table : TableStands n ws w front
  pub uses : UsesStand n ws w front.history facets.held
  pub trying : AllTrying w front facets.trying
  pub left : AllLeft w front.history facets.left
  pub freeing : FreeingFits (phase_of n ws) n ws w front.history facets.freeing
  pub epochs : EpochsFit (phase_of n ws) n ws w front.history
