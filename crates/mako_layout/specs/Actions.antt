-- What a step may change.
use Rattle.std.specs.Prelude.{ℕ, ◌≡◌, ◌≢◌, ◌<◌, ◌≤◌, slice_get, Some}
use Rattle.mako_shape.specs.declared.numbers.Numbers.{Numbers}
use Rattle.mako_shape.specs.Places.{home, region_word}
use Rattle.mako_gate.specs.Changes.{tablets_of}
use Rattle.mako_gate.specs.Standings.{GateFacet, writes}
use Rattle.mako_layout.specs.Facets.{Paused}
use Rattle.mako_layout.specs.Evacuations.{State, layout, Evacuation}
use Rattle.mako_layout.specs.Steps.{Step}

-- home words change only while all mutators' gates are drained
abbrev pub HomesChangeInPauses : Type 0
HomesChangeInPauses = (n : Numbers) (s : State) (who : ℕ) (z : State) → Evacuation n s → Step n s who z →
    (t : ℕ) → t < tablets_of n → z.words (home t) ≢ s.words (home t) → Paused n s.gates

-- the seat's view may write in the tablet
pub record IsWriter (s : State) (t seat : ℕ) : Type 0 where
  pub view : GateFacet
  pub here : slice_get s.gates seat ≡ Some view
  pub may : 1 ≤ writes t view

-- words of a home behind those in use change by a step of such a seat alone
abbrev pub FreeWordsAreTheWriters : Type 0
FreeWordsAreTheWriters = (n : Numbers) (s : State) (who : ℕ) (z : State) → Evacuation n s → Step n s who z →
    (t a : ℕ) → t < tablets_of n → (layout n s).filled t ≤ a → a < n.words →
    z.words (region_word ((layout n s).home t) a) ≢ s.words (region_word ((layout n s).home t) a) → IsWriter s t who
