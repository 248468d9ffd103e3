-- The collector's machine before its first step.
use Rattle.std.specs.Prelude.{ℕ, ◌≡◌, ◌<◌, List}
use Rattle.mako_shape.specs.Limits.{IsShape}
use Rattle.mako_shape.specs.Places.{barrier, word_at}
use Rattle.mako_layout.specs.Facets.{rests_with}
use Rattle.mako_layout.specs.Layouts.{regions_of}
use Rattle.mako_layout.specs.Openings.{spares_below}
use Rattle.mako_script.specs.Scripts.{ScriptView}
use Rattle.mako_pause.specs.Keeping.{IsKeptKnown}
use Rattle.mako_pause.specs.Opening.{opening}
use Rattle.mako_collecting.specs.Keeping.{CollectorKeeps}
use Rattle.mako_collecting.specs.Roles.{RestsOf}

-- nothing is known of it yet but that it is in range, and the spare regions are those of the layout's opening
pub record IsOpened (s : ScriptView) (words : List ℕ) : Type 0 where
  pub known : IsKeptKnown (opening s).kept
  pub keeps : CollectorKeeps s.numbers words (λ m. 0) (opening s)
  pub rests : RestsOf s.numbers (rests_with (spares_below s.numbers (regions_of s.numbers))) (opening s).kept
      (spares_below s.numbers (regions_of s.numbers))

-- so it is where all barrier slots are empty
abbrev pub MachinesOpen : Type 0
MachinesOpen = (s : ScriptView) (words : List ℕ) → IsShape s.numbers
    → ((m slot : ℕ) → m < s.numbers.mutators → slot < s.numbers.ring
    → word_at s.numbers words (barrier m slot) ≡ 0) → IsOpened s words
