-- How many names are freed.
use Rattle.std.specs.Prelude.{ℕ, ◌≡◌, ◌+◌, ◌≤◌, List, length, slice_get, sum_by, Some}
use Rattle.mako_words.specs.declared.name.Name.{Name}
use Rattle.mako_words.specs.declared.phase_word.PhaseWord.TheVariants.{Evac}
use Rattle.mako_shape.specs.declared.numbers.Numbers.{Numbers}
use Rattle.mako_model.specs.Dead.{names_made}
use Rattle.mako_model.specs.Legal.{Facts}
use Rattle.mako_names.specs.Tables.{phase_of}
use Rattle.mako_joint.specs.Joints.{JointScene, Joint}

-- The names that finished cycles freed, those that the collector has got, and those that the server that it reads has
-- sent are no more than the names made: so there is room for each that it takes.
abbrev pub FreedAreFew : Type 0
FreedAreFew = (n : Numbers) (w : Facts) (s : JointScene) (cycle : ℕ) (sent : List Name) → Joint n w s
    → phase_of n s.words ≡ Evac cycle
    → slice_get s.facets.names.sent s.facets.names.collector.server ≡ Some sent
    → sum_by length s.front.finished + length s.facets.names.collector.names + length sent
    ≤ length (names_made s.front.history)
