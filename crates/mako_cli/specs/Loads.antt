-- What the command that replays a workload writes.
use Rattle.std.specs.Prelude.{ℕ, ◌<◌, ◌++◌, Bool, true, false, List, [], ◌∷◌, length, codes}
use Rattle.std.specs.List.{sum_by, count_by}
use Rattle.std.specs.Fmt.{decimal}
use Rattle.mako_script.specs.Outputs.{last_line}
use Rattle.mako_model.specs.Fronts.{Seen}
use Rattle.mako_model.specs.declared.point.Point.{Point}
use Rattle.mako_model.specs.declared.point.Point.TheVariants.{Did, Snap}

-- a point of a mutator, which is an answered command
abbrev pub is_answer : Point → Bool
is_answer (Did mutator call reply) = true
is_answer (Snap cycle) = false

-- each answered command is one of so many mutators
abbrev pub AreOfMutators : ℕ → List Point → Type 0
AreOfMutators count [] = Unit {0}
AreOfMutators count (Did mutator call reply ∷ points) = (mutator < count) × AreOfMutators count points
AreOfMutators count (Snap cycle ∷ points) = AreOfMutators count points

-- a line of a word and a number
abbrev pub count_line : List ℕ → ℕ → List ℕ
count_line word n = word ++ (decimal n ++ codes "\n")

-- the workload's number, how many commands were answered, cycles finished and names were freed in them, and the last
-- line of the output
abbrev pub summary_text : ℕ → Seen → Bool → List ℕ
summary_text number front finished =
    count_line (codes "load ") number
    ++ (count_line (codes "commands ") (count_by is_answer front.history)
    ++ (count_line (codes "cycles ") (length front.finished)
    ++ (count_line (codes "freed ") (sum_by length front.finished)
    ++ last_line finished)))
