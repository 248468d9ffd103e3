-- A trail with one more observation.
use Rattle.std.proofs.Common.{◌≡◌, ℕ, List, [], ◌∷◌, ◌++◌, ap, ◌∙◌}
use Rattle.mako_step.specs.Acts.{does}
use Rattle.mako_step.specs.Trails.{Observation}
use Rattle.mako_step.specs.declared.act.Op.{Op}
use Rattle.mako_step.specs.declared.act.Act.{Act}
use Rattle.mako_step.specs.declared.step.Step.TheVariants.{Do}
use Rattle.mako_gate.specs.Runs.{sees}

pub longer : (trail before : List Observation) (word w : ℕ) (op : Op) (act : Act) → trail ≡ before
    → does word op ≡ Do act →
    trail ++ record { act = act; found = w } ∷ [] ≡ before ++ sees word op w ∷ []
longer trail before word w op act e d =
    let same : act ≡ record { word = word; op = op } = cc in
    ap (λ (t : List Observation). t ++ record { act = act; found = w } ∷ []) e
    ∙ ap (λ (a : Act). before ++ record { act = a; found = w } ∷ []) same
