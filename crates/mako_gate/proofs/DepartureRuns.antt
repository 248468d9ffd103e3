-- The runs of a departure: at each stage, what was made so far.
use Rattle.std.proofs.Common.{◌≡◌, ℕ, List, [], ◌∷◌, ◌++◌, refl, sym, subst}
use Rattle.mako_step.specs.Trails.{Observation, Goes, stays, steps}
use Rattle.mako_step.specs.declared.act.Op.TheVariants.{Sub}
use Rattle.mako_step.specs.declared.act.Act.{Act}
use Rattle.mako_step.specs.declared.step.Step.TheVariants.{Do}
use Rattle.mako_gate.specs.Leaving.{Departure, departure_next, next_of, Fits, fed}
use Rattle.mako_gate.specs.Runs.{sees, DeparturesRun}
use Rattle.mako_gate.specs.declared.leave.LeaveStage.{LeaveStage}
use Rattle.mako_gate.specs.declared.leave.LeaveStage.TheVariants.{Leaving, Ended}
use Rattle.mako_gate.proofs.Trails.{longer}

abbrev Made : ℕ → List Observation → LeaveStage → Type 0
Made word trail Leaving = trail ≡ []
Made word trail Ended = (w : ℕ) × (trail ≡ sees word (Sub 1) w ∷ [])

step : (word w : ℕ) (trail : List Observation) (act : Act) (s : LeaveStage) → Made word trail s
    → departure_next word s ≡ Do act →
    Made word (trail ++ record { act = act; found = w } ∷ []) Ended
step word w trail act Leaving m d = (w, longer trail [] word w (Sub 1) act m d)
step word w trail act Ended m d = absurd (cc)

made : (m l : Departure) (trail : List Observation) → Goes next_of Fits fed m trail l → m.stage ≡ Leaving →
    (l.word ≡ m.word) × Made m.word trail l.stage
made m l _ (stays _) e = (refl, subst (λ s. Made m.word [] s) (sym e) refl)
made m _ _ (steps _ l trail act w goes d fits) e =
    let r = made m l trail goes e in
    (r.0, step m.word w trail act l.stage r.1 (subst (λ q. departure_next q l.stage ≡ Do act) r.0 d))

pub departures_run : DeparturesRun
departures_run word trail after goes ended =
    subst (Made word trail) ended (made (record { word = word; stage = Leaving }) after trail goes refl).1
