-- The runs of an arrival: at each stage, what was made so far.
use Rattle.std.proofs.Common.{◌≡◌, ℕ, Bool, true, false, List, [], ◌∷◌, ◌++◌, if◌then◌else◌, refl, sym, subst}
use Rattle.mako_words.specs.Gates.{is_shut}
use Rattle.mako_step.specs.Trails.{Observation, Goes, stays, steps}
use Rattle.mako_step.specs.declared.act.Op.TheVariants.{Add, Sub}
use Rattle.mako_step.specs.declared.act.Act.{Act}
use Rattle.mako_step.specs.declared.step.Step.TheVariants.{Do}
use Rattle.mako_gate.specs.Arriving.{Arrival, arrival_next, next_of, Fits, fed, stage_fed}
use Rattle.mako_gate.specs.Runs.{sees, ArrivedBy, ArrivalsRun}
use Rattle.mako_gate.specs.declared.arrive.Arrived.TheVariants.{Inside}
use Rattle.mako_gate.specs.declared.arrive.ArriveStage.{ArriveStage}
use Rattle.mako_gate.specs.declared.arrive.ArriveStage.TheVariants.{Arriving, TakingBack, Ended}
use Rattle.mako_gate.proofs.Trails.{longer}

abbrev Made : ℕ → List Observation → ArriveStage → Type 0
Made word trail Arriving = trail ≡ []
Made word trail (TakingBack w) = (is_shut w ≡ true) × (trail ≡ sees word (Add 1) w ∷ [])
Made word trail (Ended arrived) = ArrivedBy word trail arrived

found : (word w : ℕ) (trail : List Observation) (b : Bool) → is_shut w ≡ b → trail ≡ sees word (Add 1) w ∷ [] →
    Made word trail (if b then TakingBack w else Ended Inside)
found word w trail true e t = (e, t)
found word w trail false e t = (w, e, t)

step : (word w : ℕ) (trail : List Observation) (act : Act) (s : ArriveStage) → Made word trail s
    → arrival_next word s ≡ Do act →
    Made word (trail ++ record { act = act; found = w } ∷ []) (stage_fed s w)
step word w trail act Arriving m d = found word w _ (is_shut w) refl (longer trail [] word w (Add 1) act m d)
step word w trail act (TakingBack v) m d = (w, m.0, longer trail (sees word (Add 1) v ∷ []) word w (Sub 1) act m.1 d)
step word w trail act (Ended arrived) m d = absurd (cc)

made : (m l : Arrival) (trail : List Observation) → Goes next_of Fits fed m trail l → m.stage ≡ Arriving →
    (l.word ≡ m.word) × Made m.word trail l.stage
made m l _ (stays _) e = (refl, subst (λ s. Made m.word [] s) (sym e) refl)
made m _ _ (steps _ l trail act w goes d fits) e =
    let r = made m l trail goes e in
    (r.0, step m.word w trail act l.stage r.1 (subst (λ q. arrival_next q l.stage ≡ Do act) r.0 d))

pub arrivals_run : ArrivalsRun
arrivals_run word trail after arrived goes ended =
    subst (Made word trail) ended (made (record { word = word; stage = Arriving }) after trail goes refl).1
