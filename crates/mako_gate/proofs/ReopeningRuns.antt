-- The runs of a reopening: at each stage, what was made so far.
use Rattle.std.proofs.Common.{◌≡◌, ℕ, List, [], ◌∷◌, ◌++◌, refl, sym, subst}
use Rattle.mako_words.specs.Words.{all_but}
use Rattle.mako_step.specs.Trails.{Observation, Goes, stays, steps}
use Rattle.mako_step.specs.declared.act.Op.TheVariants.{And}
use Rattle.mako_step.specs.declared.act.Act.{Act}
use Rattle.mako_step.specs.declared.step.Step.TheVariants.{Do}
use Rattle.mako_gate.specs.Bits.{shut_bit}
use Rattle.mako_gate.specs.Reopening.{Reopening, reopening_next, next_of, Fits, fed}
use Rattle.mako_gate.specs.Runs.{sees, ReopeningsRun}
use Rattle.mako_gate.specs.declared.reopen.ReopenStage.{ReopenStage}
use Rattle.mako_gate.specs.declared.reopen.ReopenStage.TheVariants.{Clearing, Ended}
use Rattle.mako_gate.proofs.Trails.{longer}

abbrev Made : ℕ → List Observation → ReopenStage → Type 0
Made word trail Clearing = trail ≡ []
Made word trail Ended = (w : ℕ) × (trail ≡ sees word (And (all_but shut_bit)) w ∷ [])

step : (word w : ℕ) (trail : List Observation) (act : Act) (s : ReopenStage) → Made word trail s
    → reopening_next word s ≡ Do act →
    Made word (trail ++ record { act = act; found = w } ∷ []) Ended
step word w trail act Clearing m d = (w, longer trail [] word w (And (all_but shut_bit)) act m d)
step word w trail act Ended m d = absurd (cc)

made : (m l : Reopening) (trail : List Observation) → Goes next_of Fits fed m trail l → m.stage ≡ Clearing →
    (l.word ≡ m.word) × Made m.word trail l.stage
made m l _ (stays _) e = (refl, subst (λ s. Made m.word [] s) (sym e) refl)
made m _ _ (steps _ l trail act w goes d fits) e =
    let r = made m l trail goes e in
    (r.0, step m.word w trail act l.stage r.1 (subst (λ q. reopening_next q l.stage ≡ Do act) r.0 d))

pub reopenings_run : ReopeningsRun
reopenings_run word trail after goes ended =
    subst (Made word trail) ended (made (record { word = word; stage = Clearing }) after trail goes refl).1
