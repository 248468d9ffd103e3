-- The runs of a shutting: at each stage, what was made so far.
use Rattle.std.proofs.Common.{◌≡◌, ℕ, ◌<◌, Bool, true, false, List, [], ◌∷◌, ◌++◌, map, if◌then◌else◌, refl, sym, ap}
use Rattle.std.proofs.Common.{subst, ◌∙◌, arith}
use Rattle.std.specs.List.{All}
use Rattle.std.proofs.lemmas.List.{map-append}
use Rattle.std.proofs.lemmas.List.Elements.{All-append, All-cons, All-nil}
use Rattle.std.proofs.lemmas.Bool.Decides.{nat_tests}
use Rattle.mako_words.specs.Gates.{count_of}
use Rattle.mako_step.specs.Trails.{Observation, Goes, stays, steps}
use Rattle.mako_step.specs.declared.act.Op.TheVariants.{Load, Or}
use Rattle.mako_step.specs.declared.act.Act.{Act}
use Rattle.mako_step.specs.declared.step.Step.TheVariants.{Do}
use Rattle.mako_gate.specs.Bits.{shut_bit}
use Rattle.mako_gate.specs.Shutting.{Shutdown, shutdown_next, next_of, Fits, fed, stage_fed, is_counting}
use Rattle.mako_gate.specs.Runs.{sees, ShutBy, ShutdownsRun}
use Rattle.mako_gate.specs.declared.shutter.ShutStage.{ShutStage}
use Rattle.mako_gate.specs.declared.shutter.ShutStage.TheVariants.{Shutting, Looking, Ended}
use Rattle.mako_gate.proofs.Trails.{longer}

-- the shut bit was set, and each look so far counted somebody
record Looked (word : ℕ) (trail : List Observation) : Type 0 where
  before : ℕ
  looks : List ℕ
  made_so : trail ≡ sees word (Or shut_bit) before ∷ map (sees word Load) looks
  counted : All (λ w. 0 < count_of w) looks

abbrev Made : ℕ → List Observation → ShutStage → Type 0
Made word trail Shutting = trail ≡ []
Made word trail Looking = Looked word trail
Made word trail Ended = ShutBy word trail

counts : (w : ℕ) → is_counting w ≡ true → 0 < count_of w
counts w e = grind (arith, nat_tests)

counts_not : (w : ℕ) → is_counting w ≡ false → count_of w ≡ 0
counts_not w e = grind (arith, nat_tests)

looked : (word w : ℕ) (trail : List Observation) (m : Looked word trail) (b : Bool) → is_counting w ≡ b →
    (next : List Observation)
    → next ≡ sees word (Or shut_bit) m.before ∷ (map (sees word Load) m.looks ++ sees word Load w ∷ []) →
    Made word next (if b then Looking else Ended)
looked word w trail m true e next t = record {
  before = m.before;
  looks = m.looks ++ w ∷ [];
  made_so = t ∙ ap (λ l. sees word (Or shut_bit) m.before ∷ l) (sym (map-append (sees word Load) m.looks (w ∷ [])));
  counted = All-append (λ v. 0 < count_of v) m.looks (w ∷
      []) m.counted (All-cons (λ v. 0 < count_of v) w [] (counts w e) (All-nil (λ v. 0 < count_of v)));
}
looked word w trail m false e next t = record {
  before = m.before;
  looks = m.looks;
  last = w;
  made = t;
  counted = m.counted;
  empty = counts_not w e;
}

step : (word w : ℕ) (trail : List Observation) (act : Act) (s : ShutStage) → Made word trail s
    → shutdown_next word s ≡ Do act →
    Made word (trail ++ record { act = act; found = w } ∷ []) (stage_fed s w)
step word w trail act Shutting m d =
    record {
      before = w;
      looks = [];
      made_so = longer trail [] word w (Or shut_bit) act m d;
      counted = All-nil (λ v. 0 < count_of v);
    }
step word w trail act Looking m d = looked word w trail m (is_counting w) refl _
    (longer trail (sees word (Or shut_bit) m.before ∷ map (sees word Load) m.looks) word w Load act m.made_so d)
step word w trail act Ended m d = absurd (cc)

made_by : (m l : Shutdown) (trail : List Observation) → Goes next_of Fits fed m trail l → m.stage ≡ Shutting →
    (l.word ≡ m.word) × Made m.word trail l.stage
made_by m l _ (stays _) e = (refl, subst (λ s. Made m.word [] s) (sym e) refl)
made_by m _ _ (steps _ l trail act w goes d fits) e =
    let r = made_by m l trail goes e in
    (r.0, step m.word w trail act l.stage r.1 (subst (λ q. shutdown_next q l.stage ≡ Do act) r.0 d))

pub shutdowns_run : ShutdownsRun
shutdowns_run word trail after goes ended =
    subst (Made word trail) ended (made_by (record { word = word; stage = Shutting }) after trail goes refl).1
