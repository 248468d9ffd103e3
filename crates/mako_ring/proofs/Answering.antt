-- What puts and takes come to, from the words that they found.
use Rattle.std.proofs.Common.{◌≡◌, ◌≢◌, ℕ, ◌==◌, if◌then◌else◌, Bool, true, false, List, [], ◌∷◌, ◌++◌, ap, sym, subst}
use Rattle.std.proofs.Common.{refl, ◌∙◌, arith}
use Rattle.std.proofs.lemmas.Bool.Decides.{nat_tests}
use Rattle.mako_step.specs.Trails.{Observation, Goes, stays, steps}
use Rattle.mako_step.specs.declared.act.Act.{Act}
use Rattle.mako_step.specs.declared.step.Step.{Step}
use Rattle.mako_step.specs.declared.step.Step.TheVariants.{Do, Ended as NoStep}
use Rattle.mako_ring.specs.Puts as puts
use Rattle.mako_ring.specs.Takes as takes
use Rattle.mako_ring.specs.Windows.{put_up}
use Rattle.mako_ring.specs.declared.ring.Ring.{Ring}
use Rattle.mako_ring.specs.declared.ring.Ring.TheVariants.{Barrier, Work, Ghost, Notice}
use Rattle.mako_ring.specs.declared.put.Putting.TheVariants.{Stored, Occupied}
use Rattle.mako_ring.specs.declared.put.PutStage.{PutStage}
use Rattle.mako_ring.specs.declared.put.PutStage.TheVariants.{Looking, Raising, Storing, Ended}
use Rattle.mako_ring.specs.declared.take.Taking.TheVariants.{Got, Empty}
use Rattle.mako_ring.specs.declared.take.TakeStage.{TakeStage}
use Rattle.mako_ring.specs.declared.take.TakeStage.TheVariants.{Looking as Seeking, Raising as Lifting, Clearing}
use Rattle.mako_ring.specs.declared.take.TakeStage.TheVariants.{Ended as Finished}

-- the act of a step
act_of : Step → Act → Act
act_of (Do a) d = a
act_of NoStep d = d

same_act : (a b : Act) → Do a ≡ Do b → a ≡ b
unfolding act_of
same_act a b e = ap (λ (s : Step). act_of s b) e

first_found : List Observation → ℕ
first_found [] = 0
first_found (o ∷ more) = o.found

-- ---- puts
abbrev pub LookFound : puts.PutView → ℕ → List Observation → Type 0
LookFound p w trail = puts.LookFound p w trail

-- the first word found is one
one_look : (p : puts.PutView) (v w : ℕ) (trail : List Observation) → LookFound p v trail → LookFound p w trail → v ≡ w
unfolding first_found
one_look p v w trail a b = ap first_found (sym a.1 ∙ b.1)

more_looks : (p : puts.PutView) (w : ℕ) (trail : List Observation) (o : Observation) → LookFound p w trail
    → LookFound p w (trail ++ o ∷ [])
more_looks p w trail o a = (a.0 ++ o ∷ [], ap (λ (l : List Observation). l ++ o ∷ []) a.1)

-- what a put has found where it stands
abbrev pub Evidence : puts.PutView → PutStage → List Observation → Type 0
Evidence p Looking trail = trail ≡ []
Evidence p (Raising server) trail = LookFound p 0 trail
Evidence p Storing trail = LookFound p 0 trail
Evidence p (Ended (Stored v)) trail = LookFound p 0 trail × (v ≡ put_up p.shape.ring p.window)
Evidence p (Ended (Occupied w)) trail = LookFound p w trail × (w ≢ 0)

found_evidence : (p : puts.PutView) (r : Ring) (trail : List Observation) → LookFound p 0 trail
    → Evidence p (puts.found_empty r) trail
found_evidence p (Barrier m) trail a = a
found_evidence p (Work s) trail a = a
found_evidence p (Ghost x y) trail a = a
found_evidence p (Notice s) trail a = a

look_evidence : (p : puts.PutView) (w : ℕ) (b : Bool) → (w == 0) ≡ b → (trail : List Observation) → LookFound p w trail
    → Evidence p (if b then puts.found_empty p.ring else Ended (Occupied w)) trail
look_evidence p w true e trail a =
    found_evidence p p.ring trail (subst (λ (k : ℕ). LookFound p k trail) (grind (arith, nat_tests)) a)
look_evidence p w false e trail a = (a, λ z. grind (arith, nat_tests))

next_evidence : (p : puts.PutView) (stage : PutStage) (trail : List Observation) (act : Act) (w : ℕ)
    → Evidence p stage trail → puts.stage_next p stage ≡ Do act
    → Evidence p (puts.stage_fed p stage w) (trail ++ record { act = act; found = w } ∷ [])
next_evidence p Looking trail act w e is =
    let first : trail ++ record { act = act; found = w } ∷ [] ≡ record { act = act; found = w } ∷ [] =
    ap (λ (l : List Observation). l ++ record { act = act; found = w } ∷ []) e in
    look_evidence p w (w == 0) refl _ (
      [],
      first
          ∙ ap (λ (a : Act). record { act = a; found = w } ∷ []) (sym (same_act _ act is)),
    )
next_evidence p (Raising server) trail act w e is = more_looks p 0 trail _ e
next_evidence p Storing trail act w e is = (more_looks p 0 trail _ e, refl)
next_evidence p (Ended (Stored v)) trail act w e is = absurd (cc)
next_evidence p (Ended (Occupied x)) trail act w e is = absurd (cc)

pub record Trailed (p l : puts.PutView) (trail : List Observation) : Type 0 where
  pub same : l ≡ record p { stage = l.stage }
  pub found : Evidence p l.stage trail

trailed : (p l : puts.PutView) (trail : List Observation) → p.stage ≡ Looking
    → Goes puts.next_of puts.Fits puts.fed p trail l → Trailed p l trail
trailed p l trail start (stays m) =
    record { same = refl; found = subst (λ (s : PutStage). Evidence p s []) (sym start) refl }
trailed p l trail start (steps m k before act w goes is fits) =
    let h = trailed p k before start goes in
    let next : puts.stage_next p k.stage ≡ Do act = ap (λ (x : puts.PutView). puts.stage_next x k.stage) (sym h.same)
    ∙ is in
    record {
      same = λ i. record (h.same i) { stage = puts.stage_fed k k.stage w };
      found = subst (λ (x : puts.PutView). Evidence p (puts.stage_fed x k.stage w) (before ++ record {
        act = act;
        found = w;
      } ∷ [])) (sym h.same) (next_evidence p k.stage before act w h.found next);
    }

occupied_from : (p : puts.PutView) (s : PutStage) (trail : List Observation) (w : ℕ) → Evidence p s trail
    → LookFound p w trail → w ≢ 0 → s ≡ Ended (Occupied w)
occupied_from p Looking trail w e a filled = absurd (let x = e in let y = a.1 in cc)
occupied_from p (Raising server) trail w e a filled = absurd (filled (one_look p w 0 trail a e))
occupied_from p Storing trail w e a filled = absurd (filled (one_look p w 0 trail a e))
occupied_from p (Ended (Stored v)) trail w e a filled = absurd (filled (one_look p w 0 trail a e.0))
occupied_from p (Ended (Occupied x)) trail w e a filled =
    ap (λ (k : ℕ). Ended (Occupied k)) (one_look p x w trail e.0 a)

pub puts_answer : puts.PutsAnswer
puts_answer = record {
  occupied = λ p l trail w start goes. let t = trailed p l trail start goes in (
    λ e. subst (λ (s : PutStage). Evidence p s trail) e t.found,
    λ a. occupied_from p l.stage trail w t.found a.0 a.1,
  );
  stored = λ p l trail v start goes e. subst (λ (s : PutStage). Evidence p s trail) e
      (trailed p l trail start goes).found;
}

-- ---- takes
abbrev pub Looked : takes.TakeView → ℕ → List Observation → Type 0
Looked t w trail = takes.LookFound t w trail

one_taken : (t : takes.TakeView) (v w : ℕ) (trail : List Observation) → Looked t v trail → Looked t w trail → v ≡ w
unfolding first_found
one_taken t v w trail a b = ap first_found (sym a.1 ∙ b.1)

more_taken : (t : takes.TakeView) (w : ℕ) (trail : List Observation) (o : Observation) → Looked t w trail
    → Looked t w (trail ++ o ∷ [])
more_taken t w trail o a = (a.0 ++ o ∷ [], ap (λ (l : List Observation). l ++ o ∷ []) a.1)

-- what a take has found where it stands
abbrev pub Shown : takes.TakeView → TakeStage → List Observation → Type 0
Shown t Seeking trail = trail ≡ []
Shown t (Lifting server w) trail = Looked t w trail × (w ≢ 0)
Shown t (Clearing w) trail = Looked t w trail × (w ≢ 0)
Shown t (Finished (Got w)) trail = Looked t w trail × (w ≢ 0)
Shown t (Finished Empty) trail = Looked t 0 trail

found_shown : (t : takes.TakeView) (r : Ring) (w : ℕ) (trail : List Observation) → Looked t w trail → w ≢ 0
    → Shown t (takes.found_filled r w) trail
found_shown t (Barrier m) w trail a filled = (a, filled)
found_shown t (Work s) w trail a filled = (a, filled)
found_shown t (Ghost x y) w trail a filled = (a, filled)
found_shown t (Notice s) w trail a filled = (a, filled)

look_shown : (t : takes.TakeView) (w : ℕ) (b : Bool) → (w == 0) ≡ b → (trail : List Observation) → Looked t w trail
    → Shown t (if b then Finished Empty else takes.found_filled t.ring w) trail
look_shown t w true e trail a = subst (λ (k : ℕ). Looked t k trail) (grind (arith, nat_tests)) a
look_shown t w false e trail a = found_shown t t.ring w trail a (λ z. grind (arith, nat_tests))

next_shown : (t : takes.TakeView) (stage : TakeStage) (trail : List Observation) (act : Act) (w : ℕ)
    → Shown t stage trail → takes.stage_next t stage ≡ Do act
    → Shown t (takes.stage_fed t stage w) (trail ++ record { act = act; found = w } ∷ [])
next_shown t Seeking trail act w e is =
    let first : trail ++ record { act = act; found = w } ∷ [] ≡ record { act = act; found = w } ∷ [] =
    ap (λ (l : List Observation). l ++ record { act = act; found = w } ∷ []) e in
    look_shown t w (w == 0) refl _ (
      [],
      first
          ∙ ap (λ (a : Act). record { act = a; found = w } ∷ []) (sym (same_act _ act is)),
    )
next_shown t (Lifting server x) trail act w e is = (more_taken t x trail _ e.0, e.1)
next_shown t (Clearing x) trail act w e is = (more_taken t x trail _ e.0, e.1)
next_shown t (Finished (Got x)) trail act w e is = absurd (cc)
next_shown t (Finished Empty) trail act w e is = absurd (cc)

pub record Taken (t l : takes.TakeView) (trail : List Observation) : Type 0 where
  pub same : l ≡ record t { stage = l.stage }
  pub found : Shown t l.stage trail

taken : (t l : takes.TakeView) (trail : List Observation) → t.stage ≡ Seeking
    → Goes takes.next_of takes.Fits takes.fed t trail l → Taken t l trail
taken t l trail start (stays m) =
    record { same = refl; found = subst (λ (s : TakeStage). Shown t s []) (sym start) refl }
taken t l trail start (steps m k before act w goes is fits) =
    let h = taken t k before start goes in
    let next : takes.stage_next t k.stage ≡ Do act =
    ap (λ (x : takes.TakeView). takes.stage_next x k.stage) (sym h.same) ∙ is in
    record {
      same = λ i. record (h.same i) { stage = takes.stage_fed k k.stage w };
      found = subst (λ (x : takes.TakeView). Shown t (takes.stage_fed x k.stage w) (before ++ record {
        act = act;
        found = w;
      } ∷ [])) (sym h.same) (next_shown t k.stage before act w h.found next);
    }

empty_from : (t : takes.TakeView) (s : TakeStage) (trail : List Observation) → Shown t s trail → Looked t 0 trail
    → s ≡ Finished Empty
empty_from t Seeking trail e a = absurd (let x = e in let y = a.1 in cc)
empty_from t (Lifting server x) trail e a = absurd (e.1 (one_taken t x 0 trail e.0 a))
empty_from t (Clearing x) trail e a = absurd (e.1 (one_taken t x 0 trail e.0 a))
empty_from t (Finished (Got x)) trail e a = absurd (e.1 (one_taken t x 0 trail e.0 a))
empty_from t (Finished Empty) trail e a = refl

pub takes_answer : takes.TakesAnswer
takes_answer = record {
  empty = λ t l trail start goes. let h = taken t l trail start goes in
      (λ e. subst (λ (s : TakeStage). Shown t s trail) e h.found, λ a. empty_from t l.stage trail h.found a);
  got = λ t l trail w start goes e. subst (λ (s : TakeStage). Shown t s trail) e (taken t l trail start goes).found;
}
