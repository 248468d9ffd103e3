-- What holds along a trail, and how trails grow.
use Rattle.std.proofs.Common.{◌≡◌, ℕ, List, [], ◌∷◌, ◌++◌, append_assoc, append-nil, ap, ◌∙◌, sym, subst, refl}
use Rattle.mako_step.specs.Machines.{IsAct}
use Rattle.mako_step.specs.Trails.{Observation, Goes}
use Rattle.mako_step.specs.Trails.Goes.{stays, steps}
use Rattle.mako_step.specs.declared.act.Act.{Act}
use Rattle.mako_step.specs.declared.act.Op.TheVariants.{Load}
use Rattle.mako_step.specs.declared.step.Step.{Step}
use Rattle.mako_step.specs.declared.step.Step.TheVariants.{Do, Ended}
use Rattle.mako_evac.specs.Evacuating.{Evacuation, IsKnown, Fits, fed, next_of}
use Rattle.mako_evac.proofs.Going.{step_known}

-- the act that is made, with the word that it found
abbrev pub did : Step → Act
did (Do act) = act
did Ended = record { word = 0; op = Load }

abbrev pub seen : Step → ℕ → Observation
seen step w = record { act = did step; found = w }

pub is_act : (step : Step) (act : Act) → step ≡ Do act → IsAct step
is_act step act e = subst IsAct (sym e) tt

pub act_done : (step : Step) → IsAct step → step ≡ Do (did step)
act_done (Do act) h = refl
act_done Ended h = absurd h

-- a trail in two parts with one observation more
pub grown : (trail front own : List Observation) (o : Observation) → trail ≡ front ++ own
    → trail ++ o ∷ [] ≡ front ++ (own ++ o ∷ [])
grown trail front own o e = ap (λ (q : List Observation). q ++ o ∷ []) e ∙ append_assoc front own (o ∷ [])

-- one whose second part was empty
pub first_grown : (trail front own : List Observation) (o : Observation) → trail ≡ front ++ own → own ≡ []
    → trail ++ o ∷ [] ≡ front ++ o ∷ []
first_grown trail front own o e empty =
    ap (λ (q : List Observation). q ++ o ∷ []) (e
    ∙ (ap (λ (q : List Observation). front ++ q) empty ∙ append-nil front))

-- a fact that each step keeps
abbrev pub Keeps : (Evacuation → List Observation → Type 0) → Type 0
Keeps P = (l : Evacuation) (trail : List Observation) (w : ℕ) → IsKnown l → IsAct (next_of l) → Fits l w →
    P l trail → P (fed l w) (trail ++ seen (next_of l) w ∷ [])

-- what holds at the end of a trail
pub record Along (P : Evacuation → List Observation
    → Type 0) (m : Evacuation) (trail : List Observation) (l : Evacuation) : Type 0 where
  pub known : IsKnown l
  pub same : l.owner ≡ m.owner
  pub holds : P l trail

pub along : (P : Evacuation → List Observation → Type 0) (m : Evacuation) (trail : List Observation) (l : Evacuation) →
    Goes next_of Fits fed m trail l → IsKnown m → Keeps P → P m [] → Along P m trail l
along P m trail l (stays _) known keeps start = record { known = known; same = refl; holds = start }
along P m trail l (steps _ k before act w goes next fits) known keeps start =
    let rest : Along P m before k = along P m before k goes known keeps start in
    let acts : IsAct (next_of k) = is_act (next_of k) act next in
    record {
      known = step_known k w rest.known fits acts;
      same = rest.same;
      holds = subst
          (λ (a : Act). P (fed k w) (before ++ record { act = a; found = w } ∷ []))
          (ap did next)
          (keeps k before w rest.known acts fits rest.holds);
    }
