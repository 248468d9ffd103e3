-- What holds along a trail.
use Rattle.std.proofs.Common.{◌≡◌, ℕ, List, [], ◌∷◌, ◌++◌, ap, subst, refl}
use Rattle.mako_step.specs.Machines.{IsAct}
use Rattle.mako_step.proofs.Along as machine
use Rattle.mako_step.proofs.Along.{did, is_act}
use Rattle.mako_step.specs.Trails.{Observation, Goes}
use Rattle.mako_step.specs.declared.act.Act.{Act}
use Rattle.mako_alloc.specs.Allocating.{Allocation, IsKnown, Fits, fed, next_of}
use Rattle.mako_alloc.proofs.Going.{step_goes_on}

-- the trail with what the next act finds
abbrev pub longer : Allocation → List Observation → ℕ → List Observation
longer l trail w = trail ++ record { act = did (next_of l); found = w } ∷ []

-- a fact that each step keeps
abbrev pub Keeps : (Allocation → List Observation → Type 0) → Type 0
Keeps P =
    (l : Allocation) (trail : List Observation) (w : ℕ) → IsKnown l.job l.progress → IsAct (next_of l) → Fits l w →
    P l trail → P (fed l w) (longer l trail w)

-- what holds at the end of a trail
pub record Along (P : Allocation → List Observation
    → Type 0) (m : Allocation) (trail : List Observation) (l : Allocation) : Type 0 where
  pub known : IsKnown l.job l.progress
  pub same : l.job ≡ m.job
  pub holds : P l trail

pub along : (P : Allocation → List Observation → Type 0) (m : Allocation) (trail : List Observation) (l : Allocation) →
    Goes next_of Fits fed m trail l → IsKnown m.job m.progress → Keeps P → P m [] → Along P m trail l
along P m trail l goes known keeps start =
    let one : machine.Keeps next_of Fits fed (λ k before. Along P m before k) = λ k before act w next fits rest.
    (let acts : IsAct (next_of k) = is_act (next_of k) act next in
    record {
      known = (step_goes_on k.job k.progress w rest.known fits acts).0;
      same = rest.same;
      holds = subst (λ (a : Act). P (fed k w) (before ++ record { act = a; found = w } ∷ [])) (ap did next)
          (keeps k before w rest.known acts fits rest.holds);
    }) in
    machine.along next_of Fits fed (λ k before. Along P m before k) one m l trail (record {
      known = known;
      same = refl;
      holds = start;
    }) goes
