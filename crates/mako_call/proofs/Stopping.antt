-- An attempt whose arrival at its own gate found the shut bit comes to the pause that says so.
use Rattle.std.proofs.Common.{◌≡◌, ℕ, Bool, true, List, [], ◌∷◌, ◌++◌, Option, Some, None, ◌⊎◌, inl, inr, subst, sym}
use Rattle.std.proofs.Common.{ap, ◌∙◌, refl}
use Rattle.mako_words.specs.Gates.{is_shut}
use Rattle.mako_shape.specs.Places.{index, phase}
use Rattle.mako_step.specs.Acts.{does}
use Rattle.mako_step.specs.Trails.{Observation, Goes}
use Rattle.mako_step.specs.Trails.Goes.{stays, steps}
use Rattle.mako_step.specs.declared.act.Act.{Act}
use Rattle.mako_step.specs.declared.act.Op.TheVariants.{Load, Add}
use Rattle.mako_step.specs.declared.step.Step.TheVariants.{Do, Ended as NoStep}
use Rattle.mako_model.specs.declared.call.Call.{Call}
use Rattle.mako_model.specs.declared.call.Call.TheVariants.{New, Num, CopyRoot, DropRoot, Get, Put, Show, Collect}
use Rattle.mako_model.specs.declared.attempt.Attempt.TheVariants.{Pause as Paused}
use Rattle.mako_model.specs.declared.attempt.Pause.TheVariants.{Stopped}
use Rattle.mako_call.specs.declared.caller.Caller.{Caller}
use Rattle.mako_call.specs.declared.call_stage.CallStage.{CallStage}
use Rattle.mako_call.specs.declared.call_stage.CallStage.TheVariants.{Arriving, Leaving, Ended}
use Rattle.mako_call.specs.declared.leaving.LeaveStage.TheVariants.{Refused}
use Rattle.mako_call.specs.Calls.{Calling, next_of, stage_next, fed, stage_fed, arrived, Fits, opening, first_stage}
use Rattle.mako_call.specs.Causes.{own_arrival, IsStopped, ShutGatesStop}

-- it takes its arrival back, or has come to the pause
abbrev IsTurned : ℕ → CallStage → Type 0
IsTurned w stage = (stage ≡ Leaving (Refused w)) ⊎ (stage ≡ Ended (Paused (Stopped w)))

longer_than_none : (xs : List Observation) (o : Observation) → xs ++ o ∷ [] ≡ [] → ⊥
longer_than_none [] o e = cc
longer_than_none (x ∷ xs) o e = cc

goes_nowhere : (m l : Calling) (trail : List Observation) → Goes next_of Fits fed m trail l → trail ≡ [] → l ≡ m
goes_nowhere m l trail (stays _) e = refl
goes_nowhere m l trail (steps _ j before act w goes next fits) e =
    absurd (longer_than_none before (record { act = act; found = w }) e)

-- the first act of a call, where it found the shut bit
arrival_turned : (k : Caller) (call : Call) (last : Bool) (slot w v : ℕ) (act : Act) (later : List Observation)
    → stage_next k slot Arriving ≡ Do act →
    record { act = act; found = v } ∷ [] ≡ own_arrival k w ∷ later → is_shut w ≡ true
    → IsTurned w (stage_fed k call last slot Arriving v)
arrival_turned k call last slot w v act later next first shut =
    let same : record { act = act; found = v } ≡ own_arrival k w = cc in
    let found_is : v ≡ w = ap (λ (o : Observation). o.found) same in
    inl (ap (λ q. arrived call q (is_shut q)) found_is ∙ ap (arrived call w) shut)

asking_absurd : (n : ℕ) (k : Caller) (w v : ℕ) (act : Act) (later : List Observation) → does n Load ≡ Do act
    → record { act = act; found = v } ∷ [] ≡ own_arrival k w ∷ later → ⊥
asking_absurd n k w v act later next first =
    let loads : act ≡ record { word = n; op = Load } = cc in
    let arrives : act ≡ (own_arrival k w).act = cc in
    let ops : Load ≡ Add 1 = sym (ap (λ (a : Act). a.op) loads) ∙ ap (λ (a : Act). a.op) arrives in
    cc

first_turned : (k : Caller) (call : Call) (last : Bool) (asked : Option ℕ) (slot w v : ℕ) (act : Act)
    (later : List Observation) → stage_next k slot (first_stage call asked) ≡ Do act →
    record { act = act; found = v } ∷ [] ≡ own_arrival k w ∷ later → is_shut w ≡ true
    → IsTurned w (stage_fed k call last slot (first_stage call asked) v)
first_turned k (New root fields) last asked slot w v act later next first shut =
    arrival_turned k (New root fields) last slot w v act later next first shut
first_turned k (Num root x) last asked slot w v act later next first shut =
    arrival_turned k (Num root x) last slot w v act later next first shut
first_turned k (CopyRoot to from) last asked slot w v act later next first shut =
    arrival_turned k (CopyRoot to from) last slot w v act later next first shut
first_turned k (DropRoot root) last asked slot w v act later next first shut =
    arrival_turned k (DropRoot root) last slot w v act later next first shut
first_turned k (Get to from field) last asked slot w v act later next first shut =
    arrival_turned k (Get to from field) last slot w v act later next first shut
first_turned k (Put to field from) last asked slot w v act later next first shut =
    arrival_turned k (Put to field from) last slot w v act later next first shut
first_turned k (Show root) last asked slot w v act later next first shut =
    arrival_turned k (Show root) last slot w v act later next first shut
first_turned k Collect last None slot w v act later next first shut =
    absurd (asking_absurd (index k.shape phase) k w v act later next first)
first_turned k Collect last (Some cycle) slot w v act later next first shut =
    absurd (asking_absurd (index k.shape phase) k w v act later next first)

-- a step from there
next_turned : (j : Calling) (w v : ℕ) (act : Act) → next_of j ≡ Do act → IsTurned w j.stage → IsTurned w (fed j v).stage
next_turned j w v act next turned = elim turned [
  | inl at ↦ inr (ap (λ s. stage_fed j.caller j.call j.last j.slot s v) at)
  | inr at ↦ absurd (let ended : NoStep ≡ Do act = sym (ap (stage_next j.caller j.slot) at) ∙ next in cc)
]

turned_on : (k : Caller) (call : Call) (last : Bool) (asked : Option ℕ) (slot : ℕ) (m j : Calling)
    (before : List Observation) (act : Act) (v w : ℕ) → m ≡ opening k call last asked slot →
    Goes next_of Fits fed m before j → next_of j ≡ Do act → (IsStopped k before w → IsTurned w j.stage)
    → IsStopped k (before ++ record { act = act; found = v } ∷ []) w → IsTurned w (fed j v).stage
turned_on k call last asked slot m j [] act v w is goes next earlier stopped =
    let at : j ≡ opening k call last asked slot = goes_nowhere m j [] goes refl ∙ is in
    let P : Calling → Type 0 = λ q. next_of q ≡ Do act → IsTurned w (fed q v).stage in
    let here : P (opening k call last asked slot) =
    λ n. first_turned k call last asked slot w v act stopped.later n stopped.first stopped.shut in
    subst P (sym at) here next
turned_on k call last asked slot m j (x ∷ xs) act v w is goes next earlier stopped =
    let head : x ≡ own_arrival k w = (let all = stopped.first in cc) in
    next_turned j w v act next (earlier (record { later = xs; first = ap (λ o. o ∷ xs) head; shut = stopped.shut }))

turned : (k : Caller) (call : Call) (last : Bool) (asked : Option ℕ) (slot : ℕ) (m l : Calling)
    (trail : List Observation) → m ≡ opening k call last asked slot →
    Goes next_of Fits fed m trail l → (w : ℕ) → IsStopped k trail w → IsTurned w l.stage
turned k call last asked slot m l trail is (stays _) w stopped = absurd (let none = stopped.first in cc)
turned k call last asked slot m l trail is (steps _ j before act v goes next fits) w stopped =
    turned_on k call last asked slot m j before act v w is goes next
    (turned k call last asked slot m j before is goes w) stopped

pub shut_gates_stop : ShutGatesStop
shut_gates_stop k call last asked slot trail l outcome w goes stopped ended =
    elim (turned k call last asked slot (opening k call last asked slot) l trail refl goes w stopped) [
      | inl at ↦ absurd (let both : Leaving (Refused w) ≡ Ended outcome = sym at ∙ ended in cc)
      | inr at ↦ (let both : Ended (Paused (Stopped w)) ≡ Ended outcome = sym at ∙ ended in
          let same : Paused (Stopped w) ≡ outcome = cc in sym same)
    ]
