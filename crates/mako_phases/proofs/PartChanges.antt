-- Seats where the collector comes to another part of a cycle.
use Rattle.std.proofs.Common.{◌≡◌, ℕ, ◌+◌, inr, ◌↔◌, List, Some, None, sym, ◌∙◌, arith}
use Rattle.mako_shape.specs.declared.numbers.Numbers.{Numbers}
use Rattle.mako_phases.specs.Facets.{Part, ServerStage, resting, working, clearing, freeing, gone, Admission, outside}
use Rattle.mako_phases.specs.Facets.{asking, inside, PhaseFacet, mutating, serving, collecting, phase_during}
use Rattle.mako_phases.specs.Facets.{cycle_during, IsRestful, IsNotAdmitted}
use Rattle.mako_phases.specs.Orders.{IsTracePhase, AdmissionFits, IsResting, TracesIn, EvacuatesIn, ServerFits}
use Rattle.mako_phases.specs.Orders.{StagePassed, IsAtLeaving, SeatStands}
use Rattle.mako_phases.proofs.Parts.{server_part}

-- a mutator, where the phase is of the same cycle and as much Trace as before
pub standing_part : (n : Numbers) (p q : Part) (admission : Admission) → cycle_during q ≡ cycle_during p
    → (IsTracePhase (phase_during p) ↔ IsTracePhase (phase_during q)) → AdmissionFits n p admission
    → AdmissionFits n q admission
standing_part n p q outside same trace st = tt
standing_part n p q (asking k) same trace st = st
standing_part n p q (inside None) same trace st = tt
standing_part n p q (inside (Some kept)) same trace st =
    (st.0 ∙ sym same, ((λ x. trace.0 (st.1.0 x)), (λ x. st.1.1 (trace.1 x))))

-- a mutator, where none is admitted
pub outside_part : (n : Numbers) (p q : Part) (admission : Admission) → IsNotAdmitted admission
    → AdmissionFits n p admission → AdmissionFits n q admission
outside_part n p q outside out st = tt
outside_part n p q (asking k) out st = st
outside_part n p q (inside kept) out st = absurd out

-- each seat, where the servers fit the new part
pub seat_part : (n : Numbers) (words : List ℕ) (p q : Part) (f : PhaseFacet) → cycle_during q ≡ cycle_during p
    → (IsTracePhase (phase_during p) ↔ IsTracePhase (phase_during q))
    → ((s : ℕ) (stage : ServerStage) (ended : ℕ) → ServerFits p s stage ended → ServerFits q s stage ended)
    → (IsRestful q → IsRestful p) → SeatStands n words p f → SeatStands n words q f
seat_part n words p q (mutating admission) same trace fits rests st = standing_part n p q admission same trace st
seat_part n words p q (serving s stage ended laden) same trace fits rests st =
    server_part n words p q s stage ended laden same st (fits s stage ended st.fits) (λ r. st.rests (rests r))
seat_part n words p q (collecting part pending) same trace fits rests st = tt

-- a server at its turn is at no tablet
pub rest_no_pass : (stage : ServerStage) (u : ℕ) → IsResting stage → StagePassed stage u → ⊥
rest_no_pass resting u is has = has
rest_no_pass (working d) u is has = has
rest_no_pass (clearing d t at) u is has = is
rest_no_pass (freeing d) u is has = is
rest_no_pass gone u is has = has

pub rest_no_leaving : (stage : ServerStage) (u : ℕ) → IsResting stage → IsAtLeaving stage u → ⊥
rest_no_leaving (clearing d t at) u is has = is
rest_no_leaving stage u is has = has

pub rest_traces : (stage : ServerStage) (c : ℕ) → IsResting stage → TracesIn c stage
rest_traces resting c is = tt
rest_traces stage c is = absurd is

-- and neither is one that traces
pub trace_no_pass : (c : ℕ) (stage : ServerStage) (u : ℕ) → TracesIn c stage → StagePassed stage u → ⊥
trace_no_pass c resting u is has = has
trace_no_pass c (working d) u is has = has
trace_no_pass c (clearing d t at) u is has = is
trace_no_pass c (freeing d) u is has = is
trace_no_pass c gone u is has = has

pub trace_no_leaving : (c : ℕ) (stage : ServerStage) (u : ℕ) → TracesIn c stage → IsAtLeaving stage u → ⊥
trace_no_leaving c (clearing d t at) u is has = is
trace_no_leaving c stage u is has = has

pub trace_evacuates : (c ended : ℕ) (stage : ServerStage) → TracesIn c stage → ended + 1 ≡ c → EvacuatesIn c ended stage
trace_evacuates c ended resting is e = inr e
trace_evacuates c ended (working d) is e = (is, e)
trace_evacuates c ended stage is e = absurd is

-- a server that has ended the cycle is at its turn
pub ended_rests : (c ended : ℕ) (stage : ServerStage) → EvacuatesIn c ended stage → ended ≡ c → IsResting stage
ended_rests c ended resting is e = tt
ended_rests c ended (working d) is e = let h = is.1 in absurd (omega arith)
ended_rests c ended (clearing d t at) is e = let h = is.1 in absurd (omega arith)
ended_rests c ended (freeing d) is e = let h = is.1 in absurd (omega arith)
ended_rests c ended gone is e = is
