-- A server that evacuates sits past its own step.
use Rattle.std.proofs.Common.{◌≡◌, ℕ, Bool, true, List, [], slice_get, Some, sym, ap, subst, refl, ◌∙◌}
use Rattle.mako_words.specs.declared.name.Name.{Name}
use Rattle.mako_words.specs.declared.phase_word.PhaseWord.TheVariants.{Evac}
use Rattle.mako_words.specs.Phases.{cycle_of}
use Rattle.mako_shape.specs.declared.numbers.Numbers.{Numbers}
use Rattle.mako_step.specs.Machines.{IsAct}
use Rattle.mako_step.specs.declared.step.Step.{Step}
use Rattle.mako_step.specs.declared.step.Step.TheVariants.{Do, Ended as NoStep}
use Rattle.mako_model.specs.Legal.{Facts, state_of}
use Rattle.mako_model.specs.Sizes.{ObjectsAreSmall}
use Rattle.mako_gate.specs.Standings.{shutter_at}
use Rattle.mako_names.specs.Freeing.{own_entries}
use Rattle.mako_names.specs.Tables.{phase_of}
use Rattle.mako_phases.specs.Facets as order
use Rattle.mako_phases.specs.Facets.{PhaseFacet}
use Rattle.mako_joint.specs.Joints.{JointScene, Joint}
use Rattle.mako_evac.specs.declared.stage.EvacStage.{EvacStage}
use Rattle.mako_evac.specs.declared.stage.EvacStage.TheVariants as evac
use Rattle.mako_evac.specs.Evacuating as evacuations
use Rattle.mako_evac.specs.Evacuating.{Evacuation}
use Rattle.mako_server.specs.declared.stage.ServerStage.TheVariants.{Turning, Evacuating}
use Rattle.mako_server.specs.Serving.{Serving, evacuated as evacuated_to}
use Rattle.mako_tracing.specs.ServerFacets.{tracer_laden, server_gate, server_work, server_phase}
use Rattle.mako_clearing.specs.ClearingFacets.{clearing_phase, clearing_ended, clearing_gate, clearing_work}
use Rattle.mako_clearing.specs.ClearingFacets.{stage_carries, stage_phase, stage_ended, stage_watch, stage_work}
use Rattle.mako_clearing.specs.ClearingFacets.{stage_through}
use Rattle.mako_clearing.specs.Notices.{SendingStands}
use Rattle.mako_clearing.specs.Clearing.{SeatStands, ClearingStands, ClearingGoesOn, ReadersMatch}
use Rattle.mako_clearing.specs.Clearing.{IsFreeing, IsAtTablet, tells_end}
use Rattle.mako_clearing.proofs.Keeping.{tablets_keep, freeing_keeps}
use Rattle.mako_clearing.proofs.Seated.{Works, cycle_in, phase_is_evac}
use Rattle.mako_clearing.proofs.Turning.{evacuations_end}
use Rattle.mako_sitting.specs.Seats.{GoneOver, HeardIn, RestSits, StageSits}

-- ---- each stage goes on

pub clearing_goes : (n : Numbers) (w : Facts) (s : JointScene) (e : Evacuation) (ended : ℕ) (laden : Bool) (taker : ℕ)
    (sent : List Name) → Joint n w s → ReadersMatch s → ObjectsAreSmall (state_of w s.front.history)
    → ClearingStands n w s e ended laden taker sent → IsAct (evacuations.next_of e)
    → ClearingGoesOn n w s e ended laden taker sent
clearing_goes n w s e ended laden taker sent j reader small c acts = by e.stage refl
  where
    by : (stage : EvacStage) → e.stage ≡ stage → ClearingGoesOn n w s e ended laden taker sent
    by (evac.Evacuating t x) is =
        tablets_keep n w s e ended laden taker sent j reader small c acts (subst IsAtTablet (sym is) tt)
    by (evac.Freeing x f) is =
        freeing_keeps n w s e ended laden taker sent j reader small c acts (subst IsFreeing (sym is) tt)
    by evac.AwaitingEnd is =
        freeing_keeps n w s e ended laden taker sent j reader small c acts (subst IsFreeing (sym is) tt)
    by evac.TellingEnd is =
        freeing_keeps n w s e ended laden taker sent j reader small c acts (subst IsFreeing (sym is) tt)
    by evac.Ended is =
        freeing_keeps n w s e ended laden taker sent j reader small c acts (subst IsFreeing (sym is) tt)

-- the phase is Evac of its cycle
pub works_there : (e : Evacuation) → IsAct (evacuations.next_of e)
    → Works (clearing_phase e) × (cycle_in (clearing_phase e) ≡ e.owner.cycle)
works_there e acts = by e.stage acts
  where
    by : (stage : EvacStage) → IsAct (evacuations.stage_next e.owner (evacuations.slot_of e) stage)
        → Works (stage_phase e.owner.cycle stage) × (cycle_in (stage_phase e.owner.cycle stage) ≡ e.owner.cycle)
    by (evac.Evacuating t x) is = (tt, refl)
    by (evac.Freeing x f) is = (tt, refl)
    by evac.AwaitingEnd is = (tt, refl)
    by evac.TellingEnd is = (tt, refl)
    by evac.Ended is = absurd is

pub phase_there : (n : Numbers) (w : Facts) (s : JointScene) (e : Evacuation) (ended : ℕ) (laden : Bool) → Joint n w s
    → SeatStands n s e ended laden → IsAct (evacuations.next_of e) → phase_of n s.words ≡ Evac e.owner.cycle
phase_there n w s e ended laden j seat acts =
    let at = works_there e acts in
    phase_is_evac n w s j e.owner.server (clearing_ended e ended) laden (clearing_phase e) at.0 seat.phase
    ∙ ap (λ c. Evac c) at.1

-- ---- the seat after it

not_at_end : (e : Evacuation) → IsAct (evacuations.next_of e) → (ended : ℕ) → ended ≡ clearing_ended e ended
not_at_end e acts ended = by e.stage acts
  where
    by : (stage : EvacStage) → IsAct (evacuations.stage_next e.owner (evacuations.slot_of e) stage)
        → ended ≡ stage_ended e.owner.cycle stage ended
    by (evac.Evacuating t x) is = refl
    by (evac.Freeing x f) is = refl
    by evac.AwaitingEnd is = refl
    by evac.TellingEnd is = refl
    by evac.Ended is = absurd is

pub record EvacFacets (v : Serving) (seat : ℕ) (e : Evacuation) (u : Serving) : Type 0 where
  pub gate : shutter_at seat (clearing_gate e) ≡ server_gate seat u
  pub work : clearing_work e ≡ server_work u
  pub phase : order.serving v.tracer.server (clearing_phase e) (clearing_ended e v.ended) (tracer_laden v.tracer)
      ≡ server_phase u
  pub tracer : u.tracer ≡ v.tracer

facets_go : (v : Serving) (seat : ℕ) (e : Evacuation) → IsAct (evacuations.next_of e)
    → EvacFacets v seat e (record v { stage = Evacuating e })
facets_go v seat e acts = record {
  gate = refl;
  work = refl;
  phase = ap (λ k. order.serving v.tracer.server (clearing_phase e) k (tracer_laden v.tracer))
      (sym (not_at_end e acts v.ended));
  tracer = refl;
}

facets_end : (v : Serving) (seat : ℕ) (e : Evacuation) → e.stage ≡ evac.Ended
    → EvacFacets v seat e (record v { notice_at = e.at; ended = e.owner.cycle; stage = Turning })
facets_end v seat e is = record {
  gate = ap (λ k. shutter_at seat (stage_watch e.owner.shape k)) is;
  work = ap stage_work is;
  phase = ap (λ k. order.serving v.tracer.server (stage_phase e.owner.cycle k) (stage_ended e.owner.cycle k v.ended)
      (tracer_laden v.tracer)) is;
  tracer = refl;
}

pub evac_facets : (v : Serving) (seat : ℕ) (e : Evacuation) (step : Step) → evacuations.next_of e ≡ step
    → evacuations.IsKnown e → EvacFacets v seat e (evacuated_to v e step)
evac_facets v seat e (Do act) is known = facets_go v seat e (subst IsAct (sym is) tt)
evac_facets v seat e NoStep is known = facets_end v seat e (evacuations_end e known is)

-- ---- its stage after it

-- at its end it rests, and has gone over all its entries
rests_then : (n : Numbers) (w : Facts) (s : JointScene) (v : Serving) (e : Evacuation) (ended : ℕ) (laden : Bool)
    (taker : ℕ) (sent : List Name) → ClearingStands n w s e ended laden taker sent → e.stage ≡ evac.Ended
    → e.owner.server ≡ v.tracer.server → phase_of n s.words ≡ Evac e.owner.cycle
    → RestSits n s taker (record v { notice_at = e.at; ended = e.owner.cycle; stage = Turning })
rests_then n w s v e ended laden taker sent c is server there = record {
  through = own_entries n;
  through_is = subst (λ k. slice_get s.facets.names.through k ≡ Some (own_entries n)) server
      (c.facets.through ∙ ap (λ k. Some (stage_through e.owner k)) is
      ∙ ap (λ (k : Numbers). Some (own_entries k)) c.shape);
  gone_over = subst (λ p. GoneOver n p e.owner.cycle (own_entries n)) (sym there)
      ((λ same. refl), (λ other. absurd (other refl)));
  sent = sent;
  done = true;
  sent_is = subst (λ k. slice_get s.facets.names.sent k ≡ Some sent) server c.sending.sent_is;
  sending = subst (λ k. SendingStands n s.words k taker e.at sent [] true) server
      (subst (λ k. SendingStands n s.words e.owner.server taker e.at sent (stage_carries k) (tells_end k)) is
      c.sending.notices);
  ended = λ told. sym (ap cycle_of there);
  heard = subst (λ p. HeardIn p sent true) (sym there) tt;
}

pub clear_sits : (n : Numbers) (w : Facts) (s : JointScene) (v : Serving) (e : Evacuation) (step : Step) (taker : ℕ)
    (sent : List Name) → evacuations.next_of e ≡ step
    → ClearingStands n w s e v.ended (tracer_laden v.tracer) taker sent
    → e.owner.server ≡ v.tracer.server → phase_of n s.words ≡ Evac e.owner.cycle
    → StageSits n w s taker (evacuated_to v e step) (evacuated_to v e step).stage
clear_sits n w s v e (Do act) taker sent is c server there = (sent, c)
clear_sits n w s v e NoStep taker sent is c server there =
    rests_then n w s v e v.ended (tracer_laden v.tracer) taker sent c (evacuations_end e c.known is) server there
