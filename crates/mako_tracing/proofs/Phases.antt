-- What a server's turn finds in the phase, and where it leads.
use Rattle.std.proofs.Common.{◌≡◌, ℕ, ◌*◌, ◌<◌, ◌≤◌, nat_lt, if◌then◌else◌, Bool, true, false, Some, sym, ap, subst}
use Rattle.std.proofs.Common.{refl, ◌∙◌, arith}
use Rattle.std.proofs.lemmas.Bool.Decides.{nat_tests}
use Rattle.mako_words.specs.Phases.{phase_at, phase_word, FitsPhase, IsPackedPhase, cycle_of}
use Rattle.mako_words.specs.declared.phase_word.PhaseWord.{PhaseWord}
use Rattle.mako_words.specs.declared.phase_word.PhaseWord.TheVariants.{Idle, Trace, Evac, Stop}
use Rattle.mako_shape.specs.declared.numbers.Numbers.{Numbers}
use Rattle.mako_shape.specs.Places.{phase, word_at}
use Rattle.mako_gate.specs.Standings.{rests}
use Rattle.mako_step.specs.declared.step.Step.TheVariants.{Ended as NoStep}
use Rattle.mako_model.specs.Legal.{Facts}
use Rattle.mako_names.specs.Tables.{phase_of, running_of}
use Rattle.mako_ring.specs.Tracing as tracer
use Rattle.mako_ring.specs.Tracing.{TracerView, at_stage, next_work, begun}
use Rattle.mako_ring.specs.declared.tracing.SendStage.TheVariants.{HeadLook, GhostRaise, HeadStore}
use Rattle.mako_ring.specs.declared.tracing.ScanStage.TheVariants.{FieldLoad, EntryLoad, HeaderLoad}
use Rattle.mako_ring.specs.declared.tracing.ReceiveStage.TheVariants.{SlotLook, BusyRaise, SlotClear}
use Rattle.mako_ring.specs.declared.tracing.MarkStage.TheVariants.{Considering, Measuring, Marking as EntryMark}
use Rattle.mako_ring.specs.declared.tracing.MarkStage.TheVariants.{Counting}
use Rattle.mako_ring.specs.declared.tracing.RestStage.TheVariants.{BusyLower, TailLook, GhostLower}
use Rattle.mako_ring.specs.declared.tracing.TraceStage.{TraceStage}
use Rattle.mako_ring.specs.declared.tracing.TraceStage.TheVariants.{Sending, Scanning, Receiving, Marking, Resting}
use Rattle.mako_ring.specs.declared.tracing.TraceStage.TheVariants.{Ended as AtEnd}
use Rattle.mako_layout.specs.Facets.{idle}
use Rattle.mako_phases.specs.Facets as order
use Rattle.mako_phases.specs.Facets.{Part, PhaseFacet, serving, clearing, phase_during}
use Rattle.mako_phases.proofs.Says.{part_phase}
use Rattle.mako_phases.proofs.Parts.{phase_found, cycles_fit, bound_cycle}
use Rattle.mako_joint.specs.Joints.{JointScene, Joint}
use Rattle.mako_evac.specs.Evacuating as evacuating
use Rattle.mako_evac.specs.Evacuating.{Evacuation}
use Rattle.mako_evac.specs.declared.stage.EvacStage.TheVariants.{Evacuating as AtTablet, Freeing}
use Rattle.mako_evac.specs.declared.owner.Owner.{Owner}
use Rattle.mako_evac.specs.declared.freeing.FreeStage.TheVariants.{Loading}
use Rattle.mako_evac.specs.Owners.{first_tablet, tablets_end, first_entry}
use Rattle.mako_evac.specs.declared.tablet.TabletStage.TheVariants.{LoadingLeaving}
use Rattle.mako_server.specs.Serving.{IsCycle, PhaseFits}
use Rattle.mako_clearing.specs.ClearingFacets as clears
use Rattle.mako_clearing.specs.ClearingFacets.{clearing_phase, clearing_gate, clearing_work}

-- a tracing with no act is at its end
pub at_end : (t : TracerView) (x : TraceStage) → tracer.stage_next t x ≡ NoStep → x ≡ AtEnd
at_end t (Sending (HeadLook x)) e = absurd (let b : ⊥ = cc in b)
at_end t (Sending (GhostRaise x)) e = absurd (let b : ⊥ = cc in b)
at_end t (Sending (HeadStore x)) e = absurd (let b : ⊥ = cc in b)
at_end t (Scanning (FieldLoad x)) e = absurd (let b : ⊥ = cc in b)
at_end t (Scanning (EntryLoad x)) e = absurd (let b : ⊥ = cc in b)
at_end t (Scanning (HeaderLoad x a)) e = absurd (let b : ⊥ = cc in b)
at_end t (Receiving (SlotLook x)) e = absurd (let b : ⊥ = cc in b)
at_end t (Receiving (BusyRaise x y)) e = absurd (let b : ⊥ = cc in b)
at_end t (Receiving (SlotClear x y)) e = absurd (let b : ⊥ = cc in b)
at_end t (Marking (Considering x)) e = absurd (let b : ⊥ = cc in b)
at_end t (Marking (Measuring x y)) e = absurd (let b : ⊥ = cc in b)
at_end t (Marking (EntryMark x y z)) e = absurd (let b : ⊥ = cc in b)
at_end t (Marking (Counting x y)) e = absurd (let b : ⊥ = cc in b)
at_end t (Resting BusyLower) e = absurd (let b : ⊥ = cc in b)
at_end t (Resting (TailLook r)) e = absurd (let b : ⊥ = cc in b)
at_end t (Resting GhostLower) e = absurd (let b : ⊥ = cc in b)
at_end t AtEnd e = refl

-- ---- the phase word fits

-- a running cycle is one of the geometry
pub phase_fits : (n : Numbers) (w : Facts) (s : JointScene) → Joint n w s → (p : PhaseWord) → phase_of n s.words ≡ p
    → PhaseFits n p
phase_fits n w s j p is = by p is
  where
    low : cycle_of (phase_of n s.words) ≤ n.cycles
    low =
        let o = j.order in
        subst (λ q. cycle_of q ≤ n.cycles)
        (sym (part_phase n s.words s.facets.phases o o.seat o.part o.pending o.here))
        (bound_cycle n o.part o.words_stand.bound)

    runs : (p : PhaseWord) → phase_of n s.words ≡ p → running_of p ≡ 1 → IsCycle n (cycle_of p)
    runs p is one =
        let table = j.names.hold.table in
        let runs_now : running_of (phase_of n s.words) ≡ 1 = ap running_of is ∙ one in
        let now : cycle_of (phase_of n s.words) ≡ cycle_of p = ap cycle_of is in
        let a = table.finished in
        let b = table.cycle in
        let c = low in
        record { from = omega arith; to = omega arith }

    by : (p : PhaseWord) → phase_of n s.words ≡ p → PhaseFits n p
    by (Idle c) e = tt
    by (Trace c) e = runs (Trace c) e refl
    by (Evac c) e = runs (Evac c) e refl
    by (Stop c) e = tt

-- its word is packed
pub phase_packed : (n : Numbers) (w : Facts) (s : JointScene) → Joint n w s → IsPackedPhase (word_at n s.words phase)
phase_packed n w s j =
    let o = j.order in
    let few = cycles_fit n o.shape in
    let bound = bound_cycle n o.part o.words_stand.bound in
    let fits : FitsPhase (phase_during o.part) = omega arith in
    let is : phase_at (word_at n s.words phase) ≡ phase_during o.part =
    phase_found n s.words o.part o.pending o.shape o.words_stand in
    record {
      fits = subst FitsPhase (sym is) fits;
      same = ap phase_word is ∙ sym o.words_stand.phase_is;
    }

pub not_clearing : (server ended s c t e : ℕ) (at : order.TabletStage) (laden b : Bool)
    → Some (serving server order.resting ended laden) ≡ Some (serving s (clearing c t at) e b) → ⊥
not_clearing server ended s c t e at laden b same = cc

-- ---- where an evacuation begins
pub begins_phase : (o : Owner) (at : ℕ) → 0 < o.shape.tablets
    → clearing_phase (evacuating.opening o at) ≡ clearing o.cycle (o.server * o.shape.tablets) order.looking
begins_phase o at some = by (nat_lt (first_tablet o) (tablets_end o)) refl
  where
    by : (b : Bool) → nat_lt (first_tablet o) (tablets_end o) ≡ b
        → clears.stage_phase o.cycle (if b then AtTablet (first_tablet o) LoadingLeaving
        else Freeing (first_entry o.shape (first_tablet o)) Loading)
        ≡ clearing o.cycle (o.server * o.shape.tablets) order.looking
    by true e = refl
    by false e = absurd (let f : tablets_end o ≤ first_tablet o = grind (arith, nat_tests) in omega arith)

pub begins_gate : (o : Owner) (at : ℕ) → clearing_gate (evacuating.opening o at) ≡ rests
begins_gate o at = by (nat_lt (first_tablet o) (tablets_end o))
  where
    by : (b : Bool) → clears.stage_watch o.shape (if b then AtTablet (first_tablet o) LoadingLeaving
        else Freeing (first_entry o.shape (first_tablet o)) Loading) ≡ rests
    by true = refl
    by false = refl

pub begins_work : (o : Owner) (at : ℕ) → clearing_work (evacuating.opening o at) ≡ idle
begins_work o at = by (nat_lt (first_tablet o) (tablets_end o))
  where
    by : (b : Bool) → clears.stage_work (if b then AtTablet (first_tablet o) LoadingLeaving
        else Freeing (first_entry o.shape (first_tablet o)) Loading) ≡ idle
    by true = refl
    by false = refl
