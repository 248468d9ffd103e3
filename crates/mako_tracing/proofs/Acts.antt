-- Each act of a server at its turn or in its tracing is of a word that there is, and finds what it can go on with.
use Rattle.std.proofs.Common.{◌≡◌, ℕ, ◌+◌, ◌%◌, ◌<◌, List, length, sym, subst, refl, arith}
use Rattle.mako_words.specs.Phases.{phase_at, IsPackedPhase}
use Rattle.mako_shape.specs.declared.numbers.Numbers.{Numbers}
use Rattle.mako_shape.specs.Belongings.{tablet_of_entry}
use Rattle.mako_shape.specs.Places.{Place, phase, flags, ghost, entry, live, index, Within, total, word_at}
use Rattle.mako_shape.proofs.BelongingLaws.{belongings_in_range}
use Rattle.mako_shape.proofs.PlaceLaws.{index_below}
use Rattle.mako_step.specs.Machines.{CanStep}
use Rattle.mako_model.specs.Legal.{Facts}
use Rattle.mako_names.specs.Tables.{phase_of}
use Rattle.mako_ring.specs.TracerFacts.{OutgoingStands}
use Rattle.mako_ring.specs.Tracing.{TracerView, window_of, head_slot, slot_of, at_stage, stage_next, StageFits}
use Rattle.mako_ring.specs.declared.tracing.SendStage.TheVariants.{HeadLook, GhostRaise, HeadStore}
use Rattle.mako_ring.specs.declared.tracing.ScanStage.TheVariants.{FieldLoad, EntryLoad, HeaderLoad}
use Rattle.mako_ring.specs.declared.tracing.ReceiveStage.TheVariants.{SlotLook, BusyRaise, SlotClear}
use Rattle.mako_ring.specs.declared.tracing.MarkStage.TheVariants.{Considering, Measuring, Marking as EntryMark}
use Rattle.mako_ring.specs.declared.tracing.MarkStage.TheVariants.{Counting}
use Rattle.mako_ring.specs.declared.tracing.RestStage.TheVariants.{BusyLower, TailLook, GhostLower}
use Rattle.mako_ring.specs.declared.tracing.TraceStage.{TraceStage}
use Rattle.mako_ring.specs.declared.tracing.TraceStage.TheVariants.{Sending, Scanning, Receiving, Marking, Resting}
use Rattle.mako_ring.specs.declared.tracing.TraceStage.TheVariants.{Ended}
use Rattle.mako_ring.proofs.Turns.{place_below}
use Rattle.mako_joint.specs.Joints.{JointScene, Joint}
use Rattle.mako_server.specs.declared.stage.ServerStage.{ServerStage}
use Rattle.mako_server.specs.declared.stage.ServerStage.TheVariants.{Tracing}
use Rattle.mako_server.specs.Serving as serving
use Rattle.mako_server.specs.Serving.{Serving, PhaseFits}
use Rattle.mako_tracing.specs.Laws.{found_by, ServerStands, TracingCanGo, TurnsCanGo}
use Rattle.mako_tracing.proofs.Fitting.{found_fits}
use Rattle.mako_tracing.proofs.Phases.{phase_fits, phase_packed}
use Rattle.mako_tracing.proofs.Traced.{tracer_at}
use Rattle.mako_tracing.proofs.Tracers.{At, slot_within}

below : (n : Numbers) (words : List ℕ) → length words ≡ total n → (p : Place) → Within n p → index n p < length words
below n words size p within = let b = index_below n p within in omega arith

module _ (w : Facts) (s : JointScene) (seat : ℕ) (t : TracerView) (ended : ℕ) where
  abbrev n : Numbers
  n = t.shape

  abbrev Here : TraceStage → Type 0
  Here x = At w s seat t ended x

  abbrev Can : TraceStage → Type 0
  Can x = CanStep (stage_next (at_stage t x) x) s.words (StageFits (at_stage t x) x)

  in_words : (x : TraceStage) → Here x → (p : Place) → Within n p → index n p < length s.words
  in_words x at p within = below n s.words at.joint.names.hold.size p within

  -- the slot to whose server the outgoing name is sent, and one whose tail is looked at
  to_owner : (x : TraceStage) → Here x → (r k : ℕ) → r < n.servers → Within n (ghost t.server r (k % n.ring))
  to_owner x at r k low =
      let ring = at.held.shape.in_range.each in
      (at.stands.keeps.in_range, low, place_below n.ring k (omega (arith, ring)))

  stage_can : (x : TraceStage) → Here x → Can x
  stage_can (Sending (HeadLook x)) at = (
    in_words (Sending (HeadLook x)) at (head_slot t x)
        (to_owner (Sending (HeadLook x)) at _ _ (subst (OutgoingStands n t.server) at.stands.stage
        at.stands.keeps.outgoing_stands).0),
    tt,
    at.fits,
  )
  stage_can (Sending (GhostRaise x)) at =
      (in_words (Sending (GhostRaise x)) at (flags t.server) at.stands.keeps.in_range, tt, at.fits)
  stage_can (Sending (HeadStore x)) at = (
    in_words (Sending (HeadStore x)) at (head_slot t x)
        (to_owner (Sending (HeadStore x)) at _ _ (subst (OutgoingStands n t.server) at.stands.stage
        at.stands.keeps.outgoing_stands).0),
    tt,
    at.fits,
  )
  stage_can (Scanning (FieldLoad scan)) at =
      let size = at.joint.names.hold.size in
      let a = at.known.0.0 in
      let b = at.known.0.2 in
      ((let c : scan.address + 1 + scan.next < length s.words = omega arith in c), tt, at.fits)
  stage_can (Scanning (EntryLoad x)) at =
      (in_words (Scanning (EntryLoad x)) at (entry x) at.known.0, tt, at.fits)
  stage_can (Scanning (HeaderLoad x address)) at =
      let size = at.joint.names.hold.size in
      let a = at.known.0.1 in
      ((let c : address < length s.words = omega arith in c), tt, at.fits)
  stage_can (Receiving (SlotLook source)) at = (
    in_words (Receiving (SlotLook source)) at (slot_of t source)
        (slot_within w s seat t ended (Receiving (SlotLook source)) at source at.stands.stage.0),
    tt,
    at.fits,
  )
  stage_can (Receiving (BusyRaise source x)) at =
      (in_words (Receiving (BusyRaise source x)) at (flags t.server) at.stands.keeps.in_range, tt, at.fits)
  stage_can (Receiving (SlotClear source x)) at = (
    in_words (Receiving (SlotClear source x)) at (slot_of t source)
        (slot_within w s seat t ended (Receiving (SlotClear source x)) at source at.stands.stage.0),
    tt,
    at.fits,
  )
  stage_can (Marking (Considering x)) at =
      (in_words (Marking (Considering x)) at (entry x.entry) at.stands.stage, tt, at.fits)
  stage_can (Marking (Measuring x e)) at =
      let size = at.joint.names.hold.size in
      let a = at.known.2.1 in
      ((let c : e.address < length s.words = omega arith in c), tt, at.fits)
  stage_can (Marking (EntryMark x e fields)) at =
      (in_words (Marking (EntryMark x e fields)) at (entry x.entry) at.stands.stage, tt, at.fits)
  stage_can (Marking (Counting x fields)) at = (
    in_words (Marking (Counting x fields)) at (live (tablet_of_entry n x.entry))
        (belongings_in_range.entry n x.entry at.stands.stage),
    tt,
    at.fits,
  )
  stage_can (Resting BusyLower) at =
      (in_words (Resting BusyLower) at (flags t.server) at.stands.keeps.in_range, tt, at.fits)
  stage_can (Resting (TailLook r)) at = (
    in_words (Resting (TailLook r)) at (ghost t.server r ((window_of t r).tail % n.ring))
        (to_owner (Resting (TailLook r)) at r (window_of t r).tail at.stands.stage.1),
    tt,
    at.fits,
  )
  stage_can (Resting GhostLower) at =
      (in_words (Resting GhostLower) at (flags t.server) at.stands.keeps.in_range, tt, at.fits)
  stage_can Ended at = tt

pub tracing_can_go : TracingCanGo
tracing_can_go n w s seat v stands e few low =
    by v.stage e n stands.keeps.tracer.shape_is stands (found_fits n w s seat v stands e few low)
  where
    at : ServerStage → Serving
    at stage = record { tracer = v.tracer; notice_at = v.notice_at; ended = v.ended; stage = stage }

    by : (stage : ServerStage) → stage ≡ Tracing → (m : Numbers) → v.tracer.shape ≡ m
        → ServerStands m w s seat (at stage) → serving.Fits (at stage) (found_by (at stage) s.words)
        → CanStep (serving.next_of (at stage)) s.words (serving.Fits (at stage))
    by stage is m shape =
        subst (λ k. ServerStands k w s seat (at stage) → serving.Fits (at stage) (found_by (at stage) s.words)
        → CanStep (serving.next_of (at stage)) s.words (serving.Fits (at stage))) shape
        (subst (λ x. ServerStands v.tracer.shape w s seat (at x) → serving.Fits (at x) (found_by (at x) s.words)
        → CanStep (serving.next_of (at x)) s.words (serving.Fits (at x))) (sym is)
        (λ st fits. stage_can w s seat v.tracer v.ended v.tracer.stage
        (tracer_at w s seat v.tracer v.notice_at v.ended st fits)))

-- ---- the turn

turning_fits : (n : Numbers) (w : Facts) (s : JointScene) → Joint n w s
    → PhaseFits n (phase_at (word_at n s.words phase))
unfolding phase_of
turning_fits n w s j = phase_fits n w s j (phase_at (word_at n s.words phase)) refl

pub turns_can_go : TurnsCanGo
turns_can_go n w s seat v stands e =
    let j = stands.joint in
    subst (λ x. CanStep (serving.stage_next v.tracer x) s.words (serving.StageFits v.tracer x)) (sym e)
    (subst (λ (m : Numbers). (index m phase < length s.words) × Unit {0}
    × (IsPackedPhase (word_at m s.words phase) × PhaseFits m (phase_at (word_at m s.words phase))))
    (sym stands.keeps.tracer.shape_is)
    (below n s.words j.names.hold.size phase tt, tt, (phase_packed n w s j, turning_fits n w s j)))
