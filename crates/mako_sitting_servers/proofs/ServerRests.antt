-- A server at its turn or in its tracing sits past its own step.
use Rattle.std.proofs.Common.{◌≡◌, ◌≢◌, ℕ, ◌+◌, ◌==◌, ◌<◌, ◌≤◌, if◌then◌else◌, Bool, true, false, [], slice_get}
use Rattle.std.proofs.Common.{Some, sym, ap, subst, refl, ◌∙◌, arith}
use Rattle.std.proofs.lemmas.Bool.Decides.{nat_tests}
use Rattle.std.proofs.lemmas.List.{set-get_or}
use Rattle.mako_words.specs.declared.phase_word.PhaseWord.{PhaseWord}
use Rattle.mako_words.specs.declared.phase_word.PhaseWord.TheVariants.{Idle, Trace, Evac, Stop}
use Rattle.mako_words.specs.Phases.{phase_at, cycle_of}
use Rattle.mako_shape.specs.declared.numbers.Numbers.{Numbers}
use Rattle.mako_shape.specs.Places.{phase, notice, index, word_at}
use Rattle.mako_step.specs.Acts.{words_stepped, finds}
use Rattle.mako_step.specs.declared.step.Step.{Step}
use Rattle.mako_step.specs.declared.step.Step.TheVariants.{Do, Ended as NoStep}
use Rattle.mako_model.specs.Legal.{Facts}
use Rattle.mako_names.specs.Going.{Facets}
use Rattle.mako_names.specs.Tables.{phase_of}
use Rattle.mako_gate.specs.Standings.{shutter_at}
use Rattle.mako_phases.specs.Facets as order
use Rattle.mako_ring.specs.Tracing as tracer
use Rattle.mako_ring.specs.Tracing.{TracerView}
use Rattle.mako_ring.specs.TracerFacets.{hand_of}
use Rattle.mako_joint.specs.Joints.{JointScene}
use Rattle.mako_evac.specs.declared.owner.Owner.{Owner}
use Rattle.mako_evac.specs.Owners.{IsOwner}
use Rattle.mako_evac.specs.Evacuating as evacuations
use Rattle.mako_evac.specs.Evacuating.{Evacuation}
use Rattle.mako_server.specs.declared.stage.ServerStage.TheVariants.{Turning, Tracing, Evacuating}
use Rattle.mako_server.specs.Serving.{Serving, PhaseFits, owner_in, stage_next, stage_fed, turned, traced}
use Rattle.mako_trace.proofs.SameServer.{begun_same, fed_same}
use Rattle.mako_tracing.specs.Laws.{words_next, server_next, ServerStands}
use Rattle.mako_tracing.specs.ServerFacets.{IsServerSeat, with_server, tracer_laden}
use Rattle.mako_tracing.proofs.Phases.{phase_fits}
use Rattle.mako_tracing.proofs.Scenes.{seated_after}
use Rattle.mako_clearing.specs.ClearingFacets.{clearing_phase, clearing_gate, clearing_work}
use Rattle.mako_clearing.specs.Notices.{SameNotices, SendingStands}
use Rattle.mako_clearing.specs.Clearing.{ClearingStands}
use Rattle.mako_clearing.specs.Turning.{at_first}
use Rattle.mako_clearing.proofs.Rings.{sending_stays}
use Rattle.mako_clearing.proofs.Turning.{evacuations_begin}
use Rattle.mako_writes.specs.Writes.{LeavesOthers}
use Rattle.mako_names.proofs.Words.{phase_same}
use Rattle.mako_sitting.specs.Seats.{GoneOver, HeardIn, RestSits, StageSits}
use Rattle.mako_sitting_servers.proofs.ServerFrames.{hand_own}
use Rattle.mako_writes.proofs.Servers.{TracerWrites, traces}
use Rattle.mako_writes.proofs.Touching.{weaker}

-- ---- what its tracing leaves

pub words_traced : (n : Numbers) (w : Facts) (s : JointScene) (seat : ℕ) (v : Serving) → ServerStands n w s seat v
    → v.stage ≡ Tracing → LeavesOthers n (TracerWrites (hand_of v.tracer.stage)) s.words (words_next v s.words)
words_traced n w s seat v stands e =
    let shape = stands.keeps.tracer.shape_is in
    let own = hand_own n w s seat v stands.joint stands.here shape in
    subst (λ k. LeavesOthers k (TracerWrites (hand_of v.tracer.stage)) s.words (words_next v s.words)) shape
    (subst (λ stage. LeavesOthers v.tracer.shape (TracerWrites (hand_of v.tracer.stage)) s.words
    (words_stepped (stage_next v.tracer stage) s.words)) (sym e)
    ((weaker (TracerWrites (hand_of v.tracer.stage)) (traces v.tracer stands.keeps.known.tracer own)
    (λ p both. both.1)).rest s.words))

pub words_turned : (s : JointScene) (v : Serving) → v.stage ≡ Turning → words_next v s.words ≡ s.words
words_turned s v e =
    ap (λ x. words_stepped (stage_next v.tracer x) s.words) e ∙ set-get_or s.words (index v.tracer.shape phase) 0

-- ---- at rest

-- so it is of a server with the same number, which has told as much, where the facets of names and its notices are as
-- they were
rest_moves : (n : Numbers) (s after : JointScene) (taker : ℕ) (v u : Serving) → RestSits n s taker v
    → u.tracer.server ≡ v.tracer.server → u.notice_at ≡ v.notice_at → u.ended ≡ v.ended
    → after.facets.names ≡ s.facets.names → phase_of n after.words ≡ phase_of n s.words
    → SameNotices n s.words after.words v.tracer.server → RestSits n after taker u
rest_moves n s after taker v u r server at ended names same notices = record {
  through = r.through;
  through_is = ap (λ k. slice_get after.facets.names.through k) server
      ∙ ap (λ (f : Facets). slice_get f.through v.tracer.server) names ∙ r.through_is;
  gone_over = subst (λ p. GoneOver n p u.ended r.through) (sym same)
      (subst (λ k. GoneOver n (phase_of n s.words) k r.through) (sym ended) r.gone_over);
  sent = r.sent;
  done = r.done;
  sent_is = ap (λ k. slice_get after.facets.names.sent k) server
      ∙ ap (λ (f : Facets). slice_get f.sent v.tracer.server) names ∙ r.sent_is;
  sending = subst (λ k. SendingStands n after.words k taker u.notice_at r.sent [] r.done) (sym server)
      (subst (λ k. SendingStands n after.words v.tracer.server taker k r.sent [] r.done) (sym at)
      (sending_stays n s.words after.words v.tracer.server taker v.notice_at r.sent [] r.done notices r.sending));
  ended = λ told. ended ∙ r.ended told ∙ ap cycle_of (sym same);
  heard = subst (λ p. HeardIn p r.sent r.done) (sym same) r.heard;
}

false_not : (b : Bool) → (b ≡ true → ⊥) → b ≡ false
false_not true f = absurd (f refl)
false_not false f = refl

-- ---- its turn

module _ (n : Numbers) (w : Facts) (s : JointScene) (seat taker : ℕ) (v : Serving) (stands : ServerStands n w s seat v)
    (number : seat ≡ n.mutators + v.tracer.server) (r : RestSits n s taker v) where
  abbrev then_with : Serving → JointScene
  then_with u = with_server s seat u s.words

  turned_rest : (u : Serving) → u.tracer.server ≡ v.tracer.server → u.notice_at ≡ v.notice_at → u.ended ≡ v.ended
      → RestSits n (then_with u) taker u
  turned_rest u server at ended =
      rest_moves n s (then_with u) taker v u r server at ended refl refl (λ slot low. refl)

  module _ (c : ℕ) (is : phase_of n s.words ≡ Evac c) (other : v.ended ≢ c) where
    abbrev o : Owner
    o = owner_in v.tracer c

    abbrev u : Serving
    u = record v { stage = Evacuating (evacuations.opening o v.notice_at) }

    shape : v.tracer.shape ≡ n
    shape = stands.keeps.tracer.shape_is

    fits : PhaseFits n (Evac c)
    fits = phase_fits n w s stands.joint (Evac c) is

    owner : IsOwner o
    owner = record {
      shape = stands.keeps.known.tracer.held.shape;
      server = stands.keeps.known.tracer.held.server;
      begun = fits.from;
      cycle = subst (λ (k : Numbers). c ≤ k.cycles) (sym shape) fits.to;
    }

    here : IsServerSeat (then_with u) seat u
    here = seated_after s seat v u s.words stands.here

    low : v.notice_at < n.ring
    low = subst (λ (k : Numbers). v.notice_at < k.ring) shape stands.keeps.known.notice_at

    -- it has gone over none of its entries, and has not told the end of this cycle
    none : r.through ≡ 0
    none = (subst (λ p. GoneOver n p v.ended r.through) is r.gone_over).1 other

    untold : r.done ≡ false
    untold = false_not r.done (λ told. other (r.ended told ∙ ap cycle_of is))

    begins : ClearingStands n w (then_with u) (evacuations.opening o v.notice_at) v.ended (tracer_laden v.tracer) taker
        r.sent
    begins =
        let b = evacuations_begin n w (then_with u) o v.notice_at v.ended (tracer_laden v.tracer) taker r.sent owner
        shape low in
        b.stands
        (record {
          phase = subst (λ k. slice_get (then_with u).facets.phases k
              ≡ Some (order.serving v.tracer.server (clearing_phase (at_first o v.notice_at)) v.ended
              (tracer_laden v.tracer))) number
              (here.phase ∙ ap (λ e. Some (order.serving v.tracer.server (clearing_phase e) v.ended
              (tracer_laden v.tracer))) b.is);
          gate = subst (λ k. slice_get (then_with u).facets.gates k
              ≡ Some (shutter_at k (clearing_gate (at_first o v.notice_at)))) number
              (here.gate ∙ ap (λ e. Some (shutter_at seat (clearing_gate e))) b.is);
          work = subst (λ k. slice_get (then_with u).facets.works k
              ≡ Some (clearing_work (at_first o v.notice_at))) number
              (here.work ∙ ap (λ e. Some (clearing_work e)) b.is);
          through = r.through_is ∙ ap (λ k. Some k) none;
        })
        (record {
          sent_is = r.sent_is;
          notices = subst (λ b. SendingStands n s.words v.tracer.server taker v.notice_at r.sent [] b) untold r.sending;
        })

  evac_sits : (c : ℕ) → phase_of n s.words ≡ Evac c → (b : Bool) → (c == v.ended) ≡ b
      → StageSits n w
      (then_with (record v {
        stage = if b then Turning else Evacuating (evacuations.opening (owner_in v.tracer c) v.notice_at);
      }))
      taker
      (record v { stage = if b then Turning else Evacuating (evacuations.opening (owner_in v.tracer c) v.notice_at) })
      (if b then Turning else Evacuating (evacuations.opening (owner_in v.tracer c) v.notice_at))
  evac_sits c is true e = turned_rest (record v { stage = Turning }) refl refl refl
  evac_sits c is false e = (r.sent, begins c is (λ f. absurd (grind (arith, nat_tests))))

  abbrev SitsAs : Serving → Type 0
  SitsAs u = StageSits n w (then_with u) taker u u.stage

  turned_sits : (p : PhaseWord) → phase_of n s.words ≡ p → SitsAs (turned v p)
  turned_sits (Idle c) is = turned_rest (turned v (Idle c)) refl refl refl
  turned_sits (Trace c) is = turned_rest (turned v (Trace c)) (begun_same v.tracer c).server refl refl
  turned_sits (Evac c) is = evac_sits c is (c == v.ended) refl
  turned_sits (Stop c) is = turned_rest (turned v (Stop c)) refl refl refl

  phase_is : phase_of n s.words ≡ phase_at (word_at n s.words phase)
  unfolding phase_of
  phase_is = refl

  pub turn_sits : v.stage ≡ Turning
      → StageSits n w (with_server s seat (server_next v s.words) (words_next v s.words)) taker (server_next v s.words)
      (server_next v s.words).stage
  turn_sits e =
      let next_is : server_next v s.words ≡ turned v (phase_of n s.words) =
      ap (λ x. stage_fed v x (finds (stage_next v.tracer x) s.words)) e
      ∙ ap (λ (m : Numbers). turned v (phase_at (word_at m s.words phase))) stands.keeps.tracer.shape_is
      ∙ ap (turned v) (sym phase_is) in
      subst (λ ws. StageSits n w (with_server s seat (server_next v s.words) ws) taker (server_next v s.words)
      (server_next v s.words).stage) (sym (words_turned s v e))
      (subst SitsAs (sym next_is) (turned_sits (phase_of n s.words) refl))

-- ---- its tracing

traced_rest : (n : Numbers) (w : Facts) (after : JointScene) (taker : ℕ) (v : Serving) (t : TracerView) (step : Step)
    → ((u : Serving) → u.tracer.server ≡ t.server → u.notice_at ≡ v.notice_at → u.ended ≡ v.ended
    → RestSits n after taker u)
    → StageSits n w after taker (traced v t step) (traced v t step).stage
traced_rest n w after taker v t (Do act) rests = rests (traced v t (Do act)) refl refl refl
traced_rest n w after taker v t NoStep rests = rests (traced v t NoStep) refl refl refl

pub trace_sits : (n : Numbers) (w : Facts) (s : JointScene) (seat taker : ℕ) (v : Serving) → ServerStands n w s seat v
    → v.tracer.server < n.servers → v.stage ≡ Tracing → RestSits n s taker v
    → StageSits n w (with_server s seat (server_next v s.words) (words_next v s.words)) taker (server_next v s.words)
    (server_next v s.words).stage
trace_sits n w s seat taker v stands low e r =
    let after = with_server s seat (server_next v s.words) (words_next v s.words) in
    let us = words_traced n w s seat v stands e in
    let next_is : server_next v s.words
    ≡ stage_fed v Tracing (finds (tracer.next_of v.tracer) s.words) =
    ap (λ x. stage_fed v x (finds (stage_next v.tracer x) s.words)) e in
    let t = tracer.fed v.tracer (finds (tracer.next_of v.tracer) s.words) in
    subst (λ u. StageSits n w after taker u u.stage) (sym next_is)
    (traced_rest n w after taker v t (tracer.next_of t)
    (λ u server at ended. rest_moves n s after taker v u r
    (server ∙ (fed_same v.tracer (finds (tracer.next_of v.tracer) s.words)).server) at ended refl
    (phase_same n s.words after.words (us phase tt (λ x. x)))
    (λ slot small. us (notice v.tracer.server slot) (low, small) (λ x. x))))
