-- Servers sit past a step of the collector at notices.
use Rattle.std.proofs.Common.{◌≡◌, ◌≢◌, ℕ, ◌+◌, ◌<◌, Bool, false, List, [], slice_index, sym, ap, subst, refl, ◌∙◌}
use Rattle.std.proofs.Common.{arith}
use Rattle.mako_words.specs.declared.name.Name.{Name}
use Rattle.mako_words.specs.declared.phase_word.PhaseWord.TheVariants.{Evac}
use Rattle.mako_words.specs.Phases.{cycle_of}
use Rattle.mako_shape.specs.declared.numbers.Numbers.{Numbers}
use Rattle.mako_shape.specs.Places.{phase, notice}
use Rattle.mako_step.specs.Machines.{IsAct}
use Rattle.mako_model.specs.Legal.{Facts}
use Rattle.mako_model.proofs.Lists.{get_set_other}
use Rattle.mako_names.specs.Tables.{phase_of}
use Rattle.mako_names.proofs.Words.{phase_same}
use Rattle.mako_layout.specs.StepParts.{collector_seat}
use Rattle.mako_phases.specs.Facets.{collecting}
use Rattle.mako_joint.specs.Joints.{JointScene, Joint}
use Rattle.mako_evac.specs.declared.stage.EvacStage.{EvacStage}
use Rattle.mako_evac.specs.declared.stage.EvacStage.TheVariants as evac
use Rattle.mako_evac.specs.declared.owner.Owner.{Owner}
use Rattle.mako_evac.specs.Evacuating as evacuations
use Rattle.mako_evac.specs.Evacuating.{Evacuation}
use Rattle.mako_server.specs.Serving.{Serving, StageIsKnown}
use Rattle.mako_server.specs.declared.stage.ServerStage.{ServerStage}
use Rattle.mako_server.specs.declared.stage.ServerStage.TheVariants.{Turning, Tracing, Evacuating, Ended}
use Rattle.mako_pause.specs.Collecting.{Holdings}
use Rattle.mako_pause.specs.declared.stage.NoticeStage.{NoticeStage}
use Rattle.mako_tracing.specs.ServerFacets.{tracer_laden}
use Rattle.mako_clearing.specs.ClearingFacets.{server_seat, stage_carries}
use Rattle.mako_clearing.specs.Notices.{SendingStands}
use Rattle.mako_clearing.specs.Clearing.{SeatStands, ClearingStands, tells_end}
use Rattle.mako_clearing.specs.Hearing.{notice_server, notice_part, HearingStands, IsSender, with_hearing, words_next}
use Rattle.mako_clearing.specs.Hearing.{done_left, HearingGoesOn, IsReading}
use Rattle.mako_clearing.proofs.Heard.{evac_here}
use Rattle.mako_clearing.proofs.HearingApart.{hearing_is_apart}
use Rattle.mako_clearing.proofs.Rings.{sending_stays}
use Rattle.mako_clearing.proofs.Staying.{clearing_stays}
use Rattle.mako_writes.specs.Writes.{LeavesOthers}
use Rattle.mako_sitting.specs.Seats.{GoneOver, HeardIn, RestSits, StageSits}
use Rattle.mako_sitting_collector.proofs.CollectorHeard.{IsNoticeOf, hearing_writes, not_done, still_done}

-- a server that has a step has not told the end of the cycle
untold : (o : Owner) (slot : ℕ) (stage : EvacStage) → IsAct (evacuations.stage_next o slot stage)
    → tells_end stage ≡ false
untold o slot (evac.Evacuating t stage) acts = refl
untold o slot (evac.Freeing x stage) acts = refl
untold o slot evac.AwaitingEnd acts = refl
untold o slot evac.TellingEnd acts = refl
untold o slot evac.Ended acts = absurd acts

module _ (n : Numbers) (w : Facts) (s : JointScene) (k : Holdings) (stage : NoticeStage) (j : Joint n w s)
    (c : HearingStands n s k stage) (is : IsReading stage) where
  abbrev pub then_at : Holdings → NoticeStage → List Name → JointScene
  then_at after to left =
      with_hearing n s (words_next k stage s.words) after to (notice_server n stage) left

  pub words_left : LeavesOthers n (IsNoticeOf (notice_server n stage)) s.words (words_next k stage s.words)
  words_left =
      subst (λ q. LeavesOthers q (IsNoticeOf (notice_server q stage)) s.words (words_next k stage s.words)) c.shape
      ((hearing_writes k c.known stage is c.stage_known).rest s.words)

  pub phase_left : phase_of n (words_next k stage s.words) ≡ phase_of n s.words
  phase_left = phase_same n s.words (words_next k stage s.words) (words_left phase tt (λ x. x))

  pub evac_is : phase_of n s.words ≡ Evac (k.cycle + 1)
  evac_is = evac_here n w s j (k.cycle + 1) (notice_server n stage) k.pending c.phase

  -- ---- a server of which it reads nothing

  module _ (after : Holdings) (to : NoticeStage) (left : List Name)
      (joint : Joint n w (then_at after to left)) where
    rest_left : (taker : ℕ) (v : Serving) → v.tracer.server ≢ notice_server n stage → v.tracer.server < n.servers
        → RestSits n s taker v → RestSits n (then_at after to left) taker v
    rest_left taker v apart low r = record {
      through = r.through;
      through_is = r.through_is;
      gone_over = subst (λ p. GoneOver n p v.ended r.through) (sym phase_left) r.gone_over;
      sent = r.sent;
      done = r.done;
      sent_is = get_set_other s.facets.names.sent (notice_server n stage) v.tracer.server left apart ∙ r.sent_is;
      sending = sending_stays n s.words (words_next k stage s.words) v.tracer.server taker v.notice_at r.sent [] r.done
          (λ slot small. words_left (notice v.tracer.server slot) (low, small) apart) r.sending;
      ended = λ told. r.ended told ∙ ap cycle_of (sym phase_left);
      heard = subst (λ p. HeardIn p r.sent r.done) (sym phase_left) r.heard;
    }

    pub seat_left : (e : Evacuation) (ended : ℕ) (laden : Bool) → e.owner.server < n.servers
        → SeatStands n s e ended laden → SeatStands n (then_at after to left) e ended laden
    seat_left e ended laden low f = record {
      phase = get_set_other s.facets.phases (collector_seat n) (server_seat n e.owner.server)
          (collecting (notice_part n after to) after.pending) (λ g. absurd (omega arith)) ∙ f.phase;
      gate = f.gate;
      work = f.work;
      through = f.through;
    }

    clearing_left : (taker : ℕ) (e : Evacuation) (ended : ℕ) (laden : Bool) (sent : List Name)
        → e.owner.server ≢ notice_server n stage → e.owner.server < n.servers
        → ClearingStands n w s e ended laden taker sent
        → ClearingStands n w (then_at after to left) e ended laden taker sent
    clearing_left taker e ended laden sent apart low f =
        let l = hearing_is_apart n w s k after stage to left e j c is f.known f.shape in
        clearing_stays n w s (then_at after to left) e ended laden taker taker sent sent j joint f
        (seat_left e ended laden low f.facets) (l.sending apart taker sent f.sending) l.leaves

    pub stage_left : (taker : ℕ) (v : Serving) → v.tracer.server ≢ notice_server n stage
        → v.tracer.server < n.servers → (at : ServerStage) → StageIsKnown v.tracer at → StageSits n w s taker v at
        → StageSits n w (then_at after to left) taker v at
    stage_left taker v apart low Turning known r = rest_left taker v apart low r
    stage_left taker v apart low Tracing known r = rest_left taker v apart low r
    stage_left taker v apart low (Evacuating e) known f =
        let same = known.1.server in (
          f.0,
          clearing_left taker e v.ended (tracer_laden v.tracer) f.0 (λ g. apart (sym same ∙ g)) (omega arith) f.1,
        )
    stage_left taker v apart low Ended known r = rest_left taker v apart low r

  -- ---- the server that it reads

  -- what the server has sent, and how it sits after the step
  pub record Sends (v : Serving) (at : ServerStage) : Type 0 where
    pub next : ℕ
    pub sent : List Name
    pub carried : List Name
    pub done : Bool
    pub sender : IsSender n s k (notice_server n stage) next sent carried done
    pub sits : (h : HearingGoesOn n w s k stage (notice_server n stage) next sent carried done)
        → StageSits n w (then_at h.after h.to h.left) (slice_index h.after.notice_at v.tracer.server) v at

  rest_sends : (v : Serving) → v.tracer.server ≡ notice_server n stage
      → RestSits n s (slice_index k.notice_at v.tracer.server) v → (at : ServerStage)
      → ((then : JointScene) (taker : ℕ) → RestSits n then taker v → StageSits n w then taker v at) → Sends v at
  rest_sends v here r at is_rest = record {
    next = v.notice_at;
    sent = r.sent;
    carried = [];
    done = r.done;
    sender = subst (λ q. IsSender n s k q v.notice_at r.sent [] r.done) here
        (record { sent_is = r.sent_is; notices = r.sending });
    sits = λ h.
        let sender = subst
        (λ q. IsSender n (then_at h.after h.to h.left) h.after q v.notice_at h.left [] (done_left stage r.done))
        (sym here) h.sender in
        is_rest (then_at h.after h.to h.left) (slice_index h.after.notice_at v.tracer.server)
        (record {
          through = r.through;
          through_is = r.through_is;
          gone_over = subst (λ p. GoneOver n p v.ended r.through) (sym phase_left) r.gone_over;
          sent = h.left;
          done = done_left stage r.done;
          sent_is = sender.sent_is;
          sending = sender.notices;
          ended = λ told. r.ended (still_done stage r.done told) ∙ ap cycle_of (sym phase_left);
          heard = subst (λ p. HeardIn p h.left (done_left stage r.done)) (sym (phase_left ∙ evac_is)) tt;
        });
  }

  clearing_sends : (v : Serving) (e : Evacuation) (sent : List Name) → v.tracer.server ≡ notice_server n stage
      → v.tracer.server < n.servers → e.owner.server ≡ v.tracer.server → IsAct (evacuations.next_of e)
      → ClearingStands n w s e v.ended (tracer_laden v.tracer) (slice_index k.notice_at v.tracer.server) sent
      → Sends v (Evacuating e)
  clearing_sends v e sent here low same acts f =
      let none : tells_end e.stage ≡ false = untold e.owner (evacuations.slot_of e) e.stage acts in record {
        next = e.at;
        sent = sent;
        carried = stage_carries e.stage;
        done = tells_end e.stage;
        sender = subst (λ q. IsSender n s k q e.at sent (stage_carries e.stage) (tells_end e.stage)) (same ∙ here)
            (record {
              sent_is = f.sending.sent_is;
              notices = subst (λ q. SendingStands n s.words e.owner.server (slice_index k.notice_at q) e.at sent
                  (stage_carries e.stage) (tells_end e.stage)) (sym same) f.sending.notices;
            });
        sits = λ h.
            let sender = subst
            (λ q. IsSender n (then_at h.after h.to h.left) h.after q e.at h.left (stage_carries e.stage)
            (done_left stage (tells_end e.stage))) (sym (same ∙ here)) h.sender in
            let still : done_left stage (tells_end e.stage) ≡ tells_end e.stage =
            not_done stage (tells_end e.stage) none ∙ sym none in (
              h.left,
              clearing_stays n w s (then_at h.after h.to h.left) e v.ended (tracer_laden v.tracer)
                  (slice_index k.notice_at v.tracer.server) (slice_index h.after.notice_at v.tracer.server) sent h.left
                  j h.joint f
                  (seat_left h.after h.to h.left h.joint e v.ended (tracer_laden v.tracer) (omega arith) f.facets)
                  (record {
                    sent_is = sender.sent_is;
                    notices = subst (λ q. SendingStands n (words_next k stage s.words) e.owner.server
                        (slice_index h.after.notice_at q) e.at h.left (stage_carries e.stage) (tells_end e.stage)) same
                        (subst (λ b. SendingStands n (words_next k stage s.words) e.owner.server
                        (slice_index h.after.notice_at e.owner.server) e.at h.left (stage_carries e.stage) b) still
                        sender.notices);
                  })
                  (hearing_is_apart n w s k h.after stage h.to h.left e j c is f.known f.shape).leaves,
            );
      }

  pub sends : (v : Serving) → v.tracer.server ≡ notice_server n stage → v.tracer.server < n.servers
      → (at : ServerStage) → StageIsKnown v.tracer at
      → StageSits n w s (slice_index k.notice_at v.tracer.server) v at → Sends v at
  sends v here low Turning known r = rest_sends v here r Turning (λ then taker x. x)
  sends v here low Tracing known r = rest_sends v here r Tracing (λ then taker x. x)
  sends v here low (Evacuating e) known f =
      clearing_sends v e f.0 here low known.1.server known.1.acts f.1
  sends v here low Ended known r = rest_sends v here r Ended (λ then taker x. x)
