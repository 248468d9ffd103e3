-- Each step of a server keeps what stands of notices.
use Rattle.std.proofs.Common.{◌≡◌, ◌≢◌, ℕ, ◌<◌, ◌≤◌, ⊎_elim, List, [], set, slice_get, Some, sym, ap, subst, refl, ◌∙◌}
use Rattle.std.proofs.Common.{arith}
use Rattle.std.proofs.lemmas.Bool.{cases_eq}
use Rattle.mako_words.specs.declared.name.Name.{Name}
use Rattle.mako_shape.specs.declared.numbers.Numbers.{Numbers}
use Rattle.mako_shape.specs.Places.{notice, word_at}
use Rattle.mako_step.specs.Machines.{IsAct, CanStep}
use Rattle.mako_model.specs.Legal.{Facts}
use Rattle.mako_model.proofs.Lists.{get_set_other}
use Rattle.mako_names.proofs.Going.{get_map as get_mapped}
use Rattle.mako_phases.specs.Facets.{Part, collecting}
use Rattle.mako_joint.specs.Joints.{JointScene}
use Rattle.mako_evac.specs.Evacuating.{Evacuation}
use Rattle.mako_server.specs.declared.stage.ServerStage.{ServerStage}
use Rattle.mako_server.specs.declared.stage.ServerStage.TheVariants.{Turning, Tracing, Evacuating, Ended}
use Rattle.mako_server.specs.Serving.{Serving, StageIsKnown, EvacuationIsKnown, next_of, Fits, stage_next}
use Rattle.mako_ring.specs.Tracing as tracer
use Rattle.mako_step.specs.declared.step.Step.TheVariants.{Ended as NoStep}
use Rattle.mako_pause.specs.Collecting.{Collecting}
use Rattle.mako_seat.specs.declared.seat.Seat.{Seat}
use Rattle.mako_seat.specs.declared.seat.Seat.TheVariants.{Server, Collector}
use Rattle.mako_tracing.specs.Laws.{server_next, scene_next, words_next, ServerStands}
use Rattle.mako_tracing.specs.ServerFacets.{tracer_laden}
use Rattle.mako_tracing.proofs.Acts.{tracing_can_go, turns_can_go}
use Rattle.mako_clearing.specs.ClearingFacets.{clearing_phase, clearing_ended}
use Rattle.mako_clearing.specs.Clearing.{ClearingStands, evacuated}
use Rattle.mako_clearing.proofs.Seated.{cycle_in, is_in_evac}
use Rattle.mako_sitting.specs.Seats.{StageSits, ServerSits, live_facet, AllSit}
use Rattle.mako_sitting_servers.specs.ServerSteps.{stage_after}
use Rattle.mako_whole.specs.AllNotices.{NoticesStand, ServerTells, ServerNotices}
use Rattle.mako_whole.proofs.AllNotices.{NoticesStay, still_knows}
use Rattle.mako_whole.proofs.AllNoticesSlots.{notices_left}
use Rattle.mako_sitting_servers.proofs.ServerClears.{works_there}
use Rattle.mako_sitting_servers.proofs.ServerCounts.{low_counts}
use Rattle.mako_sitting_servers.proofs.ServerEvacuates.{can, clears, evacuating}
use Rattle.mako_sitting_servers.proofs.ServerReaders.{readers_match}
use Rattle.mako_sitting_servers.proofs.ServerRests.{words_traced, words_turned}
use Rattle.mako_sitting_servers.proofs.ServerSteps.{turning, tracing}
use Rattle.std.specs.Prelude.{map}

not_collector : (v : Serving) (c : Collecting) → Server v ≢ Collector c
not_collector v c e = cc

-- ---- where it evacuates

module _ (n : Numbers) (w : Facts) (s : JointScene) (seats : List Seat) (a : AllSit n w s seats) (i : ℕ) (v : Serving)
    (at : slice_get seats i ≡ Some (Server v)) (stand : NoticesStand n s seats) (e : Evacuation)
    (is : v.stage ≡ Evacuating e) where
  mine : ServerSits n w s (a.taker v.tracer.server) i v
  mine = a.each i (Server v) at

  known : (tracer.next_of v.tracer ≡ NoStep) × EvacuationIsKnown v.tracer e
  known = subst (StageIsKnown v.tracer) is mine.keeps.known.stage

  abbrev sent : List Name
  sent = (clears n w s seats a i v at e is).0

  stands : ClearingStands n w s e v.ended (tracer_laden v.tracer) (a.taker v.tracer.server)
      (clears n w s seats a i v at e is).0
  stands = (clears n w s seats a i v at e is).1

  abbrev after : JointScene
  after = evacuated n s e v.ended (tracer_laden v.tracer) (clears n w s seats a i v at e is).0

  -- the collector has not read it yet
  ahead : s.facets.names.collector.server ≤ e.owner.server
  ahead =
      let o = a.joint.order in
      let works = works_there e known.1.acts in
      let f = is_in_evac n w s a.joint e.owner.server (clearing_ended e v.ended) (tracer_laden v.tracer)
      (clearing_phase e) works.0 stands.facets.phase in
      let told = readers_match n w s seats a (Server v) o.seat (cycle_in (clearing_phase e)) f.told o.pending
      (o.here ∙ ap (λ (p : Part). Some (collecting p o.pending)) f.is) in
      subst (λ k. k ≤ e.owner.server) (sym told) f.ahead

  read_on : (r : ℕ) (names : List Name) → r < s.facets.names.collector.server
      → slice_get after.facets.names.sent r ≡ Some names → names ≡ []
  read_on r names low there =
      ⊎_elim (λ same. absurd (let first = ahead in omega arith))
      (λ apart. stand.read r names low
      (sym (get_set_other s.facets.names.sent e.owner.server r _ apart) ∙ there)) (cases_eq r e.owner.server)

  stay : NoticesStay n s.words after.words
  stay = notices_left n w s e known.1.known stands.shape stands.knows

  tells : NoticesStand n after (set seats i (Server (server_next v s.words)))
  tells = record {
    read = read_on;
    knows = still_knows n w s seats i (Server (server_next v s.words)) after.words a stand
        (not_collector (server_next v s.words)) stay;
  }

-- ---- each step

module _ (n : Numbers) (w : Facts) (s : JointScene) (seats : List Seat) (i : ℕ) (v : Serving) (a : AllSit n w s seats)
    (at : slice_get seats i ≡ Some (Server v)) (stand : NoticesStand n s seats) where
  own : ServerSits n w s (a.taker v.tracer.server) i v
  own = a.each i (Server v) at

  st : ServerStands n w s i v
  st = record { joint = a.joint; slots = a.slots; here = own.here; keeps = own.keeps }

  sits_at : (stage : ServerStage) → v.stage ≡ stage → StageSits n w s (a.taker v.tracer.server) v stage
  sits_at stage is = subst (StageSits n w s (a.taker v.tracer.server) v) is own.stage

  abbrev then : List Seat
  then = set seats i (Server (server_next v s.words))

  told : (stage : ServerStage) → v.stage ≡ stage → CanStep (next_of v) s.words (Fits v) → (sent : List Name)
      → AllSit n w (stage_after n s i v sent stage) then → NoticesStand n (stage_after n s i v sent stage) then
      → ServerTells n w s seats i v
  told stage is goes sent all tells = record {
    goes = record {
      can = goes;
      sent = sent;
      all = subst (λ x. AllSit n w (stage_after n s i v sent x) then) (sym is) all;
    };
    stand = subst (λ x. NoticesStand n (stage_after n s i v sent x) then) (sym is) tells;
  }

  -- the facets of names are as they were
  rests : NoticesStay n s.words (words_next v s.words) → NoticesStand n (scene_next s i v) then
  rests stay = record {
    read = stand.read;
    knows = still_knows n w s seats i (Server (server_next v s.words)) (words_next v s.words) a stand
        (not_collector (server_next v s.words)) stay;
  }

  steps : (stage : ServerStage) → v.stage ≡ stage → IsAct (next_of v) → ServerTells n w s seats i v
  steps Turning is acts =
      told Turning is (turns_can_go n w s i v st is) [] (turning n w s seats a i v at is (sits_at Turning is))
      (rests (λ r slot low small some. ap (λ ws. word_at n ws (notice r slot)) (words_turned s v is)))
  steps Tracing is acts =
      told Tracing is
      (tracing_can_go n w s i v st is a.few
      (low_counts n w s i v st (map live_facet seats) (get_mapped live_facet seats i (Server v) at) own.measured a.few
      is a.lives)) [] (tracing n w s seats a i v at is (sits_at Tracing is))
      (rests (λ r slot low small some. words_traced n w s i v st is (notice r slot) (low, small) (λ x. x)))
  steps (Evacuating e) is acts =
      told (Evacuating e) is (can n w s seats a i v at e is) (clears n w s seats a i v at e is).0
      (evacuating n w s seats a i v at e is) (tells n w s seats a i v at stand e is)
  steps Ended is acts = absurd (subst (λ x. IsAct (stage_next v.tracer x)) is acts)

pub server_notices : ServerNotices
server_notices n w s seats i v a at acts stand = steps n w s seats i v a at stand v.stage refl acts
