-- Barrier slots at the start of a script, and over the steps of servers and of the collector.
use Rattle.std.proofs.Common.{◌≡◌, ℕ, inl, List, length, slice_get, Some, sym, ap, subst, refl, ◌∙◌}
use Rattle.mako_words.specs.declared.name.Name.{Name}
use Rattle.mako_shape.specs.declared.numbers.Numbers.{Numbers}
use Rattle.mako_shape.specs.Places.{barrier, total}
use Rattle.mako_step.specs.Acts.{words_stepped}
use Rattle.mako_model.specs.Legal.{Facts}
use Rattle.mako_joint.specs.Joints.{JointScene}
use Rattle.mako_server.specs.Serving as serving
use Rattle.mako_server.specs.Serving.{Serving}
use Rattle.mako_server.specs.declared.stage.ServerStage.{ServerStage}
use Rattle.mako_server.specs.declared.stage.ServerStage.TheVariants.{Turning, Tracing, Evacuating, Ended}
use Rattle.mako_seat.specs.declared.seat.Seat.{Seat}
use Rattle.mako_seat.specs.declared.seat.Seat.TheVariants.{Server, Collector}
use Rattle.mako_state.proofs.OpeningWords.{start_words}
use Rattle.mako_tracing.specs.Laws.{words_next, ServerStands}
use Rattle.mako_collecting.specs.Steps as collector
use Rattle.mako_sitting.specs.Seats.{AllSit, ServerSits, CollectorSits}
use Rattle.mako_sitting_servers.specs.ServerSteps.{stage_after}
use Rattle.mako_sitting_collector.specs.CollectorGoing.{BarriersHold}
use Rattle.mako_whole.specs.AllBarriers.{OpeningsHoldBarriers, ServersHoldBarriers, CollectorsHoldBarriers}
use Rattle.mako_whole.proofs.AllBarriersCollector.{AreLeftOrEmpty, barriers_left}
use Rattle.mako_sitting_collector.proofs.CollectorGoingBarriers.{emptying_leaves_names}
use Rattle.mako_sitting_servers.proofs.ServerFrames.{words_left}

-- at the start all slots are empty
pub openings_hold_barriers : OpeningsHoldBarriers
openings_hold_barriers s proper m slot within =
    inl (start_words s.numbers proper.shape s.board (barrier m slot) within)

-- a server may write none of them
module _ (n : Numbers) (w : Facts) (s : JointScene) (seats : List Seat) (i : ℕ) (v : Serving)
    (all : AllSit n w s seats) (here : slice_get seats i ≡ Some (Server v)) (hold : BarriersHold n s.words) where
  sits : ServerSits n w s (all.taker v.tracer.server) i v
  sits = all.each i (Server v) here

  stands : ServerStands n w s i v
  stands = record { joint = all.joint; slots = all.slots; here = sits.here; keeps = sits.keeps }

  pub left : BarriersHold n (words_next v s.words)
  left =
      emptying_leaves_names n s.words (words_next v s.words)
      (λ m slot low inside. inl (words_left n w s i v stands (barrier m slot) (low, inside) (λ x. x))) hold

  by : (sent : List Name) (st : ServerStage) → v.stage ≡ st → BarriersHold n (stage_after n s i v sent st).words
  by sent Turning is = left
  by sent Tracing is = left
  by sent (Evacuating e) is =
      subst (λ t. BarriersHold n (words_stepped (serving.stage_next v.tracer t) s.words)) is left
  by sent Ended is = hold

pub servers_hold_barriers : ServersHoldBarriers
servers_hold_barriers n w s seats i v sent all here hold = by n w s seats i v all here hold sent v.stage refl

pub collectors_hold_barriers : CollectorsHoldBarriers
collectors_hold_barriers n w s after seats i c all here words hold =
    let sits : CollectorSits n w s all.taker all.places i c = all.each i (Collector c) here in
    let shape = sits.here.shape in
    let size : length s.words ≡ total c.kept.shape = all.joint.names.hold.size ∙ ap total (sym shape) in
    let left : AreLeftOrEmpty n s.words (collector.words_next c s.words) =
    subst (λ q. AreLeftOrEmpty q s.words (collector.words_next c s.words)) shape
    (barriers_left c s.words sits.known sits.keeps.stage size) in
    subst (BarriersHold n) (sym words)
    (emptying_leaves_names n s.words (collector.words_next c s.words) left hold)
