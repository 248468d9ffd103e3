-- Where all seats stand, each seat can make its step, and all stand after it.
use Rattle.std.proofs.Common.{◌≡◌, ℕ, slice_get, Some, refl}
use Rattle.mako_shape.specs.declared.numbers.Numbers.{Numbers}
use Rattle.mako_step.specs.Machines.{CanStep, IsAct}
use Rattle.mako_step.specs.declared.step.Step.{Step}
use Rattle.mako_step.specs.declared.step.Step.TheVariants.{Do, Ended as NoStep}
use Rattle.mako_model.specs.Legal.{Facts}
use Rattle.mako_server.specs.Serving as serving
use Rattle.mako_server.specs.Serving.{Serving}
use Rattle.mako_seat.specs.declared.seat.Seat.TheVariants.{Mutator, Server, Collector}
use Rattle.mako_state.specs.CoreStates.{CoreState}
use Rattle.mako_whole.specs.AllRuns.{scene_in}
use Rattle.mako_whole.specs.AllStanding.{SeatsStand, StepsStand, StepsCanGo}
use Rattle.mako_whole.proofs.AllCollecting.{can_at}
use Rattle.mako_whole.proofs.AllStandingCollector.{sits, facts, collector_stands}
use Rattle.mako_whole.proofs.AllStandingSteps.{seat_stands}
use Rattle.mako_sitting_mutators.proofs.MutatorTurns.{mutators_can_go}
use Rattle.mako_sitting_servers.proofs.ServerEvacuates.{servers_keep_all}

pub steps_stand : StepsStand
steps_stand n w st i stands = seat_stands collector_stands n w st stands i (slice_get st.seats i) refl

-- a server can make each act, and at its end it makes none
module _ (n : Numbers) (w : Facts) (st : CoreState) (i : ℕ) (v : Serving) (stands : SeatsStand n w st)
    (here : slice_get st.seats i ≡ Some (Server v)) where
  by_step : (next : Step) → (IsAct next → CanStep next st.words (serving.Fits v))
      → CanStep next st.words (serving.Fits v)
  by_step (Do act) can = can tt
  by_step NoStep can = tt

  server_can : CanStep (serving.next_of v) st.words (serving.Fits v)
  server_can = by_step (serving.next_of v)
      (λ acts. (servers_keep_all n w (scene_in st stands.facets) st.seats i v stands.all here acts).can)

pub steps_can_go : StepsCanGo
steps_can_go n w st i (Mutator d) stands here =
    mutators_can_go n w (scene_in st stands.facets) st.seats i d stands.all here
steps_can_go n w st i (Server v) stands here = server_can n w st i v stands here
steps_can_go n w st i (Collector c) stands here =
    can_at n w st (sits n w st stands) (facts n w st stands) i c.kept c.stage here
