-- The collector's steps over states, whatever its stage.
use Rattle.std.proofs.Common.{◌≡◌, ℕ, slice_get, Some}
use Rattle.mako_shape.specs.declared.numbers.Numbers.{Numbers}
use Rattle.mako_model.specs.Legal.{Facts}
use Rattle.mako_pause.specs.Collecting.{Holdings, at}
use Rattle.mako_pause.specs.declared.stage.IdleStage.TheVariants.{LoadingDemand, LookingFinished, StoringStop}
use Rattle.mako_pause.specs.declared.stage.PauseStage.TheVariants.{Draining, LoadingRoot, Shutting, StoringTrace}
use Rattle.mako_pause.specs.declared.stage.PauseStage.TheVariants.{Opening}
use Rattle.mako_pause.specs.declared.stage.ForwardStage.TheVariants.{Looking, Storing}
use Rattle.mako_pause.specs.declared.stage.BarrierStage.TheVariants.{Loading, Clearing}
use Rattle.mako_pause.specs.declared.stage.ChoiceStage.{ChoiceStage}
use Rattle.mako_pause.specs.declared.stage.ChoiceStage.TheVariants.{LoadingLive, LoadingTop, LoadingHome}
use Rattle.mako_pause.specs.declared.stage.ChoiceStage.TheVariants.{StoringLeaving, StoringHome, StoringTop}
use Rattle.mako_pause.specs.declared.stage.ChoiceStage.TheVariants.{StoringEvac, Opening as Reopening}
use Rattle.mako_pause.specs.declared.stage.CollectStage.{CollectStage}
use Rattle.mako_pause.specs.declared.stage.CollectStage.TheVariants.{Idle, Pausing, Forwarding, Barriers, Emptying}
use Rattle.mako_pause.specs.declared.stage.CollectStage.TheVariants.{Polling, Choosing, Noticing, Ended}
use Rattle.mako_seat.specs.declared.seat.Seat.TheVariants.{Collector}
use Rattle.mako_state.specs.CoreStates.{CoreState, step_of}
use Rattle.mako_whole.specs.AllRuns.{SeatsSit, CollectorIsAt}
use Rattle.mako_sitting_collector.specs.CollectorChoices.{IsOfChoice}
use Rattle.mako_sitting_collector.specs.CollectorGates.{IsGateStore}
use Rattle.mako_sitting_collector.specs.CollectorRounds.{IsRoundStore}
use Rattle.mako_sitting_collector.specs.CollectorSteps.{IsLook}
use Rattle.mako_whole.specs.AllCollecting.{FactsStand, CollectorsKeepSeats}
use Rattle.mako_whole.proofs.AllCollecting.{findings_fit, notices_run}
use Rattle.mako_whole.proofs.AllRuns.{step_sits}
use Rattle.mako_whole.proofs.AllRunsCollector.{looks_run, round_stores_run, polls_run, choices_run, gates_run}
use Rattle.mako_whole.proofs.AllRunsCollector.{stops_run, snapshots_run, evacs_run}

module _ (n : Numbers) (w : Facts) (st : CoreState) (sits : SeatsSit n w st) (facts : FactsStand n w st sits.facets)
    (i : ℕ) (k : Holdings) where
  abbrev At : CollectStage → Type 0
  At stage = slice_get st.seats i ≡ Some (Collector (at k stage))

  abbrev Kept : Type 0
  Kept = SeatsSit n w (step_of st i)

  is_at : (stage : CollectStage) → At stage → CollectorIsAt st i k stage
  is_at stage here = record { here = here; fits = findings_fit n w st i k stage sits facts here }

  look : (stage : CollectStage) → IsLook stage → At stage → Kept
  look stage is here = looks_run n w st i k stage is sits (is_at stage here)

  store : (stage : CollectStage) → IsRoundStore stage → At stage → Kept
  store stage is here = round_stores_run n w st i k stage is sits (is_at stage here)

  gate : (stage : CollectStage) → IsGateStore stage → At stage → Kept
  gate stage is here = gates_run n w st i k stage is sits here

  choose : (stage : ChoiceStage) → IsOfChoice stage → At (Choosing stage) → Kept
  choose stage is here =
      choices_run n w st i k stage is (facts.spares i k stage here) sits (is_at (Choosing stage) here)

  pub kept_at : (stage : CollectStage) → At stage → Kept
  kept_at (Idle LoadingDemand) = look (Idle LoadingDemand) tt
  kept_at (Idle LookingFinished) = look (Idle LookingFinished) tt
  kept_at (Idle StoringStop) = stops_run n w st i k sits
  kept_at (Pausing (Shutting pause m)) = gate (Pausing (Shutting pause m)) tt
  kept_at (Pausing (Draining pause m)) = look (Pausing (Draining pause m)) tt
  kept_at (Pausing (LoadingRoot m q)) = look (Pausing (LoadingRoot m q)) tt
  kept_at (Pausing StoringTrace) = snapshots_run n w st i k sits
  kept_at (Pausing (Opening m)) = gate (Pausing (Opening m)) tt
  kept_at (Forwarding (Looking x)) = look (Forwarding (Looking x)) tt
  kept_at (Forwarding (Storing x)) = store (Forwarding (Storing x)) tt
  kept_at (Barriers (Loading m)) = look (Barriers (Loading m)) tt
  kept_at (Barriers (Clearing m x)) = store (Barriers (Clearing m x)) tt
  kept_at (Emptying r) = look (Emptying r) tt
  kept_at Polling = λ here. polls_run n w st i k sits (is_at Polling here)
  kept_at (Choosing (LoadingLive r place)) = choose (LoadingLive r place) tt
  kept_at (Choosing (LoadingTop r place words)) = choose (LoadingTop r place words) tt
  kept_at (Choosing (LoadingHome at)) = choose (LoadingHome at) tt
  kept_at (Choosing (StoringLeaving at gift)) = choose (StoringLeaving at gift) tt
  kept_at (Choosing (StoringHome at gift)) = choose (StoringHome at gift) tt
  kept_at (Choosing (StoringTop at)) = choose (StoringTop at) tt
  kept_at (Choosing StoringEvac) = evacs_run n w st i k sits
  kept_at (Choosing (Reopening m)) = gate (Choosing (Reopening m)) tt
  kept_at (Noticing stage) = notices_run n w st i k stage sits facts
  kept_at Ended = λ here. step_sits n w st i (Collector (at k Ended)) sits here (λ acts. absurd acts)

pub collectors_keep_seats : CollectorsKeepSeats
collectors_keep_seats n w st i c sits facts here = kept_at n w st sits facts i c.kept c.stage here
