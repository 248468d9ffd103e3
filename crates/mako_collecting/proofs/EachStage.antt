-- The laws: each stage of the collector, at the numbers of its own geometry.
use Rattle.std.proofs.Common.{◌≡◌, ℕ, ◌<◌, arith, set, true, List, All, length, sym, subst}
use Rattle.std.proofs.lemmas.List.Elements.{All-set}
use Rattle.mako_model.specs.Legal.{Facts, state_of}
use Rattle.mako_names.specs.Steps.{NoneIsFreed}
use Rattle.mako_ring.specs.Tracing.{no_window}
use Rattle.mako_ring.specs.Windows.{IsWindow, tail_up}
use Rattle.mako_ring.proofs.Words.{windows_stay}
use Rattle.mako_layout.specs.Facets.{Gift}
use Rattle.mako_joint.specs.Joints.{JointScene, Joint}
use Rattle.mako_pause.specs.Collecting.{Holdings, running, window_of, at}
use Rattle.mako_pause.specs.declared.stage.PauseStage.{PauseStage}
use Rattle.mako_pause.specs.declared.stage.PauseStage.TheVariants.{Shutting, Draining, LoadingRoot, StoringTrace}
use Rattle.mako_pause.specs.declared.stage.PauseStage.TheVariants.{Opening}
use Rattle.mako_pause.specs.declared.stage.ForwardStage.TheVariants.{Looking, Storing}
use Rattle.mako_pause.specs.declared.stage.BarrierStage.TheVariants.{Loading, Clearing}
use Rattle.mako_pause.specs.declared.stage.ChoiceStage.{ChoiceStage}
use Rattle.mako_pause.specs.declared.stage.ChoiceStage.TheVariants.{LoadingLive, LoadingTop, LoadingHome}
use Rattle.mako_pause.specs.declared.stage.ChoiceStage.TheVariants.{StoringLeaving, StoringHome, StoringTop}
use Rattle.mako_pause.specs.declared.stage.ChoiceStage.TheVariants.{StoringEvac, Opening as Reopening}
use Rattle.mako_pause.specs.declared.stage.CollectStage.{CollectStage}
use Rattle.mako_pause.specs.declared.stage.CollectStage.TheVariants.{Idle, Pausing, Forwarding, Barriers, Emptying}
use Rattle.mako_pause.specs.declared.stage.CollectStage.TheVariants.{Polling, Choosing, Noticing, Ended}
use Rattle.mako_collecting.specs.Choosing.{choice_at}
use Rattle.mako_collecting.specs.Facets.{IsCollector}
use Rattle.mako_collecting.specs.Laws.{Stands, IdleStepsKeep, StoresNoPhase, PauseStepsKeep, SnapshotsKeep}
use Rattle.mako_collecting.specs.Laws.{IsInRound, RoundStepsKeep, PollStepsKeep, ChoiceMayGo, ChoiceStepsKeep}
use Rattle.mako_collecting.specs.Steps.{with_collector, words_next, collector_next, stepped, snapped, polled, chosen}
use Rattle.mako_collecting.specs.Ties.{ServersAreTied, RootsStand, BarriersAreEmpty}
use Rattle.mako_collecting.proofs.Choosing.{live_loaded, top_loaded, home_loaded, leaving_stored, home_stored}
use Rattle.mako_collecting.proofs.Choosing.{top_stored}
use Rattle.mako_collecting.proofs.Emptying.{barrier_loaded, gathered, emptied}
use Rattle.mako_collecting.proofs.Evacuating.{evacuates, reopens}
use Rattle.mako_collecting.proofs.Forwarding.{looks, stores}
use Rattle.mako_collecting.proofs.Gating.{shuts, drains, opens}
use Rattle.mako_collecting.proofs.Idling as idling
use Rattle.mako_collecting.proofs.Polling.{polls_on}
use Rattle.mako_collecting.proofs.Rooting.{root_loaded}
use Rattle.mako_collecting.proofs.Snapping.{snaps}

pub idle_steps_keep : IdleStepsKeep
idle_steps_keep n w s places k stage stands =
    subst (λ m. Stands m w s places (at k (Idle stage)) → Joint m w (stepped m s (at k (Idle stage)))) stands.seat.shape
    (λ x. idling.idle_steps w k s x.joint stage x.seat) stands

-- ---- pauses

pause_step : (w : Facts) (s : JointScene) (places : ℕ → ℕ) (k : Holdings) (stage : PauseStage)
    → Stands k.shape w s places (at k (Pausing stage)) → StoresNoPhase stage
    → Joint k.shape w (stepped k.shape s (at k (Pausing stage)))
pause_step w s places k (Shutting pause m) x free = shuts w k s x.joint pause m x.keeps.stage.1 x.seat
pause_step w s places k (Draining pause m) x free = drains w k s x.joint pause m x.keeps.stage.1 x.seat
pause_step w s places k (LoadingRoot m q) x free =
    root_loaded w k s x.joint m q x.keeps.stage.1.0 x.keeps.stage.1.1 x.seat
pause_step w s places k StoringTrace x free = absurd free
pause_step w s places k (Opening m) x free = opens w k s x.joint m x.keeps.stage.1 x.keeps.keeps x.seat

pub pause_steps_keep : PauseStepsKeep
pause_steps_keep n w s places k stage stands free =
    subst (λ m. Stands m w s places (at k (Pausing stage)) → Joint m w (stepped m s (at k (Pausing stage))))
    stands.seat.shape (λ x. pause_step w s places k stage x free) stands

pub snapshots_keep : SnapshotsKeep
snapshots_keep n w s places k stands ties sole roots rooted through sent none =
    subst (λ m. Stands m w s places (at k (Pausing StoringTrace)) → RootsStand m s.words (state_of w s.front.history)
    → NoneIsFreed m through sent
    → Joint m w (stepped m (snapped s (running k) through sent) (at k (Pausing StoringTrace)))) stands.seat.shape
    (λ x r f. snaps w k s x.joint x.seat through sent f ties sole r rooted) stands roots none

-- ---- while servers trace

windows_after : (k : Holdings) (size r : ℕ) → All (IsWindow size) k.windows → r < length k.windows
    → (window_of k r).tail < (window_of k r).head → All (IsWindow size) (set k.windows r (tail_up size (window_of k r)))
windows_after k size r windows low open_ =
    All-set (IsWindow size) k.windows r (tail_up size (window_of k r))
    (windows_stay.tail_up size (window_of k r) (windows r no_window low) open_).0 windows

round_step : (w : Facts) (s : JointScene) (places : ℕ → ℕ) (k : Holdings) (stage : CollectStage) → IsInRound stage
    → Stands k.shape w s places (at k stage) → Joint k.shape w (stepped k.shape s (at k stage))
round_step w s places k (Forwarding (Looking x)) is y =
    looks w k s y.joint y.known.windows_count x y.keeps.stage.1 y.seat
round_step w s places k (Forwarding (Storing x)) is y =
    stores w k s y.joint y.known.windows_count x y.keeps.stage.1.0 y.seat
round_step w s places k (Barriers (Loading m)) is y =
    barrier_loaded w k s y.joint y.keeps.keeps m y.seat y.known.windows_count y.known.windows
round_step w s places k (Barriers (Clearing m x)) is y =
    let low = y.keeps.stage.1.0 in
    let slot = y.known.barriers m 0 (let a = y.known.barriers_count in omega arith) in
    gathered w k s y.joint y.keeps.keeps.0 m x (low, slot) y.keeps.stage.1.1.1 y.keeps.keeps.1 y.seat
round_step w s places k (Emptying r) is y =
    let low : r < length k.windows = (let a = y.known.windows_count in let b = y.keeps.stage.1.0 in omega arith) in
    emptied w k s y.joint y.keeps.keeps y.known.windows_count y.known.windows r y.keeps.stage.1.0 y.keeps.stage.1.1
    (windows_after k k.shape.ring r y.known.windows low y.keeps.stage.1.1) y.seat
round_step w s places k (Idle stage) is y = absurd is
round_step w s places k (Pausing stage) is y = absurd is
round_step w s places k Polling is y = absurd is
round_step w s places k (Choosing stage) is y = absurd is
round_step w s places k (Noticing stage) is y = absurd is
round_step w s places k Ended is y = absurd is

pub round_steps_keep : RoundStepsKeep
round_steps_keep n w s places k stage is stands =
    subst (λ m. Stands m w s places (at k stage) → Joint m w (stepped m s (at k stage))) stands.seat.shape
    (round_step w s places k stage is) stands

poll_step : (w : Facts) (s : JointScene) (places : ℕ → ℕ) (k : Holdings) → Stands k.shape w s places (at k Polling)
    → ServersAreTied s.facets.phases s.facets.servers → Joint k.shape w (polled k.shape s (at k Polling))
poll_step w s places k x ties =
    let same : record k { poll = record { shape = k.shape; stage = k.poll.stage } } ≡ k =
    λ i. record k { poll = record { shape = sym x.known.poll_shape i; stage = k.poll.stage } } in
    let empty : k.gates_shut ≡ true → BarriersAreEmpty k.shape s.words =
    λ shut m slot within. x.keeps.empty shut m slot within.0 within.0 within.1 in
    let each = x.joint.script.shape.in_range.each in
    subst (λ (h : Holdings). IsCollector k.shape s (at h Polling)
    → Joint k.shape w (polled k.shape s (at h Polling))) same
    (polls_on w k s x.joint (omega (arith, each)) ties empty k.poll.stage x.known.poll x.keeps.keeps.1) x.seat

pub poll_steps_keep : PollStepsKeep
poll_steps_keep n w s places k stands ties =
    subst (λ m. Stands m w s places (at k Polling) → Joint m w (polled m s (at k Polling))) stands.seat.shape
    (λ x. poll_step w s places k x ties) stands

-- ---- the choice

choice_step : (w : Facts) (s : JointScene) (places : ℕ → ℕ) (k : Holdings) (stage : ChoiceStage)
    → Stands k.shape w s places (at k (Choosing stage)) → (given : List Gift) (spare : List ℕ)
    → s.facets.choice ≡ choice_at k stage given spare → ChoiceMayGo k.shape s k stage given spare
    → Joint k.shape w (chosen k.shape s k stage given spare)
choice_step w s places k (LoadingLive r place) x given spare is may =
    live_loaded w k s x.joint r place given spare is x.seat
choice_step w s places k (LoadingTop r place words) x given spare is may =
    top_loaded w k s x.joint r place words given spare is x.seat
choice_step w s places k (LoadingHome i) x given spare is may =
    home_loaded w k s x.joint i may.0 given spare is may.1 x.seat
choice_step w s places k (StoringLeaving i gift) x given spare is may =
    leaving_stored w k s x.joint i gift given spare (x.known.chosen i 0 x.keeps.stage.1.0) is may x.seat
choice_step w s places k (StoringHome i gift) x given spare is may =
    home_stored w k s x.joint i gift given spare (x.known.chosen i 0 x.keeps.stage.1.0) is x.seat
choice_step w s places k (StoringTop i) x given spare is may =
    top_stored w k s x.joint i given spare (x.known.chosen i 0 x.keeps.stage.1) x.keeps.stage.1 is x.seat
choice_step w s places k StoringEvac x given spare is may = evacuates w k s x.joint x.seat may given spare is
choice_step w s places k (Reopening m) x given spare is may =
    subst (λ choice. Joint k.shape w
    (with_collector k.shape s (words_next (at k (Choosing (Reopening m))) s.words) choice
    (collector_next (at k (Choosing (Reopening m))) s.words))) is (reopens w k s x.joint m x.keeps.stage.1 x.seat)

pub choice_steps_keep : ChoiceStepsKeep
choice_steps_keep n w s places k stage stands given spare is may =
    subst (λ m. Stands m w s places (at k (Choosing stage)) → ChoiceMayGo m s k stage given spare
    → Joint m w (chosen m s k stage given spare)) stands.seat.shape
    (λ x y. choice_step w s places k stage x given spare is y) stands may
