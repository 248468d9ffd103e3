-- A step of the collector that is no waiting look lowers the rank of its job, or ends it.
use Rattle.std.proofs.Common.{◌≡◌, ℕ, ◌+◌, ◌-◌, ◌<◌, ◌==◌, ◌&&◌, Bool, true, false, cond, nat_lt, not, Option, Some}
use Rattle.std.proofs.Common.{None, arith}
use Rattle.mako_words.specs.Names.{name_at}
use Rattle.mako_words.specs.Notices.{notice_at}
use Rattle.mako_step.specs.Machines.{IsAct, Lowers}
use Rattle.mako_ring.specs.Tracing.{owner}
use Rattle.mako_ring.specs.Windows.{found_room}
use Rattle.mako_pause.specs.declared.stage.Pause.TheVariants.{Snapshot}
use Rattle.mako_pause.specs.declared.stage.IdleStage.{IdleStage}
use Rattle.mako_pause.specs.declared.stage.IdleStage.TheVariants.{LoadingDemand, LookingFinished, StoringStop}
use Rattle.mako_pause.specs.declared.stage.PauseStage.TheVariants.{Shutting}
use Rattle.mako_pause.specs.declared.stage.ForwardStage.{ForwardStage}
use Rattle.mako_pause.specs.declared.stage.ForwardStage.TheVariants.{Looking, Storing}
use Rattle.mako_pause.specs.declared.stage.BarrierStage.{BarrierStage}
use Rattle.mako_pause.specs.declared.stage.BarrierStage.TheVariants.{Loading, Clearing}
use Rattle.mako_pause.specs.declared.stage.ChoiceStage.{ChoiceStage}
use Rattle.mako_pause.specs.declared.stage.ChoiceStage.TheVariants.{LoadingLive, LoadingTop, LoadingHome}
use Rattle.mako_pause.specs.declared.stage.ChoiceStage.TheVariants.{StoringLeaving, StoringHome, StoringTop}
use Rattle.mako_pause.specs.declared.stage.ChoiceStage.TheVariants.{StoringEvac, Opening as Reopening}
use Rattle.mako_pause.specs.declared.stage.NoticeStage.{NoticeStage}
use Rattle.mako_pause.specs.declared.stage.NoticeStage.TheVariants.{Looking as NoticeLook, Clearing as NoticeClear}
use Rattle.mako_pause.specs.declared.stage.NoticeStage.TheVariants.{StoringIdle}
use Rattle.mako_pause.specs.declared.stage.CollectStage.{CollectStage}
use Rattle.mako_pause.specs.declared.stage.CollectStage.TheVariants.{Idle, Pausing, Forwarding, Barriers, Emptying}
use Rattle.mako_pause.specs.declared.stage.CollectStage.TheVariants.{Polling, Choosing, Noticing, Ended}
use Rattle.mako_pause.specs.Collecting.{Holdings, at, window_of, set_window, empty, spare_for, gift_of, chosen_tablet}
use Rattle.mako_pause.specs.Collecting.{idle_fed, forward_fed, barrier_fed, choice_fed, notice_fed, stage_fed}
use Rattle.mako_pause.specs.Collecting.{stage_next}
use Rattle.mako_pause.specs.Keeping.{BarrierIsKnown, StageIsKnown}
use Rattle.mako_pause.specs.Ranks.{idle_waits, idle_renewed, idle_rank, forward_waits, forward_renewed, forward_rank}
use Rattle.mako_pause.specs.Ranks.{barrier_renewed, barrier_rank, choice_renewed, choice_rank, notice_waits}
use Rattle.mako_pause.specs.Ranks.{notice_renewed, notice_rank, stage_waits, stage_renewed, stage_rank, rank}

idle_lowers : (k : Holdings) (s : IdleStage) (w : ℕ) → idle_waits k s w ≡ false
    → Lowers (idle_renewed k s w) (idle_rank s) (rank (idle_fed k s w))
idle_lowers k LoadingDemand w moves = go (nat_lt k.cycle w)
  where
    go : (b : Bool) → Lowers b 3 (rank (cond b (at k (Pausing (Shutting Snapshot 0))) (at k (Idle LookingFinished))))
    go true = omega arith
    go false = omega arith
idle_lowers k LookingFinished w moves = go (w == k.shape.mutators) moves
  where
    go : (b : Bool) → not b ≡ false → rank (cond b (at k (Idle StoringStop)) (at k (Idle LoadingDemand))) < 2
    go true e = omega arith
    go false e = absurd cc
idle_lowers k StoringStop w moves = omega arith

forward_lowers : (k : Holdings) (s : ForwardStage) (w : ℕ) → forward_waits s w ≡ false
    → Lowers (forward_renewed s) (forward_rank s) (rank (forward_fed k s w))
forward_lowers k (Looking x) w moves = go (w == 0) moves
  where
    go : (b : Bool) → not b ≡ false
        → rank (cond b (at (set_window k (owner k.shape x) (found_room k.shape.ring (window_of k (owner k.shape x))))
        (Forwarding (Storing x))) (at k (Forwarding (Looking x)))) < 2
    go true e = omega arith
    go false e = absurd cc
forward_lowers k (Storing x) w moves = omega arith

barrier_lowers : (k : Holdings) (s : BarrierStage) (w : ℕ) → BarrierIsKnown k s
    → Lowers (barrier_renewed k s w) (barrier_rank k s) (rank (barrier_fed k s w))
barrier_lowers k (Loading m) w below = go (w == 0) (m + 1 == k.shape.mutators)
  where
    go : (a b : Bool) → Lowers (a && b) (1 + (k.shape.mutators - m))
        (rank (cond a (cond b (empty k) (at k (Barriers (Loading (m + 1)))))
        (at k (Barriers (Clearing m (name_at w))))))
    go true true = omega arith
    go true false = omega (arith, below)
    go false b = omega (arith, below)
barrier_lowers k (Clearing m x) w below = omega arith

choice_lowers : (k : Holdings) (s : ChoiceStage) (w : ℕ)
    → Lowers (choice_renewed s) (choice_rank s) (rank (choice_fed k s w))
choice_lowers k (LoadingLive s place) w = omega arith
choice_lowers k (LoadingTop s place words) w = omega arith
choice_lowers k (LoadingHome i) w = go (spare_for k (chosen_tablet k i))
  where
    go : (o : Option ℕ) → rank (gift_of k i w o) < 4
    go None = omega arith
    go (Some region) = omega arith
choice_lowers k (StoringLeaving i gift) w = omega arith
choice_lowers k (StoringHome i gift) w = omega arith
choice_lowers k (StoringTop i) w = omega arith
choice_lowers k StoringEvac w = omega arith
choice_lowers k (Reopening m) w = omega arith

notice_lowers : (k : Holdings) (s : NoticeStage) (w : ℕ) → notice_waits s w ≡ false
    → Lowers (notice_renewed s) (notice_rank s) (rank (notice_fed k s w))
notice_lowers k (NoticeLook s) w moves = go (w == 0) moves
  where
    go : (b : Bool) → b ≡ false
        → rank (cond b (at k (Noticing (NoticeLook s))) (at k (Noticing (NoticeClear s (notice_at w))))) < 2
    go true e = absurd cc
    go false e = omega arith
notice_lowers k (NoticeClear s told) w moves = omega arith
notice_lowers k StoringIdle w moves = omega arith

pub stage_lowers : (k : Holdings) (s : CollectStage) (w : ℕ) → StageIsKnown k s → IsAct (stage_next k s)
    → stage_waits k s w ≡ false → Lowers (stage_renewed k s w) (stage_rank k s) (rank (stage_fed k s w))
stage_lowers k (Idle s) w known acts moves = idle_lowers k s w moves
stage_lowers k (Pausing s) w known acts moves = omega arith
stage_lowers k (Forwarding s) w known acts moves = forward_lowers k s w moves
stage_lowers k (Barriers s) w known acts moves = barrier_lowers k s w known.1
stage_lowers k (Emptying s) w known acts moves = omega arith
stage_lowers k Polling w known acts moves = omega arith
stage_lowers k (Choosing s) w known acts moves = choice_lowers k s w
stage_lowers k (Noticing s) w known acts moves = notice_lowers k s w moves
stage_lowers k Ended w known acts moves = absurd acts
