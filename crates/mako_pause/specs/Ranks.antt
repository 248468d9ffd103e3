-- Which steps of the collector wait, which end a job, and how many steps a job still takes.
use Rattle.std.specs.Prelude.{ℕ, Bool, true, false, ◌+◌, ◌-◌, ◌==◌, ◌&&◌, nat_lt, not}
use Rattle.mako_words.specs.Gates.{count_of}
use Rattle.mako_pause.specs.Collecting.{Holdings, Collecting}
use Rattle.mako_pause.specs.declared.stage.IdleStage.{IdleStage}
use Rattle.mako_pause.specs.declared.stage.IdleStage.TheVariants.{LoadingDemand, LookingFinished, StoringStop}
use Rattle.mako_pause.specs.declared.stage.PauseStage.{PauseStage}
use Rattle.mako_pause.specs.declared.stage.PauseStage.TheVariants.{Shutting, Draining, LoadingRoot, StoringTrace}
use Rattle.mako_pause.specs.declared.stage.PauseStage.TheVariants.{Opening}
use Rattle.mako_pause.specs.declared.stage.ForwardStage.{ForwardStage}
use Rattle.mako_pause.specs.declared.stage.ForwardStage.TheVariants.{Looking, Storing}
use Rattle.mako_pause.specs.declared.stage.BarrierStage.{BarrierStage}
use Rattle.mako_pause.specs.declared.stage.BarrierStage.TheVariants.{Loading, Clearing}
use Rattle.mako_pause.specs.declared.stage.ChoiceStage.{ChoiceStage}
use Rattle.mako_pause.specs.declared.stage.ChoiceStage.TheVariants.{LoadingLive, LoadingTop, LoadingHome}
use Rattle.mako_pause.specs.declared.stage.ChoiceStage.TheVariants.{StoringLeaving, StoringHome, StoringTop}
use Rattle.mako_pause.specs.declared.stage.ChoiceStage.TheVariants.{StoringEvac, Opening as Reopening}
use Rattle.mako_pause.specs.declared.stage.NoticeStage.{NoticeStage}
use Rattle.mako_pause.specs.declared.stage.NoticeStage.TheVariants.{Looking as NoticeLook, Clearing as NoticeClear}
use Rattle.mako_pause.specs.declared.stage.NoticeStage.TheVariants.{StoringIdle}
use Rattle.mako_pause.specs.declared.stage.CollectStage.{CollectStage}
use Rattle.mako_pause.specs.declared.stage.CollectStage.TheVariants.{Idle, Pausing, Forwarding, Barriers, Emptying}
use Rattle.mako_pause.specs.declared.stage.CollectStage.TheVariants.{Polling, Choosing, Noticing, Ended}

-- ---- waiting looks
abbrev pub idle_waits : Holdings → IdleStage → ℕ → Bool
idle_waits k LoadingDemand w = false
idle_waits k LookingFinished w = not (w == k.shape.mutators)
idle_waits k StoringStop w = false

abbrev pub pause_waits : PauseStage → ℕ → Bool
pause_waits (Shutting pause m) w = false
pause_waits (Draining pause m) w = nat_lt 0 (count_of w)
pause_waits (LoadingRoot m q) w = false
pause_waits StoringTrace w = false
pause_waits (Opening m) w = false

abbrev pub forward_waits : ForwardStage → ℕ → Bool
forward_waits (Looking x) w = not (w == 0)
forward_waits (Storing x) w = false

abbrev pub notice_waits : NoticeStage → ℕ → Bool
notice_waits (NoticeLook s) w = w == 0
notice_waits (NoticeClear s told) w = false
notice_waits StoringIdle w = false

abbrev pub stage_waits : Holdings → CollectStage → ℕ → Bool
stage_waits k (Idle stage) w = idle_waits k stage w
stage_waits k (Pausing stage) w = pause_waits stage w
stage_waits k (Forwarding stage) w = forward_waits stage w
stage_waits k (Barriers stage) w = false
stage_waits k (Emptying s) w = not (w == 0)
stage_waits k Polling w = false
stage_waits k (Choosing stage) w = false
stage_waits k (Noticing stage) w = notice_waits stage w
stage_waits k Ended w = false

abbrev pub is_waiting : Collecting → ℕ → Bool
is_waiting c w = stage_waits c.kept c.stage w

-- ---- jobs: a gate, a root, a name, a round of looks, a server that is polled, a tablet, a notice, or the store of a
-- phase
abbrev pub idle_renewed : Holdings → IdleStage → ℕ → Bool
idle_renewed k LoadingDemand w = nat_lt k.cycle w
idle_renewed k LookingFinished w = false
idle_renewed k StoringStop w = false

abbrev pub forward_renewed : ForwardStage → Bool
forward_renewed (Looking x) = false
forward_renewed (Storing x) = true

abbrev pub barrier_renewed : Holdings → BarrierStage → ℕ → Bool
barrier_renewed k (Loading m) w = w == 0 && m + 1 == k.shape.mutators
barrier_renewed k (Clearing m x) w = true

abbrev pub choice_renewed : ChoiceStage → Bool
choice_renewed (LoadingLive s place) = false
choice_renewed (LoadingTop s place words) = true
choice_renewed (LoadingHome i) = false
choice_renewed (StoringLeaving i gift) = false
choice_renewed (StoringHome i gift) = false
choice_renewed (StoringTop i) = true
choice_renewed StoringEvac = true
choice_renewed (Reopening m) = true

abbrev pub notice_renewed : NoticeStage → Bool
notice_renewed (NoticeLook s) = false
notice_renewed (NoticeClear s told) = true
notice_renewed StoringIdle = true

abbrev pub stage_renewed : Holdings → CollectStage → ℕ → Bool
stage_renewed k (Idle stage) w = idle_renewed k stage w
stage_renewed k (Pausing stage) w = true
stage_renewed k (Forwarding stage) w = forward_renewed stage
stage_renewed k (Barriers stage) w = barrier_renewed k stage w
stage_renewed k (Emptying s) w = true
stage_renewed k Polling w = true
stage_renewed k (Choosing stage) w = choice_renewed stage
stage_renewed k (Noticing stage) w = notice_renewed stage
stage_renewed k Ended w = false

abbrev pub is_renewed : Collecting → ℕ → Bool
is_renewed c w = stage_renewed c.kept c.stage w

-- ---- the most steps that the present job still takes
abbrev pub idle_rank : IdleStage → ℕ
idle_rank LoadingDemand = 3
idle_rank LookingFinished = 2
idle_rank StoringStop = 1

abbrev pub forward_rank : ForwardStage → ℕ
forward_rank (Looking x) = 2
forward_rank (Storing x) = 1

abbrev pub barrier_rank : Holdings → BarrierStage → ℕ
barrier_rank k (Loading m) = 1 + (k.shape.mutators - m)
barrier_rank k (Clearing m x) = 1

abbrev pub choice_rank : ChoiceStage → ℕ
choice_rank (LoadingLive s place) = 2
choice_rank (LoadingTop s place words) = 1
choice_rank (LoadingHome i) = 4
choice_rank (StoringLeaving i gift) = 3
choice_rank (StoringHome i gift) = 2
choice_rank (StoringTop i) = 1
choice_rank StoringEvac = 1
choice_rank (Reopening m) = 1

abbrev pub notice_rank : NoticeStage → ℕ
notice_rank (NoticeLook s) = 2
notice_rank (NoticeClear s told) = 1
notice_rank StoringIdle = 1

abbrev pub stage_rank : Holdings → CollectStage → ℕ
stage_rank k (Idle stage) = idle_rank stage
stage_rank k (Pausing stage) = 1
stage_rank k (Forwarding stage) = forward_rank stage
stage_rank k (Barriers stage) = barrier_rank k stage
stage_rank k (Emptying s) = 1
stage_rank k Polling = 1
stage_rank k (Choosing stage) = choice_rank stage
stage_rank k (Noticing stage) = notice_rank stage
stage_rank k Ended = 0

abbrev pub rank : Collecting → ℕ
rank c = stage_rank c.kept c.stage
