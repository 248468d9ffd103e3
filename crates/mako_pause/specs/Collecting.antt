-- The collector as a machine: what it keeps, what it does next, and what it becomes by the word found.
use Rattle.std.specs.Prelude.{◌≡◌, ℕ, Bool, true, false, ◌+◌, ◌*◌, ◌%◌, ◌<◌, ◌≤◌, ◌==◌, ◌⊎◌, nat_lt, if◌then◌else◌}
use Rattle.std.specs.Prelude.{Option, Some, None, List, [], ◌∷◌, ◌++◌, length, map, position, sum_by, slice_index}
use Rattle.std.specs.Prelude.{slice_index_or, slice_set}
use Rattle.mako_words.specs.Gates.{IsPackedGate, count_of}
use Rattle.mako_words.specs.Lives.{live_at, IsPackedLive}
use Rattle.mako_words.specs.Names.{name_word, name_at, IsPackedName}
use Rattle.mako_words.specs.Notices.{notice_at, IsPackedNotice}
use Rattle.mako_words.specs.Phases.{phase_word}
use Rattle.mako_words.specs.Values.{value_at, IsPacked}
use Rattle.mako_words.specs.Words.{all_but}
use Rattle.mako_words.specs.declared.gate_word.TheConstants.GateWord.{SHUT}
use Rattle.mako_words.specs.declared.name.Name.{Name}
use Rattle.mako_words.specs.declared.notice_word.NoticeWord.{NoticeWord}
use Rattle.mako_words.specs.declared.notice_word.NoticeWord.TheVariants.{Freed, Done}
use Rattle.mako_words.specs.declared.phase_word.PhaseWord.TheVariants.{Idle as IdlePhase, Trace, Evac, Stop}
use Rattle.mako_words.specs.declared.value.Value.{Value}
use Rattle.mako_words.specs.declared.value.Value.TheVariants.{Null, Num, Ref}
use Rattle.mako_shape.specs.declared.numbers.Numbers.{Numbers}
use Rattle.mako_shape.specs.Belongings.{server_of_tablet}
use Rattle.mako_shape.specs.Places.{Place, index, phase, demand, finished, mutator_gate, root, barrier, work, notice}
use Rattle.mako_shape.specs.Places.{home, top, leaving, live}
use Rattle.mako_step.specs.Acts.{does}
use Rattle.mako_step.specs.declared.act.Op.TheVariants.{Load, Store, Or, And}
use Rattle.mako_step.specs.declared.step.Step.{Step}
use Rattle.mako_step.specs.declared.step.Step.TheVariants.{Ended as NoStep}
use Rattle.mako_model.specs.CycleLists.{Lists}
use Rattle.mako_model.specs.declared.event.Event.{Event}
use Rattle.mako_model.specs.declared.event.Event.TheVariants.{Nothing, Snapped, Finished}
use Rattle.mako_ring.specs.Contents.{after_place}
use Rattle.mako_ring.specs.Tracing.{owner, no_window, is_open, IsNamed, FieldFits}
use Rattle.mako_ring.specs.Windows.{tail_up, head_up, found_room}
use Rattle.mako_ring.specs.declared.window.Window.{Window}
use Rattle.mako_poll.specs.Polls as polls
use Rattle.mako_poll.specs.Polls.{PollView}
use Rattle.mako_poll.specs.declared.poller.PollStage.{PollStage}
use Rattle.mako_poll.specs.declared.poller.PollStage.TheVariants.{Asking, Reading, Ended as Polled}
use Rattle.mako_poll.specs.declared.poller.Polled.TheVariants.{Told, NotYet}
use Rattle.mako_choice.specs.Choices.{choice}
use Rattle.mako_pause.specs.Regions.{spare_between}
use Rattle.mako_choice.specs.declared.chooser.Used.{Used}
use Rattle.mako_pause.specs.declared.regions.Role.{Role}
use Rattle.mako_pause.specs.declared.regions.Role.TheVariants.{Home, Spare}
use Rattle.mako_pause.specs.declared.stage.Pause.{Pause}
use Rattle.mako_pause.specs.declared.stage.Pause.TheVariants.{Snapshot, Choice}
use Rattle.mako_pause.specs.declared.stage.IdleStage.{IdleStage}
use Rattle.mako_pause.specs.declared.stage.IdleStage.TheVariants.{LoadingDemand, LookingFinished, StoringStop}
use Rattle.mako_pause.specs.declared.stage.PauseStage.{PauseStage}
use Rattle.mako_pause.specs.declared.stage.PauseStage.TheVariants.{Shutting, Draining, LoadingRoot, StoringTrace}
use Rattle.mako_pause.specs.declared.stage.PauseStage.TheVariants.{Opening}
use Rattle.mako_pause.specs.declared.stage.ForwardStage.{ForwardStage}
use Rattle.mako_pause.specs.declared.stage.ForwardStage.TheVariants.{Looking, Storing}
use Rattle.mako_pause.specs.declared.stage.BarrierStage.{BarrierStage}
use Rattle.mako_pause.specs.declared.stage.BarrierStage.TheVariants.{Loading, Clearing}
use Rattle.mako_pause.specs.declared.stage.ChoiceStage.{ChoiceStage}
use Rattle.mako_pause.specs.declared.stage.ChoiceStage.TheVariants.{LoadingLive, LoadingTop, LoadingHome}
use Rattle.mako_pause.specs.declared.stage.ChoiceStage.TheVariants.{StoringLeaving, StoringHome, StoringTop}
use Rattle.mako_pause.specs.declared.stage.ChoiceStage.TheVariants.{StoringEvac, Opening as Reopening}
use Rattle.mako_pause.specs.declared.stage.NoticeStage.{NoticeStage}
use Rattle.mako_pause.specs.declared.stage.NoticeStage.TheVariants.{Looking as NoticeLook, Clearing as NoticeClear}
use Rattle.mako_pause.specs.declared.stage.NoticeStage.TheVariants.{StoringIdle}
use Rattle.mako_pause.specs.declared.stage.CollectStage.{CollectStage}
use Rattle.mako_pause.specs.declared.stage.CollectStage.TheVariants.{Idle, Pausing, Forwarding, Barriers, Emptying}
use Rattle.mako_pause.specs.declared.stage.CollectStage.TheVariants.{Polling, Choosing, Noticing, Ended}

-- What the collector keeps: the last finished cycle, whether completion is awaited with the gates shut, the pending
-- names, a window of each server's work ring, its positions in the barrier and the notice rings, the poll, what was
-- loaded of a server's tablets, the tablets that are chosen, what each region is for, the names freed in this cycle,
-- and the finished cycles.
pub record Holdings : Type 0 where
  pub shape : Numbers
  pub cycle : ℕ
  pub gates_shut : Bool
  pub pending : List Name
  pub windows : List Window
  pub barrier_at : List ℕ
  pub notice_at : List ℕ
  pub poll : PollView
  pub used : List Used
  pub chosen : List ℕ
  pub roles : List Role
  pub freed : List Name
  pub cycles : Lists

pub record Collecting : Type 0 where
  pub kept : Holdings
  pub stage : CollectStage

abbrev pub at : Holdings → CollectStage → Collecting
at k stage = record { kept = k; stage = stage }

-- the cycle that runs
abbrev pub running : Holdings → ℕ
running k = k.cycle + 1

-- its window of the work ring of a server
abbrev pub window_of : Holdings → ℕ → Window
window_of k s = slice_index_or k.windows s no_window

abbrev pub set_window : Holdings → ℕ → Window → Holdings
set_window k s w = record k { windows = slice_set k.windows s w }

-- a chosen tablet, by its number in the order of choice
abbrev pub chosen_tablet : Holdings → ℕ → ℕ
chosen_tablet k i = slice_index k.chosen i

-- ---- what it does next
abbrev pub idle_next : Holdings → IdleStage → Step
idle_next k LoadingDemand = does (index k.shape demand) Load
idle_next k LookingFinished = does (index k.shape finished) Load
idle_next k StoringStop = does (index k.shape phase) (Store (phase_word (Stop k.cycle)))

abbrev pub pause_next : Holdings → PauseStage → Step
pause_next k (Shutting pause m) = does (index k.shape (mutator_gate m)) (Or SHUT)
pause_next k (Draining pause m) = does (index k.shape (mutator_gate m)) Load
pause_next k (LoadingRoot m q) = does (index k.shape (root m q)) Load
pause_next k StoringTrace = does (index k.shape phase) (Store (phase_word (Trace (running k))))
pause_next k (Opening m) = does (index k.shape (mutator_gate m)) (And (all_but SHUT))

-- the slot at the head of the work ring of a name's server
abbrev pub head_slot : Holdings → Name → Place
head_slot k x = work (owner k.shape x) ((window_of k (owner k.shape x)).head % k.shape.ring)

abbrev pub forward_next : Holdings → ForwardStage → Step
forward_next k (Looking x) = does (index k.shape (head_slot k x)) Load
forward_next k (Storing x) = does (index k.shape (head_slot k x)) (Store (name_word x))

abbrev pub barrier_next : Holdings → BarrierStage → Step
barrier_next k (Loading m) = does (index k.shape (barrier m (slice_index k.barrier_at m))) Load
barrier_next k (Clearing m x) = does (index k.shape (barrier m (slice_index k.barrier_at m))) (Store 0)

abbrev pub choice_next : Holdings → ChoiceStage → Step
choice_next k (LoadingLive s place) = does (index k.shape (live (s * k.shape.tablets + place))) Load
choice_next k (LoadingTop s place words) = does (index k.shape (top (s * k.shape.tablets + place))) Load
choice_next k (LoadingHome i) = does (index k.shape (home (chosen_tablet k i))) Load
choice_next k (StoringLeaving i gift) = does (index k.shape (leaving (chosen_tablet k i))) (Store (gift.former + 1))
choice_next k (StoringHome i gift) = does (index k.shape (home (chosen_tablet k i))) (Store gift.region)
choice_next k (StoringTop i) = does (index k.shape (top (chosen_tablet k i))) (Store 0)
choice_next k StoringEvac = does (index k.shape phase) (Store (phase_word (Evac (running k))))
choice_next k (Reopening m) = does (index k.shape (mutator_gate m)) (And (all_but SHUT))

abbrev pub notice_next : Holdings → NoticeStage → Step
notice_next k (NoticeLook s) = does (index k.shape (notice s (slice_index k.notice_at s))) Load
notice_next k (NoticeClear s word) = does (index k.shape (notice s (slice_index k.notice_at s))) (Store 0)
notice_next k StoringIdle = does (index k.shape phase) (Store (phase_word (IdlePhase (running k))))

abbrev pub stage_next : Holdings → CollectStage → Step
stage_next k (Idle stage) = idle_next k stage
stage_next k (Pausing stage) = pause_next k stage
stage_next k (Forwarding stage) = forward_next k stage
stage_next k (Barriers stage) = barrier_next k stage
stage_next k (Emptying s) = does (index k.shape (work s ((window_of k s).tail % k.shape.ring))) Load
stage_next k Polling = polls.next_of k.poll
stage_next k (Choosing stage) = choice_next k stage
stage_next k (Noticing stage) = notice_next k stage
stage_next k Ended = NoStep

abbrev pub next_of : Collecting → Step
next_of c = stage_next c.kept c.stage

-- ---- where its parts begin
-- part 2: the first of the pending names, and without one the barrier rings
abbrev pub forward_from : Holdings → List Name → Collecting
forward_from k [] = at k (Barriers (Loading 0))
forward_from k (x ∷ pending) = at (record k { pending = pending }) (Forwarding (Looking x))

abbrev pub forward : Holdings → Collecting
forward k = forward_from k k.pending

-- part 4: the first window with a slot that was not seen emptied, and without one the poll
abbrev pub empty_from : Holdings → Option ℕ → Collecting
empty_from k (Some s) = at k (Emptying s)
empty_from k None = at (record k { poll = record { shape = k.shape; stage = Asking 0 } }) Polling

abbrev pub empty : Holdings → Collecting
empty k = empty_from k (position is_open k.windows)

-- the barrier rings from one on: past all of them part 4
abbrev pub barriers_from : Holdings → ℕ → Collecting
barriers_from k m = if m == k.shape.mutators then empty k else at k (Barriers (Loading m))

-- completion is told: with the gates open the second pause, with the gates shut the choice
abbrev pub told : Holdings → Collecting
told k = if k.gates_shut then at (record k { used = []; chosen = [] }) (Choosing (LoadingLive 0 0)) else at k
    (Pausing (Shutting Choice 0))

abbrev pub polled_at : Holdings → PollStage → Collecting
polled_at k (Asking s) = at k Polling
polled_at k (Reading s) = at k Polling
polled_at k (Polled (NotYet s w)) = at k (Barriers (Loading 0))
polled_at k (Polled Told) = told k

-- past the last gate that is drained: the roots, or with the gates shut the barrier rings
abbrev pub paused : Holdings → Pause → Collecting
paused k Snapshot = at k (Pausing (LoadingRoot 0 0))
paused k Choice = at (record k { gates_shut = true }) (Barriers (Loading 0))

-- the chosen tablets from one on, and past the last the phase Evac
abbrev pub gifts_from : Holdings → ℕ → Collecting
gifts_from k i = if nat_lt i (length k.chosen) then at k (Choosing (LoadingHome i)) else at k (Choosing StoringEvac)

-- the lowest region that the server of a tablet has to give
abbrev pub spare_for : Holdings → ℕ → Option ℕ
spare_for k t = spare_between k.roles (running k) (server_of_tablet k.shape t * (k.shape.tablets + k.shape.spare))
    (k.shape.tablets + k.shape.spare)

abbrev pub gift_of : Holdings → ℕ → ℕ → Option ℕ → Collecting
gift_of k i former (Some region) = at k (Choosing (StoringLeaving i (record { former = former; region = region })))
gift_of k i former None = at k (Choosing StoringEvac)

-- the tablets of a server are loaded: those chosen go behind the others
abbrev pub server_chosen : Holdings → ℕ → Holdings
server_chosen k s = record k {
  used = [];
  chosen = k.chosen ++ map (λ place. s * k.shape.tablets + place) (choice k.used k.shape.spare);
}

abbrev pub servers_from : Holdings → ℕ → Collecting
servers_from k s = if s == k.shape.servers then gifts_from k 0 else at k (Choosing (LoadingLive s 0))

-- the tablets behind one, and past the last of a server its choice
abbrev pub after_tablet : Holdings → ℕ → ℕ → Collecting
after_tablet k s place =
    if place + 1 == k.shape.tablets then servers_from (server_chosen k s) (s + 1) else at k
    (Choosing (LoadingLive s (place + 1)))

-- the words of a live word, which count in its cycle alone
abbrev pub live_words : Holdings → ℕ → ℕ
live_words k w = if (live_at w).cycle == running k then (live_at w).words else 0

-- the name of a value that is one
abbrev pub names_of : Value → List Name
names_of (Ref x) = x ∷ []
names_of (Num x) = []
names_of Null = []

-- ---- what it becomes by the word found
abbrev pub idle_fed : Holdings → IdleStage → ℕ → Collecting
idle_fed k LoadingDemand w =
    if nat_lt k.cycle w then at k (Pausing (Shutting Snapshot 0)) else at k (Idle LookingFinished)
idle_fed k LookingFinished w = if w == k.shape.mutators then at k (Idle StoringStop) else at k (Idle LoadingDemand)
idle_fed k StoringStop w = at k Ended

-- the roots behind one, and past the last of all the snapshot
abbrev pub after_root : Holdings → ℕ → ℕ → PauseStage
after_root k m q = if nat_lt (q + 1) k.shape.roots then LoadingRoot m (q + 1) else
    (if nat_lt (m + 1) k.shape.mutators then LoadingRoot (m + 1) 0 else StoringTrace)

abbrev pub pause_fed : Holdings → PauseStage → ℕ → Collecting
pause_fed k (Shutting pause m) w =
    if m + 1 == k.shape.mutators then at k (Pausing (Draining pause 0)) else at k (Pausing (Shutting pause (m + 1)))
pause_fed k (Draining pause m) w =
    if nat_lt 0 (count_of w) then at k (Pausing (Draining pause m))
    else (if m + 1 == k.shape.mutators then paused k pause else at k (Pausing (Draining pause (m + 1))))
pause_fed k (LoadingRoot m q) w =
    at (record k { pending = k.pending ++ names_of (value_at w) }) (Pausing (after_root k m q))
pause_fed k StoringTrace w = at k (Pausing (Opening 0))
pause_fed k (Opening m) w = if m + 1 == k.shape.mutators then forward k else at k (Pausing (Opening (m + 1)))

abbrev pub forward_fed : Holdings → ForwardStage → ℕ → Collecting
forward_fed k (Looking x) w =
    if w == 0 then at (set_window k (owner k.shape x) (found_room k.shape.ring (window_of k (owner k.shape x))))
    (Forwarding (Storing x))
    else at k (Forwarding (Looking x))
forward_fed k (Storing x) w = forward (set_window k (owner k.shape x) (head_up (window_of k (owner k.shape x))))

abbrev pub barrier_fed : Holdings → BarrierStage → ℕ → Collecting
barrier_fed k (Loading m) w = if w == 0 then barriers_from k (m + 1) else at k (Barriers (Clearing m (name_at w)))
-- nothing else is pending now
barrier_fed k (Clearing m x) w =
    at (record k { barrier_at = slice_set k.barrier_at m (after_place k.shape.ring (slice_index k.barrier_at m)) })
    (Forwarding (Looking x))

abbrev pub empty_fed : Holdings → ℕ → ℕ → Collecting
empty_fed k s w = if w == 0 then empty (set_window k s (tail_up k.shape.ring (window_of k s))) else at k (Emptying s)

abbrev pub poll_fed : Holdings → ℕ → Collecting
poll_fed k w = let poll = polls.fed k.poll w in polled_at (record k { poll = poll }) poll.stage

abbrev pub choice_fed : Holdings → ChoiceStage → ℕ → Collecting
choice_fed k (LoadingLive s place) w = at k (Choosing (LoadingTop s place (live_words k w)))
choice_fed k (LoadingTop s place words) w =
    after_tablet (record k { used = k.used ++ record { top = w; live = words } ∷ [] }) s place
choice_fed k (LoadingHome i) w = gift_of k i w (spare_for k (chosen_tablet k i))
choice_fed k (StoringLeaving i gift) w = at k (Choosing (StoringHome i gift))
-- the former region may be given out from the next cycle on
choice_fed k (StoringHome i gift) w =
    at (record k { roles = slice_set (slice_set k.roles gift.region Home) gift.former (Spare (running k + 1)) })
    (Choosing (StoringTop i))
choice_fed k (StoringTop i) w = gifts_from k (i + 1)
choice_fed k StoringEvac w = at (record k { gates_shut = false }) (Choosing (Reopening 0))
choice_fed k (Reopening m) w =
    if m + 1 == k.shape.mutators then at k (Noticing (NoticeLook 0)) else at k (Choosing (Reopening (m + 1)))

-- what a server tells: a freed name is kept, and with Done the next server has its turn
abbrev pub noticed : Holdings → ℕ → NoticeWord → Collecting
noticed k s (Freed x) = at (record k { freed = k.freed ++ x ∷ [] }) (Noticing (NoticeLook s))
noticed k s Done = if s + 1 == k.shape.servers then at k (Noticing StoringIdle) else at k
    (Noticing (NoticeLook (s + 1)))

-- the running cycle is finished
abbrev pub finish : Holdings → Holdings
finish k = record k {
  cycle = running k;
  freed = [];
  cycles = record k.cycles { lists = k.cycles.lists ++ k.freed ∷ [] };
}

abbrev pub notice_fed : Holdings → NoticeStage → ℕ → Collecting
notice_fed k (NoticeLook s) w =
    if w == 0 then at k (Noticing (NoticeLook s)) else at k (Noticing (NoticeClear s (notice_at w)))
notice_fed k (NoticeClear s told) w =
    noticed (record k { notice_at = slice_set k.notice_at s (after_place k.shape.ring (slice_index k.notice_at s)) }) s
    told
notice_fed k StoringIdle w = at (finish k) (Idle LoadingDemand)

abbrev pub stage_fed : Holdings → CollectStage → ℕ → Collecting
stage_fed k (Idle stage) w = idle_fed k stage w
stage_fed k (Pausing stage) w = pause_fed k stage w
stage_fed k (Forwarding stage) w = forward_fed k stage w
stage_fed k (Barriers stage) w = barrier_fed k stage w
stage_fed k (Emptying s) w = empty_fed k s w
stage_fed k Polling w = poll_fed k w
stage_fed k (Choosing stage) w = choice_fed k stage w
stage_fed k (Noticing stage) w = notice_fed k stage w
stage_fed k Ended w = at k Ended

abbrev pub fed : Collecting → ℕ → Collecting
fed c w = stage_fed c.kept c.stage w

-- the snapshot is taken at the store of Trace, and a cycle is finished at the store of Idle
abbrev pub stage_event : Holdings → CollectStage → Event
stage_event k (Idle stage) = Nothing
stage_event k (Pausing (Shutting pause m)) = Nothing
stage_event k (Pausing (Draining pause m)) = Nothing
stage_event k (Pausing (LoadingRoot m q)) = Nothing
stage_event k (Pausing StoringTrace) = Snapped (running k)
stage_event k (Pausing (Opening m)) = Nothing
stage_event k (Forwarding stage) = Nothing
stage_event k (Barriers stage) = Nothing
stage_event k (Emptying s) = Nothing
stage_event k Polling = Nothing
stage_event k (Choosing stage) = Nothing
stage_event k (Noticing (NoticeLook s)) = Nothing
stage_event k (Noticing (NoticeClear s word)) = Nothing
stage_event k (Noticing StoringIdle) = Finished (running k)
stage_event k Ended = Nothing

abbrev pub event_of : Collecting → ℕ → Event
event_of c w = stage_event c.kept c.stage

-- ---- the words that it can go on with
abbrev pub IdleFits : Holdings → IdleStage → ℕ → Type 0
IdleFits k LoadingDemand w = w ≤ k.shape.cycles
IdleFits k LookingFinished w = w ≤ k.shape.mutators
IdleFits k StoringStop w = Unit {0}

abbrev pub PauseFits : Holdings → PauseStage → ℕ → Type 0
PauseFits k (Shutting pause m) w = Unit {0}
PauseFits k (Draining pause m) w = IsPackedGate w
-- there is room for the name
PauseFits k (LoadingRoot m q) w = IsPacked w × FieldFits k.shape (value_at w)
    × (length k.pending < k.shape.mutators * k.shape.roots)
PauseFits k StoringTrace w = Unit {0}
PauseFits k (Opening m) w = Unit {0}

abbrev pub BarrierFits : Holdings → BarrierStage → ℕ → Type 0
BarrierFits k (Loading m) w = (w ≡ 0) ⊎ (IsPackedName w × IsNamed k.shape (name_at w))
BarrierFits k (Clearing m x) w = Unit {0}

abbrev pub ChoiceFits : Holdings → ChoiceStage → ℕ → Type 0
ChoiceFits k (LoadingLive s place) w = IsPackedLive w
ChoiceFits k (LoadingTop s place words) w = w ≤ k.shape.words
ChoiceFits k (LoadingHome i) w = w < k.shape.servers * (k.shape.tablets + k.shape.spare)
ChoiceFits k (StoringLeaving i gift) w = Unit {0}
ChoiceFits k (StoringHome i gift) w = Unit {0}
ChoiceFits k (StoringTop i) w = Unit {0}
ChoiceFits k StoringEvac w = Unit {0}
ChoiceFits k (Reopening m) w = Unit {0}

-- there is room for a freed name
abbrev pub NoticedFits : Holdings → NoticeWord → Type 0
NoticedFits k (Freed x) = sum_by length k.cycles.lists + length k.freed < k.cycles.names_room
NoticedFits k Done = Unit {0}

abbrev pub NoticeFits : Holdings → NoticeStage → ℕ → Type 0
NoticeFits k (NoticeLook s) w = (w ≡ 0) ⊎ IsPackedNotice w
NoticeFits k (NoticeClear s told) w = NoticedFits k told
NoticeFits k StoringIdle w = Unit {0}

abbrev pub StageFits : Holdings → CollectStage → ℕ → Type 0
StageFits k (Idle stage) w = IdleFits k stage w
StageFits k (Pausing stage) w = PauseFits k stage w
StageFits k (Forwarding stage) w = Unit {0}
StageFits k (Barriers stage) w = BarrierFits k stage w
StageFits k (Emptying s) w = Unit {0}
StageFits k Polling w = polls.Fits k.poll w
StageFits k (Choosing stage) w = ChoiceFits k stage w
StageFits k (Noticing stage) w = NoticeFits k stage w
StageFits k Ended w = Unit {0}

abbrev pub Fits : Collecting → ℕ → Type 0
Fits c w = StageFits c.kept c.stage w
