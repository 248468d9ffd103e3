-- What the collector keeps is in range.
use Rattle.std.specs.Prelude.{◌≡◌, ℕ, ◌+◌, ◌*◌, ◌<◌, ◌≤◌, length, sum_by, All, vec_capacity}
use Rattle.std.specs.VecDeque.{deque_capacity}
use Rattle.mako_words.specs.Names.{FitsName}
use Rattle.mako_words.specs.declared.name.Name.{Name}
use Rattle.mako_shape.specs.Limits.{IsShape}
use Rattle.mako_shape.specs.declared.numbers.Numbers.{Numbers}
use Rattle.mako_ring.specs.Tracing.{owner, IsNamed}
use Rattle.mako_ring.specs.Windows.{IsWindow}
use Rattle.mako_poll.specs.Polls as polls
use Rattle.mako_pause.specs.Collecting.{Holdings, window_of}
use Rattle.mako_pause.specs.declared.kept.Kept.TheInside.{Inside}
use Rattle.mako_pause.specs.declared.stage.PauseStage.{PauseStage}
use Rattle.mako_pause.specs.declared.stage.PauseStage.TheVariants.{Shutting, Draining, LoadingRoot, StoringTrace}
use Rattle.mako_pause.specs.declared.stage.PauseStage.TheVariants.{Opening}
use Rattle.mako_pause.specs.declared.stage.ForwardStage.{ForwardStage}
use Rattle.mako_pause.specs.declared.stage.ForwardStage.TheVariants.{Looking, Storing}
use Rattle.mako_pause.specs.declared.stage.BarrierStage.{BarrierStage}
use Rattle.mako_pause.specs.declared.stage.BarrierStage.TheVariants.{Loading, Clearing}
use Rattle.mako_pause.specs.declared.stage.ChoiceStage.{ChoiceStage}
use Rattle.mako_pause.specs.declared.stage.ChoiceStage.TheVariants.{LoadingLive, LoadingTop, LoadingHome}
use Rattle.mako_pause.specs.declared.stage.ChoiceStage.TheVariants.{StoringLeaving, StoringHome, StoringTop}
use Rattle.mako_pause.specs.declared.stage.ChoiceStage.TheVariants.{StoringEvac, Opening as Reopening}
use Rattle.mako_pause.specs.declared.stage.NoticeStage.{NoticeStage}
use Rattle.mako_pause.specs.declared.stage.NoticeStage.TheVariants.{Looking as NoticeLook, Clearing as NoticeClear}
use Rattle.mako_pause.specs.declared.stage.NoticeStage.TheVariants.{StoringIdle}
use Rattle.mako_pause.specs.declared.stage.CollectStage.{CollectStage}
use Rattle.mako_pause.specs.declared.stage.CollectStage.TheVariants.{Idle, Pausing, Forwarding, Barriers, Emptying}
use Rattle.mako_pause.specs.declared.stage.CollectStage.TheVariants.{Polling, Choosing, Noticing, Ended}

-- the regions of all servers
abbrev pub all_regions : Holdings → ℕ
all_regions k = k.shape.servers * (k.shape.tablets + k.shape.spare)

-- a name of an entry that there is, with numbers that fit
abbrev pub IsKeptName : Numbers → Name → Type 0
IsKeptName n x = IsNamed n x × FitsName x

-- names are of entries that there are; there is a window for each server and a position for each ring; each chosen
-- tablet is one, each region has a role, and each finished cycle its list, for whose names there is room
pub record IsKeptKnown (k : Holdings) : Type 0 where
  pub shape : IsShape k.shape
  pub cycle : k.cycle ≤ k.shape.cycles
  pub pending : All (IsKeptName k.shape) k.pending
  pub windows_count : length k.windows ≡ k.shape.servers
  pub windows : All (IsWindow k.shape.ring) k.windows
  pub barriers_count : length k.barrier_at ≡ k.shape.mutators
  pub barriers : All (λ at. at < k.shape.ring) k.barrier_at
  pub notices_count : length k.notice_at ≡ k.shape.servers
  pub notices : All (λ at. at < k.shape.ring) k.notice_at
  pub poll_shape : k.poll.shape ≡ k.shape
  pub poll : polls.IsKnown k.shape k.poll.stage
  pub chosen : All (λ t. t < k.shape.servers * k.shape.tablets) k.chosen
  pub roles : length k.roles ≡ all_regions k
  pub lists : length k.cycles.lists ≡ k.cycle
  pub lists_room : k.cycles.cycles_room ≡ k.shape.cycles
  pub names : sum_by length k.cycles.lists + length k.freed ≤ k.cycles.names_room

-- a cycle runs
abbrev pub Runs : Holdings → Type 0
Runs k = k.cycle < k.shape.cycles

abbrev pub PauseIsKnown : Holdings → PauseStage → Type 0
PauseIsKnown k (Shutting pause m) = m < k.shape.mutators
PauseIsKnown k (Draining pause m) = m < k.shape.mutators
PauseIsKnown k (LoadingRoot m q) = (m < k.shape.mutators) × (q < k.shape.roots)
PauseIsKnown k StoringTrace = Unit {0}
PauseIsKnown k (Opening m) = m < k.shape.mutators

-- past the look there is room in the window
abbrev pub ForwardIsKnown : Holdings → ForwardStage → Type 0
ForwardIsKnown k (Looking x) = IsKeptName k.shape x
ForwardIsKnown k (Storing x) = IsKeptName k.shape x
    × ((window_of k (owner k.shape x)).head < (window_of k (owner k.shape x)).tail + k.shape.ring)

abbrev pub BarrierIsKnown : Holdings → BarrierStage → Type 0
BarrierIsKnown k (Loading m) = m < k.shape.mutators
BarrierIsKnown k (Clearing m x) = (m < k.shape.mutators) × IsKeptName k.shape x

abbrev pub EmptyIsKnown : Holdings → ℕ → Type 0
EmptyIsKnown k s = (s < k.shape.servers) × ((window_of k s).tail < (window_of k s).head)

-- the tablets of the servers before are loaded, and so many of this one
pub record AreLoaded (k : Holdings) (s p : ℕ) : Type 0 where
  pub server : s < k.shape.servers
  pub place : p < k.shape.tablets
  pub used : length k.used ≡ p
  pub chosen : length k.chosen ≤ s * k.shape.spare

abbrev pub ChoiceIsKnown : Holdings → ChoiceStage → Type 0
ChoiceIsKnown k (LoadingLive s place) = AreLoaded k s place
ChoiceIsKnown k (LoadingTop s place words) = AreLoaded k s place
ChoiceIsKnown k (LoadingHome i) = i < length k.chosen
ChoiceIsKnown k (StoringLeaving i gift) = (i < length k.chosen) × (gift.former < all_regions k)
    × (gift.region < all_regions k)
ChoiceIsKnown k (StoringHome i gift) = (i < length k.chosen) × (gift.former < all_regions k)
    × (gift.region < all_regions k)
ChoiceIsKnown k (StoringTop i) = i < length k.chosen
ChoiceIsKnown k StoringEvac = Unit {0}
ChoiceIsKnown k (Reopening m) = m < k.shape.mutators

abbrev pub NoticeIsKnown : Holdings → NoticeStage → Type 0
NoticeIsKnown k (NoticeLook s) = s < k.shape.servers
NoticeIsKnown k (NoticeClear s told) = s < k.shape.servers
NoticeIsKnown k StoringIdle = Unit {0}

abbrev pub StageIsKnown : Holdings → CollectStage → Type 0
StageIsKnown k (Idle stage) = Unit {0}
StageIsKnown k (Pausing stage) = Runs k × PauseIsKnown k stage
StageIsKnown k (Forwarding stage) = Runs k × ForwardIsKnown k stage
StageIsKnown k (Barriers stage) = Runs k × BarrierIsKnown k stage
StageIsKnown k (Emptying s) = Runs k × EmptyIsKnown k s
StageIsKnown k Polling = Runs k
StageIsKnown k (Choosing stage) = Runs k × ChoiceIsKnown k stage
StageIsKnown k (Noticing stage) = Runs k × NoticeIsKnown k stage
StageIsKnown k Ended = Unit {0}

abbrev pub kept_in : Inside → Holdings
kept_in k = record {
  shape = k.shape;
  cycle = k.cycle;
  gates_shut = k.gates_shut;
  pending = k.pending.items;
  windows = k.windows.items;
  barrier_at = k.barrier_at.items;
  notice_at = k.notice_at.items;
  poll = k.poll;
  used = k.used.items;
  chosen = k.chosen.items;
  roles = k.roles.items;
  freed = k.freed.items;
  cycles = k.cycles;
}

-- what it keeps is known, and there is the room that was set aside
pub record KeptHolds (k : Inside) : Type 0 where
  pub known : IsKeptKnown (kept_in k)
  pub pending_room : k.shape.mutators * k.shape.roots ≤ deque_capacity k.pending
  pub used_room : k.shape.tablets ≤ vec_capacity k.used
  pub chosen_room : k.shape.servers * k.shape.spare ≤ vec_capacity k.chosen
  pub freed_room : k.cycles.names_room ≤ vec_capacity k.freed
  pub chooser_room : k.chooser.room ≡ k.shape.tablets
