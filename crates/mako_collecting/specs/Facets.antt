-- What the groups of the invariant read of the collector, by its stage.
use Rattle.std.specs.Prelude.{ℕ, zero, suc, ◌≡◌, ◌+◌, ◌*◌, Bool, true, false, List, [], ◌∷◌, length, slice_get}
use Rattle.std.specs.Prelude.{slice_index, Some}
use Rattle.mako_words.specs.declared.name.Name.{Name}
use Rattle.mako_shape.specs.declared.numbers.Numbers.{Numbers}
use Rattle.mako_gate.specs.Standings.{GateFacet, Watch, rests, pauses, shutter_at}
use Rattle.mako_ring.specs.Facets as rings
use Rattle.mako_ring.specs.Tracing.{owner}
use Rattle.mako_ring.specs.TraceFacets as trace
use Rattle.mako_poll.specs.Worlds.{CollectorStage, away, putting, polls, CollectorView, collecting_of}
use Rattle.mako_layout.specs.Facets.{idle}
use Rattle.mako_layout.specs.StepParts.{collector_seat}
use Rattle.mako_phases.specs.Facets as phases
use Rattle.mako_phases.specs.Facets.{Part, pausing, rooting, tracing, choosing, evacuating, stopped, PhaseFacet}
use Rattle.mako_joint.specs.Joints.{JointScene}
use Rattle.mako_pause.specs.Collecting.{Holdings, Collecting, running, window_of, chosen_tablet}
use Rattle.mako_pause.specs.declared.stage.Pause.TheVariants.{Snapshot, Choice}
use Rattle.mako_pause.specs.declared.stage.PauseStage.{PauseStage}
use Rattle.mako_pause.specs.declared.stage.PauseStage.TheVariants.{Shutting, Draining, LoadingRoot, StoringTrace}
use Rattle.mako_pause.specs.declared.stage.PauseStage.TheVariants.{Opening}
use Rattle.mako_pause.specs.declared.stage.ForwardStage.{ForwardStage}
use Rattle.mako_pause.specs.declared.stage.ForwardStage.TheVariants.{Looking, Storing}
use Rattle.mako_pause.specs.declared.stage.ChoiceStage.{ChoiceStage}
use Rattle.mako_pause.specs.declared.stage.ChoiceStage.TheVariants.{LoadingLive, LoadingTop, LoadingHome}
use Rattle.mako_pause.specs.declared.stage.ChoiceStage.TheVariants.{StoringLeaving, StoringHome, StoringTop}
use Rattle.mako_pause.specs.declared.stage.ChoiceStage.TheVariants.{StoringEvac, Opening as Reopening}
use Rattle.mako_pause.specs.declared.stage.NoticeStage.{NoticeStage}
use Rattle.mako_pause.specs.declared.stage.NoticeStage.TheVariants.{Looking as NoticeLook, Clearing as NoticeClear}
use Rattle.mako_pause.specs.declared.stage.NoticeStage.TheVariants.{StoringIdle}
use Rattle.mako_pause.specs.declared.stage.CollectStage.{CollectStage}
use Rattle.mako_pause.specs.declared.stage.CollectStage.TheVariants.{Idle, Pausing, Forwarding, Barriers, Emptying}
use Rattle.mako_pause.specs.declared.stage.CollectStage.TheVariants.{Polling, Choosing, Noticing, Ended}

-- ---- the names that are pending: those kept, and the one that is being forwarded
abbrev pub forward_names : Holdings → ForwardStage → List Name
forward_names k (Looking x) = x ∷ k.pending
forward_names k (Storing x) = x ∷ k.pending

abbrev pub stage_names : Holdings → CollectStage → List Name
stage_names k (Forwarding stage) = forward_names k stage
stage_names k stage = k.pending

abbrev pub names_of : Collecting → List Name
names_of c = stage_names c.kept c.stage

-- ---- its part in the order of the phases
abbrev pub pause_part : Numbers → Holdings → PauseStage → Part
pause_part n k (Shutting Snapshot m) = pausing k.cycle
pause_part n k (Shutting Choice m) = tracing (running k)
pause_part n k (Draining Snapshot m) = pausing k.cycle
pause_part n k (Draining Choice m) = tracing (running k)
pause_part n k (LoadingRoot m q) = rooting k.cycle (m * n.roots + q)
pause_part n k StoringTrace = rooting k.cycle (n.mutators * n.roots)
pause_part n k (Opening m) = tracing (running k)

-- the chosen tablets below a number in the order of choice, the last first
unfoldable pub chosen_below : List ℕ → ℕ → List ℕ
chosen_below chosen zero = []
chosen_below chosen (suc i) = slice_index chosen i ∷ chosen_below chosen i

-- with those whose `leaving` is stored
abbrev pub choice_part : Holdings → ChoiceStage → Part
choice_part k (LoadingLive s place) = choosing (running k) []
choice_part k (LoadingTop s place words) = choosing (running k) []
choice_part k (LoadingHome i) = choosing (running k) (chosen_below k.chosen i)
choice_part k (StoringLeaving i gift) = choosing (running k) (chosen_below k.chosen i)
choice_part k (StoringHome i gift) = choosing (running k) (chosen_tablet k i ∷ chosen_below k.chosen i)
choice_part k (StoringTop i) = choosing (running k) (chosen_tablet k i ∷ chosen_below k.chosen i)
choice_part k StoringEvac = choosing (running k) (chosen_below k.chosen (length k.chosen))
choice_part k (Reopening m) = evacuating (running k) 0

abbrev pub notice_part : Numbers → Holdings → NoticeStage → Part
notice_part n k (NoticeLook s) = evacuating (running k) s
notice_part n k (NoticeClear s told) = evacuating (running k) s
notice_part n k StoringIdle = evacuating (running k) n.servers

abbrev pub stage_part : Numbers → Holdings → CollectStage → Part
stage_part n k (Idle stage) = phases.idle k.cycle
stage_part n k (Pausing stage) = pause_part n k stage
stage_part n k (Forwarding stage) = tracing (running k)
stage_part n k (Barriers stage) = tracing (running k)
stage_part n k (Emptying s) = tracing (running k)
stage_part n k Polling = tracing (running k)
stage_part n k (Choosing stage) = choice_part k stage
stage_part n k (Noticing stage) = notice_part n k stage
stage_part n k Ended = stopped k.cycle

abbrev pub part_of : Numbers → Collecting → Part
part_of n c = stage_part n c.kept c.stage

abbrev pub phase_facet : Numbers → Collecting → PhaseFacet
phase_facet n c = phases.collecting (part_of n c) (names_of c)

-- ---- the gates that it keeps shut, and has drained
abbrev pub all_drained : Numbers → Watch
all_drained n = pauses 0 n.mutators n.mutators

abbrev pub pause_watch : Numbers → PauseStage → Watch
pause_watch n (Shutting pause m) = pauses 0 m 0
pause_watch n (Draining pause m) = pauses 0 n.mutators m
pause_watch n (LoadingRoot m q) = all_drained n
pause_watch n StoringTrace = all_drained n
pause_watch n (Opening m) = pauses m n.mutators n.mutators

-- while completion is awaited all or none
abbrev pub round_watch : Numbers → Bool → Watch
round_watch n false = rests
round_watch n true = all_drained n

abbrev pub choice_watch : Numbers → ChoiceStage → Watch
choice_watch n (Reopening m) = pauses m n.mutators n.mutators
choice_watch n stage = all_drained n

abbrev pub stage_watch : Numbers → Holdings → CollectStage → Watch
stage_watch n k (Idle stage) = rests
stage_watch n k (Pausing stage) = pause_watch n stage
stage_watch n k (Forwarding stage) = round_watch n k.gates_shut
stage_watch n k (Barriers stage) = round_watch n k.gates_shut
stage_watch n k (Emptying s) = round_watch n k.gates_shut
stage_watch n k Polling = round_watch n k.gates_shut
stage_watch n k (Choosing stage) = choice_watch n stage
stage_watch n k (Noticing stage) = rests
stage_watch n k Ended = rests

abbrev pub watch_of : Numbers → Collecting → Watch
watch_of n c = stage_watch n c.kept c.stage

abbrev pub gate_facet : Numbers → Collecting → GateFacet
gate_facet n c = shutter_at (collector_seat n) (watch_of n c)

-- ---- where it is with work rings and the poll
abbrev pub forward_stage : Numbers → ForwardStage → CollectorStage
forward_stage n (Looking x) = away
forward_stage n (Storing x) = putting (owner n x)

abbrev pub ring_stage : Numbers → Holdings → CollectStage → CollectorStage
ring_stage n k (Forwarding stage) = forward_stage n stage
ring_stage n k Polling = polls k.poll.stage
ring_stage n k stage = away

abbrev pub ring_view : Numbers → Collecting → CollectorView
ring_view n c = record {
  pending = names_of c;
  window = window_of c.kept;
  stage = ring_stage n c.kept c.stage;
}

abbrev pub ring_facet : Numbers → Collecting → rings.CollectorFacet
ring_facet n c = collecting_of n (ring_view n c)

-- ---- all of them, at the last seat
pub record IsCollector (n : Numbers) (s : JointScene) (c : Collecting) : Type 0 where
  pub shape : c.kept.shape ≡ n
  pub trace : slice_get s.facets.trace (collector_seat n) ≡ Some (trace.collecting (names_of c))
  pub gate : slice_get s.facets.gates (collector_seat n) ≡ Some (gate_facet n c)
  pub work : slice_get s.facets.works (collector_seat n) ≡ Some idle
  pub phase : slice_get s.facets.phases (collector_seat n) ≡ Some (phase_facet n c)
  pub rings : s.facets.collector ≡ ring_facet n c
