-- The groups side by side once the collector is another: what each group needs.
use Rattle.std.proofs.Common.{◌≡◌, ◌≢◌, ℕ, zero, suc, ◌<◌, ◌≤◌, ◌⊎◌, inl, inr, ⊎_elim, Bool, true, false, List, [], ◌∷◌}
use Rattle.std.proofs.Common.{set, slice_get, slice_set, Some, map, option_map, sym, ap, subst, refl, ◌∙◌, arith}
use Rattle.std.proofs.lemmas.Option.{same_Some, slice_get-map}
use Rattle.mako_words.specs.declared.name.Name.{Name}
use Rattle.mako_shape.specs.declared.numbers.Numbers.{Numbers}
use Rattle.mako_gate.specs.Standings.{GateFacet, drained_by, drained_own}
use Rattle.mako_model.specs.Legal.{Facts}
use Rattle.mako_model.proofs.Lists.{get_set_cases, get_set_same, get_set_other}
use Rattle.mako_names.specs.Steps.{NamesHoldIn}
use Rattle.mako_names.specs.Tables.{phase_of}
use Rattle.mako_ring.specs.Polling.{PollingStands}
use Rattle.mako_layout.specs.Facets.{Choice}
use Rattle.mako_layout.specs.Evacuations.{Evacuation}
use Rattle.mako_layout.specs.StepParts.{collector_seat}
use Rattle.mako_phases.specs.Facets.{PhaseFacet, mutating, collecting, Part, Admission, IsInPause, role_of}
use Rattle.mako_phases.specs.Orders.{PhaseOrder}
use Rattle.mako_phases.specs.Steps.{PhaseOrderIn}
use Rattle.mako_joint.specs.Joints.{JointScene, names_in, trace_in, layout_in, polls_in, phases_in, TracksFit}
use Rattle.mako_joint.specs.Joints.{IsOutsideWith, IsClearing, HasDrainedAll, GatesMatch, ChoiceFits, ChoiceMatches}
use Rattle.mako_joint.specs.Joints.{IsScript, ReadsAreHeld, Joint}
use Rattle.mako_pause.specs.Collecting.{Holdings, Collecting}
use Rattle.mako_pause.specs.declared.stage.Pause.TheVariants.{Snapshot, Choice as ForChoice}
use Rattle.mako_pause.specs.declared.stage.PauseStage.{PauseStage}
use Rattle.mako_pause.specs.declared.stage.PauseStage.TheVariants.{Shutting, Draining, LoadingRoot, StoringTrace}
use Rattle.mako_pause.specs.declared.stage.PauseStage.TheVariants.{Opening}
use Rattle.mako_pause.specs.declared.stage.ChoiceStage.{ChoiceStage}
use Rattle.mako_pause.specs.declared.stage.ChoiceStage.TheVariants.{LoadingLive, LoadingTop, LoadingHome}
use Rattle.mako_pause.specs.declared.stage.ChoiceStage.TheVariants.{StoringLeaving, StoringHome, StoringTop}
use Rattle.mako_pause.specs.declared.stage.ChoiceStage.TheVariants.{StoringEvac, Opening as Reopening}
use Rattle.mako_pause.specs.declared.stage.NoticeStage.TheVariants.{Looking as NoticeLook, Clearing as NoticeClear}
use Rattle.mako_pause.specs.declared.stage.NoticeStage.TheVariants.{StoringIdle}
use Rattle.mako_pause.specs.declared.stage.CollectStage.{CollectStage}
use Rattle.mako_pause.specs.declared.stage.CollectStage.TheVariants.{Idle, Pausing, Forwarding, Barriers, Emptying}
use Rattle.mako_pause.specs.declared.stage.CollectStage.TheVariants.{Polling, Choosing, Noticing, Ended}
use Rattle.mako_collecting.specs.Facets.{names_of, part_of, stage_part, phase_facet, all_drained, round_watch}
use Rattle.mako_collecting.specs.Facets.{stage_watch, gate_facet, IsCollector, watch_of}
use Rattle.mako_collecting.specs.Steps.{with_collector}

-- ---- lists

pub set_same : {A : Type 0} (xs : List A) (i : ℕ) (x : A) → slice_get xs i ≡ Some x → slice_set xs i x ≡ xs
set_same [] i x at = refl
set_same {A} (y ∷ ys) zero x at = let same : x ≡ y = cc in ap (λ (z : A). z ∷ ys) same
set_same {A} (y ∷ ys) (suc i) x at = ap (λ (zs : List A). y ∷ zs) (set_same ys i x at)

-- ---- gates of a collector

-- the collector drains no tablet
round_drains : (n : Numbers) (shut : Bool) (t : ℕ) → drained_by t (round_watch n shut) ≡ 0
round_drains n false t = refl
round_drains n true t = refl

pause_drains : (n : Numbers) (k : Holdings) (stage : PauseStage) (t : ℕ)
    → drained_by t (stage_watch n k (Pausing stage)) ≡ 0
pause_drains n k (Shutting pause m) t = refl
pause_drains n k (Draining pause m) t = refl
pause_drains n k (LoadingRoot m q) t = refl
pause_drains n k StoringTrace t = refl
pause_drains n k (Opening m) t = refl

choice_drains : (n : Numbers) (k : Holdings) (stage : ChoiceStage) (t : ℕ)
    → drained_by t (stage_watch n k (Choosing stage)) ≡ 0
choice_drains n k (LoadingLive s place) t = refl
choice_drains n k (LoadingTop s place words) t = refl
choice_drains n k (LoadingHome i) t = refl
choice_drains n k (StoringLeaving i gift) t = refl
choice_drains n k (StoringHome i gift) t = refl
choice_drains n k (StoringTop i) t = refl
choice_drains n k StoringEvac t = refl
choice_drains n k (Reopening m) t = refl

stage_drains : (n : Numbers) (k : Holdings) (stage : CollectStage) (t : ℕ) → drained_by t (stage_watch n k stage) ≡ 0
stage_drains n k (Idle stage) t = refl
stage_drains n k (Pausing stage) t = pause_drains n k stage t
stage_drains n k (Forwarding stage) t = round_drains n k.gates_shut t
stage_drains n k (Barriers stage) t = round_drains n k.gates_shut t
stage_drains n k (Emptying s) t = round_drains n k.gates_shut t
stage_drains n k Polling t = round_drains n k.gates_shut t
stage_drains n k (Choosing stage) t = choice_drains n k stage t
stage_drains n k (Noticing stage) t = refl
stage_drains n k Ended t = refl

pub drains_none : (n : Numbers) (c : Collecting) (t : ℕ) → drained_by t (watch_of n c) ≡ 0
drains_none n c t = stage_drains n c.kept c.stage t

-- in the pause it has drained the gates of all mutators
all_are_drained : (n : Numbers) (m : ℕ) → m < n.mutators → 1 ≤ drained_own m (all_drained n)
all_are_drained n m low = grind (arith)

paused_drained : (n : Numbers) (k : Holdings) (stage : CollectStage) → IsInPause (stage_part n k stage) → (m : ℕ)
    → m < n.mutators → 1 ≤ drained_own m (stage_watch n k stage)
paused_drained n k (Pausing (LoadingRoot x q)) paused m low = all_are_drained n m low
paused_drained n k (Pausing StoringTrace) paused m low = all_are_drained n m low
paused_drained n k (Pausing (Shutting Snapshot x)) paused m low = absurd paused
paused_drained n k (Pausing (Shutting ForChoice x)) paused m low = absurd paused
paused_drained n k (Pausing (Draining Snapshot x)) paused m low = absurd paused
paused_drained n k (Pausing (Draining ForChoice x)) paused m low = absurd paused
paused_drained n k (Pausing (Opening x)) paused m low = absurd paused
paused_drained n k (Choosing (LoadingLive s place)) paused m low = all_are_drained n m low
paused_drained n k (Choosing (LoadingTop s place words)) paused m low = all_are_drained n m low
paused_drained n k (Choosing (LoadingHome i)) paused m low = all_are_drained n m low
paused_drained n k (Choosing (StoringLeaving i gift)) paused m low = all_are_drained n m low
paused_drained n k (Choosing (StoringHome i gift)) paused m low = all_are_drained n m low
paused_drained n k (Choosing (StoringTop i)) paused m low = all_are_drained n m low
paused_drained n k (Choosing StoringEvac) paused m low = all_are_drained n m low
paused_drained n k (Choosing (Reopening x)) paused m low = absurd paused
paused_drained n k (Noticing (NoticeLook s)) paused m low = absurd paused
paused_drained n k (Noticing (NoticeClear s told)) paused m low = absurd paused
paused_drained n k (Noticing StoringIdle) paused m low = absurd paused
paused_drained n k (Idle stage) paused m low = absurd paused
paused_drained n k (Forwarding stage) paused m low = absurd paused
paused_drained n k (Barriers stage) paused m low = absurd paused
paused_drained n k (Emptying s) paused m low = absurd paused
paused_drained n k Polling paused m low = absurd paused
paused_drained n k Ended paused m low = absurd paused

-- ---- one collector

-- of two collectors' facets both are of one seat, and so one
pub same_collector : (n : Numbers) (words : List ℕ) (facets : List PhaseFacet) → PhaseOrder n words facets
    → (seat other : ℕ) (part later : Part) (names lasting : List Name)
    → slice_get facets seat ≡ Some (collecting part names) → slice_get facets other ≡ Some (collecting later lasting)
    → (seat ≡ other) × (collecting part names ≡ collecting later lasting)
same_collector n words facets o seat other part later names lasting here there = (one, same)
  where
    role_at : (i : ℕ) (f : PhaseFacet) → slice_get facets i ≡ Some f
        → slice_get (map role_of facets) i ≡ Some (role_of f)
    role_at i f at = slice_get-map role_of facets i ∙ ap (option_map role_of) at

    one : seat ≡ other
    one = o.seated.collectors seat other (role_at seat (collecting part names) here)
        (role_at other (collecting later lasting) there)

    same : collecting part names ≡ collecting later lasting
    same = same_Some (collecting part names) (collecting later lasting) (sym here ∙ ap (slice_get facets) one ∙ there)

abbrev part_in : PhaseFacet → Part → Part
part_in (collecting p names) q = p
part_in f q = q

-- ---- the ties

module _ (n : Numbers) (s : JointScene) (words : List ℕ) (choice : Choice) (old c : Collecting)
    (at : IsCollector n s old) (matched : GatesMatch n s.facets.phases s.facets.gates)
    (order : PhaseOrderIn n (phases_in (with_collector n s words choice c))) where
  abbrev seat : ℕ
  seat = collector_seat n

  abbrev phases' : List PhaseFacet
  phases' = set s.facets.phases seat (phase_facet n c)

  abbrev gates' : List GateFacet
  gates' = set s.facets.gates seat (gate_facet n c)

  phase_here : slice_get phases' seat ≡ Some (phase_facet n c)
  phase_here = get_set_same s.facets.phases seat (phase_facet n c) (phase_facet n old) at.phase

  gate_here : slice_get gates' seat ≡ Some (gate_facet n c)
  gate_here = get_set_same s.facets.gates seat (gate_facet n c) (gate_facet n old) at.gate

  gate_else : (i : ℕ) → i ≢ seat → slice_get gates' i ≡ slice_get s.facets.gates i
  gate_else i other = get_set_other s.facets.gates seat i (gate_facet n c) other

  mutators_match : (i : ℕ) (admission : Admission) → slice_get phases' i ≡ Some (mutating admission)
      → IsOutsideWith n gates' i admission
  mutators_match i admission is =
      ⊎_elim (λ t. absurd (no_both t.1))
      (λ t. let m = matched.mutators i admission t.1 in
      record { gate = m.gate; here = gate_else i t.0 ∙ m.here; number = m.number; outside = m.outside })
      (get_set_cases s.facets.phases seat i (phase_facet n c) (mutating admission) is)
    where
      no_both : phase_facet n c ≡ mutating admission → ⊥
      no_both e = cc

  drained_all : IsInPause (part_of n c) → HasDrainedAll n gates'
  drained_all paused = record {
    gate = gate_facet n c;
    here = gate_here;
    drained = λ m low. paused_drained n c.kept c.stage paused m low;
  }

  collectors_match : (i : ℕ) (part : Part) (names : List Name) → slice_get phases' i ≡ Some (collecting part names)
      → IsInPause part → HasDrainedAll n gates'
  collectors_match i part names is paused =
      let same = same_collector n words phases' order i seat part (part_of n c) names (names_of c) is phase_here in
      drained_all (subst (λ (f : PhaseFacet). IsInPause (part_in f part)) same.1 paused)

  clearing_else : (i : ℕ) → i ≢ seat → IsClearing s.facets.phases i → IsClearing phases' i
  clearing_else i other is = record {
    server = is.server;
    cycle = is.cycle;
    tablet = is.tablet;
    at = is.at;
    ended = is.ended;
    laden = is.laden;
    is = get_set_other s.facets.phases seat i (phase_facet n c) other ∙ is.is;
  }

  servers_match : (i t : ℕ) (g : GateFacet) → slice_get gates' i ≡ Some g
      → (drained_by t g.watch ≡ 0) ⊎ IsClearing phases' i
  servers_match i t g is =
      ⊎_elim
      (λ e. inl (subst (λ (h : GateFacet). drained_by t h.watch ≡ 0) e.1 (stage_drains n c.kept c.stage t)))
      (λ e. ⊎_elim (λ none. inl none) (λ x. inr (clearing_else i e.0 x)) (matched.servers i t g e.1))
      (get_set_cases s.facets.gates seat i (gate_facet n c) g is)

  pub gates_match : GatesMatch n phases' gates'
  gates_match = record { mutators = mutators_match; collector = collectors_match; servers = servers_match }

  pub choice_matches : ChoiceFits (part_of n c) choice → ChoiceMatches phases' choice
  choice_matches fits i part names is =
      let same = same_collector n words phases' order i seat part (part_of n c) names (names_of c) is phase_here in
      subst (λ (f : PhaseFacet). ChoiceFits (part_in f part) choice) (sym same.1) fits

-- ---- the whole

-- what each group needs once the collector is another
pub record GroupsAfter (n : Numbers) (w : Facts) (s : JointScene) (words : List ℕ) (choice : Choice) (c : Collecting) :
    Type 0 where
  pub names : NamesHoldIn n w (record (names_in s) { words = words })
  pub tracks : TracksFit (phase_of n words) n w (trace_in (with_collector n s words choice c))
  pub layout : Evacuation n (layout_in n w (with_collector n s words choice c))
  pub polls : PollingStands n (polls_in n (with_collector n s words choice c))
  pub order : PhaseOrderIn n (phases_in (with_collector n s words choice c))
  pub choice_fits : ChoiceFits (part_of n c) choice

-- the ties hold, and all is joined, where they held before
pub joined_by : (n : Numbers) (w : Facts) (s : JointScene) (words : List ℕ) (choice : Choice) (old c : Collecting)
    → IsScript n w → ReadsAreHeld s.facets.names.held s.facets.works → GatesMatch n s.facets.phases s.facets.gates
    → IsCollector n s old → GroupsAfter n w s words choice c → Joint n w (with_collector n s words choice c)
joined_by n w s words choice old c script reads gates at g = record {
  script = script;
  names = g.names;
  tracks = g.tracks;
  layout = g.layout;
  polls = g.polls;
  order = g.order;
  reads = reads;
  gates = gates_match n s words choice old c at gates g.order;
  choice = choice_matches n s words choice old c at gates g.order g.choice_fits;
}

pub joined : (n : Numbers) (w : Facts) (s : JointScene) (words : List ℕ) (choice : Choice) (old c : Collecting)
    → Joint n w s → IsCollector n s old → GroupsAfter n w s words choice c
    → Joint n w (with_collector n s words choice c)
joined n w s words choice old c j at g = joined_by n w s words choice old c j.script j.reads j.gates at g
