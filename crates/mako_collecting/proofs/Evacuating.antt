-- The collector stores Evac, and opens the gates again.
use Rattle.std.proofs.Common.{◌≡◌, ℕ, ◌+◌, ◌<◌, ◌^◌, ◌==◌, false, List, [], length, set, slice_get, Some, sym, ap}
use Rattle.std.proofs.Common.{subst, refl, ◌∙◌}
use Rattle.mako_words.specs.Words.{all_but}
use Rattle.mako_words.specs.declared.gate_word.TheConstants.GateWord.{SHUT}
use Rattle.mako_words.specs.declared.name.Name.{Name}
use Rattle.mako_words.specs.declared.phase_word.PhaseWord.TheVariants.{Trace, Evac}
use Rattle.mako_words.specs.Phases.{cycle_of, phase_word}
use Rattle.mako_words.proofs.PhaseWords.{phase_words}
use Rattle.mako_shape.specs.declared.numbers.Numbers.{Numbers}
use Rattle.mako_shape.specs.Places.{phase, barrier, work, ghost, index, word_at}
use Rattle.mako_gate.specs.GateActions as gate
use Rattle.mako_gate.specs.GateActions.{GateAction}
use Rattle.mako_gate.specs.Standings.{pauses}
use Rattle.mako_step.specs.declared.act.Op.TheVariants.{And}
use Rattle.mako_model.specs.Legal.{Facts}
use Rattle.mako_names.specs.Steps.{Evacuates}
use Rattle.mako_names.specs.Tables.{phase_of}
use Rattle.mako_names.proofs.StepsKept.{step_kept}
use Rattle.mako_names.proofs.Words.{phase_stored}
use Rattle.mako_ring.specs.Shades.{IsComplete}
use Rattle.mako_ring.specs.TraceFacets as trace
use Rattle.mako_ring.specs.TraceFacets.{TraceFacet, IsIdle}
use Rattle.mako_shades.specs.Steps.{IsAtRest}
use Rattle.mako_layout.specs.Facets.{Gift, Choice, chooses, has_chosen, settled}
use Rattle.mako_layout.specs.Evacuations.{Evacuation}
use Rattle.mako_layout.specs.StepParts.{collector_seat}
use Rattle.mako_layout.specs.Steps.{store_phase, ends_choice}
use Rattle.mako_layout.proofs.EachStep.{each_step_keeps}
use Rattle.mako_phases.specs.Facets as phases
use Rattle.mako_phases.specs.Facets.{PhaseFacet, mutating, serving}
use Rattle.mako_phases.specs.Laws.{SlotsAreEmpty}
use Rattle.mako_phases.specs.Orders.{AreUnladen, PendingFits}
use Rattle.mako_phases.specs.Steps as phase_steps
use Rattle.mako_phases.proofs.AllPhases.{phase_kept}
use Rattle.mako_phases.proofs.Says.{names_rest}
use Rattle.mako_joint.specs.Joints.{JointScene, names_in, trace_in, layout_in, phases_in, TracksFit, Joint}
use Rattle.mako_joint.proofs.Epochs.{all_marked}
use Rattle.mako_joint.proofs.Pauses.{gates_drain, by_part}
use Rattle.mako_pause.specs.Collecting.{Holdings, Collecting, running}
use Rattle.mako_pause.specs.declared.stage.ChoiceStage.TheVariants.{StoringEvac, Opening as Reopening}
use Rattle.mako_pause.specs.declared.stage.NoticeStage.TheVariants.{Looking as NoticeLook}
use Rattle.mako_pause.specs.declared.stage.CollectStage.TheVariants.{Choosing, Noticing}
use Rattle.mako_collecting.specs.Facets.{chosen_below, names_of, part_of, gate_facet, IsCollector}
use Rattle.mako_collecting.specs.Steps.{with_collector, chosen, stepped}
use Rattle.mako_collecting.specs.Ties.{TraceTied, TracesAreTied}
use Rattle.mako_collecting.proofs.Joined.{joined, same_collector}
use Rattle.mako_collecting.proofs.Stays.{layout_as, polls_as, polls_else, sets}
use Rattle.mako_collecting.proofs.Moves.{owes_none, gate_words, gate_makes, gate_layout, gate_step, over, pause_over}
use Rattle.mako_collecting.proofs.Idling.{either_way, is_same, phase_now, small_now}

idle_at_rest : (f : TraceFacet) → IsAtRest f → IsIdle f
idle_at_rest trace.apart is = tt
idle_at_rest (trace.looking object field old) is = absurd is
idle_at_rest (trace.storing object field) is = absurd is
idle_at_rest (trace.expecting expected) is = absurd is
idle_at_rest (trace.swapping expected) is = absurd is
idle_at_rest (trace.serving job) is = is
idle_at_rest (trace.collecting names) is = is

abbrev pending_in : PhaseFacet → List Name
pending_in (phases.collecting part pending) = pending
pending_in f = []

module _ (w : Facts) (k : Holdings) (s : JointScene) (j : Joint k.shape w s)
    (at : IsCollector k.shape s (record { kept = k; stage = Choosing StoringEvac }))
    (ties : TracesAreTied s.facets.phases s.facets.trace) (given : List Gift) (spare : List ℕ)
    (begun : s.facets.choice ≡ chooses settled given spare) where
  abbrev n : Numbers
  n = k.shape

  abbrev old : Collecting
  old = record { kept = k; stage = Choosing StoringEvac }

  abbrev c : Collecting
  c = record { kept = record k { gates_shut = false }; stage = Choosing (Reopening 0) }

  abbrev seat : ℕ
  seat = collector_seat n

  abbrev word : ℕ
  word = phase_word (Evac (running k))

  abbrev us : List ℕ
  us = set s.words (index n phase) word

  abbrev ended : Choice
  ended = has_chosen given spare

  small : running k < 2 ^ 20
  small = small_now n w s j old at

  trace_is : phase_of n s.words ≡ Trace (running k)
  trace_is = phase_now n w s j old at

  -- ---- the heap is complete
  rest : SlotsAreEmpty n s.words × AreUnladen s.facets.phases
  rest =
      names_rest n s.words s.facets.phases j.order
      (by_part n w s j phases.IsRestful seat (part_of n old) (names_of old) at.phase tt)

  none : k.pending ≡ []
  none =
      let same = same_collector n s.words s.facets.phases j.order seat j.order.seat (part_of n old) j.order.part
      (names_of old) j.order.pending at.phase j.order.here in
      ap (λ (g : PhaseFacet). pending_in g) same.1
      ∙ by_part n w s j (λ p. PendingFits n s.words p j.order.pending → j.order.pending ≡ []) seat (part_of n old)
      (names_of old) at.phase (λ e. e) j.order.words_stand.pends

  idles : (other : ℕ) (f : TraceFacet) (g : PhaseFacet) → slice_get s.facets.phases other ≡ Some g → TraceTied g f
      → IsIdle f
  idles other f (mutating admission) here tied =
      idle_at_rest f (tied (gates_drain n w s j seat (part_of n old) (names_of old) at.phase tt other admission here))
  idles other f (serving server stage ended laden) here tied =
      idle_at_rest f (tied (rest.1 other server stage ended laden here))
  idles other f (phases.collecting part pending) here tied =
      subst IsIdle (sym tied) (collected other part pending here)
    where
      collected : (other : ℕ) (part : phases.Part) (pending : List Name)
          → slice_get s.facets.phases other ≡ Some (phases.collecting part pending) → pending ≡ []
      collected other part pending here =
          let same = same_collector n s.words s.facets.phases j.order other seat part (part_of n old) pending
          (names_of old) here at.phase in
          ap (λ (g : PhaseFacet). pending_in g) same.1 ∙ none

  complete : IsComplete n s.words s.facets.trace (λ m. false)
  complete = record {
    quiet = record {
      works = λ r slot within. rest.0 (work r slot) tt within;
      ghosts = λ a b slot within. rest.0 (ghost a b slot) tt within;
      seats = λ other f is. let t = ties other f is in idles other f t.facet t.here t.tied;
    };
    barriers = λ m slot within. rest.0 (barrier m slot) tt within;
    outside = λ m low. refl;
  }

  -- ---- the layout
  ended_layout : Evacuation n (layout_in n w (record s { words = us; facets = record s.facets { choice = ended } }))
  unfolding phase_of
  ended_layout =
      let one : Evacuation n (layout_in n w (record s { facets = record s.facets { choice = ended } })) =
      each_step_keeps n j.script.shape (layout_in n w s) seat
      (layout_in n w (record s { facets = record s.facets { choice = ended } })) j.layout
      (ends_choice given spare begun) in
      each_step_keeps n j.script.shape (layout_in n w (record s { facets = record s.facets { choice = ended } })) seat
      (layout_in n w (record s { words = us; facets = record s.facets { choice = ended } })) one
      (store_phase (λ q. word_at n us q) word (sets n s.words phase word j.names.hold.size tt)
      (ap cycle_of (phase_words.inverse (Evac (running k)) small) ∙ sym (ap cycle_of trace_is)))

  pub evacuates : Joint n w (chosen n s k StoringEvac given spare)
  evacuates =
      joined n w s us ended old c j at
      (record {
        names = step_kept n w (names_in s) (record (names_in s) { words = us }) j.script.facts
            (Evacuates (running k) trace_is (all_marked n w s (running k) (λ m. false) j trace_is complete)) j.names;
        tracks = subst (λ p. TracksFit p n w (trace_in (with_collector n s us ended c)))
            (sym (phase_stored n s.words (Evac (running k)) j.names.hold.size small)) tt;
        layout = layout_as n w s old c at us ended refl ended_layout;
        polls = polls_as n w s old c at us ended refl (polls_else n w s j phase word tt (λ is. is));
        order = phase_kept n (phases_in s) (phases_in (with_collector n s us ended c)) j.order (gates_drain n w s j)
            (phase_steps.Evacuates seat (running k) (chosen_below k.chosen (length k.chosen)) k.pending at.phase refl);
        choice_fits = tt;
      })

-- ---- the gates are opened

module _ (w : Facts) (k : Holdings) (s : JointScene) (j : Joint k.shape w s) (m : ℕ) (low : m < k.shape.mutators)
    (at : IsCollector k.shape s (record { kept = k; stage = Choosing (Reopening m) })) where
  abbrev shape : Numbers
  shape = k.shape

  abbrev reopening : ℕ → Collecting
  reopening x = record { kept = k; stage = Choosing (Reopening x) }

  abbrev noticing : Collecting
  noticing = record { kept = k; stage = Noticing (NoticeLook 0) }

  abbrev vs : List ℕ
  vs = gate_words shape w s j (reopening m) at m low (And (all_but SHUT))

  open_act : GateAction shape (λ q. word_at shape s.words q) (λ q. word_at shape vs q) (collector_seat shape)
      (gate_facet shape (reopening m)) (gate_facet shape (reopening (m + 1)))
  open_act = gate.pause_reopens (collector_seat shape) (collector_seat shape) m shape.mutators shape.mutators low low
      (gate_makes shape w s j (reopening m) at m low (And (all_but SHUT)))

  opened : Evacuation shape (layout_in shape w (with_collector shape s vs s.facets.choice (reopening (m + 1))))
  opened = gate_layout shape w s j (reopening m) at m low (And (all_but SHUT)) (reopening (m + 1)) tt open_act

  all_opened : m + 1 ≡ shape.mutators
      → Evacuation shape (layout_in shape w (with_collector shape s vs s.facets.choice noticing))
  all_opened all = pause_over shape w s j (reopening m) at vs s.facets.choice shape.mutators shape.mutators
      (subst (λ (x : ℕ). Evacuation shape (over shape w s vs s.facets.choice (pauses x shape.mutators shape.mutators)))
      all opened) (owes_none shape w s j (reopening m) at tt) noticing refl

  pub reopens : Joint shape w (stepped shape s (reopening m))
  reopens =
      either_way (λ c. Joint shape w (with_collector shape s vs s.facets.choice c)) (m + 1 == shape.mutators) noticing
      (reopening (m + 1))
      (λ e. gate_step shape w s j (reopening m) at m low (And (all_but SHUT)) noticing refl refl refl
      (all_opened (is_same (m + 1) shape.mutators e)))
      (λ e. gate_step shape w s j (reopening m) at m low (And (all_but SHUT)) (reopening (m + 1)) refl refl refl opened)
