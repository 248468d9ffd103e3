-- The collector takes the snapshot with the store of Trace.
use Rattle.std.proofs.Common.{◌≡◌, ◌≢◌, ℕ, ◌+◌, ◌*◌, ◌<◌, ◌≤◌, ◌^◌, List, [], ◌∷◌, ◌++◌, set, slice_get, Some, sym, ap}
use Rattle.std.proofs.Common.{subst, refl, ◌∙◌, arith}
use Rattle.mako_words.specs.declared.name.Name.{Name}
use Rattle.mako_words.specs.declared.phase_word.PhaseWord.TheVariants.{Idle as IdlePhase, Trace}
use Rattle.mako_words.specs.Phases.{phase_word}
use Rattle.mako_shape.specs.declared.numbers.Numbers.{Numbers}
use Rattle.mako_shape.specs.Places.{Place, phase, barrier, work, ghost, index, word_at}
use Rattle.mako_model.specs.declared.point.Point.{Point}
use Rattle.mako_model.specs.declared.point.Point.TheVariants.{Snap}
use Rattle.mako_model.specs.Heaps.{Heap, fields_of}
use Rattle.mako_model.specs.Legal.{Facts, state_of}
use Rattle.mako_model.specs.Starved.{words_made}
use Rattle.mako_names.specs.Steps.{NamesHoldIn, MaySnap, NoneIsFreed, Snaps, with_snapshot}
use Rattle.mako_names.specs.Tables.{phase_of, entry_of}
use Rattle.mako_names.specs.Uses.{IsUseSlot}
use Rattle.mako_names.proofs.StepsKept.{step_kept}
use Rattle.mako_names.proofs.Words.{phase_stored}
use Rattle.mako_ring.specs.Shades as shades
use Rattle.mako_ring.specs.Shades.{IsShadeSlot}
use Rattle.mako_ring.specs.TraceFacets.{TraceFacet}
use Rattle.mako_shades.specs.Serving.{AreSole, Tracks}
use Rattle.mako_shades.specs.Steps.{IsAtRest, IsReady}
use Rattle.mako_shades.proofs.Mutators.{collector_snaps}
use Rattle.mako_shades.proofs.Words.{write_agrees, no_zero_name}
use Rattle.mako_layout.specs.Evacuations.{Evacuation}
use Rattle.mako_layout.specs.StepParts.{collector_seat}
use Rattle.mako_layout.specs.Steps.{store_trace, outside}
use Rattle.mako_layout.proofs.EachStep.{each_step_keeps}
use Rattle.mako_layout.proofs.Outside.{one_more, made_more}
use Rattle.mako_phases.specs.Facets as phases
use Rattle.mako_phases.specs.Facets.{Part, PhaseFacet, mutating, serving, ServerStage, Admission}
use Rattle.mako_phases.specs.Laws.{IsReadyForSnapshot}
use Rattle.mako_phases.specs.Marked.{IsMarked}
use Rattle.mako_phases.specs.Orders.{BoundFits}
use Rattle.mako_phases.specs.Steps as phase_steps
use Rattle.mako_phases.proofs.AllPhases.{phase_kept}
use Rattle.mako_phases.proofs.Parts.{cycles_fit}
use Rattle.mako_phases.proofs.Says.{snapshot_ready}
use Rattle.mako_joint.specs.Joints.{JointScene, names_in, trace_in, layout_in, phases_in, TracksFit, Joint}
use Rattle.mako_joint.proofs.Pauses.{gates_drain, parts_pause, by_part}
use Rattle.mako_pause.specs.Collecting.{Holdings, Collecting, running}
use Rattle.mako_pause.specs.declared.stage.PauseStage.TheVariants.{StoringTrace, Opening}
use Rattle.mako_pause.specs.declared.stage.CollectStage.TheVariants.{Pausing}
use Rattle.mako_collecting.specs.Facets.{part_of, names_of, IsCollector}
use Rattle.mako_collecting.specs.Steps.{with_collector, snapped, stepped}
use Rattle.mako_collecting.specs.Ties.{TraceTied, TracesAreTied, RootsStand, UsesAreRooted}
use Rattle.mako_collecting.proofs.Joined.{joined_by, same_collector}
use Rattle.mako_collecting.proofs.Stays.{tracks_as, layout_as, polls_as, polls_else, sets}
use Rattle.mako_collecting.proofs.Moves.{same_words, fits_now}
use Rattle.mako_collecting.proofs.Idling.{choice_rests, rest_stays, phase_now}

pub shade_is_use : (p : Place) → IsShadeSlot p → IsUseSlot p
shade_is_use (barrier m slot) is = tt
shade_is_use (work s slot) is = tt
shade_is_use (ghost a b slot) is = tt
shade_is_use p is = absurd is

-- a mark is one, as tracing and as the order of the phases read it
same_mark : (n : Numbers) (words : List ℕ) (cycle : ℕ) (x : Name) → shades.IsMarked n words cycle x
    → IsMarked n words cycle x
unfolding entry_of
same_mark n words cycle x m =
    record { in_range = m.in_range; taken = m.taken; generation = m.generation; epoch = m.epoch }

module _ (w : Facts) (k : Holdings) (s : JointScene) (j : Joint k.shape w s)
    (at : IsCollector k.shape s (record { kept = k; stage = Pausing StoringTrace })) (through : List ℕ)
    (sent : List (List Name)) (none : NoneIsFreed k.shape through sent)
    (ties : TracesAreTied s.facets.phases s.facets.trace) (sole : AreSole s.facets.trace)
    (roots : RootsStand k.shape s.words (state_of w s.front.history))
    (rooted : UsesAreRooted s.facets.names.held (state_of w s.front.history)) where
  abbrev n : Numbers
  n = k.shape

  abbrev old : Collecting
  old = record { kept = k; stage = Pausing StoringTrace }

  abbrev c : Collecting
  c = record { kept = k; stage = Pausing (Opening 0) }

  abbrev seat : ℕ
  seat = collector_seat n

  abbrev point : Point
  point = Snap (k.cycle + 1)

  abbrev word : ℕ
  word = phase_word (Trace (k.cycle + 1))

  abbrev us : List ℕ
  us = set s.words (index n phase) word

  abbrev next : JointScene
  next = snapped s (k.cycle + 1) through sent

  bound : k.cycle + 1 ≤ n.cycles
  bound =
      by_part n w s j (λ p. BoundFits n p → k.cycle + 1 ≤ n.cycles) seat (part_of n old) (names_of old) at.phase
      (λ b. b.0) j.order.words_stand.bound

  small : k.cycle + 1 < 2 ^ 20
  small = let a = bound in let b = cycles_fit n j.script.shape in omega arith

  ready : IsReadyForSnapshot n s.words s.facets.phases k.cycle k.pending
  ready = snapshot_ready n s.words s.facets.phases j.order seat k.cycle k.pending at.phase

  idle_now : phase_of n s.words ≡ IdlePhase k.cycle
  idle_now = phase_now n w s j old at

  -- ---- names
  may : MaySnap n w (names_in s) k.cycle
  may = record {
    idle = idle_now;
    cycle_left = let a = bound in let b = j.script.facts.cycles in omega arith;
    slots = λ p name within is fits e. no_zero_name name fits (sym (ready.slots p is within) ∙ e);
    rooted = rooted;
  }

  names_after : NamesHoldIn n w (with_snapshot n (names_in s) k.cycle through sent)
  names_after =
      step_kept n w (names_in s) (with_snapshot n (names_in s) k.cycle through sent) j.script.facts
      (Snaps k.cycle through sent may none) j.names

  -- ---- tracing
  rests : (other : ℕ) (f : TraceFacet) → other ≢ seat → (g : PhaseFacet) → slice_get s.facets.phases other ≡ Some g
      → TraceTied g f → IsAtRest f
  rests other f apart (mutating admission) here tied =
      tied (gates_drain n w s j seat (part_of n old) (names_of old) at.phase tt other admission here)
  rests other f apart (serving server stage ended laden) here tied =
      tied (ready.unladen other server stage ended laden here)
  rests other f apart (phases.collecting part pending) here tied =
      absurd (apart (same_collector n s.words s.facets.phases j.order other seat part (part_of n old) pending
      (names_of old) here at.phase).0)

  is_ready : IsReady n w s.words s.facets.trace s.front.history (k.cycle + 1) seat k.pending
  is_ready = record {
    here = at.trace;
    roots = λ x is. let r = roots.packed x is in ready.roots x r.mutator r.place r.within r.packed;
    pending = λ x has. let r = ready.pends x has in
        roots.stands x (record { mutator = r.0; place = r.1; within = r.2; packed = r.3 });
    others = λ other f is apart. let t = ties other f is in rests other f apart t.facet t.here t.tied;
    slots = λ p is within. ready.slots p (shade_is_use p is) within;
    unmarked = λ x marked. ready.unmarked x (same_mark n s.words (k.cycle + 1) x marked);
  }

  tracks_next : Tracks n w us s.facets.trace (s.front.history ++ point ∷ []) (k.cycle + 1)
  tracks_next =
      collector_snaps n w s.words us s.facets.trace s.front.history (k.cycle + 1) seat k.pending
      names_after.hold.answers.lawful.legal is_ready sole (write_agrees n s.words phase word tt (λ is. is))

  -- ---- layout
  objects : (name : Name) → fields_of (state_of w (s.front.history ++ point ∷ [])) name
      ≡ fields_of (state_of w s.front.history) name
  objects name = ap (λ (h : Heap). fields_of h name) (one_more w s.front.history point)

  made : (t : ℕ) → words_made w t (s.front.history ++ point ∷ []) ≡ words_made w t s.front.history
  made t = let a = made_more w s.front.history point t in omega arith

  traced_layout : Evacuation n (layout_in n w (record next { words = us }))
  traced_layout =
      let rest = choice_rests (part_of n old) s.facets.choice tt (fits_now n w s j old at) in
      let one : Evacuation n (layout_in n w (record s { words = us })) =
      each_step_keeps n j.script.shape (layout_in n w s) seat (layout_in n w (record s { words = us })) j.layout
      (store_trace (λ q. word_at n us q) word rest.0
      (parts_pause n w s j (by_part n w s j phases.IsInPause seat (part_of n old) (names_of old) at.phase tt)) rest.1
      (sets n s.words phase word j.names.hold.size tt)) in
      each_step_keeps n j.script.shape (layout_in n w (record s { words = us })) seat
      (layout_in n w (record next { words = us })) one
      (outside seat (λ q. word_at n us q) (state_of w (s.front.history ++ point ∷ []))
      (λ t. words_made w t (s.front.history ++ point ∷ [])) (same_words n (λ q. word_at n us q))
      (record { tablets = λ t l. refl; owns = λ m l. refl; turns = λ t l. refl }) objects made)

  at_next : IsCollector n next old
  at_next = record {
    shape = refl;
    trace = at.trace;
    gate = at.gate;
    work = at.work;
    phase = at.phase;
    rings = at.rings;
  }

  pub snaps : Joint n w (stepped n (snapped s (running k) through sent) old)
  snaps =
      joined_by n w next us s.facets.choice old c j.script j.reads j.gates at_next
      (record {
        names = names_after;
        tracks = tracks_as n w next old c at_next us s.facets.choice refl
            (subst (λ p. TracksFit p n w (trace_in (record next { words = us })))
            (sym (phase_stored n s.words (Trace (k.cycle + 1)) j.names.hold.size small)) tracks_next);
        layout = layout_as n w next old c at_next us s.facets.choice refl traced_layout;
        polls = polls_as n w next old c at_next us s.facets.choice refl
            (polls_else n w s j phase word tt (λ is. is));
        order = phase_kept n (phases_in s) (phases_in (with_collector n s us s.facets.choice c)) j.order
            (gates_drain n w s j)
            (phase_steps.Snaps seat k.cycle (n.mutators * n.roots) k.pending at.phase refl);
        choice_fits = rest_stays (part_of n old) (part_of n c) s.facets.choice tt tt (fits_now n w s j old at);
      })
