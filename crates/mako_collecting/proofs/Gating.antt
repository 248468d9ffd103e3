-- The collector at the gates of the mutators: it shuts, drains and reopens them.
use Rattle.std.proofs.Common.{◌≡◌, ℕ, ◌+◌, ◌*◌, ◌<◌, ◌==◌, nat_lt, false, List, [], ◌∷◌, sym, ap, subst, refl, ◌∙◌}
use Rattle.std.proofs.Common.{arith}
use Rattle.std.proofs.lemmas.Bool.Decides.{nat_tests}
use Rattle.mako_words.specs.Gates.{count_of}
use Rattle.mako_words.specs.Words.{all_but}
use Rattle.mako_words.specs.declared.gate_word.TheConstants.GateWord.{SHUT}
use Rattle.mako_words.specs.declared.name.Name.{Name}
use Rattle.mako_shape.specs.declared.numbers.Numbers.{Numbers}
use Rattle.mako_shape.specs.Places.{mutator_gate, index, word_at}
use Rattle.mako_gate.specs.GateActions as gate
use Rattle.mako_gate.specs.GateActions.{GateAction}
use Rattle.mako_gate.specs.Standings.{Watch, pauses, shutter_at}
use Rattle.mako_step.specs.declared.act.Op.TheVariants.{Or, And}
use Rattle.mako_model.specs.Legal.{Facts}
use Rattle.mako_poll.specs.Worlds.{away, collecting_of}
use Rattle.mako_layout.specs.Evacuations.{Evacuation}
use Rattle.mako_layout.specs.StepParts.{collector_seat}
use Rattle.mako_phases.specs.Facets as phases
use Rattle.mako_phases.specs.Facets.{Part, PhaseFacet}
use Rattle.mako_phases.specs.Steps as phase_steps
use Rattle.mako_phases.specs.Steps.{PhaseOrderIn}
use Rattle.mako_phases.proofs.AllPhases.{phase_kept}
use Rattle.mako_joint.specs.Joints.{JointScene, layout_in, phases_in, ChoiceFits, Joint}
use Rattle.mako_joint.proofs.Pauses.{gates_drain}
use Rattle.mako_pause.specs.Collecting.{Holdings, Collecting, running, window_of, forward, forward_from, paused}
use Rattle.mako_pause.specs.declared.stage.Pause.{Pause}
use Rattle.mako_pause.specs.declared.stage.Pause.TheVariants.{Snapshot, Choice as ForChoice}
use Rattle.mako_pause.specs.declared.stage.PauseStage.{PauseStage}
use Rattle.mako_pause.specs.declared.stage.PauseStage.TheVariants.{Shutting, Draining, LoadingRoot, Opening}
use Rattle.mako_pause.specs.declared.stage.CollectStage.TheVariants.{Pausing}
use Rattle.mako_collecting.specs.Facets.{names_of, part_of, watch_of, round_watch, gate_facet, ring_facet, IsCollector}
use Rattle.mako_collecting.specs.Steps.{with_collector, collector_next, stepped}
use Rattle.mako_collecting.proofs.Joined.{joined, drains_none}
use Rattle.mako_collecting.proofs.Stays.{tracks_as, polls_as, order_as}
use Rattle.mako_collecting.proofs.Moves.{ChoosesNot, stays, loads, fits_now, owes_none, gate_moves, same_words}
use Rattle.mako_collecting.proofs.Moves.{gate_words, gate_makes, gate_layout, gate_step, over, pause_over}
use Rattle.mako_collecting.proofs.Idling.{either_way, is_same, rest_stays}

-- ---- a machine that goes on with tracing

-- it traces with what is kept and with these names, and is at no ring
pub record IsInRound (n : Numbers) (k : Holdings) (pending : List Name) (c : Collecting) : Type 0 where
  pub names : names_of c ≡ pending
  pub part : part_of n c ≡ phases.tracing (running k)
  pub watch : watch_of n c ≡ round_watch n k.gates_shut
  pub rings : ring_facet n c ≡ collecting_of n (record { pending = pending; window = window_of k; stage = away })

pub forwards_in_round : (n : Numbers) (k : Holdings) → IsInRound n k k.pending (forward k)
forwards_in_round n k = from k.pending refl
  where
    from : (xs : List Name) → k.pending ≡ xs → IsInRound n k k.pending (forward_from k xs)
    from [] e = record { names = refl; part = refl; watch = refl; rings = refl }
    from (x ∷ xs) e = record {
      names = sym e;
      part = refl;
      watch = refl;
      rings = λ i. collecting_of n (record { pending = sym e i; window = window_of k; stage = away });
    }

-- ---- parts of a pause

pub pause_chooses_not : (n : Numbers) (k : Holdings) (pause : Pause) (m : ℕ)
    → ChoosesNot (part_of n (record { kept = k; stage = Pausing (Shutting pause m) }))
pause_chooses_not n k Snapshot m = tt
pause_chooses_not n k ForChoice m = tt

drain_chooses_not : (n : Numbers) (k : Holdings) (pause : Pause) (m : ℕ)
    → ChoosesNot (part_of n (record { kept = k; stage = Pausing (Draining pause m) }))
drain_chooses_not n k Snapshot m = tt
drain_chooses_not n k ForChoice m = tt

module _ (w : Facts) (k : Holdings) (s : JointScene) (j : Joint k.shape w s) where
  abbrev n : Numbers
  n = k.shape

  abbrev here : PauseStage → Collecting
  here stage = record { kept = k; stage = Pausing stage }

  shut_parts : (pause : Pause) (m l : ℕ) → part_of n (here (Shutting pause m)) ≡ part_of n (here (Shutting pause l))
  shut_parts Snapshot m l = refl
  shut_parts ForChoice m l = refl

  drain_parts : (pause : Pause) (m l : ℕ) → part_of n (here (Draining pause m)) ≡ part_of n (here (Draining pause l))
  drain_parts Snapshot m l = refl
  drain_parts ForChoice m l = refl

  both_parts : (pause : Pause) (m l : ℕ) → part_of n (here (Draining pause m)) ≡ part_of n (here (Shutting pause l))
  both_parts Snapshot m l = refl
  both_parts ForChoice m l = refl

  -- ---- it shuts a gate
  module _ (pause : Pause) (m : ℕ) (low : m < n.mutators) (at : IsCollector n s (here (Shutting pause m))) where
    abbrev us : List ℕ
    us = gate_words n w s j (here (Shutting pause m)) at m low (Or SHUT)

    shut_act : GateAction n (λ q. word_at n s.words q) (λ q. word_at n us q) (collector_seat n)
        (gate_facet n (here (Shutting pause m))) (gate_facet n (here (Shutting pause (m + 1))))
    shut_act = gate.pause_shuts (collector_seat n) (collector_seat n) 0 m 0 low refl (omega arith) (omega arith)
        (gate_makes n w s j (here (Shutting pause m)) at m low (Or SHUT))

    shut_next : Joint n w (with_collector n s us s.facets.choice (here (Shutting pause (m + 1))))
    shut_next =
        gate_step n w s j (here (Shutting pause m)) at m low (Or SHUT) (here (Shutting pause (m + 1))) refl
        (shut_parts pause (m + 1) m) refl
        (gate_layout n w s j (here (Shutting pause m)) at m low (Or SHUT) (here (Shutting pause (m + 1)))
        (pause_chooses_not n k pause m) shut_act)

    shut_last : m + 1 ≡ n.mutators → Joint n w (with_collector n s us s.facets.choice (here (Draining pause 0)))
    shut_last all =
        gate_step n w s j (here (Shutting pause m)) at m low (Or SHUT) (here (Draining pause 0)) refl
        (both_parts pause 0 m) refl
        (gate_layout n w s j (here (Shutting pause m)) at m low (Or SHUT) (here (Draining pause 0))
        (pause_chooses_not n k pause m)
        (subst (λ (x : ℕ). GateAction n (λ q. word_at n s.words q) (λ q. word_at n us q) (collector_seat n)
        (gate_facet n (here (Shutting pause m))) (shutter_at (collector_seat n) (pauses 0 x 0))) all shut_act))

    pub shuts : Joint n w (stepped n s (here (Shutting pause m)))
    shuts =
        either_way (λ c. Joint n w (with_collector n s us s.facets.choice c)) (m + 1 == n.mutators)
        (here (Draining pause 0)) (here (Shutting pause (m + 1))) (λ e. shut_last (is_same (m + 1) n.mutators e))
        (λ e. shut_next)

  -- ---- it looks whether a gate is drained
  module _ (pause : Pause) (m : ℕ) (low : m < n.mutators) (at : IsCollector n s (here (Draining pause m))) where
    abbrev old : Collecting
    old = here (Draining pause m)

    abbrev found : ℕ
    found = word_at n s.words (mutator_gate m)

    look_act : count_of found ≡ 0
        → GateAction n (λ q. word_at n s.words q) (λ q. word_at n s.words q) (collector_seat n) (gate_facet n old)
        (shutter_at (collector_seat n) (pauses 0 n.mutators (m + 1)))
    look_act none = gate.pause_looks (collector_seat n) (collector_seat n) 0 m n.mutators low (omega arith) low none
        (record { here = refl; others = λ q inside other. refl })

    looked : (c : Collecting) → count_of found ≡ 0 → watch_of n c ≡ pauses 0 n.mutators (m + 1)
        → Evacuation n (layout_in n w (with_collector n s s.words s.facets.choice c))
    looked c none is =
        gate_moves n w s j (layout_in n w s) j.layout (watch_of n old) (gate_facet n c) at.gate at.work
        (λ q. word_at n s.words q)
        (subst (λ (x : Watch). GateAction n (λ q. word_at n s.words q) (λ q. word_at n s.words q) (collector_seat n)
        (gate_facet n old) (shutter_at (collector_seat n) x)) (sym is) (look_act none))
        (same_words n (λ q. word_at n s.words q)) (drains_none n c)
        (owes_none n w s j old at (drain_chooses_not n k pause m))

    -- nothing but the gates changes
    drained : (c : Collecting) → count_of found ≡ 0 → watch_of n c ≡ pauses 0 n.mutators (m + 1)
        → names_of c ≡ k.pending → part_of n c ≡ part_of n old → ring_facet n c ≡ ring_facet n old
        → Joint n w (with_collector n s s.words s.facets.choice c)
    drained c none watch names part rings =
        joined n w s s.words s.facets.choice old c j at
        (record {
          names = j.names;
          tracks = tracks_as n w s old c at s.words s.facets.choice names j.tracks;
          layout = looked c none watch;
          polls = polls_as n w s old c at s.words s.facets.choice rings j.polls;
          order = order_as n w s old c at s.words s.facets.choice part names j.order;
          choice_fits = subst (λ q. ChoiceFits q s.facets.choice) (sym part) (fits_now n w s j old at);
        })

  -- past the last gate in the first pause roots are loaded
  module _ (m : ℕ) (low : m < n.mutators) (at : IsCollector n s (here (Draining Snapshot m)))
      (none : count_of (word_at n s.words (mutator_gate m)) ≡ 0) (all : m + 1 ≡ n.mutators) where
    abbrev roots : Collecting
    roots = here (LoadingRoot 0 0)

    first_root : 0 ≡ 0 * n.roots + 0
    first_root = omega arith

    roots_begin : Joint n w (with_collector n s s.words s.facets.choice roots)
    roots_begin =
        joined n w s s.words s.facets.choice (here (Draining Snapshot m)) roots j at
        (record {
          names = j.names;
          tracks = tracks_as n w s (here (Draining Snapshot m)) roots at s.words s.facets.choice refl j.tracks;
          layout = looked Snapshot m low at roots none (λ i. pauses 0 n.mutators (sym all i));
          polls = polls_as n w s (here (Draining Snapshot m)) roots at s.words s.facets.choice refl j.polls;
          order = subst (λ (x : ℕ). PhaseOrderIn n (phase_steps.with_facet (phases_in s) (collector_seat n)
              (phases.collecting (phases.rooting k.cycle x) k.pending))) first_root
              (phase_kept n (phases_in s) (phase_steps.with_facet (phases_in s) (collector_seat n)
              (phases.collecting (phases.rooting k.cycle 0) k.pending)) j.order (gates_drain n w s j)
              (phase_steps.Drains (collector_seat n) k.cycle k.pending at.phase refl));
          choice_fits = rest_stays (phases.pausing k.cycle) (part_of n roots) s.facets.choice tt tt
              (fits_now n w s j (here (Draining Snapshot m)) at);
        })

  drained_last : (pause : Pause) (m : ℕ) → m < n.mutators → IsCollector n s (here (Draining pause m))
      → count_of (word_at n s.words (mutator_gate m)) ≡ 0 → m + 1 ≡ n.mutators
      → Joint n w (with_collector n s s.words s.facets.choice (paused k pause))
  drained_last Snapshot m low at none all = roots_begin m low at none all
  drained_last ForChoice m low at none all =
      drained ForChoice m low at (paused k ForChoice) none (λ i. pauses 0 n.mutators (sym all i)) refl refl refl

  not_counted : (x : ℕ) → nat_lt 0 x ≡ false → x ≡ 0
  not_counted x e = grind (arith, nat_tests)

  pub drains : (pause : Pause) (m : ℕ) → m < n.mutators → IsCollector n s (here (Draining pause m))
      → Joint n w (stepped n s (here (Draining pause m)))
  drains pause m low at =
      let found : ℕ = word_at n s.words (mutator_gate m) in
      loads n w s (index n (mutator_gate m)) s.facets.choice (collector_next (here (Draining pause m)) s.words)
      (either_way (λ c. Joint n w (with_collector n s s.words s.facets.choice c)) (nat_lt 0 (count_of found))
      (here (Draining pause m)) _
      (λ e. stays n w s j (here (Draining pause m)) at (here (Draining pause m)) refl refl refl refl)
      (λ e. either_way (λ c. Joint n w (with_collector n s s.words s.facets.choice c)) (m + 1 == n.mutators)
      (paused k pause) (here (Draining pause (m + 1)))
      (λ a. drained_last pause m low at (not_counted (count_of found) e) (is_same (m + 1) n.mutators a))
      (λ a. drained pause m low at (here (Draining pause (m + 1))) (not_counted (count_of found) e) refl refl
      (drain_parts pause (m + 1) m) refl)))

  -- ---- it reopens a gate
  module _ (m : ℕ) (low : m < n.mutators) (open_ : k.gates_shut ≡ false) (at : IsCollector n s (here (Opening m))) where
    abbrev vs : List ℕ
    vs = gate_words n w s j (here (Opening m)) at m low (And (all_but SHUT))

    open_act : GateAction n (λ q. word_at n s.words q) (λ q. word_at n vs q) (collector_seat n)
        (gate_facet n (here (Opening m))) (gate_facet n (here (Opening (m + 1))))
    open_act = gate.pause_reopens (collector_seat n) (collector_seat n) m n.mutators n.mutators low low
        (gate_makes n w s j (here (Opening m)) at m low (And (all_but SHUT)))

    opened : Evacuation n (layout_in n w (with_collector n s vs s.facets.choice (here (Opening (m + 1)))))
    opened = gate_layout n w s j (here (Opening m)) at m low (And (all_but SHUT)) (here (Opening (m + 1))) tt open_act

    open_next : Joint n w (with_collector n s vs s.facets.choice (here (Opening (m + 1))))
    open_next =
        gate_step n w s j (here (Opening m)) at m low (And (all_but SHUT))
        (here (Opening (m + 1))) refl refl refl opened

    all_opened : m + 1 ≡ n.mutators
        → Evacuation n (layout_in n w (with_collector n s vs s.facets.choice (forward k)))
    all_opened all = pause_over n w s j (here (Opening m)) at vs s.facets.choice n.mutators n.mutators
        (subst (λ (x : ℕ). Evacuation n (over n w s vs s.facets.choice (pauses x n.mutators n.mutators))) all opened)
        (owes_none n w s j (here (Opening m)) at tt) (forward k)
        ((forwards_in_round n k).watch ∙ ap (round_watch n) open_)

    open_last : m + 1 ≡ n.mutators → Joint n w (with_collector n s vs s.facets.choice (forward k))
    open_last all =
        let is = forwards_in_round n k in
        gate_step n w s j (here (Opening m)) at m low (And (all_but SHUT)) (forward k) is.names is.part is.rings
        (all_opened all)

    pub opens : Joint n w (stepped n s (here (Opening m)))
    opens =
        either_way (λ c. Joint n w (with_collector n s vs s.facets.choice c)) (m + 1 == n.mutators) (forward k)
        (here (Opening (m + 1))) (λ e. open_last (is_same (m + 1) n.mutators e)) (λ e. open_next)
