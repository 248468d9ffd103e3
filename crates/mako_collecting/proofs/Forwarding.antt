-- The collector forwards its pending names.
use Rattle.std.proofs.Common.{◌≡◌, ◌≢◌, ℕ, ◌%◌, ◌<◌, ◌==◌, inl, List, ◌∷◌, length, set, slice_set, Contains, Some, sym}
use Rattle.std.proofs.Common.{ap, subst, refl, ◌∙◌, arith}
use Rattle.std.proofs.lemmas.Grind.{get_or-set_at}
use Rattle.std.proofs.lemmas.Nat.{mod_below}
use Rattle.std.proofs.lemmas.List.{get_or-set_other}
use Rattle.mako_words.specs.declared.name.Name.{Name}
use Rattle.mako_words.specs.Names.{name_word}
use Rattle.mako_words.specs.declared.phase_word.PhaseWord.TheVariants.{Trace}
use Rattle.mako_shape.specs.declared.numbers.Numbers.{Numbers}
use Rattle.mako_shape.specs.Places.{Place, phase, work, index, Within, word_at}
use Rattle.mako_shape.proofs.PlaceLaws.{word_same, word_other}
use Rattle.mako_model.specs.Legal.{Facts}
use Rattle.mako_names.specs.Steps.{NamesHoldIn, IsGoodWord, Puts}
use Rattle.mako_names.specs.Tables.{phase_of}
use Rattle.mako_names.specs.Uses.{IsGood, IsUseSlot}
use Rattle.mako_names.proofs.StepsKept.{step_kept}
use Rattle.mako_names.proofs.Words.{phase_same}
use Rattle.mako_ring.specs.Polling.{PollingStands}
use Rattle.mako_ring.specs.TraceFacets as trace
use Rattle.mako_ring.specs.TraceFacets.{TraceFacet}
use Rattle.mako_ring.specs.Tracing.{owner, no_window}
use Rattle.mako_ring.specs.Windows.{found_room, head_up}
use Rattle.mako_ring.specs.declared.window.Window.{Window}
use Rattle.mako_ring.proofs.Found.{owner_in_range}
use Rattle.mako_poll.specs.Steps.{CollectorStep, Wrote, FindsWorkRoom, Forwards as RingForwards}
use Rattle.mako_shades.specs.Laws.{TracksIn}
use Rattle.mako_shades.specs.Steps as shades
use Rattle.mako_shades.specs.Steps.{TraceStep, TraceScene}
use Rattle.mako_shades.proofs.AllSteps as tracing
use Rattle.mako_shades.proofs.ForNames.{held_good}
use Rattle.mako_shades.proofs.Words.{same_name, no_zero_name}
use Rattle.mako_layout.specs.Frames.{IsElsewhere, IsNoGate}
use Rattle.mako_layout.specs.StepParts.{collector_seat}
use Rattle.mako_phases.specs.Facets as phases
use Rattle.mako_phases.specs.Steps as phase_steps
use Rattle.mako_phases.specs.Steps.{PhaseOrderIn}
use Rattle.mako_phases.proofs.AllPhases.{phase_kept}
use Rattle.mako_joint.specs.Joints.{JointScene, names_in, trace_in, polls_in, phases_in, TracksFit, ChoiceFits, Joint}
use Rattle.mako_joint.proofs.Heaps.{heaps_stand}
use Rattle.mako_joint.proofs.Pauses.{gates_drain}
use Rattle.mako_pause.specs.Collecting.{Holdings, Collecting, running, window_of, set_window, forward}
use Rattle.mako_pause.specs.Keeping.{IsKeptName}
use Rattle.mako_pause.specs.declared.stage.ForwardStage.{ForwardStage}
use Rattle.mako_pause.specs.declared.stage.ForwardStage.TheVariants.{Looking, Storing}
use Rattle.mako_pause.specs.declared.stage.CollectStage.TheVariants.{Forwarding}
use Rattle.mako_collecting.specs.Facets.{names_of, part_of, watch_of, ring_facet, IsCollector}
use Rattle.mako_collecting.specs.Steps.{with_collector, collector_next, stepped}
use Rattle.mako_collecting.proofs.Joined.{joined}
use Rattle.mako_collecting.proofs.Stays.{tracks_as, layout_as, order_as, polls_by, layout_else}
use Rattle.mako_collecting.proofs.Moves.{stays, loads, fits_now}
use Rattle.mako_collecting.proofs.Idling.{either_way, is_same, phase_now}
use Rattle.mako_collecting.proofs.Gating.{IsInRound, forwards_in_round}

-- ---- lists

pub first_has : (x : Name) (xs : List Name) → Contains (x ∷ xs) x
first_has x xs = (0, (omega arith), refl)

-- ---- windows

-- one window becomes another
pub sets_window : (n : Numbers) (k : Holdings) (r : ℕ) (x : Window) → r < length k.windows
    → (window_of (set_window k r x) r ≡ x)
    × ((q : ℕ) → q < n.servers → q ≢ r → window_of (set_window k r x) q ≡ window_of k q)
sets_window n k r x low = (
  get_or-set_at k.windows r r x no_window refl low,
  (λ q inside other. get_or-set_other k.windows r q x no_window other),
)

-- ---- a slot of names

-- While servers trace, the collector writes a word into a slot of names.
module _ (n : Numbers) (w : Facts) (s : JointScene) (j : Joint n w s) (old c : Collecting) (at : IsCollector n s old)
    (cycle : ℕ) (before : part_of n old ≡ phases.tracing cycle) (p : Place) (v : ℕ) (within : Within n p)
    (slot : IsUseSlot p) where
  abbrev us : List ℕ
  us = set s.words (index n p) v

  pub trace_now : phase_of n s.words ≡ Trace cycle
  trace_now = phase_now n w s j old at ∙ ap phases.phase_during before

  pub tracks_now : TracksIn n w cycle (trace_in s)
  tracks_now = subst (λ q. TracksFit q n w (trace_in s)) trace_now j.tracks

  slot_names : IsGoodWord w s.front.history v → NamesHoldIn n w (record (names_in s) { words = us })
  slot_names good =
      step_kept n w (names_in s) (record (names_in s) { words = us }) j.script.facts (Puts p v within slot good) j.names

  slot_tracks : phase ≢ p → TraceStep n w cycle (trace_in s) (trace_in (with_collector n s us s.facets.choice c))
      → TracksFit (phase_of n us) n w (trace_in (with_collector n s us s.facets.choice c))
  slot_tracks apart step =
      subst (λ q. TracksFit q n w (trace_in (with_collector n s us s.facets.choice c)))
      (sym (phase_same n s.words us (word_other n s.words p phase v within tt apart) ∙ trace_now))
      (tracing.step_kept n w cycle (trace_in s) (trace_in (with_collector n s us s.facets.choice c))
      (heaps_stand n w s j) tracks_now step)

  slot_order : part_of n c ≡ phases.tracing cycle
      → PhaseOrderIn n (phases_in (with_collector n s us s.facets.choice c))
  slot_order after =
      subst (λ x. PhaseOrderIn n (phase_steps.with_both n (phases_in s) p v (collector_seat n)
      (phases.collecting x (names_of c)))) (sym after)
      (phase_kept n (phases_in s) (phase_steps.with_both n (phases_in s) p v (collector_seat n)
      (phases.collecting (phases.tracing cycle) (names_of c))) j.order (gates_drain n w s j)
      (phase_steps.Carries (collector_seat n) cycle (names_of old) (names_of c) p v
      (at.phase ∙ (λ i. Some (phases.collecting (before i) (names_of old)))) slot within refl))

  pub slot_written : part_of n c ≡ phases.tracing cycle → watch_of n c ≡ watch_of n old → phase ≢ p → IsElsewhere p
      → IsNoGate p → IsGoodWord w s.front.history v
      → TraceStep n w cycle (trace_in s) (trace_in (with_collector n s us s.facets.choice c))
      → CollectorStep n (λ q. word_at n s.words q) (λ q. word_at n us q) (ring_facet n old) (ring_facet n c)
      → Joint n w (with_collector n s us s.facets.choice c)
  slot_written after watch apart free gateless good step rings =
      joined n w s us s.facets.choice old c j at
      (record {
        names = slot_names good;
        tracks = slot_tracks apart step;
        layout = layout_as n w s old c at us s.facets.choice watch (layout_else n w s j p v within free gateless);
        polls = polls_by n w s old c at us s.facets.choice j.polls rings;
        order = slot_order after;
        choice_fits = subst (λ q. ChoiceFits q s.facets.choice) (before ∙ sym after) (fits_now n w s j old at);
      })

-- ---- the stages

module _ (w : Facts) (k : Holdings) (s : JointScene) (j : Joint k.shape w s)
    (windows : length k.windows ≡ k.shape.servers) (x : Name) (known : IsKeptName k.shape x) where
  abbrev n : Numbers
  n = k.shape

  abbrev here : ForwardStage → Collecting
  here stage = record { kept = k; stage = Forwarding stage }

  abbrev r : ℕ
  r = owner n x

  low : r < n.servers
  low = owner_in_range n x known.0

  inside : r < length k.windows
  inside = let a = low in let b = windows in omega arith

  -- the slot at the head of the window
  abbrev head : Place
  head = work r ((window_of k r).head % n.ring)

  -- ---- it looks
  abbrev found : Collecting
  found = record {
    kept = set_window k r (found_room n.ring (window_of k r));
    stage = Forwarding (Storing x);
  }

  finds_room : IsCollector n s (here (Looking x)) → word_at n s.words head ≡ 0
      → Joint n w (with_collector n s s.words s.facets.choice found)
  finds_room at empty =
      joined n w s s.words s.facets.choice (here (Looking x)) found j at
      (record {
        names = j.names;
        tracks = tracks_as n w s (here (Looking x)) found at s.words s.facets.choice refl j.tracks;
        layout = layout_as n w s (here (Looking x)) found at s.words s.facets.choice refl j.layout;
        polls = polls_by n w s (here (Looking x)) found at s.words s.facets.choice j.polls
            (FindsWorkRoom r (λ p polled l. refl) low empty
            (sets_window n k r (found_room n.ring (window_of k r)) inside) refl);
        order = order_as n w s (here (Looking x)) found at s.words s.facets.choice refl refl j.order;
        choice_fits = fits_now n w s j (here (Looking x)) at;
      })

  pub looks : IsCollector n s (here (Looking x)) → Joint n w (stepped n s (here (Looking x)))
  looks at =
      loads n w s (index n head) s.facets.choice (collector_next (here (Looking x)) s.words)
      (either_way (λ c. Joint n w (with_collector n s s.words s.facets.choice c)) (word_at n s.words head == 0) found
      (here (Looking x)) (λ e. finds_room at (is_same (word_at n s.words head) 0 e))
      (λ e. stays n w s j (here (Looking x)) at (here (Looking x)) refl refl refl refl))

  -- ---- it stores
  module _ (at : IsCollector n s (here (Storing x))) where
    abbrev kept : Holdings
    kept = set_window k r (head_up (window_of k r))

    abbrev vs : List ℕ
    vs = set s.words (index n head) (name_word x)

    is : IsInRound n kept k.pending (forward kept)
    is = forwards_in_round n kept

    polls_here : PollingStands n (record (polls_in n s) { collector = ring_facet n (here (Storing x)) })
    polls_here =
        subst (λ q. PollingStands n (record (polls_in n s) { collector = q })) at.rings j.polls

    empty : word_at n s.words head ≡ 0
    empty = polls_here.poll.1

    within : Within n head
    within = (low, (let b = (polls_here.works r low).at_below in mod_below (window_of k r).head n.ring (omega arith)))

    good : IsGoodWord w s.front.history (name_word x)
    good name fits e =
        subst (IsGood w s.front.history) (same_name x name known.1 fits e)
        (held_good n w s.words s.facets.trace s.front.history (running k)
        (tracks_now n w s j (here (Storing x)) (forward kept) at (running k) refl head (name_word x) within tt).tracing
        (collector_seat n) (trace.collecting (x ∷ k.pending)) x at.trace (inl (first_has x k.pending)))

    wrote : Wrote n (λ q. word_at n s.words q) (λ q. word_at n vs q) head (name_word x)
    wrote = record {
      there = word_same n s.words head (name_word x) j.names.hold.size within;
      else = λ q polled l other. word_other n s.words head q (name_word x) within l other;
    }

    forwards : TraceStep n w (running k) (trace_in s) (trace_in (with_collector n s vs s.facets.choice (forward kept)))
    forwards =
        shades.Forwards (collector_seat n) x k.pending r ((window_of k r).head % n.ring) at.trace within empty
        (λ i. record {
          words = vs;
          facets = slice_set s.facets.trace (collector_seat n) (trace.collecting (is.names i));
          history = s.front.history;
        })

    rings : CollectorStep n (λ q. word_at n s.words q) (λ q. word_at n vs q) (ring_facet n (here (Storing x)))
        (ring_facet n (forward kept))
    rings =
        subst (λ q. CollectorStep n (λ p. word_at n s.words p) (λ p. word_at n vs p)
        (ring_facet n (here (Storing x))) q)
        (sym is.rings)
        (RingForwards r (name_word x) wrote (λ e. no_zero_name x known.1 (sym e)) refl
        (sets_window n k r (head_up (window_of k r)) inside) refl)

    pub stores : Joint n w (stepped n s (here (Storing x)))
    stores =
        slot_written n w s j (here (Storing x)) (forward kept) at (running k) refl head (name_word x) within tt is.part
        is.watch (λ e. cc) tt tt good forwards rings
