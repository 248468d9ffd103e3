-- A step of the collector that changes nothing but its machine, or its gates.
use Rattle.std.proofs.Common.{◌≡◌, ℕ, zero, suc, ◌<◌, inr, List, [], ◌∷◌, set, slice_get, slice_set, get_or, Some, sym}
use Rattle.std.proofs.Common.{ap, subst, refl, ◌∙◌}
use Rattle.mako_shape.specs.declared.numbers.Numbers.{Numbers}
use Rattle.mako_shape.specs.Places.{Place, mutator_gate, index, word_at}
use Rattle.mako_gate.specs.Changes.{Makes}
use Rattle.mako_gate.specs.GateActions as gate
use Rattle.mako_gate.specs.GateActions.{GateAction}
use Rattle.mako_gate.specs.Standings.{GateFacet, Watch, rests, pauses, shutter_at, drained_by}
use Rattle.mako_gate.proofs.Changes.{acts_make}
use Rattle.mako_step.specs.Acts.{after_op, words_after}
use Rattle.mako_step.specs.declared.act.Op.{Op}
use Rattle.mako_model.specs.Legal.{Facts}
use Rattle.mako_layout.specs.Facets.{Choice, rests_with, chooses, has_chosen, settled, debt_of, idle}
use Rattle.mako_layout.specs.Evacuations.{State, Evacuation}
use Rattle.mako_layout.specs.Frames.{LeavesLayout}
use Rattle.mako_layout.specs.StepParts.{collector_seat, at_gate}
use Rattle.mako_layout.specs.Steps.{acts}
use Rattle.mako_layout.proofs.EachStep.{each_step_keeps}
use Rattle.mako_layout.proofs.Frames.{leaves_layout}
use Rattle.mako_phases.specs.Facets as phases
use Rattle.mako_phases.specs.Facets.{Part}
use Rattle.mako_phases.specs.Steps.{PhaseOrderIn}
use Rattle.mako_joint.specs.Joints.{JointScene, layout_in, ChoiceFits, Joint}
use Rattle.mako_model.proofs.Lists.{get_set_same}
use Rattle.mako_pause.specs.Collecting.{Collecting}
use Rattle.mako_collecting.specs.Facets.{names_of, part_of, watch_of, gate_facet, ring_facet, IsCollector}
use Rattle.mako_collecting.specs.Steps.{with_collector}
use Rattle.mako_collecting.proofs.Joined.{joined, drains_none}
use Rattle.mako_collecting.proofs.Stays.{load_leaves, tracks_as, layout_as, order_as, polls_as, names_else, tracks_else}
use Rattle.mako_collecting.proofs.Stays.{order_else, polls_else}

-- ---- lists

pub set_twice : {A : Type 0} (xs : List A) (i : ℕ) (x y : A) → slice_set (slice_set xs i x) i y ≡ slice_set xs i y
set_twice [] i x y = refl
set_twice (z ∷ zs) zero x y = refl
set_twice {A} (z ∷ zs) (suc i) x y = ap (λ (us : List A). z ∷ us) (set_twice zs i x y)

-- ---- the choice

-- outside the choice the collector owes nothing
abbrev pub ChoosesNot : Part → Type 0
ChoosesNot (phases.choosing cycle left) = ⊥
ChoosesNot part = Unit {0}

pub none_owed : (part : Part) (choice : Choice) → ChoosesNot part → ChoiceFits part choice → debt_of choice ≡ settled
none_owed part (rests_with spare) not fits = refl
none_owed part (has_chosen given spare) not fits = refl
none_owed (phases.idle c) (chooses debt given spare) not fits = absurd fits
none_owed (phases.pausing c) (chooses debt given spare) not fits = absurd fits
none_owed (phases.rooting c loaded) (chooses debt given spare) not fits = absurd fits
none_owed (phases.tracing c) (chooses debt given spare) not fits = absurd fits
none_owed (phases.choosing c left) (chooses debt given spare) not fits = absurd not
none_owed (phases.evacuating c ended) (chooses debt given spare) not fits = absurd fits
none_owed (phases.stopped c) (chooses debt given spare) not fits = absurd fits

module _ (n : Numbers) (w : Facts) (s : JointScene) (j : Joint n w s) (old : Collecting) (at : IsCollector n s old)
  where
    pub fits_now : ChoiceFits (part_of n old) s.facets.choice
    fits_now = j.choice (collector_seat n) (part_of n old) (names_of old) at.phase

    pub owes_none : ChoosesNot (part_of n old) → debt_of s.facets.choice ≡ settled
    owes_none not = none_owed (part_of n old) s.facets.choice not fits_now

    -- ---- nothing changes
    pub stays : (c : Collecting) → names_of c ≡ names_of old → watch_of n c ≡ watch_of n old
        → part_of n c ≡ part_of n old → ring_facet n c ≡ ring_facet n old
        → Joint n w (with_collector n s s.words s.facets.choice c)
    stays c names watch part rings =
        joined n w s s.words s.facets.choice old c j at
        (record {
          names = j.names;
          tracks = tracks_as n w s old c at s.words s.facets.choice names j.tracks;
          layout = layout_as n w s old c at s.words s.facets.choice watch j.layout;
          polls = polls_as n w s old c at s.words s.facets.choice rings j.polls;
          order = order_as n w s old c at s.words s.facets.choice part names j.order;
          choice_fits = subst (λ p. ChoiceFits p s.facets.choice) (sym part) fits_now;
        })

-- a load leaves the words
pub loads : (n : Numbers) (w : Facts) (s : JointScene) (i : ℕ) (choice : Choice) (c : Collecting)
    → Joint n w (with_collector n s s.words choice c)
    → Joint n w (with_collector n s (set s.words i (get_or s.words i 0)) choice c)
loads n w s i choice c =
    subst (λ (us : List ℕ). Joint n w (with_collector n s us choice c)) (sym (load_leaves s.words i))

-- ---- the gates of mutators

-- the layout stands where the collector acts at gates, with nothing owed
pub gate_moves : (n : Numbers) (w : Facts) (s : JointScene) → Joint n w s → (st : State) → Evacuation n st
    → (x : Watch) (g : GateFacet) → slice_get st.gates (collector_seat n) ≡ Some (shutter_at (collector_seat n) x)
    → slice_get st.works (collector_seat n) ≡ Some idle → (V : Place → ℕ)
    → GateAction n st.words V (collector_seat n) (shutter_at (collector_seat n) x) g → LeavesLayout n st.words V
    → ((t : ℕ) → drained_by t g.watch ≡ 0) → debt_of st.choice ≡ settled
    → Evacuation n (at_gate st V (collector_seat n) g)
gate_moves n w s j st e x g at work V action leaves none owes =
    each_step_keeps n j.script.shape st (collector_seat n) (at_gate st V (collector_seat n) g) e
    (acts V (collector_seat n) (shutter_at (collector_seat n) x) g (record {
      gate = at;
      work = work;
    }) action leaves none
    (inr owes))

pub same_words : (n : Numbers) (V : Place → ℕ) → LeavesLayout n V V
same_words n V = record {
  table = record {
    phase = refl;
    entries = λ x l. refl;
    homes = λ t l. refl;
    tops = λ t l. refl;
    leavings = λ t l. refl;
  };
  regions = λ r a l m. refl;
}

module _ (n : Numbers) (w : Facts) (s : JointScene) (j : Joint n w s) (old : Collecting) (at : IsCollector n s old)
    (m : ℕ) (low : m < n.mutators) (op : Op) where
  abbrev p : Place
  p = mutator_gate m

  abbrev pub gate_words : List ℕ
  gate_words = words_after (record { word = index n p; op = op }) s.words

  pub gate_makes : Makes n (λ q. word_at n s.words q) (λ q. word_at n gate_words q) (mutator_gate m) op
  gate_makes = acts_make n s.words p op j.names.hold.size low

  -- the layout, by what is done there
  pub gate_layout : (c : Collecting) → ChoosesNot (part_of n old)
      → GateAction n (λ q. word_at n s.words q) (λ q. word_at n gate_words q) (collector_seat n) (gate_facet n old)
      (gate_facet n c) → Evacuation n (layout_in n w (with_collector n s gate_words s.facets.choice c))
  gate_layout c not action =
      gate_moves n w s j (layout_in n w s) j.layout (watch_of n old) (gate_facet n c) at.gate at.work
      (λ q. word_at n gate_words q) action
      (leaves_layout n (λ q. word_at n s.words q) (λ q. word_at n gate_words q) p (after_op op (word_at n s.words p))
      gate_makes tt) (drains_none n c) (owes_none n w s j old at not)

  pub gate_order : PhaseOrderIn n (record { words = gate_words; facets = s.facets.phases })
  gate_order = order_else n w s j p (after_op op (word_at n s.words p)) low (λ is. is)

  -- the groups, where the part is as it was
  pub gate_step : (c : Collecting) → names_of c ≡ names_of old → part_of n c ≡ part_of n old
      → ring_facet n c ≡ ring_facet n old
      → Evacuation n (layout_in n w (with_collector n s gate_words s.facets.choice c))
      → Joint n w (with_collector n s gate_words s.facets.choice c)
  gate_step c names part rings evacuated =
      joined n w s gate_words s.facets.choice old c j at
      (record {
        names = names_else n w s j p (after_op op (word_at n s.words p)) low (λ is. is);
        tracks = tracks_as n w s old c at gate_words s.facets.choice names
            (tracks_else n w s j p (after_op op (word_at n s.words p)) low (λ is. is) (λ e. cc));
        layout = evacuated;
        polls = polls_as n w s old c at gate_words s.facets.choice rings
            (polls_else n w s j p (after_op op (word_at n s.words p)) low (λ is. is));
        order = order_as n w s old c at gate_words s.facets.choice part names gate_order;
        choice_fits = subst (λ q. ChoiceFits q s.facets.choice) (sym part) (fits_now n w s j old at);
      })

-- ---- the end of a pause

-- the layout where the collector's gates are these
abbrev pub over : (n : Numbers) → Facts → JointScene → List ℕ → Choice → Watch → State
over n w s us choice x =
    at_gate (layout_in n w (record s { words = us; facets = record s.facets { choice = choice } }))
    (λ q. word_at n us q)
    (collector_seat n) (shutter_at (collector_seat n) x)

-- once all gates are reopened the pause is over
pub pause_over : (n : Numbers) (w : Facts) (s : JointScene) → Joint n w s → (old : Collecting) → IsCollector n s old
    → (us : List ℕ) (choice : Choice) (m drained : ℕ) → Evacuation n (over n w s us choice (pauses m m drained))
    → debt_of choice ≡ settled → (c : Collecting) → watch_of n c ≡ rests
    → Evacuation n (layout_in n w (with_collector n s us choice c))
pause_over n w s j old at us choice m drained e owes c is =
    let seat : ℕ = collector_seat n in
    let g : GateFacet = shutter_at seat (pauses m m drained) in
    let st : State = over n w s us choice (pauses m m drained) in
    let one : Evacuation n (at_gate st (λ q. word_at n us q) seat (shutter_at seat rests)) =
    gate_moves n w s j st e (pauses m m drained) (shutter_at seat rests)
    (get_set_same s.facets.gates seat g (gate_facet n old) at.gate) at.work (λ q. word_at n us q)
    (gate.pause_ends seat seat m drained (record {
      tablets = λ t l. refl;
      owns = λ m l. refl;
      turns = λ t l. refl;
    })) (same_words n (λ q. word_at n us q)) (λ t. refl) owes in
    subst (λ (gs : List GateFacet). Evacuation n (record st { gates = gs }))
    (set_twice s.facets.gates seat g (shutter_at seat rests)
    ∙ ap (λ x. slice_set s.facets.gates seat (shutter_at seat x)) (sym is)) one
