-- What each group says once the seat of a mutator has made a step of a kind.
use Rattle.std.proofs.Common.{◌≡◌, ℕ, ◌<◌, List, [], ◌∷◌, ◌++◌, set, slice_get, Some, sym, ap, subst, refl, ◌∙◌, arith}
use Rattle.std.proofs.lemmas.List.{set-set}
use Rattle.std.proofs.lemmas.List.Sums.{sum_by_push}
use Rattle.mako_words.specs.declared.name.Name.{Name}
use Rattle.mako_words.specs.declared.phase_word.PhaseWord.{PhaseWord}
use Rattle.mako_words.specs.declared.phase_word.PhaseWord.TheVariants.{Idle, Trace, Evac, Stop}
use Rattle.mako_shape.specs.declared.numbers.Numbers.{Numbers}
use Rattle.mako_shape.specs.Places.{Place, phase, index, Within, word_at}
use Rattle.mako_gate.specs.Standings.{GateFacet, mutator_at, admitted_own}
use Rattle.mako_model.specs.declared.call.Call.{Call}
use Rattle.mako_model.specs.declared.reply.Reply.{Reply}
use Rattle.mako_model.specs.declared.point.Point.{Point}
use Rattle.mako_model.specs.declared.point.Point.TheVariants.{Did}
use Rattle.mako_model.specs.Fronts.{Seen, with_point}
use Rattle.mako_model.specs.Heaps.{fields_of}
use Rattle.mako_model.specs.Lawful.{IsLawful, heap_after}
use Rattle.mako_model.specs.Legal.{Facts, state_of}
use Rattle.mako_model.specs.Starved.{words_made, words_by}
use Rattle.mako_model.proofs.Histories.{state_push}
use Rattle.mako_model.proofs.Lists.{get_set_same}
use Rattle.mako_names.specs.Steps.{NameScene, NamesHoldIn, LeavesNames, Stores, Tries, AttemptStep, Decision, Decides}
use Rattle.mako_names.specs.Steps.{answered}
use Rattle.mako_names.specs.Tables.{phase_of}
use Rattle.mako_names.specs.Trying.{Trying}
use Rattle.mako_names.specs.Trying as trying
use Rattle.mako_names.proofs.StepsKept.{step_kept}
use Rattle.mako_names.proofs.Words.{phase_same}
use Rattle.mako_shades.specs.Holding.{AgreeOnTrace}
use Rattle.mako_shades.specs.Steps as shades
use Rattle.mako_shades.specs.Steps.{TraceScene, LeavesObjects}
use Rattle.mako_shades.proofs.AllSteps as tracing
use Rattle.mako_layout.specs.Facets.{Work}
use Rattle.mako_layout.specs.Evacuations.{State, Evacuation}
use Rattle.mako_layout.specs.Steps.Step.{outside}
use Rattle.mako_layout.specs.Beside.{IsReading}
use Rattle.mako_layout.proofs.EachStep.{each_step_keeps}
use Rattle.mako_layout.proofs.GateSteps.{only_look}
use Rattle.mako_phases.specs.Facets.{mutating, IsNotAdmitted}
use Rattle.mako_phases.specs.Steps as phases
use Rattle.mako_phases.specs.Steps.{PhaseScene, PhaseOrderIn, PhaseStep, IsPhaseWord}
use Rattle.mako_phases.proofs.AllPhases.{phase_kept}
use Rattle.mako_joint.specs.Joints.{JointScene, names_in, trace_in, layout_in, phases_in, TracksFit, Joint}
use Rattle.mako_joint.proofs.Heaps.{heaps_stand}
use Rattle.mako_joint.proofs.Pauses.{gates_drain}
use Rattle.mako_state.proofs.Seating.{set_again}
use Rattle.mako_mutating.specs.Mutators.{IsSeen, View, with_view}
use Rattle.mako_making.proofs.Seated.{Quiet, seat_goes}

-- an element written again as it is
pub set_same : {A : Type 0} (xs : List A) (i : ℕ) (a b : A) → slice_get xs i ≡ Some a → b ≡ a → set xs i b ≡ xs
set_same xs i a b at e = ap (set xs i) e ∙ set_again xs i a at

-- the layout of a scene with these words, front, places at the gates and works
abbrev pub laid : Numbers → Facts → JointScene → List ℕ → Seen → List GateFacet → List Work → State
laid n w s us front gs ks = record {
  words = λ p. word_at n us p;
  heap = state_of w front.history;
  gates = gs;
  works = ks;
  choice = s.facets.choice;
  made = λ t. words_made w t front.history;
}

module _ (n : Numbers) (w : Facts) (s : JointScene) (j : Joint n w s) (m : ℕ) (low : m < n.mutators)
    (f : View) (here : IsSeen s m f) where
  -- ---- names

  -- what the mutator knows of its attempt is this
  abbrev pub tried : Trying → NameScene
  tried t = record (names_in s) {
    facets = record s.facets.names { trying = set s.facets.names.trying m t };
  }

  pub not_tried : (t : Trying) → t ≡ f.trying → NamesHoldIn n w (tried t)
  not_tried t e =
      subst (λ l. NamesHoldIn n w (record (names_in s) { facets = record s.facets.names { trying = l } }))
      (sym (set_same s.facets.names.trying m f.trying t here.trying e)) j.names

  pub tries : (t : Trying) → AttemptStep n w (names_in s) m f.trying t → NamesHoldIn n w (tried t)
  tries t a = step_kept n w (names_in s) (tried t) j.script.facts (Tries m f.trying t here.trying a) j.names

  pub tries_twice : (t u : Trying) → AttemptStep n w (names_in s) m f.trying t → AttemptStep n w (tried t) m t u
      → NamesHoldIn n w (tried u)
  tries_twice t u a b =
      subst (λ l. NamesHoldIn n w (record (names_in s) { facets = record s.facets.names { trying = l } }))
      (set-set s.facets.names.trying m t u)
      (step_kept n w (tried t)
      (record (names_in s) {
        facets = record s.facets.names { trying = set (set s.facets.names.trying m t) m u };
      }) j.script.facts
      (Tries m t u (get_set_same s.facets.names.trying m t f.trying here.trying) b) (tries t a))

  -- names are as they are in the scene after the step, where those in use and the calls left are as they were
  renamed : (us : List ℕ) (front : Seen) (held held' : List (List Name)) (t : List Trying)
      (left left' : List (List Call)) → held ≡ held' → left ≡ left'
      → NamesHoldIn n w (record {
        words = us;
        front = front;
        facets = record s.facets.names { held = held; trying = t; left = left };
      })
      → NamesHoldIn n w (record {
        words = us;
        front = front;
        facets = record s.facets.names { held = held'; trying = t; left = left' };
      })
  renamed us front held held' t left left' e l =
      subst (λ (h : List (List Name)). NamesHoldIn n w (record {
        words = us;
        front = front;
        facets = record s.facets.names { held = held; trying = t; left = left };
      })
      → NamesHoldIn n w (record {
        words = us;
        front = front;
        facets = record s.facets.names { held = h; trying = t; left = left' };
      })) e
      (subst (λ (h : List (List Call)). NamesHoldIn n w (record {
        words = us;
        front = front;
        facets = record s.facets.names { held = held; trying = t; left = left };
      })
      → NamesHoldIn n w (record {
        words = us;
        front = front;
        facets = record s.facets.names { held = held; trying = t; left = h };
      })) l (λ k. k))

  pub names_go : (us : List ℕ) (g : View) → LeavesNames n s.words us → g.held ≡ f.held → g.left ≡ f.left
      → NamesHoldIn n w (tried g.trying) → NamesHoldIn n w (names_in (with_view s m us s.front g))
  names_go us g leaves held left names =
      renamed us s.front s.facets.names.held (set s.facets.names.held m g.held) (set s.facets.names.trying m g.trying)
      s.facets.names.left (set s.facets.names.left m g.left)
      (sym (set_same s.facets.names.held m f.held g.held here.held held))
      (sym (set_same s.facets.names.left m f.left g.left here.left left))
      (step_kept n w (tried g.trying) (record (tried g.trying) { words = us }) j.script.facts (Stores us leaves) names)

  -- a call is answered by a reply that makes no name
  pub names_decide : (us : List ℕ) (c : Call) (r : Reply) (g : View) → LeavesNames n s.words us
      → g.held ≡ f.held → f.left ≡ c ∷ g.left → g.trying ≡ trying.Nothing → Decision n w (names_in s) m c r
      → NamesHoldIn n w (names_in (with_view s m us (with_point s.front (Did m c r)) g))
  names_decide us c r g leaves held left nothing decision =
      let after : NameScene = record {
        words = us;
        front = with_point s.front (Did m c r);
        facets = answered s.facets.names m g.left;
      } in
      subst (λ t. NamesHoldIn n w (record {
        words = us;
        front = with_point s.front (Did m c r);
        facets = record s.facets.names {
          held = set s.facets.names.held m g.held;
          trying = set s.facets.names.trying m t;
          left = set s.facets.names.left m g.left;
        };
      })) (sym nothing)
      (renamed us (with_point s.front (Did m c r)) s.facets.names.held (set s.facets.names.held m g.held)
      (set s.facets.names.trying m trying.Nothing) (set s.facets.names.left m g.left)
      (set s.facets.names.left m g.left)
      (sym (set_same s.facets.names.held m f.held g.held here.held held)) refl
      (step_kept n w (names_in s) after j.script.facts
      (Decides us m c r g.left (here.left ∙ ap Some left) decision leaves) j.names))

  -- ---- tracing
  module _ (us : List ℕ) (agrees : AgreeOnTrace n s.words us) (same : phase_of n us ≡ phase_of n s.words)
      (g : View) (trace : g.trace ≡ f.trace) where
    same_traces : set s.facets.trace m g.trace ≡ s.facets.trace
    same_traces = set_same s.facets.trace m f.trace g.trace here.trace trace

    -- tracing is kept, wherever a step of it leads to this history
    tracks_by : (history : List Point) → ((c : ℕ) → TracksFit (Trace c) n w (trace_in s)
        → TracksFit (Trace c) n w (record { words = us; facets = s.facets.trace; history = history }))
        → TracksFit (phase_of n us) n w
        (record { words = us; facets = set s.facets.trace m g.trace; history = history })
    tracks_by history step =
        subst (λ k. TracksFit k n w (record {
          words = us;
          facets = set s.facets.trace m g.trace;
          history = history;
        })) (sym same)
        (subst (λ l. TracksFit (phase_of n s.words) n w (record { words = us; facets = l; history = history }))
        (sym same_traces) (by_phase (phase_of n s.words) j.tracks))
      where
        by_phase : (k : PhaseWord) → TracksFit k n w (trace_in s)
            → TracksFit k n w (record { words = us; facets = s.facets.trace; history = history })
        by_phase (Idle c) t = tt
        by_phase (Trace c) t = step c t
        by_phase (Evac c) t = tt
        by_phase (Stop c) t = tt

    pub tracks_go : TracksFit (phase_of n us) n w (trace_in (with_view s m us s.front g))
    tracks_go = tracks_by s.front.history (λ c t.
        tracing.step_kept n w c (trace_in s) (record { words = us; facets = s.facets.trace; history = s.front.history })
        (heaps_stand n w s j) t (shades.Unseen us agrees refl))

    pub tracks_decide : (c : Call) (r : Reply) → IsLawful (state_of w s.front.history) (Did m c r)
        → LeavesObjects c r
        → TracksFit (phase_of n us) n w (trace_in (with_view s m us (with_point s.front (Did m c r)) g))
    tracks_decide c r lawful leaves = tracks_by (s.front.history ++ Did m c r ∷ []) (λ k t.
        tracing.step_kept n w k (trace_in s)
        (record { words = us; facets = s.facets.trace; history = s.front.history ++ Did m c r ∷ [] })
        (heaps_stand n w s j) t (shades.Decides us agrees m c r lawful leaves refl))

  -- ---- the order of the phases
  pub order_by : (after : PhaseScene) → PhaseStep n (phases_in s) after → PhaseOrderIn n after
  order_by after step = phase_kept n (phases_in s) after j.order (gates_drain n w s j) step

  pub same_phases : (g : View) → g.admission ≡ f.admission
      → set s.facets.phases m (mutating g.admission) ≡ s.facets.phases
  same_phases g e = set_same s.facets.phases m (mutating f.admission) (mutating g.admission) here.phase (ap mutating e)

  -- neither words nor the facet change
  pub order_looks : (g : View) → g.admission ≡ f.admission
      → PhaseOrderIn n (record { words = s.words; facets = set s.facets.phases m (mutating g.admission) })
  order_looks g e = subst (λ l. PhaseOrderIn n (record { words = s.words; facets = l })) (sym (same_phases g e)) j.order

  -- a word is stored that the order does not read
  pub order_unseen : (p : Place) (v : ℕ) → Within n p → (IsPhaseWord p → ⊥) → (g : View)
      → g.admission ≡ f.admission
      → PhaseOrderIn n (record {
        words = set s.words (index n p) v;
        facets = set s.facets.phases m (mutating g.admission);
      })
  order_unseen p v within other g e =
      subst (λ l. PhaseOrderIn n (record { words = set s.words (index n p) v; facets = l })) (sym (same_phases g e))
      (order_by (record { words = set s.words (index n p) v; facets = s.facets.phases })
      (phases.Unseen p v within other refl))

  -- ---- the layout
  relaid : (us : List ℕ) (front : Seen) (gs gs' : List GateFacet) (ks ks' : List Work) → gs ≡ gs' → ks ≡ ks'
      → Evacuation n (laid n w s us front gs ks) → Evacuation n (laid n w s us front gs' ks')
  relaid us front gs gs' ks ks' e d kept =
      let same_works : Evacuation n (laid n w s us front gs ks') =
      subst (λ x. Evacuation n (laid n w s us front gs x)) d kept in
      subst (λ x. Evacuation n (laid n w s us front x ks')) e same_works

  same_gates : (g : View) → g.standing ≡ f.standing
      → s.facets.gates ≡ set s.facets.gates m (mutator_at m g.standing)
  same_gates g e =
      sym (set_same s.facets.gates m (mutator_at m f.standing) (mutator_at m g.standing) here.gate
      (ap (mutator_at m) e))

  same_works : (g : View) → g.work ≡ f.work → s.facets.works ≡ set s.facets.works m g.work
  same_works g e = sym (set_same s.facets.works m f.work g.work here.work e)

  -- where it stands changes, or its work, or neither
  pub laid_gate : (us : List ℕ) (front : Seen) (g : View) → g.work ≡ f.work
      → Evacuation n (laid n w s us front (set s.facets.gates m (mutator_at m g.standing)) s.facets.works)
      → Evacuation n (layout_in n w (with_view s m us front g))
  laid_gate us front g e kept = relaid us front _ _ _ _ refl (same_works g e) kept

  pub laid_work : (us : List ℕ) (front : Seen) (g : View) → g.standing ≡ f.standing
      → Evacuation n (laid n w s us front s.facets.gates (set s.facets.works m g.work))
      → Evacuation n (layout_in n w (with_view s m us front g))
  laid_work us front g e kept = relaid us front _ _ _ _ (same_gates g e) refl kept

  pub laid_neither : (us : List ℕ) (front : Seen) (g : View) → g.standing ≡ f.standing → g.work ≡ f.work
      → Evacuation n (laid n w s us front s.facets.gates s.facets.works)
      → Evacuation n (layout_in n w (with_view s m us front g))
  laid_neither us front g e d kept = relaid us front _ _ _ _ (same_gates g e) (same_works g d) kept

  -- a point that changes no object and makes none
  pub retold : (p : Point) (us : List ℕ) (gs : List GateFacet) (ks : List Work)
      → ((name : Name) → fields_of (heap_after (state_of w s.front.history) p) name
      ≡ fields_of (state_of w s.front.history) name)
      → ((tablet : ℕ) → words_by w tablet p ≡ 0) → Evacuation n (laid n w s us s.front gs ks)
      → Evacuation n (laid n w s us (with_point s.front p) gs ks)
  retold p us gs ks fields words kept =
      let history_is : state_of w (s.front.history ++ p ∷ []) ≡ heap_after (state_of w s.front.history) p =
      state_push w s.front.history p in
      let made_is : (λ t. words_made w t s.front.history) ≡ (λ t. words_made w t (s.front.history ++ p ∷ [])) =
      λ q t. (let e : words_made w t s.front.history ≡ words_made w t (s.front.history ++ p ∷ []) =
      omega (arith, sum_by_push (words_by w t) s.front.history p, words t) in e) q in
      subst (λ d. Evacuation n (record {
        words = λ q. word_at n us q;
        heap = state_of w (s.front.history ++ p ∷ []);
        gates = gs;
        works = ks;
        choice = s.facets.choice;
        made = d;
      })) made_is
      (each_step_keeps n j.script.shape (laid n w s us s.front gs ks) m _ kept
      (outside m (λ q. word_at n us q) (state_of w (s.front.history ++ p ∷ []))
      (λ t. words_made w t s.front.history) (only_look n (λ q. word_at n us q))
      (record { tablets = λ a b. refl; owns = λ a b. refl; turns = λ a b. refl })
      (λ name. ap (λ h. fields_of h name) history_is ∙ fields name) (λ t. refl)))

  -- ---- a step that tells nothing
  pub record Unsaid (us : List ℕ) (g : View) : Type 0 where
    pub quiet : Quiet n s.words us
    pub held : g.held ≡ f.held
    pub left : g.left ≡ f.left
    pub trace : g.trace ≡ f.trace
    pub names : NamesHoldIn n w (tried g.trying)
    pub layout : Evacuation n (layout_in n w (with_view s m us s.front g))
    pub order : PhaseOrderIn n (phases_in (with_view s m us s.front g))
    pub unread : IsReading g.work → ⊥
    pub out : admitted_own g.standing ≡ 0 → IsNotAdmitted g.admission

  pub goes : (us : List ℕ) (g : View) → Unsaid us g → Joint n w (with_view s m us s.front g)
  goes us g o = seat_goes n w s j m low f here us s.front g (record {
    names = names_go us g o.quiet.leaves o.held o.left o.names;
    tracks = tracks_go us o.quiet.agrees (phase_same n s.words us (o.quiet.leaves.same phase tt tt)) g o.trace;
    layout = o.layout;
    polled = o.quiet.polled;
    order = o.order;
    unread = o.unread;
    out = o.out;
  })

  -- ---- a step that answers the call, and makes no name
  pub record Says (us : List ℕ) (c : Call) (r : Reply) (g : View) : Type 0 where
    pub quiet : Quiet n s.words us
    pub held : g.held ≡ f.held
    pub left : f.left ≡ c ∷ g.left
    pub trace : g.trace ≡ f.trace
    pub nothing : g.trying ≡ trying.Nothing
    pub decision : Decision n w (names_in s) m c r
    pub lawful : IsLawful (state_of w s.front.history) (Did m c r)
    pub objects : LeavesObjects c r
    pub layout : Evacuation n (layout_in n w (with_view s m us (with_point s.front (Did m c r)) g))
    pub order : PhaseOrderIn n (phases_in (with_view s m us (with_point s.front (Did m c r)) g))
    pub unread : IsReading g.work → ⊥
    pub out : admitted_own g.standing ≡ 0 → IsNotAdmitted g.admission

  pub says : (us : List ℕ) (c : Call) (r : Reply) (g : View) → Says us c r g
      → Joint n w (with_view s m us (with_point s.front (Did m c r)) g)
  says us c r g o = seat_goes n w s j m low f here us (with_point s.front (Did m c r)) g (record {
    names = names_decide us c r g o.quiet.leaves o.held o.left o.nothing o.decision;
    tracks = tracks_decide us o.quiet.agrees (phase_same n s.words us (o.quiet.leaves.same phase tt tt)) g o.trace c r
        o.lawful o.objects;
    layout = o.layout;
    polled = o.quiet.polled;
    order = o.order;
    unread = o.unread;
    out = o.out;
  })
