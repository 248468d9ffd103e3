-- A mutator's view changes: what each group owes then.
use Rattle.std.proofs.Common.{◌≡◌, ◌≢◌, ℕ, ◌+◌, ◌<◌, inl, inr, ⊎_elim, List, [], ◌∷◌, ◌++◌, set, slice_get, Option}
use Rattle.std.proofs.Common.{Some, None, zero, suc, sym, ap, subst, refl, ◌∙◌, arith}
use Rattle.std.proofs.lemmas.List.{set-get_or}
use Rattle.std.specs.List.{Contains}
use Rattle.mako_words.specs.declared.name.Name.{Name}
use Rattle.mako_words.specs.declared.phase_word.PhaseWord.{PhaseWord}
use Rattle.mako_words.specs.declared.phase_word.PhaseWord.TheVariants.{Idle, Trace, Evac, Stop}
use Rattle.mako_words.specs.Phases.{phase_at}
use Rattle.mako_shape.specs.declared.numbers.Numbers.{Numbers}
use Rattle.mako_shape.specs.Places.{Place, phase, finished, root, index, Within, word_at}
use Rattle.mako_gate.specs.Standings.{Standing, GateFacet, mutator_at, admitted_own, drained_by}
use Rattle.mako_model.specs.declared.call.Call.{Call}
use Rattle.mako_model.specs.declared.reply.Reply.{Reply}
use Rattle.mako_model.specs.declared.point.Point.TheVariants.{Did}
use Rattle.mako_model.specs.Fronts.{Seen, with_point}
use Rattle.mako_model.specs.Lawful.{IsLawful}
use Rattle.mako_model.specs.Legal.{Facts, state_of}
use Rattle.mako_model.proofs.Lists.{get_set_cases}
use Rattle.mako_names.specs.Going.{Facets}
use Rattle.mako_names.specs.Steps.{NameScene, NamesHoldIn, LeavesNames, Stores, Holds, Decides, Decision}
use Rattle.mako_names.specs.Tables.{phase_of}
use Rattle.mako_names.specs.Trying as trying
use Rattle.mako_names.specs.Trying.{Trying}
use Rattle.mako_names.specs.Uses.{IsGood, IsNamePlace}
use Rattle.mako_names.proofs.Good.{no_name}
use Rattle.mako_names.proofs.StepsKept.{step_kept, leaves_all, leaves_others}
use Rattle.mako_names.proofs.Words.{phase_same}
use Rattle.mako_ring.specs.Facets.{IsPolled}
use Rattle.mako_ring.specs.Polling.{PollingStands}
use Rattle.mako_ring.specs.TraceFacets.{TraceFacet}
use Rattle.mako_shades.specs.Holding.{AgreeOnTrace, IsTracePlace}
use Rattle.mako_shades.specs.Laws.{TracksIn}
use Rattle.mako_shades.specs.Steps as shades
use Rattle.mako_shades.specs.Steps.{TraceScene, LeavesObjects}
use Rattle.mako_shades.proofs.AllSteps as tracing
use Rattle.mako_shades.proofs.Words.{write_agrees}
use Rattle.mako_layout.specs.Facets.{Work}
use Rattle.mako_layout.specs.Evacuations.{State, Evacuation}
use Rattle.mako_layout.specs.Beside as beside
use Rattle.mako_layout.specs.Beside.{IsReading}
use Rattle.mako_phases.specs.Facets.{Admission, outside, inside, mutating, PhaseFacet, collecting, Part, IsNotAdmitted}
use Rattle.mako_phases.specs.Steps.{PhaseScene, PhaseOrderIn, IsPhaseWord}
use Rattle.mako_phases.specs.Steps as phases
use Rattle.mako_phases.proofs.AllPhases.{phase_kept}
use Rattle.mako_state.proofs.Seating.{set_again}
use Rattle.mako_joint.specs.Joints.{JointScene, names_in, trace_in, layout_in, polls_in, phases_in, TracksFit}
use Rattle.mako_joint.specs.Joints.{ReadsAreHeld, GatesMatch, ChoiceMatches, Joint}
use Rattle.mako_joint.proofs.EachKind.{polls_stay}
use Rattle.mako_joint.proofs.Heaps.{heaps_stand}
use Rattle.mako_joint.proofs.Pauses.{gates_drain}
use Rattle.mako_mutating.specs.Mutators.{View, IsSeen, with_view}

-- ---- lists

-- an element written back, as it was
pub set_back : {A : Type 0} (xs : List A) (i : ℕ) (a b : A) → slice_get xs i ≡ Some a → b ≡ a → set xs i b ≡ xs
set_back xs i a b at e = ap (set xs i) e ∙ set_again xs i a at

get_same : {A : Type 0} (xs : List A) (i : ℕ) (a b : A) → slice_get xs i ≡ Some a → slice_get (set xs i b) i ≡ Some b
get_same xs i a b at = get_set xs i a b at
  where
    get_set : {A : Type 0} (xs : List A) (i : ℕ) (a b : A) → slice_get xs i ≡ Some a → slice_get (set xs i b) i ≡ Some b
    get_set [] i a b at = absurd (let c : ⊥ = cc in c)
    get_set (x ∷ xs) zero a b at = refl
    get_set (x ∷ xs) (suc i) a b at = get_set xs i a b at

get_other : {A : Type 0} (xs : List A) (i j : ℕ) (b : A) → j ≢ i → slice_get (set xs i b) j ≡ slice_get xs j
get_other [] i j b other = refl
get_other (x ∷ xs) zero zero b other = absurd (other refl)
get_other (x ∷ xs) zero (suc j) b other = refl
get_other (x ∷ xs) (suc i) zero b other = refl
get_other (x ∷ xs) (suc i) (suc j) b other = get_other xs i j b (λ e. other (ap suc e))

-- ---- how a mutator's admission changes at its gate, or where it has no more use of the phase
pub data Turns : Admission → Admission → Type 0 where
  keeps_on : (a : Admission) → Turns a a
  comes_in : Turns outside (inside None)
  goes_out : (kept : Option PhaseWord) → Turns (inside kept) outside
  lets_go : (kept : Option PhaseWord) → Turns (inside kept) (inside None)

-- a place of which names, tracing, polls and the order of the phases read nothing
pub record IsUnread (p : Place) : Type 0 where
  pub no_name : IsNamePlace p → ⊥
  pub untraced : IsTracePlace p → ⊥
  pub unpolled : IsPolled p → ⊥
  pub unordered : IsPhaseWord p → ⊥

-- ---- a mutator of a scene

-- the reading work of a view is that of a name that it has to use
abbrev pub ReadsHeld : List Name → Work → Type 0
ReadsHeld held work = IsReading work → (name : Name) × Contains held name × (name.entry ≡ beside.entry_of work)

module _ (n : Numbers) (w : Facts) (s : JointScene) (j : Joint n w s) (m : ℕ) (low : m < n.mutators) (v : View)
    (seen : IsSeen s m v) where
  -- ---- what ties the groups
  reads_held : (held : List Name) (work : Work) → ReadsHeld held work
      → ReadsAreHeld (set s.facets.names.held m held) (set s.facets.works m work)
  reads_held held work has k u at reading =
      ⊎_elim
      (λ t. let own = has (subst IsReading (sym t.1) reading) in record {
        names = held;
        name = own.0;
        at = ap (slice_get (set s.facets.names.held m held)) t.0
            ∙ get_same s.facets.names.held m v.held held seen.held;
        among = own.1;
        of_entry = own.2 ∙ ap beside.entry_of t.1;
      })
      (λ t. let has_name = j.reads k u t.1 reading in record {
        names = has_name.names;
        name = has_name.name;
        at = get_other s.facets.names.held m k held t.0 ∙ has_name.at;
        among = has_name.among;
        of_entry = has_name.of_entry;
      })
      (get_set_cases s.facets.works m k work u at)

  gates_match : (standing : Standing) (admission : Admission) → (admitted_own standing ≡ 0 → IsNotAdmitted admission)
      → GatesMatch n (set s.facets.phases m (mutating admission)) (set s.facets.gates m (mutator_at m standing))
  gates_match standing admission fits = record {
    mutators = λ seat a at. ⊎_elim
        (λ t. record {
          gate = mutator_at m standing;
          here = ap (slice_get (set s.facets.gates m (mutator_at m standing))) t.0
              ∙ get_same s.facets.gates m (mutator_at m v.standing) (mutator_at m standing) seen.gate;
          number = low;
          outside = λ e. subst IsNotAdmitted (admission_same admission a t.1) (fits e);
        })
        (λ t. let was = j.gates.mutators seat a t.1 in record {
          gate = was.gate;
          here = get_other s.facets.gates m seat (mutator_at m standing) t.0 ∙ was.here;
          number = was.number;
          outside = was.outside;
        })
        (get_set_cases s.facets.phases m seat (mutating admission) (mutating a) at);
    collector = λ seat part pending at paused. ⊎_elim (λ t. absurd (let b : ⊥ = mixed admission part pending t.1 in b))
        (λ t. let was = j.gates.collector seat part pending t.1 paused in record {
          gate = was.gate;
          here = get_other s.facets.gates m (n.mutators + n.servers) (mutator_at m standing)
              (λ e. let c : m < n.mutators = low in omega arith) ∙ was.here;
          drained = was.drained;
        })
        (get_set_cases s.facets.phases m seat (mutating admission) (collecting part pending) at);
    servers = λ seat t g at. ⊎_elim (λ e. inl (ap (λ (f : GateFacet). drained_in t f) (sym e.1)))
        (λ e. ⊎_elim (λ none. inl none) (λ c. inr (record {
          server = c.server;
          cycle = c.cycle;
          tablet = c.tablet;
          at = c.at;
          ended = c.ended;
          laden = c.laden;
          is = get_other s.facets.phases m seat (mutating admission) e.0 ∙ c.is;
        })) (j.gates.servers seat t g e.1))
        (get_set_cases s.facets.gates m seat (mutator_at m standing) g at);
  }
    where
      drained_in : ℕ → GateFacet → ℕ
      drained_in t g = drained_by t g.watch

      admission_in : PhaseFacet → Admission → Admission
      admission_in (mutating a) d = a
      admission_in f d = d

      admission_same : (a b : Admission) → mutating a ≡ mutating b → a ≡ b
      admission_same a b e = ap (λ f. admission_in f a) e

      mixed : (a : Admission) (part : Part) (pending : List Name) → mutating a ≡ collecting part pending → ⊥
      mixed a part pending e = cc

  choice_matches : (admission : Admission) → ChoiceMatches (set s.facets.phases m (mutating admission)) s.facets.choice
  choice_matches admission seat part pending at =
      ⊎_elim (λ t. absurd (let e : mutating admission ≡ collecting part pending = t.1 in let b : ⊥ = cc in b))
      (λ t. j.choice seat part pending t.1)
      (get_set_cases s.facets.phases m seat (mutating admission) (collecting part pending) at)

  -- ---- all groups after a step of it
  pub record Pieces (us : List ℕ) (front : Seen) (u : View) : Type 0 where
    pub names : NamesHoldIn n w (names_in (with_view s m us front u))
    pub tracks : TracksFit (phase_of n us) n w (trace_in (with_view s m us front u))
    pub layout : Evacuation n (layout_in n w (with_view s m us front u))
    pub polls : PollingStands n (polls_in n (with_view s m us front u))
    pub order : PhaseOrderIn n (phases_in (with_view s m us front u))
    pub reads : ReadsHeld u.held u.work
    pub gates : admitted_own u.standing ≡ 0 → IsNotAdmitted u.admission

  pub joined : (us : List ℕ) (front : Seen) (u : View) → Pieces us front u → Joint n w (with_view s m us front u)
  joined us front u p = record {
    script = j.script;
    names = p.names;
    tracks = p.tracks;
    layout = p.layout;
    polls = p.polls;
    order = p.order;
    reads = reads_held u.held u.work p.reads;
    gates = gates_match u.standing u.admission p.gates;
    choice = choice_matches u.admission;
  }

  -- ---- words of which names, tracing, polls and the order of the phases read nothing but roots
  pub record Framed (us : List ℕ) : Type 0 where
    pub leaves : LeavesNames n s.words us
    pub agrees : AgreeOnTrace n s.words us
    pub polls : PollingStands n (polls_in n (record s { words = us }))
    pub order : PhaseOrderIn n (record { words = us; facets = s.facets.phases })

  pub framed_same : Framed s.words
  framed_same = record {
    leaves = leaves_all n s.words j.names.hold.size;
    agrees = λ p traced within. refl;
    polls = j.polls;
    order = j.order;
  }

  pub framed_at : (p : Place) (x : ℕ) → Within n p → IsUnread p → Framed (set s.words (index n p) x)
  framed_at p x within unread = record {
    leaves = leaves_others n s.words p x j.names.hold.size within unread.no_name;
    agrees = write_agrees n s.words p x within unread.untraced;
    polls = polls_stay n s p x within unread.unpolled j.polls;
    order = phase_kept n (phases_in s) (record { words = set s.words (index n p) x; facets = s.facets.phases }) j.order
        (gates_drain n w s j) (phases.Unseen p x within unread.unordered refl);
  }

  -- a root, while the mutator is admitted
  pub framed_root : (kept : Option PhaseWord) (q x : ℕ) → v.admission ≡ inside kept → Within n (root m q)
      → Framed (set s.words (index n (root m q)) x)
  framed_root kept q x is within = record {
    leaves = leaves_others n s.words (root m q) x j.names.hold.size within (λ e. e);
    agrees = write_agrees n s.words (root m q) x within (λ e. e);
    polls = polls_stay n s (root m q) x within (λ e. e) j.polls;
    order = phase_kept n (phases_in s)
        (record { words = set s.words (index n (root m q)) x; facets = s.facets.phases }) j.order
        (gates_drain n w s j)
        (phases.StoresRoot m kept m q x (seen.phase ∙ ap (λ a. Some (mutating a)) is) within refl);
  }

  -- ---- names
  facets_same : (held : List Name) (t : Trying) (left : List Call) → t ≡ v.trying → left ≡ v.left
      → record s.facets.names { held = set s.facets.names.held m held }
      ≡ record s.facets.names {
        held = set s.facets.names.held m held;
        trying = set s.facets.names.trying m t;
        left = set s.facets.names.left m left;
      }
  facets_same held t left same_trying same_left =
      let a = set_back s.facets.names.trying m v.trying t seen.trying same_trying in
      let b = set_back s.facets.names.left m v.left left seen.left same_left in
      λ i. record s.facets.names { held = set s.facets.names.held m held; trying = sym a i; left = sym b i }

  -- once the words are stored
  pub names_after : (us : List ℕ) (u : View) → NamesHoldIn n w (record (names_in s) { words = us })
      → ((name : Name) → Contains u.held name → IsGood w s.front.history name) → u.trying ≡ v.trying
      → u.left ≡ v.left → NamesHoldIn n w (names_in (with_view s m us s.front u))
  names_after us u holds good same_trying same_left =
      let stored : NameScene = record (names_in s) { words = us } in
      let held : NameScene =
      record stored { facets = record s.facets.names { held = set s.facets.names.held m u.held } } in
      subst (λ (f : Facets). NamesHoldIn n w (record stored { facets = f }))
      (facets_same u.held u.trying u.left same_trying same_left)
      (step_kept n w stored held j.script.facts (Holds m u.held good) holds)

  pub names_onward : (us : List ℕ) (u : View) → LeavesNames n s.words us
      → ((name : Name) → Contains u.held name → IsGood w s.front.history name) → u.trying ≡ v.trying
      → u.left ≡ v.left → NamesHoldIn n w (names_in (with_view s m us s.front u))
  names_onward us u leaves good same_trying same_left =
      names_after us u
      (step_kept n w (names_in s) (record (names_in s) { words = us }) j.script.facts (Stores us leaves) j.names)
      good same_trying same_left

  pub names_answered : (us : List ℕ) (u : View) (c : Call) (r : Reply) → LeavesNames n s.words us
      → v.left ≡ c ∷ u.left → Decision n w (names_in s) m c r → u.held ≡ [] → u.trying ≡ trying.Nothing
      → NamesHoldIn n w (names_in (with_view s m us (with_point s.front (Did m c r)) u))
  names_answered us u c r leaves next decision no_names nothing =
      let facts = j.script.facts in
      let front : Seen = with_point s.front (Did m c r) in
      let told : NameScene = record {
        words = us;
        front = front;
        facets = record s.facets.names {
          trying = set s.facets.names.trying m trying.Nothing;
          left = set s.facets.names.left m u.left;
        };
      } in
      let held : NameScene =
      record told { facets = record told.facets { held = set s.facets.names.held m [] } } in
      subst (λ (f : Facets). NamesHoldIn n w (record { words = us; front = front; facets = f }))
      (λ i. record s.facets.names {
        held = set s.facets.names.held m (sym no_names i);
        trying = set s.facets.names.trying m (sym nothing i);
        left = set s.facets.names.left m u.left;
      })
      (step_kept n w told held facts (Holds m [] (λ name among. absurd (no_name name among)))
      (step_kept n w (names_in s) told facts
      (Decides us m c r u.left (seen.left ∙ ap Some next) decision leaves) j.names))

  -- ---- tracing
  pub tracks_by : (after : TraceScene) → phase_of n after.words ≡ phase_of n s.words
      → ((c : ℕ) → phase_of n s.words ≡ Trace c → TracksIn n w c (trace_in s) → TracksIn n w c after)
      → TracksFit (phase_of n after.words) n w after
  tracks_by after same goes =
      subst (λ k. TracksFit k n w after) (sym same) (by (phase_of n s.words) refl j.tracks)
    where
      by : (k : PhaseWord) → phase_of n s.words ≡ k → TracksFit k n w (trace_in s) → TracksFit k n w after
      by (Idle c) e t = tt
      by (Evac c) e t = tt
      by (Stop c) e t = tt
      by (Trace c) e t = goes c e t

  -- the facet stays
  pub tracks_framed : (us : List ℕ) (f : TraceFacet) → Framed us → f ≡ v.trace
      → TracksFit (phase_of n us) n w
      (record { words = us; facets = set s.facets.trace m f; history = s.front.history })
  tracks_framed us f framed same =
      let after : TraceScene = record (trace_in s) { words = us } in
      subst (λ (fs : List TraceFacet). TracksFit (phase_of n us) n w (record after { facets = fs }))
      (sym (set_back s.facets.trace m v.trace f seen.trace same))
      (tracks_by after (phase_same n s.words us (framed.leaves.same phase tt tt))
      (λ c e t. tracing.step_kept n w c (trace_in s) after (heaps_stand n w s j) t
      (shades.Unseen us framed.agrees refl)))

  pub tracks_told : (us : List ℕ) (f : TraceFacet) (c : Call) (r : Reply) → Framed us → f ≡ v.trace
      → IsLawful (state_of w s.front.history) (Did m c r) → LeavesObjects c r
      → TracksFit (phase_of n us) n w (record {
        words = us;
        facets = set s.facets.trace m f;
        history = s.front.history ++ Did m c r ∷ [];
      })
  tracks_told us f c r framed same lawful leaves =
      let after : TraceScene = shades.with_reply (trace_in s) us m c r in
      subst (λ (fs : List TraceFacet). TracksFit (phase_of n us) n w (record after { facets = fs }))
      (sym (set_back s.facets.trace m v.trace f seen.trace same))
      (tracks_by after (phase_same n s.words us (framed.leaves.same phase tt tt))
      (λ cycle e t. tracing.step_kept n w cycle (trace_in s) after (heaps_stand n w s j) t
      (shades.Decides us framed.agrees m c r lawful leaves refl)))

  -- ---- the order of the phases
  -- the facet alone changes
  module _ (us : List ℕ) (order : PhaseOrderIn n (record { words = us; facets = s.facets.phases })) where
    abbrev before : PhaseScene
    before = record { words = us; facets = s.facets.phases }

    -- the scene with the facet, with a word that is stored as it was
    abbrev again : Admission → PhaseScene
    again a = phases.with_both n before finished (word_at n us finished) m (mutating a)

    again_same : (a : Admission) → again a ≡ record { words = us; facets = set s.facets.phases m (mutating a) }
    again_same a =
        let e = set-get_or us (index n finished) 0 in
        λ i. record { words = e i; facets = set s.facets.phases m (mutating a) }

    pub order_same : (a : Admission) → a ≡ v.admission
        → PhaseOrderIn n (record { words = us; facets = set s.facets.phases m (mutating a) })
    order_same a same =
        subst (λ (fs : List PhaseFacet). PhaseOrderIn n (record { words = us; facets = fs }))
        (sym (set_back s.facets.phases m (mutating v.admission) (mutating a) seen.phase (ap mutating same))) order

    pub order_enters : v.admission ≡ outside
        → PhaseOrderIn n (record { words = us; facets = set s.facets.phases m (mutating (inside None)) })
    order_enters is =
        subst (PhaseOrderIn n) (again_same (inside None))
        (phase_kept n before (again (inside None)) order (gates_drain n w s j)
        (phases.Enters m finished (word_at n us finished) tt (λ e. e) (seen.phase ∙ ap (λ a. Some (mutating a)) is)
        refl))

    pub order_leaves : (kept : Option PhaseWord) → v.admission ≡ inside kept
        → PhaseOrderIn n (record { words = us; facets = set s.facets.phases m (mutating outside) })
    order_leaves kept is =
        subst (PhaseOrderIn n) (again_same outside)
        (phase_kept n before (again outside) order (gates_drain n w s j)
        (phases.Leaves m kept finished (word_at n us finished) tt (λ e. e)
        (seen.phase ∙ ap (λ a. Some (mutating a)) is) refl))

    pub order_forgets : (kept : Option PhaseWord) → v.admission ≡ inside kept
        → PhaseOrderIn n (record { words = us; facets = set s.facets.phases m (mutating (inside None)) })
    order_forgets kept is =
        subst (PhaseOrderIn n) (again_same (inside None))
        (phase_kept n before (again (inside None)) order (gates_drain n w s j)
        (phases.Forgets m kept finished (word_at n us finished) tt (λ e. e)
        (seen.phase ∙ ap (λ a. Some (mutating a)) is) refl))

    pub order_keeps : (kept : Option PhaseWord) → v.admission ≡ inside kept
        → PhaseOrderIn n (record {
          words = us;
          facets = set s.facets.phases m (mutating (inside (Some (phase_at (word_at n us phase)))));
        })
    order_keeps kept is =
        phase_kept n before
        (phases.with_facet before m (mutating (inside (Some (phase_at (word_at n us phase)))))) order
        (gates_drain n w s j) (phases.Keeps m kept (seen.phase ∙ ap (λ a. Some (mutating a)) is) refl)

    pub order_turned : (a : Admission) → Turns v.admission a
        → PhaseOrderIn n (record { words = us; facets = set s.facets.phases m (mutating a) })
    order_turned a turns = by v.admission a turns refl
      where
        by : (from to : Admission) → Turns from to → v.admission ≡ from
            → PhaseOrderIn n (record { words = us; facets = set s.facets.phases m (mutating to) })
        by from to (keeps_on b) is = order_same b (sym is)
        by from to comes_in is = order_enters is
        by from to (goes_out kept) is = order_leaves kept is
        by from to (lets_go kept) is = order_forgets kept is

  -- ---- the layout
  -- the lists of places at the gates and of works, as they are after the step
  pub laid : (us : List ℕ) (front : Seen) (gs : List GateFacet) (ks : List Work) (u : View)
      → gs ≡ set s.facets.gates m (mutator_at m u.standing) → ks ≡ set s.facets.works m u.work
      → Evacuation n (record (layout_in n w (with_view s m us front u)) { gates = gs; works = ks })
      → Evacuation n (layout_in n w (with_view s m us front u))
  laid us front gs ks u gates_are works_are kept =
      let st : State = layout_in n w (with_view s m us front u) in
      subst (λ (g : List GateFacet). Evacuation n (record st { gates = g })) gates_are
      (subst (λ (k : List Work). Evacuation n (record st { gates = gs; works = k })) works_are kept)

  pub gate_back : (u : View) → u.standing ≡ v.standing → s.facets.gates ≡ set s.facets.gates m (mutator_at m u.standing)
  gate_back u same =
      sym (set_back s.facets.gates m (mutator_at m v.standing) (mutator_at m u.standing) seen.gate
      (ap (mutator_at m) same))

  pub work_back : (u : View) → u.work ≡ v.work → s.facets.works ≡ set s.facets.works m u.work
  work_back u same = sym (set_back s.facets.works m v.work u.work seen.work same)
