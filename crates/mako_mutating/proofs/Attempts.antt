-- The attempts of one mutator: what its steps have to show, by the stage.
use Rattle.std.proofs.Common.{◌≡◌, ℕ, drop, length-append, ◌+◌, Bool, true, List, [], ◌∷◌, ◌++◌, length, set, slice_get}
use Rattle.std.proofs.Common.{None, sym, ap, subst, refl, ◌∙◌, arith, append-nil}
use Rattle.mako_words.specs.declared.name.Name.{Name}
use Rattle.mako_shape.specs.declared.numbers.Numbers.{Numbers}
use Rattle.mako_shape.specs.Places.{Place, index, Within, word_at}
use Rattle.mako_gate.specs.Changes.{Sets}
use Rattle.mako_gate.specs.Standings.{mutator_at}
use Rattle.mako_shape.proofs.PlaceLaws.{word_same, word_other}
use Rattle.mako_step.specs.Acts.{words_after}
use Rattle.mako_step.specs.declared.act.Op.TheVariants.{Load}
use Rattle.mako_model.specs.declared.call.Call.{Call}
use Rattle.mako_model.specs.declared.reply.Reply.{Reply}
use Rattle.mako_model.specs.declared.point.Point.{Point}
use Rattle.mako_model.specs.declared.point.Point.TheVariants.{Did}
use Rattle.mako_model.specs.Fronts.{Seen, with_point, replies_to}
use Rattle.mako_model.specs.Heaps.{Heap, fields_of}
use Rattle.mako_model.specs.Lawful.{IsLawful, heap_after}
use Rattle.mako_model.specs.Legal.{Facts, state_of}
use Rattle.mako_model.specs.Starved.{words_made, words_by}
use Rattle.mako_model.proofs.Histories.{state_push}
use Rattle.mako_call.specs.declared.caller.Caller.{Caller}
use Rattle.mako_call.specs.declared.call_stage.CallStage.{CallStage}
use Rattle.mako_mutator.specs.declared.progress.Task.TheVariants.{Attempting}
use Rattle.mako_call.specs.Calls.{Calling, decided, event_by, outcome_in}
use Rattle.mako_mutator.specs.Drivers as drivers
use Rattle.mako_mutator.specs.Drivers.{Driving, told_reply, attempt_on, ahead}
use Rattle.mako_names.specs.Steps.{NamesHoldIn, LeavesNames, IsPlain, Plain}
use Rattle.mako_names.specs.Tables.{phase_of}
use Rattle.mako_names.specs.Trying as trying
use Rattle.mako_layout.specs.Evacuations.{State, Evacuation}
use Rattle.mako_layout.specs.Evacuations as evacuations
use Rattle.mako_layout.specs.Frames.{IsElsewhere, IsNoGate}
use Rattle.mako_layout.specs.Steps.Step.{outside}
use Rattle.mako_layout.proofs.EachStep.{each_step_keeps}
use Rattle.mako_layout.proofs.Frames.{places_are_apart}
use Rattle.mako_layout.proofs.Runs.{others_enter}
use Rattle.mako_phases.specs.Facets.{mutating}
use Rattle.mako_phases.specs.Steps.{PhaseOrderIn}
use Rattle.mako_state.specs.CoreStates.{front_after}
use Rattle.mako_state.specs.Says.{StageSays}
use Rattle.mako_state.specs.Standings.{stage_standing}
use Rattle.mako_state.specs.Works.{stage_work}
use Rattle.mako_state.proofs.Lists.{drop_at}
use Rattle.mako_state.proofs.Points.{own_reply}
use Rattle.mako_state.proofs.Words.{load_back}
use Rattle.mako_joint.specs.Joints.{JointScene, names_in, trace_in, layout_in, polls_in, TracksFit, Joint}
use Rattle.mako_ring.specs.Polling.{PollingStands}
use Rattle.mako_mutating.specs.MutatorFacets.{left_of, stage_trying, stage_trace, stage_admission, stage_held}
use Rattle.mako_mutating.specs.Mutators.{View, view_of, IsSeen, with_view, StageKeeps, RootsStand, MutatorKeeps}
use Rattle.mako_mutating.proofs.Stages.{stage_reads, stage_gates, stage_good, IsLoaded}
use Rattle.mako_mutating.proofs.Views.{Framed, joined, names_onward, names_answered, tracks_framed}

-- A scene, a mutator of it, and an attempt of one of its calls.
pub record Scene : Type 0 where
  pub n : Numbers
  pub w : Facts
  pub s : JointScene
  pub j : Joint n w s
  pub m : ℕ
  pub calls : List Call
  pub replies : List Reply
  pub done : ℕ
  pub call : Call
  pub last : Bool
  pub slot : ℕ

module _ (x : Scene) where
  abbrev pub k : Caller
  k = record { shape = x.n; mutator = x.m }

  abbrev pub attempt : ℕ → CallStage → Calling
  attempt slot s = record { caller = k; call = x.call; last = x.last; slot = slot; stage = s }

  -- before a step, and after one within the attempt
  abbrev pub driver : Bool → CallStage → Driving
  driver within s = record {
    caller = k;
    calls = x.calls;
    replies = x.replies;
    progress = record { done = x.done; within = within; task = Attempting (attempt x.slot s) };
  }

  abbrev pub after : ℕ → CallStage → Driving
  after slot s = record {
    caller = k;
    calls = x.calls;
    replies = x.replies ++ [];
    progress = record { done = x.done; within = true; task = Attempting (attempt slot s) };
  }

  -- after a step that tells this reply
  abbrev pub replied_at : CallStage → Reply → Driving
  replied_at t r = record {
    caller = k;
    calls = x.calls;
    replies = x.replies ++ r ∷ [];
    progress = record { done = x.done; within = true; task = Attempting (attempt x.slot t) };
  }

  -- after the step from one stage to another, whatever it tells
  abbrev pub fed_to : Bool → ℕ → CallStage → CallStage → Driving
  fed_to within slot s t = record {
    caller = k;
    calls = x.calls;
    replies = x.replies ++ told_reply (event_by x.m x.call (decided s) (decided t));
    progress = attempt_on k x.calls (record { done = x.done; within = within; task = Attempting (attempt x.slot s) })
        (attempt slot t) (outcome_in t);
  }

  -- all groups then, and what the mutator keeps
  abbrev pub Holds : List ℕ → Seen → Driving → Type 0
  Holds us front d = Joint x.n x.w (with_view x.s x.m us front (view_of d)) × MutatorKeeps x.n x.w us front x.m d

  abbrev pub Result : Bool → ℕ → CallStage → CallStage → List ℕ → Type 0
  Result within slot s t us =
      Holds us (front_after x.s.front [] (event_by x.m x.call (decided s) (decided t))) (fed_to within slot s t)

  -- the mutator is at this stage
  pub record At (within : Bool) (s : CallStage) : Type 0 where
    pub seen : IsSeen x.s x.m (view_of (driver within s))
    pub keeps : MutatorKeeps x.n x.w x.s.words x.s.front x.m (driver within s)

  abbrev pub heap : Heap
  heap = state_of x.w x.s.front.history

  abbrev pub st : State
  st = layout_in x.n x.w x.s

  -- ---- layouts
  -- a word is stored that no layout reads
  pub layout_stored : (p : Place) (v : ℕ) → Within x.n p → IsElsewhere p → IsNoGate p
      → Evacuation x.n (record st { words = λ q. word_at x.n (set x.s.words (index x.n p) v) q })
  layout_stored p v within elsewhere no_gate =
      let us : List ℕ = set x.s.words (index x.n p) v in
      let sets : Sets x.n st.words (λ q. word_at x.n us q) p v = record {
        here = word_same x.n x.s.words p v x.j.names.hold.size within;
        others = λ q low other. word_other x.n x.s.words p q v within low other;
      } in
      each_step_keeps x.n x.j.script.shape st x.m _ x.j.layout
      (outside x.m (λ q. word_at x.n us q) heap (λ t. words_made x.w t x.s.front.history)
      (places_are_apart.layout x.n st.words (λ q. word_at x.n us q) p v sets elsewhere)
      (places_are_apart.gates x.n st.words (λ q. word_at x.n us q) p v sets no_gate) (λ name. refl) (λ t. refl))

  -- a point is told that makes no object and writes no field
  pub layout_told : (us : List ℕ) (p : Point)
      → ((name : Name) → fields_of (heap_after heap p) name ≡ fields_of heap name)
      → ((t : ℕ) → words_by x.w t p ≡ 0)
      → Evacuation x.n (record st { words = λ q. word_at x.n us q })
      → Evacuation x.n
      (record (layout_in x.n x.w (record x.s { words = us; front = with_point x.s.front p })) {
        gates = x.s.facets.gates;
      })
  layout_told us p objects none kept =
      others_enter x.n (record st { words = λ q. word_at x.n us q }) kept x.w x.s.front.history
      (record { heap = refl; made = λ t. refl }) p objects none

  module _ (within : Bool) (s : CallStage) (at : At within s) where
    pub seat : evacuations.Seat st x.m (mutator_at x.m (stage_standing x.n s)) (stage_work x.n s)
    seat = record { gate = at.seen.gate; work = at.seen.work }

    abbrev pub before : View
    before = view_of (driver within s)

    -- what the mutator keeps, beside its roots
    pub keeps_after : (front : Seen) (us : List ℕ) (slot : ℕ) (t : CallStage) (replies : List Reply) (within_ : Bool)
        → let d : Driving = record {
          caller = k;
          calls = x.calls;
          replies = replies;
          progress = record { done = x.done; within = within_; task = Attempting (attempt slot t) };
        } in
        drivers.IsKnown d → StageSays (state_of x.w front.history) x.m x.call t
        → StageKeeps x.n (state_of x.w front.history) us x.m slot t
        → RootsStand x.n (state_of x.w front.history) us x.m d
        → replies ≡ replies_to x.m front.history
        → MutatorKeeps x.n x.w us front x.m d
    keeps_after front us slot t replies within_ known says counts roots are = record {
      known = known;
      shape = refl;
      number = refl;
      in_range = at.keeps.in_range;
      program = at.keeps.program;
      replies = are;
      says = says;
      counts = counts;
      roots = roots;
    }

    -- ---- a step within the attempt that tells nothing
    pub record Onwards (slot : ℕ) (t : CallStage) (us : List ℕ) : Type 0 where
      pub known : drivers.IsKnown (after slot t)
      pub says : StageSays heap x.m x.call t
      pub counts : StageKeeps x.n heap us x.m slot t
      pub names : NamesHoldIn x.n x.w (names_in (with_view x.s x.m us x.s.front (view_of (after slot t))))
      pub tracks : TracksFit (phase_of x.n us) x.n x.w
          (trace_in (with_view x.s x.m us x.s.front (view_of (after slot t))))
      pub polls : PollingStands x.n (polls_in x.n (record x.s { words = us }))
      pub order : PhaseOrderIn x.n
          (record { words = us; facets = set x.s.facets.phases x.m (mutating (stage_admission t)) })
      pub layout : Evacuation x.n (layout_in x.n x.w (with_view x.s x.m us x.s.front (view_of (after slot t))))
      pub roots : RootsStand x.n heap us x.m (after slot t)

    pub onward : (slot : ℕ) (t : CallStage) (us : List ℕ) → Onwards slot t us → Holds us x.s.front (after slot t)
    onward slot t us o = (
      joined x.n x.w x.s x.j x.m at.keeps.in_range before at.seen us x.s.front (view_of (after slot t)) (record {
        names = o.names;
        tracks = o.tracks;
        layout = o.layout;
        polls = o.polls;
        order = o.order;
        reads = stage_reads x.n t;
        gates = stage_gates x.n t;
      }),
      keeps_after x.s.front us slot t (x.replies ++ []) true o.known o.says o.counts o.roots
          (append-nil x.replies ∙ at.keeps.replies),
    )

    pub left_same : (slot : ℕ) (t : CallStage) → left_of (after slot t) ≡ left_of (driver within s)
    left_same slot t = ap (λ rs. drop (length rs) x.calls) (append-nil x.replies)

    -- where names have nothing to do but that other ones are to be used
    pub names_kept : (slot : ℕ) (t : CallStage) (us : List ℕ) → LeavesNames x.n x.s.words us
        → drivers.IsKnown (after slot t) → StageSays heap x.m x.call t → IsLoaded t
        → stage_trying x.n x.last x.call t ≡ stage_trying x.n x.last x.call s
        → NamesHoldIn x.n x.w (names_in (with_view x.s x.m us x.s.front (view_of (after slot t))))
    names_kept slot t us leaves known says loaded same =
        names_onward x.n x.w x.s x.j x.m at.keeps.in_range before at.seen us (view_of (after slot t)) leaves
        (stage_good x.w x.s.front.history x.j.names.hold.answers.lawful.legal x.m x.n x.call t
        known.progress.task.known.agrees says loaded) same (left_same slot t)

    -- a step that tracing sees nothing of, and whose words only frames read
    pub record Plainly (t : CallStage) (us : List ℕ) : Type 0 where
      pub known : drivers.IsKnown (after x.slot t)
      pub says : StageSays heap x.m x.call t
      pub counts : StageKeeps x.n heap us x.m x.slot t
      pub loaded : IsLoaded t
      pub framed : Framed x.n x.w x.s x.j x.m at.keeps.in_range before at.seen us
      pub trying : stage_trying x.n x.last x.call t ≡ stage_trying x.n x.last x.call s
      pub trace : stage_trace t ≡ stage_trace s
      pub order : PhaseOrderIn x.n
          (record { words = us; facets = set x.s.facets.phases x.m (mutating (stage_admission t)) })
      pub layout : Evacuation x.n (layout_in x.n x.w (with_view x.s x.m us x.s.front (view_of (after x.slot t))))
      pub roots : RootsStand x.n heap us x.m (after x.slot t)

    pub plainly : (t : CallStage) (us : List ℕ) → Plainly t us → Holds us x.s.front (after x.slot t)
    plainly t us p = onward x.slot t us (record {
      known = p.known;
      says = p.says;
      counts = p.counts;
      names = names_kept x.slot t us p.framed.leaves p.known p.says p.loaded p.trying;
      tracks = tracks_framed x.n x.w x.s x.j x.m at.keeps.in_range before at.seen us (stage_trace t) p.framed p.trace;
      polls = p.framed.polls;
      order = p.order;
      layout = p.layout;
      roots = p.roots;
    })

    -- ---- a load leaves the words
    pub loads : (i : ℕ) (front : Seen) (d : Driving) → Holds x.s.words front d
        → Holds (words_after (record { word = i; op = Load }) x.s.words) front d
    loads i front d holds = subst (λ us. Holds us front d) (sym (load_back x.s.words i)) holds

    -- ---- a step that answers the call, with a reply that makes no name
    -- the call is the next one that is left
    next_left : decided s ≡ None → drop (length x.replies) x.calls ≡ x.call ∷ drop (length x.replies + 1) x.calls
    next_left undecided =
        let known = at.keeps.known in
        let none : length x.replies ≡ x.done + 0 = known.replies ∙ ap (λ o. x.done + ahead o) undecided in
        drop_at x.calls (length x.replies) x.call
        (ap (slice_get x.calls) (let e : length x.replies ≡ x.done = omega arith in e) ∙ known.progress.task.call)

    left_after : (t : CallStage) (r : Reply)
        → left_of (driver within s) ≡ x.call ∷ drop (length x.replies + 1) x.calls
        → left_of (driver within s) ≡ x.call ∷ left_of (replied_at t r)
    left_after t r next =
        next ∙ ap (λ i. x.call ∷ drop i x.calls) (sym (length-append x.replies (r ∷ [])))

    pub record Answering (t : CallStage) (r : Reply) (us : List ℕ) : Type 0 where
      pub undecided : decided s ≡ None
      pub known : drivers.IsKnown (replied_at t r)
      pub says : StageSays (heap_after heap (Did x.m x.call r)) x.m x.call t
      pub counts : StageKeeps x.n (heap_after heap (Did x.m x.call r)) us x.m x.slot t
      pub lawful : IsLawful heap (Did x.m x.call r)
      pub plain : IsPlain r
      pub leaves : LeavesNames x.n x.s.words us
      pub no_names : stage_held t ≡ []
      pub nothing : stage_trying x.n x.last x.call t ≡ trying.Nothing
      pub tracks : TracksFit (phase_of x.n us) x.n x.w
          (trace_in
          (with_view x.s x.m us (with_point x.s.front (Did x.m x.call r)) (view_of (replied_at t r))))
      pub polls : PollingStands x.n (polls_in x.n (record x.s { words = us }))
      pub order : PhaseOrderIn x.n
          (record { words = us; facets = set x.s.facets.phases x.m (mutating (stage_admission t)) })
      pub layout : Evacuation x.n
          (layout_in x.n x.w
          (with_view x.s x.m us (with_point x.s.front (Did x.m x.call r)) (view_of (replied_at t r))))
      pub roots : RootsStand x.n (heap_after heap (Did x.m x.call r)) us x.m (replied_at t r)

    pub answers : (t : CallStage) (r : Reply) (us : List ℕ) → Answering t r us
        → Holds us (with_point x.s.front (Did x.m x.call r)) (replied_at t r)
    answers t r us a =
        let p : Point = Did x.m x.call r in
        let front : Seen = with_point x.s.front p in
        let heap_is = sym (state_push x.w x.s.front.history p) in (
          joined x.n x.w x.s x.j x.m at.keeps.in_range before at.seen us front (view_of (replied_at t r)) (record {
            names = names_answered x.n x.w x.s x.j x.m at.keeps.in_range before at.seen us (view_of (replied_at t r))
                x.call r a.leaves (left_after t r (next_left a.undecided)) (Plain x.call r a.plain a.lawful)
                a.no_names a.nothing;
            tracks = a.tracks;
            layout = a.layout;
            polls = a.polls;
            order = a.order;
            reads = stage_reads x.n t;
            gates = stage_gates x.n t;
          }),
          keeps_after front us x.slot t (x.replies ++ r ∷ []) true a.known
              (subst (λ h. StageSays h x.m x.call t) heap_is a.says)
              (subst (λ h. StageKeeps x.n h us x.m x.slot t) heap_is a.counts)
              (subst (λ h. RootsStand x.n h us x.m (replied_at t r)) heap_is a.roots)
              (ap (λ rs. rs ++ r ∷ []) at.keeps.replies ∙ sym (own_reply x.m x.call r x.s.front.history)),
        )
