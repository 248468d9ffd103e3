-- A server's facets of tracing, polls and the order of phases become others: how all groups are put together again.
use Rattle.std.proofs.Common.{◌≡◌, ℕ, inl, inr, ⊎_elim, Bool, List, set, slice_get, Some, sym, subst, refl, ◌∙◌}
use Rattle.std.proofs.lemmas.Bool.{cases_eq}
use Rattle.mako_words.specs.declared.name.Name.{Name}
use Rattle.mako_words.specs.declared.phase_word.PhaseWord.{PhaseWord}
use Rattle.mako_words.specs.declared.phase_word.PhaseWord.TheVariants.{Idle, Trace, Evac, Stop}
use Rattle.mako_shape.specs.declared.numbers.Numbers.{Numbers}
use Rattle.mako_shape.specs.Places.{Place, phase, index, Within, word_at}
use Rattle.mako_shape.proofs.PlaceLaws.{word_same, word_other}
use Rattle.mako_gate.specs.Changes.{Sets}
use Rattle.mako_gate.specs.Standings.{GateFacet}
use Rattle.mako_model.specs.Legal.{Facts}
use Rattle.mako_model.proofs.Lists.{get_set_same, get_set_other, get_set_cases}
use Rattle.mako_names.specs.Steps.{LeavesNames, NamesHoldIn, Stores, Puts, IsGoodWord}
use Rattle.mako_names.specs.Tables.{phase_of}
use Rattle.mako_names.specs.Uses.{IsUseSlot, IsNamePlace}
use Rattle.mako_names.proofs.StepsKept.{step_kept, leaves_others}
use Rattle.mako_names.proofs.Words.{phase_same}
use Rattle.mako_ring.specs.Facets.{ServerFacet}
use Rattle.mako_ring.specs.Polling.{PollingStands}
use Rattle.mako_ring.specs.TraceFacets as trace
use Rattle.mako_ring.specs.TraceFacets.{Work}
use Rattle.mako_shades.specs.Laws.{TracksIn}
use Rattle.mako_shades.specs.Steps.{TraceScene, TraceStep}
use Rattle.mako_shades.specs.Steps as shades
use Rattle.mako_shades.proofs.AllSteps as tracing
use Rattle.mako_shades.proofs.Lists.{set_twice}
use Rattle.mako_layout.specs.Evacuations.{Evacuation}
use Rattle.mako_layout.specs.Frames.{IsElsewhere, IsNoGate}
use Rattle.mako_layout.specs.Steps.{outside}
use Rattle.mako_layout.proofs.EachStep.{each_step_keeps}
use Rattle.mako_layout.proofs.Frames.{places_are_apart}
use Rattle.mako_phases.specs.Facets.{PhaseFacet, ServerStage, serving, mutating, collecting, Admission, Part}
use Rattle.mako_phases.specs.Orders.{PhaseOrder}
use Rattle.mako_joint.specs.Joints.{JointScene, names_in, trace_in, layout_in, TracksFit, IsClearing, GatesMatch}
use Rattle.mako_joint.specs.Joints.{ChoiceMatches, Joint}
use Rattle.mako_joint.proofs.Heaps.{heaps_stand}
use Rattle.mako_server.specs.Serving.{Serving as Machine}
use Rattle.mako_tracing.specs.ServerFacets.{servers_with, server_trace, server_gate, server_work, server_phase}
use Rattle.mako_tracing.specs.ServerFacets.{server_serving, IsServerSeat, with_server}
use Rattle.mako_tracing.proofs.Lists.{if_same}

-- the scene with these words, and these facets of a server's seat
abbrev pub scene_of : JointScene → ℕ → List ℕ → Work → PhaseFacet → ℕ → ServerFacet → JointScene
scene_of s seat words job f i g = record {
  words = words;
  front = s.front;
  facets = record s.facets {
    trace = set s.facets.trace seat (trace.serving job);
    servers = servers_with s.facets.servers i g;
    phases = set s.facets.phases seat f;
  };
}

-- ---- gates and choice beside another facet of a server

no_mutator : (server ended : ℕ) (stage : ServerStage) (laden : Bool) (a : Admission)
    → serving server stage ended laden ≡ mutating a → ⊥
no_mutator server ended stage laden a e = cc

no_collector : (server ended : ℕ) (stage : ServerStage) (laden : Bool) (part : Part) (pending : List Name)
    → serving server stage ended laden ≡ collecting part pending → ⊥
no_collector server ended stage laden part pending e = cc

pub gates_beside : (n : Numbers) (phases : List PhaseFacet) (gates : List GateFacet) → GatesMatch n phases gates
    → (seat server ended : ℕ) (stage : ServerStage) (laden : Bool) → (¬ IsClearing phases seat)
    → GatesMatch n (set phases seat (serving server stage ended laden)) gates
gates_beside n phases gates m seat server ended stage laden none = record {
  mutators = λ other a at.
      ⊎_elim (λ t. absurd (no_mutator server ended stage laden a t.1)) (λ t. m.mutators other a t.1)
      (get_set_cases phases seat other (serving server stage ended laden) (mutating a) at);
  collector = λ other part pending at paused.
      ⊎_elim (λ t. absurd (no_collector server ended stage laden part pending t.1))
      (λ t. m.collector other part pending t.1 paused)
      (get_set_cases phases seat other (serving server stage ended laden) (collecting part pending) at);
  servers = λ other t g at.
      ⊎_elim (λ none. inl none)
      (λ c. ⊎_elim (λ same. absurd (none (subst (IsClearing phases) same c)))
      (λ d. inr (record {
        server = c.server;
        cycle = c.cycle;
        tablet = c.tablet;
        at = c.at;
        ended = c.ended;
        laden = c.laden;
        is = get_set_other phases seat other (serving server stage ended laden) d ∙ c.is;
      })) (cases_eq other seat)) (m.servers other t g at);
}

pub choice_beside : (phases : List PhaseFacet) (s : JointScene) → ChoiceMatches phases s.facets.choice
    → (seat server ended : ℕ) (stage : ServerStage) (laden : Bool)
    → ChoiceMatches (set phases seat (serving server stage ended laden)) s.facets.choice
choice_beside phases s m seat server ended stage laden other part pending at =
    ⊎_elim (λ t. absurd (no_collector server ended stage laden part pending t.1)) (λ t. m other part pending t.1)
    (get_set_cases phases seat other (serving server stage ended laden) (collecting part pending) at)

-- ---- words

-- what names, layout and phase make of other words
pub record WordsKeep (n : Numbers) (w : Facts) (s : JointScene) (words : List ℕ) : Type 0 where
  pub names : NamesHoldIn n w (record { words = words; front = s.front; facets = s.facets.names })
  pub layout : Evacuation n (record (layout_in n w s) { words = λ p. word_at n words p })
  pub phase : phase_of n words ≡ phase_of n s.words

module _ (n : Numbers) (w : Facts) (s : JointScene) (j : Joint n w s) where
  pub words_same : WordsKeep n w s s.words
  words_same = record { names = j.names; layout = j.layout; phase = refl }

  module _ (p : Place) (v : ℕ) (within : Within n p) (off : IsElsewhere p) (no_gate : IsNoGate p) where
    abbrev us : List ℕ
    us = set s.words (index n p) v

    sets : Sets n (λ q. word_at n s.words q) (λ q. word_at n us q) p v
    sets = record {
      here = word_same n s.words p v j.names.hold.size within;
      others = λ q inside other. word_other n s.words p q v within inside other;
    }

    laid : Evacuation n (record (layout_in n w s) { words = λ q. word_at n us q })
    laid = each_step_keeps n j.script.shape (layout_in n w s) 0 _ j.layout
        (outside 0 (λ q. word_at n us q) (layout_in n w s).heap (layout_in n w s).made
        (places_are_apart.layout n _ _ p v sets off) (places_are_apart.gates n _ _ p v sets no_gate)
        (λ name. refl) (λ t. refl))

    -- a word in which no name is looked for
    pub words_elsewhere : (¬ IsNamePlace p) → WordsKeep n w s us
    words_elsewhere other =
        let leaves : LeavesNames n s.words us = leaves_others n s.words p v j.names.hold.size within other in record {
          names = step_kept n w (names_in s) _ j.script.facts (Stores us leaves) j.names;
          layout = laid;
          phase = phase_same n s.words us (leaves.same phase tt tt);
        }

    -- a slot
    pub words_slot : IsUseSlot p → IsGoodWord w s.front.history v → WordsKeep n w s us
    words_slot slot good = record {
      names = step_kept n w (names_in s) _ j.script.facts (Puts p v within slot good) j.names;
      layout = laid;
      phase = phase_same n s.words us (word_other n s.words p phase v within tt (λ e. subst IsUseSlot (sym e) slot));
    }

-- ---- all groups

-- what is kept of tracing, by phase
pub tracks_by : (n : Numbers) (w : Facts) (a b : TraceScene) (p : PhaseWord)
    → ((c : ℕ) → p ≡ Trace c → TracksIn n w c a → TracksIn n w c b) → TracksFit p n w a → TracksFit p n w b
tracks_by n w a b (Idle c) goes t = tt
tracks_by n w a b (Trace c) goes t = goes c refl t
tracks_by n w a b (Evac c) goes t = tt
tracks_by n w a b (Stop c) goes t = tt

module _ (n : Numbers) (w : Facts) (s : JointScene) (j : Joint n w s) (seat : ℕ) where
  pub assembled : (words : List ℕ) (job : Work) (server ended i : ℕ) (stage : ServerStage) (laden : Bool)
      (g : ServerFacet)
      → WordsKeep n w s words
      → TracksFit (phase_of n words) n w
      (record { words = words; facets = set s.facets.trace seat (trace.serving job); history = s.front.history })
      → PollingStands n (record {
        word = λ p. word_at n words p;
        server = servers_with s.facets.servers i g;
        collector = s.facets.collector;
      })
      → PhaseOrder n words (set s.facets.phases seat (serving server stage ended laden))
      → (¬ IsClearing s.facets.phases seat)
      → Joint n w (scene_of s seat words job (serving server stage ended laden) i g)
  assembled words job server ended i stage laden g keep tracks polls order none = record {
    script = j.script;
    names = keep.names;
    tracks = tracks;
    layout = keep.layout;
    polls = polls;
    order = order;
    reads = j.reads;
    gates = gates_beside n s.facets.phases s.facets.gates j.gates seat server ended stage laden none;
    choice = choice_beside s.facets.phases s j.choice seat server ended stage laden;
  }

-- then the facet of tracing alone changes once more
module _ (n : Numbers) (w : Facts) (s : JointScene) (seat : ℕ) (words : List ℕ) (job next : Work) (f : PhaseFacet)
    (i : ℕ) (g : ServerFacet) (old : trace.TraceFacet) (here : slice_get s.facets.trace seat ≡ Some old) where
  abbrev mid : JointScene
  mid = scene_of s seat words job f i g

  pub rejobbed : Joint n w mid
      → ((c : ℕ) → phase_of n words ≡ Trace c → shades.IsServing (trace_in mid) seat job
      → TraceStep n w c (trace_in mid) (shades.with_facet (trace_in mid) seat (trace.serving next)))
      → Joint n w (scene_of s seat words next f i g)
  rejobbed jm steps =
      let at : shades.IsServing (trace_in mid) seat job =
      get_set_same s.facets.trace seat (trace.serving job) old here in
      let once : set (set s.facets.trace seat (trace.serving job)) seat (trace.serving next)
      ≡ set s.facets.trace seat (trace.serving next) =
      set_twice s.facets.trace seat (trace.serving job) (trace.serving next) in
      record {
        script = jm.script;
        names = jm.names;
        tracks = subst
            (λ fs. TracksFit (phase_of n words) n w
            (record { words = words; facets = fs; history = s.front.history })) once
            (tracks_by n w (trace_in mid) (shades.with_facet (trace_in mid) seat (trace.serving next))
            (phase_of n words)
            (λ c e t. tracing.step_kept n w c (trace_in mid) _ (heaps_stand n w mid jm) t (steps c e at)) jm.tracks);
        layout = jm.layout;
        polls = jm.polls;
        order = jm.order;
        reads = jm.reads;
        gates = jm.gates;
        choice = jm.choice;
      }

-- the seat has the facets that were stored there
pub seated_after : (s : JointScene) (seat : ℕ) (v after : Machine) (words : List ℕ) → IsServerSeat s seat v
    → IsServerSeat (with_server s seat after words) seat after
seated_after s seat v after words here = record {
  trace = get_set_same s.facets.trace seat (server_trace after) (server_trace v) here.trace;
  gate = get_set_same s.facets.gates seat (server_gate seat after) (server_gate seat v) here.gate;
  work = get_set_same s.facets.works seat (server_work after) (server_work v) here.work;
  phase = get_set_same s.facets.phases seat (server_phase after) (server_phase v) here.phase;
  serving = if_same after.tracer.server after.tracer.server (server_serving after)
      (s.facets.servers after.tracer.server) refl;
}
