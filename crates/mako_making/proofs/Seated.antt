-- What ties the groups, once the seat of a mutator has made a step.
use Rattle.std.proofs.Common.{◌≡◌, ◌≢◌, ℕ, ◌+◌, ◌<◌, inl, inr, ⊎_elim, List, length, set, slice_get, Some, sym, ap}
use Rattle.std.proofs.Common.{subst, refl, ◌∙◌, arith}
use Rattle.mako_words.specs.declared.name.Name.{Name}
use Rattle.mako_shape.specs.declared.numbers.Numbers.{Numbers}
use Rattle.mako_shape.specs.Places.{Place, index, total, Within, word_at}
use Rattle.mako_shape.proofs.PlaceLaws.{word_other}
use Rattle.mako_gate.specs.Standings.{GateFacet, Standing, mutator_at, admitted_own, drained_by}
use Rattle.mako_model.specs.Fronts.{Seen}
use Rattle.mako_model.specs.Legal.{Facts}
use Rattle.mako_model.proofs.Lists.{get_set_same, get_set_other, get_set_cases}
use Rattle.mako_names.specs.Steps.{NamesHoldIn, LeavesNames}
use Rattle.mako_names.specs.Tables.{phase_of}
use Rattle.mako_names.specs.Uses.{IsNamePlace}
use Rattle.mako_names.proofs.StepsKept.{leaves_all, leaves_others}
use Rattle.mako_poll.specs.Steps.{Collected, Waits}
use Rattle.mako_poll.proofs.AllSteps.{steps_hold}
use Rattle.mako_ring.specs.Facets.{IsPolled}
use Rattle.mako_shades.specs.Holding.{IsTracePlace, AgreeOnTrace}
use Rattle.mako_shades.proofs.Words.{write_agrees}
use Rattle.mako_layout.specs.Facets.{Work, Choice}
use Rattle.mako_layout.specs.Evacuations.{Evacuation}
use Rattle.mako_layout.specs.Beside as beside
use Rattle.mako_layout.specs.Beside.{IsReading}
use Rattle.mako_phases.specs.Facets.{PhaseFacet, mutating, collecting, Admission, Part}
use Rattle.mako_phases.specs.Facets.{IsNotAdmitted}
use Rattle.mako_phases.specs.Steps.{PhaseOrderIn}
use Rattle.mako_joint.specs.Joints.{JointScene, names_in, trace_in, layout_in, polls_in, phases_in, TracksFit, HasName}
use Rattle.mako_joint.specs.Joints.{ReadsAreHeld, GatesMatch, ChoiceMatches, Joint}
use Rattle.mako_mutating.specs.Mutators.{IsSeen, View, with_view}

-- ---- words that names, tracing and polls do not read

pub record Quiet (n : Numbers) (ws us : List ℕ) : Type 0 where
  pub leaves : LeavesNames n ws us
  pub agrees : AgreeOnTrace n ws us
  pub polled : (p : Place) → IsPolled p → Within n p → word_at n us p ≡ word_at n ws p

pub quiet_all : (n : Numbers) (ws : List ℕ) → length ws ≡ total n → Quiet n ws ws
quiet_all n ws size = record {
  leaves = leaves_all n ws size;
  agrees = λ p is within. refl;
  polled = λ p is within. refl;
}

-- a place that none of them reads
pub record IsQuietPlace (p : Place) : Type 0 where
  pub names : IsNamePlace p → ⊥
  pub trace : IsTracePlace p → ⊥
  pub polled : IsPolled p → ⊥

pub quiet_at : (n : Numbers) (ws : List ℕ) (p : Place) (v : ℕ) → length ws ≡ total n → Within n p → IsQuietPlace p
    → Quiet n ws (set ws (index n p) v)
quiet_at n ws p v size within q = record {
  leaves = leaves_others n ws p v size within q.names;
  agrees = write_agrees n ws p v within q.trace;
  polled = λ r is inside. word_other n ws p r v within inside (λ e. q.polled (subst IsPolled e is));
}

-- ---- the ties

pub no_pair : (a : Admission) (part : Part) (pending : List Name) → mutating a ≡ collecting part pending → ⊥
no_pair a part pending e = cc

pub same_admission : (a b : Admission) → mutating a ≡ mutating b → a ≡ b
same_admission a b e = ap admission_in e
  where
    admission_in : PhaseFacet → Admission
    admission_in (mutating c) = c
    admission_in f = a

module _ (n : Numbers) (m : ℕ) (low : m < n.mutators) where
  -- other seats keep their names
  held_else : (held : List (List Name)) (names : List Name) (i x : ℕ) → i ≢ m → HasName held i x
      → HasName (set held m names) i x
  held_else held names i x other has = record {
    names = has.names;
    name = has.name;
    at = get_set_other held m i names other ∙ has.at;
    among = has.among;
    of_entry = has.of_entry;
  }

  pub reads_kept : (held : List (List Name)) (works : List Work) (names : List Name) (u : Work)
      → (IsReading u → ⊥) → ReadsAreHeld held works → ReadsAreHeld (set held m names) (set works m u)
  reads_kept held works names u none all i v at reading =
      ⊎_elim
      (λ t. absurd (none (subst IsReading (sym t.1) reading)))
      (λ t. held_else held names i (beside.entry_of v) t.0 (all i v t.1 reading)) (get_set_cases works m i u v at)

  module _ (phases : List PhaseFacet) (gates : List GateFacet) (was : Admission) (stood : Standing) (a : Admission)
      (p : Standing) (here : slice_get phases m ≡ Some (mutating was))
      (there : slice_get gates m ≡ Some (mutator_at m stood)) where
    pub gates_kept : (admitted_own p ≡ 0 → IsNotAdmitted a) → GatesMatch n phases gates
        → GatesMatch n (set phases m (mutating a)) (set gates m (mutator_at m p))
    gates_kept out match = record {
      mutators =
          λ i b at. ⊎_elim
          (λ t. record {
            gate = mutator_at m p;
            here = ap (slice_get (set gates m (mutator_at m p))) t.0 ∙ get_set_same gates m (mutator_at m p)
                (mutator_at m stood) there;
            number = low;
            outside = λ z. subst IsNotAdmitted (same_admission a b t.1) (out z);
          })
          (λ t. let o = match.mutators i b t.1 in record {
            gate = o.gate;
            here = get_set_other gates m i (mutator_at m p) t.0 ∙ o.here;
            number = o.number;
            outside = o.outside;
          }) (get_set_cases phases m i (mutating a) (mutating b) at);
      collector =
          λ i part pending at paused. ⊎_elim
          (λ t. absurd (no_pair a part pending t.1))
          (λ t. let o = match.collector i part pending t.1 paused in record {
            gate = o.gate;
            here = get_set_other gates m (n.mutators + n.servers) (mutator_at m p) (λ e. omega arith) ∙ o.here;
            drained = o.drained;
          }) (get_set_cases phases m i (mutating a) (collecting part pending) at);
      servers =
          λ i t g at. ⊎_elim
          (λ e. inl (ap (λ (h : GateFacet). drained_by t h.watch) (sym e.1)))
          (λ e. ⊎_elim (λ z. inl z)
          (λ c. inr (record {
            server = c.server;
            cycle = c.cycle;
            tablet = c.tablet;
            at = c.at;
            ended = c.ended;
            laden = c.laden;
            is = get_set_other phases m i (mutating a) e.0 ∙ c.is;
          })) (match.servers i t g e.1)) (get_set_cases gates m i (mutator_at m p) g at);
    }

  pub choice_kept : (phases : List PhaseFacet) (a : Admission) (k : Choice) → ChoiceMatches phases k
      → ChoiceMatches (set phases m (mutating a)) k
  choice_kept phases a k match i part pending at =
      ⊎_elim (λ t. absurd (no_pair a part pending t.1)) (λ t. match i part pending t.1)
      (get_set_cases phases m i (mutating a) (collecting part pending) at)

-- ---- the whole

-- what a step of the mutator's seat owes: each group after it, and what ties the groups to the seat
pub record Owes (n : Numbers) (w : Facts) (s : JointScene) (m : ℕ) (us : List ℕ) (front : Seen)
    (g : View) : Type 0 where
  pub names : NamesHoldIn n w (names_in (with_view s m us front g))
  pub tracks : TracksFit (phase_of n us) n w (trace_in (with_view s m us front g))
  pub layout : Evacuation n (layout_in n w (with_view s m us front g))
  pub polled : (p : Place) → IsPolled p → Within n p → word_at n us p ≡ word_at n s.words p
  pub order : PhaseOrderIn n (phases_in (with_view s m us front g))
  pub unread : IsReading g.work → ⊥
  pub out : admitted_own g.standing ≡ 0 → IsNotAdmitted g.admission

module _ (n : Numbers) (w : Facts) (s : JointScene) (j : Joint n w s) (m : ℕ) (low : m < n.mutators)
    (f : View) (here : IsSeen s m f) where
  pub seat_goes : (us : List ℕ) (front : Seen) (g : View) → Owes n w s m us front g
      → Joint n w (with_view s m us front g)
  seat_goes us front g o = record {
    script = j.script;
    names = o.names;
    tracks = o.tracks;
    layout = o.layout;
    polls = steps_hold n (polls_in n s) (polls_in n (with_view s m us front g)) j.polls
        (Collected s.facets.collector (record { here = refl; servers = λ i l. refl }) (Waits o.polled refl));
    order = o.order;
    reads = reads_kept n m low s.facets.names.held s.facets.works g.held g.work o.unread j.reads;
    gates = gates_kept n m low s.facets.phases s.facets.gates f.admission f.standing g.admission g.standing here.phase
        here.gate o.out j.gates;
    choice = choice_kept n m low s.facets.phases g.admission s.facets.choice j.choice;
  }
