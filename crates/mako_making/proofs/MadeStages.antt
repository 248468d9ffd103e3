-- The stages of a new once its entry is written: the root is stored, and the turn given back.
use Rattle.std.proofs.Common.{◌≡◌, ℕ, ◌+◌, ◌<◌, true, List, [], ◌∷◌, set, Option, None, sym, subst, refl, arith}
use Rattle.std.specs.List.{Contains}
use Rattle.mako_words.specs.declared.name.Name.{Name}
use Rattle.mako_words.specs.declared.value.Value.TheVariants.{Ref}
use Rattle.mako_words.specs.Entries.{entry_word}
use Rattle.mako_words.specs.Values.{value_word}
use Rattle.mako_shape.specs.declared.numbers.Numbers.{Numbers}
use Rattle.mako_shape.specs.Places.{phase, root, entry, turn, region_word, index, word_at}
use Rattle.mako_gate.specs.GateActions as gate
use Rattle.mako_gate.specs.Standings.{at_tablet, with_turn}
use Rattle.mako_step.specs.Acts.{words_after}
use Rattle.mako_step.specs.declared.act.Op.TheVariants.{Store}
use Rattle.mako_model.specs.declared.attempt.Pause.{Pause as Reason}
use Rattle.mako_model.specs.declared.call.Call.{Call}
use Rattle.mako_model.specs.declared.call.Call.TheVariants as call
use Rattle.mako_model.specs.declared.reply.Reply.TheVariants as reply
use Rattle.mako_model.specs.Legal.{Facts, state_of}
use Rattle.mako_alloc.specs.declared.progress.NewStage.TheVariants.{Making}
use Rattle.mako_alloc.specs.declared.progress.NewRecord.{NewRecord}
use Rattle.mako_alloc.specs.declared.progress.Part.TheVariants.{Entry}
use Rattle.mako_call.specs.declared.call_stage.CallStage.{CallStage}
use Rattle.mako_call.specs.declared.call_stage.CallStage.TheVariants.{Allocating}
use Rattle.mako_call.specs.declared.allocating.AllocStage.TheVariants.{StoringRoot, GivingTurn as GivingNewTurn}
use Rattle.mako_names.specs.Steps.{NameScene, NamesHoldIn, Holds, Stores}
use Rattle.mako_names.specs.Trying as trying
use Rattle.mako_names.specs.Trying.{Trying}
use Rattle.mako_names.proofs.StepsKept.{step_kept}
use Rattle.mako_names.proofs.Words.{phase_same}
use Rattle.mako_ring.specs.TraceFacets.{apart}
use Rattle.mako_layout.specs.Facets.{idle, counts}
use Rattle.mako_layout.proofs.Outside.{outside_kept}
use Rattle.mako_phases.specs.Facets.{inside}
use Rattle.mako_phases.specs.Steps as phases
use Rattle.mako_phases.specs.Steps.{PhaseOrderIn}
use Rattle.mako_joint.specs.Joints.{JointScene, names_in, layout_in, phases_in, Joint}
use Rattle.mako_state.proofs.Gates.{a_turn}
use Rattle.mako_state.proofs.Seating.{set_again}
use Rattle.mako_state.proofs.Words.{IsOffLayout, stored_off_layout, stored_off_gates}
use Rattle.mako_mutating.specs.Mutators.{IsSeen, View, with_view}
use Rattle.mako_making.specs.Makings.{IsAt}
use Rattle.mako_making.proofs.Placed.{NextKeeps}
use Rattle.mako_making.proofs.Publishing.{publishes}
use Rattle.mako_making.proofs.Recording.{knows_nothing}
use Rattle.mako_making.proofs.Seated.{IsQuietPlace, Quiet, quiet_at, seat_goes}
use Rattle.mako_making.proofs.SeatKinds.{order_by, same_phases, tracks_go, laid_neither}
use Rattle.mako_making.proofs.Searches.{y, know, seeking, present, AtStage}
use Rattle.mako_making.proofs.Seeking.{in_with, as_before, acts_at, makes, unseen_turn}
use Rattle.mako_making.proofs.Trials.{Trial, driver, Goal, left, left_past, left_same, left_next}

none_in : (k : Name) → Contains [] k → ⊥
none_in k has = let less = has.1 in omega arith

-- ---- the entry

module _ (x : Trial) (q f c passed : ℕ) (note : Option Reason) (made : NewRecord) where
  abbrev name : Name
  name = made.name

  abbrev t : ℕ
  t = present x q f c passed

  abbrev stage : CallStage
  stage = seeking x q f c passed note (Making made Entry)

  abbrev done : CallStage
  done = Allocating (StoringRoot q name t)

  -- the entry of a record at this word of its region
  abbrev published_at : ℕ → List ℕ
  published_at o = set x.s.words (index x.n (entry name.entry)) (entry_word (record {
    taken = true;
    generation = name.generation;
    epoch = c;
    address = index x.n (region_word made.home o);
  }))

  pub entry_stored : AtStage x q f c passed note (Making made Entry)
      → NextKeeps x.n x.w x.s x.m (driver (y x q f c) stage)
  entry_stored at =
      let z = y x q f c in
      let known = at.known.progress.task.known in
      let l = left_past z (reply.Made name) in
      let here : IsSeen x.s x.m (in_with (with_turn t) (counts name made.home made.top (f + 1))
      trying.Nothing (call.New q f ∷ l)) =
      subst (λ k. IsSeen x.s x.m (in_with (with_turn t) (counts name made.home made.top (f + 1)) k
      (call.New q f ∷ l))) (knows_nothing x q f c passed note made Entry)
      (subst (λ k. IsSeen x.s x.m (in_with (with_turn t) (counts name made.home made.top (f + 1))
      (know x q f c passed note (Making made Entry)) k))
      (left_next z stage at.known refl (reply.Made name)) at.here) in
      let same : made.top ≡ made.top + 0 = omega arith in
      subst (λ o. Goal z stage done (published_at o)) same
      (record {
        joint = publishes x.n x.w x.s x.joint x.m x.low q f c name made.home made.top t trying.Nothing l here
            known.stage.0 known.stage.1.stage.0.name.1 at.keeps.cycle;
        keeps = tt;
      })

-- ---- the root

root_off : (m q : ℕ) → IsOffLayout (root m q)
root_off m q = record {
  not_phase = λ e. omega arith;
  not_home = λ e. omega arith;
  not_top = λ e. omega arith;
  not_leaving = λ e. omega arith;
  not_entry = λ e. omega arith;
  not_region = λ e. omega arith;
}

quiet_root : (m q : ℕ) → IsQuietPlace (root m q)
quiet_root m q = record { names = λ e. e; trace = λ e. e; polled = λ e. e }

module _ (n : Numbers) (w : Facts) (s : JointScene) (j : Joint n w s) (m : ℕ) (low : m < n.mutators) (q v t : ℕ)
    (name : Name) (left : List Call) (in_row : q < n.roots) where
  abbrev holding : View
  holding = record {
    standing = with_turn t;
    work = idle;
    trace = apart;
    admission = inside None;
    held = name ∷ [];
    trying = trying.Nothing;
    left = left;
  }

  abbrev bare : View
  bare = in_with (with_turn t) idle trying.Nothing left

  abbrev us : List ℕ
  us = set s.words (index n (root m q)) v

  module _ (here : IsSeen s m holding) where
    quiet : Quiet n s.words us
    quiet = quiet_at n s.words (root m q) v j.names.hold.size (low, in_row) (quiet_root m q)

    abbrev dropped : NameScene
    dropped = record (names_in s) { facets = record s.facets.names { held = set s.facets.names.held m [] } }

    named : NamesHoldIn n w (names_in (with_view s m us s.front bare))
    named =
        subst (λ l. NamesHoldIn n w (record {
          words = us;
          front = s.front;
          facets = record s.facets.names {
            held = set s.facets.names.held m [];
            trying = set s.facets.names.trying m trying.Nothing;
            left = l;
          };
        })) (sym (set_again s.facets.names.left m left here.left))
        (subst (λ l. NamesHoldIn n w (record {
          words = us;
          front = s.front;
          facets = record s.facets.names { held = set s.facets.names.held m []; trying = l };
        })) (sym (set_again s.facets.names.trying m trying.Nothing here.trying))
        (step_kept n w dropped (record dropped { words = us }) j.script.facts (Stores us quiet.leaves)
        (step_kept n w (names_in s) dropped j.script.facts (Holds m [] (λ k has. absurd (none_in k has))) j.names)))

    ordered : PhaseOrderIn n (phases_in (with_view s m us s.front bare))
    ordered =
        subst (λ l. PhaseOrderIn n (record { words = us; facets = l }))
        (sym (same_phases n w s j m low holding here bare refl))
        (order_by n w s j m low holding here (record { words = us; facets = s.facets.phases })
        (phases.StoresRoot m None m q v here.phase (low, in_row) refl))

    pub root_goes : Joint n w (with_view s m us s.front bare)
    root_goes = seat_goes n w s j m low holding here us s.front bare (record {
      names = named;
      tracks = tracks_go n w s j m low holding here us quiet.agrees
          (phase_same n s.words us (quiet.leaves.same phase tt tt)) bare refl;
      layout = laid_neither n w s j m low holding here us s.front bare refl refl
          (outside_kept n (layout_in n w s) j.layout (λ p. word_at n us p) (state_of w s.front.history)
          (stored_off_layout n s.words (root m q) v (low, in_row) (root_off m q))
          (stored_off_gates n s.words (root m q) v (low, in_row) (λ e. omega arith) (λ e. omega arith)
          (λ e. omega arith)) (λ k. refl));
      polled = quiet.polled;
      order = ordered;
      unread = λ e. e;
      out = λ z. omega arith;
    })

module _ (x : Trial) (name : Name) (t : ℕ) where
  pub root_stored : (q : ℕ) → IsAt x.n x.s x.m (driver x (Allocating (StoringRoot q name t)))
      → NextKeeps x.n x.w x.s x.m (driver x (Allocating (StoringRoot q name t)))
  root_stored q at =
      let v = value_word (Ref name) in
      record {
        joint = subst (λ l. Joint x.n x.w (with_view x.s x.m (set x.s.words (index x.n (root x.m q)) v) x.s.front
            (in_with (with_turn t) idle trying.Nothing l))) (left_same x)
            (root_goes x.n x.w x.s x.joint x.m x.low q v t name (left x) at.known.progress.task.known.stage.0
            at.here);
        keeps = tt;
      }

  pub turn_given : IsAt x.n x.s x.m (driver x (Allocating (GivingNewTurn name t)))
      → NextKeeps x.n x.w x.s x.m (driver x (Allocating (GivingNewTurn name t)))
  turn_given at =
      let low = at.known.progress.task.known.stage in
      let us = words_after (record { word = index x.n (turn t); op = Store 0 }) x.s.words in
      record {
        joint = subst (λ l. Joint x.n x.w (with_view x.s x.m us x.s.front
            (in_with (at_tablet t) idle trying.Nothing l))) (left_same x)
            (acts_at x.n x.w x.s x.joint x.m x.low (with_turn t) idle trying.Nothing (left x) at.here (turn t)
            (Store 0) (at_tablet t) trying.Nothing low (unseen_turn t) (a_turn t) refl refl
            (as_before x.n x.w x.s x.joint x.m x.low (with_turn t) idle trying.Nothing (left x) at.here)
            (gate.gives_turn x.m t x.low low
            (makes x.n x.w x.s x.joint x.m x.low (with_turn t) idle trying.Nothing (left x) at.here (turn t)
            (Store 0) low)));
        keeps = tt;
      }
