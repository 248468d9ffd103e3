-- An attempt without room leaves its gate: the last one is answered, and after another the mutator waits for a cycle.
use Rattle.std.proofs.Common.{◌≡◌, ℕ, ◌+◌, ◌*◌, ◌<◌, inl, Bool, true, false, List, [], ◌∷◌, ◌++◌, length, set}
use Rattle.std.proofs.Common.{slice_get, None, sym, ap, subst, refl, arith}
use Rattle.mako_shape.specs.declared.numbers.Numbers.{Numbers}
use Rattle.mako_shape.specs.Places.{mutator_gate, index, word_at}
use Rattle.mako_gate.specs.GateActions as gate
use Rattle.mako_gate.specs.Standings.{away, inside, mutator_at}
use Rattle.mako_gate.proofs.Changes.{acts_make}
use Rattle.mako_step.specs.Acts.{after_op, words_after}
use Rattle.mako_step.specs.declared.act.Op.TheVariants.{Sub}
use Rattle.mako_model.specs.declared.attempt.Attempt.TheVariants.{Answer, Full as NoRoom, Pause as Paused}
use Rattle.mako_model.specs.declared.call.Call.{Call}
use Rattle.mako_model.specs.declared.call.Call.TheVariants as call
use Rattle.mako_model.specs.declared.reply.Reply.TheVariants as reply
use Rattle.mako_model.specs.declared.point.Point.TheVariants.{Did}
use Rattle.mako_model.specs.Fronts.{with_point}
use Rattle.mako_model.specs.Legal.{Facts, state_of}
use Rattle.mako_model.specs.Lawful.{HasRoot}
use Rattle.mako_model.proofs.RootRows.{has_roots}
use Rattle.mako_call.specs.declared.call_stage.CallStage.{CallStage}
use Rattle.mako_call.specs.declared.call_stage.CallStage.TheVariants.{Arriving, Rooting, Entering, Moving, Getting}
use Rattle.mako_call.specs.declared.call_stage.CallStage.TheVariants.{Putting, Allocating, Asking, Leaving, Ended}
use Rattle.mako_call.specs.declared.asking.AskStage.TheVariants.{LoadingPhase as AskPhase}
use Rattle.mako_call.specs.declared.leaving.LeaveStage.TheVariants.{Refused, TurnedAway, FromTablet, FromOwn}
use Rattle.mako_mutator.specs.declared.progress.Task.{Task}
use Rattle.mako_mutator.specs.declared.progress.Task.TheVariants.{Attempting, Awaiting, Finishing, Ended as TaskEnded}
use Rattle.mako_call.specs.Agreeing.{IsNew, asked_of}
use Rattle.mako_call.specs.Calls.{first_stage}
use Rattle.mako_mutator.specs.Drivers.{Driving}
use Rattle.mako_names.specs.Steps.{Starves}
use Rattle.mako_names.specs.Trying as trying
use Rattle.mako_names.specs.Trying.{Trying}
use Rattle.mako_layout.specs.Facets.{idle}
use Rattle.mako_layout.specs.Evacuations.{Evacuation}
use Rattle.mako_layout.specs.Steps.Step.{acts}
use Rattle.mako_layout.proofs.EachStep.{each_step_keeps}
use Rattle.mako_phases.specs.Facets.{mutating}
use Rattle.mako_phases.specs.Facets as phase
use Rattle.mako_phases.specs.Steps as phases
use Rattle.mako_phases.specs.Steps.{PhaseOrderIn}
use Rattle.mako_joint.specs.Joints.{JointScene, layout_in, Joint}
use Rattle.mako_state.proofs.Ends.{full_asks}
use Rattle.mako_state.proofs.Gates.{own_gate}
use Rattle.mako_state.proofs.Words.{stored_off_layout}
use Rattle.mako_mutating.specs.Mutators.{IsSeen, View, view_of, with_view}
use Rattle.mako_making.specs.Makings.{IsAt}
use Rattle.mako_making.proofs.Placed.{StepsHold, AllHold, NextKeeps}
use Rattle.mako_making.specs.Stages.{AttemptsFilled, LeavesFilled}
use Rattle.mako_making.proofs.Asking.{out_with}
use Rattle.mako_making.proofs.Seated.{IsQuietPlace, Quiet, quiet_at}
use Rattle.mako_making.proofs.SeatKinds.{order_by, laid, laid_gate, retold, not_tried, goes, says}
use Rattle.mako_making.proofs.Seeking.{in_with}
use Rattle.mako_making.proofs.Tasks.{trial, of_attempt}
use Rattle.mako_making.proofs.Trials.{Trial, k, driver, left, left_past, left_then, left_same, left_next, nothing_yet}
use Rattle.mako_making.proofs.Trials.{follows}

quiet_own : (m : ℕ) → IsQuietPlace (mutator_gate m)
quiet_own m = record { names = λ e. e; trace = λ e. e; polled = λ e. e }

-- ---- the seat leaves its gate
module _ (n : Numbers) (w : Facts) (s : JointScene) (j : Joint n w s) (m : ℕ) (low : m < n.mutators) where
  abbrev pub out : List ℕ
  out = words_after (record { word = index n (mutator_gate m); op = Sub 1 }) s.words

  quiet : Quiet n s.words out
  quiet = quiet_at n s.words (mutator_gate m) (after_op (Sub 1) (word_at n s.words (mutator_gate m)))
      j.names.hold.size low (quiet_own m)

  module _ (t : Trying) (l l' : List Call) (here : IsSeen s m (in_with inside idle t l)) where
    abbrev f : View
    f = in_with inside idle t l

    abbrev g : View
    g = out_with phase.outside trying.Nothing l'

    gone : Evacuation n (laid n w s out s.front (set s.facets.gates m (mutator_at m away)) s.facets.works)
    gone = each_step_keeps n j.script.shape (layout_in n w s) m _ j.layout
        (acts (λ r. word_at n out r) m (mutator_at m inside) (mutator_at m away)
        (record { gate = here.gate; work = here.work })
        (gate.departs m low (acts_make n s.words (mutator_gate m) (Sub 1) j.names.hold.size low))
        (stored_off_layout n s.words (mutator_gate m) (after_op (Sub 1) (word_at n s.words (mutator_gate m))) low
        (own_gate m).off) (λ r. refl) (inl (λ e. omega arith)))

    ordered : PhaseOrderIn n (record { words = out; facets = set s.facets.phases m (mutating phase.outside) })
    ordered = order_by n w s j m low f here
        (record { words = out; facets = set s.facets.phases m (mutating phase.outside) })
        (phases.Leaves m None (mutator_gate m) (after_op (Sub 1) (word_at n s.words (mutator_gate m))) low (λ e. e)
        here.phase refl)

    -- after an attempt that was not the last nothing is told
    pub waits_then : l' ≡ l → t ≡ trying.Nothing → Joint n w (with_view s m out s.front g)
    waits_then same nothing = goes n w s j m low f here out g (record {
      quiet = quiet;
      held = refl;
      left = same;
      trace = refl;
      names = not_tried n w s j m low f here trying.Nothing (sym nothing);
      layout = laid_gate n w s j m low f here out s.front g refl gone;
      order = ordered;
      unread = λ e. e;
      out = λ z. tt;
    })

  -- after the last one, which has gone over all tablets, the call is answered
  pub starves_then : (q fields : ℕ) (l : List Call)
      → IsSeen s m (in_with inside idle (trying.Last fields w.tablets 0) (call.New q fields ∷ l)) → q < n.roots
      → Joint n w (with_view s m out (with_point s.front (Did m (call.New q fields) reply.Full))
      (out_with phase.outside trying.Nothing l))
  starves_then q fields l here in_row =
      let t = trying.Last fields w.tablets 0 in
      let c = call.New q fields in
      let was : View = in_with inside idle t (c ∷ l) in
      let then_ : View = out_with phase.outside trying.Nothing l in
      let facts = j.script.facts in
      let in_programs : m < length w.programs = subst (λ z. m < z) (sym facts.mutators) low in
      let in_roots : q < w.roots = subst (λ z. q < z) (sym facts.roots) in_row in
      let has : HasRoot (state_of w s.front.history) m q =
      (has_roots w s.front.history j.names.hold.answers.lawful.legal).each m q in_programs in_roots in
      says n w s j m low was here out c reply.Full then_ (record {
        quiet = quiet;
        held = refl;
        left = refl;
        trace = refl;
        nothing = refl;
        decision = Starves q fields in_programs in_roots here.trying;
        lawful = has;
        objects = tt;
        layout = laid_gate n w s j m low was here out (with_point s.front (Did m c reply.Full)) then_ refl
            (retold n w s j m low was here (Did m c reply.Full) out (set s.facets.gates m (mutator_at m away))
            s.facets.works (λ name. refl) (λ tablet. refl) (gone t (c ∷ l) l here));
        order = ordered t (c ∷ l) l here;
        unread = λ e. e;
        out = λ z. tt;
      })

-- ---- the stage

module _ (x : Trial) where
  abbrev full : CallStage
  full = Leaving (FromOwn NoRoom)

  -- what a mutator is that waits for a cycle, from this stage on
  abbrev waits_at : CallStage → Driving
  waits_at st = record {
    caller = k x;
    calls = x.calls;
    replies = x.replies ++ [];
    progress = record {
      done = x.done;
      within = true;
      task = Awaiting (record { caller = k x; call = call.Collect; last = false; slot = x.slot; stage = st });
    };
  }

  goes_to_wait : (here : IsSeen x.s x.m (in_with inside idle trying.Nothing (left x)))
      → AllHold x.n x.w (with_view x.s x.m (out x.n x.w x.s x.joint x.m x.low) x.s.front
      (view_of (waits_at (first_stage call.Collect (asked_of x.call NoRoom)))))
      (waits_at (first_stage call.Collect (asked_of x.call NoRoom)))
  goes_to_wait here =
      let us = out x.n x.w x.s x.joint x.m x.low in
      let is : first_stage call.Collect (asked_of x.call NoRoom) ≡ Asking AskPhase =
      ap (first_stage call.Collect) (full_asks x.call) in
      subst (λ st. AllHold x.n x.w (with_view x.s x.m us x.s.front (view_of (waits_at st))) (waits_at st)) (sym is)
      (record {
        joint = waits_then x.n x.w x.s x.joint x.m x.low trying.Nothing (left x) (left_then x) here
            (sym (left_same x)) refl;
        keeps = tt;
      })

module _ (x : Trial) where
  -- by what the attempt was
  filled_by : (last : Bool) → x.last ≡ last → (q fields : ℕ) → x.call ≡ call.New q fields
      → IsAt x.n x.s x.m (driver (record x { call = call.New q fields; last = last }) (full x))
      → NextKeeps x.n x.w x.s x.m (driver (record x { call = call.New q fields; last = last }) (full x))
  filled_by true e q fields is at =
      let z : Trial = record x { call = call.New q fields; last = true } in
      let l = left_past z reply.Full in
      let all = x.joint.script.facts.tablets in
      let o = slice_get x.calls (x.done + 1) in
      let us = out x.n x.w x.s x.joint x.m x.low in
      let front = with_point x.s.front (Did x.m (call.New q fields) reply.Full) in
      let here : IsSeen x.s x.m (in_with inside idle (trying.Last fields x.w.tablets 0) (call.New q fields ∷ l)) =
      subst (λ c. IsSeen x.s x.m (in_with inside idle (trying.Last fields c 0) (call.New q fields ∷ l))) (sym all)
      (subst (λ c. IsSeen x.s x.m (in_with inside idle
      (trying.Last fields (x.n.servers * x.n.tablets) 0) c)) (left_next z (full x) at.known refl reply.Full) at.here) in
      follows z (x.done + 1) false false (x.replies ++ reply.Full ∷ []) o reply.Full us front
      (subst (λ u. Joint x.n x.w (with_view x.s x.m us front (out_with phase.outside u l))) (sym (nothing_yet o))
      (starves_then x.n x.w x.s x.joint x.m x.low q fields l here at.known.progress.task.known.call.0))
  filled_by false e q fields is at =
      goes_to_wait (record x { call = call.New q fields; last = false }) at.here

  filled_kept : (c : Call) → IsNew c → x.call ≡ c → IsAt x.n x.s x.m (driver x (full x))
      → NextKeeps x.n x.w x.s x.m (driver x (full x))
  filled_kept (call.New q fields) new is at =
      subst (λ d. IsAt x.n x.s x.m (driver (record x { call = d }) (full x))
      → NextKeeps x.n x.w x.s x.m (driver (record x { call = d }) (full x))) (sym is)
      (filled_by x.last refl q fields is) at
  filled_kept (call.Num root number) new is at = absurd new
  filled_kept (call.CopyRoot to from) new is at = absurd new
  filled_kept (call.DropRoot root) new is at = absurd new
  filled_kept (call.Get to from field) new is at = absurd new
  filled_kept (call.Put to field from) new is at = absurd new
  filled_kept (call.Show root) new is at = absurd new
  filled_kept call.Collect new is at = absurd new

pub full_kept : StepsHold AttemptsFilled
full_kept n w s m d j is these = by d.progress.task refl these
  where
    at : (x : Trial) (st : CallStage) → LeavesFilled st → IsAt x.n x.s x.m (driver x st)
        → NextKeeps x.n x.w x.s x.m (driver x st)
    at x (Leaving (FromOwn NoRoom)) here is = filled_kept x x.call is.known.progress.task.known.agrees refl is
    at x (Leaving (FromOwn (Answer r))) here is = absurd here
    at x (Leaving (FromOwn (Paused r))) here is = absurd here
    at x (Leaving (FromTablet t o)) here is = absurd here
    at x (Leaving (Refused v)) here is = absurd here
    at x (Leaving (TurnedAway t v)) here is = absurd here
    at x Arriving here is = absurd here
    at x (Rooting a) here is = absurd here
    at x (Entering e a) here is = absurd here
    at x (Moving e a) here is = absurd here
    at x (Getting l get a) here is = absurd here
    at x (Putting l put a) here is = absurd here
    at x (Allocating a) here is = absurd here
    at x (Asking a) here is = absurd here
    at x (Ended o) here is = absurd here

    by : (t : Task) → d.progress.task ≡ t → AttemptsFilled t → NextKeeps n w s m d
    by (Attempting c) e here =
        of_attempt n w s m d j is c e (NextKeeps n w s m) (at (trial n w s m d j is c) c.stage here)
    by (Awaiting c) e here = absurd here
    by Finishing e here = absurd here
    by TaskEnded e here = absurd here
