-- The steps of an attempt that leaves its own gate: the next call, or another attempt.
use Rattle.std.proofs.Common.{◌≡◌, ℕ, Bool, true, false, List, [], ◌++◌, slice_get, Option, Some, None, ◌+◌, sym, subst}
use Rattle.std.proofs.Common.{refl, ◌∙◌, append-nil}
use Rattle.std.specs.List.{Contains}
use Rattle.mako_shape.specs.Places.{mutator_gate, word_at}
use Rattle.mako_gate.specs.GateActions as gate
use Rattle.mako_gate.specs.Standings.{away, refused, inside, mutator_at}
use Rattle.mako_step.specs.declared.act.Op.TheVariants.{Sub}
use Rattle.mako_model.specs.declared.attempt.Attempt.{Attempt}
use Rattle.mako_model.specs.declared.attempt.Attempt.TheVariants.{Answer, Pause as Paused}
use Rattle.mako_model.specs.declared.attempt.Pause.{Pause as Reason}
use Rattle.mako_model.specs.declared.attempt.Pause.TheVariants.{Stopped}
use Rattle.mako_model.specs.declared.call.Call.{Call}
use Rattle.mako_model.specs.declared.call.Call.TheVariants as call
use Rattle.mako_model.specs.declared.reply.Reply.{Reply}
use Rattle.mako_call.specs.declared.call_machine.Keep.{Keep}
use Rattle.mako_call.specs.declared.call_stage.CallStage.{CallStage}
use Rattle.mako_call.specs.declared.call_stage.CallStage.TheVariants.{Arriving, Leaving, Ended}
use Rattle.mako_call.specs.declared.leaving.LeaveStage.TheVariants.{Refused, FromOwn}
use Rattle.mako_mutator.specs.declared.progress.Task.{Task}
use Rattle.mako_mutator.specs.declared.progress.Task.TheVariants.{Attempting}
use Rattle.mako_call.specs.Agreeing.{Arrives}
use Rattle.mako_call.specs.Calls.{opening}
use Rattle.mako_mutator.specs.Drivers as drivers
use Rattle.mako_mutator.specs.Drivers.{Driving, task_for}
use Rattle.mako_names.specs.Trying as trying
use Rattle.mako_names.proofs.Good.{no_name}
use Rattle.mako_layout.specs.Facets.{idle}
use Rattle.mako_phases.specs.Facets.{Admission, IsNotAdmitted}
use Rattle.mako_phases.specs.Facets as phases
use Rattle.mako_ring.specs.TraceFacets.{apart}
use Rattle.mako_state.specs.Carried.{task_carried}
use Rattle.mako_state.specs.Says.{TaskSays}
use Rattle.mako_state.specs.Standings.{task_standing}
use Rattle.mako_state.specs.Works.{task_work}
use Rattle.mako_state.proofs.Ends.{answer_asks, pause_asks}
use Rattle.mako_mutating.specs.MutatorFacets.{task_trying, task_trace, task_held, task_admission, stage_trying}
use Rattle.mako_mutating.specs.MutatorFacets.{stage_trace, stage_admission}
use Rattle.mako_mutating.specs.Mutators.{TaskKeeps}
use Rattle.mako_mutating.proofs.Attempts.{Scene, At, Holds, Result, k, fed_to, heap}
use Rattle.mako_mutating.proofs.Views.{Turns, keeps_on, goes_out}
use Rattle.mako_mutating.proofs.Gates.{Rid, operated, makes, own_gate, gate_step}

module _ (x : Scene) (within : Bool) where
  -- ---- leaving the own gate, to a task at its start
  pub record Starts (s : CallStage) (t : Task) : Type 0 where
    pub says : TaskSays (heap x) x.m t
    pub counts : (us : List ℕ) → TaskKeeps x.n (heap x) us x.m t
    pub standing : task_standing t ≡ away
    pub work : task_work t ≡ idle
    pub trace : task_trace t ≡ apart
    pub trying : task_trying t ≡ stage_trying x.n x.last x.call s
    pub held : task_held t ≡ []
    pub bare : task_carried t ≡ None
    pub admission : task_admission t ≡ phases.outside

  pub attempt_starts : (s : CallStage) (last : Bool) (c : Call)
      → stage_trying x.n last c (opening (k x) c last None x.slot).stage ≡ stage_trying x.n x.last x.call s
      → Starts s (Attempting (opening (k x) c last None x.slot))
  attempt_starts s last call.Collect same = record {
    says = tt;
    counts = λ us. tt;
    standing = refl;
    work = refl;
    trace = refl;
    trying = same;
    held = refl;
    bare = refl;
    admission = refl;
  }
  attempt_starts s last c same = record {
    says = tt;
    counts = λ us. tt;
    standing = refl;
    work = refl;
    trace = refl;
    trying = same;
    held = refl;
    bare = refl;
    admission = refl;
  }

  -- the next call of a program has tried nothing
  first_tries_nothing : (c : Call)
      → stage_trying x.n false c (opening (k x) c false None x.slot).stage ≡ trying.Nothing
  first_tries_nothing call.Collect = refl
  first_tries_nothing c = refl

  pub task_starts : (s : CallStage) (o : Option Call) → stage_trying x.n x.last x.call s ≡ trying.Nothing
      → Starts s (task_for (k x) o false (record { asked = None; barrier_at = x.slot }))
  task_starts s None nothing = record {
    says = tt;
    counts = λ us. tt;
    standing = refl;
    work = refl;
    trace = refl;
    trying = sym nothing;
    held = refl;
    bare = refl;
    admission = refl;
  }
  task_starts s (Some c) nothing = attempt_starts s false c (first_tries_nothing c ∙ sym nothing)

  abbrev pub turned_to : ℕ → Bool → Task → Driving
  turned_to done inside_ task = record {
    caller = k x;
    calls = x.calls;
    replies = x.replies ++ [];
    progress = record { done = done; within = inside_; task = task };
  }

  pub rid_start : (s : CallStage) (done : ℕ) (b : Bool) (t : Task) → drivers.IsKnown (turned_to done b t)
      → stage_trace s ≡ apart → Turns (stage_admission s) phases.outside
      → Starts s t → Rid x within s (turned_to done b t)
  rid_start s done b t known was turns starts = record {
    known = known;
    caller = refl;
    calls = refl;
    replies = append-nil x.replies;
    says = starts.says;
    counts = starts.counts;
    work = starts.work;
    trace = starts.trace ∙ sym was;
    trying = starts.trying;
    held = λ name among. absurd (no_name name (subst (λ names. Contains names name) starts.held among));
    bare = starts.bare;
    gates = λ e. subst IsNotAdmitted (sym starts.admission) tt;
    turns = subst (Turns (stage_admission s)) (sym starts.admission) turns;
  }

  -- it leaves the own gate, to this task
  pub own_left : (o : Attempt) (at : At x within (Leaving (FromOwn o))) (done : ℕ) (b : Bool) (t : Task)
      → drivers.IsKnown (turned_to done b t) → Starts (Leaving (FromOwn o)) t
      → Holds x (operated x within (mutator_gate x.m) (Sub 1)) x.s.front (turned_to done b t)
  own_left o at done b t known starts =
      let s = Leaving (FromOwn o) in
      let low = at.keeps.in_range in
      gate_step x within s at (turned_to done b t) (mutator_gate x.m) (Sub 1) (own_gate x within low) refl refl
      (rid_start s done b t known refl (goes_out None) starts)
      (subst (λ q. gate.GateAction x.n (λ r. word_at x.n x.s.words r)
      (λ r. word_at x.n (operated x within (mutator_gate x.m) (Sub 1)) r) x.m
      (mutator_at x.m inside) (mutator_at x.m q))
      (sym starts.standing) (gate.departs x.m low (makes x within (mutator_gate x.m) (Sub 1) low)))

  abbrev next_keep : Keep
  next_keep = record { asked = None; barrier_at = x.slot }

  -- an answer: on to the next call
  pub answered_left : (r : Reply) (at : At x within (Leaving (FromOwn (Answer r))))
      → drivers.IsKnown (fed_to x within x.slot (Leaving (FromOwn (Answer r))) (Ended (Answer r)))
      → Result x within x.slot (Leaving (FromOwn (Answer r))) (Ended (Answer r))
      (operated x within (mutator_gate x.m) (Sub 1))
  answered_left r at known =
      let o = slice_get x.calls (x.done + 1) in
      let to : Option ℕ → Driving = λ asked. turned_to (x.done + 1) false
      (task_for (k x) o false (record { asked = asked; barrier_at = x.slot })) in
      let asks = answer_asks x.call r in
      subst (λ asked. Holds x (operated x within (mutator_gate x.m) (Sub 1)) x.s.front (to asked)) (sym asks)
      (own_left (Answer r) at (x.done + 1) false (task_for (k x) o false next_keep)
      (subst (λ asked. drivers.IsKnown (to asked)) asks known) (task_starts (Leaving (FromOwn (Answer r))) o refl))

  -- an attempt of a call but a collect is made again as it was begun
  again_starts : (s : CallStage) (c : Call) → x.call ≡ c → Arrives c
      → stage_trying x.n x.last x.call Arriving ≡ stage_trying x.n x.last x.call s
      → Starts s (Attempting (opening (k x) c x.last None x.slot))
  again_starts s call.Collect is arrives same = absurd arrives
  again_starts s c is arrives same =
      attempt_starts s x.last c (subst (λ d. stage_trying x.n x.last d Arriving ≡ stage_trying x.n x.last x.call s)
      is same)

  -- a pause: the attempt again
  pub paused_left : (r : Reason) (at : At x within (Leaving (FromOwn (Paused r)))) → Arrives x.call
      → drivers.IsKnown (fed_to x within x.slot (Leaving (FromOwn (Paused r))) (Ended (Paused r)))
      → Result x within x.slot (Leaving (FromOwn (Paused r))) (Ended (Paused r))
      (operated x within (mutator_gate x.m) (Sub 1))
  paused_left r at arrives known =
      let to : Option ℕ → Driving = λ asked. turned_to x.done true
      (Attempting (opening (k x) x.call x.last asked x.slot)) in
      let asks = pause_asks x.call r arrives in
      subst (λ asked. Holds x (operated x within (mutator_gate x.m) (Sub 1)) x.s.front (to asked)) (sym asks)
      (own_left (Paused r) at x.done true (Attempting (opening (k x) x.call x.last None x.slot))
      (subst (λ asked. drivers.IsKnown (to asked)) asks known)
      (again_starts (Leaving (FromOwn (Paused r))) x.call refl arrives refl))

  -- a shut gate: the arrival is taken back, and the attempt made again
  pub refused_left : (found : ℕ) (at : At x within (Leaving (Refused found))) → Arrives x.call
      → drivers.IsKnown (fed_to x within x.slot (Leaving (Refused found)) (Ended (Paused (Stopped found))))
      → Result x within x.slot (Leaving (Refused found)) (Ended (Paused (Stopped found)))
      (operated x within (mutator_gate x.m) (Sub 1))
  refused_left found at arrives known =
      let to : Option ℕ → Driving = λ asked. turned_to x.done true
      (Attempting (opening (k x) x.call x.last asked x.slot)) in
      let s = Leaving (Refused found) in
      let low = at.keeps.in_range in
      let asks = pause_asks x.call (Stopped found) arrives in
      let starts = again_starts s x.call refl arrives refl in
      subst (λ asked. Holds x (operated x within (mutator_gate x.m) (Sub 1)) x.s.front (to asked)) (sym asks)
      (gate_step x within s at (to None) (mutator_gate x.m) (Sub 1) (own_gate x within low) refl refl
      (rid_start s x.done true (Attempting (opening (k x) x.call x.last None x.slot))
      (subst (λ asked. drivers.IsKnown (to asked)) asks known) refl (keeps_on phases.outside) starts)
      (subst (λ q. gate.GateAction x.n (λ r. word_at x.n x.s.words r)
      (λ r. word_at x.n (operated x within (mutator_gate x.m) (Sub 1)) r) x.m
      (mutator_at x.m refused) (mutator_at x.m q))
      (sym starts.standing) (gate.steps_back x.m low (makes x within (mutator_gate x.m) (Sub 1) low))))
