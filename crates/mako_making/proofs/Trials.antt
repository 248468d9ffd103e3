-- The attempts of one mutator in a scene: what its machine is after a step, and what all groups then read of it.
use Rattle.std.proofs.Common.{◌≡◌, ℕ, drop, length-append, append-nil, ◌+◌, ◌<◌, Bool, true, false, List, [], ◌∷◌, ◌++◌}
use Rattle.std.proofs.Common.{length, slice_get, Option, Some, None, sym, ap, subst, refl, ◌∙◌, arith}
use Rattle.mako_shape.specs.declared.numbers.Numbers.{Numbers}
use Rattle.mako_step.specs.Acts.{words_after}
use Rattle.mako_step.specs.declared.act.Op.TheVariants.{Load}
use Rattle.mako_model.specs.declared.attempt.Attempt.TheVariants.{Answer}
use Rattle.mako_model.specs.declared.call.Call.{Call}
use Rattle.mako_model.specs.declared.call.Call.TheVariants as call
use Rattle.mako_model.specs.declared.reply.Reply.{Reply}
use Rattle.mako_model.specs.Fronts.{Seen}
use Rattle.mako_model.specs.Legal.{Facts}
use Rattle.mako_call.specs.declared.caller.Caller.{Caller}
use Rattle.mako_call.specs.declared.call_stage.CallStage.{CallStage}
use Rattle.mako_mutator.specs.declared.progress.Task.{Task}
use Rattle.mako_mutator.specs.declared.progress.Task.TheVariants.{Attempting, Awaiting}
use Rattle.mako_call.specs.Agreeing.{asked_of}
use Rattle.mako_call.specs.Calls.{Calling, decided, event_by, first_stage, outcome_in}
use Rattle.mako_mutator.specs.Drivers as drivers
use Rattle.mako_mutator.specs.Drivers.{Driving, told_reply, attempt_on, wait_on, task_for}
use Rattle.mako_names.specs.Steps.{NameScene, AttemptStep, Forgets}
use Rattle.mako_names.specs.Trying as trying
use Rattle.mako_names.specs.Trying.{Trying}
use Rattle.mako_phases.specs.Facets.{outside}
use Rattle.mako_state.specs.CoreStates.{front_after}
use Rattle.mako_state.proofs.Lists.{drop_at}
use Rattle.mako_state.proofs.Ends.{answer_asks}
use Rattle.mako_state.proofs.Words.{load_back}
use Rattle.mako_joint.specs.Joints.{JointScene, Joint}
use Rattle.mako_mutating.specs.MutatorFacets.{last_at}
use Rattle.mako_mutating.specs.Mutators.{View, view_of, with_view}
use Rattle.mako_making.specs.Makings.{StageSearches, TaskSearches}
use Rattle.mako_making.proofs.Placed.{AllHold}
use Rattle.mako_making.proofs.Asking.{out_with}

-- A scene in which all groups hold, a mutator of it, and an attempt of one of its calls.
pub record Trial : Type 0 where
  pub n : Numbers
  pub w : Facts
  pub s : JointScene
  pub joint : Joint n w s
  pub m : ℕ
  pub low : m < n.mutators
  pub calls : List Call
  pub replies : List Reply
  pub done : ℕ
  pub within : Bool
  pub call : Call
  pub last : Bool
  pub slot : ℕ

-- ---- a task at its start

-- what is known of an attempt at its start
abbrev pub start_trying : Bool → Option Call → Trying
start_trying last None = trying.Nothing
start_trying last (Some c) = last_at last c 0 0

module _ (k : Caller) (calls : List Call) (replies : List Reply) (done : ℕ) (within : Bool) (last : Bool) (slot : ℕ)
  where
    abbrev pub started : Option Call → Driving
    started o = record {
      caller = k;
      calls = calls;
      replies = replies;
      progress = record {
        done = done;
        within = within;
        task = task_for k o last (record { asked = None; barrier_at = slot });
      };
    }

    abbrev pub start : Option Call → View
    start o = out_with outside (start_trying last o) (drop (length replies) calls)

    collect_starts : (b : Bool) → trying.Nothing ≡ last_at b call.Collect 0 0
    collect_starts true = refl
    collect_starts false = refl

    pub starts : (o : Option Call) → view_of (started o) ≡ start o
    starts None = refl
    starts (Some (call.New root fields)) = refl
    starts (Some (call.Num root number)) = refl
    starts (Some (call.CopyRoot to from)) = refl
    starts (Some (call.DropRoot root)) = refl
    starts (Some (call.Get to from field)) = refl
    starts (Some (call.Put to field from)) = refl
    starts (Some (call.Show root)) = refl
    starts (Some call.Collect) = λ i. out_with outside (collect_starts last i) (drop (length replies) calls)

pub nothing_yet : (o : Option Call) → start_trying false o ≡ trying.Nothing
nothing_yet None = refl
nothing_yet (Some c) = refl

-- the last attempt of a new begins with nothing gone over; of another call nothing is known
pub begins_last : (n : Numbers) (w : Facts) (ns : NameScene) (m : ℕ) (t : Trying) (o : Option Call)
    → ((fields : ℕ) → AttemptStep n w ns m t (trying.Last fields 0 0)) → AttemptStep n w ns m t (start_trying true o)
begins_last n w ns m t None step = Forgets t
begins_last n w ns m t (Some (call.New root fields)) step = step fields
begins_last n w ns m t (Some (call.Num root number)) step = Forgets t
begins_last n w ns m t (Some (call.CopyRoot to from)) step = Forgets t
begins_last n w ns m t (Some (call.DropRoot root)) step = Forgets t
begins_last n w ns m t (Some (call.Get to from field)) step = Forgets t
begins_last n w ns m t (Some (call.Put to field from)) step = Forgets t
begins_last n w ns m t (Some (call.Show root)) step = Forgets t
begins_last n w ns m t (Some call.Collect) step = Forgets t

-- no task at its start searches for room
stage_begins : (n : Numbers) (ws : List ℕ) (c : Call) (asked : Option ℕ) → StageSearches n ws (first_stage c asked)
stage_begins n ws (call.New root fields) asked = tt
stage_begins n ws (call.Num root number) asked = tt
stage_begins n ws (call.CopyRoot to from) asked = tt
stage_begins n ws (call.DropRoot root) asked = tt
stage_begins n ws (call.Get to from field) asked = tt
stage_begins n ws (call.Put to field from) asked = tt
stage_begins n ws (call.Show root) asked = tt
stage_begins n ws call.Collect None = tt
stage_begins n ws call.Collect (Some cycle) = tt

pub task_begins : (n : Numbers) (ws : List ℕ) (k : Caller) (o : Option Call) (last : Bool) (asked : Option ℕ)
    (slot : ℕ) → TaskSearches n ws (task_for k o last (record { asked = asked; barrier_at = slot }))
task_begins n ws k None last asked slot = tt
task_begins n ws k (Some c) last asked slot = stage_begins n ws c asked

module _ (x : Trial) where
  abbrev pub k : Caller
  k = record { shape = x.n; mutator = x.m }

  abbrev pub attempt : CallStage → Calling
  attempt s = record { caller = k; call = x.call; last = x.last; slot = x.slot; stage = s }

  abbrev pub at_task : Task → Driving
  at_task t = record {
    caller = k;
    calls = x.calls;
    replies = x.replies;
    progress = record { done = x.done; within = x.within; task = t };
  }

  -- it attempts the call, or waits for a cycle before the last attempt
  abbrev pub driver : CallStage → Driving
  driver s = at_task (Attempting (attempt s))

  abbrev pub waiter : CallStage → Driving
  waiter s = at_task (Awaiting (attempt s))

  -- after the step from one stage to another, whatever it tells
  abbrev pub fed_to : CallStage → CallStage → Driving
  fed_to s t = record {
    caller = k;
    calls = x.calls;
    replies = x.replies ++ told_reply (event_by x.m x.call (decided s) (decided t));
    progress = attempt_on k x.calls (driver s).progress (attempt t) (outcome_in t);
  }

  abbrev pub waited_to : CallStage → CallStage → Driving
  waited_to s t = record {
    caller = k;
    calls = x.calls;
    replies = x.replies ++ [];
    progress = wait_on k x.calls (waiter s).progress (attempt t) (outcome_in t);
  }

  -- and all groups then
  abbrev pub Goal : CallStage → CallStage → List ℕ → Type 0
  Goal s t us = AllHold x.n x.w
      (with_view x.s x.m us (front_after x.s.front [] (event_by x.m x.call (decided s) (decided t)))
      (view_of (fed_to s t)))
      (fed_to s t)

  abbrev pub WaitGoal : CallStage → CallStage → List ℕ → Type 0
  WaitGoal s t us = AllHold x.n x.w (with_view x.s x.m us x.s.front (view_of (waited_to s t))) (waited_to s t)

  -- a load leaves the words
  pub load_goal : (s t : CallStage) (i : ℕ) → Goal s t x.s.words
      → Goal s t (words_after (record { word = i; op = Load }) x.s.words)
  load_goal s t i goal = subst (Goal s t) (sym (load_back x.s.words i)) goal

  pub load_wait : (s t : CallStage) (i : ℕ) → WaitGoal s t x.s.words
      → WaitGoal s t (words_after (record { word = i; op = Load }) x.s.words)
  load_wait s t i goal = subst (WaitGoal s t) (sym (load_back x.s.words i)) goal

  -- ---- the calls that are left
  abbrev pub left : List Call
  left = drop (length x.replies) x.calls

  -- after a step that tells nothing, and after one that tells a reply
  abbrev pub left_then : List Call
  left_then = drop (length (x.replies ++ [])) x.calls

  abbrev pub left_past : Reply → List Call
  left_past r = drop (length (x.replies ++ r ∷ [])) x.calls

  pub left_same : left ≡ left_then
  left_same = ap (λ rs. drop (length rs) x.calls) (sym (append-nil x.replies))

  pub left_next : (s : CallStage) → drivers.IsKnown (driver s) → decided s ≡ None → (r : Reply)
      → left ≡ x.call ∷ left_past r
  left_next s known undecided r =
      let none : length x.replies ≡ x.done + 0 = known.replies ∙ ap (λ o. x.done + drivers.ahead o) undecided in
      drop_at x.calls (length x.replies) x.call
      (ap (slice_get x.calls) (let e : length x.replies ≡ x.done = omega arith in e) ∙ known.progress.task.call)
      ∙ ap (λ j. x.call ∷ drop j x.calls) (sym (length-append x.replies (r ∷ [])))

  -- ---- the task that follows an answer
  module _ (done : ℕ) (within last : Bool) (replies : List Reply) (o : Option Call) (r : Reply) where
    abbrev pub followed : Option ℕ → Driving
    followed asked = record {
      caller = k;
      calls = x.calls;
      replies = replies;
      progress = record {
        done = done;
        within = within;
        task = task_for k o last (record { asked = asked; barrier_at = x.slot });
      };
    }

    pub follows : (us : List ℕ) (front : Seen)
        → Joint x.n x.w (with_view x.s x.m us front (start k x.calls replies done within last x.slot o))
        → AllHold x.n x.w
        (with_view x.s x.m us front (view_of (followed (asked_of x.call (Answer r)))))
        (followed (asked_of x.call (Answer r)))
    follows us front held = record {
      joint = subst (λ g. Joint x.n x.w (with_view x.s x.m us front g)) (sym is) held;
      keeps = task_begins x.n us k o last (asked_of x.call (Answer r)) x.slot;
    }
      where
        is : view_of (followed (asked_of x.call (Answer r)))
            ≡ start k x.calls replies done within last x.slot o
        is = ap (λ a. view_of (followed a)) (answer_asks x.call r)
            ∙ starts k x.calls replies done within last x.slot o
