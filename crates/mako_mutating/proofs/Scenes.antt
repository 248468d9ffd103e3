-- A mutator that attempts a call, as the attempt of a scene.
use Rattle.std.proofs.Common.{◌≡◌, ℕ, sym, ap, subst, ◌∙◌}
use Rattle.mako_shape.specs.declared.numbers.Numbers.{Numbers}
use Rattle.mako_model.specs.Legal.{Facts}
use Rattle.mako_call.specs.declared.call_stage.CallStage.{CallStage}
use Rattle.mako_mutator.specs.declared.progress.Task.TheVariants.{Attempting}
use Rattle.mako_mutator.specs.Drivers.{Driving, IsAttempt, TaskIsKnown}
use Rattle.mako_joint.specs.Joints.{JointScene, Joint}
use Rattle.mako_mutating.specs.Mutators.{view_of, IsSeen, MutatorKeeps, IsAttempting}
use Rattle.mako_mutating.proofs.Attempts.{Scene, At, attempt, driver}

module _ (n : Numbers) (w : Facts) (s : JointScene) (j : Joint n w s) (m : ℕ) (d : Driving) (stage : CallStage)
    (is : IsAttempting n w s m d stage) where
  abbrev pub scene_of : Scene
  scene_of = record {
    n = n;
    w = w;
    s = s;
    j = j;
    m = m;
    calls = d.calls;
    replies = d.replies;
    done = d.progress.done;
    call = is.calling.call;
    last = is.calling.last;
    slot = is.calling.slot;
  }

  caller_is : d.caller ≡ record { shape = n; mutator = m }
  caller_is = λ i. record { shape = is.keeps.shape i; mutator = is.keeps.number i }

  attempt_known : IsAttempt d.caller d.calls d.progress.done is.calling
  attempt_known = subst (TaskIsKnown d.caller d.calls d.progress.done) is.attempts is.keeps.known.progress.task

  calling_is : is.calling ≡ attempt scene_of is.calling.slot stage
  calling_is =
      let e : is.calling.caller ≡ record { shape = n; mutator = m } = attempt_known.same ∙ caller_is in
      λ i. record {
        caller = e i;
        call = is.calling.call;
        last = is.calling.last;
        slot = is.calling.slot;
        stage = is.at i;
      }

  -- its driver is the scene's
  driver_is : d ≡ driver scene_of d.progress.within stage
  driver_is =
      let caller : d.caller ≡ record { shape = n; mutator = m } = caller_is in
      let task : d.progress.task ≡ Attempting (attempt scene_of is.calling.slot stage) =
      is.attempts ∙ ap Attempting calling_is in
      λ i. record {
        caller = caller i;
        calls = d.calls;
        replies = d.replies;
        progress = record { done = d.progress.done; within = d.progress.within; task = task i };
      }

  pub at_scene : At scene_of d.progress.within stage
  at_scene = record {
    seen = subst (λ e. IsSeen s m (view_of e)) driver_is is.seen;
    keeps = subst (MutatorKeeps n w s.words s.front m) driver_is is.keeps;
  }

  -- so what holds of the scene's driver holds of it
  pub of_scene : (P : Driving → Type 0) → P (driver scene_of d.progress.within stage) → P d
  of_scene P holds = subst P (sym driver_is) holds
