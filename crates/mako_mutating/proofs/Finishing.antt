-- A mutator at the end of its program counts itself.
use Rattle.std.proofs.Common.{◌≡◌, ℕ, drop, Bool, List, [], ◌++◌, length, set, slice_index, sym, ap, subst, refl, ◌∙◌}
use Rattle.std.proofs.Common.{append-nil}
use Rattle.mako_shape.specs.declared.numbers.Numbers.{Numbers}
use Rattle.mako_shape.specs.Places.{finished, root, index, word_at}
use Rattle.mako_shape.proofs.PlaceLaws.{word_same, word_other}
use Rattle.mako_step.specs.Acts.{after_op}
use Rattle.mako_step.specs.declared.act.Op.TheVariants.{Add}
use Rattle.mako_model.specs.declared.call.Call.{Call}
use Rattle.mako_model.specs.declared.reply.Reply.{Reply}
use Rattle.mako_model.specs.Legal.{Facts, state_of}
use Rattle.mako_model.specs.Starved.{words_made}
use Rattle.mako_mutator.specs.declared.progress.Task.TheVariants.{Finishing, Ended as TaskEnded}
use Rattle.mako_mutator.specs.Drivers.{Driving}
use Rattle.mako_mutator.proofs.DriverGoing.{driver_known}
use Rattle.mako_names.proofs.Good.{no_name}
use Rattle.mako_gate.specs.Changes.{Sets}
use Rattle.mako_layout.specs.Evacuations.{State}
use Rattle.mako_layout.specs.Steps.Step.{outside}
use Rattle.mako_layout.proofs.EachStep.{each_step_keeps}
use Rattle.mako_layout.proofs.Frames.{places_are_apart}
use Rattle.mako_phases.specs.Facets as phases
use Rattle.mako_ring.specs.TraceFacets.{apart}
use Rattle.mako_joint.specs.Joints.{JointScene, layout_in, Joint}
use Rattle.mako_mutating.specs.MutatorFacets.{left_of}
use Rattle.mako_mutating.specs.Mutators.{view_of, IsSeen, MutatorKeeps, StepKeeps}
use Rattle.mako_mutating.specs.Laws.{FinishesKeep}
use Rattle.mako_mutating.proofs.Views.{Framed, framed_at, joined, names_onward, tracks_framed, order_same, laid}
use Rattle.mako_mutating.proofs.Views.{gate_back, work_back}

module _ (n : Numbers) (w : Facts) (s : JointScene) (j : Joint n w s) (m done : ℕ) (within : Bool) (calls : List Call)
    (replies : List Reply) where
  abbrev ending : Driving
  ending = record {
    caller = record { shape = n; mutator = m };
    calls = calls;
    replies = replies;
    progress = record { done = done; within = within; task = Finishing };
  }

  abbrev ended : Driving
  ended = record {
    caller = record { shape = n; mutator = m };
    calls = calls;
    replies = replies ++ [];
    progress = record { done = done; within = within; task = TaskEnded };
  }

  finishes : IsSeen s m (view_of ending) → MutatorKeeps n w s.words s.front m ending → StepKeeps n w s m ending
  finishes seen keeps =
      let low = keeps.in_range in
      let was = view_of ending in
      let to = view_of ended in
      let v = after_op (Add 1) (slice_index s.words (index n finished)) in
      let us : List ℕ = set s.words (index n finished) v in
      let st : State = layout_in n w s in
      let framed : Framed n w s j m low was seen us =
      framed_at n w s j m low was seen finished v tt
      (record { no_name = λ e. e; untraced = λ e. e; unpolled = λ e. e; unordered = λ e. e }) in
      let sets : Sets n st.words (λ q. word_at n us q) finished v = record {
        here = word_same n s.words finished v j.names.hold.size tt;
        others = λ q inner other. word_other n s.words finished q v tt inner other;
      } in
      let left_same : left_of ended ≡ left_of ending = ap (λ rs. drop (length rs) calls) (append-nil replies) in (
        joined n w s j m low was seen us s.front to (record {
          names = names_onward n w s j m low was seen us to framed.leaves
              (λ name among. absurd (no_name name among)) refl left_same;
          tracks = tracks_framed n w s j m low was seen us apart framed refl;
          layout = laid n w s j m low was seen us s.front s.facets.gates s.facets.works to
              (gate_back n w s j m low was seen to refl) (work_back n w s j m low was seen to refl)
              (each_step_keeps n j.script.shape st m _ j.layout
              (outside m (λ q. word_at n us q) (state_of w s.front.history)
              (λ t. words_made w t s.front.history)
              (places_are_apart.layout n st.words (λ q. word_at n us q) finished v sets tt)
              (places_are_apart.gates n st.words (λ q. word_at n us q) finished v sets tt) (λ name. refl)
              (λ t. refl)));
          polls = framed.polls;
          order = order_same n w s j m low was seen us framed.order phases.outside refl;
          reads = λ reading. absurd reading;
          gates = λ e. tt;
        }),
        record {
          known = driver_known ending 0 keeps.known tt tt;
          shape = refl;
          number = refl;
          in_range = low;
          program = keeps.program;
          replies = append-nil replies ∙ keeps.replies;
          says = tt;
          counts = tt;
          roots = λ q u in_row is.
              word_other n s.words finished (root m q) v tt (low, in_row) (λ e. (let c : ⊥ = cc in c))
              ∙ keeps.roots q u in_row is;
        },
      )

pub finishes_keep : FinishesKeep
finishes_keep n w s j m d seen keeps is =
    let ending_is : d ≡ ending n w s j m d.progress.done d.progress.within d.calls d.replies =
    λ i. record {
      caller = record { shape = keeps.shape i; mutator = keeps.number i };
      calls = d.calls;
      replies = d.replies;
      progress = record { done = d.progress.done; within = d.progress.within; task = is i };
    } in
    subst (StepKeeps n w s m) (sym ending_is)
    (finishes n w s j m d.progress.done d.progress.within d.calls d.replies
    (subst (λ e. IsSeen s m (view_of e)) ending_is seen)
    (subst (MutatorKeeps n w s.words s.front m) ending_is keeps))
