-- All seats over runs: each step of a seat keeps that all seats sit, and so do runs.
use Rattle.std.proofs.Common.{◌≡◌, ℕ, List, slice_get, slice_set, Some, sym, ap, subst, refl}
use Rattle.mako_words.specs.declared.name.Name.{Name}
use Rattle.mako_mutator.specs.Drivers as drivers
use Rattle.mako_tracing.specs.Laws.{server_next}
use Rattle.mako_tracing.specs.ServerFacets.{server_trace}
use Rattle.mako_sitting_collector.specs.CollectorSnaps.{SeatsAreAll}
use Rattle.mako_sitting_collector.proofs.CollectorFacets.{steps_add_no_facet}
use Rattle.mako_shape.specs.declared.numbers.Numbers.{Numbers}
use Rattle.mako_step.specs.Acts.{finds, words_stepped}
use Rattle.mako_step.specs.declared.step.Step.{Step}
use Rattle.mako_step.specs.declared.step.Step.TheVariants.{Do, Ended as NoStep}
use Rattle.mako_step.specs.Machines.{IsAct}
use Rattle.mako_model.specs.Fronts.{Seen}
use Rattle.mako_model.specs.Legal.{Facts}
use Rattle.mako_server.specs.Serving as serving
use Rattle.mako_server.specs.Serving.{Serving, stage_next}
use Rattle.mako_server.specs.declared.stage.ServerStage.{ServerStage}
use Rattle.mako_server.specs.declared.stage.ServerStage.TheVariants.{Turning, Tracing, Evacuating, Ended}
use Rattle.mako_seat.specs.declared.seat.Seat.{Seat}
use Rattle.mako_seat.specs.declared.seat.Seat.TheVariants.{Mutator, Server, Collector}
use Rattle.mako_seat.specs.Seats.{next_of, fed, event_of}
use Rattle.mako_state.specs.CoreStates.{CoreState, got_by, front_after, made, stepped_by, step_of}
use Rattle.mako_joint.specs.Joints.{JointScene}
use Rattle.mako_mutating.specs.Mutators as mutating
use Rattle.mako_sitting.specs.Seats.{AllSit}
use Rattle.mako_sitting_servers.specs.ServerSteps.{stage_after, server_stepped, ServerGoesOn}
use Rattle.mako_whole.specs.AllRuns.{scene_in, SeatsSit, MutatorRuns, ServerRuns, CollectorRuns}
use Rattle.mako_sitting_mutators.proofs.MutatorSteps.{mutators_keep_all}
use Rattle.mako_sitting_servers.proofs.ServerEvacuates.{servers_keep_all}

-- ---- a step

-- all seats of a scene sit in the state with its words and its front
sits_by : (n : Numbers) (w : Facts) (after : JointScene) (seats : List Seat) (words : List ℕ) (front : Seen) →
    AllSit n w after seats → SeatsAreAll n after → after.words ≡ words → after.front ≡ front →
    SeatsSit n w (record { words = words; seats = seats; front = front })
sits_by n w after seats words front all only same told = record {
  facets = after.facets;
  all = subst (λ (us : List ℕ). AllSit n w (record { words = us; front = front; facets = after.facets }) seats) same
      (subst (λ (f : Seen). AllSit n w (record { words = after.words; front = f; facets = after.facets }) seats) told
      all);
  only = record { traces = only.traces; held = only.held };
}

module _ (n : Numbers) (w : Facts) (st : CoreState) (i : ℕ) (v : Seat) where
  -- the state after a step that the seat makes
  abbrev went : Step → CoreState
  went next = record {
    words = words_stepped next st.words;
    seats = slice_set st.seats i (fed v (finds next st.words));
    front = front_after st.front (got_by v) (event_of v (finds next st.words));
  }

  -- a seat at its end changes nothing
  stays_or_goes : SeatsSit n w st → (next : Step) → (IsAct next → SeatsSit n w (went next)) →
      SeatsSit n w (made st i v next)
  stays_or_goes sits (Do act) goes = goes tt
  stays_or_goes sits NoStep goes = sits

  pub step_sits : SeatsSit n w st → slice_get st.seats i ≡ Some v →
      (IsAct (next_of v) → SeatsSit n w (went (next_of v))) → SeatsSit n w (step_of st i)
  step_sits sits here goes =
      subst (λ o. SeatsSit n w (stepped_by st i o)) (sym here) (stays_or_goes sits (next_of v) goes)

-- ---- mutators and servers

pub mutators_run : MutatorRuns
mutators_run n w st m d sits here = step_sits n w st m (Mutator d) sits here
    (λ acts. let s = scene_in st sits.facets in let after = mutating.stepped s m d in
    let next = mutating.view_of (drivers.fed d (mutating.found_by s d)) in record {
      facets = after.facets;
      all = mutators_keep_all n w s st.seats m d sits.all here acts;
      only = (steps_add_no_facet n s after sits.only).held m next.trace next.held
          (sits.all.each m (Mutator d) here).keeps.in_range refl refl;
    })

module _ (n : Numbers) (s : JointScene) (i : ℕ) (v : Serving) (sent : List Name) where
  -- the words are those after its act
  pub words_are : (stage : ServerStage) → v.stage ≡ stage →
      (stage_after n s i v sent stage).words ≡ words_stepped (stage_next v.tracer stage) s.words
  words_are Turning is = ap (λ g. words_stepped (stage_next v.tracer g) s.words) is
  words_are Tracing is = ap (λ g. words_stepped (stage_next v.tracer g) s.words) is
  words_are (Evacuating e) is = refl
  words_are Ended is = refl

  only_is : (stage : ServerStage) → SeatsAreAll n s → SeatsAreAll n (stage_after n s i v sent stage)
  only_is Turning only = (steps_add_no_facet n s (stage_after n s i v sent Turning) only).traces i
      (server_trace (server_next v s.words)) refl refl
  only_is Tracing only = (steps_add_no_facet n s (stage_after n s i v sent Tracing) only).traces i
      (server_trace (server_next v s.words)) refl refl
  only_is (Evacuating e) only =
      (steps_add_no_facet n s (stage_after n s i v sent (Evacuating e)) only).same refl refl
  only_is Ended only = only

  front_is : (stage : ServerStage) → (stage_after n s i v sent stage).front ≡ s.front
  front_is Turning = refl
  front_is Tracing = refl
  front_is (Evacuating e) = refl
  front_is Ended = refl

module _ (n : Numbers) (w : Facts) (st : CoreState) (i : ℕ) (v : Serving) (sits : SeatsSit n w st) where
  server_goes : ServerGoesOn n w (scene_in st sits.facets) st.seats i v →
      SeatsSit n w (went n w st i (Server v) (serving.next_of v))
  server_goes on = sits_by n w (server_stepped n (scene_in st sits.facets) i v on.sent)
      (slice_set st.seats i (Server (serving.fed v (finds (serving.next_of v) st.words))))
      (words_stepped (serving.next_of v) st.words) st.front on.all
      (only_is n (scene_in st sits.facets) i v on.sent v.stage sits.only)
      (words_are n (scene_in st sits.facets) i v on.sent v.stage refl)
      (front_is n (scene_in st sits.facets) i v on.sent v.stage)

pub servers_run : ServerRuns
servers_run n w st i v sits here = step_sits n w st i (Server v) sits here
    (λ acts. server_goes n w st i v sits
    (servers_keep_all n w (scene_in st sits.facets) st.seats i v sits.all here acts))

-- ---- the collector

pub collectors_run : CollectorRuns
collectors_run n w st i c sits here came = step_sits n w st i (Collector c) sits here
    (λ acts. sits_by n w came.after (went n w st i (Collector c) (next_of (Collector c))).seats
    (went n w st i (Collector c) (next_of (Collector c))).words
    (went n w st i (Collector c) (next_of (Collector c))).front came.all came.only came.words
    came.front)
