-- What stands in states of a core: at its start, after each step of a mutator and of a server, and so over runs.
use Rattle.std.proofs.Common.{◌≡◌, ℕ, List, slice_get, slice_set, Option, Some, None, sym, subst, refl, ◌<◌, ◌+◌}
use Rattle.std.proofs.Common.{length}
use Rattle.std.specs.List.{Contains}
use Rattle.std.proofs.lemmas.Option.{slice_get_within}
use Rattle.mako_words.specs.declared.name.Name.{Name}
use Rattle.mako_shape.specs.declared.numbers.Numbers.{Numbers}
use Rattle.mako_step.specs.Acts.{finds, words_stepped}
use Rattle.mako_step.specs.Machines.{IsAct}
use Rattle.mako_step.specs.declared.step.Step.{Step}
use Rattle.mako_step.specs.declared.step.Step.TheVariants.{Do, Ended as NoStep}
use Rattle.mako_model.specs.Answering.{Answers, AnswersToEnd}
use Rattle.mako_model.specs.Dead.{AreFreed}
use Rattle.mako_model.specs.Fronts.{Seen, replies_to}
use Rattle.mako_model.specs.Legal.{Facts}
use Rattle.mako_model.proofs.Following.{in_none}
use Rattle.mako_names.proofs.Going.{map_get}
use Rattle.mako_script.specs.ScriptFacts.{facts_of}
use Rattle.mako_script.specs.Scripts.{ScriptView, IsProper}
use Rattle.mako_mutator.specs.Drivers as drivers
use Rattle.mako_mutator.specs.Drivers.{Driving}
use Rattle.mako_mutator.specs.declared.progress.Task.TheVariants.{Ended as TaskEnded}
use Rattle.mako_mutating.specs.Mutators as mutating
use Rattle.mako_server.specs.Serving as serving
use Rattle.mako_server.specs.Serving.{Serving}
use Rattle.mako_server.specs.declared.stage.ServerStage.{ServerStage}
use Rattle.mako_server.specs.declared.stage.ServerStage.TheVariants.{Turning, Tracing, Evacuating, Ended}
use Rattle.mako_tracing.specs.Laws.{server_next}
use Rattle.mako_tracing.specs.ServerFacets.{server_trace}
use Rattle.mako_seat.specs.declared.seat.Seat.{Seat}
use Rattle.mako_seat.specs.declared.seat.Seat.TheVariants.{Mutator, Server, Collector}
use Rattle.mako_seat.specs.Seats.{next_of, fed, event_of}
use Rattle.mako_state.specs.CoreStates.{CoreState, got_by, front_after, made, stepped_by, step_of}
use Rattle.mako_state.specs.Openings.{opening_seats, opening_core}
use Rattle.mako_state.specs.Runs.{Reached}
use Rattle.mako_state.specs.Runs.Reached.{Starts, Steps}
use Rattle.mako_joint.specs.Joints.{JointScene}
use Rattle.mako_sitting.specs.Seats.{AllSit, SeatSits}
use Rattle.mako_sitting_servers.specs.ServerSteps.{stage_after, server_stepped}
use Rattle.mako_whole.specs.AllRuns.{scene_in}
use Rattle.mako_whole.specs.AllGifts.{GiftsAreNext}
use Rattle.mako_whole.specs.AllHoused.{AllHoused}
use Rattle.mako_whole.specs.AllNotices.{NoticesStand, ServerTells}
use Rattle.mako_whole.specs.AllStanding.{SeatsStand, CollectorStands, AllRunsStand}
use Rattle.mako_sitting_collector.specs.CollectorGoing.{BarriersHold}
use Rattle.mako_sitting_collector.specs.CollectorSnaps.{SeatsAreAll}
use Rattle.mako_sitting.specs.Openings.{opening_scene, trace_facet, held_facet}
use Rattle.mako_whole.proofs.AllBarriers.{openings_hold_barriers, servers_hold_barriers}
use Rattle.mako_whole.proofs.AllBarriersMutator.{mutators_hold_barriers}
use Rattle.mako_whole.proofs.AllGiftsSeats.{openings_give_none, mutators_keep_gifts, servers_keep_gifts}
use Rattle.mako_whole.proofs.AllHoused.{openings_are_housed, mutators_leave_housed, servers_leave_housed}
use Rattle.mako_whole.proofs.AllNotices.{opening_notices, mutator_notices}
use Rattle.mako_whole.proofs.AllNoticesServers.{server_notices}
use Rattle.mako_whole.proofs.AllRuns.{words_are}
use Rattle.mako_sitting_collector.proofs.CollectorFacets.{steps_add_no_facet}
use Rattle.mako_sitting_mutators.proofs.MutatorSteps.{mutators_keep_all}
use Rattle.mako_sitting.proofs.OpeningSits.{openings_sit}
use Rattle.mako_sitting.proofs.Telling.{fronts_answer, fronts_answer_to_end, freed_are_those, replies_are_told}

-- ---- a step

-- what stands in a scene stands in the state with its words and its front
pub stands_by : (n : Numbers) (w : Facts) (after : JointScene) (seats : List Seat) (words : List ℕ) (front : Seen)
    → AllSit n w after seats → SeatsAreAll n after → BarriersHold n after.words → NoticesStand n after seats
    → AllHoused n after.words seats → GiftsAreNext n after seats → after.words ≡ words → after.front ≡ front
    → SeatsStand n w (record { words = words; seats = seats; front = front })
stands_by n w after seats words front all behind barriers notices housed gifts same told =
    subst (λ (us : List ℕ). SeatsStand n w (record { words = us; seats = seats; front = front })) same
    (subst (λ (f : Seen). SeatsStand n w (record { words = after.words; seats = seats; front = f })) told
    (record {
      facets = after.facets;
      all = all;
      behind = record { traces = behind.traces; held = behind.held };
      barriers = barriers;
      notices = record { read = notices.read; knows = notices.knows };
      housed = housed;
      gifts = gifts;
    }))

module _ (n : Numbers) (w : Facts) (st : CoreState) (i : ℕ) (v : Seat) where
  -- the state after a step that the seat makes
  abbrev pub went : Step → CoreState
  went next = record {
    words = words_stepped next st.words;
    seats = slice_set st.seats i (fed v (finds next st.words));
    front = front_after st.front (got_by v) (event_of v (finds next st.words));
  }

  -- a seat at its end changes nothing
  stays_or_goes : SeatsStand n w st → (next : Step) → (IsAct next → SeatsStand n w (went next))
      → SeatsStand n w (made st i v next)
  stays_or_goes stands (Do act) goes = goes tt
  stays_or_goes stands NoStep goes = stands

  pub step_stands : SeatsStand n w st → slice_get st.seats i ≡ Some v
      → (IsAct (next_of v) → SeatsStand n w (went (next_of v))) → SeatsStand n w (step_of st i)
  step_stands stands here goes =
      subst (λ o. SeatsStand n w (stepped_by st i o)) (sym here) (stays_or_goes stands (next_of v) goes)

-- ---- mutators

pub mutators_stand : (n : Numbers) (w : Facts) (st : CoreState) (m : ℕ) (d : Driving) → SeatsStand n w st
    → slice_get st.seats m ≡ Some (Mutator d) → SeatsStand n w (step_of st m)
mutators_stand n w st m d stands here = step_stands n w st m (Mutator d) stands here
    (λ acts. let s = scene_in st stands.facets in let after = mutating.stepped s m d in
    let next = mutating.view_of (drivers.fed d (mutating.found_by s d)) in record {
      facets = after.facets;
      all = mutators_keep_all n w s st.seats m d stands.all here acts;
      behind = (steps_add_no_facet n s after stands.behind).held m next.trace next.held
          (stands.all.each m (Mutator d) here).keeps.in_range refl refl;
      barriers = mutators_hold_barriers n w s st.seats m d stands.all here acts stands.barriers;
      notices = mutator_notices n w s st.seats m d stands.all here acts stands.notices;
      housed = mutators_leave_housed n w s st.seats m d stands.all here stands.housed;
      gifts = mutators_keep_gifts n s st.seats m d stands.gifts;
    })

-- ---- servers

module _ (n : Numbers) (s : JointScene) (i : ℕ) (v : Serving) (sent : List Name) where
  none_behind : (stage : ServerStage) → SeatsAreAll n s → SeatsAreAll n (stage_after n s i v sent stage)
  none_behind Turning behind = (steps_add_no_facet n s (stage_after n s i v sent Turning) behind).traces i
      (server_trace (server_next v s.words)) refl refl
  none_behind Tracing behind = (steps_add_no_facet n s (stage_after n s i v sent Tracing) behind).traces i
      (server_trace (server_next v s.words)) refl refl
  none_behind (Evacuating e) behind =
      (steps_add_no_facet n s (stage_after n s i v sent (Evacuating e)) behind).same refl refl
  none_behind Ended behind = behind

  -- no server's step is seen at the front
  front_stays : (stage : ServerStage) → (stage_after n s i v sent stage).front ≡ s.front
  front_stays Turning = refl
  front_stays Tracing = refl
  front_stays (Evacuating e) = refl
  front_stays Ended = refl

module _ (n : Numbers) (w : Facts) (st : CoreState) (i : ℕ) (v : Serving) (stands : SeatsStand n w st)
    (here : slice_get st.seats i ≡ Some (Server v)) where
  abbrev scene : JointScene
  scene = scene_in st stands.facets

  -- the scene that its notices tell, with what it has sent, is the one of all facts
  server_goes : ServerTells n w scene st.seats i v → SeatsStand n w (went n w st i (Server v) (serving.next_of v))
  server_goes tells = let sent = tells.goes.sent in
      stands_by n w (server_stepped n scene i v sent)
      (slice_set st.seats i (Server (serving.fed v (finds (serving.next_of v) st.words))))
      (words_stepped (serving.next_of v) st.words) st.front tells.goes.all
      (none_behind n scene i v sent v.stage stands.behind)
      (servers_hold_barriers n w scene st.seats i v sent stands.all here stands.barriers) tells.stand
      (servers_leave_housed n w scene st.seats i v sent stands.all here stands.housed)
      (servers_keep_gifts n scene st.seats i v sent stands.gifts)
      (words_are n scene i v sent v.stage refl) (front_stays n scene i v sent v.stage)

pub servers_stand : (n : Numbers) (w : Facts) (st : CoreState) (i : ℕ) (v : Serving) → SeatsStand n w st
    → slice_get st.seats i ≡ Some (Server v) → SeatsStand n w (step_of st i)
servers_stand n w st i v stands here = step_stands n w st i (Server v) stands here
    (λ acts. server_goes n w st i v stands here
    (server_notices n w (scene_in st stands.facets) st.seats i v stands.all here acts stands.notices))

-- ---- the start

-- facets are of seats, and servers and the collector hold no names
module _ (s : ScriptView) (all : AllSit s.numbers (facts_of s) (opening_scene s) (opening_seats s)) where
  holder_is_low : (i : ℕ) (v : Seat) (name : Name)
      → SeatSits s.numbers (facts_of s) (opening_scene s) all.taker all.places i v → Contains (held_facet v) name
      → i < s.numbers.mutators
  holder_is_low i (Mutator d) name sits has = sits.keeps.in_range
  holder_is_low i (Server v) name sits has = absurd (in_none name has)
  holder_is_low i (Collector c) name sits has = absurd (in_none name has)

  none_behind_at_start : SeatsAreAll s.numbers (opening_scene s)
  none_behind_at_start = record {
    traces = λ i f at. let t = map_get trace_facet (opening_seats s) i f at in
        let low : i < length (opening_seats s) = slice_get_within (opening_seats s) i t.0 t.1 in
        subst (λ z. i < z) all.count low;
    held = λ i names name at has. let t = map_get held_facet (opening_seats s) i names at in
        holder_is_low i t.0 name (all.each i t.0 t.1) (subst (λ xs. Contains xs name) (sym t.2) has);
  }

pub openings_stand : (s : ScriptView) → IsProper s → SeatsStand s.numbers (facts_of s) (opening_core s)
openings_stand s proper = record {
  facets = (opening_scene s).facets;
  all = openings_sit s proper;
  behind = none_behind_at_start s (openings_sit s proper);
  barriers = openings_hold_barriers s proper;
  notices = opening_notices s proper;
  housed = openings_are_housed s proper;
  gifts = openings_give_none s proper;
}

-- ---- runs

module _ (collector : CollectorStands) where
  pub seat_stands : (n : Numbers) (w : Facts) (st : CoreState) → SeatsStand n w st → (i : ℕ) (o : Option Seat)
      → slice_get st.seats i ≡ o → SeatsStand n w (step_of st i)
  seat_stands n w st stands i None here = subst (λ o. SeatsStand n w (stepped_by st i o)) (sym here) stands
  seat_stands n w st stands i (Some (Mutator d)) here = mutators_stand n w st i d stands here
  seat_stands n w st stands i (Some (Server v)) here = servers_stand n w st i v stands here
  seat_stands n w st stands i (Some (Collector c)) here = collector n w st i c stands here

  pub all_runs_stand : AllRunsStand
  all_runs_stand s st proper reached = holds reached
    where
      holds : {st : CoreState} → Reached s st → SeatsStand s.numbers (facts_of s) st
      holds Starts = openings_stand s proper
      holds (Steps st i reached) =
          seat_stands s.numbers (facts_of s) st (holds reached) i (slice_get st.seats i) refl

-- ---- what stands tells

-- of the front, of the replies of each mutator, and of what each finished cycle freed
module _ (n : Numbers) (w : Facts) (st : CoreState) (stands : SeatsStand n w st) where
  pub standing_answers : Answers w st.front
  standing_answers = fronts_answer n w (scene_in st stands.facets) st.seats stands.all

  pub standing_answers_to_end :
      ((m : ℕ) (d : Driving) → slice_get st.seats m ≡ Some (Mutator d) → d.progress.task ≡ TaskEnded)
      → AnswersToEnd w st.front
  standing_answers_to_end ended =
      fronts_answer_to_end n w (scene_in st stands.facets) st.seats stands.all ended

  pub standing_replies : (m : ℕ) (d : Driving) → slice_get st.seats m ≡ Some (Mutator d)
      → d.replies ≡ replies_to m st.front.history
  standing_replies m d here = replies_are_told n w (scene_in st stands.facets) st.seats m d stands.all here

  pub standing_frees : (i : ℕ) (names : List Name) → slice_get st.front.finished i ≡ Some names
      → AreFreed w st.front.history (i + 1) names
  standing_frees i names here =
      freed_are_those n w (scene_in st stands.facets) st.seats i names stands.all here

-- and so over runs
pub runs_answer : CollectorStands → (s : ScriptView) (st : CoreState) → IsProper s → Reached s st
    → Answers (facts_of s) st.front
runs_answer collector s st proper reached =
    standing_answers s.numbers (facts_of s) st (all_runs_stand collector s st proper reached)

pub runs_answer_to_end : CollectorStands → (s : ScriptView) (st : CoreState) → IsProper s → Reached s st
    → ((m : ℕ) (d : Driving) → slice_get st.seats m ≡ Some (Mutator d) → d.progress.task ≡ TaskEnded)
    → AnswersToEnd (facts_of s) st.front
runs_answer_to_end collector s st proper reached =
    standing_answers_to_end s.numbers (facts_of s) st (all_runs_stand collector s st proper reached)

pub runs_reply : CollectorStands → (s : ScriptView) (st : CoreState) (m : ℕ) (d : Driving) → IsProper s
    → Reached s st → slice_get st.seats m ≡ Some (Mutator d) → d.replies ≡ replies_to m st.front.history
runs_reply collector s st m d proper reached =
    standing_replies s.numbers (facts_of s) st (all_runs_stand collector s st proper reached) m d

pub runs_free : CollectorStands → (s : ScriptView) (st : CoreState) (i : ℕ) (names : List Name) → IsProper s
    → Reached s st → slice_get st.front.finished i ≡ Some names
    → AreFreed (facts_of s) st.front.history (i + 1) names
runs_free collector s st i names proper reached =
    standing_frees s.numbers (facts_of s) st (all_runs_stand collector s st proper reached) i names
