-- All seats of a state: that the facets of the scene are those of the machines, and what each machine keeps of itself
-- and
-- of words.
use Rattle.std.specs.Prelude.{ℕ, ◌≡◌, ◌≢◌, ◌+◌, ◌<◌, Bool, false, true, List, [], length, map, slice_get, slice_index}
use Rattle.std.specs.Prelude.{Some, sum_by, count_by}
use Rattle.mako_words.specs.declared.name.Name.{Name}
use Rattle.mako_words.specs.declared.phase_word.PhaseWord.{PhaseWord}
use Rattle.mako_words.specs.declared.phase_word.PhaseWord.TheVariants.{Idle, Trace, Evac, Stop}
use Rattle.mako_words.specs.Phases.{cycle_of}
use Rattle.mako_shape.specs.declared.numbers.Numbers.{Numbers}
use Rattle.mako_shape.specs.Places.{finished, word_at}
use Rattle.mako_model.specs.declared.point.Point.{Point}
use Rattle.mako_model.specs.Legal.{Facts, state_of}
use Rattle.mako_model.specs.Sizes.{ObjectsAreSmall}
use Rattle.mako_names.specs.Freeing.{own_entries}
use Rattle.mako_names.specs.Notices.{Gathering}
use Rattle.mako_names.specs.Tables.{phase_of}
use Rattle.mako_layout.specs.Facets.{Gift, rests_with, times_in}
use Rattle.mako_layout.specs.Layouts.{regions_of}
use Rattle.mako_layout.specs.StepParts.{collector_seat}
use Rattle.mako_gate.specs.Sums.{counted}
use Rattle.mako_phases.specs.Lives.{LiveFacet, elsewhere, AreCounted, ArePast}
use Rattle.mako_phases.specs.Snapshots.{before_snap}
use Rattle.mako_joint.specs.Joints.{JointScene, Joint}
use Rattle.mako_mutator.specs.declared.progress.Task.{Task}
use Rattle.mako_mutator.specs.declared.progress.Task.TheVariants.{Attempting, Awaiting, Finishing, Ended as TaskEnded}
use Rattle.mako_mutator.specs.Drivers.{Driving}
use Rattle.mako_server.specs.Serving.{Serving}
use Rattle.mako_server.specs.declared.stage.ServerStage.{ServerStage}
use Rattle.mako_server.specs.declared.stage.ServerStage.TheVariants.{Turning, Tracing, Evacuating, Ended}
use Rattle.mako_pause.specs.Collecting.{Collecting, Holdings, running}
use Rattle.mako_pause.specs.Keeping.{IsKeptKnown}
use Rattle.mako_pause.specs.Opening.{is_new}
use Rattle.mako_pause.specs.Regions.{is_spare}
use Rattle.mako_pause.specs.declared.stage.Pause.TheVariants.{Choice as ForChoice}
use Rattle.mako_pause.specs.declared.stage.PauseStage.TheVariants.{Shutting, Draining, Opening}
use Rattle.mako_pause.specs.declared.stage.CollectStage.{CollectStage}
use Rattle.mako_pause.specs.declared.stage.CollectStage.TheVariants.{Idle as CollectIdle, Pausing, Forwarding, Barriers}
use Rattle.mako_pause.specs.declared.stage.CollectStage.TheVariants.{Emptying, Polling, Choosing, Noticing}
use Rattle.mako_pause.specs.declared.stage.CollectStage.TheVariants.{Ended as CollectEnded}
use Rattle.mako_seat.specs.declared.seat.Seat.{Seat}
use Rattle.mako_seat.specs.declared.seat.Seat.TheVariants.{Mutator, Server, Collector}
use Rattle.mako_state.specs.Facets.{ended_of}
use Rattle.mako_mutating.specs.Mutators.{IsSeen, view_of, MutatorKeeps}
use Rattle.mako_making.specs.Makings.{TaskSearches}
use Rattle.mako_tracing.specs.ServerFacets.{IsServerSeat, server_live, tracer_laden}
use Rattle.mako_tracing.specs.ServerKeeps.{ServerKeeps, SlotsBelong}
use Rattle.mako_tracing.specs.ServerLives.{IsMeasured}
use Rattle.mako_clearing.specs.Clearing.{ClearingStands}
use Rattle.mako_clearing.specs.Notices.{SendingStands}
use Rattle.mako_clearing.specs.Hearing.{notice_gathers}
use Rattle.mako_collecting.specs.Facets.{IsCollector}
use Rattle.mako_collecting.specs.Findings.{StageFound}
use Rattle.mako_collecting.specs.Keeping.{CollectorKeeps}
use Rattle.mako_collecting.specs.Roles.{ChoiceOf, role_of}

-- ---- mutators

-- the next name of a put goes into the barrier slot that it keeps, in each attempt
abbrev pub PutsAt : ℕ → Task → Type 0
PutsAt place (Attempting c) = c.slot ≡ place
PutsAt place (Awaiting c) = c.slot ≡ place
PutsAt place Finishing = Unit {0}
PutsAt place TaskEnded = Unit {0}

-- the facets of its seat are those of the mutator, and it keeps what it keeps of itself, also while it makes an object
pub record MutatorSits (n : Numbers) (w : Facts) (s : JointScene) (place : ℕ) (m : ℕ) (d : Driving) : Type 0 where
  pub seen : IsSeen s m (view_of d)
  pub keeps : MutatorKeeps n w s.words s.front m d
  pub searches : TaskSearches n s.words d.progress.task
  pub puts : PutsAt place d.progress.task

-- ---- servers

-- what a server at rest has gone over: all of its entries if it has ended the running cycle, and else none
abbrev pub GoneOver : Numbers → PhaseWord → (ended through : ℕ) → Type 0
GoneOver n (Idle cycle) ended through = Unit {0}
GoneOver n (Trace cycle) ended through = (ended ≡ cycle → through ≡ own_entries n) × (ended ≢ cycle → through ≡ 0)
GoneOver n (Evac cycle) ended through = (ended ≡ cycle → through ≡ own_entries n) × (ended ≢ cycle → through ≡ 0)
GoneOver n (Stop cycle) ended through = Unit {0}

-- where no cycle runs the collector has heard all that it sent
abbrev pub HeardIn : PhaseWord → (sent : List Name) → (done : Bool) → Type 0
HeardIn (Idle cycle) sent done = (sent ≡ []) × (done ≡ false)
HeardIn (Trace cycle) sent done = Unit {0}
HeardIn (Evac cycle) sent done = Unit {0}
HeardIn (Stop cycle) sent done = Unit {0}

-- A server that is not evacuating: how far it has come with freeing, and what it has sent. The end of a cycle stands in
-- its ring only if it has ended the running one.
pub record RestSits (n : Numbers) (s : JointScene) (taker : ℕ) (v : Serving) : Type 0 where
  pub through : ℕ
  pub through_is : slice_get s.facets.names.through v.tracer.server ≡ Some through
  pub gone_over : GoneOver n (phase_of n s.words) v.ended through
  pub sent : List Name
  pub done : Bool
  pub sent_is : slice_get s.facets.names.sent v.tracer.server ≡ Some sent
  pub sending : SendingStands n s.words v.tracer.server taker v.notice_at sent [] done
  pub ended : done ≡ true → v.ended ≡ cycle_of (phase_of n s.words)
  pub heard : HeardIn (phase_of n s.words) sent done

-- a server that evacuates
abbrev pub StageSits : Numbers → Facts → JointScene → ℕ → Serving → ServerStage → Type 0
StageSits n w s taker v Turning = RestSits n s taker v
StageSits n w s taker v Tracing = RestSits n s taker v
StageSits n w s taker v (Evacuating e) =
    (sent : List Name) × ClearingStands n w s e v.ended (tracer_laden v.tracer) taker sent
StageSits n w s taker v Ended = RestSits n s taker v

-- the seat is that of the server with its number, with its facets, and it keeps what it keeps of itself
pub record ServerSits (n : Numbers) (w : Facts) (s : JointScene) (taker : ℕ) (seat : ℕ) (v : Serving) : Type 0 where
  pub number : seat ≡ n.mutators + v.tracer.server
  pub in_range : v.tracer.server < n.servers
  pub here : IsServerSeat s seat v
  pub keeps : ServerKeeps n v
  pub stage : StageSits n w s taker v v.stage
  pub measured : IsMeasured (state_of w s.front.history) v.tracer.stage

-- ---- the collector

-- The names that it has got of servers, by its stage: none before the notices.
abbrev pub GathersAt : Numbers → Holdings → CollectStage → Gathering → Type 0
GathersAt n k (CollectIdle stage) g = k.freed ≡ []
GathersAt n k (Pausing (Opening m)) g = (k.freed ≡ []) × (g ≡ record { server = 0; names = [] })
GathersAt n k (Pausing (Shutting ForChoice m)) g = (k.freed ≡ []) × (g ≡ record { server = 0; names = [] })
GathersAt n k (Pausing (Draining ForChoice m)) g = (k.freed ≡ []) × (g ≡ record { server = 0; names = [] })
GathersAt n k (Pausing stage) g = k.freed ≡ []
GathersAt n k (Forwarding stage) g = (k.freed ≡ []) × (g ≡ record { server = 0; names = [] })
GathersAt n k (Barriers stage) g = (k.freed ≡ []) × (g ≡ record { server = 0; names = [] })
GathersAt n k (Emptying r) g = (k.freed ≡ []) × (g ≡ record { server = 0; names = [] })
GathersAt n k Polling g = (k.freed ≡ []) × (g ≡ record { server = 0; names = [] })
GathersAt n k (Choosing stage) g = (k.freed ≡ []) × (g ≡ record { server = 0; names = [] })
GathersAt n k (Noticing stage) g = g ≡ notice_gathers n k stage
GathersAt n k CollectEnded g = k.freed ≡ []

-- the regions that its roles tell to be spare in the running cycle are those that the layout has as spare
abbrev pub SparesAre : Numbers → Holdings → List ℕ → Type 0
SparesAre n k spare = (r : ℕ) → r < regions_of n → times_in spare r ≡ counted (is_spare (running k) (role_of k r)) 1

-- How far the choice of tablets is. Before it nothing is given out; from it on to the end of the cycle it is the choice
-- of its stage.
abbrev pub ChoiceSits : Numbers → JointScene → Holdings → CollectStage → Type 0
ChoiceSits n s k (Choosing stage) =
    (given : List Gift) × (spare : List ℕ) × ChoiceOf n s.words s.facets.choice k (Choosing stage) given spare
ChoiceSits n s k (Noticing stage) =
    (given : List Gift) × (spare : List ℕ) × ChoiceOf n s.words s.facets.choice k (Noticing stage) given spare
ChoiceSits n s k stage = (spare : List ℕ) × (s.facets.choice ≡ rests_with spare) × SparesAre n k spare

-- as many names may be freed as programs make, and the board's
abbrev pub names_room : Facts → ℕ
names_room w = sum_by (λ calls. count_by is_new calls) w.programs + 1

-- The last seat is the collector's, with its facets, and it keeps what it keeps of itself: of rings, of what it has
-- found
-- of tops and live words, of regions, of the names that it has got, and of the finished cycles.
pub record CollectorSits (n : Numbers) (w : Facts) (s : JointScene) (taker places : ℕ → ℕ) (seat : ℕ) (c : Collecting) :
    Type 0 where
  pub number : seat ≡ collector_seat n
  pub here : IsCollector n s c
  pub known : IsKeptKnown c.kept
  pub keeps : CollectorKeeps n s.words places c
  pub takes : (r : ℕ) → taker r ≡ slice_index c.kept.notice_at r
  pub found : StageFound n s.words c.kept c.stage
  pub choice : ChoiceSits n s c.kept c.stage
  pub gathers : GathersAt n c.kept c.stage s.facets.names.collector
  pub lists : c.kept.cycles.lists ≡ s.front.finished
  pub room : c.kept.cycles.names_room ≡ names_room w

-- ---- live counts

abbrev pub live_facet : Seat → LiveFacet
live_facet (Mutator d) = elsewhere
live_facet (Server v) = server_live v
live_facet (Collector c) = elsewhere

-- while a cycle is traced they are right, and else they are past
abbrev pub LivesFit : PhaseWord → Numbers → Facts → List ℕ → List Point → List LiveFacet → Type 0
LivesFit (Idle cycle) n w words history lives = ArePast n words lives cycle
LivesFit (Trace cycle) n w words history lives = AreCounted n w words lives (before_snap cycle history) cycle
LivesFit (Evac cycle) n w words history lives = ArePast n words lives cycle
LivesFit (Stop cycle) n w words history lives = ArePast n words lives cycle

-- ---- all of them

abbrev pub SeatSits : Numbers → Facts → JointScene → (taker places : ℕ → ℕ) → ℕ → Seat → Type 0
SeatSits n w s taker places i (Mutator d) = MutatorSits n w s (places i) i d
SeatSits n w s taker places i (Server v) = ServerSits n w s (taker v.tracer.server) i v
SeatSits n w s taker places i (Collector c) = CollectorSits n w s taker places i c

-- All groups hold, and each seat sits in the scene with its own facets: the collector takes the notices of each server
-- at
-- one place of its ring, and each mutator puts names at one place of its barrier ring. Names in slots belong to their
-- takers, no object has many fields, live counts are right, and the finished word counts the mutators at their ends.
pub record AllSit (n : Numbers) (w : Facts) (s : JointScene) (seats : List Seat) : Type 0 where
  pub joint : Joint n w s
  pub taker : ℕ → ℕ
  pub places : ℕ → ℕ
  pub count : length seats ≡ n.mutators + n.servers + 1
  pub each : (i : ℕ) (v : Seat) → slice_get seats i ≡ Some v → SeatSits n w s taker places i v
  pub slots : SlotsBelong n s.words
  pub few : ObjectsAreSmall (state_of w s.front.history)
  pub lives : LivesFit (phase_of n s.words) n w s.words s.front.history (map live_facet seats)
  pub ends : word_at n s.words finished ≡ sum_by ended_of seats
