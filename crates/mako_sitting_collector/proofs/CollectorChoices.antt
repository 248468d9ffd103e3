-- The steps of the choice keep all seats.
use Rattle.std.proofs.Common.{◌≡◌, ℕ, List, [], map, slice_get, slice_set, slice_index, Some, sym, ap, ◌∙◌, arith}
use Rattle.mako_shape.specs.declared.numbers.Numbers.{Numbers}
use Rattle.mako_step.specs.Acts.{finds}
use Rattle.mako_model.specs.Legal.{Facts}
use Rattle.mako_names.specs.Notices.{Gathering}
use Rattle.mako_layout.specs.Facets.{Gift}
use Rattle.mako_joint.specs.Joints.{JointScene, Joint}
use Rattle.mako_pause.specs.Collecting.{Collecting, Holdings, at, next_of, Fits}
use Rattle.mako_pause.specs.declared.stage.ChoiceStage.{ChoiceStage}
use Rattle.mako_pause.specs.declared.stage.ChoiceStage.TheVariants.{LoadingLive, LoadingTop, LoadingHome}
use Rattle.mako_pause.specs.declared.stage.ChoiceStage.TheVariants.{StoringLeaving, StoringHome, StoringTop}
use Rattle.mako_pause.specs.declared.stage.ChoiceStage.TheVariants.{StoringEvac, Opening as Reopening}
use Rattle.mako_pause.specs.declared.stage.CollectStage.{CollectStage}
use Rattle.mako_pause.specs.declared.stage.CollectStage.TheVariants.{Idle, Pausing, Forwarding, Barriers, Emptying}
use Rattle.mako_pause.specs.declared.stage.CollectStage.TheVariants.{Polling, Choosing, Noticing, Ended}
use Rattle.mako_server.specs.Serving.{Serving}
use Rattle.mako_seat.specs.declared.seat.Seat.{Seat}
use Rattle.mako_seat.specs.declared.seat.Seat.TheVariants.{Server, Collector}
use Rattle.mako_collecting.specs.Choosing.{given_next, spare_next, choice_next}
use Rattle.mako_collecting.specs.Findings.{StageFound}
use Rattle.mako_collecting.specs.Laws.{Stands, ChoiceMayGo}
use Rattle.mako_collecting.specs.Roles.{ChoiceOf, HasSpare}
use Rattle.mako_collecting.specs.Steps.{words_next, collector_next, chosen}
use Rattle.mako_collecting.proofs.EachKept.{seats_stay, steps_keep_their_own}
use Rattle.mako_collecting.proofs.EachStage.{choice_steps_keep}
use Rattle.mako_collecting.proofs.Findings.{findings_are_kept}
use Rattle.mako_collecting.proofs.Known.{steps_keep_known}
use Rattle.mako_collecting.proofs.Roles.{gifts_may_be_given}
use Rattle.mako_collecting.proofs.RolesKept.{choices_are_kept}
use Rattle.mako_sitting.specs.Seats.{ChoiceSits, GathersAt, ServerSits, CollectorSits, live_facet, AllSit}
use Rattle.mako_sitting_collector.specs.CollectorChoices.{IsOfChoice, ChoicesKeepAll}
use Rattle.mako_sitting_collector.proofs.CollectorChosen.{IsChoosing, GoesOnChoosing, choice_goes, choice_leaves_rest}
use Rattle.mako_sitting_collector.proofs.CollectorChosen.{LeavesRest, rest_slots, rest_lives, rest_seats, rest_servers}
use Rattle.mako_sitting_collector.proofs.CollectorOthers.{servers_sit, all_sit}

-- ---- at the next stage

choice_by : (n : Numbers) (s : JointScene) (k : Holdings) (stage : CollectStage) → IsChoosing stage
    → (given : List Gift) (spare : List ℕ) → ChoiceOf n s.words s.facets.choice k stage given spare
    → ChoiceSits n s k stage
choice_by n s k (Choosing stage) is given spare o = (given, spare, o)
choice_by n s k (Idle stage) is given spare o = absurd is
choice_by n s k (Pausing stage) is given spare o = absurd is
choice_by n s k (Forwarding stage) is given spare o = absurd is
choice_by n s k (Barriers stage) is given spare o = absurd is
choice_by n s k (Emptying r) is given spare o = absurd is
choice_by n s k Polling is given spare o = absurd is
choice_by n s k (Noticing stage) is given spare o = absurd is
choice_by n s k Ended is given spare o = absurd is

gathers_by : (n : Numbers) (k : Holdings) (stage : CollectStage) → IsChoosing stage → (g : Gathering) → k.freed ≡ []
    → g ≡ record { server = 0; names = [] } → GathersAt n k stage g
gathers_by n k (Choosing stage) is g none fresh = (none, fresh)
gathers_by n k (Idle stage) is g none fresh = absurd is
gathers_by n k (Pausing stage) is g none fresh = absurd is
gathers_by n k (Forwarding stage) is g none fresh = absurd is
gathers_by n k (Barriers stage) is g none fresh = absurd is
gathers_by n k (Emptying r) is g none fresh = absurd is
gathers_by n k Polling is g none fresh = absurd is
gathers_by n k (Noticing stage) is g none fresh = absurd is
gathers_by n k Ended is g none fresh = absurd is

-- what the stage asks
may_go : (n : Numbers) (w : Facts) (s : JointScene) (places : ℕ → ℕ) (k : Holdings) (stage : ChoiceStage)
    → IsOfChoice stage → Stands n w s places (at k (Choosing stage)) → StageFound n s.words k (Choosing stage)
    → HasSpare k stage → (given : List Gift) (spare : List ℕ)
    → ChoiceOf n s.words s.facets.choice k (Choosing stage) given spare → ChoiceMayGo n s k stage given spare
may_go n w s places k (LoadingLive r place) is x found has given spare o = tt
may_go n w s places k (LoadingTop r place number) is x found has given spare o = tt
may_go n w s places k (LoadingHome i) is x found has given spare o = has
may_go n w s places k (StoringLeaving i gift) is x found has given spare o =
    gifts_may_be_given n w s places k (StoringLeaving i gift) x found given spare o
may_go n w s places k (StoringHome i gift) is x found has given spare o = tt
may_go n w s places k (StoringTop i) is x found has given spare o = tt
may_go n w s places k StoringEvac is x found has given spare o = absurd is
may_go n w s places k (Reopening m) is x found has given spare o = absurd is

-- ---- all seats

module _ (n : Numbers) (w : Facts) (s : JointScene) (seats : List Seat) (i : ℕ) (k : Holdings) (stage : ChoiceStage)
    (is : IsOfChoice stage) (all : AllSit n w s seats)
    (here : slice_get seats i ≡ Some (Collector (at k (Choosing stage))))
    (fits : Fits (at k (Choosing stage)) (finds (next_of (at k (Choosing stage))) s.words)) (has : HasSpare k stage)
    (given : List Gift) (spare : List ℕ)
    (choice : ChoiceOf n s.words s.facets.choice k (Choosing stage) given spare) where
  abbrev c : Collecting
  c = at k (Choosing stage)

  abbrev next : Collecting
  next = collector_next (at k (Choosing stage)) s.words

  abbrev us : List ℕ
  us = words_next (at k (Choosing stage)) s.words

  abbrev after : JointScene
  after = chosen n s k stage given spare

  sits : CollectorSits n w s all.taker all.places i c
  sits = all.each i (Collector c) here

  stands : Stands n w s all.places c
  stands = record { joint = all.joint; seat = sits.here; known = sits.known; keeps = sits.keeps }

  joint : Joint n w after
  joint =
      choice_steps_keep n w s all.places k stage stands given spare choice.begun
      (may_go n w s all.places k stage is stands sits.found has given spare choice)

  goes : GoesOnChoosing k next
  goes = choice_goes k stage is (finds (next_of c) s.words)

  rest : LeavesRest n s.words us
  rest = choice_leaves_rest n w s all.places k stage is stands

  own : CollectorSits n w after all.taker all.places i next
  own = record {
    number = sits.number;
    here = seats_stay n s c next us (choice_next k stage given spare) sits.here (goes.shape ∙ sits.here.shape);
    known = steps_keep_known n w s all.places k (Choosing stage) tt stands fits;
    keeps = steps_keep_their_own n w s all.places k (Choosing stage) tt stands fits;
    takes = λ r. sits.takes r ∙ ap (λ xs. slice_index xs r) (sym goes.notices);
    found = findings_are_kept n w s all.places k (Choosing stage) tt stands sits.found;
    choice = choice_by n after next.kept next.stage goes.chooses (given_next k stage given) (spare_next stage spare)
        (choices_are_kept n w s all.places k stage stands sits.found has given spare choice);
    gathers = gathers_by n next.kept next.stage goes.chooses s.facets.names.collector (goes.freed ∙ sits.gathers.0)
        sits.gathers.1;
    lists = ap (λ x. x.lists) goes.cycles ∙ sits.lists;
    room = ap (λ x. x.names_room) goes.cycles ∙ sits.room;
  }

  server : (l : ℕ) (v : Serving) → slice_get seats l ≡ Some (Server v)
      → ServerSits n w after (all.taker v.tracer.server) l v
  server l v there =
      let were : ServerSits n w s (all.taker v.tracer.server) l v = all.each l (Server v) there in
      let number = were.number in
      let low = were.in_range in
      servers_sit n w s all.joint after
      (rest_seats n w s all.joint us (choice_next k stage given spare) next rest) joint
      (rest_servers n w s all.joint us (choice_next k stage given spare) next rest) (all.taker v.tracer.server) l v
      (λ e. absurd (omega arith)) were

  pub choices_keep : AllSit n w after (slice_set seats i (Collector next))
  choices_keep =
      all_sit n w s seats i c next after all here
      (rest_seats n w s all.joint us (choice_next k stage given spare) next rest) joint all.taker server own
      (rest_slots n s.words us rest all.slots) all.few
      (rest_lives n s.words us rest w s.front.history (map live_facet seats) joint.names.hold.size all.lives)

pub choices_keep_all : ChoicesKeepAll
choices_keep_all n w s seats i k stage is all here fits has given spare choice =
    choices_keep n w s seats i k stage is all here fits has given spare choice
