-- The collector among all seats finds each home as it stored it: no other seat stores one.
use Rattle.std.proofs.Common.{◌≡◌, ◌≢◌, ℕ, ◌*◌, ◌<◌, ⊎_elim, List, [], slice_get, set, Some, sym, subst, refl, ◌∙◌}
use Rattle.mako_words.specs.declared.name.Name.{Name}
use Rattle.mako_shape.specs.declared.numbers.Numbers.{Numbers}
use Rattle.mako_shape.specs.Belongings.{opening_home}
use Rattle.mako_shape.specs.Places.{home, word_at}
use Rattle.mako_step.specs.Trails.{stays}
use Rattle.mako_gate.proofs.Lists.{at_set}
use Rattle.mako_model.specs.Legal.{Facts}
use Rattle.mako_joint.specs.Joints.{JointScene}
use Rattle.mako_script.specs.Scripts.{ScriptView, IsProper}
use Rattle.mako_mutator.specs.Drivers.{Driving}
use Rattle.mako_server.specs.Serving.{Serving}
use Rattle.mako_pause.specs.Collecting.{Collecting, at}
use Rattle.mako_pause.specs.declared.stage.CollectStage.TheVariants.{Choosing}
use Rattle.mako_cycles.specs.Housing.{housed_opening}
use Rattle.mako_seat.specs.declared.seat.Seat.{Seat}
use Rattle.mako_seat.specs.declared.seat.Seat.TheVariants.{Mutator, Server, Collector}
use Rattle.mako_state.specs.Openings.{words_at_start}
use Rattle.mako_state.proofs.OpeningWords.{start_words}
use Rattle.mako_state.proofs.OpeningSeats.{IsOpeningSeat, of_mutator, of_server, of_collector, seat_is}
use Rattle.mako_mutating.specs.Mutators.{stepped}
use Rattle.mako_tracing.specs.Laws.{server_next}
use Rattle.mako_collecting.specs.Steps.{words_next, collector_next}
use Rattle.mako_writes.proofs.Mutators.{mutators_write}
use Rattle.mako_whole.specs.AllHoused.{SeatIsHoused, AllHoused, OpeningsAreHoused, MutatorsLeaveHoused}
use Rattle.mako_whole.specs.AllHoused.{ServersLeaveHoused, CollectorsStayHoused, AllHousedHaveSpares}
use Rattle.mako_sitting_mutators.specs.MutatorSteps.{mutator_next}
use Rattle.mako_sitting.specs.Seats.{AllSit, MutatorSits, ServerSits}
use Rattle.mako_sitting_servers.specs.ServerSteps.{server_stepped}
use Rattle.mako_whole.proofs.AllHousedStages.{stays_housed}
use Rattle.mako_whole.proofs.AllRuns.{words_are}
use Rattle.mako_sitting_collector.proofs.CollectorHoused.{housed_have_spares}
use Rattle.mako_sitting_servers.proofs.ServerFrames.{words_left}

-- ---- the start

module _ (s : ScriptView) (proper : IsProper s) where
  opens : {i : ℕ} {v : Seat} → IsOpeningSeat s i v → SeatIsHoused s.numbers (words_at_start s.numbers s.board) v
  opens (of_mutator m p at) = tt
  opens (of_server i j is low) = tt
  opens (of_collector i is) = record {
    script = s;
    shape = proper.shape;
    trail = [];
    homes = opening_home s.numbers;
    given = [];
    goes = stays (housed_opening s);
    stored = λ t low. sym (start_words s.numbers proper.shape s.board (home t) low);
  }

pub openings_are_housed : OpeningsAreHoused
openings_are_housed s proper i v here = opens s proper (seat_is s i v here)

-- ---- steps

-- the home words are as they were
abbrev SameHomes : Numbers → List ℕ → List ℕ → Type 0
SameHomes n words us =
    (t : ℕ) → t < n.servers * n.tablets → word_at n us (home t) ≡ word_at n words (home t)

beside : (n : Numbers) (words us : List ℕ) (v : Seat) → SameHomes n words us → SeatIsHoused n words v
    → SeatIsHoused n us v
beside n words us (Mutator d) same h = tt
beside n words us (Server v) same h = tt
beside n words us (Collector c) same h = record {
  script = h.script;
  shape = h.shape;
  trail = h.trail;
  homes = h.homes;
  given = h.given;
  goes = h.goes;
  stored = λ t low. h.stored t low ∙ sym (same t low);
}

-- one seat is another
once_set : (n : Numbers) (us : List ℕ) (seats : List Seat) (i : ℕ) (next : Seat) → SeatIsHoused n us next
    → ((j : ℕ) (v : Seat) → j ≢ i → slice_get seats j ≡ Some v → SeatIsHoused n us v)
    → AllHoused n us (set seats i next)
once_set n us seats i next own others j v here =
    ⊎_elim (λ t. subst (SeatIsHoused n us) t.1 own) (λ t. others j v t.0 t.1) (at_set seats i j next v here)

mutator_left : (n : Numbers) (w : Facts) (s : JointScene) (place m : ℕ) (d : Driving) → MutatorSits n w s place m d
    → SameHomes n s.words (stepped s m d).words
mutator_left n w s place m d sits =
    subst (λ (k : Numbers). SameHomes k s.words (stepped s m d).words) sits.keeps.shape
    (λ t low. mutators_write d s.words sits.keeps.known (home t) low (λ x. x))

pub mutators_leave_housed : MutatorsLeaveHoused
mutators_leave_housed n w s seats m d all is housed =
    once_set n (stepped s m d).words seats m (Mutator (mutator_next s d)) tt
    (λ j v apart here. beside n s.words (stepped s m d).words v
    (mutator_left n w s (all.places m) m d (all.each m (Mutator d) is)) (housed j v here))

module _ (n : Numbers) (w : Facts) (s : JointScene) (seats : List Seat) (i : ℕ) (v : Serving) (sent : List Name)
    (all : AllSit n w s seats) (is : slice_get seats i ≡ Some (Server v)) where
  sits : ServerSits n w s (all.taker v.tracer.server) i v
  sits = all.each i (Server v) is

  server_left : SameHomes n s.words (server_stepped n s i v sent).words
  server_left =
      subst (SameHomes n s.words) (sym (words_are n s i v sent v.stage refl))
      (λ t low. words_left n w s i v
      (record { joint = all.joint; slots = all.slots; here = sits.here; keeps = sits.keeps }) (home t) low (λ x. x))

pub servers_leave_housed : ServersLeaveHoused
servers_leave_housed n w s seats i v sent all is housed =
    once_set n (server_stepped n s i v sent).words seats i (Server (server_next v s.words)) tt
    (λ j u apart here. beside n s.words (server_stepped n s i v sent).words u (server_left n w s seats i v sent all is)
    (housed j u here))

module _ (n : Numbers) (w : Facts) (s : JointScene) (seats : List Seat) (i : ℕ) (c : Collecting)
    (all : AllSit n w s seats) (is : slice_get seats i ≡ Some (Collector c)) where
  -- there is no other collector
  others : (us : List ℕ) (j : ℕ) (v : Seat) → j ≢ i → slice_get seats j ≡ Some v → SeatIsHoused n us v
  others us j (Mutator d) apart here = tt
  others us j (Server v) apart here = tt
  others us j (Collector e) apart here =
      absurd (apart ((all.each j (Collector e) here).number ∙ sym (all.each i (Collector c) is).number))

pub collectors_stay_housed : CollectorsStayHoused
collectors_stay_housed n w s seats i c all is fits housed =
    let sits = all.each i (Collector c) is in
    once_set n (words_next c s.words) seats i (Collector (collector_next c s.words))
    (stays_housed n w s all.places c.kept c.stage
    (record { joint = all.joint; seat = sits.here; known = sits.known; keeps = sits.keeps }) fits
    (housed i (Collector c) is))
    (others n w s seats i c all is (words_next c s.words))

-- ---- regions for homes

pub all_housed_have_spares : AllHousedHaveSpares
all_housed_have_spares n words seats i k stage housed here =
    housed_have_spares n words k stage (housed i (Collector (at k (Choosing stage))) here)
