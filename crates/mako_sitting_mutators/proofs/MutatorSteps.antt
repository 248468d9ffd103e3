-- The step of a mutator keeps all seats.
use Rattle.std.proofs.Common.{◌≡◌, ◌≢◌, ℕ, ◌<◌, ◌*◌, ⊎_elim, List, length, length-set, set, sym, subst, ◌∙◌, arith}
use Rattle.std.specs.Prelude.{slice_get, Some}
use Rattle.std.proofs.lemmas.List.Elements.{All-get_or}
use Rattle.mako_gate.proofs.Lists.{at_set, set_past}
use Rattle.mako_shape.specs.declared.numbers.Numbers.{Numbers}
use Rattle.mako_shape.specs.Places.{home}
use Rattle.mako_step.specs.Machines.{IsAct}
use Rattle.mako_model.specs.Legal.{Facts}
use Rattle.mako_layout.specs.Facets.{Gift}
use Rattle.mako_layout.specs.StepParts.{collector_seat}
use Rattle.mako_mutator.specs.Drivers as drivers
use Rattle.mako_mutator.specs.Drivers.{Driving}
use Rattle.mako_joint.specs.Joints.{JointScene}
use Rattle.mako_pause.specs.Collecting.{Collecting, Holdings, chosen_tablet}
use Rattle.mako_pause.specs.Keeping.{IsKeptKnown, StageIsKnown}
use Rattle.mako_pause.specs.declared.stage.ChoiceStage.{ChoiceStage}
use Rattle.mako_pause.specs.declared.stage.ChoiceStage.TheVariants.{LoadingLive, LoadingTop, LoadingHome}
use Rattle.mako_pause.specs.declared.stage.ChoiceStage.TheVariants.{StoringLeaving, StoringHome, StoringTop}
use Rattle.mako_pause.specs.declared.stage.ChoiceStage.TheVariants.{StoringEvac, Opening as Reopening}
use Rattle.mako_pause.specs.declared.stage.CollectStage.{CollectStage}
use Rattle.mako_pause.specs.declared.stage.CollectStage.TheVariants.{Idle, Pausing, Forwarding, Barriers, Emptying}
use Rattle.mako_pause.specs.declared.stage.CollectStage.TheVariants.{Polling, Choosing, Noticing, Ended}
use Rattle.mako_seat.specs.declared.seat.Seat.{Seat}
use Rattle.mako_seat.specs.declared.seat.Seat.TheVariants.{Mutator, Server, Collector}
use Rattle.mako_mutating.specs.Mutators.{stepped}
use Rattle.mako_collecting.specs.Facets.{IsCollector}
use Rattle.mako_collecting.specs.Roles.{ChoiceGift}
use Rattle.mako_sitting.specs.Seats.{AllSit, SeatSits, CollectorSits, ChoiceSits}
use Rattle.mako_sitting_mutators.specs.MutatorSteps.{mutator_next, places_after, MutatorsKeepAll}
use Rattle.mako_sitting_mutators.proofs.MutatorBeside.{kept, leaves, own_sits, other_sits, server_sits, few_after}
use Rattle.mako_sitting_mutators.proofs.MutatorBeside.{finished_same}
use Rattle.mako_sitting_mutators.proofs.MutatorQuiet.{ends_counted}
use Rattle.mako_sitting_mutators.proofs.MutatorRings.{keeps_after}
use Rattle.mako_sitting_mutators.proofs.MutatorBarriers.{collector_left}
use Rattle.mako_sitting_mutators.proofs.MutatorLeaves.{taken_left, marks_left}
use Rattle.mako_sitting_mutators.proofs.MutatorFinds.{found_after}
use Rattle.mako_sitting_mutators.proofs.MutatorEnds.{slots_after, lives_after}

module _ (n : Numbers) (w : Facts) (s : JointScene) (seats : List Seat) (m : ℕ) (d : Driving)
    (all : AllSit n w s seats) (here : slice_get seats m ≡ Some (Mutator d)) (act : IsAct (drivers.next_of d)) where
  low : m < n.mutators
  low = (all.each m (Mutator d) here).keeps.in_range

  -- ---- the collector

  seat_here : (c : Collecting) → IsCollector n s c → IsCollector n (stepped s m d) c
  seat_here c it =
      let apart : collector_seat n ≢ m = (λ e. omega (arith, low)) in record {
        shape = it.shape;
        trace = set_past _ m _ _ _ apart it.trace;
        gate = set_past _ m _ _ _ apart it.gate;
        work = set_past _ m _ _ _ apart it.work;
        phase = set_past _ m _ _ _ apart it.phase;
        rings = it.rings;
      }

  module _ (k : Holdings) (known : IsKeptKnown k) (shape : k.shape ≡ n) where
    chosen_low : (i : ℕ) → i < length k.chosen → chosen_tablet k i < n.servers * n.tablets
    chosen_low i low =
        subst (λ (j : Numbers). chosen_tablet k i < j.servers * j.tablets) shape
        (All-get_or (λ t. t < k.shape.servers * k.shape.tablets) k.chosen i 0 low known.chosen)

    gift : (stage : ChoiceStage) (given : List Gift) → StageIsKnown k (Choosing stage)
        → ChoiceGift n s.words k stage given → ChoiceGift n (stepped s m d).words k stage given
    gift (StoringLeaving i g) given is at = (
      at.0 ∙ sym (leaves n w s seats m d all here act (home (chosen_tablet k i)) (chosen_low i is.1.0)
          (λ x. x)),
      at.1,
      at.2,
    )
    gift (LoadingLive r place) given is at = at
    gift (LoadingTop r place number) given is at = at
    gift (LoadingHome i) given is at = at
    gift (StoringHome i g) given is at = at
    gift (StoringTop i) given is at = at
    gift StoringEvac given is at = at
    gift (Reopening i) given is at = at

    choice : (stage : CollectStage) → StageIsKnown k stage → ChoiceSits n s k stage
        → ChoiceSits n (stepped s m d) k stage
    choice (Choosing stage) is at = (
      at.0,
      at.1,
      record {
        begun = at.2.begun;
        spares = at.2.spares;
        done = at.2.done;
        gift = gift stage at.0 is at.2.gift;
      },
    )
    choice (Noticing stage) is at =
        (at.0, at.1, record { begun = at.2.begun; spares = at.2.spares; done = at.2.done; gift = tt })
    choice (Idle stage) is at = at
    choice (Pausing stage) is at = at
    choice (Forwarding stage) is at = at
    choice (Barriers stage) is at = at
    choice (Emptying r) is at = at
    choice Polling is at = at
    choice Ended is at = at

  collector_sits : (i : ℕ) (c : Collecting) → slice_get seats i ≡ Some (Collector c)
      → CollectorSits n w s all.taker all.places i c
      → CollectorSits n w (stepped s m d) all.taker (places_after all.places s m d) i c
  collector_sits i c at it =
      let left = collector_left n w s seats m d all here act i c it in record {
        number = it.number;
        here = seat_here c it.here;
        known = it.known;
        keeps = keeps_after n w s seats m d all here act i c it left;
        takes = it.takes;
        found = found_after n w s seats m d all here act i c it;
        choice = choice c.kept it.known it.here.shape c.stage it.keeps.stage it.choice;
        gathers = it.gathers;
        lists = it.lists ∙ sym (finished_same n w s seats m d all here act);
        room = it.room;
      }

  -- ---- all of them

  other : (i : ℕ) (v : Seat) → i ≢ m → slice_get seats i ≡ Some v → SeatSits n w s all.taker all.places i v
      → SeatSits n w (stepped s m d) all.taker (places_after all.places s m d) i v
  other i (Mutator e) apart at it = other_sits n w s seats m d all here act i apart e it
  other i (Server v) apart at it =
      server_sits n w s seats m d all here act i apart (taken_left n w s seats m d all here act)
      (all.taker v.tracer.server) v it
  other i (Collector c) apart at it = collector_sits i c at it

  each : (i : ℕ) (v : Seat) → slice_get (set seats m (Mutator (mutator_next s d))) i ≡ Some v
      → SeatSits n w (stepped s m d) all.taker (places_after all.places s m d) i v
  each i v at =
      ⊎_elim
      (λ t. subst (λ k. SeatSits n w (stepped s m d) all.taker (places_after all.places s m d) k v) (sym t.0)
      (subst (SeatSits n w (stepped s m d) all.taker (places_after all.places s m d) m) t.1
      (own_sits n w s seats m d all here act)))
      (λ t. other i v t.0 t.1 (all.each i v t.1))
      (at_set seats m i (Mutator (mutator_next s d)) v at)

  after_sits : AllSit n w (stepped s m d) (set seats m (Mutator (mutator_next s d)))
  after_sits = record {
    joint = (kept n w s seats m d all here act).step.0;
    taker = all.taker;
    places = places_after all.places s m d;
    count = length-set seats m (Mutator (mutator_next s d)) ∙ all.count;
    each = each;
    slots = slots_after n w s seats m d all here act;
    few = few_after n w s seats m d all here act;
    lives = lives_after n w s seats m d all here act (marks_left n w s seats m d all here act);
    ends = ends_counted n w s seats m d all here act;
  }

pub mutators_keep_all : MutatorsKeepAll
mutators_keep_all n w s seats m d all here act = after_sits n w s seats m d all here act
