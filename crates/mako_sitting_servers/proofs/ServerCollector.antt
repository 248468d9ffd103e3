-- The collector sits as it did, past a step of a server.
use Rattle.std.proofs.Common.{◌≡◌, ◌≢◌, ℕ, ◌*◌, ◌<◌, List, length, slice_index, sym, ap, subst, ◌∙◌}
use Rattle.mako_shape.specs.declared.numbers.Numbers.{Numbers}
use Rattle.mako_shape.specs.Places.{barrier, home, word_at}
use Rattle.mako_model.specs.Fronts.{Seen}
use Rattle.mako_model.specs.Legal.{Facts}
use Rattle.mako_layout.specs.Facets.{Gift}
use Rattle.mako_layout.specs.StepParts.{collector_seat}
use Rattle.mako_joint.specs.Joints.{JointScene}
use Rattle.mako_pause.specs.Collecting.{Holdings, Collecting, chosen_tablet}
use Rattle.mako_pause.specs.Keeping.{IsKeptKnown, StageIsKnown, ChoiceIsKnown, BarrierIsKnown}
use Rattle.mako_pause.specs.declared.stage.BarrierStage.{BarrierStage}
use Rattle.mako_pause.specs.declared.stage.BarrierStage.TheVariants.{Loading, Clearing}
use Rattle.mako_pause.specs.declared.stage.ChoiceStage.{ChoiceStage}
use Rattle.mako_pause.specs.declared.stage.ChoiceStage.TheVariants.{LoadingLive, LoadingTop, LoadingHome}
use Rattle.mako_pause.specs.declared.stage.ChoiceStage.TheVariants.{StoringLeaving, StoringHome, StoringTop}
use Rattle.mako_pause.specs.declared.stage.ChoiceStage.TheVariants.{StoringEvac, Opening as Reopening}
use Rattle.mako_pause.specs.declared.stage.CollectStage.{CollectStage}
use Rattle.mako_pause.specs.declared.stage.CollectStage.TheVariants.{Idle, Pausing, Forwarding, Barriers, Emptying}
use Rattle.mako_pause.specs.declared.stage.CollectStage.TheVariants.{Polling, Choosing, Noticing, Ended}
use Rattle.mako_collecting.specs.Findings.{StageFound}
use Rattle.mako_collecting.specs.Keeping.{BarrierKeeps, SameBarriers, StageKeeps, passed_at}
use Rattle.mako_collecting.specs.Roles.{ChoiceGift, GiftIn, ChoiceOf}
use Rattle.mako_collecting.proofs.KeptOwn.{rings_same, empty_same}
use Rattle.mako_sitting.specs.Seats.{GathersAt, ChoiceSits, CollectorSits}
use Rattle.mako_sitting_servers.specs.ServerSteps.{LeavesSeats}

module _ (n : Numbers) (s after : JointScene) (seat server : ℕ) (l : LeavesSeats n s after seat server) (k : Holdings)
    (known : IsKeptKnown k) (shape : k.shape ≡ n) where
  barriers_left : SameBarriers n s.words after.words
  barriers_left m slot low small = l.words (barrier m slot) (low, small) (λ x. x)

  barrier_keeps : (b : BarrierStage) → BarrierIsKnown k b → BarrierKeeps n s.words k b → BarrierKeeps n after.words k b
  barrier_keeps (Loading m) is keeps = keeps
  barrier_keeps (Clearing m x) is keeps =
      let low : slice_index k.barrier_at m < k.shape.ring =
      known.barriers m 0 (subst (λ i. m < i) (sym known.barriers_count) is.0) in (
        keeps.0,
        barriers_left m (slice_index k.barrier_at m) (subst (λ (i : Numbers). m < i.mutators) shape is.0)
            (subst (λ (i : Numbers). slice_index k.barrier_at m < i.ring) shape low)
            ∙ keeps.1,
      )

  stage_keeps : (stage : CollectStage) → StageIsKnown k stage → StageKeeps n s.words k stage
      → StageKeeps n after.words k stage
  stage_keeps (Idle stage) is keeps = keeps
  stage_keeps (Pausing stage) is keeps = keeps
  stage_keeps (Forwarding stage) is keeps = keeps
  stage_keeps (Barriers stage) is keeps = barrier_keeps stage is.1 keeps
  stage_keeps (Emptying r) is keeps = keeps
  stage_keeps Polling is keeps = keeps
  stage_keeps (Choosing stage) is keeps = keeps
  stage_keeps (Noticing stage) is keeps = keeps
  stage_keeps Ended is keeps = keeps

  -- ---- the choice

  homes_left : (i : ℕ) → i < length k.chosen
      → word_at n after.words (home (chosen_tablet k i)) ≡ word_at n s.words (home (chosen_tablet k i))
  homes_left i low =
      l.words (home (chosen_tablet k i))
      (subst (λ (m : Numbers). slice_index k.chosen i < m.servers * m.tablets) shape (known.chosen i 0 low)) (λ x. x)

  gift_left : (stage : ChoiceStage) → ChoiceIsKnown k stage → (given : List Gift)
      → ChoiceGift n s.words k stage given → ChoiceGift n after.words k stage given
  gift_left (LoadingLive r place) is given g = g
  gift_left (LoadingTop r place number) is given g = g
  gift_left (LoadingHome i) is given g = g
  gift_left (StoringLeaving i gift) is given g = (g.0 ∙ sym (homes_left i is.0), g.1, g.2)
  gift_left (StoringHome i gift) is given g = g
  gift_left (StoringTop i) is given g = g
  gift_left StoringEvac is given g = g
  gift_left (Reopening m) is given g = g

  choice_left : (stage : CollectStage) (given : List Gift) (spare : List ℕ)
      → (GiftIn n s.words k stage given → GiftIn n after.words k stage given)
      → ChoiceOf n s.words s.facets.choice k stage given spare
      → ChoiceOf n after.words after.facets.choice k stage given spare
  choice_left stage given spare gifts c = record {
    begun = l.choice ∙ c.begun;
    spares = c.spares;
    done = c.done;
    gift = gifts c.gift;
  }

  choice_sits : (stage : CollectStage) → StageIsKnown k stage → ChoiceSits n s k stage → ChoiceSits n after k stage
  choice_sits (Idle stage) is c = (c.0, l.choice ∙ c.1, c.2)
  choice_sits (Pausing stage) is c = (c.0, l.choice ∙ c.1, c.2)
  choice_sits (Forwarding stage) is c = (c.0, l.choice ∙ c.1, c.2)
  choice_sits (Barriers stage) is c = (c.0, l.choice ∙ c.1, c.2)
  choice_sits (Emptying r) is c = (c.0, l.choice ∙ c.1, c.2)
  choice_sits Polling is c = (c.0, l.choice ∙ c.1, c.2)
  choice_sits (Choosing stage) is c =
      (c.0, c.1, choice_left (Choosing stage) c.0 c.1 (gift_left stage is.1 c.0) c.2)
  choice_sits (Noticing stage) is c = (c.0, c.1, choice_left (Noticing stage) c.0 c.1 (λ g. g) c.2)
  choice_sits Ended is c = (c.0, l.choice ∙ c.1, c.2)

pub collector_sits : (n : Numbers) (w : Facts) (s after : JointScene) (seat server : ℕ) (taker places : ℕ → ℕ) (at : ℕ)
    (c : Collecting) → LeavesSeats n s after seat server → collector_seat n ≢ seat
    → (StageFound n s.words c.kept c.stage → StageFound n after.words c.kept c.stage)
    → CollectorSits n w s taker places at c → CollectorSits n w after taker places at c
collector_sits n w s after seat server taker places at c l beside finds sits =
    let k = c.kept in
    let shape = sits.here.shape in record {
      number = sits.number;
      here = record {
        shape = shape;
        trace = l.trace (collector_seat n) beside ∙ sits.here.trace;
        gate = l.gates (collector_seat n) beside ∙ sits.here.gate;
        work = l.works (collector_seat n) beside ∙ sits.here.work;
        phase = l.phases (collector_seat n) beside ∙ sits.here.phase;
        rings = l.rings ∙ sits.here.rings;
      };
      known = sits.known;
      keeps = record {
        stage = sits.keeps.stage;
        keeps = stage_keeps n s after seat server l k sits.known shape c.stage sits.keeps.stage sits.keeps.keeps;
        empty = λ shut. empty_same n s.words after.words (passed_at n c.stage)
            (barriers_left n s after seat server l k sits.known shape) (sits.keeps.empty shut);
        rings = rings_same n s.words after.words places k sits.known shape
            (barriers_left n s after seat server l k sits.known shape) sits.keeps.rings;
      };
      takes = sits.takes;
      found = finds sits.found;
      choice = choice_sits n s after seat server l k sits.known shape c.stage sits.keeps.stage sits.choice;
      gathers = subst (λ g. GathersAt n k c.stage g) (sym l.gathers) sits.gathers;
      lists = sits.lists ∙ ap (λ (f : Seen). f.finished) (sym l.front);
      room = sits.room;
    }
