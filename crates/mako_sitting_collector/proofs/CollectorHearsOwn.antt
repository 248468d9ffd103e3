-- The collector sits past its steps at notices.
use Rattle.std.proofs.Common.{◌≡◌, ℕ, ◌<◌, List, slice_get, slice_index, Some, sym, ap, subst, refl}
use Rattle.std.proofs.Common.{◌∙◌, arith}
use Rattle.mako_words.specs.declared.name.Name.{Name}
use Rattle.mako_shape.specs.declared.numbers.Numbers.{Numbers}
use Rattle.mako_shape.specs.Places.{barrier}
use Rattle.mako_model.specs.Legal.{Facts}
use Rattle.mako_layout.specs.Facets.{Gift}
use Rattle.mako_layout.specs.StepParts.{collector_seat}
use Rattle.mako_phases.specs.Facets.{collecting}
use Rattle.mako_ring.specs.TraceFacets as trace
use Rattle.mako_joint.specs.Joints.{JointScene, Joint}
use Rattle.mako_pause.specs.Collecting.{Holdings}
use Rattle.mako_pause.specs.Keeping.{Runs}
use Rattle.mako_pause.specs.declared.stage.NoticeStage.{NoticeStage}
use Rattle.mako_pause.specs.declared.stage.NoticeStage.TheVariants.{Looking as NoticeLook, Clearing as NoticeClear}
use Rattle.mako_pause.specs.declared.stage.NoticeStage.TheVariants.{StoringIdle}
use Rattle.mako_pause.specs.declared.stage.CollectStage.TheVariants.{Noticing}
use Rattle.mako_collecting.specs.Facets as collector
use Rattle.mako_collecting.specs.Facets.{IsCollector, ring_facet}
use Rattle.mako_collecting.specs.Keeping.{CollectorKeeps, BarrierRing}
use Rattle.mako_collecting.specs.Roles.{ChoiceOf}
use Rattle.mako_collecting.proofs.Others.{others_leave_it}
use Rattle.mako_clearing.specs.Hearing.{notice_server, notice_part, HearingStands, noticing, words_next, IsReading}
use Rattle.mako_sitting.specs.Seats.{CollectorSits}
use Rattle.mako_sitting_collector.proofs.CollectorHeard.{Hears}
use Rattle.mako_sitting_collector.proofs.CollectorHearsServers.{then_at, words_left}

-- its part is the same to both
pub parts_are : (n : Numbers) (k : Holdings) (stage : NoticeStage)
    → notice_part n k stage ≡ collector.notice_part n k stage
parts_are n k (NoticeLook s) = refl
parts_are n k (NoticeClear s told) = refl
parts_are n k StoringIdle = refl

-- the facets of its seat are those of its stage
pub stands_are : (n : Numbers) (w : Facts) (s : JointScene) (taker places : ℕ → ℕ) (i : ℕ) (k : Holdings)
    (stage : NoticeStage) → CollectorSits n w s taker places i (noticing k stage)
    → slice_get s.facets.phases (collector_seat n) ≡ Some (collecting (notice_part n k stage) k.pending)
stands_are n w s taker places i k stage sits =
    sits.here.phase ∙ ap (λ p. Some (collecting p k.pending)) (sym (parts_are n k stage))

module _ (n : Numbers) (w : Facts) (s : JointScene) (k : Holdings) (stage : NoticeStage) (j : Joint n w s)
    (c : HearingStands n s k stage) (is : IsReading stage) (after : Holdings) (to : NoticeStage) (left : List Name)
    (taker places : ℕ → ℕ) (i : ℕ) (sits : CollectorSits n w s taker places i (noticing k stage))
    (hears : Hears k (notice_server n stage) (noticing after to)) where
  abbrev then : JointScene
  then = then_at n w s k stage j c is after to left

  abbrev us : List ℕ
  us = words_next k stage s.words

  rings_are : ring_facet n (noticing after to) ≡ ring_facet n (noticing k stage)
  rings_are = ap (λ h. ring_facet n (noticing h to)) hears.same

  before : CollectorKeeps n us places (noticing k stage)
  before =
      others_leave_it n s.words us places (noticing k stage) sits.known sits.here.shape
      (λ m slot low small. words_left n w s k stage j c is (barrier m slot) (low, small) (λ x. x)) sits.keeps

  module _ (stands : HearingStands n then after to) where
    choice_of : (given : List Gift) (spare : List ℕ)
        → ChoiceOf n s.words s.facets.choice k (Noticing stage) given spare
        → ChoiceOf n us s.facets.choice after (Noticing to) given spare
    choice_of given spare o =
        subst (λ h. ChoiceOf n us s.facets.choice h (Noticing to) given spare) (sym hears.same)
        (record { begun = o.begun; spares = o.spares; done = o.done; gift = tt })

    pub own_sits : CollectorSits n w then (λ r. slice_index after.notice_at r) places i (noticing after to)
    own_sits = record {
      number = sits.number;
      here = record {
        shape = stands.shape;
        trace = sits.here.trace ∙ ap (λ h. Some (trace.collecting h.pending)) (sym hears.same);
        gate = sits.here.gate;
        work = sits.here.work;
        phase = stands.phase ∙ ap (λ p. Some (collecting p after.pending)) (parts_are n after to);
        rings = sits.here.rings ∙ sym rings_are;
      };
      known = stands.known;
      keeps = record {
        stage = (subst Runs (sym hears.same) sits.keeps.stage.0, stands.stage_known);
        keeps = ap (λ (h : Holdings). h.gates_shut) hears.same ∙ sits.keeps.keeps;
        empty = λ shut m slot below. absurd (omega arith);
        rings = subst (λ (at : List ℕ). (m : ℕ) → m < n.mutators → BarrierRing n us m (slice_index at m) (places m))
            (ap (λ (h : Holdings). h.barrier_at) (sym hears.same)) before.rings;
      };
      takes = λ r. refl;
      found = tt;
      choice = (sits.choice.0, sits.choice.1, choice_of sits.choice.0 sits.choice.1 sits.choice.2);
      gathers = stands.gathers;
      lists = ap (λ (h : Holdings). h.cycles.lists) hears.same ∙ sits.lists;
      room = ap (λ (h : Holdings). h.cycles.names_room) hears.same ∙ sits.room;
    }
