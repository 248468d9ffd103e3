-- All seats sit past a step of a server.
use Rattle.std.proofs.Common.{◌≡◌, ◌≢◌, ℕ, ⊎_elim, List, map, set, slice_get, get_or, Some, sum_by, sym, ap, subst, ◌∙◌}
use Rattle.std.proofs.Common.{arith}
use Rattle.std.proofs.lemmas.List.{map-set, length-set}
use Rattle.std.proofs.lemmas.List.Sums.{sum_by-set}
use Rattle.std.proofs.lemmas.Option.{slice_get_within, get_or_from_slice_get}
use Rattle.mako_shape.specs.declared.numbers.Numbers.{Numbers}
use Rattle.mako_shape.specs.Places.{finished}
use Rattle.mako_model.specs.Fronts.{Seen}
use Rattle.mako_model.specs.Legal.{Facts, state_of}
use Rattle.mako_model.proofs.Lists.{get_set_cases}
use Rattle.mako_model.specs.Sizes.{ObjectsAreSmall}
use Rattle.mako_names.specs.Tables.{phase_of}
use Rattle.mako_joint.specs.Joints.{JointScene, Joint}
use Rattle.mako_server.specs.Serving.{Serving}
use Rattle.mako_seat.specs.declared.seat.Seat.{Seat}
use Rattle.mako_seat.specs.declared.seat.Seat.TheVariants.{Mutator, Server, Collector}
use Rattle.mako_state.specs.Facets.{ended_of}
use Rattle.mako_tracing.specs.ServerFacets.{server_live}
use Rattle.mako_tracing.specs.ServerKeeps.{SlotsBelong}
use Rattle.mako_sitting.specs.Seats.{SeatSits, ServerSits, LivesFit, live_facet, AllSit}
use Rattle.mako_sitting_servers.specs.ServerSteps.{LeavesSeats, FindingsStand}
use Rattle.mako_sitting_servers.proofs.ServerBeside.{mutator_sits, server_sits}
use Rattle.mako_sitting_servers.proofs.ServerCollector.{collector_sits}

module _ (n : Numbers) (w : Facts) (s after : JointScene) (seats : List Seat) (i : ℕ) (v u : Serving)
    (a : AllSit n w s seats) (at : slice_get seats i ≡ Some (Server v))
    (l : LeavesSeats n s after i v.tracer.server) (joint : Joint n w after) where
  abbrev own : ServerSits n w s (a.taker v.tracer.server) i v
  own = a.each i (Server v) at

  others : FindingsStand n s after seats → (k : ℕ) (x : Seat) → k ≢ i → slice_get seats k ≡ Some x
      → SeatSits n w after a.taker a.places k x
  others finding k (Mutator d) apart is =
      mutator_sits n w s after i v.tracer.server (a.places k) k d a.joint l apart (a.each k (Mutator d) is)
  others finding k (Server x) apart is =
      server_sits n w s after i v.tracer.server (a.taker x.tracer.server) k x a.joint joint l own.number apart
      (a.each k (Server x) is)
  others finding k (Collector c) apart is =
      let sits = a.each k (Collector c) is in
      collector_sits n w s after i v.tracer.server a.taker a.places k c l (λ e. apart (sits.number ∙ e))
      (finding k c is) sits

  no_end : sum_by ended_of (set seats i (Server u)) ≡ sum_by ended_of seats
  no_end =
      let sum = sum_by-set ended_of seats i (Server u) (Server v) (slice_get_within seats i (Server v) at) in
      let none : ended_of (get_or seats i (Server v)) ≡ 0 =
      ap ended_of (get_or_from_slice_get seats i (Server v) (Server v) at) in
      omega arith

  pub all_after : SlotsBelong n after.words → ServerSits n w after (a.taker u.tracer.server) i u
      → FindingsStand n s after seats
      → LivesFit (phase_of n after.words) n w after.words after.front.history
      (set (map live_facet seats) i (server_live u))
      → AllSit n w after (set seats i (Server u))
  all_after slots sits finding lives = record {
    joint = joint;
    taker = a.taker;
    places = a.places;
    count = length-set seats i (Server u) ∙ a.count;
    each = λ k x is.
        ⊎_elim
        (λ t. subst (λ j. SeatSits n w after a.taker a.places j x) (sym t.0)
        (subst (SeatSits n w after a.taker a.places i) t.1 sits))
        (λ t. others finding k x t.0 t.1) (get_set_cases seats i k (Server u) x is);
    slots = slots;
    few = subst (λ (f : Seen). ObjectsAreSmall (state_of w f.history)) (sym l.front) a.few;
    lives = subst (LivesFit (phase_of n after.words) n w after.words after.front.history)
        (sym (map-set live_facet seats i (Server u))) lives;
    ends = l.words finished tt (λ x. x) ∙ a.ends ∙ sym no_end;
  }
