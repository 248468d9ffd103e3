-- Each act at gates and turns is a step of the general form.
use Rattle.std.proofs.Common.{◌≡◌, ℕ, ◌+◌, ◌^◌, ◌<◌, inl, inr, List, slice_get, Some, refl, subst, arith}
use Rattle.mako_shape.specs.declared.numbers.Numbers.{Numbers}
use Rattle.mako_shape.specs.Places.{Place, mutator_gate, tablet_gate, turn}
use Rattle.mako_step.specs.Acts.{after_op}
use Rattle.mako_step.specs.declared.act.Op.TheVariants.{Add, Or, Exchange}
use Rattle.mako_gate.specs.Bits.{shut_bit}
use Rattle.mako_gate.specs.Changes.{Sets, Makes, LeavesGates, tablets_of}
use Rattle.mako_gate.specs.Standings.{GateFacet, shut_own, pauses}
use Rattle.mako_gate.specs.Gates.{Gates}
use Rattle.mako_gate.specs.GateSteps.{GateStep}
use Rattle.mako_gate.specs.GateActions.{GateAction, arrives, is_refused, departs, steps_back, enters, is_turned_away}
use Rattle.mako_gate.specs.GateActions.{leaves, turns_back, takes_turn, gives_turn, shuts, drains, passes, reopens}
use Rattle.mako_gate.specs.GateActions.{gives_up, pause_begins, pause_shuts, pause_looks, pause_reopens, pause_ends}
use Rattle.mako_gate.specs.GateActions.{elsewhere}
use Rattle.mako_gate.proofs.Numbers.{count_at, between_is, between_not}
use Rattle.mako_gate.proofs.GateKinds as kinds
use Rattle.mako_gate.proofs.Found as found

module _ (n : Numbers) (W V : Place → ℕ) (gs : List GateFacet) (o : Gates n W gs) where
  -- the words of gates are below bit 17
  tablet_below : (t : ℕ) → t < tablets_of n → W (tablet_gate t) < 2 ^ 17
  tablet_below t h = found.below _ _ _ _ _ _ o.many (o.tablets t h)

  own_below : (m : ℕ) → m < n.mutators → W (mutator_gate m) < 2 ^ 17
  own_below m h = found.below _ _ _ _ _ _ o.many (o.owns m h)

  -- a fetch-and-add makes one more
  adds : (p : Place) → W p < 2 ^ 17 → Makes n W V p (Add 1) → Sets n W V p (W p + 1)
  adds p h s = subst (Sets n W V p) (found.one_more (W p) h) s

  shuts_it : (p : Place) → W p < shut_bit → Makes n W V p (Or shut_bit) → Sets n W V p (W p + shut_bit)
  shuts_it p h s = subst (Sets n W V p) (found.shut_more (W p) h) s

  -- the view stays as it is
  stays : (i : ℕ) (g : GateFacet) → slice_get gs i ≡ Some g → LeavesGates n W V → GateStep n W V i g g
  stays i g here l = record {
    tablets = λ t h. kinds.moves_same _ _ _ _ _ _ (l.tablets t h);
    owns = λ m h. kinds.moves_same _ _ _ _ _ _ (l.owns m h);
    turns = λ t h. omega (arith, l.turns t h);
    holder = λ t h. inl (omega arith);
    number = refl;
    mutator = o.mutator i g here;
    seat = o.seat i g here;
    shutter = λ t one. inl one;
    pauser = λ m one. inl one;
  }

  pub action_step : (i : ℕ) (f g : GateFacet) → slice_get gs i ≡ Some f → GateAction n W V i f g → GateStep n W V i f g
  action_step _ _ _ here (arrives m small e s) =
      kinds.arrives n W V m small (found.clear _ e) (adds (mutator_gate m) (own_below m small) s)
  action_step _ _ _ here (is_refused m small e s) =
      kinds.is_refused n W V m small (adds (mutator_gate m) (own_below m small) s)
  action_step _ _ _ here (departs m small s) = kinds.departs n W V m small _
      (found.one_less _ (own_below m small) (found.own_arrived_word n W gs o m _ here small (omega arith))) s
  action_step _ _ _ here (steps_back m small s) = kinds.steps_back n W V m small _
      (found.one_less _ (own_below m small) (found.own_arrived_word n W gs o m _ here small (omega arith))) s
  action_step _ _ _ here (enters m t small h e s) =
      kinds.enters n W V m small t (found.clear _ e) (adds (tablet_gate t) (tablet_below t h) s)
  action_step _ _ _ here (is_turned_away m t small h e s) =
      kinds.is_turned_away n W V m small t (adds (tablet_gate t) (tablet_below t h) s)
  action_step _ _ _ here (leaves m t small h s) = kinds.leaves n W V m small t _
      (found.one_less _ (tablet_below t h)
      (found.arrived_word n W gs o m _ here t h (omega (arith, count_at t t 1 refl)))) s
  action_step _ _ _ here (turns_back m t small h s) = kinds.turns_back n W V m small t _
      (found.one_less _ (tablet_below t h)
      (found.arrived_word n W gs o m _ here t h (omega (arith, count_at t t 1 refl)))) s
  action_step _ _ _ here (takes_turn m t small h free s) = kinds.takes_turn n W V m small t free
      (let e : after_op (Exchange 0 (m + 1)) (W (turn t)) ≡ m + 1 = rw free refl in subst (Sets n W V (turn t)) e s)
  action_step _ _ _ here (gives_turn m t small h s) = kinds.gives_turn n W V m small t
      (found.held_word n W gs o m _ here t h (count_at t t 1 refl)) s
  action_step _ _ _ here (shuts i k t h seat s) =
      let open_ = found.stands_open n W gs o i _ here t h seat refl in
      kinds.shuts n W V i k t seat open_ (shuts_it (tablet_gate t) open_ s)
  action_step _ _ _ here (drains i k t b h none s) = kinds.drains n W V i k t b
      (found.count_zero n W gs o i _ here t h (omega (arith, count_at t t 1 refl)) none) (kinds.looked_tablet n W V t s)
  action_step _ _ _ here (passes i k t b l) = kinds.passes n W V i k t b l
  action_step _ _ _ here (reopens i k t b h s) = kinds.reopens n W V i k t b _
      (found.shut_less _ (found.shut_word n W gs o i _ here t h (omega (arith, count_at t t 1 refl)))
      (tablet_below t h)) s
  action_step _ _ _ here (gives_up i k t h s) = kinds.gives_up n W V i k t _
      (found.shut_less _ (found.shut_word n W gs o i _ here t h (omega (arith, count_at t t 1 refl)))
      (tablet_below t h)) s
  action_step _ _ _ here (pause_begins i k low l) = kinds.pause_begins n W V i k low l
  action_step _ _ _ here (pause_shuts i k low m drained small seat from d s) =
      let none : shut_own m (pauses low m drained) ≡ 0 = between_not low m m (inr (omega arith)) in
      let open_ = found.own_open n W gs o i _ here m small seat none in
      kinds.pause_shuts n W V i k low m drained seat from d open_ (shuts_it (mutator_gate m) open_ s)
  action_step _ _ _ here (pause_looks i k low m high small from below none s) =
      kinds.pause_looks n W V i k low m high from below
      (found.own_count_zero n W gs o i _ here m small (omega (arith, between_is low high m from below)) none)
      (kinds.looked_own n W V m s)
  action_step _ _ _ here (pause_reopens i k m high drained small below s) =
      kinds.pause_reopens n W V i k m high drained _ below
      (found.shut_less _ (found.own_shut_word n W gs o i _ here m small
      (omega (arith, between_is m high m (omega arith) below))) (own_below m small)) s
  action_step _ _ _ here (pause_ends i k m drained l) = kinds.pause_ends n W V i k m drained l
  action_step _ _ _ here (elsewhere i g l) = stays i g here l
