-- Gates and turns hold at the opening, and after any list of acts.
use Rattle.std.proofs.Common.{◌≡◌, ℕ, ◌+◌, ◌*◌, ◌==◌, sym, ap, ◌∙◌, arith}
use Rattle.mako_shape.specs.Places.{mutator_gate, tablet_gate}
use Rattle.mako_gate.specs.Sums.{counted}
use Rattle.mako_gate.specs.Standings.{GateFacet, arrived, admitted, holds_turn, shut_by, drained_by, arrived_own}
use Rattle.mako_gate.specs.Standings.{admitted_own, shut_own, drained_own}
use Rattle.mako_gate.specs.Gates.{Gate}
use Rattle.mako_gate.specs.GateActions.{opens, goes_on}
use Rattle.mako_gate.specs.GateLaws.{StepsKeepGates, ActionsAreSteps, OpeningsHaveGates, ReachedHaveGates}
use Rattle.mako_gate.proofs.Lists.{sum_none}
use Rattle.mako_gate.proofs.Numbers.{counted_zero}
use Rattle.mako_gate.proofs.GatesKept as kept
use Rattle.mako_gate.proofs.ActionSteps as actions

pub steps_keep : StepsKeepGates
steps_keep n W V gs i f g o here p = kept.gates_kept n W V gs o i f g here p

pub actions_are_steps : ActionsAreSteps
actions_are_steps n W V gs i f g o here a = actions.action_step n W V gs o i f g here a

-- a gate at which all numbers are 0
none_there : (most word a b c d : ℕ) → word ≡ 0 → a ≡ 0 → b ≡ 0 → c ≡ 0 → d ≡ 0 → Gate most word a b c d
none_there most word a b c d w ea eb ec ed = record {
  word_is = omega arith;
  few = omega arith;
  once = omega arith;
  within = omega arith;
  kept = omega arith;
  nobody = λ h. eb;
}

pub opening_has : OpeningsHaveGates
opening_has n W gs many z = record {
  many = many;
  tablets = λ t h. none_there n.mutators (W (tablet_gate t)) _ _ _ _ (z.tablets t h)
      (sum_none (λ (g : GateFacet). arrived t g.standing) gs (λ i g e. ap (arrived t) (z.away_all i g e)))
      (sum_none (λ (g : GateFacet). admitted t g.standing) gs (λ i g e. ap (admitted t) (z.away_all i g e)))
      (sum_none (λ (g : GateFacet). shut_by t g.watch) gs (λ i g e. ap (shut_by t) (z.rest_all i g e)))
      (sum_none (λ (g : GateFacet). drained_by t g.watch) gs (λ i g e. ap (drained_by t) (z.rest_all i g e)));
  owns = λ m h. none_there n.mutators (W (mutator_gate m)) _ _ _ _ (z.owns m h)
      (sum_none (λ (g : GateFacet). counted (g.number == m) (arrived_own g.standing)) gs
      (λ i g e. ap (λ s. counted (g.number == m) (arrived_own s)) (z.away_all i g e) ∙ counted_zero (g.number == m)))
      (sum_none (λ (g : GateFacet). counted (g.number == m) (admitted_own g.standing)) gs
      (λ i g e. ap (λ s. counted (g.number == m) (admitted_own s)) (z.away_all i g e) ∙ counted_zero (g.number == m)))
      (sum_none (λ (g : GateFacet). shut_own m g.watch) gs (λ i g e. ap (shut_own m) (z.rest_all i g e)))
      (sum_none (λ (g : GateFacet). drained_own m g.watch) gs (λ i g e. ap (drained_own m) (z.rest_all i g e)));
  turns = λ t h. z.turns t h ∙ sym (sum_none (λ (g : GateFacet). holds_turn t g.standing * (g.number + 1)) gs
      (λ i g e. ap (λ s. holds_turn t s * (g.number + 1)) (z.away_all i g e) ∙ (omega arith)));
  holder = λ t h. (let e =
      sum_none (λ (g : GateFacet). holds_turn t g.standing) gs (λ i g e. ap (holds_turn t) (z.away_all i g e)) in
      omega arith);
  mutator = λ i g e one. absurd (let d = ap arrived_own (z.away_all i g e) in omega arith);
  seat = λ i g e one. absurd (let d = ap arrived_own (z.away_all i g e) in omega arith);
  shutter = λ i t g e one. absurd (let d = ap (shut_by t) (z.rest_all i g e) in omega arith);
  pauser = λ i m g e one. absurd (let d = ap (shut_own m) (z.rest_all i g e) in omega arith);
}

pub reached_have : ReachedHaveGates
reached_have n _ _ many (opens W gs z) = opening_has n W gs many z
reached_have n _ _ many (goes_on W V gs i f g before here a) =
    let o = reached_have n W gs many before in
    steps_keep n W V gs i f g o here (actions_are_steps n W V gs i f g o here a)
