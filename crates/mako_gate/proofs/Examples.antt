-- The worked run.
use Rattle.std.proofs.Common.{◌≡◌, ◌≢◌, ℕ, zero, suc, slice_get, Some, refl, sym, ap, arith}
use Rattle.std.proofs.lemmas.Option.{same_Some, none-some}
use Rattle.mako_shape.specs.Places.{Place, mutator_gate, Within}
use Rattle.mako_gate.specs.Changes.{Sets, LeavesGates}
use Rattle.mako_gate.specs.Standings.{away, refused, inside, rests, pauses, GateFacet, mutator_at, shutter_at}
use Rattle.mako_gate.specs.GateActions.{Reached, opens, goes_on, arrives, is_refused, departs, steps_back, pause_begins}
use Rattle.mako_gate.specs.GateActions.{pause_shuts, pause_looks, pause_reopens, pause_ends}
use Rattle.mako_gate.specs.Examples.{one, only, seats, WorkedRun}
use Rattle.mako_gate.proofs.GatesHold.{reached_have}
use Rattle.mako_gate.proofs.GatesTell.{gates_tell}

-- the one gate is the place of the one word that changes
others : (x y : ℕ) (q : Place) → Within one q → q ≢ mutator_gate 0 → only y q ≡ only x q
others x y (mutator_gate m) h d = absurd (d (ap mutator_gate (let e : m ≡ 0 = omega arith in e)))
others x y q h d = refl

sets : (x y : ℕ) → Sets one (only x) (only y) (mutator_gate 0) y
sets x y = record { here = refl; others = others x y }

same : (x : ℕ) → LeavesGates one (only x) (only x)
same x = record { tablets = λ t h. refl; owns = λ m h. refl; turns = λ t h. refl }

-- each view is away, and keeps nothing shut
settled : (i : ℕ) (g : GateFacet) → slice_get (seats away rests) i ≡ Some g → (g.standing ≡ away) × (g.watch ≡ rests)
settled zero g e = let s = same_Some (mutator_at 0 away) g e in
    (ap (λ (q : GateFacet). q.standing) (sym s), ap (λ (q : GateFacet). q.watch) (sym s))
settled (suc zero) g e = let s = same_Some (shutter_at 1 rests) g e in
    (ap (λ (q : GateFacet). q.standing) (sym s), ap (λ (q : GateFacet). q.watch) (sym s))
settled (suc (suc zero)) g e = let s = same_Some (shutter_at 2 rests) g e in
    (ap (λ (q : GateFacet). q.standing) (sym s), ap (λ (q : GateFacet). q.watch) (sym s))
settled (suc (suc (suc i))) g e = absurd (none-some g e)

start : Reached one (only 0) (seats away rests)
start = opens (only 0) (seats away rests) (record {
  tablets = λ t h. refl;
  owns = λ m h. refl;
  turns = λ t h. refl;
  away_all = λ i g e. (settled i g e).0;
  rest_all = λ i g e. (settled i g e).1;
})

entered : Reached one (only 1) (seats inside rests)
entered = goes_on (only 0) (only 1) (seats away rests) 0 _ _ start refl (arrives 0 (omega arith) refl (sets 0 1))

begun : Reached one (only 1) (seats inside (pauses 0 0 0))
begun = goes_on (only 1) (only 1) (seats inside rests) 2 _ _ entered refl (pause_begins 2 2 0 (same 1))

shut_over : Reached one (only 0x10001) (seats inside (pauses 0 1 0))
shut_over = goes_on (only 1) (only 0x10001) (seats inside (pauses 0 0 0)) 2 _ _ begun refl
    (pause_shuts 2 2 0 0 0 (omega arith) refl (omega arith) (omega arith) (sets 1 0x10001))

left : Reached one (only 0x10000) (seats away (pauses 0 1 0))
left = goes_on (only 0x10001) (only 0x10000) (seats inside (pauses 0 1 0)) 0 _ _ shut_over refl
    (departs 0 (omega arith) (sets 0x10001 0x10000))

drained : Reached one (only 0x10000) (seats away (pauses 0 1 1))
drained = goes_on (only 0x10000) (only 0x10000) (seats away (pauses 0 1 0)) 2 _ _ left refl
    (pause_looks 2 2 0 0 1 (omega arith) (omega arith) (omega arith) refl (sets 0x10000 0x10000))

turned_off : Reached one (only 0x10001) (seats refused (pauses 0 1 1))
turned_off = goes_on (only 0x10000) (only 0x10001) (seats away (pauses 0 1 1)) 0 _ _ drained refl
    (is_refused 0 (omega arith) refl (sets 0x10000 0x10001))

taken_back : Reached one (only 0x10000) (seats away (pauses 0 1 1))
taken_back = goes_on (only 0x10001) (only 0x10000) (seats refused (pauses 0 1 1)) 0 _ _ turned_off refl
    (steps_back 0 (omega arith) (sets 0x10001 0x10000))

opened : Reached one (only 0) (seats away (pauses 1 1 1))
opened = goes_on (only 0x10000) (only 0) (seats away (pauses 0 1 1)) 2 _ _ taken_back refl
    (pause_reopens 2 2 0 1 1 (omega arith) (omega arith) (sets 0x10000 0))

reopened : Reached one (only 0) (seats away rests)
reopened = goes_on (only 0) (only 0) (seats away (pauses 1 1 1)) 2 _ _ opened refl (pause_ends 2 2 1 1 (same 0))

never : (W : Place → ℕ) → Reached one W (seats inside (pauses 0 1 1)) → ⊥
never W r =
    let tell = gates_tell one W (seats inside (pauses 0 1 1))
    (reached_have one W (seats inside (pauses 0 1 1)) (omega arith) r) in
    let none = tell.drained.owns_empty 0 2 (shutter_at 2 (pauses 0 1 1)) (mutator_at 0 inside) (omega arith) refl
    (omega arith) refl in
    omega arith

pub worked_run : WorkedRun
worked_run = record {
  entered = entered;
  is_shut = shut_over;
  drained = drained;
  turned_off = turned_off;
  reopened = reopened;
  never = never;
}
