-- Steps at gates and turns, seat by seat.
use Rattle.std.proofs.Common.{◌≡◌, ◌≢◌, ℕ, ◌+◌, ◌≤◌, inl, inr, ⊎_elim, set, arith, ap, ◌⊎◌, refl}
use Rattle.mako_shape.specs.declared.numbers.Numbers.{Numbers}
use Rattle.mako_shape.specs.Places.{Place}
use Rattle.mako_shape.specs.Belongings.{tablet_of_entry}
use Rattle.mako_layout.specs.Layouts.{Layout, Passed}
use Rattle.mako_layout.specs.Facets.{Work, idle, reads, uses, holds_home, settled, debt_of}
use Rattle.mako_layout.specs.Evacuations.{Knows, State, layout, Evacuation, Seat}
use Rattle.mako_layout.specs.Beside.{IsWriting}
use Rattle.mako_layout.proofs.GateSteps.{paused_beside, gate_kept}
use Rattle.mako_gate.specs.Standings.{has_drained, GateFacet, admitted, drained_by}
use Rattle.mako_gate.specs.GateSteps.{GateStep}
use Rattle.mako_layout.specs.Frames.{LeavesLayout}
use Rattle.mako_gate.proofs.Numbers.{count_at}

-- who reads knows it still where it is admitted still
pub standing_kept : (n : Numbers) (l : Layout) (W V : Place → ℕ) (f g : GateFacet) (w : Work) → (IsWriting w → ⊥) →
    ((t : ℕ) → admitted t f.standing ≤ admitted t g.standing) →
    ((t : ℕ) → drained_by t f.watch ≤ drained_by t g.watch) → Knows n l W f w → Knows n l V g w
standing_kept n l W V f g idle never more drains k = tt
standing_kept n l W V f g (reads x r o) never more drains k = record {
  inside = k.inside;
  enters = (let a = more (tablet_of_entry n x) in let b = k.enters in omega arith);
  taken = k.taken;
  present = k.present;
}
standing_kept n l W V f g (uses x r o) never more drains k = record {
  inside = k.inside;
  enters = (let a = more (tablet_of_entry n x) in let b = k.enters in omega arith);
  taken = k.taken;
  region = k.region;
  offset = k.offset;
  home = k.home;
}
standing_kept n l W V f g (holds_home x r) never more drains k = record {
  inside = k.inside;
  stands_there = (let a = more (tablet_of_entry n x) in let b = drains (tablet_of_entry n x) in
      let c = k.stands_there in omega arith);
  region = k.region;
}
standing_kept n l W V f g w never more drains k = absurd (never tt)

-- a view that has drained no tablet passes nothing
passes_none : (n : Numbers) (l : Layout) (g : GateFacet) → ((t : ℕ) → drained_by t g.watch ≡ 0) → (t b : ℕ) →
    g.watch ≡ has_drained t b → Passed n l t b
passes_none n l g none t b is = absurd (let a = none t in let c = ap (drained_by t) is in
    let d = count_at t t 1 refl in omega arith)

module _ (n : Numbers) (s : State) (e : Evacuation n s) (V : Place → ℕ) (only : LeavesLayout n s.words V) (i : ℕ)
    (f g : GateFacet) (w : Work) (seat : Seat s i f w)
    (p : GateStep n s.words V i f g) where
  -- the view drains no tablet
  pub act_kept : ((t : ℕ) → drained_by t g.watch ≡ 0) → (i ≢ n.mutators + n.servers) ⊎ (debt_of s.choice ≡ settled) →
      Knows n (layout n s) V g w →
      Evacuation n (record s { words = V; gates = set s.gates i g })
  act_kept none who own = gate_kept n s e i f g w seat.gate seat.work V p only
      (elim who [
        | inl other ↦ ⊎_elim (λ d. inl d) (λ q. inr (paused_beside n s.gates i g other none q)) e.pause
        | inr d ↦ inl d
      ])
      (passes_none n (layout n s) g none) own

  -- while the collector owes nothing
  pub settled_step : debt_of s.choice ≡ settled →
      ((t b : ℕ) → g.watch ≡ has_drained t b → Passed n (layout n s) t b) → Knows n (layout n s) V g w →
      Evacuation n (record s { words = V; gates = set s.gates i g })
  settled_step d passed own = gate_kept n s e i f g w seat.gate seat.work V p only (inl d) passed own
