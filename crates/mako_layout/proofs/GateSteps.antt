-- A step at a gate or a turn word keeps the whole.
use Rattle.std.proofs.Common.{◌≡◌, ◌≢◌, ℕ, ◌+◌, ◌⊎◌, inl, inr, List, set, slice_get, Some, sym, ap, ◌∙◌, refl, subst}
use Rattle.std.proofs.Common.{arith}
use Rattle.std.proofs.lemmas.List.{length-set}
use Rattle.std.proofs.lemmas.Option.{same_Some}
use Rattle.mako_shape.specs.declared.numbers.Numbers.{Numbers}
use Rattle.mako_shape.specs.Places.{Place}
use Rattle.mako_shape.specs.Belongings.{tablet_of_entry}
use Rattle.mako_shape.proofs.BelongingLaws.{belongings_in_range}
use Rattle.mako_layout.specs.Layouts.{Passed}
use Rattle.mako_layout.specs.Facets.{Work, settled, Paused, debt_of}
use Rattle.mako_layout.specs.Evacuations.{top_read, Knows, State, layout, Evacuation}
use Rattle.mako_layout.specs.Beside.{entry_of}
use Rattle.mako_layout.specs.Frames.{LeavesLayout}
use Rattle.mako_gate.specs.Standings.{has_drained, GateFacet, drained_by}
use Rattle.mako_gate.specs.GateSteps.{GateStep}
use Rattle.mako_gate.proofs.Lists.{at_set, set_past}
use Rattle.mako_layout.proofs.Frames.{layout_same, record_within}
use Rattle.mako_layout.proofs.Stays.{stays_kept}
use Rattle.mako_gate.proofs.GatesKept.{gates_kept}

-- a look
pub only_look : (n : Numbers) (W : Place → ℕ) → LeavesLayout n W W
only_look n
    W = record {
      table = record {
        phase = refl;
        entries = λ _ _. refl;
        homes = λ _ _. refl;
        tops = λ _ _. refl;
        leavings = λ _ _. refl;
      };
      regions = λ _ _ _ _. refl;
    }

-- a pause stays beside it
pub paused_beside : (n : Numbers) (gs : List GateFacet) (i : ℕ) (g : GateFacet) → i ≢ n.mutators + n.servers →
    ((t : ℕ) → drained_by t g.watch ≡ 0) → Paused n gs → Paused n (set gs i g)
paused_beside n gs i g d none p = record {
  collector = p.collector;
  here = set_past gs i (n.mutators + n.servers) g p.collector (λ e. d (sym e)) p.here;
  drained = p.drained;
  servers = λ j t f at. elim (at_set gs i j g f at) [
    | inl c ↦ subst (λ (q : GateFacet). drained_by t q.watch ≡ 0) c.1 (none t)
    | inr c ↦ p.servers j t f c.1
  ];
}

module _ (n : Numbers) (s : State) (e : Evacuation n s) (i : ℕ) (f g : GateFacet) (w : Work)
    (at_f : slice_get s.gates i ≡ Some f) (at_w : slice_get s.works i ≡ Some w)
    (V : Place → ℕ) (p : GateStep n s.words V i f g) (only : LeavesLayout n s.words V)
    (pause : (debt_of s.choice ≡ settled) ⊎ Paused n (set s.gates i g)) where
  pub gate_kept : ((t b : ℕ) → g.watch ≡ has_drained t b → Passed n (layout n s) t b) → Knows n (layout n s) V g w →
      Evacuation n (record s { words = V; gates = set s.gates i g })
  gate_kept passed own = stays_kept n s e V (set s.gates i g) s.works (e.seats ∙ sym (length-set s.gates i g))
      (gates_kept n s.words V s.gates e.gates i f g at_f p)
      (layout_same n s.words V s.heap s.works s.works s.choice s.made only.table (λ _ _. refl) (λ _ _. refl))
      only.table.entries pause
      (λ t h. omega (arith, e.even t h, ap (top_read (debt_of s.choice) t) (only.table.tops t h)))
      (λ y r a h holds. let q = record_within n (layout n s) e.copy y r a h holds in only.regions r a q.0 q.1)
      (λ j t b c at is. elim (at_set s.gates i j g c at) [
        | inl k ↦ passed t b (ap (λ (q : GateFacet). q.watch) k.1 ∙ is)
        | inr k ↦ e.passed j t b c k.1 is
      ])
      (λ j c v at_c at_v. elim (at_set s.gates i j g c at_c) [
        | inl k ↦ (let same_w : w ≡ v = same_Some w v (sym at_w ∙ ap (slice_get s.works) (sym k.0) ∙ at_v) in
            inl (subst (λ q. Knows n (layout n s) V c q) same_w (subst (λ q. Knows n (layout n s) V q w) k.1 own)))
        | inr k ↦ inr (
          k.1,
          at_v,
          (λ h _. only.table.tops (tablet_of_entry n (entry_of v)) (belongings_in_range.entry n (entry_of v) h)),
          (λ h _ a low high. only.regions ((layout n s).home (tablet_of_entry n (entry_of v))) a
              (e.copy.home_in (tablet_of_entry n (entry_of v)) (belongings_in_range.entry n (entry_of v) h)) high),
        )
      ])
