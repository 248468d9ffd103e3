-- The collector's stretch: all mutator gates are drained and no server has drained a tablet, so no view knows anything.
use Rattle.std.proofs.Common.{⊎_elim, ◌≡◌, ℕ, ◌+◌, ◌-◌, ◌<◌, ◌≤◌, ◌==◌, inl, inr, true, cond, List, slice_get, sum_by}
use Rattle.std.proofs.Common.{Some, eq-eqb, ne_eqb, sym, ap, ◌∙◌, refl, subst, arith}
use Rattle.std.proofs.lemmas.Bool.{cases_eq}
use Rattle.mako_shape.specs.declared.numbers.Numbers.{Numbers}
use Rattle.mako_shape.specs.Places.{Place, phase, entry, home, top, leaving, region_word}
use Rattle.mako_shape.specs.Belongings.{tablet_of_entry, server_of_tablet, server_of_region}
use Rattle.mako_words.specs.Phases.{phase_at, cycle_of}
use Rattle.mako_gate.specs.Sums.{counted}
use Rattle.mako_gate.specs.Changes.{tablets_of, Sets, LeavesGates}
use Rattle.mako_gate.specs.Standings.{GateFacet, drained_by}
use Rattle.mako_gate.proofs.Numbers.{holds_le}
use Rattle.mako_layout.specs.Layouts.{Layout, entries_of, regions_of, OneCopy}
use Rattle.mako_layout.specs.Facets.{stands, Work, idle, reads, uses, holds_home, settled, owes_home, owes_top, Choice}
use Rattle.mako_layout.specs.Facets.{Paused, Debt, debt_of, given_of, spare_of, rests_with, chooses, Gift, gift_of}
use Rattle.mako_layout.specs.Facets.{times_in}
use Rattle.mako_layout.specs.Evacuations.{slot_of, home_read, top_read, to_raise, counted_in, layout_of, Knows, State}
use Rattle.mako_layout.specs.Evacuations.{layout, Evacuation}
use Rattle.mako_layout.proofs.Alterations.{cycle_kept}
use Rattle.mako_layout.proofs.Choices.{choose_kept, same_kept}
use Rattle.mako_layout.proofs.Frames.{gates_frame, record_within, leaves_gates}
use Rattle.mako_layout.proofs.Stays.{record_kept}
use Rattle.mako_layout.proofs.Debts.{none_owed, nobody_there}
use Rattle.mako_layout.proofs.Besides.{writing}
use Rattle.mako_layout.specs.Beside.{entry_of}

-- a view that stands nowhere knows nothing
pub nothing_known : (n : Numbers) (l m : Layout) (W V : Place → ℕ) (f : GateFacet) (v : Work) →
    ((t : ℕ) → stands t f ≡ 0) → Knows n l W f v → Knows n m V f v
nothing_known n l m W V f idle none k = tt
nothing_known n l m W V f (reads x r o) none k = absurd (let a = k.enters in let b = none (tablet_of_entry n x) in
    omega arith)
nothing_known n l m W V f (uses x r o) none k = absurd (let a = k.enters in let b = none (tablet_of_entry n x) in
    omega arith)
nothing_known n l m W V f (holds_home x r) none k = absurd (let a = k.stands_there in
    let b = none (tablet_of_entry n x) in omega arith)
nothing_known n l m W V f w none k = absurd (let a = writing n l W f w k tt in
    let b = none (tablet_of_entry n (entry_of w)) in let c = holds_le (tablet_of_entry n (entry_of w)) f.standing in
    omega arith)

-- a collector that owes is alone
pub paused_by : (n : Numbers) (s : State) → Evacuation n s → (d : Debt) (gl : List Gift) (sl : List ℕ) →
    s.choice ≡ chooses d gl sl → (d ≡ settled → ⊥) → Paused n s.gates
paused_by n s e d gl sl is owes = ⊎_elim (λ c. absurd (owes (sym (ap debt_of is) ∙ c))) (λ q. q) e.pause

module _ (n : Numbers) (s : State) (e : Evacuation n s) (p : Paused n s.gates) where
  nobody_stands : (j : ℕ) (f : GateFacet) → slice_get s.gates j ≡ Some f → (t : ℕ) → stands t f ≡ 0
  nobody_stands j f at t = omega (arith, nobody_there n s e p j f at t, p.servers j t f at)

  pub nobody_owes : (t : ℕ) → (sum_by (to_raise n t) s.works ≡ 0) × (sum_by (counted_in n t) s.works ≡ 0)
  nobody_owes t = none_owed n s e t p.collector
      (λ j f v at_f at_v one. absurd (let a = nobody_stands j f at_f t in let b = holds_le t f.standing in omega arith))

  -- a store of the collector outside entries and records
  pub alone_kept : (V : Place → ℕ) (k : Choice) → LeavesGates n s.words V →
      ((x : ℕ) → x < entries_of n → V (entry x) ≡ s.words (entry x)) →
      ((r a : ℕ) → r < regions_of n → a < n.words → V (region_word r a) ≡ s.words (region_word r a)) →
      OneCopy n (layout_of n V s.heap s.works k s.made) → Evacuation n (record s { words = V; choice = k })
  alone_kept V k gates entries regions copy = record {
    seats = e.seats;
    gates = gates_frame n s.words V s.gates gates e.gates;
    copy = copy;
    pause = inr p;
    even = λ t h. let z = nobody_owes t in omega (arith, z.1);
    records = λ x h taken.
        let was : ((layout n s).slot x).taken ≡ true = ap (λ q. (slot_of n s.heap x q).taken) (sym (entries x h))
        ∙ taken in
        record_kept n s.words V s.heap x (entries x h)
        (λ r a holds. let w = record_within n (layout n s) e.copy x r a h holds in regions r a w.0 w.1) was
        (e.records x h was);
    passed = λ j t b f at is. absurd (let a = p.servers j t f at in let c = ap (drained_by t) is in
        let d = ap (λ q. counted q 1) (eq-eqb t t refl) in omega arith);
    knows = λ j f v at_f at_v. nothing_known n (layout n s) (layout_of n V s.heap s.works k s.made) s.words V f v
        (nobody_stands j f at_f) (e.knows j f v at_f at_v);
  }

  -- store leaving: the tablet is to get the spare region r for its home
  pub store_leaving : debt_of s.choice ≡ settled → (V : Place → ℕ) (t r : ℕ) (gl : List Gift) (sl : List ℕ) →
      t < tablets_of n → r < regions_of n →
      server_of_region n r ≡ server_of_tablet
      n t → (layout n s).given t ≡ 0 → 1 ≤ (layout n s).spare r →
      Sets n s.words V (leaving t) (s.words (home t) + 1) →
      ((u : ℕ) → gift_of gl u ≡ (layout n s).given u + counted (t == u) (s.words (home t) + 1)) →
      ((q : ℕ) → times_in sl q + counted (r == q) 1 ≡ (layout n s).spare q) →
      Evacuation n (record s { words = V; choice = chooses (owes_home t r) gl sl })
  store_leaving d V t r gl sl inside region mine unchosen spare sets gifts spares =
      let k : Choice = chooses (owes_home t r) gl sl in
      let l : Layout = layout n s in
      let m : Layout = layout_of n V s.heap s.works k s.made in
      let tops : (u : ℕ) → u < tablets_of n → V (top u) ≡ s.words (top u) = λ u h. sets.others (top u) h (λ c. cc) in
      let home_was : (u : ℕ) → l.home u ≡ s.words (home u) = λ u. ap (λ q. home_read q u (s.words (home u))) d in
      let top_was : (u : ℕ) → top_read (debt_of s.choice) u (s.words (top u)) ≡ s.words (top u) = λ u.
      ap (λ q. top_read q u (s.words (top u))) d in
      alone_kept V k
      (leaves_gates n s.words V _ _ sets tt)
      (λ x h. sets.others (entry x) h (λ c. cc)) (λ a b h j. sets.others (region_word a b) (h, j) (λ c. cc))
      (choose_kept n l e.copy m t r (record {
        inside = inside;
        region = region;
        own = mine;
        settled = unchosen;
        spare = spare;
        cycle = ap (λ q. cycle_of (phase_at q)) (sets.others phase tt (λ c. cc));
        slots = λ x h. ap (λ q. slot_of n s.heap x q) (sets.others (entry x) h (λ c. cc));
        home = ap (λ q. cond q r (V (home t))) (eq-eqb t t refl);
        filled = (let z = nobody_owes t in omega (arith, z.0, ap (λ q. cond q 0 (V (top t))) (eq-eqb t t refl)));
        leaving = sets.here ∙ ap (λ q. q + 1) (sym (home_was t));
        given = (let a = gifts t in let b = home_was t in
            omega (arith, ap (λ q. counted q (s.words (home t) + 1)) (eq-eqb t t refl)));
        homes = λ u h ne. ap (λ q. cond q r (V (home u))) (ne_eqb t u (λ c. ne (sym c))) ∙ sets.others (home u) h
            (λ c. cc) ∙ sym (home_was u);
        filleds = λ u h ne. (let z = nobody_owes u in
            omega (arith, ap (λ q. cond q 0 (V (top u))) (ne_eqb t u (λ c. ne (sym c))), tops u h, top_was u));
        leavings = λ u h ne. sets.others (leaving u) h (λ c. ne (let b : u ≡ t = cc in b));
        givens = λ u h ne.
            (let a = gifts u in
            omega (arith, ap (λ q. counted q (s.words (home t) + 1)) (ne_eqb t u (λ c. ne (sym c)))));
        spares = λ q h. spares q;
        mades = λ _ _. refl;
      }))

  -- store home
  pub store_home : (V : Place → ℕ) (t r : ℕ) (gl : List Gift) (sl : List ℕ) → t < tablets_of n →
      s.choice ≡ chooses (owes_home t r) gl sl →
      Sets n s.words V (home t) r → Evacuation n (record s { words = V; choice = chooses (owes_top t) gl sl })
  store_home V t r gl sl inside is sets =
      let k : Choice = chooses (owes_top t) gl sl in
      let m : Layout = layout_of n V s.heap s.works k s.made in
      alone_kept V k
      (leaves_gates n s.words V _ _ sets tt)
      (λ x h. sets.others (entry x) h (λ c. cc)) (λ a b h j. sets.others (region_word a b) (h, j) (λ c. cc))
      (same_kept n (layout n s) e.copy m (record {
        cycle = ap (λ q. cycle_of (phase_at q)) (sets.others phase tt (λ c. cc));
        slots = λ x h. ap (λ q. slot_of n s.heap x q) (sets.others (entry x) h (λ c. cc));
        homes = λ u h. elim (cases_eq u t) [
          | inl c ↦ subst (λ q. V (home q) ≡ (layout n s).home q) (sym c)
              (sets.here ∙ sym (ap (λ q. cond q r (s.words (home t))) (eq-eqb t t refl))
              ∙ ap (λ q. home_read q t (s.words (home t))) (ap debt_of (sym is)))
          | inr c ↦ sets.others (home u) h (λ b. c (let a : u ≡ t = cc in a))
              ∙ sym (ap (λ q. cond q r (s.words (home u))) (ne_eqb t u (λ b. c (sym b))))
              ∙ ap (λ q. home_read q u (s.words (home u))) (ap debt_of (sym is))
        ];
        filleds = λ u h.
            (let a : top_read (debt_of s.choice) u (s.words (top u)) ≡ cond (t == u) 0
            (s.words (top u)) = ap (λ q. top_read q u (s.words (top u))) (ap debt_of is) in
            let b : cond (t == u) 0 (V (top u)) ≡ cond (t == u) 0 (s.words (top u)) = ap (cond (t == u) 0)
            (sets.others (top u) h (λ c. cc)) in
            let z = nobody_owes u in omega (arith, z.0, z.1));
        leavings = λ u h. sets.others (leaving u) h (λ c. cc);
        givens = λ u h. ap (λ (q : Choice). gift_of (given_of q) u) (sym is);
        spares = λ q h. ap (λ (c : Choice). times_in (spare_of c) q) (sym is);
        mades = λ _ _. refl;
      }))

  -- zero top
  pub zero_top : (V : Place → ℕ) (t : ℕ) (gl : List Gift) (sl : List ℕ) → t < tablets_of n →
      s.choice ≡ chooses (owes_top t) gl sl →
      Sets n s.words V (top t) 0 → Evacuation n (record s { words = V; choice = chooses settled gl sl })
  zero_top V t gl sl inside is sets =
      let k : Choice = chooses settled gl sl in
      let m : Layout = layout_of n V s.heap s.works k s.made in
      let debt_is : debt_of s.choice ≡ owes_top t = ap debt_of is in
      alone_kept V k
      (leaves_gates n s.words V _ _ sets tt)
      (λ x h. sets.others (entry x) h (λ c. cc)) (λ a b h j. sets.others (region_word a b) (h, j) (λ c. cc))
      (same_kept n (layout n s) e.copy m (record {
        cycle = ap (λ q. cycle_of (phase_at q)) (sets.others phase tt (λ c. cc));
        slots = λ x h. ap (λ q. slot_of n s.heap x q) (sets.others (entry x) h (λ c. cc));
        homes = λ u h. sets.others (home u) h (λ c. cc) ∙ sym (ap (λ q. home_read q u (s.words (home u))) debt_is);
        filleds = λ u h.
            let z = nobody_owes u in
            let a : top_read (debt_of s.choice) u (s.words (top u)) ≡ cond (t == u) 0
            (s.words (top u)) = ap (λ q. top_read q u (s.words (top u))) debt_is in
            let b : V (top u) ≡ cond (t == u) 0 (s.words (top u)) = elim (cases_eq u t) [
              | inl c ↦ subst (λ q. V (top q) ≡ cond (t == q) 0 (s.words (top q))) (sym c)
                  (sets.here ∙ sym (ap (λ q. cond q 0 (s.words (top t))) (eq-eqb t t refl)))
              | inr c ↦ sets.others (top u) h (λ b. c (let w : u ≡ t = cc in w))
                  ∙ sym (ap (λ q. cond q 0 (s.words (top u))) (ne_eqb t u (λ b. c (sym b))))
            ] in
            omega (arith, z.0, z.1);
        leavings = λ u h. sets.others (leaving u) h (λ c. cc);
        givens = λ u h. ap (λ (q : Choice). gift_of (given_of q) u) (sym is);
        spares = λ q h. ap (λ (c : Choice). times_in (spare_of c) q) (sym is);
        mades = λ _ _. refl;
      }))

  -- Store Trace: the next cycle, when no tablet has given up a region
  pub store_trace : (V : Place → ℕ) (v : ℕ) → Sets n s.words V phase v →
      ((t : ℕ) → t < tablets_of n → (layout n s).given t ≡ 0) → Evacuation n (record s { words = V })
  store_trace V v sets none =
      let l : Layout = layout n s in
      let m : Layout = layout_of n V s.heap s.works s.choice s.made in
      alone_kept V s.choice
      (leaves_gates n s.words V _ _ sets tt)
      (λ x h. sets.others (entry x) h (λ c. cc)) (λ a b h j. sets.others (region_word a b) (h, j) (λ c. cc))
      (same_kept n (record l { cycle = m.cycle }) (cycle_kept n l e.copy m.cycle none) m (record {
        cycle = refl;
        slots = λ x h. ap (λ q. slot_of n s.heap x q) (sets.others (entry x) h (λ c. cc));
        homes = λ u h. ap (home_read (debt_of s.choice) u) (sets.others (home u) h (λ c. cc));
        filleds = λ u h.
            (λ q. top_read (debt_of s.choice) u (sets.others (top u) h (λ c. cc) q) + sum_by (to_raise n u)
            s.works - sum_by (counted_in n u) s.works);
        leavings = λ u h. sets.others (leaving u) h (λ c. cc);
        givens = λ u h. refl;
        spares = λ q h. refl;
        mades = λ _ _. refl;
      }))

-- while nothing is chosen, no tablet has given up a region
pub none_given : (n : Numbers) (s : State) (sl : List ℕ) → s.choice ≡ rests_with sl → (t : ℕ) → (layout n s).given t ≡ 0
none_given n s sl is t = ap (λ k. gift_of (given_of k) t) is
