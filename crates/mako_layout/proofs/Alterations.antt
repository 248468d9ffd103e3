-- One copy is kept where an entry is freed or marked, a region is left, a cycle ends or begins, and where nothing
-- changes.
use Rattle.std.proofs.Common.{◌≡◌, ◌≢◌, ℕ, ◌+◌, ◌<◌, ◌≤◌, ◌⊎◌, inl, inr, Bool, true, false, ◌==◌, sym, ap, ◌∙◌, refl}
use Rattle.std.proofs.Common.{subst, arith}
use Rattle.std.proofs.lemmas.Bool.{cases_eq}
use Rattle.mako_shape.specs.declared.numbers.Numbers.{Numbers}
use Rattle.mako_shape.specs.Belongings.{tablet_of_entry}
use Rattle.mako_shape.proofs.BelongingLaws.{belongings_in_range}
use Rattle.mako_gate.specs.Sums.{counted}
use Rattle.mako_gate.specs.Changes.{tablets_of}
use Rattle.mako_layout.specs.Layouts.{Slot, Layout, entries_of, part_in, part_of_cycle, gifts_at, InHome, InGiven}
use Rattle.mako_layout.specs.Layouts.{Holds, OneCopy}
use Rattle.mako_layout.specs.Changes.{Alters, Clears, Finishes}
use Rattle.mako_layout.proofs.Sums.{sum_below_none, over_le, over_same, counted_cases, counted_is}
use Rattle.mako_layout.proofs.Roles.{home_kept}
use Rattle.mako_gate.proofs.Numbers.{count_off}

module _ (n : Numbers) (l : Layout) (o : OneCopy n l) (s : ℕ → Slot) (x : ℕ) (p : Alters n l s x) where
  abbrev altered : Layout
  altered = record l { slot = s }

  -- a record after is one before, at the same place
  was_there : (y r w : ℕ) → y < entries_of n → Holds (s y) r w → Holds (l.slot y) r w
  was_there y r w m = elim (cases_eq y x) [
    | inl e ↦ subst (λ v. Holds (s v) r w → Holds (l.slot v) r w) (sym e) (λ h. let k = p.same h.taken in
        record {
          taken = k.taken;
          region = sym k.region ∙ h.region;
          low = omega (arith, h.low, k.offset);
          high = omega (arith, h.high, k.offset, k.size);
        })
    | inr d ↦ (λ h. subst (λ q. Holds q r w) (p.others y m d) h)
  ]

  part_altered : (r y : ℕ) → y < entries_of n → part_in r (s y) ≤ part_in r (l.slot y)
  part_altered r y m = elim (cases_eq y x) [
    | inl e ↦ (let P : ℕ → Type 0 = λ v. part_in r (s v) ≤ part_in r (l.slot v) in
        subst P (sym e) (elim (counted_cases (s x).taken (s x).region r (s x).size) [
          | inl c ↦
              (let k = p.same c.0 in
              omega (
                arith,
                c.2,
                counted_is (l.slot x).taken (l.slot x).region r (l.slot x).size k.taken
                    (sym k.region ∙ c.1),
                k.size,
              ))
          | inr c ↦ omega (arith, c.1)
        ]))
    | inr d ↦ omega (arith, ap (part_in r) (p.others y m d))
  ]

  -- of a tablet that is left nothing changed
  others_of : (u y : ℕ) → l.leaving u ≢ 0 → tablet_of_entry n y ≡ u → y < entries_of n → s y ≡ l.slot y
  others_of u y left e m = p.others y m (λ c. left (ap l.leaving (sym e ∙ ap (tablet_of_entry n) c) ∙ p.stays))

  taken_altered : (y : ℕ) → y < entries_of n → counted (s y).taken (s y).size ≤ counted (l.slot y).taken (l.slot y).size
  taken_altered y m = elim (cases_eq y x) [
    | inl e ↦ subst (λ v. counted (s v).taken (s v).size ≤ counted (l.slot v).taken (l.slot v).size) (sym e)
        (by (s x).taken refl)
    | inr d ↦ omega (arith, ap (λ (q : Slot). counted q.taken q.size) (p.others y m d))
  ]
    where
      by : (b : Bool) → (s x).taken ≡ b → counted (s x).taken (s x).size ≤ counted (l.slot x).taken (l.slot x).size
      by true e = let k = p.same e in
          omega (arith, ap (λ b. counted b (s x).size) e, ap (λ b. counted b (l.slot x).size) k.taken, k.size)
      by false e = omega (arith, ap (λ b. counted b (s x).size) e)

  pub alter_kept : OneCopy n (record l { slot = s })
  alter_kept = record {
    role = o.role;
    home_in = o.home_in;
    given_in = o.given_in;
    home_own = o.home_own;
    given_own = o.given_own;
    whole = λ y m. elim (cases_eq y x) [
      | inl e ↦
          (let P : ℕ → Type 0 = λ v. (s v).taken ≡ true →
          InHome altered (tablet_of_entry n v) (s v) ⊎ InGiven n altered (tablet_of_entry n v) (s v) in
          subst P (sym e) (λ taken. let k = p.same taken in elim (o.whole x p.inside k.taken) [
            | inl i ↦ inl (record { region = k.region ∙ i.region; below = omega (arith, i.below, k.offset, k.size) })
            | inr g ↦
                absurd (home_kept n l o (tablet_of_entry n x) (tablet_of_entry n x)
                (belongings_in_range.entry n x p.inside) (belongings_in_range.entry n x p.inside)
                (ap (λ r. r + 1) (sym k.home) ∙ g.region))
          ]))
      | inr d ↦
          (let P : Slot → Type 0 = λ q. q.taken ≡ true → InHome altered (tablet_of_entry n y) q ⊎ InGiven n altered
          (tablet_of_entry n y) q in
          subst P (sym (p.others y m d)) (λ taken. elim (o.whole y m taken) [
            | inl i ↦ inl (record { region = i.region; below = i.below })
            | inr g ↦ inr (record { region = g.region; below = g.below; old = g.old })
          ]))
    ];
    one = λ a b r w ha hb ka kb. o.one a b r w ha hb (was_there a r w ha ka) (was_there b r w hb kb);
    room = λ u k. omega (
      arith,
      o.room u k,
      over_le n u k (λ y. part_in (l.home u) (s y)) (λ y. part_in (l.home u) (l.slot y))
          (λ y m e. part_altered (l.home u) y m),
    );
    within = o.within;
    made_in = o.made_in;
    made_all = λ u k. omega (
      arith,
      o.made_all u k,
      over_le n u k (λ y. counted (s y).taken (s y).size)
          (λ y. counted (l.slot y).taken (l.slot y).size) (λ y m e. taken_altered y m),
    );
    leaves = o.leaves;
    exact = λ u k left. over_same n u k (λ y. part_in (l.home u) (s y)) (λ y. part_in (l.home u) (l.slot y))
        (λ y m e. ap (part_in (l.home u)) (others_of u y left e m)) ∙ o.exact u k left;
    cycle_fits = λ u k left. omega (
      arith,
      o.cycle_fits u k left,
      over_same n u k (λ y. part_of_cycle l.cycle (s y))
          (λ y. part_of_cycle l.cycle (l.slot y)) (λ y m e. ap (part_of_cycle l.cycle) (others_of u y left e m)),
    );
    fresh = λ y m taken left. (let P : Slot → Type 0 = λ q. q.taken ≡ true → q.region ≡ l.home (tablet_of_entry n y) →
        q.epoch ≡ l.cycle in
        subst P (sym (others_of (tablet_of_entry n y) y left refl m)) (λ t. o.fresh y m t left) taken);
  }

module _ (n : Numbers) (l : Layout) (o : OneCopy n l) (v : ℕ → ℕ) (t : ℕ) (p : Clears n l v t) where
  abbrev cleared : Layout
  cleared = record l { leaving = v }

  -- what is left still was left before
  still : (u : ℕ) → u < tablets_of n → v u ≢ 0 → v u ≡ l.leaving u
  still u k left = elim (cases_eq u t) [ inl e ↦ absurd (left (ap v e ∙ p.cleared)) | inr d ↦ p.others u k d ]

  was_left : (u : ℕ) → u < tablets_of n → v u ≢ 0 → l.leaving u ≢ 0
  was_left u k left none = left (still u k left ∙ none)

  -- a record of the cycle in a region given up is one of a tablet that is left
  old_after : (y : ℕ) → y < entries_of n → (l.slot y).taken ≡ true → InGiven n l (tablet_of_entry n y) (l.slot y) →
      v (tablet_of_entry n y) ≡ 0 → (l.slot y).epoch ≢ l.cycle
  old_after y m taken g none now = elim (cases_eq (tablet_of_entry n y) t) [
    | inl e ↦ home_kept n l o t (tablet_of_entry n y) p.inside (belongings_in_range.entry n y m)
        (ap (λ r. r + 1) (sym (p.moved y m e taken now)) ∙ g.region)
    | inr d ↦ g.old (sym (p.others (tablet_of_entry n y) (belongings_in_range.entry n y m) d) ∙ none) now
  ]

  pub clear_kept : OneCopy n (record l { leaving = v })
  clear_kept = record {
    role = o.role;
    home_in = o.home_in;
    given_in = o.given_in;
    home_own = o.home_own;
    given_own = o.given_own;
    whole = λ y m taken. elim (o.whole y m taken) [
      | inl i ↦ inl (record { region = i.region; below = i.below })
      | inr g ↦ inr (record { region = g.region; below = g.below; old = old_after y m taken g })
    ];
    one = o.one;
    room = o.room;
    within = o.within;
    made_in = o.made_in;
    made_all = o.made_all;
    leaves = λ u k left. still u k left ∙ o.leaves u k (was_left u k left);
    exact = λ u k left. o.exact u k (was_left u k left);
    cycle_fits = λ u k left. o.cycle_fits u k (was_left u k left);
    fresh = λ y m taken left. o.fresh y m taken (was_left (tablet_of_entry n y) (belongings_in_range.entry n y m) left);
  }

-- Store Idle: the regions given up become spare
module _ (n : Numbers) (l : Layout) (o : OneCopy n l) (g p : ℕ → ℕ) (f : Finishes n l g p) where
  no_gifts : (r : ℕ) → gifts_at n (record l { given = g; spare = p }) r ≡ 0
  no_gifts r = sum_below_none (tablets_of n) (λ t. counted (g t == r + 1) 1)
      (λ t k. count_off (g t) (r + 1) 1 (λ e. omega (arith, f.none t k)))

  pub finish_kept : OneCopy n (record l { given = g; spare = p })
  finish_kept = record {
    role = λ r k. omega (arith, o.role r k, f.spares r k, no_gifts r);
    home_in = o.home_in;
    given_in = λ t k. omega (arith, f.none t k);
    home_own = o.home_own;
    given_own = λ t r k e. absurd (omega (arith, f.none t k));
    whole = λ y m taken. elim (o.whole y m taken) [
      | inl i ↦ inl (record { region = i.region; below = i.below })
      | inr h ↦ absurd (h.old (f.left (tablet_of_entry n y) (belongings_in_range.entry n y m)) (f.moved y m taken))
    ];
    one = o.one;
    room = o.room;
    within = o.within;
    made_in = o.made_in;
    made_all = o.made_all;
    leaves = λ u k left. absurd (left (f.left u k));
    exact = o.exact;
    cycle_fits = o.cycle_fits;
    fresh = o.fresh;
  }

-- Store Trace: the next cycle, when no tablet has given up a region
pub cycle_kept : (n : Numbers) (l : Layout) → OneCopy n l → (c : ℕ) → ((t : ℕ) → t < tablets_of n → l.given t ≡ 0) →
    OneCopy n (record l { cycle = c })
cycle_kept n l o c none =
    let stays : (u : ℕ) → u < tablets_of n → l.leaving u ≢ 0 → ⊥ = λ u k left. left (o.leaves u k left ∙ none u k) in
    record {
      role = o.role;
      home_in = o.home_in;
      given_in = o.given_in;
      home_own = o.home_own;
      given_own = o.given_own;
      whole = λ y m taken. elim (o.whole y m taken) [
        | inl i ↦ inl (record { region = i.region; below = i.below })
        | inr g ↦ absurd (let z = none (tablet_of_entry n y) (belongings_in_range.entry n y m) in
            omega (arith, g.region))
      ];
      one = o.one;
      room = o.room;
      within = o.within;
      made_in = o.made_in;
      made_all = o.made_all;
      leaves = o.leaves;
      exact = o.exact;
      cycle_fits = λ u k left. absurd (stays u k left);
      fresh = λ y m taken left. absurd (stays (tablet_of_entry n y) (belongings_in_range.entry n y m) left);
    }
