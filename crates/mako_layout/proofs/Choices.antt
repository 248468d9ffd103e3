-- One copy is kept where a tablet gives up its home for a spare region, and where layouts are the same.
use Rattle.std.proofs.Common.{◌≡◌, ◌≢◌, ℕ, ◌+◌, ◌<◌, ◌≤◌, ◌⊎◌, inl, inr, true, ◌==◌, sym, ap, ◌∙◌, subst, arith}
use Rattle.std.proofs.lemmas.Bool.{cases_eq}
use Rattle.mako_shape.specs.declared.numbers.Numbers.{Numbers}
use Rattle.mako_shape.specs.Belongings.{tablet_of_entry, server_of_tablet, server_of_region}
use Rattle.mako_shape.proofs.BelongingLaws.{belongings_in_range}
use Rattle.mako_gate.specs.Sums.{counted}
use Rattle.mako_gate.specs.Changes.{tablets_of}
use Rattle.mako_layout.specs.Layouts.{Slot, Layout, entries_of, regions_of, part_in, part_of_cycle, home_words}
use Rattle.mako_layout.specs.Layouts.{cycle_words, homes_at, gifts_at, InHome, InGiven, Holds, OneCopy}
use Rattle.mako_layout.specs.Changes.{Chooses, AreSame}
use Rattle.mako_layout.proofs.Sums.{sum_below_same, sum_below_one, over_le, over_same, over_none, counted_cases}
use Rattle.mako_layout.proofs.Sums.{counted_is, counted_not, one_same}
use Rattle.mako_layout.proofs.Roles.{home_not_spare, given_not_spare}
use Rattle.mako_gate.proofs.Numbers.{count_off}

module _ (n : Numbers) (l : Layout) (o : OneCopy n l) (m : Layout) (t r : ℕ) (p : Chooses n l m t r) where
  -- no record lies in a spare region
  spare_empty : (y : ℕ) → y < entries_of n → (l.slot y).taken ≡ true → (l.slot y).region ≢ r
  spare_empty y h taken e = elim (o.whole y h taken) [
    | inl i ↦
        (let z = home_not_spare n l o (tablet_of_entry n y) r (belongings_in_range.entry n y h) (sym i.region ∙ e) in
        let s = p.spare in omega arith)
    | inr g ↦
        (let z = given_not_spare n l o (tablet_of_entry n y) r (belongings_in_range.entry n y h)
        (ap (λ q. q + 1) (sym e) ∙ g.region) in let s = p.spare in omega arith)
  ]

  -- before, the tablet's records were all in its home
  settled : (y : ℕ) → y < entries_of n → tablet_of_entry n y ≡ t → (l.slot y).taken ≡ true →
      ((l.slot y).region ≡ l.home t) × ((l.slot y).offset + (l.slot y).size ≤ n.words)
  settled y h e taken = elim (o.whole y h taken) [
    | inl i ↦ (
      i.region
          ∙ ap l.home e,
      omega (arith, i.below, o.within (tablet_of_entry n y) (belongings_in_range.entry n y h)),
    )
    | inr g ↦ absurd (let z = ap l.given e ∙ p.settled in omega (arith, g.region))
  ]

  -- the tablet is t, or nothing of it changed
  none_home : home_words n m t ≡ 0
  none_home = over_none n t p.inside (λ y. part_in (m.home t) (m.slot y)) (λ y h e.
      subst (λ q. part_in (m.home t) q ≡ 0) (sym (p.slots y h))
      (counted_not (l.slot y).taken (l.slot y).region (m.home t) (l.slot y).size
      (λ taken same. spare_empty y h taken (same ∙ p.home))))

  same_home : (u : ℕ) → u < tablets_of n → u ≢ t → home_words n m u ≡ home_words n l u
  same_home u k d = over_same n u k (λ y. part_in (m.home u) (m.slot y)) (λ y. part_in (l.home u) (l.slot y))
      (λ y h e i. part_in (p.homes u k d i) (p.slots y h i))

  same_live : (u : ℕ) → u < tablets_of n → cycle_words n m u ≡ cycle_words n l u
  same_live u k = over_same n u k (λ y. part_of_cycle m.cycle (m.slot y)) (λ y. part_of_cycle l.cycle (l.slot y))
      (λ y h e i. part_of_cycle (p.cycle i) (p.slots y h i))

  live_fits : cycle_words n l t ≤ n.words
  live_fits = omega (
    arith,
    o.room t p.inside,
    o.within t p.inside,
    over_le n t p.inside (λ y. part_of_cycle l.cycle (l.slot y)) (λ y. part_in (l.home t) (l.slot y)) (λ y h e.
        elim (counted_cases (l.slot y).taken (l.slot y).epoch l.cycle (l.slot y).size) [
          | inl c ↦
              omega (
                arith,
                c.2,
                counted_is (l.slot y).taken (l.slot y).region (l.home t) (l.slot y).size c.0
                    (settled y h e c.0).0,
              )
          | inr c ↦ omega (arith, c.1)
        ]),
  )

  homes_change : (q : ℕ) → homes_at n m q + counted (l.home t == q) 1 ≡ homes_at n l q + counted (r == q) 1
  homes_change q =
      let one = sum_below_one (tablets_of n) (λ u. counted (m.home u == q) 1) (λ u. counted (l.home u == q) 1) t
      p.inside (λ u k d. ap (λ h. counted (h == q) 1) (p.homes u k d)) in
      one ∙ ap (λ h. homes_at n l q + counted (h == q) 1) p.home

  gifts_change : (q : ℕ) → gifts_at n m q ≡ gifts_at n l q + counted (l.home t == q) 1
  gifts_change q =
      let one = sum_below_one (tablets_of n) (λ u. counted (m.given u == q + 1) 1)
      (λ u. counted (l.given u == q + 1) 1) t p.inside
      (λ u k d. ap (λ h. counted (h == q + 1) 1) (p.givens u k d)) in
      let a = count_off (l.given t) (q + 1) 1 (λ e. let z = p.settled in omega arith) in
      let b = one_same (m.given t) (q + 1) (l.home t) q (λ e. let z = p.given in omega arith) (λ e. let z = p.given in
      omega arith) in
      omega arith

  pub choose_kept : OneCopy n m
  choose_kept = record {
    role = λ q k. omega (arith, o.role q k, homes_change q, gifts_change q, p.spares q k);
    home_in = λ u k. elim (cases_eq u t) [
      | inl e ↦ subst (λ v. m.home v < regions_of n) (sym e) (let z = p.home in let y = p.region in
          omega arith)
      | inr d ↦ (let z = p.homes u k d in let y = o.home_in u k in omega arith)
    ];
    given_in = λ u k. elim (cases_eq u t) [
      | inl e ↦ subst (λ v. m.given v ≤ regions_of n) (sym e) (let z = p.given in let y = o.home_in t p.inside in
          omega arith)
      | inr d ↦ (let z = p.givens u k d in let y = o.given_in u k in omega arith)
    ];
    home_own = λ u k. elim (cases_eq u t) [
      | inl e ↦
          subst (λ v. server_of_region n (m.home v) ≡ server_of_tablet
          n v) (sym e) (ap (server_of_region n) p.home ∙ p.own)
      | inr d ↦ ap (server_of_region n) (p.homes u k d) ∙ o.home_own u k
    ];
    given_own = λ u q k is. elim (cases_eq u t) [
      | inl e ↦ (let same : l.home t ≡ q = (let a = ap m.given e in let b = p.given in omega arith) in
          ap (server_of_region n) (sym same) ∙ o.home_own t p.inside ∙ ap (server_of_tablet n) (sym e))
      | inr d ↦ o.given_own u q k (sym (p.givens u k d) ∙ is)
    ];
    whole = λ y h. subst (λ (q : Slot). q.taken ≡ true →
        InHome m (tablet_of_entry n y) q ⊎ InGiven n m (tablet_of_entry n y) q) (sym (p.slots y h)) (λ taken.
        elim (cases_eq (tablet_of_entry n y) t) [
          | inl e ↦ inr (subst (λ u. InGiven n m u (l.slot y)) (sym e) (let s = settled y h e taken in
              record {
                region = ap (λ q. q + 1) s.0 ∙ sym p.given;
                below = s.1;
                old = λ zero. absurd (let z = p.leaving in omega arith);
              }))
          | inr d ↦ (let k = belongings_in_range.entry n y h in elim (o.whole y h taken) [
            | inl i ↦
                inl (record {
                  region = i.region ∙ sym (p.homes (tablet_of_entry n y) k d);
                  below = omega (arith, i.below, p.filleds (tablet_of_entry n y) k d);
                })
            | inr g ↦ inr (record {
              region = g.region ∙ sym (p.givens (tablet_of_entry n y) k d);
              below = g.below;
              old = λ z now. g.old (sym (p.leavings (tablet_of_entry n y) k d) ∙ z) (now ∙ p.cycle);
            })
          ])
        ]);
    one = λ a b q w ha hb ka kb. o.one a b q w ha hb (subst (λ z. Holds z q w) (p.slots a ha) ka)
        (subst (λ z. Holds z q w) (p.slots b hb) kb);
    room = λ u k. elim (cases_eq u t) [
      | inl e ↦ subst (λ v. home_words n m v ≤ m.filled v) (sym e) (omega (arith, none_home))
      | inr d ↦ omega (arith, same_home u k d, p.filleds u k d, o.room u k)
    ];
    within = λ u k. elim (cases_eq u t) [
      | inl e ↦ subst (λ v. m.filled v ≤ n.words) (sym e) (let z = p.filled in omega arith)
      | inr d ↦ omega (arith, p.filleds u k d, o.within u k)
    ];
    made_in = λ u k. elim (cases_eq u t) [
      | inl e ↦ subst (λ v. m.filled v ≤ m.made v) (sym e) (let z = p.filled in omega arith)
      | inr d ↦ omega (arith, p.filleds u k d, p.mades u k, o.made_in u k)
    ];
    made_all = λ u k. omega (
      arith,
      p.mades u k,
      o.made_all u k,
      over_same n u k (λ y. counted (m.slot y).taken (m.slot y).size)
          (λ y. counted (l.slot y).taken (l.slot y).size)
          (λ y h e. ap (λ (q : Slot). counted q.taken q.size) (p.slots y h)),
    );
    leaves = λ u k left. elim (cases_eq u t) [
      | inl e ↦ subst (λ v. m.leaving v ≡ m.given v) (sym e) (p.leaving ∙ sym p.given)
      | inr d ↦ p.leavings u k d ∙ o.leaves u k (λ z. left (p.leavings u k d ∙ z)) ∙ sym (p.givens u k d)
    ];
    exact = λ u k left. elim (cases_eq u t) [
      | inl e ↦ subst (λ v. home_words n m v ≡ m.filled v) (sym e) (none_home ∙ sym p.filled)
      | inr d ↦ same_home u k d ∙ o.exact u k (λ z. left (p.leavings u k d ∙ z)) ∙ sym (p.filleds u k d)
    ];
    cycle_fits = λ u k left. elim (cases_eq u t) [
      | inl e ↦ omega (arith, same_live u k, subst (λ v. cycle_words n l v ≤ n.words) (sym e) live_fits)
      | inr d ↦ omega (arith, same_live u k, o.cycle_fits u k (λ z. left (p.leavings u k d ∙ z)))
    ];
    fresh = λ y h. subst (λ (q : Slot). q.taken ≡ true → m.leaving (tablet_of_entry n y) ≢ 0 →
        q.region ≡ m.home (tablet_of_entry n y) → q.epoch ≡ m.cycle) (sym (p.slots y h)) (λ taken left here.
        elim (cases_eq (tablet_of_entry n y) t) [
          | inl e ↦ absurd (spare_empty y h taken (here ∙ ap m.home e ∙ p.home))
          | inr d ↦ (let k = belongings_in_range.entry n y h in
              o.fresh y h taken (λ z. left (p.leavings (tablet_of_entry n y) k d ∙ z))
              (here ∙ p.homes (tablet_of_entry n y) k d) ∙ sym p.cycle)
        ]);
  }

module _ (n : Numbers) (l : Layout) (o : OneCopy n l) (m : Layout) (p : AreSame n l m) where
  still_left : (u : ℕ) → u < tablets_of n → m.leaving u ≢ 0 → l.leaving u ≢ 0
  still_left u k left z = left (p.leavings u k ∙ z)

  homes_same : (u : ℕ) → u < tablets_of n → home_words n m u ≡ home_words n l u
  homes_same u k = over_same n u k (λ y. part_in (m.home u) (m.slot y)) (λ y. part_in (l.home u) (l.slot y))
      (λ y h e i. part_in (p.homes u k i) (p.slots y h i))

  lives_same : (u : ℕ) → u < tablets_of n → cycle_words n m u ≡ cycle_words n l u
  lives_same u k = over_same n u k (λ y. part_of_cycle m.cycle (m.slot y)) (λ y. part_of_cycle l.cycle (l.slot y))
      (λ y h e i. part_of_cycle (p.cycle i) (p.slots y h i))

  pub same_kept : OneCopy n m
  same_kept = record {
    role = λ r k. omega (
      arith,
      o.role r k,
      p.spares r k,
      sum_below_same (tablets_of n) (λ u. counted (m.home u == r) 1) (λ u. counted (l.home u == r) 1)
          (λ u h i. counted (p.homes u h i == r) 1),
      sum_below_same (tablets_of n) (λ u. counted (m.given u == r + 1) 1) (λ u. counted (l.given u == r + 1) 1)
          (λ u h i. counted (p.givens u h i == r + 1) 1),
    );
    home_in = λ u k. omega (arith, p.homes u k, o.home_in u k);
    given_in = λ u k. omega (arith, p.givens u k, o.given_in u k);
    home_own = λ u k. ap (server_of_region n) (p.homes u k) ∙ o.home_own u k;
    given_own = λ u q k is. o.given_own u q k (sym (p.givens u k) ∙ is);
    whole = λ y h. subst (λ (q : Slot). q.taken ≡ true →
        InHome m (tablet_of_entry n y) q ⊎ InGiven n m (tablet_of_entry n y) q) (sym (p.slots y h)) (λ taken.
        let k = belongings_in_range.entry n y h in elim (o.whole y h taken) [
          | inl i ↦
              inl (record {
                region = i.region ∙ sym (p.homes (tablet_of_entry n y) k);
                below = omega (arith, i.below, p.filleds (tablet_of_entry n y) k);
              })
          | inr g ↦
              inr (record {
                region = g.region ∙ sym (p.givens (tablet_of_entry n y) k);
                below = g.below;
                old = λ z now. g.old (sym (p.leavings (tablet_of_entry n y) k) ∙ z) (now ∙ p.cycle);
              })
        ]);
    one = λ a b q w ha hb ka kb. o.one a b q w ha hb (subst (λ z. Holds z q w) (p.slots a ha) ka)
        (subst (λ z. Holds z q w) (p.slots b hb) kb);
    room = λ u k. omega (arith, homes_same u k, p.filleds u k, o.room u k);
    within = λ u k. omega (arith, p.filleds u k, o.within u k);
    made_in = λ u k. omega (arith, p.filleds u k, p.mades u k, o.made_in u k);
    made_all = λ u k. omega (
      arith,
      p.mades u k,
      o.made_all u k,
      over_same n u k (λ y. counted (m.slot y).taken (m.slot y).size)
          (λ y. counted (l.slot y).taken (l.slot y).size)
          (λ y h e. ap (λ (q : Slot). counted q.taken q.size) (p.slots y h)),
    );
    leaves = λ u k left. p.leavings u k ∙ o.leaves u k (still_left u k left) ∙ sym (p.givens u k);
    exact = λ u k left. homes_same u k ∙ o.exact u k (still_left u k left) ∙ sym (p.filleds u k);
    cycle_fits = λ u k left. omega (arith, lives_same u k, o.cycle_fits u k (still_left u k left));
    fresh = λ y h. subst (λ (q : Slot). q.taken ≡ true → m.leaving (tablet_of_entry n y) ≢ 0 →
        q.region ≡ m.home (tablet_of_entry n y) → q.epoch ≡ m.cycle) (sym (p.slots y h)) (λ taken left here.
        let k = belongings_in_range.entry n y h in
        o.fresh y h taken (still_left (tablet_of_entry n y) k left) (here ∙ p.homes (tablet_of_entry n y) k)
        ∙ sym p.cycle);
  }
