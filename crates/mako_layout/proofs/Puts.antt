-- One copy is kept where a record comes to stand at the end of its tablet's home.
use Rattle.std.proofs.Common.{◌≡◌, ◌≢◌, ℕ, ◌+◌, ◌<◌, ◌≤◌, ◌⊎◌, inl, inr, ⊎_elim, Bool, true, false, ◌&&◌, ◌==◌, sym, ap}
use Rattle.std.proofs.Common.{◌∙◌, subst, arith}
use Rattle.std.proofs.lemmas.Bool.{cases_eq}
use Rattle.mako_shape.specs.declared.numbers.Numbers.{Numbers}
use Rattle.mako_shape.specs.Belongings.{tablet_of_entry}
use Rattle.mako_shape.proofs.BelongingLaws.{belongings_in_range}
use Rattle.mako_gate.specs.Sums.{counted}
use Rattle.mako_gate.specs.Changes.{tablets_of}
use Rattle.mako_layout.specs.Layouts.{Slot, Layout, entries_of, part_in, part_of_cycle, taken_words, home_words}
use Rattle.mako_layout.specs.Layouts.{cycle_words, InHome, InGiven, Holds, OneCopy}
use Rattle.mako_layout.specs.Changes.{Puts}
use Rattle.mako_layout.proofs.Sums.{over_one, over_same, over_le, counted_is, counted_not}
use Rattle.mako_layout.proofs.Roles.{free_above}

part_below : (a b : Bool) (z : ℕ) → counted (a && b) z ≤ counted a z
part_below true true z = omega arith
part_below true false z = omega arith
part_below false b z = omega arith

module _ (n : Numbers) (l : Layout) (o : OneCopy n l) (s : ℕ → Slot) (f d : ℕ → ℕ) (x : ℕ) (p : Puts n l s f d x) where
  abbrev after : Layout
  after = record l { slot = s; filled = f; made = d }

  abbrev at : ℕ
  at = tablet_of_entry n x

  at_in : at < tablets_of n
  at_in = belongings_in_range.entry n x p.inside

  rises : (u : ℕ) → u < tablets_of n → l.filled u ≤ f u
  rises u k = ⊎_elim (λ e. subst (λ v. l.filled v ≤ f v) (sym e) (omega (arith, p.raised)))
      (λ (d : u ≡ at → ⊥). omega (arith, p.filled u k d)) (cases_eq u at)

  -- the words in the homes, after
  home_after : (u : ℕ) → u < tablets_of n →
      ((u ≡ at) × (home_words n after u ≡ home_words n l u + (s x).size) × (f u ≡ l.filled u + (s x).size) ×
      (f u ≤ n.words))
      ⊎ ((u ≢ at) × (home_words n after u ≡ home_words n l u) × (f u ≡ l.filled u))
  home_after u k = elim (cases_eq u at) [
    | inl e ↦
        inl (let P : ℕ → Type 0 = λ v. (v ≡ at) × (home_words n after v ≡ home_words n l v + (s x).size) ×
        (f v ≡ l.filled v + (s x).size) × (f v ≤ n.words) in
        let one = over_one n at at_in (λ y. part_in (l.home at) (l.slot y)) (λ y. part_in (l.home at) (s y)) x
        p.inside (λ i. at)
        (λ y m d. ap (part_in (l.home at)) (sym (p.others y m d))) in
        let nothing = counted_not (l.slot x).taken (l.slot x).region (l.home at) (l.slot x).size p.out in
        let all = counted_is (s x).taken (s x).region (l.home at) (s x).size p.taken p.region in
        subst P (sym e) ((λ i. at), omega arith, p.raised, omega (arith, p.raised, p.fits)))
    | inr ne ↦ inr (
      ne,
      over_same n u k (λ y. part_in (l.home u) (s y)) (λ y. part_in (l.home u) (l.slot y))
          (λ y m e. ap (part_in (l.home u)) (p.others y m (λ c. ne (sym e ∙ ap (tablet_of_entry n) c)))),
      p.filled u k ne,
    )
  ]

  live_after : (u : ℕ) → u < tablets_of n → l.leaving u ≢ 0 → cycle_words n after u ≡ cycle_words n l u
  live_after u k left = over_same n u k (λ y. part_of_cycle l.cycle (s y)) (λ y. part_of_cycle l.cycle (l.slot y))
      (λ y m e. elim (cases_eq y x) [
        | inl c ↦ (let was = p.was (subst (λ v. l.leaving v ≢ 0) (sym e ∙ ap (tablet_of_entry n) c) left) in
            let a = counted_is (s x).taken (s x).epoch l.cycle (s x).size p.taken p.epoch in
            let b = counted_is (l.slot x).taken (l.slot x).epoch l.cycle (l.slot x).size was.0 was.1 in
            subst (λ v. part_of_cycle l.cycle (s v) ≡ part_of_cycle l.cycle (l.slot v)) (sym c) (omega (arith, was.2)))
        | inr d ↦ ap (part_of_cycle l.cycle) (p.others y m d)
      ])

  -- a word of the new record, and of an old one
  new_word : (r w : ℕ) → Holds (s x) r w → (r ≡ l.home at) × (l.filled at ≤ w)
  new_word r w h = (sym h.region ∙ p.region, omega (arith, h.low, p.offset))

  old_word : (y r w : ℕ) → y < entries_of n → y ≢ x → Holds (s y) r w → Holds (l.slot y) r w
  old_word y r w m d h = subst (λ q. Holds q r w) (p.others y m d) h

  clash : (y r w : ℕ) → y < entries_of n → y ≢ x → Holds (s x) r w → Holds (s y) r w → ⊥
  clash y r w m d h k =
      let a = new_word r w h in
      let b = free_above n l o y at r w m at_in (old_word y r w m d k) a.0 in
      omega (arith, a.1)

  -- the taken words, after
  part_le_taken : (r : ℕ) (q : Slot) → part_in r q ≤ counted q.taken q.size
  part_le_taken r q = part_below q.taken (q.region == r) q.size

  taken_after : (u : ℕ) → u < tablets_of n →
      ((u ≡ at) ×
      (taken_words n after u + counted (l.slot x).taken (l.slot x).size ≡ taken_words n l u + (s x).size)) ⊎
      ((u ≢ at) × (taken_words n after u ≡ taken_words n l u))
  taken_after u k = elim (cases_eq u at) [
    | inl e ↦ inl (
      e,
      subst (λ v. taken_words n after v + counted (l.slot x).taken (l.slot x).size ≡ taken_words n l v + (s x).size)
          (sym e)
          (over_one n at at_in (λ y. counted (s y).taken (s y).size) (λ y. counted (l.slot y).taken (l.slot y).size) x
          p.inside (λ i. at) (λ y m ne. ap (λ (q : Slot). counted q.taken q.size) (p.others y m ne))
          ∙ (λ i. taken_words n l at + counted (p.taken i) (s x).size)),
    )
    | inr ne ↦ inr (
      ne,
      over_same n u k (λ y. counted (s y).taken (s y).size) (λ y. counted (l.slot y).taken (l.slot y).size)
          (λ y m e. ap (λ (q : Slot). counted q.taken q.size)
          (p.others y m (λ c. ne (sym e ∙ ap (tablet_of_entry n) c)))),
    )
  ]

  made_all_after : (u : ℕ) → u < tablets_of n → taken_words n after u ≤ d u
  made_all_after u k = elim (taken_after u k) [
    | inl c ↦ elim p.origin [
      | inl new ↦ (let m = subst (λ v. l.made v + (s x).size ≤ d v) (sym c.0) new.1 in
          omega (arith, c.1, o.made_all u k))
      | inr old ↦
          (let a : counted (l.slot x).taken (l.slot x).size ≡ (l.slot x).size = ap (λ b. counted b (l.slot x).size)
          old.0 in omega (arith, c.1, old.1, o.made_all u k, p.made u k))
    ]
    | inr c ↦ omega (arith, c.1, o.made_all u k, p.made u k)
  ]

  made_in_after : (u : ℕ) → u < tablets_of n → f u ≤ d u
  made_in_after u k = elim (home_after u k) [
    | inl c ↦ elim p.origin [
      | inl new ↦ (let m = subst (λ v. l.made v + (s x).size ≤ d v) (sym c.0) new.1 in
          omega (arith, c.2, o.made_in u k))
      | inr old ↦ (let left : l.leaving u ≢ 0 = subst (λ v. l.leaving v ≢ 0) (sym c.0) old.2 in
          let parts : home_words n after u ≤ taken_words n after u = over_le n u k (λ y. part_in (l.home u) (s y))
          (λ y. counted (s y).taken (s y).size) (λ y _ _. part_le_taken (l.home u) (s y)) in
          omega (arith, c.1, c.2, o.exact u k left, made_all_after u k))
    ]
    | inr c ↦ omega (arith, c.2, o.made_in u k, p.made u k)
  ]

  pub put_kept : OneCopy n (record l { slot = s; filled = f; made = d })
  put_kept = record {
    role = o.role;
    home_in = o.home_in;
    given_in = o.given_in;
    home_own = o.home_own;
    given_own = o.given_own;
    whole = λ y m. elim (cases_eq y x) [
      | inl e ↦
          (let P : ℕ → Type 0 = λ v. (s v).taken ≡ true → InHome after (tablet_of_entry n v) (s v) ⊎ InGiven n after
          (tablet_of_entry n v) (s v) in
          subst P (sym e) (λ _. inl (record { region = p.region; below = omega (arith, p.offset, p.raised) })))
      | inr d ↦
          (let P : Slot → Type 0 = λ q. q.taken ≡ true →
          InHome after (tablet_of_entry n y) q ⊎ InGiven n after (tablet_of_entry n y) q in
          subst P (sym (p.others y m d)) (λ taken. elim (o.whole y m taken) [
            | inl i ↦
                inl (record {
                  region = i.region;
                  below = omega (arith, i.below, rises (tablet_of_entry n y) (belongings_in_range.entry n y m));
                })
            | inr g ↦ inr (record { region = g.region; below = g.below; old = g.old })
          ]))
    ];
    one = λ a b r w ha hb ka kb. elim (cases_eq a x) [
      | inl e ↦ elim (cases_eq b x) [
        | inl c ↦ e ∙ sym c
        | inr d ↦ absurd (clash b r w hb d (subst (λ v. Holds (s v) r w) e ka) kb)
      ]
      | inr d ↦ elim (cases_eq b x) [
        | inl c ↦ absurd (clash a r w ha d (subst (λ v. Holds (s v) r w) c kb) ka)
        | inr c ↦ o.one a b r w ha hb (old_word a r w ha d ka) (old_word b r w hb c kb)
      ]
    ];
    room = λ u k. elim (home_after u k)
        [ inl c ↦ omega (arith, c.1, c.2, o.room u k) | inr c ↦ omega (arith, c.1, c.2, o.room u k) ];
    within = λ u k. elim (home_after u k) [ inl c ↦ c.3 | inr c ↦ omega (arith, c.2, o.within u k) ];
    made_in = made_in_after;
    made_all = made_all_after;
    leaves = o.leaves;
    exact = λ u k left. elim (home_after u k)
        [ inl c ↦ omega (arith, c.1, c.2, o.exact u k left) | inr c ↦ omega (arith, c.1, c.2, o.exact u k left) ];
    cycle_fits = λ u k left. omega (arith, live_after u k left, o.cycle_fits u k left);
    fresh = λ y m. elim (cases_eq y x) [
      | inl e ↦ (let P : ℕ → Type 0 = λ v. (s v).taken ≡ true → l.leaving (tablet_of_entry n v) ≢ 0 →
          (s v).region ≡ l.home (tablet_of_entry n v) → (s v).epoch ≡ l.cycle in
          subst P (sym e) (λ _ _ _. p.epoch))
      | inr d ↦ (let P : Slot → Type 0 = λ q. q.taken ≡ true → l.leaving (tablet_of_entry n y) ≢ 0 →
          q.region ≡ l.home (tablet_of_entry n y) → q.epoch ≡ l.cycle in
          subst P (sym (p.others y m d)) (o.fresh y m))
    ];
  }
