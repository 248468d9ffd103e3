-- What a layout with one copy of each record says of records and regions.
use Rattle.std.proofs.Common.{◌≡◌, ◌≢◌, ℕ, ◌+◌, ◌<◌, ◌≤◌, inl, inr, ⊎_elim, true, ◌==◌, sym, ap, ◌∙◌, subst, arith}
use Rattle.std.proofs.lemmas.Bool.{cases_eq}
use Rattle.mako_shape.specs.declared.numbers.Numbers.{Numbers}
use Rattle.mako_shape.specs.Belongings.{tablet_of_entry}
use Rattle.mako_shape.proofs.BelongingLaws.{belongings_in_range}
use Rattle.mako_gate.specs.Sums.{counted}
use Rattle.mako_gate.specs.Changes.{tablets_of}
use Rattle.mako_layout.specs.Layouts.{Layout, entries_of, part_in, part_of_cycle, home_words, cycle_words, Holds}
use Rattle.mako_layout.specs.Layouts.{OneCopy}
use Rattle.mako_layout.proofs.Sums.{term_below, terms_below, over_le_at, over_same, counted_cases, counted_is}
use Rattle.mako_layout.proofs.Sums.{counted_not}
use Rattle.mako_gate.proofs.Numbers.{count_at}

module _ (n : Numbers) (l : Layout) (o : OneCopy n l) where
  -- a region is the home of one tablet
  pub one_home : (t u : ℕ) → t < tablets_of n → u < tablets_of n → l.home t ≡ l.home u → t ≡ u
  one_home t u h k e = ⊎_elim (λ same. same)
      (λ (d : t ≡ u → ⊥).
      let two = terms_below (tablets_of n) (λ v. counted (l.home v == l.home t) 1) t u h k d in
      let a = count_at (l.home t) (l.home t) 1 (λ i. l.home t) in
      let b = count_at (l.home u) (l.home t) 1 (sym e) in
      let r = o.role (l.home t) (o.home_in t h) in absurd (omega arith))
      (cases_eq t u)

  -- and not given up
  pub home_kept : (t u : ℕ) → t < tablets_of n → u < tablets_of n → l.home t + 1 ≡ l.given u → ⊥
  home_kept t u h k e =
      let a = term_below (tablets_of n) (λ v. counted (l.home v == l.home t) 1) t h in
      let b = term_below (tablets_of n) (λ v. counted (l.given v == l.home t + 1) 1) u k in
      let c = count_at (l.home t) (l.home t) 1 (λ i. l.home t) in
      let d = count_at (l.given u) (l.home t + 1) 1 (sym e) in
      let r = o.role (l.home t) (o.home_in t h) in omega arith

  -- and not spare
  pub home_not_spare : (t r : ℕ) → t < tablets_of n → l.home t ≡ r → l.spare r ≡ 0
  home_not_spare t r h e =
      let a = term_below (tablets_of n) (λ v. counted (l.home v == l.home t) 1) t h in
      let c = count_at (l.home t) (l.home t) 1 (λ i. l.home t) in
      let q = o.role (l.home t) (o.home_in t h) in
      subst (λ s. l.spare s ≡ 0) e (omega arith)

  pub given_not_spare : (t r : ℕ) → t < tablets_of n → r + 1 ≡ l.given t → l.spare r ≡ 0
  given_not_spare t r h e =
      let a = term_below (tablets_of n) (λ v. counted (l.given v == r + 1) 1) t h in
      let c = count_at (l.given t) (r + 1) 1 (sym e) in
      let q = o.role r (omega (arith, o.given_in t h)) in omega arith

  -- a taken record in a home is one of that tablet, below the words in use
  pub record_in_home : (x t : ℕ) → x < entries_of n → t < tablets_of n → (l.slot x).taken ≡ true →
      (l.slot x).region ≡ l.home t →
      (tablet_of_entry n x ≡ t) × ((l.slot x).offset + (l.slot x).size ≤ l.filled t)
  record_in_home x t h k taken e = elim (o.whole x h taken) [
    | inl i ↦
        (let same : tablet_of_entry n x ≡ t = one_home (tablet_of_entry n x) t (belongings_in_range.entry n x h) k
        (sym i.region ∙ e) in
        (same, subst (λ u. (l.slot x).offset + (l.slot x).size ≤ l.filled u) same i.below))
    | inr g ↦
        absurd (home_kept t (tablet_of_entry n x) k (belongings_in_range.entry n x h)
        (ap (λ r. r + 1) (sym e) ∙ g.region))
  ]

  -- no word from the words in use on belongs to a record
  pub free_above : (x t r w : ℕ) → x < entries_of n → t < tablets_of n → Holds (l.slot x) r w → r ≡ l.home t →
      w < l.filled t
  free_above x t r w h k holds e = omega (arith, holds.high, (record_in_home x t h k holds.taken (holds.region ∙ e)).1)

  -- a record of the cycle outside the home makes the tablet one that is left
  pub away : (x : ℕ) → x < entries_of n → (l.slot x).taken ≡ true → (l.slot x).epoch ≡ l.cycle →
      (l.slot x).region ≢ l.home (tablet_of_entry n x) →
      l.leaving (tablet_of_entry n x) ≢ 0
  away x h taken now out none = elim (o.whole x h taken) [
    | inl i ↦ out i.region
    | inr g ↦ g.old none now
  ]

  -- a part in the home is one of the cycle, where the tablet is left
  pub part_le : (t y : ℕ) → y < entries_of n → tablet_of_entry n y ≡ t → l.leaving t ≢ 0 →
      part_in (l.home t) (l.slot y) ≤ part_of_cycle l.cycle (l.slot y)
  part_le t y h e left = elim (counted_cases (l.slot y).taken (l.slot y).region (l.home t) (l.slot y).size) [
    | inl c ↦
        (let now : (l.slot y).epoch ≡ l.cycle = o.fresh y h c.0 (subst (λ u. l.leaving u ≢ 0) (sym e) left)
        (c.1 ∙ ap l.home (sym e)) in
        omega (arith, c.2, counted_is (l.slot y).taken (l.slot y).epoch l.cycle (l.slot y).size c.0 now))
    | inr c ↦ omega (arith, c.1)
  ]

  -- the copy fits
  pub copy_fits : (x : ℕ) → x < entries_of n → (l.slot x).taken ≡ true → (l.slot x).epoch ≡ l.cycle →
      (l.slot x).region ≢ l.home (tablet_of_entry n x) →
      l.filled (tablet_of_entry n x) + (l.slot x).size ≤ n.words
  copy_fits x h taken now out =
      let t : ℕ = tablet_of_entry n x in
      let k : t < tablets_of n = belongings_in_range.entry n x h in
      let left : l.leaving t ≢ 0 = away x h taken now out in
      let nothing = counted_not (l.slot x).taken (l.slot x).region (l.home t) (l.slot x).size (λ _. out) in
      let all = counted_is (l.slot x).taken (l.slot x).epoch l.cycle (l.slot x).size taken now in
      let more : home_words n l t + (l.slot x).size ≤ cycle_words n l t =
      over_le_at n t k (λ y. part_in (l.home t) (l.slot y)) (λ y. part_of_cycle l.cycle (l.slot y)) x (l.slot x).size
      h (λ i. t)
      (λ y m e. part_le t y m e left) (omega arith) in
      omega (arith, o.exact t k left, o.cycle_fits t k left)

  -- all records of the cycle are in the home: the words in use are theirs
  pub all_moved : (t : ℕ) → t < tablets_of n → l.leaving t ≢ 0 →
      ((x : ℕ) → x < entries_of n → tablet_of_entry n x ≡ t → (l.slot x).taken ≡ true → (l.slot x).epoch ≡ l.cycle →
      (l.slot x).region ≡ l.home t) →
      l.filled t ≡ cycle_words n l t
  all_moved t k left moved =
      sym (o.exact t k left) ∙ over_same n t k (λ y. part_in (l.home t) (l.slot y))
      (λ y. part_of_cycle l.cycle (l.slot y)) (λ y m e.
      elim (counted_cases (l.slot y).taken (l.slot y).epoch l.cycle (l.slot y).size) [
        | inl c ↦ counted_is (l.slot y).taken (l.slot y).region (l.home t) (l.slot y).size c.0 (moved y m e c.0 c.1)
            ∙ sym c.2
        | inr c ↦ omega (arith, c.1, part_le t y m e left)
      ])
