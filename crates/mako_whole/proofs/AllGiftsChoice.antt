-- Roles and gifts where a tablet gives up its region, and gets another.
use Rattle.std.proofs.Common.{◌≡◌, ◌≢◌, ℕ, ◌+◌, ◌<◌, ◌≤◌, ◌==◌, inl, inr, Bool, true, false, List, ◌∷◌, length, set}
use Rattle.std.proofs.Common.{get_or, sym, ap, subst, refl, ◌∙◌, arith}
use Rattle.std.proofs.lemmas.Bool.{cases_eq}
use Rattle.std.proofs.lemmas.Bool.Decides.{nat_tests}
use Rattle.std.proofs.lemmas.Grind.{get_or-set_at}
use Rattle.std.proofs.lemmas.List.{get_or-set_other, length-set}
use Rattle.mako_shape.specs.declared.numbers.Numbers.{Numbers}
use Rattle.mako_gate.specs.Changes.{tablets_of}
use Rattle.mako_gate.specs.Sums.{counted}
use Rattle.mako_gate.proofs.Numbers.{count_at, count_off}
use Rattle.mako_layout.specs.Facets.{Gift, gift_of}
use Rattle.mako_layout.specs.Sums.{sum_below}
use Rattle.mako_layout.proofs.Sums.{sum_below_one, one_same}
use Rattle.mako_pause.specs.Regions.{is_spare}
use Rattle.mako_pause.specs.declared.regions.Role.{Role}
use Rattle.mako_pause.specs.declared.regions.Role.TheVariants.{Home, Spare}
use Rattle.mako_collecting.proofs.Choosing.{given_one}
use Rattle.mako_whole.proofs.AllGifts.{spare_stays}

-- ---- one more gift

abbrev given_in : Numbers → List Gift → ℕ → ℕ
given_in n given r = sum_below (tablets_of n) (λ u. counted (gift_of given u == r + 1) 1)

pub one_more : (n : Numbers) (t former : ℕ) (given : List Gift) (r : ℕ) → t < tablets_of n → gift_of given t ≡ 0
    → given_in n (record { tablet = t; region = former } ∷ given) r ≡ given_in n given r + counted (former == r) 1
one_more n t former given r inside none =
    let now : List Gift = record { tablet = t; region = former } ∷ given in
    let sum = sum_below_one (tablets_of n) (λ u. counted (gift_of now u == r + 1) 1)
    (λ u. counted (gift_of given u == r + 1) 1) t inside
    (λ u low apart.
    let other : counted (t == u) (former + 1) ≡ 0 = count_off t u (former + 1) (λ e. apart (sym e)) in
    let same : gift_of now u ≡ gift_of given u = (let one = given_one t former u given in omega arith) in
    ap (λ q. counted (q == r + 1) 1) same) in
    let here : gift_of now t ≡ former + 1 =
    (let one = given_one t former t given in
    let is : counted (t == t) (former + 1) ≡ former + 1 = count_at t t (former + 1) refl in omega arith) in
    let a = count_off (gift_of given t) (r + 1) 1 (λ e. absurd (omega arith)) in
    let b = one_same (gift_of now t) (r + 1) former r (λ e. omega arith) (λ e. omega arith) in omega arith

-- ---- roles

at_most_one : (b : Bool) → counted b 1 ≤ 1
at_most_one true = omega arith
at_most_one false = omega arith

next_not_spare : (cycle : ℕ) → is_spare cycle (Spare (cycle + 1)) ≡ false
next_not_spare cycle = grind (arith, nat_tests)

next_spare : (cycle : ℕ) → is_spare (cycle + 1) (Spare (cycle + 1)) ≡ true
next_spare cycle = grind (arith, nat_tests)

same_since : (role : Role) (since next : ℕ) → role ≡ Spare next → role ≡ Spare since → since ≡ next
same_since role since next a b = cc

module _ (roles : List Role) (cycle region former : ℕ) (given : ℕ → ℕ) (low : region < length roles)
    (inside : former < length roles)
    (before : (r : ℕ) → r < length roles
    → counted (is_spare (cycle + 1) (get_or roles r Home)) 1 + counted (former == r) 1
    ≡ counted (is_spare cycle (get_or roles r Home)) 1 + given r)
    (spare : 1 ≤ counted (is_spare cycle (get_or roles region Home)) 1) (once : given former ≤ 1) where
  abbrev roles_next : List Role
  roles_next = set (set roles region Home) former (Spare (cycle + 1))

  former_role : get_or roles_next former Home ≡ Spare (cycle + 1)
  former_role =
      let size = length-set roles region Home in
      get_or-set_at (set roles region Home) former former (Spare (cycle + 1)) Home refl (omega (arith, size, inside))

  region_role : region ≢ former → get_or roles_next region Home ≡ Home
  region_role d =
      get_or-set_other (set roles region Home) former region (Spare (cycle + 1)) Home d
      ∙ get_or-set_at roles region region Home Home refl low

  other_role : (r : ℕ) → r ≢ former → r ≢ region → get_or roles_next r Home ≡ get_or roles r Home
  other_role r d apart =
      get_or-set_other (set roles region Home) former r (Spare (cycle + 1)) Home d
      ∙ get_or-set_other roles region r Home Home apart

  abbrev Told : ℕ → Type 0
  Told r = counted (is_spare (cycle + 1) (get_or roles_next r Home)) 1 + 0
      ≡ counted (is_spare cycle (get_or roles_next r Home)) 1 + given r

  former_told : Told former
  former_told =
      let a = before former inside in
      let b = spare_stays (get_or roles former Home) cycle in
      let c = count_at former former 1 refl in
      let d : counted (is_spare (cycle + 1) (get_or roles_next former Home)) 1 ≡ 1 =
      ap (λ (x : Role). counted (is_spare (cycle + 1) x) 1) former_role
      ∙ ap (λ (x : Bool). counted x 1) (next_spare cycle) in
      let e : counted (is_spare cycle (get_or roles_next former Home)) 1 ≡ 0 =
      ap (λ (x : Role). counted (is_spare cycle x) 1) former_role
      ∙ ap (λ (x : Bool). counted x 1) (next_not_spare cycle) in
      let f = once in omega arith

  region_told : region ≢ former → Told region
  region_told apart =
      let a = before region low in
      let b = at_most_one (is_spare (cycle + 1) (get_or roles region Home)) in
      let d : counted (is_spare (cycle + 1) (get_or roles_next region Home)) 1 ≡ 0 =
      ap (λ (x : Role). counted (is_spare (cycle + 1) x) 1) (region_role apart) in
      let e : counted (is_spare cycle (get_or roles_next region Home)) 1 ≡ 0 =
      ap (λ (x : Role). counted (is_spare cycle x) 1) (region_role apart) in
      let f = spare in let g = count_off former region 1 (λ z. apart (sym z)) in omega arith

  other_told : (r : ℕ) → r < length roles → r ≢ former → r ≢ region → Told r
  other_told r few d apart =
      let a = before r few in
      let b = count_off former r 1 (λ z. d (sym z)) in
      let e = ap (λ (x : Role). counted (is_spare (cycle + 1) x) 1) (other_role r d apart) in
      let f = ap (λ (x : Role). counted (is_spare cycle x) 1) (other_role r d apart) in omega arith

  pub told : (r : ℕ) → r < length roles → Told r
  told r few = elim (cases_eq r former) [
    | inl e ↦ subst Told (sym e) former_told
    | inr d ↦ elim (cases_eq r region) [
      | inl e ↦ subst Told (sym e) (region_told (λ z. d (e ∙ z)))
      | inr apart ↦ other_told r few d apart
    ]
  ]

  module _ (soon : (r since : ℕ) → r < length roles → get_or roles r Home ≡ Spare since → since ≤ cycle + 1) where
    pub soon_next : (r since : ℕ) → r < length roles → get_or roles_next r Home ≡ Spare since → since ≤ cycle + 1
    soon_next r since few is = elim (cases_eq r former) [
      | inl e ↦
          (let same = same_since (get_or roles_next former Home) since (cycle + 1) former_role
          (ap (λ (x : ℕ). get_or roles_next x Home) (sym e) ∙ is) in omega arith)
      | inr d ↦ elim (cases_eq r region) [
        | inl e ↦
            absurd (let home : Home ≡ Spare since =
            sym (region_role (λ z. d (e ∙ z))) ∙ ap (λ (x : ℕ). get_or roles_next x Home) (sym e) ∙ is in cc)
        | inr apart ↦ soon r since few (sym (other_role r d apart) ∙ is)
      ]
    ]
