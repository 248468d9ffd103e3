-- How many regions of each server are spare.
use Rattle.std.proofs.Common.{◌≡◌, ◌≢◌, ℕ, zero, suc, ◌+◌, ◌-◌, ◌*◌, ◌/◌, ◌%◌, ◌<◌, ◌≤◌, ◌==◌, Bool, true, false, cond}
use Rattle.std.proofs.Common.{nat_lt, nat_le, Some, None, List, [], ◌∷◌, ◌++◌, length, get_or, set, take, drop}
use Rattle.std.proofs.Common.{slice_range, sum_by, ⊎_elim, refl, sym, ap, subst, ◌∙◌, arith}
use Rattle.std.specs.List.{position_or_len}
use Rattle.std.proofs.Math.Nat.{mod-lt}
use Rattle.std.proofs.lemmas.Bool.{cases_lt, cases_eq, lt-ltb, le-ltb, eq-eqb, ne_eqb}
use Rattle.std.proofs.lemmas.Bool.Decides.{nat_tests}
use Rattle.std.proofs.lemmas.Nat.{div-add-mod', div-mul-add, mod-mul-add}
use Rattle.std.proofs.lemmas.List.{get_or-set_same, get_or-set_other, length-set, get_or-take, get_or-drop, length-take}
use Rattle.std.proofs.lemmas.List.{length-drop, get_or_push, get_or_append_left, get_or_past}
use Rattle.std.proofs.lemmas.List.Sums.{sum_by_push, fails_before_first, passes_at_first}
use Rattle.mako_shape.specs.Belongings.{server_of_tablet, server_of_region, opening_home}
use Rattle.mako_shape.specs.Limits.{IsShape}
use Rattle.mako_shape.specs.declared.numbers.Numbers.{Numbers}
use Rattle.mako_shape.proofs.BelongingLaws.{home_in_range, home_server, one_home}
use Rattle.mako_cycles.specs.Housing.{AreHomes, IsFreeFor, moved}
use Rattle.mako_pause.specs.Opening.{opening_role, opening_roles}
use Rattle.mako_pause.specs.Regions.{is_spare, behind, spare_between}
use Rattle.mako_pause.specs.declared.regions.Role.{Role}
use Rattle.mako_pause.specs.declared.regions.Role.TheVariants.{Home, Spare}
use Rattle.mako_pause.proofs.Openings.{roles_count}
use Rattle.mako_pause.proofs.Places.{row_within}

-- ---- how many numbers of a stretch pass a test
abbrev pub one : Bool → ℕ
one b = cond b 1 0

pub among : (ℕ → Bool) → ℕ → ℕ → ℕ
among p first zero = 0
among p first (suc count) = one (p (first + count)) + among p first count

among_same : (p q : ℕ → Bool) (first count : ℕ) → ((r : ℕ) → first ≤ r → r < first + count → p r ≡ q r)
    → among p first count ≡ among q first count
unfolding among
among_same p q first zero same = refl
among_same p q first (suc count) same =
    let rest = among_same p q first count (λ r low high. same r low (omega (arith, high))) in
    let here : one (p (first + count)) ≡ one (q (first + count)) =
    ap one (same (first + count) (omega arith) (omega arith)) in
    omega (arith, rest, here)

among_change : (p q : ℕ → Bool) (r first count : ℕ) → first ≤ r → r < first + count → ((x : ℕ) → x ≢ r → p x ≡ q x)
    → among p first count + one (q r) ≡ among q first count + one (p r)
unfolding among
among_change p q r first zero low high same = absurd (omega (arith, low, high))
among_change p q r first (suc count) low high same =
    ⊎_elim
    (λ (e : r ≡ first + count). let rest =
    among_same p q first count (λ x from below. same x (λ f. omega (arith, e, f, below))) in
    let here : one (p r) ≡ one (p (first + count)) = ap (λ (x : ℕ). one (p x)) e in
    let there : one (q r) ≡ one (q (first + count)) = ap (λ (x : ℕ). one (q x)) e in
    omega (arith, rest, here, there))
    (λ other. let rest = among_change p q r first count low (omega (arith, high, other)) same in
    let here : one (p (first + count)) ≡ one (q (first + count)) = ap one (same (first + count) (λ f. other (sym f))) in
    omega (arith, rest, here))
    (cases_eq r (first + count))

among_some : (p : ℕ → Bool) (first count : ℕ) → 0 < among p first count → (r : ℕ)
    × ((first ≤ r) × (r < first + count) × (p r ≡ true))
unfolding among
among_some p first zero some = absurd (omega (arith, some))
among_some p first (suc count) some = go (among_some p first count) (p (first + count)) refl
  where
    go : (0 < among p first count → (r : ℕ) × ((first ≤ r) × (r < first + count) × (p r ≡ true))) → (b : Bool)
        → p (first + count) ≡ b → (r : ℕ) × ((first ≤ r) × (r < first + suc count) × (p r ≡ true))
    go below true e = (first + count, (omega arith, omega arith, e))
    go below false e =
        let none : one (p (first + count)) ≡ 0 = ap one e in
        let rest = below (omega (arith, some, none)) in
        (rest.0, (rest.1.0, (let high = rest.1.1 in omega (arith, high)), rest.1.2))

-- ---- roles
abbrev pub role_at : List Role → ℕ → Role
role_at roles r = get_or roles r Home

abbrev pub is_no_home : Role → Bool
is_no_home Home = false
is_no_home (Spare since) = true

-- from the next cycle on it may be given out, if it is no home
abbrev pub IsSoon : ℕ → Role → Type 0
IsSoon cycle Home = Unit {0}
IsSoon cycle (Spare since) = since ≤ cycle + 1

abbrev pub regions_of : Numbers → ℕ
regions_of n = n.tablets + n.spare

-- how many regions of a server pass a test
abbrev pub count_of : Numbers → (Role → Bool) → List Role → ℕ → ℕ
count_of n p roles s = among (λ r. p (role_at roles r)) (s * regions_of n) (regions_of n)

abbrev pub of_server : Numbers → ℕ → ℕ → ℕ
of_server n s t = one (t / n.tablets == s)

-- of each server as many regions are no homes as it had spare ones at the start; those that were not given out in this
-- cycle are spare now
pub record RolesStand (n : Numbers) (cycle : ℕ) (roles : List Role) (given : List ℕ) : Type 0 where
  pub size : length roles ≡ n.servers * regions_of n
  pub kept : (s : ℕ) → s < n.servers → count_of n is_no_home roles s ≡ n.spare
  pub free : (s : ℕ) → s < n.servers → count_of n (is_spare cycle) roles s + sum_by (of_server n s) given ≡ n.spare
  pub soon : (r : ℕ) → IsSoon cycle (role_at roles r)

-- the homes are those of the roles
pub record HomesStand (n : Numbers) (roles : List Role) (homes : ℕ → ℕ) : Type 0 where
  pub are : AreHomes n homes
  pub role : (t : ℕ) → t < n.servers * n.tablets → role_at roles (homes t) ≡ Home

-- ---- rows
some_regions : (n : Numbers) → IsShape n → 0 < regions_of n
some_regions n shape = let each = shape.in_range.each in omega (arith, each)

in_row : (n : Numbers) (r s : ℕ) → IsShape n → server_of_region n r ≡ s → (s * regions_of n ≤ r)
    × (r < s * regions_of n + regions_of n)
in_row n r s shape e =
    let split : r / regions_of n * regions_of n + r % regions_of n ≡ r = div-add-mod' r (regions_of n) in
    let rest : r % regions_of n < regions_of n = mod-lt r (some_regions n shape) in
    let row : r / regions_of n * regions_of n ≡ s * regions_of n = ap (λ (x : ℕ). x * regions_of n) e in
    (omega (arith, split, row), omega (arith, split, rest, row))

row_of : (n : Numbers) (r s : ℕ) → s * regions_of n ≤ r → r < s * regions_of n + regions_of n → server_of_region n r ≡ s
row_of n r s low high =
    let e : s * regions_of n + (r - s * regions_of n) ≡ r = omega (arith, low) in
    subst (λ (x : ℕ). x / regions_of n ≡ s) e
    (div-mul-add s (regions_of n) (r - s * regions_of n) (omega (arith, low, high)))

-- a region of a server that there is has a role
region_within : (n : Numbers) (r s : ℕ) → IsShape n → server_of_region n r ≡ s → s < n.servers
    → r < n.servers * regions_of n
region_within n r s shape e below = let row = in_row n r s shape e in
    let all = row_within s n.servers (regions_of n) below in let high = row.1 in omega (arith, high, all)

-- ---- one role changes
set_here : (n : Numbers) (p : Role → Bool) (roles : List Role) (r s : ℕ) (role : Role) → IsShape n
    → server_of_region n r ≡ s → r < length roles →
    count_of n p (set roles r role) s + one (p (role_at roles r)) ≡ count_of n p roles s + one (p role)
set_here n p roles r s role shape e within =
    let row = in_row n r s shape e in
    let here : one (p (role_at (set roles r role) r)) ≡ one (p role) =
    ap (λ (x : Role). one (p x)) (get_or-set_same roles r role Home within) in
    let all = among_change (λ x. p (role_at (set roles r role) x)) (λ x. p (role_at roles x)) r (s * regions_of n)
    (regions_of n) row.0 row.1
    (λ x other. ap p (get_or-set_other roles r x role Home other)) in
    omega (arith, all, here)

set_elsewhere : (n : Numbers) (p : Role → Bool) (roles : List Role) (r s : ℕ) (role : Role) → server_of_region n r ≢ s
    → count_of n p (set roles r role) s ≡ count_of n p roles s
set_elsewhere n p roles r s role other =
    among_same (λ x. p (role_at (set roles r role) x)) (λ x. p (role_at roles x)) (s * regions_of n) (regions_of n)
    (λ x low high. ap p (get_or-set_other roles r x role Home
    (λ e. other (subst (λ (y : ℕ). server_of_region n y ≡ s) e (row_of n x s low high)))))

no_home_spare : (cycle : ℕ) (role : Role) → is_spare cycle role ≡ true → is_no_home role ≡ true
no_home_spare cycle Home e = e
no_home_spare cycle (Spare since) e = refl

pub spare_is_no_home : (cycle : ℕ) (role : Role) → is_spare cycle role ≡ true → role ≡ Home → ⊥
spare_is_no_home cycle role e same = let f : is_spare cycle Home ≡ true =
    subst (λ (x : Role). is_spare cycle x ≡ true) same e in cc

later_is_false : (cycle : ℕ) → nat_le (cycle + 1) cycle ≡ false
later_is_false cycle = grind (arith, nat_tests)

soon_is_true : (since cycle : ℕ) → since ≤ cycle → nat_le since cycle ≡ true
soon_is_true since cycle h = grind (arith, nat_tests)

-- ---- a tablet gets a region, and leaves its former one for the next cycle
module _ (n : Numbers) (cycle : ℕ) (roles : List Role) (region former t s : ℕ) (shape : IsShape n)
    (below : s < n.servers) (region_is : server_of_region n region ≡ s)
    (former_is : server_of_region n former ≡ s) (tablet_is : server_of_tablet n t ≡ s)
    (spare : is_spare cycle (role_at roles region) ≡ true) (home : role_at roles former ≡ Home)
    (size : length roles ≡ n.servers * (n.tablets + n.spare)) where
  differ : former ≢ region
  differ e = spare_is_no_home cycle (role_at roles region) spare (subst (λ (x : ℕ). role_at roles x ≡ Home) e home)

  region_below : region < length roles
  region_below = let h = region_within n region s shape region_is below in omega (arith, h, size)

  former_below : former < length (set roles region Home)
  former_below = let h = region_within n former s shape former_is below in let e = length-set roles region Home in
      omega (arith, h, size, e)

  former_was : role_at (set roles region Home) former ≡ Home
  former_was = get_or-set_other roles region former Home Home differ ∙ home

  kept_here : count_of n is_no_home
      (set (set roles region Home) former (Spare (cycle + 1))) s ≡ count_of n is_no_home roles s
  kept_here =
      let first = set_here n is_no_home roles region s Home shape region_is region_below in
      let second = set_here n is_no_home (set roles region Home) former s
      (Spare (cycle + 1)) shape former_is former_below in
      let was : one (is_no_home (role_at roles region)) ≡ 1 =
      ap one (no_home_spare cycle (role_at roles region) spare) in
      let were : one (is_no_home (role_at (set roles region Home) former)) ≡ 0 =
      ap (λ (x : Role). one (is_no_home x)) former_was in
      omega (arith, first, second, was, were)

  free_here : count_of n (is_spare cycle) (set (set roles region Home) former (Spare (cycle + 1))) s + 1 ≡ count_of n
      (is_spare cycle) roles s
  free_here =
      let first = set_here n (is_spare cycle) roles region s Home shape region_is region_below in
      let second = set_here n (is_spare cycle) (set roles region Home) former s
      (Spare (cycle + 1)) shape former_is former_below in
      let was : one (is_spare cycle (role_at roles region)) ≡ 1 = ap one spare in
      let were : one (is_spare cycle (role_at (set roles region Home) former)) ≡ 0 =
      ap (λ (x : Role). one (is_spare cycle x)) former_was in
      let later : one (nat_le (cycle + 1) cycle) ≡ 0 = ap one (later_is_false cycle) in
      omega (arith, first, second, was, were, later)

  same_elsewhere : (p : Role → Bool) (other : ℕ) → s ≢ other
      → count_of n p (set (set roles region Home) former (Spare (cycle + 1))) other ≡ count_of n p roles other
  same_elsewhere p other ne =
      set_elsewhere n p (set roles region Home) former other (Spare (cycle + 1)) (λ e. ne (sym former_is ∙ e))
      ∙ set_elsewhere n p roles region other Home (λ e. ne (sym region_is ∙ e))

  role_after : (r : ℕ) → IsSoon cycle (role_at roles r)
      → IsSoon cycle (role_at (set (set roles region Home) former (Spare (cycle + 1))) r)
  role_after r soon =
      ⊎_elim
      (λ (e : r ≡ former). subst (IsSoon cycle)
      (sym (ap (λ (x : ℕ). role_at (set (set roles region Home) former (Spare (cycle + 1))) x) e
      ∙ get_or-set_same (set roles region Home) former (Spare (cycle + 1)) Home former_below)) (omega arith))
      (λ other. subst (IsSoon cycle)
      (sym (get_or-set_other (set roles region Home) former r (Spare (cycle + 1)) Home other))
      (⊎_elim
      (λ (e : r ≡ region). subst (IsSoon cycle) (sym (ap (λ (x : ℕ). role_at (set roles region Home) x) e
      ∙ get_or-set_same roles region Home Home region_below)) tt)
      (λ ne. subst (IsSoon cycle) (sym (get_or-set_other roles region r Home Home ne)) soon)
      (cases_eq r region)))
      (cases_eq r former)

  pub roles_given : (given : List ℕ) → RolesStand n cycle roles given
      → RolesStand n cycle (set (set roles region Home) former (Spare (cycle + 1))) (given ++ t ∷ [])
  roles_given given h = record {
    size = length-set (set roles region Home) former (Spare (cycle + 1)) ∙ (length-set roles region Home ∙ h.size);
    kept = λ other l. ⊎_elim
        (λ (e : s ≡ other). subst
        (λ (x : ℕ). count_of n is_no_home (set (set roles region Home) former (Spare (cycle + 1))) x ≡ n.spare) e
        (kept_here ∙ h.kept s below))
        (λ ne. same_elsewhere is_no_home other ne ∙ h.kept other l)
        (cases_eq s other);
    free = λ other l. ⊎_elim
        (λ (e : s ≡ other). subst
        (λ (x : ℕ). count_of n (is_spare cycle) (set (set roles region Home) former (Spare (cycle + 1))) x + sum_by
        (of_server n x) (given ++ t ∷ []) ≡ n.spare) e
        (let more = sum_by_push (of_server n s) given t in
        let mine : of_server n s t ≡ 1 = ap one (eq-eqb (server_of_tablet n t) s tablet_is) in
        let was = h.free s below in
        let less = free_here in
        omega (arith, more, mine, was, less)))
        (λ ne. let more = sum_by_push (of_server n other) given t in
        let none : of_server n other t ≡ 0 =
        ap one (ne_eqb (server_of_tablet n t) other (λ f. ne (sym tablet_is ∙ f))) in
        let was = h.free other l in
        let same = same_elsewhere (is_spare cycle) other ne in
        omega (arith, more, none, was, same))
        (cases_eq s other);
    soon = λ r. role_after r (h.soon r);
  }

  -- the tablet's home is that region
  home_after : (r : ℕ) → r ≢ former → role_at roles r ≡ Home
      → role_at (set (set roles region Home) former (Spare (cycle + 1))) r ≡ Home
  home_after r other is =
      get_or-set_other (set roles region Home) former r (Spare (cycle + 1)) Home other
      ∙ ⊎_elim (λ (e : r ≡ region). ap (λ (x : ℕ). role_at (set roles region Home) x) e
      ∙ get_or-set_same roles region Home Home region_below)
      (λ ne. get_or-set_other roles region r Home Home ne ∙ is) (cases_eq r region)

  pub homes_given : (homes : ℕ → ℕ) → former ≡ homes t → t < n.servers * n.tablets → HomesStand n roles homes →
      HomesStand n (set (set roles region Home) former (Spare (cycle + 1))) (moved homes t region)
  homes_given homes was within h = record {
    are = record {
      server = λ u l. ⊎_elim
          (λ (e : u ≡ t). ap (server_of_region n) (moved_here u e)
          ∙ (region_is ∙ (sym tablet_is ∙ ap (server_of_tablet n) (sym e))))
          (λ ne. ap (server_of_region n) (moved_other u ne) ∙ h.are.server u l)
          (cases_eq u t);
      apart = λ u v l m same. ⊎_elim
          (λ (e : u ≡ t). ⊎_elim (λ (f : v ≡ t). e ∙ sym f)
          (λ ne. absurd (free v m (sym (moved_other v ne) ∙ (sym same ∙ moved_here u e)))) (cases_eq v t))
          (λ ne. ⊎_elim (λ (f : v ≡ t). absurd (free u l (sym (moved_other u ne) ∙ (same ∙ moved_here v f))))
          (λ me. h.are.apart u v l m (sym (moved_other u ne) ∙ (same ∙ moved_other v me))) (cases_eq v t))
          (cases_eq u t);
    };
    role = λ u l. ⊎_elim
        (λ (e : u ≡ t). subst (λ (x : ℕ). role_at (set (set roles region Home) former (Spare (cycle + 1))) x ≡ Home)
        (sym (moved_here u e))
        (get_or-set_other (set roles region Home) former region (Spare (cycle + 1)) Home (λ f. differ (sym f))
        ∙ get_or-set_same roles region Home Home region_below))
        (λ ne. subst (λ (x : ℕ). role_at (set (set roles region Home) former (Spare (cycle + 1))) x ≡ Home)
        (sym (moved_other u ne))
        (home_after (homes u) (λ f. ne (h.are.apart u t l within (f ∙ was))) (h.role u l)))
        (cases_eq u t);
  }
    where
      moved_here : (u : ℕ) → u ≡ t → moved homes t region u ≡ region
      moved_here u e = ap (λ (b : Bool). cond b region (homes u)) (eq-eqb u t e)

      moved_other : (u : ℕ) → u ≢ t → moved homes t region u ≡ homes u
      moved_other u ne = ap (λ (b : Bool). cond b region (homes u)) (ne_eqb u t ne)

      free : (u : ℕ) → u < n.servers * n.tablets → homes u ≡ region → ⊥
      free u l e = spare_is_no_home cycle (role_at roles region) spare
          (subst (λ (x : ℕ). role_at roles x ≡ Home) e (h.role u l))

-- ---- the next cycle, and the first
spare_next : (cycle : ℕ) (role : Role) → IsSoon cycle role → is_spare (cycle + 1) role ≡ is_no_home role
spare_next cycle Home soon = refl
spare_next cycle (Spare since) soon = soon_is_true since (cycle + 1) soon

soon_next : (cycle : ℕ) (role : Role) → IsSoon cycle role → IsSoon (cycle + 1) role
soon_next cycle Home soon = tt
soon_next cycle (Spare since) soon = omega (arith, soon)

pub roles_next : (n : Numbers) (cycle : ℕ) (roles : List Role) (given : List ℕ) → RolesStand n cycle roles given
    → RolesStand n (cycle + 1) roles []
roles_next n cycle roles given h = record {
  size = h.size;
  kept = h.kept;
  free = λ s l. (let same =
      among_same (λ r. is_spare (cycle + 1) (role_at roles r)) (λ r. is_no_home (role_at roles r)) (s * regions_of n)
      (regions_of n) (λ r low high. spare_next cycle (role_at roles r) (h.soon r)) in
      let was = h.kept s l in
      omega (arith, same, was));
  soon = λ r. soon_next cycle (role_at roles r) (h.soon r);
}

pub opening_at : (n : Numbers) (count r : ℕ) → r < count → role_at (opening_roles n count) r ≡ opening_role n r
unfolding opening_roles
opening_at n zero r l = absurd (omega (arith, l))
opening_at n (suc count) r l =
    let long = roles_count n count in
    ⊎_elim
    (λ (e : r ≡ count). ap (λ (x : ℕ). get_or (opening_roles n count ++ opening_role n count ∷ []) x Home) (e
    ∙ sym long) ∙ (get_or_push (opening_roles n count) (opening_role n count) Home
    (length (opening_roles n count)) refl ∙ ap (opening_role n) (sym e)))
    (λ ne. get_or_append_left (opening_roles n count) (opening_role n count ∷ []) Home r (omega (arith, l, ne, long))
    ∙ opening_at n count r (omega (arith, l, ne)))
    (cases_eq r count)

-- past the homes of a row all are spare
opening_row : (n : Numbers) (p : Role → Bool) (s count : ℕ) → p Home ≡ false → p (Spare 0) ≡ true → count ≤ regions_of n
    → among (λ r. p (opening_role n r)) (s * regions_of n) count ≡ count - n.tablets
unfolding among
opening_row n p s zero home spare few = omega arith
opening_row n p s (suc count) home spare few =
    let rest = opening_row n p s count home spare (omega (arith, few)) in
    let place : (s * regions_of n + count) % regions_of n ≡ count =
    mod-mul-add s (regions_of n) count (omega (arith, few)) in
    ⊎_elim
    (λ (l : count < n.tablets). let here : one (p (opening_role n (s * regions_of n + count))) ≡ 0 =
    ap (λ (x : ℕ). one (p (cond (nat_lt x n.tablets) Home (Spare 0)))) place
    ∙ (ap (λ (b : Bool). one (p (cond b Home (Spare 0)))) (lt-ltb count n.tablets l) ∙ ap one home) in
    omega (arith, rest, here, l))
    (λ (l : n.tablets ≤ count). let here : one (p (opening_role n (s * regions_of n + count))) ≡ 1 =
    ap (λ (x : ℕ). one (p (cond (nat_lt x n.tablets) Home (Spare 0)))) place
    ∙ (ap (λ (b : Bool). one (p (cond b Home (Spare 0)))) (le-ltb count n.tablets l) ∙ ap one spare) in
    omega (arith, rest, here, l))
    (cases_lt count n.tablets)

opening_soon : (n : Numbers) (r : ℕ) → IsSoon 1 (opening_role n r)
opening_soon n r = elim (nat_lt (r % regions_of n) n.tablets) as
    (λ b. IsSoon 1 (cond b Home (Spare 0))) [ true ↦ tt | false ↦ omega arith ]

opening_count : (n : Numbers) (p : Role → Bool) (s : ℕ) → p Home ≡ false → p (Spare 0) ≡ true → s < n.servers
    → count_of n p (opening_roles n (n.servers * regions_of n)) s ≡ n.spare
opening_count n p s home spare l =
    let row = row_within s n.servers (regions_of n) l in
    let same = among_same (λ r. p (role_at (opening_roles n (n.servers * regions_of n)) r)) (λ r. p (opening_role n r))
    (s * regions_of n) (regions_of n)
    (λ r low high. ap p (opening_at n (n.servers * regions_of n) r (omega (arith, high, row)))) in
    let all = opening_row n p s (regions_of n) home spare (omega arith) in
    omega (arith, same, all)

pub roles_open : (n : Numbers) → RolesStand n 1 (opening_roles n (n.servers * (n.tablets + n.spare))) []
roles_open n = record {
  size = roles_count n (n.servers * regions_of n);
  kept = λ s l. opening_count n is_no_home s refl refl l;
  free = λ s l. (let all = opening_count n (is_spare 1) s refl refl l in omega (arith, all));
  soon = λ r. ⊎_elim (λ (l : r < n.servers * regions_of n). subst (IsSoon 1)
      (sym (opening_at n (n.servers * regions_of n) r l)) (opening_soon n r))
      (λ (l : n.servers * regions_of n ≤ r). subst (IsSoon 1)
      (sym (get_or_past (opening_roles n (n.servers * regions_of n)) r Home (let long =
      roles_count n (n.servers * regions_of n) in omega (arith, l, long)))) tt)
      (cases_lt r (n.servers * regions_of n));
}

pub homes_open : (n : Numbers) → IsShape n
    → HomesStand n (opening_roles n (n.servers * (n.tablets + n.spare))) (opening_home n)
homes_open n shape = record {
  are = record { server = home_server n; apart = one_home n };
  role = λ t l. opening_at n (n.servers * regions_of n) (opening_home n t) (home_in_range n t l) ∙ home_role t;
}
  where
    home_role : (t : ℕ) → opening_role n (opening_home n t) ≡ Home
    home_role t =
        let each = shape.in_range.each in
        let rest : t % n.tablets < n.tablets = mod-lt t (omega (arith, each)) in
        let place : opening_home n t % regions_of n ≡ t % n.tablets =
        mod-mul-add (t / n.tablets) (regions_of n) (t % n.tablets) (omega (arith, rest)) in
        ap (λ (x : ℕ). cond (nat_lt x n.tablets) Home (Spare 0)) place
        ∙ ap (λ (b : Bool). cond b Home (Spare 0)) (lt-ltb (t % n.tablets) n.tablets rest)

-- ---- where a server has a spare region, its lowest is found
pub record SpareFound (roles : List Role) (cycle first count : ℕ) : Type 0 where
  pub region : ℕ
  pub is : spare_between roles cycle first count ≡ Some region
  pub from : first ≤ region
  pub below : region < first + count
  pub spare : is_spare cycle (role_at roles region) ≡ true

spare_found : (roles : List Role) (cycle first count r : ℕ) → first ≤ r → r < first + count
    → first + count ≤ length roles → is_spare cycle (role_at roles r) ≡ true → SpareFound roles cycle first count
spare_found roles cycle first count r low high within spare =
    let xs = slice_range roles first (first + count) in
    let p = is_spare cycle in
    let long : length xs ≡ count =
    omega (arith, length-take (first + count - first) (drop first roles), length-drop first roles, within) in
    let there : (j : ℕ) → j < count → get_or xs j Home ≡ role_at roles (first + j) =
    λ j l. get_or-take (first + count - first) (drop first roles) j Home (omega (arith, l))
    ∙ get_or-drop first roles j Home in
    let place : first + (r - first) ≡ r = omega (arith, low) in
    let passes : p (get_or xs (r - first) Home) ≡ true = ap p (there (r - first) (omega (arith, low, high))
    ∙ ap (role_at roles) place) ∙ spare in
    let early : position_or_len p xs ≤ r - first =
    ⊎_elim (λ (l : r - first < position_or_len p xs). absurd (let fails = fails_before_first p xs (r - first) Home l in
    let clash : true ≡ false = sym passes ∙ fails in cc)) (λ (l : position_or_len p xs ≤ r - first). l)
    (cases_lt (r - first) (position_or_len p xs)) in
    let inside : position_or_len p xs < length xs = omega (arith, early, long, low, high) in
    record {
      region = first + position_or_len p xs;
      is = ap (λ (b : Bool). behind first (cond b (Some (position_or_len p xs)) None))
          (lt-ltb (position_or_len p xs) (length xs) inside);
      from = omega arith;
      below = omega (arith, inside, long);
      spare = ap p (sym (there (position_or_len p xs) (omega (arith, inside, long))))
          ∙ passes_at_first p xs Home inside;
    }

-- as long as fewer regions of a server were given out than it had spare, it has one to give
pub spare_left : (n : Numbers) (cycle : ℕ) (roles : List Role) (given : List ℕ) (s : ℕ) → s < n.servers
    → RolesStand n cycle roles given → sum_by (of_server n s) given < n.spare →
    SpareFound roles cycle (s * (n.tablets + n.spare)) (n.tablets + n.spare)
spare_left n cycle roles given s l h few =
    let was = h.free s l in
    let size = h.size in
    let row = row_within s n.servers (regions_of n) l in
    let some = among_some (λ r. is_spare cycle (role_at roles r)) (s * regions_of n) (regions_of n)
    (omega (arith, was, few)) in
    spare_found roles cycle (s * regions_of n) (regions_of n) some.0 some.1.0 some.1.1
    (omega (arith, row, size)) some.1.2

-- such a region is of the server, and nobody's home
pub found_free : (n : Numbers) (cycle : ℕ) (roles : List Role) (homes : ℕ
    → ℕ) (t s : ℕ) (found : SpareFound roles cycle (s * (n.tablets + n.spare)) (n.tablets + n.spare))
    → server_of_tablet n t ≡ s →
    HomesStand n roles homes → IsFreeFor n homes t found.region
found_free n cycle roles homes t s found tablet_is h = record {
  server = row_of n found.region s found.from found.below ∙ sym tablet_is;
  free = λ u l e. spare_is_no_home cycle (role_at roles found.region) found.spare
      (subst (λ (x : ℕ). role_at roles x ≡ Home) e (h.role u l));
}
