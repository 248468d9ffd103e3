-- Roles and gifts past steps that leave both, and at the end of a cycle.
use Rattle.std.proofs.Common.{◌≡◌, ◌≢◌, ℕ, zero, suc, ◌+◌, ◌≤◌, ◌==◌, inl, inr, Bool, true, false, nat_le, List, []}
use Rattle.std.proofs.Common.{slice_get, slice_set, slice_index_or, Some, sym, ap, subst, refl, ◌∙◌, arith}
use Rattle.std.proofs.lemmas.Bool.Decides.{nat_tests}
use Rattle.mako_shape.specs.declared.numbers.Numbers.{Numbers}
use Rattle.mako_model.proofs.Lists.{get_set_cases}
use Rattle.mako_gate.specs.Changes.{tablets_of}
use Rattle.mako_gate.specs.Sums.{counted}
use Rattle.mako_gate.proofs.Numbers.{count_off}
use Rattle.mako_layout.specs.Facets.{Gift, Choice, given_of, gift_of}
use Rattle.mako_layout.specs.Sums.{sum_below}
use Rattle.mako_pause.specs.Collecting.{Collecting, running}
use Rattle.mako_pause.specs.Regions.{is_spare}
use Rattle.mako_pause.specs.declared.regions.Role.{Role}
use Rattle.mako_pause.specs.declared.regions.Role.TheVariants.{Home, Spare}
use Rattle.mako_seat.specs.declared.seat.Seat.{Seat}
use Rattle.mako_seat.specs.declared.seat.Seat.TheVariants.{Mutator, Server, Collector}
use Rattle.mako_whole.specs.AllGifts.{given_at, untold_in, RolesAreNext}

-- ---- gifts

pub same_given : (n : Numbers) (a b : Choice) (r : ℕ) → given_of a ≡ given_of b → given_at n a r ≡ given_at n b r
same_given n a b r e =
    ap (λ (g : List Gift). sum_below (tablets_of n) (λ t. counted (gift_of g t == r + 1) 1)) e

all_none : (m : ℕ) (f : ℕ → ℕ) → ((t : ℕ) → f t ≡ 0) → sum_below m f ≡ 0
all_none zero f none = refl
all_none (suc m) f none = let a = all_none m f none in let b = none m in omega arith

pub none_at : (n : Numbers) (choice : Choice) (r : ℕ) → given_of choice ≡ [] → given_at n choice r ≡ 0
none_at n choice r e =
    ap (λ (g : List Gift). sum_below (tablets_of n) (λ t. counted (gift_of g t == r + 1) 1)) e
    ∙ all_none (tablets_of n) (λ t. counted (gift_of [] t == r + 1) 1)
    (λ t. count_off (gift_of [] t) (r + 1) 1 (λ z. let same : 0 ≡ r + 1 = z in absurd (omega arith)))

-- ---- roles

is_at_most : (a b : ℕ) → a ≤ b → nat_le a b ≡ true
is_at_most a b l = grind (arith, nat_tests)

at_most_is : (a b : ℕ) → nat_le a b ≡ true → a ≤ b
at_most_is a b e = grind (arith, nat_tests)

-- what is spare in a cycle is so in the next
pub spare_stays : (role : Role) (m : ℕ) → counted (is_spare m role) 1 ≤ counted (is_spare (m + 1) role) 1
spare_stays Home m = omega arith
spare_stays (Spare since) m = on (nat_le since m) refl
  where
    on : (b : Bool) → nat_le since m ≡ b → counted b 1 ≤ counted (nat_le since (m + 1)) 1
    on true e =
        let l = at_most_is since m e in
        let one : counted (nat_le since (m + 1)) 1 ≡ 1 =
        ap (λ (b : Bool). counted b 1) (is_at_most since (m + 1) (omega arith)) in omega arith
    on false e = omega arith

-- nothing gets spare where it is so already
pub spare_soon : (role : Role) (m : ℕ) → ((since : ℕ) → role ≡ Spare since → since ≤ m)
    → is_spare (m + 1) role ≡ is_spare m role
spare_soon Home m low = refl
spare_soon (Spare since) m low =
    let l = low since refl in is_at_most since (m + 1) (omega arith) ∙ sym (is_at_most since m l)

-- ---- the relation

-- roles, cycle and gifts are the same
pub same_roles : (n : Numbers) (choice later : Choice) (c d : Collecting) → RolesAreNext n choice c
    → d.kept.roles ≡ c.kept.roles → d.kept.cycle ≡ c.kept.cycle
    → ((r : ℕ) → untold_in d.stage r ≡ untold_in c.stage r) → given_of later ≡ given_of choice
    → RolesAreNext n later d
same_roles n choice later c d x roles cycle untold given = record {
  soon = λ r since low is.
      let a = x.soon r since low (ap (λ (rs : List Role). slice_index_or rs r Home) (sym roles) ∙ is) in
      let b = cycle in omega arith;
  next = λ r low.
      let a = x.next r low in
      let one : counted (is_spare (running d.kept + 1) (slice_index_or d.kept.roles r Home)) 1
      ≡ counted (is_spare (running c.kept + 1) (slice_index_or c.kept.roles r Home)) 1 =
      (λ i. counted (is_spare (cycle i + 1 + 1) (slice_index_or (roles i) r Home)) 1) in
      let two : counted (is_spare (running d.kept) (slice_index_or d.kept.roles r Home)) 1
      ≡ counted (is_spare (running c.kept) (slice_index_or c.kept.roles r Home)) 1 =
      (λ i. counted (is_spare (cycle i + 1) (slice_index_or (roles i) r Home)) 1) in
      let three = untold r in let four = same_given n later choice r given in omega arith;
}

-- ---- seats

abbrev collector_in : Collecting → Seat → Collecting
collector_in c (Mutator d) = c
collector_in c (Server v) = c
collector_in c (Collector d) = d

abbrev IsOther : Seat → Type 0
IsOther (Mutator d) = Unit {0}
IsOther (Server v) = Unit {0}
IsOther (Collector c) = ⊥

-- with another step of a seat that is not the collector
pub others_keep : (n : Numbers) (choice : Choice) (seats : List Seat) (i : ℕ) (v : Seat) → IsOther v
    → ((j : ℕ) (c : Collecting) → slice_get seats j ≡ Some (Collector c) → RolesAreNext n choice c)
    → (j : ℕ) (c : Collecting) → slice_get (slice_set seats i v) j ≡ Some (Collector c) → RolesAreNext n choice c
others_keep n choice seats i v other were j c there = elim (get_set_cases seats i j v (Collector c) there) [
  | inl e ↦ absurd (subst IsOther e.1 other)
  | inr d ↦ were j c d.1
]

-- and with a step of the collector
pub collector_keeps : (n : Numbers) (choice : Choice) (seats : List Seat) (i : ℕ) (next : Collecting)
    → RolesAreNext n choice next
    → ((j : ℕ) (c : Collecting) → j ≢ i → slice_get seats j ≡ Some (Collector c) → RolesAreNext n choice c)
    → (j : ℕ) (c : Collecting) → slice_get (slice_set seats i (Collector next)) j ≡ Some (Collector c)
    → RolesAreNext n choice c
collector_keeps n choice seats i next own rest j c there =
    elim (get_set_cases seats i j (Collector next) (Collector c) there) [
      | inl e ↦ subst (RolesAreNext n choice) (ap (collector_in next) e.1) own
      | inr d ↦ rest j c d.0 d.1
    ]
