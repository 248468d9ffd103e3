-- The collector's machine before its first step.
use Rattle.std.proofs.Common.{◌≡◌, ℕ, zero, suc, ◌+◌, ◌*◌, ◌%◌, ◌<◌, ◌≤◌, ◌==◌, eq-eqb, inl, inr, Bool, true, false}
use Rattle.std.proofs.Common.{cond, nat_lt, List, [], ◌∷◌, ◌++◌, All, length, replicate, get_or, slice_index, sym, ap}
use Rattle.std.proofs.Common.{subst, refl, ◌∙◌, arith}
use Rattle.std.proofs.lemmas.Bool.{cases_eq, ne_eqb}
use Rattle.std.proofs.lemmas.Grind.{common_steps}
use Rattle.std.proofs.lemmas.List.{length-replicate}
use Rattle.std.proofs.lemmas.List.Elements.{All-nil}
use Rattle.std.proofs.lemmas.List.Sums.{sum_by-cons}
use Rattle.mako_shape.specs.declared.numbers.Numbers.{Numbers}
use Rattle.mako_shape.specs.Places.{barrier, word_at}
use Rattle.mako_gate.specs.Sums.{counted}
use Rattle.mako_layout.specs.Facets.{times_in}
use Rattle.mako_layout.specs.Layouts.{regions_of}
use Rattle.mako_layout.specs.Openings.{spares_below}
use Rattle.mako_ring.specs.Tracing.{no_window}
use Rattle.mako_ring.specs.Windows.{IsWindow}
use Rattle.mako_ring.proofs.Contents.{Holds, holds_content, holds_others}
use Rattle.mako_ring.proofs.Turns.{place_below}
use Rattle.mako_pause.specs.Keeping.{IsKeptName}
use Rattle.mako_pause.specs.Opening.{opening_role, opening_roles}
use Rattle.mako_pause.specs.Regions.{is_spare}
use Rattle.mako_pause.specs.declared.regions.Role.{Role}
use Rattle.mako_pause.specs.declared.regions.Role.TheVariants.{Home, Spare}
use Rattle.mako_pause.proofs.Openings.{roles_more, roles_count}
use Rattle.mako_collecting.specs.Keeping.{BarrierRing}
use Rattle.mako_collecting.specs.Opening.{MachinesOpen}

-- ---- lists of one thing

all_of : {A : Type 0} (P : A → Type 0) (count : ℕ) (x : A) → P x → All P (replicate count x)
all_of P zero x is i d low = absurd (omega arith)
all_of P (suc count) x is zero d low = is
all_of P (suc count) x is (suc i) d low = all_of P count x is i d (omega arith)

zero_at : (count m : ℕ) → slice_index (replicate count 0) m ≡ 0
zero_at zero m = refl
zero_at (suc count) zero = refl
zero_at (suc count) (suc m) = zero_at count m

-- ---- an empty ring

ring_opens : (n : Numbers) (words : List ℕ) (m : ℕ) → 0 < n.ring
    → ((slot : ℕ) → slot < n.ring → word_at n words (barrier m slot) ≡ 0) → BarrierRing n words m 0 0
ring_opens n words m some empty =
    let none : Holds n.ring (λ slot. word_at n words (barrier m slot)) 0 [] = record {
      few = omega arith;
      filled = λ j l. absurd (omega arith);
      empty = λ j l k. empty ((0 + j) % n.ring) (place_below n.ring (0 + j) some);
    } in
    record {
      others = holds_others n.ring (λ slot. word_at n words (barrier m slot)) 0 [] none;
      next = ap (λ (l : List ℕ). (0 + length l) % n.ring)
          (holds_content n.ring (λ slot. word_at n words (barrier m slot)) 0 [] none);
    }

-- ---- the spare regions

-- the regions from a number on are not among those below it
none_above : (n : Numbers) (c r : ℕ) → c ≤ r → times_in (spares_below n c) r ≡ 0
none_above n zero r low = refl
none_above n (suc c) r low = on (none_above n c r (omega arith)) (nat_lt (c % (n.tablets + n.spare)) n.tablets)
  where
    on : times_in (spares_below n c) r ≡ 0 → (b : Bool)
        → times_in (cond b (spares_below n c) (c ∷ spares_below n c)) r ≡ 0
    on rest true = rest
    on rest false =
        let other : counted (c == r) 1 ≡ 0 = ap (λ (x : Bool). counted x 1) (ne_eqb c r (λ e. omega arith)) in
        omega (arith, sum_by-cons (λ (x : ℕ). counted (x == r) 1) c (spares_below n c))

-- what a role says of being spare in the first cycle
spare_first : (n : Numbers) (c : ℕ) → counted (is_spare 1 (opening_role n c)) 1
    ≡ cond (nat_lt (c % (n.tablets + n.spare)) n.tablets) 0 1
spare_first n c = on (nat_lt (c % (n.tablets + n.spare)) n.tablets)
  where
    on : (b : Bool) → counted (is_spare 1 (cond b Home (Spare 0))) 1 ≡ cond b 0 1
    on true = refl
    on false = refl

last_times : (n : Numbers) (c : ℕ) → times_in (spares_below n (suc c)) c
    ≡ cond (nat_lt (c % (n.tablets + n.spare)) n.tablets) 0 1
last_times n c = on (nat_lt (c % (n.tablets + n.spare)) n.tablets)
  where
    on : (b : Bool) → times_in (cond b (spares_below n c) (c ∷ spares_below n c)) c ≡ cond b 0 1
    on true = none_above n c c (omega arith)
    on false =
        let one : counted (c == c) 1 ≡ 1 = ap (λ (x : Bool). counted x 1) (eq-eqb c c refl) in
        let rest = none_above n c c (omega arith) in
        omega (arith, sum_by-cons (λ (x : ℕ). counted (x == c) 1) c (spares_below n c))

earlier_times : (n : Numbers) (c r : ℕ) → r < c
    → times_in (spares_below n (suc c)) r ≡ times_in (spares_below n c) r
earlier_times n c r low = on (nat_lt (c % (n.tablets + n.spare)) n.tablets)
  where
    on : (b : Bool) → times_in (cond b (spares_below n c) (c ∷ spares_below n c)) r ≡ times_in (spares_below n c) r
    on true = refl
    on false =
        let other : counted (c == r) 1 ≡ 0 = ap (λ (x : Bool). counted x 1) (ne_eqb c r (λ e. omega arith)) in
        omega (arith, sum_by-cons (λ (x : ℕ). counted (x == r) 1) c (spares_below n c))

-- roles and spare regions of the first so many are one
roles_are : (n : Numbers) (c r : ℕ) → r < c
    → times_in (spares_below n c) r ≡ counted (is_spare 1 (get_or (opening_roles n c) r Home)) 1
roles_are n zero r low = absurd (omega arith)
roles_are n (suc c) r low =
    let count = roles_count n c in
    let more : opening_roles n (suc c) ≡ opening_roles n c ++ opening_role n c ∷ [] =
    (let e : suc c ≡ c + 1 = omega arith in ap (opening_roles n) e) ∙ roles_more n c in
    elim (cases_eq r c) [
      | inl e ↦
          (let here : get_or (opening_roles n c ++ opening_role n c ∷ []) c Home ≡ opening_role n c =
          grind (arith, common_steps) in
          subst (λ (x : ℕ). times_in (spares_below n (suc c)) x
          ≡ counted (is_spare 1 (get_or (opening_roles n (suc c)) x Home)) 1) (sym e)
          (last_times n c ∙ sym (spare_first n c)
          ∙ ap (λ (x : Role). counted (is_spare 1 x) 1) (sym here)
          ∙ ap (λ (xs : List Role). counted (is_spare 1 (get_or xs c Home)) 1) (sym more)))
      | inr d ↦
          (let before : r < c = omega arith in
          let there : get_or (opening_roles n c ++ opening_role n c ∷ []) r Home ≡ get_or (opening_roles n c) r Home =
          grind (arith, common_steps) in
          earlier_times n c r before ∙ roles_are n c r before
          ∙ ap (λ (x : Role). counted (is_spare 1 x) 1) (sym there)
          ∙ ap (λ (xs : List Role). counted (is_spare 1 (get_or xs r Home)) 1) (sym more))
    ]

-- ---- the machine

pub machines_open : MachinesOpen
machines_open s words shape empty =
    let n : Numbers = s.numbers in
    let each = shape.in_range.each in
    let slots : 0 < n.ring = omega (arith, each) in
    let some : 0 < n.servers = omega (arith, each) in record {
      known = record {
        shape = shape;
        cycle = omega arith;
        pending = All-nil (IsKeptName n);
        windows_count = length-replicate n.servers no_window;
        windows = all_of (IsWindow n.ring) n.servers no_window
            (record { tail_below = slots; ordered = omega arith; few = omega arith });
        barriers_count = length-replicate n.mutators 0;
        barriers = all_of (λ x. x < n.ring) n.mutators 0 slots;
        notices_count = length-replicate n.servers 0;
        notices = all_of (λ x. x < n.ring) n.servers 0 slots;
        poll_shape = refl;
        poll = some;
        chosen = All-nil (λ t. t < n.servers * n.tablets);
        roles = roles_count n (regions_of n);
        lists = refl;
        lists_room = refl;
        names = omega arith;
      };
      keeps = record {
        stage = tt;
        keeps = refl;
        empty = λ shut m slot below low inside. absurd (omega arith);
        rings = λ m low. subst (λ (x : ℕ). BarrierRing n words m x 0) (sym (zero_at n.mutators m))
            (ring_opens n words m slots (λ slot l. empty m slot low l));
      };
      rests = record { rests = refl; spares = λ r low. roles_are n (regions_of n) r low };
    }
