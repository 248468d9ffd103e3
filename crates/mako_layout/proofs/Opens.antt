-- The opening meets the invariant.
use Rattle.std.proofs.Common.{◌≡◌, ◌≢◌, ℕ, zero, suc, ◌+◌, ◌*◌, ◌/◌, ◌%◌, ◌<◌, ◌≤◌, ◌==◌, ◌&&◌, nat_lt, inl, inr, Bool}
use Rattle.std.proofs.Common.{true, false, cond, [], ◌∷◌, length, map, replicate, slice_get, get_or, sum_by, Some}
use Rattle.std.proofs.Common.{ne_eqb, sym, ap, ◌∙◌, refl, subst, arith}
use Rattle.std.proofs.lemmas.Nat.{mod-mul-add, div-mul-add}
use Rattle.std.proofs.lemmas.Bool.{cases_eq, cases_lt}
use Rattle.std.proofs.lemmas.Bool.Decides.{nat_tests}
use Rattle.std.proofs.lemmas.List.{length-replicate}
use Rattle.std.proofs.lemmas.List.Sums.{sum_by-cons}
use Rattle.std.proofs.lemmas.Option.{none-some, same_Some}
use Rattle.std.specs.Option.{unwrap_or}
use Rattle.mako_words.specs.declared.value.Value.TheVariants.{Null}
use Rattle.mako_words.specs.Values.{value_word}
use Rattle.mako_words.specs.declared.entry_word.EntryWord.{EntryWord}
use Rattle.mako_words.specs.Entries.{entry_word, FitsEntry, entry_at}
use Rattle.mako_words.proofs.EntryWords.{entry_at-entry_word}
use Rattle.mako_shape.specs.declared.numbers.Numbers.{Numbers}
use Rattle.mako_shape.specs.Limits.{IsShape, EachInRange, tested}
use Rattle.mako_shape.specs.Places.{top, region_word, index}
use Rattle.mako_shape.specs.Belongings.{opening_home, tablet_of_entry}
use Rattle.mako_shape.proofs.Rows.{div-below, mod-below, row-below, row-and-column}
use Rattle.mako_shape.proofs.BelongingLaws.{opening_homes_are_good}
use Rattle.mako_model.specs.Heaps.{fields_of, board_name, opening}
use Rattle.mako_model.proofs.Lookups.{fields_same}
use Rattle.std.specs.FinMap as finmap
use Rattle.mako_layout.specs.Sums.{sum_below}
use Rattle.mako_layout.specs.Layouts.{Slot, Layout, entries_of, regions_of, part_in, home_words, taken_words, InHome}
use Rattle.mako_layout.specs.Layouts.{OneCopy}
use Rattle.mako_layout.specs.Facets.{Work, idle, times_in}
use Rattle.mako_layout.specs.Evacuations.{slot_of_entry, to_raise, counted_in, record_words, IsRecordOf, Knows, State}
use Rattle.mako_layout.specs.Evacuations.{layout, Evacuation}
use Rattle.mako_gate.specs.Sums.{counted}
use Rattle.mako_gate.specs.Changes.{tablets_of}
use Rattle.mako_gate.specs.Standings.{GateFacet, away, rests, has_drained, mutator_at}
use Rattle.mako_gate.proofs.Numbers.{counted_le, count_at, count_off}
use Rattle.mako_layout.specs.Openings.{board_entry, opening_words, seats_from, idle_works, spares_below, opening_state}
use Rattle.mako_layout.specs.Openings.{OpeningHolds}
use Rattle.mako_layout.proofs.Sums.{sum_below_none, sum_below_one, over_one, over_none, counted_not}
use Rattle.mako_layout.proofs.Entries.{address_fits, region_of_place, word_of_place, slot_stored}
use Rattle.mako_gate.proofs.GatesHold.{opening_has}

-- seats and works
seat_rests : (c k i : ℕ) (g : GateFacet) → slice_get (seats_from k c) i ≡ Some g →
    (g.standing ≡ away) × (g.watch ≡ rests)
seat_rests zero k i g e = absurd (none-some g e)
seat_rests (suc c) k zero g e = let s = same_Some (mutator_at k away) g e in
    (ap (λ (q : GateFacet). q.standing) (sym s), ap (λ (q : GateFacet). q.watch) (sym s))
seat_rests (suc c) k (suc i) g e = seat_rests c (k + 1) i g e

seats_length : (c k : ℕ) → length (seats_from k c) ≡ c
seats_length zero k = refl
seats_length (suc c) k = ap suc (seats_length c (k + 1))

works_length : (c : ℕ) → length (idle_works c) ≡ c
works_length zero = refl
works_length (suc c) = ap suc (works_length c)

pub work_is_idle : (c i : ℕ) (w : Work) → slice_get (idle_works c) i ≡ Some w → w ≡ idle
work_is_idle zero i w e = absurd (none-some w e)
work_is_idle (suc c) zero w e = sym (same_Some idle w e)
work_is_idle (suc c) (suc i) w e = work_is_idle c i w e

works_sum : (f : Work → ℕ) → f idle ≡ 0 → (c : ℕ) → sum_by f (idle_works c) ≡ 0
works_sum f h zero = refl
works_sum f h (suc c) = omega (arith, sum_by-cons f idle (idle_works c), works_sum f h c, h)

-- a sum of one term
one_term : (k : ℕ) (f : ℕ → ℕ) (x : ℕ) → x < k → ((y : ℕ) → y < k → y ≢ x → f y ≡ 0) → sum_below k f ≡ f x
one_term k f x h none = omega (arith, sum_below_one k f (λ _. 0) x h none, sum_below_none k (λ _. 0) (λ _ _. refl))

-- the spare regions below a number
spare_next : (n : Numbers) (r c : ℕ) → times_in (spares_below n (suc c)) r
    ≡ times_in (spares_below n c) r + cond (nat_lt (c % (n.tablets + n.spare)) n.tablets) 0 (counted (c == r) 1)
spare_next n r c = by (nat_lt (c % (n.tablets + n.spare)) n.tablets)
  where
    by : (b : Bool) → times_in (cond b (spares_below n c) (c ∷ spares_below n c)) r ≡ times_in (spares_below n c)
        r + cond b 0 (counted (c == r) 1)
    by true = omega arith
    by false = omega (arith, sum_by-cons (λ s. counted (s == r) 1) c (spares_below n c))

less_is : (a b : ℕ) → a < b → nat_lt a b ≡ true
less_is a b h = grind (arith, nat_tests)

less_not : (a b : ℕ) → b ≤ a → nat_lt a b ≡ false
less_not a b h = grind (arith, nat_tests)

cond_zero : (b : Bool) (z : ℕ) → z ≡ 0 → cond b 0 z ≡ 0
cond_zero true z e = refl
cond_zero false z e = e

spare_other : (n : Numbers) (r c : ℕ) → c ≤ r → times_in (spares_below n c) r ≡ 0
spare_other n r zero h = refl
spare_other n r (suc c) h = omega (
  arith,
  spare_next n r c,
  spare_other n r c (omega arith),
  cond_zero
      (nat_lt (c % (n.tablets + n.spare)) n.tablets) (counted (c == r) 1) (count_off c r 1 (λ e. omega arith)),
)

spare_not : (n : Numbers) (r c : ℕ) → r % (n.tablets + n.spare) < n.tablets → times_in (spares_below n c) r ≡ 0
spare_not n r zero h = refl
spare_not n r (suc c) h = elim (cases_eq c r) [
  | inl e ↦
      omega (
        arith,
        spare_next n r c,
        spare_not n r c h,
        ap (λ q. cond q 0 (counted (c == r) 1))
            (ap (λ q. nat_lt (q % (n.tablets + n.spare)) n.tablets) e ∙ less_is (r % (n.tablets + n.spare)) n.tablets
            h),
      )
  | inr d ↦
      omega (
        arith,
        spare_next n r c,
        spare_not n r c h,
        cond_zero (nat_lt (c % (n.tablets + n.spare)) n.tablets)
            (counted (c == r) 1) (count_off c r 1 d),
      )
]

spare_is : (n : Numbers) (r c : ℕ) → r < c → n.tablets ≤ r % (n.tablets + n.spare) → times_in (spares_below n c) r ≡ 1
spare_is n r zero h k = absurd (omega arith)
spare_is n r (suc c) h k = elim (cases_eq c r) [
  | inl e ↦
      omega (
        arith,
        spare_next n r c,
        spare_other n r c (omega arith),
        count_at c r 1 e,
        ap (λ q. cond q 0 (counted (c == r) 1))
            (ap (λ q. nat_lt (q % (n.tablets + n.spare)) n.tablets) e ∙ less_not (r % (n.tablets + n.spare)) n.tablets
            k),
      )
  | inr d ↦
      (let ne : c ≢ r = d in
      omega (
        arith,
        spare_next n r c,
        spare_is n r c (omega arith) k,
        cond_zero
            (nat_lt (c % (n.tablets + n.spare)) n.tablets) (counted (c == r) 1) (count_off c r 1 d),
      ))
]

-- the homes at the opening
module _ (n : Numbers) (r : ℕ) (inside : r < regions_of n) where
  home_column : (t : ℕ) → t < tablets_of n → opening_home n t % (n.tablets + n.spare) ≡ t % n.tablets
  home_column t h = mod-mul-add (t / n.tablets) (n.tablets + n.spare) (t % n.tablets)
      (let a = mod-below t n.tablets n.servers h in omega arith)

  pub one_role : sum_below (tablets_of n) (λ t. counted (opening_home n t == r) 1) + times_in
      (spares_below n (regions_of n)) r ≡ 1
  one_role = elim (cases_lt (r % (n.tablets + n.spare)) n.tablets) [
    | inl low ↦ (
        let t : ℕ = r / (n.tablets + n.spare) * n.tablets + r % (n.tablets + n.spare) in
        let t_in : t < tablets_of n = row-below (r / (n.tablets + n.spare)) n.tablets (r % (n.tablets + n.spare))
        n.servers (div-below r (n.tablets + n.spare) n.servers inside) low in
        let here : opening_home n t ≡ r =
        (λ q. div-mul-add (r / (n.tablets + n.spare)) n.tablets (r % (n.tablets + n.spare)) low
        q * (n.tablets + n.spare) + mod-mul-add (r / (n.tablets + n.spare)) n.tablets (r % (n.tablets + n.spare))
        low q) ∙ row-and-column r (n.tablets + n.spare) in
        let term = one_term (tablets_of n) (λ t. counted (opening_home n t == r) 1) t t_in
        (λ u h d. count_off (opening_home n u) r 1
        (λ e. d (opening_homes_are_good.one_tablet n u t h t_in (e ∙ sym here)))) in
        omega (arith, count_at (opening_home n t) r 1 here, spare_not n r (regions_of n) low))
    | inr high ↦ omega (
      arith,
      sum_below_none (tablets_of n) (λ t. counted (opening_home n t == r) 1)
          (λ t h. count_off (opening_home n t) r 1 (λ e.
          let a = home_column t h in let b = mod-below t n.tablets n.servers h in
          let c = ap (λ q. q % (n.tablets + n.spare)) e in omega arith)),
      spare_is n r (regions_of n) inside high,
    )
  ]

-- the fields of the board
nulls : (c i : ℕ) → get_or (map value_word (replicate c Null)) i 0 ≡ 0
nulls zero i = refl
nulls (suc c) zero = refl
nulls (suc c) (suc i) = nulls c i

module _ (n : Numbers) (shape : IsShape n) (board : ℕ) (fits : board + 1 ≤ n.words) where
  abbrev s : State
  s = opening_state n board

  abbrev l : Layout
  l = layout n s

  in_range : EachInRange (tested n)
  in_range = shape.in_range.each

  regions_some : 0 < regions_of n
  regions_some = omega
      (arith, row-below 0 (n.tablets + n.spare) 0 n.servers (omega (arith, in_range)) (omega (arith, in_range)))

  tablets_some : 0 < tablets_of n
  tablets_some = omega (arith, row-below 0 n.tablets 0 n.servers (omega (arith, in_range)) (omega (arith, in_range)))

  pub entries_some : 0 < entries_of n
  entries_some = omega (arith, row-below 0 n.entries 0 (tablets_of n) tablets_some (omega (arith, in_range)))

  pub fits_word : FitsEntry (board_entry n)
  fits_word = record {
    address = address_fits n 0 0 regions_some (omega arith) shape;
    epoch = omega arith;
    generation = omega arith;
  }

  -- the board's slot, and the others
  pub slot_zero : l.slot 0 ≡ slot_of_entry n s.heap 0 (board_entry n)
  slot_zero = slot_stored n s.heap 0 (entry_word (board_entry n)) (board_entry n) fits_word refl

  pub region_zero : (l.slot 0).region ≡ 0
  region_zero = ap (λ (q : Slot). q.region) slot_zero ∙ region_of_place n 0 0 regions_some (omega arith)

  pub offset_zero : (l.slot 0).offset ≡ 0
  offset_zero = ap (λ (q : Slot). q.offset) slot_zero ∙ word_of_place n 0 0 regions_some (omega arith)

  board_fields : fields_of s.heap board_name ≡ Some (replicate board Null)
  board_fields = fields_same
      (record {
        objects = finmap.empty;
        roots = (opening n.mutators n.roots board n.cycles).roots;
        snaps = 0;
        cycles = n.cycles;
      }) board_name (replicate board Null)

  pub size_zero : (l.slot 0).size ≡ board + 1
  size_zero = ap (λ (q : Slot). q.size) slot_zero ∙ (λ q. length (unwrap_or (board_fields q) []) + 1)
      ∙ ap (λ q. q + 1) (length-replicate board Null)

  only_zero : (x : ℕ) → (l.slot x).taken ≡ true → x ≡ 0
  only_zero x taken = elim (cases_eq x 0) [
    | inl e ↦ e
    | inr d ↦
        absurd (let a : (l.slot x).taken ≡ false = ap (λ b. (entry_at (cond b (entry_word (board_entry n)) 0)).taken)
        (ne_eqb x 0 d) in cc)
  ]

  tablet_zero : tablet_of_entry n 0 ≡ 0
  tablet_zero = omega (arith, in_range)

  home_zero : l.home 0 ≡ 0
  home_zero =
      let a : 0 / n.tablets ≡ 0 = omega (arith, in_range) in
      let b : 0 % n.tablets ≡ 0 = omega (arith, in_range) in
      (λ q. a q * (n.tablets + n.spare) + b q) ∙ (let c : 0 * (n.tablets + n.spare) + 0 ≡ 0 = omega arith in c)

  filled_is_top : (t : ℕ) → l.filled t ≡ s.words (top t)
  filled_is_top t = omega (
    arith,
    works_sum (to_raise n t) refl (n.mutators + n.servers + 1),
    works_sum (counted_in n t) refl
        (n.mutators + n.servers + 1),
  )

  part_other : (r y : ℕ) → y ≢ 0 → part_in r (l.slot y) ≡ 0
  part_other r y d = counted_not (l.slot y).taken (l.slot y).region r (l.slot y).size (λ taken _. d (only_zero y taken))

  home_sum : (t : ℕ) → t < tablets_of n → home_words n l t ≤ l.filled t
  home_sum t h = elim (cases_eq t 0) [
    | inl e ↦ subst (λ q. home_words n l q ≤ l.filled q) (sym e)
        (let one = over_one n 0 tablets_some (λ y. part_in (l.home 0) (l.slot y)) (λ _. 0) 0 entries_some tablet_zero
        (λ y m d. part_other (l.home 0) y d) in
        let none = over_none n 0 tablets_some (λ _. 0) (λ _ _ _. refl) in
        let part = counted_le ((l.slot 0).taken && ((l.slot 0).region == l.home 0)) (l.slot 0).size in
        omega (arith, filled_is_top 0, size_zero))
    | inr d ↦
        omega (
          arith,
          over_none n t h (λ y. part_in (l.home t) (l.slot y))
              (λ y m e. part_other (l.home t) y (λ c. d (sym e ∙ ap (tablet_of_entry n) c ∙ tablet_zero))),
        )
  ]

  taken_other : (y : ℕ) → y ≢ 0 → counted (l.slot y).taken (l.slot y).size ≡ 0
  taken_other y d = ap (λ b. counted (entry_at (cond b (entry_word (board_entry n)) 0)).taken (l.slot y).size)
      (ne_eqb y 0 d)

  taken_sum : (t : ℕ) → t < tablets_of n → taken_words n l t ≤ l.made t
  taken_sum t h = elim (cases_eq t 0) [
    | inl e ↦ subst (λ q. taken_words n l q ≤ l.made q) (sym e)
        (let one = over_one n 0 tablets_some (λ y. counted (l.slot y).taken (l.slot y).size) (λ _. 0) 0 entries_some
        tablet_zero (λ y m d. taken_other y d) in
        let none = over_none n 0 tablets_some (λ _. 0) (λ _ _ _. refl) in
        let part = counted_le (l.slot 0).taken (l.slot 0).size in
        omega (arith, size_zero))
    | inr d ↦
        omega (
          arith,
          over_none n t h (λ y. counted (l.slot y).taken (l.slot y).size)
              (λ y m e. taken_other y (λ c. d (sym e ∙ ap (tablet_of_entry n) c ∙ tablet_zero))),
        )
  ]

  copy : OneCopy n l
  copy = record {
    role = λ r h. omega (
      arith,
      one_role n r h,
      sum_below_none (tablets_of n) (λ t. counted (0 == r + 1) 1)
          (λ t _. count_off 0 (r + 1) 1 (λ e. omega arith)),
    );
    home_in = λ t h. opening_homes_are_good.in_range n t h;
    given_in = λ t h. omega arith;
    home_own = λ t h. opening_homes_are_good.same_server n t h;
    given_own = λ t r h e. absurd (omega arith);
    whole = λ x h taken. inl (let z = only_zero x taken in
        subst (λ q. InHome l (tablet_of_entry n q) (l.slot q)) (sym z) (record {
          region = region_zero ∙ sym home_zero ∙ ap l.home (sym tablet_zero);
          below = subst (λ q. (l.slot 0).offset + (l.slot 0).size ≤ l.filled q) (sym tablet_zero)
              (omega (arith, offset_zero, size_zero, filled_is_top 0));
        }));
    one = λ x y r o hx hy a b. only_zero x a.taken ∙ sym (only_zero y b.taken);
    room = home_sum;
    within = λ t h. elim (cases_eq t 0) [
      | inl e ↦ subst (λ q. l.filled q ≤ n.words) (sym e) (omega (arith, filled_is_top 0))
      | inr d ↦ omega (arith, filled_is_top t, ap (λ q. cond q (board + 1) 0) (ne_eqb t 0 d))
    ];
    made_in = λ t h. omega (arith, filled_is_top t);
    made_all = taken_sum;
    leaves = λ t h left. absurd (left refl);
    exact = λ t h left. absurd (left refl);
    cycle_fits = λ t h left. absurd (left refl);
    fresh = λ x h taken left. absurd (left refl);
  }

  board_word : (b : ℕ) → b < length (replicate board Null) + 1 →
      opening_words n board (region_word 0 (0 + b)) ≡ get_or (record_words (replicate board Null)) b 0
  board_word zero h = sym (length-replicate board Null)
  board_word (suc b) h = ap (λ q. cond q board 0) (ne_eqb (0 + suc b) 0 (λ e. omega arith)) ∙ sym (nulls board b)

  board_record : IsRecordOf n s.words s.heap 0 (l.slot 0)
  board_record =
      let decoded : entry_at (entry_word (board_entry n)) ≡ board_entry n = entry_at-entry_word (board_entry n)
      fits_word in
      record {
        fields = replicate board Null;
        are = ap (λ (q : EntryWord). fields_of s.heap (record { entry = 0; generation = q.generation })) decoded
            ∙ board_fields;
        address = (λ q. index n (region_word (region_zero q) (offset_zero q))) ∙ ap (λ (q : EntryWord). q.address)
            (sym decoded);
        words = λ b h. (λ q. opening_words n board (region_word (region_zero q) (offset_zero q + b))) ∙ board_word b h;
      }

  pub opening_kept : Evacuation n (opening_state n board)
  opening_kept = record {
    seats = works_length (n.mutators + n.servers + 1) ∙ sym (seats_length (n.mutators + n.servers + 1) 0);
    gates = opening_has n (opening_words n board) (seats_from 0 (n.mutators + n.servers + 1))
        (omega (arith, in_range)) (record {
          tablets = λ t h. refl;
          owns = λ m h. refl;
          turns = λ t h. refl;
          away_all = λ i g e. (seat_rests (n.mutators + n.servers + 1) 0 i g e).0;
          rest_all = λ i g e. (seat_rests (n.mutators + n.servers + 1) 0 i g e).1;
        });
    copy = copy;
    pause = inl refl;
    even = λ t h. omega (arith, works_sum (counted_in n t) refl (n.mutators + n.servers + 1));
    records = λ x h taken. subst (λ q. IsRecordOf n s.words s.heap q (l.slot q)) (sym (only_zero x taken)) board_record;
    passed = λ i t b g at is. absurd
        (let a : rests ≡ has_drained t b = sym (seat_rests (n.mutators + n.servers + 1) 0 i g at).1 ∙ is in cc);
    knows = λ i g w at_g at_w. subst (λ q. Knows n l s.words g q)
        (sym (work_is_idle (n.mutators + n.servers + 1) i w at_w)) tt;
  }

pub opening_holds : OpeningHolds
opening_holds n shape board fits = opening_kept n shape board fits
