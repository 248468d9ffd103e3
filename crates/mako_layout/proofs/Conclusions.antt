-- What the invariant says of words and addresses.
use Rattle.mako_gate.specs.Sums.{counted}
use Rattle.mako_gate.specs.Standings.{has_drained, writes, shutter_at}
use Rattle.mako_layout.proofs.Sums.{sum_below_both, over_le, counted_cases}
use Rattle.std.proofs.Common.{◌≡◌, ℕ, ◌+◌, ◌-◌, ◌*◌, ◌<◌, ◌≤◌, inl, inr, sym, ap, ◌∙◌, refl, subst, arith, Bool, true}
use Rattle.std.proofs.Common.{false, cond, ◌&&◌, ◌==◌, eq-eqb}
use Rattle.std.proofs.lemmas.Nat.{mul-le}
use Rattle.std.proofs.lemmas.Bool.{cases_eq, cases_lt}
use Rattle.mako_shape.specs.Places.{region_word, index, leaving}
use Rattle.mako_shape.specs.Belongings.{tablet_of_entry}
use Rattle.mako_shape.proofs.BelongingLaws.{belongings_in_range, region_word-index}
use Rattle.mako_layout.specs.Layouts.{Layout, part_in, part_of_cycle}
use Rattle.mako_layout.specs.Facets.{reads, uses, holds_home, fills}
use Rattle.mako_layout.specs.Evacuations.{layout}
use Rattle.mako_layout.specs.Beside.{entry_of}
use Rattle.mako_layout.proofs.Passing.{passed_all}
use Rattle.mako_layout.specs.Conclusions.{ServersCopyAlone, OneWriter, UsedIsPresent, ReadIsPresent, EachHasItsRecord}
use Rattle.mako_layout.specs.Conclusions.{RecordsAreApart, BegunCopiesFit, ClearedTopsAreExact, part_to_come}
use Rattle.mako_layout.specs.Conclusions.{WhatIsLeftFits, UsedIsMade, AllAreHomeAtRest, WritersMayWrite, FoundIsPresent}
use Rattle.mako_layout.proofs.Roles.{copy_fits, part_le}
use Rattle.mako_layout.proofs.Besides.{writing}
use Rattle.mako_layout.proofs.Frames.{record_within}
use Rattle.mako_layout.proofs.Debts.{home_is}
use Rattle.mako_layout.proofs.Servers.{cleared_top}
use Rattle.mako_gate.proofs.GatesTell.{gates_tell}
use Rattle.mako_gate.proofs.Numbers.{counted_zero, count_at}
use Rattle.mako_layout.proofs.Alone.{none_given}

pub servers_copy_alone : ServersCopyAlone
servers_copy_alone n s e t i j f g h at_i at_j drains = (gates_tell n s.words s.gates e.gates).drained.tablets_empty t
    i j f g h at_i drains at_j

pub writers_are_one : OneWriter
writers_are_one n s e i j f g v w a b is_v is_w h same = elim (cases_eq i j) [
  | inl c ↦ c
  | inr d ↦ absurd (
      let t : ℕ = tablet_of_entry n (entry_of v) in
      let one : 1 ≤ writes t f = writing n (layout n s) s.words f v (e.knows i f v a.gate a.work) is_v in
      let two : 1 ≤ writes t g = subst (λ q. 1 ≤ writes q g) (sym same)
      (writing n (layout n s) s.words g w (e.knows j g w b.gate b.work) is_w) in
      let z = (gates_tell n s.words s.gates e.gates).writers.one t i j f g
      (belongings_in_range.entry n (entry_of v) h) d a.gate b.gate one in omega arith)
]

pub used_is_present : UsedIsPresent
used_is_present n s e i x r o g seat =
    let k = e.knows i g (uses x r o) seat.gate seat.work in
    let c = e.records x k.inside k.taken in
    record {
      address = (λ q. index n (region_word (sym k.region q) (sym k.offset q))) ∙ c.address;
      home = k.home ∙ home_is n s e i g seat.gate (tablet_of_entry n x) (let a = k.enters in omega arith);
    }

pub read_is_present : ReadIsPresent
read_is_present n s e i x r o g seat here =
    let k = e.knows i g (reads x r o) seat.gate seat.work in
    let p = k.present
    (here ∙ sym (home_is n s e i g seat.gate (tablet_of_entry n x) (let a = k.enters in omega arith))) in
    let c = e.records x k.inside k.taken in
    record { address = (λ q. index n (region_word (sym p.0 q) (sym p.1 q))) ∙ c.address; home = here }

pub each_has_its_record : EachHasItsRecord
each_has_its_record n s e x h taken = e.records x h taken

-- regions follow each other
row : (a b w : ℕ) → a < b → a * w + w ≤ b * w
row a b w h = omega (arith, mul-le (a + 1) w b w (omega arith) (omega arith))

pub records_are_apart : RecordsAreApart
records_are_apart n s e x y hx hy ne tx ty =
    let l : Layout = layout n s in
    let a = (e.records x hx tx).address in
    let b = (e.records y hy ty).address in
    let ia = region_word-index n (l.slot x).region (l.slot x).offset in
    let ib = region_word-index n (l.slot y).region (l.slot y).offset in
    let last_x = record_within n l e.copy x (l.slot x).region ((l.slot x).offset + ((l.slot x).size - 1)) hx
    (record { taken = tx; region = refl; low = omega arith; high = omega arith }) in
    let last_y = record_within n l e.copy y (l.slot y).region ((l.slot y).offset + ((l.slot y).size - 1)) hy
    (record { taken = ty; region = refl; low = omega arith; high = omega arith }) in
    elim (cases_lt (l.slot x).region (l.slot y).region) [
      | inl before ↦ inl (let q = row (l.slot x).region (l.slot y).region n.words before in omega (arith, last_x.1))
      | inr not_before ↦ elim (cases_lt (l.slot y).region (l.slot x).region) [
        | inl after ↦ inr (let q = row (l.slot y).region (l.slot x).region n.words after in omega (arith, last_y.1))
        | inr not_after ↦ (let same : (l.slot x).region ≡ (l.slot y).region = omega arith in
            let base : (l.slot x).region * n.words ≡ (l.slot y).region * n.words = ap (λ q. q * n.words) same in
            elim (cases_lt (l.slot y).offset ((l.slot x).offset + (l.slot x).size)) [
              | inr below ↦ inl (omega arith)
              | inl over ↦ elim (cases_lt (l.slot x).offset ((l.slot y).offset + (l.slot y).size)) [
                | inr below ↦ inr (omega arith)
                | inl under ↦ absurd (ne (elim (cases_lt (l.slot x).offset (l.slot y).offset) [
                  | inl less ↦ e.copy.one x y (l.slot y).region (l.slot y).offset hx hy
                      (record { taken = tx; region = same; low = omega arith; high = over })
                      (record { taken = ty; region = refl; low = omega arith; high = omega arith })
                  | inr more ↦ e.copy.one x y (l.slot y).region (l.slot x).offset hx hy
                      (record { taken = tx; region = same; low = omega arith; high = omega arith })
                      (record { taken = ty; region = refl; low = more; high = under })
                ]))
              ]
            ])
      ]
    ]

pub begun_copies_fit : BegunCopiesFit
begun_copies_fit n s e i x found r o j g seat =
    let k = e.knows i g (fills x found r o j) seat.gate seat.work in
    let fit = copy_fits n (layout n s) e.copy x k.inside k.taken k.epoch (λ c. k.out (c ∙ sym k.kept.region)) in
    omega (arith, k.kept.offset)

pub cleared_tops_are_exact : ClearedTopsAreExact
cleared_tops_are_exact n s e i t x r seat h left =
    cleared_top n s e i (shutter_at i (has_drained t (t * n.entries + n.entries))) seat.gate (holds_home x r)
    seat.work (λ c. c) (λ _. (refl, refl)) t h (let a = count_at t t 1 refl in omega arith) left
    (passed_all n (layout n s) t
    (e.passed i t (t * n.entries + n.entries) (shutter_at i (has_drained t (t * n.entries + n.entries))) seat.gate
    refl))

-- a part in the home and one that is to come are a part of the cycle
to_come_le : (b q : Bool) (z : ℕ) → counted b (cond q 0 z) ≤ counted b z
to_come_le true true z = omega arith
to_come_le true false z = omega arith
to_come_le false q z = omega arith

pub what_is_left_fits : WhatIsLeftFits
what_is_left_fits n s e t h left =
    let l : Layout = layout n s in
    let sum = sum_below_both n.entries (λ i. part_in (l.home t) (l.slot (t * n.entries + i)))
    (λ i. part_to_come l.cycle (l.home t) (l.slot (t * n.entries + i))) in
    let all = over_le n t h (λ y. part_in (l.home t) (l.slot y) + part_to_come l.cycle (l.home t) (l.slot y))
    (λ y. part_of_cycle l.cycle (l.slot y)) (λ y m same.
    elim (counted_cases (l.slot y).taken (l.slot y).region (l.home t) (l.slot y).size) [
      | inl c ↦ (let none : part_to_come l.cycle (l.home t) (l.slot y) ≡ 0 =
          ap (λ q. counted ((l.slot y).taken && ((l.slot y).epoch == l.cycle)) (cond q 0 (l.slot y).size))
          (eq-eqb (l.slot y).region (l.home t) c.1)
          ∙ counted_zero ((l.slot y).taken && ((l.slot y).epoch == l.cycle)) in
          omega (arith, part_le n l e.copy t y m same left))
      | inr c ↦
          omega (
            arith,
            c.1,
            to_come_le ((l.slot y).taken && ((l.slot y).epoch == l.cycle))
                ((l.slot y).region == l.home t) (l.slot y).size,
          )
    ]) in
    record {
      exact = e.copy.exact t h left;
      room = (let a = e.copy.exact t h left in let b = e.copy.cycle_fits t h left in omega arith);
    }

pub used_is_made : UsedIsMade
used_is_made n s e t h = let a = e.copy.made_in t h in let b = e.even t h in omega arith

pub all_are_home_at_rest : AllAreHomeAtRest
all_are_home_at_rest n s e spare is = record {
  leavings = λ t h. elim (cases_eq (s.words (leaving t)) 0) [
    | inl none ↦ none
    | inr left ↦ e.copy.leaves t h left ∙ none_given n s spare is t
  ];
  records = λ x h taken. elim (e.copy.whole x h taken) [
    | inl i ↦ i
    | inr g ↦ absurd (let a = none_given n s spare is (tablet_of_entry n x) in let b = g.region in omega arith)
  ];
}

pub writers_may_write : WritersMayWrite
writers_may_write n s e i g w seat is = writing n (layout n s) s.words g w (e.knows i g w seat.gate seat.work) is

pub found_is_present : FoundIsPresent
found_is_present n s e i x found r o j g seat =
    let k = e.knows i g (fills x found r o j) seat.gate seat.work in
    let address = sym (e.records x k.inside k.taken).address ∙ k.as_found.address in
    (λ q. record {
      taken = k.as_found.taken q;
      generation = k.as_found.generation q;
      epoch = k.as_found.epoch q;
      address = address q;
    })
