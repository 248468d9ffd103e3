-- What a ring with a window stands through: looks, puts and takes.
use Rattle.std.proofs.Common.{◌≡◌, ◌≢◌, ℕ, suc, ◌+◌, ◌-◌, ◌%◌, ◌<◌, ◌≤◌, ◌==◌, if◌then◌else◌, Bool, true, false, inl}
use Rattle.std.proofs.Common.{inr, List, length, refl, sym, ap, subst, ◌∙◌, arith}
use Rattle.std.proofs.Math.Nat.{mod-eq-sub-mod}
use Rattle.std.proofs.lemmas.Bool.{cases_lt}
use Rattle.std.proofs.lemmas.Bool.Decides.{nat_tests}
use Rattle.std.proofs.lemmas.List.{length_push}
use Rattle.mako_ring.specs.Contents.{content, after_place, RingStands, SlotWritten}
use Rattle.mako_ring.specs.declared.window.Window.{Window}
use Rattle.mako_ring.specs.Windows.{tail_up, head_up, found_room}
use Rattle.mako_ring.proofs.Turns.{turned, place_below, same_start}
use Rattle.mako_ring.proofs.Contents.{Holds, content_holds, holds_content, holds_others, room, put_appends}
use Rattle.mako_ring.proofs.Contents.{take_removes_the_first}

-- slots that agree
abbrev pub SameSlots : ℕ → (ℕ → ℕ) → (ℕ → ℕ) → Type 0
SameSlots size slot after = (j : ℕ) → j < size → after j ≡ slot j

module _ (size : ℕ) (slot : ℕ → ℕ) (at : ℕ) (w : Window) (ring : RingStands size slot at w) where
  abbrev c : List ℕ
  c = content size slot at

  holds : Holds size slot at c
  holds = content_holds size slot at ring.others

  pub ring_same : (after : ℕ → ℕ) → SameSlots size slot after → RingStands size after at w
  ring_same after same = record {
    at_below = ring.at_below;
    window = ring.window;
    others = holds_others size after at c still;
    next = ap (λ (l : List ℕ). (at + length l) % size) e ∙ ring.next;
    counted = subst (λ (l : List ℕ). w.tail + length l ≤ w.head) (sym e) ring.counted;
  }
    where
      inside : (a : ℕ) → a % size < size
      inside a = place_below size a (let b = ring.at_below in omega arith)

      still : Holds size after at c
      still = let h = holds in
          record {
            few = h.few;
            filled = λ j l. let f = h.filled j l in
                (same ((at + j) % size) (inside (at + j)) ∙ f.0, f.1);
            empty = λ j l k. same ((at + j) % size) (inside (at + j)) ∙ h.empty j l k;
          }

      e : content size after at ≡ c
      e = holds_content size after at c still

  -- an empty window has an empty ring
  pub ring_empty : w.tail ≡ w.head → (k : ℕ) → k < size → slot k ≡ 0
  ring_empty none k h = elim (cases_lt k at) [
    | inl low ↦ subst (λ (p : ℕ). slot p ≡ 0) (over k low (k + size - at) refl)
        (ring.others.rest (k + size - at) (let d = ring.counted in let a = ring.at_below in
        omega arith) (let a = ring.at_below in omega arith))
    | inr high ↦ subst (λ (p : ℕ). slot p ≡ 0) (on k high h (k - at) refl)
        (ring.others.rest (k - at) (let d = ring.counted in omega arith) (omega arith))
  ]
    where
      over : (k : ℕ) → k < at → (j : ℕ) → j ≡ k + size - at → (at + j) % size ≡ k
      over k low j e = let a = ring.at_below in
          elim (turned size (at + j) (omega arith)) [ inl t ↦ omega arith | inr t ↦ omega arith ]

      on : (k : ℕ) → at ≤ k → k < size → (j : ℕ) → j ≡ k - at → (at + j) % size ≡ k
      on k high h j e = elim (turned size (at + j) (omega arith)) [ inl t ↦ omega arith | inr t ↦ omega arith ]

  abbrev pub Moved : Window → Type 0
  Moved v = RingStands size slot at v × (v.head % size ≡ w.head % size)

  abbrev pub HasRoom : Window → Type 0
  HasRoom v = RingStands size slot at v × (v.head % size ≡ w.head % size) × (v.head < v.tail + size)

  -- the tail may rise where the content stays within the window
  raised : w.tail + 1 + length c ≤ w.head → Moved (tail_up size w)
  raised more = on (w.tail + 1 == size) refl
    where
      on : (b : Bool) → (w.tail + 1 == size) ≡ b →
          Moved (if b then record { head = w.head - size; tail = 0 } else record { head = w.head; tail = w.tail + 1 })
      on true t =
          let d = ring.window in
          let e : w.tail + 1 ≡ size = grind (arith, nat_tests) in
          let back : (w.head - size) % size ≡ w.head % size =
          sym (mod-eq-sub-mod (let g : size ≤ w.head = omega arith in g)) in (
            record {
              at_below = ring.at_below;
              window = record {
                tail_below = (let a = ring.at_below in omega arith);
                ordered = omega arith;
                few = (let f = d.few in omega arith);
              };
              others = ring.others;
              next = ring.next ∙ sym back;
              counted = omega arith;
            },
            back,
          )
      on false t =
          let d = ring.window in
          let ne : w.tail + 1 ≢ size = λ e. grind (arith, nat_tests) in (
            record {
              at_below = ring.at_below;
              window = record {
                tail_below = (let f = d.tail_below in grind (arith, nat_tests));
                ordered = omega arith;
                few = (let f = d.few in omega arith);
              };
              others = ring.others;
              next = ring.next;
              counted = omega arith;
            },
            refl,
          )

  -- a slot seen emptied
  pub ring_tail : w.tail < w.head → slot (w.tail % size) ≡ 0 → RingStands size slot at (tail_up size w)
  ring_tail some free = (raised (less (length c) refl)).0
    where
      less : (l : ℕ) → l ≡ length c → w.tail + 1 + length c ≤ w.head
      less l is = elim (cases_lt (w.tail + length c) w.head) [
        | inl low ↦ omega arith
        | inr high ↦
            let d = ring.window in let k = ring.counted in let few = holds.few in
            let whole : w.head ≡ w.tail + length c = omega arith in
            let same : (at + length c) % size ≡ (w.tail + length c) % size = ring.next
            ∙ ap (λ (k : ℕ). k % size) whole in
            let meet : at ≡ w.tail = same_start size at w.tail (length c) ring.at_below d.tail_below few same in
            let first = holds.filled 0 (omega arith) in
            let here : (at + 0) % size ≡ w.tail % size =
            ap (λ (k : ℕ). k % size) (let e : at + 0 ≡ w.tail = omega arith in e) in
            absurd (let e = sym (ap slot here) ∙ first.0 ∙ refl in let p = first.1 in
            let z : slot (w.tail % size) ≡ 0 = free in
            let y : slot ((at + 0) % size) ≡ slot (w.tail % size) = ap slot here in let f = first.0 in omega arith)
      ]

  -- an empty slot at the putter's place: there is room
  pub ring_room : slot (w.head % size) ≡ 0 → HasRoom (found_room size w)
  ring_room free = on (w.head == w.tail + size) refl
    where
      inside : length c < size
      inside = room size slot slot at ring.at_below c holds (ap slot ring.next ∙ free)

      on : (b : Bool) → (w.head == w.tail + size) ≡ b →
          HasRoom (if b then tail_up size w else w)
      on true t =
          let e : w.head ≡ w.tail + size = grind (arith, nat_tests) in
          let r = raised (let i = inside in omega arith) in
          (r.0, r.1, grind (arith, nat_tests))
      on false t = let d = ring.window in (ring, refl, let f = d.few in grind (arith, nat_tests))

  -- a put
  pub ring_put : (after : ℕ → ℕ) (x : ℕ) → slot (w.head % size) ≡ 0 → w.head < w.tail + size → x ≢ 0
      → SlotWritten size slot after (w.head % size) x → RingStands size after at (head_up w)
  ring_put after x free spare filled written =
      let p = put_appends size slot after at w.head x ring.at_below ring.others ring.next free filled written in
      let l : length (content size after at) ≡ length c + 1 = ap length p.0 ∙ length_push c x in
      let d = ring.window in let k = ring.counted in
      record {
        at_below = ring.at_below;
        window = record { tail_below = d.tail_below; ordered = (let o = d.ordered in omega arith); few = omega arith };
        others = p.1;
        next = p.2;
        counted = omega arith;
      }

  -- a take
  pub ring_take : (after : ℕ → ℕ) → slot at ≢ 0 → SlotWritten size slot after at 0
      → RingStands size after (after_place size at) w
  ring_take after filled written =
      let p = take_removes_the_first size slot after at w.head ring.at_below ring.others ring.next filled written in
      let l : length c ≡ suc (length (content size after (after_place size at))) = ap length p.0 in
      let k = ring.counted in
      record {
        at_below = (let a = ring.at_below in grind (arith, nat_tests));
        window = ring.window;
        others = p.1;
        next = p.2;
        counted = omega arith;
      }
