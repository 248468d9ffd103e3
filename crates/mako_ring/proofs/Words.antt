-- Rings over the list of all words, and the changes of windows.
use Rattle.std.proofs.Common.{◌≡◌, ℕ, ◌+◌, ◌-◌, ◌%◌, ◌<◌, ◌≤◌, ◌==◌, if◌then◌else◌, Bool, true, false, Option, Some}
use Rattle.std.proofs.Common.{None, List, length, ap, sym, subst, refl, ◌∙◌, arith}
use Rattle.std.proofs.Math.Nat.{mod-eq-sub-mod}
use Rattle.std.proofs.lemmas.Bool.Decides.{nat_tests}
use Rattle.std.proofs.lemmas.Option.{same_Some}
use Rattle.mako_shape.specs.declared.numbers.Numbers.{Numbers}
use Rattle.mako_shape.specs.Places.{Place, barrier, work, ghost, notice, Within, total, word_at}
use Rattle.mako_shape.proofs.PlaceLaws.{word_same, word_other}
use Rattle.mako_ring.specs.Contents.{SlotWritten}
use Rattle.mako_ring.specs.RingWords.{with_slot, RingsOnWords}
use Rattle.mako_ring.specs.Rings.{slot_place, slots_of, IsRing}
use Rattle.mako_ring.specs.Windows.{tail_up, head_up, found_room, put_up, IsWindow, WindowsStay}
use Rattle.mako_ring.specs.declared.ring.Ring.{Ring}
use Rattle.mako_ring.specs.declared.ring.Ring.TheVariants.{Barrier, Work, Ghost, Notice}
use Rattle.mako_ring.specs.declared.window.Window.{Window}
use Rattle.mako_ring.proofs.Contents.{put_appends, take_removes_the_first}
use Rattle.mako_ring.proofs.RingLaws.{ring_room, ring_put, ring_take}
use Rattle.mako_ring.proofs.Turns.{place_below}

-- the ring of a slot, and its number there
ring_at : Place → Option Ring
ring_at (barrier m k) = Some (Barrier m)
ring_at (work s k) = Some (Work s)
ring_at (ghost a b k) = Some (Ghost a b)
ring_at (notice s k) = Some (Notice s)
ring_at p = None

number_at : Place → ℕ
number_at (barrier m k) = k
number_at (work s k) = k
number_at (ghost a b k) = k
number_at (notice s k) = k
number_at p = 0

ring_is : (r : Ring) (k : ℕ) → ring_at (slot_place r k) ≡ Some r
unfolding ring_at
ring_is (Barrier m) k = refl
ring_is (Work s) k = refl
ring_is (Ghost a b) k = refl
ring_is (Notice s) k = refl

number_is : (r : Ring) (k : ℕ) → number_at (slot_place r k) ≡ k
unfolding number_at
number_is (Barrier m) k = refl
number_is (Work s) k = refl
number_is (Ghost a b) k = refl
number_is (Notice s) k = refl

slot_within : (n : Numbers) (r : Ring) (k : ℕ) → IsRing n r → k < n.ring → Within n (slot_place r k)
slot_within n (Barrier m) k is lt = (is, lt)
slot_within n (Work s) k is lt = (is, lt)
slot_within n (Ghost a b) k is lt = (is.0, is.1, lt)
slot_within n (Notice s) k is lt = (is, lt)

-- a slot that is written
written : (n : Numbers) (words : List ℕ) (r : Ring) (k x : ℕ) → length words ≡ total n → IsRing n r → k < n.ring
    → SlotWritten n.ring (slots_of (word_at n words) r) (slots_of (word_at n (with_slot n words r k x)) r) k x
written n words r k x size is lt = (
  word_same n words (slot_place r k) x size (slot_within n r k is lt),
  λ j lj d. word_other n words (slot_place r k) (slot_place r j) x (slot_within n r k is lt) (slot_within n r j is lj)
      (λ e. d (sym (number_is r j) ∙ ap number_at e ∙ number_is r k)),
)

pub rings_on_words : RingsOnWords
rings_on_words = record {
  put = λ n words r at w x size is stands free filled.
      let k : ℕ = w.head % n.ring in
      let below : k < n.ring = place_below n.ring w.head (let b = stands.at_below in omega arith) in
      let done = written n words r k x size is below in
      let room = ring_room n.ring (slots_of (word_at n words) r) at w stands free in
      let v : Window = found_room n.ring w in (
        (put_appends n.ring (slots_of (word_at n words) r)
            (slots_of (word_at n (with_slot n words r k x)) r) at w.head x stands.at_below stands.others stands.next
            free filled done).0,
        ring_put n.ring (slots_of (word_at n words) r) at v room.0 (slots_of (word_at n (with_slot n words r k x)) r) x
            (subst (λ (j : ℕ). word_at n words (slot_place r j) ≡ 0) (sym room.1) free) room.2 filled
            (subst (λ (j : ℕ). SlotWritten n.ring (slots_of (word_at n words) r)
            (slots_of (word_at n (with_slot n words r k x)) r) j x) (sym room.1) done),
      );
  take = λ n words r at w size is stands filled.
      let done = written n words r at 0 size is stands.at_below in (
        (take_removes_the_first n.ring (slots_of (word_at n words) r)
            (slots_of (word_at n (with_slot n words r at 0)) r) at w.head stands.at_below stands.others stands.next
            filled done).0,
        ring_take n.ring (slots_of (word_at n words) r) at w stands
            (slots_of (word_at n (with_slot n words r at 0)) r) filled done,
      );
  others = λ n words r q k j x is_r is_q lk lj d.
      word_other n words (slot_place r k) (slot_place q j) x (slot_within n r k is_r lk) (slot_within n q j is_q lj)
      (λ e. d (same_Some q r (sym (ring_is q j) ∙ ap ring_at e ∙ ring_is r k)));
}

-- ---- windows
abbrev Stays : ℕ → Window → Window → Type 0
Stays size w v = IsWindow size v × (v.head % size ≡ w.head % size)

tail_stays : (size : ℕ) (w : Window) → IsWindow size w → w.tail < w.head → Stays size w (tail_up size w)
tail_stays size w is some = on (w.tail + 1 == size) refl
  where
    on : (b : Bool) → (w.tail + 1 == size) ≡ b
        → Stays size w (if b then record { head = w.head - size; tail = 0 } else record {
          head = w.head;
          tail = w.tail + 1;
        })
    on true e =
        let all : w.tail + 1 ≡ size = grind (arith, nat_tests) in
        let back : (w.head - size) % size ≡ w.head % size =
        sym (mod-eq-sub-mod (let g : size ≤ w.head = omega arith in g)) in
        (record { tail_below = omega arith; ordered = omega arith; few = (let f = is.few in omega arith) }, back)
    on false e =
        let below = is.tail_below in let f = is.few in
        (record { tail_below = grind (arith, nat_tests); ordered = omega arith; few = omega arith }, refl)

room_stays : (size : ℕ) (w : Window) → IsWindow size w → Stays size w (found_room size w)
room_stays size w is = on (w.head == w.tail + size) refl
  where
    on : (b : Bool) → (w.head == w.tail + size) ≡ b → Stays size w (if b then tail_up size w else w)
    on true e = tail_stays size w is (let all : w.head ≡ w.tail + size = grind (arith, nat_tests) in
        let b = is.tail_below in omega arith)
    on false e = (is, refl)

put_stays : (size : ℕ) (w : Window) → IsWindow size w → IsWindow size (put_up size w)
put_stays size w is = on (w.head == w.tail + size) refl
  where
    last : (b : Bool) → (w.tail + 1 == size) ≡ b → w.head ≡ w.tail + size
        → IsWindow size (head_up (if b then record { head = w.head - size; tail = 0 } else record {
          head = w.head;
          tail = w.tail + 1;
        }))
    last true e all = let t : w.tail + 1 ≡ size = grind (arith, nat_tests) in
        record { tail_below = omega arith; ordered = omega arith; few = omega arith }
    last false e all = let b = is.tail_below in
        record { tail_below = grind (arith, nat_tests); ordered = omega arith; few = omega arith }

    on : (b : Bool) → (w.head == w.tail + size) ≡ b → IsWindow size (head_up (if b then tail_up size w else w))
    on true e = last (w.tail + 1 == size) refl (grind (arith, nat_tests))
    on false e = let b = is.tail_below in let f = is.few in let o = is.ordered in
        record { tail_below = b; ordered = omega arith; few = grind (arith, nat_tests) }

pub windows_stay : WindowsStay
windows_stay = record { tail_up = tail_stays; found_room = room_stays; put_up = put_stays }
