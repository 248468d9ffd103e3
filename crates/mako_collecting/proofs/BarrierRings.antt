-- The barrier rings: what stays of them, and what a look and a take do.
use Rattle.std.proofs.Common.{◌≡◌, ◌≢◌, ℕ, ◌+◌, ◌-◌, ◌%◌, ◌<◌, inl, inr, List, [], ◌∷◌, length, get_or, set, sym, ap}
use Rattle.std.proofs.Common.{◌∙◌, arith, ◌==◌, Bool, true, false, cond, refl}
use Rattle.std.proofs.lemmas.Bool.Decides.{nat_tests}
use Rattle.std.proofs.lemmas.Bool.{cases_lt}
use Rattle.mako_shape.specs.declared.numbers.Numbers.{Numbers}
use Rattle.mako_shape.specs.Places.{Place, barrier, index, total, word_at}
use Rattle.mako_shape.proofs.PlaceLaws.{word_same, word_other}
use Rattle.mako_ring.specs.Contents.{content, OthersEmpty, NextPlace, after_place}
use Rattle.mako_ring.proofs.Contents.{Holds, content_holds, holds_content, holds_others, take_removes_the_first}
use Rattle.mako_ring.proofs.Contents.{put_appends}
use Rattle.mako_ring.proofs.Turns.{turned, place_below, no_turn}
use Rattle.mako_collecting.specs.Keeping.{BarrierRing}

-- each slot is some place behind the position
reach : (size at i : ℕ) → at < size → i < size → (j : ℕ) × (j < size) × ((at + j) % size ≡ i)
reach size at i low inside = elim (cases_lt i at) [
  | inl below ↦ elim (turned size (at + (i + size - at)) (omega arith)) [
    | inl t ↦ absurd (let a = t.0 in omega arith)
    | inr t ↦ (i + size - at, (omega arith), (let a = t.1 in omega arith))
  ]
  | inr above ↦ elim (turned size (at + (i - at)) (omega arith)) [
    | inl t ↦ (i - at, (omega arith), (let a = t.1 in omega arith))
    | inr t ↦ absurd (let a = t.0 in omega arith)
  ]
]

module _ (size : ℕ) (slot : ℕ → ℕ) (at : ℕ) (low : at < size) (others : OthersEmpty size slot at) where
  all_empty : (names : List ℕ) → Holds size slot at names → slot at ≡ 0 → (i : ℕ) → i < size → slot i ≡ 0
  all_empty [] holds none i inside =
      let r = reach size at i low inside in
      sym (ap slot r.2) ∙ holds.empty r.0 (omega arith) r.1
  all_empty (x ∷ names) holds none i inside =
      let first = holds.filled 0 (omega arith) in
      let is : x ≡ 0 = sym first.0 ∙ ap slot (no_turn size at low) ∙ none in
      absurd (let more = first.1 in let e : get_or (x ∷ names) 0 0 ≡ 0 = is in omega arith)

  -- where the slot at the position is empty, all are
  pub ring_empty : slot at ≡ 0 → (i : ℕ) → i < size → slot i ≡ 0
  ring_empty none i inside = all_empty (content size slot at) (content_holds size slot at others) none i inside

  module _ (after : ℕ → ℕ) (agree : (i : ℕ) → i < size → after i ≡ slot i) where
    still : Holds size after at (content size slot at)
    still =
        let h = content_holds size slot at others in
        let inside : (j : ℕ) → (at + j) % size < size = λ j. place_below size (at + j) (omega arith) in record {
          few = h.few;
          filled = λ j l. (agree ((at + j) % size) (inside j) ∙ (h.filled j l).0, (h.filled j l).1);
          empty = λ j l m. agree ((at + j) % size) (inside j) ∙ h.empty j l m;
        }

    pub others_stay : OthersEmpty size after at
    others_stay = holds_others size after at (content size slot at) still

    pub next_stays : (place : ℕ) → NextPlace size slot at place → NextPlace size after at place
    next_stays place next =
        ap (λ (l : List ℕ). (at + length l) % size) (holds_content size after at (content size slot at) still) ∙ next

-- ---- rings of a mutator

pub ring_stays : (n : Numbers) (words us : List ℕ) (m at place : ℕ) → at < n.ring
    → ((slot : ℕ) → slot < n.ring → word_at n us (barrier m slot) ≡ word_at n words (barrier m slot))
    → BarrierRing n words m at place → BarrierRing n us m at place
ring_stays n words us m at place low same ring = record {
  others = others_stay n.ring (λ slot. word_at n words (barrier m slot)) at low ring.others
      (λ slot. word_at n us (barrier m slot)) same;
  next = next_stays n.ring (λ slot. word_at n words (barrier m slot)) at low ring.others
      (λ slot. word_at n us (barrier m slot)) same place ring.next;
}

no_turn_at : (size x : ℕ) → x < size → x % size ≡ x
no_turn_at size x low = ap (λ (y : ℕ). y % size) (let e : x ≡ x + 0 = omega arith in e) ∙ no_turn size x low

-- the place behind another is the next number's
risen : (size x : ℕ) → x < size → (x + 1) % size ≡ after_place size x % size
risen size x low = on (x + 1 == size) refl
  where
    on : (b : Bool) → (x + 1 == size) ≡ b → (x + 1) % size ≡ cond b 0 (x + 1) % size
    on true e =
        let all : x + 1 ≡ size = grind (arith, nat_tests) in
        elim (turned size (x + 1) (omega arith)) [
          | inl t ↦ absurd (let a = t.0 in omega arith)
          | inr t ↦ (let zero : (x + 1) % size ≡ 0 = (let a = t.1 in omega arith) in
              let none : 0 % size ≡ 0 = no_turn_at size 0 (omega arith) in zero ∙ sym none)
        ]
    on false e = refl

abbrev slot_of : Place → ℕ
slot_of (barrier m slot) = slot
slot_of p = 0

-- the collector takes the first name
pub ring_taken : (n : Numbers) (words : List ℕ) (m at place : ℕ) → length words ≡ total n → m < n.mutators → at < n.ring
    → word_at n words (barrier m at) ≢ 0 → BarrierRing n words m at place
    → BarrierRing n (set words (index n (barrier m at)) 0) m (after_place n.ring at) place
ring_taken n words m at place size inside low some ring =
    let us : List ℕ = set words (index n (barrier m at)) 0 in
    let t = take_removes_the_first n.ring (λ slot. word_at n words (barrier m slot))
    (λ slot. word_at n us (barrier m slot)) at place low ring.others ring.next some (
      word_same n words (barrier m at) 0 size (inside, low),
      λ slot l other. word_other n words (barrier m at) (barrier m slot) 0 (inside, low) (inside, l)
          (λ e. other (ap slot_of e)),
    ) in
    record { others = t.1; next = t.2 }

-- a mutator puts a name at its place
pub ring_put : (n : Numbers) (words : List ℕ) (m at place word : ℕ) → length words ≡ total n → m < n.mutators
    → at < n.ring → place < n.ring → word_at n words (barrier m place) ≡ 0 → word ≢ 0 → BarrierRing n words m at place
    → BarrierRing n (set words (index n (barrier m place)) word) m at (after_place n.ring place)
ring_put n words m at place word size inside low few free some ring =
    let us : List ℕ = set words (index n (barrier m place)) word in
    let here : place % n.ring ≡ place = no_turn_at n.ring place few in
    let t = put_appends n.ring (λ slot. word_at n words (barrier m slot))
    (λ slot. word_at n us (barrier m slot)) at place
    word low ring.others ring.next (ap (λ (x : ℕ). word_at n words (barrier m x)) here ∙ free) some (
      ap (λ (x : ℕ). word_at n us (barrier m x)) here ∙ word_same n words (barrier m place) word size (inside, few),
      λ slot l other. word_other n words (barrier m place) (barrier m slot) word (inside, few) (inside, l)
          (λ e. other (ap slot_of e ∙ sym here)),
    ) in
    record { others = t.1; next = t.2 ∙ risen n.ring place few }
