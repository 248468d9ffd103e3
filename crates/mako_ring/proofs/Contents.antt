-- The content of a ring.
use Rattle.std.proofs.Common.{◌≡◌, ◌≢◌, ℕ, zero, suc, ◌+◌, ◌%◌, ◌<◌, ◌≤◌, inl, inr, List, [], ◌∷◌, ◌++◌, length, get_or}
use Rattle.std.proofs.Common.{refl, sym, ap, subst, ◌∙◌, arith}
use Rattle.std.proofs.lemmas.List.{get_or_append_left, get_or_at, length_push}
use Rattle.std.proofs.lemmas.Bool.{cases_lt}
use Rattle.mako_ring.specs.Contents.{ahead, content_within, content, OthersEmpty, after_place, SlotWritten, PutAppends}
use Rattle.mako_ring.specs.Contents.{TakeRemovesTheFirst}
use Rattle.std.proofs.lemmas.Bool.Decides.{nat_tests}
use Rattle.mako_ring.proofs.Turns.{turned, place_below, apart, no_turn, full_turn, next_after, positive}

-- the names stand in the next slots, and the slot behind them is 0 where it is one of so many
pub record Prefix (left size : ℕ) (slot : ℕ → ℕ) (at : ℕ) (names : List ℕ) : Type 0 where
  pub few : length names ≤ left
  pub filled : (j : ℕ) → j < length names → (slot ((at + j) % size) ≡ get_or names j 0) × (0 < get_or names j 0)
  pub stop : length names < left → slot ((at + length names) % size) ≡ 0

module _ (size : ℕ) (slot : ℕ → ℕ) where
  place_on : (at j : ℕ) → slot ((at + 1 + j) % size) ≡ slot ((at + suc j) % size)
  place_on at j = let e : at + 1 + j ≡ at + suc j = omega arith in ap (λ (k : ℕ). slot (k % size)) e

  place_here : (at : ℕ) → slot ((at + 0) % size) ≡ slot (at % size)
  place_here at = let e : at + 0 ≡ at = omega arith in ap (λ (k : ℕ). slot (k % size)) e

  ahead_is_prefix : (left at w : ℕ) (rest : List ℕ) → slot (at % size) ≡ w → Prefix left size slot (at + 1) rest
      → Prefix (suc left) size slot at (ahead w rest)
  ahead_is_prefix left at zero rest e p = record {
    few = omega arith;
    filled = λ j h. absurd (omega arith);
    stop = λ h. place_here at ∙ e;
  }
  ahead_is_prefix left at (suc w) rest e p = record {
    few = (let f = p.few in omega arith);
    filled = filled_at;
    stop = λ h. sym (place_on at (length rest)) ∙ p.stop (omega arith);
  }
    where
      filled_at : (j : ℕ) → j < length (suc w ∷ rest) → (slot ((at + j) % size) ≡ get_or (suc w ∷ rest) j 0)
          × (0 < get_or (suc w ∷ rest) j 0)
      filled_at zero h = (place_here at ∙ e, omega arith)
      filled_at (suc j) h = let f = p.filled j (omega arith) in (sym (place_on at j) ∙ f.0, f.1)

  -- so is the content
  within_is_prefix : (left at : ℕ) → Prefix left size slot at (content_within left size slot at)
  within_is_prefix zero at = record {
    few = omega arith;
    filled = λ j h. absurd (omega arith);
    stop = λ h. absurd (omega arith);
  }
  within_is_prefix (suc left) at =
      ahead_is_prefix left at (slot (at % size)) (content_within left size slot (at + 1)) refl
      (within_is_prefix left (at + 1))

  ahead_filled : (w : ℕ) (rest : List ℕ) → 0 < w → ahead w rest ≡ w ∷ rest
  ahead_filled zero rest h = absurd (omega arith)
  ahead_filled (suc w) rest h = refl

  -- and there is no other
  pub prefix_is_within : (left at : ℕ) (names : List ℕ) → Prefix left size slot at names
      → content_within left size slot at ≡ names
  prefix_is_within zero at [] p = refl
  prefix_is_within zero at (x ∷ names) p = absurd (let f = p.few in omega arith)
  prefix_is_within (suc left) at [] p =
      ap (λ (w : ℕ). ahead w (content_within left size slot (at + 1))) (sym (place_here at) ∙ p.stop (omega arith))
  prefix_is_within (suc left) at (x ∷ names) p =
      let first = p.filled 0 (omega arith) in
      let more : content_within left size slot (at + 1) ≡ names = prefix_is_within left (at + 1) names (record {
        few = (let f = p.few in omega arith);
        filled = λ j h. let f = p.filled (suc j) (omega arith) in (place_on at j ∙ f.0, f.1);
        stop = λ h. place_on at (length names) ∙ p.stop (omega arith);
      }) in
      (λ i. ahead ((sym (place_here at) ∙ first.0) i) (more i)) ∙ ahead_filled x names first.1

  pub content_prefix : (at : ℕ) → Prefix size size slot at (content size slot at)
  content_prefix at = within_is_prefix size at

-- the names are all that stands in the ring
pub record Holds (size : ℕ) (slot : ℕ → ℕ) (at : ℕ) (names : List ℕ) : Type 0 where
  pub few : length names ≤ size
  pub filled : (j : ℕ) → j < length names → (slot ((at + j) % size) ≡ get_or names j 0) × (0 < get_or names j 0)
  pub empty : (j : ℕ) → length names ≤ j → j < size → slot ((at + j) % size) ≡ 0

pub content_holds : (size : ℕ) (slot : ℕ → ℕ) (at : ℕ) → OthersEmpty size slot at
    → Holds size slot at (content size slot at)
content_holds size slot at others = let p = content_prefix size slot at in
    record { few = p.few; filled = p.filled; empty = others.rest }

pub holds_content : (size : ℕ) (slot : ℕ → ℕ) (at : ℕ) (names : List ℕ) → Holds size slot at names
    → content size slot at ≡ names
holds_content size slot at names h =
    prefix_is_within size slot size at names (record {
      few = h.few;
      filled = h.filled;
      stop = λ l. h.empty (length names) (omega arith) l;
    })

pub holds_others : (size : ℕ) (slot : ℕ → ℕ) (at : ℕ) (names : List ℕ) → Holds size slot at names
    → OthersEmpty size slot at
holds_others size slot at names h =
    record {
      rest = subst (λ (l : List ℕ). (j : ℕ) → length l ≤ j → j < size
          → slot ((at + j) % size) ≡ 0) (sym (holds_content size slot at names h)) h.empty;
    }

module _ (size : ℕ) (slot after : ℕ → ℕ) (at : ℕ) (a : at < size) where
  -- a ring with an empty slot behind its content is not full
  pub room : (names : List ℕ) → Holds size slot at names → slot ((at + length names) % size) ≡ 0 → length names < size
  room names ring free = elim (cases_lt (length names) size) [
    | inl low ↦ low
    | inr high ↦
        let few = ring.few in
        let e : length names ≡ size = omega arith in
        let first = ring.filled 0 (omega arith) in
        let z : slot ((at + size) % size) ≡ 0 = subst (λ (k : ℕ). slot ((at + k) % size) ≡ 0) e free in
        let back : (at + size) % size ≡ (at + 0) % size = full_turn size at a ∙ sym (no_turn size at a) in
        let t : slot ((at + 0) % size) ≡ 0 = sym (ap slot back) ∙ z in
        absurd (let f = first.0 in let p = first.1 in omega arith)
  ]

  put : (names : List ℕ) (x : ℕ) → Holds size slot at names → 0 < x → slot ((at + length names) % size) ≡ 0
      → SlotWritten size slot after ((at + length names) % size) x → Holds size after at (names ++ x ∷ [])
  put names x ring px free written = record {
    few = (let l = length_push names x in let r = inside in omega arith);
    filled = λ j h. elim (cases_lt j (length names)) [
      | inl m ↦
          let f = ring.filled j m in let g = get_or_append_left names (x ∷ []) 0 j m in
          let e = written.1 ((at + j) % size) (place_below size (at + j) (omega arith))
          (λ d. apart size at j (length names) a m inside d) in
          (e ∙ f.0 ∙ sym g, rw g f.1)
      | inr m ↦
          let l = length_push names x in let e : j ≡ length names = omega arith in
          let g = get_or_at names x [] 0 j (sym e) in
          (subst (λ (k : ℕ). after ((at + k) % size) ≡ x) (sym e) written.0 ∙ sym g, rw g px)
    ];
    empty = λ j h k. let l = length_push names x in
        written.1 ((at + j) % size) (place_below size (at + j) (omega arith))
        (λ d. apart size at (length names) j a (omega arith) k (sym d)) ∙ ring.empty j (omega arith) k;
  }
    where
      inside : length names < size
      inside = room names ring free

  -- the place behind
  pub behind : (at' j : ℕ) → at' ≡ after_place size at → j < size → (at' + j) % size ≡ (at + suc j) % size
  behind at' j e h = grind (arith, nat_tests, turned size (at' + j), turned size (at + suc j))

  take : (x : ℕ) (names : List ℕ) → Holds size slot at (x ∷ names) → SlotWritten size slot after at 0
      → Holds size after (after_place size at) names
  take x names ring written = record {
    few = (let f = ring.few in omega arith);
    filled = λ j h. let few = ring.few in let f = ring.filled (suc j) (omega arith) in
        (moved j (omega arith) ∙ f.0, f.1);
    empty = λ j h k. elim (cases_lt (suc j) size) [
      | inl m ↦ moved j m ∙ ring.empty (suc j) (omega arith) m
      | inr m ↦ let e : suc j ≡ size = omega arith in
          ap after (behind (after_place size at) j refl k ∙ ap (λ (n : ℕ). (at + n) % size) e ∙ full_turn size at a)
          ∙ written.0
    ];
  }
    where
      moved : (j : ℕ) → suc j < size → after ((after_place size at + j) % size) ≡ slot ((at + suc j) % size)
      moved j h =
          ap after (behind (after_place size at) j refl (omega arith))
          ∙ written.1 ((at + suc j) % size) (place_below size (at + suc j) (omega arith))
          (λ d. apart size at 0 (suc j) a (omega arith) h (no_turn size at a ∙ sym d))

pub put_appends : PutAppends
put_appends size slot after at next x a others place free filled written =
    let ring = content_holds size slot at others in
    let c : List ℕ = content size slot at in
    let px : 0 < x = positive x filled in
    let empty : slot ((at + length c) % size) ≡ 0 = ap slot place ∙ free in
    let inside : length c < size = room size slot after at a c ring empty in
    let more : Holds size after at (c ++ x ∷ []) =
    put size slot after at a c x ring px empty
    (subst (λ (k : ℕ). SlotWritten size slot after k x) (sym place) written) in
    let e : content size after at ≡ c ++ x ∷ [] = holds_content size after at (c ++ x ∷ []) more in
    let l : length (content size after at) ≡ length c + 1 = ap length e ∙ length_push c x in
    let sum : at + (length c + 1) ≡ at + length c + 1 = omega arith in (
      e,
      holds_others size after at (c ++ x ∷ []) more,
      ap (λ (k : ℕ). (at + k) % size) l ∙ ap (λ (k : ℕ). k % size) sum
          ∙ next_after size (at + length c) next place,
    )

-- a ring with a filled slot at its taker's place holds that word first
pub first_is : (size : ℕ) (slot : ℕ → ℕ) (at : ℕ) → at < size → (names : List ℕ) → Holds size slot at names
    → slot at ≢ 0 → (rest : List ℕ) × (names ≡ slot at ∷ rest)
first_is size slot at a [] ring filled =
    absurd (filled (sym (ap slot (no_turn size at a)) ∙ ring.empty 0 (omega arith) (omega arith)))
first_is size slot at a (x ∷ rest) ring filled =
    (rest, λ i. (sym (ring.filled 0 (omega arith)).0 ∙ ap slot (no_turn size at a)) i ∷ rest)

pub take_removes_the_first : TakeRemovesTheFirst
take_removes_the_first size slot after at next a others place filled written =
    let ring : Holds size slot at (content size slot at) = content_holds size slot at others in
    let first : (rest : List ℕ)
    × (content size slot at ≡ slot at ∷ rest) = first_is size slot at a (content size slot at) ring filled in
    let rest : List ℕ = first.0 in
    let whole : Holds size slot at (slot at ∷ rest) = subst (λ (l : List ℕ). Holds size slot at l) first.1 ring in
    let more : Holds size after (after_place size at) rest = take size slot after at a (slot at) rest whole written in
    let e : content size after (after_place size at) ≡ rest =
    holds_content size after (after_place size at) rest more in
    let inside : length rest < size = (let few = whole.few in omega arith) in (
      first.1 ∙ (λ i. slot at ∷ sym e i),
      holds_others size after (after_place size at) rest more,
      ap (λ (l : List ℕ). (after_place size at + length l) % size) e
          ∙ behind size slot after at a (after_place size at) (length rest) refl inside
          ∙ ap (λ (l : List ℕ). (at + length l) % size) (sym first.1) ∙ place,
    )
