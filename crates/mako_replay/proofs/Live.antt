-- The seats that are not at their end.
use Rattle.std.proofs.Common.{◌≡◌, ◌≢◌, ℕ, zero, suc, ◌+◌, ◌<◌, ◌≤◌, Bool, true, false, if◌then◌else◌, List, [], ◌∷◌}
use Rattle.std.proofs.Common.{◌++◌, length, take, remove, get_or, slice_get, slice_set, Some, None, nat_le, ◌↔◌, inl}
use Rattle.std.proofs.Common.{inr, le_of_eq, le_of_lt, append-nil, length-take-le, refl, sym, ap, ◌∙◌, subst, arith}
use Rattle.std.proofs.lemmas.Bool.Decides.{leb_tells}
use Rattle.std.proofs.lemmas.Option.{slice_get_cases}
use Rattle.mako_shape.specs.declared.numbers.Numbers.{Numbers}
use Rattle.mako_mutator.specs.declared.place.Place.{Place}
use Rattle.mako_mutator.specs.declared.place.Place.TheVariants.{Before, Within, Serving, Ended}
use Rattle.mako_seat.specs.Seats.{place_of}
use Rattle.mako_seat.specs.declared.seat.Seat.{Seat}
use Rattle.mako_core.specs.Endings.{AllAtEnd}
use Rattle.mako_replay.specs.Runs.{is_end, live, live_from, AreAllAtEnd}
use Rattle.mako_replay.specs.Standing.{AscendsFrom}
use Rattle.mako_replay.proofs.Places.{above}

pub ended : (p : Place) → is_end p ≡ true → p ≡ Ended
ended (Before done) e = absurd cc
ended (Within done) e = absurd cc
ended Serving e = absurd cc
ended Ended e = refl

pub not_ended : (p : Place) → is_end p ≡ false → p ≢ Ended
not_ended p e is = absurd (let same : is_end p ≡ true = ap is_end is in cc)

-- ---- their numbers ascend

lower : (a b : ℕ) (xs : List ℕ) → a ≤ b → AscendsFrom b xs → AscendsFrom a xs
lower a b [] h up = tt
lower a b (x ∷ xs) h up = (let u = up.0 in omega arith, up.1)

ascends_by : (b : ℕ) (e : Bool) (xs : List ℕ) → AscendsFrom (b + 1) xs → AscendsFrom b (if e then xs else b ∷ xs)
ascends_by b true xs up = lower b (b + 1) xs (omega arith) up
ascends_by b false xs up = (omega arith, up)

pub ascends : (b : ℕ) (seats : List Seat) → AscendsFrom b (live_from b seats)
ascends b [] = tt
ascends b (v ∷ seats) = ascends_by b (is_end (place_of v)) (live_from (b + 1) seats) (ascends (b + 1) seats)

-- ---- they are the seats that are not at their end

-- the number, counted from b on, is of a seat that is not at its end
pub record Found (b : ℕ) (seats : List Seat) (x : ℕ) : Type 0 where
  pub at : ℕ
  pub seat : Seat
  pub is : x ≡ b + at
  pub there : slice_get seats at ≡ Some seat
  pub live : is_end (place_of seat) ≡ false

found_later : (b : ℕ) (v : Seat) (seats : List Seat) (x : ℕ) → Found (b + 1) seats x → Found b (v ∷ seats) x
found_later b v seats x f = record {
  at = suc f.at;
  seat = f.seat;
  is = let e = f.is in omega arith;
  there = f.there;
  live = f.live;
}

found_by : (b : ℕ) (v : Seat) (seats : List Seat) (e : Bool) (xs : List ℕ) (p : ℕ) → is_end (place_of v) ≡ e
    → ((q : ℕ) → q < length xs → Found (b + 1) seats (get_or xs q 0))
    → p < length (if e then xs else b ∷ xs) → Found b (v ∷ seats) (get_or (if e then xs else b ∷ xs) p 0)
found_by b v seats true xs p is later low = found_later b v seats (get_or xs p 0) (later p low)
found_by b v seats false xs zero is later low = record { at = 0; seat = v; is = omega arith; there = refl; live = is }
found_by b v seats false xs (suc p) is later low = found_later b v seats (get_or xs p 0) (later p (omega arith))

pub found : (b : ℕ) (seats : List Seat) (p : ℕ) → p < length (live_from b seats)
    → Found b seats (get_or (live_from b seats) p 0)
found b [] p low = absurd (omega arith)
found b (v ∷ seats) p low =
    found_by b v seats (is_end (place_of v)) (live_from (b + 1) seats) p refl (found (b + 1) seats) low

-- the number stands at this place
pub record Kept (xs : List ℕ) (x : ℕ) : Type 0 where
  pub at : ℕ
  pub within : at < length xs
  pub is : get_or xs at 0 ≡ x

kept_by : (b : ℕ) (e : Bool) (xs : List ℕ) (x : ℕ) → Kept xs x → Kept (if e then xs else b ∷ xs) x
kept_by b true xs x k = k
kept_by b false xs x k = record { at = suc k.at; within = let w = k.within in omega arith; is = k.is }

kept_first : (b : ℕ) (e : Bool) (xs : List ℕ) → e ≡ false → Kept (if e then xs else b ∷ xs) b
kept_first b true xs is = absurd cc
kept_first b false xs is = record { at = 0; within = omega arith; is = refl }

pub kept : (b : ℕ) (seats : List Seat) (i : ℕ) (v : Seat) → slice_get seats i ≡ Some v → is_end (place_of v) ≡ false
    → Kept (live_from b seats) (b + i)
kept b [] i v there live = absurd cc
kept b (u ∷ seats) zero v there live =
    let same : u ≡ v = cc in
    let none : b ≡ b + 0 = omega arith in
    subst (Kept (live_from b (u ∷ seats))) none
    (kept_first b (is_end (place_of u)) (live_from (b + 1) seats) (ap (λ (s : Seat). is_end (place_of s)) same ∙ live))
kept b (u ∷ seats) (suc i) v there live =
    let one : b + 1 + i ≡ b + suc i = omega arith in
    subst (Kept (live_from b (u ∷ seats))) one
    (kept_by b (is_end (place_of u)) (live_from (b + 1) seats) (b + 1 + i) (kept (b + 1) seats i v there live))

-- a seat below the first of them is at its end
pub passed : (b : ℕ) (seats : List Seat) (x i : ℕ) (v : Seat) → AscendsFrom x (live_from b seats) → b + i < x
    → slice_get seats i ≡ Some v → place_of v ≡ Ended
passed b seats x i v up low there = by (is_end (place_of v)) refl
  where
    by : (e : Bool) → is_end (place_of v) ≡ e → place_of v ≡ Ended
    by true is = ended (place_of v) is
    by false is =
        let k = kept b seats i v there is in
        let h = above x (live_from b seats) k.at up k.within in
        let e = k.is in
        absurd (omega arith)

pub all_passed : (b : ℕ) (seats : List Seat) → live_from b seats ≡ [] → AreAllAtEnd seats
all_passed b seats none i v there =
    passed b seats (b + i + 1) i v (subst (AscendsFrom (b + i + 1)) (sym none) tt) (omega arith) there

-- ---- one seat changes

at_zero : (b : ℕ) (e f : Bool) (xs : List ℕ) (p : ℕ) → AscendsFrom (b + 1) xs → p < length (if e then xs else b ∷ xs)
    → get_or (if e then xs else b ∷ xs) p 0 ≡ b + 0
    → (if f then xs else b ∷ xs) ≡ (if f then remove (if e then xs else b ∷ xs) p else (if e then xs else b ∷ xs))
at_zero b true f xs p up low is = absurd (let h = above (b + 1) xs p up low in omega arith)
at_zero b false true xs zero up low is = refl
at_zero b false false xs zero up low is = refl
at_zero b false f xs (suc p) up low is = absurd (let h = above (b + 1) xs p up (omega arith) in omega arith)

behind_first : (b : ℕ) (f : Bool) (xs ys : List ℕ) (p : ℕ) → ys ≡ (if f then remove xs p else xs)
    → b ∷ ys ≡ (if f then remove (b ∷ xs) (suc p) else (b ∷ xs))
behind_first b true xs ys p is = ap (λ (zs : List ℕ). b ∷ zs) is
behind_first b false xs ys p is = ap (λ (zs : List ℕ). b ∷ zs) is

at_later : (b j : ℕ) (e f : Bool) (xs ys : List ℕ) (p : ℕ) → AscendsFrom (b + 1) xs
    → ((q : ℕ) → q < length xs → get_or xs q 0 ≡ b + 1 + j → ys ≡ (if f then remove xs q else xs))
    → p < length (if e then xs else b ∷ xs) → get_or (if e then xs else b ∷ xs) p 0 ≡ b + suc j
    → (if e then ys else b ∷ ys) ≡ (if f then remove (if e then xs else b ∷ xs) p else (if e then xs else b ∷ xs))
at_later b j true f xs ys p up later low is = later p low (omega arith)
at_later b j false f xs ys zero up later low is = absurd (omega arith)
at_later b j false f xs ys (suc p) up later low is = behind_first b f xs ys p (later p (omega arith) (omega arith))

-- the seat of the number at p is another: the number goes if that one is at its end
pub set_live : (b : ℕ) (seats : List Seat) (p j : ℕ) (v : Seat) → p < length (live_from b seats)
    → get_or (live_from b seats) p 0 ≡ b + j
    → live_from b (slice_set seats j v) ≡ (if is_end (place_of v) then remove
    (live_from b seats) p else live_from b seats)
set_live b [] p j v low is = absurd (omega arith)
set_live b (u ∷ seats) p zero v low is =
    at_zero b (is_end (place_of u)) (is_end (place_of v)) (live_from (b + 1) seats) p (ascends (b + 1) seats) low is
set_live b (u ∷ seats) p (suc j) v low is =
    at_later b j (is_end (place_of u)) (is_end (place_of v)) (live_from (b + 1) seats)
    (live_from (b + 1) (slice_set seats j v)) p
    (ascends (b + 1) seats) (λ q. set_live (b + 1) seats q j v) low is

-- ---- one seat more

push_by : (b n : ℕ) (e f : Bool) (xs ys : List ℕ) → ys ≡ xs ++ (if f then [] else (b + 1 + n) ∷ [])
    → (if e then ys else b ∷ ys) ≡ (if e then xs else b ∷ xs) ++ (if f then [] else (b + suc n) ∷ [])
push_by b n true f xs ys is = is ∙ ap (λ (k : ℕ). xs ++ (if f then [] else k ∷ [])) (omega arith)
push_by b n false f xs ys is =
    let same : b + 1 + n ≡ b + suc n = omega arith in
    ap (λ (zs : List ℕ). b ∷ zs) (is ∙ ap (λ (k : ℕ). xs ++ (if f then [] else k ∷ [])) same)

one_by : (b : ℕ) (f : Bool) → (if f then [] else b ∷ []) ≡ [] ++ (if f then [] else (b + 0) ∷ [])
one_by b true = refl
one_by b false = ap (λ (k : ℕ). k ∷ []) (omega arith)

pub push_live : (b : ℕ) (seats : List Seat) (v : Seat)
    → live_from b (seats ++ v ∷ []) ≡ live_from b seats ++ (if is_end (place_of v) then [] else (b + length seats) ∷ [])
push_live b [] v = one_by b (is_end (place_of v))
push_live b (u ∷ seats) v =
    push_by b (length seats) (is_end (place_of u)) (is_end (place_of v)) (live_from (b + 1) seats)
    (live_from (b + 1) (seats ++ v ∷ [])) (push_live (b + 1) seats v)

pub take_one_more : {A : Type 0} (xs : List A) (i : ℕ) (x : A) → slice_get xs i ≡ Some x
    → take (i + 1) xs ≡ take i xs ++ x ∷ []
take_one_more {A} xs i x there =
    let one : suc i ≡ i + 1 = omega arith in
    subst (λ (k : ℕ). take k xs ≡ take i xs ++ x ∷ []) one (at xs i there)
  where
    at : (ys : List A) (j : ℕ) → slice_get ys j ≡ Some x → take (suc j) ys ≡ take j ys ++ x ∷ []
    at [] j there = absurd cc
    at (y ∷ ys) zero there = let same : y ≡ x = cc in ap (λ (z : A). z ∷ []) same
    at (y ∷ ys) (suc j) there = ap (λ (zs : List A). y ∷ zs) (at ys j there)

pub set_read : {A : Type 0} (xs : List A) (i : ℕ) (x : A) → i < length xs → slice_get (slice_set xs i x) i ≡ Some x
set_read [] i x low = absurd (omega arith)
set_read (y ∷ ys) zero x low = refl
set_read (y ∷ ys) (suc i) x low = set_read ys i x (omega arith)

pub set_same : {A : Type 0} (xs : List A) (i : ℕ) (x : A) → slice_get xs i ≡ Some x → slice_set xs i x ≡ xs
set_same [] i x there = refl
set_same {A} (y ∷ ys) zero x there = let same : x ≡ y = cc in ap (λ (z : A). z ∷ ys) same
set_same {A} (y ∷ ys) (suc i) x there = ap (λ (zs : List A). y ∷ zs) (set_same ys i x there)

-- ---- the first of them

first_none : (xs : List ℕ) → None ≡ slice_get xs 0 → xs ≡ []
first_none [] is = refl
first_none (x ∷ xs) is = absurd cc

first_some : (b : ℕ) (xs : List ℕ) (x : ℕ) → AscendsFrom b xs → Some x ≡ slice_get xs 0 → AscendsFrom x xs
    × (0 < length xs) × (x ≡ get_or xs 0 0)
first_some b [] x up is = absurd cc
first_some b (y ∷ xs) x up is = let same : x ≡ y = cc in ((le_of_eq same, up.1), omega arith, same)

-- where there is none, every mutator is at its end
pub none_tells : (n : Numbers) (seats : List Seat) → None ≡ slice_get (live seats) 0 → true ≡ true ↔ AllAtEnd n seats
none_tells n seats none =
    (λ yes_ m v low there. all_passed 0 seats (first_none (live seats) none) m v there, λ all. refl)

-- and where there is a first, if it is behind the mutators
pub first_tells : (n : Numbers) (seats : List Seat) (x : ℕ) → Some x ≡ slice_get (live seats) 0
    → (nat_le n.mutators x ≡ true) ↔ AllAtEnd n seats
first_tells n seats x first = elim (leb_tells n.mutators x) [
  | inl t ↦ (λ yes_ m v low there. passed 0 seats x m v up.0 (let l = t.1 in omega arith) there, λ all. t.0)
  | inr t ↦ (
    λ yes_. absurd (let no_ = t.0 in cc),
    λ all. absurd (
        let f = found 0 seats 0 up.1 in
        let i = f.is in
        let e = up.2 in
        let l = t.1 in
        not_ended (place_of f.seat) f.live (all f.at f.seat (omega arith) f.there)),
  )
]
  where
    up : AscendsFrom x (live seats) × (0 < length (live seats)) × (x ≡ get_or (live seats) 0 0)
    up = first_some 0 (live seats) x (ascends 0 seats) first

-- ---- one seat more is looked at

more_by : (b : ℕ) (e f : Bool) (xs ys : List ℕ) → e ≡ f → ys ≡ (if e then xs else xs ++ b ∷ [])
    → ys ≡ xs ++ (if f then [] else b ∷ [])
more_by b true true xs ys same is = is ∙ sym (append-nil xs)
more_by b true false xs ys same is = absurd cc
more_by b false true xs ys same is = absurd cc
more_by b false false xs ys same is = is

pub one_more : (seats : List Seat) (i : ℕ) (xs ys : List ℕ) (e : Bool) → i < length seats → xs ≡ live (take i seats)
    → ((v : Seat) → slice_get seats i ≡ Some v → e ≡ is_end (place_of v))
    → ys ≡ (if e then xs else xs ++ i ∷ []) → ys ≡ live (take (i + 1) seats)
one_more seats i xs ys e low is tells more = elim (slice_get_cases seats i).1 [
  | inl t ↦
      let v = t.0 in
      let there : slice_get seats i ≡ Some v = t.2 in
      let all : length (take i seats) ≡ i = length-take-le i seats (le_of_lt low) in
      let number : i ≡ 0 + length (take i seats) = omega arith in
      more_by i e (is_end (place_of v)) xs ys (tells v there) more
      ∙ ap (λ (zs : List ℕ). zs ++ (if is_end (place_of v) then [] else i ∷ [])) is
      ∙ ap (λ (k : ℕ). live (take i seats) ++ (if is_end (place_of v) then [] else k ∷ [])) number
      ∙ sym (push_live 0 (take i seats) v)
      ∙ ap live (sym (take_one_more seats i v there))
  | inr t ↦ absurd (let past = t.0 in omega arith)
]
