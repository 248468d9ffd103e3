-- The pieces of a list between rising ends.
use Rattle.std.proofs.Common.{◌≡◌, ℕ, zero, suc, ◌+◌, ◌-◌, ◌<◌, ◌≤◌, List, [], ◌∷◌, ◌++◌, length, get_or, take, drop}
use Rattle.std.proofs.Common.{slice_get, Some, sum_by, vec_capacity, sym, ap, subst, refl, ◌∙◌, arith, length-append}
use Rattle.std.proofs.Common.{length-drop, length-take-le, take_all, zero-add, add-one}
use Rattle.std.proofs.Math.Seq.{drop-append_seam}
use Rattle.std.proofs.lemmas.List.{take-append-le, drop-append-le}
use Rattle.std.proofs.lemmas.List.Sums.{sum_by-cons}
use Rattle.mako_model.specs.declared.cycles.Cycles.TheInside.{Inside}
use Rattle.mako_model.specs.CycleLists.{pieces, start_of, lists_of, RiseTo, IsKept}

pub rise_le : (start : ℕ) (ends : List ℕ) (last : ℕ) → RiseTo start ends last → start ≤ last
rise_le start [] last rise = omega arith
rise_le start (end ∷ ends) last rise = let l = rise_le end ends last rise.1 in let r = rise.0 in omega arith

pub rise_push : (start : ℕ) (ends : List ℕ) (last more : ℕ) → RiseTo start ends last → last ≤ more
    → RiseTo start (ends ++ more ∷ []) more
rise_push start [] last more rise le = (omega arith, refl)
rise_push start (end ∷ ends) last more rise le = (rise.0, rise_push end ends last more rise.1 le)

-- behind the first piece, where the one before ends
pub start_behind : (start : ℕ) (ends : List ℕ) (i : ℕ) (d : ℕ) → i < length ends
    → start_of start ends (i + 1) ≡ get_or ends i d
start_behind start [] i d l = absurd (omega arith)
start_behind start (end ∷ ends) zero d l = refl
start_behind start (end ∷ ends) (suc i) d l = ap (start_of start (end ∷ ends)) (add-one (suc i))
    ∙ ap (start_of end ends) (sym (add-one i)) ∙ start_behind end ends i d (omega arith)

-- a piece ends within the list, and not before it begins
pub piece_bounds : (start : ℕ) (ends : List ℕ) (last i d : ℕ) → RiseTo start ends last → i < length ends
    → (start_of start ends i ≤ get_or ends i d) × (get_or ends i d ≤ last)
piece_bounds start [] last i d rise l = absurd (omega arith)
piece_bounds start (end ∷ ends) last zero d rise l = (rise.0, rise_le end ends last rise.1)
piece_bounds start (end ∷ ends) last (suc i) d rise l = piece_bounds end ends last i d rise.1 (omega arith)

module _ {A : Type 0} where
  -- one piece more
  pub pieces_push : (xs ys : List A) (start : ℕ) (ends : List ℕ) → RiseTo start ends (length xs)
      → pieces (xs ++ ys) start (ends ++ (length xs + length ys) ∷ []) ≡ pieces xs start ends ++ ys ∷ []
  pieces_push xs ys start [] rise =
      ap (λ (zs : List A). zs ∷ []) (
      ap (λ (n : ℕ). take (length xs + length ys - n) (drop n (xs ++ ys))) rise
      ∙ ap (λ (zs : List A). take (length xs + length ys - length xs) zs) (drop-append_seam xs ys)
      ∙ take_all _ ys (omega arith))
  pieces_push xs ys start (end ∷ ends) rise =
      let le = rise_le end ends (length xs) rise.1 in
      let first : start ≤ end = rise.0 in
      let head : take (end - start) (drop start (xs ++ ys)) ≡ take (end - start) (drop start xs) =
      ap (take (end - start)) (drop-append-le start xs ys (omega arith))
      ∙ take-append-le (end - start) (drop start xs) ys (omega (arith, length-drop start xs)) in
      λ i. head i ∷ pieces_push xs ys end ends rise.1 i

  pub pieces_total : (xs : List A) (start : ℕ) (ends : List ℕ) → RiseTo start ends (length xs)
      → sum_by length (pieces xs start ends) + start ≡ length xs
  pieces_total xs start [] rise = zero-add start ∙ rise
  pieces_total xs start (end ∷ ends) rise =
      let le = rise_le end ends (length xs) rise.1 in
      let first : start ≤ end = rise.0 in
      let more = pieces_total xs end ends rise.1 in
      let cons = sum_by-cons (length {A = A}) (take (end - start) (drop start xs)) (pieces xs end ends) in
      let one : length (take (end - start) (drop start xs)) ≡ end - start =
      length-take-le (end - start) (drop start xs) (omega (arith, length-drop start xs)) in
      omega (arith, cons, one, more)

  pub pieces_length : (xs : List A) (start : ℕ) (ends : List ℕ) → length (pieces xs start ends) ≡ length ends
  pieces_length xs start [] = refl
  pieces_length xs start (end ∷ ends) = ap suc (pieces_length xs end ends)

  pub pieces_at : (xs : List A) (start : ℕ) (ends : List ℕ) (i d : ℕ) → i < length ends
      → slice_get (pieces xs start ends) i ≡ Some
      (take (get_or ends i d - start_of start ends i) (drop (start_of start ends i) xs))
  pieces_at xs start [] i d l = absurd (omega arith)
  pieces_at xs start (end ∷ ends) zero d l = refl
  pieces_at xs start (end ∷ ends) (suc i) d l = pieces_at xs end ends i d (omega arith)

-- there is room for what the contract of `push` lets in
pub room_left : (c : Inside) (n : ℕ) → IsKept c → sum_by length (lists_of c).lists + n ≤ c.names_room
    → length c.names.items + n ≤ vec_capacity c.names
room_left c n kept room = let total = pieces_total c.names.items 0 c.ends.items kept.rise in let has = kept.names in
    omega arith

pub cycle_left : (c : Inside) → IsKept c → length (lists_of c).lists < c.cycles_room
    → length c.ends.items < vec_capacity c.ends
cycle_left c kept room = let same = pieces_length c.names.items 0 c.ends.items in let has = kept.cycles in omega arith

module _ {A : Type 0} where
  -- the same, where what the lists became is known by equations
  pub rise_pushed : (xs ys xs' : List A) (ends ends' : List ℕ) → RiseTo 0 ends (length xs) → xs' ≡ xs ++ ys
      → ends' ≡ ends ++ (length xs + length ys) ∷ [] → RiseTo 0 ends' (length xs')
  rise_pushed xs ys xs' ends ends' rise names are =
      let long : length xs + length ys ≡ length xs' = sym (ap length names ∙ length-append xs ys) in
      subst (λ es. RiseTo 0 es (length xs')) (sym are) (subst (λ n. RiseTo 0 (ends ++ n ∷ []) (length xs')) (sym long)
      (rise_push 0 ends (length xs) (length xs') rise (omega arith)))

  pub pieces_pushed : (xs ys xs' : List A) (ends ends' : List ℕ) → RiseTo 0 ends (length xs) → xs' ≡ xs ++ ys
      → ends' ≡ ends ++ (length xs + length ys) ∷ [] → pieces xs' 0 ends' ≡ pieces xs 0 ends ++ ys ∷ []
  pieces_pushed xs ys xs' ends ends' rise names are =
      ap (λ zs. pieces zs 0 ends') names ∙ ap (pieces (xs ++ ys) 0) are ∙ pieces_push xs ys 0 ends rise

  -- a piece by its bounds
  pub piece_is : (xs : List A) (ends : List ℕ) (i start end : ℕ) → i < length ends → start ≡ start_of 0 ends i
      → end ≡ get_or ends i 0 → slice_get (pieces xs 0 ends) i ≡ Some (take (end - start) (drop start xs))
  piece_is xs ends i start end l from to =
      pieces_at xs 0 ends i 0 l ∙ ap (λ n. Some (take (n - start_of 0 ends i) (drop (start_of 0 ends i) xs))) (sym to)
      ∙ ap (λ n. Some (take (end - n) (drop n xs))) (sym from)
