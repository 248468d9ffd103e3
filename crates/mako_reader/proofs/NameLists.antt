-- Lists of names, and the place of a name in one.
use Rattle.std.proofs.Common.{◌≡◌, ◌≢◌, ℕ, zero, suc, ◌+◌, ◌<◌, ◌≤◌, Bool, true, false, cond, not, ltb, ◌||◌, List, []}
use Rattle.std.proofs.Common.{◌∷◌, ◌++◌, length, map, get_or, Option, Some, None, refl, sym, ap, arith}
use Rattle.std.specs.Prelude.{string_bytes, String, is_some, unwrap_or}
use Rattle.std.specs.List.{position, position_or_len, prefix_len, list_all, list_any}
use Rattle.std.specs.Str.{bytes_eq, IsAscii, IsUtf8}
use Rattle.std.specs.String.{string_eq}
use Rattle.std.proofs.lemmas.Bool.{ltb-true, ltb-false}
use Rattle.std.proofs.lemmas.Bool.Decides.{nat_tests}
use Rattle.std.proofs.lemmas.List.{length-map}
use Rattle.std.proofs.lemmas.Str.{IsUtf8-from_ascii}
use Rattle.indexmap.specs.IndexSet.{IndexSet, insert_key}
use Rattle.std.proofs.lemmas.List.Quantifiers.{position-Some}
use Rattle.std.proofs.lemmas.Slice.Eq.{bytes_eq-Decides}
use Rattle.mako_text.specs.Names.{is_name, is_letter_or_digit, name_of, texts}
use Rattle.mako_reader.specs.Commands.{place_at}

-- letters and digits are text
ascii : (word : List ℕ) → list_all is_letter_or_digit word ≡ true → IsAscii word
ascii [] h i = omega arith
ascii (c ∷ cs) h zero = grind (arith, nat_tests)
ascii (c ∷ cs) h (suc i) = ascii cs (grind (arith, nat_tests)) i

pub is_text : (word : List ℕ) → is_name word ≡ true → IsUtf8 word
unfolding is_name
is_text word h = IsUtf8-from_ascii word (ascii word (grind (arith, nat_tests)))

prefix_len-map : {X Y : Type 0} (p : Y → Bool) (f : X → Y) (xs : List X)
    → prefix_len p (map f xs) ≡ prefix_len (λ x. p (f x)) xs
prefix_len-map p f [] = refl
prefix_len-map p f (x ∷ xs) = ap (λ (n : ℕ). cond (p (f x)) (1 + n) 0) (prefix_len-map p f xs)

-- a place among the keys is a place among their texts
pub place_in_texts : {Z S : Type 0} (names : IndexSet (String Z) S) (name : List ℕ)
    → position (bytes_eq name) (texts names) ≡ position (λ k. bytes_eq name (string_bytes k)) names.keys
place_in_texts names name =
    rw (prefix_len-map (λ w. not (bytes_eq name w)) string_bytes names.keys, length-map names.keys string_bytes) refl

pub length_texts : {Z S : Type 0} (names : IndexSet (String Z) S) → length (texts names) ≡ length names.keys
length_texts names = length-map names.keys string_bytes

placed_below : (b : Bool) (k n : ℕ) → (b ≡ true → k < n) → unwrap_or (cond b (Some k) None) n ≤ n
placed_below true k n h = omega (arith, h refl)
placed_below false k n h = omega arith

pub place_below : (names : List (List ℕ)) (name : List ℕ)
    → unwrap_or (place_at names name) (length names) ≤ length names
unfolding place_at
place_below names name =
    placed_below (ltb (position_or_len (bytes_eq name) names) (length names)) (position_or_len (bytes_eq name) names)
    (length names) (λ e. ltb-true _ _ e)

-- where none has a place, there is none
list_any-none : {X : Type 0} (p : X → Bool) (xs : List X) → length xs ≤ position_or_len p xs → list_any p xs ≡ false
list_any-none p [] h = refl
list_any-none {X} p (x ∷ xs) h =
    (elim (p x) as (λ (b : Bool). length (x ∷ xs) ≤ cond (not b) (1 + position_or_len p xs) 0
    → (b || list_any p xs) ≡ false) [
      | true ↦ λ k. absurd (omega arith)
      | false ↦ λ k. list_any-none p xs (omega arith)
    ]) h

not_placed : (b : Bool) (k : ℕ) → is_some (cond b (Some k) None) ≡ false → b ≡ false
not_placed true k e = absurd cc
not_placed false k e = refl

-- a key whose text is not there goes last
pub insert_new : {Z S : Type 0} (names : IndexSet (String Z) S) (key : String Z)
    → is_some (place_at (texts names) (string_bytes key)) ≡ false
    → insert_key string_eq names.keys key ≡ names.keys ++ key ∷ []
unfolding place_at
insert_new names key h =
    let e = rw (place_in_texts names (string_bytes key)) at h in
    let past = ltb-false _ _
    (not_placed (ltb (position_or_len (λ k. bytes_eq (string_bytes key) (string_bytes k)) names.keys)
    (length names.keys)) _ e) in
    rw (list_any-none (λ k. bytes_eq (string_bytes key) (string_bytes k)) names.keys past) refl

-- the place of a name has that name
pub place_takes : (names : List (List ℕ)) (name : List ℕ) (root : ℕ) → place_at names name ≡ Some root
    → (root < length names) × (name_of names root ≡ name)
unfolding place_at
place_takes names name root e =
    let h = position-Some (bytes_eq name) names root [] e in
    (h.0, sym ((bytes_eq-Decides name (get_or names root [])).0 h.1))

-- a name without a place is not there
pub no_place : (names : List (List ℕ)) (name : List ℕ) → place_at names name ≡ None
    → list_any (bytes_eq name) names ≡ false
unfolding place_at
no_place names name e =
    list_any-none (bytes_eq name) names
    (ltb-false _ _ (not_placed (ltb (position_or_len (bytes_eq name) names) (length names))
    (position_or_len (bytes_eq name) names) (ap is_some e)))

-- a name without a place differs from each
pub place_none : (names : List (List ℕ)) (name : List ℕ) → place_at names name ≡ None → (root : ℕ) → root < length names
    → name_of names root ≢ name
unfolding place_at
place_none names name e root below same =
    let none = no_place names name e in
    absurd (none_at (bytes_eq name) names root [] none below
    ((bytes_eq-Decides name (get_or names root [])).1 (sym same)))
  where
    none_at : {X : Type 0} (p : X → Bool) (xs : List X) (i : ℕ) (d : X) → list_any p xs ≡ false → i < length xs
        → p (get_or xs i d) ≡ true → ⊥
    none_at p [] i d none within at = omega arith
    none_at p (x ∷ xs) zero d none within at = grind (arith, nat_tests)
    none_at p (x ∷ xs) (suc i) d none within at = none_at p xs i d (grind (arith, nat_tests)) (omega arith) at

pub no_some : {X : Type 0} (o : Option X) → is_some o ≡ false → o ≡ None
no_some None e = refl
no_some (Some x) e = absurd cc
