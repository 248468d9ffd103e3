-- The words at the start, place by place.
use Rattle.std.proofs.Common.{◌≡◌, ◌≢◌, ℕ, zero, suc, ◌+◌, ◌*◌, ◌<◌, ◌≤◌, ◌⊎◌, ⊎_elim, inl, inr, ◌==◌, cond, List, []}
use Rattle.std.proofs.Common.{◌∷◌, ◌++◌, length, set, replicate, get_or, ne_eqb, sym, ap, subst, refl, ◌∙◌, arith}
use Rattle.std.proofs.Common.{length-set}
use Rattle.std.proofs.lemmas.Bool.{cases_eq}
use Rattle.std.proofs.lemmas.List.{length-replicate}
use Rattle.mako_words.specs.Names.{name_word}
use Rattle.mako_words.specs.Entries.{entry_word}
use Rattle.mako_shape.specs.declared.numbers.Numbers.{Numbers}
use Rattle.mako_shape.specs.Limits.{IsShape, EachInRange, tested}
use Rattle.mako_shape.specs.Places.{Place, phase, demand, finished, mutator_gate, root, barrier, flags, work, ghost}
use Rattle.mako_shape.specs.Places.{notice, tablet_gate, turn, home, top, leaving, live, entry, region_word, index}
use Rattle.mako_shape.specs.Places.{total, Within, word_at}
use Rattle.mako_shape.proofs.PlaceLaws.{one_place, word_same, word_other}
use Rattle.mako_shape.proofs.Rows.{row-below}
use Rattle.mako_model.specs.Heaps.{board_name}
use Rattle.mako_gate.specs.Changes.{tablets_of}
use Rattle.mako_layout.specs.Layouts.{entries_of, regions_of}
use Rattle.mako_layout.specs.Openings.{board_entry, opening_words}
use Rattle.mako_state.specs.Openings.{Placed, board_roots, first_homes, board_places, opening_places, written}
use Rattle.mako_state.specs.Openings.{words_at_start}

-- ---- writes that agree with one function of places

-- the place is among those that are written
abbrev IsAmong : Place → List Placed → Type 0
IsAmong r [] = ⊥
IsAmong r (p ∷ ps) = (p.place ≡ r) ⊎ IsAmong r ps

among_left : (r : Place) (ps qs : List Placed) → IsAmong r ps → IsAmong r (ps ++ qs)
among_left r [] qs is = absurd is
among_left r (p ∷ ps) qs is = ⊎_elim (λ here. inl here) (λ later. inr (among_left r ps qs later)) is

among_right : (r : Place) (ps qs : List Placed) → IsAmong r qs → IsAmong r (ps ++ qs)
among_right r [] qs is = is
among_right r (p ∷ ps) qs is = inr (among_right r ps qs is)

-- the place is one of the heap, and its word is the function's
record Agrees (n : Numbers) (F : Place → ℕ) (p : Placed) : Type 0 where
  within : Within n p.place
  word : p.word ≡ F p.place

abbrev AllAgree : Numbers → (Place → ℕ) → List Placed → Type 0
AllAgree n F [] = Unit {0}
AllAgree n F (p ∷ ps) = Agrees n F p × AllAgree n F ps

agree_both : (n : Numbers) (F : Place → ℕ) (ps qs : List Placed) → AllAgree n F ps → AllAgree n F qs
    → AllAgree n F (ps ++ qs)
agree_both n F [] qs one two = two
agree_both n F (p ∷ ps) qs one two = (one.0, agree_both n F ps qs one.1 two)

pub length_written : (n : Numbers) (ws : List ℕ) (ps : List Placed) → length (written n ws ps) ≡ length ws
length_written n ws [] = refl
length_written n ws (p ∷ ps) =
    length_written n (set ws (index n p.place) p.word) ps ∙ length-set ws (index n p.place) p.word

module _ (n : Numbers) (F : Place → ℕ) where
  there_after : (ws : List ℕ) (p : Placed) (r : Place) → length ws ≡ total n → Agrees n F p → p.place ≡ r
      → word_at n (set ws (index n p.place) p.word) r ≡ F r
  there_after ws p r size agrees here =
      subst (λ q. word_at n (set ws (index n p.place) p.word) q ≡ F q) here
      (word_same n ws p.place p.word size agrees.within ∙ agrees.word)

  right_after : (ws : List ℕ) (p : Placed) (r : Place) → length ws ≡ total n → Agrees n F p → Within n r
      → word_at n ws r ≡ F r → word_at n (set ws (index n p.place) p.word) r ≡ F r
  right_after ws p r size agrees within e = elim (cases_eq (index n p.place) (index n r)) [
    | inl same ↦ there_after ws p r size agrees (one_place n p.place r agrees.within within same)
    | inr other ↦ (word_other n ws p.place r p.word agrees.within within (λ here. other (sym (ap (index n) here))) ∙ e)
  ]

  -- a word that was right stays right
  stays_right : (ws : List ℕ) (ps : List Placed) (r : Place) → length ws ≡ total n → AllAgree n F ps → Within n r
      → word_at n ws r ≡ F r → word_at n (written n ws ps) r ≡ F r
  stays_right ws [] r size agree within e = e
  stays_right ws (p ∷ ps) r size agree within e =
      stays_right (set ws (index n p.place) p.word) ps r (length-set ws (index n p.place) p.word ∙ size) agree.1 within
      (right_after ws p r size agree.0 within e)

  -- and one that is written becomes right
  written_right : (ws : List ℕ) (ps : List Placed) (r : Place) → length ws ≡ total n → AllAgree n F ps → Within n r
      → IsAmong r ps → word_at n (written n ws ps) r ≡ F r
  written_right ws [] r size agree within is = absurd is
  written_right ws (p ∷ ps) r size agree within is =
      let us : List ℕ = set ws (index n p.place) p.word in
      let long : length us ≡ total n = length-set ws (index n p.place) p.word ∙ size in
      ⊎_elim (λ here. stays_right us ps r long agree.1 within (there_after ws p r size agree.0 here))
      (λ later. written_right us ps r long agree.1 within later) is

-- ---- the places that are written at the start

roots_among : (c m : ℕ) → m < c → IsAmong (root m 0) (board_roots c)
roots_among zero m h = absurd (omega arith)
roots_among (suc c) m h = elim (cases_eq c m) [
  | inl e ↦ inl (ap (λ q. root q 0) e)
  | inr d ↦ inr (roots_among c m (let ne : c ≢ m = d in omega arith))
]

homes_among : (n : Numbers) (c t : ℕ) → t < c → IsAmong (home t) (first_homes n c)
homes_among n zero t h = absurd (omega arith)
homes_among n (suc c) t h = elim (cases_eq c t) [
  | inl e ↦ inl (ap home e)
  | inr d ↦ inr (homes_among n c t (let ne : c ≢ t = d in omega arith))
]

roots_agree : (n : Numbers) (board c : ℕ) → c ≤ n.mutators → 0 < n.roots
    → AllAgree n (opening_words n board) (board_roots c)
roots_agree n board zero h some = tt
roots_agree n board (suc m) h some =
    let l : m < n.mutators = omega arith in
    (record { within = (l, some); word = refl }, roots_agree n board m (omega arith) some)

homes_agree : (n : Numbers) (board c : ℕ) → c ≤ tablets_of n → AllAgree n (opening_words n board) (first_homes n c)
homes_agree n board zero h = tt
homes_agree n board (suc t) h =
    let l : t < tablets_of n = omega arith in
    (record { within = l; word = refl }, homes_agree n board t (omega arith))

zeros : (c i : ℕ) → ◌≡◌ {A = ℕ} (get_or (replicate c 0) i 0) 0
zeros zero i = refl
zeros (suc c) zero = refl
zeros (suc c) (suc i) = zeros c i

other_than : (x a : ℕ) → x ≢ 0 → cond (x == 0) a 0 ≡ 0
other_than x a d = ap (λ b. cond b a 0) (ne_eqb x 0 d)

module _ (n : Numbers) (shape : IsShape n) (board : ℕ) where
  abbrev F : Place → ℕ
  F = opening_words n board

  abbrev homes : List Placed
  homes = first_homes n (n.servers * n.tablets)

  abbrev boards : List Placed
  boards = board_places n board

  abbrev zeroed : List ℕ
  zeroed = replicate (total n) 0

  abbrev IsStart : Place → Type 0
  IsStart p = word_at n (words_at_start n board) p ≡ F p

  in_range : EachInRange (tested n)
  in_range = shape.in_range.each

  tablets_some : 0 < tablets_of n
  tablets_some =
      let row = row-below 0 n.tablets 0 n.servers (omega (arith, in_range)) (omega (arith, in_range)) in
      omega (arith, row)

  regions_some : 0 < regions_of n
  regions_some =
      let row = row-below 0 (n.tablets + n.spare) 0 n.servers (omega (arith, in_range)) (omega (arith, in_range)) in
      omega (arith, row)

  pub entries_some : 0 < entries_of n
  entries_some =
      let row = row-below 0 n.entries 0 (tablets_of n) tablets_some (omega (arith, in_range)) in omega (arith, row)

  top_agrees : Agrees n F (record { place = top 0; word = board + 1 })
  top_agrees = record { within = tablets_some; word = refl }

  entry_agrees : Agrees n F (record { place = entry 0; word = entry_word (board_entry n) })
  entry_agrees = record { within = entries_some; word = refl }

  header_agrees : Agrees n F (record { place = region_word 0 0; word = board })
  header_agrees = record { within = (regions_some, omega (arith, in_range)); word = refl }

  all_agree : AllAgree n F (opening_places n board)
  all_agree =
      agree_both n F (board_roots n.mutators) (homes ++ boards)
      (roots_agree n board n.mutators (omega arith) (omega (arith, in_range)))
      (agree_both n F homes boards (homes_agree n board (n.servers * n.tablets) (omega arith))
      (top_agrees, (entry_agrees, (header_agrees, tt))))

  pub start_size : length (words_at_start n board) ≡ total n
  unfolding words_at_start
  start_size = length_written n zeroed (opening_places n board) ∙ length-replicate (total n) 0

  -- a place whose word is 0, and one that is written
  bare : (r : Place) → Within n r → F r ≡ 0 → IsStart r
  unfolding words_at_start
  bare r within e =
      stays_right n F zeroed (opening_places n board) r (length-replicate (total n) 0) all_agree within
      (zeros (total n) (index n r) ∙ sym e)

  placed : (r : Place) → Within n r → IsAmong r (opening_places n board) → IsStart r
  unfolding words_at_start
  placed r within is =
      written_right n F zeroed (opening_places n board) r (length-replicate (total n) 0) all_agree within is

  of_board : (r : Place) → IsAmong r boards → IsAmong r (opening_places n board)
  of_board r is = among_right r (board_roots n.mutators) (homes ++ boards) (among_right r homes boards is)

  of_roots : (m : ℕ) → m < n.mutators → IsAmong (root m 0) (opening_places n board)
  of_roots m l = among_left (root m 0) (board_roots n.mutators) (homes ++ boards) (roots_among n.mutators m l)

  of_homes : (t : ℕ) → t < n.servers * n.tablets → IsAmong (home t) (opening_places n board)
  of_homes t l =
      among_right (home t) (board_roots n.mutators) (homes ++ boards)
      (among_left (home t) homes boards (homes_among n (n.servers * n.tablets) t l))

  -- behind the first of its row the word is 0
  bare_root : (m q : ℕ) → Within n (root m (suc q)) → IsStart (root m (suc q))
  bare_root m q within = bare (root m (suc q)) within (other_than (suc q) (name_word board_name) (λ e. omega arith))

  bare_top : (t : ℕ) → Within n (top (suc t)) → IsStart (top (suc t))
  bare_top t within = bare (top (suc t)) within (other_than (suc t) (board + 1) (λ e. omega arith))

  bare_entry : (x : ℕ) → Within n (entry (suc x)) → IsStart (entry (suc x))
  bare_entry x within =
      bare (entry (suc x)) within (other_than (suc x) (entry_word (board_entry n)) (λ e. omega arith))

  bare_word : (o : ℕ) → Within n (region_word 0 (suc o)) → IsStart (region_word 0 (suc o))
  bare_word o within = bare (region_word 0 (suc o)) within (other_than (suc o) board (λ e. omega arith))

  bare_region : (r o : ℕ) → Within n (region_word (suc r) o) → IsStart (region_word (suc r) o)
  bare_region r o within =
      bare (region_word (suc r) o) within (other_than (suc r) (cond (o == 0) board 0) (λ e. omega arith))

  header_placed : Within n (region_word 0 0) → IsStart (region_word 0 0)
  header_placed within = placed (region_word 0 0) within (of_board (region_word 0 0) (inr (inr (inl refl))))

  pub start_words : (p : Place) → Within n p → word_at n (words_at_start n board) p ≡ opening_words n board p
  start_words phase within = bare phase within refl
  start_words demand within = bare demand within refl
  start_words finished within = bare finished within refl
  start_words (mutator_gate m) within = bare (mutator_gate m) within refl
  start_words (root m zero) within = placed (root m 0) within (of_roots m within.0)
  start_words (root m (suc q)) within = bare_root m q within
  start_words (barrier m slot) within = bare (barrier m slot) within refl
  start_words (flags s) within = bare (flags s) within refl
  start_words (work s slot) within = bare (work s slot) within refl
  start_words (ghost a b slot) within = bare (ghost a b slot) within refl
  start_words (notice s slot) within = bare (notice s slot) within refl
  start_words (tablet_gate t) within = bare (tablet_gate t) within refl
  start_words (turn t) within = bare (turn t) within refl
  start_words (home t) within = placed (home t) within (of_homes t within)
  start_words (top zero) within = placed (top 0) within (of_board (top 0) (inl refl))
  start_words (top (suc t)) within = bare_top t within
  start_words (leaving t) within = bare (leaving t) within refl
  start_words (live t) within = bare (live t) within refl
  start_words (entry zero) within = placed (entry 0) within (of_board (entry 0) (inr (inl refl)))
  start_words (entry (suc x)) within = bare_entry x within
  start_words (region_word zero zero) within = header_placed within
  start_words (region_word zero (suc o)) within = bare_word o within
  start_words (region_word (suc r) o) within = bare_region r o within
