-- A place is known by its area and its offset there.
use Rattle.std.proofs.Common.{◌≡◌, ℕ, zero, suc, ◌+◌, ◌*◌, ◌/◌, ◌%◌, ◌<◌, List, [], ◌∷◌, get_or, refl, ◌∙◌, arith}
use Rattle.std.proofs.lemmas.Nat.{div-mul-add, mod-mul-add}
use Rattle.mako_shape.proofs.Rows.{row-below, div-below, mod-below, row-and-column}
use Rattle.mako_shape.specs.declared.numbers.Numbers.{Numbers}
use Rattle.mako_shape.specs.Places.{Place, phase, demand, finished, mutator_gate, root, barrier, flags, work, ghost}
use Rattle.mako_shape.specs.Places.{notice, tablet_gate, turn, home, top, leaving, live, entry, region_word, sizes}
use Rattle.mako_shape.specs.Places.{area_of, offset, Within}

-- the places of each area by their offsets, in the order of the areas
abbrev pub decoders : Numbers → List (ℕ → Place)
decoders n =
    (λ a. phase)
    ∷ (λ a. demand)
    ∷ (λ a. finished)
    ∷ mutator_gate
    ∷ (λ a. root (a / n.roots) (a % n.roots))
    ∷ (λ a. barrier (a / n.ring) (a % n.ring))
    ∷ flags
    ∷ (λ a. work (a / n.ring) (a % n.ring))
    ∷ (λ a. ghost (a / n.ring / n.servers) (a / n.ring % n.servers) (a % n.ring))
    ∷ (λ a. notice (a / n.ring) (a % n.ring))
    ∷ tablet_gate
    ∷ turn
    ∷ home
    ∷ top
    ∷ leaving
    ∷ live
    ∷ entry
    ∷ (λ a. region_word (a / n.words) (a % n.words))
    ∷ []

-- the place in an area at an offset
abbrev pub place_of : Numbers → ℕ → ℕ → Place
place_of n area a = get_or (decoders n) area (λ b. phase) a

-- a place in rows has its row and its column
pair-of : (f : ℕ → ℕ → Place) (a w b : ℕ) → b < w → f ((a * w + b) / w) ((a * w + b) % w) ≡ f a b
pair-of f a w b h = rw (div-mul-add a w b h, mod-mul-add a w b h)

-- the place in a place's area at its offset is that place
pub place_of-offset : (n : Numbers) (p : Place) → Within n p → place_of n (area_of p) (offset n p) ≡ p
place_of-offset n phase h = refl
place_of-offset n demand h = refl
place_of-offset n finished h = refl
place_of-offset n (mutator_gate m) h = refl
place_of-offset n (root m q) h = pair-of root m n.roots q h.1
place_of-offset n (barrier m slot) h = pair-of barrier m n.ring slot h.1
place_of-offset n (flags s) h = refl
place_of-offset n (work s slot) h = pair-of work s n.ring slot h.1
place_of-offset n (ghost a b slot) h =
    pair-of (λ row slot. ghost (row / n.servers) (row % n.servers) slot) (a * n.servers + b) n.ring slot h.2
    ∙ pair-of (λ a b. ghost a b slot) a n.servers b h.1
place_of-offset n (notice s slot) h = pair-of notice s n.ring slot h.1
place_of-offset n (tablet_gate t) h = refl
place_of-offset n (turn t) h = refl
place_of-offset n (home t) h = refl
place_of-offset n (top t) h = refl
place_of-offset n (leaving t) h = refl
place_of-offset n (live t) h = refl
place_of-offset n (entry x) h = refl
place_of-offset n (region_word r w) h = pair-of region_word r n.words w h.1

-- the offset of a place is below its area's size
pub offset-below : (n : Numbers) (p : Place) → Within n p → offset n p < get_or (sizes n) (area_of p) 0
offset-below n phase h = omega arith
offset-below n demand h = omega arith
offset-below n finished h = omega arith
offset-below n (mutator_gate m) h = h
offset-below n (root m q) h = row-below m n.roots q n.mutators h.0 h.1
offset-below n (barrier m slot) h = row-below m n.ring slot n.mutators h.0 h.1
offset-below n (flags s) h = h
offset-below n (work s slot) h = row-below s n.ring slot n.servers h.0 h.1
offset-below n (ghost a b slot) h =
    row-below (a * n.servers + b) n.ring slot (n.servers * n.servers) (row-below a n.servers b n.servers h.0 h.1) h.2
offset-below n (notice s slot) h = row-below s n.ring slot n.servers h.0 h.1
offset-below n (tablet_gate t) h = h
offset-below n (turn t) h = h
offset-below n (home t) h = h
offset-below n (top t) h = h
offset-below n (leaving t) h = h
offset-below n (live t) h = h
offset-below n (entry x) h = h
offset-below n (region_word r w) h = row-below r n.words w (n.servers * (n.tablets + n.spare)) h.0 h.1

-- what an area's places have to meet: each offset below its size gives a place in range of that area at that offset
abbrev Covers : Numbers → ℕ → (ℕ → Place) → ℕ → Type 0
Covers n area d size = (a : ℕ) → a < size → Within n (d a) × (area_of (d a) ≡ area) × (offset n (d a) ≡ a)

-- the same of a row of areas, the first of which has this number
abbrev CoverFrom : Numbers → ℕ → List (ℕ → Place) → List ℕ → Type 0
CoverFrom n area (d ∷ ds) (s ∷ ss) = Covers n area d s × CoverFrom n (suc area) ds ss
CoverFrom n area [] [] = Unit {0}
CoverFrom n area [] (s ∷ ss) = ⊥
CoverFrom n area (d ∷ ds) [] = ⊥

-- so each area of the row meets it
covers-at : (n : Numbers) (from : ℕ) (ds : List (ℕ → Place)) (ss : List ℕ) → CoverFrom n from ds ss → (i a : ℕ)
    → a < get_or ss i 0 →
    Within n (get_or ds i (λ b. phase) a) × (area_of (get_or ds i (λ b. phase) a) ≡ from + i)
    × (offset n (get_or ds i (λ b. phase) a) ≡ a)
covers-at n from [] [] c i a h = absurd (omega arith)
covers-at n from [] (s ∷ ss) c i a h = absurd c
covers-at n from (d ∷ ds) [] c i a h = absurd c
covers-at n from (d ∷ ds) (s ∷ ss) c zero a h = let k : Within n (d a) × (area_of (d a) ≡ from)
    × (offset n (d a) ≡ a) = c.0 a h in (k.0, k.1 ∙ omega arith, k.2)
covers-at n from (d ∷ ds) (s ∷ ss) c (suc i) a h =
    let k : Within n (get_or ds i (λ b. phase) a) × (area_of (get_or ds i (λ b. phase) a) ≡ suc from + i)
    × (offset n (get_or ds i (λ b. phase) a) ≡ a) = covers-at n (suc from) ds ss c.1 i a h in
    (k.0, k.1 ∙ omega arith, k.2)

-- the ring from one server to another has two numbers to find
ghosts-cover : (n : Numbers)
    → Covers n 8 (λ a. ghost (a / n.ring / n.servers) (a / n.ring % n.servers) (a % n.ring))
    (n.servers * n.servers * n.ring)
ghosts-cover n a h =
    let row : a / n.ring < n.servers * n.servers = div-below a n.ring (n.servers * n.servers) h in
    let column : a % n.ring < n.ring = mod-below a n.ring (n.servers * n.servers) h in (
      (div-below (a / n.ring) n.servers n.servers row, mod-below (a / n.ring) n.servers n.servers row, column),
      refl,
      rw (row-and-column (a / n.ring) n.servers) (row-and-column a n.ring),
    )

-- each area, in order
covers-all : (n : Numbers) → CoverFrom n 0 (decoders n) (sizes n)
covers-all n = (
  λ a h. (tt, refl, omega arith),
  (
    λ a h. (tt, refl, omega arith),
    (
      λ a h. (tt, refl, omega arith),
      (
        λ a h. (h, refl, refl),
        (
          λ a h. ((div-below a n.roots n.mutators h, mod-below a n.roots n.mutators h), refl, row-and-column a n.roots),
          (
            λ a h. ((div-below a n.ring n.mutators h, mod-below a n.ring n.mutators h), refl, row-and-column a n.ring),
            (
              λ a h. (h, refl, refl),
              (
                λ a h. (
                  (div-below a n.ring n.servers h, mod-below a n.ring n.servers h),
                  refl,
                  row-and-column a n.ring,
                ),
                (
                  ghosts-cover n,
                  (
                    λ a h. (
                      (div-below a n.ring n.servers h, mod-below a n.ring n.servers h),
                      refl,
                      row-and-column a n.ring,
                    ),
                    (
                      λ a h. (h, refl, refl),
                      (
                        λ a h. (h, refl, refl),
                        (
                          λ a h. (h, refl, refl),
                          (
                            λ a h. (h, refl, refl),
                            (
                              λ a h. (h, refl, refl),
                              (
                                λ a h. (h, refl, refl),
                                (
                                  λ a h. (h, refl, refl),
                                  (
                                    λ a h. (
                                      (
                                        div-below a n.words (n.servers * (n.tablets + n.spare)) h,
                                        mod-below a n.words (n.servers * (n.tablets + n.spare)) h,
                                      ),
                                      refl,
                                      row-and-column a n.words,
                                    ),
                                    tt,
                                  ),
                                ),
                              ),
                            ),
                          ),
                        ),
                      ),
                    ),
                  ),
                ),
              ),
            ),
          ),
        ),
      ),
    ),
  ),
)

-- an offset below the size of an area gives a place in range of that area at that offset
pub place_of-covers : (n : Numbers) (area a : ℕ) → a < get_or (sizes n) area 0 →
    Within n (place_of n area a) × (area_of (place_of n area a) ≡ area) × (offset n (place_of n area a) ≡ a)
place_of-covers n area a h =
    let k : Within n (place_of n area a) × (area_of (place_of n area a) ≡ 0 + area)
    × (offset n (place_of n area a) ≡ a) = covers-at n 0 (decoders n) (sizes n) (covers-all n) area a h in
    (k.0, k.1 ∙ omega arith, k.2)
