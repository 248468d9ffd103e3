-- Belongings: bounds, parts, addresses and the homes at the start.
use Rattle.std.proofs.Common.{◌≡◌, ℕ, ◌+◌, ◌-◌, ◌*◌, ◌/◌, ◌%◌, ◌<◌, ap, sym, ◌∙◌, arith}
use Rattle.std.proofs.lemmas.Nat.{div-mul-add, same_from_place}
use Rattle.mako_shape.specs.declared.numbers.Numbers.{Numbers}
use Rattle.mako_shape.specs.Places.{total, index, region_word}
use Rattle.mako_shape.specs.Belongings.{server_of_tablet, server_of_region, IsAddress, region_of_address}
use Rattle.mako_shape.specs.Belongings.{word_of_address, IsInRegion, opening_home, BelongingsAreInRange, PartsBelong}
use Rattle.mako_shape.specs.Belongings.{AddressesBelong, OpeningHomesAreGood}
use Rattle.mako_shape.proofs.Rows.{row-below, div-below, mod-below, row-and-column}

pub belongings_in_range : BelongingsAreInRange
belongings_in_range = record {
  entry = λ n x h. div-below x n.entries (n.servers * n.tablets) h;
  tablet = λ n t h. div-below t n.tablets n.servers h;
  region = λ n r h. div-below r (n.tablets + n.spare) n.servers h;
}

pub parts_belong : PartsBelong
parts_belong = record {
  entry = λ n t i h. div-mul-add t n.entries i h;
  tablet = λ n s i h. div-mul-add s n.tablets i h;
  region = λ n s i h. div-mul-add s (n.tablets + n.spare) i h;
  entry_in_range = λ n t i h k. row-below t n.entries i (n.servers * n.tablets) h k;
  tablet_in_range = λ n s i h k. row-below s n.tablets i n.servers h k;
  region_in_range = λ n s i h k. row-below s (n.tablets + n.spare) i n.servers h k;
}

-- the index of a word of a region, from the first word of all regions on
pub region_word-index : (n : Numbers) (r w : ℕ)
    → index n (region_word r w) ≡ index n (region_word 0 0) + (r * n.words + w)
unfolding index
region_word-index n r w = omega arith

-- the regions end where the words end
pub regions-end : (n : Numbers) → total n ≡ index n (region_word 0 0) + n.servers * (n.tablets + n.spare) * n.words
unfolding index total
regions-end n = omega arith

-- an address is below the words of all regions, from their first word on
pub address-below : (n : Numbers) (a : ℕ) → IsAddress n a
    → a - index n (region_word 0 0) < n.servers * (n.tablets + n.spare) * n.words
address-below n a h = omega (arith, regions-end n)

pub address_in_range : (n : Numbers) (a : ℕ) → IsAddress n a → region_of_address n a < n.servers * (n.tablets + n.spare)
address_in_range n a h =
    div-below (a - index n (region_word 0 0)) n.words (n.servers * (n.tablets + n.spare)) (address-below n a h)

pub address_word : (n : Numbers) (a : ℕ) → IsAddress n a → word_of_address n a < n.words
address_word n a h =
    mod-below (a - index n (region_word 0 0)) n.words (n.servers * (n.tablets + n.spare)) (address-below n a h)

pub address_place : (n : Numbers) (a : ℕ) → IsAddress n a
    → index n (region_word (region_of_address n a) (word_of_address n a)) ≡ a
address_place n a h =
    omega (
      arith,
      region_word-index n (region_of_address n a) (word_of_address n a),
      row-and-column
          (a - index n (region_word 0 0)) n.words,
    )

pub word_after : (n : Numbers) (r w : ℕ) → index n (region_word r w) ≡ index n (region_word r 0) + w
word_after n r w = omega (arith, region_word-index n r w, region_word-index n r 0)

pub address_in_region : (n : Numbers) (a : ℕ) → IsAddress n a → IsInRegion n (region_of_address n a) a
address_in_region n a h =
    let r : ℕ = region_of_address n a in
    let e : index n (region_word r (word_of_address n a)) ≡ a = address_place n a h in
    let f : index n (region_word r (word_of_address n a)) ≡ index n (region_word r 0) + word_of_address n a =
    word_after n r (word_of_address n a) in
    let b : word_of_address n a < n.words = address_word n a h in
    (omega arith, omega arith)

pub region_words : (n : Numbers) (r a : ℕ) → r < n.servers * (n.tablets + n.spare) → IsInRegion n r a → IsAddress n a
    × (region_of_address n a ≡ r)
region_words n r a h k =
    let first : index n (region_word r 0) ≡ index n (region_word 0 0) + (r * n.words + 0) = region_word-index n r 0 in
    let w : ℕ = a - index n (region_word r 0) in
    let inside : w < n.words = omega arith in
    let below : r * n.words + w < n.servers * (n.tablets + n.spare) * n.words =
    row-below r n.words w (n.servers * (n.tablets + n.spare)) h inside in
    let here : a - index n (region_word 0 0) ≡ r * n.words + w = omega arith in
    ((omega arith, omega (arith, regions-end n)), ap (λ x. x / n.words) here ∙ div-mul-add r n.words w inside)

pub addresses_belong : AddressesBelong
addresses_belong = record {
  in_range = address_in_range;
  word_in_range = address_word;
  place = address_place;
  in_region = address_in_region;
  region_words = region_words;
  word_after = word_after;
}

-- the place of a tablet among its server's tablets is one of a region too
column-below : (n : Numbers) (t : ℕ) → t < n.servers * n.tablets → t % n.tablets < n.tablets + n.spare
column-below n t h = omega (arith, mod-below t n.tablets n.servers h)

pub home_in_range : (n : Numbers) (t : ℕ) → t < n.servers * n.tablets
    → opening_home n t < n.servers * (n.tablets + n.spare)
home_in_range n t h =
    row-below (t / n.tablets) (n.tablets + n.spare) (t % n.tablets) n.servers (div-below t n.tablets n.servers h)
    (column-below n t h)

pub home_server : (n : Numbers) (t : ℕ) → t < n.servers * n.tablets
    → server_of_region n (opening_home n t) ≡ server_of_tablet n t
home_server n t h = div-mul-add (t / n.tablets) (n.tablets + n.spare) (t % n.tablets) (column-below n t h)

pub one_home : (n : Numbers) (t u : ℕ) → t < n.servers * n.tablets → u < n.servers * n.tablets
    → opening_home n t ≡ opening_home n u → t ≡ u
one_home n t u h k e =
    let same : (t / n.tablets ≡ u / n.tablets) × (t % n.tablets ≡ u % n.tablets) =
    same_from_place (t / n.tablets) (t % n.tablets) (u / n.tablets) (u % n.tablets) (n.tablets + n.spare)
    (column-below n t h) (column-below n u k) e in
    sym (row-and-column t n.tablets) ∙ (λ i. same.0 i * n.tablets + same.1 i) ∙ row-and-column u n.tablets

pub opening_homes_are_good : OpeningHomesAreGood
opening_homes_are_good = record { in_range = home_in_range; same_server = home_server; one_tablet = one_home }
