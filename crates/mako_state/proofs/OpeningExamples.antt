-- The core of a worked script at its start: 59 words and three seats.
use Rattle.std.proofs.Common.{◌≡◌, ℕ, List, [], ◌∷◌, ◌++◌, map, replicate, refl}
use Rattle.mako_shape.specs.Places.{index, total}
use Rattle.mako_gate.specs.Standings.{away, mutator_at}
use Rattle.mako_script.specs.Examples.{storing, storing_calls}
use Rattle.mako_state.specs.Facets.{gate_facet, left_facet}
use Rattle.mako_state.specs.Openings.{words_at_start, opening_seats}

-- the name of the board in root 0, the top 2, the board's entry with the address 27, and its header of one field
abbrev storing_words : List ℕ
storing_words =
    0 ∷ 0 ∷ 0 ∷ 0 ∷ 0x8000000000000000
    ∷ (replicate 15 0 ++ (2 ∷ 0 ∷ 0 ∷ 0x800000000000001b ∷ 0 ∷ 0 ∷ 0 ∷ 1 ∷ replicate 31 0))

storing_starts : words_at_start storing.numbers storing.board ≡ storing_words
unfolding words_at_start total index
storing_starts = refl

-- a mutator with all of its calls before it, a server and the collector, each at no gate
storing_stands : map (gate_facet storing.numbers) (opening_seats storing)
    ≡ mutator_at 0 away ∷ mutator_at 1 away ∷ mutator_at 2 away ∷ []
storing_stands = refl

storing_left : map left_facet (opening_seats storing) ≡ storing_calls ∷ [] ∷ [] ∷ []
storing_left = refl
