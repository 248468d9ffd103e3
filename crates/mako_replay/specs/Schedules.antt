-- Schedules: which of the seats that are not at their end steps next.
use Rattle.std.specs.Prelude.{ℕ, ◌+◌, ◌%◌, nat_le, if◌then◌else◌, List, [], ◌∷◌, length, slice_index}
use Rattle.rand_core.specs.Pcg32Seed.{pcg32_seed}
use Rattle.rand_pcg.specs.Lcg.{Lcg}
use Rattle.rand_pcg.specs.Pcg.{pcg32, pcg32_of_seed}
use Rattle.mako_replay.specs.declared.order.Order.{Order}
use Rattle.mako_replay.specs.declared.order.Order.TheVariants.{Turns, Seed}

-- what is left of a schedule: rounds over all seats, which go on at this seat, or the words of a generator
pub data Left : Type 0 where
  rounds : ℕ → Left
  draws : Lcg → Left

abbrev pub left_at_start : Order → Left
left_at_start Turns = rounds 0
left_at_start (Seed s) = draws (pcg32_of_seed (pcg32_seed 16 s))

-- the first of these numbers that is not below i, and without such a number this one
abbrev pub first_from : ℕ → ℕ → List ℕ → ℕ
first_from i otherwise [] = otherwise
first_from i otherwise (x ∷ xs) = if nat_le i x then x else first_from i otherwise xs

-- The seat that steps next, of those that are not at their end, of which there is a first. A round passes over those
-- that are at their end, and behind it the next begins. A word, modulo their count, is the place among them, from 0.
abbrev pub chosen : Left → ℕ → List ℕ → ℕ
chosen (rounds i) first others = first_from i first (first ∷ others)
chosen (draws g) first others = slice_index (first ∷ others) ((pcg32 g).0 % length (first ∷ others))

-- what is left of the schedule behind the step of this seat
abbrev pub left_after : Left → ℕ → Left
left_after (rounds i) seat = rounds (seat + 1)
left_after (draws g) seat = draws (pcg32 g).1
