-- Sums over the numbers below a number, and over the entries of a tablet.
use Rattle.std.specs.Prelude.{ℕ, ◌+◌, ◌*◌}
use Rattle.std.proofs.Common.{zero, suc}
use Rattle.mako_shape.specs.declared.numbers.Numbers.{Numbers}

abbrev pub sum_below : ℕ → (ℕ → ℕ) → ℕ
sum_below zero f = 0
sum_below (suc n) f = sum_below n f + f n

abbrev pub over_tablet : Numbers → ℕ → (ℕ → ℕ) → ℕ
over_tablet n t f = sum_below n.entries (λ i. f (t * n.entries + i))
