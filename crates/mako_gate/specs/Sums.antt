-- Terms of sums.
use Rattle.std.specs.Prelude.{ℕ, Bool, true, false}

-- a number where the test holds, and else 0
abbrev pub counted : Bool → ℕ → ℕ
counted true z = z
counted false z = 0
