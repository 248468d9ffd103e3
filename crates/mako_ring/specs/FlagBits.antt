-- The bits of servers' flags.
use Rattle.std.specs.Prelude.{ℕ, ◌+◌}

abbrev pub busy_bit : ℕ
busy_bit = 1

abbrev pub ghost_bit : ℕ
ghost_bit = 2

abbrev pub changed_bit : ℕ
changed_bit = 4

-- what a server raises before it puts a name into a ring to another server, and before it takes one out
abbrev pub sending_bits : ℕ
sending_bits = ghost_bit + changed_bit

abbrev pub taking_bits : ℕ
taking_bits = busy_bit + changed_bit
