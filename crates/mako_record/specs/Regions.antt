-- Addresses in regions.
use Rattle.std.specs.Prelude.{ℕ, Bool, ◌-◌, ◌&&◌, nat_le, nat_lt}
use Rattle.mako_shape.specs.declared.numbers.Numbers.{Numbers}
use Rattle.mako_shape.specs.Places.{index, region_word}

-- whether the address is that of a word of the region
abbrev pub is_in_region : Numbers → ℕ → ℕ → Bool
is_in_region n region address =
    nat_le (index n (region_word region 0)) address && nat_lt (address - index n (region_word region 0)) n.words
