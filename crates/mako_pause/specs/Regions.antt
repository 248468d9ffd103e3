-- What the collector keeps of the regions.
use Rattle.std.specs.Prelude.{ℕ, Bool, false, ◌+◌, nat_le, Option, Some, None, List, slice_range}
use Rattle.std.specs.List.{position}
use Rattle.mako_pause.specs.declared.regions.Role.{Role}
use Rattle.mako_pause.specs.declared.regions.Role.TheVariants.{Home, Spare}

-- whether a region may be given out in a cycle
abbrev pub is_spare : ℕ → Role → Bool
is_spare cycle Home = false
is_spare cycle (Spare since) = nat_le since cycle

-- a place behind a first region
abbrev pub behind : ℕ → Option ℕ → Option ℕ
behind first None = None
behind first (Some place) = Some (first + place)

-- the lowest region that may be given out in a cycle, of so many from a first on
abbrev pub spare_between : List Role → ℕ → ℕ → ℕ → Option ℕ
spare_between roles cycle first count =
    behind first (position (is_spare cycle) (slice_range roles first (first + count)))
