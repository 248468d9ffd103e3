-- A journal as contracts see it.
use Rattle.std.specs.Prelude.{ℕ, List}
use Rattle.mako_model.specs.declared.point.Point.{Point}

-- the points so far, and how many there is room for
pub record Entries : Type 0 where
  pub points : List Point
  pub room : ℕ
