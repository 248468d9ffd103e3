-- A place in rows of one width: its row and its column, and back.
use Rattle.std.proofs.Common.{◌≡◌, ℕ, zero, suc, ◌+◌, ◌*◌, ◌/◌, ◌%◌, ◌<◌, arith}
use Rattle.std.proofs.Math.Nat.{mul_comm, mul-zero}
use Rattle.std.proofs.lemmas.Nat.{mul-add-lt, div_below, mod_below, div-add-mod'}

-- a row below the number of rows and a column below the width are a place below the product
pub row-below : (a w b h : ℕ) → a < h → b < w → a * w + b < h * w
row-below a w b h p q = omega (arith, mul-add-lt a w b h p q, mul_comm h w)

-- rows that hold a place have a width
pub width : (c w h : ℕ) → c < h * w → 0 < w
width c zero h p = absurd (omega (arith, mul-zero h))
width c (suc w) h p = omega arith

-- the row of a place is below the number of rows
pub div-below : (c w h : ℕ) → c < h * w → c / w < h
div-below c w h p = div_below c w h (width c w h p) p

-- the column of a place is below the width
pub mod-below : (c w h : ℕ) → c < h * w → c % w < w
mod-below c w h p = mod_below c w (width c w h p)

-- a place is its row's start and its column
pub row-and-column : (c w : ℕ) → c / w * w + c % w ≡ c
row-and-column c w = div-add-mod' c w
