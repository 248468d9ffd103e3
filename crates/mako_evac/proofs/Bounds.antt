-- Tablets and entries of a server are in their ranges.
use Rattle.std.proofs.Common.{◌≡◌, ℕ, ◌+◌, ◌*◌, ◌<◌, ◌≤◌, mul-pos, if◌then◌else◌, arith}
use Rattle.std.proofs.Math.Nat.{add-mul}
use Rattle.std.proofs.lemmas.Nat.{mul-le}
use Rattle.mako_shape.specs.Limits.{all_entries}
use Rattle.mako_step.proofs.Cases.{by_eq}
use Rattle.mako_ring.specs.Contents.{after_place}
use Rattle.mako_evac.specs.declared.owner.Owner.{Owner}
use Rattle.mako_evac.specs.Owners.{IsOwner, IsOwnTablet, IsOwnEntry, IsEntryOf, first_tablet, tablets_end, first_entry}

-- its tablets are tablets of all servers
pub end_within : (o : Owner) → IsOwner o → tablets_end o ≤ o.shape.servers * o.shape.tablets
end_within o h = mul-le (o.server + 1) o.shape.tablets o.shape.servers o.shape.tablets (let s = h.server in
    omega (arith, s)) (omega arith)

pub tablet_within : (o : Owner) (t : ℕ) → IsOwner o → IsOwnTablet o t → t < o.shape.servers * o.shape.tablets
tablet_within o t h own = let below = own.below in omega (arith, below, end_within o h)

-- the first entries of tablets rise with them
pub first_entry_rises : (e t u : ℕ) → t ≤ u → t * e ≤ u * e
first_entry_rises e t u h = mul-le t e u e h (omega arith)

-- an entry of one of its tablets is its own
pub entry_is_own : (o : Owner) (t x : ℕ) → IsOwnTablet o t → IsEntryOf o.shape t x → IsOwnEntry o x
entry_is_own o t x own of =
    let from = own.from in
    let below = own.below in
    let low = of.from in
    let high = of.below in
    record {
      from = omega (arith, low, first_entry_rises o.shape.entries (first_tablet o) t from);
      below = omega (arith, high, first_entry_rises o.shape.entries (t + 1) (tablets_end o) (omega (arith, below)));
    }

-- its entries are entries of all tablets
pub entry_within : (o : Owner) (x : ℕ) → IsOwner o → IsOwnEntry o x → x < all_entries o.shape
entry_within o x h own =
    let below = own.below in
    omega (
      arith,
      below,
      first_entry_rises o.shape.entries (tablets_end o) (o.shape.servers * o.shape.tablets)
          (end_within o h),
    )

-- it has an entry
pub has_entry : (o : Owner) → IsOwner o → first_entry o.shape (first_tablet o) < first_entry o.shape (tablets_end o)
has_entry o h =
    let each = h.shape.in_range.each in
    let some : 0 < o.shape.tablets * o.shape.entries = mul-pos each.2.2.0 each.2.2.2.0 in
    let rows = add-mul o.server 1 o.shape.tablets in
    let columns = add-mul (o.server * o.shape.tablets) o.shape.tablets o.shape.entries in
    let same : tablets_end o ≡ o.server * o.shape.tablets + o.shape.tablets = omega (arith, rows) in
    rw same (omega (arith, columns, some))

-- a place behind another is one of the ring
pub after_below : (size at : ℕ) → at < size → after_place size at < size
after_below size at h =
    by_eq (λ b. (if b then 0 else at + 1) < size) (at + 1) size (λ e. omega (arith, h)) (λ d. omega (arith, h, d))

-- so is an entry of one of its tablets
pub record_within : (o : Owner) (t x : ℕ) → IsOwner o → IsOwnTablet o t → IsEntryOf o.shape t x
    → x < all_entries o.shape
record_within o t x h own of = entry_within o x h (entry_is_own o t x own of)

-- the first of its tablets is not past the end
pub first_is_before_end : (o : Owner) → first_tablet o ≤ tablets_end o
first_is_before_end o = first_entry_rises o.shape.tablets o.server (o.server + 1) (omega arith)
