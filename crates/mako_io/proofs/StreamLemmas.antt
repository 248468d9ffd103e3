-- Lemmas on counts of faults, and on what sources and sinks tell, that callers of the crate can cite.
use Rattle.std.proofs.Common.{◌≡◌, ℕ, ◌+◌, ◌<◌, ◌≤◌, List, length, take, drop, None, Some, arith, sym, ◌∙◌, ap, subst}
use Rattle.std.proofs.Common.{length-append}
use Rattle.std.proofs.Math.Seq.{take-add, drop-append_seam}
use Rattle.std.specs.declared.option.Option.{Option}
use Rattle.std.specs.Io.KnownBytes.{Appends}
use Rattle.std.proofs.KnownBytes.{Appends-trans}
use Rattle.mako_io.specs.Causes.{Rose}
use Rattle.mako_io.specs.Streams.{TakesMore}

-- a count that has not fallen and then rose has risen
pub Rose-after : (before mid now : ℕ) → before ≤ mid → Rose mid now → Rose before now
Rose-after before mid now kept rose = omega arith

-- a count that rose and has not fallen since has risen
pub Rose-before : (before mid now : ℕ) → Rose before mid → mid ≤ now → Rose before now
Rose-before before mid now rose kept = omega arith

-- a sink that took a prefix of a piece, and then a prefix of what was left of it, took both
pub Appends-front : (a b c : Option (List ℕ)) (piece : List ℕ) (m n : ℕ)
    → Appends a b (take m piece) → Appends b c (take n (drop m piece)) → Appends a c (take (m + n) piece)
Appends-front a b c piece m n first second =
    subst (Appends a c) (sym (take-add m n piece))
    (Appends-trans a b c (take m piece) (take n (drop m piece)) first second)

-- where a source that told its bytes gave more than the limit, it had more than the limit
pub TakesMore-length : (limit : ℕ) (all : List ℕ) (after : Option (List ℕ)) → TakesMore limit (Some all) after
    → limit < length all
TakesMore-length limit all None (bytes, past, gone) = absurd gone
TakesMore-length limit all (Some rest) (bytes, past, gone) = omega (arith, ap length gone, length-append bytes rest)

-- and what is left are its bytes without so many at the front
pub TakesMore-rest : (limit : ℕ) (all : List ℕ) (after : Option (List ℕ)) → TakesMore limit (Some all) after
    → (gave : ℕ) × (limit < gave) × (after ≡ Some (drop gave all))
TakesMore-rest limit all None (bytes, past, gone) = absurd gone
TakesMore-rest limit all (Some rest) (bytes, past, gone) =
    (length bytes, past, ap Some (sym (ap (drop (length bytes)) gone ∙ drop-append_seam bytes rest)))
