-- Lemmas on bytes that are given in parts.
use Rattle.std.proofs.Common.{◌≡◌, ℕ, ◌+◌, ◌<◌, ◌≤◌, List, ◌++◌, length, take, drop, arith, sym, ◌∙◌, ap, length-take}
use Rattle.std.proofs.Common.{length-append}
use Rattle.std.proofs.lemmas.List.{drop-drop, take-append-drop, take_at, length-take-le}
use Rattle.std.specs.declared.option.Option.{Option}
use Rattle.std.specs.Io.KnownBytes.{Consumes}
use Rattle.std.proofs.KnownBytes.{Consumes-trans}
use Rattle.mako_io.specs.Streams.{TakesAtMost, TakesMore}

-- bytes that moved to the front of a buffer, and those behind them, are the bytes there were
pub moved_first : (all buf moved : List ℕ) (given n : ℕ) → n ≤ length (drop given all) → moved ≡ take n (drop given all)
    → drop given all ≡ take n (moved ++ drop n buf) ++ drop (given + n) all
moved_first all buf moved given n within same =
    let size : length moved ≡ n = ap length same ∙ length-take-le n (drop given all) within in
    let front : take n (moved ++ drop n buf) ≡ take n (drop given all) = take_at moved (drop n buf) n size ∙ same in
    sym (take-append-drop n (drop given all)) ∙ ap (λ xs. take n (drop given all) ++ xs) (drop-drop n given all)
    ∙ ap (λ xs. xs ++ drop (given + n) all) (sym front)

-- a read, after others, by which more than the limit were taken
pub TakesMore-part : (a b c : Option (List ℕ)) (bytes part : List ℕ) (limit count : ℕ)
    → Consumes a b bytes → Consumes b c (take count part) → count ≤ length part → limit < length bytes + count
    → TakesMore limit a c
TakesMore-part a b c bytes part limit count first second within past = (
  bytes ++ take count part,
  (simp (length-append, length-take) (omega arith)),
  Consumes-trans a b c bytes
      (take count part) first second,
)

-- a read, after others, by which at most the limit were taken
pub TakesAtMost-part : (a b c : Option (List ℕ)) (bytes part : List ℕ) (limit count : ℕ)
    → Consumes a b bytes → Consumes b c (take count part) → length bytes + count ≤ limit → TakesAtMost limit a c
TakesAtMost-part a b c bytes part limit count first second below = (
  bytes ++ take count part,
  (simp (length-append, length-take) (omega arith)),
  Consumes-trans a b c bytes
      (take count part) first second,
)
