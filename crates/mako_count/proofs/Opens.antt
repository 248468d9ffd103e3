-- The words at the start meet the rule.
use Rattle.std.proofs.Common.{◌≡◌, ℕ, zero, suc, ◌+◌, ◌^◌, ◌<◌, ◌≤◌, List, [], ◌∷◌, ◌++◌, length, get_or, replicate}
use Rattle.std.proofs.Common.{sum, sum_by, sym, refl, ap, ◌∙◌, subst, arith}
use mathlib.Core.Option.{some, some-injective, some-ne-none}
use lib.ListN.{get_elem?, length-replicate}
use Rattle.std.proofs.lemmas.List.Sums.{sum_by-cons}
use Rattle.atomic_table.specs.Table.{opening}
use Rattle.mako_count.specs.declared.views.Hand.TheVariants.{Free, Reaching}
use Rattle.mako_count.specs.declared.views.WorkerView.{WorkerView}
use Rattle.mako_count.specs.declared.views.View.{View}
use Rattle.mako_count.specs.declared.setup.Setup.{Setup}
use Rattle.mako_count.specs.Views.{openings, opening_worker, opening_poll, nothing_read}
use Rattle.mako_count.specs.Counting.{Counters, pieces_at, pieces, FitsWorker, FitsPoll, FitsView, below, CountingHolds}
use Rattle.mako_count.specs.Counting.{opening_view}
use Rattle.mako_count.proofs.Numbers.{sum-cons}
use Rattle.mako_count.proofs.PollReads.{all_quiet}

zeros_at : (n i : ℕ) → get_or (replicate n zero) i zero ≡ zero
zeros_at zero i = refl
zeros_at (suc n) zero = refl
zeros_at (suc n) (suc i) = zeros_at n i

zeros_sum : (n : ℕ) → sum (replicate n zero) ≡ zero
zeros_sum zero = refl
zeros_sum (suc n) = let h = zeros_sum n in let e = sum-cons 0 (replicate n 0) in omega (arith, h, e)

pub openings_at : (i : ℕ) (l : List ℕ) (k : ℕ) (d : WorkerView) → k < length l
    → get_or (openings i l) k d ≡ opening_worker (i + k) (get_or l k 0)
openings_at i [] k d lt = absurd (omega arith)
openings_at i (x ∷ xs) zero d lt = let e : i ≡ i + 0 = omega arith in ap (λ j. opening_worker j x) e
openings_at i (x ∷ xs) (suc k) d lt = let e : suc i + k ≡ i + suc k = omega arith in
    openings_at (suc i) xs k d (omega arith) ∙ ap (λ j. opening_worker j (get_or xs k 0)) e

pub openings_length : (i : ℕ) (l : List ℕ) → length (openings i l) ≡ length l
openings_length i [] = refl
openings_length i (x ∷ xs) = let h = openings_length (suc i) xs in omega arith

nothing_held : (i : ℕ) (l : List ℕ) → sum_by (λ w. pieces_at w.hand) (openings i l) ≡ 0
nothing_held i [] = refl
nothing_held i (x ∷ xs) = let h = nothing_held (suc i) xs in
    let e = sum_by-cons (λ (w : WorkerView). pieces_at w.hand) (opening_worker i x) (openings (suc i) xs) in
    omega (arith, h, e)

each_once : (f : ℕ → ℕ) (i : ℕ) (l : List ℕ)
    → sum_by (λ w. f w.number) (openings i l) ≡ below (λ j. f (i + j)) (length l)
each_once f i [] = refl
each_once f i (x ∷ xs) =
    let h = each_once f (suc i) xs in
    let e = sum_by-cons (λ (w : WorkerView). f w.number) (opening_worker i x) (openings (suc i) xs) in
    let shift : (j : ℕ) → suc i + j ≡ i + suc j = λ j. omega arith in let start : i ≡ i + 0 = omega arith in
    let tail : below (λ j. f (suc i + j)) (length xs) ≡ below (λ j. f (i + suc j)) (length xs) =
    λ t. below (λ j. f (shift j t)) (length xs) in let head : f i ≡ f (i + 0) = ap f start in
    omega (arith, h, e, tail, head)

abbrev start : List ℕ → Counters
start seeds = record { sent = seeds; handled = replicate (length seeds) 0; waiting = seeds }

starts : (seeds : List ℕ) (k : ℕ) → k < length seeds → FitsWorker (start seeds) (opening_worker k (get_or seeds k 0))
starts seeds k lt = record {
  within = lt;
  sent = omega arith;
  handled = zeros_at (length seeds) k;
  seeds = omega arith;
  reaching = λ e. absurd (let different : Free ≡ Reaching = e in cc);
}

polls : (seeds : List ℕ) → FitsPoll (start seeds) 0 (opening_poll (length seeds))
polls seeds = record {
  count = refl;
  first_sent = λ i. omega arith;
  first_handled = λ i. omega arith;
  later_sent = λ i. omega arith;
  later_handled = λ i. omega arith;
  risen_sent = λ i lt. absurd (omega arith);
  risen_handled = λ i lt. absurd (omega arith);
  unchanged = λ e s h. all_quiet (start seeds) 0 nothing_read (omega (arith, zeros_sum (length seeds))) e s h;
  told = λ n e. cc;
}

pub opens : (k : Setup) (words : List ℕ)
    → words ≡ k.seeds.items ++ (replicate (length k.seeds.items) 0 ++ k.seeds.items)
    → ((i : ℕ) → get_or k.seeds.items i 0 < 2 ^ 32) → length k.seeds.items ≤ 64
    → CountingHolds k (opening words [] (opening_view k))
opens k words e small few =
    let seeds : List ℕ = k.seeds.items in let n : ℕ = length seeds in let v : View = opening_view k in
    let held : pieces (v ∷ []) ≡ 0 = let h = nothing_held 0 seeds in omega arith in (
      start seeds,
      e,
      record {
        few = few;
        sent_length = refl;
        handled_length = length-replicate n 0;
        waiting_length = refl;
        small = λ i. let s = small i in omega arith;
        balance = let z = zeros_sum n in omega arith;
        once = λ f. let h = each_once f 0 seeds in let shift : (j : ℕ) → 0 + j ≡ j = λ j. omega arith in
            let same : below (λ j. f (0 + j)) n ≡ below f n = λ t. below (λ j. f (shift j t)) n in
            omega (arith, h, same);
        fits = λ id u at. subst (λ y. FitsView (start seeds) (pieces (v ∷ [])) y) (only id u at) (
          (λ j d lt. let shift : 0 + j ≡ j = omega arith in
              let inside : j < n = omega (arith, openings_length 0 seeds) in
              subst (λ w. FitsWorker (start seeds) w) (sym (openings_at 0 seeds j d inside
              ∙ ap (λ q. opening_worker q (get_or seeds j 0)) shift)) (starts seeds j inside)),
          subst (λ q. FitsPoll (start seeds) q (opening_poll n)) (sym held) (polls seeds),
        );
      },
    )
  where
    only : (id : ℕ) (u : View) → get_elem? (opening_view k ∷ []) id ≡ some u → opening_view k ≡ u
    only zero u at = some-injective (opening_view k) u at
    only (suc id) u at = absurd (some-ne-none u (sym at))
