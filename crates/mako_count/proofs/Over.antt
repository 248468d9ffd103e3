-- Once a poller was told, nothing is left to do.
use Rattle.std.proofs.Common.{◌≡◌, ℕ, zero, suc, ◌<◌, ◌≤◌, true, List, [], ◌∷◌, length, get_or, sum, MatchOption}
use Rattle.std.proofs.Common.{Option, Some, None, sym, refl, ap, ◌∙◌, subst, arith}
use mathlib.Core.Option.{some, some-injective, some-ne-none}
use mathlib.Core.Logic.{dite}
use native.Mathlib.Decide.{dec_lt}
use lib.ListN.{get_elem?}
use Rattle.std.proofs.lemmas.List.Sums.{get_or-le-sum_by}
use Rattle.mako_count.specs.declared.views.Hand.TheVariants.{Free, Reaching, Sending}
use Rattle.mako_count.specs.declared.views.WorkerView.{WorkerView}
use Rattle.mako_count.specs.declared.views.PollView.{PollView}
use Rattle.mako_count.specs.declared.views.View.{View}
use Rattle.mako_count.specs.Views.{alone, gathering, opening_worker}
use Rattle.mako_count.specs.Counting.{Counters, pieces_at, pieces_with, pieces, IsQuietAfter, FitsWorker, FitsPoll}
use Rattle.mako_count.specs.Counting.{FitsView, Counts}
use Rattle.mako_count.specs.Ends.{ToldIsOver, example, WorkedExample}
use Rattle.mako_count.proofs.Numbers.{at_most_sum}
use Rattle.mako_count.proofs.Lists.{at_most_sum_by}
use Rattle.mako_count.proofs.Kept.{one_worker}

past_end : (l : List ℕ) (i : ℕ) → length l ≤ i → get_or l i 0 ≡ 0
past_end [] i le = refl
past_end (x ∷ xs) zero le = absurd (omega arith)
past_end (x ∷ xs) (suc i) le = past_end xs i (omega arith)

quiet_of : (c : Counters) (hands n : ℕ) (o : Option PollView) (p : PollView)
    → MatchOption o (Unit {0}) (FitsPoll c hands) → o ≡ Some p → p.told ≡ Some n → IsQuietAfter c hands n
quiet_of c hands n None p f e told = cc
quiet_of c hands n (Some q) p f e told = let same : q ≡ p = cc in f.told n (ap (λ (x : PollView). x.told) same ∙ told)

pub told_over : ToldIsOver
told_over k s id v p n holds at poll told =
    let c = holds.0 in let h = holds.2 in
    let quiet : IsQuietAfter c (pieces s.views) n =
    quiet_of c (pieces s.views) n v.poll p (h.fits id v at).1 poll told in
    let empty : sum c.waiting ≡ 0 = quiet.0.0 in let none : pieces s.views ≡ 0 = quiet.0.1 in let sent = quiet.1 in
    let balance = h.balance in (
      c,
      holds.1,
      record {
        sent_length = h.sent_length;
        handled_length = h.handled_length;
        waiting_length = h.waiting_length;
        boxes = λ i. dite (dec_lt i (length c.waiting)) (λ lt. let b = at_most_sum c.waiting i lt in
            omega (arith, b, empty)) (λ far. past_end c.waiting i (omega arith));
        hands = λ b u there j d lt. let mine =
            get_or-le-sum_by (λ (w : WorkerView). pieces_at w.hand) u.workers j d lt in
            let all = at_most_sum_by pieces_with s.views b u there in omega (arith, mine, all, none);
        sent = sent;
        handled = omega (arith, balance, empty, none, sent);
      },
    )

abbrev now : Counters
now = record { sent = 2 ∷ 0 ∷ []; handled = 0 ∷ 0 ∷ []; waiting = 0 ∷ 0 ∷ [] }

abbrev poll : PollView
poll = record {
  count = 2;
  first = record { sent = 1 ∷ 0 ∷ []; handled = 0 ∷ 0 ∷ [] };
  later = record { sent = 2 ∷ []; handled = [] };
  passes = 2;
  again = true;
  told = None;
}

abbrev first : WorkerView
first = record { number = 0; seeds = 1; sends = 1; handled = 0; looked = 1; filled = 0; hand = Sending }

poll_fits : FitsPoll now 2 poll
poll_fits = record {
  count = refl;
  first_sent = λ i. low i;
  first_handled = λ i. none i;
  later_sent = λ i. same i;
  later_handled = λ i. omega arith;
  risen_sent = λ i lt. up i lt;
  risen_handled = λ i lt. absurd (omega arith);
  unchanged = λ e s h. absurd (let differs : 0 ≡ 1 = e in omega arith);
  told = λ n e. cc;
}
  where
    low : (i : ℕ) → get_or (1 ∷ 0 ∷ []) i 0 ≤ get_or (2 ∷ 0 ∷ []) i 0
    low zero = omega arith
    low (suc zero) = omega arith
    low (suc (suc i)) = omega arith

    none : (i : ℕ) → get_or (0 ∷ 0 ∷ []) i 0 ≤ get_or (0 ∷ 0 ∷ []) i 0
    none i = omega arith

    same : (i : ℕ) → get_or (2 ∷ []) i 0 ≤ get_or (2 ∷ 0 ∷ []) i 0
    same zero = omega arith
    same (suc zero) = omega arith
    same (suc (suc i)) = omega arith

    up : (i : ℕ) → i < 1 → get_or (1 ∷ 0 ∷ []) i 0 ≤ get_or (2 ∷ []) i 0
    up zero lt = omega arith
    up (suc i) lt = absurd (omega arith)

first_fits : FitsWorker now first
first_fits = record {
  within = omega arith;
  sent = refl;
  handled = refl;
  seeds = omega arith;
  reaching = λ e. absurd (let different : Sending ≡ Reaching = e in cc);
}

second_fits : FitsWorker now (opening_worker 1 0)
second_fits = record {
  within = omega arith;
  sent = refl;
  handled = refl;
  seeds = omega arith;
  reaching = λ e. absurd (let different : Free ≡ Reaching = e in cc);
}

seats_fit : (id : ℕ) (v : View) → get_elem? (example None).views id ≡ some v → FitsView now 2 v
seats_fit zero v e =
    subst (λ u. FitsView now 2 u) (some-injective (gathering [] poll) v e) ((λ j d lt. absurd (omega arith)), poll_fits)
seats_fit (suc zero) v e =
    subst (λ u. FitsView now 2 u) (some-injective (alone first) v e) (one_worker (FitsWorker now) first first_fits, tt)
seats_fit (suc (suc zero)) v e =
    subst (λ u. FitsView now 2 u) (some-injective (alone (opening_worker 1 0)) v e)
    (one_worker (FitsWorker now) (opening_worker 1 0) second_fits, tt)
seats_fit (suc (suc (suc id))) v e = absurd (some-ne-none v (sym e))

small : (i : ℕ) → get_or (2 ∷ 0 ∷ []) i 0 < 8589934592
small zero = omega arith
small (suc zero) = omega arith
small (suc (suc i)) = omega arith

counts : Counts 2 now (example None).views
counts = record {
  few = omega arith;
  sent_length = refl;
  handled_length = refl;
  waiting_length = refl;
  small = small;
  balance = refl;
  once = λ f. omega arith;
  fits = seats_fit;
}

pub worked : WorkedExample
worked k e = (
  (now, refl, subst (λ n. Counts n now (example None).views) (sym (ap (λ (l : List ℕ). length l) e)) counts),
  (λ n holds. let over = told_over k (example (Some n)) 0 _ _ n holds refl refl refl in
      let held : 2 ≡ 0 = over.2.hands 1 (alone first) refl 0 first (omega arith) in omega arith),
)
