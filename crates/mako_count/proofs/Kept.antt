-- A step of one worker keeps the rule.
use Rattle.std.proofs.Common.{◌≡◌, ◌≢◌, ℕ, zero, suc, ◌+◌, ◌^◌, ◌<◌, ◌≤◌, List, [], ◌∷◌, length, set, get_or, sum}
use Rattle.std.proofs.Common.{sum_by, All, MatchOption, Option, Some, None, sym, refl, ap, ◌∙◌, subst, arith, ⊎_elim}
use Rattle.std.proofs.Common.{le_trans}
use mathlib.Core.Option.{some}
use lib.ListN.{get_elem?}
use Rattle.atomic_table.specs.Table.{keeps, Allows}
use Rattle.atomic_table.proofs.Lists.{at_set}
use Rattle.std.proofs.lemmas.List.Sums.{get_or-le-sum_by}
use Rattle.mako_count.specs.declared.views.WorkerView.{WorkerView}
use Rattle.mako_count.specs.declared.views.PollView.{PollView}
use Rattle.mako_count.specs.declared.views.View.{View}
use Rattle.mako_count.specs.declared.setup.Setup.{Setup}
use Rattle.mako_count.specs.Views.{alone, spent, Seated}
use Rattle.mako_count.specs.Counting.{Counters, words_of, pieces_at, pieces_with, pieces, IsQuiet, FitsWorker, IsBelow}
use Rattle.mako_count.specs.Counting.{FitsPoll, FitsView, below, weights, Counts, CountingHolds}
use Rattle.mako_count.proofs.Numbers.{still_unchanged}
use Rattle.mako_count.proofs.Lists.{sum_by-set_at, at_most_sum_by, two_of_sum_by}

-- 1 where the numbers are equal, else 0
abbrev same : ℕ → ℕ → ℕ
same zero zero = 1
same zero (suc j) = 0
same (suc i) zero = 0
same (suc i) (suc j) = same i j

same_self : (i : ℕ) → same i i ≡ 1
same_self zero = refl
same_self (suc i) = same_self i

none_below : (n : ℕ) → below (λ i. 0) n ≡ 0
none_below zero = refl
none_below (suc n) = let h = none_below n in omega arith

once_below : (i n : ℕ) → below (same i) n ≤ 1
once_below i zero = omega arith
once_below zero (suc n) = let h = none_below n in omega arith
once_below (suc i) (suc n) = let h = once_below i n in omega arith

-- a worker of one view is not that of another seat
pub apart : (n : ℕ) (views : List View) (id b : ℕ) (w x : WorkerView) (u : View) (k : ℕ)
    → ((weight : ℕ → ℕ) → weights weight views ≡ below weight n) → get_elem? views id ≡ some (alone w)
    → get_elem? views b ≡ some u
    → b ≢ id → k < length u.workers → get_or u.workers k x ≡ x → x.number ≢ w.number
apart n views id b w x u k once at there ne lt is e =
    let s : ℕ → ℕ = same w.number in let f : View → ℕ = λ v. sum_by (λ y. s y.number) v.workers in
    let two : f (alone w) + f u ≤ sum_by f views = two_of_sum_by f spent refl views id b (alone w) u ne at there in
    let one : s w.number ≡ 1 = same_self w.number in
    let other : s (get_or u.workers k x).number ≤ f u = get_or-le-sum_by (λ y. s y.number) u.workers k x lt in
    let is_one : s (get_or u.workers k x).number ≡ 1 = ap (λ (y : WorkerView). s y.number) is ∙ (ap s e ∙ one) in
    let all : sum_by f views ≡ below s n = once s in let most : below s n ≤ 1 = once_below w.number n in
    let mine : f (alone w) ≡ s w.number = omega arith in
    absurd (omega (arith, two, one, other, is_one, all, most, mine))

-- where a piece is under way, what polls know stays true as words rise
pub poll_busy : (c d : Counters) (hands now : ℕ) (p : PollView) → length c.sent ≡ length d.sent
    → length c.handled ≡ length d.handled → IsBelow c.sent d.sent → IsBelow c.handled d.handled
    → (IsQuiet c hands → ⊥) → FitsPoll c hands p → FitsPoll d now p
poll_busy c d hands now p sl hl su hu busy f = record {
  count = f.count ∙ sl;
  first_sent = λ i. le_trans (f.first_sent i) (su i);
  first_handled = λ i. le_trans (f.first_handled i) (hu i);
  later_sent = λ i. le_trans (f.later_sent i) (su i);
  later_handled = λ i. le_trans (f.later_handled i) (hu i);
  risen_sent = f.risen_sent;
  risen_handled = f.risen_handled;
  unchanged = λ e s h. absurd
      (busy (f.unchanged e (still_unchanged p.first.sent p.later.sent c.sent d.sent sl su f.first_sent s)
      (still_unchanged p.first.handled p.later.handled c.handled d.handled hl hu f.first_handled h)).0);
  told = λ n e. absurd (busy (f.told n e).0);
}

-- a change that keeps the words, and all that hands hold
pub poll_same : (c : Counters) (hands now : ℕ) (p : PollView) → now ≡ hands → FitsPoll c hands p → FitsPoll c now p
poll_same c hands now p e f = subst (λ h. FitsPoll c h p) (sym e) f

-- what the step of one worker, from w to x, makes of the words
pub record Moves (n : ℕ) (c d : Counters) (w x : WorkerView) : Type 0 where
  pub number : x.number ≡ w.number
  pub sent_length : length c.sent ≡ length d.sent
  pub handled_length : length c.handled ≡ length d.handled
  pub waiting_length : length c.waiting ≡ length d.waiting
  pub small : (i : ℕ) → get_or d.sent i 0 < 2 ^ 33
  pub balance : sum d.sent + (sum c.handled + sum c.waiting + pieces_at w.hand) ≡ sum c.sent +
      (sum d.handled + sum d.waiting + pieces_at x.hand)
  pub fits : FitsWorker d x
  pub sent_else : (i : ℕ) → i ≢ w.number → get_or d.sent i 0 ≡ get_or c.sent i 0
  pub handled_else : (i : ℕ) → i ≢ w.number → get_or d.handled i 0 ≡ get_or c.handled i 0
  pub waiting_else : (i : ℕ) → i ≢ w.number → get_or c.waiting i 0 ≤ get_or d.waiting i 0
  pub polls : (hands now : ℕ) (p : PollView) → pieces_at w.hand ≤ hands
      → now + pieces_at w.hand ≡ hands + pieces_at x.hand → FitsPoll c hands p → FitsPoll d now p

single : (f : WorkerView → ℕ) (w : WorkerView) → sum_by f (w ∷ []) ≡ f w
single f w = omega arith

other_worker : (n : ℕ) (c d : Counters) (w x y : WorkerView) → Moves n c d w x → y.number ≢ w.number → FitsWorker c y
    → FitsWorker d y
other_worker n c d w x y m ne f = record {
  within = let h = f.within in let l = m.sent_length in omega arith;
  sent = m.sent_else y.number ne ∙ f.sent;
  handled = m.handled_else y.number ne ∙ f.handled;
  seeds = let h = f.seeds in let l = m.waiting_else y.number ne in omega arith;
  reaching = λ e. let h = f.reaching e in let l = m.waiting_else y.number ne in omega arith;
}

other_poll : (c d : Counters) (hands now : ℕ) (o : Option PollView)
    → ((p : PollView) → FitsPoll c hands p → FitsPoll d now p) → MatchOption o (Unit {0}) (FitsPoll c hands)
    → MatchOption o (Unit {0}) (FitsPoll d now)
other_poll c d hands now None go f = tt
other_poll c d hands now (Some p) go f = go p f

pub one_worker : (P : WorkerView → Type 0) (w : WorkerView) → P w → All P (w ∷ [])
one_worker P w h zero d lt = h
one_worker P w h (suc k) d lt = absurd (omega arith)

pub step_kept : (n : ℕ) (c d : Counters) (views : List View) (id : ℕ) (w x : WorkerView) → Counts n c views
    → get_elem? views id ≡ some (alone w) → Moves n c d w x → Counts n d (set views id (alone x))
step_kept n c d views id w x h at m =
    let total = sum_by-set_at pieces_with views id (alone w) (alone x) at in
    let mine = single (λ y. pieces_at y.hand) w in let now = single (λ y. pieces_at y.hand) x in
    let within : pieces_with (alone w) ≤ pieces views = at_most_sum_by pieces_with views id (alone w) at in
    let held : pieces_at w.hand ≤ pieces views = omega (arith, within, mine) in
    let change : pieces (set views id (alone x)) + pieces_at w.hand ≡ pieces views + pieces_at x.hand =
    omega (arith, total, mine, now) in
    let before = h.balance in let more = m.balance in record {
      few = h.few;
      sent_length = sym m.sent_length ∙ h.sent_length;
      handled_length = sym m.handled_length ∙ h.handled_length;
      waiting_length = sym m.waiting_length ∙ h.waiting_length;
      small = m.small;
      balance = omega (arith, change, before, more);
      once = λ f. let g : View → ℕ = λ v. sum_by (λ y. f y.number) v.workers in
          let t : sum_by g (set views id (alone x)) + g (alone w) ≡ sum_by g views + g (alone x) =
          sum_by-set_at g views id (alone w) (alone x) at in
          let a : g (alone w) ≡ f w.number = single (λ y. f y.number) w in
          let b : g (alone x) ≡ f x.number = single (λ y. f y.number) x in
          let e : f x.number ≡ f w.number = ap f m.number in let o = h.once f in omega (arith, t, a, b, e, o);
      fits = λ b u there. ⊎_elim
          (λ (t : (b ≡ id) × (alone x ≡ u)). subst (λ v. FitsView d (pieces (set views id (alone x))) v) t.1
          (one_worker (FitsWorker d) x m.fits, tt))
          (λ (t : (b ≢ id) × (get_elem? views b ≡ some u)). let f = h.fits b u t.1 in (
            (λ k e lt. let y : WorkerView = get_or u.workers k e in
                other_worker n c d w x y m (apart n views id b w y u k h.once at t.1 t.0 lt (again u.workers k e lt))
                (f.0 k e lt)),
            other_poll c d (pieces views) (pieces (set views id (alone x))) u.poll
                (λ p. m.polls (pieces views) (pieces (set views id (alone x))) p held change) f.1,
          ))
          (at_set views id b (alone x) u there);
    }
  where
    again : (l : List WorkerView) (k : ℕ) (e : WorkerView) → k < length l → get_or l k (get_or l k e) ≡ get_or l k e
    again [] k e lt = absurd (omega arith)
    again (y ∷ ys) zero e lt = refl
    again (y ∷ ys) (suc k) e lt = again ys k e (omega arith)

-- what the worker whose step it is knows, and the words
pub mine : (n : ℕ) (c : Counters) (views : List View) (id : ℕ) (w : WorkerView) → Counts n c views
    → get_elem? views id ≡ some (alone w) → FitsWorker c w
mine n c views id w h at = (h.fits id (alone w) at).0 0 w (omega arith)

pub allowed : (k : Setup) (slots id : ℕ) (w : WorkerView) (i : ℕ) (f : ℕ → ℕ) (play : ℕ → Seated → Type 0)
    → ((c : Counters) (views : List View) → Counts (length k.seeds.items) c views → FitsWorker c w → (d : Counters)
    × (x : WorkerView)
    × (set (words_of c) i (f (get_or (words_of c) i 0)) ≡ words_of d) × Moves (length k.seeds.items) c d w x
    × play (get_or (words_of c) i 0) (alone x, []))
    → Allows (CountingHolds k) slots id (alone w, []) i f play
allowed k slots id w i f play go s holds homes at small =
    let c = holds.0 in let r = go c s.views holds.2 (mine (length k.seeds.items) c s.views id w holds.2 at) in
    let d = r.0 in let x = r.1 in
    let same_word : get_or s.words i 0 ≡ get_or (words_of c) i 0 = ap (λ l. get_or l i 0) holds.1 in (
      alone x,
      keeps,
      tt,
      (
        d,
        (λ j. set (holds.1 j) i (f (get_or (holds.1 j) i 0))) ∙ r.2,
        step_kept (length k.seeds.items) c d s.views id w x holds.2 at r.3,
      ),
      subst (λ m. play m (alone x, [])) (sym same_word) r.4,
    )

-- the seats change and the words do not: the workers of all seats are as before, and each seat knows what is true
pub seats_kept : (n : ℕ) (c : Counters) (views others : List View) → Counts n c views
    → ((g : WorkerView → ℕ) → sum_by (λ v. sum_by g v.workers) others ≡ sum_by (λ v. sum_by g v.workers) views)
    → ((b : ℕ) (u : View) → get_elem? others b ≡ some u → FitsView c (pieces views) u) → Counts n c others
seats_kept n c views others h total fits =
    let same : pieces others ≡ pieces views = total (λ w. pieces_at w.hand) in record {
      few = h.few;
      sent_length = h.sent_length;
      handled_length = h.handled_length;
      waiting_length = h.waiting_length;
      small = h.small;
      balance = let b = h.balance in omega arith;
      once = λ f. total (λ w. f w.number) ∙ h.once f;
      fits = λ b u there. subst (λ q. FitsView c q u) (sym same) (fits b u there);
    }
