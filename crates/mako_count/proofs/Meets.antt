-- What a told poller knows of the workers that it has met.
use Rattle.std.proofs.Common.{◌≡◌, ℕ, zero, suc, ◌+◌, ◌<◌, ◌≤◌, List, [], ◌∷◌, length, set, get_or, sum, sum_by, All}
use Rattle.std.proofs.Common.{sym, refl, ◌∙◌, subst, arith}
use mathlib.Core.Option.{some}
use lib.ListN.{get_elem?}
use Rattle.std.proofs.lemmas.List.Sums.{sum_by-cons, get_or-le-sum_by}
use Rattle.std.proofs.lemmas.List.Elements.{All-head, All-tail}
use Rattle.atomic_table.specs.Table.{keeps, Allows}
use Rattle.atomic_table.proofs.Lists.{set_again}
use Rattle.mako_count.specs.declared.views.Hand.{Hand}
use Rattle.mako_count.specs.declared.views.Hand.TheVariants.{Free, Reaching, Holding, Sending}
use Rattle.mako_count.specs.declared.views.WorkerView.{WorkerView}
use Rattle.mako_count.specs.declared.views.PollView.{PollView}
use Rattle.mako_count.specs.declared.views.View.{View}
use Rattle.mako_count.specs.declared.setup.Setup.{Setup}
use Rattle.mako_count.specs.Views.{gathering, poll_of, spent, IsPollers, Seated}
use Rattle.mako_count.specs.Counting.{Counters, in_hand, pieces_at, pieces_with, pieces, IsQuietAfter, FitsWorker}
use Rattle.mako_count.specs.Counting.{FitsPoll, below, weights, Counts, CountingHolds}
use Rattle.mako_count.specs.Meetings.{MeetingTells, MeetsAt}
use Rattle.mako_count.proofs.Numbers.{sum-cons, at_most_sum}
use Rattle.mako_count.proofs.Lists.{set_get, at_most_sum_by, sum_by-set_at}

hand_within : (h : Hand) → in_hand h ≤ pieces_at h
hand_within Free = omega arith
hand_within Reaching = omega arith
hand_within Holding = omega arith
hand_within Sending = omega arith

again : (l : List WorkerView) (k : ℕ) (d : WorkerView) → k < length l → get_or l k (get_or l k d) ≡ get_or l k d
again [] k d lt = absurd (omega arith)
again (x ∷ xs) zero d lt = refl
again (x ∷ xs) (suc k) d lt = again xs k d (omega arith)

-- in a quiet state each worker has handled its seeds
seeds_handled : (n : ℕ) (c : Counters) (views : List View) (id m : ℕ) (v : View) → Counts n c views
    → get_elem? views id ≡ some v → All (FitsWorker c) v.workers → IsQuietAfter c (pieces views) m
    → All (λ w. w.seeds ≤ w.handled) v.workers
seeds_handled n c views id m v h at fits quiet k d lt =
    let w : WorkerView = get_or v.workers k d in let f = fits k d lt in let held = hand_within w.hand in
    let in_view : pieces_at w.hand ≤ pieces_with v =
    get_or-le-sum_by (λ (y : WorkerView). pieces_at y.hand) v.workers k d lt in
    let in_all : pieces_with v ≤ pieces views = at_most_sum_by pieces_with views id v at in
    let none : pieces views ≡ 0 = quiet.0.1 in let empty : sum c.waiting ≡ 0 = quiet.0.0 in
    let box : get_or c.waiting w.number 0 ≤ sum c.waiting =
    at_most_sum c.waiting w.number (omega (arith, f.within, h.sent_length, h.waiting_length)) in
    let seeds = f.seeds in omega (arith, held, in_view, in_all, none, empty, box, seeds)

-- where all weigh nothing, each does
none_of : (f g : View → ℕ) → ((v : View) → f v ≡ 0 → g v ≡ 0) → (l : List View) → sum_by f l ≡ 0 → sum_by g l ≡ 0
none_of f g each [] e = refl
none_of f g each (v ∷ vs) e =
    let a = sum_by-cons f v vs in let b = sum_by-cons g v vs in let here = each v (omega (arith, a, e)) in
    let rest = none_of f g each vs (omega (arith, a, e)) in omega (arith, b, here, rest)

ones : (ws : List WorkerView) → sum_by (λ w. 1) ws ≡ length ws
ones [] = refl
ones (w ∷ ws) = let a = sum_by-cons (λ (y : WorkerView). 1) w ws in let h = ones ws in omega (arith, a, h)

nobody : (f : ℕ → ℕ) (v : View) → sum_by (λ w. 1) v.workers ≡ 0 → sum_by (λ w. f w.number) v.workers ≡ 0
nobody f v e = go v.workers e
  where
    go : (ws : List WorkerView) → sum_by (λ w. 1) ws ≡ 0 → sum_by (λ w. f w.number) ws ≡ 0
    go [] e = refl
    go (w ∷ ws) e = let a = sum_by-cons (λ (y : WorkerView). 1) w ws in absurd (omega (arith, a, e))

all_ones : (n : ℕ) → below (λ i. 1) n ≡ n
all_ones zero = refl
all_ones (suc n) = let h = all_ones n in omega arith

-- each place of a list, weighed by what stands there
weighed : (l : List ℕ) → below (λ i. get_or l i 0) (length l) ≡ sum l
weighed [] = refl
weighed (x ∷ xs) = let h = weighed xs in let e = sum-cons x xs in omega (arith, h, e)

-- a seat that has as many workers as there are has them all
whole_seat : (n : ℕ) (views : List View) (id : ℕ) (v : View) (f : ℕ → ℕ)
    → ((weight : ℕ → ℕ) → weights weight views ≡ below weight n) → get_elem? views id ≡ some v → length v.workers ≡ n
    → sum_by (λ w. f w.number) v.workers ≡ below f n
whole_seat n views id v f once at long =
    let F1 : View → ℕ = λ u. sum_by (λ w. 1) u.workers in let Ff : View → ℕ = λ u. sum_by (λ w. f w.number) u.workers in
    let others : List View = set views id spent in
    let t1 : sum_by F1 others + F1 v ≡ sum_by F1 views + F1 spent = sum_by-set_at F1 views id v spent at in
    let tf : sum_by Ff others + Ff v ≡ sum_by Ff views + Ff spent = sum_by-set_at Ff views id v spent at in
    let o1 : sum_by F1 views ≡ below (λ i. 1) n = once (λ i. 1) in let of_ : sum_by Ff views ≡ below f n = once f in
    let count = all_ones n in let mine : F1 v ≡ length v.workers = ones v.workers in
    let z1 : F1 spent ≡ 0 = refl in let zf : Ff spent ≡ 0 = refl in
    let none : sum_by F1 others ≡ 0 = omega (arith, t1, o1, count, mine, long, z1) in
    let no_weight : sum_by Ff others ≡ 0 = none_of F1 Ff (nobody f) others none in
    omega (arith, tf, of_, no_weight, zf)

-- the sent words of some workers are their seeds and sends
their_words : (c : Counters) (ws : List WorkerView) → All (FitsWorker c) ws
    → sum_by (λ w. w.seeds + w.sends) ws ≡ sum_by (λ w. get_or c.sent w.number 0) ws
their_words c [] fits = refl
their_words c (w ∷ ws) fits =
    let f = All-head (FitsWorker c) w ws fits in let sent = f.sent in
    let rest = their_words c ws (All-tail (FitsWorker c) w ws fits) in
    let a = sum_by-cons (λ (y : WorkerView). y.seeds + y.sends) w ws in
    let b = sum_by-cons (λ (y : WorkerView). get_or c.sent y.number 0) w ws in omega (arith, sent, rest, a, b)

pub tells_of : (n : ℕ) (c : Counters) (views : List View) (id : ℕ) (ws : List WorkerView) (p : PollView)
    → Counts n c views → get_elem? views id ≡ some (gathering ws p) → MeetingTells p.count ws p
tells_of n c views id ws p h at m told =
    let v : View = gathering ws p in let f = h.fits id v at in let fits = f.0 in
    let poll : FitsPoll c (pieces views) p = f.1 in
    let quiet : IsQuietAfter c (pieces views) m = poll.told m told in (
      seeds_handled n c views id m v h at fits quiet,
      (λ all. let count = poll.count in let long : length ws ≡ n = omega (arith, all, count, h.sent_length) in
          let whole = whole_seat n views id v (λ i. get_or c.sent i 0) h.once at long in
          let words = their_words c ws fits in
          let sums : below (λ i. get_or c.sent i 0) n ≡ sum c.sent =
          subst (λ j. below (λ i. get_or c.sent i 0) j ≡ sum c.sent) h.sent_length (weighed c.sent) in
          let said = quiet.1 in omega (arith, whole, words, sums, said)),
    )

pub meets : (k : Setup) (slots id : ℕ) (me : Seated) → IsPollers me
    → Allows (CountingHolds k) slots id me 0 (λ n. n) (λ n after. MeetsAt me after)
meets k slots id me seated =
    subst (λ (m : Seated). Allows (CountingHolds k) slots id m 0 (λ n. n) (λ n after. MeetsAt m after)) (sym seated)
    (go me.0.workers (poll_of me.0))
  where
    go : (ws : List WorkerView) (p : PollView)
        → Allows (CountingHolds k) slots id (gathering ws p, []) 0 (λ n. n)
        (λ n after. MeetsAt (gathering ws p, []) after)
    go ws p s holds homes at small =
        let c = holds.0 in let h = holds.2 in (
          gathering ws p,
          keeps,
          tt,
          (
            c,
            set_get s.words 0 0
                ∙ holds.1,
            subst (λ (vs : List View). Counts (length k.seeds.items) c vs)
                (sym (set_again s.views id (gathering ws p) at)) h,
          ),
          (refl, tells_of (length k.seeds.items) c s.views id ws p h at),
        )
