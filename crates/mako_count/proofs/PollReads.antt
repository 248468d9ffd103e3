-- Each kind of the poller's reads keeps the rule.
use Rattle.std.proofs.Common.{◌≡◌, ◌≢◌, ℕ, zero, suc, ◌+◌, ◌^◌, ◌<◌, ◌≤◌, Bool, true, false, if◌then◌else◌, List, []}
use Rattle.std.proofs.Common.{◌∷◌, ◌++◌, length, length-append, set, get_or, drop, sum, sum_by, Some, sym, refl, ap}
use Rattle.std.proofs.Common.{◌∙◌, subst, arith, ⊎_elim, append_assoc, append-nil, drop-cons, drop_of_length-le}
use Rattle.std.proofs.Common.{le_refl}
use mathlib.Core.Option.{some}
use mathlib.Core.Logic.{dite}
use native.Mathlib.Decide.{dec_lt}
use lib.ListN.{get_elem?, get_or-append}
use lib.Seq.{get_or-append_seam}
use Rattle.atomic_table.specs.Table.{keeps, Allows}
use Rattle.atomic_table.proofs.Lists.{at_set}
use Rattle.mako_count.specs.declared.views.WorkerView.{WorkerView}
use Rattle.mako_count.specs.declared.views.Reading.{Reading}
use Rattle.mako_count.specs.declared.views.PollView.{PollView}
use Rattle.mako_count.specs.declared.views.View.{View}
use Rattle.mako_count.specs.declared.setup.Setup.{Setup}
use Rattle.mako_count.specs.Views.{gathering, poll_of, IsPollersSeat, IsPollers, Seated}
use Rattle.mako_count.specs.Changes.{tells, judged, begun, sent_read, handled_read}
use Rattle.mako_count.specs.Counting.{Counters, words_of, pieces, IsQuietAfter, IsBelow, HasRisen, IsUnchanged}
use Rattle.mako_count.specs.Counting.{FitsPoll, FitsView, Counts, CountingHolds}
use Rattle.mako_count.proofs.Numbers.{same_by_sum}
use Rattle.mako_count.proofs.Lists.{sum_by-set_at, set_get}
use Rattle.mako_count.proofs.Areas.{sent_at, handled_at}
use Rattle.mako_count.proofs.Kept.{seats_kept}
use Rattle.mako_count.proofs.Telling.{Telling, telling}
use Rattle.mako_count.proofs.WorkerSteps.{handled_small}

-- where the words are those read, and as much was handled as was sent, all is quiet
pub all_quiet : (c : Counters) (hands : ℕ) (r : Reading) → sum c.sent ≡ sum c.handled + sum c.waiting + hands
    → sum r.handled ≡ sum r.sent → c.sent ≡ r.sent → c.handled ≡ r.handled → IsQuietAfter c hands (sum r.sent)
all_quiet c hands r balance agree sent handled = let a = ap sum sent in let b = ap sum handled in
    ((omega (arith, a, b), omega (arith, a, b)), a)

first_first : (l : List ℕ) → 0 < length l → get_or l 0 0 ∷ drop 1 l ≡ l
first_first [] lt = absurd (omega arith)
first_first (x ∷ xs) lt = refl

below_first : (l : List ℕ) → IsBelow (get_or l 0 0 ∷ []) l
below_first l zero = le_refl (get_or l 0 0)
below_first l (suc i) = omega arith

below_next : (l words : List ℕ) → IsBelow l words → IsBelow (l ++ get_or words (length l) 0 ∷ []) words
below_next [] words below i = below_first words i
below_next (x ∷ xs) [] below zero = below zero
below_next (x ∷ xs) [] below (suc i) = below_next xs [] (λ j. below (suc j)) i
below_next (x ∷ xs) (y ∷ ys) below zero = below zero
below_next (x ∷ xs) (y ∷ ys) below (suc i) = below_next xs ys (λ j. below (suc j)) i

risen_next : (first l words : List ℕ) → HasRisen first l → IsBelow first words
    → HasRisen first (l ++ get_or words (length l) 0 ∷ [])
risen_next first l words risen below i lt =
    let x : ℕ = get_or words (length l) 0 in
    let long : length (l ++ x ∷ []) ≡ length l + 1 = length-append l (x ∷ []) in
    dite (dec_lt i (length l)) (λ here. let e = get_or-append l (x ∷ []) 0 i here in let r = risen i here in
    omega arith)
    (λ there. let at : i ≡ length l = omega (arith, lt, long, there) in
    let e : get_or (l ++ x ∷ []) i 0 ≡ x = ap (λ j. get_or (l ++ x ∷ []) j 0) at ∙ get_or-append_seam l x [] 0 in
    let b : get_or first i 0 ≤ x = subst (λ j. get_or first i 0 ≤ get_or words j 0) at (below i) in omega arith)

unchanged_next : (first l words : List ℕ) → length l < length words
    → IsUnchanged first (l ++ get_or words (length l) 0 ∷ []) words → IsUnchanged first l words
unchanged_next first l words lt e =
    let x : ℕ = get_or words (length l) 0 in
    let long : length (l ++ x ∷ []) ≡ suc (length l) = let h = length-append l (x ∷ []) in omega arith in
    ap (λ (r : List ℕ). l ++ r) (drop-cons words (length l) 0 lt)
    ∙ (sym (append_assoc l (x ∷ []) (drop (suc (length l)) words))
    ∙ (ap (λ n. (l ++ x ∷ []) ++ drop n words) (sym long) ∙ e))

begun_fits : (c : Counters) (hands : ℕ) (p : PollView) → FitsPoll c hands p → 0 < length c.sent
    → sum c.sent ≡ sum c.handled + sum c.waiting + hands → FitsPoll c hands (begun (get_or c.sent 0 0) p)
begun_fits c hands p f any balance = record {
  count = f.count;
  first_sent = f.later_sent;
  first_handled = f.later_handled;
  later_sent = below_first c.sent;
  later_handled = λ i. omega arith;
  risen_sent = risen_next p.later.sent [] c.sent (λ i lt. absurd (omega arith)) f.later_sent;
  risen_handled = λ i lt. absurd (omega arith);
  unchanged = λ e s h. all_quiet c hands p.later balance e (sym (first_first c.sent any) ∙ s) h;
  told = f.told;
}

sent_read_fits : (c : Counters) (hands : ℕ) (p : PollView) → FitsPoll c hands p → length p.later.sent < length c.sent
    → FitsPoll c hands (sent_read (get_or c.sent (length p.later.sent) 0) p)
sent_read_fits c hands p f lt = record {
  count = f.count;
  first_sent = f.first_sent;
  first_handled = f.first_handled;
  later_sent = below_next p.later.sent c.sent f.later_sent;
  later_handled = f.later_handled;
  risen_sent = risen_next p.first.sent p.later.sent c.sent f.risen_sent f.first_sent;
  risen_handled = f.risen_handled;
  unchanged = λ e s h. f.unchanged e (unchanged_next p.first.sent p.later.sent c.sent lt s) h;
  told = f.told;
}

all_read : (first later words : List ℕ) → length later ≡ length words → later ≡ first → IsUnchanged first later words
all_read first later words long e =
    let le : length words ≤ length later = omega arith in ap (λ (r : List ℕ). later ++ r) (drop_of_length-le words le)
    ∙ (append-nil later ∙ e)

told_quiet : (c : Counters) (hands : ℕ) (p : PollView) → FitsPoll c hands p → length c.handled ≡ length c.sent
    → Telling p → IsQuietAfter c hands (sum p.first.sent)
told_quiet c hands p f long t =
    let count = f.count in let a = t.first in let b = t.later in let a0 = a.0 in let a1 = a.1 in let b0 = b.0 in
    let b1 = b.1 in
    let sent : p.later.sent ≡ p.first.sent = same_by_sum p.first.sent p.later.sent (a0
    ∙ sym b0) f.risen_sent t.later_sent in
    let handled : p.later.handled ≡ p.first.handled = same_by_sum p.first.handled p.later.handled (a1
    ∙ sym b1) f.risen_handled (t.later_handled ∙ sym t.handled) in
    f.unchanged t.handled (all_read p.first.sent p.later.sent c.sent (omega (arith, b0, count)) sent)
    (all_read p.first.handled p.later.handled c.handled (omega (arith, b1, count, long)) handled)

judged_fits : (c : Counters) (hands : ℕ) (p : PollView) → FitsPoll c hands p → length c.handled ≡ length c.sent
    → FitsPoll c hands (judged p)
judged_fits c hands p f long = go (tells p) refl
  where
    go : (b : Bool) → tells p ≡ b → FitsPoll c hands (if b then record p { told = Some (sum p.first.sent) } else p)
    go true e = let quiet : IsQuietAfter c hands (sum p.first.sent) = told_quiet c hands p f long (telling p e) in
        record {
          count = f.count;
          first_sent = f.first_sent;
          first_handled = f.first_handled;
          later_sent = f.later_sent;
          later_handled = f.later_handled;
          risen_sent = f.risen_sent;
          risen_handled = f.risen_handled;
          unchanged = f.unchanged;
          told = λ n t. let same : sum p.first.sent ≡ n = cc in subst (λ m. IsQuietAfter c hands m) same quiet;
        }
    go false e = f

handled_read_fits : (c : Counters) (hands : ℕ) (p : PollView) → FitsPoll c hands p
    → length p.later.handled < length c.handled → length c.handled ≡ length c.sent
    → FitsPoll c hands (handled_read (get_or c.handled (length p.later.handled) 0) p)
handled_read_fits c hands p f lt long =
    let x : ℕ = get_or c.handled (length p.later.handled) 0 in
    let q : PollView = record p { later = record p.later { handled = p.later.handled ++ x ∷ [] } } in
    let fits : FitsPoll c hands q = record {
      count = f.count;
      first_sent = f.first_sent;
      first_handled = f.first_handled;
      later_sent = f.later_sent;
      later_handled = below_next p.later.handled c.handled f.later_handled;
      risen_sent = f.risen_sent;
      risen_handled = risen_next p.first.handled p.later.handled c.handled f.risen_handled f.first_handled;
      unchanged = λ e s h. f.unchanged e s (unchanged_next p.first.handled p.later.handled c.handled lt h);
      told = f.told;
    } in judged_fits c hands q fits long

-- a read: the seat knows the number found, which is small
abbrev Owed : Setup → PollView → ℕ → (ℕ → PollView → PollView) → Type 0
Owed k p i g = (c : Counters) (views : List View) → Counts (length k.seeds.items) c views → FitsPoll c (pieces views) p
    → FitsPoll c (pieces views) (g (get_or (words_of c) i 0) p) × (get_or (words_of c) i 0 < 2 ^ 40)

read_allowed : (k : Setup) (slots id : ℕ) (ws : List WorkerView) (p : PollView) (i : ℕ) (g : ℕ → PollView → PollView)
    → Owed k p i g
    → Allows (CountingHolds k) slots id (gathering ws p, []) i (λ n. n) (λ n m. IsPollersSeat ws (g n p) m
    × (n < 2 ^ 40))
read_allowed k slots id ws p i g owed s holds homes at small =
    let c = holds.0 in let h = holds.2 in let n = length k.seeds.items in let f = h.fits id (gathering ws p) at in
    let same_word : get_or s.words i 0 ≡ get_or (words_of c) i 0 = ap (λ l. get_or l i 0) holds.1 in
    let x : ℕ = get_or s.words i 0 in
    let r : FitsPoll c (pieces s.views) (g x p)
    × (x < 2 ^ 40) = subst (λ y. FitsPoll c (pieces s.views) (g y p)
    × (y < 2 ^ 40)) (sym same_word) (owed c s.views h f.1) in
    let q : PollView = g x p in
    let total : (w : WorkerView → ℕ)
    → sum_by (λ v. sum_by w v.workers) (set s.views id (gathering ws q)) ≡ sum_by
    (λ v. sum_by w v.workers) s.views = λ w.
    let t = sum_by-set_at (λ (v : View). sum_by w v.workers) s.views id (gathering ws p) (gathering ws q) at in
    omega arith in (
      gathering ws q,
      keeps,
      tt,
      (
        c,
        set_get s.words i 0 ∙ holds.1,
        seats_kept n c s.views (set s.views id (gathering ws q)) h total (λ b u there. ⊎_elim
            (λ (t : (b ≡ id) × (gathering ws q ≡ u)). subst (λ v. FitsView c (pieces s.views) v) t.1 (f.0, r.0))
            (λ (t : (b ≢ id) × (get_elem? s.views b ≡ some u)). h.fits b u t.1)
            (at_set s.views id b (gathering ws q) u there)),
      ),
      (refl, r.1),
    )

at_desk : (k : Setup) (slots id : ℕ) (me : Seated) (i : ℕ) (g : ℕ → PollView → PollView) → IsPollers me
    → Owed k (poll_of me.0) i g
    → Allows (CountingHolds k) slots id me i (λ n. n) (λ n m. IsPollersSeat me.0.workers (g n (poll_of me.0)) m
    × (n < 2 ^ 40))
at_desk k slots id me i g seated owed =
    subst (λ (m : Seated). Allows (CountingHolds k) slots id m i (λ n. n)
    (λ n u. IsPollersSeat me.0.workers (g n (poll_of me.0)) u × (n < 2 ^ 40))) (sym seated)
    (read_allowed k slots id me.0.workers (poll_of me.0) i g owed)

pub begins_pass : (k : Setup) (slots id : ℕ) (me : Seated) (n : ℕ) → length k.seeds.items ≡ n → 0 < n → IsPollers me
    → Allows (CountingHolds k) slots id me 0 (λ n. n) (λ n m. IsPollersSeat me.0.workers (begun n (poll_of me.0)) m
    × (n < 2 ^ 40))
begins_pass k slots id me n crew any seated = at_desk k slots id me 0 begun seated (λ c views h f.
    let m = length k.seeds.items in let word = sent_at m c h.sent_length h.handled_length 0 (omega arith) in
    let b = h.small 0 in
    subst (λ x. FitsPoll c (pieces views) (begun x (poll_of me.0)) × (x < 2 ^ 40)) (sym word)
    (begun_fits c (pieces views) (poll_of me.0) f (omega (arith, h.sent_length)) h.balance, omega arith))

pub reads_sent : (k : Setup) (slots id : ℕ) (me : Seated) (n i : ℕ) → length k.seeds.items ≡ n → i < n
    → length (poll_of me.0).later.sent ≡ i → IsPollers me
    → Allows (CountingHolds k) slots id me i (λ n. n) (λ n m. IsPollersSeat me.0.workers (sent_read n (poll_of me.0)) m
    × (n < 2 ^ 40))
reads_sent k slots id me n i crew inside next seated = at_desk k slots id me i sent_read seated (λ c views h f.
    let m = length k.seeds.items in let word = sent_at m c h.sent_length h.handled_length i (omega arith)
    ∙ ap (λ j. get_or c.sent j 0) (sym next) in
    let b = h.small (length (poll_of me.0).later.sent) in
    subst (λ x. FitsPoll c (pieces views) (sent_read x (poll_of me.0)) × (x < 2 ^ 40)) (sym word)
    (sent_read_fits c (pieces views) (poll_of me.0) f (omega (arith, h.sent_length)), omega arith))

pub reads_handled : (k : Setup) (slots id : ℕ) (me : Seated) (n number i : ℕ) → length k.seeds.items ≡ n → number < n
    → i ≡ n + number → length (poll_of me.0).later.handled ≡ number → IsPollers me
    → Allows (CountingHolds k) slots id me i (λ n. n)
    (λ n m. IsPollersSeat me.0.workers (handled_read n (poll_of me.0)) m × (n < 2 ^ 40))
reads_handled k slots id me n number i crew inside at next seated =
    at_desk k slots id me i handled_read seated (λ c views h f.
    let m = length k.seeds.items in let there : i ≡ m + number = omega arith in
    let word : get_or (words_of c) i 0 ≡ get_or c.handled (length (poll_of me.0).later.handled) 0 =
    ap (λ j. get_or (words_of c) j 0) there
    ∙ (handled_at m c h.sent_length h.handled_length number (omega arith)
    ∙ ap (λ j. get_or c.handled j 0) (sym next)) in
    let b = handled_small m c views h (length (poll_of me.0).later.handled) (omega arith) in
    subst (λ x. FitsPoll c (pieces views) (handled_read x (poll_of me.0)) × (x < 2 ^ 40)) (sym word) (
      handled_read_fits c (pieces views) (poll_of me.0) f (omega (arith, h.handled_length)) (h.handled_length
          ∙ sym h.sent_length),
      b,
    ))
