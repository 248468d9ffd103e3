-- A seat is cut off, and a worker's seat is taken in.
use Rattle.std.proofs.Common.{◌≡◌, ◌≢◌, ℕ, ◌<◌, List, [], ◌∷◌, ◌++◌, length, set, sum_by, sym, ap, ◌∙◌, subst, arith}
use Rattle.std.proofs.Common.{⊎_elim}
use mathlib.Core.Option.{some}
use lib.ListN.{get_elem?}
use Rattle.std.proofs.lemmas.List.Sums.{sum_by-cons, sum_by_push}
use Rattle.std.proofs.lemmas.List.Elements.{All-head, All-tail, All-push}
use Rattle.atomic_table.specs.Table.{Splits, Joins}
use Rattle.atomic_table.proofs.Lists.{at_set, at_snoc, set_else}
use Rattle.mako_count.specs.declared.views.WorkerView.{WorkerView}
use Rattle.mako_count.specs.declared.views.PollView.{PollView}
use Rattle.mako_count.specs.declared.views.View.{View}
use Rattle.mako_count.specs.declared.setup.Setup.{Setup}
use Rattle.mako_count.specs.Views.{alone, gathering, poll_of, worker_of, first_of, rest_of, met_with, spent, IsPollers}
use Rattle.mako_count.specs.Views.{IsSeatOf, Seated}
use Rattle.mako_count.specs.Counting.{pieces, FitsWorker, FitsView, CountingHolds}
use Rattle.mako_count.proofs.Lists.{sum_by-set_at}
use Rattle.mako_count.proofs.Kept.{seats_kept}

dealt : (k : Setup) (id : ℕ) (w : WorkerView) (ws : List WorkerView) (p : PollView)
    → Splits (CountingHolds k) id (gathering (w ∷ ws) p) (gathering ws p) (alone w)
dealt k id w ws p s holds at =
    let c = holds.0 in let h = holds.2 in let views = s.views in let f = h.fits id (gathering (w ∷ ws) p) at in
    let left : View = gathering ws p in let right : View = alone w in (
      c,
      holds.1,
      seats_kept (length k.seeds.items) c views (set views id left ++ right ∷ []) h
          (λ g. let t = sum_by-set_at (λ (v : View). sum_by g v.workers) views id (gathering (w ∷ ws) p) left at in
          let more = sum_by-cons g w ws in
          let last = sum_by_push (λ (v : View). sum_by g v.workers) (set views id left) right in
          omega (arith, t, more, last))
          (λ b u there. ⊎_elim
          (λ (e : get_elem? (set views id left) b ≡ some u). ⊎_elim
          (λ (t : (b ≡ id) × (left ≡ u)). subst (λ v. FitsView c (pieces views) v) t.1
          (All-tail (FitsWorker c) w ws f.0, f.1))
          (λ (t : (b ≢ id) × (get_elem? views b ≡ some u)). h.fits b u t.1) (at_set views id b left u e))
          (λ (e : right ≡ u). subst (λ v. FitsView c (pieces views) v) e
          (All-push (FitsWorker c) [] w (λ j d lt. absurd (omega arith)) (All-head (FitsWorker c) w ws f.0), tt))
          (at_snoc (set views id left) right u b there)),
    )

-- the first worker of a poller's seat gets a seat of its own
pub deals : (k : Setup) (id : ℕ) (me : Seated) → IsPollers me → 0 < length me.0.workers
    → Splits (CountingHolds k) id me.0 (rest_of me.0) (first_of me.0)
deals k id me seated more = go me.0.workers (ap (λ (m : Seated). m.0) seated) more
  where
    go : (ws : List WorkerView) → me.0 ≡ gathering ws (poll_of me.0) → 0 < length ws
        → Splits (CountingHolds k) id me.0 (rest_of me.0) (first_of me.0)
    go [] e lt = absurd (omega arith)
    go (w ∷ ws) e lt = subst (λ (v : View). Splits (CountingHolds k) id v (rest_of v) (first_of v)) (sym e)
        (dealt k id w ws (poll_of me.0))

joined : (k : Setup) (id other : ℕ) (ms : List WorkerView) (p : PollView) (x : WorkerView)
    → Joins (CountingHolds k) id (gathering ms p) other (alone x) (gathering (ms ++ x ∷ []) p) spent
joined k id other ms p x s holds at apart there =
    let c = holds.0 in let h = holds.2 in let views = s.views in let v : View = gathering ms p in
    let both : View = gathering (ms ++ x ∷ []) p in let w : View = alone x in
    let first : List View = set views id both in
    let at_other : get_elem? views other ≡ some w = sym (set_else views id other both apart) ∙ there in
    let f = h.fits id v at in let g = h.fits other w at_other in (
      c,
      holds.1,
      seats_kept (length k.seeds.items) c views (set first other spent) h
          (λ q. let t = sum_by-set_at (λ (u : View). sum_by q u.workers) views id v both at in
          let r = sum_by-set_at (λ (u : View). sum_by q u.workers) first other w spent there in
          let more = sum_by_push q ms x in omega (arith, t, r, more))
          (λ b u e. ⊎_elim
          (λ (t : (b ≡ other) × (spent ≡ u)). subst (λ y. FitsView c (pieces views) y) t.1
          ((λ j d lt. absurd (omega arith)), tt))
          (λ (t : (b ≢ other) × (get_elem? first b ≡ some u)). ⊎_elim
          (λ (q : (b ≡ id) × (both ≡ u)). subst (λ y. FitsView c (pieces views) y) q.1
          (All-push (FitsWorker c) ms x f.0 (All-head (FitsWorker c) x [] g.0), f.1))
          (λ (q : (b ≢ id) × (get_elem? views b ≡ some u)). h.fits b u q.1) (at_set views id b both u t.1))
          (at_set first other b spent u e)),
    )

-- a worker's seat is taken in by the poller's
pub joins : (k : Setup) (id other : ℕ) (me it : Seated) → IsPollers me → IsSeatOf (worker_of it.0) it
    → Joins (CountingHolds k) id me.0 other it.0 (met_with me.0 it.0) spent
joins k id other me it seated alone_ =
    subst (λ (v : View). Joins (CountingHolds k) id v other it.0 (met_with v it.0) spent)
    (sym (ap (λ (m : Seated). m.0) seated))
    (subst (λ (w : View). Joins (CountingHolds k) id (gathering me.0.workers (poll_of me.0)) other w
    (met_with (gathering me.0.workers (poll_of me.0)) w) spent) (sym (ap (λ (m : Seated). m.0) alone_))
    (joined k id other me.0.workers (poll_of me.0) (worker_of it.0)))

pub still_pollers : (me it : Seated) → IsPollers me → IsSeatOf (worker_of it.0) it → IsPollers (met_with me.0 it.0, [])
still_pollers me it seated alone_ = let e : me.0 ≡ gathering me.0.workers (poll_of me.0) =
    ap (λ (m : Seated). m.0) seated in
    λ i. (record { workers = me.0.workers ++ it.0.workers; poll = (e i).poll }, [])
