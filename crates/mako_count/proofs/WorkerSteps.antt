-- Each kind of step of a worker keeps the rule.
use Rattle.std.proofs.Common.{◌≡◌, ◌≢◌, ◌⊎◌, ℕ, ◌+◌, ◌-◌, ◌*◌, ◌%◌, ◌^◌, ◌<◌, ◌==◌, Bool, if◌then◌else◌, List, []}
use Rattle.std.proofs.Common.{length, set, get_or, sum, sym, refl, ap, ◌∙◌, subst, arith, inl, inr, ⊎_elim, length-set}
use Rattle.std.proofs.Common.{get_or-set_same, get_or-set_other, eq-eqb, ne_eqb}
use mathlib.Core.Logic.{dite}
use native.Mathlib.Decide.{ℕ_discrete}
use Rattle.atomic_table.specs.Table.{Allows}
use Rattle.mako_count.specs.declared.views.Hand.{Hand}
use Rattle.mako_count.specs.declared.views.Hand.TheVariants.{Free, Reaching, Holding, Sending}
use Rattle.mako_count.specs.declared.views.WorkerView.{WorkerView}
use Rattle.mako_count.specs.declared.views.View.{View}
use Rattle.mako_count.specs.declared.setup.Setup.{Setup}
use Rattle.mako_count.specs.Views.{alone, worker_of, IsSeatOf, Seated}
use Rattle.mako_count.specs.Changes.{raised, filling, looking, grasped, rested}
use Rattle.mako_count.specs.Counting.{Counters, words_of, in_hand, pieces_at, FitsWorker, Counts, CountingHolds}
use Rattle.mako_count.proofs.Numbers.{up, down, sum-up, sum-down, below-up, at_most_sum, sum_bound}
use Rattle.mako_count.proofs.Lists.{set_get}
use Rattle.mako_count.proofs.Areas.{sent_at, sent_set, handled_at, handled_set, waiting_at, waiting_set}
use Rattle.mako_count.proofs.Kept.{Moves, poll_busy, poll_same, allowed}

-- what a kind of step owes of each state: new words, and what the seat knows then
abbrev Owed : Setup → WorkerView → ℕ → (ℕ → ℕ) → (ℕ → WorkerView) → Type 0
Owed k w i f after = (c : Counters) (views : List View) → Counts (length k.seeds.items) c views → FitsWorker c w
    → (d : Counters) × (x : WorkerView)
    × (set (words_of c) i (f (get_or (words_of c) i 0)) ≡ words_of d) × Moves (length k.seeds.items) c d w x
    × IsSeatOf (after (get_or (words_of c) i 0)) (alone x, [])

-- the same at a seat that is the worker's, and at the word's own number
at_seat : (k : Setup) (slots id : ℕ) (me : Seated) (i : ℕ) (f : ℕ → ℕ) (after : ℕ → WorkerView)
    → IsSeatOf (worker_of me.0) me → Owed k (worker_of me.0) i f after
    → Allows (CountingHolds k) slots id me i f (λ n m. IsSeatOf (after n) m)
at_seat k slots id me i f after seated owed =
    subst (λ (m : Seated). Allows (CountingHolds k) slots id m i f (λ n u. IsSeatOf (after n) u)) (sym seated)
    (allowed k slots id (worker_of me.0) i f (λ n m. IsSeatOf (after n) m) owed)

module _ (n : ℕ) (c : Counters) (views : List View) (h : Counts n c views) where
  sum_small : sum c.sent < 2 ^ 40
  sum_small = let s = sum_bound (2 ^ 33) c.sent (λ i. let b = h.small i in omega arith) in let l = h.sent_length in
      let few = h.few in omega (arith, s, l, few)

  pub handled_small : (i : ℕ) → i < n → get_or c.handled i 0 < 2 ^ 40
  handled_small i lt = let at = at_most_sum c.handled i (omega (arith, h.handled_length)) in let b = h.balance in
      let s = sum_small in omega (arith, at, b, s)

  waiting_small : (i : ℕ) → i < n → get_or c.waiting i 0 < 2 ^ 40
  waiting_small i lt = let at = at_most_sum c.waiting i (omega (arith, h.waiting_length)) in let b = h.balance in
      let s = sum_small in omega (arith, at, b, s)

rises : (m x : ℕ) → m ≡ x → x < 2 ^ 63 → (m + 1) % 2 ^ 64 ≡ x + 1
rises m x e small = omega arith

falls : (m x : ℕ) → m ≡ x → 0 < x → x < 2 ^ 63 → (m + (2 ^ 64 - 1)) % 2 ^ 64 ≡ x - 1
falls m x e some small = let r : (m + 18446744073709551615) % 18446744073709551616 ≡ x - 1 = omega arith in r

pub raises_sent : (k : Setup) (slots id : ℕ) (me : Seated) (i : ℕ) → IsSeatOf (worker_of me.0) me
    → (worker_of me.0).number ≡ i → (worker_of me.0).hand ≡ Holding
    → (worker_of me.0).seeds + (worker_of me.0).sends + 1 < 2 ^ 33
    → Allows (CountingHolds k) slots id me i (λ n. (n + 1) % 2 ^ 64)
    (λ n after. IsSeatOf (raised (worker_of me.0)) after)
raises_sent k slots id me i seated at holds room =
    at_seat k slots id me i (λ n. (n + 1) % 2 ^ 64) (λ n. raised (worker_of me.0)) seated
    (subst (λ j. Owed k (worker_of me.0) j (λ n. (n + 1) % 2 ^ 64) (λ n. raised (worker_of me.0))) at
    (go (worker_of me.0) holds room))
  where
    go : (w : WorkerView) → w.hand ≡ Holding → w.seeds + w.sends + 1 < 2 ^ 33
        → Owed k w w.number (λ n. (n + 1) % 2 ^ 64) (λ n. raised w)
    go w holds room c views h f =
        let n = length k.seeds.items in let i : ℕ = w.number in let lt : i < length c.sent = f.within in
        let d : Counters = record c { sent = up c.sent i } in
        let inside : i < n = omega (arith, h.sent_length) in let old : ℕ = get_or c.sent i 0 in
        let plain = rises (get_or (words_of c) i 0) old (sent_at n c h.sent_length h.handled_length i inside)
        (omega (arith, h.small i)) in
        let held : pieces_at w.hand ≡ 1 = ap pieces_at holds in
        let risen : get_or d.sent i 0 ≡ old + 1 = get_or-set_same c.sent i (old + 1) 0 lt in
        let else_ : (j : ℕ) → j ≢ i
        → get_or d.sent j 0 ≡ get_or c.sent j 0 = λ j ne. get_or-set_other c.sent i j (old + 1) 0 ne in
        let long : length c.sent ≡ length d.sent = sym (length-set c.sent i (old + 1)) in
        let sum_is = sum-up c.sent i lt in let fits_sent = f.sent in let fits_seeds = f.seeds in
        let one : in_hand w.hand ≡ 1 = ap in_hand holds in (
          d,
          raised w,
          ap (λ m. set (words_of c) i m) plain ∙ sent_set n c h.sent_length h.handled_length i (old + 1) inside,
          record {
            number = refl;
            sent_length = long;
            handled_length = refl;
            waiting_length = refl;
            small = λ j. dite (ℕ_discrete j i) (λ e. let b : get_or d.sent j 0 ≡ old + 1 = ap (λ q. get_or d.sent q 0) e
                ∙ risen in omega arith)
                (λ ne. let b = else_ j ne in let s = h.small j in omega arith);
            balance = omega (arith, held, sum_is);
            fits = record {
              within = omega arith;
              sent = omega arith;
              handled = f.handled;
              seeds = omega arith;
              reaching = λ e. absurd (let different : Sending ≡ Reaching = e in cc);
            };
            sent_else = else_;
            handled_else = λ j ne. refl;
            waiting_else = λ j ne. omega arith;
            polls = λ hands now p within change. poll_busy c d hands now p long refl (below-up c.sent i lt)
                (λ j. omega arith) (λ q. let none = q.1 in omega arith);
          },
          refl,
        )

pub fills_box : (k : Setup) (slots id : ℕ) (me : Seated) (n to i : ℕ) → length k.seeds.items ≡ n
    → IsSeatOf (worker_of me.0) me → (worker_of me.0).hand ≡ Sending → to < n → i ≡ 2 * n + to
    → Allows (CountingHolds k) slots id me i (λ m. (m + 1) % 2 ^ 64)
    (λ m after. IsSeatOf (filling i (worker_of me.0)) after)
fills_box k slots id me n to i crew seated sends inside at =
    at_seat k slots id me i (λ n. (n + 1) % 2 ^ 64) (λ n. filling i (worker_of me.0)) seated (go (worker_of me.0) sends)
  where
    go : (w : WorkerView) → w.hand ≡ Sending → Owed k w i (λ n. (n + 1) % 2 ^ 64) (λ n. filling i w)
    go w sends c views h f =
        let m = length k.seeds.items in let there : i ≡ 2 * m + to = omega arith in let within : to < m = omega arith in
        let lt : to < length c.waiting = omega (arith, h.waiting_length) in
        let d : Counters = record c { waiting = up c.waiting to } in
        let old : ℕ = get_or c.waiting to 0 in
        let word : get_or (words_of c) i 0 ≡ old = ap (λ j. get_or (words_of c) j 0) there
        ∙ waiting_at m c h.sent_length h.handled_length to in
        let plain = rises (get_or (words_of c) i 0) old word (omega (arith, waiting_small m c views h to within)) in
        let two : pieces_at w.hand ≡ 2 = ap pieces_at sends in let one : in_hand w.hand ≡ 1 = ap in_hand sends in
        let long : length c.waiting ≡ length d.waiting = sym (length-set c.waiting to (old + 1)) in
        let more = below-up c.waiting to lt in let sum_is = sum-up c.waiting to lt in let mine = more w.number in
        let fits_seeds = f.seeds in (
          d,
          filling i w,
          (λ q. set (words_of c) (there q) (plain q)) ∙ waiting_set m c h.sent_length h.handled_length to (old + 1),
          record {
            number = refl;
            sent_length = refl;
            handled_length = refl;
            waiting_length = long;
            small = h.small;
            balance = omega (arith, two, sum_is);
            fits = record {
              within = f.within;
              sent = f.sent;
              handled = f.handled;
              seeds = omega arith;
              reaching = λ e. absurd (let different : Holding ≡ Reaching = e in cc);
            };
            sent_else = λ j ne. refl;
            handled_else = λ j ne. refl;
            waiting_else = λ j ne. more j;
            polls = λ hands now p within change. poll_busy c d hands now p refl refl (λ j. omega arith)
                (λ j. omega arith) (λ q. let none = q.1 in omega arith);
          },
          refl,
        )

-- the hand after a look that found m
seen : (m : ℕ) → ((m ≡ 0) × ((if m == 0 then Free else Reaching) ≡ Free))
    ⊎ ((0 < m) × ((if m == 0 then Free else Reaching) ≡ Reaching))
seen m = dite (ℕ_discrete m 0) (λ e. inl (e, ap (λ (b : Bool). if b then Free else Reaching) (eq-eqb m 0 e)))
    (λ ne. inr (omega arith, ap (λ (b : Bool). if b then Free else Reaching) (ne_eqb m 0 ne)))

empty_hand : (m : ℕ) (h : Hand) → h ≡ (if m == 0 then Free else Reaching) → (pieces_at h ≡ 0) × (in_hand h ≡ 0)
    × (h ≡ Reaching → 0 < m)
empty_hand m h e = ⊎_elim
    (λ (t : (m ≡ 0) × ((if m == 0 then Free else Reaching) ≡ Free)). let is : h ≡ Free = e ∙ t.1 in
    (ap pieces_at is, ap in_hand is, (λ r. let different : Free ≡ Reaching = sym is ∙ r in absurd cc)))
    (λ (t : (0 < m) × ((if m == 0 then Free else Reaching) ≡ Reaching)). let is : h ≡ Reaching = e ∙ t.1 in
    (ap pieces_at is, ap in_hand is, (λ r. t.0))) (seen m)

pub looks_at_box : (k : Setup) (slots id : ℕ) (me : Seated) (n number i : ℕ) → length k.seeds.items ≡ n
    → IsSeatOf (worker_of me.0) me → (worker_of me.0).number ≡ number → (worker_of me.0).hand ≡ Free
    → i ≡ 2 * n + number
    → Allows (CountingHolds k) slots id me i (λ m. m) (λ m after. IsSeatOf (looking m (worker_of me.0)) after)
looks_at_box k slots id me n number i crew seated mine free at =
    at_seat k slots id me i (λ m. m) (λ m. looking m (worker_of me.0)) seated (go (worker_of me.0) mine free)
  where
    go : (w : WorkerView) → w.number ≡ number → w.hand ≡ Free → Owed k w i (λ m. m) (λ m. looking m w)
    go w mine free c views h f =
        let m = length k.seeds.items in let there : i ≡ 2 * m + number = omega arith in
        let found : ℕ = get_or (words_of c) i 0 in
        let word : found ≡ get_or c.waiting w.number 0 = ap (λ j. get_or (words_of c) j 0) there
        ∙ (waiting_at m c h.sent_length h.handled_length number ∙ ap (λ j. get_or c.waiting j 0) (sym mine)) in
        let none : pieces_at w.hand ≡ 0 = ap pieces_at free in let nothing : in_hand w.hand ≡ 0 = ap in_hand free in
        let x : WorkerView = looking found w in let hand = empty_hand found x.hand refl in let fits_seeds = f.seeds in
        let no_piece = hand.0 in let no_hand = hand.1 in (
          c,
          x,
          set_get (words_of c) i 0,
          record {
            number = refl;
            sent_length = refl;
            handled_length = refl;
            waiting_length = refl;
            small = h.small;
            balance = omega (arith, none, no_piece);
            fits = record {
              within = f.within;
              sent = f.sent;
              handled = f.handled;
              seeds = omega (arith, fits_seeds, nothing, no_hand);
              reaching = λ e. let some = hand.2 e in omega arith;
            };
            sent_else = λ j ne. refl;
            handled_else = λ j ne. refl;
            waiting_else = λ j ne. omega arith;
            polls = λ hands now p within change. poll_same c hands now p (omega (arith, change, none, no_piece));
          },
          refl,
        )

pub takes_from_box : (k : Setup) (slots id : ℕ) (me : Seated) (n number i : ℕ) → length k.seeds.items ≡ n
    → IsSeatOf (worker_of me.0) me → (worker_of me.0).number ≡ number → (worker_of me.0).hand ≡ Reaching
    → i ≡ 2 * n + number
    → Allows (CountingHolds k) slots id me i (λ m. (m + (2 ^ 64 - 1)) % 2 ^ 64)
    (λ m after. IsSeatOf (grasped (worker_of me.0)) after)
takes_from_box k slots id me n number i crew seated mine reaches at =
    at_seat k slots id me i (λ m. (m + (2 ^ 64 - 1)) % 2 ^ 64) (λ m. grasped (worker_of me.0)) seated
    (go (worker_of me.0) mine reaches)
  where
    go : (w : WorkerView) → w.number ≡ number → w.hand ≡ Reaching
        → Owed k w i (λ m. (m + (2 ^ 64 - 1)) % 2 ^ 64) (λ m. grasped w)
    go w mine reaches c views h f =
        let m = length k.seeds.items in let there : i ≡ 2 * m + w.number = omega arith in
        let within : w.number < m = omega (arith, f.within, h.sent_length) in
        let lt : w.number < length c.waiting = omega (arith, h.waiting_length) in
        let d : Counters = record c { waiting = down c.waiting w.number } in
        let old : ℕ = get_or c.waiting w.number 0 in let some : 0 < old = f.reaching reaches in
        let word : get_or (words_of c) i 0 ≡ old = ap (λ j. get_or (words_of c) j 0) there
        ∙ waiting_at m c h.sent_length h.handled_length w.number in
        let plain = falls (get_or (words_of c) i 0) old word some
        (omega (arith, waiting_small m c views h w.number within)) in
        let none : pieces_at w.hand ≡ 0 = ap pieces_at reaches in
        let nothing : in_hand w.hand ≡ 0 = ap in_hand reaches in
        let long : length c.waiting ≡ length d.waiting = sym (length-set c.waiting w.number (old - 1)) in
        let fallen : get_or d.waiting w.number 0 ≡ old - 1 = get_or-set_same c.waiting w.number (old - 1) 0 lt in
        let sum_is = sum-down c.waiting w.number lt some in let fits_seeds = f.seeds in
        let least = at_most_sum c.waiting w.number lt in (
          d,
          grasped w,
          (λ q. set (words_of c) (there q) (plain q))
              ∙ waiting_set m c h.sent_length h.handled_length w.number (old - 1),
          record {
            number = refl;
            sent_length = refl;
            handled_length = refl;
            waiting_length = long;
            small = h.small;
            balance = omega (arith, none, sum_is);
            fits = record {
              within = f.within;
              sent = f.sent;
              handled = f.handled;
              seeds = omega (arith, fallen, some, fits_seeds, nothing);
              reaching = λ e. absurd (let different : Holding ≡ Reaching = e in cc);
            };
            sent_else = λ j ne. refl;
            handled_else = λ j ne. refl;
            waiting_else = λ j ne. let e = get_or-set_other c.waiting w.number j (old - 1) 0 ne in omega arith;
            polls = λ hands now p within change. poll_busy c d hands now p refl refl (λ j. omega arith)
                (λ j. omega arith) (λ q. let empty = q.0 in omega (arith, empty, least, some));
          },
          refl,
        )

pub raises_handled : (k : Setup) (slots id : ℕ) (me : Seated) (n number i : ℕ) → length k.seeds.items ≡ n
    → IsSeatOf (worker_of me.0) me → (worker_of me.0).number ≡ number → (worker_of me.0).hand ≡ Holding → i ≡ n + number
    → Allows (CountingHolds k) slots id me i (λ m. (m + 1) % 2 ^ 64)
    (λ m after. IsSeatOf (rested (worker_of me.0)) after)
raises_handled k slots id me n number i crew seated mine holds at =
    at_seat k slots id me i (λ m. (m + 1) % 2 ^ 64) (λ m. rested (worker_of me.0)) seated
    (go (worker_of me.0) mine holds)
  where
    go : (w : WorkerView) → w.number ≡ number → w.hand ≡ Holding → Owed k w i (λ m. (m + 1) % 2 ^ 64) (λ m. rested w)
    go w mine holds c views h f =
        let m = length k.seeds.items in let there : i ≡ m + w.number = omega arith in
        let within : w.number < m = omega (arith, f.within, h.sent_length) in
        let lt : w.number < length c.handled = omega (arith, h.handled_length) in
        let d : Counters = record c { handled = up c.handled w.number } in
        let old : ℕ = get_or c.handled w.number 0 in
        let word : get_or (words_of c) i 0 ≡ old = ap (λ j. get_or (words_of c) j 0) there
        ∙ handled_at m c h.sent_length h.handled_length w.number within in
        let plain = rises (get_or (words_of c) i 0) old word
        (omega (arith, handled_small m c views h w.number within)) in
        let held : pieces_at w.hand ≡ 1 = ap pieces_at holds in let one : in_hand w.hand ≡ 1 = ap in_hand holds in
        let long : length c.handled ≡ length d.handled = sym (length-set c.handled w.number (old + 1)) in
        let risen : get_or d.handled w.number 0 ≡ old + 1 = get_or-set_same c.handled w.number (old + 1) 0 lt in
        let sum_is = sum-up c.handled w.number lt in let fits_seeds = f.seeds in let fits_handled = f.handled in (
          d,
          rested w,
          (λ q. set (words_of c) (there q) (plain q))
              ∙ handled_set m c h.sent_length h.handled_length w.number (old + 1) within,
          record {
            number = refl;
            sent_length = refl;
            handled_length = long;
            waiting_length = refl;
            small = h.small;
            balance = omega (arith, held, sum_is);
            fits = record {
              within = f.within;
              sent = f.sent;
              handled = omega arith;
              seeds = omega (arith, fits_seeds, one);
              reaching = λ e. absurd (let different : Free ≡ Reaching = e in cc);
            };
            sent_else = λ j ne. refl;
            handled_else = λ j ne. get_or-set_other c.handled w.number j (old + 1) 0 ne;
            waiting_else = λ j ne. omega arith;
            polls = λ hands now p within change. poll_busy c d hands now p refl long (λ j. omega arith)
                (below-up c.handled w.number lt) (λ q. let none = q.1 in omega arith);
          },
          refl,
        )
