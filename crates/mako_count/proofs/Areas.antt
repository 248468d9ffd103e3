-- The words are three lists one after another: what is read and written in one of them.
use Rattle.std.proofs.Common.{◌≡◌, ℕ, ◌+◌, ◌-◌, ◌*◌, ◌<◌, ◌≤◌, List, ◌++◌, length, set, get_or, ap, ◌∙◌, subst, arith}
use Rattle.std.proofs.Common.{get_or-append-add}
use lib.ListN.{get_or-append}
use Rattle.std.proofs.lemmas.List.{set-append_left, set-append_right}
use Rattle.mako_count.specs.Counting.{Counters, words_of}

right_set : (xs ys : List ℕ) (n i x : ℕ) → length xs ≡ n → set (xs ++ ys) (n + i) x ≡ xs ++ set ys i x
right_set xs ys n i x e = let far : n ≤ n + i = omega arith in let back : (n + i) - n ≡ i = omega arith in
    set-append_right xs ys n (n + i) x e far ∙ ap (λ j. xs ++ set ys j x) back

right_at : (xs ys : List ℕ) (n i : ℕ) → length xs ≡ n → get_or (xs ++ ys) (n + i) 0 ≡ get_or ys i 0
right_at xs ys n i e = subst (λ m. get_or (xs ++ ys) (m + i) 0 ≡ get_or ys i 0) e (get_or-append-add xs ys i 0)

module _ (n : ℕ) (c : Counters) (sent_length : length c.sent ≡ n) (handled_length : length c.handled ≡ n) where
  pub sent_at : (i : ℕ) → i < n → get_or (words_of c) i 0 ≡ get_or c.sent i 0
  sent_at i lt = get_or-append c.sent (c.handled ++ c.waiting) 0 i (omega arith)

  pub sent_set : (i x : ℕ) → i < n → set (words_of c) i x ≡ words_of record c { sent = set c.sent i x }
  sent_set i x lt = set-append_left c.sent (c.handled ++ c.waiting) i x (omega arith)

  pub handled_at : (i : ℕ) → i < n → get_or (words_of c) (n + i) 0 ≡ get_or c.handled i 0
  handled_at i lt = right_at c.sent (c.handled ++ c.waiting) n i sent_length
      ∙ get_or-append c.handled c.waiting 0 i (omega arith)

  pub handled_set : (i x : ℕ) → i < n → set (words_of c) (n + i) x ≡ words_of record c { handled = set c.handled i x }
  handled_set i x lt = right_set c.sent (c.handled ++ c.waiting) n i x sent_length
      ∙ ap (λ l. c.sent ++ l) (set-append_left c.handled c.waiting i x (omega arith))

  pub waiting_at : (i : ℕ) → get_or (words_of c) (2 * n + i) 0 ≡ get_or c.waiting i 0
  waiting_at i = let e : 2 * n + i ≡ n + (n + i) = omega arith in
      ap (λ j. get_or (words_of c) j 0) e
      ∙ (right_at c.sent (c.handled ++ c.waiting) n (n + i) sent_length
      ∙ right_at c.handled c.waiting n i handled_length)

  pub waiting_set : (i x : ℕ) → set (words_of c) (2 * n + i) x ≡ words_of record c { waiting = set c.waiting i x }
  waiting_set i x = let e : 2 * n + i ≡ n + (n + i) = omega arith in
      ap (λ j. set (words_of c) j x) e
      ∙ (right_set c.sent (c.handled ++ c.waiting) n (n + i) x sent_length
      ∙ ap (λ l. c.sent ++ l) (right_set c.handled c.waiting n i x handled_length))
