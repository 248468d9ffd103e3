-- What the passes of a poll come to.
use Rattle.std.proofs.Common.{◌≡◌, ℕ, ◌+◌, ◌<◌, Bool, true, false, if◌then◌else◌, List, [], ◌∷◌, ◌++◌, length}
use Rattle.std.proofs.Common.{length-append, sum, Option, Some, sym, refl, ap, ◌∙◌, subst, arith}
use Rattle.std.proofs.lemmas.List.Sums.{sum_by_push}
use Rattle.mako_count.specs.declared.views.Reading.{Reading}
use Rattle.mako_count.specs.declared.views.PollView.{PollView}
use Rattle.mako_count.specs.Changes.{tells, judged}
use Rattle.mako_count.specs.Passes.{told_after, IsPassTo, IsNumbersOf}
use Rattle.mako_count.proofs.Telling.{Telling, telling}

-- a judgement changes what is told alone
record Judged (p q : PollView) : Type 0 where
  first : q.first ≡ p.first
  later : q.later ≡ p.later
  count : q.count ≡ p.count
  passes : q.passes ≡ p.passes
  again : q.again ≡ p.again
  told : q.told ≡ told_after p.told p
  after : (o : Option ℕ) → told_after o q ≡ told_after o p

is_judged : (p : PollView) → Judged p (judged p)
is_judged p = go (tells p) refl
  where
    go : (b : Bool) → tells p ≡ b → Judged p (if b then record p { told = Some (sum p.first.sent) } else p)
    go true e = record {
      first = refl;
      later = refl;
      count = refl;
      passes = refl;
      again = refl;
      told = sym (ap (λ (b : Bool). if b then Some (sum p.first.sent) else p.told) e);
      after = λ o. refl;
    }
    go false e = record {
      first = refl;
      later = refl;
      count = refl;
      passes = refl;
      again = refl;
      told = sym (ap (λ (b : Bool). if b then Some (sum p.first.sent) else p.told) e);
      after = λ o. refl;
    }

not_telling : (p : PollView) → (Telling p → ⊥) → tells p ≡ false
not_telling p none = go (tells p) refl
  where
    go : (b : Bool) → tells p ≡ b → b ≡ false
    go true e = absurd (none (telling p e))
    go false e = refl

untold : (o : Option ℕ) (p : PollView) → (Telling p → ⊥) → told_after o p ≡ o
untold o p none = ap (λ (b : Bool). if b then Some (sum p.first.sent) else o) (not_telling p none)

push_sum : (xs : List ℕ) (x : ℕ) → sum (xs ++ x ∷ []) ≡ sum xs + x
push_sum xs x = sum_by_push (λ (n : ℕ). n) xs x

pub next_pass : (i : ℕ) (p q r : PollView) (sent handled x y : ℕ) → i < p.count → IsPassTo i p q sent handled
    → IsNumbersOf q r x y → IsPassTo (i + 1) p r (sent + x) (handled + y)
next_pass i p q r sent handled x y before t s =
    let m : PollView = record q {
      later = record {
        sent = q.later.sent ++ x ∷ [];
        handled = q.later.handled ++ y ∷ [];
      };
    } in let j = is_judged m in
    let is : r ≡ judged m = s.0 in
    let untold_yet : q.told ≡ p.told = t.told
    ∙ untold p.told q (λ z. let l = z.later in let whole = l.1 in let long = t.handled_length in
    let count = t.count in omega (arith, whole, long, count, before)) in
    let small = t.small in let small_sent = small.0 in let small_handled = small.1 in let new_sent = s.1 in
    let new_handled = s.2 in
    subst (λ (z : PollView). IsPassTo (i + 1) p z (sent + x) (handled + y)) (sym is) record {
      first = j.first ∙ t.first;
      count = j.count ∙ t.count;
      passes = j.passes ∙ t.passes;
      again = j.again ∙ t.again;
      sent_length = ap (λ (l : Reading). length l.sent) j.later ∙ length-append q.later.sent (x ∷ [])
          ∙ ap (λ n. n + 1) t.sent_length;
      handled_length = ap (λ (l : Reading). length l.handled) j.later ∙ length-append q.later.handled (y ∷ [])
          ∙ ap (λ n. n + 1) t.handled_length;
      sent_sum = ap (λ (l : Reading). sum l.sent) j.later ∙ push_sum q.later.sent x ∙ ap (λ n. n + x) t.sent_sum;
      handled_sum = ap (λ (l : Reading). sum l.handled) j.later ∙ push_sum q.later.handled y
          ∙ ap (λ n. n + y) t.handled_sum;
      told = j.told ∙ (ap (λ (o : Option ℕ). told_after o m) untold_yet ∙ sym (j.after p.told));
      small = (omega arith, omega arith);
    }
