-- When two passes tell.
use Rattle.std.proofs.Common.{◌≡◌, ℕ, true, ◌&&◌, ◌==◌, length, sum, eqb-true}
use Rattle.std.proofs.lemmas.Bool.{and_parts}
use Rattle.mako_count.specs.declared.views.Reading.{Reading}
use Rattle.mako_count.specs.declared.views.PollView.{PollView}
use Rattle.mako_count.specs.Changes.{is_whole, agree, tells}
use Rattle.mako_count.specs.Passes.{IsWholeReading}

-- two whole passes of one poll, whose sums agree
pub record Telling (p : PollView) : Type 0 where
  pub again : p.again ≡ true
  pub first : IsWholeReading p.count p.first
  pub later : IsWholeReading p.count p.later
  pub handled : sum p.first.handled ≡ sum p.first.sent
  pub later_sent : sum p.later.sent ≡ sum p.first.sent
  pub later_handled : sum p.later.handled ≡ sum p.first.sent

whole_parts : (n : ℕ) (r : Reading) → is_whole n r ≡ true → IsWholeReading n r
whole_parts n r e = let t = and_parts (length r.sent == n) (length r.handled == n) e in
    (eqb-true (length r.sent) n t.0, eqb-true (length r.handled) n t.1)

pub telling : (p : PollView) → tells p ≡ true → Telling p
telling p e =
    let t = and_parts p.again ((is_whole p.count p.first && is_whole p.count p.later) && agree p.first p.later) e in
    let u = and_parts (is_whole p.count p.first && is_whole p.count p.later) (agree p.first p.later) t.1 in
    let w = and_parts (is_whole p.count p.first) (is_whole p.count p.later) u.0 in
    let a = and_parts (sum p.first.handled == sum p.first.sent)
    ((sum p.later.sent == sum p.first.sent) && (sum p.later.handled == sum p.first.sent)) u.1 in
    let b = and_parts (sum p.later.sent == sum p.first.sent) (sum p.later.handled == sum p.first.sent) a.1 in record {
      again = t.0;
      first = whole_parts p.count p.first w.0;
      later = whole_parts p.count p.later w.1;
      handled = eqb-true (sum p.first.handled) (sum p.first.sent) a.0;
      later_sent = eqb-true (sum p.later.sent) (sum p.first.sent) b.0;
      later_handled = eqb-true (sum p.later.handled) (sum p.first.sent) b.1;
    }
