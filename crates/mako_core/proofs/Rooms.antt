-- How long histories are: a point for each call at most, and one for each snapshot.
use mathlib.Core.List.{IsPrefix}
use Rattle.std.proofs.Common.{◌≡◌, ℕ, suc, ◌+◌, ◌<◌, ◌≤◌, ⊎_elim, Bool, cond, ltb, List, [], ◌∷◌, ◌++◌, length, map}
use Rattle.std.proofs.Common.{sum_by, sym, ap, subst, refl, ◌∙◌, arith, length-append}
use Rattle.std.specs.List.{fold}
use Rattle.std.proofs.lemmas.Bool.{cases_eq, cases_lt, lt-ltb, le-ltb}
use Rattle.std.proofs.lemmas.List.{length-replicate}
use Rattle.std.proofs.lemmas.List.Sums.{sum_by-cons}
use Rattle.mako_model.specs.declared.call.Call.{Call}
use Rattle.mako_model.specs.declared.reply.Reply.{Reply}
use Rattle.mako_model.specs.declared.point.Point.{Point}
use Rattle.mako_model.specs.declared.point.Point.TheVariants.{Did, Snap}
use Rattle.mako_model.specs.Answering.{Answers}
use Rattle.mako_model.specs.Dead.{made_by}
use Rattle.mako_model.specs.Fronts.{Seen, calls_by}
use Rattle.mako_model.specs.Heaps.{Heap, opening_roots}
use Rattle.mako_model.specs.Lawful.{IsLawful, heap_after}
use Rattle.mako_model.specs.Legal.{opening_of, AreLawful}
use Rattle.mako_model.proofs.Changes.{change_of}
use Rattle.mako_model.proofs.CycleCounts.{few_snaps}
use Rattle.mako_model.proofs.DeadApart.{snaps_replied}
use Rattle.mako_script.specs.Programs.{ProgramView}
use Rattle.mako_script.specs.ScriptFacts.{facts_of}
use Rattle.mako_script.specs.Scripts.{ScriptView, command_count}
use Rattle.mako_state.proofs.Answered.{FollowsFrom, other_calls, own_calls, reply_within, rows_kept}

-- ---- answers and snapshots

-- 1 for an answer to the mutator with that number, or to one after it
abbrev answer_at : ℕ → Point → ℕ
answer_at first (Did m c r) = cond (ltb m first) 0 1
answer_at first (Snap cycle) = 0

abbrev snap_at : Point → ℕ
snap_at (Did m c r) = 0
snap_at (Snap cycle) = 1

abbrev answers_from : ℕ → List Point → ℕ
answers_from first points = sum_by (answer_at first) points

abbrev snaps_in : List Point → ℕ
snaps_in points = sum_by snap_at points

answer_before : (first m : ℕ) (c : Call) (r : Reply) → m < first → answer_at first (Did m c r) ≡ 0
answer_before first m c r low = ap (λ (b : Bool). cond b 0 1) (lt-ltb m first low)

answer_there : (first m : ℕ) (c : Call) (r : Reply) → first ≤ m → answer_at first (Did m c r) ≡ 1
answer_there first m c r low = ap (λ (b : Bool). cond b 0 1) (le-ltb m first low)

-- each point is one of them
each_is_one : (points : List Point) → length points ≡ answers_from 0 points + snaps_in points
each_is_one [] = refl
each_is_one (Did m c r ∷ points) =
    let rest = each_is_one points in
    let one = answer_there 0 m c r (omega arith) in
    let answers = sum_by-cons (answer_at 0) (Did m c r) points in
    let snaps = sum_by-cons snap_at (Did m c r) points in omega arith
each_is_one (Snap cycle ∷ points) =
    let rest = each_is_one points in
    let answers = sum_by-cons (answer_at 0) (Snap cycle) points in
    let snaps = sum_by-cons snap_at (Snap cycle) points in omega arith

-- ---- answers are of programs

answer_of_other : (m n : ℕ) (c : Call) (r : Reply) → (n ≡ m → ⊥)
    → answer_at m (Did n c r) ≡ answer_at (m + 1) (Did n c r)
answer_of_other m n c r other =
    ⊎_elim (λ l. answer_before m n c r l ∙ sym (answer_before (m + 1) n c r (omega arith)))
    (λ l. answer_there m n c r l ∙ sym (answer_there (m + 1) n c r (next l))) (cases_lt n m)
  where
    next : m ≤ n → m + 1 ≤ n
    next l = ⊎_elim (λ k. absurd (other (omega arith))) (λ k. k) (cases_lt n (m + 1))

-- those to one mutator are its calls
one_mutator : (m : ℕ) (points : List Point)
    → answers_from m points ≡ length (calls_by m points) + answers_from (m + 1) points
one_mutator m [] = refl
one_mutator m (Snap cycle ∷ points) =
    let rest = one_mutator m points in
    let here = sum_by-cons (answer_at m) (Snap cycle) points in
    let later = sum_by-cons (answer_at (m + 1)) (Snap cycle) points in omega arith
one_mutator m (Did n c r ∷ points) =
    let rest = one_mutator m points in
    let here = sum_by-cons (answer_at m) (Did n c r) points in
    let later = sum_by-cons (answer_at (m + 1)) (Did n c r) points in
    ⊎_elim
    (λ e. let calls = ap length (own_calls m n c r points e) in
    let now = answer_there m n c r (omega arith) in
    let none = answer_before (m + 1) n c r (omega arith) in omega arith)
    (λ other. let calls = ap length (other_calls m n c r points other) in
    let same = answer_of_other m n c r other in omega arith) (cases_eq n m)

prefix_short : (calls program : List Call) → IsPrefix calls program → length calls ≤ length program
prefix_short calls program t =
    let e : length (calls ++ t.0) ≡ length program = ap length t.1 in
    let both = length-append calls t.0 in omega arith

abbrev calls_in : List (List Call) → ℕ
calls_in programs = sum_by (λ (calls : List Call). length calls) programs

all_mutators : (first end : ℕ) (programs : List (List Call)) (points : List Point)
    → FollowsFrom first programs points → end ≡ first + length programs
    → answers_from first points ≤ calls_in programs + answers_from end points
all_mutators first end [] points follows is =
    let same : end ≡ first = omega arith in
    let e : answers_from end points ≡ answers_from first points = ap (λ z. answers_from z points) same in omega arith
all_mutators first end (p ∷ programs) points follows is =
    let rest = all_mutators (first + 1) end programs points
    (λ i m program e at. follows (suc i) m program (omega arith) at) (omega arith) in
    let one = one_mutator first points in
    let le = prefix_short (calls_by first points) p (follows 0 first p (omega arith) refl) in
    let all = sum_by-cons (λ (calls : List Call). length calls) p programs in omega arith

-- ---- no other mutator is answered

none_at : (end : ℕ) (h : Heap) (p : Point) → IsLawful h p → length h.roots ≡ end → answer_at end p ≡ 0
none_at end h (Did m c r) lawful rows =
    let low = reply_within h m c r lawful in answer_before end m c r (omega arith)
none_at end h (Snap cycle) lawful rows = refl

none_from : (end : ℕ) (h : Heap) (points : List Point) → AreLawful h points → length h.roots ≡ end
    → answers_from end points ≡ 0
none_from end h [] all rows = refl
none_from end h (p ∷ points) all rows =
    let rest = none_from end (heap_after h p) points all.1
    (rows_kept h (heap_after h p) (made_by p) (change_of h p all.0) ∙ rows) in
    let here = none_at end h p all.0 rows in
    let more = sum_by-cons (answer_at end) p points in omega arith

-- ---- snapshots

snaps_along : (h : Heap) (points : List Point) → (fold heap_after h points).snaps ≡ h.snaps + snaps_in points
snaps_along h [] = omega arith
snaps_along h (Did m c r ∷ points) =
    let rest = snaps_along (heap_after h (Did m c r)) points in
    let same = snaps_replied h m c r in
    let more = sum_by-cons snap_at (Did m c r) points in omega arith
snaps_along h (Snap cycle ∷ points) =
    let rest = snaps_along (heap_after h (Snap cycle)) points in
    let more = sum_by-cons snap_at (Snap cycle) points in omega arith

-- ---- so there is room

calls_counted : (ps : List ProgramView) → calls_in (map (λ p. p.calls) ps) ≡ command_count ps
calls_counted [] = refl
calls_counted (p ∷ ps) =
    sum_by-cons (λ (calls : List Call). length calls) p.calls (map (λ q. q.calls) ps)
    ∙ ap (λ k. length p.calls + k) (calls_counted ps)
    ∙ sym (sum_by-cons (λ (q : ProgramView). length q.calls) p ps)

pub history_fits : (s : ScriptView) (front : Seen) → Answers (facts_of s) front
    → length front.history ≤ command_count s.programs + s.numbers.cycles
history_fits s front answers =
    let w = facts_of s in
    let points = front.history in
    let all = each_is_one points in
    let from : FollowsFrom 0 w.programs points = λ i m program e is.
    subst (λ z. IsPrefix (calls_by z points) program) (let d : i ≡ m = omega arith in
    d) (answers.programs i program is) in
    let few = all_mutators 0 (length w.programs) w.programs points from (omega arith) in
    let none = none_from (length w.programs) (opening_of w) points answers.lawful.legal
    (length-replicate (length w.programs) (opening_roots w.roots)) in
    let counted = calls_counted s.programs in
    let snaps = snaps_along (opening_of w) points in
    let most = few_snaps w points answers.lawful.legal in omega arith
