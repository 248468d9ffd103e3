-- The calls that made objects weigh no more than those of all programs: no more names are made than programs have
-- calls for.
use mathlib.Core.List.{IsPrefix}
use Rattle.std.proofs.Common.{◌≡◌, ℕ, zero, suc, ◌+◌, ◌<◌, ◌≤◌, ⊎_elim, Bool, cond, ltb, List, [], ◌∷◌, length}
use Rattle.std.proofs.Common.{flat_map, slice_get, Some, sum_by, sym, ap, subst, refl, ◌∙◌, arith, eq-eqb, ne_eqb}
use Rattle.std.proofs.Common.{length-append, length-set}
use Rattle.std.proofs.lemmas.Bool.{cases_eq, cases_lt, lt-ltb, le-ltb}
use Rattle.std.proofs.lemmas.List.Sums.{sum_by-cons, sum_by-append}
use Rattle.std.proofs.lemmas.Option.{none-some}
use Rattle.mako_words.specs.declared.name.Name.{Name}
use Rattle.mako_words.specs.declared.value.Value.{Value}
use Rattle.mako_model.specs.declared.call.Call.{Call}
use Rattle.mako_model.specs.declared.call.Call.TheVariants as call
use Rattle.mako_model.specs.declared.reply.Reply.{Reply}
use Rattle.mako_model.specs.declared.reply.Reply.TheVariants.{Made}
use Rattle.mako_model.specs.declared.point.Point.{Point}
use Rattle.mako_model.specs.declared.point.Point.TheVariants.{Did, Snap}
use Rattle.mako_model.specs.Fronts.{calls_by}
use Rattle.mako_model.specs.Heaps.{Heap}
use Rattle.mako_model.specs.Lawful.{HasRoot, IsLawful, heap_after}
use Rattle.mako_model.specs.Legal.{AreLawful}
use Rattle.mako_model.specs.Dead.{made_by}
use Rattle.mako_model.proofs.Changes.{Change, Nothing, Snapped, Rooted, Written, New, change_of}
use Rattle.mako_model.proofs.Lists.{cell}
use Rattle.mako_pause.specs.Opening.{is_new}
use Rattle.mako_state.proofs.Answered.{FollowsFrom, other_calls, own_calls, row_within, rows_kept}

-- ---- the calls that made objects, each with its weight

-- the weight of the call, if it made an object for the mutator with that number or for one after it
abbrev pub weight_at : (Call → ℕ) → ℕ → Point → ℕ
weight_at weight first (Did m c (Made name)) = cond (ltb m first) 0 (weight c)
weight_at weight first p = 0

-- the sum over all points
abbrev pub weights : (Call → ℕ) → ℕ → List Point → ℕ
weights weight first [] = 0
weights weight first (p ∷ points) = weight_at weight first p + weights weight first points

weight_before : (weight : Call → ℕ) (first m : ℕ) (c : Call) (name : Name) → m < first
    → weight_at weight first (Did m c (Made name)) ≡ 0
weight_before weight first m c name l = ap (λ (b : Bool). cond b 0 (weight c)) (lt-ltb m first l)

weight_there : (weight : Call → ℕ) (first m : ℕ) (c : Call) (name : Name) → first ≤ m
    → weight_at weight first (Did m c (Made name)) ≡ weight c
weight_there weight first m c name l = ap (λ (b : Bool). cond b 0 (weight c)) (le-ltb m first l)

weight_le : (weight : Call → ℕ) (first m : ℕ) (c : Call) (r : Reply) → weight_at weight first (Did m c r) ≤ weight c
weight_le weight first m c (Made name) =
    ⊎_elim (λ l. let e = weight_before weight first m c name l in omega arith)
    (λ l. let e = weight_there weight first m c name l in omega arith) (cases_lt m first)
weight_le weight first m c r = omega arith

next_after : (first m : ℕ) → (m ≡ first → ⊥) → first ≤ m → first + 1 ≤ m
next_after first m other l = ⊎_elim (λ k. omega arith) (λ k. absurd (other (omega arith))) (cases_lt first m)

weight_other : (weight : Call → ℕ) (first m : ℕ) (c : Call) (r : Reply) → (m ≡ first → ⊥)
    → weight_at weight first (Did m c r) ≡ weight_at weight (first + 1) (Did m c r)
weight_other weight first m c (Made name) other =
    ⊎_elim
    (λ l. weight_before weight first m c name l ∙ sym (weight_before weight (first + 1) m c name (omega arith)))
    (λ l. weight_there weight first m c name l
    ∙ sym (weight_there weight (first + 1) m c name (next_after first m other l))) (cases_lt m first)
weight_other weight first m c r other = refl

-- those of one mutator weigh no more than all of its answered calls
one_mutator : (weight : Call → ℕ) (m : ℕ) (points : List Point)
    → weights weight m points ≤ sum_by weight (calls_by m points) + weights weight (m + 1) points
one_mutator weight m [] = omega arith
one_mutator weight m (Snap cycle ∷ points) = let rest = one_mutator weight m points in omega arith
one_mutator weight m (Did n c r ∷ points) =
    let rest = one_mutator weight m points in
    ⊎_elim
    (λ e. let sum : sum_by weight (calls_by m (Did n c r ∷ points)) ≡ weight c + sum_by weight (calls_by m points) =
    ap (sum_by weight) (own_calls m n c r points e) ∙ sum_by-cons weight c (calls_by m points) in
    let le = weight_le weight m n c r in omega arith)
    (λ other. let sum : sum_by weight (calls_by m (Did n c r ∷ points)) ≡ sum_by weight (calls_by m points) =
    ap (sum_by weight) (other_calls m n c r points other) in
    let same = weight_other weight m n c r other in omega arith) (cases_eq n m)

-- ---- all programs

prefix_le : (weight : Call → ℕ) (calls program : List Call) → IsPrefix calls program
    → sum_by weight calls ≤ sum_by weight program
prefix_le weight calls program t =
    let e : sum_by weight program ≡ sum_by weight calls + sum_by weight t.0 =
    ap (sum_by weight) (sym t.1) ∙ sum_by-append weight calls t.0 in omega arith

follows_rest : (first : ℕ) (p : List Call) (programs : List (List Call)) (points : List Point)
    → FollowsFrom first (p ∷ programs) points → FollowsFrom (first + 1) programs points
follows_rest first p programs points follows i m program e at = follows (suc i) m program (omega arith) at

pub all_programs : (weight : Call → ℕ) (p : List Call) (programs : List (List Call))
    → sum_by weight (flat_map (λ calls. calls) (p ∷ programs))
    ≡ sum_by weight p + sum_by weight (flat_map (λ calls. calls) programs)
all_programs weight p programs = sum_by-append weight p (flat_map (λ calls. calls) programs)

-- those of all mutators weigh no more than the programs, but for mutators that have no program
pub all_mutators : (weight : Call → ℕ) (first end : ℕ) (programs : List (List Call)) (points : List Point)
    → FollowsFrom first programs points → end ≡ first + length programs
    → weights weight first points ≤ sum_by weight (flat_map (λ calls. calls) programs) + weights weight end points
all_mutators weight first end [] points follows is =
    let same : end ≡ first = omega arith in
    let e : weights weight end points ≡ weights weight first points = ap (λ z. weights weight z points) same in
    omega arith
all_mutators weight first end (p ∷ programs) points follows is =
    let rest = all_mutators weight (first + 1) end programs points
    (follows_rest first p programs points follows) (omega arith) in
    let one = one_mutator weight first points in
    let le = prefix_le weight (calls_by first points) p (follows 0 first p (omega arith) refl) in
    let all = all_programs weight p programs in omega arith

-- ---- an object is made by a `new` of a mutator that has a program

lawful_new : (h : Heap) (m : ℕ) (c : Call) (name : Name) → IsLawful h (Did m c (Made name))
    → (root : ℕ) × (fields : ℕ) × (c ≡ call.New root fields) × (HasRoot h m root)
lawful_new h m (call.New root fields) name l = (root, fields, refl, l.0)
lawful_new h m c name l = absurd l

none_at : (weight : Call → ℕ) (end : ℕ) (h : Heap) (p : Point) → IsLawful h p → length h.roots ≡ end
    → weight_at weight end p ≡ 0
none_at weight end h (Did m c (Made name)) lawful rows =
    let t = lawful_new h m c name lawful in
    let l = row_within h.roots m t.0 t.3.0 t.3.1 in weight_before weight end m c name (omega arith)
none_at weight end h p lawful rows = refl

pub none_from : (weight : Call → ℕ) (end : ℕ) (h : Heap) (points : List Point) → AreLawful h points
    → length h.roots ≡ end → weights weight end points ≡ 0
none_from weight end h [] all rows = refl
none_from weight end h (p ∷ points) all rows =
    let rest = none_from weight end (heap_after h p) points all.1
    (rows_kept h (heap_after h p) (made_by p) (change_of h p all.0) ∙ rows) in
    let here = none_at weight end h p all.0 rows in omega arith

-- ---- names

-- 1 for a call that makes an object
abbrev pub one_new : Call → ℕ
one_new c = cond (is_new c) 1 0

made_at : (h : Heap) (p : Point) → IsLawful h p → length (made_by p) ≤ weight_at one_new 0 p
made_at h (Did m c (Made name)) lawful =
    let t = lawful_new h m c name lawful in
    let one : one_new c ≡ 1 = ap one_new t.2 in
    let e = weight_there one_new 0 m c name (omega arith) in omega arith
made_at h p lawful = omega arith

pub made_few : (h : Heap) (points : List Point) → AreLawful h points
    → length (flat_map made_by points) ≤ weights one_new 0 points
made_few h [] all = omega arith
made_few h (p ∷ points) all =
    let rest = made_few (heap_after h p) points all.1 in
    let here = made_at h p all.0 in
    let sum = length-append (made_by p) (flat_map made_by points) in omega arith
