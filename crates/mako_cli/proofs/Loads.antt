-- What a summary counts: each answered command once, in the list of its mutator's replies.
use Rattle.std.proofs.Common.{◌≡◌, ℕ, zero, suc, ◌+◌, ◌<◌, ◌≤◌, ◌==◌, ⊎_elim, Bool, true, false, cond, refl, sym, ap}
use Rattle.std.proofs.Common.{List, [], ◌∷◌, length, take, slice_get, Some, sum_by, subst, ◌∙◌, arith, add-one}
use Rattle.std.proofs.Common.{append_assoc}
use Rattle.std.specs.List.{count_by}
use Rattle.std.proofs.Math.Seq.{take-length}
use Rattle.std.proofs.lemmas.Bool.{eq-eqb, ne_eqb}
use Rattle.std.proofs.lemmas.Bool.Decides.{eqb_tells}
use Rattle.std.proofs.lemmas.List.{length-replicate}
use Rattle.std.proofs.lemmas.List.Sums.{sum_by-cons, sum_by_more}
use Rattle.std.proofs.lemmas.Option.{get_or_from_slice_get}
use Rattle.std.specs.Prelude.{◌++◌, codes}
use Rattle.mako_model.specs.declared.call.Call.{Call}
use Rattle.mako_model.specs.declared.reply.Reply.{Reply}
use Rattle.mako_model.specs.declared.point.Point.{Point}
use Rattle.mako_model.specs.declared.point.Point.TheVariants.{Did, Snap}
use Rattle.mako_model.specs.declared.outcome.Outcome.{Outcome}
use Rattle.mako_model.specs.Fronts.{Seen, replies_to}
use Rattle.mako_model.specs.Heaps.{Heap, opening_roots}
use Rattle.mako_model.specs.Lawful.{IsLawful, heap_after}
use Rattle.mako_model.specs.Legal.{Facts, AreLawful, IsLegal, opening_of}
use Rattle.mako_model.specs.Outcomes.{IsWhole, reply_lists}
use Rattle.mako_model.proofs.Changes.{change_of}
use Rattle.mako_script.specs.Outputs.{last_line}
use Rattle.mako_state.proofs.Answered.{reply_within, rows_kept}
use Rattle.mako_cli.specs.Loads.{AreOfMutators, count_line, is_answer, summary_text}

-- ---- a legal history has answers of the script's mutators alone

rows_after : (h : Heap) (p : Point) → IsLawful h p → length (heap_after h p).roots ≡ length h.roots
rows_after h p lawful = rows_kept h (heap_after h p) _ (change_of h p lawful)

lawful_within : (h : Heap) (count : ℕ) (points : List Point) → length h.roots ≡ count → AreLawful h points →
    AreOfMutators count points
lawful_within h count [] rows all = tt
lawful_within h count (Did m c r ∷ points) rows all = (
  subst (λ (n : ℕ). m < n) rows (reply_within h m c r all.0),
  lawful_within (heap_after h (Did m c r)) count points (rows_after h (Did m c r) all.0 ∙ rows) all.1,
)
lawful_within h count (Snap cycle ∷ points) rows all =
    lawful_within (heap_after h (Snap cycle)) count points (rows_after h (Snap cycle) all.0 ∙ rows) all.1

pub legal_within : (w : Facts) (history : List Point) → IsLegal w history → AreOfMutators (length w.programs) history
legal_within w history legal =
    lawful_within (opening_of w) (length w.programs) history
    (length-replicate (length w.programs) (opening_roots w.roots)) legal

-- ---- the replies to so many mutators, in a history

abbrev answered : ℕ → List Point → ℕ
answered zero points = 0
answered (suc k) points = answered k points + length (replies_to k points)

none_answered : (k : ℕ) → answered k [] ≡ 0
none_answered zero = refl
none_answered (suc k) = let e = none_answered k in omega (arith, e)

snap_answered : (k cycle : ℕ) (points : List Point) → answered k (Snap cycle ∷ points) ≡ answered k points
snap_answered zero cycle points = refl
snap_answered (suc k) cycle points = ap (λ (n : ℕ). n + length (replies_to k points)) (snap_answered k cycle points)

own_reply : (m : ℕ) (c : Call) (r : Reply) (points : List Point) →
    length (replies_to m (Did m c r ∷ points)) ≡ length (replies_to m points) + 1
own_reply m c r points = let same : (m == m) ≡ true = eq-eqb m m refl in rw same (omega arith)

other_reply : (m k : ℕ) (c : Call) (r : Reply) (points : List Point) → (m ≡ k → ⊥) →
    length (replies_to k (Did m c r ∷ points)) ≡ length (replies_to k points)
other_reply m k c r points other = let no : (m == k) ≡ false = ne_eqb m k other in rw no refl

beyond_answered : (k m : ℕ) (c : Call) (r : Reply) (points : List Point) → k ≤ m →
    answered k (Did m c r ∷ points) ≡ answered k points
beyond_answered zero m c r points far = refl
beyond_answered (suc k) m c r points far =
    let before = beyond_answered k m c r points (omega (arith, far)) in
    let here = other_reply m k c r points (λ same. omega (arith, far, same)) in
    omega (arith, before, here)

more_answered : (k m : ℕ) (c : Call) (r : Reply) (points : List Point) → m < k →
    answered k (Did m c r ∷ points) ≡ answered k points + 1
more_answered zero m c r points within = absurd (omega (arith, within))
more_answered (suc k) m c r points within = ⊎_elim
    (λ same.
    let before = beyond_answered k m c r points (omega (arith, same.1)) in
    let here = subst (λ (n : ℕ). length (replies_to n (Did m c r ∷ points)) ≡ length (replies_to n points) + 1)
    same.1 (own_reply m c r points) in
    omega (arith, before, here))
    (λ other.
    let before = more_answered k m c r points (let no : m ≡ k → ⊥ = other.1 in omega (arith, within, no)) in
    let here = other_reply m k c r points other.1 in
    omega (arith, before, here))
    (eqb_tells m k)

-- together they are all answered commands, where each is one of these mutators
all_answered : (count : ℕ) (points : List Point) → AreOfMutators count points →
    answered count points ≡ count_by is_answer points
all_answered count [] of_them = none_answered count
all_answered count (Did m c r ∷ points) of_them =
    let more = more_answered count m c r points of_them.0 in
    let rest = all_answered count points of_them.1 in
    let first = sum_by-cons (λ (p : Point). cond (is_answer p) 1 0) (Did m c r) points in
    omega (arith, more, rest, first)
all_answered count (Snap cycle ∷ points) of_them =
    let same = snap_answered count cycle points in
    let rest = all_answered count points of_them in
    let first = sum_by-cons (λ (p : Point). cond (is_answer p) 1 0) (Snap cycle) points in
    omega (arith, same, rest, first)

-- ---- the replies of an outcome

replies_listed : (o : Outcome) → IsWhole o → (k : ℕ) → k ≤ length (reply_lists o) →
    sum_by length (take k (reply_lists o)) ≡ answered k o.front.history
replies_listed o whole zero within = refl
replies_listed o whole (suc k) within =
    let before = replies_listed o whole k (omega (arith, within)) in
    let one = sum_by_more length (reply_lists o) k [] (omega (arith, within)) in
    let at = whole.replies k (omega (arith, within)) in
    let here = ap length (get_or_from_slice_get (reply_lists o) k _ [] at) in
    subst (λ (n : ℕ). sum_by length (take n (reply_lists o)) ≡ answered (suc k) o.front.history) (add-one k)
    (omega (arith, before, one, here))

pub replies_counted : (o : Outcome) → IsWhole o → AreOfMutators (length (reply_lists o)) o.front.history →
    sum_by length (reply_lists o) ≡ count_by is_answer o.front.history
replies_counted o whole of_them =
    ap (sum_by length) (sym (take-length (reply_lists o)))
    ∙ replies_listed o whole (length (reply_lists o)) (omega arith)
    ∙ all_answered (length (reply_lists o)) o.front.history of_them

-- ---- sums of lengths, and the lines of a summary

pub one_more : {A : Type 0} (lists : List (List A)) (i : ℕ) (list : List A) →
    i < length lists → slice_get lists i ≡ Some list →
    sum_by length (take (i + 1) lists) ≡ sum_by length (take i lists) + length list
one_more lists i list within here =
    let more = sum_by_more length lists i [] within in
    let same = ap length (get_or_from_slice_get lists i list [] here) in
    omega (arith, more, same)

joined : (s1 s2 s3 s4 s5 a b c d e : List ℕ) →
    s1 ≡ a → s2 ≡ s1 ++ b → s3 ≡ s2 ++ c → s4 ≡ s3 ++ d → s5 ≡ s4 ++ e →
    s5 ≡ a ++ (b ++ (c ++ (d ++ e)))
joined s1 s2 s3 s4 s5 a b c d e one two three four five =
    let to_two : s2 ≡ a ++ b = two ∙ ap (λ (s : List ℕ). s ++ b) one in
    let to_three : s3 ≡ (a ++ b) ++ c = three ∙ ap (λ (s : List ℕ). s ++ c) to_two in
    let to_four : s4 ≡ ((a ++ b) ++ c) ++ d = four ∙ ap (λ (s : List ℕ). s ++ d) to_three in
    five ∙ ap (λ (s : List ℕ). s ++ e) to_four ∙ append_assoc ((a ++ b) ++ c) d e
    ∙ append_assoc (a ++ b) c (d ++ e) ∙ append_assoc a b (c ++ (d ++ e))

-- the lines one behind the other are the summary of a front, where the counts are its counts
pub summed_up : (number : ℕ) (front : Seen) (finished : Bool) (commands cycles freed : ℕ) (last s1 s2 s3 s4 s5 : List ℕ)
    → commands ≡ count_by is_answer front.history → cycles ≡ length front.finished →
    freed ≡ sum_by length front.finished → last ≡ last_line finished →
    s1 ≡ count_line (codes "load ") number → s2 ≡ s1 ++ count_line (codes "commands ") commands →
    s3 ≡ s2 ++ count_line (codes "cycles ") cycles → s4 ≡ s3 ++ count_line (codes "freed ") freed → s5 ≡ s4 ++ last →
    s5 ≡ summary_text number front finished
summed_up number front finished commands cycles freed last s1 s2 s3 s4 s5 all_commands all_cycles all_freed ends
    one two three four five =
    joined s1 s2 s3 s4 s5 _ _ _ _ _ one
    (two ∙ ap (λ (n : ℕ). s1 ++ count_line (codes "commands ") n) all_commands)
    (three ∙ ap (λ (n : ℕ). s2 ++ count_line (codes "cycles ") n) all_cycles)
    (four ∙ ap (λ (n : ℕ). s3 ++ count_line (codes "freed ") n) all_freed)
    (five ∙ ap (λ (s : List ℕ). s4 ++ s) ends)
