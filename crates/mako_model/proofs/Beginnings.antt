-- To begin with a front is reflexive and transitive, and goes for the finished cycles too.
use Rattle.std.proofs.Common.{◌≡◌, ℕ, suc, ◌+◌, ◌≤◌, List, [], ◌∷◌, ◌++◌, length, slice_get, Some, sym, ap, subst, refl}
use Rattle.std.proofs.Common.{◌∙◌, arith, append-nil, append_assoc}
use Rattle.std.proofs.lemmas.Option.{slice_get_within}
use Rattle.mako_words.specs.declared.name.Name.{Name}
use Rattle.mako_model.specs.Legal.{Facts, IsLegal}
use Rattle.mako_model.specs.Dead.{AreFreed}
use Rattle.mako_model.specs.LawfulFronts.{IsLawfulFront}
use Rattle.mako_model.proofs.FreedLists.{freed_once}
use Rattle.mako_model.proofs.Growth.{freed_stays}
use mathlib.Core.List.{IsPrefix}
use Rattle.mako_model.specs.Fronts.{Seen, BeginsWith}

pub prefix_itself : {A : Type 0} (xs : List A) → IsPrefix xs xs
prefix_itself xs = ([], append-nil xs)

pub prefix_trans : {A : Type 0} (xs ys zs : List A) → IsPrefix xs ys → IsPrefix ys zs → IsPrefix xs zs
prefix_trans xs ys zs a b = (a.0 ++ b.0, sym (append_assoc xs a.0 b.0) ∙ ap (λ l. l ++ b.0) a.1 ∙ b.1)

pub begins_with_itself : (front : Seen) → BeginsWith front front
begins_with_itself front = record { history = prefix_itself front.history; finished = omega arith }

pub begins_with_front : (a b c : Seen) → BeginsWith a b → BeginsWith b c → BeginsWith a c
begins_with_front a b c x y =
    let first = x.finished in let second = y.finished in
    record { history = prefix_trans c.history b.history a.history y.history x.history; finished = omega arith }

-- ---- the finished cycles

lists_prefix : {A : Type 0} (xs ys : List A) → length xs ≤ length ys
    → ((i : ℕ) (x y : A) → slice_get xs i ≡ Some x → slice_get ys i ≡ Some y → x ≡ y) → IsPrefix xs ys
lists_prefix [] ys l same = (ys, refl)
lists_prefix (x ∷ xs) [] l same = absurd (omega arith)
lists_prefix (x ∷ xs) (y ∷ ys) l same =
    let first : x ≡ y = same 0 x y refl refl in
    let rest = lists_prefix xs ys (omega arith) (λ i a b e f. same (suc i) a b e f) in
    (rest.0, λ i. first i ∷ rest.1 i)

-- what a cycle of the shorter front freed is what that cycle of the longer one freed
same_freed : (w : Facts) (whole front : Seen) (i : ℕ) (names found : List Name) → IsLawfulFront w whole
    → IsLawfulFront w front → IsPrefix front.history whole.history
    → slice_get front.finished i ≡ Some names → slice_get whole.finished i ≡ Some found → names ≡ found
same_freed w whole front i names found whole_is front_is begins at there =
    let within = slice_get_within front.finished i names at in
    let begun = front_is.finished in
    let long = front.history ++ begins.0 in
    let stays = freed_stays w front.history begins.0 (i + 1) names (subst (IsLegal w) (sym begins.1) whole_is.legal)
    (omega arith) (front_is.freed i names at) in
    freed_once w whole.history (i + 1) names found (subst (λ h. AreFreed w h (i + 1) names) begins.1 stays)
    (whole_is.freed i found there)

pub finished_begin : (w : Facts) (whole front : Seen) → IsLawfulFront w whole → IsLawfulFront w front
    → BeginsWith whole front → IsPrefix front.finished whole.finished
finished_begin w whole front whole_is front_is begins =
    lists_prefix front.finished whole.finished begins.finished
    (λ i names found at there. same_freed w whole front i names found whole_is front_is begins.history at there)
