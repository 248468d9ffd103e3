-- No more names were made than programs may make, and the board's.
use mathlib.Core.List.{IsPrefix}
use Rattle.std.proofs.Common.{◌≡◌, ◌≤◌, cond, List, [], ◌∷◌, length, flat_map, sum_by, count_by, subst, refl, arith}
use Rattle.std.proofs.lemmas.List.{length-replicate}
use Rattle.std.proofs.lemmas.List.Sums.{sum_by-cons}
use Rattle.mako_shape.specs.declared.numbers.Numbers.{Numbers}
use Rattle.mako_model.specs.declared.call.Call.{Call}
use Rattle.mako_model.specs.declared.call.Call.TheVariants.{New, Num, CopyRoot, DropRoot, Get, Put, Show, Collect}
use Rattle.mako_model.specs.declared.point.Point.{Point}
use Rattle.mako_model.specs.Fronts.{calls_by}
use Rattle.mako_model.specs.Heaps.{opening_roots}
use Rattle.mako_model.specs.Legal.{Facts, opening_of}
use Rattle.mako_state.proofs.Answered.{FollowsFrom}
use Rattle.mako_state.proofs.Weights.{one_new, all_programs, all_mutators, none_from, made_few}
use Rattle.mako_joint.specs.Joints.{JointScene, Joint}
use Rattle.mako_pause.specs.Opening.{is_new}
use Rattle.mako_model.specs.Dead.{names_made}
use Rattle.mako_sitting.specs.Seats.{names_room}

same_calls : (c : Call) → one_new c ≡ cond (is_new c) 1 0
same_calls (New root fields) = refl
same_calls (Num root number) = refl
same_calls (CopyRoot to from) = refl
same_calls (DropRoot root) = refl
same_calls (Get to from field) = refl
same_calls (Put to field from) = refl
same_calls (Show root) = refl
same_calls Collect = refl

news_in : (p : List Call) → sum_by one_new p ≡ count_by is_new p
news_in [] = refl
news_in (c ∷ p) =
    let a = sum_by-cons one_new c p in
    let b = sum_by-cons (λ (x : Call). cond (is_new x) 1 0) c p in
    let d = same_calls c in
    let rest = news_in p in
    omega arith

news_in_all : (ps : List (List Call))
    → sum_by one_new (flat_map (λ (calls : List Call). calls) ps)
    ≡ sum_by (λ (calls : List Call). count_by is_new calls) ps
news_in_all [] = refl
news_in_all (p ∷ ps) =
    let a = all_programs one_new p ps in
    let b = news_in p in
    let d = sum_by-cons (λ (calls : List Call). count_by is_new calls) p ps in
    let rest = news_in_all ps in
    omega arith

pub names_are_few : (n : Numbers) (w : Facts) (s : JointScene) → Joint n w s
    → length (names_made s.front.history) ≤ names_room w
names_are_few n w s j =
    let points : List Point = s.front.history in
    let legal = j.names.hold.answers.lawful.legal in
    let follows = j.names.hold.answers.programs in
    let from : FollowsFrom 0 w.programs points = λ i m program e is.
    subst (λ z. IsPrefix (calls_by z points) program) (let d : i ≡ m = omega arith in d) (follows i program is) in
    let made = made_few (opening_of w) points legal in
    let all = all_mutators one_new 0 (length w.programs) w.programs points from (omega arith) in
    let none = none_from one_new (length w.programs) (opening_of w) points legal
    (length-replicate (length w.programs) (opening_roots w.roots)) in
    let sum = news_in_all w.programs in
    omega arith
