-- Objects are small, since programs ask for small ones.
use Rattle.std.proofs.Common.{◌≡◌, ℕ, zero, suc, ◌+◌, ◌<◌, ◌≤◌, ⊎_elim, List, [], ◌∷◌, ◌++◌, length, get_or}
use Rattle.std.proofs.Common.{slice_get, Contains, Some, sym, subst, refl, arith, eq-eqb, ne_eqb}
use Rattle.std.specs.List.{fold}
use Rattle.std.proofs.lemmas.Bool.{cases_eq, cases_lt}
use Rattle.std.proofs.lemmas.List.Elements.{Contains-append_left}
use Rattle.std.proofs.lemmas.Option.{none-some, slice_get_cases}
use Rattle.mako_words.specs.declared.value.Value.{Value}
use Rattle.mako_model.specs.declared.call.Call.{Call}
use Rattle.mako_model.specs.declared.call.Call.TheVariants as call
use Rattle.mako_model.specs.declared.reply.Reply.{Reply}
use Rattle.mako_model.specs.declared.reply.Reply.TheVariants as reply
use Rattle.mako_model.specs.declared.point.Point.{Point}
use Rattle.mako_model.specs.declared.point.Point.TheVariants.{Did, Snap}
use Rattle.mako_model.specs.Fronts.{calls_by, FollowsPrograms}
use Rattle.mako_model.specs.Heaps.{Heap}
use Rattle.mako_model.specs.Lawful.{HasRoot, IsLawfulReply, heap_after}
use Rattle.mako_model.specs.Legal.{Facts, opening_of, state_of, AreLawful, IsLegal}
use Rattle.mako_model.proofs.Following.{no_snap_did}
use Rattle.mako_model.proofs.Histories.{legal_at, legal_prefix}
use Rattle.mako_model.proofs.RootRows.{has_roots}
use Rattle.mako_model.proofs.Sizes.{points_keep_small}
use Rattle.mako_model.specs.Sizes.{ObjectsAreSmall, IsSmallPoint}
use Rattle.mako_phases.proofs.Members.{no_member, head_or, first_in, later_in}
use Rattle.mako_clearing.specs.Smallness.{AsksForSmall, ObjectsStaySmall}

-- ---- all points

small_along : (h : Heap) (points : List Point) → AreLawful h points
    → ((p : Point) → Contains points p → IsSmallPoint p) → ObjectsAreSmall h
    → ObjectsAreSmall (fold heap_after h points)
small_along h [] legal each all = all
small_along h (p ∷ points) legal each all =
    small_along (heap_after h p) points legal.1 (λ q here. each q (later_in p points q here))
    (points_keep_small.point h p legal.0 (each p (first_in p points)) all)

-- ---- the calls of a history are those of its programs

own_calls : (n m : ℕ) (c : Call) (r : Reply) (points : List Point) → n ≡ m
    → calls_by m (Did n c r ∷ points) ≡ c ∷ calls_by m points
own_calls n m c r points e = let is = eq-eqb n m e in rw is refl

other_calls : (n m : ℕ) (c : Call) (r : Reply) (points : List Point) → (n ≡ m → ⊥)
    → calls_by m (Did n c r ∷ points) ≡ calls_by m points
other_calls n m c r points other = let is = ne_eqb n m other in rw is refl

called : (m : ℕ) (c : Call) (r : Reply) (points : List Point) → Contains points (Did m c r)
    → Contains (calls_by m points) c
called m c r [] here = absurd (no_member (Did m c r) here)
called m c r (Snap cycle ∷ points) here =
    ⊎_elim (λ e. absurd (no_snap_did cycle m c r e)) (λ t. called m c r points t)
    (head_or points (Snap cycle) (Did m c r) here)
called m c r (Did n d s ∷ points) here =
    ⊎_elim
    (λ e. let mutator : n ≡ m = cc in let same : d ≡ c = cc in
    subst (λ cs. Contains cs c) (sym (own_calls n m d s points mutator))
    (subst (λ (k : Call). Contains (d ∷ calls_by m points) k) same (first_in d (calls_by m points))))
    (λ t. let rest = called m c r points t in
    ⊎_elim
    (λ e. subst (λ cs. Contains cs c) (sym (own_calls n m d s points e)) (later_in d (calls_by m points) c rest))
    (λ other. subst (λ cs. Contains cs c) (sym (other_calls n m d s points other)) rest) (cases_eq n m))
    (head_or points (Did n d s) (Did m c r) here)

record Parted (points : List Point) (p : Point) : Type 0 where
  before : List Point
  after : List Point
  is : points ≡ before ++ p ∷ after

part_at : (points : List Point) (p : Point) → Contains points p → Parted points p
part_at [] p here = absurd (no_member p here)
part_at (q ∷ points) p here =
    ⊎_elim (λ e. record { before = []; after = points; is = λ i. e i ∷ points })
    (λ t. let s = part_at points p t in record { before = q ∷ s.before; after = s.after; is = λ i. q ∷ s.is i })
    (head_or points q p here)

no_row : (rows : List (List Value)) (m q : ℕ) (v : Value) → length rows ≤ m
    → slice_get (get_or rows m []) q ≡ Some v → ⊥
no_row [] m q v le at = none-some v at
no_row (row ∷ rows) zero q v le at = absurd (omega arith)
no_row (row ∷ rows) (suc m) q v le at = no_row rows m q v (omega arith) at

-- who has a root has a program
has_program : (w : Facts) (history : List Point) (m root : ℕ) → IsLegal w history
    → HasRoot (state_of w history) m root → m < length w.programs
has_program w history m root legal has =
    let rows = (has_roots w history legal).rows in
    ⊎_elim (λ l. l)
    (λ over. absurd
    (no_row (state_of w history).roots m root has.0
    (let d : length (state_of w history).roots ≤ m = omega arith in d) has.1))
    (cases_lt m (length w.programs))

new_is_small : (w : Facts) (history : List Point) (m root fields : ℕ) (r : Reply) → IsLegal w history
    → FollowsPrograms w.programs history → AsksForSmall w → Contains history (Did m (call.New root fields) r) →
    fields ≤ 14
new_is_small w history m root fields r legal follows asks here =
    let s = part_at history (Did m (call.New root fields) r) here in
    let along : IsLegal w (s.before ++ Did m (call.New root fields) r ∷ s.after) = subst (IsLegal w) s.is legal in
    let has = has_of s.before r (legal_at w s.before (Did m (call.New root fields) r) s.after along) in
    let low = has_program w s.before m root
    (legal_prefix w s.before (Did m (call.New root fields) r ∷ s.after) along) has in
    ⊎_elim
    (λ t. let rest = follows m t.0 t.2 in
    asks.news m root fields t.0 t.2
    (subst (λ cs. Contains cs (call.New root fields)) rest.1
    (Contains-append_left (calls_by m history) rest.0 (call.New root fields)
    (called m (call.New root fields) r history here))))
    (λ t. let over = t.0 in absurd (omega arith)) (slice_get_cases w.programs m).1
  where
    has_of : (before : List Point) (reply : Reply)
        → IsLawfulReply (state_of w before) m (call.New root fields) reply → HasRoot (state_of w before) m root
    has_of before (reply.Made name) lawful = lawful.0
    has_of before reply.Full lawful = lawful
    has_of before reply lawful = absurd lawful

point_is_small : (w : Facts) (history : List Point) → IsLegal w history → FollowsPrograms w.programs history
    → AsksForSmall w → (p : Point) → Contains history p → IsSmallPoint p
point_is_small w history legal follows asks (Did m (call.New root fields) r) here =
    new_is_small w history m root fields r legal follows asks here
point_is_small w history legal follows asks (Did m c r) here = tt
point_is_small w history legal follows asks (Snap cycle) here = tt

pub objects_stay_small : ObjectsStaySmall
objects_stay_small n w s j asks =
    let answers = j.names.hold.answers in
    small_along (opening_of w) s.front.history answers.lawful.legal
    (point_is_small w s.front.history answers.lawful.legal answers.programs asks)
    (points_keep_small.opening w asks.board)
