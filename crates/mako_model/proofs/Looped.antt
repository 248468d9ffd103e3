-- An object that names itself is freed once.
use Rattle.std.proofs.Common.{◌≡◌, ℕ, zero, suc, ◌+◌, ◌<◌, ◌≤◌, ⊎_elim, List, [], ◌∷◌, ◌++◌, set, drop, length}
use Rattle.std.proofs.Common.{unwrap_or, slice_get, Contains, Some, ap, subst, refl, ◌∙◌, arith, append-nil}
use Rattle.std.specs.FinMap as finite
use Rattle.std.specs.List.Sorted.{IsStrictlySortedBy}
use Rattle.std.proofs.lemmas.List.Elements.{Contains-push_cases}
use Rattle.std.proofs.lemmas.Option.{same_Some, none-some}
use Rattle.mako_words.specs.declared.name.Name.{Name}
use Rattle.mako_words.specs.declared.value.Value.{Value}
use Rattle.mako_words.specs.declared.value.Value.TheVariants as value
use Rattle.mako_words.specs.Names.{name_cmp}
use Rattle.mako_words.proofs.NamesInOrder.{names_total}
use Rattle.mako_model.specs.declared.call.Call.{Call}
use Rattle.mako_model.specs.declared.call.Call.TheVariants as call
use Rattle.mako_model.specs.declared.reply.Reply.TheVariants as reply
use Rattle.mako_model.specs.declared.point.Point.{Point}
use Rattle.mako_model.specs.declared.point.Point.TheVariants.{Did, Snap}
use Rattle.mako_model.specs.Fronts.{Seen, calls_by, opening_front, with_point, with_cycle}
use Rattle.mako_model.specs.Heaps.{Heap, board_name, fields_of}
use Rattle.mako_model.specs.Lawful.{heap_after}
use Rattle.mako_model.specs.Legal.{Facts, state_of, IsLegal}
use Rattle.mako_model.specs.Reachable.{IsReachable}
use Rattle.mako_model.specs.Dead.{IsDead, AreFreed}
use Rattle.mako_model.specs.LawfulFronts.{since}
use Rattle.mako_model.specs.Answering.{Answers, AnswersToEnd}
use Rattle.mako_model.specs.Examples.{one, looping, looped, before_looped_snap, before_second_snap, looped_history}
use Rattle.mako_model.specs.Examples.{looped_front, twice_freed_front}
use Rattle.mako_model.proofs.Splits.{split_of_append}
use Rattle.mako_model.proofs.DeadApart.{IsLost, snap_number, snaps_grow, state_append}
use Rattle.mako_model.proofs.Growth.{IsNext, IsStarvedIfFull, answers_push, answers_finish, answers_opening}
use Rattle.mako_model.proofs.Following.{same_reply, no_snap_did, in_none, plain_next, plain_full, made_next, made_full}
use Rattle.mako_model.proofs.Following.{follows, board_reached, other_not_reached}

-- ---- a snapshot stands once in a legal history

more_snaps : (w : Facts) (before : List Point) (cycle : ℕ) (after : List Point)
    → (state_of w before).snaps < (state_of w (before ++ Snap cycle ∷ after)).snaps
more_snaps w before cycle after =
    let grow = snaps_grow (heap_after (state_of w before) (Snap cycle)) after in
    let same = ap (λ (h : Heap). h.snaps) (state_append w before (Snap cycle ∷ after)) in
    omega arith

-- no snapshot has the number of one before it
not_again : (w : Facts) (before : List Point) (cycle : ℕ) (more after rest there : List Point)
    → IsLegal w (before ++ Snap cycle ∷ rest) → IsLegal w (there ++ Snap cycle ∷ after)
    → there ≡ before ++ Snap cycle ∷ more → ⊥
not_again w before cycle more after rest there legal legal_there is =
    let number = snap_number w before cycle rest legal in
    let again = snap_number w there cycle after legal_there in
    let past = more_snaps w before cycle more in
    let same = ap (λ ps. (state_of w ps).snaps) is in
    omega arith

same_place : (w : Facts) (before after there rest more : List Point) (cycle : ℕ)
    → IsLegal w (before ++ Snap cycle ∷ after) → IsLegal w (there ++ Snap cycle ∷ rest)
    → there ≡ before ++ more → Snap cycle ∷ after ≡ more ++ Snap cycle ∷ rest → there ≡ before
same_place w before after there rest [] cycle legal legal_there is e = is ∙ append-nil before
same_place w before after there rest (p ∷ more) cycle legal legal_there is e =
    let first : p ≡ Snap cycle = cc in
    absurd (not_again w before cycle more rest after there legal legal_there (is ∙ ap (λ q. before ++ q ∷ more) first))

-- what is dead at a snapshot was lost just before it
lost_at : (w : Facts) (before after : List Point) (cycle : ℕ) (x : Name) → IsLegal w (before ++ Snap cycle ∷ after)
    → IsDead w (before ++ Snap cycle ∷ after) cycle x → IsLost w before x
lost_at w before after cycle x legal dead =
    let legal_there : IsLegal w (dead.before ++ Snap cycle ∷ dead.after) = subst (IsLegal w) dead.split legal in
    ⊎_elim
    (λ t. absurd (not_again w dead.before cycle t.0 after dead.after before legal_there legal t.1))
    (λ t. subst (λ ps. IsLost w ps x)
    (same_place w before after dead.before dead.after t.0 cycle legal legal_there t.1 t.2)
    (dead.made, dead.unreached))
    (split_of_append before (Snap cycle ∷ after) dead.before (Snap cycle) dead.after dead.split)

-- ---- point by point

abbrev Entries : Type 0
Entries = List (Name × List Value)

abbrev at_opening : Entries
at_opening = (board_name, value.Null ∷ []) ∷ []

abbrev with_one : Entries
with_one = (one, value.Null ∷ []) ∷ at_opening

abbrev one_tied : Entries
one_tied = (one, set (unwrap_or (finite.get (finite.from_entries {R = name_cmp} with_one) one) []) 0 (value.Ref one)) ∷
    with_one

abbrev after_one : Seen
after_one = with_point opening_front (Did 0 (call.New 1 1) (reply.Made one))

abbrev after_put : Seen
after_put = with_point after_one (Did 0 (call.Put 1 0 1) reply.Done)

abbrev after_drop : Seen
after_drop = with_point after_put (Did 0 (call.DropRoot 1) reply.Done)

abbrev after_snap : Seen
after_snap = with_point after_drop (Snap 1)

abbrev after_cycle : Seen
after_cycle = with_cycle after_snap (one ∷ [])

abbrev after_collect : Seen
after_collect = with_point after_cycle (Did 0 call.Collect (reply.Cycle 1))

abbrev after_second_snap : Seen
after_second_snap = with_point after_collect (Snap 2)

abbrev after_second_cycle : Seen
after_second_cycle = with_cycle after_second_snap []

answers_one : Answers looped after_one
answers_one = answers_push looped opening_front (Did 0 (call.New 1 1) (reply.Made one))
    (answers_opening looped (record { entry = omega arith; generation = omega arith }))
    (made_next looped opening_front 0 1 1 1 ((value.Null, refl), finite.get-from_entries names_total at_opening one)
    (omega arith) (record { entry = omega arith; generation = omega arith }))
    (made_full looped opening_front 0 1 1 one) (follows looping after_one.history (drop 1 looping) refl)

answers_put : Answers looped after_put
answers_put = answers_push looped after_one (Did 0 (call.Put 1 0 1) reply.Done) answers_one
    (plain_next looped after_one 0 (call.Put 1 0 1) (
      (value.Ref one, refl),
      (
        one,
        value.Null ∷
            [],
        record { root_is = refl; fields_are = finite.get-from_entries names_total with_one one },
        omega arith,
      ),
    )
    (omega arith))
    (plain_full looped after_one 0 (call.Put 1 0 1)) (follows looping after_put.history (drop 2 looping) refl)

answers_drop : Answers looped after_drop
answers_drop = answers_push looped after_put (Did 0 (call.DropRoot 1) reply.Done) answers_put
    (plain_next looped after_put 0 (call.DropRoot 1) (value.Ref one, refl) (omega arith))
    (plain_full looped after_put 0 (call.DropRoot 1)) (follows looping after_drop.history (drop 3 looping) refl)

-- the next point, where it is a snapshot
snap_next : (front : Seen) (cycle : ℕ) → cycle ≡ (state_of looped front.history).snaps + 1
    → cycle ≤ (state_of looped front.history).cycles → cycle ≤ length front.finished + 1
    → IsNext looped front (Snap cycle)
snap_next front cycle number most unfinished = record {
  lawful = (number, most);
  unfinished = omega arith;
  waits = λ m c awaited e. absurd (no_snap_did cycle m c (reply.Cycle awaited) e);
  names = λ x in_made. absurd (in_none x in_made);
  reuses = λ m c entry generation e. absurd (no_snap_did cycle m c (reply.Made _) e);
}

answers_snap : Answers looped after_snap
answers_snap = answers_push looped after_drop (Snap 1) answers_drop
    (snap_next after_drop 1 refl (omega arith) (omega arith))
    (λ m root fields e. absurd (no_snap_did 1 m (call.New root fields) reply.Full e))
    (follows looping after_snap.history (drop 3 looping) refl)

-- ---- what the first cycle frees

abbrev at_snap : Heap
at_snap = state_of looped before_looped_snap

board_fields : fields_of at_snap board_name ≡ Some (value.Null ∷ [])
board_fields = finite.get-from_entries names_total one_tied board_name

one_dead : (after : List Point) → IsDead looped (before_looped_snap ++ Snap 1 ∷ after) 1 one
one_dead after = record {
  before = before_looped_snap;
  after = after;
  numbered = omega arith;
  split = refl;
  made = (1, omega arith, refl);
  unreached = other_not_reached at_snap refl board_fields one (omega arith);
}

-- of the names made before the snapshot the board is reached, so only the other may be lost
lost_is_one : (x : Name) → IsLost looped before_looped_snap x → Contains (one ∷ []) x
lost_is_one x lost =
    ⊎_elim
    (λ s. absurd (⊎_elim (λ n. in_none x n)
    (λ is. lost.1 (subst (IsReachable at_snap) is (board_reached at_snap refl board_fields)))
    (Contains-push_cases [] board_name x s)))
    (λ is. (0, omega arith, is)) (Contains-push_cases (board_name ∷ []) one x lost.0)

one_freed : AreFreed looped after_snap.history 1 (one ∷ [])
unfolding IsStrictlySortedBy
one_freed = record {
  rising = (tt, tt);
  each = λ x. (
    (λ c. (
      ⊎_elim (λ n. absurd (in_none x n)) (λ e. subst (IsDead looped after_snap.history 1) e (one_dead []))
          (Contains-push_cases [] one x c),
      (λ dead. let n = dead.numbered in omega arith),
    )),
    (λ d. lost_is_one x (lost_at looped before_looped_snap [] 1 x answers_snap.lawful.legal d.0)),
  );
}

answers_cycle : Answers looped after_cycle
answers_cycle = answers_finish looped after_snap (one ∷ []) answers_snap (omega arith) one_freed

-- the next point, where the mutator waited for a cycle
collect_next : (front : Seen) (cycle : ℕ) → 0 < length (state_of looped front.history).roots → 1 ≤ cycle
    → cycle ≤ (state_of looped front.history).snaps
    → (state_of looped front.history).snaps ≤ length front.finished + 1 → cycle ≤ length front.finished
    → Contains (since 0 front.history) (Snap cycle) → IsNext looped front (Did 0 call.Collect (reply.Cycle cycle))
collect_next front cycle mutator positive begun unfinished finished seen = record {
  lawful = (mutator, positive, begun);
  unfinished = unfinished;
  waits = λ m c awaited e.
      let first : 0 ≡ m = cc in
      let same = same_reply 0 m call.Collect c (reply.Cycle cycle) (reply.Cycle awaited) e in
      let number : cycle ≡ awaited = cc in
      subst (λ n. (n ≤ length front.finished)
      × Contains (since m front.history) (Snap n)) number
      (finished, subst (λ n. Contains (since n front.history) (Snap cycle)) first seen);
  names = λ x in_made. absurd (in_none x in_made);
  reuses = λ m c entry generation e. absurd (let f =
      same_reply 0 m call.Collect c (reply.Cycle cycle) (reply.Made _) e in (let g : ⊥ = cc in g));
}

collect_full : (front : Seen) (cycle : ℕ) → IsStarvedIfFull looped front (Did 0 call.Collect (reply.Cycle cycle))
collect_full front cycle m root fields e =
    absurd (let f = same_reply 0 m call.Collect (call.New root fields) (reply.Cycle cycle) reply.Full e in
    (let g : ⊥ = cc in g))

answers_collect : Answers looped after_collect
answers_collect = answers_push looped after_cycle (Did 0 call.Collect (reply.Cycle 1)) answers_cycle
    (collect_next after_cycle 1 (omega arith) (omega arith) (omega arith) (omega arith) (omega arith)
    (0, omega arith, refl))
    (collect_full after_cycle 1) (follows looping after_collect.history (drop 4 looping) refl)

-- ---- and the second

answers_second_snap : Answers looped after_second_snap
answers_second_snap =
    answers_push looped after_collect (Snap 2) answers_collect
    (snap_next after_collect 2 refl (omega arith) (omega arith))
    (λ m root fields e. absurd (no_snap_did 2 m (call.New root fields) reply.Full e))
    (follows looping after_second_snap.history (drop 4 looping) refl)

abbrev at_second_snap : Heap
at_second_snap = state_of looped before_second_snap

second_board_fields : fields_of at_second_snap board_name ≡ Some (value.Null ∷ [])
second_board_fields = finite.get-from_entries names_total one_tied board_name

-- what is dead at the second snapshot was dead at the first
dead_before : (x : Name) → IsDead looped after_second_snap.history 2 x → IsDead looped after_second_snap.history 1 x
dead_before x dead =
    let lost = lost_at looped before_second_snap [] 2 x answers_second_snap.lawful.legal dead in
    ⊎_elim
    (λ s. absurd (⊎_elim (λ n. in_none x n)
    (λ is. lost.1 (subst (IsReachable at_second_snap) is (board_reached at_second_snap refl second_board_fields)))
    (Contains-push_cases [] board_name x s)))
    (λ is. subst (IsDead looped after_second_snap.history 1) is
    (one_dead (Did 0 call.Collect (reply.Cycle 1) ∷ Snap 2 ∷ [])))
    (Contains-push_cases (board_name ∷ []) one x lost.0)

none_freed : AreFreed looped after_second_snap.history 2 []
unfolding IsStrictlySortedBy
none_freed = record {
  rising = tt;
  each = λ x. ((λ c. absurd (in_none x c)), (λ d. absurd (d.1 (dead_before x d.0))));
}

answers_second_cycle : Answers looped after_second_cycle
answers_second_cycle = answers_finish looped after_second_snap [] answers_second_snap (omega arith) none_freed

answers_all : Answers looped looped_front
answers_all = answers_push looped after_second_cycle (Did 0 call.Collect (reply.Cycle 2)) answers_second_cycle
    (collect_next after_second_cycle 2 (omega arith) (omega arith) (omega arith) (omega arith) (omega arith)
    (0, omega arith, refl))
    (collect_full after_second_cycle 2) (follows looping looped_history [] refl)

all_calls : (m : ℕ) (program : List Call) → slice_get (looping ∷ []) m ≡ Some program
    → calls_by m looped_history ≡ program
all_calls zero program e = same_Some looping program e
all_calls (suc m) program e = absurd (none-some program e)

pub looped_answers : AnswersToEnd looped looped_front
looped_answers = record { answers = answers_all; all = all_calls }

-- what was dead in cycle 1 already is not freed in cycle 2
pub twice_freed_does_not : ¬ Answers looped twice_freed_front
twice_freed_does_not answers =
    let freed : AreFreed looped looped_history 2 (one ∷ []) = answers.lawful.freed 1 (one ∷ []) refl in
    ((freed.each one).0 (0, omega arith, refl)).1
    (one_dead (Did 0 call.Collect (reply.Cycle 1) ∷ Snap 2 ∷ Did 0 call.Collect (reply.Cycle 2) ∷ []))
