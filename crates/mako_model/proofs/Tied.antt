-- Two objects that name each other are freed together.
use Rattle.std.proofs.Common.{◌≡◌, ℕ, zero, suc, ◌<◌, ◌≤◌, ◌⊎◌, inl, inr, ⊎_elim, List, [], ◌∷◌, set, drop, unwrap_or}
use Rattle.std.proofs.Common.{slice_get, Contains, Some, ap, subst, refl, arith}
use Rattle.std.specs.FinMap as finite
use Rattle.std.specs.List.Sorted.{IsStrictlySortedBy}
use Rattle.std.proofs.lemmas.List.Elements.{Contains-append_cases, Contains-push_cases}
use Rattle.std.proofs.lemmas.Option.{same_Some, none-some}
use Rattle.mako_words.specs.declared.name.Name.{Name}
use Rattle.mako_words.specs.declared.value.Value.{Value}
use Rattle.mako_words.specs.declared.value.Value.TheVariants as value
use Rattle.mako_words.specs.Names.{name_cmp}
use Rattle.mako_words.proofs.NamesInOrder.{names_total}
use Rattle.mako_model.specs.declared.call.Call.{Call}
use Rattle.mako_model.specs.declared.call.Call.TheVariants as call
use Rattle.mako_model.specs.declared.reply.Reply.TheVariants as reply
use Rattle.mako_model.specs.declared.point.Point.TheVariants.{Did, Snap}
use Rattle.mako_model.specs.Fronts.{Seen, calls_by, opening_front, with_point, with_cycle}
use Rattle.mako_model.specs.Heaps.{Heap, board_name, fields_of}
use Rattle.mako_model.specs.Legal.{state_of}
use Rattle.mako_model.specs.Reachable.{IsReachable}
use Rattle.mako_model.specs.Dead.{names_made, IsDead, AreFreed}
use Rattle.mako_model.specs.LawfulFronts.{since, IsInRange}
use Rattle.mako_model.specs.Answering.{Answers, AnswersToEnd}
use Rattle.mako_model.specs.Examples.{one, two, tying, tied, before_tied_snap, tied_history, tied_front}
use Rattle.mako_model.specs.Examples.{half_freed_front}
use Rattle.mako_model.proofs.Following.{same_reply, no_snap_did, in_none, plain_next, plain_full, made_next, made_full}
use Rattle.mako_model.proofs.Following.{follows, lost_at_snap, board_reached, other_not_reached}
use Rattle.mako_model.proofs.Growth.{IsNext, answers_push, answers_finish, answers_opening}

-- ---- the objects, point by point

abbrev Entries : Type 0
Entries = List (Name × List Value)

abbrev at_opening : Entries
at_opening = (board_name, value.Null ∷ []) ∷ []

abbrev with_one : Entries
with_one = (one, value.Null ∷ []) ∷ at_opening

abbrev with_two : Entries
with_two = (two, value.Null ∷ []) ∷ with_one

abbrev one_tied : Entries
one_tied = (one, set (unwrap_or (finite.get (finite.from_entries {R = name_cmp} with_two) one) []) 0 (value.Ref two)) ∷
    with_two

abbrev both_tied : Entries
both_tied = (two, set (unwrap_or (finite.get (finite.from_entries {R = name_cmp} one_tied) two) []) 0 (value.Ref one)) ∷
    one_tied

-- ---- point by point

board_in_range : IsInRange tied board_name
board_in_range = record { entry = omega arith; generation = omega arith }

abbrev after_one : Seen
after_one = with_point opening_front (Did 0 (call.New 1 1) (reply.Made one))

abbrev after_two : Seen
after_two = with_point after_one (Did 0 (call.New 2 1) (reply.Made two))

abbrev after_three : Seen
after_three = with_point after_two (Did 0 (call.Put 1 0 2) reply.Done)

abbrev after_four : Seen
after_four = with_point after_three (Did 0 (call.Put 2 0 1) reply.Done)

abbrev after_five : Seen
after_five = with_point after_four (Did 0 (call.DropRoot 1) reply.Done)

abbrev after_six : Seen
after_six = with_point after_five (Did 0 (call.DropRoot 2) reply.Done)

abbrev after_snap : Seen
after_snap = with_point after_six (Snap 1)

abbrev after_cycle : Seen
after_cycle = with_cycle after_snap (one ∷ two ∷ [])

answers_one : Answers tied after_one
answers_one = answers_push tied opening_front (Did 0 (call.New 1 1) (reply.Made one))
    (answers_opening tied board_in_range)
    (made_next tied opening_front 0 1 1 1 ((value.Null, refl), finite.get-from_entries names_total at_opening one)
    (omega arith) (record { entry = omega arith; generation = omega arith }))
    (made_full tied opening_front 0 1 1 one) (follows tying after_one.history (drop 1 tying) refl)

answers_two : Answers tied after_two
answers_two = answers_push tied after_one (Did 0 (call.New 2 1) (reply.Made two)) answers_one
    (made_next tied after_one 0 2 1 2 ((value.Null, refl), finite.get-from_entries names_total with_one two)
    (omega arith) (record { entry = omega arith; generation = omega arith }))
    (made_full tied after_one 0 2 1 two) (follows tying after_two.history (drop 2 tying) refl)

answers_three : Answers tied after_three
answers_three = answers_push tied after_two (Did 0 (call.Put 1 0 2) reply.Done) answers_two
    (plain_next tied after_two 0 (call.Put 1 0 2) (
      (value.Ref two, refl),
      (
        one,
        value.Null ∷
            [],
        record { root_is = refl; fields_are = finite.get-from_entries names_total with_two one },
        omega arith,
      ),
    )
    (omega arith))
    (plain_full tied after_two 0 (call.Put 1 0 2)) (follows tying after_three.history (drop 3 tying) refl)

answers_four : Answers tied after_four
answers_four = answers_push tied after_three (Did 0 (call.Put 2 0 1) reply.Done) answers_three
    (plain_next tied after_three 0 (call.Put 2 0 1) (
      (value.Ref one, refl),
      (
        two,
        value.Null ∷
            [],
        record { root_is = refl; fields_are = finite.get-from_entries names_total one_tied two },
        omega arith,
      ),
    )
    (omega arith))
    (plain_full tied after_three 0 (call.Put 2 0 1)) (follows tying after_four.history (drop 4 tying) refl)

answers_five : Answers tied after_five
answers_five = answers_push tied after_four (Did 0 (call.DropRoot 1) reply.Done) answers_four
    (plain_next tied after_four 0 (call.DropRoot 1) (value.Ref one, refl) (omega arith))
    (plain_full tied after_four 0 (call.DropRoot 1)) (follows tying after_five.history (drop 5 tying) refl)

answers_six : Answers tied after_six
answers_six = answers_push tied after_five (Did 0 (call.DropRoot 2) reply.Done) answers_five
    (plain_next tied after_five 0 (call.DropRoot 2) (value.Ref two, refl) (omega arith))
    (plain_full tied after_five 0 (call.DropRoot 2)) (follows tying after_six.history (drop 6 tying) refl)

snap_next : IsNext tied after_six (Snap 1)
snap_next = record {
  lawful = (refl, omega arith);
  unfinished = omega arith;
  waits = λ m c cycle e. absurd (no_snap_did 1 m c (reply.Cycle cycle) e);
  names = λ x in_made. absurd (in_none x in_made);
  reuses = λ m c entry generation e. absurd (no_snap_did 1 m c (reply.Made _) e);
}

answers_snap : Answers tied after_snap
answers_snap = answers_push tied after_six (Snap 1) answers_six snap_next
    (λ m root fields e. absurd (no_snap_did 1 m (call.New root fields) reply.Full e))
    (follows tying after_snap.history (drop 6 tying) refl)

-- ---- what the cycle frees

abbrev at_snap : Heap
at_snap = state_of tied before_tied_snap

board_fields : fields_of at_snap board_name ≡ Some (value.Null ∷ [])
board_fields = finite.get-from_entries names_total both_tied board_name

not_board : (x : Name) → 0 < x.entry → IsReachable at_snap x → ⊥
not_board = other_not_reached at_snap refl board_fields

dead_at_snap : (x : Name) → Contains (names_made before_tied_snap) x → 0 < x.entry → IsDead tied after_snap.history 1 x
dead_at_snap x made l = record {
  before = before_tied_snap;
  after = [];
  numbered = omega arith;
  split = refl;
  made = made;
  unreached = not_board x l;
}

made_at_snap : (x : Name) → IsDead tied after_snap.history 1 x → Contains (one ∷ two ∷ []) x
made_at_snap x dead =
    let lost = lost_at_snap tied before_tied_snap [] x refl refl dead in
    ⊎_elim
    (λ s. absurd (⊎_elim (λ n. in_none x n)
    (λ is. lost.1 (subst (IsReachable at_snap) is (board_reached at_snap refl board_fields)))
    (Contains-push_cases [] board_name x s)))
    (λ s. s) (Contains-append_cases (board_name ∷ []) (one ∷ two ∷ []) x lost.0)

one_or_two : (x : Name) → Contains (one ∷ two ∷ []) x → (one ≡ x) ⊎ (two ≡ x)
one_or_two x c = ⊎_elim (λ t. ⊎_elim (λ n. absurd (in_none x n)) (λ s. inl s) (Contains-push_cases [] one x t))
    (λ t. inr t) (Contains-push_cases (one ∷ []) two x c)

both_freed : AreFreed tied after_snap.history 1 (one ∷ two ∷ [])
unfolding IsStrictlySortedBy
both_freed = record {
  rising = ((refl, tt), (tt, tt));
  each = λ x. (
    (λ c. (
      ⊎_elim (λ e. subst (IsDead tied after_snap.history 1) e (dead_at_snap one (1, omega arith, refl) (omega arith)))
          (λ e. subst (IsDead tied after_snap.history 1) e (dead_at_snap two (2, omega arith, refl) (omega arith)))
          (one_or_two x c),
      (λ dead. let n = dead.numbered in omega arith),
    )),
    (λ d. made_at_snap x d.0),
  );
}

answers_cycle : Answers tied after_cycle
answers_cycle = answers_finish tied after_snap (one ∷ two ∷ []) answers_snap (omega arith) both_freed

collect_next : IsNext tied after_cycle (Did 0 call.Collect (reply.Cycle 1))
collect_next = record {
  lawful = (omega arith, omega arith, omega arith);
  unfinished = omega arith;
  waits = λ m c cycle e.
      let mutator : 0 ≡ m = cc in
      let same = same_reply 0 m call.Collect c (reply.Cycle 1) (reply.Cycle cycle) e in
      let number : 1 ≡ cycle = cc in
      subst (λ n. (n ≤ 1) × Contains (since m after_cycle.history) (Snap n)) number
      (omega arith, subst (λ n. Contains (since n after_cycle.history) (Snap 1)) mutator (0, omega arith, refl));
  names = λ x in_made. absurd (in_none x in_made);
  reuses = λ m c entry generation e. absurd (let f = same_reply 0 m call.Collect c (reply.Cycle 1) (reply.Made _) e in
      (let g : ⊥ = cc in g));
}

answers_all : Answers tied tied_front
answers_all = answers_push tied after_cycle (Did 0 call.Collect (reply.Cycle 1)) answers_cycle collect_next
    (λ m root fields e. absurd (let f =
    same_reply 0 m call.Collect (call.New root fields) (reply.Cycle 1) reply.Full e in (let g : ⊥ = cc in g)))
    (follows tying tied_history [] refl)

all_calls : (m : ℕ) (program : List Call) → slice_get (tying ∷ []) m ≡ Some program → calls_by m tied_history ≡ program
all_calls zero program e = same_Some tying program e
all_calls (suc m) program e = absurd (none-some program e)

pub tied_answers : AnswersToEnd tied tied_front
tied_answers = record { answers = answers_all; all = all_calls }

-- two is dead in cycle 1, so a list without it is not what the cycle freed
pub half_does_not : ¬ Answers tied half_freed_front
half_does_not answers =
    let freed : AreFreed tied tied_history 1 (one ∷ []) = answers.lawful.freed 0 (one ∷ []) refl in
    let dead : IsDead tied tied_history 1 two =
    record {
      before = before_tied_snap;
      after = Did 0 call.Collect (reply.Cycle 1) ∷ [];
      numbered = omega arith;
      split = refl;
      made = (2, omega arith, refl);
      unreached = not_board two (omega arith);
    } in
    let c = (freed.each two).1 (dead, (λ before. let n = before.numbered in omega arith)) in
    ⊎_elim (λ n. in_none two n) (λ e. let f : 1 ≡ 2 = ap (λ (n : Name). n.entry) e in
    omega arith) (Contains-push_cases [] one two c)
