-- An entry is retired after its last generation.
use Rattle.std.proofs.Common.{◌≡◌, ℕ, zero, suc, ◌<◌, inl, inr, ⊎_elim, List, [], ◌∷◌, ◌++◌, drop, slice_get, Contains}
use Rattle.std.proofs.Common.{Some, subst, refl, arith}
use Rattle.std.specs.FinMap as finite
use Rattle.std.specs.List.Sorted.{IsStrictlySortedBy}
use Rattle.std.proofs.lemmas.List.Elements.{Contains-append_cases, Contains-push_cases}
use Rattle.std.proofs.lemmas.Option.{same_Some, none-some}
use Rattle.mako_words.specs.declared.name.Name.{Name}
use Rattle.mako_words.specs.declared.value.Value.{Value}
use Rattle.mako_words.specs.declared.value.Value.TheVariants as value
use Rattle.mako_words.proofs.NamesInOrder.{names_total}
use Rattle.mako_model.specs.declared.call.Call.{Call}
use Rattle.mako_model.specs.declared.call.Call.TheVariants as call
use Rattle.mako_model.specs.declared.reply.Reply.TheVariants as reply
use Rattle.mako_model.specs.declared.point.Point.{Point}
use Rattle.mako_model.specs.declared.point.Point.TheVariants.{Did, Snap}
use Rattle.mako_model.specs.Fronts.{Seen, calls_by, opening_front, with_point, with_cycle}
use Rattle.mako_model.specs.Heaps.{Heap, board_name, fields_of}
use Rattle.mako_model.specs.Legal.{state_of}
use Rattle.mako_model.specs.Reachable.{IsReachable}
use Rattle.mako_model.specs.Dead.{IsDead, AreFreed}
use Rattle.mako_model.specs.Starved.{IsStarved}
use Rattle.mako_model.specs.Answering.{Answers, AnswersToEnd}
use Rattle.mako_model.proofs.Growth.{IsNext, IsStarvedIfFull, answers_push, answers_finish, answers_opening}
use Rattle.mako_model.specs.Starved.{IsEntryUnavailable}
use Rattle.mako_model.specs.Examples.{one, remaking, retiring, before_retiring_snap, retiring_history, retired_front}
use Rattle.mako_model.specs.Examples.{hasty_front}
use Rattle.mako_model.proofs.Following.{same_reply, no_snap_did, in_none, plain_next, plain_full, made_next, made_full}
use Rattle.mako_model.proofs.Following.{follows, lost_at_snap, board_reached, other_not_reached}

abbrev Entries : Type 0
Entries = List (Name × List Value)

abbrev at_opening : Entries
at_opening = (board_name, value.Null ∷ []) ∷ []

abbrev with_one : Entries
with_one = (one, []) ∷ at_opening

abbrev after_one : Seen
after_one = with_point opening_front (Did 0 (call.New 1 0) (reply.Made one))

abbrev after_two : Seen
after_two = with_point after_one (Did 0 (call.DropRoot 1) reply.Done)

abbrev after_snap : Seen
after_snap = with_point after_two (Snap 1)

abbrev after_cycle : Seen
after_cycle = with_cycle after_snap (one ∷ [])

answers_one : Answers retiring after_one
answers_one = answers_push retiring opening_front (Did 0 (call.New 1 0) (reply.Made one))
    (answers_opening retiring (record { entry = omega arith; generation = omega arith }))
    (made_next retiring opening_front 0 1 0 1 ((value.Null, refl), finite.get-from_entries names_total at_opening one)
    (omega arith) (record { entry = omega arith; generation = omega arith }))
    (made_full retiring opening_front 0 1 0 one) (follows remaking after_one.history (drop 1 remaking) refl)

answers_two : Answers retiring after_two
answers_two = answers_push retiring after_one (Did 0 (call.DropRoot 1) reply.Done) answers_one
    (plain_next retiring after_one 0 (call.DropRoot 1) (value.Ref one, refl) (omega arith))
    (plain_full retiring after_one 0 (call.DropRoot 1)) (follows remaking after_two.history (drop 2 remaking) refl)

snap_next : IsNext retiring after_two (Snap 1)
snap_next = record {
  lawful = (refl, omega arith);
  unfinished = omega arith;
  waits = λ m c cycle e. absurd (no_snap_did 1 m c (reply.Cycle cycle) e);
  names = λ x in_made. absurd (in_none x in_made);
  reuses = λ m c entry generation e. absurd (no_snap_did 1 m c (reply.Made _) e);
}

answers_snap : Answers retiring after_snap
answers_snap = answers_push retiring after_two (Snap 1) answers_two snap_next
    (λ m root fields e. absurd (no_snap_did 1 m (call.New root fields) reply.Full e))
    (follows remaking after_snap.history (drop 2 remaking) refl)

abbrev at_snap : Heap
at_snap = state_of retiring before_retiring_snap

board_fields : fields_of at_snap board_name ≡ Some (value.Null ∷ [])
board_fields = finite.get-from_entries names_total with_one board_name

one_dead : (after : List Point) → IsDead retiring (before_retiring_snap ++ Snap 1 ∷ after) 1 one
one_dead after = record {
  before = before_retiring_snap;
  after = after;
  numbered = omega arith;
  split = refl;
  made = (1, omega arith, refl);
  unreached = other_not_reached at_snap refl board_fields one (omega arith);
}

board_not_dead : IsDead retiring retiring_history 1 board_name → ⊥
board_not_dead dead =
    (lost_at_snap retiring before_retiring_snap (Did 0 (call.New 2 0) reply.Full ∷ []) board_name refl refl dead).1
    (board_reached at_snap refl board_fields)

made_at_snap : (x : Name) → IsDead retiring after_snap.history 1 x → Contains (one ∷ []) x
made_at_snap x dead =
    let lost = lost_at_snap retiring before_retiring_snap [] x refl refl dead in
    ⊎_elim
    (λ s. absurd (⊎_elim (λ n. in_none x n)
    (λ is. lost.1 (subst (IsReachable at_snap) is (board_reached at_snap refl board_fields)))
    (Contains-push_cases [] board_name x s)))
    (λ s. s) (Contains-append_cases (board_name ∷ []) (one ∷ []) x lost.0)

one_freed : AreFreed retiring after_snap.history 1 (one ∷ [])
unfolding IsStrictlySortedBy
one_freed = record {
  rising = (tt, tt);
  each = λ x. (
    (λ c. (
      ⊎_elim (λ n. absurd (in_none x n)) (λ e. subst (IsDead retiring after_snap.history 1) e (one_dead []))
          (Contains-push_cases [] one x c),
      (λ dead. let n = dead.numbered in omega arith),
    )),
    (λ d. made_at_snap x d.0),
  );
}

answers_cycle : Answers retiring after_cycle
answers_cycle = answers_finish retiring after_snap (one ∷ []) answers_snap (omega arith) one_freed

full_next : IsNext retiring after_cycle (Did 0 (call.New 2 0) reply.Full)
full_next = record {
  lawful = (value.Null, refl);
  unfinished = omega arith;
  waits = λ m c cycle e. absurd (let f = same_reply 0 m (call.New 2 0) c reply.Full (reply.Cycle cycle) e in
      (let g : ⊥ = cc in g));
  names = λ x in_made. absurd (in_none x in_made);
  reuses = λ m c entry generation e. absurd (let f = same_reply 0 m (call.New 2 0) c reply.Full (reply.Made _) e in
      (let g : ⊥ = cc in g));
}

-- entry 0 has the board, and entry 1 had its last object
entry_taken : (entry : ℕ) → entry < 2 → IsEntryUnavailable retiring retired_front after_cycle.history 1 entry
entry_taken zero l = inl (0, (0, omega arith, refl), board_not_dead)
entry_taken (suc zero) l = inr (1, omega arith, refl)
entry_taken (suc (suc entry)) l = absurd (omega arith)

starved : IsStarved retiring retired_front after_cycle.history 0 0
starved = record {
  cycle = 1;
  awaited = inl (record { first = refl; finished = omega arith });
  full = λ tablet l. inl (λ entry is. entry_taken entry (omega arith));
}

full_starved : IsStarvedIfFull retiring after_cycle (Did 0 (call.New 2 0) reply.Full)
full_starved m root fields e =
    let mutator : 0 ≡ m = cc in
    let number : 0 ≡ fields = cc in
    subst (λ n. IsStarved retiring retired_front after_cycle.history n fields) mutator
    (subst (λ n. IsStarved retiring retired_front after_cycle.history 0 n) number starved)

answers_all : Answers retiring retired_front
answers_all = answers_push retiring after_cycle (Did 0 (call.New 2 0) reply.Full) answers_cycle full_next full_starved
    (follows remaking retiring_history [] refl)

all_calls : (m : ℕ) (program : List Call) → slice_get (remaking ∷ []) m ≡ Some program
    → calls_by m retiring_history ≡ program
all_calls zero program e = same_Some remaking program e
all_calls (suc m) program e = absurd (none-some program e)

pub retired_answers : AnswersToEnd retiring retired_front
retired_answers = record { answers = answers_all; all = all_calls }

-- no cycle is finished that the call could have waited for
pub hasty_does_not : ¬ Answers retiring hasty_front
hasty_does_not answers =
    let s = answers.starved (before_retiring_snap ++ Snap 1 ∷ []) [] 0 2 0 refl in
    ⊎_elim
    (λ t. let first : 1 ≡ s.cycle = same_Some 1 s.cycle t.first in let finished = t.finished in omega arith)
    (λ t. let all : 1 ≡ 10 = t.all in omega arith) s.awaited
