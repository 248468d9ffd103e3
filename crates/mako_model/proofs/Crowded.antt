-- Objects that are in use leave no room.
use Rattle.std.proofs.Common.{◌≡◌, ℕ, zero, suc, ◌<◌, inl, ⊎_elim, List, [], ◌∷◌, drop, slice_get, Contains, Some}
use Rattle.std.proofs.Common.{subst, refl, arith}
use Rattle.std.specs.FinMap as finite
use Rattle.std.specs.List.Sorted.{IsStrictlySortedBy}
use Rattle.std.proofs.lemmas.List.Elements.{Contains-push_cases}
use Rattle.std.proofs.lemmas.Option.{same_Some, none-some}
use Rattle.mako_words.specs.declared.name.Name.{Name}
use Rattle.mako_words.specs.declared.value.Value.{Value}
use Rattle.mako_words.specs.declared.value.Value.TheVariants as value
use Rattle.mako_words.proofs.NamesInOrder.{names_total}
use Rattle.mako_model.specs.declared.call.Call.{Call}
use Rattle.mako_model.specs.declared.call.Call.TheVariants as call
use Rattle.mako_model.specs.declared.reply.Reply.TheVariants as reply
use Rattle.mako_model.specs.declared.point.Point.TheVariants.{Did, Snap}
use Rattle.mako_model.specs.Fronts.{Seen, calls_by, opening_front, with_point, with_cycle}
use Rattle.mako_model.specs.Heaps.{Heap, board_name}
use Rattle.mako_model.specs.Legal.{state_of}
use Rattle.mako_model.specs.Reachable.{IsReachable}
use Rattle.mako_model.specs.Dead.{names_made, IsDead, AreFreed}
use Rattle.mako_model.specs.Starved.{IsEntryUnavailable, IsStarved}
use Rattle.mako_model.specs.Answering.{Answers, AnswersToEnd}
use Rattle.mako_model.specs.Examples.{one, filling, crowded, before_crowded_snap, crowded_history, crowded_front}
use Rattle.mako_model.specs.Examples.{used_freed_front}
use Rattle.mako_model.proofs.Growth.{IsNext, IsStarvedIfFull, answers_push, answers_finish, answers_opening}
use Rattle.mako_model.proofs.Following.{same_reply, no_snap_did, in_none, made_next, made_full, follows, lost_at_snap}

abbrev Entries : Type 0
Entries = List (Name × List Value)

abbrev at_opening : Entries
at_opening = (board_name, value.Null ∷ []) ∷ []

abbrev after_one : Seen
after_one = with_point opening_front (Did 0 (call.New 1 1) (reply.Made one))

abbrev after_snap : Seen
after_snap = with_point after_one (Snap 1)

abbrev after_cycle : Seen
after_cycle = with_cycle after_snap []

answers_one : Answers crowded after_one
answers_one = answers_push crowded opening_front (Did 0 (call.New 1 1) (reply.Made one))
    (answers_opening crowded (record { entry = omega arith; generation = omega arith }))
    (made_next crowded opening_front 0 1 1 1 ((value.Null, refl), finite.get-from_entries names_total at_opening one)
    (omega arith) (record { entry = omega arith; generation = omega arith }))
    (made_full crowded opening_front 0 1 1 one) (follows filling after_one.history (drop 1 filling) refl)

snap_next : IsNext crowded after_one (Snap 1)
snap_next = record {
  lawful = (refl, omega arith);
  unfinished = omega arith;
  waits = λ m c cycle e. absurd (no_snap_did 1 m c (reply.Cycle cycle) e);
  names = λ x in_made. absurd (in_none x in_made);
  reuses = λ m c entry generation e. absurd (no_snap_did 1 m c (reply.Made _) e);
}

answers_snap : Answers crowded after_snap
answers_snap = answers_push crowded after_one (Snap 1) answers_one snap_next
    (λ m root fields e. absurd (no_snap_did 1 m (call.New root fields) reply.Full e))
    (follows filling after_snap.history (drop 1 filling) refl)

-- ---- what the cycle frees

abbrev at_snap : Heap
at_snap = state_of crowded before_crowded_snap

board_reached : IsReachable at_snap board_name
board_reached = record { first = board_name; path = []; in_root = (0, 0, refl); leads = refl }

one_reached : IsReachable at_snap one
one_reached = record { first = one; path = []; in_root = (0, 1, refl); leads = refl }

made_are_reached : (x : Name) → Contains (names_made before_crowded_snap) x → IsReachable at_snap x
made_are_reached x made =
    ⊎_elim
    (λ s. ⊎_elim (λ n. absurd (in_none x n)) (λ is. subst (IsReachable at_snap) is board_reached)
    (Contains-push_cases [] board_name x s))
    (λ is. subst (IsReachable at_snap) is one_reached) (Contains-push_cases (board_name ∷ []) one x made)

none_dead : (x : Name) → IsDead crowded after_snap.history 1 x → ⊥
none_dead x dead = let lost = lost_at_snap crowded before_crowded_snap [] x refl refl dead in
    lost.1 (made_are_reached x lost.0)

none_dead_at_end : (x : Name) → IsDead crowded crowded_history 1 x → ⊥
none_dead_at_end x dead = let lost =
    lost_at_snap crowded before_crowded_snap (Did 0 (call.New 2 1) reply.Full ∷ []) x refl refl dead in
    lost.1 (made_are_reached x lost.0)

none_freed : AreFreed crowded after_snap.history 1 []
unfolding IsStrictlySortedBy
none_freed = record {
  rising = tt;
  each = λ x. ((λ c. absurd (in_none x c)), (λ d. absurd (none_dead x d.0)));
}

answers_cycle : Answers crowded after_cycle
answers_cycle = answers_finish crowded after_snap [] answers_snap (omega arith) none_freed

-- ---- no room

full_next : IsNext crowded after_cycle (Did 0 (call.New 2 1) reply.Full)
full_next = record {
  lawful = (value.Null, refl);
  unfinished = omega arith;
  waits = λ m c cycle e. absurd (let f = same_reply 0 m (call.New 2 1) c reply.Full (reply.Cycle cycle) e in
      (let g : ⊥ = cc in g));
  names = λ x in_made. absurd (in_none x in_made);
  reuses = λ m c entry generation e. absurd (let f = same_reply 0 m (call.New 2 1) c reply.Full (reply.Made _) e in
      (let g : ⊥ = cc in g));
}

-- entry 0 has the board, and entry 1 the first object
entry_taken : (entry : ℕ) → entry < 2 → IsEntryUnavailable crowded crowded_front after_cycle.history 1 entry
entry_taken zero l = inl (0, (0, omega arith, refl), none_dead_at_end board_name)
entry_taken (suc zero) l = inl (0, (1, omega arith, refl), none_dead_at_end one)
entry_taken (suc (suc entry)) l = absurd (omega arith)

starved : IsStarved crowded crowded_front after_cycle.history 0 1
starved = record {
  cycle = 1;
  awaited = inl (record { first = refl; finished = omega arith });
  full = λ tablet l. inl (λ entry is. entry_taken entry (omega arith));
}

full_starved : IsStarvedIfFull crowded after_cycle (Did 0 (call.New 2 1) reply.Full)
full_starved m root fields e =
    let mutator : 0 ≡ m = cc in
    let number : 1 ≡ fields = cc in
    subst (λ n. IsStarved crowded crowded_front after_cycle.history n fields) mutator
    (subst (λ n. IsStarved crowded crowded_front after_cycle.history 0 n) number starved)

answers_all : Answers crowded crowded_front
answers_all = answers_push crowded after_cycle (Did 0 (call.New 2 1) reply.Full) answers_cycle full_next full_starved
    (follows filling crowded_history [] refl)

all_calls : (m : ℕ) (program : List Call) → slice_get (filling ∷ []) m ≡ Some program
    → calls_by m crowded_history ≡ program
all_calls zero program e = same_Some filling program e
all_calls (suc m) program e = absurd (none-some program e)

pub crowded_answers : AnswersToEnd crowded crowded_front
crowded_answers = record { answers = answers_all; all = all_calls }

-- what a root names at the snapshot is not dead, so no cycle freed it
pub used_freed_does_not : ¬ Answers crowded used_freed_front
used_freed_does_not answers =
    let freed : AreFreed crowded crowded_history 1 (one ∷ []) = answers.lawful.freed 0 (one ∷ []) refl in
    none_dead_at_end one ((freed.each one).0 (0, omega arith, refl)).0
