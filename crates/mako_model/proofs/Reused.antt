-- An entry is used again after its object was dead at a snapshot.
use Rattle.std.proofs.Common.{◌≡◌, ℕ, zero, suc, ◌+◌, ◌⊎◌, inl, inr, ⊎_elim, List, [], ◌∷◌, ◌++◌, drop, replicate}
use Rattle.std.proofs.Common.{slice_get, get_or, Contains, Some, sym, ap, subst, refl, ◌∙◌, arith}
use Rattle.std.specs.FinMap as finite
use Rattle.std.specs.List.Sorted.{IsStrictlySortedBy}
use Rattle.std.proofs.lemmas.List.Elements.{Contains-append_cases, Contains-push_cases}
use Rattle.std.proofs.lemmas.Option.{same_Some, none-some}
use Rattle.mako_words.specs.declared.name.Name.{Name}
use Rattle.mako_words.specs.declared.value.Value.{Value}
use Rattle.mako_words.specs.declared.value.Value.TheVariants as value
use Rattle.mako_words.proofs.NamesInOrder.{names_total}
use Rattle.mako_model.specs.declared.call.Call.{Call}
use Rattle.mako_model.specs.declared.call.Call.TheVariants as call
use Rattle.mako_model.specs.declared.reply.Reply.TheVariants as reply
use Rattle.mako_model.specs.declared.point.Point.{Point}
use Rattle.mako_model.specs.declared.point.Point.TheVariants.{Did, Snap}
use Rattle.mako_model.specs.Fronts.{Seen, calls_by, opening_front, with_point, with_cycle}
use Rattle.mako_model.specs.Heaps.{Heap, board_name, fields_of}
use Rattle.mako_model.specs.Legal.{state_of}
use Rattle.mako_model.specs.Reachable.{StandsInField, LeadsTo, IsReachable}
use Rattle.mako_model.specs.Dead.{names_made, IsDead, AreFreed}
use Rattle.mako_model.specs.LawfulFronts.{IsInRange}
use Rattle.mako_model.specs.Answering.{Answers, AnswersToEnd}
use Rattle.mako_model.proofs.Lists.{get_replicate}
use Rattle.mako_model.proofs.Closed.{no_null_ref, same_ref}
use Rattle.mako_model.proofs.Growth.{IsNext, answers_push, answers_finish, answers_opening}
use Rattle.mako_model.specs.Examples.{one, two, one_again, reusing, roomy, before_reuse_snap, reuse_history}
use Rattle.mako_model.specs.Examples.{reused_front, reused_too_soon}
use Rattle.mako_model.proofs.Following.{same_reply, no_snap_did, in_none, plain_next, plain_full, made_next, made_full}
use Rattle.mako_model.proofs.Following.{follows, lost_at_snap}

abbrev Entries : Type 0
Entries = List (Name × List Value)

abbrev at_opening : Entries
at_opening = (board_name, value.Null ∷ []) ∷ []

abbrev with_one : Entries
with_one = (one, replicate 6 value.Null) ∷ at_opening

abbrev with_two : Entries
with_two = (two, replicate 5 value.Null) ∷ with_one

abbrev after_one : Seen
after_one = with_point opening_front (Did 0 (call.New 1 6) (reply.Made one))

abbrev after_two : Seen
after_two = with_point after_one (Did 0 (call.New 2 5) (reply.Made two))

abbrev after_drop : Seen
after_drop = with_point after_two (Did 0 (call.DropRoot 1) reply.Done)

abbrev after_snap : Seen
after_snap = with_point after_drop (Snap 1)

abbrev after_cycle : Seen
after_cycle = with_cycle after_snap (one ∷ [])

abbrev after_reuse : Seen
after_reuse = with_point after_cycle (Did 0 (call.New 3 6) (reply.Made one_again))

answers_one : Answers roomy after_one
answers_one = answers_push roomy opening_front (Did 0 (call.New 1 6) (reply.Made one))
    (answers_opening roomy (record { entry = omega arith; generation = omega arith }))
    (made_next roomy opening_front 0 1 6 1 ((value.Null, refl), finite.get-from_entries names_total at_opening one)
    (omega arith) (record { entry = omega arith; generation = omega arith }))
    (made_full roomy opening_front 0 1 6 one) (follows reusing after_one.history (drop 1 reusing) refl)

answers_two : Answers roomy after_two
answers_two = answers_push roomy after_one (Did 0 (call.New 2 5) (reply.Made two)) answers_one
    (made_next roomy after_one 0 2 5 2 ((value.Null, refl), finite.get-from_entries names_total with_one two)
    (omega arith) (record { entry = omega arith; generation = omega arith }))
    (made_full roomy after_one 0 2 5 two) (follows reusing after_two.history (drop 2 reusing) refl)

answers_drop : Answers roomy after_drop
answers_drop = answers_push roomy after_two (Did 0 (call.DropRoot 1) reply.Done) answers_two
    (plain_next roomy after_two 0 (call.DropRoot 1) (value.Ref one, refl) (omega arith))
    (plain_full roomy after_two 0 (call.DropRoot 1)) (follows reusing after_drop.history (drop 3 reusing) refl)

snap_next : IsNext roomy after_drop (Snap 1)
snap_next = record {
  lawful = (refl, omega arith);
  unfinished = omega arith;
  waits = λ m c cycle e. absurd (no_snap_did 1 m c (reply.Cycle cycle) e);
  names = λ x in_made. absurd (in_none x in_made);
  reuses = λ m c entry generation e. absurd (no_snap_did 1 m c (reply.Made _) e);
}

answers_snap : Answers roomy after_snap
answers_snap = answers_push roomy after_drop (Snap 1) answers_drop snap_next
    (λ m root fields e. absurd (no_snap_did 1 m (call.New root fields) reply.Full e))
    (follows reusing after_snap.history (drop 3 reusing) refl)

-- ---- what the cycle frees

abbrev pub at_snap : Heap
at_snap = state_of roomy before_reuse_snap

rooted : (m q : ℕ) (x : Name)
    → slice_get (get_or ((value.Ref board_name ∷ value.Null ∷ value.Ref two ∷ value.Null ∷ []) ∷ []) m []) q ≡ Some
    (value.Ref x) → (board_name ≡ x) ⊎ (two ≡ x)
rooted zero zero x e = let f : value.Ref board_name ≡ value.Ref x = same_Some (value.Ref board_name) (value.Ref x) e in
    inl (same_ref board_name x f)
rooted zero (suc zero) x e = absurd (no_null_ref x (same_Some value.Null (value.Ref x) e))
rooted zero (suc (suc zero)) x e = let f : value.Ref two ≡ value.Ref x = same_Some (value.Ref two) (value.Ref x) e in
    inr (same_ref two x f)
rooted zero (suc (suc (suc zero))) x e = absurd (no_null_ref x (same_Some value.Null (value.Ref x) e))
rooted zero (suc (suc (suc (suc q)))) x e = absurd (none-some (value.Ref x) e)
rooted (suc m) q x e = absurd (none-some (value.Ref x) e)

-- an object of nulls leads nowhere
nulls_lead_nowhere : (object x : Name) (n : ℕ) → fields_of at_snap object ≡ Some (replicate n value.Null)
    → StandsInField at_snap object x → ⊥
nulls_lead_nowhere object x n is stands =
    let fields : replicate n value.Null ≡ stands.0 = same_Some (replicate n value.Null) stands.0 (sym is ∙ stands.2) in
    no_null_ref x (get_replicate n stands.1 value.Null (value.Ref x)
    (ap (λ (fs : List Value). slice_get fs stands.1) fields ∙ stands.3))

leads_nowhere : (from x : Name) → (board_name ≡ from) ⊎ (two ≡ from) → StandsInField at_snap from x → ⊥
leads_nowhere from x is stands =
    ⊎_elim (λ e. nulls_lead_nowhere board_name x 1 (finite.get-from_entries names_total with_two board_name)
    (subst (λ o. StandsInField at_snap o x) (sym e) stands))
    (λ e. nulls_lead_nowhere two x 5 (finite.get-from_entries names_total with_two two)
    (subst (λ o. StandsInField at_snap o x) (sym e) stands)) is

stays_there : (from x : Name) (path : List Name) → (board_name ≡ from) ⊎ (two ≡ from) → LeadsTo at_snap from path x
    → (board_name ≡ x) ⊎ (two ≡ x)
stays_there from x [] is leads = ⊎_elim (λ e. inl (e ∙ leads)) (λ e. inr (e ∙ leads)) is
stays_there from x (next ∷ path) is leads = absurd (leads_nowhere from next is leads.0)

reached_two : (x : Name) → IsReachable at_snap x → (board_name ≡ x) ⊎ (two ≡ x)
reached_two x reached =
    stays_there reached.first x reached.path
    (rooted reached.in_root.0 reached.in_root.1 reached.first reached.in_root.2) reached.leads

one_not_reached : IsReachable at_snap one → ⊥
one_not_reached reached =
    ⊎_elim (λ e. let f : 0 ≡ 1 = ap (λ (n : Name). n.entry) e in
    omega arith) (λ e. let f : 2 ≡ 1 = ap (λ (n : Name). n.entry) e in omega arith) (reached_two one reached)

pub one_dead : (after : List Point) → IsDead roomy (before_reuse_snap ++ Snap 1 ∷ after) 1 one
one_dead after = record {
  before = before_reuse_snap;
  after = after;
  numbered = omega arith;
  split = refl;
  made = (1, omega arith, refl);
  unreached = one_not_reached;
}

made_at_snap : (x : Name) → IsDead roomy after_snap.history 1 x → Contains (one ∷ []) x
made_at_snap x dead =
    let lost = lost_at_snap roomy before_reuse_snap [] x refl refl dead in
    ⊎_elim
    (λ s. ⊎_elim
    (λ t. absurd (⊎_elim (λ n. in_none x n)
    (λ is. lost.1 (subst (IsReachable at_snap) is (record {
      first = board_name;
      path = [];
      in_root = (0, 0, refl);
      leads = refl;
    }))) (Contains-push_cases [] board_name x t)))
    (λ t. t) (Contains-append_cases (board_name ∷ []) (one ∷ []) x s))
    (λ is. absurd (lost.1
    (subst (IsReachable at_snap) is (record { first = two; path = []; in_root = (0, 2, refl); leads = refl }))))
    (Contains-push_cases (board_name ∷ one ∷ []) two x lost.0)

one_freed : AreFreed roomy after_snap.history 1 (one ∷ [])
unfolding IsStrictlySortedBy
one_freed = record {
  rising = (tt, tt);
  each = λ x. (
    (λ c. (
      ⊎_elim (λ n. absurd (in_none x n)) (λ e. subst (IsDead roomy after_snap.history 1) e (one_dead []))
          (Contains-push_cases [] one x c),
      (λ dead. let n = dead.numbered in omega arith),
    )),
    (λ d. made_at_snap x d.0),
  );
}

answers_cycle : Answers roomy after_cycle
answers_cycle = answers_finish roomy after_snap (one ∷ []) answers_snap (omega arith) one_freed

-- ---- the entry again

reuse_next : IsNext roomy after_cycle (Did 0 (call.New 3 6) (reply.Made one_again))
reuse_next = record {
  lawful = ((value.Null, refl), finite.get-from_entries names_total with_two one_again);
  unfinished = omega arith;
  waits = λ m c cycle e. absurd (let f = same_reply 0 m (call.New 3 6) c (reply.Made one_again) (reply.Cycle cycle) e in
      (let g : ⊥ = cc in g));
  names = λ x in_made. ⊎_elim (λ t. absurd (in_none x t))
      (λ t. subst (IsInRange roomy) t (record { entry = omega arith; generation = omega arith }))
      (Contains-push_cases [] one_again x in_made);
  reuses = λ m c entry generation e.
      let x : Name = record { entry = entry; generation = generation + 1 } in
      let f = same_reply 0 m (call.New 3 6) c (reply.Made one_again) (reply.Made x) e in
      let s : one_again ≡ x = cc in
      let at : 1 ≡ entry = ap (λ (n : Name). n.entry) s in
      let number : 1 ≡ generation + 1 = ap (λ (n : Name). n.generation) s in
      let first : 0 ≡ generation = omega arith in
      let before : one ≡ record { entry = entry; generation = generation } =
      λ i. record { entry = at i; generation = first i } in
      subst (λ n. Contains (names_made after_cycle.history) n
      × IsDead roomy after_cycle.history 1 n) before ((1, omega arith, refl), one_dead []);
}

answers_reuse : Answers roomy after_reuse
answers_reuse = answers_push roomy after_cycle (Did 0 (call.New 3 6) (reply.Made one_again)) answers_cycle reuse_next
    (made_full roomy after_cycle 0 3 6 one_again) (follows reusing after_reuse.history (drop 4 reusing) refl)

show_next : IsNext roomy after_reuse (Did 0 (call.Show 2) (reply.Value (value.Ref two)))
show_next = record {
  lawful = refl;
  unfinished = omega arith;
  waits = λ m c cycle e. absurd (let f =
      same_reply 0 m (call.Show 2) c (reply.Value (value.Ref two)) (reply.Cycle cycle) e in (let g : ⊥ = cc in g));
  names = λ x in_made. absurd (in_none x in_made);
  reuses = λ m c entry generation e. absurd (let f =
      same_reply 0 m (call.Show 2) c (reply.Value (value.Ref two)) (reply.Made _) e in (let g : ⊥ = cc in g));
}

answers_all : Answers roomy reused_front
answers_all = answers_push roomy after_reuse (Did 0 (call.Show 2) (reply.Value (value.Ref two))) answers_reuse show_next
    (λ m root fields e. absurd (let f =
    same_reply 0 m (call.Show 2) (call.New root fields) (reply.Value (value.Ref two)) reply.Full e in
    (let g : ⊥ = cc in g)))
    (follows reusing reuse_history [] refl)

all_calls : (m : ℕ) (program : List Call) → slice_get (reusing ∷ []) m ≡ Some program
    → calls_by m reuse_history ≡ program
all_calls zero program e = same_Some reusing program e
all_calls (suc m) program e = absurd (none-some program e)

pub reused_answers : AnswersToEnd roomy reused_front
reused_answers = record { answers = answers_all; all = all_calls }

-- no snapshot has found the object dead
pub too_soon_does_not : ¬ Answers roomy reused_too_soon
too_soon_does_not answers =
    let dead = (answers.lawful.reuses before_reuse_snap [] 0 (call.New 3 6) 1 0 refl).1 in
    let n = dead.numbered in omega arith
