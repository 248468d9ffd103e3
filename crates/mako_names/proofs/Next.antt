-- Points that may come next.
use Rattle.std.proofs.Common.{◌≡◌, ℕ, ◌+◌, ◌≤◌, ⊎_elim, false, List, [], ◌∷◌, ◌++◌, length, map, set, slice_get}
use Rattle.std.proofs.Common.{Contains, Option, Some, None, sym, ap, subst, refl, ◌∙◌, arith, append-nil, append_assoc}
use Rattle.std.proofs.Common.{eq-eqb, ne_eqb}
use Rattle.std.proofs.lemmas.List.{map-append}
use Rattle.std.proofs.lemmas.Bool.{cases_eq}
use Rattle.std.proofs.lemmas.List.Elements.{Contains-push_cases}
use Rattle.std.proofs.lemmas.Option.{same_Some}
use Rattle.mako_words.specs.declared.name.Name.{Name}
use Rattle.mako_model.specs.declared.call.Call.{Call}
use Rattle.mako_model.specs.declared.call.Call.TheVariants as call
use Rattle.mako_model.specs.declared.reply.Reply.{Reply}
use Rattle.mako_model.specs.declared.reply.Reply.TheVariants as reply
use Rattle.mako_model.specs.declared.point.Point.{Point}
use Rattle.mako_model.specs.declared.point.Point.TheVariants.{Did, Snap}
use Rattle.mako_model.specs.Fronts.{Seen, answered_by, calls_by, FollowsPrograms}
use Rattle.mako_model.specs.Heaps.{fields_of}
use Rattle.mako_model.specs.Lawful.{HasRoot, IsLawful}
use Rattle.mako_model.specs.Legal.{Facts, state_of, IsLegal}
use Rattle.mako_model.specs.Dead.{made_by, names_made, IsDead}
use Rattle.mako_model.specs.LawfulFronts.{since, IsInRange, IsLawfulFront}
use Rattle.mako_model.specs.Answering.{Answers, AnswersToEnd}
use Rattle.mako_model.proofs.Closed.{made_are_objects}
use Rattle.mako_model.proofs.Lists.{get_set_cases}
use Rattle.mako_model.proofs.DeadApart.{dead_later, snaps_replied}
use Rattle.mako_model.proofs.Following.{same_reply, no_snap_did}
use Rattle.mako_model.proofs.Growth.{IsNext, IsStarvedIfFull}
use Rattle.mako_names.specs.Counts.{name_of}
use Rattle.mako_names.specs.Holding.{IsLeft, AllLeft}
use Rattle.mako_names.specs.Tables.{EntryStands}
use Rattle.mako_names.proofs.Counts.{names_in_order}
use Rattle.mako_names.proofs.Entries.{free_is_new, dead_made}
use Rattle.mako_names.proofs.Good.{no_name}

none_of : {A : Type 0} (o : Option A) → ((x : A) → o ≡ Some x → ⊥) → o ≡ None
none_of None not = refl
none_of (Some x) not = absurd (not x refl)

-- a name that was not made is that of no object
pub no_object : (w : Facts) (history : List Point) (name : Name) → IsLegal w history
    → (Contains (names_made history) name → ⊥) → fields_of (state_of w history) name ≡ None
no_object w history name legal fresh =
    none_of (fields_of (state_of w history) name)
    (λ fields e. fresh ((made_are_objects w history legal name).1 (fields, e)))

no_made : (p : Point) (m : ℕ) (c : Call) (name : Name) → made_by p ≡ [] → p ≡ Did m c (reply.Made name) → ⊥
no_made p m c name none e = let f : name ∷ [] ≡ [] = ap made_by (sym e) ∙ none in cc

-- a point that makes no name and answers no waiting
pub plain_next : (w : Facts) (front : Seen) (m : ℕ) (c : Call) (r : Reply) → IsLawfulFront w front
    → IsLawful (state_of w front.history) (Did m c r)
    → made_by (Did m c r) ≡ [] → ((k : ℕ) → r ≡ reply.Cycle k → ⊥) → IsNext w front (Did m c r)
plain_next w front m c r lawful next none no_cycle =
    let same = snaps_replied (state_of w front.history) m c r in
    let unfinished = lawful.unfinished in record {
      lawful = next;
      unfinished = omega arith;
      waits = λ n d cycle e. absurd (no_cycle cycle (same_reply m n c d r (reply.Cycle cycle) e));
      names = λ x made. absurd (no_name x (subst (λ ns. Contains ns x) none made));
      reuses = λ n d entry generation e. absurd (no_made (Did m c r) n d _ none e);
    }

-- a `Cycle` whose cycle is finished, and whose snapshot came since the mutator's last point
pub cycle_next : (w : Facts) (front : Seen) (m k : ℕ) → IsLawfulFront w front
    → IsLawful (state_of w front.history) (Did m call.Collect (reply.Cycle k))
    → k ≤ length front.finished → Contains (since m front.history) (Snap k)
    → IsNext w front (Did m call.Collect (reply.Cycle k))
cycle_next w front m k lawful next finished seen =
    let unfinished = lawful.unfinished in
    let p : Point = Did m call.Collect (reply.Cycle k) in record {
      lawful = next;
      unfinished = omega arith;
      waits = λ n d cycle e.
          let same : m ≡ n = cc in
          let r = same_reply m n call.Collect d (reply.Cycle k) (reply.Cycle cycle) e in
          let number : k ≡ cycle = cc in (
            subst (λ z. z ≤ length front.finished) number finished,
            subst (λ z. Contains (since z front.history) (Snap cycle)) same
                (subst (λ z. Contains (since m front.history) (Snap z)) number seen),
          );
      names = λ x made. absurd (no_name x made);
      reuses = λ n d entry generation e. absurd (no_made p n d _ refl e);
    }

-- the next snapshot, where no cycle runs
pub snap_next : (w : Facts) (front : Seen) (c : ℕ) → c ≡ (state_of w front.history).snaps
    → length front.finished ≡ (state_of w front.history).snaps → c + 1 ≤ (state_of w front.history).cycles
    → IsNext w front (Snap (c + 1))
snap_next w front c same finished left = record {
  lawful = (omega arith, left);
  unfinished = omega arith;
  waits = λ n d cycle e. absurd (no_snap_did (c + 1) n d (reply.Cycle cycle) e);
  names = λ x made. absurd (no_name x made);
  reuses = λ n d entry generation e. absurd (no_snap_did (c + 1) n d (reply.Made _) e);
}

-- the publication of a free entry: its name is new, and the one before is dead
pub publish_next : (w : Facts) (front : Seen) (m root fields settled x g : ℕ) → IsLawfulFront w front
    → HasRoot (state_of w front.history) m root → settled ≤ (state_of w front.history).snaps
    → EntryStands w front settled x false g → IsInRange w (name_of x g)
    → IsNext w front (Did m (call.New root fields) (reply.Made (name_of x g)))
publish_next w front m root fields settled x g lawful has begun stands range =
    let h = front.history in
    let unfinished = lawful.unfinished in
    record {
      lawful = (
        has,
        no_object w h (name_of x g) lawful.legal
            (free_is_new w front settled x g (names_in_order w front lawful) stands),
      );
      unfinished = omega arith;
      waits = λ n d cycle e. absurd
          (let f =
          same_reply m n (call.New root fields) d (reply.Made (name_of x g)) (reply.Cycle cycle)
          e in (let b : ⊥ = cc in b));
      names = λ y made. ⊎_elim (λ t. absurd (no_name y t)) (λ t. subst (IsInRange w) t range)
          (Contains-push_cases [] (name_of x g) y made);
      reuses = λ n d y k e.
          let f = same_reply m n (call.New root fields) d (reply.Made (name_of x g))
          (reply.Made (name_of y (k + 1))) e in
          let s : name_of x g ≡ name_of y (k + 1) = cc in
          let same : x ≡ y = ap (λ (z : Name). z.entry) s in
          let last : g ≡ k + 1 = ap (λ (z : Name). z.generation) s in
          let dead =
          dead_later w h settled (state_of w h).snaps (name_of x k) lawful.legal begun (omega arith)
          (stands.free refl k last) in
          subst (λ z. Contains (names_made h) (name_of z k) × IsDead w h (state_of w h).snaps (name_of z k)) same
          (dead_made w h (state_of w h).snaps (name_of x k) dead, dead);
    }

-- where the reply is not `Full`, nothing is starved
pub not_full : (w : Facts) (front : Seen) (m : ℕ) (c : Call) (r : Reply) → (r ≡ reply.Full → ⊥)
    → IsStarvedIfFull w front (Did m c r)
not_full w front m c r other n root fields e = absurd (other (same_reply m n c (call.New root fields) r reply.Full e))

pub snap_not_full : (w : Facts) (front : Seen) (cycle : ℕ) → IsStarvedIfFull w front (Snap cycle)
snap_not_full w front cycle n root fields e = absurd (no_snap_did cycle n (call.New root fields) reply.Full e)

-- ---- programs

answered_append : (m : ℕ) (xs ys : List Point) → answered_by m (xs ++ ys) ≡ answered_by m xs ++ answered_by m ys
answered_append m [] ys = refl
answered_append m (Did n c r ∷ xs) ys =
    ⊎_elim
    (λ e. let is = eq-eqb n m e in rw (is, answered_append m xs ys) refl)
    (λ e. let is = ne_eqb n m e in rw (is, answered_append m xs ys) refl) (cases_eq n m)
answered_append m (Snap cycle ∷ xs) ys = answered_append m xs ys

calls_append : (m : ℕ) (xs ys : List Point) → calls_by m (xs ++ ys) ≡ calls_by m xs ++ calls_by m ys
calls_append m xs ys = ap (map (λ (p : Call × Reply). p.0)) (answered_append m xs ys)
    ∙ map-append (λ (p : Call × Reply). p.0) (answered_by m xs) (answered_by m ys)

own_call : (m : ℕ) (c : Call) (r : Reply) → calls_by m (Did m c r ∷ []) ≡ c ∷ []
own_call m c r = let is = eq-eqb m m refl in rw is refl

other_call : (m n : ℕ) (c : Call) (r : Reply) → (n ≡ m → ⊥) → calls_by m (Did n c r ∷ []) ≡ []
other_call m n c r other = let is = ne_eqb n m other in rw is refl

-- the first call that was left is answered
pub left_push : (w : Facts) (history : List Point) (m : ℕ) (c : Call) (left : List Call) (r : Reply)
    → IsLeft w history m (c ∷ left) → IsLeft w (history ++ Did m c r ∷ []) m left
left_push w history m c left r is program at =
    is program at ∙ sym (append_assoc (calls_by m history) (c ∷ []) left)
    ∙ ap (λ cs. cs ++ left)
    (sym (calls_append m history (Did m c r ∷ []) ∙ ap (λ cs. calls_by m history ++ cs) (own_call m c r)))

pub left_other : (w : Facts) (history : List Point) (m n : ℕ) (c : Call) (left : List Call) (r : Reply)
    → (n ≡ m → ⊥) → IsLeft w history m left → IsLeft w (history ++ Did n c r ∷ []) m left
left_other w history m n c left r other is program at =
    is program at
    ∙ ap (λ cs. cs ++ left)
    (sym (calls_append m history (Did n c r ∷ [])
    ∙ ap (λ cs. calls_by m history ++ cs) (other_call m n c r other) ∙ append-nil (calls_by m history)))

pub left_snap : (w : Facts) (history : List Point) (m cycle : ℕ) (left : List Call) → IsLeft w history m left
    → IsLeft w (history ++ Snap cycle ∷ []) m left
left_snap w history m cycle left is program at =
    is program at
    ∙ ap (λ cs. cs ++ left) (sym (calls_append m history (Snap cycle ∷ []) ∙ append-nil (calls_by m history)))

-- the programs are followed on, where the call is the next of its mutator's program
pub follows_push : (w : Facts) (history : List Point) (m : ℕ) (c : Call) (left : List Call) (r : Reply)
    → IsLeft w history m (c ∷ left)
    → FollowsPrograms w.programs history → FollowsPrograms w.programs (history ++ Did m c r ∷ [])
follows_push w history m c left r is follows n program at =
    ⊎_elim
    (λ e. (
      left,
      ap (λ k. calls_by k (history ++ Did m c r ∷ []) ++ left) e
          ∙ sym (left_push w history m c left r is program (subst (λ k. slice_get w.programs k ≡ Some program) e at)),
    ))
    (λ e. let t = follows n program at in (
      t.0,
      sym
          (left_other w history n m c t.0 r (λ f. e (sym f))
          (λ other is_at. same_program program other t.0 (calls_by n history) (sym at ∙ is_at) t.1) program at),
    ))
    (cases_eq n m)
  where
    same_program : (program other rest front : List Call) → Some program ≡ Some other → front ++ rest ≡ program
        → other ≡ front ++ rest
    same_program program other rest front e f = sym (f ∙ same_Some program other e)

pub follows_snap : (w : Facts) (history : List Point) (cycle : ℕ) → FollowsPrograms w.programs history
    → FollowsPrograms w.programs (history ++ Snap cycle ∷ [])
follows_snap w history cycle follows n program at =
    let t = follows n program at in
    (t.0, ap (λ cs. cs ++ t.0) (calls_append n history (Snap cycle ∷ []) ∙ append-nil (calls_by n history)) ∙ t.1)

-- the calls that are left of all programs
pub all_left_point : (w : Facts) (history : List Point) (m : ℕ) (c : Call) (left : List Call) (r : Reply)
    (facets : List (List Call)) → slice_get facets m ≡ Some (c ∷ left) → AllLeft w history facets
    → AllLeft w (history ++ Did m c r ∷ []) (set facets m left)
all_left_point w history m c left r facets at all n found is =
    ⊎_elim
    (λ t. subst (λ k. IsLeft w (history ++ Did m c r ∷ []) k found) (sym t.0)
    (subst (IsLeft w (history ++ Did m c r ∷ []) m) t.1 (left_push w history m c left r (all m (c ∷ left) at))))
    (λ t. let other = t.0 in left_other w history n m c found r (λ e. other (sym e)) (all n found t.1))
    (get_set_cases facets m n left found is)

pub all_left_snap : (w : Facts) (history : List Point) (cycle : ℕ) (facets : List (List Call))
    → AllLeft w history facets → AllLeft w (history ++ Snap cycle ∷ []) facets
all_left_snap w history cycle facets all n found is = left_snap w history n cycle found (all n found is)

-- a front that answers the script answers it to the end where no call is left
pub to_the_end : (w : Facts) (front : Seen) (facets : List (List Call)) → AllLeft w front.history facets
    → ((m : ℕ) (program : List Call) → slice_get w.programs m ≡ Some program → slice_get facets m ≡ Some [])
    → Answers w front → AnswersToEnd w front
to_the_end w front facets all none answers = record {
  answers = answers;
  all = λ m program at. sym (append-nil (calls_by m front.history)) ∙ sym (all m [] (none m program at) program at);
}
