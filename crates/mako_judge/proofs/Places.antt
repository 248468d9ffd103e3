-- What each clause asks of a front is what it asks of each of its points, and of the front beside them.
use Rattle.std.proofs.Common.{◌≡◌, ◌↔◌, ℕ, zero, suc, ◌+◌, ◌<◌, ◌≤◌, ◌==◌, ⊎_elim, Bool, true, false, cond, List, []}
use Rattle.std.proofs.Common.{◌∷◌, ◌++◌, length, Contains, flat_map, take, drop, get_or, slice_get, Some, sym, ap}
use Rattle.std.proofs.Common.{subst, refl, ◌∙◌, arith, append-nil, append_assoc}
use mathlib.Core.List.{IsPrefix}
use Rattle.std.specs.List.{fold}
use Rattle.std.proofs.Math.Seq.{take-suc}
use Rattle.std.proofs.lemmas.Bool.{eqb-true}
use Rattle.std.proofs.lemmas.List.{take_all}
use Rattle.std.proofs.lemmas.List.Elements.{Contains-append_left, Contains-append_right, Contains-append_cases}
use Rattle.std.proofs.lemmas.Option.{same_Some, none-some, slice_get_within, slice_get-get_or}
use Rattle.mako_words.specs.declared.name.Name.{Name}
use Rattle.mako_model.specs.declared.call.Call.{Call}
use Rattle.mako_model.specs.declared.call.Call.TheVariants as call
use Rattle.mako_model.specs.declared.reply.Reply.{Reply}
use Rattle.mako_model.specs.declared.reply.Reply.TheVariants as reply
use Rattle.mako_model.specs.declared.point.Point.{Point}
use Rattle.mako_model.specs.declared.point.Point.TheVariants.{Did, Snap}
use Rattle.mako_model.specs.Fronts.{Seen, calls_by, FollowsPrograms}
use Rattle.mako_model.specs.Heaps.{Heap, board_name}
use Rattle.mako_model.specs.Lawful.{IsLawful, heap_after}
use Rattle.mako_model.specs.Legal.{Facts, opening_of, state_of, AreLawful, IsLegal}
use Rattle.mako_model.specs.Dead.{made_by, names_made}
use Rattle.mako_model.specs.LawfulFronts.{since, IsInRange, AnsweredWaitsAreOver, ReusesAreOfDead}
use Rattle.mako_model.specs.Starved.{IsStarved}
use Rattle.mako_model.specs.Answering.{FullsAreStarved}
use Rattle.mako_model.proofs.Histories.{legal_at, names_append}
use Rattle.mako_judge.specs.declared.verdict.Clause.{Clause}
use Rattle.mako_judge.specs.declared.verdict.Clause.TheVariants as clause
use Rattle.mako_judge.specs.Clauses.{Holds, HoldsApart, HoldsBelow, IsAnswered, MakesInRange, MakesAgain}
use Rattle.mako_judge.specs.Clauses.{RefusesStarved, FollowsProgram}
use Rattle.mako_judge.proofs.Calling.{calls_append, calls_cons, get_behind}
use Rattle.mako_judge.proofs.Kept.{first_in, in_cases, none_in}

-- ---- places

module _ {A : Type 0} where
  -- a list before and after one of its elements
  pub split_at : (xs : List A) (i : ℕ) (x : A) → slice_get xs i ≡ Some x → xs ≡ take i xs ++ x ∷ drop (suc i) xs
  split_at [] i x e = absurd (none-some x e)
  split_at (y ∷ xs) zero x e = ap (λ z. z ∷ xs) (same_Some y x e)
  split_at (y ∷ xs) (suc i) x e = ap (λ l. y ∷ l) (split_at xs i x e)

  -- the elements before one, by number
  pub take_before : (before after : List A) → take (length before) (before ++ after) ≡ before
  take_before [] after = refl
  take_before (x ∷ before) after = ap (λ l. x ∷ l) (take_before before after)

-- what each point of a history meets
abbrev pub EachPoint : (List Point → Point → Type 0) → List Point → Type 0
EachPoint P history = (place : ℕ) (point : Point) → place < length history → slice_get history place ≡ Some point
    → P (take place history) point

module _ (P : List Point → Point → Type 0) where
  pub each_split : (history : List Point)
      → ((before after : List Point) (point : Point) → history ≡ before ++ point ∷ after → P before point)
      → EachPoint P history
  each_split history all place point l at =
      all (take place history) (drop (suc place) history) point (split_at history place point at)

  pub at_split : (history before after : List Point) (point : Point) → history ≡ before ++ point ∷ after
      → EachPoint P history → P before point
  at_split history before after point e each =
      let at : slice_get history (length before) ≡ Some point = ap (λ h. slice_get h (length before)) e
      ∙ get_behind before point after (length before) refl in
      let taken : take (length before) history ≡ before = ap (take (length before)) e
      ∙ take_before before (point ∷ after) in
      subst (λ b. P b point) taken (each (length before) point (slice_get_within history (length before) point at) at)

-- ---- legal

lawful_each : (h : Heap) (points : List Point)
    → ((place : ℕ) (point : Point) → slice_get points place ≡ Some point
    → IsLawful (fold heap_after h (take place points)) point) → AreLawful h points
lawful_each h [] each = tt
lawful_each h (p ∷ points) each =
    (each 0 p refl, lawful_each (heap_after h p) points (λ place point at. each (suc place) point at))

pub legal_iff : (w : Facts) (history : List Point)
    → IsLegal w history ↔ EachPoint (λ before point. IsLawful (state_of w before) point) history
legal_iff w history = (
  (λ legal. each_split (λ before point. IsLawful (state_of w before) point) history
      (λ before after point e. legal_at w before point after (subst (IsLegal w) e legal))),
  (λ each. lawful_each (opening_of w) history
      (λ place point at. each place point (slice_get_within history place point at) at)),
)

-- ---- waits

answered_from : (front : Seen) (before : List Point) (p : Point)
    → ((m : ℕ) (c : Call) (k : ℕ) → p ≡ Did m c (reply.Cycle k) → (k ≤ length front.finished)
    × Contains (since m before) (Snap k)) → IsAnswered front before p
answered_from front before (Did m c (reply.Cycle k)) all = all m c k refl
answered_from front before p all = tt

pub waits_iff : (front : Seen) → AnsweredWaitsAreOver front ↔ EachPoint (IsAnswered front) front.history
waits_iff front = (
  (λ waits. each_split (IsAnswered front) front.history
      (λ before after p e. answered_from front before p (λ m c k is. waits before after m c k (e
      ∙ ap (λ q. before ++ q ∷ after) is)))),
  (λ each before after m c k e. at_split (IsAnswered front) front.history before after
      (Did m c (reply.Cycle k)) e each),
)

-- ---- names

made_within : (before after : List Point) (p : Point) (x : Name) → Contains (made_by p) x
    → Contains (names_made (before ++ p ∷ after)) x
made_within before after p x c =
    subst (λ ns. Contains ns x) (sym (names_append before (p ∷ after)))
    (Contains-append_right (names_made before) (made_by p ++ flat_map made_by after) x
    (Contains-append_left (made_by p) (flat_map made_by after) x c))

made_somewhere : (points : List Point) (x : Name) → Contains (flat_map made_by points) x → (before : List Point)
    × (p : Point) × (after : List Point) × (points ≡ before ++ p ∷ after) × Contains (made_by p) x
made_somewhere [] x c = absurd (none_in x c)
made_somewhere (p ∷ points) x c =
    ⊎_elim (λ t. ([], p, points, refl, t))
    (λ t. let s = made_somewhere points x t in
    (p ∷ s.0, s.1, s.2, ap (λ l. p ∷ l) s.3, s.4)) (Contains-append_cases (made_by p) (flat_map made_by points) x c)

abbrev AreInRange : Facts → List Point → Type 0
AreInRange w history = (name : Name) → Contains (names_made history) name → IsInRange w name

pub names_iff : (w : Facts) (history : List Point)
    → AreInRange w history ↔ (IsInRange w board_name × EachPoint (λ before point. MakesInRange w point) history)
names_iff w history = (
  (λ all. (
    all board_name (first_in board_name (flat_map made_by history)),
    each_split (λ before point. MakesInRange w point) history
        (λ before after p e x c. all x
        (subst (λ h. Contains (names_made h) x) (sym e) (made_within before after p x c))),
  )),
  (λ parts x c. ⊎_elim (λ t. subst (IsInRange w) t parts.0)
      (λ t. let s = made_somewhere history x t in
      at_split (λ before point. MakesInRange w point) history s.0 s.2 s.1 s.3 parts.1 x s.4)
      (in_cases board_name (flat_map made_by history) x c)),
)

-- ---- reuses

made_of : (p : Point) (x : Name) → Contains (made_by p) x → (m : ℕ) × (c : Call) × (p ≡ Did m c (reply.Made x))
made_of (Did m c (reply.Made name)) x made = (
  m,
  c,
  ap (λ (n : Name). Did m c (reply.Made n))
      (⊎_elim (λ t. t) (λ t. absurd (none_in x t)) (in_cases name [] x made)),
)
made_of (Did m c reply.Full) x made = absurd (none_in x made)
made_of (Did m c (reply.Value v)) x made = absurd (none_in x made)
made_of (Did m c reply.Done) x made = absurd (none_in x made)
made_of (Did m c reply.NoRef) x made = absurd (none_in x made)
made_of (Did m c reply.NoField) x made = absurd (none_in x made)
made_of (Did m c (reply.Cycle k)) x made = absurd (none_in x made)
made_of (Did m c reply.Spent) x made = absurd (none_in x made)
made_of (Snap k) x made = absurd (none_in x made)

pub reuses_iff : (w : Facts) (front : Seen)
    → ReusesAreOfDead w front.history ↔ EachPoint (MakesAgain w front) front.history
reuses_iff w front = (
  (λ reuses. each_split (MakesAgain w front) front.history (λ before after p e x c generation next.
      let made = made_of p x c in
      let is : p ≡ Did made.0 made.1 (reply.Made (record { entry = x.entry; generation = generation + 1 })) = made.2
      ∙ ap (λ (g : ℕ). Did made.0 made.1 (reply.Made (record { entry = x.entry; generation = g }))) next in
      reuses before after made.0 made.1 x.entry generation (e ∙ ap (λ q. before ++ q ∷ after) is))),
  (λ each before after m c entry generation e.
      let x : Name = record { entry = entry; generation = generation + 1 } in
      at_split (MakesAgain w front) front.history before after (Did m c (reply.Made x)) e each x
      (first_in x []) generation refl),
)

-- ---- starved

starved_from : (w : Facts) (front : Seen) (before : List Point) (p : Point)
    → ((m root fields : ℕ) → p ≡ Did m (call.New root fields) reply.Full → IsStarved w front before m fields)
    → RefusesStarved w front before p
starved_from w front before (Did m (call.New root fields) reply.Full) all = all m root fields refl
starved_from w front before p all = tt

pub starved_each : (w : Facts) (front : Seen)
    → FullsAreStarved w front ↔ EachPoint (RefusesStarved w front) front.history
starved_each w front = (
  (λ fulls. each_split (RefusesStarved w front) front.history
      (λ before after p e. starved_from w front before p (λ m root fields is. fulls before after m root fields (e
      ∙ ap (λ q. before ++ q ∷ after) is)))),
  (λ each before after m root fields e. at_split (RefusesStarved w front) front.history before after
      (Did m (call.New root fields) reply.Full) e each),
)

-- ---- programs

-- a point behind those before it follows the program
abbrev pub FollowsThere : Facts → List Point → Point → Type 0
FollowsThere w before point = FollowsProgram w (before ++ point ∷ []) point

shorter_prefix : (whole a b : List Call) → IsPrefix (a ++ b) whole → IsPrefix a whole
shorter_prefix whole a b s = (b ++ s.0, sym (append_assoc a b s.0) ∙ s.1)

follows_from : (w : Facts) (history before after : List Point) (p : Point) → history ≡ before ++ p ∷ after
    → FollowsPrograms w.programs history → FollowsThere w before p
follows_from w history before after (Snap k) e follows = tt
follows_from w history before after (Did m c r) e follows = λ program at.
    let p = Did m c r in
    let calls : calls_by m history ≡ calls_by m (before ++ p ∷ []) ++ calls_by m after =
    ap (calls_by m) (e ∙ sym (append_assoc before (p ∷ []) after)) ∙ calls_append m (before ++ p ∷ []) after in
    shorter_prefix program (calls_by m (before ++ p ∷ [])) (calls_by m after)
    (subst (λ xs. IsPrefix xs program) calls (follows m program at))

same_calls : (m : ℕ) (before : List Point) (p : Point) → calls_by m (p ∷ []) ≡ []
    → calls_by m (before ++ p ∷ []) ≡ calls_by m before
same_calls m before p none = calls_append m before (p ∷ []) ∙ ap (λ l. calls_by m before ++ l) none
    ∙ append-nil (calls_by m before)

follows_step : (w : Facts) (m : ℕ) (program : List Call) (before : List Point) (n : ℕ) (c : Call) (r : Reply) (b : Bool)
    → (n == m) ≡ b → slice_get w.programs m ≡ Some program → FollowsThere w before (Did n c r)
    → IsPrefix (calls_by m before) program → IsPrefix (calls_by m (before ++ Did n c r ∷ [])) program
follows_step w m program before n c r true e at there so_far =
    let same = eqb-true n m e in
    subst (λ (k : ℕ). IsPrefix (calls_by k (before ++ Did n c r ∷ [])) program) same
    (there program (ap (slice_get w.programs) same ∙ at))
follows_step w m program before n c r false e at there so_far =
    subst (λ xs. IsPrefix xs program)
    (sym (same_calls m before (Did n c r) (calls_cons m n c r [] ∙ ap (λ (b : Bool). cond b (c ∷ []) []) e))) so_far

follows_next : (w : Facts) (m : ℕ) (program : List Call) (before : List Point) (p : Point)
    → slice_get w.programs m ≡ Some program → FollowsThere w before p
    → IsPrefix (calls_by m before) program → IsPrefix (calls_by m (before ++ p ∷ [])) program
follows_next w m program before (Snap k) at there so_far =
    subst (λ xs. IsPrefix xs program) (sym (same_calls m before (Snap k) refl)) so_far
follows_next w m program before (Did n c r) at there so_far =
    follows_step w m program before n c r (n == m) refl at there so_far

follows_to : (w : Facts) (history : List Point) (m : ℕ) (program : List Call) → slice_get w.programs m ≡ Some program
    → EachPoint (FollowsThere w) history → (i : ℕ) → i ≤ length history
    → IsPrefix (calls_by m (take i history)) program
follows_to w history m program at each zero l = (program, refl)
follows_to w history m program at each (suc i) l =
    let p = get_or history i (Snap 0) in
    let there : slice_get history i ≡ Some p = slice_get-get_or history i (Snap 0) (omega arith) in
    subst (λ ps. IsPrefix (calls_by m ps) program) (sym (take-suc history i (Snap 0) (omega arith)))
    (follows_next w m program (take i history) p at (each i p (omega arith) there)
    (follows_to w history m program at each i (omega arith)))

pub programs_iff : (w : Facts) (history : List Point)
    → FollowsPrograms w.programs history ↔ EachPoint (FollowsThere w) history
programs_iff w history = (
  (λ follows. each_split (FollowsThere w) history
      (λ before after p e. follows_from w history before after p e follows)),
  (λ each m program at. subst (λ ps. IsPrefix (calls_by m ps) program) (take_all (length history) history (omega arith))
      (follows_to w history m program at each (length history) (omega arith))),
)

-- ---- all clauses

nothing_at : (history : List Point) → EachPoint (λ before point. Unit {0}) history
nothing_at history place point l at = tt

pub parts_of : (w : Facts) (front : Seen) (c : Clause)
    → Holds w front c ↔ (HoldsApart w front c × HoldsBelow w front c (length front.history))
parts_of w front clause.Legal = ((λ h. (tt, (legal_iff w front.history).0 h)), (λ p. (legal_iff w front.history).1 p.1))
parts_of w front clause.Finished = ((λ h. (h, nothing_at front.history)), (λ p. p.0))
parts_of w front clause.Unfinished = ((λ h. (h, nothing_at front.history)), (λ p. p.0))
parts_of w front clause.Freed = ((λ h. (h, nothing_at front.history)), (λ p. p.0))
parts_of w front clause.Waits = ((λ h. (tt, (waits_iff front).0 h)), (λ p. (waits_iff front).1 p.1))
parts_of w front clause.Names = names_iff w front.history
parts_of w front clause.Reuses = ((λ h. (tt, (reuses_iff w front).0 h)), (λ p. (reuses_iff w front).1 p.1))
parts_of w front clause.Starved = ((λ h. (tt, (starved_each w front).0 h)), (λ p. (starved_each w front).1 p.1))
parts_of w front clause.Programs =
    ((λ h. (tt, (programs_iff w front.history).0 h)), (λ p. (programs_iff w front.history).1 p.1))
