-- Fronts that go on: what was dead, freed, waited for, used again or starved stays so.
use Rattle.std.proofs.Common.{◌≡◌, ℕ, zero, suc, ◌+◌, ◌-◌, ◌<◌, ◌≤◌, ◌⊎◌, inl, inr, ⊎_elim, List, [], ◌∷◌, ◌++◌, length}
use Rattle.std.proofs.Common.{Contains, slice_get, Some, sym, ap, subst, refl, ◌∙◌, arith, append-nil, append_assoc}
use Rattle.std.proofs.Common.{length-append}
use Rattle.std.specs.List.{fold}
use Rattle.std.proofs.lemmas.List.Elements.{Contains-append_cases, Contains-push_cases}
use Rattle.std.proofs.lemmas.List.Sums.{fold_push}
use Rattle.std.proofs.lemmas.Option.{same_Some, none-some, slice_get_within}
use Rattle.mako_words.specs.declared.name.Name.{Name}
use Rattle.mako_model.specs.declared.call.Call.{Call}
use Rattle.mako_model.specs.declared.call.Call.TheVariants as call
use Rattle.mako_model.specs.declared.reply.Reply.TheVariants as reply
use Rattle.mako_model.specs.declared.point.Point.{Point}
use Rattle.mako_model.specs.declared.point.Point.TheVariants.{Did, Snap}
use Rattle.mako_model.specs.Fronts.{Seen, FollowsPrograms, opening_front, with_point, with_cycle}
use Rattle.mako_model.specs.Heaps.{board_name}
use Rattle.mako_model.specs.Lawful.{IsLawful, heap_after}
use Rattle.mako_model.specs.Legal.{Facts, state_of, IsLegal}
use Rattle.mako_model.specs.Dead.{made_by, names_made, IsDead, AreFreed}
use Rattle.mako_model.specs.LawfulFronts.{since, since_next, IsInRange, AnsweredWaitsAreOver, ReusesAreOfDead}
use Rattle.mako_model.specs.LawfulFronts.{IsLawfulFront}
use Rattle.mako_model.specs.Starved.{IsAwaited, AreSpent, IsEntryUnavailable, IsStarved}
use Rattle.mako_model.specs.Answering.{FullsAreStarved, Answers}
use Rattle.mako_model.proofs.Splits.{split_of_append}
use Rattle.mako_model.proofs.Histories.{state_push, legal_push, names_push}
use Rattle.mako_model.proofs.DeadApart.{snap_number, snaps_grow, state_append}

-- the points since a mutator's last one, with one point more
pub since_push : (m : ℕ) (history : List Point) (p : Point)
    → since m (history ++ p ∷ []) ≡ since_next m (since m history) p
since_push m history p = fold_push (since_next m) [] history p

-- ---- dead and freed

-- what was dead is dead when the history goes on
pub dead_stays : (w : Facts) (history rest : List Point) (cycle : ℕ) (x : Name) → IsDead w history cycle x
    → IsDead w (history ++ rest) cycle x
dead_stays w history rest cycle x dead = record {
  before = dead.before;
  after = dead.after ++ rest;
  numbered = dead.numbered;
  split = ap (λ ps. ps ++ rest) dead.split ∙ append_assoc dead.before (Snap cycle ∷ dead.after) rest;
  made = dead.made;
  unreached = dead.unreached;
}

pub snaps_stay : (w : Facts) (history rest : List Point)
    → (state_of w history).snaps ≤ (state_of w (history ++ rest)).snaps
snaps_stay w history rest =
    let grow = snaps_grow (state_of w history) rest in
    let same : (state_of w (history ++ rest)).snaps ≡ (fold heap_after (state_of w history) rest).snaps =
    ap (λ h. h.snaps) (state_append w history rest) in
    omega arith

-- what is dead in a cycle that has begun was dead before the history went on
pub dead_was : (w : Facts) (history rest : List Point) (cycle : ℕ) (x : Name) → IsLegal w (history ++ rest)
    → cycle ≤ (state_of w history).snaps → IsDead w (history ++ rest) cycle x → IsDead w history cycle x
dead_was w history rest cycle x legal begun dead =
    ⊎_elim
    (λ t. record {
      before = dead.before;
      after = t.0;
      numbered = dead.numbered;
      split = t.1;
      made = dead.made;
      unreached = dead.unreached;
    })
    (λ t.
    let number = snap_number w dead.before cycle dead.after (subst (IsLegal w) dead.split legal) in
    let grow = snaps_stay w history t.0 in
    let same : (state_of w dead.before).snaps ≡ (state_of w (history ++ t.0)).snaps =
    ap (λ ps. (state_of w ps).snaps) t.1 in
    absurd (omega arith))
    (split_of_append history rest dead.before (Snap cycle) dead.after dead.split)

pub freed_stays : (w : Facts) (history rest : List Point) (cycle : ℕ) (names : List Name) → IsLegal w (history ++ rest)
    → cycle ≤ (state_of w history).snaps → AreFreed w history cycle names → AreFreed w (history ++ rest) cycle names
freed_stays w history rest cycle names legal begun freed = record {
  rising = freed.rising;
  each = λ x. (
    (λ c. let d = (freed.each x).0 c in (
      dead_stays w history rest cycle x d.0,
      (λ before. d.1 (dead_was w history rest (cycle - 1) x legal (omega arith) before)),
    )),
    (λ d. (freed.each x).1 (
      dead_was w history rest cycle x legal begun d.0,
      (λ before. d.1 (dead_stays w history rest (cycle - 1) x before)),
    )),
  );
}

-- ---- one point more

nil_cons : {A : Type 0} (x : A) (xs : List A) → [] ≡ x ∷ xs → ⊥
nil_cons x xs e = cc

at_last : (history : List Point) (q : Point) (before : List Point) (p : Point) (after more : List Point)
    → before ≡ history ++ more → q ∷ [] ≡ more ++ p ∷ after → (before ≡ history) × (q ≡ p)
at_last history q before p after [] e f = (e ∙ append-nil history, (let h : q ≡ p = cc in h))
at_last history q before p after (x ∷ []) e f = let rest : [] ≡ p ∷ after = cc in absurd (nil_cons p after rest)
at_last history q before p after (x ∷ y ∷ more) e f = let rest : [] ≡ y ∷ (more ++ p ∷ after) = cc in
    absurd (nil_cons y (more ++ p ∷ after) rest)

-- where a point stands in a history with one point more
pub last_or_before : (history : List Point) (q : Point) (before : List Point) (p : Point) (after : List Point)
    → history ++ q ∷ [] ≡ before ++ p ∷ after
    → ((before ≡ history) × (q ≡ p)) ⊎ ((rest : List Point) × (history ≡ before ++ p ∷ rest))
last_or_before history q before p after e =
    ⊎_elim (λ t. inr (t.0, t.1)) (λ t. inl (at_last history q before p after t.0 t.1 t.2))
    (split_of_append history (q ∷ []) before p after e)

-- What the next point of a lawful front has to meet, beside that it is lawful: a snapshot comes only when each
-- cycle before is finished, a cycle that was waited for is finished and its snapshot was seen, and a name made
-- is in range and used again only after it was dead.
pub record IsNext (w : Facts) (front : Seen) (p : Point) : Type 0 where
  pub lawful : IsLawful (state_of w front.history) p
  pub unfinished : (heap_after (state_of w front.history) p).snaps ≤ length front.finished + 1
  pub waits : (m : ℕ) (c : Call) (cycle : ℕ) → p ≡ Did m c (reply.Cycle cycle) → (cycle ≤ length front.finished)
      × Contains (since m front.history) (Snap cycle)
  pub names : (x : Name) → Contains (made_by p) x → IsInRange w x
  pub reuses : (m : ℕ) (c : Call) (entry generation : ℕ)
      → p ≡ Did m c (reply.Made (record { entry = entry; generation = generation + 1 }))
      → Contains (names_made front.history) (record { entry = entry; generation = generation })
      × IsDead w front.history (state_of w front.history).snaps (record { entry = entry; generation = generation })

waits_push : (w : Facts) (front : Seen) (p : Point) → AnsweredWaitsAreOver front → IsNext w front p
    → AnsweredWaitsAreOver (with_point front p)
waits_push w front p waits next before after m c cycle e =
    ⊎_elim
    (λ t. let n = next.waits m c cycle t.1 in (n.0, subst (λ ps. Contains (since m ps) (Snap cycle)) (sym t.0) n.1))
    (λ t. waits before t.0 m c cycle t.1) (last_or_before front.history p before (Did m c (reply.Cycle cycle)) after e)

reuses_push : (w : Facts) (front : Seen) (p : Point) → ReusesAreOfDead w front.history → IsNext w front p
    → ReusesAreOfDead w (front.history ++ p ∷ [])
reuses_push w front p reuses next before after m c entry generation e =
    let x : Name = record { entry = entry; generation = generation } in
    let made : Name = record { entry = entry; generation = generation + 1 } in
    ⊎_elim
    (λ t. let n = next.reuses m c entry generation t.1 in
    subst (λ ps. Contains (names_made ps) x × IsDead w (front.history ++ p ∷ []) (state_of w ps).snaps x) (sym t.0)
    (n.0, dead_stays w front.history (p ∷ []) (state_of w front.history).snaps x n.1))
    (λ t. let n = reuses before t.0 m c entry generation t.1 in
    (n.0, dead_stays w front.history (p ∷ []) (state_of w before).snaps x n.1))
    (last_or_before front.history p before (Did m c (reply.Made made)) after e)

-- a lawful front goes on
pub front_push : (w : Facts) (front : Seen) (p : Point) → IsLawfulFront w front → IsNext w front p
    → IsLawfulFront w (with_point front p)
front_push w front p lawful next =
    let h = front.history in
    let legal : IsLegal w (h ++ p ∷ []) = legal_push w h p lawful.legal next.lawful in
    let snaps : (state_of w (h ++ p ∷ [])).snaps ≡ (heap_after (state_of w h) p).snaps =
    ap (λ s. s.snaps) (state_push w h p) in
    let grow = snaps_stay w h (p ∷ []) in
    let finished = lawful.finished in
    let unfinished = next.unfinished in
    record {
      legal = legal;
      finished = omega arith;
      unfinished = omega arith;
      freed = λ i names at. freed_stays w h (p ∷ []) (i + 1) names legal (let l =
          slice_get_within front.finished i names at in omega arith) (lawful.freed i names at);
      waits = waits_push w front p lawful.waits next;
      names = λ x c. ⊎_elim (λ t. lawful.names x t) (λ t. next.names x t)
          (Contains-append_cases (names_made h) (made_by p) x (subst (λ names. Contains names x) (names_push h p) c));
      reuses = reuses_push w front p lawful.reuses next;
    }

-- ---- one finished cycle more

pub cycles_longer : (front : Seen) (names : List Name)
    → length (front.finished ++ names ∷ []) ≡ length front.finished + 1
cycles_longer front names = length-append front.finished (names ∷ [])

freed_at : (cycles : List (List Name)) (freed names : List Name) (i : ℕ)
    → slice_get (cycles ++ freed ∷ []) i ≡ Some names → ((i ≡ length cycles) × (freed ≡ names))
    ⊎ (slice_get cycles i ≡ Some names)
freed_at [] freed names zero e = inl (refl, same_Some freed names e)
freed_at [] freed names (suc i) e = absurd (none-some names e)
freed_at (c ∷ cycles) freed names zero e = inr e
freed_at (c ∷ cycles) freed names (suc i) e =
    ⊎_elim (λ t. inl (ap suc t.0, t.1)) (λ t. inr t) (freed_at cycles freed names i e)

-- a lawful front finishes its cycle
pub front_finish : (w : Facts) (front : Seen) (names : List Name) → IsLawfulFront w front
    → length front.finished < (state_of w front.history).snaps
    → AreFreed w front.history (length front.finished + 1) names → IsLawfulFront w (with_cycle front names)
front_finish w front names lawful begun freed =
    let longer = cycles_longer front names in
    let unfinished = lawful.unfinished in
    record {
      legal = lawful.legal;
      finished = omega arith;
      unfinished = omega arith;
      freed = λ i found at. ⊎_elim
          (λ t. subst (λ n. AreFreed w front.history (n + 1) found) (sym t.0)
          (subst (AreFreed w front.history (length front.finished + 1)) t.1 freed))
          (λ t. lawful.freed i found t) (freed_at front.finished names found i at);
      waits = λ before after m c cycle e. let n = lawful.waits before after m c cycle e in let l = n.0 in
          (omega arith, n.1);
      names = lawful.names;
      reuses = lawful.reuses;
    }

-- ---- starved

-- an entry that could take no object can take none when the front goes on, and the points before with it
pub entry_stays : (w : Facts) (front : Seen) (p : Point) (before after : List Point) (cycle entry : ℕ)
    → IsLegal w (front.history ++ p ∷ []) → cycle ≤ (state_of w front.history).snaps
    → ((name : Name) → Contains (names_made before) name → Contains (names_made after) name)
    → IsEntryUnavailable w front before cycle entry → IsEntryUnavailable w (with_point front p) after cycle entry
entry_stays w front p before after cycle entry legal begun more taken =
    ⊎_elim
    (λ t. let x : Name = record { entry = entry; generation = t.0 } in
    inl (t.0, more x t.1, (λ dead. t.2 (dead_was w front.history (p ∷ []) cycle x legal begun dead))))
    (λ t. inr (more _ t)) taken

-- a cycle that starved a call has begun
starved_begun : (w : Facts) (front : Seen) (before after : List Point) (m cycle : ℕ) → IsLawfulFront w front
    → front.history ≡ before ++ after → IsAwaited front before m cycle ⊎ AreSpent w before cycle
    → cycle ≤ (state_of w front.history).snaps
starved_begun w front before after m cycle lawful e awaited =
    let stay = snaps_stay w before after in
    let same : (state_of w front.history).snaps ≡ (state_of w (before ++ after)).snaps =
    ap (λ ps. (state_of w ps).snaps) e in
    let finished = lawful.finished in
    ⊎_elim (λ t. let f = t.finished in omega arith) (λ t. let a = t.all in let l = t.last in omega arith) awaited

-- what was starved is starved when the front goes on
starved_push : (w : Facts) (front : Seen) (p : Point) (before after : List Point) (m fields : ℕ) → IsLawfulFront w front
    → IsLegal w (front.history ++ p ∷ []) → front.history ≡ before ++ after
    → IsStarved w front before m fields → IsStarved w (with_point front p) before m fields
starved_push w front p before after m fields lawful legal e starved =
    let begun = starved_begun w front before after m starved.cycle lawful e starved.awaited in record {
      cycle = starved.cycle;
      awaited = ⊎_elim (λ t. inl (record { first = t.first; finished = t.finished })) (λ t. inr t) starved.awaited;
      full = λ tablet l. ⊎_elim
          (λ t. inl (λ entry is. entry_stays w front p before before starved.cycle entry legal begun (λ name made. made)
          (t entry is))) (λ t. inr t) (starved.full tablet l);
    }

-- the point is starved, if it is a `Full`
abbrev pub IsStarvedIfFull : Facts → Seen → Point → Type 0
IsStarvedIfFull w front p = (m root fields : ℕ) → p ≡ Did m (call.New root fields) reply.Full
    → IsStarved w (with_point front p) front.history m fields

pub fulls_push : (w : Facts) (front : Seen) (p : Point) → IsLawfulFront w front → IsLegal w (front.history ++ p ∷ [])
    → FullsAreStarved w front → IsStarvedIfFull w front p → FullsAreStarved w (with_point front p)
fulls_push w front p lawful legal fulls full before after m root fields e =
    ⊎_elim
    (λ t. subst (λ ps. IsStarved w (with_point front p) ps m fields) (sym t.0) (full m root fields t.1))
    (λ t. starved_push w front p before (Did m (call.New root fields) reply.Full ∷
    t.0) m fields lawful legal t.1 (fulls before t.0 m root fields t.1))
    (last_or_before front.history p before (Did m (call.New root fields) reply.Full) after e)

-- a front that answers a script goes on
pub answers_push : (w : Facts) (front : Seen) (p : Point) → Answers w front → IsNext w front p
    → IsStarvedIfFull w front p → FollowsPrograms w.programs (front.history ++ p ∷ []) → Answers w (with_point front p)
answers_push w front p answers next full programs = record {
  lawful = front_push w front p answers.lawful next;
  starved = fulls_push w front p answers.lawful
      (legal_push w front.history p answers.lawful.legal next.lawful) answers.starved full;
  programs = programs;
}

-- and finishes its cycle
pub answers_finish : (w : Facts) (front : Seen) (names : List Name) → Answers w front
    → length front.finished < (state_of w front.history).snaps
    → AreFreed w front.history (length front.finished + 1) names → Answers w (with_cycle front names)
answers_finish w front names answers begun freed = record {
  lawful = front_finish w front names answers.lawful begun freed;
  starved = λ before after m root fields e.
      let s = answers.starved before after m root fields e in
      let longer = cycles_longer front names in record {
        cycle = s.cycle;
        awaited = ⊎_elim (λ t. let f = t.finished in
            inl (record { first = t.first; finished = omega arith })) (λ t. inr t) s.awaited;
        full = s.full;
      };
  programs = answers.programs;
}

-- ---- the opening

no_split : {A : Type 0} (before : List A) (x : A) (after : List A) → [] ≡ before ++ x ∷ after → ⊥
no_split [] x after e = nil_cons x after e
no_split (y ∷ before) x after e = nil_cons y (before ++ x ∷ after) e

-- before the first point nothing is asked but that the board is in range
pub answers_opening : (w : Facts) → IsInRange w board_name → Answers w opening_front
answers_opening w board = record {
  lawful = record {
    legal = tt;
    finished = omega arith;
    unfinished = omega arith;
    freed = λ i names at. absurd (none-some names at);
    waits = λ before after m c cycle e. absurd (no_split before (Did m c (reply.Cycle cycle)) after e);
    names = λ x c. ⊎_elim (λ t. absurd (let l : t.0 < 0 = t.1 in omega arith)) (λ t. subst (IsInRange w) t board)
        (Contains-push_cases [] board_name x c);
    reuses = λ before after m c entry generation e. absurd (no_split before _ after e);
  };
  starved = λ before after m root fields e. absurd (no_split before _ after e);
  programs = λ m program e. (program, refl);
}
