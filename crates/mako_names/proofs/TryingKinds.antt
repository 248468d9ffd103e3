-- What a mutator knows of its last attempt, at each kind of step, and that its `Full` is starved.
use Rattle.std.proofs.Common.{◌≡◌, ℕ, ◌+◌, ◌-◌, ◌*◌, ◌/◌, ◌%◌, ◌<◌, ◌≤◌, ◌⊎◌, inl, inr, ⊎_elim, true, false, List, []}
use Rattle.std.proofs.Common.{◌∷◌, ◌++◌, length, Contains, sym, ap, subst, refl, ◌∙◌, arith, length-append}
use Rattle.std.proofs.lemmas.Bool.{cases_eq, cases_lt}
use Rattle.std.proofs.lemmas.List.Sums.{sum_by-append}
use Rattle.std.proofs.Math.Nat.{mod-add-div', mod-lt, add-mod_right}
use Rattle.std.proofs.lemmas.Nat.{mod-mul-add}
use Rattle.mako_words.specs.declared.name.Name.{Name}
use Rattle.mako_model.specs.declared.call.Call.TheVariants as call
use Rattle.mako_model.specs.declared.reply.Reply.TheVariants as reply
use Rattle.mako_model.specs.declared.point.Point.{Point}
use Rattle.mako_model.specs.declared.point.Point.TheVariants.{Did, Snap}
use Rattle.mako_model.specs.Fronts.{Seen, with_point, with_cycle}
use Rattle.mako_model.specs.Heaps.{Heap}
use Rattle.mako_model.specs.Legal.{Facts, state_of, IsLegal}
use Rattle.mako_model.specs.Dead.{IsDead}
use Rattle.mako_model.specs.LawfulFronts.{since, IsLawfulFront}
use Rattle.mako_model.specs.Starved.{first_snap, IsAwaited, AreSpent, IsEntryUnavailable, IsTabletFull, IsStarved}
use Rattle.mako_model.specs.Starved.{words_by, words_made, snaps_in}
use Rattle.mako_model.proofs.CycleCounts.{cycles_stay}
use Rattle.mako_model.proofs.DeadApart.{dead_later, snaps_replied}
use Rattle.mako_model.proofs.Growth.{entry_stays, IsStarvedIfFull}
use Rattle.mako_model.proofs.Histories.{state_push, legal_at, made_stays, kept}
use Rattle.mako_names.specs.Counts.{name_of}
use Rattle.mako_names.specs.Tables.{EntryStands}
use Rattle.mako_names.specs.Trying as trying
use Rattle.mako_names.specs.Trying.{Trying, tablet_at, IsLastSoFar, TryingStands, AllTrying}
use Rattle.mako_names.proofs.Counts.{names_in_order}
use Rattle.mako_names.proofs.Entries.{held_is_made}
use Rattle.mako_names.proofs.Since.{IsOthers, since_others, snaps_in_append, first_append, seen_since, first_since}

-- ---- one entry, and one tablet

-- what was dead in no finished cycle is dead in none before
not_dead_before : (w : Facts) (front : Seen) (k : ℕ) (name : Name) → IsLawfulFront w front
    → k ≤ length front.finished → ¬ IsDead w front.history (length front.finished) name
    → ¬ IsDead w front.history k name
not_dead_before w front k name lawful le kept dead =
    kept (dead_later w front.history k (length front.finished) name lawful.legal le lawful.finished dead)

-- an entry that was found taken is taken in the sense of `Full`
pub taken_seen : (w : Facts) (front : Seen) (k settled x g : ℕ) → IsLawfulFront w front → k ≤ length front.finished
    → EntryStands w front settled x true g → IsEntryUnavailable w front front.history k x
taken_seen w front k settled x g lawful le stands =
    inl (
      g,
      held_is_made w front settled x g (names_in_order w front lawful) stands,
      not_dead_before w front k
          (name_of x g) lawful le (stands.held refl),
    )

-- and so is one that was found free with no generation left
pub retired_seen : (w : Facts) (front : Seen) (k settled x g : ℕ) → IsLawfulFront w front → w.generations ≤ g
    → 0 < w.generations → EntryStands w front settled x false g → IsEntryUnavailable w front front.history k x
retired_seen w front k settled x g lawful le some stands =
    let count = stands.count in
    inr ((names_in_order w front lawful x (w.generations - 1)).1 (omega arith))

words_grow : (w : Facts) (tablet : ℕ) (history : List Point) (p : Point)
    → words_made w tablet history ≤ words_made w tablet (history ++ p ∷ [])
words_grow w tablet history p = let e = sum_by-append (words_by w tablet) history (p ∷ []) in omega arith

tablet_stays : (w : Facts) (front : Seen) (p : Point) (k fields tablet : ℕ) → IsLegal w (front.history ++ p ∷ [])
    → k ≤ (state_of w front.history).snaps
    → IsTabletFull w front front.history k fields tablet
    → IsTabletFull w (with_point front p) (front.history ++ p ∷ []) k fields tablet
tablet_stays w front p k fields tablet legal begun full =
    ⊎_elim (λ t. inl
    (λ entry is. entry_stays w front p front.history (front.history ++ p ∷ []) k entry legal begun
    (made_stays front.history (p ∷ [])) (t entry is)))
    (λ t. let l =
    words_grow w tablet front.history p in inr
    (let d : w.words < words_made w tablet (front.history ++ p ∷ []) + fields + 1 = omega arith in d)) full

tablet_at_full : (w : Facts) (front : Seen) (p : Point) (k fields tablet : ℕ) → IsLegal w (front.history ++ p ∷ [])
    → k ≤ (state_of w front.history).snaps
    → IsTabletFull w front front.history k fields tablet
    → IsTabletFull w (with_point front p) front.history k fields tablet
tablet_at_full w front p k fields tablet legal begun full =
    ⊎_elim (λ t. inl
    (λ entry is. entry_stays w front p front.history front.history k entry legal begun (λ name c. c)
    (t entry is))) (λ t. inr t) full

-- ---- the cycle that starves an attempt

-- it is finished, or spent, and so its snapshot was taken; and no name of a taken entry is dead in it
pub starving_finished : (w : Facts) (front : Seen) (m k : ℕ) → IsLawfulFront w front
    → IsAwaited front front.history m k ⊎ AreSpent w front.history k → k ≤ length front.finished
starving_finished w front m k lawful awaited =
    let unfinished = lawful.unfinished in
    ⊎_elim (λ t. t.finished)
    (λ t. let a = t.all in let l = t.last in (let d : k ≤ length front.finished = omega arith in d)) awaited

awaited_stays : (w : Facts) (front : Seen) (p : Point) (m k : ℕ) → IsLawfulFront w front
    → IsLegal w (front.history ++ p ∷ []) → IsOthers m p
    → IsAwaited front front.history m k ⊎ AreSpent w front.history k
    → IsAwaited (with_point front p) (front.history ++ p ∷ []) m k ⊎ AreSpent w (front.history ++ p ∷ []) k
awaited_stays w front p m k lawful legal others awaited =
    ⊎_elim
    (λ t. inl
    (record {
      first = ap first_snap (since_others m front.history p others)
          ∙ first_append (since m front.history) (p ∷ []) k t.first;
      finished = t.finished;
    }))
    (λ t. inr (record { all = spent_stays p legal t.all; last = t.last })) awaited
  where
    spent_stays : (q : Point) → IsLegal w (front.history ++ q ∷ []) → (state_of w front.history).snaps ≡ w.cycles
        → (state_of w (front.history ++ q ∷ [])).snaps ≡ w.cycles
    spent_stays (Did n c r) legal2 all = ap (λ (s : Heap). s.snaps) (state_push w front.history (Did n c r))
        ∙ snaps_replied (state_of w front.history) n c r ∙ all
    spent_stays (Snap cycle) legal2 all =
        let l = legal_at w front.history (Snap cycle) [] legal2 in
        let number = l.0 in let left = l.1 in
        let same = cycles_stay w front.history lawful.legal in
        absurd (omega arith)

-- ---- kinds of step

-- another's point, or a snapshot
pub trying_point : (w : Facts) (front : Seen) (p : Point) (m : ℕ) (facet : Trying) → IsLawfulFront w front
    → IsLegal w (front.history ++ p ∷ []) → IsOthers m p → TryingStands w front m facet
    → TryingStands w (with_point front p) m facet
trying_point w front p m trying.Nothing lawful legal others stands = tt
trying_point w front p m (trying.Asked k) lawful legal others stands = asked p legal others
  where
    asked : (q : Point) → IsLegal w (front.history ++ q ∷ []) → IsOthers m q
        → (state_of w (front.history ++ q ∷ [])).snaps < k + snaps_in (since m (front.history ++ q ∷ []))
    asked (Did n c r) legal2 others2 =
        let e : (state_of w (front.history ++ Did n c r ∷ [])).snaps ≡ (state_of w front.history).snaps =
        ap (λ (s : Heap). s.snaps) (state_push w front.history (Did n c r))
        ∙ snaps_replied (state_of w front.history) n c r in
        let f : snaps_in (since m (front.history ++ Did n c r ∷ [])) ≡ snaps_in (since m front.history) + 0 =
        ap snaps_in (since_others m front.history (Did n c r) others2)
        ∙ snaps_in_append (since m front.history) (Did n c r ∷ []) in
        omega arith
    asked (Snap cycle) legal2 others2 =
        let e : (state_of w (front.history ++ Snap cycle ∷ [])).snaps ≡ (state_of w front.history).snaps + 1 =
        ap (λ (s : Heap). s.snaps) (state_push w front.history (Snap cycle)) in
        let f : snaps_in (since m (front.history ++ Snap cycle ∷ [])) ≡ snaps_in (since m front.history) + (0 + 1) =
        ap snaps_in (since_others m front.history (Snap cycle) others2)
        ∙ snaps_in_append (since m front.history) (Snap cycle ∷ []) in
        omega arith
trying_point w front p m (trying.Last fields tablets entries) lawful legal others stands =
    let finished = starving_finished w front m stands.cycle lawful stands.awaited in
    let begun : stands.cycle ≤ (state_of w front.history).snaps = let l = lawful.finished in omega arith in record {
      cycle = stands.cycle;
      awaited = awaited_stays w front p m stands.cycle lawful legal others stands.awaited;
      gone = λ passed l. tablet_stays w front p stands.cycle fields (tablet_at w m passed) legal begun
          (stands.gone passed l);
      seen = λ passed l. entry_stays w front p front.history (front.history ++ p ∷ []) stands.cycle _ legal begun
          (made_stays front.history (p ∷ [])) (stands.seen passed l);
    }

-- a cycle finishes
pub trying_finish : (w : Facts) (front : Seen) (names : List Name) (m : ℕ) (facet : Trying)
    → TryingStands w front m facet → TryingStands w (with_cycle front names) m facet
trying_finish w front names m trying.Nothing stands = tt
trying_finish w front names m (trying.Asked k) stands = stands
trying_finish w front names m (trying.Last fields tablets entries) stands =
    let longer : length (front.finished ++ names ∷ []) ≡ length front.finished + 1 =
    length-append front.finished (names ∷ []) in record {
      cycle = stands.cycle;
      awaited =
          ⊎_elim (λ t. let f = t.finished in inl (record { first = t.first; finished = omega arith })) (λ t. inr t)
          stands.awaited;
      gone = stands.gone;
      seen = stands.seen;
    }

-- the next cycle is asked for
pub trying_asks : (w : Facts) (front : Seen) (m c : ℕ) → c ≡ (state_of w front.history).snaps
    → TryingStands w front m (trying.Asked (c + 1))
trying_asks w front m c same =
    let d : (state_of w front.history).snaps < c + 1 + snaps_in (since m front.history) = omega arith in d

-- the last attempt begins with the cycle that was asked for finished
pub trying_awaited : (w : Facts) (front : Seen) (m k fields : ℕ) → IsLawfulFront w front → k ≤ length front.finished
    → TryingStands w front m (trying.Asked k) → TryingStands w front m (trying.Last fields 0 0)
trying_awaited w front m k fields lawful finished asked =
    let l = lawful.finished in
    let low : (state_of w front.history).snaps < k + snaps_in (since m front.history) = asked in
    let t = first_since w front.history m lawful.legal (omega arith) in
    let number = t.2 in
    record {
      cycle = t.0;
      awaited = inl (record { first = t.1; finished = omega arith });
      gone = λ passed none. absurd (omega arith);
      seen = λ passed none. absurd (omega arith);
    }

-- or with no cycle left
pub trying_spent : (w : Facts) (front : Seen) (m fields : ℕ) → (state_of w front.history).snaps ≡ w.cycles
    → TryingStands w front m (trying.Last fields 0 0)
trying_spent w front m fields all = record {
  cycle = w.cycles - 1;
  awaited = inr (record { all = all; last = refl });
  gone = λ passed none. absurd (omega arith);
  seen = λ passed none. absurd (omega arith);
}

-- an attempt that made a note knows of no tablet
pub trying_notes : (w : Facts) (front : Seen) (m fields tablets entries : ℕ)
    → TryingStands w front m (trying.Last fields tablets entries) → TryingStands w front m (trying.Last fields 0 0)
trying_notes w front m fields tablets entries stands = record {
  cycle = stands.cycle;
  awaited = stands.awaited;
  gone = λ passed none. absurd (omega arith);
  seen = λ passed none. absurd (omega arith);
}

-- one entry more is gone over
pub trying_entry : (w : Facts) (front : Seen) (m fields tablets entries : ℕ)
    → ((k : ℕ) → k ≤ length front.finished
    → IsEntryUnavailable w front front.history k (tablet_at w m tablets * w.entries + entries))
    → IsLawfulFront w front → TryingStands w front m (trying.Last fields tablets entries)
    → TryingStands w front m (trying.Last fields tablets (entries + 1))
trying_entry w front m fields tablets entries taken lawful stands = record {
  cycle = stands.cycle;
  awaited = stands.awaited;
  gone = stands.gone;
  seen = λ passed l. ⊎_elim
      (λ e. subst (λ i. IsEntryUnavailable w front front.history stands.cycle
      (tablet_at w m tablets * w.entries + i)) (sym e)
      (taken stands.cycle (starving_finished w front m stands.cycle lawful stands.awaited)))
      (λ other. stands.seen passed (let d : passed < entries = omega (arith, other) in d)) (cases_eq passed entries);
}

-- one tablet more is gone over, which is full in the cycle
trying_tablet : (w : Facts) (front : Seen) (m fields tablets entries : ℕ)
    → (stands : IsLastSoFar w front m fields tablets entries)
    → IsTabletFull w front front.history stands.cycle fields (tablet_at w m tablets)
    → IsLastSoFar w front m fields (tablets + 1) 0
trying_tablet w front m fields tablets entries stands full = record {
  cycle = stands.cycle;
  awaited = stands.awaited;
  gone = λ passed l. ⊎_elim
      (λ e. subst (λ j. IsTabletFull w front front.history stands.cycle fields (tablet_at w m j)) (sym e) full)
      (λ other. stands.gone passed (let d : passed < tablets = omega (arith, other) in d)) (cases_eq passed tablets);
  seen = λ passed none. absurd (omega arith);
}

-- since all its entries were gone over
pub trying_entries : (w : Facts) (front : Seen) (m fields tablets : ℕ) → 0 < w.entries
    → TryingStands w front m (trying.Last fields tablets w.entries)
    → TryingStands w front m (trying.Last fields (tablets + 1) 0)
trying_entries w front m fields tablets some stands =
    trying_tablet w front m fields tablets w.entries stands
    (inl (λ entry is.
    let parts = mod-add-div' entry w.entries in
    let low : entry % w.entries < w.entries = mod-lt entry some in
    let same : tablet_at w m tablets * w.entries + entry % w.entries ≡ entry =
    ap (λ t. t * w.entries + entry % w.entries) (sym is)
    ∙ (let d : entry / w.entries * w.entries + entry % w.entries ≡ entry = omega arith in d) in
    subst (IsEntryUnavailable w front front.history stands.cycle) same (stands.seen (entry % w.entries) low)))

-- or since the words left are too few: the top is at most the words of all objects made
pub trying_words : (w : Facts) (front : Seen) (m fields tablets top : ℕ)
    → top ≤ words_made w (tablet_at w m tablets) front.history → w.words < top + fields + 1
    → TryingStands w front m (trying.Last fields tablets 0)
    → TryingStands w front m (trying.Last fields (tablets + 1) 0)
trying_words w front m fields tablets top used few stands =
    trying_tablet w front m fields tablets 0 stands
    (inr (let d : w.words < words_made w (tablet_at w m tablets) front.history + fields + 1 = omega arith in d))

-- each tablet is gone over once
covers : (w : Facts) (m tablet : ℕ) → tablet < w.tablets → (passed : ℕ) × (passed < w.tablets)
    × (tablet_at w m passed ≡ tablet)
covers w m tablet l =
    let n : ℕ = w.tablets in
    let parts : m % n + m / n * n ≡ m = mod-add-div' m n in
    let low : m % n < n = mod-lt m (let d : 0 < n = omega arith in d) in
    ⊎_elim
    (λ under. (
      tablet + n - m % n,
      (let d : tablet + n - m % n < n = omega arith in d),
      ap (λ k. k % n) (let d : m + (tablet + n - m % n) ≡ m / n * n + tablet + n = omega arith in d)
          ∙ add-mod_right (m / n * n + tablet) n ∙ mod-mul-add (m / n) n tablet l,
    ))
    (λ over. (
      tablet - m % n,
      (let d : tablet - m % n < n = omega arith in d),
      ap (λ k. k % n) (let d : m + (tablet - m % n) ≡ m / n * n + tablet = omega arith in d)
          ∙ mod-mul-add (m / n) n tablet l,
    ))
    (cases_lt tablet (m % n))

-- the `Full` of an attempt that went over all tablets is starved
pub trying_full : (w : Facts) (front : Seen) (m root fields : ℕ) → IsLawfulFront w front
    → IsLegal w (front.history ++ Did m (call.New root fields) reply.Full ∷ [])
    → TryingStands w front m (trying.Last fields w.tablets 0)
    → IsStarvedIfFull w front (Did m (call.New root fields) reply.Full)
trying_full w front m root fields lawful legal stands n q f e =
    let mutator : m ≡ n = cc in
    let number : fields ≡ f = cc in
    let p : Point = Did m (call.New root fields) reply.Full in
    let finished = starving_finished w front m stands.cycle lawful stands.awaited in
    let begun : stands.cycle ≤ (state_of w front.history).snaps = let l = lawful.finished in omega arith in
    let starved : IsStarved w (with_point front p) front.history m fields = record {
      cycle = stands.cycle;
      awaited = ⊎_elim (λ t. inl (record { first = t.first; finished = t.finished })) (λ t. inr t) stands.awaited;
      full = λ tablet l.
          let c = covers w m tablet l in
          subst (IsTabletFull w (with_point front p) front.history stands.cycle fields) c.2
          (tablet_at_full w front p stands.cycle fields (tablet_at w m c.0) legal begun (stands.gone c.0 c.1));
    } in
    subst (λ k. IsStarved w (with_point front p) front.history n k) number
    (subst (λ k. IsStarved w (with_point front p) front.history k fields) mutator starved)

-- a `Collect` is answered with the cycle that it asked for
pub trying_answered : (w : Facts) (front : Seen) (m k : ℕ) → IsLawfulFront w front → k ≤ length front.finished
    → TryingStands w front m (trying.Asked k) → Contains (since m front.history) (Snap k)
trying_answered w front m k lawful finished asked =
    let l = lawful.finished in seen_since w front.history m k lawful.legal asked (omega arith)
