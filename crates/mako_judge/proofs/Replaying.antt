-- The names dead in each cycle, point by point.
use Rattle.std.proofs.Common.{◌≡◌, ◌↔◌, ℕ, zero, suc, ◌+◌, ◌-◌, ◌<◌, ◌⊎◌, inl, inr, ⊎_elim, List, [], ◌∷◌, ◌++◌, length}
use Rattle.std.proofs.Common.{Contains, take, get_or, slice_get, Some, sym, ap, subst, refl, ◌∙◌, arith, length-append}
use Rattle.std.proofs.lemmas.Bool.{cases_eq}
use Rattle.std.proofs.lemmas.List.{take_more}
use Rattle.std.proofs.lemmas.Option.{same_Some, none-some, get_or_from_slice_get}
use Rattle.mako_words.specs.declared.name.Name.{Name}
use Rattle.mako_model.specs.declared.call.Call.{Call}
use Rattle.mako_model.specs.declared.reply.Reply.{Reply}
use Rattle.mako_model.specs.declared.point.Point.{Point}
use Rattle.mako_model.specs.declared.point.Point.TheVariants.{Did, Snap}
use Rattle.mako_model.specs.Fronts.{Seen}
use Rattle.mako_model.specs.Heaps.{Heap}
use Rattle.mako_model.specs.Lawful.{IsLawful, heap_after}
use Rattle.mako_model.specs.Legal.{Facts, state_of}
use Rattle.mako_model.specs.Reachable.{IsReachable}
use Rattle.mako_model.specs.Dead.{names_made}
use Rattle.mako_model.proofs.DeadApart.{snaps_replied}
use Rattle.mako_model.proofs.Growth.{dead_stays, last_or_before}
use Rattle.mako_model.proofs.Histories.{state_push, legal_push}
use Rattle.mako_judge.proofs.Calling.{blank}
use Rattle.mako_judge.specs.declared.verdict.Clause.{Clause}
use Rattle.mako_judge.specs.Clauses.{HoldsAt, HoldsBelow}
use Rattle.mako_judge.specs.Deaths.{IsListed, AreDeaths}

module _ {A : Type 0} where
  pub get_before : (xs ys : List A) (i : ℕ) (x : A) → slice_get xs i ≡ Some x → slice_get (xs ++ ys) i ≡ Some x
  get_before [] ys i x e = absurd (none-some x e)
  get_before (y ∷ xs) ys zero x e = e
  get_before (y ∷ xs) ys (suc i) x e = get_before xs ys i x e

  pub get_last : (xs : List A) (x : A) → slice_get (xs ++ x ∷ []) (length xs) ≡ Some x
  get_last [] x = refl
  get_last (y ∷ xs) x = get_last xs x

  pub get_cases : (xs : List A) (last x : A) (i : ℕ) → slice_get (xs ++ last ∷ []) i ≡ Some x
      → ((i ≡ length xs) × (last ≡ x)) ⊎ (slice_get xs i ≡ Some x)
  get_cases [] last x zero e = inl (refl, same_Some last x e)
  get_cases [] last x (suc i) e = absurd (none-some x e)
  get_cases (y ∷ xs) last x zero e = inr e
  get_cases (y ∷ xs) last x (suc i) e = ⊎_elim (λ t. inl (ap suc t.0, t.1)) (λ t. inr t) (get_cases xs last x i e)

pub at_or_below : (i n : ℕ) → i < n + 1 → (i ≡ n) ⊎ (i < n)
at_or_below i n l = elim (cases_eq i n) [ inl e ↦ inl e | inr e ↦ inr (omega arith) ]

same_cycle : (a b : ℕ) → Snap a ≡ Snap b → a ≡ b
same_cycle a b e = cc

no_snap : (m : ℕ) (c : Call) (r : Reply) (cycle : ℕ) → Did m c r ≡ Snap cycle → ⊥
no_snap m c r cycle e = cc

none_listed : (cycle : ℕ) (x : Name) → IsListed [] cycle x → ⊥
none_listed cycle x l = none-some l.1.0 l.1.1

no_point : (before : List Point) (p : Point) (after : List Point) → [] ≡ before ++ p ∷ after → ⊥
no_point [] p after e = cc
no_point (q ∷ before) p after e = cc

-- at the start there are none
pub no_deaths : (w : Facts) (lists : List (List Name)) → lists ≡ [] → AreDeaths w [] lists
no_deaths w lists none = subst (AreDeaths w []) (sym none) (record {
  legal = tt;
  count = refl;
  each = λ cycle x. (
    (λ l. absurd (none_listed cycle x l)),
    (λ dead. absurd (no_point dead.before (Snap cycle) dead.after dead.split)),
  );
})

-- a call changes no dead name
pub deaths_did : (w : Facts) (history : List Point) (m : ℕ) (c : Call) (r : Reply) (lists : List (List Name))
    → AreDeaths w history lists → IsLawful (state_of w history) (Did m c r)
    → AreDeaths w (history ++ Did m c r ∷ []) lists
deaths_did w history m c r lists deaths lawful = record {
  legal = legal_push w history (Did m c r) deaths.legal lawful;
  count = deaths.count
      ∙ sym (ap (λ h. h.snaps) (state_push w history (Did m c r)) ∙ snaps_replied (state_of w history) m c r);
  each = λ cycle x. (
    (λ l. dead_stays w history (Did m c r ∷ []) cycle x ((deaths.each cycle x).0 l)),
    (λ dead. ⊎_elim (λ t. absurd (no_snap m c r cycle t.1))
        (λ t. (deaths.each cycle x).1 (record {
          before = dead.before;
          after = t.0;
          numbered = dead.numbered;
          split = t.1;
          made = dead.made;
          unreached = dead.unreached;
        }))
        (last_or_before history (Did m c r) dead.before (Snap cycle) dead.after dead.split)),
  );
}

listed_last : (lists : List (List Name)) (names : List Name) (cycle : ℕ) (x : Name) → cycle ≡ length lists + 1
    → Contains names x → IsListed (lists ++ names ∷ []) cycle x
listed_last lists names cycle x e c =
    let last : cycle - 1 ≡ length lists = omega arith in
    (omega arith, (names, ap (slice_get (lists ++ names ∷ [])) last ∙ get_last lists names, c))

listed_before : (lists : List (List Name)) (names : List Name) (cycle : ℕ) (x : Name) → IsListed lists cycle x
    → IsListed (lists ++ names ∷ []) cycle x
listed_before lists names cycle x l = (l.0, (l.1.0, get_before lists (names ∷ []) (cycle - 1) l.1.0 l.1.1, l.1.2))

-- a snapshot adds its dead names
pub deaths_snap : (w : Facts) (history : List Point) (k : ℕ) (lists : List (List Name)) (names : List Name)
    → AreDeaths w history lists → IsLawful (state_of w history) (Snap k)
    → ((x : Name) → Contains names x ↔ (Contains (names_made history) x × ¬ IsReachable (state_of w history) x))
    → AreDeaths w (history ++ Snap k ∷ []) (lists ++ names ∷ [])
deaths_snap w history k lists names deaths lawful are =
    let count = deaths.count in
    let numbered : k ≡ length lists + 1 = (let l = lawful.0 in omega arith) in record {
      legal = legal_push w history (Snap k) deaths.legal lawful;
      count = length-append lists (names ∷ []) ∙ ap (λ (n : ℕ). n + 1) count
          ∙ sym (ap (λ h. h.snaps) (state_push w history (Snap k)));
      each = λ cycle x. (
        (λ l. ⊎_elim
            (λ t.
            let first = l.0 in
            let here = t.0 in
            let same : k ≡ cycle = omega arith in
            let dead = (are x).0 (subst (λ ns. Contains ns x) (sym t.1) l.1.2) in
            record {
              before = history;
              after = [];
              numbered = first;
              split = ap (λ (n : ℕ). history ++ Snap n ∷ []) same;
              made = dead.0;
              unreached = dead.1;
            })
            (λ t. dead_stays w history (Snap k ∷ []) cycle x ((deaths.each cycle x).0 (l.0, (l.1.0, t, l.1.2))))
            (get_cases lists names l.1.0 (cycle - 1) l.1.1)),
        (λ dead. ⊎_elim
            (λ t.
            let same = same_cycle k cycle t.1 in
            listed_last lists names cycle x (omega arith)
            ((are x).1 (subst (λ ps. Contains (names_made ps) x
            × ¬ IsReachable (state_of w ps) x) t.0 (dead.made, dead.unreached))))
            (λ t. listed_before lists names cycle x ((deaths.each cycle x).1
            (record {
              before = dead.before;
              after = t.0;
              numbered = dead.numbered;
              split = t.1;
              made = dead.made;
              unreached = dead.unreached;
            })))
            (last_or_before history (Snap k) dead.before (Snap cycle) dead.after dead.split)),
      );
    }

-- ---- at a heap and a point that are those

pub noted_did : (w : Facts) (history : List Point) (h : Heap) (p : Point) (m : ℕ) (c : Call) (r : Reply)
    (lists : List (List Name)) → p ≡ Did m c r → h ≡ state_of w history
    → AreDeaths w history lists → IsLawful h p → AreDeaths w (history ++ p ∷ []) lists
noted_did w history h p m c r lists is e deaths lawful =
    subst (λ q. AreDeaths w (history ++ q ∷ []) lists) (sym is)
    (deaths_did w history m c r lists deaths (subst (λ g. IsLawful g (Did m c r)) e (subst (IsLawful h) is lawful)))

pub noted_snap : (w : Facts) (history : List Point) (h : Heap) (p : Point) (k : ℕ) (lists after : List (List Name))
    (names : List Name) → p ≡ Snap k → h ≡ state_of w history → after ≡ lists ++ names ∷ []
    → ((x : Name) → Contains names x ↔ (Contains (names_made history) x × ¬ IsReachable h x))
    → AreDeaths w history lists → IsLawful h p → AreDeaths w (history ++ p ∷ []) after
noted_snap w history h p k lists after names is e more are deaths lawful =
    subst (λ q. AreDeaths w (history ++ q ∷ []) after) (sym is) (subst (AreDeaths w (history ++ Snap k ∷ [])) (sym more)
    (deaths_snap w history k lists names deaths (subst (λ g. IsLawful g (Snap k)) e (subst (IsLawful h) is lawful))
    (subst (λ g. (x : Name) → Contains names x ↔ (Contains (names_made history) x × ¬ IsReachable g x)) e are)))

-- ---- up to a place

-- the heap after one point more
pub heap_more : (w : Facts) (points : List Point) (i : ℕ) (h after : Heap) → i < length points
    → h ≡ state_of w (take i points) → after ≡ heap_after h (get_or points i blank)
    → after ≡ state_of w (take (i + 1) points)
heap_more w points i h after l e changed =
    changed ∙ ap (λ g. heap_after g (get_or points i blank)) e
    ∙ sym (ap (state_of w) (take_more points i blank l) ∙ state_push w (take i points) (get_or points i blank))

-- the points below a place meet a clause, and the one there does
pub holds_more : (w : Facts) (front : Seen) (clause : Clause) (i : ℕ)
    → ((q : Point) → slice_get front.history i ≡ Some q → HoldsAt w front clause (take i front.history) q)
    → HoldsBelow w front clause i → HoldsBelow w front clause (i + 1)
holds_more w front clause i here below place point l at =
    ⊎_elim (λ e. subst (λ (k : ℕ). HoldsAt w front clause (take k front.history) point) (sym e)
    (here point (ap (slice_get front.history) (sym e) ∙ at)))
    (λ less. below place point less at) (at_or_below place i l)

-- what holds of the point that is read there
pub at_read : (P : Point → Type 0) (points : List Point) (i : ℕ) → P (get_or points i blank) → (q : Point)
    → slice_get points i ≡ Some q → P q
at_read P points i holds q e = subst P (get_or_from_slice_get points i q blank e) holds
