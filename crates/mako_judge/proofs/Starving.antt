-- What tells that there was no room.
use Rattle.std.proofs.Common.{◌≡◌, ◌≢◌, ◌↔◌, ℕ, ◌+◌, ◌-◌, ◌*◌, ◌/◌, ◌<◌, ◌≤◌, ◌==◌, ◌⊎◌, inl, inr, ⊎_elim, Bool, false}
use Rattle.std.proofs.Common.{not, List, [], ◌∷◌, length, Contains, Some, IsTrue, sum_by, sym, ap, subst, refl, ◌∙◌}
use Rattle.std.proofs.Common.{arith}
use Rattle.std.proofs.Math.Nat.{div-zero, div-mul-le_self, lt-div-mul-add, div-eq_of_lt-le}
use Rattle.std.proofs.lemmas.Bool.{eqb-true}
use Rattle.std.proofs.lemmas.Bool.Decides.{eqb_tells}
use Rattle.std.proofs.lemmas.List.Sums.{sum_by-cons}
use Rattle.std.proofs.lemmas.Option.{same_Some}
use Rattle.mako_words.specs.declared.name.Name.{Name}
use Rattle.mako_model.specs.declared.point.Point.{Point}
use Rattle.mako_model.specs.Fronts.{Seen}
use Rattle.mako_model.specs.Legal.{Facts, state_of}
use Rattle.mako_model.specs.Dead.{names_made, IsDead}
use Rattle.mako_model.specs.LawfulFronts.{since}
use Rattle.mako_model.specs.Starved.{first_snap, IsAwaited, AreSpent, IsEntryUnavailable, IsStarved}
use Rattle.mako_judge.specs.Trials.{Blocks, AreTabletsFull}
use Rattle.mako_judge.proofs.Kept.{in_cases, none_in, false_true}
use Rattle.mako_judge.proofs.Replaying.{at_or_below}

-- ---- entries

taken_at : (w : Facts) (front : Seen) (before : List Point) (cycle entry e g : ℕ) → e ≡ entry
    → Contains (names_made before) (record { entry = e; generation = g })
    → (g ≡ w.generations - 1) ⊎ (¬ IsDead w front.history cycle (record { entry = e; generation = g }))
    → IsEntryUnavailable w front before cycle entry
taken_at w front before cycle entry e g same made how =
    subst (λ (n : ℕ). IsEntryUnavailable w front before cycle n) same
    (⊎_elim (λ t. inr (subst (λ (k : ℕ). Contains (names_made before) (record { entry = e; generation = k })) t made))
    (λ t. inl (g, made, t)) how)

-- a name that takes the entry
pub taken_by : (w : Facts) (front : Seen) (before : List Point) (cycle entry : ℕ) (name : Name)
    → Contains (names_made before) name → Blocks w front.history cycle entry name
    → IsEntryUnavailable w front before cycle entry
taken_by w front before cycle entry name made takes =
    taken_at w front before cycle entry name.entry name.generation takes.0 made takes.1

-- or none that does
pub not_taken : (w : Facts) (front : Seen) (before : List Point) (cycle entry : ℕ)
    → ((name : Name) → Contains (names_made before) name → ¬ Blocks w front.history cycle entry name)
    → ¬ IsEntryUnavailable w front before cycle entry
not_taken w front before cycle entry none taken =
    ⊎_elim (λ t. none (record { entry = entry; generation = t.0 }) t.1 (refl, inr t.2))
    (λ t. none (record { entry = entry; generation = w.generations - 1 }) t (refl, inl refl)) taken

-- no name has an entry above all entries
entry_below : (names : List Name) (x : Name) → Contains names x → x.entry ≤ sum_by (λ n. n.entry) names
entry_below [] x c = absurd (none_in x c)
entry_below (y ∷ names) x c =
    let whole = sum_by-cons (λ (n : Name). n.entry) y names in
    ⊎_elim (λ t. let e : y.entry ≡ x.entry = ap (λ n. n.entry) t in omega arith) (λ t. let l = entry_below names x t in
    omega arith) (in_cases y names x c)

never_taken : (w : Facts) (front : Seen) (before : List Point) (cycle : ℕ)
    → ¬ IsEntryUnavailable w front before cycle (sum_by (λ n. n.entry) (names_made before) + 1)
never_taken w front before cycle taken =
    ⊎_elim (λ t. let l =
    entry_below (names_made before) (record {
      entry = sum_by (λ n. n.entry) (names_made before) + 1;
      generation = t.0;
    }) t.1 in omega arith)
    (λ t. let l = entry_below (names_made before) (record {
      entry = sum_by (λ n. n.entry) (names_made before) + 1;
      generation = w.generations - 1;
    }) t in omega arith) taken

-- each entry of the tablet is taken
abbrev pub AreTaken : Facts → Seen → List Point → ℕ → ℕ → Type 0
AreTaken w front before cycle tablet = (entry : ℕ) → entry / w.entries ≡ tablet
    → IsEntryUnavailable w front before cycle entry

-- without entries, this is so of each tablet but 0
pub no_entries : (w : Facts) (front : Seen) (before : List Point) (cycle tablet : ℕ) (R : Type 0) → w.entries ≡ 0
    → R ↔ (tablet ≢ 0) → R ↔ AreTaken w front before cycle tablet
no_entries w front before cycle tablet R none iff =
    let zero_of : (entry : ℕ) → entry / w.entries ≡ 0 = λ (entry : ℕ). ap (λ (n : ℕ). entry / n) none
    ∙ div-zero entry in (
      (λ r entry e. absurd (iff.0 r (sym e ∙ zero_of entry))),
      (λ all. iff.1 (λ e. never_taken w front before cycle
          (all (sum_by (λ n. n.entry) (names_made before) + 1) (zero_of (sum_by (λ n. n.entry) (names_made before) + 1)
          ∙ sym e)))),
    )

pub not_zero_iff : (n : ℕ) → IsTrue (not (n == 0)) ↔ (n ≢ 0)
not_zero_iff n =
    ⊎_elim (λ t. ((λ h. absurd (false_true (sym (ap not t.0) ∙ h))), (λ h. absurd (h t.1))))
    (λ t. ((λ h. t.1), (λ h. ap not t.0))) (eqb_tells n 0)

-- the entries of a tablet
pub tablet_at : (entry entries tablet : ℕ) → tablet * entries ≤ entry → entry < tablet * entries + entries
    → entry / entries ≡ tablet
tablet_at entry entries tablet low high =
    div-eq_of_lt-le entries low (let e : (tablet + 1) * entries ≡ tablet * entries + entries = grind arith in
    omega arith)

pub in_tablet : (entry entries tablet : ℕ) → 0 < entries → entry / entries ≡ tablet → (tablet * entries ≤ entry)
    × (entry < tablet * entries + entries)
in_tablet entry entries tablet some e = (
  subst (λ (t : ℕ). t * entries ≤ entry) e (div-mul-le_self entry entries),
  subst
      (λ (t : ℕ). entry < t * entries + entries) e (lt-div-mul-add {a = entry} {b = entries} some),
)

-- ---- an answer by cases

-- what holds below an end and at it
pub below_more : (P : ℕ → Type 0) (end : ℕ) → ((k : ℕ) → k < end → P k) → P end → (k : ℕ) → k < end + 1 → P k
below_more P end below here k l = ⊎_elim (λ e. subst P (sym e) here) (λ less. below k less) (at_or_below k end l)

-- what holds from a start to an end and at it
pub between_more : (P : ℕ → Type 0) (start end : ℕ) → ((k : ℕ) → start ≤ k → k < end → P k) → P end → (k : ℕ)
    → start ≤ k → k < end + 1 → P k
between_more P start end between here k low l =
    ⊎_elim (λ e. subst P (sym e) here) (λ less. between k low less) (at_or_below k end l)

pub wait_iff : (w : Facts) (front : Seen) (before : List Point) (m fields cycle : ℕ) (R : Type 0)
    → first_snap (since m before) ≡ Some cycle → cycle ≤ length front.finished
    → R ↔ AreTabletsFull w front before cycle fields
    → R ↔ ((k : ℕ) × IsAwaited front before m k × AreTabletsFull w front before k fields)
wait_iff w front before m fields cycle R first finished iff = (
  (λ r. (cycle, record { first = first; finished = finished }, iff.0 r)),
  (λ t. iff.1 (subst (λ (k : ℕ). AreTabletsFull w front before k fields) (same_Some t.0 cycle (sym t.1.first
      ∙ first)) t.2)),
)

pub spent_iff : (w : Facts) (front : Seen) (before : List Point) (fields cycle : ℕ) (R : Type 0)
    → (state_of w before).snaps ≡ w.cycles → cycle ≡ w.cycles - 1 → R ↔ AreTabletsFull w front before cycle fields
    → R ↔ ((k : ℕ) × AreSpent w before k × AreTabletsFull w front before k fields)
spent_iff w front before fields cycle R all last iff = (
  (λ r. (cycle, record { all = all; last = last }, iff.0 r)),
  (λ t. iff.1 (subst (λ (k : ℕ). AreTabletsFull w front before k fields) (t.1.last ∙ sym last) t.2)),
)

pub not_spent_iff : (w : Facts) (front : Seen) (before : List Point) (fields snaps : ℕ)
    → snaps ≡ (state_of w before).snaps → ¬ (snaps ≡ w.cycles)
    → IsTrue (snaps == w.cycles) ↔ ((k : ℕ) × AreSpent w before k × AreTabletsFull w front before k fields)
not_spent_iff w front before fields snaps is other = (
  (λ t. absurd (other (eqb-true snaps w.cycles t))),
  (λ t. absurd (other (is ∙ t.1.all))),
)

-- starved by one way or the other
pub starved_iff : (w : Facts) (front : Seen) (before : List Point) (m fields : ℕ) (a b : Bool)
    → IsTrue a ↔ ((k : ℕ) × IsAwaited front before m k × AreTabletsFull w front before k fields)
    → IsTrue b ↔ ((k : ℕ) × AreSpent w before k × AreTabletsFull w front before k fields)
    → a ≡ false → IsTrue b ↔ IsStarved w front before m fields
starved_iff w front before m fields a b wait end no_wait = (
  (λ t. let e = end.0 t in record { cycle = e.0; awaited = inr e.1; full = e.2 }),
  (λ s. ⊎_elim (λ t. absurd (false_true (sym no_wait ∙ wait.1 (s.cycle, t, s.full))))
      (λ t. end.1 (s.cycle, t, s.full)) s.awaited),
)
