-- A name that is not dead is that of a taken entry; those that stand in a heap are not dead.
use Rattle.std.proofs.Common.{◌≡◌, ℕ, ◌+◌, ◌-◌, ◌*◌, ◌<◌, ◌≤◌, ◌⊎◌, inl, inr, ⊎_elim, Bool, true, false, List, [], ◌∷◌}
use Rattle.std.proofs.Common.{◌++◌, length, flat_map, Contains, Some, ap, subst, sym, refl, ◌∙◌, arith}
use Rattle.std.proofs.lemmas.Bool.{cases_lt}
use Rattle.std.proofs.lemmas.List.Elements.{Contains-append_cases, Contains-push_cases}
use Rattle.mako_words.specs.declared.name.Name.{Name}
use Rattle.mako_words.specs.declared.value.Value.TheVariants.{Ref}
use Rattle.mako_words.specs.declared.phase_word.PhaseWord.{PhaseWord}
use Rattle.mako_words.specs.declared.phase_word.PhaseWord.TheVariants.{Idle, Trace, Evac, Stop}
use Rattle.mako_words.specs.Phases.{cycle_of}
use Rattle.mako_shape.specs.declared.numbers.Numbers.{Numbers}
use Rattle.mako_shape.specs.Limits.{all_entries}
use Rattle.mako_model.specs.declared.call.Call.{Call}
use Rattle.mako_model.specs.declared.reply.Reply.TheVariants.{Made}
use Rattle.mako_model.specs.declared.point.Point.{Point}
use Rattle.mako_model.specs.declared.point.Point.TheVariants.{Did}
use Rattle.mako_model.specs.Fronts.{Seen}
use Rattle.mako_model.specs.Heaps.{board_name, root_of}
use Rattle.mako_model.specs.Reachable.{StandsInField}
use Rattle.mako_model.specs.Legal.{Facts, state_of, IsLegal}
use Rattle.mako_model.specs.Dead.{made_by, names_made, IsDead}
use Rattle.mako_model.specs.LawfulFronts.{IsLawfulFront}
use Rattle.mako_model.proofs.Closed.{made_are_objects, closed_heap}
use Rattle.mako_model.proofs.DeadApart.{dead_later, dead_stand_apart}
use Rattle.mako_model.proofs.Growth.{snaps_stay}
use Rattle.mako_names.specs.Counts.{name_of, made_of}
use Rattle.mako_names.specs.Tables.{IsWorkloadOf, one_if, EntryTells, EntryStands, TableStands, IsTaken, entry_of}
use Rattle.mako_names.specs.Tables.{phase_of, settled_of}
use Rattle.mako_names.specs.Uses.{IsGood}
use Rattle.mako_names.proofs.Counts.{made_cases, names_in_order}

pub no_name : (y : Name) → Contains [] y → ⊥
no_name y c = let l : c.0 < 0 = c.1 in omega arith

-- where a name was made
abbrev pub IsMadeIn : List Point → Name → Type 0
IsMadeIn points y = (before : List Point) × (after : List Point) × (m : ℕ) × (c : Call)
    × (points ≡ before ++ Did m c (Made y) ∷ after)

made_first : (p : Point) (points : List Point) (y : Name) → Contains (made_by p) y → IsMadeIn (p ∷ points) y
made_first p points y c =
    ⊎_elim (λ none. absurd (no_name y (subst (λ ns. Contains ns y) none c)))
    (λ t. let e : t.2 ≡ y =
    ⊎_elim (λ k. absurd (no_name y k)) (λ k. k) (Contains-push_cases [] t.2 y (subst (λ ns. Contains ns y) t.4 c)) in
    ([], points, t.0, t.1, ap (λ q. q ∷ points) (t.3 ∙ ap (λ z. Did t.0 t.1 (Made z)) e))) (made_cases p)

made_in : (points : List Point) (y : Name) → Contains (flat_map made_by points) y → IsMadeIn points y
made_in [] y c = absurd (no_name y c)
made_in (p ∷ points) y c =
    ⊎_elim (λ k. made_first p points y k)
    (λ k. let t = made_in points y k in (p ∷ t.0, t.1, t.2, t.3, ap (λ ps. p ∷ ps) t.4))
    (Contains-append_cases (made_by p) (flat_map made_by points) y c)

-- a made name is the board's, or there is the point that made it
pub made_at : (history : List Point) (y : Name) → Contains (names_made history) y → (board_name ≡ y)
    ⊎ IsMadeIn history y
made_at history y c =
    ⊎_elim (λ k. ⊎_elim (λ j. absurd (no_name y j)) (λ j. inl j) (Contains-push_cases [] board_name y k))
    (λ k. inr (made_in history y k))
    (Contains-append_cases (board_name ∷ []) (flat_map made_by history) y c)

-- a name whose entry was used again is dead
pub used_is_dead : (w : Facts) (front : Seen) (x g : ℕ) → IsLawfulFront w front → g + 1 < made_of x front.history
    → IsDead w front.history (state_of w front.history).snaps (name_of x g)
used_is_dead w front x g lawful l =
    let h = front.history in
    ⊎_elim (λ e. let f : 0 ≡ g + 1 = ap (λ (n : Name). n.generation) e in absurd (omega arith))
    (λ t. let before = t.0 in let after = t.1 in
    let dead = (lawful.reuses before after t.2 t.3 x g t.4).1 in
    let stay = snaps_stay w before (Did t.2 t.3 (Made (name_of x (g + 1))) ∷ after) in
    let same : (state_of w h).snaps ≡ (state_of w
    (before ++ Did t.2 t.3 (Made (name_of x (g + 1))) ∷ after)).snaps = ap (λ ps. (state_of w ps).snaps) t.4 in
    dead_later w h (state_of w before).snaps (state_of w h).snaps (name_of x g) lawful.legal (omega arith)
    (omega arith) dead)
    (made_at h (name_of x (g + 1)) ((names_in_order w front lawful x (g + 1)).1 l))

-- a name that is not dead is its entry's
pub good_entry : (w : Facts) (front : Seen) (settled x : ℕ) (taken : Bool) (k g : ℕ) → IsLawfulFront w front
    → settled ≤ (state_of w front.history).snaps → EntryStands w front settled x taken k
    → IsGood w front.history (name_of x g) → (taken ≡ true) × (k ≡ g)
good_entry w front settled x true k g lawful low stands good =
    let below = (names_in_order w front lawful x g).0 good.made in
    let count = stands.count in
    ⊎_elim (λ l. absurd (good.kept (used_is_dead w front x g lawful (omega arith))))
    (λ l. (refl, (let e : k ≡ g = omega arith in e))) (cases_lt g k)
good_entry w front settled x false k g lawful low stands good =
    let below = (names_in_order w front lawful x g).0 good.made in
    let count = stands.count in
    ⊎_elim (λ l. absurd (good.kept (used_is_dead w front x g lawful (omega arith))))
    (λ l. let dead = stands.free refl g (omega arith) in
    absurd (good.kept
    (dead_later w front.history settled (state_of w front.history).snaps (name_of x g) lawful.legal low
    (omega arith) dead))) (cases_lt (g + 1) k)

pub settled_below : (p : PhaseWord) → settled_of p ≤ cycle_of p
settled_below (Idle c) = omega arith
settled_below (Trace c) = omega arith
settled_below (Evac c) = omega arith
settled_below (Stop c) = omega arith

pub settled_begun : (n : Numbers) (ws : List ℕ) (w : Facts) (front : Seen) → TableStands n ws w front
    → settled_of (phase_of n ws) ≤ (state_of w front.history).snaps
settled_begun n ws w front table = let low = settled_below (phase_of n ws) in let same = table.cycle in omega arith

pub in_table : (n : Numbers) (w : Facts) (x : ℕ) → IsWorkloadOf n w → x < w.tablets * w.entries → x < all_entries n
in_table n w x of_it l = subst (λ k. x < k) ((λ i. of_it.tablets i * of_it.entries i)) l

-- so the entry of a good name is taken with its generation
pub good_is_taken : (n : Numbers) (ws : List ℕ) (w : Facts) (front : Seen) (x g : ℕ) → IsWorkloadOf n w
    → IsLawfulFront w front → TableStands n ws w front → IsGood w front.history (name_of x g) → IsTaken n ws x g
good_is_taken n ws w front x g of_it lawful table good =
    let within = in_table n w x of_it (lawful.names (name_of x g) good.made).entry in
    let is =
    good_entry w front (settled_of (phase_of n ws)) x (entry_of n ws x).taken (entry_of n ws x).generation g
    lawful (settled_begun n ws w front table) (table.entries x within) good in
    record { within = within; taken = is.0; generation = is.1 }

one_taken : (b : Bool) → b ≡ true → one_if b ≡ 1
one_taken b e = ap one_if e

one_free : (b : Bool) → b ≡ false → one_if b ≡ 0
one_free b e = ap one_if e

-- what the table says of each entry
pub entry_tells : (n : Numbers) (ws : List ℕ) (w : Facts) (front : Seen) (x : ℕ) → IsLawfulFront w front
    → TableStands n ws w front → x < all_entries n → EntryTells n ws w front x
entry_tells n ws w front x lawful table within =
    let stands = table.entries x within in
    let count = stands.count in
    let b : Bool = (entry_of n ws x).taken in
    let low = settled_begun n ws w front table in
    record {
      names = names_in_order w front lawful x;
      taken = λ is. let one = one_taken b is in omega arith;
      free = λ is. let none = one_free b is in omega arith;
      free_dead = λ is g last. let none = one_free b is in
          dead_later w front.history (settled_of (phase_of n ws)) (state_of w front.history).snaps (name_of x g)
          lawful.legal low (omega arith) (stands.free is g (omega arith));
      free_traced = λ c g trace is last. let none = one_free b is in
          let cycle : c ≡ (state_of w front.history).snaps = sym (ap cycle_of trace) ∙ table.cycle in
          let settled : settled_of (phase_of n ws) ≡ c - 1 = ap settled_of trace in
          subst (λ k. IsDead w front.history k (name_of x g))
          (let d : settled_of (phase_of n ws) ≡ (state_of w front.history).snaps - 1 = omega arith in d)
          (stands.free is g (omega arith));
      held = λ k le is dead. stands.held is
          (dead_later w front.history k (length front.finished) (name_of x (entry_of n ws x).generation)
          lawful.legal le lawful.finished dead);
    }

-- ---- what is good

-- a name in a root is good
pub root_is_good : (w : Facts) (history : List Point) (m q : ℕ) (name : Name) → IsLegal w history
    → root_of (state_of w history) m q ≡ Some (Ref name) → IsGood w history name
root_is_good w history m q name legal e = record {
  made = (made_are_objects w history legal name).1 ((closed_heap w history legal).roots m q name e);
  kept = (dead_stand_apart w history (state_of w history).snaps legal).roots m q name e;
}

-- and so is one in a field of a good object
pub field_is_good : (w : Facts) (history : List Point) (object name : Name) → IsLegal w history
    → StandsInField (state_of w history) object name → IsGood w history object → IsGood w history name
field_is_good w history object name legal stands good = record {
  made = (made_are_objects w history legal name).1 ((closed_heap w history legal).fields object name stands);
  kept = (dead_stand_apart w history (state_of w history).snaps legal).fields object name stands good.kept;
}
