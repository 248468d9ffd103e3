-- How many names are freed.
use Rattle.std.proofs.Common.{◌≡◌, ℕ, zero, suc, ◌+◌, ◌-◌, ◌*◌, ◌≤◌, ⊎_elim, List, [], ◌∷◌, ◌++◌, length, slice_get}
use Rattle.std.proofs.Common.{sum_by, Some, sym, ap, subst, refl, ◌∙◌, arith, length-append}
use Rattle.std.proofs.lemmas.List.Elements.{All-contains, Contains-append_cases, Contains-append_left}
use Rattle.std.proofs.lemmas.List.Elements.{Contains-append_right}
use Rattle.std.proofs.lemmas.List.Sums.{sum_by-cons}
use Rattle.std.specs.List.{Contains}
use Rattle.std.proofs.Common.{Less, Equal, add-mul}
use Rattle.std.specs.List.Sorted.{IsStrictlySortedBy}
use Rattle.std.proofs.lemmas.Cmp.{tied_itself}
use Rattle.std.proofs.lemmas.Map.Keys.{sorted_tail}
use Rattle.std.proofs.lemmas.Map.Views.{All-after_first}
use Rattle.mako_words.specs.declared.name.Name.{Name}
use Rattle.mako_words.specs.Names.{name_cmp}
use Rattle.mako_words.specs.Phases.{cycle_of}
use Rattle.mako_words.proofs.NamesInOrder.{names_total}
use Rattle.mako_shape.specs.declared.numbers.Numbers.{Numbers}
use Rattle.mako_model.specs.declared.point.Point.{Point}
use Rattle.mako_model.specs.Dead.{names_made, IsDead, AreFreed}
use Rattle.mako_model.specs.Legal.{Facts, IsLegal, state_of}
use Rattle.mako_model.proofs.DeadApart.{dead_later}
use Rattle.mako_names.specs.Freeing.{Freeing, FreeingStands, FreeingFits, IsFreedIn, AreFreedOf, entry_by, own_entries}
use Rattle.mako_names.specs.Going.{GatheringStands, GatheringFits}
use Rattle.mako_names.specs.Notices.{names_before}
use Rattle.mako_names.specs.Tables.{phase_of, running_of}
use Rattle.mako_names.proofs.Entries.{dead_made}
use Rattle.mako_clearing.specs.Rooms.{FreedAreFew}
use Rattle.mako_phases.proofs.Members.{no_member, head_or, first_in, later_in}

-- no name stands in the list twice
abbrev Once : List Name → Type 0
Once [] = Unit {0}
Once (x ∷ xs) = (Contains xs x → ⊥) × Once xs

-- ---- names that stand once are no more than those of a list that has them all

record Split (ys : List Name) (x : Name) : Type 0 where
  before : List Name
  after : List Name
  is : ys ≡ before ++ x ∷ after

split_at : (ys : List Name) (x : Name) → Contains ys x → Split ys x
split_at [] x c = absurd (no_member x c)
split_at (y ∷ ys) x c =
    ⊎_elim (λ e. record { before = []; after = ys; is = λ i. e i ∷ ys })
    (λ more. let s = split_at ys x more in record {
      before = y ∷ s.before;
      after = s.after;
      is = λ i. y ∷ s.is i;
    })
    (head_or ys y x c)

few : (xs ys : List Name) → Once xs → ((x : Name) → Contains xs x → Contains ys x) → length xs ≤ length ys
few [] ys once all = omega arith
few (x ∷ xs) ys once all =
    let s = split_at ys x (all x (first_in x xs)) in
    let rest : length xs ≤ length (s.before ++ s.after) = few xs (s.before ++ s.after) once.1 (without s) in
    let long = ap length s.is in
    omega (arith, length-append s.before (x ∷ s.after), length-append s.before s.after)
  where
    without : (s : Split ys x) (z : Name) → Contains xs z → Contains (s.before ++ s.after) z
    without s z c =
        ⊎_elim (λ h. Contains-append_left s.before s.after z h)
        (λ h. ⊎_elim (λ e. absurd (once.0 (subst (Contains xs) (sym e) c)))
        (λ m. Contains-append_right s.before s.after z m) (head_or s.after x z h))
        (Contains-append_cases s.before (x ∷ s.after) z
        (subst (λ l. Contains l z) s.is (all z (later_in x xs z c))))

-- ---- joined lists

once_joined : (xs ys : List Name) → Once xs → Once ys → ((x : Name) → Contains xs x → Contains ys x → ⊥)
    → Once (xs ++ ys)
once_joined [] ys a b apart = b
once_joined (x ∷ xs) ys a b apart = (
  λ c. ⊎_elim (λ h. a.0 h) (λ h. apart x (first_in x xs) h) (Contains-append_cases xs ys x c),
  once_joined xs ys a.1 b (λ z c d. apart z (later_in x xs z c) d),
)

-- lists one after another, and another behind them
abbrev joined : List (List Name) → List Name → List Name
joined [] tail = tail
joined (l ∷ ls) tail = l ++ joined ls tail

joined_long : (ls : List (List Name)) (tail : List Name) → length (joined ls tail) ≡ sum_by length ls + length tail
joined_long [] tail = omega arith
joined_long (l ∷ ls) tail =
    let a = length-append l (joined ls tail) in
    let b = joined_long ls tail in
    let c = sum_by-cons (length {A = Name}) l ls in
    omega arith

-- ---- rising lists

sorted_once : (xs : List Name) → IsStrictlySortedBy name_cmp xs → Once xs
sorted_once [] rising = tt
sorted_once (x ∷ xs) rising = (
  λ c. let less : name_cmp x x ≡ Less =
      All-contains (λ q. name_cmp x q ≡ Less) xs x (All-after_first name_cmp x xs rising) c in
      let same : name_cmp x x ≡ Equal = tied_itself names_total x in
      not_both (sym less ∙ same),
  sorted_once xs (sorted_tail name_cmp x xs rising),
)
  where
    not_both : Less ≡ Equal → ⊥
    not_both e = cc

-- ---- the names freed in cycles, one after another

module _ (w : Facts) (history : List Point) (legal : IsLegal w history) where
  -- the names stand once, were made, and are not dead in the cycle
  record Fresh (cycle : ℕ) (xs : List Name) : Type 0 where
    once : Once xs
    made : (x : Name) → Contains xs x → Contains (names_made history) x
    lives : (x : Name) → Contains xs x → IsDead w history cycle x → ⊥

  -- what a cycle frees stands before what later ones free
  fresh_before : (cycle : ℕ) (names xs : List Name) → cycle + 1 ≤ (state_of w history).snaps
      → AreFreed w history (cycle + 1) names → Fresh (cycle + 1) xs → Fresh cycle (names ++ xs)
  fresh_before cycle names xs high freed later =
      let back : cycle + 1 - 1 ≡ cycle = omega arith in record {
        once = once_joined names xs (sorted_once names freed.rising) later.once
            (λ x c d. later.lives x d ((freed.each x).0 c).0);
        made = λ x c.
            ⊎_elim (λ h. dead_made w history (cycle + 1) x ((freed.each x).0 h).0) (λ h. later.made x h)
            (Contains-append_cases names xs x c);
        lives = λ x c dead.
            ⊎_elim (λ h. ((freed.each x).0 h).1 (subst (λ k. IsDead w history k x) (sym back) dead))
            (λ h. later.lives x h (dead_later w history cycle (cycle + 1) x legal (omega arith) high dead))
            (Contains-append_cases names xs x c);
      }

  chain : (ls : List (List Name)) (cycle : ℕ) (tail : List Name) → cycle + length ls ≤ (state_of w history).snaps
      → ((i : ℕ) (names : List Name) → slice_get ls i ≡ Some names → AreFreed w history (cycle + i + 1) names)
      → Fresh (cycle + length ls) tail → Fresh cycle (joined ls tail)
  chain [] cycle tail high each later =
      subst (λ k. Fresh k tail) (let e : cycle + 0 ≡ cycle = omega arith in e) later
  chain (l ∷ ls) cycle tail high each later =
      let rest : Fresh (cycle + 1) (joined ls tail) =
      chain ls (cycle + 1) tail (omega arith)
      (λ i names at. subst (λ k. AreFreed w history k names)
      (let e : cycle + suc i + 1 ≡ cycle + 1 + i + 1 = omega arith in e) (each (suc i) names at))
      (subst (λ k. Fresh k tail) (let e : cycle + suc (length ls) ≡ cycle + 1 + length ls = omega arith in e) later) in
      fresh_before cycle l (joined ls tail) (omega arith)
      (subst (λ k. AreFreed w history k l) (let e : cycle + 0 + 1 ≡ cycle + 1 = omega arith in e) (each 0 l refl)) rest

  -- ---- the names freed so far in the running cycle

  module _ (n : Numbers) (cycle : ℕ) where
    record Freed (low : ℕ) (xs : List Name) : Type 0 where
      once : Once xs
      freed : (x : Name) → Contains xs x → IsFreedIn w history cycle x
      from : (x : Name) → Contains xs x → low ≤ x.entry

    freed_servers : (k : ℕ) (servers : List Freeing) (first : ℕ)
        → ((s : ℕ) (f : Freeing) → slice_get servers s ≡ Some f
        → AreFreedOf w history cycle (entry_by n (first + s) 0) (entry_by n (first + s) f.through) f.names
        × (f.through ≤ own_entries n))
        → Freed (entry_by n first 0) (names_before k servers)
    freed_servers zero servers first each = record {
      once = tt;
      freed = λ x c. absurd (no_member x c);
      from = λ x c. absurd (no_member x c);
    }
    freed_servers (suc k) [] first each = record {
      once = tt;
      freed = λ x c. absurd (no_member x c);
      from = λ x c. absurd (no_member x c);
    }
    freed_servers (suc k) (f ∷ servers) first each =
        let mine0 = each 0 f refl in
        let here : first + 0 ≡ first = omega arith in
        let mine : AreFreedOf w history cycle (entry_by n first 0) (entry_by n first f.through) f.names =
        subst (λ q. AreFreedOf w history cycle (entry_by n q 0) (entry_by n q f.through) f.names) here mine0.0 in
        let rest : Freed (entry_by n (first + 1) 0) (names_before k servers) =
        freed_servers k servers (first + 1)
        (λ s g at. subst
        (λ q. AreFreedOf w history cycle (entry_by n q 0) (entry_by n q g.through) g.names ×
        (g.through ≤ own_entries n))
        (let e : first + suc s ≡ first + 1 + s = omega arith in e) (each (suc s) g at)) in
        let row : (first + 1) * own_entries n ≡ first * own_entries n + 1 * own_entries n =
        add-mul first 1 (own_entries n) in
        let most = mine0.1 in
        record {
          once = once_joined f.names (names_before k servers) (sorted_once f.names mine.rising) rest.once
              (λ x c d. let a = ((mine.each x).0 c).2 in let b = rest.from x d in omega arith);
          freed = λ x c.
              ⊎_elim (λ h. ((mine.each x).0 h).0) (λ h. rest.freed x h)
              (Contains-append_cases f.names (names_before k servers) x c);
          from = λ x c.
              ⊎_elim (λ h. ((mine.each x).0 h).1) (λ h. let a = rest.from x h in omega arith)
              (Contains-append_cases f.names (names_before k servers) x c);
        }

pub freed_are_few : FreedAreFew
freed_are_few n w s cycle sent j evac at =
    let hold = j.names.hold in
    let lawful = hold.answers.lawful in
    let history : List Point = s.front.history in
    let gathered : GatheringStands j.names.freed s.facets.names.through s.facets.names.sent s.facets.names.collector =
    subst (λ p. GatheringFits p j.names.freed s.facets.names.through s.facets.names.sent s.facets.names.collector) evac
    j.names.gathering in
    let freeing : FreeingStands n s.words w history cycle j.names.freed =
    subst (λ p. FreeingFits p n s.words w history j.names.freed) evac hold.freeing in
    let got : List Name = s.facets.names.collector.names in
    let server : ℕ = s.facets.names.collector.server in
    let now : got ++ sent ≡ names_before (suc server) j.names.freed = gathered.notices.got sent at in
    let cur = freed_servers w history lawful.legal n cycle (suc server) j.names.freed 0
    (λ r f is. let e : 0 + r ≡ r = omega arith in
    subst
    (λ q. AreFreedOf w history cycle (entry_by n q 0) (entry_by n q f.through) f.names × (f.through ≤ own_entries n))
    (sym e) (freeing.names r f is, freeing.within r f is)) in
    let snaps : cycle ≡ (state_of w history).snaps = sym (ap cycle_of evac) ∙ hold.table.cycle in
    let one : running_of (phase_of n s.words) ≡ 1 = ap running_of evac in
    let done = hold.table.finished in
    let last : 0 + length s.front.finished ≡ cycle - 1 = omega arith in
    let tail : Fresh w history lawful.legal (0 + length s.front.finished) (got ++ sent) =
    subst (λ xs. Fresh w history lawful.legal (0 + length s.front.finished) xs) (sym now)
    (subst (λ k. Fresh w history lawful.legal k (names_before (suc server) j.names.freed)) (sym last)
    (record {
      once = cur.once;
      made = λ x c. dead_made w history cycle x (cur.freed x c).dead;
      lives = λ x c. (cur.freed x c).lived;
    })) in
    let all : Fresh w history lawful.legal 0 (joined s.front.finished (got ++ sent)) =
    chain w history lawful.legal s.front.finished 0 (got ++ sent) (omega arith)
    (λ i names is. let e : 0 + i + 1 ≡ i + 1 = omega arith in
    subst (λ k. AreFreed w history k names) (sym e) (lawful.freed i names is)) tail in
    let most = few (joined s.front.finished (got ++ sent)) (names_made history) all.once all.made in
    let long = joined_long s.front.finished (got ++ sent) in
    let sum = length-append got sent in
    omega arith
