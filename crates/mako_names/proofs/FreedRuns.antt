-- Names that a cycle frees, entry by entry and server by server.
use Rattle.std.proofs.Common.{◌≡◌, ℕ, suc, ◌+◌, ◌*◌, ◌<◌, ◌≤◌, ⊎_elim, List, [], ◌∷◌, ◌++◌, length, flat_map, slice_get}
use Rattle.std.proofs.Common.{Contains, Some, Less, sym, ap, subst, refl, ◌∙◌, arith, add-one}
use Rattle.std.proofs.Math.Nat.{suc-mul}
use Rattle.std.proofs.lemmas.Nat.{mul-le}
use Rattle.std.specs.List.{AllByRecursion}
use Rattle.std.specs.List.Sorted.{IsStrictlySortedBy}
use Rattle.std.specs.Ordering.{nat_cmp, ordering_then}
use Rattle.std.proofs.lemmas.Bool.{cases_lt}
use Rattle.std.proofs.lemmas.Bool.Decides.{nat_tests}
use Rattle.std.proofs.lemmas.List.Elements.{Contains-append_left, Contains-append_right, Contains-append_cases}
use Rattle.std.proofs.lemmas.List.Elements.{Contains-push, Contains-push_cases}
use Rattle.mako_words.specs.declared.name.Name.{Name}
use Rattle.mako_words.specs.Names.{name_cmp}
use Rattle.mako_model.specs.declared.point.Point.{Point}
use Rattle.mako_model.specs.Legal.{Facts}
use Rattle.mako_names.specs.Counts.{name_of}
use Rattle.mako_names.specs.Freeing.{Freeing, IsFreedIn, AreFreedOf}
use Rattle.mako_names.proofs.Good.{no_name}

all_append : {A : Type 0} (P : A → Type 0) (xs ys : List A) → AllByRecursion P xs → ((y : A) → Contains ys y → P y)
    → AllByRecursion P (xs ++ ys)
all_append P [] [] all each = tt
all_append P [] (y ∷ ys) all each =
    (each y (0, omega arith, refl), all_append P [] ys tt (λ z c. each z (Contains-append_right (y ∷ []) ys z c)))
all_append P (x ∷ xs) ys all each = (all.0, all_append P xs ys all.1 each)

times_one_more : (a b : ℕ) → (a + 1) * b ≡ a * b + b
times_one_more a b = ap (λ k. k * b) (add-one a) ∙ suc-mul a b

-- a list in order goes on with one whose names come after all of its names
pub sorted_append : (xs ys : List Name) → IsStrictlySortedBy name_cmp xs → IsStrictlySortedBy name_cmp ys
    → ((x y : Name) → Contains xs x → Contains ys y → name_cmp x y ≡ Less) → IsStrictlySortedBy name_cmp (xs ++ ys)
unfolding IsStrictlySortedBy
sorted_append [] ys a b less = b
sorted_append (x ∷ xs) ys a b less = (
  all_append (λ y. name_cmp x y ≡ Less) xs ys a.0 (λ y c. less x y (0, omega arith, refl) c),
  sorted_append xs ys a.1 b (λ z y c d. less z y (Contains-append_right (x ∷ []) xs z c) d),
)

sorted_one : (x : Name) → IsStrictlySortedBy name_cmp (x ∷ [])
unfolding IsStrictlySortedBy
sorted_one x = (tt, tt)

sorted_none : IsStrictlySortedBy name_cmp []
unfolding IsStrictlySortedBy
sorted_none = tt

pub less_by_entry : (x y : Name) → x.entry < y.entry → name_cmp x y ≡ Less
less_by_entry x y l =
    let e : nat_cmp x.entry y.entry ≡ Less =
    grind (arith, nat_tests) in ap (λ o. ordering_then o (nat_cmp x.generation y.generation)) e

module _ (w : Facts) (history : List Point) (cycle : ℕ) where
  -- none of no entries
  pub freed_none : (low : ℕ) → AreFreedOf w history cycle low low []
  freed_none low = record {
    rising = sorted_none;
    each = λ name. ((λ c. absurd (no_name name c)), (λ t. let a = t.1 in let b = t.2 in absurd (omega arith)));
  }

  -- those of some entries, and those of the entries behind them
  pub freed_append : (low mid high : ℕ) (xs ys : List Name) → low ≤ mid → mid ≤ high
      → AreFreedOf w history cycle low mid xs → AreFreedOf w history cycle mid high ys
      → AreFreedOf w history cycle low high (xs ++ ys)
  freed_append low mid high xs ys first second a b = record {
    rising =
        sorted_append xs ys a.rising b.rising
        (λ x y c d. let l = ((a.each x).0 c).2 in let m = ((b.each y).0 d).1 in less_by_entry x y (omega arith));
    each = λ name. (
      (λ c. ⊎_elim
          (λ t. let k = (a.each name).0 t in let l = k.2 in (k.0, k.1, (let d : name.entry < high = omega arith in d)))
          (λ t. let k =
          (b.each name).0 t in let l = k.1 in (k.0, (let d : low ≤ name.entry = omega arith in d), k.2))
          (Contains-append_cases xs ys name c)),
      (λ t. ⊎_elim (λ l. Contains-append_left xs ys name ((a.each name).1 (t.0, t.1, l)))
          (λ l. Contains-append_right xs ys name ((b.each name).1 (t.0, l, t.2))) (cases_lt name.entry mid)),
    );
  }

  -- one entry of which no name is freed
  pub freed_passes : (low x : ℕ) (names : List Name) → ((g : ℕ) → IsFreedIn w history cycle (name_of x g) → ⊥)
      → AreFreedOf w history cycle low x names → AreFreedOf w history cycle low (x + 1) names
  freed_passes low x names none freed = record {
    rising = freed.rising;
    each = λ name. (
      (λ c. let k =
          (freed.each name).0 c in let l = k.2 in (k.0, k.1, (let d : name.entry < x + 1 = omega arith in d))),
      (λ t. ⊎_elim (λ l. (freed.each name).1 (t.0, t.1, l))
          (λ l. let high = t.2 in let same : name.entry ≡ x = omega arith in
          absurd (none name.generation
          (subst (λ k. IsFreedIn w history cycle (name_of k name.generation)) same t.0)))
          (cases_lt name.entry x)),
    );
  }

  freed_one : (x g : ℕ) → IsFreedIn w history cycle (name_of x g)
      → ((h : ℕ) → IsFreedIn w history cycle (name_of x h) → g ≡ h)
      → AreFreedOf w history cycle x (x + 1) (name_of x g ∷ [])
  freed_one x g is only = record {
    rising = sorted_one (name_of x g);
    each = λ name. (
      (λ c. ⊎_elim (λ t. absurd (no_name name t))
          (λ t. let e : x ≡ name.entry = ap (λ (k : Name). k.entry) t in (
            subst (IsFreedIn w history cycle) t is,
            (let d : x ≤ name.entry = omega arith in d),
            (let d : name.entry < x + 1 = omega arith in d),
          ))
          (Contains-push_cases [] (name_of x g) name c)),
      (λ t. let low = t.1 in let high = t.2 in let same : x ≡ name.entry = omega arith in
          let last : g ≡ name.generation =
          only name.generation
          (subst (λ k. IsFreedIn w history cycle (name_of k name.generation)) (sym same) t.0) in
          let is_it : name_of x g ≡ name = λ i. name_of (same i) (last i) in
          subst (Contains (name_of x g ∷ [])) is_it (Contains-push [] (name_of x g))),
    );
  }

  -- one entry of which one name is freed
  pub freed_push : (low x g : ℕ) (names : List Name) → low ≤ x → IsFreedIn w history cycle (name_of x g)
      → ((h : ℕ) → IsFreedIn w history cycle (name_of x h) → g ≡ h) → AreFreedOf w history cycle low x names
      → AreFreedOf w history cycle low (x + 1) (names ++ name_of x g ∷ [])
  freed_push low x g names le is only freed =
      freed_append low x (x + 1) names (name_of x g ∷ []) le (omega arith) freed (freed_one x g is only)

  -- all servers' lists in order
  pub freed_joined : (own first : ℕ) (servers : List Freeing)
      → ((s : ℕ) (f : Freeing) → slice_get servers s ≡ Some f
      → AreFreedOf w history cycle ((first + s) * own) ((first + s) * own + own) f.names)
      → AreFreedOf w history cycle (first * own) ((first + length servers) * own)
      (flat_map (λ (f : Freeing). f.names) servers)
  freed_joined own first [] each =
      subst (λ k. AreFreedOf w history cycle (first * own) (k * own) [])
      (let e : first ≡ first + 0 = omega arith in e) (freed_none (first * own))
  freed_joined own first (f ∷ servers) each =
      let next : (first + 1) * own ≡ first * own + own = times_one_more first own in
      let start : (first + 0) * own ≡ first * own = ap (λ k. k * own) (let e : first + 0 ≡ first = omega arith in e) in
      let here : AreFreedOf w history cycle (first * own) ((first + 1) * own) f.names =
      subst (λ k. AreFreedOf w history cycle (first * own) k f.names)
      (let e : (first + 0) * own + own ≡ (first + 1) * own = omega arith in e)
      (subst (λ k. AreFreedOf w history cycle k ((first + 0) * own + own) f.names) start (each 0 f refl)) in
      let rest : AreFreedOf w history cycle ((first + 1) * own) ((first + 1 + length servers) * own)
      (flat_map (λ (g : Freeing). g.names) servers) =
      freed_joined own (first + 1) servers
      (λ s g at. subst (λ k. AreFreedOf w history cycle (k * own) (k * own + own) g.names)
      (let e : first + suc s ≡ first + 1 + s = omega arith in e) (each (suc s) g at)) in
      let whole : first + 1 + length servers ≡ first + suc (length servers) = omega arith in
      let grown : (first + 1) * own ≤ (first + 1 + length servers) * own =
      mul-le (first + 1) own (first + 1 + length servers) own (omega arith) (omega arith) in
      subst (λ k. AreFreedOf w history cycle (first * own) (k * own)
      (flat_map (λ (g : Freeing). g.names) (f ∷ servers))) whole
      (freed_append (first * own) ((first + 1) * own) ((first + 1 + length servers) * own) f.names
      (flat_map (λ (g : Freeing). g.names) servers) (omega arith) grown here rest)
