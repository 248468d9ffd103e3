-- A value for each of a list, read one behind the other.
use Rattle.std.proofs.Common.{◌≡◌, ℕ, ◌+◌, ◌<◌, List, [], ◌∷◌, ◌++◌, length, get_or, take, drop, refl, sym, ap, subst}
use Rattle.std.proofs.Common.{◌∙◌}
use Rattle.std.proofs.lemmas.List.{drop_more, take-append-drop, take_more}
use Rattle.mako_reader.specs.declared.refusal.Refusal.{Refusal}
use Rattle.mako_reader.specs.declared.refusal.Refusal.TheVariants.{Bad, Memory}
use Rattle.mako_reader.specs.Finds.{ReadsEach, Refused}

module _ {K V S : Type 0} (Reads : K → S → V × S → Type 0) where
  push : (front : List K) (k : K) (s t u : S) (vs : List V) (v : V) → ReadsEach Reads front s (vs, t) → Reads k t (v, u)
      → ReadsEach Reads (front ++ k ∷ []) s (vs ++ v ∷ [], u)
  push [] k s t u vs v none one = (
    v,
    u,
    [],
    ap (λ (us : List V). us ++ v ∷ []) none.0,
    subst (λ (x : S). Reads k x (v, u)) (sym none.1) one,
    (refl, refl),
  )
  push (x ∷ front) k s t u vs v read one = (
    read.0,
    read.1,
    read.2 ++ v ∷
        [],
    ap (λ (us : List V). us ++ v ∷ []) read.3,
    read.4,
    push front k read.1 t u read.2 v read.5 one,
  )

  -- one more was read
  pub each_more : (ks : List K) (i : ℕ) (k : K) (s t u : S) (vs : List V) (v : V) → i < length ks → k ≡ get_or ks i k
      → ReadsEach Reads (take i ks) s (vs, t) → Reads k t (v, u)
      → ReadsEach Reads (take (i + 1) ks) s (vs ++ v ∷ [], u)
  each_more ks i k s t u vs v within at read one =
      subst (λ (front : List K). ReadsEach Reads front s (vs ++ v ∷ [], u)) (ap (λ (x : K). take i ks ++ x ∷ []) at
      ∙ sym (take_more ks i k within)) (push (take i ks) k s t u vs v read one)

  module _ (same : (k : K) (s : S) (x y : V × S) → Reads k s x → Reads k s y → x ≡ y) where
    stopped : (front : List K) (k : K) (after : List K) (s t : S) (vs : List V) → ReadsEach Reads front s (vs, t)
        → ((x : V × S) → ¬ Reads k t x)
        → (all : List V × S) → ¬ ReadsEach Reads (front ++ k ∷ after) s all
    stopped [] k after s t vs read none all each =
        none (each.0, each.1) (subst (λ (x : S). Reads k x (each.0, each.1)) read.1 each.4)
    stopped (x ∷ front) k after s t vs read none all each =
        let one = same x s (read.0, read.1) (each.0, each.1) read.4 each.4 in
        let next : each.1 ≡ read.1 = sym (ap (λ (p : V × S). p.1) one) in
        stopped front k after read.1 t read.2 read.5 none (each.2, all.1)
        (subst (λ (p : S). ReadsEach Reads (front ++ k ∷ after) p (each.2, all.1)) next each.5)

    -- where one is not read, not all are
    each_stops : (ks : List K) (i : ℕ) (k : K) (s t : S) (vs : List V) → i < length ks → k ≡ get_or ks i k
        → ReadsEach Reads (take i ks) s (vs, t) → ((x : V × S) → ¬ Reads k t x)
        → (all : List V × S) → ¬ ReadsEach Reads ks s all
    each_stops ks i k s t vs within at read none all each =
        let split : ks ≡ take i ks ++ k ∷ drop (i + 1) ks = sym (take-append-drop i ks)
        ∙ ap (λ (xs : List K). take i ks ++ xs) (drop_more ks i k within
        ∙ ap (λ (x : K). x ∷ drop (i + 1) ks) (sym at)) in
        stopped (take i ks) k (drop (i + 1) ks) s t vs read none all
        (subst (λ (xs : List K). ReadsEach Reads xs s all) split each)

    pub each_refused : (e : Refusal) (ks : List K) (i : ℕ) (k : K) (s t : S) (vs : List V) → i < length ks
        → k ≡ get_or ks i k → ReadsEach Reads (take i ks) s (vs, t) → Refused (Reads k t) e
        → Refused (ReadsEach Reads ks s) e
    each_refused Bad ks i k s t vs within at read none = each_stops ks i k s t vs within at read none
    each_refused Memory ks i k s t vs within at read none = tt

    pub same_each : (ks : List K) (s : S) (x y : List V × S) → ReadsEach Reads ks s x → ReadsEach Reads ks s y → x ≡ y
    same_each [] s x y one two = (λ i. ((one.0 ∙ sym two.0) i, (sym one.1 ∙ two.1) i))
    same_each (k ∷ ks) s x y one two =
        let here = same k s (one.0, one.1) (two.0, two.1) one.4 two.4 in
        let next : two.1 ≡ one.1 = sym (ap (λ (p : V × S). p.1) here) in
        let rest = same_each ks one.1 (one.2, x.1) (two.2, y.1) one.5
        (subst (λ (p : S). ReadsEach Reads ks p (two.2, y.1)) next two.5) in
        let values : one.0 ∷ one.2 ≡ two.0 ∷ two.2 = (λ i. (here i).0 ∷ (rest i).0) in
        (λ i. ((one.3 ∙ values ∙ sym two.3) i, (rest i).1))
