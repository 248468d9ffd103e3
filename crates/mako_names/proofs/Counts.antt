-- The names that a history made of each entry.
use Rattle.std.proofs.Common.{◌≡◌, ℕ, zero, suc, ◌+◌, ◌<◌, ◌⊎◌, inl, inr, ⊎_elim, List, [], ◌∷◌, ◌++◌, Contains, sum_by}
use Rattle.std.proofs.Common.{None, sym, ap, subst, refl, ◌∙◌, arith, append-nil, append_assoc}
use Rattle.std.proofs.lemmas.List.Elements.{Contains-append_left, Contains-push, Contains-push_cases}
use Rattle.std.proofs.lemmas.List.Sums.{sum_by-append}
use Rattle.std.proofs.lemmas.Bool.{cases_eq, cases_lt}
use Rattle.std.proofs.lemmas.Bool.Decides.{nat_tests}
use Rattle.std.proofs.lemmas.Option.{none-some}
use Rattle.mako_words.specs.declared.name.Name.{Name}
use Rattle.mako_model.specs.declared.call.Call.{Call}
use Rattle.mako_model.specs.declared.call.Call.TheVariants.{New}
use Rattle.mako_model.specs.declared.reply.Reply.TheVariants.{Made}
use Rattle.mako_model.specs.declared.point.Point.{Point}
use Rattle.mako_model.specs.declared.point.Point.TheVariants.{Did, Snap}
use Rattle.mako_model.specs.Fronts.{Seen}
use Rattle.mako_model.specs.Heaps.{Heap, board_name, fields_of}
use Rattle.mako_model.specs.Lawful.{IsLawful}
use Rattle.mako_model.specs.Legal.{Facts, state_of, IsLegal}
use Rattle.mako_model.specs.Dead.{made_by, names_made}
use Rattle.mako_model.specs.LawfulFronts.{IsLawfulFront}
use Rattle.mako_model.proofs.Histories.{names_push, legal_prefix, legal_at}
use Rattle.mako_model.proofs.Closed.{made_are_objects}
use Rattle.mako_names.specs.Counts.{name_of, one_of, made_of, NamesStand, AreUsedInOrder}

pub made_push : (x : ℕ) (history : List Point) (p : Point)
    → made_of x (history ++ p ∷ []) ≡ made_of x history + sum_by (one_of x) (made_by p)
unfolding made_of
made_push x history p =
    ap (sum_by (one_of x)) (names_push history p) ∙ sum_by-append (one_of x) (names_made history) (made_by p)

pub one_same : (x : ℕ) (name : Name) → name.entry ≡ x → sum_by (one_of x) (name ∷ []) ≡ 1
one_same x name e = grind (arith, nat_tests)

pub one_other : (x : ℕ) (name : Name) → (name.entry ≡ x → ⊥) → sum_by (one_of x) (name ∷ []) ≡ 0
one_other x name n = grind (arith, nat_tests)

-- a point makes one name or none
pub made_cases : (p : Point) → (made_by p ≡ [])
    ⊎ ((m : ℕ) × (c : Call) × (name : Name) × (p ≡ Did m c (Made name)) × (made_by p ≡ name ∷ []))
made_cases (Did m c (Made name)) = inr (m, c, name, refl, refl)
made_cases (Did m c r) = inl refl
made_cases (Snap cycle) = inl refl

pub made_none : (x : ℕ) (history : List Point) (p : Point) → made_by p ≡ []
    → made_of x (history ++ p ∷ []) ≡ made_of x history
made_none x history p none =
    let e = made_push x history p in let f : sum_by (one_of x) (made_by p) ≡ 0 =
    ap (sum_by (one_of x)) none in omega arith

pub names_none : (history : List Point) (p : Point) → made_by p ≡ []
    → names_made (history ++ p ∷ []) ≡ names_made history
names_none history p none =
    names_push history p ∙ ap (λ names. names_made history ++ names) none ∙ append-nil (names_made history)

stand_none : (history : List Point) (p : Point) → made_by p ≡ [] → NamesStand history → NamesStand (history ++ p ∷ [])
stand_none history p none stand x g =
    let names = names_none history p none in
    let count = made_none x history p none in (
      (λ c. let l = (stand x g).0 (subst (λ ns. Contains ns (name_of x g)) names c) in omega arith),
      (λ l. subst (λ ns. Contains ns (name_of x g)) (sym names) ((stand x g).1 (omega arith))),
    )

-- a generation below the new number is one of those before, or the last
below_new : (history : List Point) (p : Point) (x g y h : ℕ) → made_by p ≡ name_of y h ∷ [] → h ≡ made_of y history
    → g < made_of x (history ++ p ∷ []) → (g < made_of x history) ⊎ ((y ≡ x) × (h ≡ g))
below_new history p x g y h one next l =
    let pushed = made_push x history p in
    let same : sum_by (one_of x) (made_by p) ≡ sum_by (one_of x) (name_of y h ∷ []) = ap (sum_by (one_of x)) one in
    ⊎_elim
    (λ e. ⊎_elim (λ k. inl k) (λ k.
    let o = one_same x (name_of y h) e in
    let c : made_of y history ≡ made_of x history = ap (λ z. made_of z history) e in
    inr (e, (let d : h ≡ g = omega arith in d))) (cases_lt g (made_of x history)))
    (λ n. let o = one_other x (name_of y h) n in inl (let d : g < made_of x history = omega arith in d)) (cases_eq y x)

name_same : (x g y h : ℕ) → y ≡ x → h ≡ g → name_of y h ≡ name_of x g
name_same x g y h e f = λ i. name_of (e i) (f i)

-- where the next name of an entry is made, the names of each entry are still in order
pub stand_made : (history : List Point) (p : Point) (y h : ℕ) → made_by p ≡ name_of y h ∷ [] → h ≡ made_of y history
    → NamesStand history → NamesStand (history ++ p ∷ [])
stand_made history p y h one next stand x g =
    let names : names_made (history ++ p ∷ []) ≡ names_made history ++ name_of y h ∷ [] =
    names_push history p ∙ ap (λ ns. names_made history ++ ns) one in
    let pushed = made_push x history p in
    let same : sum_by (one_of x) (made_by p) ≡ sum_by (one_of x) (name_of y h ∷ []) = ap (sum_by (one_of x)) one in (
      (λ c. ⊎_elim (λ t. let l = (stand x g).0 t in (let d : g < made_of x (history ++ p ∷ []) = omega arith in d))
          (λ t. let e : y ≡ x = ap (λ (n : Name). n.entry) t in let f : h ≡ g = ap (λ (n : Name). n.generation) t in
          let o = one_same x (name_of y h) e in
          let k : made_of y history ≡ made_of x history =
          ap (λ z. made_of z history) e in (let d : g < made_of x (history ++ p ∷ []) = omega arith in d))
          (Contains-push_cases (names_made history) (name_of y h) (name_of x g)
          (subst (λ ns. Contains ns (name_of x g)) names c))),
      (λ l. subst (λ ns. Contains ns (name_of x g)) (sym names)
          (⊎_elim (λ t. Contains-append_left (names_made history) (name_of y h ∷ []) (name_of x g) ((stand x g).1 t))
          (λ t. subst (Contains (names_made history ++ name_of y h ∷ [])) (name_same x g y h t.0 t.1)
          (Contains-push (names_made history) (name_of y h)))
          (below_new history p x g y h one next l))),
    )

lawful_made : (h : Heap) (m : ℕ) (c : Call) (name : Name) → IsLawful h (Did m c (Made name)) → fields_of h name ≡ None
lawful_made h m (New root fields) name l = l.1
lawful_made h m c name l = absurd l

-- the name of a lawful point was not made before
pub made_fresh : (w : Facts) (history : List Point) (m : ℕ) (c : Call) (name : Name) → IsLegal w history
    → IsLawful (state_of w history) (Did m c (Made name)) → Contains (names_made history) name → ⊥
made_fresh w history m c name legal lawful made =
    let has = (made_are_objects w history legal name).0 made in
    none-some has.0 (sym (lawful_made (state_of w history) m c name lawful) ∙ has.1)

-- it is the next name of its entry
pub next_of : (history after : List Point) (m : ℕ) (c : Call) (x g : ℕ) → NamesStand history
    → AreUsedInOrder (history ++ Did m c (Made (name_of x g)) ∷ after)
    → (Contains (names_made history) (name_of x g) → ⊥) → g ≡ made_of x history
next_of history after m c x zero stand used fresh =
    ⊎_elim (λ l. absurd (fresh ((stand x 0).1 l))) (λ l. omega arith) (cases_lt 0 (made_of x history))
next_of history after m c x (suc g) stand used fresh =
    let s : suc g ≡ g + 1 = omega arith in
    let before =
    (stand x g).0 (used history after m c x g (ap (λ k. history ++ Did m c (Made (name_of x k)) ∷ after) s)) in
    ⊎_elim (λ l. absurd (fresh ((stand x (suc g)).1 l))) (λ l. omega arith) (cases_lt (suc g) (made_of x history))

stand_next : (w : Facts) (history after : List Point) (p : Point) → IsLegal w (history ++ p ∷ after)
    → AreUsedInOrder (history ++ p ∷ after) → NamesStand history → NamesStand (history ++ p ∷ [])
stand_next w history after p legal used stand =
    ⊎_elim (λ none. stand_none history p none stand)
    (λ t. let m = t.0 in let c = t.1 in let y = t.2 in
    let legal2 : IsLegal w (history ++ Did m c (Made y) ∷ after) =
    subst (λ q. IsLegal w (history ++ q ∷ after)) t.3 legal in
    let used2 : AreUsedInOrder (history ++ Did m c (Made y) ∷ after) =
    subst (λ q. AreUsedInOrder (history ++ q ∷ after)) t.3 used in
    stand_made history p y.entry y.generation t.4
    (next_of history after m c y.entry y.generation stand used2
    (made_fresh w history m c y (legal_prefix w history (Did m c (Made y) ∷ after) legal2)
    (legal_at w history (Did m c (Made y)) after legal2))) stand)
    (made_cases p)

stand_along : (w : Facts) (front rest : List Point) → IsLegal w (front ++ rest) → AreUsedInOrder (front ++ rest)
    → NamesStand front → NamesStand (front ++ rest)
stand_along w front [] legal used stand = subst NamesStand (sym (append-nil front)) stand
stand_along w front (p ∷ rest) legal used stand =
    let e : (front ++ p ∷ []) ++ rest ≡ front ++ p ∷ rest = append_assoc front (p ∷ []) rest in
    subst NamesStand e
    (stand_along w (front ++ p ∷ []) rest (subst (IsLegal w) (sym e) legal) (subst AreUsedInOrder (sym e) used)
    (stand_next w front rest p legal used stand))

pub made_opening : (x : ℕ) → made_of x [] ≡ one_of x board_name
unfolding made_of
made_opening x = omega arith

stand_opening : NamesStand []
stand_opening x g =
    let e = made_opening x in (
      (λ c. ⊎_elim (λ t. absurd (let l : t.0 < 0 = t.1 in omega arith))
          (λ t. let f : 0 ≡ x = ap (λ (n : Name). n.entry) t in let k : 0 ≡ g = ap (λ (n : Name). n.generation) t in
          let o : one_of x board_name ≡ 1 = grind (arith, nat_tests) in (let d : g < made_of x [] = omega arith in d))
          (Contains-push_cases [] board_name (name_of x g) c)),
      (λ l. let o : (x ≡ 0)
          × (g ≡ 0) =
          ⊎_elim (λ f. let k : one_of x board_name ≡ 1 =
          grind (arith, nat_tests) in (f, (let d : g ≡ 0 = omega arith in d)))
          (λ f. let k : one_of x board_name ≡ 0 = grind (arith, nat_tests) in absurd (omega arith)) (cases_eq x 0) in
          subst (Contains (board_name ∷ [])) (name_same x g 0 0 (sym o.0) (sym o.1)) (Contains-push [] board_name)),
    )

pub names_stand : (w : Facts) (history : List Point) → IsLegal w history → AreUsedInOrder history → NamesStand history
names_stand w history legal used = stand_along w [] history legal used stand_opening

-- in a lawful front names are made in order
pub used_in_order : (w : Facts) (front : Seen) → IsLawfulFront w front → AreUsedInOrder front.history
used_in_order w front lawful before after m c x g e = (lawful.reuses before after m c x g e).0

-- the names of each entry are in order
pub names_in_order : (w : Facts) (front : Seen) → IsLawfulFront w front → NamesStand front.history
names_in_order w front lawful = names_stand w front.history lawful.legal (used_in_order w front lawful)
