-- Stacks: each entry stands once, and there are no more than the server has.
use Rattle.std.proofs.Common.{◌≡◌, ℕ, zero, suc, ◌+◌, ◌-◌, ◌*◌, ◌/◌, ◌%◌, ◌<◌, ◌≤◌, ⊎_elim, List, [], ◌∷◌, ◌++◌}
use Rattle.std.proofs.Common.{Contains, length, map, get_or, eqb, ne_eqb, true, false, sym, ap, subst, refl, ◌∙◌, arith}
use Rattle.std.proofs.Common.{length-append}
use Rattle.std.specs.List.{AllByRecursion, IsDistinct, list_any}
use Rattle.std.proofs.Math.Nat.{mul-add, mul-le-mul_left, zero-mul}
use Rattle.std.proofs.lemmas.Bool.{eqb-true}
use Rattle.std.proofs.lemmas.List.{length-map}
use Rattle.std.proofs.lemmas.Map.Steps.{length-le_from_distinct_below}
use Rattle.std.proofs.lemmas.Map.Views.{Contains-from_any}
use Rattle.std.proofs.lemmas.List.Elements.{All-contains, All-map, Contains-get_or, Contains-append_left}
use Rattle.std.proofs.lemmas.List.Elements.{Contains-append_right, Contains-push, Contains-push_cases}
use Rattle.mako_shape.specs.declared.numbers.Numbers.{Numbers}
use Rattle.mako_shape.specs.Belongings.{server_of_entry}
use Rattle.mako_words.specs.declared.name.Name.{Name}
use Rattle.mako_ring.specs.Shades.{IsMarked}
use Rattle.mako_ring.specs.TraceFacets.{Hand, empty, considering, marking, pushing, Work, InHand}
use Rattle.mako_shades.specs.Serving.{HandStands, StandOnce, HandIsFresh, ServerStands}
use Rattle.mako_model.specs.declared.point.Point.{Point}
use Rattle.mako_model.specs.Legal.{Facts}

no_member : {A : Type 0} (x : A) → Contains [] x → ⊥
no_member x c = let l : c.0 < 0 = c.1 in omega arith

pub once_push : (es : List ℕ) (e : ℕ) → StandOnce es → (¬ Contains es e) → StandOnce (es ++ e ∷ [])
once_push [] e once not = ((λ c. no_member e c), tt)
once_push (k ∷ es) e once not = (
  (λ c. ⊎_elim (λ was. once.0 was)
      (λ same. not (subst (Contains (k ∷ es)) (sym same) (Contains-append_left (k ∷ []) es k (Contains-push [] k))))
      (Contains-push_cases es e k c)),
  once_push es e once.1 (λ c. not (Contains-append_right (k ∷ []) es e c)),
)

pub once_front : (es more : List ℕ) → StandOnce (es ++ more) → StandOnce es
once_front [] more once = tt
once_front (k ∷ es) more once = ((λ c. once.0 (Contains-append_left es more k c)), once_front es more once.1)

pub fresh_front : (h : Hand) (es more : List ℕ) → HandIsFresh h (es ++ more) → HandIsFresh h es
fresh_front empty es more fresh = tt
fresh_front (considering x) es more fresh = tt
fresh_front (marking x e) es more fresh = tt
fresh_front (pushing x) es more fresh = λ c. fresh (Contains-append_left es more x.entry c)

-- ---- no more entries than a server has

left_factor : (e a b : ℕ) → e < a * b → 0 < a
left_factor e zero b l = let none : zero * b ≡ 0 = zero-mul b in absurd (omega arith)
left_factor e (suc a) b l = omega arith

pub right_factor : (e a b : ℕ) → e < a * b → 0 < b
right_factor e a zero l = absurd (omega arith)
right_factor e a (suc b) l = omega arith

-- an entry of a server is one of its tablets times entries
own_entry : (n : Numbers) (e s : ℕ) → e < n.servers * n.tablets * n.entries → server_of_entry n e ≡ s
    → (n.entries * (n.tablets * s) ≤ e) × (e < n.entries * (n.tablets * s) + n.entries * n.tablets)
own_entry n e s within own =
    let some : 0 < n.entries = right_factor e (n.servers * n.tablets) n.entries within in
    let more : 0 < n.tablets = right_factor 0 n.servers n.tablets (left_factor e (n.servers * n.tablets) n.entries
    within) in
    let q : ℕ = e / n.entries in
    let r : ℕ = e % n.entries in
    let k : ℕ = e / n.entries % n.tablets in
    let whole : n.entries * (e / n.entries) + e % n.entries ≡ e = omega arith in
    let part : n.tablets * (e / n.entries / n.tablets) + e / n.entries % n.tablets ≡ e / n.entries = omega arith in
    let same : n.entries * (e / n.entries) ≡ n.entries * (n.tablets * s) + n.entries * (e / n.entries % n.tablets) =
    ap (λ (x : ℕ). n.entries * x) (sym part ∙ ap (λ (x : ℕ). n.tablets * x + e / n.entries % n.tablets) own) ∙ mul-add
    n.entries (n.tablets * s) (e / n.entries % n.tablets) in
    let low : e % n.entries < n.entries = omega arith in
    let small : e / n.entries % n.tablets < n.tablets = omega arith in
    let room : n.entries * (e / n.entries % n.tablets + 1) ≤ n.entries * n.tablets = mul-le-mul_left n.entries
    (omega arith) in
    let next : n.entries * (e / n.entries % n.tablets + 1) ≡ n.entries * (e / n.entries % n.tablets) + n.entries *
    1 = mul-add n.entries (e / n.entries % n.tablets) 1 in
    (omega arith, omega arith)

others_differ : (base e : ℕ) (es : List ℕ) → base ≤ e → ((k : ℕ) → Contains es k → base ≤ k) → (¬ Contains es e)
    → AllByRecursion (λ y. eqb (e - base) y ≡ false) (map (λ (k : ℕ). k - base) es)
others_differ base e [] le above not = tt
others_differ base e (k ∷ es) le above not =
    let first : base ≤ k = above k (Contains-append_left (k ∷ []) es k (Contains-push [] k)) in (
      ne_eqb (e - base) (k - base) (λ same. let is : e ≡ k = omega arith in not
          (subst (Contains (k ∷ es)) (sym is) (Contains-append_left (k ∷ []) es k (Contains-push [] k)))),
      others_differ base e es le (λ j c. above j (Contains-append_right (k ∷ []) es j c))
          (λ c. not (Contains-append_right (k ∷ []) es e c)),
    )

distinct_from : (base : ℕ) (es : List ℕ) → ((k : ℕ) → Contains es k → base ≤ k) → StandOnce es
    → IsDistinct eqb (map (λ (k : ℕ). k - base) es)
unfolding IsDistinct
distinct_from base [] above once = tt
distinct_from base (e ∷ es) above once = (
  others_differ base e es (above e (Contains-append_left (e ∷ []) es e (Contains-push [] e)))
      (λ k c. above k (Contains-append_right (e ∷ []) es k c)) once.0,
  distinct_from base es (λ k c. above k (Contains-append_right (e ∷ []) es k c)) once.1,
)

-- numbers of a range of which none stands twice are no more than the range
pub range_room : (base room : ℕ) (es : List ℕ) → StandOnce es
    → ((k : ℕ) → Contains es k → (base ≤ k) × (k < base + room)) → length es ≤ room
range_room base room es once inside =
    let below : (q : ℕ) → list_any (eqb q) (map (λ (k : ℕ). k - base) es) ≡ true → q < room = λ q is.
    All-contains (λ y. y < room) (map (λ (k : ℕ). k - base) es) q
    (All-map (λ y. y < room) (λ (k : ℕ). k - base) es (λ k d l. let b = inside (get_or es k d)
    (Contains-get_or es k d l) in let b0 = b.0 in let b1 = b.1 in omega arith))
    (Contains-from_any (λ x y e. eqb-true x y e) q (map (λ (k : ℕ). k - base) es) is) in
    let counted = length-le_from_distinct_below (map (λ (k : ℕ). k - base) es) room
    (distinct_from base es (λ k c. (inside k c).0) once) below in
    (let same : length (map (λ (k : ℕ). k - base) es) ≡ length es = length-map es (λ (k : ℕ). k - base) in omega arith)

-- where an entry is about to be pushed, there is room for it
pub push_room : (n : Numbers) (w : Facts) (words : List ℕ) (history : List Point) (cycle : ℕ) (job : Work) (x : Name)
    → ServerStands n w words history cycle job → job.hand ≡ pushing x → length job.stack < n.entries * n.tablets
push_room n w words history cycle job x stands hand =
    let marked : IsMarked n words cycle x = subst (HandStands n words cycle) hand stands.hand in
    let own : server_of_entry n x.entry ≡ job.server = stands.own x (subst (λ (g : Hand). InHand g x) (sym hand) refl)
    in
    let grown = range_room (n.entries * (n.tablets * job.server)) (n.entries * n.tablets) (job.stack ++ x.entry ∷ [])
    (once_push job.stack x.entry stands.once (subst (λ (h : Hand). HandIsFresh h job.stack) hand stands.fresh))
    (λ e on. ⊎_elim (λ was. own_entry n e job.server (stands.stack e was).in_range (stands.mine e was))
    (λ top. subst (λ (k : ℕ). (n.entries * (n.tablets * job.server) ≤ k) × (k < n.entries * (n.tablets * job.server) +
    n.entries * n.tablets)) top (own_entry n x.entry job.server marked.in_range own))
    (Contains-push_cases job.stack x.entry e on)) in
    omega (arith, length-append job.stack (x.entry ∷ []))
