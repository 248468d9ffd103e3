-- A list of the regions that are spare, and what stands in the ring of a server that tells of the end.
use Rattle.std.proofs.Common.{◌≡◌, ◌≢◌, ℕ, zero, suc, ◌+◌, ◌%◌, ◌<◌, ◌≤◌, ◌==◌, ◌⊎◌, ⊎_elim, Bool, true, false, List}
use Rattle.std.proofs.Common.{[], ◌∷◌, sym, ap, subst, refl, ◌∙◌, arith, eq-eqb, ne_eqb}
use Rattle.std.proofs.lemmas.Bool.{cases_eq}
use Rattle.std.proofs.lemmas.List.Elements.{Contains-append_right}
use Rattle.std.proofs.lemmas.List.Sums.{sum_by-cons}
use Rattle.std.proofs.lemmas.Nat.{mod_below}
use Rattle.std.specs.List.{Contains}
use Rattle.mako_words.specs.declared.name.Name.{Name}
use Rattle.mako_shape.specs.declared.numbers.Numbers.{Numbers}
use Rattle.mako_shape.specs.Places.{notice, word_at}
use Rattle.mako_gate.specs.Sums.{counted}
use Rattle.mako_layout.specs.Facets.{times_in}
use Rattle.mako_phases.proofs.Members.{no_member, head_or, first_in}
use Rattle.mako_ring.specs.Contents.{ahead, content_within, content}
use Rattle.mako_clearing.specs.Notices.{notice_slots, freed_words, RingTells}

-- ---- spare regions

abbrev put : Bool → ℕ → List ℕ → List ℕ
put true r rest = r ∷ rest
put false r rest = rest

-- the regions below a number of which this is so
unfoldable pub spares_below : (ℕ → Bool) → ℕ → List ℕ
spares_below f zero = []
spares_below f (suc m) = put (f m) m (spares_below f m)

one_more : (b : Bool) (m r : ℕ) (rest : List ℕ)
    → times_in (put b m rest) r ≡ counted b (counted (m == r) 1) + times_in rest r
one_more true m r rest = sum_by-cons (λ s. counted (s == r) 1) m rest
one_more false m r rest = omega arith

none_counted : (b : Bool) → counted b 0 ≡ 0
none_counted true = refl
none_counted false = refl

none_above : (f : ℕ → Bool) (m r : ℕ) → m ≤ r → times_in (spares_below f m) r ≡ 0
unfolding spares_below
none_above f zero r low = refl
none_above f (suc m) r low =
    let a = one_more (f m) m r (spares_below f m) in
    let b = none_above f m r (omega arith) in
    let c : counted (f m) (counted (m == r) 1) ≡ 0 =
    ap (λ t. counted (f m) (counted t 1)) (ne_eqb m r (λ e. absurd (omega arith))) ∙ none_counted (f m) in
    omega arith

pub once_below : (f : ℕ → Bool) (m r : ℕ) → r < m → times_in (spares_below f m) r ≡ counted (f r) 1
unfolding spares_below
once_below f zero r low = absurd (omega arith)
once_below f (suc m) r low =
    ⊎_elim
    (λ e. let a = one_more (f m) m r (spares_below f m) in
    let b = none_above f m r (omega arith) in
    let c : counted (f m) (counted (m == r) 1) ≡ counted (f r) 1 =
    ap (λ t. counted (f m) (counted t 1)) (eq-eqb m r e) ∙ ap (λ x. counted (f x) 1) e in
    omega arith)
    (λ d. let a = one_more (f m) m r (spares_below f m) in
    let b = once_below f m r (omega arith) in
    let c : counted (f m) (counted (m == r) 1) ≡ 0 =
    ap (λ t. counted (f m) (counted t 1)) (ne_eqb m r d) ∙ none_counted (f m) in
    omega arith)
    (cases_eq m r)

-- ---- rings

-- what is in the content of a ring stands in a slot of it
record Stands (size : ℕ) (slot : ℕ → ℕ) (x : ℕ) : Type 0 where
  place : ℕ
  is : slot (place % size) ≡ x

ahead_or : (v : ℕ) (rest : List ℕ) (x : ℕ) → Contains (ahead v rest) x → (v ≡ x) ⊎ Contains rest x
ahead_or zero rest x c = absurd (no_member x c)
ahead_or (suc v) rest x c = head_or rest (suc v) x c

in_slot : (left size : ℕ) (slot : ℕ → ℕ) (at x : ℕ) → Contains (content_within left size slot at) x
    → Stands size slot x
in_slot zero size slot at x c = absurd (no_member x c)
in_slot (suc left) size slot at x c =
    ⊎_elim (λ e. record { place = at; is = e }) (λ more. in_slot left size slot (at + 1) x more)
    (ahead_or (slot (at % size)) (content_within left size slot (at + 1)) x c)

-- where no slot has the word that ends a cycle, none is told
pub none_told : (n : Numbers) (words : List ℕ) (server taker next : ℕ) (names : List Name) (done : Bool)
    → RingTells n words server taker next names done
    → ((slot : ℕ) → slot < n.ring → word_at n words (notice server slot) ≢ 1) → done ≡ false
none_told n words server taker next names false ring none = refl
none_told n words server taker next names true ring none =
    let low = ring.taker_below in
    let last : Contains (content n.ring (notice_slots n words server) taker) 1 =
    subst (λ l. Contains l 1) (sym ring.holds)
    (Contains-append_right (freed_words names) (1 ∷ []) 1 (first_in 1 [])) in
    let s = in_slot n.ring n.ring (notice_slots n words server) taker 1 last in
    absurd (none (s.place % n.ring) (mod_below s.place n.ring (omega arith)) s.is)
