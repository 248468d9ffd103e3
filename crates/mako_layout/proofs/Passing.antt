-- A server's copies of a tablet: which records of the cycle are in the home by now.
use Rattle.std.proofs.Common.{◌≡◌, ◌≢◌, ℕ, ◌+◌, ◌*◌, ◌/◌, ◌<◌, inl, inr, true, sym, ap, ◌∙◌, subst, arith}
use Rattle.std.proofs.lemmas.Bool.{cases_eq}
use Rattle.mako_shape.specs.declared.numbers.Numbers.{Numbers}
use Rattle.mako_shape.specs.Belongings.{tablet_of_entry}
use Rattle.mako_shape.proofs.Rows.{mod-below, row-and-column}
use Rattle.mako_shape.proofs.BelongingLaws.{belongings_in_range}
use Rattle.mako_gate.specs.Changes.{tablets_of}
use Rattle.mako_layout.specs.Layouts.{Slot, Layout, Passed}
use Rattle.mako_layout.specs.Changes.{Puts, Alters, AreSame, IsMoved}

pub passed_same : (n : Numbers) (l m : Layout) (t b : ℕ) → AreSame n l m → Passed n l t b → Passed n m t b
passed_same n l m t b p before y low h c taken now =
    let same = p.slots y h in
    let was = before y low h c (ap (λ (q : Slot). q.taken) (sym same) ∙ taken)
    (ap (λ (q : Slot). q.epoch) (sym same) ∙ now ∙ p.cycle) in
    ap (λ (q : Slot). q.region) same ∙ was
    ∙ sym (p.homes t (subst (λ q. q < tablets_of n) c (belongings_in_range.entry n y h)))

pub passed_puts : (n : Numbers) (l : Layout) (s : ℕ → Slot) (f d : ℕ → ℕ) (x : ℕ) → Puts n l s f d x → (t b : ℕ) →
    Passed n l t b → Passed n (record l { slot = s; filled = f; made = d }) t b
passed_puts n l s f d x p t b before y low h c taken now = elim (cases_eq y x) [
  | inl e ↦ ap (λ q. (s q).region) e ∙ p.region ∙ ap l.home (ap (tablet_of_entry n) (sym e) ∙ c)
  | inr ne ↦ (let same = p.others y h ne in
      ap (λ (q : Slot). q.region) same ∙ before y low h c (ap (λ (q : Slot). q.taken) (sym same) ∙ taken)
      (ap (λ (q : Slot). q.epoch) (sym same) ∙ now))
]

pub passed_alters : (n : Numbers) (l : Layout) (s : ℕ → Slot) (x : ℕ) → Alters n l s x → (t b : ℕ) → Passed n l t b →
    Passed n (record l { slot = s }) t b
passed_alters n l s x p t b before y low h c taken now = elim (cases_eq y x) [
  | inl e ↦ (let k = p.same (ap (λ q. (s q).taken) (sym e) ∙ taken) in
      ap (λ q. (s q).region) e ∙ k.region ∙ k.home ∙ ap l.home (ap (tablet_of_entry n) (sym e) ∙ c))
  | inr d ↦ (let same = p.others y h d in
      ap (λ (q : Slot). q.region) same ∙ before y low h c (ap (λ (q : Slot). q.taken) (sym same) ∙ taken)
      (ap (λ (q : Slot). q.epoch) (sym same) ∙ now))
]

-- at first none of the tablet's entries is below
pub passed_none : (n : Numbers) (l : Layout) (t : ℕ) → Passed n l t (t * n.entries)
passed_none n l t y low h c taken now = absurd (
    let a = row-and-column y n.entries in
    let b : y / n.entries * n.entries ≡ t * n.entries = ap (λ q. q * n.entries) c in omega arith)

-- one more
pub passed_next : (n : Numbers) (l : Layout) (t b : ℕ) → Passed n l t b →
    ((l.slot b).taken ≡ true → (l.slot b).epoch ≡ l.cycle → (l.slot b).region ≡ l.home t) → Passed n l t (b + 1)
passed_next n l t b before here y low h c taken now = elim (cases_eq y b) [
  | inl e ↦ ap (λ q. (l.slot q).region) e ∙ here (ap (λ q. (l.slot q).taken) (sym e) ∙ taken)
      (ap (λ q. (l.slot q).epoch) (sym e) ∙ now)
  | inr d ↦ before y (let ne : y ≢ b = d in omega arith) h c taken now
]

-- at last all
pub passed_all : (n : Numbers) (l : Layout) (t : ℕ) → Passed n l t (t * n.entries + n.entries) → IsMoved n l t
passed_all n l t all y h c taken now = all y (
    let a = row-and-column y n.entries in
    let b : y / n.entries * n.entries ≡ t * n.entries = ap (λ q. q * n.entries) c in
    let d = mod-below y n.entries (tablets_of n) h in omega arith) h c taken now
