-- Pauses, and what is given.
use Rattle.std.proofs.Common.{◌≡◌, ℕ, zero, suc, ◌+◌, ◌*◌, ◌/◌, ◌%◌, ◌<◌, ◌≤◌, ◌==◌, inl, inr, ⊎_elim, Bool, List, []}
use Rattle.std.proofs.Common.{◌∷◌, map, slice_get, sum_by, Some, option_map, sym, ap, subst, refl, ◌∙◌, arith, eq-eqb}
use Rattle.std.proofs.Common.{mul_assoc, add-mul}
use Rattle.std.proofs.lemmas.List.Sums.{sum_by-cons}
use Rattle.std.proofs.lemmas.Option.{same_Some, slice_get-map}
use Rattle.mako_words.specs.declared.name.Name.{Name}
use Rattle.mako_words.specs.declared.phase_word.PhaseWord.TheVariants.{Evac}
use Rattle.mako_shape.specs.declared.numbers.Numbers.{Numbers}
use Rattle.mako_shape.specs.Belongings.{tablet_of_entry, server_of_tablet}
use Rattle.mako_shape.proofs.BelongingLaws.{parts_belong}
use Rattle.mako_shape.proofs.Rows.{div-below, mod-below, row-and-column}
use Rattle.mako_gate.specs.Sums.{counted}
use Rattle.mako_gate.specs.Standings.{GateFacet, admitted_own, drained_own}
use Rattle.mako_model.specs.Legal.{Facts}
use Rattle.mako_names.specs.Freeing.{entry_by}
use Rattle.mako_layout.specs.Facets.{Choice, rests_with, chooses, has_chosen, Paused}
use Rattle.mako_layout.specs.Evacuations.{State, Evacuation, layout}
use Rattle.mako_layout.proofs.Alone.{none_given}
use Rattle.mako_phases.specs.Facets.{Part, idle, pausing, rooting, tracing, choosing, evacuating, stopped, IsInPause}
use Rattle.mako_phases.specs.Facets.{PhaseFacet, role_of, TabletStage, clearing, freeing, serving, collecting}
use Rattle.mako_phases.specs.Facets.{phase_during}
use Rattle.mako_phases.specs.Laws.{IsStaying}
use Rattle.mako_phases.specs.Orders.{ServerFits}
use Rattle.mako_phases.proofs.Says.{part_phase, tablets_stay}
use Rattle.mako_joint.specs.Joints.{JointScene, layout_in, ChoiceFits, Joint}
use Rattle.mako_joint.specs.Bridges.{PartsPause, GatesDrain, NothingIsGiven, FreeingFollows}

none_clears : (part : Part) (s ended d t : ℕ) (at : TabletStage) → IsInPause part
    → ServerFits part s (clearing d t at) ended → ⊥
none_clears (rooting c k) s ended d t at paused fits = fits.0
none_clears (choosing c left) s ended d t at paused fits = fits.0
none_clears (idle c) s ended d t at paused fits = paused
none_clears (pausing c) s ended d t at paused fits = paused
none_clears (tracing c) s ended d t at paused fits = paused
none_clears (evacuating c k) s ended d t at paused fits = paused
none_clears (stopped c) s ended d t at paused fits = paused

pub parts_pause : PartsPause
parts_pause n w s j paused =
    let o = j.order in
    let all = j.gates.collector o.seat o.part o.pending o.here paused in
    record {
      collector = all.gate;
      here = all.here;
      drained = all.drained;
      servers = λ i t g at.
          ⊎_elim (λ none. none)
          (λ c. absurd (none_clears o.part c.server c.ended c.cycle c.tablet c.at paused
          (o.each i (serving c.server (clearing c.cycle c.tablet c.at) c.ended c.laden) c.is).fits))
          (j.gates.servers i t g at);
    }

-- one term of a sum is at most the sum
term_below : {A : Type 0} (f : A → ℕ) (xs : List A) (i : ℕ) (x : A) → slice_get xs i ≡ Some x → f x ≤ sum_by f xs
term_below f [] i x at = absurd (let b : ⊥ = cc in b)
term_below f (y ∷ ys) zero x at =
    let e : y ≡ x = same_Some y x at in let g : f y ≡ f x = ap f e in omega (arith, sum_by-cons f y ys)
term_below f (y ∷ ys) (suc i) x at = let l = term_below f ys i x at in omega (arith, sum_by-cons f y ys)

-- in a pause no mutator is admitted
none_admitted : (n : Numbers) (s : State) → Evacuation n s → Paused n s.gates → (i : ℕ) (g : GateFacet)
    → slice_get s.gates i ≡ Some g → g.number < n.mutators → admitted_own g.standing ≡ 0
none_admitted n s e p i g at low =
    let gate = e.gates.owns g.number low in
    let drained = term_below (λ h. drained_own g.number h.watch) s.gates (n.mutators + n.servers) p.collector p.here in
    let none =
    gate.nobody
    (let a = p.drained g.number low in
    let d : 0 < sum_by (λ h. drained_own g.number h.watch) s.gates = omega arith in d) in
    let mine = term_below (λ h. counted (h.number == g.number) (admitted_own h.standing)) s.gates i g at in
    let own : counted (g.number == g.number) (admitted_own g.standing) ≡ admitted_own g.standing =
    ap (λ b. counted b (admitted_own g.standing)) (eq-eqb g.number g.number refl) in
    omega arith

-- ---- the collector's part

-- a fact of the collector's facet is one of any collector's facet: there is one collector
pub by_part : (n : Numbers) (w : Facts) (s : JointScene) (j : Joint n w s) (P : Part → Type 0) (seat : ℕ) (part : Part)
    (pending : List Name) → slice_get s.facets.phases seat ≡ Some (collecting part pending) → P part → P j.order.part
by_part n w s j P seat part pending here is =
    subst (λ (f : PhaseFacet). P (part_in f))
    (same_Some (collecting part pending) (collecting j.order.part j.order.pending)
    (sym here ∙ ap (slice_get s.facets.phases) one ∙ j.order.here)) is
  where
    part_in : PhaseFacet → Part
    part_in (collecting p names) = p
    part_in f = part

    role_at : (i : ℕ) (f : PhaseFacet) → slice_get s.facets.phases i ≡ Some f
        → slice_get (map role_of s.facets.phases) i ≡ Some (role_of f)
    role_at i f at = slice_get-map role_of s.facets.phases i ∙ ap (option_map role_of) at

    one : seat ≡ j.order.seat
    one = j.order.seated.collectors seat j.order.seat (role_at seat (collecting part pending) here)
        (role_at j.order.seat (collecting j.order.part j.order.pending) j.order.here)

pub gates_drain : GatesDrain
gates_drain n w s j seat part pending here paused other admission at =
    let p = parts_pause n w s j (by_part n w s j IsInPause seat part pending here paused) in
    let t = j.gates.mutators other admission at in
    t.outside (none_admitted n (layout_in n w s) j.layout p other t.gate t.here t.number)

-- ---- what is given

rests_given : (n : Numbers) (s : State) (part : Part) → ChoiceFits part s.choice → IsStaying part → (t : ℕ)
    → (layout n s).given t ≡ 0
rests_given n s part fits stays t = by_choice s.choice refl part fits stays
  where
    resting : (spare : List ℕ) → s.choice ≡ rests_with spare → (layout n s).given t ≡ 0
    resting spare is = none_given n s spare is t

    by_choice : (k : Choice) → s.choice ≡ k → (part : Part) → ChoiceFits part k → IsStaying part
        → (layout n s).given t ≡ 0
    by_choice (rests_with spare) is part fits stays = resting spare is
    by_choice (chooses debt given spare) is (idle c) fits stays = absurd fits
    by_choice (chooses debt given spare) is (pausing c) fits stays = absurd fits
    by_choice (chooses debt given spare) is (rooting c k) fits stays = absurd fits
    by_choice (chooses debt given spare) is (tracing c) fits stays = absurd fits
    by_choice (chooses debt given spare) is (choosing c left) fits stays = absurd stays
    by_choice (chooses debt given spare) is (evacuating c k) fits stays = absurd stays
    by_choice (chooses debt given spare) is (stopped c) fits stays = absurd fits
    by_choice (has_chosen given spare) is (idle c) fits stays = absurd fits
    by_choice (has_chosen given spare) is (pausing c) fits stays = absurd fits
    by_choice (has_chosen given spare) is (rooting c k) fits stays = absurd fits
    by_choice (has_chosen given spare) is (tracing c) fits stays = absurd fits
    by_choice (has_chosen given spare) is (choosing c left) fits stays = absurd stays
    by_choice (has_chosen given spare) is (evacuating c k) fits stays = absurd stays
    by_choice (has_chosen given spare) is (stopped c) fits stays = absurd fits

pub nothing_given : NothingIsGiven
nothing_given n w s j stays t low =
    let o = j.order in (
      rests_given n (layout_in n w s) o.part (j.choice o.seat o.part o.pending o.here) stays t,
      tablets_stay n s.words s.facets.phases o stays t low,
    )

-- ---- freeing

belongs : (n : Numbers) (s i : ℕ) → s < n.servers → i < n.tablets * n.entries
    → (tablet_of_entry n (entry_by n s i) < n.servers * n.tablets)
    × (server_of_tablet n (tablet_of_entry n (entry_by n s i)) ≡ s)
belongs n s i low inside =
    let k : ℕ = i / n.entries in
    let k_in : k < n.tablets = div-below i n.entries n.tablets inside in
    let r_in : i % n.entries < n.entries = mod-below i n.entries n.tablets inside in
    let t : ℕ = s * n.tablets + k in
    let a : k * n.entries + i % n.entries ≡ i = row-and-column i n.entries in
    let b : s * n.tablets * n.entries ≡ s * (n.tablets * n.entries) = mul_assoc s n.tablets n.entries in
    let c : (s * n.tablets + k) * n.entries ≡ s * n.tablets * n.entries + k * n.entries =
    add-mul (s * n.tablets) k n.entries in
    let e : t * n.entries + i % n.entries ≡ entry_by n s i = omega arith in
    let of_t : tablet_of_entry n (entry_by n s i) ≡ t =
    subst (λ y. tablet_of_entry n y ≡ t) e (parts_belong.entry n t (i % n.entries) r_in) in (
      subst (λ u. u < n.servers * n.tablets) (sym of_t) (parts_belong.tablet_in_range n s k low k_in),
      ap (server_of_tablet n) of_t ∙ parts_belong.tablet n s k k_in,
    )

free_evac : (part : Part) (s d ended : ℕ) → ServerFits part s (freeing d) ended → phase_during part ≡ Evac d
free_evac (idle c) s d ended fits = absurd fits.0
free_evac (pausing c) s d ended fits = absurd fits.0
free_evac (rooting c k) s d ended fits = absurd fits.0
free_evac (tracing c) s d ended fits = absurd fits.0
free_evac (choosing c left) s d ended fits = absurd fits.0
free_evac (stopped c) s d ended fits = absurd fits.0
free_evac (evacuating c k) s d ended fits = ap (λ (x : ℕ). Evac x) (sym fits.0.0)

pub freeing_follows : FreeingFollows
freeing_follows n w s j seat server cycle ended i laden at inside =
    let o = j.order in
    let stands = o.each seat (serving server (freeing cycle) ended laden) at in
    let t = belongs n server i stands.known inside in (
      part_phase n s.words s.facets.phases o o.seat o.part o.pending o.here
          ∙ free_evac o.part server cycle ended stands.fits,
      stands.passed (tablet_of_entry n (entry_by n server i)) t.0 t.1 (inr tt),
    )
