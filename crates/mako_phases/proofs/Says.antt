-- What the order of the phases tells.
use Rattle.std.proofs.Common.{◌≡◌, ℕ, zero, suc, ◌+◌, ◌*◌, ◌/◌, ◌%◌, ◌<◌, ◌≤◌, inl, ⊎_elim, List, [], Contains}
use Rattle.std.proofs.Common.{slice_get, Some, Bool, sym, ap, subst, refl, ◌∙◌, arith}
use Rattle.std.proofs.lemmas.Bool.{cases_eq}
use Rattle.std.proofs.lemmas.List.Elements.{Contains-append_cases, Contains-append_left, Contains-append_right}
use Rattle.std.proofs.lemmas.List.Elements.{Contains-push, Contains-push_cases}
use Rattle.mako_words.specs.declared.name.Name.{Name}
use Rattle.mako_words.specs.declared.value.Value.{Value}
use Rattle.mako_words.specs.declared.value.Value.TheVariants.{Null, Num, Ref}
use Rattle.mako_words.specs.declared.phase_word.PhaseWord.TheVariants.{Evac}
use Rattle.mako_words.specs.Phases.{cycle_of}
use Rattle.mako_words.specs.Values.{value_at}
use Rattle.mako_shape.specs.declared.numbers.Numbers.{Numbers}
use Rattle.mako_shape.specs.Places.{root, leaving, entry, Within, word_at}
use Rattle.mako_shape.specs.Belongings.{server_of_tablet}
use Rattle.mako_names.specs.Tables.{entry_of, phase_of}
use Rattle.mako_phases.specs.Facets.{Part, idle, pausing, rooting, tracing, choosing, evacuating, stopped, TabletStage}
use Rattle.mako_phases.specs.Facets.{ServerStage, clearing, PhaseFacet, serving, collecting, phase_during, cycle_during}
use Rattle.mako_phases.specs.Facets.{IsRestful}
use Rattle.mako_phases.specs.Orders.{names_in, loaded_names, MayLeave, ServerFits, ServerStands, PhaseOrder, AreDrained}
use Rattle.mako_phases.specs.Orders.{AreUnladen}
use Rattle.mako_phases.specs.Laws.{SlotsAreEmpty, IsStill, IsStaying, IsReadyForSnapshot}
use Rattle.mako_phases.proofs.Members.{no_member}
use Rattle.mako_phases.proofs.Frames.{root_within, the_words, the_seats}
use Rattle.mako_phases.proofs.Parts.{phase_found}
use Rattle.std.proofs.lemmas.Nat.{div-mul-add, mod-mul-add}
use Rattle.mako_shape.proofs.Rows.{row-below}

pub names_rest : (n : Numbers) (words : List ℕ) (facets : List PhaseFacet) (o : PhaseOrder n words facets)
    → IsRestful o.part → SlotsAreEmpty n words × AreUnladen facets
names_rest n words facets o rest = (o.words_stand.slots rest, server_rests)
  where
    server_rests : AreUnladen facets
    server_rests seat s stage ended laden here =
        let st : ServerStands n words o.part s stage ended laden = o.each seat (serving s stage ended laden) here in
        st.rests rest

pub part_phase : (n : Numbers) (words : List ℕ) (facets : List PhaseFacet) → PhaseOrder n words facets
    → (seat : ℕ) (part : Part) (pending : List Name) → slice_get facets seat ≡ Some (collecting part pending)
    → phase_of n words ≡ phase_during part
unfolding phase_of
part_phase n words facets o seat part pending here =
    phase_found n words part pending o.shape (the_words n words facets o seat part pending here)

pub epochs_behind : (n : Numbers) (words : List ℕ) (facets : List PhaseFacet) → PhaseOrder n words facets
    → (e : ℕ) → Within n (entry e) → (entry_of n words e).epoch ≤ cycle_of (phase_of n words)
epochs_behind n words facets o e within =
    subst (λ p. (entry_of n words e).epoch ≤ cycle_of p)
    (sym (part_phase n words facets o o.seat o.part o.pending o.here)) (o.words_stand.epochs e within)

-- ---- the choice

pub waiting_stay : (n : Numbers) (words : List ℕ) (facets : List PhaseFacet) → PhaseOrder n words facets
    → (seat cycle : ℕ) (left : List ℕ) (pending : List Name)
    → slice_get facets seat ≡ Some (collecting (choosing cycle left) pending)
    → (t : ℕ) → Within n (leaving t) → (¬ Contains left t) → word_at n words (leaving t) ≡ 0
waiting_stay n words facets o seat cycle left pending here t within waits =
    ⊎_elim (λ e. e) (λ may. absurd (waits may))
    ((the_words n words facets o seat (choosing cycle left) pending here).leavings t within)

pub choosing_still : (n : Numbers) (words : List ℕ) (facets : List PhaseFacet) → PhaseOrder n words facets
    → AreDrained facets → (seat cycle : ℕ) (left : List ℕ) (pending : List Name)
    → slice_get facets seat ≡ Some (collecting (choosing cycle left) pending) → IsStill facets cycle
choosing_still n words facets o drained seat cycle left pending here = record {
  mutators = drained seat (choosing cycle left) pending here tt;
  servers = λ other s stage ended laden at.
      let st : ServerStands n words (choosing cycle left) s stage ended laden =
      the_seats n words facets o seat (choosing cycle left) pending here other (serving s stage ended laden) at in
      (st.fits.0, st.rests tt);
}

-- ---- tablets

none_leaves : (part : Part) (t : ℕ) → IsStaying part → MayLeave part t → ⊥
none_leaves (choosing c left) t stays may = stays
none_leaves (evacuating c k) t stays may = stays
none_leaves part t stays may = may

pub tablets_stay : (n : Numbers) (words : List ℕ) (facets : List PhaseFacet) (o : PhaseOrder n words facets)
    → IsStaying o.part → (t : ℕ) → Within n (leaving t) → word_at n words (leaving t) ≡ 0
tablets_stay n words facets o stays t within =
    ⊎_elim (λ e. e) (λ may. absurd (none_leaves o.part t stays may)) (o.words_stand.leavings t within)

clear_evac : (part : Part) (s d t : ℕ) (at : TabletStage) (ended : ℕ) → ServerFits part s (clearing d t at) ended
    → phase_during part ≡ Evac d
clear_evac (idle c) s d t at ended fits = absurd fits.0
clear_evac (pausing c) s d t at ended fits = absurd fits.0
clear_evac (rooting c k) s d t at ended fits = absurd fits.0
clear_evac (tracing c) s d t at ended fits = absurd fits.0
clear_evac (choosing c left) s d t at ended fits = absurd fits.0
clear_evac (stopped c) s d t at ended fits = absurd fits.0
clear_evac (evacuating c k) s d t at ended fits = ap (λ (x : ℕ). Evac x) (sym fits.0.0)

pub tablets_in_evac : (n : Numbers) (words : List ℕ) (facets : List PhaseFacet) → PhaseOrder n words facets
    → (seat s d t : ℕ) (at : TabletStage) (ended : ℕ) (laden : Bool)
    → slice_get facets seat ≡ Some (serving s (clearing d t at) ended laden) → phase_of n words ≡ Evac d
tablets_in_evac n words facets o seat s d t at ended laden here =
    let st : ServerStands n words o.part s (clearing d t at) ended laden =
    o.each seat (serving s (clearing d t at) ended laden) here in
    part_phase n words facets o o.seat o.part o.pending o.here ∙ clear_evac o.part s d t at ended st.fits

-- ---- the names of the roots loaded

named : (v : Value) (x : Name) → Contains (names_in v) x → v ≡ Ref x
named Null x c = absurd (no_member x c)
named (Num k) x c = absurd (no_member x c)
named (Ref y) x c =
    ⊎_elim (λ none. absurd (no_member x none)) (λ e. ap (λ (z : Name). Ref z) e) (Contains-push_cases [] y x c)

naming : (v : Value) (x : Name) → v ≡ Ref x → Contains (names_in v) x
naming v x e = subst (λ (u : Value). Contains (names_in u) x) (sym e) (Contains-push [] x)

loaded_is : (n : Numbers) (words : List ℕ) (k : ℕ) → k ≤ n.mutators * n.roots → (x : Name)
    → Contains (loaded_names n words k) x
    → (m : ℕ) × (q : ℕ) × Within n (root m q) × (value_at (word_at n words (root m q)) ≡ Ref x)
unfolding loaded_names
loaded_is n words zero le x c = absurd (no_member x c)
loaded_is n words (suc k) le x c =
    ⊎_elim (λ before. loaded_is n words k (omega arith) x before)
    (λ now. (
      k / n.roots,
      k % n.roots,
      root_within n k (omega arith),
      named
          (value_at (word_at n words (root (k / n.roots) (k % n.roots)))) x now,
    ))
    (Contains-append_cases (loaded_names n words k)
    (names_in (value_at (word_at n words (root (k / n.roots) (k % n.roots))))) x c)

loaded_has : (n : Numbers) (words : List ℕ) (k i : ℕ) → i < k → (x : Name)
    → value_at (word_at n words (root (i / n.roots) (i % n.roots))) ≡ Ref x → Contains (loaded_names n words k) x
unfolding loaded_names
loaded_has n words zero i l x e = absurd (omega arith)
loaded_has n words (suc k) i l x e =
    ⊎_elim
    (λ same. Contains-append_right (loaded_names n words k)
    (names_in (value_at (word_at n words (root (k / n.roots) (k % n.roots))))) x
    (naming (value_at (word_at n words (root (k / n.roots) (k % n.roots)))) x
    (subst (λ (j : ℕ). value_at (word_at n words (root (j / n.roots) (j % n.roots))) ≡ Ref x) same e)))
    (λ ne. Contains-append_left (loaded_names n words k)
    (names_in (value_at (word_at n words (root (k / n.roots) (k % n.roots))))) x
    (loaded_has n words k i (omega arith) x e))
    (cases_eq i k)

root_number : (n : Numbers) (m q : ℕ) → Within n (root m q)
    → (m * n.roots + q < n.mutators * n.roots) × ((m * n.roots + q) / n.roots ≡ m) × ((m * n.roots + q) % n.roots ≡ q)
root_number n m q within = (
  row-below m n.roots q n.mutators within.0 within.1,
  div-mul-add m n.roots q within.1,
  mod-mul-add m n.roots q
      within.1,
)

pub snapshot_ready : (n : Numbers) (words : List ℕ) (facets : List PhaseFacet) → PhaseOrder n words facets
    → (seat cycle : ℕ) (pending : List Name)
    → slice_get facets seat ≡ Some (collecting (rooting cycle (n.mutators * n.roots)) pending)
    → IsReadyForSnapshot n words facets cycle pending
snapshot_ready n words facets o seat cycle pending here =
    let w = the_words n words facets o seat (rooting cycle (n.mutators * n.roots)) pending here in record {
      slots = w.slots tt;
      unladen = λ other s stage ended laden at.
          let st : ServerStands n words (rooting cycle (n.mutators * n.roots)) s stage ended laden =
          the_seats n words facets o seat (rooting cycle (n.mutators * n.roots)) pending here other
          (serving s stage ended laden) at in st.rests tt;
      unmarked = λ x m. let below = w.epochs x.entry m.in_range in let e = m.epoch in omega arith;
      roots = λ x m q within e. subst (λ (l : List Name). Contains l x) (sym w.pends)
          (let k = root_number n m q within in
          loaded_has n words (n.mutators * n.roots) (m * n.roots + q) k.0 x
          (ap (λ (i : ℕ). value_at (word_at n words (root i ((m * n.roots + q) % n.roots)))) k.1
          ∙ ap (λ (i : ℕ). value_at (word_at n words (root m i))) k.2 ∙ e));
      pends =
          λ x c. loaded_is n words (n.mutators * n.roots) (omega arith) x
          (subst (λ (l : List Name). Contains l x) w.pends c);
    }

-- ---- the end of a cycle

pub cycles_end : (n : Numbers) (words : List ℕ) (facets : List PhaseFacet) → PhaseOrder n words facets
    → (seat cycle : ℕ) (pending : List Name)
    → slice_get facets seat ≡ Some (collecting (evacuating cycle n.servers) pending)
    → (other s : ℕ) (stage : ServerStage) (ended : ℕ) (laden : Bool)
    → slice_get facets other ≡ Some (serving s stage ended laden) → ended ≡ cycle
cycles_end n words facets o seat cycle pending here other s stage ended laden at =
    let st : ServerStands n words (evacuating cycle n.servers) s stage ended laden =
    the_seats n words facets o seat (evacuating cycle n.servers) pending here other (serving s stage ended laden)
    at in
    st.fits.1 st.known

pub ended_cleared : (n : Numbers) (words : List ℕ) (facets : List PhaseFacet) (o : PhaseOrder n words facets)
    → (seat s : ℕ) (stage : ServerStage) (laden : Bool)
    → slice_get facets seat ≡ Some (serving s stage (cycle_during o.part) laden) → (t : ℕ) → Within n (leaving t)
    → server_of_tablet n t ≡ s → word_at n words (leaving t) ≡ 0
ended_cleared n words facets o seat s stage laden here t within own =
    let st : ServerStands n words o.part s stage (cycle_during o.part) laden =
    o.each seat (serving s stage (cycle_during o.part) laden) here in
    st.passed t within own (inl refl)
