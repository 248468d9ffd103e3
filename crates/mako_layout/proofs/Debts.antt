-- What the views still owe: who stands at a tablet finds the collector settled; a writer that owes nothing finds the
-- top as it is read.
use Rattle.std.proofs.Common.{◌≡◌, ◌≢◌, ℕ, ◌+◌, ◌<◌, ◌≤◌, ◌==◌, inl, inr, set, slice_get, get_or, sum_by, Some, sym, ap}
use Rattle.std.proofs.Common.{◌∙◌, refl, subst, ne_eqb, arith}
use Rattle.std.proofs.lemmas.List.{length-set}
use Rattle.std.proofs.lemmas.Bool.{cases_eq, cases_lt}
use Rattle.std.proofs.lemmas.Option.{same_Some, slice_get_within, slice_get-get_or}
use Rattle.mako_shape.specs.declared.numbers.Numbers.{Numbers}
use Rattle.mako_shape.specs.Places.{Place, phase, entry, home, top, leaving, region_word}
use Rattle.mako_shape.specs.Belongings.{tablet_of_entry}
use Rattle.mako_shape.proofs.BelongingLaws.{belongings_in_range}
use Rattle.mako_words.specs.Phases.{phase_at, cycle_of}
use Rattle.mako_gate.specs.Sums.{counted}
use Rattle.mako_gate.specs.Changes.{tablets_of, Sets}
use Rattle.mako_gate.specs.Standings.{GateFacet, writes, admitted}
use Rattle.mako_gate.proofs.Lists.{sum_at, some_term}
use Rattle.mako_gate.proofs.Numbers.{holds_le}
use Rattle.mako_layout.specs.Layouts.{Layout, entries_of, regions_of}
use Rattle.mako_layout.specs.Facets.{stands, Work, raises, counts, settled, Paused, debt_of}
use Rattle.mako_layout.specs.Evacuations.{slot_of, home_read, top_read, to_raise, counted_in, layout_of, Knows, State}
use Rattle.mako_layout.specs.Evacuations.{layout, Evacuation}
use Rattle.mako_layout.proofs.Frames.{gates_frame, record_within, leaves_gates}
use Rattle.mako_layout.proofs.Stays.{stays_kept}
use Rattle.mako_layout.proofs.Works.{known}
use Rattle.mako_gate.proofs.GatesTell.{gates_tell}

pub counted_pos : (a b z : ℕ) → 0 < counted (a == b) z → a ≡ b
counted_pos a b z h = elim (cases_eq a b)
    [ inl e ↦ e | inr d ↦ absurd (let c = ap (λ q. counted q z) (ne_eqb a b d) in omega arith) ]

-- who owes a raise or has counted is a writer
raiser : (n : Numbers) (l : Layout) (W : Place → ℕ) (f : GateFacet) (t : ℕ) (v : Work) → 0 < to_raise n t v →
    Knows n l W f v → 1 ≤ writes t f
raiser n l W f t (raises x r o z) h k = subst (λ q. 1 ≤ writes q f) (counted_pos (tablet_of_entry n x) t z h) k.writer
raiser n l W f t w h k = absurd (omega arith)

counter : (n : Numbers) (l : Layout) (W : Place → ℕ) (f : GateFacet) (t : ℕ) (v : Work) → 0 < counted_in n t v →
    Knows n l W f v → 1 ≤ writes t f
counter n l W f t (counts name r o z) h k = subst (λ q. 1 ≤ writes q f)
    (counted_pos (tablet_of_entry n name.entry) t z h) (let c = k.makes.turn in omega arith)
counter n l W f t w h k = absurd (omega arith)

module _ (n : Numbers) (s : State) (e : Evacuation n s) where
  -- a seat with work has a gate facet
  gate_at : (d : GateFacet) (j : ℕ) (v : Work) → slice_get s.works j ≡ Some v →
      (f : GateFacet) × (slice_get s.gates j ≡ Some f)
  gate_at d j v at =
      (get_or s.gates j d, slice_get-get_or s.gates j d (omega (arith, slice_get_within s.works j v at, e.seats)))

  -- with no writer, nothing is owed or counted
  pub none_owed : (t : ℕ) → (d : GateFacet) →
      ((j : ℕ) (f : GateFacet) (v : Work) → slice_get s.gates j ≡ Some f → slice_get s.works j ≡ Some v →
      1 ≤ writes t f →
      (to_raise n t v ≡ 0) × (counted_in n t v ≡ 0)) →
      (sum_by (to_raise n t) s.works ≡ 0) × (sum_by (counted_in n t) s.works ≡ 0)
  none_owed t d none = (
    elim (cases_lt 0 (sum_by (to_raise n t) s.works)) [
      | inl l ↦ (let m = some_term (to_raise n t) s.works l in let f = gate_at d m.0 m.1 m.2 in
          let z = (none m.0 f.0 m.1 f.1 m.2
          (raiser n (layout n s) s.words f.0 t m.1 m.3 (e.knows m.0 f.0 m.1 f.1 m.2))).0 in
          absurd (let p = m.3 in omega arith))
      | inr z ↦ omega arith
    ],
    elim (cases_lt 0 (sum_by (counted_in n t) s.works)) [
      | inl l ↦ (let m = some_term (counted_in n t) s.works l in let f = gate_at d m.0 m.1 m.2 in
          let z = (none m.0 f.0 m.1 f.1 m.2
          (counter n (layout n s) s.words f.0 t m.1 m.3 (e.knows m.0 f.0 m.1 f.1 m.2))).1 in
          absurd (let p = m.3 in omega arith))
      | inr z ↦ omega arith
    ],
  )

-- in a pause no mutator is admitted anywhere
pub nobody_there : (n : Numbers) (s : State) (e : Evacuation n s) (p : Paused n s.gates) (j : ℕ) (f : GateFacet) →
    slice_get s.gates j ≡ Some f → (t : ℕ) → admitted t f.standing ≡ 0
nobody_there n s e p j f at t =
    let g = gates_tell n s.words s.gates e.gates in
    omega (
      arith,
      g.drained.all_empty (n.mutators + n.servers) j p.collector f p.here p.drained at,
      g.turns.admitted_within t f.standing,
    )

module _ (n : Numbers) (s : State) (e : Evacuation n s) (i : ℕ) (g : GateFacet) (at_g : slice_get s.gates i ≡ Some g)
  where
    -- while a view stands at a tablet the collector owes nothing
    pub collector_settled : (t : ℕ) → 1 ≤ stands t g → debt_of s.choice ≡ settled
    collector_settled t one = elim e.pause [
      | inl d ↦ d
      | inr p ↦ absurd (let a = nobody_there n s e p i g at_g t in let b = p.servers i t g at_g in omega arith)
    ]

    writer_settled : (t : ℕ) → 1 ≤ writes t g → debt_of s.choice ≡ settled
    writer_settled t one = collector_settled t (omega (arith, holds_le t g.standing))

    pub home_is : (t : ℕ) → 1 ≤ stands t g → (layout n s).home t ≡ s.words (home t)
    home_is t one = ap (λ d. home_read d t (s.words (home t))) (collector_settled t one)

    pub top_is : (t w : ℕ) → 1 ≤ writes t g → top_read (debt_of s.choice) t w ≡ w
    top_is t w one = ap (λ d. top_read d t w) (writer_settled t one)

    module _ (w : Work) (at_w : slice_get s.works i ≡ Some w) where
      -- beside a writer that owes nothing, nobody owes anything in the tablet
      pub no_debts : (t : ℕ) → t < tablets_of n → 1 ≤ writes t g → to_raise n t w ≡ 0 → counted_in n t w ≡ 0 →
          (sum_by (to_raise n t) s.works ≡ 0) × (sum_by (counted_in n t) s.works ≡ 0)
      no_debts t h writing a b = none_owed n s e t g (λ j f v at_f at_v one. elim (cases_eq j i) [
        | inl c ↦ (let same : w ≡ v = same_Some w v (sym at_w ∙ ap (slice_get s.works) (sym c) ∙ at_v) in
            (ap (to_raise n t) (sym same) ∙ a, ap (counted_in n t) (sym same) ∙ b))
        | inr d ↦
            absurd (let z = (gates_tell n s.words s.gates e.gates).writers.one t i j g f h (λ c. d (sym c)) at_g at_f
            writing in omega arith)
      ])

      -- so the words in use are the top word
      pub filled_is : (t : ℕ) → t < tablets_of n → 1 ≤ writes t g → to_raise n t w ≡ 0 → counted_in n t w ≡ 0 →
          (layout n s).filled t ≡ s.words (top t)
      filled_is t h writing a b = let z = no_debts t h writing a b in
          omega (arith, z.0, z.1, top_is t (s.words (top t)) writing)

      -- the top is raised, and what is owed or counted makes up for it
      pub top_kept : (V : Place → ℕ) (u : Work) (x v : ℕ) → x < entries_of n → 1 ≤ writes (tablet_of_entry n x) g →
          Sets n s.words V (top (tablet_of_entry n x)) v →
          ((t : ℕ) → t < tablets_of n → V (top t) + to_raise n t u + counted_in n t w ≡ s.words (top t) + to_raise n t
          w + counted_in n t u) →
          ((t : ℕ) → t ≢ tablet_of_entry n x →
          (to_raise n t u ≡ to_raise n t w) × (counted_in n t u ≡ counted_in n t w)) →
          Knows n (layout n s) V g u →
          Evacuation n (record s { words = V; works = set s.works i u })
      top_kept V u x v inside writing sets balance elsewhere own =
          let t0 : ℕ = tablet_of_entry n x in
          let t0_in : t0 < tablets_of n = belongings_in_range.entry n x inside in
          let other_top : (t : ℕ) → t < tablets_of n → t ≢ t0 → V (top t) ≡ s.words (top t) = λ t h d. sets.others
          (top t) h (λ c. d (let b : t ≡ t0 = cc in b)) in
          let regions : (r a : ℕ) → r < regions_of n → a < n.words → V (region_word r a) ≡ s.words (region_word r a) =
          λ r a h k. sets.others (region_word r a) (h, k) (λ c. cc) in
          let entries : (y : ℕ) → y < entries_of n → V (entry y) ≡ s.words (entry y) = λ y h. sets.others (entry y) h
          (λ c. cc) in
          let after : Layout = layout_of n V s.heap (set s.works i u) s.choice s.made in
          let both : (t : ℕ) → t < tablets_of n → (after.filled t ≡ (layout n s).filled t)
          × (sum_by (counted_in n t) (set s.works i u) ≤ top_read (debt_of s.choice) t (V (top t))
          + sum_by (to_raise n t) (set s.works i u)) = λ t h.
          let a = sum_at (to_raise n t) s.works i w u at_w in
          let b = sum_at (counted_in n t) s.works i w u at_w in
          let c = balance t h in
          let p = e.even t h in
          elim (cases_eq t t0) [
            | inl same ↦
                (let one = subst (λ q. 1 ≤ writes q g) (sym same) writing in
                let now = top_is t (V (top t)) one in
                let was = top_is t (s.words (top t)) one in
                (omega arith, omega arith))
            | inr d ↦
                (let stays = ap (top_read (debt_of s.choice) t) (other_top t h d) in
                let raise = (elsewhere t d).0 in
                let count = (elsewhere t d).1 in
                (omega arith, omega arith))
          ] in
          stays_kept n s e V s.gates (set s.works i u) (length-set s.works i u ∙ e.seats)
          (gates_frame n s.words V s.gates (leaves_gates n s.words V _ _ sets tt) e.gates)
          (record {
            cycle = ap (λ q. cycle_of (phase_at q)) (sets.others phase tt (λ c. cc));
            slots = λ y h. ap (slot_of n s.heap y) (entries y h);
            homes = λ t h. ap (home_read (debt_of s.choice) t) (sets.others (home t) h (λ c. cc));
            filleds = λ t h. (both t h).0;
            leavings = λ t h. sets.others (leaving t) h (λ c. cc);
            givens = λ t h. refl;
            spares = λ r h. refl;
            mades = λ _ _. refl;
          })
          entries e.pause (λ t h. (both t h).1)
          (λ y r a h holds. let q = record_within n (layout n s) e.copy y r a h holds in regions r a q.0 q.1)
          e.passed
          (known n s e i g w at_g at_w V u own
          (λ j f t d at h other. other_top t h
          (λ same. let z = (gates_tell n s.words s.gates e.gates).writers.one t0 i j g f t0_in (λ c. d (sym c)) at_g
          at writing in
          let y : 1 ≤ writes t0 f = subst (λ c. 1 ≤ writes c f) same other in omega arith))
          (λ j f t d at h other a low high. regions ((layout n s).home t) a (e.copy.home_in t h) high))
