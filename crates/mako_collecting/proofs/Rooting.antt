-- The collector loads the roots of all mutators.
use Rattle.std.proofs.Common.{◌≡◌, ℕ, ◌+◌, ◌*◌, ◌%◌, ◌<◌, ◌≤◌, nat_lt, List, ◌++◌, sym, ap, subst, refl, ◌∙◌, arith}
use Rattle.std.proofs.Common.{add-mul}
use Rattle.std.proofs.lemmas.Nat.{div-mul-add, mod-mul-add}
use Rattle.mako_words.specs.declared.name.Name.{Name}
use Rattle.mako_words.specs.declared.value.Value.{Value}
use Rattle.mako_words.specs.declared.value.Value.TheVariants.{Null, Num, Ref}
use Rattle.mako_words.specs.Values.{value_at}
use Rattle.mako_shape.specs.declared.numbers.Numbers.{Numbers}
use Rattle.mako_shape.specs.Places.{root, index, word_at}
use Rattle.mako_shape.proofs.Rows.{row-below}
use Rattle.mako_model.specs.Legal.{Facts}
use Rattle.mako_poll.specs.Steps.{CollectorStep, Leaves}
use Rattle.mako_poll.specs.Worlds.{away, collecting_of}
use Rattle.mako_layout.specs.StepParts.{collector_seat}
use Rattle.mako_phases.specs.Facets as phases
use Rattle.mako_phases.specs.Orders.{names_in, root_names}
use Rattle.mako_phases.specs.Steps as phase_steps
use Rattle.mako_phases.specs.Steps.{PhaseOrderIn}
use Rattle.mako_phases.proofs.AllPhases.{phase_kept}
use Rattle.mako_joint.specs.Joints.{JointScene, trace_in, phases_in, TracksFit, ChoiceFits, Joint}
use Rattle.mako_joint.proofs.Pauses.{gates_drain}
use Rattle.mako_pause.specs.Collecting.{Holdings, Collecting, window_of, after_root, names_of as names_loaded}
use Rattle.mako_pause.specs.declared.stage.PauseStage.{PauseStage}
use Rattle.mako_pause.specs.declared.stage.PauseStage.TheVariants.{LoadingRoot, StoringTrace}
use Rattle.mako_pause.specs.declared.stage.CollectStage.TheVariants.{Pausing}
use Rattle.mako_collecting.specs.Facets.{names_of, part_of, watch_of, all_drained, ring_facet, IsCollector}
use Rattle.mako_collecting.specs.Steps.{with_collector, stepped}
use Rattle.mako_collecting.proofs.Joined.{joined}
use Rattle.mako_collecting.proofs.Stays.{layout_as, polls_by}
use Rattle.mako_collecting.proofs.Moves.{loads, fits_now}
use Rattle.mako_collecting.proofs.Idling.{by_test, not_below, rest_stays, phase_now}

same_names : (v : Value) → names_in v ≡ names_loaded v
same_names (Ref x) = refl
same_names (Num x) = refl
same_names Null = refl

-- ---- past a root

-- so many roots are loaded
pub record IsPast (n : Numbers) (k : Holdings) (loaded : ℕ) (c : Collecting) : Type 0 where
  pub names : names_of c ≡ k.pending
  pub part : part_of n c ≡ phases.rooting k.cycle loaded
  pub watch : watch_of n c ≡ all_drained n
  pub rings : ring_facet n c ≡ collecting_of n (record { pending = k.pending; window = window_of k; stage = away })

module _ (n : Numbers) (k : Holdings) (m q : ℕ) where
  abbrev Past : PauseStage → Type 0
  Past stage = IsPast n k (m * n.roots + q + 1) (record { kept = k; stage = Pausing stage })

  at_root : (p l : ℕ) → p * n.roots + l ≡ m * n.roots + q + 1 → Past (LoadingRoot p l)
  at_root p l e = record { names = refl; part = λ i. phases.rooting k.cycle (e i); watch = refl; rings = refl }

  next_row : q < n.roots → n.roots ≤ q + 1 → (m + 1) * n.roots ≡ m * n.roots + q + 1
  next_row low last =
      let e : (m + 1) * n.roots ≡ m * n.roots + 1 * n.roots = add-mul m 1 n.roots in omega arith

  all_loaded : q < n.roots → n.roots ≤ q + 1 → m < n.mutators → n.mutators ≤ m + 1 → Past StoringTrace
  all_loaded low last inside over =
      let all : m + 1 ≡ n.mutators = omega arith in
      let e : n.mutators * n.roots ≡ m * n.roots + q + 1 =
      subst (λ (x : ℕ). x * n.roots ≡ m * n.roots + q + 1) all (next_row low last) in
      record { names = refl; part = λ i. phases.rooting k.cycle (e i); watch = refl; rings = refl }

pub past_root : (k kept : Holdings) (m q : ℕ) → k.shape ≡ kept.shape → m < k.shape.mutators → q < k.shape.roots
    → IsPast k.shape kept (m * k.shape.roots + q + 1) (record { kept = kept; stage = Pausing (after_root k m q) })
past_root k kept m q same inside low =
    let n : Numbers = k.shape in
    by_test (λ (stage : PauseStage). IsPast n kept (m * n.roots + q + 1) (record {
      kept = kept;
      stage = Pausing stage;
    }))
    (nat_lt (q + 1) n.roots) (LoadingRoot m (q + 1)) _ (λ e. at_root n kept m q m (q + 1) (omega arith))
    (λ e. by_test
    (λ (stage : PauseStage). IsPast n kept (m * n.roots + q + 1) (record { kept = kept; stage = Pausing stage }))
    (nat_lt (m + 1) n.mutators) (LoadingRoot (m + 1) 0) StoringTrace
    (λ a. at_root n kept m q (m + 1) 0
    (let r = next_row n kept m q low (not_below (q + 1) n.roots e) in omega arith))
    (λ a. all_loaded n kept m q low (not_below (q + 1) n.roots e) inside (not_below (m + 1) n.mutators a)))

-- ---- the load

module _ (w : Facts) (k : Holdings) (s : JointScene) (j : Joint k.shape w s) (m q : ℕ) (inside : m < k.shape.mutators)
    (low : q < k.shape.roots)
    (at : IsCollector k.shape s (record { kept = k; stage = Pausing (LoadingRoot m q) })) where
  abbrev n : Numbers
  n = k.shape

  abbrev old : Collecting
  old = record { kept = k; stage = Pausing (LoadingRoot m q) }

  abbrev kept : Holdings
  kept = record k { pending = k.pending ++ names_loaded (value_at (word_at n s.words (root m q))) }

  abbrev c : Collecting
  c = record { kept = kept; stage = Pausing (after_root k m q) }

  abbrev loaded : ℕ
  loaded = m * n.roots + q

  is : IsPast n kept (m * n.roots + q + 1) c
  is = past_root k kept m q refl inside low

  names_there : root_names n s.words loaded ≡ names_loaded (value_at (word_at n s.words (root m q)))
  names_there =
      ap (λ (i : ℕ). names_in (value_at (word_at n s.words (root i (loaded % n.roots))))) (div-mul-add m n.roots q low)
      ∙ ap (λ (i : ℕ). names_in (value_at (word_at n s.words (root m i)))) (mod-mul-add m n.roots q low)
      ∙ same_names (value_at (word_at n s.words (root m q)))

  order : PhaseOrderIn n (phases_in (with_collector n s s.words s.facets.choice c))
  order =
      subst (λ x. PhaseOrderIn n (phase_steps.with_facet (phases_in s) (collector_seat n) x))
      (λ i. phases.collecting (sym is.part i) (sym names_now i))
      (phase_kept n (phases_in s) (phase_steps.with_facet (phases_in s) (collector_seat n)
      (phases.collecting (phases.rooting k.cycle (loaded + 1)) (k.pending ++ root_names n s.words loaded))) j.order
      (gates_drain n w s j)
      (phase_steps.LoadsRoot (collector_seat n) k.cycle loaded k.pending at.phase
      (row-below m n.roots q n.mutators inside low) refl))
    where
      names_now : names_of c ≡ k.pending ++ root_names n s.words loaded
      names_now = is.names ∙ ap (λ (xs : List Name). k.pending ++ xs) (sym names_there)

  root_kept : Joint n w (with_collector n s s.words s.facets.choice c)
  root_kept =
      joined n w s s.words s.facets.choice old c j at
      (record {
        names = j.names;
        tracks = subst (λ p. TracksFit p n w (trace_in (with_collector n s s.words s.facets.choice c)))
            (sym (phase_now n w s j old at)) tt;
        layout = layout_as n w s old c at s.words s.facets.choice is.watch j.layout;
        polls = polls_by n w s old c at s.words s.facets.choice j.polls
            (subst (λ x. CollectorStep n (λ p. word_at n s.words p) (λ p. word_at n s.words p) (ring_facet n old) x)
            (sym is.rings) (Leaves (λ p polled within. refl) (λ r l. refl) refl));
        order = order;
        choice_fits = subst (λ p. ChoiceFits p s.facets.choice) (sym is.part)
            (rest_stays (phases.rooting k.cycle loaded) (phases.rooting k.cycle (loaded + 1)) s.facets.choice tt tt
            (fits_now n w s j old at));
      })

  pub root_loaded : Joint n w (stepped n s old)
  root_loaded = loads n w s (index n (root m q)) s.facets.choice c root_kept
