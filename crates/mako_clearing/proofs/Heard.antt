-- The groups put together where the collector goes on with the notices.
use Rattle.std.proofs.Common.{◌≡◌, ℕ, inl, inr, ⊎_elim, List, set, slice_get, Some, sym, ap, subst, ◌∙◌}
use Rattle.std.proofs.lemmas.Option.{same_Some}
use Rattle.mako_words.specs.declared.name.Name.{Name}
use Rattle.mako_words.specs.declared.phase_word.PhaseWord.TheVariants.{Evac}
use Rattle.mako_shape.specs.declared.numbers.Numbers.{Numbers}
use Rattle.mako_shape.specs.Places.{word_at}
use Rattle.mako_model.specs.Legal.{Facts}
use Rattle.mako_model.proofs.Lists.{get_set_other, get_set_cases}
use Rattle.mako_names.specs.Going.{NamesHold}
use Rattle.mako_names.specs.Notices.{Gathering}
use Rattle.mako_names.specs.Tables.{phase_of}
use Rattle.mako_ring.specs.Polling.{PollingStands}
use Rattle.mako_layout.specs.Evacuations.{Evacuation as Layout}
use Rattle.mako_layout.specs.Facets.{Choice, rests_with, chooses, has_chosen}
use Rattle.mako_layout.specs.StepParts.{collector_seat}
use Rattle.mako_phases.specs.Facets.{Part, evacuating, IsInPause, PhaseFacet, mutating, collecting}
use Rattle.mako_phases.specs.Orders.{PhaseOrder}
use Rattle.mako_phases.proofs.Says.{part_phase}
use Rattle.mako_joint.specs.Joints.{JointScene, layout_in, polls_in, TracksFit, IsClearing, GatesMatch, ChoiceFits}
use Rattle.mako_joint.specs.Joints.{Joint}

evac_choice : (c d told heard : ℕ) (k : Choice) → ChoiceFits (evacuating c told) k → ChoiceFits (evacuating d heard) k
evac_choice c d told heard (rests_with spare) fits = absurd fits
evac_choice c d told heard (chooses debt given spare) fits = absurd fits
evac_choice c d told heard (has_chosen given spare) fits = tt

module _ (n : Numbers) (w : Facts) (s : JointScene) (j : Joint n w s) (cycle told : ℕ) (pending : List Name)
    (here : slice_get s.facets.phases (collector_seat n) ≡ Some (collecting (evacuating cycle told) pending)) where
  pub evac_here : phase_of n s.words ≡ Evac cycle
  evac_here = part_phase n s.words s.facets.phases j.order (collector_seat n) (evacuating cycle told) pending here

  module _ (p : Part) where
    abbrev pub after_phases : List PhaseFacet
    after_phases = set s.facets.phases (collector_seat n) (collecting p pending)

    old_facet : (i : ℕ) (g : PhaseFacet) → slice_get after_phases i ≡ Some g → (collecting p pending ≡ g → ⊥)
        → slice_get s.facets.phases i ≡ Some g
    old_facet i g is none =
        ⊎_elim (λ t. absurd (none t.1)) (λ t. t.1)
        (get_set_cases s.facets.phases (collector_seat n) i (collecting p pending) g is)

    clears_kept : (i : ℕ) → IsClearing s.facets.phases i → IsClearing after_phases i
    clears_kept i c = record {
      server = c.server;
      cycle = c.cycle;
      tablet = c.tablet;
      at = c.at;
      ended = c.ended;
      laden = c.laden;
      is = get_set_other s.facets.phases (collector_seat n) i (collecting p pending) (λ e.
          let d = same_Some _ _ (sym c.is ∙ ap (slice_get s.facets.phases) e ∙ here) in cc) ∙ c.is;
    }

    pub gates_match : (IsInPause p → ⊥) → GatesMatch n after_phases s.facets.gates
    gates_match none = record {
      mutators = λ i a is. j.gates.mutators i a (old_facet i (mutating a) is (λ e. cc));
      collector = λ i part names is paused.
          ⊎_elim
          (λ t. let e : p ≡ part = part_same t.1 in absurd (none (subst IsInPause (sym e) paused)))
          (λ t. j.gates.collector i part names t.1 paused)
          (get_set_cases s.facets.phases (collector_seat n) i (collecting p pending) (collecting part names) is);
      servers = λ i t g is. ⊎_elim (λ z. inl z) (λ c. inr (clears_kept i c)) (j.gates.servers i t g is);
    }
      where
        part_same : {q r : Part} {xs ys : List Name} → collecting q xs ≡ collecting r ys → q ≡ r
        part_same e = cc

  -- ---- the groups together, where a word is another and the collector goes on

  abbrev pub heard_names : List ℕ → Gathering → (server : ℕ) → List Name → Type 0
  heard_names us g server left =
      NamesHold n w us s.front
      (record s.facets.names { sent = set s.facets.names.sent server left; collector = g })

  pub joined_hearing : (us : List ℕ) (heard : ℕ) (g : Gathering) (server : ℕ) (left : List Name)
      → heard_names us g server left
      → Layout n (record (layout_in n w s) { words = λ q. word_at n us q })
      → PollingStands n (polls_in n (record s { words = us }))
      → PhaseOrder n us (after_phases (evacuating cycle heard)) → phase_of n us ≡ Evac cycle
      → Joint n w (record s {
        words = us;
        facets = record s.facets {
          names = record s.facets.names { sent = set s.facets.names.sent server left; collector = g };
          phases = after_phases (evacuating cycle heard);
        };
      })
  joined_hearing us heard g server left names layout polls order evac = record {
    script = j.script;
    names = names;
    tracks = subst (λ p. TracksFit p n w (record { words = us; facets = s.facets.trace; history = s.front.history }))
        (sym evac) tt;
    layout = layout;
    polls = polls;
    order = order;
    reads = j.reads;
    gates = gates_match (evacuating cycle heard) (λ f. f);
    choice = λ i part names' is.
        ⊎_elim
        (λ t. subst (λ q. ChoiceFits q s.facets.choice) (part_is t.1)
        (evac_choice cycle cycle told heard s.facets.choice
        (j.choice (collector_seat n) (evacuating cycle told) pending here)))
        (λ t. j.choice i part names' t.1)
        (get_set_cases s.facets.phases (collector_seat n) i (collecting (evacuating cycle heard) pending)
        (collecting part names') is);
  }
    where
      part_is : {q r : Part} {xs ys : List Name} → collecting q xs ≡ collecting r ys → q ≡ r
      part_is e = cc
