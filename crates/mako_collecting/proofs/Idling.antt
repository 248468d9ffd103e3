-- The collector where no cycle runs, up to the first of the gates that it shuts.
use Rattle.std.proofs.Common.{◌≡◌, ◌≢◌, ℕ, ◌<◌, ◌≤◌, ◌^◌, ◌==◌, nat_lt, Bool, true, false, cond, List, set, sym, ap}
use Rattle.std.proofs.Common.{subst, refl, ◌∙◌, arith}
use Rattle.std.proofs.lemmas.Bool.Decides.{nat_tests}
use Rattle.mako_words.specs.declared.phase_word.PhaseWord.TheVariants.{Idle as IdlePhase, Stop}
use Rattle.mako_words.specs.Phases.{cycle_of, phase_word}
use Rattle.mako_words.proofs.PhaseWords.{phase_words}
use Rattle.mako_shape.specs.declared.numbers.Numbers.{Numbers}
use Rattle.mako_shape.specs.Places.{phase, demand, finished, index, word_at}
use Rattle.mako_gate.specs.GateActions as gate
use Rattle.mako_gate.specs.Standings.{rests}
use Rattle.mako_model.specs.Legal.{Facts}
use Rattle.mako_names.specs.Steps.{Stops}
use Rattle.mako_names.specs.Tables.{phase_of}
use Rattle.mako_names.proofs.StepsKept.{step_kept}
use Rattle.mako_names.proofs.Words.{phase_stored}
use Rattle.mako_layout.specs.Facets.{Choice, rests_with, chooses, has_chosen}
use Rattle.mako_layout.specs.Evacuations.{Evacuation}
use Rattle.mako_layout.specs.StepParts.{collector_seat}
use Rattle.mako_layout.specs.Steps.{store_phase}
use Rattle.mako_layout.proofs.EachStep.{each_step_keeps}
use Rattle.mako_phases.specs.Facets as phases
use Rattle.mako_phases.specs.Facets.{Part}
use Rattle.mako_phases.specs.Laws.{IsStaying}
use Rattle.mako_phases.specs.Steps as phase_steps
use Rattle.mako_phases.proofs.AllPhases.{phase_kept}
use Rattle.mako_phases.proofs.Parts.{cycles_fit, bound_cycle}
use Rattle.mako_phases.proofs.Says.{part_phase}
use Rattle.mako_joint.specs.Joints.{JointScene, names_in, trace_in, layout_in, phases_in, TracksFit, ChoiceFits, Joint}
use Rattle.mako_joint.proofs.Pauses.{gates_drain, by_part}
use Rattle.mako_pause.specs.Collecting.{Holdings, Collecting}
use Rattle.mako_pause.specs.declared.stage.Pause.TheVariants.{Snapshot}
use Rattle.mako_pause.specs.declared.stage.PauseStage.TheVariants.{Shutting}
use Rattle.mako_pause.specs.declared.stage.IdleStage.{IdleStage}
use Rattle.mako_pause.specs.declared.stage.IdleStage.TheVariants.{LoadingDemand, LookingFinished, StoringStop}
use Rattle.mako_pause.specs.declared.stage.CollectStage.TheVariants.{Idle, Pausing, Ended}
use Rattle.mako_collecting.specs.Facets.{part_of, names_of, gate_facet, IsCollector}
use Rattle.mako_collecting.specs.Steps.{with_collector, collector_next, stepped}
use Rattle.mako_collecting.proofs.Joined.{joined, drains_none}
use Rattle.mako_collecting.proofs.Stays.{tracks_as, layout_as, polls_as, polls_else, sets}
use Rattle.mako_collecting.proofs.Moves.{stays, loads, fits_now, owes_none, gate_moves, same_words}

-- ---- tests

-- a machine that a test chooses
pub either_way : (P : Collecting → Type 0) (b : Bool) (x y : Collecting) → (b ≡ true → P x) → (b ≡ false → P y)
    → P (cond b x y)
either_way P true x y f g = f refl
either_way P false x y f g = g refl

-- and anything else that one chooses
pub by_test : {A : Type 0} (P : A → Type 0) (b : Bool) (x y : A) → (b ≡ true → P x) → (b ≡ false → P y) → P (cond b x y)
by_test P true x y f g = f refl
by_test P false x y f g = g refl

pub is_below : (a b : ℕ) → nat_lt a b ≡ true → a < b
is_below a b e = grind (arith, nat_tests)

pub not_below : (a b : ℕ) → nat_lt a b ≡ false → b ≤ a
not_below a b e = grind (arith, nat_tests)

pub is_same : (a b : ℕ) → (a == b) ≡ true → a ≡ b
is_same a b e = grind (arith, nat_tests)

pub not_same : (a b : ℕ) → (a == b) ≡ false → a ≢ b
not_same a b e z = grind (arith, nat_tests)

-- ---- the choice

-- a choice that rests fits each part but those of the choice and of evacuation
pub rest_fits : (part : Part) (spare : List ℕ) → IsStaying part → ChoiceFits part (rests_with spare)
rest_fits (phases.idle c) spare is = tt
rest_fits (phases.pausing c) spare is = tt
rest_fits (phases.rooting c loaded) spare is = tt
rest_fits (phases.tracing c) spare is = tt
rest_fits (phases.stopped c) spare is = tt
rest_fits (phases.choosing c left) spare is = absurd is
rest_fits (phases.evacuating c ended) spare is = absurd is

pub choice_rests : (part : Part) (choice : Choice) → IsStaying part → ChoiceFits part choice
    → (spare : List ℕ) × (choice ≡ rests_with spare)
choice_rests part (rests_with spare) is fits = (spare, refl)
choice_rests (phases.idle c) (chooses debt given spare) is fits = absurd fits
choice_rests (phases.pausing c) (chooses debt given spare) is fits = absurd fits
choice_rests (phases.rooting c loaded) (chooses debt given spare) is fits = absurd fits
choice_rests (phases.tracing c) (chooses debt given spare) is fits = absurd fits
choice_rests (phases.stopped c) (chooses debt given spare) is fits = absurd fits
choice_rests (phases.choosing c left) (chooses debt given spare) is fits = absurd is
choice_rests (phases.evacuating c ended) (chooses debt given spare) is fits = absurd is
choice_rests (phases.idle c) (has_chosen given spare) is fits = absurd fits
choice_rests (phases.pausing c) (has_chosen given spare) is fits = absurd fits
choice_rests (phases.rooting c loaded) (has_chosen given spare) is fits = absurd fits
choice_rests (phases.tracing c) (has_chosen given spare) is fits = absurd fits
choice_rests (phases.stopped c) (has_chosen given spare) is fits = absurd fits
choice_rests (phases.choosing c left) (has_chosen given spare) is fits = absurd is
choice_rests (phases.evacuating c ended) (has_chosen given spare) is fits = absurd is

pub rest_stays : (part later : Part) (choice : Choice) → IsStaying part → IsStaying later → ChoiceFits part choice
    → ChoiceFits later choice
rest_stays part later choice is stays fits =
    let t = choice_rests part choice is fits in
    subst (ChoiceFits later) (sym t.1) (rest_fits later t.0 stays)

-- ---- the phase

-- the phase is that of the collector's part, whose cycle is one that there is
module _ (n : Numbers) (w : Facts) (s : JointScene) (j : Joint n w s) (c : Collecting) (at : IsCollector n s c) where
  pub phase_now : phase_of n s.words ≡ phases.phase_during (part_of n c)
  phase_now = part_phase n s.words s.facets.phases j.order (collector_seat n) (part_of n c) (names_of c) at.phase

  pub bound_now : phases.cycle_during (part_of n c) ≤ n.cycles
  bound_now =
      by_part n w s j (λ p. (phases.cycle_during p ≤ n.cycles) → phases.cycle_during (part_of n c) ≤ n.cycles)
      (collector_seat n) (part_of n c) (names_of c) at.phase (λ h. h)
      (bound_cycle n j.order.part j.order.words_stand.bound)

  pub small_now : phases.cycle_during (part_of n c) < 2 ^ 20
  small_now = let a = bound_now in let b = cycles_fit n j.script.shape in omega arith

-- ---- the stages

module _ (w : Facts) (k : Holdings) (s : JointScene) (j : Joint k.shape w s) where
  abbrev n : Numbers
  n = k.shape

  abbrev was : IdleStage → Collecting
  was stage = record { kept = k; stage = Idle stage }

  abbrev begun : Collecting
  begun = record { kept = k; stage = Pausing (Shutting Snapshot 0) }

  -- a cycle is asked for: the first gate is to be shut
  begins : (stage : IdleStage) → IsCollector n s (was stage) → k.cycle < word_at n s.words demand
      → Joint n w (with_collector n s s.words s.facets.choice begun)
  begins stage at asked =
      joined n w s s.words s.facets.choice (was stage) begun j at
      (record {
        names = j.names;
        tracks = tracks_as n w s (was stage) begun at s.words s.facets.choice refl j.tracks;
        layout = gate_moves n w s j (layout_in n w s) j.layout rests (gate_facet n begun) at.gate at.work
            (λ q. word_at n s.words q)
            (gate.pause_begins (collector_seat n) (collector_seat n) 0 (record {
              tablets = λ t l. refl;
              owns = λ m l. refl;
              turns = λ t l. refl;
            })) (same_words n (λ q. word_at n s.words q)) (drains_none n begun) (owes_none n w s j (was stage) at tt);
        polls = polls_as n w s (was stage) begun at s.words s.facets.choice refl j.polls;
        order = phase_kept n (phases_in s) (phases_in (with_collector n s s.words s.facets.choice begun)) j.order
            (gates_drain n w s j) (phase_steps.Begins (collector_seat n) k.cycle k.pending at.phase asked refl);
        choice_fits = rest_stays (phases.idle k.cycle) (phases.pausing k.cycle) s.facets.choice tt tt
            (fits_now n w s j (was stage) at);
      })

  demand_loaded : IsCollector n s (was LoadingDemand) → Joint n w (stepped n s (was LoadingDemand))
  demand_loaded at =
      loads n w s (index n demand) s.facets.choice (collector_next (was LoadingDemand) s.words)
      (either_way (λ c. Joint n w (with_collector n s s.words s.facets.choice c))
      (nat_lt k.cycle (word_at n s.words demand)) begun (was LookingFinished)
      (λ e. begins LoadingDemand at (is_below k.cycle (word_at n s.words demand) e))
      (λ e. stays n w s j (was LoadingDemand) at (was LookingFinished) refl refl refl refl))

  finished_looked : IsCollector n s (was LookingFinished) → Joint n w (stepped n s (was LookingFinished))
  finished_looked at =
      loads n w s (index n finished) s.facets.choice (collector_next (was LookingFinished) s.words)
      (either_way (λ c. Joint n w (with_collector n s s.words s.facets.choice c))
      (word_at n s.words finished == n.mutators) (was StoringStop) (was LoadingDemand)
      (λ e. stays n w s j (was LookingFinished) at (was StoringStop) refl refl refl refl)
      (λ e. stays n w s j (was LookingFinished) at (was LoadingDemand) refl refl refl refl))

  -- it stops the heap
  module _ (at : IsCollector n s (was StoringStop)) where
    abbrev ended : Collecting
    ended = record { kept = k; stage = Ended }

    abbrev us : List ℕ
    us = set s.words (index n phase) (phase_word (Stop k.cycle))

    small : k.cycle < 2 ^ 20
    small = small_now n w s j (was StoringStop) at

    idle_now : phase_of n s.words ≡ IdlePhase k.cycle
    idle_now = phase_now n w s j (was StoringStop) at

    stopped_layout : Evacuation n (layout_in n w (record s { words = us }))
    unfolding phase_of
    stopped_layout =
        each_step_keeps n j.script.shape (layout_in n w s) (collector_seat n) (layout_in n w (record s { words = us }))
        j.layout
        (store_phase (λ q. word_at n us q) (phase_word (Stop k.cycle))
        (sets n s.words phase (phase_word (Stop k.cycle)) j.names.hold.size tt)
        (ap cycle_of (phase_words.inverse (Stop k.cycle) small) ∙ sym (ap cycle_of idle_now)))

    pub stops : Joint n w (stepped n s (was StoringStop))
    stops =
        joined n w s us s.facets.choice (was StoringStop) ended j at
        (record {
          names = step_kept n w (names_in s) (record (names_in s) { words = us }) j.script.facts
              (Stops k.cycle idle_now) j.names;
          tracks = subst (λ p. TracksFit p n w (trace_in (with_collector n s us s.facets.choice ended)))
              (sym (phase_stored n s.words (Stop k.cycle) j.names.hold.size small)) tt;
          layout = layout_as n w s (was StoringStop) ended at us s.facets.choice refl stopped_layout;
          polls = polls_as n w s (was StoringStop) ended at us s.facets.choice refl
              (polls_else n w s j phase (phase_word (Stop k.cycle)) tt (λ is. is));
          order = phase_kept n (phases_in s) (phases_in (with_collector n s us s.facets.choice ended)) j.order
              (gates_drain n w s j) (phase_steps.Stops (collector_seat n) k.cycle k.pending at.phase refl);
          choice_fits = rest_stays (phases.idle k.cycle) (phases.stopped k.cycle) s.facets.choice tt tt
              (fits_now n w s j (was StoringStop) at);
        })

  pub idle_steps : (stage : IdleStage) → IsCollector n s (was stage) → Joint n w (stepped n s (was stage))
  idle_steps LoadingDemand at = demand_loaded at
  idle_steps LookingFinished at = finished_looked at
  idle_steps StoringStop at = stops at
