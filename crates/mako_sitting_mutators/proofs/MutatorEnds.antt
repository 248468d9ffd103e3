-- Sizes, live counts and slots after the step of a mutator.
use Rattle.std.proofs.Common.{◌≡◌, ℕ, ◌⊎◌, List, ◌∷◌, ◌++◌, map, set, sym, ap, subst, refl, ◌∙◌}
use Rattle.std.specs.Prelude.{slice_get, Some}
use Rattle.std.proofs.lemmas.List.{append_assoc}
use Rattle.mako_words.specs.declared.phase_word.PhaseWord.{PhaseWord}
use Rattle.mako_words.specs.declared.phase_word.PhaseWord.TheVariants.{Idle, Trace, Evac, Stop}
use Rattle.mako_shape.specs.declared.numbers.Numbers.{Numbers}
use Rattle.mako_shape.specs.Places.{live, work, ghost}
use Rattle.mako_step.specs.Machines.{IsAct}
use Rattle.mako_model.specs.declared.point.Point.TheVariants.{Snap}
use Rattle.mako_model.specs.Legal.{Facts, IsLegal}
use Rattle.mako_names.specs.Tables.{phase_of}
use Rattle.mako_phases.specs.Lives.{LiveFacet, AreCounted}
use Rattle.mako_phases.specs.LiveSteps.{AgreeOnLives, Unseen}
use Rattle.mako_phases.specs.Snapshots.{before_snap}
use Rattle.mako_phases.proofs.LiveLaws.{past_stays}
use Rattle.mako_phases.proofs.Lives.{counts_kept}
use Rattle.mako_phases.proofs.Snapshots.{snapshots_one}
use Rattle.mako_mutator.specs.Drivers as drivers
use Rattle.mako_mutator.specs.Drivers.{Driving}
use Rattle.mako_joint.specs.Joints.{JointScene, TracksFit, trace_in}
use Rattle.mako_seat.specs.declared.seat.Seat.{Seat}
use Rattle.mako_seat.specs.declared.seat.Seat.TheVariants.{Mutator}
use Rattle.mako_state.proofs.Seating.{map_kept}
use Rattle.mako_mutating.specs.Mutators.{stepped}
use Rattle.mako_tracing.specs.ServerKeeps.{SlotsBelong, IsNameFor}
use Rattle.mako_sitting.specs.Seats.{AllSit, LivesFit, live_facet}
use Rattle.mako_sitting_mutators.specs.MutatorSteps.{mutator_next}
use Rattle.mako_sitting_mutators.proofs.MutatorBeside.{leaves, phase_left, goes_on, longer, legal, kept}
use Rattle.mako_sitting_mutators.proofs.MutatorMarks.{OldMarksAreLeft}

module _ (n : Numbers) (w : Facts) (s : JointScene) (seats : List Seat) (m : ℕ) (d : Driving)
    (all : AllSit n w s seats) (here : slice_get seats m ≡ Some (Mutator d)) (act : IsAct (drivers.next_of d)) where
  -- ---- slots

  pub slots_after : SlotsBelong n (stepped s m d).words
  slots_after = record {
    works = λ r k within.
        subst (λ x. (x ≡ 0) ⊎ IsNameFor n r x)
        (sym (leaves n w s seats m d all here act (work r k) within (λ x. x))) (all.slots.works r k within);
    ghosts = λ a r k within.
        subst (λ x. (x ≡ 0) ⊎ IsNameFor n r x)
        (sym (leaves n w s seats m d all here act (ghost a r k) within (λ x. x))) (all.slots.ghosts a r k within);
  }

  -- ---- live counts

  agree : AgreeOnLives n s.words (stepped s m d).words
  agree t within = leaves n w s seats m d all here act (live t) within (λ x. x)

  facets_same : map live_facet (set seats m (Mutator (mutator_next s d))) ≡ map live_facet seats
  facets_same = map_kept live_facet seats m (Mutator d) (Mutator (mutator_next s d)) here refl

  snap_same : (cycle : ℕ) → phase_of n s.words ≡ Trace cycle
      → before_snap cycle (stepped s m d).front.history ≡ before_snap cycle s.front.history
  snap_same cycle is =
      let t = (subst (λ p. TracksFit p n w (trace_in s)) is all.joint.tracks).tracing in
      let more = longer w m s.front.history (stepped s m d).front.history (goes_on n w s seats m d all here act) in
      let split : (stepped s m d).front.history ≡ t.before ++ Snap cycle ∷ (t.after ++ more.0) =
      more.1 ∙ ap (λ ps. ps ++ more.0) t.split ∙ append_assoc t.before (Snap cycle ∷ t.after) more.0 in
      ap (before_snap cycle) split
      ∙ snapshots_one w t.before (t.after ++ more.0) cycle
      (subst (IsLegal w) split (legal n w s seats m d all here act))
      ∙ sym (ap (before_snap cycle) t.split
      ∙ snapshots_one w t.before t.after cycle (subst (IsLegal w) t.split all.joint.names.hold.answers.lawful.legal))

  module _ (marks : OldMarksAreLeft n s m d) where
    counted : (cycle : ℕ) → phase_of n s.words ≡ Trace cycle → (lives : List LiveFacet)
        → AreCounted n w s.words lives (before_snap cycle s.front.history) cycle
        → AreCounted n w (stepped s m d).words lives (before_snap cycle (stepped s m d).front.history) cycle
    counted cycle is lives counts =
        subst (λ ps. AreCounted n w (stepped s m d).words lives ps cycle) (sym (snap_same cycle is))
        (counts_kept n w (before_snap cycle s.front.history) cycle (record { words = s.words; facets = lives })
        (record { words = (stepped s m d).words; facets = lives }) counts
        (Unseen (stepped s m d).words
        (record { size = (kept n w s seats m d all here act).step.0.names.hold.size; same = agree })
        (marks cycle is) refl))

    fit : (p : PhaseWord) → phase_of n s.words ≡ p → (lives : List LiveFacet)
        → LivesFit p n w s.words s.front.history lives
        → LivesFit p n w (stepped s m d).words (stepped s m d).front.history lives
    fit (Idle cycle) is lives past = past_stays n s.words (stepped s m d).words lives cycle past agree
    fit (Trace cycle) is lives counts = counted cycle is lives counts
    fit (Evac cycle) is lives past = past_stays n s.words (stepped s m d).words lives cycle past agree
    fit (Stop cycle) is lives past = past_stays n s.words (stepped s m d).words lives cycle past agree

    pub lives_after : LivesFit (phase_of n (stepped s m d).words) n w (stepped s m d).words
        (stepped s m d).front.history (map live_facet (set seats m (Mutator (mutator_next s d))))
    lives_after =
        subst (λ p. LivesFit p n w (stepped s m d).words (stepped s m d).front.history
        (map live_facet (set seats m (Mutator (mutator_next s d)))))
        (sym (phase_left n w s seats m d all here act))
        (subst (LivesFit (phase_of n s.words) n w (stepped s m d).words (stepped s m d).front.history)
        (sym facets_same) (fit (phase_of n s.words) refl (map live_facet seats) all.lives))
