-- The step of a mutator leaves taken entries their generation and epoch, and marks no name from before the snapshot.
use Rattle.std.proofs.Common.{◌≡◌, ℕ, Contains, ◌∷◌, List, Some, sym, ap, subst, ◌∙◌}
use Rattle.std.specs.Prelude.{slice_get}
use Rattle.mako_words.specs.declared.name.Name.{Name}
use Rattle.mako_words.specs.declared.phase_word.PhaseWord.TheVariants.{Trace}
use Rattle.mako_shape.specs.declared.numbers.Numbers.{Numbers}
use Rattle.mako_step.specs.Machines.{IsAct}
use Rattle.mako_model.specs.Dead.{names_made}
use Rattle.mako_model.specs.Legal.{Facts, IsLegal}
use Rattle.mako_model.specs.declared.point.Point.TheVariants.{Snap}
use Rattle.mako_model.proofs.Histories.{made_stays}
use Rattle.mako_names.specs.Tables.{phase_of}
use Rattle.mako_phases.specs.Snapshots.{before_snap}
use Rattle.mako_phases.proofs.Snapshots.{snapshots_one}
use Rattle.mako_mutator.specs.Drivers as drivers
use Rattle.mako_mutator.specs.Drivers.{Driving}
use Rattle.mako_joint.specs.Joints.{JointScene, TracksFit, trace_in}
use Rattle.mako_seat.specs.declared.seat.Seat.{Seat}
use Rattle.mako_seat.specs.declared.seat.Seat.TheVariants.{Mutator}
use Rattle.mako_mutating.specs.Mutators.{stepped}
use Rattle.mako_sitting.specs.Seats.{AllSit}
use Rattle.mako_sitting_mutators.proofs.MutatorEntries.{entries_change}
use Rattle.mako_sitting_mutators.proofs.MutatorMarks.{TakenEntriesStay, OldMarksAreLeft, taken_stays, marks_stay}

module _ (n : Numbers) (w : Facts) (s : JointScene) (seats : List Seat) (m : ℕ) (d : Driving)
    (all : AllSit n w s seats) (here : slice_get seats m ≡ Some (Mutator d)) (act : IsAct (drivers.next_of d)) where
  pub taken_left : TakenEntriesStay n s m d
  taken_left =
      taken_stays n s.front.history s.words all.joint.names.hold.size (stepped s m d).words
      (entries_change n w s seats m d all here act)

  -- what was made before the snapshot is made
  made_by_now : (cycle : ℕ) → phase_of n s.words ≡ Trace cycle → (x : Name)
      → Contains (names_made (before_snap cycle s.front.history)) x → Contains (names_made s.front.history) x
  made_by_now cycle is x made =
      let t = (subst (λ p. TracksFit p n w (trace_in s)) is all.joint.tracks).tracing in
      let before : before_snap cycle s.front.history ≡ t.before =
      ap (before_snap cycle) t.split
      ∙ snapshots_one w t.before t.after cycle (subst (IsLegal w) t.split all.joint.names.hold.answers.lawful.legal) in
      subst (λ ps. Contains (names_made ps) x) (sym t.split)
      (made_stays t.before (Snap cycle ∷ t.after) x (subst (λ ps. Contains (names_made ps) x) before made))

  pub marks_left : OldMarksAreLeft n s m d
  marks_left cycle is =
      marks_stay n s.front.history s.words all.joint.names.hold.size (stepped s m d).words
      (entries_change n w s seats m d all here act) (before_snap cycle s.front.history) cycle (made_by_now cycle is)
