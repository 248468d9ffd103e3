-- Marks, epochs and names in use.
use Rattle.std.proofs.Common.{◌≡◌, ◌≢◌, ℕ, ⊎_elim, Bool, true, sym, ap, subst, ◌∙◌}
use Rattle.std.proofs.lemmas.Bool.{cases_eq}
use Rattle.mako_words.specs.declared.name.Name.{Name}
use Rattle.mako_words.specs.declared.phase_word.PhaseWord.{PhaseWord}
use Rattle.mako_words.specs.Phases.{cycle_of}
use Rattle.mako_shape.specs.declared.numbers.Numbers.{Numbers}
use Rattle.mako_shape.specs.Places.{entry, Within}
use Rattle.mako_model.specs.Dead.{IsDead}
use Rattle.mako_model.specs.Legal.{Facts, state_of}
use Rattle.mako_names.specs.Counts.{name_of}
use Rattle.mako_names.specs.Freeing.{EpochsStand, EpochsFit}
use Rattle.mako_names.specs.Tables.{IsTaken, entry_of}
use Rattle.mako_names.proofs.Telling.{held_names_are_taken}
use Rattle.mako_shades.specs.Laws.{TracksIn}
use Rattle.mako_shades.proofs.ForNames.{complete_marks_all}
use Rattle.mako_joint.specs.Joints.{JointScene, names_in, trace_in, TracksFit, HasName, Joint}
use Rattle.mako_joint.specs.Bridges.{AllAreMarked, HeldAreTaken, HeldHaveTheEpoch, NoneReadsTheFreed}

pub all_marked : AllAreMarked
all_marked n w s cycle admitted j is complete =
    let tracks : TracksIn n w cycle (trace_in s) = subst (λ p. TracksFit p n w (trace_in s)) is j.tracks in
    complete_marks_all n w s.words s.facets.trace s.front.history cycle tracks.tracing
    j.names.hold.answers.lawful.legal admitted complete

-- the name is that of its entry
held_is_taken : (n : Numbers) (w : Facts) (s : JointScene) (seat x : ℕ) → Joint n w s
    → (has : HasName s.facets.names.held seat x) → IsTaken n s.words has.name.entry has.name.generation
held_is_taken n w s seat x j has =
    held_names_are_taken n w (names_in s) seat has.names has.name j.script.facts j.names has.at has.among

pub held_are_taken : HeldAreTaken
held_are_taken n w s seat x j has =
    subst (λ y. (entry_of n s.words y).taken ≡ true) has.of_entry (held_is_taken n w s seat x j has).taken

pub held_have_epoch : HeldHaveTheEpoch
held_have_epoch n w s cycle seat x j evac has =
    let hold = j.names.hold in
    let good = hold.uses.held seat has.names has.name has.at has.among in
    let is = held_is_taken n w s seat x j has in
    let marks : EpochsStand n s.words w s.front.history cycle =
    subst (λ p. EpochsFit p n s.words w s.front.history) evac hold.epochs in
    let mark = marks has.name.entry is.within is.taken in
    let now : cycle ≡ (state_of w s.front.history).snaps = sym (ap cycle_of evac) ∙ hold.table.cycle in
    subst (λ y. (entry_of n s.words y).epoch ≡ cycle) has.of_entry
    (⊎_elim (λ e. e)
    (λ other. absurd (good.kept (subst (λ k. IsDead w s.front.history k has.name) now
    (subst (λ g. IsDead w s.front.history cycle (name_of has.name.entry g)) is.generation (mark.dead other)))))
    (cases_eq (entry_of n s.words has.name.entry).epoch cycle))

pub none_reads : NoneReadsTheFreed
none_reads n w s cycle x j evac other seat v at reading same =
    other (held_have_epoch n w s cycle seat x j evac
    (subst (HasName s.facets.names.held seat) same (j.reads seat v at reading)))

pub held_within : (n : Numbers) (w : Facts) (s : JointScene) (seat x : ℕ) → Joint n w s
    → HasName s.facets.names.held seat x → Within n (entry x)
held_within n w s seat x j has =
    subst (λ y. Within n (entry y)) has.of_entry (held_is_taken n w s seat x j has).within
