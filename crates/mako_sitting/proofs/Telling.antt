-- What the seats of a state tell follows from the groups, and from what each mutator keeps.
use Rattle.std.proofs.Common.{◌≡◌, ℕ, zero, suc, ◌+◌, ◌<◌, ◌≤◌, ◌⊎◌, inl, inr, List, [], ◌∷◌, ◌++◌, drop, length}
use Rattle.std.proofs.Common.{slice_get, get_or, Some, None, sym, ap, subst, refl, ◌∙◌, arith, append-nil}
use Rattle.std.proofs.lemmas.Option.{slice_get_cases, slice_get_within}
use Rattle.mako_shape.specs.declared.numbers.Numbers.{Numbers}
use Rattle.mako_model.specs.declared.call.Call.{Call}
use Rattle.mako_model.specs.Fronts.{calls_by}
use Rattle.mako_model.specs.Legal.{Facts}
use Rattle.mako_mutator.specs.Drivers.{Driving, TaskIsKnown, replied}
use Rattle.mako_mutator.specs.declared.progress.Task.TheVariants.{Ended}
use Rattle.mako_names.specs.Freeing.{EpochsFit}
use Rattle.mako_seat.specs.declared.seat.Seat.{Seat}
use Rattle.mako_seat.specs.declared.seat.Seat.TheVariants.{Mutator, Server, Collector}
use Rattle.mako_layout.proofs.Conclusions.{each_has_its_record, records_are_apart, servers_copy_alone, writers_are_one}
use Rattle.mako_layout.proofs.Conclusions.{writers_may_write}
use Rattle.mako_shades.proofs.Completes.{marks_are_the_good}
use Rattle.mako_joint.specs.Joints.{JointScene, TracksFit, layout_in, trace_in}
use Rattle.mako_mutating.specs.MutatorFacets.{left_of}
use Rattle.mako_sitting.specs.Seats.{AllSit, SeatSits, MutatorSits}
use Rattle.mako_sitting.specs.Telling.{SittingAnswer, SittingAnswerToEnd, SittingReplies, SittingFreed, SittingRecords}
use Rattle.mako_sitting.specs.Telling.{SittingApart, SittingAlone, SittingMayWrite, SittingOneWriter, SittingMarks}
use Rattle.mako_sitting.specs.Telling.{SittingEpochs}

-- ---- the front

pub fronts_answer : SittingAnswer
fronts_answer n w s seats all = all.joint.names.hold.answers

pub replies_are_told : SittingReplies
replies_are_told n w s seats m d all here = (all.each m (Mutator d) here).keeps.replies

pub freed_are_those : SittingFreed
freed_are_those n w s seats i names all here = all.joint.names.hold.answers.lawful.freed i names here

-- past its end a list has nothing
drop_all : {A : Type 0} (xs : List A) (i : ℕ) → length xs ≤ i → drop i xs ≡ []
drop_all [] zero past = refl
drop_all [] (suc i) past = refl
drop_all (x ∷ xs) zero past = absurd (omega arith)
drop_all (x ∷ xs) (suc i) past = drop_all xs i (omega arith)

module _ (n : Numbers) (w : Facts) (s : JointScene) (seats : List Seat) (all : AllSit n w s seats) where
  -- a mutator at its end has had all its calls answered
  none_left : (place m : ℕ) (d : Driving) → MutatorSits n w s place m d → d.progress.task ≡ Ended → left_of d ≡ []
  none_left place m d sits ended =
      let done : d.progress.done ≡ length d.calls =
      subst (TaskIsKnown d.caller d.calls d.progress.done) ended sits.keeps.known.progress.task in
      let replies : length d.replies ≡ d.progress.done + 0 =
      sits.keeps.known.replies ∙ ap (λ t. d.progress.done + replied t) ended in
      drop_all d.calls (length d.replies) (omega arith)

  all_answered : ((m : ℕ) (d : Driving) → slice_get seats m ≡ Some (Mutator d) → d.progress.task ≡ Ended) →
      (m : ℕ) (program : List Call) → slice_get w.programs m ≡ Some program → calls_by m s.front.history ≡ program
  all_answered ended m program is = by (slice_get_cases seats m).1
    where
      low : m < n.mutators
      low = subst (λ z. m < z) all.joint.script.facts.mutators (slice_get_within w.programs m program is)

      at : (v : Seat) → slice_get seats m ≡ Some v → SeatSits n w s all.taker all.places m v →
          calls_by m s.front.history ≡ program
      at (Mutator d) here sits =
          let left : left_of d ≡ [] = none_left (all.places m) m d sits (ended m d here) in
          let whole : program ≡ calls_by m s.front.history ++ [] =
          all.joint.names.hold.left m [] (sits.seen.left ∙ ap Some left) program is in
          sym (whole ∙ append-nil (calls_by m s.front.history))
      at (Server v) here sits = absurd (let l = low in let e = sits.number in omega (arith, l, e))
      at (Collector c) here sits = absurd (let l = low in let e = sits.number in omega (arith, l, e))

      by : (((v : Seat) × (m < length seats) × (slice_get seats m ≡ Some v) × (get_or seats m v ≡ v))
          ⊎ ((length seats ≤ m) × (slice_get seats m ≡ None))) →
          calls_by m s.front.history ≡ program
      by (inl t) = at t.0 t.2 (all.each m t.0 t.2)
      by (inr t) = absurd (let l = low in let past = t.0 in let count = all.count in omega (arith, l, past, count))

pub fronts_answer_to_end : SittingAnswerToEnd
fronts_answer_to_end n w s seats all ended =
    record { answers = fronts_answer n w s seats all; all = all_answered n w s seats all ended }

-- ---- records

pub records_stand : SittingRecords
records_stand n w s seats x all low taken = each_has_its_record n (layout_in n w s) all.joint.layout x low taken

pub sitting_records_are_apart : SittingApart
sitting_records_are_apart n w s seats x y all low_x low_y ne taken_x taken_y =
    records_are_apart n (layout_in n w s) all.joint.layout x y low_x low_y ne taken_x taken_y

pub copies_are_alone : SittingAlone
copies_are_alone n w s seats t i j f g all low at_i at_j drains =
    servers_copy_alone n (layout_in n w s) all.joint.layout t i j f g low at_i at_j drains

pub sitting_may_write : SittingMayWrite
sitting_may_write n w s seats i g v all here writing =
    writers_may_write n (layout_in n w s) all.joint.layout i g v here writing

pub one_writes : SittingOneWriter
one_writes n w s seats i j f g u v all at_i at_j writes_u writes_v low same =
    writers_are_one n (layout_in n w s) all.joint.layout i j f g u v at_i at_j writes_u writes_v low same

-- ---- marks

pub marks_are_good : SittingMarks
marks_are_good n w s seats cycle inside all is complete x =
    let tracks = subst (λ p. TracksFit p n w (trace_in s)) is all.joint.tracks in
    marks_are_the_good n w s.words s.facets.trace s.front.history cycle all.joint.names.hold.answers.lawful.legal
    tracks.tracing inside complete x

pub epochs_tell : SittingEpochs
epochs_tell n w s seats cycle all is =
    subst (λ p. EpochsFit p n s.words w s.front.history) is all.joint.names.hold.epochs
