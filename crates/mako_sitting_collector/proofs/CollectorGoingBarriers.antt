-- Each barrier slot has a name or nothing.
use Rattle.std.proofs.Common.{◌≡◌, ◌≢◌, ℕ, ◌<◌, ◌⊎◌, inl, inr, ⊎_elim, length, slice_index, slice_set, sym, subst}
use Rattle.std.proofs.Common.{arith}
use Rattle.std.proofs.lemmas.Bool.{cases_eq}
use Rattle.std.proofs.lemmas.List.{get_or-set_same, get_or-set_other}
use Rattle.mako_words.specs.Names.{name_word}
use Rattle.mako_shape.specs.declared.numbers.Numbers.{Numbers}
use Rattle.mako_shape.specs.Places.{barrier, index}
use Rattle.mako_shape.proofs.PlaceLaws.{index_below}
use Rattle.mako_pause.specs.Collecting.{at}
use Rattle.mako_pause.specs.declared.stage.BarrierStage.TheVariants.{Loading}
use Rattle.mako_pause.specs.declared.stage.CollectStage.TheVariants.{Barriers}
use Rattle.mako_seat.specs.declared.seat.Seat.TheVariants.{Collector}
use Rattle.mako_sitting.specs.Seats.{CollectorSits}
use Rattle.mako_sitting_collector.specs.CollectorGoing.{HoldsAName, LooksFindNames, EmptyingLeavesNames, PutsLeaveNames}

-- the word of a slot is 0 or a name's
abbrev Holds : ℕ → Type 0
Holds word = (word ≡ 0) ⊎ HoldsAName word

pub looks_find_names : LooksFindNames
looks_find_names n w s seats i k m all here hold =
    let sits : CollectorSits n w s all.taker all.places i (at k (Barriers (Loading m))) =
    all.each i (Collector (at k (Barriers (Loading m)))) here in
    let low : m < k.shape.mutators = sits.keeps.stage.1 in
    let count = sits.known.barriers_count in
    let inside : slice_index k.barrier_at m < k.shape.ring = sits.known.barriers m 0 (omega arith) in
    hold m (slice_index k.barrier_at m) (
      subst (λ (q : Numbers). m < q.mutators) sits.here.shape low,
      subst (λ (q : Numbers). slice_index k.barrier_at m < q.ring) sits.here.shape inside,
    )

pub emptying_leaves_names : EmptyingLeavesNames
emptying_leaves_names n words us leaves hold m slot within =
    ⊎_elim (λ same. subst Holds (sym same) (hold m slot within)) (λ zero. inl zero) (leaves m slot within.0 within.1)

pub puts_leave_names : PutsLeaveNames
puts_leave_names n words m slot name size within fits hold q at inside =
    ⊎_elim
    (λ same. inr (record { name = name; fits = fits; word_is = here same }))
    (λ apart. subst Holds (sym (there apart)) (hold q at inside))
    (cases_eq (index n (barrier q at)) (index n (barrier m slot)))
  where
    low : index n (barrier m slot) < length words
    low = let b = index_below n (barrier m slot) within in omega arith

    here : index n (barrier q at) ≡ index n (barrier m slot)
        → slice_index (slice_set words (index n (barrier m slot)) (name_word name)) (index n (barrier q at))
        ≡ name_word name
    here same =
        subst (λ z. slice_index (slice_set words (index n (barrier m slot)) (name_word name)) z ≡ name_word name)
        (sym same) (get_or-set_same words (index n (barrier m slot)) (name_word name) 0 low)

    there : index n (barrier q at) ≢ index n (barrier m slot)
        → slice_index (slice_set words (index n (barrier m slot)) (name_word name)) (index n (barrier q at))
        ≡ slice_index words (index n (barrier q at))
    there apart = get_or-set_other words (index n (barrier m slot)) (index n (barrier q at)) (name_word name) 0 apart
