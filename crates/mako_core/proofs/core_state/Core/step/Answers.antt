use Rattle.std.proofs.Common.{◌≡◌, ◌<◌, length, slice_get, Some, ap, refl, ◌∙◌}
use Rattle.std.proofs.lemmas.Option.{slice_get_read}
use Rattle.mako_step.specs.Acts.{finds}
use Rattle.mako_seat.specs.Seats.{next_of}
use Rattle.mako_mutator.specs.Telling.{history_after}
use Rattle.mako_core.specs.Cores.{CoreView}
use Rattle.mako_core.specs.Turns.{stepped_on, turn_by, turn_at, told_at}
use Rattle.mako_state.specs.CoreStates.{step_of}
use Rattle.mako_core.proofs.Laws.{asked, state_is, stands_after, holds_after, turn_is, turn_untold, history_is_told}
use Rattle.mako_core.proofs.Laws.{has_place}
use Rattle.mako_core.proofs.core_state.Core.step.Goals as goal

pub step-stepped-requires-clause-can : goal.step-stepped-requires-clause-can
step-stepped-requires-clause-can g c =
    let in_ = c.self.inside in
    let v = c.index_mut.result.now in
    let within : c.args.seat < length in_.seats.items = rw (← c.self.view_is) at c.requires in
    let here : slice_get in_.seats.items c.args.seat ≡ Some v =
    slice_get_read in_.seats.items (length in_.seats.items) c.args.seat v refl within c.index_mut.ensures.value in
    asked in_.shape in_.script.value (g.W.Words.words in_.words) in_.seats.items in_.journal.points
    in_.journal.room in_.lists.items _ c.self.invariant c.args.seat v here

pub step-stepped-requires-clause-room : goal.step-stepped-requires-clause-room
step-stepped-requires-clause-room g c =
    let in_ = c.self.inside in
    let v = c.index_mut.result.now in
    let within : c.args.seat < length in_.seats.items = rw (← c.self.view_is) at c.requires in
    let here : slice_get in_.seats.items c.args.seat ≡ Some v =
    slice_get_read in_.seats.items (length in_.seats.items) c.args.seat v refl within c.index_mut.ensures.value in
    has_place in_.shape in_.script.value (g.W.Words.words in_.words) in_.seats.items in_.journal.points
    in_.journal.room in_.lists.items _ c.self.invariant c.args.seat v here
    _ refl _ refl (stepped_on v (finds (next_of v) (g.W.Words.words in_.words))) refl _ refl

pub invariant_of-self : goal.invariant_of-self
invariant_of-self g c =
    let in_ = c.self.inside in
    let v = c.index_mut.result.now in
    let within : c.args.seat < length in_.seats.items = rw (← c.self.view_is) at c.requires in
    let here : slice_get in_.seats.items c.args.seat ≡ Some v =
    slice_get_read in_.seats.items (length in_.seats.items) c.args.seat v refl within c.index_mut.ensures.value in
    rw c.step-stepped.ensures.room
    (holds_after in_.shape in_.script.value (g.W.Words.words in_.words) in_.seats.items in_.journal.points
    in_.journal.room in_.lists.items _ c.self.invariant c.args.seat v here
    (g.W.Words.words c.step-stepped.new.words) c.step-stepped.ensures.words
    c.step-stepped.new.self c.step-stepped.ensures.machine (stepped_on v (finds (next_of v) (g.W.Words.words in_.words))) refl
    c.step-stepped.new.journal.points c.step-stepped.ensures.points)

pub returns-clause-state : goal.returns-clause-state
returns-clause-state g c =
    let in_ = c.self.inside in
    let v = c.index_mut.result.now in
    let within : c.args.seat < length in_.seats.items = rw (← c.self.view_is) at c.requires in
    let here : slice_get in_.seats.items c.args.seat ≡ Some v =
    slice_get_read in_.seats.items (length in_.seats.items) c.args.seat v refl within c.index_mut.ensures.value in
    state_is in_.shape in_.script.value (g.W.Words.words in_.words) in_.seats.items in_.journal.points
    in_.journal.room in_.lists.items _ c.self.invariant c.args.seat v here
    (g.W.Words.words c.step-stepped.new.words) c.step-stepped.ensures.words
    c.step-stepped.new.self c.step-stepped.ensures.machine (stepped_on v (finds (next_of v) (g.W.Words.words in_.words))) refl
    c.step-stepped.new.journal.points c.step-stepped.ensures.points
    ∙ ap (λ (q : CoreView). step_of q.state c.args.seat) c.self.view_is

pub returns-clause-turn : goal.returns-clause-turn
returns-clause-turn g c =
    let in_ = c.self.inside in
    let v = c.index_mut.result.now in
    let within : c.args.seat < length in_.seats.items = rw (← c.self.view_is) at c.requires in
    let here : slice_get in_.seats.items c.args.seat ≡ Some v =
    slice_get_read in_.seats.items (length in_.seats.items) c.args.seat v refl within c.index_mut.ensures.value in
    c.of.ensures ∙ (ap turn_by c.step-stepped.ensures.result
    ∙ (turn_untold (stepped_on v (finds (next_of v) (g.W.Words.words in_.words)))
    ∙ (turn_is in_.shape in_.script.value (g.W.Words.words in_.words) in_.seats.items in_.journal.points
    in_.journal.room in_.lists.items _ c.self.invariant c.args.seat v here
    (g.W.Words.words c.step-stepped.new.words) c.step-stepped.ensures.words
    c.step-stepped.new.self c.step-stepped.ensures.machine (stepped_on v (finds (next_of v) (g.W.Words.words in_.words))) refl
    c.step-stepped.new.journal.points c.step-stepped.ensures.points
    ∙ ap (λ (q : CoreView). turn_at q.state (slice_get q.state.seats c.args.seat)) c.self.view_is)))

pub returns-clause-history : goal.returns-clause-history
returns-clause-history g c =
    let in_ = c.self.inside in
    let v = c.index_mut.result.now in
    let within : c.args.seat < length in_.seats.items = rw (← c.self.view_is) at c.requires in
    let here : slice_get in_.seats.items c.args.seat ≡ Some v =
    slice_get_read in_.seats.items (length in_.seats.items) c.args.seat v refl within c.index_mut.ensures.value in
    history_is_told in_.shape in_.script.value (g.W.Words.words in_.words) in_.seats.items in_.journal.points
    in_.journal.room in_.lists.items _ c.self.invariant c.args.seat v here
    (g.W.Words.words c.step-stepped.new.words) c.step-stepped.ensures.words
    c.step-stepped.new.self c.step-stepped.ensures.machine (stepped_on v (finds (next_of v) (g.W.Words.words in_.words))) refl
    c.step-stepped.new.journal.points c.step-stepped.ensures.points
    ∙ ap (λ (q : CoreView). history_after q.state.front.history (told_at q.state (slice_get q.state.seats c.args.seat)))
    c.self.view_is

pub returns-clause-holds : goal.returns-clause-holds
returns-clause-holds g c =
    let in_ = c.self.inside in
    let v = c.index_mut.result.now in
    let within : c.args.seat < length in_.seats.items = rw (← c.self.view_is) at c.requires in
    let here : slice_get in_.seats.items c.args.seat ≡ Some v =
    slice_get_read in_.seats.items (length in_.seats.items) c.args.seat v refl within c.index_mut.ensures.value in
    stands_after in_.shape in_.script.value (g.W.Words.words in_.words) in_.seats.items in_.journal.points
    in_.journal.room in_.lists.items _ c.self.invariant c.args.seat v here
    (g.W.Words.words c.step-stepped.new.words) c.step-stepped.ensures.words
    c.step-stepped.new.self c.step-stepped.ensures.machine (stepped_on v (finds (next_of v) (g.W.Words.words in_.words))) refl
    c.step-stepped.new.journal.points c.step-stepped.ensures.points
