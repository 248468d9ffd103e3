use Rattle.std.proofs.Common.{◌≡◌, ◌↔◌, ℕ, List, slice_get, true, nat_le, sym, ap, ◌∙◌, subst}
use Rattle.mako_shape.specs.declared.numbers.Numbers.{Numbers}
use Rattle.mako_core.specs.Endings.{AllAtEnd}
use Rattle.mako_replay.proofs.Live.{none_tells, first_tells}
use Rattle.mako_replay.proofs.running.Running.is_finished.Goals as goal

pub returns-in-None : goal.returns-in-None
returns-in-None c =
    let items = c.deref.ensures.value ∙ c.requires in
    none_tells c.args.self.now.core.script.numbers c.args.self.now.core.state.seats
    (c.in-None.ensures.value ∙ ap (λ (xs : List ℕ). slice_get xs 0) items)

pub returns-in-Some : goal.returns-in-Some
returns-in-Some c =
    let items = c.deref.ensures.value ∙ c.requires in
    subst (λ (n : Numbers).
    (nat_le n.mutators c.in-Some.seat.now ≡ true) ↔ AllAtEnd c.args.self.now.core.script.numbers
    c.args.self.now.core.state.seats)
    (sym (c.numbers-mutators.ensures.numbers ∙ c.shape.ensures))
    (first_tells c.args.self.now.core.script.numbers c.args.self.now.core.state.seats c.in-Some.seat.now
    (c.in-Some.ensures.value ∙ ap (λ (xs : List ℕ). slice_get xs 0) items))
