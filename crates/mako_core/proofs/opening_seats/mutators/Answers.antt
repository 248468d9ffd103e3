use Rattle.std.proofs.Common.{◌++◌, ◌∷◌, [], ◌<◌, List, length, take, sym, ap, ◌∙◌, arith}
use Rattle.mako_shape.specs.declared.numbers.Numbers.{Numbers}
use Rattle.mako_script.specs.Scripts.{ScriptView}
use Rattle.mako_seat.specs.declared.seat.Seat.{Seat}
use Rattle.mako_seat.specs.declared.seat.Seat.TheVariants.{Mutator}
use Rattle.mako_state.specs.Openings.{mutators_from}
use Rattle.mako_core.proofs.Starting.{some_at, mutators_more}
use Rattle.mako_core.proofs.opening_seats.mutators.Goals as goal

pub loop-mutator-preserved : goal.loop-mutator-preserved
loop-mutator-preserved c =
    let s = c.args.script.now in
    let m = c.loop-mutator.mutator in
    let many = ap (λ (t : ScriptView). length t.programs) c.script.view_is in
    let numbers = ap (λ (n : Numbers). n.mutators) c.numbers-numbers.ensures.numbers in
    let low : m < length s.programs =
    omega (arith, many, numbers, c.script.invariant.mutators, c.loop-mutator-test.true) in
    let program = some_at s.programs m low in
    c.in-Ok.ensures.items
    ∙ ap (λ (xs : List Seat). xs ++ Mutator c.in_ok-driver.driver ∷ []) c.loop-mutator.invariant
    ∙ ap (λ d. mutators_from s.numbers 0 (take m s.programs) ++ Mutator d ∷ [])
    (c.in_ok-driver.ensures program.0 program.1)
    ∙ sym (mutators_more s.numbers m s.programs program.0 program.1)
