use Rattle.std.proofs.Common.{◌≡◌, ℕ, List, refl, sym, ap, ◌∙◌}
use Rattle.mako_step.specs.Acts.{finds}
use Rattle.mako_step.specs.Machines.{machine_stepped}
use Rattle.mako_step.specs.declared.step.Step.{Step}
use Rattle.mako_step.specs.declared.step.Step.TheVariants.{Do, Ended}
use Rattle.mako_seat.specs.Seats.{fed, next_of}
use Rattle.mako_seat.specs.declared.seat.Seat.{Seat}
use Rattle.mako_seat.specs.declared.seat.Seat.TheVariants.{Mutator, Server, Collector}
use Rattle.mako_seat.proofs.seat.Seat.step.Goals as goal

-- a seat after the step of its machine
seat_stepped : {M : Type 0} (seat : M → Seat) (t : Step) (m after : M)
    → seat (machine_stepped t m after) ≡ machine_stepped t (seat m) (seat after)
seat_stepped seat (Do act) m after = refl
seat_stepped seat Ended m after = refl

abbrev after_step : List ℕ → Seat → Seat
after_step words v = machine_stepped (next_of v) v (fed v (finds (next_of v) words))

pub returns-in-Mutator-clause-machine : goal.returns-in-Mutator-clause-machine
returns-in-Mutator-clause-machine g c =
    ap Mutator c.step.ensures.machine ∙ seat_stepped Mutator _ _ _
    ∙ ap (after_step (g.W.Words.words c.args.words.now)) (sym c.in-Mutator.is)

pub returns-in-Server-clause-machine : goal.returns-in-Server-clause-machine
returns-in-Server-clause-machine g c =
    ap Server c.make_step.ensures.machine ∙ seat_stepped Server _ _ _
    ∙ ap (after_step (g.W.Words.words c.args.words.now)) (sym c.in-Server.is)

pub returns-in-Collector-clause-machine : goal.returns-in-Collector-clause-machine
returns-in-Collector-clause-machine g c =
    ap Collector c.step-in-Collector.ensures.machine ∙ seat_stepped Collector _ _ _
    ∙ ap (after_step (g.W.Words.words c.args.words.now)) (sym c.in-Collector.is)
