-- What is read of a seat, whichever machine it has.
use Rattle.std.specs.Prelude.{ℕ, ◌+◌, List, [], length, drop}
use Rattle.mako_shape.specs.declared.numbers.Numbers.{Numbers}
use Rattle.mako_gate.specs.Standings.{GateFacet, away, mutator_at}
use Rattle.mako_model.specs.declared.call.Call.{Call}
use Rattle.mako_mutator.specs.declared.progress.Task.{Task}
use Rattle.mako_mutator.specs.declared.progress.Task.TheVariants.{Attempting, Awaiting, Finishing, Ended as TaskEnded}
use Rattle.mako_seat.specs.declared.seat.Seat.{Seat}
use Rattle.mako_seat.specs.declared.seat.Seat.TheVariants.{Mutator, Server, Collector}
use Rattle.mako_layout.specs.Facets.{Work, idle}
use Rattle.mako_state.specs.Standings.{standing_of}
use Rattle.mako_state.specs.Works.{work_of}

-- Where it stands at the gates, and what it holds of a record: a server and the collector shut no gate and hold none
-- before their first step.
abbrev pub gate_facet : Numbers → Seat → GateFacet
gate_facet n (Mutator d) = mutator_at d.caller.mutator (standing_of d)
gate_facet n (Server s) = mutator_at (n.mutators + s.tracer.server) away
gate_facet n (Collector c) = mutator_at (n.mutators + n.servers) away

abbrev pub work_facet : Seat → Work
work_facet (Mutator d) = work_of d
work_facet (Server s) = idle
work_facet (Collector c) = idle

-- the calls that are not answered yet
abbrev pub left_facet : Seat → List Call
left_facet (Mutator d) = drop (length d.replies) d.calls
left_facet (Server s) = []
left_facet (Collector c) = []

-- 1 for a mutator at its end
abbrev pub task_ended : Task → ℕ
task_ended (Attempting c) = 0
task_ended (Awaiting c) = 0
task_ended Finishing = 0
task_ended TaskEnded = 1

abbrev pub ended_of : Seat → ℕ
ended_of (Mutator d) = task_ended d.progress.task
ended_of (Server s) = 0
ended_of (Collector c) = 0
