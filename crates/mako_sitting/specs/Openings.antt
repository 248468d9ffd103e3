-- All seats at the start of a script: their facets, and that they sit.
use Rattle.std.specs.Prelude.{ℕ, List, [], map, replicate}
use Rattle.mako_words.specs.declared.name.Name.{Name}
use Rattle.mako_shape.specs.declared.numbers.Numbers.{Numbers}
use Rattle.mako_model.specs.Fronts.{opening_front}
use Rattle.mako_script.specs.ScriptFacts.{facts_of}
use Rattle.mako_script.specs.Scripts.{ScriptView, IsProper}
use Rattle.mako_names.specs.Trying as trying
use Rattle.mako_names.specs.Trying.{Trying}
use Rattle.mako_ring.specs.TraceFacets.{TraceFacet, collecting}
use Rattle.mako_layout.specs.Layouts.{regions_of}
use Rattle.mako_layout.specs.Facets.{rests_with}
use Rattle.mako_layout.specs.Openings.{spares_below}
use Rattle.mako_phases.specs.Facets.{PhaseFacet, mutating}
use Rattle.mako_server.specs.Serving as servers
use Rattle.mako_pause.specs.Opening as collectors
use Rattle.mako_seat.specs.declared.seat.Seat.{Seat}
use Rattle.mako_seat.specs.declared.seat.Seat.TheVariants.{Mutator, Server, Collector}
use Rattle.mako_state.specs.Facets.{gate_facet, work_facet, left_facet}
use Rattle.mako_state.specs.Openings.{words_at_start, opening_seats}
use Rattle.mako_joint.specs.Joints.{JointFacets, JointScene}
use Rattle.mako_mutating.specs.MutatorFacets.{held_of, trying_of, trace_of, task_admission}
use Rattle.mako_tracing.specs.ServerFacets.{server_trace, server_phase, server_serving}
use Rattle.mako_collecting.specs.Facets as pauses
use Rattle.mako_sitting.specs.Seats.{AllSit}

-- ---- what each group reads of a seat (of gates and records what is read where no cycle runs)

abbrev pub trace_facet : Seat → TraceFacet
trace_facet (Mutator d) = trace_of d
trace_facet (Server v) = server_trace v
trace_facet (Collector c) = collecting (pauses.names_of c)

abbrev pub phase_facet : Numbers → Seat → PhaseFacet
phase_facet n (Mutator d) = mutating (task_admission d.progress.task)
phase_facet n (Server v) = server_phase v
phase_facet n (Collector c) = pauses.phase_facet n c

abbrev pub held_facet : Seat → List Name
held_facet (Mutator d) = held_of d
held_facet (Server v) = []
held_facet (Collector c) = []

abbrev pub trying_facet : Seat → Trying
trying_facet (Mutator d) = trying_of d
trying_facet (Server v) = trying.Nothing
trying_facet (Collector c) = trying.Nothing

-- ---- the scene

-- nothing is freed or sent, and no tablet is chosen
abbrev pub opening_facets : ScriptView → List Seat → JointFacets
opening_facets s seats = record {
  names = record {
    held = map held_facet seats;
    trying = map trying_facet seats;
    left = map left_facet seats;
    through = replicate s.numbers.servers 0;
    sent = replicate s.numbers.servers [];
    collector = record { server = 0; names = [] };
  };
  trace = map trace_facet seats;
  gates = map (gate_facet s.numbers) seats;
  works = map work_facet seats;
  choice = rests_with (spares_below s.numbers (regions_of s.numbers));
  servers = λ i. server_serving (servers.opening s.numbers i);
  collector = pauses.ring_facet s.numbers (collectors.opening s);
  phases = map (phase_facet s.numbers) seats;
}

abbrev pub scene_with : ScriptView → List ℕ → List Seat → JointScene
scene_with s words seats = record { words = words; front = opening_front; facets = opening_facets s seats }

abbrev pub opening_scene : ScriptView → JointScene
opening_scene s = scene_with s (words_at_start s.numbers s.board) (opening_seats s)

-- before the first step of any script all seats sit
abbrev pub OpeningsSit : Type 0
OpeningsSit = (s : ScriptView) → IsProper s → AllSit s.numbers (facts_of s) (opening_scene s) (opening_seats s)
