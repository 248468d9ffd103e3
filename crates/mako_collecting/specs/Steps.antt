-- The steps of the collector, and what is kept.
use Rattle.std.specs.Prelude.{ℕ, List, [], slice_set}
use Rattle.mako_words.specs.declared.name.Name.{Name}
use Rattle.mako_model.specs.declared.point.Point.TheVariants.{Snap}
use Rattle.mako_model.specs.Fronts.{with_point}
use Rattle.mako_shape.specs.declared.numbers.Numbers.{Numbers}
use Rattle.mako_step.specs.Acts.{finds, words_stepped}
use Rattle.mako_ring.specs.TraceFacets as trace
use Rattle.mako_layout.specs.Facets.{Gift, Choice, chooses, settled, spare_of}
use Rattle.mako_layout.specs.StepParts.{collector_seat}
use Rattle.mako_joint.specs.Joints.{JointScene}
use Rattle.mako_pause.specs.Collecting.{Holdings, Collecting, next_of, fed}
use Rattle.mako_pause.specs.declared.stage.ChoiceStage.{ChoiceStage}
use Rattle.mako_collecting.specs.Choosing.{choice_next}
use Rattle.mako_pause.specs.declared.stage.CollectStage.{CollectStage}
use Rattle.mako_pause.specs.declared.stage.CollectStage.TheVariants.{Choosing}
use Rattle.mako_collecting.specs.Facets.{names_of, phase_facet, gate_facet, ring_facet}

-- the scene with these words and this choice, once the collector is another
abbrev pub with_collector : Numbers → JointScene → List ℕ → Choice → Collecting → JointScene
with_collector n s words choice c = record s {
  words = words;
  facets = record s.facets {
    trace = slice_set s.facets.trace (collector_seat n) (trace.collecting (names_of c));
    gates = slice_set s.facets.gates (collector_seat n) (gate_facet n c);
    choice = choice;
    collector = ring_facet n c;
    phases = slice_set s.facets.phases (collector_seat n) (phase_facet n c);
  };
}

-- the words after its next act, and what it becomes by the word found
abbrev pub words_next : Collecting → List ℕ → List ℕ
words_next c words = words_stepped (next_of c) words

abbrev pub collector_next : Collecting → List ℕ → Collecting
collector_next c words = fed c (finds (next_of c) words)

-- the scene after its next step, where the choice stays
abbrev pub stepped : Numbers → JointScene → Collecting → JointScene
stepped n s c = with_collector n s (words_next c s.words) s.facets.choice (collector_next c s.words)

-- the scene with the point of a snapshot, from which on servers free names anew
abbrev pub snapped : JointScene → ℕ → List ℕ → List (List Name) → JointScene
snapped s cycle through sent = record s {
  front = with_point s.front (Snap cycle);
  facets = record s.facets {
    names = record s.facets.names { through = through; sent = sent; collector = record { server = 0; names = [] } };
  };
}

-- where the collector comes to the choice, it has chosen nothing yet
abbrev pub choice_begun : CollectStage → Choice → Choice
choice_begun (Choosing stage) choice = chooses settled [] (spare_of choice)
choice_begun stage choice = choice

-- the scene after a step of its poll
abbrev pub polled : Numbers → JointScene → Collecting → JointScene
polled n s c =
    with_collector n s (words_next c s.words) (choice_begun (collector_next c s.words).stage s.facets.choice)
    (collector_next c s.words)

-- the scene after a step of the choice, with these gifts and spare regions before it
abbrev pub chosen : Numbers → JointScene → Holdings → ChoiceStage → List Gift → List ℕ → JointScene
chosen n s k stage given spare =
    with_collector n s (words_next (record { kept = k; stage = Choosing stage }) s.words)
    (choice_next k stage given spare) (collector_next (record { kept = k; stage = Choosing stage }) s.words)
