-- The groups of the invariant side by side, over one list of words and one front.
use Rattle.std.specs.Prelude.{ℕ, ◌≡◌, ◌+◌, ◌<◌, ◌≤◌, ◌⊎◌, List, length, slice_get, Some, Bool}
use Rattle.std.specs.List.{Contains}
use Rattle.mako_words.specs.declared.name.Name.{Name}
use Rattle.mako_words.specs.declared.phase_word.PhaseWord.{PhaseWord}
use Rattle.mako_words.specs.declared.phase_word.PhaseWord.TheVariants.{Idle, Trace, Evac, Stop}
use Rattle.mako_shape.specs.declared.numbers.Numbers.{Numbers}
use Rattle.mako_shape.specs.Limits.{IsShape}
use Rattle.mako_shape.specs.Places.{word_at}
use Rattle.mako_gate.specs.Standings.{GateFacet, admitted_own, drained_own, drained_by}
use Rattle.mako_model.specs.Fronts.{Seen}
use Rattle.mako_model.specs.Laws.{ProgramsFit}
use Rattle.mako_model.specs.Legal.{Facts, state_of}
use Rattle.mako_model.specs.Starved.{words_made}
use Rattle.mako_names.specs.Going.{Facets}
use Rattle.mako_names.specs.Steps.{NameScene, NamesHoldIn}
use Rattle.mako_names.specs.Tables.{IsWorkloadOf, phase_of}
use Rattle.mako_ring.specs.Facets.{ServerFacet, CollectorFacet, Scene}
use Rattle.mako_ring.specs.Polling.{PollingStands}
use Rattle.mako_ring.specs.TraceFacets.{TraceFacet}
use Rattle.mako_shades.specs.Laws.{TracksIn}
use Rattle.mako_shades.specs.Steps.{TraceScene}
use Rattle.mako_layout.specs.Facets.{Work, Choice, rests_with, chooses, has_chosen}
use Rattle.mako_layout.specs.Evacuations.{State, Evacuation}
use Rattle.mako_layout.specs.Beside.{IsReading, entry_of}
use Rattle.mako_phases.specs.Facets.{PhaseFacet, mutating, serving, collecting, Part, idle, pausing, rooting, tracing}
use Rattle.mako_phases.specs.Facets.{choosing, evacuating, stopped, clearing, TabletStage, Admission, IsInPause}
use Rattle.mako_phases.specs.Facets.{IsNotAdmitted}
use Rattle.mako_phases.specs.Steps.{PhaseScene, PhaseOrderIn}

-- what all groups read of the seats: of names, of tracing, where seats stand at the gates, what they hold of records,
-- how far the choice of tablets is, what rings and polls read, and what the order of the phases reads
pub record JointFacets : Type 0 where
  pub names : Facets
  pub trace : List TraceFacet
  pub gates : List GateFacet
  pub works : List Work
  pub choice : Choice
  pub servers : ℕ → ServerFacet
  pub collector : CollectorFacet
  pub phases : List PhaseFacet

-- all words, the front, and the facets of all seats
pub record JointScene : Type 0 where
  pub words : List ℕ
  pub front : Seen
  pub facets : JointFacets

-- ---- what each group reads of it

abbrev pub names_in : JointScene → NameScene
names_in s = record { words = s.words; front = s.front; facets = s.facets.names }

abbrev pub trace_in : JointScene → TraceScene
trace_in s = record { words = s.words; facets = s.facets.trace; history = s.front.history }

abbrev pub layout_in : Numbers → Facts → JointScene → State
layout_in n w s = record {
  words = λ p. word_at n s.words p;
  heap = state_of w s.front.history;
  gates = s.facets.gates;
  works = s.facets.works;
  choice = s.facets.choice;
  made = λ t. words_made w t s.front.history;
}

abbrev pub polls_in : Numbers → JointScene → Scene
polls_in n s = record { word = λ p. word_at n s.words p; server = s.facets.servers; collector = s.facets.collector }

abbrev pub phases_in : JointScene → PhaseScene
phases_in s = record { words = s.words; facets = s.facets.phases }

-- ---- what ties them

-- tracing is kept while servers trace; elsewhere the epochs of names say what it left
abbrev pub TracksFit : PhaseWord → Numbers → Facts → TraceScene → Type 0
TracksFit (Idle cycle) n w s = Unit {0}
TracksFit (Trace cycle) n w s = TracksIn n w cycle s
TracksFit (Evac cycle) n w s = Unit {0}
TracksFit (Stop cycle) n w s = Unit {0}

-- the seat has still to use a name of this entry
pub record HasName (held : List (List Name)) (seat entry : ℕ) : Type 0 where
  pub names : List Name
  pub name : Name
  pub at : slice_get held seat ≡ Some names
  pub among : Contains names name
  pub of_entry : name.entry ≡ entry

-- who reads or stores through an entry's address has its name still to use
abbrev pub ReadsAreHeld : List (List Name) → List Work → Type 0
ReadsAreHeld held works =
    (seat : ℕ) (v : Work) → slice_get works seat ≡ Some v → IsReading v → HasName held seat (entry_of v)

-- a server that evacuates a tablet
pub record IsClearing (facets : List PhaseFacet) (seat : ℕ) : Type 0 where
  pub server : ℕ
  pub cycle : ℕ
  pub tablet : ℕ
  pub at : TabletStage
  pub ended : ℕ
  pub laden : Bool
  pub is : slice_get facets seat ≡ Some (serving server (clearing cycle tablet at) ended laden)

-- a mutator that is not admitted at its gate is outside, as the order of the phases has it
pub record IsOutsideWith (n : Numbers) (gates : List GateFacet) (seat : ℕ) (admission : Admission) : Type 0 where
  pub gate : GateFacet
  pub here : slice_get gates seat ≡ Some gate
  pub number : gate.number < n.mutators
  pub outside : admitted_own gate.standing ≡ 0 → IsNotAdmitted admission

-- the collector has drained the gates of all mutators
pub record HasDrainedAll (n : Numbers) (gates : List GateFacet) : Type 0 where
  pub gate : GateFacet
  pub here : slice_get gates (n.mutators + n.servers) ≡ Some gate
  pub drained : (m : ℕ) → m < n.mutators → 1 ≤ drained_own m gate.watch

-- where seats stand at the gates is where they stand in the order of the phases
pub record GatesMatch (n : Numbers) (phases : List PhaseFacet) (gates : List GateFacet) : Type 0 where
  pub mutators : (seat : ℕ) (admission : Admission) → slice_get phases seat ≡ Some (mutating admission)
      → IsOutsideWith n gates seat admission
  pub collector : (seat : ℕ) (part : Part) (pending : List Name)
      → slice_get phases seat ≡ Some (collecting part pending) → IsInPause part → HasDrainedAll n gates
  pub servers : (seat t : ℕ) (g : GateFacet) → slice_get gates seat ≡ Some g
      → (drained_by t g.watch ≡ 0) ⊎ IsClearing phases seat

-- no tablet has given up a region but from the choice to the end of evacuation
abbrev pub ChoiceFits : Part → Choice → Type 0
ChoiceFits (choosing cycle left) (rests_with spare) = ⊥
ChoiceFits (choosing cycle left) (chooses debt given spare) = Unit {0}
ChoiceFits (choosing cycle left) (has_chosen given spare) = ⊥
ChoiceFits (evacuating cycle ended) (rests_with spare) = ⊥
ChoiceFits (evacuating cycle ended) (chooses debt given spare) = ⊥
ChoiceFits (evacuating cycle ended) (has_chosen given spare) = Unit {0}
ChoiceFits part (rests_with spare) = Unit {0}
ChoiceFits part (chooses debt given spare) = ⊥
ChoiceFits part (has_chosen given spare) = ⊥

-- so it is with the collector's part
abbrev pub ChoiceMatches : List PhaseFacet → Choice → Type 0
ChoiceMatches phases choice = (seat : ℕ) (part : Part) (pending : List Name)
    → slice_get phases seat ≡ Some (collecting part pending) → ChoiceFits part choice

-- ---- the whole

-- the numbers, the facts of a script with them, and its programs
pub record IsScript (n : Numbers) (w : Facts) : Type 0 where
  pub shape : IsShape n
  pub facts : IsWorkloadOf n w
  pub programs : ProgramsFit w.programs

-- names, tracing, layout, polls and phases, and what ties them
pub record Joint (n : Numbers) (w : Facts) (s : JointScene) : Type 0 where
  pub script : IsScript n w
  pub names : NamesHoldIn n w (names_in s)
  pub tracks : TracksFit (phase_of n s.words) n w (trace_in s)
  pub layout : Evacuation n (layout_in n w s)
  pub polls : PollingStands n (polls_in n s)
  pub order : PhaseOrderIn n (phases_in s)
  pub reads : ReadsAreHeld s.facets.names.held s.facets.works
  pub gates : GatesMatch n s.facets.phases s.facets.gates
  pub choice : ChoiceMatches s.facets.phases s.facets.choice
