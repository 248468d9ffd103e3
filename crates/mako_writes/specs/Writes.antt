-- The words that a seat may write.
use Rattle.std.specs.Prelude.{ℕ, ◌≡◌, ◌⊎◌, List}
use Rattle.mako_words.specs.declared.name.Name.{Name}
use Rattle.mako_shape.specs.declared.numbers.Numbers.{Numbers}
use Rattle.mako_shape.specs.Places.{Place, phase, demand, finished, mutator_gate, root, barrier, flags, work, ghost}
use Rattle.mako_shape.specs.Places.{notice, tablet_gate, turn, home, top, leaving, live, entry, region_word, Within}
use Rattle.mako_shape.specs.Places.{word_at}
use Rattle.mako_shape.specs.Belongings.{server_of_tablet, server_of_entry}
use Rattle.mako_step.specs.Acts.{words_stepped}
use Rattle.mako_ring.specs.TraceFacets.{InHand}
use Rattle.mako_ring.specs.TracerFacets.{hand_of}
use Rattle.mako_mutator.specs.Drivers as drivers
use Rattle.mako_mutator.specs.Drivers.{Driving}
use Rattle.mako_server.specs.Serving as serving
use Rattle.mako_server.specs.Serving.{Serving}
use Rattle.mako_pause.specs.Collecting as collecting
use Rattle.mako_pause.specs.Collecting.{Collecting}
use Rattle.mako_pause.specs.Keeping.{IsKeptKnown, StageIsKnown}

-- a mutator: its own gate, roots and barrier slots, two counters, and what stands at any tablet but its home
abbrev pub MutatorWrites : ℕ → Place → Type 0
MutatorWrites m demand = Unit {0}
MutatorWrites m finished = Unit {0}
MutatorWrites m (mutator_gate k) = k ≡ m
MutatorWrites m (root k q) = k ≡ m
MutatorWrites m (barrier k slot) = k ≡ m
MutatorWrites m (tablet_gate t) = Unit {0}
MutatorWrites m (turn t) = Unit {0}
MutatorWrites m (top t) = Unit {0}
MutatorWrites m (entry x) = Unit {0}
MutatorWrites m (region_word r o) = Unit {0}
MutatorWrites m p = ⊥

-- a server: what is its own, the slots into which it sends, and words of records
abbrev pub ServerWrites : Numbers → ℕ → Place → Type 0
ServerWrites n s (flags k) = k ≡ s
ServerWrites n s (work k slot) = k ≡ s
ServerWrites n s (ghost sender receiver slot) = (sender ≡ s) ⊎ (receiver ≡ s)
ServerWrites n s (notice k slot) = k ≡ s
ServerWrites n s (tablet_gate t) = server_of_tablet n t ≡ s
ServerWrites n s (top t) = server_of_tablet n t ≡ s
ServerWrites n s (leaving t) = server_of_tablet n t ≡ s
ServerWrites n s (live t) = server_of_tablet n t ≡ s
ServerWrites n s (entry x) = server_of_entry n x ≡ s
ServerWrites n s (region_word r o) = Unit {0}
ServerWrites n s p = ⊥

-- the collector
abbrev pub CollectorWrites : Place → Type 0
CollectorWrites phase = Unit {0}
CollectorWrites (mutator_gate m) = Unit {0}
CollectorWrites (barrier m slot) = Unit {0}
CollectorWrites (flags s) = Unit {0}
CollectorWrites (work s slot) = Unit {0}
CollectorWrites (notice s slot) = Unit {0}
CollectorWrites (home t) = Unit {0}
CollectorWrites (top t) = Unit {0}
CollectorWrites (leaving t) = Unit {0}
CollectorWrites p = ⊥

-- every word that is not one of these is as it was
abbrev pub LeavesOthers : Numbers → (Place → Type 0) → List ℕ → List ℕ → Type 0
LeavesOthers n Writes words after =
    (p : Place) → Within n p → (Writes p → ⊥) → word_at n after p ≡ word_at n words p

abbrev pub MutatorsWrite : Type 0
MutatorsWrite = (d : Driving) (words : List ℕ) → drivers.IsKnown d
    → LeavesOthers d.caller.shape (MutatorWrites d.caller.mutator) words (words_stepped (drivers.next_of d) words)

-- a name in a server's hand is one of its own
abbrev pub HandIsOwn : Serving → Type 0
HandIsOwn v = (x : Name) → InHand (hand_of v.tracer.stage) x
    → server_of_entry v.tracer.shape x.entry ≡ v.tracer.server

abbrev pub ServersWrite : Type 0
ServersWrite = (v : Serving) (words : List ℕ) → serving.IsKnown v → HandIsOwn v
    → LeavesOthers v.tracer.shape (ServerWrites v.tracer.shape v.tracer.server) words
    (words_stepped (serving.next_of v) words)

abbrev pub CollectorsWrite : Type 0
CollectorsWrite = (c : Collecting) (words : List ℕ) → IsKeptKnown c.kept → StageIsKnown c.kept c.stage
    → LeavesOthers c.kept.shape CollectorWrites words (words_stepped (collecting.next_of c) words)
