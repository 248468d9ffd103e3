-- The kinds of step, as far as the order of the phases reads them.
use Rattle.std.specs.Prelude.{ℕ, ◌≡◌, ◌≢◌, ◌+◌, ◌*◌, ◌<◌, ◌==◌, List, [], ◌∷◌, ◌++◌, slice_get, slice_set, Some, None}
use Rattle.std.specs.Prelude.{Bool, true, Option, if◌then◌else◌, max}
use Rattle.mako_words.specs.declared.name.Name.{Name}
use Rattle.mako_words.specs.declared.phase_word.PhaseWord.{PhaseWord}
use Rattle.mako_words.specs.declared.phase_word.PhaseWord.TheVariants.{Idle, Trace, Evac, Stop}
use Rattle.mako_words.specs.Phases.{phase_word, phase_at, cycle_of}
use Rattle.mako_words.specs.Entries.{entry_at}
use Rattle.mako_shape.specs.declared.numbers.Numbers.{Numbers}
use Rattle.mako_shape.specs.Places.{Place, phase, demand, root, barrier, work, ghost, notice, leaving, entry, index}
use Rattle.mako_shape.specs.Places.{Within, word_at}
use Rattle.mako_names.specs.Tables.{entry_of}
use Rattle.mako_phases.specs.Facets.{idle, pausing, rooting, tracing, choosing, evacuating, stopped, looking, found}
use Rattle.mako_phases.specs.Facets.{shut, cleared, ServerStage, resting, working, clearing, freeing, gone, outside}
use Rattle.mako_phases.specs.Facets.{asking, inside, PhaseFacet, mutating, serving, collecting}
use Rattle.mako_names.specs.Uses.{IsUseSlot}
use Rattle.mako_phases.specs.Orders.{root_names, AreUnladen, PhaseOrder}

-- what the order of the phases reads of a state
pub record PhaseScene : Type 0 where
  pub words : List ℕ
  pub facets : List PhaseFacet

-- the scene is in order
abbrev pub PhaseOrderIn : Numbers → PhaseScene → Type 0
PhaseOrderIn n s = PhaseOrder n s.words s.facets

-- the words that it reads
abbrev pub IsPhaseWord : Place → Type 0
IsPhaseWord phase = Unit {0}
IsPhaseWord demand = Unit {0}
IsPhaseWord (root m q) = Unit {0}
IsPhaseWord (barrier m slot) = Unit {0}
IsPhaseWord (work s slot) = Unit {0}
IsPhaseWord (ghost sender receiver slot) = Unit {0}
IsPhaseWord (notice s slot) = Unit {0}
IsPhaseWord (leaving t) = Unit {0}
IsPhaseWord (entry e) = Unit {0}
IsPhaseWord p = ⊥

-- the facet of one seat changes
abbrev pub with_facet : PhaseScene → ℕ → PhaseFacet → PhaseScene
with_facet s seat f = record s { facets = slice_set s.facets seat f }

-- a word changes
abbrev pub with_word : Numbers → PhaseScene → Place → ℕ → PhaseScene
with_word n s p word = record s { words = slice_set s.words (index n p) word }

-- both
abbrev pub with_both : Numbers → PhaseScene → Place → ℕ → ℕ → PhaseFacet → PhaseScene
with_both n s p word seat f =
    record s { words = slice_set s.words (index n p) word; facets = slice_set s.facets seat f }

-- the stage of a server past one of its tablets
abbrev pub next_tablet : Numbers → ℕ → ℕ → ℕ → ServerStage
next_tablet n s d t = if t + 1 == (s + 1) * n.tablets then freeing d else clearing d (t + 1) looking

-- the stage of a server that loads this phase at its turn
abbrev pub stage_turned : Numbers → ℕ → ℕ → PhaseWord → ServerStage
stage_turned n s ended (Trace c) = working c
stage_turned n s ended (Evac c) = if ended == c then resting else clearing c (s * n.tablets) looking
stage_turned n s ended (Stop c) = gone
stage_turned n s ended (Idle c) = resting

-- A step of some kind, and the state after it. What the step found stands as a premise.
pub data PhaseStep (n : Numbers) (s after : PhaseScene) : Type 0 where
  -- a word is written that the order does not read, and no facet changes
  Unseen : (p : Place) (word : ℕ) → Within n p → (¬ IsPhaseWord p) → after ≡ with_word n s p word → PhaseStep n s after
  -- a load that changes no facet
  Looks : after ≡ s → PhaseStep n s after
  -- ---- a mutator
  -- is admitted at its own gate
  Enters : (seat : ℕ) (p : Place) (word : ℕ) → Within n p → (¬ IsPhaseWord p)
      → slice_get s.facets seat ≡ Some (mutating outside) → after ≡ with_both n s p word seat (mutating (inside None))
      → PhaseStep n s after
  -- leaves it
  Leaves : (seat : ℕ) (kept : Option PhaseWord) (p : Place) (word : ℕ) → Within n p → (¬ IsPhaseWord p)
      → slice_get s.facets seat ≡ Some (mutating (inside kept)) → after ≡ with_both n s p word seat (mutating outside)
      → PhaseStep n s after
  -- loads the phase
  Keeps : (seat : ℕ) (kept : Option PhaseWord) → slice_get s.facets seat ≡ Some (mutating (inside kept))
      → after ≡ with_facet s seat (mutating (inside (Some (phase_at (word_at n s.words phase))))) → PhaseStep n s after
  -- has no more use of it
  Forgets : (seat : ℕ) (kept : Option PhaseWord) (p : Place) (word : ℕ) → Within n p → (¬ IsPhaseWord p)
      → slice_get s.facets seat ≡ Some (mutating (inside kept))
      → after ≡ with_both n s p word seat (mutating (inside None)) → PhaseStep n s after
  -- loads the phase to ask for a cycle
  Asks : (seat : ℕ) → slice_get s.facets seat ≡ Some (mutating outside)
      → cycle_of (phase_at (word_at n s.words phase)) ≢ n.cycles
      → after ≡ with_facet s seat (mutating (asking (cycle_of (phase_at (word_at n s.words phase)) + 1)))
      → PhaseStep n s after
  -- and asks
  Demands : (seat k : ℕ) → slice_get s.facets seat ≡ Some (mutating (asking k))
      → after ≡ with_both n s demand (max (word_at n s.words demand) k) seat (mutating outside) → PhaseStep n s after
  -- stores a root
  StoresRoot : (seat : ℕ) (kept : Option PhaseWord) (m q word : ℕ)
      → slice_get s.facets seat ≡ Some (mutating (inside kept)) → Within n (root m q)
      → after ≡ with_word n s (root m q) word → PhaseStep n s after
  -- fills its barrier slot, in Trace
  Shades : (seat cycle m slot word : ℕ) → slice_get s.facets seat ≡ Some (mutating (inside (Some (Trace cycle))))
      → Within n (barrier m slot)
      → after ≡ with_both n s (barrier m slot) word seat (mutating (inside None)) → PhaseStep n s after
  -- stores the entry of a new object, with the cycle of the phase that it keeps
  Publishes : (seat : ℕ) (p : PhaseWord) (e word : ℕ) → slice_get s.facets seat ≡ Some (mutating (inside (Some p)))
      → Within n (entry e) → (entry_at word).epoch ≡ cycle_of p
      → after ≡ with_both n s (entry e) word seat (mutating (inside None)) → PhaseStep n s after
  -- ---- a mutator or a server moves a record
  Moves : (e word : ℕ) → Within n (entry e) → (entry_at word).epoch ≡ (entry_of n s.words e).epoch
      → after ≡ with_word n s (entry e) word → PhaseStep n s after
  -- ---- a server
  -- loads the phase at its turn
  Turns : (seat server ended : ℕ) (laden : Bool) → slice_get s.facets seat ≡ Some (serving server resting ended laden)
      → after ≡ with_facet s seat
      (serving server (stage_turned n server ended (phase_at (word_at n s.words phase))) ended laden)
      → PhaseStep n s after
  -- has traced what there was
  Returns : (seat server d ended : ℕ) (laden : Bool)
      → slice_get s.facets seat ≡ Some (serving server (working d) ended laden)
      → after ≡ with_facet s seat (serving server resting ended laden) → PhaseStep n s after
  -- the same with its last flag lowered
  Lowers : (seat server d ended : ℕ) (laden : Bool) (p : Place) (word : ℕ)
      → slice_get s.facets seat ≡ Some (serving server (working d) ended laden) → Within n p → (¬ IsPhaseWord p)
      → after ≡ with_both n s p word seat (serving server resting ended laden) → PhaseStep n s after
  -- finds a name in an incoming slot
  Finds : (seat server d ended : ℕ) (laden : Bool) (p : Place)
      → slice_get s.facets seat ≡ Some (serving server (working d) ended laden) → IsUseSlot p → Within n p
      → word_at n s.words p ≢ 0
      → after ≡ with_facet s seat (serving server (working d) ended true) → PhaseStep n s after
  -- takes it, puts a name into a slot, or goes on with its work
  Works : (seat server d ended : ℕ) (b : Bool)
      → slice_get s.facets seat ≡ Some (serving server (working d) ended true)
      → after ≡ with_facet s seat (serving server (working d) ended b) → PhaseStep n s after
  MovesName : (seat server d ended : ℕ) (b : Bool) (p : Place) (word : ℕ)
      → slice_get s.facets seat ≡ Some (serving server (working d) ended true) → IsUseSlot p → Within n p
      → after ≡ with_both n s p word seat (serving server (working d) ended b) → PhaseStep n s after
  -- marks an entry
  Marks : (seat server d ended : ℕ) (laden : Bool) (e word : ℕ)
      → slice_get s.facets seat ≡ Some (serving server (working d) ended laden) → Within n (entry e)
      → (entry_at word).epoch ≡ d
      → after ≡ with_word n s (entry e) word → PhaseStep n s after
  -- loads `leaving` of a tablet, which stays
  Passes : (seat server d t ended : ℕ) (laden : Bool)
      → slice_get s.facets seat ≡ Some (serving server (clearing d t looking) ended laden)
      → word_at n s.words (leaving t) ≡ 0
      → after ≡ with_facet s seat (serving server (next_tablet n server d t) ended laden) → PhaseStep n s after
  -- or is leaving
  Meets : (seat server d t ended : ℕ) (laden : Bool)
      → slice_get s.facets seat ≡ Some (serving server (clearing d t looking) ended laden)
      → word_at n s.words (leaving t) ≢ 0
      → after ≡ with_facet s seat (serving server (clearing d t found) ended laden) → PhaseStep n s after
  -- shuts its gate
  Shuts : (seat server d t ended : ℕ) (laden : Bool) (p : Place) (word : ℕ)
      → slice_get s.facets seat ≡ Some (serving server (clearing d t found) ended laden) → Within n p
      → (¬ IsPhaseWord p)
      → after ≡ with_both n s p word seat (serving server (clearing d t shut) ended laden) → PhaseStep n s after
  -- stores its `leaving` as 0
  Clears : (seat server d t ended : ℕ) (laden : Bool)
      → slice_get s.facets seat ≡ Some (serving server (clearing d t shut) ended laden)
      → after ≡ with_both n s (leaving t) 0 seat (serving server (clearing d t cleared) ended laden)
      → PhaseStep n s after
  -- reopens its gate
  Reopens : (seat server d t ended : ℕ) (laden : Bool) (p : Place) (word : ℕ)
      → slice_get s.facets seat ≡ Some (serving server (clearing d t cleared) ended laden) → Within n p
      → (¬ IsPhaseWord p)
      → after ≡ with_both n s p word seat (serving server (next_tablet n server d t) ended laden) → PhaseStep n s after
  -- frees an entry
  Frees : (e word : ℕ) → Within n (entry e) → (entry_at word).epoch ≡ 0 → after ≡ with_word n s (entry e) word
      → PhaseStep n s after
  -- tells a freed name
  Notes : (server slot word : ℕ) → Within n (notice server slot) → word ≢ 1
      → after ≡ with_word n s (notice server slot) word → PhaseStep n s after
  -- tells that it has ended the cycle
  Ends : (seat server d ended slot : ℕ) (laden : Bool)
      → slice_get s.facets seat ≡ Some (serving server (freeing d) ended laden) → Within n (notice server slot)
      → after ≡ with_both n s (notice server slot) 1 seat (serving server resting d laden) → PhaseStep n s after
  -- ---- the collector
  -- finds that a later cycle is asked for
  Begins : (seat cycle : ℕ) (pending : List Name) → slice_get s.facets seat ≡ Some (collecting (idle cycle) pending)
      → cycle < word_at n s.words demand → after ≡ with_facet s seat (collecting (pausing cycle) pending)
      → PhaseStep n s after
  -- finds the last gate drained, in the first pause
  Drains : (seat cycle : ℕ) (pending : List Name)
      → slice_get s.facets seat ≡ Some (collecting (pausing cycle) pending)
      → after ≡ with_facet s seat (collecting (rooting cycle 0) pending) → PhaseStep n s after
  -- loads the next root
  LoadsRoot : (seat cycle loaded : ℕ) (pending : List Name)
      → slice_get s.facets seat ≡ Some (collecting (rooting cycle loaded) pending) → loaded < n.mutators * n.roots
      → after ≡ with_facet s seat (collecting (rooting cycle (loaded + 1)) (pending ++ root_names n s.words loaded))
      → PhaseStep n s after
  -- stores Trace
  Snaps : (seat cycle loaded : ℕ) (pending : List Name)
      → slice_get s.facets seat ≡ Some (collecting (rooting cycle loaded) pending)
      → after ≡ with_both n s phase (phase_word (Trace (cycle + 1))) seat (collecting (tracing (cycle + 1)) pending)
      → PhaseStep n s after
  -- forwards a name, or gathers one
  Carries : (seat cycle : ℕ) (pending next : List Name) (p : Place) (word : ℕ)
      → slice_get s.facets seat ≡ Some (collecting (tracing cycle) pending) → IsUseSlot p → Within n p
      → after ≡ with_both n s p word seat (collecting (tracing cycle) next) → PhaseStep n s after
  -- is told with the gates shut that the heap is complete
  Told : (seat cycle : ℕ) → slice_get s.facets seat ≡ Some (collecting (tracing cycle) [])
      → ((p : Place) → IsUseSlot p → Within n p → word_at n s.words p ≡ 0)
      → AreUnladen s.facets
      → after ≡ with_facet s seat (collecting (choosing cycle []) []) → PhaseStep n s after
  -- stores `leaving` of a chosen tablet
  Chooses : (seat cycle : ℕ) (left : List ℕ) (pending : List Name) (t word : ℕ)
      → slice_get s.facets seat ≡ Some (collecting (choosing cycle left) pending) → Within n (leaving t)
      → after ≡ with_both n s (leaving t) word seat (collecting (choosing cycle (t ∷ left)) pending)
      → PhaseStep n s after
  -- stores Evac
  Evacuates : (seat cycle : ℕ) (left : List ℕ) (pending : List Name)
      → slice_get s.facets seat ≡ Some (collecting (choosing cycle left) pending)
      → after ≡ with_both n s phase (phase_word (Evac cycle)) seat (collecting (evacuating cycle 0) pending)
      → PhaseStep n s after
  -- takes a notice that the server has ended the cycle
  Hears : (seat cycle ended slot : ℕ) (pending : List Name)
      → slice_get s.facets seat ≡ Some (collecting (evacuating cycle ended) pending) → Within n (notice ended slot)
      → word_at n s.words (notice ended slot) ≡ 1
      → after ≡ with_both n s (notice ended slot) 0 seat (collecting (evacuating cycle (ended + 1)) pending)
      → PhaseStep n s after
  -- stores Idle
  Finishes : (seat cycle : ℕ) (pending : List Name)
      → slice_get s.facets seat ≡ Some (collecting (evacuating cycle n.servers) pending)
      → after ≡ with_both n s phase (phase_word (Idle cycle)) seat (collecting (idle cycle) pending)
      → PhaseStep n s after
  -- stores Stop
  Stops : (seat cycle : ℕ) (pending : List Name) → slice_get s.facets seat ≡ Some (collecting (idle cycle) pending)
      → after ≡ with_both n s phase (phase_word (Stop cycle)) seat (collecting (stopped cycle) pending)
      → PhaseStep n s after
