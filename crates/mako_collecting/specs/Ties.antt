-- What the facets of other seats, of the same machines, are to each other, as the collector's steps ask.
use Rattle.std.specs.Prelude.{ℕ, ◌≡◌, ◌⊎◌, true, false, List, slice_get, Some}
use Rattle.std.specs.List.{Contains}
use Rattle.mako_words.specs.declared.name.Name.{Name}
use Rattle.mako_words.specs.declared.value.Value.TheVariants.{Ref}
use Rattle.mako_words.specs.Values.{value_at}
use Rattle.mako_shape.specs.declared.numbers.Numbers.{Numbers}
use Rattle.mako_shape.specs.Places.{root, barrier, Within, word_at}
use Rattle.mako_model.specs.Heaps.{Heap}
use Rattle.mako_model.specs.Reachable.{StandsInRoot}
use Rattle.mako_ring.specs.Facets as rings
use Rattle.mako_ring.specs.TraceFacets as trace
use Rattle.mako_ring.specs.TraceFacets.{TraceFacet}
use Rattle.mako_shades.specs.Steps.{IsAtRest}
use Rattle.mako_phases.specs.Facets.{PhaseFacet, mutating, serving, ServerStage, collecting, IsNotAdmitted}

-- ---- tracing and the order of the phases

-- a mutator that is not admitted, and a server with nothing to work on, have nothing to do with tracing
abbrev pub TraceTied : PhaseFacet → TraceFacet → Type 0
TraceTied (mutating admission) f = IsNotAdmitted admission → IsAtRest f
TraceTied (serving server stage ended laden) f = laden ≡ false → IsAtRest f
TraceTied (collecting part pending) f = f ≡ trace.collecting pending

pub record TracesTiedAt (phases : List PhaseFacet) (seat : ℕ) (f : TraceFacet) : Type 0 where
  pub facet : PhaseFacet
  pub here : slice_get phases seat ≡ Some facet
  pub tied : TraceTied facet f

-- the two facets of each seat are of one machine
abbrev pub TracesAreTied : List PhaseFacet → List TraceFacet → Type 0
TracesAreTied phases traces =
    (seat : ℕ) (f : TraceFacet) → slice_get traces seat ≡ Some f → TracesTiedAt phases seat f

-- ---- rings and the order of the phases

-- it has found a word in a slot, and has not emptied it
abbrev pub TakesWord : rings.Doing → Type 0
TakesWord (rings.taking source word) = Unit {0}
TakesWord (rings.clearing source word) = Unit {0}
TakesWord doing = ⊥

-- a server that has a name or a slot's word to work on works, or is about to empty a slot
abbrev pub ServersAreTied : List PhaseFacet → (ℕ → rings.ServerFacet) → Type 0
ServersAreTied phases servers = (seat server : ℕ) (stage : ServerStage) (ended : ℕ)
    → slice_get phases seat ≡ Some (serving server stage ended true)
    → ((servers server).working ≡ true) ⊎ TakesWord (servers server).doing

-- ---- roots

-- a root word packs the name
pub record IsInRootWord (n : Numbers) (words : List ℕ) (x : Name) : Type 0 where
  pub mutator : ℕ
  pub place : ℕ
  pub within : Within n (root mutator place)
  pub packed : value_at (word_at n words (root mutator place)) ≡ Ref x

-- the names in the heap's roots are those that root words pack: so it is where no mutator is admitted
pub record RootsStand (n : Numbers) (words : List ℕ) (h : Heap) : Type 0 where
  pub packed : (x : Name) → StandsInRoot h x → IsInRootWord n words x
  pub stands : (x : Name) → IsInRootWord n words x → StandsInRoot h x

-- each name that a seat has still to use stands in a root: so it is, too
abbrev pub UsesAreRooted : List (List Name) → Heap → Type 0
UsesAreRooted held h = (seat : ℕ) (names : List Name) (name : Name) → slice_get held seat ≡ Some names
    → Contains names name → StandsInRoot h name

-- ---- barrier rings

-- no barrier slot holds a name
abbrev pub BarriersAreEmpty : Numbers → List ℕ → Type 0
BarriersAreEmpty n words = (m slot : ℕ) → Within n (barrier m slot) → word_at n words (barrier m slot) ≡ 0
