-- Openings, and what steps lead to from there.
use Rattle.std.specs.Prelude.{ℕ, ◌≡◌, ◌≢◌, ◌<◌, [], length, map, slice_get, Some, false}
use Rattle.mako_shape.specs.declared.numbers.Numbers.{Numbers}
use Rattle.mako_shape.specs.Limits.{IsShape}
use Rattle.mako_shape.specs.Places.{Place, root, entry, Within, word_at, total}
use Rattle.mako_names.specs.Tables.{entry_of}
use Rattle.mako_phases.specs.Facets.{idle, resting, outside, PhaseFacet, mutating, serving, collecting, role_of}
use Rattle.mako_phases.specs.Orders.{AreSeated, AreDrained}
use Rattle.mako_phases.specs.Steps.{PhaseScene, PhaseOrderIn, PhaseStep, IsPhaseWord}

-- a seat that is not the collector's, where it begins
abbrev pub IsOpeningFacet : Numbers → PhaseFacet → Type 0
IsOpeningFacet n (mutating admission) = admission ≡ outside
IsOpeningFacet n (serving s stage ended laden) = (s < n.servers) × (stage ≡ resting) × (ended ≡ 0) × (laden ≡ false)
IsOpeningFacet n f = ⊥

abbrev pub IsRootOrEntry : Place → Type 0
IsRootOrEntry (root m q) = Unit {0}
IsRootOrEntry (entry e) = Unit {0}
IsRootOrEntry p = ⊥

-- An opening: all words that the order reads are 0 but roots and entries, no entry has an epoch, and each seat is where
-- it begins.
pub record IsPhaseOpening (n : Numbers) (s : PhaseScene) : Type 0 where
  pub shape : IsShape n
  pub size : length s.words ≡ total n
  pub seat : ℕ
  pub here : slice_get s.facets seat ≡ Some (collecting (idle 0) [])
  pub others : (other : ℕ) (f : PhaseFacet) → slice_get s.facets other ≡ Some f → other ≢ seat → IsOpeningFacet n f
  pub seated : AreSeated n (map role_of s.facets)
  pub words : (p : Place) → IsPhaseWord p → (¬ IsRootOrEntry p) → Within n p → word_at n s.words p ≡ 0
  pub epochs : (e : ℕ) → Within n (entry e) → (entry_of n s.words e).epoch ≡ 0

-- the scenes to which steps lead from an opening, as long as the gates are drained where the collector finds them so
pub data PhaseReached (n : Numbers) : PhaseScene → Type 0 where
  Opens : (s : PhaseScene) → IsPhaseOpening n s → PhaseReached n s
  Goes : (s after : PhaseScene) → PhaseReached n s → AreDrained s.facets → PhaseStep n s after → PhaseReached n after

-- the opening is in order
abbrev pub OpeningsAreInOrder : Type 0
OpeningsAreInOrder = (n : Numbers) (s : PhaseScene) → IsPhaseOpening n s → PhaseOrderIn n s

-- each kind of step keeps the order
abbrev pub StepsKeepPhaseOrder : Type 0
StepsKeepPhaseOrder = (n : Numbers) (s after : PhaseScene) → PhaseOrderIn n s → AreDrained s.facets
    → PhaseStep n s after → PhaseOrderIn n after

-- so all that is reached is in order
abbrev pub ReachedAreInOrder : Type 0
ReachedAreInOrder = (n : Numbers) (s : PhaseScene) → PhaseReached n s → PhaseOrderIn n s
