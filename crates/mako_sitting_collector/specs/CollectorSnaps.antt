-- The store of Trace with the snapshot among all seats.
use Rattle.std.specs.Prelude.{ℕ, ◌≡◌, ◌+◌, ◌<◌, List, [], replicate, slice_get, slice_set, Some}
use Rattle.std.specs.List.{Contains}
use Rattle.mako_words.specs.declared.name.Name.{Name}
use Rattle.mako_shape.specs.declared.numbers.Numbers.{Numbers}
use Rattle.mako_model.specs.Legal.{Facts, state_of}
use Rattle.mako_ring.specs.TraceFacets.{TraceFacet}
use Rattle.mako_shades.specs.Serving.{AreSole}
use Rattle.mako_joint.specs.Joints.{JointScene, Joint}
use Rattle.mako_pause.specs.Collecting.{Holdings, Collecting, at, running}
use Rattle.mako_pause.specs.declared.stage.PauseStage.TheVariants.{StoringTrace}
use Rattle.mako_pause.specs.declared.stage.CollectStage.TheVariants.{Pausing}
use Rattle.mako_seat.specs.declared.seat.Seat.{Seat}
use Rattle.mako_seat.specs.declared.seat.Seat.TheVariants.{Collector}
use Rattle.mako_collecting.specs.Steps.{collector_next, snapped, stepped}
use Rattle.mako_collecting.specs.Ties.{TracesAreTied, RootsStand, UsesAreRooted}
use Rattle.mako_sitting.specs.Seats.{AllSit}

-- no facet stands behind those of the seats
pub record SeatsAreAll (n : Numbers) (s : JointScene) : Type 0 where
  pub traces : (i : ℕ) (f : TraceFacet) → slice_get s.facets.trace i ≡ Some f → i < n.mutators + n.servers + 1
  pub held : (i : ℕ) (names : List Name) (name : Name) → slice_get s.facets.names.held i ≡ Some names
      → Contains names name → i < n.mutators

-- What the facets of tracing, those of the order of the phases, roots and names in use are to each other, as the
-- snapshot
-- asks.
pub record TiesHold (n : Numbers) (w : Facts) (s : JointScene) : Type 0 where
  pub sole : AreSole s.facets.trace
  pub tied : TracesAreTied s.facets.phases s.facets.trace
  pub roots : RootsStand n s.words (state_of w s.front.history)
  pub rooted : UsesAreRooted s.facets.names.held (state_of w s.front.history)

-- at the store of Trace
abbrev pub storing : Holdings → Collecting
storing k = at k (Pausing StoringTrace)

-- all of them hold at the store of Trace
abbrev pub TiesHoldAtSnapshots : Type 0
TiesHoldAtSnapshots = (n : Numbers) (w : Facts) (s : JointScene) (seats : List Seat) (i : ℕ) (k : Holdings)
    → SeatsAreAll n s → AllSit n w s seats → slice_get seats i ≡ Some (Collector (storing k)) → TiesHold n w s

-- the scene after the store of Trace, with the snapshot: no server has gone over an entry, and none has sent a name
abbrev pub snapshot_taken : Numbers → JointScene → Holdings → JointScene
snapshot_taken n s k =
    stepped n (snapped s (running k) (replicate n.servers 0) (replicate n.servers [])) (storing k)

-- all groups hold after the store
abbrev pub SnapshotsKeepGroups : Type 0
SnapshotsKeepGroups = (n : Numbers) (w : Facts) (s : JointScene) (seats : List Seat) (i : ℕ) (k : Holdings)
    → SeatsAreAll n s → AllSit n w s seats → slice_get seats i ≡ Some (Collector (storing k))
    → Joint n w (snapshot_taken n s k)

-- and all seats sit
abbrev pub SnapshotsKeepAll : Type 0
SnapshotsKeepAll = (n : Numbers) (w : Facts) (s : JointScene) (seats : List Seat) (i : ℕ) (k : Holdings)
    → SeatsAreAll n s → AllSit n w s seats → slice_get seats i ≡ Some (Collector (storing k))
    → AllSit n w (snapshot_taken n s k) (slice_set seats i (Collector (collector_next (storing k) s.words)))

-- No step adds a facet behind those of the seats: not where the facets of tracing and the names in use are as they were
-- (`same`), where a seat's facet of tracing changes (`traces`), nor where a mutator's names in use do too (`held`).
pub record SeatsStayAll (n : Numbers) (s after : JointScene) : Type 0 where
  pub same : after.facets.trace ≡ s.facets.trace → after.facets.names.held ≡ s.facets.names.held
      → SeatsAreAll n after
  pub traces : (i : ℕ) (f : TraceFacet) → after.facets.trace ≡ slice_set s.facets.trace i f
      → after.facets.names.held ≡ s.facets.names.held → SeatsAreAll n after
  pub held : (m : ℕ) (f : TraceFacet) (names : List Name) → m < n.mutators
      → after.facets.trace ≡ slice_set s.facets.trace m f
      → after.facets.names.held ≡ slice_set s.facets.names.held m names → SeatsAreAll n after

abbrev pub StepsAddNoFacet : Type 0
StepsAddNoFacet = (n : Numbers) (s after : JointScene) → SeatsAreAll n s → SeatsStayAll n s after
