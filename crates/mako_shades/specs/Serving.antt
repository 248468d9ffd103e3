-- What servers keep from step to step of their names, stacks and scans, and what is kept of tracing in all.
use Rattle.std.specs.Prelude.{ℕ, ◌≡◌, ◌≢◌, ◌<◌, List, [], ◌∷◌, length, slice_get, Option, Some, None, true}
use Rattle.std.specs.List.{Contains}
use Rattle.mako_words.specs.declared.name.Name.{Name}
use Rattle.mako_words.specs.declared.value.Value.{Value}
use Rattle.mako_shape.specs.declared.numbers.Numbers.{Numbers}
use Rattle.mako_shape.specs.Places.{entry, Within}
use Rattle.mako_shape.specs.Belongings.{server_of_entry}
use Rattle.mako_model.specs.declared.point.Point.{Point}
use Rattle.mako_model.specs.Heaps.{fields_of}
use Rattle.mako_model.specs.Legal.{Facts, state_of}
use Rattle.mako_ring.specs.declared.tracing.Scan.{Scan}
use Rattle.mako_ring.specs.Shades.{entry_of, IsMarked}
use Rattle.mako_ring.specs.TraceFacets.{Hand, empty, considering, marking, pushing, Off, nothing, popped, located, Work}
use Rattle.mako_ring.specs.TraceFacets.{TraceFacet, serving, InHand}
use Rattle.mako_names.specs.Tables.{IsTaken}
use Rattle.mako_shades.specs.Holding.{TracingHolds}

-- the entry is taken and has the epoch of the cycle, whatever its name
pub record IsEntryMarked (n : Numbers) (words : List ℕ) (cycle e : ℕ) : Type 0 where
  pub in_range : Within n (entry e)
  pub taken : (entry_of n words e).taken ≡ true
  pub epoch : (entry_of n words e).epoch ≡ cycle

-- a name that is being marked is taken, and what was loaded of its entry stands there still; then it is marked
abbrev pub HandStands : Numbers → List ℕ → ℕ → Hand → Type 0
HandStands n words cycle empty = Unit {0}
HandStands n words cycle (considering x) = Unit {0}
HandStands n words cycle (marking x e) =
    IsTaken n words x.entry x.generation × (entry_of n words x.entry ≡ e) × (e.epoch ≢ cycle)
HandStands n words cycle (pushing x) = IsMarked n words cycle x

-- no entry stands twice in the list
abbrev pub StandOnce : List ℕ → Type 0
StandOnce [] = Unit {0}
StandOnce (e ∷ es) = (¬ Contains es e) × StandOnce es

-- an entry that is about to be pushed is not on the stack
abbrev pub HandIsFresh : Hand → List ℕ → Type 0
HandIsFresh (pushing x) stack = ¬ Contains stack x.entry
HandIsFresh h stack = Unit {0}

-- an entry that was taken off is marked, and its address stands there still
abbrev pub OffStands : Numbers → List ℕ → ℕ → Off → Type 0
OffStands n words cycle nothing = Unit {0}
OffStands n words cycle (popped e) = IsEntryMarked n words cycle e
OffStands n words cycle (located e address) =
    IsEntryMarked n words cycle e × (address ≡ (entry_of n words e).address)

-- the scan is of a marked object, and has a next field
pub record IsScan (n : Numbers) (w : Facts) (words : List ℕ) (history : List Point) (cycle : ℕ)
    (s : Scan) : Type 0 where
  pub object : Name
  pub marked : IsMarked n words cycle object
  pub address_is : s.address ≡ (entry_of n words object.entry).address
  pub fields : List Value
  pub object_is : fields_of (state_of w history) object ≡ Some fields
  pub count : length fields ≡ s.fields
  pub below : s.next < s.fields

abbrev pub ScanFits : Numbers → Facts → List ℕ → List Point → ℕ → Option Scan → Type 0
ScanFits n w words history cycle None = Unit {0}
ScanFits n w words history cycle (Some s) = IsScan n w words history cycle s

-- The name in a server's hand is one of its own entries. Its stack has marked entries of its own, each once.
pub record ServerStands (n : Numbers) (w : Facts) (words : List ℕ) (history : List Point) (cycle : ℕ)
    (job : Work) : Type 0 where
  pub own : (x : Name) → InHand job.hand x → server_of_entry n x.entry ≡ job.server
  pub hand : HandStands n words cycle job.hand
  pub fresh : HandIsFresh job.hand job.stack
  pub stack : (e : ℕ) → Contains job.stack e → IsEntryMarked n words cycle e
  pub mine : (e : ℕ) → Contains job.stack e → server_of_entry n e ≡ job.server
  pub once : StandOnce job.stack
  pub off : OffStands n words cycle job.off
  pub scan : ScanFits n w words history cycle job.scan

-- what a seat keeps of tracing
abbrev pub SeatTracks : Numbers → Facts → List ℕ → List Point → ℕ → TraceFacet → Type 0
SeatTracks n w words history cycle (serving job) = ServerStands n w words history cycle job
SeatTracks n w words history cycle f = Unit {0}

-- the seat is that of this server
abbrev pub ServerIs : TraceFacet → ℕ → Type 0
ServerIs (serving job) s = job.server ≡ s
ServerIs f s = ⊥

-- there is no second seat of any server
abbrev pub AreSole : List TraceFacet → Type 0
AreSole facets = (seat other : ℕ) (f g : TraceFacet) (s : ℕ) → slice_get facets seat ≡ Some f
    → slice_get facets other ≡ Some g → ServerIs f s → ServerIs g s → seat ≡ other

-- what servers keep stands, and none has a second seat
pub record AreServing (n : Numbers) (w : Facts) (words : List ℕ) (facets : List TraceFacet) (history : List Point)
    (cycle : ℕ) : Type 0 where
  pub each : (seat : ℕ) (f : TraceFacet) → slice_get facets seat ≡ Some f → SeatTracks n w words history cycle f
  pub sole : AreSole facets

-- what is kept of tracing
pub record Tracks (n : Numbers) (w : Facts) (words : List ℕ) (facets : List TraceFacet) (history : List Point)
    (cycle : ℕ) : Type 0 where
  pub tracing : TracingHolds n w words facets history cycle
  pub serving : AreServing n w words facets history cycle
