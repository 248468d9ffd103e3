-- What is true of tracing: the laws, each as a statement.
use Rattle.std.specs.Prelude.{ℕ, Bool, true, ◌≡◌, ◌⊎◌, ◌*◌, ◌<◌, ◌≤◌, ◌^◌, ◌↔◌, List, [], ◌∷◌, ◌++◌, length, slice_get}
use Rattle.std.specs.Prelude.{slice_set, Some}
use Rattle.std.specs.List.{Contains}
use Rattle.mako_words.specs.declared.name.Name.{Name}
use Rattle.mako_words.specs.Names.{name_word, FitsName}
use Rattle.mako_shape.specs.declared.numbers.Numbers.{Numbers}
use Rattle.mako_shape.specs.Limits.{all_entries}
use Rattle.mako_shape.specs.Places.{Place, Within, total, word_at}
use Rattle.mako_model.specs.declared.point.Point.{Point}
use Rattle.mako_model.specs.declared.point.Point.TheVariants.{Snap}
use Rattle.mako_model.specs.Legal.{Facts, state_of, IsLegal}
use Rattle.mako_model.specs.Dead.{names_made}
use Rattle.mako_ring.specs.Shades.{IsMarked, IsQuiet, IsComplete}
use Rattle.mako_ring.specs.TraceFacets.{TraceFacet, Work, pushing, GreyIn}
use Rattle.mako_names.specs.Freeing.{AllMarked, EpochsStand, TraceStands}
use Rattle.mako_names.specs.Steps.{NameScene, NamesHoldIn}
use Rattle.mako_names.specs.Tables.{IsWorkloadOf, entry_of}
use Rattle.mako_names.specs.Uses.{IsGood, IsUseSlot}
use Rattle.mako_shades.specs.Holding.{Keeps, TracingHolds, AgreeOnTrace}
use Rattle.mako_shades.specs.Serving.{ServerStands, AreSole, Tracks}
use Rattle.mako_shades.specs.Stands.{RecordsStand, HeapStands, AreTraced, Retakes}
use Rattle.mako_shades.specs.Steps.{IsReady, TraceScene, TraceStep, IsGathering, IsShading}

-- the heap of the scene stands, as far as tracing asks for it
abbrev pub HeapStandsIn : Numbers → Facts → TraceScene → Type 0
HeapStandsIn n w s = HeapStands n w s.words s.history

-- what is kept of tracing in the scene
abbrev pub TracksIn : Numbers → Facts → ℕ → TraceScene → Type 0
TracksIn n w cycle s = Tracks n w s.words s.facets s.history cycle

-- ---- what is asked

-- what ties entries and names to the front is what tracing asks, but for the records
abbrev pub NamesGiveTheHeap : Type 0
NamesGiveTheHeap = (n : Numbers) (w : Facts) (s : NameScene) → IsWorkloadOf n w → all_entries n ≤ 2 ^ 20
    → NamesHoldIn n w s → RecordsStand n w s.words s.front.history → HeapStands n w s.words s.front.history

-- ---- what is kept

-- the snapshot, with the store of Trace in the first pause, makes the invariant true
abbrev pub TracingBegins : Type 0
TracingBegins = (n : Numbers) (w : Facts) (words words' : List ℕ) (facets : List TraceFacet) (history : List Point)
    (cycle seat : ℕ) (names : List Name) → IsLegal w (history ++ Snap cycle ∷ [])
    → IsReady n w words facets history cycle seat names → AreSole facets → AgreeOnTrace n words words'
    → Tracks n w words' facets (history ++ Snap cycle ∷ []) cycle

-- each kind of step keeps it
abbrev pub StepsKeepTracing : Type 0
StepsKeepTracing = (n : Numbers) (w : Facts) (cycle : ℕ) (s after : TraceScene) → HeapStandsIn n w s
    → TracksIn n w cycle s → TraceStep n w cycle s after → TracksIn n w cycle after

-- steps of two kinds may follow each other within one atomic step: only the words and the history between have to stand
abbrev pub StepsFollow : Type 0
StepsFollow = (n : Numbers) (w : Facts) (cycle : ℕ) (s mid after : TraceScene) → HeapStandsIn n w s
    → HeapStandsIn n w mid → TracksIn n w cycle s → TraceStep n w cycle s mid → TraceStep n w cycle mid after
    → TracksIn n w cycle after

-- of two facets that a seat gets one after the other the last counts
abbrev pub LastFacetsCount : Type 0
LastFacetsCount = (facets : List TraceFacet) (seat : ℕ) (f g : TraceFacet)
    → slice_set (slice_set facets seat f) seat g ≡ slice_set facets seat g

-- ---- what it comes to

-- where the heap is complete, the marked names are exactly the good ones
abbrev pub CompleteMarksTheGood : Type 0
CompleteMarksTheGood = (n : Numbers) (w : Facts) (words : List ℕ) (facets : List TraceFacet) (history : List Point)
    (cycle : ℕ) (admitted : ℕ → Bool) → IsLegal w history → TracingHolds n w words facets history cycle
    → IsComplete n words facets admitted → (x : Name) → IsMarked n words cycle x ↔ IsGood w history x

-- and each taken entry is told to be good or dead
abbrev pub CompleteIsTraced : Type 0
CompleteIsTraced = (n : Numbers) (w : Facts) (words : List ℕ) (facets : List TraceFacet) (history : List Point)
    (cycle : ℕ) (admitted : ℕ → Bool) → HeapStands n w words history → TracingHolds n w words facets history cycle
    → IsComplete n words facets admitted → AreTraced n w words history cycle

-- what is told stays told until the next snapshot, through steps that take an entry again only by a good name with the
-- epoch
abbrev pub TracedStays : Type 0
TracedStays = (n : Numbers) (w : Facts) (words words' : List ℕ) (history points : List Point) (cycle : ℕ)
    → IsLegal w (history ++ points) → (state_of w (history ++ points)).snaps ≡ (state_of w history).snaps
    → Retakes n w words words' (history ++ points) cycle → AreTraced n w words history cycle
    → AreTraced n w words' (history ++ points) cycle

-- a quiet heap stays quiet, but where the collector takes a name out of a barrier slot
abbrev pub QuietHeapsStay : Type 0
QuietHeapsStay = (n : Numbers) (w : Facts) (cycle : ℕ) (s after : TraceScene) → length s.words ≡ total n
    → IsQuiet n s.words s.facets → (step : TraceStep n w cycle s after) → (¬ IsGathering step)
    → IsQuiet n after.words after.facets

-- a complete heap stays complete, but where a put fills its barrier slot
abbrev pub CompleteHeapsStay : Type 0
CompleteHeapsStay = (n : Numbers) (w : Facts) (cycle : ℕ) (s after : TraceScene) (admitted : ℕ → Bool)
    → length s.words ≡ total n → IsComplete n s.words s.facets admitted → (step : TraceStep n w cycle s after)
    → (¬ IsShading step) → IsComplete n after.words after.facets admitted

-- a good name that is not marked was made before the snapshot: so is each name that a server marks
abbrev pub UnmarkedAreOld : Type 0
UnmarkedAreOld = (n : Numbers) (w : Facts) (words : List ℕ) (facets : List TraceFacet) (history : List Point)
    (cycle : ℕ) (t : TracingHolds n w words facets history cycle) → (x : Name) → IsGood w history x
    → (¬ IsMarked n words cycle x) → Contains (names_made t.before) x

-- a server that is about to push an entry has fewer on its stack than there are in its tablets
abbrev pub StacksHaveRoom : Type 0
StacksHaveRoom = (n : Numbers) (w : Facts) (words : List ℕ) (history : List Point) (cycle : ℕ) (job : Work)
    (x : Name) → ServerStands n w words history cycle job → job.hand ≡ pushing x
    → length job.stack < n.entries * n.tablets

-- ---- what it tells of names in use and of epochs

-- each name in a slot is good
abbrev pub SlotNamesAreGood : Type 0
SlotNamesAreGood = (n : Numbers) (w : Facts) (words : List ℕ) (facets : List TraceFacet) (history : List Point)
    (cycle : ℕ) → TracingHolds n w words facets history cycle → (p : Place) (x : Name) → Within n p → IsUseSlot p
    → FitsName x → word_at n words p ≡ name_word x → IsGood w history x

-- and so is each that a server or the collector has, and each that a put keeps
abbrev pub HeldNamesAreGood : Type 0
HeldNamesAreGood = (n : Numbers) (w : Facts) (words : List ℕ) (facets : List TraceFacet) (history : List Point)
    (cycle : ℕ) → TracingHolds n w words facets history cycle → (seat : ℕ) (f : TraceFacet) (x : Name)
    → slice_get facets seat ≡ Some f → GreyIn f x ⊎ Keeps f x → IsGood w history x

-- no taken entry has a later epoch
abbrev pub NoneIsLater : Numbers → List ℕ → ℕ → Type 0
NoneIsLater n words cycle =
    (x : ℕ) → x < all_entries n → (entry_of n words x).taken ≡ true → (entry_of n words x).epoch ≤ cycle

-- while servers trace, epochs are as the ties of names say
abbrev pub EpochsAreTraced : Type 0
EpochsAreTraced = (n : Numbers) (w : Facts) (words : List ℕ) (facets : List TraceFacet) (history : List Point)
    (cycle : ℕ) → TracingHolds n w words facets history cycle → IsLegal w history → NoneIsLater n words cycle
    → TraceStands n words w history cycle

-- where the heap is complete, each name that was reachable at the snapshot has the epoch
abbrev pub CompleteMarksAll : Type 0
CompleteMarksAll = (n : Numbers) (w : Facts) (words : List ℕ) (facets : List TraceFacet) (history : List Point)
    (cycle : ℕ) → TracingHolds n w words facets history cycle → IsLegal w history → (admitted : ℕ → Bool)
    → IsComplete n words facets admitted → AllMarked n words w history cycle

-- and where taken entries are told, epochs are as the ties of names say while no cycle is traced
abbrev pub TracedGiveEpochs : Type 0
TracedGiveEpochs = (n : Numbers) (w : Facts) (words : List ℕ) (history : List Point) (cycle : ℕ)
    → (state_of w history).snaps ≡ cycle → NoneIsLater n words cycle → AreTraced n w words history cycle
    → EpochsStand n words w history cycle
