-- The kinds of step in the tracing of a cycle, and the snapshot that begins it.
use Rattle.std.specs.Prelude.{ℕ, ◌≡◌, ◌≢◌, ◌+◌, ◌<◌, ◌==◌, List, [], ◌∷◌, ◌++◌, length, slice_get, slice_set}
use Rattle.std.specs.Prelude.{slice_index, Option, Some, None, true, false, if◌then◌else◌}
use Rattle.std.specs.List.{Contains}
use Rattle.mako_words.specs.declared.name.Name.{Name}
use Rattle.mako_words.specs.declared.value.Value.{Value}
use Rattle.mako_words.specs.declared.value.Value.TheVariants.{Ref}
use Rattle.mako_words.specs.declared.entry_word.EntryWord.{EntryWord}
use Rattle.mako_words.specs.Entries.{entry_at}
use Rattle.mako_words.specs.Names.{name_word, FitsName}
use Rattle.mako_words.specs.Values.{value_at}
use Rattle.mako_shape.specs.declared.numbers.Numbers.{Numbers}
use Rattle.mako_shape.specs.Places.{Place, barrier, work, ghost, entry, index, Within, word_at}
use Rattle.mako_shape.specs.Belongings.{server_of_entry}
use Rattle.mako_model.specs.declared.call.Call.{Call}
use Rattle.mako_model.specs.declared.call.Call.TheVariants as call
use Rattle.mako_model.specs.declared.reply.Reply.{Reply}
use Rattle.mako_model.specs.declared.reply.Reply.TheVariants as reply
use Rattle.mako_model.specs.declared.point.Point.{Point}
use Rattle.mako_model.specs.declared.point.Point.TheVariants.{Did}
use Rattle.mako_model.specs.Heaps.{fields_of, root_of}
use Rattle.mako_model.specs.Lawful.{IsNoRef, HasRoot, RefersTo, IsLawful}
use Rattle.mako_model.specs.Legal.{Facts, state_of}
use Rattle.mako_model.specs.Reachable.{StandsInRoot}
use Rattle.mako_ring.specs.declared.tracing.Scan.{Scan}
use Rattle.mako_ring.specs.Shades.{entry_of, IsMarked, IsShadeSlot}
use Rattle.mako_ring.specs.TraceFacets.{empty, considering, marking, pushing, nothing, popped, located, Work}
use Rattle.mako_ring.specs.TraceFacets.{TraceFacet, apart, looking, storing, expecting, swapping, serving, collecting}
use Rattle.mako_ring.specs.TraceFacets.{IsIdle}
use Rattle.mako_shades.specs.Holding.{AgreeOnTrace}

-- what tracing reads of a state
pub record TraceScene : Type 0 where
  pub words : List ℕ
  pub facets : List TraceFacet
  pub history : List Point

-- ---- the snapshot

-- the seat has nothing to do with tracing: so it is with all but the collector's when the tracing of a cycle begins
abbrev pub IsAtRest : TraceFacet → Type 0
IsAtRest (looking object field old) = ⊥
IsAtRest (storing object field) = ⊥
IsAtRest (expecting expected) = ⊥
IsAtRest (swapping expected) = ⊥
IsAtRest f = IsIdle f

-- Where the snapshot may be taken: the pending names are those of the roots, nothing else is grey, no put is on its
-- way (no mutator is admitted), and no entry has the epoch of the new cycle.
pub record IsReady (n : Numbers) (w : Facts) (words : List ℕ) (facets : List TraceFacet) (history : List Point)
    (cycle seat : ℕ) (names : List Name) : Type 0 where
  pub here : slice_get facets seat ≡ Some (collecting names)
  pub roots : (x : Name) → StandsInRoot (state_of w history) x → Contains names x
  pub pending : (x : Name) → Contains names x → StandsInRoot (state_of w history) x
  pub others : (other : ℕ) (f : TraceFacet) → slice_get facets other ≡ Some f → other ≢ seat → IsAtRest f
  pub slots : (p : Place) → IsShadeSlot p → Within n p → word_at n words p ≡ 0
  pub unmarked : (x : Name) → ¬ IsMarked n words cycle x

-- ---- parts of steps

-- the reply makes no object and changes none
abbrev pub LeavesObjects : Call → Reply → Type 0
LeavesObjects c (reply.Made x) = ⊥
LeavesObjects (call.Put to field from) reply.Done = ⊥
LeavesObjects c r = Unit {0}

-- the facet of one seat changes
abbrev pub with_facet : TraceScene → ℕ → TraceFacet → TraceScene
with_facet s seat f = record s { facets = slice_set s.facets seat f }

-- and so does the word at a place
abbrev pub with_word : Numbers → TraceScene → Place → ℕ → ℕ → TraceFacet → TraceScene
with_word n s p word seat f =
    record s { words = slice_set s.words (index n p) word; facets = slice_set s.facets seat f }

-- and the history goes on with a reply
abbrev pub with_reply : TraceScene → List ℕ → ℕ → Call → Reply → TraceScene
with_reply s words m c r = record s { words = words; history = s.history ++ Did m c r ∷ [] }

-- the seat is a server's, with this to do
abbrev pub IsServing : TraceScene → ℕ → Work → Type 0
IsServing s seat job = slice_get s.facets seat ≡ Some (serving job)

-- a slot that a server takes names from
abbrev pub IsIncoming : Place → Type 0
IsIncoming (work s slot) = Unit {0}
IsIncoming (ghost sender receiver slot) = Unit {0}
IsIncoming p = ⊥

-- the value that a field of a record packs
abbrev pub value_in : List ℕ → (address field : ℕ) → Value
value_in words address field = value_at (slice_index words (address + 1 + field))

-- the value that the next field of a scan packs
abbrev pub next_value : List ℕ → Scan → Value
next_value words scan = value_in words scan.address scan.next

-- the scan behind its next field
abbrev pub next_scan : Scan → Option Scan
next_scan scan = if scan.next + 1 == scan.fields then None else Some (record scan { next = scan.next + 1 })

-- the field that a put is to store: a root refers to the object, which has the field, and this is its address
pub record AimsAt (n : Numbers) (w : Facts) (s : TraceScene) (m root : ℕ) (object : Name) (fields : List Value)
    (field address : ℕ) : Type 0 where
  pub refers : RefersTo (state_of w s.history) m root object fields
  pub inside : field < length fields
  pub address_is : address ≡ (entry_of n s.words object.entry).address

-- the word of a free entry comes to stand for a fresh name, taken and with the epoch
pub record MayMake (n : Numbers) (w : Facts) (cycle : ℕ) (s : TraceScene) (m root : ℕ) (x : Name)
    (word : ℕ) : Type 0 where
  pub has : HasRoot (state_of w s.history) m root
  pub fresh : fields_of (state_of w s.history) x ≡ None
  pub within : Within n (entry x.entry)
  pub free : (entry_of n s.words x.entry).taken ≡ false
  pub taken : (entry_at word).taken ≡ true
  pub generation : (entry_at word).generation ≡ x.generation
  pub epoch : (entry_at word).epoch ≡ cycle

-- ---- the kinds

-- One step in the tracing of a cycle. Each kind says what its act found, and what its seat's other facts give.
pub data TraceStep (n : Numbers) (w : Facts) (cycle : ℕ) (s after : TraceScene) : Type 0 where
  -- another word is stored, and no facet changes
  Unseen : (words : List ℕ) → AgreeOnTrace n s.words words → after ≡ record s { words = words }
      → TraceStep n w cycle s after
  -- a reply that changes no object
  Decides : (words : List ℕ) → AgreeOnTrace n s.words words → (m : ℕ) (c : Call) (r : Reply)
      → IsLawful (state_of w s.history) (Did m c r) → LeavesObjects c r → after ≡ with_reply s words m c r
      → TraceStep n w cycle s after
  -- a `new` publishes its entry
  Makes : (seat m root count : ℕ) (x : Name) (word : ℕ) → slice_get s.facets seat ≡ Some apart
      → MayMake n w cycle s m root x word
      → after ≡ with_reply s (slice_set s.words (index n (entry x.entry)) word) m (call.New root count) (reply.Made x)
      → TraceStep n w cycle s after
  -- a put looks at its field and finds a name
  Finds : (seat m root : ℕ) (object : Name) (fields : List Value) (field address : ℕ) (old : Name)
      → slice_get s.facets seat ≡ Some apart → AimsAt n w s m root object fields field address
      → value_in s.words address field ≡ Ref old → after ≡ with_facet s seat (looking object field old)
      → TraceStep n w cycle s after
  -- or finds none
  Passes : (seat m root : ℕ) (object : Name) (fields : List Value) (field address : ℕ)
      → slice_get s.facets seat ≡ Some apart → AimsAt n w s m root object fields field address
      → IsNoRef (value_in s.words address field) → after ≡ with_facet s seat (storing object field)
      → TraceStep n w cycle s after
  -- it finds its barrier slot filled
  GivesUp : (seat : ℕ) (object : Name) (field : ℕ) (old : Name)
      → slice_get s.facets seat ≡ Some (looking object field old) → after ≡ with_facet s seat apart
      → TraceStep n w cycle s after
  -- or stores the name there
  Shades : (seat : ℕ) (object : Name) (field : ℕ) (old : Name) (m slot : ℕ)
      → slice_get s.facets seat ≡ Some (looking object field old) → Within n (barrier m slot)
      → word_at n s.words (barrier m slot) ≡ 0
      → after ≡ with_word n s (barrier m slot) (name_word old) seat (storing object field)
      → TraceStep n w cycle s after
  -- and stores the field
  Stores : (seat m to from field : ℕ) (object : Name) (fields : List Value) (v : Value) (words : List ℕ)
      → slice_get s.facets seat ≡ Some (storing object field)
      → RefersTo (state_of w s.history) m to object fields → field < length fields
      → root_of (state_of w s.history) m from ≡ Some v → AgreeOnTrace n s.words words
      → after ≡ with_reply (with_facet s seat apart) words m (call.Put to field from) reply.Done
      → TraceStep n w cycle s after
  -- the collector forwards its first pending name
  Forwards : (seat : ℕ) (x : Name) (rest : List Name) (server slot : ℕ)
      → slice_get s.facets seat ≡ Some (collecting (x ∷ rest)) → Within n (work server slot)
      → word_at n s.words (work server slot) ≡ 0
      → after ≡ with_word n s (work server slot) (name_word x) seat (collecting rest) → TraceStep n w cycle s after
  -- it takes a name out of a barrier slot
  Gathers : (seat : ℕ) (names : List Name) (x : Name) (m slot : ℕ)
      → slice_get s.facets seat ≡ Some (collecting names) → Within n (barrier m slot) → FitsName x
      → word_at n s.words (barrier m slot) ≡ name_word x
      → after ≡ with_word n s (barrier m slot) 0 seat (collecting (names ++ x ∷ [])) → TraceStep n w cycle s after
  -- a server takes a name of its own out of a work or ghost slot
  Takes : (seat : ℕ) (job : Work) (p : Place) (x : Name) → IsServing s seat job → job.hand ≡ empty → IsIncoming p
      → Within n p → FitsName x → word_at n s.words p ≡ name_word x → server_of_entry n x.entry ≡ job.server
      → after ≡ with_word n s p 0 seat (serving (record job { hand = considering x })) → TraceStep n w cycle s after
  -- it loads the entry of the name in its hand, which has the epoch
  Dismisses : (seat : ℕ) (job : Work) (x : Name) → IsServing s seat job → job.hand ≡ considering x
      → (entry_of n s.words x.entry).epoch ≡ cycle → after ≡ with_facet s seat (serving (record job { hand = empty }))
      → TraceStep n w cycle s after
  -- or has another
  LooksUp : (seat : ℕ) (job : Work) (x : Name) → IsServing s seat job → job.hand ≡ considering x
      → (entry_of n s.words x.entry).epoch ≢ cycle
      → after ≡ with_facet s seat (serving (record job { hand = marking x (entry_of n s.words x.entry) }))
      → TraceStep n w cycle s after
  -- it stores the entry with the epoch
  Marks : (seat : ℕ) (job : Work) (x : Name) (e : EntryWord) (word : ℕ) → IsServing s seat job
      → job.hand ≡ marking x e → entry_at word ≡ record e { epoch = cycle }
      → after ≡ with_word n s (entry x.entry) word seat (serving (record job { hand = pushing x }))
      → TraceStep n w cycle s after
  -- and pushes it
  Pushes : (seat : ℕ) (job : Work) (x : Name) → IsServing s seat job → job.hand ≡ pushing x
      → after ≡ with_facet s seat (serving (record job { hand = empty; stack = job.stack ++ x.entry ∷ [] }))
      → TraceStep n w cycle s after
  -- it takes the top entry off its stack
  TakesOff : (seat : ℕ) (job : Work) (rest : List ℕ) (e : ℕ) → IsServing s seat job → job.stack ≡ rest ++ e ∷ []
      → job.off ≡ nothing → after ≡ with_facet s seat (serving (record job { stack = rest; off = popped e }))
      → TraceStep n w cycle s after
  -- loads it
  Locates : (seat : ℕ) (job : Work) (e : ℕ) → IsServing s seat job → job.off ≡ popped e
      → after ≡ with_facet s seat (serving (record job { off = located e (entry_of n s.words e).address }))
      → TraceStep n w cycle s after
  -- loads the header, which is 0
  Skips : (seat : ℕ) (job : Work) (e address : ℕ) → IsServing s seat job → job.off ≡ located e address
      → slice_index s.words address ≡ 0 → after ≡ with_facet s seat (serving (record job { off = nothing }))
      → TraceStep n w cycle s after
  -- or begins its scan
  Begins : (seat : ℕ) (job : Work) (e address : ℕ) → IsServing s seat job → job.off ≡ located e address
      → job.scan ≡ None → 0 < slice_index s.words address
      → after ≡ with_facet s seat (serving (record job {
        off = nothing;
        scan = Some (record { address = address; fields = slice_index s.words address; next = 0 });
      }))
      → TraceStep n w cycle s after
  -- it loads the next field of its scan, which holds a name of its own
  ScansOwn : (seat : ℕ) (job : Work) (scan : Scan) (x : Name) → IsServing s seat job → job.scan ≡ Some scan
      → job.hand ≡ empty → next_value s.words scan ≡ Ref x → server_of_entry n x.entry ≡ job.server
      → after ≡ with_facet s seat (serving (record job { hand = considering x; scan = next_scan scan }))
      → TraceStep n w cycle s after
  -- or one of another server
  ScansForeign : (seat : ℕ) (job : Work) (scan : Scan) (x : Name) → IsServing s seat job → job.scan ≡ Some scan
      → job.outgoing ≡ None → next_value s.words scan ≡ Ref x
      → after ≡ with_facet s seat (serving (record job { outgoing = Some x; scan = next_scan scan }))
      → TraceStep n w cycle s after
  -- or no name
  ScansOn : (seat : ℕ) (job : Work) (scan : Scan) → IsServing s seat job → job.scan ≡ Some scan
      → IsNoRef (next_value s.words scan)
      → after ≡ with_facet s seat (serving (record job { scan = next_scan scan })) → TraceStep n w cycle s after
  -- it puts its outgoing name into a ghost slot
  Sends : (seat : ℕ) (job : Work) (x : Name) (sender receiver slot : ℕ) → IsServing s seat job
      → job.outgoing ≡ Some x → Within n (ghost sender receiver slot)
      → word_at n s.words (ghost sender receiver slot) ≡ 0
      → after ≡ with_word n s (ghost sender receiver slot) (name_word x) seat (serving (record job { outgoing = None }))
      → TraceStep n w cycle s after

-- the collector takes a name out of a barrier slot
abbrev pub IsGathering : {n : Numbers} {w : Facts} {cycle : ℕ} {s after : TraceScene} → TraceStep n w cycle s after
    → Type 0
IsGathering (Gathers seat names x m slot here within fits is e) = Unit {0}
IsGathering step = ⊥

-- a put stores a name into its barrier slot
abbrev pub IsShading : {n : Numbers} {w : Facts} {cycle : ℕ} {s after : TraceScene} → TraceStep n w cycle s after
    → Type 0
IsShading (Shades seat object field old m slot here within free e) = Unit {0}
IsShading step = ⊥
