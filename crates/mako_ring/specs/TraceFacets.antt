-- What tracing reads of each seat.
use Rattle.std.specs.Prelude.{ℕ, Bool, true, false, ◌≡◌, ◌≤◌, ◌⊎◌, ◌||◌, List, [], ◌∷◌, Some, None, is_some}
use Rattle.std.specs.List.{Contains}
use Rattle.std.specs.declared.option.Option.{Option}
use Rattle.mako_words.specs.declared.name.Name.{Name}
use Rattle.mako_words.specs.declared.entry_word.EntryWord.{EntryWord}
use Rattle.mako_ring.specs.declared.tracing.Scan.{Scan}

-- a name that a server considers
pub data Hand : Type 0 where
  empty : Hand
  -- taken out of a slot or found by the scan
  considering : Name → Hand
  -- its entry was loaded, and has another epoch
  marking : Name → EntryWord → Hand
  -- marked, and not yet pushed
  pushing : Name → Hand

-- an entry that a server took off its stack, whose scan has not begun
pub data Off : Type 0 where
  nothing : Off
  popped : (entry : ℕ) → Off
  -- and the address that was loaded
  located : (entry address : ℕ) → Off

-- what a server has to do: a name in hand, one for another server, the entries on its stack, the entry that it
-- took off, and its scan
pub record Work : Type 0 where
  pub server : ℕ
  pub hand : Hand
  pub outgoing : Option Name
  pub stack : List ℕ
  pub off : Off
  pub scan : Option Scan

-- what tracing reads of a seat
pub data TraceFacet : Type 0 where
  -- nothing
  apart : TraceFacet
  -- a put that found this name in that field of the object, and has not stored it into its barrier slot
  looking : (object : Name) (field : ℕ) (old : Name) → TraceFacet
  -- a put that has looked at the field and is to store it
  storing : (object : Name) (field : ℕ) → TraceFacet
  -- a swap that expects this name, and has not stored it into its barrier slot
  expecting : (expected : Name) → TraceFacet
  -- a swap that has, and is to exchange
  swapping : (expected : Name) → TraceFacet
  -- a server
  serving : Work → TraceFacet
  -- the collector, with its pending names
  collecting : List Name → TraceFacet

-- the name is in the hand
abbrev pub InHand : Hand → Name → Type 0
InHand empty x = ⊥
InHand (considering y) x = y ≡ x
InHand (marking y e) x = y ≡ x
InHand (pushing y) x = y ≡ x

-- the hand has marked this entry, and not yet pushed it
abbrev pub IsPushing : Hand → ℕ → Type 0
IsPushing (pushing y) entry = y.entry ≡ entry
IsPushing hand entry = ⊥

-- the entry was taken off
abbrev pub IsOff : Off → ℕ → Type 0
IsOff nothing entry = ⊥
IsOff (popped e) entry = e ≡ entry
IsOff (located e address) entry = e ≡ entry

-- the scan is of the record at that address, and has not yet loaded that field
abbrev pub ScanAwaits : Option Scan → ℕ → ℕ → Type 0
ScanAwaits (Some s) address field = (s.address ≡ address) × (s.next ≤ field)
ScanAwaits None address field = ⊥

-- the seat holds a grey name
abbrev pub GreyIn : TraceFacet → Name → Type 0
GreyIn (serving w) x = InHand w.hand x ⊎ (w.outgoing ≡ Some x)
GreyIn (collecting names) x = Contains names x
GreyIn f x = ⊥

-- the seat has still to load that field of the marked object with this entry and address
abbrev pub WorksOn : TraceFacet → (entry address field : ℕ) → Type 0
WorksOn (serving w) entry address field =
    (IsPushing w.hand entry ⊎ Contains w.stack entry) ⊎ (IsOff w.off entry ⊎ ScanAwaits w.scan address field)
WorksOn f entry address field = ⊥

-- the seat has nothing left to trace
abbrev pub IsIdle : TraceFacet → Type 0
IsIdle (serving w) = (w.hand ≡ empty) × (w.outgoing ≡ None) × (w.stack ≡ []) × (w.off ≡ nothing) × (w.scan ≡ None)
IsIdle (collecting names) = names ≡ []
IsIdle f = Unit {0}

-- the same as tests
abbrev pub has_hand : Hand → Bool
has_hand empty = false
has_hand (considering x) = true
has_hand (marking x e) = true
has_hand (pushing x) = true

abbrev pub has_off : Off → Bool
has_off nothing = false
has_off (popped x) = true
has_off (located x address) = true

abbrev pub is_filled : {A : Type 0} → List A → Bool
is_filled [] = false
is_filled (x ∷ xs) = true

-- the server has something to trace
abbrev pub is_working : Work → Bool
is_working w = has_hand w.hand || (has_off w.off || (is_some w.outgoing || (is_some w.scan || is_filled w.stack)))
