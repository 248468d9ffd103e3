-- What a server keeps of itself and of the words, that no group of the invariant has.
use Rattle.std.specs.Prelude.{ℕ, ◌≡◌, ◌<◌, ◌^◌, ◌⊎◌, List, slice_index, None}
use Rattle.mako_words.specs.declared.name.Name.{Name}
use Rattle.mako_words.specs.Names.{name_word, FitsName}
use Rattle.mako_shape.specs.declared.numbers.Numbers.{Numbers}
use Rattle.mako_shape.specs.Limits.{all_entries}
use Rattle.mako_shape.specs.Places.{work, ghost, Within, word_at}
use Rattle.mako_shape.specs.Belongings.{server_of_entry}
use Rattle.mako_ring.specs.TracerFacts.{TracerStands}
use Rattle.mako_ring.specs.Tracing.{TracerView}
use Rattle.mako_ring.specs.declared.tracing.ScanStage.{ScanStage}
use Rattle.mako_ring.specs.declared.tracing.ScanStage.TheVariants.{FieldLoad, EntryLoad, HeaderLoad}
use Rattle.mako_ring.specs.declared.tracing.TraceStage.{TraceStage}
use Rattle.mako_ring.specs.declared.tracing.TraceStage.TheVariants.{Sending, Scanning, Receiving, Marking, Resting}
use Rattle.mako_ring.specs.declared.tracing.TraceStage.TheVariants.{Ended}
use Rattle.mako_server.specs.Serving.{Serving, IsKnown}

-- the word is that of a name of the server's own
pub record IsNameFor (n : Numbers) (server word : ℕ) : Type 0 where
  pub name : Name
  pub word_is : word ≡ name_word name
  pub fits : FitsName name
  pub in_range : name.entry < all_entries n
  pub own : server_of_entry n name.entry ≡ server

-- each slot that a server takes names from is empty, or has a name of its own
pub record SlotsBelong (n : Numbers) (words : List ℕ) : Type 0 where
  pub works : (r k : ℕ) → Within n (work r k)
      → (word_at n words (work r k) ≡ 0) ⊎ IsNameFor n r (word_at n words (work r k))
  pub ghosts : (a r k : ℕ) → Within n (ghost a r k)
      → (word_at n words (ghost a r k) ≡ 0) ⊎ IsNameFor n r (word_at n words (ghost a r k))

-- the live counts are far from their bounds
abbrev pub CountsAreLow : TracerView → Type 0
CountsAreLow t = (place : ℕ) → slice_index t.lives place < 2 ^ 31

-- while an entry that was taken off is loaded, there is no scan
abbrev pub ScanIsFree : TracerView → ScanStage → Type 0
ScanIsFree t (FieldLoad s) = Unit {0}
ScanIsFree t (EntryLoad x) = t.scan ≡ None
ScanIsFree t (HeaderLoad x address) = t.scan ≡ None

abbrev pub StageIsFree : TracerView → TraceStage → Type 0
StageIsFree t (Sending stage) = Unit {0}
StageIsFree t (Scanning stage) = ScanIsFree t stage
StageIsFree t (Receiving stage) = Unit {0}
StageIsFree t (Marking stage) = Unit {0}
StageIsFree t (Resting stage) = Unit {0}
StageIsFree t Ended = Unit {0}

-- the server's numbers are in their ranges, its tracing stands as polls ask, and its scan is free where it has to be
pub record ServerKeeps (n : Numbers) (v : Serving) : Type 0 where
  pub known : IsKnown v
  pub tracer : TracerStands n v.tracer.server v.tracer
  pub scan : StageIsFree v.tracer v.tracer.stage
