-- Worked examples: a small heap at its first snapshot, and states of it that tracing refuses.
use Rattle.std.specs.Prelude.{ℕ, ◌+◌, ◌^◌, List, [], ◌∷◌, ◌++◌, replicate, None}
use Rattle.mako_words.specs.declared.name.Name.{Name}
use Rattle.mako_words.specs.declared.value.Value.TheVariants.{Ref}
use Rattle.mako_words.specs.Values.{value_word}
use Rattle.mako_shape.specs.declared.numbers.Numbers.{Numbers}
use Rattle.mako_model.specs.declared.call.Call.TheVariants.{New, Put, DropRoot}
use Rattle.mako_model.specs.declared.reply.Reply.TheVariants.{Made, Done}
use Rattle.mako_model.specs.declared.point.Point.{Point}
use Rattle.mako_model.specs.declared.point.Point.TheVariants.{Did, Snap}
use Rattle.mako_model.specs.Examples.{one}
use Rattle.mako_model.specs.Heaps.{board_name}
use Rattle.mako_model.specs.Legal.{Facts}
use Rattle.mako_ring.specs.TraceFacets.{empty, nothing, Work, TraceFacet, apart, serving, collecting}

-- one mutator with two roots, and one server with a tablet of two entries
abbrev pub small : Numbers
small = record {
  mutators = 1;
  servers = 1;
  tablets = 1;
  entries = 2;
  words = 16;
  spare = 1;
  ring = 1;
  roots = 2;
  cycles = 1;
  generations = 2;
}

abbrev pub small_facts : Facts
small_facts = record {
  roots = 2;
  board = 1;
  tablets = 1;
  entries = 2;
  words = 16;
  cycles = 1;
  generations = 2;
  programs = [] ∷ [];
}

-- All words of the heap, while cycle 1 is traced, but for the words of the two entries and of the board's field: phase,
-- demand and finished; a gate, two roots and a barrier slot; flags and three slots; six words of the tablet; two
-- entries; and two regions, of which the first has the board, and behind it an object with no fields.
abbrev pub words_with : (board one field : ℕ) → List ℕ
words_with board one field =
    (1 + 2 ^ 32) ∷ 1 ∷ 0
    ∷ 0 ∷ 2 ^ 63 ∷ 0 ∷ 0
    ∷ 0 ∷ 0 ∷ 0 ∷ 0
    ∷ 0 ∷ 0 ∷ 0 ∷ 2 ∷ 0 ∷ 0
    ∷ board ∷ one
    ∷ 1 ∷ field ∷ replicate 30 0

-- the board's entry is taken, with its address and no epoch yet, and the other entry is free
abbrev pub small_words : List ℕ
small_words = words_with (2 ^ 63 + 19) 0 0

-- a server with these entries on its stack, and nothing else
abbrev pub stacked : List ℕ → Work
stacked stack = record { server = 0; hand = empty; outgoing = None; stack = stack; off = nothing; scan = None }

-- a mutator that puts nothing, the server with this stack, and the collector with these pending names
abbrev pub seats_with : (stack : List ℕ) → (pending : List Name) → List TraceFacet
seats_with stack pending = apart ∷ serving (stacked stack) ∷ collecting pending ∷ []

-- the collector has the name that stands in a root
abbrev pub small_seats : List TraceFacet
small_seats = seats_with [] (board_name ∷ [])

-- the snapshot is all that happened
abbrev pub small_history : List Point
small_history = Snap 1 ∷ []

-- ---- what is not met

-- nobody has any name
abbrev pub forgetful_seats : List TraceFacet
forgetful_seats = seats_with [] []

-- the collector has also a name that was never made
abbrev pub inventive_seats : List TraceFacet
inventive_seats = seats_with [] (board_name ∷ one ∷ [])

-- the server has the board's entry on its stack
abbrev pub hasty_seats : List TraceFacet
hasty_seats = seats_with (0 ∷ []) (board_name ∷ [])

-- entry 1 is taken, for which no name was made
abbrev pub words_too_soon : List ℕ
words_too_soon = words_with (2 ^ 63 + 19) (2 ^ 63 + 21) 0

-- ---- an object that no root names

-- before the snapshot the mutator made an object, put its name into the board's field, and dropped its root
abbrev pub linking : List Point
linking = Did 0 (New 1 0) (Made one) ∷ Did 0 (Put 0 0 1) Done ∷ Did 0 (DropRoot 1) Done ∷ []

abbrev pub linked_history : List Point
linked_history = linking ++ Snap 1 ∷ []

-- the board is marked, and the object that its field names is not
abbrev pub linked_words : List ℕ
linked_words = words_with (2 ^ 63 + 2 ^ 23 + 19) (2 ^ 63 + 21) (value_word (Ref one))

-- the server has the board's entry on its stack, and nothing is pending
abbrev pub linked_seats : List TraceFacet
linked_seats = seats_with (0 ∷ []) []
