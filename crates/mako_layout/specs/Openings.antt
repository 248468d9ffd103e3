-- The opening: the board's record alone, views at no gate, and the regions without a tablet spare.
use Rattle.std.specs.Prelude.{ℕ, true, ◌+◌, ◌%◌, ◌≤◌, ◌==◌, nat_lt, if◌then◌else◌, List, [], ◌∷◌}
use Rattle.std.proofs.Common.{zero, suc}
use Rattle.mako_words.specs.Names.{name_word}
use Rattle.mako_words.specs.declared.entry_word.EntryWord.{EntryWord}
use Rattle.mako_words.specs.Entries.{entry_word}
use Rattle.mako_shape.specs.declared.numbers.Numbers.{Numbers}
use Rattle.mako_shape.specs.Limits.{IsShape}
use Rattle.mako_shape.specs.Places.{Place, root, home, top, entry, region_word, index}
use Rattle.mako_shape.specs.Belongings.{opening_home}
use Rattle.mako_model.specs.Heaps.{board_name, opening}
use Rattle.mako_gate.specs.Standings.{GateFacet, away, mutator_at}
use Rattle.mako_layout.specs.Layouts.{regions_of}
use Rattle.mako_layout.specs.Facets.{Work, idle, rests_with}
use Rattle.mako_layout.specs.Evacuations.{State, Evacuation}
use Rattle.mako_layout.specs.StepParts.{collector_seat}

-- the board's entry
abbrev pub board_entry : Numbers → EntryWord
board_entry n = record { taken = true; generation = 0; epoch = 0; address = index n (region_word 0 0) }

-- the words, where the board has so many fields
abbrev pub opening_words : Numbers → ℕ → Place → ℕ
opening_words n board (root m q) = if q == 0 then name_word board_name else 0
opening_words n board (home t) = opening_home n t
opening_words n board (top t) = if t == 0 then board + 1 else 0
opening_words n board (entry x) = if x == 0 then entry_word (board_entry n) else 0
opening_words n board (region_word r o) = if r == 0 then (if o == 0 then board else 0) else 0
opening_words n board p = 0

-- so many seats from a number on, each at no gate
abbrev pub seats_from : ℕ → ℕ → List GateFacet
seats_from k zero = []
seats_from k (suc c) = mutator_at k away ∷ seats_from (k + 1) c

abbrev pub idle_works : ℕ → List Work
idle_works zero = []
idle_works (suc c) = idle ∷ idle_works c

-- the spare regions among those below a number: of a server's regions, those behind as many as it has tablets
abbrev pub spares_below : Numbers → ℕ → List ℕ
spares_below n zero = []
spares_below n (suc c) =
    if nat_lt (c % (n.tablets + n.spare)) n.tablets then spares_below n c else c ∷ spares_below n c

abbrev pub opening_state : Numbers → ℕ → State
opening_state n board = record {
  words = opening_words n board;
  heap = opening n.mutators n.roots board n.cycles;
  gates = seats_from 0 (collector_seat n + 1);
  works = idle_works (collector_seat n + 1);
  choice = rests_with (spares_below n (regions_of n));
  made = λ t. if t == 0 then board + 1 else 0;
}

abbrev pub OpeningHolds : Type 0
OpeningHolds = (n : Numbers) → IsShape n → (board : ℕ) → board + 1 ≤ n.words → Evacuation n (opening_state n board)
