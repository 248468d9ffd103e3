-- The core at its start.
use Rattle.std.specs.Prelude.{ℕ, zero, suc, ◌+◌, ◌*◌, List, [], ◌∷◌, ◌++◌, replicate, slice_set}
use Rattle.mako_words.specs.Names.{name_word}
use Rattle.mako_words.specs.Entries.{entry_word}
use Rattle.mako_shape.specs.declared.numbers.Numbers.{Numbers}
use Rattle.mako_shape.specs.Places.{Place, root, home, top, entry, region_word, index, total}
use Rattle.mako_shape.specs.Belongings.{opening_home}
use Rattle.mako_model.specs.Fronts.{opening_front}
use Rattle.mako_model.specs.Heaps.{board_name}
use Rattle.mako_script.specs.Programs.{ProgramView}
use Rattle.mako_script.specs.Scripts.{ScriptView}
use Rattle.mako_mutator.specs.Drivers as drivers
use Rattle.mako_mutator.specs.Drivers.{Driving}
use Rattle.mako_server.specs.Serving as serving
use Rattle.mako_pause.specs.Opening as collecting
use Rattle.mako_seat.specs.declared.seat.Seat.{Seat}
use Rattle.mako_seat.specs.declared.seat.Seat.TheVariants.{Mutator, Server, Collector}
use Rattle.mako_layout.specs.Openings.{board_entry}
use Rattle.mako_state.specs.CoreStates.{CoreState}

-- ---- words

-- a place and its word
pub record Placed : Type 0 where
  pub place : Place
  pub word : ℕ

-- root 0 of each of the first mutators names the board
abbrev pub board_roots : ℕ → List Placed
board_roots zero = []
board_roots (suc m) = record { place = root m 0; word = name_word board_name } ∷ board_roots m

-- the homes of the first tablets
abbrev pub first_homes : Numbers → ℕ → List Placed
first_homes n zero = []
first_homes n (suc t) = record { place = home t; word = opening_home n t } ∷ first_homes n t

-- the board's record begins region 0: the top above it, its entry, and its header
abbrev pub board_places : Numbers → ℕ → List Placed
board_places n board =
    record { place = top 0; word = board + 1 }
    ∷ record { place = entry 0; word = entry_word (board_entry n) }
    ∷ record { place = region_word 0 0; word = board }
    ∷ []

abbrev pub opening_places : Numbers → ℕ → List Placed
opening_places n board = board_roots n.mutators ++ (first_homes n (n.servers * n.tablets) ++ board_places n board)

-- the words with each of these at its place
abbrev pub written : Numbers → List ℕ → List Placed → List ℕ
written n ws [] = ws
written n ws (p ∷ ps) = written n (slice_set ws (index n p.place) p.word) ps

-- all other words are 0
unfoldable pub words_at_start : Numbers → ℕ → List ℕ
words_at_start n board = written n (replicate (total n) 0) (opening_places n board)

-- ---- seats

abbrev pub opening_driver : Numbers → ℕ → ProgramView → Driving
opening_driver n m p = drivers.opening (record { shape = n; mutator = m }) p.calls

-- the mutators of these programs, numbered from m on
abbrev pub mutators_from : Numbers → ℕ → List ProgramView → List Seat
mutators_from n m [] = []
mutators_from n m (p ∷ ps) = Mutator (opening_driver n m p) ∷ mutators_from n (m + 1) ps

-- so many servers, numbered from s on
abbrev pub servers_from : Numbers → ℕ → ℕ → List Seat
servers_from n s zero = []
servers_from n s (suc c) = Server (serving.opening n s) ∷ servers_from n (s + 1) c

abbrev pub opening_seats : ScriptView → List Seat
opening_seats s =
    mutators_from s.numbers 0 s.programs
    ++ (servers_from s.numbers 0 s.numbers.servers ++ Collector (collecting.opening s) ∷ [])

-- ---- the whole

-- before the first step
abbrev pub opening_core : ScriptView → CoreState
opening_core s = record {
  words = words_at_start s.numbers s.board;
  seats = opening_seats s;
  front = opening_front;
}
