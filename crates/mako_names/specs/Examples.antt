-- Worked examples: the opening of a small heap, and two entries of it after a cycle freed one of them.
use Rattle.std.specs.Prelude.{ℕ, ◌+◌, ◌^◌, List, [], ◌∷◌, ◌++◌, replicate}
use Rattle.mako_words.specs.Entries.{entry_word}
use Rattle.mako_shape.specs.declared.numbers.Numbers.{Numbers}
use Rattle.mako_model.specs.declared.point.Point.TheVariants.{Snap}
use Rattle.mako_model.specs.Examples.{one, roomy, before_reuse_snap}
use Rattle.mako_model.specs.Fronts.{Seen, opening_front}
use Rattle.mako_names.specs.Going.{Facets}
use Rattle.mako_names.specs.Steps.{NameScene}
use Rattle.mako_names.specs.Tables.{published}
use Rattle.mako_names.specs.Trying.{Nothing}

-- the numbers of the script of `roomy`: one mutator, one server with one tablet of four entries, and two regions
abbrev pub small : Numbers
small = record {
  mutators = 1;
  servers = 1;
  tablets = 1;
  entries = 4;
  words = 16;
  spare = 1;
  ring = 1;
  roots = 4;
  cycles = 10;
  generations = 8;
}

-- 55 words, all but the words of the phase and of entry 1 as they are at the opening: root 0 names the board, the top
-- counts its two words, entry 0 is taken and has its address, and its header is 1
abbrev pub words_with : ℕ → ℕ → List ℕ
words_with phase_is entry_is =
    phase_is ∷ 0 ∷ 0 ∷ 0
    ∷ 2 ^ 63 ∷ 0 ∷ 0 ∷ 0
    ∷ 0 ∷ 0 ∷ 0 ∷ 0 ∷ 0
    ∷ 0 ∷ 0 ∷ 0 ∷ 2 ∷ 0 ∷ 0
    ∷ entry_word (published 0 0 23) ∷ entry_is ∷ 0 ∷ 0
    ∷ 1 ∷ replicate 31 0

-- nobody has begun anything
abbrev pub idle_facets : Facets
idle_facets = record {
  held = replicate 3 [];
  trying = replicate 1 Nothing;
  left = roomy.programs;
  through = replicate 1 0;
  sent = replicate 1 [];
  collector = record { server = 0; names = [] };
}

-- the opening
abbrev pub opened : NameScene
opened = record { words = words_with 0 0; front = opening_front; facets = idle_facets }

-- the same, but entry 1 is taken
abbrev pub taken_too_soon : NameScene
taken_too_soon = record opened { words = words_with 0 (entry_word (published 0 0 25)) }

-- the same, but cycle 1 is traced
abbrev pub traced_too_soon : NameScene
traced_too_soon = record opened { words = words_with (1 + 2 ^ 32) 0 }

-- An object was made in entry 1, and another in entry 2. The first was dropped, and a cycle freed it.
abbrev pub freed_front : Seen
freed_front = record { history = before_reuse_snap ++ Snap 1 ∷ []; finished = (one ∷ []) ∷ [] }
