-- What is judged, as the definitions see it.
use Rattle.std.specs.Prelude.{List, map}
use Rattle.mako_words.specs.declared.name.Name.{Name}
use Rattle.mako_model.specs.declared.point.Point.{Point}
use Rattle.mako_model.specs.Fronts.{Seen}
use Rattle.mako_model.specs.Legal.{Facts}
use Rattle.mako_judge.specs.declared.setup.Setup.{Setup}

-- the script
abbrev pub script_of : Setup → Facts
script_of s = record {
  roots = s.roots;
  board = s.board;
  tablets = s.tablets;
  entries = s.entries;
  words = s.words;
  cycles = s.cycles;
  generations = s.generations;
  programs = map (λ calls. calls.items) s.programs.items;
}

-- the front
abbrev pub front_of : List Point → List (List Name) → Seen
front_of history cycles = record { history = history; finished = cycles }
