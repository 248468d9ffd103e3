-- What the plain heap needs of a script.
use Rattle.std.specs.Prelude.{◌*◌, map}
use Rattle.mako_model.specs.Legal.{Facts}
use Rattle.mako_text.specs.Scripts.{ScriptView}

abbrev pub facts_of : ScriptView → Facts
facts_of s = record {
  roots = s.numbers.roots;
  board = s.board;
  tablets = s.numbers.servers * s.numbers.tablets;
  entries = s.numbers.entries;
  words = s.numbers.words;
  cycles = s.numbers.cycles;
  generations = s.numbers.generations;
  programs = map (λ p. p.calls) s.programs;
}
