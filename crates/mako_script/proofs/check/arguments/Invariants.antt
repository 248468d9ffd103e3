use Rattle.std.proofs.Common.{◌≡◌, ◌++◌, length, map}
use Rattle.mako_reader.specs.Words.{words_behind}
use Rattle.mako_script.proofs.check.arguments.Given as goal

abbrev pub invariant-loop-word : goal.invariant-loop-word
invariant-loop-word l = record {
  count : length l.words.items ≡ l._word;
  read : map (λ word. word.now) l.words.items ++ words_behind l.rest ≡ words_behind l.text;
}
