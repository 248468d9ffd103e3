use Rattle.std.proofs.Common.{◌≤◌, ◌∷◌, [], List, ℕ, length, map}
use Rattle.mako_text.specs.Names.{board_word}
use Rattle.mako_reader.specs.Words.{lines_of}
use Rattle.mako_script.specs.States.{Inside}
use Rattle.mako_script.proofs.Counted.{CallsRead}
use Rattle.mako_script.proofs.check.section.Given as goal

abbrev pub invariant-commands : goal.invariant-commands
invariant-commands l = record {
  few : length l.names.items ≤ 32;
  left : length l.lines.rest.now ≤ length l.initial.lines.rest.now;
  read : 1 ≤ l.roots → l.before ≤ 1048576
      → CallsRead l.roots l.before l.commands (map (λ name. name.now) l.names.items) (lines_of l.initial.lines.rest.now)
      (lines_of l.lines.rest.now);
  inside : (text : List ℕ) (sections : ℕ)
      → Inside text l.roots sections l.before (board_word ∷ []) l.initial.lines.line (lines_of l.initial.lines.rest.now)
      → Inside text l.roots sections l.commands (map (λ name. name.now) l.names.items) l.lines.line
      (lines_of l.lines.rest.now);
}

abbrev pub decreases-commands : goal.decreases-commands
decreases-commands l = length l.lines.rest.now
