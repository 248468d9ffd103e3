use Rattle.std.proofs.Common.{◌≤◌, ◌+◌, length}
use Rattle.mako_text.specs.Names.{texts}
use Rattle.mako_reader.specs.Words.{lines_of}
use Rattle.mako_reader.proofs.Sections.{CallsSoFar}
use Rattle.mako_reader.proofs.section.program.Given as goal

abbrev pub invariant-commands : goal.invariant-commands
invariant-commands l = record {
  read : CallsSoFar l.roots (lines_of l.text) (texts l.names) l.calls.items (lines_of l.rest);
  count : l.count + length l.calls.items ≤ 1048576;
  left : length l.rest ≤ length l.text;
}

abbrev pub decreases-commands : goal.decreases-commands
decreases-commands l = length l.rest
