use Rattle.std.proofs.Common.{◌≤◌, List, ℕ, length}
use Rattle.mako_reader.specs.Words.{lines_of}
use Rattle.mako_script.specs.States.{Between}
use Rattle.mako_script.proofs.Counted.{SectionsRead}
use Rattle.mako_script.proofs.check.sections.Given as goal

abbrev pub invariant-sections : goal.invariant-sections
invariant-sections l = record {
  few : l.sections ≤ 16;
  read : SectionsRead l.roots l.sections l.commands (lines_of l.initial.lines.rest.now) (lines_of l.lines.rest.now);
  between : (text : List ℕ) → Between text l.roots 0 0 l.initial.lines.line (lines_of l.initial.lines.rest.now)
      → Between text l.roots l.sections l.commands l.lines.line (lines_of l.lines.rest.now);
}

abbrev pub decreases-sections : goal.decreases-sections
decreases-sections l = length l.lines.rest.now
