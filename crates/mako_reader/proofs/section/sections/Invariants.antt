use Rattle.std.proofs.Common.{◌≤◌, length}
use Rattle.mako_reader.specs.Words.{lines_of}
use Rattle.mako_reader.proofs.Sections.{SectionsSoFar}
use Rattle.mako_reader.proofs.section.sections.Given as goal

abbrev pub invariant-loop-rest : goal.invariant-loop-rest
invariant-loop-rest l = record {
  read : SectionsSoFar l.roots l.count (lines_of l.text) l.programs.items (lines_of l.rest);
  few : length l.programs.items ≤ 16;
  count : l.count ≤ 1048576;
}

abbrev pub decreases-loop-rest : goal.decreases-loop-rest
decreases-loop-rest l = length l.rest
