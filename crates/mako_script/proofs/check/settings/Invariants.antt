use Rattle.std.proofs.Common.{◌≡◌, length, drop}
use Rattle.mako_script.specs.Checks.{HaveSettings}
use Rattle.mako_reader.specs.Words.{lines_of}
use Rattle.mako_script.proofs.check.settings.Given as goal

abbrev pub invariant-loop-key : goal.invariant-loop-key
invariant-loop-key l = record {
  count : length l.values.items ≡ l.key-index;
  read : HaveSettings (lines_of l.initial.lines.rest.now) l.values.items;
  left : lines_of l.lines.rest.now ≡ drop l.key-index (lines_of l.initial.lines.rest.now);
  line : l.lines.line ≡ l.key-index;
}
