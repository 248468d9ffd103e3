use Rattle.std.proofs.Common.{◌≡◌, ◌≤◌, ◌*◌, ◌^◌, length, take, sum_by}
use Rattle.mako_cli.proofs.load.count_freed.Given as goal

-- each list has fewer than 2 ^ 64 names
abbrev pub invariant-loop-index : goal.invariant-loop-index
invariant-loop-index l = record {
  sum : l.names ≡ sum_by length (take l.index l.cycles.lists);
  most : l.names ≤ l.index * 2 ^ 64;
}
