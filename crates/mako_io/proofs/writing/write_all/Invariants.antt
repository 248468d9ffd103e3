use Rattle.std.proofs.Common.{◌≤◌, ◌-◌, length, take}
use Rattle.std.specs.Io.KnownBytes.{Appends}
use Rattle.mako_io.proofs.writing.write_all.Given as goal

abbrev pub invariant-loop-went : goal.invariant-loop-went
invariant-loop-went g l = record {
  within : l.went ≤ length l.bytes;
  counted : g.K.Sink.faults l.initial.sink ≤ g.K.Sink.faults l.sink;
  grown : Appends (g.K.Sink.taken l.initial.sink) (g.K.Sink.taken l.sink) (take l.went l.bytes);
}

abbrev pub decreases-loop-went : goal.decreases-loop-went
decreases-loop-went g l = length l.bytes - l.went
