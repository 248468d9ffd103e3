use Rattle.std.proofs.Common.{refl}
use Rattle.mako_shape.proofs.Ranges.{no_fault}
use Rattle.mako_gen.specs.Workloads.{numbers}
use Rattle.mako_gen.proofs.Proper.{is_shape}
use Rattle.mako_gen.proofs.workload.shape.Goals as goal

pub unreachable-requires : goal.unreachable-requires
unreachable-requires c = no_fault numbers c.in-Err.field-0 is_shape ((c.in-Err.ensures.fault c.in-Err.field-0).0 refl)
