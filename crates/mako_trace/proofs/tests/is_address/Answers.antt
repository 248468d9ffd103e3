use Rattle.std.proofs.Common.{◌+◌, arith}
use Rattle.std.proofs.lemmas.Nat.{mul-le}
use Rattle.mako_trace.proofs.tests.is_address.Goals as goal

pub region-requires : goal.region-requires
region-requires c =
    let n = c.args.holdings.now.shape in
    let ranges = c.numbers-numbers.ensures.shape.in_range.each in
    let some = mul-le 1 1 n.servers (n.tablets + n.spare) (omega arith) (omega arith) in
    (omega arith, omega arith)
