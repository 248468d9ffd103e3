use Rattle.std.proofs.Common.{◌+◌, arith}
use Rattle.mako_io.proofs.Parts.{TakesMore-part, TakesAtMost-part}
use Rattle.mako_io.proofs.reading.read_all.Goals as goal

pub returns-then-count-limit-clause-too_long : goal.returns-then-count-limit-clause-too_long
returns-then-count-limit-clause-too_long g c was =
    TakesMore-part _ _ _ c.loop-count.bytes.items c.read.new.buf c.args.limit c.in-Ok.count c.loop-count.invariant.given
    c.in-Ok.ensures.given
    (omega (arith, c.in-Ok.ensures.bound, c.read.auto.buf))
    (omega (arith, c.if-count-limit.true, c.len.ensures, c.loop-count.bytes.ok.0))

pub returns-then-count-limit-clause-bounded : goal.returns-then-count-limit-clause-bounded
returns-then-count-limit-clause-bounded g c =
    TakesAtMost-part _ _ _ c.loop-count.bytes.items c.read.new.buf
    (c.args.limit + 4096) c.in-Ok.count c.loop-count.invariant.given c.in-Ok.ensures.given
    (omega (
      arith,
      c.loop-count.invariant.within,
      c.loop-count.invariant.part,
      c.in-Ok.ensures.bound,
      c.loop-count.bytes.ok.0,
    ))

pub returns-in_err-map_err-clause-not_too_long : goal.returns-in_err-map_err-clause-not_too_long
returns-in_err-map_err-clause-not_too_long g c other =
    TakesAtMost-part _ _ _ c.loop-count.bytes.items c.read.new.buf c.args.limit c.in-Ok.count
    c.loop-count.invariant.given c.in-Ok.ensures.given
    (omega (arith, c.loop-count.invariant.within, c.if-count-limit.false, c.len.ensures, c.loop-count.bytes.ok.0))

pub returns-in_err-map_err-clause-bounded : goal.returns-in_err-map_err-clause-bounded
returns-in_err-map_err-clause-bounded g c =
    TakesAtMost-part _ _ _ c.loop-count.bytes.items c.read.new.buf
    (c.args.limit + 4096) c.in-Ok.count c.loop-count.invariant.given c.in-Ok.ensures.given
    (omega (arith, c.loop-count.invariant.within, c.if-count-limit.false, c.len.ensures, c.loop-count.bytes.ok.0))
