use Rattle.std.proofs.Common.{◌≤◌, ◌-◌, length, drop, arith, length-take}
use Rattle.std.proofs.lemmas.List.{take-take}
use Rattle.mako_io.proofs.StreamLemmas.{Appends-front}
use Rattle.mako_io.proofs.writing.write_all.Goals as goal

pub loop-went-preserved : goal.loop-went-preserved
loop-went-preserved g c =
    let rest = drop c.loop-went.went c.args.bytes.now in
    let room = length c.args.bytes.now - c.loop-went.went in
    let fits : c.in-Ok.count ≤ room = omega (arith, c.in-Ok.ensures.bound, length-take room rest) in
    record {
      within = omega (arith, fits);
      counted = omega (arith, c.in-Ok.ensures.counted, c.loop-went.invariant.counted);
      grown = Appends-front _ _ _ c.args.bytes.now c.loop-went.went c.in-Ok.count c.loop-went.invariant.grown
          (rw (take-take c.in-Ok.count room rest fits) at c.in-Ok.ensures.grown);
    }
