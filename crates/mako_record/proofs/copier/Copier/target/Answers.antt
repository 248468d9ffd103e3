use Rattle.std.proofs.Common.{◌≡◌, subst, arith}
use Rattle.mako_shape.specs.Places.{index, region_word}
use Rattle.mako_record.specs.Copying.{Copying, IsKnown}
use Rattle.mako_record.proofs.Targets.{region_address}
use Rattle.mako_record.proofs.copier.Copier.target.Goals as goal

pub returns-clause-address : goal.returns-clause-address
returns-clause-address c =
    let n = c.args.self.now.shape in
    let known : IsKnown c.args.self.now = subst IsKnown c.self.view_is c.self.invariant in
    let start = subst (λ (v : Copying). c.region.result ≡ index v.shape
    (region_word v.home 0)) c.self.view_is c.region.ensures.index in
    let inside = region_address n c.args.self.now.home c.args.offset known.home c.requires in
    (omega (arith, start, inside), omega (arith, start, inside))
