use Rattle.std.proofs.Common.{refl, sym, ◌∙◌, arith}
use Rattle.mako_pause.proofs.Openings.{no_roles, roles_more}
use Rattle.mako_pause.proofs.regions.opening_roles.Goals as goal

pub loop-region-init : goal.loop-region-init
loop-region-init c = record {
  items = c.in-Ok.ensures.items ∙ sym (no_roles c.args.shape.now);
  len = c.in-Ok.ensures.len;
  capacity = refl;
}

pub loop-region-preserved : goal.loop-region-preserved
loop-region-preserved c =
    let more = roles_more c.args.shape.now c.loop-region.region in record {
      items = cc;
      len = omega (arith, c.push_reserved.ensures.len, c.loop-region.invariant.len);
      capacity = c.push_reserved.ensures.capacity ∙ c.loop-region.invariant.capacity;
    }
