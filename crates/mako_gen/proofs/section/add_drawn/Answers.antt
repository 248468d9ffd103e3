use Rattle.std.proofs.Common.{[], refl, sym}
use Rattle.std.proofs.lemmas.List.{append-nil}
use Rattle.mako_gen.proofs.Drawn.{adds_more}
use Rattle.mako_gen.proofs.section.add_drawn.Goals as goal

pub loop-drawn-init : goal.loop-drawn-init
loop-drawn-init c = record {
  drawn = [];
  calls = sym (append-nil c.args.calls.now.items);
  count = refl;
  drawn_by = refl;
}

pub loop-drawn-preserved : goal.loop-drawn-preserved
loop-drawn-preserved c =
    adds_more _ _ _ _ _ _ _ _ c.loop-drawn.invariant c.command-call.ensures.drawn c.command-call.ensures.left
    c.in_ok-push.ensures.items
