use Rattle.std.proofs.Common.{subst}
use Rattle.mako_evac.specs.declared.tablet.TabletStage.{TabletStage}
use Rattle.mako_evac.specs.Tablets.{TabletIsKnown, IsPlaced}
use Rattle.mako_evac.proofs.Bounds.{record_within}
use Rattle.mako_evac.proofs.tablet.TabletStage.fed.Goals as goal

pub new-copier-requires-clause-number : goal.new-copier-requires-clause-number
new-copier-requires-clause-number c =
    let placed : IsPlaced c.args.owner.now c.args.tablet c.in-LoadingEntry.home c.in-LoadingEntry.entry =
    subst (λ (s : TabletStage). TabletIsKnown c.args.owner.now c.args.tablet s) c.in-LoadingEntry.is c.requires.known in
    record_within c.args.owner.now c.args.tablet c.in-LoadingEntry.entry c.requires.owner c.requires.tablet
    placed.entry_is
