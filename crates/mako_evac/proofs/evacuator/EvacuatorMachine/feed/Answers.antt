use Rattle.std.proofs.Common.{◌≡◌, false, subst, sym}
use Rattle.mako_step.specs.Machines.{Lowers}
use Rattle.mako_evac.specs.Evacuating.{Evacuation, is_waiting, is_renewed, rank, IsKnown}
use Rattle.mako_evac.proofs.Going.{step_goes, step_known, put_together}
use Rattle.mako_evac.proofs.evacuator.EvacuatorMachine.feed.Goals as goal

pub invariant_of-self : goal.invariant_of-self
invariant_of-self c =
    let v = c.args.self.now in
    let known : IsKnown v = subst IsKnown c.self.view_is c.self.invariant in
    let same = put_together _ v c.args.before _ _ c.self.view_is c.at_after-at.ensures c.stage_after-self-inside.ensures
    in
    subst IsKnown (sym same) (step_known v c.args.before known c.requires.fits c.requires.acts)

pub returns-clause-rank : goal.returns-clause-rank
returns-clause-rank c =
    let v = c.args.self.now in
    let known : IsKnown v = subst IsKnown c.self.view_is c.self.invariant in
    let same = put_together _ v c.args.before _ _ c.self.view_is c.at_after-at.ensures c.stage_after-self-inside.ensures
    in
    subst (λ (q : Evacuation). is_waiting v c.args.before ≡ false
    → Lowers (is_renewed v c.args.before) (rank v) (rank q)) (sym same)
    (step_goes v c.args.before known c.requires.fits c.requires.acts).lower
