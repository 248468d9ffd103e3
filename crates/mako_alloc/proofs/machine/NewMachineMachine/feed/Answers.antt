use Rattle.std.proofs.Common.{◌<◌, sym, subst}
use Rattle.mako_step.specs.Machines.{IsAct}
use Rattle.mako_alloc.specs.Allocating.{Allocation, Fits, next_of, rank, rank_by}
use Rattle.mako_alloc.proofs.Going.{GoesOn, step_goes_on}
use Rattle.mako_alloc.proofs.machine.NewMachineMachine.feed.Goals as goal

goes_on : (c : goal.After-self-1) → GoesOn c.self.inside.job c.self.inside.progress c.after-self-inside.result
goes_on c =
    let fits : Fits (record { job = c.self.inside.job; progress = c.self.inside.progress }) c.args.before =
    subst (λ (a : Allocation). Fits a c.args.before) (sym c.self.view_is) c.requires.fits in
    let act : IsAct (next_of (record { job = c.self.inside.job; progress = c.self.inside.progress })) =
    subst (λ (a : Allocation). IsAct (next_of a)) (sym c.self.view_is) c.requires.acts in
    rw c.after-self-inside.ensures
    (step_goes_on c.self.inside.job c.self.inside.progress c.args.before c.self.invariant fits act)

pub invariant_of-self : goal.invariant_of-self
invariant_of-self c = (goes_on c).0

pub returns-clause-rank : goal.returns-clause-rank
returns-clause-rank c = λ _. subst
    (λ (a : Allocation). rank_by c.self.inside.job c.after-self-inside.result < rank a)
    c.self.view_is
    (goes_on c).1
