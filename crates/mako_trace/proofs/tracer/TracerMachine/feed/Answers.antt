use Rattle.std.proofs.Common.{ap, subst, sym, ◌∙◌}
use Rattle.mako_step.specs.Machines.{IsAct, Lowers}
use Rattle.mako_ring.specs.Tracing.{TracerView, next_of, Fits, fed}
use Rattle.mako_trace.specs.Held.{tracer_in, IsKnown}
use Rattle.mako_trace.specs.Ranks.{is_renewed, rank}
use Rattle.mako_trace.proofs.Known.{known_fed, same_room}
use Rattle.mako_trace.proofs.Lowering.{step_lowers}
use Rattle.mako_trace.proofs.Stages.{fed_at}
use Rattle.mako_trace.proofs.tracer.TracerMachine.feed.Goals as goal

pub invariant_of-self : goal.invariant_of-self
invariant_of-self c =
    let inside = c.self.inside in
    let t = tracer_in inside.holdings inside.stage in
    let w = c.args.before in
    let fits = subst (λ q. Fits q w) (sym c.self.view_is) c.requires.fits in
    let acts = subst (λ q. IsAct (next_of q)) (sym c.self.view_is) c.requires.acts in
    let fed_is = c.stage_fed-self-inside.ensures.fed ∙ fed_at t inside.stage w acts in (
      subst IsKnown (sym fed_is) (known_fed t w c.self.invariant.0 fits),
      same_room inside.holdings c.stage_fed-self-inside.new.self c.self.invariant.1
          c.stage_fed-self-inside.ensures.room,
    )

pub returns-clause-fed : goal.returns-clause-fed
returns-clause-fed c =
    let inside = c.self.inside in
    let t = tracer_in inside.holdings inside.stage in
    let w = c.args.before in
    let acts = subst (λ q. IsAct (next_of q)) (sym c.self.view_is) c.requires.acts in
    c.stage_fed-self-inside.ensures.fed ∙ fed_at t inside.stage w acts ∙ ap (λ q. fed q w) c.self.view_is

pub returns-clause-rank : goal.returns-clause-rank
returns-clause-rank c =
    let inside = c.self.inside in
    let t = tracer_in inside.holdings inside.stage in
    let w = c.args.before in
    let fits = subst (λ q. Fits q w) (sym c.self.view_is) c.requires.fits in
    let acts = subst (λ q. IsAct (next_of q)) (sym c.self.view_is) c.requires.acts in
    let fed_is = c.stage_fed-self-inside.ensures.fed ∙ fed_at t inside.stage w acts in
    let lower = step_lowers t w acts c.self.invariant.0 fits in
    let here = subst (λ (q : TracerView). Lowers (is_renewed t w) (rank t) (rank q)) (sym fed_is) lower in
    λ _. subst (λ (q : TracerView). Lowers (is_renewed q w) (rank q)
    (rank (tracer_in c.stage_fed-self-inside.new.self c.stage_fed-self-inside.result))) c.self.view_is here
