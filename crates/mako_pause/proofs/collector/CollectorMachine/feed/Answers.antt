use Rattle.std.proofs.Common.{◌≡◌, false, sym, subst}
use Rattle.mako_step.specs.Machines.{IsAct, Lowers}
use Rattle.mako_pause.specs.Collecting.{Collecting, at, Fits, next_of}
use Rattle.mako_pause.specs.Keeping.{StageIsKnown}
use Rattle.mako_pause.specs.Ranks.{is_waiting, is_renewed, rank, stage_waits, stage_renewed, stage_rank}
use Rattle.mako_pause.proofs.Going.{stage_stands}
use Rattle.mako_pause.proofs.Lowering.{stage_lowers}
use Rattle.mako_pause.proofs.collector.CollectorMachine.feed.Goals as goal

pub invariant_of-self : goal.invariant_of-self
invariant_of-self c =
    let k = c.self.inside.kept in
    let s = c.self.inside.stage in
    let w = c.args.before in
    let fits = subst (λ (q : Collecting). Fits q w) (sym c.self.view_is) c.requires.fits in
    subst (λ (q : Collecting). StageIsKnown q.kept q.stage) (sym c.feed.ensures)
    (stage_stands k s w c.numbers-known.ensures.known c.self.invariant fits)

pub returns-clause-rank : goal.returns-clause-rank
returns-clause-rank c =
    let k = c.self.inside.kept in
    let s = c.self.inside.stage in
    let w = c.args.before in
    let after = at c.feed.new.kept c.feed.new.self in
    let acts = subst (λ (q : Collecting). IsAct (next_of q)) (sym c.self.view_is) c.requires.acts in
    let here : stage_waits k s w ≡ false → Lowers (stage_renewed k s w) (stage_rank k s) (rank after) =
    λ moves. subst (λ (q : Collecting). Lowers (stage_renewed k s w) (stage_rank k s) (rank q))
    (sym c.feed.ensures) (stage_lowers k s w c.self.invariant acts moves) in
    subst (λ (q : Collecting). is_waiting q w ≡ false
    → Lowers (is_renewed q w) (rank q) (rank after)) c.self.view_is here
