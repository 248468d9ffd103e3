use Rattle.std.proofs.Common.{◌≡◌, false, sym, subst}
use Rattle.mako_step.specs.Machines.{IsAct, Lowers}
use Rattle.mako_server.specs.Kept.{serving_in}
use Rattle.mako_server.specs.Serving.{Serving, Fits, next_of, is_waiting, is_renewed, rank, IsKnown}
use Rattle.mako_server.proofs.Going.{known_fed, step_lowers}
use Rattle.mako_server.proofs.server.ServerMachine.feed.Goals as goal

pub invariant_of-self : goal.invariant_of-self
invariant_of-self c =
    let v = serving_in c.self.inside.kept c.self.inside.stage in
    let w = c.args.before in
    let fits = subst (λ (q : Serving). Fits q w) (sym c.self.view_is) c.requires.fits in
    let acts = subst (λ (q : Serving). IsAct (next_of q)) (sym c.self.view_is) c.requires.acts in
    subst IsKnown (sym c.feed.ensures) (known_fed v w c.self.invariant fits acts)

pub returns-clause-rank : goal.returns-clause-rank
returns-clause-rank c =
    let v = serving_in c.self.inside.kept c.self.inside.stage in
    let w = c.args.before in
    let after = serving_in c.feed.new.kept c.feed.new.self in
    let fits = subst (λ (q : Serving). Fits q w) (sym c.self.view_is) c.requires.fits in
    let acts = subst (λ (q : Serving). IsAct (next_of q)) (sym c.self.view_is) c.requires.acts in
    let here : is_waiting v w ≡ false → Lowers (is_renewed v w) (rank v) (rank after) =
    λ moves. subst (λ (q : Serving). Lowers (is_renewed v w) (rank v) (rank q)) (sym c.feed.ensures)
    (step_lowers v w c.self.invariant fits acts moves) in
    subst (λ (q : Serving). is_waiting q w ≡ false → Lowers (is_renewed q w) (rank q) (rank after)) c.self.view_is here
