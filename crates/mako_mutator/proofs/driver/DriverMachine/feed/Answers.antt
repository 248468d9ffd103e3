use Rattle.std.proofs.Common.{◌++◌, List, length, ap, subst, sym, ◌∙◌, arith}
use Rattle.mako_step.specs.Machines.{IsAct, Lowers}
use Rattle.mako_model.specs.declared.call.Call.{Call}
use Rattle.mako_mutator.specs.Drivers.{Driving, Fits, next_of, told_reply, progress_fed, task_rank, rank, is_renewed}
use Rattle.mako_mutator.specs.DriverHolds.{driving_in}
use Rattle.mako_mutator.proofs.DriverGoing.{driver_leads, put_together, room_for_reply}
use Rattle.mako_mutator.proofs.driver.DriverMachine.feed.Goals as goal

pub keep_reply-requires : goal.keep_reply-requires
keep_reply-requires c =
    let d = driving_in c.self.inside in
    let w = c.args.before in
    let fits = subst (λ q. Fits q w) (sym c.self.view_is) c.requires.fits in
    let acts = subst (λ q. IsAct (next_of q)) (sym c.self.view_is) c.requires.acts in
    let room = room_for_reply d w c.self.invariant.known fits acts in
    let told = ap (λ e. length (told_reply e)) c.advance-event.ensures.event in
    omega (arith, room, told, c.self.invariant.room, c.self.inside.replies.ok.0)

pub invariant_of-self : goal.invariant_of-self
invariant_of-self c =
    let inside = c.self.inside in
    let d = driving_in inside in
    let w = c.args.before in
    let fits = subst (λ q. Fits q w) (sym c.self.view_is) c.requires.fits in
    let acts = subst (λ q. IsAct (next_of q)) (sym c.self.view_is) c.requires.acts in
    let replies_are = c.keep_reply.ensures.items
    ∙ ap (λ e. inside.replies.items ++ told_reply e) c.advance-event.ensures.event in
    let p_is = c.advance-event.ensures.progress
    ∙ ap (λ (calls : List Call). progress_fed inside.caller calls inside.progress w) c.as_slice.ensures.value in
    record {
      known = put_together d w _ _ c.self.invariant.known fits acts replies_are p_is;
      room = omega (arith, c.self.invariant.room, c.keep_reply.ensures.room);
    }

pub returns-clause-rank : goal.returns-clause-rank
returns-clause-rank c =
    let inside = c.self.inside in
    let d = driving_in inside in
    let w = c.args.before in
    let fits = subst (λ q. Fits q w) (sym c.self.view_is) c.requires.fits in
    let acts = subst (λ q. IsAct (next_of q)) (sym c.self.view_is) c.requires.acts in
    let p_is = c.advance-event.ensures.progress
    ∙ ap (λ (calls : List Call). progress_fed inside.caller calls inside.progress w) c.as_slice.ensures.value in
    let lower = (driver_leads d w c.self.invariant.known fits acts).lower in
    let here = subst (λ p. Lowers (is_renewed d w) (rank d) (task_rank p.task)) (sym p_is) lower in
    λ _. subst (λ (q : Driving). Lowers (is_renewed q w) (rank q) (task_rank c.advance-event.new.self.task))
    c.self.view_is here
