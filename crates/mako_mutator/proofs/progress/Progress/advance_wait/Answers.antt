use Rattle.std.proofs.Common.{◌≡◌, ap, sym, ◌∙◌, refl}
use Rattle.mako_call.specs.Calls.{Calling, fed, outcome_in}
use Rattle.mako_mutator.specs.declared.progress.Progress.{Progress}
use Rattle.mako_mutator.specs.declared.progress.Task.TheVariants.{Awaiting}
use Rattle.mako_mutator.specs.Drivers.{after_wait}
use Rattle.mako_mutator.proofs.Tasks.{one_wait, wait_by_done}
use Rattle.mako_mutator.proofs.progress.Progress.advance_wait.Goals as goal

pub returns-in-Awaiting : goal.returns-in-Awaiting
returns-in-Awaiting c = λ wait is.
    let k = c.args.caller.now in
    let calls = c.args.calls.now in
    let w = c.args.before in
    let same : wait ≡ c.in-Awaiting.wait = one_wait wait c.in-Awaiting.wait (sym is ∙ c.in-Awaiting.is) in
    let fed_is : c.feed-told.new.self ≡ fed wait w = c.feed-told.ensures.fed
    ∙ ap (λ (q : Calling). fed q w) (sym same) in
    let stands : Progress = record {
      done = c.args.self.now.done;
      within = c.args.self.now.within;
      task = Awaiting c.feed-told.new.self;
    } in
    c.after_wait.ensures
    ∙ (wait_by_done k calls stands c.args.self.now c.feed-told.new.self (outcome_in c.feed-told.new.self.stage) refl
    ∙ ap (after_wait k calls c.args.self.now) fed_is)
