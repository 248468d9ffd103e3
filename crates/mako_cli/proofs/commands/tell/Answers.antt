use Rattle.std.proofs.Common.{List, ℕ, sym, subst, ◌∙◌}
use Rattle.mako_io.specs.Causes.{Rose}
use Rattle.mako_cli.specs.declared.settled.Settled.{Settled}
use Rattle.mako_cli.specs.Settling.{IsTold, IsWritten}
use Rattle.mako_cli.proofs.commands.tell.Goals as goal

pub returns-in-NoScript-clause-told : goal.returns-in-NoScript-clause-told
returns-in-NoScript-clause-told g c =
    let P : Settled → Type 0 =
    λ s. IsTold s (g.K.Sink.taken c.args.sink.now) (g.K.Sink.taken c.tell_line-in-NoScript.new.sink)
    (Rose (g.K.Sink.faults c.args.sink.now) (g.K.Sink.faults c.tell_line-in-NoScript.new.sink))
    c.tell_line-in-NoScript.result in
    subst P (sym c.in-NoScript.is) (record {
      written = subst (λ (text : List ℕ). IsWritten text 2 (g.K.Sink.taken c.args.sink.now)
          (g.K.Sink.taken c.tell_line-in-NoScript.new.sink)
          (Rose (g.K.Sink.faults c.args.sink.now) (g.K.Sink.faults c.tell_line-in-NoScript.new.sink))
          c.tell_line-in-NoScript.result.status)
          (c.deref-in-NoScript.ensures.0 ∙ c.fault_line.ensures) c.tell_line-in-NoScript.ensures.written;
      front_is = c.tell_line-in-NoScript.ensures.front;
    })

pub returns-in-ReadFault-clause-told : goal.returns-in-ReadFault-clause-told
returns-in-ReadFault-clause-told g c =
    let P : Settled → Type 0 =
    λ s. IsTold s (g.K.Sink.taken c.args.sink.now) (g.K.Sink.taken c.tell_line-in-ReadFault.new.sink)
    (Rose (g.K.Sink.faults c.args.sink.now) (g.K.Sink.faults c.tell_line-in-ReadFault.new.sink))
    c.tell_line-in-ReadFault.result in
    subst P (sym c.in-ReadFault.is) (record {
      written = c.tell_line-in-ReadFault.ensures.written;
      front_is = c.tell_line-in-ReadFault.ensures.front;
    })
