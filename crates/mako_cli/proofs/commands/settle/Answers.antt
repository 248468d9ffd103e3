use Rattle.std.proofs.Common.{List, ℕ, ◌∙◌, ap, subst, inr, Err}
use Rattle.mako_script.specs.Answers.{IsRefused}
use Rattle.mako_script.specs.Texts.{IsScript}
use Rattle.mako_cli.specs.Settling.{IsRead}
use Rattle.mako_cli.proofs.Replays.{front_of_replay}
use Rattle.mako_cli.proofs.commands.settle.Goals as goal

-- parsing answers that no script has these bytes
pub returns-in-Err-Bad-clause-settled : goal.returns-in-Err-Bad-clause-settled
returns-in-Err-Bad-clause-settled g c =
    let told = c.parse.ensures.refused c.in-Err-Bad.kind c.in-Err-Bad.line (c.in-Err-Bad.is
    ∙ ap (λ e. Err e) c.in-Err-Bad.field-0-is) in
    let on_bytes : IsRefused c.in-Ok.bytes.items c.in-Err-Bad.kind c.in-Err-Bad.line =
    subst (λ (bytes : List ℕ). IsRefused bytes c.in-Err-Bad.kind c.in-Err-Bad.line) c.deref.ensures.value told in
    inr (record {
      bytes = c.in-Ok.bytes.items;
      whole = record { few = c.in-Ok.ensures.within; all = c.in-Ok.ensures.whole; ended = c.in-Ok.ensures.ended };
      refused = rw (c.in-Err-Bad.kind-is, c.in-Err-Bad.line-is) on_bytes;
    })

pub returns-clause-settled : goal.returns-clause-settled
returns-clause-settled g c =
    let read = c.in-Ok.ensures in
    let ran = c.in-Ok-replay.ensures in
    let replayed = c.in-Ok-replay.replayed in
    let facts : IsRead (g.S.Source.left c.args.source.now)
    (g.S.Source.left c.read_all.new.source) c.in-Ok-parse.script = record {
      bytes = c.in-Ok.bytes.items;
      whole = record { few = read.within; all = read.whole; ended = read.ended };
      spelled = subst (λ (bytes : List ℕ). IsScript bytes c.in-Ok-parse.script) c.deref.ensures.value
          c.in-Ok-parse.ensures.ok;
    } in (
      facts,
      front_of_replay replayed.finished c.args.order c.args.steps replayed.steps_made c.in-Ok-parse.script
          replayed.outcome.front
          ran.run ran.made ran.ends ran.finished ran.answers ran.end,
    )
