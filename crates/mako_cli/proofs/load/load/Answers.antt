use Rattle.std.proofs.Common.{ℕ, ◌∙◌, refl, subst, sym}
use Rattle.std.proofs.lemmas.List.{length-map}
use Rattle.mako_replay.specs.declared.order.Order.TheVariants.{Seed}
use Rattle.mako_script.specs.ScriptFacts.{facts_of}
use Rattle.mako_cli.specs.Loads.{AreOfMutators}
use Rattle.mako_cli.proofs.Loads.{legal_within}
use Rattle.mako_cli.proofs.Replays.{front_of_replay}
use Rattle.mako_cli.proofs.load.load.Goals as goal

pub returns : goal.returns
returns c =
    let ran = c.in-Ok-replay.ensures in
    let replayed = c.in-Ok-replay.replayed in
    let script = c.in-Ok.script in
    record {
      loads = (
        refl,
        record {
          script = script;
          made = c.in-Ok.ensures;
          steps = 100000000;
          given = refl;
          replayed = front_of_replay replayed.finished (Seed c.args.number) 100000000 replayed.steps_made script
              replayed.outcome.front ran.run ran.made ran.ends ran.finished ran.answers ran.end;
        },
      );
      tellable = (
        ran.whole,
        ran.freed,
        subst (λ (count : ℕ). AreOfMutators count replayed.outcome.front.history)
            (length-map script.programs (λ p. p.calls) ∙ sym ran.lists)
            (legal_within (facts_of script) replayed.outcome.front.history ran.answers.lawful.legal),
      );
    }
