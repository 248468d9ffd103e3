use Rattle.mako_judge.proofs.trial.Trial.is_dead.Goals as goal

pub returns : goal.returns
returns c =
    let x = c.args.name in
    let each = c.requires.each c.args.cycle x in (
      (λ t. each.0 ((c.of.ensures x).0 (c.has.ensures.0 t))),
      (λ dead. c.has.ensures.1 ((c.of.ensures x).1 (each.1 dead))),
    )
