use Rattle.std.proofs.Common.{◌≡◌, ◌+◌, ◌-◌, ◌∙◌, ap, length}
use Rattle.mako_record.proofs.Runs.{goes_on, words_stay}
use Rattle.mako_record.proofs.tests.run.Goals as goal

pub loop-preserved : goal.loop-preserved
loop-preserved g c =
    let machine = g.M.Machine in
    let words = g.W.Words.words c.loop.words in
    let later = c.make_step-stepped.ensures.words in (
      goes_on machine.next_of machine.Fits machine.fed c.args.steps c.loop.counter c.loop.machine _ words _
          c.loop-test.true c.loop.invariant.0 c.make_step-stepped.ensures.machine later,
      ap length later ∙ words_stay (machine.next_of c.loop.machine) words ∙ c.loop.invariant.1,
    )
