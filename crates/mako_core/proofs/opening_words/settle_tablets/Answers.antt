use Rattle.std.proofs.Common.{ℕ, ◌-◌, List, length, set, ap, ◌∙◌, length-set}
use Rattle.mako_shape.specs.Places.{index, home}
use Rattle.mako_state.specs.Openings.{written, first_homes}
use Rattle.mako_core.proofs.Starting.{home_written}
use Rattle.mako_core.proofs.opening_words.settle_tablets.Goals as goal

pub loop-tablet-preserved : goal.loop-tablet-preserved
loop-tablet-preserved g c =
    let n = c.args.shape.now in
    let t = c.loop-tablet.tablet in
    let ws = g.W.Words.words c.loop-tablet.words in
    let stored = c.store.ensures ∙ ap (λ k. set ws k c.from-home.result) c.home.ensures.index
    ∙ ap (λ x. set ws (index n (home (t - 1))) x) (c.from-home.ensures ∙ c.opening_home.ensures) in
    record {
      size = ap length c.store.ensures ∙ length-set ws c.home.result c.from-home.result ∙ c.loop-tablet.invariant.size;
      rest = ap (λ (us : List ℕ). written n us (first_homes n (t - 1))) stored
          ∙ home_written n ws t c.loop-tablet-test.true ∙ c.loop-tablet.invariant.rest;
    }
