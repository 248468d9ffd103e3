use Rattle.std.proofs.Common.{ℕ, ◌-◌, List, length, set, ap, ◌∙◌, length-set}
use Rattle.mako_shape.specs.Places.{index, root}
use Rattle.mako_state.specs.Openings.{written, board_roots}
use Rattle.mako_core.proofs.Starting.{root_written}
use Rattle.mako_core.proofs.opening_words.name_board.Goals as goal

pub loop-mutator-preserved : goal.loop-mutator-preserved
loop-mutator-preserved g c =
    let n = c.args.shape.now in
    let m = c.loop-mutator.mutator in
    let ws = g.W.Words.words c.loop-mutator.words in
    let stored = c.store.ensures ∙ ap (λ k. set ws k c.pack-name.result) c.root.ensures.index
    ∙ ap (λ x. set ws (index n (root (m - 1) 0)) x) c.pack-name.ensures in
    record {
      size = ap length c.store.ensures ∙ length-set ws c.root.result c.pack-name.result ∙ c.loop-mutator.invariant.size;
      rest = ap (λ (us : List ℕ). written n us (board_roots (m - 1))) stored
          ∙ root_written n ws m c.loop-mutator-test.true ∙ c.loop-mutator.invariant.rest;
    }
