use Rattle.std.proofs.Common.{◌≡◌, length}
use Rattle.mako_shape.specs.Places.{total}
use Rattle.mako_state.specs.Openings.{written, board_roots}
use Rattle.mako_core.proofs.opening_words.name_board.Given as goal

abbrev pub invariant-loop-mutator : goal.invariant-loop-mutator
invariant-loop-mutator g l = record {
  size : length (g.W.Words.words l.words) ≡ total l.shape;
  rest : written l.shape (g.W.Words.words l.words) (board_roots l.mutator) ≡ written l.shape
      (g.W.Words.words l.initial.words) (board_roots l.shape.mutators);
}
