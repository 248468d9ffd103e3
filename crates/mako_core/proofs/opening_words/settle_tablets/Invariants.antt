use Rattle.std.proofs.Common.{◌≡◌, ◌*◌, length}
use Rattle.mako_shape.specs.Places.{total}
use Rattle.mako_state.specs.Openings.{written, first_homes}
use Rattle.mako_core.proofs.opening_words.settle_tablets.Given as goal

abbrev pub invariant-loop-tablet : goal.invariant-loop-tablet
invariant-loop-tablet g l = record {
  size : length (g.W.Words.words l.words) ≡ total l.shape;
  rest : written l.shape (g.W.Words.words l.words) (first_homes l.shape l.tablet) ≡ written l.shape
      (g.W.Words.words l.initial.words) (first_homes l.shape (l.shape.servers * l.shape.tablets));
}
