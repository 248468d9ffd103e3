use Rattle.mako_model.proofs.Pieces.{piece_is}
use Rattle.mako_model.proofs.cycles.piece.Goals as goal

pub returns : goal.returns
returns c = piece_is c.args.names.now c.args.ends.now c.args.index _ _ c.requires.within c.bounds-start.ensures.start
    c.bounds-start.ensures.end
