use Rattle.std.proofs.Common.{length, ap, arith}
use Rattle.mako_model.proofs.Pieces.{pieces_length}
use Rattle.mako_model.proofs.cycles.Cycles.len.Goals as goal

pub returns : goal.returns
returns c =
    let seen = ap (λ s. length s.lists) c.self.view_is in
    let same = pieces_length c.self.inside.names.items 0 c.self.inside.ends.items in
    omega arith
