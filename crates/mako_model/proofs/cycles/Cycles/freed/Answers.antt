use Rattle.std.proofs.Common.{length, ap, arith}
use Rattle.mako_model.proofs.Pieces.{pieces_length}
use Rattle.mako_model.proofs.cycles.Cycles.freed.Goals as goal

pub piece-requires-clause-within : goal.piece-requires-clause-within
piece-requires-clause-within c =
    let seen = ap (λ s. length s.lists) c.self.view_is in
    let same = pieces_length c.self.inside.names.items 0 c.self.inside.ends.items in
    omega (arith, ap length c.deref-2.ensures.value)
