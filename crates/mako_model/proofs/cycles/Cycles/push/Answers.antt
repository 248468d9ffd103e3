use Rattle.std.proofs.Common.{◌++◌, ◌∷◌, [], length, ap, ◌∙◌, arith}
use Rattle.std.proofs.lemmas.Grind.{common_steps}
use Rattle.mako_model.proofs.Pieces.{room_left, cycle_left, rise_pushed, pieces_pushed}
use Rattle.mako_model.proofs.cycles.Cycles.push.Goals as goal

pub unreachable-requires : goal.unreachable-requires
unreachable-requires c =
    let asked = rw (← c.self.view_is) at c.requires.names in
    let room = room_left c.self.inside (length c.args.freed.now) c.self.invariant asked in
    grind (arith, common_steps, room)

pub unreachable-requires-then-is_err-2 : goal.unreachable-requires-then-is_err-2
unreachable-requires-then-is_err-2 c =
    let asked = rw (← c.self.view_is) at c.requires.cycles in
    let room = cycle_left c.self.inside c.self.invariant asked in
    grind (arith, common_steps, room)

pub invariant_of-self : goal.invariant_of-self
invariant_of-self c = record {
  names = grind (arith, common_steps, c.self.invariant.names);
  cycles = grind (arith, common_steps, c.self.invariant.cycles);
  rise = rise_pushed c.self.inside.names.items c.args.freed.now _ c.self.inside.ends.items _ c.self.invariant.rise
      (grind (arith, common_steps)) (grind (arith, common_steps));
}

pub returns-clause-lists : goal.returns-clause-lists
returns-clause-lists c =
    pieces_pushed c.self.inside.names.items c.args.freed.now c.extend_from_slice.new.self.items c.self.inside.ends.items
    c.push.new.self.items c.self.invariant.rise (grind (arith, common_steps)) (grind (arith, common_steps))
    ∙ ap (λ s. s.lists ++ c.args.freed.now ∷ []) c.self.view_is
