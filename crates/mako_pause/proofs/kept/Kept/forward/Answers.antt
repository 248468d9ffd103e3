use Rattle.std.proofs.Common.{rules}
use Rattle.std.proofs.lemmas.List.Elements.{All-drop}
use Rattle.mako_pause.specs.Keeping.{IsKeptName}
use Rattle.mako_pause.proofs.kept.Kept.forward.Goals as goal

pub invariant_of-self : goal.invariant_of-self
invariant_of-self c = record {
  known = record {
    shape = c.self.invariant.known.shape;
    cycle = c.self.invariant.known.cycle;
    pending = rw c.pop_front.ensures.rest
        (All-drop (IsKeptName c.self.inside.shape) 1 c.self.inside.pending.items c.self.invariant.known.pending);
    windows_count = c.self.invariant.known.windows_count;
    windows = c.self.invariant.known.windows;
    barriers_count = c.self.invariant.known.barriers_count;
    barriers = c.self.invariant.known.barriers;
    notices_count = c.self.invariant.known.notices_count;
    notices = c.self.invariant.known.notices;
    poll_shape = c.self.invariant.known.poll_shape;
    poll = c.self.invariant.known.poll;
    chosen = c.self.invariant.known.chosen;
    roles = c.self.invariant.known.roles;
    lists = c.self.invariant.known.lists;
    lists_room = c.self.invariant.known.lists_room;
    names = c.self.invariant.known.names;
  };
  pending_room = search rules;
  used_room = c.self.invariant.used_room;
  chosen_room = c.self.invariant.chosen_room;
  freed_room = c.self.invariant.freed_room;
  chooser_room = c.self.invariant.chooser_room;
}
