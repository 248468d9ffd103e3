use Rattle.std.proofs.Common.{◌≡◌, ◌+◌, ◌≤◌, ◌++◌, length, map, vec_len, vec_capacity, Vec, Global}
use Rattle.std.specs.Vec.Iter.{into_iter_items, into_iter_len}
use Rattle.mako_model.specs.declared.reply.Reply.{Reply}
use Rattle.mako_core.specs.Endings.{replies_in}
use Rattle.mako_core.proofs.replies.with_replies.Given as goal

abbrev pub invariant-loop-seat : goal.invariant-loop-seat
invariant-loop-seat l = record {
  all : map (λ (v : Vec Reply Global). v.items) l.lists.items ++ replies_in (into_iter_items l.seat-iterator) ≡ map
      (λ (v : Vec Reply Global). v.items) l.initial.lists.items ++ replies_in (into_iter_items l.initial.seat-iterator);
  left : into_iter_len l.seat-iterator ≡ length (into_iter_items l.seat-iterator);
  room : vec_len l.lists + length (replies_in (into_iter_items l.seat-iterator)) ≤ vec_capacity l.lists;
}
