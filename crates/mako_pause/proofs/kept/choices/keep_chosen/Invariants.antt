use Rattle.std.proofs.Common.{◌≡◌, ◌+◌, ◌++◌, map, take, vec_capacity, vec_len}
use Rattle.mako_pause.proofs.kept.choices.keep_chosen.Given as goal

abbrev pub invariant-loop-place : goal.invariant-loop-place
invariant-loop-place l = record {
  items : l.chosen.items ≡ l.initial.chosen.items ++ map (λ p. l.first + p) (take l.place-index l.places);
  len : vec_len l.chosen ≡ vec_len l.initial.chosen + l.place-index;
  capacity : vec_capacity l.chosen ≡ vec_capacity l.initial.chosen;
}
