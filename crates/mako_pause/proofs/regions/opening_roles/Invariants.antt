use Rattle.std.proofs.Common.{◌≡◌, vec_capacity, vec_len}
use Rattle.mako_pause.specs.Opening.{opening_roles}
use Rattle.mako_pause.proofs.regions.opening_roles.Given as goal

abbrev pub invariant-loop-region : goal.invariant-loop-region
invariant-loop-region l = record {
  items : l.roles.items ≡ opening_roles l.shape l.region;
  len : vec_len l.roles ≡ l.region;
  capacity : vec_capacity l.roles ≡ vec_capacity l.initial.roles;
}
