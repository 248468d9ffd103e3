use Rattle.std.proofs.Common.{refl}
use Rattle.mako_ring.proofs.laws.examples.Goals as goal

pub returns : goal.returns
returns c = record {
  around = refl;
  behind = refl;
  nothing = refl;
  one_slot = refl;
  put = refl;
  emptied = refl;
  room = refl;
  again = refl;
}
