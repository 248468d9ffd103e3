use Rattle.mako_tracing.proofs.Belonging.{empty_slots_belong, opening_servers_stand, openings_keep, stores_leave_slots}
use Rattle.mako_tracing.proofs.laws.servers_begin_and_slots_stay.Goals as goal

pub returns : goal.returns
returns c = record {
  opening = openings_keep;
  empty = empty_slots_belong;
  stores = stores_leave_slots;
  all = opening_servers_stand;
}
