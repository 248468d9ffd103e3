use Rattle.mako_shades.proofs.Chains.{unmarked_old}
use Rattle.mako_shades.proofs.Stacks.{push_room}
use Rattle.mako_shades.proofs.laws.servers_tell.Goals as goal

pub returns : goal.returns
returns c = record { old = unmarked_old; room = push_room }
