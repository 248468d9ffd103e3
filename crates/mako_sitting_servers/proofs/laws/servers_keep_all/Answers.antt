use Rattle.mako_sitting_servers.proofs.ServerEvacuates.{servers_keep_all}
use Rattle.mako_sitting_servers.proofs.laws.servers_keep_all.Goals as goal

pub returns : goal.returns
returns c = servers_keep_all
