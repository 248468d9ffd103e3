use Rattle.mako_script.proofs.reading.fault.Goals as goal

pub unreachable-requires : goal.unreachable-requires
unreachable-requires c = let read = c.in-None.ensures.script in c.requires read.0 read.1
