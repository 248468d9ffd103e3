use Rattle.std.proofs.Common.{rules}
use Rattle.mako_trace.proofs.Names.{name_read}
use Rattle.mako_trace.proofs.words.name_of.Goals as goal

pub unreachable-requires : goal.unreachable-requires
unreachable-requires c = let read = name_read c.args.word c.unpack.result c.requires c.unpack.ensures in search rules
