use Rattle.std.proofs.Common.{rules}
use Rattle.mako_pause.proofs.NameWords.{name_read}
use Rattle.mako_pause.proofs.barriers.name_of.Goals as goal

pub unreachable-requires : goal.unreachable-requires
unreachable-requires c = let read = name_read c.args.word c.unpack.result c.requires c.unpack.ensures in search rules
