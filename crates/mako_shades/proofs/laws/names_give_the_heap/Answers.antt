use Rattle.mako_shades.proofs.Heaps.{heap_stands}
use Rattle.mako_shades.proofs.laws.names_give_the_heap.Goals as goal

pub returns : goal.returns
returns c = heap_stands
