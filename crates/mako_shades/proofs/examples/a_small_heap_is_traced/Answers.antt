use Rattle.mako_shades.proofs.SmallHeap.{small_stands, small_tracks}
use Rattle.mako_shades.proofs.examples.a_small_heap_is_traced.Goals as goal

pub returns : goal.returns
returns c = record { stands = small_stands; tracks = small_tracks }
