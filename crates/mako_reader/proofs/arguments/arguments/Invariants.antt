use Rattle.std.proofs.Common.{◌≡◌, take}
use Rattle.arrayvec.specs.ArrayVec.{array_vec_len}
use Rattle.mako_text.specs.Names.{texts}
use Rattle.mako_reader.specs.Commands.{ReadsWord}
use Rattle.mako_reader.specs.Finds.{ReadsEach}
use Rattle.mako_reader.specs.Words.{words_behind}
use Rattle.mako_reader.proofs.arguments.arguments.Given as goal

abbrev pub invariant-loop-kind : goal.invariant-loop-kind
invariant-loop-kind l =
    ReadsEach (ReadsWord (texts l.names)) (take l.kind-index l.kinds) (words_behind l.text)
    (l.values.items, words_behind l.rest)
    × (array_vec_len l.values ≡ l.kind-index)
