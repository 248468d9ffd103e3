use Rattle.std.proofs.Common.{◌≡◌, take, map}
use Rattle.arrayvec.specs.ArrayVec.{array_vec_len}
use Rattle.mako_text.specs.Keys.{key_view}
use Rattle.mako_reader.specs.Finds.{ReadsEach}
use Rattle.mako_reader.specs.Parts.{IsSetting}
use Rattle.mako_reader.specs.Words.{lines_of}
use Rattle.mako_reader.proofs.settings.numbers.Given as goal

abbrev pub invariant-loop-key : goal.invariant-loop-key
invariant-loop-key l =
    ReadsEach IsSetting (take l.key-index (map key_view l.table)) (lines_of l.text) (l.values.items, lines_of l.rest)
    × (array_vec_len l.values ≡ l.key-index)
