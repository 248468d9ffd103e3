use Rattle.std.proofs.Common.{◌*◌, ℕ, length, ap, ◌∙◌, replicate}
use Rattle.std.proofs.lemmas.List.{length-replicate}
use Rattle.mako_script.specs.Scripts.{ScriptView}
use Rattle.mako_state.specs.Openings.{board_roots, first_homes, words_at_start}
use Rattle.mako_state.proofs.OpeningWords.{length_written}
use Rattle.mako_core.proofs.Starting.{all_written}
use Rattle.mako_core.proofs.opening_words.opening_words.Goals as goal

pub settle_tablets-requires : goal.settle_tablets-requires
settle_tablets-requires g c =
    let n = c.script.inside.shape in
    ap length c.name_board.ensures ∙ length_written n _ (board_roots n.mutators)
    ∙ ap length c.in_ok-words.ensures ∙ length-replicate c.words.result 0 ∙ c.words.ensures

pub lay_board-requires : goal.lay_board-requires
lay_board-requires g c =
    let n = c.script.inside.shape in
    ap length c.settle_tablets.ensures ∙ length_written n _ (first_homes n (n.servers * n.tablets))
    ∙ ap length c.name_board.ensures ∙ length_written n _ (board_roots n.mutators)
    ∙ ap length c.in_ok-words.ensures ∙ length-replicate c.words.result 0 ∙ c.words.ensures

pub returns : goal.returns
returns g c =
    let zeros = c.in_ok-words.ensures ∙ ap (λ k. replicate {A = ℕ} k 0) c.words.ensures in
    all_written c.script.inside.shape c.script.inside.board _ _ _ _ zeros c.name_board.ensures c.settle_tablets.ensures
    c.lay_board.ensures
    ∙ ap (λ (s : ScriptView). words_at_start s.numbers s.board) c.script.view_is
