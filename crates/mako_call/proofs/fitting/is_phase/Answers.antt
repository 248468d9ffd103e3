use Rattle.std.proofs.Common.{IsTrue, ◌↔◌, subst, sym}
use Rattle.mako_words.specs.Phases.{IsPackedPhase, phase_word, FitsPhase, phase_at}
use Rattle.mako_call.proofs.ReadWords.{reads}
use Rattle.mako_call.proofs.fitting.is_phase.Goals as goal

pub returns : goal.returns
returns c =
    subst (λ b. IsTrue b ↔ IsPackedPhase c.args.word) (sym c.is_some.ensures)
    (reads FitsPhase phase_word phase_at c.args.word c.unpack.result c.unpack.ensures)
