use Rattle.std.proofs.Common.{List, ℕ, Bor, ◌∙◌}
use Rattle.mako_script.proofs.Commands.{among_all}
use Rattle.mako_script.proofs.check.is_among.Goals as goal

pub returns : goal.returns
returns c = c.contains.ensures.value ∙ among_all (λ (name : Bor (List ℕ)). name.now) c.args.names.now c.args.word.now
