use Rattle.std.proofs.Common.{◌≢◌, ℕ, ◌<◌, get_or}
use Rattle.mako_text.specs.declared.command.Command.TheVariants.{New}
use Rattle.mako_text.specs.Commands.{word_of}
use Rattle.mako_text.proofs.command.Command.named.Given as goal

abbrev pub invariant-loop-command : goal.invariant-loop-command
invariant-loop-command l = (i : ℕ) → i < l.command-index → l.word ≢ word_of (get_or l.command-items i New)
