use Rattle.std.proofs.Common.{◌≡◌, [], take, false}
use Rattle.clap.specs.Words.{app_of}
use Rattle.clap.specs.Walk.{texts}
use Rattle.clap.specs.declared.builder.command.Command.TheViews.{out-Command}
use Rattle.mako_command.specs.Tables as tables
use Rattle.mako_command.proofs.line.command.Given as goal

abbrev pub invariant-loop-id : goal.invariant-loop-id
invariant-loop-id l =
    (app_of l.command ≡ record { top = tables.command l.name (texts (take l.id-index l.ids)); subs = [] })
    × ((out-Command l.command).has_globals ≡ false)
