use Rattle.std.proofs.Common.{◌<◌, ◌^◌, List, sum_by, sym, subst, arith}
use Rattle.mako_script.specs.Programs.{ProgramView}
use Rattle.mako_pause.specs.Opening.{news_of}
use Rattle.mako_pause.proofs.Openings.{news_few}
use Rattle.mako_pause.proofs.collector.Collector.new.Goals as goal

pub count_names-names-requires : goal.count_names-names-requires
count_names-names-requires c =
    let few = news_few c.script.inside.programs.items in
    let all = c.script.invariant.commands in
    subst (λ (l : List ProgramView). sum_by news_of l < 2 ^ 32) (sym c.as_slice.ensures.value) (omega (arith, few, all))
