use Rattle.std.proofs.Common.{refl, sym, subst, ap, length, List, arith}
use Rattle.std.proofs.lemmas.List.{length_push}
use Rattle.mako_script.specs.Programs.{ProgramView}
use Rattle.mako_gen.specs.Workloads.{AreSections}
use Rattle.mako_gen.proofs.Drawn.{sections_more}
use Rattle.mako_gen.proofs.workload.sections.Goals as goal

pub loop-mutator-init : goal.loop-mutator-init
loop-mutator-init c =
    record {
      drawn = subst (λ (ps : List ProgramView). AreSections c.args.size c.args.generator.now ps c.args.generator.now)
          (sym c.new-programs.ensures.items) refl;
      count = ap length c.new-programs.ensures.items;
    }

pub loop-mutator-preserved : goal.loop-mutator-preserved
loop-mutator-preserved c =
    let p = c.in_ok-program.program in
    let items = c.in_ok-push.ensures.items in
    record {
      drawn = subst (λ (ps : List ProgramView). AreSections c.args.size c.args.generator.now ps c.section.new.generator)
          (sym items)
          (sections_more _ _ _ _ _ _ c.loop-mutator.invariant.drawn c.in_ok-program.ensures);
      count = omega (
        arith,
        ap length items,
        length_push c.loop-mutator.programs.items p,
        c.loop-mutator.invariant.count,
      );
    }
