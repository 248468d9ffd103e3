use Rattle.std.proofs.Common.{refl, subst}
use Rattle.rand_pcg.specs.Lcg.{Lcg}
use Rattle.mako_gen.specs.Workloads.{AreSections}
use Rattle.mako_gen.proofs.Proper.{is_proper}
use Rattle.mako_gen.proofs.workload.make.Goals as goal

pub invariant_of-result : goal.invariant_of-result
invariant_of-result c =
    is_proper c.args.seed c.args.size (record {
      numbers = c.shape.result;
      board = 8;
      programs = c.in-Ok.programs.items;
    }) c.requires.1
    (record {
      geometry = c.shape.ensures;
      board = refl;
      mutators = c.in-Ok.ensures.count;
      behind = c.sections.new.generator;
      sections = subst (λ (g : Lcg). AreSections c.args.size g c.in-Ok.programs.items c.sections.new.generator)
          c.seed_from_u64-generator.ensures c.in-Ok.ensures.drawn;
    })
