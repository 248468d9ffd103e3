use Rattle.std.proofs.Common.{sym, ◌∙◌}
use Rattle.mako_model.specs.Heaps.{Heap}
use Rattle.mako_model.proofs.Closed.{closed_put}
use Rattle.mako_model.proofs.immortal.Immortal.put.Goals as goal

pub invariant_of-self : goal.invariant_of-self
invariant_of-self c =
    let i = c.self.inside in
    let h : Heap = record { objects = i.objects; roots = i.roots; snaps = i.snaps; cycles = i.cycles } in
    closed_put h c.write.new.self c.in-Some-Ref-Some.name c.args.field c.args.mutator c.args.from
    c.in-Some-Ref-Some.value c.self.invariant (sym c.get-2.ensures ∙ c.in-Some-Ref-Some.is-1) c.write.ensures
