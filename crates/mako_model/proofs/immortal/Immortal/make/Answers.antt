use Rattle.mako_model.specs.Heaps.{Heap}
use Rattle.mako_model.proofs.Closed.{closed_made}
use Rattle.mako_model.proofs.immortal.Immortal.make.Goals as goal

pub invariant_of-self-2 : goal.invariant_of-self-2
invariant_of-self-2 c =
    let i = c.self.inside in
    let h : Heap = record { objects = i.objects; roots = i.roots; snaps = i.snaps; cycles = i.cycles } in
    closed_made h c.insert.new.self c.set.new.self c.args.name c.in_ok-fields.fields.items c.args.fields c.args.mutator
    c.args.root c.self.invariant c.in_ok-fields.ensures c.in_ok-insert.ensures.ok c.set.ensures
