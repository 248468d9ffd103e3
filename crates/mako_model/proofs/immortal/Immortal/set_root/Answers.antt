use Rattle.std.proofs.Common.{sym, subst}
use Rattle.mako_model.specs.Heaps.{Heap}
use Rattle.mako_model.specs.Lawful.{IsAtHand}
use Rattle.mako_model.proofs.Closed.{closed_set, hand_has}
use Rattle.mako_model.proofs.immortal.Immortal.set_root.Goals as goal

pub invariant_of-self : goal.invariant_of-self
invariant_of-self c =
    let i = c.self.inside in
    let h : Heap = record { objects = i.objects; roots = i.roots; snaps = i.snaps; cycles = i.cycles } in
    let at : IsAtHand h c.args.value = subst (λ g. IsAtHand g c.args.value) (sym c.self.view_is) c.requires.value in
    closed_set h c.set.new.self c.args.mutator c.args.root c.args.value c.self.invariant
    (λ x e. hand_has h c.args.value x c.self.invariant at e) c.set.ensures
