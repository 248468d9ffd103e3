use Rattle.std.proofs.Common.{ap, sym, ◌∙◌, arith, length, set, unwrap_or, subst, IsSome, refl, []}
use Rattle.std.specs.FinMap as finite
use Rattle.std.specs.Vec.{with_item}
use Rattle.mako_model.specs.Immortals.{objects_in}
use Rattle.mako_model.proofs.ObjectsIn.{one_updated, found_items, nothing_found}
use Rattle.mako_model.proofs.objects.Objects.write.Goals as goal
use Rattle.mako_model.proofs.objects.Objects.write.Goals.{in-Some, in_default}

pub index_mut-requires : goal.index_mut-requires
index_mut-requires c =
    let same = found_items c.self.inside.fields.entries c.args.self.now c.args.name c.in-Some.fields.now c.requires.0
    c.self.view_is c.in-Some.ensures.value c.requires.1 in
    omega (arith, c.in-Some.fields.now.ok.0, ap length same, c.requires.2)

pub returns : goal.returns
returns c =
    let es = c.self.inside.fields.entries in
    let name = c.args.name in
    elim c.match-get_mut.branch [
      | in-Some w ↦
          let same = found_items es c.args.self.now name w.in-Some.fields.now c.requires.0 c.self.view_is
          w.in-Some.ensures.value c.requires.1 in
          let after = with_item w.in-Some.fields.now c.args.field c.args.value in
          ap (λ o. objects_in o.fields.entries) w.self-inside-is
          ∙ one_updated es (c.get_mut.follows.lender after).entries name after
          ((c.get_mut.follows.holds after).3 (subst IsSome w.in-Some.ensures.value refl)).0
          ∙ ap (λ m. finite.insert m name after.items) c.self.view_is
          ∙ ap (λ fields. finite.insert c.args.self.now name (set fields c.args.field c.args.value)) (same
          ∙ sym (ap (λ o. unwrap_or o []) c.requires.1))
      | in_default w ↦ absurd
          (nothing_found es c.args.self.now name c.requires.0 c.self.view_is w.in_default.ensures.value c.requires.1)
    ]
