use Rattle.std.proofs.Common.{ap, sym, ◌∙◌, option_map}
use Rattle.std.specs.FinMap as finite
use Rattle.mako_model.proofs.ObjectsIn.{get_in}
use Rattle.mako_model.proofs.objects.Objects.get.Goals as goal

pub returns-in-Some : goal.returns-in-Some
returns-in-Some c =
    let found = get_in c.self.inside.fields.entries c.args.name
    ∙ ap (option_map (λ v. v.items)) (sym c.in-Some.ensures.value) in
    let seen = ap (λ m. finite.get m c.args.name) c.self.view_is in
    cc

pub returns-in-None : goal.returns-in-None
returns-in-None c =
    let found = get_in c.self.inside.fields.entries c.args.name
    ∙ ap (option_map (λ v. v.items)) (sym c.in-None.ensures.value) in
    let seen = ap (λ m. finite.get m c.args.name) c.self.view_is in
    cc
