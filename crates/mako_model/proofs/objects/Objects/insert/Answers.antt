use Rattle.std.proofs.Common.{ap, ◌∙◌}
use Rattle.std.specs.FinMap as finite
use Rattle.mako_model.proofs.ObjectsIn.{one_updated}
use Rattle.mako_model.proofs.objects.Objects.insert.Goals as goal

pub returns-in-Ok-clause-ok : goal.returns-in-Ok-clause-ok
returns-in-Ok-clause-ok c =
    one_updated c.self.inside.fields.entries c.insert.new.self.entries c.args.name c.args.fields
    c.in-Ok.ensures.updates.0
    ∙ ap (λ m. finite.insert m c.args.name c.args.fields.items) c.self.view_is
