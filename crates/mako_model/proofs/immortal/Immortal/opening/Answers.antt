use Rattle.std.proofs.Common.{List, ap, ◌∙◌}
use Rattle.std.specs.FinMap as map
use Rattle.mako_words.specs.declared.value.Value.{Value}
use Rattle.mako_model.specs.Heaps.{board_name}
use Rattle.mako_model.specs.Immortals.{FieldMap}
use Rattle.mako_model.proofs.Closed.{closed_open}
use Rattle.mako_model.proofs.immortal.Immortal.opening.Goals as goal

pub invariant_of-result : goal.invariant_of-result
invariant_of-result c =
    closed_open c.insert.new.self c.in_ok-roots.roots c.args.mutators c.args.roots c.args.board c.args.cycles
    (c.in_ok-insert.ensures.ok
    ∙ ap (λ (o : FieldMap). map.insert o board_name c.in_ok-nulls.field-0.items) c.new-objects.ensures
    ∙ ap (λ (fields : List Value). map.insert map.empty board_name fields) c.in_ok-nulls.ensures)
    c.in_ok-roots.ensures
