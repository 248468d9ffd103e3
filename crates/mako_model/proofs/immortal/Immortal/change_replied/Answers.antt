use Rattle.mako_model.proofs.Changes.{copy_at_hand, field_at_hand}
use Rattle.mako_model.proofs.immortal.Immortal.change_replied.Goals as goal

pub set_root-requires-in-CopyRoot-Value-clause-value : goal.set_root-requires-in-CopyRoot-Value-clause-value
set_root-requires-in-CopyRoot-Value-clause-value c =
    let d = c.in-CopyRoot-Value in
    copy_at_hand c.args.self.now c.args.mutator d.to d.from-0 d.value c.args.call c.args.reply d.is-0 d.is-1
    c.requires

pub set_root-requires-in-Get-Value-clause-value : goal.set_root-requires-in-Get-Value-clause-value
set_root-requires-in-Get-Value-clause-value c =
    let d = c.in-Get-Value in
    field_at_hand c.args.self.now c.args.mutator d.to d.from-0 d.field-0 d.value c.args.call c.args.reply d.is-0
    d.is-1 c.requires
