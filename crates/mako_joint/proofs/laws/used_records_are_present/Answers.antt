use Rattle.mako_joint.proofs.Records.{present_record}
use Rattle.mako_joint.proofs.laws.used_records_are_present.Goals as goal

pub returns : goal.returns
returns c = present_record
