use Rattle.mako_model.proofs.Crowded.{crowded_answers}
use Rattle.mako_model.proofs.examples.objects_in_use_leave_no_room.Goals as goal

pub returns : goal.returns
returns c = crowded_answers
