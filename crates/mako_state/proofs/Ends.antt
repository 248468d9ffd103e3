-- What an attempt asks for at its end: nothing, but where a collect pauses.
use Rattle.std.proofs.Common.{◌≡◌, None, refl}
use Rattle.mako_model.specs.declared.call.Call.{Call}
use Rattle.mako_model.specs.declared.call.Call.TheVariants as call
use Rattle.mako_model.specs.declared.reply.Reply.{Reply}
use Rattle.mako_model.specs.declared.attempt.Attempt.TheVariants.{Answer, Full as NoRoom, Pause as Paused}
use Rattle.mako_model.specs.declared.attempt.Pause.{Pause as Reason}
use Rattle.mako_call.specs.Agreeing.{asked_of, Arrives}

pub answer_asks : (c : Call) (r : Reply) → asked_of c (Answer r) ≡ None
answer_asks (call.New q fields) r = refl
answer_asks (call.Num q number) r = refl
answer_asks (call.CopyRoot to from) r = refl
answer_asks (call.DropRoot q) r = refl
answer_asks (call.Get to from field) r = refl
answer_asks (call.Put to field from) r = refl
answer_asks (call.Show q) r = refl
answer_asks call.Collect r = refl

pub full_asks : (c : Call) → asked_of c NoRoom ≡ None
full_asks (call.New q fields) = refl
full_asks (call.Num q number) = refl
full_asks (call.CopyRoot to from) = refl
full_asks (call.DropRoot q) = refl
full_asks (call.Get to from field) = refl
full_asks (call.Put to field from) = refl
full_asks (call.Show q) = refl
full_asks call.Collect = refl

pub pause_asks : (c : Call) (r : Reason) → Arrives c → asked_of c (Paused r) ≡ None
pause_asks (call.New q fields) r a = refl
pause_asks (call.Num q number) r a = refl
pause_asks (call.CopyRoot to from) r a = refl
pause_asks (call.DropRoot q) r a = refl
pause_asks (call.Get to from field) r a = refl
pause_asks (call.Put to field from) r a = refl
pause_asks (call.Show q) r a = refl
pause_asks call.Collect r a = absurd a
