-- What a step tells of replies.
use Rattle.std.proofs.Common.{◌≡◌, ℕ, ◌+◌, Option, Some, None, length, refl}
use Rattle.std.proofs.lemmas.Option.{none-some}
use Rattle.mako_model.specs.declared.call.Call.{Call}
use Rattle.mako_model.specs.declared.reply.Reply.{Reply}
use Rattle.mako_call.specs.Calls.{Calling, fed, decided, event_by, event_of}
use Rattle.mako_call.proofs.Deciding.{decided_stays}
use Rattle.mako_mutator.specs.Drivers.{told_reply, ahead}

-- a step tells a reply exactly where with it the call comes to be decided
told_by : (m : ℕ) (call : Call) (before after : Option Reply) → ((r : Reply) → before ≡ Some r → after ≡ Some r)
    → length (told_reply (event_by m call before after)) + ahead before ≡ ahead after
told_by m call None None stays = refl
told_by m call None (Some reply) stays = refl
told_by m call (Some earlier) None stays = absurd (none-some earlier (stays earlier refl))
told_by m call (Some earlier) (Some later) stays = refl

pub told_count : (v : Calling) (w : ℕ)
    → length (told_reply (event_of v w)) + ahead (decided v.stage) ≡ ahead (decided (fed v w).stage)
told_count v w = told_by v.caller.mutator v.call (decided v.stage) (decided (fed v w).stage) (decided_stays v w)
