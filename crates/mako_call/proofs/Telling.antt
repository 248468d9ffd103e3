-- Whether a step decides its call.
use Rattle.std.proofs.Common.{◌≡◌, ℕ, true, false, Option, Some, None, refl}
use Rattle.mako_model.specs.declared.call.Call.{Call}
use Rattle.mako_model.specs.declared.reply.Reply.{Reply}
use Rattle.mako_call.specs.Calls.{newly, event_by}

pub same_tells_nothing : (o : Option Reply) → newly o o ≡ false
same_tells_nothing None = refl
same_tells_nothing (Some reply) = refl

-- the call is not decided before the step that decides it
pub tells_first : (m : ℕ) (call : Call) (before after : Option Reply) → newly before after ≡ true
    → event_by m call before after ≡ event_by m call None after
tells_first m call None after is = refl
tells_first m call (Some earlier) after is = absurd (let no : false ≡ true = is in cc)
