-- The stages of a get at its object's record.
use Rattle.std.specs.Prelude.{ℕ, ◌+◌, ◌<◌, nat_lt, if◌then◌else◌}
use Rattle.mako_words.specs.Values.{IsPacked, FitsValue, value_at, value_word}
use Rattle.mako_shape.specs.declared.numbers.Numbers.{Numbers}
use Rattle.mako_shape.specs.Places.{total}
use Rattle.mako_step.specs.Acts.{does}
use Rattle.mako_step.specs.declared.act.Op.TheVariants.{Load, Store}
use Rattle.mako_step.specs.declared.step.Step.{Step}
use Rattle.mako_model.specs.declared.reply.Reply.TheVariants.{Value as Told, NoField}
use Rattle.mako_call.specs.declared.caller.Caller.{Caller}
use Rattle.mako_call.specs.declared.object.Get.{Get}
use Rattle.mako_call.specs.declared.object.Located.{Located}
use Rattle.mako_call.specs.declared.call_stage.CallStage.{CallStage}
use Rattle.mako_call.specs.declared.call_stage.CallStage.TheVariants.{Getting}
use Rattle.mako_call.specs.declared.getting.GetStage.{GetStage}
use Rattle.mako_call.specs.declared.getting.GetStage.TheVariants.{LoadingHeader, LoadingField, StoringRoot}
use Rattle.mako_call.specs.Objects.{tablet_of}
use Rattle.mako_call.specs.Leaving.{answered_at}
use Rattle.mako_call.specs.Rooting.{own_root}

-- load header; load field; store root
abbrev pub get_next : Caller → Located → Get → GetStage → Step
get_next k at get LoadingHeader = does at.address Load
get_next k at get LoadingField = does (at.address + 1 + get.field) Load
get_next k at get (StoringRoot value) = does (own_root k get.to) (Store (value_word value))

-- a field that the header does not count is none
abbrev pub get_fed : Numbers → Located → Get → GetStage → ℕ → CallStage
get_fed n at get LoadingHeader w =
    if nat_lt get.field w then Getting at get LoadingField else answered_at (tablet_of n at.object) NoField
get_fed n at get LoadingField w = Getting at get (StoringRoot (value_at w))
get_fed n at get (StoringRoot value) w = answered_at (tablet_of n at.object) (Told value)

-- the record lies within all words, and a field holds a value
abbrev pub GetFits : Numbers → Located → GetStage → ℕ → Type 0
GetFits n at LoadingHeader w = at.address + w < total n
GetFits n at LoadingField w = IsPacked w
GetFits n at (StoringRoot value) w = Unit {0}

abbrev pub get_rank : GetStage → ℕ
get_rank LoadingHeader = 5
get_rank LoadingField = 4
get_rank (StoringRoot value) = 3

abbrev pub GetIsKnown : Numbers → Located → Get → GetStage → Type 0
GetIsKnown n at get LoadingHeader = get.to < n.roots
GetIsKnown n at get LoadingField = (get.to < n.roots) × (at.address + 1 + get.field < total n)
GetIsKnown n at get (StoringRoot value) = (get.to < n.roots) × FitsValue value
