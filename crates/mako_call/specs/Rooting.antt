-- The stages of an attempt at the mutator's own roots.
use Rattle.std.specs.Prelude.{ℕ, ◌<◌, ◌^◌}
use Rattle.mako_words.specs.Phases.{IsPackedPhase, phase_at}
use Rattle.mako_words.specs.Values.{IsPacked, FitsValue, value_at, value_word}
use Rattle.mako_words.specs.declared.value.Value.{Value}
use Rattle.mako_words.specs.declared.value.Value.TheVariants.{Null, Num, Ref}
use Rattle.mako_shape.specs.declared.numbers.Numbers.{Numbers}
use Rattle.mako_shape.specs.Places.{index, phase, root}
use Rattle.mako_step.specs.Acts.{does}
use Rattle.mako_step.specs.declared.act.Op.TheVariants.{Load, Store}
use Rattle.mako_step.specs.declared.step.Step.{Step}
use Rattle.mako_model.specs.declared.reply.Reply.TheVariants.{Value as Told, Done, NoRef}
use Rattle.mako_call.specs.declared.caller.Caller.{Caller}
use Rattle.mako_call.specs.declared.object.Access.TheVariants.{Get as Gets, Put as Puts}
use Rattle.mako_call.specs.declared.call_stage.CallStage.{CallStage}
use Rattle.mako_call.specs.declared.call_stage.CallStage.TheVariants.{Rooting}
use Rattle.mako_call.specs.declared.rooting.RootStage.{RootStage}
use Rattle.mako_call.specs.declared.rooting.RootStage.TheVariants.{StoringNumber, StoringNull, LoadingCopied}
use Rattle.mako_call.specs.declared.rooting.RootStage.TheVariants.{StoringCopied, LoadingShown, LoadingSource}
use Rattle.mako_call.specs.declared.rooting.RootStage.TheVariants.{LoadingTarget, LoadingValue, LoadingPhase}
use Rattle.mako_call.specs.Objects.{begun_at, ObjectIsKnown, ValueIsKnown}
use Rattle.mako_call.specs.Leaving.{answered}

-- the index of an own root
abbrev pub own_root : Caller → ℕ → ℕ
own_root k number = index k.shape (root k.mutator number)

-- num and drop: store root; copy: load the root read, store the root written; show: load root;
-- get and put: load the root of the object; put: load the root of the value, load phase
abbrev pub root_next : Caller → RootStage → Step
root_next k (StoringNumber to number) = does (own_root k to) (Store (value_word (Num number)))
root_next k (StoringNull to) = does (own_root k to) (Store (value_word Null))
root_next k (LoadingCopied to from) = does (own_root k from) Load
root_next k (StoringCopied to value) = does (own_root k to) (Store (value_word value))
root_next k (LoadingShown from) = does (own_root k from) Load
root_next k (LoadingSource to from field) = does (own_root k from) Load
root_next k (LoadingTarget to field from) = does (own_root k to) Load
root_next k (LoadingValue object field from) = does (own_root k from) Load
root_next k (LoadingPhase object field value) = does (index k.shape phase) Load

-- a get goes to the object that its root names
abbrev pub source_fed : ℕ → ℕ → Value → CallStage
source_fed to field Null = answered NoRef
source_fed to field (Num x) = answered NoRef
source_fed to field (Ref object) = begun_at object (Gets (record { to = to; field = field }))

-- a put loads its value once its root names an object
abbrev pub target_fed : ℕ → ℕ → Value → CallStage
target_fed field from Null = answered NoRef
target_fed field from (Num x) = answered NoRef
target_fed field from (Ref object) = Rooting (LoadingValue object field from)

abbrev pub root_fed : RootStage → ℕ → CallStage
root_fed (StoringNumber to number) w = answered (Told (Num number))
root_fed (StoringNull to) w = answered Done
root_fed (LoadingCopied to from) w = Rooting (StoringCopied to (value_at w))
root_fed (StoringCopied to value) w = answered (Told value)
root_fed (LoadingShown from) w = answered (Told (value_at w))
root_fed (LoadingSource to from field) w = source_fed to field (value_at w)
root_fed (LoadingTarget to field from) w = target_fed field from (value_at w)
root_fed (LoadingValue object field from) w = Rooting (LoadingPhase object field (value_at w))
root_fed (LoadingPhase object field value) w =
    begun_at object (Puts (record { field = field; value = value; phase = phase_at w }))

-- what is loaded is a value or a phase, and a name that is gone to is one of an entry that there is
abbrev pub RootFits : Numbers → RootStage → ℕ → Type 0
RootFits n (StoringNumber to number) w = Unit {0}
RootFits n (StoringNull to) w = Unit {0}
RootFits n (LoadingCopied to from) w = IsPacked w
RootFits n (StoringCopied to value) w = Unit {0}
RootFits n (LoadingShown from) w = IsPacked w
RootFits n (LoadingSource to from field) w = IsPacked w × ValueIsKnown n (value_at w)
RootFits n (LoadingTarget to field from) w = IsPacked w × ValueIsKnown n (value_at w)
RootFits n (LoadingValue object field from) w = IsPacked w
RootFits n (LoadingPhase object field value) w = IsPackedPhase w

-- the most steps that are left; from the arrival at a tablet on there are 46
abbrev pub root_rank : RootStage → ℕ
root_rank (StoringNumber to number) = 2
root_rank (StoringNull to) = 2
root_rank (LoadingCopied to from) = 3
root_rank (StoringCopied to value) = 2
root_rank (LoadingShown from) = 2
root_rank (LoadingSource to from field) = 47
root_rank (LoadingTarget to field from) = 49
root_rank (LoadingValue object field from) = 48
root_rank (LoadingPhase object field value) = 47

abbrev pub RootIsKnown : Numbers → RootStage → Type 0
RootIsKnown n (StoringNumber to number) = (to < n.roots) × (number < 2 ^ 32)
RootIsKnown n (StoringNull to) = to < n.roots
RootIsKnown n (LoadingCopied to from) = (to < n.roots) × (from < n.roots)
RootIsKnown n (StoringCopied to value) = (to < n.roots) × FitsValue value
RootIsKnown n (LoadingShown from) = from < n.roots
RootIsKnown n (LoadingSource to from field) = (to < n.roots) × (from < n.roots)
RootIsKnown n (LoadingTarget to field from) = (to < n.roots) × (from < n.roots)
RootIsKnown n (LoadingValue object field from) = ObjectIsKnown n object × (from < n.roots)
RootIsKnown n (LoadingPhase object field value) = ObjectIsKnown n object × FitsValue value
