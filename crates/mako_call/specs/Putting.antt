-- The stages of a put at its object's record, with the barrier.
use Rattle.std.specs.Prelude.{ℕ, ◌+◌, ◌<◌, ◌==◌, nat_lt, if◌then◌else◌}
use Rattle.mako_words.specs.Names.{FitsName}
use Rattle.mako_words.specs.Values.{IsPacked, FitsValue, value_at, value_word}
use Rattle.mako_words.specs.declared.value.Value.{Value}
use Rattle.mako_words.specs.declared.value.Value.TheVariants.{Null, Num, Ref}
use Rattle.mako_words.specs.declared.phase_word.PhaseWord.{PhaseWord}
use Rattle.mako_words.specs.declared.phase_word.PhaseWord.TheVariants.{Idle, Trace, Evac, Stop}
use Rattle.mako_shape.specs.declared.numbers.Numbers.{Numbers}
use Rattle.mako_shape.specs.Places.{index, total, barrier}
use Rattle.mako_step.specs.Acts.{does}
use Rattle.mako_step.specs.declared.act.Op.TheVariants.{Load, Store}
use Rattle.mako_step.specs.declared.step.Step.{Step}
use Rattle.mako_model.specs.declared.reply.Reply.TheVariants.{Done, NoField}
use Rattle.mako_model.specs.declared.attempt.Attempt.TheVariants.{Pause as Paused}
use Rattle.mako_model.specs.declared.attempt.Pause.TheVariants.{Barrier}
use Rattle.mako_call.specs.declared.caller.Caller.{Caller}
use Rattle.mako_call.specs.declared.object.Put.{Put}
use Rattle.mako_call.specs.declared.object.Located.{Located}
use Rattle.mako_call.specs.declared.call_stage.CallStage.{CallStage}
use Rattle.mako_call.specs.declared.call_stage.CallStage.TheVariants.{Putting}
use Rattle.mako_call.specs.declared.putting.PutStage.{PutStage}
use Rattle.mako_call.specs.declared.putting.PutStage.TheVariants.{LoadingHeader, LoadingOld, LookingAtBarrier}
use Rattle.mako_call.specs.declared.putting.PutStage.TheVariants.{StoringBarrier, StoringField}
use Rattle.mako_call.specs.Objects.{tablet_of}
use Rattle.mako_call.specs.Leaving.{leaving_tablet, answered_at}

-- load header; in Trace alone load field, and if it is a name look at the own barrier slot, and store the name there;
-- store field
abbrev pub put_next : Caller → ℕ → Located → Put → PutStage → Step
put_next k slot at put LoadingHeader = does at.address Load
put_next k slot at put LoadingOld = does (at.address + 1 + put.field) Load
put_next k slot at put (LookingAtBarrier old) = does (index k.shape (barrier k.mutator slot)) Load
put_next k slot at put (StoringBarrier old) =
    does (index k.shape (barrier k.mutator slot)) (Store (value_word (Ref old)))
put_next k slot at put StoringField = does (at.address + 1 + put.field) (Store (value_word put.value))

-- while the servers trace, the field is loaded first
abbrev pub before_store : PhaseWord → PutStage
before_store (Idle cycle) = StoringField
before_store (Trace cycle) = LoadingOld
before_store (Evac cycle) = StoringField
before_store (Stop cycle) = StoringField

-- a name that the field holds is to be recorded
abbrev pub old_fed : Value → PutStage
old_fed Null = StoringField
old_fed (Num x) = StoringField
old_fed (Ref old) = LookingAtBarrier old

abbrev pub put_fed : Numbers → ℕ → Located → Put → PutStage → ℕ → CallStage
put_fed n slot at put LoadingHeader w =
    if nat_lt put.field w then Putting at put (before_store put.phase) else answered_at (tablet_of n at.object) NoField
put_fed n slot at put LoadingOld w = Putting at put (old_fed (value_at w))
put_fed n slot at put (LookingAtBarrier old) w = if w == 0 then Putting at put (StoringBarrier old)
    else leaving_tablet (tablet_of n at.object) (Paused (Barrier slot w))
put_fed n slot at put (StoringBarrier old) w = Putting at put StoringField
put_fed n slot at put StoringField w = answered_at (tablet_of n at.object) Done

-- the place of the next name in a ring of this size
abbrev pub next_slot : ℕ → ℕ → ℕ
next_slot size slot = if slot + 1 == size then 0 else slot + 1

-- the slot for the next name, which rises when one is stored
abbrev pub slot_fed : ℕ → ℕ → PutStage → ℕ
slot_fed size slot LoadingHeader = slot
slot_fed size slot LoadingOld = slot
slot_fed size slot (LookingAtBarrier old) = slot
slot_fed size slot (StoringBarrier old) = next_slot size slot
slot_fed size slot StoringField = slot

-- the record lies within all words, and a field holds a value
abbrev pub PutFits : Numbers → Located → PutStage → ℕ → Type 0
PutFits n at LoadingHeader w = at.address + w < total n
PutFits n at LoadingOld w = IsPacked w
PutFits n at (LookingAtBarrier old) w = Unit {0}
PutFits n at (StoringBarrier old) w = Unit {0}
PutFits n at StoringField w = Unit {0}

abbrev pub put_rank : PutStage → ℕ
put_rank LoadingHeader = 7
put_rank LoadingOld = 6
put_rank (LookingAtBarrier old) = 5
put_rank (StoringBarrier old) = 4
put_rank StoringField = 3

-- past the header the field is one of the record
abbrev pub PutIsKnown : Numbers → Located → Put → PutStage → Type 0
PutIsKnown n at put LoadingHeader = FitsValue put.value
PutIsKnown n at put LoadingOld = FitsValue put.value × (at.address + 1 + put.field < total n)
PutIsKnown n at put (LookingAtBarrier old) = FitsValue put.value × (at.address + 1 + put.field < total n) × FitsName old
PutIsKnown n at put (StoringBarrier old) = FitsValue put.value × (at.address + 1 + put.field < total n) × FitsName old
PutIsKnown n at put StoringField = FitsValue put.value × (at.address + 1 + put.field < total n)
