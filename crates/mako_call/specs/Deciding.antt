-- Which step decides a call, and with what reply.
use Rattle.std.specs.Prelude.{◌≡◌, ℕ, Bool, ◌+◌, ◌≤◌, true, List, [], ◌∷◌, ◌++◌, Option, Some, None}
use Rattle.mako_words.specs.Entries.{entry_word}
use Rattle.mako_words.specs.Phases.{phase_at, cycle_of}
use Rattle.mako_words.specs.Values.{value_at, value_word}
use Rattle.mako_words.specs.declared.name.Name.{Name}
use Rattle.mako_words.specs.declared.value.Value.{Value}
use Rattle.mako_words.specs.declared.value.Value.TheVariants.{Null, Num as NumValue, Ref}
use Rattle.mako_shape.specs.declared.numbers.Numbers.{Numbers}
use Rattle.mako_shape.specs.Places.{Place, index, phase, mutator_gate, root, entry}
use Rattle.mako_step.specs.declared.act.Op.TheVariants.{Load, Store, Sub}
use Rattle.mako_step.specs.declared.act.Act.{Act}
use Rattle.mako_step.specs.declared.step.Step.TheVariants.{Do}
use Rattle.mako_model.specs.declared.call.Call.{Call}
use Rattle.mako_model.specs.declared.call.Call.TheVariants.{New, Num, CopyRoot, DropRoot, Get, Put, Show, Collect}
use Rattle.mako_model.specs.declared.reply.Reply.{Reply}
use Rattle.mako_model.specs.declared.reply.Reply.TheVariants.{Made, Full, Value as Told, Done, NoRef, NoField, Cycle}
use Rattle.mako_model.specs.declared.reply.Reply.TheVariants.{Spent}
use Rattle.mako_model.specs.declared.point.Point.{Point}
use Rattle.mako_model.specs.declared.point.Point.TheVariants.{Did}
use Rattle.mako_model.specs.declared.event.Event.{Event}
use Rattle.mako_model.specs.declared.event.Event.TheVariants.{Nothing, Answered, Snapped, Finished}
use Rattle.mako_model.specs.declared.attempt.Attempt.{Attempt}
use Rattle.mako_call.specs.declared.caller.Caller.{Caller}
use Rattle.mako_call.specs.Asking.{finished_cycles}
use Rattle.mako_call.specs.Calls.{Calling, next_of, fed, decided, event_of, outcome_in, reply_of, opening, IsKnown}

-- a value that names no object
abbrev pub IsNoRef : Value → Type 0
IsNoRef Null = Unit {0}
IsNoRef (NumValue x) = Unit {0}
IsNoRef (Ref name) = ⊥

abbrev pub loads : Numbers → Place → Act
loads n p = record { word = index n p; op = Load }

abbrev pub stores : Numbers → Place → ℕ → Act
stores n p word = record { word = index n p; op = Store word }

-- the word of a record behind its header
abbrev pub field_load : ℕ → ℕ → Act
field_load address field = record { word = address + 1 + field; op = Load }

abbrev pub field_store : ℕ → ℕ → ℕ → Act
field_store address field word = record { word = address + 1 + field; op = Store word }

abbrev pub header_load : ℕ → Act
header_load address = record { word = address; op = Load }

-- the entry's word at the birth of an object
abbrev pub born : Name → ℕ → ℕ → ℕ
born name epoch address =
    entry_word (record { taken = true; generation = name.generation; epoch = epoch; address = address })

-- the act that decides a call, the word that it finds, and the reply
pub data Decides (k : Caller) : Call → Act → ℕ → Reply → Type 0 where
  number : (to x w : ℕ)
      → Decides k (Num to x) (stores k.shape (root k.mutator to) (value_word (NumValue x))) w (Told (NumValue x))
  null : (to w : ℕ) → Decides k (DropRoot to) (stores k.shape (root k.mutator to) (value_word Null)) w Done
  copied : (to from w : ℕ) (value : Value)
      → Decides k (CopyRoot to from) (stores k.shape (root k.mutator to) (value_word value)) w (Told value)
  shown : (from w : ℕ) → Decides k (Show from) (loads k.shape (root k.mutator from)) w (Told (value_at w))
  no_source : (to from field w : ℕ) → IsNoRef (value_at w)
      → Decides k (Get to from field) (loads k.shape (root k.mutator from)) w NoRef
  no_target : (to field from w : ℕ) → IsNoRef (value_at w)
      → Decides k (Put to field from) (loads k.shape (root k.mutator to)) w NoRef
  no_field_got : (to from field address w : ℕ) → w ≤ field
      → Decides k (Get to from field) (header_load address) w NoField
  no_field_put : (to field from address w : ℕ) → w ≤ field
      → Decides k (Put to field from) (header_load address) w NoField
  got : (to from field address w : ℕ) → Decides k (Get to from field) (field_load address field) w (Told (value_at w))
  put : (to field from address w : ℕ) (value : Value)
      → Decides k (Put to field from) (field_store address field (value_word value)) w Done
  made : (to fields epoch address w : ℕ) (name : Name)
      → Decides k (New to fields) (stores k.shape (entry name.entry) (born name epoch address)) w (Made name)
  full : (to fields w : ℕ)
      → Decides k (New to fields) (record { word = index k.shape (mutator_gate k.mutator); op = Sub 1 }) w Full
  spent : (w : ℕ) → cycle_of (phase_at w) ≡ k.shape.cycles → Decides k Collect (loads k.shape phase) w Spent
  finished : (cycle w : ℕ) → cycle ≤ finished_cycles (phase_at w)
      → Decides k Collect (loads k.shape phase) w (Cycle cycle)

-- each point that an attempt tells is its call's, decided by such a step
abbrev pub PointsAreDecided : Type 0
PointsAreDecided = (v : Calling) (act : Act) (w : ℕ) (point : Point) → IsKnown v → next_of v ≡ Do act
    → event_of v w ≡ Answered point →
    (reply : Reply) × (point ≡ Did v.caller.mutator v.call reply) × Decides v.caller v.call act w reply

-- the points that an attempt tells while it finds these words
abbrev pub points_of : Event → List Point
points_of Nothing = []
points_of (Answered point) = point ∷ []
points_of (Snapped cycle) = []
points_of (Finished cycle) = []

abbrev pub points_along : Calling → List ℕ → List Point
points_along v [] = []
points_along v (w ∷ words) = points_of (event_of v w) ++ points_along (fed v w) words

-- the attempt after these words
abbrev pub after : Calling → List ℕ → Calling
after v [] = v
after v (w ∷ words) = after (fed v w) words

abbrev pub point_for : Calling → Option Reply → List Point
point_for v None = []
point_for v (Some reply) = Did v.caller.mutator v.call reply ∷ []

-- an attempt tells one point where it comes to an answer, with that answer's reply, and none where it does not; and
-- once it is decided, its answer no longer changes
pub record AnswersOnce : Type 0 where
  pub points : (k : Caller) (call : Call) (last : Bool) (asked : Option ℕ) (slot : ℕ) (words : List ℕ) →
      let m = opening k call last asked slot in points_along m words ≡ point_for m (decided (after m words).stage)
  pub stays : (v : Calling) (w : ℕ) (reply : Reply) → decided v.stage ≡ Some reply
      → decided (fed v w).stage ≡ Some reply
  pub comes_to : (v : Calling) (outcome : Attempt) → outcome_in v.stage ≡ Some outcome
      → decided v.stage ≡ reply_of outcome
