-- What a server's turn and its tracing keep: the laws, each as a statement.
use Rattle.std.specs.Prelude.{ℕ, ◌≡◌, ◌<◌, ◌⊎◌, List, length, slice_set}
use Rattle.mako_words.specs.declared.phase_word.PhaseWord.TheVariants.{Trace}
use Rattle.mako_shape.specs.declared.numbers.Numbers.{Numbers}
use Rattle.mako_shape.specs.Limits.{IsShape}
use Rattle.mako_shape.specs.Places.{Place, work, ghost, index, Within, total, word_at}
use Rattle.mako_step.specs.Machines.{CanStep}
use Rattle.mako_step.specs.Acts.{words_stepped, finds}
use Rattle.mako_model.specs.Legal.{Facts, state_of}
use Rattle.mako_model.specs.Sizes.{ObjectsAreSmall}
use Rattle.mako_names.specs.Tables.{phase_of}
use Rattle.mako_shades.specs.Steps.{IsIncoming}
use Rattle.mako_joint.specs.Joints.{JointScene, Joint}
use Rattle.mako_joint.specs.Openings.{IsJointOpening}
use Rattle.mako_server.specs.declared.stage.ServerStage.TheVariants.{Turning, Tracing}
use Rattle.mako_server.specs.Serving.{Serving, opening, next_of, fed, Fits}
use Rattle.mako_tracing.specs.ServerFacets.{IsServerSeat, with_server}
use Rattle.mako_tracing.specs.ServerKeeps.{IsNameFor, SlotsBelong, CountsAreLow, ServerKeeps}

-- the words after the server's next act, and the server after it
abbrev pub words_next : Serving → List ℕ → List ℕ
words_next v words = words_stepped (next_of v) words

abbrev pub found_by : Serving → List ℕ → ℕ
found_by v words = finds (next_of v) words

abbrev pub server_next : Serving → List ℕ → Serving
server_next v words = fed v (found_by v words)

-- the seat is a server's, all groups hold of its scene, and what it keeps of itself and of slots holds
pub record ServerStands (n : Numbers) (w : Facts) (s : JointScene) (seat : ℕ) (v : Serving) : Type 0 where
  pub joint : Joint n w s
  pub slots : SlotsBelong n s.words
  pub here : IsServerSeat s seat v
  pub keeps : ServerKeeps n v

-- the scene after its step: the words are those after its act, and the seat's facets those of the server after it
abbrev pub scene_next : JointScene → ℕ → Serving → JointScene
scene_next s seat v = with_server s seat (server_next v s.words) (words_next v s.words)

-- so it is after its step
abbrev pub ServerGoes : Numbers → Facts → JointScene → ℕ → Serving → Type 0
ServerGoes n w s seat v = ServerStands n w (scene_next s seat v) seat (server_next v s.words)

-- while servers trace, the server's counts are far from their bound
abbrev pub LowWhileTraced : Numbers → JointScene → Serving → Type 0
LowWhileTraced n s v = (cycle : ℕ) → phase_of n s.words ≡ Trace cycle → CountsAreLow v.tracer

-- then, where no object has many fields, its act is of a word that there is, and finds what it can go on with
abbrev pub TracingCanGo : Type 0
TracingCanGo = (n : Numbers) (w : Facts) (s : JointScene) (seat : ℕ) (v : Serving) → ServerStands n w s seat v
    → v.stage ≡ Tracing → ObjectsAreSmall (state_of w s.front.history) → LowWhileTraced n s v
    → CanStep (next_of v) s.words (Fits v)

-- and so it is with the look at the phase
abbrev pub TurnsCanGo : Type 0
TurnsCanGo = (n : Numbers) (w : Facts) (s : JointScene) (seat : ℕ) (v : Serving) → ServerStands n w s seat v
    → v.stage ≡ Turning → CanStep (next_of v) s.words (Fits v)

-- each step of its tracing
abbrev pub TracingStepsGo : Type 0
TracingStepsGo = (n : Numbers) (w : Facts) (s : JointScene) (seat : ℕ) (v : Serving) → ServerStands n w s seat v
    → v.stage ≡ Tracing → ObjectsAreSmall (state_of w s.front.history) → LowWhileTraced n s v → ServerGoes n w s seat v

-- its turn on the phase
abbrev pub TurnsGo : Type 0
TurnsGo = (n : Numbers) (w : Facts) (s : JointScene) (seat : ℕ) (v : Serving) → ServerStands n w s seat v
    → v.stage ≡ Turning → ServerGoes n w s seat v

-- ---- where what it keeps begins, and what others leave of it

-- a server keeps it before its first turn
abbrev pub OpeningsKeep : Type 0
OpeningsKeep = (n : Numbers) (i : ℕ) → IsShape n → i < n.servers → ServerKeeps n (opening n i)

-- empty slots belong
abbrev pub EmptySlotsBelong : Type 0
EmptySlotsBelong = (n : Numbers) (words : List ℕ)
    → ((p : Place) → IsIncoming p → Within n p → word_at n words p ≡ 0) → SlotsBelong n words

-- and slots belong after any store that fills none, or fills one with 0 or with a name of its taker's own
abbrev pub BelongsAt : Numbers → Place → ℕ → Type 0
BelongsAt n (work r k) v = (v ≡ 0) ⊎ IsNameFor n r v
BelongsAt n (ghost a r k) v = (v ≡ 0) ⊎ IsNameFor n r v
BelongsAt n p v = Unit {0}

abbrev pub StoresLeaveSlots : Type 0
StoresLeaveSlots = (n : Numbers) (words : List ℕ) (p : Place) (v : ℕ) → length words ≡ total n → Within n p
    → SlotsBelong n words → BelongsAt n p v → SlotsBelong n (slice_set words (index n p) v)

-- ---- the opening

-- at the opening of all groups all of it stands at the seat of a server before its first turn
abbrev pub OpeningServersStand : Type 0
OpeningServersStand = (n : Numbers) (w : Facts) (s : JointScene) (seat i : ℕ) → IsJointOpening n w s → i < n.servers
    → IsServerSeat s seat (opening n i) → ServerStands n w s seat (opening n i)
