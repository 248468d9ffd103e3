-- What steps of others leave to a server that evacuates.
use Rattle.std.specs.Prelude.{ℕ, Bool, ◌≡◌, ◌≢◌, List, slice_set}
use Rattle.mako_words.specs.declared.name.Name.{Name}
use Rattle.mako_shape.specs.declared.numbers.Numbers.{Numbers}
use Rattle.mako_shape.specs.Places.{Place, entry, notice, index, Within}
use Rattle.mako_model.specs.Legal.{Facts, state_of}
use Rattle.mako_evac.specs.Owners.{IsOwnEntry}
use Rattle.mako_evac.specs.Evacuating.{Evacuation, IsKnown}
use Rattle.mako_joint.specs.Joints.{JointScene, Joint}
use Rattle.mako_pause.specs.Collecting.{Holdings}
use Rattle.mako_pause.specs.declared.stage.NoticeStage.{NoticeStage}
use Rattle.mako_clearing.specs.Hearing.{notice_server, HearingStands, with_hearing, words_next, IsReading}
use Rattle.mako_clearing.specs.Clearing.{ClearingStands, KeepsSizes, LeavesEvacuation, SendingIs, evacuated}

-- the place is neither one of the server's entries nor one of its notice slots
abbrev pub IsForeign : Evacuation → Place → Type 0
IsForeign v (entry x) = IsOwnEntry v.owner x → ⊥
IsForeign v (notice server slot) = server ≢ v.owner.server
IsForeign v p = Unit {0}

-- a store at such a place leaves the evacuation
abbrev pub StoresAreApart : Type 0
StoresAreApart = (n : Numbers) (w : Facts) (s after : JointScene) (v : Evacuation) (p : Place) (word : ℕ)
    → after.words ≡ slice_set s.words (index n p) word → Within n p → IsForeign v p → IsKnown v → v.owner.shape ≡ n
    → KeepsSizes (state_of w s.front.history) (state_of w after.front.history) → LeavesEvacuation n w s after v

-- a step of a server's evacuation leaves the evacuation of another server, and what that one has sent
pub record IsApartFrom (n : Numbers) (w : Facts) (s after : JointScene) (other : Evacuation) : Type 0 where
  pub leaves : LeavesEvacuation n w s after other
  pub sending : (taker : ℕ) (sent : List Name) → SendingIs n s other taker sent → SendingIs n after other taker sent

abbrev pub EvacuationsAreApart : Type 0
EvacuationsAreApart = (n : Numbers) (w : Facts) (s : JointScene) (v other : Evacuation) (ended : ℕ) (laden : Bool)
    (taker : ℕ) (sent : List Name) → ClearingStands n w s v ended laden taker sent → IsKnown other
    → other.owner.shape ≡ n → other.owner.server ≢ v.owner.server
    → IsApartFrom n w s (evacuated n s v ended laden sent) other

-- a step of the collector at the notices of a server leaves each evacuation, and what other servers have sent
pub record HearingLeaves (n : Numbers) (w : Facts) (s after : JointScene) (server : ℕ) (other : Evacuation) :
    Type 0 where
  pub leaves : LeavesEvacuation n w s after other
  pub sending : other.owner.server ≢ server → (taker : ℕ) (sent : List Name) → SendingIs n s other taker sent
      → SendingIs n after other taker sent

abbrev pub HearingIsApart : Type 0
HearingIsApart = (n : Numbers) (w : Facts) (s : JointScene) (k later : Holdings) (stage to : NoticeStage)
    (left : List Name) (other : Evacuation) → Joint n w s → HearingStands n s k stage → IsReading stage → IsKnown other
    → other.owner.shape ≡ n
    → HearingLeaves n w s (with_hearing n s (words_next k stage s.words) later to (notice_server n stage) left)
    (notice_server n stage) other
