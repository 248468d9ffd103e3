-- The steps of a server that evacuates.
use Rattle.std.specs.Prelude.{ℕ, Bool, true, false, ◌≡◌, ◌≢◌, ◌+◌, List, ◌++◌, length, slice_get, slice_set, Some}
use Rattle.mako_words.specs.declared.name.Name.{Name}
use Rattle.mako_words.specs.declared.value.Value.{Value}
use Rattle.mako_shape.specs.declared.numbers.Numbers.{Numbers}
use Rattle.mako_shape.specs.Places.{notice, word_at}
use Rattle.mako_step.specs.Acts.{words_stepped, finds}
use Rattle.mako_step.specs.Machines.{IsAct, CanStep}
use Rattle.mako_model.specs.Heaps.{Heap, fields_of}
use Rattle.mako_model.specs.Legal.{Facts, state_of}
use Rattle.mako_model.specs.Sizes.{ObjectsAreSmall}
use Rattle.mako_names.specs.Tables.{entry_of}
use Rattle.mako_gate.specs.Standings.{shutter_at}
use Rattle.mako_record.specs.declared.copier.CopyStage.{CopyStage}
use Rattle.mako_record.specs.declared.copier.CopyStage.TheVariants as copy
use Rattle.mako_evac.specs.declared.owner.Owner.{Owner}
use Rattle.mako_evac.specs.declared.stage.EvacStage.{EvacStage}
use Rattle.mako_evac.specs.declared.stage.EvacStage.TheVariants.{Evacuating, Freeing, AwaitingEnd, TellingEnd, Ended}
use Rattle.mako_evac.specs.declared.tablet.TabletStage.{TabletStage}
use Rattle.mako_evac.specs.declared.tablet.TabletStage.TheVariants.{Copying}
use Rattle.mako_evac.specs.declared.freeing.FreeStage.{FreeStage}
use Rattle.mako_evac.specs.declared.freeing.FreeStage.TheVariants.{Loading, Storing, Awaiting, Telling}
use Rattle.mako_evac.specs.Owners.{IsOwnEntry}
use Rattle.mako_evac.specs.Evacuating.{Evacuation, next_of, fed, Fits, IsKnown}
use Rattle.mako_layout.specs.Evacuations.{slot_at}
use Rattle.mako_phases.specs.Facets.{evacuating, serving, collecting}
use Rattle.mako_joint.specs.Joints.{JointScene, layout_in, Joint}
use Rattle.mako_clearing.specs.ClearingFacets.{server_seat, clearing_phase, clearing_ended, clearing_gate}
use Rattle.mako_clearing.specs.ClearingFacets.{clearing_work, clearing_through, stage_carries, stage_sends}
use Rattle.mako_clearing.specs.Notices.{SendingStands}

-- ---- what it keeps of itself and of words

-- from the load of the header on, until the entry is stored, it knows how many fields the record has
abbrev pub CopyKnows : ℕ → CopyStage → Type 0
CopyKnows size copy.LoadingTop = Unit {0}
CopyKnows size (copy.LoadingHeader offset) = Unit {0}
CopyKnows size (copy.StoringHeader offset fields) = fields + 1 ≡ size
CopyKnows size (copy.LoadingField offset fields field) = fields + 1 ≡ size
CopyKnows size (copy.StoringField offset fields field word) = fields + 1 ≡ size
CopyKnows size (copy.StoringEntry offset fields) = fields + 1 ≡ size
CopyKnows size (copy.RaisingTop offset fields) = Unit {0}
CopyKnows size (copy.Ended address) = Unit {0}

abbrev pub TabletKnows : Numbers → Facts → JointScene → TabletStage → Type 0
TabletKnows n w s (Copying region x copier) = CopyKnows (slot_at n (layout_in n w s) x).size copier.stage
TabletKnows n w s stage = Unit {0}

-- the entry is taken with this generation, for an object that is not of the cycle
pub record IsDue (n : Numbers) (words : List ℕ) (cycle x generation : ℕ) : Type 0 where
  pub taken : (entry_of n words x).taken ≡ true
  pub generation_is : (entry_of n words x).generation ≡ generation
  pub epoch : (entry_of n words x).epoch ≢ cycle

-- it is about to free the entry that it found so, and to store into the slot that it found empty
abbrev pub FreeKnows : Numbers → List ℕ → Owner → ℕ → ℕ → FreeStage → Type 0
FreeKnows n words o at x Loading = Unit {0}
FreeKnows n words o at x (Storing generation) = IsDue n words o.cycle x generation
FreeKnows n words o at x (Awaiting generation) = Unit {0}
FreeKnows n words o at x (Telling generation) = word_at n words (notice o.server at) ≡ 0

abbrev pub StageKnows : Numbers → Facts → JointScene → Owner → ℕ → EvacStage → Type 0
StageKnows n w s o at (Evacuating t stage) = TabletKnows n w s stage
StageKnows n w s o at (Freeing x stage) = FreeKnows n s.words o at x stage
StageKnows n w s o at AwaitingEnd = Unit {0}
StageKnows n w s o at TellingEnd = word_at n s.words (notice o.server at) ≡ 0
StageKnows n w s o at Ended = Unit {0}

-- it has told the end of the cycle
abbrev pub tells_end : EvacStage → Bool
tells_end (Evacuating t stage) = false
tells_end (Freeing x stage) = false
tells_end AwaitingEnd = false
tells_end TellingEnd = false
tells_end Ended = true

-- The facets of the server's seat are those of its evacuation, with the last cycle that it had ended before.
pub record SeatStands (n : Numbers) (s : JointScene) (v : Evacuation) (ended : ℕ) (laden : Bool) : Type 0 where
  pub phase : slice_get s.facets.phases (server_seat n v.owner.server)
      ≡ Some (serving v.owner.server (clearing_phase v) (clearing_ended v ended) laden)
  pub gate : slice_get s.facets.gates (server_seat n v.owner.server)
      ≡ Some (shutter_at (server_seat n v.owner.server) (clearing_gate v))
  pub work : slice_get s.facets.works (server_seat n v.owner.server) ≡ Some (clearing_work v)
  pub through : slice_get s.facets.names.through v.owner.server ≡ Some (clearing_through v)

-- What the server has sent, with the place at which the collector takes its notices.
pub record SendingIs (n : Numbers) (s : JointScene) (v : Evacuation) (taker : ℕ) (sent : List Name) : Type 0 where
  pub sent_is : slice_get s.facets.names.sent v.owner.server ≡ Some sent
  pub notices : SendingStands n s.words v.owner.server taker v.at sent (stage_carries v.stage) (tells_end v.stage)

pub record ClearingStands (n : Numbers) (w : Facts) (s : JointScene) (v : Evacuation) (ended : ℕ) (laden : Bool)
    (taker : ℕ) (sent : List Name) : Type 0 where
  pub known : IsKnown v
  pub shape : v.owner.shape ≡ n
  pub facets : SeatStands n s v ended laden
  pub sending : SendingIs n s v taker sent
  pub knows : StageKnows n w s v.owner v.at v.stage

-- ---- what follows from facets being of machines

-- the server whose notices the collector reads is the first that has not told that it is done
abbrev pub ReadersMatch : JointScene → Type 0
ReadersMatch s = (seat cycle told : ℕ) (pending : List Name)
    → slice_get s.facets.phases seat ≡ Some (collecting (evacuating cycle told) pending)
    → s.facets.names.collector.server ≡ told

-- ---- its steps

-- the scene with these words, and with the facets of this evacuation at the server's seat
abbrev pub with_evacuation : Numbers → JointScene → List ℕ → Evacuation → ℕ → Bool → List Name → JointScene
with_evacuation n s words v ended laden sent = record s {
  words = words;
  facets = record s.facets {
    names = record s.facets.names {
      through = slice_set s.facets.names.through v.owner.server (clearing_through v);
      sent = slice_set s.facets.names.sent v.owner.server sent;
    };
    gates = slice_set s.facets.gates (server_seat n v.owner.server)
        (shutter_at (server_seat n v.owner.server) (clearing_gate v));
    works = slice_set s.facets.works (server_seat n v.owner.server) (clearing_work v);
    phases = slice_set s.facets.phases (server_seat n v.owner.server)
        (serving v.owner.server (clearing_phase v) (clearing_ended v ended) laden);
  };
}

-- the scene after the evacuation's step
abbrev pub evacuated : Numbers → JointScene → Evacuation → ℕ → Bool → List Name → JointScene
evacuated n s v ended laden sent =
    with_evacuation n s (words_stepped (next_of v) s.words) (fed v (finds (next_of v) s.words)) ended laden
    (sent ++ stage_sends v.stage)

-- The step is of a word that there is, within its bounds, and finds what the machine can go on with; all groups are
-- kept, and so is what the server keeps.
pub record ClearingGoesOn (n : Numbers) (w : Facts) (s : JointScene) (v : Evacuation) (ended : ℕ) (laden : Bool)
    (taker : ℕ) (sent : List Name) : Type 0 where
  pub can : CanStep (next_of v) s.words (Fits v)
  pub joint : Joint n w (evacuated n s v ended laden sent)
  pub stands : ClearingStands n w (evacuated n s v ended laden sent) (fed v (finds (next_of v) s.words)) ended laden
      taker (sent ++ stage_sends v.stage)

-- each step of a server's evacuation, in some of its stages
abbrev pub KeepsAt : (EvacStage → Type 0) → Type 0
KeepsAt In = (n : Numbers) (w : Facts) (s : JointScene) (v : Evacuation) (ended : ℕ) (laden : Bool) (taker : ℕ)
    (sent : List Name) → Joint n w s → ReadersMatch s → ObjectsAreSmall (state_of w s.front.history)
    → ClearingStands n w s v ended laden taker sent → IsAct (next_of v) → In v.stage
    → ClearingGoesOn n w s v ended laden taker sent

-- past its tablets, where it frees entries and tells of them
abbrev pub IsFreeing : EvacStage → Type 0
IsFreeing (Evacuating t stage) = ⊥
IsFreeing stage = Unit {0}

abbrev pub FreeingKeeps : Type 0
FreeingKeeps = KeepsAt IsFreeing

-- at a tablet
abbrev pub IsAtTablet : EvacStage → Type 0
IsAtTablet (Evacuating t stage) = Unit {0}
IsAtTablet stage = ⊥

abbrev pub TabletsKeep : Type 0
TabletsKeep = KeepsAt IsAtTablet

-- ---- steps of others

-- objects keep their numbers of fields
abbrev pub KeepsSizes : Heap → Heap → Type 0
KeepsSizes h h' = (name : Name) (fields : List Value) → fields_of h name ≡ Some fields
    → (more : List Value) × (fields_of h' name ≡ Some more) × (length more ≡ length fields)

-- A step of another seat stores nothing into the slot that the server found empty, and leaves each entry of the server
-- that is due to be freed.
pub record LeavesEvacuation (n : Numbers) (w : Facts) (s after : JointScene) (v : Evacuation) : Type 0 where
  pub empty : word_at n s.words (notice v.owner.server v.at) ≡ 0
      → word_at n after.words (notice v.owner.server v.at) ≡ 0
  pub due : (x generation : ℕ) → IsOwnEntry v.owner x → IsDue n s.words v.owner.cycle x generation
      → IsDue n after.words v.owner.cycle x generation
  pub sizes : KeepsSizes (state_of w s.front.history) (state_of w after.front.history)

-- so what the server keeps stands after it
abbrev pub ClearingStays : Type 0
ClearingStays = (n : Numbers) (w : Facts) (s after : JointScene) (v : Evacuation) (ended : ℕ) (laden : Bool)
    (taker later : ℕ) (sent left : List Name) → Joint n w s → Joint n w after
    → ClearingStands n w s v ended laden taker sent → SeatStands n after v ended laden → SendingIs n after v later left
    → LeavesEvacuation n w s after v → ClearingStands n w after v ended laden later left
