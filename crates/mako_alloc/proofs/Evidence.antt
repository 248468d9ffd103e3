-- What the trail of a `new` shows at each stage.
use Rattle.std.proofs.Common.{◌≡◌, ℕ, ◌+◌, ◌*◌, ◌<◌, List, [], ◌∷◌, ◌++◌, Option, Some, None, ap, subst, refl, ◌∙◌}
use Rattle.std.proofs.Common.{append_assoc, ◌⊎◌, inl, inr, lit<}
use Rattle.std.specs.List.{Contains}
use Rattle.std.proofs.lemmas.List.{map-append}
use Rattle.std.proofs.lemmas.List.Elements.{Contains-append_left, Contains-append_right}
use Rattle.mako_shape.specs.Places.{index, top, entry}
use Rattle.mako_step.specs.Trails.{Observation}
use Rattle.mako_step.specs.declared.act.Act.{Act}
use Rattle.mako_step.specs.declared.act.Op.TheVariants.{Load}
use Rattle.mako_words.specs.declared.name.Name.{Name}
use Rattle.mako_model.specs.declared.attempt.Pause.{Pause as Reason}
use Rattle.mako_alloc.specs.declared.found.Found.{Found}
use Rattle.mako_alloc.specs.declared.found.Found.TheVariants.{Made, Full, Pause}
use Rattle.mako_alloc.specs.declared.job.Job.{Job}
use Rattle.mako_alloc.specs.declared.progress.NewRecord.{NewRecord}
use Rattle.mako_alloc.specs.declared.progress.NewStage.{NewStage}
use Rattle.mako_alloc.specs.declared.progress.NewStage.TheVariants.{Arriving, TurnedAway, TakingTurn, LoadingLeaving}
use Rattle.mako_alloc.specs.declared.progress.NewStage.TheVariants.{LoadingTop, LoadingEntry, LoadingHome, Making}
use Rattle.mako_alloc.specs.declared.progress.NewStage.TheVariants.{GivingTurn, Leaving, Ended}
use Rattle.mako_alloc.specs.declared.progress.Part.{Part}
use Rattle.mako_alloc.specs.declared.progress.Part.TheVariants.{Header, Field, Top, Entry}
use Rattle.mako_alloc.specs.declared.progress.Progress.{Progress}
use Rattle.mako_alloc.specs.Allocating.{HasRoom, all_tablets, tablet_at, record_word}
use Rattle.mako_alloc.specs.Causes.{IsMaking, IsMade, null_stores, record_stores, stores}
use Rattle.mako_alloc.specs.Seen.{IsAdmitted, IsTurnTaken, IsEntered, IsFree, IsFullTablet, IsSeenUsed, HasNoRoom}
use Rattle.mako_alloc.specs.Seen.{HasNoEntry, sees}
use Rattle.mako_alloc.proofs.NoteLaws.{NoteStands}

-- the tablet could be tried, and had room over this top
pub record IsSearched (job : Job) (trail : List Observation) (t kept place : ℕ) : Type 0 where
  pub entered : IsEntered job trail t
  pub room : HasRoom job kept
  pub top_seen : Contains trail (sees job.shape (top t) Load kept)
  pub used : (i : ℕ) → i < place → IsSeenUsed job trail t i

-- the entry of this name was found free, by the last act
pub record IsFoundFree (job : Job) (trail : List Observation) (t kept : ℕ) (name : Name) : Type 0 where
  pub earlier : List Observation
  pub word : ℕ
  pub place : ℕ
  pub place_below : place < job.shape.entries
  pub entry_is : name.entry ≡ t * job.shape.entries + place
  pub free : IsFree job.shape word name.generation
  pub room : HasRoom job kept
  pub entered : IsEntered job earlier t
  pub top_seen : Contains earlier (sees job.shape (top t) Load kept)
  pub splits : trail ≡ earlier ++ sees job.shape (entry name.entry) Load word ∷ []

-- the stores before that of this part
abbrev pub stores_before : Job → ℕ → NewRecord → Part → List Act
stores_before job t made Header = []
stores_before job t made (Field i) = stores (record_word job.shape made 0) job.fields ∷ null_stores job.shape made i
stores_before job t made Top = record_stores job made
stores_before job t made Entry =
    record_stores job made ++ stores (index job.shape (top t)) (made.top + job.fields + 1) ∷ []

-- each tablet was full
abbrev pub AllFull : Job → List Observation → ℕ → Type 0
AllFull job trail tablets = (j : ℕ) → j < tablets → IsFullTablet job trail (tablet_at job j)

abbrev pub EndShows : Job → Option Reason → Found → List Observation → Type 0
EndShows job noted (Made name t) trail = IsMade job trail name t
EndShows job noted Full trail = (noted ≡ None) × AllFull job trail (all_tablets job.shape)
EndShows job noted (Pause reason) trail = noted ≡ Some reason

abbrev pub StageShows : Job → ℕ → Option Reason → NewStage → List Observation → Type 0
StageShows job t noted Arriving trail = Unit {0}
StageShows job t noted TakingTurn trail = IsAdmitted job trail t
StageShows job t noted LoadingLeaving trail = IsAdmitted job trail t × IsTurnTaken job trail t
StageShows job t noted LoadingTop trail = IsEntered job trail t
StageShows job t noted (LoadingEntry kept place) trail = IsSearched job trail t kept place
StageShows job t noted (LoadingHome kept name) trail = IsFoundFree job trail t kept name
StageShows job t noted (Making made part) trail = IsMaking job trail t made (stores_before job t made part)
StageShows job t noted TurnedAway trail = noted ≡ None → IsFullTablet job trail t
StageShows job t noted GivingTurn trail = noted ≡ None → IsFullTablet job trail t
StageShows job t noted Leaving trail = noted ≡ None → IsFullTablet job trail t
StageShows job t noted (Ended found) trail = EndShows job noted found trail

-- what the trail shows
pub record Evidence (job : Job) (progress : Progress) (trail : List Observation) : Type 0 where
  pub notes : NoteStands job progress.note trail
  pub gone : progress.note ≡ None → AllFull job trail progress.passed
  pub stage : StageShows job (tablet_at job progress.passed) progress.note progress.stage trail

-- what a trail has, a longer one has
pub still : (trail : List Observation) (o x : Observation) → Contains trail x → Contains (trail ++ o ∷ []) x
still trail o x h = Contains-append_left trail (o ∷ []) x h

-- the last observation is in the trail
pub last : (trail : List Observation) (o : Observation) → Contains (trail ++ o ∷ []) o
last trail o = Contains-append_right trail (o ∷ []) o (0, lit< tt, refl)

pub still_admitted : (job : Job) (trail : List Observation) (o : Observation) (t : ℕ) →
    IsAdmitted job trail t → IsAdmitted job (trail ++ o ∷ []) t
still_admitted job trail o t h = (h.0, h.1, still trail o _ h.2)

pub still_entered : (job : Job) (trail : List Observation) (o : Observation) (t : ℕ) → IsEntered job trail t →
    IsEntered job (trail ++ o ∷ []) t
still_entered job trail o t h = record {
  admitted = still_admitted job trail o t h.admitted;
  turn_taken = still trail o _ h.turn_taken;
  stays = still trail o _ h.stays;
}

pub still_used : (job : Job) (trail : List Observation) (o : Observation) (t place : ℕ) →
    IsSeenUsed job trail t place → IsSeenUsed job (trail ++ o ∷ []) t place
still_used job trail o t place h = (h.0, h.1, still trail o _ h.2)

still_short : (job : Job) (trail : List Observation) (o : Observation) (t : ℕ) →
    HasNoRoom job trail t ⊎ HasNoEntry job trail t →
    HasNoRoom job (trail ++ o ∷ []) t ⊎ HasNoEntry job (trail ++ o ∷ []) t
still_short job trail o t (inl h) = inl (h.0, h.1, still trail o _ h.2)
still_short job trail o t (inr h) = inr (λ place below. still_used job trail o t place (h place below))

pub still_full : (job : Job) (trail : List Observation) (o : Observation) (t : ℕ) → IsFullTablet job trail t →
    IsFullTablet job (trail ++ o ∷ []) t
still_full job trail o t h =
    record { entered = still_entered job trail o t h.entered; full = still_short job trail o t h.full }

-- one more store
pub stored : (job : Job) (trail : List Observation) (t : ℕ) (made : NewRecord) (acts : List Act) (o : Observation) →
    IsMaking job trail t made acts →
    IsMaking job (trail ++ o ∷ []) t made (acts ++ o.act ∷ [])
stored job trail t made acts o h = record {
  earlier = h.earlier;
  word = h.word;
  place = h.place;
  later = h.later ++ o ∷ [];
  tablet = h.tablet;
  place_below = h.place_below;
  entry_is = h.entry_is;
  free = h.free;
  room = h.room;
  entered = h.entered;
  top_seen = h.top_seen;
  splits = ap (λ (xs : List Observation). xs ++ o ∷ []) h.splits ∙ append_assoc h.earlier _ (o ∷ []);
  acts_are = map-append (λ (x : Observation). x.act) h.later (o ∷ [])
      ∙ ap (λ (xs : List Act). xs ++ o.act ∷ []) h.acts_are;
}

-- the same stores, said otherwise
pub are_stores : (job : Job) (trail : List Observation) (t : ℕ) (made : NewRecord) (acts more : List Act) →
    acts ≡ more → IsMaking job trail t made acts →
    IsMaking job trail t made more
are_stores job trail t made acts more e h = subst (λ (xs : List Act). IsMaking job trail t made xs) e h
