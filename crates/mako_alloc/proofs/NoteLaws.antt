-- The note that a `new` keeps is the first of its trail.
use Rattle.std.proofs.Common.{◌≡◌, ℕ, ◌+◌, true, false, List, [], ◌∷◌, ◌++◌, Option, Some, None, ap, sym, refl, ◌∙◌}
use Rattle.std.proofs.Common.{append_assoc}
use Rattle.std.specs.List.{All}
use Rattle.std.proofs.lemmas.List.Elements.{All-push}
use Rattle.mako_words.specs.Gates.{is_shut}
use Rattle.mako_shape.specs.Places.{Place, Within, leaving}
use Rattle.mako_shape.proofs.PlaceLaws.{one_place}
use Rattle.mako_step.specs.Trails.{Observation}
use Rattle.mako_step.specs.declared.act.Op.TheVariants.{Load, Store, Add, Sub, Exchange}
use Rattle.mako_model.specs.declared.attempt.Pause.{Pause as Reason}
use Rattle.mako_model.specs.declared.attempt.Pause.TheVariants.{Stopped, Shut, Busy, Moving, Barrier, Cycle}
use Rattle.mako_alloc.specs.declared.job.Job.{Job}
use Rattle.mako_alloc.specs.Allocating.{first}
use Rattle.mako_alloc.specs.Notes.{IsNote, IsNoNote, IsFirstNote}
use Rattle.mako_alloc.specs.Seen.{sees}

-- the note is the first of the trail, and where there is none the trail has none
abbrev pub NoteStands : Job → Option Reason → List Observation → Type 0
NoteStands job None trail = All (IsNoNote job) trail
NoteStands job (Some reason) trail = IsFirstNote job trail reason

-- a first note stays the first
stays_first : (job : Job) (trail : List Observation) (reason : Reason) (o : Observation) →
    IsFirstNote job trail reason →
    IsFirstNote job (trail ++ o ∷ []) reason
stays_first job trail reason o h = record {
  earlier = h.earlier;
  observation = h.observation;
  later = h.later ++ o ∷ [];
  splits = ap (λ (xs : List Observation). xs ++ o ∷ []) h.splits
      ∙ append_assoc h.earlier (h.observation ∷ h.later) (o ∷ []);
  tells = h.tells;
  first = h.first;
}

-- an observation that is no note changes nothing
pub kept : (job : Job) (note : Option Reason) (trail : List Observation) (o : Observation) → IsNoNote job o →
    NoteStands job note trail →
    NoteStands job note (trail ++ o ∷ [])
kept job None trail o no_note h = All-push (IsNoNote job) trail o h no_note
kept job (Some reason) trail o no_note h = stays_first job trail reason o h

-- an observation that is a note is kept if it is the first
pub taken_up : (job : Job) (note : Option Reason) (trail : List Observation) (o : Observation) (reason : Reason) →
    IsNote job o reason →
    NoteStands job note trail → NoteStands job (first note reason) (trail ++ o ∷ [])
taken_up job None trail o reason is_note h =
    record { earlier = trail; observation = o; later = []; splits = refl; tells = is_note; first = h }
taken_up job (Some earlier) trail o reason is_note h = stays_first job trail earlier o h

-- a subtraction is no note
pub sub_is_none : (job : Job) (p : Place) (x w : ℕ) → IsNoNote job (sees job.shape p (Sub x) w)
sub_is_none job p x w (Shut t v) h = let e : Sub x ≡ Add 1 = ap (λ (o : Observation). o.act.op) h.1 in cc
sub_is_none job p x w (Busy t v) h =
    let e : Sub x ≡ Exchange 0 (job.mutator + 1) = ap (λ (o : Observation). o.act.op) h.1 in cc
sub_is_none job p x w (Moving t v) h = let e : Sub x ≡ Load = ap (λ (o : Observation). o.act.op) h.1 in cc
sub_is_none job p x w (Stopped v) h = h
sub_is_none job p x w (Barrier s v) h = h
sub_is_none job p x w (Cycle k v) h = h

-- a store is no note
pub store_is_none : (job : Job) (word x w : ℕ) →
    IsNoNote job (record { act = record { word = word; op = Store x }; found = w })
store_is_none job word x w (Shut t v) h = let e : Store x ≡ Add 1 = ap (λ (o : Observation). o.act.op) h.1 in cc
store_is_none job word x w (Busy t v) h =
    let e : Store x ≡ Exchange 0 (job.mutator + 1) = ap (λ (o : Observation). o.act.op) h.1 in cc
store_is_none job word x w (Moving t v) h = let e : Store x ≡ Load = ap (λ (o : Observation). o.act.op) h.1 in cc
store_is_none job word x w (Stopped v) h = h
store_is_none job word x w (Barrier s v) h = h
store_is_none job word x w (Cycle k v) h = h

-- an admitted arrival is no note
pub admitted_is_none : (job : Job) (p : Place) (w : ℕ) → is_shut w ≡ false →
    IsNoNote job (sees job.shape p (Add 1) w)
admitted_is_none job p w admitted (Shut t v) h =
    let e : w ≡ v = ap (λ (o : Observation). o.found) h.1 in
    let shut : is_shut w ≡ true = ap is_shut e ∙ h.2 in
    let clash : true ≡ false = sym shut ∙ admitted in
    cc
admitted_is_none job p w admitted (Busy t v) h =
    let e : Add 1 ≡ Exchange 0 (job.mutator + 1) = ap (λ (o : Observation). o.act.op) h.1 in cc
admitted_is_none job p w admitted (Moving t v) h =
    let e : Add 1 ≡ Load = ap (λ (o : Observation). o.act.op) h.1 in cc
admitted_is_none job p w admitted (Stopped v) h = h
admitted_is_none job p w admitted (Barrier s v) h = h
admitted_is_none job p w admitted (Cycle k v) h = h

-- a turn that is taken is no note
pub turn_is_none : (job : Job) (p : Place) (w : ℕ) → w ≡ 0 →
    IsNoNote job (sees job.shape p (Exchange 0 (job.mutator + 1)) w)
turn_is_none job p w is_zero (Shut t v) h =
    let e : Exchange 0 (job.mutator + 1) ≡ Add 1 = ap (λ (o : Observation). o.act.op) h.1 in cc
turn_is_none job p w is_zero (Busy t v) h = h.2 (sym (ap (λ (o : Observation). o.found) h.1) ∙ is_zero)
turn_is_none job p w is_zero (Moving t v) h =
    let e : Exchange 0 (job.mutator + 1) ≡ Load = ap (λ (o : Observation). o.act.op) h.1 in cc
turn_is_none job p w is_zero (Stopped v) h = h
turn_is_none job p w is_zero (Barrier s v) h = h
turn_is_none job p w is_zero (Cycle k v) h = h

-- a load is no note where it is of no word that tells of leaving, or found 0
pub load_is_none : (job : Job) (p : Place) (w : ℕ) → Within job.shape p → ((t : ℕ) → p ≡ leaving t → w ≡ 0) →
    IsNoNote job (sees job.shape p Load w)
load_is_none job p w within other (Shut t v) h = let e : Load ≡ Add 1 = ap (λ (o : Observation). o.act.op) h.1 in cc
load_is_none job p w within other (Busy t v) h =
    let e : Load ≡ Exchange 0 (job.mutator + 1) = ap (λ (o : Observation). o.act.op) h.1 in cc
load_is_none job p w within other (Moving t v) h =
    let place : p ≡ leaving t =
    one_place job.shape p (leaving t) within h.0 (ap (λ (o : Observation). o.act.word) h.1) in
    h.2 (sym (ap (λ (o : Observation). o.found) h.1) ∙ other t place)
load_is_none job p w within other (Stopped v) h = h
load_is_none job p w within other (Barrier s v) h = h
load_is_none job p w within other (Cycle k v) h = h
