-- Each step of a `new` keeps what its trail shows.
use Rattle.std.proofs.Common.{◌≡◌, ℕ, ◌+◌, ◌*◌, ◌<◌, ◌≤◌, List, [], ◌∷◌, ◌++◌, Option, Some, None, ap, sym, subst, refl}
use Rattle.std.proofs.Common.{◌∙◌, append_assoc, add-one, inl, inr, arith}
use Rattle.std.specs.List.{Contains}
use Rattle.std.proofs.lemmas.Bool.{cases_lt}
use Rattle.mako_words.specs.Gates.{is_shut}
use Rattle.mako_shape.specs.declared.numbers.Numbers.{Numbers}
use Rattle.mako_shape.specs.Places.{tablet_gate, turn, leaving, top, home, entry}
use Rattle.mako_step.specs.Machines.{IsAct}
use Rattle.mako_step.specs.Trails.{Observation}
use Rattle.mako_step.specs.declared.act.Act.{Act}
use Rattle.mako_step.specs.declared.act.Op.TheVariants.{Load, Store, Add, Exchange}
use Rattle.mako_words.specs.declared.name.Name.{Name}
use Rattle.mako_model.specs.declared.attempt.Pause.{Pause as Reason}
use Rattle.mako_model.specs.declared.attempt.Pause.TheVariants.{Shut, Busy, Moving}
use Rattle.mako_alloc.specs.declared.job.Job.{Job}
use Rattle.mako_alloc.specs.declared.progress.NewRecord.{NewRecord}
use Rattle.mako_alloc.specs.declared.progress.NewStage.{NewStage}
use Rattle.mako_alloc.specs.declared.progress.NewStage.TheVariants.{Arriving, TurnedAway, TakingTurn, LoadingLeaving}
use Rattle.mako_alloc.specs.declared.progress.NewStage.TheVariants.{LoadingTop, LoadingEntry, LoadingHome, Making}
use Rattle.mako_alloc.specs.declared.progress.NewStage.TheVariants.{GivingTurn, Leaving, Ended}
use Rattle.mako_alloc.specs.declared.progress.Part.{Part}
use Rattle.mako_alloc.specs.declared.progress.Part.TheVariants.{Header, Field, Top, Entry}
use Rattle.mako_alloc.specs.declared.progress.Progress.{Progress}
use Rattle.mako_alloc.specs.Allocating.{IsKnown, FitsBy, all_tablets, at, noted, first, outcome, passed_on, seeking}
use Rattle.mako_alloc.specs.Allocating.{entry_fed, field_or_top, part_next, part_fed, IsPartKnown, free_generation}
use Rattle.mako_alloc.specs.Allocating.{stage_next, stage_fed, tablet_at, record_word}
use Rattle.mako_alloc.specs.Causes.{IsMaking, null_stores, record_stores, stores}
use Rattle.mako_alloc.specs.Notes.{IsNote, IsNoNote}
use Rattle.mako_alloc.specs.Seen.{IsUsed, IsFullTablet, IsSeenUsed, sees}
use Rattle.mako_step.proofs.Cases.{when_le, when_lt, when_eq, when_test}
use Rattle.mako_alloc.proofs.Bounds.{entry_below, tablet_below}
use Rattle.mako_alloc.proofs.Frees.{by_entry}
use Rattle.mako_step.proofs.Along.{did}
use Rattle.mako_alloc.proofs.Trails.{Keeps}
use Rattle.mako_alloc.proofs.NoteLaws.{NoteStands, kept, taken_up, sub_is_none, store_is_none, admitted_is_none}
use Rattle.mako_alloc.proofs.NoteLaws.{turn_is_none, load_is_none}
use Rattle.mako_alloc.proofs.Evidence.{Evidence, StageShows, EndShows, AllFull, IsSearched, IsFoundFree, stores_before}
use Rattle.mako_alloc.proofs.Evidence.{still, last, still_admitted, still_entered, still_used, still_full, stored}
use Rattle.mako_alloc.proofs.Evidence.{are_stores}

-- at the same tablet, with a note that is none only where there was none
goes_on : (job : Job) (before : Progress) (after : Option Reason) (stage : NewStage) (trail : List Observation)
    (o : Observation) →
    NoteStands job after (trail ++ o ∷ []) → (after ≡ None → before.note ≡ None) →
    StageShows job (tablet_at job before.passed) after stage (trail ++ o ∷ []) →
    Evidence job before trail
    → Evidence job (record { passed = before.passed; note = after; stage = stage }) (trail ++ o ∷ [])
goes_on job before after stage trail o notes none shows h = record {
  notes = notes;
  gone = λ e j below. still_full job trail o (tablet_at job j) (h.gone (none e) j below);
  stage = shows;
}

-- with what is no note
unnoted : (job : Job) (before : Progress) (stage : NewStage) (trail : List Observation) (o : Observation) →
    IsNoNote job o →
    StageShows job (tablet_at job before.passed) before.note stage (trail ++ o ∷ []) →
    Evidence job before trail → Evidence job (at before stage) (trail ++ o ∷ [])
unnoted job before stage trail o no_note shows h =
    goes_on job before before.note stage trail o (kept job before.note trail o no_note h.notes) (λ e. e) shows h

first_is_some : (before : Option Reason) (reason : Reason) → first before reason ≡ None → ⊥
first_is_some None reason e = cc
first_is_some (Some earlier) reason e = cc

-- with a note
with_note : (job : Job) (before : Progress) (reason : Reason) (stage : NewStage) (trail : List Observation)
    (o : Observation) →
    IsNote job o reason →
    ((first before.note reason ≡ None → ⊥)
    → StageShows job (tablet_at job before.passed) (first before.note reason) stage (trail ++ o ∷ [])) →
    Evidence job before trail → Evidence job (noted before reason stage) (trail ++ o ∷ [])
with_note job before reason stage trail o is_note shows h =
    goes_on job before (first before.note reason) stage trail o
    (taken_up job before.note trail o reason is_note h.notes)
    (λ e. absurd (first_is_some before.note reason e)) (shows (first_is_some before.note reason)) h

-- one more full tablet
one_more : (job : Job) (trail : List Observation) (passed : ℕ) → AllFull job trail passed →
    IsFullTablet job trail (tablet_at job passed) →
    (j : ℕ) → j < passed + 1 → IsFullTablet job trail (tablet_at job j)
one_more job trail passed all here j below = elim (cases_lt j passed) [
  | inl earlier ↦ all j earlier
  | inr past ↦ let same : j ≡ passed = omega arith in
      subst (λ (k : ℕ). IsFullTablet job trail (tablet_at job k)) (sym same) here
]

-- past the last tablet
end_shows : (job : Job) (before : Option Reason) (trail : List Observation) → (before ≡ None →
    AllFull job trail (all_tablets job.shape)) →
    EndShows job before (outcome before) trail
end_shows job None trail all = (refl, all refl)
end_shows job (Some reason) trail all = refl

-- on to the next tablet, or to the end
passes : (job : Job) (before : Progress) (trail : List Observation) (o : Observation) → IsNoNote job o →
    (before.note ≡ None → IsFullTablet job trail (tablet_at job before.passed)) →
    Evidence job before trail → Evidence job (passed_on job before) (trail ++ o ∷ [])
passes job before trail o no_note full h =
    let notes : NoteStands job before.note (trail ++ o ∷ []) = kept job before.note trail o no_note h.notes in
    let gone : before.note ≡ None → AllFull job (trail ++ o ∷ []) (before.passed + 1) =
    λ e j below. still_full job trail o (tablet_at job j)
    (one_more job trail before.passed (h.gone e) (full e) j below) in
    when_lt
    (λ p. Evidence job p (trail ++ o ∷ []))
    (record { passed = before.passed + 1; note = before.note; stage = Arriving })
    (at before (Ended (outcome before.note)))
    (before.passed + 1)
    (all_tablets job.shape)
    (λ below. record { notes = notes; gone = gone; stage = tt })
    (λ past. record {
      notes = notes;
      gone = λ e j below. gone e j (omega (arith, below));
      stage = end_shows job before.note (trail ++ o ∷ []) (λ e j below. gone e j (omega (arith, below, past)));
    })

-- the entry at this place, or past the last one the way out
seeks : (job : Job) (t : ℕ) (before : Option Reason) (trail : List Observation) (kept_top place : ℕ) →
    IsSearched job trail t kept_top place →
    StageShows job t before (seeking job kept_top place) trail
seeks job t before trail kept_top place h = when_lt
    (λ s. StageShows job t before s trail)
    (LoadingEntry kept_top place)
    GivingTurn
    place
    job.shape.entries
    (λ below. h)
    (λ past e. record { entered = h.entered; full = inr (λ i below. h.used i (omega (arith, below, past))) })

-- one more used entry
one_more_used : (job : Job) (trail : List Observation) (t place w : ℕ) →
    let o : Observation = sees job.shape (entry (t * job.shape.entries + place)) Load w in
    IsUsed job.shape w → ((i : ℕ) → i < place → IsSeenUsed job trail t i) → (i : ℕ) → i < place + 1
    → IsSeenUsed job (trail ++ o ∷ []) t i
one_more_used job trail t place w used before i below = elim (cases_lt i place) [
  | inl earlier ↦ still_used job trail _ t i (before i earlier)
  | inr past ↦
      let same : place ≡ i = omega arith in
      let o : Observation = sees job.shape (entry (t * job.shape.entries + place)) Load w in
      subst (λ (k : ℕ). IsSeenUsed job (trail ++ o ∷ []) t k) same (w, used, last trail o)
]

-- an entry is found
entry_shows : (job : Job) (t : ℕ) (before : Option Reason) (trail : List Observation) (kept_top place w : ℕ) →
    place < job.shape.entries →
    let o : Observation = sees job.shape (entry (t * job.shape.entries + place)) Load w in
    IsSearched job trail t kept_top place →
    StageShows job t before (entry_fed job t kept_top place (free_generation job.shape.generations w)) (trail ++ o ∷ [])
entry_shows job t before trail kept_top place w below h =
    let o : Observation = sees job.shape (entry (t * job.shape.entries + place)) Load w in
    by_entry
    (λ v. StageShows job t before (entry_fed job t kept_top place v) (trail ++ o ∷ []))
    job.shape
    w
    (λ used. seeks job t before (trail ++ o ∷ []) kept_top (place + 1) (record {
      entered = still_entered job trail o t h.entered;
      room = h.room;
      top_seen = still trail o _ h.top_seen;
      used = one_more_used job trail t place w used h.used;
    }))
    (λ g free. record {
      earlier = trail;
      word = w;
      place = place;
      place_below = below;
      entry_is = refl;
      free = free;
      room = h.room;
      entered = h.entered;
      top_seen = h.top_seen;
      splits = refl;
    })

-- the home is found
home_shows : (job : Job) (t : ℕ) (trail : List Observation) (kept_top : ℕ) (name : Name) (w : ℕ) →
    t < all_tablets job.shape →
    IsFoundFree job trail t kept_top name →
    IsMaking job (trail ++ sees job.shape (home t) Load w ∷ []) t (record { name = name; home = w; top = kept_top }) []
home_shows job t trail kept_top name w below h = record {
  earlier = h.earlier;
  word = h.word;
  place = h.place;
  later = [];
  tablet = below;
  place_below = h.place_below;
  entry_is = h.entry_is;
  free = h.free;
  room = h.room;
  entered = h.entered;
  top_seen = h.top_seen;
  splits = ap (λ (xs : List Observation). xs ++ sees job.shape (home t) Load w ∷ []) h.splits
      ∙ append_assoc h.earlier _ (sees job.shape (home t) Load w ∷ []);
  acts_are = refl;
}

-- the next field, or the top
field_shows : (job : Job) (t : ℕ) (before : Option Reason) (trail : List Observation) (made : NewRecord) (i : ℕ) →
    i ≤ job.fields →
    IsMaking job trail t made (stores_before job t made (Field i))
    → StageShows job t before (Making made (field_or_top job i)) trail
field_shows job t before trail made i below h = when_lt
    (λ part. StageShows job t before (Making made part) trail)
    (Field i)
    Top
    i
    job.fields
    (λ more. h)
    (λ past. let same : i ≡ job.fields = omega arith in
    subst (λ (k : ℕ). IsMaking job trail t made (stores_before job t made (Field k))) same h)

-- one more null field
null_next : (n : Numbers) (made : NewRecord) (i : ℕ) →
    null_stores n made i ++ stores (record_word n made (i + 1)) 0 ∷ [] ≡ null_stores n made (i + 1)
unfolding null_stores
null_next n made i = subst
    (λ (k : ℕ). null_stores n made i ++ stores (record_word n made (i + 1)) 0 ∷ [] ≡ null_stores n made k)
    (sym (add-one i))
    refl

-- a part of the object is stored
part_shows : (job : Job) (t : ℕ) (before : Option Reason) (trail : List Observation) (made : NewRecord) (part : Part)
    (w : ℕ) →
    IsPartKnown job part →
    let o : Observation = record { act = did (part_next job t made part); found = w } in
    IsMaking job trail t made (stores_before job t made part)
    → StageShows job t before (part_fed job t made part) (trail ++ o ∷ [])
unfolding null_stores
part_shows job t before trail made Header w known h =
    field_shows job t before _ made 0 (omega arith) (stored job trail t made _ _ h)
part_shows job t before trail made (Field i) w known h =
    field_shows job t before _ made (i + 1) (omega (arith, known))
    (are_stores job _ t made _ _
    (ap (λ (xs : List Act). stores (record_word job.shape made 0) job.fields ∷ xs) (null_next job.shape made i))
    (stored job trail t made _ _ h))
part_shows job t before trail made Top w known h = stored job trail t made _ _ h
part_shows job t before trail made Entry w known h = record {
  made = made;
  name_is = refl;
  stored = are_stores job _ t made _ _ (append_assoc (record_stores job made) _ _) (stored job trail t made _ _ h);
}

-- a store of a part is no note
part_is_none : (job : Job) (t : ℕ) (made : NewRecord) (part : Part) (w : ℕ) →
    IsNoNote job (record { act = did (part_next job t made part); found = w })
part_is_none job t made Header w = store_is_none job _ _ w
part_is_none job t made (Field i) w = store_is_none job _ _ w
part_is_none job t made Top w = store_is_none job _ _ w
part_is_none job t made Entry w = store_is_none job _ _ w

-- the observation of a stage
abbrev pub observed : Job → ℕ → NewStage → ℕ → Observation
observed job t stage w = record { act = did (stage_next job t stage); found = w }

-- each stage
stage_shows : (job : Job) (passed : ℕ) (before : Option Reason) (stage : NewStage) (w : ℕ) (trail : List Observation) →
    let t : ℕ = tablet_at job passed in
    let progress : Progress = record { passed = passed; note = before; stage = stage } in
    let more : List Observation = trail ++ observed job t stage w ∷ [] in
    IsKnown job progress → IsAct (stage_next job t stage) → FitsBy job.shape stage w → Evidence job progress trail →
    Evidence job (stage_fed job t progress stage w) more
stage_shows job passed before Arriving w trail known act fits h =
    let t : ℕ = tablet_at job passed in
    let p : Progress = record { passed = passed; note = before; stage = Arriving } in
    let o : Observation = sees job.shape (tablet_gate t) (Add 1) w in
    when_test (λ q. Evidence job q (trail ++ o ∷ [])) (noted p (Shut t w) TurnedAway) (at p TakingTurn) (is_shut w)
    (λ shut. with_note job p (Shut t w) TurnedAway trail o (tablet_below job passed known.numbers, refl, shut)
    (λ some e. absurd (some e)) h)
    (λ admits. unnoted job p TakingTurn trail o (admitted_is_none job (tablet_gate t) w admits)
    (w, admits, last trail o) h)
stage_shows job passed before TurnedAway w trail known act fits h =
    passes job _ trail _ (sub_is_none job (tablet_gate (tablet_at job passed)) 1 w) h.stage h
stage_shows job passed before TakingTurn w trail known act fits h =
    let t : ℕ = tablet_at job passed in
    let p : Progress = record { passed = passed; note = before; stage = TakingTurn } in
    let o : Observation = sees job.shape (turn t) (Exchange 0 (job.mutator + 1)) w in
    when_eq (λ q. Evidence job q (trail ++ o ∷ [])) (at p LoadingLeaving) (noted p (Busy t w) Leaving) w 0
    (λ free. unnoted job p LoadingLeaving trail o (turn_is_none job (turn t) w free) (
      still_admitted job trail o t h.stage,
      subst (λ (v : ℕ). Contains (trail ++ o ∷ []) (sees job.shape (turn t) (Exchange 0 (job.mutator + 1)) v)) free
          (last trail o),
    ) h)
    (λ held. with_note job p (Busy t w) Leaving trail o (tablet_below job passed known.numbers, refl, held)
    (λ some e. absurd (some e)) h)
stage_shows job passed before LoadingLeaving w trail known act fits h =
    let t : ℕ = tablet_at job passed in
    let p : Progress = record { passed = passed; note = before; stage = LoadingLeaving } in
    let o : Observation = sees job.shape (leaving t) Load w in
    when_eq (λ q. Evidence job q (trail ++ o ∷ [])) (at p LoadingTop) (noted p (Moving t w) GivingTurn) w 0
    (λ none. unnoted job p LoadingTop trail o
    (load_is_none job (leaving t) w (tablet_below job passed known.numbers) (λ u e. none))
    (record {
      admitted = still_admitted job trail o t h.stage.0;
      turn_taken = still trail o _ h.stage.1;
      stays = subst (λ (v : ℕ). Contains (trail ++ o ∷ []) (sees job.shape (leaving t) Load v)) none (last trail o);
    }) h)
    (λ some_region. with_note job p (Moving t w) GivingTurn trail o
    (tablet_below job passed known.numbers, refl, some_region) (λ some e. absurd (some e)) h)
stage_shows job passed before LoadingTop w trail known act fits h =
    let t : ℕ = tablet_at job passed in
    let p : Progress = record { passed = passed; note = before; stage = LoadingTop } in
    let o : Observation = sees job.shape (top t) Load w in
    unnoted job p _ trail o (load_is_none job (top t) w (tablet_below job passed known.numbers) (λ u e. cc))
    (when_le (λ s. StageShows job t before s (trail ++ o ∷ [])) (seeking job w 0) GivingTurn
    (w + job.fields + 1) job.shape.words
    (λ room. seeks job t before (trail ++ o ∷ []) w 0 (record {
      entered = still_entered job trail o t h.stage;
      room = room;
      top_seen = last trail o;
      used = λ i below. absurd (omega (arith, below));
    }))
    (λ short e. record { entered = still_entered job trail o t h.stage; full = inl (w, short, last trail o) })) h
stage_shows job passed before (LoadingEntry kept_top place) w trail known act fits h =
    let t : ℕ = tablet_at job passed in
    let p : Progress = record { passed = passed; note = before; stage = LoadingEntry kept_top place } in
    let x : ℕ = t * job.shape.entries + place in
    unnoted job p _ trail (sees job.shape (entry x) Load w)
    (load_is_none job (entry x) w (entry_below job.shape t place (tablet_below job passed known.numbers) known.stage.1)
    (λ u e. cc))
    (entry_shows job t before trail kept_top place w known.stage.1 h.stage) h
stage_shows job passed before (LoadingHome kept_top name) w trail known act fits h =
    let t : ℕ = tablet_at job passed in
    let p : Progress = record { passed = passed; note = before; stage = LoadingHome kept_top name } in
    unnoted job p _ trail (sees job.shape (home t) Load w)
    (load_is_none job (home t) w (tablet_below job passed known.numbers) (λ u e. cc))
    (home_shows job t trail kept_top name w (tablet_below job passed known.numbers) h.stage) h
stage_shows job passed before (Making made part) w trail known act fits h =
    let t : ℕ = tablet_at job passed in
    let p : Progress = record { passed = passed; note = before; stage = Making made part } in
    unnoted job p _ trail (observed job t (Making made part) w) (part_is_none job t made part w)
    (part_shows job t before trail made part w known.stage.1 h.stage) h
stage_shows job passed before GivingTurn w trail known act fits h =
    let t : ℕ = tablet_at job passed in
    let p : Progress = record { passed = passed; note = before; stage = GivingTurn } in
    let o : Observation = sees job.shape (turn t) (Store 0) w in
    unnoted job p Leaving trail o (store_is_none job _ _ w) (λ e. still_full job trail o t (h.stage e)) h
stage_shows job passed before Leaving w trail known act fits h =
    passes job _ trail _ (sub_is_none job (tablet_gate (tablet_at job passed)) 1 w) h.stage h
stage_shows job passed before (Ended found) w trail known act fits h = absurd act

-- the evidence grows with the trail
pub shows : Keeps (λ l trail. Evidence l.job l.progress trail)
shows l trail w known act fits h =
    stage_shows l.job l.progress.passed l.progress.note l.progress.stage w trail known act fits h
