-- The names that an evacuation frees.
use Rattle.std.specs.Prelude.{◌≡◌, ℕ, ◌<◌, List, ◌∷◌, [], ◌++◌}
use Rattle.std.specs.List.{All, AllPairs}
use Rattle.mako_words.specs.Notices.{notice_word}
use Rattle.mako_words.specs.declared.name.Name.{Name}
use Rattle.mako_words.specs.declared.notice_word.NoticeWord.TheVariants.{Done}
use Rattle.mako_step.specs.Trails.{Observation, Goes}
use Rattle.mako_step.specs.declared.act.Op.TheVariants.{Store}
use Rattle.mako_gate.specs.Runs.{sees}
use Rattle.mako_ring.specs.Contents.{after_place}
use Rattle.mako_evac.specs.declared.owner.Owner.{Owner}
use Rattle.mako_evac.specs.declared.stage.EvacStage.TheVariants.{Ended}
use Rattle.mako_evac.specs.Owners.{IsOwner, IsOwnEntry, tablets_end, first_entry}
use Rattle.mako_evac.specs.Evacuating.{Evacuation, opening, next_of, Fits, fed, slot_at}
use Rattle.mako_evac.specs.Runs.{TabletsPassed, FoundEmpty, EntriesPassed}

-- the names are of own entries, and rise, so that each entry is freed once
pub record Rise (o : Owner) (names : List Name) : Type 0 where
  pub own : All (λ a. IsOwnEntry o a.entry) names
  pub rising : AllPairs (λ a b. a.entry < b.entry) names

-- the trail of a whole evacuation: all own tablets, then all own entries, with these names freed in rising order, then
-- looks at the next notice slot until it is empty, and last the store of the end
pub record RunsTo (o : Owner) (at : ℕ) (trail : List Observation) (names : List Name) (slot : ℕ) : Type 0 where
  pub tablets : List Observation
  pub entries : List Observation
  pub looks : List Observation
  pub last : ℕ
  pub before : ℕ
  pub tablets_passed : TabletsPassed o (tablets_end o) tablets
  pub entries_passed : EntriesPassed o at (first_entry o.shape (tablets_end o)) entries names last
  pub empty : FoundEmpty (slot_at o last) looks
  pub made : trail ≡ tablets ++ (entries ++ (looks ++ sees (slot_at o last) (Store (notice_word Done)) before ∷ []))
  pub rise : Rise o names
  pub slot_is : slot ≡ after_place o.shape.ring last

-- an evacuation that has ended made a whole run
abbrev pub EvacuationsEnd : Type 0
EvacuationsEnd = (o : Owner) (at : ℕ) (trail : List Observation) (l : Evacuation) → IsOwner o → at < o.shape.ring →
    Goes next_of Fits fed (opening o at) trail l → l.stage ≡ Ended → (names : List Name) × RunsTo o at trail names l.at
