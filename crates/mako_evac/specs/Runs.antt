-- What an evacuation makes: its acts in order, with the words that they find.
use Rattle.std.specs.Prelude.{◌≡◌, ◌≢◌, ℕ, true, false, ◌+◌, List, [], ◌∷◌, ◌++◌, map}
use Rattle.std.specs.List.{All}
use Rattle.mako_words.specs.Entries.{entry_at}
use Rattle.mako_words.specs.Notices.{notice_word}
use Rattle.mako_words.specs.Words.{all_but}
use Rattle.mako_words.specs.declared.name.Name.{Name}
use Rattle.mako_words.specs.declared.notice_word.NoticeWord.TheVariants.{Freed}
use Rattle.mako_shape.specs.Places.{index, leaving, tablet_gate, home, entry}
use Rattle.mako_step.specs.Trails.{Observation, Goes}
use Rattle.mako_step.specs.declared.act.Op.{Op}
use Rattle.mako_step.specs.declared.act.Op.TheVariants.{Load, Store, And}
use Rattle.mako_step.specs.declared.step.Step.TheVariants.{Ended as NoStep}
use Rattle.mako_gate.specs.Bits.{shut_bit}
use Rattle.mako_gate.specs.Runs.{sees, ShutBy}
use Rattle.mako_record.specs.Copying as copying
use Rattle.mako_record.specs.Copying.{Copying as Copy, opening_copy}
use Rattle.mako_ring.specs.Contents.{after_place}
use Rattle.mako_evac.specs.declared.owner.Owner.{Owner}
use Rattle.mako_evac.specs.Owners.{first_tablet, first_entry, is_left, is_dead}
use Rattle.mako_evac.specs.Freeing.{free_word, name_of}
use Rattle.mako_evac.specs.Evacuating.{slot_at}

-- operations of the owner on the words that tell what a tablet leaves, of its gate, of its home, and of an entry
abbrev pub at_leaving : Owner → ℕ → Op → ℕ → Observation
at_leaving o t op w = sees (index o.shape (leaving t)) op w

abbrev pub at_gate : Owner → ℕ → Op → ℕ → Observation
at_gate o t op w = sees (index o.shape (tablet_gate t)) op w

abbrev pub at_home : Owner → ℕ → Op → ℕ → Observation
at_home o t op w = sees (index o.shape (home t)) op w

abbrev pub at_word : Owner → ℕ → Op → ℕ → Observation
at_word o x op w = sees (index o.shape (entry x)) op w

-- the tablet was found to leave a region
pub record FoundLeaving (o : Owner) (t : ℕ) (trail : List Observation) : Type 0 where
  pub word : ℕ
  pub some : word ≢ 0
  pub made : trail ≡ at_leaving o t Load word ∷ []

-- then its gate was shut, and a look found that it counted nobody
pub record Drained (o : Owner) (t : ℕ) (trail : List Observation) : Type 0 where
  pub before : List Observation
  pub leaves : FoundLeaving o t before
  pub looks : List Observation
  pub shut : ShutBy (index o.shape (tablet_gate t)) looks
  pub made : trail ≡ before ++ looks

-- then the region of its home was loaded
pub record FoundHome (o : Owner) (t region : ℕ) (trail : List Observation) : Type 0 where
  pub before : List Observation
  pub drained : Drained o t before
  pub made : trail ≡ before ++ at_home o t Load region ∷ []

-- then its entries below this one were loaded, one after the other: each record that was left behind was copied from
-- its beginning to its end, and no other
pub data Copied (o : Owner) (t region : ℕ) : ℕ → List Observation → Type 0 where
  none : (trail : List Observation) → FoundHome o t region trail → Copied o t region (first_entry o.shape t) trail
  keeps : (x word : ℕ) (trail : List Observation) → Copied o t region x trail
      → is_left o region (entry_at word) ≡ false →
      Copied o t region (x + 1) (trail ++ at_word o x Load word ∷ [])
  copies : (x word : ℕ) (trail copy : List Observation) (last : Copy) → Copied o t region x trail
      → is_left o region (entry_at word) ≡ true →
      Goes copying.next_of copying.Fits copying.fed (opening_copy o.shape x (entry_at word) region) copy last
      → copying.next_of last ≡ NoStep →
      Copied o t region (x + 1) (trail ++ at_word o x Load word ∷ copy)

-- then it left no region any more
pub record Cleared (o : Owner) (t : ℕ) (trail : List Observation) : Type 0 where
  pub before : List Observation
  pub region : ℕ
  pub copied : Copied o t region (first_entry o.shape (t + 1)) before
  pub word : ℕ
  pub made : trail ≡ before ++ at_leaving o t (Store 0) word ∷ []

-- then its gate was reopened
pub record Evacuated (o : Owner) (t : ℕ) (trail : List Observation) : Type 0 where
  pub before : List Observation
  pub cleared : Cleared o t before
  pub word : ℕ
  pub made : trail ≡ before ++ at_gate o t (And (all_but shut_bit)) word ∷ []

-- the own tablets below this one, one after the other: each left no region, or was evacuated
pub data TabletsPassed (o : Owner) : ℕ → List Observation → Type 0 where
  none : TabletsPassed o (first_tablet o) []
  stays : (t : ℕ) (trail : List Observation) → TabletsPassed o t trail
      → TabletsPassed o (t + 1) (trail ++ at_leaving o t Load 0 ∷ [])
  leaves : (t : ℕ) (trail own : List Observation) → TabletsPassed o t trail → Evacuated o t own
      → TabletsPassed o (t + 1) (trail ++ own)

-- the entry was found with a dead object of this generation, and stored free
pub record Stored (o : Owner) (x generation : ℕ) (trail : List Observation) : Type 0 where
  pub word : ℕ
  pub dead : is_dead o (entry_at word) ≡ true
  pub generation_is : (entry_at word).generation ≡ generation
  pub before : ℕ
  pub made : trail ≡ at_word o x Load word ∷ at_word o x (Store (free_word generation)) before ∷ []

-- of the looks at a slot the last alone found it empty
pub record FoundEmpty (slot : ℕ) (trail : List Observation) : Type 0 where
  pub looks : List ℕ
  pub full : All (λ w. w ≢ 0) looks
  pub made : trail ≡ map (sees slot Load) looks ++ sees slot Load 0 ∷ []

-- then the notice slot was found empty, and the name stored there
pub record Told (o : Owner) (at x generation : ℕ) (trail : List Observation) : Type 0 where
  pub front : List Observation
  pub stored : Stored o x generation front
  pub looks : List Observation
  pub empty : FoundEmpty (slot_at o at) looks
  pub before : ℕ
  pub made : trail ≡ front ++ (looks ++ sees (slot_at o at)
      (Store (notice_word (Freed (name_of x generation)))) before ∷ [])

-- the own entries below this one, one after the other, with the names that were freed and the notice slot that is due:
-- each entry had no dead object, or was freed and its name told
pub data EntriesPassed (o : Owner) (at : ℕ) : ℕ → List Observation → List Name → ℕ → Type 0 where
  none : EntriesPassed o at (first_entry o.shape (first_tablet o)) [] [] at
  keeps : (x word slot : ℕ) (trail : List Observation) (names : List Name) → EntriesPassed o at x trail names slot
      → is_dead o (entry_at word) ≡ false →
      EntriesPassed o at (x + 1) (trail ++ at_word o x Load word ∷ []) names slot
  frees : (x generation slot : ℕ) (trail own : List Observation) (names : List Name)
      → EntriesPassed o at x trail names slot → Told o slot x generation own →
      EntriesPassed o at (x + 1) (trail ++ own) (names ++ name_of x generation ∷ []) (after_place o.shape.ring slot)
