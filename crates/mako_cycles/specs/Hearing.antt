-- What the collector's trail shows of the servers' notices.
use Rattle.std.specs.Prelude.{◌≡◌, ◌≢◌, ℕ, ◌<◌, List, [], ◌∷◌, ◌++◌, length, slice_index_or}
use Rattle.std.specs.List.{All, AllPairs, flat_map}
use Rattle.mako_words.specs.Notices.{notice_at}
use Rattle.mako_words.specs.declared.name.Name.{Name}
use Rattle.mako_words.specs.declared.notice_word.NoticeWord.TheVariants.{Freed, Done}
use Rattle.mako_shape.specs.declared.numbers.Numbers.{Numbers}
use Rattle.mako_shape.specs.Belongings.{server_of_entry}
use Rattle.mako_shape.specs.Limits.{IsShape}
use Rattle.mako_shape.specs.Places.{index, notice}
use Rattle.mako_step.specs.declared.act.Op.{Op}
use Rattle.mako_step.specs.declared.act.Op.TheVariants.{Load, Store}
use Rattle.mako_step.specs.Trails.{Observation}

-- an act on a slot of a server's notice ring, with the word that it found
abbrev pub at_notice : Numbers → ℕ → ℕ → Op → ℕ → Observation
at_notice n s slot op w = record { act = record { word = index n (notice s slot); op = op }; found = w }

-- the trail with a look at a slot, and with the store of 0 behind it
abbrev pub looked : Numbers → ℕ → ℕ → List Observation → ℕ → List Observation
looked n s slot trail w = trail ++ at_notice n s slot Load w ∷ []

abbrev pub took : Numbers → ℕ → ℕ → List Observation → ℕ → ℕ → List Observation
took n s slot trail w before = looked n s slot trail w ++ at_notice n s slot (Store 0) before ∷ []

-- the trail took the notices of the first servers, each up to Done, with these names for each, and these of the next
pub data Hears (n : Numbers) : List (List Name) → List Name → List Observation → Type 0 where
  begins : Hears n [] [] []
  waits : (lists : List (List Name)) (names : List Name) (trail : List Observation) (slot w : ℕ) →
      Hears n lists names trail → w ≡ 0 → Hears n lists names (looked n (length lists) slot trail w)
  frees : (lists : List (List Name)) (names : List Name) (trail : List Observation) (slot w before : ℕ) (x : Name) →
      Hears n lists names trail → w ≢ 0 → notice_at w ≡ Freed x →
      Hears n lists (names ++ x ∷ []) (took n (length lists) slot trail w before)
  ends : (lists : List (List Name)) (names : List Name) (trail : List Observation) (slot w before : ℕ) →
      Hears n lists names trail → w ≢ 0 → notice_at w ≡ Done →
      Hears n (lists ++ names ∷ []) [] (took n (length lists) slot trail w before)

-- the names of all servers one after another
abbrev pub joined : List (List Name) → List Name
joined lists = flat_map (λ names. names) lists

-- the names are of entries of this server, and rise
pub record RiseAt (n : Numbers) (server : ℕ) (names : List Name) : Type 0 where
  pub own : All (λ x. server_of_entry n x.entry ≡ server) names
  pub rising : AllPairs (λ a b. a.entry < b.entry) names

-- where each server's names are of its own entries and rise, all names rise, so that none is there twice
abbrev pub ListsRise : Type 0
ListsRise = (n : Numbers) (lists : List (List Name)) → IsShape n →
    ((server : ℕ) → server < length lists → RiseAt n server (slice_index_or lists server [])) →
    AllPairs (λ a b. a.entry < b.entry) (joined lists)
