-- What the phase word and the words of entries stand for: the phase for the snapshots taken and the cycles finished,
-- and each entry for the names that were made of it.
use Rattle.std.specs.Prelude.{ℕ, ◌≡◌, ◌+◌, ◌-◌, ◌*◌, ◌<◌, ◌≤◌, ◌^◌, ◌↔◌, Bool, true, false, List, length, if◌then◌else◌}
use Rattle.std.specs.List.{Contains}
use Rattle.mako_words.specs.declared.phase_word.PhaseWord.{PhaseWord}
use Rattle.mako_words.specs.declared.phase_word.PhaseWord.TheVariants.{Idle, Trace, Evac, Stop}
use Rattle.mako_words.specs.declared.entry_word.EntryWord.{EntryWord}
use Rattle.mako_words.specs.Entries.{entry_at}
use Rattle.mako_words.specs.Phases.{phase_at, cycle_of}
use Rattle.mako_shape.specs.declared.numbers.Numbers.{Numbers}
use Rattle.mako_shape.specs.Limits.{all_entries}
use Rattle.mako_shape.specs.Places.{phase, entry, word_at}
use Rattle.mako_model.specs.Fronts.{Seen}
use Rattle.mako_model.specs.Legal.{Facts, state_of}
use Rattle.mako_model.specs.Dead.{names_made, IsDead}
use Rattle.mako_names.specs.Counts.{name_of, made_of}

-- the facts are those of a script with these numbers, whose board fits a region
pub record IsWorkloadOf (n : Numbers) (w : Facts) : Type 0 where
  pub mutators : length w.programs ≡ n.mutators
  pub roots : w.roots ≡ n.roots
  pub board : w.board + 1 ≤ w.words
  pub tablets : w.tablets ≡ n.servers * n.tablets
  pub entries : w.entries ≡ n.entries
  pub words : w.words ≡ n.words
  pub cycles : w.cycles ≡ n.cycles
  pub generations : w.generations ≡ n.generations
  pub few_cycles : w.cycles < 2 ^ 20
  pub few_generations : w.generations < 2 ^ 20

-- what the word of an entry stands for
unfoldable pub entry_of : Numbers → List ℕ → ℕ → EntryWord
entry_of n ws x = entry_at (word_at n ws (entry x))

-- what the phase word stands for
unfoldable pub phase_of : Numbers → List ℕ → PhaseWord
phase_of n ws = phase_at (word_at n ws phase)

-- 1 where a cycle runs, whose snapshot was taken and which is not finished, and 0 elsewhere
abbrev pub running_of : PhaseWord → ℕ
running_of (Idle c) = 0
running_of (Trace c) = 1
running_of (Evac c) = 1
running_of (Stop c) = 0

-- The latest cycle in which the last name of each free entry is dead. While servers trace it is the cycle before the
-- running one: the names that this one kills are freed in its evacuation.
abbrev pub settled_of : PhaseWord → ℕ
settled_of (Idle c) = c
settled_of (Trace c) = c - 1
settled_of (Evac c) = c
settled_of (Stop c) = c

-- 1 where it is true
abbrev pub one_if : Bool → ℕ
one_if b = if b then 1 else 0

-- The entry is taken with the generation of its last name, or free with the next one. Where it is free, its last name
-- is dead in the settled cycle; where it is taken, its name is dead in no finished one. (Taken and generation stand
-- apart from the word, so that marks and moves, which keep both, leave this as it is.)
pub record EntryStands (w : Facts) (front : Seen) (settled entry : ℕ) (taken : Bool) (generation : ℕ) : Type 0 where
  pub count : generation + one_if taken ≡ made_of entry front.history
  pub free : taken ≡ false → (last : ℕ) → generation ≡ last + 1 → IsDead w front.history settled (name_of entry last)
  pub held : taken ≡ true → ¬ IsDead w front.history (length front.finished) (name_of entry generation)

-- each entry stands for the names that were made of it
abbrev pub EachStands : Numbers → List ℕ → Facts → Seen → ℕ → Type 0
EachStands n ws w front settled = (x : ℕ) → x < all_entries n
    → EntryStands w front settled x (entry_of n ws x).taken (entry_of n ws x).generation

-- The phase word has the number of the last snapshot. All cycles before it are finished, and so is its own where none
-- runs. Each entry stands for its names.
pub record TableStands (n : Numbers) (ws : List ℕ) (w : Facts) (front : Seen) : Type 0 where
  pub cycle : cycle_of (phase_of n ws) ≡ (state_of w front.history).snaps
  pub finished : length front.finished + running_of (phase_of n ws) ≡ (state_of w front.history).snaps
  pub entries : EachStands n ws w front (settled_of (phase_of n ws))

-- the entry of the name is taken with its generation
pub record IsTaken (n : Numbers) (ws : List ℕ) (x g : ℕ) : Type 0 where
  pub within : x < all_entries n
  pub taken : (entry_of n ws x).taken ≡ true
  pub generation : (entry_of n ws x).generation ≡ g

-- the phase word and the words of all entries are as they were
pub record SameTable (n : Numbers) (ws us : List ℕ) : Type 0 where
  pub phase : word_at n us phase ≡ word_at n ws phase
  pub entries : (x : ℕ) → x < all_entries n → word_at n us (entry x) ≡ word_at n ws (entry x)

-- the entry that a `New` publishes: taken, of a generation, with an epoch, at an address
abbrev pub published : ℕ → ℕ → ℕ → EntryWord
published generation epoch address = record { taken = true; generation = generation; epoch = epoch; address = address }

-- What it comes to for an entry: its names are those of the generations below a number, and it is taken with the last
-- of them or free with the next. Where it is free, its last name is dead at the last snapshot, and while servers
-- trace at the one before; where it is taken, its name is dead in no finished cycle.
pub record EntryTells (n : Numbers) (ws : List ℕ) (w : Facts) (front : Seen) (x : ℕ) : Type 0 where
  pub names : (g : ℕ) → Contains (names_made front.history) (name_of x g) ↔ (g < made_of x front.history)
  pub taken : (entry_of n ws x).taken ≡ true → (entry_of n ws x).generation + 1 ≡ made_of x front.history
  pub free : (entry_of n ws x).taken ≡ false → (entry_of n ws x).generation ≡ made_of x front.history
  pub free_dead : (entry_of n ws x).taken ≡ false → (g : ℕ) → made_of x front.history ≡ g + 1
      → IsDead w front.history (state_of w front.history).snaps (name_of x g)
  pub free_traced : (c g : ℕ) → phase_of n ws ≡ Trace c → (entry_of n ws x).taken ≡ false
      → made_of x front.history ≡ g + 1 → IsDead w front.history ((state_of w front.history).snaps - 1) (name_of x g)
  pub held : (k : ℕ) → k ≤ length front.finished → (entry_of n ws x).taken ≡ true
      → ¬ IsDead w front.history k (name_of x (entry_of n ws x).generation)
