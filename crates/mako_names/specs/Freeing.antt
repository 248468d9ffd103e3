-- Which names a cycle frees, how far each server has come with freeing them, and what the epochs of entries tell.
use Rattle.std.specs.Prelude.{ℕ, ◌≡◌, ◌≢◌, ◌+◌, ◌-◌, ◌*◌, ◌<◌, ◌≤◌, ◌↔◌, Bool, true, List, [], ◌∷◌, ◌++◌, length}
use Rattle.std.specs.Prelude.{slice_get, Some}
use Rattle.std.specs.List.{fold, flat_map, Contains}
use Rattle.std.specs.List.Sorted.{IsStrictlySortedBy}
use Rattle.mako_words.specs.declared.name.Name.{Name}
use Rattle.mako_words.specs.declared.phase_word.PhaseWord.{PhaseWord}
use Rattle.mako_words.specs.declared.phase_word.PhaseWord.TheVariants.{Idle, Trace, Evac, Stop}
use Rattle.mako_words.specs.Names.{name_cmp}
use Rattle.mako_shape.specs.declared.numbers.Numbers.{Numbers}
use Rattle.mako_shape.specs.Limits.{all_entries}
use Rattle.mako_model.specs.declared.point.Point.{Point}
use Rattle.mako_model.specs.declared.point.Point.TheVariants.{Did, Snap}
use Rattle.mako_model.specs.Legal.{Facts, state_of}
use Rattle.mako_model.specs.Reachable.{IsReachable}
use Rattle.mako_model.specs.Dead.{made_by, IsDead}
use Rattle.mako_names.specs.Counts.{name_of}
use Rattle.mako_names.specs.Tables.{entry_of}

-- Of a server is read: how many of its entries it has gone over in the present cycle, and the names that it has freed
-- in it, in order.
pub record Freeing : Type 0 where
  pub through : ℕ
  pub names : List Name

-- the cycle frees the name: it is dead in it, and was not in the one before
pub record IsFreedIn (w : Facts) (history : List Point) (cycle : ℕ) (name : Name) : Type 0 where
  pub dead : IsDead w history cycle name
  pub lived : ¬ IsDead w history (cycle - 1) name

-- these are the names that the cycle frees of the entries from one up to another, in order
pub record AreFreedOf (w : Facts) (history : List Point) (cycle low high : ℕ) (names : List Name) : Type 0 where
  pub rising : IsStrictlySortedBy name_cmp names
  pub each : (name : Name)
      → Contains names name ↔ (IsFreedIn w history cycle name × (low ≤ name.entry) × (name.entry < high))

-- how many entries a server has
abbrev pub own_entries : Numbers → ℕ
own_entries n = n.tablets * n.entries

-- the i-th entry of a server
abbrev pub entry_by : Numbers → ℕ → ℕ → ℕ
entry_by n s i = s * own_entries n + i

-- an entry that is still to be gone over: the name that the cycle frees of it, if any, is the one for which it is
-- taken
abbrev pub IsLeftIn : Facts → List Point → ℕ → ℕ → Bool → ℕ → Type 0
IsLeftIn w history cycle x taken generation =
    (g : ℕ) → IsFreedIn w history cycle (name_of x g) → (taken ≡ true) × (generation ≡ g)

-- an entry that was gone over: if it is taken, its name is not dead in the cycle
abbrev pub IsPast : Facts → List Point → ℕ → ℕ → Bool → ℕ → Type 0
IsPast w history cycle x taken generation = taken ≡ true → ¬ IsDead w history cycle (name_of x generation)

-- What each server has freed in the cycle is what the cycle frees of the entries that it has gone over. The others are
-- still to be gone over.
pub record FreeingStands (n : Numbers) (ws : List ℕ) (w : Facts) (history : List Point) (cycle : ℕ)
    (servers : List Freeing) : Type 0 where
  pub size : length servers ≡ n.servers
  pub within : (s : ℕ) (f : Freeing) → slice_get servers s ≡ Some f → f.through ≤ own_entries n
  pub names : (s : ℕ) (f : Freeing) → slice_get servers s ≡ Some f
      → AreFreedOf w history cycle (entry_by n s 0) (entry_by n s f.through) f.names
  pub left : (s i : ℕ) (f : Freeing) → slice_get servers s ≡ Some f → f.through ≤ i → i < own_entries n →
      IsLeftIn w history cycle (entry_by n s i) (entry_of n ws (entry_by n s i)).taken
      (entry_of n ws (entry_by n s i)).generation
  pub past : (s i : ℕ) (f : Freeing) → slice_get servers s ≡ Some f → i < f.through →
      IsPast w history cycle (entry_by n s i) (entry_of n ws (entry_by n s i)).taken
      (entry_of n ws (entry_by n s i)).generation

-- it is so while a cycle runs, and else nothing is said
abbrev pub FreeingFits : PhaseWord → Numbers → List ℕ → Facts → List Point → List Freeing → Type 0
FreeingFits (Idle c) n ws w history servers = Unit {0}
FreeingFits (Trace c) n ws w history servers = FreeingStands n ws w history c servers
FreeingFits (Evac c) n ws w history servers = FreeingStands n ws w history c servers
FreeingFits (Stop c) n ws w history servers = Unit {0}

-- ---- epochs

-- a taken entry has the cycle's epoch exactly where its name is not dead in it, and else an earlier one
pub record EpochStands (w : Facts) (history : List Point) (cycle x generation epoch : ℕ) : Type 0 where
  pub good : epoch ≡ cycle → ¬ IsDead w history cycle (name_of x generation)
  pub dead : epoch ≢ cycle → IsDead w history cycle (name_of x generation)
  pub old : epoch ≤ cycle

-- so it is with each taken entry
abbrev pub EpochsStand : Numbers → List ℕ → Facts → List Point → ℕ → Type 0
EpochsStand n ws w history cycle = (x : ℕ) → x < all_entries n → (entry_of n ws x).taken ≡ true
    → EpochStands w history cycle x (entry_of n ws x).generation (entry_of n ws x).epoch

-- the points since the last snapshot, with one point more
abbrev pub after_next : List Point → Point → List Point
after_next points (Did m c r) = points ++ Did m c r ∷ []
after_next points (Snap cycle) = []

-- the points since the last snapshot
abbrev pub since_snap : List Point → List Point
since_snap history = fold after_next [] history

-- While servers trace, an entry may still lack the epoch of a name that is not dead. But one that has the cycle's
-- epoch is that of a name that is not dead, one whose name was made since the snapshot has it, and none has a later
-- one.
pub record TraceStands (n : Numbers) (ws : List ℕ) (w : Facts) (history : List Point) (cycle : ℕ) : Type 0 where
  pub good : (x : ℕ) → x < all_entries n → (entry_of n ws x).taken ≡ true → (entry_of n ws x).epoch ≡ cycle
      → ¬ IsDead w history cycle (name_of x (entry_of n ws x).generation)
  pub young : (x : ℕ) → x < all_entries n → (entry_of n ws x).taken ≡ true
      → Contains (flat_map made_by (since_snap history)) (name_of x (entry_of n ws x).generation)
      → (entry_of n ws x).epoch ≡ cycle
  pub old : (x : ℕ) → x < all_entries n → (entry_of n ws x).taken ≡ true → (entry_of n ws x).epoch ≤ cycle

-- what epochs tell, by the phase
abbrev pub EpochsFit : PhaseWord → Numbers → List ℕ → Facts → List Point → Type 0
EpochsFit (Idle c) n ws w history = EpochsStand n ws w history c
EpochsFit (Trace c) n ws w history = TraceStands n ws w history c
EpochsFit (Evac c) n ws w history = EpochsStand n ws w history c
EpochsFit (Stop c) n ws w history = EpochsStand n ws w history c

-- each name that was reachable at the snapshot has the cycle's epoch
abbrev pub AllMarked : Numbers → List ℕ → Facts → List Point → ℕ → Type 0
AllMarked n ws w history cycle = (before after : List Point) (x g : ℕ) → history ≡ before ++ Snap cycle ∷ after
    → IsReachable (state_of w before) (name_of x g) → (entry_of n ws x).epoch ≡ cycle
