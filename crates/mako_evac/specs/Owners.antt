-- The tablets and entries of a server, and which of its entries are copied and which are freed.
use Rattle.std.specs.Prelude.{ℕ, Bool, not, ◌+◌, ◌*◌, ◌<◌, ◌≤◌, ◌==◌, ◌&&◌}
use Rattle.mako_words.specs.declared.entry_word.EntryWord.{EntryWord}
use Rattle.mako_shape.specs.declared.numbers.Numbers.{Numbers}
use Rattle.mako_shape.specs.Limits.{IsShape}
use Rattle.mako_record.specs.Regions.{is_in_region}
use Rattle.mako_evac.specs.declared.owner.Owner.{Owner}

-- a server of the geometry, in one of the cycles
pub record IsOwner (o : Owner) : Type 0 where
  pub shape : IsShape o.shape
  pub server : o.server < o.shape.servers
  pub begun : 1 ≤ o.cycle
  pub cycle : o.cycle ≤ o.shape.cycles

-- its tablets: from the first on, and below the end
abbrev pub first_tablet : Owner → ℕ
first_tablet o = o.server * o.shape.tablets

abbrev pub tablets_end : Owner → ℕ
tablets_end o = (o.server + 1) * o.shape.tablets

-- the entries of a tablet: from the first on, and below the first of the next tablet
abbrev pub first_entry : Numbers → ℕ → ℕ
first_entry n t = t * n.entries

-- one of its tablets
pub record IsOwnTablet (o : Owner) (t : ℕ) : Type 0 where
  pub from : first_tablet o ≤ t
  pub below : t < tablets_end o

-- an entry of the tablet
pub record IsEntryOf (n : Numbers) (t x : ℕ) : Type 0 where
  pub from : first_entry n t ≤ x
  pub below : x < first_entry n (t + 1)

-- an entry of its tablets
pub record IsOwnEntry (o : Owner) (x : ℕ) : Type 0 where
  pub from : first_entry o.shape (first_tablet o) ≤ x
  pub below : x < first_entry o.shape (tablets_end o)

-- an object of the cycle whose record does not lie in the region: it is left behind, and has to be copied
abbrev pub is_left : Owner → ℕ → EntryWord → Bool
is_left o region e = e.taken && (e.epoch == o.cycle) && not (is_in_region o.shape region e.address)

-- an object that is not of the cycle: it is dead, and its entry has to be freed
abbrev pub is_dead : Owner → EntryWord → Bool
is_dead o e = e.taken && not (e.epoch == o.cycle)
