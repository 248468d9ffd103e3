-- The ties of names: the lists of freed names are those of the servers, of which no seat has a whole one.
use Rattle.std.specs.Prelude.{◌≡◌, ℕ, List, map}
use Rattle.mako_words.specs.declared.name.Name.{Name}
use Rattle.mako_words.specs.declared.phase_word.PhaseWord.{PhaseWord}
use Rattle.mako_words.specs.declared.phase_word.PhaseWord.TheVariants.{Idle, Trace, Evac, Stop}
use Rattle.mako_shape.specs.declared.numbers.Numbers.{Numbers}
use Rattle.mako_model.specs.declared.call.Call.{Call}
use Rattle.mako_model.specs.Fronts.{Seen}
use Rattle.mako_model.specs.Legal.{Facts}
use Rattle.mako_names.specs.Freeing.{Freeing}
use Rattle.mako_names.specs.Holding.{NameFacets, NamesHoldWith}
use Rattle.mako_names.specs.Notices.{Gathering, NoticesStand}
use Rattle.mako_names.specs.Tables.{phase_of}
use Rattle.mako_names.specs.Trying.{Trying}

-- What is read of the seats: by seat the names that it has still to use; by mutator what it knows of its attempt, and
-- the calls that are left; by server how many entries it has gone over in the present cycle, and the names that it
-- has sent and nobody got yet; and of the collector its list, with the server that it reads.
pub record Facets : Type 0 where
  pub held : List (List Name)
  pub trying : List Trying
  pub left : List (List Call)
  pub through : List ℕ
  pub sent : List (List Name)
  pub collector : Gathering

-- the facets with what each server has freed in place of what is sent and got
abbrev pub with_freed : Facets → List Freeing → NameFacets
with_freed facets freed = record { held = facets.held; trying = facets.trying; left = facets.left; freeing = freed }

-- what each server has freed is what was sent and got of it
pub record GatheringStands (freed : List Freeing) (through : List ℕ) (sent : List (List Name))
    (collector : Gathering) : Type 0 where
  pub bounds : through ≡ map (λ (f : Freeing). f.through) freed
  pub notices : NoticesStand freed sent collector

-- so it is while a cycle runs
abbrev pub GatheringFits : PhaseWord → List Freeing → List ℕ → List (List Name) → Gathering → Type 0
GatheringFits (Idle c) freed through sent collector = Unit {0}
GatheringFits (Trace c) freed through sent collector = GatheringStands freed through sent collector
GatheringFits (Evac c) freed through sent collector = GatheringStands freed through sent collector
GatheringFits (Stop c) freed through sent collector = Unit {0}

-- There are lists of what the servers have freed, with which all holds.
pub record NamesHold (n : Numbers) (w : Facts) (ws : List ℕ) (front : Seen) (facets : Facets) : Type 0 where
  pub freed : List Freeing
  pub hold : NamesHoldWith n w ws front (with_freed facets freed)
  pub gathering : GatheringFits (phase_of n ws) freed facets.through facets.sent facets.collector
