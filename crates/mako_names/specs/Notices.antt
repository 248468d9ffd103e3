-- How freed names come from the servers to the collector.
use Rattle.std.specs.Prelude.{ℕ, zero, suc, ◌≡◌, ◌<◌, ◌≤◌, List, [], ◌∷◌, ◌++◌, length, slice_get, Some}
use Rattle.mako_words.specs.declared.name.Name.{Name}
use Rattle.mako_names.specs.Freeing.{Freeing}

-- of the collector is read: the server whose notices it reads, and the names that it has got in the cycle
pub record Gathering : Type 0 where
  pub server : ℕ
  pub names : List Name

-- the names that the first servers have freed, in order
abbrev pub names_before : ℕ → List Freeing → List Name
names_before zero servers = []
names_before (suc s) [] = []
names_before (suc s) (f ∷ servers) = f.names ++ names_before s servers

-- What a server has sent is the names in its notice ring, and the one that it has still to put there. The collector
-- has what the servers before the one that it reads have freed, and what it got of that one; the rest of that one,
-- and all of those behind it, are sent.
pub record NoticesStand (servers : List Freeing) (sent : List (List Name)) (collector : Gathering) : Type 0 where
  pub size : length sent ≡ length servers
  pub got : (names : List Name) → slice_get sent collector.server ≡ Some names
      → collector.names ++ names ≡ names_before (suc collector.server) servers
  pub ahead : (s : ℕ) (f : Freeing) (names : List Name) → collector.server < s → slice_get servers s ≡ Some f
      → slice_get sent s ≡ Some names → names ≡ f.names
  pub all : length servers ≤ collector.server → collector.names ≡ names_before collector.server servers
