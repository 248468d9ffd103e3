-- Which tablet, server and region things belong to.
use Rattle.std.specs.Prelude.{◌≡◌, ℕ, ◌+◌, ◌-◌, ◌*◌, ◌/◌, ◌%◌, ◌<◌, ◌≤◌}
use Rattle.mako_shape.specs.declared.numbers.Numbers.{Numbers}
use Rattle.mako_shape.specs.Places.{total, index, region_word}

-- the tablet of an entry
abbrev pub tablet_of_entry : Numbers → ℕ → ℕ
tablet_of_entry n x = x / n.entries

-- the server of a tablet
abbrev pub server_of_tablet : Numbers → ℕ → ℕ
server_of_tablet n t = t / n.tablets

-- the server of an entry is that of its tablet
abbrev pub server_of_entry : Numbers → ℕ → ℕ
server_of_entry n x = server_of_tablet n (tablet_of_entry n x)

-- the server of a region
abbrev pub server_of_region : Numbers → ℕ → ℕ
server_of_region n r = r / (n.tablets + n.spare)

-- an address: the index of a word of the regions
abbrev pub IsAddress : Numbers → ℕ → Type 0
IsAddress n a = (index n (region_word 0 0) ≤ a) × (a < total n)

-- the region of an address
abbrev pub region_of_address : Numbers → ℕ → ℕ
region_of_address n a = (a - index n (region_word 0 0)) / n.words

-- the place of an address in its region
abbrev pub word_of_address : Numbers → ℕ → ℕ
word_of_address n a = (a - index n (region_word 0 0)) % n.words

-- an index of a word of this region
abbrev pub IsInRegion : Numbers → ℕ → ℕ → Type 0
IsInRegion n r a = (index n (region_word r 0) ≤ a) × (a < index n (region_word r 0) + n.words)

-- the home of a tablet at the start: of its server's regions the one with the tablet's place among its server's tablets
abbrev pub opening_home : Numbers → ℕ → ℕ
opening_home n t = t / n.tablets * (n.tablets + n.spare) + t % n.tablets

-- an entry in range belongs to a tablet in range, and that to a server in range; so does a region
pub record BelongingsAreInRange : Type 0 where
  pub entry : (n : Numbers) (x : ℕ) → x < n.servers * n.tablets * n.entries
      → tablet_of_entry n x < n.servers * n.tablets
  pub tablet : (n : Numbers) (t : ℕ) → t < n.servers * n.tablets → server_of_tablet n t < n.servers
  pub region : (n : Numbers) (r : ℕ) → r < n.servers * (n.tablets + n.spare) → server_of_region n r < n.servers

-- the i-th entry of a tablet, tablet of a server or region of a server belongs to it, and is in range
pub record PartsBelong : Type 0 where
  pub entry : (n : Numbers) (t i : ℕ) → i < n.entries → tablet_of_entry n (t * n.entries + i) ≡ t
  pub tablet : (n : Numbers) (s i : ℕ) → i < n.tablets → server_of_tablet n (s * n.tablets + i) ≡ s
  pub region : (n : Numbers) (s i : ℕ) → i < n.tablets + n.spare
      → server_of_region n (s * (n.tablets + n.spare) + i) ≡ s
  pub entry_in_range : (n : Numbers) (t i : ℕ) → t < n.servers * n.tablets → i < n.entries
      → t * n.entries + i < n.servers * n.tablets * n.entries
  pub tablet_in_range : (n : Numbers) (s i : ℕ) → s < n.servers → i < n.tablets
      → s * n.tablets + i < n.servers * n.tablets
  pub region_in_range : (n : Numbers) (s i : ℕ) → s < n.servers → i < n.tablets + n.spare
      → s * (n.tablets + n.spare) + i < n.servers * (n.tablets + n.spare)

-- each address is a place in range of its region, and the words of a region are the addresses that belong to it
pub record AddressesBelong : Type 0 where
  pub in_range : (n : Numbers) (a : ℕ) → IsAddress n a → region_of_address n a < n.servers * (n.tablets + n.spare)
  pub word_in_range : (n : Numbers) (a : ℕ) → IsAddress n a → word_of_address n a < n.words
  pub place : (n : Numbers) (a : ℕ) → IsAddress n a
      → index n (region_word (region_of_address n a) (word_of_address n a)) ≡ a
  pub in_region : (n : Numbers) (a : ℕ) → IsAddress n a → IsInRegion n (region_of_address n a) a
  pub region_words : (n : Numbers) (r a : ℕ) → r < n.servers * (n.tablets + n.spare) → IsInRegion n r a → IsAddress n a
      × (region_of_address n a ≡ r)
  pub word_after : (n : Numbers) (r w : ℕ) → index n (region_word r w) ≡ index n (region_word r 0) + w

-- the home of a tablet at the start is a region of the tablet's server, and no other tablet's home
pub record OpeningHomesAreGood : Type 0 where
  pub in_range : (n : Numbers) (t : ℕ) → t < n.servers * n.tablets
      → opening_home n t < n.servers * (n.tablets + n.spare)
  pub same_server : (n : Numbers) (t : ℕ) → t < n.servers * n.tablets
      → server_of_region n (opening_home n t) ≡ server_of_tablet n t
  pub one_tablet : (n : Numbers) (t u : ℕ) → t < n.servers * n.tablets → u < n.servers * n.tablets
      → opening_home n t ≡ opening_home n u → t ≡ u
