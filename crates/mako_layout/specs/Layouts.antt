-- One copy: where the records of taken entries lie. A layout has functions alone, no words and no views.
use Rattle.std.specs.Prelude.{ℕ, Bool, true, ◌≡◌, ◌≢◌, ◌+◌, ◌*◌, ◌<◌, ◌≤◌, ◌==◌, ◌&&◌, ◌⊎◌}
use Rattle.mako_shape.specs.declared.numbers.Numbers.{Numbers}
use Rattle.mako_shape.specs.Belongings.{tablet_of_entry, server_of_tablet, server_of_region}
use Rattle.mako_gate.specs.Changes.{tablets_of}
use Rattle.mako_gate.specs.Sums.{counted}
use Rattle.mako_layout.specs.Sums.{sum_below, over_tablet}

-- An entry with its record: the record's region, its first word there, and its words with the header.
pub record Slot : Type 0 where
  pub taken : Bool
  pub generation : ℕ
  pub epoch : ℕ
  pub region : ℕ
  pub offset : ℕ
  pub size : ℕ

-- what is read of words and views, by entry, by tablet and by region
pub record Layout : Type 0 where
  pub cycle : ℕ
  pub slot : ℕ → Slot
  pub home : ℕ → ℕ
  -- the words of the home that are in use
  pub filled : ℕ → ℕ
  -- 0, or the region that the tablet leaves with one added
  pub leaving : ℕ → ℕ
  -- 0, or the region that the tablet gave up in this cycle with one added
  pub given : ℕ → ℕ
  -- how often a region is spare
  pub spare : ℕ → ℕ
  -- the words of all records ever made in a tablet
  pub made : ℕ → ℕ

abbrev pub entries_of : Numbers → ℕ
entries_of n = n.servers * n.tablets * n.entries

abbrev pub regions_of : Numbers → ℕ
regions_of n = n.servers * (n.tablets + n.spare)

-- the words of the record where it is taken and lies in the region
abbrev pub part_in : ℕ → Slot → ℕ
part_in r s = counted (s.taken && (s.region == r)) s.size

-- the words of the record where it is taken and of the cycle
abbrev pub part_of_cycle : ℕ → Slot → ℕ
part_of_cycle c s = counted (s.taken && (s.epoch == c)) s.size

-- the words of the tablet's taken records that lie in its home
abbrev pub home_words : Numbers → Layout → ℕ → ℕ
home_words n l t = over_tablet n t (λ x. part_in (l.home t) (l.slot x))

-- the words of the tablet's taken records of the cycle, wherever they lie
abbrev pub cycle_words : Numbers → Layout → ℕ → ℕ
cycle_words n l t = over_tablet n t (λ x. part_of_cycle l.cycle (l.slot x))

-- the words of the tablet's taken records
abbrev pub taken_words : Numbers → Layout → ℕ → ℕ
taken_words n l t = over_tablet n t (λ x. counted (l.slot x).taken (l.slot x).size)

-- how many tablets have the region for their home, and how many gave it up
abbrev pub homes_at : Numbers → Layout → ℕ → ℕ
homes_at n l r = sum_below (tablets_of n) (λ t. counted (l.home t == r) 1)

abbrev pub gifts_at : Numbers → Layout → ℕ → ℕ
gifts_at n l r = sum_below (tablets_of n) (λ t. counted (l.given t == r + 1) 1)

-- the record lies in the home, below the words in use
pub record InHome (l : Layout) (t : ℕ) (s : Slot) : Type 0 where
  pub region : s.region ≡ l.home t
  pub below : s.offset + s.size ≤ l.filled t

-- the record lies in the region that its tablet gave up; once that is left for good, only records of earlier cycles do
pub record InGiven (n : Numbers) (l : Layout) (t : ℕ) (s : Slot) : Type 0 where
  pub region : s.region + 1 ≡ l.given t
  pub below : s.offset + s.size ≤ n.words
  pub old : l.leaving t ≡ 0 → s.epoch ≢ l.cycle

-- this word of the region is one of the taken record
pub record Holds (s : Slot) (r o : ℕ) : Type 0 where
  pub taken : s.taken ≡ true
  pub region : s.region ≡ r
  pub low : s.offset ≤ o
  pub high : o < s.offset + s.size

-- among the entries below b, the tablet's taken records of the cycle lie in its home
abbrev pub Passed : Numbers → Layout → ℕ → ℕ → Type 0
Passed n l t b = (y : ℕ) → y < b → y < entries_of n → tablet_of_entry n y ≡ t →
    (l.slot y).taken ≡ true → (l.slot y).epoch ≡ l.cycle → (l.slot y).region ≡ l.home t

pub record OneCopy (n : Numbers) (l : Layout) : Type 0 where
  -- each region is the home of one tablet, given up by one tablet, or spare
  pub role : (r : ℕ) → r < regions_of n → homes_at n l r + gifts_at n l r + l.spare r ≡ 1
  pub home_in : (t : ℕ) → t < tablets_of n → l.home t < regions_of n
  pub given_in : (t : ℕ) → t < tablets_of n → l.given t ≤ regions_of n
  -- and that tablet is one of the region's server
  pub home_own : (t : ℕ) → t < tablets_of n → server_of_region n (l.home t) ≡ server_of_tablet n t
  pub given_own : (t r : ℕ) → t < tablets_of n → l.given t ≡ r + 1 →
      server_of_region n r ≡ server_of_tablet n t
  -- each taken record lies whole in the home, or in the region given up
  pub whole : (x : ℕ) → x < entries_of n → (l.slot x).taken ≡ true →
      InHome l (tablet_of_entry n x) (l.slot x) ⊎ InGiven n l (tablet_of_entry n x) (l.slot x)
  -- a word is one of one record at most
  pub one : (x y r o : ℕ) → x < entries_of n → y < entries_of n →
      Holds (l.slot x) r o → Holds (l.slot y) r o → x ≡ y
  -- the records in the home are among the words in use, and those are in the region
  pub room : (t : ℕ) → t < tablets_of n → home_words n l t ≤ l.filled t
  pub within : (t : ℕ) → t < tablets_of n → l.filled t ≤ n.words
  -- no more words are in use than were made, nor have the taken records more
  pub made_in : (t : ℕ) → t < tablets_of n → l.filled t ≤ l.made t
  pub made_all : (t : ℕ) → t < tablets_of n → taken_words n l t ≤ l.made t
  -- While a tablet leaves a region, it is the one that it gave up; the words in use are those of the records in the
  -- home, which are of the cycle; and all records of the cycle together have room there.
  pub leaves : (t : ℕ) → t < tablets_of n → l.leaving t ≢ 0 → l.leaving t ≡ l.given t
  pub exact : (t : ℕ) → t < tablets_of n → l.leaving t ≢ 0 → home_words n l t ≡ l.filled t
  pub fresh : (x : ℕ) → x < entries_of n → (l.slot x).taken ≡ true → l.leaving (tablet_of_entry n x) ≢ 0 →
      (l.slot x).region ≡ l.home (tablet_of_entry n x) → (l.slot x).epoch ≡ l.cycle
  pub cycle_fits : (t : ℕ) → t < tablets_of n → l.leaving t ≢ 0 → cycle_words n l t ≤ n.words
