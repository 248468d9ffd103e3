-- What the law of gates reads of a view: where it stands at gates, and which gates it keeps shut.
use Rattle.std.specs.Prelude.{ℕ, ◌+◌, ◌==◌, ◌&&◌, nat_le, nat_lt}
use Rattle.mako_gate.specs.Sums.{counted}

-- Where a mutator's view stands: at its own gate, where it was refused or is inside, and from inside at one tablet's
-- gate,
-- where it was turned away, is admitted, or is admitted and holds the tablet's turn.
pub data Standing : Type 0 where
  away : Standing
  refused : Standing
  inside : Standing
  turned_away : ℕ → Standing
  at_tablet : ℕ → Standing
  with_turn : ℕ → Standing

-- Which gates a view keeps shut. A server keeps one tablet's; once it is drained, the server has passed the entries of
-- the tablet below a number. The collector keeps those of the mutators from low on below high, and has drained those
-- below a third number.
pub data Watch : Type 0 where
  rests : Watch
  keeps_shut : ℕ → Watch
  has_drained : ℕ → ℕ → Watch
  pauses : ℕ → ℕ → ℕ → Watch

-- a view's number among the mutators, where it stands, and what it keeps shut
pub record GateFacet : Type 0 where
  pub number : ℕ
  pub standing : Standing
  pub watch : Watch

-- 1 where it arrived at the tablet's gate and has not left
abbrev pub arrived : ℕ → Standing → ℕ
arrived t (turned_away u) = counted (u == t) 1
arrived t (at_tablet u) = counted (u == t) 1
arrived t (with_turn u) = counted (u == t) 1
arrived t s = 0

-- 1 where that arrival found no shut bit
abbrev pub admitted : ℕ → Standing → ℕ
admitted t (at_tablet u) = counted (u == t) 1
admitted t (with_turn u) = counted (u == t) 1
admitted t s = 0

-- 1 where it holds the tablet's turn
abbrev pub holds_turn : ℕ → Standing → ℕ
holds_turn t (with_turn u) = counted (u == t) 1
holds_turn t s = 0

-- 1 where it has shut the tablet's gate and has not reopened it
abbrev pub shut_by : ℕ → Watch → ℕ
shut_by t (keeps_shut u) = counted (u == t) 1
shut_by t (has_drained u b) = counted (u == t) 1
shut_by t w = 0

-- 1 where a look of it has found the count 0 since
abbrev pub drained_by : ℕ → Watch → ℕ
drained_by t (has_drained u b) = counted (u == t) 1
drained_by t w = 0

-- 1 where it arrived at its own gate and has not left
abbrev pub arrived_own : Standing → ℕ
arrived_own away = 0
arrived_own s = 1

-- 1 where that arrival found no shut bit
abbrev pub admitted_own : Standing → ℕ
admitted_own away = 0
admitted_own refused = 0
admitted_own s = 1

-- 1 where it has shut the mutator's gate and has not reopened it
abbrev pub shut_own : ℕ → Watch → ℕ
shut_own m (pauses low high drained) = counted (nat_le low m && nat_lt m high) 1
shut_own m w = 0

-- 1 where a look of it has found the count 0 since
abbrev pub drained_own : ℕ → Watch → ℕ
drained_own m (pauses low high drained) = counted (nat_lt m drained) (counted (nat_le low m && nat_lt m high) 1)
drained_own m w = 0

-- a mutator's view, and a view that shuts gates
abbrev pub mutator_at : ℕ → Standing → GateFacet
mutator_at m s = record { number = m; standing = s; watch = rests }

abbrev pub shutter_at : ℕ → Watch → GateFacet
shutter_at k w = record { number = k; standing = away; watch = w }

-- above 0 where the view may write records of the tablet: it holds the turn, or has drained the gate
abbrev pub writes : ℕ → GateFacet → ℕ
writes t g = holds_turn t g.standing + drained_by t g.watch
