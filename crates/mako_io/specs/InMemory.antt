-- What contracts see of the sources and sinks over memory.
use Rattle.std.specs.Prelude.{ℕ, ◌-◌, ◌==◌, ◌&&◌, nat_lt, List, length, min, if◌then◌else◌}
use Rattle.mako_io.specs.Causes.{raised}

-- a source: the bytes still to come, the faults and the read calls so far, and the numbers of the calls that fail
pub record MemSupply : Type 0 where
  pub left : List ℕ
  pub faults : ℕ
  pub calls : ℕ
  pub fails : List ℕ

-- bytes, and for how many there is room in all
pub record Stock : Type 0 where
  pub taken : List ℕ
  pub room : ℕ

-- a sink: the bytes taken so far, for how many there is room in all, and the faults so far
pub record SoundStock : Type 0 where
  pub taken : List ℕ
  pub room : ℕ
  pub faults : ℕ

-- a sink with failing calls: the write calls so far too, and the numbers of those that fail
pub record MemStock : Type 0 where
  pub taken : List ℕ
  pub room : ℕ
  pub faults : ℕ
  pub calls : ℕ
  pub fails : List ℕ

-- how many bytes of a piece still fit
abbrev pub fitting : List ℕ → ℕ → List ℕ → ℕ
fitting taken room piece = min (length piece) (room - length taken)

-- a piece that is not empty and finds no room left is a fault
abbrev pub faults_after : ℕ → List ℕ → ℕ → List ℕ → ℕ
faults_after faults taken room piece =
    if (fitting taken room piece == 0) && nat_lt 0 (length piece) then raised faults else faults
