-- The sizes of the areas are small where all numbers are in their ranges.
use Rattle.std.proofs.Common.{◌+◌, ◌*◌, ◌≤◌, arith}
use Rattle.std.proofs.lemmas.Nat.{mul-le}
use Rattle.mako_shape.specs.declared.numbers.Numbers.{Numbers}
use Rattle.mako_shape.specs.Limits.{AllInRange}

-- a bound on each product of numbers that is an area's size
pub record AreSmall (n : Numbers) : Type 0 where
  pub roots : n.mutators * n.roots ≤ 512
  pub barriers : n.mutators * n.ring ≤ 1024
  pub works : n.servers * n.ring ≤ 512
  pub pairs : n.servers * n.servers ≤ 64
  pub ghosts : n.servers * n.servers * n.ring ≤ 4096
  pub tablets : n.servers * n.tablets ≤ 2048
  pub entries : n.servers * n.tablets * n.entries ≤ 2097152
  pub regions : n.servers * (n.tablets + n.spare) ≤ 2112
  pub words : n.servers * (n.tablets + n.spare) * n.words ≤ 138412032

pub are_small : (n : Numbers) → AllInRange n → AreSmall n
are_small n h =
    let roots : n.mutators * n.roots ≤ 512 = mul-le n.mutators n.roots 16 32 (omega arith) (omega arith) in
    let barriers : n.mutators * n.ring ≤ 1024 = mul-le n.mutators n.ring 16 64 (omega arith) (omega arith) in
    let works : n.servers * n.ring ≤ 512 = mul-le n.servers n.ring 8 64 (omega arith) (omega arith) in
    let pairs : n.servers * n.servers ≤ 64 = mul-le n.servers n.servers 8 8 (omega arith) (omega arith) in
    let ghosts : n.servers * n.servers * n.ring ≤ 4096 =
    mul-le (n.servers * n.servers) n.ring 64 64 pairs (omega arith) in
    let tablets : n.servers * n.tablets ≤ 2048 = mul-le n.servers n.tablets 8 256 (omega arith) (omega arith) in
    let entries : n.servers * n.tablets * n.entries ≤ 2097152 =
    mul-le (n.servers * n.tablets) n.entries 2048 1024 tablets (omega arith) in
    let regions : n.servers * (n.tablets + n.spare) ≤ 2112 =
    mul-le n.servers (n.tablets + n.spare) 8 264 (omega arith) (omega arith) in
    let words : n.servers * (n.tablets + n.spare) * n.words ≤ 138412032 =
    mul-le (n.servers * (n.tablets + n.spare)) n.words 2112 65536 regions (omega arith) in
    record {
      roots = roots;
      barriers = barriers;
      works = works;
      pairs = pairs;
      ghosts = ghosts;
      tablets = tablets;
      entries = entries;
      regions = regions;
      words = words;
    }
