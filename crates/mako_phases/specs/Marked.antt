-- Marked names.
use Rattle.std.specs.Prelude.{ℕ, ◌≡◌, List, true}
use Rattle.mako_words.specs.declared.name.Name.{Name}
use Rattle.mako_shape.specs.declared.numbers.Numbers.{Numbers}
use Rattle.mako_shape.specs.Places.{entry, Within}
use Rattle.mako_names.specs.Tables.{entry_of}

-- the name's entry is taken with its generation, and has the epoch of the cycle
pub record IsMarked (n : Numbers) (words : List ℕ) (cycle : ℕ) (x : Name) : Type 0 where
  pub in_range : Within n (entry x.entry)
  pub taken : (entry_of n words x.entry).taken ≡ true
  pub generation : (entry_of n words x.entry).generation ≡ x.generation
  pub epoch : (entry_of n words x.entry).epoch ≡ cycle
