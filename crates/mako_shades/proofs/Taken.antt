-- Entries that are taken, as words say it.
use Rattle.std.proofs.Common.{◌≡◌, ℕ, List, true, refl}
use Rattle.mako_words.specs.declared.name.Name.{Name}
use Rattle.mako_words.specs.Entries.{entry_at}
use Rattle.mako_shape.specs.declared.numbers.Numbers.{Numbers}
use Rattle.mako_shape.specs.Places.{entry, Within, word_at}
use Rattle.mako_ring.specs.Shades.{IsMarked}
use Rattle.mako_names.specs.Tables.{IsTaken, entry_of}

-- an entry is what its word says
pub entry_is : (n : Numbers) (words : List ℕ) (e : ℕ) → entry_of n words e ≡ entry_at (word_at n words (entry e))
unfolding entry_of
entry_is n words e = refl

module _ (n : Numbers) (words : List ℕ) (e g : ℕ) where
  pub is_taken : Within n (entry e) → (entry_at (word_at n words (entry e))).taken ≡ true
      → (entry_at (word_at n words (entry e))).generation ≡ g → IsTaken n words e g
  unfolding entry_of
  is_taken within taken generation = record { within = within; taken = taken; generation = generation }

  pub taken_word : IsTaken n words e g → (entry_at (word_at n words (entry e))).taken ≡ true
  unfolding entry_of
  taken_word is = is.taken

  pub taken_generation : IsTaken n words e g → (entry_at (word_at n words (entry e))).generation ≡ g
  unfolding entry_of
  taken_generation is = is.generation

module _ (n : Numbers) (words : List ℕ) (cycle : ℕ) (x : Name) where
  -- a taken name with the epoch is marked
  pub taken_marked : IsTaken n words x.entry x.generation → (entry_at (word_at n words (entry x.entry))).epoch ≡ cycle
      → IsMarked n words cycle x
  taken_marked is epoch = record {
    in_range = is.within;
    taken = taken_word n words x.entry x.generation is;
    generation = taken_generation n words x.entry x.generation is;
    epoch = epoch;
  }

  pub marked_taken : IsMarked n words cycle x → IsTaken n words x.entry x.generation
  marked_taken marked = is_taken n words x.entry x.generation marked.in_range marked.taken marked.generation
