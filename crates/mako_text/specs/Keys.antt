-- The keys of the settings, in the order of their lines.
use Rattle.std.specs.Prelude.{ℕ, List, [], ◌∷◌, ◌++◌, drop, zip, codes}
use Rattle.mako_shape.specs.Limits.{ranges}
use Rattle.mako_text.specs.declared.keys.Key.{Key}

abbrev pub key_words : List (List ℕ)
key_words =
    codes "mako"
    ∷ codes "servers"
    ∷ codes "tablets"
    ∷ codes "entries"
    ∷ codes "words"
    ∷ codes "spare"
    ∷ codes "ring"
    ∷ codes "roots"
    ∷ codes "cycles"
    ∷ codes "gens"
    ∷ codes "board"
    ∷ []

-- each key with the range of its number: that of the version, those of the geometry but the mutators, that of the board
abbrev pub keys : List (List ℕ × (ℕ × ℕ))
keys = zip key_words ((1, 1) ∷ drop 1 ranges ++ (1, 14) ∷ [])

-- a key of a table, and the range of its number
abbrev pub key_view : Key → List ℕ × (ℕ × ℕ)
key_view key = (key.word.now, (key.low, key.high))
