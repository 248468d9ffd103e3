-- Worked examples: two objects that name each other, and that nothing else names, are freed together;
-- an entry that had its last object is no room; the entry of a dead object is used again; objects
-- that are in use leave no room; and an object that names itself is freed once.
use Rattle.std.specs.Prelude.{List, [], ◌∷◌, ◌++◌}
use Rattle.mako_words.specs.declared.name.Name.{Name}
use Rattle.mako_words.specs.declared.value.Value.TheVariants.{Ref}
use Rattle.mako_model.specs.declared.call.Call.{Call}
use Rattle.mako_model.specs.declared.call.Call.TheVariants.{New, Put, DropRoot, Show, Collect}
use Rattle.mako_model.specs.declared.reply.Reply.TheVariants.{Made, Done, Cycle, Full, Value}
use Rattle.mako_model.specs.declared.point.Point.{Point}
use Rattle.mako_model.specs.declared.point.Point.TheVariants.{Did, Snap}
use Rattle.mako_model.specs.Fronts.{Seen}
use Rattle.mako_model.specs.Legal.{Facts}

-- the first name of entry 1
abbrev pub one : Name
one = record { entry = 1; generation = 0 }

-- the first name of entry 2
abbrev pub two : Name
two = record { entry = 2; generation = 0 }

-- a mutator makes two objects, ties them to each other and drops both
abbrev pub tying : List Call
tying = New 1 1 ∷ New 2 1 ∷ Put 1 0 2 ∷ Put 2 0 1 ∷ DropRoot 1 ∷ DropRoot 2 ∷ Collect ∷ []

-- there are two tablets of two entries
abbrev pub tied : Facts
tied = record {
  roots = 4;
  board = 1;
  tablets = 2;
  entries = 2;
  words = 16;
  cycles = 10;
  generations = 8;
  programs = tying ∷ [];
}

-- what it did before the snapshot
abbrev pub before_tied_snap : List Point
before_tied_snap =
    Did 0 (New 1 1) (Made one) ∷ Did 0 (New 2 1) (Made two) ∷ Did 0 (Put 1 0 2) Done ∷ Did 0 (Put 2 0 1) Done ∷
    Did 0 (DropRoot 1) Done ∷ Did 0 (DropRoot 2) Done ∷ []

-- what happened
abbrev pub tied_history : List Point
tied_history =
    Did 0 (New 1 1) (Made one) ∷ Did 0 (New 2 1) (Made two) ∷ Did 0 (Put 1 0 2) Done ∷ Did 0 (Put 2 0 1) Done ∷
    Did 0 (DropRoot 1) Done ∷ Did 0 (DropRoot 2) Done
    ∷ Snap 1 ∷ Did 0 Collect (Cycle 1) ∷ []

-- the cycle frees both
abbrev pub tied_front : Seen
tied_front = record { history = tied_history; finished = (one ∷ two ∷ []) ∷ [] }

-- the same, but the cycle frees the first alone
abbrev pub half_freed_front : Seen
half_freed_front = record { history = tied_history; finished = (one ∷ []) ∷ [] }

-- a mutator makes an object, drops it and makes another
abbrev pub remaking : List Call
remaking = New 1 0 ∷ DropRoot 1 ∷ New 2 0 ∷ []

-- there is one entry beside the board's, for one object in all
abbrev pub retiring : Facts
retiring = record {
  roots = 4;
  board = 1;
  tablets = 1;
  entries = 2;
  words = 16;
  cycles = 10;
  generations = 1;
  programs = remaking ∷ [];
}

-- what it did before the snapshot
abbrev pub before_retiring_snap : List Point
before_retiring_snap = Did 0 (New 1 0) (Made one) ∷ Did 0 (DropRoot 1) Done ∷ []

-- what happened
abbrev pub retiring_history : List Point
retiring_history = Did 0 (New 1 0) (Made one) ∷ Did 0 (DropRoot 1) Done ∷ Snap 1 ∷ Did 0 (New 2 0) Full ∷ []

-- the object is freed, and there is no room all the same
abbrev pub retired_front : Seen
retired_front = record { history = retiring_history; finished = (one ∷ []) ∷ [] }

-- the same, but no cycle has finished, so that nobody knows yet
abbrev pub hasty_front : Seen
hasty_front = record { history = retiring_history; finished = [] }

-- the name of the second object of entry 1
abbrev pub one_again : Name
one_again = record { entry = 1; generation = 1 }

-- a mutator makes two objects, drops the first, makes a third and shows the second
abbrev pub reusing : List Call
reusing = New 1 6 ∷ New 2 5 ∷ DropRoot 1 ∷ New 3 6 ∷ Show 2 ∷ []

-- there are three entries beside the board's, and 16 words
abbrev pub roomy : Facts
roomy = record {
  roots = 4;
  board = 1;
  tablets = 1;
  entries = 4;
  words = 16;
  cycles = 10;
  generations = 8;
  programs = reusing ∷ [];
}

-- what it did before the snapshot
abbrev pub before_reuse_snap : List Point
before_reuse_snap = Did 0 (New 1 6) (Made one) ∷ Did 0 (New 2 5) (Made two) ∷ Did 0 (DropRoot 1) Done ∷ []

-- what happened
abbrev pub reuse_history : List Point
reuse_history =
    Did 0 (New 1 6) (Made one) ∷ Did 0 (New 2 5) (Made two) ∷ Did 0 (DropRoot 1) Done ∷ Snap 1 ∷
    Did 0 (New 3 6) (Made one_again)
    ∷ Did 0 (Show 2) (Value (Ref two)) ∷ []

-- the entry of the dropped object is used again, under its next generation
abbrev pub reused_front : Seen
reused_front = record { history = reuse_history; finished = (one ∷ []) ∷ [] }

-- the same, but it is used again before a snapshot found its object dead
abbrev pub reused_too_soon : Seen
reused_too_soon = record { history = before_reuse_snap ++ Did 0 (New 3 6) (Made one_again) ∷ []; finished = [] }

-- a mutator makes two objects, and keeps the first
abbrev pub filling : List Call
filling = New 1 1 ∷ New 2 1 ∷ []

-- there is one entry beside the board's
abbrev pub crowded : Facts
crowded = record {
  roots = 4;
  board = 1;
  tablets = 1;
  entries = 2;
  words = 16;
  cycles = 10;
  generations = 8;
  programs = filling ∷ [];
}

-- what it did before the snapshot
abbrev pub before_crowded_snap : List Point
before_crowded_snap = Did 0 (New 1 1) (Made one) ∷ []

-- what happened
abbrev pub crowded_history : List Point
crowded_history = Did 0 (New 1 1) (Made one) ∷ Snap 1 ∷ Did 0 (New 2 1) Full ∷ []

-- the cycle frees nothing, so that there is no room for the second
abbrev pub crowded_front : Seen
crowded_front = record { history = crowded_history; finished = [] ∷ [] }

-- the same, but the cycle frees the first, which a root names
abbrev pub used_freed_front : Seen
used_freed_front = record { history = crowded_history; finished = (one ∷ []) ∷ [] }

-- a mutator makes an object, lets it name itself, drops it and waits for two cycles
abbrev pub looping : List Call
looping = New 1 1 ∷ Put 1 0 1 ∷ DropRoot 1 ∷ Collect ∷ Collect ∷ []

-- there is room enough
abbrev pub looped : Facts
looped = record {
  roots = 4;
  board = 1;
  tablets = 1;
  entries = 4;
  words = 16;
  cycles = 10;
  generations = 8;
  programs = looping ∷ [];
}

-- what it did before the first snapshot
abbrev pub before_looped_snap : List Point
before_looped_snap = Did 0 (New 1 1) (Made one) ∷ Did 0 (Put 1 0 1) Done ∷ Did 0 (DropRoot 1) Done ∷ []

-- and before the second
abbrev pub before_second_snap : List Point
before_second_snap = before_looped_snap ++ Snap 1 ∷ Did 0 Collect (Cycle 1) ∷ []

-- what happened
abbrev pub looped_history : List Point
looped_history = before_second_snap ++ Snap 2 ∷ Did 0 Collect (Cycle 2) ∷ []

-- the first cycle frees the object, and the second frees nothing
abbrev pub looped_front : Seen
looped_front = record { history = looped_history; finished = (one ∷ []) ∷ [] ∷ [] }

-- the same, but the second frees it again
abbrev pub twice_freed_front : Seen
twice_freed_front = record { history = looped_history; finished = (one ∷ []) ∷ (one ∷ []) ∷ [] }
