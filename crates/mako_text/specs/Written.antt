-- What a writer of a part of the output did.
use Rattle.std.specs.Prelude.{◌≡◌, ℕ, ◌+◌, ◌-◌, ◌^◌, ◌<◌, ◌≤◌, slice_index_or, min, max, List, [], ◌∷◌, ◌++◌, length}
use Rattle.std.specs.Prelude.{Result, Ok, Err}
use Rattle.std.specs.declared.option.Option.{Option}
use Rattle.std.specs.Io.KnownBytes.{Appends}
use Rattle.mako_io.specs.declared.writing.WriteFault.{WriteFault}
use Rattle.mako_model.specs.declared.call.Call.{Call}
use Rattle.mako_model.specs.declared.reply.Reply.{Reply}
use Rattle.mako_text.specs.declared.writer.OutputWriter.{OutputWriter}
use Rattle.mako_text.specs.Outputs.{WentOut, point_text, mutator_line}

-- a count with so many more, up to the greatest number
abbrev pub raised_by : ℕ → ℕ → ℕ
raised_by count more = max count (min (count + more) (2 ^ 64 - 1))

-- the whole text went out and the writer counts it, or only a prefix of it, which the writer counts as the fault does
abbrev pub Writes : {K : Type 0} → (K → Option (List ℕ)) → List ℕ → OutputWriter K → OutputWriter K
    → Result (Unit {0}) WriteFault → Type 0
Writes taken text old new (Ok done) =
    Appends (taken old.sink.now) (taken new.sink.now) text × (new.went ≡ raised_by old.went (length text))
Writes taken text old new (Err fault) =
    WentOut text (taken old.sink.now) (taken new.sink.now) old.went fault.went × (new.went ≡ fault.went)

-- the lines of calls with their replies, as far as there are replies
abbrev pub lines_text : List Call → List Reply → List ℕ
lines_text calls [] = []
lines_text [] (reply ∷ replies) = []
lines_text (call ∷ calls) (reply ∷ replies) = point_text (call, reply) ++ lines_text calls replies

-- the sections of mutators from a number on
abbrev pub sections_text : ℕ → List (List Call) → List (List Reply) → List ℕ
sections_text m programs [] = []
sections_text m [] (replies ∷ lists) = []
sections_text m (calls ∷ programs) (replies ∷ lists) =
    mutator_line m ++ lines_text calls replies ++ sections_text (m + 1) programs lists

-- each list of replies has a program of at least as many calls
abbrev pub FitPrograms : List (List Call) → List (List Reply) → Type 0
FitPrograms programs lists = (m : ℕ) → m < length lists
    → length (slice_index_or lists m []) ≤ length (slice_index_or programs m [])
