-- The printed output of a run, and how much of it went out.
use Rattle.std.specs.Prelude.{◌≡◌, ℕ, ◌+◌, ◌-◌, ◌^◌, ◌<◌, min, Bool, if◌then◌else◌, List, [], ◌∷◌, ◌++◌, length, take}
use Rattle.std.specs.Prelude.{codes}
use Rattle.std.specs.List.{flat_map, range_with_len, enumerate_from}
use Rattle.std.specs.Fmt.{decimal}
use Rattle.std.specs.declared.option.Option.{Option}
use Rattle.std.specs.Io.KnownBytes.{Appends}
use Rattle.mako_words.specs.declared.name.Name.{Name}
use Rattle.mako_words.specs.Names.{name_text}
use Rattle.mako_words.specs.Values.{value_text}
use Rattle.mako_model.specs.declared.call.Call.{Call}
use Rattle.mako_model.specs.declared.reply.Reply.{Reply}
use Rattle.mako_model.specs.declared.reply.Reply.TheVariants.{Made, Full, Value, Done, NoRef, NoField, Cycle, Spent}
use Rattle.mako_model.specs.declared.point.Point.{Point}
use Rattle.mako_model.specs.Fronts.{Seen, answered_by}
use Rattle.mako_text.specs.Commands.{command_of, word_of}

-- a reply's text, behind a space, if it has one
abbrev pub reply_text : Reply → List ℕ
reply_text (Made name) = codes " " ++ name_text name
reply_text Full = codes " full"
reply_text (Value value) = codes " " ++ value_text value
reply_text Done = []
reply_text NoRef = codes " noref"
reply_text NoField = codes " nofield"
reply_text (Cycle cycle) = codes " " ++ decimal cycle
reply_text Spent = codes " spent"

-- the line of a call and its reply
abbrev pub point_text : Call × Reply → List ℕ
point_text p = word_of (command_of p.0) ++ reply_text p.1 ++ 10 ∷ []

-- the line that begins a mutator's section
abbrev pub mutator_line : ℕ → List ℕ
mutator_line m = codes "mutator " ++ decimal m ++ 10 ∷ []

-- its lines, with what the history answered it
abbrev pub mutator_text : List Point → ℕ → List ℕ
mutator_text history m = mutator_line m ++ flat_map point_text (answered_by m history)

-- a freed name, behind a space
abbrev pub freed_text : Name → List ℕ
freed_text name = codes " " ++ name_text name

-- the line of a finished cycle with its number
abbrev pub cycle_text : ℕ × List Name → List ℕ
cycle_text cycle = codes "cycle " ++ decimal cycle.0 ++ codes " freed" ++ flat_map freed_text cycle.1 ++ 10 ∷ []

abbrev pub last_line : Bool → List ℕ
last_line finished = if finished then codes "end\n" else codes "unfinished\n"

-- the output of so many mutators: their sections, the finished cycles, and the last line
abbrev pub output_text : ℕ → Seen → Bool → List ℕ
output_text mutators front finished =
    flat_map (mutator_text front.history) (range_with_len 0 mutators) ++ flat_map cycle_text
    (enumerate_from 1 front.finished) ++ last_line finished

-- only a prefix of the text went out; its bytes, behind so many others, are counted up to the last number
pub record WentOut (text : List ℕ) (old new : Option (List ℕ)) (before went : ℕ) : Type 0 where
  pub bytes : ℕ
  pub short : bytes < length text
  pub taken : Appends old new (take bytes text)
  pub counted : went ≡ min (before + bytes) (2 ^ 64 - 1)
