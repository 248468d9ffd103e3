-- The commands of scripts: the one table of their words, their arguments and their calls.
use Rattle.std.specs.Prelude.{◌≡◌, ℕ, ◌<◌, Bool, true, false, List, [], ◌∷◌, length, slice_index, zip, codes}
use Rattle.mako_model.specs.declared.call.Call.{Call}
use Rattle.mako_model.specs.declared.call.Call.TheVariants as calls
use Rattle.mako_text.specs.declared.command.Command.{Command}
use Rattle.mako_text.specs.declared.command.Command.TheVariants.{New, Num, Copy, Drop, Get, Put, Show, Collect}
use Rattle.mako_text.specs.declared.command.Argument.{Argument}
use Rattle.mako_text.specs.declared.command.Argument.TheVariants.{Defined, Read, Number}

abbrev pub word_of : Command → List ℕ
word_of New = codes "new"
word_of Num = codes "num"
word_of Copy = codes "copy"
word_of Drop = codes "drop"
word_of Get = codes "get"
word_of Put = codes "put"
word_of Show = codes "show"
word_of Collect = codes "collect"

abbrev pub kinds_of : Command → List Argument
kinds_of New = Defined ∷ Number 14 ∷ []
kinds_of Num = Defined ∷ Number 4294967295 ∷ []
kinds_of Copy = Defined ∷ Read ∷ []
kinds_of Drop = Read ∷ []
kinds_of Get = Defined ∷ Read ∷ Number 13 ∷ []
kinds_of Put = Read ∷ Number 13 ∷ Read ∷ []
kinds_of Show = Read ∷ []
kinds_of Collect = []

abbrev pub begin_defined : List Argument → Bool
begin_defined (Defined ∷ kinds) = true
begin_defined _ = false

-- whether the first argument is a name that the command defines
abbrev pub defines : Command → Bool
defines command = begin_defined (kinds_of command)

-- the call of a command with these values of its arguments
abbrev pub call_of : Command → List ℕ → Call
call_of New v = calls.New (slice_index v 0) (slice_index v 1)
call_of Num v = calls.Num (slice_index v 0) (slice_index v 1)
call_of Copy v = calls.CopyRoot (slice_index v 0) (slice_index v 1)
call_of Drop v = calls.DropRoot (slice_index v 0)
call_of Get v = calls.Get (slice_index v 0) (slice_index v 1) (slice_index v 2)
call_of Put v = calls.Put (slice_index v 0) (slice_index v 1) (slice_index v 2)
call_of Show v = calls.Show (slice_index v 0)
call_of Collect v = calls.Collect

-- the values are enough for the call, and those that become bytes are bytes
abbrev pub FitCall : Command → List ℕ → Type 0
FitCall New v = (length v ≡ 2) × (slice_index v 0 < 256) × (slice_index v 1 < 256)
FitCall Num v = (length v ≡ 2) × (slice_index v 0 < 256)
FitCall Copy v = (length v ≡ 2) × (slice_index v 0 < 256) × (slice_index v 1 < 256)
FitCall Drop v = (length v ≡ 1) × (slice_index v 0 < 256)
FitCall Get v = (length v ≡ 3) × (slice_index v 0 < 256) × (slice_index v 1 < 256) × (slice_index v 2 < 256)
FitCall Put v = (length v ≡ 3) × (slice_index v 0 < 256) × (slice_index v 1 < 256) × (slice_index v 2 < 256)
FitCall Show v = (length v ≡ 1) × (slice_index v 0 < 256)
FitCall Collect v = Unit {0}

-- the way back: the command of a call, and the values of its arguments
abbrev pub command_of : Call → Command
command_of (calls.New root fields) = New
command_of (calls.Num root value) = Num
command_of (calls.CopyRoot to from) = Copy
command_of (calls.DropRoot root) = Drop
command_of (calls.Get to from field) = Get
command_of (calls.Put to field from) = Put
command_of (calls.Show root) = Show
command_of calls.Collect = Collect

abbrev pub values_of : Call → List ℕ
values_of (calls.New root fields) = root ∷ fields ∷ []
values_of (calls.Num root value) = root ∷ value ∷ []
values_of (calls.CopyRoot to from) = to ∷ from ∷ []
values_of (calls.DropRoot root) = root ∷ []
values_of (calls.Get to from field) = to ∷ from ∷ field ∷ []
values_of (calls.Put to field from) = to ∷ field ∷ from ∷ []
values_of (calls.Show root) = root ∷ []
values_of calls.Collect = []

-- the arguments of a call, each with its value
abbrev pub arguments_of : Call → List (Argument × ℕ)
arguments_of call = zip (kinds_of (command_of call)) (values_of call)
