-- The collector before its first step.
use Rattle.std.specs.Prelude.{ℕ, zero, suc, Bool, true, false, ◌+◌, ◌*◌, ◌%◌, nat_lt, if◌then◌else◌, List, [], ◌∷◌}
use Rattle.std.specs.Prelude.{◌++◌, replicate}
use Rattle.std.specs.List.{count_by, sum_by}
use Rattle.mako_shape.specs.declared.numbers.Numbers.{Numbers}
use Rattle.mako_model.specs.declared.call.Call.{Call}
use Rattle.mako_model.specs.declared.call.Call.TheVariants.{New, Num, CopyRoot, DropRoot, Get, Put, Show, Collect}
use Rattle.mako_script.specs.Programs.{ProgramView}
use Rattle.mako_script.specs.Scripts.{ScriptView}
use Rattle.mako_ring.specs.Tracing.{no_window}
use Rattle.mako_poll.specs.declared.poller.PollStage.TheVariants.{Asking}
use Rattle.mako_pause.specs.Collecting.{Holdings, Collecting, at}
use Rattle.mako_pause.specs.declared.regions.Role.{Role}
use Rattle.mako_pause.specs.declared.regions.Role.TheVariants.{Home, Spare}
use Rattle.mako_pause.specs.declared.stage.IdleStage.TheVariants.{LoadingDemand}
use Rattle.mako_pause.specs.declared.stage.CollectStage.TheVariants.{Idle}

-- of a server's regions the first are homes, one for each tablet, and the others spare
abbrev pub opening_role : Numbers → ℕ → Role
opening_role n region = if nat_lt (region % (n.tablets + n.spare)) n.tablets then Home else Spare 0

-- the roles of the first so many regions
unfoldable pub opening_roles : Numbers → ℕ → List Role
opening_roles n zero = []
opening_roles n (suc region) = opening_roles n region ++ opening_role n region ∷ []

-- a call that may make an object
abbrev pub is_new : Call → Bool
is_new (New root fields) = true
is_new (Num root number) = false
is_new (CopyRoot to from) = false
is_new (DropRoot root) = false
is_new (Get to from field) = false
is_new (Put to field from) = false
is_new (Show root) = false
is_new Collect = false

abbrev pub news_of : ProgramView → ℕ
news_of p = count_by is_new p.calls

-- as many names may be freed as there are such calls, and the board's
abbrev pub names_of_all : List ProgramView → ℕ
names_of_all programs = sum_by news_of programs + 1

-- nothing of anything, with room for the names and cycles of a run
abbrev pub new_holdings : Numbers → ℕ → Holdings
new_holdings n names = record {
  shape = n;
  cycle = 0;
  gates_shut = false;
  pending = [];
  windows = replicate n.servers no_window;
  barrier_at = replicate n.mutators 0;
  notice_at = replicate n.servers 0;
  poll = record { shape = n; stage = Asking 0 };
  used = [];
  chosen = [];
  roles = opening_roles n (n.servers * (n.tablets + n.spare));
  freed = [];
  cycles = record { lists = []; names_room = names; cycles_room = n.cycles };
}

abbrev pub opening : ScriptView → Collecting
opening s = at (new_holdings s.numbers (names_of_all s.programs)) (Idle LoadingDemand)
