-- What a command comes to, from what was read, and what is told of it.
use Rattle.std.specs.Prelude.{ℕ, ◌≡◌, ◌≤◌, ◌<◌, ◌*◌, ◌⊎◌, Bool, true, false, List, [], length, take, map, codes, Some}
use Rattle.std.specs.Prelude.{IfSome}
use Rattle.std.specs.declared.option.Option.{Option}
use Rattle.std.specs.Io.KnownBytes.{Appends}
use Rattle.mako_io.specs.Streams.{TakesMore}
use Rattle.mako_core.specs.Endings.{AllAtEnd}
use Rattle.mako_model.specs.Answering.{Answers, AnswersToEnd}
use Rattle.mako_model.specs.Fronts.{Seen, FollowsPrograms}
use Rattle.mako_model.specs.Legal.{Facts}
use Rattle.mako_model.specs.Outcomes as outcomes
use Rattle.mako_script.specs.declared.fault.Kind.{Kind}
use Rattle.mako_script.specs.declared.fault.Kind.TheVariants.{Long}
use Rattle.mako_script.specs.Answers.{IsRefused}
use Rattle.mako_script.specs.FaultTexts.{fault_text}
use Rattle.mako_script.specs.Outputs.{output_text}
use Rattle.mako_script.specs.Scripts.{ScriptView}
use Rattle.mako_script.specs.Texts.{IsScript}
use Rattle.mako_script.specs.ScriptFacts.{facts_of}
use Rattle.mako_gen.specs.Workloads.{IsWorkload}
use Rattle.mako_replay.specs.Runs.{Going, after}
use Rattle.mako_replay.specs.declared.order.Order.{Order}
use Rattle.mako_replay.specs.declared.order.Order.TheVariants.{Seed}
use Rattle.mako_command.specs.CommandLines.{Says, SayNothing}
use Rattle.mako_cli.specs.Counts.{handled_text}
use Rattle.mako_cli.specs.Loads.{AreOfMutators, summary_text}
use Rattle.mako_command.specs.declared.line.CommandLine.{CommandLine}
use Rattle.mako_command.specs.declared.line.CommandLine.TheVariants.{Replay, Gen, Count, Load}
use Rattle.mako_cli.specs.declared.ended.Ended.{Ended}
use Rattle.mako_cli.specs.declared.settled.Settled.{Settled}
use Rattle.mako_cli.specs.declared.settled.Settled.TheVariants.{Replayed, Generated, Counted, Loaded, Usage, NoScript}
use Rattle.mako_cli.specs.declared.settled.Settled.TheVariants.{ReadFault, Memory}

-- the greatest number of bytes of a script
abbrev pub max_bytes : ℕ
max_bytes = 16777216

-- of a replay, by whether every mutator is at its end
abbrev pub replay_status : Bool → ℕ
replay_status true = 0
replay_status false = 6

-- the exit status, if all its text is written
abbrev pub status_of : Settled → ℕ
status_of (Replayed script replayed) = replay_status replayed.finished
status_of (Generated text) = 0
status_of (Counted pieces) = 0
status_of (Loaded number replayed) = replay_status replayed.finished
status_of Usage = 1
status_of (NoScript kind line) = 2
status_of ReadFault = 3
status_of Memory = 5

-- the text that is written
abbrev pub text_of : Settled → List ℕ
text_of (Replayed script replayed) = output_text (length script.programs) replayed.outcome.front replayed.finished
text_of (Generated text) = text.items
text_of (Counted pieces) = handled_text pieces
text_of (Loaded number replayed) = summary_text number replayed.outcome.front replayed.finished
text_of Usage = codes "usage\n"
text_of (NoScript kind line) = fault_text kind line
text_of ReadFault = codes "read fault\n"
text_of Memory = codes "memory\n"

-- the front of the run, empty where there was none
abbrev pub front_of : Settled → Seen
front_of (Replayed script replayed) = replayed.outcome.front
front_of (Generated text) = record { history = []; finished = [] }
front_of (Counted pieces) = record { history = []; finished = [] }
front_of (Loaded number replayed) = replayed.outcome.front
front_of Usage = record { history = []; finished = [] }
front_of (NoScript kind line) = record { history = []; finished = [] }
front_of ReadFault = record { history = []; finished = [] }
front_of Memory = record { history = []; finished = [] }

-- the bytes are all that the source had, where it tells them, and are not too many
pub record AreAllBytes (old new : Option (List ℕ)) (bytes : List ℕ) : Type 0 where
  pub few : length bytes ≤ max_bytes
  pub all : IfSome old (λ left. bytes ≡ left)
  pub ended : IfSome old (λ left. new ≡ Some [])

-- the bytes are those of the script
pub record IsRead (old new : Option (List ℕ)) (script : ScriptView) : Type 0 where
  pub bytes : List ℕ
  pub whole : AreAllBytes old new bytes
  pub spelled : IsScript bytes script

-- every mutator is at its end, or one is not, and all given steps were made
abbrev pub EndsAs : Bool → ScriptView → ℕ → Going → Type 0
EndsAs true script steps going = AllAtEnd script.numbers going.state.seats
EndsAs false script steps going = (¬ AllAtEnd script.numbers going.state.seats) × (going.made ≡ steps)

-- the front answers each call of the script, or answers it as far as it goes
abbrev pub AnswersAs : Bool → Facts → Seen → Type 0
AnswersAs true facts front = AnswersToEnd facts front
AnswersAs false facts front = Answers facts front

-- The front is that of the script's run in this order with at most so many steps, which ended so. It answers the
-- script.
pub record IsFrontOf (order : Order) (steps : ℕ) (script : ScriptView) (finished : Bool) (front : Seen) : Type 0 where
  pub run : front ≡ (after script order steps).state.front
  pub ending : EndsAs finished script steps (after script order steps)
  pub answers : AnswersAs finished (facts_of script) front

-- the bytes have this fault, or there are too many
pub record HasFault (old new : Option (List ℕ)) (kind : Kind) (line : ℕ) : Type 0 where
  pub bytes : List ℕ
  pub whole : AreAllBytes old new bytes
  pub refused : IsRefused bytes kind line

abbrev pub IsUnread : Option (List ℕ) → Option (List ℕ) → Kind → ℕ → Type 0
IsUnread old new kind line = (TakesMore max_bytes old new × (kind ≡ Long) × (line ≡ 0)) ⊎ HasFault old new kind line

-- What reading a source and carrying out its script come to: replayed where a script was read, no script with
-- the fault that the bytes have, a read fault only where the source's count of faults rose. Want of memory is free.
abbrev pub Settles : Order → ℕ → Option (List ℕ) → Option (List ℕ) → Type 0 → Settled → Type 0
Settles order steps old new rose (Replayed script replayed) =
    IsRead old new script × IsFrontOf order steps script replayed.finished replayed.outcome.front
Settles order steps old new rose (Generated text) = ⊥
Settles order steps old new rose (Counted pieces) = ⊥
Settles order steps old new rose (Loaded number replayed) = ⊥
Settles order steps old new rose Usage = ⊥
Settles order steps old new rose (NoScript kind line) = IsUnread old new kind line
Settles order steps old new rose ReadFault = rose
Settles order steps old new rose Memory = Unit {0}

-- the outcome of a run has the replies and the cycles of its front, a list of replies for each program, and the front
-- follows the programs
abbrev pub IsTellable : Settled → Type 0
IsTellable (Replayed script replayed) = outcomes.IsWhole replayed.outcome × outcomes.AreCyclesOfFront replayed.outcome
    × (length (outcomes.reply_lists replayed.outcome) ≡ length script.programs)
    × FollowsPrograms (map (λ p. p.calls) script.programs) replayed.outcome.front.history
IsTellable (Generated text) = Unit {0}
IsTellable (Counted pieces) = Unit {0}
IsTellable (Loaded number replayed) = outcomes.IsWhole replayed.outcome × outcomes.AreCyclesOfFront replayed.outcome
    × AreOfMutators (length (outcomes.reply_lists replayed.outcome)) replayed.outcome.front.history
IsTellable Usage = Unit {0}
IsTellable (NoScript kind line) = Unit {0}
IsTellable ReadFault = Unit {0}
IsTellable Memory = Unit {0}

-- only a prefix of the text went out, and the sink's count of faults rose
pub record IsCut (text : List ℕ) (old new : Option (List ℕ)) (rose : Type 0) : Type 0 where
  pub cause : rose
  pub went : ℕ
  pub short : went < length text
  pub taken : Appends old new (take went text)

-- the text went out whole with its status, or only a prefix of it with that of a write fault
abbrev pub IsWritten : List ℕ → ℕ → Option (List ℕ) → Option (List ℕ) → Type 0 → ℕ → Type 0
IsWritten text whole old new rose status =
    ((status ≡ whole) × Appends old new text) ⊎ ((status ≡ 4) × IsCut text old new rose)

-- the text of what a command came to was written, and its front is told
pub record IsTold (settled : Settled) (old new : Option (List ℕ)) (rose : Type 0) (ended : Ended) : Type 0 where
  pub written : IsWritten (text_of settled) (status_of settled) old new rose ended.status
  pub front_is : ended.front ≡ front_of settled

-- the text is that of the workload of a seed
pub record IsGenerated (seed size : ℕ) (text : List ℕ) : Type 0 where
  pub script : ScriptView
  pub made : IsWorkload seed size script
  pub spelled : IsScript text script

-- what generating a workload comes to; want of memory is free
abbrev pub Generates : ℕ → ℕ → Settled → Type 0
Generates seed size (Replayed script replayed) = ⊥
Generates seed size (Generated text) = IsGenerated seed size text.items
Generates seed size (Counted pieces) = ⊥
Generates seed size (Loaded number replayed) = ⊥
Generates seed size Usage = ⊥
Generates seed size (NoScript kind line) = ⊥
Generates seed size ReadFault = ⊥
Generates seed size Memory = Unit {0}

-- what counting the pieces of a ring of workers comes to; want of memory is free
abbrev pub Counts : ℕ → Settled → Type 0
Counts workers (Replayed script replayed) = ⊥
Counts workers (Generated text) = ⊥
Counts workers (Counted pieces) = pieces ≡ 16 * workers
Counts workers (Loaded number replayed) = ⊥
Counts workers Usage = ⊥
Counts workers (NoScript kind line) = ⊥
Counts workers ReadFault = ⊥
Counts workers Memory = Unit {0}

-- A workload that a number gives, with 500 commands drawn for each mutator, was replayed in the order of this number.
-- The
-- count of steps has a name, so that no proof counts them out.
pub record IsReplayOf (number : ℕ) (finished : Bool) (front : Seen) : Type 0 where
  pub script : ScriptView
  pub made : IsWorkload number 500 script
  pub steps : ℕ
  pub given : steps ≡ 100000000
  pub replayed : IsFrontOf (Seed number) steps script finished front

-- what replaying the workload of a number comes to; want of memory is free
abbrev pub Loads : ℕ → Settled → Type 0
Loads number (Replayed script replayed) = ⊥
Loads number (Generated text) = ⊥
Loads number (Counted pieces) = ⊥
Loads number (Loaded n replayed) = (n ≡ number) × IsReplayOf number replayed.finished replayed.outcome.front
Loads number Usage = ⊥
Loads number (NoScript kind line) = ⊥
Loads number ReadFault = ⊥
Loads number Memory = Unit {0}

-- what a command comes to
abbrev pub Does : CommandLine → Option (List ℕ) → Option (List ℕ) → Type 0 → Settled → Type 0
Does (Replay order steps) old new rose settled = Settles order steps old new rose settled
Does (Gen seed size) old new rose settled = Generates seed size settled
Does (Count workers) old new rose settled = Counts workers settled
Does (Load number) old new rose settled = Loads number settled

-- What the words come to: what their command does, or usage where they say none. Want of memory is free.
abbrev pub Commands : List (List ℕ) → Option (List ℕ) → Option (List ℕ) → Type 0 → Settled → Type 0
Commands words old new rose settled = ((line : CommandLine) × Says words line × Does line old new rose settled)
    ⊎ ((SayNothing words × (settled ≡ Usage)) ⊎ (settled ≡ Memory))

-- A script was read and replayed, to its end or not, and the output of this front was written.
pub record HasOutput (finished : Bool) (order : Order) (steps : ℕ) (old new taken_old taken_new : Option (List ℕ))
    (front : Seen) : Type 0 where
  pub script : ScriptView
  pub read : IsRead old new script
  pub replayed : IsFrontOf order steps script finished front
  pub written : Appends taken_old taken_new (output_text (length script.programs) front finished)

-- The workload was written, and no script was run.
pub record IsPrinted (seed size : ℕ) (taken_old taken_new : Option (List ℕ)) (front : Seen) : Type 0 where
  pub text : List ℕ
  pub generated : IsGenerated seed size text
  pub written : Appends taken_old taken_new text
  pub empty : front ≡ record { history = []; finished = [] }

-- The pieces were counted and told, 16 for each worker, and no script was run.
pub record IsHandled (workers : ℕ) (taken_old taken_new : Option (List ℕ)) (front : Seen) : Type 0 where
  pub written : Appends taken_old taken_new (handled_text (16 * workers))
  pub empty : front ≡ record { history = []; finished = [] }

-- The workload was replayed, to its end or not, and the summary of this front was written.
pub record IsLoaded (number : ℕ) (finished : Bool) (taken_old taken_new : Option (List ℕ)) (front : Seen) : Type 0 where
  pub run : IsReplayOf number finished front
  pub written : Appends taken_old taken_new (summary_text number front finished)

-- a command was done
abbrev pub IsDoneBy : CommandLine → Option (List ℕ) → Option (List ℕ) → Option (List ℕ) → Option (List ℕ) → Seen
    → Type 0
IsDoneBy (Replay order steps) old new taken_old taken_new front =
    HasOutput true order steps old new taken_old taken_new front
IsDoneBy (Gen seed size) old new taken_old taken_new front = IsPrinted seed size taken_old taken_new front
IsDoneBy (Count workers) old new taken_old taken_new front = IsHandled workers taken_old taken_new front
IsDoneBy (Load number) old new taken_old taken_new front = IsLoaded number true taken_old taken_new front

-- a command was left unfinished
abbrev pub IsLeftBy : CommandLine → Option (List ℕ) → Option (List ℕ) → Option (List ℕ) → Option (List ℕ) → Seen
    → Type 0
IsLeftBy (Replay order steps) old new taken_old taken_new front =
    HasOutput false order steps old new taken_old taken_new front
IsLeftBy (Gen seed size) old new taken_old taken_new front = ⊥
IsLeftBy (Count workers) old new taken_old taken_new front = ⊥
IsLeftBy (Load number) old new taken_old taken_new front = IsLoaded number false taken_old taken_new front

-- Too many bytes were read, or those of no script, and the line of their fault was written.
pub record IsToldUnread (old new taken_old taken_new : Option (List ℕ)) : Type 0 where
  pub kind : Kind
  pub line : ℕ
  pub unread : IsUnread old new kind line
  pub written : Appends taken_old taken_new (fault_text kind line)

-- How a replay ends where no stream fails: with its output, whole or unfinished, with the line of a fault, or with that
-- of
-- want of memory.
abbrev pub EndsReplay : Order → ℕ → Option (List ℕ) → Option (List ℕ) → Option (List ℕ) → Option (List ℕ) → Ended
    → Type 0
EndsReplay order steps old new taken_old taken_new ended =
    ((ended.status ≡ 0) × HasOutput true order steps old new taken_old taken_new ended.front)
    ⊎ (((ended.status ≡ 6) × HasOutput false order steps old new taken_old taken_new ended.front)
    ⊎ (((ended.status ≡ 2) × IsToldUnread old new taken_old taken_new)
    ⊎ ((ended.status ≡ 5) × Appends taken_old taken_new (codes "memory\n"))))

-- how the generation of a workload ends where no stream fails
abbrev pub EndsGen : ℕ → ℕ → Option (List ℕ) → Option (List ℕ) → Ended → Type 0
EndsGen seed size taken_old taken_new ended =
    ((ended.status ≡ 0) × IsPrinted seed size taken_old taken_new ended.front)
    ⊎ ((ended.status ≡ 5) × Appends taken_old taken_new (codes "memory\n"))

-- how a count ends where the sink does not fail
abbrev pub EndsCount : ℕ → Option (List ℕ) → Option (List ℕ) → Ended → Type 0
EndsCount workers taken_old taken_new ended =
    ((ended.status ≡ 0) × IsHandled workers taken_old taken_new ended.front)
    ⊎ ((ended.status ≡ 5) × Appends taken_old taken_new (codes "memory\n"))

-- how the replay of a workload ends where the sink does not fail
abbrev pub EndsLoad : ℕ → Option (List ℕ) → Option (List ℕ) → Ended → Type 0
EndsLoad number taken_old taken_new ended =
    ((ended.status ≡ 0) × IsLoaded number true taken_old taken_new ended.front)
    ⊎ (((ended.status ≡ 6) × IsLoaded number false taken_old taken_new ended.front)
    ⊎ ((ended.status ≡ 5) × Appends taken_old taken_new (codes "memory\n")))

-- how a command ends where no stream fails
abbrev pub EndsBy : CommandLine → Option (List ℕ) → Option (List ℕ) → Option (List ℕ) → Option (List ℕ) → Ended → Type 0
EndsBy (Replay order steps) old new taken_old taken_new ended = EndsReplay order steps old new taken_old taken_new ended
EndsBy (Gen seed size) old new taken_old taken_new ended = EndsGen seed size taken_old taken_new ended
EndsBy (Count workers) old new taken_old taken_new ended = EndsCount workers taken_old taken_new ended
EndsBy (Load number) old new taken_old taken_new ended = EndsLoad number taken_old taken_new ended

-- How a call of the program ends where no stream fails: as its command does, with the line of usage where the words say
-- none,
-- or with that of want of memory.
abbrev pub EndsWell : List (List ℕ) → Option (List ℕ) → Option (List ℕ) → Option (List ℕ) → Option (List ℕ) → Ended
    → Type 0
EndsWell words old new taken_old taken_new ended =
    ((line : CommandLine) × Says words line × EndsBy line old new taken_old taken_new ended)
    ⊎ ((SayNothing words × (ended.status ≡ 1) × Appends taken_old taken_new (codes "usage\n"))
    ⊎ ((ended.status ≡ 5) × Appends taken_old taken_new (codes "memory\n")))
