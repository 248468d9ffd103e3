-- The stages of a new.
use Rattle.std.specs.Prelude.{◌≡◌, ℕ, ◌+◌, ◌*◌, ◌<◌, ◌≤◌}
use Rattle.mako_words.specs.Names.{FitsName}
use Rattle.mako_words.specs.Phases.{IsPackedPhase, phase_at, cycle_of}
use Rattle.mako_words.specs.Values.{value_word}
use Rattle.mako_words.specs.declared.value.Value.TheVariants.{Ref}
use Rattle.mako_shape.specs.declared.numbers.Numbers.{Numbers}
use Rattle.mako_shape.specs.Places.{index, phase, turn}
use Rattle.mako_step.specs.Acts.{does}
use Rattle.mako_step.specs.declared.act.Op.TheVariants.{Load, Store}
use Rattle.mako_step.specs.declared.step.Step.{Step}
use Rattle.mako_alloc.specs.Allocating as allocating
use Rattle.mako_alloc.specs.Allocating.{Allocation}
use Rattle.mako_alloc.specs.declared.found.Found.{Found}
use Rattle.mako_alloc.specs.declared.found.Found.TheVariants.{Made, Full, Pause}
use Rattle.mako_alloc.specs.declared.progress.NewStage.{NewStage}
use Rattle.mako_alloc.specs.declared.progress.NewStage.TheVariants.{Arriving, TurnedAway, TakingTurn, LoadingLeaving}
use Rattle.mako_alloc.specs.declared.progress.NewStage.TheVariants.{LoadingTop, LoadingEntry, LoadingHome, Making}
use Rattle.mako_alloc.specs.declared.progress.NewStage.TheVariants.{GivingTurn as PassingTurn, Leaving, Ended}
use Rattle.mako_model.specs.declared.reply.Reply.TheVariants.{Made as MadeReply}
use Rattle.mako_model.specs.declared.attempt.Attempt.TheVariants.{Full as NoRoom, Pause as Paused}
use Rattle.mako_call.specs.declared.caller.Caller.{Caller}
use Rattle.mako_call.specs.declared.call_stage.CallStage.{CallStage}
use Rattle.mako_call.specs.declared.call_stage.CallStage.TheVariants.{Allocating}
use Rattle.mako_call.specs.declared.allocating.AllocStage.{AllocStage}
use Rattle.mako_call.specs.declared.allocating.AllocStage.TheVariants.{LoadingPhase, Searching, StoringRoot, GivingTurn}
use Rattle.mako_call.specs.Leaving.{leaving, answered_at}
use Rattle.mako_call.specs.Rooting.{own_root}

-- load phase; over the tablets, up to the store of the entry; store root; store turn 0
abbrev pub new_next : Caller → AllocStage → Step
new_next k (LoadingPhase root fields) = does (index k.shape phase) Load
new_next k (Searching root search) = allocating.next_of search
new_next k (StoringRoot root name tablet) = does (own_root k root) (Store (value_word (Ref name)))
new_next k (GivingTurn name tablet) = does (index k.shape (turn tablet)) (Store 0)

-- the search for a tablet, at its start
abbrev pub opening_search : Caller → ℕ → ℕ → Allocation
opening_search k fields cycle =
    allocating.opening (record { shape = k.shape; mutator = k.mutator; fields = fields; cycle = cycle })

-- the object is made, or the attempt comes to an end without it
abbrev pub found_fed : ℕ → Found → CallStage
found_fed root (Made name tablet) = Allocating (StoringRoot root name tablet)
found_fed root Full = leaving NoRoom
found_fed root (Pause pause) = leaving (Paused pause)

-- on with the search, or to what it found
abbrev pub search_fed : ℕ → Allocation → NewStage → CallStage
search_fed root search Arriving = Allocating (Searching root search)
search_fed root search TurnedAway = Allocating (Searching root search)
search_fed root search TakingTurn = Allocating (Searching root search)
search_fed root search LoadingLeaving = Allocating (Searching root search)
search_fed root search LoadingTop = Allocating (Searching root search)
search_fed root search (LoadingEntry kept place) = Allocating (Searching root search)
search_fed root search (LoadingHome kept name) = Allocating (Searching root search)
search_fed root search (Making made part) = Allocating (Searching root search)
search_fed root search PassingTurn = Allocating (Searching root search)
search_fed root search Leaving = Allocating (Searching root search)
search_fed root search (Ended found) = found_fed root found

abbrev pub new_fed : Caller → AllocStage → ℕ → CallStage
new_fed k (LoadingPhase root fields) w = Allocating (Searching root (opening_search k fields (cycle_of (phase_at w))))
new_fed k (Searching root search) w = let after = allocating.fed search w in search_fed root after after.progress.stage
new_fed k (StoringRoot root name tablet) w = Allocating (GivingTurn name tablet)
new_fed k (GivingTurn name tablet) w = answered_at tablet (MadeReply name)

-- the word is that of a phase, whose cycle is one of the geometry
abbrev pub NewFits : Numbers → AllocStage → ℕ → Type 0
NewFits n (LoadingPhase root fields) w = IsPackedPhase w × (cycle_of (phase_at w) ≤ n.cycles)
NewFits n (Searching root search) w = allocating.Fits search w
NewFits n (StoringRoot root name tablet) w = Unit {0}
NewFits n (GivingTurn name tablet) w = Unit {0}

-- the most steps of a search
abbrev pub search_bound : Numbers → ℕ
search_bound n = n.servers * n.tablets * (n.entries + 6) + 20

-- the most steps that are left
abbrev pub new_rank : Numbers → AllocStage → ℕ
new_rank n (LoadingPhase root fields) = search_bound n + 5
new_rank n (Searching root search) = allocating.rank search + 4
new_rank n (StoringRoot root name tablet) = 4
new_rank n (GivingTurn name tablet) = 3

-- a search that has not ended
abbrev pub SearchGoesOn : NewStage → Type 0
SearchGoesOn Arriving = Unit {0}
SearchGoesOn TurnedAway = Unit {0}
SearchGoesOn TakingTurn = Unit {0}
SearchGoesOn LoadingLeaving = Unit {0}
SearchGoesOn LoadingTop = Unit {0}
SearchGoesOn (LoadingEntry kept place) = Unit {0}
SearchGoesOn (LoadingHome kept name) = Unit {0}
SearchGoesOn (Making made part) = Unit {0}
SearchGoesOn PassingTurn = Unit {0}
SearchGoesOn Leaving = Unit {0}
SearchGoesOn (Ended found) = ⊥

abbrev pub NewIsKnown : Caller → AllocStage → Type 0
NewIsKnown k (LoadingPhase root fields) = (root < k.shape.roots) × (fields ≤ 14)
NewIsKnown k (Searching root search) = (root < k.shape.roots) × allocating.IsKnown search.job search.progress
    × SearchGoesOn search.progress.stage
    × (search.job.shape ≡ k.shape) × (search.job.mutator ≡ k.mutator)
NewIsKnown k (StoringRoot root name tablet) = (root < k.shape.roots) × FitsName name
    × (tablet < k.shape.servers * k.shape.tablets)
NewIsKnown k (GivingTurn name tablet) = tablet < k.shape.servers * k.shape.tablets
