-- The machine that polls for completion.
use Rattle.std.specs.Prelude.{◌≡◌, ◌≢◌, ◌↔◌, ◌⊎◌, zero, suc, true, false, List, [], ◌∷◌, ◌++◌, ℕ, Bool, ◌+◌, ◌-◌, ◌*◌}
use Rattle.std.specs.Prelude.{◌<◌, ◌==◌, ◌||◌, if◌then◌else◌}
use Rattle.mako_words.specs.Flags.{flag_at, IsPackedFlags}
use Rattle.mako_words.specs.Words.{all_but}
use Rattle.mako_shape.specs.declared.numbers.Numbers.{Numbers}
use Rattle.mako_shape.specs.Places.{flags, index}
use Rattle.mako_step.specs.Acts.{does}
use Rattle.mako_step.specs.Trails.{Observation, Goes}
use Rattle.mako_step.specs.declared.act.Op.TheVariants.{Load, And}
use Rattle.mako_step.specs.declared.step.Step.{Step}
use Rattle.mako_step.specs.declared.step.Step.TheVariants.{Ended as NoStep}
use Rattle.mako_ring.specs.FlagBits.{changed_bit}
use Rattle.mako_poll.specs.declared.poller.Polled.TheVariants.{Told, NotYet}
use Rattle.mako_poll.specs.declared.poller.PollStage.{PollStage}
use Rattle.mako_poll.specs.declared.poller.PollStage.TheVariants.{Asking, Reading, Ended}

-- the geometry, and the stage
pub record PollView : Type 0 where
  pub shape : Numbers
  pub stage : PollStage

abbrev pub stage_next : Numbers → PollStage → Step
stage_next n (Asking server) = does (index n (flags server)) (And (all_but changed_bit))
stage_next n (Reading server) = does (index n (flags server)) Load
stage_next n (Ended polled) = NoStep

abbrev pub next_of : PollView → Step
next_of p = stage_next p.shape p.stage

-- whether flags of this word have busy or ghost
abbrev pub has_work : ℕ → Bool
has_work w = (flag_at w).busy || (flag_at w).ghost_

-- pass 1, past the servers below this one: past all of them pass 2 begins
abbrev pub asking_from : Numbers → ℕ → PollStage
asking_from n server = if server == n.servers then Reading 0 else Asking server

-- pass 2, past the servers below this one: past all of them completion is told
abbrev pub reading_from : Numbers → ℕ → PollStage
reading_from n server = if server == n.servers then Ended Told else Reading server

abbrev pub stage_fed : Numbers → PollStage → ℕ → PollStage
stage_fed n (Asking server) w = if has_work w then Ended (NotYet server w) else asking_from n (server + 1)
stage_fed n (Reading server) w = if w == 0 then reading_from n (server + 1) else Ended (NotYet server w)
stage_fed n (Ended polled) w = Ended polled

abbrev pub fed : PollView → ℕ → PollView
fed p w = record p { stage = stage_fed p.shape p.stage w }

abbrev pub StageFits : PollStage → ℕ → Type 0
StageFits (Asking server) w = IsPackedFlags w
StageFits (Reading server) w = IsPackedFlags w
StageFits (Ended polled) w = Unit {0}

abbrev pub Fits : PollView → ℕ → Type 0
Fits p w = StageFits p.stage w

abbrev pub stage_rank : Numbers → PollStage → ℕ
stage_rank n (Asking server) = 2 * n.servers - server
stage_rank n (Reading server) = n.servers - server
stage_rank n (Ended polled) = 0

abbrev pub rank : PollView → ℕ
rank p = stage_rank p.shape p.stage

-- the server that is asked or read is in range
abbrev pub IsKnown : Numbers → PollStage → Type 0
IsKnown n (Asking server) = server < n.servers
IsKnown n (Reading server) = server < n.servers
IsKnown n (Ended polled) = Unit {0}

-- ---- its answers
-- an act of pass 1 and one of pass 2, with the word found
abbrev pub asked : Numbers → ℕ → ℕ → Observation
asked n server w = record { act = record { word = index n (flags server); op = And (all_but changed_bit) }; found = w }

abbrev pub read : Numbers → ℕ → ℕ → Observation
read n server w = record { act = record { word = index n (flags server); op = Load }; found = w }

-- the trail asks the servers below this one, and finds each without busy and ghost
abbrev pub FoundClean : Numbers → ℕ → List Observation → Type 0
FoundClean n zero trail = trail ≡ []
FoundClean n (suc k) trail = (before : List Observation)
    × ((w : ℕ) × (FoundClean n k before × (has_work w ≡ false) × (trail ≡ before ++ asked n k w ∷ [])))

-- past pass 1, the trail reads the servers below this one, and finds the flags of each to be 0
abbrev pub FoundZero : Numbers → ℕ → List Observation → Type 0
FoundZero n zero trail = FoundClean n n.servers trail
FoundZero n (suc k) trail = (before : List Observation) × (FoundZero n k before × (trail ≡ before ++ read n k 0 ∷ []))

-- the last act of the trail is one of pass 1 that found busy or ghost, or one of pass 2 that found a word other than 0
abbrev pub FoundWork : Numbers → ℕ → ℕ → List Observation → Type 0
FoundWork n k w trail = (before : List Observation)
    × ((FoundClean n k before × (has_work w ≡ true) × (trail ≡ before ++ asked n k w ∷ []))
    ⊎ (FoundZero n k before × (w ≢ 0) × (trail ≡ before ++ read n k w ∷ [])))

-- What a poll that begins comes to: `Told` exactly where pass 1 found no server with busy or ghost and pass 2 found all
-- flags 0, and `NotYet` exactly where a pass found otherwise, with the server and the word.
pub record PollsAnswer : Type 0 where
  pub told : (p l : PollView) (trail : List Observation) → 0 < p.shape.servers → p.stage ≡ Asking 0
      → Goes next_of Fits fed p trail l → (l.stage ≡ Ended Told) ↔ FoundZero p.shape p.shape.servers trail
  pub not_yet : (p l : PollView) (trail : List Observation) (k w : ℕ) → 0 < p.shape.servers → p.stage ≡ Asking 0
      → Goes next_of Fits fed p trail l
      → (l.stage ≡ Ended (NotYet k w)) ↔ ((k < p.shape.servers) × FoundWork p.shape k w trail)
