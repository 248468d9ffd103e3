-- What each machine of gates makes in a whole run: its acts, with the words that they find.
use Rattle.std.specs.Prelude.{ℕ, false, true, ◌≡◌, ◌<◌, List, [], ◌∷◌, ◌++◌, map}
use Rattle.std.specs.List.{All}
use Rattle.mako_words.specs.Gates.{count_of, is_shut}
use Rattle.mako_words.specs.Words.{all_but}
use Rattle.mako_step.specs.Trails.{Observation, Goes}
use Rattle.mako_step.specs.declared.act.Op.{Op}
use Rattle.mako_step.specs.declared.act.Op.TheVariants.{Load, Add, Sub, Or, And}
use Rattle.mako_gate.specs.Bits.{shut_bit}
use Rattle.mako_gate.specs.Arriving.{Arrival}
use Rattle.mako_gate.specs.Arriving as arriving
use Rattle.mako_gate.specs.Leaving.{Departure}
use Rattle.mako_gate.specs.Leaving as leaving
use Rattle.mako_gate.specs.Reopening.{Reopening}
use Rattle.mako_gate.specs.Reopening as reopening
use Rattle.mako_gate.specs.Shutting.{Shutdown}
use Rattle.mako_gate.specs.Shutting as shutting
use Rattle.mako_gate.specs.declared.arrive.Arrived.{Arrived}
use Rattle.mako_gate.specs.declared.arrive.Arrived.TheVariants.{Inside, Refused}
use Rattle.mako_gate.specs.declared.arrive.ArriveStage.TheVariants as arrive_stages
use Rattle.mako_gate.specs.declared.leave.LeaveStage.TheVariants as leave_stages
use Rattle.mako_gate.specs.declared.reopen.ReopenStage.TheVariants as reopen_stages
use Rattle.mako_gate.specs.declared.shutter.ShutStage.TheVariants as shut_stages

-- the operation on this word found that
abbrev pub sees : ℕ → Op → ℕ → Observation
sees word op found = record { act = record { word = word; op = op }; found = found }

-- an arrival found the shut bit clear; or it found it set, and was taken back
abbrev pub ArrivedBy : ℕ → List Observation → Arrived → Type 0
ArrivedBy word trail Inside = (w : ℕ) × (is_shut w ≡ false) × (trail ≡ sees word (Add 1) w ∷ [])
ArrivedBy word trail (Refused w) = (v : ℕ) × (is_shut w ≡ true) ×
    (trail ≡ sees word (Add 1) w ∷ sees word (Sub 1) v ∷ [])

-- the shut bit was set, and of the looks behind it the last alone counted nobody
pub record ShutBy (word : ℕ) (trail : List Observation) : Type 0 where
  pub before : ℕ
  pub looks : List ℕ
  pub last : ℕ
  pub made : trail ≡ sees word (Or shut_bit) before ∷ (map (sees word Load) looks ++ sees word Load last ∷ [])
  pub counted : All (λ w. 0 < count_of w) looks
  pub empty : count_of last ≡ 0

-- each machine at its beginning
abbrev pub begin_arrival : ℕ → Arrival
begin_arrival word = record { word = word; stage = arrive_stages.Arriving }

abbrev pub begin_departure : ℕ → Departure
begin_departure word = record { word = word; stage = leave_stages.Leaving }

abbrev pub begin_shutdown : ℕ → Shutdown
begin_shutdown word = record { word = word; stage = shut_stages.Shutting }

abbrev pub begin_reopening : ℕ → Reopening
begin_reopening word = record { word = word; stage = reopen_stages.Clearing }

-- the runs of an arrival
abbrev pub ArrivalsRun : Type 0
ArrivalsRun = (word : ℕ) (trail : List Observation) (after : Arrival) (arrived : Arrived) →
    Goes arriving.next_of arriving.Fits arriving.fed (begin_arrival word) trail after →
    after.stage ≡ arrive_stages.Ended arrived → ArrivedBy word trail arrived

-- the runs of a departure: one subtraction
abbrev pub DeparturesRun : Type 0
DeparturesRun = (word : ℕ) (trail : List Observation) (after : Departure) →
    Goes leaving.next_of leaving.Fits leaving.fed (begin_departure word) trail after →
    after.stage ≡ leave_stages.Ended → (w : ℕ) × (trail ≡ sees word (Sub 1) w ∷ [])

-- the runs of a shutting
abbrev pub ShutdownsRun : Type 0
ShutdownsRun = (word : ℕ) (trail : List Observation) (after : Shutdown) →
    Goes shutting.next_of shutting.Fits shutting.fed (begin_shutdown word) trail after →
    after.stage ≡ shut_stages.Ended → ShutBy word trail

-- the runs of a reopening: one clearing of the shut bit
abbrev pub ReopeningsRun : Type 0
ReopeningsRun = (word : ℕ) (trail : List Observation) (after : Reopening) →
    Goes reopening.next_of reopening.Fits reopening.fed (begin_reopening word) trail after →
    after.stage ≡ reopen_stages.Ended → (w : ℕ) × (trail ≡ sees word (And (all_but shut_bit)) w ∷ [])
