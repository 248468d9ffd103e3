-- Where a `new` stands at the tablets' gates, and what its trail shows of that.
use Rattle.std.specs.Prelude.{◌≡◌, ℕ, ◌+◌, ◌<◌, ◌==◌, ◌&&◌, Bool, false, List}
use Rattle.std.specs.List.{count_by}
use Rattle.mako_shape.specs.declared.numbers.Numbers.{Numbers}
use Rattle.mako_shape.specs.Places.{index, tablet_gate, turn}
use Rattle.mako_gate.specs.Standings.{Standing, inside, turned_away, at_tablet, with_turn, arrived, holds_turn}
use Rattle.mako_step.specs.declared.act.Op.{Op}
use Rattle.mako_step.specs.declared.act.Op.TheVariants.{Add, Sub, Store, Exchange}
use Rattle.mako_step.specs.Trails.{Observation, Goes}
use Rattle.mako_alloc.specs.declared.found.Found.{Found}
use Rattle.mako_alloc.specs.declared.found.Found.TheVariants.{Made}
use Rattle.mako_alloc.specs.declared.job.Job.{Job}
use Rattle.mako_alloc.specs.declared.progress.NewStage.{NewStage}
use Rattle.mako_alloc.specs.declared.progress.NewStage.TheVariants.{Arriving, TurnedAway, TakingTurn, LoadingLeaving}
use Rattle.mako_alloc.specs.declared.progress.NewStage.TheVariants.{LoadingTop, LoadingEntry, LoadingHome, Making}
use Rattle.mako_alloc.specs.declared.progress.NewStage.TheVariants.{GivingTurn, Leaving, Ended}
use Rattle.mako_alloc.specs.Allocating.{Allocation, IsJob, Fits, all_tablets, tablet_at, fed, next_of, opening}

abbrev pub end_standing : Found → Standing
end_standing (Made name t) = with_turn t
end_standing _ = inside

abbrev pub stage_standing : ℕ → NewStage → Standing
stage_standing t Arriving = inside
stage_standing t TurnedAway = turned_away t
stage_standing t TakingTurn = at_tablet t
stage_standing t LoadingLeaving = with_turn t
stage_standing t LoadingTop = with_turn t
stage_standing t (LoadingEntry kept place) = with_turn t
stage_standing t (LoadingHome kept name) = with_turn t
stage_standing t (Making made part) = with_turn t
stage_standing t GivingTurn = with_turn t
stage_standing t Leaving = at_tablet t
stage_standing t (Ended found) = end_standing found

-- where it stands
abbrev pub standing_of : Allocation → Standing
standing_of a = stage_standing (tablet_at a.job a.progress.passed) a.progress.stage

-- the observation is an arrival at this word, a leave, a turn taken, or a turn given
abbrev pub arrives_at : ℕ → Op → ℕ → Bool
arrives_at gate (Add x) word = word == gate
arrives_at gate _ word = false

abbrev pub leaves_from : ℕ → Op → ℕ → Bool
leaves_from gate (Sub x) word = word == gate
leaves_from gate _ word = false

abbrev pub takes_turn : ℕ → Op → ℕ → ℕ → Bool
takes_turn turn_word (Exchange expect new) word found = (found == expect) && (word == turn_word)
takes_turn turn_word _ word found = false

abbrev pub gives_turn : ℕ → Op → ℕ → Bool
gives_turn turn_word (Store x) word = word == turn_word
gives_turn turn_word _ word = false

-- how many of them are in the trail, by tablet
abbrev pub arrivals : Numbers → ℕ → List Observation → ℕ
arrivals n t trail = count_by (λ o. arrives_at (index n (tablet_gate t)) o.act.op o.act.word) trail

abbrev pub leaves : Numbers → ℕ → List Observation → ℕ
leaves n t trail = count_by (λ o. leaves_from (index n (tablet_gate t)) o.act.op o.act.word) trail

abbrev pub turns_taken : Numbers → ℕ → List Observation → ℕ
turns_taken n t trail = count_by (λ o. takes_turn (index n (turn t)) o.act.op o.act.word o.found) trail

abbrev pub turns_given : Numbers → ℕ → List Observation → ℕ
turns_given n t trail = count_by (λ o. gives_turn (index n (turn t)) o.act.op o.act.word) trail

-- each arrival was taken back and each turn given back, but for those that it stands with
pub record StandsBy (n : Numbers) (trail : List Observation) (s : Standing) : Type 0 where
  pub gates : (t : ℕ) → t < all_tablets n → arrivals n t trail ≡ leaves n t trail + arrived t s
  pub turns : (t : ℕ) → t < all_tablets n → turns_taken n t trail ≡ turns_given n t trail + holds_turn t s

-- a `new` stands as its trail shows, at every moment
abbrev pub StandsAsShown : Type 0
StandsAsShown = (job : Job) (trail : List Observation) (l : Allocation) → IsJob job →
    Goes next_of Fits fed (opening job) trail l → StandsBy job.shape trail (standing_of l)

-- once it has ended it stands with the turn of the tablet in which it made an object, and else at no tablet
abbrev pub EndsAsShown : Type 0
EndsAsShown = (l : Allocation) (found : Found) → l.progress.stage ≡ Ended found → standing_of l ≡ end_standing found
