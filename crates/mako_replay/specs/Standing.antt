-- What the program keeps of a schedule and of its run.
use Rattle.std.specs.Prelude.{◌≡◌, ℕ, suc, ◌+◌, ◌<◌, ◌≤◌, ◌%◌, nat_le, nat_lt, if◌then◌else◌, List, [], ◌∷◌, length}
use Rattle.std.specs.Prelude.{slice_index}
use Rattle.rand_pcg.specs.Lcg.{Lcg}
use Rattle.rand_pcg.specs.Pcg.{pcg32}
use Rattle.mako_replay.specs.Schedules.{Left}
use Rattle.mako_replay.specs.Schedules.Left.{rounds, draws}
use Rattle.mako_replay.specs.Runs.{Going, live}
use Rattle.mako_replay.specs.declared.draws.Draws.{Draws}
use Rattle.mako_replay.specs.declared.running.Running.{Running}
use Rattle.mako_replay.specs.declared.schedule.Schedule.{Schedule}
use Rattle.mako_replay.specs.declared.schedule.Schedule.TheVariants as schedules

-- each of these numbers is above those before it, and the first is not below b
abbrev pub AscendsFrom : ℕ → List ℕ → Type 0
AscendsFrom b [] = Unit {0}
AscendsFrom b (x ∷ xs) = (b ≤ x) × AscendsFrom (x + 1) xs

abbrev pub IsAscending : List ℕ → Type 0
IsAscending xs = AscendsFrom 0 xs

-- the place of the first of these numbers that is not below i, and without such a number their count
abbrev pub place_from : ℕ → List ℕ → ℕ
place_from i [] = 0
place_from i (x ∷ xs) = if nat_le i x then 0 else suc (place_from i xs)

-- the next word of this generator is drawn ahead, and its place among so many
pub record IsAhead (d : Draws) (left : Lcg) (count : ℕ) : Type 0 where
  pub generator : d.generator ≡ (pcg32 left).1
  pub word : d.word ≡ (pcg32 left).0
  pub place : 0 < count → d.place ≡ d.word % count

-- a round is kept by the place of its seat among those that are not at their end, which are given; of a generator one
-- word is drawn ahead
abbrev pub StandsFor : Schedule → Left → List ℕ → Type 0
StandsFor (schedules.Turns place) (rounds i) live = place ≡ place_from i live
StandsFor (schedules.Turns place) (draws g) live = ⊥
StandsFor (schedules.Draws d) (rounds i) live = ⊥
StandsFor (schedules.Draws d) (draws g) live = IsAhead d g (length live)

-- a place that is drawn ahead is one among so many
abbrev pub IsDrawn : Schedule → ℕ → Type 0
IsDrawn (schedules.Turns place) count = Unit {0}
IsDrawn (schedules.Draws d) count = 0 < count → d.place < count

-- the place of the next seat, among so many
abbrev pub next_place : Schedule → ℕ → ℕ
next_place (schedules.Turns place) count = if nat_lt place count then place else 0
next_place (schedules.Draws d) count = d.place

-- its place is among those that are not at their end, and the seat there is looked up
pub record IsReady (r : Running) : Type 0 where
  pub drawn : IsDrawn r.schedule (length r.live.items)
  pub seat : 0 < length r.live.items → r.seat ≡ slice_index r.live.items (next_place r.schedule (length r.live.items))

-- the run has come so far
pub record HasCome (r : Running) (g : Going) : Type 0 where
  pub state : r.core.state ≡ g.state
  pub left : StandsFor r.schedule g.left (live g.state.seats)
  pub made : r.steps_made ≡ g.made
