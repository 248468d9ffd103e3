-- What a trial is about.
use Rattle.std.specs.Prelude.{ℕ, List, ◌≡◌, ◌<◌, ◌-◌, ◌⊎◌, slice_get, Some}
use Rattle.mako_words.specs.declared.name.Name.{Name}
use Rattle.mako_model.specs.declared.point.Point.{Point}
use Rattle.mako_model.specs.declared.call.Call.{Call}
use Rattle.mako_model.specs.Fronts.{Seen, calls_by}
use Rattle.mako_model.specs.Legal.{Facts}
use Rattle.mako_model.specs.Dead.{IsDead}
use Rattle.mako_model.specs.Starved.{IsTabletFull}
use Rattle.mako_judge.specs.declared.trial.Trial.{Trial}
use Rattle.mako_judge.specs.Deaths.{lists_in, AreDeaths}
use Rattle.mako_judge.specs.Setups.{script_of, front_of}

-- the script
abbrev pub script : Trial → Facts
script t = script_of t.setup.now

-- the front
abbrev pub front : Trial → Seen
front t = front_of t.points.now t.cycles.now.lists

-- the lists are those of the dead names of its history
abbrev pub IsFair : Trial → Type 0
IsFair t = AreDeaths (script t) t.points.now (lists_in t.deaths.now)

-- dead in the cycle, and not in the one before
abbrev pub DiedIn : Facts → List Point → ℕ → Name → Type 0
DiedIn w history cycle name = IsDead w history cycle name × ¬ IsDead w history (cycle - 1) name

-- no tablet has room for so many fields
abbrev pub AreTabletsFull : Facts → Seen → List Point → ℕ → ℕ → Type 0
AreTabletsFull w front before cycle fields = (tablet : ℕ) → tablet < w.tablets
    → IsTabletFull w front before cycle fields tablet

-- the name is one of the entry that is not dead in the cycle, or the last that it can have
abbrev pub Blocks : Facts → List Point → ℕ → ℕ → Name → Type 0
Blocks w history cycle entry name = (name.entry ≡ entry)
    × ((name.generation ≡ w.generations - 1) ⊎ (¬ IsDead w history cycle name))

-- the calls of each mutator are its program
abbrev pub IsToEnd : Facts → List Point → Type 0
IsToEnd w history = (mutator : ℕ) (program : List Call) → slice_get w.programs mutator ≡ Some program
    → calls_by mutator history ≡ program
