-- What the collector has to keep of homes, so that a tablet whose home is loaded gets a region.
use Rattle.std.specs.Prelude.{ℕ, ◌≡◌, ◌*◌, ◌<◌, List}
use Rattle.mako_shape.specs.Limits.{IsShape}
use Rattle.mako_shape.specs.Places.{home, word_at}
use Rattle.mako_shape.specs.declared.numbers.Numbers.{Numbers}
use Rattle.mako_step.specs.Acts.{finds}
use Rattle.mako_step.specs.Trails.{Observation, Goes}
use Rattle.mako_script.specs.Scripts.{ScriptView}
use Rattle.mako_model.specs.Legal.{Facts}
use Rattle.mako_joint.specs.Joints.{JointScene}
use Rattle.mako_pause.specs.Collecting.{Collecting, Holdings, at, next_of, Fits}
use Rattle.mako_cycles.specs.Housing.{housed_next, HousedFits, housed_fed, housed_opening}
use Rattle.mako_pause.specs.declared.stage.ChoiceStage.{ChoiceStage}
use Rattle.mako_pause.specs.declared.stage.CollectStage.TheVariants.{Choosing}
use Rattle.mako_collecting.specs.Laws.{Stands}
use Rattle.mako_collecting.specs.Roles.{HasSpare}
use Rattle.mako_collecting.specs.Steps.{words_next, collector_next}
use Rattle.mako_sitting_collector.specs.CollectorChoices.{IsOfChoice}

-- it went from its opening to where it is, and found each home as it stored it; so the home words are
pub record IsHoused (n : Numbers) (words : List ℕ) (c : Collecting) : Type 0 where
  pub script : ScriptView
  pub shape : IsShape script.numbers
  pub trail : List Observation
  pub homes : ℕ → ℕ
  pub given : List ℕ
  pub goes : Goes housed_next HousedFits housed_fed (housed_opening script) trail
      (record { collector = c; homes = homes; given = given })
  pub stored : (t : ℕ) → t < n.servers * n.tablets → homes t ≡ word_at n words (home t)

-- then the server of a tablet whose home is loaded has a spare region
abbrev pub HousedHaveSpares : Type 0
HousedHaveSpares = (n : Numbers) (words : List ℕ) (k : Holdings) (stage : ChoiceStage)
    → IsHoused n words (at k (Choosing stage)) → HasSpare k stage

-- and it stays so past each step of the choice up to the store of Evac
abbrev pub ChoicesStayHoused : Type 0
ChoicesStayHoused = (n : Numbers) (w : Facts) (s : JointScene) (places : ℕ → ℕ) (k : Holdings) (stage : ChoiceStage)
    → IsOfChoice stage → Stands n w s places (at k (Choosing stage))
    → Fits (at k (Choosing stage)) (finds (next_of (at k (Choosing stage))) s.words)
    → IsHoused n s.words (at k (Choosing stage))
    → IsHoused n (words_next (at k (Choosing stage)) s.words) (collector_next (at k (Choosing stage)) s.words)
