-- The collector beside the home words, which it alone stores: each tablet that it chooses gets a spare region.
use Rattle.std.specs.Prelude.{◌≡◌, ◌≢◌, ℕ, ◌+◌, ◌*◌, ◌<◌, ◌==◌, if◌then◌else◌, Some, List, [], ◌∷◌, ◌++◌, take}
use Rattle.mako_shape.specs.Belongings.{server_of_tablet, server_of_region, opening_home}
use Rattle.mako_shape.specs.Limits.{IsShape}
use Rattle.mako_shape.specs.declared.numbers.Numbers.{Numbers}
use Rattle.mako_step.specs.Trails.{Observation, Goes}
use Rattle.mako_step.specs.declared.step.Step.{Step}
use Rattle.mako_script.specs.Scripts.{ScriptView}
use Rattle.mako_pause.specs.Collecting.{Holdings, Collecting, chosen_tablet, spare_for, next_of, Fits, fed}
use Rattle.mako_pause.specs.Opening.{opening}
use Rattle.mako_pause.specs.declared.stage.ChoiceStage.{ChoiceStage}
use Rattle.mako_pause.specs.declared.stage.ChoiceStage.TheVariants.{LoadingHome, StoringLeaving, StoringHome}
use Rattle.mako_pause.specs.declared.stage.ChoiceStage.TheVariants.{StoringTop, StoringEvac}
use Rattle.mako_pause.specs.declared.stage.NoticeStage.{NoticeStage}
use Rattle.mako_pause.specs.declared.stage.NoticeStage.TheVariants.{Looking as NoticeLook, Clearing as NoticeClear}
use Rattle.mako_pause.specs.declared.stage.NoticeStage.TheVariants.{StoringIdle}
use Rattle.mako_pause.specs.declared.stage.CollectStage.{CollectStage}
use Rattle.mako_pause.specs.declared.stage.CollectStage.TheVariants.{Choosing, Noticing}

-- the home of each tablet, and the tablets that got a region in this cycle
pub record Housed : Type 0 where
  pub collector : Collecting
  pub homes : ℕ → ℕ
  pub given : List ℕ

-- the homes once a tablet got a region
abbrev pub moved : (ℕ → ℕ) → ℕ → ℕ → ℕ → ℕ
moved homes tablet region t = if t == tablet then region else homes t

abbrev pub choice_homes : Holdings → ChoiceStage → (ℕ → ℕ) → ℕ → ℕ
choice_homes k (StoringHome i gift) homes = moved homes (chosen_tablet k i) gift.region
choice_homes k stage homes = homes

abbrev pub homes_after : Holdings → CollectStage → (ℕ → ℕ) → ℕ → ℕ
homes_after k (Choosing stage) homes = choice_homes k stage homes
homes_after k stage homes = homes

abbrev pub choice_given : Holdings → ChoiceStage → List ℕ → List ℕ
choice_given k (StoringHome i gift) given = given ++ chosen_tablet k i ∷ []
choice_given k stage given = given

abbrev pub notice_given : NoticeStage → List ℕ → List ℕ
notice_given (NoticeLook s) given = given
notice_given (NoticeClear s told) given = given
notice_given StoringIdle given = []

abbrev pub given_after : Holdings → CollectStage → List ℕ → List ℕ
given_after k (Choosing stage) given = choice_given k stage given
given_after k (Noticing stage) given = notice_given stage given
given_after k stage given = given

-- a load of a home finds it
abbrev pub ChoiceFinds : Holdings → ChoiceStage → (ℕ → ℕ) → ℕ → Type 0
ChoiceFinds k (LoadingHome i) homes w = w ≡ homes (chosen_tablet k i)
ChoiceFinds k stage homes w = Unit {0}

abbrev pub FindsHome : Holdings → CollectStage → (ℕ → ℕ) → ℕ → Type 0
FindsHome k (Choosing stage) homes w = ChoiceFinds k stage homes w
FindsHome k stage homes w = Unit {0}

abbrev pub housed_next : Housed → Step
housed_next v = next_of v.collector

abbrev pub HousedFits : Housed → ℕ → Type 0
HousedFits v w = Fits v.collector w × FindsHome v.collector.kept v.collector.stage v.homes w

abbrev pub housed_fed : Housed → ℕ → Housed
housed_fed v w = record {
  collector = fed v.collector w;
  homes = homes_after v.collector.kept v.collector.stage v.homes;
  given = given_after v.collector.kept v.collector.stage v.given;
}

abbrev pub housed_opening : ScriptView → Housed
housed_opening s = record { collector = opening s; homes = opening_home s.numbers; given = [] }

-- the home of each tablet is a region of its server, and no other tablet's
pub record AreHomes (n : Numbers) (homes : ℕ → ℕ) : Type 0 where
  pub server : (t : ℕ) → t < n.servers * n.tablets → server_of_region n (homes t) ≡ server_of_tablet n t
  pub apart : (t u : ℕ) → t < n.servers * n.tablets → u < n.servers * n.tablets → homes t ≡ homes u → t ≡ u

-- a region of a tablet's server that is nobody's home
pub record IsFreeFor (n : Numbers) (homes : ℕ → ℕ) (t region : ℕ) : Type 0 where
  pub server : server_of_region n region ≡ server_of_tablet n t
  pub free : (u : ℕ) → u < n.servers * n.tablets → homes u ≢ region

-- a tablet whose home is loaded gets one, and once Evac is to be stored each chosen tablet has got one
abbrev pub ChoiceGives : Holdings → ChoiceStage → (ℕ → ℕ) → List ℕ → Type 0
ChoiceGives k (LoadingHome i) homes given =
    (given ≡ take i k.chosen)
    × ((region : ℕ)
    × ((spare_for k (chosen_tablet k i) ≡ Some region) × IsFreeFor k.shape homes (chosen_tablet k i) region))
ChoiceGives k (StoringLeaving i gift) homes given =
    (given ≡ take i k.chosen) × (gift.former ≡ homes (chosen_tablet k i))
    × IsFreeFor k.shape homes (chosen_tablet k i) gift.region
ChoiceGives k (StoringHome i gift) homes given =
    (given ≡ take i k.chosen) × (gift.former ≡ homes (chosen_tablet k i))
    × IsFreeFor k.shape homes (chosen_tablet k i) gift.region
ChoiceGives k (StoringTop i) homes given = given ≡ take (i + 1) k.chosen
ChoiceGives k StoringEvac homes given = given ≡ k.chosen
ChoiceGives k stage homes given = Unit {0}

abbrev pub StageGives : Holdings → CollectStage → (ℕ → ℕ) → List ℕ → Type 0
StageGives k (Choosing stage) homes given = ChoiceGives k stage homes given
StageGives k stage homes given = Unit {0}

-- so it is at every moment of a collector that finds the homes as it stored them
abbrev pub CollectorsGive : Type 0
CollectorsGive = (s : ScriptView) (trail : List Observation) (v : Housed) → IsShape s.numbers →
    Goes housed_next HousedFits housed_fed (housed_opening s) trail v →
    AreHomes s.numbers v.homes × StageGives v.collector.kept v.collector.stage v.homes v.given
