-- What the collector keeps of regions and chosen tablets is what the layout reads as its choice.
use Rattle.std.specs.Prelude.{ℕ, ◌≡◌, ◌≢◌, ◌+◌, ◌<◌, ◌==◌, true, List, length, slice_index, slice_index_or, Some, []}
use Rattle.std.specs.Prelude.{slice_set}
use Rattle.mako_shape.specs.declared.numbers.Numbers.{Numbers}
use Rattle.mako_shape.specs.Places.{home, word_at}
use Rattle.mako_shape.specs.Belongings.{server_of_region, server_of_tablet}
use Rattle.mako_gate.specs.Sums.{counted}
use Rattle.mako_model.specs.Legal.{Facts}
use Rattle.mako_layout.specs.Facets.{Gift, Choice, rests_with, has_chosen, gift_of, times_in}
use Rattle.mako_layout.specs.Layouts.{regions_of}
use Rattle.mako_joint.specs.Joints.{JointScene}
use Rattle.mako_pause.specs.Collecting.{Holdings, Collecting, running, chosen_tablet, spare_for, at}
use Rattle.mako_pause.specs.Regions.{is_spare}
use Rattle.mako_pause.specs.declared.regions.Role.{Role}
use Rattle.mako_pause.specs.declared.regions.Role.TheVariants.{Home, Spare}
use Rattle.mako_pause.specs.declared.stage.ChoiceStage.{ChoiceStage}
use Rattle.mako_pause.specs.declared.stage.ChoiceStage.TheVariants.{LoadingLive, LoadingTop, LoadingHome}
use Rattle.mako_pause.specs.declared.stage.ChoiceStage.TheVariants.{StoringLeaving, StoringHome, StoringTop}
use Rattle.mako_pause.specs.declared.stage.ChoiceStage.TheVariants.{StoringEvac, Opening as Reopening}
use Rattle.mako_pause.specs.declared.stage.CollectStage.{CollectStage}
use Rattle.mako_pause.specs.declared.stage.CollectStage.TheVariants.{Choosing}
use Rattle.mako_collecting.specs.Choosing.{choice_at, choice_next, given_next, spare_next, MayGive}
use Rattle.mako_collecting.specs.Findings.{StageFound}
use Rattle.mako_collecting.specs.Laws.{Stands, IsUpToEvac}
use Rattle.mako_collecting.specs.Steps.{words_next, collector_next, choice_begun}

-- what a region is for
abbrev pub role_of : Holdings → ℕ → Role
role_of k r = slice_index_or k.roles r Home

-- ---- by the stage

abbrev pub choice_in : Holdings → CollectStage → List Gift → List ℕ → Choice
choice_in k (Choosing stage) given spare = choice_at k stage given spare
choice_in k stage given spare = has_chosen given spare

-- so many of the chosen tablets have given up a region
abbrev pub choice_done : Holdings → ChoiceStage → ℕ
choice_done k (LoadingLive r place) = 0
choice_done k (LoadingTop r place number) = 0
choice_done k (LoadingHome i) = i
choice_done k (StoringLeaving i gift) = i
choice_done k (StoringHome i gift) = i + 1
choice_done k (StoringTop i) = i + 1
choice_done k StoringEvac = length k.chosen
choice_done k (Reopening m) = length k.chosen

abbrev pub done_in : Holdings → CollectStage → ℕ
done_in k (Choosing stage) = choice_done k stage
done_in k stage = length k.chosen

-- the region that is given out already, and is spare to what it keeps
abbrev pub choice_pending : ChoiceStage → ℕ → ℕ
choice_pending (StoringHome i gift) r = counted (gift.region == r) 1
choice_pending stage r = 0

abbrev pub pending_in : CollectStage → ℕ → ℕ
pending_in (Choosing stage) r = choice_pending stage r
pending_in stage r = 0

-- The region that a tablet is to give up is its home, and the other a spare one of its server; or it has given it up.
abbrev pub ChoiceGift : Numbers → List ℕ → Holdings → ChoiceStage → List Gift → Type 0
ChoiceGift n words k (StoringLeaving i gift) given =
    (gift.former ≡ word_at n words (home (chosen_tablet k i)))
    × (server_of_region n gift.region ≡ server_of_tablet n (chosen_tablet k i))
    × (is_spare (running k) (role_of k gift.region) ≡ true)
ChoiceGift n words k (StoringHome i gift) given = gift_of given (chosen_tablet k i) ≡ gift.former + 1
ChoiceGift n words k stage given = Unit {0}

abbrev pub GiftIn : Numbers → List ℕ → Holdings → CollectStage → List Gift → Type 0
GiftIn n words k (Choosing stage) given = ChoiceGift n words k stage given
GiftIn n words k stage given = Unit {0}

-- the tablet is one of the chosen before this number
pub record IsDone (chosen : List ℕ) (done t : ℕ) : Type 0 where
  pub number : ℕ
  pub before : number < done
  pub inside : number < length chosen
  pub is : slice_index chosen number ≡ t

-- ---- the relation

-- From the choice on: the choice is that of the stage with these gifts and spare regions; spare are the regions whose
-- role says so in this cycle; and only chosen tablets that it has come past have given up one.
pub record ChoiceOf (n : Numbers) (words : List ℕ) (choice : Choice) (k : Holdings) (stage : CollectStage)
    (given : List Gift) (spare : List ℕ) : Type 0 where
  pub begun : choice ≡ choice_in k stage given spare
  pub spares : (r : ℕ) → r < regions_of n
      → times_in spare r + pending_in stage r ≡ counted (is_spare (running k) (role_of k r)) 1
  pub done : (t : ℕ) → gift_of given t ≢ 0 → IsDone k.chosen (done_in k stage) t
  pub gift : GiftIn n words k stage given

-- ---- what is true of it

abbrev pub MayGiveAt : Numbers → JointScene → Holdings → ChoiceStage → List Gift → List ℕ → Type 0
MayGiveAt n s k (StoringLeaving i gift) given spare = MayGive n s (chosen_tablet k i) gift given spare
MayGiveAt n s k stage given spare = Unit {0}

-- a tablet that is to leave its region may give it up
abbrev pub GiftsMayBeGiven : Type 0
GiftsMayBeGiven = (n : Numbers) (w : Facts) (s : JointScene) (places : ℕ → ℕ) (k : Holdings) (stage : ChoiceStage)
    → Stands n w s places (at k (Choosing stage)) → StageFound n s.words k (Choosing stage)
    → (given : List Gift) (spare : List ℕ)
    → ChoiceOf n s.words s.facets.choice k (Choosing stage) given spare → MayGiveAt n s k stage given spare

-- where a home is loaded, the server of the tablet has a spare region left
abbrev pub HasSpare : Holdings → ChoiceStage → Type 0
HasSpare k (LoadingHome i) = (region : ℕ) × (spare_for k (chosen_tablet k i) ≡ Some region)
HasSpare k stage = Unit {0}

-- the relation is kept by each step of the choice
abbrev pub ChoicesAreKept : Type 0
ChoicesAreKept = (n : Numbers) (w : Facts) (s : JointScene) (places : ℕ → ℕ) (k : Holdings) (stage : ChoiceStage)
    → Stands n w s places (at k (Choosing stage)) → StageFound n s.words k (Choosing stage) → HasSpare k stage
    → (given : List Gift) (spare : List ℕ)
    → ChoiceOf n s.words s.facets.choice k (Choosing stage) given spare
    → ChoiceOf n (words_next (at k (Choosing stage)) s.words) (choice_next k stage given spare)
    (collector_next (at k (Choosing stage)) s.words).kept (collector_next (at k (Choosing stage)) s.words).stage
    (given_next k stage given) (spare_next stage spare)

-- ---- how the choice begins

-- where none is begun, spare are the regions whose role says so in the cycle that runs, or comes next
pub record RestsOf (n : Numbers) (choice : Choice) (k : Holdings) (spare : List ℕ) : Type 0 where
  pub rests : choice ≡ rests_with spare
  pub spares : (r : ℕ) → r < regions_of n → times_in spare r ≡ counted (is_spare (running k) (role_of k r)) 1

-- so the relation holds where the collector comes to the choice
abbrev pub ChoicesBegin : Type 0
ChoicesBegin = (n : Numbers) (words : List ℕ) (choice : Choice) (k : Holdings) (spare : List ℕ)
    → RestsOf n choice k spare
    → ChoiceOf n words (choice_begun (Choosing (LoadingLive 0 0)) choice) k (Choosing (LoadingLive 0 0)) [] spare

-- ---- what a step leaves of what is kept

-- a gift alone changes roles
abbrev pub choice_roles : Holdings → ChoiceStage → List Role
choice_roles k (StoringHome i gift) =
    slice_set (slice_set k.roles gift.region Home) gift.former (Spare (running k + 1))
choice_roles k stage = k.roles

abbrev pub roles_after : Holdings → CollectStage → List Role
roles_after k (Choosing stage) = choice_roles k stage
roles_after k stage = k.roles

pub record LeavesKept (k : Holdings) (roles : List Role) (c : Collecting) : Type 0 where
  pub shape : c.kept.shape ≡ k.shape
  pub cycle : c.kept.cycle ≡ k.cycle
  pub roles_are : c.kept.roles ≡ roles

-- numbers and cycle stay up to the opening of the gates after the store of Evac
abbrev pub StepsLeaveKept : Type 0
StepsLeaveKept = (k : Holdings) (stage : CollectStage) (words : List ℕ) → IsUpToEvac stage
    → LeavesKept k (roles_after k stage) (collector_next (at k stage) words)
