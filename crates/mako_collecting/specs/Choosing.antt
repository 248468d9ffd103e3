-- How far the choice of tablets is, as the layout reads it, by what the collector keeps.
use Rattle.std.specs.Prelude.{ℕ, ◌≡◌, ◌<◌, ◌≤◌, ◌==◌, if◌then◌else◌, List, [], ◌∷◌}
use Rattle.mako_shape.specs.declared.numbers.Numbers.{Numbers}
use Rattle.mako_shape.specs.Places.{home, word_at}
use Rattle.mako_shape.specs.Belongings.{server_of_region, server_of_tablet}
use Rattle.mako_layout.specs.Facets.{Debt, settled, owes_home, owes_top, Gift, Choice, chooses, has_chosen, gift_of}
use Rattle.mako_layout.specs.Facets.{times_in}
use Rattle.mako_layout.specs.Layouts.{regions_of}
use Rattle.mako_joint.specs.Joints.{JointScene}
use Rattle.mako_pause.specs.Collecting.{Holdings, chosen_tablet}
use Rattle.mako_pause.specs.declared.stage.Gift.{Gift as Exchange}
use Rattle.mako_pause.specs.declared.stage.ChoiceStage.{ChoiceStage}
use Rattle.mako_pause.specs.declared.stage.ChoiceStage.TheVariants.{LoadingLive, LoadingTop, LoadingHome}
use Rattle.mako_pause.specs.declared.stage.ChoiceStage.TheVariants.{StoringLeaving, StoringHome, StoringTop}
use Rattle.mako_pause.specs.declared.stage.ChoiceStage.TheVariants.{StoringEvac, Opening as Reopening}

-- ---- what it has still to store
abbrev pub debt_at : Holdings → ChoiceStage → Debt
debt_at k (LoadingLive s place) = settled
debt_at k (LoadingTop s place words) = settled
debt_at k (LoadingHome i) = settled
debt_at k (StoringLeaving i gift) = settled
debt_at k (StoringHome i gift) = owes_home (chosen_tablet k i) gift.region
debt_at k (StoringTop i) = owes_top (chosen_tablet k i)
debt_at k StoringEvac = settled
debt_at k (Reopening m) = settled

-- the choice is begun, with this debt, these gifts and these spare regions; from the store of Evac on it has ended
abbrev pub choice_at : Holdings → ChoiceStage → List Gift → List ℕ → Choice
choice_at k (Reopening m) given spare = has_chosen given spare
choice_at k stage given spare = chooses (debt_at k stage) given spare

-- ---- what is given out, and what is left
-- the gifts once a chosen tablet has given up its region
abbrev pub given_next : Holdings → ChoiceStage → List Gift → List Gift
given_next k (StoringLeaving i gift) given = record { tablet = chosen_tablet k i; region = gift.former } ∷ given
given_next k stage given = given

-- a list of regions without the first that is this one
unfoldable pub without : ℕ → List ℕ → List ℕ
without r [] = []
without r (x ∷ xs) = if x == r then xs else x ∷ without r xs

abbrev pub spare_next : ChoiceStage → List ℕ → List ℕ
spare_next (StoringLeaving i gift) spare = without gift.region spare
spare_next stage spare = spare

-- the choice after the step at a stage
abbrev pub choice_next : Holdings → ChoiceStage → List Gift → List ℕ → Choice
choice_next k (StoringLeaving i gift) given spare =
    chooses (owes_home (chosen_tablet k i) gift.region)
    (record { tablet = chosen_tablet k i; region = gift.former } ∷ given) (without gift.region spare)
choice_next k (StoringHome i gift) given spare = chooses (owes_top (chosen_tablet k i)) given spare
choice_next k StoringEvac given spare = has_chosen given spare
choice_next k (Reopening m) given spare = has_chosen given spare
choice_next k stage given spare = chooses settled given spare

-- ---- what the choice of a gift rests on
-- The tablet has given up no region in this cycle; the region that it is to give up is its home, and the other is a
-- spare one of its server.
pub record MayGive (n : Numbers) (s : JointScene) (t : ℕ) (gift : Exchange) (given : List Gift)
    (spare : List ℕ) : Type 0 where
  pub former : gift.former ≡ word_at n s.words (home t)
  pub region : gift.region < regions_of n
  pub server : server_of_region n gift.region ≡ server_of_tablet n t
  pub first : gift_of given t ≡ 0
  pub spares : 1 ≤ times_in spare gift.region
