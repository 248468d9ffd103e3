-- The opening of all groups.
use Rattle.std.specs.Prelude.{ℕ, ◌≡◌, ◌+◌, ◌<◌}
use Rattle.mako_shape.specs.declared.numbers.Numbers.{Numbers}
use Rattle.mako_shape.specs.Places.{Place, Within, word_at}
use Rattle.mako_model.specs.Legal.{Facts}
use Rattle.mako_names.specs.Steps.{IsNameOpening}
use Rattle.mako_poll.specs.Laws.{IsOpening}
use Rattle.mako_layout.specs.Facets.{rests_with}
use Rattle.mako_layout.specs.Layouts.{regions_of}
use Rattle.mako_layout.specs.Openings.{opening_words, seats_from, idle_works, spares_below}
use Rattle.mako_layout.specs.StepParts.{collector_seat}
use Rattle.mako_phases.specs.Reaching.{IsPhaseOpening}
use Rattle.mako_joint.specs.Joints.{JointScene, names_in, polls_in, phases_in, GatesMatch, IsScript, Joint}

-- each group is at its opening: seats are at no gate and hold nothing, and no tablet is chosen
pub record IsJointOpening (n : Numbers) (w : Facts) (s : JointScene) : Type 0 where
  pub script : IsScript n w
  pub ring : 0 < n.ring
  pub names : IsNameOpening n w (names_in s)
  pub words : (p : Place) → Within n p → word_at n s.words p ≡ opening_words n w.board p
  pub stand : s.facets.gates ≡ seats_from 0 (collector_seat n + 1)
  pub works : s.facets.works ≡ idle_works (collector_seat n + 1)
  pub choice : s.facets.choice ≡ rests_with (spares_below n (regions_of n))
  pub polls : IsOpening n (polls_in n s)
  pub phases : IsPhaseOpening n (phases_in s)
  pub gates : GatesMatch n s.facets.phases s.facets.gates

abbrev pub OpeningsHoldAll : Type 0
OpeningsHoldAll = (n : Numbers) (w : Facts) (s : JointScene) → IsJointOpening n w s → Joint n w s
