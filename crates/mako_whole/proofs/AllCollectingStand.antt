-- What some steps of the collector ask stands after its step of the facets with which all seats sit.
use Rattle.std.proofs.Common.{◌≡◌, ℕ, List, slice_get, slice_set, Some, sym, subst}
use Rattle.mako_shape.specs.declared.numbers.Numbers.{Numbers}
use Rattle.mako_step.specs.Acts.{finds, words_stepped}
use Rattle.mako_step.specs.Machines.{IsAct}
use Rattle.mako_step.specs.declared.step.Step.{Step}
use Rattle.mako_step.specs.declared.step.Step.TheVariants.{Do, Ended as NoStep}
use Rattle.mako_model.specs.Fronts.{Seen}
use Rattle.mako_model.specs.Legal.{Facts}
use Rattle.mako_pause.specs.Collecting.{Collecting, next_of}
use Rattle.mako_seat.specs.Seats.{fed, event_of}
use Rattle.mako_seat.specs.declared.seat.Seat.TheVariants.{Collector}
use Rattle.mako_state.specs.CoreStates.{CoreState, front_after, made, stepped_by, step_of}
use Rattle.mako_sitting.specs.Seats.{AllSit}
use Rattle.mako_whole.specs.AllRuns.{scene_in, SeatsSit, CollectorCame}
use Rattle.mako_whole.specs.AllCollectingScenes.{CameStand}

module _ (n : Numbers) (w : Facts) (st : CoreState) (i : ℕ) (c : Collecting) (sits : SeatsSit n w st)
    (came : CollectorCame n w (scene_in st sits.facets) st.seats i c) where
  -- all seats sit in this state, with the facets of the scene after the step
  abbrev AllIn : CoreState → Type 0
  AllIn later = AllSit n w (scene_in later came.after.facets) later.seats

  abbrev went : Step → CoreState
  went next = record {
    words = words_stepped next st.words;
    seats = slice_set st.seats i (fed (Collector c) (finds next st.words));
    front = front_after st.front c.kept.freed (event_of (Collector c) (finds next st.words));
  }

  all_went : AllIn (went (next_of c))
  all_went =
      subst (λ (us : List ℕ). AllSit n w
      (record { words = us; front = (went (next_of c)).front; facets = came.after.facets }) (went (next_of c)).seats)
      came.words
      (subst (λ (f : Seen). AllSit n w (record { words = came.after.words; front = f; facets = came.after.facets })
      (went (next_of c)).seats) came.front came.all)

  all_made : (next : Step) → IsAct next → AllIn (went next) → AllIn (made st i (Collector c) next)
  all_made (Do act) acts goes = goes
  all_made NoStep acts goes = absurd acts

  pub all_then : slice_get st.seats i ≡ Some (Collector c) → IsAct (next_of c) → AllIn (step_of st i)
  all_then here acts = subst (λ o. AllIn (stepped_by st i o)) (sym here) (all_made (next_of c) acts all_went)

pub came_stand : CameStand
came_stand n w st i c sits here acts came facts = record {
  sits = record {
    facets = came.after.facets;
    all = all_then n w st i c sits came here acts;
    only = record { traces = came.only.traces; held = came.only.held };
  };
  facts = facts;
}
