-- One step of a schedule.
use Rattle.std.proofs.Common.{◌≡◌, ◌≢◌, ℕ, zero, suc, ◌+◌, ◌-◌, ◌<◌, ◌≤◌, ◌⊎◌, inl, inr, ⊎_elim, Bool, if◌then◌else◌}
use Rattle.std.proofs.Common.{List, [], ◌∷◌, length, remove, get_or, slice_index, slice_get, slice_set, Option, Some}
use Rattle.std.proofs.Common.{refl, sym, ap, ◌∙◌, subst, arith}
use Rattle.std.proofs.lemmas.Option.{slice_get_within}
use Rattle.mako_step.specs.Acts.{found as found_by}
use Rattle.mako_step.specs.declared.step.Step.{Step}
use Rattle.mako_step.specs.declared.step.Step.TheVariants.{Do, Ended as NoStep}
use Rattle.mako_script.specs.Scripts.{ScriptView}
use Rattle.mako_seat.specs.Seats.{next_of, fed, place_of}
use Rattle.mako_seat.specs.declared.seat.Seat.{Seat}
use Rattle.mako_state.specs.CoreStates.{CoreState, made, step_of, stepped_by}
use Rattle.mako_replay.specs.Schedules.{chosen, left_after}
use Rattle.mako_replay.specs.Runs.{Going, advanced, after, at_start, going_on, is_end, live, stepped, times}
use Rattle.mako_replay.specs.Standing.{HasCome, IsAscending, IsReady, StandsFor, next_place}
use Rattle.mako_replay.specs.declared.order.Order.{Order}
use Rattle.mako_replay.specs.declared.running.Running.{Running}
use Rattle.mako_replay.proofs.Live.{Found, ascends, found, set_live, set_read, set_same}

-- a step changes no other seat
record Changed (st : CoreState) (i : ℕ) (after : CoreState) : Type 0 where
  pub seat : Seat
  pub seats : after.seats ≡ slice_set st.seats i seat

changed_by : (st : CoreState) (i : ℕ) (v : Seat) (next : Step) → slice_get st.seats i ≡ Some v
    → Changed st i (made st i v next)
changed_by st i v (Do act) there =
    record { seat = fed v (found_by act.op (slice_index st.words act.word)); seats = refl }
changed_by st i v NoStep there = record { seat = v; seats = sym (set_same st.seats i v there) }

changed : (st : CoreState) (i : ℕ) (v : Seat) → slice_get st.seats i ≡ Some v → Changed st i (step_of st i)
changed st i v there =
    subst (λ (o : Option Seat). Changed st i (stepped_by st i o)) (sym there) (changed_by st i v (next_of v) there)

-- the seat that was looked up ahead is the one at the place that is taken
pub ahead : (r : Running) (count place : ℕ) → count ≡ length r.live.items → place < count
    → place ≡ next_place r.schedule count → IsReady r → r.seat ≡ slice_index r.live.items place
ahead r count place all low at ready =
    ready.seat (omega (arith, all)) ∙ ap (slice_index r.live.items) (ap (next_place r.schedule) (sym all) ∙ sym at)

module _ (st : CoreState) (xs : List ℕ) (p seat : ℕ) (is : xs ≡ live st.seats) (low : p < length xs)
    (read : seat ≡ slice_index xs p) where
  low_live : p < length (live st.seats)
  low_live = subst (λ (ys : List ℕ). p < length ys) is low

  one : Found 0 st.seats (slice_index (live st.seats) p)
  one = found 0 st.seats p low_live

  its_number : seat ≡ one.at
  its_number = let e : 0 + one.at ≡ one.at = omega arith in read ∙ ap (λ (ys : List ℕ). slice_index ys p) is ∙ one.is
      ∙ e

  -- it is a seat
  pub seat_within : seat < length st.seats
  seat_within = let i = its_number in let w = slice_get_within st.seats one.at one.seat one.there in omega arith

  -- those that are not at their end, behind its step
  pub live_after : (after : CoreState) (e : Bool) → after ≡ step_of st seat
      → ((v : Seat) → slice_get after.seats seat ≡ Some v → e ≡ is_end (place_of v))
      → live after.seats ≡ (if e then remove xs p else xs)
  live_after after e steps tells =
      let c = changed st one.at one.seat one.there in
      let within = slice_get_within st.seats one.at one.seat one.there in
      let seats : after.seats ≡ slice_set st.seats one.at c.seat =
      ap (λ (s : CoreState). s.seats) (steps ∙ ap (step_of st) its_number) ∙ c.seats in
      let there : slice_get after.seats seat ≡ Some c.seat =
      ap (slice_get after.seats) its_number ∙ ap (λ (ss : List Seat). slice_get ss one.at) seats
      ∙ set_read st.seats one.at c.seat within in
      ap live seats ∙ set_live 0 st.seats p one.at c.seat low_live one.is
      ∙ ap (λ (b : Bool). if b then remove (live st.seats) p else live st.seats) (sym (tells c.seat there))
      ∙ ap (λ (ys : List ℕ). if e then remove ys p else ys) (sym is)

module _ (r : Running) (g : Going) (come : HasCome r g) (is : r.live.items ≡ live r.core.state.seats) where
  same_live : live g.state.seats ≡ r.live.items
  same_live = ap (λ (s : CoreState). live s.seats) (sym come.state) ∙ sym is

  pub stands : StandsFor r.schedule g.left r.live.items
  stands = subst (StandsFor r.schedule g.left) same_live come.left

  pub ascend : IsAscending r.live.items
  ascend = subst IsAscending (sym is) (ascends 0 r.core.state.seats)

  going : (place : ℕ) (xs : List ℕ) → live g.state.seats ≡ xs → xs ≢ [] → StandsFor r.schedule g.left xs
      → ((first : ℕ) (others : List ℕ) → length xs ≡ length (first ∷ others)
      → StandsFor r.schedule g.left (first ∷ others)
      → slice_index (first ∷ others) place ≡ chosen g.left first others)
      → advanced g ≡ stepped g (slice_index xs place)
  going place [] same some at chooses = absurd (some refl)
  going place (first ∷ others) same some at chooses =
      ap (going_on g) same ∙ ap (stepped g) (sym (chooses first others refl at))

  -- the step of the chosen seat is the next of the run
  pub come_on : (new : Running) (place seat : ℕ) → r.live.items ≢ [] → seat ≡ slice_index r.live.items place
      → ((first : ℕ) (others : List ℕ) → length r.live.items ≡ length (first ∷ others)
      → StandsFor r.schedule g.left (first ∷ others)
      → slice_index (first ∷ others) place ≡ chosen g.left first others)
      → new.core.state ≡ step_of r.core.state seat → new.steps_made ≡ r.steps_made + 1
      → (xs : List ℕ) → live new.core.state.seats ≡ xs
      → StandsFor new.schedule (left_after g.left (slice_index r.live.items place)) xs
      → HasCome new (advanced g)
  come_on new place seat some read chooses steps made xs left_live left =
      let at : slice_index r.live.items place ≡ seat = sym read in
      let state : new.core.state ≡ step_of g.state (slice_index r.live.items place) =
      steps ∙ ap (λ (s : CoreState). step_of s seat) come.state ∙ ap (step_of g.state) read in
      let before = come.made in
      subst (HasCome new) (sym (going place r.live.items same_live some stands chooses)) (record {
        state = state;
        left = subst (StandsFor new.schedule (left_after g.left (slice_index r.live.items place)))
            (sym left_live ∙ ap (λ (s : CoreState). live s.seats) state) left;
        made = omega arith;
      })

-- where no seat is left, no step is made
pub no_more : (g : Going) (k d : ℕ) → live (times k g).state.seats ≡ [] → times (d + k) g ≡ times k g
no_more g k zero none = let same : zero + k ≡ k = omega arith in ap (λ (n : ℕ). times n g) same
no_more g k (suc d) none =
    let before : times (d + k) g ≡ times k g = no_more g k d none in
    let one : suc d + k ≡ suc (d + k) = omega arith in
    ap (λ (n : ℕ). times n g) one ∙ ap advanced before ∙ ap (going_on (times k g)) none

-- so the run that stopped is the whole run
pub is_whole : (g : Going) (k steps : ℕ) → k ≤ steps → (k ≡ steps) ⊎ (live (times k g).state.seats ≡ [])
    → times steps g ≡ times k g
is_whole g k steps most (inl same) = ap (λ (n : ℕ). times n g) (sym same)
is_whole g k steps most (inr none) =
    let all : steps ≡ (steps - k) + k = omega arith in
    ap (λ (n : ℕ). times n g) all ∙ no_more g k (steps - k) none

-- a run that stopped for want of seats, or of steps, is the run of the order
pub whole_run : (r : Running) (s : ScriptView) (order : Order) (steps : ℕ)
    → HasCome r (times r.steps_made (at_start s order))
    → r.live.items ≡ live r.core.state.seats → r.steps_made ≤ steps → (r.steps_made ≡ steps) ⊎ (r.live.items ≡ [])
    → HasCome r (after s order steps)
whole_run r s order steps come is most stops =
    let g = at_start s order in
    let stopped : (r.steps_made ≡ steps) ⊎ (live (times r.steps_made g).state.seats ≡ []) =
    ⊎_elim inl (λ none. inr (same_live r (times r.steps_made g) come is ∙ none)) stops in
    subst (HasCome r) (sym (is_whole g r.steps_made steps most stopped)) come
