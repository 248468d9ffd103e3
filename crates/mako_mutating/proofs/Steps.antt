-- The step of a mutator in an attempt, from its stage.
use Rattle.std.proofs.Common.{◌≡◌, ℕ, ◌+◌, ◌*◌, ◌<◌, if◌then◌else◌, Bool, true, false, slice_index, sym, subst, refl}
use Rattle.mako_words.specs.Gates.{is_shut}
use Rattle.mako_words.specs.Values.{value_at}
use Rattle.mako_words.specs.declared.value.Value.{Value}
use Rattle.mako_words.specs.declared.value.Value.TheVariants as value
use Rattle.mako_shape.specs.Places.{home, barrier, mutator_gate, tablet_gate, index, word_at}
use Rattle.mako_shape.proofs.BelongingLaws.{belongings_in_range}
use Rattle.mako_record.specs.Regions.{is_in_region}
use Rattle.mako_step.specs.Machines.{IsAct}
use Rattle.mako_step.specs.declared.act.Op.TheVariants.{Add, Sub}
use Rattle.mako_step.proofs.Cases.{by_bool, by_eq, by_lt}
use Rattle.mako_model.specs.declared.call.Call.{Call}
use Rattle.mako_model.specs.declared.call.Call.TheVariants as call
use Rattle.mako_model.specs.declared.reply.Reply.{Reply}
use Rattle.mako_model.specs.declared.reply.Reply.TheVariants as reply
use Rattle.mako_model.specs.declared.attempt.Attempt.TheVariants.{Answer, Full as NoRoom, Pause as Paused}
use Rattle.mako_model.specs.declared.attempt.Pause.{Pause as Reason}
use Rattle.mako_model.specs.declared.attempt.Pause.TheVariants.{Barrier}
use Rattle.mako_call.specs.declared.object.Access.{Access}
use Rattle.mako_call.specs.declared.object.Access.TheVariants.{Get as Gets, Put as Puts}
use Rattle.mako_call.specs.declared.object.Get.{Get as GetArgs}
use Rattle.mako_call.specs.declared.object.Put.{Put as PutArgs}
use Rattle.mako_call.specs.declared.object.Located.{Located}
use Rattle.mako_call.specs.declared.object.Errand.{Errand}
use Rattle.mako_call.specs.declared.call_stage.CallStage.{CallStage}
use Rattle.mako_call.specs.declared.call_stage.CallStage.TheVariants.{Arriving, Rooting, Entering, Moving, Getting}
use Rattle.mako_call.specs.declared.call_stage.CallStage.TheVariants.{Putting, Leaving, Ended}
use Rattle.mako_call.specs.declared.rooting.RootStage.{RootStage}
use Rattle.mako_call.specs.declared.rooting.RootStage.TheVariants.{StoringNumber, StoringNull, LoadingCopied}
use Rattle.mako_call.specs.declared.rooting.RootStage.TheVariants.{StoringCopied, LoadingShown, LoadingSource}
use Rattle.mako_call.specs.declared.rooting.RootStage.TheVariants.{LoadingTarget, LoadingValue, LoadingPhase}
use Rattle.mako_call.specs.declared.entering.EnterStage.{EnterStage}
use Rattle.mako_call.specs.declared.entering.EnterStage.TheVariants.{Arriving as EnterArriving, LoadingEntry}
use Rattle.mako_call.specs.declared.entering.EnterStage.TheVariants.{LoadingHome}
use Rattle.mako_call.specs.declared.moving.MoveStage.TheVariants.{TakingTurn}
use Rattle.mako_call.specs.declared.getting.GetStage.{GetStage}
use Rattle.mako_call.specs.declared.getting.GetStage.TheVariants.{LoadingHeader as GetHeader, LoadingField as GetField}
use Rattle.mako_call.specs.declared.getting.GetStage.TheVariants.{StoringRoot as StoringGot}
use Rattle.mako_call.specs.declared.putting.PutStage.{PutStage}
use Rattle.mako_call.specs.declared.putting.PutStage.TheVariants.{LoadingHeader as PutHeader, LoadingOld}
use Rattle.mako_call.specs.declared.putting.PutStage.TheVariants.{LookingAtBarrier, StoringBarrier, StoringField}
use Rattle.mako_call.specs.declared.leaving.LeaveStage.{LeaveStage}
use Rattle.mako_call.specs.declared.leaving.LeaveStage.TheVariants.{Refused, TurnedAway, FromTablet, FromOwn}
use Rattle.mako_call.specs.Agreeing.{AccessOf}
use Rattle.mako_call.specs.Calls.{arrived}
use Rattle.mako_mutator.specs.Drivers as drivers
use Rattle.mako_mutator.specs.Drivers.{Driving, IsAttempt, TaskIsKnown}
use Rattle.mako_call.specs.Leaving.{outcome_of, leaving_tablet, answered_at}
use Rattle.mako_call.specs.Objects.{tablet_of, at_object}
use Rattle.mako_call.specs.Putting.{before_store, old_fed}
use Rattle.mako_call.specs.Rooting.{source_fed, target_fed}
use Rattle.mako_mutator.proofs.DriverGoing.{driver_known}
use Rattle.mako_names.specs.Trying as trying
use Rattle.mako_mutating.specs.MutatorFacets.{last_at}
use Rattle.mako_mutating.specs.Mutators.{StepKeeps, found_by}
use Rattle.mako_mutating.specs.Laws.{LeavesPlainly}
use Rattle.mako_mutating.proofs.Attempts.{Scene, At, Holds, Result, driver, after, fed_to}
use Rattle.mako_mutating.proofs.Gates.{operated, own_refused, own_arrived, tablet_arrived, tablet_turned_away}
use Rattle.mako_mutating.proofs.Gates.{turned_back, tablet_left}
use Rattle.mako_mutating.proofs.Roots.{loaded, root_word, copied_loaded, source_loaded, target_loaded, put_value_loaded}
use Rattle.mako_mutating.proofs.Roots.{put_phase_loaded, number_stored, null_stored, copied_stored, shown_loaded}
use Rattle.mako_mutating.proofs.Roots.{source_no_ref, target_no_ref}
use Rattle.mako_mutating.proofs.Objects.{read, entry_loaded, home_loaded, away_found}
use Rattle.mako_mutating.proofs.Gets.{get_header_loaded, get_no_field, field_loaded, got_stored}
use Rattle.mako_mutating.proofs.Puts.{put_header_loaded, put_no_field}
use Rattle.mako_mutating.proofs.Barriers.{old_none, old_found, barrier_empty, barrier_filled, barrier_stored}
use Rattle.mako_mutating.proofs.PutStores.{field_stored}
use Rattle.mako_mutating.proofs.Departures.{answered_left, paused_left, refused_left}

-- a call that goes to an object tries nothing
pub goes_trying : (last : Bool) (c : Call) (a : Access) → AccessOf c a → last_at last c 0 0 ≡ trying.Nothing
goes_trying last (call.Get to from field) a of = by last
  where
    by : (b : Bool) → last_at b (call.Get to from field) 0 0 ≡ trying.Nothing
    by true = refl
    by false = refl
goes_trying last (call.Put to field from) a of = by last
  where
    by : (b : Bool) → last_at b (call.Put to field from) 0 0 ≡ trying.Nothing
    by true = refl
    by false = refl
goes_trying last c a of = absurd of

outcome_answer : (last : Bool) (r : Reply) → outcome_of last (Answer r) ≡ Answer r
outcome_answer true r = refl
outcome_answer false r = refl

outcome_paused : (last : Bool) (r : Reason) → outcome_of last (Paused r) ≡ Paused r
outcome_paused true r = refl
outcome_paused false r = refl

module _ (x : Scene) (within : Bool) where
  -- the step from this stage keeps all
  abbrev pub Kept : CallStage → Type 0
  Kept s = StepKeeps x.n x.w x.s x.m (driver x within s)

  -- the word that the act of a stage finds
  abbrev pub finding : CallStage → ℕ
  finding s = found_by x.s (driver x within s)

  -- and it can go on with it
  abbrev pub Fitting : CallStage → Type 0
  Fitting s = drivers.Fits (driver x within s) (finding s)

  pub known_then : (s : CallStage) (at : At x within s) → Fitting s → IsAct (drivers.next_of (driver x within s))
      → drivers.IsKnown (drivers.fed (driver x within s) (finding s))
  known_then s at fits acts = driver_known (driver x within s) (finding s) at.keeps.known fits acts

  -- ---- at the own gate
  pub arriving_kept : (at : At x within Arriving) → Fitting Arriving → Kept Arriving
  arriving_kept at fits = by (is_shut word) refl (known_then Arriving at fits tt)
    where
      word : ℕ
      word = word_at x.n x.s.words (mutator_gate x.m)

      by : (shut : Bool) → is_shut word ≡ shut
          → drivers.IsKnown (fed_to x within x.slot Arriving (arrived x.call word shut))
          → Result x within x.slot Arriving (arrived x.call word shut) (operated x within (mutator_gate x.m) (Add 1))
      by true e known = own_refused x within at word e known
      by false e known = own_arrived x within at at.keeps.known.progress.task.known.agrees e known

  -- ---- roots
  pub rooting_kept : (s : RootStage) (at : At x within (Rooting s)) → Fitting (Rooting s) → Kept (Rooting s)
  rooting_kept (StoringNumber q number) at fits = number_stored x within q number at (known_then _ at fits tt)
  rooting_kept (StoringNull q) at fits = null_stored x within q at (known_then _ at fits tt)
  rooting_kept (LoadingCopied r q) at fits = copied_loaded x within r q at (known_then _ at fits tt)
  rooting_kept (StoringCopied q v) at fits = copied_stored x within q v at (known_then _ at fits tt)
  rooting_kept (LoadingShown q) at fits = shown_loaded x within q at (known_then _ at fits tt)
  rooting_kept (LoadingSource r q i) at fits =
      by (value_at (root_word x q)) refl (known_then (Rooting (LoadingSource r q i)) at fits tt)
    where
      by : (v : Value) → value_at (root_word x q) ≡ v
          → drivers.IsKnown (fed_to x within x.slot (Rooting (LoadingSource r q i)) (source_fed r i v))
          → Result x within x.slot (Rooting (LoadingSource r q i)) (source_fed r i v) (loaded x q)
      by value.Null e known = source_no_ref x within r q i at value.Null e tt known
      by (value.Num z) e known = source_no_ref x within r q i at (value.Num z) e tt known
      by (value.Ref object) e known = source_loaded x within r q i at object e known
  rooting_kept (LoadingTarget r i q) at fits =
      by (value_at (root_word x r)) refl (known_then (Rooting (LoadingTarget r i q)) at fits tt)
    where
      by : (v : Value) → value_at (root_word x r) ≡ v
          → drivers.IsKnown (fed_to x within x.slot (Rooting (LoadingTarget r i q)) (target_fed i q v))
          → Result x within x.slot (Rooting (LoadingTarget r i q)) (target_fed i q v) (loaded x r)
      by value.Null e known = target_no_ref x within r i q at value.Null e tt known
      by (value.Num z) e known = target_no_ref x within r i q at (value.Num z) e tt known
      by (value.Ref object) e known = target_loaded x within r i q at object e known
  rooting_kept (LoadingValue object i q) at fits = put_value_loaded x within object i q at (known_then _ at fits tt)
  rooting_kept (LoadingPhase object i v) at fits = put_phase_loaded x within object i v at (known_then _ at fits tt)

  -- ---- at an object's tablet
  pub entering_kept : (e : Errand) (s : EnterStage) (at : At x within (Entering e s)) → Fitting (Entering e s)
      → Kept (Entering e s)
  entering_kept e EnterArriving at fits =
      by_bool (λ b. drivers.IsKnown (fed_to x within x.slot s (next b))
      → Result x within x.slot s (next b) (operated x within (tablet_gate t) (Add 1)))
      (is_shut word) (λ shut known. tablet_turned_away x within e at word low shut known
      (goes_trying x.last x.call e.access at.keeps.known.progress.task.known.agrees))
      (λ open_ known. tablet_arrived x within e at low open_ known)
      (known_then s at fits tt)
    where
      s : CallStage
      s = Entering e EnterArriving

      t : ℕ
      t = tablet_of x.n e.object

      word : ℕ
      word = word_at x.n x.s.words (tablet_gate t)

      next : Bool → CallStage
      next b = if b then Leaving (TurnedAway t word) else Entering e LoadingEntry

      low : t < x.n.servers * x.n.tablets
      low = belongings_in_range.entry x.n e.object.entry at.keeps.known.progress.task.known.stage.0.0.1
  entering_kept e LoadingEntry at fits = entry_loaded x within e at (known_then _ at fits tt)
  entering_kept e (LoadingHome found) at fits =
      by_bool (λ b. drivers.IsKnown (fed_to x within x.slot s (next b))
      → Result x within x.slot s (next b) (read x within (index x.n (home t))))
      (is_in_region x.n word found.address) (λ inside known. by e.access refl inside known)
      (λ out known. away_found x within e found at known)
      (known_then s at fits tt)
    where
      s : CallStage
      s = Entering e (LoadingHome found)

      t : ℕ
      t = tablet_of x.n e.object

      word : ℕ
      word = word_at x.n x.s.words (home t)

      next : Bool → CallStage
      next b = if b then at_object e found.address else Moving e (TakingTurn word)

      to : Access → CallStage
      to a = at_object (record e { access = a }) found.address

      by : (a : Access) → e.access ≡ a → is_in_region x.n word found.address ≡ true
          → drivers.IsKnown (fed_to x within x.slot s (to e.access))
          → Result x within x.slot s (to e.access) (read x within (index x.n (home t)))
      by (Gets get) is inside known =
          subst (λ a. drivers.IsKnown (fed_to x within x.slot s (to a))
          → Holds x (read x within (index x.n (home t))) x.s.front (after x x.slot (to e.access))
          → Result x within x.slot s (to a) (read x within (index x.n (home t)))) (sym is)
          (λ a b. subst (λ c. Holds x (read x within (index x.n (home t))) x.s.front (after x x.slot (to c))) is b)
          known
          (home_loaded x within e found at fits inside
          (subst (λ a. drivers.IsKnown (fed_to x within x.slot s (to a))
          → drivers.IsKnown (after x x.slot (to a))) (sym is) (λ a. a) known))
      by (Puts put) is inside known =
          subst (λ a. drivers.IsKnown (fed_to x within x.slot s (to a))
          → Holds x (read x within (index x.n (home t))) x.s.front (after x x.slot (to e.access))
          → Result x within x.slot s (to a) (read x within (index x.n (home t)))) (sym is)
          (λ a b. subst (λ c. Holds x (read x within (index x.n (home t))) x.s.front (after x x.slot (to c))) is b)
          known
          (home_loaded x within e found at fits inside
          (subst (λ a. drivers.IsKnown (fed_to x within x.slot s (to a))
          → drivers.IsKnown (after x x.slot (to a))) (sym is) (λ a. a) known))

  -- ---- at an object
  pub getting_kept : (l : Located) (get : GetArgs) (s : GetStage) (at : At x within (Getting l get s))
      → Fitting (Getting l get s) → Kept (Getting l get s)
  getting_kept l get GetHeader at fits =
      by_lt (λ b. drivers.IsKnown (fed_to x within x.slot (Getting l get GetHeader) (next b))
      → Result x within x.slot (Getting l get GetHeader) (next b) (read x within l.address))
      get.field (slice_index x.s.words l.address) (λ less known. get_header_loaded x within l get at less known)
      (λ past known. get_no_field x within l get at past known)
      (known_then (Getting l get GetHeader) at fits tt)
    where
      next : Bool → CallStage
      next b = if b then Getting l get GetField else answered_at (tablet_of x.n l.object) reply.NoField
  getting_kept l get GetField at fits = field_loaded x within l get at (known_then _ at fits tt)
  getting_kept l get (StoringGot v) at fits = got_stored x within l get v at (known_then _ at fits tt)

  pub putting_kept : (l : Located) (put : PutArgs) (s : PutStage) (at : At x within (Putting l put s))
      → Fitting (Putting l put s) → Kept (Putting l put s)
  putting_kept l put PutHeader at fits =
      by_lt (λ b. drivers.IsKnown (fed_to x within x.slot (Putting l put PutHeader) (next b))
      → Result x within x.slot (Putting l put PutHeader) (next b) (read x within l.address))
      put.field (slice_index x.s.words l.address) (λ less known. put_header_loaded x within l put at less known)
      (λ past known. put_no_field x within l put at past known)
      (known_then (Putting l put PutHeader) at fits tt)
    where
      next : Bool → CallStage
      next b = if b then Putting l put (before_store put.phase) else answered_at (tablet_of x.n l.object) reply.NoField
  putting_kept l put LoadingOld at fits =
      by (value_at (slice_index x.s.words (l.address + 1 + put.field))) refl
      (known_then (Putting l put LoadingOld) at fits tt)
    where
      by : (v : Value) → value_at (slice_index x.s.words (l.address + 1 + put.field)) ≡ v
          → drivers.IsKnown (fed_to x within x.slot (Putting l put LoadingOld) (Putting l put (old_fed v)))
          → Result x within x.slot (Putting l put LoadingOld) (Putting l put (old_fed v))
          (read x within (l.address + 1 + put.field))
      by value.Null e known = old_none x within l put at value.Null e tt known
      by (value.Num z) e known = old_none x within l put at (value.Num z) e tt known
      by (value.Ref old) e known = old_found x within l put at old e known
  putting_kept l put (LookingAtBarrier old) at fits =
      by_eq (λ b. drivers.IsKnown (fed_to x within x.slot s (next b))
      → Result x within x.slot s (next b) (read x within (index x.n (barrier x.m x.slot))))
      word 0 (λ free known. barrier_empty x within l put old at free known)
      (λ filled known. barrier_filled x within l put old word at known)
      (known_then s at fits tt)
    where
      s : CallStage
      s = Putting l put (LookingAtBarrier old)

      word : ℕ
      word = word_at x.n x.s.words (barrier x.m x.slot)

      next : Bool → CallStage
      next b = if b then Putting l put (StoringBarrier old)
          else leaving_tablet (tablet_of x.n l.object) (Paused (Barrier x.slot word))
  putting_kept l put (StoringBarrier old) at fits = barrier_stored x within l put old at (known_then _ at fits tt)
  putting_kept l put StoringField at fits = field_stored x within l put at (known_then _ at fits tt)

  -- ---- leaving
  pub leaving_kept : (s : LeaveStage) → LeavesPlainly s → (at : At x within (Leaving s)) → Fitting (Leaving s)
      → Kept (Leaving s)
  leaving_kept (Refused found) plain at fits =
      refused_left x within found at at.keeps.known.progress.task.known.agrees (known_then _ at fits tt)
  leaving_kept (TurnedAway t found) plain at fits =
      turned_back x within t found at at.keeps.known.progress.task.known.stage (known_then _ at fits tt)
  leaving_kept (FromTablet t (Answer r)) plain at fits =
      tablet_left x within t (Answer r) at at.keeps.known.progress.task.known.stage (known_then _ at fits tt)
  leaving_kept (FromTablet t NoRoom) plain at fits =
      tablet_left x within t NoRoom at at.keeps.known.progress.task.known.stage (known_then _ at fits tt)
  leaving_kept (FromTablet t (Paused r)) plain at fits =
      tablet_left x within t (Paused r) at at.keeps.known.progress.task.known.stage (known_then _ at fits tt)
  leaving_kept (FromOwn (Answer r)) plain at fits =
      subst (λ o. drivers.IsKnown (fed_to x within x.slot s (Ended o))
      → Result x within x.slot s (Ended o) (operated x within (mutator_gate x.m) (Sub 1)))
      (sym (outcome_answer x.last r)) (λ known. answered_left x within r at known) (known_then s at fits tt)
    where
      s : CallStage
      s = Leaving (FromOwn (Answer r))
  leaving_kept (FromOwn (Paused r)) plain at fits =
      subst (λ o. drivers.IsKnown (fed_to x within x.slot s (Ended o))
      → Result x within x.slot s (Ended o) (operated x within (mutator_gate x.m) (Sub 1)))
      (sym (outcome_paused x.last r))
      (λ known. paused_left x within r at at.keeps.known.progress.task.known.agrees known) (known_then s at fits tt)
    where
      s : CallStage
      s = Leaving (FromOwn (Paused r))
  leaving_kept (FromOwn NoRoom) plain at fits = absurd plain
