-- Each step of an attempt keeps what the trail shows.
use Rattle.std.specs.List.{Contains}
use Rattle.std.proofs.Common.{◌≡◌, ℕ, Bool, true, false, ◌+◌, ◌≤◌, ◌==◌, List, [], ◌∷◌, ◌++◌, Option, Some, None}
use Rattle.std.proofs.Common.{nat_lt, if◌then◌else◌, append_assoc, append-nil, subst, sym, ap, ◌∙◌, refl, arith}
use Rattle.std.proofs.lemmas.List.Elements.{Contains-append_left, Contains-append_right}
use Rattle.mako_words.specs.Entries.{entry_at}
use Rattle.mako_words.specs.Gates.{is_shut}
use Rattle.mako_words.specs.Phases.{phase_at, cycle_of}
use Rattle.mako_words.specs.Values.{value_at}
use Rattle.mako_words.specs.declared.value.Value.{Value}
use Rattle.mako_words.specs.declared.value.Value.TheVariants.{Null, Num as NumValue, Ref}
use Rattle.mako_words.specs.declared.phase_word.PhaseWord.{PhaseWord}
use Rattle.mako_words.specs.declared.phase_word.PhaseWord.TheVariants.{Idle, Trace, Evac, Stop}
use Rattle.mako_step.specs.Machines.{IsAct}
use Rattle.mako_step.specs.Trails.{Observation}
use Rattle.mako_step.specs.Trails.Goes.{stays, steps}
use Rattle.mako_step.specs.declared.act.Act.{Act}
use Rattle.mako_step.specs.declared.act.Op.TheVariants.{Load}
use Rattle.mako_step.specs.declared.step.Step.{Step}
use Rattle.mako_step.specs.declared.step.Step.TheVariants.{Do}
use Rattle.mako_step.proofs.Along.{did, do_did, is_act, along}
use Rattle.mako_step.proofs.Cases.{by_le, by_eq, by_bool}
use Rattle.mako_model.specs.declared.call.Call.{Call}
use Rattle.mako_model.specs.declared.call.Call.TheVariants.{New, Num, CopyRoot, DropRoot, Get, Put, Show, Collect}
use Rattle.mako_model.specs.declared.reply.Reply.TheVariants.{NoField, Cycle as CycleReply, Spent}
use Rattle.mako_model.specs.declared.attempt.Attempt.{Attempt}
use Rattle.mako_model.specs.declared.attempt.Attempt.TheVariants.{Answer, Full, Pause as Paused}
use Rattle.mako_model.specs.declared.attempt.Pause.{Pause}
use Rattle.mako_model.specs.declared.attempt.Pause.TheVariants.{Stopped, Shut, Busy, Moving as BeingMoved, Barrier}
use Rattle.mako_model.specs.declared.attempt.Pause.TheVariants.{Cycle as NotYet}
use Rattle.mako_record.specs.Regions.{is_in_region}
use Rattle.mako_record.specs.Copying as copying
use Rattle.mako_record.specs.Copying.{Copying, opening_copy}
use Rattle.mako_record.specs.declared.copier.CopyStage.{CopyStage}
use Rattle.mako_record.specs.declared.copier.CopyStage.TheVariants.{LoadingTop, LoadingHeader as CopyHeader}
use Rattle.mako_record.specs.declared.copier.CopyStage.TheVariants.{StoringHeader, LoadingField as CopyField}
use Rattle.mako_record.specs.declared.copier.CopyStage.TheVariants.{StoringField as CopiedField, StoringEntry}
use Rattle.mako_record.specs.declared.copier.CopyStage.TheVariants.{RaisingTop, Ended as Copied}
use Rattle.mako_alloc.specs.Allocating as allocating
use Rattle.mako_alloc.specs.Allocating.{Allocation}
use Rattle.mako_alloc.specs.Causes.{IsCaused}
use Rattle.mako_alloc.specs.declared.found.Found.{Found}
use Rattle.mako_alloc.specs.declared.found.Found.TheVariants.{Made, Full as NoneFound, Pause as FoundPause}
use Rattle.mako_alloc.specs.declared.progress.NewStage.{NewStage}
use Rattle.mako_alloc.specs.declared.progress.NewStage.TheVariants.{Arriving as NewArriving}
use Rattle.mako_alloc.specs.declared.progress.NewStage.TheVariants.{TurnedAway as NewTurnedAway}
use Rattle.mako_alloc.specs.declared.progress.NewStage.TheVariants.{TakingTurn as NewTakingTurn, LoadingLeaving}
use Rattle.mako_alloc.specs.declared.progress.NewStage.TheVariants.{LoadingTop as NewTop, LoadingEntry as NewEntry}
use Rattle.mako_alloc.specs.declared.progress.NewStage.TheVariants.{LoadingHome as NewHome, Making}
use Rattle.mako_alloc.specs.declared.progress.NewStage.TheVariants.{GivingTurn as NewGivingTurn, Leaving as NewLeaving}
use Rattle.mako_alloc.specs.declared.progress.NewStage.TheVariants.{Ended as NewEnded}
use Rattle.mako_alloc.proofs.Caused.{results_are_caused}
use Rattle.mako_call.specs.declared.caller.Caller.{Caller}
use Rattle.mako_call.specs.declared.object.Get.{Get as GetArgs}
use Rattle.mako_call.specs.declared.object.Put.{Put as PutArgs}
use Rattle.mako_call.specs.declared.object.Access.{Access}
use Rattle.mako_call.specs.declared.object.Access.TheVariants.{Get as Gets, Put as Puts}
use Rattle.mako_call.specs.declared.object.Errand.{Errand}
use Rattle.mako_call.specs.declared.object.Located.{Located}
use Rattle.mako_call.specs.declared.call_stage.CallStage.{CallStage}
use Rattle.mako_call.specs.declared.call_stage.CallStage.TheVariants.{Arriving, Rooting, Entering, Moving, Getting}
use Rattle.mako_call.specs.declared.call_stage.CallStage.TheVariants.{Putting, Allocating, Asking, Leaving, Ended}
use Rattle.mako_call.specs.declared.rooting.RootStage.{RootStage}
use Rattle.mako_call.specs.declared.rooting.RootStage.TheVariants.{StoringNumber, StoringNull, LoadingCopied}
use Rattle.mako_call.specs.declared.rooting.RootStage.TheVariants.{StoringCopied, LoadingShown, LoadingSource}
use Rattle.mako_call.specs.declared.rooting.RootStage.TheVariants.{LoadingTarget, LoadingValue, LoadingPhase}
use Rattle.mako_call.specs.declared.entering.EnterStage.{EnterStage}
use Rattle.mako_call.specs.declared.entering.EnterStage.TheVariants.{Arriving as EnterArriving, LoadingEntry}
use Rattle.mako_call.specs.declared.entering.EnterStage.TheVariants.{LoadingHome}
use Rattle.mako_call.specs.declared.moving.MoveStage.{MoveStage}
use Rattle.mako_call.specs.declared.moving.MoveStage.TheVariants.{TakingTurn, LoadingEntry as LoadingAgain}
use Rattle.mako_call.specs.declared.moving.MoveStage.TheVariants.{Copying as Copies, GivingTurn}
use Rattle.mako_call.specs.declared.getting.GetStage.{GetStage}
use Rattle.mako_call.specs.declared.getting.GetStage.TheVariants.{LoadingHeader as GetHeader, LoadingField as GetField}
use Rattle.mako_call.specs.declared.getting.GetStage.TheVariants.{StoringRoot as StoringGot}
use Rattle.mako_call.specs.declared.putting.PutStage.{PutStage}
use Rattle.mako_call.specs.declared.putting.PutStage.TheVariants.{LoadingHeader as PutHeader, LoadingOld}
use Rattle.mako_call.specs.declared.putting.PutStage.TheVariants.{LookingAtBarrier, StoringBarrier, StoringField}
use Rattle.mako_call.specs.declared.allocating.AllocStage.{AllocStage}
use Rattle.mako_call.specs.declared.allocating.AllocStage.TheVariants.{LoadingPhase as NewPhase, Searching, StoringRoot}
use Rattle.mako_call.specs.declared.allocating.AllocStage.TheVariants.{GivingTurn as MadeGivingTurn}
use Rattle.mako_call.specs.declared.asking.AskStage.{AskStage}
use Rattle.mako_call.specs.declared.asking.AskStage.TheVariants.{LoadingPhase as AskPhase, RaisingDemand, Awaiting}
use Rattle.mako_call.specs.declared.leaving.LeaveStage.{LeaveStage}
use Rattle.mako_call.specs.declared.leaving.LeaveStage.TheVariants.{Refused, TurnedAway, FromTablet, FromOwn}
use Rattle.mako_call.specs.Agreeing.{AccessOf, AllocStageOf, IsCollect, IsNew, StageOf}
use Rattle.mako_call.specs.Objects.{tablet_of, at_record, at_object}
use Rattle.mako_call.specs.Rooting.{source_fed, target_fed, root_next, root_fed}
use Rattle.mako_call.specs.Entering.{enter_next, enter_fed}
use Rattle.mako_call.specs.Moving.{copy_fed, giving_turn, move_next, move_fed}
use Rattle.mako_call.specs.Getting.{get_next, get_fed}
use Rattle.mako_call.specs.Putting.{before_store, old_fed, put_next, put_fed}
use Rattle.mako_call.specs.Allocating.{found_fed, search_fed, opening_search, new_next, new_fed, NewFits, NewIsKnown}
use Rattle.mako_call.specs.Asking.{finished_cycles, ask_next, ask_fed}
use Rattle.mako_call.specs.Callers.{IsCaller}
use Rattle.mako_call.specs.Leaving.{leaving_tablet, answered_at, outcome_of, leave_next, leave_fed}
use Rattle.mako_call.specs.Calls.{Calling, stage_next, next_of, admitted, arrived, stage_fed, fed, StageFits, Fits}
use Rattle.mako_call.specs.Calls.{StageIsKnown, IsKnown, opening, first_stage}
use Rattle.mako_call.specs.Causes.{Searched, IsFirstIn, IsTrace, IsPut, IsPhaseSeen, PauseIsCaused, OutcomeIsCaused}
use Rattle.mako_call.specs.Causes.{OutcomesAreCaused}
use Rattle.mako_call.proofs.CallGoing.{call_known}
use Rattle.mako_call.proofs.Evidence.{AccessShows, PutShows, IsSearching, AllocShows, LeaveShows, StageShows, newest}
use Rattle.mako_call.proofs.Evidence.{still_phase, still_name, still_stopped, still_turned_away, still_caused}
use Rattle.mako_call.proofs.Evidence.{still_access}

-- the trail with what the next act finds
abbrev pub longer : List Observation → Step → ℕ → List Observation
longer trail step w = trail ++ record { act = did step; found = w } ∷ []

-- a call that goes to an object is no new
access_no_new : (call : Call) (access : Access) → AccessOf call access → IsNew call → ⊥
access_no_new (Get to from field) access of new = new
access_no_new (Put to field from) access of new = new
access_no_new (New root fields) access of new = of
access_no_new _ access of new = new

-- at an object's record
at_shows : (k : Caller) (call : Call) (trail : List Observation) (at : Located) (access : Access)
    → AccessShows k trail access → StageShows k call trail (at_record at access)
at_shows k call trail at (Gets get) h = tt
at_shows k call trail at (Puts put) h = h

-- a put has its own field
puts_field : (call : Call) (arg : PutArgs) → AccessOf call (Puts arg) → IsPut call arg.field
puts_field (Put to field from) arg of = of
puts_field _ arg of = absurd of

module _ (k : Caller) (call : Call) (trail : List Observation) (w : ℕ) where
  source_shows : (to field : ℕ) (v : Value) (t : List Observation) → StageShows k call t (source_fed to field v)
  source_shows to field Null t = tt
  source_shows to field (NumValue x) t = tt
  source_shows to field (Ref name) t = tt

  target_shows : (field from : ℕ) (v : Value) (t : List Observation) → StageShows k call t (target_fed field from v)
  target_shows field from Null t = tt
  target_shows field from (NumValue x) t = tt
  target_shows field from (Ref name) t = tt

  root_shows : (s : RootStage) → StageShows k call (longer trail (root_next k s) w) (root_fed s w)
  root_shows (StoringNumber r y) = tt
  root_shows (StoringNull r) = tt
  root_shows (LoadingCopied r q) = tt
  root_shows (StoringCopied r value) = tt
  root_shows (LoadingShown r) = tt
  root_shows (LoadingSource r q i) = source_shows r i (value_at w) (longer trail (root_next k (LoadingSource r q i)) w)
  root_shows (LoadingTarget r i q) = target_shows i q (value_at w) (longer trail (root_next k (LoadingTarget r i q)) w)
  root_shows (LoadingValue object i q) = tt
  root_shows (LoadingPhase object i value) = record { word = w; seen = newest trail _; is = refl }

  enter_shows : (e : Errand) (s : EnterStage) → AccessOf call e.access → AccessShows k trail e.access
      → StageShows k call (longer trail (enter_next k e s) w) (enter_fed k.shape e s w)
  enter_shows e EnterArriving of h =
      by_bool (λ b. StageShows k call (longer trail (enter_next k e EnterArriving) w)
      (if b then Leaving (TurnedAway (tablet_of k.shape e.object) w) else Entering e LoadingEntry)) (is_shut w)
      (λ shut. record {
        seen = newest trail _;
        shut = shut;
        first = λ new. absurd (access_no_new call e.access of new);
      })
      (λ _. still_access trail _ k e.access h)
  enter_shows e LoadingEntry of h = still_access trail _ k e.access h
  enter_shows e (LoadingHome found) of h =
      by_bool (λ b. StageShows k call (longer trail (enter_next k e (LoadingHome found)) w)
      (if b then at_object e found.address else Moving e (TakingTurn w))) (is_in_region k.shape w found.address)
      (λ _. at_shows k call (longer trail (enter_next k e (LoadingHome found)) w) (record {
        object = e.object;
        address = found.address;
      }) e.access (still_access trail _ k e.access h))
      (λ _. still_access trail _ k e.access h)

  copy_shows : (e : Errand) (t : List Observation) (c : Copying) (s : CopyStage) → AccessShows k t e.access
      → StageShows k call t (copy_fed e c s)
  copy_shows e t c LoadingTop h = h
  copy_shows e t c (CopyHeader offset) h = h
  copy_shows e t c (StoringHeader offset fields) h = h
  copy_shows e t c (CopyField offset fields field) h = h
  copy_shows e t c (CopiedField offset fields field word) h = h
  copy_shows e t c (StoringEntry offset fields) h = h
  copy_shows e t c (RaisingTop offset fields) h = h
  copy_shows e t c (Copied address) h = h

  move_shows : (e : Errand) (s : MoveStage) → AccessOf call e.access → AccessShows k trail e.access
      → StageShows k call (longer trail (move_next k e s) w) (move_fed k.shape e s w)
  move_shows e (TakingTurn home) of h =
      by_eq (λ b. StageShows k call (longer trail (move_next k e (TakingTurn home)) w)
      (if b then Moving e (LoadingAgain home) else leaving_tablet (tablet_of k.shape e.object)
      (Paused (Busy (tablet_of k.shape e.object) w)))) w 0
      (λ _. still_access trail _ k e.access h)
      (λ held. record {
        seen = newest trail _;
        held = held;
        first = λ new. absurd (access_no_new call e.access of new);
      })
  move_shows e (LoadingAgain home) of h =
      by_bool (λ b. StageShows k call (longer trail (move_next k e (LoadingAgain home)) w)
      (if b then giving_turn e (entry_at w).address else Moving e
      (Copies (opening_copy k.shape e.object.entry (entry_at w) home))))
      (is_in_region k.shape home (entry_at w).address)
      (λ _. still_access trail _ k e.access h) (λ _. still_access trail _ k e.access h)
  move_shows e (Copies copier) of h =
      copy_shows e (longer trail (move_next k e (Copies copier)) w) (copying.fed copier w) (copying.fed copier w).stage
      (still_access trail _ k e.access h)
  move_shows e (GivingTurn address) of h =
      at_shows k call (longer trail (move_next k e (GivingTurn address)) w) (record {
        object = e.object;
        address = address;
      }) e.access (still_access trail _ k e.access h)

  get_shows : (at : Located) (arg : GetArgs) (s : GetStage)
      → StageShows k call (longer trail (get_next k at arg s) w) (get_fed k.shape at arg s w)
  get_shows at arg GetHeader =
      by_bool (λ b. StageShows k call (longer trail (get_next k at arg GetHeader) w)
      (if b then Getting at arg GetField else answered_at (tablet_of k.shape at.object) NoField))
      (nat_lt arg.field w) (λ _. tt) (λ _. tt)
  get_shows at arg GetField = tt
  get_shows at arg (StoringGot value) = tt

  before_shows : (at : Located) (arg : PutArgs) (t : List Observation) (p : PhaseWord) → arg.phase ≡ p
      → IsPhaseSeen k t arg.phase → PutShows k t at arg (before_store p)
  before_shows at arg t (Idle c) is h = tt
  before_shows at arg t (Trace c) is h = (h, subst IsTrace (sym is) tt)
  before_shows at arg t (Evac c) is h = tt
  before_shows at arg t (Stop c) is h = tt

  old_shows : (at : Located) (arg : PutArgs) (t : List Observation) (v : Value) → value_at w ≡ v
      → IsPhaseSeen k t arg.phase → IsTrace arg.phase
      → Contains t (record { act = record { word = at.address + 1 + arg.field; op = Load }; found = w }) →
      PutShows k t at arg (old_fed v)
  old_shows at arg t Null is h traces seen = tt
  old_shows at arg t (NumValue x) is h traces seen = tt
  old_shows at arg t (Ref name) is h traces seen = (h, traces, record { word = w; seen = seen; is = is })

  put_shows : (slot : ℕ) (at : Located) (arg : PutArgs) (s : PutStage) → AccessOf call (Puts arg)
      → PutShows k trail at arg s →
      StageShows k call (longer trail (put_next k slot at arg s) w) (put_fed k.shape slot at arg s w)
  put_shows slot at arg PutHeader of h =
      by_bool (λ b. StageShows k call (longer trail (put_next k slot at arg PutHeader) w)
      (if b then Putting at arg (before_store arg.phase) else answered_at (tablet_of k.shape at.object) NoField))
      (nat_lt arg.field w)
      (λ _. before_shows at arg (longer trail (put_next k slot at arg PutHeader) w) arg.phase refl
      (still_phase trail _ k arg.phase h)) (λ _. tt)
  put_shows slot at arg LoadingOld of h =
      old_shows at arg (longer trail (put_next k slot at arg LoadingOld) w) (value_at w) refl
      (still_phase trail _ k arg.phase h.0) h.1 (newest trail _)
  put_shows slot at arg (LookingAtBarrier old) of h =
      by_eq (λ b. StageShows k call (longer trail (put_next k slot at arg (LookingAtBarrier old)) w)
      (if b then Putting at arg (StoringBarrier old) else leaving_tablet (tablet_of k.shape at.object)
      (Paused (Barrier slot w)))) w 0
      (λ _. tt)
      (λ filled. record {
        phase_is = arg.phase;
        phase_seen = still_phase trail _ k arg.phase h.0;
        traces = h.1;
        address = at.address;
        field = arg.field;
        puts = puts_field call arg of;
        name = old;
        name_seen = still_name trail _ at.address arg.field old h.2;
        seen = newest trail _;
        filled = filled;
      })
  put_shows slot at arg (StoringBarrier old) of h = tt
  put_shows slot at arg StoringField of h = tt

  ask_shows : (s : AskStage) → IsCollect call
      → StageShows k call (longer trail (ask_next k.shape s) w) (ask_fed k.shape s w)
  ask_shows AskPhase of =
      by_bool (λ b. StageShows k call (longer trail (ask_next k.shape AskPhase) w)
      (if b then Ended (Answer Spent) else Asking (RaisingDemand (cycle_of (phase_at w) + 1))))
      (cycle_of (phase_at w) == k.shape.cycles) (λ _. tt) (λ _. tt)
  ask_shows (RaisingDemand cycle) of = tt
  ask_shows (Awaiting cycle) of =
      by_le (λ b. StageShows k call (longer trail (ask_next k.shape (Awaiting cycle)) w)
      (if b then Ended (Answer (CycleReply cycle)) else Ended (Paused (NotYet cycle w)))) cycle
      (finished_cycles (phase_at w))
      (λ _. tt) (λ early. record { collects = of; seen = newest trail _; early = early })

  -- what the last attempt comes to rests on the same
  own_shows : (last : Bool) (o : Attempt) (t : List Observation) → OutcomeIsCaused k call t o
      → OutcomeIsCaused k call t (outcome_of last o)
  own_shows true Full t h = h
  own_shows false Full t h = h
  own_shows last (Answer reply) t h = h
  own_shows last (Paused pause) t h = h

  leave_shows : (last : Bool) (s : LeaveStage) → LeaveShows k call trail s
      → StageShows k call (longer trail (leave_next k s) w) (leave_fed last s)
  leave_shows last (Refused word) h = still_stopped trail _ k word h
  leave_shows last (TurnedAway t word) h = still_turned_away trail _ k call t word h
  leave_shows last (FromTablet t o) h = still_caused trail _ k call o h
  leave_shows last (FromOwn o) h =
      own_shows last o (longer trail (leave_next k (FromOwn o)) w) (still_caused trail _ k call o h)

-- the search has gone one step further
record Further (k : Caller) (root fields : ℕ) (trail : List Observation) (search : Allocation) : Type 0 where
  small : fields ≤ 14
  caller : IsCaller k
  at : IsSearching k fields trail search

searched : (k : Caller) (root fields : ℕ) (trail : List Observation) (search : Allocation) (found : Found)
    → Further k root fields trail search → search.progress.stage ≡ NewEnded found →
    Searched k (New root fields) trail (λ job part. IsCaused job part found)
searched k root fields trail search found f ended =
    let at = f.at in record {
      root = root;
      fields = fields;
      cycle = at.cycle;
      call_is = refl;
      earlier = at.earlier;
      search = at.part;
      later = [];
      splits = at.splits ∙ ap (λ t. at.earlier ++ t) (sym (append-nil at.part));
      shows = results_are_caused (record {
        shape = k.shape;
        mutator = k.mutator;
        fields = fields;
        cycle = at.cycle;
      }) at.part search found
          (record {
            shape = f.caller.shape;
            mutator = f.caller.mutator;
            fields = f.small;
            cycle = at.in_range;
          }) at.goes ended;
    }

-- the first reason stands in the whole trail
note_seen : (k : Caller) (call : Call) (trail : List Observation) (pause : Pause) (x : Observation)
    (h : IsFirstIn k call trail pause) → h.shows.observation ≡ x → Contains trail x
note_seen k call trail pause x h is =
    let n = h.shows in
    let here : Contains (n.observation ∷ n.later) x = (0, omega arith, is) in
    let in_part : Contains h.search x =
    subst (λ t. Contains t x) (sym n.splits) (Contains-append_right n.earlier (n.observation ∷ n.later) x here) in
    subst (λ t. Contains t x) (sym h.splits)
    (Contains-append_right h.earlier (h.search ++ h.later) x (Contains-append_left h.search h.later x in_part))

reason_caused : (k : Caller) (call : Call) (trail : List Observation) (pause : Pause) → IsFirstIn k call trail pause
    → PauseIsCaused k call trail pause
reason_caused k call trail (Stopped w) h = absurd h.shows.tells
reason_caused k call trail (Shut t w) h = record {
  seen = note_seen k call trail (Shut t w) _ h h.shows.tells.1;
  shut = h.shows.tells.2;
  first = λ _. h;
}
reason_caused k call trail (Busy t w) h = record {
  seen = note_seen k call trail (Busy t w) _ h h.shows.tells.1;
  held = h.shows.tells.2;
  first = λ _. h;
}
reason_caused k call trail (BeingMoved t w) h = h
reason_caused k call trail (Barrier slot w) h = absurd h.shows.tells
reason_caused k call trail (NotYet wanted w) h = absurd h.shows.tells

found_shows : (k : Caller) (root q fields : ℕ) (trail : List Observation) (search : Allocation) (found : Found)
    → Further k root fields trail search → search.progress.stage ≡ NewEnded found →
    StageShows k (New root fields) trail (found_fed q found)
found_shows k root q fields trail search (Made name t) f ended = tt
found_shows k root q fields trail search NoneFound f ended = searched k root fields trail search NoneFound f ended
found_shows k root q fields trail search (FoundPause reason) f ended =
    reason_caused k (New root fields) trail reason (searched k root fields trail search (FoundPause reason) f ended)

search_shows : (k : Caller) (root q : ℕ) (trail : List Observation) (search : Allocation) (s : NewStage)
    → search.progress.stage ≡ s → Further k root search.job.fields trail search →
    StageShows k (New root search.job.fields) trail (search_fed q search s)
search_shows k root q trail search NewArriving at f = f.at
search_shows k root q trail search NewTurnedAway at f = f.at
search_shows k root q trail search NewTakingTurn at f = f.at
search_shows k root q trail search LoadingLeaving at f = f.at
search_shows k root q trail search NewTop at f = f.at
search_shows k root q trail search (NewEntry kept place) at f = f.at
search_shows k root q trail search (NewHome kept name) at f = f.at
search_shows k root q trail search (Making r part) at f = f.at
search_shows k root q trail search NewGivingTurn at f = f.at
search_shows k root q trail search NewLeaving at f = f.at
search_shows k root q trail search (NewEnded found) at f =
    found_shows k root q search.job.fields trail search found f at

alloc_shows : (k : Caller) (root fields : ℕ) (s : AllocStage) (trail : List Observation) (w : ℕ) → IsCaller k
    → NewIsKnown k s → AllocStageOf (New root fields) s → NewFits k.shape s w → IsAct (new_next k s) →
    AllocShows k trail s → StageShows k (New root fields) (longer trail (new_next k s) w) (new_fed k s w)
alloc_shows k root fields (NewPhase q f) trail w caller known of fits acts h =
    let t = longer trail (new_next k (NewPhase q f)) w in
    record {
      cycle = cycle_of (phase_at w);
      in_range = fits.1;
      earlier = t;
      part = [];
      splits = sym (append-nil t);
      goes = stays (opening_search k f (cycle_of (phase_at w)));
    }
alloc_shows k root fields (Searching q search) trail w caller known of fits acts h =
    let o : Observation = record { act = did (allocating.next_of search); found = w } in
    let after = allocating.fed search w in
    let on : IsSearching k search.job.fields (trail ++ o ∷ []) after = record {
      cycle = h.cycle;
      in_range = h.in_range;
      earlier = h.earlier;
      part = h.part ++ o ∷ [];
      splits = ap (λ t. t ++ o ∷ []) h.splits ∙ append_assoc h.earlier h.part (o ∷ []);
      goes = steps _ search h.part (did (allocating.next_of search)) w h.goes
          (do_did (allocating.next_of search) acts) fits;
    } in
    let Of : ℕ → Type 0 = λ n. StageShows k (New root n) (trail ++ o ∷ []) (search_fed q after after.progress.stage) in
    subst Of of.1 (search_shows k root q (trail ++ o ∷
    []) after after.progress.stage refl (record { small = known.1.numbers.fields; caller = caller; at = on }))
alloc_shows k root fields (StoringRoot q name tablet) trail w caller known of fits acts h = tt
alloc_shows k root fields (MadeGivingTurn name tablet) trail w caller known of fits acts h = tt

new_shows : (k : Caller) (call : Call) (s : AllocStage) (trail : List Observation) (w : ℕ) → IsCaller k → NewIsKnown k s
    → AllocStageOf call s → NewFits k.shape s w → IsAct (new_next k s) →
    AllocShows k trail s → StageShows k call (longer trail (new_next k s) w) (new_fed k s w)
new_shows k (New root fields) s trail w caller known of fits acts h =
    alloc_shows k root fields s trail w caller known of fits acts h
new_shows k _ s trail w caller known of fits acts h = absurd of

admitted_shows : (k : Caller) (call : Call) (t : List Observation) → StageShows k call t (admitted call)
admitted_shows k (New root fields) t = tt
admitted_shows k (Num root x) t = tt
admitted_shows k (CopyRoot to from) t = tt
admitted_shows k (DropRoot root) t = tt
admitted_shows k (Get to from field) t = tt
admitted_shows k (Put to field from) t = tt
admitted_shows k (Show root) t = tt
admitted_shows k Collect t = tt

stage_shows : (k : Caller) (call : Call) (last : Bool) (slot : ℕ) (s : CallStage) (trail : List Observation) (w : ℕ)
    → IsCaller k → StageIsKnown k s → StageOf k.shape call s → StageFits k.shape s w →
    IsAct (stage_next k slot s) → StageShows k call trail s
    → StageShows k call (longer trail (stage_next k slot s) w) (stage_fed k call last slot s w)
stage_shows k call last slot Arriving trail w caller known of fits acts h =
    by_bool (λ b. StageShows k call (longer trail (stage_next k slot Arriving) w) (arrived call w b)) (is_shut w)
    (λ shut. record { later = []; first = ap (λ t. longer t (stage_next k slot Arriving) w) h; shut = shut })
    (λ _. admitted_shows k call (longer trail (stage_next k slot Arriving) w))
stage_shows k call last slot (Rooting s) trail w caller known of fits acts h = root_shows k call trail w s
stage_shows k call last slot (Entering e s) trail w caller known of fits acts h = enter_shows k call trail w e s of h
stage_shows k call last slot (Moving e s) trail w caller known of fits acts h = move_shows k call trail w e s of h
stage_shows k call last slot (Getting at arg s) trail w caller known of fits acts h = get_shows k call trail w at arg s
stage_shows k call last slot (Putting at arg s) trail w caller known of fits acts h =
    put_shows k call trail w slot at arg s of h
stage_shows k call last slot (Allocating s) trail w caller known of fits acts h =
    new_shows k call s trail w caller known of fits acts h
stage_shows k call last slot (Asking s) trail w caller known of fits acts h = ask_shows k call trail w s of
stage_shows k call last slot (Leaving s) trail w caller known of fits acts h = leave_shows k call trail w last s h
stage_shows k call last slot (Ended outcome) trail w caller known of fits acts h = absurd acts

-- what holds at the end of a trail of an attempt
record Along (k : Caller) (call : Call) (trail : List Observation) (l : Calling) : Type 0 where
  known : IsKnown l
  caller_is : l.caller ≡ k
  call_is : l.call ≡ call
  shows : StageShows k call trail l.stage

first_shows : (k : Caller) (call : Call) (asked : Option ℕ) → StageShows k call [] (first_stage call asked)
first_shows k (New root fields) asked = refl
first_shows k (Num root x) asked = refl
first_shows k (CopyRoot to from) asked = refl
first_shows k (DropRoot root) asked = refl
first_shows k (Get to from field) asked = refl
first_shows k (Put to field from) asked = refl
first_shows k (Show root) asked = refl
first_shows k Collect None = tt
first_shows k Collect (Some cycle) = tt

one_step : (k : Caller) (call : Call) (l : Calling) (trail : List Observation) (act : Act) (w : ℕ) → next_of l ≡ Do act
    → Fits l w → Along k call trail l → Along k call (trail ++ record { act = act; found = w } ∷ []) (fed l w)
one_step k call l trail act w next fits a =
    let acts = is_act (next_of l) act next in
    let At : Caller → Call → Type 0 = λ j c. StageShows j c trail l.stage in
    let here : StageShows l.caller l.call trail l.stage =
    subst (λ j. At j l.call) (sym a.caller_is) (subst (λ c. At k c) (sym a.call_is) a.shows) in
    let on = stage_shows l.caller l.call l.last l.slot l.stage trail w a.known.caller a.known.stage a.known.agrees fits
    acts here in
    let To : Caller → Call → Act
    → Type 0 = λ j c b. StageShows j c (trail ++ record { act = b; found = w } ∷ []) (fed l w).stage in
    record {
      known = call_known l w a.known fits acts;
      caller_is = a.caller_is;
      call_is = a.call_is;
      shows = subst (λ b. To k call b) (ap did next)
          (subst (λ j. To j call (did (next_of l))) a.caller_is
          (subst (λ c. To l.caller c (did (next_of l))) a.call_is on));
    }

opens : (k : Caller) (call : Call) (last : Bool) (asked : Option ℕ) (slot : ℕ)
    → IsKnown (opening k call last asked slot) → Along k call [] (opening k call last asked slot)
opens k call last asked slot known = record {
  known = known;
  caller_is = refl;
  call_is = refl;
  shows = first_shows k call asked;
}

pub outcomes_are_caused : OutcomesAreCaused
outcomes_are_caused k call last asked slot trail l outcome known goes ended =
    let a = along next_of Fits fed (λ j t. Along k call t j) (one_step k call) (opening k call last asked slot) l trail
    (opens k call last asked slot known) goes in
    let P : CallStage → Type 0 = λ s. StageShows k call trail s in
    subst P ended a.shows
