-- What the facets of a mutator say of each other, by its stage.
use Rattle.std.proofs.Common.{◌≡◌, ℕ, ◌+◌, ⊎_elim, List, [], ◌∷◌, Some, subst, refl, arith}
use Rattle.std.specs.List.{Contains}
use Rattle.std.proofs.lemmas.List.Elements.{Contains-get_or, Contains-append_cases, Contains-push_cases}
use Rattle.mako_words.specs.declared.name.Name.{Name}
use Rattle.mako_words.specs.declared.entry_word.EntryWord.{EntryWord}
use Rattle.mako_words.specs.declared.value.Value.{Value}
use Rattle.mako_words.specs.declared.value.Value.TheVariants.{Null, Num, Ref}
use Rattle.mako_shape.specs.declared.numbers.Numbers.{Numbers}
use Rattle.mako_gate.specs.Standings.{admitted_own}
use Rattle.mako_record.specs.declared.copier.CopyStage.{CopyStage}
use Rattle.mako_record.specs.declared.copier.CopyStage.TheVariants.{LoadingTop as CopyTop, LoadingHeader as CopyHeader}
use Rattle.mako_record.specs.declared.copier.CopyStage.TheVariants.{StoringHeader, LoadingField as CopyField}
use Rattle.mako_record.specs.declared.copier.CopyStage.TheVariants.{StoringField as CopyStore, StoringEntry, RaisingTop}
use Rattle.mako_record.specs.declared.copier.CopyStage.TheVariants.{Ended as CopyEnded}
use Rattle.mako_alloc.specs.Standings as allocating
use Rattle.mako_alloc.specs.declared.found.Found.TheVariants.{Made, Full, Pause}
use Rattle.mako_alloc.specs.declared.job.Job.{Job}
use Rattle.mako_alloc.specs.declared.progress.NewRecord.{NewRecord}
use Rattle.mako_alloc.specs.declared.progress.NewStage.{NewStage}
use Rattle.mako_alloc.specs.declared.progress.NewStage.TheVariants.{Arriving as NewArriving}
use Rattle.mako_alloc.specs.declared.progress.NewStage.TheVariants.{TurnedAway as NewTurnedAway}
use Rattle.mako_alloc.specs.declared.progress.NewStage.TheVariants.{TakingTurn as NewTakingTurn, LoadingLeaving}
use Rattle.mako_alloc.specs.declared.progress.NewStage.TheVariants.{LoadingTop, LoadingEntry as NewEntry}
use Rattle.mako_alloc.specs.declared.progress.NewStage.TheVariants.{LoadingHome as NewHome, Making}
use Rattle.mako_alloc.specs.declared.progress.NewStage.TheVariants.{GivingTurn as PassingTurn, Leaving as NewLeaving}
use Rattle.mako_alloc.specs.declared.progress.NewStage.TheVariants.{Ended as NewEnded}
use Rattle.mako_alloc.specs.declared.progress.Part.{Part}
use Rattle.mako_alloc.specs.declared.progress.Part.TheVariants.{Header, Field, Top, Entry}
use Rattle.mako_model.specs.declared.call.Call.{Call}
use Rattle.mako_model.specs.declared.call.Call.TheVariants as call
use Rattle.mako_model.specs.declared.point.Point.{Point}
use Rattle.mako_model.specs.Heaps.{Heap, root_of}
use Rattle.mako_model.specs.Legal.{Facts, state_of, IsLegal}
use Rattle.mako_call.specs.declared.object.Access.{Access}
use Rattle.mako_call.specs.declared.object.Access.TheVariants.{Get as Gets, Put as Puts}
use Rattle.mako_call.specs.declared.call_stage.CallStage.{CallStage}
use Rattle.mako_call.specs.declared.call_stage.CallStage.TheVariants.{Arriving, Rooting, Entering, Moving, Getting}
use Rattle.mako_call.specs.declared.call_stage.CallStage.TheVariants.{Putting, Allocating, Asking, Leaving, Ended}
use Rattle.mako_call.specs.declared.rooting.RootStage.{RootStage}
use Rattle.mako_call.specs.declared.rooting.RootStage.TheVariants.{StoringNumber, StoringNull, LoadingCopied}
use Rattle.mako_call.specs.declared.rooting.RootStage.TheVariants.{StoringCopied, LoadingShown, LoadingSource}
use Rattle.mako_call.specs.declared.rooting.RootStage.TheVariants.{LoadingTarget, LoadingValue, LoadingPhase}
use Rattle.mako_call.specs.declared.entering.EnterStage.TheVariants.{Arriving as EnterArriving, LoadingEntry}
use Rattle.mako_call.specs.declared.entering.EnterStage.TheVariants.{LoadingHome}
use Rattle.mako_call.specs.declared.moving.MoveStage.TheVariants.{TakingTurn, LoadingEntry as LoadingAgain}
use Rattle.mako_call.specs.declared.moving.MoveStage.TheVariants.{Copying as Copies, GivingTurn}
use Rattle.mako_call.specs.declared.getting.GetStage.TheVariants.{LoadingHeader as GetHeader, LoadingField as GetField}
use Rattle.mako_call.specs.declared.getting.GetStage.TheVariants.{StoringRoot as StoringGot}
use Rattle.mako_call.specs.declared.putting.PutStage.TheVariants.{LoadingHeader as PutHeader, LoadingOld}
use Rattle.mako_call.specs.declared.putting.PutStage.TheVariants.{LookingAtBarrier, StoringBarrier, StoringField}
use Rattle.mako_call.specs.declared.allocating.AllocStage.TheVariants.{LoadingPhase as NewPhase, Searching, StoringRoot}
use Rattle.mako_call.specs.declared.allocating.AllocStage.TheVariants.{GivingTurn as GivingNewTurn}
use Rattle.mako_call.specs.declared.asking.AskStage.TheVariants.{LoadingPhase as AskPhase, RaisingDemand}
use Rattle.mako_call.specs.declared.asking.AskStage.TheVariants.{Awaiting as AskAwaiting}
use Rattle.mako_call.specs.declared.leaving.LeaveStage.TheVariants.{Refused, TurnedAway, FromTablet, FromOwn}
use Rattle.mako_call.specs.Agreeing.{RootStageOf, AccessOf, StageOf}
use Rattle.mako_names.specs.Uses.{IsGood}
use Rattle.mako_names.proofs.Good.{no_name, root_is_good}
use Rattle.mako_layout.specs.Beside.{IsReading}
use Rattle.mako_phases.specs.Facets.{IsNotAdmitted}
use Rattle.mako_phases.specs.Orders.{names_in}
use Rattle.mako_state.specs.Says.{RootSays, AccessSays, StageSays}
use Rattle.mako_state.specs.Standings.{stage_standing}
use Rattle.mako_state.specs.Works.{stage_work, copy_work, part_work, new_stage_work}
use Rattle.mako_state.proofs.Objects.{handy}
use Rattle.mako_state.proofs.StageCalls.{puts_value, puts_at, puts_into}
use Rattle.mako_mutating.specs.MutatorFacets.{root_held, access_held, stage_held, stage_admission}
use Rattle.mako_mutating.proofs.Views.{ReadsHeld}

-- ---- names in short lists
pub first_in : {A : Type 0} (x : A) (xs : List A) → Contains (x ∷ xs) x
first_in x xs = Contains-get_or (x ∷ xs) 0 x (omega arith)

pub only_one : (x y : Name) → Contains (x ∷ []) y → x ≡ y
only_one x y among = ⊎_elim (λ none. absurd (no_name y none)) (λ e. e) (Contains-push_cases [] x y among)

pub access_first : (object : Name) (a : Access) → Contains (access_held object a) object
access_first object (Gets get) = first_in object []
access_first object (Puts put) = first_in object (names_in put.value)

-- ---- who reads a record has its name to use
copy_reads_none : (x : ℕ) (found : EntryWord) (home : ℕ) (s : CopyStage) → IsReading (copy_work x found home s) → ⊥
copy_reads_none x found home CopyTop r = r
copy_reads_none x found home (CopyHeader offset) r = r
copy_reads_none x found home (StoringHeader offset fields) r = r
copy_reads_none x found home (CopyField offset fields field) r = r
copy_reads_none x found home (CopyStore offset fields field word) r = r
copy_reads_none x found home (StoringEntry offset fields) r = r
copy_reads_none x found home (RaisingTop offset fields) r = r
copy_reads_none x found home (CopyEnded address) r = r

part_reads_none : (z : ℕ) (made : NewRecord) (p : Part) → IsReading (part_work z made p) → ⊥
part_reads_none z made Header r = r
part_reads_none z made (Field i) r = r
part_reads_none z made Top r = r
part_reads_none z made Entry r = r

new_reads_none : (job : Job) (t : ℕ) (s : NewStage) → IsReading (new_stage_work job t s) → ⊥
new_reads_none job t NewArriving r = r
new_reads_none job t NewTurnedAway r = r
new_reads_none job t NewTakingTurn r = r
new_reads_none job t LoadingLeaving r = r
new_reads_none job t LoadingTop r = r
new_reads_none job t (NewEntry kept place) r = r
new_reads_none job t (NewHome kept name) r = r
new_reads_none job t (Making made part) r = part_reads_none (job.fields + 1) made part r
new_reads_none job t PassingTurn r = r
new_reads_none job t NewLeaving r = r
new_reads_none job t (NewEnded found) r = r

pub stage_reads : (n : Numbers) (t : CallStage) → ReadsHeld (stage_held t) (stage_work n t)
stage_reads n Arriving r = absurd r
stage_reads n (Rooting s) r = absurd r
stage_reads n (Entering e EnterArriving) r = absurd r
stage_reads n (Entering e LoadingEntry) r = absurd r
stage_reads n (Entering e (LoadingHome found)) r = (e.object, access_first e.object e.access, refl)
stage_reads n (Moving e (TakingTurn home)) r = absurd r
stage_reads n (Moving e (LoadingAgain home)) r = absurd r
stage_reads n (Moving e (Copies copier)) r =
    absurd (copy_reads_none e.object.entry copier.entry copier.home copier.stage r)
stage_reads n (Moving e (GivingTurn address)) r = (e.object, access_first e.object e.access, refl)
stage_reads n (Getting at get GetHeader) r = (at.object, first_in at.object [], refl)
stage_reads n (Getting at get GetField) r = (at.object, first_in at.object [], refl)
stage_reads n (Getting at get (StoringGot value)) r = absurd r
stage_reads n (Putting at put s) r = (at.object, first_in at.object (names_in put.value), refl)
stage_reads n (Allocating (NewPhase root fields)) r = absurd r
stage_reads n (Allocating (Searching root search)) r =
    absurd (new_reads_none search.job _ search.progress.stage r)
stage_reads n (Allocating (StoringRoot root name tablet)) r = absurd r
stage_reads n (Allocating (GivingNewTurn name tablet)) r = absurd r
stage_reads n (Asking s) r = absurd r
stage_reads n (Leaving s) r = absurd r
stage_reads n (Ended outcome) r = absurd r

-- ---- who is not admitted at the gate is outside
search_is_admitted : (t : ℕ) (s : NewStage) → admitted_own (allocating.stage_standing t s) ≡ 0 → ⊥
search_is_admitted t NewArriving e = omega arith
search_is_admitted t NewTurnedAway e = omega arith
search_is_admitted t NewTakingTurn e = omega arith
search_is_admitted t LoadingLeaving e = omega arith
search_is_admitted t LoadingTop e = omega arith
search_is_admitted t (NewEntry kept place) e = omega arith
search_is_admitted t (NewHome kept name) e = omega arith
search_is_admitted t (Making made part) e = omega arith
search_is_admitted t PassingTurn e = omega arith
search_is_admitted t NewLeaving e = omega arith
search_is_admitted t (NewEnded (Made name u)) e = omega arith
search_is_admitted t (NewEnded Full) e = omega arith
search_is_admitted t (NewEnded (Pause reason)) e = omega arith

pub stage_gates : (n : Numbers) (t : CallStage) → admitted_own (stage_standing n t) ≡ 0
    → IsNotAdmitted (stage_admission t)
stage_gates n Arriving e = tt
stage_gates n (Rooting s) e = absurd (omega arith)
stage_gates n (Entering d EnterArriving) e = absurd (omega arith)
stage_gates n (Entering d LoadingEntry) e = absurd (omega arith)
stage_gates n (Entering d (LoadingHome found)) e = absurd (omega arith)
stage_gates n (Moving d (TakingTurn home)) e = absurd (omega arith)
stage_gates n (Moving d (LoadingAgain home)) e = absurd (omega arith)
stage_gates n (Moving d (Copies copier)) e = absurd (omega arith)
stage_gates n (Moving d (GivingTurn address)) e = absurd (omega arith)
stage_gates n (Getting at get s) e = absurd (omega arith)
stage_gates n (Putting at put s) e = absurd (omega arith)
stage_gates n (Allocating (NewPhase root fields)) e = absurd (omega arith)
stage_gates n (Allocating (Searching root search)) e = absurd (search_is_admitted _ search.progress.stage e)
stage_gates n (Allocating (StoringRoot root name tablet)) e = absurd (omega arith)
stage_gates n (Allocating (GivingNewTurn name tablet)) e = absurd (omega arith)
stage_gates n (Asking AskPhase) e = tt
stage_gates n (Asking (RaisingDemand cycle)) e = tt
stage_gates n (Asking (AskAwaiting cycle)) e = tt
stage_gates n (Leaving (Refused word)) e = tt
stage_gates n (Leaving (TurnedAway tablet word)) e = absurd (omega arith)
stage_gates n (Leaving (FromTablet tablet outcome)) e = absurd (omega arith)
stage_gates n (Leaving (FromOwn outcome)) e = absurd (omega arith)
stage_gates n (Ended outcome) e = tt

-- ---- a name to use is one that a root still has
-- the name of a new object alone is none that was loaded of a root
abbrev pub IsLoaded : CallStage → Type 0
IsLoaded (Allocating (StoringRoot root name tablet)) = ⊥
IsLoaded t = Unit {0}

module _ (w : Facts) (history : List Point) (legal : IsLegal w history) (m : ℕ) where
  abbrev h : Heap
  h = state_of w history

  value_good : (q : ℕ) (v : Value) → root_of h m q ≡ Some v → (name : Name) → Contains (names_in v) name
      → IsGood w history name
  value_good q Null is name among = absurd (no_name name among)
  value_good q (Num x) is name among = absurd (no_name name among)
  value_good q (Ref y) is name among =
      subst (IsGood w history) (only_one y name among) (root_is_good w history m q y legal is)

  object_good : (q : ℕ) (object : Name) → root_of h m q ≡ Some (Ref object) → (name : Name)
      → Contains (object ∷ []) name → IsGood w history name
  object_good q object is name among =
      subst (IsGood w history) (only_one object name among) (root_is_good w history m q object legal is)

  both_good : (to from : ℕ) (object : Name) (v : Value) → root_of h m to ≡ Some (Ref object) → root_of h m from ≡ Some v
      → (name : Name) → Contains (object ∷ names_in v) name → IsGood w history name
  both_good to from object v is value_is name among =
      ⊎_elim (λ one. object_good to object is name one) (λ one. value_good from v value_is name one)
      (Contains-append_cases (object ∷ []) (names_in v) name among)

  root_good : (c : Call) (s : RootStage) → RootStageOf c s → RootSays h m c s → (name : Name)
      → Contains (root_held s) name → IsGood w history name
  root_good c (StoringNumber to number) of says name among = absurd (no_name name among)
  root_good c (StoringNull to) of says name among = absurd (no_name name among)
  root_good c (LoadingCopied to from) of says name among = absurd (no_name name among)
  root_good c (StoringCopied to value) of says name among = absurd (no_name name among)
  root_good c (LoadingShown from) of says name among = absurd (no_name name among)
  root_good c (LoadingSource to from field) of says name among = absurd (no_name name among)
  root_good c (LoadingTarget to field from) of says name among = absurd (no_name name among)
  root_good c (LoadingValue object field from) of says name among =
      let put = puts_value c object field from of in
      let said : RootSays h m (call.Put put.to field from) (LoadingValue object field from) =
      subst (λ d. RootSays h m d (LoadingValue object field from)) put.is says in
      object_good put.to object said name among
  root_good c (LoadingPhase object field value) of says name among =
      let put = puts_at c object field value of in
      let said : RootSays h m (call.Put put.to field put.from) (LoadingPhase object field value) =
      subst (λ d. RootSays h m d (LoadingPhase object field value)) put.is says in
      both_good put.to put.from object value said.0 said.1 name among

  access_good : (c : Call) (object : Name) (a : Access) → AccessOf c a → AccessSays h m c object a → (name : Name)
      → Contains (access_held object a) name → IsGood w history name
  access_good c object (Gets get) of says name among =
      let hand = handy h m c object (Gets get) of says in object_good hand.at object hand.names name among
  access_good c object (Puts put) of says name among =
      let at = puts_into c put of in
      let said : AccessSays h m (call.Put at.to put.field at.from) object (Puts put) =
      subst (λ d. AccessSays h m d object (Puts put)) at.is says in
      both_good at.to at.from object put.value said.0 said.1 name among

  pub stage_good : (n : Numbers) (c : Call) (t : CallStage) → StageOf n c t → StageSays h m c t → IsLoaded t
      → (name : Name) → Contains (stage_held t) name → IsGood w history name
  stage_good n c Arriving of says loaded name among = absurd (no_name name among)
  stage_good n c (Rooting s) of says loaded name among = root_good c s of says name among
  stage_good n c (Entering e s) of says loaded name among = access_good c e.object e.access of says name among
  stage_good n c (Moving e s) of says loaded name among = access_good c e.object e.access of says name among
  stage_good n c (Getting at get GetHeader) of says loaded name among =
      access_good c at.object (Gets get) of says name among
  stage_good n c (Getting at get GetField) of says loaded name among =
      access_good c at.object (Gets get) of says.0 name among
  stage_good n c (Getting at get (StoringGot value)) of says loaded name among = absurd (no_name name among)
  stage_good n c (Putting at put PutHeader) of says loaded name among =
      access_good c at.object (Puts put) of says name among
  stage_good n c (Putting at put LoadingOld) of says loaded name among =
      access_good c at.object (Puts put) of says.0 name among
  stage_good n c (Putting at put (LookingAtBarrier old)) of says loaded name among =
      access_good c at.object (Puts put) of says.0 name among
  stage_good n c (Putting at put (StoringBarrier old)) of says loaded name among =
      access_good c at.object (Puts put) of says.0 name among
  stage_good n c (Putting at put StoringField) of says loaded name among =
      access_good c at.object (Puts put) of says.0 name among
  stage_good n c (Allocating (NewPhase root fields)) of says loaded name among = absurd (no_name name among)
  stage_good n c (Allocating (Searching root search)) of says loaded name among = absurd (no_name name among)
  stage_good n c (Allocating (StoringRoot root made tablet)) of says loaded name among = absurd loaded
  stage_good n c (Allocating (GivingNewTurn made tablet)) of says loaded name among = absurd (no_name name among)
  stage_good n c (Asking s) of says loaded name among = absurd (no_name name among)
  stage_good n c (Leaving s) of says loaded name among = absurd (no_name name among)
  stage_good n c (Ended outcome) of says loaded name among = absurd (no_name name among)
