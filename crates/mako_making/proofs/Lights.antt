-- Steps at which a mutator keeps its roots and their words: those of collects, waits, and of a search up to its entry.
use Rattle.std.proofs.Common.{◌≡◌, ◌≢◌, ℕ, ◌+◌, ◌*◌, ◌<◌, ◌≤◌, ◌==◌, nat_le, Bool, true, false, if◌then◌else◌}
use Rattle.std.proofs.Common.{slice_get, Option, Some, None, sym, ap, subst, refl, ◌∙◌, arith}
use Rattle.mako_words.specs.declared.name.Name.{Name}
use Rattle.mako_words.specs.Gates.{is_shut}
use Rattle.mako_words.specs.Phases.{phase_at, cycle_of}
use Rattle.mako_shape.specs.declared.numbers.Numbers.{Numbers}
use Rattle.mako_shape.specs.Places.{Place, phase, demand, mutator_gate, tablet_gate, turn, leaving, top, entry, home}
use Rattle.mako_shape.specs.Places.{region_word, area_of, index, Within, word_at}
use Rattle.mako_step.specs.Acts.{after_op, does, words_after, words_stepped}
use Rattle.mako_step.specs.Machines.{IsAct}
use Rattle.mako_step.specs.declared.act.Op.{Op}
use Rattle.mako_step.specs.declared.act.Op.TheVariants.{Load, Store, Add, Sub, Max, Exchange}
use Rattle.mako_step.proofs.Cases.{by_lt, by_le, by_eq, by_bool}
use Rattle.mako_model.specs.declared.attempt.Attempt.TheVariants.{Answer, Full as NoRoom, Pause as Paused}
use Rattle.mako_model.specs.declared.attempt.Pause.{Pause as Reason}
use Rattle.mako_model.specs.declared.attempt.Pause.TheVariants.{Cycle as NotYet, Shut, Busy, Moving as BeingMoved}
use Rattle.mako_model.specs.declared.call.Call.{Call}
use Rattle.mako_model.specs.declared.call.Call.TheVariants as call
use Rattle.mako_model.specs.declared.reply.Reply.{Reply}
use Rattle.mako_model.specs.declared.reply.Reply.TheVariants as reply
use Rattle.mako_model.specs.declared.point.Point.TheVariants.{Did}
use Rattle.mako_model.specs.Heaps.{Heap}
use Rattle.mako_model.specs.Lawful.{heap_after}
use Rattle.mako_model.specs.Legal.{Facts, state_of}
use Rattle.mako_alloc.specs.Allocating as allocating
use Rattle.mako_alloc.specs.Allocating.{Allocation, first, noted, outcome}
use Rattle.mako_alloc.specs.declared.found.Found.TheVariants.{Made, Full as FoundFull, Pause as FoundPause}
use Rattle.mako_alloc.specs.declared.progress.NewStage.{NewStage}
use Rattle.mako_alloc.specs.declared.progress.NewStage.TheVariants.{Arriving as NewArriving}
use Rattle.mako_alloc.specs.declared.progress.NewStage.TheVariants.{TurnedAway as NewTurnedAway}
use Rattle.mako_alloc.specs.declared.progress.NewStage.TheVariants.{TakingTurn as NewTakingTurn, LoadingLeaving}
use Rattle.mako_alloc.specs.declared.progress.NewStage.TheVariants.{LoadingTop, LoadingEntry as NewEntry}
use Rattle.mako_alloc.specs.declared.progress.NewStage.TheVariants.{LoadingHome as NewHome, Making}
use Rattle.mako_alloc.specs.declared.progress.NewStage.TheVariants.{GivingTurn as PassingTurn, Leaving as NewLeaving}
use Rattle.mako_alloc.specs.declared.progress.NewStage.TheVariants.{Ended as NewEnded}
use Rattle.mako_alloc.specs.declared.progress.Progress.{Progress}
use Rattle.mako_alloc.specs.declared.progress.Part.TheVariants.{Header, Field, Top, Entry}
use Rattle.mako_alloc.specs.declared.progress.NewRecord.{NewRecord}
use Rattle.mako_call.specs.declared.call_stage.CallStage.{CallStage}
use Rattle.mako_call.specs.declared.call_stage.CallStage.TheVariants.{Allocating, Asking, Leaving, Ended}
use Rattle.mako_call.specs.declared.asking.AskStage.{AskStage}
use Rattle.mako_call.specs.declared.asking.AskStage.TheVariants.{LoadingPhase as AskPhase, RaisingDemand}
use Rattle.mako_call.specs.declared.asking.AskStage.TheVariants.{Awaiting as AskAwaiting}
use Rattle.mako_call.specs.declared.allocating.AllocStage.TheVariants.{LoadingPhase as NewPhase}
use Rattle.mako_call.specs.declared.allocating.AllocStage.TheVariants.{GivingTurn as GivingNewTurn}
use Rattle.mako_call.specs.declared.leaving.LeaveStage.TheVariants.{FromOwn}
use Rattle.mako_call.specs.Agreeing.{IsNew, asked_of}
use Rattle.mako_call.specs.Allocating.{search_fed}
use Rattle.mako_call.specs.Asking.{finished_cycles}
use Rattle.mako_call.specs.Calls.{decided, event_by}
use Rattle.mako_call.specs.Leaving.{outcome_of}
use Rattle.mako_mutator.specs.Drivers as drivers
use Rattle.mako_mutator.specs.Drivers.{Driving}
use Rattle.mako_mutator.proofs.DriverGoing.{driver_known}
use Rattle.mako_joint.specs.Joints.{JointScene}
use Rattle.mako_state.proofs.Words.{same_roots}
use Rattle.mako_mutating.specs.Mutators.{MutatorKeeps, found_by, stepped}
use Rattle.mako_making.specs.Makings.{IsAt}
use Rattle.mako_making.proofs.Searches.{y, seeking, present, AtStage, low_tablet, job, progress, on}
use Rattle.mako_making.proofs.Selves.{IsBare, IsStill, SameRoots, roots_loaded, task_is_bare, keeps_itself}
use Rattle.mako_making.proofs.Trials.{Trial, k, driver, waiter, fed_to, waited_to}

-- a step that leaves the roots and their words as they were
pub record IsLight (n : Numbers) (w : Facts) (s : JointScene) (m : ℕ) (d : Driving) : Type 0 where
  pub was : IsBare d.progress.task
  pub acts : IsAct (drivers.next_of d)
  pub roots : SameRoots n m s.words (words_stepped (drivers.next_of d) s.words)
  pub bare : IsBare (drivers.fed d (found_by s d)).progress.task
  pub still : IsStill (state_of w s.front.history) m (drivers.event_of d (found_by s d))

-- the mutator keeps what it keeps of itself
abbrev pub SelfKept : Numbers → Facts → JointScene → ℕ → Driving → Type 0
SelfKept n w s m d =
    MutatorKeeps n w (stepped s m d).words (stepped s m d).front m (drivers.fed d (found_by s d))

pub light_kept : (n : Numbers) (w : Facts) (s : JointScene) (m : ℕ) (d : Driving)
    → MutatorKeeps n w s.words s.front m d → drivers.Fits d (found_by s d) → IsLight n w s m d → SelfKept n w s m d
light_kept n w s m d keeps fits light =
    keeps_itself n w s m d keeps light.was (words_stepped (drivers.next_of d) s.words) light.roots
    (drivers.fed d (found_by s d)) (driver_known d (found_by s d) keeps.known fits light.acts) refl refl light.bare
    (drivers.event_of d (found_by s d)) light.still refl

module _ (x : Trial) where
  abbrev h : Heap
  h = state_of x.w x.s.front.history

  abbrev Light : Driving → Type 0
  Light d = IsLight x.n x.w x.s x.m d

  -- an act at a place that is no root
  pub roots_at : (p : Place) (op : Op) → Within x.n p → area_of p ≢ 4
      → SameRoots x.n x.m x.s.words (words_after (record { word = index x.n p; op = op }) x.s.words)
  roots_at p op within other q in_row =
      same_roots x.n x.s.words p (after_op op (word_at x.n x.s.words p)) within other x.m q x.low in_row

  -- what a step from one stage to another leaves and tells
  abbrev Quietly : CallStage → CallStage → Type 0
  Quietly s t = IsBare (fed_to x s t).progress.task × IsStill h x.m (event_by x.m x.call (decided s) (decided t))

  -- ---- a collect
  still_told : (r : Reply) → heap_after h (Did x.m call.Collect r) ≡ h → x.call ≡ call.Collect
      → heap_after h (Did x.m x.call r) ≡ h
  still_told r same is = ap (λ c. heap_after h (Did x.m c r)) is ∙ same

  pub ask_light : x.call ≡ call.Collect → (s : AskStage) → Light (driver x (Asking s))
  ask_light is AskPhase =
      let v = word_at x.n x.s.words phase in
      let now = cycle_of (phase_at v) in
      let yes_ : CallStage = Ended (Answer reply.Spent) in
      let no_ : CallStage = Asking (RaisingDemand (now + 1)) in
      let both : Quietly (Asking AskPhase) (if now == x.n.cycles then yes_ else no_) =
      by_eq (λ b. Quietly (Asking AskPhase) (if b then yes_ else no_)) now x.n.cycles
      (λ all. (
        task_is_bare (k x) (slice_get x.calls (x.done + 1)) false (asked_of x.call (Answer reply.Spent)) x.slot,
        (refl, still_told reply.Spent refl is),
      ))
      (λ more. (tt, tt)) in record {
        was = tt;
        acts = tt;
        roots = roots_loaded x.n x.m x.s.words (index x.n phase);
        bare = both.0;
        still = both.1;
      }
  ask_light is (RaisingDemand cycle) = record {
    was = tt;
    acts = tt;
    roots = roots_at demand (Max cycle) tt (λ e. omega arith);
    bare = tt;
    still = tt;
  }
  ask_light is (AskAwaiting cycle) =
      let v = word_at x.n x.s.words phase in
      let yes_ : CallStage = Ended (Answer (reply.Cycle cycle)) in
      let no_ : CallStage = Ended (Paused (NotYet cycle v)) in
      let past : ℕ = finished_cycles (phase_at v) in
      let both : Quietly (Asking (AskAwaiting cycle)) (if nat_le cycle past then yes_ else no_)
      =
      by_le (λ b. Quietly (Asking (AskAwaiting cycle)) (if b then yes_ else no_)) cycle (finished_cycles (phase_at v))
      (λ all. (
        task_is_bare (k x) (slice_get x.calls (x.done + 1)) false (asked_of x.call (Answer (reply.Cycle cycle)))
            x.slot,
        (refl, still_told (reply.Cycle cycle) refl is),
      ))
      (λ more. (task_is_bare (k x) (Some x.call) x.last (asked_of x.call (Paused (NotYet cycle v))) x.slot, tt)) in
      record {
        was = tt;
        acts = tt;
        roots = roots_loaded x.n x.m x.s.words (index x.n phase);
        bare = both.0;
        still = both.1;
      }

  -- ---- a wait
  pub wait_light : (s : AskStage) → Light (waiter x (Asking s))
  wait_light AskPhase =
      let v = word_at x.n x.s.words phase in
      let now = cycle_of (phase_at v) in
      let yes_ : CallStage = Ended (Answer reply.Spent) in
      let no_ : CallStage = Asking (RaisingDemand (now + 1)) in record {
        was = tt;
        acts = tt;
        roots = roots_loaded x.n x.m x.s.words (index x.n phase);
        bare = by_eq (λ b. IsBare (waited_to x (Asking AskPhase) (if b then yes_ else no_)).progress.task) now
            x.n.cycles
            (λ all. task_is_bare (k x) (slice_get x.calls x.done) true (asked_of x.call (Answer reply.Spent)) x.slot)
            (λ more. tt);
        still = tt;
      }
  wait_light (RaisingDemand cycle) = record {
    was = tt;
    acts = tt;
    roots = roots_at demand (Max cycle) tt (λ e. omega arith);
    bare = tt;
    still = tt;
  }
  wait_light (AskAwaiting cycle) =
      let v = word_at x.n x.s.words phase in
      let yes_ : CallStage = Ended (Answer (reply.Cycle cycle)) in
      let no_ : CallStage = Ended (Paused (NotYet cycle v)) in record {
        was = tt;
        acts = tt;
        roots = roots_loaded x.n x.m x.s.words (index x.n phase);
        bare = by_le (λ b. IsBare (waited_to x (Asking (AskAwaiting cycle)) (if b then yes_ else no_)).progress.task)
            cycle (finished_cycles (phase_at v))
            (λ all. task_is_bare (k x) (slice_get x.calls x.done) true (asked_of x.call (Answer (reply.Cycle cycle)))
            x.slot)
            (λ more. tt);
        still = tt;
      }

  -- ---- an attempt without room
  new_is_still : (c : Call) → IsNew c → heap_after h (Did x.m c reply.Full) ≡ h
  new_is_still (call.New q fields) new = refl
  new_is_still (call.Num q number) new = absurd new
  new_is_still (call.CopyRoot to from) new = absurd new
  new_is_still (call.DropRoot q) new = absurd new
  new_is_still (call.Get to from field) new = absurd new
  new_is_still (call.Put to field from) new = absurd new
  new_is_still (call.Show q) new = absurd new
  new_is_still call.Collect new = absurd new

  ends_quietly : IsNew x.call → (last : Bool)
      → Quietly (Leaving (FromOwn NoRoom)) (Ended (outcome_of last NoRoom))
  ends_quietly new true = (
    task_is_bare (k x) (slice_get x.calls (x.done + 1)) false (asked_of x.call (Answer reply.Full)) x.slot,
    (refl, new_is_still x.call new),
  )
  ends_quietly new false = (tt, tt)

  pub full_light : IsNew x.call → Light (driver x (Leaving (FromOwn NoRoom)))
  full_light new = record {
    was = tt;
    acts = tt;
    roots = roots_at (mutator_gate x.m) (Sub 1) x.low (λ e. omega arith);
    bare = (ends_quietly new x.last).0;
    still = (ends_quietly new x.last).1;
  }

  -- ---- a new, but for its search
  pub phase_light : (q f : ℕ) → Light (driver x (Allocating (NewPhase q f)))
  phase_light q f = record {
    was = tt;
    acts = tt;
    roots = roots_loaded x.n x.m x.s.words (index x.n phase);
    bare = tt;
    still = tt;
  }

  pub turn_light : (name : Name) (t : ℕ) → IsAt x.n x.s x.m (driver x (Allocating (GivingNewTurn name t)))
      → Light (driver x (Allocating (GivingNewTurn name t)))
  turn_light name t at = record {
    was = tt;
    acts = tt;
    roots = roots_at (turn t) (Store 0) at.known.progress.task.known.stage (λ e. omega arith);
    bare = tt;
    still = tt;
  }

-- ---- a search, up to its entry

-- a search that has made no object yet
abbrev IsSeeking : NewStage → Type 0
IsSeeking (NewEnded (Made name tablet)) = ⊥
IsSeeking s = Unit {0}

module _ (x : Trial) (q f c passed : ℕ) (o : Option Reason) where
  abbrev z : Trial
  z = y x q f c

  abbrev t : ℕ
  t = present x q f c passed

  abbrev at_stage : NewStage → CallStage
  at_stage r = seeking x q f c passed o r

  -- wherever it goes on to
  goes_quietly : (r : NewStage) (p : Progress) → IsSeeking p.stage → Quietly z (at_stage r) (on x q f c p)
  goes_quietly r p seeks = by p.stage seeks
    where
      a : Allocation
      a = record { job = job x q f c; progress = p }

      by : (s : NewStage) → IsSeeking s → Quietly z (at_stage r) (search_fed q a s)
      by NewArriving b = (tt, tt)
      by NewTurnedAway b = (tt, tt)
      by NewTakingTurn b = (tt, tt)
      by LoadingLeaving b = (tt, tt)
      by LoadingTop b = (tt, tt)
      by (NewEntry kept place) b = (tt, tt)
      by (NewHome kept name) b = (tt, tt)
      by (Making made part) b = (tt, tt)
      by PassingTurn b = (tt, tt)
      by NewLeaving b = (tt, tt)
      by (NewEnded (Made name tablet)) b = absurd b
      by (NewEnded FoundFull) b = (tt, tt)
      by (NewEnded (FoundPause reason)) b = (tt, tt)

  ends_seeking : (note : Option Reason) → IsSeeking (NewEnded (outcome note))
  ends_seeking None = tt
  ends_seeking (Some reason) = tt

  passes_seeking : (p : Progress) → IsSeeking (allocating.passed_on (job x q f c) p).stage
  passes_seeking p =
      by_lt (λ b. IsSeeking (if b then record { passed = p.passed + 1; note = p.note; stage = NewArriving }
      else allocating.at p (NewEnded (outcome p.note))).stage) (p.passed + 1)
      (allocating.all_tablets (job x q f c).shape) (λ more. tt) (λ past. ends_seeking p.note)

  seeks_on : (kept place : ℕ) → IsSeeking (allocating.seeking (job x q f c) kept place)
  seeks_on kept place =
      by_lt (λ b. IsSeeking (if b then NewEntry kept place else PassingTurn)) place x.n.entries
      (λ more. tt) (λ past. tt)

  -- a search that has not stored its entry goes on seeking, whatever it finds
  abbrev IsBefore : NewStage → Type 0
  IsBefore (Making made Entry) = ⊥
  IsBefore (NewEnded found) = ⊥
  IsBefore s = Unit {0}

  entry_seeks : (kept place : ℕ) (found : Option ℕ)
      → IsSeeking (allocating.entry_fed (job x q f c) t kept place found)
  entry_seeks kept place None = seeks_on kept (place + 1)
  entry_seeks kept place (Some generation) = tt

  seeks : (r : NewStage) → IsBefore r → (v : ℕ)
      → IsSeeking (allocating.stage_fed (job x q f c) t (progress x q f c passed o r) r v).stage
  seeks NewArriving b v =
      let p = progress x q f c passed o NewArriving in
      by_bool (λ k. IsSeeking (if k then noted p (Shut t v) NewTurnedAway else allocating.at p NewTakingTurn).stage)
      (is_shut v) (λ e. tt) (λ e. tt)
  seeks NewTurnedAway b v = passes_seeking (progress x q f c passed o NewTurnedAway)
  seeks NewTakingTurn b v =
      let p = progress x q f c passed o NewTakingTurn in
      by_eq (λ k. IsSeeking (if k then allocating.at p LoadingLeaving else noted p (Busy t v) NewLeaving).stage) v 0
      (λ e. tt) (λ e. tt)
  seeks LoadingLeaving b v =
      let p = progress x q f c passed o LoadingLeaving in
      by_eq (λ k. IsSeeking (if k then allocating.at p LoadingTop else noted p (BeingMoved t v) PassingTurn).stage) v 0
      (λ e. tt) (λ e. tt)
  seeks LoadingTop b v =
      by_le (λ k. IsSeeking (if k then allocating.seeking (job x q f c) v 0 else PassingTurn)) (v + f + 1) x.n.words
      (λ e. seeks_on v 0) (λ e. tt)
  seeks (NewEntry kept place) b v = entry_seeks kept place (allocating.free_generation x.n.generations v)
  seeks (NewHome kept name) b v = tt
  seeks (Making made Header) b v = tt
  seeks (Making made (Field i)) b v = tt
  seeks (Making made Top) b v = tt
  seeks (Making made Entry) b v = absurd b
  seeks PassingTurn b v = tt
  seeks NewLeaving b v = passes_seeking (progress x q f c passed o NewLeaving)
  seeks (NewEnded found) b v = absurd b

  quietly : (r : NewStage) → IsBefore r → (v : ℕ)
      → Quietly z (at_stage r) (on x q f c (allocating.stage_fed (job x q f c) t (progress x q f c passed o r) r v))
  quietly r b v = goes_quietly r (allocating.stage_fed (job x q f c) t (progress x q f c passed o r) r v) (seeks r b v)

  -- the word of a record that it makes lies in a region
  record_within : (made : NewRecord) (place : ℕ) → allocating.IsRecord (job x q f c) made → place ≤ f
      → Within x.n (region_word made.home (made.top + place))
  record_within made place known low =
      (known.home, (let room = known.room in let d : made.top + place < x.n.words = omega arith in d))

  loads_lightly : (r : NewStage) (b : IsBefore r) → (i : ℕ)
      → drivers.next_of (driver z (at_stage r)) ≡ does i Load → Light x (driver z (at_stage r))
  loads_lightly r b i is = record {
    was = tt;
    acts = subst IsAct (sym is) tt;
    roots = subst (λ k. SameRoots x.n x.m x.s.words (words_stepped k x.s.words)) (sym is)
        (roots_loaded x.n x.m x.s.words i);
    bare = (quietly r b (found_by x.s (driver z (at_stage r)))).0;
    still = (quietly r b (found_by x.s (driver z (at_stage r)))).1;
  }

  acts_lightly : (r : NewStage) (b : IsBefore r) → (place : Place) (op : Op) → Within x.n place → area_of place ≢ 4
      → drivers.next_of (driver z (at_stage r)) ≡ does (index x.n place) op → Light x (driver z (at_stage r))
  acts_lightly r b place op within other is = record {
    was = tt;
    acts = subst IsAct (sym is) tt;
    roots = subst (λ k. SameRoots x.n x.m x.s.words (words_stepped k x.s.words)) (sym is)
        (roots_at x place op within other);
    bare = (quietly r b (found_by x.s (driver z (at_stage r)))).0;
    still = (quietly r b (found_by x.s (driver z (at_stage r)))).1;
  }

  pub search_light : (r : NewStage) → IsBefore r → AtStage x q f c passed o r → Light x (driver z (at_stage r))
  search_light NewArriving b at =
      acts_lightly NewArriving tt (tablet_gate t) (Add 1) (low_tablet x q f c passed o NewArriving at)
      (λ e. omega arith) refl
  search_light NewTurnedAway b at =
      acts_lightly NewTurnedAway tt (tablet_gate t) (Sub 1) (low_tablet x q f c passed o NewTurnedAway at)
      (λ e. omega arith) refl
  search_light NewTakingTurn b at =
      acts_lightly NewTakingTurn tt (turn t) (Exchange 0 (x.m + 1)) (low_tablet x q f c passed o NewTakingTurn at)
      (λ e. omega arith) refl
  search_light LoadingLeaving b at = loads_lightly LoadingLeaving tt (index x.n (leaving t)) refl
  search_light LoadingTop b at = loads_lightly LoadingTop tt (index x.n (top t)) refl
  search_light (NewEntry kept place) b at =
      loads_lightly (NewEntry kept place) tt (index x.n (entry (t * x.n.entries + place))) refl
  search_light (NewHome kept name) b at = loads_lightly (NewHome kept name) tt (index x.n (home t)) refl
  search_light (Making made Header) b at =
      acts_lightly (Making made Header) tt (region_word made.home (made.top + 0)) (Store f)
      (record_within made 0 at.known.progress.task.known.stage.1.stage.0 (omega arith)) (λ e. omega arith) refl
  search_light (Making made (Field i)) b at =
      let less = at.known.progress.task.known.stage.1.stage.1 in
      acts_lightly (Making made (Field i)) tt (region_word made.home (made.top + (i + 1))) (Store 0)
      (record_within made (i + 1) at.known.progress.task.known.stage.1.stage.0 (omega (arith, less)))
      (λ e. omega arith) refl
  search_light (Making made Top) b at =
      acts_lightly (Making made Top) tt (top t) (Store (made.top + f + 1))
      (low_tablet x q f c passed o (Making made Top) at) (λ e. omega arith) refl
  search_light (Making made Entry) b at = absurd b
  search_light PassingTurn b at =
      let low = low_tablet x q f c passed o PassingTurn at in
      acts_lightly PassingTurn tt (turn t) (Store 0) low (λ e. omega arith) refl
  search_light NewLeaving b at =
      acts_lightly NewLeaving tt (tablet_gate t) (Sub 1) (low_tablet x q f c passed o NewLeaving at)
      (λ e. omega arith) refl
  search_light (NewEnded found) b at = absurd b
