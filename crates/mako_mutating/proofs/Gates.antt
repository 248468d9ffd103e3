-- The steps of an attempt at gates.
use Rattle.std.proofs.Common.{◌≡◌, ◌≢◌, ℕ, inl, Bool, true, false, drop, List, length, set, slice_index, Some, None}
use Rattle.std.proofs.Common.{◌*◌, ◌<◌, sym, ap, subst, refl, ◌∙◌, arith, append-nil}
use Rattle.std.specs.List.{Contains}
use Rattle.mako_words.specs.Gates.{is_shut}
use Rattle.mako_words.specs.declared.name.Name.{Name}
use Rattle.mako_shape.specs.Places.{Place, mutator_gate, tablet_gate, turn, root, area_of, index, Within, word_at}
use Rattle.mako_shape.proofs.PlaceLaws.{word_other}
use Rattle.mako_gate.specs.Changes.{Makes, Sets}
use Rattle.mako_gate.specs.GateActions as gate
use Rattle.mako_gate.specs.Standings.{away, inside, mutator_at, admitted_own}
use Rattle.mako_gate.proofs.Changes.{acts_make}
use Rattle.mako_step.specs.Acts.{after_op, words_after}
use Rattle.mako_step.specs.declared.act.Op.{Op}
use Rattle.mako_step.specs.declared.act.Op.TheVariants.{Add, Sub}
use Rattle.mako_model.specs.declared.attempt.Attempt.{Attempt}
use Rattle.mako_model.specs.declared.attempt.Attempt.TheVariants.{Answer, Full as NoRoom, Pause as Paused}
use Rattle.mako_model.specs.declared.attempt.Pause.TheVariants.{Shut}
use Rattle.mako_model.specs.declared.call.Call.{Call}
use Rattle.mako_model.specs.declared.call.Call.TheVariants as call
use Rattle.mako_call.specs.declared.caller.Caller.{Caller}
use Rattle.mako_call.specs.declared.object.Errand.{Errand}
use Rattle.mako_call.specs.declared.call_stage.CallStage.{CallStage}
use Rattle.mako_call.specs.declared.call_stage.CallStage.TheVariants.{Arriving, Entering, Leaving}
use Rattle.mako_call.specs.declared.entering.EnterStage.TheVariants.{Arriving as EnterArriving, LoadingEntry}
use Rattle.mako_call.specs.declared.leaving.LeaveStage.TheVariants.{Refused, TurnedAway, FromTablet}
use Rattle.mako_call.specs.Agreeing.{Arrives}
use Rattle.mako_call.specs.Calls.{admitted as admitted_stage}
use Rattle.mako_call.specs.Leaving.{leaving}
use Rattle.mako_call.specs.Objects.{tablet_of}
use Rattle.mako_mutator.specs.Drivers as drivers
use Rattle.mako_mutator.specs.Drivers.{Driving, task_for}
use Rattle.mako_names.specs.Trying as trying
use Rattle.mako_names.specs.Uses.{IsGood}
use Rattle.mako_layout.specs.Beside.{IsReading}
use Rattle.mako_layout.specs.Facets.{idle}
use Rattle.mako_layout.specs.Evacuations as evacuations
use Rattle.mako_layout.specs.Frames.{IsElsewhere}
use Rattle.mako_layout.specs.Steps.Step.{acts}
use Rattle.mako_layout.proofs.EachStep.{each_step_keeps}
use Rattle.mako_layout.proofs.Frames.{places_are_apart}
use Rattle.mako_phases.specs.Facets.{Admission, IsNotAdmitted}
use Rattle.mako_phases.specs.Facets as phases
use Rattle.mako_ring.specs.TraceFacets.{apart}
use Rattle.mako_state.specs.Carried.{stage_carried, carried_of, WordStands}
use Rattle.mako_state.specs.Says.{StageSays, TaskSays}
use Rattle.mako_state.specs.Standings.{stage_standing, standing_of}
use Rattle.mako_state.specs.Works.{stage_work, work_of}
use Rattle.mako_mutating.specs.MutatorFacets.{access_kept, left_of, trying_of, trace_of, held_of, task_admission}
use Rattle.mako_mutating.specs.MutatorFacets.{stage_trying, stage_trace, stage_admission}
use Rattle.mako_mutating.specs.Mutators.{view_of, StageKeeps, TaskKeeps, RootsStand}
use Rattle.mako_mutating.proofs.Attempts.{Scene, At, Holds, Result, k, driver, after, fed_to, heap, st, seat, before}
use Rattle.mako_mutating.proofs.Stages.{stage_gates, stage_good, IsLoaded}
use Rattle.mako_mutating.proofs.Views.{Turns, keeps_on, comes_in, lets_go, framed_at, IsUnread, joined, names_onward}
use Rattle.mako_mutating.proofs.Views.{tracks_framed, order_turned, laid, work_back}

module _ (x : Scene) (within : Bool) where
  -- what the driver is after a step that tells nothing, with nothing in hand
  pub record Rid (s : CallStage) (d : Driving) : Type 0 where
    pub known : drivers.IsKnown d
    pub caller : d.caller ≡ k x
    pub calls : d.calls ≡ x.calls
    pub replies : d.replies ≡ x.replies
    pub says : TaskSays (heap x) x.m d.progress.task
    pub counts : (us : List ℕ) → TaskKeeps x.n (heap x) us x.m d.progress.task
    pub work : work_of d ≡ idle
    pub trace : trace_of d ≡ stage_trace s
    pub trying : trying_of d ≡ stage_trying x.n x.last x.call s
    pub held : (name : Name) → Contains (held_of d) name → IsGood x.w x.s.front.history name
    pub bare : carried_of d ≡ None
    pub gates : admitted_own (standing_of d) ≡ 0 → IsNotAdmitted (task_admission d.progress.task)
    pub turns : Turns (stage_admission s) (task_admission d.progress.task)

  -- the words after an operation at a place
  abbrev pub operated : Place → Op → List ℕ
  operated p op = words_after (record { word = index x.n p; op = op }) x.s.words

  -- what such an operation makes of the words by place
  pub makes : (p : Place) (op : Op) → Within x.n p
      → Makes x.n (λ r. word_at x.n x.s.words r) (λ r. word_at x.n (operated p op) r) p op
  makes p op there = acts_make x.n x.s.words p op x.j.names.hold.size there

  -- a gate or a turn
  pub record IsGate (p : Place) : Type 0 where
    pub there : Within x.n p
    pub unread : IsUnread p
    pub elsewhere : IsElsewhere p
    pub no_root : area_of p ≢ 4

  pub own_gate : x.m < x.n.mutators → IsGate (mutator_gate x.m)
  own_gate low = record {
    there = low;
    unread = record { no_name = λ e. e; untraced = λ e. e; unpolled = λ e. e; unordered = λ e. e };
    elsewhere = tt;
    no_root = λ e. omega arith;
  }

  pub a_tablet_gate : (t : ℕ) → t < x.n.servers * x.n.tablets → IsGate (tablet_gate t)
  a_tablet_gate t low = record {
    there = low;
    unread = record { no_name = λ e. e; untraced = λ e. e; unpolled = λ e. e; unordered = λ e. e };
    elsewhere = tt;
    no_root = λ e. omega arith;
  }

  pub a_turn : (t : ℕ) → t < x.n.servers * x.n.tablets → IsGate (turn t)
  a_turn t low = record {
    there = low;
    unread = record { no_name = λ e. e; untraced = λ e. e; unpolled = λ e. e; unordered = λ e. e };
    elsewhere = tt;
    no_root = λ e. omega arith;
  }

  -- the roots are as they were, where none is still to be stored
  pub roots_else : (s : CallStage) (at : At x within s) (d : Driving) (p : Place) (v : ℕ) → Within x.n p → area_of p ≢ 4
      → carried_of d ≡ stage_carried s → RootsStand x.n (heap x) (set x.s.words (index x.n p) v) x.m d
  roots_else s at d p v there no_root same q u low is =
      subst (λ c. WordStands c q (word_at x.n (set x.s.words (index x.n p) v) (root x.m q)) u) (sym same)
      (subst (λ z. WordStands (stage_carried s) q z u)
      (sym (word_other x.n x.s.words p (root x.m q) v there (at.keeps.in_range, low)
      (λ e. no_root (sym (ap area_of e)))))
      (at.keeps.roots q u low is))

  pub gate_step : (s : CallStage) (at : At x within s) (d : Driving) (p : Place) (op : Op) → IsGate p
      → stage_work x.n s ≡ idle → stage_carried s ≡ None → Rid s d
      → gate.GateAction x.n (λ r. word_at x.n x.s.words r) (λ r. word_at x.n (operated p op) r) x.m
      (mutator_at x.m (stage_standing x.n s)) (mutator_at x.m (standing_of d))
      → Holds x (operated p op) x.s.front d
  gate_step s at d p op is_gate empty free rid action =
      let us = operated p op in
      let v = after_op op (slice_index x.s.words (index x.n p)) in
      let low = at.keeps.in_range in
      let was = before x within s at in
      let left_same : left_of d ≡ left_of (driver x within s) = λ i. drop (length (rid.replies i)) (rid.calls i) in
      let framed = framed_at x.n x.w x.s x.j x.m low was at.seen p v is_gate.there is_gate.unread in
      let sets : Sets x.n (st x).words (λ r. word_at x.n us r) p v = makes p op is_gate.there in
      let held_seat : evacuations.Seat (st x) x.m (mutator_at x.m (stage_standing x.n s)) idle =
      subst (evacuations.Seat (st x) x.m (mutator_at x.m (stage_standing x.n s))) empty (seat x within s at) in (
        joined x.n x.w x.s x.j x.m low was at.seen us x.s.front (view_of d) (record {
          names = names_onward x.n x.w x.s x.j x.m low was at.seen us (view_of d) framed.leaves rid.held
              rid.trying left_same;
          tracks = tracks_framed x.n x.w x.s x.j x.m low was at.seen us (trace_of d) framed rid.trace;
          layout = laid x.n x.w x.s x.j x.m low was at.seen us x.s.front
              (set x.s.facets.gates x.m (mutator_at x.m (standing_of d))) x.s.facets.works (view_of d) refl
              (work_back x.n x.w x.s x.j x.m low was at.seen (view_of d) (rid.work ∙ sym empty))
              (each_step_keeps x.n x.j.script.shape (st x) x.m _ x.j.layout
              (acts (λ r. word_at x.n us r) x.m (mutator_at x.m (stage_standing x.n s))
              (mutator_at x.m (standing_of d)) held_seat action
              (places_are_apart.layout x.n (st x).words (λ r. word_at x.n us r) p v sets is_gate.elsewhere)
              (λ t. refl) (inl (λ e. (let c = low in omega arith)))));
          polls = framed.polls;
          order = order_turned x.n x.w x.s x.j x.m low was at.seen us framed.order
              (task_admission d.progress.task) rid.turns;
          reads = λ reading. absurd (subst IsReading rid.work reading);
          gates = rid.gates;
        }),
        record {
          known = rid.known;
          shape = ap (λ (c : Caller). c.shape) rid.caller;
          number = ap (λ (c : Caller). c.mutator) rid.caller;
          in_range = low;
          program = at.keeps.program ∙ ap Some (sym rid.calls);
          replies = rid.replies ∙ at.keeps.replies;
          says = rid.says;
          counts = rid.counts us;
          roots = roots_else s at d p v is_gate.there is_gate.no_root (rid.bare ∙ sym free);
        },
      )

  -- within the attempt
  pub rid_after : (s t : CallStage) → drivers.IsKnown (after x x.slot t) → StageSays (heap x) x.m x.call t
      → ((us : List ℕ) → StageKeeps x.n (heap x) us x.m x.slot t)
      → IsLoaded t → stage_work x.n t ≡ idle → stage_trace t ≡ stage_trace s
      → stage_trying x.n x.last x.call t ≡ stage_trying x.n x.last x.call s → stage_carried t ≡ None
      → Turns (stage_admission s) (stage_admission t) → Rid s (after x x.slot t)
  rid_after s t known says counts loaded work trace trying bare turns = record {
    known = known;
    caller = refl;
    calls = refl;
    replies = append-nil x.replies;
    says = says;
    counts = counts;
    work = work;
    trace = trace;
    trying = trying;
    held = stage_good x.w x.s.front.history x.j.names.hold.answers.lawful.legal x.m x.n x.call t
        known.progress.task.known.agrees says loaded;
    bare = bare;
    gates = stage_gates x.n t;
    turns = turns;
  }

  -- ---- the own gate
  pub own_refused : (at : At x within Arriving) (found : ℕ)
      → is_shut (word_at x.n x.s.words (mutator_gate x.m)) ≡ true
      → drivers.IsKnown (after x x.slot (Leaving (Refused found)))
      → Result x within x.slot Arriving (Leaving (Refused found)) (operated (mutator_gate x.m) (Add 1))
  own_refused at found shut known =
      let low = at.keeps.in_range in
      gate_step Arriving at (after x x.slot (Leaving (Refused found))) (mutator_gate x.m) (Add 1) (own_gate low)
      refl refl
      (rid_after Arriving (Leaving (Refused found)) known tt (λ us. tt) tt refl refl refl refl
      (keeps_on phases.outside))
      (gate.is_refused x.m low shut (makes (mutator_gate x.m) (Add 1) low))

  pub own_arrived : (at : At x within Arriving) → Arrives x.call
      → is_shut (word_at x.n x.s.words (mutator_gate x.m)) ≡ false
      → drivers.IsKnown (fed_to x within x.slot Arriving (admitted_stage x.call))
      → Result x within x.slot Arriving (admitted_stage x.call) (operated (mutator_gate x.m) (Add 1))
  own_arrived at arrives open_ known = by x.call refl arrives known
    where
      step : (t : CallStage) → drivers.IsKnown (after x x.slot t) → StageSays (heap x) x.m x.call t
          → ((us : List ℕ) → StageKeeps x.n (heap x) us x.m x.slot t)
          → IsLoaded t → stage_work x.n t ≡ idle → stage_trace t ≡ apart
          → stage_trying x.n x.last x.call t ≡ stage_trying x.n x.last x.call Arriving → stage_carried t ≡ None
          → phases.inside None ≡ stage_admission t → inside ≡ stage_standing x.n t
          → Holds x (operated (mutator_gate x.m) (Add 1)) x.s.front (after x x.slot t)
      step t known says counts loaded work trace trying bare admits stands =
          gate_step Arriving at (after x x.slot t) (mutator_gate x.m) (Add 1) (own_gate at.keeps.in_range) refl refl
          (rid_after Arriving t known says counts loaded work trace trying bare
          (subst (Turns phases.outside) admits comes_in))
          (subst (λ q. gate.GateAction x.n (λ r. word_at x.n x.s.words r)
          (λ r. word_at x.n (operated (mutator_gate x.m) (Add 1)) r) x.m (mutator_at x.m away) (mutator_at x.m q))
          stands
          (gate.arrives x.m at.keeps.in_range open_ (makes (mutator_gate x.m) (Add 1) at.keeps.in_range)))

      -- no call but a new tries anything
      plain : (last : Bool) (c : Call) (t : CallStage) → x.call ≡ c → stage_trying x.n last c Arriving
          ≡ stage_trying x.n last c t → stage_trying x.n last x.call t ≡ stage_trying x.n last x.call Arriving
      plain last c t is same = subst (λ d. stage_trying x.n last d t ≡ stage_trying x.n last d Arriving) (sym is)
          (sym same)

      nothing : (last : Bool) (c : Call) (t : CallStage)
          → stage_trying x.n true c Arriving ≡ stage_trying x.n true c t
          → stage_trying x.n false c Arriving ≡ stage_trying x.n false c t
          → stage_trying x.n last c Arriving ≡ stage_trying x.n last c t
      nothing true c t a b = a
      nothing false c t a b = b

      by : (c : Call) → x.call ≡ c → Arrives c
          → drivers.IsKnown (fed_to x within x.slot Arriving (admitted_stage c))
          → Result x within x.slot Arriving (admitted_stage c) (operated (mutator_gate x.m) (Add 1))
      by (call.New q fields) is arrives known =
          step (admitted_stage (call.New q fields)) known tt (λ us. tt) tt refl refl refl refl refl refl
      by (call.Num q number) is arrives known = let t = admitted_stage (call.Num q number) in
          step t known (subst (λ d. StageSays (heap x) x.m d t) (sym is) tt) (λ us. tt) tt refl refl
          (plain x.last (call.Num q number) t is (nothing x.last (call.Num q number) t refl refl)) refl refl refl
      by (call.CopyRoot to from) is arrives known = let t = admitted_stage (call.CopyRoot to from) in
          step t known (subst (λ d. StageSays (heap x) x.m d t) (sym is) tt) (λ us. tt) tt refl refl
          (plain x.last (call.CopyRoot to from) t is (nothing x.last (call.CopyRoot to from) t refl refl)) refl refl
          refl
      by (call.DropRoot q) is arrives known = let t = admitted_stage (call.DropRoot q) in
          step t known (subst (λ d. StageSays (heap x) x.m d t) (sym is) tt) (λ us. tt) tt refl refl
          (plain x.last (call.DropRoot q) t is (nothing x.last (call.DropRoot q) t refl refl)) refl refl refl
      by (call.Get to from field) is arrives known = let t = admitted_stage (call.Get to from field) in
          step t known (subst (λ d. StageSays (heap x) x.m d t) (sym is) tt) (λ us. tt) tt refl refl
          (plain x.last (call.Get to from field) t is (nothing x.last (call.Get to from field) t refl refl)) refl refl
          refl
      by (call.Put to field from) is arrives known = let t = admitted_stage (call.Put to field from) in
          step t known (subst (λ d. StageSays (heap x) x.m d t) (sym is) tt) (λ us. tt) tt refl refl
          (plain x.last (call.Put to field from) t is (nothing x.last (call.Put to field from) t refl refl)) refl refl
          refl
      by (call.Show q) is arrives known = let t = admitted_stage (call.Show q) in
          step t known (subst (λ d. StageSays (heap x) x.m d t) (sym is) tt) (λ us. tt) tt refl refl
          (plain x.last (call.Show q) t is (nothing x.last (call.Show q) t refl refl)) refl refl refl
      by call.Collect is arrives known = absurd arrives

  -- ---- the gate of an object's tablet
  -- a call that goes to an object tries nothing
  pub tablet_arrived : (e : Errand) (at : At x within (Entering e EnterArriving)) → let t = tablet_of x.n e.object in
      t < x.n.servers * x.n.tablets → is_shut (word_at x.n x.s.words (tablet_gate t)) ≡ false
      → drivers.IsKnown (after x x.slot (Entering e LoadingEntry))
      → Result x within x.slot (Entering e EnterArriving) (Entering e LoadingEntry) (operated (tablet_gate t) (Add 1))
  tablet_arrived e at low open_ known =
      let t = tablet_of x.n e.object in
      let s = Entering e EnterArriving in
      gate_step s at (after x x.slot (Entering e LoadingEntry)) (tablet_gate t) (Add 1) (a_tablet_gate t low) refl refl
      (rid_after s (Entering e LoadingEntry) known at.keeps.says (λ us. tt) tt refl refl refl refl
      (keeps_on (stage_admission s)))
      (gate.enters x.m t at.keeps.in_range low open_ (makes (tablet_gate t) (Add 1) low))

  pub tablet_turned_away : (e : Errand) (at : At x within (Entering e EnterArriving)) (found : ℕ) →
      let t = tablet_of x.n e.object in t < x.n.servers * x.n.tablets
      → is_shut (word_at x.n x.s.words (tablet_gate t)) ≡ true
      → drivers.IsKnown (after x x.slot (Leaving (TurnedAway t found)))
      → stage_trying x.n x.last x.call (Leaving (TurnedAway t found)) ≡ trying.Nothing
      → Result x within x.slot (Entering e EnterArriving) (Leaving (TurnedAway t found))
      (operated (tablet_gate t) (Add 1))
  tablet_turned_away e at found low shut known nothing =
      let t = tablet_of x.n e.object in
      let s = Entering e EnterArriving in
      gate_step s at (after x x.slot (Leaving (TurnedAway t found))) (tablet_gate t) (Add 1) (a_tablet_gate t low)
      refl refl
      (rid_after s (Leaving (TurnedAway t found)) known tt (λ us. tt) tt refl refl nothing refl
      (lets_go (access_kept e.access)))
      (gate.is_turned_away x.m t at.keeps.in_range low shut (makes (tablet_gate t) (Add 1) low))

  -- ---- leaving a tablet
  pub turned_back : (t found : ℕ) (at : At x within (Leaving (TurnedAway t found))) → t < x.n.servers * x.n.tablets →
      let u = leaving (Paused (Shut t found)) in drivers.IsKnown (after x x.slot u)
      → Result x within x.slot (Leaving (TurnedAway t found)) u (operated (tablet_gate t) (Sub 1))
  turned_back t found at low known =
      let s = Leaving (TurnedAway t found) in
      let u = leaving (Paused (Shut t found)) in
      gate_step s at (after x x.slot u) (tablet_gate t) (Sub 1) (a_tablet_gate t low) refl refl
      (rid_after s u known tt (λ us. tt) tt refl refl refl refl (keeps_on (phases.inside None)))
      (gate.turns_back x.m t at.keeps.in_range low (makes (tablet_gate t) (Sub 1) low))

  left_step : (t : ℕ) (o : Attempt) (at : At x within (Leaving (FromTablet t o))) → t < x.n.servers * x.n.tablets
      → drivers.IsKnown (after x x.slot (leaving o))
      → Holds x (operated (tablet_gate t) (Sub 1)) x.s.front (after x x.slot (leaving o))
  left_step t o at low known =
      let s = Leaving (FromTablet t o) in
      gate_step s at (after x x.slot (leaving o)) (tablet_gate t) (Sub 1) (a_tablet_gate t low) refl refl
      (rid_after s (leaving o) known tt (λ us. tt) tt refl refl refl refl (keeps_on (phases.inside None)))
      (gate.leaves x.m t at.keeps.in_range low (makes (tablet_gate t) (Sub 1) low))

  pub tablet_left : (t : ℕ) (o : Attempt) (at : At x within (Leaving (FromTablet t o))) → t < x.n.servers * x.n.tablets
      → drivers.IsKnown (fed_to x within x.slot (Leaving (FromTablet t o)) (leaving o))
      → Result x within x.slot (Leaving (FromTablet t o)) (leaving o) (operated (tablet_gate t) (Sub 1))
  tablet_left t (Answer r) at low known = left_step t (Answer r) at low known
  tablet_left t NoRoom at low known = left_step t NoRoom at low known
  tablet_left t (Paused r) at low known = left_step t (Paused r) at low known
