-- The steps of an attempt that moves its object's record: the turn, and the entry under it.
use Rattle.std.proofs.Common.{◌≡◌, ◌≢◌, ℕ, ◌+◌, ◌*◌, ◌<◌, ◌≤◌, ◌==◌, ⊎_elim, Bool, true, false, length, set}
use Rattle.std.proofs.Common.{slice_index, Option, Some, None, sym, ap, subst, refl, ◌∙◌, arith, eq-eqb}
use Rattle.std.proofs.lemmas.Bool.{and_from, le-leb, lt-ltb, ne_eqb}
use Rattle.std.proofs.lemmas.Option.{same_Some}
use Rattle.mako_words.specs.declared.name.Name.{Name}
use Rattle.mako_words.specs.declared.phase_word.PhaseWord.{PhaseWord}
use Rattle.mako_words.specs.declared.phase_word.PhaseWord.TheVariants.{Evac}
use Rattle.mako_words.specs.Entries.{entry_at}
use Rattle.mako_words.specs.Phases.{cycle_of}
use Rattle.mako_shape.specs.declared.numbers.Numbers.{Numbers}
use Rattle.mako_shape.specs.Places.{Place, turn, entry, region_word, index, word_at}
use Rattle.mako_shape.specs.Belongings.{IsAddress, region_of_address, word_of_address, tablet_of_entry}
use Rattle.mako_shape.proofs.BelongingLaws.{address_in_region, belongings_in_range}
use Rattle.mako_record.specs.Regions.{is_in_region}
use Rattle.mako_record.specs.Copying.{opening_copy}
use Rattle.mako_gate.specs.Changes.{Sets}
use Rattle.mako_gate.specs.GateActions as gate
use Rattle.mako_gate.specs.Standings.{at_tablet, with_turn, admitted, writes, mutator_at}
use Rattle.mako_gate.specs.Sums.{counted}
use Rattle.mako_step.specs.Acts.{after_op}
use Rattle.mako_step.specs.declared.act.Op.{Op}
use Rattle.mako_step.specs.declared.act.Op.TheVariants.{Store, Exchange}
use Rattle.mako_model.specs.declared.attempt.Attempt.TheVariants.{Pause as Paused}
use Rattle.mako_model.specs.declared.attempt.Pause.TheVariants.{Busy}
use prog.Atomic.{either}
use Rattle.mako_model.specs.Heaps.{fields_of}
use Rattle.mako_phases.specs.Steps.{PhaseOrderIn}
use Rattle.mako_joint.specs.Joints.{phases_in}
use Rattle.mako_layout.specs.Layouts.{Layout}
use Rattle.mako_call.specs.declared.object.Access.{Access}
use Rattle.mako_call.specs.declared.object.Access.TheVariants.{Get as Gets, Put as Puts}
use Rattle.mako_call.specs.declared.object.Errand.{Errand}
use Rattle.mako_call.specs.declared.object.Located.{Located}
use Rattle.mako_call.specs.declared.call_stage.CallStage.{CallStage}
use Rattle.mako_call.specs.declared.call_stage.CallStage.TheVariants.{Moving, Getting, Putting}
use Rattle.mako_call.specs.declared.moving.MoveStage.TheVariants.{TakingTurn, LoadingEntry as LoadingAgain}
use Rattle.mako_call.specs.declared.moving.MoveStage.TheVariants.{Copying as Copies, GivingTurn}
use Rattle.mako_call.specs.declared.getting.GetStage.TheVariants.{LoadingHeader as GetHeader}
use Rattle.mako_call.specs.declared.putting.PutStage.TheVariants.{LoadingHeader as PutHeader}
use Rattle.mako_mutator.specs.Drivers as drivers
use Rattle.mako_call.specs.Leaving.{leaving_tablet}
use Rattle.mako_call.specs.Objects.{tablet_of, at_object, at_record}
use Rattle.mako_names.specs.Tables.{entry_of, phase_of}
use Rattle.mako_names.specs.Trying as trying
use Rattle.mako_names.proofs.Telling.{held_names_are_taken}
use Rattle.mako_shades.proofs.Taken.{taken_generation}
use Rattle.mako_layout.specs.Facets.{uses, holds_home}
use Rattle.mako_layout.specs.Beside.{IsWriting}
use Rattle.mako_layout.specs.Evacuations.{Evacuation, layout, slot_at, IsOfCycle, IsRecordOf, HoldsHome, name_of}
use Rattle.mako_layout.specs.Steps.Step.{acts_in_use, finds_home, finds_away, forget}
use Rattle.mako_layout.proofs.EachStep.{each_step_keeps}
use Rattle.mako_layout.proofs.Frames.{places_are_apart}
use Rattle.mako_layout.proofs.Stays.{size_is}
use Rattle.mako_phases.specs.Facets.{Part, idle as part_idle, pausing, rooting, tracing, choosing, evacuating, stopped}
use Rattle.mako_phases.specs.Facets.{inside, mutating, collecting, phase_during}
use Rattle.mako_phases.specs.Laws.{IsStaying}
use Rattle.mako_phases.proofs.Says.{part_phase}
use Rattle.mako_state.specs.Carried.{stage_carried}
use Rattle.mako_state.specs.Says.{StageSays, AccessSays}
use Rattle.mako_state.specs.Standings.{stage_standing}
use Rattle.mako_state.specs.Works.{stage_work}
use Rattle.mako_joint.specs.Joints.{HasName, names_in}
use Rattle.mako_joint.proofs.Epochs.{held_have_epoch, held_within}
use Rattle.mako_joint.proofs.Pauses.{gates_drain, nothing_given}
use Rattle.mako_mutating.specs.MutatorFacets.{access_held, access_kept, stage_held, stage_trace, stage_trying}
use Rattle.mako_mutating.specs.MutatorFacets.{stage_admission}
use Rattle.mako_mutating.specs.Mutators.{view_of, StageKeeps, HasFields}
use Rattle.mako_mutating.proofs.Attempts.{Scene, At, Holds, Result, after, heap, st, seat, before, plainly}
use Rattle.mako_mutating.proofs.Gates.{operated, makes, IsGate, a_turn, roots_else}
use Rattle.mako_mutating.proofs.Objects.{read, region_is, works_on, has_object, object_taken}
use Rattle.mako_mutating.proofs.Stages.{IsLoaded, access_first}
use Rattle.mako_mutating.proofs.Views.{Turns, keeps_on, lets_go, framed_at, order_turned, laid, work_back}

-- an address of a region lies in it
in_region : (n : Numbers) (region address : ℕ) → IsAddress n address → region_of_address n address ≡ region
    → is_in_region n region address ≡ true
in_region n region address lies is =
    let bounds =
    subst (λ r. (index n (region_word r 0) ≤ address) × (address < index n (region_word r 0) + n.words)) is
    (address_in_region n address lies) in
    and_from _ _ (le-leb (index n (region_word region 0)) address bounds.0)
    (lt-ltb _ n.words (let a = bounds.0 in let b = bounds.1 in omega arith))

-- who has the turn may write records of the tablet, and is admitted there
pub may_write : (m t : ℕ) → 1 ≤ writes t (mutator_at m (with_turn t))
may_write m t = let e : counted (t == t) 1 ≡ 1 = ap (λ b. counted b 1) (eq-eqb t t refl) in omega arith

pub turn_admits : (m t : ℕ) → 1 ≤ admitted t (mutator_at m (with_turn t)).standing
turn_admits m t = let e : counted (t == t) 1 ≡ 1 = ap (λ b. counted b 1) (eq-eqb t t refl) in omega arith

-- the servers evacuate
pub record IsEvac (p : PhaseWord) : Type 0 where
  pub cycle : ℕ
  pub is : p ≡ Evac cycle

module _ (x : Scene) (within : Bool) where
  -- ---- a gate's act while the view reads at most
  pub gate_in_use : (s t : CallStage) (at : At x within s) (p : Place) (op : Op) → IsGate x within p
      → (IsWriting (stage_work x.n s) → ⊥) → drivers.IsKnown (after x x.slot t) → StageSays (heap x) x.m x.call t
      → StageKeeps x.n (heap x) (operated x within p op) x.m x.slot t → IsLoaded t
      → stage_trying x.n x.last x.call t ≡ stage_trying x.n x.last x.call s → stage_trace t ≡ stage_trace s
      → Turns (stage_admission s) (stage_admission t) → stage_carried t ≡ stage_carried s
      → stage_work x.n t ≡ stage_work x.n s
      → gate.GateAction x.n (λ r. word_at x.n x.s.words r) (λ r. word_at x.n (operated x within p op) r) x.m
      (mutator_at x.m (stage_standing x.n s)) (mutator_at x.m (stage_standing x.n t))
      → ((u : ℕ) → admitted u (stage_standing x.n s) ≤ admitted u (stage_standing x.n t))
      → Holds x (operated x within p op) x.s.front (after x x.slot t)
  gate_in_use s t at p op is_gate reading known says counts is_loaded trying trace turns carried work action stays =
      let us = operated x within p op in
      let v = after_op op (slice_index x.s.words (index x.n p)) in
      let low = at.keeps.in_range in
      let was = before x within s at in
      let to = view_of (after x x.slot t) in
      let framed = framed_at x.n x.w x.s x.j x.m low was at.seen p v is_gate.there is_gate.unread in
      let sets : Sets x.n (st x).words (λ r. word_at x.n us r) p v = makes x within p op is_gate.there in
      plainly x within s at t us (record {
        known = known;
        says = says;
        counts = counts;
        loaded = is_loaded;
        framed = framed;
        trying = trying;
        trace = trace;
        order = order_turned x.n x.w x.s x.j x.m low was at.seen us framed.order (stage_admission t) turns;
        layout = laid x.n x.w x.s x.j x.m low was at.seen us x.s.front
            (set x.s.facets.gates x.m (mutator_at x.m (stage_standing x.n t))) x.s.facets.works to refl
            (work_back x.n x.w x.s x.j x.m low was at.seen to work)
            (each_step_keeps x.n x.j.script.shape (st x) x.m _ x.j.layout
            (acts_in_use (λ r. word_at x.n us r) x.m (stage_standing x.n s) (stage_standing x.n t)
            (stage_work x.n s) (seat x within s at) reading low action
            (places_are_apart.layout x.n (st x).words (λ r. word_at x.n us r) p v sets is_gate.elsewhere) stays));
        roots = roots_else x within s at (after x x.slot t) p v is_gate.there is_gate.no_root carried;
      })

  -- ---- the turn
  pub turn_taken : (e : Errand) (home : ℕ) (at : At x within (Moving e (TakingTurn home))) →
      let t = tablet_of x.n e.object in t < x.n.servers * x.n.tablets → word_at x.n x.s.words (turn t) ≡ 0
      → drivers.IsKnown (after x x.slot (Moving e (LoadingAgain home)))
      → Result x within x.slot (Moving e (TakingTurn home)) (Moving e (LoadingAgain home))
      (operated x within (turn t) (Exchange 0 (x.m + 1)))
  turn_taken e home at low free known =
      let t = tablet_of x.n e.object in
      let s = Moving e (TakingTurn home) in
      gate_in_use s (Moving e (LoadingAgain home)) at (turn t) (Exchange 0 (x.m + 1)) (a_turn x within t low)
      (λ is. is) known at.keeps.says tt tt refl refl (keeps_on (stage_admission s)) refl refl
      (gate.takes_turn x.m t at.keeps.in_range low free (makes x within (turn t) (Exchange 0 (x.m + 1)) low))
      (λ u. omega arith)

  -- or not: another has it
  pub turn_busy : (e : Errand) (home : ℕ) (at : At x within (Moving e (TakingTurn home))) →
      let t = tablet_of x.n e.object in
      let word = word_at x.n x.s.words (turn t) in word ≢ 0 → let u = leaving_tablet t (Paused (Busy t word)) in
      drivers.IsKnown (after x x.slot u) → stage_trying x.n x.last x.call u ≡ trying.Nothing
      → Result x within x.slot (Moving e (TakingTurn home)) u (operated x within (turn t) (Exchange 0 (x.m + 1)))
  turn_busy e home at busy known nothing =
      let t = tablet_of x.n e.object in
      let word = word_at x.n x.s.words (turn t) in
      let s = Moving e (TakingTurn home) in
      let u = leaving_tablet t (Paused (Busy t word)) in
      let i = index x.n (turn t) in
      subst (λ us. Holds x us x.s.front (after x x.slot u))
      (ap (λ v. set x.s.words i v) (ap (λ b. either b (x.m + 1) word) (sym (ne_eqb word 0 busy))))
      (works_on x within s u at known tt tt tt nothing refl (lets_go (access_kept e.access)) refl refl i
      (each_step_keeps x.n x.j.script.shape (st x) x.m _ x.j.layout
      (forget x.m (mutator_at x.m (stage_standing x.n s)) (stage_work x.n s) (seat x within s at)
      (λ z. (refl, refl)))))

  -- given back: the view goes on at the record
  pub turn_given : (e : Errand) (address : ℕ) (at : At x within (Moving e (GivingTurn address))) →
      let t = tablet_of x.n e.object in t < x.n.servers * x.n.tablets
      → drivers.IsKnown (after x x.slot (at_object e address))
      → Holds x (operated x within (turn t) (Store 0)) x.s.front (after x x.slot (at_object e address))
  turn_given e address at low known = by e.access refl known
    where
      t : ℕ
      t = tablet_of x.n e.object

      s : CallStage
      s = Moving e (GivingTurn address)

      there_at : Located
      there_at = record { object = e.object; address = address }

      to : Access → CallStage
      to a = at_record there_at a

      gives : gate.GateAction x.n (λ r. word_at x.n x.s.words r)
          (λ r. word_at x.n (operated x within (turn t) (Store 0)) r) x.m (mutator_at x.m (with_turn t))
          (mutator_at x.m (at_tablet t))
      gives = gate.gives_turn x.m t at.keeps.in_range low (makes x within (turn t) (Store 0) low)

      by : (a : Access) → e.access ≡ a → drivers.IsKnown (after x x.slot (to a))
          → Holds x (operated x within (turn t) (Store 0)) x.s.front (after x x.slot (to a))
      by (Gets get) is known =
          gate_in_use s (Getting there_at get GetHeader) at (turn t) (Store 0) (a_turn x within t low) (λ is. is) known
          (subst (λ a. AccessSays (heap x) x.m x.call e.object a) is at.keeps.says) tt tt refl refl
          (subst (λ a. Turns (inside (access_kept a)) (inside None)) (sym is) (keeps_on (inside None)))
          refl refl gives (λ u. omega arith)
      by (Puts put) is known =
          gate_in_use s (Putting there_at put PutHeader) at (turn t) (Store 0) (a_turn x within t low) (λ is. is) known
          (subst (λ a. AccessSays (heap x) x.m x.call e.object a) is at.keeps.says) tt tt refl refl
          (subst (λ a. Turns (inside (access_kept a)) (inside (Some put.phase))) (sym is)
          (keeps_on (inside (Some put.phase))))
          refl refl gives (λ u. omega arith)

  -- ---- where a record in use lies outside of its home, servers evacuate
  pub away_is_evac : (s : CallStage) (at : At x within s) (kept : Option PhaseWord)
      → stage_admission s ≡ inside kept → (y : ℕ) → HasName x.s.facets.names.held x.m y
      → (slot_at x.n (st x) y).region ≢ (layout x.n (st x)).home (tablet_of_entry x.n y)
      → IsEvac (phase_of x.n x.s.words)
  away_is_evac s at kept admits y has out = by o.part refl
    where
      o : PhaseOrderIn x.n (phases_in x.s)
      o = x.j.order

      l : Layout
      l = layout x.n (st x)

      t : ℕ
      t = tablet_of_entry x.n y

      low : y < x.n.servers * x.n.tablets * x.n.entries
      low = held_within x.n x.w x.s x.m y x.j has

      given : (l.given t ≡ 0) → ⊥
      given none =
          ⊎_elim (λ home. out home.region) (λ away. let e = away.region in (let c : ⊥ = omega arith in c))
          (x.j.layout.copy.whole y low (object_taken x within y has))

      rests : IsStaying o.part → ⊥
      rests stays = given (nothing_given x.n x.w x.s x.j stays t (belongings_in_range.entry x.n y low)).0

      by : (part : Part) → o.part ≡ part → IsEvac (phase_of x.n x.s.words)
      by (part_idle c) is = absurd (rests (subst IsStaying (sym is) tt))
      by (pausing c) is = absurd (rests (subst IsStaying (sym is) tt))
      by (rooting c z) is = absurd (rests (subst IsStaying (sym is) tt))
      by (tracing c) is = absurd (rests (subst IsStaying (sym is) tt))
      by (stopped c) is = absurd (rests (subst IsStaying (sym is) tt))
      by (choosing c left) is =
          absurd (gates_drain x.n x.w x.s x.j o.seat (choosing c left) o.pending
          (o.here ∙ ap (λ q. Some (collecting q o.pending)) is) tt x.m (inside kept)
          (at.seen.phase ∙ ap (λ a. Some (mutating a)) admits))
      by (evacuating c z) is = record {
        cycle = c;
        is = part_phase x.n x.s.words x.s.facets.phases o o.seat o.part o.pending o.here ∙ ap phase_during is;
      }

  -- ---- under the turn the entry is loaded again: its record lies in the home by now
  pub again_home : (e : Errand) (home : ℕ) (at : At x within (Moving e (LoadingAgain home))) →
      let found = entry_at (word_at x.n x.s.words (entry e.object.entry)) in
      home < x.n.servers * (x.n.tablets + x.n.spare) → is_in_region x.n home found.address ≡ true
      → drivers.IsKnown (after x x.slot (Moving e (GivingTurn found.address)))
      → Result x within x.slot (Moving e (LoadingAgain home)) (Moving e (GivingTurn found.address))
      (read x within (index x.n (entry e.object.entry)))
  again_home e home at low inside_ known =
      let found = entry_at (word_at x.n x.s.words (entry e.object.entry)) in
      let s = Moving e (LoadingAgain home) in
      let y = e.object.entry in
      let has = has_object x within s at e.object e.access refl in
      let region = region_is x.n home found.address low inside_ in
      works_on x within s (Moving e (GivingTurn found.address)) at known at.keeps.says tt tt refl refl
      (keeps_on (stage_admission s)) refl refl (index x.n (entry y))
      (subst (λ r. Evacuation x.n (record (st x) {
        works = set x.s.facets.works x.m (uses y r (word_of_address x.n found.address));
      })) (sym region)
      (each_step_keeps x.n x.j.script.shape (st x) x.m _ x.j.layout
      (finds_home x.m y y home (mutator_at x.m (stage_standing x.n s)) (seat x within s at)
      (held_within x.n x.w x.s x.m y x.j has) refl (turn_admits x.m (tablet_of x.n e.object))
      (object_taken x within y has) region)))

  -- or still outside: it is to be copied
  pub of_cycle : (cycle y : ℕ) → phase_of x.n x.s.words ≡ Evac cycle → HasName x.s.facets.names.held x.m y
      → IsOfCycle x.n (st x) y
  unfolding entry_of phase_of
  of_cycle cycle y evac has = held_have_epoch x.n x.w x.s cycle x.m y x.j evac has ∙ sym (ap cycle_of evac)

  pub again_away : (e : Errand) (home : ℕ) (at : At x within (Moving e (LoadingAgain home))) →
      let found = entry_at (word_at x.n x.s.words (entry e.object.entry)) in
      IsAddress x.n found.address → is_in_region x.n home found.address ≡ false →
      let t = Moving e (Copies (opening_copy x.n e.object.entry found home)) in
      drivers.IsKnown (after x x.slot t)
      → Result x within x.slot (Moving e (LoadingAgain home)) t (read x within (index x.n (entry e.object.entry)))
  again_away e home at lies out known =
      let found = entry_at (word_at x.n x.s.words (entry e.object.entry)) in
      let s = Moving e (LoadingAgain home) in
      let y = e.object.entry in
      let t = Moving e (Copies (opening_copy x.n y found home)) in
      let g = mutator_at x.m (stage_standing x.n s) in
      let has = has_object x within s at e.object e.access refl in
      let knows : HoldsHome x.n (layout x.n (st x)) g y home =
      x.j.layout.knows x.m g (holds_home y home) at.seen.gate at.seen.work in
      let other : region_of_address x.n found.address ≢ home =
      λ is. (let b : true ≡ false = sym (in_region x.n home found.address lies is) ∙ out in
      let c : ⊥ = cc in c) in
      let evac = away_is_evac s at (access_kept e.access) refl y has (λ is. other (is ∙ sym knows.region)) in
      works_on x within s t at known at.keeps.says (refl, tt) tt refl refl (keeps_on (stage_admission s)) refl refl
      (index x.n (entry y))
      (each_step_keeps x.n x.j.script.shape (st x) x.m _ x.j.layout
      (finds_away x.m y y home g (seat x within s at) (held_within x.n x.w x.s x.m y x.j has) refl
      (may_write x.m (tablet_of x.n e.object)) (object_taken x within y has) (of_cycle evac.cycle y evac.is has) other))

  -- ---- the record of an object in use
  pub record Recorded (object : Name) : Type 0 where
    pub rec : IsRecordOf x.n (st x).words (heap x) object.entry (slot_at x.n (st x) object.entry)
    pub name_is : name_of object.entry (word_at x.n x.s.words (entry object.entry)) ≡ object

  pub recorded : (s : CallStage) (at : At x within s) (object : Name) (a : Access)
      → stage_held s ≡ access_held object a → Recorded object
  recorded s at object a is =
      let has = has_object x within s at object a is in
      let taken = held_names_are_taken x.n x.w (names_in x.s) x.m (access_held object a) object x.j.script.facts
      x.j.names (at.seen.held ∙ ap Some is) (access_first object a) in
      let same = taken_generation x.n x.s.words object.entry object.generation taken in record {
        rec = x.j.layout.records object.entry (held_within x.n x.w x.s x.m object.entry x.j has)
            (object_taken x within object.entry has);
        name_is = λ i. record { entry = object.entry; generation = same i };
      }

  -- its size
  pub size_of : (object : Name) (r : Recorded object) (fields : ℕ) → HasFields (heap x) object fields
      → (slot_at x.n (st x) object.entry).size ≡ fields + 1
  size_of object r fields has =
      let same : r.rec.fields ≡ has.fields =
      same_Some r.rec.fields has.fields (sym r.rec.are ∙ ap (fields_of (heap x)) r.name_is ∙ has.are) in
      size_is x.n (st x).words (heap x) object.entry r.rec
      ∙ ap (λ k. k + 1) (ap length same ∙ has.count_is)
