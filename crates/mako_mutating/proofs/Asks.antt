-- What the next step of an attempt asks of the words: that the word is there, that a sum or difference stays within it,
-- and that the machine can go on with what it finds.
use Rattle.std.proofs.Common.{◌≡◌, ℕ, ◌+◌, ◌*◌, ◌<◌, ◌≤◌, ◌^◌, Bool, length, get_or, slice_get, slice_index, Some, None}
use Rattle.std.proofs.Common.{sym, ap, subst, refl, ◌∙◌, arith}
use Rattle.std.proofs.lemmas.Option.{same_Some, slice_get-get_or}
use Rattle.mako_words.specs.declared.name.Name.{Name}
use Rattle.mako_words.specs.declared.value.Value.{Value}
use Rattle.mako_words.specs.declared.value.Value.TheVariants as value
use Rattle.mako_words.specs.Gates.{IsPackedGate}
use Rattle.mako_words.specs.Phases.{IsPackedPhase}
use Rattle.mako_words.specs.Values.{FitsValue, IsPacked, value_at, value_word}
use Rattle.mako_words.proofs.GateWords.{gate_forms}
use Rattle.mako_words.proofs.PhaseWords.{phase_words}
use Rattle.mako_words.proofs.ValueWords.{value_words}
use Rattle.mako_shape.specs.Places.{Place, phase, mutator_gate, tablet_gate, home, entry, barrier, root, region_word}
use Rattle.mako_shape.specs.Places.{index, total, Within, word_at}
use Rattle.mako_shape.specs.Belongings.{region_of_address, word_of_address}
use Rattle.mako_shape.proofs.BelongingLaws.{belongings_in_range}
use Rattle.mako_shape.proofs.PlaceLaws.{index_below}
use Rattle.mako_gate.specs.Standings.{arrived, arrived_own, mutator_at}
use Rattle.mako_gate.proofs.Found.{below, arrived_word, own_arrived_word}
use Rattle.mako_step.specs.Machines.{CanStep}
use Rattle.mako_model.specs.Heaps.{root_of, fields_of}
use Rattle.mako_call.specs.declared.object.Access.TheVariants.{Get as Gets, Put as Puts}
use Rattle.mako_call.specs.declared.object.Errand.{Errand}
use Rattle.mako_call.specs.declared.object.Get.{Get as GetArgs}
use Rattle.mako_call.specs.declared.object.Put.{Put as PutArgs}
use Rattle.mako_call.specs.declared.object.Located.{Located}
use Rattle.mako_call.specs.declared.call_stage.CallStage.{CallStage}
use Rattle.mako_call.specs.declared.call_stage.CallStage.TheVariants.{Arriving, Rooting, Entering, Getting, Putting}
use Rattle.mako_call.specs.declared.call_stage.CallStage.TheVariants.{Leaving}
use Rattle.mako_call.specs.declared.rooting.RootStage.{RootStage}
use Rattle.mako_call.specs.declared.rooting.RootStage.TheVariants.{StoringNumber, StoringNull, LoadingCopied}
use Rattle.mako_call.specs.declared.rooting.RootStage.TheVariants.{StoringCopied, LoadingShown, LoadingSource}
use Rattle.mako_call.specs.declared.rooting.RootStage.TheVariants.{LoadingTarget, LoadingValue, LoadingPhase}
use Rattle.mako_call.specs.declared.entering.EnterStage.{EnterStage}
use Rattle.mako_call.specs.declared.entering.EnterStage.TheVariants.{Arriving as EnterArriving, LoadingEntry}
use Rattle.mako_call.specs.declared.entering.EnterStage.TheVariants.{LoadingHome}
use Rattle.mako_call.specs.declared.getting.GetStage.{GetStage}
use Rattle.mako_call.specs.declared.getting.GetStage.TheVariants.{LoadingHeader as GetHeader, LoadingField as GetField}
use Rattle.mako_call.specs.declared.getting.GetStage.TheVariants.{StoringRoot as StoringGot}
use Rattle.mako_call.specs.declared.putting.PutStage.{PutStage}
use Rattle.mako_call.specs.declared.putting.PutStage.TheVariants.{LoadingHeader as PutHeader, LoadingOld}
use Rattle.mako_call.specs.declared.putting.PutStage.TheVariants.{LookingAtBarrier, StoringBarrier, StoringField}
use Rattle.mako_call.specs.declared.leaving.LeaveStage.{LeaveStage}
use Rattle.mako_call.specs.declared.leaving.LeaveStage.TheVariants.{Refused, TurnedAway, FromTablet, FromOwn}
use Rattle.mako_mutator.specs.Drivers as drivers
use Rattle.mako_call.specs.Objects.{tablet_of, ValueIsKnown}
use Rattle.mako_names.specs.Tables.{entry_of}
use Rattle.mako_names.proofs.Good.{root_is_good, good_is_taken}
use Rattle.mako_layout.specs.Facets.{uses, stands}
use Rattle.mako_layout.specs.Evacuations.{Uses, layout}
use Rattle.mako_layout.specs.Found.{RecordIsFound}
use Rattle.mako_layout.proofs.Found.{homes_are_found, addresses_are_found, records_are_found}
use Rattle.mako_phases.specs.Facets.{phase_during}
use Rattle.mako_phases.proofs.Parts.{bound_cycle, cycles_fit}
use Rattle.mako_state.specs.Carried.{stage_carried, WordStands}
use Rattle.mako_state.specs.Standings.{stage_standing}
use Rattle.mako_state.specs.Works.{stage_work, uses_at}
use Rattle.mako_state.proofs.Objects.{is_admitted, handy}
use Rattle.mako_joint.proofs.Epochs.{held_within}
use Rattle.mako_joint.proofs.Heaps.{values_fit}
use Rattle.mako_mutating.proofs.Attempts.{Scene, At, driver, heap, st}
use Rattle.mako_mutating.proofs.Objects.{Present, present, has_object, object_taken}
use Rattle.mako_mutating.proofs.Roots.{has_value, root_word, value_loaded}

-- a gate's word takes one more arrival
pub record IsGateFound (w : ℕ) : Type 0 where
  pub packed : IsPackedGate w
  pub room : w + 1 < 2 ^ 64

gate_found : (w : ℕ) → w < 2 ^ 17 → IsGateFound w
gate_found w low = record { packed = (gate_forms w).1 low; room = omega arith }

module _ (x : Scene) where
  -- the next step of a stage finds what it can go on with
  abbrev pub Asks : Bool → CallStage → Type 0
  Asks within s = CanStep (drivers.next_of (driver x within s)) x.s.words (drivers.Fits (driver x within s))

  pub at_address : (a : ℕ) → a < total x.n → a < length x.s.words
  at_address a low = subst (λ z. a < z) (sym x.j.names.hold.size) low

  pub at_place : (p : Place) → Within x.n p → index x.n p < length x.s.words
  at_place p there = at_address (index x.n p) (index_below x.n p there)

  -- ---- gates
  pub own_gate_found : x.m < x.n.mutators → IsGateFound (word_at x.n x.s.words (mutator_gate x.m))
  own_gate_found low =
      let g = x.j.layout.gates in
      let w = word_at x.n x.s.words (mutator_gate x.m) in
      gate_found w (below x.n.mutators w _ _ _ _ g.many (g.owns x.m low))

  pub tablet_gate_found : (t : ℕ) → t < x.n.servers * x.n.tablets → IsGateFound (word_at x.n x.s.words (tablet_gate t))
  tablet_gate_found t low =
      let g = x.j.layout.gates in
      let w = word_at x.n x.s.words (tablet_gate t) in
      gate_found w (below x.n.mutators w _ _ _ _ g.many (g.tablets t low))

  -- ---- the phase
  phase_packed : IsPackedPhase (word_at x.n x.s.words phase)
  phase_packed =
      let o = x.j.order in
      let few = cycles_fit x.n o.shape in
      let bound = bound_cycle x.n o.part o.words_stand.bound in
      subst IsPackedPhase (sym o.words_stand.phase_is) (phase_words.packed (phase_during o.part) (omega arith))

  module _ (within : Bool) where
    module _ (s : CallStage) (at : At x within s) where
      -- who has arrived can leave
      own_counted : 1 ≤ arrived_own (stage_standing x.n s) → 1 ≤ word_at x.n x.s.words (mutator_gate x.m)
      own_counted one =
          own_arrived_word x.n (λ p. word_at x.n x.s.words p) x.s.facets.gates x.j.layout.gates x.m
          (mutator_at x.m (stage_standing x.n s)) at.seen.gate at.keeps.in_range one

      tablet_counted : (t : ℕ) → t < x.n.servers * x.n.tablets → 1 ≤ arrived t (stage_standing x.n s)
          → 1 ≤ word_at x.n x.s.words (tablet_gate t)
      tablet_counted t low one =
          arrived_word x.n (λ p. word_at x.n x.s.words p) x.s.facets.gates x.j.layout.gates x.m
          (mutator_at x.m (stage_standing x.n s)) at.seen.gate t low one

      -- ---- a root that nothing is still to be stored in
      module _ (none : stage_carried s ≡ None) (q : ℕ) (low : q < x.n.roots) where
        root_packed : IsPacked (root_word x q)
        root_packed =
            let has = has_value x at.keeps.in_range q low in
            let word_is : root_word x q ≡ value_word has.value =
            subst (λ c. WordStands c q (root_word x q) has.value) none (at.keeps.roots q has.value low has.is) in
            subst IsPacked (sym word_is) (value_words.packed has.value has.fits)

        root_known : ValueIsKnown x.n (value_at (root_word x q))
        root_known =
            let has = has_value x at.keeps.in_range q low in
            subst (ValueIsKnown x.n) (sym (value_loaded x within s at none q low has.value has.is has.fits))
            (of_entry has.value has.is)
          where
            of_entry : (v : Value) → root_of (heap x) x.m q ≡ Some v → ValueIsKnown x.n v
            of_entry value.Null is = tt
            of_entry (value.Num y) is = tt
            of_entry (value.Ref name) is =
                let answers = x.j.names.hold.answers in
                (good_is_taken x.n x.s.words x.w x.s.front name.entry name.generation x.j.script.facts answers.lawful
                x.j.names.hold.table
                (root_is_good x.w x.s.front.history x.m q name answers.lawful.legal is)).within

      -- ---- the record that the view uses
      used_record : (object : Name) (a q : ℕ) → stage_work x.n s ≡ uses_at x.n object.entry a
          → (here : Present x within object a q) → RecordIsFound x.n (st x) object.entry here.fields
      used_record object a q using here =
          let knows : Uses x.n (layout x.n (st x)) (mutator_at x.m (stage_standing x.n s)) object.entry
          (region_of_address x.n a) (word_of_address x.n a) =
          x.j.layout.knows x.m (mutator_at x.m (stage_standing x.n s))
          (uses object.entry (region_of_address x.n a) (word_of_address x.n a)) at.seen.gate
          (at.seen.work ∙ ap Some using) in
          records_are_found x.n (st x) x.j.layout object.entry knows.inside knows.taken here.fields
          (subst (λ k. fields_of (heap x) k ≡ Some here.fields) (sym here.name_is) here.refers.fields_are)

      -- it ends within the words
      record_ends : (object : Name) (a q : ℕ) → stage_work x.n s ≡ uses_at x.n object.entry a
          → (here : Present x within object a q) → a + slice_index x.s.words a < total x.n
      unfolding entry_of
      record_ends object a q using here =
          let found = used_record object a q using here in
          let inside = found.inside in
          let counts = here.header in
          let same = here.address in omega arith

      -- and each of its fields is a value's word
      field_packed : (object : Name) (a q i : ℕ) → stage_work x.n s ≡ uses_at x.n object.entry a
          → (here : Present x within object a q) → i < length here.fields
          → IsPacked (slice_index x.s.words (a + 1 + i))
      field_packed object a q i using here less =
          let r = region_of_address x.n a in
          let o = word_of_address x.n a in
          let g = mutator_at x.m (stage_standing x.n s) in
          let knows : Uses x.n (layout x.n (st x)) g object.entry r o =
          x.j.layout.knows x.m g (uses object.entry r o) at.seen.gate (at.seen.work ∙ ap Some using) in
          let found = used_record object a q using here in
          let u = get_or here.fields i value.Null in
          let has : slice_get here.fields i ≡ Some u = slice_get-get_or here.fields i value.Null less in
          let fits : FitsValue u =
          (values_fit x.n x.w x.s x.j).fields object here.fields i u here.refers.fields_are has in
          let word_is : slice_index x.s.words (a + 1 + i) ≡ value_word u =
          ap (slice_index x.s.words) (sym (here.place i))
          ∙ (λ k. (st x).words (region_word (sym knows.region k) (sym knows.offset k + (1 + i))))
          ∙ found.field i u has in
          subst IsPacked (sym word_is) (value_words.packed u fits)

    -- ---- gates
    pub arriving_asks : At x within Arriving → Asks within Arriving
    arriving_asks at =
        let g = own_gate_found at.keeps.in_range in
        (at_place (mutator_gate x.m) at.keeps.in_range, g.room, g.packed)

    pub leaving_asks : (s : LeaveStage) → At x within (Leaving s) → Asks within (Leaving s)
    leaving_asks (Refused word) at =
        (at_place (mutator_gate x.m) at.keeps.in_range, own_counted (Leaving (Refused word)) at (omega arith), tt)
    leaving_asks (FromOwn outcome) at =
        (at_place (mutator_gate x.m) at.keeps.in_range, own_counted (Leaving (FromOwn outcome)) at (omega arith), tt)
    leaving_asks (TurnedAway t word) at =
        let low = at.keeps.known.progress.task.known.stage in (
          at_place (tablet_gate t) low,
          tablet_counted (Leaving (TurnedAway t word)) at t low (is_admitted x.n x.m t),
          tt,
        )
    leaving_asks (FromTablet t outcome) at =
        let low = at.keeps.known.progress.task.known.stage in (
          at_place (tablet_gate t) low,
          tablet_counted (Leaving (FromTablet t outcome)) at t low (is_admitted x.n x.m t),
          tt,
        )

    -- ---- roots
    pub rooting_asks : (s : RootStage) → At x within (Rooting s) → Asks within (Rooting s)
    rooting_asks (StoringNumber to number) at =
        (at_place (root x.m to) (at.keeps.in_range, at.keeps.known.progress.task.known.stage.0), tt, tt)
    rooting_asks (StoringNull to) at =
        (at_place (root x.m to) (at.keeps.in_range, at.keeps.known.progress.task.known.stage), tt, tt)
    rooting_asks (LoadingCopied to from) at =
        let low = at.keeps.known.progress.task.known.stage.1 in
        (at_place (root x.m from) (at.keeps.in_range, low), tt, root_packed _ at refl from low)
    rooting_asks (StoringCopied to value) at =
        (at_place (root x.m to) (at.keeps.in_range, at.keeps.known.progress.task.known.stage.0), tt, tt)
    rooting_asks (LoadingShown from) at =
        let low = at.keeps.known.progress.task.known.stage in
        (at_place (root x.m from) (at.keeps.in_range, low), tt, root_packed _ at refl from low)
    rooting_asks (LoadingSource to from field) at =
        let low = at.keeps.known.progress.task.known.stage.1 in (
          at_place (root x.m from) (at.keeps.in_range, low),
          tt,
          (root_packed _ at refl from low, root_known _ at refl from low),
        )
    rooting_asks (LoadingTarget to field from) at =
        let low = at.keeps.known.progress.task.known.stage.0 in (
          at_place (root x.m to) (at.keeps.in_range, low),
          tt,
          (root_packed _ at refl to low, root_known _ at refl to low),
        )
    rooting_asks (LoadingValue object field from) at =
        let low = at.keeps.known.progress.task.known.stage.1 in
        (at_place (root x.m from) (at.keeps.in_range, low), tt, root_packed _ at refl from low)
    rooting_asks (LoadingPhase object field value) at = (at_place phase tt, tt, phase_packed)

    -- ---- the way to the object
    pub entering_asks : (e : Errand) (s : EnterStage) → At x within (Entering e s) → Asks within (Entering e s)
    entering_asks e EnterArriving at =
        let t = tablet_of x.n e.object in
        let low = belongings_in_range.entry x.n e.object.entry at.keeps.known.progress.task.known.stage.0.0.1 in
        let g = tablet_gate_found t low in (at_place (tablet_gate t) low, g.room, g.packed)
    entering_asks e LoadingEntry at =
        let has = has_object x within (Entering e LoadingEntry) at e.object e.access refl in
        let there = held_within x.n x.w x.s x.m e.object.entry x.j has in (
          at_place (entry e.object.entry) there,
          tt,
          addresses_are_found x.n (st x) x.j.layout e.object.entry there (object_taken x within e.object.entry has),
        )
    entering_asks e (LoadingHome found) at =
        let t = tablet_of x.n e.object in
        let low = belongings_in_range.entry x.n e.object.entry at.keeps.known.progress.task.known.stage.0.0.1 in
        let g = mutator_at x.m (stage_standing x.n (Entering e (LoadingHome found))) in
        let enters = is_admitted x.n x.m t in (
          at_place (home t) low,
          tt,
          homes_are_found x.n (st x) x.j.layout x.m t g at.seen.gate low
              (let a : 1 ≤ stands t g = omega arith in a),
        )

    -- ---- at the object
    pub getting_asks : (l : Located) (get : GetArgs) (s : GetStage) → At x within (Getting l get s)
        → Asks within (Getting l get s)
    getting_asks l get GetHeader at =
        let s = Getting l get GetHeader in
        let known = at.keeps.known.progress.task.known in
        let hand = handy (heap x) x.m x.call l.object (Gets get) known.agrees at.keeps.says in
        let here = present x within s at l.object l.address hand.at refl known.stage.0.1 hand.names in
        (at_address l.address known.stage.0.1.1, tt, record_ends s at l.object l.address hand.at refl here)
    getting_asks l get GetField at =
        let s = Getting l get GetField in
        let known = at.keeps.known.progress.task.known in
        let hand = handy (heap x) x.m x.call l.object (Gets get) known.agrees at.keeps.says.0 in
        let here = present x within s at l.object l.address hand.at refl known.stage.0.1 hand.names in
        let more = at.keeps.says.1 in
        let counts = ap length (same_Some more.0 here.fields (sym more.1 ∙ here.refers.fields_are)) in
        let less = more.2 in (
          at_address (l.address + 1 + get.field) known.stage.1.1,
          tt,
          field_packed s at l.object l.address hand.at get.field refl here (omega arith),
        )
    getting_asks l get (StoringGot v) at =
        (at_place (root x.m get.to) (at.keeps.in_range, at.keeps.known.progress.task.known.stage.1.0), tt, tt)

    pub putting_asks : (l : Located) (put : PutArgs) (s : PutStage) → At x within (Putting l put s)
        → Asks within (Putting l put s)
    putting_asks l put PutHeader at =
        let s = Putting l put PutHeader in
        let known = at.keeps.known.progress.task.known in
        let hand = handy (heap x) x.m x.call l.object (Puts put) known.agrees at.keeps.says in
        let here = present x within s at l.object l.address hand.at refl known.stage.0.1 hand.names in
        (at_address l.address known.stage.0.1.1, tt, record_ends s at l.object l.address hand.at refl here)
    putting_asks l put LoadingOld at =
        let s = Putting l put LoadingOld in
        let known = at.keeps.known.progress.task.known in
        let hand = handy (heap x) x.m x.call l.object (Puts put) known.agrees at.keeps.says.0 in
        let here = present x within s at l.object l.address hand.at refl known.stage.0.1 hand.names in
        let more = at.keeps.says.1 in
        let counts = ap length (same_Some more.0 here.fields (sym more.1 ∙ here.refers.fields_are)) in
        let less = more.2 in (
          at_address (l.address + 1 + put.field) known.stage.1.1,
          tt,
          field_packed s at l.object l.address hand.at put.field refl here (omega arith),
        )
    putting_asks l put (LookingAtBarrier old) at =
        (at_place (barrier x.m x.slot) (at.keeps.in_range, at.keeps.known.progress.task.known.slot), tt, tt)
    putting_asks l put (StoringBarrier old) at =
        (at_place (barrier x.m x.slot) (at.keeps.in_range, at.keeps.known.progress.task.known.slot), tt, tt)
    putting_asks l put StoringField at =
        (at_address (l.address + 1 + put.field) at.keeps.known.progress.task.known.stage.1.1, tt, tt)
