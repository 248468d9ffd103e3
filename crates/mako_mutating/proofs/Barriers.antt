-- The steps of a put with its barrier, while servers trace.
use Rattle.std.proofs.Common.{◌≡◌, ℕ, ◌+◌, ◌<◌, inr, Bool, true, false, List, length, set, slice_index, Some, None, sym}
use Rattle.std.proofs.Common.{ap, subst, refl, ◌∙◌, arith}
use Rattle.mako_words.specs.declared.name.Name.{Name}
use Rattle.mako_words.specs.declared.phase_word.PhaseWord.TheVariants.{Trace}
use Rattle.mako_words.specs.declared.value.Value.{Value}
use Rattle.mako_words.specs.declared.value.Value.TheVariants as value
use Rattle.mako_words.specs.Values.{value_word, value_at}
use Rattle.mako_words.proofs.ValueWords.{name_words}
use Rattle.mako_shape.specs.Places.{Place, phase, barrier, area_of, index, Within, word_at}
use Rattle.mako_shape.proofs.PlaceLaws.{word_other}
use Rattle.mako_step.specs.Acts.{words_after}
use Rattle.mako_step.specs.declared.act.Op.TheVariants.{Store}
use Rattle.mako_model.specs.declared.call.Call.{Call}
use Rattle.mako_model.specs.declared.call.Call.TheVariants as call
use Rattle.mako_model.specs.declared.attempt.Attempt.TheVariants.{Pause as Paused}
use Rattle.mako_model.specs.declared.attempt.Pause.TheVariants.{Barrier}
use Rattle.mako_model.specs.Lawful.{IsNoRef}
use Rattle.mako_call.specs.declared.object.Put.{Put as PutArgs}
use Rattle.mako_call.specs.declared.object.Located.{Located}
use Rattle.mako_call.specs.declared.call_stage.CallStage.{CallStage}
use Rattle.mako_call.specs.declared.call_stage.CallStage.TheVariants.{Putting}
use Rattle.mako_call.specs.declared.putting.PutStage.TheVariants.{LoadingOld, LookingAtBarrier, StoringBarrier}
use Rattle.mako_call.specs.declared.putting.PutStage.TheVariants.{StoringField}
use Rattle.mako_mutator.specs.Drivers as drivers
use Rattle.mako_call.specs.Leaving.{leaving_tablet}
use Rattle.mako_call.specs.Objects.{tablet_of}
use Rattle.mako_call.specs.Putting.{next_slot}
use Rattle.mako_names.specs.Steps.{NamesHoldIn}
use Rattle.mako_names.specs.Steps as naming
use Rattle.mako_names.specs.Tables.{phase_of, entry_of}
use Rattle.mako_names.specs.Trying as trying
use Rattle.mako_names.specs.Uses.{IsGood}
use Rattle.mako_names.proofs.StepsKept.{step_kept}
use Rattle.mako_names.proofs.Words.{phase_same}
use Rattle.mako_ring.specs.TraceFacets.{TraceFacet, looking, storing}
use Rattle.mako_shades.specs.Laws.{TracksIn}
use Rattle.mako_shades.specs.Steps as shades
use Rattle.mako_shades.specs.Steps.{TraceScene, AimsAt}
use Rattle.mako_shades.proofs.AllSteps as tracing
use Rattle.mako_shades.proofs.ForNames.{held_good}
use Rattle.mako_layout.specs.Evacuations.{Evacuation}
use Rattle.mako_phases.specs.Facets.{inside, mutating}
use Rattle.mako_phases.specs.Orders.{AdmissionFits}
use Rattle.mako_phases.specs.Steps.{PhaseScene, PhaseOrderIn}
use Rattle.mako_phases.specs.Steps as phases
use Rattle.mako_phases.proofs.AllPhases.{phase_kept}
use Rattle.mako_phases.proofs.Says.{part_phase}
use Rattle.mako_state.specs.Carried.{stage_carried, WordStands}
use Rattle.mako_state.specs.Says.{StageSays}
use Rattle.mako_state.specs.Standings.{stage_standing}
use Rattle.mako_state.specs.Works.{stage_work}
use Rattle.mako_joint.specs.Joints.{names_in, trace_in, phases_in, TracksFit}
use Rattle.mako_joint.proofs.EachKind.{polls_stay}
use Rattle.mako_joint.proofs.Heaps.{heaps_stand}
use Rattle.mako_joint.proofs.Pauses.{gates_drain}
use Rattle.mako_mutating.specs.MutatorFacets.{stage_trace, stage_trying, stage_admission, storing_in, kept_at_store}
use Rattle.mako_mutating.specs.MutatorFacets.{last_at}
use Rattle.mako_mutating.specs.Mutators.{View, view_of, StageKeeps}
use Rattle.mako_mutating.proofs.Attempts.{Scene, At, Holds, Result, after, heap, st, before, onward, loads}
use Rattle.mako_mutating.proofs.Attempts.{layout_stored, names_kept, left_same}
use Rattle.mako_mutating.proofs.Gates.{roots_else}
use Rattle.mako_mutating.proofs.Objects.{read, forgotten}
use Rattle.mako_mutating.proofs.Roots.{root_word, looked}
use Rattle.mako_mutating.proofs.Stages.{IsLoaded, stage_good}
use Rattle.mako_mutating.proofs.Views.{Turns, keeps_on, lets_go, framed_same, names_after, tracks_by, order_turned}
use Rattle.mako_mutating.proofs.Views.{laid, gate_back, work_back}
use Rattle.mako_mutating.proofs.Puts.{IsTraceAt, trace_is, kept_trace, Aims, aims, field_inside}

-- a put tries nothing
put_tries : (last : Bool) (c : Call) (to field from : ℕ) → c ≡ call.Put to field from
    → last_at last c 0 0 ≡ trying.Nothing
put_tries last c to field from is = subst (λ d. last_at last d 0 0 ≡ trying.Nothing) (sym is) (by last)
  where
    by : (b : Bool) → last_at b (call.Put to field from) 0 0 ≡ trying.Nothing
    by true = refl
    by false = refl

module _ (x : Scene) (within : Bool) where
  -- ---- a load that tracing sees
  module _ (s t : CallStage) (at : At x within s) where
    abbrev traced : TraceFacet → TraceScene
    traced f = record (trace_in x.s) { facets = set x.s.facets.trace x.m f }

    pub tracked : drivers.IsKnown (after x x.slot t) → StageSays (heap x) x.m x.call t
        → StageKeeps x.n (heap x) x.s.words x.m x.slot t → IsLoaded t
        → stage_trying x.n x.last x.call t ≡ stage_trying x.n x.last x.call s
        → ((c : ℕ) → phase_of x.n x.s.words ≡ Trace c → TracksIn x.n x.w c (trace_in x.s)
        → TracksIn x.n x.w c (traced (stage_trace t)))
        → Turns (stage_admission s) (stage_admission t) → stage_standing x.n t ≡ stage_standing x.n s
        → stage_carried t ≡ stage_carried s → (i : ℕ)
        → Evacuation x.n (record (st x) { works = set x.s.facets.works x.m (stage_work x.n t) })
        → Holds x (read x within i) x.s.front (after x x.slot t)
    tracked known says counts is_loaded trying tracks turns standing carried i kept =
        let low = at.keeps.in_range in
        let was = before x within s at in
        let framed = framed_same x.n x.w x.s x.j x.m low was at.seen in
        let to = view_of (after x x.slot t) in
        loads x within s at i x.s.front (after x x.slot t)
        (onward x within s at x.slot t x.s.words (record {
          known = known;
          says = says;
          counts = counts;
          names = names_kept x within s at x.slot t x.s.words framed.leaves known says is_loaded trying;
          tracks = tracks_by x.n x.w x.s x.j x.m low was at.seen (traced (stage_trace t)) refl tracks;
          polls = framed.polls;
          order = order_turned x.n x.w x.s x.j x.m low was at.seen x.s.words framed.order (stage_admission t) turns;
          layout = laid x.n x.w x.s x.j x.m low was at.seen x.s.words x.s.front x.s.facets.gates
              (set x.s.facets.works x.m (stage_work x.n t)) to
              (gate_back x.n x.w x.s x.j x.m low was at.seen to standing) refl kept;
          roots = λ q v in_row is. subst (λ c. WordStands c q (root_word x q) v) (sym carried)
              (at.keeps.roots q v in_row is);
        }))

    -- the work stays
    pub work_stays : stage_work x.n t ≡ stage_work x.n s
        → Evacuation x.n (record (st x) { works = set x.s.facets.works x.m (stage_work x.n t) })
    work_stays same =
        subst (λ ks. Evacuation x.n (record (st x) { works = ks }))
        (work_back x.n x.w x.s x.j x.m at.keeps.in_range (before x within s at) at.seen
        (view_of (after x x.slot t)) same) x.j.layout

  -- ---- the field, while servers trace
  aims_at : (l : Located) (put : PutArgs) (a : Aims x within l put) → put.field < length a.here.fields
      → AimsAt x.n x.w (trace_in x.s) x.m a.to l.object a.here.fields put.field l.address
  unfolding entry_of
  aims_at l put a inside_ = record { refers = a.here.refers; inside = inside_; address_is = a.here.address }

  -- it holds no name
  pub old_none : (l : Located) (put : PutArgs) (at : At x within (Putting l put LoadingOld)) (v : Value)
      → value_at (slice_index x.s.words (l.address + 1 + put.field)) ≡ v → IsNoRef v
      → let t = Putting l put StoringField in drivers.IsKnown (after x x.slot t)
      → Holds x (read x within (l.address + 1 + put.field)) x.s.front (after x x.slot t)
  old_none l put at v found no_ref known_after =
      let s = Putting l put LoadingOld in
      let t = Putting l put StoringField in
      let a = aims x within l put LoadingOld at at.keeps.says.0 in
      let inside_ = field_inside x within l put a at.keeps.says.1 in
      let traces = trace_is put.phase at.keeps.counts in
      let facet_is : storing_in put.phase l.object put.field ≡ storing l.object put.field =
      ap (λ p. storing_in p l.object put.field) traces.is in
      tracked s t at known_after at.keeps.says tt tt refl
      (λ c e tr. tracing.step_kept x.n x.w c (trace_in x.s) (traced s t at (stage_trace t))
      (heaps_stand x.n x.w x.s x.j) tr
      (shades.Passes x.m x.m a.to l.object a.here.fields put.field l.address at.seen.trace
      (aims_at l put a inside_) (subst IsNoRef (sym found) no_ref)
      (ap (λ f. traced s t at f) facet_is)))
      (subst (λ k. Turns (inside (Some put.phase)) (inside k)) (sym (ap kept_at_store traces.is))
      (lets_go (Some put.phase)))
      refl refl (l.address + 1 + put.field) (work_stays s t at refl)

  -- or one
  pub old_found : (l : Located) (put : PutArgs) (at : At x within (Putting l put LoadingOld)) (old : Name)
      → value_at (slice_index x.s.words (l.address + 1 + put.field)) ≡ value.Ref old
      → let t = Putting l put (LookingAtBarrier old) in drivers.IsKnown (after x x.slot t)
      → Holds x (read x within (l.address + 1 + put.field)) x.s.front (after x x.slot t)
  old_found l put at old found known_after =
      let s = Putting l put LoadingOld in
      let t = Putting l put (LookingAtBarrier old) in
      let a = aims x within l put LoadingOld at at.keeps.says.0 in
      let inside_ = field_inside x within l put a at.keeps.says.1 in
      tracked s t at known_after at.keeps.says at.keeps.counts tt refl
      (λ c e tr. tracing.step_kept x.n x.w c (trace_in x.s) (traced s t at (stage_trace t))
      (heaps_stand x.n x.w x.s x.j) tr
      (shades.Finds x.m x.m a.to l.object a.here.fields put.field l.address old at.seen.trace
      (aims_at l put a inside_) found refl))
      (keeps_on (inside (Some put.phase))) refl refl (l.address + 1 + put.field) (work_stays s t at refl)

  -- ---- the barrier slot: it is empty
  pub barrier_empty : (l : Located) (put : PutArgs) (old : Name)
      (at : At x within (Putting l put (LookingAtBarrier old)))
      → word_at x.n x.s.words (barrier x.m x.slot) ≡ 0
      → let t = Putting l put (StoringBarrier old) in drivers.IsKnown (after x x.slot t)
      → Result x within x.slot (Putting l put (LookingAtBarrier old)) t
      (read x within (index x.n (barrier x.m x.slot)))
  barrier_empty l put old at free known_after =
      looked x within (Putting l put (LookingAtBarrier old)) (Putting l put (StoringBarrier old)) at known_after
      at.keeps.says (at.keeps.counts, free) tt refl refl (keeps_on (inside (Some put.phase))) refl refl refl
      (index x.n (barrier x.m x.slot))

  -- or filled
  pub barrier_filled : (l : Located) (put : PutArgs) (old : Name) (found : ℕ)
      (at : At x within (Putting l put (LookingAtBarrier old)))
      → let t = leaving_tablet (tablet_of x.n l.object) (Paused (Barrier x.slot found)) in
      drivers.IsKnown (after x x.slot t)
      → Result x within x.slot (Putting l put (LookingAtBarrier old)) t
      (read x within (index x.n (barrier x.m x.slot)))
  barrier_filled l put old found at known_after =
      let s = Putting l put (LookingAtBarrier old) in
      let t = leaving_tablet (tablet_of x.n l.object) (Paused (Barrier x.slot found)) in
      let a = aims x within l put (LookingAtBarrier old) at at.keeps.says.0 in
      tracked s t at known_after tt tt tt (put_tries x.last x.call a.to put.field a.from a.is)
      (λ c e tr. tracing.step_kept x.n x.w c (trace_in x.s) (traced s t at (stage_trace t))
      (heaps_stand x.n x.w x.s x.j) tr (shades.GivesUp x.m l.object put.field old at.seen.trace refl))
      (lets_go (Some put.phase)) refl refl (index x.n (barrier x.m x.slot))
      (forgotten x within s t at l.object.entry l.address refl (st x) refl refl x.j.layout)

  -- ---- the name is stored into the slot
  -- the phase that it keeps is the present one
  phase_traced : (s : CallStage) (at : At x within s) (d : ℕ) → stage_admission s ≡ inside (Some (Trace d))
      → phase_of x.n x.s.words ≡ Trace d
  phase_traced s at d is =
      let o = x.j.order in
      let fits : AdmissionFits x.n o.part (inside (Some (Trace d))) =
      o.each x.m (mutating (inside (Some (Trace d)))) (at.seen.phase ∙ ap (λ k. Some (mutating k)) is) in
      part_phase x.n x.s.words x.s.facets.phases o o.seat o.part o.pending o.here ∙ kept_trace o.part d fits

  pub barrier_stored : (l : Located) (put : PutArgs) (old : Name)
      (at : At x within (Putting l put (StoringBarrier old))) →
      let t = Putting l put StoringField in
      let slot = next_slot x.n.ring x.slot in
      drivers.IsKnown (after x slot t)
      → Result x within slot (Putting l put (StoringBarrier old)) t
      (words_after (record {
        word = index x.n (barrier x.m x.slot);
        op = Store (value_word (value.Ref old));
      }) x.s.words)
  barrier_stored l put old at known_after =
      onward x within s at slot t us (record {
        known = known_after;
        says = at.keeps.says;
        counts = tt;
        names = names_after x.n x.w x.s x.j x.m low was at.seen us (view_of (after x slot t)) put_in
            (stage_good x.w x.s.front.history x.j.names.hold.answers.lawful.legal x.m x.n x.call t
            known_after.progress.task.known.agrees at.keeps.says tt) refl (left_same x within s at slot t);
        tracks = tracks_by x.n x.w x.s x.j x.m low was at.seen traced_after
            (phase_same x.n x.s.words us (word_other x.n x.s.words p phase v there tt
            (λ e. let f : 0 ≡ area_of p = ap area_of e in absurd (omega arith))))
            (λ c e tr. tracing.step_kept x.n x.w c (trace_in x.s) traced_after (heaps_stand x.n x.w x.s x.j) tr
            (shades.Shades x.m l.object put.field old x.m x.slot at.seen.trace there at.keeps.counts.1
            (ap (λ f. record (trace_in x.s) { words = us; facets = set x.s.facets.trace x.m f })
            (ap (λ k. storing_in k l.object put.field) traces.is))));
        polls = polls_stay x.n x.s p v there (λ e. e) x.j.polls;
        order = subst (λ a. PhaseOrderIn x.n (record {
          words = us;
          facets = set x.s.facets.phases x.m (mutating (inside a));
        })) (sym (ap kept_at_store traces.is)) shaded;
        layout = laid x.n x.w x.s x.j x.m low was at.seen us x.s.front x.s.facets.gates x.s.facets.works
            (view_of (after x slot t)) (gate_back x.n x.w x.s x.j x.m low was at.seen (view_of (after x slot t)) refl)
            (work_back x.n x.w x.s x.j x.m low was at.seen (view_of (after x slot t)) refl)
            (layout_stored x p v there tt tt);
        roots = roots_else x within s at (after x slot t) p v there (λ e. omega arith) refl;
      })
    where
      s : CallStage
      s = Putting l put (StoringBarrier old)

      t : CallStage
      t = Putting l put StoringField

      slot : ℕ
      slot = next_slot x.n.ring x.slot

      p : Place
      p = barrier x.m x.slot

      v : ℕ
      v = value_word (value.Ref old)

      us : List ℕ
      us = set x.s.words (index x.n p) v

      low : x.m < x.n.mutators
      low = at.keeps.in_range

      was : View
      was = before x within s at

      there : Within x.n p
      there = (low, at.keeps.known.progress.task.known.slot)

      traces : IsTraceAt put.phase
      traces = trace_is put.phase at.keeps.counts.0

      admitted : stage_admission s ≡ inside (Some (Trace traces.cycle))
      admitted = ap (λ k. inside (Some k)) traces.is

      traced_after : TraceScene
      traced_after = record (trace_in x.s) { words = us; facets = set x.s.facets.trace x.m (stage_trace t) }

      -- the name that was found is good
      good : IsGood x.w x.s.front.history old
      good =
          let tracks : TracksIn x.n x.w traces.cycle (trace_in x.s) =
          subst (λ k. TracksFit k x.n x.w (trace_in x.s)) (phase_traced s at traces.cycle admitted) x.j.tracks in
          held_good x.n x.w x.s.words x.s.facets.trace x.s.front.history traces.cycle tracks.tracing x.m
          (looking l.object put.field old) old at.seen.trace (inr refl)

      put_in : NamesHoldIn x.n x.w (record (names_in x.s) { words = us })
      put_in =
          step_kept x.n x.w (names_in x.s) (record (names_in x.s) { words = us }) x.j.script.facts
          (naming.Puts p v there tt (λ name fits is. subst (IsGood x.w x.s.front.history)
          (name_words.differ old name at.keeps.known.progress.task.known.stage.1.2 fits is) good)) x.j.names

      shaded : PhaseOrderIn x.n (record { words = us; facets = set x.s.facets.phases x.m (mutating (inside None)) })
      shaded =
          phase_kept x.n (phases_in x.s)
          (record { words = us; facets = set x.s.facets.phases x.m (mutating (inside None)) }) x.j.order
          (gates_drain x.n x.w x.s x.j)
          (phases.Shades x.m traces.cycle x.m x.slot v (at.seen.phase ∙ ap (λ k. Some (mutating k)) admitted) there
          refl)
