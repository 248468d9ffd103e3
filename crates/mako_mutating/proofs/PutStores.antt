-- The field of a put is stored.
use Rattle.std.proofs.Common.{◌≡◌, ℕ, ◌+◌, ◌<◌, Bool, List, length, set, Some, None, sym, ap, subst, refl, ◌∙◌, arith}
use Rattle.mako_words.specs.declared.phase_word.PhaseWord.{PhaseWord}
use Rattle.mako_words.specs.declared.phase_word.PhaseWord.TheVariants.{Idle, Trace, Evac, Stop}
use Rattle.mako_words.specs.declared.value.Value.TheVariants as value
use Rattle.mako_words.specs.Values.{value_word}
use Rattle.mako_shape.specs.Places.{Place, phase, region_word, index, Within, word_at}
use Rattle.mako_shape.specs.Belongings.{region_of_address, word_of_address}
use Rattle.mako_shape.proofs.PlaceLaws.{word_same, word_other}
use Rattle.mako_gate.specs.Standings.{mutator_at}
use Rattle.mako_step.specs.Acts.{words_after}
use Rattle.mako_step.specs.declared.act.Op.TheVariants.{Store}
use Rattle.mako_model.specs.declared.call.Call.{Call}
use Rattle.mako_model.specs.declared.call.Call.TheVariants as call
use Rattle.mako_model.specs.declared.reply.Reply.TheVariants as reply
use Rattle.mako_model.specs.declared.point.Point.{Point}
use Rattle.mako_model.specs.declared.point.Point.TheVariants.{Did}
use Rattle.mako_model.specs.Fronts.{with_point}
use Rattle.mako_model.specs.Heaps.{root_of, fields_of, with_fields}
use Rattle.mako_model.specs.Lawful.{IsLawful, heap_after}
use Rattle.mako_model.proofs.Changes.{put_writes}
use Rattle.mako_call.specs.declared.object.Put.{Put as PutArgs}
use Rattle.mako_call.specs.declared.object.Located.{Located}
use Rattle.mako_call.specs.declared.call_stage.CallStage.{CallStage}
use Rattle.mako_call.specs.declared.call_stage.CallStage.TheVariants.{Putting}
use Rattle.mako_call.specs.declared.putting.PutStage.TheVariants.{StoringField}
use Rattle.mako_mutator.specs.Drivers as drivers
use Rattle.mako_call.specs.Leaving.{answered_at}
use Rattle.mako_call.specs.Objects.{tablet_of}
use Rattle.mako_names.specs.Tables.{phase_of}
use Rattle.mako_names.proofs.Words.{phase_same}
use Rattle.mako_ring.specs.TraceFacets.{storing}
use Rattle.mako_shades.specs.Steps as shades
use Rattle.mako_shades.specs.Steps.{TraceScene, AimsAt}
use Rattle.mako_shades.proofs.AllSteps as tracing
use Rattle.mako_layout.specs.Facets.{idle}
use Rattle.mako_layout.specs.Evacuations.{Evacuation}
use Rattle.mako_layout.proofs.Runs.{put_is_stored}
use Rattle.mako_phases.specs.Facets.{inside, mutating}
use Rattle.mako_phases.specs.Orders.{IsTracePhase, AdmissionFits}
use Rattle.mako_phases.specs.Steps.{PhaseOrderIn}
use Rattle.mako_phases.proofs.Says.{part_phase}
use Rattle.mako_state.specs.Standings.{stage_standing}
use Rattle.mako_joint.specs.Joints.{trace_in, layout_in, phases_in, TracksFit}
use Rattle.mako_joint.proofs.Heaps.{heaps_stand}
use Rattle.mako_mutating.specs.MutatorFacets.{storing_in, kept_at_store}
use Rattle.mako_mutating.specs.Mutators.{View, view_of, with_view, RootsStand}
use Rattle.mako_mutating.proofs.Attempts.{Scene, At, Holds, Result, replied_at, heap, st, seat, before, answers}
use Rattle.mako_mutating.proofs.Gates.{roots_else}
use Rattle.mako_mutating.proofs.Objects.{forgotten}
use Rattle.mako_mutating.proofs.Views.{lets_go, Framed, framed_at, tracks_by, order_turned, laid, gate_back}
use Rattle.mako_mutating.proofs.Puts.{kept_traces, Aims, aims, field_inside}

module _ (x : Scene) (within : Bool) where
  -- ---- the field of a put is stored, which decides it
  -- while servers trace, the put has looked at its field
  storing_here : (l : Located) (put : PutArgs) (at : At x within (Putting l put StoringField)) (c : ℕ)
      → phase_of x.n x.s.words ≡ Trace c → storing_in put.phase l.object put.field ≡ storing l.object put.field
  storing_here l put at c is = by put.phase refl
    where
      o : PhaseOrderIn x.n (phases_in x.s)
      o = x.j.order

      traces : (p : PhaseWord) → kept_at_store put.phase ≡ Some p → IsTracePhase p
      traces p kept =
          let fits : AdmissionFits x.n o.part (inside (Some p)) =
          o.each x.m (mutating (inside (Some p))) (at.seen.phase ∙ ap (λ k. Some (mutating (inside k))) kept) in
          kept_traces o.part p c fits
          (sym (part_phase x.n x.s.words x.s.facets.phases o o.seat o.part o.pending o.here) ∙ is)

      by : (p : PhaseWord) → put.phase ≡ p → storing_in put.phase l.object put.field ≡ storing l.object put.field
      by (Trace d) e = ap (λ p. storing_in p l.object put.field) e
      by (Idle d) e = absurd (traces (Idle d) (ap kept_at_store e))
      by (Evac d) e = absurd (traces (Evac d) (ap kept_at_store e))
      by (Stop d) e = absurd (traces (Stop d) (ap kept_at_store e))

  module _ (l : Located) (put : PutArgs) (at : At x within (Putting l put StoringField))
      (known_after : drivers.IsKnown
      (replied_at x (answered_at (tablet_of x.n l.object) reply.Done) reply.Done)) where
    abbrev s : CallStage
    s = Putting l put StoringField

    abbrev t : CallStage
    t = answered_at (tablet_of x.n l.object) reply.Done

    abbrev r : ℕ
    r = region_of_address x.n l.address

    abbrev o : ℕ
    o = word_of_address x.n l.address

    abbrev p : Place
    p = region_word r (o + (1 + put.field))

    abbrev v : ℕ
    v = value_word put.value

    abbrev us : List ℕ
    us = set x.s.words (index x.n p) v

    a : Aims x within l put
    a = aims x within l put StoringField at at.keeps.says.0

    inside_ : put.field < length a.here.fields
    inside_ = field_inside x within l put a at.keeps.says.1

    there : Within x.n p
    there = a.here.inside put.field inside_

    abbrev point : Call → Point
    point c = Did x.m c reply.Done

    abbrev put_call : Call
    put_call = call.Put a.to put.field a.from

    abbrev low : x.m < x.n.mutators
    low = at.keeps.in_range

    abbrev was : View
    was = before x within s at

    abbrev to : View
    to = view_of (replied_at x t reply.Done)

    framed : Framed x.n x.w x.s x.j x.m low was at.seen us
    framed = framed_at x.n x.w x.s x.j x.m low was at.seen p v there
        (record { no_name = λ e. e; untraced = λ e. e; unpolled = λ e. e; unordered = λ e. e })

    writes : heap_after (heap x) (point x.call) ≡ with_fields (heap x) l.object (set a.here.fields put.field put.value)
    writes =
        ap (λ c. heap_after (heap x) (point c)) a.is
        ∙ put_writes (heap x) x.m a.to put.field a.from l.object a.here.fields put.value a.here.refers a.value_is

    -- the field's record in the layout, with the point of any call that is this put
    stored_by : (c : Call) → put_call ≡ c
        → Evacuation x.n (record (layout_in x.n x.w (with_view x.s x.m us (with_point x.s.front (point c)) to)) {
          gates = x.s.facets.gates;
          works = x.s.facets.works;
        })
    stored_by c is =
        subst (λ d. Evacuation x.n (record (layout_in x.n x.w
        (with_view x.s x.m us (with_point x.s.front (point d)) to)) {
          gates = x.s.facets.gates;
          works = x.s.facets.works;
        })) is
        (put_is_stored x.n (st x) x.j.layout x.w x.s.front.history (record { heap = refl; made = λ z. refl }) x.m
        (mutator_at x.m (stage_standing x.n s)) l.object.entry r o x.m a.to put.field a.from put.value
        (λ q. word_at x.n us q) (seat x within s at) a.here.fields
        (subst (λ k. fields_of (heap x) k ≡ Some a.here.fields) (sym a.here.name_is) a.here.refers.fields_are) inside_
        (subst (λ k. root_of (heap x) x.m a.to ≡ Some (value.Ref k)) (sym a.here.name_is) a.here.refers.root_is)
        a.value_is
        (record {
          here = word_same x.n x.s.words p v x.j.names.hold.size there;
          others = λ q inner other. word_other x.n x.s.words p q v there inner other;
        }))

    -- tracing sees the store
    tracks_by_call : (c : Call) → put_call ≡ c → TracksFit (phase_of x.n us) x.n x.w
        (trace_in (with_view x.s x.m us (with_point x.s.front (point c)) to))
    tracks_by_call c is =
        subst (λ d. TracksFit (phase_of x.n us) x.n x.w
        (trace_in (with_view x.s x.m us (with_point x.s.front (point d)) to))) is
        (tracks_by x.n x.w x.s x.j x.m low was at.seen
        (trace_in (with_view x.s x.m us (with_point x.s.front (point put_call)) to))
        (phase_same x.n x.s.words us (framed.leaves.same phase tt tt))
        (λ cycle e tr. tracing.step_kept x.n x.w cycle (trace_in x.s)
        (trace_in (with_view x.s x.m us (with_point x.s.front (point put_call)) to)) (heaps_stand x.n x.w x.s x.j) tr
        (shades.Stores x.m x.m a.to a.from put.field l.object a.here.fields put.value us
        (at.seen.trace ∙ ap Some (storing_here l put at cycle e)) a.here.refers inside_ a.value_is framed.agrees
        refl)))

    stored_at : Holds x us (with_point x.s.front (point x.call)) (replied_at x t reply.Done)
    stored_at = answers x within s at t reply.Done us (record {
      undecided = refl;
      known = known_after;
      says = tt;
      counts = tt;
      lawful = subst (λ c. IsLawful (heap x) (point c)) (sym a.is)
          ((put.value, a.value_is), (l.object, a.here.fields, a.here.refers, inside_));
      plain = tt;
      leaves = framed.leaves;
      no_names = refl;
      nothing = refl;
      tracks = tracks_by_call x.call (sym a.is);
      polls = framed.polls;
      order = order_turned x.n x.w x.s x.j x.m low was at.seen us framed.order (inside None)
          (lets_go (kept_at_store put.phase));
      layout = laid x.n x.w x.s x.j x.m low was at.seen us (with_point x.s.front (point x.call)) x.s.facets.gates
          (set x.s.facets.works x.m idle) to (gate_back x.n x.w x.s x.j x.m low was at.seen to refl) refl
          (forgotten x within s t at l.object.entry l.address refl
          (record (layout_in x.n x.w (with_view x.s x.m us (with_point x.s.front (point x.call)) to)) {
            gates = x.s.facets.gates;
            works = x.s.facets.works;
          })
          refl refl (stored_by x.call (sym a.is)));
      roots = subst (λ k. RootsStand x.n k us x.m (replied_at x t reply.Done)) (sym writes)
          (λ q u in_row e. roots_else x within s at (replied_at x t reply.Done) p v there (λ f. omega arith) refl q u
          in_row e);
    })

    pub field_stored : Result x within x.slot s t
        (words_after (record { word = l.address + 1 + put.field; op = Store (value_word put.value) }) x.s.words)
    field_stored = subst (λ i. Holds x (set x.s.words i v) (with_point x.s.front (point x.call))
        (replied_at x t reply.Done)) (a.here.place put.field) stored_at
