-- The steps of a put at its object's record: what it finds there, and the header.
use Rattle.std.proofs.Common.{◌≡◌, ℕ, ◌<◌, ◌≤◌, Bool, length, slice_index, Some, sym, ap, subst, refl, ◌∙◌, arith}
use Rattle.std.proofs.lemmas.Option.{same_Some}
use Rattle.mako_words.specs.declared.phase_word.PhaseWord.{PhaseWord}
use Rattle.mako_words.specs.declared.phase_word.PhaseWord.TheVariants.{Idle, Trace, Evac, Stop}
use Rattle.mako_words.specs.Phases.{cycle_of}
use Rattle.mako_model.specs.declared.call.Call.TheVariants as call
use Rattle.mako_model.specs.declared.reply.Reply.TheVariants as reply
use Rattle.mako_model.specs.declared.point.Point.TheVariants.{Did}
use Rattle.mako_model.specs.Heaps.{root_of, fields_of}
use Rattle.mako_model.specs.Lawful.{IsLawful, heap_after}
use Rattle.mako_model.specs.Starved.{words_by}
use Rattle.mako_call.specs.declared.object.Access.TheVariants.{Put as Puts}
use Rattle.mako_call.specs.declared.object.Put.{Put as PutArgs}
use Rattle.mako_call.specs.declared.object.Located.{Located}
use Rattle.mako_call.specs.declared.call_stage.CallStage.{CallStage}
use Rattle.mako_call.specs.declared.call_stage.CallStage.TheVariants.{Putting}
use Rattle.mako_call.specs.declared.putting.PutStage.{PutStage}
use Rattle.mako_call.specs.declared.putting.PutStage.TheVariants.{LoadingHeader as PutHeader, LoadingOld, StoringField}
use Rattle.mako_mutator.specs.Drivers as drivers
use Rattle.mako_call.specs.Leaving.{answered_at}
use Rattle.mako_call.specs.Objects.{tablet_of}
use Rattle.mako_call.specs.Putting.{before_store}
use Rattle.mako_ring.specs.TraceFacets.{apart}
use Rattle.mako_shades.specs.Steps as shades
use Rattle.mako_shades.specs.Steps.{TraceScene, AimsAt}
use Rattle.mako_phases.specs.Facets.{Part, phase_during, inside}
use Rattle.mako_phases.specs.Orders.{IsTracePhase, KeptFits}
use Rattle.mako_state.specs.Says.{HasMore, AccessSays}
use Rattle.mako_state.proofs.StageCalls.{puts_into}
use Rattle.mako_mutating.specs.MutatorFacets.{storing_in, kept_at_store}
use Rattle.mako_mutating.proofs.Attempts.{Scene, At, Holds, Result, after, replied_at, heap}
use Rattle.mako_mutating.proofs.Gets.{answered_there, same_roots}
use Rattle.mako_mutating.proofs.Objects.{read, Present, present}
use Rattle.mako_mutating.proofs.Roots.{looked}
use Rattle.mako_mutating.proofs.Views.{Turns, keeps_on, lets_go}

-- ---- phases that are kept
pub record IsTraceAt (p : PhaseWord) : Type 0 where
  pub cycle : ℕ
  pub is : p ≡ Trace cycle

pub trace_is : (p : PhaseWord) → IsTracePhase p → IsTraceAt p
trace_is (Trace c) t = record { cycle = c; is = refl }
trace_is (Idle c) t = absurd t
trace_is (Evac c) t = absurd t
trace_is (Stop c) t = absurd t

-- what is kept as Trace is the phase
pub kept_trace : (part : Part) (d : ℕ) → KeptFits part (Some (Trace d)) → phase_during part ≡ Trace d
kept_trace part d fits =
    let now = trace_is (phase_during part) (fits.1.0 tt) in
    now.is ∙ ap Trace (sym (ap cycle_of now.is) ∙ sym fits.0)

-- and where the phase is Trace, what is kept is one
pub kept_traces : (part : Part) (p : PhaseWord) (c : ℕ) → KeptFits part (Some p) → phase_during part ≡ Trace c
    → IsTracePhase p
kept_traces part p c fits is = fits.1.1 (subst IsTracePhase (sym is) tt)

module _ (x : Scene) (within : Bool) where
  -- ---- what a put finds
  pub record Aims (l : Located) (put : PutArgs) : Type 0 where
    pub to : ℕ
    pub from : ℕ
    pub is : x.call ≡ call.Put to put.field from
    pub here : Present x within l.object l.address to
    pub value_is : root_of (heap x) x.m from ≡ Some put.value

  pub aims : (l : Located) (put : PutArgs) (s : PutStage) (at : At x within (Putting l put s))
      → AccessSays (heap x) x.m x.call l.object (Puts put) → Aims l put
  aims l put s at says =
      let known = at.keeps.known.progress.task.known in
      let of = puts_into x.call put known.agrees in
      let said : AccessSays (heap x) x.m (call.Put of.to put.field of.from) l.object (Puts put) =
      subst (λ c. AccessSays (heap x) x.m c l.object (Puts put)) of.is says in record {
        to = of.to;
        from = of.from;
        is = of.is;
        here = present x within (Putting l put s) at l.object l.address of.to refl known.stage.0.1 said.0;
        value_is = said.1;
      }

  -- past the header the field is one of the record
  pub field_inside : (l : Located) (put : PutArgs) (a : Aims l put) → HasMore (heap x) l.object put.field
      → put.field < length a.here.fields
  field_inside l put a more =
      let same : more.0 ≡ a.here.fields = same_Some more.0 a.here.fields (sym more.1 ∙ a.here.refers.fields_are) in
      let counts = ap length same in let less = more.2 in omega arith

  -- ---- the header
  pub put_header_loaded : (l : Located) (put : PutArgs) (at : At x within (Putting l put PutHeader))
      → put.field < slice_index x.s.words l.address
      → drivers.IsKnown (after x x.slot (Putting l put (before_store put.phase)))
      → Holds x (read x within l.address) x.s.front (after x x.slot (Putting l put (before_store put.phase)))
  put_header_loaded l put at less known_after = by put.phase refl known_after
    where
      s : CallStage
      s = Putting l put PutHeader

      a : Aims l put
      a = aims l put PutHeader at at.keeps.says

      more : HasMore (heap x) l.object put.field
      more = let count = a.here.header in (
        a.here.fields,
        a.here.refers.fields_are,
        (let d : put.field < length a.here.fields = omega arith in d),
      )

      stores : drivers.IsKnown (after x x.slot (Putting l put StoringField))
          → storing_in put.phase l.object put.field ≡ apart → kept_at_store put.phase ≡ Some put.phase
          → Holds x (read x within l.address) x.s.front (after x x.slot (Putting l put StoringField))
      stores known none same =
          looked x within s (Putting l put StoringField) at known (at.keeps.says, more) tt tt refl none
          (subst (λ k. Turns (inside (Some put.phase)) (inside k)) (sym same) (keeps_on (inside (Some put.phase))))
          refl refl refl l.address

      by : (p : PhaseWord) → put.phase ≡ p → drivers.IsKnown (after x x.slot (Putting l put (before_store p)))
          → Holds x (read x within l.address) x.s.front (after x x.slot (Putting l put (before_store p)))
      by (Idle c) e known =
          stores known (ap (λ p. storing_in p l.object put.field) e) (ap kept_at_store e ∙ sym (ap Some e))
      by (Evac c) e known =
          stores known (ap (λ p. storing_in p l.object put.field) e) (ap kept_at_store e ∙ sym (ap Some e))
      by (Stop c) e known =
          stores known (ap (λ p. storing_in p l.object put.field) e) (ap kept_at_store e ∙ sym (ap Some e))
      by (Trace c) e known =
          looked x within s (Putting l put LoadingOld) at known (at.keeps.says, more)
          (subst IsTracePhase (sym e) tt) tt refl refl (keeps_on (inside (Some put.phase))) refl refl refl l.address

  pub put_no_field : (l : Located) (put : PutArgs) (at : At x within (Putting l put PutHeader))
      → slice_index x.s.words l.address ≤ put.field → let t = answered_at (tablet_of x.n l.object) reply.NoField in
      drivers.IsKnown (replied_at x t reply.NoField)
      → Result x within x.slot (Putting l put PutHeader) t (read x within l.address)
  put_no_field l put at past known_after =
      let s = Putting l put PutHeader in
      let r = reply.NoField in
      let t = answered_at (tablet_of x.n l.object) r in
      let a = aims l put PutHeader at at.keeps.says in
      let count = a.here.header in
      let is : heap_after (heap x) (Did x.m x.call r) ≡ heap x = ap (λ c. heap_after (heap x) (Did x.m c r)) a.is in
      answered_there x within s t at r refl known_after
      (subst (λ c. IsLawful (heap x) (Did x.m c r)) (sym a.is) (
        (put.value, a.value_is),
        (
          l.object,
          a.here.fields,
          a.here.refers,
          (let d : length a.here.fields ≤ put.field = omega arith in d),
        ),
      ))
      tt (subst (λ c. shades.LeavesObjects c r) (sym a.is) tt) tt tt refl refl refl (lets_go (Some put.phase)) refl
      l.object.entry l.address refl refl l.address (λ name. ap (λ h. fields_of h name) is)
      (λ tablet. ap (λ c. words_by x.w tablet (Did x.m c r)) a.is) (same_roots x within s t at r refl is)
