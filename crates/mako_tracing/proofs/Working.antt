-- Steps of a server's tracing that change what it has to trace: scans, names taken and sent, and marks.
use Rattle.std.proofs.Common.{◌≡◌, ℕ, ◌==◌, ◌||◌, if◌then◌else◌, inl, Bool, true, false, Option, Some, None, List}
use Rattle.std.proofs.Common.{slice_index, sym, ap, subst, refl, ◌∙◌, arith}
use Rattle.std.proofs.lemmas.List.{set-get_or}
use Rattle.std.proofs.lemmas.Bool.Decides.{nat_tests}
use Rattle.mako_words.specs.declared.name.Name.{Name}
use Rattle.mako_words.specs.declared.value.Value.{Value}
use Rattle.mako_words.specs.declared.value.Value.TheVariants.{Null, Num, Ref}
use Rattle.mako_words.specs.Values.{value_at}
use Rattle.mako_shape.specs.declared.numbers.Numbers.{Numbers}
use Rattle.mako_step.specs.Acts.{finds}
use Rattle.mako_model.specs.Legal.{Facts}
use Rattle.mako_model.specs.Lawful.{IsNoRef}
use Rattle.mako_names.specs.Tables.{phase_of}
use Rattle.mako_ring.specs.TraceFacets as trace
use Rattle.mako_ring.specs.TraceFacets.{Work, empty, considering, marking, pushing, nothing, located}
use Rattle.mako_ring.specs.TracerFacets.{work_of, serving_of}
use Rattle.mako_ring.specs.TracerFacts.{holds}
use Rattle.mako_ring.specs.Tracing.{TracerView, owner, at_stage, next_work, field_found, scan_of, behind_field}
use Rattle.mako_ring.specs.declared.tracing.Scan.{Scan}
use Rattle.mako_ring.specs.declared.tracing.ScanStage.TheVariants.{FieldLoad, EntryLoad, HeaderLoad}
use Rattle.mako_ring.specs.declared.tracing.MarkStage.TheVariants.{Considering}
use Rattle.mako_ring.specs.declared.tracing.TraceStage.{TraceStage}
use Rattle.mako_ring.specs.declared.tracing.TraceStage.TheVariants.{Scanning, Marking}
use Rattle.mako_shades.specs.Laws.{TracksIn}
use Rattle.mako_shades.specs.Steps as shades
use Rattle.mako_shades.specs.Steps.{TraceStep}
use Rattle.mako_phases.specs.Orders.{PhaseOrder}
use Rattle.mako_poll.proofs.Parts.{scan_holds}
use Rattle.mako_joint.specs.Joints.{JointScene, trace_in, TracksFit, Joint}
use Rattle.mako_tracing.specs.ServerFacets.{tracer_laden}
use Rattle.mako_tracing.proofs.Leading.{rested_work, next_work_has}
use Rattle.mako_tracing.proofs.Scenes.{WordsKeep, words_same}
use Rattle.mako_tracing.proofs.Tracers.{At, next, us, fed_at, after_with, traces_with, Goes, trace_after, traces}
use Rattle.mako_tracing.proofs.Tracers.{order_on, tracks_go, stepped}

module _ (w : Facts) (s : JointScene) (seat : ℕ) (t : TracerView) (ended : ℕ) where
  abbrev n : Numbers
  n = t.shape

  abbrev Here : TraceStage → Type 0
  Here x = At w s seat t ended x

  abbrev Gone : TraceStage → Type 0
  Gone x = Goes w s seat t ended x

  abbrev after : TraceStage → TracerView
  after x = fed_at w s seat t ended x

  abbrev before : TraceStage → Work
  before x = work_of (at_stage t x)

  abbrev words : TraceStage → List ℕ
  words x = us w s seat t ended x

  -- it goes on with its next work
  pub ends_with : (x : TraceStage) → Here x → (v : TracerView) → after x ≡ next_work v
      → Joint n w (after_with w s seat t ended x (rested_work v)) → Gone x
  ends_with x at v e j =
      subst (λ k. Joint n w (after_with w s seat t ended x k)) (ap work_of (sym e))
      (next_work_has n w s seat (words x) (traces_with w s seat t ended (tracer_laden (after x))) t.server
      (serving_of (after x)) (trace.serving (before x)) at.job v j)

  -- a load, after which it has this to trace
  pub loaded : (x : TraceStage) → (at : Here x) → words x ≡ s.words → (job : Work) → tracer_laden (at_stage t x) ≡ true
      → TraceStep n w t.cycle (trace_in s) (trace_after w s seat t ended x at s.words job)
      → Joint n w (after_with w s seat t ended x job)
  loaded x at same job laden step =
      stepped w s seat t ended x at job
      (subst (λ ws. WordsKeep n w s ws) (sym same) (words_same n w s at.joint))
      (subst (λ ws. TracksFit (phase_of n ws) n w (trace_after w s seat t ended x at ws job)) (sym same)
      (tracks_go w s seat t ended x at s.words job refl laden step))
      (order_on w s seat t ended x at (words x)
      (subst (λ ws. PhaseOrder n ws s.facets.phases) (sym same) at.joint.order) (tracer_laden (after x)) (inl laden))

  -- what tracing keeps, where it is laden
  pub tracks : (x : TraceStage) → Here x → tracer_laden (at_stage t x) ≡ true → TracksIn n w t.cycle (trace_in s)
  tracks x at laden =
      subst (λ p. TracksFit p n w (trace_in s)) (traces w s seat t ended x at laden) at.joint.tracks

  -- ---- scans
  scan_laden : (scan : Scan) → t.scan ≡ Some scan → (holds t || false) ≡ true
  scan_laden scan e = ap (λ b. b || false) (scan_holds t scan e)

  abbrev scanned : Scan → TracerView
  scanned scan = record t { scan = behind_field scan; stage = Scanning (FieldLoad scan) }

  pub field_load : (scan : Scan) → Here (Scanning (FieldLoad scan)) → Gone (Scanning (FieldLoad scan))
  field_load scan at = by (value_at (finds (next w s seat t ended (Scanning (FieldLoad scan))) s.words)) refl
    where
      x : TraceStage
      x = Scanning (FieldLoad scan)

      laden : tracer_laden (at_stage t (Scanning (FieldLoad scan))) ≡ true
      laden = scan_laden scan at.stands.stage

      same : words (Scanning (FieldLoad scan)) ≡ s.words
      same = set-get_or s.words _ 0

      goes : (v : Value) → shades.next_value s.words scan ≡ v
          → after (Scanning (FieldLoad scan)) ≡ field_found (scanned scan) v
      goes v e = ap (λ u. field_found (scanned scan) u) e

      passes : (v : Value) → shades.next_value s.words scan ≡ v → IsNoRef (shades.next_value s.words scan)
          → field_found (scanned scan) v ≡ next_work (scanned scan) → Gone (Scanning (FieldLoad scan))
      passes v e none is =
          ends_with (Scanning (FieldLoad scan)) at (scanned scan) (goes v e ∙ is)
          (loaded (Scanning (FieldLoad scan)) at same (rested_work (scanned scan)) laden
          (shades.ScansOn seat (before (Scanning (FieldLoad scan))) scan at.job at.stands.stage none refl))

      names : (y : Name) → shades.next_value s.words scan ≡ Ref y → (b : Bool) → (owner n y == t.server) ≡ b
          → Gone (Scanning (FieldLoad scan))
      names y e true own =
          let is : after (Scanning (FieldLoad scan)) ≡ at_stage (scanned scan) (Marking (Considering y)) =
          goes (Ref y) e ∙ ap (λ b. if b then at_stage (scanned scan) (Marking (Considering y))
          else next_work (record (scanned scan) { outgoing = Some y })) own in
          subst (λ k. Joint n w (after_with w s seat t ended (Scanning (FieldLoad scan)) k)) (ap work_of (sym is))
          (loaded (Scanning (FieldLoad scan)) at same
          (work_of (at_stage (scanned scan) (Marking (Considering y)))) laden
          (shades.ScansOwn seat (before (Scanning (FieldLoad scan))) scan y at.job at.stands.stage refl e
          (grind (arith, nat_tests)) refl))
      names y e false own =
          let is : after (Scanning (FieldLoad scan)) ≡ next_work (record (scanned scan) { outgoing = Some y }) =
          goes (Ref y) e ∙ ap (λ b. if b then at_stage (scanned scan) (Marking (Considering y))
          else next_work (record (scanned scan) { outgoing = Some y })) own in
          ends_with (Scanning (FieldLoad scan)) at (record (scanned scan) { outgoing = Some y }) is
          (loaded (Scanning (FieldLoad scan)) at same (rested_work (record (scanned scan) { outgoing = Some y })) laden
          (shades.ScansForeign seat (before (Scanning
          (FieldLoad scan))) scan y at.job at.stands.stage at.known.1 e refl))

      by : (v : Value) → shades.next_value s.words scan ≡ v → Gone (Scanning (FieldLoad scan))
      by (Ref y) e = names y e (owner n y == t.server) refl
      by (Num y) e = passes (Num y) e (subst IsNoRef (sym e) tt) refl
      by Null e = passes Null e (subst IsNoRef (sym e) tt) refl

  pub entry_load : (x : ℕ) → Here (Scanning (EntryLoad x)) → Gone (Scanning (EntryLoad x))
  entry_load x at =
      loaded (Scanning (EntryLoad x)) at (set-get_or s.words _ 0) (work_of (after (Scanning (EntryLoad x)))) refl
      (shades.Locates seat (before (Scanning (EntryLoad x))) x at.job refl refl)

  pub header_load : (x address : ℕ) → Here (Scanning (HeaderLoad x address)) → Gone (Scanning (HeaderLoad x address))
  header_load x address at =
      ends_with (Scanning (HeaderLoad x address)) at (located_at (slice_index s.words address)) refl
      (by (slice_index s.words address == 0) refl)
    where
      located_at : ℕ → TracerView
      located_at h = record t { scan = scan_of address h; stage = Scanning (HeaderLoad x address) }

      begun : Option Scan → Work
      begun scan = record (before (Scanning (HeaderLoad x address))) { off = nothing; scan = scan }

      goes : (scan : Option Scan) → scan_of address (slice_index s.words address) ≡ scan
          → TraceStep n w t.cycle (trace_in s)
          (trace_after w s seat t ended (Scanning (HeaderLoad x address)) at s.words (begun scan))
          → Joint n w (after_with w s seat t ended (Scanning (HeaderLoad x address))
          (rested_work (located_at (slice_index s.words address))))
      goes scan e step =
          subst (λ k. Joint n w (after_with w s seat t ended (Scanning (HeaderLoad x address)) (begun k))) (sym e)
          (loaded (Scanning (HeaderLoad x address)) at (set-get_or s.words _ 0) (begun scan) refl step)

      by : (b : Bool) → (slice_index s.words address == 0) ≡ b
          → Joint n w (after_with w s seat t ended (Scanning (HeaderLoad x address))
          (rested_work (located_at (slice_index s.words address))))
      by true e =
          let none : scan_of address (slice_index s.words address) ≡ t.scan =
          ap (λ b. if b then None else Some (record {
            address = address;
            fields = slice_index s.words address;
            next = 0;
          })) e ∙ sym at.free in
          goes t.scan none
          (shades.Skips seat (before (Scanning (HeaderLoad x address))) x address at.job refl
          (grind (arith, nat_tests)) refl)
      by false e =
          goes (Some (record { address = address; fields = slice_index s.words address; next = 0 }))
          (ap (λ b. if b then None else Some (record {
            address = address;
            fields = slice_index s.words address;
            next = 0;
          })) e)
          (shades.Begins seat (before (Scanning (HeaderLoad x address))) x address at.job refl at.free
          (grind (arith, nat_tests)) refl)
