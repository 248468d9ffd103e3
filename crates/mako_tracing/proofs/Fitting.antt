-- The words that a server's tracing finds are those that it can go on with.
use Rattle.std.proofs.Common.{◌≡◌, ℕ, ◌+◌, ◌*◌, ◌<◌, ◌⊎◌, ◌||◌, inl, inr, true, false, length, slice_get, slice_index}
use Rattle.std.proofs.Common.{get_or, Some, sym, ap, subst, refl, ◌∙◌, arith, mul_comm}
use Rattle.std.proofs.lemmas.Option.{slice_get-get_or}
use Rattle.mako_words.specs.declared.entry_word.EntryWord.{EntryWord}
use Rattle.mako_words.specs.declared.name.Name.{Name}
use Rattle.mako_words.specs.declared.value.Value.{Value}
use Rattle.mako_words.specs.declared.value.Value.TheVariants.{Null, Num, Ref}
use Rattle.mako_words.specs.declared.phase_word.PhaseWord.TheVariants.{Trace}
use Rattle.mako_words.specs.Entries.{entry_at}
use Rattle.mako_words.specs.Names.{name_word, name_at, FitsName, IsPackedName}
use Rattle.mako_words.specs.Values.{value_word, value_at, IsPacked, FitsValue}
use Rattle.mako_words.proofs.ValueWords.{value_at-value_word, name_at-name_word}
use Rattle.mako_shape.specs.declared.numbers.Numbers.{Numbers}
use Rattle.mako_shape.specs.Belongings.{IsAddress, server_of_entry}
use Rattle.mako_shape.specs.Limits.{all_entries}
use Rattle.mako_shape.specs.Places.{entry, region_word, Within, word_at}
use Rattle.mako_shape.proofs.BelongingLaws.{region_word-index, word_after}
use Rattle.mako_shape.proofs.PlaceLaws.{index_below}
use Rattle.mako_model.specs.Heaps.{Heap}
use Rattle.mako_model.specs.Legal.{Facts, state_of}
use Rattle.mako_model.specs.Sizes.{ObjectsAreSmall}
use Rattle.mako_names.specs.Tables.{phase_of}
use Rattle.mako_names.specs.Uses.{IsGood}
use Rattle.mako_ring.specs.TraceFacets as trace
use Rattle.mako_ring.specs.TraceFacets.{Work, considering, marking, pushing, popped, located}
use Rattle.mako_ring.specs.TracerFacets.{work_of, serving_of}
use Rattle.mako_ring.specs.Tracing.{TracerView, own_tablet, slot_of, at_stage, FieldFits, RecordFits, IsOwnName}
use Rattle.mako_ring.specs.Tracing.{StageFits, stage_next}
use Rattle.mako_ring.specs.declared.tracing.Scan.{Scan}
use Rattle.mako_ring.specs.declared.tracing.Source.{Source}
use Rattle.mako_ring.specs.declared.tracing.Source.TheVariants.{Collector, Server}
use Rattle.mako_ring.specs.declared.tracing.SendStage.TheVariants.{HeadLook, GhostRaise, HeadStore}
use Rattle.mako_ring.specs.declared.tracing.ScanStage.TheVariants.{FieldLoad, EntryLoad, HeaderLoad}
use Rattle.mako_ring.specs.declared.tracing.ReceiveStage.TheVariants.{SlotLook, BusyRaise, SlotClear}
use Rattle.mako_ring.specs.declared.tracing.MarkStage.TheVariants.{Considering, Measuring, Marking as EntryMark}
use Rattle.mako_ring.specs.declared.tracing.MarkStage.TheVariants.{Counting}
use Rattle.mako_ring.specs.declared.tracing.RestStage.TheVariants.{BusyLower, TailLook, GhostLower}
use Rattle.mako_ring.specs.declared.tracing.TraceStage.{TraceStage}
use Rattle.mako_ring.specs.declared.tracing.TraceStage.TheVariants.{Sending, Scanning, Receiving, Marking, Resting}
use Rattle.mako_ring.specs.declared.tracing.TraceStage.TheVariants.{Ended}
use Rattle.mako_ring.specs.Facets as rings
use Rattle.mako_ring.specs.Facets.{IsSource}
use Rattle.mako_ring.specs.Polling.{WorkStands, GhostStands}
use Rattle.mako_ring.specs.TracerFacts.{TracerStands}
use Rattle.mako_step.specs.Acts.{finds}
use Rattle.mako_poll.proofs.Parts.{scan_holds}
use Rattle.mako_phases.specs.Facets.{serving, working}
use Rattle.mako_shades.specs.Laws.{TracksIn}
use Rattle.mako_shades.specs.Holding.{HoldsName}
use Rattle.mako_shades.specs.Serving.{ServerStands, IsEntryMarked, IsScan, HandStands, OffStands, ScanFits}
use Rattle.mako_shades.proofs.ForNames.{held_good}
use Rattle.mako_shades.proofs.Stacks.{push_room}
use Rattle.mako_shades.specs.Stands.{HeapStands}
use Rattle.mako_shades.proofs.Goods.{field_good}
use Rattle.mako_shades.proofs.Taken.{taken_word, marked_taken}
use Rattle.mako_layout.specs.Evacuations.{layout, State, IsRecordOf}
use Rattle.mako_layout.proofs.Frames.{record_within}
use Rattle.mako_layout.proofs.Stays.{size_is}
use Rattle.mako_joint.specs.Joints.{JointScene, trace_in, layout_in, TracksFit, Joint}
use Rattle.mako_joint.proofs.Heaps.{heaps_stand, header_at}
use Rattle.mako_server.specs.declared.stage.ServerStage.{ServerStage}
use Rattle.mako_server.specs.declared.stage.ServerStage.TheVariants.{Tracing}
use Rattle.mako_server.specs.Serving.{Serving, Fits}
use Rattle.mako_tracing.specs.Laws.{found_by, ServerStands as Stands, LowWhileTraced}
use Rattle.mako_tracing.specs.ServerFacets.{tracer_laden}
use Rattle.mako_tracing.specs.ServerKeeps.{IsNameFor, SlotsBelong, CountsAreLow}
use Rattle.mako_tracing.proofs.Tracers.{laden_traces}

module _ (n : Numbers) (w : Facts) (s : JointScene) (j : Joint n w s) where
  abbrev st : State
  st = layout_in n w s

  abbrev h : Heap
  h = state_of w s.front.history

  -- ---- the record of a taken entry
  module _ (x : ℕ) (within : Within n (entry x)) (taken : (entry_at (word_at n s.words (entry x))).taken ≡ true) where
    abbrev address : ℕ
    address = (entry_at (word_at n s.words (entry x))).address

    pub rec : IsRecordOf n st.words st.heap x ((layout n st).slot x)
    rec = j.layout.records x within taken

    abbrev r : ℕ
    r = ((layout n st).slot x).region

    abbrev o : ℕ
    o = ((layout n st).slot x).offset

    inside : (i : ℕ) → i < length rec.fields + 1 → Within n (region_word r (o + i))
    inside i low =
        let size = size_is n st.words st.heap x rec in
        let all = record_within n (layout n st) j.layout.copy x r (o + i) within
        (record { taken = taken; region = refl; low = omega arith; high = omega (arith, size) }) in
        (all.0, all.1)

    pub has_address : IsAddress n address
    has_address =
        let first = inside 0 (omega arith) in
        let below = index_below n (region_word r (o + 0)) first in
        let a = region_word-index n r o in
        let b = region_word-index n r (o + 0) in
        let is = rec.address in
        (omega arith, omega arith)

    pub header_is : slice_index s.words address ≡ length rec.fields
    header_is = header_at n s.words r o rec.fields address rec.address rec.words

    pub has_record : ObjectsAreSmall h → RecordFits n address (slice_index s.words address)
    has_record few =
        let last = inside (length rec.fields) (omega arith) in
        let below = index_below n (region_word r (o + length rec.fields)) last in
        let a = word_after n r (o + length rec.fields) in
        let b = word_after n r o in
        let is = rec.address in
        let header = header_is in
        let small = few _ rec.fields rec.are in
        (omega arith, omega arith)

  -- ---- what a server in tracing has in hand, off and under a scan
  module _ (seat cycle : ℕ) (job : Work) (here : slice_get s.facets.trace seat ≡ Some (trace.serving job))
      (traced : phase_of n s.words ≡ Trace cycle) where
    tracks : TracksIn n w cycle (trace_in s)
    tracks = subst (λ p. TracksFit p n w (trace_in s)) traced j.tracks

    keeps : ServerStands n w s.words s.front.history cycle job
    keeps = tracks.serving.each seat (trace.serving job) here

    heap : HeapStands n w s.words s.front.history
    heap = heaps_stand n w s j

    -- the word of the next field
    module _ (scan : Scan) (scans : job.scan ≡ Some scan) where
      stands : IsScan n w s.words s.front.history cycle scan
      stands = subst (ScanFits n w s.words s.front.history cycle) scans keeps.scan

      abbrev word : ℕ
      word = slice_index s.words (scan.address + 1 + scan.next)

      abbrev next : Value
      next = get_or stands.fields scan.next Null

      next_is : slice_get stands.fields scan.next ≡ Some next
      next_is = slice_get-get_or stands.fields scan.next Null
          (let a = stands.below in let b = stands.count in omega arith)

      stored : (word ≡ value_word next) × FitsValue next
      stored =
          let rec = heap.records stands.object stands.fields
          (marked_taken n s.words cycle stands.object stands.marked) stands.object_is in
          subst (λ a. (slice_index s.words (a + 1 + scan.next) ≡ value_word next) × FitsValue next)
          (sym stands.address_is)
          (rec.each scan.next next next_is)

      value_is : value_at word ≡ next
      value_is = ap value_at stored.0 ∙ value_at-value_word next stored.1

      good : IsGood w s.front.history stands.object
      good = tracks.tracing.shades stands.object (inr stands.marked)

      named : (v : Value) → next ≡ v → FieldFits n v
      named (Ref y) e =
          let holds : HoldsName (state_of w s.front.history) stands.object scan.next y = record {
            fields = stands.fields;
            object_is = stands.object_is;
            field_is = next_is ∙ ap (λ (v : Value). Some v) e;
          } in
          (heap.taken y (field_good w s.front.history heap.legal stands.object scan.next y good holds)).within
      named (Num y) e = tt
      named Null e = tt

      pub field_fits : IsPacked word × FieldFits n (value_at word)
      field_fits = (
        record {
          fits = subst FitsValue (sym value_is) stored.1;
          same = ap value_word value_is ∙ sym stored.0;
        },
        subst (FieldFits n) (sym value_is) (named next refl),
      )

    -- the record of an entry that was taken off
    off_marked : (x : ℕ) → job.off ≡ popped x → IsEntryMarked n s.words cycle x
    off_marked x e = subst (OffStands n s.words cycle) e keeps.off

    pub popped_fits : (x : ℕ) → job.off ≡ popped x → IsAddress n (entry_at (word_at n s.words (entry x))).address
    popped_fits x e = let m = off_marked x e in has_address x m.in_range m.taken

    pub located_fits : (x a : ℕ) → job.off ≡ located x a → ObjectsAreSmall h → RecordFits n a (slice_index s.words a)
    located_fits x a e few =
        let o = subst (OffStands n s.words cycle) e keeps.off in
        subst (λ k. RecordFits n k (slice_index s.words k)) (sym o.1) (has_record x o.0.in_range o.0.taken few)

    -- the entry of a name in hand
    pub considered_fits : (x : Name) → job.hand ≡ considering x
        → IsAddress n (entry_at (word_at n s.words (entry x.entry))).address
    considered_fits x e =
        let grey : IsGood w s.front.history x =
        held_good n w s.words s.facets.trace s.front.history cycle tracks.tracing seat (trace.serving job) x here
        (inl (inl (subst (λ (g : trace.Hand). trace.InHand g x) (sym e) refl))) in
        let is = heap.taken x grey in
        has_address x.entry is.within (taken_word n s.words x.entry x.generation is)

    pub measured_fits : (x : Name) (e : EntryWord) → job.hand ≡ marking x e → ObjectsAreSmall h
        → RecordFits n e.address (slice_index s.words e.address)
    measured_fits x e hand few =
        let known = subst (HandStands n s.words cycle) hand keeps.hand in
        let is : entry_at (word_at n s.words (entry x.entry)) ≡ e = known.1 in
        subst (λ (k : EntryWord). RecordFits n k.address (slice_index s.words k.address)) is
        (has_record x.entry known.0.within (taken_word n s.words x.entry x.generation known.0) few)

    pub counted_fits : (x : Name) → job.hand ≡ pushing x → length job.stack < n.entries * n.tablets
    counted_fits x hand = push_room n w s.words s.front.history cycle job x keeps hand

-- the word of a slot
pub slot_fits : (n : Numbers) (t : TracerView) (v : ℕ) → t.shape ≡ n → (v ≡ 0) ⊎ IsNameFor n t.server v
    → (v ≡ 0) ⊎ (IsPackedName v × IsOwnName t (name_at v))
slot_fits n t v shape (inl zero) = inl zero
slot_fits n t v shape (inr f) =
    let same : name_at v ≡ f.name = ap name_at f.word_is ∙ name_at-name_word f.name f.fits in
    inr (
      record { fits = subst FitsName (sym same) f.fits; same = ap name_word same ∙ sym f.word_is },
      subst (λ (y : Name). IsOwnName t y) (sym same)
          (subst (λ (m : Numbers). (f.name.entry < all_entries m) × (server_of_entry m f.name.entry ≡ t.server))
          (sym shape)
          (f.in_range, f.own)),
    )

-- ---- by stage

module _ (w : Facts) (s : JointScene) (seat : ℕ) (t : TracerView) (ended : ℕ) where
  abbrev shape : Numbers
  shape = t.shape

  -- what is known of the scene where the tracer is at this stage, before it is known what it finds
  pub record Ready (x : TraceStage) : Type 0 where
    pub joint : Joint shape w s
    pub slots : SlotsBelong shape s.words
    pub job : slice_get s.facets.trace seat ≡ Some (trace.serving (work_of (at_stage t x)))
    pub phase : slice_get s.facets.phases seat
        ≡ Some (serving t.server (working t.cycle) ended (tracer_laden (at_stage t x)))
    pub serves : s.facets.servers t.server ≡ serving_of (at_stage t x)
    pub stands : TracerStands shape t.server (at_stage t x)
    pub few : ObjectsAreSmall (state_of w s.front.history)
    pub low : (cycle : ℕ) → phase_of shape s.words ≡ Trace cycle → CountsAreLow t

  abbrev found_at : TraceStage → ℕ
  found_at x = finds (stage_next (at_stage t x) x) s.words

  module _ (x : TraceStage) (at : Ready x) where
    pub traced_at : tracer_laden (at_stage t x) ≡ true → phase_of shape s.words ≡ Trace t.cycle
    traced_at laden = laden_traces shape w s at.joint seat t.server t.cycle ended
        (at.phase ∙ ap (λ b. Some (serving t.server (working t.cycle) ended b)) laden)

    source_within : (source : Source) → IsSource shape t.server source → Within shape (slot_of t source)
    source_within Collector is = (
      at.stands.keeps.in_range,
      (subst (λ (f : rings.ServerFacet). WorkStands shape (word_at shape s.words) t.server s.facets.collector f)
          at.serves
          (at.joint.polls.works t.server at.stands.keeps.in_range)).at_below,
    )
    source_within (Server a) is = (
      is.0,
      at.stands.keeps.in_range,
      (subst (λ (f : rings.ServerFacet). GhostStands shape (word_at shape s.words) a t.server (s.facets.servers a) f)
          at.serves (at.joint.polls.ghosts a t.server is.0 at.stands.keeps.in_range is.1)).at_below,
    )

    source_belongs : (source : Source) → IsSource shape t.server source
        → (word_at shape s.words (slot_of t source) ≡ 0) ⊎ IsNameFor shape t.server
        (word_at shape s.words (slot_of t source))
    source_belongs Collector is = at.slots.works t.server t.work_at (source_within Collector is)
    source_belongs (Server a) is = at.slots.ghosts a t.server (slice_index t.ghost_at a) (source_within (Server a) is)

  pub stage_fits : (x : TraceStage) → Ready x → StageFits (at_stage t x) x (found_at x)
  stage_fits (Sending (HeadLook x)) at = tt
  stage_fits (Sending (GhostRaise x)) at = tt
  stage_fits (Sending (HeadStore x)) at = tt
  stage_fits (Scanning (FieldLoad scan)) at =
      field_fits shape w s at.joint seat t.cycle (work_of (at_stage t (Scanning (FieldLoad scan)))) at.job
      (traced_at (Scanning (FieldLoad scan)) at (ap (λ b. b || false) (scan_holds t scan at.stands.stage))) scan
      at.stands.stage
  stage_fits (Scanning (EntryLoad x)) at =
      popped_fits shape w s at.joint seat t.cycle (work_of (at_stage t (Scanning (EntryLoad x)))) at.job
      (traced_at (Scanning (EntryLoad x)) at refl) x refl
  stage_fits (Scanning (HeaderLoad x a)) at =
      located_fits shape w s at.joint seat t.cycle (work_of (at_stage t (Scanning (HeaderLoad x a)))) at.job
      (traced_at (Scanning (HeaderLoad x a)) at refl) x a refl at.few
  stage_fits (Receiving (SlotLook source)) at =
      slot_fits shape (at_stage t (Receiving (SlotLook source))) (word_at shape s.words (slot_of t source)) refl
      (source_belongs (Receiving (SlotLook source)) at source at.stands.stage.0)
  stage_fits (Receiving (BusyRaise source x)) at = tt
  stage_fits (Receiving (SlotClear source x)) at = tt
  stage_fits (Marking (Considering x)) at =
      considered_fits shape w s at.joint seat t.cycle (work_of (at_stage t (Marking (Considering x)))) at.job
      (traced_at (Marking (Considering x)) at refl) x refl
  stage_fits (Marking (Measuring x e)) at =
      let record_fits = measured_fits shape w s at.joint seat t.cycle (work_of (at_stage t (Marking (Measuring x e))))
      at.job (traced_at (Marking (Measuring x e)) at refl) x e refl at.few in
      let small = record_fits.0 in
      let count = at.low t.cycle (traced_at (Marking (Measuring x e)) at refl) (own_tablet shape x.entry) in
      (record_fits, omega arith)
  stage_fits (Marking (EntryMark x e fields)) at = tt
  stage_fits (Marking (Counting x fields)) at =
      let room = counted_fits shape w s at.joint seat t.cycle
      (work_of (at_stage t (Marking (Counting x fields)))) at.job
      (traced_at (Marking (Counting x fields)) at refl) x refl in
      let same : shape.entries * shape.tablets ≡ shape.tablets * shape.entries = mul_comm shape.entries shape.tablets in
      omega arith
  stage_fits (Resting BusyLower) at = tt
  stage_fits (Resting (TailLook r)) at = tt
  stage_fits (Resting GhostLower) at = tt
  stage_fits Ended at = tt

pub found_fits : (n : Numbers) (w : Facts) (s : JointScene) (seat : ℕ) (v : Serving) → Stands n w s seat v
    → v.stage ≡ Tracing → ObjectsAreSmall (state_of w s.front.history) → LowWhileTraced n s v
    → Fits v (found_by v s.words)
found_fits n w s seat v stands e few low = by v.stage e n stands.keeps.tracer.shape_is stands low
  where
    at : ServerStage → Serving
    at stage = record { tracer = v.tracer; notice_at = v.notice_at; ended = v.ended; stage = stage }

    by : (stage : ServerStage) → stage ≡ Tracing → (m : Numbers) → v.tracer.shape ≡ m
        → Stands m w s seat (at stage) → LowWhileTraced m s v
        → Fits (at stage) (found_by (at stage) s.words)
    by stage is m same =
        subst (λ k. Stands k w s seat (at stage) → LowWhileTraced k s v → Fits (at stage)
        (found_by (at stage) s.words)) same
        (subst (λ x. Stands v.tracer.shape w s seat (at x) → LowWhileTraced v.tracer.shape s v → Fits (at x)
        (found_by (at x) s.words)) (sym is)
        (λ st low. stage_fits w s seat v.tracer v.ended v.tracer.stage (record {
          joint = st.joint;
          slots = st.slots;
          job = st.here.trace;
          phase = st.here.phase;
          serves = st.here.serving;
          stands = st.keeps.tracer;
          few = few;
          low = low;
        })))
