-- Each step of a server's tracing keeps the live counts.
use Rattle.std.proofs.Common.{◌≡◌, ◌≢◌, ℕ, ◌+◌, inl, true, List, ◌∷◌, ◌++◌, Contains, length, set, slice_get}
use Rattle.std.proofs.Common.{slice_index, Option, Some, None, sym, ap, subst, refl, ◌∙◌, arith, length-set}
use Rattle.std.proofs.lemmas.List.{set-get_or}
use Rattle.mako_words.specs.declared.entry_word.EntryWord.{EntryWord}
use Rattle.mako_words.specs.declared.name.Name.{Name}
use Rattle.mako_words.specs.declared.phase_word.PhaseWord.TheVariants.{Trace}
use Rattle.mako_words.specs.Entries.{entry_word, entry_at, FitsEntry}
use Rattle.mako_words.specs.Phases.{phase_at}
use Rattle.mako_words.proofs.EntryWords.{entry_at-entry_word}
use Rattle.mako_shape.specs.declared.numbers.Numbers.{Numbers}
use Rattle.mako_shape.specs.Places.{Place, phase, entry, live, flags, ghost, work, index, Within, total, word_at}
use Rattle.mako_shape.specs.Belongings.{tablet_of_entry, server_of_tablet}
use Rattle.mako_shape.proofs.BelongingLaws.{belongings_in_range}
use Rattle.mako_shape.proofs.PlaceLaws.{word_other}
use Rattle.mako_step.specs.Acts.{finds}
use Rattle.mako_model.specs.declared.point.Point.{Point}
use Rattle.mako_model.specs.declared.point.Point.TheVariants.{Snap}
use Rattle.mako_model.specs.Dead.{names_made}
use Rattle.mako_model.specs.Heaps.{fields_of}
use Rattle.mako_model.specs.Legal.{Facts, state_of, IsLegal}
use Rattle.mako_names.specs.Tables.{entry_of, phase_of}
use Rattle.mako_names.specs.Uses.{IsGood}
use Rattle.mako_ring.specs.TraceFacets as trace
use Rattle.mako_ring.specs.TraceFacets.{Work}
use Rattle.mako_ring.specs.TracerFacets.{work_of}
use Rattle.mako_ring.specs.Tracing as tracer
use Rattle.mako_ring.specs.Tracing.{TracerView, owner, window_of, head_slot, slot_of, own_tablet, live_of, at_stage}
use Rattle.mako_ring.specs.Tracing.{next_work, begun}
use Rattle.mako_ring.specs.declared.tracing.Source.TheVariants.{Collector, Server}
use Rattle.mako_ring.specs.declared.tracing.SendStage.TheVariants.{HeadLook, GhostRaise, HeadStore}
use Rattle.mako_ring.specs.declared.tracing.ScanStage.TheVariants.{FieldLoad, EntryLoad, HeaderLoad}
use Rattle.mako_ring.specs.declared.tracing.ReceiveStage.TheVariants.{SlotLook, BusyRaise, SlotClear}
use Rattle.mako_ring.specs.declared.tracing.MarkStage.TheVariants.{Considering, Measuring, Marking as EntryMark}
use Rattle.mako_ring.specs.declared.tracing.MarkStage.TheVariants.{Counting}
use Rattle.mako_ring.specs.declared.tracing.RestStage.TheVariants.{BusyLower, TailLook, GhostLower}
use Rattle.mako_ring.specs.declared.tracing.TraceStage.{TraceStage}
use Rattle.mako_ring.specs.declared.tracing.TraceStage.TheVariants.{Sending, Scanning, Receiving, Marking, Resting}
use Rattle.mako_ring.specs.declared.tracing.TraceStage.TheVariants.{Ended}
use Rattle.mako_shades.specs.Serving.{ServerStands as TracesAs, HandStands}
use Rattle.mako_shades.proofs.Chains.{unmarked_old}
use Rattle.mako_shades.proofs.ForNames.{held_good}
use Rattle.mako_shades.proofs.Taken.{taken_word, taken_generation}
use Rattle.mako_phases.specs.Lives.{LiveFacet, counting, sized, record_size, AreCounted}
use Rattle.mako_phases.specs.LiveSteps as lives
use Rattle.mako_phases.specs.LiveSteps.{AgreeOnLives, LiveScene, LeavesLives, OldMarksAdd}
use Rattle.mako_phases.specs.Marked as marked
use Rattle.mako_phases.proofs.Lives.{counts_kept}
use Rattle.mako_phases.proofs.MarkSteps.{entries_mark, marked_same}
use Rattle.mako_phases.proofs.Parts.{cycles_fit, tablets_some}
use Rattle.mako_phases.proofs.Sizes.{sizes_those}
use Rattle.mako_phases.specs.Snapshots.{before_snap}
use Rattle.mako_phases.proofs.Snapshots.{snapshots_one}
use Rattle.mako_joint.specs.Joints.{JointScene}
use Rattle.mako_trace.proofs.SameServer.{fed_same}
use Rattle.mako_tracing.specs.ServerFacets.{tracer_laden, tracer_owed}
use Rattle.mako_tracing.specs.ServerLives.{IsMeasured}
use Rattle.mako_tracing.proofs.Fitting.{rec, header_is}
use Rattle.mako_tracing.proofs.Leading.{IsPlain, plain_leads, next_work_leads, counted}
use Rattle.mako_tracing.proofs.Lists.{set_back}
use Rattle.mako_tracing.proofs.Marks.{store_within}
use Rattle.mako_tracing.proofs.Tracers.{At, traces, us, fed_at, slot_within}
use Rattle.mako_tracing.proofs.Working.{tracks}

-- the phase, and the words of entries and live counts stay
record Agrees (n : Numbers) (words after : List ℕ) : Type 0 where
  pub phase_same : word_at n after phase ≡ word_at n words phase
  pub size : length after ≡ total n
  pub lives : (t : ℕ) → Within n (live t) → word_at n after (live t) ≡ word_at n words (live t)
  pub entries : (x : ℕ) → Within n (entry x) → word_at n after (entry x) ≡ word_at n words (entry x)

-- the place is no entry and no live count, nor the phase
abbrev IsApart : Place → Type 0
IsApart phase = ⊥
IsApart (entry x) = ⊥
IsApart (live t) = ⊥
IsApart p = Unit {0}

agrees_same : (n : Numbers) (words after : List ℕ) → length words ≡ total n → after ≡ words → Agrees n words after
agrees_same n words after size e = record {
  phase_same = ap (λ ws. word_at n ws phase) e;
  size = ap (λ ws. length ws) e ∙ size;
  lives = λ t within. ap (λ ws. word_at n ws (live t)) e;
  entries = λ x within. ap (λ ws. word_at n ws (entry x)) e;
}

agrees_stored : (n : Numbers) (words : List ℕ) (p : Place) (v : ℕ) → length words ≡ total n → Within n p → IsApart p
    → Agrees n words (set words (index n p) v)
agrees_stored n words p v size within apart = record {
  phase_same = word_other n words p phase v within tt (λ e. subst IsApart (sym e) apart);
  size = length-set words (index n p) v ∙ size;
  lives = λ t in_t. word_other n words p (live t) v within in_t (λ e. subst IsApart (sym e) apart);
  entries = λ x in_x. word_other n words p (entry x) v within in_x (λ e. subst IsApart (sym e) apart);
}

owes_none : (x : TraceStage) → IsPlain x → tracer_owed x ≡ None
owes_none (Sending x) plain = refl
owes_none (Scanning x) plain = refl
owes_none (Receiving x) plain = refl
owes_none (Marking (Considering x)) plain = refl
owes_none (Marking (Measuring x e)) plain = absurd plain
owes_none (Marking (EntryMark x e fields)) plain = absurd plain
owes_none (Marking (Counting x fields)) plain = absurd plain
owes_none (Resting x) plain = refl
owes_none Ended plain = refl

-- a live facet, by its parts
pub same_counting : (s u c d : ℕ) (counts others : List ℕ) (o p : Option (Name × ℕ)) → s ≡ u → c ≡ d → counts ≡ others
    → o ≡ p → counting s c counts o ≡ counting u d others p
same_counting s u c d counts others o p a b e f = λ i. counting (a i) (b i) (e i) (f i)

-- a live count is no entry
abbrev IsLive : Place → Type 0
IsLive (live t) = Unit {0}
IsLive p = ⊥

abbrev IsEntry : Place → Type 0
IsEntry (entry x) = Unit {0}
IsEntry p = ⊥

-- the phase is what its word says
pub phase_stays : (n : Numbers) (words after : List ℕ) (cycle : ℕ) → word_at n after phase ≡ word_at n words phase
    → phase_of n words ≡ Trace cycle → phase_of n after ≡ Trace cycle
unfolding phase_of
phase_stays n words after cycle same is = ap phase_at same ∙ is

-- marks as live counts read them
phase_epoch : (n : Numbers) (words : List ℕ) (cycle : ℕ) (x : Name) → marked.IsMarked n words cycle x
    → (entry_at (word_at n words (entry x.entry))).epoch ≡ cycle
unfolding entry_of
phase_epoch n words cycle x m = m.epoch

adds : (n : Numbers) (words : List ℕ) (before : List Point) (cycle : ℕ) → length words ≡ total n → (x : Name) (v : ℕ)
    → Within n (entry x.entry) → (entry_at (word_at n words (entry x.entry))).taken ≡ true
    → (entry_at (word_at n words (entry x.entry))).generation ≡ x.generation
    → entry_at v ≡ record (entry_at (word_at n words (entry x.entry))) { epoch = cycle }
    → OldMarksAdd n before cycle words (set words (index n (entry x.entry)) v) x
unfolding entry_of
adds n words before cycle size x v within taken generation is =
    (entries_mark n words before cycle size).mark x v within taken generation is

module _ (w : Facts) (s : JointScene) (seat : ℕ) (t : TracerView) (ended : ℕ) (facets : List LiveFacet)
    (before : List Point) where
  abbrev n : Numbers
  n = t.shape

  abbrev cycle : ℕ
  cycle = t.cycle

  abbrev Here : TraceStage → Type 0
  Here x = At w s seat t ended x

  abbrev words : TraceStage → List ℕ
  words x = us w s seat t ended x

  abbrev after : TraceStage → TracerView
  after x = fed_at w s seat t ended x

  -- what is known of live counts where the tracer is at this stage
  pub record Counts (x : TraceStage) : Type 0 where
    pub counts : AreCounted n w s.words facets before cycle
    pub here : slice_get facets seat ≡ Some (counting t.server t.cycle t.lives (tracer_owed x))
    pub traced : phase_of n s.words ≡ Trace cycle
    pub later : List Point
    pub split : s.front.history ≡ before ++ Snap cycle ∷ later
    pub measured : IsMeasured (state_of w s.front.history) x

  abbrev facet_after : TraceStage → LiveFacet
  facet_after x = counting (after x).server (after x).cycle (after x).lives (tracer_owed (after x).stage)

  -- and after its step
  pub record Counted (x : TraceStage) : Type 0 where
    pub counts : AreCounted n w (words x) (set facets seat (facet_after x)) before cycle
    pub phase_same : word_at n (words x) phase ≡ word_at n s.words phase
    pub measured : IsMeasured (state_of w s.front.history) (after x).stage

  -- words of which no count is made
  unseen : (x : TraceStage) → Counts x → Agrees n s.words (words x) → AreCounted n w (words x) facets before cycle
  unseen x c agree =
      counts_kept n w before cycle (record { words = s.words; facets = facets }) _ c.counts
      (lives.Unseen (words x) (record { size = agree.size; same = agree.lives })
      (λ y made. (
        (λ m. marked_same n (words x) s.words cycle y (sym (agree.entries y.entry m.in_range)) m),
        (λ m. marked_same n s.words (words x) cycle y (agree.entries y.entry m.in_range) m),
      )) refl)

  -- the facet stays
  stays : (x : TraceStage) → Counts x → Agrees n s.words (words x) → facet_after x ≡ counting t.server t.cycle t.lives
      (tracer_owed x)
      → AreCounted n w (words x) (set facets seat (facet_after x)) before cycle
  stays x c agree same =
      subst (λ fs. AreCounted n w (words x) fs before cycle)
      (sym (set_back facets seat (facet_after x) (c.here ∙ ap (λ f. Some f) (sym same)))) (unseen x c agree)

  plain_agrees : (x : TraceStage) → Here x → IsPlain x → Agrees n s.words (words x)
  plain_agrees (Sending (HeadLook x)) at plain =
      agrees_same n s.words _ at.joint.names.hold.size (set-get_or s.words _ 0)
  plain_agrees (Sending (GhostRaise x)) at plain =
      agrees_stored n s.words (flags t.server) _ at.joint.names.hold.size at.stands.keeps.in_range tt
  plain_agrees (Sending (HeadStore x)) at plain =
      agrees_stored n s.words (head_slot t x) _ at.joint.names.hold.size (store_within w s seat t ended x at) tt
  plain_agrees (Scanning (FieldLoad scan)) at plain =
      agrees_same n s.words _ at.joint.names.hold.size (set-get_or s.words _ 0)
  plain_agrees (Scanning (EntryLoad x)) at plain =
      agrees_same n s.words _ at.joint.names.hold.size (set-get_or s.words _ 0)
  plain_agrees (Scanning (HeaderLoad x address)) at plain =
      agrees_same n s.words _ at.joint.names.hold.size (set-get_or s.words _ 0)
  plain_agrees (Receiving (SlotLook source)) at plain =
      agrees_same n s.words _ at.joint.names.hold.size (set-get_or s.words _ 0)
  plain_agrees (Receiving (BusyRaise source x)) at plain =
      agrees_stored n s.words (flags t.server) _ at.joint.names.hold.size at.stands.keeps.in_range tt
  plain_agrees (Receiving (SlotClear Collector x)) at plain =
      agrees_stored n s.words (work t.server t.work_at) _ at.joint.names.hold.size
      (slot_within w s seat t ended (Receiving (SlotClear Collector x)) at Collector at.stands.stage.0) tt
  plain_agrees (Receiving (SlotClear (Server a) x)) at plain =
      agrees_stored n s.words (ghost a t.server (slice_index t.ghost_at a)) _ at.joint.names.hold.size
      (slot_within w s seat t ended (Receiving (SlotClear (Server a) x)) at (Server a) at.stands.stage.0) tt
  plain_agrees (Marking (Considering x)) at plain =
      agrees_same n s.words _ at.joint.names.hold.size (set-get_or s.words _ 0)
  plain_agrees (Marking (Measuring x e)) at plain = absurd plain
  plain_agrees (Marking (EntryMark x e fields)) at plain = absurd plain
  plain_agrees (Marking (Counting x fields)) at plain = absurd plain
  plain_agrees (Resting BusyLower) at plain =
      agrees_stored n s.words (flags t.server) _ at.joint.names.hold.size at.stands.keeps.in_range tt
  plain_agrees (Resting (TailLook r)) at plain =
      agrees_same n s.words _ at.joint.names.hold.size (set-get_or s.words _ 0)
  plain_agrees (Resting GhostLower) at plain =
      agrees_stored n s.words (flags t.server) _ at.joint.names.hold.size at.stands.keeps.in_range tt
  plain_agrees Ended at plain = absurd at.acts

  server_same : (x : TraceStage) → (after x).server ≡ t.server
  server_same x = (fed_same (at_stage t x) (finds (tracer.stage_next (at_stage t x) x) s.words)).server

  plain_facet : (x : TraceStage) → Here x → IsPlain x
      → facet_after x ≡ counting t.server t.cycle t.lives (tracer_owed x)
  plain_facet x at plain =
      let l = plain_leads t x (finds (tracer.stage_next (at_stage t x) x) s.words) at.free plain in
      same_counting (after x).server t.server (after x).cycle t.cycle (after x).lives t.lives
      (tracer_owed (after x).stage) (tracer_owed x) (server_same x) l.cycle l.lives (l.owed ∙ sym (owes_none x plain))

  plain_counts : (x : TraceStage) → Here x → Counts x → IsPlain x → Counted x
  plain_counts x at c plain =
      let l = plain_leads t x (finds (tracer.stage_next (at_stage t x) x) s.words) at.free plain in record {
        counts = stays x c (plain_agrees x at plain) (plain_facet x at plain);
        phase_same = (plain_agrees x at plain).phase_same;
        measured = l.measured (state_of w s.front.history);
      }

  -- ---- where no cycle is traced

  -- nothing is laden then, and no name is marked
  is_plain : (x : TraceStage) → Here x → ((c : ℕ) → phase_of n s.words ≢ Trace c) → IsPlain x
  is_plain (Sending x) at untraced = tt
  is_plain (Scanning x) at untraced = tt
  is_plain (Receiving x) at untraced = tt
  is_plain (Marking (Considering x)) at untraced = tt
  is_plain (Marking (Measuring x e)) at untraced =
      absurd (untraced t.cycle (traces w s seat t ended (Marking (Measuring x e)) at refl))
  is_plain (Marking (EntryMark x e fields)) at untraced =
      absurd (untraced t.cycle (traces w s seat t ended (Marking (EntryMark x e fields)) at refl))
  is_plain (Marking (Counting x fields)) at untraced =
      absurd (untraced t.cycle (traces w s seat t ended (Marking (Counting x fields)) at refl))
  is_plain (Resting x) at untraced = tt
  is_plain Ended at untraced = tt

  pub lives_rest : (x : TraceStage) → Here x → ((c : ℕ) → phase_of n s.words ≢ Trace c)
      → (facet_after x ≡ counting t.server t.cycle t.lives (tracer_owed x)) × AgreeOnLives n s.words (words x)
  lives_rest x at untraced =
      (plain_facet x at (is_plain x at untraced), (plain_agrees x at (is_plain x at untraced)).lives)

  -- ---- a record is measured, and its name is marked and counted

  module _ (x : Name) (stage : TraceStage) (at : Here stage)
      (laden : tracer_laden (at_stage t stage) ≡ true) where
    -- what tracing keeps of the server
    keeps : TracesAs n w s.words s.front.history t.cycle (work_of (at_stage t stage))
    keeps =
        (tracks w s seat t ended stage at laden).serving.each seat (trace.serving (work_of (at_stage t stage))) at.job

    own : trace.InHand (work_of (at_stage t stage)).hand x → server_of_tablet n (tablet_of_entry n x.entry) ≡ t.server
    own is = keeps.own x is

    -- what the record's header says of the object
    size_is : (e : EntryWord) → HandStands n s.words t.cycle (trace.marking x e)
        → record_size (state_of w s.front.history) x ≡ slice_index s.words e.address + 1
    size_is e known =
        let j = at.joint in
        let taken = taken_word n s.words x.entry x.generation known.0 in
        let r = rec n w s j x.entry known.0.within taken in
        let header : slice_index s.words e.address ≡ length r.fields =
        subst (λ (k : EntryWord). slice_index s.words k.address ≡ length r.fields) known.1
        (header_is n w s j x.entry known.0.within taken) in
        let generation = taken_generation n s.words x.entry x.generation known.0 in
        let named : record { entry = x.entry; generation = (entry_at (word_at n s.words (entry x.entry))).generation }
        ≡ x =
        λ i. record { entry = x.entry; generation = generation i } in
        let are : fields_of (state_of w s.front.history) x ≡ Some r.fields =
        subst (λ (y : Name). fields_of (state_of w s.front.history) y ≡ Some r.fields) named r.are in
        ap sized are ∙ ap (λ k. k + 1) (sym header)

  measures : (x : Name) (e : EntryWord) → Here (Marking (Measuring x e)) → Counts (Marking (Measuring x e))
      → Counted (Marking (Measuring x e))
  measures x e at c = record {
    counts = stays (Marking (Measuring x e)) c
        (agrees_same n s.words _ at.joint.names.hold.size (set-get_or s.words _ 0)) refl;
    phase_same = ap (λ ws. word_at n ws phase) (set-get_or s.words _ 0);
    measured = size_is x (Marking (Measuring x e)) at refl e (keeps x (Marking (Measuring x e)) at refl).hand;
  }

  -- the history before the snapshot is the one that tracing knows
  same_before : (stage : TraceStage) → (at : Here stage) → Counts stage
      → (laden : tracer_laden (at_stage t stage) ≡ true)
      → (tracks w s seat t ended stage at laden).tracing.before ≡ before
  same_before stage at c laden =
      let known = (tracks w s seat t ended stage at laden).tracing in
      let legal = at.joint.names.hold.answers.lawful.legal in
      let mine = snapshots_one w before c.later t.cycle (subst (IsLegal w) c.split legal) in
      let theirs = snapshots_one w known.before known.after t.cycle (subst (IsLegal w) known.split legal) in
      sym theirs ∙ ap (before_snap t.cycle) (sym known.split ∙ c.split) ∙ mine

  marks : (x : Name) (e : EntryWord) (fields : ℕ) → Here (Marking (EntryMark x e fields))
      → Counts (Marking (EntryMark x e fields)) → Counted (Marking (EntryMark x e fields))
  marks x e fields at c =
      let j = at.joint in
      let size = j.names.hold.size in
      let tracing = (tracks w s seat t ended (Marking (EntryMark x e fields)) at refl).tracing in
      let known = (keeps x (Marking (EntryMark x e fields)) at refl).hand in
      let within : Within n (entry x.entry) = known.0.within in
      let few = cycles_fit n j.script.shape in
      let most = at.held.cycle in
      let fits_marked : FitsEntry (record e { epoch = t.cycle }) = record {
        address = at.known.1.address;
        epoch = omega arith;
        generation = at.known.1.generation;
      } in
      let good : IsGood w s.front.history x =
      held_good n w s.words s.facets.trace s.front.history t.cycle tracing seat
      (trace.serving (work_of (at_stage t (Marking (EntryMark x e fields))))) x at.job (inl (inl refl)) in
      let other : (entry_at (word_at n s.words (entry x.entry))).epoch ≢ t.cycle =
      λ same. known.2 (ap (λ (k : EntryWord). k.epoch) (sym known.1) ∙ same) in
      let old : Contains (names_made before) x =
      subst (λ points. Contains (names_made points) x) (same_before (Marking (EntryMark x e fields)) at c refl)
      (unmarked_old n w s.words s.facets.trace s.front.history t.cycle tracing x good (λ m. other m.epoch)) in
      let sizes : record_size (state_of w before) x ≡ fields + 1 =
      sym (sizes_those w before (Snap t.cycle ∷ c.later) (subst (IsLegal w) c.split j.names.hold.answers.lawful.legal) x
      old)
      ∙ ap (λ points. record_size (state_of w points) x) (sym c.split) ∙ c.measured in
      record {
        counts = subst (λ z. AreCounted n w (words (Marking (EntryMark x e fields)))
            (set facets seat (counting t.server t.cycle t.lives (Some (x, z)))) before t.cycle) sizes
            (counts_kept n w before t.cycle (record { words = s.words; facets = facets }) _ c.counts
            (lives.Marks (words (Marking (EntryMark x e fields))) seat t.server t.cycle t.lives x c.here
            (own x (Marking (EntryMark x e fields)) at refl refl) old
            (λ m. other (phase_epoch n s.words t.cycle x m))
            (record {
              size = length-set s.words (index n (entry x.entry)) _ ∙ size;
              same = λ k in_k. word_other n s.words (entry x.entry) (live k) _ within in_k
                  (λ same. subst IsLive same tt);
            })
            (adds n s.words before t.cycle size x (entry_word (record e { epoch = t.cycle })) within
            (taken_word n s.words x.entry x.generation known.0)
            (taken_generation n s.words x.entry x.generation known.0)
            (entry_at-entry_word (record e { epoch = t.cycle }) fits_marked
            ∙ ap (λ (k : EntryWord). record k { epoch = t.cycle }) (sym known.1)))
            refl));
        phase_same = word_other n s.words (entry x.entry) phase _ within tt (λ same. subst IsEntry (sym same) tt);
        measured = tt;
      }

  counts_words : (x : Name) (fields : ℕ) → Here (Marking (Counting x fields)) → Counts (Marking (Counting x fields))
      → Counted (Marking (Counting x fields))
  counts_words x fields at c =
      let l = next_work_leads (counted t x fields) in
      let few = cycles_fit n at.joint.script.shape in
      let most = at.held.cycle in
      record {
        counts = subst (λ f. AreCounted n w (words (Marking (Counting x fields))) (set facets seat f) before t.cycle)
            (same_counting t.server (after (Marking (Counting x fields))).server t.cycle
            (after (Marking (Counting x fields))).cycle (counted t x fields).lives
            (after (Marking (Counting x fields))).lives None (tracer_owed (after (Marking (Counting x fields))).stage)
            (sym (server_same (Marking (Counting x fields)))) (sym l.cycle) (sym l.lives) (sym l.owed))
            (counts_kept n w before t.cycle (record { words = s.words; facets = facets }) _ c.counts
            (lives.Counts seat t.server t.lives x (fields + 1) c.here
            (belongings_in_range.entry n x.entry at.stands.stage)
            (own x (Marking (Counting x fields)) at refl refl) (tablets_some n at.joint.script.shape) (omega arith)
            at.known.1 refl));
        phase_same = word_other n s.words (live (tablet_of_entry n x.entry)) phase _
            (belongings_in_range.entry n x.entry at.stands.stage) tt (λ same. subst IsLive (sym same) tt);
        measured = l.measured (state_of w s.front.history);
      }

  pub stage_counts : (x : TraceStage) → Here x → Counts x → Counted x
  stage_counts (Sending x) at c = plain_counts (Sending x) at c tt
  stage_counts (Scanning x) at c = plain_counts (Scanning x) at c tt
  stage_counts (Receiving x) at c = plain_counts (Receiving x) at c tt
  stage_counts (Marking (Considering x)) at c = plain_counts (Marking (Considering x)) at c tt
  stage_counts (Marking (Measuring x e)) at c = measures x e at c
  stage_counts (Marking (EntryMark x e fields)) at c = marks x e fields at c
  stage_counts (Marking (Counting x fields)) at c = counts_words x fields at c
  stage_counts (Resting x) at c = plain_counts (Resting x) at c tt
  stage_counts Ended at c = absurd at.acts
