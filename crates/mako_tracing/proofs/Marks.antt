-- Steps of a server's tracing on slots and marks: names sent and taken, considered, marked and counted.
use Rattle.std.proofs.Common.{◌≡◌, ℕ, ◌+◌, ◌*◌, ◌<◌, ◌==◌, ◌%◌, ◌^◌, ◌⊎◌, ◌∷◌, ◌++◌, [], if◌then◌else◌, inl, inr, Bool}
use Rattle.std.proofs.Common.{true, false, None, set, slice_index, slice_set, sym, ap, subst, refl, ◌∙◌, arith}
use Rattle.std.proofs.lemmas.List.{set-get_or}
use Rattle.std.proofs.lemmas.Bool.Decides.{nat_tests}
use Rattle.mako_words.specs.declared.entry_word.EntryWord.{EntryWord}
use Rattle.mako_words.specs.declared.name.Name.{Name}
use Rattle.mako_words.specs.Entries.{entry_word, entry_at}
use Rattle.mako_words.specs.Lives.{live_word}
use Rattle.mako_words.specs.Names.{name_word, FitsName}
use Rattle.mako_shape.specs.declared.numbers.Numbers.{Numbers}
use Rattle.mako_shape.specs.Places.{Place, entry, live, ghost, work, index, Within, word_at}
use Rattle.mako_shape.specs.Belongings.{tablet_of_entry, server_of_entry}
use Rattle.mako_shape.proofs.BelongingLaws.{belongings_in_range}
use Rattle.mako_model.specs.Legal.{Facts}
use Rattle.mako_names.specs.Steps.{IsGoodWord}
use Rattle.mako_names.specs.Tables.{phase_of}
use Rattle.mako_names.proofs.Words.{phase_else}
use Rattle.mako_names.specs.Uses.{IsGood, IsUseSlot}
use Rattle.mako_ring.specs.Facets as rings
use Rattle.mako_ring.specs.Polling.{DoingStands, MayPut, MayTake}
use Rattle.mako_ring.specs.TraceFacets as trace
use Rattle.mako_ring.specs.TraceFacets.{Work, empty, considering, marking, pushing, nothing, located}
use Rattle.mako_ring.specs.TracerFacets.{work_of, serving_of}
use Rattle.mako_ring.specs.TracerFacts.{holds}
use Rattle.mako_ring.specs.Tracing.{TracerView, owner, window_of, set_window, head_slot, own_tablet, live_of, at_stage}
use Rattle.mako_ring.specs.Tracing.{next_work}
use Rattle.mako_ring.specs.Windows.{head_up}
use Rattle.mako_ring.specs.declared.tracing.Source.{Source}
use Rattle.mako_ring.specs.declared.tracing.Source.TheVariants.{Collector, Server}
use Rattle.mako_ring.specs.declared.tracing.SendStage.TheVariants.{HeadStore}
use Rattle.mako_ring.specs.declared.tracing.ReceiveStage.TheVariants.{SlotClear}
use Rattle.mako_ring.specs.declared.tracing.MarkStage.TheVariants.{Considering, Measuring, Marking as EntryMark}
use Rattle.mako_ring.specs.declared.tracing.MarkStage.TheVariants.{Counting}
use Rattle.mako_ring.specs.declared.tracing.TraceStage.{TraceStage}
use Rattle.mako_ring.specs.declared.tracing.TraceStage.TheVariants.{Sending, Receiving, Marking}
use Rattle.mako_ring.proofs.Turns.{place_below}
use Rattle.mako_shades.specs.Steps as shades
use Rattle.mako_shades.specs.Steps.{TraceStep}
use Rattle.mako_shades.proofs.ForNames.{held_good}
use Rattle.mako_shades.proofs.Words.{write_agrees, same_name}
use Rattle.mako_phases.specs.Orders.{PhaseOrder}
use Rattle.mako_joint.specs.Joints.{JointScene, trace_in, TracksFit, Joint}
use Rattle.mako_joint.specs.Kinds.{with_mark}
use Rattle.mako_joint.proofs.Marking.{marks_name}
use Rattle.mako_tracing.specs.ServerFacets.{tracer_laden}
use Rattle.mako_tracing.specs.ServerKeeps.{IsNameFor}
use Rattle.mako_tracing.proofs.Leading.{rested_work}
use Rattle.mako_tracing.proofs.Looking.{or_true, sent_laden}
use Rattle.mako_tracing.proofs.Scenes.{WordsKeep, words_elsewhere, words_slot, rejobbed}
use Rattle.mako_tracing.proofs.Working.{ends_with, loaded, tracks}
use Rattle.mako_tracing.proofs.Tracers.{At, slot_within, us, fed_at, after_with, traces_with, Goes, trace_after, traces}
use Rattle.mako_tracing.proofs.Tracers.{order_seen, order_on, order_moved, tracks_go, tracks_stay, stepped}

-- a name that fits is told by its word
named_by : (x y : Name) → x.entry < 2 ^ 20 → FitsName y → name_word x ≡ name_word y → x ≡ y
named_by x y low fits e =
    let a = fits.0 in
    let b = fits.1 in
    let entry_is : x.entry ≡ y.entry = omega arith in
    let generation_is : x.generation ≡ y.generation = omega arith in
    λ i. record { entry = entry_is i; generation = generation_is i }

no_name : (x : Name) → 0 ≡ name_word x → ⊥
no_name x e = absurd (omega arith)

module _ (w : Facts) (s : JointScene) (seat : ℕ) (t : TracerView) (ended : ℕ) where
  abbrev n : Numbers
  n = t.shape

  abbrev Here : TraceStage → Type 0
  Here x = At w s seat t ended x

  abbrev Gone : TraceStage → Type 0
  Gone x = Goes w s seat t ended x

  abbrev after : TraceStage → TracerView
  after x = fed_at w s seat t ended x

  abbrev before : TraceStage → Work
  before x = work_of (at_stage t x)

  -- a slot that is filled or emptied, after which it has this to trace
  slot_stored : (x : TraceStage) → (at : Here x) → (p : Place) (v : ℕ)
      → us w s seat t ended x ≡ set s.words (index n p) v → IsUseSlot p → Within n p → WordsKeep n w s
      (set s.words (index n p) v)
      → (job : Work) → tracer_laden (at_stage t x) ≡ true
      → TraceStep n w t.cycle (trace_in s) (trace_after w s seat t ended x at (set s.words (index n p) v) job)
      → Joint n w (after_with w s seat t ended x job)
  slot_stored x at p v same slot within keep job laden step =
      stepped w s seat t ended x at job
      (subst (λ ws. WordsKeep n w s ws) (sym same) keep)
      (subst (λ ws. TracksFit (phase_of n ws) n w (trace_after w s seat t ended x at ws job)) (sym same)
      (tracks_go w s seat t ended x at (set s.words (index n p) v) job keep.phase laden step))
      (subst (λ ws. PhaseOrder n ws (set s.facets.phases seat (traces_with w s seat t ended (tracer_laden (after x)))))
      (sym same) (order_moved w s seat t ended x at p v slot within laden (tracer_laden (after x))))

  -- ---- sending
  abbrev sent : Name → TracerView
  sent x = record (set_window t (owner n x) (head_up (window_of t (owner n x)))) {
    outgoing = None;
    stage = Sending (HeadStore x);
  }

  pub may_put : (x : Name) → Here (Sending (HeadStore x))
      → MayPut n (word_at n s.words) t.server (serving_of (at_stage t (Sending (HeadStore x)))) (owner n x)
  may_put x at =
      subst (λ (f : rings.ServerFacet). DoingStands n (word_at n s.words) t.server f f.doing) at.serves
      (at.joint.polls.doing t.server at.stands.keeps.in_range)

  pub store_within : (x : Name) → Here (Sending (HeadStore x)) → Within n (head_slot t x)
  store_within x at =
      let ring = at.held.shape.in_range.each in (
        at.stands.keeps.in_range,
        (may_put x at).in_range,
        place_below n.ring (window_of t (owner n x)).head (omega (arith, ring)),
      )

  pub head_store : (x : Name) → Here (Sending (HeadStore x)) → Gone (Sending (HeadStore x))
  head_store x at =
      let may = may_put x at in
      let laden : tracer_laden (at_stage t (Sending (HeadStore x))) ≡ true =
      sent_laden w s seat t ended x at.stands.stage in
      let within : Within n (head_slot t x) = store_within x at in
      let good : IsGood w s.front.history x =
      held_good n w s.words s.facets.trace s.front.history t.cycle
      (tracks w s seat t ended (Sending (HeadStore x)) at laden).tracing seat
      (trace.serving (before (Sending (HeadStore x)))) x at.job (inl (inr at.stands.stage)) in
      let fits : FitsName x = at.known.0.0 in
      ends_with w s seat t ended (Sending (HeadStore x)) at (sent x) refl
      (slot_stored (Sending (HeadStore x)) at (head_slot t x) (name_word x) refl tt within
      (words_slot n w s at.joint (head_slot t x) (name_word x) within tt tt tt
      (λ y fits_y e. subst (IsGood w s.front.history) (same_name x y fits fits_y e) good))
      (rested_work (sent x)) laden
      (shades.Sends seat (before (Sending (HeadStore x))) x t.server (owner n x)
      ((window_of t (owner n x)).head % n.ring) at.job at.stands.stage within may.free refl))

  -- ---- taking
  few_entries : (x : Name) → (stage : TraceStage) → Here stage → x.entry < n.servers * n.tablets * n.entries
      → x.entry < 2 ^ 20
  few_entries x stage at low = let most = at.held.shape.entries in omega arith

  -- what it takes is the name of its own that stands in the slot
  taken : (x : Name) (word : ℕ) → x.entry < 2 ^ 20 → word ≡ name_word x → (word ≡ 0) ⊎ IsNameFor n t.server word
      → FitsName x × (server_of_entry n x.entry ≡ t.server)
  taken x word low is (inl zero) = absurd (no_name x (sym zero ∙ is))
  taken x word low is (inr f) =
      let same : x ≡ f.name = named_by x f.name low f.fits (sym is ∙ f.word_is) in (
        subst FitsName (sym same) f.fits,
        subst (λ (y : Name). server_of_entry n y.entry ≡ t.server) (sym same) f.own,
      )

  no_word : IsGoodWord w s.front.history 0
  no_word name fits e = absurd (no_name name e)

  takes : (source : Source) (x : Name) → (at : Here (Receiving (SlotClear source x))) → (p : Place) → IsUseSlot p
      → Within n p → WordsKeep n w s (set s.words (index n p) 0)
      → us w s seat t ended (Receiving (SlotClear source x)) ≡ set s.words (index n p) 0 → shades.IsIncoming p
      → word_at n s.words p ≡ name_word x
      → (word_at n s.words p ≡ 0) ⊎ IsNameFor n t.server (word_at n s.words p)
      → work_of (after (Receiving (SlotClear source x)))
      ≡ record (before (Receiving (SlotClear source x))) { hand = considering x }
      → Gone (Receiving (SlotClear source x))
  takes source x at p slot within keep same incoming found belongs goes =
      let own = taken x (word_at n s.words p)
      (few_entries x (Receiving (SlotClear source x)) at at.known.1) found belongs in
      subst (λ k. Joint n w (after_with w s seat t ended (Receiving (SlotClear source x)) k)) (sym goes)
      (slot_stored (Receiving (SlotClear source x)) at p 0 same slot within keep
      (record (before (Receiving (SlotClear source x))) { hand = considering x }) (or_true (holds t))
      (shades.Takes seat (before
      (Receiving (SlotClear source x))) p x at.job refl incoming within own.0 found own.1 refl))

  may_take : (source : Source) (x : Name) → Here (Receiving (SlotClear source x))
      → MayTake n (word_at n s.words) t.server (serving_of (at_stage t (Receiving (SlotClear source x)))) source
      (name_word x)
  may_take source x at =
      subst (λ (f : rings.ServerFacet). DoingStands n (word_at n s.words) t.server f f.doing) at.serves
      (at.joint.polls.doing t.server at.stands.keeps.in_range)

  pub slot_clear : (source : Source) (x : Name) → Here (Receiving (SlotClear source x))
      → Gone (Receiving (SlotClear source x))
  slot_clear Collector x at =
      let within : Within n (work t.server t.work_at) =
      slot_within w s seat t ended (Receiving (SlotClear Collector x)) at Collector at.stands.stage.0 in
      takes Collector x at (work t.server t.work_at) tt within
      (words_slot n w s at.joint (work t.server t.work_at) 0 within tt tt tt no_word) refl tt
      (may_take Collector x at).found
      (at.slots.works t.server t.work_at within) refl
  slot_clear (Server a) x at =
      let within : Within n (ghost a t.server (slice_index t.ghost_at a)) =
      slot_within w s seat t ended (Receiving (SlotClear (Server a) x)) at (Server a) at.stands.stage.0 in
      takes (Server a) x at (ghost a t.server (slice_index t.ghost_at a)) tt within
      (words_slot n w s at.joint (ghost a t.server (slice_index t.ghost_at a)) 0 within tt tt tt no_word) refl tt
      (may_take (Server a) x at).found
      (at.slots.ghosts a t.server (slice_index t.ghost_at a) within) refl

  -- ---- marking
  pub considering_entry : (x : Name) → Here (Marking (Considering x)) → Gone (Marking (Considering x))
  considering_entry x at = by ((entry_at found).epoch == t.cycle) refl
    where
      found : ℕ
      found = word_at n s.words (entry x.entry)

      same : us w s seat t ended (Marking (Considering x)) ≡ s.words
      same = set-get_or s.words _ 0

      by : (b : Bool) → ((entry_at found).epoch == t.cycle) ≡ b → Gone (Marking (Considering x))
      by true e =
          let is : after (Marking (Considering x)) ≡ next_work (at_stage t (Marking (Considering x))) =
          ap (λ b. if b then next_work (at_stage t (Marking (Considering x)))
          else at_stage t (Marking (Measuring x (entry_at found)))) e in
          ends_with w s seat t ended (Marking (Considering x)) at (at_stage t (Marking (Considering x))) is
          (loaded w s seat t ended (Marking (Considering x)) at same
          (rested_work (at_stage t (Marking (Considering x)))) refl
          (shades.Dismisses seat (before (Marking (Considering x))) x at.job refl (grind (arith, nat_tests)) refl))
      by false e =
          let is : after (Marking (Considering x)) ≡ at_stage t (Marking (Measuring x (entry_at found))) =
          ap (λ b. if b then next_work (at_stage t (Marking (Considering x)))
          else at_stage t (Marking (Measuring x (entry_at found)))) e in
          subst (λ k. Joint n w (after_with w s seat t ended (Marking (Considering x)) k)) (ap work_of (sym is))
          (loaded w s seat t ended (Marking (Considering x)) at same
          (work_of (at_stage t (Marking (Measuring x (entry_at found))))) refl
          (shades.LooksUp seat (before (Marking (Considering x))) x at.job refl
          (λ z. absurd (grind (arith, nat_tests))) refl))

  pub marking_entry : (x : Name) (e : EntryWord) (fields : ℕ) → Here (Marking (EntryMark x e fields))
      → Gone (Marking (EntryMark x e fields))
  marking_entry x e fields at =
      let j = at.joint in
      let traced = traces w s seat t ended (Marking (EntryMark x e fields)) at refl in
      let marked : Joint n w (with_mark n s t.cycle seat (before (Marking (EntryMark x e fields))) x e) =
      marks_name n w s j t.cycle seat t.server ended
      (before (Marking (EntryMark x e fields))) x e at.phase traced at.job refl in
      stepped w s seat t ended (Marking (EntryMark x e fields)) at (work_of (after (Marking (EntryMark x e fields))))
      (record {
        names = marked.names;
        layout = marked.layout;
        phase = phase_else n s.words x.entry (entry_word (record e { epoch = t.cycle })) at.stands.stage;
      })
      marked.tracks
      (order_on w s seat t ended (Marking (EntryMark x e fields)) at _ marked.order
      (tracer_laden (after (Marking (EntryMark x e fields)))) (inl refl))

  abbrev counted : Name → ℕ → TracerView
  counted x fields = record t {
    lives = slice_set t.lives (own_tablet n x.entry) (live_of t x + (fields + 1));
    stack = t.stack ++ x.entry ∷ [];
    stage = Marking (Counting x fields);
  }

  pub counting_words : (x : Name) (fields : ℕ) → Here (Marking (Counting x fields)) → Gone (Marking (Counting x fields))
  counting_words x fields at =
      let p : Place = live (tablet_of_entry n x.entry) in
      let v : ℕ = live_word (record { cycle = t.cycle; words = live_of t x + (fields + 1) }) in
      let within : Within n (live (tablet_of_entry n x.entry)) =
      belongings_in_range.entry n x.entry at.stands.stage in
      let keep : WordsKeep n w s (us w s seat t ended (Marking (Counting x fields))) =
      words_elsewhere n w s at.joint p v within tt tt (λ is. is) in
      let first : Joint n w (after_with w s seat t ended (Marking (Counting x fields))
      (before (Marking (Counting x fields)))) =
      stepped w s seat t ended (Marking (Counting x fields)) at (before (Marking (Counting x fields))) keep
      (tracks_stay w s seat t ended (Marking (Counting x fields)) at _ (before (Marking (Counting x fields))) keep.phase
      (write_agrees n s.words p v within (λ is. is)) refl)
      (order_on w s seat t ended (Marking (Counting x fields)) at _
      (order_seen w s seat t ended (Marking (Counting x fields)) at p v within (λ is. is))
      (tracer_laden (after (Marking (Counting x fields)))) (inl refl)) in
      ends_with w s seat t ended (Marking (Counting x fields)) at (counted x fields) refl
      (rejobbed n w s seat (us w s seat t ended (Marking (Counting x fields)))
      (before (Marking (Counting x fields))) (rested_work (counted x fields))
      (traces_with w s seat t ended (tracer_laden (after (Marking (Counting x fields))))) t.server
      (serving_of (after (Marking (Counting x fields))))
      (trace.serving (before (Marking (Counting x fields)))) at.job first
      (λ c is here. shades.Pushes seat (before (Marking (Counting x fields))) x here refl refl))
