-- Steps of a server's tracing that change nothing of what it has to trace: looks, and what it makes of its flags.
use Rattle.std.proofs.Common.{◌≡◌, ◌≢◌, ℕ, ◌+◌, ◌==◌, ◌⊎◌, ◌||◌, nat_lt, if◌then◌else◌, inl, inr, Bool, true, false}
use Rattle.std.proofs.Common.{Option, Some, None, set, sym, ap, subst, refl, ◌∙◌, arith}
use Rattle.std.proofs.lemmas.List.{set-get_or}
use Rattle.std.proofs.lemmas.Bool.Decides.{nat_tests}
use Rattle.mako_words.specs.declared.name.Name.{Name}
use Rattle.mako_words.specs.declared.entry_word.EntryWord.{EntryWord}
use Rattle.mako_words.specs.Names.{name_at}
use Rattle.mako_shape.specs.declared.numbers.Numbers.{Numbers}
use Rattle.mako_shape.specs.Places.{flags, index, Within, word_at}
use Rattle.mako_step.specs.Acts.{finds}
use Rattle.mako_model.specs.Legal.{Facts}
use Rattle.mako_names.specs.Tables.{phase_of}
use Rattle.mako_names.specs.Uses.{IsUseSlot}
use Rattle.mako_ring.specs.TracerFacets.{work_of, serving_of}
use Rattle.mako_ring.specs.TracerFacts.{holds}
use Rattle.mako_ring.specs.Tracing.{TracerView, owner, window_of, set_window, slot_of, at_stage, windows_from}
use Rattle.mako_ring.specs.Tracing.{past_rings, after_source, rings_from}
use Rattle.mako_ring.specs.Windows.{tail_up, found_room}
use Rattle.mako_ring.specs.declared.tracing.Source.{Source}
use Rattle.mako_ring.specs.declared.tracing.Source.TheVariants.{Collector, Server}
use Rattle.mako_ring.specs.declared.tracing.SendStage.TheVariants.{HeadLook, GhostRaise}
use Rattle.mako_ring.specs.declared.tracing.ReceiveStage.TheVariants.{SlotLook, BusyRaise}
use Rattle.mako_ring.specs.declared.tracing.MarkStage.TheVariants.{Measuring}
use Rattle.mako_ring.specs.declared.tracing.RestStage.TheVariants.{BusyLower, TailLook, GhostLower}
use Rattle.mako_ring.specs.declared.tracing.TraceStage.{TraceStage}
use Rattle.mako_ring.specs.declared.tracing.TraceStage.TheVariants.{Sending, Receiving, Marking, Resting}
use Rattle.mako_shades.proofs.Words.{write_agrees}
use Rattle.mako_phases.specs.Orders.{PhaseOrder}
use Rattle.mako_poll.proofs.Parts.{outgoing_holds, rested, windows_facet, rest_facet}
use Rattle.mako_joint.specs.Joints.{JointScene}
use Rattle.mako_tracing.specs.ServerFacets.{is_laden, tracer_laden}
use Rattle.mako_tracing.proofs.Leading.{rested_work, windows_work, rest_work}
use Rattle.mako_tracing.proofs.Scenes.{WordsKeep, words_same, words_elsewhere}
use Rattle.mako_tracing.proofs.Tracers.{At, next, us, fed_at, traces_with, Goes, slot_within, order_seen, order_on}
use Rattle.mako_tracing.proofs.Tracers.{order_found, tracks_stay, stepped}

-- past all rings it rests, with what it had to trace
past_work : (t : TracerView) (o : Option Name) → work_of (past_rings t o) ≡ rested_work t
past_work t (Some x) = refl
past_work t None = rest_work t

pub rings_work : (t : TracerView) (a : ℕ) → work_of (rings_from t a) ≡ rested_work t
rings_work t a = on (nat_lt a t.shape.servers)
  where
    on : (b : Bool) → work_of (if b then at_stage t (Receiving (SlotLook (Server a))) else past_rings t t.outgoing)
        ≡ rested_work t
    on true = refl
    on false = past_work t t.outgoing

past_facet : (t : TracerView) (o : Option Name) → serving_of (past_rings t o) ≡ rested t
past_facet t (Some x) = refl
past_facet t None = rest_facet t

pub rings_facet : (t : TracerView) (a : ℕ) → serving_of (rings_from t a) ≡ rested t
rings_facet t a = on (nat_lt a t.shape.servers)
  where
    on : (b : Bool) → serving_of (if b then at_stage t (Receiving (SlotLook (Server a))) else past_rings t t.outgoing)
        ≡ rested t
    on true = refl
    on false = past_facet t t.outgoing

pub or_true : (b : Bool) → (b || true) ≡ true
or_true true = refl
or_true false = refl

is_use : (t : TracerView) (source : Source) → IsUseSlot (slot_of t source)
is_use t Collector = tt
is_use t (Server a) = tt

module _ (w : Facts) (s : JointScene) (seat : ℕ) (t : TracerView) (ended : ℕ) where
  abbrev n : Numbers
  n = t.shape

  abbrev Here : TraceStage → Type 0
  Here x = At w s seat t ended x

  abbrev Gone : TraceStage → Type 0
  Gone x = Goes w s seat t ended x

  abbrev after : TraceStage → TracerView
  after x = fed_at w s seat t ended x

  -- what it has to trace stays, and so does whether it is laden, or it was laden before
  pub record Stays (x : TraceStage) : Type 0 where
    pub work : work_of (at_stage t x) ≡ work_of (after x)
    pub laden : (tracer_laden (at_stage t x) ≡ true) ⊎ (tracer_laden (after x) ≡ tracer_laden (at_stage t x))

  -- a look
  pub looked : (x : TraceStage) → Here x → us w s seat t ended x ≡ s.words → Stays x → Gone x
  looked x at same stays =
      stepped w s seat t ended x at (work_of (after x))
      (subst (λ ws. WordsKeep n w s ws) (sym same) (words_same n w s at.joint))
      (tracks_stay w s seat t ended x at (us w s seat t ended x) (work_of (after x)) (ap (phase_of n) same)
      (λ p is within. ap (λ ws. word_at n ws p) same) stays.work)
      (order_on w s seat t ended x at (us w s seat t ended x)
      (subst (λ ws. PhaseOrder n ws s.facets.phases) (sym same) at.joint.order) (tracer_laden (after x)) stays.laden)

  -- a word of its flags
  pub flagged : (x : TraceStage) → Here x → (v : ℕ)
      → us w s seat t ended x ≡ set s.words (index n (flags t.server)) v → Stays x → Gone x
  flagged x at v same stays =
      let within : Within n (flags t.server) = at.stands.keeps.in_range in
      let keep : WordsKeep n w s (us w s seat t ended x) =
      subst (λ ws. WordsKeep n w s ws) (sym same)
      (words_elsewhere n w s at.joint (flags t.server) v within tt tt (λ is. is)) in
      stepped w s seat t ended x at (work_of (after x)) keep
      (tracks_stay w s seat t ended x at (us w s seat t ended x) (work_of (after x)) keep.phase
      (λ p is in_p. ap (λ ws. word_at n ws p) same
      ∙ write_agrees n s.words (flags t.server) v within (λ is. is) p is in_p)
      stays.work)
      (order_on w s seat t ended x at (us w s seat t ended x)
      (subst (λ ws. PhaseOrder n ws s.facets.phases) (sym same)
      (order_seen w s seat t ended x at (flags t.server) v within (λ is. is)))
      (tracer_laden (after x)) stays.laden)

  -- ---- sending
  pub sent_laden : (x : Name) → t.outgoing ≡ Some x → (holds t || false) ≡ true
  sent_laden x e = ap (λ b. b || false) (outgoing_holds t x e)

  pub head_look : (x : Name) → Here (Sending (HeadLook x)) → Gone (Sending (HeadLook x))
  head_look x at =
      looked (Sending (HeadLook x)) at (set-get_or s.words _ 0)
      (record { work = work (found == 0); laden = inl (sent_laden x at.stands.stage) })
    where
      found : ℕ
      found = finds (next w s seat t ended (Sending (HeadLook x))) s.words

      work : (b : Bool) → work_of (at_stage t (Sending (HeadLook x)))
          ≡ work_of (if b then at_stage (set_window (at_stage t (Sending (HeadLook x))) (owner n x)
          (found_room n.ring (window_of t (owner n x)))) (Sending (GhostRaise x))
          else at_stage t (Receiving (SlotLook Collector)))
      work true = refl
      work false = refl

  pub ghost_raise : (x : Name) → Here (Sending (GhostRaise x)) → Gone (Sending (GhostRaise x))
  ghost_raise x at =
      flagged (Sending (GhostRaise x)) at _ refl (record { work = refl; laden = inl (sent_laden x at.stands.stage) })

  -- ---- receiving
  pub slot_look : (source : Source) → Here (Receiving (SlotLook source)) → Gone (Receiving (SlotLook source))
  slot_look source at = by (found == 0) refl
    where
      x : TraceStage
      x = Receiving (SlotLook source)

      found : ℕ
      found = finds (next w s seat t ended (Receiving (SlotLook source))) s.words

      by : (b : Bool) → (found == 0) ≡ b → Gone (Receiving (SlotLook source))
      by true e =
          let goes : after (Receiving (SlotLook source))
          ≡ rings_from (at_stage t (Receiving (SlotLook source))) (after_source t source) =
          ap (λ b. if b then rings_from (at_stage t (Receiving (SlotLook source))) (after_source t source)
          else at_stage t (Receiving (BusyRaise source (name_at found)))) e in
          looked (Receiving (SlotLook source)) at (set-get_or s.words _ 0)
          (record {
            work = sym (ap work_of goes
                ∙ rings_work (at_stage t (Receiving (SlotLook source))) (after_source t source));
            laden = inr (ap tracer_laden goes
                ∙ ap is_laden (rings_facet (at_stage t (Receiving (SlotLook source))) (after_source t source)));
          })
      by false e =
          let goes : after (Receiving (SlotLook source)) ≡ at_stage t (Receiving (BusyRaise source (name_at found))) =
          ap (λ b. if b then rings_from (at_stage t (Receiving (SlotLook source))) (after_source t source)
          else at_stage t (Receiving (BusyRaise source (name_at found)))) e in
          let laden : tracer_laden (after (Receiving (SlotLook source))) ≡ true =
          ap tracer_laden goes ∙ or_true (holds t) in
          let same : us w s seat t ended (Receiving (SlotLook source)) ≡ s.words = set-get_or s.words _ 0 in
          let filled : word_at n s.words (slot_of t source) ≢ 0 = λ z. absurd (grind (arith, nat_tests)) in
          stepped w s seat t ended (Receiving (SlotLook source)) at (work_of (after (Receiving (SlotLook source))))
          (subst (λ ws. WordsKeep n w s ws) (sym same) (words_same n w s at.joint))
          (tracks_stay w s seat t ended (Receiving (SlotLook source)) at _ _ (ap (phase_of n) same)
          (λ p is within. ap (λ ws. word_at n ws p) same) (sym (ap work_of goes)))
          (subst (λ ws. PhaseOrder n ws (set s.facets.phases seat
          (traces_with w s seat t ended (tracer_laden (after (Receiving (SlotLook source))))))) (sym same)
          (subst (λ b. PhaseOrder n s.words (set s.facets.phases seat (traces_with w s seat t ended b))) (sym laden)
          (order_found w s seat t ended (Receiving (SlotLook source)) at (slot_of t source) (is_use t source)
          (slot_within w s seat t ended (Receiving (SlotLook source)) at source at.stands.stage.0) filled)))

  pub busy_raise : (source : Source) (x : Name) → Here (Receiving (BusyRaise source x))
      → Gone (Receiving (BusyRaise source x))
  busy_raise source x at =
      flagged (Receiving (BusyRaise source x)) at _ refl (record { work = refl; laden = inl (or_true (holds t)) })

  -- ---- marking
  pub measuring : (x : Name) (e : EntryWord) → Here (Marking (Measuring x e)) → Gone (Marking (Measuring x e))
  measuring x e at =
      looked (Marking (Measuring x e)) at (set-get_or s.words _ 0) (record { work = refl; laden = inl refl })

  -- ---- resting
  pub busy_lower : Here (Resting BusyLower) → Gone (Resting BusyLower)
  busy_lower at =
      let v : TracerView = record t { busy_up = false; stage = Resting BusyLower } in
      flagged (Resting BusyLower) at _ refl (record {
        work = sym (windows_work v 0);
        laden = inr (ap is_laden (windows_facet v 0));
      })

  abbrev seen : ℕ → Bool → TracerView
  seen r b = if b then set_window (at_stage t (Resting (TailLook r))) r (tail_up n.ring (window_of t r))
      else at_stage t (Resting (TailLook r))

  pub tail_look : (r : ℕ) → Here (Resting (TailLook r)) → Gone (Resting (TailLook r))
  tail_look r at =
      looked (Resting (TailLook r)) at (set-get_or s.words _ 0) (record {
        work = work (found == 0);
        laden = inr (laden (found == 0));
      })
    where
      found : ℕ
      found = finds (next w s seat t ended (Resting (TailLook r))) s.words

      work : (b : Bool) → work_of (at_stage t (Resting (TailLook r))) ≡ work_of (windows_from (seen r b) (r + 1))
      work true = sym (windows_work (seen r true) (r + 1))
      work false = sym (windows_work (seen r false) (r + 1))

      laden : (b : Bool)
          → tracer_laden (windows_from (seen r b) (r + 1)) ≡ tracer_laden (at_stage t (Resting (TailLook r)))
      laden true = ap is_laden (windows_facet (seen r true) (r + 1))
      laden false = ap is_laden (windows_facet (seen r false) (r + 1))

  pub ghost_lower : Here (Resting GhostLower) → Gone (Resting GhostLower)
  ghost_lower at = flagged (Resting GhostLower) at _ refl (record { work = refl; laden = inr refl })
