-- Each stage of a tracing machine makes a step of the polling invariant, and what is kept of the machine goes on.
use Rattle.std.proofs.Common.{◌≡◌, ◌≢◌, ℕ, ◌+◌, ◌%◌, ◌<◌, ◌==◌, ◌⊎◌, inl, inr, nat_lt, if◌then◌else◌, Bool, true, false}
use Rattle.std.proofs.Common.{Option, Some, None, is_some, List, ◌∷◌, [], ◌++◌, length, slice_index, slice_index_or}
use Rattle.std.proofs.Common.{slice_set, replicate, ap, sym, subst, refl, ◌∙◌, arith, length-set}
use Rattle.std.proofs.lemmas.Bool.Decides.{nat_tests}
use Rattle.std.proofs.lemmas.List.{get_or-set_same, get_or-set_other}
use Rattle.mako_words.specs.Entries.{entry_word}
use Rattle.mako_words.specs.Lives.{live_word}
use Rattle.mako_words.specs.Words.{all_but}
use Rattle.mako_words.specs.Names.{name_word, name_at, IsPackedName}
use Rattle.mako_words.specs.Values.{value_at}
use Rattle.mako_words.specs.declared.entry_word.EntryWord.{EntryWord}
use Rattle.mako_words.specs.declared.name.Name.{Name}
use Rattle.mako_words.specs.declared.value.Value.{Value}
use Rattle.mako_words.specs.declared.value.Value.TheVariants.{Null, Num, Ref}
use Rattle.mako_shape.specs.declared.numbers.Numbers.{Numbers}
use Rattle.mako_shape.specs.Belongings.{tablet_of_entry}
use Rattle.mako_shape.specs.Places.{Place, flags, ghost, entry, live, Within, total, word_at}
use Rattle.mako_shape.proofs.BelongingLaws.{belongings_in_range}
use Rattle.mako_step.specs.Acts.{words_stepped, finds}
use Rattle.mako_step.specs.Machines.{IsAct}
use Rattle.mako_step.specs.declared.act.Op.TheVariants.{Store, Or, And}
use Rattle.mako_ring.specs.Contents.{after_place}
use Rattle.mako_ring.specs.Facets.{ServerFacet, incoming, IsSource}
use Rattle.mako_ring.specs.TracerFacets.{serving_of}
use Rattle.mako_ring.specs.TracerFacts.{holds, OutgoingStands, TracerKeeps, TracerStands}
use Rattle.mako_ring.specs.Tracing.{TracerView, owner, no_window, window_of, set_window, slot_of, head_slot, own_tablet}
use Rattle.mako_ring.specs.Tracing.{live_of, at_stage, next_work, windows_from, rest, past_rings, after_source}
use Rattle.mako_ring.specs.Tracing.{rings_from, advanced, scan_of, behind_field, field_found, stage_next, stage_fed}
use Rattle.mako_ring.specs.Tracing.{IsNamed, IsOwnName, FieldFits, StageFits, begun}
use Rattle.mako_ring.proofs.Found.{owner_in_range}
use Rattle.mako_ring.proofs.Turns.{place_below}
use Rattle.mako_ring.specs.Windows.{tail_up, head_up, found_room}
use Rattle.mako_ring.specs.declared.window.Window.{Window}
use Rattle.mako_ring.specs.declared.tracing.Scan.{Scan}
use Rattle.mako_ring.specs.declared.tracing.Source.{Source}
use Rattle.mako_ring.specs.declared.tracing.Source.TheVariants.{Collector, Server}
use Rattle.mako_ring.specs.declared.tracing.SendStage.{SendStage}
use Rattle.mako_ring.specs.declared.tracing.SendStage.TheVariants.{HeadLook, GhostRaise, HeadStore}
use Rattle.mako_ring.specs.declared.tracing.ScanStage.{ScanStage}
use Rattle.mako_ring.specs.declared.tracing.ScanStage.TheVariants.{FieldLoad, EntryLoad, HeaderLoad}
use Rattle.mako_ring.specs.declared.tracing.ReceiveStage.{ReceiveStage}
use Rattle.mako_ring.specs.declared.tracing.ReceiveStage.TheVariants.{SlotLook, BusyRaise, SlotClear}
use Rattle.mako_ring.specs.declared.tracing.MarkStage.{MarkStage}
use Rattle.mako_ring.specs.declared.tracing.MarkStage.TheVariants.{Considering, Measuring, Marking as EntryMark}
use Rattle.mako_ring.specs.declared.tracing.MarkStage.TheVariants.{Counting}
use Rattle.mako_ring.specs.declared.tracing.RestStage.{RestStage}
use Rattle.mako_ring.specs.declared.tracing.RestStage.TheVariants.{BusyLower, TailLook, GhostLower}
use Rattle.mako_ring.specs.declared.tracing.TraceStage.{TraceStage}
use Rattle.mako_ring.specs.declared.tracing.TraceStage.TheVariants.{Sending, Scanning, Receiving, Marking, Resting}
use Rattle.mako_ring.specs.declared.tracing.TraceStage.TheVariants.{Ended}
use Rattle.mako_poll.specs.Steps.{Untouched, Wrote, SameRings, SetsWindow, ServerStep, Works, FindsRoom, RaisesGhost}
use Rattle.mako_poll.specs.Steps.{Stores, FindsName, RaisesBusy, Clears, LowersBusy, SeesEmptied, LowersGhost}
use Rattle.mako_poll.proofs.Acting.{untouched_load, untouched_at, wrote_at}
use Rattle.mako_poll.proofs.Flagging.{false_true}
use Rattle.mako_poll.proofs.Parts.{outgoing_holds, scan_holds, rested, next_work_facet, windows_facet, rest_facet, Kept}
use Rattle.mako_poll.proofs.Parts.{next_work_stands, windows_stand, rest_stands, none_open}

-- a name's word is not 0
name_is_filled : (x : Name) → name_word x ≢ 0
name_is_filled x e = absurd (omega arith)

-- the ring behind a ring leads from another server
behind : (t : TracerView) (source : Source) → after_source t source ≢ t.server
behind t Collector e = grind (arith, nat_tests)
behind t (Server a) e = grind (arith, nat_tests)

keeps : (n : Numbers) (f g : ServerFacet) → g.work_at ≡ f.work_at → g.ghost_at ≡ f.ghost_at → g.window ≡ f.window
    → SameRings n f g
keeps n f g a b c = record { work_at = a; ghost_at = λ s ls. (λ z. b z s); window = λ r lr. (λ z. c z r) }

-- with these fields of a machine, and the words before and after its act
module _ (i : ℕ) (t : TracerView) (words after : List ℕ) where
  abbrev n : Numbers
  n = t.shape

  abbrev word : Place → ℕ
  word = word_at n words

  abbrev word' : Place → ℕ
  word' = word_at n after

  abbrev Still : Type 0
  Still = Untouched n word word'

  -- a step from a stage to a machine
  abbrev pub Goes : TraceStage → TracerView → Type 0
  Goes x u = ServerStep n word word' t.server (serving_of (at_stage t x)) (serving_of u) × TracerStands n i u

  abbrev At : TraceStage → Type 0
  At x = TracerStands n i (at_stage t x)

  -- a step to where a part begins, with the rings as they were
  rests : (x : TraceStage) (u v : TracerView) → Still → serving_of u ≡ rested v
      → SameRings n (serving_of (at_stage t x)) (rested v)
      → ((serving_of (at_stage t x)).working ≡ false → holds v ≡ false)
      → ServerStep n word word' t.server (serving_of (at_stage t x)) (serving_of u)
  rests x u v still e same none =
      Works still (subst (SameRings n (serving_of (at_stage t x))) (sym e) same) (ap (λ (f : ServerFacet). f.doing) e)
      (λ z. ap (λ (f : ServerFacet). f.working) e ∙ none z)

  -- a step that stays within the machine's own work
  works : (x y : TraceStage) → Still → At y → (serving_of (at_stage t y)).doing ≡ (serving_of (at_stage t Ended)).doing
      → ((serving_of (at_stage t x)).working ≡ false → (serving_of (at_stage t y)).working ≡ false)
      → Goes x (at_stage t y)
  works x y still stands resting none = (
    Works still (keeps n (serving_of (at_stage t x)) (serving_of (at_stage t y)) refl refl refl) resting none,
    stands,
  )

  -- a window set
  sets : (g : ServerFacet) (r : ℕ) (w : Window) (x : TraceStage) → r < length t.windows → g.work_at ≡ t.work_at
      → g.ghost_at ≡ (λ a. slice_index t.ghost_at a)
      → g.window ≡ (λ q. slice_index_or (slice_set t.windows r w) q no_window)
      → SetsWindow n (serving_of (at_stage t x)) g r w
  sets g r w x lr a b c = record {
    work_at = a;
    ghost_at = λ s ls. (λ z. b z s);
    here = (λ z. c z r) ∙ get_or-set_same t.windows r w no_window lr;
    else = λ q lq o. (λ z. c z q) ∙ get_or-set_other t.windows r q w no_window (λ s. o s);
  }

  kept_window : Kept n i t → (o : Option Name) → OutgoingStands n t.server o → (r : ℕ) (w : Window) → r ≢ t.server
      → TracerKeeps n i t.server (slice_set t.windows r w) t.ghost_at o
  kept_window kept o stands r w d = record {
    number = kept.number;
    in_range = kept.in_range;
    windows_are = length-set t.windows r w ∙ kept.windows_are;
    ghost_at_are = kept.ghost_at_are;
    outgoing_stands = stands;
    own = (let e = get_or-set_other t.windows r t.server w no_window (λ s. d (sym s)) in ap (λ (v : Window). v.tail) e
        ∙ kept.own ∙ ap (λ (v : Window). v.head) (sym e));
  }

  kept_outgoing : Kept n i t → (o : Option Name) → OutgoingStands n t.server o
      → TracerKeeps n i t.server t.windows t.ghost_at o
  kept_outgoing kept o stands = record {
    number = kept.number;
    in_range = kept.in_range;
    windows_are = kept.windows_are;
    ghost_at_are = kept.ghost_at_are;
    outgoing_stands = stands;
    own = kept.own;
  }

  -- the outgoing name is one of another server
  other : Kept n i t → (x : Name) → t.outgoing ≡ Some x → OutgoingStands n t.server (Some x)
  other kept x e = subst (OutgoingStands n t.server) e kept.outgoing_stands

  inside : Kept n i t → (r : ℕ) → r < n.servers → r < length t.windows
  inside kept r lt = (let l = kept.windows_are in omega arith)

  -- ---- sending
  head_look : (x : Name) (w : ℕ) → word (head_slot t x) ≡ w → (b : Bool) → (w == 0) ≡ b → At (Sending (HeadLook x))
      → Still
      → Goes (Sending (HeadLook x))
      (if b then at_stage (set_window t (owner n x) (found_room n.ring (window_of t (owner n x))))
      (Sending (GhostRaise x)) else at_stage t (Receiving (SlotLook Collector)))
  head_look x w is true e stands still =
      let r : ℕ = owner n x in
      let o = other stands.keeps x stands.stage in
      let zero_is : w ≡ 0 = grind (arith, nat_tests) in
      let v : TracerView = at_stage (set_window t r (found_room n.ring (window_of t r))) (Sending (GhostRaise x)) in (
        FindsRoom r still o.0 o.1 (outgoing_holds t x stands.stage) (is
            ∙ zero_is) (sets (serving_of v) r (found_room n.ring (window_of t r)) (Sending (HeadLook x))
            (inside stands.keeps r o.0) refl refl refl) refl (outgoing_holds t x stands.stage),
        record {
          shape_is = refl;
          keeps = kept_window stands.keeps t.outgoing stands.keeps.outgoing_stands r
              (found_room n.ring (window_of t r)) o.1;
          stage = stands.stage;
        },
      )
  head_look x w is false e stands still = works (Sending (HeadLook x)) (Receiving (SlotLook Collector)) still
      (record {
        shape_is = refl;
        keeps = stands.keeps;
        stage = (
          tt,
          λ none. absurd
              (false_true (is_some t.outgoing) none (ap (λ (o : Option Name). is_some o) stands.stage)),
        );
      }) refl (λ z. z)

  head_store : (x : Name) → At (Sending (HeadStore x)) → Wrote n word word' (head_slot t x) (name_word x)
      → Goes (Sending (HeadStore x))
      (next_work (record (set_window t (owner n x) (head_up (window_of t (owner n x)))) {
        outgoing = None;
        stage = Sending (HeadStore x);
      }))
  head_store x stands wrote =
      let r : ℕ = owner n x in
      let o = other stands.keeps x stands.stage in
      let v : TracerView = record (set_window t r (head_up (window_of t r))) {
        outgoing = None;
        stage = Sending (HeadStore x);
      } in
      let e : serving_of (next_work v) ≡ rested v = next_work_facet v in (
        Stores r (name_word x) wrote (name_is_filled x) refl
            (subst (λ (g : ServerFacet). SetsWindow n (serving_of (at_stage t (Sending (HeadStore x)))) g r
            (head_up (window_of t r))) (sym e)
            (sets (rested v) r (head_up (window_of t r)) (Sending (HeadStore x))
            (inside stands.keeps r o.0) refl refl refl))
            (ap (λ (f : ServerFacet). f.doing) e)
            (λ z. absurd (false_true (holds t) z (outgoing_holds t x stands.stage))),
        next_work_stands n i v refl (kept_window stands.keeps None tt r (head_up (window_of t r)) o.1),
      )

  -- ---- scanning
  own_found : (s : Scan) (x : Name) (b : Bool) → (owner n x == t.server) ≡ b → IsNamed n x → At (Scanning (FieldLoad s))
      → Still
      → Goes (Scanning (FieldLoad s))
      (if b then at_stage (record t { scan = behind_field s; stage = Scanning (FieldLoad s) })
      (Marking (Considering x)) else next_work (record t {
        scan = behind_field s;
        outgoing = Some x;
        stage = Scanning (FieldLoad s);
      }))
  own_found s x true e named stands still = (
    Works still (keeps n _ _ refl refl refl) refl (λ z. absurd (false_true (holds t) z (scan_holds t s stands.stage))),
    record { shape_is = refl; keeps = stands.keeps; stage = named },
  )
  own_found s x false e named stands still =
      let v : TracerView = record t { scan = behind_field s; outgoing = Some x; stage = Scanning (FieldLoad s) } in (
        rests (Scanning (FieldLoad s)) (next_work v) v still (next_work_facet v) (keeps n _ _ refl refl refl)
            (λ z. absurd (false_true (holds t) z (scan_holds t s stands.stage))),
        next_work_stands n i v refl
            (kept_outgoing stands.keeps (Some x) (owner_in_range n x named, λ same. grind (arith, nat_tests))),
      )

  found_field : (s : Scan) (x : Value) → FieldFits n x → At (Scanning (FieldLoad s)) → Still
      → Goes (Scanning (FieldLoad s))
      (field_found (record t { scan = behind_field s; stage = Scanning (FieldLoad s) }) x)
  found_field s (Ref x) fits stands still = own_found s x (owner n x == t.server) refl fits stands still
  found_field s (Num x) fits stands still = passes s stands still
    where
      passes : (s : Scan) → At (Scanning (FieldLoad s)) → Still
          → Goes (Scanning (FieldLoad s))
          (next_work (record t { scan = behind_field s; stage = Scanning (FieldLoad s) }))
      passes s stands still =
          let v : TracerView = record t { scan = behind_field s; stage = Scanning (FieldLoad s) } in (
            rests (Scanning (FieldLoad s)) (next_work v) v still (next_work_facet v) (keeps n _ _ refl refl refl)
                (λ z. absurd (false_true (holds t) z (scan_holds t s stands.stage))),
            next_work_stands n i v refl stands.keeps,
          )
  found_field s Null fits stands still =
      let v : TracerView = record t { scan = behind_field s; stage = Scanning (FieldLoad s) } in (
        rests (Scanning (FieldLoad s)) (next_work v) v still (next_work_facet v) (keeps n _ _ refl refl refl)
            (λ z. absurd (false_true (holds t) z (scan_holds t s stands.stage))),
        next_work_stands n i v refl stands.keeps,
      )

  -- ---- receiving
  past : (source : Source) (o : Option Name) → t.outgoing ≡ o → At (Receiving (SlotLook source)) → Still
      → Goes (Receiving (SlotLook source)) (past_rings (at_stage t (Receiving (SlotLook source))) o)
  past source (Some x) e stands still =
      works (Receiving (SlotLook source)) (Sending (HeadLook x)) still (record {
        shape_is = refl;
        keeps = stands.keeps;
        stage = e;
      }) refl (λ z. z)
  past source None e stands still =
      let v : TracerView = at_stage t (Receiving (SlotLook source)) in (
        rests (Receiving (SlotLook source)) (rest v) v still (rest_facet v) (keeps n _ _ refl refl refl) (λ z. z),
        rest_stands n i v refl stands.keeps (stands.stage.1 (ap (λ (o : Option Name). is_some o) e)),
      )

  next_ring : (source : Source) (b : Bool) → nat_lt (after_source t source) n.servers ≡ b
      → At (Receiving (SlotLook source)) → Still
      → Goes (Receiving (SlotLook source))
      (if b then at_stage t (Receiving (SlotLook (Server (after_source t source)))) else past_rings
      (at_stage t (Receiving (SlotLook source))) t.outgoing)
  next_ring source true e stands still =
      works (Receiving (SlotLook source)) (Receiving (SlotLook (Server (after_source t source)))) still
      (record {
        shape_is = refl;
        keeps = stands.keeps;
        stage = ((below (after_source t source) e, behind t source), stands.stage.1);
      }) refl (λ z. z)
    where
      below : (a : ℕ) → nat_lt a n.servers ≡ true → a < n.servers
      below a e = grind (arith, nat_tests)
  next_ring source false e stands still = past source t.outgoing refl stands still

  incoming_is : (x : TraceStage) (source : Source)
      → incoming t.server (serving_of (at_stage t x)) source ≡ slot_of t source
  incoming_is x Collector = refl
  incoming_is x (Server a) = refl

  slot_look : (source : Source) (w : ℕ) → word (slot_of t source) ≡ w → (b : Bool) → (w == 0) ≡ b → (w ≡ 0)
      ⊎ (IsPackedName w × IsOwnName t (name_at w)) → At (Receiving (SlotLook source)) → Still
      → Goes (Receiving (SlotLook source))
      (if b then rings_from (at_stage t (Receiving (SlotLook source))) (after_source t source) else at_stage t
      (Receiving (BusyRaise source (name_at w))))
  slot_look source w is true e fits stands still =
      next_ring source (nat_lt (after_source t source) n.servers) refl stands still
  slot_look source w is false e (inl z) stands still = absurd (grind (arith, nat_tests))
  slot_look source w is false e (inr fits) stands still = (
    FindsName source (name_word (name_at w)) still stands.stage.0
        (ap word (incoming_is (Receiving (SlotLook source)) source) ∙ is
        ∙ sym fits.0.same) (name_is_filled (name_at w)) refl,
    record { shape_is = refl; keeps = stands.keeps; stage = (stands.stage.0, fits.1.0) },
  )

  slot_clear : (source : Source) (x : Name) → At (Receiving (SlotClear source x))
      → Wrote n word word' (slot_of t source) 0
      → Goes (Receiving (SlotClear source x))
      (at_stage (advanced (at_stage t (Receiving (SlotClear source x))) source) (Marking (Considering x)))
  slot_clear Collector x stands wrote = (
    Clears Collector (name_word x) wrote refl (record { window = λ r lr. refl; rises = (refl, λ a la. refl) }) refl,
    record { shape_is = refl; keeps = stands.keeps; stage = stands.stage.1 },
  )
  slot_clear (Server a) x stands wrote =
      let inside : a < length t.ghost_at = (let l = stands.keeps.ghost_at_are in let lt = stands.stage.0.0 in
      omega arith) in
      let p : ℕ = after_place n.ring (slice_index t.ghost_at a) in (
        Clears (Server a) (name_word x) wrote refl (record {
          window = λ r lr. refl;
          rises = (
            refl,
            get_or-set_same t.ghost_at a p 0 inside,
            λ b lb o. get_or-set_other t.ghost_at a b p 0
                (λ s. o s),
          );
        }) refl,
        record {
          shape_is = refl;
          keeps = record {
            number = stands.keeps.number;
            in_range = stands.keeps.in_range;
            windows_are = stands.keeps.windows_are;
            ghost_at_are = length-set t.ghost_at a p
                ∙ stands.keeps.ghost_at_are;
            outgoing_stands = stands.keeps.outgoing_stands;
            own = stands.keeps.own;
          };
          stage = stands.stage.1;
        },
      )

  -- ---- marking
  considers : (x : Name) (e : EntryWord) (b : Bool) → At (Marking (Considering x)) → Still
      → Goes (Marking (Considering x))
      (if b then next_work (at_stage t (Marking (Considering x))) else at_stage t (Marking (Measuring x e)))
  considers x e true stands still =
      let v : TracerView = at_stage t (Marking (Considering x)) in (
        rests (Marking (Considering x)) (next_work v) v still (next_work_facet v) (keeps n _ _ refl refl refl)
            (λ z. absurd (false_true true z refl)),
        next_work_stands n i v refl stands.keeps,
      )
  considers x e false stands still =
      works (Marking (Considering x)) (Marking (Measuring x e)) still (record {
        shape_is = refl;
        keeps = stands.keeps;
        stage = stands.stage;
      }) refl (λ z. z)

  -- ---- resting
  tail_look : (r w : ℕ) → word (ghost t.server r ((window_of t r).tail % n.ring)) ≡ w → (b : Bool) → (w == 0) ≡ b
      → At (Resting (TailLook r)) → Still
      → Goes (Resting (TailLook r))
      (windows_from (if b then set_window (at_stage t (Resting (TailLook r))) r
      (tail_up n.ring (window_of t r)) else at_stage t (Resting (TailLook r))) (r + 1))
  tail_look r w is true e stands still =
      let zero_is : w ≡ 0 = grind (arith, nat_tests) in
      let x = stands.stage in
      let v : TracerView = set_window (at_stage t (Resting (TailLook r))) r (tail_up n.ring (window_of t r)) in
      let f : serving_of (windows_from v (r + 1)) ≡ rested v = windows_facet v (r + 1) in (
        SeesEmptied r still x.1 x.2 x.3 (is ∙ zero_is)
            (subst (λ (g : ServerFacet). SetsWindow n (serving_of (at_stage t (Resting (TailLook r)))) g r
            (tail_up n.ring (window_of t r))) (sym f)
            (sets (rested v) r (tail_up n.ring (window_of t r)) (Resting (TailLook r))
            (inside stands.keeps r x.1) refl refl refl))
            (ap (λ (g : ServerFacet). g.doing) f) (λ z. ap (λ (g : ServerFacet). g.working) f ∙ z),
        windows_stand n i v (r + 1) refl
            (kept_window stands.keeps t.outgoing stands.keeps.outgoing_stands r
            (tail_up n.ring (window_of t r)) x.2) x.0,
      )
  tail_look r w is false e stands still =
      let v : TracerView = at_stage t (Resting (TailLook r)) in (
        rests (Resting (TailLook r)) (windows_from v (r + 1)) v still (windows_facet v (r + 1))
            (keeps n _ _ refl refl refl) (λ z. z),
        windows_stand n i v (r + 1) refl stands.keeps stands.stage.0,
      )

  -- ---- each stage, where its positions and heads are places of the rings
  module _ (size : length words ≡ total n) (some : 0 < n.ring) (within : (source : Source) → IsSource n t.server source
      → Within n (slot_of t source)) where
    head_within : (x : Name) → t.outgoing ≡ Some x → Kept n i t → Within n (head_slot t x)
    head_within x e kept = (kept.in_range, (other kept x e).0, place_below n.ring ((window_of t (owner n x)).head) some)

    send_goes : (x : SendStage) → At (Sending x)
        → after ≡ words_stepped (stage_next (at_stage t (Sending x)) (Sending x)) words
        → Goes (Sending x) (stage_fed (at_stage t (Sending x)) (Sending x)
        (finds (stage_next (at_stage t (Sending x)) (Sending x)) words))
    send_goes (HeadLook x) stands d = head_look x _ refl _ refl stands (untouched_load n words after _ d)
    send_goes (GhostRaise x) stands d = (
      RaisesGhost (owner n x)
          (wrote_at n words after size (flags t.server) (Or 6) stands.keeps.in_range d) refl refl,
      record {
        shape_is =
            refl;
        keeps = stands.keeps;
        stage = stands.stage;
      },
    )
    send_goes (HeadStore x) stands d =
        head_store x stands (wrote_at n words after size (head_slot t x) (Store (name_word x))
        (head_within x stands.stage stands.keeps) d)

    scan_goes : (x : ScanStage) → At (Scanning x)
        → StageFits (at_stage t (Scanning x)) (Scanning x)
        (finds (stage_next (at_stage t (Scanning x)) (Scanning x)) words)
        → after ≡ words_stepped (stage_next (at_stage t (Scanning x)) (Scanning x)) words
        → Goes (Scanning x) (stage_fed (at_stage t (Scanning x)) (Scanning x)
        (finds (stage_next (at_stage t (Scanning x)) (Scanning x)) words))
    scan_goes (FieldLoad s) stands fits d =
        found_field s (value_at
        (finds (stage_next (at_stage t (Scanning (FieldLoad s))) (Scanning (FieldLoad s))) words)) fits.1 stands
        (untouched_load n words after _ d)
    scan_goes (EntryLoad x) stands fits d =
        works (Scanning (EntryLoad x)) (Scanning (HeaderLoad x _)) (untouched_load n words after _ d)
        (record { shape_is = refl; keeps = stands.keeps; stage = tt }) refl (λ z. z)
    scan_goes (HeaderLoad x address) stands fits d =
        let v : TracerView =
        record t {
          scan = scan_of address
              (finds (stage_next (at_stage t (Scanning (HeaderLoad x address)))
              (Scanning (HeaderLoad x address))) words);
          stage = Scanning (HeaderLoad x address);
        } in (
          rests (Scanning (HeaderLoad x address)) (next_work v) v (untouched_load n words after _ d) (next_work_facet v)
              (keeps n _ _ refl refl refl) (λ z. absurd (false_true true z refl)),
          next_work_stands n i v refl stands.keeps,
        )

    receive_goes : (x : ReceiveStage) → At (Receiving x)
        → StageFits (at_stage t (Receiving x)) (Receiving x)
        (finds (stage_next (at_stage t (Receiving x)) (Receiving x)) words)
        → after ≡ words_stepped (stage_next (at_stage t (Receiving x)) (Receiving x)) words
        → Goes (Receiving x)
        (stage_fed (at_stage t (Receiving x)) (Receiving x)
        (finds (stage_next (at_stage t (Receiving x)) (Receiving x)) words))
    receive_goes (SlotLook source) stands fits d =
        slot_look source _ refl _ refl fits stands (untouched_load n words after _ d)
    receive_goes (BusyRaise source x) stands fits d = (
      RaisesBusy source (name_word x)
          (wrote_at n words after size (flags t.server) (Or 5) stands.keeps.in_range d) refl refl,
      record {
        shape_is =
            refl;
        keeps = stands.keeps;
        stage = stands.stage;
      },
    )
    receive_goes (SlotClear source x) stands fits d =
        slot_clear source x stands
        (wrote_at n words after size (slot_of t source) (Store 0) (within source stands.stage.0) d)

    mark_goes : (x : MarkStage) → At (Marking x)
        → after ≡ words_stepped (stage_next (at_stage t (Marking x)) (Marking x)) words
        → Goes (Marking x) (stage_fed (at_stage t (Marking x)) (Marking x)
        (finds (stage_next (at_stage t (Marking x)) (Marking x)) words))
    mark_goes (Considering x) stands d = considers x _ _ stands (untouched_load n words after _ d)
    mark_goes (Measuring x e) stands d =
        works (Marking (Measuring x e)) (Marking (EntryMark x e _)) (untouched_load n words after _ d)
        (record { shape_is = refl; keeps = stands.keeps; stage = stands.stage }) refl (λ z. z)
    mark_goes (EntryMark x e fields) stands d =
        works (Marking (EntryMark x e fields)) (Marking (Counting x fields))
        (untouched_at n words after size (entry x.entry)
        (Store (entry_word (record e { epoch = t.cycle }))) stands.stage (λ z. z) d) (record {
          shape_is = refl;
          keeps = stands.keeps;
          stage = stands.stage;
        }) refl (λ z. z)
    mark_goes (Counting x fields) stands d =
        let v : TracerView = record t {
          lives = slice_set t.lives (own_tablet n x.entry) (live_of t x + (fields + 1));
          stack = t.stack ++ x.entry ∷ [];
          stage = Marking (Counting x fields);
        } in (
          rests (Marking (Counting x fields)) (next_work v) v
              (untouched_at n words after size (live (tablet_of_entry n x.entry))
              (Store (live_word (record { cycle = t.cycle; words = live_of t x + (fields + 1) })))
              (belongings_in_range.entry n x.entry stands.stage) (λ z. z) d)
              (next_work_facet v) (keeps n _ _ refl refl refl) (λ z. absurd (false_true true z refl)),
          next_work_stands n i v refl stands.keeps,
        )

    rest_goes : (x : RestStage) → At (Resting x)
        → after ≡ words_stepped (stage_next (at_stage t (Resting x)) (Resting x)) words
        → Goes (Resting x) (stage_fed (at_stage t (Resting x)) (Resting x)
        (finds (stage_next (at_stage t (Resting x)) (Resting x)) words))
    rest_goes BusyLower stands d =
        let v : TracerView = record t { busy_up = false; stage = Resting BusyLower } in (
          LowersBusy (wrote_at n words after size (flags t.server) (And (all_but 1)) stands.keeps.in_range d)
              stands.stage refl (windows_facet v 0 ∙ lowered v refl),
          windows_stand n i v 0 refl stands.keeps stands.stage,
        )
      where
        lowered : (v : TracerView) → v ≡ record t { busy_up = false; stage = Resting BusyLower }
            → rested (record t { busy_up = false; stage = Resting BusyLower }) ≡ serving_of
            (at_stage t (Resting BusyLower))
        lowered v e = refl
    rest_goes (TailLook r) stands d = tail_look r _ refl _ refl stands (untouched_load n words after _ d)
    rest_goes GhostLower stands d = (
      LowersGhost (wrote_at n words after size (flags t.server) (And (all_but 2)) stands.keeps.in_range d)
          (λ r lr o. none_open t.windows stands.stage.1 r (inside stands.keeps r lr)) refl refl,
      record { shape_is = refl; keeps = stands.keeps; stage = tt },
    )

    pub stage_goes : (x : TraceStage) → At x → IsAct (stage_next (at_stage t x) x)
        → StageFits (at_stage t x) x (finds (stage_next (at_stage t x) x) words)
        → after ≡ words_stepped (stage_next (at_stage t x) x) words
        → Goes x (stage_fed (at_stage t x) x (finds (stage_next (at_stage t x) x) words))
    stage_goes (Sending x) stands act fits d = send_goes x stands d
    stage_goes (Scanning x) stands act fits d = scan_goes x stands fits d
    stage_goes (Receiving x) stands act fits d = receive_goes x stands fits d
    stage_goes (Marking x) stands act fits d = mark_goes x stands d
    stage_goes (Resting x) stands act fits d = rest_goes x stands d
    stage_goes Ended stands act fits d = elim act [ ]

  -- ---- and the beginning of a turn
  pub begins : (cycle : ℕ) → At Ended → Still → Goes Ended (begun (at_stage t Ended) cycle)
  begins cycle stands still =
      let v : TracerView =
      record t {
        cycle = cycle;
        lives = if cycle == t.cycle then t.lives else replicate n.tablets 0;
        stage = Ended;
      } in (
        rests Ended (next_work v) v still (next_work_facet v) (keeps n _ _ refl refl refl) (λ z. z),
        next_work_stands n i v refl stands.keeps,
      )
