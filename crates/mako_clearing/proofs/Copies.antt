-- A server copies a record home.
use Rattle.std.proofs.Common.{◌≡◌, ◌≢◌, ℕ, ◌+◌, ◌<◌, ◌≤◌, Bool, List, length, set, slice_index, Some, sym, ap, subst}
use Rattle.std.proofs.Common.{refl, ◌∙◌, arith}
use Rattle.mako_words.specs.declared.name.Name.{Name}
use Rattle.mako_words.specs.declared.entry_word.EntryWord.{EntryWord}
use Rattle.mako_words.specs.Entries.{entry_at}
use Rattle.mako_shape.specs.declared.numbers.Numbers.{Numbers}
use Rattle.mako_shape.specs.Belongings.{tablet_of_entry}
use Rattle.mako_shape.specs.Places.{Place, entry, top, index, notice, region_word, total, Within, word_at}
use Rattle.mako_shape.proofs.BelongingLaws.{belongings_in_range, word_after}
use Rattle.mako_shape.proofs.PlaceLaws.{word_other, index_below}
use Rattle.mako_step.proofs.Cases.{when_lt}
use Rattle.mako_gate.specs.Standings.{GateFacet, has_drained, shutter_at, writes}
use Rattle.mako_gate.proofs.Numbers.{count_at}
use Rattle.mako_model.specs.Legal.{Facts, state_of}
use Rattle.mako_model.specs.Sizes.{ObjectsAreSmall}
use Rattle.mako_names.specs.Uses.{IsNamePlace}
use Rattle.mako_ring.specs.Facets.{IsPolled}
use Rattle.mako_record.specs.declared.copier.CopyStage.{CopyStage}
use Rattle.mako_record.specs.declared.copier.CopyStage.TheVariants.{LoadingTop, LoadingHeader, StoringHeader}
use Rattle.mako_record.specs.declared.copier.CopyStage.TheVariants.{LoadingField, StoringField, StoringEntry}
use Rattle.mako_record.specs.Copying as copying
use Rattle.mako_record.specs.Copying.{Copying as Copy, copied_to, copy_next}
use Rattle.mako_evac.specs.declared.owner.Owner.{Owner}
use Rattle.mako_evac.specs.declared.stage.EvacStage.{EvacStage}
use Rattle.mako_evac.specs.declared.stage.EvacStage.TheVariants.{Evacuating}
use Rattle.mako_evac.specs.declared.tablet.TabletStage.{TabletStage}
use Rattle.mako_evac.specs.declared.tablet.TabletStage.TheVariants.{Copying}
use Rattle.mako_evac.specs.Owners.{IsEntryOf}
use Rattle.mako_evac.specs.Tablets.{copy_fed}
use Rattle.mako_evac.proofs.Bounds.{record_within}
use Rattle.mako_layout.specs.Evacuations.{Seat, Fills, slot_of, slot_at, layout, name_of}
use Rattle.mako_layout.specs.Facets.{Work, moves, fills, carries}
use Rattle.mako_layout.specs.Layouts.{Slot, entries_of}
use Rattle.mako_layout.specs.Steps as step
use Rattle.mako_layout.proofs.Found.{tops_are_found, records_are_found}
use Rattle.mako_layout.proofs.Roles.{copy_fits}
use Rattle.mako_phases.specs.Facets.{clearing, shut}
use Rattle.mako_phases.specs.Steps as phases
use Rattle.mako_phases.specs.Steps.{IsPhaseWord}
use Rattle.mako_phases.proofs.AllPhases.{phase_kept}
use Rattle.mako_state.specs.Works.{copy_work}
use Rattle.mako_state.proofs.Words.{sets_words}
use Rattle.mako_joint.specs.Joints.{JointScene, layout_in, phases_in, Joint}
use Rattle.mako_joint.proofs.Pauses.{gates_drain}
use Rattle.mako_clearing.specs.ClearingFacets.{server_seat}
use Rattle.mako_clearing.specs.Clearing.{ClearingStands, ClearingGoesOn}
use Rattle.mako_clearing.proofs.Seated.{Laid, laid_state, laid, seated, work_moved, owner}
use Rattle.mako_clearing.proofs.Stages.{at_stage, Goes, loads, sends_none, order_stays, finish, index_in}
use Rattle.mako_clearing.proofs.Tablets.{tablet_is, OwedHere, to_stage, seat_here, still, stored_here}

module _ (n : Numbers) (w : Facts) (s : JointScene) (server cycle ended : ℕ) (laden : Bool) (taker : ℕ)
    (j : Joint n w s) (at : ℕ) (sent : List Name) (t region x : ℕ) (e : EntryWord) where
  abbrev pub o : Owner
  o = owner n w s server cycle ended laden

  abbrev pub seat : ℕ
  seat = server_seat n server

  abbrev pub copier : CopyStage → Copy
  copier cs = record { shape = n; number = x; entry = e; home = region; stage = cs }

  abbrev pub copies : CopyStage → TabletStage
  copies cs = Copying region x (copier cs)

  abbrev pub Stands : CopyStage → Type 0
  Stands cs =
      ClearingStands n w s (at_stage n w s server cycle ended laden taker (Evacuating t (copies cs)) at) ended laden
      taker
      sent

  abbrev pub Kept : CopyStage → Type 0
  Kept cs =
      ClearingGoesOn n w s (at_stage n w s server cycle ended laden taker (Evacuating t (copies cs)) at) ended laden
      taker
      sent

  abbrev pub To : List ℕ → EvacStage → Type 0
  To us stage = Goes n w s server cycle ended laden taker us stage at sent

  abbrev pub Owes : List ℕ → Work → Type 0
  Owes us k =
      OwedHere n w s server cycle ended laden taker j at sent t us (clearing cycle t shut) (has_drained t x) k

  abbrev pub gate : GateFacet
  gate = shutter_at seat (has_drained t x)

  abbrev pub slot : Slot
  slot = slot_at n (layout_in n w s) x

  -- the size of the entry's record, by the entry's word
  abbrev pub size_by : ℕ → ℕ
  size_by word = (slot_of n (state_of w s.front.history) x word).size

  -- ---- of any stage

  module _ (cs : CopyStage) (c : Stands cs) where
    pub of_tablet : IsEntryOf n t x
    of_tablet = c.known.stage.1.0.entry_is

    pub inside : x < entries_of n
    inside = record_within o t x c.known.owner c.known.stage.0 of_tablet

    pub x_tablet : tablet_of_entry n x ≡ t
    x_tablet = tablet_is n t x of_tablet.from of_tablet.below

    pub here : Seat (layout_in n w s) seat gate (copy_work x e region cs)
    here = seat_here n w s server cycle ended laden taker j at sent t (copies cs) c

    pub now : Owes s.words (copy_work x e region cs)
    now = still n w s server cycle ended laden taker j at sent t (copies cs) c

    pub sits : Seat (laid_state n w s server cycle ended laden s.words gate (copy_work x e region cs)) seat gate
        (copy_work x e region cs)
    sits =
        seated n w s server cycle ended laden j gate (copy_work x e region cs) here s.words gate
        (copy_work x e region cs)

    writer : 1 ≤ writes (tablet_of_entry n x) gate
    writer = let d = count_at t (tablet_of_entry n x) 1 (sym x_tablet) in omega arith

    -- the words stay, and the work is another
    loads_work : (v : Work)
        → step.Step n (laid_state n w s server cycle ended laden s.words gate (copy_work x e region cs)) seat
        (record (laid_state n w s server cycle ended laden s.words gate (copy_work x e region cs)) {
          works = set (set s.facets.works seat (copy_work x e region cs)) seat v;
        })
        → Owes s.words v
    loads_work v p = record {
      names = now.names;
      layout = work_moved n w s server cycle ended laden j gate (copy_work x e region cs) here s.words gate
          (copy_work x e region cs) now.layout s.words v p;
      polls = now.polls;
      order = now.order;
      evac = now.evac;
      notices = now.notices;
    }

    -- a word is stored that the order of the phases does not read
    module _ (p : Place) (v : ℕ) (within : Within n p) (no_name : IsNamePlace p → ⊥) (not_polled : IsPolled p → ⊥)
        (no_notice : (k : ℕ) → notice server k ≢ p) (no_phase : IsPhaseWord p → ⊥) where
      pub stored_with : (u : Work) → Laid n w s server cycle ended laden (set s.words (index n p) v) gate u
          → Owes (set s.words (index n p) v) u
      stored_with u l =
          stored_here n w s server cycle ended laden taker j at sent t (copies cs) c p v within no_name not_polled
          no_notice (clearing cycle t shut) (has_drained t x) u l
          (order_stays n w s server cycle ended laden taker (Evacuating t (copies cs)) at sent j c tt
          (set s.words (index n p) v)
          (phase_kept n (phases_in s) (record (phases_in s) { words = set s.words (index n p) v }) j.order
          (gates_drain n w s j) (phases.Unseen p v within no_phase refl)))

      -- the size of the entry's record stays
      size_stays : entry x ≢ p → size_by (word_at n (set s.words (index n p) v) (entry x)) ≡ size_by
          (word_at n s.words (entry x))
      size_stays other = ap size_by (word_other n s.words p (entry x) v within inside other)

  -- ---- the top is loaded

  module _ (c : Stands LoadingTop) where
    pub top_loaded : Kept LoadingTop
    top_loaded =
        let low = belongings_in_range.entry n x (inside LoadingTop c) in
        let fits = tops_are_found n (layout_in n w s) j.layout seat (tablet_of_entry n x) gate (moves x e region)
        (here LoadingTop c) low (writer LoadingTop c) (λ u. (refl, refl)) in
        finish n w s server cycle ended laden taker (Evacuating t (copies LoadingTop)) at sent j c tt tt
        (index_in n w s j (top (tablet_of_entry n x)) low, tt, fits) fits
        (sends_none n w s server cycle ended laden taker _ _ at sent
        (loads n w s server cycle ended laden taker (index n (top (tablet_of_entry n x))) _ at sent
        (to_stage n w s server cycle ended laden taker j at sent t s.words
        (copies (LoadingHeader (word_at n s.words (top (tablet_of_entry n x)))))
        (loads_work LoadingTop c (fills x e region (word_at n s.words (top (tablet_of_entry n x))) 0)
        (step.load_top seat x e region gate (sits LoadingTop c))) tt)))

  -- ---- words are loaded

  source : (sr so i : ℕ) → index n (region_word sr so) ≡ e.address → index n (region_word sr (so + i)) ≡ e.address + i
  source sr so i is = let a = word_after n sr (so + i) in let b = word_after n sr so in omega arith

  module _ (small : ObjectsAreSmall (state_of w s.front.history)) (offset : ℕ) (c : Stands (LoadingHeader offset)) where
    know : Fills n (layout n (layout_in n w s)) (λ p. word_at n s.words p) gate x e region offset 0
    know =
        j.layout.knows seat gate (fills x e region offset 0) (here (LoadingHeader offset) c).gate
        (here (LoadingHeader offset) c).work

    record Header : Type 0 where
      number : ℕ
      word_is : slice_index s.words e.address ≡ number
      few : number ≤ 14
      size : slot.size ≡ number + 1
      whole : e.address + number < total n

    header : Header
    header =
        let r = j.layout.records x (inside (LoadingHeader offset) c) know.taken in
        let f = records_are_found n (layout_in n w s) j.layout x (inside (LoadingHeader offset) c) know.taken
        r.fields r.are in
        let same : (entry_at (word_at n s.words (entry x))).address ≡ e.address = sym r.address ∙
        know.as_found.address in
        record {
          number = length r.fields;
          word_is = ap (slice_index s.words) (sym know.as_found.address) ∙ f.header;
          few = small (name_of x (word_at n s.words (entry x))) r.fields r.are;
          size = f.size;
          whole = subst (λ a. a + length r.fields < total n) same f.inside;
        }

    room : offset + slice_index s.words e.address + 1 ≤ n.words
    room =
        let fits = copy_fits n (layout n (layout_in n w s)) j.layout.copy x (inside (LoadingHeader offset) c) know.taken
        know.epoch (λ same. know.out (same ∙ sym know.kept.region)) in
        let o_is = know.kept.offset in
        let word = header.word_is in
        let size = header.size in
        omega arith

    header_layout : Owes s.words (carries x e region offset 0 (slice_index s.words e.address))
    header_layout =
        let value : word_at n s.words (region_word slot.region (slot.offset + 0)) ≡ slice_index s.words e.address =
        ap (slice_index s.words)
        (source slot.region slot.offset 0 know.as_found.address
        ∙ (let z : e.address + 0 ≡ e.address = omega arith in z)) in
        subst (λ v. Owes s.words (carries x e region offset 0 v)) value
        (loads_work (LoadingHeader offset) c
        (carries x e region offset 0 (word_at n s.words (region_word slot.region (slot.offset + 0))))
        (step.load_word seat x e region offset 0 gate (sits (LoadingHeader offset) c)
        (let z = header.size in omega arith)))

    pub header_loaded : Kept (LoadingHeader offset)
    header_loaded =
        let h = header in
        let word = h.word_is in
        let few = h.few in
        let whole = h.whole in
        let size = h.size in
        let lies = c.known.stage.1.1.known.address in
        let long = j.names.hold.size in
        let fits : (slice_index s.words e.address ≤ 14) × (e.address + slice_index s.words e.address < total n)
        × (offset + slice_index s.words e.address + 1 ≤ n.words) = (omega arith, omega arith, room) in
        finish n w s server cycle ended laden taker (Evacuating t (copies (LoadingHeader offset))) at sent j c tt tt
        ((let below = lies.1 in omega arith), tt, fits) fits
        (sends_none n w s server cycle ended laden taker _ _ at sent
        (loads n w s server cycle ended laden taker e.address _ at sent
        (to_stage n w s server cycle ended laden taker j at sent t s.words
        (copies (StoringHeader offset (slice_index s.words e.address))) header_layout (omega arith))))

  module _ (offset fields field : ℕ) (c : Stands (LoadingField offset fields field)) where
    field_know : Fills n (layout n (layout_in n w s)) (λ p. word_at n s.words p) gate x e region offset (field + 1)
    field_know =
        j.layout.knows seat gate (fills x e region offset (field + 1)) (here (LoadingField offset fields field) c).gate
        (here (LoadingField offset fields field) c).work

    field_layout : Owes s.words (carries x e region offset (field + 1) (slice_index s.words (e.address + 1 + field)))
    field_layout =
        let value : word_at n s.words (region_word slot.region (slot.offset + (field + 1)))
        ≡ slice_index s.words (e.address + 1 + field) =
        ap (slice_index s.words)
        (source slot.region slot.offset (field + 1) field_know.as_found.address
        ∙ (let z : e.address + (field + 1) ≡ e.address + 1 + field = omega arith in z)) in
        subst (λ v. Owes s.words (carries x e region offset (field + 1) v)) value
        (loads_work (LoadingField offset fields field) c
        (carries x e region offset (field + 1) (word_at n s.words
        (region_word slot.region (slot.offset + (field + 1)))))
        (step.load_word seat x e region offset (field + 1) gate (sits (LoadingField offset fields field) c)
        (let size = c.knows in let low = c.known.stage.1.1.known.stage.1 in omega arith)))

    pub field_loaded : Kept (LoadingField offset fields field)
    field_loaded =
        let fits = c.known.stage.1.1.known.stage.0.inside in
        let low = c.known.stage.1.1.known.stage.1 in
        let long = j.names.hold.size in
        finish n w s server cycle ended laden taker (Evacuating t (copies (LoadingField offset fields field))) at
        sent j c
        tt tt (omega arith, tt, tt) tt
        (sends_none n w s server cycle ended laden taker _ _ at sent
        (loads n w s server cycle ended laden taker (e.address + 1 + field) _ at sent
        (to_stage n w s server cycle ended laden taker j at sent t s.words
        (copies (StoringField offset fields field (slice_index s.words (e.address + 1 + field)))) field_layout
        c.knows)))

  -- ---- words are stored

  -- a carried word is stored behind those that are stored
  module _ (cs : CopyStage) (c : Stands cs) (offset i v : ℕ) (carries_is : copy_work x e region cs ≡ carries x e
      region offset i v)
      (below : offset + i < n.words) where
    target : Place
    target = region_word region (offset + i)

    target_in : Within n (region_word region (offset + i))
    target_in = (c.known.stage.1.1.known.home, below)

    target_other : entry x ≢ region_word region (offset + i)
    target_other e = cc

    pub word_stored : Owes (set s.words (index n (region_word region (offset + i))) v) (fills x e region offset (i + 1))
    word_stored =
        let us : List ℕ = set s.words (index n (region_word region (offset + i))) v in
        let k : Work = carries x e region offset i v in
        let h : Seat (layout_in n w s) seat gate (carries x e region offset i v) = record {
          gate = (here cs c).gate;
          work = (here cs c).work ∙ ap (λ (u : Work). Some u) carries_is;
        } in
        stored_with cs c (region_word region (offset + i)) v target_in (λ p. p) (λ p. p) (λ k p. cc) (λ p. p)
        (fills x e region offset (i + 1))
        (work_moved n w s server cycle ended laden j gate k h s.words gate k
        (laid n w s server cycle ended laden j gate k h) us (fills x e region offset (i + 1))
        (step.store_word (λ p. word_at n us p) seat x e region offset i v gate
        (seated n w s server cycle ended laden j gate k h s.words gate k)
        (sets_words n s.words j.names.hold.size (region_word region (offset + i)) v target_in)))

    pub size_kept : size_by (word_at n (set s.words (index n (region_word region (offset + i))) v) (entry x))
        ≡ size_by (word_at n s.words (entry x))
    size_kept =
        size_stays cs c (region_word region (offset + i)) v target_in (λ p. p) (λ p. p) (λ k p. cc) (λ p. p)
        target_other

    -- the next field is due, or past the last one the entry
    pub field_due : (fields : ℕ) → fields + 1 ≡ slot.size → i ≤ fields → (q : ℕ)
        → index n (region_word region (offset + i)) ≡ q
        → To (set s.words q v)
        (copy_fed o t region x (copier (copying.before_field offset fields i))
        (copy_next n x e region (copying.before_field offset fields i)))
    field_due fields is most q same =
        subst
        (λ z. To (set s.words z v)
        (copy_fed o t region x (copier (copying.before_field offset fields i))
        (copy_next n x e region (copying.before_field offset fields i)))) same
        (let us : List ℕ = set s.words (index n (region_word region (offset + i))) v in
        when_lt (λ cs'. To us (copy_fed o t region x (copier cs') (copy_next n x e region cs')))
        (LoadingField offset fields i) (StoringEntry offset fields) i fields
        (λ low. to_stage n w s server cycle ended laden taker j at sent t us (copies (LoadingField offset fields i))
        word_stored (is ∙ sym size_kept))
        (λ high. to_stage n w s server cycle ended laden taker j at sent t us (copies (StoringEntry offset fields))
        (subst (λ q. Owes us (fills x e region offset q)) (let z : i + 1 ≡ fields + 1 = omega arith in z) word_stored)
        (is ∙ sym size_kept)))

  module _ (offset fields : ℕ) (c : Stands (StoringHeader offset fields)) where
    pub header_stored : Kept (StoringHeader offset fields)
    header_stored =
        let fits = c.known.stage.1.1.known.stage in
        let enough = fits.room in
        let low : offset + 0 < n.words = omega arith in
        let same : index n (region_word region (offset + 0)) ≡ copied_to n region offset =
        word_after n region (offset + 0)
        ∙ (let z : index n (region_word region 0) + (offset + 0) ≡ index n (region_word region 0) + offset = omega
        arith in z) in
        let bound = index_below n (region_word region (offset + 0)) (c.known.stage.1.1.known.home, low) in
        let long = j.names.hold.size in
        finish n w s server cycle ended laden taker (Evacuating t (copies (StoringHeader offset fields))) at sent j c
        tt tt
        (omega arith, tt, tt) tt
        (sends_none n w s server cycle ended laden taker _ _ at sent
        (field_due (StoringHeader offset fields) c offset 0 fields refl low fields c.knows (omega arith)
        (copied_to n region offset) same))

  module _ (offset fields field word : ℕ) (c : Stands (StoringField offset fields field word)) where
    pub field_stored : Kept (StoringField offset fields field word)
    field_stored =
        let fits = c.known.stage.1.1.known.stage.0 in
        let enough = fits.room in
        let less = c.known.stage.1.1.known.stage.1 in
        let low : offset + (field + 1) < n.words = omega arith in
        let same : index n (region_word region (offset + (field + 1))) ≡ copied_to n region (offset + 1 + field) =
        word_after n region (offset + (field + 1))
        ∙ (let z : index n (region_word region 0) + (offset + (field + 1))
        ≡ index n (region_word region 0) + (offset + 1 + field) = omega arith in z) in
        let bound = index_below n (region_word region (offset + (field + 1))) (c.known.stage.1.1.known.home, low) in
        let long = j.names.hold.size in
        finish n w s server cycle ended laden taker (Evacuating t (copies (StoringField offset fields field word)))
        at sent
        j c tt tt (omega arith, tt, tt) tt
        (sends_none n w s server cycle ended laden taker _ _ at sent
        (field_due (StoringField offset fields field word) c offset (field + 1) word refl low fields c.knows
        (omega arith) (copied_to n region (offset + 1 + field)) same))
