-- The steps of an attempt that copies its object's record into the home of the tablet, under the turn.
use Rattle.std.proofs.Common.{◌≡◌, ◌≢◌, ℕ, ◌+◌, ◌*◌, ◌<◌, ◌≤◌, if◌then◌else◌, Bool, true, false, List, [], ◌++◌, set}
use Rattle.std.proofs.Common.{slice_index, Some, sym, ap, subst, refl, ◌∙◌, arith, append-nil}
use Rattle.mako_words.specs.declared.entry_word.EntryWord.{EntryWord}
use Rattle.mako_words.specs.Entries.{entry_word}
use Rattle.mako_shape.specs.Places.{Place, top, entry, region_word, area_of, index, Within, word_at}
use Rattle.mako_shape.specs.Belongings.{IsAddress, region_of_address, word_of_address, tablet_of_entry}
use Rattle.mako_shape.proofs.BelongingLaws.{address_place, region_words, word_after, belongings_in_range}
use Rattle.mako_shape.proofs.PlaceLaws.{word_same, word_other}
use Rattle.mako_gate.specs.Changes.{Sets}
use Rattle.mako_gate.specs.Standings.{GateFacet, mutator_at}
use Rattle.mako_phases.specs.Facets.{mutating}
use Rattle.mako_record.specs.Copying as copying
use Rattle.mako_record.specs.Copying.{copied_to, before_field}
use Rattle.mako_record.specs.declared.copier.CopyStage.{CopyStage}
use Rattle.mako_record.specs.declared.copier.CopyStage.TheVariants.{LoadingTop as CopyTop, LoadingHeader as CopyHeader}
use Rattle.mako_record.specs.declared.copier.CopyStage.TheVariants.{StoringHeader, LoadingField as CopyField}
use Rattle.mako_record.specs.declared.copier.CopyStage.TheVariants.{StoringField as CopyStore, StoringEntry, RaisingTop}
use Rattle.mako_step.specs.Acts.{words_after}
use Rattle.mako_step.specs.declared.act.Op.TheVariants.{Store}
use Rattle.mako_step.proofs.Cases.{by_lt}
use Rattle.mako_model.specs.Heaps.{fields_of}
use Rattle.mako_call.specs.declared.object.Errand.{Errand}
use Rattle.mako_call.specs.declared.call_stage.CallStage.{CallStage}
use Rattle.mako_call.specs.declared.call_stage.CallStage.TheVariants.{Moving}
use Rattle.mako_call.specs.declared.moving.MoveStage.TheVariants.{Copying as Copies}
use Rattle.mako_mutator.specs.Drivers as drivers
use Rattle.mako_call.specs.Moving.{giving_turn}
use Rattle.mako_names.specs.Tables.{phase_of}
use Rattle.mako_layout.specs.Facets.{fills, carries, raises, uses}
use Rattle.mako_layout.specs.Evacuations.{State, Evacuation, Fills, Carries, layout, slot_at}
use Rattle.mako_layout.specs.Evacuations as evacuations
use Rattle.mako_layout.specs.StepParts.{moved_entry}
use Rattle.mako_layout.specs.Steps.Step.{load_top, load_word, store_word, raise_and_use}
use Rattle.mako_layout.proofs.EachStep.{each_step_keeps}
use Rattle.mako_state.specs.Standings.{stage_standing}
use Rattle.mako_state.specs.Works.{uses_at, copy_work}
use Rattle.mako_state.proofs.Objects.{index_after}
use Rattle.mako_joint.specs.Joints.{JointScene, Joint, HasName}
use Rattle.mako_joint.specs.Kinds.{with_work, with_entry}
use Rattle.mako_joint.proofs.Heaps.{header_at}
use Rattle.mako_joint.proofs.Moving.{moves_entry}
use Rattle.mako_joint.proofs.Epochs.{held_within}
use Rattle.mako_mutating.specs.MutatorFacets.{access_kept, stage_admission}
use Rattle.mako_mutating.specs.Mutators.{View, view_of, with_view, IsSeen, HasFields, CopyCounts}
use Rattle.mako_mutating.proofs.Attempts.{Scene, At, Holds, after, heap, st, seat, before, plainly, left_same}
use Rattle.mako_mutating.proofs.Attempts.{keeps_after}
use Rattle.mako_mutating.proofs.Gates.{roots_else}
use Rattle.mako_mutating.proofs.Moves.{Recorded, recorded, size_of, IsEvac, away_is_evac, turn_admits}
use Rattle.mako_mutating.proofs.Objects.{read, works_on, has_object}
use Rattle.mako_mutating.proofs.Views.{keeps_on, IsUnread, Framed, framed_at, order_turned, laid, gate_back, set_back}

-- ---- a scene in which the words and the work of one mutator are others
module _ (s : JointScene) (m : ℕ) (v u : View) (seen : IsSeen s m v) where
  work_alone : (us : List ℕ) → u.standing ≡ v.standing → u.trace ≡ v.trace → u.admission ≡ v.admission
      → u.held ≡ v.held → u.trying ≡ v.trying → u.left ≡ v.left
      → with_work (record s { words = us }) m u.work ≡ with_view s m us s.front u
  work_alone us standing trace admission held trying left =
      let a = sym (set_back s.facets.gates m (mutator_at m v.standing) (mutator_at m u.standing) seen.gate
      (ap (mutator_at m) standing)) in
      let b = sym (set_back s.facets.trace m v.trace u.trace seen.trace trace) in
      let c = sym (set_back s.facets.phases m (mutating v.admission) (mutating u.admission) seen.phase
      (ap mutating admission)) in
      let d = sym (set_back s.facets.names.held m v.held u.held seen.held held) in
      let e = sym (set_back s.facets.names.trying m v.trying u.trying seen.trying trying) in
      let f = sym (set_back s.facets.names.left m v.left u.left seen.left left) in
      λ i. record {
        words = us;
        front = s.front;
        facets = record s.facets {
          names = record s.facets.names { held = d i; trying = e i; left = f i };
          trace = b i;
          gates = a i;
          works = set s.facets.works m u.work;
          phases = c i;
        };
      }

module _ (x : Scene) (within : Bool) (e : Errand) (found : EntryWord) (home : ℕ) where
  abbrev y : ℕ
  y = e.object.entry

  -- the attempt at this stage of its copy
  abbrev pub copy : CopyStage → CallStage
  copy c = Moving e (Copies (record { shape = x.n; number = y; entry = found; home = home; stage = c }))

  abbrev pub stored_words : Place → ℕ → List ℕ
  stored_words p v = set x.s.words (index x.n p) v

  module _ (c : CopyStage) (at : At x within (copy c)) where
    -- a load that goes on with the copy
    loads_on : (next : CopyStage) → drivers.IsKnown (after x x.slot (copy next))
        → CopyCounts (heap x) e.object next → (i : ℕ)
        → Evacuation x.n (record (st x) { works = set x.s.facets.works x.m (copy_work y found home next) })
        → Holds x (read x within i) x.s.front (after x x.slot (copy next))
    loads_on next known counts i kept =
        works_on x within (copy c) (copy next) at known at.keeps.says (refl, counts) tt refl refl
        (keeps_on (stage_admission (copy c))) refl refl i kept

    -- and a store
    stores_on : (next : CopyStage) → drivers.IsKnown (after x x.slot (copy next))
        → CopyCounts (heap x) e.object next → (p : Place) (v : ℕ) → Within x.n p → IsUnread p → area_of p ≢ 4
        → Evacuation x.n (record (st x) {
          words = λ q. word_at x.n (stored_words p v) q;
          works = set x.s.facets.works x.m (copy_work y found home next);
        })
        → Holds x (stored_words p v) x.s.front (after x x.slot (copy next))
    stores_on next known counts p v there unread no_root kept =
        let low = at.keeps.in_range in
        let was = before x within (copy c) at in
        let us = stored_words p v in
        let to = view_of (after x x.slot (copy next)) in
        let framed = framed_at x.n x.w x.s x.j x.m low was at.seen p v there unread in
        plainly x within (copy c) at (copy next) us (record {
          known = known;
          says = at.keeps.says;
          counts = (refl, counts);
          loaded = tt;
          framed = framed;
          trying = refl;
          trace = refl;
          order = order_turned x.n x.w x.s x.j x.m low was at.seen us framed.order (stage_admission (copy next))
              (keeps_on (stage_admission (copy c)));
          layout = laid x.n x.w x.s x.j x.m low was at.seen us x.s.front x.s.facets.gates
              (set x.s.facets.works x.m (copy_work y found home next)) to
              (gate_back x.n x.w x.s x.j x.m low was at.seen to refl) refl kept;
          roots = roots_else x within (copy c) at (after x x.slot (copy next)) p v there no_root refl;
        })

    pub record_here : Recorded x within e.object
    record_here = recorded x within (copy c) at e.object e.access refl

    sets : (p : Place) (v : ℕ) → Within x.n p
        → Sets x.n (st x).words (λ q. word_at x.n (stored_words p v) q) p v
    sets p v there = record {
      here = word_same x.n x.s.words p v x.j.names.hold.size there;
      others = λ q inner other. word_other x.n x.s.words p q v there inner other;
    }

    -- what it knows as it copies
    pub knows_fills : (o j : ℕ) → copy_work y found home c ≡ fills y found home o j
        → Fills x.n (layout x.n (st x)) (st x).words (mutator_at x.m (stage_standing x.n (copy c))) y found home o j
    knows_fills o j is =
        x.j.layout.knows x.m (mutator_at x.m (stage_standing x.n (copy c))) (fills y found home o j) at.seen.gate
        (at.seen.work ∙ ap Some is)

    -- the words of the record, by the address that was loaded
    from_record : (o j i : ℕ) → copy_work y found home c ≡ fills y found home o j
        → index x.n (region_word (slot_at x.n (st x) y).region ((slot_at x.n (st x) y).offset + i)) ≡ found.address + i
    from_record o j i is =
        let same = (knows_fills o j is).as_found.address in
        let after_i = index_after x.n (slot_at x.n (st x) y).region (slot_at x.n (st x) y).offset i in omega arith

    -- the next word is loaded
    pub word_loaded : (o j fields : ℕ) (next : CopyStage) → copy_work y found home c ≡ fills y found home o j
        → HasFields (heap x) e.object fields → j ≤ fields → let v = slice_index x.s.words (found.address + j) in
        copy_work y found home next ≡ carries y found home o j v
        → drivers.IsKnown (after x x.slot (copy next)) → CopyCounts (heap x) e.object next
        → Holds x (read x within (found.address + j)) x.s.front (after x x.slot (copy next))
    word_loaded o j fields next is has few carries_it known counts =
        let g = mutator_at x.m (stage_standing x.n (copy c)) in
        let size = size_of x within e.object record_here fields has in
        let word_is : (st x).words
        (region_word (slot_at x.n (st x) y).region ((slot_at x.n (st x) y).offset + j))
        ≡ slice_index x.s.words (found.address + j) = ap (slice_index x.s.words) (from_record o j j is) in
        loads_on next known counts (found.address + j)
        (subst (λ k. Evacuation x.n (record (st x) { works = set x.s.facets.works x.m k }))
        (ap (carries y found home o j) word_is ∙ sym carries_it)
        (each_step_keeps x.n x.j.script.shape (st x) x.m _ x.j.layout
        (load_word x.m y found home o j g (record { gate = at.seen.gate; work = at.seen.work ∙ ap Some is })
        (omega arith))))

    -- it is stored
    pub word_stored : (o j fields v : ℕ) → copy_work y found home c ≡ carries y found home o j v
        → HasFields (heap x) e.object fields → j ≤ fields → home < x.n.servers * (x.n.tablets + x.n.spare)
        → o + fields + 1 ≤ x.n.words → (i : ℕ) → index x.n (region_word home (o + j)) ≡ i
        → drivers.IsKnown (after x x.slot (copy (before_field o fields j)))
        → Holds x (words_after (record { word = i; op = Store v }) x.s.words) x.s.front
        (after x x.slot (copy (before_field o fields j)))
    word_stored o j fields v is has few low room i place known =
        subst (λ z. Holds x (set x.s.words z v) x.s.front (after x x.slot (copy (before_field o fields j)))) place
        (by_lt (λ b. drivers.IsKnown (after x x.slot (copy (next b)))
        → Holds x (stored_words p v) x.s.front (after x x.slot (copy (next b)))) j fields
        (λ less later. stores_on (next true) later has p v there
        (record { no_name = λ z. z; untraced = λ z. z; unpolled = λ z. z; unordered = λ z. z }) (λ z. omega arith) kept)
        (λ past later. stores_on (next false) later has p v there
        (record { no_name = λ z. z; untraced = λ z. z; unpolled = λ z. z; unordered = λ z. z }) (λ z. omega arith)
        (subst (λ k. Evacuation x.n (record (st x) {
          words = λ q. word_at x.n (stored_words p v) q;
          works = set x.s.facets.works x.m (fills y found home o (k + 1));
        })) (let z : j ≡ fields = omega arith in z) kept)) known)
      where
        p : Place
        p = region_word home (o + j)

        there : Within x.n p
        there = (low, omega arith)

        next : Bool → CopyStage
        next b = if b then CopyField o fields j else StoringEntry o fields

        kept : Evacuation x.n (record (st x) {
          words = λ q. word_at x.n (stored_words p v) q;
          works = set x.s.facets.works x.m (fills y found home o (j + 1));
        })
        kept =
            each_step_keeps x.n x.j.script.shape (st x) x.m _ x.j.layout
            (store_word (λ q. word_at x.n (stored_words p v) q) x.m y found home o j v
            (mutator_at x.m (stage_standing x.n (copy c)))
            (record { gate = at.seen.gate; work = at.seen.work ∙ ap Some is }) (sets p v there))

  -- ---- the stages of the copy
  pub top_loaded : (at : At x within (copy CopyTop)) → let w = word_at x.n x.s.words (top (tablet_of_entry x.n y)) in
      drivers.IsKnown (after x x.slot (copy (CopyHeader w)))
      → Holds x (read x within (index x.n (top (tablet_of_entry x.n y)))) x.s.front
      (after x x.slot (copy (CopyHeader w)))
  top_loaded at known =
      loads_on CopyTop at (CopyHeader (word_at x.n x.s.words (top (tablet_of_entry x.n y)))) known tt
      (index x.n (top (tablet_of_entry x.n y)))
      (each_step_keeps x.n x.j.script.shape (st x) x.m _ x.j.layout
      (load_top x.m y found home (mutator_at x.m (stage_standing x.n (copy CopyTop)))
      (seat x within (copy CopyTop) at)))

  pub header_loaded : (offset : ℕ) (at : At x within (copy (CopyHeader offset)))
      → let w = slice_index x.s.words found.address in
      drivers.IsKnown (after x x.slot (copy (StoringHeader offset w)))
      → Holds x (read x within found.address) x.s.front (after x x.slot (copy (StoringHeader offset w)))
  header_loaded offset at known =
      let c = CopyHeader offset in
      let w = slice_index x.s.words found.address in
      let r = record_here c at in
      let slot = slot_at x.n (st x) y in
      let same = (knows_fills c at offset 0 refl).as_found.address in
      let has : HasFields (heap x) e.object w = record {
        fields = r.rec.fields;
        are = sym (ap (fields_of (heap x)) r.name_is) ∙ r.rec.are;
        count_is = sym (header_at x.n x.s.words slot.region slot.offset r.rec.fields found.address same r.rec.words);
      } in
      let zero_more : found.address + 0 ≡ found.address = omega arith in
      subst (λ i. Holds x (read x within i) x.s.front (after x x.slot (copy (StoringHeader offset w)))) zero_more
      (word_loaded c at offset 0 w (StoringHeader offset w) refl has (omega arith)
      (ap (λ i. carries y found home offset 0 (slice_index x.s.words i)) (sym zero_more)) known has)

  pub header_stored : (offset fields : ℕ) (at : At x within (copy (StoringHeader offset fields)))
      → drivers.IsKnown (after x x.slot (copy (before_field offset fields 0)))
      → Holds x (words_after (record { word = copied_to x.n home offset; op = Store fields }) x.s.words) x.s.front
      (after x x.slot (copy (before_field offset fields 0)))
  header_stored offset fields at known =
      let copier = at.keeps.known.progress.task.known.stage.1.0 in
      let room = copier.stage.room in
      let after_it = word_after x.n home (offset + 0) in
      word_stored (StoringHeader offset fields) at offset 0 fields fields refl at.keeps.counts.1 (omega arith)
      copier.home room (copied_to x.n home offset) (omega arith) known

  pub field_copied : (offset fields field : ℕ) (at : At x within (copy (CopyField offset fields field)))
      → let w = slice_index x.s.words (found.address + 1 + field) in
      drivers.IsKnown (after x x.slot (copy (CopyStore offset fields field w)))
      → Holds x (read x within (found.address + 1 + field)) x.s.front
      (after x x.slot (copy (CopyStore offset fields field w)))
  field_copied offset fields field at known =
      let c = CopyField offset fields field in
      let w = slice_index x.s.words (found.address + 1 + field) in
      let copier = at.keeps.known.progress.task.known.stage.1.0 in
      let less = copier.stage.1 in
      let has = at.keeps.counts.1 in
      let same : found.address + (field + 1) ≡ found.address + 1 + field = omega arith in
      subst (λ i. Holds x (read x within i) x.s.front (after x x.slot (copy (CopyStore offset fields field w)))) same
      (word_loaded c at offset (field + 1) fields (CopyStore offset fields field w) refl has (omega arith)
      (ap (λ i. carries y found home offset (field + 1) (slice_index x.s.words i)) (sym same)) known has)

  pub field_stored_there : (offset fields field word : ℕ)
      (at : At x within (copy (CopyStore offset fields field word)))
      → drivers.IsKnown (after x x.slot (copy (before_field offset fields (field + 1))))
      → Holds x (words_after (record { word = copied_to x.n home (offset + 1 + field); op = Store word }) x.s.words)
      x.s.front (after x x.slot (copy (before_field offset fields (field + 1))))
  field_stored_there offset fields field word at known =
      let copier = at.keeps.known.progress.task.known.stage.1.0 in
      let room = copier.stage.0.room in
      let less = copier.stage.1 in
      let after_it = word_after x.n home (offset + (field + 1)) in
      word_stored (CopyStore offset fields field word) at offset (field + 1) fields word refl at.keeps.counts.1
      (omega arith) copier.home room (copied_to x.n home (offset + 1 + field)) (omega arith) known

  -- ---- the entry gets the address of the copy
  pub entry_stored : (offset fields : ℕ) (at : At x within (copy (StoringEntry offset fields)))
      → drivers.IsKnown (after x x.slot (copy (RaisingTop offset fields)))
      → Holds x
      (stored_words (entry y) (entry_word (record found { address = copied_to x.n home offset }))) x.s.front
      (after x x.slot (copy (RaisingTop offset fields)))
  entry_stored offset fields at known = (
    subst (Joint x.n x.w) (work_alone x.s x.m was to at.seen us refl refl refl refl refl
        (left_same x within s at x.slot t)) stepped_joint,
    keeps_after x within s at x.s.front us x.slot t (x.replies ++ []) true known at.keeps.says (refl, has)
        (roots_else x within s at (after x x.slot t) (entry y)
        (entry_word (record found { address = copied_to x.n home offset })) there (λ z. omega arith) refl)
        (append-nil x.replies ∙ at.keeps.replies),
  )
    where
      c : CopyStage
      c = StoringEntry offset fields

      s : CallStage
      s = copy c

      t : CallStage
      t = copy (RaisingTop offset fields)

      us : List ℕ
      us = stored_words (entry y) (entry_word (record found { address = copied_to x.n home offset }))

      was : View
      was = before x within s at

      to : View
      to = view_of (after x x.slot t)

      has : HasFields (heap x) e.object fields
      has = at.keeps.counts.1

      object : HasName x.s.facets.names.held x.m y
      object = has_object x within s at e.object e.access refl

      there : Within x.n (entry y)
      there = held_within x.n x.w x.s x.m y x.j object

      size : (slot_at x.n (st x) y).size ≡ fields + 1
      size = size_of x within e.object (record_here c at) fields has

      knows : Fills x.n (layout x.n (st x)) (st x).words (mutator_at x.m (stage_standing x.n s)) y found home offset
          (fields + 1)
      knows = knows_fills c at offset (fields + 1) refl

      evac : IsEvac (phase_of x.n x.s.words)
      evac = away_is_evac x within s at (access_kept e.access) refl y object
          (λ is. knows.out (is ∙ sym knows.kept.region))

      sits : evacuations.Seat (st x) x.m (mutator_at x.m (stage_standing x.n s))
          (fills y found home offset (slot_at x.n (st x) y).size)
      sits = record {
        gate = at.seen.gate;
        work = at.seen.work ∙ ap (λ z. Some (fills y found home offset z)) (sym size);
      }

      moved : Joint x.n x.w (with_work
          (with_entry x.n x.s y (moved_entry found (index x.n (region_word home offset)))) x.m
          (raises y home offset (slot_at x.n (st x) y).size))
      moved = moves_entry x.n x.w x.s x.j evac.cycle x.m y home offset found
          (mutator_at x.m (stage_standing x.n s)) evac.is sits

      stepped_joint : Joint x.n x.w (with_work (record x.s { words = us }) x.m to.work)
      stepped_joint =
          subst (λ a. Joint x.n x.w (with_work (with_entry x.n x.s y (moved_entry found a)) x.m to.work))
          (word_after x.n home offset)
          (subst (λ z. Joint x.n x.w (with_work
          (with_entry x.n x.s y (moved_entry found (index x.n (region_word home offset)))) x.m
          (raises y home offset z))) size moved)

  -- ---- the top is raised: the view goes on at the copy
  pub top_raised : (offset fields : ℕ) (at : At x within (copy (RaisingTop offset fields)))
      → let t = giving_turn e (copied_to x.n home offset) in drivers.IsKnown (after x x.slot t)
      → Holds x (stored_words (top (tablet_of_entry x.n y)) (offset + fields + 1)) x.s.front (after x x.slot t)
  top_raised offset fields at known =
      plainly x within s at t us (record {
        known = known;
        says = at.keeps.says;
        counts = tt;
        loaded = tt;
        framed = framed;
        trying = refl;
        trace = refl;
        order = order_turned x.n x.w x.s x.j x.m low was at.seen us framed.order (stage_admission t)
            (keeps_on (stage_admission s));
        layout = laid x.n x.w x.s x.j x.m low was at.seen us x.s.front x.s.facets.gates
            (set x.s.facets.works x.m (uses y home offset)) to
            (gate_back x.n x.w x.s x.j x.m low was at.seen to refl)
            (ap (set x.s.facets.works x.m) uses_is)
            (each_step_keeps x.n x.j.script.shape (st x) x.m _ x.j.layout
            (raise_and_use (λ q. word_at x.n us q) x.m y home offset (fields + 1) g (seat x within s at)
            (turn_admits x.m (tablet_of_entry x.n y))
            (subst (λ z. Sets x.n (st x).words (λ q. word_at x.n us q) p z)
            (let z : offset + fields + 1 ≡ offset + (fields + 1) = omega arith in z)
            (sets (RaisingTop offset fields) at p (offset + fields + 1) there))));
        roots = roots_else x within s at (after x x.slot t) p (offset + fields + 1) there (λ z. omega arith) refl;
      })
    where
      s : CallStage
      s = copy (RaisingTop offset fields)

      t : CallStage
      t = giving_turn e (copied_to x.n home offset)

      p : Place
      p = top (tablet_of_entry x.n y)

      us : List ℕ
      us = stored_words p (offset + fields + 1)

      g : GateFacet
      g = mutator_at x.m (stage_standing x.n s)

      low : x.m < x.n.mutators
      low = at.keeps.in_range

      was : View
      was = before x within s at

      to : View
      to = view_of (after x x.slot t)

      there : Within x.n p
      there = belongings_in_range.entry x.n y at.keeps.known.progress.task.known.stage.0.0.1

      framed : Framed x.n x.w x.s x.j x.m low was at.seen us
      framed = framed_at x.n x.w x.s x.j x.m low was at.seen p (offset + fields + 1) there
          (record { no_name = λ z. z; untraced = λ z. z; unpolled = λ z. z; unordered = λ z. z })

      copier : copying.IsKnown
          (record { shape = x.n; number = y; entry = found; home = home; stage = RaisingTop offset fields })
      copier = at.keeps.known.progress.task.known.stage.1.0

      -- the address of the copy is that of its place
      lies : IsAddress x.n (copied_to x.n home offset)
          × (region_of_address x.n (copied_to x.n home offset) ≡ home)
      lies = let room = copier.stage.room in
          region_words x.n home (copied_to x.n home offset) copier.home (omega arith, omega arith)

      word_is : word_of_address x.n (copied_to x.n home offset) ≡ offset
      word_is =
          let a = copied_to x.n home offset in
          let place = address_place x.n a lies.0 in
          let home_place : index x.n (region_word home (word_of_address x.n a)) ≡ a =
          subst (λ r. index x.n (region_word r (word_of_address x.n a)) ≡ a) lies.1 place in
          let after_it = word_after x.n home (word_of_address x.n a) in omega arith

      uses_is : uses y home offset ≡ uses_at x.n y (copied_to x.n home offset)
      uses_is = λ i. uses y (sym lies.1 i) (sym word_is i)
