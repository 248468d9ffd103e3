-- The steps of a search that store the record of its object and raise the top over it.
use Rattle.std.proofs.Common.{◌≡◌, ℕ, zero, suc, ◌+◌, ◌-◌, ◌*◌, ◌<◌, Bool, if◌then◌else◌, List, map, set, replicate}
use Rattle.std.proofs.Common.{get_or, Option, Some, None, sym, ap, subst, refl, ◌∙◌, arith}
use Rattle.std.proofs.lemmas.List.{length-replicate}
use Rattle.mako_words.specs.declared.name.Name.{Name}
use Rattle.mako_words.specs.declared.value.Value.TheVariants.{Null}
use Rattle.mako_words.specs.Values.{value_word}
use Rattle.mako_shape.specs.Places.{Place, top, region_word, index, Within, word_at}
use Rattle.mako_shape.specs.Belongings.{tablet_of_entry}
use Rattle.mako_shape.proofs.BelongingLaws.{belongings_in_range}
use Rattle.mako_gate.specs.Changes.{Sets}
use Rattle.mako_gate.specs.Standings.{with_turn, mutator_at}
use Rattle.mako_step.proofs.Cases.{by_lt}
use Rattle.mako_model.specs.declared.attempt.Pause.{Pause as Reason}
use Rattle.mako_alloc.specs.declared.progress.NewStage.TheVariants.{Making}
use Rattle.mako_alloc.specs.declared.progress.NewRecord.{NewRecord}
use Rattle.mako_alloc.specs.declared.progress.Part.{Part}
use Rattle.mako_alloc.specs.declared.progress.Part.TheVariants.{Header, Field, Top, Entry}
use Rattle.mako_call.specs.declared.call_stage.CallStage.{CallStage}
use Rattle.mako_names.specs.Trying as trying
use Rattle.mako_layout.specs.Facets.{makes}
use Rattle.mako_layout.specs.Beside.{IsReading}
use Rattle.mako_layout.specs.Evacuations.{Evacuation, layout, null_words, record_words, Makes}
use Rattle.mako_layout.specs.Steps.Step.{store_null, raise_for_new}
use Rattle.mako_layout.proofs.EachStep.{each_step_keeps}
use Rattle.mako_layout.proofs.Debts.{counted_pos}
use Rattle.mako_joint.specs.Joints.{Joint, layout_in}
use Rattle.mako_state.specs.Works.{part_work}
use Rattle.mako_state.proofs.Words.{sets_words}
use Rattle.mako_mutating.specs.Mutators.{with_view}
use Rattle.mako_making.proofs.Placed.{NextKeeps}
use Rattle.mako_making.proofs.SeatKinds.{laid}
use Rattle.mako_making.proofs.Searches.{y, seeking, on, present, know, AtStage, low_tablet, on_to, progress}
use Rattle.mako_making.proofs.Searches.{phase_stays}
use Rattle.mako_making.proofs.Seeking.{in_with, IsUnseen, unseen_top, unseen_record, stores}
use Rattle.mako_making.proofs.Trials.{Trial, driver, Goal, left}

-- the words of a record of nulls
null_header : (f : ℕ) → null_words (f + 1) 0 ≡ f
null_header f = length-replicate (f + 1 - 1) Null ∙ (let e : f + 1 - 1 ≡ f = omega arith in e)

mapped_nulls : (k i : ℕ) → get_or (map value_word (replicate k Null)) i 0 ≡ 0
mapped_nulls zero i = refl
mapped_nulls (suc k) zero = refl
mapped_nulls (suc k) (suc i) = mapped_nulls k i

null_field : (f i : ℕ) → null_words (f + 1) (i + 1) ≡ 0
null_field f i =
    ap (λ j. get_or (record_words (replicate (f + 1 - 1) Null)) j 0) (let e : i + 1 ≡ suc i = omega arith in e)
    ∙ mapped_nulls (f + 1 - 1) i

part_unread : (z : ℕ) (made : NewRecord) (part : Part) → IsReading (part_work z made part) → ⊥
part_unread z made Header e = e
part_unread z made (Field i) e = e
part_unread z made Top e = e
part_unread z made Entry e = e

-- nothing is known of an attempt that makes its object
pub knows_nothing : (x : Trial) (q f c passed : ℕ) (note : Option Reason) (made : NewRecord) (part : Part)
    → know x q f c passed note (Making made part) ≡ trying.Nothing
knows_nothing x q f c passed None made part = refl
knows_nothing x q f c passed (Some o) made part = refl

module _ (x : Trial) (q f c passed : ℕ) (note : Option Reason) (made : NewRecord) where
  abbrev name : Name
  name = made.name

  abbrev t : ℕ
  t = present x q f c passed

  abbrev stage : Part → CallStage
  stage part = seeking x q f c passed note (Making made part)

  abbrev AtPart : Part → Type 0
  AtPart part = AtStage x q f c passed note (Making made part)

  abbrev there : Place → ℕ → List ℕ
  there p v = set x.s.words (index x.n p) v

  -- a store that goes on with the record
  store_step : (part next : Part) → AtPart part → (p : Place) (v : ℕ) → Within x.n p → IsUnseen p
      → Evacuation x.n (laid x.n x.w x.s (there p v) x.s.front x.s.facets.gates
      (set x.s.facets.works x.m (part_work (f + 1) made next)))
      → Goal (y x q f c) (stage part) (stage next) (there p v)
  store_step part next at p v inside unseen kept =
      on_to x q f c passed note (Making made part) at passed note (Making made next) (there p v)
      (phase_stays x q f c p v inside unseen) tt
      (subst (λ k. Joint x.n x.w (with_view x.s x.m (there p v) x.s.front
      (in_with (with_turn t) (part_work (f + 1) made next) k (left (y x q f c)))))
      (knows_nothing x q f c passed note made part ∙ sym (knows_nothing x q f c passed note made next))
      (stores x.n x.w x.s x.joint x.m x.low (with_turn t) (part_work (f + 1) made part)
      (know x q f c passed note (Making made part)) (left (y x q f c)) at.here p v inside unseen
      (part_work (f + 1) made next) refl (part_unread (f + 1) made next) kept))

  module _ (part : Part) (at : AtPart part) (j : ℕ)
      (making : part_work (f + 1) made part ≡ makes name made.home made.top (f + 1) j) where
    pub knows : Makes x.n (layout x.n (layout_in x.n x.w x.s)) (λ p. word_at x.n x.s.words p)
        (mutator_at x.m (with_turn t)) name made.home made.top (f + 1) j
    knows = x.joint.layout.knows x.m (mutator_at x.m (with_turn t)) (makes name made.home made.top (f + 1) j)
        at.here.gate (at.here.work ∙ ap Some making)

    tablet_of_name : t ≡ tablet_of_entry x.n name.entry
    tablet_of_name = counted_pos t (tablet_of_entry x.n name.entry) 1 (let h = knows.turn in omega arith)

    pub home_below : made.home < x.n.servers * (x.n.tablets + x.n.spare)
    home_below = subst (λ r. r < x.n.servers * (x.n.tablets + x.n.spare)) (sym knows.kept.region)
        (x.joint.layout.copy.home_in (tablet_of_entry x.n name.entry)
        (belongings_in_range.entry x.n name.entry knows.inside))

    -- the next word of the record is stored
    part_stored : (next : Part) (v : ℕ) → j < f + 1 → null_words (f + 1) j ≡ v
        → part_work (f + 1) made next ≡ makes name made.home made.top (f + 1) (j + 1)
        → Goal (y x q f c) (stage part) (stage next) (there (region_word made.home (made.top + j)) v)
    part_stored next v less is work =
        let p = region_word made.home (made.top + j) in
        let fits = knows.fits in
        let inside : Within x.n p = (home_below, (let d : made.top + j < x.n.words = omega arith in d)) in
        store_step part next at p v inside (unseen_record made.home (made.top + j))
        (subst (λ u. Evacuation x.n (laid x.n x.w x.s (there p v) x.s.front x.s.facets.gates
        (set x.s.facets.works x.m u))) (sym work)
        (each_step_keeps x.n x.joint.script.shape (layout_in x.n x.w x.s) x.m _ x.joint.layout
        (store_null (λ r. word_at x.n (there p v) r) x.m name made.home made.top (f + 1) j
        (mutator_at x.m (with_turn t))
        (record { gate = at.here.gate; work = at.here.work ∙ ap Some making }) less
        (subst (λ u. Sets x.n (λ r. word_at x.n x.s.words r) (λ r. word_at x.n (there p v) r) p u) (sym is)
        (sets_words x.n x.s.words x.joint.names.hold.size p v inside)))))

  -- ---- the stages

  abbrev next_part : ℕ → Bool → CallStage
  next_part i more = on x q f c (progress x q f c passed note (Making made (if more then Field i else Top)))

  all_words : (i : ℕ) → f ≡ i → part_work (f + 1) made Top ≡ makes name made.home made.top (f + 1) (i + 1)
  all_words i e = ap (λ j. makes name made.home made.top (f + 1) (j + 1)) e

  pub header_stored : AtPart Header → NextKeeps x.n x.w x.s x.m (driver (y x q f c) (stage Header))
  header_stored at =
      by_lt
      (λ b. Goal (y x q f c) (stage Header) (next_part 0 b) (there (region_word made.home (made.top + 0)) f)) 0 f
      (λ more. part_stored Header at 0 refl (Field 0) f (omega arith) (null_header f) refl)
      (λ none. part_stored Header at 0 refl Top f (omega arith) (null_header f) (all_words 0 (omega (arith, none))))

  pub field_stored : (i : ℕ) → AtPart (Field i) → NextKeeps x.n x.w x.s x.m (driver (y x q f c) (stage (Field i)))
  field_stored i at =
      let less = at.known.progress.task.known.stage.1.stage.1 in
      by_lt
      (λ b. Goal (y x q f c) (stage (Field i)) (next_part (i + 1) b)
      (there (region_word made.home (made.top + (i + 1))) 0)) (i + 1) f
      (λ more. part_stored (Field i) at (i + 1) refl (Field (i + 1)) 0 (omega arith) (null_field f i) refl)
      (λ last. part_stored (Field i) at (i + 1) refl Top 0 (omega arith) (null_field f i)
      (all_words (i + 1) (omega (arith, last, less))))

  pub top_raised : AtPart Top → NextKeeps x.n x.w x.s x.m (driver (y x q f c) (stage Top))
  top_raised at =
      let v = made.top + f + 1 in
      let low = low_tablet x q f c passed note (Making made Top) at in
      let same : v ≡ made.top + (f + 1) = omega arith in
      store_step Top Entry at (top t) v low (unseen_top t)
      (each_step_keeps x.n x.joint.script.shape (layout_in x.n x.w x.s) x.m _ x.joint.layout
      (raise_for_new (λ r. word_at x.n (there (top t) v) r) x.m name made.home made.top (f + 1)
      (mutator_at x.m (with_turn t)) (record { gate = at.here.gate; work = at.here.work })
      (subst (λ u. Sets x.n (λ r. word_at x.n x.s.words r) (λ r. word_at x.n (there (top t) v) r) (top u)
      (made.top + (f + 1))) (tablet_of_name Top at (f + 1) refl)
      (subst (λ u. Sets x.n (λ r. word_at x.n x.s.words r) (λ r. word_at x.n (there (top t) v) r) (top t) u) same
      (sets_words x.n x.s.words x.joint.names.hold.size (top t) v low)))))
