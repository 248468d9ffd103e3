-- The steps of an attempt at the mutator's own roots.
use Rattle.std.proofs.Common.{◌≡◌, ℕ, ◌<◌, ⊎_elim, Bool, List, [], Option, Some, None, sym, ap, subst, refl, ◌∙◌}
use Rattle.std.proofs.lemmas.Bool.{cases_eq}
use Rattle.std.proofs.lemmas.Option.{same_Some}
use Rattle.mako_words.specs.declared.name.Name.{Name}
use Rattle.mako_words.specs.declared.value.Value.{Value}
use Rattle.mako_words.specs.declared.value.Value.TheVariants as value
use Rattle.mako_words.specs.declared.phase_word.PhaseWord.{PhaseWord}
use Rattle.mako_words.specs.Phases.{phase_at}
use Rattle.mako_words.specs.Values.{FitsValue, value_at, value_word}
use Rattle.mako_words.proofs.ValueWords.{value_at-value_word}
use Rattle.mako_shape.specs.Places.{phase, root, index, Within, word_at}
use Rattle.mako_shape.proofs.PlaceLaws.{word_same, word_other}
use Rattle.mako_step.specs.Acts.{words_after}
use Rattle.mako_step.specs.declared.act.Op.TheVariants.{Load, Store}
use Rattle.mako_model.specs.declared.call.Call.TheVariants as call
use Rattle.mako_model.specs.declared.reply.Reply.{Reply}
use Rattle.mako_model.specs.declared.reply.Reply.TheVariants as reply
use Rattle.mako_model.specs.declared.point.Point.TheVariants.{Did}
use Rattle.mako_model.specs.Fronts.{with_point}
use Rattle.mako_model.specs.Heaps.{root_of, fields_of, with_root}
use Rattle.mako_model.specs.Lawful.{IsLawful, HasRoot, IsNoRef, heap_after}
use Rattle.mako_model.specs.Starved.{words_by}
use Rattle.mako_model.proofs.Lookups.{root_same, root_other}
use Rattle.mako_model.proofs.RootRows.{has_roots}
use Rattle.mako_call.specs.declared.object.Access.TheVariants.{Get as Gets, Put as Puts}
use Rattle.mako_call.specs.declared.call_stage.CallStage.{CallStage}
use Rattle.mako_call.specs.declared.call_stage.CallStage.TheVariants.{Rooting}
use Rattle.mako_call.specs.declared.rooting.RootStage.TheVariants.{StoringNumber, StoringNull, LoadingCopied}
use Rattle.mako_call.specs.declared.rooting.RootStage.TheVariants.{StoringCopied, LoadingShown, LoadingSource}
use Rattle.mako_call.specs.declared.rooting.RootStage.TheVariants.{LoadingTarget, LoadingValue, LoadingPhase}
use Rattle.mako_call.specs.Calls.{decided}
use Rattle.mako_mutator.specs.Drivers as drivers
use Rattle.mako_call.specs.Leaving.{answered as answering}
use Rattle.mako_call.specs.Objects.{begun_at}
use Rattle.mako_names.specs.Steps.{IsPlain}
use Rattle.mako_names.specs.Trying as trying
use Rattle.mako_shades.specs.Steps.{LeavesObjects}
use Rattle.mako_layout.specs.Evacuations.{Evacuation}
use Rattle.mako_phases.specs.Facets.{inside}
use Rattle.mako_state.specs.Carried.{stage_carried, WordStands}
use Rattle.mako_state.specs.Says.{StageSays, RootSays}
use Rattle.mako_state.specs.Standings.{stage_standing}
use Rattle.mako_state.specs.Works.{stage_work}
use Rattle.mako_state.proofs.StageCalls.{numbers, drops, shows, copies_into, copies, gets, puts, puts_value, puts_at}
use Rattle.mako_joint.proofs.Heaps.{values_fit}
use Rattle.mako_mutating.specs.MutatorFacets.{stage_trying, stage_trace, stage_held, stage_admission}
use Rattle.mako_mutating.specs.Mutators.{view_of, StageKeeps, RootsStand}
use Rattle.mako_mutating.proofs.Attempts.{Scene, At, Holds, Result, after, replied_at, heap, st, before, plainly, loads}
use Rattle.mako_mutating.proofs.Attempts.{answers, layout_stored, layout_told}
use Rattle.mako_mutating.proofs.Stages.{IsLoaded}
use Rattle.mako_mutating.proofs.Views.{Turns, keeps_on, Framed, framed_same, framed_root, tracks_told, order_turned}
use Rattle.mako_mutating.proofs.Views.{order_keeps, laid, gate_back, work_back}

module _ (x : Scene) where
  -- a root of the mutator
  pub record HasValue (q : ℕ) : Type 0 where
    pub value : Value
    pub is : root_of (heap x) x.m q ≡ Some value
    pub fits : FitsValue value

  pub has_value : x.m < x.n.mutators → (q : ℕ) → q < x.n.roots → HasValue q
  has_value low q in_row =
      let facts = x.j.script.facts in
      let has = (has_roots x.w x.s.front.history x.j.names.hold.answers.lawful.legal).each x.m q
      (subst (λ z. x.m < z) (sym facts.mutators) low) (subst (λ z. q < z) (sym facts.roots) in_row) in
      record { value = has.0; is = has.1; fits = (values_fit x.n x.w x.s x.j).roots x.m q has.0 has.1 }

  pub has_root : x.m < x.n.mutators → (q : ℕ) → q < x.n.roots → HasRoot (heap x) x.m q
  has_root low q in_row = let has = has_value low q in_row in (has.value, has.is)

  -- what a word says that packs this value
  pub at_value : (word : ℕ) (v : Value) → FitsValue v → word ≡ value_word v → value_at word ≡ v
  at_value word v fits e = ap value_at e ∙ value_at-value_word v fits

  abbrev pub loaded : ℕ → List ℕ
  loaded q = words_after (record { word = index x.n (root x.m q); op = Load }) x.s.words

  abbrev pub root_word : ℕ → ℕ
  root_word q = word_at x.n x.s.words (root x.m q)

  abbrev pub rooted : ℕ → Value → List ℕ
  rooted q v = words_after (record { word = index x.n (root x.m q); op = Store (value_word v) }) x.s.words

  module _ (within : Bool) where
    -- the value of a root that nothing is still to be stored in
    pub value_loaded : (s : CallStage) (at : At x within s) → stage_carried s ≡ None → (q : ℕ) → q < x.n.roots
        → (v : Value) → root_of (heap x) x.m q ≡ Some v → FitsValue v → value_at (root_word q) ≡ v
    value_loaded s at none q low v is fits =
        at_value (root_word q) v fits
        (subst (λ c. WordStands c q (root_word q) v) none (at.keeps.roots q v low is))

    -- ---- a load within an attempt, after which gates and works are as they were
    module _ (s t : CallStage) (at : At x within s) where
      pub looked : drivers.IsKnown (after x x.slot t) → StageSays (heap x) x.m x.call t
          → StageKeeps x.n (heap x) x.s.words x.m x.slot t
          → IsLoaded t → stage_trying x.n x.last x.call t ≡ stage_trying x.n x.last x.call s
          → stage_trace t ≡ stage_trace s → Turns (stage_admission s) (stage_admission t)
          → stage_standing x.n t ≡ stage_standing x.n s → stage_work x.n t ≡ stage_work x.n s
          → stage_carried t ≡ stage_carried s → (i : ℕ)
          → Holds x (words_after (record { word = i; op = Load }) x.s.words) x.s.front (after x x.slot t)
      looked known says counts is_loaded trying trace turns standing work carried i =
          let low = at.keeps.in_range in
          let was = before x within s at in
          let framed = framed_same x.n x.w x.s x.j x.m low was at.seen in
          let to = view_of (after x x.slot t) in
          loads x within s at i x.s.front (after x x.slot t)
          (plainly x within s at t x.s.words (record {
            known = known;
            says = says;
            counts = counts;
            loaded = is_loaded;
            framed = framed;
            trying = trying;
            trace = trace;
            order = order_turned x.n x.w x.s x.j x.m low was at.seen x.s.words framed.order (stage_admission t) turns;
            layout = laid x.n x.w x.s x.j x.m low was at.seen x.s.words x.s.front x.s.facets.gates x.s.facets.works to
                (gate_back x.n x.w x.s x.j x.m low was at.seen to standing)
                (work_back x.n x.w x.s x.j x.m low was at.seen to work) x.j.layout;
            roots = λ q v in_row is. subst (λ c. WordStands c q (root_word q) v) (sym carried)
                (at.keeps.roots q v in_row is);
          }))

      -- ---- an answer that makes no object and writes no field, after which nothing is in hand
      module _ (r : Reply) (undecided : decided s ≡ None) (known : drivers.IsKnown (replied_at x t r))
          (lawful : IsLawful (heap x) (Did x.m x.call r)) (plain : IsPlain r) (leaves : LeavesObjects x.call r)
          (says : StageSays (heap_after (heap x) (Did x.m x.call r)) x.m x.call t)
          (counts : (us : List ℕ) → StageKeeps x.n (heap_after (heap x) (Did x.m x.call r)) us x.m x.slot t)
          (no_names : stage_held t ≡ []) (nothing : stage_trying x.n x.last x.call t ≡ trying.Nothing)
          (trace : stage_trace t ≡ stage_trace s) (turns : Turns (stage_admission s) (stage_admission t))
          (makes_none : (tablet : ℕ) → words_by x.w tablet (Did x.m x.call r) ≡ 0)
          (standing : stage_standing x.n t ≡ stage_standing x.n s)
          (work : stage_work x.n t ≡ stage_work x.n s) where
        answer_at : (us : List ℕ)
            → Framed x.n x.w x.s x.j x.m at.keeps.in_range (before x within s at) at.seen us
            → ((name : Name) → fields_of (heap_after (heap x) (Did x.m x.call r)) name ≡ fields_of (heap x) name)
            → Evacuation x.n (record (st x) { words = λ q. word_at x.n us q })
            → RootsStand x.n (heap_after (heap x) (Did x.m x.call r)) us x.m (replied_at x t r)
            → Holds x us (with_point x.s.front (Did x.m x.call r)) (replied_at x t r)
        answer_at us framed fields kept roots =
            let low = at.keeps.in_range in
            let was = before x within s at in
            let to = view_of (replied_at x t r) in
            let front = with_point x.s.front (Did x.m x.call r) in
            answers x within s at t r us (record {
              undecided = undecided;
              known = known;
              says = says;
              counts = counts us;
              lawful = lawful;
              plain = plain;
              leaves = framed.leaves;
              no_names = no_names;
              nothing = nothing;
              tracks = tracks_told x.n x.w x.s x.j x.m low was at.seen us (stage_trace t) x.call r framed trace lawful
                  leaves;
              polls = framed.polls;
              order = order_turned x.n x.w x.s x.j x.m low was at.seen us framed.order (stage_admission t) turns;
              layout = laid x.n x.w x.s x.j x.m low was at.seen us front x.s.facets.gates x.s.facets.works to
                  (gate_back x.n x.w x.s x.j x.m low was at.seen to standing)
                  (work_back x.n x.w x.s x.j x.m low was at.seen to work)
                  (layout_told x us (Did x.m x.call r) fields makes_none kept);
              roots = roots;
            })

        -- with nothing changed
        pub tells : (i : ℕ) → heap_after (heap x) (Did x.m x.call r) ≡ heap x → stage_carried t ≡ stage_carried s
            → Holds x (words_after (record { word = i; op = Load }) x.s.words)
            (with_point x.s.front (Did x.m x.call r)) (replied_at x t r)
        tells i heap_is carried =
            loads x within s at i (with_point x.s.front (Did x.m x.call r)) (replied_at x t r)
            (answer_at x.s.words
            (framed_same x.n x.w x.s x.j x.m at.keeps.in_range (before x within s at) at.seen)
            (λ name. ap (λ h. fields_of h name) heap_is) x.j.layout
            (subst (λ h. RootsStand x.n h x.s.words x.m (replied_at x t r)) (sym heap_is)
            (λ p u in_row is. subst (λ c. WordStands c p (root_word p) u) (sym carried)
            (at.keeps.roots p u in_row is))))

        -- with a value stored into a root
        pub stores_root : (q : ℕ) (v : Value) → q < x.n.roots → (kept : Option PhaseWord)
            → stage_admission s ≡ inside kept → heap_after (heap x) (Did x.m x.call r) ≡ with_root (heap x) x.m q v
            → stage_carried s ≡ None → stage_carried t ≡ None
            → Holds x (rooted q v) (with_point x.s.front (Did x.m x.call r)) (replied_at x t r)
        stores_root q v low kept admitted heap_is free bare =
            let there : Within x.n (root x.m q) = (at.keeps.in_range, low) in
            let h = heap x in
            answer_at (rooted q v)
            (framed_root x.n x.w x.s x.j x.m at.keeps.in_range (before x within s at) at.seen kept q (value_word v)
            admitted there)
            (λ name. ap (λ g. fields_of g name) heap_is)
            (layout_stored x (root x.m q) (value_word v) there tt tt)
            (subst (λ g. RootsStand x.n g (rooted q v) x.m (replied_at x t r)) (sym heap_is)
            (λ p u inside is. subst (λ c. WordStands c p (word_at x.n (rooted q v) (root x.m p)) u) (sym bare)
            (⊎_elim
            (λ e. let has = has_value at.keeps.in_range q low in
            let same : v ≡ u =
            same_Some v u
            (sym (root_same h x.m q v has.value has.is) ∙ ap (root_of (with_root h x.m q v) x.m) (sym e) ∙ is) in
            ap (λ i. word_at x.n (rooted q v) (root x.m i)) e ∙ word_same x.n x.s.words (root x.m q)
            (value_word v) x.j.names.hold.size there ∙ ap value_word same)
            (λ d. word_other x.n x.s.words (root x.m q) (root x.m p) (value_word v) there
            (at.keeps.in_range, inside) (λ e. d (let c : p ≡ q = cc in c))
            ∙ subst (λ c. WordStands c p (root_word p) u) free
            (at.keeps.roots p u inside (sym (root_other h x.m q x.m p v (λ e f. d f)) ∙ is)))
            (cases_eq p q))))

    -- ---- the stages that only look
    pub copied_loaded : (r q : ℕ) (at : At x within (Rooting (LoadingCopied r q)))
        → let t = Rooting (StoringCopied r (value_at (root_word q))) in drivers.IsKnown (after x x.slot t)
        → Result x within x.slot (Rooting (LoadingCopied r q)) t (loaded q)
    copied_loaded r q at known_after =
        let s = Rooting (LoadingCopied r q) in
        let t = Rooting (StoringCopied r (value_at (root_word q))) in
        let known = at.keeps.known.progress.task.known in
        let is = copies x.call r q known.agrees in
        let has = has_value at.keeps.in_range q known.stage.1 in
        looked s t at known_after
        (subst (λ c. StageSays (heap x) x.m c t) (sym is)
        (has.is ∙ ap Some (sym (value_loaded s at refl q known.stage.1 has.value has.is has.fits))))
        tt tt refl refl (keeps_on (inside None)) refl refl refl (index x.n (root x.m q))

    -- the root of the object of a get, which is one
    pub source_loaded : (r q i : ℕ) (at : At x within (Rooting (LoadingSource r q i))) (object : Name)
        → value_at (root_word q) ≡ value.Ref object
        → let t = begun_at object (Gets (record { to = r; field = i })) in drivers.IsKnown (after x x.slot t)
        → Result x within x.slot (Rooting (LoadingSource r q i)) t (loaded q)
    source_loaded r q i at object named known_after =
        let s = Rooting (LoadingSource r q i) in
        let t = begun_at object (Gets (record { to = r; field = i })) in
        let known = at.keeps.known.progress.task.known in
        let is = gets x.call r q i known.agrees in
        let has = has_value at.keeps.in_range q known.stage.1 in
        looked s t at known_after
        (subst (λ c. StageSays (heap x) x.m c t) (sym is)
        (has.is ∙ ap Some (sym (value_loaded s at refl q known.stage.1 has.value has.is has.fits) ∙ named)))
        tt tt refl refl (keeps_on (inside None)) refl refl refl (index x.n (root x.m q))

    -- the root of the object of a put, which is one
    pub target_loaded : (r i q : ℕ) (at : At x within (Rooting (LoadingTarget r i q))) (object : Name)
        → value_at (root_word r) ≡ value.Ref object
        → let t = Rooting (LoadingValue object i q) in drivers.IsKnown (after x x.slot t)
        → Result x within x.slot (Rooting (LoadingTarget r i q)) t (loaded r)
    target_loaded r i q at object named known_after =
        let s = Rooting (LoadingTarget r i q) in
        let t = Rooting (LoadingValue object i q) in
        let known = at.keeps.known.progress.task.known in
        let is = puts x.call r i q known.agrees in
        let has = has_value at.keeps.in_range r known.stage.0 in
        looked s t at known_after
        (subst (λ c. StageSays (heap x) x.m c t) (sym is)
        (has.is ∙ ap Some (sym (value_loaded s at refl r known.stage.0 has.value has.is has.fits) ∙ named)))
        tt tt refl refl (keeps_on (inside None)) refl refl refl (index x.n (root x.m r))

    -- the value that is put
    pub put_value_loaded : (object : Name) (i q : ℕ) (at : At x within (Rooting (LoadingValue object i q)))
        → let t = Rooting (LoadingPhase object i (value_at (root_word q))) in drivers.IsKnown (after x x.slot t)
        → Result x within x.slot (Rooting (LoadingValue object i q)) t (loaded q)
    put_value_loaded object i q at known_after =
        let s = Rooting (LoadingValue object i q) in
        let t = Rooting (LoadingPhase object i (value_at (root_word q))) in
        let known = at.keeps.known.progress.task.known in
        let of = puts_value x.call object i q known.agrees in
        let has = has_value at.keeps.in_range q known.stage.1 in
        let said : RootSays (heap x) x.m (call.Put of.to i q) (LoadingValue object i q) =
        subst (λ c. StageSays (heap x) x.m c s) of.is at.keeps.says in
        looked s t at known_after
        (subst (λ c. StageSays (heap x) x.m c t) (sym of.is)
        (said, has.is ∙ ap Some (sym (value_loaded s at refl q known.stage.1 has.value has.is has.fits))))
        tt tt refl refl (keeps_on (inside None)) refl refl refl (index x.n (root x.m q))

    -- the phase, before a put goes to its object
    pub put_phase_loaded : (object : Name) (i : ℕ) (v : Value) (at : At x within (Rooting (LoadingPhase object i v)))
        → let t =
        begun_at object (Puts (record { field = i; value = v; phase = phase_at (word_at x.n x.s.words phase) })) in
        drivers.IsKnown (after x x.slot t)
        → Result x within x.slot (Rooting (LoadingPhase object i v)) t
        (words_after (record { word = index x.n phase; op = Load }) x.s.words)
    put_phase_loaded object i v at known_after =
        let s = Rooting (LoadingPhase object i v) in
        let t =
        begun_at object (Puts (record { field = i; value = v; phase = phase_at (word_at x.n x.s.words phase) })) in
        let known = at.keeps.known.progress.task.known in
        let of = puts_at x.call object i v known.agrees in
        let said : RootSays (heap x) x.m (call.Put of.to i of.from) (LoadingPhase object i v) =
        subst (λ c. StageSays (heap x) x.m c s) of.is at.keeps.says in
        let low = at.keeps.in_range in
        let was = before x within s at in
        let to = view_of (after x x.slot t) in
        loads x within s at (index x.n phase) x.s.front (after x x.slot t)
        (plainly x within s at t x.s.words (record {
          known = known_after;
          says = subst (λ c. StageSays (heap x) x.m c t) (sym of.is) said;
          counts = tt;
          loaded = tt;
          framed = framed_same x.n x.w x.s x.j x.m low was at.seen;
          trying = refl;
          trace = refl;
          order = order_keeps x.n x.w x.s x.j x.m low was at.seen x.s.words x.j.order None refl;
          layout = laid x.n x.w x.s x.j x.m low was at.seen x.s.words x.s.front x.s.facets.gates x.s.facets.works to
              (gate_back x.n x.w x.s x.j x.m low was at.seen to refl)
              (work_back x.n x.w x.s x.j x.m low was at.seen to refl) x.j.layout;
          roots = at.keeps.roots;
        }))

    -- ---- the stages that answer
    pub number_stored : (q number : ℕ) (at : At x within (Rooting (StoringNumber q number)))
        → let r = reply.Value (value.Num number) in drivers.IsKnown (replied_at x (answering r) r)
        → Result x within x.slot (Rooting (StoringNumber q number)) (answering r) (rooted q (value.Num number))
    number_stored q number at known_after =
        let s = Rooting (StoringNumber q number) in
        let v = value.Num number in
        let r = reply.Value v in
        let known = at.keeps.known.progress.task.known in
        let is = numbers x.call q number known.agrees in
        stores_root s (answering r) at r refl known_after
        (subst (λ c. IsLawful (heap x) (Did x.m c r)) (sym is)
        (has_root at.keeps.in_range q known.stage.0, refl)) tt
        (subst (λ c. LeavesObjects c r) (sym is) tt) tt (λ us. tt) refl refl refl (keeps_on (inside None))
        (λ tablet. ap (λ c. words_by x.w tablet (Did x.m c r)) is) refl refl q v known.stage.0 None refl
        (ap (λ c. heap_after (heap x) (Did x.m c r)) is) refl refl

    pub null_stored : (q : ℕ) (at : At x within (Rooting (StoringNull q)))
        → drivers.IsKnown (replied_at x (answering reply.Done) reply.Done)
        → Result x within x.slot (Rooting (StoringNull q)) (answering reply.Done) (rooted q value.Null)
    null_stored q at known_after =
        let s = Rooting (StoringNull q) in
        let r = reply.Done in
        let known = at.keeps.known.progress.task.known in
        let is = drops x.call q known.agrees in
        stores_root s (answering r) at r refl known_after
        (subst (λ c. IsLawful (heap x) (Did x.m c r)) (sym is) (has_root at.keeps.in_range q known.stage)) tt
        (subst (λ c. LeavesObjects c r) (sym is) tt) tt (λ us. tt) refl refl refl (keeps_on (inside None))
        (λ tablet. ap (λ c. words_by x.w tablet (Did x.m c r)) is) refl refl q value.Null known.stage None refl
        (ap (λ c. heap_after (heap x) (Did x.m c r)) is) refl refl

    pub copied_stored : (q : ℕ) (v : Value) (at : At x within (Rooting (StoringCopied q v)))
        → drivers.IsKnown (replied_at x (answering (reply.Value v)) (reply.Value v))
        → Result x within x.slot (Rooting (StoringCopied q v)) (answering (reply.Value v)) (rooted q v)
    copied_stored q v at known_after =
        let s = Rooting (StoringCopied q v) in
        let r = reply.Value v in
        let known = at.keeps.known.progress.task.known in
        let of = copies_into x.call q v known.agrees in
        let said : root_of (heap x) x.m of.from ≡ Some v =
        subst (λ c. StageSays (heap x) x.m c s) of.is at.keeps.says in
        stores_root s (answering r) at r refl known_after
        (subst (λ c. IsLawful (heap x) (Did x.m c r)) (sym of.is)
        (has_root at.keeps.in_range q known.stage.0, said)) tt
        (subst (λ c. LeavesObjects c r) (sym of.is) tt) tt (λ us. tt) refl refl refl (keeps_on (inside None))
        (λ tablet. ap (λ c. words_by x.w tablet (Did x.m c r)) of.is) refl refl q v known.stage.0 None refl
        (ap (λ c. heap_after (heap x) (Did x.m c r)) of.is) refl refl

    pub shown_loaded : (q : ℕ) (at : At x within (Rooting (LoadingShown q)))
        → let r = reply.Value (value_at (root_word q)) in drivers.IsKnown (replied_at x (answering r) r)
        → Result x within x.slot (Rooting (LoadingShown q)) (answering r) (loaded q)
    shown_loaded q at known_after =
        let s = Rooting (LoadingShown q) in
        let r = reply.Value (value_at (root_word q)) in
        let known = at.keeps.known.progress.task.known in
        let is = shows x.call q known.agrees in
        let has = has_value at.keeps.in_range q known.stage in
        let loaded_is = value_loaded s at refl q known.stage has.value has.is has.fits in
        tells s (answering r) at r refl known_after
        (subst (λ c. IsLawful (heap x) (Did x.m c r)) (sym is) (has.is ∙ ap Some (sym loaded_is))) tt
        (subst (λ c. LeavesObjects c r) (sym is) tt) tt (λ us. tt) refl refl refl (keeps_on (inside None))
        (λ tablet. ap (λ c. words_by x.w tablet (Did x.m c r)) is) refl refl (index x.n (root x.m q))
        (ap (λ c. heap_after (heap x) (Did x.m c r)) is) refl

    -- the root of a get's object holds none
    pub source_no_ref : (r q i : ℕ) (at : At x within (Rooting (LoadingSource r q i))) (v : Value)
        → value_at (root_word q) ≡ v → IsNoRef v → drivers.IsKnown (replied_at x (answering reply.NoRef) reply.NoRef)
        → Result x within x.slot (Rooting (LoadingSource r q i)) (answering reply.NoRef) (loaded q)
    source_no_ref r q i at v is_v no_ref known_after =
        let s = Rooting (LoadingSource r q i) in
        let known = at.keeps.known.progress.task.known in
        let is = gets x.call r q i known.agrees in
        let has = has_value at.keeps.in_range q known.stage.1 in
        let loaded_is = value_loaded s at refl q known.stage.1 has.value has.is has.fits in
        tells s (answering reply.NoRef) at reply.NoRef refl known_after
        (subst (λ c. IsLawful (heap x) (Did x.m c reply.NoRef)) (sym is)
        (has_root at.keeps.in_range r known.stage.0, (v, has.is ∙ ap Some (sym loaded_is ∙ is_v), no_ref))) tt
        (subst (λ c. LeavesObjects c reply.NoRef) (sym is) tt) tt (λ us. tt) refl refl refl (keeps_on (inside None))
        (λ tablet. ap (λ c. words_by x.w tablet (Did x.m c reply.NoRef)) is) refl refl (index x.n (root x.m q))
        (ap (λ c. heap_after (heap x) (Did x.m c reply.NoRef)) is) refl

    -- nor that of a put's
    pub target_no_ref : (r i q : ℕ) (at : At x within (Rooting (LoadingTarget r i q))) (v : Value)
        → value_at (root_word r) ≡ v → IsNoRef v → drivers.IsKnown (replied_at x (answering reply.NoRef) reply.NoRef)
        → Result x within x.slot (Rooting (LoadingTarget r i q)) (answering reply.NoRef) (loaded r)
    target_no_ref r i q at v is_v no_ref known_after =
        let s = Rooting (LoadingTarget r i q) in
        let known = at.keeps.known.progress.task.known in
        let is = puts x.call r i q known.agrees in
        let has = has_value at.keeps.in_range r known.stage.0 in
        let loaded_is = value_loaded s at refl r known.stage.0 has.value has.is has.fits in
        tells s (answering reply.NoRef) at reply.NoRef refl known_after
        (subst (λ c. IsLawful (heap x) (Did x.m c reply.NoRef)) (sym is)
        (has_root at.keeps.in_range q known.stage.1, (v, has.is ∙ ap Some (sym loaded_is ∙ is_v), no_ref))) tt
        (subst (λ c. LeavesObjects c reply.NoRef) (sym is) tt) tt (λ us. tt) refl refl refl (keeps_on (inside None))
        (λ tablet. ap (λ c. words_by x.w tablet (Did x.m c reply.NoRef)) is) refl refl (index x.n (root x.m r))
        (ap (λ c. heap_after (heap x) (Did x.m c reply.NoRef)) is) refl
