-- The steps of a get at its object's record, and answers there.
use Rattle.std.proofs.Common.{◌≡◌, ℕ, ◌+◌, ◌<◌, ◌≤◌, ⊎_elim, Bool, [], length, set, slice_get, slice_index, get_or}
use Rattle.std.proofs.Common.{Option, Some, None, sym, ap, subst, refl, ◌∙◌, arith}
use Rattle.std.proofs.lemmas.Bool.{cases_eq}
use Rattle.std.proofs.lemmas.Option.{same_Some, slice_get-get_or}
use Rattle.mako_words.specs.declared.name.Name.{Name}
use Rattle.mako_words.specs.declared.phase_word.PhaseWord.{PhaseWord}
use Rattle.mako_words.specs.declared.value.Value.{Value}
use Rattle.mako_words.specs.declared.value.Value.TheVariants as value
use Rattle.mako_words.specs.Values.{value_word, value_at}
use Rattle.mako_shape.specs.Places.{root, Within, word_at}
use Rattle.mako_shape.proofs.PlaceLaws.{word_same, word_other}
use Rattle.mako_model.specs.declared.reply.Reply.{Reply}
use Rattle.mako_model.specs.declared.reply.Reply.TheVariants as reply
use Rattle.mako_model.specs.declared.point.Point.TheVariants.{Did}
use Rattle.mako_model.specs.Fronts.{with_point}
use Rattle.mako_model.specs.Heaps.{root_of, fields_of, with_root}
use Rattle.mako_model.specs.Lawful.{IsLawful, heap_after}
use Rattle.mako_model.specs.Starved.{words_by}
use Rattle.mako_model.proofs.Lookups.{root_same, root_other}
use Rattle.mako_call.specs.declared.object.Access.TheVariants.{Get as Gets}
use Rattle.mako_call.specs.declared.object.Get.{Get as GetArgs}
use Rattle.mako_call.specs.declared.object.Located.{Located}
use Rattle.mako_call.specs.declared.call_stage.CallStage.{CallStage}
use Rattle.mako_call.specs.declared.call_stage.CallStage.TheVariants.{Getting}
use Rattle.mako_call.specs.declared.getting.GetStage.TheVariants.{LoadingHeader as GetHeader, LoadingField as GetField}
use Rattle.mako_call.specs.declared.getting.GetStage.TheVariants.{StoringRoot as StoringGot}
use Rattle.mako_call.specs.Calls.{decided}
use Rattle.mako_mutator.specs.Drivers as drivers
use Rattle.mako_call.specs.Leaving.{answered_at}
use Rattle.mako_call.specs.Objects.{tablet_of, LocatedIsKnown}
use Rattle.mako_names.specs.Steps.{IsPlain}
use Rattle.mako_names.specs.Trying as trying
use Rattle.mako_shades.specs.Steps.{LeavesObjects}
use Rattle.mako_layout.specs.Facets.{idle}
use Rattle.mako_phases.specs.Facets.{inside}
use Rattle.mako_state.specs.Carried.{stage_carried, WordStands}
use Rattle.mako_state.specs.Says.{StageSays, AccessSays}
use Rattle.mako_state.specs.Standings.{stage_standing}
use Rattle.mako_state.specs.Works.{stage_work, uses_at}
use Rattle.mako_state.proofs.StageCalls.{gets_into}
use Rattle.mako_mutating.specs.MutatorFacets.{stage_held, stage_trace, stage_trying, stage_admission}
use Rattle.mako_mutating.specs.Mutators.{view_of, with_view, StageKeeps, RootsStand}
use Rattle.mako_mutating.proofs.Attempts.{Scene, At, Holds, Result, after, replied_at, heap, before, plainly, loads}
use Rattle.mako_mutating.proofs.Attempts.{answers, layout_stored, layout_told}
use Rattle.mako_mutating.proofs.Objects.{read, forgotten, Present, present}
use Rattle.mako_mutating.proofs.Roots.{root_word, rooted, has_value, has_root, looked}
use Rattle.mako_mutating.proofs.Stages.{IsLoaded}
use Rattle.mako_joint.specs.Joints.{layout_in}
use Rattle.mako_mutating.proofs.Views.{Turns, keeps_on, framed_same, framed_root, tracks_told, order_turned, laid}
use Rattle.mako_mutating.proofs.Views.{gate_back, work_back}

module _ (x : Scene) (within : Bool) where
  -- ---- an answer at a record that changes no more than a root, which is still to be stored, if any
  module _ (s t : CallStage) (at : At x within s) (r : Reply) (undecided : decided s ≡ None)
      (known : drivers.IsKnown (replied_at x t r))
      (lawful : IsLawful (heap x) (Did x.m x.call r)) (plain : IsPlain r) (leaves : LeavesObjects x.call r)
      (says : StageSays (heap_after (heap x) (Did x.m x.call r)) x.m x.call t)
      (counts : StageKeeps x.n (heap_after (heap x) (Did x.m x.call r)) x.s.words x.m x.slot t)
      (no_names : stage_held t ≡ []) (nothing : stage_trying x.n x.last x.call t ≡ trying.Nothing)
      (trace : stage_trace t ≡ stage_trace s) (turns : Turns (stage_admission s) (stage_admission t))
      (standing : stage_standing x.n t ≡ stage_standing x.n s) (y a : ℕ)
      (using : stage_work x.n s ≡ uses_at x.n y a) (rid : stage_work x.n t ≡ idle) where
    pub answered_there : (i : ℕ)
        → ((name : Name) → fields_of (heap_after (heap x) (Did x.m x.call r)) name ≡ fields_of (heap x) name)
        → ((tablet : ℕ) → words_by x.w tablet (Did x.m x.call r) ≡ 0)
        → RootsStand x.n (heap_after (heap x) (Did x.m x.call r)) x.s.words x.m (replied_at x t r)
        → Holds x (read x within i) (with_point x.s.front (Did x.m x.call r)) (replied_at x t r)
    answered_there i fields makes_none roots =
        let low = at.keeps.in_range in
        let was = before x within s at in
        let to = view_of (replied_at x t r) in
        let front = with_point x.s.front (Did x.m x.call r) in
        let framed = framed_same x.n x.w x.s x.j x.m low was at.seen in
        loads x within s at i front (replied_at x t r)
        (answers x within s at t r x.s.words (record {
          undecided = undecided;
          known = known;
          says = says;
          counts = counts;
          lawful = lawful;
          plain = plain;
          leaves = framed.leaves;
          no_names = no_names;
          nothing = nothing;
          tracks = tracks_told x.n x.w x.s x.j x.m low was at.seen x.s.words (stage_trace t) x.call r framed trace
              lawful leaves;
          polls = framed.polls;
          order = order_turned x.n x.w x.s x.j x.m low was at.seen x.s.words framed.order (stage_admission t) turns;
          layout = laid x.n x.w x.s x.j x.m low was at.seen x.s.words front x.s.facets.gates
              (set x.s.facets.works x.m idle) to (gate_back x.n x.w x.s x.j x.m low was at.seen to standing)
              (ap (set x.s.facets.works x.m) (sym rid))
              (forgotten x within s t at y a using
              (record (layout_in x.n x.w (with_view x.s x.m x.s.words front to)) {
                gates = x.s.facets.gates;
                works = x.s.facets.works;
              })
              refl refl (layout_told x x.s.words (Did x.m x.call r) fields makes_none x.j.layout));
          roots = roots;
        }))

  -- the roots where nothing changes them
  pub same_roots : (s t : CallStage) (at : At x within s) (r : Reply) → stage_carried t ≡ stage_carried s
      → heap_after (heap x) (Did x.m x.call r) ≡ heap x
      → RootsStand x.n (heap_after (heap x) (Did x.m x.call r)) x.s.words x.m (replied_at x t r)
  same_roots s t at r carried is =
      subst (λ h. RootsStand x.n h x.s.words x.m (replied_at x t r)) (sym is)
      (λ p u low e. subst (λ c. WordStands c p (root_word x p) u) (sym carried) (at.keeps.roots p u low e))

  -- ---- the header
  get_present : (l : Located) (get : GetArgs) (s : CallStage) (at : At x within s) → (from : ℕ)
      → stage_work x.n s ≡ uses_at x.n l.object.entry l.address
      → LocatedIsKnown x.n l → root_of (heap x) x.m from ≡ Some (value.Ref l.object)
      → Present x within l.object l.address from
  get_present l get s at from using known said = present x within s at l.object l.address from using known.1 said

  pub get_header_loaded : (l : Located) (get : GetArgs) (at : At x within (Getting l get GetHeader))
      → get.field < slice_index x.s.words l.address → let t = Getting l get GetField in
      drivers.IsKnown (after x x.slot t) → Result x within x.slot (Getting l get GetHeader) t (read x within l.address)
  get_header_loaded l get at less known_after =
      let s = Getting l get GetHeader in
      let t = Getting l get GetField in
      let known = at.keeps.known.progress.task.known in
      let of = gets_into x.call get known.agrees in
      let said : root_of (heap x) x.m of.from ≡ Some (value.Ref l.object) =
      subst (λ c. AccessSays (heap x) x.m c l.object (Gets get)) of.is at.keeps.says in
      let here = get_present l get s at of.from refl known.stage.0 said in
      let count = here.header in
      looked x within s t at known_after (
        at.keeps.says,
        (here.fields, here.refers.fields_are, (let more : get.field < length here.fields = omega arith in more)),
      ) tt tt refl refl (keeps_on (inside None)) refl refl refl l.address

  pub get_no_field : (l : Located) (get : GetArgs) (at : At x within (Getting l get GetHeader))
      → slice_index x.s.words l.address ≤ get.field → let t = answered_at (tablet_of x.n l.object) reply.NoField in
      drivers.IsKnown (replied_at x t reply.NoField)
      → Result x within x.slot (Getting l get GetHeader) t (read x within l.address)
  get_no_field l get at past known_after =
      let s = Getting l get GetHeader in
      let r = reply.NoField in
      let t = answered_at (tablet_of x.n l.object) r in
      let known = at.keeps.known.progress.task.known in
      let of = gets_into x.call get known.agrees in
      let said : root_of (heap x) x.m of.from ≡ Some (value.Ref l.object) =
      subst (λ c. AccessSays (heap x) x.m c l.object (Gets get)) of.is at.keeps.says in
      let here = get_present l get s at of.from refl known.stage.0 said in
      let count = here.header in
      let is : heap_after (heap x) (Did x.m x.call r) ≡ heap x = ap (λ c. heap_after (heap x) (Did x.m c r)) of.is in
      answered_there s t at r refl known_after
      (subst (λ c. IsLawful (heap x) (Did x.m c r)) (sym of.is) (
        has_root x at.keeps.in_range get.to known.stage.1,
        (l.object, here.fields, here.refers, (let d : length here.fields ≤ get.field = omega arith in d)),
      ))
      tt (subst (λ c. LeavesObjects c r) (sym of.is) tt) tt tt refl refl refl (keeps_on (inside None)) refl
      l.object.entry l.address refl refl l.address (λ name. ap (λ h. fields_of h name) is)
      (λ tablet. ap (λ c. words_by x.w tablet (Did x.m c r)) of.is) (same_roots s t at r refl is)

  -- ---- the field: the call is decided, and the root is still to be stored
  pub field_loaded : (l : Located) (get : GetArgs) (at : At x within (Getting l get GetField))
      → let v = value_at (slice_index x.s.words (l.address + 1 + get.field)) in
      let t = Getting l get (StoringGot v) in drivers.IsKnown (replied_at x t (reply.Value v))
      → Result x within x.slot (Getting l get GetField) t (read x within (l.address + 1 + get.field))
  field_loaded l get at known_after =
      let s = Getting l get GetField in
      let a = l.address in
      let h = heap x in
      let v = value_at (slice_index x.s.words (a + 1 + get.field)) in
      let r = reply.Value v in
      let t = Getting l get (StoringGot v) in
      let known = at.keeps.known.progress.task.known in
      let of = gets_into x.call get known.agrees in
      let said : root_of h x.m of.from ≡ Some (value.Ref l.object) =
      subst (λ c. AccessSays h x.m c l.object (Gets get)) of.is at.keeps.says.0 in
      let here = get_present l get s at of.from refl known.stage.0 said in
      let more = at.keeps.says.1 in
      let same : more.0 ≡ here.fields = same_Some more.0 here.fields (sym more.1 ∙ here.refers.fields_are) in
      let counts = ap length same in
      let less = more.2 in
      let u = get_or here.fields get.field value.Null in
      let found : slice_get here.fields get.field ≡ Some u =
      slice_get-get_or here.fields get.field value.Null (omega arith) in
      let v_is : v ≡ u = here.each get.field u found in
      let is : heap_after h (Did x.m x.call r) ≡ with_root h x.m get.to v =
      ap (λ c. heap_after h (Did x.m c r)) of.is in
      answered_there s t at r refl known_after
      (subst (λ c. IsLawful h (Did x.m c r)) (sym of.is) (
        has_root x at.keeps.in_range get.to known.stage.1.0,
        (l.object, here.fields, here.refers, found ∙ ap Some (sym v_is)),
      ))
      tt (subst (λ c. LeavesObjects c r) (sym of.is) tt) tt tt refl refl refl (keeps_on (inside None)) refl
      l.object.entry a refl refl (a + 1 + get.field) (λ name. ap (λ g. fields_of g name) is)
      (λ tablet. ap (λ c. words_by x.w tablet (Did x.m c r)) of.is)
      (subst (λ g. RootsStand x.n g x.s.words x.m (replied_at x t r)) (sym is)
      (λ p z low e. (
        (λ c. let has = has_value x at.keeps.in_range get.to known.stage.1.0 in
            same_Some v z
            (sym (root_same h x.m get.to v has.value has.is) ∙ ap (root_of (with_root h x.m get.to v) x.m) c ∙ e)),
        (λ d. at.keeps.roots p z low (sym (root_other h x.m get.to x.m p v (λ f g. d (sym g))) ∙ e)),
      )))

  -- ---- the root that was decided is stored
  pub carried_stored : (s t : CallStage) (at : At x within s) (kept : Option PhaseWord) (q : ℕ) (v : Value)
      → q < x.n.roots → stage_admission s ≡ inside kept → stage_admission t ≡ stage_admission s
      → stage_carried s ≡ Some (record { root = q; value = v }) → stage_carried t ≡ None
      → drivers.IsKnown (after x x.slot t) → StageSays (heap x) x.m x.call t
      → StageKeeps x.n (heap x) (rooted x q v) x.m x.slot t
      → stage_held t ≡ [] → stage_trying x.n x.last x.call t ≡ stage_trying x.n x.last x.call s
      → stage_trace t ≡ stage_trace s → IsLoaded t
      → stage_standing x.n t ≡ stage_standing x.n s → stage_work x.n t ≡ stage_work x.n s
      → Holds x (rooted x q v) x.s.front (after x x.slot t)
  carried_stored s t at kept q v low admitted admission carried bare known says counts no_names trying trace is_loaded
      standing work =
      let there : Within x.n (root x.m q) = (at.keeps.in_range, low) in
      let us = rooted x q v in
      let in_range = at.keeps.in_range in
      let was = before x within s at in
      let to = view_of (after x x.slot t) in
      let framed = framed_root x.n x.w x.s x.j x.m in_range was at.seen kept q (value_word v) admitted there in
      plainly x within s at t us (record {
        known = known;
        says = says;
        counts = counts;
        loaded = is_loaded;
        framed = framed;
        trying = trying;
        trace = trace;
        order = order_turned x.n x.w x.s x.j x.m in_range was at.seen us framed.order (stage_admission t)
            (subst (λ a. Turns a (stage_admission t)) admission (keeps_on (stage_admission t)));
        layout = laid x.n x.w x.s x.j x.m in_range was at.seen us x.s.front x.s.facets.gates x.s.facets.works to
            (gate_back x.n x.w x.s x.j x.m in_range was at.seen to standing)
            (work_back x.n x.w x.s x.j x.m in_range was at.seen to work)
            (layout_stored x (root x.m q) (value_word v) there tt tt);
        roots = λ p u inside_ is.
            let stood : WordStands (Some (record { root = q; value = v })) p (root_word x p) u =
            subst (λ c. WordStands c p (root_word x p) u) carried (at.keeps.roots p u inside_ is) in
            subst (λ c. WordStands c p (word_at x.n us (root x.m p)) u) (sym bare)
            (⊎_elim
            (λ e. ap (λ i. word_at x.n us (root x.m i)) e ∙ word_same x.n x.s.words (root x.m q)
            (value_word v) x.j.names.hold.size there ∙ ap value_word (stood.0 (sym e)))
            (λ d. word_other x.n x.s.words (root x.m q) (root x.m p) (value_word v) there
            (in_range, inside_) (λ e. d (let c : p ≡ q = cc in c)) ∙ stood.1 (λ e. d (sym e)))
            (cases_eq p q));
      })

  pub got_stored : (l : Located) (get : GetArgs) (v : Value) (at : At x within (Getting l get (StoringGot v)))
      → let t = answered_at (tablet_of x.n l.object) (reply.Value v) in drivers.IsKnown (after x x.slot t)
      → Result x within x.slot (Getting l get (StoringGot v)) t (rooted x get.to v)
  got_stored l get v at known =
      let t = answered_at (tablet_of x.n l.object) (reply.Value v) in
      carried_stored (Getting l get (StoringGot v)) t at None get.to v
      at.keeps.known.progress.task.known.stage.1.0 refl refl refl refl known tt tt refl refl refl tt refl refl
