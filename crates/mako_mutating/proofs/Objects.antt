-- The steps of an attempt at its object, up to the record's place, and what it finds there.
use Rattle.std.proofs.Common.{◌≡◌, ℕ, ◌+◌, ◌*◌, ◌<◌, ◌≤◌, Bool, true, List, length, set, slice_get, slice_index, Some}
use Rattle.std.proofs.Common.{sym, ap, subst, refl, ◌∙◌, arith}
use Rattle.std.proofs.lemmas.Bool.{and_parts, leb-true, ltb-true}
use Rattle.mako_words.specs.declared.name.Name.{Name}
use Rattle.mako_words.specs.declared.value.Value.{Value}
use Rattle.mako_words.specs.declared.value.Value.TheVariants.{Ref}
use Rattle.mako_words.specs.declared.entry_word.EntryWord.{EntryWord}
use Rattle.mako_words.specs.Entries.{entry_at}
use Rattle.mako_words.specs.Values.{value_at}
use Rattle.mako_shape.specs.declared.numbers.Numbers.{Numbers}
use Rattle.mako_shape.specs.Places.{entry, home, region_word, index, Within, word_at}
use Rattle.mako_shape.specs.Belongings.{IsAddress, region_of_address, word_of_address}
use Rattle.mako_shape.proofs.BelongingLaws.{address_place, region_words}
use Rattle.mako_record.specs.Regions.{is_in_region}
use Rattle.mako_gate.specs.Standings.{mutator_at}
use Rattle.mako_step.specs.Acts.{words_after}
use Rattle.mako_step.specs.declared.act.Op.TheVariants.{Load}
use Rattle.mako_model.specs.Heaps.{root_of}
use Rattle.mako_model.specs.Lawful.{RefersTo}
use Rattle.mako_call.specs.declared.object.Access.{Access}
use Rattle.mako_call.specs.declared.object.Access.TheVariants.{Get as Gets, Put as Puts}
use Rattle.mako_call.specs.declared.object.Errand.{Errand}
use Rattle.mako_call.specs.declared.object.Located.{Located}
use Rattle.mako_call.specs.declared.call_stage.CallStage.{CallStage}
use Rattle.mako_call.specs.declared.call_stage.CallStage.TheVariants.{Entering, Moving, Getting, Putting}
use Rattle.mako_call.specs.declared.entering.EnterStage.TheVariants.{LoadingEntry, LoadingHome}
use Rattle.mako_call.specs.declared.moving.MoveStage.TheVariants.{TakingTurn}
use Rattle.mako_call.specs.declared.getting.GetStage.TheVariants.{LoadingHeader as GetHeader}
use Rattle.mako_call.specs.declared.putting.PutStage.TheVariants.{LoadingHeader as PutHeader}
use Rattle.mako_call.specs.Objects.{tablet_of, at_object, at_record}
use Rattle.mako_mutator.specs.Drivers as drivers
use Rattle.mako_names.specs.Tables.{entry_of}
use Rattle.mako_layout.specs.Facets.{idle, uses, stands}
use Rattle.mako_layout.specs.Evacuations.{State, Evacuation, IsTaken, name_of}
use Rattle.mako_layout.specs.Evacuations as evacuations
use Rattle.mako_layout.specs.StepParts.{OwesNothing}
use Rattle.mako_layout.specs.Steps.Step.{load_entry, load_home, keep_home, forget}
use Rattle.mako_layout.proofs.EachStep.{each_step_keeps}
use Rattle.mako_state.specs.Carried.{stage_carried, WordStands}
use Rattle.mako_state.specs.Says.{StageSays, AccessSays}
use Rattle.mako_state.specs.Standings.{stage_standing}
use Rattle.mako_state.specs.Works.{stage_work, uses_at}
use Rattle.mako_state.proofs.Objects.{index_after, is_admitted}
use Rattle.mako_joint.specs.Joints.{HasName}
use Rattle.mako_joint.specs.Bridges.{IsPresentRecord}
use Rattle.mako_joint.proofs.Epochs.{held_are_taken, held_within}
use Rattle.mako_joint.proofs.Records.{there, named, field_within}
use Rattle.mako_mutating.specs.MutatorFacets.{access_held, stage_held, stage_trace, stage_trying, stage_admission}
use Rattle.mako_mutating.specs.Mutators.{view_of, StageKeeps}
use Rattle.mako_mutating.proofs.Attempts.{Scene, At, Holds, Result, after, heap, st, seat, before, plainly, loads}
use Rattle.mako_mutating.proofs.Roots.{root_word}
use Rattle.mako_mutating.proofs.Stages.{access_first, IsLoaded}
use Rattle.mako_mutating.proofs.Views.{Turns, keeps_on, framed_same, order_turned, laid, gate_back}

-- an address in a region is one of it
pub region_is : (n : Numbers) (r a : ℕ) → r < n.servers * (n.tablets + n.spare) → is_in_region n r a ≡ true
    → region_of_address n a ≡ r
region_is n r a low inside =
    let parts = and_parts _ _ inside in
    let from = leb-true (index n (region_word r 0)) a parts.0 in
    let below = ltb-true _ n.words parts.1 in
    (region_words n r a low (from, omega arith)).1

module _ (x : Scene) (within : Bool) where
  -- the words after a load at an address
  abbrev pub read : ℕ → List ℕ
  read a = words_after (record { word = a; op = Load }) x.s.words

  -- ---- a load after which the work is another
  module _ (s t : CallStage) (at : At x within s) where
    pub works_on : drivers.IsKnown (after x x.slot t) → StageSays (heap x) x.m x.call t
        → StageKeeps x.n (heap x) x.s.words x.m x.slot t
        → IsLoaded t → stage_trying x.n x.last x.call t ≡ stage_trying x.n x.last x.call s
        → stage_trace t ≡ stage_trace s → Turns (stage_admission s) (stage_admission t)
        → stage_standing x.n t ≡ stage_standing x.n s → stage_carried t ≡ stage_carried s → (i : ℕ)
        → Evacuation x.n (record (st x) { works = set x.s.facets.works x.m (stage_work x.n t) })
        → Holds x (read i) x.s.front (after x x.slot t)
    works_on known says counts is_loaded trying trace turns standing carried i kept =
        let low = at.keeps.in_range in
        let was = before x within s at in
        let framed = framed_same x.n x.w x.s x.j x.m low was at.seen in
        let to = view_of (after x x.slot t) in
        loads x within s at i x.s.front (after x x.slot t)
        (plainly x within s at t x.s.words (record {
          known = known;
          says = says;
          counts = counts;
          loaded = is_loaded;
          framed = framed;
          trying = trying;
          trace = trace;
          order = order_turned x.n x.w x.s x.j x.m low was at.seen x.s.words framed.order (stage_admission t) turns;
          layout = laid x.n x.w x.s x.j x.m low was at.seen x.s.words x.s.front x.s.facets.gates
              (set x.s.facets.works x.m (stage_work x.n t)) to
              (gate_back x.n x.w x.s x.j x.m low was at.seen to standing) refl kept;
          roots = λ q v in_row is. subst (λ c. WordStands c q (root_word x q) v) (sym carried)
              (at.keeps.roots q v in_row is);
        }))

    -- the work at a record ends
    pub owes_nothing : (y a : ℕ) → OwesNothing x.n (uses_at x.n y a)
    owes_nothing y a t = (refl, refl)

    -- whatever words and heap are then
    pub forgotten : (y a : ℕ) → stage_work x.n s ≡ uses_at x.n y a → (z : State) → z.gates ≡ x.s.facets.gates
        → z.works ≡ x.s.facets.works → Evacuation x.n z
        → Evacuation x.n (record z { works = set z.works x.m idle })
    forgotten y a using z gates works kept =
        each_step_keeps x.n x.j.script.shape z x.m _ kept
        (forget x.m (mutator_at x.m (stage_standing x.n s)) (uses_at x.n y a)
        (record {
          gate = ap (λ gs. slice_get gs x.m) gates ∙ at.seen.gate;
          work = ap (λ ks. slice_get ks x.m) works ∙ at.seen.work ∙ ap Some using;
        })
        (owes_nothing y a))

  -- ---- the entry of the object
  pub has_object : (s : CallStage) (at : At x within s) (object : Name) (a : Access)
      → stage_held s ≡ access_held object a → HasName x.s.facets.names.held x.m object.entry
  has_object s at object a is = record {
    names = access_held object a;
    name = object;
    at = at.seen.held ∙ ap Some is;
    among = access_first object a;
    of_entry = refl;
  }

  pub object_taken : (y : ℕ) → HasName x.s.facets.names.held x.m y → IsTaken x.n (st x) y
  unfolding entry_of
  object_taken y has = held_are_taken x.n x.w x.s x.m y x.j has

  pub entry_loaded : (e : Errand) (at : At x within (Entering e LoadingEntry))
      → let t = Entering e (LoadingHome (entry_at (word_at x.n x.s.words (entry e.object.entry)))) in
      drivers.IsKnown (after x x.slot t)
      → Result x within x.slot (Entering e LoadingEntry) t (read (index x.n (entry e.object.entry)))
  entry_loaded e at known_after =
      let s = Entering e LoadingEntry in
      let t = Entering e (LoadingHome (entry_at (word_at x.n x.s.words (entry e.object.entry)))) in
      let has = has_object s at e.object e.access refl in
      works_on s t at known_after at.keeps.says tt tt refl refl (keeps_on (stage_admission s)) refl refl
      (index x.n (entry e.object.entry))
      (each_step_keeps x.n x.j.script.shape (st x) x.m _ x.j.layout
      (load_entry x.m e.object.entry (mutator_at x.m (stage_standing x.n s)) (seat x within s at)
      (held_within x.n x.w x.s x.m e.object.entry x.j has) (is_admitted x.n x.m (tablet_of x.n e.object))
      (object_taken e.object.entry has)))

  -- ---- the home: the record lies there
  pub home_loaded : (e : Errand) (found : EntryWord) (at : At x within (Entering e (LoadingHome found))) →
      let w = word_at x.n x.s.words (home (tablet_of x.n e.object)) in
      w < x.n.servers * (x.n.tablets + x.n.spare) → is_in_region x.n w found.address ≡ true
      → drivers.IsKnown (after x x.slot (at_object e found.address))
      → Holds x (read (index x.n (home (tablet_of x.n e.object)))) x.s.front
      (after x x.slot (at_object e found.address))
  home_loaded e found at low inside known = by e.access refl known
    where
      s : CallStage
      s = Entering e (LoadingHome found)

      there_at : Located
      there_at = record { object = e.object; address = found.address }

      to : Access → CallStage
      to a = at_record there_at a

      kept : Evacuation x.n (record (st x) {
        works = set x.s.facets.works x.m (uses_at x.n e.object.entry found.address);
      })
      kept =
          each_step_keeps x.n x.j.script.shape (st x) x.m _ x.j.layout
          (load_home x.m e.object.entry (region_of_address x.n found.address) (word_of_address x.n found.address)
          (mutator_at x.m (stage_standing x.n s)) (seat x within s at)
          (region_is x.n (word_at x.n x.s.words (home (tablet_of x.n e.object))) found.address low inside))

      by : (a : Access) → e.access ≡ a → drivers.IsKnown (after x x.slot (to a))
          → Holds x (read (index x.n (home (tablet_of x.n e.object)))) x.s.front (after x x.slot (to a))
      by (Gets get) is known =
          works_on s (Getting there_at get GetHeader) at known
          (subst (λ a. AccessSays (heap x) x.m x.call e.object a) is at.keeps.says) tt tt refl refl
          (subst (λ a. Turns (stage_admission (Entering (record e { access = a }) (LoadingHome found)))
          (stage_admission (Getting there_at get GetHeader))) (sym is) (keeps_on (stage_admission (to (Gets get)))))
          refl refl (index x.n (home (tablet_of x.n e.object))) kept
      by (Puts put) is known =
          works_on s (Putting there_at put PutHeader) at known
          (subst (λ a. AccessSays (heap x) x.m x.call e.object a) is at.keeps.says) tt tt refl refl
          (subst (λ a. Turns (stage_admission (Entering (record e { access = a }) (LoadingHome found)))
          (stage_admission (Putting there_at put PutHeader))) (sym is) (keeps_on (stage_admission (to (Puts put)))))
          refl refl (index x.n (home (tablet_of x.n e.object))) kept

  -- or not: it is to be moved
  pub away_found : (e : Errand) (found : EntryWord) (at : At x within (Entering e (LoadingHome found))) →
      let w = word_at x.n x.s.words (home (tablet_of x.n e.object)) in
      drivers.IsKnown (after x x.slot (Moving e (TakingTurn w)))
      → Result x within x.slot (Entering e (LoadingHome found)) (Moving e (TakingTurn w))
      (read (index x.n (home (tablet_of x.n e.object))))
  away_found e found at known =
      let s = Entering e (LoadingHome found) in
      let w = word_at x.n x.s.words (home (tablet_of x.n e.object)) in
      let has = has_object s at e.object e.access refl in
      let g = mutator_at x.m (stage_standing x.n s) in
      let enters = is_admitted x.n x.m (tablet_of x.n e.object) in
      works_on s (Moving e (TakingTurn w)) at known at.keeps.says tt tt refl refl (keeps_on (stage_admission s)) refl
      refl (index x.n (home (tablet_of x.n e.object)))
      (each_step_keeps x.n x.j.script.shape (st x) x.m _ x.j.layout
      (keep_home x.m e.object.entry g (stage_work x.n s) (seat x within s at) (λ t. (refl, refl))
      (held_within x.n x.w x.s x.m e.object.entry x.j has)
      (let a : 1 ≤ stands (tablet_of x.n e.object) g = omega arith in a)))

  -- ---- the record at an address that the view uses
  pub record Present (object : Name) (a q : ℕ) : Type 0 where
    pub fields : List Value
    pub refers : RefersTo (heap x) x.m q object fields
    pub address : a ≡ (entry_of x.n x.s.words object.entry).address
    pub header : slice_index x.s.words a ≡ length fields
    pub each : (i : ℕ) (v : Value) → slice_get fields i ≡ Some v → value_at (slice_index x.s.words (a + 1 + i)) ≡ v
    pub place : (i : ℕ)
        → index x.n (region_word (region_of_address x.n a) (word_of_address x.n a + (1 + i))) ≡ a + 1 + i
    pub inside : (i : ℕ) → i < length fields
        → Within x.n (region_word (region_of_address x.n a) (word_of_address x.n a + (1 + i)))
    pub name_is : name_of object.entry (word_at x.n x.s.words (entry object.entry)) ≡ object

  pub present : (s : CallStage) (at : At x within s) (object : Name) (a q : ℕ)
      → stage_work x.n s ≡ uses_at x.n object.entry a → IsAddress x.n a → root_of (heap x) x.m q ≡ Some (Ref object)
      → Present object a q
  present s at object a q using is_address root_is =
      let r = region_of_address x.n a in
      let o = word_of_address x.n a in
      let g = mutator_at x.m (stage_standing x.n s) in
      let sits : evacuations.Seat (st x) x.m g (uses object.entry r o) =
      record { gate = at.seen.gate; work = at.seen.work ∙ ap Some using } in
      let found : IsPresentRecord x.n x.w x.s x.m q object r o =
      there x.n x.w x.s x.j x.m q r o object g sits root_is in
      let place : index x.n (region_word r o) ≡ a = address_place x.n a is_address in
      let place_of : (i : ℕ) → index x.n (region_word r (o + (1 + i))) ≡ a + 1 + i =
      λ i. index_after x.n r o (1 + i) ∙
      (let d : index x.n (region_word r o) + (1 + i) ≡ a + 1 + i = omega arith in d) in
      record {
        fields = found.fields;
        refers = found.refers;
        address = sym place ∙ found.address;
        header = ap (slice_index x.s.words) (sym place) ∙ found.header;
        each = λ i v is. ap (λ k. value_at (slice_index x.s.words k)) (sym (place_of i)) ∙ found.each i v is;
        place = place_of;
        inside = λ i low. field_within x.n x.w x.s x.j x.m q r o object g sits root_is i low;
        name_is = named x.n x.w x.s x.j x.m q r o object g sits root_is;
      }
