-- What the step of a mutator does to entries: a copy stores the address, and a new the entry of its object.
use Rattle.std.proofs.Common.{◌≡◌, ℕ, ◌+◌, ◌*◌, ◌<◌, ◌^◌, true, false, List, Contains, set, Some, sym, ap, subst, refl}
use Rattle.std.proofs.Common.{◌∙◌, arith}
use Rattle.std.specs.Prelude.{slice_get}
use Rattle.std.proofs.lemmas.Nat.{mod_below}
use Rattle.mako_words.specs.declared.entry_word.EntryWord.{EntryWord}
use Rattle.mako_words.specs.Entries.{entry_at, entry_word, FitsEntry}
use Rattle.mako_words.proofs.EntryWords.{entry_at-entry_word}
use Rattle.mako_shape.specs.declared.numbers.Numbers.{Numbers}
use Rattle.mako_shape.specs.Places.{Place, finished, root, turn, tablet_gate, top, entry, region_word, index, Within}
use Rattle.mako_shape.specs.Places.{word_at}
use Rattle.mako_shape.specs.Belongings.{tablet_of_entry}
use Rattle.mako_shape.proofs.BelongingLaws.{belongings_in_range, word_after}
use Rattle.mako_shape.proofs.PlaceLaws.{word_other}
use Rattle.mako_gate.specs.Standings.{mutator_at}
use Rattle.mako_step.specs.Machines.{IsAct}
use Rattle.mako_step.specs.Acts.{after_op, does, words_stepped}
use Rattle.mako_step.specs.declared.act.Op.TheVariants.{Store, Add}
use Rattle.mako_model.specs.Dead.{names_made}
use Rattle.mako_model.specs.Legal.{Facts, state_of}
use Rattle.mako_names.specs.Tables.{EntryStands, entry_of, phase_of, settled_of}
use Rattle.mako_names.proofs.Counts.{names_in_order}
use Rattle.mako_names.proofs.Entries.{free_is_new}
use Rattle.mako_record.specs.Copying as copying
use Rattle.mako_record.specs.Copying.{Copying, copied_to}
use Rattle.mako_record.specs.declared.copier.CopyStage.{CopyStage}
use Rattle.mako_record.specs.declared.copier.CopyStage.TheVariants.{LoadingTop as CopyTop, LoadingHeader as CopyHeader}
use Rattle.mako_record.specs.declared.copier.CopyStage.TheVariants.{StoringHeader, LoadingField as CopyField}
use Rattle.mako_record.specs.declared.copier.CopyStage.TheVariants.{StoringField as CopyStore, StoringEntry, RaisingTop}
use Rattle.mako_record.specs.declared.copier.CopyStage.TheVariants.{Ended as CopyEnded}
use Rattle.mako_alloc.specs.Allocating as allocating
use Rattle.mako_alloc.specs.Allocating.{Allocation, tablet_at}
use Rattle.mako_alloc.specs.declared.job.Job.{Job}
use Rattle.mako_alloc.specs.declared.progress.NewRecord.{NewRecord}
use Rattle.mako_alloc.specs.declared.progress.Part.TheVariants.{Header, Field, Top, Entry}
use Rattle.mako_alloc.specs.declared.progress.NewStage.{NewStage}
use Rattle.mako_alloc.specs.declared.progress.NewStage.TheVariants.{Arriving as NewArriving}
use Rattle.mako_alloc.specs.declared.progress.NewStage.TheVariants.{TurnedAway as NewTurnedAway}
use Rattle.mako_alloc.specs.declared.progress.NewStage.TheVariants.{TakingTurn as NewTakingTurn, LoadingLeaving}
use Rattle.mako_alloc.specs.declared.progress.NewStage.TheVariants.{LoadingTop, LoadingEntry as NewEntry}
use Rattle.mako_alloc.specs.declared.progress.NewStage.TheVariants.{LoadingHome as NewHome, Making}
use Rattle.mako_alloc.specs.declared.progress.NewStage.TheVariants.{GivingTurn as PassingTurn, Leaving as NewLeaving}
use Rattle.mako_alloc.specs.declared.progress.NewStage.TheVariants.{Ended as NewEnded}
use Rattle.mako_call.specs.Agreeing.{StageOf}
use Rattle.mako_call.specs.Calls as calling
use Rattle.mako_call.specs.Calls.{Calling}
use Rattle.mako_call.specs.declared.object.Errand.{Errand}
use Rattle.mako_call.specs.declared.call_stage.CallStage.{CallStage}
use Rattle.mako_call.specs.declared.call_stage.CallStage.TheVariants.{Arriving, Rooting, Entering, Moving, Getting}
use Rattle.mako_call.specs.declared.call_stage.CallStage.TheVariants.{Putting, Allocating, Asking, Leaving, Ended}
use Rattle.mako_call.specs.declared.moving.MoveStage.{MoveStage}
use Rattle.mako_call.specs.declared.moving.MoveStage.TheVariants.{TakingTurn, LoadingEntry as LoadingAgain}
use Rattle.mako_call.specs.declared.moving.MoveStage.TheVariants.{Copying as Copies, GivingTurn}
use Rattle.mako_call.specs.declared.allocating.AllocStage.TheVariants.{LoadingPhase as NewPhase, Searching, StoringRoot}
use Rattle.mako_call.specs.declared.allocating.AllocStage.TheVariants.{GivingTurn as GivingNewTurn}
use Rattle.mako_mutator.specs.declared.progress.Task.{Task}
use Rattle.mako_mutator.specs.declared.progress.Task.TheVariants.{Attempting, Awaiting, Finishing, Ended as TaskEnded}
use Rattle.mako_mutator.specs.Drivers as drivers
use Rattle.mako_mutator.specs.Drivers.{Driving, TaskIsKnown}
use Rattle.mako_layout.specs.Facets.{Work, fills, counts}
use Rattle.mako_layout.specs.Evacuations.{Fills, Counts, Knows, layout}
use Rattle.mako_layout.proofs.Entries.{address_fits}
use Rattle.mako_joint.specs.Joints.{JointScene, layout_in}
use Rattle.mako_seat.specs.declared.seat.Seat.{Seat}
use Rattle.mako_seat.specs.declared.seat.Seat.TheVariants.{Mutator}
use Rattle.mako_state.specs.Standings.{standing_of}
use Rattle.mako_state.specs.Works.{work_of, task_work, stage_work, copy_work, new_stage_work}
use Rattle.mako_mutating.specs.Mutators.{stepped, StageKeeps, TaskKeeps}
use Rattle.mako_making.proofs.Tasks.{only_asks}
use Rattle.mako_writes.proofs.Touching.{Leaves, looks, at_place, ends}
use Rattle.mako_sitting.specs.Seats.{AllSit, MutatorSits}
use Rattle.mako_sitting_mutators.proofs.MutatorMarks.{EntryChange, Still, Moves, Makes}
use Rattle.mako_sitting_mutators.proofs.MutatorQuiet.{attempt_leaves, wait_leaves, end_words, words_by}
use Rattle.mako_sitting_mutators.proofs.MutatorWords.{StoresTops}

-- all places but entries
abbrev NoEntry : Place → Type 0
NoEntry (entry x) = ⊥
NoEntry p = Unit {0}

-- ---- the stages of a copy and of a search that store no entry

abbrev CopiesOn : CopyStage → Type 0
CopiesOn (StoringEntry offset fields) = ⊥
CopiesOn s = Unit {0}

abbrev SearchesOn : NewStage → Type 0
SearchesOn (Making made Entry) = ⊥
SearchesOn s = Unit {0}

module _ (c : Copying) (known : copying.IsKnown c) where
  stored : (o v : ℕ) → o < c.shape.words → Leaves c.shape NoEntry (does (copied_to c.shape c.home o) (Store v))
  stored o v low = subst (λ i. Leaves c.shape NoEntry (does i (Store v))) (word_after c.shape c.home o)
      (at_place c.shape NoEntry (region_word c.home o) (Store v) (known.home, low) tt)

  copies_on : (s : CopyStage) → CopiesOn s → copying.StageIsKnown c.shape c.entry s
      → Leaves c.shape NoEntry (copying.copy_next c.shape c.number c.entry c.home s)
  copies_on CopyTop on k = looks c.shape NoEntry (index c.shape (top (tablet_of_entry c.shape c.number)))
  copies_on (CopyHeader offset) on k = looks c.shape NoEntry c.entry.address
  copies_on (StoringHeader offset fields) on k =
      stored offset fields (let room = k.room in let low : offset < c.shape.words = omega arith in low)
  copies_on (CopyField offset fields field) on k = looks c.shape NoEntry (c.entry.address + 1 + field)
  copies_on (CopyStore offset fields field word) on k =
      stored (offset + 1 + field) word (let room = k.0.room in let less = k.1 in
      let low : offset + 1 + field < c.shape.words = omega arith in low)
  copies_on (StoringEntry offset fields) on k = absurd on
  copies_on (RaisingTop offset fields) on k =
      at_place c.shape NoEntry (top (tablet_of_entry c.shape c.number)) (Store (offset + fields + 1))
      (belongings_in_range.entry c.shape c.number known.number) tt
  copies_on (CopyEnded address) on k = ends c.shape NoEntry

module _ (job : Job) (t : ℕ) (there : t < job.shape.servers * job.shape.tablets) where
  searches_on : (s : NewStage) → SearchesOn s → allocating.IsStageKnown job s
      → Leaves job.shape NoEntry (allocating.stage_next job t s)
  searches_on NewArriving on is = at_place job.shape NoEntry (tablet_gate t) _ there tt
  searches_on NewTurnedAway on is = at_place job.shape NoEntry (tablet_gate t) _ there tt
  searches_on NewTakingTurn on is = at_place job.shape NoEntry (turn t) _ there tt
  searches_on LoadingLeaving on is = looks job.shape NoEntry _
  searches_on LoadingTop on is = looks job.shape NoEntry _
  searches_on (NewEntry kept place) on is = looks job.shape NoEntry _
  searches_on (NewHome kept name) on is = looks job.shape NoEntry _
  searches_on (Making made Header) on is =
      let room = is.0.room in
      at_place job.shape NoEntry (region_word made.home (made.top + 0)) _ (is.0.home, omega arith) tt
  searches_on (Making made (Field i)) on is =
      let room = is.0.room in
      let low = is.1 in
      at_place job.shape NoEntry (region_word made.home (made.top + (i + 1))) _ (is.0.home, omega arith) tt
  searches_on (Making made Top) on is = at_place job.shape NoEntry (top t) _ there tt
  searches_on (Making made Entry) on is = absurd on
  searches_on PassingTurn on is = at_place job.shape NoEntry (turn t) _ there tt
  searches_on NewLeaving on is = at_place job.shape NoEntry (tablet_gate t) _ there tt
  searches_on (NewEnded found) on is = ends job.shape NoEntry

module _ (n : Numbers) (w : Facts) (s : JointScene) (seats : List Seat) (m : ℕ) (d : Driving)
    (all : AllSit n w s seats) (here : slice_get seats m ≡ Some (Mutator d)) (act : IsAct (drivers.next_of d)) where
  sits : MutatorSits n w s (all.places m) m d
  sits = all.each m (Mutator d) here

  abbrev Changes : Type 0
  Changes = EntryChange n s.front.history s.words (stepped s m d).words

  module _ (c : Calling) (is : d.progress.task ≡ Attempting c) where
    known : calling.IsKnown c
    known = (subst (TaskIsKnown d.caller d.calls d.progress.done) is sits.keeps.known.progress.task).known

    shape : c.caller.shape ≡ n
    shape =
        ap (λ k. k.shape) (subst (TaskIsKnown d.caller d.calls d.progress.done) is sits.keeps.known.progress.task).same
        ∙ sits.keeps.shape

    -- where its stage stores no top
    plain : (StoresTops c.stage → ⊥) → Changes
    plain none =
        Still (stepped s m d).words
        (λ x within. attempt_leaves n w s seats m d all here act c is (entry x) within none)

    knows : (job : Work) → stage_work c.caller.shape c.stage ≡ job
        → Knows n (layout n (layout_in n w s)) (layout_in n w s).words (mutator_at m (standing_of d)) job
    knows job at =
        subst (Knows n (layout n (layout_in n w s)) (layout_in n w s).words (mutator_at m (standing_of d)))
        (ap task_work is ∙ at)
        (all.joint.layout.knows m (mutator_at m (standing_of d)) (work_of d) sits.seen.gate sits.seen.work)

    -- the words after its step
    words_at : (st : CallStage) → c.stage ≡ st
        → words_stepped (calling.stage_next c.caller c.slot st) s.words ≡ (stepped s m d).words
    words_at st at =
        ap (λ t. words_stepped (calling.stage_next c.caller c.slot t) s.words) (sym at)
        ∙ words_by n w s seats m d all here act (Attempting c) is

    -- its stage stores no entry
    on_stage : (st : CallStage) → c.stage ≡ st
        → Leaves c.caller.shape NoEntry (calling.stage_next c.caller c.slot st) → Changes
    on_stage st at leaves =
        subst (EntryChange n s.front.history s.words) (words_at st at)
        (Still (words_stepped (calling.stage_next c.caller c.slot st) s.words)
        (λ x within. (subst (λ j. Leaves j NoEntry (calling.stage_next c.caller c.slot st)) shape leaves).rest s.words
        (entry x) within (λ z. z)))

    copies : (e : Errand) (k : Copying) → c.stage ≡ Moving e (Copies k) → CopiesOn k.stage → Changes
    copies e k at on =
        let own = subst (calling.StageIsKnown c.caller) at known.stage in
        on_stage (Moving e (Copies k)) at
        (subst (λ j. Leaves j NoEntry (copying.next_of k)) own.1.2 (copies_on k own.1.0 k.stage on own.1.0.stage))

    searches : (q : ℕ) (a : Allocation) → c.stage ≡ Allocating (Searching q a) → SearchesOn a.progress.stage → Changes
    searches q a at on =
        let own = subst (calling.StageIsKnown c.caller) at known.stage in
        let there : tablet_at a.job a.progress.passed < a.job.shape.servers * a.job.shape.tablets =
        mod_below (a.job.mutator + a.progress.passed) (allocating.all_tablets a.job.shape)
        (let passed = own.1.passed in omega arith) in
        on_stage (Allocating (Searching q a)) at
        (subst (λ j. Leaves j NoEntry (allocating.next_of a)) own.3
        (searches_on a.job (tablet_at a.job a.progress.passed) there a.progress.stage on own.1.stage))

    -- ---- a copy stores its address
    module _ (e : Errand) (k : Copying) (at : c.stage ≡ Moving e (Copies k)) (o f : ℕ) (st : k.stage ≡ StoringEntry o f)
      where
        abbrev x : ℕ
        x = e.object.entry

        copier : copying.IsKnown k × (k.shape ≡ n) × (k.number ≡ x)
        copier =
            let own = subst (calling.StageIsKnown c.caller) at known.stage in
            let task = subst (TaskKeeps n (state_of w s.front.history) s.words m) is sits.keeps.counts in
            let keeps = subst (StageKeeps n (state_of w s.front.history) s.words m c.slot) at task in
            (own.1.0, own.1.2 ∙ shape, keeps.0)

        fills_it : Fills n (layout n (layout_in n w s)) (layout_in n w s).words (mutator_at m (standing_of d)) x k.entry
            k.home o (f + 1)
        fills_it = knows (fills x k.entry k.home o (f + 1))
            (ap (stage_work c.caller.shape) at ∙ ap (copy_work x k.entry k.home) st)

        abbrev copied_at : ℕ
        copied_at = copied_to k.shape k.home o

        abbrev moved : EntryWord
        moved = record k.entry { address = copied_at }

        fits : FitsEntry moved
        fits =
            let copy = subst (copying.StageIsKnown k.shape k.entry) st copier.0.stage in
            let room = copy.room in record {
              address = subst (λ z. z < 2 ^ 23) (word_after k.shape k.home o)
                  (address_fits k.shape k.home o copier.0.home (omega arith) copier.0.shape);
              epoch = copier.0.fits.epoch;
              generation = copier.0.fits.generation;
            }

        is_moved : entry_at (entry_word moved) ≡ record (entry_of n s.words x) { address = copied_at }
        unfolding entry_of
        is_moved =
            let found = fills_it.as_found in
            entry_at-entry_word moved fits
            ∙ (λ i. record {
              taken = sym found.taken i;
              generation = sym found.generation i;
              epoch = sym found.epoch i;
              address = copied_at;
            })

        pub moves : Changes
        moves =
            subst (EntryChange n s.front.history s.words)
            ((λ i. set s.words (index (sym copier.1 i) (entry (sym copier.2 i))) (entry_word moved))
            ∙ ap (λ t. words_stepped (copying.copy_next k.shape k.number k.entry k.home t) s.words) (sym st)
            ∙ words_at (Moving e (Copies k)) at)
            (Moves x (entry_word moved) copied_at fills_it.inside is_moved)

    -- ---- a new stores the entry of its object
    module _ (q : ℕ) (a : Allocation) (at : c.stage ≡ Allocating (Searching q a)) (made : NewRecord)
        (st : a.progress.stage ≡ Making made Entry) where
      job : allocating.IsKnown a.job a.progress × (a.job.shape ≡ n)
      job =
          let own = subst (calling.StageIsKnown c.caller) at known.stage in (own.1, own.3 ∙ shape)

      counts_it : Counts n (layout n (layout_in n w s)) (layout_in n w s).words (mutator_at m (standing_of d)) made.name
          made.home made.top (a.job.fields + 1)
      counts_it = knows (counts made.name made.home made.top (a.job.fields + 1))
          (ap (stage_work c.caller.shape) at ∙ ap (new_stage_work a.job (tablet_at a.job a.progress.passed)) st)

      abbrev made_entry : EntryWord
      made_entry = record {
        taken = true;
        generation = made.name.generation;
        epoch = a.job.cycle;
        address = index a.job.shape (region_word made.home (made.top + 0));
      }

      made_fits : FitsEntry made_entry
      made_fits =
          let own = subst (allocating.IsStageKnown a.job) st job.0.stage in
          let room = own.0.room in
          let numbers = job.0.numbers in
          let ranges = numbers.shape.in_range.each in
          let cycle = numbers.cycle in
          let generation = own.0.name.1 in record {
            address = address_fits a.job.shape made.home (made.top + 0) own.0.home (omega arith) numbers.shape;
            epoch = omega arith;
            generation = omega arith;
          }

      free : (entry_of n s.words made.name.entry).taken ≡ false
      unfolding entry_of
      free = counts_it.makes.free

      same_generation : (entry_of n s.words made.name.entry).generation ≡ made.name.generation
      unfolding entry_of
      same_generation = counts_it.makes.generation

      is_new : Contains (names_made s.front.history) made.name → ⊥
      is_new =
          let settled = settled_of (phase_of n s.words) in
          let stands = all.joint.names.hold.table.entries made.name.entry counts_it.makes.inside in
          let lawful = all.joint.names.hold.answers.lawful in
          let none : EntryStands w s.front settled made.name.entry false made.name.generation =
          subst (λ g. EntryStands w s.front settled made.name.entry false g) same_generation
          (subst (λ b. EntryStands w s.front settled made.name.entry b (entry_of n s.words made.name.entry).generation)
          free stands) in
          free_is_new w s.front settled made.name.entry made.name.generation (names_in_order w s.front lawful) none

      pub makes : Changes
      makes =
          subst (EntryChange n s.front.history s.words)
          ((λ i. set s.words (index (sym job.1 i) (entry made.name.entry)) (entry_word made_entry))
          ∙ ap (λ t. words_stepped (allocating.stage_next a.job (tablet_at a.job a.progress.passed) t) s.words) (sym st)
          ∙ words_at (Allocating (Searching q a)) at)
          (Makes made.name (entry_word made_entry) counts_it.makes.inside free is_new
          (ap (λ (z : EntryWord). z.generation) (entry_at-entry_word made_entry made_fits)))

    -- ---- by the stage of its attempt
    copy_change : (e : Errand) (k : Copying) → c.stage ≡ Moving e (Copies k) → (st : CopyStage) → k.stage ≡ st → Changes
    copy_change e k at (StoringEntry o f) st = moves e k at o f st
    copy_change e k at CopyTop st = copies e k at (subst CopiesOn (sym st) tt)
    copy_change e k at (CopyHeader offset) st = copies e k at (subst CopiesOn (sym st) tt)
    copy_change e k at (StoringHeader offset fields) st = copies e k at (subst CopiesOn (sym st) tt)
    copy_change e k at (CopyField offset fields field) st = copies e k at (subst CopiesOn (sym st) tt)
    copy_change e k at (CopyStore offset fields field word) st = copies e k at (subst CopiesOn (sym st) tt)
    copy_change e k at (RaisingTop offset fields) st = copies e k at (subst CopiesOn (sym st) tt)
    copy_change e k at (CopyEnded address) st = copies e k at (subst CopiesOn (sym st) tt)

    search_change : (q : ℕ) (a : Allocation) → c.stage ≡ Allocating (Searching q a) → (st : NewStage)
        → a.progress.stage ≡ st → Changes
    search_change q a at (Making made Entry) st = makes q a at made st
    search_change q a at (Making made Header) st = searches q a at (subst SearchesOn (sym st) tt)
    search_change q a at (Making made (Field i)) st = searches q a at (subst SearchesOn (sym st) tt)
    search_change q a at (Making made Top) st = searches q a at (subst SearchesOn (sym st) tt)
    search_change q a at NewArriving st = searches q a at (subst SearchesOn (sym st) tt)
    search_change q a at NewTurnedAway st = searches q a at (subst SearchesOn (sym st) tt)
    search_change q a at NewTakingTurn st = searches q a at (subst SearchesOn (sym st) tt)
    search_change q a at LoadingLeaving st = searches q a at (subst SearchesOn (sym st) tt)
    search_change q a at LoadingTop st = searches q a at (subst SearchesOn (sym st) tt)
    search_change q a at (NewEntry kept place) st = searches q a at (subst SearchesOn (sym st) tt)
    search_change q a at (NewHome kept name) st = searches q a at (subst SearchesOn (sym st) tt)
    search_change q a at PassingTurn st = searches q a at (subst SearchesOn (sym st) tt)
    search_change q a at NewLeaving st = searches q a at (subst SearchesOn (sym st) tt)
    search_change q a at (NewEnded found) st = searches q a at (subst SearchesOn (sym st) tt)

    low_object : (e : Errand) (t : MoveStage) → c.stage ≡ Moving e t
        → tablet_of_entry c.caller.shape e.object.entry < c.caller.shape.servers * c.caller.shape.tablets
    low_object e t at =
        let own = subst (calling.StageIsKnown c.caller) at known.stage in
        belongings_in_range.entry c.caller.shape e.object.entry own.0.0.1

    own_root : (q : ℕ) → q < c.caller.shape.roots → Within c.caller.shape (root c.caller.mutator q)
    own_root q low = (known.caller.mutator, low)

    change : (st : CallStage) → c.stage ≡ st → Changes
    change Arriving at = plain (λ may. subst StoresTops at may)
    change (Rooting s) at = plain (λ may. subst StoresTops at may)
    change (Entering e s) at = plain (λ may. subst StoresTops at may)
    change (Moving e (TakingTurn home)) at =
        on_stage (Moving e (TakingTurn home)) at
        (at_place c.caller.shape NoEntry (turn (tablet_of_entry c.caller.shape e.object.entry)) _
        (low_object e (TakingTurn home) at) tt)
    change (Moving e (LoadingAgain home)) at =
        on_stage (Moving e (LoadingAgain home)) at (looks c.caller.shape NoEntry _)
    change (Moving e (Copies k)) at = copy_change e k at k.stage refl
    change (Moving e (GivingTurn address)) at =
        on_stage (Moving e (GivingTurn address)) at
        (at_place c.caller.shape NoEntry (turn (tablet_of_entry c.caller.shape e.object.entry)) _
        (low_object e (GivingTurn address) at) tt)
    change (Getting l get s) at = plain (λ may. subst StoresTops at may)
    change (Putting l put s) at = plain (λ may. subst StoresTops at may)
    change (Allocating (NewPhase q fields)) at =
        on_stage (Allocating (NewPhase q fields)) at (looks c.caller.shape NoEntry _)
    change (Allocating (Searching q a)) at = search_change q a at a.progress.stage refl
    change (Allocating (StoringRoot q name t)) at =
        let own = subst (calling.StageIsKnown c.caller) at known.stage in
        on_stage (Allocating (StoringRoot q name t)) at
        (at_place c.caller.shape NoEntry (root c.caller.mutator q) _ (own_root q own.0) tt)
    change (Allocating (GivingNewTurn name t)) at =
        let own = subst (calling.StageIsKnown c.caller) at known.stage in
        on_stage (Allocating (GivingNewTurn name t)) at (at_place c.caller.shape NoEntry (turn t) _ own tt)
    change (Asking s) at = plain (λ may. subst StoresTops at may)
    change (Leaving s) at = plain (λ may. subst StoresTops at may)
    change (Ended outcome) at = plain (λ may. subst StoresTops at may)

  -- ---- by its task
  task_change : (t : Task) → d.progress.task ≡ t → Changes
  task_change (Attempting c) is = change c is c.stage refl
  task_change (Awaiting c) is =
      let wait = subst (TaskIsKnown d.caller d.calls d.progress.done) is sits.keeps.known.progress.task in
      let asks = only_asks c.caller.shape c.stage
      (subst (λ q. StageOf c.caller.shape q c.stage) wait.collects wait.known.agrees) wait.open_ in
      Still (stepped s m d).words
      (λ x within. wait_leaves n w s seats m d all here act c is (entry x) within (λ may. subst StoresTops asks.is may))
  task_change Finishing is =
      Still (stepped s m d).words
      (λ x within. ap (λ us. word_at n us (entry x)) (end_words n w s seats m d all here act is)
      ∙ word_other n s.words finished (entry x) (after_op (Add 1) (word_at n s.words finished)) tt within
      (λ e. (let c : ⊥ = cc in c)))
  task_change TaskEnded is = absurd (subst (λ t. IsAct (drivers.task_next d.caller t)) is act)

  pub entries_change : Changes
  entries_change = task_change d.progress.task refl
