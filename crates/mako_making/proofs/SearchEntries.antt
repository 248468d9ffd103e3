-- The steps of a search that look at the entries of a tablet, and keep its home.
use Rattle.std.proofs.Common.{◌≡◌, ℕ, ◌+◌, ◌*◌, ◌<◌, ◌≤◌, ◌⊎◌, inl, inr, ⊎_elim, true, false, if◌then◌else◌, set}
use Rattle.std.proofs.Common.{Option, Some, None, sym, ap, subst, refl, ◌∙◌, arith}
use Rattle.mako_words.specs.declared.name.Name.{Name}
use Rattle.mako_words.specs.Entries.{entry_at}
use Rattle.mako_shape.specs.Places.{entry, home, index, word_at}
use Rattle.mako_shape.specs.Belongings.{tablet_of_entry}
use Rattle.mako_gate.specs.Standings.{with_turn, mutator_at}
use Rattle.mako_step.proofs.Cases.{by_lt, by_bool}
use Rattle.mako_model.specs.declared.attempt.Pause.{Pause as Reason}
use Rattle.mako_alloc.specs.Allocating as allocating
use Rattle.mako_alloc.specs.Seen.{IsUsed}
use Rattle.mako_alloc.specs.declared.progress.NewStage.{NewStage}
use Rattle.mako_alloc.specs.declared.progress.NewStage.TheVariants.{LoadingEntry as NewEntry, LoadingHome as NewHome}
use Rattle.mako_alloc.specs.declared.progress.NewStage.TheVariants.{Making, GivingTurn as PassingTurn}
use Rattle.mako_alloc.specs.declared.progress.NewRecord.{NewRecord}
use Rattle.mako_alloc.specs.declared.progress.Part.TheVariants.{Header}
use Rattle.mako_alloc.proofs.Frees.{by_entry}
use Rattle.mako_names.specs.Steps.{NamesHoldIn, AttemptStep, Sees, GoesOver, Forgets, HasNoRoom, looked_at}
use Rattle.mako_names.specs.Tables.{entry_of}
use Rattle.mako_names.specs.Trying as trying
use Rattle.mako_layout.specs.Facets.{Work, tops, finds, makes}
use Rattle.mako_layout.specs.Evacuations.{Evacuation}
use Rattle.mako_layout.specs.Steps.Step.{skip_entry, find_entry, begin_new}
use Rattle.mako_layout.proofs.EachStep.{each_step_keeps}
use Rattle.mako_layout.proofs.Debts.{counted_pos}
use Rattle.mako_joint.specs.Joints.{layout_in}
use Rattle.mako_mutating.specs.Mutators.{IsSeen}
use Rattle.mako_making.proofs.Placed.{NextKeeps}
use Rattle.mako_making.proofs.SeatKinds.{laid}
use Rattle.mako_making.proofs.Searches.{y, job, seeking, on, present, know, own, AtStage, low_tablet, on_to, progress}
use Rattle.mako_making.proofs.SearchTablets.{entry_in, entry_of_tablet, tablet_is, gives_up}
use Rattle.mako_making.proofs.Seeking.{knowing, as_before, learns_of, learns_both, learns_now, loads}
use Rattle.mako_making.proofs.Trials.{Trial, driver, Goal, load_goal, left}

module _ (x : Trial) (q f c passed : ℕ) where
  abbrev t : ℕ
  t = present x q f c passed

  -- ---- an entry
  module _ (kept place : ℕ) where
    abbrev e : ℕ
    e = t * x.n.entries + place

    abbrev stage : NewStage
    stage = NewEntry kept place

    abbrev held : Work
    held = tops e kept (f + 1)

    -- the entry, as the names' last attempts look at it
    looked_is : looked_at x.w x.m passed place ≡ e
    looked_is i = tablet_is x q f c passed i * x.joint.script.facts.entries i + place

    no_room : IsUsed x.n (word_at x.n x.s.words (entry e))
        → HasNoRoom x.w (entry_of x.n x.s.words (looked_at x.w x.m passed place))
    unfolding entry_of
    no_room used =
        let g = x.joint.script.facts.generations in
        let here = entry_at (word_at x.n x.s.words (entry e)) in
        subst (λ k. HasNoRoom x.w (entry_at (word_at x.n x.s.words (entry k)))) (sym looked_is)
        (by_bool (λ b. (here.taken ≡ b) → (here.taken ≡ true) ⊎ ((here.taken ≡ false) × (x.w.generations
        ≤ here.generation))) here.taken
        (λ yes_ same. inl yes_)
        (λ no_ same. ⊎_elim (λ taken. inl taken)
        (λ spent. inr (no_, (let d : x.w.generations ≤ here.generation = omega arith in d))) used) refl)

    -- it has seen one entry more, and with the last it has gone over the tablet
    seen_names : (note : Option Reason) (here : IsSeen x.s x.m (own x q f c passed note stage (left (y x q f c))))
        → place < x.n.entries → IsUsed x.n (word_at x.n x.s.words (entry e))
        → NamesHoldIn x.n x.w (knowing x.n x.w x.s x.joint x.m x.low (with_turn t) held
        (know x q f c passed note stage) (left (y x q f c)) here (know x q f c passed note (NewEntry kept (place + 1))))
    seen_names None here less used =
        learns_of x.n x.w x.s x.joint x.m x.low (with_turn t) held (know x q f c passed None stage) (left (y x q f c))
        here q f passed place passed (place + 1) x.last refl
        (Sees f passed place (let g = x.joint.script.facts.entries in omega arith) (no_room used))
    seen_names (Some o) here less used =
        as_before x.n x.w x.s x.joint x.m x.low (with_turn t) held (know x q f c passed (Some o) stage)
        (left (y x q f c)) here

    gone_names : (note : Option Reason) (here : IsSeen x.s x.m (own x q f c passed note stage (left (y x q f c))))
        → place + 1 ≡ x.n.entries → IsUsed x.n (word_at x.n x.s.words (entry e))
        → NamesHoldIn x.n x.w (knowing x.n x.w x.s x.joint x.m x.low (with_turn t) held
        (know x q f c passed note stage) (left (y x q f c)) here (know x q f c passed note PassingTurn))
    gone_names None here last used =
        let z = knowing x.n x.w x.s x.joint x.m x.low (with_turn t) held (know x q f c passed None stage)
        (left (y x q f c)) here (trying.Last f passed (place + 1)) in
        let all : x.w.entries ≡ place + 1 = x.joint.script.facts.entries ∙ sym last in
        learns_both x.n x.w x.s x.joint x.m x.low (with_turn t) held (know x q f c passed None stage)
        (left (y x q f c)) here q f passed place (passed + 1) 0 x.last passed (place + 1) refl
        (Sees f passed place (omega arith) (no_room used))
        (subst (λ k. AttemptStep x.n x.w z x.m (trying.Last f passed k)
        (trying.Last f (passed + 1) 0)) all (GoesOver f passed))
    gone_names (Some o) here last used =
        as_before x.n x.w x.s x.joint x.m x.low (with_turn t) held (know x q f c passed (Some o) stage)
        (left (y x q f c)) here

    -- it makes a free entry its own
    found_names : (name : Name) (note : Option Reason)
        (here : IsSeen x.s x.m (own x q f c passed note stage (left (y x q f c))))
        → NamesHoldIn x.n x.w (knowing x.n x.w x.s x.joint x.m x.low (with_turn t) held
        (know x q f c passed note stage) (left (y x q f c)) here (know x q f c passed note (NewHome kept name)))
    found_names name None here =
        learns_now x.n x.w x.s x.joint x.m x.low (with_turn t) held (know x q f c passed None stage)
        (left (y x q f c)) here trying.Nothing (Forgets (know x q f c passed None stage))
    found_names name (Some o) here =
        learns_now x.n x.w x.s x.joint x.m x.low (with_turn t) held (know x q f c passed (Some o) stage)
        (left (y x q f c)) here trying.Nothing (Forgets (know x q f c passed (Some o) stage))

    module _ (note : Option Reason) (at : AtStage x q f c passed note stage) where
      less : place < x.n.entries
      less = at.known.progress.task.known.stage.1.stage.1

      found : (generation : ℕ) → (entry_at (word_at x.n x.s.words (entry e))).taken ≡ false
          → (entry_at (word_at x.n x.s.words (entry e))).generation ≡ generation
          → Goal (y x q f c) (seeking x q f c passed note stage)
          (seeking x q f c passed note (NewHome kept (record { entry = e; generation = generation }))) x.s.words
      found generation free is =
          let name : Name = record { entry = e; generation = generation } in
          on_to x q f c passed note stage at passed note (NewHome kept name) x.s.words refl tt
          (loads x.n x.w x.s x.joint x.m x.low (with_turn t) held (know x q f c passed note stage)
          (left (y x q f c)) at.here (finds name kept (f + 1)) (know x q f c passed note (NewHome kept name)) refl
          (λ r. r) (found_names name note at.here)
          (each_step_keeps x.n x.joint.script.shape (layout_in x.n x.w x.s) x.m _ x.joint.layout
          (find_entry x.m name kept (f + 1) (mutator_at x.m (with_turn t))
          (record { gate = at.here.gate; work = at.here.work }) free is)))

      skipped : IsUsed x.n (word_at x.n x.s.words (entry e)) → place + 1 < x.n.entries
          → Goal (y x q f c) (seeking x q f c passed note stage)
          (seeking x q f c passed note (NewEntry kept (place + 1))) x.s.words
      skipped used more =
          let low = low_tablet x q f c passed note stage at in
          let same : t * x.n.entries + (place + 1) ≡ e + 1 = omega arith in
          on_to x q f c passed note stage at passed note (NewEntry kept (place + 1)) x.s.words refl tt
          (loads x.n x.w x.s x.joint x.m x.low (with_turn t) held (know x q f c passed note stage)
          (left (y x q f c)) at.here (tops (t * x.n.entries + (place + 1)) kept (f + 1))
          (know x q f c passed note (NewEntry kept (place + 1))) refl (λ r. r) (seen_names note at.here less used)
          (subst (λ k. Evacuation x.n (laid x.n x.w x.s x.s.words x.s.front x.s.facets.gates
          (set x.s.facets.works x.m (tops k kept (f + 1))))) (sym same)
          (each_step_keeps x.n x.joint.script.shape (layout_in x.n x.w x.s) x.m _ x.joint.layout
          (skip_entry x.m e kept (f + 1) (mutator_at x.m (with_turn t))
          (record { gate = at.here.gate; work = at.here.work })
          (subst (λ k. k < x.n.servers * x.n.tablets * x.n.entries) same
          (entry_in x q f c passed (place + 1) low more))
          (ap (tablet_of_entry x.n) (sym same) ∙ entry_of_tablet x q f c passed (place + 1) more
          ∙ sym (entry_of_tablet x q f c passed place less))))))

      pub entry_loaded : NextKeeps x.n x.w x.s x.m (driver (y x q f c) (seeking x q f c passed note stage))
      entry_loaded =
          let z = y x q f c in
          let v = word_at x.n x.s.words (entry e) in
          load_goal z (seeking x q f c passed note stage)
          (on x q f c (progress x q f c passed note (allocating.entry_fed (job x q f c) t kept place
          (allocating.free_generation x.n.generations v)))) (index x.n (entry e))
          (by_entry (λ o. Goal z (seeking x q f c passed note stage)
          (on x q f c (progress x q f c passed note (allocating.entry_fed (job x q f c) t kept place o))) x.s.words)
          x.n v
          (λ used. by_lt (λ b. Goal z (seeking x q f c passed note stage)
          (on x q f c (progress x q f c passed note (if b then NewEntry kept (place + 1) else PassingTurn)))
          x.s.words) (place + 1) x.n.entries
          (λ more. skipped used more)
          (λ last. on_to x q f c passed note stage at passed note PassingTurn x.s.words refl tt
          (gives_up x q f c passed note stage held at.here (know x q f c passed note PassingTurn)
          (gone_names note at.here (let d = less in omega arith) used) (λ k. (refl, refl)))))
          (λ generation is. found generation is.free is.generation_is))

  -- ---- the home
  home_names : (kept : ℕ) (name : Name) (made : NewRecord) (note : Option Reason)
      (here : IsSeen x.s x.m (own x q f c passed note (NewHome kept name) (left (y x q f c))))
      → NamesHoldIn x.n x.w (knowing x.n x.w x.s x.joint x.m x.low (with_turn t) (finds name kept (f + 1))
      (know x q f c passed note (NewHome kept name)) (left (y x q f c)) here
      (know x q f c passed note (Making made Header)))
  home_names kept name made None here =
      as_before x.n x.w x.s x.joint x.m x.low (with_turn t) (finds name kept (f + 1))
      (know x q f c passed None (NewHome kept name)) (left (y x q f c)) here
  home_names kept name made (Some o) here =
      as_before x.n x.w x.s x.joint x.m x.low (with_turn t) (finds name kept (f + 1))
      (know x q f c passed (Some o) (NewHome kept name)) (left (y x q f c)) here

  pub home_loaded : (kept : ℕ) (name : Name) (note : Option Reason)
      → AtStage x q f c passed note (NewHome kept name)
      → NextKeeps x.n x.w x.s x.m (driver (y x q f c) (seeking x q f c passed note (NewHome kept name)))
  home_loaded kept name note at =
      let s = NewHome kept name in
      let z = y x q f c in
      let made : NewRecord = record { name = name; home = word_at x.n x.s.words (home t); top = kept } in
      let finding = x.joint.layout.knows x.m (mutator_at x.m (with_turn t)) (finds name kept (f + 1)) at.here.gate
      at.here.work in
      let of : t ≡ tablet_of_entry x.n name.entry = counted_pos t (tablet_of_entry x.n name.entry) 1
      (let h = finding.tops.asks.turn in omega arith) in
      load_goal z (seeking x q f c passed note s) (seeking x q f c passed note (Making made Header))
      (index x.n (home t))
      (on_to x q f c passed note s at passed note (Making made Header) x.s.words refl tt
      (loads x.n x.w x.s x.joint x.m x.low (with_turn t) (finds name kept (f + 1)) (know x q f c passed note s)
      (left z) at.here (makes name (word_at x.n x.s.words (home t)) kept (f + 1) 0)
      (know x q f c passed note (Making made Header)) refl (λ r. r) (home_names kept name made note at.here)
      (subst (λ k. Evacuation x.n (laid x.n x.w x.s x.s.words x.s.front x.s.facets.gates
      (set x.s.facets.works x.m (makes name (word_at x.n x.s.words (home k)) kept (f + 1) 0)))) (sym of)
      (each_step_keeps x.n x.joint.script.shape (layout_in x.n x.w x.s) x.m _ x.joint.layout
      (begin_new x.m name kept (f + 1) (mutator_at x.m (with_turn t))
      (record { gate = at.here.gate; work = at.here.work }))))))
