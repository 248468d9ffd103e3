-- The steps of a search that find room in a tablet and an entry of it, or none.
use Rattle.std.proofs.Common.{◌≡◌, ℕ, ◌+◌, ◌*◌, ◌%◌, ◌<◌, ◌≤◌, ◌==◌, if◌then◌else◌, set, Option, Some, None, sym, ap}
use Rattle.std.proofs.Common.{subst, refl, ◌∙◌, arith, eq-eqb}
use Rattle.mako_shape.specs.Places.{top, leaving, index, word_at}
use Rattle.mako_shape.specs.Belongings.{tablet_of_entry}
use Rattle.mako_shape.proofs.BelongingLaws.{parts_belong}
use Rattle.mako_gate.specs.Sums.{counted}
use Rattle.mako_gate.specs.Standings.{with_turn, mutator_at, holds_turn}
use Rattle.mako_step.proofs.Cases.{by_lt, by_le, by_eq}
use Rattle.mako_model.specs.declared.attempt.Pause.{Pause as Reason}
use Rattle.mako_model.specs.declared.attempt.Pause.TheVariants.{Moving as BeingMoved}
use Rattle.mako_model.specs.Starved.{words_made}
use Rattle.mako_alloc.specs.Allocating as allocating
use Rattle.mako_alloc.specs.Allocating.{first, noted}
use Rattle.mako_alloc.specs.declared.progress.NewStage.{NewStage}
use Rattle.mako_alloc.specs.declared.progress.NewStage.TheVariants.{LoadingLeaving, LoadingTop}
use Rattle.mako_alloc.specs.declared.progress.NewStage.TheVariants.{LoadingEntry as NewEntry, GivingTurn as PassingTurn}
use Rattle.mako_names.specs.Steps.{NamesHoldIn, Notes, Lacks, LacksWords}
use Rattle.mako_names.specs.Trying as trying
use Rattle.mako_names.specs.Trying.{Trying}
use Rattle.mako_layout.specs.Facets.{Work, idle, asks, tops}
use Rattle.mako_layout.specs.Evacuations.{Evacuation}
use Rattle.mako_layout.specs.Evacuations as evacuations
use Rattle.mako_layout.specs.StepParts.{OwesNothing}
use Rattle.mako_layout.specs.Steps.Step.{load_leaving, load_room, forget}
use Rattle.mako_layout.proofs.EachStep.{each_step_keeps}
use Rattle.mako_layout.proofs.Debts.{filled_is}
use Rattle.mako_joint.specs.Joints.{Joint, layout_in}
use Rattle.mako_mutating.specs.Mutators.{IsSeen, with_view}
use Rattle.mako_making.proofs.Placed.{NextKeeps}
use Rattle.mako_making.proofs.SeatKinds.{laid}
use Rattle.mako_making.proofs.Searches.{y, job, seeking, on, present, know, own, AtStage, low_tablet, on_to, progress}
use Rattle.mako_making.proofs.Seeking.{in_with, knowing, as_before, learns_of, loads, looks}
use Rattle.mako_making.proofs.Trials.{Trial, driver, Goal, load_goal, left}

same_turn : (t : ℕ) → 1 ≤ counted (t == t) 1
same_turn t = let e : counted (t == t) 1 ≡ 1 = ap (λ b. counted b 1) (eq-eqb t t refl) in omega arith

module _ (x : Trial) (q f c passed : ℕ) where
  abbrev t : ℕ
  t = present x q f c passed

  -- the tablet, as the facts of the script have it
  pub tablet_is : trying.tablet_at x.w x.m passed ≡ t
  tablet_is = ap (λ k. (x.m + passed) % k) x.joint.script.facts.tablets

  pub entry_in : (place : ℕ) → t < x.n.servers * x.n.tablets → place < x.n.entries
      → t * x.n.entries + place < x.n.servers * x.n.tablets * x.n.entries
  entry_in place low less = parts_belong.entry_in_range x.n t place low less

  pub entry_of_tablet : (place : ℕ) → place < x.n.entries → tablet_of_entry x.n (t * x.n.entries + place) ≡ t
  entry_of_tablet place less = parts_belong.entry x.n t place less

  pub some_entries : 0 < x.n.entries
  some_entries = let e = x.joint.script.shape.in_range.each in omega (arith, e)

  module _ (note : Option Reason) (r : NewStage) (u : Work)
      (here : IsSeen x.s x.m (in_with (with_turn t) u (know x q f c passed note r) (left (y x q f c)))) where
    seat : evacuations.Seat (layout_in x.n x.w x.s) x.m (mutator_at x.m (with_turn t)) u
    seat = record { gate = here.gate; work = here.work }

    -- it lets go of what it has in hand
    pub gives_up : (v : Trying)
        → NamesHoldIn x.n x.w (knowing x.n x.w x.s x.joint x.m x.low (with_turn t) u (know x q f c passed note r)
        (left (y x q f c)) here v)
        → OwesNothing x.n u
        → Joint x.n x.w (with_view x.s x.m x.s.words x.s.front (in_with (with_turn t) idle v (left (y x q f c))))
    gives_up v names owes =
        loads x.n x.w x.s x.joint x.m x.low (with_turn t) u (know x q f c passed note r) (left (y x q f c)) here idle v
        refl (λ e. e) names
        (each_step_keeps x.n x.joint.script.shape (layout_in x.n x.w x.s) x.m _ x.joint.layout
        (forget x.m (mutator_at x.m (with_turn t)) u seat owes))

  -- ---- leaving
  stays_names : (note : Option Reason)
      (here : IsSeen x.s x.m (own x q f c passed note LoadingLeaving (left (y x q f c))))
      → NamesHoldIn x.n x.w (knowing x.n x.w x.s x.joint x.m x.low (with_turn t) idle
      (know x q f c passed note LoadingLeaving) (left (y x q f c)) here (know x q f c passed note LoadingTop))
  stays_names None here =
      as_before x.n x.w x.s x.joint x.m x.low (with_turn t) idle (know x q f c passed None LoadingLeaving)
      (left (y x q f c)) here
  stays_names (Some o) here =
      as_before x.n x.w x.s x.joint x.m x.low (with_turn t) idle (know x q f c passed (Some o) LoadingLeaving)
      (left (y x q f c)) here

  moves_names : (note : Option Reason) (reason : Reason)
      (here : IsSeen x.s x.m (own x q f c passed note LoadingLeaving (left (y x q f c))))
      → NamesHoldIn x.n x.w (knowing x.n x.w x.s x.joint x.m x.low (with_turn t) idle
      (know x q f c passed note LoadingLeaving) (left (y x q f c)) here
      (know x q f c passed (first note reason) PassingTurn))
  moves_names None reason here =
      learns_of x.n x.w x.s x.joint x.m x.low (with_turn t) idle (know x q f c passed None LoadingLeaving)
      (left (y x q f c)) here q f passed 0 0 0 x.last refl (Notes f passed 0)
  moves_names (Some o) reason here =
      as_before x.n x.w x.s x.joint x.m x.low (with_turn t) idle (know x q f c passed (Some o) LoadingLeaving)
      (left (y x q f c)) here

  pub leaving_loaded : (note : Option Reason) → AtStage x q f c passed note LoadingLeaving
      → NextKeeps x.n x.w x.s x.m (driver (y x q f c) (seeking x q f c passed note LoadingLeaving))
  leaving_loaded note at =
      let s = LoadingLeaving in
      let v = word_at x.n x.s.words (leaving t) in
      let z = y x q f c in
      let low = low_tablet x q f c passed note s at in
      let inside = entry_in 0 low some_entries in
      let same : t * x.n.entries + 0 ≡ t * x.n.entries = omega arith in
      let of : tablet_of_entry x.n (t * x.n.entries) ≡ t = ap (tablet_of_entry x.n) (sym same)
      ∙ entry_of_tablet 0 some_entries in
      load_goal z (seeking x q f c passed note s)
      (on x q f c (if v == 0 then progress x q f c passed note LoadingTop
      else noted (progress x q f c passed note s) (BeingMoved t v) PassingTurn)) (index x.n (leaving t))
      (by_eq (λ b. Goal z (seeking x q f c passed note s)
      (on x q f c (if b then progress x q f c passed note LoadingTop
      else noted (progress x q f c passed note s) (BeingMoved t v) PassingTurn)) x.s.words) v 0
      (λ stays. on_to x q f c passed note s at passed note LoadingTop x.s.words refl tt
      (loads x.n x.w x.s x.joint x.m x.low (with_turn t) idle (know x q f c passed note s) (left z) at.here
      (asks (t * x.n.entries)) (know x q f c passed note LoadingTop) refl (λ e. e) (stays_names note at.here)
      (each_step_keeps x.n x.joint.script.shape (layout_in x.n x.w x.s) x.m _ x.joint.layout
      (load_leaving x.m (t * x.n.entries) (mutator_at x.m (with_turn t))
      (record { gate = at.here.gate; work = at.here.work })
      (subst (λ k. k < x.n.servers * x.n.tablets * x.n.entries) same inside)
      (subst (λ k. 1 ≤ holds_turn k (with_turn t)) (sym of) (same_turn t))
      (ap (λ k. word_at x.n x.s.words (leaving k)) of ∙ stays)))))
      (λ moves. on_to x q f c passed note s at passed (first note (BeingMoved t v)) PassingTurn x.s.words refl tt
      (looks x.n x.w x.s x.joint x.m x.low (with_turn t) idle (know x q f c passed note s) (left z) at.here
      (know x q f c passed (first note (BeingMoved t v)) PassingTurn) refl (λ e. e)
      (moves_names note (BeingMoved t v) at.here))))

  -- ---- top
  module _ (note : Option Reason) (at : AtStage x q f c passed note LoadingTop) where
    lacks : x.n.words < word_at x.n x.s.words (top t) + f + 1
        → LacksWords x.n x.w (record { words = x.s.words; front = x.s.front; facets = x.s.facets.names })
        (trying.tablet_at x.w x.m passed) f
    lacks few =
        let low = low_tablet x q f c passed note LoadingTop at in
        let state = layout_in x.n x.w x.s in
        let full = filled_is x.n state x.joint.layout x.m (mutator_at x.m (with_turn t)) at.here.gate
        (asks (t * x.n.entries)) at.here.work t low (omega (arith, same_turn t)) refl refl in
        let made = x.joint.layout.copy.made_in t low in
        let words = x.joint.script.facts.words in
        subst (λ k. LacksWords x.n x.w
        (record { words = x.s.words; front = x.s.front; facets = x.s.facets.names }) k f) (sym tablet_is)
        (record {
          used = (let d : word_at x.n x.s.words (top t) ≤ words_made x.w t x.s.front.history = omega arith in d);
          few = (let d : x.w.words < word_at x.n x.s.words (top t) + f + 1 = omega arith in d);
        })

  lack_names : (note : Option Reason) (at : AtStage x q f c passed note LoadingTop)
      → x.n.words < word_at x.n x.s.words (top t) + f + 1
      → NamesHoldIn x.n x.w (knowing x.n x.w x.s x.joint x.m x.low (with_turn t) (asks (t * x.n.entries))
      (know x q f c passed note LoadingTop) (left (y x q f c)) at.here (know x q f c passed note PassingTurn))
  lack_names None at few =
      learns_of x.n x.w x.s x.joint x.m x.low (with_turn t) (asks (t * x.n.entries))
      (know x q f c passed None LoadingTop) (left (y x q f c)) at.here q f passed 0 (passed + 1) 0 x.last refl
      (Lacks f passed (lacks None at few))
  lack_names (Some o) at few =
      as_before x.n x.w x.s x.joint x.m x.low (with_turn t) (asks (t * x.n.entries))
      (know x q f c passed (Some o) LoadingTop) (left (y x q f c)) at.here

  room_names : (note : Option Reason) (kept : ℕ)
      (here : IsSeen x.s x.m (own x q f c passed note LoadingTop (left (y x q f c))))
      → NamesHoldIn x.n x.w (knowing x.n x.w x.s x.joint x.m x.low (with_turn t) (asks (t * x.n.entries))
      (know x q f c passed note LoadingTop) (left (y x q f c)) here (know x q f c passed note (NewEntry kept 0)))
  room_names None kept here =
      as_before x.n x.w x.s x.joint x.m x.low (with_turn t) (asks (t * x.n.entries))
      (know x q f c passed None LoadingTop) (left (y x q f c)) here
  room_names (Some o) kept here =
      as_before x.n x.w x.s x.joint x.m x.low (with_turn t) (asks (t * x.n.entries))
      (know x q f c passed (Some o) LoadingTop) (left (y x q f c)) here

  pub top_loaded : (note : Option Reason) → AtStage x q f c passed note LoadingTop
      → NextKeeps x.n x.w x.s x.m (driver (y x q f c) (seeking x q f c passed note LoadingTop))
  top_loaded note at =
      let s = LoadingTop in
      let v = word_at x.n x.s.words (top t) in
      let z = y x q f c in
      let some = some_entries in
      let same : t * x.n.entries + 0 ≡ t * x.n.entries = omega arith in
      let of : tablet_of_entry x.n (t * x.n.entries) ≡ t = ap (tablet_of_entry x.n) (sym same)
      ∙ entry_of_tablet 0 some_entries in
      let word_is : word_at x.n x.s.words (top (tablet_of_entry x.n (t * x.n.entries))) ≡ v =
      ap (λ k. word_at x.n x.s.words (top k)) of in
      load_goal z (seeking x q f c passed note s)
      (on x q f c (progress x q f c passed note (allocating.top_fed (job x q f c) v))) (index x.n (top t))
      (by_le (λ b. Goal z (seeking x q f c passed note s)
      (on x q f c (progress x q f c passed note (if b then allocating.seeking (job x q f c) v 0 else PassingTurn)))
      x.s.words)
      (v + f + 1) x.n.words
      (λ fits. by_lt (λ b. Goal z (seeking x q f c passed note s)
      (on x q f c (progress x q f c passed note (if b then NewEntry v 0 else PassingTurn))) x.s.words)
      0 x.n.entries
      (λ less. on_to x q f c passed note s at passed note (NewEntry v 0) x.s.words refl tt
      (loads x.n x.w x.s x.joint x.m x.low (with_turn t) (asks (t * x.n.entries)) (know x q f c passed note s)
      (left z) at.here (tops (t * x.n.entries + 0) v (f + 1)) (know x q f c passed note (NewEntry v 0)) refl (λ e. e)
      (room_names note v at.here)
      (subst (λ k. Evacuation x.n (laid x.n x.w x.s x.s.words x.s.front x.s.facets.gates (set x.s.facets.works x.m k)))
      (λ i. tops (sym same i) (word_is i) (f + 1))
      (each_step_keeps x.n x.joint.script.shape (layout_in x.n x.w x.s) x.m _ x.joint.layout
      (load_room x.m (t * x.n.entries) (f + 1) (mutator_at x.m (with_turn t))
      (record { gate = at.here.gate; work = at.here.work }) (omega arith) (omega arith))))))
      (λ none. absurd (omega arith)))
      (λ few. on_to x q f c passed note s at passed note PassingTurn x.s.words refl tt
      (gives_up note s (asks (t * x.n.entries)) at.here (know x q f c passed note PassingTurn)
      (lack_names note at few) (λ k. (refl, refl)))))
