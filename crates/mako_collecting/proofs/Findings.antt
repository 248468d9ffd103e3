-- What the collector has found stays so past its steps, and live words stay.
use Rattle.std.proofs.Common.{◌≡◌, ◌≢◌, ℕ, ◌+◌, ◌*◌, ◌%◌, ◌==◌, nat_lt, Option, Some, None, List, [], ◌∷◌, ◌++◌, length}
use Rattle.std.proofs.Common.{set, get_or, slice_index, sym, ap, subst, refl, ◌∙◌, arith, slice_get, true, false}
use Rattle.std.proofs.lemmas.List.{length-set}
use Rattle.std.proofs.lemmas.Nat.{mod_below}
use Rattle.mako_words.specs.declared.name.Name.{Name}
use Rattle.mako_words.specs.Phases.{phase_word}
use Rattle.mako_words.specs.declared.phase_word.PhaseWord.TheVariants.{Trace}
use Rattle.mako_shape.specs.declared.numbers.Numbers.{Numbers}
use Rattle.mako_shape.specs.Places.{Place, phase, flags, mutator_gate, barrier, work, entry, home, top, leaving, live}
use Rattle.mako_shape.specs.Places.{index, Within, word_at}
use Rattle.mako_shape.proofs.PlaceLaws.{word_other}
use Rattle.mako_step.specs.Acts.{finds, words_stepped}
use Rattle.mako_model.specs.Legal.{Facts}
use Rattle.mako_names.proofs.Words.{entry_same}
use Rattle.mako_ring.specs.Tracing.{owner}
use Rattle.mako_ring.proofs.Found.{owner_in_range}
use Rattle.mako_poll.specs.Polls as poll
use Rattle.mako_poll.specs.declared.poller.PollStage.{PollStage}
use Rattle.mako_poll.specs.declared.poller.PollStage.TheVariants.{Asking, Reading, Ended as Polled}
use Rattle.mako_poll.specs.declared.poller.Polled.TheVariants.{Told, NotYet}
use Rattle.mako_layout.specs.StepParts.{collector_seat}
use Rattle.mako_phases.specs.Choosing.{AreFound}
use Rattle.mako_phases.specs.Laws.{IsReadyForSnapshot}
use Rattle.mako_phases.specs.Lives.{LiveFacet, live_count, AreOnce, AreCounted, ArePast, counting}
use Rattle.mako_phases.specs.LiveSteps.{AgreeOnLives}
use Rattle.mako_phases.specs.Marked.{IsMarked}
use Rattle.mako_phases.proofs.Choosing.{findings_begin, findings_go_on, findings_chosen_of, chosen_once}
use Rattle.mako_phases.proofs.LiveLaws.{past_stays, past_begins, counts_end}
use Rattle.mako_phases.proofs.Says.{snapshot_ready, names_rest}
use Rattle.mako_phases.specs.Facets.{PhaseFacet, IsRestful}
use Rattle.mako_phases.specs.Orders.{AreUnladen}
use Rattle.mako_joint.specs.Joints.{JointScene}
use Rattle.mako_joint.proofs.Pauses.{by_part}
use Rattle.mako_collecting.specs.Facets.{part_of, names_of}
use Rattle.mako_pause.specs.Collecting.{Holdings, Collecting, running, window_of, next_of, polled_at, chosen_tablet}
use Rattle.mako_pause.specs.Collecting.{gifts_from, gift_of, server_chosen, servers_from, after_tablet, live_words}
use Rattle.mako_pause.specs.Collecting.{spare_for, at}
use Rattle.mako_pause.specs.declared.stage.Pause.TheVariants.{Choice as ForChoice}
use Rattle.mako_pause.specs.declared.stage.IdleStage.TheVariants.{LoadingDemand, LookingFinished, StoringStop}
use Rattle.mako_pause.specs.declared.stage.PauseStage.TheVariants.{Shutting, Draining, LoadingRoot, StoringTrace}
use Rattle.mako_pause.specs.declared.stage.PauseStage.TheVariants.{Opening}
use Rattle.mako_pause.specs.declared.stage.ForwardStage.TheVariants.{Looking, Storing}
use Rattle.mako_pause.specs.declared.stage.BarrierStage.TheVariants.{Loading, Clearing}
use Rattle.mako_pause.specs.declared.stage.ChoiceStage.{ChoiceStage}
use Rattle.mako_pause.specs.declared.stage.ChoiceStage.TheVariants.{LoadingLive, LoadingTop, LoadingHome}
use Rattle.mako_pause.specs.declared.stage.ChoiceStage.TheVariants.{StoringLeaving, StoringHome, StoringTop}
use Rattle.mako_pause.specs.declared.stage.ChoiceStage.TheVariants.{StoringEvac, Opening as Reopening}
use Rattle.mako_pause.specs.declared.stage.NoticeStage.TheVariants.{Looking as NoticeLook}
use Rattle.mako_pause.specs.declared.stage.CollectStage.{CollectStage}
use Rattle.mako_pause.specs.declared.stage.CollectStage.TheVariants.{Idle, Pausing, Forwarding, Barriers, Emptying}
use Rattle.mako_pause.specs.declared.stage.CollectStage.TheVariants.{Polling, Choosing, Noticing, Ended}
use Rattle.mako_collecting.specs.Findings.{ChoiceFound, StageFound, FindsTablets, FindingsAreKept, LivesStay}
use Rattle.mako_collecting.specs.Findings.{SnapshotsBeginCounts, OwedAreTied, IsBeforeEvac, ChoosingEndsCounts}
use Rattle.mako_collecting.specs.Laws.{Stands, IsUpToEvac}
use Rattle.mako_collecting.specs.Steps.{words_next, collector_next}
use Rattle.mako_collecting.proofs.Idling.{either_way, is_same}
use Rattle.mako_collecting.proofs.Stays.{load_leaves}

-- ---- findings

abbrev Found : Numbers → List ℕ → Collecting → Type 0
Found n words c = StageFound n words c.kept c.stage

module _ (words : List ℕ) where
  once_gifts : (n : Numbers) (k : Holdings) (i : ℕ) → AreOnce k.chosen → Found n words (gifts_from k i)
  once_gifts n k i once =
      either_way (Found n words) (nat_lt i (length k.chosen)) (at k (Choosing (LoadingHome i)))
      (at k (Choosing StoringEvac)) (λ e. once) (λ e. once)

  servers_found : (k : Holdings) (r : ℕ) → AreFound k.shape words (running k) r 0 [] k.chosen → k.used ≡ []
      → Found k.shape words (servers_from k r)
  servers_found k r found none =
      either_way (Found k.shape words) (r == k.shape.servers) (gifts_from k 0) (at k (Choosing (LoadingLive r 0)))
      (λ e. once_gifts k.shape k 0 (subst AreOnce (sym found.chosen_are) (chosen_once k.shape words (running k) r).0))
      (λ e. subst (λ us. AreFound k.shape words (running k) r 0 us k.chosen) (sym none) found)

  tablets_found : (k : Holdings) (r place : ℕ) → AreFound k.shape words (running k) r (place + 1) k.used k.chosen
      → Found k.shape words (after_tablet k r place)
  tablets_found k r place found =
      either_way (Found k.shape words) (place + 1 == k.shape.tablets) (servers_from (server_chosen k r) (r + 1))
      (at k (Choosing (LoadingLive r (place + 1))))
      (λ e. servers_found (server_chosen k r) (r + 1)
      (findings_chosen_of k.shape words (running k) r k.used k.chosen
      (subst (λ (x : ℕ). AreFound k.shape words (running k) r x k.used k.chosen) (is_same (place + 1) k.shape.tablets e)
      found)) refl) (λ e. found)

  gift_found : (n : Numbers) (k : Holdings) (i former : ℕ) (o : Option ℕ) → AreOnce k.chosen
      → Found n words (gift_of k i former o)
  gift_found n k i former None once = once
  gift_found n k i former (Some region) once = once

  polled_found : (n : Numbers) (k : Holdings) (q : PollStage) → Found n words (polled_at k q)
  polled_found n k (Asking r) = tt
  polled_found n k (Reading r) = tt
  polled_found n k (Polled (NotYet r v)) = tt
  polled_found n k (Polled Told) =
      either_way (Found n words) k.gates_shut
      (at (record k { used = []; chosen = [] }) (Choosing (LoadingLive 0 0))) (at k (Pausing (Shutting ForChoice 0)))
      (λ e. findings_begin n words (running k)) (λ e. tt)

choice_found : (words : List ℕ) (k : Holdings) (stage : ChoiceStage) → ChoiceFound k.shape words k stage
    → Found k.shape (words_next (at k (Choosing stage)) words) (collector_next (at k (Choosing stage)) words)
choice_found words k (LoadingLive r place) found =
    let t : ℕ = r * k.shape.tablets + place in
    subst (λ (us : List ℕ). AreFound k.shape us (running k) r place k.used k.chosen
    × (live_words k (word_at k.shape words (live t)) ≡ live_count k.shape us t (running k)))
    (sym (load_leaves words (index k.shape (live t)))) (found, refl)
choice_found words k (LoadingTop r place number) found =
    let t : ℕ = r * k.shape.tablets + place in
    let w : ℕ = word_at k.shape words (top t) in
    let kept : Holdings = record k { used = k.used ++ record { top = w; live = number } ∷ [] } in
    subst (λ (us : List ℕ). Found k.shape us (after_tablet kept r place))
    (sym (load_leaves words (index k.shape (top t))))
    (tablets_found words kept r place
    (subst (λ (x : ℕ). AreFound k.shape words (running k) r (place + 1) (k.used ++ record { top = w; live = x } ∷ [])
    k.chosen) (sym found.1) (findings_go_on k.shape words (running k) r place k.used k.chosen found.0)))
choice_found words k (LoadingHome i) found =
    gift_found (words_next (at k (Choosing (LoadingHome i))) words) k.shape k i
    (word_at k.shape words (home (chosen_tablet k i))) (spare_for k (chosen_tablet k i)) found
choice_found words k (StoringLeaving i gift) found = found
choice_found words k (StoringHome i gift) found = found
choice_found words k (StoringTop i) found =
    once_gifts (words_next (at k (Choosing (StoringTop i))) words) k.shape k (i + 1) found
choice_found words k StoringEvac found = tt
choice_found words k (Reopening m) found =
    let us : List ℕ = words_next (at k (Choosing (Reopening m))) words in
    either_way (Found k.shape us) (m + 1 == k.shape.mutators) (at k (Noticing (NoticeLook 0)))
    (at k (Choosing (Reopening (m + 1)))) (λ e. tt) (λ e. tt)

findings_at : (words : List ℕ) (k : Holdings) (stage : CollectStage) → FindsTablets stage
    → StageFound k.shape words k stage
    → Found k.shape (words_next (at k stage) words) (collector_next (at k stage) words)
findings_at words k Polling is found =
    let kept : Holdings = record k { poll = poll.fed k.poll (finds (next_of (at k Polling)) words) } in
    polled_found (words_next (at k Polling) words) k.shape kept kept.poll.stage
findings_at words k (Choosing stage) is found = choice_found words k stage found
findings_at words k (Idle stage) is found = absurd is
findings_at words k (Pausing stage) is found = absurd is
findings_at words k (Forwarding stage) is found = absurd is
findings_at words k (Barriers stage) is found = absurd is
findings_at words k (Emptying r) is found = absurd is
findings_at words k (Noticing stage) is found = absurd is
findings_at words k Ended is found = absurd is

pub findings_are_kept : FindingsAreKept
findings_are_kept n w s places k stage is stands found =
    subst (λ m. StageFound m s.words k stage
    → Found m (words_next (at k stage) s.words) (collector_next (at k stage) s.words)) stands.seat.shape
    (findings_at s.words k stage is) found

-- ---- live words

lives_loaded : (n : Numbers) (words : List ℕ) (i : ℕ) → AgreeOnLives n words (set words i (get_or words i 0))
lives_loaded n words i t within = ap (λ (us : List ℕ). word_at n us (live t)) (load_leaves words i)

lives_stored : (n : Numbers) (words : List ℕ) (p : Place) (v : ℕ) → Within n p → ((t : ℕ) → live t ≢ p)
    → AgreeOnLives n words (set words (index n p) v)
lives_stored n words p v inside other t within = word_other n words p (live t) v inside within (other t)

lives_polled : (n : Numbers) (words : List ℕ) (q : PollStage) → poll.IsKnown n q
    → AgreeOnLives n words (words_stepped (poll.stage_next n q) words)
lives_polled n words (Asking i) known = lives_stored n words (flags i) _ known (λ t e. cc)
lives_polled n words (Reading i) known = lives_stored n words (flags i) _ known (λ t e. cc)
lives_polled n words (Polled answer) known = λ t within. refl

module _ (w : Facts) (s : JointScene) (places : ℕ → ℕ) (k : Holdings) where
  abbrev n : Numbers
  n = k.shape

  lives_at : (stage : CollectStage) → IsUpToEvac stage → Stands n w s places (at k stage)
      → AgreeOnLives n s.words (words_next (at k stage) s.words)
  lives_at (Idle LoadingDemand) is x = lives_loaded n s.words _
  lives_at (Idle LookingFinished) is x = lives_loaded n s.words _
  lives_at (Idle StoringStop) is x = lives_stored n s.words phase _ tt (λ t e. cc)
  lives_at (Pausing (Shutting pause m)) is x =
      lives_stored n s.words (mutator_gate m) _ x.keeps.stage.1 (λ t e. cc)
  lives_at (Pausing (Draining pause m)) is x = lives_loaded n s.words _
  lives_at (Pausing (LoadingRoot m q)) is x = lives_loaded n s.words _
  lives_at (Pausing StoringTrace) is x = lives_stored n s.words phase _ tt (λ t e. cc)
  lives_at (Pausing (Opening m)) is x = lives_stored n s.words (mutator_gate m) _ x.keeps.stage.1 (λ t e. cc)
  lives_at (Forwarding (Looking x)) is y = lives_loaded n s.words _
  lives_at (Forwarding (Storing x)) is y =
      let each = y.joint.script.shape.in_range.each in
      lives_stored n s.words (work (owner n x) ((window_of k (owner n x)).head % n.ring)) _
      (owner_in_range n x y.keeps.stage.1.0.0, mod_below (window_of k (owner n x)).head n.ring (omega (arith, each)))
      (λ t e. cc)
  lives_at (Barriers (Loading m)) is x = lives_loaded n s.words _
  lives_at (Barriers (Clearing m x)) is y =
      let low = y.keeps.stage.1.0 in
      let slot = y.known.barriers m 0 (let a = y.known.barriers_count in omega arith) in
      lives_stored n s.words (barrier m (slice_index k.barrier_at m)) _ (low, slot) (λ t e. cc)
  lives_at (Emptying r) is x = lives_loaded n s.words _
  lives_at Polling is x =
      subst (λ (m : Numbers). AgreeOnLives n s.words (words_stepped (poll.stage_next m k.poll.stage) s.words))
      (sym x.known.poll_shape) (lives_polled n s.words k.poll.stage x.known.poll)
  lives_at (Choosing (LoadingLive r place)) is x = lives_loaded n s.words _
  lives_at (Choosing (LoadingTop r place number)) is x = lives_loaded n s.words _
  lives_at (Choosing (LoadingHome i)) is x = lives_loaded n s.words _
  lives_at (Choosing (StoringLeaving i gift)) is x =
      lives_stored n s.words (leaving (chosen_tablet k i)) _ (x.known.chosen i 0 x.keeps.stage.1.0) (λ t e. cc)
  lives_at (Choosing (StoringHome i gift)) is x =
      lives_stored n s.words (home (chosen_tablet k i)) _ (x.known.chosen i 0 x.keeps.stage.1.0) (λ t e. cc)
  lives_at (Choosing (StoringTop i)) is x =
      lives_stored n s.words (top (chosen_tablet k i)) _ (x.known.chosen i 0 x.keeps.stage.1) (λ t e. cc)
  lives_at (Choosing StoringEvac) is x = lives_stored n s.words phase _ tt (λ t e. cc)
  lives_at (Choosing (Reopening m)) is x = lives_stored n s.words (mutator_gate m) _ x.keeps.stage.1 (λ t e. cc)
  lives_at (Noticing stage) is x = absurd is
  lives_at Ended is x = absurd is

pub lives_stay : LivesStay
lives_stay n w s places k stage is stands =
    subst (λ m. Stands m w s places (at k stage) → AgreeOnLives m s.words (words_next (at k stage) s.words))
    stands.seat.shape (lives_at w s places k stage is) stands

-- ---- the snapshot

-- the store of the phase marks nothing
marked_before : (n : Numbers) (words : List ℕ) (v cycle : ℕ) (x : Name)
    → IsMarked n (set words (index n phase) v) cycle x → IsMarked n words cycle x
marked_before n words v cycle x m =
    let us : List ℕ = set words (index n phase) v in
    let e = entry_same n words us x.entry (word_other n words phase (entry x.entry) v tt m.in_range (λ e. cc)) in
    record {
      in_range = m.in_range;
      taken = ap (λ k. k.taken) (sym e) ∙ m.taken;
      generation = ap (λ k. k.generation) (sym e) ∙ m.generation;
      epoch = ap (λ k. k.epoch) (sym e) ∙ m.epoch;
    }

module _ (w : Facts) (s : JointScene) (places : ℕ → ℕ) (k : Holdings)
    (stands : Stands k.shape w s places (at k (Pausing StoringTrace))) (facets : List LiveFacet)
    (past : ArePast k.shape s.words facets k.cycle) where
  abbrev trace_word : ℕ
  trace_word = phase_word (Trace (running k))

  abbrev us : List ℕ
  us = set s.words (index k.shape phase) trace_word

  ready : IsReadyForSnapshot k.shape s.words s.facets.phases k.cycle k.pending
  ready =
      snapshot_ready k.shape s.words s.facets.phases stands.joint.order (collector_seat k.shape) k.cycle k.pending
      stands.seat.phase

  counts_begin : AreCounted k.shape w us facets s.front.history (k.cycle + 1)
  counts_begin =
      past_begins k.shape w us facets s.front.history k.cycle
      (past_stays k.shape s.words us facets k.cycle past (lives_stored k.shape s.words phase trace_word tt (λ t e. cc)))
      (length-set s.words (index k.shape phase) trace_word ∙ stands.joint.names.hold.size)
      (λ x m. ready.unmarked x (marked_before k.shape s.words trace_word (k.cycle + 1) x m))

pub snapshots_begin_counts : SnapshotsBeginCounts
snapshots_begin_counts n w s places k stands facets past =
    subst (λ m. Stands m w s places (at k (Pausing StoringTrace)) → ArePast m s.words facets k.cycle
    → AreCounted m w (words_next (at k (Pausing StoringTrace)) s.words) facets s.front.history (running k))
    stands.seat.shape (λ x p. counts_begin w s places k x facets p) stands past

-- ---- the choice

chooses_restful : (n : Numbers) (k : Holdings) (stage : ChoiceStage) → IsBeforeEvac stage
    → IsRestful (part_of n (at k (Choosing stage)))
chooses_restful n k (LoadingLive r place) is = tt
chooses_restful n k (LoadingTop r place number) is = tt
chooses_restful n k (LoadingHome i) is = tt
chooses_restful n k (StoringLeaving i gift) is = tt
chooses_restful n k (StoringHome i gift) is = tt
chooses_restful n k (StoringTop i) is = tt
chooses_restful n k StoringEvac is = tt
chooses_restful n k (Reopening m) is = absurd is

owes_none : (phases : List PhaseFacet) (lives : List LiveFacet) → AreUnladen phases → OwedAreTied phases lives
    → (seat server begun : ℕ) (counts : List ℕ) (owed : Option (Name × ℕ))
    → slice_get lives seat ≡ Some (counting server begun counts owed) → owed ≡ None
owes_none phases lives unladen ties seat server begun counts None here = refl
owes_none phases lives unladen ties seat server begun counts (Some p) here =
    let laden = ties seat server begun counts p here in
    absurd (let e : true ≡ false = unladen laden.seat server laden.stage laden.ended true laden.here in cc)

pub choosing_ends_counts : ChoosingEndsCounts
choosing_ends_counts n w s places k stage stands is lives before ties counted =
    let c : Collecting = at k (Choosing stage) in
    let rest = names_rest n s.words s.facets.phases stands.joint.order
    (by_part n w s stands.joint IsRestful (collector_seat n) (part_of n c) (names_of c) stands.seat.phase
    (chooses_restful n k stage is)) in
    counts_end n w s.words lives before (running k) counted
    (λ seat server begun counts owed here. owes_none s.facets.phases lives rest.1 ties seat server begun counts owed
    here)
