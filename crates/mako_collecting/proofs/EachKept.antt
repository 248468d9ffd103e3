-- Each step of the collector keeps what it keeps of itself.
use Rattle.std.proofs.Common.{◌≡◌, ◌≢◌, ℕ, ◌+◌, ◌*◌, ◌%◌, ◌<◌, ◌==◌, nat_lt, ⊎_elim, true, false, cond, List, [], ◌∷◌}
use Rattle.std.proofs.Common.{◌++◌, slice_index, sym, subst, refl, ◌∙◌, arith}
use Rattle.std.proofs.lemmas.Nat.{mod_below}
use Rattle.mako_words.specs.Gates.{count_of}
use Rattle.mako_words.specs.Names.{name_at}
use Rattle.mako_words.specs.Values.{value_at}
use Rattle.mako_words.specs.declared.name.Name.{Name}
use Rattle.mako_shape.specs.declared.numbers.Numbers.{Numbers}
use Rattle.mako_shape.specs.Places.{Place, phase, demand, finished, mutator_gate, root, barrier, work, home, top}
use Rattle.mako_shape.specs.Places.{leaving, live, index, Within, word_at}
use Rattle.mako_step.specs.Acts.{finds, words_stepped}
use Rattle.mako_model.specs.Legal.{Facts}
use Rattle.mako_model.proofs.Lists.{get_set_same}
use Rattle.mako_ring.specs.Tracing.{owner}
use Rattle.mako_ring.specs.Windows.{found_room, head_up, tail_up}
use Rattle.mako_ring.specs.TraceFacets as trace
use Rattle.mako_ring.proofs.Found.{owner_in_range}
use Rattle.mako_shades.proofs.Words.{no_zero_name}
use Rattle.mako_poll.specs.Polls as poll
use Rattle.mako_layout.specs.StepParts.{collector_seat}
use Rattle.mako_phases.specs.Facets as phases
use Rattle.mako_phases.specs.Facets.{Part, PhaseFacet}
use Rattle.mako_phases.specs.Orders.{PendingFits}
use Rattle.mako_joint.specs.Joints.{JointScene, Joint}
use Rattle.mako_pause.specs.Collecting.{Holdings, Collecting, window_of, set_window, forward, empty, barriers_from}
use Rattle.mako_pause.specs.Collecting.{paused, next_of, Fits, spare_for, chosen_tablet, names_of as names_loaded, at}
use Rattle.mako_pause.specs.declared.stage.Pause.TheVariants.{Snapshot}
use Rattle.mako_pause.specs.declared.stage.IdleStage.{IdleStage}
use Rattle.mako_pause.specs.declared.stage.IdleStage.TheVariants.{LoadingDemand, LookingFinished, StoringStop}
use Rattle.mako_pause.specs.declared.stage.PauseStage.{PauseStage}
use Rattle.mako_pause.specs.declared.stage.PauseStage.TheVariants.{Shutting, Draining, LoadingRoot, StoringTrace}
use Rattle.mako_pause.specs.declared.stage.PauseStage.TheVariants.{Opening}
use Rattle.mako_pause.specs.declared.stage.ForwardStage.{ForwardStage}
use Rattle.mako_pause.specs.declared.stage.ForwardStage.TheVariants.{Looking, Storing}
use Rattle.mako_pause.specs.declared.stage.BarrierStage.{BarrierStage}
use Rattle.mako_pause.specs.declared.stage.BarrierStage.TheVariants.{Loading, Clearing}
use Rattle.mako_pause.specs.declared.stage.ChoiceStage.{ChoiceStage}
use Rattle.mako_pause.specs.declared.stage.ChoiceStage.TheVariants.{LoadingLive, LoadingTop, LoadingHome}
use Rattle.mako_pause.specs.declared.stage.ChoiceStage.TheVariants.{StoringLeaving, StoringHome, StoringTop}
use Rattle.mako_pause.specs.declared.stage.ChoiceStage.TheVariants.{StoringEvac, Opening as Reopening}
use Rattle.mako_pause.specs.declared.stage.NoticeStage.TheVariants.{Looking as NoticeLook}
use Rattle.mako_pause.specs.declared.stage.CollectStage.{CollectStage}
use Rattle.mako_pause.specs.declared.stage.CollectStage.TheVariants.{Idle, Pausing, Forwarding, Barriers, Emptying}
use Rattle.mako_pause.specs.declared.stage.CollectStage.TheVariants.{Polling, Choosing, Noticing, Ended}
use Rattle.mako_pause.proofs.Going.{stage_stands}
use Rattle.mako_collecting.specs.Facets.{names_of, part_of, phase_facet, gate_facet, IsCollector}
use Rattle.mako_collecting.specs.Keeping.{CollectorKeeps, PassedAreEmpty, BarrierRingsStand, SameBarriers}
use Rattle.mako_collecting.specs.Laws.{Stands, IsUpToEvac, SeatsStay, StepsKeepTheirOwn}
use Rattle.mako_collecting.specs.Steps.{words_next, collector_next}
use Rattle.mako_collecting.proofs.Idling.{either_way, is_same, not_same}
use Rattle.mako_collecting.proofs.Joined.{same_collector}
use Rattle.mako_collecting.proofs.KeptOwn.{by_load, by_store, by_poll, rings_same, empty_same, Own, plain, forward_own}
use Rattle.mako_collecting.proofs.KeptOwn.{empty_own, barriers_own, polled_own, paused_own, roots_own, gifts_own}
use Rattle.mako_collecting.proofs.KeptOwn.{gift_own, tablets_own, one_passed, rings_taken}

pub seats_stay : SeatsStay
seats_stay n s c next words choice here shape = record {
  shape = shape;
  trace = get_set_same s.facets.trace (collector_seat n) (trace.collecting (names_of next))
      (trace.collecting (names_of c)) here.trace;
  gate = get_set_same s.facets.gates (collector_seat n) (gate_facet n next) (gate_facet n c) here.gate;
  work = here.work;
  phase = get_set_same s.facets.phases (collector_seat n) (phase_facet n next) (phase_facet n c) here.phase;
  rings = refl;
}

-- ---- pending names

abbrev pending_fits : Numbers → List ℕ → PhaseFacet → Type 0
pending_fits n words (phases.collecting part pending) = PendingFits n words part pending
pending_fits n words f = Unit {0}

-- pending names are as the order of the phases has them
pending_now : (n : Numbers) (w : Facts) (s : JointScene) → Joint n w s → (c : Collecting) → IsCollector n s c
    → PendingFits n s.words (part_of n c) (names_of c)
pending_now n w s j c here =
    subst (pending_fits n s.words)
    (same_collector n s.words s.facets.phases j.order j.order.seat (collector_seat n) j.order.part (part_of n c)
    j.order.pending (names_of c) j.order.here here.phase).1 j.order.words_stand.pends

-- ---- the stages

module _ (w : Facts) (s : JointScene) (places : ℕ → ℕ) (k : Holdings) where
  abbrev n : Numbers
  n = k.shape

  abbrev After : CollectStage → Type 0
  After stage = Own n (words_next (at k stage) s.words) places (collector_next (at k stage) s.words)

  -- the rings after a store or a load elsewhere
  rings_after : (stage : CollectStage) → Stands n w s places (at k stage)
      → SameBarriers n s.words (words_next (at k stage) s.words)
      → BarrierRingsStand n (words_next (at k stage) s.words) places k
  rings_after stage x same =
      rings_same n s.words (words_next (at k stage) s.words) places k x.known refl same x.keeps.rings

  idle_own : (stage : IdleStage) → Stands n w s places (at k (Idle stage)) → After (Idle stage)
  idle_own LoadingDemand x =
      let us : List ℕ = words_next (at k (Idle LoadingDemand)) s.words in
      let rings = rings_after (Idle LoadingDemand) x (by_load n s.words (index n demand)) in
      either_way (Own n us places) (nat_lt k.cycle (word_at n s.words demand)) (at k (Pausing (Shutting Snapshot 0)))
      (at k (Idle LookingFinished))
      (λ e. plain n us places (at k (Pausing (Shutting Snapshot 0)))
      (x.keeps.keeps, pending_now n w s x.joint (at k (Idle LoadingDemand)) x.seat) refl rings)
      (λ e. plain n us places (at k (Idle LookingFinished)) x.keeps.keeps refl rings)
  idle_own LookingFinished x =
      let us : List ℕ = words_next (at k (Idle LookingFinished)) s.words in
      let rings = rings_after (Idle LookingFinished) x (by_load n s.words (index n finished)) in
      either_way (Own n us places) (word_at n s.words finished == n.mutators) (at k (Idle StoringStop))
      (at k (Idle LoadingDemand)) (λ e. plain n us places (at k (Idle StoringStop)) x.keeps.keeps refl rings)
      (λ e. plain n us places (at k (Idle LoadingDemand)) x.keeps.keeps refl rings)
  idle_own StoringStop x =
      plain n (words_next (at k (Idle StoringStop)) s.words) places (at k Ended) tt refl
      (rings_after (Idle StoringStop) x (by_store n s.words phase _ tt (λ m slot e. cc)))

  pause_own : (stage : PauseStage) → Stands n w s places (at k (Pausing stage)) → After (Pausing stage)
  pause_own (Shutting pause m) x =
      let us : List ℕ = words_next (at k (Pausing (Shutting pause m))) s.words in
      let rings = rings_after (Pausing (Shutting pause m)) x
      (by_store n s.words (mutator_gate m) _ x.keeps.stage.1 (λ m slot e. cc)) in
      either_way (Own n us places) (m + 1 == n.mutators) (at k (Pausing (Draining pause 0)))
      (at k (Pausing (Shutting pause (m + 1))))
      (λ e. plain n us places (at k (Pausing (Draining pause 0))) x.keeps.keeps refl rings)
      (λ e. plain n us places (at k (Pausing (Shutting pause (m + 1)))) x.keeps.keeps refl rings)
  pause_own (Draining pause m) x =
      let us : List ℕ = words_next (at k (Pausing (Draining pause m))) s.words in
      let rings = rings_after (Pausing (Draining pause m)) x (by_load n s.words (index n (mutator_gate m))) in
      either_way (Own n us places) (nat_lt 0 (count_of (word_at n s.words (mutator_gate m))))
      (at k (Pausing (Draining pause m)))
      (cond (m + 1 == n.mutators) (paused k pause) (at k (Pausing (Draining pause (m + 1)))))
      (λ e. plain n us places (at k (Pausing (Draining pause m))) x.keeps.keeps refl rings)
      (λ e. either_way (Own n us places) (m + 1 == n.mutators) (paused k pause)
      (at k (Pausing (Draining pause (m + 1))))
      (λ a. paused_own n us places k x.keeps.keeps.1 rings pause x.keeps.keeps.0)
      (λ a. plain n us places (at k (Pausing (Draining pause (m + 1)))) x.keeps.keeps refl rings))
  pause_own (LoadingRoot m q) x =
      roots_own n (words_next (at k (Pausing (LoadingRoot m q))) s.words) places k
      (rings_after (Pausing (LoadingRoot m q)) x (by_load n s.words (index n (root m q)))) m q
      (k.pending ++ names_loaded (value_at (word_at n s.words (root m q)))) x.keeps.keeps
  pause_own StoringTrace x =
      plain n (words_next (at k (Pausing StoringTrace)) s.words) places (at k (Pausing (Opening 0))) x.keeps.keeps refl
      (rings_after (Pausing StoringTrace) x (by_store n s.words phase _ tt (λ m slot e. cc)))
  pause_own (Opening m) x =
      let us : List ℕ = words_next (at k (Pausing (Opening m))) s.words in
      let rings = rings_after (Pausing (Opening m)) x
      (by_store n s.words (mutator_gate m) _ x.keeps.stage.1 (λ m slot e. cc)) in
      either_way (Own n us places) (m + 1 == n.mutators) (forward k) (at k (Pausing (Opening (m + 1))))
      (λ e. forward_own n us places k rings)
      (λ e. plain n us places (at k (Pausing (Opening (m + 1)))) x.keeps.keeps refl rings)

  -- the slot at the head of a window is one that there is
  head_within : (x : Name) → x.entry < n.servers * n.tablets * n.entries → 0 < n.ring
      → Within n (work (owner n x) ((window_of k (owner n x)).head % n.ring))
  head_within x known some = (owner_in_range n x known, mod_below (window_of k (owner n x)).head n.ring some)

  forward_step_own : (stage : ForwardStage) → Stands n w s places (at k (Forwarding stage)) → After (Forwarding stage)
  forward_step_own (Looking x) y =
      let us : List ℕ = words_next (at k (Forwarding (Looking x))) s.words in
      let head : Place = work (owner n x) ((window_of k (owner n x)).head % n.ring) in
      let rings = rings_after (Forwarding (Looking x)) y (by_load n s.words (index n head)) in
      let c : Collecting =
      at (set_window k (owner n x) (found_room n.ring (window_of k (owner n x)))) (Forwarding (Storing x)) in
      either_way (Own n us places) (word_at n s.words head == 0) c (at k (Forwarding (Looking x)))
      (λ e. plain n us places c tt refl rings) (λ e. plain n us places (at k (Forwarding (Looking x))) tt refl rings)
  forward_step_own (Storing x) y =
      let us : List ℕ = words_next (at k (Forwarding (Storing x))) s.words in
      let head : Place = work (owner n x) ((window_of k (owner n x)).head % n.ring) in
      let each = y.joint.script.shape.in_range.each in
      forward_own n us places (set_window k (owner n x) (head_up (window_of k (owner n x))))
      (rings_after (Forwarding (Storing x)) y
      (by_store n s.words head _ (head_within x y.keeps.stage.1.0.0 (omega (arith, each))) (λ m slot e. cc)))

  barrier_own : (stage : BarrierStage) → Stands n w s places (at k (Barriers stage))
      → Fits (at k (Barriers stage)) (finds (next_of (at k (Barriers stage))) s.words) → After (Barriers stage)
  barrier_own (Loading m) x fits =
      let us : List ℕ = words_next (at k (Barriers (Loading m))) s.words in
      let position_m : ℕ = slice_index k.barrier_at m in
      let found : ℕ = word_at n s.words (barrier m position_m) in
      let same = by_load n s.words (index n (barrier m position_m)) in
      let rings = rings_after (Barriers (Loading m)) x same in
      let low : m < n.mutators = x.keeps.stage.1 in
      let inside : position_m < n.ring = x.known.barriers m 0 (let a = x.known.barriers_count in omega arith) in
      either_way (Own n us places) (found == 0) (barriers_from k (m + 1)) (at k (Barriers (Clearing m (name_at found))))
      (λ e. barriers_own n us places k x.keeps.keeps rings m
      (λ shut. empty_same n s.words us (m + 1) same
      (one_passed n s.words m position_m (places m) inside (x.keeps.rings m low) (is_same found 0 e)
      (x.keeps.empty shut))) refl)
      (λ e. ⊎_elim (λ none. absurd (not_same found 0 e none))
      (λ packed. plain n us places (at k (Barriers (Clearing m (name_at found))))
      (x.keeps.keeps, same m position_m low inside ∙ sym packed.0.same) refl rings) fits)
  barrier_own (Clearing m x) y fits =
      let us : List ℕ = words_next (at k (Barriers (Clearing m x))) s.words in
      let some : word_at n s.words (barrier m (slice_index k.barrier_at m)) ≢ 0 =
      λ none. no_zero_name x y.keeps.stage.1.1.1 (sym none ∙ y.keeps.keeps.1) in
      plain n us places (collector_next (at k (Barriers (Clearing m x))) s.words) tt refl
      (rings_taken n s.words places k m y.known refl y.joint.names.hold.size y.keeps.stage.1.0 some y.keeps.rings)

  emptying_own : (r : ℕ) → Stands n w s places (at k (Emptying r)) → After (Emptying r)
  emptying_own r x =
      let us : List ℕ = words_next (at k (Emptying r)) s.words in
      let tail : Place = work r ((window_of k r).tail % n.ring) in
      let same = by_load n s.words (index n tail) in
      let rings = rings_after (Emptying r) x same in
      let all : k.gates_shut ≡ true → PassedAreEmpty n us n.mutators =
      λ shut. empty_same n s.words us n.mutators same (x.keeps.empty shut) in
      let kept : Holdings = set_window k r (tail_up n.ring (window_of k r)) in
      either_way (Own n us places) (word_at n s.words tail == 0) (empty kept) (at k (Emptying r))
      (λ e. empty_own n us places kept x.keeps.keeps rings all)
      (λ e. record { keeps = x.keeps.keeps; empty = all; rings = rings })

  polling_own : Stands n w s places (at k Polling) → After Polling
  polling_own x =
      let us : List ℕ = words_next (at k Polling) s.words in
      let same : SameBarriers n s.words us =
      subst (λ (m : Numbers). SameBarriers n s.words (words_stepped (poll.stage_next m k.poll.stage) s.words))
      (sym x.known.poll_shape) (by_poll n s.words k.poll.stage x.known.poll) in
      let kept : Holdings = record k { poll = poll.fed k.poll (finds (next_of (at k Polling)) s.words) } in
      polled_own n us places kept x.keeps.keeps.0 (rings_after Polling x same) kept.poll.stage refl
      (λ shut. empty_same n s.words us n.mutators same (x.keeps.empty shut))

  choice_own : (stage : ChoiceStage) → Stands n w s places (at k (Choosing stage)) → After (Choosing stage)
  choice_own (LoadingLive r place) x =
      plain n (words_next (at k (Choosing (LoadingLive r place))) s.words) places
      (collector_next (at k (Choosing (LoadingLive r place))) s.words) tt refl
      (rings_after (Choosing (LoadingLive r place)) x (by_load n s.words (index n (live (r * n.tablets + place)))))
  choice_own (LoadingTop r place words) x =
      tablets_own n (words_next (at k (Choosing (LoadingTop r place words))) s.words) places
      (record k {
        used = k.used ++ record {
          top = word_at n s.words (top (r * n.tablets + place));
          live = words;
        } ∷ [];
      })
      r place
      (rings_after (Choosing (LoadingTop r place words)) x (by_load n s.words (index n (top (r * n.tablets + place)))))
  choice_own (LoadingHome i) x =
      gift_own n (words_next (at k (Choosing (LoadingHome i))) s.words) places k
      (rings_after (Choosing (LoadingHome i)) x (by_load n s.words (index n (home (chosen_tablet k i))))) i
      (word_at n s.words (home (chosen_tablet k i))) (spare_for k (chosen_tablet k i))
  choice_own (StoringLeaving i gift) x =
      plain n (words_next (at k (Choosing (StoringLeaving i gift))) s.words) places
      (at k (Choosing (StoringHome i gift))) tt refl
      (rings_after (Choosing (StoringLeaving i gift)) x
      (by_store n s.words (leaving (chosen_tablet k i)) _ (x.known.chosen i 0 x.keeps.stage.1.0) (λ m slot e. cc)))
  choice_own (StoringHome i gift) x =
      plain n (words_next (at k (Choosing (StoringHome i gift))) s.words) places
      (collector_next (at k (Choosing (StoringHome i gift))) s.words) tt refl
      (rings_after (Choosing (StoringHome i gift)) x
      (by_store n s.words (home (chosen_tablet k i)) _ (x.known.chosen i 0 x.keeps.stage.1.0) (λ m slot e. cc)))
  choice_own (StoringTop i) x =
      gifts_own n (words_next (at k (Choosing (StoringTop i))) s.words) places k
      (rings_after (Choosing (StoringTop i)) x
      (by_store n s.words (top (chosen_tablet k i)) _ (x.known.chosen i 0 x.keeps.stage.1) (λ m slot e. cc))) (i + 1)
  choice_own StoringEvac x =
      plain n (words_next (at k (Choosing StoringEvac)) s.words) places
      (at (record k { gates_shut = false }) (Choosing (Reopening 0))) refl refl
      (rings_after (Choosing StoringEvac) x (by_store n s.words phase _ tt (λ m slot e. cc)))
  choice_own (Reopening m) x =
      let us : List ℕ = words_next (at k (Choosing (Reopening m))) s.words in
      let rings = rings_after (Choosing (Reopening m)) x
      (by_store n s.words (mutator_gate m) _ x.keeps.stage.1 (λ m slot e. cc)) in
      either_way (Own n us places) (m + 1 == n.mutators) (at k (Noticing (NoticeLook 0)))
      (at k (Choosing (Reopening (m + 1))))
      (λ e. plain n us places (at k (Noticing (NoticeLook 0))) x.keeps.keeps refl rings)
      (λ e. plain n us places (at k (Choosing (Reopening (m + 1)))) x.keeps.keeps refl rings)

  own_after : (stage : CollectStage) → IsUpToEvac stage → Stands n w s places (at k stage)
      → Fits (at k stage) (finds (next_of (at k stage)) s.words) → After stage
  own_after (Idle stage) is x fits = idle_own stage x
  own_after (Pausing stage) is x fits = pause_own stage x
  own_after (Forwarding stage) is x fits = forward_step_own stage x
  own_after (Barriers stage) is x fits = barrier_own stage x fits
  own_after (Emptying r) is x fits = emptying_own r x
  own_after Polling is x fits = polling_own x
  own_after (Choosing stage) is x fits = choice_own stage x
  own_after (Noticing stage) is x fits = absurd is
  own_after Ended is x fits = absurd is

  keeps_after : (stage : CollectStage) → IsUpToEvac stage → Stands n w s places (at k stage)
      → Fits (at k stage) (finds (next_of (at k stage)) s.words)
      → CollectorKeeps n (words_next (at k stage) s.words) places (collector_next (at k stage) s.words)
  keeps_after stage is x fits =
      let own = own_after stage is x fits in record {
        stage = stage_stands k stage (finds (next_of (at k stage)) s.words) x.known x.keeps.stage fits;
        keeps = own.keeps;
        empty = own.empty;
        rings = own.rings;
      }

pub steps_keep_their_own : StepsKeepTheirOwn
steps_keep_their_own n w s places k stage is stands fits =
    subst (λ m. Stands m w s places (at k stage)
    → CollectorKeeps m (words_next (at k stage) s.words) places (collector_next (at k stage) s.words)) stands.seat.shape
    (λ x. keeps_after w s places k stage is x fits) stands
