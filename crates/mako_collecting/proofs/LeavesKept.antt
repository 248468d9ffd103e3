-- What each step leaves of what the collector keeps, and how the choice begins.
use Rattle.std.proofs.Common.{◌≡◌, ℕ, ◌+◌, ◌*◌, ◌%◌, ◌==◌, nat_lt, Bool, cond, Option, Some, None, List, [], ◌∷◌, ◌++◌}
use Rattle.std.proofs.Common.{length, position, slice_index, ap, refl, ◌∙◌, arith}
use Rattle.mako_words.specs.Gates.{count_of}
use Rattle.mako_words.specs.Names.{name_at}
use Rattle.mako_words.specs.declared.name.Name.{Name}
use Rattle.mako_shape.specs.Places.{demand, finished, mutator_gate, barrier, work, home, top, word_at}
use Rattle.mako_step.specs.Acts.{finds}
use Rattle.mako_ring.specs.Tracing.{owner, is_open}
use Rattle.mako_ring.specs.Windows.{found_room, head_up, tail_up}
use Rattle.mako_poll.specs.Polls as poll
use Rattle.mako_poll.specs.declared.poller.PollStage.{PollStage}
use Rattle.mako_poll.specs.declared.poller.PollStage.TheVariants.{Asking, Reading, Ended as Polled}
use Rattle.mako_poll.specs.declared.poller.Polled.TheVariants.{Told, NotYet}
use Rattle.mako_layout.specs.Facets.{chooses, settled, spare_of}
use Rattle.mako_pause.specs.Collecting.{Holdings, Collecting, window_of, set_window, next_of, forward, forward_from}
use Rattle.mako_pause.specs.Collecting.{empty, empty_from, barriers_from, polled_at, paused, gifts_from, gift_of}
use Rattle.mako_pause.specs.Collecting.{server_chosen, servers_from, after_tablet, chosen_tablet, spare_for, at}
use Rattle.mako_pause.specs.declared.stage.Pause.{Pause}
use Rattle.mako_pause.specs.declared.stage.Pause.TheVariants.{Snapshot, Choice as ForChoice}
use Rattle.mako_pause.specs.declared.stage.IdleStage.TheVariants.{LoadingDemand, LookingFinished, StoringStop}
use Rattle.mako_pause.specs.declared.stage.PauseStage.TheVariants.{Shutting, Draining, LoadingRoot, StoringTrace}
use Rattle.mako_pause.specs.declared.stage.PauseStage.TheVariants.{Opening}
use Rattle.mako_pause.specs.declared.stage.ForwardStage.TheVariants.{Looking, Storing}
use Rattle.mako_pause.specs.declared.stage.BarrierStage.TheVariants.{Loading, Clearing}
use Rattle.mako_pause.specs.declared.stage.ChoiceStage.TheVariants.{LoadingLive, LoadingTop, LoadingHome}
use Rattle.mako_pause.specs.declared.stage.ChoiceStage.TheVariants.{StoringLeaving, StoringHome, StoringTop}
use Rattle.mako_pause.specs.declared.stage.ChoiceStage.TheVariants.{StoringEvac, Opening as Reopening}
use Rattle.mako_pause.specs.declared.stage.NoticeStage.TheVariants.{Looking as NoticeLook}
use Rattle.mako_pause.specs.declared.stage.CollectStage.{CollectStage}
use Rattle.mako_pause.specs.declared.stage.CollectStage.TheVariants.{Idle, Pausing, Forwarding, Barriers, Emptying}
use Rattle.mako_pause.specs.declared.stage.CollectStage.TheVariants.{Polling, Choosing, Noticing, Ended}
use Rattle.mako_collecting.specs.Roles.{LeavesKept, StepsLeaveKept, ChoicesBegin}
use Rattle.mako_collecting.proofs.Idling.{either_way}

pub choices_begin : ChoicesBegin
choices_begin n words choice k spare rest = record {
  begun = ap (λ x. chooses settled [] (spare_of x)) rest.rests;
  spares = λ r low. let a = rest.spares r low in omega arith;
  done = λ t some. absurd (some refl);
  gift = tt;
}

abbrev Same : Holdings → Collecting → Type 0
Same k c = LeavesKept k k.roles c

same : (k : Holdings) (stage : CollectStage) → Same k (at k stage)
same k stage = record { shape = refl; cycle = refl; roles_are = refl }

-- of two machines either
either_same : (k : Holdings) (b : Bool) (x y : Collecting) → Same k x → Same k y → Same k (cond b x y)
either_same k b x y f g = either_way (Same k) b x y (λ e. f) (λ e. g)

forward_same : (k : Holdings) → Same k (forward k)
forward_same k = from k.pending
  where
    from : (xs : List Name) → Same k (forward_from k xs)
    from [] = record { shape = refl; cycle = refl; roles_are = refl }
    from (x ∷ xs) = record { shape = refl; cycle = refl; roles_are = refl }

empty_same : (k : Holdings) → Same k (empty k)
empty_same k = from (position is_open k.windows)
  where
    from : (o : Option ℕ) → Same k (empty_from k o)
    from None = record { shape = refl; cycle = refl; roles_are = refl }
    from (Some r) = record { shape = refl; cycle = refl; roles_are = refl }

polled_same : (k : Holdings) (q : PollStage) → Same k (polled_at k q)
polled_same k (Asking r) = same k Polling
polled_same k (Reading r) = same k Polling
polled_same k (Polled (NotYet r v)) = same k (Barriers (Loading 0))
polled_same k (Polled Told) =
    either_same k k.gates_shut (at (record k { used = []; chosen = [] }) (Choosing (LoadingLive 0 0)))
    (at k (Pausing (Shutting ForChoice 0))) (record { shape = refl; cycle = refl; roles_are = refl })
    (same k (Pausing (Shutting ForChoice 0)))

paused_same : (k : Holdings) (pause : Pause) → Same k (paused k pause)
paused_same k Snapshot = record { shape = refl; cycle = refl; roles_are = refl }
paused_same k ForChoice = record { shape = refl; cycle = refl; roles_are = refl }

gifts_same : (k : Holdings) (i : ℕ) → Same k (gifts_from k i)
gifts_same k i =
    either_same k (nat_lt i (length k.chosen)) (at k (Choosing (LoadingHome i))) (at k (Choosing StoringEvac))
    (same k (Choosing (LoadingHome i))) (same k (Choosing StoringEvac))

gift_same : (k : Holdings) (i former : ℕ) (o : Option ℕ) → Same k (gift_of k i former o)
gift_same k i former None = record { shape = refl; cycle = refl; roles_are = refl }
gift_same k i former (Some region) = record { shape = refl; cycle = refl; roles_are = refl }

servers_same : (k : Holdings) (r : ℕ) → Same k (servers_from k r)
servers_same k r =
    either_same k (r == k.shape.servers) (gifts_from k 0) (at k (Choosing (LoadingLive r 0))) (gifts_same k 0)
    (same k (Choosing (LoadingLive r 0)))

tablets_same : (k : Holdings) (r place : ℕ) → Same k (after_tablet k r place)
tablets_same k r place =
    either_same k (place + 1 == k.shape.tablets) (servers_from (server_chosen k r) (r + 1))
    (at k (Choosing (LoadingLive r (place + 1))))
    (let x = servers_same (server_chosen k r) (r + 1) in
    record { shape = x.shape; cycle = x.cycle; roles_are = x.roles_are })
    (same k (Choosing (LoadingLive r (place + 1))))

-- what is kept, with other parts
moved : (k h : Holdings) (c : Collecting) → h.shape ≡ k.shape → h.cycle ≡ k.cycle → h.roles ≡ k.roles → Same h c
    → Same k c
moved k h c shape cycle roles x =
    record { shape = x.shape ∙ shape; cycle = x.cycle ∙ cycle; roles_are = x.roles_are ∙ roles }

pub steps_leave_kept : StepsLeaveKept
steps_leave_kept k (Idle LoadingDemand) words is =
    either_same k (nat_lt k.cycle (word_at k.shape words demand)) (at k (Pausing (Shutting Snapshot 0)))
    (at k (Idle LookingFinished)) (same k (Pausing (Shutting Snapshot 0))) (same k (Idle LookingFinished))
steps_leave_kept k (Idle LookingFinished) words is =
    either_same k (word_at k.shape words finished == k.shape.mutators) (at k (Idle StoringStop))
    (at k (Idle LoadingDemand)) (same k (Idle StoringStop)) (same k (Idle LoadingDemand))
steps_leave_kept k (Idle StoringStop) words is = same k Ended
steps_leave_kept k (Pausing (Shutting pause m)) words is =
    either_same k (m + 1 == k.shape.mutators) (at k (Pausing (Draining pause 0)))
    (at k (Pausing (Shutting pause (m + 1)))) (same k (Pausing (Draining pause 0)))
    (same k (Pausing (Shutting pause (m + 1))))
steps_leave_kept k (Pausing (Draining pause m)) words is =
    either_same k (nat_lt 0 (count_of (word_at k.shape words (mutator_gate m)))) (at k (Pausing (Draining pause m)))
    (cond (m + 1 == k.shape.mutators) (paused k pause) (at k (Pausing (Draining pause (m + 1)))))
    (same k (Pausing (Draining pause m)))
    (either_same k (m + 1 == k.shape.mutators) (paused k pause) (at k (Pausing (Draining pause (m + 1))))
    (paused_same k pause) (same k (Pausing (Draining pause (m + 1)))))
steps_leave_kept k (Pausing (LoadingRoot m q)) words is = record { shape = refl; cycle = refl; roles_are = refl }
steps_leave_kept k (Pausing StoringTrace) words is = same k (Pausing (Opening 0))
steps_leave_kept k (Pausing (Opening m)) words is =
    either_same k (m + 1 == k.shape.mutators) (forward k) (at k (Pausing (Opening (m + 1)))) (forward_same k)
    (same k (Pausing (Opening (m + 1))))
steps_leave_kept k (Forwarding (Looking x)) words is =
    let head = work (owner k.shape x) ((window_of k (owner k.shape x)).head % k.shape.ring) in
    let kept : Holdings =
    set_window k (owner k.shape x) (found_room k.shape.ring (window_of k (owner k.shape x))) in
    either_same k (word_at k.shape words head == 0) (at kept (Forwarding (Storing x))) (at k (Forwarding (Looking x)))
    (moved k kept (at kept (Forwarding (Storing x))) refl refl refl (same kept (Forwarding (Storing x))))
    (same k (Forwarding (Looking x)))
steps_leave_kept k (Forwarding (Storing x)) words is =
    let kept : Holdings = set_window k (owner k.shape x) (head_up (window_of k (owner k.shape x))) in
    moved k kept (forward kept) refl refl refl (forward_same kept)
steps_leave_kept k (Barriers (Loading m)) words is =
    let found : ℕ = word_at k.shape words (barrier m (slice_index k.barrier_at m)) in
    either_same k (found == 0) (barriers_from k (m + 1)) (at k (Barriers (Clearing m (name_at found))))
    (either_same k (m + 1 == k.shape.mutators) (empty k) (at k (Barriers (Loading (m + 1)))) (empty_same k)
    (same k (Barriers (Loading (m + 1))))) (same k (Barriers (Clearing m (name_at found))))
steps_leave_kept k (Barriers (Clearing m x)) words is = record { shape = refl; cycle = refl; roles_are = refl }
steps_leave_kept k (Emptying r) words is =
    let kept : Holdings = set_window k r (tail_up k.shape.ring (window_of k r)) in
    let tail = work r ((window_of k r).tail % k.shape.ring) in
    either_same k (word_at k.shape words tail == 0) (empty kept) (at k (Emptying r))
    (moved k kept (empty kept) refl refl refl (empty_same kept)) (same k (Emptying r))
steps_leave_kept k Polling words is =
    let kept : Holdings = record k { poll = poll.fed k.poll (finds (next_of (at k Polling)) words) } in
    moved k kept (polled_at kept kept.poll.stage) refl refl refl (polled_same kept kept.poll.stage)
steps_leave_kept k (Choosing (LoadingLive r place)) words is = record { shape = refl; cycle = refl; roles_are = refl }
steps_leave_kept k (Choosing (LoadingTop r place number)) words is =
    let w : ℕ = word_at k.shape words (top (r * k.shape.tablets + place)) in
    let kept : Holdings = record k { used = k.used ++ record { top = w; live = number } ∷ [] } in
    moved k kept (after_tablet kept r place) refl refl refl (tablets_same kept r place)
steps_leave_kept k (Choosing (LoadingHome i)) words is =
    gift_same k i (word_at k.shape words (home (chosen_tablet k i))) (spare_for k (chosen_tablet k i))
steps_leave_kept k (Choosing (StoringLeaving i gift)) words is = same k (Choosing (StoringHome i gift))
steps_leave_kept k (Choosing (StoringHome i gift)) words is = record { shape = refl; cycle = refl; roles_are = refl }
steps_leave_kept k (Choosing (StoringTop i)) words is = gifts_same k (i + 1)
steps_leave_kept k (Choosing StoringEvac) words is = record { shape = refl; cycle = refl; roles_are = refl }
steps_leave_kept k (Choosing (Reopening m)) words is =
    either_same k (m + 1 == k.shape.mutators) (at k (Noticing (NoticeLook 0))) (at k (Choosing (Reopening (m + 1))))
    (same k (Noticing (NoticeLook 0))) (same k (Choosing (Reopening (m + 1))))
steps_leave_kept k (Noticing stage) words is = absurd is
steps_leave_kept k Ended words is = absurd is
