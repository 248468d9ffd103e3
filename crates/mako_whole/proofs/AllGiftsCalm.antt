-- After all but one stage no region that was given up is still to be told.
use Rattle.std.proofs.Common.{◌≡◌, ℕ, ◌+◌, ◌*◌, ◌%◌, ◌==◌, nat_lt, Bool, cond, Option, Some, None, List, [], ◌∷◌, ◌++◌}
use Rattle.std.proofs.Common.{length, position, slice_index, refl}
use Rattle.mako_words.specs.Gates.{count_of}
use Rattle.mako_words.specs.Names.{name_at}
use Rattle.mako_words.specs.declared.name.Name.{Name}
use Rattle.mako_shape.specs.Places.{demand, finished, mutator_gate, barrier, work, home, top, word_at}
use Rattle.mako_step.specs.Acts.{finds}
use Rattle.mako_ring.specs.Tracing.{owner, is_open}
use Rattle.mako_ring.specs.Windows.{found_room, head_up, tail_up}
use Rattle.mako_poll.specs.Polls as poll
use Rattle.mako_poll.specs.declared.poller.PollStage.{PollStage}
use Rattle.mako_poll.specs.declared.poller.PollStage.TheVariants.{Asking, Reading, Ended as Polled}
use Rattle.mako_poll.specs.declared.poller.Polled.TheVariants.{Told, NotYet}
use Rattle.mako_pause.specs.Collecting.{Holdings, Collecting, at, window_of, set_window, next_of, forward, forward_from}
use Rattle.mako_pause.specs.Collecting.{empty, empty_from, barriers_from, polled_at, paused, gifts_from, gift_of}
use Rattle.mako_pause.specs.Collecting.{server_chosen, servers_from, after_tablet, chosen_tablet, spare_for}
use Rattle.mako_pause.specs.declared.stage.Pause.{Pause}
use Rattle.mako_pause.specs.declared.stage.Pause.TheVariants.{Snapshot, Choice as ForChoice}
use Rattle.mako_pause.specs.declared.stage.IdleStage.TheVariants.{LoadingDemand, LookingFinished, StoringStop}
use Rattle.mako_pause.specs.declared.stage.PauseStage.TheVariants.{Shutting, Draining, LoadingRoot, StoringTrace}
use Rattle.mako_pause.specs.declared.stage.PauseStage.TheVariants.{Opening}
use Rattle.mako_pause.specs.declared.stage.ForwardStage.TheVariants.{Looking, Storing}
use Rattle.mako_pause.specs.declared.stage.BarrierStage.TheVariants.{Loading, Clearing}
use Rattle.mako_pause.specs.declared.stage.ChoiceStage.TheVariants.{LoadingLive, LoadingTop, LoadingHome}
use Rattle.mako_pause.specs.declared.stage.ChoiceStage.TheVariants.{StoringLeaving, StoringHome, StoringTop}
use Rattle.mako_pause.specs.declared.stage.ChoiceStage.TheVariants.{StoringEvac, Opening as Reopening}
use Rattle.mako_pause.specs.declared.stage.NoticeStage.TheVariants.{Looking as NoticeLook}
use Rattle.mako_pause.specs.declared.stage.CollectStage.{CollectStage}
use Rattle.mako_pause.specs.declared.stage.CollectStage.TheVariants.{Idle, Pausing, Forwarding, Barriers, Emptying}
use Rattle.mako_pause.specs.declared.stage.CollectStage.TheVariants.{Polling, Choosing, Noticing, Ended}
use Rattle.mako_collecting.specs.Steps.{collector_next}
use Rattle.mako_collecting.proofs.Idling.{either_way}
use Rattle.mako_whole.specs.AllGifts.{untold_in, GivesNone}

abbrev pub Calm : Collecting → Type 0
Calm c = (r : ℕ) → untold_in c.stage r ≡ 0

-- of two machines either
either_calm : (b : Bool) (x y : Collecting) → Calm x → Calm y → Calm (cond b x y)
either_calm b x y f g = either_way Calm b x y (λ e. f) (λ e. g)

forward_calm : (k : Holdings) → Calm (forward k)
forward_calm k = from k.pending
  where
    from : (xs : List Name) → Calm (forward_from k xs)
    from [] r = refl
    from (x ∷ xs) r = refl

empty_calm : (k : Holdings) → Calm (empty k)
empty_calm k = from (position is_open k.windows)
  where
    from : (o : Option ℕ) → Calm (empty_from k o)
    from None r = refl
    from (Some q) r = refl

polled_calm : (k : Holdings) (q : PollStage) → Calm (polled_at k q)
polled_calm k (Asking q) = λ r. refl
polled_calm k (Reading q) = λ r. refl
polled_calm k (Polled (NotYet q v)) = λ r. refl
polled_calm k (Polled Told) =
    either_calm k.gates_shut (at (record k { used = []; chosen = [] }) (Choosing (LoadingLive 0 0)))
    (at k (Pausing (Shutting ForChoice 0))) (λ r. refl) (λ r. refl)

paused_calm : (k : Holdings) (pause : Pause) → Calm (paused k pause)
paused_calm k Snapshot r = refl
paused_calm k ForChoice r = refl

gifts_calm : (k : Holdings) (i : ℕ) → Calm (gifts_from k i)
gifts_calm k i =
    either_calm (nat_lt i (length k.chosen)) (at k (Choosing (LoadingHome i))) (at k (Choosing StoringEvac))
    (λ r. refl) (λ r. refl)

gift_calm : (k : Holdings) (i former : ℕ) (o : Option ℕ) → Calm (gift_of k i former o)
gift_calm k i former None r = refl
gift_calm k i former (Some region) r = refl

servers_calm : (k : Holdings) (q : ℕ) → Calm (servers_from k q)
servers_calm k q =
    either_calm (q == k.shape.servers) (gifts_from k 0) (at k (Choosing (LoadingLive q 0))) (gifts_calm k 0)
    (λ r. refl)

tablets_calm : (k : Holdings) (q place : ℕ) → Calm (after_tablet k q place)
tablets_calm k q place =
    either_calm (place + 1 == k.shape.tablets) (servers_from (server_chosen k q) (q + 1))
    (at k (Choosing (LoadingLive q (place + 1)))) (servers_calm (server_chosen k q) (q + 1)) (λ r. refl)

pub steps_are_calm : (k : Holdings) (stage : CollectStage) (words : List ℕ) → GivesNone stage
    → Calm (collector_next (at k stage) words)
steps_are_calm k (Idle LoadingDemand) words is =
    either_calm (nat_lt k.cycle (word_at k.shape words demand)) (at k (Pausing (Shutting Snapshot 0)))
    (at k (Idle LookingFinished)) (λ r. refl) (λ r. refl)
steps_are_calm k (Idle LookingFinished) words is =
    either_calm (word_at k.shape words finished == k.shape.mutators) (at k (Idle StoringStop))
    (at k (Idle LoadingDemand)) (λ r. refl) (λ r. refl)
steps_are_calm k (Idle StoringStop) words is = λ r. refl
steps_are_calm k (Pausing (Shutting pause m)) words is =
    either_calm (m + 1 == k.shape.mutators) (at k (Pausing (Draining pause 0)))
    (at k (Pausing (Shutting pause (m + 1)))) (λ r. refl) (λ r. refl)
steps_are_calm k (Pausing (Draining pause m)) words is =
    either_calm (nat_lt 0 (count_of (word_at k.shape words (mutator_gate m)))) (at k (Pausing (Draining pause m)))
    (cond (m + 1 == k.shape.mutators) (paused k pause) (at k (Pausing (Draining pause (m + 1))))) (λ r. refl)
    (either_calm (m + 1 == k.shape.mutators) (paused k pause) (at k (Pausing (Draining pause (m + 1))))
    (paused_calm k pause) (λ r. refl))
steps_are_calm k (Pausing (LoadingRoot m q)) words is = λ r. refl
steps_are_calm k (Pausing StoringTrace) words is = λ r. refl
steps_are_calm k (Pausing (Opening m)) words is =
    either_calm (m + 1 == k.shape.mutators) (forward k) (at k (Pausing (Opening (m + 1)))) (forward_calm k)
    (λ r. refl)
steps_are_calm k (Forwarding (Looking x)) words is =
    let head = work (owner k.shape x) ((window_of k (owner k.shape x)).head % k.shape.ring) in
    let kept : Holdings =
    set_window k (owner k.shape x) (found_room k.shape.ring (window_of k (owner k.shape x))) in
    either_calm (word_at k.shape words head == 0) (at kept (Forwarding (Storing x))) (at k (Forwarding (Looking x)))
    (λ r. refl) (λ r. refl)
steps_are_calm k (Forwarding (Storing x)) words is =
    forward_calm (set_window k (owner k.shape x) (head_up (window_of k (owner k.shape x))))
steps_are_calm k (Barriers (Loading m)) words is =
    let found : ℕ = word_at k.shape words (barrier m (slice_index k.barrier_at m)) in
    either_calm (found == 0) (barriers_from k (m + 1)) (at k (Barriers (Clearing m (name_at found))))
    (either_calm (m + 1 == k.shape.mutators) (empty k) (at k (Barriers (Loading (m + 1)))) (empty_calm k) (λ r. refl))
    (λ r. refl)
steps_are_calm k (Barriers (Clearing m x)) words is = λ r. refl
steps_are_calm k (Emptying q) words is =
    let kept : Holdings = set_window k q (tail_up k.shape.ring (window_of k q)) in
    let tail = work q ((window_of k q).tail % k.shape.ring) in
    either_calm (word_at k.shape words tail == 0) (empty kept) (at k (Emptying q)) (empty_calm kept) (λ r. refl)
steps_are_calm k Polling words is =
    let kept : Holdings = record k { poll = poll.fed k.poll (finds (next_of (at k Polling)) words) } in
    polled_calm kept kept.poll.stage
steps_are_calm k (Choosing (LoadingLive q place)) words is = λ r. refl
steps_are_calm k (Choosing (LoadingTop q place number)) words is =
    tablets_calm
    (record k {
      used = k.used ++ record { top = word_at k.shape words (top (q * k.shape.tablets + place)); live = number } ∷ [];
    }) q place
steps_are_calm k (Choosing (LoadingHome i)) words is =
    gift_calm k i (word_at k.shape words (home (chosen_tablet k i))) (spare_for k (chosen_tablet k i))
steps_are_calm k (Choosing (StoringLeaving i gift)) words is = absurd is
steps_are_calm k (Choosing (StoringHome i gift)) words is = absurd is
steps_are_calm k (Choosing (StoringTop i)) words is = gifts_calm k (i + 1)
steps_are_calm k (Choosing StoringEvac) words is = λ r. refl
steps_are_calm k (Choosing (Reopening m)) words is =
    either_calm (m + 1 == k.shape.mutators) (at k (Noticing (NoticeLook 0))) (at k (Choosing (Reopening (m + 1))))
    (λ r. refl) (λ r. refl)
steps_are_calm k (Noticing stage) words is = absurd is
steps_are_calm k Ended words is = λ r. refl
