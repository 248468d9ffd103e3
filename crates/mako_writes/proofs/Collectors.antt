-- What the collector writes, by its stage.
use Rattle.std.proofs.Common.{◌≡◌, ℕ, ◌*◌, ◌<◌, length, slice_index, sym, subst, refl, arith}
use Rattle.std.proofs.lemmas.List.Elements.{All-get_or}
use Rattle.std.proofs.lemmas.Nat.{mod_below}
use Rattle.mako_words.specs.declared.name.Name.{Name}
use Rattle.mako_shape.specs.declared.numbers.Numbers.{Numbers}
use Rattle.mako_shape.specs.Places.{Place, phase, mutator_gate, barrier, flags, notice, home, top, leaving}
use Rattle.mako_shape.specs.Belongings.{tablet_of_entry}
use Rattle.mako_shape.proofs.BelongingLaws.{belongings_in_range}
use Rattle.mako_ring.specs.Tracing.{owner}
use Rattle.mako_poll.specs.Polls as polls
use Rattle.mako_poll.specs.declared.poller.PollStage.{PollStage}
use Rattle.mako_poll.specs.declared.poller.PollStage.TheVariants.{Asking, Reading, Ended as Polled}
use Rattle.mako_pause.specs.Collecting as collecting
use Rattle.mako_pause.specs.Collecting.{Holdings, window_of, chosen_tablet}
use Rattle.mako_pause.specs.Keeping as keeping
use Rattle.mako_pause.specs.Keeping.{IsKeptKnown, IsKeptName}
use Rattle.mako_pause.specs.declared.stage.IdleStage.{IdleStage}
use Rattle.mako_pause.specs.declared.stage.IdleStage.TheVariants.{LoadingDemand, LookingFinished, StoringStop}
use Rattle.mako_pause.specs.declared.stage.PauseStage.{PauseStage}
use Rattle.mako_pause.specs.declared.stage.PauseStage.TheVariants.{Shutting, Draining, LoadingRoot, StoringTrace}
use Rattle.mako_pause.specs.declared.stage.PauseStage.TheVariants.{Opening}
use Rattle.mako_pause.specs.declared.stage.ForwardStage.{ForwardStage}
use Rattle.mako_pause.specs.declared.stage.ForwardStage.TheVariants.{Looking, Storing}
use Rattle.mako_pause.specs.declared.stage.BarrierStage.{BarrierStage}
use Rattle.mako_pause.specs.declared.stage.BarrierStage.TheVariants.{Loading, Clearing}
use Rattle.mako_pause.specs.declared.stage.ChoiceStage.{ChoiceStage}
use Rattle.mako_pause.specs.declared.stage.ChoiceStage.TheVariants.{LoadingLive, LoadingTop, LoadingHome}
use Rattle.mako_pause.specs.declared.stage.ChoiceStage.TheVariants.{StoringLeaving, StoringHome, StoringTop}
use Rattle.mako_pause.specs.declared.stage.ChoiceStage.TheVariants.{StoringEvac, Opening as Reopening}
use Rattle.mako_pause.specs.declared.stage.NoticeStage.{NoticeStage}
use Rattle.mako_pause.specs.declared.stage.NoticeStage.TheVariants.{Looking as NoticeLook, Clearing as NoticeClear}
use Rattle.mako_pause.specs.declared.stage.NoticeStage.TheVariants.{StoringIdle}
use Rattle.mako_pause.specs.declared.stage.CollectStage.{CollectStage}
use Rattle.mako_pause.specs.declared.stage.CollectStage.TheVariants.{Idle, Pausing, Forwarding, Barriers, Emptying}
use Rattle.mako_pause.specs.declared.stage.CollectStage.TheVariants.{Polling, Choosing, Noticing, Ended}
use Rattle.mako_writes.specs.Writes.{CollectorsWrite, CollectorWrites}
use Rattle.mako_writes.proofs.Touching.{Leaves, looks, at_place, ends, weaker}

-- it clears a barrier slot here
abbrev pub Clears : CollectStage → Type 0
Clears (Barriers (Clearing m x)) = Unit {0}
Clears stage = ⊥

-- it stores a home here
abbrev pub StoresHome : CollectStage → Type 0
StoresHome (Choosing (StoringHome i gift)) = Unit {0}
StoresHome stage = ⊥

-- barrier slots and homes at these stages alone
abbrev pub StageWrites : CollectStage → Place → Type 0
StageWrites stage (barrier m slot) = Clears stage
StageWrites stage (home t) = StoresHome stage
StageWrites stage p = Unit {0}

abbrev pub CollectingWrites : CollectStage → Place → Type 0
CollectingWrites stage p = CollectorWrites p × StageWrites stage p

module _ (k : Holdings) (known : IsKeptKnown k) (stage : CollectStage) where
  abbrev n : Numbers
  n = k.shape

  abbrev W : Place → Type 0
  W = CollectingWrites stage

  idling : (s : IdleStage) → Leaves n W (collecting.idle_next k s)
  idling LoadingDemand = looks n W _
  idling LookingFinished = looks n W _
  idling StoringStop = at_place n W phase _ tt (tt, tt)

  pausing : (s : PauseStage) → keeping.PauseIsKnown k s → Leaves n W (collecting.pause_next k s)
  pausing (Shutting pause m) is = at_place n W (mutator_gate m) _ is (tt, tt)
  pausing (Draining pause m) is = looks n W _
  pausing (LoadingRoot m q) is = looks n W _
  pausing StoringTrace is = at_place n W phase _ tt (tt, tt)
  pausing (Opening m) is = at_place n W (mutator_gate m) _ is (tt, tt)

  owned : (x : Name) → IsKeptName n x → owner n x < n.servers
  owned x is = belongings_in_range.tablet n (tablet_of_entry n x.entry) (belongings_in_range.entry n x.entry is.0)

  forwarding : (s : ForwardStage) → keeping.ForwardIsKnown k s → Leaves n W (collecting.forward_next k s)
  forwarding (Looking x) is = looks n W _
  forwarding (Storing x) is =
      at_place n W (collecting.head_slot k x) _
      (owned x is.0, mod_below _ n.ring (let each = known.shape.in_range.each in omega (arith, each))) (tt, tt)

  barring : (s : BarrierStage) → stage ≡ Barriers s → keeping.BarrierIsKnown k s
      → Leaves n W (collecting.barrier_next k s)
  barring (Loading m) here is = looks n W _
  barring (Clearing m x) here is =
      at_place n W (barrier m (slice_index k.barrier_at m)) _ (
        is.0,
        All-get_or (λ at. at < n.ring) k.barrier_at m 0
            (let count = known.barriers_count in let low = is.0 in omega arith) known.barriers,
      ) (tt, subst Clears (sym here) tt)

  polling : Leaves n W (polls.next_of k.poll)
  polling = subst (λ m. Leaves n W (polls.stage_next m k.poll.stage)) (sym known.poll_shape)
      (by k.poll.stage known.poll)
    where
      by : (s : PollStage) → polls.IsKnown n s → Leaves n W (polls.stage_next n s)
      by (Asking s) is = at_place n W (flags s) _ is (tt, tt)
      by (Reading s) is = looks n W _
      by (Polled outcome) is = ends n W

  chosen : (i : ℕ) → i < length k.chosen → chosen_tablet k i < n.servers * n.tablets
  chosen i low = All-get_or (λ t. t < n.servers * n.tablets) k.chosen i 0 low known.chosen

  choosing : (s : ChoiceStage) → stage ≡ Choosing s → keeping.ChoiceIsKnown k s
      → Leaves n W (collecting.choice_next k s)
  choosing (LoadingLive s place) here is = looks n W _
  choosing (LoadingTop s place words) here is = looks n W _
  choosing (LoadingHome i) here is = looks n W _
  choosing (StoringLeaving i gift) here is = at_place n W (leaving (chosen_tablet k i)) _ (chosen i is.0) (tt, tt)
  choosing (StoringHome i gift) here is =
      at_place n W (home (chosen_tablet k i)) _ (chosen i is.0) (tt, subst StoresHome (sym here) tt)
  choosing (StoringTop i) here is = at_place n W (top (chosen_tablet k i)) _ (chosen i is) (tt, tt)
  choosing StoringEvac here is = at_place n W phase _ tt (tt, tt)
  choosing (Reopening m) here is = at_place n W (mutator_gate m) _ is (tt, tt)

  noticing : (s : NoticeStage) → keeping.NoticeIsKnown k s → Leaves n W (collecting.notice_next k s)
  noticing (NoticeLook s) is = looks n W _
  noticing (NoticeClear s told) is =
      at_place n W (notice s (slice_index k.notice_at s)) _ (
        is,
        All-get_or (λ at. at < n.ring) k.notice_at s 0
            (let count = known.notices_count in omega arith) known.notices,
      ) (tt, tt)
  noticing StoringIdle is = at_place n W phase _ tt (tt, tt)

  pub collects : keeping.StageIsKnown k stage → Leaves n W (collecting.stage_next k stage)
  collects = by stage refl
    where
      by : (s : CollectStage) → stage ≡ s → keeping.StageIsKnown k s → Leaves n W (collecting.stage_next k s)
      by (Idle s) here is = idling s
      by (Pausing s) here is = pausing s is.1
      by (Forwarding s) here is = forwarding s is.1
      by (Barriers s) here is = barring s here is.1
      by (Emptying s) here is = looks n W _
      by Polling here is = polling
      by (Choosing s) here is = choosing s here is.1
      by (Noticing s) here is = noticing s is.1
      by Ended here is = ends n W

pub collectors_write : CollectorsWrite
collectors_write c words known is =
    (weaker CollectorWrites (collects c.kept known c.stage is) (λ p both. both.0)).rest words
