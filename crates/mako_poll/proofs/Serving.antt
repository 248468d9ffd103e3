-- One server goes on: the general law.
use Rattle.std.proofs.Common.{◌≡◌, ◌≢◌, ℕ, ◌%◌, ◌<◌, false, inl, inr, ap, sym, subst, ◌∙◌, arith}
use Rattle.std.proofs.lemmas.Bool.{cases_eq}
use Rattle.mako_words.specs.Flags.{flag_at}
use Rattle.mako_shape.specs.declared.numbers.Numbers.{Numbers}
use Rattle.mako_shape.specs.Places.{ghost}
use Rattle.mako_ring.specs.Facets.{Doing, resting, sending, storing, taking, clearing, ServerFacet, Poll, elsewhere}
use Rattle.mako_ring.specs.Facets.{forwarding, polling, reading, CollectorFacet, Scene, flags_of, incoming, IsSource}
use Rattle.mako_ring.specs.Rings.{slots_of}
use Rattle.mako_ring.specs.declared.ring.Ring.TheVariants.{Work, Ghost}
use Rattle.mako_ring.specs.declared.tracing.Source.{Source}
use Rattle.mako_ring.specs.declared.tracing.Source.TheVariants.{Collector, Server}
use Rattle.mako_ring.specs.Polling.{FlagsStand, MayPut, MayTake, DoingStands, GhostStands, WorkStands, IsQuietScene}
use Rattle.mako_ring.specs.Polling.{StaysClean, PollStands, PollingStands}
use Rattle.mako_poll.specs.Steps.{Turns}
use Rattle.mako_ring.proofs.Turns.{place_below}
use Rattle.mako_ring.proofs.RingLaws.{ring_same}
use Rattle.mako_poll.proofs.Changing.{Changes}

-- what the going server has to show
pub record Shows (n : Numbers) (s after : Scene) (i : ℕ) (g : ServerFacet) : Type 0 where
  pub flags : FlagsStand n after.word i g
  pub doing : DoingStands n after.word i g g.doing
  pub sends : (b : ℕ) → b < n.servers → b ≢ i → GhostStands n after.word i b g (s.server b)
  pub takes : (a : ℕ) → a < n.servers → a ≢ i → GhostStands n after.word a i (s.server a) g
  pub works : WorkStands n after.word i s.collector g
  -- it clears changed never, and raises busy and ghost only with it
  pub calm : (flags_of after.word i).changed ≡ false → ((flags_of s.word i).changed ≡ false)
      × ((flags_of s.word i).busy ≡ false → (flags_of after.word i).busy ≡ false)
      × ((flags_of s.word i).ghost_ ≡ false → (flags_of after.word i).ghost_ ≡ false)
  -- out of a quiet heap it gets nothing
  pub quiet : IsQuietScene n s → (g.working ≡ false)
      × ((r k : ℕ) → r < n.servers → k < n.ring → after.word (ghost i r k) ≡ 0)

module _ (n : Numbers) (s after : Scene) (i : ℕ) (g : ServerFacet) (h : PollingStands n s) (turn : Turns n s after i g)
    (ch : Changes n s.word after.word i) where
  -- a ring has slots
  pub some_slots : 0 < n.ring
  some_slots = let b = (h.works i turn.in_range).at_below in omega arith

  place : (a : ℕ) → a % n.ring < n.ring
  place a = place_below n.ring a some_slots

  flags_same : (j : ℕ) → j < n.servers → j ≢ i → flags_of after.word j ≡ flags_of s.word j
  flags_same j lt d = ap flag_at (ch.flags_other j lt d)

  flags_kept : (j : ℕ) → j < n.servers → j ≢ i → FlagsStand n after.word j (s.server j)
  flags_kept j lt d = let f = h.flags j lt in record {
    packed = subst (λ (x : ℕ). x < 8) (sym (ch.flags_other j lt d)) f.packed;
    busy = λ c. f.busy (ap (λ x. x.busy) (sym (flags_same j lt d)) ∙ c);
    sent = λ c. let q = f.sent (ap (λ x. x.ghost_) (sym (flags_same j lt d)) ∙ c) in
        (q.0, λ r k lr lk. ch.sent_zero j r k lt d lr lk (q.1 r k lr lk));
    own = λ k lk. ch.sent_zero j j k lt d lt lk (f.own k lk);
  }

  incoming_kept : (j : ℕ) → j < n.servers → j ≢ i → (source : Source) → IsSource n j source
      → s.word (incoming j (s.server j) source) ≢ 0
      → after.word (incoming j (s.server j) source) ≡ s.word (incoming j (s.server j) source)
  incoming_kept j lt d Collector is filled = ch.works_other j (s.server j).work_at lt d (h.works j lt).at_below
  incoming_kept j lt d (Server a) is filled =
      ch.filled_other a j ((s.server j).ghost_at a) is.0 lt d (h.ghosts a j is.0 lt is.1).at_below filled

  may_put_kept : (j r : ℕ) → j < n.servers → j ≢ i → MayPut n s.word j (s.server j) r
      → MayPut n after.word j (s.server j) r
  may_put_kept j r lt d m = record {
    in_range = m.in_range;
    other = m.other;
    working = m.working;
    free = ch.sent_zero j r (((s.server j).window r).head % n.ring) lt d m.in_range
        (place ((s.server j).window r).head) m.free;
    room = m.room;
  }

  may_take_kept : (j : ℕ) (source : Source) (w : ℕ) → j < n.servers → j ≢ i → MayTake n s.word j (s.server j) source w
      → MayTake n after.word j (s.server j) source w
  may_take_kept j source w lt d m = record {
    is_source = m.is_source;
    found = incoming_kept j lt d source m.is_source (λ z. m.filled (sym m.found ∙ z)) ∙ m.found;
    filled = m.filled;
  }

  doing_kept : (j : ℕ) → j < n.servers → j ≢ i → (d : Doing) → DoingStands n s.word j (s.server j) d
      → DoingStands n after.word j (s.server j) d
  doing_kept j lt d resting m = tt
  doing_kept j lt d (sending r) m = may_put_kept j r lt d m
  doing_kept j lt d (storing r) m = may_put_kept j r lt d m
  doing_kept j lt d (taking source w) m = may_take_kept j source w lt d m
  doing_kept j lt d (clearing source w) m = may_take_kept j source w lt d m

  -- what holds of server i as it is now, and of the others as they were, holds of all
  each : (P : ℕ → ServerFacet → Type 0) → P i g → ((j : ℕ) → j < n.servers → j ≢ i → P j (s.server j)) → (j : ℕ)
      → j < n.servers → P j (after.server j)
  each P own rest j lt = elim (cases_eq j i) [
    | inl e ↦ subst (λ (k : ℕ). P k (after.server k)) (sym e) (subst (P i) (sym turn.here) own)
    | inr d ↦ subst (P j) (sym (turn.others j lt d)) (rest j lt d)
  ]

  module _ (shows : Shows n s after i g) where
    ghosts_after : (a b : ℕ) → a < n.servers → b < n.servers → a ≢ b
        → GhostStands n after.word a b (after.server a) (after.server b)
    ghosts_after a b la lb d =
        each (λ a f. a ≢ b → GhostStands n after.word a b f (after.server b)) from_i from_other a la d
      where
        from_i : i ≢ b → GhostStands n after.word i b g (after.server b)
        from_i d = subst (λ (f : ServerFacet). GhostStands n after.word i b g f)
            (sym (turn.others b lb (λ e. d (sym e))))
            (shows.sends b lb (λ e. d (sym e)))

        from_other : (a : ℕ) → a < n.servers → a ≢ i → a ≢ b
            → GhostStands n after.word a b (s.server a) (after.server b)
        from_other a la da d =
            each (λ b f. a ≢ b → GhostStands n after.word a b (s.server a) f) (λ e. shows.takes a la da)
            (λ b lb db d. ring_same n.ring (slots_of s.word (Ghost a b)) ((s.server b).ghost_at a)
            ((s.server a).window b) (h.ghosts a b la lb d) (slots_of after.word (Ghost a b))
            (λ k lk. ch.rings_other a b k la lb da db lk)) b lb d

    works_after : (r : ℕ) → r < n.servers → WorkStands n after.word r s.collector (after.server r)
    works_after r lr = each (λ r f. WorkStands n after.word r s.collector f) shows.works
        (λ r lr d. ring_same n.ring (slots_of s.word (Work r)) (s.server r).work_at (s.collector.window r)
        (h.works r lr) (slots_of after.word (Work r)) (λ k lk. ch.works_other r k lr d lk)) r lr

    pub quiet_after : IsQuietScene n s → IsQuietScene n after
    quiet_after q = record {
      servers = each (λ j f. f.working ≡ false) (shows.quiet q).0 (λ j lt d. q.servers j lt);
      works = λ r k lr lk. ch.works_zero r k lr lk (q.works r k lr lk);
      ghosts = λ a b k la lb lk. elim (cases_eq a i) [
        | inl e ↦ subst (λ (x : ℕ). after.word (ghost x b k) ≡ 0) (sym e) ((shows.quiet q).1 b k lb lk)
        | inr d ↦ ch.sent_zero a b k la d lb lk (q.ghosts a b k la lb lk)
      ];
      pending = ap (λ c. c.pending) turn.collector ∙ q.pending;
    }

    -- what no change after the step says of the flags before it
    calm_each : (j : ℕ) → j < n.servers → (flags_of after.word j).changed ≡ false
        → ((flags_of s.word j).changed ≡ false)
        × ((flags_of s.word j).busy ≡ false → (flags_of after.word j).busy ≡ false)
        × ((flags_of s.word j).ghost_ ≡ false → (flags_of after.word j).ghost_ ≡ false)
    calm_each j lt c = elim (cases_eq j i) [
      | inl e ↦ subst (λ (x : ℕ). (flags_of after.word x).changed ≡ false → ((flags_of s.word x).changed ≡ false)
          × ((flags_of s.word x).busy ≡ false → (flags_of after.word x).busy ≡ false)
          × ((flags_of s.word x).ghost_ ≡ false → (flags_of after.word x).ghost_ ≡ false)) (sym e) shows.calm c
      | inr d ↦ let same = flags_same j lt d in
          (ap (λ x. x.changed) (sym same) ∙ c, λ f. ap (λ x. x.busy) same ∙ f, λ f. ap (λ x. x.ghost_) same ∙ f)
    ]

    clean_kept : (j : ℕ) → j < n.servers → StaysClean s.word j → StaysClean after.word j
    clean_kept j lt clean c = let calm = calm_each j lt c in let both = clean calm.0 in (calm.1 both.0, calm.2 both.1)

    poll_kept : (p : Poll) → PollStands n s p → PollStands n (record after { collector = s.collector }) p
    poll_kept elsewhere stands = tt
    poll_kept (forwarding r) stands = (
      stands.0,
      ch.works_zero r ((s.collector.window r).head % n.ring) stands.0
          (place (s.collector.window r).head) stands.1,
      stands.2,
    )
    poll_kept (polling k) stands = (stands.0, λ j lt below. clean_kept j lt (stands.1 j lt below))
    poll_kept (reading k) stands = (
      stands.0,
      λ none. let q = quiet_after (stands.1 (λ j ge lt. (calm_each j lt (none j ge lt)).0)) in
          record {
            servers = q.servers;
            works = q.works;
            ghosts = q.ghosts;
            pending = ap (λ c. c.pending) (sym turn.collector) ∙ q.pending;
          },
    )

    pub serves_hold : PollingStands n after
    serves_hold = record {
      flags = each (λ j f. FlagsStand n after.word j f) shows.flags flags_kept;
      doing = each (λ j f. DoingStands n after.word j f f.doing) shows.doing
          (λ j lt d. doing_kept j lt d (s.server j).doing (h.doing j lt));
      ghosts = ghosts_after;
      works = λ r lr. subst (λ (c : CollectorFacet). WorkStands n after.word r c (after.server r)) (sym turn.collector)
          (works_after r lr);
      poll = subst (λ (c : CollectorFacet). PollStands n (record after { collector = c }) c.poll) (sym turn.collector)
          (poll_kept s.collector.poll h.poll);
    }
