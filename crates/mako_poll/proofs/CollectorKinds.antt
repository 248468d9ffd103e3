-- Each kind of step of the collector keeps the law.
use Rattle.std.proofs.Common.{◌≡◌, ◌≢◌, ℕ, ◌+◌, ◌%◌, ◌<◌, false, inl, inr, ap, sym, subst, ◌∙◌, arith}
use Rattle.std.specs.Prelude.{bit_and}
use Rattle.std.proofs.lemmas.Bool.{cases_eq}
use Rattle.mako_words.specs.declared.flag_word.FlagWord.{FlagWord}
use Rattle.mako_words.specs.Flags.{flag_at}
use Rattle.mako_words.specs.Words.{all_but}
use Rattle.mako_shape.specs.declared.numbers.Numbers.{Numbers}
use Rattle.mako_shape.specs.Places.{flags, work, ghost}
use Rattle.mako_ring.specs.Contents.{RingStands}
use Rattle.mako_ring.specs.Windows.{tail_up, head_up, found_room}
use Rattle.mako_ring.specs.declared.window.Window.{Window}
use Rattle.mako_ring.specs.Facets.{Doing, resting, sending, storing, taking, clearing, ServerFacet, Poll, elsewhere}
use Rattle.mako_ring.specs.Facets.{forwarding, polling, reading, CollectorFacet, Scene, flags_of, incoming, IsSource}
use Rattle.mako_ring.specs.Rings.{slots_of}
use Rattle.mako_ring.specs.declared.ring.Ring.TheVariants.{Work, Ghost}
use Rattle.mako_ring.specs.declared.tracing.Source.{Source}
use Rattle.mako_ring.specs.declared.tracing.Source.TheVariants.{Collector, Server}
use Rattle.mako_ring.specs.Polling.{FlagsStand, MayPut, MayTake, DoingStands, GhostStands, WorkStands, IsQuietScene}
use Rattle.mako_ring.specs.Polling.{NothingSent, StaysClean, NoChange, PollStands, PollingStands}
use Rattle.mako_poll.specs.Steps.{Untouched, Wrote, Collects, SameWindows, SetsWork, CollectorStep, Waits, Leaves}
use Rattle.mako_poll.specs.Steps.{FindsWorkRoom, Forwards, SeesWorkEmptied, BeginsPoll, FindsWork, FindsClean}
use Rattle.mako_poll.specs.Steps.{TurnsToRead, ReadsZero}
use Rattle.mako_ring.proofs.Turns.{place_below}
use Rattle.mako_ring.proofs.RingLaws.{ring_same, ring_empty, ring_tail, ring_room, ring_put}
use Rattle.mako_poll.proofs.Flagging.{Flagged, polled, left_alone}

module _ (n : Numbers) (s after : Scene) (d : CollectorFacet) (h : PollingStands n s)
    (turn : Collects n s after d) where
  abbrev c : CollectorFacet
  c = s.collector

  -- what the collector leaves of the words of servers
  pub record Spares : Type 0 where
    pub packed : (j : ℕ) → j < n.servers → after.word (flags j) < 8
    pub busy : (j : ℕ) → j < n.servers → (flags_of after.word j).busy ≡ (flags_of s.word j).busy
    pub ghost_ : (j : ℕ) → j < n.servers → (flags_of after.word j).ghost_ ≡ (flags_of s.word j).ghost_
    pub ghosts : (a b k : ℕ) → a < n.servers → b < n.servers → k < n.ring
        → after.word (ghost a b k) ≡ s.word (ghost a b k)
    pub filled : (j k : ℕ) → j < n.servers → k < n.ring → s.word (work j k) ≢ 0
        → after.word (work j k) ≡ s.word (work j k)

  module _ (spares : Spares) where
    flags_kept : (j : ℕ) → j < n.servers → FlagsStand n after.word j (s.server j)
    flags_kept j lt = let f = h.flags j lt in record {
      packed = spares.packed j lt;
      busy = λ z. f.busy (sym (spares.busy j lt) ∙ z);
      sent = λ z. let q = f.sent (sym (spares.ghost_ j lt) ∙ z) in
          (q.0, λ r k lr lk. spares.ghosts j r k lt lr lk ∙ q.1 r k lr lk);
      own = λ k lk. spares.ghosts j j k lt lt lk ∙ f.own k lk;
    }

    put_kept : (j r : ℕ) → j < n.servers → MayPut n s.word j (s.server j) r → MayPut n after.word j (s.server j) r
    put_kept j r lt m = record {
      in_range = m.in_range;
      other = m.other;
      working = m.working;
      room = m.room;
      free = spares.ghosts j r (((s.server j).window r).head % n.ring) lt m.in_range
          (place_below n.ring ((s.server j).window r).head (let b = (h.works j lt).at_below in omega arith)) ∙ m.free;
    }

    take_kept : (j : ℕ) (source : Source) (v : ℕ) → j < n.servers → MayTake n s.word j (s.server j) source v
        → MayTake n after.word j (s.server j) source v
    take_kept j source v lt m = record {
      is_source = m.is_source;
      filled = m.filled;
      found = there source m.is_source (λ z. m.filled (sym m.found ∙ z)) ∙ m.found;
    }
      where
        there : (source : Source) → IsSource n j source → s.word (incoming j (s.server j) source) ≢ 0
            → after.word (incoming j (s.server j) source) ≡ s.word (incoming j (s.server j) source)
        there Collector is some = spares.filled j (s.server j).work_at lt (h.works j lt).at_below some
        there (Server a) is some =
            spares.ghosts a j ((s.server j).ghost_at a) is.0 lt (h.ghosts a j is.0 lt is.1).at_below

    doing_kept : (j : ℕ) → j < n.servers → (x : Doing) → DoingStands n s.word j (s.server j) x
        → DoingStands n after.word j (s.server j) x
    doing_kept j lt resting m = tt
    doing_kept j lt (sending r) m = put_kept j r lt m
    doing_kept j lt (storing r) m = put_kept j r lt m
    doing_kept j lt (taking source v) m = take_kept j source v lt m
    doing_kept j lt (clearing source v) m = take_kept j source v lt m

    each : (P : ℕ → ServerFacet → Type 0) → ((j : ℕ) → j < n.servers → P j (s.server j)) → (j : ℕ) → j < n.servers
        → P j (after.server j)
    each P rest j lt = subst (P j) (sym (turn.servers j lt)) (rest j lt)

    collects_hold : ((r : ℕ) → r < n.servers → WorkStands n after.word r d (s.server r))
        → PollStands n (record after { collector = d }) d.poll → PollingStands n after
    collects_hold works poll = record {
      flags = each (λ j f. FlagsStand n after.word j f) flags_kept;
      doing = each (λ j f. DoingStands n after.word j f f.doing)
          (λ j lt. doing_kept j lt (s.server j).doing (h.doing j lt));
      ghosts = λ a b la lb o. each (λ a f. a ≢ b → GhostStands n after.word a b f (after.server b))
          (λ a la o. each (λ b f. a ≢ b → GhostStands n after.word a b (s.server a) f)
          (λ b lb o. ring_same n.ring (slots_of s.word (Ghost a b)) ((s.server b).ghost_at a) ((s.server a).window b)
          (h.ghosts a b la lb o) (slots_of after.word (Ghost a b)) (λ k lk. spares.ghosts a b k la lb lk)) b lb o) a
          la o;
      works = λ r lr. subst (λ (x : CollectorFacet). WorkStands n after.word r x (after.server r)) (sym turn.here)
          (each (λ r f. WorkStands n after.word r d f) works r lr);
      poll = subst (λ (x : CollectorFacet). PollStands n (record after { collector = x }) x.poll) (sym turn.here) poll;
    }

  -- ---- work rings
  abbrev SlotsAt : ℕ → Type 0
  SlotsAt r = (k : ℕ) → k < n.ring → after.word (work r k) ≡ s.word (work r k)

  work_same : (r : ℕ) → r < n.servers → d.window r ≡ c.window r → SlotsAt r → WorkStands n after.word r d (s.server r)
  work_same r lr e same =
      subst (λ (w : Window). RingStands n.ring (slots_of after.word (Work r)) (s.server r).work_at w) (sym e)
      (ring_same n.ring (slots_of s.word (Work r)) (s.server r).work_at (c.window r) (h.works r lr)
      (slots_of after.word (Work r)) same)

  work_set : (r : ℕ) (w : Window) → SetsWork n c d r w
      → RingStands n.ring (slots_of after.word (Work r)) (s.server r).work_at w
      → ((q : ℕ) → q < n.servers → q ≢ r → SlotsAt q)
      → (q : ℕ) → q < n.servers → WorkStands n after.word q d (s.server q)
  work_set r w set ring same q lq = elim (cases_eq q r) [
    | inl e ↦ subst (λ (x : ℕ). WorkStands n after.word x d (s.server x)) (sym e)
        (subst (λ (v : Window). RingStands n.ring (slots_of after.word (Work r)) (s.server r).work_at v)
        (sym set.0) ring)
    | inr o ↦ work_same q lq (set.1 q lq o) (same q lq o)
  ]

  at_rest : d.poll ≡ elsewhere → PollStands n (record after { collector = d }) d.poll
  at_rest e = subst (λ (p : Poll). PollStands n (record after { collector = d }) p) (sym e) tt

  -- ---- steps that leave all words alone
  module _ (u : Untouched n s.word after.word) where
    spares_alone : Spares
    spares_alone = record {
      packed = λ j lt. (left_alone s.word after.word j (h.flags j lt).packed (u (flags j) tt lt)).packed;
      busy = λ j lt. ap (λ (w : ℕ). (flag_at w).busy) (u (flags j) tt lt);
      ghost_ = λ j lt. ap (λ (w : ℕ). (flag_at w).ghost_) (u (flags j) tt lt);
      ghosts = λ a b k la lb lk. u (ghost a b k) tt (la, lb, lk);
      filled = λ j k lt lk some. u (work j k) tt (lt, lk);
    }

    slots_alone : (r : ℕ) → r < n.servers → SlotsAt r
    slots_alone r lr k lk = u (work r k) tt (lr, lk)

    works_alone : SameWindows n c d → (r : ℕ) → r < n.servers → WorkStands n after.word r d (s.server r)
    works_alone same r lr = work_same r lr (same r lr) (slots_alone r lr)

    works_moved : (r : ℕ) (w : Window) → r < n.servers → SetsWork n c d r w
        → RingStands n.ring (slots_of s.word (Work r)) (s.server r).work_at w → (q : ℕ) → q < n.servers
        → WorkStands n after.word q d (s.server q)
    works_moved r w lr set ring =
        work_set r w set (ring_same n.ring (slots_of s.word (Work r)) (s.server r).work_at w ring
        (slots_of after.word (Work r)) (slots_alone r lr)) (λ q lq o. slots_alone q lq)

    quiet_alone : d.pending ≡ c.pending → IsQuietScene n s → IsQuietScene n (record after { collector = d })
    quiet_alone e q = record {
      servers = λ j lt. ap (λ (f : ServerFacet). f.working) (turn.servers j lt) ∙ q.servers j lt;
      works = λ r k lr lk. slots_alone r lr k lk ∙ q.works r k lr lk;
      ghosts = λ a b k la lb lk. u (ghost a b k) tt (la, lb, lk) ∙ q.ghosts a b k la lb lk;
      pending = e ∙ q.pending;
    }

    leaves : SameWindows n c d → d.poll ≡ elsewhere → PollingStands n after
    leaves same rest = collects_hold spares_alone (works_alone same) (at_rest rest)

    finds_room : (r : ℕ) → r < n.servers → s.word (work r ((c.window r).head % n.ring)) ≡ 0
        → SetsWork n c d r (found_room n.ring (c.window r)) → d.poll ≡ forwarding r → PollingStands n after
    finds_room r lr free set is =
        let room = ring_room n.ring (slots_of s.word (Work r)) (s.server r).work_at (c.window r) (h.works r lr) free in
        let there : after.word (work r ((d.window r).head % n.ring)) ≡ 0 =
        ap (λ (w : Window). after.word (work r (w.head % n.ring))) set.0 ∙ ap (λ (k : ℕ). after.word (work r k)) room.1
        ∙ slots_alone r lr ((c.window r).head % n.ring)
        (place_below n.ring (c.window r).head (let b = (h.works r lr).at_below in omega arith)) ∙ free in
        collects_hold spares_alone (works_moved r (found_room n.ring (c.window r)) lr set room.0)
        (subst (λ (p : Poll). PollStands n (record after { collector = d }) p) (sym is)
        (lr, there, subst (λ (w : Window). w.head < w.tail + n.ring) (sym set.0) room.2))

    sees_emptied : (r : ℕ) → r < n.servers → (c.window r).tail < (c.window r).head
        → s.word (work r ((c.window r).tail % n.ring)) ≡ 0 → SetsWork n c d r (tail_up n.ring (c.window r))
        → d.poll ≡ elsewhere → PollingStands n after
    sees_emptied r lr some free set rest =
        collects_hold spares_alone
        (works_moved r (tail_up n.ring (c.window r)) lr set
        (ring_tail n.ring (slots_of s.word (Work r)) (s.server r).work_at (c.window r) (h.works r lr) some free))
        (at_rest rest)

    begins : NothingSent n d → SameWindows n c d → d.poll ≡ polling 0 → PollingStands n after
    begins none same is =
        collects_hold spares_alone (works_alone same)
        (subst (λ (p : Poll). PollStands n (record after { collector = d }) p) (sym is)
        (none, λ j lt below. absurd (omega arith)))

    -- with all found clean, no change says quiet
    clean_is_quiet : NothingSent n c → ((j : ℕ) → j < n.servers → StaysClean s.word j) → NoChange n s.word 0
        → IsQuietScene n s
    clean_is_quiet none clean calm = record {
      servers = λ j lt. ((h.flags j lt).busy (clean j lt (calm j (omega arith) lt)).0).0;
      works = λ r k lr lk. ring_empty n.ring (slots_of s.word (Work r)) (s.server r).work_at (c.window r) (h.works r lr)
          (none.windows r lr) k lk;
      ghosts = λ a b k la lb lk. ((h.flags a la).sent (clean a la (calm a (omega arith) la)).1).1 b k lb lk;
      pending = none.pending;
    }

    calm_before : (k : ℕ) → NoChange n after.word k → NoChange n s.word k
    calm_before k none j ge lt = ap (λ (w : ℕ). (flag_at w).changed) (sym (u (flags j) tt lt)) ∙ none j ge lt

    -- the collector as it was, but for where it is
    module _ (p : Poll) (is : d ≡ record c { poll = p }) where
      pub windows_kept : SameWindows n c d
      windows_kept r lr = ap (λ (x : CollectorFacet). x.window r) is

      pub nothing_kept : NothingSent n c → NothingSent n (record c { poll = p })
      nothing_kept none = record { pending = none.pending; windows = none.windows }

      pub poll_is : PollStands n (record after { collector = record c { poll = p } }) p
          → PollStands n (record after { collector = d }) d.poll
      poll_is stands =
          subst (λ (x : CollectorFacet). PollStands n (record after { collector = x }) x.poll) (sym is) stands

    waits_poll : (p : Poll) → PollStands n s p → PollStands n (record after { collector = c }) p
    waits_poll elsewhere stands = tt
    waits_poll (forwarding r) stands = (
      stands.0,
      slots_alone r stands.0 ((c.window r).head % n.ring)
          (place_below n.ring (c.window r).head (let b = (h.works r stands.0).at_below in omega arith))
          ∙ stands.1,
      stands.2,
    )
    waits_poll (polling k) stands = (
      stands.0,
      λ j lt below calm. let e = u (flags j) tt lt in
          let both = stands.1 j lt below (ap (λ (w : ℕ). (flag_at w).changed) (sym e) ∙ calm) in
          (ap (λ (w : ℕ). (flag_at w).busy) e ∙ both.0, ap (λ (w : ℕ). (flag_at w).ghost_) e ∙ both.1),
    )
    waits_poll (reading k) stands = (
      stands.0,
      λ none. let q = stands.1 (calm_before k none) in record {
        servers = λ j lt. ap (λ (f : ServerFacet). f.working) (turn.servers j lt) ∙ q.servers j lt;
        works = λ r i lr li. slots_alone r lr i li ∙ q.works r i lr li;
        ghosts = λ a b i la lb li. u (ghost a b i) tt (la, lb, li) ∙ q.ghosts a b i la lb li;
        pending = q.pending;
      },
    )

    waits : d ≡ c → PollingStands n after
    waits is = collects_hold spares_alone (works_alone (λ r lr. ap (λ (x : CollectorFacet). x.window r) is))
        (subst (λ (x : CollectorFacet). PollStands n (record after { collector = x }) x.poll) (sym is)
        (waits_poll c.poll h.poll))

    turns_to_read : c.poll ≡ polling n.servers → d ≡ record c { poll = reading 0 } → PollingStands n after
    turns_to_read was is =
        let old : PollStands n s (polling n.servers) = subst (λ (p : Poll). PollStands n s p) was h.poll in
        collects_hold spares_alone (works_alone (windows_kept (reading 0) is))
        (poll_is (reading 0) is (
          nothing_kept (reading 0) is old.0,
          λ none. moved is
              (clean_is_quiet old.0 (λ j lt. old.1 j lt lt) (calm_before 0 none)),
        ))
      where
        moved : d ≡ record c { poll = reading 0 } → IsQuietScene n s
            → IsQuietScene n (record after { collector = record c { poll = reading 0 } })
        moved is q = let x = quiet_alone (ap (λ (x : CollectorFacet). x.pending) is) q in
            record { servers = x.servers; works = x.works; ghosts = x.ghosts; pending = q.pending }

    reads_zero : (k : ℕ) → c.poll ≡ reading k → s.word (flags k) ≡ 0 → d ≡ record c { poll = reading (k + 1) }
        → PollingStands n after
    reads_zero k was zero is =
        let old : PollStands n s (reading k) = subst (λ (p : Poll). PollStands n s p) was h.poll in
        collects_hold spares_alone (works_alone (windows_kept (reading (k + 1)) is))
        (poll_is (reading (k + 1)) is
        (nothing_kept (reading (k + 1)) is old.0, λ none. moved is (old.1 (from_k (calm_before (k + 1) none)))))
      where
        from_k : NoChange n s.word (k + 1) → NoChange n s.word k
        from_k none j ge lt = elim (cases_eq j k) [
          | inl e ↦ subst (λ (x : ℕ). (flags_of s.word x).changed ≡ false) (sym e)
              (ap (λ (w : ℕ). (flag_at w).changed) zero)
          | inr o ↦ none j (grind (arith)) lt
        ]

        moved : d ≡ record c { poll = reading (k + 1) } → IsQuietScene n s
            → IsQuietScene n (record after { collector = record c { poll = reading (k + 1) } })
        moved is q = let x = quiet_alone (ap (λ (x : CollectorFacet). x.pending) is) q in
            record { servers = x.servers; works = x.works; ghosts = x.ghosts; pending = q.pending }

  -- ---- a put
  forwards : (r x : ℕ) → Wrote n s.word after.word (work r ((c.window r).head % n.ring)) x → x ≢ 0
      → c.poll ≡ forwarding r → SetsWork n c d r (head_up (c.window r)) → d.poll ≡ elsewhere → PollingStands n after
  forwards r x w filled was set rest =
      let old : PollStands n s (forwarding r) = subst (λ (p : Poll). PollStands n s p) was h.poll in
      collects_hold (record {
        packed = λ j lt. (left_alone s.word after.word j (h.flags j lt).packed
            (w.else (flags j) tt lt (λ e. cc))).packed;
        busy = λ j lt. ap (λ (v : ℕ). (flag_at v).busy) (w.else (flags j) tt lt (λ e. cc));
        ghost_ = λ j lt. ap (λ (v : ℕ). (flag_at v).ghost_) (w.else (flags j) tt lt (λ e. cc));
        ghosts = λ a b k la lb lk. w.else (ghost a b k) tt (la, lb, lk) (λ e. cc);
        filled = λ j k lt lk some. w.else (work j k) tt (lt, lk) (λ e. some (ap s.word e ∙ old.1));
      })
      (work_set r (head_up (c.window r)) set
      (ring_put n.ring (slots_of s.word (Work r)) (s.server r).work_at (c.window r) (h.works r old.0)
      (slots_of after.word (Work r)) x old.1 old.2 filled
      (w.there, λ j lj o. w.else (work r j) tt (old.0, lj) (λ e. o (cc))))
      (λ q lq o k lk. w.else (work q k) tt (lq, lk) (λ e. o (cc))))
      (at_rest rest)

  -- ---- pass 1
  module _ (k : ℕ) (lk : k < n.servers)
      (w : Wrote n s.word after.word (flags k) (bit_and (s.word (flags k)) (all_but 4))) where
    now : Flagged after.word k (record (flags_of s.word k) { changed = false })
    now = polled s.word after.word k (h.flags k lk).packed w.there

    flags_else : (j : ℕ) → j < n.servers → j ≢ k → after.word (flags j) ≡ s.word (flags j)
    flags_else j lt o = w.else (flags j) tt lt (λ e. o (cc))

    busy_now : (j : ℕ) → j < n.servers → (flags_of after.word j).busy ≡ (flags_of s.word j).busy
    busy_now j lt = elim (cases_eq j k) [
      | inl e ↦ subst (λ (x : ℕ). (flags_of after.word x).busy ≡ (flags_of s.word x).busy) (sym e)
          (ap (λ (f : FlagWord). f.busy) now.are)
      | inr o ↦ ap (λ (v : ℕ). (flag_at v).busy) (flags_else j lt o)
    ]

    ghost_now : (j : ℕ) → j < n.servers → (flags_of after.word j).ghost_ ≡ (flags_of s.word j).ghost_
    ghost_now j lt = elim (cases_eq j k) [
      | inl e ↦ subst (λ (x : ℕ). (flags_of after.word x).ghost_ ≡ (flags_of s.word x).ghost_) (sym e)
          (ap (λ (f : FlagWord). f.ghost_) now.are)
      | inr o ↦ ap (λ (v : ℕ). (flag_at v).ghost_) (flags_else j lt o)
    ]

    spares_polled : Spares
    spares_polled = record {
      packed = λ j lt. elim (cases_eq j k) [
        | inl e ↦ subst (λ (x : ℕ). after.word (flags x) < 8) (sym e) now.packed
        | inr o ↦ (left_alone s.word after.word j (h.flags j lt).packed (flags_else j lt o)).packed
      ];
      busy = busy_now;
      ghost_ = ghost_now;
      ghosts = λ a b i la lb li. w.else (ghost a b i) tt (la, lb, li) (λ e. cc);
      filled = λ j i lt li some. w.else (work j i) tt (lt, li) (λ e. cc);
    }

    works_polled : SameWindows n c d → (r : ℕ) → r < n.servers → WorkStands n after.word r d (s.server r)
    works_polled same r lr = work_same r lr (same r lr) (λ i li. w.else (work r i) tt (lr, li) (λ e. cc))

    finds_work : SameWindows n c d → d.poll ≡ elsewhere → PollingStands n after
    finds_work same rest = collects_hold spares_polled (works_polled same) (at_rest rest)

    finds_clean : c.poll ≡ polling k → (flags_of s.word k).busy ≡ false → (flags_of s.word k).ghost_ ≡ false
        → d ≡ record c { poll = polling (k + 1) } → PollingStands n after
    finds_clean was busy ghost_ is =
        let old : PollStands n s (polling k) = subst (λ (p : Poll). PollStands n s p) was h.poll in
        collects_hold spares_polled (works_polled (λ r lr. ap (λ (x : CollectorFacet). x.window r) is))
        (subst (λ (x : CollectorFacet). PollStands n (record after { collector = x }) x.poll) (sym is)
        (record { pending = old.0.pending; windows = old.0.windows }, λ j lt below. clean j lt below old.1))
      where
        clean : (j : ℕ) → j < n.servers → j < k + 1 → ((j : ℕ) → j < n.servers → j < k → StaysClean s.word j)
            → StaysClean after.word j
        clean j lt below before none = elim (cases_eq j k) [
          | inl e ↦ subst (λ (x : ℕ). ((flags_of after.word x).busy ≡ false)
              × ((flags_of after.word x).ghost_ ≡ false)) (sym e) (busy_now k lk ∙ busy, ghost_now k lk ∙ ghost_)
          | inr o ↦
              let was_none : (flags_of s.word j).changed ≡ false =
              ap (λ (v : ℕ). (flag_at v).changed) (sym (flags_else j lt o)) ∙ none in
              let both = before j lt (grind (arith)) was_none in
              (busy_now j lt ∙ both.0, ghost_now j lt ∙ both.1)
        ]

  pub collector_holds : CollectorStep n s.word after.word c d → PollingStands n after
  collector_holds (Waits u is) = waits u is
  collector_holds (Leaves u same rest) = leaves u same rest
  collector_holds (FindsWorkRoom r u lr free set is) = finds_room u r lr free set is
  collector_holds (Forwards r x w filled was set rest) = forwards r x w filled was set rest
  collector_holds (SeesWorkEmptied r u lr some free set rest) = sees_emptied u r lr some free set rest
  collector_holds (BeginsPoll u none same is) = begins u none same is
  collector_holds (FindsWork k lk w same rest) = finds_work k lk w same rest
  collector_holds (FindsClean k lk w was busy ghost_ is) = finds_clean k lk w was busy ghost_ is
  collector_holds (TurnsToRead u was is) = turns_to_read u was is
  collector_holds (ReadsZero k u was zero is) = reads_zero u k was zero is
