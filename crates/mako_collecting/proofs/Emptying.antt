-- The collector takes names out of the barrier rings, looks whether the work rings were emptied, and begins a poll.
use Rattle.std.proofs.Common.{◌≡◌, ℕ, ◌+◌, ◌%◌, ◌<◌, ◌≤◌, ◌==◌, nat_lt, false, Option, Some, None, List, [], ◌∷◌, ◌++◌}
use Rattle.std.proofs.Common.{All, length, position, set, slice_set, slice_index, slice_index_or, sym, ap, subst, refl}
use Rattle.std.proofs.Common.{◌∙◌, arith}
use Rattle.std.proofs.lemmas.List.{length-set}
use Rattle.std.proofs.lemmas.Bool.Decides.{nat_tests}
use Rattle.std.proofs.lemmas.Grind.{common_steps}
use Rattle.std.proofs.lemmas.List.Sums.{fails_before_first}
use Rattle.mako_words.specs.declared.name.Name.{Name}
use Rattle.mako_words.specs.Names.{FitsName, name_word, name_at}
use Rattle.mako_shape.specs.declared.numbers.Numbers.{Numbers}
use Rattle.mako_shape.specs.Places.{Place, barrier, work, index, Within, word_at}
use Rattle.mako_shape.proofs.PlaceLaws.{word_other}
use Rattle.mako_model.specs.Legal.{Facts}
use Rattle.mako_ring.specs.Facets as ring
use Rattle.mako_ring.specs.Facets.{Scene, IsPolled}
use Rattle.mako_ring.specs.Polling.{PollingStands}
use Rattle.mako_ring.specs.TraceFacets as trace
use Rattle.mako_ring.specs.TraceFacets.{is_filled}
use Rattle.mako_ring.specs.Tracing.{no_window, is_open}
use Rattle.mako_ring.specs.Contents.{after_place}
use Rattle.mako_ring.specs.Windows.{IsWindow, tail_up}
use Rattle.mako_ring.specs.declared.window.Window.{Window}
use Rattle.mako_poll.specs.Steps.{Collected, Leaves, SeesWorkEmptied, BeginsPoll}
use Rattle.mako_poll.specs.Worlds.{away, collecting_of}
use Rattle.mako_poll.proofs.AllSteps.{steps_hold}
use Rattle.mako_shades.specs.Steps as shades
use Rattle.mako_shades.specs.Steps.{TraceStep}
use Rattle.mako_shades.proofs.Words.{no_zero_name}
use Rattle.mako_layout.specs.StepParts.{collector_seat}
use Rattle.mako_phases.specs.Facets as phases
use Rattle.mako_joint.specs.Joints.{JointScene, trace_in, polls_in, ChoiceFits, Joint}
use Rattle.mako_pause.specs.Collecting.{Holdings, Collecting, running, window_of, set_window, empty, empty_from}
use Rattle.mako_pause.specs.Collecting.{barriers_from}
use Rattle.mako_pause.specs.declared.stage.ForwardStage.TheVariants.{Looking}
use Rattle.mako_pause.specs.declared.stage.BarrierStage.{BarrierStage}
use Rattle.mako_pause.specs.declared.stage.BarrierStage.TheVariants.{Loading, Clearing}
use Rattle.mako_pause.specs.declared.stage.CollectStage.TheVariants.{Forwarding, Barriers, Emptying}
use Rattle.mako_collecting.specs.Facets.{names_of, part_of, watch_of, round_watch, ring_facet, IsCollector}
use Rattle.mako_collecting.specs.Steps.{with_collector, collector_next, stepped}
use Rattle.mako_collecting.proofs.Joined.{joined}
use Rattle.mako_collecting.proofs.Stays.{tracks_as, layout_as, order_as}
use Rattle.mako_collecting.proofs.Moves.{stays, loads, fits_now}
use Rattle.mako_collecting.proofs.Idling.{either_way, is_same}
use Rattle.mako_collecting.proofs.Forwarding.{sets_window, slot_written}

-- ---- all windows are seen empty, or one is not

-- where no window is open, none is
none_open : (windows : List Window) → position is_open windows ≡ None → (r : ℕ) → r < length windows
    → nat_lt (slice_index_or windows r no_window).tail (slice_index_or windows r no_window).head ≡ false
none_open windows e r low = fails_before_first is_open windows r no_window (grind (arith, common_steps))

closed : (a b : ℕ) → nat_lt a b ≡ false → a ≤ b → a ≡ b
closed a b e few = grind (arith, nat_tests)

-- it goes on to a window that is not seen empty, or to the poll
pub record GoesOn (n : Numbers) (k : Holdings) (c : Collecting) : Type 0 where
  pub names : names_of c ≡ k.pending
  pub part : part_of n c ≡ phases.tracing (running k)
  pub watch : watch_of n c ≡ round_watch n k.gates_shut

module _ (n : Numbers) (k : Holdings) where
  empties : (o : Option ℕ) → GoesOn n k (empty_from k o)
  empties None = record { names = refl; part = refl; watch = refl }
  empties (Some r) = record { names = refl; part = refl; watch = refl }

  abbrev idle_ring : ring.CollectorFacet
  idle_ring = collecting_of n (record { pending = k.pending; window = window_of k; stage = away })

  -- rings and polls stand there
  empty_rings : (s : JointScene) → length k.windows ≡ n.servers → All (IsWindow n.ring) k.windows → k.pending ≡ []
      → PollingStands n (record (polls_in n s) { collector = idle_ring }) → (o : Option ℕ)
      → position is_open k.windows ≡ o
      → PollingStands n (record (polls_in n s) { collector = ring_facet n (empty_from k o) })
  empty_rings s count windows none stands (Some r) e = stands
  empty_rings s count windows none stands None e =
      steps_hold n (record (polls_in n s) { collector = idle_ring })
      (record (polls_in n s) { collector = ring_facet n (empty_from k None) }) stands
      (Collected (ring_facet n (empty_from k None)) (record { here = refl; servers = λ i l. refl })
      (BeginsPoll (λ p polled l. refl) (record {
        pending = ap is_filled none;
        windows = λ r low. let inside : r < length k.windows = (let b = count in omega arith) in
            closed (window_of k r).tail (window_of k r).head (none_open k.windows e r inside)
            (windows r no_window inside).ordered;
      }) (λ r l. refl) refl))

module _ (n : Numbers) (w : Facts) (s : JointScene) (j : Joint n w s) (old : Collecting) (at : IsCollector n s old)
    (k : Holdings) (was : GoesOn n k old) (none : k.pending ≡ []) (count : length k.windows ≡ n.servers)
    (windows : All (IsWindow n.ring) k.windows)
    (rings : PollingStands n (record (polls_in n s) { collector = idle_ring n k })) where
  pub goes_on : (c : Collecting) → GoesOn n k c
      → PollingStands n (polls_in n (with_collector n s s.words s.facets.choice c))
      → Joint n w (with_collector n s s.words s.facets.choice c)
  goes_on c is stands =
      joined n w s s.words s.facets.choice old c j at
      (record {
        names = j.names;
        tracks = tracks_as n w s old c at s.words s.facets.choice (is.names ∙ sym was.names) j.tracks;
        layout = layout_as n w s old c at s.words s.facets.choice (is.watch ∙ sym was.watch) j.layout;
        polls = stands;
        order = order_as n w s old c at s.words s.facets.choice (is.part ∙ sym was.part) (is.names ∙ sym was.names)
            j.order;
        choice_fits = subst (λ q. ChoiceFits q s.facets.choice) (was.part ∙ sym is.part) (fits_now n w s j old at);
      })

  pub empties_rings : Joint n w (with_collector n s s.words s.facets.choice (empty k))
  empties_rings =
      goes_on (empty k) (empties n k (position is_open k.windows))
      (empty_rings n k s count windows none rings (position is_open k.windows) refl)

-- ---- the barrier rings

module _ (w : Facts) (k : Holdings) (s : JointScene) (j : Joint k.shape w s) (none : k.pending ≡ []) where
  abbrev n : Numbers
  n = k.shape

  abbrev here : BarrierStage → Collecting
  here stage = record { kept = k; stage = Barriers stage }

  abbrev slot : ℕ → Place
  slot m = barrier m (slice_index k.barrier_at m)

  rings_here : (stage : BarrierStage) → IsCollector n s (here stage)
      → PollingStands n (record (polls_in n s) { collector = idle_ring n k })
  rings_here stage at = subst (λ q. PollingStands n (record (polls_in n s) { collector = q })) at.rings j.polls

  passes : (m : ℕ) → IsCollector n s (here (Loading m)) → length k.windows ≡ n.servers
      → All (IsWindow n.ring) k.windows
      → Joint n w (with_collector n s s.words s.facets.choice (barriers_from k (m + 1)))
  passes m at count windows =
      either_way (λ c. Joint n w (with_collector n s s.words s.facets.choice c)) (m + 1 == n.mutators) (empty k)
      (here (Loading (m + 1)))
      (λ e. empties_rings n w s j (here (Loading m)) at k (record {
        names = refl;
        part = refl;
        watch = refl;
      }) none count
      windows (rings_here (Loading m) at))
      (λ e. stays n w s j (here (Loading m)) at (here (Loading (m + 1))) refl refl refl refl)

  pub barrier_loaded : (m : ℕ) → IsCollector n s (here (Loading m)) → length k.windows ≡ n.servers
      → All (IsWindow n.ring) k.windows → Joint n w (stepped n s (here (Loading m)))
  barrier_loaded m at count windows =
      let found : ℕ = word_at n s.words (slot m) in
      loads n w s (index n (slot m)) s.facets.choice (collector_next (here (Loading m)) s.words)
      (either_way (λ c. Joint n w (with_collector n s s.words s.facets.choice c)) (found == 0)
      (barriers_from k (m + 1)) (here (Clearing m (name_at found))) (λ e. passes m at count windows)
      (λ e. stays n w s j (here (Loading m)) at (here (Clearing m (name_at found))) refl refl refl refl))

  module _ (m : ℕ) (x : Name) (within : Within n (slot m)) (fits : FitsName x)
      (there : word_at n s.words (slot m) ≡ name_word x) (at : IsCollector n s (here (Clearing m x))) where
    abbrev us : List ℕ
    us = set s.words (index n (slot m)) 0

    abbrev taken : Collecting
    taken = record {
      kept = record k { barrier_at = slice_set k.barrier_at m (after_place n.ring (slice_index k.barrier_at m)) };
      stage = Forwarding (Looking x);
    }

    names_next : k.pending ++ x ∷ [] ≡ x ∷ k.pending
    names_next = ap (λ (xs : List Name). xs ++ x ∷ []) none ∙ ap (λ (xs : List Name). x ∷ xs) (sym none)

    gathers : TraceStep n w (running k) (trace_in s) (trace_in (with_collector n s us s.facets.choice taken))
    gathers =
        shades.Gathers (collector_seat n) k.pending x m (slice_index k.barrier_at m) at.trace within fits there
        (λ i. record {
          words = us;
          facets = slice_set s.facets.trace (collector_seat n) (trace.collecting (sym names_next i));
          history = s.front.history;
        })

    pub gathered : Joint n w (stepped n s (here (Clearing m x)))
    gathered =
        slot_written n w s j (here (Clearing m x)) taken at (running k) refl (slot m) 0 within tt refl refl (λ e. cc) tt
        tt (λ name known e. absurd (no_zero_name name known e)) gathers
        (Leaves (λ q polled l. word_other n s.words (slot m) q 0 within l (λ e. subst IsPolled e polled))
        (λ r l. refl) refl)

-- ---- the work rings

module _ (w : Facts) (k : Holdings) (s : JointScene) (j : Joint k.shape w s) (none : k.pending ≡ [])
    (count : length k.windows ≡ k.shape.servers) (windows : All (IsWindow k.shape.ring) k.windows) (r : ℕ)
    (low : r < k.shape.servers) (open_ : (window_of k r).tail < (window_of k r).head)
    (windows_next : All (IsWindow k.shape.ring) (set_window k r (tail_up k.shape.ring (window_of k r))).windows)
    (at : IsCollector k.shape s (record { kept = k; stage = Emptying r })) where
  abbrev numbers : Numbers
  numbers = k.shape

  abbrev old : Collecting
  old = record { kept = k; stage = Emptying r }

  abbrev tail : Place
  tail = work r ((window_of k r).tail % numbers.ring)

  abbrev kept : Holdings
  kept = set_window k r (tail_up numbers.ring (window_of k r))

  seen : word_at numbers s.words tail ≡ 0
      → PollingStands numbers (record (polls_in numbers s) { collector = idle_ring numbers kept })
  seen empty_ =
      steps_hold numbers (record (polls_in numbers s) { collector = ring_facet numbers old })
      (record (polls_in numbers s) { collector = idle_ring numbers kept })
      (subst (λ q. PollingStands numbers (record (polls_in numbers s) { collector = q })) at.rings j.polls)
      (Collected (idle_ring numbers kept) (record { here = refl; servers = λ i l. refl })
      (SeesWorkEmptied r (λ p polled l. refl) low open_ empty_
      (sets_window numbers k r (tail_up numbers.ring (window_of k r)) (let a = count in omega arith)) refl))

  pub emptied : Joint numbers w (stepped numbers s old)
  emptied =
      loads numbers w s (index numbers tail) s.facets.choice (collector_next old s.words)
      (either_way (λ c. Joint numbers w (with_collector numbers s s.words s.facets.choice c))
      (word_at numbers s.words tail == 0)
      (empty kept) old
      (λ e. empties_rings numbers w s j old at kept (record { names = refl; part = refl; watch = refl }) none
      (length-set k.windows r (tail_up numbers.ring (window_of k r)) ∙ count) windows_next
      (seen (is_same (word_at numbers s.words tail) 0 e)))
      (λ e. stays numbers w s j old at old refl refl refl refl))
