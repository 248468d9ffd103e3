-- Each kind of step of a server keeps the law.
use Rattle.std.proofs.Common.{◌≡◌, ◌≢◌, ℕ, ◌+◌, ◌%◌, ◌<◌, ◌≤◌, true, false, inl, inr, ap, sym, subst, refl, ◌∙◌, arith}
use Rattle.std.specs.Prelude.{bit_and, bit_or}
use Rattle.std.proofs.lemmas.Bool.{cases_eq}
use Rattle.mako_words.specs.declared.flag_word.FlagWord.{FlagWord}
use Rattle.mako_words.specs.Words.{all_but}
use Rattle.mako_shape.specs.declared.numbers.Numbers.{Numbers}
use Rattle.mako_shape.specs.Places.{flags, work, ghost}
use Rattle.mako_ring.specs.Contents.{RingStands}
use Rattle.mako_ring.specs.Windows.{tail_up, head_up, found_room}
use Rattle.mako_ring.specs.declared.window.Window.{Window}
use Rattle.mako_ring.specs.Facets.{Doing, resting, sending, storing, taking, clearing, ServerFacet, Scene, flags_of}
use Rattle.mako_ring.specs.Facets.{incoming, IsSource, IsStoring, IsClearing}
use Rattle.mako_ring.specs.Rings.{slots_of}
use Rattle.mako_ring.specs.declared.ring.Ring.TheVariants.{Work, Ghost}
use Rattle.mako_ring.specs.declared.tracing.Source.{Source}
use Rattle.mako_ring.specs.declared.tracing.Source.TheVariants.{Collector, Server}
use Rattle.mako_ring.specs.Polling.{FlagsStand, MayPut, MayTake, DoingStands, GhostStands, WorkStands, IsQuietScene}
use Rattle.mako_ring.specs.Polling.{PollingStands}
use Rattle.mako_poll.specs.Steps.{Untouched, Wrote, Turns, SameRings, SetsWindow, Advances, ServerStep, Works}
use Rattle.mako_poll.specs.Steps.{FindsRoom, RaisesGhost, Stores, FindsName, RaisesBusy, Clears, LowersBusy}
use Rattle.mako_poll.specs.Steps.{SeesEmptied, LowersGhost}
use Rattle.mako_ring.proofs.Turns.{place_below}
use Rattle.mako_ring.proofs.RingLaws.{ring_same, ring_empty, ring_tail, ring_room, ring_put, ring_take}
use Rattle.mako_poll.proofs.Flagging.{Flagged, false_true, sends, receives, rests, seen_off, left_alone}
use Rattle.mako_poll.proofs.Changing.{Changes, changes_none, changes_flags, changes_put, changes_work, changes_take}
use Rattle.mako_poll.proofs.Serving.{Shows, serves_hold, quiet_after}

module _ (n : Numbers) (s after : Scene) (i : ℕ) (g : ServerFacet) (h : PollingStands n s)
    (turn : Turns n s after i g) where
  abbrev f : ServerFacet
  f = s.server i

  old : FlagsStand n s.word i f
  old = h.flags i turn.in_range

  ring_to : (b : ℕ) → b < n.servers → b ≢ i → GhostStands n s.word i b f (s.server b)
  ring_to b lb d = h.ghosts i b turn.in_range lb (λ e. d (sym e))

  ring_from : (a : ℕ) → a < n.servers → a ≢ i → GhostStands n s.word a i (s.server a) f
  ring_from a la d = h.ghosts a i la turn.in_range d

  -- the rings of a server whose windows, positions and slots stay
  abbrev SlotsTo : ℕ → Type 0
  SlotsTo b = (k : ℕ) → k < n.ring → after.word (ghost i b k) ≡ s.word (ghost i b k)

  abbrev SlotsFrom : ℕ → Type 0
  SlotsFrom a = (k : ℕ) → k < n.ring → after.word (ghost a i k) ≡ s.word (ghost a i k)

  abbrev SlotsOwn : Type 0
  SlotsOwn = (k : ℕ) → k < n.ring → after.word (work i k) ≡ s.word (work i k)

  to_same : (b : ℕ) → b < n.servers → b ≢ i → g.window b ≡ f.window b → SlotsTo b
      → GhostStands n after.word i b g (s.server b)
  to_same b lb d e same =
      subst (λ (w : Window). RingStands n.ring (slots_of after.word (Ghost i b)) ((s.server b).ghost_at i) w) (sym e)
      (ring_same n.ring (slots_of s.word (Ghost i b)) ((s.server b).ghost_at i) (f.window b) (ring_to b lb d)
      (slots_of after.word (Ghost i b)) same)

  from_same : (a : ℕ) → a < n.servers → a ≢ i → g.ghost_at a ≡ f.ghost_at a → SlotsFrom a
      → GhostStands n after.word a i (s.server a) g
  from_same a la d e same =
      subst (λ (p : ℕ). RingStands n.ring (slots_of after.word (Ghost a i)) p ((s.server a).window i)) (sym e)
      (ring_same n.ring (slots_of s.word (Ghost a i)) (f.ghost_at a) ((s.server a).window i) (ring_from a la d)
      (slots_of after.word (Ghost a i)) same)

  works_same : g.work_at ≡ f.work_at → SlotsOwn → WorkStands n after.word i s.collector g
  works_same e same = subst (λ (p : ℕ). RingStands n.ring (slots_of after.word (Work i)) p (s.collector.window i))
      (sym e)
      (ring_same n.ring (slots_of s.word (Work i)) f.work_at (s.collector.window i) (h.works i turn.in_range)
      (slots_of after.word (Work i)) same)

  -- its window to one server becomes another
  to_set : (r : ℕ) (w : Window) → SetsWindow n f g r w
      → RingStands n.ring (slots_of after.word (Ghost i r)) ((s.server r).ghost_at i) w
      → ((b : ℕ) → b < n.servers → b ≢ r → SlotsTo b) → (b : ℕ) → b < n.servers → b ≢ i
      → GhostStands n after.word i b g (s.server b)
  to_set r w set ring same b lb d = elim (cases_eq b r) [
    | inl e ↦ subst (λ (x : ℕ). GhostStands n after.word i x g (s.server x)) (sym e)
        (subst (λ (v : Window). RingStands n.ring (slots_of after.word (Ghost i r)) ((s.server r).ghost_at i) v)
        (sym set.here) ring)
    | inr o ↦ to_same b lb d (set.else b lb o) (same b lb o)
  ]

  no_clearing : g.doing ≡ resting → ¬ IsClearing g.doing
  no_clearing e x = subst IsClearing e x

  no_storing : g.doing ≡ resting → ¬ IsStoring g.doing
  no_storing e x = subst IsStoring e x

  -- its flags, from what they are now
  flags_from : (fl : FlagWord) → Flagged after.word i fl → Changes n s.word after.word i
      → (fl.busy ≡ false → (g.working ≡ false) × ¬ IsClearing g.doing)
      → (fl.ghost_ ≡ false → (¬ IsStoring g.doing)
      × ((r k : ℕ) → r < n.servers → k < n.ring → after.word (ghost i r k) ≡ 0)) → FlagsStand n after.word i g
  flags_from fl is ch busy sent = record {
    packed = is.packed;
    busy = λ c. busy (ap (λ (x : FlagWord). x.busy) (sym is.are) ∙ c);
    sent = λ c. sent (ap (λ (x : FlagWord). x.ghost_) (sym is.are) ∙ c);
    own = λ k lk. ch.own_zero k lk (old.own k lk);
  }

  abbrev Calm : FlagWord → Type 0
  Calm fl = (fl.changed ≡ false) → ((flags_of s.word i).changed ≡ false)
      × ((flags_of s.word i).busy ≡ false → fl.busy ≡ false) × ((flags_of s.word i).ghost_ ≡ false → fl.ghost_ ≡ false)

  calm_from : (fl : FlagWord) → Flagged after.word i fl → Calm fl → Calm (flags_of after.word i)
  calm_from fl is calm = subst Calm (sym is.are) calm

  calm_same : Calm (flags_of s.word i)
  calm_same c = (c, λ e. e, λ e. e)

  -- ---- steps that leave all words alone
  module _ (u : Untouched n s.word after.word) where
    to_alone : (b : ℕ) → b < n.servers → SlotsTo b
    to_alone b lb k lk = u (ghost i b k) tt (turn.in_range, lb, lk)

    from_alone : (a : ℕ) → a < n.servers → SlotsFrom a
    from_alone a la k lk = u (ghost a i k) tt (la, turn.in_range, lk)

    own_alone : SlotsOwn
    own_alone k lk = u (work i k) tt (turn.in_range, lk)

    flags_alone : Flagged after.word i (flags_of s.word i)
    flags_alone = left_alone s.word after.word i old.packed (u (flags i) tt turn.in_range)

    sent_alone : (r k : ℕ) → r < n.servers → k < n.ring → s.word (ghost i r k) ≡ 0 → after.word (ghost i r k) ≡ 0
    sent_alone r k lr lk z = to_alone r lr k lk ∙ z

    changes_alone : Changes n s.word after.word i
    changes_alone = changes_none n s.word after.word i turn.in_range u

    flags_idle : (f.working ≡ false → g.working ≡ false) → (¬ IsClearing g.doing) → (¬ IsStoring g.doing)
        → FlagsStand n after.word i g
    flags_idle none not_clearing not_storing =
        flags_from (flags_of s.word i) flags_alone changes_alone (λ c. (none (old.busy c).0, not_clearing))
        (λ c. (not_storing, λ r k lr lk. sent_alone r k lr lk ((old.sent c).1 r k lr lk)))

    quiet_alone : (f.working ≡ false → g.working ≡ false) → IsQuietScene n s → (g.working ≡ false)
        × ((r k : ℕ) → r < n.servers → k < n.ring → after.word (ghost i r k) ≡ 0)
    quiet_alone none q =
        (none (q.servers i turn.in_range), λ r k lr lk. sent_alone r k lr lk (q.ghosts i r k turn.in_range lr lk))

    shows_works : SameRings n f g → g.doing ≡ resting → (f.working ≡ false → g.working ≡ false) → Shows n s after i g
    shows_works same rest none = record {
      flags = flags_idle none (no_clearing rest) (no_storing rest);
      doing = subst (DoingStands n after.word i g) (sym rest) tt;
      sends = λ b lb d. to_same b lb d (same.window b lb) (to_alone b lb);
      takes = λ a la d. from_same a la d (same.ghost_at a la) (from_alone a la);
      works = works_same same.work_at own_alone;
      calm = calm_from (flags_of s.word i) flags_alone calm_same;
      quiet = quiet_alone none;
    }

    shows_window : (r : ℕ) (w : Window) → SetsWindow n f g r w → (f.working ≡ false → g.working ≡ false)
        → (¬ IsClearing g.doing) → (¬ IsStoring g.doing) → DoingStands n after.word i g g.doing → r < n.servers → r ≢ i
        → RingStands n.ring (slots_of s.word (Ghost i r)) ((s.server r).ghost_at i) w → Shows n s after i g
    shows_window r w set none not_clearing not_storing doing lr d ring = record {
      flags = flags_idle none not_clearing not_storing;
      doing = doing;
      sends = to_set r w set
          (ring_same n.ring (slots_of s.word (Ghost i r)) ((s.server r).ghost_at i) w ring
          (slots_of after.word (Ghost i r)) (to_alone r lr)) (λ b lb o. to_alone b lb);
      takes = λ a la d. from_same a la d (set.ghost_at a la) (from_alone a la);
      works = works_same set.work_at own_alone;
      calm = calm_from (flags_of s.word i) flags_alone calm_same;
      quiet = quiet_alone none;
    }

    shows_room : (r : ℕ) → r < n.servers → r ≢ i → f.working ≡ true
        → s.word (ghost i r ((f.window r).head % n.ring)) ≡ 0
        → SetsWindow n f g r (found_room n.ring (f.window r)) → g.doing ≡ sending r → g.working ≡ true
        → Shows n s after i g
    shows_room r lr d working free set is up =
        let room = ring_room n.ring (slots_of s.word (Ghost i r)) ((s.server r).ghost_at i) (f.window r)
        (ring_to r lr d) free in
        let there : after.word (ghost i r ((g.window r).head % n.ring)) ≡ 0 =
        ap (λ (w : Window). after.word (ghost i r (w.head % n.ring))) set.here
        ∙ ap (λ (k : ℕ). after.word (ghost i r k)) room.1
        ∙ to_alone r lr ((f.window r).head % n.ring)
        (place_below n.ring (f.window r).head (let b = (ring_to r lr d).at_below in omega arith)) ∙ free in
        shows_window r (found_room n.ring (f.window r)) set (λ z. absurd (false_true f.working z working))
        (λ x. subst IsClearing is x) (λ x. subst IsStoring is x)
        (subst (DoingStands n after.word i g) (sym is) (record {
          in_range = lr;
          other = d;
          working = up;
          free = there;
          room = subst (λ (w : Window). w.head < w.tail + n.ring) (sym set.here) room.2;
        })) lr d room.0

    shows_emptied : (r : ℕ) → r < n.servers → r ≢ i → (f.window r).tail < (f.window r).head
        → s.word (ghost i r ((f.window r).tail % n.ring)) ≡ 0
        → SetsWindow n f g r (tail_up n.ring (f.window r)) → g.doing ≡ resting → (f.working ≡ false → g.working ≡ false)
        → Shows n s after i g
    shows_emptied r lr d some free set rest none =
        shows_window r (tail_up n.ring (f.window r)) set none (no_clearing rest) (no_storing rest)
        (subst (DoingStands n after.word i g) (sym rest) tt) lr d
        (ring_tail n.ring (slots_of s.word (Ghost i r)) ((s.server r).ghost_at i) (f.window r)
        (ring_to r lr d) some free)

  -- ---- steps that leave all but what the server is about to do
  module _ (d : Doing) (is : g ≡ record f { doing = d }) where
    rings_kept : SameRings n f g
    rings_kept = record {
      work_at = ap (λ (x : ServerFacet). x.work_at) is;
      ghost_at = λ a la. ap (λ (x : ServerFacet). x.ghost_at a) is;
      window = λ r lr. ap (λ (x : ServerFacet). x.window r) is;
    }

    working_kept : g.working ≡ f.working
    working_kept = ap (λ (x : ServerFacet). x.working) is

    doing_is : g.doing ≡ d
    doing_is = ap (λ (x : ServerFacet). x.doing) is

    doing_stands : DoingStands n after.word i (record f { doing = d }) d → DoingStands n after.word i g g.doing
    doing_stands m = subst (λ (x : ServerFacet). DoingStands n after.word i x x.doing) (sym is) m

  shows_name : (source : Source) (w : ℕ) → (u : Untouched n s.word after.word) → IsSource n i source
      → s.word (incoming i f source) ≡ w → w ≢ 0 → g ≡ record f { doing = taking source w } → Shows n s after i g
  shows_name source w u is_source found filled is =
      let same = rings_kept (taking source w) is in
      let none : f.working ≡ false → g.working ≡ false = λ z. working_kept (taking source w) is ∙ z in
      record {
        flags = flags_idle u none (λ x. subst IsClearing (doing_is (taking source w) is) x)
            (λ x. subst IsStoring (doing_is (taking source w) is) x);
        doing = doing_stands (taking source w) is (record {
          is_source = is_source;
          found = there source is_source
              ∙ found;
          filled = filled;
        });
        sends = λ b lb d. to_same b lb d (same.window b lb) (to_alone u b lb);
        takes = λ a la d. from_same a la d (same.ghost_at a la) (from_alone u a la);
        works = works_same same.work_at (own_alone u);
        calm = calm_from (flags_of s.word i) (flags_alone u) calm_same;
        quiet = quiet_alone u none;
      }
    where
      there : (source : Source) → IsSource n i source → after.word (incoming i f source) ≡ s.word (incoming i f source)
      there Collector x = own_alone u f.work_at (h.works i turn.in_range).at_below
      there (Server a) x = from_alone u a x.0 (f.ghost_at a) (ring_from a x.0 x.1).at_below

  -- ---- steps on the own flags
  module _ (x : ℕ) (w : Wrote n s.word after.word (flags i) x) where
    to_flags : (b : ℕ) → b < n.servers → SlotsTo b
    to_flags b lb k lk = w.else (ghost i b k) tt (turn.in_range, lb, lk) (λ e. cc)

    from_flags : (a : ℕ) → a < n.servers → SlotsFrom a
    from_flags a la k lk = w.else (ghost a i k) tt (la, turn.in_range, lk) (λ e. cc)

    own_flags : SlotsOwn
    own_flags k lk = w.else (work i k) tt (turn.in_range, lk) (λ e. cc)

    shows_flags : (fl : FlagWord) → Flagged after.word i fl → SameRings n f g → g.working ≡ f.working
        → DoingStands n after.word i g g.doing → Calm fl
        → (fl.busy ≡ false → (g.working ≡ false) × ¬ IsClearing g.doing)
        → (fl.ghost_ ≡ false → (¬ IsStoring g.doing)
        × ((r k : ℕ) → r < n.servers → k < n.ring → after.word (ghost i r k) ≡ 0)) → Shows n s after i g
    shows_flags fl is same working doing calm busy sent = record {
      flags = flags_from fl is (changes_flags n s.word after.word i turn.in_range x w) busy sent;
      doing = doing;
      sends = λ b lb d. to_same b lb d (same.window b lb) (to_flags b lb);
      takes = λ a la d. from_same a la d (same.ghost_at a la) (from_flags a la);
      works = works_same same.work_at own_flags;
      calm = calm_from fl is calm;
      quiet = λ q. (
        working ∙ q.servers i turn.in_range,
        λ r k lr lk. to_flags r lr k lk
            ∙ q.ghosts i r k turn.in_range lr lk,
      );
    }

  shows_raised_ghost : (r : ℕ) → Wrote n s.word after.word (flags i) (bit_or (s.word (flags i)) 6) → f.doing ≡ sending r
      → g ≡ record f { doing = storing r } → Shows n s after i g
  shows_raised_ghost r w was is =
      let m : MayPut n s.word i f r = subst (DoingStands n s.word i f) was (h.doing i turn.in_range) in
      let to = to_flags (bit_or (s.word (flags i)) 6) w r m.in_range in
      shows_flags (bit_or (s.word (flags i)) 6) w (record (flags_of s.word i) { ghost_ = true; changed = true })
      (sends s.word after.word i old.packed w.there)
      (rings_kept (storing r) is) (working_kept (storing r) is)
      (doing_stands (storing r) is (record {
        in_range = m.in_range;
        other = m.other;
        working = m.working;
        room = m.room;
        free = to ((f.window r).head % n.ring)
            (place_below n.ring (f.window r).head (let b = (ring_to r m.in_range m.other).at_below in omega arith))
            ∙ m.free;
      }))
      (λ c. absurd (false_true true c refl))
      (λ c. absurd (false_true f.working (old.busy c).0 m.working))
      (λ c. absurd (false_true true c refl))

  shows_raised_busy : (source : Source) (v : ℕ) → Wrote n s.word after.word (flags i) (bit_or (s.word (flags i)) 5)
      → f.doing ≡ taking source v → g ≡ record f { doing = clearing source v } → Shows n s after i g
  shows_raised_busy source v w was is =
      let m : MayTake n s.word i f source v = subst (DoingStands n s.word i f) was (h.doing i turn.in_range) in
      shows_flags (bit_or (s.word (flags i)) 5) w (record (flags_of s.word i) { busy = true; changed = true })
      (receives s.word after.word i old.packed w.there)
      (rings_kept (clearing source v) is) (working_kept (clearing source v) is)
      (doing_stands (clearing source v) is (record {
        is_source = m.is_source;
        found = there source m.is_source
            ∙ m.found;
        filled = m.filled;
      }))
      (λ c. absurd (false_true true c refl))
      (λ c. absurd (false_true true c refl))
      (λ c. (
        λ y. subst IsStoring (doing_is (clearing source v) is) y,
        λ r k lr lk. to_flags
            (bit_or (s.word (flags i)) 5) w r lr k lk ∙ (old.sent c).1 r k lr lk,
      ))
    where
      there : (source : Source) → IsSource n i source → after.word (incoming i f source) ≡ s.word (incoming i f source)
      there Collector x = own_flags (bit_or (s.word (flags i)) 5) w f.work_at (h.works i turn.in_range).at_below
      there (Server a) x =
          from_flags (bit_or (s.word (flags i)) 5) w a x.0 (f.ghost_at a) (ring_from a x.0 x.1).at_below

  shows_lowered_busy : Wrote n s.word after.word (flags i) (bit_and (s.word (flags i)) (all_but 1)) → f.working ≡ false
      → f.doing ≡ resting → g ≡ f → Shows n s after i g
  shows_lowered_busy w none rest is =
      let doing : g.doing ≡ resting = ap (λ (x : ServerFacet). x.doing) is ∙ rest in
      shows_flags (bit_and (s.word (flags i)) (all_but 1)) w (record (flags_of s.word i) { busy = false })
      (rests s.word after.word i old.packed w.there)
      (same_is is) (ap (λ (x : ServerFacet). x.working) is) (subst (DoingStands n after.word i g) (sym doing) tt)
      (λ c. (c, λ e. refl, λ e. e))
      (λ c. (ap (λ (x : ServerFacet). x.working) is ∙ none, no_clearing doing))
      (λ c. (
        no_storing doing,
        λ r k lr lk. to_flags (bit_and (s.word (flags i)) (all_but 1)) w r lr k lk
            ∙ (old.sent c).1 r k lr lk,
      ))
    where
      same_is : g ≡ f → SameRings n f g
      same_is is = record {
        work_at = ap (λ (x : ServerFacet). x.work_at) is;
        ghost_at = λ a la. ap (λ (x : ServerFacet). x.ghost_at a) is;
        window = λ r lr. ap (λ (x : ServerFacet). x.window r) is;
      }

  -- with no window open, all slots that it fills are
  shows_lowered_ghost : Wrote n s.word after.word (flags i) (bit_and (s.word (flags i)) (all_but 2))
      → ((r : ℕ) → r < n.servers → r ≢ i → (f.window r).head ≤ (f.window r).tail) → f.doing ≡ resting → g ≡ f
      → Shows n s after i g
  shows_lowered_ghost w empty rest is =
      let doing : g.doing ≡ resting = ap (λ (x : ServerFacet). x.doing) is ∙ rest in
      shows_flags (bit_and (s.word (flags i)) (all_but 2)) w (record (flags_of s.word i) { ghost_ = false })
      (seen_off s.word after.word i old.packed w.there)
      (same_is is) (ap (λ (x : ServerFacet). x.working) is) (subst (DoingStands n after.word i g) (sym doing) tt)
      (λ c. (c, λ e. e, λ e. refl))
      (λ c. (ap (λ (x : ServerFacet). x.working) is ∙ (old.busy c).0, no_clearing doing))
      (λ c. (
        no_storing doing,
        λ r k lr lk. to_flags (bit_and (s.word (flags i)) (all_but 2)) w r lr k lk
            ∙ all_empty r k lr lk,
      ))
    where
      same_is : g ≡ f → SameRings n f g
      same_is is = record {
        work_at = ap (λ (x : ServerFacet). x.work_at) is;
        ghost_at = λ a la. ap (λ (x : ServerFacet). x.ghost_at a) is;
        window = λ r lr. ap (λ (x : ServerFacet). x.window r) is;
      }

      all_empty : (r k : ℕ) → r < n.servers → k < n.ring → s.word (ghost i r k) ≡ 0
      all_empty r k lr lk = elim (cases_eq r i) [
        | inl e ↦ subst (λ (x : ℕ). s.word (ghost i x k) ≡ 0) (sym e) (old.own k lk)
        | inr d ↦ ring_empty n.ring (slots_of s.word (Ghost i r)) ((s.server r).ghost_at i) (f.window r)
            (ring_to r lr d) (let o = (ring_to r lr d).window.ordered in let e = empty r lr d in omega arith) k lk
      ]

  -- ---- a put
  may_store : (r : ℕ) → f.doing ≡ storing r → MayPut n s.word i f r
  may_store r was = subst (DoingStands n s.word i f) was (h.doing i turn.in_range)

  module _ (r x : ℕ) (w : Wrote n s.word after.word (ghost i r ((f.window r).head % n.ring)) x)
      (m : MayPut n s.word i f r) where
    changes_stored : Changes n s.word after.word i
    changes_stored = changes_put n s.word after.word i turn.in_range r ((f.window r).head % n.ring) x m.other m.free w

    shows_stored : x ≢ 0 → f.doing ≡ storing r → SetsWindow n f g r (head_up (f.window r)) → g.doing ≡ resting
        → (f.working ≡ false → g.working ≡ false) → Shows n s after i g
    shows_stored filled was set rest none = record {
      flags = flags_from (flags_of s.word i) flags_now changes_stored (λ c. (none (old.busy c).0, no_clearing rest))
          (λ c. absurd ((old.sent c).0 (subst IsStoring (sym was) tt)));
      doing = subst (DoingStands n after.word i g) (sym rest) tt;
      sends = to_set r (head_up (f.window r)) set
          (ring_put n.ring (slots_of s.word (Ghost i r)) ((s.server r).ghost_at i) (f.window r)
          (ring_to r m.in_range m.other) (slots_of after.word (Ghost i r)) x m.free m.room filled
          (w.there, λ j lj d. w.else (ghost i r j) tt (turn.in_range, m.in_range, lj) (λ e. d (cc))))
          (λ b lb o k lk. w.else (ghost i b k) tt (turn.in_range, lb, lk) (λ e. o (cc)));
      takes = λ a la d. from_same a la d (set.ghost_at a la)
          (λ k lk. w.else (ghost a i k) tt (la, turn.in_range, lk) (λ e. d (cc)));
      works = works_same set.work_at (λ k lk. w.else (work i k) tt (turn.in_range, lk) (λ e. cc));
      calm = calm_from (flags_of s.word i) flags_now calm_same;
      quiet = λ q. absurd (false_true f.working (q.servers i turn.in_range) m.working);
    }
      where
        flags_now : Flagged after.word i (flags_of s.word i)
        flags_now = left_alone s.word after.word i old.packed (w.else (flags i) tt turn.in_range (λ e. cc))

  -- ---- a take
  may_clear : (source : Source) (v : ℕ) → f.doing ≡ clearing source v → MayTake n s.word i f source v
  may_clear source v was = subst (DoingStands n s.word i f) was (h.doing i turn.in_range)

  is_clearing : (source : Source) (v : ℕ) → f.doing ≡ clearing source v → IsClearing f.doing
  is_clearing source v was = subst IsClearing (sym was) tt

  shows_taken_work : (v : ℕ) → Wrote n s.word after.word (work i f.work_at) 0 → MayTake n s.word i f Collector v
      → IsClearing f.doing → Advances n f g Collector → g.doing ≡ resting → Shows n s after i g
  shows_taken_work v w m was more rest = record {
    flags = flags_from (flags_of s.word i) flags_now
        (changes_work n s.word after.word i turn.in_range f.work_at below w) (λ c. absurd ((old.busy c).1 was))
        (λ c. (no_storing rest, λ r k lr lk. to_now r lr k lk ∙ (old.sent c).1 r k lr lk));
    doing = subst (DoingStands n after.word i g) (sym rest) tt;
    sends = λ b lb d. to_same b lb d (more.window b lb) (to_now b lb);
    takes = λ a la d. from_same a la d (more.rises.1 a la)
        (λ k lk. w.else (ghost a i k) tt (la, turn.in_range, lk) (λ e. cc));
    works = subst (λ (p : ℕ). RingStands n.ring (slots_of after.word (Work i)) p (s.collector.window i))
        (sym more.rises.0)
        (ring_take n.ring (slots_of s.word (Work i)) f.work_at (s.collector.window i) (h.works i turn.in_range)
        (slots_of after.word (Work i)) (λ z. m.filled (sym m.found ∙ z))
        (w.there, λ j lj d. w.else (work i j) tt (turn.in_range, lj) (λ e. d (cc))));
    calm = calm_from (flags_of s.word i) flags_now calm_same;
    quiet = λ q. absurd (m.filled (sym m.found ∙ q.works i f.work_at turn.in_range below));
  }
    where
      below : f.work_at < n.ring
      below = (h.works i turn.in_range).at_below

      to_now : (b : ℕ) → b < n.servers → SlotsTo b
      to_now b lb k lk = w.else (ghost i b k) tt (turn.in_range, lb, lk) (λ e. cc)

      flags_now : Flagged after.word i (flags_of s.word i)
      flags_now = left_alone s.word after.word i old.packed (w.else (flags i) tt turn.in_range (λ e. cc))

  shows_taken_ghost : (b v : ℕ) → Wrote n s.word after.word (ghost b i (f.ghost_at b)) 0
      → MayTake n s.word i f (Server b) v → IsClearing f.doing → Advances n f g (Server b) → g.doing ≡ resting
      → Shows n s after i g
  shows_taken_ghost b v w m was more rest = record {
    flags = flags_from (flags_of s.word i) flags_now
        (changes_take n s.word after.word i turn.in_range b (f.ghost_at b) lb below w)
        (λ c. absurd ((old.busy c).1 was))
        (λ c. (no_storing rest, λ r k lr lk. to_now r lr k lk ∙ (old.sent c).1 r k lr lk));
    doing = subst (DoingStands n after.word i g) (sym rest) tt;
    sends = λ r lr d. to_same r lr d (more.window r lr) (to_now r lr);
    takes = λ a la d. elim (cases_eq a b) [
      | inl e ↦ subst (λ (x : ℕ). GhostStands n after.word x i (s.server x) g) (sym e)
          (subst (λ (p : ℕ). RingStands n.ring (slots_of after.word (Ghost b i)) p ((s.server b).window i))
          (sym more.rises.1)
          (ring_take n.ring (slots_of s.word (Ghost b i)) (f.ghost_at b) ((s.server b).window i) (ring_from b lb other)
          (slots_of after.word (Ghost b i)) (λ z. m.filled (sym m.found ∙ z))
          (w.there, λ j lj d. w.else (ghost b i j) tt (lb, turn.in_range, lj) (λ e. d (cc)))))
      | inr o ↦ from_same a la d (more.rises.2 a la o)
          (λ k lk. w.else (ghost a i k) tt (la, turn.in_range, lk) (λ e. o (cc)))
    ];
    works = works_same more.rises.0 (λ k lk. w.else (work i k) tt (turn.in_range, lk) (λ e. cc));
    calm = calm_from (flags_of s.word i) flags_now calm_same;
    quiet = λ q. absurd (m.filled (sym m.found ∙ q.ghosts b i (f.ghost_at b) lb turn.in_range below));
  }
    where
      lb : b < n.servers
      lb = m.is_source.0

      other : b ≢ i
      other = m.is_source.1

      below : f.ghost_at b < n.ring
      below = (ring_from b lb other).at_below

      to_now : (r : ℕ) → r < n.servers → SlotsTo r
      to_now r lr k lk = w.else (ghost i r k) tt (turn.in_range, lr, lk) (λ e. other (cc))

      flags_now : Flagged after.word i (flags_of s.word i)
      flags_now = left_alone s.word after.word i old.packed (w.else (flags i) tt turn.in_range (λ e. cc))

  -- ---- all kinds: what they change and what they show
  pub record Both : Type 0 where
    pub changes : Changes n s.word after.word i
    pub shows : Shows n s after i g

  changes_mine : (x : ℕ) → Wrote n s.word after.word (flags i) x → Changes n s.word after.word i
  changes_mine x w = changes_flags n s.word after.word i turn.in_range x w

  clears : (source : Source) (v : ℕ) → Wrote n s.word after.word (incoming i f source) 0 → MayTake n s.word i f source v
      → IsClearing f.doing → Advances n f g source → g.doing ≡ resting → Both
  clears Collector v w m was more rest =
      record {
        changes = changes_work n s.word after.word i turn.in_range f.work_at
            (h.works i turn.in_range).at_below w;
        shows = shows_taken_work v w m was more rest;
      }
  clears (Server b) v w m was more rest = record {
    changes = changes_take n s.word after.word i turn.in_range b (f.ghost_at b) m.is_source.0
        (ring_from b m.is_source.0 m.is_source.1).at_below w;
    shows = shows_taken_ghost b v w m was more rest;
  }

  pub both : ServerStep n s.word after.word i f g → Both
  both (Works u same rest none) = record { changes = changes_alone u; shows = shows_works u same rest none }
  both (FindsRoom r u lr d working free set is up) =
      record { changes = changes_alone u; shows = shows_room u r lr d working free set is up }
  both (RaisesGhost r w was is) = record { changes = changes_mine _ w; shows = shows_raised_ghost r w was is }
  both (Stores r x w filled was set rest none) = record {
    changes = changes_stored r x w (may_store r was);
    shows = shows_stored r x w (may_store r was) filled was set rest none;
  }
  both (FindsName source v u is_source found filled is) =
      record { changes = changes_alone u; shows = shows_name source v u is_source found filled is }
  both (RaisesBusy source v w was is) =
      record { changes = changes_mine _ w; shows = shows_raised_busy source v w was is }
  both (Clears source v w was more rest) =
      clears source v w (may_clear source v was) (is_clearing source v was) more rest
  both (LowersBusy w none rest is) = record { changes = changes_mine _ w; shows = shows_lowered_busy w none rest is }
  both (SeesEmptied r u lr d some free set rest none) =
      record { changes = changes_alone u; shows = shows_emptied u r lr d some free set rest none }
  both (LowersGhost w empty rest is) =
      record { changes = changes_mine _ w; shows = shows_lowered_ghost w empty rest is }

  pub server_holds : ServerStep n s.word after.word i f g → PollingStands n after
  server_holds step = let b = both step in serves_hold n s after i g h turn b.changes b.shows

  pub server_quiet : ServerStep n s.word after.word i f g → IsQuietScene n s → IsQuietScene n after
  server_quiet step q = let b = both step in quiet_after n s after i g h turn b.changes b.shows q
