-- All seats sit at the start of a script.
use Rattle.std.proofs.Common.{◌≡◌, ◌≢◌, ℕ, zero, suc, ◌+◌, ◌%◌, ◌<◌, ◌≤◌, ◌==◌, ⊎_elim, Bool, true, false, nat_lt}
use Rattle.std.proofs.Common.{if◌then◌else◌, List, [], ◌∷◌, length, map, slice_get, count_by, sum_by, Some, None, sym}
use Rattle.std.proofs.Common.{ap, subst, refl, ◌∙◌, arith, ◌*◌, ne_eqb, eq-eqb}
use Rattle.std.proofs.lemmas.Bool.{cases_eq}
use Rattle.std.proofs.lemmas.List.{length-replicate}
use Rattle.std.proofs.lemmas.List.Elements.{All-nil, All-replicate}
use Rattle.std.proofs.lemmas.List.Sums.{sum_by-cons}
use Rattle.std.proofs.lemmas.Option.{slice_get_within}
use Rattle.mako_words.specs.Lives.{live_at}
use Rattle.mako_shape.specs.declared.numbers.Numbers.{Numbers}
use Rattle.mako_shape.specs.Places.{Place, finished, barrier, notice, work, ghost, live, total, Within, word_at}
use Rattle.mako_gate.specs.Sums.{counted}
use Rattle.mako_model.proofs.Lists.{get_replicate_within}
use Rattle.mako_script.specs.Programs.{ProgramView}
use Rattle.mako_script.specs.ScriptFacts.{facts_of}
use Rattle.mako_script.specs.Scripts.{ScriptView, IsProper}
use Rattle.mako_mutator.proofs.ProgramCalls.{program_fits, few_calls}
use Rattle.mako_names.proofs.Going.{map_get}
use Rattle.mako_ring.specs.Contents.{content}
use Rattle.mako_ring.specs.Tracing.{no_window}
use Rattle.mako_ring.specs.Windows.{IsWindow}
use Rattle.mako_poll.proofs.AllSteps.{opening_ring}
use Rattle.mako_poll.proofs.Worlds.{no_positions}
use Rattle.mako_layout.specs.Facets.{times_in}
use Rattle.mako_layout.specs.Layouts.{regions_of}
use Rattle.mako_layout.specs.Openings.{opening_words, spares_below}
use Rattle.mako_layout.specs.StepParts.{collector_seat}
use Rattle.mako_phases.specs.Lives.{LiveFacet, elsewhere, counting, counter_of, ArePast}
use Rattle.mako_shades.specs.Steps.{IsIncoming}
use Rattle.mako_server.specs.Serving as servers
use Rattle.mako_pause.specs.Opening as collectors
use Rattle.mako_pause.specs.Opening.{opening_role, opening_roles, is_new, news_of}
use Rattle.mako_pause.specs.Keeping.{IsKeptKnown}
use Rattle.mako_pause.specs.Regions.{is_spare}
use Rattle.mako_pause.specs.declared.regions.Role.{Role}
use Rattle.mako_pause.specs.declared.regions.Role.TheVariants.{Home, Spare}
use Rattle.mako_pause.proofs.Openings.{roles_count}
use Rattle.mako_cycles.proofs.Roles.{opening_at}
use Rattle.mako_seat.specs.declared.seat.Seat.{Seat}
use Rattle.mako_seat.specs.declared.seat.Seat.TheVariants.{Mutator, Server, Collector}
use Rattle.mako_state.specs.Facets.{gate_facet, work_facet, left_facet}
use Rattle.mako_state.specs.Openings.{words_at_start, opening_driver, opening_seats}
use Rattle.mako_state.proofs.OpeningWords.{start_size, start_words}
use Rattle.mako_state.proofs.Openings.{in_range, program_at, phase_is, ended_none}
use Rattle.mako_state.proofs.OpeningSeats.{IsOpeningSeat, of_mutator, of_server, of_collector, seat_is, seats_count}
use Rattle.mako_state.proofs.Seating.{map_at}
use Rattle.mako_joint.specs.Joints.{JointScene}
use Rattle.mako_joint.specs.Openings.{IsJointOpening}
use Rattle.mako_joint.proofs.Openings.{openings_hold}
use Rattle.mako_mutating.proofs.Openings.{openings_keep as mutators_keep}
use Rattle.mako_tracing.proofs.Belonging.{empty_slots_belong, openings_keep as servers_keep}
use Rattle.mako_model.proofs.Sizes.{points_keep_small}
use Rattle.mako_clearing.specs.Notices.{RingTells}
use Rattle.mako_collecting.specs.Keeping.{BarrierRing}
use Rattle.mako_sitting.specs.Openings.{OpeningsSit, scene_with, trace_facet, phase_facet, held_facet, trying_facet}
use Rattle.mako_sitting.specs.Seats.{AllSit, SeatSits, MutatorSits, ServerSits, CollectorSits, GoneOver, HeardIn}
use Rattle.mako_sitting.specs.Seats.{LivesFit, SparesAre, live_facet}
use Rattle.mako_sitting.proofs.OpeningGroups.{begins, gate_at, opens}

-- ---- names and regions

names_are : (programs : List ProgramView)
    → sum_by news_of programs ≡ sum_by (λ calls. count_by is_new calls) (map (λ (p : ProgramView). p.calls) programs)
names_are [] = refl
names_are (p ∷ programs) =
    let rest = names_are programs in
    let one = sum_by-cons news_of p programs in
    let two = sum_by-cons (λ calls. count_by is_new calls) p.calls (map (λ (q : ProgramView). q.calls) programs) in
    omega (arith, rest, one, two)

abbrev role_by : Bool → Role
role_by b = if b then Home else Spare 0

abbrev with_spare : Bool → ℕ → List ℕ → List ℕ
with_spare b c regions = if b then regions else c ∷ regions

-- the region is met once among the spare ones if it is spare, and else never
spare_more : (b : Bool) (c : ℕ) (regions : List ℕ) → times_in regions c ≡ 0
    → times_in (with_spare b c regions) c ≡ counted (is_spare 1 (role_by b)) 1
spare_more true c regions none = none
spare_more false c regions none =
    let sum = sum_by-cons (λ s. counted (s == c) 1) c regions in
    let here : counted (c == c) 1 ≡ 1 = ap (λ b. counted b 1) (eq-eqb c c refl) in
    omega (arith, sum, here, none)

spare_else : (b : Bool) (c r : ℕ) (regions : List ℕ) → c ≢ r
    → times_in (with_spare b c regions) r ≡ times_in regions r
spare_else true c r regions ne = refl
spare_else false c r regions ne =
    let sum = sum_by-cons (λ s. counted (s == r) 1) c regions in
    let other : counted (c == r) 1 ≡ 0 = ap (λ b. counted b 1) (ne_eqb c r ne) in
    omega (arith, sum, other)

none_behind : (n : Numbers) (c r : ℕ) → c ≤ r → times_in (spares_below n c) r ≡ 0
none_behind n zero r l = refl
none_behind n (suc c) r l =
    spare_else (nat_lt (c % (n.tablets + n.spare)) n.tablets) c r (spares_below n c) (λ e. omega (arith, l, e))
    ∙ none_behind n c r (omega (arith, l))

spares_are : (n : Numbers) (c r : ℕ) → r < c
    → times_in (spares_below n c) r ≡ counted (is_spare 1 (opening_role n r)) 1
spares_are n zero r l = absurd (omega (arith, l))
spares_are n (suc c) r l =
    let b : Bool = nat_lt (c % (n.tablets + n.spare)) n.tablets in
    ⊎_elim
    (λ (e : c ≡ r).
    subst (λ q. times_in (spares_below n (suc c)) q ≡ counted (is_spare 1 (opening_role n q)) 1) e
    (spare_more b c (spares_below n c) (none_behind n c c (omega arith))))
    (λ (ne : c ≢ r). spare_else b c r (spares_below n c) ne ∙ spares_are n c r (omega (arith, l, ne)))
    (cases_eq c r)

-- ---- a start with these words and seats

module _ (s : ScriptView) (proper : IsProper s) (ws : List ℕ) (size : length ws ≡ total s.numbers)
    (stands : (p : Place) → Within s.numbers p → word_at s.numbers ws p ≡ opening_words s.numbers s.board p)
    (seats : List Seat) (count : length seats ≡ s.numbers.mutators + s.numbers.servers + 1)
    (each : (i : ℕ) (v : Seat) → slice_get seats i ≡ Some v → IsOpeningSeat s i v) where
  abbrev n : Numbers
  n = s.numbers

  abbrev scene : JointScene
  scene = scene_with s ws seats

  opening : IsJointOpening n (facts_of s) scene
  opening = opens s proper ws size stands seats count each

  some : 0 < n.ring
  some = opening.ring

  mutator_sits : (m : ℕ) (p : ProgramView) → slice_get s.programs m ≡ Some p
      → slice_get seats m ≡ Some (Mutator (opening_driver n m p))
      → MutatorSits n (facts_of s) scene 0 m (opening_driver n m p)
  mutator_sits m p at here =
      let v : Seat = Mutator (opening_driver n m p) in
      let first = begins (record { shape = n; mutator = m }) ws (slice_get p.calls 0) in
      let l = slice_get_within s.programs m p at in
      record {
        seen = record {
          gate = map_at (gate_facet n) seats m v here;
          work = map_at work_facet seats m v here;
          trace = map_at trace_facet seats m v here;
          phase = map_at (phase_facet n) seats m v here;
          held = map_at held_facet seats m v here;
          trying = map_at trying_facet seats m v here;
          left = map_at left_facet seats m v here;
        };
        keeps = mutators_keep n (facts_of s) scene opening m p.calls
            (let same = proper.mutators in omega (arith, l, same)) (program_at s proper m p at)
            (program_fits s m p proper at) (few_calls s m p proper at);
        searches = first.searches;
        puts = first.puts;
      }

  -- a ring of empty slots
  empty : {A : Type 0} (xs : List A) → length xs ≡ 0 → xs ≡ []
  empty [] e = refl
  empty (x ∷ xs) e = absurd (omega (arith, e))

  notices_tell : (j : ℕ) → j < n.servers → RingTells n ws j 0 0 [] false
  notices_tell j low =
      let ring = opening_ring n.ring (λ k. word_at n ws (notice j k)) 0 no_window some
      (λ k l. stands (notice j k) (low, l)) refl refl refl in
      record {
        taker_below = some;
        next_below = some;
        others = ring.others;
        place = ring.next;
        holds = empty (content n.ring (λ k. word_at n ws (notice j k)) 0)
            (let c = ring.counted in omega (arith, c));
        fit = λ name among. absurd (let low = among.1 in omega (arith, low));
      }

  server_sits : (i j : ℕ) → i ≡ length s.programs + j → j < n.servers
      → slice_get seats i ≡ Some (Server (servers.opening n j))
      → ServerSits n (facts_of s) scene 0 i (servers.opening n j)
  server_sits i j e low here =
      let v : Seat = Server (servers.opening n j) in
      let same = proper.mutators in
      record {
        number = omega (arith, e, same);
        in_range = low;
        here = record {
          trace = map_at trace_facet seats i v here;
          gate = gate_at s proper ws size stands seats count each i v here;
          work = map_at work_facet seats i v here;
          phase = map_at (phase_facet n) seats i v here;
          serving = refl;
        };
        keeps = servers_keep n j proper.shape low;
        stage = record {
          through = 0;
          through_is = get_replicate_within n.servers j 0 low;
          gone_over = subst (λ p. GoneOver n p 0 0)
              (sym (phase_is s proper ws size stands seats count each)) tt;
          sent = [];
          done = false;
          sent_is = get_replicate_within n.servers j [] low;
          sending = record { names = []; sent_is = refl; ring = notices_tell j low; last = λ told. refl };
          ended = λ told. absurd cc;
          heard = subst (λ p. HeardIn p [] false)
              (sym (phase_is s proper ws size stands seats count each)) (refl, refl);
        };
        measured = tt;
      }

  -- the collector
  known : IsKeptKnown (collectors.opening s).kept
  known =
      let r = in_range s proper in
      record {
        shape = proper.shape;
        cycle = omega arith;
        pending = All-nil _;
        windows_count = length-replicate n.servers no_window;
        windows = All-replicate (IsWindow n.ring) n.servers no_window
            (record { tail_below = some; ordered = omega arith; few = omega arith });
        barriers_count = length-replicate n.mutators 0;
        barriers = All-replicate (λ at. at < n.ring) n.mutators 0 some;
        notices_count = length-replicate n.servers 0;
        notices = All-replicate (λ at. at < n.ring) n.servers 0 some;
        poll_shape = refl;
        poll = omega (arith, r);
        chosen = All-nil _;
        roles = roles_count n (n.servers * (n.tablets + n.spare));
        lists = refl;
        lists_room = refl;
        names = omega arith;
      }

  barrier_ring : (m : ℕ) → m < n.mutators → BarrierRing n ws m 0 0
  barrier_ring m low =
      let ring = opening_ring n.ring (λ k. word_at n ws (barrier m k)) 0 no_window some
      (λ k l. stands (barrier m k) (low, l)) refl refl refl in
      record { others = ring.others; next = ring.next }

  spares : SparesAre n (collectors.opening s).kept (spares_below n (regions_of n))
  spares r l =
      spares_are n (regions_of n) r l
      ∙ ap (λ role. counted (is_spare 1 role) 1) (sym (opening_at n (regions_of n) r l))

  collector_sits : (i : ℕ) → i ≡ length s.programs + n.servers
      → slice_get seats i ≡ Some (Collector (collectors.opening s))
      → CollectorSits n (facts_of s) scene (λ r. 0) (λ m. 0) i (collectors.opening s)
  collector_sits i e there =
      let v : Seat = Collector (collectors.opening s) in
      let same = proper.mutators in
      let number : i ≡ collector_seat n = omega (arith, e, same) in
      let here : slice_get seats (collector_seat n) ≡ Some v =
      subst (λ q. slice_get seats q ≡ Some v) number there in
      record {
        number = number;
        here = record {
          shape = refl;
          trace = map_at trace_facet seats (collector_seat n) v here;
          gate = map_at (gate_facet n) seats (collector_seat n) v here;
          work = map_at work_facet seats (collector_seat n) v here;
          phase = map_at (phase_facet n) seats (collector_seat n) v here;
          rings = refl;
        };
        known = known;
        keeps = record {
          stage = tt;
          keeps = refl;
          empty = λ shut. absurd cc;
          rings = λ m low. subst (λ at. BarrierRing n ws m at 0) (sym (no_positions n.mutators m)) (barrier_ring m low);
        };
        takes = λ r. sym (no_positions n.servers r);
        found = tt;
        choice = (spares_below n (regions_of n), refl, spares);
        gathers = refl;
        lists = refl;
        room = ap (λ k. k + 1) (names_are s.programs);
      }

  sits : (i : ℕ) (v : Seat) → IsOpeningSeat s i v → slice_get seats i ≡ Some v
      → SeatSits n (facts_of s) scene (λ r. 0) (λ m. 0) i v
  sits _ _ (of_mutator m p at) here = mutator_sits m p at here
  sits _ _ (of_server i j e l) here = server_sits i j e l here
  sits _ _ (of_collector i e) here = collector_sits i e here

  -- live counts
  abbrev CountsNothing : ℕ → LiveFacet → Type 0
  CountsNothing i elsewhere = Unit {0}
  CountsNothing i (counting server begun counts owed) =
      (i ≡ n.mutators + server) × (begun ≤ 0) × (owed ≡ None) × (length counts ≡ n.tablets)

  counts_nothing : (i : ℕ) (v : Seat) → IsOpeningSeat s i v → CountsNothing i (live_facet v)
  counts_nothing _ _ (of_mutator m p at) = tt
  counts_nothing _ _ (of_server i j e l) =
      ((let same = proper.mutators in omega (arith, e, same)), omega arith, refl, length-replicate n.tablets 0)
  counts_nothing _ _ (of_collector i e) = tt

  facet_counts : (i : ℕ) (f : LiveFacet) → slice_get (map live_facet seats) i ≡ Some f → CountsNothing i f
  facet_counts i f at =
      let t = map_get live_facet seats i f at in
      subst (CountsNothing i) t.2 (counts_nothing i t.0 (each i t.0 t.1))

  counter_place : (i q : ℕ) (f : LiveFacet) → counter_of f ≡ Some q → CountsNothing i f → i ≡ n.mutators + q
  counter_place i q elsewhere e is = absurd cc
  counter_place i q (counting server begun counts owed) e is =
      let same : server ≡ q = cc in is.0 ∙ ap (λ r. n.mutators + r) same

  counter_at : (i q : ℕ) → slice_get (map counter_of (map live_facet seats)) i ≡ Some (Some q) → i ≡ n.mutators + q
  counter_at i q at =
      let t = map_get counter_of (map live_facet seats) i (Some q) at in
      counter_place i q t.0 t.2 (facet_counts i t.0 t.1)

  past : ArePast n ws (map live_facet seats) 0
  past = record {
    past = λ t within.
        subst (λ w. (live_at w).cycle ≤ 0) (sym (stands (live t) within)) (omega arith);
    each = λ i q begun counts owed at.
        let is = facet_counts i (counting q begun counts owed) at in (is.1, is.2, is.3);
    sole = λ q i j at_i at_j. counter_at i q at_i ∙ sym (counter_at j q at_j);
  }

  pub all_sit : AllSit n (facts_of s) scene seats
  all_sit = record {
    joint = openings_hold n (facts_of s) scene opening;
    taker = λ r. 0;
    places = λ m. 0;
    count = count;
    each = λ i v here. sits i v (each i v here) here;
    slots = empty_slots_belong n ws (λ p is within. slot_empty p is within);
    few = points_keep_small.opening (facts_of s) proper.board_high;
    lives = subst (λ p. LivesFit p n (facts_of s) ws [] (map live_facet seats))
        (sym (phase_is s proper ws size stands seats count each)) past;
    ends = stands finished tt ∙ sym (ended_none s proper ws size stands seats count each);
  }
    where
      slot_empty : (p : Place) → IsIncoming p → Within n p → word_at n ws p ≡ 0
      slot_empty (work r k) is within = stands (work r k) within
      slot_empty (ghost a r k) is within = stands (ghost a r k) within
      slot_empty p is within = absurd is

pub openings_sit : OpeningsSit
openings_sit s proper =
    all_sit s proper (words_at_start s.numbers s.board) (start_size s.numbers proper.shape s.board)
    (start_words s.numbers proper.shape s.board) (opening_seats s)
    (let many = seats_count s in let same = proper.mutators in omega (arith, many, same)) (seat_is s)
