-- All groups are at their opening at the start of a script.
use Rattle.std.proofs.Common.{◌≡◌, ◌≢◌, ℕ, zero, suc, ◌+◌, ◌<◌, ◌≤◌, ◌⊎◌, inl, inr, false, List, [], length, map}
use Rattle.std.proofs.Common.{slice_get, get_or, Option, Some, None, sym, ap, subst, refl, ◌∙◌, arith}
use Rattle.std.proofs.lemmas.Option.{slice_get_cases, slice_get_within}
use Rattle.mako_words.specs.declared.entry_word.EntryWord.{EntryWord}
use Rattle.mako_words.specs.declared.name.Name.{Name}
use Rattle.mako_words.specs.Entries.{entry_at}
use Rattle.mako_shape.specs.declared.numbers.Numbers.{Numbers}
use Rattle.mako_shape.specs.Places.{Place, phase, demand, root, barrier, work, ghost, flags, notice, leaving, entry}
use Rattle.mako_shape.specs.Places.{total, Within, word_at}
use Rattle.mako_gate.specs.Standings.{GateFacet, away, mutator_at, drained_by}
use Rattle.mako_model.specs.declared.call.Call.{Call}
use Rattle.mako_model.specs.declared.call.Call.TheVariants as call
use Rattle.mako_script.specs.ScriptFacts.{facts_of}
use Rattle.mako_script.specs.Scripts.{ScriptView, IsProper}
use Rattle.mako_call.specs.declared.caller.Caller.{Caller}
use Rattle.mako_mutator.specs.declared.progress.Task.{Task}
use Rattle.mako_mutator.specs.Drivers.{task_for}
use Rattle.mako_names.specs.Tables.{entry_of}
use Rattle.mako_names.specs.Steps.{IsNameOpening}
use Rattle.mako_names.specs.Trying as trying
use Rattle.mako_names.specs.Trying.{Trying}
use Rattle.mako_names.proofs.Going.{map_get}
use Rattle.mako_ring.specs.Facets.{IsPolled}
use Rattle.mako_ring.specs.declared.window.Window.{Window}
use Rattle.mako_poll.specs.Laws.{IsOpening}
use Rattle.mako_poll.proofs.Worlds.{no_windows, no_positions}
use Rattle.mako_layout.specs.Openings.{opening_words}
use Rattle.mako_layout.specs.StepParts.{collector_seat}
use Rattle.mako_phases.specs.Facets.{Admission, outside, mutating, collecting, Part, idle, SeatRole, mutator, server}
use Rattle.mako_phases.specs.Facets.{collector, role_of, IsNotAdmitted, IsInPause}
use Rattle.mako_phases.specs.Orders.{AreSeated}
use Rattle.mako_phases.specs.Reaching.{IsOpeningFacet, IsRootOrEntry, IsPhaseOpening}
use Rattle.mako_phases.specs.Steps.{IsPhaseWord}
use Rattle.mako_seat.specs.declared.seat.Seat.{Seat}
use Rattle.mako_state.specs.Facets.{gate_facet}
use Rattle.mako_state.proofs.Openings.{in_range, workload, programs_fit, board_in_range, phase_is, first, word_zero}
use Rattle.mako_state.proofs.Openings.{others, slots, programs_left, gates_same, works_same}
use Rattle.mako_state.proofs.OpeningSeats.{IsOpeningSeat, of_mutator, of_server, of_collector, gate_is}
use Rattle.mako_state.proofs.Seating.{map_at}
use Rattle.mako_joint.specs.Joints.{JointScene, IsOutsideWith, GatesMatch, names_in, polls_in, phases_in}
use Rattle.mako_joint.specs.Openings.{IsJointOpening}
use Rattle.mako_making.specs.Makings.{TaskSearches}
use Rattle.mako_mutating.specs.MutatorFacets.{task_admission, task_held, task_trying}
use Rattle.mako_sitting.specs.Openings.{phase_facet, held_facet, trying_facet, scene_with}
use Rattle.mako_sitting.specs.Seats.{PutsAt}

-- ---- a mutator before its first call

module _ (k : Caller) (words : List ℕ) where
  pub record Begins (t : Task) : Type 0 where
    pub admission : task_admission t ≡ outside
    pub held : task_held t ≡ []
    pub attempt : task_trying t ≡ trying.Nothing
    pub searches : TaskSearches k.shape words t
    pub puts : PutsAt 0 t

  abbrev pub first_task : Option ℕ → Option Call → Task
  first_task asked o = task_for k o false (record { asked = asked; barrier_at = 0 })

  pub begins : (o : Option Call) → Begins (first_task None o)
  begins None = record { admission = refl; held = refl; attempt = refl; searches = tt; puts = tt }
  begins (Some call.Collect) =
      record { admission = refl; held = refl; attempt = refl; searches = tt; puts = refl }
  begins (Some c) = record { admission = refl; held = refl; attempt = refl; searches = tt; puts = refl }

-- ---- a start with these words and seats

-- where a seat with this role stands
abbrev RolePlace : Numbers → ℕ → SeatRole → Type 0
RolePlace n i mutator = Unit {0}
RolePlace n i (server s) = i ≡ n.mutators + s
RolePlace n i collector = i ≡ n.mutators + n.servers

module _ (s : ScriptView) (proper : IsProper s) (ws : List ℕ) (size : length ws ≡ total s.numbers)
    (stands : (p : Place) → Within s.numbers p → word_at s.numbers ws p ≡ opening_words s.numbers s.board p)
    (seats : List Seat) (count : length seats ≡ s.numbers.mutators + s.numbers.servers + 1)
    (each : (i : ℕ) (v : Seat) → slice_get seats i ≡ Some v → IsOpeningSeat s i v) where
  abbrev n : Numbers
  n = s.numbers

  abbrev scene : JointScene
  scene = scene_with s ws seats

  -- names
  held_none : (i : ℕ) (v : Seat) → IsOpeningSeat s i v → held_facet v ≡ []
  held_none _ _ (of_mutator m p at) =
      (begins (record { shape = n; mutator = m }) ws (slice_get p.calls 0)).held
  held_none _ _ (of_server i j e l) = refl
  held_none _ _ (of_collector i e) = refl

  tries_none : (i : ℕ) (v : Seat) → IsOpeningSeat s i v → trying_facet v ≡ trying.Nothing
  tries_none _ _ (of_mutator m p at) =
      (begins (record { shape = n; mutator = m }) ws (slice_get p.calls 0)).attempt
  tries_none _ _ (of_server i j e l) = refl
  tries_none _ _ (of_collector i e) = refl

  held_all : (seat : ℕ) (names : List Name) → slice_get (map held_facet seats) seat ≡ Some names → names ≡ []
  held_all i names at =
      let t = map_get held_facet seats i names at in sym t.2 ∙ held_none i t.0 (each i t.0 t.1)

  tries_all : (m : ℕ) (known : Trying) → slice_get (map trying_facet seats) m ≡ Some known → known ≡ trying.Nothing
  tries_all i known at =
      let t = map_get trying_facet seats i known at in sym t.2 ∙ tries_none i t.0 (each i t.0 t.1)

  names : IsNameOpening n (facts_of s) (names_in scene)
  names = record {
    board = board_in_range s proper ws size stands seats count each;
    size = size;
    front = refl;
    idle = phase_is s proper ws size stands seats count each;
    taken = ap (λ (e : EntryWord). e.taken) (first s proper ws size stands seats count each);
    generation = ap (λ (e : EntryWord). e.generation) (first s proper ws size stands seats count each);
    epoch = ap (λ (e : EntryWord). e.epoch) (first s proper ws size stands seats count each);
    others = others s proper ws size stands seats count each;
    slots = slots s proper ws size stands seats count each;
    held = held_all;
    attempts = tries_all;
    programs = programs_left s proper ws size stands seats count each;
  }

  -- polls
  polled_zero : (p : Place) → IsPolled p → Within n p → word_at n ws p ≡ 0
  polled_zero (flags i) is within = stands (flags i) within
  polled_zero (work r k) is within = stands (work r k) within
  polled_zero (ghost a b k) is within = stands (ghost a b k) within
  polled_zero p is within = absurd is

  polls : IsOpening n (polls_in n scene)
  polls = record {
    words = polled_zero;
    servers = λ j low. (refl, refl, refl);
    positions = λ j a low_j low_a. (
      no_positions n.servers a,
      ap (λ (w : Window). w.head) (no_windows n.servers a),
      ap (λ (w : Window). w.tail) (no_windows n.servers a),
    );
    collector = λ r low.
        (ap (λ (w : Window). w.head) (no_windows n.servers r), ap (λ (w : Window). w.tail) (no_windows n.servers r));
    poll = refl;
  }

  -- phases
  facet_opens : (i : ℕ) (v : Seat) → IsOpeningSeat s i v → i ≢ collector_seat n → IsOpeningFacet n (phase_facet n v)
  facet_opens _ _ (of_mutator m p at) ne =
      (begins (record { shape = n; mutator = m }) ws (slice_get p.calls 0)).admission
  facet_opens _ _ (of_server i j e l) ne = (l, refl, refl, refl)
  facet_opens _ _ (of_collector i e) ne = absurd (ne (let same = proper.mutators in omega (arith, e, same)))

  place_of : (i : ℕ) (v : Seat) → IsOpeningSeat s i v → RolePlace n i (role_of (phase_facet n v))
  place_of _ _ (of_mutator m p at) = tt
  place_of _ _ (of_server i j e l) = let same = proper.mutators in omega (arith, e, same)
  place_of _ _ (of_collector i e) = let same = proper.mutators in omega (arith, e, same)

  placed : (i : ℕ) (r : SeatRole) → slice_get (map role_of (map (phase_facet n) seats)) i ≡ Some r → RolePlace n i r
  placed i r at =
      let t = map_get role_of (map (phase_facet n) seats) i r at in
      let u = map_get (phase_facet n) seats i t.0 t.1 in
      subst (RolePlace n i) (ap role_of u.2 ∙ t.2) (place_of i u.0 (each i u.0 u.1))

  serves : (i : ℕ) (v : Seat) → IsOpeningSeat s i v → (q : ℕ) → q < n.servers → i ≡ n.mutators + q
      → role_of (phase_facet n v) ≡ server q
  serves _ _ (of_mutator m p at) q low e =
      absurd (let l = slice_get_within s.programs m p at in let same = proper.mutators in omega (arith, l, same, e))
  serves _ _ (of_server i j is l) q low e =
      ap server (let same = proper.mutators in let a : j ≡ q = omega (arith, is, same, e) in a)
  serves _ _ (of_collector i is) q low e = absurd (let same = proper.mutators in omega (arith, is, same, e, low))

  seated_server : (q : ℕ) → q < n.servers
      → (i : ℕ) × (slice_get (map role_of (map (phase_facet n) seats)) i ≡ Some (server q))
  seated_server q low = by (slice_get_cases seats (n.mutators + q)).1
    where
      by : (((v : Seat) × (n.mutators + q < length seats) × (slice_get seats (n.mutators + q) ≡ Some v)
          × (get_or seats (n.mutators + q) v ≡ v))
          ⊎ ((length seats ≤ n.mutators + q) × (slice_get seats (n.mutators + q) ≡ None)))
          → (i : ℕ) × (slice_get (map role_of (map (phase_facet n) seats)) i ≡ Some (server q))
      by (inl t) = (
        n.mutators + q,
        map_at role_of (map (phase_facet n) seats) (n.mutators + q) (phase_facet n t.0)
            (map_at (phase_facet n) seats (n.mutators + q) t.0 t.2)
            ∙ ap Some (serves (n.mutators + q) t.0 (each (n.mutators + q) t.0 t.2) q low refl),
      )
      by (inr t) = absurd (let past = t.0 in omega (arith, past, count, low))

  seated : AreSeated n (map role_of (map (phase_facet n) seats))
  seated = record {
    collectors = λ i j at_i at_j.
        (let a : i ≡ n.mutators + n.servers = placed i collector at_i in a)
        ∙ sym (let a : j ≡ n.mutators + n.servers = placed j collector at_j in a);
    servers = λ q i j at_i at_j.
        (let a : i ≡ n.mutators + q = placed i (server q) at_i in a)
        ∙ sym (let a : j ≡ n.mutators + q = placed j (server q) at_j in a);
    present = seated_server;
  }

  collects : (i : ℕ) (v : Seat) → IsOpeningSeat s i v → i ≡ collector_seat n
      → phase_facet n v ≡ collecting (idle 0) []
  collects _ _ (of_mutator m p at) e =
      absurd (let l = slice_get_within s.programs m p at in let same = proper.mutators in omega (arith, l, same, e))
  collects _ _ (of_server i j is l) e = absurd (let same = proper.mutators in omega (arith, is, same, e, l))
  collects _ _ (of_collector i is) e = refl

  collector_here : slice_get (map (phase_facet n) seats) (collector_seat n) ≡ Some (collecting (idle 0) [])
  collector_here = by (slice_get_cases seats (collector_seat n)).1
    where
      by : (((v : Seat) × (collector_seat n < length seats) × (slice_get seats (collector_seat n) ≡ Some v)
          × (get_or seats (collector_seat n) v ≡ v))
          ⊎ ((length seats ≤ collector_seat n) × (slice_get seats (collector_seat n) ≡ None)))
          → slice_get (map (phase_facet n) seats) (collector_seat n) ≡ Some (collecting (idle 0) [])
      by (inl t) =
          map_at (phase_facet n) seats (collector_seat n) t.0 t.2
          ∙ ap Some (collects (collector_seat n) t.0 (each (collector_seat n) t.0 t.2) refl)
      by (inr t) = absurd (let past = t.0 in omega (arith, past, count))

  ordered_zero : (p : Place) → IsPhaseWord p → (¬ IsRootOrEntry p) → Within n p → word_at n ws p ≡ 0
  ordered_zero phase is ne within = stands phase within
  ordered_zero demand is ne within = stands demand within
  ordered_zero (root m q) is ne within = absurd (ne tt)
  ordered_zero (barrier m k) is ne within = stands (barrier m k) within
  ordered_zero (work r k) is ne within = stands (work r k) within
  ordered_zero (ghost a b k) is ne within = stands (ghost a b k) within
  ordered_zero (notice r k) is ne within = stands (notice r k) within
  ordered_zero (leaving t) is ne within = stands (leaving t) within
  ordered_zero (entry e) is ne within = absurd (ne tt)
  ordered_zero p is ne within = absurd is

  no_epoch : (x : ℕ) → Within n (entry x) → (entry_of n ws x).epoch ≡ 0
  unfolding entry_of
  no_epoch zero within = ap (λ (e : EntryWord). e.epoch) (first s proper ws size stands seats count each)
  no_epoch (suc x) within =
      ap (λ k. (entry_at k).epoch) (word_zero s proper ws size stands seats count each (suc x) (omega arith) within)

  phases : IsPhaseOpening n (phases_in scene)
  phases = record {
    shape = proper.shape;
    size = size;
    seat = collector_seat n;
    here = collector_here;
    others = λ other f at ne.
        let t = map_get (phase_facet n) seats other f at in
        subst (IsOpeningFacet n) t.2 (facet_opens other t.0 (each other t.0 t.1) ne);
    seated = seated;
    words = ordered_zero;
    epochs = no_epoch;
  }

  -- gates
  pub gate_at : (i : ℕ) (v : Seat) → slice_get seats i ≡ Some v
      → slice_get (map (gate_facet n) seats) i ≡ Some (mutator_at i away)
  gate_at i v at =
      map_at (gate_facet n) seats i v at ∙ ap Some (gate_is s proper.mutators i v (each i v at))

  out_with : (i : ℕ) (v : Seat) → IsOpeningSeat s i v → slice_get seats i ≡ Some v → (admission : Admission)
      → phase_facet n v ≡ mutating admission
      → IsOutsideWith n (map (gate_facet n) seats) i admission
  out_with i v (of_mutator m p at) here admission e =
      let first = (begins (record { shape = n; mutator = m }) ws (slice_get p.calls 0)).admission in
      let is : mutating outside ≡ mutating admission = ap mutating (sym first) ∙ e in
      let same : outside ≡ admission = cc in
      record {
        gate = mutator_at m away;
        here = gate_at m v here;
        number = (let l = slice_get_within s.programs m p at in let all = proper.mutators in omega (arith, l, all));
        outside = λ none. subst IsNotAdmitted same tt;
      }
  out_with i v (of_server q j is l) here admission e = absurd cc
  out_with i v (of_collector q is) here admission e = absurd cc

  gates : GatesMatch n (map (phase_facet n) seats) (map (gate_facet n) seats)
  gates = record {
    mutators = λ i admission at.
        let t = map_get (phase_facet n) seats i (mutating admission) at in
        out_with i t.0 (each i t.0 t.1) t.1 admission t.2;
    collector = λ i part pending at paused.
        let t = map_get (phase_facet n) seats i (collecting part pending) at in
        absurd (rests_apart i t.0 (each i t.0 t.1) part pending t.2 paused);
    servers = λ i t g at.
        let u = map_get (gate_facet n) seats i g at in
        inl (ap (λ (f : GateFacet). drained_by t f.watch)
        (sym u.2 ∙ gate_is s proper.mutators i u.0 (each i u.0 u.1)));
  }
    where
      rests_apart : (i : ℕ) (v : Seat) → IsOpeningSeat s i v → (part : Part) (pending : List Name)
          → phase_facet n v ≡ collecting part pending → IsInPause part → ⊥
      rests_apart _ _ (of_mutator m p at) part pending e paused = absurd cc
      rests_apart _ _ (of_server i j is l) part pending e paused = absurd cc
      rests_apart _ _ (of_collector i is) part pending e paused =
          let is : collecting (idle 0) [] ≡ collecting part pending = e in
          let same : idle 0 ≡ part = cc in
          subst IsInPause (sym same) paused

  pub opens : IsJointOpening n (facts_of s) scene
  opens = record {
    script = record { shape = proper.shape; facts = workload s proper; programs = programs_fit s proper };
    ring = (let r = in_range s proper in omega (arith, r));
    names = names;
    words = stands;
    stand = gates_same s proper ws size stands seats count each;
    works = works_same s proper ws size stands seats count each;
    choice = refl;
    polls = polls;
    phases = phases;
    gates = gates;
  }
