-- The kinds of step at gates and turn words, by what they make of the words.
use Rattle.std.proofs.Common.{◌≡◌, ℕ, ◌+◌, ◌*◌, ◌<◌, ◌≤◌, ◌==◌, nat_lt, ◌⊎◌, inl, inr, sym, ap, ◌∙◌, refl, subst, arith}
use Rattle.std.proofs.lemmas.Bool.{cases_eq, cases_lt}
use Rattle.mako_shape.specs.declared.numbers.Numbers.{Numbers}
use Rattle.mako_shape.specs.Places.{Place, mutator_gate, tablet_gate, turn}
use Rattle.mako_shape.specs.Belongings.{server_of_tablet}
use Rattle.mako_gate.specs.Bits.{shut_bit}
use Rattle.mako_gate.specs.Sums.{counted}
use Rattle.mako_gate.specs.Changes.{Sets, LeavesGates, tablets_of}
use Rattle.mako_gate.specs.Standings.{Standing, away, refused, inside, turned_away, at_tablet, with_turn, Watch, rests}
use Rattle.mako_gate.specs.Standings.{keeps_shut, has_drained, pauses, holds_turn, shut_by, shut_own, drained_own}
use Rattle.mako_gate.specs.Standings.{mutator_at, shutter_at}
use Rattle.mako_gate.specs.GateSteps.{Moves, TabletMoves, OwnMoves, GateStep}
use Rattle.mako_gate.proofs.Numbers.{counted_mono, counted_zero, counted_times, times_counted, count_at, count_off}
use Rattle.mako_gate.proofs.Numbers.{between_is, between_not, below_not, shut_more, shut_less, drained_more}

-- nothing changes at the gate
pub moves_same : (W V a m s d : ℕ) → V ≡ W → Moves W V a a m m s s d d
moves_same W V a m s d e = record {
  word = omega arith;
  shut = inl (omega arith);
  admits = inl (omega arith);
  drains = inl (omega arith);
}

module _ (n : Numbers) (W V : Place → ℕ) where
  -- the words of gates, for a step that adds at one of them, and for one that takes away
  up : (u z : ℕ) → Sets n W V (tablet_gate u) (W (tablet_gate u) + z) → (t : ℕ) → t < tablets_of n →
      V (tablet_gate t) ≡ W (tablet_gate t) + counted (u == t) z
  up u z s t h = elim (cases_eq u t) [
    | inl e ↦ subst (λ q. V (tablet_gate q) ≡ W (tablet_gate q) + counted (u == q) z) e
        (omega (arith, s.here, count_at u u z refl))
    | inr d ↦ omega (arith, s.others (tablet_gate t) h (λ c. d (let b : t ≡ u = cc in sym b)), count_off u t z d)
  ]

  down : (u v z : ℕ) → Sets n W V (tablet_gate u) v → v + z ≡ W (tablet_gate u) → (t : ℕ) → t < tablets_of n →
      V (tablet_gate t) + counted (u == t) z ≡ W (tablet_gate t)
  down u v z s m t h = elim (cases_eq u t) [
    | inl e ↦ subst (λ q. V (tablet_gate q) + counted (u == q) z ≡ W (tablet_gate q)) e
        (omega (arith, s.here, count_at u u z refl))
    | inr d ↦ omega (arith, s.others (tablet_gate t) h (λ c. d (let b : t ≡ u = cc in sym b)), count_off u t z d)
  ]

  own_up : (u z : ℕ) → Sets n W V (mutator_gate u) (W (mutator_gate u) + z) → (t : ℕ) → t < n.mutators →
      V (mutator_gate t) ≡ W (mutator_gate t) + counted (u == t) z
  own_up u z s t h = elim (cases_eq u t) [
    | inl e ↦ subst (λ q. V (mutator_gate q) ≡ W (mutator_gate q) + counted (u == q) z) e
        (omega (arith, s.here, count_at u u z refl))
    | inr d ↦ omega (arith, s.others (mutator_gate t) h (λ c. d (let b : t ≡ u = cc in sym b)), count_off u t z d)
  ]

  own_down : (u v z : ℕ) → Sets n W V (mutator_gate u) v → v + z ≡ W (mutator_gate u) → (t : ℕ) → t < n.mutators →
      V (mutator_gate t) + counted (u == t) z ≡ W (mutator_gate t)
  own_down u v z s m t h = elim (cases_eq u t) [
    | inl e ↦ subst (λ q. V (mutator_gate q) + counted (u == q) z ≡ W (mutator_gate q)) e
        (omega (arith, s.here, count_at u u z refl))
    | inr d ↦ omega (arith, s.others (mutator_gate t) h (λ c. d (let b : t ≡ u = cc in sym b)), count_off u t z d)
  ]

  -- a load leaves the gates
  pub looked_tablet : (u : ℕ) → Sets n W V (tablet_gate u) (W (tablet_gate u)) → LeavesGates n W V
  looked_tablet u s = record {
    tablets = λ t h. elim (cases_eq u t) [
      | inl e ↦ subst (λ q. V (tablet_gate q) ≡ W (tablet_gate q)) e s.here
      | inr d ↦ s.others (tablet_gate t) h (λ c. d (let b : t ≡ u = cc in sym b))
    ];
    owns = λ m h. s.others (mutator_gate m) h (λ c. cc);
    turns = λ t h. s.others (turn t) h (λ c. cc);
  }

  pub looked_own : (u : ℕ) → Sets n W V (mutator_gate u) (W (mutator_gate u)) → LeavesGates n W V
  looked_own u s = record {
    tablets = λ t h. s.others (tablet_gate t) h (λ c. cc);
    owns = λ t h. elim (cases_eq u t) [
      | inl e ↦ subst (λ q. V (mutator_gate q) ≡ W (mutator_gate q)) e s.here
      | inr d ↦ s.others (mutator_gate t) h (λ c. d (let b : t ≡ u = cc in sym b))
    ];
    turns = λ t h. s.others (turn t) h (λ c. cc);
  }

-- ---- mutators

module _ (n : Numbers) (W V : Place → ℕ) (k : ℕ) (small : k < n.mutators) where
  -- what a mutator's step has to show
  mutator_step : (s r : Standing) →
      ((t : ℕ) → t < tablets_of n
      → TabletMoves t (W (tablet_gate t)) (V (tablet_gate t)) (mutator_at k s) (mutator_at k r)) →
      ((m : ℕ) → m < n.mutators
      → OwnMoves m (W (mutator_gate m)) (V (mutator_gate m)) (mutator_at k s) (mutator_at k r)) →
      ((t : ℕ) → t < tablets_of n → V (turn t) + holds_turn t s * (k + 1) ≡ W (turn t) + holds_turn t r * (k + 1)) →
      ((t : ℕ) → t < tablets_of n → (holds_turn t r ≤ holds_turn t s) ⊎ (W (turn t) ≡ 0)) →
      GateStep n W V k (mutator_at k s) (mutator_at k r)
  mutator_step s r tablets owns turns holder = record {
    tablets = tablets;
    owns = owns;
    turns = turns;
    holder = holder;
    number = refl;
    mutator = λ _. small;
    seat = λ _. refl;
    shutter = λ t one. absurd (omega arith);
    pauser = λ m one. absurd (omega arith);
  }

  -- arrival at a tablet's gate that is open, and at one that is shut
  pub enters : (u : ℕ) → W (tablet_gate u) < shut_bit → Sets n W V (tablet_gate u) (W (tablet_gate u) + 1) →
      GateStep n W V k (mutator_at k inside) (mutator_at k (at_tablet u))
  enters u open_ s = mutator_step inside (at_tablet u)
      (λ t h. record {
        word = omega (arith, up n W V u 1 s t h);
        shut = inl (omega arith);
        admits = elim (cases_eq u t) [
          | inl e ↦ inr (subst (λ q. W (tablet_gate q) < shut_bit) e open_, omega arith)
          | inr d ↦ inl (omega (arith, count_off u t 1 d))
        ];
        drains = inl (omega arith);
      })
      (λ m h. moves_same _ _ _ _ _ _ (s.others (mutator_gate m) h (λ c. cc)))
      (λ t h. omega (arith, s.others (turn t) h (λ c. cc)))
      (λ t h. inl (omega arith))

  pub is_turned_away : (u : ℕ) → Sets n W V (tablet_gate u) (W (tablet_gate u) + 1) →
      GateStep n W V k (mutator_at k inside) (mutator_at k (turned_away u))
  is_turned_away u s = mutator_step inside (turned_away u)
      (λ t h. record {
        word = omega (arith, up n W V u 1 s t h);
        shut = inl (omega arith);
        admits = inl (omega arith);
        drains = inl (omega arith);
      })
      (λ m h. moves_same _ _ _ _ _ _ (s.others (mutator_gate m) h (λ c. cc)))
      (λ t h. omega (arith, s.others (turn t) h (λ c. cc)))
      (λ t h. inl (omega arith))

  -- the tablet is left, after an arrival of either kind
  pub leaves : (u v : ℕ) → v + 1 ≡ W (tablet_gate u) → Sets n W V (tablet_gate u) v →
      GateStep n W V k (mutator_at k (at_tablet u)) (mutator_at k inside)
  leaves u v fewer s = mutator_step (at_tablet u) inside
      (λ t h. record {
        word = omega (arith, down n W V u v 1 s fewer t h);
        shut = inl (omega arith);
        admits = inl (omega arith);
        drains = inl (omega arith);
      })
      (λ m h. moves_same _ _ _ _ _ _ (s.others (mutator_gate m) h (λ c. cc)))
      (λ t h. omega (arith, s.others (turn t) h (λ c. cc)))
      (λ t h. inl (omega arith))

  pub turns_back : (u v : ℕ) → v + 1 ≡ W (tablet_gate u) → Sets n W V (tablet_gate u) v →
      GateStep n W V k (mutator_at k (turned_away u)) (mutator_at k inside)
  turns_back u v fewer s = mutator_step (turned_away u) inside
      (λ t h. record {
        word = omega (arith, down n W V u v 1 s fewer t h);
        shut = inl (omega arith);
        admits = inl (omega arith);
        drains = inl (omega arith);
      })
      (λ m h. moves_same _ _ _ _ _ _ (s.others (mutator_gate m) h (λ c. cc)))
      (λ t h. omega (arith, s.others (turn t) h (λ c. cc)))
      (λ t h. inl (omega arith))

  -- the turn is taken and given
  pub takes_turn : (u : ℕ) → W (turn u) ≡ 0 → Sets n W V (turn u) (k + 1) →
      GateStep n W V k (mutator_at k (at_tablet u)) (mutator_at k (with_turn u))
  takes_turn u free s = mutator_step (at_tablet u) (with_turn u)
      (λ t h. moves_same _ _ _ _ _ _ (s.others (tablet_gate t) h (λ c. cc)))
      (λ m h. moves_same _ _ _ _ _ _ (s.others (mutator_gate m) h (λ c. cc)))
      (λ t h. elim (cases_eq u t) [
        | inl e ↦ subst (λ q. V (turn q) + 0 * (k + 1) ≡ W (turn q) + counted (u == q) 1 * (k + 1)) e
            (omega (arith, s.here, times_counted (u == u) (k + 1), count_at u u (k + 1) refl))
        | inr d ↦ omega (
          arith,
          s.others (turn t) h (λ c. d (let b : t ≡ u = cc in sym b)),
          times_counted (u == t)
              (k + 1),
          count_off u t (k + 1) d,
        )
      ])
      (λ t h. elim (cases_eq u t) [
        | inl e ↦ inr (subst (λ q. W (turn q) ≡ 0) e free)
        | inr d ↦ inl
            (omega (arith, count_off u t 1 d))
      ])

  pub gives_turn : (u : ℕ) → W (turn u) ≡ k + 1 → Sets n W V (turn u) 0 →
      GateStep n W V k (mutator_at k (with_turn u)) (mutator_at k (at_tablet u))
  gives_turn u held s = mutator_step (with_turn u) (at_tablet u)
      (λ t h. moves_same _ _ _ _ _ _ (s.others (tablet_gate t) h (λ c. cc)))
      (λ m h. moves_same _ _ _ _ _ _ (s.others (mutator_gate m) h (λ c. cc)))
      (λ t h. elim (cases_eq u t) [
        | inl e ↦ subst (λ q. V (turn q) + counted (u == q) 1 * (k + 1) ≡ W (turn q) + 0 * (k + 1)) e
            (omega (arith, s.here, times_counted (u == u) (k + 1), count_at u u (k + 1) refl))
        | inr d ↦ omega (
          arith,
          s.others (turn t) h (λ c. d (let b : t ≡ u = cc in sym b)),
          times_counted (u == t)
              (k + 1),
          count_off u t (k + 1) d,
        )
      ])
      (λ t h. inl (omega arith))

  -- arrival at the own gate, and departure
  pub arrives : W (mutator_gate k) < shut_bit → Sets n W V (mutator_gate k) (W (mutator_gate k) + 1) →
      GateStep n W V k (mutator_at k away) (mutator_at k inside)
  arrives open_ s = mutator_step away inside
      (λ t h. moves_same _ _ _ _ _ _ (s.others (tablet_gate t) h (λ c. cc)))
      (λ m h. record {
        word = (let z = counted_zero (k == m) in omega (arith, own_up n W V k 1 s m h));
        shut = inl (omega arith);
        admits = elim (cases_eq k m) [
          | inl e ↦ inr (subst (λ q. W (mutator_gate q) < shut_bit) e open_, omega arith)
          | inr d ↦ inl (omega (arith, count_off k m 1 d))
        ];
        drains = inl (omega arith);
      })
      (λ t h. omega (arith, s.others (turn t) h (λ c. cc)))
      (λ t h. inl (omega arith))

  pub is_refused : Sets n W V (mutator_gate k) (W (mutator_gate k) + 1)
      → GateStep n W V k (mutator_at k away) (mutator_at k refused)
  is_refused s = mutator_step away refused
      (λ t h. moves_same _ _ _ _ _ _ (s.others (tablet_gate t) h (λ c. cc)))
      (λ m h. record {
        word = (let z = counted_zero (k == m) in omega (arith, own_up n W V k 1 s m h));
        shut = inl (omega arith);
        admits = inl (omega arith);
        drains = inl (omega arith);
      })
      (λ t h. omega (arith, s.others (turn t) h (λ c. cc)))
      (λ t h. inl (omega arith))

  pub departs : (v : ℕ) → v + 1 ≡ W (mutator_gate k) → Sets n W V (mutator_gate k) v →
      GateStep n W V k (mutator_at k inside) (mutator_at k away)
  departs v fewer s = mutator_step inside away
      (λ t h. moves_same _ _ _ _ _ _ (s.others (tablet_gate t) h (λ c. cc)))
      (λ m h. record {
        word = (let z = counted_zero (k == m) in omega (arith, own_down n W V k v 1 s fewer m h));
        shut = inl (omega arith);
        admits = inl (let z = counted_zero (k == m) in omega arith);
        drains = inl (omega arith);
      })
      (λ t h. omega (arith, s.others (turn t) h (λ c. cc)))
      (λ t h. inl (omega arith))

  pub steps_back : (v : ℕ) → v + 1 ≡ W (mutator_gate k) → Sets n W V (mutator_gate k) v →
      GateStep n W V k (mutator_at k refused) (mutator_at k away)
  steps_back v fewer s = mutator_step refused away
      (λ t h. moves_same _ _ _ _ _ _ (s.others (tablet_gate t) h (λ c. cc)))
      (λ m h. record {
        word = (let z = counted_zero (k == m) in omega (arith, own_down n W V k v 1 s fewer m h));
        shut = inl (omega arith);
        admits = inl (omega arith);
        drains = inl (omega arith);
      })
      (λ t h. omega (arith, s.others (turn t) h (λ c. cc)))
      (λ t h. inl (omega arith))

-- ---- servers and the collector

module _ (n : Numbers) (W V : Place → ℕ) (i k : ℕ) where
  -- what the step of a view that shuts gates has to show
  shutter_step : (w x : Watch) → ((t : ℕ) → t < tablets_of n → V (turn t) ≡ W (turn t)) →
      ((t : ℕ) → t < tablets_of n
      → TabletMoves t (W (tablet_gate t)) (V (tablet_gate t)) (shutter_at k w) (shutter_at k x)) →
      ((m : ℕ) → m < n.mutators
      → OwnMoves m (W (mutator_gate m)) (V (mutator_gate m)) (shutter_at k w) (shutter_at k x)) →
      ((t : ℕ) → 1 ≤ shut_by t x → (1 ≤ shut_by t w) ⊎ (i ≡ n.mutators + server_of_tablet n t)) →
      ((m : ℕ) → 1 ≤ shut_own m x → (1 ≤ shut_own m w) ⊎ (i ≡ n.mutators + n.servers)) →
      GateStep n W V i (shutter_at k w) (shutter_at k x)
  shutter_step w x turns tablets owns shutter pauser = record {
    tablets = tablets;
    owns = owns;
    turns = λ t h. omega (arith, turns t h);
    holder = λ t h. inl (omega arith);
    number = refl;
    mutator = λ one. absurd (omega arith);
    seat = λ one. absurd (omega arith);
    shutter = shutter;
    pauser = pauser;
  }

  -- a server shuts its tablet's gate
  pub shuts : (u : ℕ) → i ≡ n.mutators + server_of_tablet n u → W (tablet_gate u) < shut_bit →
      Sets n W V (tablet_gate u) (W (tablet_gate u) + shut_bit)
      → GateStep n W V i (shutter_at k rests) (shutter_at k (keeps_shut u))
  shuts u seat open_ s = shutter_step rests (keeps_shut u) (λ t h. s.others (turn t) h (λ c. cc))
      (λ t h. record {
        word = (let a = counted_times (u == t) in omega (arith, up n W V u shut_bit s t h));
        shut = elim (cases_eq u t) [
          | inl e ↦ inr (subst (λ q. W (tablet_gate q) < shut_bit) e open_, omega (arith, count_at u t 1 e))
          | inr d ↦ inl (omega (arith, count_off u t 1 d))
        ];
        admits = inl (omega arith);
        drains = inl (omega arith);
      })
      (λ m h. moves_same _ _ _ _ _ _ (s.others (mutator_gate m) h (λ c. cc)))
      (λ t one. inr (elim (cases_eq u t) [
        | inl e ↦ seat ∙ ap (λ q. n.mutators + server_of_tablet n q) e
        | inr d ↦ absurd (let z = count_off u t 1 d in omega arith)
      ]))
      (λ m one. absurd (omega arith))

  -- it finds the count 0, and passes an entry
  pub drains : (u b : ℕ) → W (tablet_gate u) ≡ shut_bit → LeavesGates n W V →
      GateStep n W V i (shutter_at k (keeps_shut u)) (shutter_at k (has_drained u b))
  drains u b empty l = shutter_step (keeps_shut u) (has_drained u b) l.turns
      (λ t h. record {
        word = omega (arith, l.tablets t h);
        shut = inl (omega arith);
        admits = inl (omega arith);
        drains = elim (cases_eq u t) [
          | inl e ↦ inr (subst (λ q. W (tablet_gate q) ≡ shut_bit) e empty, omega arith)
          | inr d ↦ inl (omega (arith, count_off u t 1 d))
        ];
      })
      (λ m h. moves_same _ _ _ _ _ _ (l.owns m h))
      (λ t one. inl one)
      (λ m one. absurd (omega arith))

  pub passes : (u b : ℕ) → LeavesGates n W V →
      GateStep n W V i (shutter_at k (has_drained u b)) (shutter_at k (has_drained u (b + 1)))
  passes u b l = shutter_step (has_drained u b) (has_drained u (b + 1)) l.turns
      (λ t h. moves_same _ _ _ _ _ _ (l.tablets t h)) (λ m h. moves_same _ _ _ _ _ _ (l.owns m h)) (λ t one. inl one)
      (λ m one. absurd (omega arith))

  -- it reopens the gate, drained or not
  pub reopens : (u b v : ℕ) → v + shut_bit ≡ W (tablet_gate u) → Sets n W V (tablet_gate u) v →
      GateStep n W V i (shutter_at k (has_drained u b)) (shutter_at k rests)
  reopens u b v fewer s = shutter_step (has_drained u b) rests (λ t h. s.others (turn t) h (λ c. cc))
      (λ t h. record {
        word = (let a = counted_times (u == t) in omega (arith, down n W V u v shut_bit s fewer t h));
        shut = inl (omega arith);
        admits = inl (omega arith);
        drains = inl (omega arith);
      })
      (λ m h. moves_same _ _ _ _ _ _ (s.others (mutator_gate m) h (λ c. cc)))
      (λ t one. absurd (omega arith))
      (λ m one. absurd (omega arith))

  pub gives_up : (u v : ℕ) → v + shut_bit ≡ W (tablet_gate u) → Sets n W V (tablet_gate u) v →
      GateStep n W V i (shutter_at k (keeps_shut u)) (shutter_at k rests)
  gives_up u v fewer s = shutter_step (keeps_shut u) rests (λ t h. s.others (turn t) h (λ c. cc))
      (λ t h. record {
        word = (let a = counted_times (u == t) in omega (arith, down n W V u v shut_bit s fewer t h));
        shut = inl (omega arith);
        admits = inl (omega arith);
        drains = inl (omega arith);
      })
      (λ m h. moves_same _ _ _ _ _ _ (s.others (mutator_gate m) h (λ c. cc)))
      (λ t one. absurd (omega arith))
      (λ m one. absurd (omega arith))

  -- a pause begins with no gate shut, and ends with none
  pub pause_begins : (low : ℕ) → LeavesGates n W V
      → GateStep n W V i (shutter_at k rests) (shutter_at k (pauses low low low))
  pause_begins low l = shutter_step rests (pauses low low low) l.turns (λ t h. moves_same _ _ _ _ _ _ (l.tablets t h))
      (λ q h. let z = between_not low low q (either low q) in record {
        word = omega (arith, l.owns q h);
        shut = inl (omega arith);
        admits = inl (omega arith);
        drains = inl (rw z (let e = counted_zero (nat_lt q low) in omega arith));
      })
      (λ t one. absurd (omega arith))
      (λ q one. absurd (let z = between_not low low q (either low q) in omega arith))
    where
      either : (a b : ℕ) → (b < a) ⊎ (a ≤ b)
      either a b = elim (cases_lt b a) [ inl l ↦ inl l | inr r ↦ inr r ]

  pub pause_ends : (m drained : ℕ) → LeavesGates n W V
      → GateStep n W V i (shutter_at k (pauses m m drained)) (shutter_at k rests)
  pause_ends m drained l =
      shutter_step (pauses m m drained) rests l.turns (λ t h. moves_same _ _ _ _ _ _ (l.tablets t h))
      (λ q h. let z = between_not m m q (either m q) in record {
        word = omega (arith, l.owns q h);
        shut = inl (omega arith);
        admits = inl (omega arith);
        drains = inl (omega arith);
      })
      (λ t one. absurd (omega arith))
      (λ q one. absurd (omega arith))
    where
      either : (a b : ℕ) → (b < a) ⊎ (a ≤ b)
      either a b = elim (cases_lt b a) [ inl l ↦ inl l | inr r ↦ inr r ]

  -- the collector shuts the next gate, finds the next count 0, and reopens the first gate that is shut
  pub pause_shuts : (low m drained : ℕ) → i ≡ n.mutators + n.servers → low ≤ m → drained ≤ m
      → W (mutator_gate m) < shut_bit →
      Sets n W V (mutator_gate m) (W (mutator_gate m) + shut_bit) →
      GateStep n W V i (shutter_at k (pauses low m drained)) (shutter_at k (pauses low (m + 1) drained))
  pause_shuts low m drained seat from d open_ s = shutter_step (pauses low m drained) (pauses low (m + 1) drained)
      (λ t h. s.others (turn t) h (λ c. cc))
      (λ t h. moves_same _ _ _ _ _ _ (s.others (tablet_gate t) h (λ c. cc)))
      (λ q h. record {
        word = (let a = counted_times (m == q) in omega (arith, own_up n W V m shut_bit s q h, shut_more low m q from));
        shut = elim (cases_eq m q) [
          | inl e ↦ inr (
            subst (λ b. W (mutator_gate b) < shut_bit) e open_,
            omega
                (arith, between_is low (m + 1) q (omega arith) (omega arith)),
          )
          | inr ne ↦ inl (omega (arith, shut_more low m q from, count_off m q 1 ne))
        ];
        admits = inl (omega arith);
        drains = inl (elim (cases_eq m q) [
          | inl e ↦ (let z : drained_own q (pauses low (m + 1) drained) ≡ 0 = below_not q drained _ (omega arith) in
              omega arith)
          | inr ne ↦ (let z = shut_more low m q from in let o = count_off m q 1 ne in
              counted_mono (nat_lt q drained) (shut_own q (pauses low (m + 1) drained))
              (shut_own q (pauses low m drained)) (omega arith))
        ]);
      })
      (λ t one. absurd (omega arith))
      (λ q one. inr seat)

  pub pause_looks : (low m high : ℕ) → low ≤ m → m < high → W (mutator_gate m) ≡ shut_bit → LeavesGates n W V →
      GateStep n W V i (shutter_at k (pauses low high m)) (shutter_at k (pauses low high (m + 1)))
  pause_looks low m high from below empty l = shutter_step (pauses low high m) (pauses low high (m + 1)) l.turns
      (λ t h. moves_same _ _ _ _ _ _ (l.tablets t h))
      (λ q h. record {
        word = omega (arith, l.owns q h);
        shut = inl (omega arith);
        admits = inl (omega arith);
        drains = elim (cases_eq m q) [
          | inl e ↦ inr (subst (λ b. W (mutator_gate b) ≡ shut_bit) e empty, omega arith)
          | inr d ↦ inl (omega (arith, drained_more low m high q from below, count_off m q 1 d))
        ];
      })
      (λ t one. absurd (omega arith))
      (λ q one. inl one)

  pub pause_reopens : (m high drained v : ℕ) → m < high → v + shut_bit ≡ W (mutator_gate m)
      → Sets n W V (mutator_gate m) v →
      GateStep n W V i (shutter_at k (pauses m high drained)) (shutter_at k (pauses (m + 1) high drained))
  pause_reopens m high drained v below fewer s = shutter_step (pauses m high drained) (pauses (m + 1) high drained)
      (λ t h. s.others (turn t) h (λ c. cc))
      (λ t h. moves_same _ _ _ _ _ _ (s.others (tablet_gate t) h (λ c. cc)))
      (λ q h. record {
        word = (let a = counted_times (m == q) in
            omega (arith, own_down n W V m v shut_bit s fewer q h, shut_less m high q below));
        shut = inl (omega (arith, shut_less m high q below));
        admits = inl (omega arith);
        drains = inl (counted_mono (nat_lt q drained) (shut_own q (pauses (m + 1) high drained))
            (shut_own q (pauses m high drained))
            (omega (arith, shut_less m high q below)));
      })
      (λ t one. absurd (omega arith))
      (λ q one. inl (omega (arith, shut_less m high q below)))
