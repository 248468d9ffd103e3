-- Every list of steps from the opening state, and what told says.
use Rattle.std.proofs.Common.{◌≡◌, ℕ, zero, suc, ◌+◌, ◌-◌, ◌%◌, ◌<◌, ◌≤◌, ◌⊎◌, true, false, inl, inr, List, [], ◌∷◌}
use Rattle.std.proofs.Common.{length, ap, sym, subst, refl, ◌∙◌, arith}
use Rattle.std.proofs.lemmas.Bool.{cases_eq, cases_lt, cases_Bool}
use Rattle.mako_shape.specs.declared.numbers.Numbers.{Numbers}
use Rattle.mako_shape.specs.Places.{Place, flags, work, ghost}
use Rattle.mako_ring.specs.Contents.{RingStands}
use Rattle.mako_ring.specs.declared.window.Window.{Window}
use Rattle.mako_ring.specs.Facets.{ServerFacet, Poll, elsewhere, forwarding, polling, reading, Scene, flags_of}
use Rattle.mako_ring.specs.Facets.{IsClearing}
use Rattle.mako_ring.specs.Facets.{IsStoring}
use Rattle.mako_ring.specs.Rings.{slots_of}
use Rattle.mako_ring.specs.declared.ring.Ring.TheVariants.{Work}
use Rattle.mako_ring.specs.Polling.{PollSays, DoingStands, NoChange, PollStands, PollingStands}
use Rattle.mako_poll.specs.Steps.{ServerStep, Waits, Serves, Collected}
use Rattle.mako_poll.specs.Laws.{OpeningHolds, StepsHold, ChainsHold, ToldIsQuiet, UnrestShows, QuietStays}
use Rattle.mako_poll.specs.Laws.{StandsSaysHolds, WritesAreOne}
use Rattle.mako_ring.proofs.Contents.{Holds, holds_content, holds_others}
use Rattle.mako_poll.proofs.ServerKinds.{server_holds, server_quiet}
use Rattle.mako_poll.proofs.CollectorKinds.{collector_holds}
use Rattle.mako_ring.proofs.Turns.{place_below}
use Rattle.mako_poll.proofs.Flagging.{false_true}
use Rattle.mako_ring.proofs.RingLaws.{ring_empty}
use Rattle.mako_shape.proofs.PlaceLaws.{word_same, word_other}

pub steps_hold : StepsHold
steps_hold n s after h (Serves i f g is turn step) =
    server_holds n s after i g h turn (subst (λ (x : ServerFacet). ServerStep n s.word after.word i x g) (sym is) step)
steps_hold n s after h (Collected d turn step) = collector_holds n s after d h turn step

-- where a state reads the same, the same is true of it
pub same_scene : (n : Numbers) (s after : Scene) → PollingStands n s → ((p : Place) → after.word p ≡ s.word p)
    → ((j : ℕ) → j < n.servers → after.server j ≡ s.server j) → after.collector ≡ s.collector → PollingStands n after
same_scene n s after h words servers collector =
    steps_hold n s after h
    (Collected s.collector (record { here = collector; servers = servers }) (Waits (λ p is within. words p) refl))

pub chains_hold : ChainsHold
chains_hold n s [] h chain = h
chains_hold n s (t ∷ ts) h chain = chains_hold n t ts (steps_hold n s t h chain.0) chain.1

pub quiet_stays : QuietStays
quiet_stays n s after i f g h is turn step q =
    server_quiet n s after i g h turn (subst (λ (x : ServerFacet). ServerStep n s.word after.word i x g) (sym is) step)
    q

pub told_is_quiet : ToldIsQuiet
told_is_quiet n s k h is all =
    let stands : PollStands n s (reading k) = subst (λ (p : Poll). PollStands n s p) is h.poll in
    stands.1 (λ j ge lt. absurd (omega arith))

-- the servers from one on, so many of them: none shows a change, or one does
search_from : (n : Numbers) (s : Scene) (left k : ℕ) → k + left ≡ n.servers
    → NoChange n s.word k ⊎ ((j : ℕ) × ((k ≤ j) × (j < n.servers) × ((flags_of s.word j).changed ≡ true)))
search_from n s zero k e = inl (λ j ge lt. absurd (omega arith))
search_from n s (suc left) k e = elim (cases_Bool (flags_of s.word k).changed) [
  | inl up ↦ inr (k, (omega arith, omega arith, up))
  | inr down ↦ elim (search_from n s left (k + 1) (omega arith)) [
    | inl none ↦ inl (λ j ge lt. elim (cases_eq j k) [
      | inl same ↦ subst (λ (x : ℕ). (flags_of s.word x).changed ≡ false) (sym same) down
      | inr other ↦ none j (grind (arith)) lt
    ])
    | inr some ↦ inr (some.0, (let ge = some.1.0 in omega arith, some.1.1, some.1.2))
  ]
]

pub unrest_shows : UnrestShows
unrest_shows n s k h is =
    let stands : PollStands n s (reading k) = subst (λ (p : Poll). PollStands n s p) is h.poll in
    elim (cases_lt n.servers k) [
      | inl past ↦ inl (told_is_quiet n s k h is (omega arith))
      | inr within ↦ elim (search_from n s (n.servers - k) k (omega arith)) [
        | inl none ↦ inl
            (stands.1 none)
        | inr some ↦ inr some
      ]
    ]

-- a ring of empty slots
pub opening_ring : (size : ℕ) (slot : ℕ → ℕ) (at : ℕ) (w : Window) → 0 < size → ((k : ℕ) → k < size → slot k ≡ 0)
    → at ≡ 0 → w.head ≡ 0 → w.tail ≡ 0 → RingStands size slot at w
opening_ring size slot at w some empty a e t = record {
  at_below = omega arith;
  window = record { tail_below = omega arith; ordered = omega arith; few = omega arith };
  others = holds_others size slot at [] none;
  next = ap (λ (l : List ℕ). (at + length l) % size) (holds_content size slot at [] none)
      ∙ ap (λ (k : ℕ). k % size) (let z : at + 0 ≡ w.head = omega arith in z);
  counted = subst (λ (l : List ℕ). w.tail + length l ≤ w.head) (sym (holds_content size slot at [] none)) (omega arith);
}
  where
    none : Holds size slot at []
    none = record {
      few = omega arith;
      filled = λ j l. absurd (omega arith);
      empty = λ j l k. empty ((at + j) % size) (place_below size (at + j) some);
    }

pub opening_holds : OpeningHolds
opening_holds n s some o = record {
  flags = λ j lt. let w : s.word (flags j) ≡ 0 = o.words (flags j) tt lt in let f = o.servers j lt in record {
    packed = omega arith;
    busy = λ c. (f.0, λ x. subst IsClearing f.1 x);
    sent = λ c. (λ x. subst IsStoring f.1 x, λ r k lr lk. o.words (ghost j r k) tt (lt, lr, lk));
    own = λ k lk. o.words (ghost j j k) tt (lt, lt, lk);
  };
  doing = λ j lt. subst (DoingStands n s.word j (s.server j)) (sym (o.servers j lt).1) tt;
  ghosts = λ a b la lb d. opening_ring n.ring _ _ ((s.server a).window b) some
      (λ k lk. o.words (ghost a b k) tt (la, lb, lk)) (o.positions b a lb la).0 (o.positions a b la lb).1
      (o.positions a b la lb).2;
  works = λ r lr. opening_ring n.ring _ _ (s.collector.window r) some (λ k lk. o.words (work r k) tt (lr, lk))
      (o.servers r lr).2 (o.collector r lr).0 (o.collector r lr).1;
  poll = subst (λ (p : Poll). PollStands n s p) (sym o.poll) tt;
}

-- ---- in words
law_poll : (n : Numbers) (s : Scene) → PollingStands n s → (p : Poll) → s.collector.poll ≡ p → PollStands n s p
    → PollSays n s p
law_poll n s h elsewhere is stands = tt
law_poll n s h (forwarding r) is stands = tt
law_poll n s h (polling k) is stands = (
  stands.0.pending,
  λ r i lr li. ring_empty n.ring (slots_of s.word (Work r)) (s.server r).work_at (s.collector.window r) (h.works r lr)
      (stands.0.windows r lr) i li,
  λ j lt below. elim (cases_Bool (flags_of s.word j).changed) [
    | inl up ↦ inl up
    | inr down ↦ inr
        (stands.1 j lt below down)
  ],
)
law_poll n s h (reading k) is stands = (
  stands.0.pending,
  λ r i lr li. ring_empty n.ring (slots_of s.word (Work r)) (s.server r).work_at (s.collector.window r) (h.works r lr)
      (stands.0.windows r lr) i li,
  unrest_shows n s k h is,
)

pub stands_says_holds : StandsSaysHolds
stands_says_holds n s h = record {
  busy = λ j lt working. elim
      (cases_Bool (flags_of s.word j).busy) [
        | inl up ↦ up
        | inr down ↦ absurd
            (false_true (s.server j).working ((h.flags j lt).busy down).0 working)
      ];
  sent = λ j r k lj lr lk filled. elim
      (cases_Bool (flags_of s.word j).ghost_) [
        | inl up ↦ up
        | inr down ↦ absurd
            (filled (((h.flags j lj).sent down).1 r k lr lk))
      ];
  ghosts = h.ghosts;
  works = h.works;
  poll = law_poll n s h s.collector.poll refl h.poll;
}

pub writes_are_one : WritesAreOne
writes_are_one n words p x size within = record {
  there = word_same n words p x size within;
  else = λ q is in_q d. word_other n words p q x within in_q d;
}
