-- What the collector keeps of itself and of the barrier rings, past each stage.
use Rattle.std.proofs.Common.{◌≡◌, ◌≢◌, ℕ, ◌+◌, ◌<◌, ◌==◌, nat_lt, inl, inr, true, false, cond, Option, Some, None}
use Rattle.std.proofs.Common.{List, [], ◌∷◌, length, position, set, get_or, slice_index, slice_set, sym, ap, subst}
use Rattle.std.proofs.Common.{refl, ◌∙◌, arith}
use Rattle.std.proofs.lemmas.Bool.{cases_eq}
use Rattle.std.proofs.lemmas.Grind.{get_or-set_at}
use Rattle.std.proofs.lemmas.List.{get_or-set_other}
use Rattle.mako_words.specs.declared.name.Name.{Name}
use Rattle.mako_shape.specs.declared.numbers.Numbers.{Numbers}
use Rattle.mako_shape.specs.Places.{Place, flags, barrier, index, total, Within, word_at}
use Rattle.mako_shape.proofs.PlaceLaws.{word_other}
use Rattle.mako_step.specs.Acts.{words_stepped}
use Rattle.mako_step.specs.Machines.{IsAct}
use Rattle.mako_ring.specs.Tracing.{is_open}
use Rattle.mako_ring.specs.Contents.{after_place}
use Rattle.mako_poll.specs.Polls as poll
use Rattle.mako_poll.specs.declared.poller.PollStage.{PollStage}
use Rattle.mako_poll.specs.declared.poller.PollStage.TheVariants.{Asking, Reading, Ended as Polled}
use Rattle.mako_poll.specs.declared.poller.Polled.TheVariants.{Told, NotYet}
use Rattle.mako_pause.specs.Collecting.{Holdings, Collecting, forward, forward_from, empty, empty_from, barriers_from}
use Rattle.mako_pause.specs.Collecting.{polled_at, paused, gifts_from, gift_of, server_chosen, servers_from}
use Rattle.mako_pause.specs.Collecting.{after_tablet, after_root, at}
use Rattle.mako_pause.specs.Keeping.{IsKeptKnown}
use Rattle.mako_pause.specs.declared.stage.Pause.{Pause}
use Rattle.mako_pause.specs.declared.stage.Pause.TheVariants.{Snapshot, Choice as ForChoice}
use Rattle.mako_pause.specs.declared.stage.PauseStage.{PauseStage}
use Rattle.mako_pause.specs.declared.stage.PauseStage.TheVariants.{Shutting, LoadingRoot, StoringTrace}
use Rattle.mako_pause.specs.declared.stage.BarrierStage.TheVariants.{Loading}
use Rattle.mako_pause.specs.declared.stage.ChoiceStage.TheVariants.{LoadingLive, LoadingHome, StoringEvac}
use Rattle.mako_pause.specs.declared.stage.CollectStage.TheVariants.{Pausing, Barriers, Choosing}
use Rattle.mako_collecting.specs.Keeping.{StageKeeps, passed_at, PassedAreEmpty, BarrierRing, BarrierRingsStand}
use Rattle.mako_collecting.specs.Keeping.{SameBarriers}
use Rattle.mako_collecting.proofs.BarrierRings.{ring_stays, ring_taken, ring_empty}
use Rattle.mako_collecting.proofs.Idling.{either_way, by_test, is_same}
use Rattle.mako_collecting.proofs.Stays.{load_leaves}

-- ---- barrier slots

pub by_load : (n : Numbers) (words : List ℕ) (i : ℕ) → SameBarriers n words (set words i (get_or words i 0))
by_load n words i m slot low inside = ap (λ (us : List ℕ). word_at n us (barrier m slot)) (load_leaves words i)

pub by_store : (n : Numbers) (words : List ℕ) (p : Place) (v : ℕ) → Within n p → ((m slot : ℕ) → barrier m slot ≢ p)
    → SameBarriers n words (set words (index n p) v)
by_store n words p v within other m slot low inside =
    word_other n words p (barrier m slot) v within (low, inside) (other m slot)

pub by_poll : (n : Numbers) (words : List ℕ) (q : PollStage) → poll.IsKnown n q
    → SameBarriers n words (words_stepped (poll.stage_next n q) words)
by_poll n words (Asking i) known = by_store n words (flags i) _ known (λ m slot e. cc)
by_poll n words (Reading i) known = by_store n words (flags i) _ known (λ m slot e. cc)
by_poll n words (Polled answer) known = λ m slot low inside. refl

pub rings_same : (n : Numbers) (words us : List ℕ) (places : ℕ → ℕ) (k : Holdings) → IsKeptKnown k → k.shape ≡ n
    → SameBarriers n words us → BarrierRingsStand n words places k → BarrierRingsStand n us places k
rings_same n words us places k known shape same rings m low =
    let count : length k.barrier_at ≡ n.mutators = known.barriers_count ∙ ap (λ (x : Numbers). x.mutators) shape in
    let inside : slice_index k.barrier_at m < n.ring =
    subst (λ (x : Numbers). slice_index k.barrier_at m < x.ring) shape (known.barriers m 0 (omega arith)) in
    ring_stays n words us m (slice_index k.barrier_at m) (places m) inside (λ slot l. same m slot low l) (rings m low)

pub empty_same : (n : Numbers) (words us : List ℕ) (passed : ℕ) → SameBarriers n words us
    → PassedAreEmpty n words passed → PassedAreEmpty n us passed
empty_same n words us passed same empty_ m slot below low inside =
    same m slot low inside ∙ empty_ m slot below low inside

-- ---- what is kept past a stage

pub record Own (n : Numbers) (us : List ℕ) (places : ℕ → ℕ) (c : Collecting) : Type 0 where
  pub keeps : StageKeeps n us c.kept c.stage
  pub empty : c.kept.gates_shut ≡ true → PassedAreEmpty n us (passed_at n c.stage)
  pub rings : BarrierRingsStand n us places c.kept

module _ (n : Numbers) (us : List ℕ) (places : ℕ → ℕ) where
  abbrev Owned : Collecting → Type 0
  Owned c = Own n us places c

  -- nothing is passed yet
  pub plain : (c : Collecting) → StageKeeps n us c.kept c.stage → passed_at n c.stage ≡ 0
      → BarrierRingsStand n us places c.kept → Owned c
  plain c keeps none rings = record {
    keeps = keeps;
    empty = λ shut m slot below low inside. absurd (omega arith);
    rings = rings;
  }

  pub forward_own : (k : Holdings) → BarrierRingsStand n us places k → Owned (forward k)
  forward_own k rings = from k.pending refl
    where
      from : (xs : List Name) → k.pending ≡ xs → Owned (forward_from k xs)
      from [] e = plain (forward_from k []) e refl rings
      from (x ∷ xs) e = plain (forward_from k (x ∷ xs)) tt refl rings

  module _ (k : Holdings) (none : k.pending ≡ []) (rings : BarrierRingsStand n us places k) where
    pub empty_own : (k.gates_shut ≡ true → PassedAreEmpty n us n.mutators) → Owned (empty k)
    empty_own all = on (position is_open k.windows)
      where
        on : (o : Option ℕ) → Owned (empty_from k o)
        on None = record { keeps = (none, tt); empty = all; rings = rings }
        on (Some r) = record { keeps = none; empty = all; rings = rings }

    pub barriers_own : (m : ℕ) → (k.gates_shut ≡ true → PassedAreEmpty n us (m + 1)) → k.shape ≡ n
        → Owned (barriers_from k (m + 1))
    barriers_own m passed shape =
        either_way Owned (m + 1 == k.shape.mutators) (empty k) (at k (Barriers (Loading (m + 1))))
        (λ e. let all : m + 1 ≡ n.mutators =
        is_same (m + 1) k.shape.mutators e ∙ ap (λ (x : Numbers). x.mutators) shape in
        empty_own (λ shut. subst (PassedAreEmpty n us) all (passed shut)))
        (λ e. record { keeps = none; empty = passed; rings = rings })

    pub polled_own : (q : PollStage) → k.poll.stage ≡ q → (k.gates_shut ≡ true → PassedAreEmpty n us n.mutators)
        → Owned (polled_at k q)
    polled_own (Asking r) e all = record {
      keeps = (none, subst (λ (x : PollStage). IsAct (poll.stage_next n x)) (sym e) tt);
      empty = all;
      rings = rings;
    }
    polled_own (Reading r) e all = record {
      keeps = (none, subst (λ (x : PollStage). IsAct (poll.stage_next n x)) (sym e) tt);
      empty = all;
      rings = rings;
    }
    polled_own (Polled (NotYet r w)) e all = plain (at k (Barriers (Loading 0))) none refl rings
    polled_own (Polled Told) e all =
        either_way Owned k.gates_shut (at (record k { used = []; chosen = [] }) (Choosing (LoadingLive 0 0)))
        (at k (Pausing (Shutting ForChoice 0)))
        (λ shut. plain (at (record k { used = []; chosen = [] }) (Choosing (LoadingLive 0 0))) tt refl rings)
        (λ open_. plain (at k (Pausing (Shutting ForChoice 0))) (open_, none) refl rings)

    pub paused_own : (pause : Pause) → k.gates_shut ≡ false → Owned (paused k pause)
    paused_own Snapshot open_ = plain (paused k Snapshot) open_ refl rings
    paused_own ForChoice open_ = plain (paused k ForChoice) none refl rings

  module _ (k : Holdings) (rings : BarrierRingsStand n us places k) where
    pub roots_own : (m q : ℕ) (names : List Name) → k.gates_shut ≡ false
        → Owned (at (record k { pending = names }) (Pausing (after_root k m q)))
    roots_own m q names open_ =
        let kept : Holdings = record k { pending = names } in
        by_test (λ (stage : PauseStage). Owned (at kept (Pausing stage))) (nat_lt (q + 1) k.shape.roots)
        (LoadingRoot m (q + 1)) (cond (nat_lt (m + 1) k.shape.mutators) (LoadingRoot (m + 1) 0) StoringTrace)
        (λ e. plain (at kept (Pausing (LoadingRoot m (q + 1)))) open_ refl rings)
        (λ e. by_test (λ (stage : PauseStage). Owned (at kept (Pausing stage))) (nat_lt (m + 1) k.shape.mutators)
        (LoadingRoot (m + 1) 0) StoringTrace
        (λ a. plain (at kept (Pausing (LoadingRoot (m + 1) 0))) open_ refl rings)
        (λ a. plain (at kept (Pausing StoringTrace)) open_ refl rings))

    pub gifts_own : (i : ℕ) → Owned (gifts_from k i)
    gifts_own i =
        either_way Owned (nat_lt i (length k.chosen)) (at k (Choosing (LoadingHome i))) (at k (Choosing StoringEvac))
        (λ e. plain (at k (Choosing (LoadingHome i))) tt refl rings)
        (λ e. plain (at k (Choosing StoringEvac)) tt refl rings)

    pub gift_own : (i former : ℕ) (o : Option ℕ) → Owned (gift_of k i former o)
    gift_own i former None = plain (gift_of k i former None) tt refl rings
    gift_own i former (Some region) = plain (gift_of k i former (Some region)) tt refl rings

  servers_own : (k : Holdings) (r : ℕ) → BarrierRingsStand n us places k → Owned (servers_from k r)
  servers_own k r rings =
      either_way Owned (r == k.shape.servers) (gifts_from k 0) (at k (Choosing (LoadingLive r 0)))
      (λ e. gifts_own k rings 0) (λ e. plain (at k (Choosing (LoadingLive r 0))) tt refl rings)

  pub tablets_own : (k : Holdings) (r place : ℕ) → BarrierRingsStand n us places k → Owned (after_tablet k r place)
  tablets_own k r place rings =
      either_way Owned (place + 1 == k.shape.tablets) (servers_from (server_chosen k r) (r + 1))
      (at k (Choosing (LoadingLive r (place + 1)))) (λ e. servers_own (server_chosen k r) (r + 1) rings)
      (λ e. plain (at k (Choosing (LoadingLive r (place + 1)))) tt refl rings)

-- ---- the barrier rings

-- one ring more is passed, where the slot at its position is empty
pub one_passed : (n : Numbers) (words : List ℕ) (m at place : ℕ) → at < n.ring → BarrierRing n words m at place
    → word_at n words (barrier m at) ≡ 0 → PassedAreEmpty n words m → PassedAreEmpty n words (m + 1)
one_passed n words m at place low ring none before x slot below few inside =
    elim (cases_eq x m) [
      | inl e ↦ subst (λ (y : ℕ). word_at n words (barrier y slot) ≡ 0) (sym e)
          (ring_empty n.ring (λ i. word_at n words (barrier m i)) at low ring.others none slot inside)
      | inr d ↦ before x slot (omega arith) few inside
    ]

abbrev ring_of : Place → ℕ
ring_of (barrier m slot) = m
ring_of p = 0

-- a name is taken out of one ring
pub rings_taken : (n : Numbers) (words : List ℕ) (places : ℕ → ℕ) (k : Holdings) (m : ℕ) → IsKeptKnown k → k.shape ≡ n
    → length words ≡ total n → m < n.mutators
    → word_at n words (barrier m (slice_index k.barrier_at m)) ≢ 0 → BarrierRingsStand n words places k
    → BarrierRingsStand n (set words (index n (barrier m (slice_index k.barrier_at m))) 0) places
    (record k { barrier_at = slice_set k.barrier_at m (after_place n.ring (slice_index k.barrier_at m)) })
rings_taken n words places k m known shape size low some rings x few =
    let position_m : ℕ = slice_index k.barrier_at m in
    let us : List ℕ = set words (index n (barrier m position_m)) 0 in
    let count : length k.barrier_at ≡ n.mutators = known.barriers_count ∙ ap (λ (y : Numbers). y.mutators) shape in
    let inside : (y : ℕ) → y < n.mutators → slice_index k.barrier_at y < n.ring =
    λ y l. subst (λ (z : Numbers). slice_index k.barrier_at y < z.ring) shape (known.barriers y 0 (omega arith)) in
    elim (cases_eq x m) [
      | inl e ↦
          subst (λ (y : ℕ). BarrierRing n us y
          (slice_index (slice_set k.barrier_at m (after_place n.ring position_m)) y) (places y)) (sym e)
          (subst (λ (y : ℕ). BarrierRing n us m y (places m))
          (sym (get_or-set_at k.barrier_at m m (after_place n.ring position_m) 0 refl (omega arith)))
          (ring_taken n words m position_m (places m) size low (inside m low) some (rings m low)))
      | inr d ↦
          subst (λ (y : ℕ). BarrierRing n us x y (places x))
          (sym (get_or-set_other k.barrier_at m x (after_place n.ring position_m) 0 d))
          (ring_stays n words us x (slice_index k.barrier_at x) (places x) (inside x few)
          (λ slot l. word_other n words (barrier m position_m) (barrier x slot) 0 (low, inside m low) (few, l)
          (λ e. d (ap ring_of e))) (rings x few))
    ]
