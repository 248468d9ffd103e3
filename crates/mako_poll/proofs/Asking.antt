-- The acts of a poll are steps of the polling invariant.
use Rattle.std.proofs.Common.{◌≡◌, ℕ, ◌+◌, ◌<◌, ◌==◌, if◌then◌else◌, Bool, true, false, List, length, ap, subst, refl}
use Rattle.std.proofs.Common.{arith}
use Rattle.std.proofs.lemmas.Bool.{or_parts}
use Rattle.std.proofs.lemmas.Bool.Decides.{nat_tests}
use Rattle.mako_words.specs.Words.{all_but}
use Rattle.mako_shape.specs.declared.numbers.Numbers.{Numbers}
use Rattle.mako_shape.specs.Places.{flags, total, word_at}
use Rattle.mako_step.specs.Acts.{words_stepped, finds}
use Rattle.mako_step.specs.Machines.{IsAct}
use Rattle.mako_step.specs.declared.act.Op.TheVariants.{And}
use Rattle.mako_ring.specs.Facets.{ServerFacet, CollectorFacet, polling, reading, flags_of}
use Rattle.mako_ring.specs.Polling.{PollingStands}
use Rattle.mako_poll.specs.Polls.{stage_next, stage_fed, has_work, asking_from, reading_from, IsKnown}
use Rattle.mako_poll.specs.Steps.{CollectorStep, Leaves, FindsWork, FindsClean, TurnsToRead, ReadsZero, Collected}
use Rattle.mako_poll.specs.Worlds.{CollectorView, polls, collecting_of, CollectorStands}
use Rattle.mako_poll.specs.declared.poller.Polled.TheVariants.{Told, NotYet}
use Rattle.mako_poll.specs.declared.poller.PollStage.{PollStage}
use Rattle.mako_poll.specs.declared.poller.PollStage.TheVariants.{Asking, Reading, Ended}
use Rattle.mako_poll.proofs.Acting.{untouched_load, wrote_at}
use Rattle.mako_poll.proofs.AllSteps.{steps_hold}

module _ (n : Numbers) (words after : List ℕ) (server : ℕ
    → ServerFacet) (c : CollectorView) (some : 0 < n.servers) (size : length words ≡ total n) where
  abbrev at : PollStage → CollectorView
  at stage = record c { stage = polls stage }

  -- the polling invariant with the words before, and with those after
  abbrev pub Before : PollStage → Type 0
  Before stage = PollingStands n (record {
    word = word_at n words;
    server = server;
    collector = collecting_of n (at stage);
  })

  abbrev AfterBy : CollectorFacet → Type 0
  AfterBy d = PollingStands n (record { word = word_at n after; server = server; collector = d })

  abbrev pub After : PollStage → Type 0
  After stage = AfterBy (collecting_of n (at stage)) × CollectorStands n (polls stage)

  by_kind : (stage : PollStage) (d : CollectorFacet) → Before stage
      → CollectorStep n (word_at n words) (word_at n after) (collecting_of n (at stage)) d → AfterBy d
  by_kind stage d stands step =
      steps_hold n _ _ stands (Collected d (record { here = refl; servers = λ j lt. refl }) step)

  -- past a clean server
  asked_on : (k : ℕ) → k < n.servers → AfterBy (record (collecting_of n (at (Asking k))) { poll = polling (k + 1) })
      → (b : Bool) → (k + 1 == n.servers) ≡ b → After (if b then Reading 0 else Asking (k + 1))
  asked_on k lt stands true e =
      let all : k + 1 ≡ n.servers = grind (arith, nat_tests) in (
        steps_hold n _ (record {
          word = word_at n after;
          server = server;
          collector = collecting_of n (at (Reading 0));
        }) stands
            (Collected (collecting_of n (at (Reading 0))) (record { here = refl; servers = λ j lt. refl })
            (TurnsToRead (λ p is within. refl) (ap polling all) refl)),
        some,
      )
  asked_on k lt stands false e = (stands, grind (arith, nat_tests))

  ask : (k : ℕ) → k < n.servers → Before (Asking k) → after ≡ words_stepped (stage_next n (Asking k)) words → (b : Bool)
      → has_work (word_at n words (flags k)) ≡ b
      → After (if b then Ended (NotYet k (word_at n words (flags k))) else asking_from n (k + 1))
  ask k lt stands d true e = (
    by_kind (Asking k) (collecting_of n (at (Ended (NotYet k (word_at n words (flags k)))))) stands
        (FindsWork k lt (wrote_at n words after size (flags k) (And (all_but 4)) lt d) (λ r lr. refl) refl),
    tt,
  )
  ask k lt stands d false e =
      let clean = or_parts ((flags_of (word_at n words) k).busy) ((flags_of (word_at n words) k).ghost_) e in
      asked_on k lt
      (by_kind (Asking k) (record (collecting_of n (at (Asking k))) { poll = polling (k + 1) }) stands
      (FindsClean k lt (wrote_at n words after size (flags k) (And (all_but 4)) lt d) refl clean.0 clean.1 refl))
      (k + 1 == n.servers) refl

  -- past a server whose flags are 0
  read_on : (k : ℕ) → k < n.servers → AfterBy (record (collecting_of n (at (Reading k))) { poll = reading (k + 1) })
      → (b : Bool) → (k + 1 == n.servers) ≡ b → After (if b then Ended Told else Reading (k + 1))
  read_on k lt stands true e =
      let all : k + 1 ≡ n.servers = grind (arith, nat_tests) in
      (subst (λ (j : ℕ). AfterBy (record (collecting_of n (at (Reading k))) { poll = reading j })) all stands, tt)
  read_on k lt stands false e = (stands, grind (arith, nat_tests))

  read : (k : ℕ) → k < n.servers → Before (Reading k) → after ≡ words_stepped (stage_next n (Reading k)) words
      → (b : Bool) → (word_at n words (flags k) == 0) ≡ b
      → After (if b then reading_from n (k + 1) else Ended (NotYet k (word_at n words (flags k))))
  read k lt stands d true e =
      let zero_is : word_at n words (flags k) ≡ 0 = grind (arith, nat_tests) in
      read_on k lt
      (by_kind (Reading k) (record (collecting_of n (at (Reading k))) { poll = reading (k + 1) }) stands
      (ReadsZero k (untouched_load n words after _ d) refl zero_is refl))
      (k + 1 == n.servers) refl
  read k lt stands d false e = (
    by_kind (Reading k) (collecting_of n (at (Ended (NotYet k (word_at n words (flags k)))))) stands
        (Leaves (untouched_load n words after _ d) (λ r lr. refl) refl),
    tt,
  )

  pub poll_goes : (stage : PollStage) → IsKnown n stage → Before stage → IsAct (stage_next n stage)
      → after ≡ words_stepped (stage_next n stage) words → After (stage_fed n stage (finds (stage_next n stage) words))
  poll_goes (Asking k) known stands act d = ask k known stands d _ refl
  poll_goes (Reading k) known stands act d = read k known stands d _ refl
  poll_goes (Ended polled) known stands act d = elim act [ ]
