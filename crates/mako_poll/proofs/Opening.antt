-- A poll that begins in the opening state is told.
use Rattle.std.proofs.Common.{◌≡◌, ℕ, ◌<◌, ◌==◌, if◌then◌else◌, List, [], ◌∷◌, ap, sym, refl, ◌∙◌, arith}
use Rattle.std.specs.Prelude.{bit_and}
use Rattle.mako_words.specs.Words.{all_but}
use Rattle.mako_words.specs.declared.name.Name.{Name}
use Rattle.mako_shape.specs.declared.numbers.Numbers.{Numbers}
use Rattle.mako_shape.specs.Places.{flags, word_at}
use Rattle.mako_step.specs.Acts.{words_stepped, finds}
use Rattle.mako_step.specs.declared.act.Op.TheVariants.{And}
use Rattle.mako_ring.specs.TraceFacets.{is_filled}
use Rattle.mako_ring.specs.FlagBits.{changed_bit}
use Rattle.mako_poll.specs.Polls.{stage_next, stage_fed}
use Rattle.mako_poll.specs.Steps.{BeginsPoll}
use Rattle.mako_poll.specs.Worlds.{World, polls, Polls, Collected, IsOpeningWorld, WorldStep, OpeningIsTold}
use Rattle.mako_poll.specs.declared.poller.Polled.TheVariants.{Told}
use Rattle.mako_poll.specs.declared.poller.PollStage.{PollStage}
use Rattle.mako_poll.specs.declared.poller.PollStage.TheVariants.{Asking, Reading, Ended}
use Rattle.mako_poll.proofs.Acting.{wrote_at}

module _ (n : Numbers) (v : World) (one : n.servers ≡ 1) (o : IsOpeningWorld n v)
    (none : v.collector.pending ≡ []) where
  in_range : 0 < n.servers
  in_range = (let e = one in omega arith)

  -- the world with a poll at this stage, and these words
  abbrev at : List ℕ → PollStage → World
  at words stage = record { words = words; server = v.server; collector = record v.collector { stage = polls stage } }

  abbrev asked : List ℕ
  asked = words_stepped (stage_next n (Asking 0)) v.words

  abbrev read : List ℕ
  read = words_stepped (stage_next n (Reading 0)) asked

  zero : word_at n v.words (flags 0) ≡ 0
  zero = o.words (flags 0) tt in_range

  still_zero : word_at n asked (flags 0) ≡ 0
  still_zero = (wrote_at n v.words asked o.size (flags 0) (And (all_but changed_bit)) in_range refl).there
      ∙ ap (λ (w : ℕ). bit_and w (all_but changed_bit)) zero

  clean : stage_fed n (Asking 0) (finds (stage_next n (Asking 0)) v.words) ≡ Reading 0
  clean = ap (λ (w : ℕ). stage_fed n (Asking 0) w) zero ∙ ap (λ (s : ℕ). if 1 == s then Reading 0 else Asking 1) one

  told : stage_fed n (Reading 0) (finds (stage_next n (Reading 0)) asked) ≡ Ended Told
  told = ap (λ (w : ℕ). stage_fed n (Reading 0) w) still_zero
      ∙ ap (λ (s : ℕ). if 1 == s then Ended Told else Reading 1) one

  begins : WorldStep n v (at v.words (Asking 0))
  begins = Collected (record v.collector { stage = polls (Asking 0) }) refl refl
      (BeginsPoll (λ p is within. refl) (record {
        pending = ap (λ (names : List Name). is_filled names) none;
        windows = λ r lr. let w = o.windows r lr in w.1 ∙ sym w.0;
      }) (λ r lr. refl) refl)
      (record { here = refl; servers = λ j lt. refl })

  asks : WorldStep n (at v.words (Asking 0)) (at asked (Reading 0))
  asks = Polls (Asking 0) refl tt refl
      (record {
        here = ap (λ (s : PollStage). record v.collector { stage = polls s }) (sym clean);
        servers = λ j lt. refl;
      })

  reads : WorldStep n (at asked (Reading 0)) (at read (Ended Told))
  reads = Polls (Reading 0) refl tt refl
      (record {
        here = ap (λ (s : PollStage). record v.collector { stage = polls s }) (sym told);
        servers = λ j lt. refl;
      })

pub opening_is_told : OpeningIsTold
opening_is_told n v one o none = (
  at n v one o none v.words (Asking 0) ∷ at n v one o none (asked n v one o none) (Reading 0) ∷
      at n v one o none (read n v one o none) (Ended Told) ∷ [],
  ((begins n v one o none, (asks n v one o none, (reads n v one o none, tt))), refl),
)
