-- What holds once a poller was told.
use Rattle.std.specs.Prelude.{◌≡◌, ℕ, List, [], ◌∷◌, length, sum, slice_index, All, Option, Some, None, true}
use mathlib.Core.Option.{some}
use lib.ListN.{get_elem?}
use Rattle.atomic_table.specs.Table.{State}
use Rattle.mako_count.specs.declared.views.Hand.TheVariants.{Sending}
use Rattle.mako_count.specs.declared.views.PollView.{PollView}
use Rattle.mako_count.specs.declared.views.View.{View}
use Rattle.mako_count.specs.declared.setup.Setup.{Setup}
use Rattle.mako_count.specs.Views.{alone, gathering, opening_worker}
use Rattle.mako_count.specs.Counting.{Counters, words_of, pieces_at, CountingHolds}

-- no box, hand or send holds a piece, and n pieces were sent and handled, for so many workers
pub record IsOver (crew : ℕ) (c : Counters) (views : List View) (n : ℕ) : Type 0 where
  pub sent_length : length c.sent ≡ crew
  pub handled_length : length c.handled ≡ crew
  pub waiting_length : length c.waiting ≡ crew
  pub boxes : (i : ℕ) → slice_index c.waiting i ≡ 0
  pub hands : (id : ℕ) (v : View) → get_elem? views id ≡ some v → All (λ w. pieces_at w.hand ≡ 0) v.workers
  pub sent : sum c.sent ≡ n
  pub handled : sum c.handled ≡ n

-- the rule leaves nothing to do wherever some seat was told
abbrev pub ToldIsOver : Type 0
ToldIsOver = (k : Setup) (s : State (Unit {0}) View) (id : ℕ) (v : View) (p : PollView) (n : ℕ) → CountingHolds k s
    → get_elem? s.views id ≡ some v → v.poll ≡ Some p → p.told ≡ Some n
    → (c : Counters) × (s.words ≡ words_of c) × IsOver (length k.seeds.items) c s.views n

-- Of two workers the first started with a piece, took it and has counted a second one as sent, which is in no box yet.
-- A
-- poll read 1 and 0 before that, and the first sent word again after it
abbrev pub example : Option ℕ → State (Unit {0}) View
example told = record {
  words = 2 ∷ 0 ∷ 0 ∷ 0 ∷ 0 ∷ 0 ∷ [];
  homes = [];
  views = gathering [] record {
    count = 2;
    first = record { sent = 1 ∷ 0 ∷ []; handled = 0 ∷ 0 ∷ [] };
    later = record { sent = 2 ∷ []; handled = [] };
    passes = 2;
    again = true;
    told = told;
  }
      ∷ alone record { number = 0; seeds = 1; sends = 1; handled = 0; looked = 1; filled = 0; hand = Sending }
      ∷ alone (opening_worker 1 0) ∷ [];
}

-- the rule holds there, and not where the poller was told anything
abbrev pub WorkedExample : Type 0
WorkedExample = (k : Setup) → k.seeds.items ≡ 1 ∷ 0 ∷ [] → CountingHolds k (example None)
    × ((n : ℕ) → ¬ (CountingHolds k (example (Some n))))
