-- The counting rule: pieces are counted when they are sent and when they are handled, and whoever counts twice and
-- finds
-- all four sums equal knows that none is left.
use Rattle.std.specs.Prelude.{◌≡◌, ℕ, zero, suc, ◌+◌, ◌^◌, ◌<◌, ◌≤◌, List, ◌++◌, length, drop, sum, sum_by, slice_index}
use Rattle.std.specs.Prelude.{All, MatchOption, Some}
use mathlib.Core.Option.{some}
use lib.ListN.{get_elem?}
use Rattle.atomic_table.specs.Table.{State}
use Rattle.mako_count.specs.declared.views.Hand.{Hand}
use Rattle.mako_count.specs.declared.views.Hand.TheVariants.{Free, Reaching, Holding, Sending}
use Rattle.mako_count.specs.declared.views.WorkerView.{WorkerView}
use Rattle.mako_count.specs.declared.views.PollView.{PollView}
use Rattle.mako_count.specs.declared.views.View.{View}
use Rattle.mako_count.specs.declared.setup.Setup.{Setup}
use Rattle.mako_count.specs.Views.{gathering, openings, opening_poll}

-- What each worker sent, what it handled, and what waits in its box. The words are these one after another
pub record Counters : Type 0 where
  pub sent : List ℕ
  pub handled : List ℕ
  pub waiting : List ℕ

abbrev pub words_of : Counters → List ℕ
words_of c = c.sent ++ (c.handled ++ c.waiting)

-- a worker's hand holds a piece from the taking to the rest
abbrev pub in_hand : Hand → ℕ
in_hand Free = 0
in_hand Reaching = 0
in_hand Holding = 1
in_hand Sending = 1

-- a piece is on its way from the raised sent word to its box
abbrev pub on_way : Hand → ℕ
on_way Free = 0
on_way Reaching = 0
on_way Holding = 0
on_way Sending = 1

abbrev pub pieces_at : Hand → ℕ
pieces_at h = in_hand h + on_way h

-- the pieces that hands and sends hold
abbrev pub pieces_with : View → ℕ
pieces_with v = sum_by (λ w. pieces_at w.hand) v.workers

abbrev pub pieces : List View → ℕ
pieces views = sum_by pieces_with views

-- Quiet: the boxes hold no piece, and neither do hands and sends
abbrev pub IsQuiet : Counters → ℕ → Type 0
IsQuiet c hands = (sum c.waiting ≡ 0) × (hands ≡ 0)

-- all is quiet, and so many pieces were sent
abbrev pub IsQuietAfter : Counters → ℕ → ℕ → Type 0
IsQuietAfter c hands n = IsQuiet c hands × (sum c.sent ≡ n)

-- A worker's words are what its seat knows of them. Its seeds are in its box, in its hand or handled
pub record FitsWorker (c : Counters) (w : WorkerView) : Type 0 where
  pub within : w.number < length c.sent
  pub sent : slice_index c.sent w.number ≡ w.seeds + w.sends
  pub handled : slice_index c.handled w.number ≡ w.handled
  pub seeds : w.seeds ≤ slice_index c.waiting w.number + in_hand w.hand + w.handled
  pub reaching : w.hand ≡ Reaching → 0 < slice_index c.waiting w.number

-- none of these numbers is greater than that of its place
abbrev pub IsBelow : List ℕ → List ℕ → Type 0
IsBelow read words = (i : ℕ) → slice_index read i ≤ slice_index words i

-- each number that was read again is at least what was read at first
abbrev pub HasRisen : List ℕ → List ℕ → Type 0
HasRisen first later = (i : ℕ) → i < length later → slice_index first i ≤ slice_index later i

-- what was read again, with what is still to be read, is what was read at first
abbrev pub IsUnchanged : List ℕ → List ℕ → List ℕ → Type 0
IsUnchanged first later words = later ++ drop (length later) words ≡ first

-- What was read is no more than the words. Where the sums of the first pass agree and nothing is found changed since,
-- all is quiet. Where the poller was told, all is quiet
pub record FitsPoll (c : Counters) (hands : ℕ) (p : PollView) : Type 0 where
  pub count : p.count ≡ length c.sent
  pub first_sent : IsBelow p.first.sent c.sent
  pub first_handled : IsBelow p.first.handled c.handled
  pub later_sent : IsBelow p.later.sent c.sent
  pub later_handled : IsBelow p.later.handled c.handled
  pub risen_sent : HasRisen p.first.sent p.later.sent
  pub risen_handled : HasRisen p.first.handled p.later.handled
  pub unchanged : sum p.first.handled ≡ sum p.first.sent → IsUnchanged p.first.sent p.later.sent c.sent
      → IsUnchanged p.first.handled p.later.handled c.handled → IsQuietAfter c hands (sum p.first.sent)
  pub told : (n : ℕ) → p.told ≡ Some n → IsQuietAfter c hands n

abbrev pub FitsView : Counters → ℕ → View → Type 0
FitsView c hands v = All (FitsWorker c) v.workers × MatchOption v.poll (Unit {0}) (FitsPoll c hands)

-- the numbers below n, each weighed, and added up
abbrev pub below : (ℕ → ℕ) → ℕ → ℕ
below weight zero = 0
below weight (suc n) = weight 0 + below (λ i. weight (suc i)) n

-- the workers of all views, each weighed by its number, and added up
abbrev pub weights : (ℕ → ℕ) → List View → ℕ
weights weight views = sum_by (λ v. sum_by (λ w. weight w.number) v.workers) views

-- The rule, for n workers. However numbers are weighed, the workers of all views weigh what the numbers below n weigh:
-- each
-- worker stands in one view, once
pub record Counts (n : ℕ) (c : Counters) (views : List View) : Type 0 where
  pub few : n ≤ 64
  pub sent_length : length c.sent ≡ n
  pub handled_length : length c.handled ≡ n
  pub waiting_length : length c.waiting ≡ n
  pub small : (i : ℕ) → slice_index c.sent i < 2 ^ 33
  pub balance : sum c.sent ≡ sum c.handled + sum c.waiting + pieces views
  pub once : (weight : ℕ → ℕ) → weights weight views ≡ below weight n
  pub fits : (id : ℕ) (v : View) → get_elem? views id ≡ some v → FitsView c (pieces views) v

abbrev pub CountingHolds : Setup → State (Unit {0}) View → Type 0
CountingHolds k s = (c : Counters) × (s.words ≡ words_of c) × Counts (length k.seeds.items) c s.views

-- the first seat has all workers and polls
abbrev pub opening_view : Setup → View
opening_view k = gathering (openings 0 k.seeds.items) (opening_poll (length k.seeds.items))
