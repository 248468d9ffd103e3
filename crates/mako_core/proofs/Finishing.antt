-- What the seats have at the end of a run.
use Rattle.std.proofs.Common.{◌≡◌, ℕ, zero, suc, ◌+◌, ◌-◌, ◌<◌, ◌≤◌, Bool, true, false, List, [], ◌∷◌, ◌++◌, length}
use Rattle.std.proofs.Common.{take, slice_get, Some, sym, ap, refl, ◌∙◌, arith}
use Rattle.std.proofs.lemmas.Option.{none-some}
use Rattle.mako_shape.specs.declared.numbers.Numbers.{Numbers}
use Rattle.mako_model.specs.Answering.{Answers, AnswersToEnd}
use Rattle.mako_model.specs.Fronts.{replies_to}
use Rattle.mako_model.specs.Legal.{Facts}
use Rattle.mako_model.specs.declared.reply.Reply.{Reply}
use Rattle.mako_mutator.specs.Drivers.{place_by}
use Rattle.mako_mutator.specs.declared.place.Place.TheVariants.{Ended as PlaceEnded}
use Rattle.mako_mutator.specs.declared.progress.Task.{Task}
use Rattle.mako_mutator.specs.declared.progress.Task.TheVariants.{Attempting, Awaiting, Finishing, Ended}
use Rattle.mako_pause.specs.Collecting.{Collecting}
use Rattle.mako_seat.specs.declared.seat.Seat.{Seat}
use Rattle.mako_seat.specs.declared.seat.Seat.TheVariants.{Mutator, Server, Collector}
use Rattle.mako_state.specs.CoreStates.{CoreState}
use Rattle.mako_whole.specs.AllRuns.{scene_in}
use Rattle.mako_whole.specs.AllStanding.{SeatsStand}
use Rattle.mako_sitting.specs.Seats.{SeatSits}
use Rattle.mako_whole.proofs.AllStandingSteps.{standing_answers, standing_answers_to_end}
use Rattle.mako_core.specs.Cores.{cycles_kept, cycles_in}
use Rattle.mako_core.specs.Endings.{replies_kept, replies_in, EndsWithCollector, AllAtEnd}
use Rattle.mako_core.proofs.Starting.{some_at}

get_take : {A : Type 0} (k : ℕ) (xs : List A) (i : ℕ) (x : A) → slice_get (take k xs) i ≡ Some x
    → slice_get xs i ≡ Some x
get_take zero xs i x here = absurd (none-some x here)
get_take (suc k) [] i x here = absurd (none-some x here)
get_take (suc k) (y ∷ xs) zero x here = here
get_take (suc k) (y ∷ xs) (suc i) x here = get_take k xs i x here

-- ---- lists of replies

none_kept : (xs : List Seat) → ((i : ℕ) (v : Seat) → slice_get xs i ≡ Some v → replies_kept v ≡ []) → replies_in xs ≡ []
none_kept [] none = refl
none_kept (x ∷ xs) none = ap (λ (l : List (List Reply)). l ++ replies_in xs) (none 0 x refl)
    ∙ none_kept xs (λ i v here. none (suc i) v here)

pub record Listed (f : ℕ → List Reply) (k c : ℕ) (lists : List (List Reply)) : Type 0 where
  pub count : length lists ≡ c
  pub each : (m : ℕ) → m < c → slice_get lists m ≡ Some (f (k + m))

-- the first c seats keep the lists that f gives from k on, and no other keeps any
listed : (f : ℕ → List Reply) (c k : ℕ) (xs : List Seat) → c ≤ length xs →
    ((i : ℕ) (v : Seat) → slice_get xs i ≡ Some v → i < c → replies_kept v ≡ f (k + i) ∷ []) →
    ((i : ℕ) (v : Seat) → slice_get xs i ≡ Some v → c ≤ i → replies_kept v ≡ []) → Listed f k c (replies_in xs)
listed f zero k xs few first rest = record {
  count = ap length (none_kept xs (λ i v here. rest i v here (omega arith)));
  each = λ m low. absurd (omega arith);
}
listed f (suc c) k [] few first rest = absurd (omega arith)
listed f (suc c) k (x ∷ xs) few first rest =
    let head : replies_in (x ∷ xs) ≡ f (k + 0) ∷ replies_in xs =
    ap (λ (l : List (List Reply)). l ++ replies_in xs) (first 0 x refl (omega arith)) in
    let tail : Listed f (k + 1) c (replies_in xs) = listed f c (k + 1) xs (omega arith)
    (λ i v here low. first (suc i) v here (omega arith)
    ∙ ap (λ j. f j ∷ []) (let e : k + suc i ≡ k + 1 + i = omega arith in e))
    (λ i v here high. rest (suc i) v here (omega arith)) in
    let few_more = tail.count in
    record {
      count = ap length head ∙ (let e : suc (length (replies_in xs)) ≡ suc c = omega (arith, few_more) in e);
      each = λ m low. ap (λ (l : List (List Reply)). slice_get l m) head ∙ at_place f c k (replies_in xs) tail m low;
    }
  where
    at_place : (f : ℕ → List Reply) (c k : ℕ) (l : List (List Reply)) → Listed f (k + 1) c l → (m : ℕ) → m < suc c
        → slice_get (f (k + 0) ∷ l) m ≡ Some (f (k + m))
    at_place f c k l tail zero low = refl
    at_place f c k l tail (suc m) low = tail.each m (omega arith)
        ∙ ap (λ j. Some (f j)) (let e : k + 1 + m ≡ k + suc m = omega arith in e)

-- ---- the seats of a core state

module _ (n : Numbers) (w : Facts) (st : CoreState) (stands : SeatsStand n w st) where
  pub count : length st.seats ≡ n.mutators + n.servers + 1
  count = stands.all.count

  abbrev Sits : ℕ → Seat → Type 0
  Sits i v = SeatSits n w (scene_in st stands.facets) stands.all.taker stands.all.places i v

  -- the last seat is the collector, and it has the finished cycles
  record EndsAs (i : ℕ) : Type 0 where
    collector : Collecting
    last : slice_get st.seats i ≡ Some (Collector collector)
    lists : collector.kept.cycles.lists ≡ st.front.finished

  collector_at : (i : ℕ) (v : Seat) → slice_get st.seats i ≡ Some v → i ≡ n.mutators + n.servers → Sits i v → EndsAs i
  collector_at i (Mutator d) here at sits = absurd (let low = sits.keeps.in_range in omega (arith, low))
  collector_at i (Server v) here at sits = absurd (let e = sits.number in let low = sits.in_range in
      omega (arith, e, low))
  collector_at i (Collector c) here at sits = record { collector = c; last = here; lists = sits.lists }

  ends_as : EndsAs (length st.seats - 1)
  ends_as =
      let last = some_at st.seats (length st.seats - 1) (omega (arith, count)) in
      collector_at (length st.seats - 1) last.0 last.1 (omega (arith, count))
      (stands.all.each (length st.seats - 1) last.0 last.1)

  pub last_collector : EndsWithCollector st.seats
  last_collector = record { collector = ends_as.collector; last = ends_as.last }

  pub finished_kept : st.front.finished ≡ cycles_in st.seats
  finished_kept = sym (ap cycles_kept ends_as.last ∙ ends_as.lists)

  kept_first : (i : ℕ) (v : Seat) → Sits i v → i < n.mutators
      → replies_kept v ≡ replies_to (0 + i) st.front.history ∷ []
  kept_first i (Mutator d) sits low =
      ap (λ r. r ∷ []) (sits.keeps.replies
      ∙ ap (λ j. replies_to j st.front.history) (let e : i ≡ 0 + i = omega arith in e))
  kept_first i (Server v) sits low = absurd (let e = sits.number in omega (arith, e))
  kept_first i (Collector c) sits low = absurd (let e = sits.number in omega (arith, e))

  kept_rest : (i : ℕ) (v : Seat) → Sits i v → n.mutators ≤ i → replies_kept v ≡ []
  kept_rest i (Mutator d) sits high = absurd (let low = sits.keeps.in_range in omega (arith, low))
  kept_rest i (Server v) sits high = refl
  kept_rest i (Collector c) sits high = refl

  -- the replies of all seats but the last
  pub replies_are : Listed (λ m. replies_to m st.front.history) 0 n.mutators
      (replies_in (take (length st.seats - 1) st.seats))
  replies_are =
      let k = length st.seats - 1 in
      let many : length (take k st.seats) ≡ k = length_take_below st.seats k (omega arith) in
      listed (λ m. replies_to m st.front.history) n.mutators 0 (take k st.seats) (omega (arith, many, count))
      (λ i v here low. let there = get_take k st.seats i v here in kept_first i v (stands.all.each i v there) low)
      (λ i v here high. let there = get_take k st.seats i v here in kept_rest i v (stands.all.each i v there) high)
    where
      length_take_below : (xs : List Seat) (k : ℕ) → k ≤ length xs → length (take k xs) ≡ k
      length_take_below xs zero low = refl
      length_take_below [] (suc k) low = absurd (omega arith)
      length_take_below (x ∷ xs) (suc k) low = let more = length_take_below xs k (omega arith) in omega (arith, more)

  pub programs_count : length w.programs ≡ n.mutators
  programs_count = stands.all.joint.script.facts.mutators

  -- ---- the end

  pub answers : Answers w st.front
  answers = standing_answers n w st stands

  -- a mutator that is told to be at its end has ended its task
  ended_at : (done : ℕ) (b : Bool) (t : Task) → place_by done b t ≡ PlaceEnded → t ≡ Ended
  ended_at done true (Attempting c) end = cc
  ended_at done false (Attempting c) end = cc
  ended_at done true (Awaiting c) end = cc
  ended_at done false (Awaiting c) end = cc
  ended_at done true Finishing end = cc
  ended_at done false Finishing end = cc
  ended_at done b Ended end = refl

  pub answers_to_end : AllAtEnd n st.seats → AnswersToEnd w st.front
  answers_to_end end = standing_answers_to_end n w st stands (λ m d here.
      let sits = stands.all.each m (Mutator d) here in
      ended_at d.progress.done d.progress.within d.progress.task (end m (Mutator d) sits.keeps.in_range here))
