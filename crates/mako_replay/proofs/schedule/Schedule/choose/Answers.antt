use Rattle.std.proofs.Common.{◌≡◌, ℕ, ◌+◌, ◌<◌, ◌≤◌, ◌⊎◌, inl, inr, List, ◌∷◌, length, slice_index, get_or, arith, sym}
use Rattle.std.proofs.Common.{ap, ◌∙◌, ◌%◌, subst}
use Rattle.std.proofs.lemmas.List.{get_or_default, get_or_past}
use Rattle.mako_replay.specs.Schedules.{Left, left_after, chosen}
use Rattle.mako_replay.specs.Schedules.Left.{rounds, draws}
use Rattle.mako_replay.specs.Standing.{IsAhead, IsAscending, StandsFor, place_from}
use Rattle.mako_replay.specs.declared.schedule.Schedule.{Schedule}
use Rattle.rand_pcg.specs.Lcg.{Lcg}
use Rattle.rand_pcg.specs.Pcg.{pcg32}
use Rattle.mako_replay.specs.declared.draws.Draws.{Draws as Drawing}
use Rattle.mako_replay.specs.declared.schedule.Schedule.TheVariants.{Turns, Draws}
use Rattle.mako_replay.proofs.Places.{first_at, next_place}
use Rattle.mako_replay.proofs.schedule.Schedule.choose.Goals as goal
use Rattle.mako_replay.proofs.schedule.Schedule.choose.Goals.{then-next-count, else-next-count}

-- a place past the last is that of the first
chosen_at : (old : Schedule) (next place : ℕ) (left : Left) (first : ℕ) (others : List ℕ) → old ≡ Turns next
    → StandsFor old left (first ∷ others)
    → ((next < length (first ∷ others)) × (place ≡ next)) ⊎ ((length (first ∷ others) ≤ next) × (place ≡ 0))
    → slice_index (first ∷ others) place ≡ chosen left first others
chosen_at (Turns n) next place (rounds i) first others is stands wraps =
    let same : n ≡ next = cc in
    let at = first_at i first (first ∷ others) in
    let there : get_or (first ∷ others) next first ≡ get_or (first ∷ others) (place_from i (first ∷ others)) first =
    ap (λ k. get_or (first ∷ others) k first) (sym same ∙ stands) in
    elim wraps [
      | inl t ↦ ap (λ k. get_or (first ∷ others) k 0) t.1 ∙ get_or_default (first ∷ others) next 0 first t.0 ∙ there
          ∙ sym at
      | inr t ↦ ap (λ k. get_or (first ∷ others) k 0) t.1 ∙ sym (get_or_past (first ∷ others) next first t.0) ∙ there
          ∙ sym at
    ]
chosen_at (Turns n) next place (draws g) first others is stands wraps = absurd stands
chosen_at (Draws h) next place left first others is stands wraps = absurd cc

pub returns-after-next-count-clause-chosen : goal.returns-after-next-count-clause-chosen
returns-after-next-count-clause-chosen c left first others count stands =
    chosen_at _ c.in-Turns.next _ left first others c.in-Turns.is stands (elim c.if-next-count.branch [
      | then-next-count w ↦ inl (omega arith, w.place-is)
      | else-next-count w ↦ inr (omega arith, w.place-is)
    ])

stands_next : (old : Schedule) (next place : ℕ) (left : Left) (live : List ℕ) → old ≡ Turns next → place < length live
    → IsAscending live
    → StandsFor old left live → StandsFor (Turns (place + 1)) (left_after left (slice_index live place)) live
stands_next (Turns n) next place (rounds i) live is low up stands = sym (next_place 0 live place up low)
stands_next (Turns n) next place (draws g) live is low up stands = stands
stands_next (Draws h) next place left live is low up stands = absurd cc

pub returns-after-next-count-clause-left : goal.returns-after-next-count-clause-left
returns-after-next-count-clause-left c left live count =
    let low : c.if-next-count.place < length live =
    elim c.if-next-count.branch [ then-next-count w ↦ omega arith | else-next-count w ↦ omega arith ] in
    stands_next _ c.in-Turns.next _ left live c.in-Turns.is low

-- the place that was drawn ahead is that of the next word
drawn_at : (old : Schedule) (d : Drawing) (place : ℕ) (left : Left) (first : ℕ) (others : List ℕ) → old ≡ Draws d
    → place ≡ d.place → StandsFor old left (first ∷ others)
    → slice_index (first ∷ others) place ≡ chosen left first others
drawn_at (Turns n) d place left first others is at stands = absurd cc
drawn_at (Draws e) d place (rounds i) first others is at stands = absurd stands
drawn_at (Draws e) d place (draws g) first others is at stands =
    let same : d.place ≡ e.place = cc in
    let word = stands.word in
    let drawn : e.place ≡ (pcg32 g).0 % length (first ∷ others) =
    stands.place (omega arith) ∙ ap (λ w. w % length (first ∷ others)) word in
    ap (slice_index (first ∷ others)) (at ∙ same ∙ drawn)

pub returns-in-Draws-clause-chosen : goal.returns-in-Draws-clause-chosen
returns-in-Draws-clause-chosen c left first others count stands =
    drawn_at _ c.in-Draws.draws _ left first others c.in-Draws.is c.take.ensures.place stands

drawn_next : (old : Schedule) (d after : Drawing) (seat : ℕ) (left : Left) (live : List ℕ) → old ≡ Draws d
    → ((g : Lcg) → IsAhead d g (length live) → IsAhead after (pcg32 g).1 (length live))
    → StandsFor old left live → StandsFor (Draws after) (left_after left seat) live
drawn_next (Turns n) d after seat left live is next stands = absurd cc
drawn_next (Draws e) d after seat (rounds i) live is next stands = stands
drawn_next (Draws e) d after seat (draws g) live is next stands =
    let same : e ≡ d = cc in
    next g (subst (λ (x : Drawing). IsAhead x g (length live)) same stands)

pub returns-in-Draws-clause-left : goal.returns-in-Draws-clause-left
returns-in-Draws-clause-left c left live count up =
    drawn_next _ c.in-Draws.draws _ _ left live c.in-Draws.is
    (λ g ahead. subst (IsAhead _ _) count (c.take.ensures.next g (subst (IsAhead _ g) (sym count) ahead)))
