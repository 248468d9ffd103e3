use Rattle.std.proofs.Common.{◌≡◌, ℕ, ◌<◌, ◌%◌, List, length, slice_index, remove, sym, ap, ◌∙◌, arith}
use Rattle.mako_replay.specs.Schedules.{Left, left_after}
use Rattle.mako_replay.specs.Schedules.Left.{rounds, draws}
use Rattle.mako_replay.specs.Standing.{IsAscending, StandsFor}
use Rattle.mako_replay.specs.declared.schedule.Schedule.{Schedule}
use Rattle.mako_replay.specs.declared.draws.Draws.{Draws as Drawing}
use Rattle.mako_replay.specs.declared.schedule.Schedule.TheVariants.{Turns, Draws}
use Rattle.mako_replay.proofs.Places.{gone_place}
use Rattle.mako_replay.proofs.schedule.Schedule.leave.Goals as goal

left_behind : (old : Schedule) (next place : ℕ) (left : Left) (live : List ℕ) → old ≡ Turns next → place < length live
    → IsAscending live
    → StandsFor old (left_after left (slice_index live place)) live
    → StandsFor (Turns place) (left_after left (slice_index live place)) (remove live place)
left_behind (Turns n) next place (rounds i) live is low up stands = sym (gone_place 0 live place up low)
left_behind (Turns n) next place (draws g) live is low up stands = stands
left_behind (Draws h) next place left live is low up stands = absurd cc

pub returns-in-Turns-clause-stands : goal.returns-in-Turns-clause-stands
returns-in-Turns-clause-stands c left live low count = left_behind _ _ _ left live c.in-Turns.is low

drawn_behind : (old : Schedule) (d after : Drawing) (seat : ℕ) (left : Left) (live fewer : List ℕ) → old ≡ Draws d
    → after ≡ record d { place = after.place } → (0 < length fewer → after.place ≡ d.word % length fewer)
    → StandsFor old (left_after left seat) live → StandsFor (Draws after) (left_after left seat) fewer
drawn_behind (Turns n) d after seat left live fewer is same place stands = absurd cc
drawn_behind (Draws e) d after seat (rounds i) live fewer is same place stands = stands
drawn_behind (Draws e) d after seat (draws g) live fewer is same place stands =
    let held : d ≡ e = cc in
    let word : after.word ≡ d.word = ap (λ (x : Drawing). x.word) same in
    record {
      generator = ap (λ (x : Drawing). x.generator) same ∙ ap (λ (x : Drawing). x.generator) held ∙ stands.generator;
      word = word ∙ ap (λ (x : Drawing). x.word) held ∙ stands.word;
      place = λ some. place some ∙ ap (λ w. w % length fewer) (sym word);
    }

pub returns-in-Draws-clause-stands : goal.returns-in-Draws-clause-stands
returns-in-Draws-clause-stands c left live low count up =
    drawn_behind _ c.in-Draws.draws _ _ left live (remove live _) c.in-Draws.is c.recount.ensures.same
    (λ some. c.recount.ensures.place (omega (arith, count, some)) ∙ ap (λ n. c.in-Draws.draws.word % n) count)
