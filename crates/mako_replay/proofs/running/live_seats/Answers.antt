use Rattle.std.proofs.Common.{◌≡◌, ◌<◌, Bool, true, false, List, ℕ, [], ◌∷◌, ◌++◌, length, if◌then◌else◌, slice_get}
use Rattle.std.proofs.Common.{Some, Vec, Global, ap, ◌∙◌, arith}
use Rattle.mako_seat.specs.Seats.{place_of}
use Rattle.mako_seat.specs.declared.seat.Seat.{Seat}
use Rattle.mako_replay.specs.Runs.{is_end}
use Rattle.mako_replay.proofs.Live.{one_more}
use Rattle.mako_replay.proofs.running.live_seats.Goals as goal
use Rattle.mako_replay.proofs.running.live_seats.Goals.{then-not-is_end+in-Ok, else-not-is_end}

-- the list with the seat behind it, unless that is at its end
with_seat : (e : Bool) (xs ys : List ℕ) (i : ℕ) → e ≡ false → ys ≡ xs ++ i ∷ [] → ys ≡ (if e then xs else xs ++ i ∷ [])
with_seat true xs ys i no_ is = absurd cc
with_seat false xs ys i no_ is = is

without_seat : (e : Bool) (xs ys : List ℕ) (i : ℕ) → e ≡ true → ys ≡ xs → ys ≡ (if e then xs else xs ++ i ∷ [])
without_seat true xs ys i yes_ is = is
without_seat false xs ys i yes_ is = absurd cc

pub loop-seat-preserved : goal.loop-seat-preserved
loop-seat-preserved c =
    let seats = c.args.core.now.state.seats in
    let low : c.loop-seat.seat < length seats = omega (arith, c.loop-seat-test.true, c.seats-seat-end.ensures) in
    let tells : (v : Seat) → slice_get seats c.loop-seat.seat ≡ Some v → c.is_end.result ≡ is_end (place_of v) =
    λ v there. c.is_end.ensures ∙ ap is_end (c.place.ensures v there) in
    one_more seats c.loop-seat.seat c.loop-seat.seats.items _ c.is_end.result low c.loop-seat.invariant tells
    (elim c.if-not-is_end.branch [
      | then-not-is_end+in-Ok w ↦ with_seat c.is_end.result c.loop-seat.seats.items _ c.loop-seat.seat
          w.if-not-is_end.true
          (ap (λ (v : Vec ℕ Global). v.items) w.seats-is ∙ w.in-Ok.ensures.items)
      | else-not-is_end w ↦ without_seat c.is_end.result c.loop-seat.seats.items _ c.loop-seat.seat
          w.if-not-is_end.false
          (ap (λ (v : Vec ℕ Global). v.items) w.seats-is)
    ])
