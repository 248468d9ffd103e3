use Rattle.std.proofs.Common.{◌≡◌, ◌<◌, length, true, false, refl, sym, ap, ◌∙◌, arith}
use Rattle.mako_replay.specs.Runs.{is_end}
use Rattle.mako_replay.proofs.Stepping.{ahead, ascend, come_on, live_after, seat_within, stands}
use Rattle.mako_replay.proofs.running.Running.step.Goals as goal

pub step-turn-requires : goal.step-turn-requires
step-turn-requires c =
    let r = c.args.self.now in
    let count : c.len-count.result ≡ length r.live.items = omega (arith, r.live.ok.0) in
    let read = ahead r c.len-count.result _ count c.choose-place.ensures.place c.choose-place.ensures.at c.requires.ready in
    seat_within r.core.state r.live.items c.choose-place.result _ c.requires.live (omega arith) read

pub place-requires : goal.place-requires
place-requires c =
    let r = c.args.self.now in
    let count : c.len-count.result ≡ length r.live.items = omega (arith, r.live.ok.0) in
    let read = ahead r c.len-count.result _ count c.choose-place.ensures.place c.choose-place.ensures.at c.requires.ready in
    let within = seat_within r.core.state r.live.items c.choose-place.result _ c.requires.live (omega arith) read in
    let same = c.step-turn.ensures.seats in
    omega arith

pub returns-then-is_end-clause-live : goal.returns-then-is_end-clause-live
returns-then-is_end-clause-live c =
    let r = c.args.self.now in
    let count : c.len-count.result ≡ length r.live.items = omega (arith, r.live.ok.0) in
    let read = ahead r c.len-count.result _ count c.choose-place.ensures.place c.choose-place.ensures.at c.requires.ready in
    c.remove-seat.ensures.items
    ∙ sym (live_after r.core.state r.live.items c.choose-place.result _ c.requires.live
    (omega arith) read _ true c.step-turn.ensures.state
    (λ v there. sym c.if-is_end.true ∙ c.is_end.ensures ∙ ap is_end (c.place.ensures v there)))

pub returns-then-is_end-clause-come : goal.returns-then-is_end-clause-come
returns-then-is_end-clause-come c g come =
    let r = c.args.self.now in
    let count : c.len-count.result ≡ length r.live.items = omega (arith, r.live.ok.0) in
    let low : c.choose-place.result < length r.live.items = omega arith in
    let read = ahead r c.len-count.result _ count c.choose-place.ensures.place c.choose-place.ensures.at c.requires.ready in
    let left : c.len.result ≡ length c.remove-seat.new.self.items =
    omega (arith, c.remove-seat.new.self.ok.0) in
    come_on r g come c.requires.live _ c.choose-place.result _ c.requires.one read
    (λ first others all. c.choose-place.ensures.chosen g.left first others (count
    ∙ all)) c.step-turn.ensures.state refl _
    (live_after r.core.state r.live.items c.choose-place.result _ c.requires.live low read _ true
    c.step-turn.ensures.state
    (λ v there. sym c.if-is_end.true ∙ c.is_end.ensures ∙ ap is_end (c.place.ensures v there)))
    (c.leave.ensures.stands g.left r.live.items low (left ∙ ap length c.remove-seat.ensures.items)
    (ascend r g come c.requires.live)
    (c.choose-place.ensures.left g.left r.live.items count (ascend r g come c.requires.live)
    (stands r g come c.requires.live)))

pub returns-else-is_end-clause-live : goal.returns-else-is_end-clause-live
returns-else-is_end-clause-live c =
    let r = c.args.self.now in
    let count : c.len-count.result ≡ length r.live.items = omega (arith, r.live.ok.0) in
    let read = ahead r c.len-count.result _ count c.choose-place.ensures.place c.choose-place.ensures.at c.requires.ready in
    sym (live_after r.core.state r.live.items c.choose-place.result _ c.requires.live
    (omega arith) read _ false c.step-turn.ensures.state
    (λ v there. sym c.if-is_end.false ∙ c.is_end.ensures ∙ ap is_end (c.place.ensures v there)))

pub returns-else-is_end-clause-come : goal.returns-else-is_end-clause-come
returns-else-is_end-clause-come c g come =
    let r = c.args.self.now in
    let count : c.len-count.result ≡ length r.live.items = omega (arith, r.live.ok.0) in
    let low : c.choose-place.result < length r.live.items = omega arith in
    let read = ahead r c.len-count.result _ count c.choose-place.ensures.place c.choose-place.ensures.at c.requires.ready in
    come_on r g come c.requires.live _ c.choose-place.result _ c.requires.one read
    (λ first others all. c.choose-place.ensures.chosen g.left first others (count
    ∙ all)) c.step-turn.ensures.state refl _
    (live_after r.core.state r.live.items c.choose-place.result _ c.requires.live low read _ false
    c.step-turn.ensures.state
    (λ v there. sym c.if-is_end.false ∙ c.is_end.ensures ∙ ap is_end (c.place.ensures v there)))
    (c.choose-place.ensures.left g.left r.live.items count (ascend r g come c.requires.live)
    (stands r g come c.requires.live))
