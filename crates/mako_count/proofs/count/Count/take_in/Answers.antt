use Rattle.std.proofs.Common.{◌≡◌, ◌∙◌, ap, sym, subst, arith, [], ◌<◌}
use Rattle.mako_count.specs.Views.{met_with, IsPollers, Seated}
use Rattle.mako_count.specs.declared.views.View.{View}
use Rattle.mako_count.proofs.Seats.{joins, still_pollers}
use Rattle.mako_count.proofs.Meets.{meets}
use Rattle.mako_count.proofs.count.Count.take_in.Goals as goal

pub join_seat-requires : goal.join_seat-requires
join_seat-requires c =
    let count = c.args.self.now in
    let wide : 0 < count.table.shared.table_id.words = omega (arith, count.some, count.layout) in (
      c.requires.table.0,
      c.requires.table.1,
      ap (λ (m : Seated). m.1) c.requires.worker,
      wide,
      joins count.table.shared.key _ _ _ _ c.requires.poller c.requires.worker,
    )

pub load-requires : goal.load-requires
load-requires c =
    let count = c.args.self.now in
    let wide : 0 < count.table.shared.table_id.words = omega (arith, count.some, count.layout) in
    let e = c.join_seat.ensures in
    let slots : c.args.seat.now.me.1 ≡ [] = ap (λ (m : Seated). m.1) c.requires.poller in
    let v : View = met_with c.args.seat.now.me.0 c.args.other.me.0 in let is : c.join_seat.new.seat.me ≡ (v, []) = e.2
    ∙ (λ i. (v, slots i)) in (
      e.0 ∙ c.requires.table.0,
      wide,
      meets count.table.shared.key _ _ c.join_seat.new.seat.me
          (subst (λ (m : Seated). IsPollers m) (sym is)
          (still_pollers c.args.seat.now.me c.args.other.me c.requires.poller c.requires.worker)),
    )
