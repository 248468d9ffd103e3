use Rattle.std.proofs.Common.{◌++◌, ◌∷◌, [], List, sym, ap, ◌∙◌, append_assoc}
use Rattle.mako_seat.specs.declared.seat.Seat.{Seat}
use Rattle.mako_seat.specs.declared.seat.Seat.TheVariants.{Server}
use Rattle.mako_state.specs.Openings.{servers_from}
use Rattle.mako_core.proofs.Starting.{servers_more}
use Rattle.mako_core.proofs.opening_seats.with_servers.Goals as goal

pub loop-server-preserved : goal.loop-server-preserved
loop-server-preserved c =
    let n = c.args.shape in
    let s = c.loop-server.server in
    c.in-Ok.ensures.items
    ∙ ap (λ (xs : List Seat). xs ++ Server c.in_ok-machine.machine ∷ []) c.loop-server.invariant
    ∙ ap (λ v. (c.args.seats.items ++ servers_from n 0 s) ++ Server v ∷ []) c.in_ok-machine.ensures
    ∙ append_assoc c.args.seats.items (servers_from n 0 s) _
    ∙ ap (λ (xs : List Seat). c.args.seats.items ++ xs) (sym (servers_more n s))
