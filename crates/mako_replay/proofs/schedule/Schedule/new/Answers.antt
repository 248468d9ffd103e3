use Rattle.std.proofs.Common.{subst, sym}
use Rattle.mako_replay.specs.Schedules.{left_at_start}
use Rattle.mako_replay.specs.Standing.{IsAhead, StandsFor}
use Rattle.mako_replay.specs.declared.order.Order.{Order}
use Rattle.mako_replay.specs.declared.schedule.Schedule.TheVariants as schedules
use Rattle.mako_replay.proofs.Places.{first_place}
use Rattle.mako_replay.proofs.schedule.Schedule.new.Goals as goal

pub returns-in-Turns : goal.returns-in-Turns
returns-in-Turns c = record {
  stands = λ live count. subst (λ (o : Order). StandsFor (schedules.Turns 0) (left_at_start o) live) (sym c.in-Turns.is)
      (first_place live);
  drawn = tt;
}
