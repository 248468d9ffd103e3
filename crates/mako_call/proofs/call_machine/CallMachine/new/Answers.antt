use Rattle.mako_call.proofs.FirstStages.{first_known}
use Rattle.mako_call.proofs.call_machine.CallMachine.new.Goals as goal

pub invariant_of-result : goal.invariant_of-result
invariant_of-result c =
    rw c.first.ensures
    (first_known (record {
      shape = c.args.shape;
      mutator = c.args.mutator;
    }) c.args.call c.args.last c.args.keep.asked c.args.keep.barrier_at
    (record {
      shape = c.numbers-numbers.ensures.shape;
      mutator = c.requires.mutator;
    }) c.requires.call c.requires.asked c.requires.barrier)
