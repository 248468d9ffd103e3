use Rattle.std.proofs.Common.{map, take}
use Rattle.std.specs.Prelude.{IfNone, IfSome}
use Rattle.mako_script.specs.CommandLines.{AreArguments, IsLeastFault}
use Rattle.mako_script.proofs.check.arguments_fault.Given as goal

abbrev pub invariant-loop-i : goal.invariant-loop-i
invariant-loop-i l = record {
  none : IfNone l.first
      (AreArguments (map (λ name. name.now) l.names) l.roots (take l.i l.kinds) (map (λ word. word.now) l.words));
  some : IfSome l.first
      (IsLeastFault (map (λ name. name.now) l.names) l.roots (take l.i l.kinds) (map (λ word. word.now) l.words));
}
