use Rattle.std.proofs.Common.{◌≡◌, ◌+◌, length, sym, ap, subst, ◌∙◌, arith}
use Rattle.mako_shape.specs.declared.numbers.Numbers.{Numbers}
use Rattle.mako_script.specs.Scripts.{ScriptView, IsProper, command_count}
use Rattle.mako_core.proofs.Starting.{opening_is, opened}
use Rattle.mako_core.proofs.core_state.Core.start.Goals as goal

pub count_points-points-requires : goal.count_points-points-requires
count_points-points-requires g c =
    let counted : command_count c.as_slice-programs.result.now ≡ command_count c.script.inside.programs.items =
    ap command_count c.as_slice-programs.ensures.value in
    let few = c.script.invariant.commands in omega (arith, counted, few)

pub returns-clause-opening : goal.returns-clause-opening
returns-clause-opening g c =
    opening_is c.args.script.now _ _ _ c.in_ok-words.ensures c.in_ok-seats.ensures c.in_ok-journal.ensures.empty

pub returns-clause-holds : goal.returns-clause-holds
returns-clause-holds g c =
    let s = c.args.script.now in
    opened c.of.result.value s _ c.of.ensures
    (opening_is s _ _ _ c.in_ok-words.ensures c.in_ok-seats.ensures c.in_ok-journal.ensures.empty)
    (subst IsProper c.script.view_is c.script.invariant)

pub invariant_of-result : goal.invariant_of-result
invariant_of-result g c =
    let s = c.args.script.now in
    let state_is = opening_is s _ _ _ c.in_ok-words.ensures c.in_ok-seats.ensures c.in_ok-journal.ensures.empty in
    let programs : c.as_slice-programs.result.now ≡ s.programs = c.as_slice-programs.ensures.value
    ∙ ap (λ (t : ScriptView). t.programs) c.script.view_is in
    let counted : command_count c.as_slice-programs.result.now ≡ command_count s.programs = ap command_count programs in
    let room = c.in_ok-journal.ensures.room in
    let cycles = ap (λ (n : Numbers). n.cycles) (c.numbers.ensures.numbers
    ∙ ap (λ (t : ScriptView). t.numbers) c.script.view_is) in
    let listed : length c.as_slice-programs.result.now ≡ length c.of.result.value.programs =
    ap length (programs ∙ ap (λ (t : ScriptView). t.programs) (sym c.of.ensures)) in
    record {
      shape_is = ap (λ (t : ScriptView). t.numbers) (c.script.view_is ∙ sym c.of.ensures);
      stands = opened c.of.result.value s _ c.of.ensures state_is (subst IsProper c.script.view_is c.script.invariant);
      room_is =
          let few = ap (λ (t : ScriptView). command_count t.programs + t.numbers.cycles) c.of.ensures in
          omega (arith, few, room, c.count_points-points.ensures, counted, cycles);
      lists_are = c.in-Ok.ensures.items;
      lists_fit = omega (arith, c.in-Ok.ensures.exact, listed);
    }
