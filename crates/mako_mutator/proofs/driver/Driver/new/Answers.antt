use Rattle.std.proofs.Common.{◌≡◌, ◌<◌, ◌≤◌, List, [], Some, length, slice_get, vec_len, ap, subst, sym, ◌∙◌, refl}
use Rattle.std.proofs.Common.{arith}
use Rattle.std.proofs.lemmas.Option.{slice_get_read}
use Rattle.mako_model.specs.declared.call.Call.{Call}
use Rattle.mako_model.specs.declared.reply.Reply.{Reply}
use Rattle.mako_script.specs.Programs.{ProgramView}
use Rattle.mako_script.specs.Scripts.{ScriptView}
use Rattle.mako_call.specs.declared.caller.Caller.{Caller}
use Rattle.mako_mutator.specs.declared.progress.Progress.{Progress}
use Rattle.mako_mutator.specs.Drivers.{begun, AreFitting, IsKnown}
use Rattle.mako_mutator.proofs.ProgramCalls.{program_fits, few_calls, caller_of}
use Rattle.mako_mutator.proofs.DriverGoing.{opening_known}
use Rattle.mako_mutator.proofs.driver.Driver.new.Goals as goal

pub begun-progress-requires-clause-calls : goal.begun-progress-requires-clause-calls
begun-progress-requires-clause-calls c =
    let s : ScriptView = record {
      numbers = c.script.inside.shape;
      board = c.script.inside.board;
      programs = c.script.inside.programs.items;
    } in
    let program = c.index-program.result.now in
    let small : c.args.mutator < length s.programs =
    subst (λ (t : ScriptView). c.args.mutator < length t.programs) (sym c.script.view_is) c.requires in
    let at : slice_get s.programs c.args.mutator ≡ Some program =
    slice_get_read s.programs (length s.programs) c.args.mutator program refl small c.index-program.ensures in
    let calls_are : c.as_slice-2.result.now ≡ program.calls =
    c.as_slice-2.ensures.value ∙ c.in-Ok.ensures.items ∙ c.as_slice.ensures.value
    ∙ ap (λ (p : ProgramView). p.calls) c.program.view_is in
    subst (λ (calls : List Call). AreFitting s.numbers calls) (sym calls_are)
    (program_fits s c.args.mutator program c.script.invariant at)

pub invariant_of-result : goal.invariant_of-result
invariant_of-result c =
    let s : ScriptView = record {
      numbers = c.script.inside.shape;
      board = c.script.inside.board;
      programs = c.script.inside.programs.items;
    } in
    let k : Caller = record { shape = s.numbers; mutator = c.args.mutator } in
    let program = c.index-program.result.now in
    let proper = c.script.invariant in
    let small : c.args.mutator < length s.programs =
    subst (λ (t : ScriptView). c.args.mutator < length t.programs) (sym c.script.view_is) c.requires in
    let at : slice_get s.programs c.args.mutator ≡ Some program =
    slice_get_read s.programs (length s.programs) c.args.mutator program refl small c.index-program.ensures in
    let calls_are : c.in-Ok.calls.items ≡ program.calls = c.in-Ok.ensures.items ∙ c.as_slice.ensures.value
    ∙ ap (λ (p : ProgramView). p.calls) c.program.view_is in
    let fitting = subst (λ (calls : List Call). AreFitting s.numbers calls) (sym calls_are)
    (program_fits s c.args.mutator program proper at) in
    let few = subst (λ (calls : List Call). length calls ≤ 1048576) (sym calls_are)
    (few_calls s c.args.mutator program proper at) in
    let opened = opening_known k c.in-Ok.calls.items (caller_of s c.args.mutator proper small) fitting few in
    let progress_is : c.begun-progress.result ≡ begun k c.in-Ok.calls.items = c.begun-progress.ensures
    ∙ ap (begun k) c.as_slice-2.ensures.value in
    let replies_are : c.in-Ok-with_capacity.replies.items ≡ [] = c.in-Ok-with_capacity.ensures.items in
    let At : Progress → Type 0 =
    λ p. IsKnown (record { caller = k; calls = c.in-Ok.calls.items; replies = []; progress = p }) in
    let With : List Reply
    → Type 0 = λ rs. IsKnown (record {
      caller = k;
      calls = c.in-Ok.calls.items;
      replies = rs;
      progress = c.begun-progress.result;
    }) in
    let length_of : length c.in-Ok.calls.items ≡ vec_len c.in-Ok.calls = ap length c.in-Ok.ensures.items
    ∙ sym c.in-Ok.ensures.len in
    record {
      known = subst With (sym replies_are) (subst At (sym progress_is) opened);
      room = omega (arith, length_of, c.in-Ok-with_capacity.ensures.exact, c.len.ensures);
    }
