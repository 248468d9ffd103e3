use Rattle.std.proofs.Common.{◌≡◌, List, length, map, refl, Ok, Err, Vec, Global}
use Rattle.std.specs.List.{flat_map, range_with_len}
use Rattle.std.proofs.lemmas.Result.{err_from_is_err_and}
use Rattle.mako_model.specs.declared.reply.Reply.{Reply}
use Rattle.mako_model.specs.declared.outcome.Outcome.{Outcome}
use Rattle.mako_model.specs.Fronts.{FollowsPrograms}
use Rattle.mako_model.specs.Outcomes.{IsWhole, reply_lists}
use Rattle.mako_text.specs.Programs.{ProgramView}
use Rattle.mako_text.specs.Outputs.{mutator_text}
use Rattle.mako_text.specs.Written.{sections_text}
use Rattle.mako_text.proofs.Progress.{both, first, output_sections}
use Rattle.mako_text.proofs.writer.OutputWriter.output.Goals as goal

-- what the sections of the lists of replies print
sections_are : (programs : List ProgramView) (o : Outcome) (lists : List (Vec Reply Global))
    → map (λ v. v.items) lists ≡ reply_lists o → IsWhole o → length (reply_lists o) ≡ length programs
    → FollowsPrograms (map (λ p. p.calls) programs) o.front.history
    → sections_text 0 (map (λ p. p.calls) programs) (map (λ v. v.items) lists) ≡ flat_map
    (mutator_text o.front.history) (range_with_len 0 (length programs))
sections_are programs o lists same whole many follows = rw same (output_sections programs o whole many follows)

pub returns-in_err-sections-clause-written : goal.returns-in_err-sections-clause-written
returns-in_err-sections-clause-written g c =
    let p = err_from_is_err_and c.from_residual.result c.from_residual.ensures.1 in
    let sections_is = sections_are c.args.programs.now c.args.outcome.now c.deref.result.now
    (rw c.deref.ensures.value refl) c.requires.whole c.requires.lists c.requires.follows in
    let s = rw sections_is at c.in_err-sections.ensures.written in
    let fault = c.in_err-sections.field-0.0 in
    rw (p.1, p.2) (first g.K.Sink.taken _ _ c.args.self.now c.sections.new.self fault
    (first g.K.Sink.taken _ _ c.args.self.now c.sections.new.self fault s))

pub returns-in_err-cycles-clause-written : goal.returns-in_err-cycles-clause-written
returns-in_err-cycles-clause-written g c =
    let p = err_from_is_err_and c.from_residual-in_err-cycles.result c.from_residual-in_err-cycles.ensures.1 in
    let sections_is = sections_are c.args.programs.now c.args.outcome.now c.deref.result.now
    (rw c.deref.ensures.value refl) c.requires.whole c.requires.lists c.requires.follows in
    let s = rw sections_is at c.in_ok-sections.ensures.written in
    let t = rw c.requires.freed at c.in_err-cycles.ensures.written in
    let fault = c.in_err-cycles.field-0.0 in
    rw (p.1, p.2) (first g.K.Sink.taken _ _ c.args.self.now c.cycles.new.self fault
    (both g.K.Sink.taken _ _ c.args.self.now c.sections.new.self c.cycles.new.self (Err fault) s t))

pub returns-clause-written : goal.returns-clause-written
returns-clause-written g c =
    let sections_is = sections_are c.args.programs.now c.args.outcome.now c.deref.result.now
    (rw c.deref.ensures.value refl) c.requires.whole c.requires.lists c.requires.follows in
    let s = rw sections_is at c.in_ok-sections.ensures.written in
    let t = rw c.requires.freed at c.in_ok-cycles.ensures.written in
    let l = rw c.last_bytes.ensures at c.piece.ensures.written in
    both g.K.Sink.taken _ _ c.args.self.now c.cycles.new.self c.piece.new.self c.piece.result
    (both g.K.Sink.taken _ _ c.args.self.now c.sections.new.self c.cycles.new.self (Ok c.in_ok-cycles.field-0) s t) l
