use Rattle.std.proofs.Common.{◌++◌, ◌∷◌, [], List, ℕ, Ok, Err}
use Rattle.std.specs.Prelude.{codes}
use Rattle.std.specs.List.{flat_map}
use Rattle.std.specs.Fmt.{decimal}
use Rattle.std.proofs.lemmas.Result.{err_from_is_err_and}
use Rattle.mako_text.specs.Outputs.{freed_text}
use Rattle.mako_text.proofs.Progress.{both, first}
use Rattle.mako_text.proofs.writer.OutputWriter.cycle.Goals as goal

pub returns-in_err-piece-clause-written : goal.returns-in_err-piece-clause-written
returns-in_err-piece-clause-written g c =
    let p = err_from_is_err_and c.from_residual.result c.from_residual.ensures.1 in
    let head : List ℕ = codes "cycle " ++ decimal c.args.cycle ++ codes " freed" in
    let names : List ℕ = flat_map freed_text c.args.names.now in
    let fault = c.in_err-piece.field-0.0 in
    let piece = rw (c.deref.ensures.0, c.cycle_head.ensures) at c.in_err-piece.ensures.written in
    rw (p.1, p.2) (first g.K.Sink.taken (head ++ names) (10 ∷ []) c.args.self.now c.piece.new.self fault
    (first g.K.Sink.taken head names c.args.self.now c.piece.new.self fault piece))

pub returns-in_err-names-clause-written : goal.returns-in_err-names-clause-written
returns-in_err-names-clause-written g c =
    let p = err_from_is_err_and c.from_residual-in_err-names.result c.from_residual-in_err-names.ensures.1 in
    let head : List ℕ = codes "cycle " ++ decimal c.args.cycle ++ codes " freed" in
    let names : List ℕ = flat_map freed_text c.args.names.now in
    let fault = c.in_err-names.field-0.0 in
    let piece = rw (c.deref.ensures.0, c.cycle_head.ensures) at c.in_ok-piece.ensures.written in
    rw (p.1, p.2) (first g.K.Sink.taken (head ++ names) (10 ∷ []) c.args.self.now c.names.new.self fault
    (both g.K.Sink.taken head names c.args.self.now c.piece.new.self c.names.new.self (Err fault) piece
    c.in_err-names.ensures.written))

pub returns-clause-written : goal.returns-clause-written
returns-clause-written g c =
    let head : List ℕ = codes "cycle " ++ decimal c.args.cycle ++ codes " freed" in
    let names : List ℕ = flat_map freed_text c.args.names.now in
    let piece = rw (c.deref.ensures.0, c.cycle_head.ensures) at c.in_ok-piece.ensures.written in
    both g.K.Sink.taken (head ++ names) (10 ∷ []) c.args.self.now c.names.new.self c.piece-2.new.self c.piece-2.result
    (both g.K.Sink.taken head names c.args.self.now c.piece.new.self c.names.new.self (Ok c.in_ok-names.field-0) piece
    c.in_ok-names.ensures.written) c.piece-2.ensures.written
