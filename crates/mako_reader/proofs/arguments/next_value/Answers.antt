use Rattle.std.proofs.Common.{◌≡◌, [], ℕ, List, get_or, ap, subst, sym, ◌∙◌}
use Rattle.mako_text.specs.Names.{texts}
use Rattle.mako_reader.specs.Commands.{IsValueOf, ReadsWord}
use Rattle.mako_reader.specs.Words.{IsFirstWord, words_behind}
use Rattle.mako_reader.proofs.Values.{stops}
use Rattle.mako_reader.proofs.arguments.next_value.Goals as goal

pub returns-in_err-word : goal.returns-in_err-word
returns-in_err-word c =
    let words = words_behind c.args.rest.now in
    (stops _ c.from_residual.result _ c.from_residual.ensures.1 (IsFirstWord words)
    (ReadsWord (texts c.args.names.now) c.args.kind words)
    (λ x reads. ((reads.0, x.1), reads.1)) c.in_err-word.ensures.read)

pub returns-in_err-argument : goal.returns-in_err-argument
returns-in_err-argument c =
    let words = words_behind c.args.rest.now in
    let names = texts c.args.names.now in
    (stops _ c.from_residual-in_err-argument.result _ c.from_residual-in_err-argument.ensures.1
    (IsValueOf names c.args.kind c.in_ok-word.word.now) (ReadsWord names c.args.kind words)
    (λ x reads. (let same : reads.0 ≡ c.in_ok-word.word.now = ap (λ (ws : List (List ℕ)). get_or ws 0 []) (sym reads.1
    ∙ c.in_ok-word.ensures.read) in
    (x.0, subst (λ (w : List ℕ). IsValueOf names c.args.kind w x.0) same reads.2))) c.in_err-argument.ensures)

pub returns : goal.returns
returns c = (c.in_ok-word.word.now, c.in_ok-word.ensures.read, c.in_ok-argument.ensures)
