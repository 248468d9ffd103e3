use Rattle.std.proofs.Common.{◌≡◌, [], false, true≢false, List, ℕ, Option, Some, None, get_or, sym, ap, subst, ◌∙◌}
use Rattle.std.specs.Str.{bytes_eq}
use Rattle.std.proofs.lemmas.Slice.Eq.{bytes_eq-Decides}
use Rattle.mako_model.specs.declared.call.Call.{Call}
use Rattle.mako_text.specs.Names.{texts}
use Rattle.mako_text.specs.Texts.{end_word}
use Rattle.mako_reader.specs.Commands.{IsCommandLine, IsStep}
use Rattle.mako_reader.specs.Words.{IsFirstLine, lines_of, words_of}
use Rattle.mako_reader.proofs.Values.{stops}
use Rattle.mako_reader.proofs.section.next_command.Goals as goal

its_line : (roots : ℕ) (names lines : List (List ℕ)) (s : Option Call × List (List ℕ) × List (List ℕ))
    → IsStep roots names lines s → (read : List ℕ × List (List ℕ)) × IsFirstLine lines read
its_line roots names lines (None, after, left) is = ((end_word, left), (is.0, is.2))
its_line roots names lines (Some call, after, left) is = ((is.0, left), (is.1, is.4))

its_command : (roots : ℕ) (names lines : List (List ℕ)) (line : List ℕ) (left : List (List ℕ))
    → IsFirstLine lines (line, left) → bytes_eq line end_word ≡ false
    → (s : Option Call × List (List ℕ) × List (List ℕ)) → IsStep roots names lines s → (read : Call × List (List ℕ))
    × IsCommandLine roots names (words_of line) read
its_command roots names lines line left first other (None, after, rest) is =
    let same : line ≡ end_word = ap (λ (ls : List (List ℕ)). get_or ls 0 []) (sym first.0 ∙ is.0) in
    absurd (true≢false (sym ((bytes_eq-Decides line end_word).1 same) ∙ other))
its_command roots names lines line left first other (Some call, after, rest) is =
    let same : is.0 ≡ line = ap (λ (ls : List (List ℕ)). get_or ls 0 []) (sym is.1 ∙ first.0) in
    ((call, after), subst (λ (l : List ℕ). IsCommandLine roots names (words_of l) (call, after)) same is.3)

pub returns-in_err-line-clause-read : goal.returns-in_err-line-clause-read
returns-in_err-line-clause-read c =
    let lines = lines_of c.args.text.now in
    let names = texts c.args.names.now in
    (stops _ c.from_residual.result _ c.from_residual.ensures.1 (IsFirstLine lines) (IsStep c.args.roots names lines)
    (its_line c.args.roots names lines) c.in_err-line.ensures.read)

pub returns-in_err-command-clause-read : goal.returns-in_err-command-clause-read
returns-in_err-command-clause-read c =
    let lines = lines_of c.args.text.now in
    let names = texts c.args.names.now in
    let line = c.in_ok-line.line.now in
    let other : bytes_eq line end_word ≡ false = ap (bytes_eq line) (sym c.as_slice.ensures) ∙ sym c.eq.ensures
    ∙ c.if-eq.false in
    (stops _ c.from_residual-in_err-command.result _ c.from_residual-in_err-command.ensures.1
    (IsCommandLine c.args.roots names (words_of line)) (IsStep c.args.roots names lines)
    (its_command c.args.roots names lines line (lines_of c.in_ok-line.rest.now) c.in_ok-line.ensures.read other)
    c.in_err-command.ensures)
