use Rattle.std.proofs.Common.{Bool, arith, ◌≡◌, ◌∷◌, ℕ, List, sym, ap, subst, ◌∙◌}
use Rattle.mako_text.specs.Names.{texts}
use Rattle.mako_text.specs.declared.command.Argument.{Argument}
use Rattle.mako_text.specs.declared.command.Command.{Command}
use Rattle.mako_text.specs.Commands.{FitCall, call_of, kinds_of}
use Rattle.mako_reader.specs.Commands.{AreValuesOf, DefinesFirst, IsCommandLine}
use Rattle.mako_reader.specs.Words.{words_behind, words_of}
use Rattle.mako_reader.proofs.Values.{arguments_fit, line_parts, stops}
use Rattle.mako_reader.proofs.arguments.command.Goals as goal

pub returns-in_err-values : goal.returns-in_err-values
returns-in_err-values c =
    let words = words_of c.args.line.now in
    let names = texts c.args.names.now in
    let behind = words_behind c.split_word.result.1.now in
    (stops _ c.from_residual.result _ c.from_residual.ensures.1
    (AreValuesOf names c.arguments.result.now behind) (IsCommandLine c.args.roots names words)
    (λ read line. (
      line.values,
      subst (λ (kinds : List Argument). AreValuesOf names kinds behind line.values) (sym c.arguments.ensures)
          (line_parts c.args.roots names words c.split_word.result.0.now behind c.in-Some.command read
          c.split_word.ensures c.in-Some.ensures.some line).0,
    )) c.in_err-values.ensures)

pub returns-in_err-define_first : goal.returns-in_err-define_first
returns-in_err-define_first c =
    let words = words_of c.args.line.now in
    let names = texts c.args.names.now in
    let behind = words_behind c.split_word.result.1.now in
    (stops _ c.from_residual-in_err-define_first.result _ c.from_residual-in_err-define_first.ensures.1
    (DefinesFirst c.defines.result c.args.roots names behind) (IsCommandLine c.args.roots names words)
    (λ read line. (
      read.1,
      subst (λ (b : Bool). DefinesFirst b c.args.roots names behind read.1) (sym c.defines.ensures)
          (line_parts c.args.roots names words c.split_word.result.0.now behind c.in-Some.command read
          c.split_word.ensures c.in-Some.ensures.some line).1,
    )) c.in_err-define_first.ensures)

-- the values are those of the command's arguments
are : (names behind : List (List ℕ)) (kinds : List Argument) (command : Command) (values : List ℕ)
    → kinds ≡ kinds_of command → AreValuesOf names kinds behind values
    → AreValuesOf names (kinds_of command) behind values
are names behind kinds command values same each =
    subst (λ (ks : List Argument). AreValuesOf names ks behind values) same each

pub call-requires : goal.call-requires
call-requires c =
    let names = texts c.args.names.now in
    let behind = words_behind c.split_word.result.1.now in
    let each = are names behind c.arguments.result.now c.in-Some.command c.in_ok-values.values.items
    c.arguments.ensures c.in_ok-values.ensures in
    subst (FitCall c.in-Some.command) (sym c.deref.ensures.0)
    (arguments_fit c.in-Some.command names behind c.in_ok-values.values.items each
    (omega (arith, c.requires)))

pub returns : goal.returns
returns c =
    let names = texts c.args.names.now in
    let behind = words_behind c.split_word.result.1.now in
    let word = c.split_word.result.0.now in
    record {
      command = c.in-Some.command;
      behind = behind;
      values = c.in_ok-values.values.items;
      words_are = c.split_word.ensures ∙ ap (λ (w : List ℕ). w ∷ behind) c.in-Some.ensures.some;
      are = are names behind c.arguments.result.now c.in-Some.command c.in_ok-values.values.items
          c.arguments.ensures c.in_ok-values.ensures;
      call_is = c.call.ensures ∙ ap (call_of c.in-Some.command) c.deref.ensures.0;
      next = subst (λ (b : Bool). DefinesFirst b c.args.roots names behind
          (texts c.define_first.new.names)) c.defines.ensures c.in_ok-define_first.ensures;
    }
