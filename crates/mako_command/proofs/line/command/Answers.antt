use Rattle.std.proofs.Common.{◌≡◌, ◌∙◌, ◌+◌, ◌<◌, ◌||◌, ◌++◌, length, [], ◌∷◌, List, Bor, ℕ, map, take, get_or, false}
use Rattle.std.proofs.Common.{true, sym, ap, ap₂}
use Rattle.std.proofs.lemmas.List.{take_more, map-append}
use Rattle.clap.specs.Words.{App, Rule, Text, rule_of, with_rule}
use Rattle.clap.specs.Walk.{texts}
use Rattle.clap.specs.declared.builder.arg.Arg.{Arg}
use Rattle.mako_command.specs.Tables.{argument, command}
use Rattle.mako_command.proofs.line.command.Goals as goal

abbrev made : Text → List Rule → App
made name rules = record { top = record (command name []) { rules = rules }; subs = [] }

abbrev arguments : List (Bor Text) → List Rule
arguments ids = map argument (texts ids)

more : (ids : List (Bor Text)) (i : ℕ) (d : Bor Text) → i < length ids
    → arguments (take (i + 1) ids) ≡ arguments (take i ids) ++ argument (get_or ids i d).now ∷ []
more ids i d lt =
    ap arguments (take_more ids i d lt)
    ∙ ap (map argument) (map-append (λ (s : Bor Text). s.now) (take i ids) (get_or ids i d ∷ []))
    ∙ map-append argument (texts (take i ids)) ((get_or ids i d).now ∷ [])

pub loop-id-preserved : goal.loop-id-preserved
loop-id-preserved c =
    let adds = c.in_ok-command.ensures in
    let local : c.required.result.global ≡ false = ap (λ (a : Arg). a.global) c.required.ensures
    ∙ c.new.ensures.optional.1 in
    let rule = ap rule_of c.required.ensures ∙ ap (λ (r : Rule). record r { required = true }) c.new.ensures.rule in (
      adds.shape local ∙ ap₂ with_rule c.loop-id.invariant.0 rule
          ∙ ap (made c.args.name.now) (sym (more c.args.ids.now c.loop-id.id-index _ c.loop-id-test.true)),
      adds.globals ∙ ap₂ (λ a b. a || b) c.loop-id.invariant.1 local,
    )
