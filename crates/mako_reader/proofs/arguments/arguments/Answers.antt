use Rattle.std.proofs.Common.{◌≤◌, [], ℕ, List, length, take, subst, sym, ap, arith}
use Rattle.std.proofs.lemmas.List.{get_or_default, take_all}
use Rattle.mako_text.specs.Names.{texts}
use Rattle.mako_text.specs.declared.command.Argument.{Argument}
use Rattle.mako_reader.specs.Commands.{AreValuesOf, ReadsWord}
use Rattle.mako_reader.specs.Finds.{ReadsEach}
use Rattle.mako_reader.specs.Words.{words_behind}
use Rattle.mako_reader.proofs.Lists.{each_more, each_refused, same_each}
use Rattle.mako_reader.proofs.Splits.{no_words, some_words}
use Rattle.mako_reader.proofs.Values.{stops, same_word, values_from, values_to}
use Rattle.mako_reader.proofs.arguments.arguments.Goals as goal

pub returns-in_err-value : goal.returns-in_err-value
returns-in_err-value c =
    let names = texts c.args.names.now in
    let words = words_behind c.args.text.now in
    let e = c.in_err-value.field-0.0 in
    (stops _ c.from_residual.result _ c.from_residual.ensures.1 (ReadsEach (ReadsWord names) c.args.kinds.now words)
    (AreValuesOf names c.args.kinds.now words)
    (λ vs are. ((vs, []), values_from names c.args.kinds.now words vs are))
    (each_refused (ReadsWord names) (same_word names) e c.args.kinds.now c.loop-kind.kind-index _ words
    (words_behind c.loop-kind.rest.now) c.loop-kind.values.items c.loop-kind-test.true
    (get_or_default _ _ _ _ c.loop-kind-test.true) c.loop-kind.invariant.0 c.in_err-value.ensures))

pub loop-kind-preserved : goal.loop-kind-preserved
loop-kind-preserved c = (
  rw c.push.ensures.items
      (each_more (ReadsWord (texts c.args.names.now)) c.args.kinds.now c.loop-kind.kind-index _
      (words_behind c.args.text.now) (words_behind c.loop-kind.rest.now) (words_behind c.in_ok-value.after.now)
      c.loop-kind.values.items c.in_ok-value.value c.loop-kind-test.true
      (get_or_default _ _ _ _ c.loop-kind-test.true) c.loop-kind.invariant.0 c.in_ok-value.ensures),
  omega (arith, c.push.ensures.len, c.loop-kind.invariant.1),
)

-- the words of all kinds, up to what is left
all : (names : List (List ℕ)) (kinds : List Argument) (i : ℕ) (words left : List (List ℕ)) (values : List ℕ)
    → length kinds ≤ i → ReadsEach (ReadsWord names) (take i kinds) words (values, left)
    → ReadsEach (ReadsWord names) kinds words (values, left)
all names kinds i words left values past read =
    subst (λ (ks : List Argument). ReadsEach (ReadsWord names) ks words (values, left)) (take_all i kinds past) read

pub returns-then-is_empty : goal.returns-then-is_empty
returns-then-is_empty c =
    let none = no_words c.loop-kind.rest.now (sym c.if-is_empty.ensures) in
    values_to (texts c.args.names.now) c.args.kinds.now (words_behind c.args.text.now) c.loop-kind.values.items
    (subst (λ (left : List (List ℕ)). ReadsEach (ReadsWord (texts c.args.names.now)) c.args.kinds.now
    (words_behind c.args.text.now) (c.loop-kind.values.items, left)) none
    (all (texts c.args.names.now) c.args.kinds.now c.loop-kind.kind-index (words_behind c.args.text.now)
    (words_behind c.loop-kind.rest.now) c.loop-kind.values.items c.loop-kind-test.false c.loop-kind.invariant.0))

pub returns-else-is_empty : goal.returns-else-is_empty
returns-else-is_empty c = λ vs are.
    let names = texts c.args.names.now in
    let words = words_behind c.args.text.now in
    let read = all names c.args.kinds.now c.loop-kind.kind-index words
    (words_behind c.loop-kind.rest.now) c.loop-kind.values.items c.loop-kind-test.false c.loop-kind.invariant.0 in
    some_words c.loop-kind.rest.now (sym c.if-is_empty.ensures)
    (ap (λ (x : List ℕ × List (List ℕ)). x.1)
    (same_each (ReadsWord names) (same_word names) c.args.kinds.now words
    (c.loop-kind.values.items, words_behind c.loop-kind.rest.now) (vs, []) read
    (values_from names c.args.kinds.now words vs are)))
