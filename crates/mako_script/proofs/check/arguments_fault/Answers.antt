use Rattle.std.proofs.Common.{◌+◌, [], List, ℕ, Bor, map, sym, subst, arith}
use Rattle.std.proofs.lemmas.List.{get_or-map}
use Rattle.std.proofs.lemmas.Option.{slice_get-get_or}
use Rattle.mako_script.proofs.FirstArguments.{next_word, so_far, word_is, none_told, some_told, Arguments}
use Rattle.mako_script.proofs.check.arguments_fault.Goals as goal

abbrev word_now : Bor (List ℕ) → List ℕ
word_now w = w.now

pub loop-i-preserved : goal.loop-i-preserved
loop-i-preserved c =
    let names = map word_now c.args.names.now in
    let words = map word_now c.args.words.now in
    let kinds = c.args.kinds.now in
    let i = c.loop-i.i in
    let here = slice_get-get_or kinds i _ c.loop-i-test.true in
    let word = get_or-map word_now c.args.words.now i (record { ref_ptr = (0, 0); now = [] }) []
    (omega (arith, c.requires, c.loop-i-test.true)) in
    let before = so_far names c.args.roots kinds words i _ here c.loop-i.first c.loop-i.invariant.none
    c.loop-i.invariant.some in
    let now = word_is names c.args.roots kinds words i _ here c.argument_fault.result _ word
    c.argument_fault.ensures.none c.argument_fault.ensures.some in
    let next = next_word names c.args.roots kinds words i _ here c.loop-i.first c.argument_fault.result before now in
    let told = subst (Arguments names c.args.roots kinds words i _ here (i + 1)) (sym c.earlier-first.ensures) next in
    record {
      none = none_told names c.args.roots kinds words i _ here c.earlier-first.result told;
      some = some_told names c.args.roots kinds words i _ here c.earlier-first.result told;
    }
