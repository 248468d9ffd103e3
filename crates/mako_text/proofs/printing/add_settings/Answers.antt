use Rattle.std.proofs.Common.{◌++◌, ℕ, List, [], map, arith, ap, sym, ◌∙◌, get_or}
use Rattle.std.proofs.lemmas.List.{length-map, get_or-map}
use Rattle.mako_text.specs.declared.keys.Key.{Key}
use Rattle.mako_text.specs.Texts.{line_text, setting_words}
use Rattle.mako_text.proofs.PrintedTexts.{pair_goes_on, pairs_gone}
use Rattle.mako_text.proofs.printing.add_settings.Goals as goal

abbrev key_word : Key → List ℕ
key_word key = key.word.now

pub loop-i-preserved : goal.loop-i-preserved
loop-i-preserved c =
    let table = c.args.table.now in
    let none : Key = record { word = record { ref_ptr = (0, 0); now = [] }; low = 0; high = 0 } in
    let value = get_or c.args.values.now c.loop-i.i 0 in
    pair_goes_on (λ s. line_text (setting_words s)) (map key_word table) c.args.values.now c.loop-i.i [] 0
    c.loop-i.text.items c.add_setting.new.text.items _ (omega (arith, length-map table key_word, c.requires))
    (omega (arith, length-map table key_word)) c.loop-i.invariant
    (c.in_ok-add_setting.ensures
    ∙ ap (λ (word : List ℕ). c.loop-i.text.items ++ line_text (setting_words (word, value)))
    (sym (get_or-map key_word table c.loop-i.i none [] c.loop-i-test.true)))

pub returns : goal.returns
returns c =
    pairs_gone (λ s. line_text (setting_words s)) (map key_word c.args.table.now) c.args.values.now c.loop-i.i
    c.loop-i.text.items _ (omega (arith, length-map c.args.table.now key_word, c.loop-i-test.false)) c.loop-i.invariant
