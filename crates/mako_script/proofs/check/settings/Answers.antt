use Rattle.std.proofs.Common.{◌<◌, List, ℕ, Ok, Err, length, sym, ap, subst, arith}
use Rattle.std.proofs.lemmas.Result.{err_from_is_err_and}
use Rattle.std.proofs.lemmas.List.{length_push, length-map}
use Rattle.mako_script.specs.declared.fault.Kind.{Kind}
use Rattle.mako_script.specs.Checks.{HasSetting, HaveSettings, IsSettingLine}
use Rattle.mako_script.specs.Faults.{IsFirstFault}
use Rattle.mako_text.specs.Keys.{key_view}
use Rattle.mako_reader.specs.Words.{lines_of, words_of}
use Rattle.mako_script.proofs.Checked.{cut_first, settings_before, setting_line, with_setting, wrong_first, have_more}
use Rattle.mako_script.proofs.Checked.{key_is}
use Rattle.mako_script.proofs.check.settings.Goals as goal

pub returns-in_err-line-clause-fault : goal.returns-in_err-line-clause-fault
returns-in_err-line-clause-fault c =
    let p = err_from_is_err_and c.from_residual.result c.from_residual.ensures.1 in
    let text = c.args.lines.now.rest.now in
    let i = c.loop-key.key-index in
    let eleven : i < 11 =
    omega (arith, c.loop-key-test.true, ap length c.requires.table, length-map c.args.table.now key_view) in
    rw (p.1, p.2) (cut_first text i c.in_err-line.field-0.0.kind c.in_err-line.field-0.0.line
    (lines_of c.loop-key.lines.rest.now) eleven
    (omega (arith, c.in_err-line.ensures.fault.0, c.in_err-line.ensures.line, c.loop-key.invariant.line))
    (settings_before (lines_of text) c.loop-key.values.items i c.loop-key.invariant.count c.loop-key.invariant.read)
    c.loop-key.invariant.left c.in_err-line.ensures.fault.1)

pub returns-in-Err-clause-fault : goal.returns-in-Err-clause-fault
returns-in-Err-clause-fault c =
    let text = c.args.lines.now.rest.now in
    let i = c.loop-key.key-index in
    let line = c.in_ok-line.line.now in
    let eleven : i < 11 =
    omega (arith, c.loop-key-test.true, ap length c.requires.table, length-map c.args.table.now key_view) in
    let nth = setting_line text i (lines_of c.loop-key.lines.rest.now)
    (lines_of c.expect.new.self.rest.now) line c.loop-key.invariant.left c.in_ok-line.ensures.read in
    let key = key_is c.args.table.now i _ c.requires.table c.loop-key-test.true in
    let wrong = subst (λ (k : List ℕ
    × (ℕ × ℕ)). IsSettingLine k (words_of line) (Err c.in-Err.kind)) key c.in-Err.ensures in
    let first = wrong_first text i c.in-Err.kind c.fault.result.line line (lines_of c.expect.new.self.rest.now) eleven
    (omega (arith, c.fault.ensures.1, c.in_ok-line.ensures.line, c.loop-key.invariant.line))
    (settings_before (lines_of text) c.loop-key.values.items i c.loop-key.invariant.count c.loop-key.invariant.read) nth
    c.in_ok-line.ensures.read.2 wrong in
    subst (λ (kind : Kind). IsFirstFault text kind c.fault.result.line) (sym c.fault.ensures.0) first

pub loop-key-preserved : goal.loop-key-preserved
loop-key-preserved c =
    let text = c.args.lines.now.rest.now in
    let i = c.loop-key.key-index in
    let v = c.loop-key.values.items in
    let n = c.in-Ok.value in
    let line = c.in_ok-line.line.now in
    let eleven : i < 11 =
    omega (arith, c.loop-key-test.true, ap length c.requires.table, length-map c.args.table.now key_view) in
    let nth = setting_line text i (lines_of c.loop-key.lines.rest.now)
    (lines_of c.expect.new.self.rest.now) line c.loop-key.invariant.left c.in_ok-line.ensures.read in
    let key = key_is c.args.table.now i _ c.requires.table c.loop-key-test.true in
    let right = subst (λ (k : List ℕ × (ℕ × ℕ)). IsSettingLine k (words_of line) (Ok n)) key c.in-Ok.ensures in
    let has : HasSetting (lines_of text) i n =
    with_setting (lines_of text) i line
    (lines_of c.expect.new.self.rest.now) n nth c.in_ok-line.ensures.read.2 right in
    let items = c.push.ensures.items in
    let here : HasSetting (lines_of text) (length v) n =
    subst (λ (at : ℕ). HasSetting (lines_of text) at n) (sym c.loop-key.invariant.count) has in
    record {
      count = omega (arith, ap length items, length_push v n, c.loop-key.invariant.count);
      read = subst (HaveSettings (lines_of text)) (sym items)
          (have_more (lines_of text) v n c.loop-key.invariant.read here);
      left = nth.left_is;
      line = omega (arith, c.in_ok-line.ensures.line, c.loop-key.invariant.line);
    }
