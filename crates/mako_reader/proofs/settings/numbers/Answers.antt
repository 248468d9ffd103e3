use Rattle.std.proofs.Common.{◌<◌, length, map, subst, arith}
use Rattle.std.proofs.lemmas.Result.{err_from_is_err_and}
use Rattle.std.proofs.lemmas.List.{length-map, take_all}
use Rattle.mako_text.specs.Keys.{key_view}
use Rattle.mako_reader.specs.Finds.{ReadsEach}
use Rattle.mako_reader.specs.Parts.{IsSetting}
use Rattle.mako_reader.specs.Words.{lines_of}
use Rattle.mako_reader.proofs.Lists.{each_more, each_refused}
use Rattle.mako_reader.proofs.Header.{key_at, same_setting}
use Rattle.mako_reader.proofs.settings.numbers.Goals as goal

pub returns-in_err-value : goal.returns-in_err-value
returns-in_err-value c =
    let p = err_from_is_err_and c.from_residual.result c.from_residual.ensures.1 in
    let table = c.args.table.now in
    rw (p.1, p.2) (each_refused IsSetting same_setting c.in_err-value.field-0.0
    (map key_view table) c.loop-key.key-index _ (lines_of c.args.text.now)
    (lines_of c.loop-key.rest.now) c.loop-key.values.items
    (omega (arith, length-map table key_view))
    (key_at table c.loop-key.key-index _ c.loop-key-test.true) c.loop-key.invariant.0 c.in_err-value.ensures)

pub loop-key-preserved : goal.loop-key-preserved
loop-key-preserved c =
    let table = c.args.table.now in
    let within : c.loop-key.key-index < length (map key_view table) = omega (arith, length-map table key_view) in (
      rw c.push.ensures.items
          (each_more IsSetting (map key_view table) c.loop-key.key-index _ (lines_of c.args.text.now)
          (lines_of c.loop-key.rest.now) (lines_of c.in_ok-value.after.now) c.loop-key.values.items c.in_ok-value.value
          within (key_at table c.loop-key.key-index _ c.loop-key-test.true) c.loop-key.invariant.0
          c.in_ok-value.ensures),
      omega (arith, c.push.ensures.len, c.loop-key.invariant.1),
    )

pub returns : goal.returns
returns c =
    let table = c.args.table.now in
    subst (λ ks. ReadsEach IsSetting ks (lines_of c.args.text.now)
    (c.loop-key.values.items, lines_of c.loop-key.rest.now))
    (take_all c.loop-key.key-index (map key_view table) (omega (arith, length-map table key_view)))
    c.loop-key.invariant.0
