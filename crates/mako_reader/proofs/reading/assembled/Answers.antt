use Rattle.std.proofs.Common.{◌≡◌, length, ap, sym, subst, ◌∙◌, refl, arith}
use Rattle.std.specs.Prelude.{slice_index}
use Rattle.mako_shape.specs.declared.numbers.Numbers.{Numbers}
use Rattle.mako_shape.specs.Limits.{IsShape}
use Rattle.mako_shape.proofs.Ranges.{no_fault}
use Rattle.mako_text.specs.Scripts.{IsProper}
use Rattle.mako_reader.specs.Parts.{numbers_in}
use Rattle.mako_reader.proofs.Scripts.{proper_from}
use Rattle.mako_reader.proofs.reading.assembled.Goals as goal

pub returns-in_default-clause-err : goal.returns-in_default-clause-err
returns-in_default-clause-err c = λ proper.
    let same : c.numbers_of-numbers.result ≡ numbers_in c.args.values.now (length c.args.programs.items) =
    c.numbers_of-numbers.ensures
    ∙ ap (numbers_in c.args.values.now) (omega (arith, c.len.ensures, c.args.programs.ok.0)) in
    no_fault c.numbers_of-numbers.result c.in_default.field-0 (rw same proper.shape)
    ((c.in_default.ensures.fault c.in_default.field-0).0 refl)

pub invariant_of-result : goal.invariant_of-result
invariant_of-result c =
    let same : c.numbers_of-numbers.result ≡ numbers_in c.args.values.now (length c.args.programs.items) =
    c.numbers_of-numbers.ensures
    ∙ ap (numbers_in c.args.values.now) (omega (arith, c.len.ensures, c.args.programs.ok.0)) in
    let board = slice_index c.args.values.now 10 in
    let whole : c.in-Ok.shape ≡ numbers_in c.args.values.now (length c.args.programs.items) = c.in-Ok.ensures.shape.0
    ∙ same in
    let shape : IsShape (numbers_in c.args.values.now (length c.args.programs.items)) =
    subst IsShape whole c.in-Ok.ensures.shape.1 in
    subst (λ (n : Numbers). IsProper (record { numbers = n; board = board; programs = c.args.programs.items }))
    (sym whole)
    (proper_from c.args.values.now c.args.programs.items c.requires.values c.requires.programs shape)
