use Rattle.std.proofs.Common.{◌<◌, Err, refl, ap, subst, ◌∙◌}
use Rattle.mako_shape.specs.declared.numbers.Numbers.{Numbers}
use Rattle.mako_shape.specs.declared.fault.ShapeFault.TheVariants.{TooManyEntries}
use Rattle.mako_shape.specs.Limits.{all_entries, max_entries}
use Rattle.mako_script.proofs.Begins.{tells_entries}
use Rattle.mako_script.proofs.check.too_many_entries.Goals as goal

pub returns-in-Err-TooManyEntries : goal.returns-in-Err-TooManyEntries
returns-in-Err-TooManyEntries c = (
  λ yes. subst (λ (n : Numbers). max_entries < all_entries n) c.numbers_of.ensures
      ((c.new.ensures.fault TooManyEntries).0 (c.in-Err-TooManyEntries.is
      ∙ ap Err c.in-Err-TooManyEntries.field-0-is)).1,
  λ many. refl,
)

pub returns-in-Err-OutOfRange : goal.returns-in-Err-OutOfRange
returns-in-Err-OutOfRange c = (
  λ yes. absurd cc,
  λ many. absurd (let same =
      tells_entries c.numbers_of.result c.in-Err-OutOfRange.field-0 c.args.values.now c.new.result c.numbers_of.ensures
      c.in-Err-OutOfRange.is c.new.ensures.fault c.requires.ranges many in cc),
)

pub returns-in-Err-TooManyWords : goal.returns-in-Err-TooManyWords
returns-in-Err-TooManyWords c = (
  λ yes. absurd cc,
  λ many. absurd (let same =
      tells_entries c.numbers_of.result c.in-Err-TooManyWords.field-0 c.args.values.now c.new.result
      c.numbers_of.ensures c.in-Err-TooManyWords.is c.new.ensures.fault c.requires.ranges many in cc),
)
