use Rattle.std.proofs.Common.{sym, ◌∙◌, refl, arith}
use Rattle.mako_shape.specs.declared.numbers.Numbers.{Numbers}
use Rattle.mako_shape.specs.declared.fault.ShapeFault.TheVariants.{OutOfRange, TooManyEntries, TooManyWords}
use Rattle.mako_shape.specs.Limits.{AllInRange}
use Rattle.mako_shape.proofs.Ranges.{all_in_range, answer-fault, answer-shape}
use Rattle.mako_shape.proofs.shape.Shape.new.Goals as goal

pub all_entries-requires : goal.all_entries-requires
all_entries-requires c = all_in_range c.args.numbers (sym c.first_out_of_range.ensures ∙ c.in_default.is)

pub all_words-requires : goal.all_words-requires
all_words-requires c = all_in_range c.args.numbers (sym c.first_out_of_range.ensures ∙ c.in_default.is)

pub starts-requires : goal.starts-requires
starts-requires c = all_in_range c.args.numbers (sym c.first_out_of_range.ensures ∙ c.in_default.is)

pub returns-in-Some-clause-fault : goal.returns-in-Some-clause-fault
returns-in-Some-clause-fault c =
    answer-fault Numbers c.args.numbers (OutOfRange c.in-Some.place) (sym c.first_out_of_range.ensures ∙ c.in-Some.is)

pub returns-then-all_entries-gt-MAX_ENTRIES-clause-fault : goal.returns-then-all_entries-gt-MAX_ENTRIES-clause-fault
returns-then-all_entries-gt-MAX_ENTRIES-clause-fault c =
    let within : AllInRange c.args.numbers = all_in_range c.args.numbers (sym c.first_out_of_range.ensures
    ∙ c.in_default.is) in
    answer-fault Numbers c.args.numbers TooManyEntries (within, omega arith)

pub returns-then-all_words-gt-MAX_WORDS-clause-fault : goal.returns-then-all_words-gt-MAX_WORDS-clause-fault
returns-then-all_words-gt-MAX_WORDS-clause-fault c =
    let within : AllInRange c.args.numbers = all_in_range c.args.numbers (sym c.first_out_of_range.ensures
    ∙ c.in_default.is) in
    answer-fault Numbers c.args.numbers TooManyWords (within, omega arith, omega arith)

pub invariant_of-result : goal.invariant_of-result
invariant_of-result c = (
  record {
    in_range = all_in_range c.args.numbers (sym c.first_out_of_range.ensures ∙ c.in_default.is);
    entries = omega arith;
    words = omega arith;
  },
  c.starts.ensures,
)

pub returns-clause-shape : goal.returns-clause-shape
returns-clause-shape c = (refl, (invariant_of-result c).0)

pub returns-clause-fault : goal.returns-clause-fault
returns-clause-fault c = answer-shape Numbers c.args.numbers c.args.numbers (invariant_of-result c).0
