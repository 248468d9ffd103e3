-- The worked script is one, and the text with two spaces is that of none.
use Rattle.std.proofs.Common.{◌≡◌, ℕ, zero, suc, ◌<◌, ◌≤◌, List, ◌+◌, length, refl, ap, arith, true}
use Rattle.std.specs.Prelude.{slice_index, ◌≢◌}
use Rattle.std.specs.Fmt.{digits}
use Rattle.mako_shape.specs.Places.{total}
use Rattle.mako_shape.specs.Limits.{IsShape, max_words}
use Rattle.mako_text.specs.Names.{is_name, name_of}
use Rattle.mako_text.specs.Programs.{IsProgram}
use Rattle.mako_text.specs.Scripts.{IsProper}
use Rattle.mako_text.specs.Texts.{script_text, IsScript}
use Rattle.mako_script.specs.Examples.{storing, storing_text, storing_names, storing_program}

spelled : storing_text ≡ script_text storing
unfolding script_text digits
spelled = refl

few_words : total storing.numbers ≤ max_words
unfolding total
few_words = omega arith

shape : IsShape storing.numbers
shape = record {
  in_range = record {
    each = (
      omega arith,
      omega arith,
      (
        omega arith,
        omega arith,
        (
          omega arith,
          omega arith,
          (
            omega arith,
            omega arith,
            (
              omega arith,
              omega arith,
              (
                omega arith,
                omega arith,
                (
                  omega arith,
                  omega arith,
                  (omega arith, omega arith, (omega arith, omega arith, (omega arith, omega arith, tt))),
                ),
              ),
            ),
          ),
        ),
      ),
    );
  };
  entries = omega arith;
  words = few_words;
}

are_spelled : (root : ℕ) → root < length storing_names → is_name (name_of storing_names root) ≡ true
unfolding is_name
are_spelled zero below = refl
are_spelled (suc zero) below = refl
are_spelled (suc (suc zero)) below = refl
are_spelled (suc (suc (suc zero))) below = refl
are_spelled (suc (suc (suc (suc root)))) below = absurd (omega arith)

-- a number that tells the names apart
abbrev mark : List ℕ → ℕ
mark name = length name + slice_index name 0

differ : (a b : ℕ) → a < b → b < length storing_names → name_of storing_names a ≢ name_of storing_names b
differ a zero before below same = absurd (omega arith)
differ zero (suc zero) before below same = omega (arith, ap mark same)
differ (suc a) (suc zero) before below same = absurd (omega arith)
differ zero (suc (suc zero)) before below same = omega (arith, ap mark same)
differ (suc zero) (suc (suc zero)) before below same = omega (arith, ap mark same)
differ (suc (suc a)) (suc (suc zero)) before below same = absurd (omega arith)
differ zero (suc (suc (suc zero))) before below same = omega (arith, ap mark same)
differ (suc zero) (suc (suc (suc zero))) before below same = omega (arith, ap mark same)
differ (suc (suc zero)) (suc (suc (suc zero))) before below same = omega (arith, ap mark same)
differ (suc (suc (suc a))) (suc (suc (suc zero))) before below same = absurd (omega arith)
differ a (suc (suc (suc (suc b)))) before below same = absurd (omega arith)

program : IsProgram 4 storing_program
program = record {
  names = record { some = omega arith; board = refl; spelled = are_spelled; distinct = differ };
  few = omega arith;
  calls = (omega arith, (omega arith, (omega arith, (omega arith, refl))));
}

pub proper : IsProper storing
proper = record {
  shape = shape;
  board_low = omega arith;
  board_high = omega arith;
  mutators = refl;
  commands = omega arith;
  programs = (program, tt);
}

pub is_storing : IsScript storing_text storing
is_storing = record { proper = proper; spelled = spelled }
