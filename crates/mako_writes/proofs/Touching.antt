-- A step of which the act is of a place that may be written, or a load.
use Rattle.std.proofs.Common.{ℕ, List, slice_index, sym, ap, subst, refl}
use Rattle.std.proofs.lemmas.List.{set-get_or}
use Rattle.mako_shape.specs.declared.numbers.Numbers.{Numbers}
use Rattle.mako_shape.specs.Places.{Place, region_word, Within, index, word_at}
use Rattle.mako_shape.specs.Belongings.{IsAddress, region_of_address, word_of_address}
use Rattle.mako_shape.proofs.PlaceLaws.{word_other}
use Rattle.mako_shape.proofs.BelongingLaws.{address_in_range, address_word, address_place}
use Rattle.mako_step.specs.Acts.{after_op, words_stepped, does}
use Rattle.mako_step.specs.declared.act.Op.{Op}
use Rattle.mako_step.specs.declared.act.Op.TheVariants.{Load}
use Rattle.mako_step.specs.declared.step.Step.{Step}
use Rattle.mako_step.specs.declared.step.Step.TheVariants.{Ended}
use Rattle.mako_writes.specs.Writes.{LeavesOthers}

-- the step leaves what may not be written
pub record Leaves (n : Numbers) (Writes : Place → Type 0) (step : Step) : Type 0 where
  pub rest : (words : List ℕ) → LeavesOthers n Writes words (words_stepped step words)

module _ (n : Numbers) (Writes : Place → Type 0) where
  pub looks : (i : ℕ) → Leaves n Writes (does i Load)
  looks i = record { rest = λ words p within other. ap (λ us. word_at n us p) (set-get_or words i 0) }

  pub at_place : (q : Place) (op : Op) → Within n q → Writes q → Leaves n Writes (does (index n q) op)
  at_place q op there may = record {
    rest = λ words p within other.
        word_other n words q p (after_op op (slice_index words (index n q))) there within
        (λ e. other (subst Writes (sym e) may));
  }

  -- where all words of regions may be written
  pub at_address : (op : Op) → ((r o : ℕ) → Writes (region_word r o)) → (a : ℕ) → IsAddress n a
      → Leaves n Writes (does a op)
  at_address op may a is =
      subst (λ i. Leaves n Writes (does i op)) (address_place n a is)
      (at_place (region_word (region_of_address n a) (word_of_address n a)) op
      (address_in_range n a is, address_word n a is) (may (region_of_address n a) (word_of_address n a)))

  pub ends : Leaves n Writes Ended
  ends = record { rest = λ words p within other. refl }

-- what one right allows, a wider one does
pub weaker : {n : Numbers} {Writes : Place → Type 0} {step : Step} (Wide : Place → Type 0) → Leaves n Writes step
    → ((p : Place) → Writes p → Wide p) → Leaves n Wide step
weaker Wide leaves widens = record {
  rest = λ words p within other. leaves.rest words p within (λ may. other (widens p may));
}
