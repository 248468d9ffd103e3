-- What is read from words that are names'.
use Rattle.std.proofs.Common.{◌≡◌, ℕ, Option, Some, sym, subst}
use Rattle.mako_words.specs.Names.{IsPackedName, name_at}
use Rattle.mako_words.specs.Values.{FitsValue, value_word, value_at}
use Rattle.mako_words.specs.Words.{Unpacks}
use Rattle.mako_words.specs.declared.value.Value.{Value}
use Rattle.mako_words.specs.declared.value.Value.TheVariants.{Ref}
use Rattle.mako_words.proofs.ValueWords.{value_words}

-- the value of a name's word is the name
pub name_read : (w : ℕ) (answer : Option Value) → IsPackedName w → Unpacks FitsValue value_word value_at w answer
    → answer ≡ Some (Ref (name_at w))
name_read w answer packed told =
    value_words.read_back (Ref (name_at w)) answer packed.fits
    (subst (λ (x : ℕ). Unpacks FitsValue value_word value_at x answer) (sym packed.same) told)
