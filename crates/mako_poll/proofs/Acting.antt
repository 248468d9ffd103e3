-- What an act on the list of all words leaves of the words by place.
use Rattle.std.proofs.Common.{◌≡◌, ℕ, List, length, slice_index, ap, sym, subst, refl, ◌∙◌, length-set}
use Rattle.std.proofs.lemmas.List.{set-get_or}
use Rattle.mako_shape.specs.declared.numbers.Numbers.{Numbers}
use Rattle.mako_shape.specs.Places.{Place, Within, index, total, word_at}
use Rattle.mako_step.specs.Acts.{does, after_op, words_stepped}
use Rattle.mako_step.specs.declared.act.Op.{Op}
use Rattle.mako_step.specs.declared.act.Op.TheVariants.{Load}
use Rattle.mako_step.specs.declared.step.Step.{Step}
use Rattle.mako_step.specs.declared.step.Step.TheVariants.{Do, Ended}
use Rattle.mako_ring.specs.Facets.{IsPolled}
use Rattle.mako_poll.specs.Steps.{Untouched, Wrote}
use Rattle.mako_poll.proofs.AllSteps.{writes_are_one}

-- an act leaves as many words
pub same_length : (step : Step) (words : List ℕ) → length (words_stepped step words) ≡ length words
same_length (Do a) words = length-set words a.word (after_op a.op (slice_index words a.word))
same_length Ended words = refl

module _ (n : Numbers) (words after : List ℕ) where
  -- words that are the same
  pub untouched_same : after ≡ words → Untouched n (word_at n words) (word_at n after)
  untouched_same e p is within = ap (λ (ws : List ℕ). word_at n ws p) e

  -- a load changes nothing
  pub untouched_load : (a : ℕ) → after ≡ words_stepped (does a Load) words
      → Untouched n (word_at n words) (word_at n after)
  untouched_load a e = untouched_same (e ∙ set-get_or words a 0)

  -- an operation on the word at a place writes there
  pub wrote_at : length words ≡ total n → (p : Place) (op : Op) → Within n p
      → after ≡ words_stepped (does (index n p) op) words
      → Wrote n (word_at n words) (word_at n after) p (after_op op (word_at n words p))
  wrote_at size p op within e =
      subst (λ (ws : List ℕ). Wrote n (word_at n words) (word_at n ws) p (after_op op (word_at n words p))) (sym e)
      (writes_are_one n words p (after_op op (word_at n words p)) size within)

  -- and of a place that polls do not read it is no change
  pub untouched_at : length words ≡ total n → (p : Place) (op : Op) → Within n p → (¬ IsPolled p)
      → after ≡ words_stepped (does (index n p) op) words
      → Untouched n (word_at n words) (word_at n after)
  untouched_at size p op within none e q is in_q =
      (wrote_at size p op within e).else q is in_q (λ same. none (subst IsPolled same is))
