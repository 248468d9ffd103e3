-- A step of the collector leaves barrier slots, or empties the one in which it found a name.
use Rattle.std.proofs.Common.{◌≡◌, ℕ, ◌<◌, ◌⊎◌, inl, inr, List, length, slice_index, arith}
use Rattle.std.proofs.lemmas.List.Elements.{All-get_or}
use Rattle.mako_words.specs.declared.name.Name.{Name}
use Rattle.mako_shape.specs.declared.numbers.Numbers.{Numbers}
use Rattle.mako_shape.specs.Places.{barrier, total}
use Rattle.mako_shape.specs.Places.{word_at}
use Rattle.mako_step.specs.Acts.{words_stepped}
use Rattle.mako_phases.proofs.Frames.{written}
use Rattle.mako_pause.specs.Collecting as collecting
use Rattle.mako_pause.specs.Collecting.{Collecting, Holdings}
use Rattle.mako_pause.specs.Keeping as keeping
use Rattle.mako_pause.specs.Keeping.{IsKeptKnown}
use Rattle.mako_pause.specs.declared.stage.BarrierStage.TheVariants.{Loading, Clearing}
use Rattle.mako_pause.specs.declared.stage.CollectStage.{CollectStage}
use Rattle.mako_pause.specs.declared.stage.CollectStage.TheVariants.{Idle, Pausing, Forwarding, Barriers, Emptying}
use Rattle.mako_pause.specs.declared.stage.CollectStage.TheVariants.{Polling, Choosing, Noticing, Ended}
use Rattle.mako_writes.proofs.Collectors.{Clears, collects as writes}

-- each barrier slot is as it was, or is empty
abbrev pub AreLeftOrEmpty : Numbers → (words us : List ℕ) → Type 0
AreLeftOrEmpty n words us = (m slot : ℕ) → m < n.mutators → slot < n.ring
    → (word_at n us (barrier m slot) ≡ word_at n words (barrier m slot)) ⊎ (word_at n us (barrier m slot) ≡ 0)

module _ (k : Holdings) (known : IsKeptKnown k) (words : List ℕ) (size : length words ≡ total k.shape) where
  abbrev n : Numbers
  n = k.shape

  left : (st : CollectStage) → (Clears st → ⊥) → keeping.StageIsKnown k st
      → AreLeftOrEmpty n words (words_stepped (collecting.stage_next k st) words)
  left st other is m slot low inside =
      inl ((writes k known st is).rest words (barrier m slot) (low, inside) (λ may. other may.1))

  cleared : (i : ℕ) (x : Name) → keeping.StageIsKnown k (Barriers (Clearing i x))
      → AreLeftOrEmpty n words (words_stepped (collecting.barrier_next k (Clearing i x)) words)
  cleared i x is m slot low inside =
      let here : slice_index k.barrier_at i < n.ring =
      All-get_or (λ at. at < n.ring) k.barrier_at i 0
      (let count = known.barriers_count in let below = is.1.0 in omega arith) known.barriers in
      elim (written n words (barrier i (slice_index k.barrier_at i)) 0 size (is.1.0, here)
      (barrier m slot) (low, inside)) [
        | inl e ↦ inr e.1
        | inr e ↦ inl e.1
      ]

  collects : (st : CollectStage) → keeping.StageIsKnown k st
      → AreLeftOrEmpty n words (words_stepped (collecting.stage_next k st) words)
  collects (Idle s) is = left (Idle s) (λ c. c) is
  collects (Pausing s) is = left (Pausing s) (λ c. c) is
  collects (Forwarding s) is = left (Forwarding s) (λ c. c) is
  collects (Barriers (Loading i)) is = left (Barriers (Loading i)) (λ c. c) is
  collects (Barriers (Clearing i x)) is = cleared i x is
  collects (Emptying r) is = left (Emptying r) (λ c. c) is
  collects Polling is = left Polling (λ c. c) is
  collects (Choosing s) is = left (Choosing s) (λ c. c) is
  collects (Noticing s) is = left (Noticing s) (λ c. c) is
  collects Ended is = left Ended (λ c. c) is

pub barriers_left : (c : Collecting) (words : List ℕ) → IsKeptKnown c.kept → keeping.StageIsKnown c.kept c.stage
    → length words ≡ total c.kept.shape
    → AreLeftOrEmpty c.kept.shape words (words_stepped (collecting.next_of c) words)
barriers_left c words known is size = collects c.kept known words size c.stage is
