-- What the collector keeps, beside steps of other seats.
use Rattle.std.proofs.Common.{◌≡◌, ◌≢◌, ℕ, ◌<◌, inl, inr, Bool, true, false, cond, List, length, set, slice_index, sym}
use Rattle.std.proofs.Common.{ap, subst, refl, ◌∙◌, arith, eq-eqb}
use Rattle.std.proofs.lemmas.Bool.{cases_eq, ne_eqb}
use Rattle.mako_words.specs.Names.{name_word}
use Rattle.mako_words.specs.declared.name.Name.{Name}
use Rattle.mako_shape.specs.declared.numbers.Numbers.{Numbers}
use Rattle.mako_shape.specs.Places.{Place, barrier, index, word_at}
use Rattle.mako_shape.proofs.PlaceLaws.{word_other}
use Rattle.mako_ring.specs.Contents.{after_place}
use Rattle.mako_shades.proofs.Words.{no_zero_name}
use Rattle.mako_pause.specs.Collecting.{Holdings}
use Rattle.mako_pause.specs.Keeping.{IsKeptKnown, StageIsKnown}
use Rattle.mako_pause.specs.declared.stage.BarrierStage.TheVariants.{Loading, Clearing}
use Rattle.mako_pause.specs.declared.stage.CollectStage.{CollectStage}
use Rattle.mako_pause.specs.declared.stage.CollectStage.TheVariants.{Idle, Pausing, Forwarding, Barriers, Emptying}
use Rattle.mako_pause.specs.declared.stage.CollectStage.TheVariants.{Polling, Choosing, Noticing, Ended}
use Rattle.mako_collecting.specs.Keeping.{BarrierRing, StageKeeps, OthersLeaveIt, place_up, PutsLeaveIt}
use Rattle.mako_collecting.proofs.BarrierRings.{ring_stays, ring_put}
use Rattle.mako_collecting.proofs.KeptOwn.{rings_same, empty_same}

module _ (n : Numbers) (k : Holdings) (known : IsKeptKnown k) (shape : k.shape ≡ n) where
  position_low : (m : ℕ) → m < n.mutators → slice_index k.barrier_at m < n.ring
  position_low m low =
      let count : length k.barrier_at ≡ n.mutators = known.barriers_count ∙ ap (λ (x : Numbers). x.mutators) shape in
      subst (λ (x : Numbers). slice_index k.barrier_at m < x.ring) shape (known.barriers m 0 (omega arith))

  -- what its stage keeps stands where a slot that holds a name stays
  keeps_same : (words us : List ℕ) (stage : CollectStage) → StageIsKnown k stage
      → ((m : ℕ) (x : Name) → m < n.mutators → word_at n words (barrier m (slice_index k.barrier_at m)) ≡ name_word x
      → word_at n words (barrier m (slice_index k.barrier_at m)) ≢ 0
      → word_at n us (barrier m (slice_index k.barrier_at m)) ≡ word_at n words
      (barrier m (slice_index k.barrier_at m)))
      → StageKeeps n words k stage → StageKeeps n us k stage
  keeps_same words us (Barriers (Clearing m x)) is same keeps =
      let low : m < n.mutators = subst (λ (y : Numbers). m < y.mutators) shape is.1.0 in
      (keeps.0, same m x low keeps.1 (λ none. no_zero_name x is.1.1.1 (sym none ∙ keeps.1)) ∙ keeps.1)
  keeps_same words us (Barriers (Loading m)) is same keeps = keeps
  keeps_same words us (Idle stage) is same keeps = keeps
  keeps_same words us (Pausing stage) is same keeps = keeps
  keeps_same words us (Forwarding stage) is same keeps = keeps
  keeps_same words us (Emptying r) is same keeps = keeps
  keeps_same words us Polling is same keeps = keeps
  keeps_same words us (Choosing stage) is same keeps = keeps
  keeps_same words us (Noticing stage) is same keeps = keeps
  keeps_same words us Ended is same keeps = keeps

pub others_leave_it : OthersLeaveIt
others_leave_it n words us places c known shape same keeps = record {
  stage = keeps.stage;
  keeps = keeps_same n c.kept known shape words us c.stage keeps.stage
      (λ m x low is some. same m (slice_index c.kept.barrier_at m) low (position_low n c.kept known shape m low))
      keeps.keeps;
  empty = λ shut. empty_same n words us _ same (keeps.empty shut);
  rings = rings_same n words us places c.kept known shape same keeps.rings;
}

abbrev ring_of : Place → ℕ
ring_of (barrier m slot) = m
ring_of p = 0

no_shut : (b : Bool) → b ≡ false → b ≡ true → ⊥
no_shut b e f = cc

pub puts_leave_it : PutsLeaveIt
puts_leave_it n words places c known shape size open_ keeps m word low few free some =
    let us : List ℕ = set words (index n (barrier m (places m))) word in
    let k : Holdings = c.kept in
    record {
      stage = keeps.stage;
      keeps = keeps_same n k known shape words us c.stage keeps.stage
          (λ x name inside is filled. word_other n words (barrier m (places m)) (barrier x (slice_index k.barrier_at x))
          word (low, few) (inside, position_low n k known shape x inside)
          (λ e. filled (ap (λ p. word_at n words p) e ∙ free))) keeps.keeps;
      empty = λ shut. absurd (no_shut k.gates_shut open_ shut);
      rings = λ x inside. elim (cases_eq x m) [
        | inl e ↦
            subst (λ (y : ℕ). BarrierRing n us y (slice_index k.barrier_at y) (place_up n places m y)) (sym e)
            (subst (λ (b : Bool). BarrierRing n us m (slice_index k.barrier_at m)
            (cond b (after_place n.ring (places m)) (places m))) (sym (eq-eqb m m refl))
            (ring_put n words m (slice_index k.barrier_at m) (places m) word size low
            (position_low n k known shape m low) few free some (keeps.rings m low)))
        | inr d ↦
            subst (λ (b : Bool). BarrierRing n us x (slice_index k.barrier_at x)
            (cond b (after_place n.ring (places m)) (places x))) (sym (ne_eqb x m d))
            (ring_stays n words us x (slice_index k.barrier_at x) (places x) (position_low n k known shape x inside)
            (λ slot l. word_other n words (barrier m (places m)) (barrier x slot) word (low, few) (inside, l)
            (λ e. d (ap ring_of e))) (keeps.rings x inside))
      ];
    }
