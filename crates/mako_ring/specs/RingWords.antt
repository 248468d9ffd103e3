-- Rings over the list of all words.
use Rattle.std.specs.Prelude.{◌≡◌, ◌≢◌, ℕ, ◌%◌, ◌<◌, List, [], ◌∷◌, ◌++◌, length, slice_set}
use Rattle.mako_shape.specs.declared.numbers.Numbers.{Numbers}
use Rattle.mako_shape.specs.Places.{index, total, word_at}
use Rattle.mako_ring.specs.Contents.{content, after_place, RingStands}
use Rattle.mako_ring.specs.Rings.{slot_place, slots_of, IsRing}
use Rattle.mako_ring.specs.Windows.{put_up}
use Rattle.mako_ring.specs.declared.ring.Ring.{Ring}
use Rattle.mako_ring.specs.declared.window.Window.{Window}

-- what the ring holds, with its taker at this position
abbrev pub held : Numbers → List ℕ → Ring → ℕ → List ℕ
held n words ring at = content n.ring (slots_of (word_at n words) ring) at

-- the ring stands, with its taker at this position and this window of its putter
abbrev pub Stands : Numbers → List ℕ → Ring → ℕ → Window → Type 0
Stands n words ring at w = RingStands n.ring (slots_of (word_at n words) ring) at w

-- the words with another one in a slot of the ring
abbrev pub with_slot : Numbers → List ℕ → Ring → ℕ → ℕ → List ℕ
with_slot n words ring k x = slice_set words (index n (slot_place ring k)) x

-- a put's store appends to what the ring holds, a take's removes the first word, and neither touches another ring
pub record RingsOnWords : Type 0 where
  pub put : (n : Numbers) (words : List ℕ) (ring : Ring) (at : ℕ) (w : Window) (x : ℕ) → length words ≡ total n
      → IsRing n ring → Stands n words ring at w
      → word_at n words (slot_place ring (w.head % n.ring)) ≡ 0 → x ≢ 0
      → (held n (with_slot n words ring (w.head % n.ring) x) ring at ≡ held n words ring at ++ x ∷ [])
      × Stands n (with_slot n words ring (w.head % n.ring) x) ring at (put_up n.ring w)
  pub take : (n : Numbers) (words : List ℕ) (ring : Ring) (at : ℕ) (w : Window) → length words ≡ total n → IsRing n ring
      → Stands n words ring at w
      → word_at n words (slot_place ring at) ≢ 0
      → (held n words ring at ≡ word_at n words (slot_place ring at) ∷
      held n (with_slot n words ring at 0) ring (after_place n.ring at))
      × Stands n (with_slot n words ring at 0) ring (after_place n.ring at) w
  pub others : (n : Numbers) (words : List ℕ) (ring other : Ring) (k j x : ℕ) → IsRing n ring → IsRing n other
      → k < n.ring → j < n.ring → other ≢ ring
      → word_at n (with_slot n words ring k x) (slot_place other j) ≡ word_at n words (slot_place other j)
