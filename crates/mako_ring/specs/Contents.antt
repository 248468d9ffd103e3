-- The content of a ring of slots, of which the empty ones are 0.
use Rattle.std.specs.Prelude.{ℕ, zero, suc, ◌≡◌, ◌≢◌, ◌+◌, ◌%◌, ◌<◌, ◌≤◌, ◌==◌, if◌then◌else◌, List, [], ◌∷◌, ◌++◌}
use Rattle.std.specs.Prelude.{length}
use Rattle.mako_ring.specs.declared.window.Window.{Window}
use Rattle.mako_ring.specs.Windows.{IsWindow}

-- a word before those behind it in a ring: the content ends before the first 0
abbrev pub ahead : ℕ → List ℕ → List ℕ
ahead zero rest = []
ahead (suc w) rest = suc w ∷ rest

-- the content among the next slots, so many of them
abbrev pub content_within : (left size : ℕ) → (ℕ → ℕ) → ℕ → List ℕ
content_within zero size slot at = []
content_within (suc left) size slot at = ahead (slot (at % size)) (content_within left size slot (at + 1))

-- the content of a ring: the slots from the taker's position on, around the ring, before the first 0, or all where none
-- is 0
abbrev pub content : ℕ → (ℕ → ℕ) → ℕ → List ℕ
content size slot at = content_within size size slot at

-- all slots but those of the content are 0
pub record OthersEmpty (size : ℕ) (slot : ℕ → ℕ) (at : ℕ) : Type 0 where
  pub rest : (j : ℕ) → length (content size slot at) ≤ j → j < size → slot ((at + j) % size) ≡ 0

-- the place after the content is the putter's next place
abbrev pub NextPlace : ℕ → (ℕ → ℕ) → ℕ → ℕ → Type 0
NextPlace size slot at next = (at + length (content size slot at)) % size ≡ next % size

-- a position behind another, around the ring
abbrev pub after_place : ℕ → ℕ → ℕ
after_place size at = if at + 1 == size then 0 else at + 1

-- what is true of a ring whose taker is at a position and whose putter keeps a window
pub record RingStands (size : ℕ) (slot : ℕ → ℕ) (at : ℕ) (w : Window) : Type 0 where
  pub at_below : at < size
  pub window : IsWindow size w
  pub others : OthersEmpty size slot at
  pub next : NextPlace size slot at w.head
  pub counted : w.tail + length (content size slot at) ≤ w.head

-- the slots after one of them is written
abbrev pub SlotWritten : ℕ → (ℕ → ℕ) → (ℕ → ℕ) → ℕ → ℕ → Type 0
SlotWritten size slot after k x = (after k ≡ x) × ((j : ℕ) → j < size → j ≢ k → after j ≡ slot j)

-- a put into the empty slot at the putter's place appends
abbrev pub PutAppends : Type 0
PutAppends = (size : ℕ) (slot after : ℕ → ℕ) (at next x : ℕ) → at < size → OthersEmpty size slot at
    → NextPlace size slot at next
    → slot (next % size) ≡ 0 → x ≢ 0 → SlotWritten size slot after (next % size) x
    → (content size after at ≡ content size slot at ++ x ∷ []) × OthersEmpty size after at
    × NextPlace size after at (next + 1)

-- a take of the filled slot at the taker's place removes the first
abbrev pub TakeRemovesTheFirst : Type 0
TakeRemovesTheFirst = (size : ℕ) (slot after : ℕ → ℕ) (at next : ℕ) → at < size → OthersEmpty size slot at
    → NextPlace size slot at next
    → slot at ≢ 0 → SlotWritten size slot after at 0
    → (content size slot at ≡ slot at ∷ content size after (after_place size at))
    × OthersEmpty size after (after_place size at) × NextPlace size after (after_place size at) next

-- a ring over time: its slots, the taker's position and the putter's next place, and all that was put and taken, in
-- order
pub record Ringing : Type 0 where
  pub slot : ℕ → ℕ
  pub at : ℕ
  pub next : ℕ
  pub put : List ℕ
  pub taken : List ℕ

-- its content is what was put and not taken
pub record RingingStands (size : ℕ) (s : Ringing) : Type 0 where
  pub at_below : s.at < size
  pub others : OthersEmpty size s.slot s.at
  pub place : NextPlace size s.slot s.at s.next
  pub sum : s.put ≡ s.taken ++ content size s.slot s.at

-- a put or a take
pub data RingStep (size : ℕ) (s : Ringing) (t : Ringing) : Type 0 where
  Puts : (x : ℕ) (slot : ℕ → ℕ) → s.slot (s.next % size) ≡ 0 → x ≢ 0 → SlotWritten size s.slot slot (s.next % size) x
      → t ≡ record s { slot = slot; next = s.next + 1; put = s.put ++ x ∷ [] } → RingStep size s t
  Takes : (slot : ℕ → ℕ) → s.slot s.at ≢ 0 → SlotWritten size s.slot slot s.at 0
      → t ≡ record s { slot = slot; at = after_place size s.at; taken = s.taken ++ s.slot s.at ∷ [] }
      → RingStep size s t

abbrev pub RingSteps : ℕ → Ringing → List Ringing → Type 0
RingSteps size s [] = Unit {0}
RingSteps size s (t ∷ ts) = RingStep size s t × RingSteps size t ts

abbrev pub ring_end : Ringing → List Ringing → Ringing
ring_end s [] = s
ring_end s (t ∷ ts) = ring_end t ts

-- what was taken is a prefix of what was put
abbrev pub TakenIsAPrefix : Type 0
TakenIsAPrefix = (size : ℕ) (s : Ringing) (steps : List Ringing) → RingingStands size s → RingSteps size s steps
    → RingingStands size (ring_end s steps)
