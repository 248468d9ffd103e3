-- The windows of putters.
use Rattle.std.specs.Prelude.{◌≡◌, ℕ, ◌+◌, ◌-◌, ◌%◌, ◌<◌, ◌≤◌, ◌==◌, if◌then◌else◌}
use Rattle.mako_ring.specs.declared.window.Window.{Window}

-- the window of which one slot more was seen emptied
abbrev pub tail_up : ℕ → Window → Window
tail_up size w = if w.tail + 1 == size then record { head = w.head - size; tail = 0 } else record {
  head = w.head;
  tail = w.tail + 1;
}

-- the window of which one word more was put
abbrev pub head_up : Window → Window
head_up w = record { head = w.head + 1; tail = w.tail }

-- the window whose slot at the head was found empty: a full one has seen a slot emptied
abbrev pub found_room : ℕ → Window → Window
found_room size w = if w.head == w.tail + size then tail_up size w else w

-- the window after a put
abbrev pub put_up : ℕ → Window → Window
put_up size w = head_up (found_room size w)

-- the bounds of a window of a ring with so many slots
pub record IsWindow (size : ℕ) (w : Window) : Type 0 where
  pub tail_below : w.tail < size
  pub ordered : w.tail ≤ w.head
  pub few : w.head ≤ w.tail + size

-- each change of a window leaves a window, and the slot at its head changes by a put alone
pub record WindowsStay : Type 0 where
  pub tail_up : (size : ℕ) (w : Window) → IsWindow size w → w.tail < w.head → IsWindow size (tail_up size w)
      × ((tail_up size w).head % size ≡ w.head % size)
  pub found_room : (size : ℕ) (w : Window) → IsWindow size w → IsWindow size (found_room size w)
      × ((found_room size w).head % size ≡ w.head % size)
  pub put_up : (size : ℕ) (w : Window) → IsWindow size w → IsWindow size (put_up size w)
