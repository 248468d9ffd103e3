-- What is found: a window that is open, and the server of a name.
use Rattle.std.proofs.Common.{◌≡◌, ℕ, ◌+◌, ◌-◌, ◌<◌, true, Some, List, length, drop, slice_index_or, get_or, ap, sym}
use Rattle.std.proofs.Common.{◌∙◌, arith}
use Rattle.std.specs.List.{position}
use Rattle.std.proofs.lemmas.Bool.Decides.{nat_tests}
use Rattle.std.proofs.lemmas.List.{get_or-drop, length-drop}
use Rattle.std.proofs.lemmas.List.Quantifiers.{position-Some}
use Rattle.mako_words.specs.declared.name.Name.{Name}
use Rattle.mako_shape.specs.declared.numbers.Numbers.{Numbers}
use Rattle.mako_shape.specs.Belongings.{tablet_of_entry}
use Rattle.mako_shape.proofs.BelongingLaws.{belongings_in_range}
use Rattle.mako_ring.specs.Tracing.{owner, no_window, is_open, IsNamed}
use Rattle.mako_ring.specs.declared.window.Window.{Window}

-- the window that is found is open
pub found_window : (first : ℕ) (ws : List Window) (k : ℕ) → position is_open (drop first ws) ≡ Some k
    → (first + k < length ws)
    × ((slice_index_or ws (first + k) no_window).tail < (slice_index_or ws (first + k) no_window).head)
found_window first ws k e =
    let f = position-Some is_open (drop first ws) k no_window e in
    let l : length (drop first ws) ≡ length ws - first = length-drop first ws in
    let w : get_or (drop first ws) k no_window ≡ get_or ws (first + k) no_window = get_or-drop first ws k no_window in
    let is : is_open (get_or ws (first + k) no_window) ≡ true = ap is_open (sym w) ∙ f.1 in
    (let h = f.0 in omega arith, open_is (get_or ws (first + k) no_window) is)
  where
    open_is : (w : Window) → is_open w ≡ true → w.tail < w.head
    open_is w e = grind (arith, nat_tests)

-- the server of a name of an entry in range is in range
pub owner_in_range : (n : Numbers) (x : Name) → IsNamed n x → owner n x < n.servers
owner_in_range n x named =
    belongings_in_range.tablet n (tablet_of_entry n x.entry) (belongings_in_range.entry n x.entry named)
