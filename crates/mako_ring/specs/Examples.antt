-- Worked examples: what a ring holds around its end, a full ring of one slot, and windows of such a ring.
use Rattle.std.specs.Prelude.{◌≡◌, ℕ, zero, suc, [], ◌∷◌}
use Rattle.mako_ring.specs.Contents.{content, after_place}
use Rattle.mako_ring.specs.Windows.{found_room, put_up, tail_up}
use Rattle.mako_ring.specs.declared.window.Window.{Window}

-- three slots, of which the middle one is empty
abbrev pub three : ℕ → ℕ
three zero = 9
three (suc zero) = 0
three (suc (suc k)) = 7

abbrev pub none_put : Window
none_put = record { head = 0; tail = 0 }

abbrev pub one_put : Window
one_put = record { head = 1; tail = 0 }

pub record Examples : Type 0 where
  -- from the last slot on, around the ring, up to the empty one
  pub around : content 3 three 2 ≡ 7 ∷ 9 ∷ []
  pub behind : after_place 3 2 ≡ 0
  -- from the empty slot on there is nothing
  pub nothing : content 3 three 1 ≡ []
  pub one_slot : content 1 (λ k. 7) 0 ≡ 7 ∷ []
  -- a put into one slot fills the window; a slot seen emptied takes the multiple away
  pub put : put_up 1 none_put ≡ one_put
  pub emptied : tail_up 1 one_put ≡ none_put
  -- a full window whose slot is found empty has room, so that the next put leaves it full
  pub room : found_room 1 one_put ≡ none_put
  pub again : put_up 1 one_put ≡ one_put
