-- What a step makes of the words, read by place.
use Rattle.std.specs.Prelude.{ℕ, ◌≡◌, ◌≢◌, ◌*◌, ◌<◌, List, length}
use Rattle.mako_shape.specs.declared.numbers.Numbers.{Numbers}
use Rattle.mako_shape.specs.Places.{Place, Within, mutator_gate, tablet_gate, turn, index, total, word_at}
use Rattle.mako_step.specs.declared.act.Op.{Op}
use Rattle.mako_step.specs.Acts.{after_op, words_after}

-- the word at this place becomes x, and all others stay
pub record Sets (n : Numbers) (W V : Place → ℕ) (p : Place) (x : ℕ) : Type 0 where
  pub here : V p ≡ x
  pub others : (q : Place) → Within n q → q ≢ p → V q ≡ W q

-- one operation on the word at this place
abbrev pub Makes : Numbers → (Place → ℕ) → (Place → ℕ) → Place → Op → Type 0
Makes n W V p op = Sets n W V p (after_op op (W p))

-- an act on the word of a place makes that of the words read by place
abbrev pub ActsMake : Type 0
ActsMake = (n : Numbers) (words : List ℕ) (p : Place) (op : Op) → length words ≡ total n → Within n p →
    Makes n (word_at n words) (word_at n (words_after (record { word = index n p; op = op }) words)) p op

-- the number of tablets of all servers
abbrev pub tablets_of : Numbers → ℕ
tablets_of n = n.servers * n.tablets

-- the words of gates and turns stay
pub record LeavesGates (n : Numbers) (W V : Place → ℕ) : Type 0 where
  pub tablets : (t : ℕ) → t < tablets_of n → V (tablet_gate t) ≡ W (tablet_gate t)
  pub owns : (m : ℕ) → m < n.mutators → V (mutator_gate m) ≡ W (mutator_gate m)
  pub turns : (t : ℕ) → t < tablets_of n → V (turn t) ≡ W (turn t)
