-- One gate on its own: any views arrive and leave, and one seat shuts, looks and reopens in whatever order, whatever
-- they
-- do at other gates.
use Rattle.std.specs.Prelude.{ℕ, true, false, ◌≡◌, ◌<◌, ◌≤◌, ◌^◌, List, length, slice_get, slice_set, Some, sum_by}
use Rattle.mako_words.specs.Gates.{is_shut, count_of}
use Rattle.mako_words.specs.Words.{all_but}
use Rattle.mako_step.specs.Acts.{after_op}
use Rattle.mako_step.specs.declared.act.Op.TheVariants.{Add, Sub, Or, And}
use Rattle.mako_gate.specs.Bits.{shut_bit}

-- where a view stands at the gate
pub data Presence : Type 0 where
  outside : Presence
  rejected : Presence
  present : Presence

-- whether the seat that shuts the gate has shut it, and found the count 0 since
pub data Keeping : Type 0 where
  is_open : Keeping
  is_shutting : Keeping
  is_drained : Keeping

pub record SingleGate : Type 0 where
  pub word : ℕ
  pub views : List Presence
  pub keeping : Keeping

-- 1 where the view arrived and has not left
abbrev pub is_there : Presence → ℕ
is_there outside = 0
is_there rejected = 1
is_there present = 1

-- 1 where its arrival found no shut bit
abbrev pub is_admitted : Presence → ℕ
is_admitted outside = 0
is_admitted rejected = 0
is_admitted present = 1

abbrev pub shut_of : Keeping → ℕ
shut_of is_open = 0
shut_of is_shutting = 1
shut_of is_drained = 1

abbrev pub drained_of : Keeping → ℕ
drained_of is_open = 0
drained_of is_shutting = 0
drained_of is_drained = 1

-- one act at the gate: of the view at a place, or of the seat that shuts it
pub data SingleAct (g : SingleGate) : SingleGate → Type 0 where
  arrives : (i : ℕ) → slice_get g.views i ≡ Some outside → is_shut g.word ≡ false →
      SingleAct g (record g { word = after_op (Add 1) g.word; views = slice_set g.views i present })
  is_refused : (i : ℕ) → slice_get g.views i ≡ Some outside → is_shut g.word ≡ true →
      SingleAct g (record g { word = after_op (Add 1) g.word; views = slice_set g.views i rejected })
  leaves : (i : ℕ) → slice_get g.views i ≡ Some present →
      SingleAct g (record g { word = after_op (Sub 1) g.word; views = slice_set g.views i outside })
  steps_back : (i : ℕ) → slice_get g.views i ≡ Some rejected →
      SingleAct g (record g { word = after_op (Sub 1) g.word; views = slice_set g.views i outside })
  shuts : g.keeping ≡ is_open → SingleAct g (record g { word = after_op (Or shut_bit) g.word; keeping = is_shutting })
  drains : g.keeping ≡ is_shutting → count_of g.word ≡ 0 → SingleAct g (record g { keeping = is_drained })
  reopens : shut_of g.keeping ≡ 1 →
      SingleAct g (record g { word = after_op (And (all_but shut_bit)) g.word; keeping = is_open })

-- what any list of acts leads to
pub data SingleReached : SingleGate → Type 0 where
  opens : (views : List Presence) → length views < 2 ^ 16 →
      ((i : ℕ) (p : Presence) → slice_get views i ≡ Some p → p ≡ outside) →
      SingleReached (record { word = 0; views = views; keeping = is_open })
  goes_on : (g h : SingleGate) → SingleReached g → SingleAct g h → SingleReached h

-- the count is the number of views there; the shut bit stands while the gate is kept shut; while drained it admits
-- nobody
pub record SingleTells (g : SingleGate) : Type 0 where
  pub count : count_of g.word ≡ sum_by is_there g.views
  pub most : count_of g.word ≤ length g.views
  pub is_kept : shut_of g.keeping ≡ 1 → is_shut g.word ≡ true
  pub nobody : g.keeping ≡ is_drained → (i : ℕ) (p : Presence) → slice_get g.views i ≡ Some p → is_admitted p ≡ 0

abbrev pub SinglesTell : Type 0
SinglesTell = (g : SingleGate) → SingleReached g → SingleTells g
