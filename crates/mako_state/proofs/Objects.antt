-- A mutator at the object of its call.
use Rattle.std.proofs.Common.{◌≡◌, ℕ, ◌+◌, ◌≤◌, ◌==◌, Some, ap, refl, arith, eq-eqb}
use Rattle.mako_words.specs.declared.name.Name.{Name}
use Rattle.mako_words.specs.declared.value.Value.TheVariants.{Ref}
use Rattle.mako_shape.specs.declared.numbers.Numbers.{Numbers}
use Rattle.mako_shape.specs.Places.{region_word, index}
use Rattle.mako_shape.proofs.BelongingLaws.{word_after}
use Rattle.mako_gate.specs.Sums.{counted}
use Rattle.mako_gate.specs.Standings.{admitted, at_tablet, mutator_at}
use Rattle.mako_model.specs.declared.call.Call.{Call}
use Rattle.mako_model.specs.declared.call.Call.TheVariants as call
use Rattle.mako_model.specs.Heaps.{Heap, root_of}
use Rattle.mako_call.specs.declared.object.Access.{Access}
use Rattle.mako_call.specs.declared.object.Access.TheVariants.{Get as Gets, Put as Puts}
use Rattle.mako_call.specs.Agreeing.{AccessOf}
use Rattle.mako_state.specs.Says.{AccessSays}

-- the words of its record follow one another
pub index_after : (n : Numbers) (r o j : ℕ) → index n (region_word r (o + j)) ≡ index n (region_word r o) + j
index_after n r o j = let a = word_after n r (o + j) in let b = word_after n r o in omega arith

-- a root of the mutator names it
pub record Handy (h : Heap) (m : ℕ) (object : Name) : Type 0 where
  pub at : ℕ
  pub names : root_of h m at ≡ Some (Ref object)

pub handy : (h : Heap) (m : ℕ) (c : Call) (object : Name) (a : Access) → AccessOf c a → AccessSays h m c object a →
    Handy h m object
handy h m (call.Get to from field) object (Gets get) of says = record { at = from; names = says }
handy h m (call.Put to field from) object (Puts put) of says = record { at = to; names = says.0 }
handy h m c object a of says = absurd of

-- and its tablet has admitted the mutator
pub is_admitted : (n : Numbers) (m t : ℕ) → 1 ≤ admitted t (mutator_at m (at_tablet t)).standing
is_admitted n m t = let e : counted (t == t) 1 ≡ 1 = ap (λ b. counted b 1) (eq-eqb t t refl) in omega arith
