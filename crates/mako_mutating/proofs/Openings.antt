-- A mutator at the opening.
use Rattle.std.proofs.Common.{◌≡◌, ℕ, zero, suc, ◌-◌, ◌==◌, cond, false, List, [], length, get_or, replicate, slice_get}
use Rattle.std.proofs.Common.{Option, Some, None, sym, ap, subst, refl, ◌∙◌, arith, ne_eqb}
use Rattle.std.proofs.lemmas.Option.{same_Some, none-some}
use Rattle.mako_words.specs.Names.{name_word}
use Rattle.mako_words.specs.Values.{value_word}
use Rattle.mako_words.specs.declared.value.Value.{Value}
use Rattle.mako_words.specs.declared.value.Value.TheVariants.{Null, Ref}
use Rattle.mako_shape.specs.Places.{root, word_at}
use Rattle.mako_model.specs.declared.call.Call.{Call}
use Rattle.mako_model.specs.declared.call.Call.TheVariants as call
use Rattle.mako_model.specs.Heaps.{Heap, board_name, opening_roots}
use Rattle.mako_model.specs.Legal.{opening_of}
use Rattle.mako_model.proofs.Lists.{get_replicate}
use Rattle.mako_call.specs.declared.caller.Caller.{Caller}
use Rattle.mako_mutator.specs.declared.progress.Task.{Task}
use Rattle.mako_mutator.specs.Drivers as drivers
use Rattle.mako_mutator.specs.Drivers.{Driving, task_for}
use Rattle.mako_mutator.proofs.DriverGoing.{opening_known}
use Rattle.mako_state.specs.Carried.{task_carried, WordStands}
use Rattle.mako_state.specs.Says.{TaskSays}
use Rattle.mako_mutating.specs.Mutators.{MutatorKeeps, TaskKeeps}
use Rattle.mako_mutating.specs.Beside.{OpeningsKeep}

-- the roots of the opening
root_value : (mutators roots m q : ℕ) (v : Value)
    → slice_get (get_or (replicate mutators (opening_roots roots)) m []) q ≡ Some v
    → cond (q == 0) (name_word board_name) 0 ≡ value_word v
root_value zero roots m q v e = absurd (none-some v e)
root_value (suc k) roots zero zero v e = ap value_word (same_Some (Ref board_name) v e)
root_value (suc k) roots zero (suc q) v e =
    ap (λ b. cond b (name_word board_name) 0) (ne_eqb (suc q) 0 (λ d. omega arith))
    ∙ ap value_word (get_replicate (roots - 1) q Null v e)
root_value (suc k) roots (suc m) q v e = root_value k roots m q v e

-- a task at its start says nothing, keeps nothing, and has no root to store
module _ (k : Caller) (h : Heap) (words : List ℕ) (m : ℕ) (at : ℕ) where
  record Begins (t : Task) : Type 0 where
    pub says : TaskSays h m t
    pub counts : TaskKeeps k.shape h words m t
    pub bare : task_carried t ≡ None

  abbrev first_task : Option ℕ → Option Call → Task
  first_task asked o = task_for k o false (record { asked = asked; barrier_at = at })

  begins : (o : Option Call) → Begins (first_task None o)
  begins None = record { says = tt; counts = tt; bare = refl }
  begins (Some call.Collect) = record { says = tt; counts = tt; bare = refl }
  begins (Some c) = record { says = tt; counts = tt; bare = refl }

pub openings_keep : OpeningsKeep
openings_keep n w s opening m calls low program fits few =
    let k : Caller = record { shape = n; mutator = m } in
    let h = opening_of w in
    let first = begins k h s.words m 0 (slice_get calls 0) in
    subst (λ front. MutatorKeeps n w s.words front m (drivers.opening k calls)) (sym opening.names.front) (record {
      known = opening_known k calls (record { shape = opening.script.shape; mutator = low }) fits few;
      shape = refl;
      number = refl;
      in_range = low;
      program = program;
      replies = refl;
      says = first.says;
      counts = first.counts;
      roots = λ q v in_row is.
          subst (λ c. WordStands c q (word_at n s.words (root m q)) v) (sym first.bare)
          (opening.words (root m q) (low, in_row) ∙ root_value (length w.programs) w.roots m q v is);
    })
